use Rattle.std.proofs.Common.{ap, length, ℕ, List, ◌∙◌, ◌++◌, arith}
use Rattle.apple_double.specs.Written.{contents, contents_place, described, entries, file_of, header}
use Rattle.apple_double.proofs.Pieces.{behind, file-length}
use Rattle.apple_double.proofs.write.put_parcel.Goals as goal

pub put_descriptors-requires : goal.put_descriptors-requires
put_descriptors-requires c =
    let whole = file-length c.args.shape (entries c.args.shape c.args.p.now) in
    omega (arith, whole, c.requires, c.count_of-count.ensures.value)

pub returns-clause-ok : goal.returns-clause-ok
unfolding file_of
returns-clause-ok c =
    let es = entries c.args.shape c.args.p.now in
    let n = c.count_of-count.ensures.value in
    let h = c.in_ok-put_header.ensures.ok ∙ ap (λ (k : ℕ). c.args.out.now ++ header c.args.shape k) n in
    let d = c.in_ok-put_descriptors.ensures.ok ∙ ap (λ (k : ℕ). c.put_header.new.out ++ described (contents_place k) es) n in
    let he : List ℕ = header c.args.shape (length es) in
    let de : List ℕ = described (contents_place (length es)) es in
    let both = behind c.args.out.now c.put_header.new.out c.put_descriptors.new.out he de h d in
    behind c.args.out.now c.put_descriptors.new.out c.put_contents.new.out (he ++ de) (contents es) both c.in_ok-put_contents.ensures.ok
