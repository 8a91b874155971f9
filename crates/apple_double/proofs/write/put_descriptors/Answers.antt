use Rattle.std.proofs.Common.{refl, sym, ap, length, ℕ, List, ◌+◌, ◌≡◌, ◌++◌, arith}
use Rattle.apple_double.specs.Contents.{name_id, comment_id, dates_id, finder_id, resource_id}
use Rattle.apple_double.specs.Written.{Entry, contents, data_entry, dates_bytes, entry, entry_if}
use Rattle.apple_double.proofs.Pieces.{AreDescribed, described-one, described-more, dates-length, one-size, sizes}
use Rattle.apple_double.proofs.write.put_descriptors.Goals as goal

pub put_descriptor-requires-2 : goal.put_descriptor-requires-2
put_descriptor-requires-2 c =
    let s = sizes (entry_if name_id c.args.p.now.name) (entry dates_id (dates_bytes c.args.p.now)) (entry finder_id c.args.p.now.finder)
    (entry_if comment_id c.args.p.now.comment) (entry resource_id c.args.p.now.resource_fork) (data_entry c.args.shape c.args.p.now.data_fork) in
    let d = one-size dates_id (dates_bytes c.args.p.now) in
    let f = one-size finder_id c.args.p.now.finder in
    let l = dates-length c.args.p.now in
    omega (arith, s, d, f, l, c.finder_is_whole.ensures, c.requires, c.in_ok-dates.ensures.next, c.in_ok-finder.ensures.next)

pub put_comment_descriptor-requires : goal.put_comment_descriptor-requires
put_comment_descriptor-requires c =
    let s = sizes (entry_if name_id c.args.p.now.name) (entry dates_id (dates_bytes c.args.p.now)) (entry finder_id c.args.p.now.finder)
    (entry_if comment_id c.args.p.now.comment) (entry resource_id c.args.p.now.resource_fork) (data_entry c.args.shape c.args.p.now.data_fork) in
    let d = one-size dates_id (dates_bytes c.args.p.now) in
    let f = one-size finder_id c.args.p.now.finder in
    let l = dates-length c.args.p.now in
    omega (arith, s, d, f, l, c.finder_is_whole.ensures, c.requires, c.in_ok-dates.ensures.next, c.in_ok-finder.ensures.next, c.in_ok-comment.ensures.next)

pub put_descriptor-requires-3 : goal.put_descriptor-requires-3
put_descriptor-requires-3 c =
    let s = sizes (entry_if name_id c.args.p.now.name) (entry dates_id (dates_bytes c.args.p.now)) (entry finder_id c.args.p.now.finder)
    (entry_if comment_id c.args.p.now.comment) (entry resource_id c.args.p.now.resource_fork) (data_entry c.args.shape c.args.p.now.data_fork) in
    let d = one-size dates_id (dates_bytes c.args.p.now) in
    let f = one-size finder_id c.args.p.now.finder in
    let l = dates-length c.args.p.now in
    let r = one-size resource_id c.args.p.now.resource_fork in
    let slice : length c.as_slice.result.now ≡ length c.args.p.now.resource_fork = ap (length {A = ℕ}) c.as_slice.ensures in
    omega (arith, s, d, f, l, r, slice, c.finder_is_whole.ensures, c.requires, c.in_ok-dates.ensures.next, c.in_ok-finder.ensures.next, c.in_ok-comment.ensures.next, c.in_ok-resource.ensures.next)

pub put_data_descriptor-requires : goal.put_data_descriptor-requires
put_data_descriptor-requires c =
    let s = sizes (entry_if name_id c.args.p.now.name) (entry dates_id (dates_bytes c.args.p.now)) (entry finder_id c.args.p.now.finder)
    (entry_if comment_id c.args.p.now.comment) (entry resource_id c.args.p.now.resource_fork) (data_entry c.args.shape c.args.p.now.data_fork) in
    let d = one-size dates_id (dates_bytes c.args.p.now) in
    let f = one-size finder_id c.args.p.now.finder in
    let l = dates-length c.args.p.now in
    let r = one-size resource_id c.args.p.now.resource_fork in
    let slice : length c.as_slice.result.now ≡ length c.args.p.now.resource_fork = ap (length {A = ℕ}) c.as_slice.ensures in
    omega (arith, s, d, f, l, r, slice, c.finder_is_whole.ensures, c.requires, c.in_ok-dates.ensures.next, c.in_ok-finder.ensures.next, c.in_ok-comment.ensures.next, c.in_ok-resource.ensures.next, c.in_ok-data.ensures.next)

pub returns-clause-ok : goal.returns-clause-ok
returns-clause-ok c =
    let o : List ℕ = c.args.out.now in
    let at : ℕ = c.args.offset in
    let p = c.args.p.now in
    let x1 : List Entry = entry_if name_id p.name in
    let x2 : List Entry = x1 ++ entry dates_id (dates_bytes p) in
    let x3 : List Entry = x2 ++ entry finder_id p.finder in
    let x4 : List Entry = x3 ++ entry_if comment_id p.comment in
    let x5 : List Entry = x4 ++ entry resource_id p.resource_fork in
    let x6 : List Entry = data_entry c.args.shape p.data_fork in
    let s1 : List ℕ = c.put_name_descriptor.new.out in
    let s2 : List ℕ = c.put_descriptor.new.out in
    let s3 : List ℕ = c.put_descriptor-2.new.out in
    let s4 : List ℕ = c.put_comment_descriptor.new.out in
    let s5 : List ℕ = c.put_descriptor-3.new.out in
    let d1 : AreDescribed o at x1 s1 c.in_ok-dates.dates = record { bytes = c.in_ok-dates.ensures.ok; offset_is = c.in_ok-dates.ensures.next } in
    let d2 = described-one o s1 s2 at c.in_ok-dates.dates c.in_ok-finder.finder dates_id 16 x1 (dates_bytes p) d1 (sym (dates-length p)) c.in_ok-finder.ensures.ok c.in_ok-finder.ensures.next in
    let d3 = described-one o s2 s3 at c.in_ok-finder.finder c.in_ok-comment.comment finder_id 32 x2 p.finder d2 (sym c.finder_is_whole.ensures) c.in_ok-comment.ensures.ok c.in_ok-comment.ensures.next in
    let d4 = described-more o s3 s4 at c.in_ok-comment.comment c.in_ok-resource.resource x3 (entry_if comment_id p.comment) d3 c.in_ok-resource.ensures.ok c.in_ok-resource.ensures.next in
    let d5 = described-one o s4 s5 at c.in_ok-resource.resource c.in_ok-data.data resource_id (length c.as_slice.result.now) x4 p.resource_fork d4 (ap (length {A = ℕ}) c.as_slice.ensures) c.in_ok-data.ensures.ok c.in_ok-data.ensures.next in
    let d6 = described-more o s5 c.put_data_descriptor.new.out at c.in_ok-data.data (c.in_ok-data.data + length (contents x6)) x5 x6 d5 c.in_ok-put_data_descriptor.ensures.ok refl in
    d6.bytes
