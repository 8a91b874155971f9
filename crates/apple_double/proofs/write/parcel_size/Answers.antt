use Rattle.std.proofs.Common.{ap, length, ℕ, ◌≡◌, arith}
use Rattle.apple_double.specs.Contents.{name_id, comment_id, dates_id, finder_id, resource_id}
use Rattle.apple_double.specs.Written.{data_entry, dates_bytes, entries, entry, entry_if}
use Rattle.apple_double.proofs.Pieces.{dates-length, file-length, one-size, sizes}
use Rattle.apple_double.proofs.write.parcel_size.Goals as goal

pub returns : goal.returns
returns c =
    let p = c.args.p.now in
    let whole = file-length c.args.shape (entries c.args.shape p) in
    let s = sizes (entry_if name_id p.name) (entry dates_id (dates_bytes p)) (entry finder_id p.finder) (entry_if comment_id p.comment) (entry resource_id p.resource_fork) (data_entry c.args.shape p.data_fork) in
    let d = one-size dates_id (dates_bytes p) in
    let f = one-size finder_id p.finder in
    let l = dates-length p in
    let r = one-size resource_id p.resource_fork in
    let slice : length c.as_slice.result.now ≡ length p.resource_fork = ap (length {A = ℕ}) c.as_slice.ensures in
    omega (arith, whole, s, d, f, l, r, slice, c.finder_is_whole.ensures, c.count_of.ensures.value, c.name_size.ensures, c.comment_size.ensures, c.data_size.ensures)
