use Rattle.std.proofs.Common.{◌-◌, ◌∙◌, length, take, refl}
use Rattle.afp_names.proofs.LongNameLemmas.{length-extension_of, shortened-parts}
use Rattle.afp_names.proofs.long_names.put_shortened.Goals as goal

pub slice_bounds-stem-count : goal.slice_bounds-stem-count
slice_bounds-stem-count c = rw c.extension.ensures (length-extension_of c.args.text.now).1

pub returns : goal.returns
returns c =
    let text = c.args.text.now in
    shortened-parts text c.args.id.0 c.min.result c.extension.result.now c.as_slice.result.now (take (length text - length c.extension.result.now) text) c.args.long.now c.put.new.long c.extend.new.self c.extension.ensures (c.as_slice.ensures ∙ c.in_ok-ending.ensures.bytes) refl c.min.ensures c.in_ok-put.ensures.ok (rw (c.as_slice-2.ensures, ← c.as_slice.ensures) at c.in_ok-extend.ensures.ok)
