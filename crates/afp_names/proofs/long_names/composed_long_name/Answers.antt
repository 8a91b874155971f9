use Rattle.std.proofs.Common.{◌≡◌, ◌∙◌, refl, arith}
use Rattle.afp_names.specs.LongName.{long_name_of}
use Rattle.afp_names.proofs.LongNameLemmas.{length-long_name_of}
use Rattle.afp_names.proofs.long_names.composed_long_name.Goals as goal

pub returns-clause-name : goal.returns-clause-name
unfolding long_name_of
returns-clause-name c =
    c.in_ok-put_long_name.ensures ∙ rw (c.new-long.ensures, c.deref.ensures.value, c.in_ok-text.ensures) refl

pub returns-clause-short : goal.returns-clause-short
unfolding long_name_of
returns-clause-short c =
    let whole : c.put_long_name.new.long ≡ long_name_of c.args.name.now c.args.id.0 = c.in_ok-put_long_name.ensures ∙ rw (c.new-long.ensures, c.deref.ensures.value, c.in_ok-text.ensures) refl in
    rw whole (length-long_name_of c.args.name.now c.args.id.0 (omega arith))
