use Rattle.std.proofs.Common.{◌∙◌, sym, inl, inr, refl}
use Rattle.std.proofs.lemmas.Bool.{leb-true}
use Rattle.afp_names.proofs.PathLemmas.{element_name-utf8, element_name-long, is_element-utf8, is_element-long, is_element-faulty}
use Rattle.afp_names.proofs.path.read_element.Goals as goal

pub returns-in-Ok-clause-name : goal.returns-in-Ok-clause-name
returns-in-Ok-clause-name c =
    c.in-Ok.ensures.name ∙ sym (element_name-utf8 c.args.kind c.args.element.now c.if-kind-ne-LONG_NAMES.true)

pub returns-in-Ok-clause-good : goal.returns-in-Ok-clause-good
returns-in-Ok-clause-good c =
    is_element-utf8 c.args.kind c.args.element.now c.if-kind-ne-LONG_NAMES.true ∙ rw c.in-Ok.ensures.good refl

pub returns-in-Err-clause-fault : goal.returns-in-Err-clause-fault
returns-in-Err-clause-fault c =
    elim c.element_fault.ensures [
      | inl memory ↦ inl memory
      | inr element ↦ inr (element.0, is_element-faulty c.args.kind c.args.element.now c.in-Err.fault c.if-kind-ne-LONG_NAMES.true c.in-Err.ensures.memory element.1)
    ]

pub returns-then-not-fits_long_name-clause-fault : goal.returns-then-not-fits_long_name-clause-fault
returns-then-not-fits_long_name-clause-fault c =
    inr (refl, is_element-long c.args.kind c.args.element.now c.if-kind-ne-LONG_NAMES.false ∙ (sym c.fits_long_name.ensures ∙ c.if-not-fits_long_name.true))

pub returns-in-Ok-from_mac_roman-clause-name : goal.returns-in-Ok-from_mac_roman-clause-name
returns-in-Ok-from_mac_roman-clause-name c =
    c.in-Ok-from_mac_roman.ensures ∙ sym (element_name-long c.args.kind c.args.element.now c.if-kind-ne-LONG_NAMES.false)

pub returns-in-Ok-from_mac_roman-clause-good : goal.returns-in-Ok-from_mac_roman-clause-good
returns-in-Ok-from_mac_roman-clause-good c =
    is_element-long c.args.kind c.args.element.now c.if-kind-ne-LONG_NAMES.false ∙ (sym c.fits_long_name.ensures ∙ c.if-not-fits_long_name.false)

pub from_mac_roman-requires-clause-short : goal.from_mac_roman-requires-clause-short
from_mac_roman-requires-clause-short c = leb-true _ _ (sym c.fits_long_name.ensures ∙ c.if-not-fits_long_name.false)
