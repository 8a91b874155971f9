use Rattle.std.proofs.Common.{sym, ◌∙◌}
use Rattle.std.proofs.lemmas.Bool.{ltb-true, ltb-false}
use Rattle.std.proofs.lemmas.Str.{is_utf8-from_IsUtf8}
use Rattle.afp_names.proofs.NameLemmas.{name_fault-empty, name_fault-long, name_fault-zero, name_fault-text, name_fault-none, is_utf8-not}
use Rattle.afp_names.proofs.name.text_of.Goals as goal

pub returns-then-is_empty-clause-fault : goal.returns-then-is_empty-clause-fault
returns-then-is_empty-clause-fault c = name_fault-empty _ (sym c.is_empty.ensures ∙ c.if-is_empty.true)

pub returns-then-is_too_long-clause-fault :
    goal.returns-then-is_too_long-clause-fault
returns-then-is_too_long-clause-fault c =
    name_fault-long _ (sym c.is_empty.ensures ∙ c.if-is_empty.false) (ltb-true _ _ (sym c.is_too_long.ensures ∙ c.if-is_too_long.true))

pub returns-then-has_zero-clause-fault : goal.returns-then-has_zero-clause-fault
returns-then-has_zero-clause-fault c =
    name_fault-zero _ (sym c.is_empty.ensures ∙ c.if-is_empty.false) (ltb-false _ _ (sym c.is_too_long.ensures ∙ c.if-is_too_long.false)) (sym c.has_zero.ensures ∙ c.if-has_zero.true)

pub returns-in-Ok-clause-good : goal.returns-in-Ok-clause-good
returns-in-Ok-clause-good c =
    name_fault-none _ (sym c.is_empty.ensures ∙ c.if-is_empty.false) (ltb-false _ _ (sym c.is_too_long.ensures ∙ c.if-is_too_long.false)) (sym c.has_zero.ensures ∙ c.if-has_zero.false) (is_utf8-from_IsUtf8 _ c.in-Ok.ensures.cases.1)

pub returns-in-Err-clause-fault : goal.returns-in-Err-clause-fault
returns-in-Err-clause-fault c =
    name_fault-text _ (sym c.is_empty.ensures ∙ c.if-is_empty.false) (ltb-false _ _ (sym c.is_too_long.ensures ∙ c.if-is_too_long.false)) (sym c.has_zero.ensures ∙ c.if-has_zero.false) (is_utf8-not _ c.in-Err.ensures.cases.0)
