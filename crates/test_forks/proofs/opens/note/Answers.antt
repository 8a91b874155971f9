use Rattle.std.proofs.Common.{◌∙◌, ap}
use Rattle.deny_modes.specs.Opens.{has_reference}
use Rattle.test_forks.proofs.Fresh.{forgotten}
use Rattle.test_forks.proofs.opens.note.Goals as goal

pub note-requires-clause-fresh : goal.note-requires-clause-fresh
note-requires-clause-fresh c = ap (λ l. has_reference l c.reference-r.result.0) c.forget.ensures ∙ forgotten c.reference-r.result.0 c.args.opens.now
