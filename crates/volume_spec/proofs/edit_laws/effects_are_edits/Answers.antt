use Rattle.volume_spec.proofs.EffectEdits.{effects-are, fork-effects-are, refusals-are}
use Rattle.volume_spec.proofs.edit_laws.effects_are_edits.Goals as goal

pub returns-clause-tree : goal.returns-clause-tree
returns-clause-tree c = effects-are

pub returns-clause-refusals : goal.returns-clause-refusals
returns-clause-refusals c = refusals-are

pub returns-clause-forks : goal.returns-clause-forks
returns-clause-forks c = fork-effects-are
