use Rattle.afp_base.specs.declared.code.Code.TheVariants.{ObjectNotFound}
use Rattle.volume_spec.proofs.Places.{changed-is-set, without-is-remove}
use Rattle.volume_spec.proofs.SeenRows.{changes-seen, changes-let-be, gone-unseen, gone-lets-be}
use Rattle.volume_spec.proofs.SoundPut.{sound-put, sound-exchanged}
use Rattle.volume_spec.proofs.Trees.{tree-parts}
use Rattle.volume_spec.proofs.Walks.{walk-there}
use Rattle.volume_spec.proofs.laws.rows_are_changed_in_place.Goals as goal

pub returns-clause-walks : goal.returns-clause-walks
returns-clause-walks c = λ v user dir id path s is. walk-there v user path.kind ObjectNotFound dir path.steps id (tree-parts v s.tree) is

pub returns-clause-put : goal.returns-clause-put
returns-clause-put c = sound-put

pub returns-clause-changed : goal.returns-clause-changed
returns-clause-changed c = changed-is-set

pub returns-clause-removed : goal.returns-clause-removed
returns-clause-removed c = without-is-remove

pub returns-clause-exchanged : goal.returns-clause-exchanged
returns-clause-exchanged c = sound-exchanged

pub returns-clause-seen : goal.returns-clause-seen
returns-clause-seen c = changes-seen

pub returns-clause-let_be : goal.returns-clause-let_be
returns-clause-let_be c = changes-let-be

pub returns-clause-unseen : goal.returns-clause-unseen
returns-clause-unseen c = gone-unseen

pub returns-clause-lets_be : goal.returns-clause-lets_be
returns-clause-lets_be c = gone-lets-be
