use Rattle.std.proofs.Common.{true, sym, ◌∙◌}
use Rattle.volume_keeper_records.proofs.Climbing.{there_told}
use Rattle.volume_keeper_records.proofs.tree.is_there.Goals as goal

pub returns-in-Some : goal.returns-in-Some
returns-in-Some c = sym (there_told c.args.tree.now.places.items c.args.id ∙ c.in-Some.ensures (λ place. true))

pub returns-in-None : goal.returns-in-None
returns-in-None c = sym (there_told c.args.tree.now.places.items c.args.id ∙ c.in-None.ensures (λ place. true))
