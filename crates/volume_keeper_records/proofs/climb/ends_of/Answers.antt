use Rattle.std.proofs.Common.{ℕ, List, sym, subst, All, length, ◌<◌}
use Rattle.volume_keeper_records.proofs.Climbing.{up_is_in, ends_at}
use Rattle.volume_keeper_records.proofs.climb.ends_of.Goals as goal

pub all_through-requires : goal.all_through-requires
all_through-requires c = subst (λ (u : List ℕ). All (λ x. x < length u) u) (sym c.in_ok-up.ensures) (up_is_in c.args.nodes.now c.args.ids.now c.requires.ids)

pub returns : goal.returns
returns c = ends_at c.args.nodes.now c.args.ids.now c.in_ok-up.up.items c.in_ok-ends.ends.items c.requires.ids c.requires.order c.in_ok-up.ensures c.in_ok-ends.ensures.length c.in_ok-ends.ensures.ends
