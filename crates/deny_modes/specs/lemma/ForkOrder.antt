-- The order in which forks are kept: by volume, node and kind, the data fork first (this profile).
use Rattle.std.specs.Ordering.{nat_cmp, bool_cmp, ordering_then}
use Rattle.std.specs.declared.cmp.Ordering.{Ordering}
use Rattle.afp_base.specs.DenyMode.{Fork}

abbrev pub fork_cmp : Fork → Fork → Ordering
fork_cmp a b = ordering_then (nat_cmp a.volume b.volume) (ordering_then (nat_cmp a.node b.node) (bool_cmp a.resource b.resource))
