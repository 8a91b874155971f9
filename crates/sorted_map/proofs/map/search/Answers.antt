use Rattle.std.proofs.Common.{◌∙◌, ◌-◌, sym, length, arith}
use Rattle.sorted_map.proofs.OfMap.Places.{behind_last}
use Rattle.sorted_map.proofs.map.search.Goals as goal

pub returns-in-Less-clause-absent : goal.returns-in-Less-clause-absent
returns-in-Less-clause-absent g c =
    behind_last g.met.K.Ord.total c.args.entries.now c.args.key (length c.args.entries.now - 1) c.index-entries-count.result c.requires (omega (arith, c.if-count-eq0.false)) (sym c.cmp.ensures ∙ c.in-Less.is)
