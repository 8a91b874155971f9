use Rattle.std.proofs.Common.{[], refl, inl}
use Rattle.capture_made.proofs.OfMade.MakingLemmas.{finished, prints-none}
use Rattle.capture_made.proofs.made.making.make_all.Goals as goal

pub make_steps-requires-clause-made : goal.make_steps-requires-clause-made
make_steps-requires-clause-made g c = c.in-Ok.ensures c.new-text.ensures c.args.number

pub finish-requires : goal.finish-requires
finish-requires g c = let r = c.in-Done.ensures.made.runs in (r.now, r.is)

pub returns-in-Done : goal.returns-in-Done
returns-in-Done g c = finished c.args.number c.args.steps _ _ _ _ _ c.finish.result c.in-Done.ensures c.finish.ensures

pub returns-in_default : goal.returns-in_default
returns-in_default g c = record { part = []; front = inl refl; writes = prints-none (g.O.Sink.sink_state c.args.out.now) }
