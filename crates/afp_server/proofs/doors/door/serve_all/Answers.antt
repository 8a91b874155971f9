use Rattle.std.proofs.Common.{◌∙◌, refl}
use Rattle.afp_server.proofs.OfDoors.Serving.{so_far-none, so_far-more, ends-by}
use Rattle.afp_server.proofs.doors.door.serve_all.Goals as goal

pub loop-init : goal.loop-init
loop-init g c = record { fixed = refl; so_far = so_far-none _ _ _ _ _ _ c.requires.open }

pub loop-preserved : goal.loop-preserved
loop-preserved g c = record {
  fixed = c.serve_next.ensures.fixed ∙ c.loop.invariant.fixed;
  so_far = so_far-more _ _ _ _ _ _ _ _ _ _ c.loop.invariant.so_far c.in-None-serve_next.ensures.serves;
}

pub returns-in-Some-serve_next-clause-fixed : goal.returns-in-Some-serve_next-clause-fixed
returns-in-Some-serve_next-clause-fixed g c = c.leave.ensures.fixed ∙ c.serve_next.ensures.fixed ∙ c.loop.invariant.fixed

pub returns-in-Some-serve_next-clause-serves : goal.returns-in-Some-serve_next-clause-serves
returns-in-Some-serve_next-clause-serves g c = ends-by _ _ _ _ _ _ _ _ _ _ _ c.in-Some-serve_next.end c.loop.invariant.so_far c.in-Some-serve_next.ensures.serves c.leave.ensures.leaves
