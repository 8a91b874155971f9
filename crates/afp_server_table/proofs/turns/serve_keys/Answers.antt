use Rattle.std.proofs.Common.{refl, ◌∙◌}
use Rattle.afp_server_table.proofs.turns.serve_keys.Goals as goal

pub loop-i-init : goal.loop-i-init
loop-i-init g c = record { fixed = refl; room = refl; keeps = λ house old first end is s. s }

pub loop-i-preserved : goal.loop-i-preserved
loop-i-preserved g c = record {
  fixed = c.serve_one.ensures.fixed ∙ c.loop-i.invariant.fixed;
  room = c.serve_one.ensures.room ∙ c.loop-i.invariant.room;
  keeps = λ house old first end is s. c.serve_one.ensures.keeps house old first end (c.loop-i.invariant.room ∙ is) (c.loop-i.invariant.keeps house old first end is s);
}

pub returns-clause-fixed : goal.returns-clause-fixed
returns-clause-fixed g c = c.loop-i.invariant.fixed

pub returns-clause-room : goal.returns-clause-room
returns-clause-room g c = c.loop-i.invariant.room

pub returns-clause-keeps : goal.returns-clause-keeps
returns-clause-keeps g c = c.loop-i.invariant.keeps
