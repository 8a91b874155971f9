use Rattle.std.proofs.Common.{refl, ◌∙◌}
use Rattle.afp_server_table.proofs.turns.serve_each.Goals as goal

pub loop-key-init : goal.loop-key-init
loop-key-init g c = record { fixed = refl; room = refl; keeps = λ house old first end is s. s }

pub loop-key-preserved : goal.loop-key-preserved
loop-key-preserved g c = record {
  fixed = c.serve_one.ensures.fixed ∙ c.loop-key.invariant.fixed;
  room = c.serve_one.ensures.room ∙ c.loop-key.invariant.room;
  keeps = λ house old first end is s. c.serve_one.ensures.keeps house old first end (c.loop-key.invariant.room ∙ is) (c.loop-key.invariant.keeps house old first end is s);
}

pub returns-clause-fixed : goal.returns-clause-fixed
returns-clause-fixed g c = c.loop-key.invariant.fixed

pub returns-clause-room : goal.returns-clause-room
returns-clause-room g c = c.loop-key.invariant.room

pub returns-clause-keeps : goal.returns-clause-keeps
returns-clause-keeps g c = c.loop-key.invariant.keeps
