use Rattle.std.proofs.Common.{refl, sym, subst}
use Rattle.afp_outside.specs.ends.Link.{LinkState}
use Rattle.afp_outside.specs.ends.Whole.{Sends}
use Rattle.afp_outside.proofs.OfEnds.Whole.{sends-more, sends-failed, some_left}
use Rattle.afp_server.proofs.connection.sending.send_some.Goals as goal

pub loop-left-preserved : goal.loop-left-preserved
loop-left-preserved g c =
    let so_far = c.loop-left.invariant in
    sends-more _ _ _ _ _ _ _ so_far.1 so_far.2 c.in-Took.ensures

pub returns-in-Failed : goal.returns-in-Failed
returns-in-Failed g c =
    let so_far = c.loop-left.invariant in
    record {
      part = so_far.0;
      lost = c.loop-left.left.now;
      some_lost = some_left c.loop-left.left.now c.loop-left-test.ensures;
      cut = sym so_far.1;
      sends = sends-failed _ _ _ so_far.0 so_far.2 c.in-Failed.ensures;
    }

pub returns-in-NotYet : goal.returns-in-NotYet
returns-in-NotYet g c =
    let so_far = c.loop-left.invariant in (
      c.loop-left.left.now,
      refl,
      record {
        part = so_far.0;
        whole = so_far.1;
        some = some_left c.loop-left.left.now c.loop-left-test.ensures;
        sends = subst (λ (l : LinkState). Sends (g.L.ReadyLink.link_state c.args.link.now) so_far.0 0 l) (sym c.in-NotYet.ensures) so_far.2;
      },
    )
