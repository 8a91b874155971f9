use Rattle.std.proofs.Common.{inl, refl, sym}
use Rattle.afp_client.proofs.session.client.take_next.Goals as goal

pub returns-in-Bad-clause-happens : goal.returns-in-Bad-clause-happens
returns-in-Bad-clause-happens c =
    let bad = c.in-Bad.ensures.head in
    record { live = sym c.if-is_lost.ensures; place = bad.0; bad = inl (c.in-Bad.bad.reason, bad.1); stays = record { client = refl; nothing_written = refl } }
