use Rattle.std.proofs.Common.{◌∙◌, ap, sym, refl, subst, length}
use Rattle.afp_serial.specs.World.{session_at}
use Rattle.afp_core_state.specs.KeptWorld.{KeptWorld}
use Rattle.session_table.specs.Sessions.{IsAt}
use Rattle.afp_core_dispatch.proofs.AskLemmas.{call-displaced}
use Rattle.afp_core_dispatch.proofs.KeepingLemmas.{call-again, call-fresh, kept-room, none-again, verdict-fits}
use Rattle.afp_core_dispatch.specs.Asks.{told_in}
use Rattle.afp_core_dispatch.specs.lemma.Requests.{as_request}
use Rattle.afp_core_dispatch.proofs.call.call.Goals as goal

pub returns-in_default-clause-runs : goal.returns-in_default-clause-runs
returns-in_default-clause-runs g c = call-displaced c.args.state.now c.args.link.0 _ (ap (λ (k : KeptWorld). session_at k.world c.args.link.0) (sym c.state.view_is) ∙ c.in_default.ensures)

pub put_again-requires-clause-there : goal.put_again-requires-clause-there
put_again-requires-clause-there g c =
    let at = subst (λ (k : KeptWorld). IsAt k.world.sessions c.args.link.0 c.in-Some.session.0) c.state.view_is c.in-Some.ensures in
    record { session = at.session; numbered = at.numbered }

pub put_again-requires-clause-room : goal.put_again-requires-clause-room
put_again-requires-clause-room g c =
    let at = subst (λ (k : KeptWorld). IsAt k.world.sessions c.args.link.0 c.in-Some.session.0) c.state.view_is c.in-Some.ensures in
    kept-room c.args.state.now c.args.link.0 c.in-Some.session.0 (as_request c.args.request) at c.requires.fits (length c.args.out.now) c.requires.room

pub returns-in-Some-put_again-clause-runs : goal.returns-in-Some-put_again-clause-runs
returns-in-Some-put_again-clause-runs g c =
    call-again c.args.state.now _ c.args.link.0 c.in-Some.session.0 (as_request c.args.request) _
    (subst (λ (k : KeptWorld). IsAt k.world.sessions c.args.link.0 c.in-Some.session.0) c.state.view_is c.in-Some.ensures)
    c.in-Some-put_again.ensures.told refl

pub answer-requires-clause-there : goal.answer-requires-clause-there
answer-requires-clause-there g c =
    let at = subst (λ (k : KeptWorld). IsAt k.world.sessions c.args.link.0 c.in-Some.session.0) c.state.view_is c.in-Some.ensures in
    record { session = at.session; numbered = at.numbered }

pub answer-requires-clause-fresh : goal.answer-requires-clause-fresh
answer-requires-clause-fresh g c = none-again c.args.state.now c.in-Some.session.0 (as_request c.args.request) c.in-None.ensures.told

pub answer-requires-clause-fits : goal.answer-requires-clause-fits
answer-requires-clause-fits g c =
    verdict-fits c.args.state.now c.args.link.0 c.in-Some.session.0 (as_request c.args.request)
    (subst (λ (k : KeptWorld). IsAt k.world.sessions c.args.link.0 c.in-Some.session.0) c.state.view_is c.in-Some.ensures) c.requires.fits
    (none-again c.args.state.now c.in-Some.session.0 (as_request c.args.request) c.in-None.ensures.told)

pub returns-in-None-clause-runs : goal.returns-in-None-clause-runs
returns-in-None-clause-runs g c =
    call-fresh c.args.state.now c.answer.new.state c.args.link.0 c.in-Some.session.0 (as_request c.args.request) (told_in c.answer.result c.answer.new.out)
    (subst (λ (k : KeptWorld). IsAt k.world.sessions c.args.link.0 c.in-Some.session.0) c.state.view_is c.in-Some.ensures)
    (none-again c.args.state.now c.in-Some.session.0 (as_request c.args.request) c.in-None.ensures.told)
    c.answer.ensures.runs
