use Rattle.std.proofs.Common.{length}
use Rattle.client_script_run.specs.asker.Read.{zipped}
use Rattle.client_script_run.specs.asker.Standing.{first_of}
use Rattle.client_script_run.proofs.OfAsker.StandingLemmas.{links-end}
use Rattle.client_script_run.proofs.asker.asker.ask_open.Goals as goal

pub returns-in-Err-clause-stands : goal.returns-in-Err-clause-stands
returns-in-Err-clause-stands g c =
    let was = c.args.talk.now in
    let now = c.ask.new.self in
    let state = g.D.Link.Link.link_state in
    let exchanges = zipped c.args.exchanges.now.calls.items c.args.exchanges.now.answers.items in
    let first = first_of c.args.beginning.now.core.value c.args.beginning.now.turns in
    let limits = c.args.beginning.now.limits.items in
    let old = g.D.Dialer.dialer_state c.args.beginning.now.dialer.value in
    links-end state first old limits was.turns exchanges was.link now.link was.core now.core was.out (length was.room.items) was.noted now.noted was.idle now.idle was.cost now.cost c.args.place.now
    (g.D.Dialer.dialer_state was.dialer) (g.D.Dialer.dialer_state now.dialer) c.args.call.now c.in-Err.end c.requires.open c.in-Err.ensures.answers c.args.unanswered.now.items c.note_unanswered-in-Err.new.unanswered.items c.requires.answered c.note_unanswered-in-Err.ensures
