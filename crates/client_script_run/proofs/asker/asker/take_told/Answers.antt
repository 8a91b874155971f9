use Rattle.std.proofs.Common.{length, refl}
use Rattle.client_script_run.specs.asker.Read.{zipped}
use Rattle.client_script_run.specs.asker.Standing.{first_of}
use Rattle.client_script_run.proofs.OfAsker.StandingLemmas.{leaves-bad, stands-open, stays-open}
use Rattle.client_script_run.proofs.asker.asker.take_told.Goals as goal

pub returns-in-Ok-clause-stands : goal.returns-in-Ok-clause-stands
returns-in-Ok-clause-stands g c = λ tells.
    let talk = c.args.talk.now in
    let exchanges = zipped c.args.exchanges.now.calls.items c.args.exchanges.now.answers.items in
    let after = zipped c.and.result.calls.items c.and.result.answers.items in
    let first = first_of c.args.beginning.now.core.value c.args.beginning.now.turns in
    let limits = c.args.beginning.now.limits.items in
    let old = g.D.Dialer.dialer_state c.args.beginning.now.dialer.value in
    stands-open g.D.Link.Link.link_state first old limits talk.turns after c.args.unanswered.now.items c.args.ended.now talk.link talk.core talk.out (length talk.room.items) talk.noted talk.idle talk.cost c.args.told.at (g.D.Dialer.dialer_state talk.dialer) c.requires.none c.requires.answered
    (stays-open g.D.Link.Link.link_state first old limits talk.turns exchanges after c.args.call.now c.in-Ok.answer c.args.told talk.link talk.core talk.out (length talk.room.items) talk.noted talk.idle talk.cost (g.D.Dialer.dialer_state talk.dialer)
    tells c.in-Ok.ensures c.and.ensures)

pub returns-clause-stands : goal.returns-clause-stands
returns-clause-stands g c = λ tells.
    let talk = c.args.talk.now in
    let exchanges = zipped c.args.exchanges.now.calls.items c.args.exchanges.now.answers.items in
    let first = first_of c.args.beginning.now.core.value c.args.beginning.now.turns in
    let limits = c.args.beginning.now.limits.items in
    let old = g.D.Dialer.dialer_state c.args.beginning.now.dialer.value in
    leaves-bad g.D.Link.Link.link_state first old limits talk.turns exchanges exchanges c.args.call.now c.args.told c.in-Err.end talk.link talk.core talk.out (length talk.room.items) talk.noted talk.idle talk.cost (g.D.Dialer.dialer_state talk.dialer)
    (g.D.Dialer.dialer_state c.leave.new.self.dialer) tells c.in-Err.ensures refl c.leave.ensures.leaves c.args.unanswered.now.items c.note_unanswered.new.unanswered.items c.requires.answered c.note_unanswered.ensures c.leave.new.self.cost
