use Rattle.std.proofs.Common.{◌∙◌, ap, sym}
use Rattle.afp_base.specs.Cached.{cached_answer}
use Rattle.afp_serial.specs.Answer.{request}
use Rattle.afp_serial.specs.World.{Session}
use Rattle.session_table.proofs.SessionLemmas.{listed, session_at_entry, there}
use Rattle.session_table.proofs.sessions.Sessions.kept.Goals as goal

pub returns-in-Some : goal.returns-in-Some
returns-in-Some c = λ s at.
    c.find.ensures ∙ ap (λ (t : Session). cached_answer t.cache (request c.args.id c.args.write c.args.offset c.args.payload.now))
    (sym (session_at_entry c.args.self.now.sessions c.self.inside.by_number.entries (listed c.args.self.now c.self.inside.by_number.entries c.self.inside.links c.self.inside.token_key c.self.view_is) c.args.s.0 s at c.in-Some.session.now c.in-Some.ensures.value))

pub returns-in-None : goal.returns-in-None
returns-in-None c = λ s at.
    absurd (there c.args.self.now.sessions c.self.inside.by_number.entries (listed c.args.self.now c.self.inside.by_number.entries c.self.inside.links c.self.inside.token_key c.self.view_is) c.args.s.0 s at (sym c.in-None.ensures.value))
