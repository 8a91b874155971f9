use Rattle.std.proofs.Common.{◌∙◌, ◌==◌, ap, sym, not, length}
use Rattle.afp_serial.specs.World.{Session}
use Rattle.session_table.proofs.SessionLemmas.{listed, session_at_entry, there}
use Rattle.session_table.proofs.sessions.Sessions.has_volumes.Goals as goal

pub returns-in-Some : goal.returns-in-Some
returns-in-Some c = λ s at.
    ap not c.is_empty.ensures ∙ ap (λ (t : Session). not (length t.volumes == 0))
    (sym (session_at_entry c.args.self.now.sessions c.self.inside.by_number.entries (listed c.args.self.now c.self.inside.by_number.entries c.self.inside.links c.self.inside.token_key c.self.view_is) c.args.s.0 s at c.in-Some.session.now c.in-Some.ensures.value))

pub returns-in-None : goal.returns-in-None
returns-in-None c = λ s at.
    absurd (there c.args.self.now.sessions c.self.inside.by_number.entries (listed c.args.self.now c.self.inside.by_number.entries c.self.inside.links c.self.inside.token_key c.self.view_is) c.args.s.0 s at (sym c.in-None.ensures.value))
