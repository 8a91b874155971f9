use Rattle.std.proofs.Common.{◌∙◌, ap, sym}
use Rattle.session_table.specs.Sessions.{Table, replaced, session_of, with_sessions}
use Rattle.session_table.proofs.SessionLemmas.{listed, session_at_entry, there}
use Rattle.session_table.proofs.TokenLemmas.{found-ended}
use Rattle.session_table.proofs.sessions.Sessions.rejoin.Goals as goal

pub returns-in_default : goal.returns-in_default
returns-in_default c = λ x o at old_at. absurd (there c.args.self.now.sessions c.self.inside.by_number.entries (listed c.args.self.now c.self.inside.by_number.entries c.self.inside.links c.self.inside.token_key c.self.view_is) c.args.s.0 x at (sym c.in_default.ensures.value))

pub returns : goal.returns
returns c = λ x o at old_at.
    let its = session_at_entry c.args.self.now.sessions c.self.inside.by_number.entries (listed c.args.self.now c.self.inside.by_number.entries c.self.inside.links c.self.inside.token_key c.self.view_is) c.args.s.0 x at c.in-Some.session.now c.in-Some.ensures.value in
    let still = ap (λ (t : Table). session_of t.sessions c.args.old.0) c.end.ensures ∙ found-ended c.args.self.now.sessions c.args.s.0 c.args.old.0 o c.requires old_at in
    c.set_place.ensures o still ∙ (λ i. with_sessions (c.end.ensures i) (replaced (c.end.ensures i).sessions (record o { place = (sym its i).place })))
