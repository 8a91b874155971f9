use Rattle.std.proofs.Common.{◌∙◌, ap, sym}
use Rattle.afp_serial.specs.World.{is_on_link}
use Rattle.session_table.specs.Sessions.{Table}
use Rattle.session_table.proofs.SessionLemmas.{find-unplaced, is_at, listed}
use Rattle.std.specs.Prelude.{find}
use Rattle.session_table.proofs.sessions.Sessions.by_link.Goals as goal

pub returns-in_default : goal.returns-in_default
returns-in_default c = ap (λ (t : Table). find (λ s. is_on_link c.args.l.0 s.place) t.sessions) (sym c.self.view_is) ∙ find-unplaced (is_on_link c.args.l.0) c.self.inside.by_number.entries (sym c.in_default.ensures)

pub returns-in-Some-get_index : goal.returns-in-Some-get_index
returns-in-Some-get_index c =
    is_at c.args.self.now.sessions c.self.inside.by_number.entries (listed c.args.self.now c.self.inside.by_number.entries c.self.inside.links c.self.inside.token_key c.self.view_is) c.args.l.0 c.in-Some.index
    c.in-Some-get_index.number.now c.in-Some-get_index.field-0-1.now (sym c.in-Some.ensures) c.in-Some-get_index.ensures.entry c.in-Some-get_index.ensures.value
