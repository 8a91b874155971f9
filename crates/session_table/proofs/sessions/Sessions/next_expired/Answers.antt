use Rattle.std.proofs.Common.{◌∙◌, ap, sym}
use Rattle.afp_serial.specs.World.{is_expired}
use Rattle.session_table.specs.Sessions.{Table}
use Rattle.session_table.proofs.SessionLemmas.{find-unplaced, is_gone, listed}
use Rattle.std.specs.Prelude.{find}
use Rattle.session_table.proofs.sessions.Sessions.next_expired.Goals as goal

pub returns-in_default : goal.returns-in_default
returns-in_default c = ap (λ (t : Table). find (λ s. is_expired c.args.now s.place) t.sessions) (sym c.self.view_is) ∙ find-unplaced (is_expired c.args.now) c.self.inside.by_number.entries (sym c.in_default.ensures)

pub returns-in-Some-get_index : goal.returns-in-Some-get_index
returns-in-Some-get_index c =
    is_gone c.args.self.now.sessions c.self.inside.by_number.entries (listed c.args.self.now c.self.inside.by_number.entries c.self.inside.links c.self.inside.token_key c.self.view_is) c.args.now c.in-Some.index
    c.in-Some-get_index.number.now c.in-Some-get_index.field-0-1.now (sym c.in-Some.ensures) c.in-Some-get_index.ensures.entry
