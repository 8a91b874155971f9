use Rattle.std.proofs.Common.{◌∙◌, ap, sym, nat_eq}
use Rattle.std.specs.Map.{lookup}
use Rattle.session_table.proofs.SessionLemmas.{ends}
use Rattle.session_table.proofs.sessions.Sessions.end.Goals as goal

pub returns : goal.returns
returns c =
    ends c.args.self.now c.self.inside.by_number.entries c.self.inside.links c.self.inside.token_key c.self.view_is c.shift_remove.new.self.entries c.args.s.0 c.shift_remove.ensures.entries
    (ap (lookup (nat_eq c.args.s.0)) (sym c.shift_remove.ensures.entries) ∙ c.shift_remove.ensures.updates.1)
