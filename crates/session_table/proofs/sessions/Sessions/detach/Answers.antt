use Rattle.std.proofs.Common.{◌∙◌, ap, sym, refl}
use Rattle.afp_serial.specs.World.{Session}
use Rattle.afp_serial.specs.declared.attachment.Attachment.TheVariants.{Detached}
use Rattle.session_table.specs.contracts.sessions.Sessions.{the_view}
use Rattle.session_table.proofs.SessionLemmas.{becomes, listed, there}
use Rattle.session_table.proofs.sessions.Sessions.detach.Goals as goal
use Rattle.session_table.proofs.sessions.Sessions.detach.Goals.{in-Some, in_default}

pub returns : goal.returns
returns c = λ s at. elim c.match-get_mut.branch [
  | in-Some w ↦
      let x = w.in-Some.session.now in
      ap the_view w.self-inside-is
      ∙ becomes c.args.self.now c.self.inside.by_number.entries c.self.inside.links c.self.inside.token_key c.self.view_is _ c.args.s.0 (λ (y : Session). record y { place = Detached c.args.now })
      w.in-Some.ensures.unique x (record x { place = Detached c.args.now }) w.in-Some.ensures.value (c.get_mut.follows.holds (record x { place = Detached c.args.now })).0 (refl) s at
  | in_default w ↦ absurd (there c.args.self.now.sessions c.self.inside.by_number.entries (listed c.args.self.now c.self.inside.by_number.entries c.self.inside.links c.self.inside.token_key c.self.view_is) c.args.s.0 s at (sym w.in_default.ensures.value))
]
