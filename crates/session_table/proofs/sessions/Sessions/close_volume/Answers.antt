use Rattle.std.proofs.Common.{◌∙◌, ◌==◌, ap, sym, not, filter, List, ℕ}
use Rattle.afp_serial.specs.World.{Session}
use Rattle.session_table.specs.contracts.sessions.Sessions.{the_view}
use Rattle.session_table.proofs.SessionLemmas.{becomes, listed, there}
use Rattle.session_table.specs.lemma.Kept.{seen}
use Rattle.session_table.proofs.sessions.Sessions.close_volume.Goals as goal
use Rattle.session_table.proofs.sessions.Sessions.close_volume.Goals.{in-Some, in_default}

pub returns : goal.returns
returns c = λ s at. elim c.match-get_mut.branch [
  | in-Some w ↦
      let x = w.in-Some.session.now in
      let kept = w.close.new.self in
      ap the_view w.self-inside-is
      ∙ becomes c.args.self.now c.self.inside.by_number.entries c.self.inside.links c.self.inside.token_key c.self.view_is _ c.args.s.0 (λ (y : Session). record y { volumes = filter (λ o. not (o == c.args.v.0)) y.volumes })
      w.in-Some.ensures.unique x (record x { volumes = kept }) w.in-Some.ensures.value (c.get_mut.follows.holds (record x { volumes = kept })).0 (ap (λ (v : List ℕ). seen c.args.s.0 (record x { volumes = v })) (sym w.close.ensures)) s at
  | in_default w ↦ absurd (there c.args.self.now.sessions c.self.inside.by_number.entries (listed c.args.self.now c.self.inside.by_number.entries c.self.inside.links c.self.inside.token_key c.self.view_is) c.args.s.0 s at (sym w.in_default.ensures.value))
]
