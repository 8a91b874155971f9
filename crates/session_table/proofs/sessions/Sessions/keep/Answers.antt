use Rattle.std.proofs.Common.{◌∙◌, ap, sym, List}
use Rattle.afp_base.specs.Cached.{Kept}
use Rattle.afp_serial.specs.KeptAnswers.{with_answer}
use Rattle.afp_serial.specs.World.{Session}
use Rattle.std.specs.Prelude.{option_map}
use Rattle.session_table.specs.Sessions.{Table, session_of}
use Rattle.session_table.specs.contracts.sessions.Sessions.{the_view}
use Rattle.session_table.proofs.SessionLemmas.{changed-set_value, changed-unfound, changes, session_of-shown}
use Rattle.session_table.specs.lemma.Kept.{seen, shown}
use Rattle.session_table.proofs.sessions.Sessions.keep.Goals as goal
use Rattle.session_table.proofs.sessions.Sessions.keep.Goals.{in-Some, in_default}

pub returns : goal.returns
returns c =
    let es = c.self.inside.by_number.entries in
    let f : Session → Session = with_answer c.args.request c.args.answer in
    elim c.match-get_mut.branch [
      | in-Some w ↦
          let x = w.in-Some.session.now in
          let kept = w.store.new.self in
          ap the_view w.self-inside-is
          ∙ changes c.args.self.now es c.self.inside.links c.self.inside.token_key c.self.view_is _ c.args.s.0 f
          (ap shown (c.get_mut.follows.holds (record x { cache = kept })).0 ∙ changed-set_value es c.args.s.0 f x (record x { cache = kept }) w.in-Some.ensures.unique w.in-Some.ensures.value (ap (λ (v : List Kept). seen c.args.s.0 (record x { cache = v })) (sym w.store.ensures)))
      | in_default w ↦
          ap the_view w.self-inside-is
          ∙ changes c.args.self.now es c.self.inside.links c.self.inside.token_key c.self.view_is _ c.args.s.0 f
          ((λ i. shown (c.get_mut.follows.holds-at-none i).entries) ∙ sym (changed-unfound es c.args.s.0 f (sym w.in_default.ensures.value)))
    ]

pub store-requires : goal.store-requires
store-requires c =
    c.requires (seen c.args.s.0 c.in-Some.session.now)
    (ap (λ (t : Table). session_of t.sessions c.args.s.0) (sym c.self.view_is) ∙ session_of-shown c.self.inside.by_number.entries c.args.s.0 ∙ ap (option_map (seen c.args.s.0)) (sym c.in-Some.ensures.value))
