-- A whole turn, from its steps.
use Rattle.std.proofs.Common.{◌≡◌, ℕ, ◌+◌, ◌<◌, true, Option, Some, List, [], ◌∷◌, ◌++◌, length, refl, sym, ap, ◌∙◌, subst, arith, length-append}
use Rattle.std.specs.Prelude.{sum}
use Rattle.afp_base.specs.Counts.{Rises}
use Rattle.afp_base.specs.declared.ids.LinkNumber.{LinkNumber}
use Rattle.afp_serial.specs.declared.ask.Ask.{Ask}
use Rattle.afp_serial.specs.declared.ask.Ask.TheVariants as ask
use Rattle.afp_serial.specs.declared.ask.Told.{Told}
use Rattle.afp_serial.specs.declared.ask.Told.TheVariants.{Opened, Reply, Live, Done, Displaced, Memory}
use Rattle.afp_serial.specs.declared.ask.Outcome.{Outcome}
use Rattle.afp_serial.specs.declared.ask.Entry.{Entry}
use Rattle.afp_serial.specs.History.{entry, faults_in}
use Rattle.afp_serial.specs.Shown.{Stays, Adds, Asked, is_answer_to, fits_frame}
use Rattle.afp_serial.specs.Sound.{IsSound}
use Rattle.afp_serial.proofs.Grows.{faults-append, rises-more, rising-snoc}
use Rattle.afp_serial.proofs.StaysSound.{answer-fits, answer-kind, stand-sound, stood-sound}
use Rattle.afp_core.specs.turns.ServerState.{ServerState}
use Rattle.afp_core.specs.turns.Turn.{Turned, TakesTurn}
use Rattle.afp_core.proofs.OfTurns.TurnLemmas.{turn-faults, turn-lawful, turn-tells, answer-told}
use Rattle.afp_desk.specs.declared.desk.view.Stage.TheVariants.{Idle, Waiting}
use Rattle.afp_desk.specs.declared.desk.view.View.{View}
use Rattle.afp_desk.specs.desk.Rule.{shown_of}
use Rattle.afp_desk.specs.desk.Plays.{Mine, at_stage, served_view, Takes, added_view, Enters, DecidesAs}
use Rattle.afp_desk.specs.desk.Calls.{call_of, Rests, Tells}
use Rattle.afp_desk.proofs.OfDesk.Growing.{rising-more}

-- what an entry is told
entry-tells : (c d : ServerState) (now : ℕ) (link : LinkNumber) (asked : Ask) (told : Told) (o : Outcome) → IsSound c.world → Turned c (entry now link asked o) told d → Tells asked told
entry-tells c d now link asked told o sound t = record {
  answers = ap (is_answer_to asked) t.serial ∙ answer-kind c.world (entry now link asked o);
  size = ap fits_frame t.serial ∙ answer-fits c.world (entry now link asked o) sound t.legal;
  memory = λ none. absurd (answer-told c.world (entry now link asked o) told t.serial none);
}

memory-tells : (asked : Ask) → is_answer_to asked Memory ≡ true
memory-tells (ask.Open attention) = refl
memory-tells (ask.Call id write offset payload) = refl
memory-tells ask.Pulse = refl
memory-tells ask.Bye = refl
memory-tells ask.Lost = refl
memory-tells ask.Drain = refl

turn-says : (c d : ServerState) (now : ℕ) (link : LinkNumber) (asked : Ask) (told : Told) → IsSound c.world → TakesTurn c now link asked told d → Tells asked told
turn-says c d now link asked (Opened l) sound t = entry-tells c d now link asked (Opened l) t.0 sound t.1
turn-says c d now link asked (Reply code block ends) sound t = entry-tells c d now link asked (Reply code block ends) t.0 sound t.1
turn-says c d now link asked (Live drain) sound t = entry-tells c d now link asked (Live drain) t.0 sound t.1
turn-says c d now link asked Done sound t = entry-tells c d now link asked Done t.0 sound t.1
turn-says c d now link asked Displaced sound t = entry-tells c d now link asked Displaced t.0 sound t.1
turn-says c d now link asked Memory sound t = record { answers = memory-tells asked; size = refl; memory = λ _. t.lacks.takes }

module _ (v : View) (t : ℕ) (m : Mine) (took : Takes (at_stage v (Waiting t), []) m) where
  abbrev h : List Entry
  h = v.seen ++ took.rest

  abbrev w : View
  w = served_view (at_stage v (Waiting t)) h took.core

  pub took-view : m.0 ≡ w
  took-view = ap (λ (x : Mine). x.0) took.after

  pub took-slot : m.1 ≡ (0, Some took.core) ∷ []
  took-slot = ap (λ (x : Mine). x.1) took.after

  -- the core that was taken is sound
  took-sound : IsSound v.start.world → IsSound took.core.world
  took-sound sound = subst IsSound (sym took.stands.world) (stood-sound v.start.world h sound took.lawful)

  -- what a turn of the core that was taken tells
  pub turn-tells-at : (now : ℕ) (link : LinkNumber) (asked : Ask) (told : Told) (d : ServerState) → IsSound v.start.world → TakesTurn took.core now link asked told d → Tells asked told
  turn-tells-at now link asked told d sound k = turn-says took.core d now link asked told (took-sound sound) k

  pub turns-as : (now : ℕ) (link : LinkNumber) (asked : Ask) (told : Told) (d : ServerState) (u : View) → u ≡ w → TakesTurn took.core now link asked told d → TakesTurn u.core now link asked told d
  turns-as now link asked told d u same k = subst (λ (x : View). TakesTurn x.core now link asked told d) (sym same) k

  abbrev Ends : ℕ → LinkNumber → Ask → Told → Mine → Type 0
  Ends now link asked told n = Asked (shown_of v) now link asked told (shown_of n.0) × (n.0.share ≡ v.share) × (n.0.start ≡ v.start) × Rests n

  entered : (now : ℕ) (link : LinkNumber) (asked : Ask) (told : Told) (slots : List (ℕ × Option ServerState)) (n : Mine) → 0 < v.share → length v.other ≡ 0 → IsSound v.start.world → Enters (call_of now link asked told) (w, slots) n
      → Adds (shown_of v) now link asked told (shown_of n.0) × (n.0.share ≡ v.share) × (n.0.start ≡ v.start) × Rests n
  entered now link asked told slots n live bare sound e =
      let x : Entry = entry now link asked e.outcome in
      let k : Mine = (added_view w x e.core, []) in
      subst (λ (y : Mine). Adds (shown_of v) now link asked told (shown_of y.0) × (y.0.share ≡ v.share) × (y.0.start ≡ v.start) × Rests y) (sym e.after) (
        record {
          between = took.rest;
          outcome = e.outcome;
          start = refl;
          history = refl;
          mine = refl;
          serial = turn-tells v.start.world h took.core e.core x told took.stands.world e.turned;
          faults = subst (λ n. Rises n (sum v.core.faults) (sum e.core.faults)) (sym (faults-append took.rest (x ∷ [])))
              (rises-more (sum v.core.faults) (faults_in took.rest) (sum took.core.faults) (faults_in (x ∷ [])) (sum e.core.faults) took.rises (turn-faults took.core e.core x told e.turned));
        },
        refl,
        refl,
        record {
          idle = refl;
          empty = refl;
          settled = bare;
          live = live;
          sound = sound;
          lawful = turn-lawful v.start.world h took.core e.core x told took.stands.world e.turned took.lawful;
          sound_at = stand-sound v.start.world (h ++ x ∷ []) sound (turn-lawful v.start.world h took.core e.core x told took.stands.world e.turned took.lawful);
          within = rising-more 0 (v.mine ++ length h ∷ []) (length h + 1) (length (h ++ x ∷ [])) (let l = length-append h (x ∷ []) in omega arith) (rising-snoc 0 v.mine (length h) (length h) took.within (omega arith));
        },
      )

  unchanged : (now : ℕ) (link : LinkNumber) (asked : Ask) (n : Mine) → 0 < v.share → length v.other ≡ 0 → IsSound v.start.world → n ≡ (at_stage w Idle, []) → Stays (shown_of v) (shown_of n.0) × (n.0.share ≡ v.share) × (n.0.start ≡ v.start) × Rests n
  unchanged now link asked n live bare sound e =
      subst (λ (y : Mine). Stays (shown_of v) (shown_of y.0) × (y.0.share ≡ v.share) × (y.0.start ≡ v.start) × Rests y) (sym e) (
        record { between = took.rest; start = refl; history = refl; mine = refl; faults = took.rises },
        refl,
        refl,
        record { idle = refl; empty = refl; settled = bare; live = live; sound = sound; lawful = took.lawful; sound_at = stand-sound v.start.world h sound took.lawful; within = took.within },
      )

  decided : (now : ℕ) (link : LinkNumber) (asked : Ask) (told : Told) (slots : List (ℕ × Option ServerState)) (n : Mine) → 0 < v.share → length v.other ≡ 0 → IsSound v.start.world → DecidesAs told (call_of now link asked told) (w, slots) n → Ends now link asked told n
  decided now link asked Memory slots n live bare sound e = unchanged now link asked n live bare sound e
  decided now link asked (Opened l) slots n live bare sound e = entered now link asked (Opened l) slots n live bare sound e
  decided now link asked (Reply code block ends) slots n live bare sound e = entered now link asked (Reply code block ends) slots n live bare sound e
  decided now link asked (Live drain) slots n live bare sound e = entered now link asked (Live drain) slots n live bare sound e
  decided now link asked Done slots n live bare sound e = entered now link asked Done slots n live bare sound e
  decided now link asked Displaced slots n live bare sound e = entered now link asked Displaced slots n live bare sound e

  -- what the whole turn tells
  pub ended : (now : ℕ) (link : LinkNumber) (asked : Ask) (told : Told) (k n : Mine) → 0 < v.share → length v.other ≡ 0 → IsSound v.start.world → k.0 ≡ w → DecidesAs told (call_of now link asked told) k n → Ends now link asked told n
  ended now link asked told k n live bare sound same e = decided now link asked told k.1 n live bare sound (subst (λ (x : View). DecidesAs told (call_of now link asked told) (x, k.1) n) same e)

pub taken-at : (me : Mine) (t : ℕ) (m n : Mine) → m ≡ (at_stage me.0 (Waiting t), me.1) → me.1 ≡ [] → Takes m n → Takes (at_stage me.0 (Waiting t), []) n
taken-at me t m n drawn empty took = subst (λ (x : Mine). Takes x n) (drawn ∙ ap (λ (l : List (ℕ × Option ServerState)). (at_stage me.0 (Waiting t), l)) empty) took
