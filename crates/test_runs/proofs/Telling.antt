-- A teller of tests: from a fresh world it opens at most one session.
use Rattle.std.proofs.Common.{◌≡◌, ℕ, [], ◌∷◌, ◌&&◌, true, map, replicate, take, refl, ap, sym, subst, arith}
use Rattle.std.specs.Prelude.{Option, Some, None}
use Rattle.std.specs.List.{list_all}
use Rattle.std.specs.Option.{option_to_list}
use Rattle.afp_base.specs.declared.ids.LinkNumber.{LinkNumber}
use Rattle.afp_serial.specs.declared.ask.Ask.{Ask}
use Rattle.afp_serial.specs.declared.ask.Ask.TheVariants as asks
use Rattle.afp_serial.specs.declared.ask.Outcome.TheVariants as outcomes
use Rattle.afp_serial.specs.declared.ask.Told.{Told}
use Rattle.afp_serial.specs.declared.ask.Told.TheVariants as tells
use Rattle.afp_serial.specs.Answer.{answer_at}
use Rattle.afp_serial.specs.HouseFault.{house_fault}
use Rattle.afp_serial.specs.History.{entry, is_lawful, stand}
use Rattle.afp_serial.specs.Ranges.{is_typed_entry, is_typed_house}
use Rattle.afp_serial.specs.Shown.{Shown, Asked}
use Rattle.afp_serial.specs.Sound.{IsSound}
use Rattle.afp_serial.specs.World.{fresh_world}
use Rattle.afp_serial.proofs.FreshWorld.{fresh-sound}
use Rattle.afp_serial.proofs.StaysSound.{stand-sound}

-- what it shows, by the session that it opened
abbrev pub shown_of : {X : Type 0} → (X → ℕ) → (X → LinkNumber) → (X → ℕ) → Option X → Shown
shown_of at link attention opened = record {
  start = fresh_world (record { server = 65 ∷ []; signature = replicate 16 0; users = []; volumes = (65 ∷ []) ∷ []; message = []; token_key = replicate 32 0 }) 0;
  history = map (λ o. entry (at o) (link o) (asks.Open (attention o)) outcomes.Done) (option_to_list opened);
  mine = map (λ o. 0) (option_to_list opened);
  faults = 0;
}

lawful : {X : Type 0} (at : X → ℕ) (link : X → LinkNumber) (attention : X → ℕ) (opened : Option X)
    → list_all (λ o. is_typed_entry (entry (at o) (link o) (asks.Open (attention o)) outcomes.Done)) (option_to_list opened) ≡ true
    → is_lawful (shown_of at link attention opened).start (shown_of at link attention opened).history ≡ true
lawful at link attention None typed = refl
lawful at link attention (Some o) typed = ap (λ b. b && true) typed

-- its world is sound at each place
pub sound-at : {X : Type 0} (at : X → ℕ) (link : X → LinkNumber) (attention : X → ℕ) (opened : Option X)
    → list_all (λ o. is_typed_entry (entry (at o) (link o) (asks.Open (attention o)) outcomes.Done)) (option_to_list opened) ≡ true
    → (k : ℕ) → IsSound (stand (shown_of at link attention opened).start (take k (shown_of at link attention opened).history))
unfolding house_fault is_typed_house
sound-at at link attention opened typed =
    stand-sound (shown_of at link attention opened).start (shown_of at link attention opened).history
    (fresh-sound (shown_of at link attention opened).start.house 0 refl refl refl)
    (lawful at link attention opened typed)

abbrev pub link_one : LinkNumber
link_one = record { 0 = 1 }

first : {X : Type 0} (at : X → ℕ) (link : X → LinkNumber) (attention : X → ℕ) (o : X)
    → Asked (shown_of at link attention None) (at o) (link o) (asks.Open (attention o)) (tells.Opened link_one) (shown_of at link attention (Some o))
unfolding answer_at
first at link attention o = record { between = []; outcome = outcomes.Done; start = refl; history = refl; mine = refl; serial = refl; faults = (omega arith, omega arith) }

-- the one session is opened on link 1
pub opens : {X : Type 0} (at : X → ℕ) (link : X → LinkNumber) (attention : X → ℕ) (o : X) (before after : Option X) (ask : Ask) (told : Told)
    → before ≡ None → after ≡ Some o → ask ≡ asks.Open (attention o) → told ≡ tells.Opened link_one
    → Asked (shown_of at link attention before) (at o) (link o) ask told (shown_of at link attention after)
opens at link attention o before after ask told none some is opened =
    subst (λ b. Asked (shown_of at link attention b) (at o) (link o) ask told (shown_of at link attention after)) (sym none)
    (subst (λ b. Asked (shown_of at link attention None) (at o) (link o) ask told (shown_of at link attention b)) (sym some)
    (subst (λ a. Asked (shown_of at link attention None) (at o) (link o) a told (shown_of at link attention (Some o))) (sym is)
    (subst (λ t. Asked (shown_of at link attention None) (at o) (link o) (asks.Open (attention o)) t (shown_of at link attention (Some o))) (sym opened)
    (first at link attention o))))
