-- A world that is ready for an ask.
use Rattle.std.proofs.Common.{◌≡◌, ap, sym, refl, subst, ℕ, ◌<◌, ◌≤◌, Bool, true, false, not, ◌&&◌, cond, List, [], ◌∷◌, length, filter, arith, Some}
use Rattle.std.specs.Prelude.{find, max, nat_lt, ◌==◌}
use Rattle.std.specs.List.{list_all}
use Rattle.std.proofs.lemmas.Bool.{and_parts, ltb-true, ne_eqb, eq-eqb}
use Rattle.afp_serial.proofs.Closed.{ending-sound}
use Rattle.afp_serial.specs.Sound.{IsSound, is_link_below, has_apart_sessions}
use Rattle.afp_serial.proofs.StaysSound.{moment-sound}
use Rattle.afp_serial.specs.Ranges.{is_moment}
use Rattle.session_table.specs.Sessions.{AreBelow}
use Rattle.afp_core_state.specs.lemma.KeptWorld.{table_in}
use Rattle.afp_serial.specs.World.{at_moment, has_session, without_session, World, Session, OpenFork}
use Rattle.afp_base.proofs.ListFacts.{all-weaker, length-filter-le}
use Rattle.afp_core_state.specs.Running.{IsNextFree, IsReady}
use Rattle.afp_core_dispatch.specs.Asks.{IsReadyToAsk}

below-fresh : (xs : List Session) (n : ℕ) → list_all (λ s. nat_lt s.number n && is_link_below n s.place) xs ≡ true → has_session xs n ≡ false
below-fresh [] n h = refl
below-fresh (s ∷ xs) n h =
    let both = and_parts _ _ h in
    let lower = and_parts _ _ both.0 in
    let less = ltb-true s.number n lower.0 in
    rw (ne_eqb s.number n (λ e. omega (arith, less, e))) (below-fresh xs n both.1)

next-free : (w : World) → IsSound w → IsNextFree w
unfolding has_apart_sessions
next-free w sound = below-fresh w.sessions w.next_link (and_parts _ _ (and_parts _ _ sound.sessions).1).1

pub ready : (w : World) → IsReadyToAsk w → IsReady w
ready w h = record { link = next-free w h.sound; opens = h.sound.opens; locks = h.sound.locks; few = h.few }

-- and so it is at a later moment
pub ready-later : (w : World) (now : ℕ) → is_moment now ≡ true → IsReadyToAsk w → IsReadyToAsk (at_moment w now)
ready-later w now moment h = record { sound = moment-sound w now moment h.sound; few = h.few }

pub ready-at : (w : World) (now n : ℕ) → n ≡ max w.latest now → is_moment now ≡ true → IsReadyToAsk w → IsReadyToAsk (record w { latest = n })
ready-at w now n is moment h = subst (λ (m : ℕ). IsReadyToAsk (record w { latest = m })) (sym is) (ready-later w now moment h)

-- each session's number was drawn
pub are-below : (w : World) → IsReadyToAsk w → AreBelow (table_in w)
unfolding has_apart_sessions
are-below w h =
    all-weaker (λ (s : Session). nat_lt s.number w.next_link && is_link_below w.next_link s.place) (λ (s : Session). nat_lt s.number w.next_link) w.sessions
    (λ s both. (and_parts (nat_lt s.number w.next_link) (is_link_below w.next_link s.place) both).0)
    (and_parts _ _ (and_parts _ _ h.sound.sessions).1).1

-- and so it is without a session
pub ready-without : (w : World) (n : ℕ) → IsReadyToAsk w → IsReadyToAsk (without_session w n)
ready-without w n h =
    let stays : OpenFork → Bool = λ o. has_session (filter (λ (s : Session). not (s.number == n)) w.sessions) o.session in
    let fewer : length (filter stays w.opens) ≤ length w.opens = length-filter-le stays w.opens in
    let few : length w.opens < 65535 = h.few in
    record { sound = ending-sound w (λ s. not (s.number == n)) h.sound; few = omega (arith, fewer, few) }

-- a session that was found is one less
pub one-less : (p : Session → Bool) (xs : List Session) (s : Session) → find p xs ≡ Some s → length (filter (λ (x : Session). not (x.number == s.number)) xs) < length xs
one-less p [] s found = absurd (cc)
one-less p (x ∷ xs) s found = by (p x) found (one-less p xs s)
  where
    rest : length (filter (λ (y : Session). not (y.number == s.number)) xs) ≤ length xs
    rest = length-filter-le (λ (y : Session). not (y.number == s.number)) xs

    here : x ≡ s → length (filter (λ (y : Session). not (y.number == s.number)) (x ∷ xs)) < length (x ∷ xs)
    here is = rw (eq-eqb x.number s.number (ap (λ (y : Session). y.number) is)) (omega (arith, rest))

    later : length (filter (λ (y : Session). not (y.number == s.number)) xs) < length xs → (b : Bool) → length (cond b (x ∷ filter (λ (y : Session). not (y.number == s.number)) xs) (filter (λ (y : Session). not (y.number == s.number)) xs)) < length (x ∷ xs)
    later less true = omega (arith, less)
    later less false = omega (arith, less)

    by : (b : Bool) → cond b (Some x) (find p xs) ≡ Some s → (find p xs ≡ Some s → length (filter (λ (y : Session). not (y.number == s.number)) xs) < length xs) → length (filter (λ (y : Session). not (y.number == s.number)) (x ∷ xs)) < length (x ∷ xs)
    by true f ih = let is : x ≡ s = cc in here is
    by false f ih = later (ih f) (not (x.number == s.number))
