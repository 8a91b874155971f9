-- What a teller shows to each of the links that ask it in turns (this profile).
use Rattle.std.specs.Prelude.{◌≡◌, ◌≢◌, ℕ, ◌==◌, if◌then◌else◌, List, [], ◌∷◌, ◌++◌, length}
use Rattle.afp_serial.specs.Shown.{Shown, Rising}
use Rattle.afp_serial.specs.Went.{Step, Went}
use Rattle.afp_server.specs.link.Progress.{Start}

-- What a teller shows to one of the links that ask it in turns: these places alone are its own. What the others ask is asked by others.
abbrev pub shown_to : List ℕ → Shown → Shown
shown_to places a = record { start = a.start; history = a.history; mine = places; faults = a.faults }

-- A turn of one link, by what its teller showed before and shows after it: it asked these steps, and from wherever it had come, by what
-- was shown to it, it has come to there now; these are its new places. `here` is where it stood, and `goes` where it came to.
pub record InTurn (before after : Shown) (here goes : Start → Shown → Type 0) : Type 0 where
  pub steps : List Step
  pub went : Went before steps after
  pub places : List ℕ
  pub mine : after.mine ≡ before.mine ++ places
  pub comes : (start : Start) (own : List ℕ) → here start (shown_to own before) → goes start (shown_to (own ++ places) after)

-- Each place has an owner, the number of a link: the places whose owner is this one.
abbrev pub places_of : ℕ → List ℕ → List ℕ → List ℕ
places_of n [] places = []
places_of n (who ∷ owners) [] = []
places_of n (who ∷ owners) (k ∷ places) = if who == n then k ∷ places_of n owners places else places_of n owners places

-- as many times this owner as there are places
abbrev pub all_of : ℕ → List ℕ → List ℕ
all_of n [] = []
all_of n (k ∷ places) = n ∷ all_of n places

-- The law: a turn of one link, seen by it and by another one.
abbrev pub OneLinksTurn : Type 0
OneLinksTurn = (a b : Shown) (steps : List Step) (mine others : List ℕ) → Went a steps b
    → (new : List ℕ) × (b.mine ≡ a.mine ++ new) × Went (shown_to mine a) steps (shown_to (mine ++ new) b) × Went (shown_to others a) [] (shown_to others b)

-- The law: the new places of a turn are those of its link, and no other's.
abbrev pub OneLinksPlaces : Type 0
OneLinksPlaces = (n : ℕ) (owners places new : List ℕ) → length owners ≡ length places
    → (length (owners ++ all_of n new) ≡ length (places ++ new))
    × (places_of n (owners ++ all_of n new) (places ++ new) ≡ places_of n owners places ++ new)
    × ((m : ℕ) → m ≢ n → places_of m (owners ++ all_of n new) (places ++ new) ≡ places_of m owners places)
    × ((from to m : ℕ) → Rising from places to → Rising from (places_of m owners places) to)
