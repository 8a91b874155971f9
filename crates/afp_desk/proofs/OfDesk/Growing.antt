-- Histories that grow, and the core beside them.
use Rattle.std.proofs.Common.{◌≡◌, ℕ, ◌+◌, ◌≤◌, true, List, [], ◌∷◌, ◌++◌, refl, arith}
use Rattle.std.proofs.lemmas.Bool.{and_from, and_parts}
use Rattle.afp_base.specs.Counts.{last_count}
use Rattle.afp_serial.specs.declared.ask.Entry.{Entry}
use Rattle.afp_serial.specs.declared.ask.Told.{Told}
use Rattle.afp_serial.specs.Answer.{after, is_legal}
use Rattle.afp_serial.specs.History.{is_lawful}
use Rattle.afp_serial.specs.Shown.{Rising}
use Rattle.afp_serial.specs.World.{World}
use Rattle.afp_core.specs.turns.ServerState.{ServerState}
use Rattle.afp_core.specs.turns.Turn.{Turned}
use Rattle.afp_core.proofs.OfTurns.TurnLemmas.{turn-stands, turn-counted, turn-faultless, turn-kept}
use Rattle.afp_desk.specs.desk.StandsFor.{StandsFor}

pub rising-more : (from : ℕ) (ks : List ℕ) (n m : ℕ) → n ≤ m → Rising from ks n → Rising from ks m
rising-more from [] n m l r = omega arith
rising-more from (k ∷ ks) n m l r = (r.0, rising-more (k + 1) ks n m l r.1)

pub lawful-part : (w : World) (h x : List Entry) → is_lawful w (h ++ x) ≡ true → is_lawful w h ≡ true
lawful-part w [] x l = refl
lawful-part w (e ∷ es) x l = let p = and_parts (is_legal w e) _ l in and_from (is_legal w e) _ p.0 (lawful-part (after w e) es x p.1)

-- one entry more
pub stands-more : (start c d : ServerState) (h : List Entry) (e : Entry) (told : Told) → StandsFor start h c → Turned c e told d → StandsFor start (h ++ e ∷ []) d
stands-more start c d h e told s t = record {
  world = turn-stands start.world h c d e told s.world t;
  counted = turn-counted start c d h e told s.world t s.counted;
  keepers = turn-kept start c d e told t s.keepers;
  faultless = turn-faultless start c d h e told t s.keepers s.faultless;
}

-- none yet; the counts of a core stand at most at the last number
pub stands-none : (start : ServerState) → start.entries ≤ last_count → start.opened ≤ last_count → StandsFor start [] start
stands-none start entries opened = record {
  world = refl;
  counted = record { entries = omega arith; opened = omega arith };
  keepers = record { many = refl; sure = refl; stand = λ index h. refl };
  faultless = λ sure. refl;
}
