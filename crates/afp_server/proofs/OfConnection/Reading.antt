-- A read of a link that never waits.
use Rattle.std.proofs.Common.{◌≡◌, ℕ, ◌<◌, ◌≤◌, List, [], ◌∷◌, length, refl, sym, ap, subst, inl, arith}
use Rattle.std.specs.Prelude.{Option}
use Rattle.afp_outside.specs.ends.Link.{LinkState, FailsToWrite}
use Rattle.afp_outside.specs.ends.Whole.{SendsPart}
use Rattle.afp_outside.proofs.OfEnds.Whole.{sends-none, sends-failed}
use Rattle.dsi_frame.specs.Buffered.{Buffered, buffer_length}
use Rattle.afp_server.specs.link.Progress.{point}
use Rattle.afp_server.specs.connection.Standing.{StandsBy, RestsAt}
use Rattle.afp_server.specs.connection.lemma.Kept.{Keeps}
use Rattle.afp_base.specs.declared.ids.LinkNumber.{LinkNumber}
use Rattle.afp_server.specs.declared.connection.standing.Then.{Then}
use Rattle.afp_server.specs.declared.connection.standing.Standing.{Standing}
use Rattle.afp_server.specs.declared.connection.standing.Standing.TheVariants as stands
use Rattle.afp_server.specs.declared.link.serve.LinkEnd.TheVariants as links

-- a reply that is given up
pub given-up : (link then : LinkState) (unsent : List ℕ) → 0 < length unsent → FailsToWrite link then → SendsPart link unsent then
given-up link then unsent some f = record { part = []; lost = unsent; some_lost = some; cut = refl; sends = sends-failed link link then [] (sends-none link) f }

pub none_left : (xs : List ℕ) → length xs ≡ 0 → xs ≡ []
none_left [] e = refl
none_left (x ∷ xs) e = absurd (omega (arith, e))

-- the bytes that are left are kept, or there are none
pub keeps-all : (held : Buffered) (s : Standing) (link : LinkState) (rest : List ℕ) → rest ≡ held.rest → length held.rest ≤ buffer_length → Keeps held s link rest s link
keeps-all held s link rest same fits = record {
  few = omega (arith, ap length same);
  fits = omega (arith, ap length same, fits);
  live = λ stage live. live;
  rests = λ r. subst (λ (xs : List ℕ). RestsAt s xs) (sym same) r;
  stands = λ start cost stage requests shown passed at. subst (λ (xs : List ℕ). StandsBy start cost s (point (record { place = held.place; rest = xs }) stage requests link shown passed)) (sym same) at;
}

-- a reply is given up, since there is no memory for them
pub keeps-given-up : (held : Buffered) (unsent : List ℕ) (next : Then) (called : Option LinkNumber) (link after : LinkState) → FailsToWrite link after → Keeps held (stands.Sends unsent next called) link [] (stands.Over links.WriteFault) after
keeps-given-up held unsent next called link after f = record {
  few = omega arith;
  fits = omega arith;
  live = λ stage live. tt;
  rests = λ r. tt;
  stands = λ start cost stage requests shown passed u. inl (u.unsent_ends after (given-up link after unsent u.some f));
}
