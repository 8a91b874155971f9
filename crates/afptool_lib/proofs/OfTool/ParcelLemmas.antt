-- A source is read to its end.
use Rattle.std.proofs.Common.{◌≡◌, ℕ, ◌+◌, ◌<◌, List, [], ◌++◌, take, refl, ◌∙◌, inl, inr, length-append, length-take, arith}
use Rattle.std.specs.Prelude.{option_map}
use Rattle.afp_base.proofs.Facts.{nothing-added}
use Rattle.capture_log.proofs.SoFar.{more-given}
use Rattle.afp_outside.specs.ends.Source.{SourceState, SourceGives}
use Rattle.afptool_lib.specs.tool.lemma.Parcelling.{HasRead}

pub read-none : (turns : ℕ) (old : SourceState) → HasRead turns old [] 0 old
read-none turns old = record { given = nothing-added old.given; within = inl (refl, refl); faults = refl; many = refl }

pub read-more : (turns : ℕ) (old mid new : SourceState) (bytes room : List ℕ) (taken n : ℕ) → HasRead turns old bytes taken mid → SourceGives mid room n new → taken < turns
    → HasRead turns old (bytes ++ take n room) (taken + n) new
read-more turns old mid new bytes room taken n x g fewer = record {
  given = more-given old mid new bytes (take n room) x.given g.given;
  within = inr (record { before = bytes; last = take n room; whole = refl; fewer = omega (arith, fewer, x.many); told = g.given_before ∙ x.given });
  faults = g.faults ∙ x.faults;
  many = omega (arith, x.many, g.most, length-append bytes (take n room), length-take n room);
}

pub read-lost : (turns : ℕ) (old mid new : SourceState) (bytes room : List ℕ) (taken n : ℕ) → HasRead turns old bytes taken mid → SourceGives mid room n new
    → (b : List ℕ) × (new.given ≡ option_map (λ given. given ++ b) old.given) × (new.faults ≡ old.faults)
read-lost turns old mid new bytes room taken n x g = (bytes ++ take n room, more-given old mid new bytes (take n room) x.given g.given, g.faults ∙ x.faults)
