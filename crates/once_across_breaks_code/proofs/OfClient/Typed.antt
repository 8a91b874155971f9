-- Frames of bytes.
use Rattle.std.proofs.Common.{◌≡◌, subst, ℕ, suc, true, refl, List, [], ◌∷◌}
use Rattle.std.specs.List.{AllByRecursion}
use Rattle.std.proofs.lemmas.Bool.{and_from, lt-ltb}
use Rattle.afp_base.proofs.ListFacts.{all-ends}
use Rattle.afp_base.specs.Bytes.{IsBytes}
use Rattle.dsi_frame.specs.Frame.{Frame, IsSpelling, header}
use Rattle.dsi_frame.specs.Stream.{Spelled}
use Rattle.volume_spec.specs.TypedVolume.{are_bytes, is_byte}
use Rattle.once_across_breaks_code.specs.client.Runs.{IsOfBytes}

pub bytes-typed : (xs : List ℕ) → IsBytes xs → are_bytes xs ≡ true
bytes-typed [] h = refl
bytes-typed (x ∷ xs) h = and_from (is_byte x) (are_bytes xs) (lt-ltb x 256 (h 0)) (bytes-typed xs (λ i. h (suc i)))

pub frame-typed : (bytes : List ℕ) (f : Frame) → are_bytes bytes ≡ true → IsSpelling bytes f → IsOfBytes f
frame-typed bytes f typed s = (all-ends is_byte (header s.reserved f) f.payload (subst (λ (xs : List ℕ). are_bytes xs ≡ true) s.whole typed)).1

pub frames-typed : (bytes : List ℕ) (frames : List Frame) → are_bytes bytes ≡ true → Spelled bytes frames → AllByRecursion IsOfBytes frames
frames-typed bytes [] typed s = tt
frames-typed bytes (f ∷ frames) typed s =
    let parts = all-ends is_byte s.0 s.1 (subst (λ (xs : List ℕ). are_bytes xs ≡ true) s.2 typed) in
    (frame-typed s.0 f parts.0 s.3, frames-typed s.1 frames parts.1 s.4)
