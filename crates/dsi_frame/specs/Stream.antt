-- A stream of frames, as a whole list of bytes (AFP over TCP). Into which pieces it was cut, and what a
-- reader has buffered, does not occur.
use Rattle.std.specs.Prelude.{◌≡◌, ℕ, List, [], ◌∷◌, ◌++◌, length}
use Rattle.dsi_frame.specs.declared.frame.Reason.{Reason}
use Rattle.dsi_frame.specs.Frame.{Frame, IsSpelling, IsBadHeader}

-- some first part of the bytes is a spelling of the frame, and more follows it
pub record Begins (bytes : List ℕ) (f : Frame) : Type 0 where
  pub first : List ℕ
  pub more : List ℕ
  pub whole : bytes ≡ first ++ more
  pub spelling : IsSpelling first f

-- the bytes begin with a whole frame
abbrev pub HasFrame : List ℕ → Type 0
HasFrame bytes = (f : Frame) × Begins bytes f

-- less than a frame: the bytes begin neither with a whole frame nor with a bad header
pub record IsUnfinished (bytes : List ℕ) : Type 0 where
  pub no_frame : (f : Frame) → Begins bytes f → ⊥
  pub no_bad_header : (reason : Reason) → IsBadHeader bytes reason → ⊥

-- the bytes are spellings of the frames, one after another
abbrev pub Spelled : List ℕ → List Frame → Type 0
Spelled bytes [] = bytes ≡ []
Spelled bytes (f ∷ frames) = (first : List ℕ) × (rest : List ℕ) × (bytes ≡ first ++ rest) × IsSpelling first f × Spelled rest frames

-- the bytes are these frames, and then a rest that is less than a frame
pub record Framed (bytes : List ℕ) (frames : List Frame) (rest : List ℕ) : Type 0 where
  pub filled : List ℕ
  pub spelled : Spelled filled frames
  pub whole : bytes ≡ filled ++ rest
  pub unfinished : IsUnfinished rest

-- these frames fill the bytes up to the place `at`, and there stands a bad header
pub record Stopped (bytes : List ℕ) (frames : List Frame) (at : ℕ) (reason : Reason) : Type 0 where
  pub filled : List ℕ
  pub left : List ℕ
  pub spelled : Spelled filled frames
  pub whole : bytes ≡ filled ++ left
  pub place : length filled ≡ at
  pub bad_header : IsBadHeader left reason
