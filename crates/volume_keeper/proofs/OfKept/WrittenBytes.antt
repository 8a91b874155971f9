-- The bytes that a fork gets are in their range.
use Rattle.std.proofs.Common.{◌≡◌, ◌∙◌, ap, ℕ, zero, suc, ◌+◌, ◌-◌, Bool, true, List, [], ◌∷◌, ◌++◌, length, take, drop, replicate, refl, Some}
use Rattle.afp_base.specs.ForkBytes.{resized, splice}
use Rattle.volume_spec.proofs.ForkEffects.{fork-bytes-typed}
use Rattle.volume_spec.proofs.NameBytes.{bytes-append}
use Rattle.volume_spec.proofs.TypedEdits.{drop-bytes, take-bytes}
use Rattle.volume_spec.specs.ForkEffect.{fork_of}
use Rattle.volume_spec.specs.SoundVolume.{IsSoundVolume, has_file}
use Rattle.volume_spec.specs.TypedVolume.{are_bytes, is_typed_volume}
use Rattle.volume_spec.specs.VolumeState.{Row, VolumeState}
use Rattle.volume_spec.specs.Walk.{row_at}
use Rattle.volume_keeper.proofs.OfKept.Files.{found_in}

zero_bytes : (n : ℕ) → are_bytes (replicate n 0) ≡ true
zero_bytes zero = refl
zero_bytes (suc n) = zero_bytes n

pub resized_bytes : (old : List ℕ) (n : ℕ) → are_bytes old ≡ true → are_bytes (resized old n) ≡ true
resized_bytes old n small = bytes-append (take n old) (replicate (n - length old) 0) (take-bytes n old small) (zero_bytes (n - length old))

pub spliced_bytes : (old : List ℕ) (at : ℕ) (piece : List ℕ) → are_bytes old ≡ true → are_bytes piece ≡ true → are_bytes (splice old at piece) ≡ true
spliced_bytes old at [] small new = small
spliced_bytes old at (b ∷ bs) small new =
    bytes-append (resized old at ++ (b ∷ bs)) (drop (at + length (b ∷ bs)) old) (bytes-append (resized old at) (b ∷ bs) (resized_bytes old at small) new) (drop-bytes (at + length (b ∷ bs)) old small)

-- the bytes of a fork as they are
pub own_bytes : (v : VolumeState) → IsSoundVolume v → is_typed_volume v ≡ true → (id : ℕ) (resource : Bool) (bytes : List ℕ) → has_file v.rows id ≡ true → ((file : Row) → row_at v.rows id ≡ Some file → bytes ≡ fork_of resource file) → are_bytes bytes ≡ true
own_bytes v sound typed id resource bytes e told =
    let it = found_in v sound id e in
    ap are_bytes (told it.file it.found) ∙ fork-bytes-typed v id resource it.file it.found typed
