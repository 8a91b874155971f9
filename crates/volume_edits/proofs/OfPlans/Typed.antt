-- The numbers of an icon are in their ranges.
use Rattle.std.proofs.Common.{◌≡◌, ◌<◌, ℕ, zero, suc, true, ◌&&◌, List, [], ◌∷◌, length, take, drop, refl, arith}
use Rattle.std.specs.Prelude.{slice_index}
use Rattle.std.proofs.lemmas.Bool.{and_from, and_parts}
use Rattle.volume_spec.specs.Desktop.{icon_under}
use Rattle.volume_spec.specs.SoundVolume.{longest_icon}
use Rattle.volume_spec.specs.TypedVolume.{are_bytes, is_byte, is_long, is_typed_icon}

bytes-take : (n : ℕ) (xs : List ℕ) → are_bytes xs ≡ true → are_bytes (take n xs) ≡ true
bytes-take zero xs h = refl
bytes-take (suc n) [] h = refl
bytes-take (suc n) (x ∷ xs) h = let e = and_parts (is_byte x) (are_bytes xs) h in and_from (is_byte x) (are_bytes (take n xs)) e.0 (bytes-take n xs e.1)

bytes-drop : (n : ℕ) (xs : List ℕ) → are_bytes xs ≡ true → are_bytes (drop n xs) ≡ true
bytes-drop zero xs h = h
bytes-drop (suc n) [] h = refl
bytes-drop (suc n) (x ∷ xs) h = bytes-drop n xs (and_parts (is_byte x) (are_bytes xs) h).1

byte-at : (xs : List ℕ) (i : ℕ) → are_bytes xs ≡ true → i < length xs → is_byte (slice_index xs i) ≡ true
byte-at [] i h within = absurd (omega arith)
byte-at (x ∷ xs) zero h within = (and_parts (is_byte x) (are_bytes xs) h).0
byte-at (x ∷ xs) (suc i) h within = byte-at xs i (and_parts (is_byte x) (are_bytes xs) h).1 (omega arith)

pub icon-typed : (key : List ℕ) (tag : ℕ) (bits : List ℕ) → length key ≡ 9 → are_bytes key ≡ true → is_long tag ≡ true → are_bytes bits ≡ true → is_typed_icon (icon_under key tag bits) ≡ true
icon-typed key tag bits nine bytes long all =
    and_from (are_bytes (take 4 key)) (are_bytes (take 4 (drop 4 key)) && (is_byte (slice_index key 8) && (is_long tag && are_bytes (take longest_icon bits)))) (bytes-take 4 key bytes)
    (and_from (are_bytes (take 4 (drop 4 key))) (is_byte (slice_index key 8) && (is_long tag && are_bytes (take longest_icon bits))) (bytes-take 4 (drop 4 key) (bytes-drop 4 key bytes))
    (and_from (is_byte (slice_index key 8)) (is_long tag && are_bytes (take longest_icon bits)) (byte-at key 8 bytes (omega (arith, nine)))
    (and_from (is_long tag) (are_bytes (take longest_icon bits)) long (bytes-take longest_icon bits all))))
