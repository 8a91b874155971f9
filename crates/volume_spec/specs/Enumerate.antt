-- FPEnumerate, FPEnumerateExt and FPEnumerateExt2 (AFP Reference, under these names; the order of entries and of refusals is this profile's).
use Rattle.std.specs.Prelude.{ℕ, zero, suc, ◌+◌, ◌-◌, ◌==◌, ◌&&◌, Bool, true, false, not, List, [], ◌∷◌, length, take, drop, min, sum_by, Option, nat_le, nat_lt, if◌then◌else◌}
use Rattle.std.specs.List.{filter, list_all}
use Rattle.afp_base.specs.Choice.{first_holding}
use Rattle.afp_base.specs.Limits.{payload_limit}
use Rattle.afp_base.specs.declared.code.Code.{Code}
use Rattle.afp_base.specs.declared.code.Code.TheVariants.{AccessDenied, BitmapErr, ObjectNotFound, ObjectTypeErr, ParamErr}
use Rattle.afp_bitmap.specs.Bits.{file_mask, dir_mask, is_outside}
use Rattle.afp_bitmap.specs.Params.{params}
use Rattle.afp_names.specs.Path.{PathValue}
use Rattle.volume_spec.specs.VolumeState.{Row, VolumeState}
use Rattle.volume_spec.specs.Walk.{found, has_directory}
use Rattle.volume_spec.specs.Shared.{Opened, behind, first_or}
use Rattle.volume_spec.specs.Listing.{listed}
use Rattle.volume_spec.specs.NodeValues.{bits_of, node_values}
use Rattle.volume_spec.specs.Rights.{lacks, read_right}

-- what is asked of a list, and by which user: whether the lengths of its entries are wide (they are but in FPEnumerate), what to tell of files and of
-- directories, how many entries at most, from which on (the first is 1), and how many bytes the reply may have (AFP Reference, "FPEnumerate", "FPEnumerateExt2")
pub record ListAsked : Type 0 where
  pub wide : Bool
  pub user : ℕ
  pub file_bits : ℕ
  pub dir_bits : ℕ
  pub count : ℕ
  pub start : ℕ
  pub size : ℕ

-- what FPEnumerate asks, and what FPEnumerateExt and FPEnumerateExt2 ask (AFP Reference, under these names)
abbrev pub asked_narrow : ℕ → ℕ → ℕ → ℕ → ℕ → ℕ → ListAsked
asked_narrow user file_bits dir_bits count start size = record { wide = false; user = user; file_bits = file_bits; dir_bits = dir_bits; count = count; start = start; size = size }

abbrev pub asked_wide : ℕ → ℕ → ℕ → ℕ → ℕ → ℕ → ListAsked
asked_wide user file_bits dir_bits count start size = record { wide = true; user = user; file_bits = file_bits; dir_bits = dir_bits; count = count; start = start; size = size }

-- whether a node counts: a kind of which nothing is asked does not (AFP Reference, "FPEnumerate")
abbrev pub is_counted : ListAsked → Row → Bool
is_counted asked row = not (bits_of asked.file_bits asked.dir_bits row == 0)

-- the children of a directory that count, in the order of their names' keys (this profile)
unfoldable pub counted_children : List Row → ListAsked → ℕ → List Row
counted_children rows asked dir = filter (is_counted asked) (listed rows dir)

-- the bytes of a list before its entries: the bits of files, those of directories, how many entries there are (AFP Reference, "FPEnumerate")
abbrev pub list_head : ℕ
list_head = 6

-- the bytes of an entry before its parameters: its length in one byte and a flag, or its length in two, a flag and a pad (AFP Reference,
-- "FPEnumerate", "FPEnumerateExt")
abbrev pub entry_head : Bool → ℕ
entry_head wide = if wide then 4 else 2

-- the greatest length of an entry: what one byte holds, or two (AFP Reference, "FPEnumerate", "FPEnumerateExt")
abbrev pub longest_entry : Bool → ℕ
longest_entry wide = if wide then 65535 else 255

-- the bytes of a node's entry (AFP Reference, "FPEnumerate")
unfoldable pub entry_size : List Row → List Opened → ListAsked → Row → ℕ
entry_size rows opens asked row =
    entry_head asked.wide + length (params (bits_of asked.file_bits asked.dir_bits row) (node_values rows asked.user opens asked.file_bits asked.dir_bits row))

-- whether these nodes' entries can stand in one reply: the whole list has the size that it may have, and each entry's length fits its field
-- (AFP Reference, "FPEnumerate")
unfoldable pub fits_reply : List Row → List Opened → ListAsked → List Row → Bool
fits_reply rows opens asked nodes =
    nat_le (list_head + sum_by (entry_size rows opens asked) nodes) (min asked.size payload_limit)
    && list_all (λ node. nat_le (entry_size rows opens asked node) (longest_entry asked.wide)) nodes

-- the longest first part of a list, of so many elements at most, that passes a test; nothing where none passes (this profile)
abbrev pub longest_front : {A : Type 0} → (List A → Bool) → ℕ → List A → List A
longest_front passes zero list = []
longest_front passes (suc most) list = if passes (take (suc most) list) then take (suc most) list else longest_front passes most list

-- the counted children from the start on (AFP Reference, "FPEnumerate")
abbrev pub from_start : List Row → ListAsked → ℕ → List Row
from_start rows asked dir = drop (asked.start - 1) (counted_children rows asked dir)

-- the nodes of a reply: from the start on as many as are asked and fit (AFP Reference, "FPEnumerate")
unfoldable pub entries : List Row → List Opened → ListAsked → ℕ → List Row
entries rows opens asked dir = longest_front (fits_reply rows opens asked) asked.count (from_start rows asked dir)

-- why it is refused (this profile)
unfoldable pub enumerate_refusal : VolumeState → List Opened → ListAsked → ℕ → PathValue → Option Code
enumerate_refusal v opens asked dir path = first_or (
    (is_outside file_mask asked.file_bits, BitmapErr)
    ∷ (is_outside dir_mask asked.dir_bits, BitmapErr)
    ∷ ((asked.file_bits == 0) && (asked.dir_bits == 0), BitmapErr)
    ∷ [])
    (behind (found v.rows asked.user dir path) (λ id. first_holding (
    (not (has_directory v.rows id), ObjectTypeErr)
    ∷ (lacks v.rows asked.user read_right id, AccessDenied)
    ∷ (asked.count == 0, ParamErr)
    ∷ (asked.start == 0, ParamErr)
    ∷ (nat_lt (length (counted_children v.rows asked id)) asked.start, ObjectNotFound)
    ∷ (not (fits_reply v.rows opens asked (take 1 (from_start v.rows asked id))), ParamErr)
    ∷ [])))
