-- How a list is filled, entry by entry, for private contracts (this profile).
use Rattle.std.specs.Prelude.{◌≡◌, ℕ, zero, suc, ◌+◌, ◌≤◌, ◌<◌, ◌==◌, ◌++◌, Bool, true, false, not, ◌&&◌, List, [], ◌∷◌, min, map, drop, take, length, nat_le, nat_lt, Option, None, Some, if◌then◌else◌}
use Rattle.std.specs.List.{concat, filter}
use Rattle.afp_base.specs.Limits.{payload_limit}
use Rattle.afp_base.specs.Choice.{first_holding}
use Rattle.afp_base.specs.declared.code.Code.{Code}
use Rattle.afp_base.specs.declared.code.Code.TheVariants.{AccessDenied, ObjectTypeErr, ObjectNotFound, ParamErr}
use Rattle.afp_replies.specs.Entry.{entry_bytes}
use Rattle.afp_serial.specs.ListReply.{list_entry}
use Rattle.volume_spec.specs.Shared.{Opened}
use Rattle.volume_spec.specs.Enumerate.{ListAsked, counted_children, entry_size, fits_reply, from_start, is_counted, longest_entry}
use Rattle.volume_spec.specs.Listing.{listed}
use Rattle.volume_spec.specs.Rights.{lacks, read_right}
use Rattle.volume_spec.specs.VolumeState.{Row, VolumeState}
use Rattle.volume_spec.specs.Walk.{has_directory}

-- whether an entry of this size can be the next one, behind so many bytes
abbrev pub can_follow : ListAsked → ℕ → ℕ → Bool
can_follow asked used size = nat_le size (longest_entry asked.wide) && nat_le (used + size) (min asked.size payload_limit)

-- the first of these nodes, so many at most, whose entries fit one after the other behind so many bytes
abbrev pub front : (Row → ℕ) → ListAsked → ℕ → ℕ → List Row → List Row
front size asked used left [] = []
front size asked used zero (row ∷ rows) = []
front size asked used (suc left) (row ∷ rows) = if can_follow asked used (size row) then row ∷ front size asked (used + size row) left rows else []

-- the bytes of the entries of nodes
abbrev pub bytes_of : List Row → List Opened → ListAsked → List Row → List ℕ
bytes_of rows opens asked nodes = concat (map (entry_bytes asked.wide asked.file_bits asked.dir_bits) (map (list_entry rows opens asked) nodes))

-- the children of a directory that count, from the child at a place on
abbrev pub counted_from : List Row → ListAsked → ℕ → ℕ → List Row
counted_from rows asked dir place = filter (is_counted asked) (drop place (listed rows dir))

-- those whose entries fit
abbrev pub filled : List Row → List Opened → ListAsked → ℕ → ℕ → ℕ → ℕ → List Row
filled rows opens asked dir place used left = front (entry_size rows opens asked) asked used left (counted_from rows asked dir place)

-- an entry was put behind so many bytes, and there are so many then; or it does not fit, and nothing was put
abbrev pub IsPut : List Row → List Opened → ListAsked → Row → ℕ → List ℕ → List ℕ → Option ℕ → Type 0
IsPut rows opens asked row used old new None = (can_follow asked used (entry_size rows opens asked row) ≡ false) × (new ≡ old)
IsPut rows opens asked row used old new (Some more) =
    (can_follow asked used (entry_size rows opens asked row) ≡ true)
    × (more ≡ used + entry_size rows opens asked row)
    × (new ≡ old ++ entry_bytes asked.wide asked.file_bits asked.dir_bits (list_entry rows opens asked row))

-- the place of the child with which a list begins; none where the start is behind the last
abbrev pub IsStart : List Row → ListAsked → ℕ → Option ℕ → Type 0
IsStart rows asked dir None = nat_lt (length (counted_children rows asked dir)) asked.start ≡ true
IsStart rows asked dir (Some place) = (nat_lt (length (counted_children rows asked dir)) asked.start ≡ false) × (counted_from rows asked dir place ≡ from_start rows asked dir)

-- why a list of a node that was found is refused
abbrev pub list_refusal : VolumeState → List Opened → ListAsked → ℕ → Option Code
list_refusal v opens asked id = first_holding (
    (not (has_directory v.rows id), ObjectTypeErr)
    ∷ (lacks v.rows asked.user read_right id, AccessDenied)
    ∷ (asked.count == 0, ParamErr)
    ∷ (asked.start == 0, ParamErr)
    ∷ (nat_lt (length (counted_children v.rows asked id)) asked.start, ObjectNotFound)
    ∷ (not (fits_reply v.rows opens asked (take 1 (from_start v.rows asked id))), ParamErr)
    ∷ [])

-- the place, from another one on, of the child that counts behind so many others that count; none where no more are there
abbrev pub IsBehind : List Row → ListAsked → ℕ → ℕ → ℕ → Option ℕ → Type 0
IsBehind rows asked dir from skip None = length (counted_from rows asked dir from) ≤ skip
IsBehind rows asked dir from skip (Some place) =
    (from ≤ place)
    × (skip < length (counted_from rows asked dir from))
    × (counted_from rows asked dir place ≡ drop skip (counted_from rows asked dir from))
