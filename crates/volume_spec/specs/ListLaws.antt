-- The laws of lists of a directory's children, in the subject's own words (this profile).
use Rattle.std.specs.Prelude.{◌≡◌, ℕ, ◌+◌, ◌≤◌, ◌<◌, ◌==◌, ◌||◌, ◌&&◌, not, Bool, true, false, List, [], ◌∷◌, ◌++◌, length, map, take, Some, None, Ok, if◌then◌else◌}
use Rattle.std.specs.List.{Contains, count_by, list_any}
use Rattle.afp_names.specs.Path.{PathValue}
use Rattle.volume_spec.specs.Edits.{bare}
use Rattle.volume_spec.specs.Order.{rises}
use Rattle.volume_spec.specs.Listing.{row_key, children, listed, page}
use Rattle.volume_spec.specs.VolumeState.{Row, VolumeState}
use Rattle.volume_spec.specs.SoundVolume.{IsSoundVolume}
use Rattle.volume_spec.specs.Walk.{found, row_at}
use Rattle.volume_spec.specs.Shared.{Opened}
use Rattle.volume_spec.specs.Enumerate.{ListAsked, is_counted, counted_children, fits_reply, from_start, entries, enumerate_refusal}

-- whether a directory has a child of this id that counts
unfoldable pub is_counted_child : List Row → ListAsked → ℕ → ℕ → Bool
is_counted_child rows asked dir id = list_any (λ row. (row.id == id) && is_counted asked row) (children rows dir)

-- what is counted has each child that counts just once, and nothing else; in a sound volume its keys rise
abbrev pub CountsChildrenOnce : Type 0
CountsChildrenOnce = (v : VolumeState) (asked : ListAsked) (dir id : ℕ) → IsSoundVolume v → count_by (λ (row : Row). row.id == id) (counted_children v.rows asked dir) ≡ (if is_counted_child v.rows asked dir id then 1 else 0)

abbrev pub CountsByKey : Type 0
CountsByKey = (v : VolumeState) (asked : ListAsked) (dir : ℕ) → IsSoundVolume v → rises row_key (counted_children v.rows asked dir) ≡ true

-- the entries of a reply are a page of what is counted, of at most so many as are asked
abbrev pub EntriesArePage : Type 0
EntriesArePage = (rows : List Row) (opens : List Opened) (asked : ListAsked) (dir : ℕ) → entries rows opens asked dir ≡ page (counted_children rows asked dir) asked.start (length (entries rows opens asked dir))

abbrev pub EntriesAreAsked : Type 0
EntriesAreAsked = (rows : List Row) (opens : List Opened) (asked : ListAsked) (dir : ℕ) → length (entries rows opens asked dir) ≤ asked.count

-- where a list is not refused its entries fit; and its directory is found, with one entry at least
abbrev pub EntriesFit : Type 0
EntriesFit = (v : VolumeState) (opens : List Opened) (asked : ListAsked) (dir id : ℕ) (path : PathValue) → enumerate_refusal v opens asked dir path ≡ None → found v.rows asked.user dir path ≡ Ok id → fits_reply v.rows opens asked (entries v.rows opens asked id) ≡ true

abbrev pub ListIsNeverEmpty : Type 0
ListIsNeverEmpty = (v : VolumeState) (opens : List Opened) (asked : ListAsked) (dir : ℕ) (path : PathValue) → enumerate_refusal v opens asked dir path ≡ None
    → (id : ℕ) × (found v.rows asked.user dir path ≡ Ok id) × (0 < length (entries v.rows opens asked id))

-- what fits a reply fits it with fewer entries too
abbrev pub FewerFit : Type 0
FewerFit = (rows : List Row) (opens : List Opened) (asked : ListAsked) (nodes : List Row) (n : ℕ) → fits_reply rows opens asked nodes ≡ true → fits_reply rows opens asked (take n nodes) ≡ true

-- the entries are as many as fit: so many that fit, where that is all that was asked, or all that there are, or one more would not fit
abbrev pub EntriesGoAsFar : Type 0
EntriesGoAsFar = (rows : List Row) (opens : List Opened) (asked : ListAsked) (dir n : ℕ) → n ≤ asked.count → n ≤ length (from_start rows asked dir)
    → ((n == 0) || fits_reply rows opens asked (take n (from_start rows asked dir))) ≡ true
    → ((n == asked.count) || ((n == length (from_start rows asked dir)) || not (fits_reply rows opens asked (take (n + 1) (from_start rows asked dir))))) ≡ true
    → entries rows opens asked dir ≡ take n (from_start rows asked dir)

-- what one of several calls asks: with the forks that are open then, how many entries, and of what size
pub record PageAsked : Type 0 where
  pub opens : List Opened
  pub count : ℕ
  pub size : ℕ

-- the call that asks for the page from this start
abbrev pub asked_from : ListAsked → ℕ → PageAsked → ListAsked
asked_from asked start turn = record asked { count = turn.count; start = start; size = turn.size }

-- the entries of calls one after another, each from behind the last entry of the one before it
abbrev pub entries_in_turn : List Row → ListAsked → ℕ → ℕ → List PageAsked → List Row
entries_in_turn rows asked dir start [] = []
entries_in_turn rows asked dir start (turn ∷ turns) =
    entries rows turn.opens (asked_from asked start turn) dir
    ++ entries_in_turn rows asked dir (start + length (entries rows turn.opens (asked_from asked start turn) dir)) turns

-- while rows do not change, such entries from start 1 are the first of what is counted; where no more is behind them they are all of it
abbrev pub TurnsGiveFirst : Type 0
TurnsGiveFirst = (rows : List Row) (asked : ListAsked) (dir : ℕ) (turns : List PageAsked) → entries_in_turn rows asked dir 1 turns ≡ take (length (entries_in_turn rows asked dir 1 turns)) (counted_children rows asked dir)

abbrev pub TurnsGiveAll : Type 0
TurnsGiveAll = (rows : List Row) (asked : ListAsked) (dir : ℕ) (turns : List PageAsked) → length (counted_children rows asked dir) < 1 + length (entries_in_turn rows asked dir 1 turns) → entries_in_turn rows asked dir 1 turns ≡ counted_children rows asked dir

-- where something is asked of files and of directories every child counts
abbrev pub CountsAll : Type 0
CountsAll = (rows : List Row) (asked : ListAsked) (dir : ℕ) → (asked.file_bits == 0) ≡ false → (asked.dir_bits == 0) ≡ false → counted_children rows asked dir ≡ listed rows dir

-- what is listed is there, by its id
abbrev pub ListedIsThere : Type 0
ListedIsThere = (v : VolumeState) (dir : ℕ) (row : Row) → IsSoundVolume v → Contains (listed v.rows dir) row → row_at v.rows row.id ≡ Some row

abbrev pub EntriesAreThere : Type 0
EntriesAreThere = (v : VolumeState) (opens : List Opened) (asked : ListAsked) (dir : ℕ) (row : Row) → IsSoundVolume v → Contains (entries v.rows opens asked dir) row → row_at v.rows row.id ≡ Some row

-- what counts, and how many children there are, are the same of rows with no bytes in their forks
abbrev pub CountsBare : Type 0
CountsBare = (rows : List Row) (asked : ListAsked) (dir : ℕ) → counted_children (map bare rows) asked dir ≡ map bare (counted_children rows asked dir)

abbrev pub OffspringBare : Type 0
OffspringBare = (rows : List Row) (dir : ℕ) → length (children (map bare rows) dir) ≡ length (children rows dir)
