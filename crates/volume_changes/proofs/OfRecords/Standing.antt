-- What stands at a block's key and at a mapping's, and which of the keys of a fork's blocks change.
use Rattle.std.proofs.Common.{◌≡◌, ◌∙◌, ℕ, zero, suc, ◌+◌, ◌<◌, ◌≤◌, ◌^◌, Bool, true, false, cond, List, [], ◌∷◌, ◌++◌, map, length, max, refl, sym, ap, arith, nat_eq}
use Rattle.std.specs.Prelude.{Option, Some, None, option_map, unwrap_or}
use Rattle.std.specs.Cmp.Lexicographic.{pointwise}
use Rattle.std.specs.FinMap.{get}
use Rattle.fork_bytes.specs.declared.block.Block.{Block}
use Rattle.fork_bytes.specs.Blocks.{block_at, block_count}
use Rattle.fork_bytes.specs.Plan.{changes_from, changes_of, with_change}
use Rattle.record_keeper.specs.declared.record.Change.TheVariants.{Put}
use Rattle.record_keeper.specs.Records.{Records}
use Rattle.volume_spec.specs.Desktop.{appl_at}
use Rattle.volume_spec.specs.ForkEffect.{fork_of}
use Rattle.volume_spec.specs.VolumeState.{Appl, Row, VolumeState}
use Rattle.volume_spec.specs.Walk.{row_at}
use Rattle.volume_keeper_records.specs.Image.{kept_image}
use Rattle.volume_keeper_records.specs.Records.{appl_record, appl_record_key, block_key, long_bytes}
use Rattle.volume_changes.specs.declared.records.touched.ForkPlace.{ForkPlace}
use Rattle.volume_changes.specs.records.Differences.{differences, turned}
use Rattle.volume_changes.specs.records.Touched.{fork_keys, most_blocks, numbers_from}
use Rattle.volume_changes.specs.records.Values as value
use Rattle.volume_changes.specs.records.Values.{block_change, fork_at, unless_empty}
use Rattle.volume_changes.proofs.OfRecords.Found.{and_then, block_value, past}
use Rattle.volume_changes.proofs.OfRecords.Segments as at
use Rattle.volume_changes.proofs.OfRecords.Segments.{Facts}

by-fork : (o : Option Row) (f : Bool) (i : ℕ) → and_then o (block_value f i) ≡ unless_empty (block_at (unwrap_or (option_map (fork_of f) o) []) i)
by-fork None f i = ap unless_empty (sym (past [] i (omega arith)))
by-fork (Some r) f i = refl

pub block_stands : (v : VolumeState) (id : ℕ) (f : Bool) (i : ℕ) → Facts v → id < 2 ^ 32 → i < 2 ^ 32 → get (kept_image v) (block_key id f i) ≡ value.block_value v id f i
block_stands v id f i facts l m = at.block_at_key v id f i facts l m ∙ by-fork (row_at v.rows id) f i

by-tag : (o : Option Appl) → option_map (λ (a : Appl). (appl_record a).value) o ≡ option_map long_bytes (option_map (λ (a : Appl). a.tag) o)
unfolding appl_record
by-tag None = refl
by-tag (Some a) = refl

pub appl_stands : (v : VolumeState) (creator : List ℕ) (node : ℕ) → Facts v → length creator ≡ 4 → node < 2 ^ 32 → get (kept_image v) (appl_record_key creator node) ≡ value.appl_value v creator node
appl_stands v creator node facts four few = at.appl_value v creator node facts four few ∙ by-tag (appl_at creator node v.appls)

-- one block's record
block_turns : (id : ℕ) (f : Bool) (i : ℕ) (x y : List ℕ) (rest : List Block) → turned (block_key id f i) (unless_empty x) (unless_empty y) ++ map (block_change id f) rest ≡ map (block_change id f) (with_change i x y rest)
block_turns id f i [] [] rest = refl
block_turns id f i [] (b ∷ bs) rest = refl
block_turns id f i (a ∷ as') [] rest = refl
block_turns id f i (a ∷ as') (b ∷ bs) rest = by (pointwise nat_eq (a ∷ as') (b ∷ bs))
  where
    by : (t : Bool) → cond t [] (Put (block_key id f i) (b ∷ bs) ∷ []) ++ map (block_change id f) rest ≡ map (block_change id f) (cond t rest (record { index = i; bytes = b ∷ bs } ∷ rest))
    by true = refl
    by false = refl

blocks_turn : (id : ℕ) (f : Bool) (x y : List ℕ) (m n : Records) → ((i : ℕ) → i < 2 ^ 32 → get m (block_key id f i) ≡ unless_empty (block_at x i)) → ((i : ℕ) → i < 2 ^ 32 → get n (block_key id f i) ≡ unless_empty (block_at y i))
    → (i count : ℕ) → i + count ≤ 2 ^ 32 → differences (map (block_key id f) (numbers_from i count)) m n ≡ map (block_change id f) (changes_from x y i count)
blocks_turn id f x y m n at_m at_n i zero few = refl
blocks_turn id f x y m n at_m at_n i (suc count) few =
    (λ j. turned (block_key id f i) (at_m i (omega arith) j) (at_n i (omega arith) j) ++ blocks_turn id f x y m n at_m at_n (i + 1) count (omega arith) j)
    ∙ block_turns id f i (block_at x i) (block_at y i) (changes_from x y (i + 1) count)

-- behind both ends no block differs
none_behind : (x y : List ℕ) (i count : ℕ) → block_count (length x) ≤ i → block_count (length y) ≤ i → changes_from x y i count ≡ []
none_behind x y i zero a b = refl
none_behind x y i (suc count) a b = λ j. with_change i (past x i a j) (past y i b j) (none_behind x y (i + 1) count (omega arith) (omega arith) j)

no_more : (x y : List ℕ) (i few count : ℕ) → few ≤ count → block_count (length x) ≤ i + few → block_count (length y) ≤ i + few → changes_from x y i count ≡ changes_from x y i few
no_more x y i zero count low a b = none_behind x y i count (omega arith) (omega arith)
no_more x y i (suc few) zero low a b = absurd (omega arith)
no_more x y i (suc few) (suc count) low a b = ap (with_change i (block_at x i) (block_at y i)) (no_more x y (i + 1) few count (omega arith) (omega arith) (omega arith))

pub fork_changes : (v w : VolumeState) (place : ForkPlace) → Facts v → Facts w → length (fork_at v place.node place.resource) ≤ 268435456 → length (fork_at w place.node place.resource) ≤ 268435456 → place.node < 2 ^ 32
    → differences (fork_keys place) (kept_image v) (kept_image w) ≡ map (block_change place.node place.resource) (changes_of (fork_at v place.node place.resource) (fork_at w place.node place.resource))
unfolding fork_keys
fork_changes v w place f g small_v small_w few =
    let x : List ℕ = fork_at v place.node place.resource in
    let y : List ℕ = fork_at w place.node place.resource in
    blocks_turn place.node place.resource x y (kept_image v) (kept_image w) (λ i l. block_stands v place.node place.resource i f few l) (λ i l. block_stands w place.node place.resource i g few l) 0 most_blocks (omega arith)
    ∙ ap (map (block_change place.node place.resource)) (no_more x y 0 (max (block_count (length x)) (block_count (length y))) most_blocks (omega (arith, small_v, small_w)) (omega arith) (omega arith))
