-- A list is filled child by child.
use Rattle.std.proofs.Common.{◌≡◌, ◌∙◌, ap, sym, refl, ℕ, zero, suc, ◌+◌, ◌-◌, ◌==◌, ◌||◌, ◌≤◌, ◌<◌, min, arith, Bool, true, false, cond, List, [], ◌∷◌, ◌++◌, length, map, take, drop, Option, Some, None}
use Rattle.std.specs.Prelude.{nat_le, option_map, slice_get, slice_index_or, if◌then◌else◌}
use Rattle.std.specs.List.{Contains, filter, find, list_any}
use Rattle.std.proofs.Math.Seq.{drop-cons, take-length}
use Rattle.std.proofs.lemmas.Bool.{and_parts, cond-true, cond-false, leb-true}
use Rattle.std.proofs.lemmas.List.{append_assoc, append-nil, length-take, take-append-le, drop_all}
use Rattle.std.proofs.lemmas.Option.{slice_get-map, slice_get_read, slice_get_within, get_or_from_slice_get}
use Rattle.afp_base.specs.Limits.{payload_limit}
use Rattle.afp_replies.specs.Entry.{entry_bytes}
use Rattle.afp_serial.specs.ListReply.{list_entry}
use Rattle.volume_spec.proofs.Counted.{listed-is-there}
use Rattle.volume_spec.specs.Shared.{Opened}
use Rattle.volume_spec.specs.Enumerate.{ListAsked, entry_size, is_counted, longest_entry}
use Rattle.volume_spec.specs.Listing.{listed}
use Rattle.volume_spec.specs.SoundVolume.{IsSoundVolume, has_node}
use Rattle.volume_spec.specs.VolumeState.{Row, VolumeState}
use Rattle.volume_spec.specs.Walk.{row_at}
use Rattle.node_rows.specs.Children.{child_of}
use Rattle.node_rows.specs.declared.child.Child.{Child}
use Rattle.volume_tree.specs.Shown.{IsRowOf}
use Rattle.volume_keeper.specs.replies.lemma.Filling.{IsPut, can_follow, front, bytes_of, counted_from, filled}

-- the child at a place

pub record Here (v : VolumeState) (dir i : ℕ) (child : Child) : Type 0 where
  pub row : Row
  pub at_id : row_at v.rows child.id.0 ≡ Some row
  pub there : has_node v.rows child.id.0 ≡ true
  pub rest : drop i (listed v.rows dir) ≡ row ∷ drop (suc i) (listed v.rows dir)

found-there : (rows : List Row) (id : ℕ) (row : Row) → row_at rows id ≡ Some row → has_node rows id ≡ true
unfolding row_at
found-there [] id row is = absurd (cc)
found-there (r ∷ rows) id row is =
    elim (r.id == id) as (λ b. (if b then Some r else find (λ (q : Row). q.id == id) rows) ≡ Some row → (b || list_any (λ (q : Row). q.id == id) rows) ≡ true) [
      | true ↦ (λ h. refl)
      | false ↦ (λ h. found-there rows id row h)
    ] is

pub child-here : (v : VolumeState) (dir i : ℕ) (siblings : List Child) (child : Child) → IsSoundVolume v → siblings ≡ map child_of (listed v.rows dir) → i < length siblings → child ≡ slice_index_or siblings i child → Here v dir i child
child-here v dir i siblings child s are within read =
    by (slice_get (listed v.rows dir) i) refl (sym (slice_get-map child_of (listed v.rows dir) i) ∙ ap (λ l. slice_get l i) (sym are) ∙ slice_get_read siblings (length siblings) i child refl within read)
  where
    by : (o : Option Row) → slice_get (listed v.rows dir) i ≡ o → option_map child_of o ≡ Some child → Here v dir i child
    by None here same = absurd (cc)
    by (Some row) here same =
        let child_is : child_of row ≡ child = cc in
        let inside : i < length (listed v.rows dir) = slice_get_within (listed v.rows dir) i row here in
        let is_row : slice_index_or (listed v.rows dir) i row ≡ row = get_or_from_slice_get (listed v.rows dir) i row row here in
        let there : Contains (listed v.rows dir) row = (i, inside, is_row) in
        let at_id : row_at v.rows child.id.0 ≡ Some row = ap (λ (c : Child). row_at v.rows c.id.0) (sym child_is) ∙ listed-is-there v dir row s there in
        record {
          row = row;
          at_id = at_id;
          there = found-there v.rows child.id.0 row at_id;
          rest = drop-cons (listed v.rows dir) i row inside ∙ ap (λ r. r ∷ drop (suc i) (listed v.rows dir)) is_row;
        }

-- a node counts where its row does
pub counts-row : (rows : List Row) (asked : ListAsked) (node row : Row) (is : Bool) → IsRowOf rows node row → is ≡ is_counted asked node → is_counted asked row ≡ is
counts-row rows asked node row is of_row counts = sym (counts ∙ ap (is_counted asked) of_row.shown)

-- what is left of the list when so much of it was put
pub record SoFar (rows : List Row) (opens : List Opened) (asked : ListAsked) (dir first : ℕ) (old out : List ℕ) (i used count : ℕ) : Type 0 where
  pub few : count ≤ asked.count
  pub room : used ≤ payload_limit
  pub all : old ++ bytes_of rows opens asked (filled rows opens asked dir first 6 asked.count) ≡ out ++ bytes_of rows opens asked (filled rows opens asked dir i used (asked.count - count))
  pub many : length (filled rows opens asked dir first 6 asked.count) ≡ count + length (filled rows opens asked dir i used (asked.count - count))
  pub stays : take (length old) out ≡ old

module _ (rows : List Row) (opens : List Opened) (asked : ListAsked) (dir first : ℕ) (old : List ℕ) where
  pub begins : SoFar rows opens asked dir first old old first 6 0
  begins =
      let all : asked.count ≡ asked.count - 0 = omega arith in
      record {
        few = omega arith;
        room = omega arith;
        all = ap (λ n. old ++ bytes_of rows opens asked (filled rows opens asked dir first 6 n)) all;
        many = ap (λ n. length (filled rows opens asked dir first 6 n)) all ∙ plus-none (length (filled rows opens asked dir first 6 (asked.count - 0)));
        stays = take-length old;
      }
    where
      plus-none : (n : ℕ) → n ≡ 0 + n
      plus-none n = omega arith

  -- nothing is left
  pub ends : (out : List ℕ) (i used count : ℕ) → SoFar rows opens asked dir first old out i used count → filled rows opens asked dir i used (asked.count - count) ≡ []
      → (count ≡ length (filled rows opens asked dir first 6 asked.count)) × (out ≡ old ++ bytes_of rows opens asked (filled rows opens asked dir first 6 asked.count))
  ends out i used count s none = (
    (let many = s.many ∙ ap (λ (l : List Row). count + length l) none in omega arith),
    sym (s.all ∙ ap (λ l. out ++ bytes_of rows opens asked l) none ∙ append-nil out),
  )

  -- no more are asked
  pub none-asked : (i used count : ℕ) → count ≡ asked.count → filled rows opens asked dir i used (asked.count - count) ≡ []
  none-asked i used count all =
      let none : asked.count - count ≡ 0 = omega arith in
      ap (λ n. filled rows opens asked dir i used n) none ∙ no-front (counted_from rows asked dir i)
    where
      no-front : (l : List Row) → front (entry_size rows opens asked) asked used 0 l ≡ []
      no-front [] = refl
      no-front (row ∷ l) = refl

  -- no more are there
  pub none-there : (i used count : ℕ) → length (listed rows dir) ≤ i → filled rows opens asked dir i used (asked.count - count) ≡ []
  none-there i used count behind = ap (λ l. front (entry_size rows opens asked) asked used (asked.count - count) (filter (is_counted asked) l)) (drop_all i (listed rows dir) behind)

  module _ (i used count : ℕ) (row : Row) (rest : drop i (listed rows dir) ≡ row ∷ drop (suc i) (listed rows dir)) where
    next : (counts : Bool) → is_counted asked row ≡ counts → counted_from rows asked dir i ≡ cond counts (row ∷ counted_from rows asked dir (suc i)) (counted_from rows asked dir (suc i))
    next counts is = ap (λ l. filter (is_counted asked) l) rest ∙ ap (λ b. cond b (row ∷ filter (is_counted asked) (drop (suc i) (listed rows dir))) (filter (is_counted asked) (drop (suc i) (listed rows dir)))) is

    -- the next one does not fit
    pub none-fits : is_counted asked row ≡ true → can_follow asked used (entry_size rows opens asked row) ≡ false → filled rows opens asked dir i used (asked.count - count) ≡ []
    none-fits counts unfit = ap (λ l. front (entry_size rows opens asked) asked used (asked.count - count) l) (next true counts) ∙ by (asked.count - count)
      where
        by : (left : ℕ) → front (entry_size rows opens asked) asked used left (row ∷ counted_from rows asked dir (suc i)) ≡ []
        by zero = refl
        by (suc left) = cond-false (can_follow asked used (entry_size rows opens asked row)) (row ∷ front (entry_size rows opens asked) asked (used + entry_size rows opens asked row) left (counted_from rows asked dir (suc i))) [] unfit

    -- from the next that counts on
    pub jumps : (out : List ℕ) (further : ℕ) → SoFar rows opens asked dir first old out i used count → is_counted asked row ≡ false → counted_from rows asked dir further ≡ counted_from rows asked dir (i + 1)
        → SoFar rows opens asked dir first old out further used count
    jumps out further s other on =
        let one : suc i ≡ i + 1 = omega arith in
        let same : filled rows opens asked dir i used (asked.count - count) ≡ filled rows opens asked dir further used (asked.count - count) =
        ap (λ l. front (entry_size rows opens asked) asked used (asked.count - count) l) (next false other ∙ ap (counted_from rows asked dir) one ∙ sym on) in
        record {
          few = s.few;
          room = s.room;
          all = s.all ∙ ap (λ l. out ++ bytes_of rows opens asked l) same;
          many = s.many ∙ ap (λ (l : List Row). count + length l) same;
          stays = s.stays;
        }

    -- no more that count are there
    pub none-counts : is_counted asked row ≡ false → length (counted_from rows asked dir (i + 1)) ≤ 0 → filled rows opens asked dir i used (asked.count - count) ≡ []
    none-counts other few =
        let one : suc i ≡ i + 1 = omega arith in
        ap (λ l. front (entry_size rows opens asked) asked used (asked.count - count) l) (next false other ∙ ap (counted_from rows asked dir) one ∙ nothing (counted_from rows asked dir (i + 1)) few)
      where
        nothing : (l : List Row) → length l ≤ 0 → l ≡ []
        nothing [] few = refl
        nothing (x ∷ l) few = absurd (omega arith)

    -- one that counts is put
    pub puts : (out new : List ℕ) (more : ℕ) → SoFar rows opens asked dir first old out i used count → is_counted asked row ≡ true → (count ≡ asked.count → ⊥) → IsPut rows opens asked row used out new (Some more)
        → SoFar rows opens asked dir first old new (suc i) more (count + 1)
    puts out new more s counts not_all put =
        let left : asked.count - count ≡ suc (asked.count - (count + 1)) = let few = s.few in omega (arith, not_all) in
        let one : filled rows opens asked dir i used (asked.count - count) ≡ row ∷ filled rows opens asked dir (suc i) more (asked.count - (count + 1)) =
        (λ k. front (entry_size rows opens asked) asked used (left k) (next true counts k))
        ∙ cond-true (can_follow asked used (entry_size rows opens asked row)) (row ∷ front (entry_size rows opens asked) asked (used + entry_size rows opens asked row) (asked.count - (count + 1)) (counted_from rows asked dir (suc i))) [] put.0
        ∙ ap (λ n. row ∷ front (entry_size rows opens asked) asked n (asked.count - (count + 1)) (counted_from rows asked dir (suc i))) (sym put.1) in
        let tail : List Row = filled rows opens asked dir (suc i) more (asked.count - (count + 1)) in
        let entry : List ℕ = entry_bytes asked.wide asked.file_bits asked.dir_bits (list_entry rows opens asked row) in
        record {
          few = let few = s.few in omega (arith, not_all);
          room =
              let within : used + entry_size rows opens asked row ≤ min asked.size payload_limit = leb-true (used + entry_size rows opens asked row) (min asked.size payload_limit)
              (and_parts (nat_le (entry_size rows opens asked row) (longest_entry asked.wide)) (nat_le (used + entry_size rows opens asked row) (min asked.size payload_limit)) put.0).1 in
              let is : more ≡ used + entry_size rows opens asked row = put.1 in
              omega arith;
          all = s.all ∙ ap (λ l. out ++ bytes_of rows opens asked l) one ∙ sym (append_assoc out entry (bytes_of rows opens asked tail)) ∙ ap (λ l. l ++ bytes_of rows opens asked tail) (sym put.2);
          many = s.many ∙ ap (λ (l : List Row). count + length l) one ∙ one-more count (length tail);
          stays = ap (λ l. take (length old) l) put.2 ∙ take-append-le (length old) out entry (long out s.stays) ∙ s.stays;
        }
      where
        one-more : (a b : ℕ) → a + suc b ≡ a + 1 + b
        one-more a b = omega arith

        long : (l : List ℕ) → take (length old) l ≡ old → length old ≤ length l
        long l is = let size : min (length old) (length l) ≡ length old = sym (length-take (length old) l) ∙ ap length is in omega arith
