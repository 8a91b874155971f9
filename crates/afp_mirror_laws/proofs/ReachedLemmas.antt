-- What holds wherever a mirror comes to: its stage fits, its list begins where it may, and its nodes are few, each with an id of its own.
use Rattle.std.proofs.Common.{◌≡◌, inl, inr, ℕ, zero, suc, ◌+◌, ◌≤◌, ◌<◌, ◌==◌, ◌^◌, Bool, true, false, not, ◌||◌, cond, if◌then◌else◌, List, [], ◌∷◌, ◌++◌, length, drop, map, Option, Some, None, Result, Ok, Err, refl, sym, ap, ◌∙◌, subst, arith, length-append}
use Rattle.std.specs.Prelude.{nat_le, nat_lt, slice_get, bytes_eq}
use Rattle.std.specs.List.{count_by, list_all, list_any}
use Rattle.std.proofs.lemmas.Bool.{and_parts}
use Rattle.std.proofs.lemmas.Bool.Decides.{nat_tests}
use Rattle.std.proofs.lemmas.List.{append-nil, append_assoc, length-map}
use Rattle.std.proofs.lemmas.List.Folds.{list_all-map}
use Rattle.std.proofs.lemmas.List.Sums.{sum_by-cons}
use Rattle.afp_base.specs.Apart.{are_apart}
use Rattle.afp_base.specs.Limits.{most_fork_bytes}
use Rattle.afp_base.proofs.Facts.{eqb_turn}
use Rattle.afp_base.proofs.ListFacts.{all-append, all-weaker, apart-snoc, count-none, none-all, none-any}
use Rattle.afp_base.specs.declared.code.Code.{Code}
use Rattle.afp_base.specs.declared.ids.NodeId.{NodeId}
use Rattle.afp_replies.specs.declared.list.ListEntry.{ListEntry}
use Rattle.afp_replies.specs.declared.reply.Reply.{Reply}
use Rattle.afp_mirror_walk.specs.Asks.{root}
use Rattle.afp_mirror_walk.specs.Follows.{Ended, Next, and_then, bad, changed, checked_from, checked_to, checking_of, close_or_read, closed_from, closed_to, compared, copying_of, dirs_before, done, ends, ends_fork, ends_list, first, first_difference, first_id, first_in, first_place, follows, follows_at, fork_in, found_file, found_id_in, goes, has_asked, is_dir_at, is_empty, is_first_dir, is_ok, last_dir, lines_with, list_or_set, listed, listed_rows, looked, made, made_first, made_of, most_nodes, must, needs, next_check, next_dir, next_made, next_place, next_set, place_at, node_in, not_empty, opened_from, opened_to, page_from, piece_in, read_from, read_of, read_piece, read_to, read_told, refused, rows_in, set_dir, set_file, set_or_check, set_or_open, shut_from, shut_or_read, shut_to, source_at, target_at, too_many, volume_in, was_told, with_found, with_page, write_or_close, written}
use Rattle.afp_mirror_walk.specs.Settings.{found_in}
use Rattle.afp_mirror_walk.specs.Standing.{Fits, FitsChecking, FitsCopying, Standing, most_piece}
use Rattle.afp_mirror_walk.specs.declared.walk.ends.Line.{Line}
use Rattle.afp_mirror_walk.specs.declared.walk.ends.Side.{Side}
use Rattle.afp_mirror_walk.specs.declared.walk.ends.Side.TheVariants.{From, To}
use Rattle.afp_mirror_walk.specs.declared.walk.standing.Checking.{Checking}
use Rattle.afp_mirror_walk.specs.declared.walk.standing.Copying.{Copying}
use Rattle.afp_mirror_walk.specs.declared.walk.standing.Found.{Found}
use Rattle.afp_mirror_walk.specs.declared.walk.standing.Made.{Made}
use Rattle.afp_mirror_walk.specs.declared.walk.standing.Stage.{Stage}
use Rattle.afp_mirror_walk.specs.declared.walk.standing.Stage.TheVariants as stages
use Rattle.afp_mirror.specs.Runs.{IsTurn, Leads, Turn, seen}
use Rattle.afp_mirror_laws.specs.Paired.{EachHasOneLine, given_by, given_in, ids_in, source_of}
use Rattle.afp_mirror_laws.specs.Reached.{HasOneMore, IsOneMore, ListHasOneMore, ReachedIsFit, TooManyIsOneMore}
use Rattle.afp_mirror_laws.specs.Rows.{IsLongList, IsPast, IsTooMany, Reaches, is_over}
use Rattle.afp_mirror_laws.specs.Swept.{Listing, listing, lists_of, rows_told}
use Rattle.afp_mirror_laws.proofs.PairedLemmas.{done-pairs, found_id, given-append, if-any, if-by, ids-are, known-on, less-by, made_source, map-append, must-any, needs-any}
use Rattle.afp_mirror_laws.proofs.RowLemmas.{too-many-is-exact}
use Rattle.afp_mirror_laws.proofs.SweptLemmas.{listing_at, no-page, ok-page, page-is, page-not-done, turn-lists}

abbrev pub same_id : NodeId → NodeId → Bool
same_id a b = a.0 == b.0

abbrev ids_of : List Made → List Found → List NodeId
ids_of nodes page = map made_source nodes ++ map found_id page

-- the ids that lists gave, in a state that begins its next list there
pub record IsCounted (ids : List NodeId) (start : ℕ) (nodes : List Made) (page : List Found) : Type 0 where
  pub start_is : start ≤ length nodes + length page + 1
  pub few : length nodes + length page ≤ most_nodes
  pub known : ids_of nodes page ≡ ids
  pub apart : are_apart same_id ids ≡ true

abbrev pub HasNoPage : Stage → List Found → Type 0
HasNoPage stages.OpensSource page = page ≡ []
HasNoPage stages.OpensTarget page = page ≡ []
HasNoPage stages.Looks page = page ≡ []
HasNoPage stages.Lists page = page ≡ []
HasNoPage stage page = Unit {0}

abbrev pub IsHere : Stage → Standing → List NodeId → Type 0
IsHere stage w ids = IsCounted ids w.place.start w.nodes w.page × Fits stage (length w.page) (length w.nodes) (length w.piece) × HasNoPage stage w.page

abbrev pub Keeps : List NodeId → Next → Type 0
Keeps ids (goes w) = IsHere w.stage w ids
Keeps ids (ends (done lines)) = are_apart same_id ids ≡ true
Keeps ids (ends (refused side c node)) = Unit {0}
Keeps ids (ends (not_empty node)) = Unit {0}
Keeps ids (ends too_many) = Unit {0}
Keeps ids (ends (bad side)) = Unit {0}
Keeps ids (ends (changed node place)) = Unit {0}

-- ---- reads

at-most : (a b : ℕ) → nat_le a b ≡ true → a ≤ b
at-most a b h = grind (arith, nat_tests, h)

asked-short : (last : Bool) (piece : List ℕ) → has_asked last piece ≡ true → length piece ≤ most_piece
asked-short true piece h = grind (arith, nat_tests, h)
asked-short false piece h = grind (arith, nat_tests, h)

pub read-of-by : (P : Next → Type 0) (side : Side) (len : ℕ) (last : Bool) (next : List ℕ → Bool → Next) (piece : List ℕ) → P (ends (bad side)) → (has_asked last piece ≡ true → len + length piece ≤ most_fork_bytes → P (next piece last)) → P (read_of side len last next piece)
read-of-by P side len last next piece wrong passes =
    if-by P (has_asked last piece) (if nat_le (len + length piece) most_fork_bytes then next piece last else ends (bad side)) (ends (bad side))
    (λ asked. if-by P (nat_le (len + length piece) most_fork_bytes) (next piece last) (ends (bad side)) (λ most. passes asked (at-most (len + length piece) most_fork_bytes most)) (λ k. wrong)) (λ k. wrong)

pub read-by : (P : Next → Type 0) (side : Side) (node : NodeId) (len : ℕ) (c : Code) (reply : Reply) (next : List ℕ → Bool → Next) → P (ends (refused side c node)) → P (ends (bad side))
    → ((piece : List ℕ) (last : Bool) → has_asked last piece ≡ true → len + length piece ≤ most_fork_bytes → P (next piece last)) → P (read_told side node len c reply next)
read-by P side node len c reply next fails wrong passes =
    let more : Next = needs side (piece_in reply) (read_of side len false next) in
    let last : Next = needs side (piece_in reply) (read_of side len true next) in
    if-any P (is_ok c) more (if ends_fork c then last else ends (refused side c node)) (needs-any P side (piece_in reply) (read_of side len false next) wrong (λ piece. read-of-by P side len false next piece wrong (passes piece false)))
    (if-any P (ends_fork c) last (ends (refused side c node)) (needs-any P side (piece_in reply) (read_of side len true next) wrong (λ piece. read-of-by P side len true next piece wrong (passes piece true))) fails)

goes-any : (P : Next → Type 0) (w : Standing) (b : Bool) (x y : Stage) → P (goes (record w { stage = x })) → P (goes (record w { stage = y })) → P (goes (record w { stage = if b then x else y }))
goes-any P w true x y h k = h
goes-any P w false x y h k = k

-- ---- behind the last list

check-keeps : (ids : List NodeId) (w : Standing) (from : ℕ) → IsCounted ids w.place.start w.nodes w.page → Keeps ids (next_check w from)
unfolding next_check
check-keeps ids w from h =
    let dirs : List Line = dirs_before (drop from w.nodes) in
    if-by (Keeps ids) (nat_lt (from + length dirs) (length w.nodes)) (goes (record w { lines = w.lines ++ dirs; stage = stages.ChecksFrom (checking_of (from + length dirs)) })) (ends (done (w.lines ++ dirs)))
    (λ less. (h, record { there = less-by (from + length dirs) (length w.nodes) less; within = omega arith }, tt)) (λ past. h.apart)

abbrev is_some : {A : Type 0} → Option A → Type 0
is_some None = ⊥
is_some (Some x) = Unit {0}

abbrev value_or : {A : Type 0} → A → Option A → A
value_or other None = other
value_or other (Some x) = x

last-below : (nodes : List Made) (before index : ℕ) → last_dir nodes before ≡ Some index → index < before
last-below nodes zero index h = absurd (subst is_some (sym h) tt)
last-below nodes (suc n) index h = below-by (is_dir_at (slice_get nodes n)) (last_dir nodes n) h (λ k. last-below nodes n index k)
  where
    below-by : (b : Bool) (o : Option ℕ) → (if b then Some n else o) ≡ Some index → (o ≡ Some index → index < n) → index < suc n
    below-by true o is more = let same : n ≡ index = ap (λ (p : Option ℕ). value_or n p) is in omega (arith, same)
    below-by false o is more = omega (arith, more is)

set-or-check-keeps : (ids : List NodeId) (w : Standing) (o : Option ℕ) → ((index : ℕ) → o ≡ Some index → index < length w.nodes) → IsCounted ids w.place.start w.nodes w.page → Keeps ids (set_or_check w o)
set-or-check-keeps ids w None there h = check-keeps ids w 0 h
set-or-check-keeps ids w (Some index) there h = (h, there index refl, tt)

next-set-keeps : (ids : List NodeId) (w : Standing) (before : ℕ) → before ≤ length w.nodes → IsCounted ids w.place.start w.nodes w.page → Keeps ids (next_set w before)
unfolding next_set
next-set-keeps ids w before most h = set-or-check-keeps ids w (last_dir w.nodes before) (λ index is. omega (arith, last-below w.nodes before index is, most)) h

-- ---- lists

record IsGood (nodes : List Made) (page : List Found) : Type 0 where
  few : length nodes + length page ≤ most_nodes
  apart : are_apart same_id (ids_of nodes page) ≡ true

either-not : (a b : Bool) → a || b ≡ false → (a ≡ false) × (b ≡ false)
either-not true b h = absurd (cc h)
either-not false b h = (refl, h)

is-new : (nodes : List Made) (page : List Found) (id : NodeId) → was_told nodes page id ≡ false → list_all (λ x. not (same_id x id)) (ids_of nodes page) ≡ true
is-new nodes page id h =
    let two = either-not (list_any (λ (node : Made). node.source.0 == id.0) nodes) (list_any (λ (f : Found). f.id.0 == id.0) page) h in
    all-append (λ x. not (same_id x id)) (map made_source nodes) (map found_id page)
    (list_all-map (λ x. not (same_id x id)) made_source nodes ∙ none-any (λ (node : Made). node.source.0 == id.0) nodes two.0)
    (list_all-map (λ x. not (same_id x id)) found_id page ∙ none-any (λ (f : Found). f.id.0 == id.0) page two.1)

ids-snoc : (nodes : List Made) (page : List Found) (f : Found) → ids_of nodes (page ++ f ∷ []) ≡ ids_of nodes page ++ f.id ∷ []
ids-snoc nodes page f = ap (λ (ids : List NodeId). map made_source nodes ++ ids) (map-append found_id page (f ∷ [])) ∙ sym (append_assoc (map made_source nodes) (map found_id page) (f.id ∷ []))

more-than : (a b : ℕ) → nat_le a b ≡ false → b < a
more-than a b h = grind (arith, nat_tests, h)

good-more : (nodes : List Made) (page : List Found) (f : Found) → was_told nodes page f.id ≡ false → nat_le most_nodes (length nodes + length page) ≡ false → IsGood nodes page → IsGood nodes (page ++ f ∷ [])
good-more nodes page f new less h = record {
  few = omega (arith, more-than most_nodes (length nodes + length page) less, length-append page (f ∷ []));
  apart = subst (λ (ids : List NodeId). are_apart same_id ids ≡ true) (sym (ids-snoc nodes page f)) (apart-snoc same_id (ids_of nodes page) f.id h.apart (is-new nodes page f.id new));
}

good-by : (a b : Bool) (nodes : List Made) (page : List Found) (f : Found) (more : List Found) → was_told nodes page f.id ≡ a → nat_le most_nodes (length nodes + length page) ≡ b → IsGood nodes page
    → (if a then Err (bad From) else if b then Err too_many else Ok (page ++ f ∷ [])) ≡ Ok more → IsGood nodes more
good-by true b nodes page f more told less h is = no-page (bad From) more is
good-by false true nodes page f more told less h is = no-page too_many more is
good-by false false nodes page f more told less h is = subst (λ (fs : List Found). IsGood nodes fs) (ap (λ (r : Result (List Found) Ended). ok-page more r) is) (good-more nodes page f told less h)

good-found : (nodes : List Made) (page : List Found) (o : Option Found) (more : List Found) → IsGood nodes page → with_found nodes page o ≡ Ok more → IsGood nodes more
good-found nodes page None more h is = no-page (bad From) more is
good-found nodes page (Some f) more h is = good-by (was_told nodes page f.id) (nat_le most_nodes (length nodes + length page)) nodes page f more refl refl h is

good-step : (nodes : List Made) (from : List Found) (row : ListEntry) (rows : List ListEntry) (page : List Found) (r : Result (List Found) Ended) → with_found nodes from (found_in row.values) ≡ r → IsGood nodes from
    → ((more : List Found) → IsGood nodes more → page_from nodes more rows ≡ Ok page → IsGood nodes page) → and_then r (λ more. page_from nodes more rows) ≡ Ok page → IsGood nodes page
good-step nodes from row rows page (Ok more) is h rest same = rest more (good-found nodes from (found_in row.values) more h is) same
good-step nodes from row rows page (Err e) is h rest same = no-page e page same

good-page : (nodes : List Made) (from : List Found) (rows : List ListEntry) (page : List Found) → IsGood nodes from → page_from nodes from rows ≡ Ok page → IsGood nodes page
unfolding page_from
good-page nodes from [] page h is = subst (λ (fs : List Found). IsGood nodes fs) (ap (λ (r : Result (List Found) Ended). ok-page page r) is) h
good-page nodes from (row ∷ rows) page h is = good-step nodes from row rows page (with_found nodes from (found_in row.values)) refl h (λ more k same. good-page nodes more rows page k same) is

-- behind a page's nodes, where there was none
good-start : (ids : List NodeId) (w : Standing) → IsCounted ids w.place.start w.nodes w.page → w.page ≡ [] → IsGood w.nodes []
good-start ids w h none = record {
  few = subst (λ (page : List Found). length w.nodes + length page ≤ most_nodes) none h.few;
  apart = subst (λ (page : List Found). are_apart same_id (ids_of w.nodes page) ≡ true) none (subst (λ (xs : List NodeId). are_apart same_id xs ≡ true) (sym h.known) h.apart);
}

page-ids : (ids : List NodeId) (w : Standing) (rows : List ListEntry) (page : List Found) → IsCounted ids w.place.start w.nodes w.page → w.page ≡ [] → page_from w.nodes [] rows ≡ Ok page → ids_of w.nodes page ≡ ids ++ ids_in rows
page-ids ids w rows page h none is =
    ap (λ (xs : List NodeId). map made_source w.nodes ++ xs) (ids-are w.nodes [] rows page is).ids
    ∙ ap (λ (xs : List NodeId). xs ++ ids_in rows) (sym (append-nil (map made_source w.nodes)) ∙ ap (λ (fs : List Found). ids_of w.nodes fs) (sym none) ∙ h.known)

page-counted : (ids : List NodeId) (w : Standing) (rows : List ListEntry) (page : List Found) → IsCounted ids w.place.start w.nodes w.page → w.page ≡ [] → page_from w.nodes [] rows ≡ Ok page → IsCounted (ids ++ ids_in rows) (w.place.start + length page) w.nodes page
page-counted ids w rows page h none is =
    let g : IsGood w.nodes page = good-page w.nodes [] rows page (good-start ids w h none) is in
    let same : ids_of w.nodes page ≡ ids ++ ids_in rows = page-ids ids w rows page h none is in
    record {
      start_is = omega (arith, h.start_is, ap (λ (fs : List Found). length fs) none);
      few = g.few;
      known = same;
      apart = subst (λ (xs : List NodeId). are_apart same_id xs ≡ true) same g.apart;
    }

page-keeps : (ids : List NodeId) (w : Standing) (row : ListEntry) (rows : List ListEntry) (r : Result (List Found) Ended) → IsCounted ids w.place.start w.nodes w.page → w.page ≡ [] → page_from w.nodes [] (row ∷ rows) ≡ r → Keeps (ids ++ ids_in (row ∷ rows)) (with_page w r)
page-keeps ids w row rows (Err (bad side)) h none is = tt
page-keeps ids w row rows (Err too_many) h none is = tt
page-keeps ids w row rows (Err (done lines)) h none is = absurd (page-not-done w.nodes (row ∷ rows) (done lines) is)
page-keeps ids w row rows (Err (refused side c node)) h none is = tt
page-keeps ids w row rows (Err (not_empty node)) h none is = tt
page-keeps ids w row rows (Err (changed node place)) h none is = tt
page-keeps ids w row rows (Ok page) h none is =
    if-any (Keeps (ids ++ ids_in (row ∷ rows))) (nat_lt (w.place.start + length page) (2 ^ 32)) (goes (record w { place = record w.place { start = w.place.start + length page }; page = page; stage = stages.Makes })) (ends too_many)
    (page-counted ids w (row ∷ rows) page h none is, omega (arith, (page-is w.nodes [] (row ∷ rows) page is).count), tt) tt

rows-keeps : (ids : List NodeId) (w : Standing) (rows : List ListEntry) → IsCounted ids w.place.start w.nodes w.page → w.page ≡ [] → Keeps (ids ++ ids_in rows) (listed_rows w rows)
unfolding listed_rows
rows-keeps ids w [] h none = tt
rows-keeps ids w (row ∷ rows) h none = page-keeps ids w row rows (page_from w.nodes [] (row ∷ rows)) h none refl

restart : (ids : List NodeId) (start : ℕ) (nodes : List Made) (page : List Found) → IsCounted ids start nodes page → IsCounted ids 1 nodes page
restart ids start nodes page h = record { start_is = omega arith; few = h.few; known = h.known; apart = h.apart }

place-keeps : (ids : List NodeId) (w : Standing) (o : Option ℕ) → IsCounted ids w.place.start w.nodes w.page → w.page ≡ [] → Keeps ids (list_or_set w o)
place-keeps ids w None h none = next-set-keeps ids w (length w.nodes) (omega arith) h
place-keeps ids w (Some index) h none = at-node (slice_get w.nodes index)
  where
    at-node : (o : Option Made) → Keeps ids (goes (record w { place = place_at o index w.place; stage = stages.Lists }))
    at-node None = (h, tt, none)
    at-node (Some node) = (restart ids w.place.start w.nodes w.page h, tt, none)

next-place-keeps : (ids : List NodeId) (w : Standing) → IsCounted ids w.place.start w.nodes w.page → w.page ≡ [] → Keeps ids (next_place w)
unfolding next_place
next-place-keeps ids w h none = place-keeps ids w (next_dir (drop w.place.next w.nodes) w.place.next) h none

same-ids : (ids : List NodeId) (n : Next) → Keeps ids n → Keeps (ids ++ []) n
same-ids ids n k = subst (λ (xs : List NodeId). Keeps xs n) (sym (append-nil ids)) k

listed-by : (a b : Bool) (ids : List NodeId) (w : Standing) (o : Option (List ListEntry)) (side : Side) (c : Code) (node : NodeId) → IsCounted ids w.place.start w.nodes w.page → w.page ≡ []
    → Keeps (ids ++ given_by (if a then o else None)) (if a then needs From o (listed_rows w) else if b then next_place w else ends (refused side c node))
listed-by true b ids w None side c node h none = tt
listed-by true b ids w (Some rows) side c node h none = rows-keeps ids w rows h none
listed-by false true ids w o side c node h none = same-ids ids (next_place w) (next-place-keeps ids w h none)
listed-by false false ids w o side c node h none = tt

-- ---- nodes that are made

one-counted : (ids : List NodeId) (w : Standing) (target : NodeId) (f : Found) (page : List Found) → w.page ≡ f ∷ page → IsCounted ids w.place.start w.nodes w.page → IsCounted ids w.place.start (w.nodes ++ made_of w.place.here f target ∷ []) page
one-counted ids w target f page is h =
    let nodes : length (w.nodes ++ made_of w.place.here f target ∷ []) ≡ length w.nodes + 1 = length-append w.nodes (made_of w.place.here f target ∷ []) in
    let count : length w.page ≡ suc (length page) = ap (λ (fs : List Found). length fs) is in
    record {
      start_is = omega (arith, h.start_is, nodes, count);
      few = omega (arith, h.few, nodes, count);
      known = known-on w target f page is ∙ h.known;
      apart = h.apart;
    }

first-keeps : (ids : List NodeId) (w : Standing) (target : NodeId) (page : List Found) → w.page ≡ page → IsCounted ids w.place.start w.nodes w.page → Keeps ids (made_first w target page)
first-keeps ids w target [] is h = tt
first-keeps ids w target (f ∷ []) is h = (one-counted ids w target f [] is h, tt, refl)
first-keeps ids w target (f ∷ g ∷ page) is h = (one-counted ids w target f (g ∷ page) is h, omega arith, tt)

next-made-keeps : (ids : List NodeId) (w : Standing) (target : NodeId) → IsCounted ids w.place.start w.nodes w.page → Keeps ids (next_made w target)
unfolding next_made
next-made-keeps ids w target h = first-keeps ids w target w.page refl h

-- ---- a step

looks-keeps : (ids : List NodeId) (w : Standing) (c : Code) (reply : Reply) → IsHere stages.Looks w ids → Keeps ids (looked w c reply)
unfolding looked
looks-keeps ids w c reply h =
    let given_node : Next = needs To (first_in (rows_in reply)) (λ node. ends (not_empty node)) in
    let listed_next : Next = goes (record w { place = first_place; stage = stages.Lists }) in
    if-any (Keeps ids) (is_ok c) given_node (if ends_list c then listed_next else ends (refused To c root)) (needs-any (Keeps ids) To (first_in (rows_in reply)) (λ node. ends (not_empty node)) tt (λ node. tt))
    (if-any (Keeps ids) (ends_list c) listed_next (ends (refused To c root)) (restart ids w.place.start w.nodes w.page h.0, tt, h.2) tt)

list-keeps : (ids : List NodeId) (w : Standing) (c : Code) (reply : Reply) → IsHere stages.Lists w ids → Keeps (ids ++ given_by (rows_told c (Some reply))) (listed w c reply)
unfolding listed
list-keeps ids w c reply h = listed-by (is_ok c) (ends_list c) ids w (rows_in reply) From c w.place.here.source h.0 h.2

makes-keeps : (ids : List NodeId) (w : Standing) (c : Code) (reply : Reply) → IsHere stages.Makes w ids → Keeps ids (made w c reply)
unfolding made
makes-keeps ids w c reply h =
    let made_dir : Next = needs To (node_in reply) (next_made w) in
    let made_file : Next = goes (record w { stage = stages.Finds }) in
    must-any (Keeps ids) c To w.place.here.target (if is_first_dir w.page then made_dir else made_file) tt
    (if-any (Keeps ids) (is_first_dir w.page) made_dir made_file (needs-any (Keeps ids) To (node_in reply) (next_made w) tt (λ target. next-made-keeps ids w target h.0)) h)

set-file-keeps : (ids : List NodeId) (w : Standing) (target : NodeId) (c : Code) → IsCounted ids w.place.start w.nodes w.page → Keeps ids (set_file w target c)
unfolding set_file
set-file-keeps ids w target c h = must-any (Keeps ids) c To target (next_made w target) tt (next-made-keeps ids w target h)

set-dir-keeps : (ids : List NodeId) (w : Standing) (index : ℕ) (c : Code) → IsHere (stages.SetsDir index) w ids → Keeps ids (set_dir w index c)
unfolding set_dir
set-dir-keeps ids w index c h = must-any (Keeps ids) c To (target_at (slice_get w.nodes index)) (next_set w index) tt (next-set-keeps ids w index (omega (arith, h.1)) h.0)

copying-fits : (page len more : ℕ) (copying new : Copying) → FitsCopying page copying more → copying.len + more ≡ new.len → FitsCopying page new 0
copying-fits page len more copying new h same = record { there = h.there; within = omega (arith, h.within, same) }

checking-fits : (nodes more : ℕ) (checking new : Checking) → FitsChecking nodes checking more → checking.index ≡ new.index → checking.len + more ≡ new.len → FitsChecking nodes new 0
checking-fits nodes more checking new h index same = record { there = omega (arith, h.there, index); within = omega (arith, h.within, same) }

reads-keeps : (ids : List NodeId) (w : Standing) (copying : Copying) (c : Code) (reply : Reply) → IsHere (stages.Reads copying) w ids → Keeps ids (read_piece w copying c reply)
unfolding read_piece
reads-keeps ids w copying c reply h =
    read-by (Keeps ids) From (first_id w.page) copying.len c reply (λ piece last. goes (record w { piece = piece; stage = write_or_close copying piece last })) tt tt
    (λ piece last asked most. goes-any (Keeps ids) (record w { piece = piece }) (is_empty piece) (stages.ClosesFrom copying) (stages.Writes copying last)
    (h.0, h.1, tt) (h.0, (record { there = h.1.there; within = most }, asked-short last piece asked), tt))

writes-keeps : (ids : List NodeId) (w : Standing) (copying : Copying) (last : Bool) (c : Code) → IsHere (stages.Writes copying last) w ids → Keeps ids (written w copying last c)
unfolding written
writes-keeps ids w copying last c h =
    let next : Copying = record copying { len = copying.len + length w.piece } in
    let fits : FitsCopying (length w.page) next 0 = record { there = h.1.0.there; within = omega (arith, h.1.0.within) } in
    must-any (Keeps ids) c To copying.target (goes (record w { stage = close_or_read next last })) tt
    (goes-any (Keeps ids) w last (stages.ClosesFrom next) (stages.Reads next) (h.0, fits, tt) (h.0, fits, tt))

closes-keeps : (ids : List NodeId) (w : Standing) (copying : Copying) (c : Code) → IsHere (stages.ClosesTo copying) w ids → Keeps ids (closed_to w copying c)
unfolding closed_to
closes-keeps ids w copying c h =
    must-any (Keeps ids) c To copying.target (goes (record w { stage = set_or_open copying })) tt
    (goes-any (Keeps ids) w copying.resource (stages.SetsFile copying.target) (stages.OpensFrom (record copying { resource = true; len = 0 })) (h.0, h.1.there, tt) (h.0, record { there = h.1.there; within = omega arith }, tt))

read-from-keeps : (ids : List NodeId) (w : Standing) (checking : Checking) (c : Code) (reply : Reply) → IsHere (stages.ReadsFrom checking) w ids → Keeps ids (read_from w checking c reply)
unfolding read_from
read-from-keeps ids w checking c reply h =
    read-by (Keeps ids) From (source_at (slice_get w.nodes checking.index)) checking.len c reply (λ piece last. goes (record w { piece = piece; stage = stages.ReadsTo checking last })) tt tt
    (λ piece last asked most. (h.0, record { there = h.1.there; within = most }, tt))

read-to-keeps : (ids : List NodeId) (w : Standing) (checking : Checking) (last : Bool) (c : Code) (reply : Reply) → IsHere (stages.ReadsTo checking last) w ids → Keeps ids (read_to w checking last c reply)
unfolding read_to
read-to-keeps ids w checking last c reply h =
    read-by (Keeps ids) To (target_at (slice_get w.nodes checking.index)) checking.len c reply (compared w checking last) tt tt
    (λ piece ended asked most.
    let next : Checking = record checking { len = checking.len + length piece } in
    let fits : FitsChecking (length w.nodes) next 0 = record { there = h.1.there; within = omega (arith, most) } in
    if-any (Keeps ids) (bytes_eq piece w.piece) (goes (record w { stage = shut_or_read next last })) (ends (changed (target_at (slice_get w.nodes checking.index)) (checking.len + first_difference w.piece piece)))
    (goes-any (Keeps ids) w last (stages.ShutsFrom next) (stages.ReadsFrom next) (h.0, fits, tt) (h.0, fits, tt)) tt)

shut-to-keeps : (ids : List NodeId) (w : Standing) (checking : Checking) (c : Code) → IsHere (stages.ShutsTo checking) w ids → Keeps ids (shut_to w checking c)
unfolding shut_to
shut-to-keeps ids w checking c h =
    let with_line : Standing = record w { lines = lines_with w.lines (slice_get w.nodes checking.index) checking } in
    let again : Next = goes (record w { stage = stages.ChecksFrom (record checking { resource = true; len = 0; data_len = checking.len }) }) in
    must-any (Keeps ids) c To (target_at (slice_get w.nodes checking.index)) (if checking.resource then next_check with_line (checking.index + 1) else again) tt
    (if-any (Keeps ids) checking.resource (next_check with_line (checking.index + 1)) again (check-keeps ids with_line (checking.index + 1) h.0) (h.0, record { there = h.1.there; within = omega arith }, tt))

-- a call that must be told Ok, and a value that its reply must have
value-keeps : {A : Type 0} (ids : List NodeId) (c : Code) (side : Side) (node : NodeId) (o : Option A) (f : A → Standing) → ((v : A) → Keeps ids (goes (f v))) → Keeps ids (must c side node (needs side o (λ v. goes (f v))))
value-keeps ids c side node o f k = must-any (Keeps ids) c side node (needs side o (λ v. goes (f v))) tt (needs-any (Keeps ids) side o (λ v. goes (f v)) tt k)

abbrev ids_then : Stage → Standing → Code → Reply → List NodeId → List NodeId
ids_then stages.Lists w c reply ids = ids ++ given_by (rows_told c (Some reply))
ids_then stage w c reply ids = ids

step : (stage : Stage) (w : Standing) (c : Code) (reply : Reply) (ids : List NodeId) → IsHere stage w ids → Keeps (ids_then stage w c reply ids) (follows_at stage w c reply)
unfolding found_file opened_from opened_to closed_from checked_from checked_to shut_from
step stages.OpensSource w c reply ids h = value-keeps ids c From root (volume_in reply) (λ v. record w { from_volume = v; stage = stages.OpensTarget }) (λ v. h)
step stages.OpensTarget w c reply ids h = value-keeps ids c To root (volume_in reply) (λ v. record w { to_volume = v; stage = stages.Looks }) (λ v. h)
step stages.Looks w c reply ids h = looks-keeps ids w c reply h
step stages.Lists w c reply ids h = list-keeps ids w c reply h
step stages.Makes w c reply ids h = makes-keeps ids w c reply h
step stages.Finds w c reply ids h = value-keeps ids c To w.place.here.target (found_id_in reply) (λ v. record w { stage = stages.OpensFrom (copying_of v) }) (λ v. (h.0, record { there = h.1; within = omega arith }, tt))
step (stages.OpensFrom copying) w c reply ids h = value-keeps ids c From (first_id w.page) (fork_in reply) (λ v. record w { stage = stages.OpensTo (record copying { from = v }) }) (λ v. (h.0, record { there = h.1.there; within = h.1.within }, tt))
step (stages.OpensTo copying) w c reply ids h = value-keeps ids c To copying.target (fork_in reply) (λ v. record w { stage = stages.Reads (record copying { to = v }) }) (λ v. (h.0, record { there = h.1.there; within = h.1.within }, tt))
step (stages.Reads copying) w c reply ids h = reads-keeps ids w copying c reply h
step (stages.Writes copying last) w c reply ids h = writes-keeps ids w copying last c h
step (stages.ClosesFrom copying) w c reply ids h = must-any (Keeps ids) c From (first_id w.page) (goes (record w { stage = stages.ClosesTo copying })) tt h
step (stages.ClosesTo copying) w c reply ids h = closes-keeps ids w copying c h
step (stages.SetsFile target) w c reply ids h = set-file-keeps ids w target c h.0
step (stages.SetsDir index) w c reply ids h = set-dir-keeps ids w index c h
step (stages.ChecksFrom checking) w c reply ids h = value-keeps ids c From (source_at (slice_get w.nodes checking.index)) (fork_in reply) (λ v. record w { stage = stages.ChecksTo (record checking { from = v }) }) (λ v. (h.0, record { there = h.1.there; within = h.1.within }, tt))
step (stages.ChecksTo checking) w c reply ids h = value-keeps ids c To (target_at (slice_get w.nodes checking.index)) (fork_in reply) (λ v. record w { stage = stages.ReadsFrom (record checking { to = v }) }) (λ v. (h.0, record { there = h.1.there; within = h.1.within }, tt))
step (stages.ReadsFrom checking) w c reply ids h = read-from-keeps ids w checking c reply h
step (stages.ReadsTo checking last) w c reply ids h = read-to-keeps ids w checking last c reply h
step (stages.ShutsFrom checking) w c reply ids h = must-any (Keeps ids) c From (source_at (slice_get w.nodes checking.index)) (goes (record w { stage = stages.ShutsTo checking })) tt h
step (stages.ShutsTo checking) w c reply ids h = shut-to-keeps ids w checking c h

-- ---- a run

then-ids : (stage : Stage) (w : Standing) (c : Code) (reply : Reply) (ids : List NodeId) → ids_then stage w c reply ids ≡ ids ++ given_in (listing_at stage w c reply)
then-ids stages.OpensSource w c reply ids = sym (append-nil ids)
then-ids stages.OpensTarget w c reply ids = sym (append-nil ids)
then-ids stages.Looks w c reply ids = sym (append-nil ids)
then-ids stages.Lists w c reply ids = ap (λ (xs : List NodeId). ids ++ xs) (sym (append-nil (given_by (rows_told c (Some reply)))))
then-ids stages.Makes w c reply ids = sym (append-nil ids)
then-ids stages.Finds w c reply ids = sym (append-nil ids)
then-ids (stages.OpensFrom copying) w c reply ids = sym (append-nil ids)
then-ids (stages.OpensTo copying) w c reply ids = sym (append-nil ids)
then-ids (stages.Reads copying) w c reply ids = sym (append-nil ids)
then-ids (stages.Writes copying last) w c reply ids = sym (append-nil ids)
then-ids (stages.ClosesFrom copying) w c reply ids = sym (append-nil ids)
then-ids (stages.ClosesTo copying) w c reply ids = sym (append-nil ids)
then-ids (stages.SetsFile target) w c reply ids = sym (append-nil ids)
then-ids (stages.SetsDir index) w c reply ids = sym (append-nil ids)
then-ids (stages.ChecksFrom checking) w c reply ids = sym (append-nil ids)
then-ids (stages.ChecksTo checking) w c reply ids = sym (append-nil ids)
then-ids (stages.ReadsFrom checking) w c reply ids = sym (append-nil ids)
then-ids (stages.ReadsTo checking last) w c reply ids = sym (append-nil ids)
then-ids (stages.ShutsFrom checking) w c reply ids = sym (append-nil ids)
then-ids (stages.ShutsTo checking) w c reply ids = sym (append-nil ids)

turn-ids : (w : Standing) (t : Turn) (turns : List Turn) (reply : Reply) (ids : List NodeId) → IsTurn w t → t.reply ≡ Some reply → ids_then w.stage w t.answer.code reply ids ++ given_in (lists_of turns) ≡ ids ++ given_in (lists_of (t ∷ turns))
turn-ids w t turns reply ids turn is =
    let one : List Listing = listing t.side t.call (rows_told t.answer.code t.reply) in
    ap (λ (xs : List NodeId). xs ++ given_in (lists_of turns)) (then-ids w.stage w t.answer.code reply ids ∙ ap (λ (l : List Listing). ids ++ given_in l) (sym (turn-lists w t reply turn is)))
    ∙ append_assoc ids (given_in one) (given_in (lists_of turns))
    ∙ ap (λ (xs : List NodeId). ids ++ xs) (sym (given-append one (lists_of turns)))

ended-at : (e : Ended) (ids : List NodeId) (turns : List Turn) (last : Next) → Keeps ids (ends e) → Leads (ends e) turns last → Keeps (ids ++ given_in (lists_of turns)) last
ended-at e ids [] last k l = subst (λ (n : Next). Keeps (ids ++ []) n) (sym l) (same-ids ids (ends e) k)
ended-at e ids (t ∷ turns) last k l = absurd l

behind : (n : Next) (ids : List NodeId) (turns : List Turn) (last : Next) → ((w : Standing) → IsHere w.stage w ids → Leads (goes w) turns last → Keeps (ids ++ given_in (lists_of turns)) last) → Keeps ids n → Leads n turns last → Keeps (ids ++ given_in (lists_of turns)) last
behind (goes w) ids turns last more k l = more w k l
behind (ends e) ids turns last more k l = ended-at e ids turns last k l

abbrev Along : List Turn → Next → Type 0
Along turns last = (ids : List NodeId) (w : Standing) → IsHere w.stage w ids → Leads (goes w) turns last → Keeps (ids ++ given_in (lists_of turns)) last

any-bad : (ids other : List NodeId) (side : Side) (turns : List Turn) (last : Next) → Leads (ends (bad side)) turns last → Keeps ids last
any-bad ids other side [] last l = subst (λ (n : Next). Keeps ids n) (sym l) tt
any-bad ids other side (t ∷ turns) last l = absurd l

seen-on : (w : Standing) (t : Turn) (turns : List Turn) (ids : List NodeId) (last : Next) (o : Option Reply) → t.reply ≡ o → IsHere w.stage w ids → IsTurn w t → Along turns last → Leads (seen w t.side t.answer o) turns last → Keeps (ids ++ given_in (lists_of (t ∷ turns))) last
unfolding follows
seen-on w t turns ids last None is h turn more l = any-bad (ids ++ given_in (lists_of (t ∷ turns))) ids t.side turns last l
seen-on w t turns ids last (Some reply) is h turn more l =
    let now : List NodeId = ids_then w.stage w t.answer.code reply ids in
    subst (λ (xs : List NodeId). Keeps xs last) (turn-ids w t turns reply ids turn is)
    (behind (follows w t.answer.code reply) now turns last (λ v k m. more now v k m) (step w.stage w t.answer.code reply ids h) l)

along : (turns : List Turn) (last : Next) → Along turns last
along [] last ids w h l = subst (λ (n : Next). Keeps (ids ++ []) n) (sym l) (same-ids ids (goes w) h)
along (t ∷ turns) last ids w h l = seen-on w t turns ids last t.reply refl h l.0 (along turns last) l.1

pub reached : (source target : List ℕ) (turns : List Turn) (last : Next) → Leads (goes (first source target)) turns last → Keeps (given_in (lists_of turns)) last
reached source target turns last l = along turns last [] (first source target) (record { start_is = omega arith; few = omega arith; known = refl; apart = refl }, tt, refl) l

-- ---- the laws

pub reached-is-fit : ReachedIsFit
reached-is-fit source target turns w l = (reached source target turns (goes w) l).1

is-same : (a b id : ℕ) → (a == id) ≡ true → (a == b) ≡ (id == b)
is-same a b id h = grind (arith, nat_tests, h)

none-more : (n : ℕ) → 0 + n ≡ n
none-more n = omega arith

count-once : (ids : List NodeId) (id : ℕ) → are_apart same_id ids ≡ true → count_by (λ (x : NodeId). x.0 == id) ids ≡ (if list_any (λ (x : NodeId). x.0 == id) ids then 1 else 0)
count-once [] id h = refl
count-once (x ∷ ids) id h =
    let e = and_parts (not (list_any (same_id x) ids)) (are_apart same_id ids) h in
    sum_by-cons (λ (y : NodeId). cond (y.0 == id) 1 0) x ids ∙ once-by (x.0 == id) refl e.0 (count-once ids id e.1)
  where
    others : (x.0 == id) ≡ true → not (list_any (same_id x) ids) ≡ true → count_by (λ (y : NodeId). y.0 == id) ids ≡ 0
    others here none = count-none (λ (y : NodeId). y.0 == id) ids (all-weaker (λ (y : NodeId). not (same_id x y)) (λ (y : NodeId). not (y.0 == id)) ids (λ y k. ap not (eqb_turn y.0 id ∙ sym (is-same x.0 y.0 id here)) ∙ k) (none-all (same_id x) ids none))

    once-by : (b : Bool) → (x.0 == id) ≡ b → not (list_any (same_id x) ids) ≡ true → count_by (λ (y : NodeId). y.0 == id) ids ≡ (if list_any (λ (y : NodeId). y.0 == id) ids then 1 else 0)
        → cond b 1 0 + count_by (λ (y : NodeId). y.0 == id) ids ≡ (if b || list_any (λ (y : NodeId). y.0 == id) ids then 1 else 0)
    once-by true here none rest = ap (λ (n : ℕ). 1 + n) (others here none)
    once-by false here none rest = none-more (count_by (λ (y : NodeId). y.0 == id) ids) ∙ rest

count-map : {A B : Type 0} (p : B → Bool) (f : A → B) (xs : List A) → count_by p (map f xs) ≡ count_by (λ x. p (f x)) xs
count-map p f [] = refl
count-map {A} {B} p f (x ∷ xs) =
    sum_by-cons (λ (y : B). cond (p y) 1 0) (f x) (map f xs)
    ∙ ap (λ (n : ℕ). cond (p (f x)) 1 0 + n) (count-map p f xs)
    ∙ sym (sum_by-cons (λ (y : A). cond (p (f y)) 1 0) x xs)

pub each-has-one-line : EachHasOneLine
each-has-one-line source target turns lines id l =
    let ids : List NodeId = given_in (lists_of turns) in
    sym (count-map (λ (x : NodeId). x.0 == id) source_of lines)
    ∙ ap (λ (xs : List NodeId). count_by (λ (x : NodeId). x.0 == id) xs) (done-pairs source target turns lines l).0
    ∙ count-once ids id (reached source target turns (ends (done lines)) l)

-- ---- the 10,001st node

list-count : (ids : List NodeId) (nodes : List Made) (page : List Found) (start : ℕ) → IsCounted ids start nodes page → page ≡ [] → length ids ≡ length nodes
list-count ids nodes page start h none =
    ap (λ (xs : List NodeId). length xs) (sym h.known)
    ∙ ap (λ (fs : List Found). length (ids_of nodes fs)) none
    ∙ ap (λ (xs : List NodeId). length xs) (append-nil (map made_source nodes))
    ∙ length-map nodes made_source

over-most : (nodes : List Made) (page : List Found) (o : Option Found) → is_over nodes page o ≡ true → most_nodes ≤ length nodes + length page
over-most nodes page None h = absurd (cc h)
over-most nodes page (Some f) h = at-most most_nodes (length nodes + length page) (and_parts (not (was_told nodes page f.id)) (nat_le most_nodes (length nodes + length page)) h).1

one-more : (turns : List Turn) (w : Standing) (rows : List ListEntry) → IsCounted (given_in (lists_of turns)) w.place.start w.nodes w.page → w.page ≡ [] → Reaches w.nodes rows (is_over w.nodes) → HasOneMore turns w.nodes rows
one-more turns w rows h none r =
    let ids : List NodeId = given_in (lists_of turns) in
    let g : IsGood w.nodes r.page = good-page w.nodes [] r.before r.page (good-start ids w h none) r.good in
    record {
      reaches = r;
      count = omega (arith, g.few, over-most w.nodes r.page (found_in r.row.values) r.here, list-count ids w.nodes w.page w.place.start h none, (page-is w.nodes [] r.before r.page r.good).count);
    }

never-past : {P : Type 0} (ids : List NodeId) (w : Standing) (rows : List ListEntry) → IsCounted ids w.place.start w.nodes w.page → w.page ≡ [] → IsPast w.place.start w.nodes rows → P
never-past ids w rows h none p =
    let g : IsGood w.nodes p.page = good-page w.nodes [] rows p.page (good-start ids w h none) p.good in
    absurd (omega (arith, g.few, h.start_is, p.past, ap (λ (fs : List Found). length fs) none))

long-is-more : (turns : List Turn) (w : Standing) (o : Option (List ListEntry)) → IsCounted (given_in (lists_of turns)) w.place.start w.nodes w.page → w.page ≡ [] → IsLongList w o → ListHasOneMore turns w.nodes o
long-is-more turns w None h none long = long
long-is-more turns w (Some []) h none long = absurd long
long-is-more turns w (Some (row ∷ rows)) h none (inl r) = one-more turns w (row ∷ rows) h none r
long-is-more turns w (Some (row ∷ rows)) h none (inr p) = never-past (given_in (lists_of turns)) w (row ∷ rows) h none p

no-cons : {A : Type 0} {P : Type 0} (xs : List A) (x : A) (ys : List A) → [] ≡ xs ++ x ∷ ys → P
no-cons {A} [] x ys h = absurd (omega (arith, ap (λ (zs : List A). length zs) h))
no-cons {A} (y ∷ xs) x ys h = absurd (omega (arith, ap (λ (zs : List A). length zs) h))

more-is-long : (turns : List Turn) (w : Standing) (o : Option (List ListEntry)) → ListHasOneMore turns w.nodes o → IsLongList w o
more-is-long turns w None h = h
more-is-long turns w (Some []) h = no-cons h.reaches.before h.reaches.row h.reaches.after h.reaches.rows_are
more-is-long turns w (Some (row ∷ rows)) h = inl h.reaches

over-is-more : (stage : Stage) (turns : List Turn) (w : Standing) (c : Code) (reply : Reply) → IsHere stage w (given_in (lists_of turns)) → IsTooMany stage w c reply → IsOneMore turns stage w c reply
over-is-more stages.OpensSource turns w c reply h k = k
over-is-more stages.OpensTarget turns w c reply h k = k
over-is-more stages.Looks turns w c reply h k = k
over-is-more stages.Lists turns w c reply h k = (k.0, long-is-more turns w (rows_in reply) h.0 h.2 k.1)
over-is-more stages.Makes turns w c reply h k = k
over-is-more stages.Finds turns w c reply h k = k
over-is-more (stages.OpensFrom copying) turns w c reply h k = k
over-is-more (stages.OpensTo copying) turns w c reply h k = k
over-is-more (stages.Reads copying) turns w c reply h k = k
over-is-more (stages.Writes copying last) turns w c reply h k = k
over-is-more (stages.ClosesFrom copying) turns w c reply h k = k
over-is-more (stages.ClosesTo copying) turns w c reply h k = k
over-is-more (stages.SetsFile target) turns w c reply h k = k
over-is-more (stages.SetsDir index) turns w c reply h k = k
over-is-more (stages.ChecksFrom checking) turns w c reply h k = k
over-is-more (stages.ChecksTo checking) turns w c reply h k = k
over-is-more (stages.ReadsFrom checking) turns w c reply h k = k
over-is-more (stages.ReadsTo checking last) turns w c reply h k = k
over-is-more (stages.ShutsFrom checking) turns w c reply h k = k
over-is-more (stages.ShutsTo checking) turns w c reply h k = k

more-is-over : (stage : Stage) (turns : List Turn) (w : Standing) (c : Code) (reply : Reply) → IsOneMore turns stage w c reply → IsTooMany stage w c reply
more-is-over stages.OpensSource turns w c reply k = k
more-is-over stages.OpensTarget turns w c reply k = k
more-is-over stages.Looks turns w c reply k = k
more-is-over stages.Lists turns w c reply k = (k.0, more-is-long turns w (rows_in reply) k.1)
more-is-over stages.Makes turns w c reply k = k
more-is-over stages.Finds turns w c reply k = k
more-is-over (stages.OpensFrom copying) turns w c reply k = k
more-is-over (stages.OpensTo copying) turns w c reply k = k
more-is-over (stages.Reads copying) turns w c reply k = k
more-is-over (stages.Writes copying last) turns w c reply k = k
more-is-over (stages.ClosesFrom copying) turns w c reply k = k
more-is-over (stages.ClosesTo copying) turns w c reply k = k
more-is-over (stages.SetsFile target) turns w c reply k = k
more-is-over (stages.SetsDir index) turns w c reply k = k
more-is-over (stages.ChecksFrom checking) turns w c reply k = k
more-is-over (stages.ChecksTo checking) turns w c reply k = k
more-is-over (stages.ReadsFrom checking) turns w c reply k = k
more-is-over (stages.ReadsTo checking last) turns w c reply k = k
more-is-over (stages.ShutsFrom checking) turns w c reply k = k
more-is-over (stages.ShutsTo checking) turns w c reply k = k

pub too-many-is-one-more : TooManyIsOneMore
too-many-is-one-more source target turns w c reply l =
    let h : IsHere w.stage w (given_in (lists_of turns)) = reached source target turns (goes w) l in
    let exact = too-many-is-exact w c reply h.1 in
    (λ same. over-is-more w.stage turns w c reply h (exact.0 same), λ more. exact.1 (more-is-over w.stage turns w c reply more))
