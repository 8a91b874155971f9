-- Each row of the table comes from its cause, and from nothing else.
use Rattle.std.proofs.Common.{◌≡◌, inl, inr, ℕ, ◌+◌, ◌≤◌, ◌<◌, ◌^◌, Bool, true, false, not, ◌&&◌, ◌||◌, if◌then◌else◌, List, [], ◌∷◌, ◌++◌, length, drop, Option, Some, None, Result, Ok, Err, refl, sym, ap, ◌∙◌, subst, arith}
use Rattle.std.specs.Prelude.{nat_le, nat_lt, slice_get, bytes_eq}
use Rattle.std.proofs.lemmas.Bool.{cond-false, cond-true}
use Rattle.std.proofs.lemmas.Bool.Decides.{nat_tests}
use Rattle.afp_base.specs.Limits.{most_fork_bytes}
use Rattle.afp_base.specs.declared.code.Code.{Code}
use Rattle.afp_base.specs.declared.ids.NodeId.{NodeId}
use Rattle.afp_replies.specs.declared.list.ListEntry.{ListEntry}
use Rattle.afp_replies.specs.declared.reply.Reply.{Reply}
use Rattle.afp_mirror_walk.specs.Asks.{Asked, root}
use Rattle.afp_mirror_walk.specs.Table.{IsRefused, RefusalsEnd}
use Rattle.afp_mirror_walk.specs.declared.walk.standing.Checking.{Checking}
use Rattle.afp_mirror_walk.specs.Follows.{Ended, Next, and_then, bad, changed, checking_of, checked_from, close_or_read, checked_to, closed_from, closed_to, compared, dirs_before, done, ends, ends_fork, ends_list, first_difference, first_id, first_in, first_place, fork_in, found_id_in, is_first_dir, node_in, target_at, volume_in, follows, follows_at, found_file, goes, has_asked, is_ok, lines_with, list_or_set, listed, listed_rows, looked, made, made_first, most_nodes, must, needs, next_check, next_made, next_place, next_set, not_empty, opened_from, opened_to, page_from, piece_in, read_from, read_of, read_piece, read_to, read_told, refused, rows_in, set_dir, set_file, set_or_check, set_or_open, shut_from, shut_or_read, shut_to, source_at, too_many, was_told, with_found, with_page, write_or_close, written}
use Rattle.afp_mirror_walk.specs.Settings.{found_in}
use Rattle.afp_mirror_walk.specs.Standing.{Fits, Standing}
use Rattle.afp_mirror_walk.specs.declared.walk.ends.Line.{Line}
use Rattle.afp_mirror_walk.specs.declared.walk.ends.Side.{Side}
use Rattle.afp_mirror_walk.specs.declared.walk.ends.Side.TheVariants.{From, To}
use Rattle.afp_mirror_walk.specs.declared.walk.standing.Found.{Found}
use Rattle.afp_mirror_walk.specs.declared.walk.standing.Made.{Made}
use Rattle.afp_mirror_walk.specs.declared.walk.standing.Stage.{Stage}
use Rattle.afp_mirror_walk.specs.declared.walk.standing.Stage.TheVariants as stages
use Rattle.afp_mirror_laws.specs.Rows.{BadIsExact, ChangedIsExact, Differs, IsRefusedBy, Lacks, NotEmptyIsExact, RefusedIsExact, TooManyIsExact, IsBad, IsBadList, IsBadRead, IsChanged, IsLongList, IsNotEmpty, IsRefusal, IsTooMany, is_bad_entry, is_over, is_read, is_told}

-- ---- ends

abbrev is_goes : Next → Type 0
is_goes (goes w) = Unit {0}
is_goes (ends end) = ⊥

not-goes : {P : Type 0} (w : Standing) (e : Ended) → goes w ≡ ends e → P
not-goes w e same = absurd (subst is_goes same tt)

abbrev end_of : Ended → Next → Ended
end_of other (ends e) = e
end_of other (goes w) = other

pub same_end : (a b : Ended) → ends a ≡ ends b → a ≡ b
same_end a b same = ap (λ (n : Next). end_of a n) same

from-end : (P : Ended → Type 0) (a b : Ended) → ends a ≡ ends b → P a → P b
from-end P a b same p = subst P (same_end a b same) p

abbrev err_of : Ended → Result (List Found) Ended → Ended
err_of other (Err e) = e
err_of other (Ok page) = other

abbrev err : Ended → Result (List Found) Ended
err e = Err e

from-err : (P : Ended → Type 0) (a b : Ended) → err a ≡ err b → P a → P b
from-err P a b same p = subst P (ap (λ (r : Result (List Found) Ended). err_of a r) same) p

abbrev is_page : Result (List Found) Ended → Type 0
is_page (Ok page) = Unit {0}
is_page (Err e) = ⊥

not-page : {P : Type 0} (page : List Found) (e : Ended) → Ok page ≡ Err e → P
not-page page e same = absurd (subst is_page same tt)

-- ---- tests

must-by : (b : Bool) (P : Ended → Type 0) (r : Ended) (next : Next) → (b ≡ false → P r) → (e : Ended) → (b ≡ true → next ≡ ends e → P e) → (if b then next else ends r) ≡ ends e → P e
must-by true P r next fails e passes same = passes refl same
must-by false P r next fails e passes same = from-end P r e same (fails refl)

needs-by : {A : Type 0} (P : Ended → Type 0) (side : Side) (o : Option A) (f : A → Next) → (o ≡ None → P (bad side)) → (e : Ended) → ((v : A) → o ≡ Some v → f v ≡ ends e → P e) → needs side o f ≡ ends e → P e
needs-by P side None f fails e passes same = from-end P (bad side) e same (fails refl)
needs-by P side (Some v) f fails e passes same = passes v refl same

-- a call that must be told Ok, and a value that its reply must have
value-row : {A : Type 0} (P : Ended → Type 0) (c : Code) (side : Side) (node : NodeId) (o : Option A) (f : A → Standing) → (is_ok c ≡ false → P (refused side c node)) → (is_ok c ≡ true → o ≡ None → P (bad side)) → (e : Ended)
    → must c side node (needs side o (λ v. goes (f v))) ≡ ends e → P e
value-row P c side node o f fails lacks e same =
    must-by (is_ok c) P (refused side c node) (needs side o (λ v. goes (f v))) fails e
    (λ ok next. needs-by P side o (λ v. goes (f v)) (lacks ok) e (λ v is last. not-goes (f v) e last) next) same

plain-row : (P : Ended → Type 0) (c : Code) (side : Side) (node : NodeId) (w : Standing) → (is_ok c ≡ false → P (refused side c node)) → (e : Ended) → must c side node (goes w) ≡ ends e → P e
plain-row P c side node w fails e same = must-by (is_ok c) P (refused side c node) (goes w) fails e (λ ok next. not-goes w e next) same

-- what ends by nothing but Done
abbrev OnlyDone : Next → Type 0
OnlyDone (goes w) = Unit {0}
OnlyDone (ends (done lines)) = Unit {0}
OnlyDone (ends (refused side c node)) = ⊥
OnlyDone (ends (not_empty node)) = ⊥
OnlyDone (ends too_many) = ⊥
OnlyDone (ends (bad side)) = ⊥
OnlyDone (ends (changed node place)) = ⊥

done-by : (P : Ended → Type 0) (next : Next) → ((lines : List Line) → P (done lines)) → OnlyDone next → (e : Ended) → next ≡ ends e → P e
done-by P (goes w) d o e same = not-goes w e same
done-by P (ends (done lines)) d o e same = from-end P (done lines) e same (d lines)
done-by P (ends (refused side c node)) d o e same = absurd o
done-by P (ends (not_empty node)) d o e same = absurd o
done-by P (ends too_many) d o e same = absurd o
done-by P (ends (bad side)) d o e same = absurd o
done-by P (ends (changed node place)) d o e same = absurd o

if-done : (b : Bool) (x y : Next) → OnlyDone x → OnlyDone y → OnlyDone (if b then x else y)
if-done true x y h k = h
if-done false x y h k = k

check-done : (w : Standing) (from : ℕ) → OnlyDone (next_check w from)
unfolding next_check
check-done w from =
    let dirs : List Line = dirs_before (drop from w.nodes) in
    if-done (nat_lt (from + length dirs) (length w.nodes)) (goes (record w { lines = w.lines ++ dirs; stage = stages.ChecksFrom (checking_of (from + length dirs)) })) (ends (done (w.lines ++ dirs))) tt tt

set-done : (w : Standing) (o : Option ℕ) → OnlyDone (set_or_check w o)
set-done w None = check-done w 0
set-done w (Some index) = tt

next-set-done : (w : Standing) (before : ℕ) → OnlyDone (next_set w before)
unfolding next_set
next-set-done w before = set-done w _

list-done : (w : Standing) (o : Option ℕ) → OnlyDone (list_or_set w o)
list-done w None = next-set-done w (length w.nodes)
list-done w (Some index) = tt

next-place-done : (w : Standing) → OnlyDone (next_place w)
unfolding next_place
next-place-done w = list-done w _

first-done : (w : Standing) (target : NodeId) (page : List Found) → 0 < length page → OnlyDone (made_first w target page)
first-done w target [] h = absurd (omega (arith, h))
first-done w target (f ∷ page) h = tt

next-made-done : (w : Standing) (target : NodeId) → 0 < length w.page → OnlyDone (next_made w target)
unfolding next_made
next-made-done w target h = first-done w target w.page h

-- ---- reads

two-tests : (P : Ended → Type 0) (a b : Bool) (side : Side) (x : Next) → (a && b ≡ false → P (bad side)) → (e : Ended) → (a && b ≡ true → x ≡ ends e → P e) → (if a then (if b then x else ends (bad side)) else ends (bad side)) ≡ ends e → P e
two-tests P true true side x fails e passes same = passes refl same
two-tests P true false side x fails e passes same = from-end P (bad side) e same (fails refl)
two-tests P false b side x fails e passes same = from-end P (bad side) e same (fails refl)

read-of-by : (P : Ended → Type 0) (side : Side) (len : ℕ) (last : Bool) (o : Option (List ℕ)) (next : List ℕ → Bool → Next) → (is_read len last o ≡ false → P (bad side)) → (e : Ended)
    → ((piece : List ℕ) → o ≡ Some piece → is_read len last (Some piece) ≡ true → next piece last ≡ ends e → P e) → needs side o (read_of side len last next) ≡ ends e → P e
read-of-by P side len last None next fails e passes same = from-end P (bad side) e same (fails refl)
read-of-by P side len last (Some piece) next fails e passes same =
    two-tests P (has_asked last piece) (nat_le (len + length piece) most_fork_bytes) side (next piece last) fails e (λ good more. passes piece refl good more) same

reads-by : (a b : Bool) (P : Ended → Type 0) (side : Side) (r : Ended) (len : ℕ) (o : Option (List ℕ)) (next : List ℕ → Bool → Next) → (a ≡ false → b ≡ false → P r) → (a || b ≡ true → is_read len (not a) o ≡ false → P (bad side)) → (e : Ended)
    → ((piece : List ℕ) → o ≡ Some piece → a || b ≡ true → is_read len (not a) (Some piece) ≡ true → next piece (not a) ≡ ends e → P e)
    → (if a then needs side o (read_of side len false next) else if b then needs side o (read_of side len true next) else ends r) ≡ ends e → P e
reads-by true b P side r len o next fails wrong e passes same = read-of-by P side len false o next (wrong refl) e (λ piece is good more. passes piece is refl good more) same
reads-by false true P side r len o next fails wrong e passes same = read-of-by P side len true o next (wrong refl) e (λ piece is good more. passes piece is refl good more) same
reads-by false false P side r len o next fails wrong e passes same = from-end P r e same (fails refl refl)

read-row : (P : Ended → Type 0) (side : Side) (node : NodeId) (len : ℕ) (c : Code) (reply : Reply) (next : List ℕ → Bool → Next) → (is_ok c ≡ false → ends_fork c ≡ false → P (refused side c node)) → (IsBadRead len c (piece_in reply) → P (bad side)) → (e : Ended)
    → ((piece : List ℕ) → piece_in reply ≡ Some piece → is_told c ≡ true → is_read len (not (is_ok c)) (Some piece) ≡ true → next piece (not (is_ok c)) ≡ ends e → P e) → read_told side node len c reply next ≡ ends e → P e
read-row P side node len c reply next fails wrong e passes same =
    reads-by (is_ok c) (ends_fork c) P side (refused side c node) len (piece_in reply) next fails (λ told bad_read. wrong (record { told = told; bad = bad_read })) e passes same

compare-by : (b : Bool) (P : Ended → Type 0) (w : Standing) (x : Ended) → (b ≡ false → P x) → (e : Ended) → (if b then goes w else ends x) ≡ ends e → P e
compare-by true P w x fails e same = not-goes w e same
compare-by false P w x fails e same = from-end P x e same (fails refl)

-- ---- lists

pub record Stops (nodes : List Made) (from : List Found) (rows : List ListEntry) (e : Ended) : Type 0 where
  pub before : List ListEntry
  pub row : ListEntry
  pub after : List ListEntry
  pub page : List Found
  pub rows_are : rows ≡ before ++ row ∷ after
  pub good : page_from nodes from before ≡ Ok page
  pub stops : with_found nodes page (found_in row.values) ≡ Err e

page-step : (nodes : List Made) (from : List Found) (row : ListEntry) (rows : List ListEntry) (e : Ended) (r : Result (List Found) Ended) → with_found nodes from (found_in row.values) ≡ r
    → ((more : List Found) → page_from nodes more rows ≡ Err e → Stops nodes more rows e) → and_then r (λ more. page_from nodes more rows) ≡ Err e → Stops nodes from (row ∷ rows) e
unfolding page_from
page-step nodes from row rows e (Ok more) is rest same =
    let s : Stops nodes more rows e = rest more same in
    record {
      before = row ∷ s.before;
      row = s.row;
      after = s.after;
      page = s.page;
      rows_are = ap (λ (xs : List ListEntry). row ∷ xs) s.rows_are;
      good = ap (λ (r : Result (List Found) Ended). and_then r (λ more. page_from nodes more s.before)) is ∙ s.good;
      stops = s.stops;
    }
page-step nodes from row rows e (Err other) is rest same = record { before = []; row = row; after = rows; page = from; rows_are = refl; good = refl; stops = is ∙ same }

pub page-stops : (nodes : List Made) (from : List Found) (rows : List ListEntry) (e : Ended) → page_from nodes from rows ≡ Err e → Stops nodes from rows e
unfolding page_from
page-stops nodes from [] e same = not-page from e same
page-stops nodes from (row ∷ rows) e same = page-step nodes from row rows e (with_found nodes from (found_in row.values)) refl (λ more h. page-stops nodes more rows e h) same

found-by : (a b : Bool) (P : Ended → Type 0) (page : List Found) → (a ≡ true → P (bad From)) → (not a && b ≡ true → P too_many) → (e : Ended) → (if a then Err (bad From) else if b then Err too_many else Ok page) ≡ Err e → P e
found-by true b P page wrong over e same = from-err P (bad From) e same (wrong refl)
found-by false true P page wrong over e same = from-err P too_many e same (over refl)
found-by false false P page wrong over e same = not-page page e same

pub entry-by : (P : Ended → Type 0) (nodes : List Made) (page : List Found) (o : Option Found) → (is_bad_entry nodes page o ≡ true → P (bad From)) → (is_over nodes page o ≡ true → P too_many) → (e : Ended) → with_found nodes page o ≡ Err e → P e
entry-by P nodes page None wrong over e same = from-err P (bad From) e same (wrong refl)
entry-by P nodes page (Some f) wrong over e same = found-by (was_told nodes page f.id) (nat_le most_nodes (length nodes + length page)) P (page ++ f ∷ []) wrong over e same

not-less : (a b : ℕ) → nat_lt a b ≡ false → b ≤ a
not-less a b h = grind (arith, nat_tests, h)

past-by : (b : Bool) (P : Ended → Type 0) (w : Standing) → (b ≡ false → P too_many) → (e : Ended) → (if b then goes w else ends too_many) ≡ ends e → P e
past-by b P w past e same = compare-by b P w too_many past e same

page-row : (P : Ended → Type 0) (w : Standing) (row : ListEntry) (rows : List ListEntry) → (IsBadList w.nodes (Some (row ∷ rows)) → P (bad From)) → (IsLongList w (Some (row ∷ rows)) → P too_many) → (e : Ended) (r : Result (List Found) Ended)
    → page_from w.nodes [] (row ∷ rows) ≡ r → with_page w r ≡ ends e → P e
page-row P w row rows wrong long e (Err other) is same =
    let s : Stops w.nodes [] (row ∷ rows) other = page-stops w.nodes [] (row ∷ rows) other is in
    from-end P other e same
    (entry-by P w.nodes s.page (found_in s.row.values)
    (λ h. wrong (record { before = s.before; row = s.row; after = s.after; page = s.page; rows_are = s.rows_are; good = s.good; here = h }))
    (λ h. long (inl (record { before = s.before; row = s.row; after = s.after; page = s.page; rows_are = s.rows_are; good = s.good; here = h })))
    other s.stops)
page-row P w row rows wrong long e (Ok page) is same =
    past-by (nat_lt (w.place.start + length page) (2 ^ 32)) P (record w { place = record w.place { start = w.place.start + length page }; page = page; stage = stages.Makes }) (λ h. long (inr (record { page = page; good = is; past = not-less (w.place.start + length page) (2 ^ 32) h }))) e same

rows-row : (P : Ended → Type 0) (w : Standing) (rows : List ListEntry) → (IsBadList w.nodes (Some rows) → P (bad From)) → (IsLongList w (Some rows) → P too_many) → (e : Ended) → listed_rows w rows ≡ ends e → P e
unfolding listed_rows
rows-row P w [] wrong long e same = from-end P (bad From) e same (wrong tt)
rows-row P w (row ∷ rows) wrong long e same = page-row P w row rows wrong long e (page_from w.nodes [] (row ∷ rows)) refl same

list-by : (a b : Bool) (P : Ended → Type 0) (x y : Next) (r : Ended) → (a ≡ false → b ≡ false → P r) → (e : Ended) → (a ≡ true → x ≡ ends e → P e) → (y ≡ ends e → P e) → (if a then x else if b then y else ends r) ≡ ends e → P e
list-by true b P x y r fails e one other same = one refl same
list-by false true P x y r fails e one other same = other same
list-by false false P x y r fails e one other same = from-end P r e same (fails refl refl)

made-row : (b : Bool) (P : Ended → Type 0) (o : Option NodeId) (f : NodeId → Next) (w : Standing) → (o ≡ None → b ≡ true → P (bad To)) → ((v : NodeId) → OnlyDone (f v)) → ((lines : List Line) → P (done lines)) → (e : Ended)
    → (if b then needs To o f else goes w) ≡ ends e → P e
made-row true P o f w fails only d e same = needs-by P To o f (λ none. fails none refl) e (λ v is last. done-by P (f v) d (only v) e last) same
made-row false P o f w fails only d e same = not-goes w e same

-- ---- by where the mirror stands

abbrev Row : Ended → Stage → Standing → Code → Reply → Type 0
Row (done lines) stage w c reply = Unit {0}
Row (refused side code node) stage w c reply = IsRefusal stage c
Row (not_empty node) stage w c reply = IsNotEmpty stage c reply node
Row too_many stage w c reply = IsTooMany stage w c reply
Row (bad side) stage w c reply = IsBad stage w c reply side
Row (changed node place) stage w c reply = IsChanged stage w c reply node place

why-looks : (w : Standing) (c : Code) (reply : Reply) (e : Ended) → looked w c reply ≡ ends e → Row e stages.Looks w c reply
unfolding looked
why-looks w c reply e same =
    list-by (is_ok c) (ends_list c) (λ (x : Ended). Row x stages.Looks w c reply) (needs To (first_in (rows_in reply)) (λ node. ends (not_empty node))) (goes (record w { place = first_place; stage = stages.Lists })) (refused To c root) (λ h k. (h, k)) e
    (λ ok next. needs-by (λ (x : Ended). Row x stages.Looks w c reply) To (first_in (rows_in reply)) (λ node. ends (not_empty node)) (λ none. (refl, ok, none)) e
    (λ node is last. from-end (λ (x : Ended). Row x stages.Looks w c reply) (not_empty node) e last (ok, is)) next)
    (λ next. not-goes (record w { place = first_place; stage = stages.Lists }) e next) same

why-lists : (w : Standing) (c : Code) (reply : Reply) (e : Ended) → listed w c reply ≡ ends e → Row e stages.Lists w c reply
unfolding listed
why-lists w c reply e same =
    list-by (is_ok c) (ends_list c) (λ (x : Ended). Row x stages.Lists w c reply) (needs From (rows_in reply) (listed_rows w)) (next_place w) (refused From c w.place.here.source) (λ h k. (h, k)) e
    (λ ok next. needs-by (λ (x : Ended). Row x stages.Lists w c reply) From (rows_in reply) (listed_rows w)
    (λ none. (refl, ok, subst (λ (o : Option (List ListEntry)). IsBadList w.nodes o) (sym none) tt)) e
    (λ rows is last. rows-row (λ (x : Ended). Row x stages.Lists w c reply) w rows
    (λ wrong. (refl, ok, subst (λ (o : Option (List ListEntry)). IsBadList w.nodes o) (sym is) wrong))
    (λ long. (ok, subst (λ (o : Option (List ListEntry)). IsLongList w o) (sym is) long)) e last) next)
    (λ next. done-by (λ (x : Ended). Row x stages.Lists w c reply) (next_place w) (λ lines. tt) (next-place-done w) e next) same

why-makes : (w : Standing) (c : Code) (reply : Reply) → 0 < length w.page → (e : Ended) → made w c reply ≡ ends e → Row e stages.Makes w c reply
unfolding made
why-makes w c reply fits e same =
    must-by (is_ok c) (λ (x : Ended). Row x stages.Makes w c reply) (refused To c w.place.here.target) (if is_first_dir w.page then needs To (node_in reply) (next_made w) else goes (record w { stage = stages.Finds })) (λ h. (h, refl)) e
    (λ ok next. made-row (is_first_dir w.page) (λ (x : Ended). Row x stages.Makes w c reply) (node_in reply) (next_made w) (record w { stage = stages.Finds }) (λ none dir. ((refl, ok, none), dir)) (λ target. next-made-done w target fits) (λ lines. tt) e next) same

why-set-file : (w : Standing) (target : NodeId) (c : Code) (reply : Reply) → 0 < length w.page → (e : Ended) → set_file w target c ≡ ends e → Row e (stages.SetsFile target) w c reply
unfolding set_file
why-set-file w target c reply fits e same =
    must-by (is_ok c) (λ (x : Ended). Row x (stages.SetsFile target) w c reply) (refused To c target) (next_made w target) (λ h. (h, refl)) e
    (λ ok next. done-by (λ (x : Ended). Row x (stages.SetsFile target) w c reply) (next_made w target) (λ lines. tt) (next-made-done w target fits) e next) same

why-set-dir : (w : Standing) (index : ℕ) (c : Code) (reply : Reply) (e : Ended) → set_dir w index c ≡ ends e → Row e (stages.SetsDir index) w c reply
unfolding set_dir
why-set-dir w index c reply e same =
    must-by (is_ok c) (λ (x : Ended). Row x (stages.SetsDir index) w c reply) (refused To c (target_at (slice_get w.nodes index))) (next_set w index) (λ h. (h, refl)) e
    (λ ok next. done-by (λ (x : Ended). Row x (stages.SetsDir index) w c reply) (next_set w index) (λ lines. tt) (next-set-done w index) e next) same

why-read-to : (w : Standing) (checking : Checking) (last : Bool) (c : Code) (reply : Reply) (e : Ended) → read_to w checking last c reply ≡ ends e → Row e (stages.ReadsTo checking last) w c reply
unfolding read_to
why-read-to w checking last c reply e same =
    read-row (λ (x : Ended). Row x (stages.ReadsTo checking last) w c reply) To (target_at (slice_get w.nodes checking.index)) checking.len c reply (compared w checking last) (λ h k. (h, k)) (λ wrong. (refl, wrong)) e
    (λ piece is told good more. compare-by (bytes_eq piece w.piece) (λ (x : Ended). Row x (stages.ReadsTo checking last) w c reply) (record w { stage = shut_or_read (record checking { len = checking.len + length piece }) last }) (changed (target_at (slice_get w.nodes checking.index)) (checking.len + first_difference w.piece piece))
    (λ h. record { piece = piece; piece_is = is; told = told; good = good; differs = h; node_is = refl; place_is = refl }) e more) same

why-shut-to : (w : Standing) (checking : Checking) (c : Code) (reply : Reply) (e : Ended) → shut_to w checking c ≡ ends e → Row e (stages.ShutsTo checking) w c reply
unfolding shut_to
why-shut-to w checking c reply e same =
    let checks : Next = next_check (record w { lines = lines_with w.lines (slice_get w.nodes checking.index) checking }) (checking.index + 1) in
    let again : Next = goes (record w { stage = stages.ChecksFrom (record checking { resource = true; len = 0; data_len = checking.len }) }) in
    must-by (is_ok c) (λ (x : Ended). Row x (stages.ShutsTo checking) w c reply) (refused To c (target_at (slice_get w.nodes checking.index))) (if checking.resource then checks else again) (λ h. (h, refl)) e
    (λ ok next. done-by (λ (x : Ended). Row x (stages.ShutsTo checking) w c reply) (if checking.resource then checks else again) (λ lines. tt) (if-done checking.resource checks again (check-done _ _) tt) e next) same

why : (stage : Stage) (w : Standing) (c : Code) (reply : Reply) → Fits stage (length w.page) (length w.nodes) (length w.piece) → (e : Ended) → follows_at stage w c reply ≡ ends e → Row e stage w c reply
unfolding found_file opened_from opened_to read_piece written closed_from closed_to checked_from checked_to read_from shut_from
why stages.OpensSource w c reply fits e same = value-row (λ (x : Ended). Row x stages.OpensSource w c reply) c From root (volume_in reply) _ (λ h. (h, refl)) (λ ok none. (refl, ok, none)) e same
why stages.OpensTarget w c reply fits e same = value-row (λ (x : Ended). Row x stages.OpensTarget w c reply) c To root (volume_in reply) _ (λ h. (h, refl)) (λ ok none. (refl, ok, none)) e same
why stages.Looks w c reply fits e same = why-looks w c reply e same
why stages.Lists w c reply fits e same = why-lists w c reply e same
why stages.Makes w c reply fits e same = why-makes w c reply fits e same
why stages.Finds w c reply fits e same = value-row (λ (x : Ended). Row x stages.Finds w c reply) c To w.place.here.target (found_id_in reply) _ (λ h. (h, refl)) (λ ok none. (refl, ok, none)) e same
why (stages.OpensFrom copying) w c reply fits e same = value-row (λ (x : Ended). Row x (stages.OpensFrom copying) w c reply) c From (first_id w.page) (fork_in reply) _ (λ h. (h, refl)) (λ ok none. (refl, ok, none)) e same
why (stages.OpensTo copying) w c reply fits e same = value-row (λ (x : Ended). Row x (stages.OpensTo copying) w c reply) c To copying.target (fork_in reply) _ (λ h. (h, refl)) (λ ok none. (refl, ok, none)) e same
why (stages.Reads copying) w c reply fits e same = read-row (λ (x : Ended). Row x (stages.Reads copying) w c reply) From (first_id w.page) copying.len c reply (λ piece last. goes (record w { piece = piece; stage = write_or_close copying piece last })) (λ h k. (h, k)) (λ wrong. (refl, wrong)) e (λ piece is told good more. not-goes (record w { piece = piece; stage = write_or_close copying piece (not (is_ok c)) }) e more) same
why (stages.Writes copying last) w c reply fits e same = plain-row (λ (x : Ended). Row x (stages.Writes copying last) w c reply) c To copying.target (record w { stage = close_or_read (record copying { len = copying.len + length w.piece }) last }) (λ h. (h, refl)) e same
why (stages.ClosesFrom copying) w c reply fits e same = plain-row (λ (x : Ended). Row x (stages.ClosesFrom copying) w c reply) c From (first_id w.page) (record w { stage = stages.ClosesTo copying }) (λ h. (h, refl)) e same
why (stages.ClosesTo copying) w c reply fits e same = plain-row (λ (x : Ended). Row x (stages.ClosesTo copying) w c reply) c To copying.target (record w { stage = set_or_open copying }) (λ h. (h, refl)) e same
why (stages.SetsFile target) w c reply fits e same = why-set-file w target c reply fits e same
why (stages.SetsDir index) w c reply fits e same = why-set-dir w index c reply e same
why (stages.ChecksFrom checking) w c reply fits e same = value-row (λ (x : Ended). Row x (stages.ChecksFrom checking) w c reply) c From (source_at (slice_get w.nodes checking.index)) (fork_in reply) _ (λ h. (h, refl)) (λ ok none. (refl, ok, none)) e same
why (stages.ChecksTo checking) w c reply fits e same = value-row (λ (x : Ended). Row x (stages.ChecksTo checking) w c reply) c To (target_at (slice_get w.nodes checking.index)) (fork_in reply) _ (λ h. (h, refl)) (λ ok none. (refl, ok, none)) e same
why (stages.ReadsFrom checking) w c reply fits e same = read-row (λ (x : Ended). Row x (stages.ReadsFrom checking) w c reply) From (source_at (slice_get w.nodes checking.index)) checking.len c reply (λ piece last. goes (record w { piece = piece; stage = stages.ReadsTo checking last })) (λ h k. (h, k)) (λ wrong. (refl, wrong)) e (λ piece is told good more. not-goes (record w { piece = piece; stage = stages.ReadsTo checking (not (is_ok c)) }) e more) same
why (stages.ReadsTo checking last) w c reply fits e same = why-read-to w checking last c reply e same
why (stages.ShutsFrom checking) w c reply fits e same = plain-row (λ (x : Ended). Row x (stages.ShutsFrom checking) w c reply) c From (source_at (slice_get w.nodes checking.index)) (record w { stage = stages.ShutsTo checking }) (λ h. (h, refl)) e same
why (stages.ShutsTo checking) w c reply fits e same = why-shut-to w checking c reply e same

-- ---- and each cause has its row

must-ok : (c : Code) (side : Side) (node : NodeId) (next : Next) → is_ok c ≡ true → must c side node next ≡ next
must-ok c side node next ok = cond-true (is_ok c) next (ends (refused side c node)) ok

needs-none : {A : Type 0} (side : Side) (o : Option A) (f : A → Next) → o ≡ None → needs side o f ≡ ends (bad side)
needs-none {A} side o f none = ap (λ (x : Option A). needs side x f) none

lacks-then : {A : Type 0} (c : Code) (one side : Side) (node : NodeId) (o : Option A) (f : A → Next) → Lacks side one c o → must c one node (needs one o f) ≡ ends (bad side)
lacks-then c one side node o f h = must-ok c one node (needs one o f) h.1 ∙ needs-none one o f h.2 ∙ ap (λ (s : Side). ends (bad s)) (sym h.0)

two-bad : (a b : Bool) (x y : Next) → a && b ≡ false → (if a then (if b then x else y) else y) ≡ y
two-bad true true x y h = absurd (cc h)
two-bad true false x y h = refl
two-bad false b x y h = refl

two-good : (a b : Bool) (x y : Next) → a && b ≡ true → (if a then (if b then x else y) else y) ≡ x
two-good true true x y h = refl
two-good true false x y h = absurd (cc h)
two-good false b x y h = absurd (cc h)

one-bad : (side : Side) (len : ℕ) (last : Bool) (o : Option (List ℕ)) (next : List ℕ → Bool → Next) → is_read len last o ≡ false → needs side o (read_of side len last next) ≡ ends (bad side)
one-bad side len last None next h = refl
one-bad side len last (Some piece) next h = two-bad (has_asked last piece) (nat_le (len + length piece) most_fork_bytes) (next piece last) (ends (bad side)) h

reads-bad : (a b : Bool) (side : Side) (r : Ended) (len : ℕ) (o : Option (List ℕ)) (next : List ℕ → Bool → Next) → a || b ≡ true → is_read len (not a) o ≡ false
    → (if a then needs side o (read_of side len false next) else if b then needs side o (read_of side len true next) else ends r) ≡ ends (bad side)
reads-bad true b side r len o next told h = one-bad side len false o next h
reads-bad false true side r len o next told h = one-bad side len true o next h
reads-bad false false side r len o next told h = absurd (cc told)

bad-read-then : (one side : Side) (node : NodeId) (len : ℕ) (c : Code) (reply : Reply) (next : List ℕ → Bool → Next) → side ≡ one → IsBadRead len c (piece_in reply) → read_told one node len c reply next ≡ ends (bad side)
bad-read-then one side node len c reply next is h = reads-bad (is_ok c) (ends_fork c) one (refused one c node) len (piece_in reply) next h.told h.bad ∙ ap (λ (s : Side). ends (bad s)) (sym is)

reads-good : (a b : Bool) (side : Side) (r : Ended) (len : ℕ) (piece : List ℕ) (next : List ℕ → Bool → Next) → a || b ≡ true → is_read len (not a) (Some piece) ≡ true
    → (if a then needs side (Some piece) (read_of side len false next) else if b then needs side (Some piece) (read_of side len true next) else ends r) ≡ next piece (not a)
reads-good true b side r len piece next told h = two-good (has_asked false piece) (nat_le (len + length piece) most_fork_bytes) (next piece false) (ends (bad side)) h
reads-good false true side r len piece next told h = two-good (has_asked true piece) (nat_le (len + length piece) most_fork_bytes) (next piece true) (ends (bad side)) h
reads-good false false side r len piece next told h = absurd (cc told)

abbrev ok-page : List Found → Result (List Found) Ended → List Found
ok-page other (Ok page) = page
ok-page other (Err e) = other

at-step : (nodes : List Made) (from : List Found) (x : ListEntry) (before : List ListEntry) (row : ListEntry) (after : List ListEntry) (page : List Found) (e : Ended) (r : Result (List Found) Ended) → with_found nodes from (found_in x.values) ≡ r
    → ((more : List Found) → page_from nodes more before ≡ Ok page → page_from nodes more (before ++ row ∷ after) ≡ Err e) → and_then r (λ more. page_from nodes more before) ≡ Ok page → page_from nodes from (x ∷ (before ++ row ∷ after)) ≡ Err e
unfolding page_from
at-step nodes from x before row after page e (Ok more) is rest good = ap (λ (r : Result (List Found) Ended). and_then r (λ more. page_from nodes more (before ++ row ∷ after))) is ∙ rest more good
at-step nodes from x before row after page e (Err other) is rest good = not-page page other (sym good)

page-at : (nodes : List Made) (from : List Found) (before : List ListEntry) (row : ListEntry) (after : List ListEntry) (page : List Found) (e : Ended) → page_from nodes from before ≡ Ok page → with_found nodes page (found_in row.values) ≡ Err e
    → page_from nodes from (before ++ row ∷ after) ≡ Err e
unfolding page_from
page-at nodes from [] row after page e good stops =
    ap (λ (r : Result (List Found) Ended). and_then r (λ more. page_from nodes more after))
    (subst (λ (p : List Found). with_found nodes p (found_in row.values) ≡ Err e) (sym (ap (λ (r : Result (List Found) Ended). ok-page from r) good)) stops)
page-at nodes from (x ∷ before) row after page e good stops =
    at-step nodes from x before row after page e (with_found nodes from (found_in x.values)) refl (λ more h. page-at nodes more before row after page e h stops) good

bad-entry : (nodes : List Made) (page : List Found) (o : Option Found) → is_bad_entry nodes page o ≡ true → with_found nodes page o ≡ Err (bad From)
bad-entry nodes page None h = refl
bad-entry nodes page (Some f) h = cond-true (was_told nodes page f.id) (Err (bad From)) (if nat_le most_nodes (length nodes + length page) then Err too_many else Ok (page ++ f ∷ [])) h

over-by : (a b : Bool) (page : List Found) → not a && b ≡ true → (if a then Err (bad From) else if b then Err too_many else Ok page) ≡ Err too_many
over-by true b page h = absurd (cc h)
over-by false true page h = refl
over-by false false page h = absurd (cc h)

over-entry : (nodes : List Made) (page : List Found) (o : Option Found) → is_over nodes page o ≡ true → with_found nodes page o ≡ Err too_many
over-entry nodes page None h = absurd (cc h)
over-entry nodes page (Some f) h = over-by (was_told nodes page f.id) (nat_le most_nodes (length nodes + length page)) (page ++ f ∷ []) h

bad-list-then : (w : Standing) (o : Option (List ListEntry)) → IsBadList w.nodes o → needs From o (listed_rows w) ≡ ends (bad From)
unfolding listed_rows
bad-list-then w None h = refl
bad-list-then w (Some []) h = refl
bad-list-then w (Some (row ∷ rows)) h =
    ap (λ (r : Result (List Found) Ended). with_page w r)
    (ap (λ (xs : List ListEntry). page_from w.nodes [] xs) h.rows_are ∙ page-at w.nodes [] h.before h.row h.after h.page (bad From) h.good (bad-entry w.nodes h.page (found_in h.row.values) h.here))

more-than : (a b : ℕ) → b ≤ a → nat_lt a b ≡ false
more-than a b h = grind (arith, nat_tests, h)

long-list-then : (w : Standing) (o : Option (List ListEntry)) → IsLongList w o → needs From o (listed_rows w) ≡ ends too_many
unfolding listed_rows
long-list-then w None h = absurd h
long-list-then w (Some []) h = absurd h
long-list-then w (Some (row ∷ rows)) (inl h) =
    ap (λ (r : Result (List Found) Ended). with_page w r)
    (ap (λ (xs : List ListEntry). page_from w.nodes [] xs) h.rows_are ∙ page-at w.nodes [] h.before h.row h.after h.page too_many h.good (over-entry w.nodes h.page (found_in h.row.values) h.here))
long-list-then w (Some (row ∷ rows)) (inr h) =
    ap (λ (r : Result (List Found) Ended). with_page w r) h.good
    ∙ cond-false (nat_lt (w.place.start + length h.page) (2 ^ 32)) _ (ends too_many) (more-than (w.place.start + length h.page) (2 ^ 32) h.past)

then-bad : (stage : Stage) (w : Standing) (c : Code) (reply : Reply) (side : Side) → IsBad stage w c reply side → follows_at stage w c reply ≡ ends (bad side)
unfolding looked listed made found_file opened_from opened_to read_piece checked_from checked_to read_from read_to
then-bad stages.OpensSource w c reply side h = lacks-then c From side _ (volume_in reply) _ h
then-bad stages.OpensTarget w c reply side h = lacks-then c To side _ (volume_in reply) _ h
then-bad stages.Looks w c reply side h = cond-true (is_ok c) _ _ h.1 ∙ needs-none To (first_in (rows_in reply)) _ h.2 ∙ ap (λ (s : Side). ends (bad s)) (sym h.0)
then-bad stages.Lists w c reply side h = cond-true (is_ok c) _ _ h.1 ∙ bad-list-then w (rows_in reply) h.2 ∙ ap (λ (s : Side). ends (bad s)) (sym h.0)
then-bad stages.Makes w c reply side h = must-ok c To _ _ h.0.1 ∙ cond-true (is_first_dir w.page) _ _ h.1 ∙ needs-none To (node_in reply) _ h.0.2 ∙ ap (λ (s : Side). ends (bad s)) (sym h.0.0)
then-bad stages.Finds w c reply side h = lacks-then c To side _ (found_id_in reply) _ h
then-bad (stages.OpensFrom copying) w c reply side h = lacks-then c From side _ (fork_in reply) _ h
then-bad (stages.OpensTo copying) w c reply side h = lacks-then c To side _ (fork_in reply) _ h
then-bad (stages.Reads copying) w c reply side h = bad-read-then From side (first_id w.page) copying.len c reply (λ piece last. goes (record w { piece = piece; stage = write_or_close copying piece last })) h.0 h.1
then-bad (stages.Writes copying last) w c reply side h = absurd h
then-bad (stages.ClosesFrom copying) w c reply side h = absurd h
then-bad (stages.ClosesTo copying) w c reply side h = absurd h
then-bad (stages.SetsFile target) w c reply side h = absurd h
then-bad (stages.SetsDir index) w c reply side h = absurd h
then-bad (stages.ChecksFrom checking) w c reply side h = lacks-then c From side _ (fork_in reply) _ h
then-bad (stages.ChecksTo checking) w c reply side h = lacks-then c To side _ (fork_in reply) _ h
then-bad (stages.ReadsFrom checking) w c reply side h = bad-read-then From side (source_at (slice_get w.nodes checking.index)) checking.len c reply (λ piece last. goes (record w { piece = piece; stage = stages.ReadsTo checking last })) h.0 h.1
then-bad (stages.ReadsTo checking last) w c reply side h = bad-read-then To side (target_at (slice_get w.nodes checking.index)) checking.len c reply (compared w checking last) h.0 h.1
then-bad (stages.ShutsFrom checking) w c reply side h = absurd h
then-bad (stages.ShutsTo checking) w c reply side h = absurd h

then-not-empty : (stage : Stage) (w : Standing) (c : Code) (reply : Reply) (node : NodeId) → IsNotEmpty stage c reply node → follows_at stage w c reply ≡ ends (not_empty node)
unfolding looked
then-not-empty stages.Looks w c reply node h = cond-true (is_ok c) _ _ h.0 ∙ ap (λ (o : Option NodeId). needs To o (λ id. ends (not_empty id))) h.1
then-not-empty stages.OpensSource w c reply node h = absurd h
then-not-empty stages.OpensTarget w c reply node h = absurd h
then-not-empty stages.Lists w c reply node h = absurd h
then-not-empty stages.Makes w c reply node h = absurd h
then-not-empty stages.Finds w c reply node h = absurd h
then-not-empty (stages.OpensFrom copying) w c reply node h = absurd h
then-not-empty (stages.OpensTo copying) w c reply node h = absurd h
then-not-empty (stages.Reads copying) w c reply node h = absurd h
then-not-empty (stages.Writes copying last) w c reply node h = absurd h
then-not-empty (stages.ClosesFrom copying) w c reply node h = absurd h
then-not-empty (stages.ClosesTo copying) w c reply node h = absurd h
then-not-empty (stages.SetsFile target) w c reply node h = absurd h
then-not-empty (stages.SetsDir index) w c reply node h = absurd h
then-not-empty (stages.ChecksFrom checking) w c reply node h = absurd h
then-not-empty (stages.ChecksTo checking) w c reply node h = absurd h
then-not-empty (stages.ReadsFrom checking) w c reply node h = absurd h
then-not-empty (stages.ReadsTo checking last) w c reply node h = absurd h
then-not-empty (stages.ShutsFrom checking) w c reply node h = absurd h
then-not-empty (stages.ShutsTo checking) w c reply node h = absurd h

then-too-many : (stage : Stage) (w : Standing) (c : Code) (reply : Reply) → IsTooMany stage w c reply → follows_at stage w c reply ≡ ends too_many
unfolding listed
then-too-many stages.OpensSource w c reply h = absurd h
then-too-many stages.OpensTarget w c reply h = absurd h
then-too-many stages.Looks w c reply h = absurd h
then-too-many stages.Lists w c reply h = cond-true (is_ok c) _ _ h.0 ∙ long-list-then w (rows_in reply) h.1
then-too-many stages.Makes w c reply h = absurd h
then-too-many stages.Finds w c reply h = absurd h
then-too-many (stages.OpensFrom copying) w c reply h = absurd h
then-too-many (stages.OpensTo copying) w c reply h = absurd h
then-too-many (stages.Reads copying) w c reply h = absurd h
then-too-many (stages.Writes copying last) w c reply h = absurd h
then-too-many (stages.ClosesFrom copying) w c reply h = absurd h
then-too-many (stages.ClosesTo copying) w c reply h = absurd h
then-too-many (stages.SetsFile target) w c reply h = absurd h
then-too-many (stages.SetsDir index) w c reply h = absurd h
then-too-many (stages.ChecksFrom checking) w c reply h = absurd h
then-too-many (stages.ChecksTo checking) w c reply h = absurd h
then-too-many (stages.ReadsFrom checking) w c reply h = absurd h
then-too-many (stages.ReadsTo checking last) w c reply h = absurd h
then-too-many (stages.ShutsFrom checking) w c reply h = absurd h
then-too-many (stages.ShutsTo checking) w c reply h = absurd h

changed-then : (w : Standing) (checking : Checking) (last : Bool) (c : Code) (reply : Reply) (node : NodeId) (place : ℕ) → Differs w checking c reply node place → read_to w checking last c reply ≡ ends (changed node place)
unfolding read_to
changed-then w checking last c reply node place h =
    let id : NodeId = target_at (slice_get w.nodes checking.index) in
    ap (λ (o : Option (List ℕ)). if is_ok c then needs To o (read_of To checking.len false (compared w checking last)) else if ends_fork c then needs To o (read_of To checking.len true (compared w checking last)) else ends (refused To c id)) h.piece_is
    ∙ reads-good (is_ok c) (ends_fork c) To (refused To c id) checking.len h.piece (compared w checking last) h.told h.good
    ∙ cond-false (bytes_eq h.piece w.piece) _ (ends (changed id (checking.len + first_difference w.piece h.piece))) h.differs
    ∙ ap (λ (n : NodeId). ends (changed n (checking.len + first_difference w.piece h.piece))) (sym h.node_is)
    ∙ ap (λ (n : ℕ). ends (changed node n)) (sym h.place_is)

then-changed : (stage : Stage) (w : Standing) (c : Code) (reply : Reply) (node : NodeId) (place : ℕ) → IsChanged stage w c reply node place → follows_at stage w c reply ≡ ends (changed node place)
then-changed stages.OpensSource w c reply node place h = absurd h
then-changed stages.OpensTarget w c reply node place h = absurd h
then-changed stages.Looks w c reply node place h = absurd h
then-changed stages.Lists w c reply node place h = absurd h
then-changed stages.Makes w c reply node place h = absurd h
then-changed stages.Finds w c reply node place h = absurd h
then-changed (stages.OpensFrom copying) w c reply node place h = absurd h
then-changed (stages.OpensTo copying) w c reply node place h = absurd h
then-changed (stages.Reads copying) w c reply node place h = absurd h
then-changed (stages.Writes copying last) w c reply node place h = absurd h
then-changed (stages.ClosesFrom copying) w c reply node place h = absurd h
then-changed (stages.ClosesTo copying) w c reply node place h = absurd h
then-changed (stages.SetsFile target) w c reply node place h = absurd h
then-changed (stages.SetsDir index) w c reply node place h = absurd h
then-changed (stages.ChecksFrom checking) w c reply node place h = absurd h
then-changed (stages.ChecksTo checking) w c reply node place h = absurd h
then-changed (stages.ReadsFrom checking) w c reply node place h = absurd h
then-changed (stages.ReadsTo checking last) w c reply node place h = changed-then w checking last c reply node place h
then-changed (stages.ShutsFrom checking) w c reply node place h = absurd h
then-changed (stages.ShutsTo checking) w c reply node place h = absurd h

-- ---- the laws

pub bad-is-exact : BadIsExact
unfolding follows
bad-is-exact w c reply side fits = (λ same. why w.stage w c reply fits (bad side) same, λ h. then-bad w.stage w c reply side h)

pub not-empty-is-exact : NotEmptyIsExact
unfolding follows
not-empty-is-exact w c reply node fits = (λ same. why w.stage w c reply fits (not_empty node) same, λ h. then-not-empty w.stage w c reply node h)

pub too-many-is-exact : TooManyIsExact
unfolding follows
too-many-is-exact w c reply fits = (λ same. why w.stage w c reply fits too_many same, λ h. then-too-many w.stage w c reply h)

pub changed-is-exact : ChangedIsExact
unfolding follows
changed-is-exact w c reply node place fits = (λ same. why w.stage w c reply fits (changed node place) same, λ h. then-changed w.stage w c reply node place h)

-- what a refusal says
abbrev side_in : Side → Ended → Side
side_in other (refused side c node) = side
side_in other (done lines) = other
side_in other (not_empty node) = other
side_in other too_many = other
side_in other (bad side) = other
side_in other (changed node place) = other

abbrev code_in : Code → Ended → Code
code_in other (refused side c node) = c
code_in other (done lines) = other
code_in other (not_empty node) = other
code_in other too_many = other
code_in other (bad side) = other
code_in other (changed node place) = other

abbrev about : NodeId → Ended → NodeId
about other (refused side c node) = node
about other (done lines) = other
about other (not_empty node) = other
about other too_many = other
about other (bad side) = other
about other (changed node place) = other

refusal-is : (w : Standing) (c : Code) (reply : Reply) (side : Side) (code : Code) (node : NodeId) → IsRefusal w.stage c → IsRefused w c reply → follows w c reply ≡ ends (refused side code node) → IsRefusedBy w c side code node
refusal-is w c reply side code node r h same =
    let is : refused side code node ≡ refused h.asked.side c h.asked.node = same_end (refused side code node) (refused h.asked.side c h.asked.node) (sym same ∙ h.ended) in
    record {
      refusal = r;
      asked = h.asked;
      next = h.next;
      side_is = ap (λ (e : Ended). side_in side e) is;
      code_is = ap (λ (e : Ended). code_in code e) is;
      node_is = ap (λ (e : Ended). about node e) is;
    }

abbrev asked_of : Asked → Option Asked → Asked
asked_of other (Some asked) = asked
asked_of other None = other

refused-then : (w : Standing) (c : Code) (reply : Reply) (side : Side) (code : Code) (node : NodeId) → IsRefused w c reply → IsRefusedBy w c side code node → follows w c reply ≡ ends (refused side code node)
refused-then w c reply side code node h r =
    let one : h.asked ≡ r.asked = ap (λ (o : Option Asked). asked_of h.asked o) (sym h.next ∙ r.next) in
    h.ended
    ∙ ap (λ (a : Asked). ends (refused a.side c a.node)) one
    ∙ ap (λ (s : Side). ends (refused s c r.asked.node)) (sym r.side_is)
    ∙ ap (λ (d : Code). ends (refused side d r.asked.node)) (sym r.code_is)
    ∙ ap (λ (n : NodeId). ends (refused side code n)) (sym r.node_is)

pub refused-is-exact : RefusalsEnd → RefusedIsExact
unfolding follows
refused-is-exact law w c reply side code node fits = (
  λ same.
      let r : IsRefusal w.stage c = why w.stage w c reply fits (refused side code node) same in
      refusal-is w c reply side code node r (law w c reply fits r.0 r.1) same,
  λ h. refused-then w c reply side code node (law w c reply fits h.refusal.0 h.refusal.1) h,
)
