-- Every directory of the source is listed to its end.
use Rattle.std.proofs.Common.{◌≡◌, ℕ, zero, suc, ◌+◌, ◌≤◌, ◌^◌, Bool, true, false, if◌then◌else◌, List, [], ◌∷◌, ◌++◌, length, drop, Option, Some, None, Result, Ok, Err, refl, sym, ap, ◌∙◌, subst, arith, length-append}
use Rattle.std.specs.Prelude.{nat_le, nat_lt, slice_get, bytes_eq}
use Rattle.std.proofs.lemmas.Bool.{cond-false, cond-true}
use Rattle.std.proofs.lemmas.List.{append-nil, append_assoc}
use Rattle.afp_base.specs.Limits.{most_fork_bytes}
use Rattle.afp_base.specs.declared.code.Code.{Code}
use Rattle.afp_base.specs.declared.ids.NodeId.{NodeId}
use Rattle.afp_calls_grammar.specs.declared.grammar.call.Call.{Call}
use Rattle.afp_replies.specs.declared.list.ListEntry.{ListEntry}
use Rattle.afp_replies.specs.declared.reply.Reply.{Reply}
use Rattle.afp_mirror_walk.specs.Asks.{Asked, asked_at, asks, of_first, of_node, root}
use Rattle.afp_mirror_walk.specs.Follows.{Ended, Next, and_then, bad, changed, checked_from, checked_to, checking_of, close_or_read, closed_from, closed_to, compared, copying_of, dirs_before, done, ends, ends_fork, ends_list, first, first_difference, first_id, first_in, first_place, follows, follows_at, fork_in, found_file, found_id_in, goes, has_asked, is_empty, is_first_dir, is_ok, last_dir, lines_with, list_or_set, listed, listed_rows, looked, made, made_first, made_of, most_nodes, must, needs, next_check, next_dir, next_made, next_place, next_set, node_in, not_empty, opened_from, opened_to, page_from, piece_in, place_at, read_from, read_of, read_piece, read_to, read_told, refused, rows_in, set_dir, set_file, set_or_check, set_or_open, shut_from, shut_or_read, shut_to, source_at, target_at, too_many, volume_in, was_told, with_found, with_page, write_or_close, written}
use Rattle.afp_mirror_walk.specs.Settings.{found_in}
use Rattle.afp_mirror_walk.specs.Standing.{Standing}
use Rattle.afp_mirror_walk.specs.declared.walk.ends.Line.{Line}
use Rattle.afp_mirror_walk.specs.declared.walk.ends.Side.{Side}
use Rattle.afp_mirror_walk.specs.declared.walk.ends.Side.TheVariants.{From, To}
use Rattle.afp_mirror_walk.specs.declared.walk.standing.Checking.{Checking}
use Rattle.afp_mirror_walk.specs.declared.walk.standing.Copying.{Copying}
use Rattle.afp_mirror_walk.specs.declared.walk.standing.Found.{Found}
use Rattle.afp_mirror_walk.specs.declared.walk.standing.Made.{Made}
use Rattle.afp_mirror_walk.specs.declared.walk.standing.Stage.{Stage}
use Rattle.afp_mirror_walk.specs.declared.walk.standing.Stage.TheVariants as stages
use Rattle.afp_mirror_laws.proofs.RowLemmas.{entry-by, page-stops}
use Rattle.afp_mirror.specs.Runs.{IsTurn, Leads, Turn, seen}
use Rattle.afp_mirror_laws.specs.Swept.{ByQueue, DoneHasSwept, Listing, Sweeps, dirs_in, listing, lists_of, rows_told, with_dir}

-- ---- the directories that wait

abbrev made_dirs : List Made → List NodeId
made_dirs [] = []
made_dirs (node ∷ nodes) = if node.dir then node.source ∷ made_dirs nodes else made_dirs nodes

abbrev pub page_dirs : List Found → List NodeId
page_dirs [] = []
page_dirs (f ∷ page) = if f.dir then f.id ∷ page_dirs page else page_dirs page

abbrev waiting : Standing → List NodeId
waiting w = made_dirs (drop w.place.next w.nodes) ++ page_dirs w.page

-- what holds of a run at a stage, so that it sweeps
abbrev IsBefore : Standing → Type 0
IsBefore w = (w.nodes ≡ []) × (w.page ≡ [])

abbrev IsIn : Stage → Standing → Type 0
IsIn stages.OpensSource w = IsBefore w
IsIn stages.OpensTarget w = IsBefore w
IsIn stages.Looks w = IsBefore w
IsIn stages.Lists w = (w.page ≡ []) × (w.place.next ≤ length w.nodes)
IsIn stages.Makes w = w.place.next ≤ length w.nodes
IsIn stages.Finds w = w.place.next ≤ length w.nodes
IsIn (stages.OpensFrom copying) w = w.place.next ≤ length w.nodes
IsIn (stages.OpensTo copying) w = w.place.next ≤ length w.nodes
IsIn (stages.Reads copying) w = w.place.next ≤ length w.nodes
IsIn (stages.Writes copying last) w = w.place.next ≤ length w.nodes
IsIn (stages.ClosesFrom copying) w = w.place.next ≤ length w.nodes
IsIn (stages.ClosesTo copying) w = w.place.next ≤ length w.nodes
IsIn (stages.SetsFile target) w = w.place.next ≤ length w.nodes
IsIn stage w = Unit {0}

-- what the lists that are still to come do, by the stage
abbrev Rest : Stage → Standing → List Listing → Type 0
Rest stages.OpensSource w lists = Sweeps lists root 1 []
Rest stages.OpensTarget w lists = Sweeps lists root 1 []
Rest stages.Looks w lists = Sweeps lists root 1 []
Rest stages.Lists w lists = Sweeps lists w.place.here.source w.place.start (waiting w)
Rest stages.Makes w lists = Sweeps lists w.place.here.source w.place.start (waiting w)
Rest stages.Finds w lists = Sweeps lists w.place.here.source w.place.start (waiting w)
Rest (stages.OpensFrom copying) w lists = Sweeps lists w.place.here.source w.place.start (waiting w)
Rest (stages.OpensTo copying) w lists = Sweeps lists w.place.here.source w.place.start (waiting w)
Rest (stages.Reads copying) w lists = Sweeps lists w.place.here.source w.place.start (waiting w)
Rest (stages.Writes copying last) w lists = Sweeps lists w.place.here.source w.place.start (waiting w)
Rest (stages.ClosesFrom copying) w lists = Sweeps lists w.place.here.source w.place.start (waiting w)
Rest (stages.ClosesTo copying) w lists = Sweeps lists w.place.here.source w.place.start (waiting w)
Rest (stages.SetsFile target) w lists = Sweeps lists w.place.here.source w.place.start (waiting w)
Rest stage w lists = lists ≡ []

-- what a step keeps: a run that goes on, or is done, has swept what it had to
abbrev Keeps : (List Listing → Type 0) → Next → Type 0
Keeps rest (goes w) = IsIn w.stage w × ((lists : List Listing) → Rest w.stage w lists → rest lists)
Keeps rest (ends (done lines)) = rest []
Keeps rest (ends (refused side c node)) = Unit {0}
Keeps rest (ends (not_empty node)) = Unit {0}
Keeps rest (ends too_many) = Unit {0}
Keeps rest (ends (bad side)) = Unit {0}
Keeps rest (ends (changed node place)) = Unit {0}

abbrev is_past : List Listing → Type 0
is_past lists = lists ≡ []

-- ---- tests

if-any : (P : Next → Type 0) (b : Bool) (x y : Next) → P x → P y → P (if b then x else y)
if-any P true x y h k = h
if-any P false x y h k = k

needs-any : {A : Type 0} (P : Next → Type 0) (side : Side) (o : Option A) (f : A → Next) → P (ends (bad side)) → ((v : A) → P (f v)) → P (needs side o f)
needs-any P side None f fails passes = fails
needs-any P side (Some v) f fails passes = passes v

read-of-any : (P : Next → Type 0) (side : Side) (len : ℕ) (last : Bool) (next : List ℕ → Bool → Next) (piece : List ℕ) → P (ends (bad side)) → P (next piece last) → P (read_of side len last next piece)
read-of-any P side len last next piece fails passes =
    if-any P (has_asked last piece) (if nat_le (len + length piece) most_fork_bytes then next piece last else ends (bad side)) (ends (bad side))
    (if-any P (nat_le (len + length piece) most_fork_bytes) (next piece last) (ends (bad side)) passes fails) fails

read-any : (P : Next → Type 0) (side : Side) (node : NodeId) (len : ℕ) (c : Code) (reply : Reply) (next : List ℕ → Bool → Next) → P (ends (refused side c node)) → P (ends (bad side)) → ((piece : List ℕ) (last : Bool) → P (next piece last)) → P (read_told side node len c reply next)
read-any P side node len c reply next fails wrong passes =
    let more : Next = needs side (piece_in reply) (read_of side len false next) in
    let last : Next = needs side (piece_in reply) (read_of side len true next) in
    if-any P (is_ok c) more (if ends_fork c then last else ends (refused side c node)) (needs-any P side (piece_in reply) (read_of side len false next) wrong (λ piece. read-of-any P side len false next piece wrong (passes piece false)))
    (if-any P (ends_fork c) last (ends (refused side c node)) (needs-any P side (piece_in reply) (read_of side len true next) wrong (λ piece. read-of-any P side len true next piece wrong (passes piece true))) fails)

must-any : (P : Next → Type 0) (c : Code) (side : Side) (node : NodeId) (next : Next) → P (ends (refused side c node)) → P next → P (must c side node next)
must-any P c side node next wrong passes = if-any P (is_ok c) next (ends (refused side c node)) passes wrong

-- ---- behind the last list

check-keeps : (rest : List Listing → Type 0) (w : Standing) (from : ℕ) → rest [] → Keeps rest (next_check w from)
unfolding next_check
check-keeps rest w from h =
    let dirs : List Line = dirs_before (drop from w.nodes) in
    if-any (Keeps rest) (nat_lt (from + length dirs) (length w.nodes)) (goes (record w { lines = w.lines ++ dirs; stage = stages.ChecksFrom (checking_of (from + length dirs)) })) (ends (done (w.lines ++ dirs)))
    (tt, λ lists is. subst rest (sym is) h) h

set-or-check-keeps : (rest : List Listing → Type 0) (w : Standing) (o : Option ℕ) → rest [] → Keeps rest (set_or_check w o)
set-or-check-keeps rest w None h = check-keeps rest w 0 h
set-or-check-keeps rest w (Some index) h = (tt, λ lists is. subst rest (sym is) h)

next-set-keeps : (rest : List Listing → Type 0) (w : Standing) (before : ℕ) → rest [] → Keeps rest (next_set w before)
unfolding next_set
next-set-keeps rest w before h = set-or-check-keeps rest w (last_dir w.nodes before) h

-- ---- lists

more-dirs : (b : Bool) (id : NodeId) (all one other : List NodeId) → all ≡ one ++ other → (if b then id ∷ all else all) ≡ (if b then id ∷ one else one) ++ other
more-dirs true id all one other is = ap (λ (ids : List NodeId). id ∷ ids) is
more-dirs false id all one other is = is

made-dirs-append : (xs ys : List Made) → made_dirs (xs ++ ys) ≡ made_dirs xs ++ made_dirs ys
made-dirs-append [] ys = refl
made-dirs-append (x ∷ xs) ys = more-dirs x.dir x.source (made_dirs (xs ++ ys)) (made_dirs xs) (made_dirs ys) (made-dirs-append xs ys)

page-dirs-append : (xs ys : List Found) → page_dirs (xs ++ ys) ≡ page_dirs xs ++ page_dirs ys
page-dirs-append [] ys = refl
page-dirs-append (x ∷ xs) ys = more-dirs x.dir x.id (page_dirs (xs ++ ys)) (page_dirs xs) (page_dirs ys) (page-dirs-append xs ys)

drop-front : {A : Type 0} (n : ℕ) (xs ys : List A) → n ≤ length xs → drop n (xs ++ ys) ≡ drop n xs ++ ys
drop-front zero xs ys h = refl
drop-front (suc n) [] ys h = absurd (omega (arith, h))
drop-front (suc n) (x ∷ xs) ys h = drop-front n xs ys (omega (arith, h))

abbrev is_cons : {A : Type 0} → List A → Type 0
is_cons [] = ⊥
is_cons (x ∷ xs) = Unit {0}

abbrev is_none_of : {A : Type 0} → Option A → Type 0
is_none_of None = Unit {0}
is_none_of (Some x) = ⊥

abbrev some_or : {A : Type 0} → A → Option A → A
some_or other None = other
some_or other (Some x) = x

abbrev head_or : {A : Type 0} → A → List A → A
head_or other [] = other
head_or other (x ∷ xs) = x

abbrev tail_of : {A : Type 0} → List A → List A
tail_of [] = []
tail_of (x ∷ xs) = xs

-- what stands at a place
pub record StandsAt {A : Type 0} (xs : List A) (n : ℕ) (x : A) (rest : List A) : Type 0 where
  pub get : slice_get xs n ≡ Some x
  pub short : n + 1 ≤ length xs
  pub behind : drop (n + 1) xs ≡ rest

pub stands-at : {A : Type 0} (xs : List A) (n : ℕ) (x : A) (rest : List A) → drop n xs ≡ x ∷ rest → StandsAt xs n x rest
stands-at [] zero x rest h = absurd (subst is_cons (sym h) tt)
stands-at [] (suc n) x rest h = absurd (subst is_cons (sym h) tt)
stands-at {A} (y ∷ xs) zero x rest h = record { get = ap (λ (ys : List A). Some (head_or x ys)) h; short = omega (arith); behind = ap (λ (ys : List A). tail_of ys) h }
stands-at {A} (y ∷ xs) (suc n) x rest h =
    let s = stands-at xs n x rest h in
    let more : suc n + 1 ≡ suc (n + 1) = omega arith in
    record { get = s.get; short = omega (arith, s.short); behind = ap (λ (m : ℕ). drop m (y ∷ xs)) more ∙ s.behind }

-- the next directory is the first that waits
record IsNext (nodes : List Made) (n index : ℕ) : Type 0 where
  node : Made
  get : slice_get nodes index ≡ Some node
  short : index + 1 ≤ length nodes
  dirs : made_dirs (drop n nodes) ≡ node.source ∷ made_dirs (drop (index + 1) nodes)

next-here : (nodes : List Made) (n index : ℕ) (x : Made) (rest : List Made) → drop n nodes ≡ x ∷ rest → x.dir ≡ true → n ≡ index → IsNext nodes n index
next-here nodes n index x rest is dir same =
    let s = stands-at nodes n x rest is in
    subst (λ (i : ℕ). IsNext nodes n i) same (record {
      node = x;
      get = s.get;
      short = s.short;
      dirs = ap (λ (ns : List Made). made_dirs ns) is ∙ cond-true x.dir (x.source ∷ made_dirs rest) (made_dirs rest) dir ∙ ap (λ (ns : List Made). x.source ∷ made_dirs ns) (sym s.behind);
    })

next-behind : (nodes : List Made) (n index : ℕ) (x : Made) (rest : List Made) → drop n nodes ≡ x ∷ rest → x.dir ≡ false → IsNext nodes (n + 1) index → IsNext nodes n index
next-behind nodes n index x rest is dir more =
    let s = stands-at nodes n x rest is in
    record {
      node = more.node;
      get = more.get;
      short = more.short;
      dirs = ap (λ (ns : List Made). made_dirs ns) is ∙ cond-false x.dir (x.source ∷ made_dirs rest) (made_dirs rest) dir ∙ ap (λ (ns : List Made). made_dirs ns) (sym s.behind) ∙ more.dirs;
    }

next-by : (nodes : List Made) (n index : ℕ) (x : Made) (rest : List Made) (b : Bool) → x.dir ≡ b → drop n nodes ≡ x ∷ rest → (next_dir rest (n + 1) ≡ Some index → IsNext nodes (n + 1) index) → (if b then Some n else next_dir rest (n + 1)) ≡ Some index → IsNext nodes n index
next-by nodes n index x rest true dir is more h = next-here nodes n index x rest is dir (ap (λ (o : Option ℕ). some_or n o) h)
next-by nodes n index x rest false dir is more h = next-behind nodes n index x rest is dir (more h)

next-is : (nodes xs : List Made) (n index : ℕ) → drop n nodes ≡ xs → next_dir xs n ≡ Some index → IsNext nodes n index
next-is nodes [] n index is h = absurd (subst is_none_of h tt)
next-is nodes (x ∷ xs) n index is h = next-by nodes n index x xs x.dir refl is (λ k. next-is nodes xs (n + 1) index (stands-at nodes n x xs is).behind k) h

none-by : (b : Bool) (id : NodeId) (dirs : List NodeId) (n : ℕ) (o : Option ℕ) → (o ≡ None → dirs ≡ []) → (if b then Some n else o) ≡ None → (if b then id ∷ dirs else dirs) ≡ []
none-by true id dirs n o more h = absurd (subst is_none_of (sym h) tt)
none-by false id dirs n o more h = more h

next-none : (xs : List Made) (n : ℕ) → next_dir xs n ≡ None → made_dirs xs ≡ []
next-none [] n h = refl
next-none (x ∷ xs) n h = none-by x.dir x.source (made_dirs xs) n (next_dir xs (n + 1)) (λ k. next-none xs (n + 1) k) h

-- ---- pages

abbrev pub ok-page : List Found → Result (List Found) Ended → List Found
ok-page other (Ok page) = page
ok-page other (Err e) = other

abbrev is_page : Result (List Found) Ended → Type 0
is_page (Ok page) = Unit {0}
is_page (Err e) = ⊥

pub no-page : {P : Type 0} (e : Ended) (page : List Found) → Err e ≡ Ok page → P
no-page e page same = absurd (subst is_page (sym same) tt)

pub record IsMore (o : Option Found) (page more : List Found) : Type 0 where
  pub f : Found
  pub is : o ≡ Some f
  pub more_is : more ≡ page ++ f ∷ []

more-by : (a b : Bool) (f : Found) (page more : List Found) → (if a then Err (bad From) else if b then Err too_many else Ok (page ++ f ∷ [])) ≡ Ok more → IsMore (Some f) page more
more-by true b f page more h = no-page (bad From) more h
more-by false true f page more h = no-page too_many more h
more-by false false f page more h = record { f = f; is = refl; more_is = ap (λ (r : Result (List Found) Ended). ok-page more r) (sym h) }

pub found-more : (nodes : List Made) (page more : List Found) (o : Option Found) → with_found nodes page o ≡ Ok more → IsMore o page more
found-more nodes page more None h = no-page (bad From) more h
found-more nodes page more (Some f) h = more-by (was_told nodes page f.id) (nat_le most_nodes (length nodes + length page)) f page more h

pub record PageIs (from : List Found) (rows : List ListEntry) (page : List Found) : Type 0 where
  pub dirs : page_dirs page ≡ page_dirs from ++ dirs_in rows
  pub count : length page ≡ length from + length rows

with-dir-of : (f : Found) (dirs : List NodeId) → page_dirs (f ∷ []) ++ dirs ≡ with_dir (Some f) dirs
with-dir-of f dirs = sym (more-dirs f.dir f.id dirs [] dirs refl)

page-more : (from more : List Found) (row : ListEntry) (rows : List ListEntry) (page : List Found) → IsMore (found_in row.values) from more → PageIs more rows page → PageIs from (row ∷ rows) page
page-more from more row rows page m p = record {
  dirs = p.dirs
      ∙ ap (λ (xs : List Found). page_dirs xs ++ dirs_in rows) m.more_is
      ∙ ap (λ (ids : List NodeId). ids ++ dirs_in rows) (page-dirs-append from (m.f ∷ []))
      ∙ append_assoc (page_dirs from) (page_dirs (m.f ∷ [])) (dirs_in rows)
      ∙ ap (λ (ids : List NodeId). page_dirs from ++ ids) (with-dir-of m.f (dirs_in rows) ∙ ap (λ (o : Option Found). with_dir o (dirs_in rows)) (sym m.is));
  count = omega (arith, p.count, ap (λ (xs : List Found). length xs) m.more_is ∙ length-append from (m.f ∷ []));
}

page-by : (nodes : List Made) (from : List Found) (row : ListEntry) (rows : List ListEntry) (page : List Found) (r : Result (List Found) Ended) → with_found nodes from (found_in row.values) ≡ r
    → ((more : List Found) → page_from nodes more rows ≡ Ok page → PageIs more rows page) → and_then r (λ more. page_from nodes more rows) ≡ Ok page → PageIs from (row ∷ rows) page
page-by nodes from row rows page (Ok more) is rest h = page-more from more row rows page (found-more nodes from more (found_in row.values) is) (rest more h)
page-by nodes from row rows page (Err e) is rest h = no-page e page h

pub page-is : (nodes : List Made) (from : List Found) (rows : List ListEntry) (page : List Found) → page_from nodes from rows ≡ Ok page → PageIs from rows page
unfolding page_from
page-is nodes from [] page h =
    let same : page ≡ from = ap (λ (r : Result (List Found) Ended). ok-page page r) (sym h) in
    record { dirs = ap (λ (xs : List Found). page_dirs xs) same ∙ sym (append-nil (page_dirs from)); count = omega (arith, ap (λ (xs : List Found). length xs) same) }
page-is nodes from (row ∷ rows) page h = page-by nodes from row rows page (with_found nodes from (found_in row.values)) refl (λ more k. page-is nodes more rows page k) h

-- ---- a list of the source

abbrev pub list_here : Standing → Option (List ListEntry) → List Listing
list_here w rows = (record { dir = w.place.here.source; start = w.place.start; rows = rows }) ∷ []

abbrev rest_behind : Standing → Option (List ListEntry) → List Listing → Type 0
rest_behind w rows lists = Sweeps (list_here w rows ++ lists) w.place.here.source w.place.start (waiting w)

waits-made : (w : Standing) → w.page ≡ [] → waiting w ≡ made_dirs (drop w.place.next w.nodes)
waits-made w none = ap (λ (page : List Found). made_dirs (drop w.place.next w.nodes) ++ page_dirs page) none ∙ append-nil (made_dirs (drop w.place.next w.nodes))

abbrev pub IsNotDone : Ended → Type 0
IsNotDone (done lines) = ⊥
IsNotDone (refused side c node) = Unit {0}
IsNotDone (not_empty node) = Unit {0}
IsNotDone too_many = Unit {0}
IsNotDone (bad side) = Unit {0}
IsNotDone (changed node place) = Unit {0}

pub page-not-done : (nodes : List Made) (rows : List ListEntry) (e : Ended) → page_from nodes [] rows ≡ Err e → IsNotDone e
page-not-done nodes rows e h =
    let s = page-stops nodes [] rows e h in
    entry-by IsNotDone nodes s.page (found_in s.row.values) (λ k. tt) (λ k. tt) e s.stops

page-keeps : (w : Standing) (rows : List ListEntry) (r : Result (List Found) Ended) → IsIn stages.Lists w → page_from w.nodes [] rows ≡ r → Keeps (rest_behind w (Some rows)) (with_page w r)
page-keeps w rows (Err (bad side)) h is = tt
page-keeps w rows (Err too_many) h is = tt
page-keeps w rows (Err (done lines)) h is = absurd (page-not-done w.nodes rows (done lines) is)
page-keeps w rows (Err (refused side c node)) h is = tt
page-keeps w rows (Err (not_empty node)) h is = tt
page-keeps w rows (Err (changed node place)) h is = tt
page-keeps w rows (Ok page) h is =
    let p = page-is w.nodes [] rows page is in
    let count : length page ≡ length rows = omega (arith, p.count) in
    if-any (Keeps (rest_behind w (Some rows))) (nat_lt (w.place.start + length page) (2 ^ 32)) (goes (record w { place = record w.place { start = w.place.start + length page }; page = page; stage = stages.Makes })) (ends too_many) (
      h.1,
      λ lists more. (
        refl,
        refl,
        subst (λ (n : ℕ). Sweeps lists w.place.here.source n (waiting w ++ dirs_in rows)) (ap (λ (k : ℕ). w.place.start + k) count)
            (subst (λ (dirs : List NodeId). Sweeps lists w.place.here.source (w.place.start + length page) dirs)
            (ap (λ (dirs : List NodeId). made_dirs (drop w.place.next w.nodes) ++ dirs) p.dirs ∙ ap (λ (dirs : List NodeId). dirs ++ dirs_in rows) (sym (waits-made w h.0)))
            more),
      ),
    )
    tt

rows-keeps : (w : Standing) (rows : List ListEntry) → IsIn stages.Lists w → Keeps (rest_behind w (Some rows)) (listed_rows w rows)
unfolding listed_rows
rows-keeps w [] h = tt
rows-keeps w (row ∷ rows) h = page-keeps w (row ∷ rows) (page_from w.nodes [] (row ∷ rows)) h refl

place-keeps : (w : Standing) (o : Option ℕ) → IsIn stages.Lists w → next_dir (drop w.place.next w.nodes) w.place.next ≡ o → Keeps (rest_behind w None) (list_or_set w o)
place-keeps w None h is =
    next-set-keeps (rest_behind w None) w (length w.nodes)
    (refl, refl, subst (λ (dirs : List NodeId). ByQueue dirs (is_past []) (λ dir ds. Sweeps [] dir 1 ds)) (sym (waits-made w h.0 ∙ next-none (drop w.place.next w.nodes) w.place.next is)) refl)
place-keeps w (Some index) h is =
    let n = next-is w.nodes (drop w.place.next w.nodes) w.place.next index refl is in
    subst (λ (o : Option Made). Keeps (rest_behind w None) (goes (record w { place = place_at o index w.place; stage = stages.Lists }))) (sym n.get) (
      (h.0, n.short),
      λ lists more. (
        refl,
        refl,
        subst (λ (dirs : List NodeId). ByQueue dirs (lists ≡ []) (λ dir ds. Sweeps lists dir 1 ds)) (sym (waits-made w h.0 ∙ n.dirs))
            (subst (λ (dirs : List NodeId). Sweeps lists n.node.source 1 dirs) (ap (λ (page : List Found). made_dirs (drop (index + 1) w.nodes) ++ page_dirs page) h.0 ∙ append-nil (made_dirs (drop (index + 1) w.nodes))) more),
      ),
    )

next-place-keeps : (w : Standing) → IsIn stages.Lists w → Keeps (rest_behind w None) (next_place w)
unfolding next_place
next-place-keeps w h = place-keeps w (next_dir (drop w.place.next w.nodes) w.place.next) h refl

listed-by : (a b : Bool) (w : Standing) (o : Option (List ListEntry)) (side : Side) (c : Code) (node : NodeId) → IsIn stages.Lists w
    → Keeps (rest_behind w (if a then o else None)) (if a then needs From o (listed_rows w) else if b then next_place w else ends (refused side c node))
listed-by true b w None side c node h = tt
listed-by true b w (Some rows) side c node h = rows-keeps w rows h
listed-by false true w o side c node h = next-place-keeps w h
listed-by false false w o side c node h = tt

-- ---- nodes that are made

abbrev rest_of : Standing → List Listing → Type 0
rest_of w lists = Sweeps lists w.place.here.source w.place.start (waiting w)

waits-on : (w : Standing) (target : NodeId) (f : Found) (page : List Found) → w.place.next ≤ length w.nodes → w.page ≡ f ∷ page
    → made_dirs (drop w.place.next (w.nodes ++ made_of w.place.here f target ∷ [])) ++ page_dirs page ≡ waiting w
waits-on w target f page h is =
    let m : Made = made_of w.place.here f target in
    let old : List Made = drop w.place.next w.nodes in
    ap (λ (ns : List Made). made_dirs ns ++ page_dirs page) (drop-front w.place.next w.nodes (m ∷ []) h)
    ∙ ap (λ (ids : List NodeId). ids ++ page_dirs page) (made-dirs-append old (m ∷ []))
    ∙ append_assoc (made_dirs old) (made_dirs (m ∷ [])) (page_dirs page)
    ∙ ap (λ (ids : List NodeId). made_dirs old ++ ids) (sym (more-dirs f.dir f.id (page_dirs page) [] (page_dirs page) refl))
    ∙ ap (λ (fs : List Found). made_dirs old ++ page_dirs fs) (sym is)

one-more : (w : Standing) (m : Made) → w.place.next ≤ length w.nodes → w.place.next ≤ length (w.nodes ++ m ∷ [])
one-more w m h = omega (arith, h, length-append w.nodes (m ∷ []))

first-keeps : (w : Standing) (target : NodeId) (page : List Found) → w.place.next ≤ length w.nodes → w.page ≡ page → Keeps (rest_of w) (made_first w target page)
first-keeps w target [] h is = tt
first-keeps w target (f ∷ []) h is =
    ((refl, one-more w (made_of w.place.here f target) h), λ lists more. subst (λ (dirs : List NodeId). Sweeps lists w.place.here.source w.place.start dirs) (waits-on w target f [] h is) more)
first-keeps w target (f ∷ g ∷ page) h is =
    (one-more w (made_of w.place.here f target) h, λ lists more. subst (λ (dirs : List NodeId). Sweeps lists w.place.here.source w.place.start dirs) (waits-on w target f (g ∷ page) h is) more)

next-made-keeps : (w : Standing) (target : NodeId) → w.place.next ≤ length w.nodes → Keeps (rest_of w) (next_made w target)
unfolding next_made
next-made-keeps w target h = first-keeps w target w.page h refl

-- ---- a step

abbrev pub listing_at : Stage → Standing → Code → Reply → List Listing
listing_at stages.Lists w c reply = list_here w (rows_told c (Some reply))
listing_at stage w c reply = []

abbrev rest_at : Stage → Standing → Code → Reply → List Listing → Type 0
rest_at stage w c reply lists = Rest stage w (listing_at stage w c reply ++ lists)

abbrev is_whole : List Listing → Type 0
is_whole lists = Sweeps lists root 1 []

looks-keeps : (w : Standing) (c : Code) (reply : Reply) → IsBefore w → Keeps is_whole (looked w c reply)
unfolding looked
looks-keeps w c reply h =
    let shown : Next = needs To (first_in (rows_in reply)) (λ node. ends (not_empty node)) in
    let listed_next : Next = goes (record w { place = first_place; stage = stages.Lists }) in
    if-any (Keeps is_whole) (is_ok c) shown (if ends_list c then listed_next else ends (refused To c root)) (needs-any (Keeps is_whole) To (first_in (rows_in reply)) (λ node. ends (not_empty node)) tt (λ node. tt))
    (if-any (Keeps is_whole) (ends_list c) listed_next (ends (refused To c root))
    ((h.1, omega arith), λ lists more. subst (λ (dirs : List NodeId). Sweeps lists root 1 dirs) (ap (λ (ns : List Made). made_dirs ns ++ page_dirs w.page) h.0 ∙ ap (λ (page : List Found). page_dirs page) h.1) more)
    tt)

makes-keeps : (w : Standing) (c : Code) (reply : Reply) → w.place.next ≤ length w.nodes → Keeps (rest_of w) (made w c reply)
unfolding made
makes-keeps w c reply h =
    let made_dir : Next = needs To (node_in reply) (next_made w) in
    let made_file : Next = goes (record w { stage = stages.Finds }) in
    must-any (Keeps (rest_of w)) c To w.place.here.target (if is_first_dir w.page then made_dir else made_file) tt
    (if-any (Keeps (rest_of w)) (is_first_dir w.page) made_dir made_file (needs-any (Keeps (rest_of w)) To (node_in reply) (next_made w) tt (λ target. next-made-keeps w target h)) (h, λ lists more. more))

set-file-keeps : (w : Standing) (target : NodeId) (c : Code) → w.place.next ≤ length w.nodes → Keeps (rest_of w) (set_file w target c)
unfolding set_file
set-file-keeps w target c h = must-any (Keeps (rest_of w)) c To target (next_made w target) tt (next-made-keeps w target h)

list-keeps : (w : Standing) (c : Code) (reply : Reply) → IsIn stages.Lists w → Keeps (rest_at stages.Lists w c reply) (listed w c reply)
unfolding listed
list-keeps w c reply h = listed-by (is_ok c) (ends_list c) w (rows_in reply) From c w.place.here.source h

goes-if : (rest : List Listing → Type 0) (w : Standing) (b : Bool) (x y : Stage) → Keeps rest (goes (record w { stage = x })) → Keeps rest (goes (record w { stage = y })) → Keeps rest (goes (record w { stage = if b then x else y }))
goes-if rest w true x y h k = h
goes-if rest w false x y h k = k

set-dir-keeps : (w : Standing) (index : ℕ) (c : Code) → Keeps is_past (set_dir w index c)
unfolding set_dir
set-dir-keeps w index c = must-any (Keeps is_past) c To (target_at (slice_get w.nodes index)) (next_set w index) tt (next-set-keeps is_past w index refl)

read-to-keeps : (w : Standing) (checking : Checking) (last : Bool) (c : Code) (reply : Reply) → Keeps is_past (read_to w checking last c reply)
unfolding read_to
read-to-keeps w checking last c reply =
    read-any (Keeps is_past) To (target_at (slice_get w.nodes checking.index)) checking.len c reply (compared w checking last) tt tt
    (λ piece ended. if-any (Keeps is_past) (bytes_eq piece w.piece) (goes (record w { stage = shut_or_read (record checking { len = checking.len + length piece }) last })) (ends (changed (target_at (slice_get w.nodes checking.index)) (checking.len + first_difference w.piece piece)))
    (goes-if is_past w last (stages.ShutsFrom (record checking { len = checking.len + length piece })) (stages.ReadsFrom (record checking { len = checking.len + length piece })) (tt, λ lists is. is) (tt, λ lists is. is)) tt)

shut-to-keeps : (w : Standing) (checking : Checking) (c : Code) → Keeps is_past (shut_to w checking c)
unfolding shut_to
shut-to-keeps w checking c =
    let with_line : Standing = record w { lines = lines_with w.lines (slice_get w.nodes checking.index) checking } in
    let again : Next = goes (record w { stage = stages.ChecksFrom (record checking { resource = true; len = 0; data_len = checking.len }) }) in
    must-any (Keeps is_past) c To (target_at (slice_get w.nodes checking.index)) (if checking.resource then next_check with_line (checking.index + 1) else again) tt
    (if-any (Keeps is_past) checking.resource (next_check with_line (checking.index + 1)) again (check-keeps is_past with_line (checking.index + 1) refl) (tt, λ lists is. is))

reads-keeps : (w : Standing) (copying : Copying) (c : Code) (reply : Reply) → w.place.next ≤ length w.nodes → Keeps (rest_of w) (read_piece w copying c reply)
unfolding read_piece
reads-keeps w copying c reply h =
    read-any (Keeps (rest_of w)) From (first_id w.page) copying.len c reply (λ piece last. goes (record w { piece = piece; stage = write_or_close copying piece last })) tt tt
    (λ piece last. goes-if (rest_of w) (record w { piece = piece }) (is_empty piece) (stages.ClosesFrom copying) (stages.Writes copying last) (h, λ lists more. more) (h, λ lists more. more))

writes-keeps : (w : Standing) (copying : Copying) (last : Bool) (c : Code) → w.place.next ≤ length w.nodes → Keeps (rest_of w) (written w copying last c)
unfolding written
writes-keeps w copying last c h =
    must-any (Keeps (rest_of w)) c To copying.target (goes (record w { stage = close_or_read (record copying { len = copying.len + length w.piece }) last })) tt
    (goes-if (rest_of w) w last (stages.ClosesFrom (record copying { len = copying.len + length w.piece })) (stages.Reads (record copying { len = copying.len + length w.piece })) (h, λ lists more. more) (h, λ lists more. more))

closes-keeps : (w : Standing) (copying : Copying) (c : Code) → w.place.next ≤ length w.nodes → Keeps (rest_of w) (closed_to w copying c)
unfolding closed_to
closes-keeps w copying c h =
    must-any (Keeps (rest_of w)) c To copying.target (goes (record w { stage = set_or_open copying })) tt
    (goes-if (rest_of w) w copying.resource (stages.SetsFile copying.target) (stages.OpensFrom (record copying { resource = true; len = 0 })) (h, λ lists more. more) (h, λ lists more. more))

step : (stage : Stage) (w : Standing) (c : Code) (reply : Reply) → IsIn stage w → Keeps (rest_at stage w c reply) (follows_at stage w c reply)
unfolding found_file opened_from opened_to closed_from checked_from checked_to read_from shut_from
step stages.OpensSource w c reply h = must-any (Keeps is_whole) c From root (needs From (volume_in reply) (λ v. goes (record w { from_volume = v; stage = stages.OpensTarget }))) tt (needs-any (Keeps is_whole) From (volume_in reply) (λ v. goes (record w { from_volume = v; stage = stages.OpensTarget })) tt (λ v. (h, λ lists more. more)))
step stages.OpensTarget w c reply h = must-any (Keeps is_whole) c To root (needs To (volume_in reply) (λ v. goes (record w { to_volume = v; stage = stages.Looks }))) tt (needs-any (Keeps is_whole) To (volume_in reply) (λ v. goes (record w { to_volume = v; stage = stages.Looks })) tt (λ v. (h, λ lists more. more)))
step stages.Looks w c reply h = looks-keeps w c reply h
step stages.Lists w c reply h = list-keeps w c reply h
step stages.Makes w c reply h = makes-keeps w c reply h
step stages.Finds w c reply h = must-any (Keeps (rest_of w)) c To w.place.here.target (needs To (found_id_in reply) (λ v. goes (record w { stage = stages.OpensFrom (copying_of v) }))) tt (needs-any (Keeps (rest_of w)) To (found_id_in reply) (λ v. goes (record w { stage = stages.OpensFrom (copying_of v) })) tt (λ v. (h, λ lists more. more)))
step (stages.OpensFrom copying) w c reply h = must-any (Keeps (rest_of w)) c From (first_id w.page) (needs From (fork_in reply) (λ v. goes (record w { stage = stages.OpensTo (record copying { from = v }) }))) tt (needs-any (Keeps (rest_of w)) From (fork_in reply) (λ v. goes (record w { stage = stages.OpensTo (record copying { from = v }) })) tt (λ v. (h, λ lists more. more)))
step (stages.OpensTo copying) w c reply h = must-any (Keeps (rest_of w)) c To copying.target (needs To (fork_in reply) (λ v. goes (record w { stage = stages.Reads (record copying { to = v }) }))) tt (needs-any (Keeps (rest_of w)) To (fork_in reply) (λ v. goes (record w { stage = stages.Reads (record copying { to = v }) })) tt (λ v. (h, λ lists more. more)))
step (stages.Reads copying) w c reply h = reads-keeps w copying c reply h
step (stages.Writes copying last) w c reply h = writes-keeps w copying last c h
step (stages.ClosesFrom copying) w c reply h = must-any (Keeps (rest_of w)) c From (first_id w.page) (goes (record w { stage = stages.ClosesTo copying })) tt (h, λ lists more. more)
step (stages.ClosesTo copying) w c reply h = closes-keeps w copying c h
step (stages.SetsFile target) w c reply h = set-file-keeps w target c h
step (stages.SetsDir index) w c reply h = set-dir-keeps w index c
step (stages.ChecksFrom checking) w c reply h = must-any (Keeps is_past) c From (source_at (slice_get w.nodes checking.index)) (needs From (fork_in reply) (λ v. goes (record w { stage = stages.ChecksTo (record checking { from = v }) }))) tt (needs-any (Keeps is_past) From (fork_in reply) (λ v. goes (record w { stage = stages.ChecksTo (record checking { from = v }) })) tt (λ v. (tt, λ lists is. is)))
step (stages.ChecksTo checking) w c reply h = must-any (Keeps is_past) c To (target_at (slice_get w.nodes checking.index)) (needs To (fork_in reply) (λ v. goes (record w { stage = stages.ReadsFrom (record checking { to = v }) }))) tt (needs-any (Keeps is_past) To (fork_in reply) (λ v. goes (record w { stage = stages.ReadsFrom (record checking { to = v }) })) tt (λ v. (tt, λ lists is. is)))
step (stages.ReadsFrom checking) w c reply h = read-any (Keeps is_past) From (source_at (slice_get w.nodes checking.index)) checking.len c reply (λ piece last. goes (record w { piece = piece; stage = stages.ReadsTo checking last })) tt tt (λ piece last. (tt, λ lists is. is))
step (stages.ReadsTo checking last) w c reply h = read-to-keeps w checking last c reply
step (stages.ShutsFrom checking) w c reply h = must-any (Keeps is_past) c From (source_at (slice_get w.nodes checking.index)) (goes (record w { stage = stages.ShutsTo checking })) tt (tt, λ lists is. is)
step (stages.ShutsTo checking) w c reply h = shut-to-keeps w checking c

-- ---- the lists of a turn

pub some-asked : (P : Asked → Type 0) (a b : Asked) → Some a ≡ Some b → P a → P b
some-asked P a b same p = subst P (ap (λ (o : Option Asked). some_or a o) same) p

pub first-asked : (P : Asked → Type 0) (page : List Found) (f : Found → Asked) (b : Asked) → ((x : Found) → P (f x)) → of_first page f ≡ Some b → P b
first-asked P [] f b each same = absurd (subst is_none_of same tt)
first-asked P (x ∷ page) f b each same = some-asked P (f x) b same (each x)

pub node-asked : (P : Asked → Type 0) (o : Option Made) (f : Made → Asked) (b : Asked) → ((x : Made) → P (f x)) → of_node o f ≡ Some b → P b
node-asked P None f b each same = absurd (subst is_none_of same tt)
node-asked P (Some x) f b each same = some-asked P (f x) b same (each x)

abbrev Lists : Stage → Standing → Code → Reply → Asked → Type 0
Lists stage w c reply a = listing a.side a.call (rows_told c (Some reply)) ≡ listing_at stage w c reply

call-lists : (stage : Stage) (w : Standing) (c : Code) (reply : Reply) (a : Asked) → asked_at stage w ≡ Some a → Lists stage w c reply a
call-lists stages.OpensSource w c reply a same = some-asked (Lists stages.OpensSource w c reply) _ a same refl
call-lists stages.OpensTarget w c reply a same = some-asked (Lists stages.OpensTarget w c reply) _ a same refl
call-lists stages.Looks w c reply a same = some-asked (Lists stages.Looks w c reply) _ a same refl
call-lists stages.Lists w c reply a same = some-asked (Lists stages.Lists w c reply) _ a same refl
call-lists stages.Makes w c reply a same = first-asked (Lists stages.Makes w c reply) w.page _ a (λ found. refl) same
call-lists stages.Finds w c reply a same = first-asked (Lists stages.Finds w c reply) w.page _ a (λ found. refl) same
call-lists (stages.OpensFrom copying) w c reply a same = first-asked (Lists (stages.OpensFrom copying) w c reply) w.page _ a (λ found. refl) same
call-lists (stages.OpensTo copying) w c reply a same = first-asked (Lists (stages.OpensTo copying) w c reply) w.page _ a (λ found. refl) same
call-lists (stages.Reads copying) w c reply a same = first-asked (Lists (stages.Reads copying) w c reply) w.page _ a (λ found. refl) same
call-lists (stages.Writes copying last) w c reply a same = some-asked (Lists (stages.Writes copying last) w c reply) _ a same refl
call-lists (stages.ClosesFrom copying) w c reply a same = first-asked (Lists (stages.ClosesFrom copying) w c reply) w.page _ a (λ found. refl) same
call-lists (stages.ClosesTo copying) w c reply a same = some-asked (Lists (stages.ClosesTo copying) w c reply) _ a same refl
call-lists (stages.SetsFile target) w c reply a same = first-asked (Lists (stages.SetsFile target) w c reply) w.page _ a (λ found. refl) same
call-lists (stages.SetsDir index) w c reply a same = node-asked (Lists (stages.SetsDir index) w c reply) _ _ a (λ node. refl) same
call-lists (stages.ChecksFrom checking) w c reply a same = node-asked (Lists (stages.ChecksFrom checking) w c reply) _ _ a (λ node. refl) same
call-lists (stages.ChecksTo checking) w c reply a same = node-asked (Lists (stages.ChecksTo checking) w c reply) _ _ a (λ node. refl) same
call-lists (stages.ReadsFrom checking) w c reply a same = node-asked (Lists (stages.ReadsFrom checking) w c reply) _ _ a (λ node. refl) same
call-lists (stages.ReadsTo checking last) w c reply a same = node-asked (Lists (stages.ReadsTo checking last) w c reply) _ _ a (λ node. refl) same
call-lists (stages.ShutsFrom checking) w c reply a same = node-asked (Lists (stages.ShutsFrom checking) w c reply) _ _ a (λ node. refl) same
call-lists (stages.ShutsTo checking) w c reply a same = node-asked (Lists (stages.ShutsTo checking) w c reply) _ _ a (λ node. refl) same

pub turn-lists : (w : Standing) (t : Turn) (reply : Reply) → IsTurn w t → t.reply ≡ Some reply → listing t.side t.call (rows_told t.answer.code t.reply) ≡ listing_at w.stage w t.answer.code reply
unfolding asks
turn-lists w t reply turn is =
    ap (λ (side : Side). listing side t.call (rows_told t.answer.code t.reply)) turn.side
    ∙ ap (λ (call : Call). listing turn.asked.side call (rows_told t.answer.code t.reply)) turn.call
    ∙ ap (λ (o : Option Reply). listing turn.asked.side turn.asked.call (rows_told t.answer.code o)) is
    ∙ call-lists w.stage w t.answer.code reply turn.asked turn.next

-- ---- a run

abbrev is_goes : Next → Type 0
is_goes (goes w) = Unit {0}
is_goes (ends end) = ⊥

abbrev pub is_done : Next → Type 0
is_done (ends (done lines)) = Unit {0}
is_done (ends (refused side c node)) = ⊥
is_done (ends (not_empty node)) = ⊥
is_done (ends too_many) = ⊥
is_done (ends (bad side)) = ⊥
is_done (ends (changed node place)) = ⊥
is_done (goes w) = ⊥

pub not-done : {P : Type 0} (lines : List Line) (next : Next) → (is_done next → ⊥) → ends (done lines) ≡ next → P
not-done lines next fails same = absurd (fails (subst is_done same tt))

ended-at : (e : Ended) (rest : List Listing → Type 0) (turns : List Turn) (lines : List Line) → Keeps rest (ends e) → Leads (ends e) turns (ends (done lines)) → rest (lists_of turns)
ended-at e rest (t ∷ turns) lines k l = absurd l
ended-at (done other) rest [] lines k l = k
ended-at (refused side c node) rest [] lines k l = not-done lines (ends (refused side c node)) (λ h. h) l
ended-at (not_empty node) rest [] lines k l = not-done lines (ends (not_empty node)) (λ h. h) l
ended-at too_many rest [] lines k l = not-done lines (ends too_many) (λ h. h) l
ended-at (bad side) rest [] lines k l = not-done lines (ends (bad side)) (λ h. h) l
ended-at (changed node place) rest [] lines k l = not-done lines (ends (changed node place)) (λ h. h) l

behind : (n : Next) (rest : List Listing → Type 0) (turns : List Turn) (lines : List Line) → ((w : Standing) → IsIn w.stage w → Leads (goes w) turns (ends (done lines)) → Rest w.stage w (lists_of turns)) → Keeps rest n → Leads n turns (ends (done lines)) → rest (lists_of turns)
behind (goes w) rest turns lines more k l = k.1 (lists_of turns) (more w k.0 l)
behind (ends e) rest turns lines more k l = ended-at e rest turns lines k l

seen-on : (w : Standing) (t : Turn) (turns : List Turn) (lines : List Line) (o : Option Reply) → t.reply ≡ o → IsIn w.stage w → IsTurn w t → ((v : Standing) → IsIn v.stage v → Leads (goes v) turns (ends (done lines)) → Rest v.stage v (lists_of turns))
    → Leads (seen w t.side t.answer o) turns (ends (done lines)) → Rest w.stage w (lists_of (t ∷ turns))
unfolding follows
seen-on w t turns lines None is h turn more l = ended-at (bad t.side) (λ lists. Rest w.stage w (lists_of (t ∷ turns))) turns lines tt l
seen-on w t turns lines (Some reply) is h turn more l =
    subst (λ (first : List Listing). Rest w.stage w (first ++ lists_of turns)) (sym (turn-lists w t reply turn is))
    (behind (follows w t.answer.code reply) (rest_at w.stage w t.answer.code reply) turns lines more (step w.stage w t.answer.code reply h) l)

sweeps : (turns : List Turn) (w : Standing) (lines : List Line) → IsIn w.stage w → Leads (goes w) turns (ends (done lines)) → Rest w.stage w (lists_of turns)
sweeps [] w lines h l = not-done lines (goes w) (λ k. k) l
sweeps (t ∷ turns) w lines h l = seen-on w t turns lines t.reply refl h l.0 (λ v k m. sweeps turns v lines k m) l.1

pub done-has-swept : DoneHasSwept
done-has-swept source target turns lines l = sweeps turns (first source target) lines (refl, refl) l
