-- Each node that the source's lists give is paired with the one that was made for it.
use Rattle.std.proofs.Common.{◌≡◌, ℕ, zero, suc, ◌+◌, ◌≤◌, ◌<◌, ◌^◌, Bool, true, false, if◌then◌else◌, List, [], ◌∷◌, ◌++◌, length, drop, map, Option, Some, None, Result, Ok, Err, refl, sym, ap, ◌∙◌, subst, arith}
use Rattle.std.specs.Prelude.{nat_le, nat_lt, slice_get, bytes_eq}
use Rattle.std.proofs.lemmas.Bool.Decides.{nat_tests}
use Rattle.std.proofs.lemmas.List.{append-nil, append_assoc}
use Rattle.afp_base.specs.Limits.{most_fork_bytes}
use Rattle.afp_base.specs.declared.code.Code.{Code}
use Rattle.afp_base.specs.declared.ids.NodeId.{NodeId}
use Rattle.afp_replies.specs.declared.list.ListEntry.{ListEntry}
use Rattle.afp_replies.specs.declared.reply.Reply.{Reply}
use Rattle.afp_calls_grammar.specs.declared.grammar.call.Call.{Call}
use Rattle.afp_mirror_walk.specs.Asks.{Asked, asked, asked_at, asks, create, of_first, root}
use Rattle.afp_mirror_walk.specs.Follows.{Ended, Next, and_then, bad, changed, checked_from, checked_to, checking_of, close_or_read, closed_from, closed_to, compared, copying_of, dirs_before, done, ends, ends_fork, ends_list, first, first_difference, first_id, first_in, first_place, follows, follows_at, fork_in, found_file, found_id_in, goes, has_asked, is_empty, is_first_dir, is_ok, last_dir, line_of, lines_with, list_or_set, listed, listed_rows, looked, made, made_first, made_of, must, needs, next_check, next_dir, next_made, next_place, next_set, node_in, not_empty, opened_from, opened_to, page_from, piece_in, read_from, read_of, read_piece, read_to, read_told, refused, rows_in, set_dir, set_file, set_or_check, set_or_open, shut_from, shut_or_read, shut_to, source_at, target_at, too_many, volume_in, with_found, with_page, write_or_close, written}
use Rattle.afp_mirror_walk.specs.Settings.{found_in}
use Rattle.afp_mirror_walk.specs.Standing.{Standing}
use Rattle.afp_mirror_walk.specs.declared.walk.ends.Line.{Line}
use Rattle.afp_mirror_walk.specs.declared.walk.ends.Side.{Side}
use Rattle.afp_mirror_walk.specs.declared.walk.ends.Side.TheVariants.{From, To}
use Rattle.afp_mirror_walk.specs.declared.walk.standing.Checking.{Checking}
use Rattle.afp_mirror_walk.specs.declared.walk.standing.Copying.{Copying}
use Rattle.afp_mirror_walk.specs.declared.walk.standing.Found.{Found}
use Rattle.afp_mirror_walk.specs.declared.walk.standing.Made.{Made}
use Rattle.afp_mirror_walk.specs.declared.walk.standing.Stage.{Stage}
use Rattle.afp_mirror_walk.specs.declared.walk.standing.Stage.TheVariants as stages
use Rattle.afp_mirror_laws.specs.Paired.{DonePairs, given_by, given_in, id_list, ids_in, shown_by, shown_in, shown_to, source_of, target_of, with_id}
use Rattle.afp_mirror.specs.Runs.{IsTurn, Leads, Turn, seen}
use Rattle.afp_mirror_laws.specs.Swept.{Listing, listing, lists_of, rows_told}
use Rattle.afp_mirror_laws.proofs.SweptLemmas.{IsMore, first-asked, found-more, listing_at, no-page, node-asked, not-done, ok-page, page-not-done, some-asked, turn-lists}

abbrev pub made_source : Made → NodeId
made_source node = node.source

abbrev made_target : Made → NodeId
made_target node = node.target

abbrev pub found_id : Found → NodeId
found_id f = f.id

abbrev pub known : Standing → List NodeId
known w = map made_source w.nodes ++ map found_id w.page

-- the lines' ids are these, and what the turns to come give and show
abbrev Pairs : List NodeId → List NodeId → List NodeId → List NodeId → List Line → Type 0
Pairs sources targets given shown lines = (map source_of lines ≡ sources ++ given) × (map target_of lines ≡ targets ++ shown)

-- the lists are over, and the lines' ids are these
record IsLate (sources targets given shown : List NodeId) (lines : List Line) : Type 0 where
  no_more : given ≡ []
  none : shown ≡ []
  sources_are : map source_of lines ≡ sources
  targets_are : map target_of lines ≡ targets

abbrev IsChecked : Standing → ℕ → List NodeId → List NodeId → List Line → Type 0
IsChecked w from given shown lines = IsLate (map source_of w.lines ++ map made_source (drop from w.nodes)) (map target_of w.lines ++ map made_target (drop from w.nodes)) given shown lines

abbrev IsFirst : Standing → Type 0
IsFirst w = (w.nodes ≡ []) × (w.page ≡ []) × (w.lines ≡ [])

abbrev IsIn : Stage → Standing → Type 0
IsIn stages.OpensSource w = IsFirst w
IsIn stages.OpensTarget w = IsFirst w
IsIn stages.Looks w = IsFirst w
IsIn stages.Lists w = (w.page ≡ []) × (w.lines ≡ [])
IsIn stages.Makes w = w.lines ≡ []
IsIn stages.Finds w = w.lines ≡ []
IsIn (stages.OpensFrom copying) w = w.lines ≡ []
IsIn (stages.OpensTo copying) w = w.lines ≡ []
IsIn (stages.Reads copying) w = w.lines ≡ []
IsIn (stages.Writes copying last) w = w.lines ≡ []
IsIn (stages.ClosesFrom copying) w = w.lines ≡ []
IsIn (stages.ClosesTo copying) w = w.lines ≡ []
IsIn (stages.SetsFile target) w = w.lines ≡ []
IsIn (stages.SetsDir index) w = w.lines ≡ []
IsIn (stages.ChecksFrom checking) w = checking.index < length w.nodes
IsIn (stages.ChecksTo checking) w = checking.index < length w.nodes
IsIn (stages.ReadsFrom checking) w = checking.index < length w.nodes
IsIn (stages.ReadsTo checking last) w = checking.index < length w.nodes
IsIn (stages.ShutsFrom checking) w = checking.index < length w.nodes
IsIn (stages.ShutsTo checking) w = checking.index < length w.nodes

abbrev Rest : Stage → Standing → List NodeId → List NodeId → List Line → Type 0
Rest stages.OpensSource w given shown lines = Pairs [] [] given shown lines
Rest stages.OpensTarget w given shown lines = Pairs [] [] given shown lines
Rest stages.Looks w given shown lines = Pairs [] [] given shown lines
Rest stages.Lists w given shown lines = Pairs (known w) (map made_target w.nodes) given shown lines
Rest stages.Makes w given shown lines = Pairs (known w) (map made_target w.nodes) given shown lines
Rest stages.Finds w given shown lines = Pairs (known w) (map made_target w.nodes) given shown lines
Rest (stages.OpensFrom copying) w given shown lines = Pairs (known w) (map made_target w.nodes ++ copying.target ∷ []) given shown lines
Rest (stages.OpensTo copying) w given shown lines = Pairs (known w) (map made_target w.nodes ++ copying.target ∷ []) given shown lines
Rest (stages.Reads copying) w given shown lines = Pairs (known w) (map made_target w.nodes ++ copying.target ∷ []) given shown lines
Rest (stages.Writes copying last) w given shown lines = Pairs (known w) (map made_target w.nodes ++ copying.target ∷ []) given shown lines
Rest (stages.ClosesFrom copying) w given shown lines = Pairs (known w) (map made_target w.nodes ++ copying.target ∷ []) given shown lines
Rest (stages.ClosesTo copying) w given shown lines = Pairs (known w) (map made_target w.nodes ++ copying.target ∷ []) given shown lines
Rest (stages.SetsFile target) w given shown lines = Pairs (known w) (map made_target w.nodes ++ target ∷ []) given shown lines
Rest (stages.SetsDir index) w given shown lines = IsLate (map made_source w.nodes) (map made_target w.nodes) given shown lines
Rest (stages.ChecksFrom checking) w given shown lines = IsChecked w checking.index given shown lines
Rest (stages.ChecksTo checking) w given shown lines = IsChecked w checking.index given shown lines
Rest (stages.ReadsFrom checking) w given shown lines = IsChecked w checking.index given shown lines
Rest (stages.ReadsTo checking last) w given shown lines = IsChecked w checking.index given shown lines
Rest (stages.ShutsFrom checking) w given shown lines = IsChecked w checking.index given shown lines
Rest (stages.ShutsTo checking) w given shown lines = IsChecked w checking.index given shown lines

abbrev Keeps : (List NodeId → List NodeId → List Line → Type 0) → Next → Type 0
Keeps rest (goes w) = IsIn w.stage w × ((given shown : List NodeId) (lines : List Line) → Rest w.stage w given shown lines → rest given shown lines)
Keeps rest (ends (done lines)) = rest [] [] lines
Keeps rest (ends (refused side c node)) = Unit {0}
Keeps rest (ends (not_empty node)) = Unit {0}
Keeps rest (ends too_many) = Unit {0}
Keeps rest (ends (bad side)) = Unit {0}
Keeps rest (ends (changed node place)) = Unit {0}

-- ---- tests

pub if-any : (P : Next → Type 0) (b : Bool) (x y : Next) → P x → P y → P (if b then x else y)
if-any P true x y h k = h
if-any P false x y h k = k

pub if-by : (P : Next → Type 0) (b : Bool) (x y : Next) → (b ≡ true → P x) → (b ≡ false → P y) → P (if b then x else y)
if-by P true x y h k = h refl
if-by P false x y h k = k refl

pub needs-any : {A : Type 0} (P : Next → Type 0) (side : Side) (o : Option A) (f : A → Next) → P (ends (bad side)) → ((v : A) → P (f v)) → P (needs side o f)
needs-any P side None f fails passes = fails
needs-any P side (Some v) f fails passes = passes v

read-of-any : (P : Next → Type 0) (side : Side) (len : ℕ) (last : Bool) (next : List ℕ → Bool → Next) (piece : List ℕ) → P (ends (bad side)) → P (next piece last) → P (read_of side len last next piece)
read-of-any P side len last next piece fails passes =
    if-any P (has_asked last piece) (if nat_le (len + length piece) most_fork_bytes then next piece last else ends (bad side)) (ends (bad side))
    (if-any P (nat_le (len + length piece) most_fork_bytes) (next piece last) (ends (bad side)) passes fails) fails

read-any : (P : Next → Type 0) (side : Side) (node : NodeId) (len : ℕ) (c : Code) (reply : Reply) (next : List ℕ → Bool → Next) → P (ends (refused side c node)) → P (ends (bad side)) → ((piece : List ℕ) (last : Bool) → P (next piece last)) → P (read_told side node len c reply next)
read-any P side node len c reply next fails wrong passes =
    let more : Next = needs side (piece_in reply) (read_of side len false next) in
    let last : Next = needs side (piece_in reply) (read_of side len true next) in
    if-any P (is_ok c) more (if ends_fork c then last else ends (refused side c node)) (needs-any P side (piece_in reply) (read_of side len false next) wrong (λ piece. read-of-any P side len false next piece wrong (passes piece false)))
    (if-any P (ends_fork c) last (ends (refused side c node)) (needs-any P side (piece_in reply) (read_of side len true next) wrong (λ piece. read-of-any P side len true next piece wrong (passes piece true))) fails)

pub must-any : (P : Next → Type 0) (c : Code) (side : Side) (node : NodeId) (next : Next) → P (ends (refused side c node)) → P next → P (must c side node next)
must-any P c side node next wrong passes = if-any P (is_ok c) next (ends (refused side c node)) passes wrong

goes-if : (rest : List NodeId → List NodeId → List Line → Type 0) (w : Standing) (b : Bool) (x y : Stage) → Keeps rest (goes (record w { stage = x })) → Keeps rest (goes (record w { stage = y })) → Keeps rest (goes (record w { stage = if b then x else y }))
goes-if rest w true x y h k = h
goes-if rest w false x y h k = k

pub less-by : (a b : ℕ) → nat_lt a b ≡ true → a < b
less-by a b h = grind (arith, nat_tests, h)

pub past-by : (a b : ℕ) → nat_lt a b ≡ false → b ≤ a
past-by a b h = grind (arith, nat_tests, h)

-- ---- lines of directories

pub map-append : {A B : Type 0} (f : A → B) (xs ys : List A) → map f (xs ++ ys) ≡ map f xs ++ map f ys
map-append f [] ys = refl
map-append {A} {B} f (x ∷ xs) ys = ap (λ (zs : List B). f x ∷ zs) (map-append f xs ys)

drop-none : {A : Type 0} (n : ℕ) → drop {A = A} n [] ≡ []
drop-none zero = refl
drop-none (suc n) = refl

pub drop-both : {A : Type 0} (m k : ℕ) (xs : List A) → drop (m + k) xs ≡ drop k (drop m xs)
drop-both {A} zero k xs =
    let same : 0 + k ≡ k = omega arith in
    ap (λ (n : ℕ). drop n xs) same
drop-both {A} (suc m) k [] = drop-none {A = A} (suc m + k) ∙ sym (drop-none {A = A} k)
drop-both {A} (suc m) k (x ∷ xs) =
    let same : suc m + k ≡ suc (m + k) = omega arith in
    ap (λ (n : ℕ). drop n (x ∷ xs)) same ∙ drop-both m k xs

pub drop-past : {A : Type 0} (n : ℕ) (xs : List A) → length xs ≤ n → drop n xs ≡ []
drop-past zero [] h = refl
drop-past (suc n) [] h = refl
drop-past zero (x ∷ xs) h = absurd (omega (arith, h))
drop-past (suc n) (x ∷ xs) h = drop-past n xs (omega (arith, h))

-- a field of lines, and of nodes
record Field : Type 0 where
  of_line : Line → NodeId
  of_node : Made → NodeId
  agree : (node : Made) (data_len resource_len : ℕ) → of_line (line_of node data_len resource_len) ≡ of_node node

abbrev of_sources : Field
of_sources = record { of_line = source_of; of_node = made_source; agree = λ node data_len resource_len. refl }

abbrev of_targets : Field
of_targets = record { of_line = target_of; of_node = made_target; agree = λ node data_len resource_len. refl }

dirs-by : (field : Field) (node : Made) (nodes : List Made) (b : Bool) → map field.of_line (dirs_before nodes) ++ map field.of_node (drop (length (dirs_before nodes)) nodes) ≡ map field.of_node nodes
    → map field.of_line (if b then line_of node 0 0 ∷ dirs_before nodes else []) ++ map field.of_node (drop (length (if b then line_of node 0 0 ∷ dirs_before nodes else [])) (node ∷ nodes)) ≡ map field.of_node (node ∷ nodes)
dirs-by field node nodes true is =
    ap (λ (id : NodeId). id ∷ (map field.of_line (dirs_before nodes) ++ map field.of_node (drop (length (dirs_before nodes)) nodes))) (field.agree node 0 0)
    ∙ ap (λ (ids : List NodeId). field.of_node node ∷ ids) is
dirs-by field node nodes false is = refl

dirs-are : (field : Field) (nodes : List Made) → map field.of_line (dirs_before nodes) ++ map field.of_node (drop (length (dirs_before nodes)) nodes) ≡ map field.of_node nodes
dirs-are field [] = refl
dirs-are field (node ∷ nodes) = dirs-by field node nodes node.dir (dirs-are field nodes)

-- the lines with those of directories, and the nodes behind them
lines-on : (field : Field) (lines : List Line) (nodes : List Made) (from : ℕ) → map field.of_line (lines ++ dirs_before (drop from nodes)) ++ map field.of_node (drop (from + length (dirs_before (drop from nodes))) nodes) ≡ map field.of_line lines ++ map field.of_node (drop from nodes)
lines-on field lines nodes from =
    let dirs : List Line = dirs_before (drop from nodes) in
    ap (λ (ids : List NodeId). ids ++ map field.of_node (drop (from + length dirs) nodes)) (map-append field.of_line lines dirs)
    ∙ append_assoc (map field.of_line lines) (map field.of_line dirs) (map field.of_node (drop (from + length dirs) nodes))
    ∙ ap (λ (ns : List Made). map field.of_line lines ++ (map field.of_line dirs ++ map field.of_node ns)) (drop-both from (length dirs) nodes)
    ∙ ap (λ (ids : List NodeId). map field.of_line lines ++ ids) (dirs-are field (drop from nodes))

lines-all : (field : Field) (lines : List Line) (nodes : List Made) (from : ℕ) → length nodes ≤ from + length (dirs_before (drop from nodes)) → map field.of_line (lines ++ dirs_before (drop from nodes)) ≡ map field.of_line lines ++ map field.of_node (drop from nodes)
lines-all field lines nodes from past =
    sym (append-nil (map field.of_line (lines ++ dirs_before (drop from nodes))))
    ∙ ap (λ (ns : List Made). map field.of_line (lines ++ dirs_before (drop from nodes)) ++ map field.of_node ns) (sym (drop-past (from + length (dirs_before (drop from nodes))) nodes past))
    ∙ lines-on field lines nodes from

check-keeps : (rest : List NodeId → List NodeId → List Line → Type 0) (w : Standing) (from : ℕ) → ((given shown : List NodeId) (lines : List Line) → IsChecked w from given shown lines → rest given shown lines) → Keeps rest (next_check w from)
unfolding next_check
check-keeps rest w from h =
    let dirs : List Line = dirs_before (drop from w.nodes) in
    if-by (Keeps rest) (nat_lt (from + length dirs) (length w.nodes)) (goes (record w { lines = w.lines ++ dirs; stage = stages.ChecksFrom (checking_of (from + length dirs)) })) (ends (done (w.lines ++ dirs)))
    (λ less. (
      less-by (from + length dirs) (length w.nodes) less,
      λ given shown lines late.
          h given shown lines (record {
            no_more = late.no_more;
            none = late.none;
            sources_are = late.sources_are ∙ lines-on of_sources w.lines w.nodes from;
            targets_are = late.targets_are ∙ lines-on of_targets w.lines w.nodes from;
          }),
    ))
    (λ past. h [] [] (w.lines ++ dirs) (record {
      no_more = refl;
      none = refl;
      sources_are = lines-all of_sources w.lines w.nodes from (past-by (from + length dirs) (length w.nodes) past);
      targets_are = lines-all of_targets w.lines w.nodes from (past-by (from + length dirs) (length w.nodes) past);
    }))

-- ---- directories are set

first-lines : (field : Field) (w : Standing) → w.lines ≡ [] → map field.of_line w.lines ++ map field.of_node (drop 0 w.nodes) ≡ map field.of_node w.nodes
first-lines field w none = ap (λ (lines : List Line). map field.of_line lines ++ map field.of_node w.nodes) none

set-or-check-keeps : (rest : List NodeId → List NodeId → List Line → Type 0) (w : Standing) (o : Option ℕ) → w.lines ≡ [] → ((given shown : List NodeId) (lines : List Line) → IsLate (map made_source w.nodes) (map made_target w.nodes) given shown lines → rest given shown lines) → Keeps rest (set_or_check w o)
set-or-check-keeps rest w None none h =
    check-keeps rest w 0 (λ given shown lines late. h given shown lines (record { no_more = late.no_more; none = late.none; sources_are = late.sources_are ∙ first-lines of_sources w none; targets_are = late.targets_are ∙ first-lines of_targets w none }))
set-or-check-keeps rest w (Some index) none h = (none, h)

next-set-keeps : (rest : List NodeId → List NodeId → List Line → Type 0) (w : Standing) (before : ℕ) → w.lines ≡ [] → ((given shown : List NodeId) (lines : List Line) → IsLate (map made_source w.nodes) (map made_target w.nodes) given shown lines → rest given shown lines) → Keeps rest (next_set w before)
unfolding next_set
next-set-keeps rest w before none h = set-or-check-keeps rest w (last_dir w.nodes before) none h

-- ---- lists

abbrev is_known : Standing → List NodeId → List NodeId → List Line → Type 0
is_known w given shown lines = Pairs (known w) (map made_target w.nodes) given shown lines

abbrev is_listed : Standing → Option (List ListEntry) → List NodeId → List NodeId → List Line → Type 0
is_listed w rows given shown lines = Pairs (known w) (map made_target w.nodes) (given_by rows ++ given) shown lines

pub record IdsAre (from : List Found) (rows : List ListEntry) (page : List Found) : Type 0 where
  pub ids : map found_id page ≡ map found_id from ++ ids_in rows

ids-more : (from more : List Found) (row : ListEntry) (rows : List ListEntry) (page : List Found) → IsMore (found_in row.values) from more → IdsAre more rows page → IdsAre from (row ∷ rows) page
ids-more from more row rows page m p = record {
  ids = p.ids
      ∙ ap (λ (xs : List Found). map found_id xs ++ ids_in rows) m.more_is
      ∙ ap (λ (ids : List NodeId). ids ++ ids_in rows) (map-append found_id from (m.f ∷ []))
      ∙ append_assoc (map found_id from) (m.f.id ∷ []) (ids_in rows)
      ∙ ap (λ (o : Option Found). map found_id from ++ with_id o (ids_in rows)) (sym m.is);
}

ids-by : (nodes : List Made) (from : List Found) (row : ListEntry) (rows : List ListEntry) (page : List Found) (r : Result (List Found) Ended) → with_found nodes from (found_in row.values) ≡ r
    → ((more : List Found) → page_from nodes more rows ≡ Ok page → IdsAre more rows page) → and_then r (λ more. page_from nodes more rows) ≡ Ok page → IdsAre from (row ∷ rows) page
ids-by nodes from row rows page (Ok more) is rest h = ids-more from more row rows page (found-more nodes from more (found_in row.values) is) (rest more h)
ids-by nodes from row rows page (Err e) is rest h = no-page e page h

pub ids-are : (nodes : List Made) (from : List Found) (rows : List ListEntry) (page : List Found) → page_from nodes from rows ≡ Ok page → IdsAre from rows page
unfolding page_from
ids-are nodes from [] page h =
    let same : page ≡ from = ap (λ (r : Result (List Found) Ended). ok-page page r) (sym h) in
    record { ids = ap (λ (xs : List Found). map found_id xs) same ∙ sym (append-nil (map found_id from)) }
ids-are nodes from (row ∷ rows) page h = ids-by nodes from row rows page (with_found nodes from (found_in row.values)) refl (λ more k. ids-are nodes more rows page k) h

known-listed : (w : Standing) (page : List Found) (rows : List ListEntry) (given : List NodeId) → w.page ≡ [] → IdsAre [] rows page → (map made_source w.nodes ++ map found_id page) ++ given ≡ known w ++ (ids_in rows ++ given)
known-listed w page rows given none p =
    let old : List NodeId = map made_source w.nodes in
    ap (λ (ids : List NodeId). (old ++ ids) ++ given) p.ids
    ∙ append_assoc old (ids_in rows) given
    ∙ ap (λ (ids : List NodeId). ids ++ (ids_in rows ++ given)) (sym (append-nil old) ∙ ap (λ (page : List Found). old ++ map found_id page) (sym none))

page-keeps : (w : Standing) (rows : List ListEntry) (r : Result (List Found) Ended) → IsIn stages.Lists w → page_from w.nodes [] rows ≡ r → Keeps (is_listed w (Some rows)) (with_page w r)
page-keeps w rows (Err (bad side)) h is = tt
page-keeps w rows (Err too_many) h is = tt
page-keeps w rows (Err (done lines)) h is = absurd (page-not-done w.nodes rows (done lines) is)
page-keeps w rows (Err (refused side c node)) h is = tt
page-keeps w rows (Err (not_empty node)) h is = tt
page-keeps w rows (Err (changed node place)) h is = tt
page-keeps w rows (Ok page) h is =
    if-any (Keeps (is_listed w (Some rows))) (nat_lt (w.place.start + length page) (2 ^ 32)) (goes (record w { place = record w.place { start = w.place.start + length page }; page = page; stage = stages.Makes })) (ends too_many)
    (h.1, λ given shown lines more. (more.0 ∙ known-listed w page rows given h.0 (ids-are w.nodes [] rows page is), more.1)) tt

rows-keeps : (w : Standing) (rows : List ListEntry) → IsIn stages.Lists w → Keeps (is_listed w (Some rows)) (listed_rows w rows)
unfolding listed_rows
rows-keeps w [] h = tt
rows-keeps w (row ∷ rows) h = page-keeps w (row ∷ rows) (page_from w.nodes [] (row ∷ rows)) h refl

late-known : (w : Standing) (given : List NodeId) → w.page ≡ [] → given ≡ [] → map made_source w.nodes ≡ known w ++ given
late-known w given none no_more =
    let old : List NodeId = map made_source w.nodes in
    sym (append-nil old) ∙ ap (λ (page : List Found). old ++ map found_id page) (sym none) ∙ sym (append-nil (known w)) ∙ ap (λ (ids : List NodeId). known w ++ ids) (sym no_more)

place-keeps : (w : Standing) (o : Option ℕ) → IsIn stages.Lists w → Keeps (is_known w) (list_or_set w o)
place-keeps w None h =
    next-set-keeps (is_known w) w (length w.nodes) h.1
    (λ given shown lines late. (
      late.sources_are ∙ late-known w given h.0 late.no_more,
      late.targets_are ∙ sym (append-nil (map made_target w.nodes)) ∙ ap (λ (ids : List NodeId). map made_target w.nodes ++ ids) (sym late.none),
    ))
place-keeps w (Some index) h = (h, λ given shown lines more. more)

next-place-keeps : (w : Standing) → IsIn stages.Lists w → Keeps (is_known w) (next_place w)
unfolding next_place
next-place-keeps w h = place-keeps w (next_dir (drop w.place.next w.nodes) w.place.next) h

listed-by : (a b : Bool) (w : Standing) (o : Option (List ListEntry)) (side : Side) (c : Code) (node : NodeId) → IsIn stages.Lists w
    → Keeps (is_listed w (if a then o else None)) (if a then needs From o (listed_rows w) else if b then next_place w else ends (refused side c node))
listed-by true b w None side c node h = tt
listed-by true b w (Some rows) side c node h = rows-keeps w rows h
listed-by false true w o side c node h = next-place-keeps w h
listed-by false false w o side c node h = tt

-- ---- nodes that are made

abbrev is_pending : Standing → NodeId → List NodeId → List NodeId → List Line → Type 0
is_pending w target given shown lines = Pairs (known w) (map made_target w.nodes ++ target ∷ []) given shown lines

pub known-on : (w : Standing) (target : NodeId) (f : Found) (page : List Found) → w.page ≡ f ∷ page → map made_source (w.nodes ++ made_of w.place.here f target ∷ []) ++ map found_id page ≡ known w
known-on w target f page is =
    let old : List NodeId = map made_source w.nodes in
    ap (λ (ids : List NodeId). ids ++ map found_id page) (map-append made_source w.nodes (made_of w.place.here f target ∷ []))
    ∙ append_assoc old (f.id ∷ []) (map found_id page)
    ∙ ap (λ (fs : List Found). old ++ map found_id fs) (sym is)

first-more : (w : Standing) (target : NodeId) (f : Found) (page : List Found) (given shown : List NodeId) (lines : List Line) → w.page ≡ f ∷ page
    → Pairs (map made_source (w.nodes ++ made_of w.place.here f target ∷ []) ++ map found_id page) (map made_target (w.nodes ++ made_of w.place.here f target ∷ [])) given shown lines → is_pending w target given shown lines
first-more w target f page given shown lines is more = (
  more.0 ∙ ap (λ (ids : List NodeId). ids ++ given) (known-on w target f page is),
  more.1 ∙ ap (λ (ids : List NodeId). ids ++ shown) (map-append made_target w.nodes (made_of w.place.here f target ∷ [])),
)

first-keeps : (w : Standing) (target : NodeId) (page : List Found) → w.lines ≡ [] → w.page ≡ page → Keeps (is_pending w target) (made_first w target page)
first-keeps w target [] h is = tt
first-keeps w target (f ∷ []) h is = ((refl, h), λ given shown lines more. first-more w target f [] given shown lines is more)
first-keeps w target (f ∷ g ∷ page) h is = (h, λ given shown lines more. first-more w target f (g ∷ page) given shown lines is more)

next-made-keeps : (w : Standing) (target : NodeId) → w.lines ≡ [] → Keeps (is_pending w target) (next_made w target)
unfolding next_made
next-made-keeps w target h = first-keeps w target w.page h refl

-- what was shown waits to be taken
abbrev is_shown : Standing → List NodeId → List NodeId → List NodeId → List Line → Type 0
is_shown w ids given shown lines = Pairs (known w) (map made_target w.nodes) given (ids ++ shown) lines

weaker : (rest other : List NodeId → List NodeId → List Line → Type 0) (n : Next) → ((given shown : List NodeId) (lines : List Line) → rest given shown lines → other given shown lines) → Keeps rest n → Keeps other n
weaker rest other (goes w) h k = (k.0, λ given shown lines more. h given shown lines (k.1 given shown lines more))
weaker rest other (ends (done lines)) h k = h [] [] lines k
weaker rest other (ends (refused side c node)) h k = tt
weaker rest other (ends (not_empty node)) h k = tt
weaker rest other (ends too_many) h k = tt
weaker rest other (ends (bad side)) h k = tt
weaker rest other (ends (changed node place)) h k = tt

pending-shown : (w : Standing) (target : NodeId) (given shown : List NodeId) (lines : List Line) → is_pending w target given shown lines → is_shown w (target ∷ []) given shown lines
pending-shown w target given shown lines h = (h.0, h.1 ∙ append_assoc (map made_target w.nodes) (target ∷ []) shown)

makes-by : (a b : Bool) (w v : Standing) (o : Option NodeId) (side : Side) (c : Code) (node : NodeId) → w.lines ≡ [] → Keeps (is_shown w []) (goes v)
    → Keeps (is_shown w (if b then (if a then id_list o else []) else [])) (if a then (if b then needs To o (next_made w) else goes v) else ends (refused side c node))
makes-by true true w v None side c node h k = tt
makes-by true true w v (Some target) side c node h k = weaker (is_pending w target) (is_shown w (target ∷ [])) (next_made w target) (λ given shown lines more. pending-shown w target given shown lines more) (next-made-keeps w target h)
makes-by true false w v o side c node h k = k
makes-by false true w v o side c node h k = tt
makes-by false false w v o side c node h k = tt

finds-by : (a : Bool) (w : Standing) (o : Option NodeId) (f : NodeId → Next) (side : Side) (c : Code) (node : NodeId) → ((target : NodeId) → Keeps (is_pending w target) (f target))
    → Keeps (is_shown w (if a then id_list o else [])) (if a then needs To o f else ends (refused side c node))
finds-by true w None f side c node k = tt
finds-by true w (Some target) f side c node k = weaker (is_pending w target) (is_shown w (target ∷ [])) (f target) (λ given shown lines more. pending-shown w target given shown lines more) (k target)
finds-by false w o f side c node k = tt

-- ---- a step

abbrev given_at : Stage → Standing → Code → Reply → List NodeId
given_at stages.Lists w c reply = given_by (rows_told c (Some reply))
given_at stage w c reply = []

abbrev shown_at : Stage → Standing → Code → Reply → List NodeId
shown_at stages.Makes w c reply = if is_first_dir w.page then (if is_ok c then id_list (node_in reply) else []) else []
shown_at stages.Finds w c reply = if is_ok c then id_list (found_id_in reply) else []
shown_at stage w c reply = []

abbrev rest_at : Stage → Standing → Code → Reply → List NodeId → List NodeId → List Line → Type 0
rest_at stage w c reply given shown lines = Rest stage w (given_at stage w c reply ++ given) (shown_at stage w c reply ++ shown) lines

abbrev is_all : List NodeId → List NodeId → List Line → Type 0
is_all given shown lines = Pairs [] [] given shown lines

looks-keeps : (w : Standing) (c : Code) (reply : Reply) → IsFirst w → Keeps is_all (looked w c reply)
unfolding looked
looks-keeps w c reply h =
    let given_node : Next = needs To (first_in (rows_in reply)) (λ node. ends (not_empty node)) in
    let listed_next : Next = goes (record w { place = first_place; stage = stages.Lists }) in
    if-any (Keeps is_all) (is_ok c) given_node (if ends_list c then listed_next else ends (refused To c root)) (needs-any (Keeps is_all) To (first_in (rows_in reply)) (λ node. ends (not_empty node)) tt (λ node. tt))
    (if-any (Keeps is_all) (ends_list c) listed_next (ends (refused To c root)) (
      (h.1, h.2),
      λ given shown lines more. (
        more.0 ∙ ap (λ (ns : List Made). (map made_source ns ++ map found_id w.page) ++ given) h.0 ∙ ap (λ (page : List Found). map found_id page ++ given) h.1,
        more.1 ∙ ap (λ (ns : List Made). map made_target ns ++ shown) h.0,
      ),
    )
    tt)

list-keeps : (w : Standing) (c : Code) (reply : Reply) → IsIn stages.Lists w → Keeps (rest_at stages.Lists w c reply) (listed w c reply)
unfolding listed
list-keeps w c reply h = listed-by (is_ok c) (ends_list c) w (rows_in reply) From c w.place.here.source h

makes-keeps : (w : Standing) (c : Code) (reply : Reply) → w.lines ≡ [] → Keeps (rest_at stages.Makes w c reply) (made w c reply)
unfolding made
makes-keeps w c reply h = makes-by (is_ok c) (is_first_dir w.page) w (record w { stage = stages.Finds }) (node_in reply) To c w.place.here.target h (h, λ given shown lines more. more)

finds-keeps : (w : Standing) (c : Code) (reply : Reply) → w.lines ≡ [] → Keeps (rest_at stages.Finds w c reply) (found_file w c reply)
unfolding found_file
finds-keeps w c reply h = finds-by (is_ok c) w (found_id_in reply) (λ target. goes (record w { stage = stages.OpensFrom (copying_of target) })) To c w.place.here.target (λ target. (h, λ given shown lines more. more))

reads-keeps : (w : Standing) (copying : Copying) (c : Code) (reply : Reply) → w.lines ≡ [] → Keeps (is_pending w copying.target) (read_piece w copying c reply)
unfolding read_piece
reads-keeps w copying c reply h =
    read-any (Keeps (is_pending w copying.target)) From (first_id w.page) copying.len c reply (λ piece last. goes (record w { piece = piece; stage = write_or_close copying piece last })) tt tt
    (λ piece last. goes-if (is_pending w copying.target) (record w { piece = piece }) (is_empty piece) (stages.ClosesFrom copying) (stages.Writes copying last) (h, λ given shown lines more. more) (h, λ given shown lines more. more))

writes-keeps : (w : Standing) (copying : Copying) (last : Bool) (c : Code) → w.lines ≡ [] → Keeps (is_pending w copying.target) (written w copying last c)
unfolding written
writes-keeps w copying last c h =
    must-any (Keeps (is_pending w copying.target)) c To copying.target (goes (record w { stage = close_or_read (record copying { len = copying.len + length w.piece }) last })) tt
    (goes-if (is_pending w copying.target) w last (stages.ClosesFrom (record copying { len = copying.len + length w.piece })) (stages.Reads (record copying { len = copying.len + length w.piece })) (h, λ given shown lines more. more) (h, λ given shown lines more. more))

closes-keeps : (w : Standing) (copying : Copying) (c : Code) → w.lines ≡ [] → Keeps (is_pending w copying.target) (closed_to w copying c)
unfolding closed_to
closes-keeps w copying c h =
    must-any (Keeps (is_pending w copying.target)) c To copying.target (goes (record w { stage = set_or_open copying })) tt
    (goes-if (is_pending w copying.target) w copying.resource (stages.SetsFile copying.target) (stages.OpensFrom (record copying { resource = true; len = 0 })) (h, λ given shown lines more. more) (h, λ given shown lines more. more))

set-file-keeps : (w : Standing) (target : NodeId) (c : Code) → w.lines ≡ [] → Keeps (is_pending w target) (set_file w target c)
unfolding set_file
set-file-keeps w target c h = must-any (Keeps (is_pending w target)) c To target (next_made w target) tt (next-made-keeps w target h)

abbrev is_late : Standing → List NodeId → List NodeId → List Line → Type 0
is_late w given shown lines = IsLate (map made_source w.nodes) (map made_target w.nodes) given shown lines

set-dir-keeps : (w : Standing) (index : ℕ) (c : Code) → w.lines ≡ [] → Keeps (is_late w) (set_dir w index c)
unfolding set_dir
set-dir-keeps w index c h = must-any (Keeps (is_late w)) c To (target_at (slice_get w.nodes index)) (next_set w index) tt (next-set-keeps (is_late w) w index h (λ given shown lines late. late))

read-to-keeps : (w : Standing) (checking : Checking) (last : Bool) (c : Code) (reply : Reply) → checking.index < length w.nodes → Keeps (IsChecked w checking.index) (read_to w checking last c reply)
unfolding read_to
read-to-keeps w checking last c reply h =
    read-any (Keeps (IsChecked w checking.index)) To (target_at (slice_get w.nodes checking.index)) checking.len c reply (compared w checking last) tt tt
    (λ piece ended. if-any (Keeps (IsChecked w checking.index)) (bytes_eq piece w.piece) (goes (record w { stage = shut_or_read (record checking { len = checking.len + length piece }) last })) (ends (changed (target_at (slice_get w.nodes checking.index)) (checking.len + first_difference w.piece piece)))
    (goes-if (IsChecked w checking.index) w last (stages.ShutsFrom (record checking { len = checking.len + length piece })) (stages.ReadsFrom (record checking { len = checking.len + length piece })) (h, λ given shown lines late. late) (h, λ given shown lines late. late)) tt)

-- the line of a file, and the nodes behind it
pub record HasNode (nodes : List Made) (index : ℕ) : Type 0 where
  pub node : Made
  pub get : slice_get nodes index ≡ Some node
  pub front : drop index nodes ≡ node ∷ drop (index + 1) nodes

pub has-node : (nodes : List Made) (index : ℕ) → index < length nodes → HasNode nodes index
has-node [] index h = absurd (omega (arith, h))
has-node (node ∷ nodes) zero h = record { node = node; get = refl; front = refl }
has-node (node ∷ nodes) (suc index) h =
    let n = has-node nodes index (omega (arith, h)) in
    let same : suc (index + 1) ≡ suc index + 1 = omega arith in
    record { node = n.node; get = n.get; front = n.front ∙ ap (λ (k : ℕ). n.node ∷ drop k (node ∷ nodes)) same }

line-on : (field : Field) (w : Standing) (checking : Checking) → checking.index < length w.nodes
    → map field.of_line (lines_with w.lines (slice_get w.nodes checking.index) checking) ++ map field.of_node (drop (checking.index + 1) w.nodes) ≡ map field.of_line w.lines ++ map field.of_node (drop checking.index w.nodes)
line-on field w checking h =
    let n = has-node w.nodes checking.index h in
    let behind : List NodeId = map field.of_node (drop (checking.index + 1) w.nodes) in
    ap (λ (o : Option Made). map field.of_line (lines_with w.lines o checking) ++ behind) n.get
    ∙ ap (λ (ids : List NodeId). ids ++ behind) (map-append field.of_line w.lines (line_of n.node checking.data_len checking.len ∷ []))
    ∙ append_assoc (map field.of_line w.lines) (field.of_line (line_of n.node checking.data_len checking.len) ∷ []) behind
    ∙ ap (λ (id : NodeId). map field.of_line w.lines ++ id ∷ behind) (field.agree n.node checking.data_len checking.len)
    ∙ ap (λ (ns : List Made). map field.of_line w.lines ++ map field.of_node ns) (sym n.front)

shut-to-keeps : (w : Standing) (checking : Checking) (c : Code) → checking.index < length w.nodes → Keeps (IsChecked w checking.index) (shut_to w checking c)
unfolding shut_to
shut-to-keeps w checking c h =
    let with_line : Standing = record w { lines = lines_with w.lines (slice_get w.nodes checking.index) checking } in
    let again : Next = goes (record w { stage = stages.ChecksFrom (record checking { resource = true; len = 0; data_len = checking.len }) }) in
    must-any (Keeps (IsChecked w checking.index)) c To (target_at (slice_get w.nodes checking.index)) (if checking.resource then next_check with_line (checking.index + 1) else again) tt
    (if-any (Keeps (IsChecked w checking.index)) checking.resource (next_check with_line (checking.index + 1)) again
    (check-keeps (IsChecked w checking.index) with_line (checking.index + 1)
    (λ given shown lines late. record { no_more = late.no_more; none = late.none; sources_are = late.sources_are ∙ line-on of_sources w checking h; targets_are = late.targets_are ∙ line-on of_targets w checking h }))
    (h, λ given shown lines late. late))

step : (stage : Stage) (w : Standing) (c : Code) (reply : Reply) → IsIn stage w → Keeps (rest_at stage w c reply) (follows_at stage w c reply)
unfolding opened_from opened_to closed_from checked_from checked_to read_from shut_from
step stages.OpensSource w c reply h = must-any (Keeps is_all) c From root (needs From (volume_in reply) (λ v. goes (record w { from_volume = v; stage = stages.OpensTarget }))) tt (needs-any (Keeps is_all) From (volume_in reply) (λ v. goes (record w { from_volume = v; stage = stages.OpensTarget })) tt (λ v. (h, λ given shown lines more. more)))
step stages.OpensTarget w c reply h = must-any (Keeps is_all) c To root (needs To (volume_in reply) (λ v. goes (record w { to_volume = v; stage = stages.Looks }))) tt (needs-any (Keeps is_all) To (volume_in reply) (λ v. goes (record w { to_volume = v; stage = stages.Looks })) tt (λ v. (h, λ given shown lines more. more)))
step stages.Looks w c reply h = looks-keeps w c reply h
step stages.Lists w c reply h = list-keeps w c reply h
step stages.Makes w c reply h = makes-keeps w c reply h
step stages.Finds w c reply h = finds-keeps w c reply h
step (stages.OpensFrom copying) w c reply h = must-any (Keeps (is_pending w copying.target)) c From (first_id w.page) (needs From (fork_in reply) (λ v. goes (record w { stage = stages.OpensTo (record copying { from = v }) }))) tt (needs-any (Keeps (is_pending w copying.target)) From (fork_in reply) (λ v. goes (record w { stage = stages.OpensTo (record copying { from = v }) })) tt (λ v. (h, λ given shown lines more. more)))
step (stages.OpensTo copying) w c reply h = must-any (Keeps (is_pending w copying.target)) c To copying.target (needs To (fork_in reply) (λ v. goes (record w { stage = stages.Reads (record copying { to = v }) }))) tt (needs-any (Keeps (is_pending w copying.target)) To (fork_in reply) (λ v. goes (record w { stage = stages.Reads (record copying { to = v }) })) tt (λ v. (h, λ given shown lines more. more)))
step (stages.Reads copying) w c reply h = reads-keeps w copying c reply h
step (stages.Writes copying last) w c reply h = writes-keeps w copying last c h
step (stages.ClosesFrom copying) w c reply h = must-any (Keeps (is_pending w copying.target)) c From (first_id w.page) (goes (record w { stage = stages.ClosesTo copying })) tt (h, λ given shown lines more. more)
step (stages.ClosesTo copying) w c reply h = closes-keeps w copying c h
step (stages.SetsFile target) w c reply h = set-file-keeps w target c h
step (stages.SetsDir index) w c reply h = set-dir-keeps w index c h
step (stages.ChecksFrom checking) w c reply h = must-any (Keeps (IsChecked w checking.index)) c From (source_at (slice_get w.nodes checking.index)) (needs From (fork_in reply) (λ v. goes (record w { stage = stages.ChecksTo (record checking { from = v }) }))) tt (needs-any (Keeps (IsChecked w checking.index)) From (fork_in reply) (λ v. goes (record w { stage = stages.ChecksTo (record checking { from = v }) })) tt (λ v. (h, λ given shown lines late. late)))
step (stages.ChecksTo checking) w c reply h = must-any (Keeps (IsChecked w checking.index)) c To (target_at (slice_get w.nodes checking.index)) (needs To (fork_in reply) (λ v. goes (record w { stage = stages.ReadsFrom (record checking { to = v }) }))) tt (needs-any (Keeps (IsChecked w checking.index)) To (fork_in reply) (λ v. goes (record w { stage = stages.ReadsFrom (record checking { to = v }) })) tt (λ v. (h, λ given shown lines late. late)))
step (stages.ReadsFrom checking) w c reply h = read-any (Keeps (IsChecked w checking.index)) From (source_at (slice_get w.nodes checking.index)) checking.len c reply (λ piece last. goes (record w { piece = piece; stage = stages.ReadsTo checking last })) tt tt (λ piece last. (h, λ given shown lines late. late))
step (stages.ReadsTo checking last) w c reply h = read-to-keeps w checking last c reply h
step (stages.ShutsFrom checking) w c reply h = must-any (Keeps (IsChecked w checking.index)) c From (source_at (slice_get w.nodes checking.index)) (goes (record w { stage = stages.ShutsTo checking })) tt (h, λ given shown lines late. late)
step (stages.ShutsTo checking) w c reply h = shut-to-keeps w checking c h

-- ---- what a turn gives and shows

pub given-append : (xs ys : List Listing) → given_in (xs ++ ys) ≡ given_in xs ++ given_in ys
given-append [] ys = refl
given-append (x ∷ xs) ys = ap (λ (ids : List NodeId). given_by x.rows ++ ids) (given-append xs ys) ∙ sym (append_assoc (given_by x.rows) (given_in xs) (given_in ys))

pub given-of : (stage : Stage) (w : Standing) (c : Code) (reply : Reply) → given_in (listing_at stage w c reply) ≡ given_at stage w c reply
given-of stages.OpensSource w c reply = refl
given-of stages.OpensTarget w c reply = refl
given-of stages.Looks w c reply = refl
given-of stages.Lists w c reply = append-nil (given_by (rows_told c (Some reply)))
given-of stages.Makes w c reply = refl
given-of stages.Finds w c reply = refl
given-of (stages.OpensFrom copying) w c reply = refl
given-of (stages.OpensTo copying) w c reply = refl
given-of (stages.Reads copying) w c reply = refl
given-of (stages.Writes copying last) w c reply = refl
given-of (stages.ClosesFrom copying) w c reply = refl
given-of (stages.ClosesTo copying) w c reply = refl
given-of (stages.SetsFile target) w c reply = refl
given-of (stages.SetsDir index) w c reply = refl
given-of (stages.ChecksFrom checking) w c reply = refl
given-of (stages.ChecksTo checking) w c reply = refl
given-of (stages.ReadsFrom checking) w c reply = refl
given-of (stages.ReadsTo checking last) w c reply = refl
given-of (stages.ShutsFrom checking) w c reply = refl
given-of (stages.ShutsTo checking) w c reply = refl

turn-gives : (w : Standing) (t : Turn) (turns : List Turn) (reply : Reply) → IsTurn w t → t.reply ≡ Some reply → given_at w.stage w t.answer.code reply ++ given_in (lists_of turns) ≡ given_in (lists_of (t ∷ turns))
turn-gives w t turns reply turn is =
    let one : List Listing = listing t.side t.call (rows_told t.answer.code t.reply) in
    ap (λ (ids : List NodeId). ids ++ given_in (lists_of turns)) (sym (given-of w.stage w t.answer.code reply) ∙ ap (λ (l : List Listing). given_in l) (sym (turn-lists w t reply turn is)))
    ∙ sym (given-append one (lists_of turns))

abbrev Shows : Stage → Standing → Code → Reply → Asked → Type 0
Shows stage w c reply a = shown_to a.side a.call c (Some reply) ≡ shown_at stage w c reply

abbrev nothing : List NodeId
nothing = []

abbrev is_nothing : Option Asked → Type 0
is_nothing None = Unit {0}
is_nothing (Some a) = ⊥

nothing-by : (b : Bool) → (if b then [] else []) ≡ nothing
nothing-by true = refl
nothing-by false = refl

made-by : (b : Bool) (f : Found) (w : Standing) (c : Code) (reply : Reply) → f.dir ≡ b → shown_by (create f.dir w.to_volume w.place.here.target f.name) c (Some reply) ≡ (if b then (if is_ok c then id_list (node_in reply) else []) else [])
made-by true f w c reply is = ap (λ (dir : Bool). shown_by (create dir w.to_volume w.place.here.target f.name) c (Some reply)) is
made-by false f w c reply is = ap (λ (dir : Bool). shown_by (create dir w.to_volume w.place.here.target f.name) c (Some reply)) is ∙ nothing-by (is_ok c)

makes-shows : (w : Standing) (page : List Found) (c : Code) (reply : Reply) (a : Asked) → of_first page (λ found. asked To (create found.dir w.to_volume w.place.here.target found.name) w.place.here.target) ≡ Some a
    → shown_to a.side a.call c (Some reply) ≡ (if is_first_dir page then (if is_ok c then id_list (node_in reply) else []) else [])
makes-shows w [] c reply a same = absurd (subst is_nothing same tt)
makes-shows w (f ∷ page) c reply a same =
    some-asked (λ (b : Asked). shown_to b.side b.call c (Some reply) ≡ (if f.dir then (if is_ok c then id_list (node_in reply) else []) else [])) (asked To (create f.dir w.to_volume w.place.here.target f.name) w.place.here.target) a same
    (made-by f.dir f w c reply refl)

call-shows : (stage : Stage) (w : Standing) (c : Code) (reply : Reply) (a : Asked) → asked_at stage w ≡ Some a → Shows stage w c reply a
call-shows stages.OpensSource w c reply a same = some-asked (Shows stages.OpensSource w c reply) _ a same (refl)
call-shows stages.OpensTarget w c reply a same = some-asked (Shows stages.OpensTarget w c reply) _ a same (nothing-by (is_ok c))
call-shows stages.Looks w c reply a same = some-asked (Shows stages.Looks w c reply) _ a same (nothing-by (is_ok c))
call-shows stages.Lists w c reply a same = some-asked (Shows stages.Lists w c reply) _ a same (refl)
call-shows stages.Makes w c reply a same = makes-shows w w.page c reply a same
call-shows stages.Finds w c reply a same = first-asked (Shows stages.Finds w c reply) w.page _ a (λ found. refl) same
call-shows (stages.OpensFrom copying) w c reply a same = first-asked (Shows (stages.OpensFrom copying) w c reply) w.page _ a (λ found. refl) same
call-shows (stages.OpensTo copying) w c reply a same = first-asked (Shows (stages.OpensTo copying) w c reply) w.page _ a (λ found. nothing-by (is_ok c)) same
call-shows (stages.Reads copying) w c reply a same = first-asked (Shows (stages.Reads copying) w c reply) w.page _ a (λ found. refl) same
call-shows (stages.Writes copying last) w c reply a same = some-asked (Shows (stages.Writes copying last) w c reply) _ a same (nothing-by (is_ok c))
call-shows (stages.ClosesFrom copying) w c reply a same = first-asked (Shows (stages.ClosesFrom copying) w c reply) w.page _ a (λ found. refl) same
call-shows (stages.ClosesTo copying) w c reply a same = some-asked (Shows (stages.ClosesTo copying) w c reply) _ a same (nothing-by (is_ok c))
call-shows (stages.SetsFile target) w c reply a same = first-asked (Shows (stages.SetsFile target) w c reply) w.page _ a (λ found. nothing-by (is_ok c)) same
call-shows (stages.SetsDir index) w c reply a same = node-asked (Shows (stages.SetsDir index) w c reply) _ _ a (λ node. nothing-by (is_ok c)) same
call-shows (stages.ChecksFrom checking) w c reply a same = node-asked (Shows (stages.ChecksFrom checking) w c reply) _ _ a (λ node. refl) same
call-shows (stages.ChecksTo checking) w c reply a same = node-asked (Shows (stages.ChecksTo checking) w c reply) _ _ a (λ node. nothing-by (is_ok c)) same
call-shows (stages.ReadsFrom checking) w c reply a same = node-asked (Shows (stages.ReadsFrom checking) w c reply) _ _ a (λ node. refl) same
call-shows (stages.ReadsTo checking last) w c reply a same = node-asked (Shows (stages.ReadsTo checking last) w c reply) _ _ a (λ node. nothing-by (is_ok c)) same
call-shows (stages.ShutsFrom checking) w c reply a same = node-asked (Shows (stages.ShutsFrom checking) w c reply) _ _ a (λ node. refl) same
call-shows (stages.ShutsTo checking) w c reply a same = node-asked (Shows (stages.ShutsTo checking) w c reply) _ _ a (λ node. nothing-by (is_ok c)) same

turn-shows : (w : Standing) (t : Turn) (reply : Reply) → IsTurn w t → t.reply ≡ Some reply → shown_to t.side t.call t.answer.code t.reply ≡ shown_at w.stage w t.answer.code reply
unfolding asks
turn-shows w t reply turn is =
    ap (λ (side : Side). shown_to side t.call t.answer.code t.reply) turn.side
    ∙ ap (λ (call : Call). shown_to turn.asked.side call t.answer.code t.reply) turn.call
    ∙ ap (λ (o : Option Reply). shown_to turn.asked.side turn.asked.call t.answer.code o) is
    ∙ call-shows w.stage w t.answer.code reply turn.asked turn.next

-- ---- a run

abbrev Comes : Standing → List Turn → List Line → Type 0
Comes w turns lines = Rest w.stage w (given_in (lists_of turns)) (shown_in turns) lines

abbrev lines_in : List Line → Next → List Line
lines_in other (ends (done lines)) = lines
lines_in other (ends (refused side c node)) = other
lines_in other (ends (not_empty node)) = other
lines_in other (ends too_many) = other
lines_in other (ends (bad side)) = other
lines_in other (ends (changed node place)) = other
lines_in other (goes w) = other

pub same-lines : (a b : List Line) → ends (done a) ≡ ends (done b) → a ≡ b
same-lines a b same = ap (λ (n : Next). lines_in a n) same

ended-at : (e : Ended) (rest : List NodeId → List NodeId → List Line → Type 0) (turns : List Turn) (lines : List Line) → Keeps rest (ends e) → Leads (ends e) turns (ends (done lines)) → rest (given_in (lists_of turns)) (shown_in turns) lines
ended-at e rest (t ∷ turns) lines k l = absurd l
ended-at (done other) rest [] lines k l = subst (λ (x : List Line). rest [] [] x) (sym (same-lines lines other l)) k
ended-at (refused side c node) rest [] lines k l = not-done lines (ends (refused side c node)) (λ h. h) l
ended-at (not_empty node) rest [] lines k l = not-done lines (ends (not_empty node)) (λ h. h) l
ended-at too_many rest [] lines k l = not-done lines (ends too_many) (λ h. h) l
ended-at (bad side) rest [] lines k l = not-done lines (ends (bad side)) (λ h. h) l
ended-at (changed node place) rest [] lines k l = not-done lines (ends (changed node place)) (λ h. h) l

behind : (n : Next) (rest : List NodeId → List NodeId → List Line → Type 0) (turns : List Turn) (lines : List Line) → ((w : Standing) → IsIn w.stage w → Leads (goes w) turns (ends (done lines)) → Comes w turns lines) → Keeps rest n → Leads n turns (ends (done lines))
    → rest (given_in (lists_of turns)) (shown_in turns) lines
behind (goes w) rest turns lines more k l = k.1 (given_in (lists_of turns)) (shown_in turns) lines (more w k.0 l)
behind (ends e) rest turns lines more k l = ended-at e rest turns lines k l

seen-on : (w : Standing) (t : Turn) (turns : List Turn) (lines : List Line) (o : Option Reply) → t.reply ≡ o → IsIn w.stage w → IsTurn w t → ((v : Standing) → IsIn v.stage v → Leads (goes v) turns (ends (done lines)) → Comes v turns lines)
    → Leads (seen w t.side t.answer o) turns (ends (done lines)) → Comes w (t ∷ turns) lines
unfolding follows
seen-on w t turns lines None is h turn more l = ended-at (bad t.side) (λ given shown other. Comes w (t ∷ turns) lines) turns lines tt l
seen-on w t turns lines (Some reply) is h turn more l =
    subst (λ (given : List NodeId). Rest w.stage w given (shown_in (t ∷ turns)) lines) (turn-gives w t turns reply turn is)
    (subst (λ (shown : List NodeId). Rest w.stage w (given_at w.stage w t.answer.code reply ++ given_in (lists_of turns)) (shown ++ shown_in turns) lines) (sym (turn-shows w t reply turn is))
    (behind (follows w t.answer.code reply) (rest_at w.stage w t.answer.code reply) turns lines more (step w.stage w t.answer.code reply h) l))

pairs : (turns : List Turn) (w : Standing) (lines : List Line) → IsIn w.stage w → Leads (goes w) turns (ends (done lines)) → Comes w turns lines
pairs [] w lines h l = not-done lines (goes w) (λ k. k) l
pairs (t ∷ turns) w lines h l = seen-on w t turns lines t.reply refl h l.0 (λ v k m. pairs turns v lines k m) l.1

pub done-pairs : DonePairs
done-pairs source target turns lines l = pairs turns (first source target) lines (refl, refl, refl) l
