-- Steps along lists.
use Rattle.std.proofs.Common.{◌≡◌, ℕ, if◌then◌else◌, zero, suc, ◌+◌, ◌≤◌, ◌<◌, Bool, true, false, cond, List, [], ◌∷◌, ◌++◌, Option, Some, None, Result, Ok, Err, length, drop, get_or, refl, sym, ap, ◌∙◌, subst, arith, add-one, drop-cons}
use Rattle.std.specs.Prelude.{slice_get}
use Rattle.std.proofs.lemmas.Bool.{cond-false, cond-true}
use Rattle.std.proofs.lemmas.List.{drop_all}
use Rattle.afp_bitmap.specs.declared.params.Values.{Values}
use Rattle.afp_replies.specs.declared.list.ListEntry.{ListEntry}
use Rattle.afp_base.specs.declared.code.Code.{Code}
use Rattle.afp_base.specs.declared.ids.NodeId.{NodeId}
use Rattle.afp_replies.specs.declared.reply.Reply.{Reply}
use Rattle.afp_mirror_walk.specs.Follows.{Ended, Gives, goes, compared, write_or_close, GivesPage, Next, and_then, bad, dirs_before, ends, ends_fork, first_difference, is_dir_at, is_ok, last_dir, line_of, needs, next_dir, page_from, piece_in, read_from, read_of, read_piece, read_to, read_told, first_id, source_at, target_at, refused, too_many, with_found}
use Rattle.afp_mirror_walk.specs.lemma.Reads.{GivesRead, TakesRead}
use Rattle.afp_mirror_walk.specs.declared.walk.copies.Read.{Read}
use Rattle.afp_mirror_walk.specs.declared.walk.ends.Side.{Side}
use Rattle.afp_mirror_walk.specs.Settings.{found_in}
use Rattle.afp_mirror_walk.specs.declared.walk.ends.Line.{Line}
use Rattle.afp_mirror_walk.specs.declared.walk.ends.MirrorEnd.{MirrorEnd}
use Rattle.afp_mirror_walk.specs.declared.walk.ends.MirrorEnd.TheVariants as mirror_ends
use Rattle.afp_mirror_walk.specs.declared.walk.standing.Found.{Found}
use Rattle.afp_mirror_walk.specs.declared.walk.standing.Made.{Made}
use Rattle.afp_mirror_walk.specs.declared.walk.standing.Copying.{Copying}
use Rattle.afp_mirror_walk.specs.declared.walk.standing.Checking.{Checking}
use Rattle.afp_mirror_walk.specs.Standing.{Standing}
use Rattle.afp_mirror_walk.specs.declared.walk.standing.Stage.TheVariants as stages
use Rattle.afp_mirror_walk.specs.declared.walk.ends.Side.TheVariants.{From, To}

-- the element at a place stands in front of what is behind it
pub at-front : {A : Type 0} (xs : List A) (i : ℕ) (x : A) → i < length xs → x ≡ get_or xs i x → drop i xs ≡ x ∷ drop (i + 1) xs
at-front {A} xs i x within is = drop-cons xs i x within ∙ ap (λ (y : A). y ∷ drop (suc i) xs) (sym is) ∙ ap (λ (n : ℕ). x ∷ drop n xs) (sym (add-one i))

-- a page with one entry more
pub page_more : (nodes : List Made) (page more : List Found) (rows : List ListEntry) (i : ℕ) (row : ListEntry) → i < length rows → row ≡ get_or rows i row → with_found nodes page (found_in row.values) ≡ Ok more
    → page_from nodes page (drop i rows) ≡ page_from nodes more (drop (i + 1) rows)
unfolding page_from
page_more nodes page more rows i row within is told =
    ap (λ (xs : List ListEntry). page_from nodes page xs) (at-front rows i row within is)
    ∙ ap (λ (r : Result (List Found) Ended). and_then r (λ p. page_from nodes p (drop (i + 1) rows))) told

pub page_done : (nodes : List Made) (page : List Found) (rows : List ListEntry) (i : ℕ) → length rows ≤ i → page_from nodes page (drop i rows) ≡ Ok page
unfolding page_from
page_done nodes page rows i past = ap (λ (xs : List ListEntry). page_from nodes page xs) (drop_all i rows past)

page-stops : (nodes : List Made) (page : List Found) (rows : List ListEntry) (i : ℕ) (row : ListEntry) (end : Ended) → i < length rows → row ≡ get_or rows i row → with_found nodes page (found_in row.values) ≡ Err end
    → page_from nodes page (drop i rows) ≡ Err end
unfolding page_from
page-stops nodes page rows i row end within is told =
    ap (λ (xs : List ListEntry). page_from nodes page xs) (at-front rows i row within is)
    ∙ ap (λ (r : Result (List Found) Ended). and_then r (λ p. page_from nodes p (drop (i + 1) rows))) told

-- a page that ends at an entry
pub page_ends : {V : Type 0} (items : V → List Found) (nodes : List Made) (page : List Found) (rows : List ListEntry) (i : ℕ) (row : ListEntry) (whole : Result (List Found) Ended) (end : MirrorEnd) → i < length rows → row ≡ get_or rows i row
    → whole ≡ page_from nodes page (drop i rows) → GivesPage items (with_found nodes page (found_in row.values)) (Err end) → GivesPage items whole (Err end)
page_ends items nodes page rows i row whole mirror_ends.TooMany within is same h = same ∙ page-stops nodes page rows i row too_many within is h
page_ends items nodes page rows i row whole (mirror_ends.Bad side) within is same h = same ∙ page-stops nodes page rows i row (bad side) within is h
page_ends items nodes page rows i row whole mirror_ends.Memory within is same h = tt
page_ends items nodes page rows i row whole (mirror_ends.Done lines) within is same h = absurd h
page_ends items nodes page rows i row whole (mirror_ends.Refused side c node) within is same h = absurd h
page_ends items nodes page rows i row whole (mirror_ends.NotEmpty node) within is same h = absurd h
page_ends items nodes page rows i row whole (mirror_ends.Changed node place) within is same h = absurd h
page_ends items nodes page rows i row whole (mirror_ends.Failed side) within is same h = absurd h

-- the next directory
pub dir_more : (nodes : List Made) (i : ℕ) (node : Made) → i < length nodes → node ≡ get_or nodes i node → node.dir ≡ false → next_dir (drop i nodes) i ≡ next_dir (drop (i + 1) nodes) (i + 1)
dir_more nodes i node within is file =
    ap (λ (xs : List Made). next_dir xs i) (at-front nodes i node within is) ∙ cond-false node.dir (Some i) (next_dir (drop (i + 1) nodes) (i + 1)) file

pub dir_here : (nodes : List Made) (i : ℕ) (node : Made) → i < length nodes → node ≡ get_or nodes i node → node.dir ≡ true → next_dir (drop i nodes) i ≡ Some i
dir_here nodes i node within is there =
    ap (λ (xs : List Made). next_dir xs i) (at-front nodes i node within is) ∙ cond-true node.dir (Some i) (next_dir (drop (i + 1) nodes) (i + 1)) there

pub dir_none : (nodes : List Made) (i : ℕ) → length nodes ≤ i → next_dir (drop i nodes) i ≡ None
dir_none nodes i past = ap (λ (xs : List Made). next_dir xs i) (drop_all i nodes past)

-- what is read is what the code tells
pub took_more : (side : Side) (node : NodeId) (len : ℕ) (c : Code) (reply : Reply) (result : Result Read MirrorEnd) → is_ok c ≡ true → GivesRead side node len false reply result → TakesRead side node len c reply result
took_more side node len c reply (Ok read) ok g = record {
  next = λ next. cond-true (is_ok c) (needs side (piece_in reply) (read_of side len false next)) (if ends_fork c then needs side (piece_in reply) (read_of side len true next) else ends (refused side c node)) ok ∙ g.next next;
  within = g.within;
  most = g.most;
}
took_more side node len c reply (Err end) ok g =
    λ next. subst (λ (n : Next). Gives n (Err end)) (sym (cond-true (is_ok c) (needs side (piece_in reply) (read_of side len false next)) (if ends_fork c then needs side (piece_in reply) (read_of side len true next) else ends (refused side c node)) ok)) (g next)

last-next : (side : Side) (node : NodeId) (len : ℕ) (c : Code) (reply : Reply) (next : List ℕ → Bool → Next) → is_ok c ≡ false → ends_fork c ≡ true
    → read_told side node len c reply next ≡ needs side (piece_in reply) (read_of side len true next)
last-next side node len c reply next fails last =
    cond-false (is_ok c) (needs side (piece_in reply) (read_of side len false next)) (if ends_fork c then needs side (piece_in reply) (read_of side len true next) else ends (refused side c node)) fails
    ∙ cond-true (ends_fork c) (needs side (piece_in reply) (read_of side len true next)) (ends (refused side c node)) last

pub took_last : (side : Side) (node : NodeId) (len : ℕ) (c : Code) (reply : Reply) (result : Result Read MirrorEnd) → is_ok c ≡ false → ends_fork c ≡ true → GivesRead side node len true reply result → TakesRead side node len c reply result
took_last side node len c reply (Ok read) fails last g = record {
  next = λ next. last-next side node len c reply next fails last ∙ g.next next;
  within = g.within;
  most = g.most;
}
took_last side node len c reply (Err end) fails last g =
    λ next. subst (λ (n : Next). Gives n (Err end)) (sym (last-next side node len c reply next fails last)) (g next)

-- a read that ends
pub piece_ends : (w : Standing) (copying : Copying) (c : Code) (reply : Reply) (node : NodeId) (end : MirrorEnd) → node ≡ first_id w.page → TakesRead From node copying.len c reply (Err end) → Gives (read_piece w copying c reply) (Err end)
unfolding read_piece
piece_ends w copying c reply node end is h = subst (λ (n : NodeId). TakesRead From n copying.len c reply (Err end)) is h (λ piece last. goes (record w { piece = piece; stage = write_or_close copying piece last }))

pub from_ends : (w : Standing) (checking : Checking) (c : Code) (reply : Reply) (node : NodeId) (end : MirrorEnd) → node ≡ source_at (slice_get w.nodes checking.index) → TakesRead From node checking.len c reply (Err end) → Gives (read_from w checking c reply) (Err end)
unfolding read_from
from_ends w checking c reply node end is h = subst (λ (n : NodeId). TakesRead From n checking.len c reply (Err end)) is h (λ piece last. goes (record w { piece = piece; stage = stages.ReadsTo checking last }))

pub to_ends : (w : Standing) (checking : Checking) (last : Bool) (c : Code) (reply : Reply) (node : NodeId) (end : MirrorEnd) → node ≡ target_at (slice_get w.nodes checking.index) → TakesRead To node checking.len c reply (Err end) → Gives (read_to w checking last c reply) (Err end)
unfolding read_to
to_ends w checking last c reply node end is h = subst (λ (n : NodeId). TakesRead To n checking.len c reply (Err end)) is h (compared w checking last)

-- the shorter bytes end
difference-none : (xs : List ℕ) → first_difference xs [] ≡ 0
difference-none [] = refl
difference-none (x ∷ xs) = refl

pub difference_stops : (a b : List ℕ) (i : ℕ) → length b ≤ i → first_difference a b ≡ i + first_difference (drop i a) (drop i b) → i ≡ first_difference a b
difference_stops a b i past same = omega (arith, same, ap (λ (ys : List ℕ). first_difference (drop i a) ys) (drop_all i b past) ∙ difference-none (drop i a))
