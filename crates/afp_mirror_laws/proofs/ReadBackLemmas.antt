-- What a mirror that is Done has read back last.
use Rattle.std.proofs.Common.{◌≡◌, ℕ, ◌+◌, ◌≤◌, ◌<◌, ◌^◌, Bool, true, false, if◌then◌else◌, List, [], ◌∷◌, ◌++◌, length, drop, map, Option, Some, None, Result, Ok, Err, refl, sym, ap, ◌∙◌, subst, arith}
use Rattle.std.specs.Prelude.{nat_lt, slice_get, bytes_eq}
use Rattle.std.proofs.lemmas.Bool.Decides.{nat_tests}
use Rattle.std.proofs.lemmas.List.{append-nil, append_assoc}
use Rattle.afp_base.proofs.Facts.{bytes_same}
use Rattle.afp_base.specs.declared.code.Code.{Code}
use Rattle.afp_base.specs.declared.ids.ForkRef.{ForkRef}
use Rattle.afp_base.specs.declared.ids.NodeId.{NodeId}
use Rattle.afp_base.specs.declared.ids.VolumeId.{VolumeId}
use Rattle.afp_calls_grammar.specs.declared.grammar.call.Call.{Call}
use Rattle.afp_replies.specs.declared.list.ListEntry.{ListEntry}
use Rattle.afp_replies.specs.declared.reply.Reply.{Reply}
use Rattle.afp_mirror_walk.specs.Asks.{Asked, asked, asked_at, asks, close, of_node, open_fork, open_volume, read, root, to_check, to_copy}
use Rattle.afp_mirror_walk.specs.Follows.{Ended, Next, and_then, bad, changed, checked_from, checked_to, checking_of, close_or_read, closed_from, closed_to, compared, copying_of, dirs_before, done, ends, ends_fork, ends_list, first, first_difference, first_id, first_in, first_place, follows, follows_at, fork_in, found_file, found_id_in, goes, has_asked, is_empty, is_first_dir, is_ok, last_dir, line_of, lines_with, list_or_set, listed, listed_rows, looked, made, made_first, made_of, must, needs, next_check, next_dir, next_made, next_place, next_set, place_at, node_in, not_empty, opened_from, opened_source, opened_target, opened_to, page_from, piece_in, read_from, read_of, read_piece, read_to, read_told, refused, rows_in, set_dir, set_file, set_or_check, set_or_open, shut_from, shut_or_read, shut_to, source_at, target_at, too_many, volume_in, with_found, with_page, write_or_close, written}
use Rattle.afp_mirror_walk.specs.Settings.{found_in}
use Rattle.afp_mirror_walk.specs.Standing.{Standing}
use Rattle.afp_mirror_walk.specs.declared.walk.ends.Line.{Line}
use Rattle.afp_mirror_walk.specs.declared.walk.ends.Side.{Side}
use Rattle.afp_mirror_walk.specs.declared.walk.ends.Side.TheVariants.{From, To}
use Rattle.afp_mirror_walk.specs.declared.walk.standing.Checking.{Checking}
use Rattle.afp_mirror_walk.specs.declared.walk.standing.Copying.{Copying}
use Rattle.afp_mirror_walk.specs.declared.walk.standing.Found.{Found}
use Rattle.afp_mirror_walk.specs.declared.walk.standing.Made.{Made}
use Rattle.afp_mirror_walk.specs.declared.walk.standing.Stage.{Stage}
use Rattle.afp_mirror_walk.specs.declared.walk.standing.Stage.TheVariants as stages
use Rattle.afp_mirror.specs.Runs.{IsTurn, Leads, Turn, seen}
use Rattle.afp_mirror_laws.specs.ReadBack.{Child, Closes, DoneHasReadBack, EndsBack, HasReadBack, OpensTarget, IfDir, IfLast, IsCalled, Reads, ReadsBack, ReadsFork, ReadsOpened, ReadsSame, Then, child_of, children_by, children_in, children_of, fork_told, half, is_last_by, none, piece_told, volume_told, with_child}
use Rattle.afp_mirror_laws.specs.Swept.{Listing, listing, lists_of, rows_told}
use Rattle.afp_mirror_laws.proofs.PairedLemmas.{drop-both, drop-past, has-node, if-any, if-by, less-by, map-append, must-any, needs-any, past-by, same-lines}
use Rattle.afp_mirror_laws.proofs.ReachedLemmas.{read-of-by}
use Rattle.afp_mirror_laws.proofs.SweptLemmas.{IsMore, found-more, listing_at, no-page, not-done, ok-page, page-not-done, stands-at, turn-lists}

abbrev made_child : Made → Child
made_child node = record { parent = node.parent.source; id = node.source; dir = node.dir; name = node.name }

abbrev known_at : NodeId → List Made → List Found → List Child
known_at here nodes page = map made_child nodes ++ map (child_of here) page

abbrev known : Standing → List Child
known w = known_at w.place.here.source w.nodes w.page

-- ---- what is still to come of a run that will be Done

-- no list is to come, and the nodes are read back
record IsSetting (from_volume to_volume : VolumeId) (nodes : List Made) (given : List Child) (turns : List Turn) (lines : List Line) : Type 0 where
  no_more : given ≡ []
  back : EndsBack from_volume to_volume (map made_child nodes) lines turns

-- the nodes from one on are read back
record IsLeft (from_volume to_volume : VolumeId) (nodes : List Made) (old : List Line) (from : ℕ) (given : List Child) (turns : List Turn) (lines : List Line) : Type 0 where
  no_more : given ≡ []
  more : List Line
  lines_are : lines ≡ old ++ more
  back : ReadsBack from_volume to_volume (map made_child (drop from nodes)) more turns

abbrev Forks : Type 1
Forks = Child → ℕ → (List Turn → Type 0) → Type 0

-- what is left of a node's forks, of which one is read back
abbrev BothForks : VolumeId → VolumeId → Bool → Child → ℕ → ℕ → ℕ → (List Turn → Type 0) → Forks → Type 0
BothForks from_volume to_volume resource child before data_len resource_len next forks = IfLast resource ((data_len ≡ before) × forks child resource_len next)
    (forks child data_len (λ rest. ReadsFork from_volume to_volume child true resource_len next rest))

-- a node is read back, and those behind it
record IsChecked (from_volume to_volume : VolumeId) (nodes : List Made) (old : List Line) (index : ℕ) (resource : Bool) (before : ℕ) (given : List Child) (lines : List Line) (forks : Forks) : Type 0 where
  no_more : given ≡ []
  node : Made
  front : drop index nodes ≡ node ∷ drop (index + 1) nodes
  data_len : ℕ
  resource_len : ℕ
  more : List Line
  lines_are : lines ≡ old ++ line_of node data_len resource_len ∷ more
  left : BothForks from_volume to_volume resource (made_child node) before data_len resource_len (ReadsBack from_volume to_volume (map made_child (drop (index + 1) nodes)) more) forks

abbrev Checked : Standing → Checking → List Child → List Line → Forks → Type 0
Checked w checking given lines forks = IsChecked w.from_volume w.to_volume w.nodes w.lines checking.index checking.resource checking.data_len given lines forks

abbrev in_full : ForkRef → ForkRef → ℕ → (List Turn → Type 0) → ℕ → List Turn → Type 0
in_full from to len next count left = (count ≡ len) × Closes from to next left

abbrev closes_last : ForkRef → (List Turn → Type 0) → List Turn → Type 0
closes_last to next turns = Then turns (λ u rest. IsCalled u To (close to) × next rest)

abbrev Rest : Stage → Standing → List Child → List Turn → List Line → Type 0
Rest stages.OpensSource w given turns lines = HasReadBack w.source w.target (known w ++ given) lines turns
Rest stages.OpensTarget w given turns lines = (to_volume : VolumeId) × OpensTarget w.target to_volume turns × EndsBack w.from_volume to_volume (known w ++ given) lines turns
Rest (stages.SetsDir index) w given turns lines = IsSetting w.from_volume w.to_volume w.nodes given turns lines
Rest (stages.ChecksFrom checking) w given turns lines = Checked w checking given lines (λ child len next. ReadsFork w.from_volume w.to_volume child checking.resource len next turns)
Rest (stages.ChecksTo checking) w given turns lines = Checked w checking given lines (λ child len next. ReadsOpened w.to_volume child checking.resource checking.from len next turns)
Rest (stages.ReadsFrom checking) w given turns lines = Checked w checking given lines (λ child len next. ReadsSame none checking.from checking.to checking.len (in_full checking.from checking.to len next) turns)
Rest (stages.ReadsTo checking last) w given turns lines = Checked w checking given lines (λ child len next. ReadsSame (half w.piece last) checking.from checking.to checking.len (in_full checking.from checking.to len next) turns)
Rest (stages.ShutsFrom checking) w given turns lines = Checked w checking given lines (λ child len next. (checking.len ≡ len) × Closes checking.from checking.to next turns)
Rest (stages.ShutsTo checking) w given turns lines = Checked w checking given lines (λ child len next. (checking.len ≡ len) × closes_last checking.to next turns)
Rest stage w given turns lines = EndsBack w.from_volume w.to_volume (known w ++ given) lines turns

abbrev IsIn : Stage → Standing → Type 0
IsIn stages.OpensSource w = (w.lines ≡ []) × (w.nodes ≡ []) × (w.page ≡ [])
IsIn stages.OpensTarget w = (w.lines ≡ []) × (w.nodes ≡ []) × (w.page ≡ [])
IsIn stages.Looks w = (w.lines ≡ []) × (w.nodes ≡ []) × (w.page ≡ [])
IsIn stages.Lists w = (w.lines ≡ []) × (w.page ≡ [])
IsIn (stages.ChecksFrom checking) w = (checking.index < length w.nodes) × (checking.len ≡ 0)
IsIn (stages.ChecksTo checking) w = (checking.index < length w.nodes) × (checking.len ≡ 0)
IsIn (stages.ReadsFrom checking) w = checking.index < length w.nodes
IsIn (stages.ReadsTo checking last) w = (checking.index < length w.nodes) × (has_asked last w.piece ≡ true)
IsIn (stages.ShutsFrom checking) w = checking.index < length w.nodes
IsIn (stages.ShutsTo checking) w = checking.index < length w.nodes
IsIn stage w = w.lines ≡ []

abbrev Wish : Type 1
Wish = List Child → List Turn → List Line → Type 0

abbrev Keeps : Wish → Next → Type 0
Keeps rest (goes w) = IsIn w.stage w × ((given : List Child) (turns : List Turn) (lines : List Line) → Rest w.stage w given turns lines → rest given turns lines)
Keeps rest (ends (done lines)) = rest [] [] lines
Keeps rest (ends (refused side c node)) = Unit {0}
Keeps rest (ends (not_empty node)) = Unit {0}
Keeps rest (ends too_many) = Unit {0}
Keeps rest (ends (bad side)) = Unit {0}
Keeps rest (ends (changed node place)) = Unit {0}

-- ---- tests

must-with : (P : Next → Type 0) (c : Code) (side : Side) (node : NodeId) (next : Next) → P (ends (refused side c node)) → (is_ok c ≡ true → P next) → P (must c side node next)
must-with P c side node next fails passes = if-by P (is_ok c) next (ends (refused side c node)) passes (λ k. fails)

needs-with : {A : Type 0} (P : Next → Type 0) (side : Side) (o : Option A) (f : A → Next) → P (ends (bad side)) → ((v : A) → o ≡ Some v → P (f v)) → P (needs side o f)
needs-with P side None f fails passes = fails
needs-with P side (Some v) f fails passes = passes v refl

read-with : (P : Next → Type 0) (side : Side) (node : NodeId) (len : ℕ) (c : Code) (reply : Reply) (next : List ℕ → Bool → Next) → P (ends (refused side c node)) → P (ends (bad side))
    → ((piece : List ℕ) (last : Bool) → piece_in reply ≡ Some piece → is_last_by last c ≡ true → has_asked last piece ≡ true → P (next piece last)) → P (read_told side node len c reply next)
read-with P side node len c reply next fails wrong passes =
    let more : Next = needs side (piece_in reply) (read_of side len false next) in
    let last : Next = needs side (piece_in reply) (read_of side len true next) in
    if-by P (is_ok c) more (if ends_fork c then last else ends (refused side c node))
    (λ ok. needs-with P side (piece_in reply) (read_of side len false next) wrong (λ piece is. read-of-by P side len false next piece wrong (λ asked most. passes piece false is ok asked)))
    (λ k. if-by P (ends_fork c) last (ends (refused side c node))
    (λ end. needs-with P side (piece_in reply) (read_of side len true next) wrong (λ piece is. read-of-by P side len true next piece wrong (λ asked most. passes piece true is end asked))) (λ j. fails))

goes-if : (rest : Wish) (w : Standing) (b : Bool) (x y : Stage) → Keeps rest (goes (record w { stage = x })) → Keeps rest (goes (record w { stage = y })) → Keeps rest (goes (record w { stage = if b then x else y }))
goes-if rest w true x y h k = h
goes-if rest w false x y h k = k

goes-by : (rest : Wish) (w : Standing) (b : Bool) (x y : Stage) → (b ≡ true → Keeps rest (goes (record w { stage = x }))) → (b ≡ false → Keeps rest (goes (record w { stage = y }))) → Keeps rest (goes (record w { stage = if b then x else y }))
goes-by rest w true x y h k = h refl
goes-by rest w false x y h k = k refl

-- ---- the call of a turn

-- a turn's call is the one that is asked at a stage
record IsAsked (stage : Stage) (w : Standing) (t : Turn) : Type 0 where
  asked : Asked
  next : asked_at stage w ≡ Some asked
  side : t.side ≡ asked.side
  call : t.call ≡ asked.call

abbrev asked_or : Asked → Option Asked → Asked
asked_or other None = other
asked_or other (Some a) = a

node-asked-is : (nodes : List Made) (index : ℕ) (f : Made → Asked) (a : Asked) (node : Made) → slice_get nodes index ≡ Some node → of_node (slice_get nodes index) f ≡ Some a → a ≡ f node
node-asked-is nodes index f a node get same = ap (λ (o : Option Asked). asked_or a o) (sym same ∙ ap (λ (o : Option Made). of_node o f) get)

called : (t : Turn) (side : Side) (call : Call) (about : NodeId) (a : Asked) → a ≡ asked side call about → t.side ≡ a.side → t.call ≡ a.call → is_ok t.answer.code ≡ true → IsCalled t side call
called t side call about a is side_is call_is ok = record { side_is = side_is ∙ ap (λ (b : Asked). b.side) is; call_is = call_is ∙ ap (λ (b : Asked). b.call) is; ok = ok }

read-is : (t : Turn) (side : Side) (fork : ForkRef) (offset : ℕ) (piece : List ℕ) (last : Bool) (about : NodeId) (a : Asked) (reply : Reply) → a ≡ asked side (read fork offset) about → t.side ≡ a.side → t.call ≡ a.call → is_last_by last t.answer.code ≡ true
    → t.reply ≡ Some reply → piece_in reply ≡ Some piece → Reads t side fork offset piece last
read-is t side fork offset piece last about a reply is side_is call_is code_is reply_is piece_is = record {
  side_is = side_is ∙ ap (λ (b : Asked). b.side) is;
  call_is = call_is ∙ ap (λ (b : Asked). b.call) is;
  code_is = code_is;
  told = ap (λ (o : Option Reply). piece_told o) reply_is ∙ piece_is;
}

-- ---- behind the last list

dirs-back-by : (from_volume to_volume : VolumeId) (node : Made) (nodes : List Made) (more : List Line) (turns : List Turn) (b : Bool) → node.dir ≡ b
    → (ReadsBack from_volume to_volume (map made_child (drop (length (dirs_before nodes)) nodes)) more turns → ReadsBack from_volume to_volume (map made_child nodes) (dirs_before nodes ++ more) turns)
    → ReadsBack from_volume to_volume (map made_child (drop (length (if b then line_of node 0 0 ∷ dirs_before nodes else [])) (node ∷ nodes))) more turns
    → ReadsBack from_volume to_volume (map made_child (node ∷ nodes)) ((if b then line_of node 0 0 ∷ dirs_before nodes else []) ++ more) turns
dirs-back-by from_volume to_volume node nodes more turns true is rest h = (
  refl,
  refl,
  subst (λ (b : Bool). IfDir b (ReadsBack from_volume to_volume (map made_child nodes) (dirs_before nodes ++ more) turns) (ReadsFork from_volume to_volume (made_child node) false 0 (λ m. ReadsFork from_volume to_volume (made_child node) true 0 (λ left. ReadsBack from_volume to_volume (map made_child nodes) (dirs_before nodes ++ more) left) m) turns)) (sym is) (rest h),
)
dirs-back-by from_volume to_volume node nodes more turns false is rest h = h

dirs-back : (from_volume to_volume : VolumeId) (nodes : List Made) (more : List Line) (turns : List Turn) → ReadsBack from_volume to_volume (map made_child (drop (length (dirs_before nodes)) nodes)) more turns → ReadsBack from_volume to_volume (map made_child nodes) (dirs_before nodes ++ more) turns
dirs-back from_volume to_volume [] more turns h = h
dirs-back from_volume to_volume (node ∷ nodes) more turns h = dirs-back-by from_volume to_volume node nodes more turns node.dir refl (λ k. dirs-back from_volume to_volume nodes more turns k) h

abbrev is_cons : {A : Type 0} → List A → Type 0
is_cons [] = ⊥
is_cons (x ∷ xs) = Unit {0}

abbrev front_or : Made → List Made → Made
front_or other [] = other
front_or other (node ∷ nodes) = node

file-behind-by : (first : Made) (nodes : List Made) (node : Made) (rest : List Made) (b : Bool) → first.dir ≡ b → (drop (length (dirs_before nodes)) nodes ≡ node ∷ rest → node.dir ≡ false)
    → drop (length (if b then line_of first 0 0 ∷ dirs_before nodes else [])) (first ∷ nodes) ≡ node ∷ rest → node.dir ≡ false
file-behind-by first nodes node rest true is more h = more h
file-behind-by first nodes node rest false is more h = ap (λ (ns : List Made). (front_or node ns).dir) (sym h) ∙ is

file-behind : (nodes : List Made) (node : Made) (rest : List Made) → drop (length (dirs_before nodes)) nodes ≡ node ∷ rest → node.dir ≡ false
file-behind [] node rest h = absurd (subst is_cons (sym h) tt)
file-behind (first ∷ nodes) node rest h = file-behind-by first nodes node rest first.dir refl (λ k. file-behind nodes node rest k) h

line-back : (from_volume to_volume : VolumeId) (node : Made) (rest : List Made) (data_len resource_len : ℕ) (more : List Line) (turns : List Turn) → node.dir ≡ false
    → ReadsFork from_volume to_volume (made_child node) false data_len (λ m. ReadsFork from_volume to_volume (made_child node) true resource_len (ReadsBack from_volume to_volume (map made_child rest) more) m) turns
    → ReadsBack from_volume to_volume (map made_child (node ∷ rest)) (line_of node data_len resource_len ∷ more) turns
line-back from_volume to_volume node rest data_len resource_len more turns is h = (refl, refl, subst (λ (b : Bool). IfDir b (ReadsBack from_volume to_volume (map made_child rest) more turns) (ReadsFork from_volume to_volume (made_child node) false data_len (λ m. ReadsFork from_volume to_volume (made_child node) true resource_len (ReadsBack from_volume to_volume (map made_child rest) more) m) turns)) (sym is) h)

checked-left : (w : Standing) (from : ℕ) (given : List Child) (turns : List Turn) (lines : List Line)
    → IsChecked w.from_volume w.to_volume w.nodes (w.lines ++ dirs_before (drop from w.nodes)) (from + length (dirs_before (drop from w.nodes))) false 0 given lines (λ child len next. ReadsFork w.from_volume w.to_volume child false len next turns)
    → IsLeft w.from_volume w.to_volume w.nodes w.lines from given turns lines
checked-left w from given turns lines h =
    let nodes : List Made = drop from w.nodes in
    let dirs : List Line = dirs_before nodes in
    let line : Line = line_of h.node h.data_len h.resource_len in
    let front : drop (length dirs) nodes ≡ h.node ∷ drop (from + length dirs + 1) w.nodes = sym (drop-both from (length dirs) w.nodes) ∙ h.front in
    record {
      no_more = h.no_more;
      more = dirs ++ line ∷ h.more;
      lines_are = h.lines_are ∙ append_assoc w.lines dirs (line ∷ h.more);
      back = dirs-back w.from_volume w.to_volume nodes (line ∷ h.more) turns
          (subst (λ (ns : List Made). ReadsBack w.from_volume w.to_volume (map made_child ns) (line ∷ h.more) turns) (sym front)
          (line-back w.from_volume w.to_volume h.node (drop (from + length dirs + 1) w.nodes) h.data_len h.resource_len h.more turns (file-behind nodes h.node (drop (from + length dirs + 1) w.nodes) front) h.left));
    }

done-left : (w : Standing) (from : ℕ) → length w.nodes ≤ from + length (dirs_before (drop from w.nodes)) → IsLeft w.from_volume w.to_volume w.nodes w.lines from [] [] (w.lines ++ dirs_before (drop from w.nodes))
done-left w from past =
    let nodes : List Made = drop from w.nodes in
    let dirs : List Line = dirs_before nodes in
    let end : drop (length dirs) nodes ≡ [] = sym (drop-both from (length dirs) w.nodes) ∙ drop-past (from + length dirs) w.nodes past in
    record {
      no_more = refl;
      more = dirs ++ [];
      lines_are = ap (λ (ls : List Line). w.lines ++ ls) (sym (append-nil dirs));
      back = dirs-back w.from_volume w.to_volume nodes [] [] (subst (λ (ns : List Made). ReadsBack w.from_volume w.to_volume (map made_child ns) [] []) (sym end) refl);
    }

check-keeps : (rest : Wish) (w : Standing) (from : ℕ) → ((given : List Child) (turns : List Turn) (lines : List Line) → IsLeft w.from_volume w.to_volume w.nodes w.lines from given turns lines → rest given turns lines) → Keeps rest (next_check w from)
unfolding next_check
check-keeps rest w from h =
    let dirs : List Line = dirs_before (drop from w.nodes) in
    if-by (Keeps rest) (nat_lt (from + length dirs) (length w.nodes)) (goes (record w { lines = w.lines ++ dirs; stage = stages.ChecksFrom (checking_of (from + length dirs)) })) (ends (done (w.lines ++ dirs)))
    (λ less. ((less-by (from + length dirs) (length w.nodes) less, refl), λ given turns lines k. h given turns lines (checked-left w from given turns lines k)))
    (λ past. h [] [] (w.lines ++ dirs) (done-left w from (past-by (from + length dirs) (length w.nodes) past)))

left-setting : (w : Standing) (given : List Child) (turns : List Turn) (lines : List Line) → w.lines ≡ [] → IsLeft w.from_volume w.to_volume w.nodes w.lines 0 given turns lines → IsSetting w.from_volume w.to_volume w.nodes given turns lines
left-setting w given turns lines empty h = record {
  no_more = h.no_more;
  back = record {
    before = [];
    after = turns;
    turns_are = refl;
    back = subst (λ (ls : List Line). ReadsBack w.from_volume w.to_volume (map made_child w.nodes) ls turns) (sym (h.lines_are ∙ ap (λ (ls : List Line). ls ++ h.more) empty)) h.back;
  };
}

set-or-check-keeps : (rest : Wish) (w : Standing) (o : Option ℕ) → w.lines ≡ [] → ((given : List Child) (turns : List Turn) (lines : List Line) → IsSetting w.from_volume w.to_volume w.nodes given turns lines → rest given turns lines) → Keeps rest (set_or_check w o)
set-or-check-keeps rest w None empty h = check-keeps rest w 0 (λ given turns lines k. h given turns lines (left-setting w given turns lines empty k))
set-or-check-keeps rest w (Some index) empty h = (empty, h)

next-set-keeps : (rest : Wish) (w : Standing) (before : ℕ) → w.lines ≡ [] → ((given : List Child) (turns : List Turn) (lines : List Line) → IsSetting w.from_volume w.to_volume w.nodes given turns lines → rest given turns lines) → Keeps rest (next_set w before)
unfolding next_set
next-set-keeps rest w before empty h = set-or-check-keeps rest w (last_dir w.nodes before) empty h

-- ---- one turn before

one-before : (from_volume to_volume : VolumeId) (t : Turn) (children : List Child) (lines : List Line) (turns : List Turn) → EndsBack from_volume to_volume children lines turns → EndsBack from_volume to_volume children lines (t ∷ turns)
one-before from_volume to_volume t children lines turns h = record { before = t ∷ h.before; after = h.after; turns_are = ap (λ (ts : List Turn). t ∷ ts) h.turns_are; back = h.back }

abbrev is_known : Standing → Turn → Wish
is_known w t given turns lines = EndsBack w.from_volume w.to_volume (known w ++ given) lines (t ∷ turns)

abbrev is_listed : Standing → Turn → Option (List ListEntry) → Wish
is_listed w t rows given turns lines = EndsBack w.from_volume w.to_volume (known w ++ (children_by w.place.here.source rows ++ given)) lines (t ∷ turns)

abbrev is_setting : Standing → Turn → Wish
is_setting w t given turns lines = IsSetting w.from_volume w.to_volume w.nodes given (t ∷ turns) lines

before-same : (from_volume to_volume : VolumeId) (t : Turn) (children other : List Child) (lines : List Line) (turns : List Turn) → children ≡ other → EndsBack from_volume to_volume children lines turns → EndsBack from_volume to_volume other lines (t ∷ turns)
before-same from_volume to_volume t children other lines turns same h = one-before from_volume to_volume t other lines turns (subst (λ (cs : List Child). EndsBack from_volume to_volume cs lines turns) same h)

on-known : (w : Standing) (t : Turn) (given : List Child) (turns : List Turn) (lines : List Line) → EndsBack w.from_volume w.to_volume (known w ++ given) lines turns → is_known w t given turns lines
on-known w t given turns lines h = one-before w.from_volume w.to_volume t (known w ++ given) lines turns h

-- ---- lists

record AreChildren (here : NodeId) (from : List Found) (rows : List ListEntry) (page : List Found) : Type 0 where
  children : map (child_of here) page ≡ map (child_of here) from ++ children_of here rows

children-more : (here : NodeId) (from more : List Found) (row : ListEntry) (rows : List ListEntry) (page : List Found) → IsMore (found_in row.values) from more → AreChildren here more rows page → AreChildren here from (row ∷ rows) page
children-more here from more row rows page m p = record {
  children = p.children
      ∙ ap (λ (xs : List Found). map (child_of here) xs ++ children_of here rows) m.more_is
      ∙ ap (λ (cs : List Child). cs ++ children_of here rows) (map-append (child_of here) from (m.f ∷ []))
      ∙ append_assoc (map (child_of here) from) (child_of here m.f ∷ []) (children_of here rows)
      ∙ ap (λ (o : Option Found). map (child_of here) from ++ with_child here o (children_of here rows)) (sym m.is);
}

children-by : (here : NodeId) (nodes : List Made) (from : List Found) (row : ListEntry) (rows : List ListEntry) (page : List Found) (r : Result (List Found) Ended) → with_found nodes from (found_in row.values) ≡ r
    → ((more : List Found) → page_from nodes more rows ≡ Ok page → AreChildren here more rows page) → and_then r (λ more. page_from nodes more rows) ≡ Ok page → AreChildren here from (row ∷ rows) page
children-by here nodes from row rows page (Ok more) is rest h = children-more here from more row rows page (found-more nodes from more (found_in row.values) is) (rest more h)
children-by here nodes from row rows page (Err e) is rest h = no-page e page h

children-are : (here : NodeId) (nodes : List Made) (from : List Found) (rows : List ListEntry) (page : List Found) → page_from nodes from rows ≡ Ok page → AreChildren here from rows page
unfolding page_from
children-are here nodes from [] page h =
    let same : page ≡ from = ap (λ (r : Result (List Found) Ended). ok-page page r) (sym h) in
    record { children = ap (λ (xs : List Found). map (child_of here) xs) same ∙ sym (append-nil (map (child_of here) from)) }
children-are here nodes from (row ∷ rows) page h = children-by here nodes from row rows page (with_found nodes from (found_in row.values)) refl (λ more k. children-are here nodes more rows page k) h

known-none : (here : NodeId) (w : Standing) → w.page ≡ [] → known_at here w.nodes w.page ≡ map made_child w.nodes
known-none here w empty = ap (λ (page : List Found). known_at here w.nodes page) empty ∙ append-nil (map made_child w.nodes)

known-listed : (w : Standing) (page : List Found) (rows : List ListEntry) (given : List Child) → w.page ≡ [] → AreChildren w.place.here.source [] rows page → known_at w.place.here.source w.nodes page ++ given ≡ known w ++ (children_of w.place.here.source rows ++ given)
known-listed w page rows given empty p =
    let old : List Child = map made_child w.nodes in
    let new : List Child = children_of w.place.here.source rows in
    ap (λ (cs : List Child). (old ++ cs) ++ given) p.children
    ∙ append_assoc old new given
    ∙ ap (λ (cs : List Child). cs ++ (new ++ given)) (sym (known-none w.place.here.source w empty))

page-keeps : (w : Standing) (t : Turn) (rows : List ListEntry) (r : Result (List Found) Ended) → IsIn stages.Lists w → page_from w.nodes [] rows ≡ r → Keeps (is_listed w t (Some rows)) (with_page w r)
page-keeps w t rows (Err (bad side)) h is = tt
page-keeps w t rows (Err too_many) h is = tt
page-keeps w t rows (Err (done lines)) h is = absurd (page-not-done w.nodes rows (done lines) is)
page-keeps w t rows (Err (refused side c node)) h is = tt
page-keeps w t rows (Err (not_empty node)) h is = tt
page-keeps w t rows (Err (changed node place)) h is = tt
page-keeps w t rows (Ok page) h is =
    if-any (Keeps (is_listed w t (Some rows))) (nat_lt (w.place.start + length page) (2 ^ 32)) (goes (record w { place = record w.place { start = w.place.start + length page }; page = page; stage = stages.Makes })) (ends too_many)
    (h.0, λ given turns lines more. before-same w.from_volume w.to_volume t (known_at w.place.here.source w.nodes page ++ given) (known w ++ (children_of w.place.here.source rows ++ given)) lines turns (known-listed w page rows given h.1 (children-are w.place.here.source w.nodes [] rows page is)) more) tt

rows-keeps : (w : Standing) (t : Turn) (rows : List ListEntry) → IsIn stages.Lists w → Keeps (is_listed w t (Some rows)) (listed_rows w rows)
unfolding listed_rows
rows-keeps w t [] h = tt
rows-keeps w t (row ∷ rows) h = page-keeps w t (row ∷ rows) (page_from w.nodes [] (row ∷ rows)) h refl

setting-known : (w : Standing) (t : Turn) (given : List Child) (turns : List Turn) (lines : List Line) → w.page ≡ [] → IsSetting w.from_volume w.to_volume w.nodes given turns lines → is_known w t given turns lines
setting-known w t given turns lines empty h =
    before-same w.from_volume w.to_volume t (map made_child w.nodes) (known w ++ given) lines turns
    (sym (known-none w.place.here.source w empty) ∙ sym (append-nil (known w)) ∙ ap (λ (cs : List Child). known w ++ cs) (sym h.no_more)) h.back

other-place : (w : Standing) (here : NodeId) (given : List Child) → w.page ≡ [] → known_at here w.nodes w.page ++ given ≡ known w ++ given
other-place w here given empty = ap (λ (cs : List Child). cs ++ given) (known-none here w empty ∙ sym (known-none w.place.here.source w empty))

place-keeps : (w : Standing) (t : Turn) (o : Option ℕ) → IsIn stages.Lists w → Keeps (is_known w t) (list_or_set w o)
place-keeps w t None h = next-set-keeps (is_known w t) w (length w.nodes) h.0 (λ given turns lines k. setting-known w t given turns lines h.1 k)
place-keeps w t (Some index) h =
    let place = place_at (slice_get w.nodes index) index w.place in
    (h, λ given turns lines more. before-same w.from_volume w.to_volume t (known_at place.here.source w.nodes w.page ++ given) (known w ++ given) lines turns (other-place w place.here.source given h.1) more)

next-place-keeps : (w : Standing) (t : Turn) → IsIn stages.Lists w → Keeps (is_known w t) (next_place w)
unfolding next_place
next-place-keeps w t h = place-keeps w t (next_dir (drop w.place.next w.nodes) w.place.next) h

listed-by : (a b : Bool) (w : Standing) (t : Turn) (o : Option (List ListEntry)) (side : Side) (c : Code) (node : NodeId) → IsIn stages.Lists w
    → Keeps (is_listed w t (if a then o else None)) (if a then needs From o (listed_rows w) else if b then next_place w else ends (refused side c node))
listed-by true b w t None side c node h = tt
listed-by true b w t (Some rows) side c node h = rows-keeps w t rows h
listed-by false true w t o side c node h = next-place-keeps w t h
listed-by false false w t o side c node h = tt

-- ---- nodes that are made

known-on : (w : Standing) (target : NodeId) (f : Found) (page : List Found) → w.page ≡ f ∷ page → known_at w.place.here.source (w.nodes ++ made_of w.place.here f target ∷ []) page ≡ known w
known-on w target f page is =
    let old : List Child = map made_child w.nodes in
    let here : NodeId = w.place.here.source in
    ap (λ (cs : List Child). cs ++ map (child_of here) page) (map-append made_child w.nodes (made_of w.place.here f target ∷ []))
    ∙ append_assoc old (child_of here f ∷ []) (map (child_of here) page)
    ∙ ap (λ (fs : List Found). known_at here w.nodes fs) (sym is)

first-on : (w : Standing) (t : Turn) (target : NodeId) (f : Found) (page : List Found) (given : List Child) (turns : List Turn) (lines : List Line) → w.page ≡ f ∷ page
    → EndsBack w.from_volume w.to_volume (known_at w.place.here.source (w.nodes ++ made_of w.place.here f target ∷ []) page ++ given) lines turns → is_known w t given turns lines
first-on w t target f page given turns lines is h =
    before-same w.from_volume w.to_volume t (known_at w.place.here.source (w.nodes ++ made_of w.place.here f target ∷ []) page ++ given) (known w ++ given) lines turns (ap (λ (cs : List Child). cs ++ given) (known-on w target f page is)) h

first-keeps : (w : Standing) (t : Turn) (target : NodeId) (page : List Found) → w.lines ≡ [] → w.page ≡ page → Keeps (is_known w t) (made_first w target page)
first-keeps w t target [] h is = tt
first-keeps w t target (f ∷ []) h is = ((h, refl), λ given turns lines more. first-on w t target f [] given turns lines is more)
first-keeps w t target (f ∷ g ∷ page) h is = (h, λ given turns lines more. first-on w t target f (g ∷ page) given turns lines is more)

next-made-keeps : (w : Standing) (t : Turn) (target : NodeId) → w.lines ≡ [] → Keeps (is_known w t) (next_made w target)
unfolding next_made
next-made-keeps w t target h = first-keeps w t target w.page h refl

looks-keeps : (w : Standing) (t : Turn) (c : Code) (reply : Reply) → IsIn stages.Looks w → Keeps (is_known w t) (looked w c reply)
unfolding looked
looks-keeps w t c reply h =
    let given_node : Next = needs To (first_in (rows_in reply)) (λ node. ends (not_empty node)) in
    let listed_next : Next = goes (record w { place = first_place; stage = stages.Lists }) in
    if-any (Keeps (is_known w t)) (is_ok c) given_node (if ends_list c then listed_next else ends (refused To c root)) (needs-any (Keeps (is_known w t)) To (first_in (rows_in reply)) (λ node. ends (not_empty node)) tt (λ node. tt))
    (if-any (Keeps (is_known w t)) (ends_list c) listed_next (ends (refused To c root))
    ((h.0, h.2), λ given turns lines more. before-same w.from_volume w.to_volume t (known_at root w.nodes w.page ++ given) (known w ++ given) lines turns (other-place w root given h.2) more) tt)

list-keeps : (w : Standing) (t : Turn) (c : Code) (reply : Reply) → IsIn stages.Lists w → Keeps (is_listed w t (rows_told c (Some reply))) (listed w c reply)
unfolding listed
list-keeps w t c reply h = listed-by (is_ok c) (ends_list c) w t (rows_in reply) From c w.place.here.source h

makes-keeps : (w : Standing) (t : Turn) (c : Code) (reply : Reply) → w.lines ≡ [] → Keeps (is_known w t) (made w c reply)
unfolding made
makes-keeps w t c reply h =
    let made_dir : Next = needs To (node_in reply) (next_made w) in
    let made_file : Next = goes (record w { stage = stages.Finds }) in
    must-any (Keeps (is_known w t)) c To w.place.here.target (if is_first_dir w.page then made_dir else made_file) tt
    (if-any (Keeps (is_known w t)) (is_first_dir w.page) made_dir made_file (needs-any (Keeps (is_known w t)) To (node_in reply) (next_made w) tt (λ target. next-made-keeps w t target h)) (h, λ given turns lines more. on-known w t given turns lines more))

set-file-keeps : (w : Standing) (t : Turn) (target : NodeId) (c : Code) → w.lines ≡ [] → Keeps (is_known w t) (set_file w target c)
unfolding set_file
set-file-keeps w t target c h = must-any (Keeps (is_known w t)) c To target (next_made w target) tt (next-made-keeps w t target h)

set-dir-keeps : (w : Standing) (t : Turn) (index : ℕ) (c : Code) → w.lines ≡ [] → Keeps (is_setting w t) (set_dir w index c)
unfolding set_dir
set-dir-keeps w t index c h =
    must-any (Keeps (is_setting w t)) c To (target_at (slice_get w.nodes index)) (next_set w index) tt
    (next-set-keeps (is_setting w t) w index h (λ given turns lines k. record { no_more = k.no_more; back = one-before w.from_volume w.to_volume t (map made_child w.nodes) lines turns k.back }))

reads-keeps : (w : Standing) (t : Turn) (copying : Copying) (c : Code) (reply : Reply) → w.lines ≡ [] → Keeps (is_known w t) (read_piece w copying c reply)
unfolding read_piece
reads-keeps w t copying c reply h =
    read-with (Keeps (is_known w t)) From (first_id w.page) copying.len c reply (λ piece last. goes (record w { piece = piece; stage = write_or_close copying piece last })) tt tt
    (λ piece last is code_is asked. goes-if (is_known w t) (record w { piece = piece }) (is_empty piece) (stages.ClosesFrom copying) (stages.Writes copying last)
    (h, λ given turns lines more. on-known w t given turns lines more) (h, λ given turns lines more. on-known w t given turns lines more))

writes-keeps : (w : Standing) (t : Turn) (copying : Copying) (last : Bool) (c : Code) → w.lines ≡ [] → Keeps (is_known w t) (written w copying last c)
unfolding written
writes-keeps w t copying last c h =
    must-any (Keeps (is_known w t)) c To copying.target (goes (record w { stage = close_or_read (record copying { len = copying.len + length w.piece }) last })) tt
    (goes-if (is_known w t) w last (stages.ClosesFrom (record copying { len = copying.len + length w.piece })) (stages.Reads (record copying { len = copying.len + length w.piece }))
    (h, λ given turns lines more. on-known w t given turns lines more) (h, λ given turns lines more. on-known w t given turns lines more))

closes-keeps : (w : Standing) (t : Turn) (copying : Copying) (c : Code) → w.lines ≡ [] → Keeps (is_known w t) (closed_to w copying c)
unfolding closed_to
closes-keeps w t copying c h =
    must-any (Keeps (is_known w t)) c To copying.target (goes (record w { stage = set_or_open copying })) tt
    (goes-if (is_known w t) w copying.resource (stages.SetsFile copying.target) (stages.OpensFrom (record copying { resource = true; len = 0 }))
    (h, λ given turns lines more. on-known w t given turns lines more) (h, λ given turns lines more. on-known w t given turns lines more))

-- ---- a fork is read back

both-on : (from_volume to_volume : VolumeId) (resource : Bool) (child : Child) (before data_len resource_len : ℕ) (next : List Turn → Type 0) (f g : Forks) → ((len : ℕ) (rest : List Turn → Type 0) → f child len rest → g child len rest)
    → BothForks from_volume to_volume resource child before data_len resource_len next f → BothForks from_volume to_volume resource child before data_len resource_len next g
both-on from_volume to_volume true child before data_len resource_len next f g k h = (h.0, k resource_len next h.1)
both-on from_volume to_volume false child before data_len resource_len next f g k h = k data_len (λ rest. ReadsFork from_volume to_volume child true resource_len next rest) h

forks-on : (w : Standing) (checking : Checking) (given : List Child) (lines : List Line) (f g : Forks) → ((node : Made) → slice_get w.nodes checking.index ≡ Some node → (len : ℕ) (rest : List Turn → Type 0) → f (made_child node) len rest → g (made_child node) len rest)
    → Checked w checking given lines f → Checked w checking given lines g
forks-on w checking given lines f g k h = record {
  no_more = h.no_more;
  node = h.node;
  front = h.front;
  data_len = h.data_len;
  resource_len = h.resource_len;
  more = h.more;
  lines_are = h.lines_are;
  left = both-on w.from_volume w.to_volume checking.resource (made_child h.node) checking.data_len h.data_len h.resource_len (ReadsBack w.from_volume w.to_volume (map made_child (drop (checking.index + 1) w.nodes)) h.more) f g
      (k h.node (stands-at w.nodes checking.index h.node (drop (checking.index + 1) w.nodes) h.front).get) h.left;
}

abbrev rest_late : Stage → Standing → Turn → Wish
rest_late stage w t given turns lines = Rest stage w given (t ∷ turns) lines

checks-from-keeps : (w : Standing) (t : Turn) (checking : Checking) (reply : Reply) → IsIn (stages.ChecksFrom checking) w → IsAsked (stages.ChecksFrom checking) w t → t.reply ≡ Some reply → Keeps (rest_late (stages.ChecksFrom checking) w t) (checked_from w checking t.answer.code reply)
unfolding checked_from
checks-from-keeps w t checking reply h a is =
    let rest : Wish = rest_late (stages.ChecksFrom checking) w t in
    let next : ForkRef → Next = λ v. goes (record w { stage = stages.ChecksTo (record checking { from = v }) }) in
    must-with (Keeps rest) t.answer.code From (source_at (slice_get w.nodes checking.index)) (needs From (fork_in reply) next) tt
    (λ ok. needs-with (Keeps rest) From (fork_in reply) next tt
    (λ v told. (
      h,
      λ given turns lines more. forks-on w checking given lines (λ child len k. ReadsOpened w.to_volume child checking.resource v len k turns) (λ child len k. ReadsFork w.from_volume w.to_volume child checking.resource len k (t ∷ turns))
          (λ node get len k opened. (
            v,
            record {
              mode = to_copy;
              called = called t From (open_fork checking.resource w.from_volume to_copy node.parent.source node.name) node.source a.asked
                  (node-asked-is w.nodes checking.index (λ n. asked From (open_fork checking.resource w.from_volume to_copy n.parent.source n.name) n.source) a.asked node get a.next) a.side a.call ok;
              told = ap (λ (o : Option Reply). fork_told o) is ∙ told;
            },
            opened,
          )) more,
    )))

checks-to-keeps : (w : Standing) (t : Turn) (checking : Checking) (reply : Reply) → IsIn (stages.ChecksTo checking) w → IsAsked (stages.ChecksTo checking) w t → t.reply ≡ Some reply → Keeps (rest_late (stages.ChecksTo checking) w t) (checked_to w checking t.answer.code reply)
unfolding checked_to
checks-to-keeps w t checking reply h a is =
    let rest : Wish = rest_late (stages.ChecksTo checking) w t in
    let next : ForkRef → Next = λ v. goes (record w { stage = stages.ReadsFrom (record checking { to = v }) }) in
    must-with (Keeps rest) t.answer.code To (target_at (slice_get w.nodes checking.index)) (needs To (fork_in reply) next) tt
    (λ ok. needs-with (Keeps rest) To (fork_in reply) next tt
    (λ v told. (
      h.0,
      λ given turns lines more. forks-on w checking given lines (λ child len k. ReadsSame none checking.from v checking.len (in_full checking.from v len k) turns) (λ child len k. ReadsOpened w.to_volume child checking.resource checking.from len k (t ∷ turns))
          (λ node get len k same. (
            node.parent.target,
            v,
            record {
              mode = to_check;
              called = called t To (open_fork checking.resource w.to_volume to_check node.parent.target node.name) node.target a.asked
                  (node-asked-is w.nodes checking.index (λ n. asked To (open_fork checking.resource w.to_volume to_check n.parent.target n.name) n.target) a.asked node get a.next) a.side a.call ok;
              told = ap (λ (o : Option Reply). fork_told o) is ∙ told;
            },
            subst (λ (n : ℕ). ReadsSame none checking.from v n (in_full checking.from v len k) turns) h.1 same,
          )) more,
    )))

reads-from-keeps : (w : Standing) (t : Turn) (checking : Checking) (reply : Reply) → IsIn (stages.ReadsFrom checking) w → IsAsked (stages.ReadsFrom checking) w t → t.reply ≡ Some reply → Keeps (rest_late (stages.ReadsFrom checking) w t) (read_from w checking t.answer.code reply)
unfolding read_from
reads-from-keeps w t checking reply h a is =
    let rest : Wish = rest_late (stages.ReadsFrom checking) w t in
    read-with (Keeps rest) From (source_at (slice_get w.nodes checking.index)) checking.len t.answer.code reply (λ piece last. goes (record w { piece = piece; stage = stages.ReadsTo checking last })) tt tt
    (λ piece last told code_is short. (
      (h, short),
      λ given turns lines more. forks-on w checking given lines
          (λ child len k. ReadsSame (half piece last) checking.from checking.to checking.len (in_full checking.from checking.to len k) turns)
          (λ child len k. ReadsSame none checking.from checking.to checking.len (in_full checking.from checking.to len k) (t ∷ turns))
          (λ node get len k same. (
            piece,
            last,
            read-is t From checking.from checking.len piece last node.source a.asked reply (node-asked-is w.nodes checking.index (λ n. asked From (read checking.from checking.len) n.source) a.asked node get a.next) a.side a.call code_is is told,
            same,
          )) more,
    ))

one-end : (a b : Bool) (piece : List ℕ) → has_asked a piece ≡ true → has_asked b piece ≡ true → a ≡ b
one-end true true piece h k = refl
one-end false false piece h k = refl
one-end true false piece h k = absurd (grind (arith, nat_tests, h, k))
one-end false true piece h k = absurd (grind (arith, nat_tests, h, k))

reads-to-by : (w : Standing) (t : Turn) (checking : Checking) (last : Bool) (piece : List ℕ) → IsIn (stages.ReadsTo checking last) w → ((node : Made) → slice_get w.nodes checking.index ≡ Some node → Reads t To checking.to checking.len w.piece last) → piece ≡ w.piece
    → Keeps (rest_late (stages.ReadsTo checking last) w t) (goes (record w { stage = shut_or_read (record checking { len = checking.len + length piece }) last }))
reads-to-by w t checking true piece h told same = (
  h.0,
  λ given turns lines more. forks-on w checking given lines
      (λ child len k. (checking.len + length piece ≡ len) × Closes checking.from checking.to k turns)
      (λ child len k. ReadsSame (half w.piece true) checking.from checking.to checking.len (in_full checking.from checking.to len k) (t ∷ turns))
      (λ node get len k end. (told node get, (ap (λ (p : List ℕ). checking.len + length p) (sym same) ∙ end.0, end.1))) more,
)
reads-to-by w t checking false piece h told same = (
  h.0,
  λ given turns lines more. forks-on w checking given lines
      (λ child len k. ReadsSame none checking.from checking.to (checking.len + length piece) (in_full checking.from checking.to len k) turns)
      (λ child len k. ReadsSame (half w.piece false) checking.from checking.to checking.len (in_full checking.from checking.to len k) (t ∷ turns))
      (λ node get len k next. (told node get, subst (λ (p : List ℕ). ReadsSame none checking.from checking.to (checking.len + length p) (in_full checking.from checking.to len k) turns) same next)) more,
)

reads-to-keeps : (w : Standing) (t : Turn) (checking : Checking) (last : Bool) (reply : Reply) → IsIn (stages.ReadsTo checking last) w → IsAsked (stages.ReadsTo checking last) w t → t.reply ≡ Some reply
    → Keeps (rest_late (stages.ReadsTo checking last) w t) (read_to w checking last t.answer.code reply)
unfolding read_to
reads-to-keeps w t checking last reply h a is =
    let rest : Wish = rest_late (stages.ReadsTo checking last) w t in
    read-with (Keeps rest) To (target_at (slice_get w.nodes checking.index)) checking.len t.answer.code reply (compared w checking last) tt tt
    (λ piece ended told code_is short.
    if-by (Keeps rest) (bytes_eq piece w.piece) (goes (record w { stage = shut_or_read (record checking { len = checking.len + length piece }) last })) (ends (changed (target_at (slice_get w.nodes checking.index)) (checking.len + first_difference w.piece piece)))
    (λ equal.
    let same : piece ≡ w.piece = bytes_same piece w.piece equal in
    let end : ended ≡ last = one-end ended last piece short (subst (λ (p : List ℕ). has_asked last p ≡ true) (sym same) h.1) in
    reads-to-by w t checking last piece h
    (λ node get. read-is t To checking.to checking.len w.piece last node.target a.asked reply (node-asked-is w.nodes checking.index (λ n. asked To (read checking.to checking.len) n.target) a.asked node get a.next) a.side a.call
    (subst (λ (b : Bool). is_last_by b t.answer.code ≡ true) end code_is) is (told ∙ ap (λ (p : List ℕ). Some p) same)) same)
    (λ differs. tt))

shuts-from-keeps : (w : Standing) (t : Turn) (checking : Checking) → IsIn (stages.ShutsFrom checking) w → IsAsked (stages.ShutsFrom checking) w t → Keeps (rest_late (stages.ShutsFrom checking) w t) (shut_from w checking t.answer.code)
unfolding shut_from
shuts-from-keeps w t checking h a =
    let rest : Wish = rest_late (stages.ShutsFrom checking) w t in
    must-with (Keeps rest) t.answer.code From (source_at (slice_get w.nodes checking.index)) (goes (record w { stage = stages.ShutsTo checking })) tt
    (λ ok. (
      h,
      λ given turns lines more. forks-on w checking given lines (λ child len k. (checking.len ≡ len) × closes_last checking.to k turns) (λ child len k. (checking.len ≡ len) × Closes checking.from checking.to k (t ∷ turns))
          (λ node get len k end. (end.0, (called t From (close checking.from) node.source a.asked (node-asked-is w.nodes checking.index (λ n. asked From (close checking.from) n.source) a.asked node get a.next) a.side a.call ok, end.1))) more,
    ))

is-closed : (w : Standing) (t : Turn) (checking : Checking) (node : Made) → IsAsked (stages.ShutsTo checking) w t → is_ok t.answer.code ≡ true → slice_get w.nodes checking.index ≡ Some node → IsCalled t To (close checking.to)
is-closed w t checking node a ok get = called t To (close checking.to) node.target a.asked (node-asked-is w.nodes checking.index (λ n. asked To (close checking.to) n.target) a.asked node get a.next) a.side a.call ok

abbrev Shut : Standing → Turn → Checking → Bool → List Child → List Turn → List Line → Type 0
Shut w t checking b given turns lines = IsChecked w.from_volume w.to_volume w.nodes w.lines checking.index b checking.data_len given lines (λ child len k. (checking.len ≡ len) × closes_last checking.to k (t ∷ turns))

data-shut : (w : Standing) (t : Turn) (checking : Checking) (given : List Child) (turns : List Turn) (lines : List Line) → IsAsked (stages.ShutsTo checking) w t → is_ok t.answer.code ≡ true
    → IsChecked w.from_volume w.to_volume w.nodes w.lines checking.index true checking.len given lines (λ child len k. ReadsFork w.from_volume w.to_volume child true len k turns) → Shut w t checking false given turns lines
data-shut w t checking given turns lines a ok h = record {
  no_more = h.no_more;
  node = h.node;
  front = h.front;
  data_len = h.data_len;
  resource_len = h.resource_len;
  more = h.more;
  lines_are = h.lines_are;
  left = (sym h.left.0, (is-closed w t checking h.node a ok (stands-at w.nodes checking.index h.node (drop (checking.index + 1) w.nodes) h.front).get, h.left.1));
}

resource-shut : (w : Standing) (t : Turn) (checking : Checking) (given : List Child) (turns : List Turn) (lines : List Line) → IsAsked (stages.ShutsTo checking) w t → is_ok t.answer.code ≡ true → checking.index < length w.nodes
    → IsLeft w.from_volume w.to_volume w.nodes (lines_with w.lines (slice_get w.nodes checking.index) checking) (checking.index + 1) given turns lines → Shut w t checking true given turns lines
resource-shut w t checking given turns lines a ok there h =
    let n = has-node w.nodes checking.index there in
    record {
      no_more = h.no_more;
      node = n.node;
      front = n.front;
      data_len = checking.data_len;
      resource_len = checking.len;
      more = h.more;
      lines_are = h.lines_are ∙ ap (λ (o : Option Made). lines_with w.lines o checking ++ h.more) n.get ∙ append_assoc w.lines (line_of n.node checking.data_len checking.len ∷ []) h.more;
      left = (refl, (refl, (is-closed w t checking n.node a ok n.get, h.back)));
    }

shut-by : (b : Bool) (w : Standing) (t : Turn) (checking : Checking) → IsIn (stages.ShutsTo checking) w → IsAsked (stages.ShutsTo checking) w t → is_ok t.answer.code ≡ true
    → Keeps (Shut w t checking b) (if b then next_check (record w { lines = lines_with w.lines (slice_get w.nodes checking.index) checking }) (checking.index + 1) else goes (record w { stage = stages.ChecksFrom (record checking { resource = true; len = 0; data_len = checking.len }) }))
shut-by true w t checking h a ok =
    check-keeps (Shut w t checking true) (record w { lines = lines_with w.lines (slice_get w.nodes checking.index) checking }) (checking.index + 1)
    (λ given turns lines k. resource-shut w t checking given turns lines a ok h k)
shut-by false w t checking h a ok = ((h, refl), λ given turns lines k. data-shut w t checking given turns lines a ok k)

shuts-to-keeps : (w : Standing) (t : Turn) (checking : Checking) → IsIn (stages.ShutsTo checking) w → IsAsked (stages.ShutsTo checking) w t → Keeps (rest_late (stages.ShutsTo checking) w t) (shut_to w checking t.answer.code)
unfolding shut_to
shuts-to-keeps w t checking h a =
    let with_line : Standing = record w { lines = lines_with w.lines (slice_get w.nodes checking.index) checking } in
    let again : Next = goes (record w { stage = stages.ChecksFrom (record checking { resource = true; len = 0; data_len = checking.len }) }) in
    must-with (Keeps (rest_late (stages.ShutsTo checking) w t)) t.answer.code To (target_at (slice_get w.nodes checking.index)) (if checking.resource then next_check with_line (checking.index + 1) else again) tt
    (λ ok. shut-by checking.resource w t checking h a ok)

-- ---- a step

abbrev given_at : Stage → Standing → Code → Reply → List Child
given_at stages.Lists w c reply = children_by w.place.here.source (rows_told c (Some reply))
given_at stage w c reply = []

abbrev rest_at : Stage → Standing → Turn → Reply → Wish
rest_at stage w t reply given turns lines = Rest stage w (given_at stage w t.answer.code reply ++ given) (t ∷ turns) lines

early-keeps : {A : Type 0} (w : Standing) (t : Turn) (side : Side) (node : NodeId) (o : Option A) (f : A → Next) → ((v : A) → Keeps (is_known w t) (f v)) → Keeps (is_known w t) (must t.answer.code side node (needs side o f))
early-keeps w t side node o f k = must-any (Keeps (is_known w t)) t.answer.code side node (needs side o f) tt (needs-any (Keeps (is_known w t)) side o f tt k)

first-is : (t : Turn) (side : Side) (call : Call) (about : NodeId) (a : Asked) → Some (asked side call about) ≡ Some a → t.side ≡ a.side → t.call ≡ a.call → is_ok t.answer.code ≡ true → IsCalled t side call
first-is t side call about a same side_is call_is ok = called t side call about a (ap (λ (o : Option Asked). asked_or a o) (sym same)) side_is call_is ok

opens-source-keeps : (w : Standing) (t : Turn) (reply : Reply) → IsIn stages.OpensSource w → IsAsked stages.OpensSource w t → t.reply ≡ Some reply → Keeps (rest_at stages.OpensSource w t reply) (opened_source w t.answer.code reply)
opens-source-keeps w t reply h a is =
    let rest : Wish = rest_at stages.OpensSource w t reply in
    let next : VolumeId → Next = λ v. goes (record w { from_volume = v; stage = stages.OpensTarget }) in
    must-with (Keeps rest) t.answer.code From root (needs From (volume_in reply) next) tt
    (λ ok. needs-with (Keeps rest) From (volume_in reply) next tt
    (λ v told. (
      h,
      λ given turns lines more. record {
        from_volume = v;
        to_volume = more.0;
        opened = (first-is t From (open_volume w.source) root a.asked a.next a.side a.call ok, ap (λ (o : Option Reply). volume_told o) is ∙ told, more.1);
        ended = one-before v more.0 t (known w ++ given) lines turns more.2;
      },
    )))

opens-target-keeps : (w : Standing) (t : Turn) (reply : Reply) → IsIn stages.OpensTarget w → IsAsked stages.OpensTarget w t → t.reply ≡ Some reply → Keeps (rest_at stages.OpensTarget w t reply) (opened_target w t.answer.code reply)
opens-target-keeps w t reply h a is =
    let rest : Wish = rest_at stages.OpensTarget w t reply in
    let next : VolumeId → Next = λ v. goes (record w { to_volume = v; stage = stages.Looks }) in
    must-with (Keeps rest) t.answer.code To root (needs To (volume_in reply) next) tt
    (λ ok. needs-with (Keeps rest) To (volume_in reply) next tt
    (λ v told. (
      h,
      λ given turns lines more. (
        v,
        (first-is t To (open_volume w.target) root a.asked a.next a.side a.call ok, ap (λ (o : Option Reply). volume_told o) is ∙ told),
        one-before w.from_volume v t (known w ++ given) lines turns more,
      ),
    )))

step : (stage : Stage) (w : Standing) (t : Turn) (reply : Reply) → IsIn stage w → IsAsked stage w t → t.reply ≡ Some reply → Keeps (rest_at stage w t reply) (follows_at stage w t.answer.code reply)
unfolding found_file opened_from opened_to closed_from
step stages.OpensSource w t reply h a is = opens-source-keeps w t reply h a is
step stages.OpensTarget w t reply h a is = opens-target-keeps w t reply h a is
step stages.Looks w t reply h a is = looks-keeps w t t.answer.code reply h
step stages.Lists w t reply h a is = list-keeps w t t.answer.code reply h
step stages.Makes w t reply h a is = makes-keeps w t t.answer.code reply h
step stages.Finds w t reply h a is = early-keeps w t To w.place.here.target (found_id_in reply) (λ v. goes (record w { stage = stages.OpensFrom (copying_of v) })) (λ v. (h, λ given turns lines more. on-known w t given turns lines more))
step (stages.OpensFrom copying) w t reply h a is = early-keeps w t From (first_id w.page) (fork_in reply) (λ v. goes (record w { stage = stages.OpensTo (record copying { from = v }) })) (λ v. (h, λ given turns lines more. on-known w t given turns lines more))
step (stages.OpensTo copying) w t reply h a is = early-keeps w t To copying.target (fork_in reply) (λ v. goes (record w { stage = stages.Reads (record copying { to = v }) })) (λ v. (h, λ given turns lines more. on-known w t given turns lines more))
step (stages.Reads copying) w t reply h a is = reads-keeps w t copying t.answer.code reply h
step (stages.Writes copying last) w t reply h a is = writes-keeps w t copying last t.answer.code h
step (stages.ClosesFrom copying) w t reply h a is = must-any (Keeps (is_known w t)) t.answer.code From (first_id w.page) (goes (record w { stage = stages.ClosesTo copying })) tt (h, λ given turns lines more. on-known w t given turns lines more)
step (stages.ClosesTo copying) w t reply h a is = closes-keeps w t copying t.answer.code h
step (stages.SetsFile target) w t reply h a is = set-file-keeps w t target t.answer.code h
step (stages.SetsDir index) w t reply h a is = set-dir-keeps w t index t.answer.code h
step (stages.ChecksFrom checking) w t reply h a is = checks-from-keeps w t checking reply h a is
step (stages.ChecksTo checking) w t reply h a is = checks-to-keeps w t checking reply h a is
step (stages.ReadsFrom checking) w t reply h a is = reads-from-keeps w t checking reply h a is
step (stages.ReadsTo checking last) w t reply h a is = reads-to-keeps w t checking last reply h a is
step (stages.ShutsFrom checking) w t reply h a is = shuts-from-keeps w t checking h a
step (stages.ShutsTo checking) w t reply h a is = shuts-to-keeps w t checking h a

-- ---- a run

children-append : (xs ys : List Listing) → children_in (xs ++ ys) ≡ children_in xs ++ children_in ys
children-append [] ys = refl
children-append (x ∷ xs) ys = ap (λ (cs : List Child). children_by x.dir x.rows ++ cs) (children-append xs ys) ∙ sym (append_assoc (children_by x.dir x.rows) (children_in xs) (children_in ys))

given-of : (stage : Stage) (w : Standing) (c : Code) (reply : Reply) → children_in (listing_at stage w c reply) ≡ given_at stage w c reply
given-of stages.OpensSource w c reply = refl
given-of stages.OpensTarget w c reply = refl
given-of stages.Looks w c reply = refl
given-of stages.Lists w c reply = append-nil (children_by w.place.here.source (rows_told c (Some reply)))
given-of stages.Makes w c reply = refl
given-of stages.Finds w c reply = refl
given-of (stages.OpensFrom copying) w c reply = refl
given-of (stages.OpensTo copying) w c reply = refl
given-of (stages.Reads copying) w c reply = refl
given-of (stages.Writes copying last) w c reply = refl
given-of (stages.ClosesFrom copying) w c reply = refl
given-of (stages.ClosesTo copying) w c reply = refl
given-of (stages.SetsFile target) w c reply = refl
given-of (stages.SetsDir index) w c reply = refl
given-of (stages.ChecksFrom checking) w c reply = refl
given-of (stages.ChecksTo checking) w c reply = refl
given-of (stages.ReadsFrom checking) w c reply = refl
given-of (stages.ReadsTo checking last) w c reply = refl
given-of (stages.ShutsFrom checking) w c reply = refl
given-of (stages.ShutsTo checking) w c reply = refl

turn-gives : (w : Standing) (t : Turn) (turns : List Turn) (reply : Reply) → IsTurn w t → t.reply ≡ Some reply → given_at w.stage w t.answer.code reply ++ children_in (lists_of turns) ≡ children_in (lists_of (t ∷ turns))
turn-gives w t turns reply turn is =
    let one : List Listing = listing t.side t.call (rows_told t.answer.code t.reply) in
    ap (λ (cs : List Child). cs ++ children_in (lists_of turns)) (sym (given-of w.stage w t.answer.code reply) ∙ ap (λ (l : List Listing). children_in l) (sym (turn-lists w t reply turn is)))
    ∙ sym (children-append one (lists_of turns))

abbrev Comes : Standing → List Turn → List Line → Type 0
Comes w turns lines = Rest w.stage w (children_in (lists_of turns)) turns lines

ended-at : (e : Ended) (rest : Wish) (turns : List Turn) (lines : List Line) → Keeps rest (ends e) → Leads (ends e) turns (ends (done lines)) → rest (children_in (lists_of turns)) turns lines
ended-at e rest (t ∷ turns) lines k l = absurd l
ended-at (done other) rest [] lines k l = subst (λ (x : List Line). rest [] [] x) (sym (same-lines lines other l)) k
ended-at (refused side c node) rest [] lines k l = not-done lines (ends (refused side c node)) (λ h. h) l
ended-at (not_empty node) rest [] lines k l = not-done lines (ends (not_empty node)) (λ h. h) l
ended-at too_many rest [] lines k l = not-done lines (ends too_many) (λ h. h) l
ended-at (bad side) rest [] lines k l = not-done lines (ends (bad side)) (λ h. h) l
ended-at (changed node place) rest [] lines k l = not-done lines (ends (changed node place)) (λ h. h) l

behind : (n : Next) (rest : Wish) (turns : List Turn) (lines : List Line) → ((w : Standing) → IsIn w.stage w → Leads (goes w) turns (ends (done lines)) → Comes w turns lines) → Keeps rest n → Leads n turns (ends (done lines)) → rest (children_in (lists_of turns)) turns lines
behind (goes w) rest turns lines more k l = k.1 (children_in (lists_of turns)) turns lines (more w k.0 l)
behind (ends e) rest turns lines more k l = ended-at e rest turns lines k l

turn-asks : (w : Standing) (t : Turn) → IsTurn w t → IsAsked w.stage w t
unfolding asks
turn-asks w t turn = record { asked = turn.asked; next = turn.next; side = turn.side; call = turn.call }

seen-on : (w : Standing) (t : Turn) (turns : List Turn) (lines : List Line) (o : Option Reply) → t.reply ≡ o → IsIn w.stage w → IsTurn w t → ((v : Standing) → IsIn v.stage v → Leads (goes v) turns (ends (done lines)) → Comes v turns lines)
    → Leads (seen w t.side t.answer o) turns (ends (done lines)) → Comes w (t ∷ turns) lines
unfolding follows
seen-on w t turns lines None is h turn more l = ended-at (bad t.side) (λ given other ls. Comes w (t ∷ turns) lines) turns lines tt l
seen-on w t turns lines (Some reply) is h turn more l =
    subst (λ (given : List Child). Rest w.stage w given (t ∷ turns) lines) (turn-gives w t turns reply turn is)
    (behind (follows w t.answer.code reply) (rest_at w.stage w t reply) turns lines more (step w.stage w t reply h (turn-asks w t turn) is) l)

comes : (turns : List Turn) (w : Standing) (lines : List Line) → IsIn w.stage w → Leads (goes w) turns (ends (done lines)) → Comes w turns lines
comes [] w lines h l = not-done lines (goes w) (λ k. k) l
comes (t ∷ turns) w lines h l = seen-on w t turns lines t.reply refl h l.0 (λ v k m. comes turns v lines k m) l.1

pub done-has-read-back : DoneHasReadBack
done-has-read-back source target turns lines l = comes turns (first source target) lines (refl, refl, refl) l
