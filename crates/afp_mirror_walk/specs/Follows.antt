-- What follows an answer in a mirror, by where it stands: the table of its answers (this profile).
use Rattle.std.specs.Prelude.{◌≡◌, ℕ, zero, suc, ◌+◌, ◌==◌, nat_le, nat_lt, ◌^◌, Bool, true, false, not, ◌&&◌, ◌||◌, if◌then◌else◌, List, [], ◌∷◌, ◌++◌, length, drop, Option, Some, None, Result, Ok, Err, slice_get, bytes_eq}
use Rattle.std.specs.List.{list_any}
use Rattle.afp_base.specs.Limits.{most_fork_bytes}
use Rattle.afp_base.specs.declared.code.Code.{Code}
use Rattle.afp_base.specs.declared.code.Code.TheVariants as code
use Rattle.afp_base.specs.declared.ids.ForkRef.{ForkRef}
use Rattle.afp_base.specs.declared.ids.NodeId.{NodeId}
use Rattle.afp_base.specs.declared.ids.VolumeId.{VolumeId}
use Rattle.afp_bitmap.specs.declared.params.Values.{Values}
use Rattle.afp_bitmap.specs.declared.params.Values.TheVariants.{Volume, File, Dir}
use Rattle.afp_replies.specs.declared.list.ListEntry.{ListEntry}
use Rattle.afp_replies.specs.declared.reply.Reply.{Reply}
use Rattle.afp_replies.specs.declared.reply.Reply.TheVariants as replies
use Rattle.afp_mirror_walk.specs.Settings.{found_in}
use Rattle.afp_mirror_walk.specs.Standing.{Standing, most_piece}
use Rattle.afp_mirror_walk.specs.Asks.{root}
use Rattle.afp_mirror_walk.specs.declared.walk.ends.Line.{Line}
use Rattle.afp_mirror_walk.specs.declared.walk.ends.MirrorEnd.{MirrorEnd}
use Rattle.afp_mirror_walk.specs.declared.walk.ends.MirrorEnd.TheVariants as mirror_ends
use Rattle.afp_mirror_walk.specs.declared.walk.ends.Side.{Side}
use Rattle.afp_mirror_walk.specs.declared.walk.ends.Side.TheVariants.{From, To}
use Rattle.afp_mirror_walk.specs.declared.walk.standing.Checking.{Checking}
use Rattle.afp_mirror_walk.specs.declared.walk.standing.Copying.{Copying}
use Rattle.afp_mirror_walk.specs.declared.walk.standing.Found.{Found}
use Rattle.afp_mirror_walk.specs.declared.walk.standing.Made.{Made}
use Rattle.afp_mirror_walk.specs.declared.walk.standing.Pair.{Pair}
use Rattle.afp_mirror_walk.specs.declared.walk.standing.Place.{Place}
use Rattle.afp_mirror_walk.specs.declared.walk.standing.Stage.{Stage}
use Rattle.afp_mirror_walk.specs.declared.walk.standing.Stage.TheVariants as stages

-- How a mirror ends, but for a port that gives no answer, and for want of memory.
pub data Ended : Type 0 where
  done : List Line → Ended
  refused : Side → Code → NodeId → Ended
  not_empty : NodeId → Ended
  too_many : Ended
  bad : Side → Ended
  changed : NodeId → ℕ → Ended

-- What follows an answer: where the mirror stands then, or how it ends.
pub data Next : Type 0 where
  goes : Standing → Next
  ends : Ended → Next

-- the codes that are told apart
abbrev pub is_ok : Code → Bool
is_ok code.Ok = true
is_ok c = false

abbrev pub ends_list : Code → Bool
ends_list code.ObjectNotFound = true
ends_list c = false

abbrev pub ends_fork : Code → Bool
ends_fork code.EOFErr = true
ends_fork c = false

-- a call must be told Ok
abbrev pub must : Code → Side → NodeId → Next → Next
must c side node next = if is_ok c then next else ends (refused side c node)

-- a reply must tell a value
abbrev pub needs : {A : Type 0} → Side → Option A → (A → Next) → Next
needs side None next = ends (bad side)
needs side (Some value) next = next value

-- ---- what replies tell

abbrev pub volume_of : Values → Option VolumeId
volume_of (Volume values) = Some (record { 0 = values.volume })
volume_of values = None

abbrev pub volume_in : Reply → Option VolumeId
volume_in (replies.Params bits values) = volume_of values
volume_in reply = None

abbrev pub node_in : Reply → Option NodeId
node_in (replies.Node id) = Some id
node_in reply = None

abbrev pub id_of : Values → Option NodeId
id_of (File values) = Some (record { 0 = values.id })
id_of (Dir values) = Some (record { 0 = values.id })
id_of (Volume values) = None

abbrev pub found_id_in : Reply → Option NodeId
found_id_in (replies.FileDirParams bits dir_bits values) = id_of values
found_id_in reply = None

abbrev pub fork_in : Reply → Option ForkRef
fork_in (replies.Opened bits reference values) = Some reference
fork_in reply = None

abbrev pub rows_in : Reply → Option (List ListEntry)
rows_in (replies.List wide file_bits dir_bits rows) = Some rows
rows_in reply = None

abbrev pub piece_in : Reply → Option (List ℕ)
piece_in (replies.Piece piece) = Some piece
piece_in reply = None

-- ---- the volumes

abbrev pub opened_source : Standing → Code → Reply → Next
opened_source w c reply = must c From root (needs From (volume_in reply) (λ volume. goes (record w { from_volume = volume; stage = stages.OpensTarget })))

abbrev pub opened_target : Standing → Code → Reply → Next
opened_target w c reply = must c To root (needs To (volume_in reply) (λ volume. goes (record w { to_volume = volume; stage = stages.Looks })))

-- ---- forks that are compared

abbrev pub no_fork : ForkRef
no_fork = record { 0 = 0 }

abbrev pub checking_of : ℕ → Checking
checking_of index = record { index = index; resource = false; from = no_fork; to = no_fork; len = 0; data_len = 0 }

abbrev pub line_of : Made → ℕ → ℕ → Line
line_of node data_len resource_len = record { source = node.source; target = node.target; dir = node.dir; data_len = data_len; resource_len = resource_len }

-- the lines of directories up to the first file, and how many nodes these are
abbrev pub dirs_before : List Made → List Line
dirs_before [] = []
dirs_before (node ∷ nodes) = if node.dir then line_of node 0 0 ∷ dirs_before nodes else []

-- from the nodes from an index on the next file is compared; where there is none, all is done
abbrev pub check_at : Standing → ℕ → Next
check_at w index = if nat_lt index (length w.nodes) then goes (record w { stage = stages.ChecksFrom (checking_of index) }) else ends (done w.lines)

unfoldable pub next_check : Standing → ℕ → Next
next_check w from = let dirs : List Line = dirs_before (drop from w.nodes) in check_at (record w { lines = w.lines ++ dirs }) (from + length dirs)

-- ---- what is set of directories

-- the last directory before an index
abbrev pub is_dir_at : Option Made → Bool
is_dir_at None = false
is_dir_at (Some node) = node.dir

abbrev pub last_dir : List Made → ℕ → Option ℕ
last_dir nodes zero = None
last_dir nodes (suc index) = if is_dir_at (slice_get nodes index) then Some index else last_dir nodes index

abbrev pub set_or_check : Standing → Option ℕ → Next
set_or_check w None = next_check w 0
set_or_check w (Some index) = goes (record w { stage = stages.SetsDir index })

unfoldable pub next_set : Standing → ℕ → Next
next_set w before = set_or_check w (last_dir w.nodes before)

-- ---- lists

abbrev pub roots : Pair
roots = record { source = root; target = root }

abbrev pub first_place : Place
first_place = record { here = roots; start = 1; next = 0 }

-- the first node of a list
abbrev pub first_of : List ListEntry → Option NodeId
first_of [] = None
first_of (row ∷ rows) = id_of row.values

abbrev pub first_in : Option (List ListEntry) → Option NodeId
first_in None = None
first_in (Some rows) = first_of rows

unfoldable pub looked : Standing → Code → Reply → Next
looked w c reply =
    if is_ok c then needs To (first_in (rows_in reply)) (λ node. ends (not_empty node))
    else if ends_list c then goes (record w { place = first_place; stage = stages.Lists })
    else ends (refused To c root)

-- the index of the first directory from an index on
abbrev pub next_dir : List Made → ℕ → Option ℕ
next_dir [] index = None
next_dir (node ∷ nodes) index = if node.dir then Some index else next_dir nodes (index + 1)

abbrev pub place_at : Option Made → ℕ → Place → Place
place_at None index old = old
place_at (Some node) index old = record { here = record { source = node.source; target = node.target }; start = 1; next = index + 1 }

abbrev pub list_or_set : Standing → Option ℕ → Next
list_or_set w None = next_set w (length w.nodes)
list_or_set w (Some index) = goes (record w { place = place_at (slice_get w.nodes index) index w.place; stage = stages.Lists })

unfoldable pub next_place : Standing → Next
next_place w = list_or_set w (next_dir (drop w.place.next w.nodes) w.place.next)

-- the most nodes that are mirrored
abbrev pub most_nodes : ℕ
most_nodes = 10000

-- an id was told before: of a node that was made, or in this list
abbrev pub was_told : List Made → List Found → NodeId → Bool
was_told nodes page id = list_any (λ (node : Made). node.source.0 == id.0) nodes || list_any (λ (f : Found). f.id.0 == id.0) page

-- a page with one node more
abbrev pub with_found : List Made → List Found → Option Found → Result (List Found) Ended
with_found nodes page None = Err (bad From)
with_found nodes page (Some f) = if was_told nodes page f.id then Err (bad From) else if nat_le most_nodes (length nodes + length page) then Err too_many else Ok (page ++ f ∷ [])

abbrev pub and_then : Result (List Found) Ended → (List Found → Result (List Found) Ended) → Result (List Found) Ended
and_then (Ok page) next = next page
and_then (Err end) next = Err end

-- the nodes of a list's entries, behind these
unfoldable pub page_from : List Made → List Found → List ListEntry → Result (List Found) Ended
page_from nodes page [] = Ok page
page_from nodes page (row ∷ rows) = and_then (with_found nodes page (found_in row.values)) (λ more. page_from nodes more rows)

abbrev pub is_empty : {A : Type 0} → List A → Bool
is_empty [] = true
is_empty (x ∷ xs) = false

abbrev pub with_page : Standing → Result (List Found) Ended → Next
with_page w (Err end) = ends end
with_page w (Ok page) =
    if nat_lt (w.place.start + length page) (2 ^ 32) then goes (record w { place = record w.place { start = w.place.start + length page }; page = page; stage = stages.Makes })
    else ends too_many

unfoldable pub listed_rows : Standing → List ListEntry → Next
listed_rows w rows = if is_empty rows then ends (bad From) else with_page w (page_from w.nodes [] rows)

unfoldable pub listed : Standing → Code → Reply → Next
listed w c reply =
    if is_ok c then needs From (rows_in reply) (listed_rows w)
    else if ends_list c then next_place w
    else ends (refused From c w.place.here.source)

-- ---- nodes that are made

abbrev pub made_of : Pair → Found → NodeId → Made
made_of parent f target = record { source = f.id; target = target; parent = parent; dir = f.dir; name = f.name; settings = f.settings }

-- on to the next node of the page; behind the last one to the next list
abbrev pub lists_or_makes : List Found → Stage
lists_or_makes [] = stages.Lists
lists_or_makes (f ∷ page) = stages.Makes

-- the first node of the page was made
abbrev pub made_first : Standing → NodeId → List Found → Next
made_first w target [] = ends (bad From)
made_first w target (f ∷ page) = goes (record w { nodes = w.nodes ++ made_of w.place.here f target ∷ []; page = page; stage = lists_or_makes page })

unfoldable pub next_made : Standing → NodeId → Next
next_made w target = made_first w target w.page

abbrev pub is_first_dir : List Found → Bool
is_first_dir [] = false
is_first_dir (f ∷ page) = f.dir

unfoldable pub made : Standing → Code → Reply → Next
made w c reply = must c To w.place.here.target (if is_first_dir w.page then needs To (node_in reply) (next_made w) else goes (record w { stage = stages.Finds }))

abbrev pub copying_of : NodeId → Copying
copying_of target = record { target = target; resource = false; from = no_fork; to = no_fork; len = 0 }

unfoldable pub found_file : Standing → Code → Reply → Next
found_file w c reply = must c To w.place.here.target (needs To (found_id_in reply) (λ target. goes (record w { stage = stages.OpensFrom (copying_of target) })))

-- ---- forks that are copied

abbrev pub first_id : List Found → NodeId
first_id [] = root
first_id (f ∷ page) = f.id

unfoldable pub opened_from : Standing → Copying → Code → Reply → Next
opened_from w copying c reply = must c From (first_id w.page) (needs From (fork_in reply) (λ fork. goes (record w { stage = stages.OpensTo (record copying { from = fork }) })))

unfoldable pub opened_to : Standing → Copying → Code → Reply → Next
opened_to w copying c reply = must c To copying.target (needs To (fork_in reply) (λ fork. goes (record w { stage = stages.Reads (record copying { to = fork }) })))

-- The bytes of a read behind so many: of an answer Ok as many as were asked, at the end fewer; and a fork has no more than it may.
abbrev pub has_asked : Bool → List ℕ → Bool
has_asked last piece = if last then nat_lt (length piece) most_piece else (length piece == most_piece)

abbrev pub read_of : Side → ℕ → Bool → (List ℕ → Bool → Next) → List ℕ → Next
read_of side len last next piece =
    if has_asked last piece then (if nat_le (len + length piece) most_fork_bytes then next piece last else ends (bad side))
    else ends (bad side)

-- what a read is told
abbrev pub read_told : Side → NodeId → ℕ → Code → Reply → (List ℕ → Bool → Next) → Next
read_told side node len c reply next =
    if is_ok c then needs side (piece_in reply) (read_of side len false next)
    else if ends_fork c then needs side (piece_in reply) (read_of side len true next)
    else ends (refused side c node)

abbrev pub write_or_close : Copying → List ℕ → Bool → Stage
write_or_close copying piece last = if is_empty piece then stages.ClosesFrom copying else stages.Writes copying last

unfoldable pub read_piece : Standing → Copying → Code → Reply → Next
read_piece w copying c reply = read_told From (first_id w.page) copying.len c reply (λ piece last. goes (record w { piece = piece; stage = write_or_close copying piece last }))

abbrev pub close_or_read : Copying → Bool → Stage
close_or_read copying last = if last then stages.ClosesFrom copying else stages.Reads copying

unfoldable pub written : Standing → Copying → Bool → Code → Next
written w copying last c = must c To copying.target (goes (record w { stage = close_or_read (record copying { len = copying.len + length w.piece }) last }))

unfoldable pub closed_from : Standing → Copying → Code → Next
closed_from w copying c = must c From (first_id w.page) (goes (record w { stage = stages.ClosesTo copying }))

abbrev pub set_or_open : Copying → Stage
set_or_open copying = if copying.resource then stages.SetsFile copying.target else stages.OpensFrom (record copying { resource = true; len = 0 })

unfoldable pub closed_to : Standing → Copying → Code → Next
closed_to w copying c = must c To copying.target (goes (record w { stage = set_or_open copying }))

-- ---- what is set

unfoldable pub set_file : Standing → NodeId → Code → Next
set_file w target c = must c To target (next_made w target)

-- the ids of the node of an index
abbrev pub source_at : Option Made → NodeId
source_at None = root
source_at (Some node) = node.source

abbrev pub target_at : Option Made → NodeId
target_at None = root
target_at (Some node) = node.target

unfoldable pub set_dir : Standing → ℕ → Code → Next
set_dir w index c = must c To (target_at (slice_get w.nodes index)) (next_set w index)

-- ---- forks that are compared

unfoldable pub checked_from : Standing → Checking → Code → Reply → Next
checked_from w checking c reply = must c From (source_at (slice_get w.nodes checking.index)) (needs From (fork_in reply) (λ fork. goes (record w { stage = stages.ChecksTo (record checking { from = fork }) })))

unfoldable pub checked_to : Standing → Checking → Code → Reply → Next
checked_to w checking c reply = must c To (target_at (slice_get w.nodes checking.index)) (needs To (fork_in reply) (λ fork. goes (record w { stage = stages.ReadsFrom (record checking { to = fork }) })))

unfoldable pub read_from : Standing → Checking → Code → Reply → Next
read_from w checking c reply = read_told From (source_at (slice_get w.nodes checking.index)) checking.len c reply (λ piece last. goes (record w { piece = piece; stage = stages.ReadsTo checking last }))

-- the first place at which bytes differ, or how many the shorter ones are
abbrev pub first_difference : List ℕ → List ℕ → ℕ
first_difference [] ys = 0
first_difference (x ∷ xs) [] = 0
first_difference (x ∷ xs) (y ∷ ys) = if x == y then suc (first_difference xs ys) else 0

abbrev pub shut_or_read : Checking → Bool → Stage
shut_or_read checking last = if last then stages.ShutsFrom checking else stages.ReadsFrom checking

-- the target's bytes are the source's, or the forks differ
abbrev pub compared : Standing → Checking → Bool → List ℕ → Bool → Next
compared w checking last piece ended =
    if bytes_eq piece w.piece then goes (record w { stage = shut_or_read (record checking { len = checking.len + length piece }) last })
    else ends (changed (target_at (slice_get w.nodes checking.index)) (checking.len + first_difference w.piece piece))

unfoldable pub read_to : Standing → Checking → Bool → Code → Reply → Next
read_to w checking last c reply = read_told To (target_at (slice_get w.nodes checking.index)) checking.len c reply (compared w checking last)

unfoldable pub shut_from : Standing → Checking → Code → Next
shut_from w checking c = must c From (source_at (slice_get w.nodes checking.index)) (goes (record w { stage = stages.ShutsTo checking }))

abbrev pub lines_with : List Line → Option Made → Checking → List Line
lines_with lines None checking = lines
lines_with lines (Some node) checking = lines ++ line_of node checking.data_len checking.len ∷ []

unfoldable pub shut_to : Standing → Checking → Code → Next
shut_to w checking c = must c To (target_at (slice_get w.nodes checking.index))
    (if checking.resource then next_check (record w { lines = lines_with w.lines (slice_get w.nodes checking.index) checking }) (checking.index + 1)
    else goes (record w { stage = stages.ChecksFrom (record checking { resource = true; len = 0; data_len = checking.len }) }))

-- ---- by where the mirror stands

-- where it stands at first
abbrev pub no_volume : VolumeId
no_volume = record { 0 = 0 }

abbrev pub first : List ℕ → List ℕ → Standing
first source target = record {
  source = source;
  target = target;
  from_volume = no_volume;
  to_volume = no_volume;
  place = first_place;
  nodes = [];
  page = [];
  lines = [];
  piece = [];
  stage = stages.OpensSource;
}

abbrev pub follows_at : Stage → Standing → Code → Reply → Next
follows_at stages.OpensSource w c reply = opened_source w c reply
follows_at stages.OpensTarget w c reply = opened_target w c reply
follows_at stages.Looks w c reply = looked w c reply
follows_at stages.Lists w c reply = listed w c reply
follows_at stages.Makes w c reply = made w c reply
follows_at stages.Finds w c reply = found_file w c reply
follows_at (stages.OpensFrom copying) w c reply = opened_from w copying c reply
follows_at (stages.OpensTo copying) w c reply = opened_to w copying c reply
follows_at (stages.Reads copying) w c reply = read_piece w copying c reply
follows_at (stages.Writes copying last) w c reply = written w copying last c
follows_at (stages.ClosesFrom copying) w c reply = closed_from w copying c
follows_at (stages.ClosesTo copying) w c reply = closed_to w copying c
follows_at (stages.SetsFile target) w c reply = set_file w target c
follows_at (stages.SetsDir index) w c reply = set_dir w index c
follows_at (stages.ChecksFrom checking) w c reply = checked_from w checking c reply
follows_at (stages.ChecksTo checking) w c reply = checked_to w checking c reply
follows_at (stages.ReadsFrom checking) w c reply = read_from w checking c reply
follows_at (stages.ReadsTo checking last) w c reply = read_to w checking last c reply
follows_at (stages.ShutsFrom checking) w c reply = shut_from w checking c
follows_at (stages.ShutsTo checking) w c reply = shut_to w checking c

-- what follows an answer, by its code and its reply
unfoldable pub follows : Standing → Code → Reply → Next
follows w c reply = follows_at w.stage w c reply

-- ---- what is given of it: this, or there is no memory

abbrev pub Gives : Next → Result Standing MirrorEnd → Type 0
Gives next (Ok w) = next ≡ goes w
Gives next (Err (mirror_ends.Done lines)) = next ≡ ends (done lines.items)
Gives next (Err (mirror_ends.Refused side c node)) = next ≡ ends (refused side c node)
Gives next (Err (mirror_ends.NotEmpty node)) = next ≡ ends (not_empty node)
Gives next (Err mirror_ends.TooMany) = next ≡ ends too_many
Gives next (Err (mirror_ends.Bad side)) = next ≡ ends (bad side)
Gives next (Err (mirror_ends.Changed node at_place)) = next ≡ ends (changed node at_place)
Gives next (Err (mirror_ends.Failed side)) = ⊥
Gives next (Err mirror_ends.Memory) = Unit {0}

abbrev pub GivesPage : {V : Type 0} → (V → List Found) → Result (List Found) Ended → Result V MirrorEnd → Type 0
GivesPage items told (Ok page) = told ≡ Ok (items page)
GivesPage items told (Err (mirror_ends.Done lines)) = ⊥
GivesPage items told (Err (mirror_ends.Refused side c node)) = ⊥
GivesPage items told (Err (mirror_ends.NotEmpty node)) = ⊥
GivesPage items told (Err mirror_ends.TooMany) = told ≡ Err too_many
GivesPage items told (Err (mirror_ends.Bad side)) = told ≡ Err (bad side)
GivesPage items told (Err (mirror_ends.Changed node at_place)) = ⊥
GivesPage items told (Err (mirror_ends.Failed side)) = ⊥
GivesPage items told (Err mirror_ends.Memory) = Unit {0}
