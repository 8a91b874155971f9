-- What a mirror that is Done has read back last (this profile; the calls are those of the AFP Reference).
use Rattle.std.specs.Prelude.{◌≡◌, ℕ, ◌+◌, Bool, true, false, List, [], ◌∷◌, ◌++◌, length, Option, Some, None}
use Rattle.afp_base.specs.declared.code.Code.{Code}
use Rattle.afp_base.specs.declared.ids.ForkRef.{ForkRef}
use Rattle.afp_base.specs.declared.ids.NodeId.{NodeId}
use Rattle.afp_base.specs.declared.ids.VolumeId.{VolumeId}
use Rattle.afp_calls_grammar.specs.declared.grammar.call.Call.{Call}
use Rattle.afp_replies.specs.declared.list.ListEntry.{ListEntry}
use Rattle.afp_replies.specs.declared.reply.Reply.{Reply}
use Rattle.afp_mirror_walk.specs.Asks.{close, open_fork, open_volume, read}
use Rattle.afp_mirror_walk.specs.Follows.{done, ends, ends_fork, first, fork_in, goes, is_ok, piece_in, volume_in}
use Rattle.afp_mirror_walk.specs.Settings.{found_in}
use Rattle.afp_mirror_walk.specs.declared.walk.ends.Line.{Line}
use Rattle.afp_mirror_walk.specs.declared.walk.ends.Side.{Side}
use Rattle.afp_mirror_walk.specs.declared.walk.ends.Side.TheVariants.{From, To}
use Rattle.afp_mirror_walk.specs.declared.walk.standing.Found.{Found}
use Rattle.afp_mirror.specs.Runs.{Leads, Turn}
use Rattle.afp_mirror_laws.specs.Swept.{Listing, lists_of}

-- A node that a list of the source gave: in which directory, its id, whether it is one, and its name.
pub record Child : Type 0 where
  pub parent : NodeId
  pub id : NodeId
  pub dir : Bool
  pub name : List ℕ

-- the nodes that lists gave, in their order
abbrev pub child_of : NodeId → Found → Child
child_of parent f = record { parent = parent; id = f.id; dir = f.dir; name = f.name }

abbrev pub with_child : NodeId → Option Found → List Child → List Child
with_child parent None children = children
with_child parent (Some f) children = child_of parent f ∷ children

abbrev pub children_of : NodeId → List ListEntry → List Child
children_of parent [] = []
children_of parent (row ∷ rows) = with_child parent (found_in row.values) (children_of parent rows)

abbrev pub children_by : NodeId → Option (List ListEntry) → List Child
children_by parent None = []
children_by parent (Some rows) = children_of parent rows

abbrev pub children_in : List Listing → List Child
children_in [] = []
children_in (l ∷ lists) = children_by l.dir l.rows ++ children_in lists

-- A turn asks this of a side, and is told Ok.
pub record IsCalled (t : Turn) (side : Side) (call : Call) : Type 0 where
  pub side_is : t.side ≡ side
  pub call_is : t.call ≡ call
  pub ok : is_ok t.answer.code ≡ true

abbrev pub fork_told : Option Reply → Option ForkRef
fork_told None = None
fork_told (Some reply) = fork_in reply

-- A turn opens a fork of the node of a name, and is told this reference.
pub record Opens (t : Turn) (side : Side) (volume : VolumeId) (parent : NodeId) (name : List ℕ) (resource : Bool) (fork : ForkRef) : Type 0 where
  pub mode : ℕ
  pub called : IsCalled t side (open_fork resource volume mode parent name)
  pub told : fork_told t.reply ≡ Some fork

abbrev pub piece_told : Option Reply → Option (List ℕ)
piece_told None = None
piece_told (Some reply) = piece_in reply

abbrev pub is_last_by : Bool → Code → Bool
is_last_by true c = ends_fork c
is_last_by false c = is_ok c

-- A turn reads an open fork from an offset on, and is told these bytes; the last ones with EOFErr.
pub record Reads (t : Turn) (side : Side) (fork : ForkRef) (offset : ℕ) (piece : List ℕ) (last : Bool) : Type 0 where
  pub side_is : t.side ≡ side
  pub call_is : t.call ≡ read fork offset
  pub code_is : is_last_by last t.answer.code ≡ true
  pub told : piece_told t.reply ≡ Some piece

-- what the source's read was told, where the target's has still to come
pub data Half : Type 0 where
  none : Half
  half : List ℕ → Bool → Half

abbrev pub IfLast : Bool → Type 0 → Type 0 → Type 0
IfLast true end more = end
IfLast false end more = more

-- From an offset on the turns read both forks, piece by piece, and both are told the same; behind EOFErr this holds, of how many bytes these were.
abbrev pub ReadsSame : Half → ForkRef → ForkRef → ℕ → (ℕ → List Turn → Type 0) → List Turn → Type 0
ReadsSame h from to len next [] = ⊥
ReadsSame none from to len next (t ∷ turns) = (piece : List ℕ) × (last : Bool) × Reads t From from len piece last × ReadsSame (half piece last) from to len next turns
ReadsSame (half piece last) from to len next (t ∷ turns) = Reads t To to len piece last × IfLast last (next (len + length piece) turns) (ReadsSame none from to (len + length piece) next turns)

abbrev pub Then : List Turn → (Turn → List Turn → Type 0) → Type 0
Then [] next = ⊥
Then (t ∷ turns) next = next t turns

-- both forks are closed, and this holds behind it
abbrev pub Closes : ForkRef → ForkRef → (List Turn → Type 0) → List Turn → Type 0
Closes from to next turns = Then turns (λ t more. IsCalled t From (close from) × Then more (λ u rest. IsCalled u To (close to) × next rest))

-- the source's fork is open: the target's is opened too, both are read to their ends, as many bytes as these, and closed
abbrev pub ReadsOpened : VolumeId → Child → Bool → ForkRef → ℕ → (List Turn → Type 0) → List Turn → Type 0
ReadsOpened to_volume child resource from len next turns = Then turns (λ t rest. (parent : NodeId) × (to : ForkRef) × Opens t To to_volume parent child.name resource to × ReadsSame none from to 0 (λ count left. (count ≡ len) × Closes from to next left) rest)

-- a fork of a node is read back
abbrev pub ReadsFork : VolumeId → VolumeId → Child → Bool → ℕ → (List Turn → Type 0) → List Turn → Type 0
ReadsFork from_volume to_volume child resource len next turns = Then turns (λ t rest. (from : ForkRef) × Opens t From from_volume child.parent child.name resource from × ReadsOpened to_volume child resource from len next rest)

abbrev pub IfDir : Bool → Type 0 → Type 0 → Type 0
IfDir true dir file = dir
IfDir false dir file = file

-- The turns read back these nodes, one after the other: of each file the data fork, then the resource fork, of the lengths that its line says; and
-- nothing else is asked.
abbrev pub ReadsBack : VolumeId → VolumeId → List Child → List Line → List Turn → Type 0
ReadsBack from_volume to_volume [] [] turns = turns ≡ []
ReadsBack from_volume to_volume [] (line ∷ lines) turns = ⊥
ReadsBack from_volume to_volume (child ∷ children) [] turns = ⊥
ReadsBack from_volume to_volume (child ∷ children) (line ∷ lines) turns = (child.id ≡ line.source) × (child.dir ≡ line.dir) × IfDir line.dir
    (ReadsBack from_volume to_volume children lines turns)
    (ReadsFork from_volume to_volume child false line.data_len (λ more. ReadsFork from_volume to_volume child true line.resource_len (λ rest. ReadsBack from_volume to_volume children lines rest) more) turns)

-- Turns end with such as read these nodes back.
pub record EndsBack (from_volume to_volume : VolumeId) (children : List Child) (lines : List Line) (turns : List Turn) : Type 0 where
  pub before : List Turn
  pub after : List Turn
  pub turns_are : turns ≡ before ++ after
  pub back : ReadsBack from_volume to_volume children lines after

abbrev pub volume_told : Option Reply → Option VolumeId
volume_told None = None
volume_told (Some reply) = volume_in reply

-- Turns begin with the opening of the volumes of these names, and are told these ids.
abbrev pub OpensTarget : List ℕ → VolumeId → List Turn → Type 0
OpensTarget target to_volume turns = Then turns (λ t rest. IsCalled t To (open_volume target) × (volume_told t.reply ≡ Some to_volume))

abbrev pub OpensBoth : List ℕ → List ℕ → VolumeId → VolumeId → List Turn → Type 0
OpensBoth source target from_volume to_volume turns = Then turns (λ t rest. IsCalled t From (open_volume source) × (volume_told t.reply ≡ Some from_volume) × OpensTarget target to_volume rest)

-- Turns open two volumes, and end with such as read these nodes of theirs back.
pub record HasReadBack (source target : List ℕ) (children : List Child) (lines : List Line) (turns : List Turn) : Type 0 where
  pub from_volume : VolumeId
  pub to_volume : VolumeId
  pub opened : OpensBoth source target from_volume to_volume turns
  pub ended : EndsBack from_volume to_volume children lines turns

-- the law: at Done the last turns read back each node that the source's lists gave
abbrev pub DoneHasReadBack : Type 0
DoneHasReadBack = (source target : List ℕ) (turns : List Turn) (lines : List Line) → Leads (goes (first source target)) turns (ends (done lines)) → HasReadBack source target (children_in (lists_of turns)) lines turns
