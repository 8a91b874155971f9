-- The rows of the table of a mirror's answers, each with its cause (this profile).
use Rattle.std.specs.Prelude.{◌≡◌, ◌↔◌, ◌⊎◌, ℕ, ◌+◌, ◌≤◌, ◌^◌, nat_le, Bool, true, false, not, ◌&&◌, ◌||◌, List, [], ◌∷◌, ◌++◌, length, Option, Some, None, Ok, slice_get, bytes_eq}
use Rattle.afp_base.specs.Limits.{most_fork_bytes}
use Rattle.afp_base.specs.declared.code.Code.{Code}
use Rattle.afp_base.specs.declared.ids.NodeId.{NodeId}
use Rattle.afp_replies.specs.declared.list.ListEntry.{ListEntry}
use Rattle.afp_replies.specs.declared.reply.Reply.{Reply}
use Rattle.afp_mirror_walk.specs.Asks.{Asked, asks}
use Rattle.afp_mirror_walk.specs.Follows.{bad, changed, ends, ends_fork, first_difference, first_in, follows, fork_in, found_id_in, has_asked, is_first_dir, is_ok, most_nodes, node_in, not_empty, page_from, piece_in, refused, rows_in, target_at, too_many, volume_in, was_told}
use Rattle.afp_mirror_walk.specs.Settings.{found_in}
use Rattle.afp_mirror_walk.specs.Standing.{Fits, Standing}
use Rattle.afp_mirror_walk.specs.Table.{is_aside}
use Rattle.afp_mirror_walk.specs.declared.walk.ends.Side.{Side}
use Rattle.afp_mirror_walk.specs.declared.walk.ends.Side.TheVariants.{From, To}
use Rattle.afp_mirror_walk.specs.declared.walk.standing.Checking.{Checking}
use Rattle.afp_mirror_walk.specs.declared.walk.standing.Found.{Found}
use Rattle.afp_mirror_walk.specs.declared.walk.standing.Made.{Made}
use Rattle.afp_mirror_walk.specs.declared.walk.standing.Stage.{Stage}
use Rattle.afp_mirror_walk.specs.declared.walk.standing.Stage.TheVariants as stages

-- ---- reads

-- the codes with which a read tells bytes
abbrev pub is_told : Code → Bool
is_told c = is_ok c || ends_fork c

-- a read behind so many bytes: told Ok it has as many as were asked, at the end of the fork fewer; and no fork has more than it may
abbrev pub is_read : ℕ → Bool → Option (List ℕ) → Bool
is_read len last None = false
is_read len last (Some piece) = has_asked last piece && nat_le (len + length piece) most_fork_bytes

pub record IsBadRead (len : ℕ) (c : Code) (piece : Option (List ℕ)) : Type 0 where
  pub told : is_told c ≡ true
  pub bad : is_read len (not (is_ok c)) piece ≡ false

-- ---- lists

-- A list of the source comes to an entry behind good ones, of which the page is.
pub record Reaches (nodes : List Made) (rows : List ListEntry) (is_there : List Found → Option Found → Bool) : Type 0 where
  pub before : List ListEntry
  pub row : ListEntry
  pub after : List ListEntry
  pub page : List Found
  pub rows_are : rows ≡ before ++ row ∷ after
  pub good : page_from nodes [] before ≡ Ok page
  pub here : is_there page (found_in row.values) ≡ true

-- its name is none, or its id was given before
abbrev pub is_bad_entry : List Made → List Found → Option Found → Bool
is_bad_entry nodes page None = true
is_bad_entry nodes page (Some f) = was_told nodes page f.id

-- it is the 10,001st node
abbrev pub is_over : List Made → List Found → Option Found → Bool
is_over nodes page None = false
is_over nodes page (Some f) = not (was_told nodes page f.id) && nat_le most_nodes (length nodes + length page)

-- no list was told, or one without an entry, or with a bad one
abbrev pub IsBadList : List Made → Option (List ListEntry) → Type 0
IsBadList nodes None = Unit {0}
IsBadList nodes (Some []) = Unit {0}
IsBadList nodes (Some (row ∷ rows)) = Reaches nodes (row ∷ rows) (is_bad_entry nodes)

-- All entries are good, and the next list would begin behind the last number that a list can begin at.
pub record IsPast (start : ℕ) (nodes : List Made) (rows : List ListEntry) : Type 0 where
  pub page : List Found
  pub good : page_from nodes [] rows ≡ Ok page
  pub past : 2 ^ 32 ≤ start + length page

abbrev pub IsLongList : Standing → Option (List ListEntry) → Type 0
IsLongList w None = ⊥
IsLongList w (Some []) = ⊥
IsLongList w (Some (row ∷ rows)) = Reaches w.nodes (row ∷ rows) (is_over w.nodes) ⊎ IsPast w.place.start w.nodes (row ∷ rows)

-- ---- the rows, by where the mirror stands

-- a call was told Ok, without the value that it is asked for
abbrev pub Lacks : {A : Type 0} → Side → Side → Code → Option A → Type 0
Lacks side other c value = (side ≡ other) × (is_ok c ≡ true) × (value ≡ None)

abbrev pub IsBad : Stage → Standing → Code → Reply → Side → Type 0
IsBad stages.OpensSource w c reply side = Lacks side From c (volume_in reply)
IsBad stages.OpensTarget w c reply side = Lacks side To c (volume_in reply)
IsBad stages.Looks w c reply side = Lacks side To c (first_in (rows_in reply))
IsBad stages.Lists w c reply side = (side ≡ From) × (is_ok c ≡ true) × IsBadList w.nodes (rows_in reply)
IsBad stages.Makes w c reply side = Lacks side To c (node_in reply) × (is_first_dir w.page ≡ true)
IsBad stages.Finds w c reply side = Lacks side To c (found_id_in reply)
IsBad (stages.OpensFrom copying) w c reply side = Lacks side From c (fork_in reply)
IsBad (stages.OpensTo copying) w c reply side = Lacks side To c (fork_in reply)
IsBad (stages.Reads copying) w c reply side = (side ≡ From) × IsBadRead copying.len c (piece_in reply)
IsBad (stages.ChecksFrom checking) w c reply side = Lacks side From c (fork_in reply)
IsBad (stages.ChecksTo checking) w c reply side = Lacks side To c (fork_in reply)
IsBad (stages.ReadsFrom checking) w c reply side = (side ≡ From) × IsBadRead checking.len c (piece_in reply)
IsBad (stages.ReadsTo checking last) w c reply side = (side ≡ To) × IsBadRead checking.len c (piece_in reply)
IsBad stage w c reply side = ⊥

-- the target's first list has an entry: its first one's id
abbrev pub IsNotEmpty : Stage → Code → Reply → NodeId → Type 0
IsNotEmpty stages.Looks c reply node = (is_ok c ≡ true) × (first_in (rows_in reply) ≡ Some node)
IsNotEmpty stage c reply node = ⊥

-- a list of the source goes past the 10,000th node
abbrev pub IsTooMany : Stage → Standing → Code → Reply → Type 0
IsTooMany stages.Lists w c reply = (is_ok c ≡ true) × IsLongList w (rows_in reply)
IsTooMany stage w c reply = ⊥

-- The target's bytes of a read are not the source's: the target's id, and the first place that differs, or the lesser length.
pub record Differs (w : Standing) (checking : Checking) (c : Code) (reply : Reply) (node : NodeId) (place : ℕ) : Type 0 where
  pub piece : List ℕ
  pub piece_is : piece_in reply ≡ Some piece
  pub told : is_told c ≡ true
  pub good : is_read checking.len (not (is_ok c)) (Some piece) ≡ true
  pub differs : bytes_eq piece w.piece ≡ false
  pub node_is : node ≡ target_at (slice_get w.nodes checking.index)
  pub place_is : place ≡ checking.len + first_difference w.piece piece

abbrev pub IsChanged : Stage → Standing → Code → Reply → NodeId → ℕ → Type 0
IsChanged (stages.ReadsTo checking last) w c reply node place = Differs w checking c reply node place
IsChanged stage w c reply node place = ⊥

-- a code other than Ok, the two aside that end a list and a fork
abbrev pub IsRefusal : Stage → Code → Type 0
IsRefusal stage c = (is_ok c ≡ false) × (is_aside stage c ≡ false)

-- ---- the laws

-- what a stage speaks of is there
abbrev pub IsFit : Standing → Type 0
IsFit w = Fits w.stage (length w.page) (length w.nodes) (length w.piece)

abbrev pub BadIsExact : Type 0
BadIsExact = (w : Standing) (c : Code) (reply : Reply) (side : Side) → IsFit w → (follows w c reply ≡ ends (bad side)) ↔ IsBad w.stage w c reply side

abbrev pub NotEmptyIsExact : Type 0
NotEmptyIsExact = (w : Standing) (c : Code) (reply : Reply) (node : NodeId) → IsFit w → (follows w c reply ≡ ends (not_empty node)) ↔ IsNotEmpty w.stage c reply node

abbrev pub TooManyIsExact : Type 0
TooManyIsExact = (w : Standing) (c : Code) (reply : Reply) → IsFit w → (follows w c reply ≡ ends too_many) ↔ IsTooMany w.stage w c reply

abbrev pub ChangedIsExact : Type 0
ChangedIsExact = (w : Standing) (c : Code) (reply : Reply) (node : NodeId) (place : ℕ) → IsFit w → (follows w c reply ≡ ends (changed node place)) ↔ IsChanged w.stage w c reply node place

-- a mirror ends Refused by nothing else, and with the side, the code and the node of its call
pub record IsRefusedBy (w : Standing) (c : Code) (side : Side) (code : Code) (node : NodeId) : Type 0 where
  pub refusal : IsRefusal w.stage c
  pub asked : Asked
  pub next : asks w ≡ Some asked
  pub side_is : side ≡ asked.side
  pub code_is : code ≡ c
  pub node_is : node ≡ asked.node

abbrev pub RefusedIsExact : Type 0
RefusedIsExact = (w : Standing) (c : Code) (reply : Reply) (side : Side) (code : Code) (node : NodeId) → IsFit w → (follows w c reply ≡ ends (refused side code node)) ↔ IsRefusedBy w c side code node
