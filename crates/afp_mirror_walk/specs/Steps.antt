-- What a served call does to the world (this profile).
use Rattle.std.specs.Prelude.{◌≡◌, ◌≢◌, ◌≤◌, ◌==◌, ℕ, ◌+◌, max, nat_lt, Bool, true, false, List, [], length, take, Option, Some, None, option_map, Ok, bit_and}
use Rattle.afp_base.specs.Cached.{Answer}
use Rattle.afp_base.specs.declared.code.Code.{Code}
use Rattle.afp_base.specs.declared.code.Code.TheVariants as code
use Rattle.afp_base.specs.ForkBytes.{splice, taken}
use Rattle.afp_base.specs.declared.ids.ForkRef.{ForkRef}
use Rattle.afp_base.specs.declared.ids.NodeId.{NodeId}
use Rattle.afp_base.specs.declared.ids.VolumeId.{VolumeId}
use Rattle.afp_calls_grammar.specs.declared.grammar.call.Call.{Call}
use Rattle.afp_calls_grammar.specs.declared.grammar.call.Call.TheVariants as calls
use Rattle.afp_replies.specs.Replies.{Shows}
use Rattle.afp_serial.specs.ReplyKinds.{reply_kind}
use Rattle.afp_serial.specs.Rows.{effect, refusal}
use Rattle.afp_serial.specs.Enumerate.{enumerate_reply}
use Rattle.afp_serial.specs.OnVolume.{opened_on}
use Rattle.afp_serial.specs.World.{Session, World, at_moment, session_at, user_of, volume_at}
use Rattle.volume_spec.specs.Enumerate.{ListAsked, asked_wide, enumerate_refusal}
use Rattle.volume_spec.specs.TreeSteps.{TreeCall, tree_effect, tree_refusal}
use Rattle.volume_spec.specs.TreeSteps as trees
use Rattle.volume_spec.specs.VolumeState.{Row, VolumeState, new_row}
use Rattle.afp_replies.specs.declared.reply.Reply.TheVariants.{Piece}
use Rattle.afp_serial.specs.OnFork.{OpenFile, bytes_of, open_file, with_bytes}
use Rattle.afp_mirror_walk.specs.Asks.{close, create, find_file, list, list_bits, list_count, list_size, open_fork, open_volume, place_of, read, set_bits, set_file, write}
use Rattle.afp_mirror_walk.specs.Standing.{most_piece}
use Rattle.afp_names.specs.Name.{IsName, name_key}
use Rattle.volume_spec.specs.Edits.{change_at, modified_at}
use Rattle.volume_spec.specs.SetFileDirParms.{settable}
use Rattle.volume_spec.specs.SoundVolume.{is_formed}
use Rattle.volume_spec.specs.TypedVolume.{is_typed_row}
use Rattle.volume_spec.specs.Walk.{child_by_key, found, row_at}
use Rattle.afp_mirror_walk.specs.Settled.{IsSettled}
use Rattle.afp_mirror_walk.specs.Settings.{attributes_word, settings_of}
use Rattle.afp_mirror_walk.specs.declared.walk.standing.Settings.{Settings}
use Rattle.afp_mirror_walk.specs.Ports.{Home, Serves, IsHome}

-- A call that is told Ok: its row refuses nothing at that moment, the block shows the row's reply, and volumes, open forks and locks are those of its effect.
pub record RunsOk (h : Home) (call : Call) (block : List ℕ) (g : Home) : Type 0 where
  pub now : ℕ
  pub session : Session
  pub attached : session_at h.world h.link ≡ Some session
  pub passes : refusal (at_moment h.world now) session call ≡ None
  pub shows : Shows (effect (at_moment h.world now) session call).reply (reply_kind call) code.Ok block
  pub volumes : g.world.volumes ≡ (effect (at_moment h.world now) session call).world.volumes
  pub opens : g.world.opens ≡ (effect (at_moment h.world now) session call).world.opens
  pub locks : g.world.locks ≡ (effect (at_moment h.world now) session call).world.locks
  pub house : g.world.house ≡ (effect (at_moment h.world now) session call).world.house

-- the law: what is served Ok is the effect of its row
abbrev pub ServedOkRuns : Type 0
ServedOkRuns = (h g : Home) (call : Call) (a : Answer) → IsHome h → Serves h call a g → a.code ≡ code.Ok → RunsOk h call a.block g

-- what a list of a mirror asks, in a session
abbrev pub list_asked : Session → ℕ → ListAsked
list_asked s start = asked_wide (user_of s) list_bits list_bits list_count start list_size

-- A list that is told Ok: the volume is there, the list is not refused, its block shows the entries, and no volume changes.
pub record ListsOk (h : Home) (volume dir start : ℕ) (block : List ℕ) (g : Home) : Type 0 where
  pub now : ℕ
  pub session : Session
  pub attached : session_at h.world h.link ≡ Some session
  pub v : VolumeState
  pub there : volume_at h.world.volumes volume ≡ Some v
  pub passes : enumerate_refusal v (opened_on (at_moment h.world now) volume) (list_asked session start) dir (place_of []) ≡ None
  pub shows : Shows (enumerate_reply v (opened_on (at_moment h.world now) volume) (list_asked session start) dir (place_of [])) (reply_kind (list (record { 0 = volume }) (record { 0 = dir }) start)) code.Ok block
  pub stays : g.world.volumes ≡ h.world.volumes

-- A change of the tree that is told Ok: the volume is there and refuses nothing, and it is as the call leaves it; all other volumes are as before.
pub record ChangesOk (h : Home) (volume : ℕ) (tree : TreeCall) (g : Home) : Type 0 where
  pub now : ℕ
  pub session : Session
  pub attached : session_at h.world h.link ≡ Some session
  pub v : VolumeState
  pub there : volume_at h.world.volumes volume ≡ Some v
  pub passes : tree_refusal v (user_of session) (opened_on (at_moment h.world now) volume) tree ≡ None
  pub after : volume_at g.world.volumes volume ≡ Some (tree_effect v (user_of session) (max h.world.latest now) tree)
  pub others : (other : ℕ) → other ≢ volume → volume_at g.world.volumes other ≡ volume_at h.world.volumes other

-- the laws of the calls that a mirror asks
abbrev pub ListsRun : Type 0
ListsRun = (h g : Home) (volume : VolumeId) (dir : NodeId) (start : ℕ) (block : List ℕ) → RunsOk h (list volume dir start) block g → ListsOk h volume.0 dir.0 start block g

abbrev pub DirsAreMade : Type 0
DirsAreMade = (h g : Home) (volume : VolumeId) (parent : NodeId) (name block : List ℕ) → RunsOk h (create true volume parent name) block g → ChangesOk h volume.0 (trees.CreateDir parent.0 (place_of name)) g

abbrev pub FilesAreMade : Type 0
FilesAreMade = (h g : Home) (volume : VolumeId) (parent : NodeId) (name block : List ℕ) → RunsOk h (create false volume parent name) block g → ChangesOk h volume.0 (trees.CreateFile false parent.0 (place_of name)) g

abbrev pub FilesAreSet : Type 0
FilesAreSet = (h g : Home) (volume : VolumeId) (parent : NodeId) (name rest block : List ℕ) → RunsOk h (calls.SetFileParms volume parent set_bits (place_of name) rest) block g → ChangesOk h volume.0 (trees.SetFileParms parent.0 set_bits (place_of name) rest) g

abbrev pub DirsAreSet : Type 0
DirsAreSet = (h g : Home) (volume : VolumeId) (dir : NodeId) (rest block : List ℕ) → RunsOk h (calls.SetDirParms volume dir set_bits (place_of []) rest) block g → ChangesOk h volume.0 (trees.SetDirParms dir.0 set_bits (place_of []) rest) g

-- the law: what is told any other code leaves all volumes and open forks
abbrev pub RefusedStays : Type 0
RefusedStays = (h g : Home) (call : Call) (a : Answer) → IsHome h → Serves h call a g → a.code ≢ code.Ok → (g.world.volumes ≡ h.world.volumes) × (g.world.opens ≡ h.world.opens)

-- A read that is told Ok: the fork is open in the session, the block shows all that was asked, from that place on, and no volume changes.
pub record ReadsOk (h : Home) (reference : ForkRef) (offset : ℕ) (block : List ℕ) (g : Home) : Type 0 where
  pub now : ℕ
  pub session : Session
  pub attached : session_at h.world h.link ≡ Some session
  pub f : OpenFile
  pub held : open_file (at_moment h.world now) session reference.0 ≡ Some f
  pub whole : length (taken (bytes_of f) offset most_piece) ≡ most_piece
  pub shows : Shows (Piece (taken (bytes_of f) offset most_piece)) (reply_kind (read reference offset)) code.Ok block
  pub stays : g.world.volumes ≡ h.world.volumes

abbrev pub ReadsRun : Type 0
ReadsRun = (h g : Home) (reference : ForkRef) (offset : ℕ) (block : List ℕ) → RunsOk h (read reference offset) block g → ReadsOk h reference offset block g

-- A write that is told Ok: the fork is open in the session, and has the piece at that place.
pub record WritesOk (h : Home) (reference : ForkRef) (offset : ℕ) (piece : List ℕ) (g : Home) : Type 0 where
  pub now : ℕ
  pub session : Session
  pub attached : session_at h.world h.link ≡ Some session
  pub f : OpenFile
  pub held : open_file (at_moment h.world now) session reference.0 ≡ Some f
  pub after : g.world.volumes ≡ (with_bytes (at_moment h.world now) f (nat_lt 0 (length piece)) (splice (bytes_of f) offset piece)).volumes

abbrev pub WritesRun : Type 0
WritesRun = (h g : Home) (reference : ForkRef) (offset : ℕ) (piece block : List ℕ) → RunsOk h (write reference offset piece) block g → WritesOk h reference offset piece g

-- a fork that is opened or closed changes no volume
abbrev pub OpensStay : Type 0
OpensStay = (h g : Home) (resource : Bool) (volume : VolumeId) (mode : ℕ) (parent : NodeId) (name block : List ℕ) → RunsOk h (open_fork resource volume mode parent name) block g → g.world.volumes ≡ h.world.volumes

abbrev pub ClosesStay : Type 0
ClosesStay = (h g : Home) (reference : ForkRef) (block : List ℕ) → RunsOk h (close reference) block g → g.world.volumes ≡ h.world.volumes

-- so does a volume that is opened, and the finding of a file
abbrev pub OpenVolStays : Type 0
OpenVolStays = (h g : Home) (name block : List ℕ) → RunsOk h (open_volume name) block g → g.world.volumes ≡ h.world.volumes

abbrev pub FindsStay : Type 0
FindsStay = (h g : Home) (volume : VolumeId) (parent : NodeId) (name block : List ℕ) → RunsOk h (find_file volume parent name) block g → g.world.volumes ≡ h.world.volumes

-- the law of a copied piece: where the source's fork was read from a place on, the target's has the source's bytes up to that place, and the piece is written there, the target's has them up to the end of the piece
abbrev pub CopiesPiece : Type 0
CopiesPiece = (h g k l : Home) (from to : ForkRef) (offset : ℕ) (piece block : List ℕ) → (r : ReadsOk h from offset block g) → (w : WritesOk k to offset piece l)
    → piece ≡ taken (bytes_of r.f) offset most_piece → bytes_of w.f ≡ take offset (bytes_of r.f)
    → (l.world.volumes ≡ (with_bytes (at_moment k.world w.now) w.f true (take (offset + most_piece) (bytes_of r.f))).volumes) × (offset + most_piece ≤ length (bytes_of r.f))

-- A directory that is made: it is there under the id that the reply tells, with no attributes, and its volume was there before.
pub record IsMadeDir (h : Home) (volume parent : ℕ) (name block : List ℕ) (g : Home) : Type 0 where
  pub now : ℕ
  pub session : Session
  pub old : VolumeState
  pub new : VolumeState
  pub was : volume_at h.world.volumes volume ≡ Some old
  pub is : volume_at g.world.volumes volume ≡ Some new
  pub free : child_by_key old.rows parent (name_key name) ≡ None
  pub there : row_at new.rows old.next_id ≡ Some (new_row true (user_of session) old.next_id parent name (max h.world.latest now))
  pub others_there : (id : ℕ) → (id == old.next_id) ≡ false → row_at new.rows id ≡ option_map (change_at parent (modified_at (max h.world.latest now))) (row_at old.rows id)
  pub others : (other : ℕ) → other ≢ volume → volume_at g.world.volumes other ≡ volume_at h.world.volumes other

abbrev pub DirIsMade : Type 0
DirIsMade = (h g : Home) (volume : VolumeId) (parent : NodeId) (name block : List ℕ) → IsHome h → IsName name → RunsOk h (create true volume parent name) block g → IsMadeDir h volume.0 parent.0 name block g

-- A file that is made, the same way.
pub record IsMadeFile (h : Home) (volume parent : ℕ) (name : List ℕ) (g : Home) : Type 0 where
  pub now : ℕ
  pub session : Session
  pub old : VolumeState
  pub new : VolumeState
  pub was : volume_at h.world.volumes volume ≡ Some old
  pub is : volume_at g.world.volumes volume ≡ Some new
  pub free : child_by_key old.rows parent (name_key name) ≡ None
  pub there : row_at new.rows old.next_id ≡ Some (new_row false (user_of session) old.next_id parent name (max h.world.latest now))
  pub others_there : (id : ℕ) → (id == old.next_id) ≡ false → row_at new.rows id ≡ option_map (change_at parent (modified_at (max h.world.latest now))) (row_at old.rows id)
  pub others : (other : ℕ) → other ≢ volume → volume_at g.world.volumes other ≡ volume_at h.world.volumes other

abbrev pub FileIsMade : Type 0
FileIsMade = (h g : Home) (volume : VolumeId) (parent : NodeId) (name block : List ℕ) → IsHome h → IsName name → RunsOk h (create false volume parent name) block g → IsMadeFile h volume.0 parent.0 name g

-- What is set of a file that has no attributes, as a list told it of a row of its kind, is what that row has; its forks stay, and so do all other nodes.
pub record IsSetFile (h : Home) (volume id : ℕ) (s t : Row) (g : Home) : Type 0 where
  pub new : VolumeState
  pub now_is : volume_at g.world.volumes volume ≡ Some new
  pub set : Row
  pub there : row_at new.rows id ≡ Some set
  pub settled : IsSettled s set
  pub named : set.name ≡ t.name
  pub placed : set.parent ≡ t.parent
  pub bytes : set.data_fork ≡ t.data_fork
  pub resource : set.resource_fork ≡ t.resource_fork

-- the settings of a row as a list tells them
abbrev pub settings_told : Row → ℕ → Settings
settings_told s told = settings_of (attributes_word (settable s.dir) told) s.created s.modified s.backup s.finder

abbrev pub FileIsSet : Type 0
FileIsSet = (h g : Home) (volume : VolumeId) (parent : NodeId) (name block : List ℕ) (s t : Row) (v : VolumeState) (id told : ℕ)
    → is_formed s ≡ true → is_typed_row s ≡ true → bit_and told (settable s.dir) ≡ s.attributes → t.dir ≡ s.dir → t.attributes ≡ 0
    → RunsOk h (set_file volume parent name (settings_told s told)) block g
    → volume_at h.world.volumes volume.0 ≡ Some v → ((user : ℕ) → (other : ℕ) → found v.rows user parent.0 (place_of name) ≡ Ok other → other ≡ id) → row_at v.rows id ≡ Some t
    → IsSetFile h volume.0 id s t g
