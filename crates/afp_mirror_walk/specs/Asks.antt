-- What a mirror asks, by where it stands (this profile; the calls are those of the AFP Reference).
use Rattle.std.specs.Prelude.{ℕ, pos, Bool, if◌then◌else◌, List, [], ◌∷◌, length, Option, Some, None, slice_get}
use Rattle.afp_base.specs.declared.ids.ForkRef.{ForkRef}
use Rattle.afp_base.specs.declared.ids.NodeId.{NodeId}
use Rattle.afp_base.specs.declared.ids.VolumeId.{VolumeId}
use Rattle.afp_calls_grammar.specs.declared.grammar.call.Call.{Call}
use Rattle.afp_calls_grammar.specs.declared.grammar.call.Call.TheVariants as calls
use Rattle.afp_names.specs.Path.{PathValue, utf8_names, path_steps}
use Rattle.afp_mirror_walk.specs.Settings.{settings_bytes}
use Rattle.afp_mirror_walk.specs.Standing.{Standing, most_piece}
use Rattle.afp_mirror_walk.specs.declared.walk.ends.Side.{Side}
use Rattle.afp_mirror_walk.specs.declared.walk.ends.Side.TheVariants.{From, To}
use Rattle.afp_mirror_walk.specs.declared.walk.standing.Found.{Found}
use Rattle.afp_mirror_walk.specs.declared.walk.standing.Made.{Made}
use Rattle.afp_mirror_walk.specs.declared.walk.standing.Settings.{Settings}
use Rattle.afp_mirror_walk.specs.declared.walk.standing.Stage.{Stage}
use Rattle.afp_mirror_walk.specs.declared.walk.standing.Stage.TheVariants as stages

-- the root of a volume
abbrev pub root : NodeId
root = record { 0 = 2 }

-- the path that goes down to a name; no bytes go nowhere
abbrev pub place_of : List ℕ → PathValue
place_of name = record { kind = utf8_names; steps = path_steps utf8_names name }

-- the bits that a list asks: of files and directories their attributes, three dates, Finder information, ids and names in UTF-8; and those that are set
abbrev pub list_bits : ℕ
list_bits = 0x213d

abbrev pub set_bits : ℕ
set_bits = 0x003d

abbrev pub id_bit : ℕ
id_bit = 0x0100

abbrev pub list_count : ℕ
list_count = 64

abbrev pub list_size : ℕ
list_size = 65536

-- ways to open a fork: to read, with others kept from writing; to write, with others kept from writing; to read
abbrev pub to_copy : ℕ
to_copy = 0x21

abbrev pub to_fill : ℕ
to_fill = 0x22

abbrev pub to_check : ℕ
to_check = 0x01

abbrev pub flag_of : Bool → ℕ
flag_of resource = if resource then 0x80 else 0

abbrev pub open_volume : List ℕ → Call
open_volume name = calls.OpenVol 0x20 name

abbrev pub list : VolumeId → NodeId → ℕ → Call
list volume dir start = calls.EnumerateExt2 volume dir list_bits list_bits list_count start list_size (place_of [])

abbrev pub create : Bool → VolumeId → NodeId → List ℕ → Call
create dir volume parent name = if dir then calls.CreateDir volume parent (place_of name) else calls.CreateFile 0 volume parent (place_of name)

abbrev pub find_file : VolumeId → NodeId → List ℕ → Call
find_file volume parent name = calls.GetFileDirParms volume parent id_bit id_bit (place_of name)

abbrev pub open_fork : Bool → VolumeId → ℕ → NodeId → List ℕ → Call
open_fork resource volume mode parent name = calls.OpenFork (flag_of resource) volume parent 0 mode (place_of name)

abbrev pub read : ForkRef → ℕ → Call
read reference offset = calls.ReadExt reference (pos offset) (pos most_piece)

abbrev pub write : ForkRef → ℕ → List ℕ → Call
write reference offset piece = calls.WriteExt 0 reference (pos offset) (pos (length piece)) piece

abbrev pub close : ForkRef → Call
close reference = calls.CloseFork reference

abbrev pub set_file : VolumeId → NodeId → List ℕ → Settings → Call
set_file volume parent name settings = calls.SetFileParms volume parent set_bits (place_of name) (settings_bytes settings)

abbrev pub set_dir : VolumeId → NodeId → Settings → Call
set_dir volume dir settings = calls.SetDirParms volume dir set_bits (place_of []) (settings_bytes settings)

-- A call, whom it is asked, and the node that it is about: the parent where it makes one.
pub record Asked : Type 0 where
  pub side : Side
  pub call : Call
  pub node : NodeId

abbrev pub asked : Side → Call → NodeId → Asked
asked side call node = record { side = side; call = call; node = node }

-- what is asked about the first node of the page, where it has one, or about the node of an index
abbrev pub of_first : List Found → (Found → Asked) → Option Asked
of_first [] asks = None
of_first (found ∷ page) asks = Some (asks found)

abbrev pub of_node : Option Made → (Made → Asked) → Option Asked
of_node None asks = None
of_node (Some node) asks = Some (asks node)

-- what is asked at a stage
abbrev pub asked_at : Stage → Standing → Option Asked
asked_at stages.OpensSource w = Some (asked From (open_volume w.source) root)
asked_at stages.OpensTarget w = Some (asked To (open_volume w.target) root)
asked_at stages.Looks w = Some (asked To (list w.to_volume root 1) root)
asked_at stages.Lists w = Some (asked From (list w.from_volume w.place.here.source w.place.start) w.place.here.source)
asked_at stages.Makes w = of_first w.page (λ found. asked To (create found.dir w.to_volume w.place.here.target found.name) w.place.here.target)
asked_at stages.Finds w = of_first w.page (λ found. asked To (find_file w.to_volume w.place.here.target found.name) w.place.here.target)
asked_at (stages.OpensFrom copying) w = of_first w.page (λ found. asked From (open_fork copying.resource w.from_volume to_copy w.place.here.source found.name) found.id)
asked_at (stages.OpensTo copying) w = of_first w.page (λ found. asked To (open_fork copying.resource w.to_volume to_fill w.place.here.target found.name) copying.target)
asked_at (stages.Reads copying) w = of_first w.page (λ found. asked From (read copying.from copying.len) found.id)
asked_at (stages.Writes copying last) w = Some (asked To (write copying.to copying.len w.piece) copying.target)
asked_at (stages.ClosesFrom copying) w = of_first w.page (λ found. asked From (close copying.from) found.id)
asked_at (stages.ClosesTo copying) w = Some (asked To (close copying.to) copying.target)
asked_at (stages.SetsFile target) w = of_first w.page (λ found. asked To (set_file w.to_volume w.place.here.target found.name found.settings) target)
asked_at (stages.SetsDir index) w = of_node (slice_get w.nodes index) (λ node. asked To (set_dir w.to_volume node.target node.settings) node.target)
asked_at (stages.ChecksFrom checking) w = of_node (slice_get w.nodes checking.index) (λ node. asked From (open_fork checking.resource w.from_volume to_copy node.parent.source node.name) node.source)
asked_at (stages.ChecksTo checking) w = of_node (slice_get w.nodes checking.index) (λ node. asked To (open_fork checking.resource w.to_volume to_check node.parent.target node.name) node.target)
asked_at (stages.ReadsFrom checking) w = of_node (slice_get w.nodes checking.index) (λ node. asked From (read checking.from checking.len) node.source)
asked_at (stages.ReadsTo checking last) w = of_node (slice_get w.nodes checking.index) (λ node. asked To (read checking.to checking.len) node.target)
asked_at (stages.ShutsFrom checking) w = of_node (slice_get w.nodes checking.index) (λ node. asked From (close checking.from) node.source)
asked_at (stages.ShutsTo checking) w = of_node (slice_get w.nodes checking.index) (λ node. asked To (close checking.to) node.target)

-- what is asked next
unfoldable pub asks : Standing → Option Asked
asks w = asked_at w.stage w
