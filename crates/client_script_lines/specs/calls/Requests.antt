-- The requests of a script's commands (AFP Reference, "AFP Calls"; their numbers are this profile's).
use Rattle.std.specs.Prelude.{ℕ, ℤ, pos, List, ◌++◌, length}
use Rattle.std.specs.Int.{w32, cast_unsigned}
use Rattle.byteorder.specs.Endian.{big_bytes}
use Rattle.afp_base.specs.declared.ids.ForkRef.{ForkRef}
use Rattle.afp_base.specs.declared.ids.NodeId.{NodeId}
use Rattle.afp_base.specs.declared.ids.VolumeId.{VolumeId}
use Rattle.afp_calls_grammar.specs.declared.grammar.call.Call.{Call}
use Rattle.afp_calls_grammar.specs.declared.grammar.call.Call.TheVariants as calls
use Rattle.client_script_lines.specs.calls.Places.{root, place}

-- the bits that are asked: of a volume its id; of a file or a directory its id, and its name in UTF-8
abbrev pub volume_id_bit : ℕ
volume_id_bit = 0x20

abbrev pub node_id_bit : ℕ
node_id_bit = 0x100

abbrev pub name_bit : ℕ
name_bit = 0x2000

-- of a file its three dates and its Finder information; and these with its name in UTF-8
abbrev pub settings_bits : ℕ
settings_bits = 0x3c

abbrev pub shown_bits : ℕ
shown_bits = 0x203c

-- the flag of a resource fork
abbrev pub resource_flag : ℕ
resource_flag = 0x80

-- ways to open a fork: to read; to read and write; to write, with others kept from writing
abbrev pub to_read : ℕ
to_read = 0x01

abbrev pub to_hold : ℕ
to_hold = 0x03

abbrev pub to_put : ℕ
to_put = 0x22

-- an old file goes where a new one is made
abbrev pub hard : ℕ
hard = 0x80

-- the most bytes of one read, and of one list
abbrev pub read_size : ℕ
read_size = 65536

abbrev pub list_size : ℕ
list_size = 65536

-- the most entries of one list
abbrev pub list_count : ℕ
list_count = 64

abbrev pub unlocking : ℕ
unlocking = 1

abbrev pub open_volume : List ℕ → Call
open_volume name = calls.OpenVol volume_id_bit name

abbrev pub create_dir : VolumeId → List ℕ → Call
create_dir volume path = calls.CreateDir volume root (place path)

abbrev pub create_file : VolumeId → List ℕ → Call
create_file volume path = calls.CreateFile hard volume root (place path)

abbrev pub open_fork : VolumeId → ℕ → List ℕ → Call
open_fork volume mode path = calls.OpenFork 0 volume root 0 mode (place path)

abbrev pub open_resource_fork : VolumeId → ℕ → List ℕ → Call
open_resource_fork volume mode path = calls.OpenFork resource_flag volume root 0 mode (place path)

abbrev pub write : ForkRef → List ℕ → Call
write reference piece = calls.Write 0 reference (pos 0) (length piece) piece

abbrev pub read : ForkRef → ℕ → Call
read reference from = calls.Read reference (pos from) read_size 0 0

abbrev pub close_fork : ForkRef → Call
close_fork reference = calls.CloseFork reference

abbrev pub list : VolumeId → List ℕ → ℕ → Call
list volume path start = calls.EnumerateExt2 volume root 0x2100 0x2100 list_count start list_size (place path)

abbrev pub move_to : VolumeId → List ℕ → List ℕ → List ℕ → Call
move_to volume path target name = calls.MoveAndRename volume root root (place path) (place target) (place name)

abbrev pub copy_to : VolumeId → List ℕ → List ℕ → List ℕ → Call
copy_to volume path target name = calls.CopyFile volume root volume root (place path) (place target) (place name)

abbrev pub exchange : VolumeId → List ℕ → List ℕ → Call
exchange volume path target = calls.ExchangeFiles volume root root (place path) (place target)

abbrev pub delete : VolumeId → List ℕ → Call
delete volume path = calls.Delete volume root (place path)

abbrev pub lock : ForkRef → ℕ → ℕ → Call
lock reference from size = calls.ByteRangeLockExt 0 reference (pos from) (pos size)

abbrev pub unlock : ForkRef → ℕ → ℕ → Call
unlock reference from size = calls.ByteRangeLockExt unlocking reference (pos from) (pos size)

abbrev pub get_id : VolumeId → List ℕ → Call
get_id volume path = calls.GetFileDirParms volume root node_id_bit node_id_bit (place path)

-- what is shown of a file; of a directory its id alone
abbrev pub get_shown : VolumeId → List ℕ → Call
get_shown volume path = calls.GetFileDirParms volume root shown_bits node_id_bit (place path)

-- the bytes of a file's dates and its Finder information
abbrev pub date_bytes : ℤ → List ℕ
date_bytes date = big_bytes 4 (cast_unsigned w32 date)

abbrev pub settings_of : ℤ → ℤ → ℤ → List ℕ → List ℕ
settings_of created modified backup finder = date_bytes created ++ date_bytes modified ++ date_bytes backup ++ finder

abbrev pub set_file : VolumeId → List ℕ → List ℕ → Call
set_file volume path settings = calls.SetFileParms volume root settings_bits (place path) settings

abbrev pub resolve : VolumeId → NodeId → Call
resolve volume id = calls.ResolveID volume id name_bit

abbrev pub open_desk : VolumeId → Call
open_desk volume = calls.OpenDT volume

abbrev pub add_comment : ℕ → List ℕ → List ℕ → Call
add_comment dt path text = calls.AddComment dt root (place path) text

abbrev pub get_comment : ℕ → List ℕ → Call
get_comment dt path = calls.GetComment dt root (place path)
