-- What the replies to a script's calls tell (this profile).
use Rattle.std.specs.Prelude.{ℕ, List, [], Option, Some, None}
use Rattle.afp_base.specs.declared.ids.ForkRef.{ForkRef}
use Rattle.afp_base.specs.declared.ids.VolumeId.{VolumeId}
use Rattle.afp_bitmap.specs.declared.params.Values.{Values}
use Rattle.afp_bitmap.specs.declared.params.Values.TheVariants.{Volume, File, Dir}
use Rattle.afp_replies.specs.declared.reply.Reply.{Reply}
use Rattle.afp_replies.specs.declared.reply.Reply.TheVariants.{Comment, Desk, FileDirParams, Node, Opened, Params, Piece, StartExt}

-- the id of a new directory
abbrev pub node_in : Reply → Option ℕ
node_in (Node id) = Some id.0
node_in reply = None

-- a volume that was opened
abbrev pub opened_volume : Values → Option VolumeId
opened_volume (Volume values) = Some (record { 0 = values.volume })
opened_volume values = None

abbrev pub volume_in : Reply → Option VolumeId
volume_in (Params bits values) = opened_volume values
volume_in reply = None

-- a fork that was opened
abbrev pub fork_in : Reply → Option ForkRef
fork_in (Opened bits reference values) = Some reference
fork_in reply = None

-- the first byte of a lock
abbrev pub start_in : Reply → Option ℕ
start_in (StartExt start) = Some start
start_in reply = None

-- a desktop database
abbrev pub desk_in : Reply → Option ℕ
desk_in (Desk dt) = Some dt
desk_in reply = None

abbrev pub comment_in : Reply → Option (List ℕ)
comment_in (Comment comment) = Some comment
comment_in reply = None

-- the id of a file or a directory
abbrev pub id_of : Values → Option ℕ
id_of (File values) = Some values.id
id_of (Dir values) = Some values.id
id_of (Volume values) = None

abbrev pub id_in : Reply → Option ℕ
id_in (FileDirParams bits dir_bits values) = id_of values
id_in reply = None

-- the name of a file
abbrev pub file_name : Values → Option (List ℕ)
file_name (File values) = Some values.utf8_name
file_name values = None

abbrev pub name_in : Reply → Option (List ℕ)
name_in (Params bits values) = file_name values
name_in reply = None

-- bytes of a fork
abbrev pub piece_in : Reply → List ℕ
piece_in (Piece piece) = piece
piece_in reply = []
