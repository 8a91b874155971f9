-- Which replies some bytes show, in the terms of their fields.
use Rattle.std.specs.Prelude.{◌≡◌, ℕ, ◌^◌, ◌<◌, ◌≤◌, Bool, true, false, List, length, Option, Some, None, FitsSigned}
use Rattle.std.specs.Int.{w32}
use Rattle.std.specs.List.{AllByRecursion}
use Rattle.afp_bitmap.specs.declared.params.Values.{Values}
use Rattle.afp_bitmap.specs.Bits.{IsWithin, mask_of, file_mask, dir_mask, is_asked}
use Rattle.afp_bitmap.specs.Params.{IsAnswer}
use Rattle.afp_bitmap.specs.Table.{kind_of}
use Rattle.afp_replies.specs.declared.list.ListEntry.{ListEntry}
use Rattle.afp_replies.specs.declared.volumes.VolumeEntry.{VolumeEntry}
use Rattle.afp_replies.specs.declared.reply.Reply.{Reply}
use Rattle.afp_replies.specs.declared.reply.Reply.TheVariants.{Empty, Start, StartExt, End, EndExt, Node, Params, Status, ServerParams, MappedName, MappedId, Opened, Piece, FileDirParams, UserInfo, Message, Desk, IconInfo, Appl, Comment, Token}
use Rattle.afp_replies.specs.declared.reply.Reply.TheVariants as replies
use Rattle.afp_replies.specs.Numbers.{file_kind, user_info_mask, user_id_bit, group_id_bit, message_mask, message_bit, utf8_bit}
use Rattle.afp_replies.specs.Bytes.{width}
use Rattle.afp_replies.specs.Entry.{IsNode, FitsEntry}

-- a number is there where it is asked, and nowhere else
abbrev pub FitsOptional : Bool → Option ℕ → Type 0
FitsOptional true (Some x) = x < 256 ^ 4
FitsOptional true None = ⊥
FitsOptional false (Some x) = ⊥
FitsOptional false None = Unit {0}

-- a text is there where it is asked, and its count can hold it
abbrev pub FitsText : Bool → Bool → Option (List ℕ) → Type 0
FitsText wide true (Some text) = length text < 256 ^ width wide
FitsText wide true None = ⊥
FitsText wide false (Some text) = ⊥
FitsText wide false None = Unit {0}

-- a volume of a server
abbrev pub FitsVolume : VolumeEntry → Type 0
FitsVolume v = (v.flags < 256 ^ 1) × (length v.name < 256 ^ 1)

-- the entries of a list
pub record FitsList (wide : Bool) (file_bits dir_bits : ℕ) (rows : List ListEntry) : Type 0 where
  pub few : length rows < 256 ^ 2
  pub file : IsWithin file_mask file_bits
  pub dir : IsWithin dir_mask dir_bits
  pub each : AllByRecursion (FitsEntry wide file_bits dir_bits) rows

-- the values of a kind that these bits ask for
pub record FitsValues (kind bits : ℕ) (v : Values) : Type 0 where
  pub within : IsWithin (mask_of kind) bits
  pub answer : IsAnswer kind bits v

-- Numbers fit their fields, counts can hold their texts and lists, and values are those that their bits ask for (this profile).
abbrev pub FitsReply : Reply → Type 0
FitsReply Empty = Unit {0}
FitsReply (Start start) = start < 256 ^ 4
FitsReply (StartExt start) = start < 256 ^ 8
FitsReply (End end) = end < 256 ^ 4
FitsReply (EndExt end) = end < 256 ^ 8
FitsReply (Node id) = id.0 < 256 ^ 4
FitsReply (replies.List wide file_bits dir_bits rows) = FitsList wide file_bits dir_bits rows
FitsReply (Params bits values) = (kind_of values ≤ file_kind) × FitsValues (kind_of values) bits values
FitsReply (Status block) = Unit {0}
FitsReply (ServerParams time volumes) = FitsSigned w32 time × (length volumes < 256 ^ 1) × AllByRecursion FitsVolume volumes
FitsReply (MappedName wide name) = length name < 256 ^ width wide
FitsReply (MappedId id) = id < 256 ^ 4
FitsReply (Opened bits reference values) = (reference.0 < 256 ^ 2) × FitsValues file_kind bits values
FitsReply (Piece piece) = Unit {0}
FitsReply (FileDirParams file_bits dir_bits values) = IsWithin file_mask file_bits × IsWithin dir_mask dir_bits × IsNode file_bits dir_bits values
FitsReply (UserInfo bits id group) = IsWithin user_info_mask bits × FitsOptional (is_asked bits user_id_bit) id × FitsOptional (is_asked bits group_id_bit) group
FitsReply (Message kind bits message) = (kind < 256 ^ 2) × IsWithin message_mask bits × FitsText (is_asked bits utf8_bit) (is_asked bits message_bit) message
FitsReply (Desk dt) = dt < 256 ^ 2
FitsReply (IconInfo tag kind icon_kind size) = (tag < 256 ^ 4) × (length kind ≡ 4) × (icon_kind < 256 ^ 1) × (size < 256 ^ 2)
FitsReply (Appl bits tag values) = (tag < 256 ^ 4) × FitsValues file_kind bits values
FitsReply (Comment comment) = length comment < 256 ^ 1
FitsReply (Token token) = length token < 256 ^ 4
