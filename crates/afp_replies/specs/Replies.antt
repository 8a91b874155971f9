-- The bytes of replies.
use Rattle.std.specs.Prelude.{ℕ, Bool, List, [], ◌∷◌, ◌++◌, length, map, Option, Some, None, Result, Ok, Err}
use Rattle.std.specs.Int.{w32, cast_unsigned}
use Rattle.std.specs.List.{concat}
use Rattle.afp_base.specs.declared.code.Code.{Code}
use Rattle.afp_bitmap.specs.Bits.{is_asked}
use Rattle.afp_bitmap.specs.Params.{params}
use Rattle.afp_replies.specs.declared.volumes.VolumeEntry.{VolumeEntry}
use Rattle.afp_replies.specs.declared.reply.Reply.{Reply}
use Rattle.afp_replies.specs.declared.reply.Reply.TheVariants.{Empty, Start, StartExt, End, EndExt, Node, Params, Status, ServerParams, MappedName, MappedId, Opened, Piece, FileDirParams, UserInfo, Message, Desk, IconInfo, Appl, Comment, Token}
use Rattle.afp_replies.specs.declared.reply.Reply.TheVariants as replies
use Rattle.afp_replies.specs.declared.reply.ReplyFault.{ReplyFault}
use Rattle.afp_replies.specs.declared.reply.ReplyFault.TheVariants as faults
use Rattle.afp_replies.specs.declared.reply.ReplyKind.{ReplyKind}
use Rattle.afp_replies.specs.Numbers.{utf8_bit}
use Rattle.afp_replies.specs.Bytes.{u8_bytes, u16_bytes, u32_bytes, u64_bytes, optional_bytes, pad_byte, with_count, flag_of, width}
use Rattle.afp_replies.specs.Entry.{is_dir, node_params, entry_bytes}
use Rattle.afp_replies.specs.Layout.{ReplyLayout, Has, StopsAt}
use Rattle.afp_replies.specs.Commands.{shape_of, reply_layout}

-- the layout of a reply to this kind of request with this code
unfoldable pub layout_for : ReplyKind → Code → ReplyLayout
layout_for kind code = reply_layout (shape_of kind.command) code kind

-- the bytes are the reply to this kind of request with this code
abbrev pub Shows : Reply → ReplyKind → Code → List ℕ → Type 0
Shows r kind code bytes = Has (layout_for kind code) r bytes

-- some bytes are the reply
pub record IsShown (r : Reply) : Type 0 where
  pub kind : ReplyKind
  pub code : Code
  pub bytes : List ℕ
  pub shows : Shows r kind code bytes

-- the place where bytes stop being a reply to this kind of request with this code
abbrev pub IsBadReplyAt : ReplyKind → Code → List ℕ → ℕ → Type 0
IsBadReplyAt kind code bytes at = StopsAt (layout_for kind code) 0 bytes at

-- what holds of the place of a fault, where there is one
abbrev pub IfBadReply : Result Reply ReplyFault → (ℕ → Type 0) → Type 0
IfBadReply (Ok r) P = Unit {0}
IfBadReply (Err faults.Memory) P = Unit {0}
IfBadReply (Err (faults.Bad at)) P = P at

-- a volume of the server: flags 1, name
abbrev pub volume_bytes : VolumeEntry → List ℕ
volume_bytes v = u8_bytes v.flags ++ with_count 1 v.name

-- a message with its count in a byte or two, where there is one
abbrev pub message_bytes : Bool → Option (List ℕ) → List ℕ
message_bytes wide None = []
message_bytes wide (Some text) = with_count (width wide) text

-- the fields of a reply in order, as they are written: pads are 0
abbrev pub fields : Reply → List (List ℕ)
fields Empty = []
fields (Start start) = u32_bytes start ∷ []
fields (StartExt start) = u64_bytes start ∷ []
fields (End end) = u32_bytes end ∷ []
fields (EndExt end) = u64_bytes end ∷ []
fields (Node id) = u32_bytes id.0 ∷ []
fields (replies.List wide file_bits dir_bits rows) = u16_bytes file_bits ∷ u16_bytes dir_bits ∷ u16_bytes (length rows) ∷ map (entry_bytes wide file_bits dir_bits) rows
fields (Params bits values) = u16_bytes bits ∷ params bits values ∷ []
fields (Status block) = block ∷ []
fields (ServerParams time volumes) = u32_bytes (cast_unsigned w32 time) ∷ u8_bytes (length volumes) ∷ map volume_bytes volumes
fields (MappedName wide name) = with_count (width wide) name ∷ []
fields (MappedId id) = u32_bytes id ∷ []
fields (Opened bits reference values) = u16_bytes bits ∷ u16_bytes reference.0 ∷ params bits values ∷ []
fields (Piece piece) = piece ∷ []
fields (FileDirParams file_bits dir_bits values) =
    u16_bytes file_bits ∷ u16_bytes dir_bits ∷ (flag_of (is_dir values) ∷ []) ∷ pad_byte ∷ node_params file_bits dir_bits values ∷ []
fields (UserInfo bits id group) = u16_bytes bits ∷ optional_bytes id ∷ optional_bytes group ∷ []
fields (Message kind bits message) = u16_bytes kind ∷ u16_bytes bits ∷ message_bytes (is_asked bits utf8_bit) message ∷ []
fields (Desk dt) = u16_bytes dt ∷ []
fields (IconInfo tag kind icon_kind size) = u32_bytes tag ∷ kind ∷ u8_bytes icon_kind ∷ pad_byte ∷ u16_bytes size ∷ []
fields (Appl bits tag values) = u16_bytes bits ∷ u32_bytes tag ∷ params bits values ∷ []
fields (Comment comment) = with_count 1 comment ∷ []
fields (Token token) = with_count 4 token ∷ []

-- the bytes of a reply, as they are written
abbrev pub canonical_reply : Reply → List ℕ
canonical_reply r = concat (fields r)
