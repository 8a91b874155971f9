-- Which reply a request of a kind has, in the terms of its fields (AFP Reference, "AFP Calls").
use Rattle.std.specs.Prelude.{◌≡◌, ◌⊎◌, ℕ, Bool, true, false, not, List, Some}
use Rattle.afp_base.specs.declared.code.Code.{Code}
use Rattle.afp_base.specs.declared.code.Code.TheVariants as codes
use Rattle.afp_bitmap.specs.declared.params.Values.{Values}
use Rattle.afp_bitmap.specs.declared.params.Values.TheVariants.{Volume, File, Dir}
use Rattle.afp_replies.specs.declared.commands.Shape.{Shape}
use Rattle.afp_replies.specs.declared.commands.Shape.TheVariants as shapes
use Rattle.afp_replies.specs.declared.reply.Reply.{Reply}
use Rattle.afp_replies.specs.declared.reply.Reply.TheVariants.{Empty, Start, StartExt, End, EndExt, Node, Params, Status, ServerParams, MappedName, MappedId, Opened, Piece, FileDirParams, UserInfo, Message, Desk, IconInfo, Appl, Comment, Token}
use Rattle.afp_replies.specs.declared.reply.Reply.TheVariants as replies
use Rattle.afp_replies.specs.declared.reply.ReplyKind.{ReplyKind}
use Rattle.afp_replies.specs.Commands.{shape_of}
use Rattle.afp_replies.specs.Fitting.{FitsReply}
use Rattle.afp_replies.specs.Layouts.{is_wide}

-- the shape of a list with narrow or wide lengths
abbrev pub list_shape : Bool → Shape
list_shape false = shapes.NarrowList
list_shape true = shapes.WideList

-- the shape of values that stand alone: no command has a directory's
abbrev pub values_shape : Values → Shape
values_shape (Volume v) = shapes.VolumeParams
values_shape (File v) = shapes.FileParams
values_shape (Dir v) = shapes.Unlisted

-- a request of this kind, whose reply has this shape, asks for these fields
abbrev pub IsAsked : Shape → ReplyKind → Reply → Type 0
IsAsked shape kind Empty = shape ≡ shapes.Empty
IsAsked shape kind (Start start) = shape ≡ shapes.Start
IsAsked shape kind (StartExt start) = shape ≡ shapes.StartExt
IsAsked shape kind (End end) = shape ≡ shapes.End
IsAsked shape kind (EndExt end) = shape ≡ shapes.EndExt
IsAsked shape kind (Node id) = shape ≡ shapes.Node
IsAsked shape kind (replies.List wide file_bits dir_bits rows) = (shape ≡ list_shape wide) × (file_bits ≡ kind.bits) × (dir_bits ≡ kind.dir_bits)
IsAsked shape kind (Params bits values) = (shape ≡ values_shape values) × (bits ≡ kind.bits)
IsAsked shape kind (Status block) = shape ≡ shapes.Status
IsAsked shape kind (ServerParams time volumes) = shape ≡ shapes.ServerParams
IsAsked shape kind (MappedName wide name) = (shape ≡ shapes.MappedName) × (is_wide kind.bits ≡ Some wide)
IsAsked shape kind (MappedId id) = shape ≡ shapes.MappedId
IsAsked shape kind (Opened bits reference values) = (shape ≡ shapes.Opened) × (bits ≡ kind.bits)
IsAsked shape kind (Piece piece) = (shape ≡ shapes.Data) ⊎ (shape ≡ shapes.Icon)
IsAsked shape kind (FileDirParams file_bits dir_bits values) = (shape ≡ shapes.FileDirParams) × (file_bits ≡ kind.bits) × (dir_bits ≡ kind.dir_bits)
IsAsked shape kind (UserInfo bits id group) = (shape ≡ shapes.UserInfo) × (bits ≡ kind.bits)
IsAsked shape kind (Message message_kind bits message) = (shape ≡ shapes.Message) × (bits ≡ kind.bits)
IsAsked shape kind (Desk dt) = shape ≡ shapes.Desk
IsAsked shape kind (IconInfo tag icon_type icon_kind size) = shape ≡ shapes.IconInfo
IsAsked shape kind (Appl bits tag values) = (shape ≡ shapes.Appl) × (bits ≡ kind.bits)
IsAsked shape kind (Comment comment) = shape ≡ shapes.Comment
IsAsked shape kind (Token token) = shape ≡ shapes.Token

-- where a deny mode forbids it, FPOpenFork is told of the file, with reference 0; all else is told nothing
abbrev pub IsDenied : Shape → ReplyKind → Reply → Type 0
IsDenied shapes.Opened kind r = (values : Values) × (r ≡ Opened kind.bits (record { 0 = 0 }) values)
IsDenied shape kind r = r ≡ Empty

-- at the end of a fork FPRead and FPReadExt are told what they read; all else is told nothing
abbrev pub IsEnded : Shape → Reply → Type 0
IsEnded shapes.Data r = (piece : List ℕ) × (r ≡ Piece piece)
IsEnded shape r = r ≡ Empty

-- a request of this kind, whose reply has this shape, is told this with this code; any other refusal tells nothing
abbrev pub IsTold : Shape → Code → ReplyKind → Reply → Type 0
IsTold shape codes.Ok kind r = IsAsked shape kind r
IsTold shape codes.DenyConflict kind r = IsDenied shape kind r
IsTold shape codes.EOFErr kind r = IsEnded shape r
IsTold shape code kind r = r ≡ Empty

-- The reply can be told to a request of this kind with this code: it fits, and has the fields that the request asks for.
pub record FitsRequest (kind : ReplyKind) (code : Code) (r : Reply) : Type 0 where
  pub fits : FitsReply r
  pub told : IsTold (shape_of kind.command) code kind r

-- the shapes of FPOpenFork's reply, and of FPRead's and FPReadExt's
abbrev pub is_opened_shape : Shape → Bool
is_opened_shape shapes.Opened = true
is_opened_shape shape = false

abbrev pub is_data : Shape → Bool
is_data shapes.Data = true
is_data shape = false

-- whether a refusal with this code tells nothing to a request whose reply has this shape
abbrev pub tells_nothing : Shape → Code → Bool
tells_nothing shape codes.Ok = false
tells_nothing shape codes.DenyConflict = not (is_opened_shape shape)
tells_nothing shape codes.EOFErr = not (is_data shape)
tells_nothing shape code = true
