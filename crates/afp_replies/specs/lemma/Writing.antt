-- What a reply is like that can be written, for the proofs of the code; no public contract cites it.
use Rattle.std.specs.Prelude.{◌≡◌, ℕ, ◌^◌, ◌<◌, Bool, List, length, Option, Some, None}
use Rattle.std.specs.List.{AllByRecursion}
use Rattle.afp_bitmap.specs.declared.params.Values.{Values}
use Rattle.afp_bitmap.specs.Bits.{IsWithin, mask_of, is_asked}
use Rattle.afp_bitmap.specs.Params.{Fits}
use Rattle.afp_bitmap.specs.Table.{kind_of}
use Rattle.afp_replies.specs.declared.reply.Reply.{Reply}
use Rattle.afp_replies.specs.declared.reply.Reply.TheVariants.{Params, ServerParams, MappedName, Opened, FileDirParams, Message, Appl, Comment, Token}
use Rattle.afp_replies.specs.declared.reply.Reply.TheVariants as replies
use Rattle.afp_replies.specs.Numbers.{file_kind, utf8_bit}
use Rattle.afp_replies.specs.Bytes.{width}
use Rattle.afp_replies.specs.Entry.{is_dir, bits_for, kind_for}
use Rattle.afp_replies.specs.Fitting.{FitsVolume, FitsList}

-- the parameters of a kind that the bits ask for
pub record FitsParams (kind bits : ℕ) (v : Values) : Type 0 where
  pub kind_is : kind_of v ≡ kind
  pub within : IsWithin (mask_of kind) bits
  pub fits : Fits bits v

-- the parameters of a file or a directory
abbrev pub FitsNode : ℕ → ℕ → Values → Type 0
FitsNode file_bits dir_bits v = FitsParams (kind_for (is_dir v)) (bits_for (is_dir v) file_bits dir_bits) v

abbrev pub FitsMessage : Bool → Option (List ℕ) → Type 0
FitsMessage wide None = Unit {0}
FitsMessage wide (Some text) = length text < 256 ^ width wide

-- the reply can be written
abbrev pub CanWrite : Reply → Type 0
CanWrite (replies.List wide file_bits dir_bits rows) = FitsList wide file_bits dir_bits rows
CanWrite (Params bits values) = FitsParams (kind_of values) bits values
CanWrite (ServerParams time volumes) = (length volumes < 256 ^ 1) × AllByRecursion FitsVolume volumes
CanWrite (MappedName wide name) = length name < 256 ^ width wide
CanWrite (Opened bits reference values) = FitsParams file_kind bits values
CanWrite (FileDirParams file_bits dir_bits values) = FitsNode file_bits dir_bits values
CanWrite (Message kind bits message) = FitsMessage (is_asked bits utf8_bit) message
CanWrite (Appl bits tag values) = FitsParams file_kind bits values
CanWrite (Comment comment) = length comment < 256 ^ 1
CanWrite (Token token) = length token < 256 ^ 4
CanWrite r = Unit {0}
