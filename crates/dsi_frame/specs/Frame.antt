-- Frames of the Data Stream Interface, and their bytes (AFP over TCP, "DSI header"). All numbers are big-endian.
use Rattle.std.specs.Prelude.{◌≡◌, ◌==◌, ◌&&◌, ℕ, ◌^◌, ◌<◌, ◌≤◌, Bool, false, nat_lt, not, if◌then◌else◌, List, [], ◌∷◌, ◌++◌, length, drop, slice_index, Option, Some, None}
use Rattle.std.specs.List.{list_any}
use Rattle.afp_base.specs.Limits.{payload_limit}
use Rattle.byteorder.specs.Endian.{big_number, big_bytes}
use Rattle.dsi_frame.specs.declared.frame.DsiCommand.{DsiCommand}
use Rattle.dsi_frame.specs.declared.frame.DsiCommand.TheVariants as commands
use Rattle.dsi_frame.specs.declared.frame.Reason.{Reason}
use Rattle.dsi_frame.specs.declared.frame.Reason.TheVariants as reasons
use Rattle.dsi_frame.specs.declared.frame.Header.{Header}

-- a request or a reply: its command, its id, its word (a reply's code, or where the data of a Write
-- request begin) and its payload
pub record Frame : Type 0 where
  pub reply : Bool
  pub command : DsiCommand
  pub id : ℕ
  pub word : ℕ
  pub payload : List ℕ

-- bytes of a header
abbrev pub header_length : ℕ
header_length = 16

-- the number of each command
abbrev pub command_number : DsiCommand → ℕ
command_number commands.CloseSession = 1
command_number commands.Command = 2
command_number commands.GetStatus = 3
command_number commands.OpenSession = 4
command_number commands.Tickle = 5
command_number commands.Write = 6
command_number commands.Attention = 8

-- every command
abbrev pub all_commands : List DsiCommand
all_commands = commands.CloseSession ∷ commands.Command ∷ commands.GetStatus ∷ commands.OpenSession
    ∷ commands.Tickle ∷ commands.Write ∷ commands.Attention ∷ []

-- some command has this number
abbrev pub is_listed : ℕ → Bool
is_listed n = list_any (λ c. command_number c == n) all_commands

-- the first byte of a header: 0 in a request, 1 in a reply
abbrev pub flags_byte : Bool → ℕ
flags_byte reply = if reply then 1 else 0

-- the 16 bytes of a frame's header, with these four reserved bytes
abbrev pub header : List ℕ → Frame → List ℕ
header reserved f = (flags_byte f.reply ∷ command_number f.command ∷ []) ++ big_bytes 2 f.id ++ big_bytes 4 f.word
    ++ big_bytes 4 (length f.payload) ++ reserved

-- in a Write request the word is a place in the payload, or its end: there the data begin
abbrev pub WordFits : Bool → DsiCommand → ℕ → ℕ → Type 0
WordFits false commands.Write word size = word ≤ size
WordFits _ _ word size = Unit {0}

-- a frame whose fields fit their bytes, with a payload of at most the limit, and in a Write request a
-- word of at most the payload's length
pub record IsGood (f : Frame) : Type 0 where
  pub id : f.id < 2 ^ 16
  pub word : f.word < 2 ^ 32
  pub payload : length f.payload ≤ payload_limit
  pub offset : WordFits f.reply f.command f.word (length f.payload)

-- the bytes are a good frame's: its header, with any four reserved bytes, and its payload
pub record IsSpelling (bytes : List ℕ) (f : Frame) : Type 0 where
  pub reserved : List ℕ
  pub four : length reserved ≡ 4
  pub whole : bytes ≡ header reserved f ++ f.payload
  pub good : IsGood f

-- the spelling that is written: its reserved bytes are 0
abbrev pub canonical_frame : Frame → List ℕ
canonical_frame f = header (0 ∷ 0 ∷ 0 ∷ 0 ∷ []) f ++ f.payload

-- the fields of the header that bytes begin with
abbrev pub flags_in : List ℕ → ℕ
flags_in bytes = slice_index bytes 0

abbrev pub command_in : List ℕ → ℕ
command_in bytes = slice_index bytes 1

abbrev pub word_in : List ℕ → ℕ
word_in bytes = big_number 4 (drop 4 bytes)

abbrev pub payload_length_in : List ℕ → ℕ
payload_length_in bytes = big_number 4 (drop 8 bytes)

-- a test that a bad header passes, and the reason that it gives
pub record Fault : Type 0 where
  pub found : Bool
  pub reason : Reason

-- the faults of a header, in their order
abbrev pub header_faults : List ℕ → List Fault
header_faults bytes =
    record { found = nat_lt 1 (flags_in bytes); reason = reasons.Flags }
    ∷ record { found = not (is_listed (command_in bytes)); reason = reasons.Command }
    ∷ record { found = nat_lt payload_limit (payload_length_in bytes); reason = reasons.Length }
    ∷ record { found = flags_in bytes == 0 && command_in bytes == command_number commands.Write && nat_lt (payload_length_in bytes) (word_in bytes); reason = reasons.Offset }
    ∷ []

-- the reason of the first fault found
abbrev pub first_found : List Fault → Option Reason
first_found [] = None
first_found (fault ∷ faults) = if fault.found then Some fault.reason else first_found faults

-- why the header that bytes begin with is bad; none where it is good
abbrev pub header_fault : List ℕ → Option Reason
header_fault bytes = first_found (header_faults bytes)

-- the bytes begin with a whole header, and it is bad for this reason
abbrev pub IsBadHeader : List ℕ → Reason → Type 0
IsBadHeader bytes reason = (header_length ≤ length bytes) × (header_fault bytes ≡ Some reason)

-- the frame with this header and this payload
abbrev pub frame_of : Header → List ℕ → Frame
frame_of h payload = record { reply = h.reply; command = h.command; id = h.id; word = h.word; payload = payload }

-- the header of a frame
abbrev pub header_of : Frame → Header
header_of f = record { reply = f.reply; command = f.command; id = f.id; word = f.word; length = length f.payload }

-- the 16 bytes of a header, with reserved bytes 0
abbrev pub canonical_header : Header → List ℕ
canonical_header h = (flags_byte h.reply ∷ command_number h.command ∷ []) ++ big_bytes 2 h.id ++ big_bytes 4 h.word
    ++ big_bytes 4 h.length ++ (0 ∷ 0 ∷ 0 ∷ 0 ∷ [])
