-- Frames of the Data Stream Interface as what bytes tell of the client's requests and of their replies (AFP over TCP; which requests the client writes is this
-- profile's).
use Rattle.std.specs.Prelude.{◌≡◌, ◌==◌, ◌+◌, ◌↔◌, ◌&&◌, ℕ, nat_eq, nat_le, Bool, true, false, if◌then◌else◌, List, [], ◌∷◌, drop, length, take, Option, Some, None, find, is_none}
use Rattle.std.specs.List.{flat_map}
use Rattle.byteorder.specs.Endian.{big_number}
use Rattle.afp_base.specs.Bytes.{IsBytes}
use Rattle.afp_base.specs.declared.code.Code.{Code}
use Rattle.afp_base.specs.declared.code.Code.TheVariants as code
use Rattle.dsi_frame.specs.Frame.{Frame, canonical_frame, command_in, flags_in, header_fault, header_length, payload_length_in, word_in}
use Rattle.dsi_frame.specs.Replies.{code_word, reply_to}
use Rattle.dsi_frame.specs.Stream.{Begins}
use Rattle.dsi_frame.specs.declared.frame.DsiCommand.{DsiCommand}
use Rattle.dsi_frame.specs.declared.frame.DsiCommand.TheVariants as commands
use Rattle.dsi_session.specs.Options.{attention_quantum_type, number_option, option_spelling, server_options}
use Rattle.volume_spec.specs.TypedVolume.{are_bytes, is_long}
use Rattle.once_across_breaks.specs.once.Messages.{Answer, Fine, MiscErr, NoMemory, Refuses, Sent, body_of, is_carried}
use Rattle.once_across_breaks.specs.once.Run.{Request}
use Rattle.once_across_breaks.specs.once.Frames.{Heard, HeardCall, HeardOpen, OfCall, OfOpening, Tag, heard}
use Rattle.once_across_breaks.specs.once.Serial.{Setup, answer_by, written}
use Rattle.once_across_breaks.specs.once.Bytes.{AreCodecs, Codec, Codecs}

-- ---- the frame at the front of bytes

-- the command of a number that a header may have
abbrev pub command_of : ℕ → DsiCommand
command_of n =
    if n == 1 then commands.CloseSession else (if n == 2 then commands.Command else (if n == 3 then commands.GetStatus
    else (if n == 4 then commands.OpenSession else (if n == 5 then commands.Tickle else (if n == 6 then commands.Write else commands.Attention)))))

abbrev pub first_frame : List ℕ → Frame
first_frame bytes = record {
  reply = flags_in bytes == 1;
  command = command_of (command_in bytes);
  id = big_number 2 (drop 2 bytes);
  word = word_in bytes;
  payload = take (payload_length_in bytes) (drop header_length bytes);
}

-- a header without fault, and its payload
abbrev pub is_whole : List ℕ → Bool
is_whole bytes = nat_le header_length (length bytes) && (is_none (header_fault bytes) && nat_le (header_length + payload_length_in bytes) (length bytes))

abbrev pub frame_at : List ℕ → Option (Frame × List ℕ)
frame_at bytes = if is_whole bytes then Some (first_frame bytes, drop (header_length + payload_length_in bytes) bytes) else None

-- it is found just where bytes begin with a frame, as a deframer gives it out
abbrev pub FindsFrame : Type 0
FindsFrame = (bytes rest : List ℕ) (f : Frame) → IsBytes bytes → (frame_at bytes ≡ Some (f, rest) ↔ (begun : Begins bytes f) × (begun.more ≡ rest))

-- ---- requests

-- the attention quantum that the client tells
abbrev pub told_quantum : ℕ
told_quantum = 1024

abbrev pub open_frame : ℕ → Frame
open_frame id = record { reply = false; command = commands.OpenSession; id = id; word = 0; payload = option_spelling (number_option attention_quantum_type told_quantum) }

abbrev pub call_command : Bool → DsiCommand
call_command true = commands.Write
call_command false = commands.Command

abbrev pub request_frame : Setup → ℕ → Heard → Frame
request_frame u last HeardOpen = open_frame last
request_frame u last (HeardCall id body) = record { reply = false; command = call_command (written u body).write; id = id; word = (written u body).offset; payload = (written u body).payload }

-- what a Command or a Write carries, where its fields are in their ranges
abbrev pub sent_by : (write : Bool) (offset : ℕ) (payload : List ℕ) (a b : Bool) → (is_long offset && are_bytes payload) ≡ a → is_carried write offset payload ≡ b → Option Sent
sent_by write offset payload true true typed sized = Some (record { write = write; offset = offset; payload = payload; typed = typed; sized = sized })
sent_by write offset payload true false typed sized = None
sent_by write offset payload false b typed sized = None

abbrev pub sent_of : Bool → ℕ → List ℕ → Option Sent
sent_of write offset payload = sent_by write offset payload (is_long offset && are_bytes payload) (is_carried write offset payload) (λ i. is_long offset && are_bytes payload) (λ i. is_carried write offset payload)

abbrev pub read_call : ℕ → List ℕ → Option Sent → Option ((ℕ × Heard) × List ℕ)
read_call id rest None = None
read_call id rest (Some sent) = Some ((id, HeardCall id (body_of sent)), rest)

-- As the server's end reads it: a Command's word is nothing to it.
abbrev pub read_request : Bool → DsiCommand → ℕ → ℕ → List ℕ → List ℕ → Option ((ℕ × Heard) × List ℕ)
read_request true kind id word payload rest = None
read_request false commands.OpenSession id word payload rest = Some ((id, HeardOpen), rest)
read_request false commands.Command id word payload rest = read_call id rest (sent_of false 0 payload)
read_request false commands.Write id word payload rest = read_call id rest (sent_of true word payload)
read_request false commands.CloseSession id word payload rest = None
read_request false commands.GetStatus id word payload rest = None
read_request false commands.Tickle id word payload rest = None
read_request false commands.Attention id word payload rest = None

abbrev pub read_up : Option (Frame × List ℕ) → Option ((ℕ × Heard) × List ℕ)
read_up None = None
read_up (Some x) = read_request x.0.reply x.0.command x.0.id x.0.word x.0.payload x.1

abbrev pub dsi_up : Setup → Codec (ℕ × Request) (ℕ × Heard)
dsi_up u = record { spell = λ x. canonical_frame (request_frame u x.0 (heard x.1)); front = λ bytes. read_up (frame_at bytes) }

-- ---- replies

abbrev pub answered_code : Answer → Code
answered_code (Fine block) = code.Ok
answered_code MiscErr = code.MiscErr
answered_code NoMemory = code.NoMemory
answered_code (Refuses c block) = c

abbrev pub answered_block : Answer → List ℕ
answered_block (Fine block) = block
answered_block MiscErr = []
answered_block NoMemory = []
answered_block (Refuses c block) = block

-- where OpenSession is answered Ok the server tells its options, of which the client takes nothing
abbrev pub told_options : Answer → List ℕ
told_options (Fine block) = flat_map option_spelling server_options
told_options MiscErr = []
told_options NoMemory = []
told_options (Refuses c block) = block

abbrev pub without_options : Answer → Answer
without_options (Fine block) = Fine []
without_options MiscErr = MiscErr
without_options NoMemory = NoMemory
without_options (Refuses c block) = Refuses c block

abbrev pub reply_block : Heard → Answer → List ℕ
reply_block HeardOpen a = told_options a
reply_block (HeardCall id body) a = answered_block a

abbrev pub reply_frame : Setup → ℕ × Heard → Answer → Frame
reply_frame u read a = reply_to (request_frame u read.0 read.1) (answered_code a) (reply_block read.1 a)

abbrev pub all_codes : List Code
all_codes =
    code.Ok ∷ code.NoMemory ∷ code.NoMoreSessions ∷ code.AccessDenied ∷ code.BadUAM ∷ code.BadVersNum ∷ code.BitmapErr ∷ code.CantMove ∷ code.DenyConflict
    ∷ code.DirNotEmpty ∷ code.DiskFull ∷ code.EOFErr ∷ code.FileBusy ∷ code.ItemNotFound ∷ code.LockErr ∷ code.MiscErr ∷ code.NoMoreLocks ∷ code.ObjectExists
    ∷ code.ObjectNotFound ∷ code.ParamErr ∷ code.RangeNotLocked ∷ code.RangeOverlap ∷ code.UserNotAuth ∷ code.CallNotSupported ∷ code.ObjectTypeErr
    ∷ code.TooManyFilesOpen ∷ code.CantRename ∷ code.DirNotFound ∷ code.VolLocked ∷ code.ObjectLocked ∷ code.IDNotFound ∷ code.IDExists ∷ code.SameObjectErr
    ∷ code.BadIDErr ∷ []

-- the code whose word it is
abbrev pub code_in : ℕ → Option Code
code_in word = find (λ c. nat_eq (code_word c) word) all_codes

abbrev pub read_reply : Bool → DsiCommand → ℕ → Option Code → List ℕ → List ℕ → Option ((Tag × Answer) × List ℕ)
read_reply false kind id c payload rest = None
read_reply true kind id None payload rest = None
read_reply true commands.OpenSession id (Some c) payload rest = Some ((OfOpening, without_options (answer_by c payload)), rest)
read_reply true commands.Command id (Some c) payload rest = Some ((OfCall id, answer_by c payload), rest)
read_reply true commands.Write id (Some c) payload rest = Some ((OfCall id, answer_by c payload), rest)
read_reply true commands.CloseSession id (Some c) payload rest = None
read_reply true commands.GetStatus id (Some c) payload rest = None
read_reply true commands.Tickle id (Some c) payload rest = None
read_reply true commands.Attention id (Some c) payload rest = None

abbrev pub read_down : Option (Frame × List ℕ) → Option ((Tag × Answer) × List ℕ)
read_down None = None
read_down (Some x) = read_reply x.0.reply x.0.command x.0.id (code_in x.0.word) x.0.payload x.1

abbrev pub dsi_down : Setup → Codec ((ℕ × Heard) × Answer) (Tag × Answer)
dsi_down u = record { spell = λ x. canonical_frame (reply_frame u x.0 x.1); front = λ bytes. read_down (frame_at bytes) }

-- ---- both

abbrev pub dsi : Setup → Codecs
dsi u = record { up = dsi_up u; down = dsi_down u }

abbrev pub FramesAreCodecs : Type 0
FramesAreCodecs = (u : Setup) → AreCodecs (dsi u)
