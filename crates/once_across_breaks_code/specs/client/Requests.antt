-- The frames of what the law's client asks, and which command a call is.
use Rattle.std.specs.Prelude.{◌≡◌, ℕ, ◌+◌, ◌≤◌, true, false, List, [], ◌++◌, length, Option, Some, None}
use Rattle.afp_base.specs.Limits.{payload_limit}
use Rattle.dsi_frame.specs.Frame.{Frame}
use Rattle.dsi_frame.specs.declared.frame.DsiCommand.{DsiCommand}
use Rattle.dsi_frame.specs.declared.frame.DsiCommand.TheVariants as commands
use Rattle.afp_calls_grammar.specs.grammar.Call.{canonical_call, canonical_data, canonical_piece}
use Rattle.afp_calls_grammar.specs.declared.grammar.call.Call as grammar
use Rattle.volume_spec.specs.TypedVolume.{are_bytes}
use Rattle.afp_client.specs.session.Opening.{login_call}
use Rattle.afp_client.specs.session.State.{is_of_opening}
use Rattle.afp_client.specs.declared.session.login.Login as logins
use Rattle.once_across_breaks.specs.once.Messages.{Answer, Call, Does, Fine, MiscErr, NoMemory, Refuses, wire_id}
use Rattle.once_across_breaks.specs.once.Run.{Request}
use Rattle.once_across_breaks.specs.once.Dsi as dsi
use Rattle.once_across_breaks.specs.once.Dsi.{call_command}
use Rattle.once_across_breaks.specs.once.Frames.{Heard, HeardCall, HeardOpen, OfCall, OfOpening, Tag, heard}
use Rattle.once_across_breaks.specs.once.Serial.{Framed, Setup, framed, in_command, written}

-- the frame of a request of AFP, with this id
abbrev pub framed_frame : ℕ → Framed → Frame
framed_frame id f = record { reply = false; command = call_command f.write; id = id; word = f.offset; payload = f.payload }

-- The frame of a request that the law's client writes, where the opening's last id is this one; ids less whole rounds.
abbrev pub on_wire : Heard → Heard
on_wire HeardOpen = HeardOpen
on_wire (HeardCall id body) = HeardCall (wire_id id) body

abbrev pub request_frame : Setup → ℕ → Heard → Frame
request_frame u opening h = dsi.request_frame u (wire_id opening) (on_wire h)

abbrev pub frame_of : Setup → ℕ → Request → Frame
frame_of u opening r = request_frame u opening (heard r)

-- what a reply's command and id show of the request that it answers: that it was OpenSession, or another one's id
abbrev pub tag_by : DsiCommand → ℕ → Tag
tag_by commands.OpenSession id = OfOpening
tag_by kind id = OfCall id

abbrev pub tag_in : Frame → Tag
tag_in f = tag_by f.command f.id

-- what the client reads of an answer: in a reply to OpenSession the block does not matter to it
abbrev pub without_block : Answer → Answer
without_block (Fine block) = Fine []
without_block MiscErr = MiscErr
without_block NoMemory = NoMemory
without_block (Refuses c block) = Refuses c []

abbrev pub IsAnswer : Heard → Answer → Answer → Type 0
IsAnswer HeardOpen a b = without_block a ≡ without_block b
IsAnswer (HeardCall id body) a b = a ≡ b

-- what the request of a call carries: one with data comes in a Write, and its data begin behind its block
abbrev pub carried_with : grammar.Call → Option (List ℕ) → Framed
carried_with call None = in_command (canonical_call call)
carried_with call (Some bytes) = record { write = true; offset = length (canonical_call call); payload = canonical_call call ++ bytes }

abbrev pub carried_by : grammar.Call → Framed
carried_by call = carried_with call (canonical_data call)

-- the command carries what the call carries
abbrev pub IsCall : Setup → Call → grammar.Call → Type 0
IsCall u command call = written u (Does command) ≡ carried_by call

-- What a client is asked: a call that belongs to no opening, that fits a frame, and whose bytes are bytes.
pub record IsAskable (call : grammar.Call) : Type 0 where
  pub command : is_of_opening call ≡ false
  pub fits : length (canonical_call call) + length (canonical_piece call) ≤ payload_limit
  pub block : are_bytes (canonical_call call) ≡ true
  pub piece : are_bytes (canonical_piece call) ≡ true

-- the law's client logs in with the same request
abbrev pub LogsIn : Setup → logins.Login → Type 0
LogsIn u login = framed u.login ≡ in_command (canonical_call (login_call login))
