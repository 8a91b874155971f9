-- How the server end of a link, its frames and the entries that it asks are those of the law (this profile).
use Rattle.std.specs.Prelude.{◌≡◌, ℕ, true, false, if◌then◌else◌, List, [], ◌∷◌, map, Option, Some, None}
use Rattle.afp_serial.specs.declared.ask.Ask as asks
use Rattle.afp_serial.specs.declared.ask.Ask.TheVariants as ask
use Rattle.afp_serial.specs.declared.ask.Entry as entries
use Rattle.afp_server.specs.declared.link.stage.FrameEnd.{FrameEnd}
use Rattle.afp_server.specs.declared.link.stage.Stage.{Stage}
use Rattle.afp_server.specs.declared.link.stage.Stage.TheVariants as stages
use Rattle.dsi_frame.specs.Frame.{Frame, IsGood}
use Rattle.dsi_frame.specs.Replies.{spelling_of}
use Rattle.dsi_frame.specs.declared.frame.DsiCommand.TheVariants as commands
use Rattle.dsi_session.specs.Options.{AreOptions, SessionOption}
use Rattle.once_across_breaks.specs.once.Bytes.{FitsNumbered, seen_request, spelt_reply}
use Rattle.once_across_breaks.specs.once.Dsi.{call_command, dsi_down, reply_frame, request_frame}
use Rattle.once_across_breaks.specs.once.Fits.{IsId}
use Rattle.once_across_breaks.specs.once.Frames.{End, Heard, HeardCall, HeardOpen, heard}
use Rattle.once_across_breaks.specs.once.Messages.{Answer}
use Rattle.once_across_breaks.specs.once.Run.{Request}
use Rattle.once_across_breaks.specs.once.Serial.{Framed, Setup, entry_of, written}
use Rattle.once_across_breaks.specs.once.Server.{Entry}

-- ---- the end of a link

-- the law's end stands where the link does
abbrev pub IsEnd : Stage → End → Type 0
IsEnd stages.Fresh e = (e.number ≡ None) × (e.ended ≡ false)
IsEnd (stages.Open link) e = (e.number ≡ Some link.0) × (e.ended ≡ false)
IsEnd stages.Closing e = e.ended ≡ true

-- the same behind a frame, which may have ended the link
abbrev pub IsEndBehind : Stage → Option FrameEnd → End → Type 0
IsEndBehind stage None e = IsEnd stage e
IsEndBehind stage (Some end) e = e.ended ≡ true

-- ---- entries

-- The law's Open tells no attention quantum, on which no answer depends.
abbrev pub plain_ask : asks.Ask → asks.Ask
plain_ask (ask.Open attention) = ask.Open 0
plain_ask (ask.Call id write offset payload) = ask.Call id write offset payload
plain_ask ask.Pulse = ask.Pulse
plain_ask ask.Bye = ask.Bye
plain_ask ask.Lost = ask.Lost
plain_ask ask.Drain = ask.Drain

abbrev pub plain : entries.Entry → entries.Entry
plain e = record { link = e.link; at = e.at; ask = plain_ask e.ask; outcome = e.outcome }

-- the law's entries are these, but for the attention quantum
abbrev pub AreEntries : Setup → List Entry → List entries.Entry → Type 0
AreEntries u xs es = map (entry_of u) xs ≡ map plain es

-- ---- frames of the client

-- OpenSession with this id, and with options that fit
pub record OpensLink (n : ℕ) (f : Frame) : Type 0 where
  pub request : f.reply ≡ false
  pub command : f.command ≡ commands.OpenSession
  pub numbered : f.id ≡ n
  pub options : List SessionOption
  pub fit : AreOptions f.payload options

-- A request in a frame: a Write tells the place of its data. A Command has none, and its place is 0.
pub record CarriesFramed (id : ℕ) (framed : Framed) (f : Frame) : Type 0 where
  pub request : f.reply ≡ false
  pub command : f.command ≡ call_command framed.write
  pub fits : IsId id
  pub numbered : f.id ≡ id
  pub offset : framed.offset ≡ (if framed.write then f.word else 0)
  pub payload : f.payload ≡ framed.payload

-- The frame is one of the request's, of which its id and what it asks is read: that which the client writes, but for the options of an OpenSession and the
-- word of a Command.
abbrev pub CarriesBy : Setup → ℕ → Heard → Frame → Type 0
CarriesBy u n HeardOpen f = OpensLink n f
CarriesBy u n (HeardCall id body) f = CarriesFramed id (written u body) f

abbrev pub Carries : Setup → ℕ × Heard → Frame → Type 0
Carries u r f = CarriesBy u r.0 r.1 f

-- the frames are those of the requests, in order
abbrev pub AllCarry : Setup → List (ℕ × Heard) → List Frame → Type 0
AllCarry u [] [] = Unit {0}
AllCarry u (r ∷ rs) (f ∷ fs) = Carries u r f × AllCarry u rs fs
AllCarry u [] (f ∷ fs) = ⊥
AllCarry u (r ∷ rs) [] = ⊥

-- what the client writes carries what it asks, where that fits; and it is a good frame
abbrev pub WrittenCarries : Type 0
WrittenCarries = (u : Setup) (x : ℕ × Request) → FitsNumbered x → Carries u (seen_request x) (request_frame u x.0 (heard x.1))

abbrev pub WrittenIsGood : Type 0
WrittenIsGood = (u : Setup) (x : ℕ × Request) → FitsNumbered x → IsGood (request_frame u x.0 (heard x.1))

-- ---- replies

-- an answer to a request, or none
abbrev pub answered : ℕ × Heard → Option Answer → List ((ℕ × Heard) × Answer)
answered r None = []
answered r (Some a) = (r, a) ∷ []

-- the frames of the law's replies
abbrev pub frame_of_reply : Setup → (ℕ × Heard) × Answer → Frame
frame_of_reply u x = reply_frame u x.0 x.1

abbrev pub reply_frames : Setup → List ((ℕ × Heard) × Answer) → List Frame
reply_frames u xs = map (frame_of_reply u) xs

-- The law: their bytes are those that the law's line writes.
abbrev pub RepliesAreSpelt : Type 0
RepliesAreSpelt = (u : Setup) (r : ℕ × Heard) (o : Option Answer) → spelling_of (reply_frames u (answered r o)) ≡ spelt_reply (dsi_down u) r o
