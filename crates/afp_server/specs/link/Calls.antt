-- DSICommand and DSIWrite (AFP over TCP): the calls of AFP.
use Rattle.std.specs.Prelude.{◌≡◌, ℕ, true, false, [], ◌∷◌, Option, Some, None}
use Rattle.afp_base.specs.declared.code.Code.TheVariants as code
use Rattle.afp_base.specs.declared.ids.LinkNumber.{LinkNumber}
use Rattle.afp_serial.specs.declared.ask.Ask.{Ask}
use Rattle.afp_serial.specs.declared.ask.Ask.TheVariants as ask
use Rattle.afp_serial.specs.declared.ask.Told.{Told}
use Rattle.afp_serial.specs.declared.ask.Told.TheVariants as told
use Rattle.afp_serial.specs.Went.{step}
use Rattle.dsi_frame.specs.Frame.{Frame}
use Rattle.afp_server.specs.link.Did.{Did}
use Rattle.dsi_frame.specs.Replies.{reply_to}
use Rattle.afp_server.specs.declared.link.stage.Stage.{Stage}
use Rattle.afp_server.specs.declared.link.stage.Stage.TheVariants as stages
use Rattle.afp_server.specs.declared.link.stage.FrameEnd.{FrameEnd}
use Rattle.afp_server.specs.declared.link.stage.FrameEnd.TheVariants as ends

-- what a Command asks: its payload is the block
abbrev pub command_ask : Frame → Ask
command_ask f = ask.Call f.id false 0 f.payload

-- what a Write asks: its word is the offset of the enclosed bytes
abbrev pub write_ask : Frame → Ask
write_ask f = ask.Call f.id true f.word f.payload

-- The reply, how far the link has come and why it ends, by what the call is told.
abbrev pub CallTold : Frame → LinkNumber → Told → Option Frame → Stage → Option FrameEnd → Type 0
CallTold f link (told.Reply c block true) reply stage end = (reply ≡ Some (reply_to f c block)) × (stage ≡ stages.Closing) × (end ≡ Some ends.Closed)
CallTold f link (told.Reply c block false) reply stage end = (reply ≡ Some (reply_to f c block)) × (stage ≡ stages.Open link) × (end ≡ None)
CallTold f link told.Memory reply stage end = (reply ≡ Some (reply_to f code.NoMemory [])) × (stage ≡ stages.Open link) × (end ≡ None)
CallTold f link told.Displaced reply stage end = (reply ≡ None) × (stage ≡ stages.Closing) × (end ≡ Some ends.Displaced)
CallTold f link (told.Opened other) reply stage end = ⊥
CallTold f link (told.Live drain) reply stage end = ⊥
CallTold f link told.Done reply stage end = ⊥

-- A call is asked at the session's link.
pub record AsksCall (now : ℕ) (link : LinkNumber) (f : Frame) (asks : Ask) (did : Did) : Type 0 where
  pub answer : Told
  pub steps : did.steps ≡ step now link asks answer ∷ []
  pub told : CallTold f link answer did.reply did.stage did.end
