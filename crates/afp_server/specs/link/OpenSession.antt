-- DSIOpenSession (AFP over TCP).
use Rattle.std.specs.Prelude.{◌≡◌, ◌⊎◌, ℕ, List, [], ◌∷◌, Option, Some, None}
use Rattle.std.specs.List.{flat_map}
use Rattle.afp_base.specs.declared.code.Code.TheVariants as code
use Rattle.afp_base.specs.declared.ids.LinkNumber.{LinkNumber}
use Rattle.afp_serial.specs.declared.ask.Ask.TheVariants as ask
use Rattle.afp_serial.specs.declared.ask.Told.{Told}
use Rattle.afp_serial.specs.declared.ask.Told.TheVariants as told
use Rattle.afp_serial.specs.Went.{step}
use Rattle.dsi_frame.specs.Frame.{Frame}
use Rattle.dsi_session.specs.Options.{SessionOption, AreOptions, OptionsStopAt, attention_of, option_spelling, server_options}
use Rattle.afp_server.specs.link.Did.{Did, replies}
use Rattle.dsi_frame.specs.Replies.{reply_to}
use Rattle.afp_server.specs.declared.link.stage.Stage.{Stage}
use Rattle.afp_server.specs.declared.link.stage.Stage.TheVariants as stages

-- link 0 is no link of a session
abbrev pub no_link : LinkNumber
no_link = record { 0 = 0 }

-- the options that the server answers
abbrev pub option_bytes : List ℕ
option_bytes = flat_map option_spelling server_options

-- The reply, and how far the link has come, by what Open is told: a session on a link, or a refusal with its code.
abbrev pub OpenTold : Frame → Told → Option Frame → Stage → Type 0
OpenTold f (told.Opened link) reply stage = (reply ≡ Some (reply_to f code.Ok option_bytes)) × (stage ≡ stages.Open link)
OpenTold f (told.Reply c block ends) reply stage = (reply ≡ Some (reply_to f c block)) × (stage ≡ stages.Fresh)
OpenTold f told.Memory reply stage = (reply ≡ Some (reply_to f code.NoMemory [])) × (stage ≡ stages.Fresh)
OpenTold f (told.Live drain) reply stage = ⊥
OpenTold f told.Done reply stage = ⊥
OpenTold f told.Displaced reply stage = ⊥

-- Options that fit: a Pulse at link 0, whatever it is told, and then Open.
pub record OpensByOptions (now : ℕ) (f : Frame) (did : Did) : Type 0 where
  pub options : List SessionOption
  pub fit : AreOptions f.payload options
  pub pulsed : Told
  pub opened : Told
  pub steps : did.steps ≡ step now no_link ask.Pulse pulsed ∷ step now no_link (ask.Open (attention_of options)) opened ∷ []
  pub answer : OpenTold f opened did.reply did.stage
  pub end : did.end ≡ None

-- An option that does not fit: nothing is asked, and the link stays as it was.
pub record RefusesOptions (f : Frame) (did : Did) : Type 0 where
  pub options : List SessionOption
  pub at : ℕ
  pub stops : OptionsStopAt f.payload options at
  pub is : did ≡ replies (reply_to f code.ParamErr []) stages.Fresh

-- before a session is open on the link
abbrev pub OpensSession : ℕ → Frame → Did → Type 0
OpensSession now f did = OpensByOptions now f did ⊎ RefusesOptions f did
