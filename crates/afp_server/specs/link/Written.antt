-- What a link writes beside replies, over a whole run (this profile).
use Rattle.std.specs.Prelude.{◌≡◌, ◌==◌, ◌||◌, ◌⊎◌, ℕ, ◌+◌, ◌≤◌, Bool, false, if◌then◌else◌, List, [], ◌∷◌, ◌++◌, length, Option, is_some, All}
use Rattle.afp_serial.specs.Went.{Step}
use Rattle.dsi_frame.specs.Frame.{Frame, command_number}
use Rattle.dsi_frame.specs.Replies.{listed}
use Rattle.dsi_frame.specs.declared.frame.DsiCommand.TheVariants as commands
use Rattle.afp_server.specs.link.LinkRun.{quiets_in}
use Rattle.afp_server.specs.link.Requests.{tickle, attention, drain_in}
use Rattle.afp_server.specs.link.Trace.{Happening, received, was_quiet, handled, events_in, sent_in, Standing, Cause, Follows}

-- the frames among these that are no replies
abbrev pub only_requests : List Frame → List Frame
only_requests [] = []
only_requests (f ∷ frames) = if f.reply then only_requests frames else f ∷ only_requests frames

-- the requests of the quiets, of which each has one at most
abbrev pub requests_in : List Happening → List Frame
requests_in [] = []
requests_in (received written now bytes ∷ trace) = requests_in trace
requests_in (was_quiet written now idled ∷ trace) = listed idled.request ++ requests_in trace
requests_in (handled f did ∷ trace) = requests_in trace

-- a Tickle, or the Attention of a drain
abbrev pub IsServerRequest : Frame → Type 0
IsServerRequest f = (id : ℕ) × ((f ≡ tickle id) ⊎ (f ≡ attention id))

abbrev pub is_attention : Frame → Bool
is_attention f = command_number f.command == command_number commands.Attention

-- how many of the frames are Attentions
abbrev pub attentions_in : List Frame → ℕ
attentions_in [] = 0
attentions_in (f ∷ frames) = if is_attention f then 1 + attentions_in frames else attentions_in frames

-- whether one of these was told a drain's moment
abbrev pub any_told_drain : List Step → Bool
any_told_drain [] = false
any_told_drain (s ∷ steps) = is_some (drain_in s.told) || any_told_drain steps

-- whether the Pulse of a quiet was
abbrev pub is_drain_told : List Happening → Bool
is_drain_told [] = false
is_drain_told (received written now bytes ∷ trace) = is_drain_told trace
is_drain_told (was_quiet written now idled ∷ trace) = any_told_drain idled.steps || is_drain_told trace
is_drain_told (handled f did ∷ trace) = is_drain_told trace

-- The frames written that are no replies are the requests of the quiets: Tickles and Attentions, one a quiet at most. There is one
-- Attention where the Pulse of a quiet was told a drain's moment, and else none.
pub record WritesBeside (trace : List Happening) : Type 0 where
  pub requests : only_requests (sent_in trace) ≡ requests_in trace
  pub kinds : All IsServerRequest (requests_in trace)
  pub most : length (requests_in trace) ≤ quiets_in (events_in trace)
  pub attentions : attentions_in (requests_in trace) ≡ (if is_drain_told trace then 1 else 0)

-- The law: so it is in each trace of a link on which no drain was told before it.
abbrev pub IsWrittenBeside : Type 0
IsWrittenBeside = (block : List ℕ) (a b : Standing) (trace : List Happening) (cause : Option Cause)
    → a.requests.drain_told ≡ false → Follows block a trace b cause → WritesBeside trace
