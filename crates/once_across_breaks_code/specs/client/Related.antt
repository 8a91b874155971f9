-- A state of the client and one of the law's client that are one.
use Rattle.std.specs.Prelude.{◌≡◌, ℕ, true, List, Option, Some, None, IfSome, is_some}
use Rattle.dsi_frame.specs.Frame.{Frame}
use Rattle.afp_client.specs.session.State.{ClientState, Waiting}
use Rattle.afp_client.specs.declared.session.login.Login as logins
use Rattle.afp_client.specs.declared.session.stage.OpeningStep.{OpeningStep}
use Rattle.afp_client.specs.declared.session.stage.OpeningStep.TheVariants as steps
use Rattle.afp_client.specs.declared.session.stage.Stage as real
use Rattle.afp_client.specs.declared.session.stage.Stage.TheVariants as stages
use Rattle.once_across_breaks.specs.once.Messages.{Does, wire_id}
use Rattle.once_across_breaks.specs.once.Run.{Client, Entering, Gone, Joining, Opening, Ready, Stage, Wait, id_of, stage_anew}
use Rattle.once_across_breaks.specs.once.Serial.{Setup, can_carry, written}
use Rattle.once_across_breaks_code.specs.client.Requests.{LogsIn, framed_frame}

-- the stage in which this request of the opening has no reply yet
abbrev pub stage_at : OpeningStep → Stage
stage_at steps.OpenSession = Opening
stage_at steps.Login = Entering
stage_at steps.Session = Joining

-- How far both have come. Ids on the link are those of the law less whole rounds; a client whose link is opened has a token. Where a link broke and the
-- next one has not begun, the law's client is as it was, and not lost.
abbrev pub IsStage : Stage → ℕ → ℕ → Option (List ℕ) → real.Stage → Type 0
IsStage stage tries opening_id token stages.Unlinked = stage_anew stage ≡ Opening
IsStage stage tries opening_id token (stages.Opening step id retries) = (stage ≡ stage_at step) × (id ≡ wire_id opening_id) × (retries ≡ tries)
IsStage stage tries opening_id token stages.Ready = (stage ≡ Ready) × (is_some token ≡ true)
IsStage stage tries opening_id token stages.Lost = stage ≡ Gone

-- the command that waits, as its frame
abbrev pub waiting_frame : Setup → Wait → Frame
waiting_frame u w = framed_frame (wire_id w.id) (written u (Does w.call))

abbrev pub waiting_of : Setup → Option Wait → Option Waiting
waiting_of u None = None
waiting_of u (Some w) = Some (record { request = waiting_frame u w; retries = w.tries })

-- the next id of the commands, once there is a token; before, none was drawn
abbrev pub IsCounted : Option (List ℕ) → ℕ → ℕ → ℕ → Type 0
IsCounted None first drawn next_id = drawn ≡ 0
IsCounted (Some token) first drawn next_id = next_id ≡ id_of first drawn

pub record IsClient (u : Setup) (c : Client) (s : ClientState) : Type 0 where
  pub login : LogsIn u s.login
  pub stage : IsStage c.stage c.tries c.opening_id c.token s.stage
  pub token : s.token ≡ c.token
  pub carried : IfSome c.token (λ token. can_carry token ≡ true)
  pub waiting : s.waiting ≡ waiting_of u c.wait
  pub wait_id : IfSome c.wait (λ w. w.id ≡ wire_id w.id)
  pub next_id : IsCounted c.token c.first c.drawn s.next_id

-- a client without a link, as it is made
abbrev pub made_client : logins.Login → ClientState
made_client login = record { login = login; stage = stages.Unlinked; token = None; waiting = None; next_id = 0 }
