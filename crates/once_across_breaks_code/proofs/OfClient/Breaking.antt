-- Breaks, and the beginning of a link.
use Rattle.std.proofs.Common.{◌≡◌, ◌∙◌, refl, ap, ℕ, false, List, [], ◌∷◌, Option}
use Rattle.afp_client.specs.session.State.{ClientState}
use Rattle.afp_client.specs.session.Takes.{begun, stage_begun, stage_broken}
use Rattle.afp_client.specs.declared.session.stage.OpeningStep.{OpeningStep}
use Rattle.afp_client.specs.declared.session.stage.OpeningStep.TheVariants as steps
use Rattle.afp_client.specs.declared.session.stage.Stage as real
use Rattle.afp_client.specs.declared.session.stage.Stage.TheVariants as stages
use Rattle.once_across_breaks.specs.once.Run.{Client, Opening, Opens, Stage, begins, stage_anew}
use Rattle.once_across_breaks.specs.once.Serial.{Setup}
use Rattle.once_across_breaks_code.specs.client.Related.{IsClient, IsStage, stage_at}
use Rattle.once_across_breaks_code.specs.client.Steps.{BeginsAreBreaks, BreaksStay}

-- a client that is as far as the law's in another stage, and else as it was
pub restaged : (u : Setup) (c : Client) (s : ClientState) (stage : Stage) (tries opening_id : ℕ) (now : real.Stage) → IsClient u c s → IsStage stage tries opening_id c.token now
    → IsClient u (record c { stage = stage; tries = tries; opening_id = opening_id }) (record s { stage = now })
restaged u c s stage tries opening_id now h is = record { login = h.login; stage = is; token = h.token; carried = h.carried; waiting = h.waiting; wait_id = h.wait_id; next_id = h.next_id }

anew-at : (step : OpeningStep) → stage_anew (stage_at step) ≡ Opening
anew-at steps.OpenSession = refl
anew-at steps.Login = refl
anew-at steps.Session = refl

broken-stage : (stage : Stage) (tries opening_id : ℕ) (token : Option (List ℕ)) (now : real.Stage) → IsStage stage tries opening_id token now → IsStage stage tries opening_id token (stage_broken now)
broken-stage stage tries opening_id token stages.Unlinked is = is
broken-stage stage tries opening_id token (stages.Opening step id retries) is = ap stage_anew is.0 ∙ anew-at step
broken-stage stage tries opening_id token stages.Ready is = ap stage_anew is.0
broken-stage stage tries opening_id token stages.Lost is = is

pub breaks-stay : BreaksStay
breaks-stay u c s h = record { login = h.login; stage = broken-stage c.stage c.tries c.opening_id c.token s.stage h.stage; token = h.token; carried = h.carried; waiting = h.waiting; wait_id = h.wait_id; next_id = h.next_id }

begun-stage : (stage : Stage) (tries opening_id : ℕ) (token : Option (List ℕ)) (now : real.Stage) → IsStage stage tries opening_id token now → IsStage (stage_anew stage) 0 0 token (stage_begun now)
begun-stage stage tries opening_id token stages.Unlinked is = (is, refl, refl)
begun-stage stage tries opening_id token (stages.Opening step id retries) is = (ap stage_anew is.0 ∙ anew-at step, refl, refl)
begun-stage stage tries opening_id token stages.Ready is = (ap stage_anew is.0, refl, refl)
begun-stage stage tries opening_id token stages.Lost is = ap stage_anew is

pub begun-client : (u : Setup) (c : Client) (s : ClientState) → IsClient u c s → IsClient u (begins c) (begun s)
begun-client u c s h = restaged u c s (stage_anew c.stage) 0 0 (stage_begun s.stage) h (begun-stage c.stage c.tries c.opening_id c.token s.stage h.stage)

pub begins-are-breaks : BeginsAreBreaks
begins-are-breaks u c s h = (record { client = begins c; writes = Opens ∷ []; got = false }, refl, begun-client u c s h, refl, refl)
