-- The replies to the request that waits.
use Rattle.std.proofs.Common.{◌≡◌, refl, sym, ap, ℕ, suc, ◌+◌, Bool, true, false, cond, List, [], ◌∷◌, ◌++◌, Option, Some, None, arith, append-nil}
use Rattle.std.specs.Prelude.{nat_lt, is_some}
use Rattle.afp_base.specs.declared.code.Code.{Code}
use Rattle.afp_base.specs.declared.code.Code.TheVariants as codes
use Rattle.dsi_session.specs.RequestIds.{CountsInRounds, id_after}
use Rattle.afp_client.specs.session.State.{ClientState, Waiting}
use Rattle.afp_client.specs.session.Takes.{Step, most_retries, step, waiting_replied, with_id}
use Rattle.afp_client.specs.declared.session.event.Event.TheVariants as events
use Rattle.once_across_breaks.specs.once.Messages.{Does, NoMemory, wire_id}
use Rattle.once_across_breaks.specs.once.Run.{Asks, Client, Wait, id_of, sent_again, with_result}
use Rattle.once_across_breaks.specs.once.Frames.{Taken, reply_taken, wrote}
use Rattle.once_across_breaks.specs.once.Serial.{Setup, answer_by, written}
use Rattle.once_across_breaks_code.specs.client.Requests.{framed_frame}
use Rattle.once_across_breaks_code.specs.client.Related.{IsClient, waiting_frame}
use Rattle.once_across_breaks_code.specs.client.Steps.{AreSame, IsOne, call_of, result_told}
use Rattle.once_across_breaks_code.proofs.OfClient.Asking.{draws-one, next-frame-id}

-- the request as it waits
abbrev pub its_waiting : Setup → Wait → Waiting
its_waiting u w = record { request = waiting_frame u w; retries = w.tries }

result-same : (u : Setup) (c : Client) (s : ClientState) (w : Wait) (code : Code) (payload : List ℕ) → IsClient u c s → c.wait ≡ Some w
    → IsOne u c (record { client = with_result c w (answer_by code payload); writes = []; got = false }) (step (record s { waiting = None }) None (events.Told code payload))
result-same u c s w code payload h waits = record {
  client = record { login = h.login; stage = h.stage; token = h.token; carried = h.carried; waiting = refl; wait_id = tt; next_id = h.next_id };
  writes = refl;
  results = λ i. c.results ++ result_told (sym waits i) code payload;
  waits = refl;
}

again-same : CountsInRounds → (u : Setup) (c : Client) (s : ClientState) (w : Wait) → IsClient u c s → is_some c.token ≡ true → c.wait ≡ Some w
    → IsOne u c (record { client = sent_again c w; writes = Asks (id_of c.first c.drawn) (Does w.call) false ∷ []; got = false })
    (step (record s { waiting = Some (record { request = with_id (waiting_frame u w) s.next_id; retries = w.tries + 1 }); next_id = id_after s.next_id }) (Some (with_id (waiting_frame u w) s.next_id)) events.Step)
again-same counts u c s w h has waits =
    let frame : with_id (waiting_frame u w) s.next_id ≡ framed_frame (wire_id (id_of c.first c.drawn)) (written u (Does w.call)) = ap (λ (id : ℕ). framed_frame id (written u (Does w.call))) (next-frame-id u c s h has) in
    record {
      client = draws-one counts u c s w.call (suc w.tries) (suc c.row) c.results (with_id (waiting_frame u w) s.next_id) (w.tries + 1) h has frame (let e : w.tries + 1 ≡ suc w.tries = omega arith in e);
      writes = λ i. frame i ∷ [];
      results = sym (append-nil c.results);
      waits = sym (ap (λ (o : Option Wait). call_of o) waits);
    }

same-step : (u : Setup) (c : Client) (b : Bool) (x y : Option Taken) (x' y' : Step) → AreSame u c x (Some x') → AreSame u c y (Some y') → AreSame u c (cond b x y) (Some (cond b x' y'))
same-step u c true x y x' y' one other = one
same-step u c false x y x' y' one other = other

pub waiting-same : CountsInRounds → (u : Setup) (c : Client) (s : ClientState) (w : Wait) (code : Code) (payload : List ℕ) → IsClient u c s → is_some c.token ≡ true → c.wait ≡ Some w
    → AreSame u c (reply_taken c w (answer_by code payload)) (Some (waiting_replied s (its_waiting u w) code payload))
waiting-same counts u c s w codes.Ok payload h has waits = result-same u c s w codes.Ok payload h waits
waiting-same counts u c s w codes.MiscErr payload h has waits = result-same u c s w codes.MiscErr payload h waits
waiting-same counts u c s w codes.NoMemory payload h has waits =
    same-step u c (nat_lt w.tries most_retries) (wrote (sent_again c w) (Asks (id_of c.first c.drawn) (Does w.call) false ∷ [])) (wrote (with_result c w NoMemory) [])
    (step (record s { waiting = Some (record { request = with_id (waiting_frame u w) s.next_id; retries = w.tries + 1 }); next_id = id_after s.next_id }) (Some (with_id (waiting_frame u w) s.next_id)) events.Step)
    (step (record s { waiting = None }) None (events.Told codes.NoMemory payload)) (again-same counts u c s w h has waits) (result-same u c s w codes.NoMemory payload h waits)
waiting-same counts u c s w code payload h has waits = result-same u c s w code payload h waits
