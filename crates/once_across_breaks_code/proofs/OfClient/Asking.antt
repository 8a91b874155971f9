-- A call is asked.
use Rattle.std.proofs.Common.{◌≡◌, ◌∙◌, refl, sym, subst, ℕ, suc, true, false, List, [], ◌∷◌, Option, Some, None}
use Rattle.std.specs.Prelude.{is_some}
use Rattle.dsi_frame.specs.Frame.{Frame}
use Rattle.dsi_session.specs.RequestIds.{CountsInRounds, id_after}
use Rattle.afp_calls_grammar.specs.grammar.Call.{canonical_data}
use Rattle.afp_calls_grammar.specs.declared.grammar.call.Call as grammar
use Rattle.afp_client.specs.session.State.{ClientState, IsReady, call_frame, framed_call}
use Rattle.afp_client.specs.session.Takes.{asked}
use Rattle.afp_client.specs.declared.session.stage.Stage as real
use Rattle.once_across_breaks.specs.once.Messages.{Call, Does, Done, wire_id}
use Rattle.once_across_breaks.specs.once.Run.{Asks, Client, Ready, Wait, draws, id_of}
use Rattle.once_across_breaks.specs.once.Frames.{Taken}
use Rattle.once_across_breaks.specs.once.Serial.{Setup, written}
use Rattle.once_across_breaks_code.specs.client.Requests.{IsCall, carried_with, framed_frame}
use Rattle.once_across_breaks_code.specs.client.Related.{IsClient, IsCounted, IsStage, waiting_of}
use Rattle.once_across_breaks_code.specs.client.Moves.{commanded, frames_of}
use Rattle.once_across_breaks_code.specs.client.Steps.{AsksAreCommands}
use Rattle.once_across_breaks_code.proofs.OfClient.Ids.{next-on, next-wire}

-- the next id, where there is a token
pub counted : (token : Option (List ℕ)) (first drawn next : ℕ) → is_some token ≡ true → IsCounted token first drawn next → next ≡ id_of first drawn
counted None first drawn next has is = cc
counted (Some token) first drawn next has is = is

counted-on : CountsInRounds → (token : Option (List ℕ)) (first drawn next : ℕ) → is_some token ≡ true → IsCounted token first drawn next → IsCounted token first (suc drawn) (id_after next)
counted-on counts None first drawn next has is = absurd (cc)
counted-on counts (Some token) first drawn next has is = next-on counts first drawn next is

pub next-frame-id : (u : Setup) (c : Client) (s : ClientState) → IsClient u c s → is_some c.token ≡ true → s.next_id ≡ wire_id (id_of c.first c.drawn)
next-frame-id u c s h has = next-wire c.first c.drawn s.next_id (counted c.token c.first c.drawn s.next_id has h.next_id)

-- the request of a command is written under the next id, and waits
pub draws-one : CountsInRounds → (u : Setup) (c : Client) (s : ClientState) (call : Call) (tries row : ℕ) (results : List Done) (frame : Frame) (retries : ℕ)
    → IsClient u c s
    → is_some c.token ≡ true
    → frame ≡ framed_frame (wire_id (id_of c.first c.drawn)) (written u (Does call))
    → retries ≡ tries
    → IsClient u (draws c call tries row results) (record s { waiting = Some (record { request = frame; retries = retries }); next_id = id_after s.next_id })
draws-one counts u c s call tries row results frame retries h has is same = record {
  login = h.login;
  stage = h.stage;
  token = h.token;
  carried = h.carried;
  waiting = λ i. Some (record { request = is i; retries = same i });
  wait_id = next-wire c.first c.drawn (id_of c.first c.drawn) refl;
  next_id = counted-on counts c.token c.first c.drawn s.next_id has h.next_id;
}

-- the frame of a call carries what it carries
framed-with : (id : ℕ) (call : grammar.Call) (bytes : Option (List ℕ)) → framed_call id call bytes ≡ framed_frame id (carried_with call bytes)
framed-with id call None = refl
framed-with id call (Some bytes) = refl

call-framed : (id wire : ℕ) (u : Setup) (command : Call) (call : grammar.Call) → IsCall u command call → id ≡ wire → call_frame id call ≡ framed_frame wire (written u (Does command))
call-framed id wire u command call is same = framed-with id call (canonical_data call) ∙ (λ i. framed_frame (same i) (sym is i))

none-waits : (u : Setup) (w : Option Wait) → waiting_of u w ≡ None → w ≡ None
none-waits u None is = refl
none-waits u (Some w) is = cc

-- what the law's client does
abbrev pub command_taken : Client → Call → Taken
command_taken c command = record { client = draws c command 0 c.row c.results; writes = Asks (id_of c.first c.drawn) (Does command) false ∷ []; got = false }

pub record IsAsked (u : Setup) (c : Client) (s : ClientState) (command : Call) (call : grammar.Call) : Type 0 where
  pub moves : commanded c c.stage c.wait command ≡ Some (command_taken c command)
  pub opened : c.stage ≡ Ready
  pub idle : c.wait ≡ None
  pub client : IsClient u (draws c command 0 c.row c.results) (asked s call)
  pub writes : call_frame s.next_id call ∷ [] ≡ frames_of u (command_taken c command)

pub is-asked : CountsInRounds → (u : Setup) (c : Client) (s : ClientState) (command : Call) (call : grammar.Call) → IsClient u c s → IsReady s → IsCall u command call → IsAsked u c s command call
is-asked counts u c s command call h ready is =
    let there : (c.stage ≡ Ready) × (is_some c.token ≡ true) = subst (λ (x : real.Stage). IsStage c.stage c.tries c.opening_id c.token x) ready.opened h.stage in
    let waits : c.wait ≡ None = none-waits u c.wait (sym h.waiting ∙ ready.idle) in
    let frame = call-framed s.next_id (wire_id (id_of c.first c.drawn)) u command call is (next-frame-id u c s h there.1) in
    record {
      moves = λ i. commanded c (there.0 i) (waits i) command;
      opened = there.0;
      idle = waits;
      client = draws-one counts u c s command 0 c.row c.results (call_frame s.next_id call) 0 h there.1 frame refl;
      writes = λ i. frame i ∷ [];
    }

pub asks-are-commands : CountsInRounds → AsksAreCommands
asks-are-commands counts u c s command call h ready is =
    let one = is-asked counts u c s command call h ready is in
    (command_taken c command, one.moves, one.client, one.writes, refl)
