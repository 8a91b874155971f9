-- The replies to the requests of an opening.
use Rattle.std.proofs.Common.{◌≡◌, ◌∙◌, refl, sym, ap, subst, ℕ, zero, suc, ◌+◌, ◌/◌, ◌<◌, ◌^◌, Bool, true, false, cond, List, [], ◌∷◌, ◌++◌, length, drop, Option, Some, None, IfSome, arith, lit≤, append-nil}
use Rattle.std.specs.Prelude.{◌&&◌, ◌==◌, nat_lt, is_some, map, option_map}
use Rattle.std.specs.Int.{byte_at, bytes_high_first}
use Rattle.std.proofs.Math.Nat.{mod-lt}
use Rattle.std.proofs.lemmas.Bool.{and_from, and_parts, cond_both, lt-ltb, ltb-true}
use Rattle.byteorder.specs.Endian.{big_bytes, big_number}
use Rattle.afp_base.proofs.ListFacts.{all-append}
use Rattle.afp_base.specs.declared.code.Code.{Code}
use Rattle.afp_base.specs.declared.code.Code.TheVariants as codes
use Rattle.dsi_frame.specs.Replies.{listed}
use Rattle.dsi_session.specs.RequestIds.{CountsInRounds, id_after}
use Rattle.afp_calls_grammar.specs.grammar.Call.{canonical_call}
use Rattle.afp_calls_grammar.specs.declared.grammar.call.Call.TheVariants as calls
use Rattle.volume_spec.specs.TypedVolume.{are_bytes, is_byte}
use Rattle.afp_client.specs.session.Opening.{open_session_frame, opening_frame, session_call}
use Rattle.afp_client.specs.session.State.{ClientState, Waiting}
use Rattle.afp_client.specs.session.Takes.{most_retries, most_token, opened, opening_replied, opening_told, refusal, session_told, step, token_in, writes_opening}
use Rattle.afp_client.specs.session.Takes as real_steps
use Rattle.afp_client.specs.declared.session.stage.OpeningStep.{OpeningStep}
use Rattle.afp_client.specs.declared.session.stage.OpeningStep.TheVariants as steps
use Rattle.afp_client.specs.declared.session.stage.Stage.TheVariants as stages
use Rattle.once_across_breaks.specs.once.Messages.{Call, Done, wire_id}
use Rattle.once_across_breaks.specs.once.Run.{Client, Gone, Joining, Ready, Stage, Wait, in_stage, last_body, opens_with, same_request}
use Rattle.once_across_breaks.specs.once.Frames.{Taken, again_writes, opening_taken, step_taken, token_taken, wrote}
use Rattle.once_across_breaks.specs.once.Serial.{Setup, answer_by, can_carry, carried, in_command, written}
use Rattle.once_across_breaks_code.specs.client.Requests.{frame_of, framed_frame}
use Rattle.once_across_breaks_code.specs.client.Related.{IsClient, IsCounted, stage_at, waiting_of}
use Rattle.once_across_breaks_code.specs.client.Steps.{AreSame, IsOne, call_of, results_with, waits_behind}
use Rattle.once_across_breaks_code.proofs.OfClient.Ids.{first-next, wire-on}
use Rattle.once_across_breaks_code.proofs.OfClient.Breaking.{restaged}

-- ---- what is written

carried-same : (token : List ℕ) → can_carry token ≡ true → token ≡ carried token
carried-same token can = sym (ap (λ (b : Bool). cond b token []) can)

session-carries : (u : Setup) (token : Option (List ℕ)) → IfSome token (λ t. can_carry t ≡ true) → in_command (canonical_call (session_call token)) ≡ written u (last_body token)
session-carries u None can = refl
session-carries u (Some token) can = ap (λ (t : List ℕ). in_command (canonical_call (calls.DisconnectOldSession 0 t))) (carried-same token can)

-- the next request of the opening
opening-framed : (u : Setup) (c : Client) (s : ClientState) (at_step : OpeningStep) (id : ℕ) → IsClient u c s → id ≡ wire_id (suc c.opening_id)
    → opening_frame s.login s.token at_step id ≡ frame_of u (suc c.opening_id) (same_request c (stage_at at_step))
opening-framed u c s steps.OpenSession id h is = ap open_session_frame is
opening-framed u c s steps.Login id h is = λ i. framed_frame (is i) (sym h.login i)
opening-framed u c s steps.Session id h is =
    let carries : in_command (canonical_call (session_call s.token)) ≡ written u (last_body c.token) = ap (λ (t : Option (List ℕ)). in_command (canonical_call (session_call t))) h.token ∙ session-carries u c.token h.carried in
    λ i. framed_frame (is i) (carries i)

-- the command that waits, again
again-framed : (u : Setup) (opening : ℕ) (wait : Option Wait) → listed (option_map (λ (w : Waiting). w.request) (waiting_of u wait)) ≡ map (frame_of u opening) (again_writes wait)
again-framed u opening None = refl
again-framed u opening (Some w) = refl

again-written : (u : Setup) (c : Client) (s : ClientState) (opening : ℕ) → IsClient u c s → listed (option_map (λ (w : Waiting). w.request) s.waiting) ≡ map (frame_of u opening) (again_writes c.wait)
again-written u c s opening h = ap (λ (o : Option Waiting). listed (option_map (λ (w : Waiting). w.request) o)) h.waiting ∙ again-framed u opening c.wait

-- ---- single steps

goes-on : CountsInRounds → (u : Setup) (c : Client) (s : ClientState) (next : OpeningStep) (id tries retries : ℕ) → IsClient u c s → id ≡ wire_id c.opening_id → retries ≡ tries
    → IsOne u c (record { client = opens_with c (stage_at next) tries; writes = same_request c (stage_at next) ∷ []; got = false }) (writes_opening s next (id_after id) retries)
goes-on counts u c s next id tries retries h is same =
    let after : id_after id ≡ wire_id (suc c.opening_id) = wire-on counts id c.opening_id is in
    record {
      client = restaged u c s (stage_at next) tries (suc c.opening_id) (stages.Opening next (id_after id) retries) h (refl, after, same);
      writes = λ i. opening-framed u c s next (id_after id) h after i ∷ [];
      results = sym (append-nil c.results);
      waits = refl;
    }

refused-untold : (token : Option (List ℕ)) (at_step : OpeningStep) (code : Code) (wait : Option Wait) → results_with (refusal token at_step code) wait ≡ []
refused-untold token steps.OpenSession code wait = refl
refused-untold token steps.Login code wait = refl
refused-untold None steps.Session code wait = refl
refused-untold (Some old) steps.Session code wait = refl

refused-waits : (token : Option (List ℕ)) (at_step : OpeningStep) (code : Code) (call : Option Call) → call ≡ waits_behind (refusal token at_step code) call
refused-waits token steps.OpenSession code call = refl
refused-waits token steps.Login code call = refl
refused-waits None steps.Session code call = refl
refused-waits (Some old) steps.Session code call = refl

gone : (u : Setup) (c : Client) (s : ClientState) (at_step : OpeningStep) (code : Code) → IsClient u c s
    → IsOne u c (record { client = in_stage c Gone; writes = []; got = false }) (step (record s { stage = stages.Lost }) None (refusal s.token at_step code))
gone u c s at_step code h = record {
  client = restaged u c s Gone 0 c.opening_id stages.Lost h refl;
  writes = refl;
  results = sym (ap (λ (more : List Done). c.results ++ more) (refused-untold s.token at_step code c.wait) ∙ append-nil c.results);
  waits = refused-waits s.token at_step code (call_of c.wait);
}

-- ---- a token

-- bytes of a number are bytes
byte-small : (k x : ℕ) → is_byte (byte_at k x) ≡ true
byte-small zero x = lt-ltb (byte_at 0 x) 256 (mod-lt x (omega arith))
byte-small (suc k) x = lt-ltb (byte_at (suc k) x) 256 (mod-lt (x / 256 ^ suc k) (omega arith))

number-typed : (n x : ℕ) → are_bytes (bytes_high_first n x) ≡ true
number-typed zero x = refl
number-typed (suc n) x = and_from (is_byte (byte_at n x)) (are_bytes (bytes_high_first n x)) (byte-small n x) (number-typed n x)

rest-typed : (n : ℕ) (bytes : List ℕ) → are_bytes bytes ≡ true → are_bytes (drop n bytes) ≡ true
rest-typed zero bytes typed = typed
rest-typed (suc n) [] typed = refl
rest-typed (suc n) (b ∷ bytes) typed = rest-typed n bytes (and_parts (is_byte b) (are_bytes bytes) typed).1

token-block-typed : (token : List ℕ) → are_bytes token ≡ true → are_bytes (canonical_call (calls.DisconnectOldSession 0 token)) ≡ true
unfolding canonical_call
token-block-typed token typed =
    let ends : are_bytes (token ++ []) ≡ true = all-append is_byte token [] typed refl in
    all-append is_byte (big_bytes 4 (length token)) (token ++ []) (number-typed 4 (length token)) ends

last-of : (a b c : Bool) → (a && b && c) ≡ true → c ≡ true
last-of true true c is = is
last-of true false c is = absurd (cc)
last-of false b c is = absurd (cc)

few-typed : (token : List ℕ) → nat_lt (length token) (most_token + 1) ≡ true → are_bytes token ≡ true → can_carry token ≡ true
few-typed token few typed =
    let less : length token < most_token + 1 = ltb-true (length token) (most_token + 1) few in
    let room : most_token + 1 < 4294967296 = lit≤ tt in
    and_from (nat_lt (length token) 4294967296) (are_bytes (canonical_call (calls.DisconnectOldSession 0 token))) (lt-ltb (length token) 4294967296 (omega (arith, less, room))) (token-block-typed token typed)

token-carried : (payload : List ℕ) → are_bytes payload ≡ true → IfSome (token_in payload) (λ t. can_carry t ≡ true)
token-carried payload typed =
    let long : Bool = nat_lt 3 (length payload) in
    let whole : Bool = big_number 4 payload == length (drop 4 payload) in
    let few : Bool = nat_lt (length (drop 4 payload)) (most_token + 1) in
    cond_both (long && whole && few) (Some (drop 4 payload)) None (λ (o : Option (List ℕ)). IfSome o (λ t. can_carry t ≡ true))
    (λ is. few-typed (drop 4 payload) (last-of long whole few is) (rest-typed 4 payload typed)) (λ is. tt)

token-same : CountsInRounds → (u : Setup) (c : Client) (s : ClientState) (id : ℕ) (found : Option (List ℕ)) → IsClient u c s → id ≡ wire_id c.opening_id → c.drawn ≡ 0 → IfSome found (λ t. can_carry t ≡ true)
    → AreSame u c (token_taken c found) (option_map (λ (token : List ℕ). opened (record s { token = Some token; next_id = id_after id })) found)
token-same counts u c s id None h is none can = tt
token-same counts u c s id (Some token) h is none can = record {
  client = record {
    login = h.login;
    stage = (refl, refl);
    token = refl;
    carried = can;
    waiting = h.waiting;
    wait_id = h.wait_id;
    next_id = first-next (suc c.opening_id) c.drawn (id_after id) (wire-on counts id c.opening_id is) none;
  };
  writes = again-written u c s c.opening_id h;
  results = sym (append-nil c.results);
  waits = refl;
}

session-same : CountsInRounds → (u : Setup) (c : Client) (s : ClientState) (token : Option (List ℕ)) (id : ℕ) (payload : List ℕ) → IsClient u c s → c.token ≡ token → id ≡ wire_id c.opening_id → are_bytes payload ≡ true
    → AreSame u c (step_taken c Joining token payload) (session_told s token id payload)
session-same counts u c s (Some token) id payload h has is typed = record {
  client = restaged u c s Ready 0 c.opening_id stages.Ready h (refl, ap (λ (o : Option (List ℕ)). is_some o) has);
  writes = again-written u c s c.opening_id h;
  results = sym (append-nil c.results);
  waits = refl;
}
session-same counts u c s None id payload h has is typed =
    token-same counts u c s id (token_in payload) h is (subst (λ (o : Option (List ℕ)). IsCounted o c.first c.drawn s.next_id) has h.next_id) (token-carried payload typed)

-- ---- replies

step-same : CountsInRounds → (u : Setup) (c : Client) (s : ClientState) (at_step : OpeningStep) (id : ℕ) (payload : List ℕ) → IsClient u c s → id ≡ wire_id c.opening_id → are_bytes payload ≡ true
    → AreSame u c (step_taken c (stage_at at_step) c.token payload) (opening_told s at_step id payload)
step-same counts u c s steps.OpenSession id payload h is typed = goes-on counts u c s steps.Login id 0 0 h is refl
step-same counts u c s steps.Login id payload h is typed = goes-on counts u c s steps.Session id 0 0 h is refl
step-same counts u c s steps.Session id payload h is typed =
    subst (λ (o : Option (List ℕ)). AreSame u c (step_taken c Joining c.token payload) (session_told s o id payload)) (sym h.token) (session-same counts u c s c.token id payload h refl is typed)

same-if : (u : Setup) (c : Client) (b : Bool) (x y : Option Taken) (x' y' : Option real_steps.Step) → AreSame u c x x' → AreSame u c y y' → AreSame u c (cond b x y) (cond b x' y')
same-if u c true x y x' y' one other = one
same-if u c false x y x' y' one other = other

tried-again : CountsInRounds → (u : Setup) (c : Client) (s : ClientState) (at_step : OpeningStep) (id retries : ℕ) → IsClient u c s → c.stage ≡ stage_at at_step → id ≡ wire_id c.opening_id → retries ≡ c.tries
    → AreSame u c (wrote (opens_with c c.stage (suc c.tries)) (same_request c c.stage ∷ [])) (Some (writes_opening s at_step (id_after id) (retries + 1)))
tried-again counts u c s at_step id retries h there is same =
    subst (λ (x : Stage). AreSame u c (wrote (opens_with c x (suc c.tries)) (same_request c x ∷ [])) (Some (writes_opening s at_step (id_after id) (retries + 1)))) (sym there)
    (goes-on counts u c s at_step id (suc c.tries) (retries + 1) h is (let e : retries + 1 ≡ suc c.tries = omega (arith, same) in e))

pub opening-same : CountsInRounds → (u : Setup) (c : Client) (s : ClientState) (at_step : OpeningStep) (id retries : ℕ) (code : Code) (payload : List ℕ)
    → IsClient u c s → c.stage ≡ stage_at at_step → id ≡ wire_id c.opening_id → retries ≡ c.tries → are_bytes payload ≡ true
    → AreSame u c (opening_taken c (answer_by code payload)) (opening_replied s at_step id retries code payload)
opening-same counts u c s at_step id retries codes.Ok payload h there is same typed =
    subst (λ (x : Stage). AreSame u c (step_taken c x c.token payload) (opening_told s at_step id payload)) (sym there) (step-same counts u c s at_step id payload h is typed)
opening-same counts u c s at_step id retries codes.NoMemory payload h there is same typed =
    subst (λ (n : ℕ). AreSame u c (opening_taken c (answer_by codes.NoMemory payload)) (cond (nat_lt n most_retries) (Some (writes_opening s at_step (id_after id) (retries + 1))) (Some (step (record s { stage = stages.Lost }) None (refusal s.token at_step codes.NoMemory))))) (sym same)
    (same-if u c (nat_lt c.tries most_retries) (wrote (opens_with c c.stage (suc c.tries)) (same_request c c.stage ∷ [])) (wrote (in_stage c Gone) []) (Some (writes_opening s at_step (id_after id) (retries + 1)))
    (Some (step (record s { stage = stages.Lost }) None (refusal s.token at_step codes.NoMemory))) (tried-again counts u c s at_step id retries h there is same) (gone u c s at_step codes.NoMemory h))
opening-same counts u c s at_step id retries codes.MiscErr payload h there is same typed = gone u c s at_step codes.MiscErr h
opening-same counts u c s at_step id retries code payload h there is same typed = gone u c s at_step code h
