-- What a reply does to the client: its token, and what it tells.
use Rattle.std.proofs.Common.{◌≡◌, ◌≢◌, ◌∙◌, refl, sym, ap, subst, ℕ, zero, suc, ◌+◌, Bool, true, false, List, [], ◌∷◌, ◌++◌, Option, Some, None, append-nil}
use Rattle.std.specs.Prelude.{◌&&◌, ◌==◌, if◌then◌else◌, drop, length, nat_eq, nat_lt, option_map}
use Rattle.std.proofs.lemmas.Bool.{and_from, and_parts, cond_both}
use Rattle.afp_base.specs.Cached as cached
use Rattle.afp_base.specs.declared.code.Code.{Code}
use Rattle.afp_base.specs.declared.code.Code.TheVariants as code
use Rattle.byteorder.specs.Endian.{big_number}
use Rattle.dsi_frame.specs.Frame.{Frame}
use Rattle.volume_spec.specs.TypedVolume.{are_bytes, is_byte}
use Rattle.afp_client.specs.session.State.{ClientState, Waiting}
use Rattle.afp_client.specs.session.Takes.{Step, answers, if_answers, is_ok, is_retried, opened, opening_command, opening_replied, opening_told, ready_reply, refusal, session_refusal, session_told, step, takes, takes_by, takes_reply, waiting_replied, with_id, writes_opening}
use Rattle.afp_client.specs.session.Takes as real
use Rattle.afp_client.specs.declared.session.event.Event.{Event}
use Rattle.afp_client.specs.declared.session.event.Event.TheVariants as events
use Rattle.afp_client.specs.declared.session.stage.OpeningStep.{OpeningStep}
use Rattle.afp_client.specs.declared.session.stage.OpeningStep.TheVariants as steps
use Rattle.afp_client.specs.declared.session.stage.Stage as client_stage
use Rattle.afp_client.specs.declared.session.stage.Stage.TheVariants as stages
use Rattle.dsi_session.specs.RequestIds.{id_after}
use Rattle.once_across_breaks.specs.once.Dsi.{answered_block}
use Rattle.once_across_breaks.specs.once.Frames.{Tag, OfCall, OfOpening, Taken, client_takes, opening_taken, reply_taken, step_taken, token_taken, waiting_taken, wrote}
use Rattle.once_across_breaks.specs.once.Messages.{Answer, Done, Fine, MiscErr, NoMemory, Refuses, most_token, token_in}
use Rattle.once_across_breaks.specs.once.Run.{Asks, Client, Entering, Gone, Joining, Opening, Ready, Stage, Wait, id_of, in_stage, opens_with, same_request, sent_again, with_result}
use Rattle.once_across_breaks.specs.once.Messages.{Does}
use Rattle.once_across_breaks.specs.once.Serial.{answer_by}
use Rattle.once_across_breaks.specs.once.UnderWay.{TokenFits}
use Rattle.once_across_breaks_code.specs.client.Steps.{is_told, result_told, results_with}
use Rattle.once_across_breaks_code.specs.run.Doings.{told_in}
use Rattle.once_across_breaks_code.specs.run.Mirrors.{AreTold}

-- ---- the token

typed-drop : (n : ℕ) (xs : List ℕ) → are_bytes xs ≡ true → are_bytes (drop n xs) ≡ true
typed-drop zero xs typed = typed
typed-drop (suc n) [] typed = refl
typed-drop (suc n) (x ∷ xs) typed = typed-drop n xs (and_parts (is_byte x) (are_bytes xs) typed).1

token-in-fits : (block : List ℕ) → are_bytes block ≡ true → TokenFits (token_in block)
token-in-fits block typed =
    cond_both (nat_lt 3 (length block) && (big_number 4 block == length (drop 4 block)) && nat_lt (length (drop 4 block)) (most_token + 1)) (Some (drop 4 block)) None TokenFits
    (λ e. and_from (nat_lt (length (drop 4 block)) (most_token + 1)) (are_bytes (drop 4 block)) (last-of e) (typed-drop 4 block typed)) (λ e. tt)
  where
    last-of : (nat_lt 3 (length block) && (big_number 4 block == length (drop 4 block)) && nat_lt (length (drop 4 block)) (most_token + 1)) ≡ true → nat_lt (length (drop 4 block)) (most_token + 1) ≡ true
    last-of e = (and_parts (nat_lt 3 (length block) && (big_number 4 block == length (drop 4 block))) (nat_lt (length (drop 4 block)) (most_token + 1)) e).1

abbrev TakenFitsToken : Option Taken → Type 0
TakenFitsToken None = Unit {0}
TakenFitsToken (Some t) = TokenFits t.client.token

holding-fits : (c : Client) (o : Option (List ℕ)) → TokenFits o → TakenFitsToken (token_taken c o)
holding-fits c None fits = tt
holding-fits c (Some token) fits = fits

step-fits : (c : Client) (stage : Stage) (token : Option (List ℕ)) (block : List ℕ) → TokenFits c.token → (stage ≡ Joining → are_bytes block ≡ true) → TakenFitsToken (step_taken c stage token block)
step-fits c Opening token block fits typed = fits
step-fits c Entering token block fits typed = fits
step-fits c Joining None block fits typed = holding-fits c (token_in block) (token-in-fits block (typed refl))
step-fits c Joining (Some t) block fits typed = fits
step-fits c Ready token block fits typed = tt
step-fits c Gone token block fits typed = tt

opening-fits : (c : Client) (a : Answer) → TokenFits c.token → (c.stage ≡ Joining → are_bytes (answered_block a) ≡ true) → TakenFitsToken (opening_taken c a)
opening-fits c (Fine block) fits typed = step-fits c c.stage c.token block fits typed
opening-fits c NoMemory fits typed = cond_both (nat_lt c.tries 3) (wrote (opens_with c c.stage (suc c.tries)) (same_request c c.stage ∷ [])) (wrote (in_stage c Gone) []) TakenFitsToken (λ e. fits) (λ e. fits)
opening-fits c MiscErr fits typed = fits
opening-fits c (Refuses x block) fits typed = fits

reply-fits : (c : Client) (w : Wait) (a : Answer) → TokenFits c.token → TakenFitsToken (reply_taken c w a)
reply-fits c w (Fine block) fits = fits
reply-fits c w MiscErr fits = fits
reply-fits c w (Refuses x block) fits = fits
reply-fits c w NoMemory fits = cond_both (nat_lt w.tries 3) (wrote (sent_again c w) (Asks (id_of c.first c.drawn) (Does w.call) false ∷ [])) (wrote (with_result c w NoMemory) []) TakenFitsToken (λ e. fits) (λ e. fits)

waiting-fits : (c : Client) (wait : Option Wait) (tag : Tag) (a : Answer) → TokenFits c.token → TakenFitsToken (waiting_taken c wait tag a)
waiting-fits c None tag a fits = tt
waiting-fits c (Some w) OfOpening a fits = tt
waiting-fits c (Some w) (OfCall id) a fits = cond_both (nat_eq id w.id) (reply_taken c w a) None TakenFitsToken (λ e. reply-fits c w a fits) (λ e. tt)

takes-fit : (c : Client) (stage : Stage) (tag : Tag) (a : Answer) → TokenFits c.token → (c.stage ≡ Joining → are_bytes (answered_block a) ≡ true) → TakenFitsToken (client_takes c stage tag a)
takes-fit c Opening tag a fits typed = opening-fits c a fits typed
takes-fit c Entering tag a fits typed = opening-fits c a fits typed
takes-fit c Joining tag a fits typed = opening-fits c a fits typed
takes-fit c Ready tag a fits typed = waiting-fits c c.wait tag a fits
takes-fit c Gone tag a fits typed = tt

-- the client's token still fits
pub token-stays-fit : (c : Client) (tag : Tag) (a : Answer) (t : Taken) → TokenFits c.token → (c.stage ≡ Joining → are_bytes (answered_block a) ≡ true) → client_takes c c.stage tag a ≡ Some t → TokenFits t.client.token
token-stays-fit c tag a t fits typed is = subst TakenFitsToken is (takes-fit c c.stage tag a fits typed)

pub typed-answer : (c : Code) (block : List ℕ) → are_bytes block ≡ true → are_bytes (answered_block (answer_by c block)) ≡ true
typed-answer code.Ok block typed = typed
typed-answer code.MiscErr block typed = refl
typed-answer code.NoMemory block typed = refl
typed-answer c block typed = typed

-- ---- the real client has a link still, and tells only where a request waits

pub record WellTaken (s : ClientState) (st : Step) : Type 0 where
  pub linked : st.state.stage ≢ stages.Unlinked
  pub told : is_told st.event ≡ true → s.waiting ≢ None

abbrev IsWellTaken : ClientState → Option Step → Type 0
IsWellTaken s None = Unit {0}
IsWellTaken s (Some st) = WellTaken s st

opening-well : (s : ClientState) (at_step : OpeningStep) (id retries : ℕ) → WellTaken s (writes_opening s at_step id retries)
opening-well s at_step id retries = record { linked = λ e. cc; told = λ e. absurd (cc) }

opened-well : (s x : ClientState) → WellTaken s (opened x)
opened-well s x = record { linked = λ e. cc; told = λ e. absurd (cc) }

session-well : (s : ClientState) (token : Option (List ℕ)) (id : ℕ) (payload : List ℕ) → IsWellTaken s (session_told s token id payload)
session-well s (Some token) id payload = opened-well s s
session-well s None id payload = by (real.token_in payload)
  where
    by : (o : Option (List ℕ)) → IsWellTaken s (option_map (λ token. opened (record s { token = Some token; next_id = id_after id })) o)
    by None = tt
    by (Some token) = opened-well s (record s { token = Some token; next_id = id_after id })

told-well : (s : ClientState) (at_step : OpeningStep) (id : ℕ) (payload : List ℕ) → IsWellTaken s (opening_told s at_step id payload)
told-well s steps.OpenSession id payload = opening-well s steps.Login (id_after id) 0
told-well s steps.Login id payload = opening-well s steps.Session (id_after id) 0
told-well s steps.Session id payload = session-well s s.token id payload

no-tells : (token : Option (List ℕ)) (at_step : OpeningStep) (c : Code) → is_told (refusal token at_step c) ≡ false
no-tells token steps.OpenSession c = refl
no-tells token steps.Login c = refl
no-tells None steps.Session c = refl
no-tells (Some token) steps.Session c = refl

lost-well : (s : ClientState) (at_step : OpeningStep) (c : Code) → WellTaken s (step (record s { stage = stages.Lost }) None (refusal s.token at_step c))
lost-well s at_step c = record { linked = λ e. cc; told = λ e. absurd (let f : false ≡ true = sym (no-tells s.token at_step c) ∙ e in cc) }

replied-well : (s : ClientState) (at_step : OpeningStep) (id retries : ℕ) (c : Code) (payload : List ℕ) → IsWellTaken s (opening_replied s at_step id retries c payload)
replied-well s at_step id retries c payload =
    cond_both (is_retried c retries) (Some (writes_opening s at_step (id_after id) (retries + 1))) (if is_ok c then opening_told s at_step id payload else Some (step (record s { stage = stages.Lost }) None (refusal s.token at_step c))) (IsWellTaken s)
    (λ e. opening-well s at_step (id_after id) (retries + 1))
    (λ e. cond_both (is_ok c) (opening_told s at_step id payload) (Some (step (record s { stage = stages.Lost }) None (refusal s.token at_step c))) (IsWellTaken s) (λ f. told-well s at_step id payload) (λ f. lost-well s at_step c))

answers-well : (s : ClientState) (b : Bool) (c : Option Code) (does : Code → Option Step) → ((x : Code) → IsWellTaken s (does x)) → IsWellTaken s (if_answers b c does)
answers-well s true (Some c) does well = well c
answers-well s true None does well = tt
answers-well s false c does well = tt

waiting-well : (s : ClientState) (w : Waiting) (c : Code) (payload : List ℕ) → s.stage ≡ stages.Ready → s.waiting ≡ Some w → WellTaken s (waiting_replied s w c payload)
waiting-well s w c payload ready waits =
    cond_both (is_retried c w.retries)
    (step (record s { waiting = Some (record { request = with_id w.request s.next_id; retries = w.retries + 1 }); next_id = id_after s.next_id }) (Some (with_id w.request s.next_id)) events.Step)
    (step (record s { waiting = None }) None (events.Told c payload)) (WellTaken s)
    (λ e. record { linked = λ un. let f : stages.Ready ≡ stages.Unlinked = sym ready ∙ un in absurd (cc); told = λ e. absurd (cc) })
    (λ e. record { linked = λ un. let f : stages.Ready ≡ stages.Unlinked = sym ready ∙ un in absurd (cc); told = λ e none. let f : Some w ≡ None = sym waits ∙ none in cc })

ready-well : (s : ClientState) (waiting : Option Waiting) (c : Option Code) (f : Frame) → s.stage ≡ stages.Ready → s.waiting ≡ waiting → IsWellTaken s (ready_reply s waiting c f)
ready-well s None c f ready waits = tt
ready-well s (Some w) c f ready waits = answers-well s (answers w.request.command w.request.id f) c (λ x. Some (waiting_replied s w x f.payload)) (λ x. waiting-well s w x f.payload ready waits)

reply-well : (s : ClientState) (stage : client_stage.Stage) (c : Option Code) (f : Frame) → s.stage ≡ stage → IsWellTaken s (takes_reply s stage c f)
reply-well s stages.Unlinked c f is = tt
reply-well s (stages.Opening at_step id retries) c f is = answers-well s (answers (opening_command at_step) id f) c (λ x. opening_replied s at_step id retries x f.payload) (λ x. replied-well s at_step id retries x f.payload)
reply-well s stages.Ready c f is = ready-well s s.waiting c f is refl
reply-well s stages.Lost c f is = tt

pub takes-well : (s : ClientState) (c : Option Code) (f : Frame) (st : Step) → f.reply ≡ true → takes s c f ≡ Some st → WellTaken s st
takes-well s c f st reply is = subst (IsWellTaken s) (sym (ap (λ (b : Bool). takes_by b s c f) reply) ∙ is) (reply-well s s.stage c f refl)

-- ---- results

told-none : (ds : List Done) (told : List cached.Answer) → AreTold ds told → AreTold (ds ++ []) (told ++ [])
told-none ds told h = subst (λ (l : List Done). AreTold l (told ++ [])) (sym (append-nil ds)) (subst (AreTold ds) (sym (append-nil told)) h)

told-one : (ds : List Done) (told : List cached.Answer) (d : Done) (a : cached.Answer) → d.answer ≡ answer_by a.code a.block → AreTold ds told → AreTold (ds ++ d ∷ []) (told ++ a ∷ [])
told-one [] [] d a is h = (is, tt)
told-one (x ∷ ds) (y ∷ told) d a is h = (h.0, told-one ds told d a is h.1)
told-one [] (y ∷ told) d a is h = absurd h
told-one (x ∷ ds) [] d a is h = absurd h

told-by : (c : Code) (block : List ℕ) (wait : Option Wait) (ds : List Done) (told : List cached.Answer) → wait ≢ None → AreTold ds told → AreTold (ds ++ result_told wait c block) (told ++ record { code = c; block = block } ∷ [])
told-by c block None ds told waits h = absurd (waits refl)
told-by c block (Some w) ds told waits h = told-one ds told (record { id = w.id; call = w.call; answer = answer_by c block }) (record { code = c; block = block }) refl h

pub told-more : (event : Event) (wait : Option Wait) (ds : List Done) (told : List cached.Answer) → (is_told event ≡ true → wait ≢ None) → AreTold ds told → AreTold (ds ++ results_with event wait) (told ++ told_in event)
told-more (events.Told c block) wait ds told waits h = told-by c block wait ds told (waits refl) h
told-more events.NotYet wait ds told waits h = told-none ds told h
told-more events.Step wait ds told waits h = told-none ds told h
told-more events.Ready wait ds told waits h = told-none ds told h
told-more (events.Refused c) wait ds told waits h = told-none ds told h
told-more (events.Lost c) wait ds told waits h = told-none ds told h
told-more events.Tickle wait ds told waits h = told-none ds told h
told-more (events.Attention word) wait ds told waits h = told-none ds told h
told-more events.Closed wait ds told waits h = told-none ds told h
told-more (events.Bad place) wait ds told waits h = told-none ds told h
told-more events.Memory wait ds told waits h = told-none ds told h
