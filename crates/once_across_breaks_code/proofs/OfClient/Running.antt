-- Whatever a client does, step by step, the law's client does.
use Rattle.std.proofs.Common.{◌≡◌, ◌∙◌, refl, sym, ap, subst, ℕ, Bool, true, false, not, cond, List, [], ◌∷◌, ◌++◌, Option, Some, None, IfSome, inl, inr, append-nil, append_assoc}
use Rattle.std.specs.Prelude.{map}
use Rattle.std.proofs.lemmas.Bool.{cases_Bool}
use Rattle.std.proofs.lemmas.List.Elements.{filter-append}
use Rattle.std.specs.List.{AllByRecursion}
use Rattle.afp_base.proofs.ListFacts.{all-ends}
use Rattle.afp_base.specs.declared.code.Code.{Code}
use Rattle.dsi_frame.specs.Frame.{Frame}
use Rattle.dsi_frame.specs.Replies.{code_word, listed}
use Rattle.dsi_session.specs.RequestIds.{CountsInRounds, first_request_id}
use Rattle.afp_calls_grammar.specs.grammar.Laws.{IsFunction}
use Rattle.afp_calls_grammar.specs.declared.grammar.call.Call as grammar
use Rattle.volume_spec.specs.TypedVolume.{are_bytes, is_byte}
use Rattle.afp_client.specs.session.Opening.{open_session_frame}
use Rattle.afp_client.specs.session.Run.{Action, Follows, Result, asked_in, result_by, results_by, taken_in}
use Rattle.afp_client.specs.session.Run as real
use Rattle.afp_client.specs.session.State.{ClientState, call_frame}
use Rattle.afp_client.specs.session.Takes.{IsCodeIn, asked, begun, broken, takes}
use Rattle.afp_client.specs.session.Takes as real_steps
use Rattle.afp_client.specs.declared.session.login.Login as logins
use Rattle.afp_client.specs.declared.session.event.Event.{Event}
use Rattle.afp_client.specs.declared.session.event.Event.TheVariants as events
use Rattle.once_across_breaks.specs.once.Messages.{Call, Done}
use Rattle.once_across_breaks.specs.once.Run.{Asks, Client, Opens, Request, Wait, begins, fresh_client}
use Rattle.once_across_breaks.specs.once.Frames.{Taken}
use Rattle.once_across_breaks.specs.once.Serial.{Setup, answer_by}
use Rattle.once_across_breaks_code.specs.client.Requests.{IsAskable, IsCall, LogsIn, frame_of, tag_in}
use Rattle.once_across_breaks_code.specs.client.Related.{IsClient, made_client}
use Rattle.once_across_breaks_code.specs.client.Moves.{Breaks, Commands, Move, Takes, frames_of, moved}
use Rattle.once_across_breaks_code.specs.client.Steps.{IsTaken, Stays, call_of, is_told, results_with, waits_behind}
use Rattle.once_across_breaks_code.specs.client.Runs.{AreResults, FirstRunsAreMoves, IsDone, IsMove, IsOfBytes, IsReplyMove, LinksAreMoves, Moves, RunsAreMoves, Waits, requests_in}
use Rattle.once_across_breaks_code.proofs.OfClient.Breaking.{breaks-stay, begun-client}
use Rattle.once_across_breaks_code.proofs.OfClient.Asking.{command_taken, is-asked}
use Rattle.once_across_breaks_code.proofs.OfClient.Replying.{only-replies-are-taken, requests-leave-all}
use Rattle.once_across_breaks_code.proofs.OfClient.Typed.{bytes-typed, frames-typed}
use Rattle.once_across_breaks_code.proofs.OfClient.Calling.{calls-are-commands}

-- ---- frames that are requests

requests-append : (first more : List Frame) → requests_in (first ++ more) ≡ requests_in first ++ requests_in more
requests-append first more = filter-append (λ (f : Frame). not f.reply) first more

all-requests : (u : Setup) (opening : ℕ) (rs : List Request) → requests_in (map (frame_of u opening) rs) ≡ map (frame_of u opening) rs
all-requests u opening [] = refl
all-requests u opening (Opens ∷ rs) = ap (λ (fs : List Frame). frame_of u opening Opens ∷ fs) (all-requests u opening rs)
all-requests u opening (Asks id body again ∷ rs) = ap (λ (fs : List Frame). frame_of u opening (Asks id body again) ∷ fs) (all-requests u opening rs)

own-requests : (u : Setup) (t : Taken) (frames : List Frame) → frames ≡ frames_of u t → requests_in frames ≡ frames_of u t
own-requests u t frames is = ap requests_in is ∙ all-requests u t.client.opening_id t.writes

no-requests : (writes : Option Frame) → IfSome writes (λ f. f.reply ≡ true) → requests_in (listed writes) ≡ []
no-requests None reply = refl
no-requests (Some f) reply = ap (λ (b : Bool). cond (not b) (f ∷ []) []) reply

-- ---- one action more in front

-- an action that is no move
stands : (u : Setup) (c : Client) (a : Action) (actions : List Action) (t : ClientState) (frames first more : List Frame) (results : List Result)
    → ((moves : List Move) → IsMove u a moves moves)
    → frames ≡ first ++ more
    → requests_in first ≡ []
    → IsDone u c actions t more results
    → IsDone u c (a ∷ actions) t frames results
stands u c a actions t frames first more results none is writes d = record {
  moves = d.moves;
  last = d.last;
  done = d.done;
  are = (d.moves, none d.moves, d.are);
  runs = subst (λ (fs : List Frame). Moves u c d.moves d.last fs) (sym (ap requests_in is ∙ requests-append first more ∙ ap (λ (fs : List Frame). fs ++ requests_in more) writes)) d.runs;
  client = d.client;
  grown = d.grown;
  told = d.told;
}

-- an action that is a move
goes : (u : Setup) (c : Client) (a : Action) (actions : List Action) (t : ClientState) (frames first more : List Frame) (results behind : List Result) (move : Move) (by : Taken) (told : List Done)
    → ((moves : List Move) → IsMove u a (move ∷ moves) moves)
    → moved c move ≡ Some by
    → frames ≡ first ++ more
    → first ≡ frames_of u by
    → by.client.results ≡ c.results ++ told
    → (d : IsDone u by.client actions t more behind)
    → AreResults u (told ++ d.done) results
    → IsDone u c (a ∷ actions) t frames results
goes u c a actions t frames first more results behind move by told one moves is writes grown d are = record {
  moves = move ∷ d.moves;
  last = d.last;
  done = told ++ d.done;
  are = (d.moves, one d.moves, d.are);
  runs = (by, requests_in more, moves, ap requests_in is ∙ requests-append first more ∙ ap (λ (fs : List Frame). fs ++ requests_in more) (own-requests u by first writes), d.runs);
  client = d.client;
  grown = d.grown ∙ ap (λ (rs : List Done). rs ++ d.done) grown ∙ append_assoc c.results told d.done;
  told = are;
}

-- ---- results

untold-result : (call : Option grammar.Call) (event : Event) (told untold : List Result) → is_told event ≡ false → result_by call event told untold ≡ untold
untold-result None event told untold e = refl
untold-result (Some c) (events.Told code block) told untold e = cc
untold-result (Some c) event told untold e = refl

results-join : (u : Setup) (wait : Option Wait) (call : Option grammar.Call) (event : Event) (done : List Done) (actions : List Action) → Waits u (call_of wait) call
    → AreResults u done (results_by (waits_behind event call) actions)
    → AreResults u (results_with event wait ++ done) (result_by call event (results_by None actions) (results_by call actions))
results-join u None None (events.Told code block) done actions waits are = are
results-join u None None event done actions waits are = are
results-join u (Some w) None event done actions waits are = absurd waits
results-join u None (Some call) event done actions waits are = absurd waits
results-join u (Some w) (Some call) (events.Told code block) done actions waits are = (record { call = waits; answer = refl }, are)
results-join u (Some w) (Some call) event done actions waits are = are

pub waits-on : (u : Setup) (event : Event) (command : Option Call) (call : Option grammar.Call) → Waits u command call → Waits u (waits_behind event command) (waits_behind event call)
waits-on u (events.Told code block) command call waits = tt
waits-on u event command call waits = waits

-- ---- single actions

reply-move : (u : Setup) (f : Frame) (st : real_steps.Step) (code : Code) (word : code_word code ≡ f.word) (moves : List Move) → f.reply ≡ true → IsMove u (real.takes_frame f st) (Takes (tag_in f) (answer_by code f.payload) ∷ moves) moves
reply-move u f st code word moves is = subst (λ (b : Bool). IsReplyMove b f (Takes (tag_in f) (answer_by code f.payload) ∷ moves) moves) (sym is) (code, word, refl)

request-move : (u : Setup) (f : Frame) (st : real_steps.Step) (moves : List Move) → f.reply ≡ false → IsMove u (real.takes_frame f st) moves moves
request-move u f st moves is = subst (λ (b : Bool). IsReplyMove b f moves moves) (sym is) refl

-- ---- runs

run-moves : CountsInRounds → IsFunction → (u : Setup) (t : ClientState) (actions : List Action) (c : Client) (s : ClientState) (call : Option grammar.Call) (frames : List Frame)
    → IsClient u c s → Waits u (call_of c.wait) call → AllByRecursion IsAskable (asked_in actions) → AllByRecursion IsOfBytes (taken_in actions) → Follows s actions t frames
    → IsDone u c actions t frames (results_by call actions)
run-moves counts spelt u t [] c s call frames h waits asked_calls taken f = record {
  moves = [];
  last = c;
  done = [];
  are = refl;
  runs = (refl, ap requests_in f.1);
  client = subst (λ (x : ClientState). IsClient u c x) (sym f.0) h;
  grown = sym (append-nil c.results);
  told = tt;
}
run-moves counts spelt u t (real.breaks ∷ actions) c s call frames h waits asked_calls taken f =
    let client : IsClient u c f.0 = subst (λ (x : ClientState). IsClient u c x) (sym f.2) (breaks-stay u c s h) in
    stands u c real.breaks actions t frames [] f.1 (results_by call actions) (λ moves. refl) f.3 refl (run-moves counts spelt u t actions c f.0 call f.1 client waits asked_calls taken f.4)
run-moves counts spelt u t (real.begins ∷ actions) c s call frames h waits asked_calls taken f =
    let client : IsClient u (begins c) f.0 = subst (λ (x : ClientState). IsClient u (begins c) x) (sym f.2) (begun-client u c s h) in
    let d : IsDone u (begins c) actions t f.1 (results_by call actions) = run-moves counts spelt u t actions (begins c) f.0 call f.1 client waits asked_calls taken f.4 in
    let by : Taken = record { client = begins c; writes = Opens ∷ []; got = false } in
    goes u c real.begins actions t frames (open_session_frame first_request_id ∷ []) f.1 (results_by call actions) (results_by call actions) Breaks by [] (λ moves. refl) refl f.3 refl (sym (append-nil c.results)) d d.told
run-moves counts spelt u t (real.asks next ∷ actions) c s call frames h waits asked_calls taken f =
    let it : (command : Call) × IsCall u command next = calls-are-commands spelt u next asked_calls.0 in
    let one = is-asked counts u c s it.0 next h f.2.0 it.1 in
    let behind : Client = (command_taken c it.0).client in
    let client : IsClient u behind f.0 = subst (λ (x : ClientState). IsClient u behind x) (sym f.2.1) one.client in
    let d : IsDone u behind actions t f.1 (results_by (Some next) actions) = run-moves counts spelt u t actions behind f.0 (Some next) f.1 client it.1 asked_calls.1 taken f.4 in
    goes u c (real.asks next) actions t frames (call_frame s.next_id next ∷ []) f.1 (results_by (Some next) actions) (results_by (Some next) actions) (Commands it.0) (command_taken c it.0) [] (λ moves. (it.0, it.1, refl)) one.moves f.3 one.writes (sym (append-nil c.results)) d d.told
run-moves counts spelt u t (real.takes_frame g st ∷ actions) c s call frames h waits asked_calls taken f =
    elim (cases_Bool g.reply) [
      | inl reply ↦
          let x : IsTaken u c f.2.1 g st = subst (λ (o : Option real_steps.Step). IfSome o (IsTaken u c f.2.1 g)) f.2.3 (only-replies-are-taken counts u c s f.2.1 g h reply taken.0) in
          let client : IsClient u x.taken.client f.0 = subst (λ (y : ClientState). IsClient u x.taken.client y) (sym f.2.4) x.one.client in
          let on : Waits u (call_of x.taken.client.wait) (waits_behind st.event call) = subst (λ (o : Option Call). Waits u o (waits_behind st.event call)) (sym x.one.waits) (waits-on u st.event (call_of c.wait) call waits) in
          let d : IsDone u x.taken.client actions t f.1 (results_by (waits_behind st.event call) actions) = run-moves counts spelt u t actions x.taken.client f.0 (waits_behind st.event call) f.1 client on asked_calls taken.1 f.4 in
          let word : code_word x.code ≡ g.word = subst (λ (o : Option Code). IsCodeIn g.word o) x.found_is f.2.2 in
          goes u c (real.takes_frame g st) actions t frames (listed st.writes) f.1 (result_by call st.event (results_by None actions) (results_by call actions)) (results_by (waits_behind st.event call) actions)
          (Takes (tag_in g) (answer_by x.code g.payload)) x.taken (results_with st.event c.wait) (λ moves. reply-move u g st x.code word moves reply) x.takes f.3 x.one.writes x.one.results d
          (results-join u c.wait call st.event d.done actions waits d.told)
      | inr other ↦
          let y : Stays s st = subst (λ (o : Option real_steps.Step). IfSome o (Stays s)) f.2.3 (requests-leave-all s f.2.1 g other) in
          let client : IsClient u c f.0 = subst (λ (z : ClientState). IsClient u c z) (sym (f.2.4 ∙ y.state)) h in
          let d : IsDone u c actions t f.1 (results_by call actions) = run-moves counts spelt u t actions c f.0 call f.1 client waits asked_calls taken.1 f.4 in
          subst (λ (rs : List Result). IsDone u c (real.takes_frame g st ∷ actions) t frames rs) (sym (untold-result call st.event (results_by None actions) (results_by call actions) y.untold))
          (stands u c (real.takes_frame g st) actions t frames (listed st.writes) f.1 (results_by call actions) (λ moves. request-move u g st moves other) f.3 (no-requests st.writes y.writes) d)
    ]

pub runs-are-moves : CountsInRounds → IsFunction → RunsAreMoves
runs-are-moves counts spelt u c s t call actions frames h waits given f = run-moves counts spelt u t actions c s call frames h waits given.calls given.frames f

-- the first link is begun
pub fresh-is : (u : Setup) (login : logins.Login) → LogsIn u login → IsClient u fresh_client (begun (made_client login))
fresh-is u login logs = record { login = logs; stage = (refl, refl, refl); token = refl; carried = tt; waiting = refl; wait_id = tt; next_id = refl }

pub first-runs-are-moves : CountsInRounds → IsFunction → FirstRunsAreMoves
first-runs-are-moves counts spelt u login t actions frames logs given f = run-moves counts spelt u t actions fresh_client (begun (made_client login)) None frames (fresh-is u login logs) tt given.calls given.frames f

-- ---- frames of bytes

pub links-are-moves : CountsInRounds → IsFunction → LinksAreMoves
links-are-moves counts spelt u c start now call bytes actions frames h waits are asked_calls link =
    let all = all-ends is_byte link.given.filled now.held.rest (subst (λ (xs : List ℕ). are_bytes xs ≡ true) link.given.whole (bytes-typed bytes are)) in
    run-moves counts spelt u now.state actions c start call frames h waits asked_calls (frames-typed link.given.filled (taken_in actions) all.0 link.given.spelled) link.follows
