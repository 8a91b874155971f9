-- Requests of a client at a line.
use Rattle.std.proofs.Common.{◌≡◌, ℕ, true, false, List, [], ◌∷◌, ◌++◌, All, refl, sym, ap, ◌∙◌, subst, inl, inr, append-nil}
use Rattle.std.proofs.lemmas.List.Elements.{All-head}
use Rattle.std.specs.Prelude.{Option, Some, None}
use Rattle.afp_base.specs.declared.code.Code.{Code}
use Rattle.afp_base.specs.declared.ids.LinkNumber.{LinkNumber}
use Rattle.afp_calls_grammar.specs.grammar.Call.{canonical_data}
use Rattle.afp_calls_grammar.specs.declared.grammar.call.Call.{Call}
use Rattle.afp_client.specs.session.Opening.{open_session_frame}
use Rattle.afp_client.specs.session.State.{call_frame, framed_call}
use Rattle.afp_serial.specs.Answer.{answer, link_number}
use Rattle.afp_serial.specs.History.{answers, stand}
use Rattle.afp_serial.specs.Shown.{Shown}
use Rattle.afp_serial.specs.Went.{Step, step}
use Rattle.afp_serial.specs.World.{World}
use Rattle.afp_serial.specs.declared.ask.Ask.TheVariants as asks
use Rattle.afp_serial.specs.declared.ask.Entry.{Entry}
use Rattle.afp_serial.specs.declared.ask.Told.{Told}
use Rattle.afp_serial.specs.declared.ask.Told.TheVariants as tells
use Rattle.afp_serial.proofs.Grows.{stand-append}
use Rattle.afp_server.specs.link.Calls.{AsksCall, CallTold}
use Rattle.afp_server.specs.link.Did.{Did}
use Rattle.afp_server.specs.link.OpenSession.{OpenTold, OpensSession, no_link}
use Rattle.afp_server.specs.link.Script.{Does}
use Rattle.afp_server.specs.link.Tally.{and_told, answered_after}
use Rattle.afp_server.specs.declared.link.stage.FrameEnd.{FrameEnd}
use Rattle.afp_server.specs.declared.link.stage.Stage.{Stage}
use Rattle.afp_server.specs.declared.link.stage.Stage.TheVariants.{Fresh, Open}
use Rattle.capture_log_server.specs.Connections.{AreServed, entries_of, Extends}
use Rattle.dsi_frame.specs.Frame.{Frame, canonical_frame}
use Rattle.dsi_frame.specs.Replies.{listed, reply_to, spelling_of}
use Rattle.dsi_session.specs.OptionLaws.{HasOneList, IsReadOneWay}
use Rattle.dsi_session.specs.Options.{AreOptions, SessionOption, attention_of, attention_quantum_type, number_option}
use Rattle.once_across_breaks.specs.same.Steps.{ask_with, call_ask, calls_on, quantum}
use Rattle.once_across_breaks_drill.specs.rounds.Laws.{CallsAreTold, OpeningsAreTold, OpeningsGoOn, TellsCall, opening, sweep}
use Rattle.once_across_breaks_drill.specs.rounds.Lines.{LineState, Serves}

-- ---- a call

asks-call : (block : List ℕ) (moment : ℕ) (link : LinkNumber) (id : ℕ) (call : Call) (d : Option (List ℕ)) (did : Did) → Does block moment (Open link) (framed_call id call d) did → AsksCall moment link (framed_call id call d) (ask_with id call d) did
asks-call block moment link id call None did does = does
asks-call block moment link id call (Some bytes) did does = does

-- a call that was told, on a link that goes on
record IsTold (f : Frame) (link : LinkNumber) (a : Told) (reply : Option Frame) (stage : Stage) : Type 0 where
  pub code : Code
  pub block : List ℕ
  pub told : a ≡ tells.Reply code block false
  pub reply_is : reply ≡ Some (reply_to f code block)
  pub stage_is : stage ≡ Open link

is-told : (f : Frame) (link : LinkNumber) (a : Told) (reply : Option Frame) (stage : Stage) (end : Option FrameEnd) → CallTold f link a reply stage end → end ≡ None → answered_after (and_told a true) [] ≡ true → IsTold f link a reply stage
is-told f link (tells.Reply c block false) reply stage end x none all = record { code = c; block = block; told = refl; reply_is = x.0; stage_is = x.1 }
is-told f link (tells.Reply c block true) reply stage end x none all = absurd (cc (x.2, none))
is-told f link tells.Memory reply stage end x none all = absurd (cc all)
is-told f link tells.Displaced reply stage end x none all = absurd (cc (x.2, none))
is-told f link (tells.Opened other) reply stage end x none all = absurd x
is-told f link (tells.Live drain) reply stage end x none all = absurd x
is-told f link tells.Done reply stage end x none all = absurd x

one-served : (w : World) (s : Step) (e : Entry) → AreServed w (s ∷ []) → entries_of (s ∷ []) ≡ e ∷ [] → s.told ≡ answer w e
one-served w s e served is = let told : s.told ∷ [] ≡ answer w e ∷ [] = served ∙ ap (λ (es : List Entry). answers w es) is in cc

tells-call : (now link id : ℕ) (call : Call) (old line : LineState) (out sent : List ℕ) (t u : Shown) (serves : Serves now (call_frame id call) old out t sent u)
    → old.stage ≡ Open (link_number link) → serves.did.end ≡ None → line.block ≡ old.block → line.stage ≡ serves.did.stage
    → AsksCall serves.moment (link_number link) (call_frame id call) (call_ask id call) serves.did
    → TellsCall now link id call old out t line sent u
tells-call now link id call old line out sent t u serves at goes block stage x =
    let did = serves.did in
    let first : step serves.moment (link_number link) (call_ask id call) x.answer ∷ [] ≡ did.steps = sym x.steps in
    let same : serves.moment ≡ now = All-head (λ (s : Step). s.at ≡ now) (step serves.moment (link_number link) (call_ask id call) x.answer) [] (subst (λ (ss : List Step). All (λ (s : Step). s.at ≡ now) ss) x.steps serves.moments) in
    let is : did.steps ≡ step now (link_number link) (call_ask id call) x.answer ∷ [] = x.steps ∙ ap (λ (n : ℕ). step n (link_number link) (call_ask id call) x.answer ∷ []) same in
    let e : Extends t (step now (link_number link) (call_ask id call) x.answer ∷ []) u = subst (λ (ss : List Step). Extends t ss u) is serves.extends in
    let all : answered_after (and_told x.answer true) [] ≡ true = subst (λ (ss : List Step). answered_after true ss ≡ true) is serves.answered in
    let told : IsTold (call_frame id call) (link_number link) x.answer did.reply did.stage = is-told (call_frame id call) (link_number link) x.answer did.reply did.stage did.end x.told goes all in
    let answer_is : x.answer ≡ answer (stand t.start t.history) (calls_on link now id call) = one-served (stand t.start t.history) (step now (link_number link) (call_ask id call) x.answer) (calls_on link now id call) e.served refl in
    let stays : line.stage ≡ old.stage = stage ∙ told.stage_is ∙ sym at in
    record {
      code = told.code;
      block = told.block;
      told = sym answer_is ∙ told.told;
      start = e.start;
      history = e.history;
      sent_is = serves.sent_is ∙ ap (λ (r : Option Frame). out ++ spelling_of (listed r)) told.reply_is ∙ ap (λ (l : List ℕ). out ++ l) (append-nil (canonical_frame (reply_to (call_frame id call) told.code told.block)));
      stays = λ i. record { block = block i; stage = stays i };
    }

pub calls-told : CallsAreTold
calls-told now link id call old line out sent t u at (serves, (goes, block, stage)) =
    tells-call now link id call old line out sent t u serves at goes block stage
    (asks-call old.block serves.moment (link_number link) id call (canonical_data call) serves.did (subst (λ (s : Stage). Does old.block serves.moment s (call_frame id call) serves.did) at serves.does))

-- ---- an opening

pub record OptionLaws : Type 0 where
  pub exclusive : IsReadOneWay
  pub one : HasOneList

abbrev told_option : SessionOption
told_option = number_option attention_quantum_type quantum

options-are : (id : ℕ) → AreOptions (open_session_frame id).payload (told_option ∷ [])
options-are id = sym (append-nil (open_session_frame id).payload)

abbrev two_steps : ℕ → Told → Told → List Step
two_steps now pulsed opened = step now no_link asks.Pulse pulsed ∷ step now no_link (asks.Open quantum) opened ∷ []

-- OpenSession with the client's options
record OpensBy (moment : ℕ) (f : Frame) (did : Did) : Type 0 where
  pub pulsed : Told
  pub opened : Told
  pub steps : did.steps ≡ two_steps moment pulsed opened
  pub says : OpenTold f opened did.reply did.stage
  pub end : did.end ≡ None

opens-by : OptionLaws → (moment id : ℕ) (did : Did) → OpensSession moment (open_session_frame id) did → OpensBy moment (open_session_frame id) did
opens-by laws moment id did (inl x) =
    let same : x.options ≡ told_option ∷ [] = laws.one (open_session_frame id).payload x.options (told_option ∷ []) x.fit (options-are id) in
    record {
      pulsed = x.pulsed;
      opened = x.opened;
      steps = x.steps ∙ ap (λ (os : List SessionOption). step moment no_link asks.Pulse x.pulsed ∷ step moment no_link (asks.Open (attention_of os)) x.opened ∷ []) same;
      says = x.answer;
      end = x.end;
    }
opens-by laws moment id did (inr x) = absurd (laws.exclusive (open_session_frame id).payload (told_option ∷ []) x.options x.at (options-are id) x.stops)

opens-at : OptionLaws → (now id : ℕ) (old : LineState) (out sent : List ℕ) (t u : Shown) (serves : Serves now (open_session_frame id) old out t sent u) → old.stage ≡ Fresh → OpensBy serves.moment (open_session_frame id) serves.did
opens-at laws now id old out sent t u serves at = opens-by laws serves.moment id serves.did (subst (λ (s : Stage). Does old.block serves.moment s (open_session_frame id) serves.did) at serves.does)

two-served : (w : World) (s r : Step) (d e : Entry) → AreServed w (s ∷ r ∷ []) → entries_of (s ∷ r ∷ []) ≡ d ∷ e ∷ [] → r.told ≡ answer (stand w (d ∷ [])) e
two-served w s r d e served is = let told : s.told ∷ r.told ∷ [] ≡ answer w d ∷ answer (stand w (d ∷ [])) e ∷ [] = served ∙ ap (λ (es : List Entry). answers w es) is in cc

pub openings-told : OptionLaws → OpeningsAreTold
openings-told laws now id old line out sent t u at (serves, (goes, block, stage)) =
    let did = serves.did in
    let x = opens-at laws now id old out sent t u serves at in
    let same : serves.moment ≡ now =
    All-head (λ (s : Step). s.at ≡ now) (step serves.moment no_link asks.Pulse x.pulsed) (step serves.moment no_link (asks.Open quantum) x.opened ∷ []) (subst (λ (ss : List Step). All (λ (s : Step). s.at ≡ now) ss) x.steps serves.moments) in
    let is : did.steps ≡ two_steps now x.pulsed x.opened = x.steps ∙ ap (λ (n : ℕ). two_steps n x.pulsed x.opened) same in
    let e : Extends t (two_steps now x.pulsed x.opened) u = subst (λ (ss : List Step). Extends t ss u) is serves.extends in
    let told : x.opened ≡ answer (stand (stand t.start t.history) (sweep now ∷ [])) (opening now) =
    two-served (stand t.start t.history) (step now no_link asks.Pulse x.pulsed) (step now no_link (asks.Open quantum) x.opened) (sweep now) (opening now) e.served refl in
    record {
      told = x.opened;
      is = told ∙ ap (λ (w : World). answer w (opening now)) (sym (stand-append t.start t.history (sweep now ∷ [])));
      start = e.start;
      history = e.history;
      reply = did.reply;
      says = subst (λ (s : Stage). OpenTold (open_session_frame id) x.opened did.reply s) (sym stage) x.says;
      sent_is = serves.sent_is;
      block = block;
    }

pub openings-go : OptionLaws → OpeningsGoOn
openings-go laws now id old out sent t u None at (serves, (end, is)) = let x = opens-at laws now id old out sent t u serves at in absurd (cc (x.end, is))
openings-go laws now id old out sent t u (Some line) at x = (line, refl)
