-- A call that was written, its reply, and the client.
use Rattle.std.proofs.Common.{◌≡◌, ◌≢◌, ◌∙◌, refl, sym, ap, subst, ℕ, ◌<◌, ◌≤◌, ◌^◌, Bool, true, false, List, [], ◌∷◌, ◌++◌, length, take, Option, Some, None, lit<, append-nil}
use Rattle.std.specs.Prelude.{◌+◌, ◌==◌, if◌then◌else◌, unwrap_or}
use Rattle.std.proofs.lemmas.Bool.{and_from, and_parts, eq-eqb}
use Rattle.afp_base.specs.Limits.{payload_limit}
use Rattle.afp_base.specs.declared.code.Code.{Code}
use Rattle.afp_base.specs.declared.code.Code.TheVariants as code
use Rattle.afp_calls_grammar.specs.grammar.Call.{canonical_data}
use Rattle.afp_calls_grammar.specs.declared.grammar.call.Call.{Call}
use Rattle.afp_client.specs.session.Opening.{login_call, login_of, session_call}
use Rattle.afp_client.specs.session.State.{ClientState, Waiting, call_frame, framed_call}
use Rattle.afp_client.specs.session.Takes.{Step, answers, if_answers, is_ok, is_retried, opened, opening_command, opening_replied, opening_told, ready_reply, refusal, session_refusal, session_told, step, takes, takes_reply, waiting_replied, with_id, writes_opening}
use Rattle.afp_client.specs.declared.session.event.Event.TheVariants as events
use Rattle.afp_client.specs.declared.session.stage.OpeningStep.{OpeningStep}
use Rattle.afp_client.specs.declared.session.stage.OpeningStep.TheVariants as steps
use Rattle.afp_client.specs.declared.session.stage.Stage.{Stage}
use Rattle.afp_client.specs.declared.session.stage.Stage.TheVariants.{Lost, Opening, Ready}
use Rattle.afp_serial.specs.Answer.{is_legal}
use Rattle.afp_serial.specs.History.{is_lawful, stand}
use Rattle.afp_serial.specs.Laws.{FitsFrame}
use Rattle.afp_serial.specs.Shown.{IsSoundShown, Shown}
use Rattle.afp_serial.specs.SessionViews.{NeverNoMemory}
use Rattle.afp_serial.specs.Sound.{IsSound}
use Rattle.afp_serial.specs.declared.ask.Entry.{Entry}
use Rattle.afp_serial.specs.declared.ask.Told.TheVariants as told
use Rattle.afp_serial.proofs.Grows.{take-all}
use Rattle.dsi_frame.specs.Frame.{Frame, IsGood, command_number}
use Rattle.dsi_frame.specs.Replies.{code_word, reply_to}
use Rattle.dsi_frame.specs.declared.frame.DsiCommand.{DsiCommand}
use Rattle.dsi_frame.specs.declared.frame.DsiCommand.TheVariants as commands
use Rattle.dsi_session.specs.RequestIds.{id_after}
use Rattle.once_across_breaks.specs.same.Steps.{calls_on}
use Rattle.once_across_breaks_code.proofs.OfServer.AskedLemmas.{lawful-parts}
use Rattle.once_across_breaks_drill.specs.rounds.Callers.{IsNextStep, is_taken}
use Rattle.once_across_breaks_drill.specs.rounds.Laws.{CallsAreTold, TellsCall}
use Rattle.once_across_breaks_drill.specs.rounds.Lines.{LineState, ServesLine}
use Rattle.once_across_breaks_drill.specs.rounds.Rounds.{IsAsked, OpeningIsTaken, WaitingIsTaken, opening_does}

-- the word of a code fits in 32 bits
small : (c : Code) → code_word c < 2 ^ 32
small code.Ok = lit< tt
small code.NoMemory = lit< tt
small code.NoMoreSessions = lit< tt
small code.AccessDenied = lit< tt
small code.BadUAM = lit< tt
small code.BadVersNum = lit< tt
small code.BitmapErr = lit< tt
small code.CantMove = lit< tt
small code.DenyConflict = lit< tt
small code.DirNotEmpty = lit< tt
small code.DiskFull = lit< tt
small code.EOFErr = lit< tt
small code.FileBusy = lit< tt
small code.ItemNotFound = lit< tt
small code.LockErr = lit< tt
small code.MiscErr = lit< tt
small code.NoMoreLocks = lit< tt
small code.ObjectExists = lit< tt
small code.ObjectNotFound = lit< tt
small code.ParamErr = lit< tt
small code.RangeNotLocked = lit< tt
small code.RangeOverlap = lit< tt
small code.UserNotAuth = lit< tt
small code.CallNotSupported = lit< tt
small code.ObjectTypeErr = lit< tt
small code.TooManyFilesOpen = lit< tt
small code.CantRename = lit< tt
small code.DirNotFound = lit< tt
small code.VolLocked = lit< tt
small code.ObjectLocked = lit< tt
small code.IDNotFound = lit< tt
small code.IDExists = lit< tt
small code.SameObjectErr = lit< tt
small code.BadIDErr = lit< tt

-- ---- the entry of a call is legal, and its block fits in a frame

legal-there : (t u : Shown) (e : Entry) → u.start ≡ t.start → u.history ≡ t.history ++ e ∷ [] → IsSoundShown u → is_legal (stand t.start t.history) e ≡ true
legal-there t u e start history sound =
    let lawful : is_lawful t.start (t.history ++ e ∷ []) ≡ true = (λ i. is_lawful (sym start i) (sym history i)) ∙ sound.lawful in
    let last = (lawful-parts t.start t.history (e ∷ []) lawful).1 in
    (and_parts (is_legal (stand t.start t.history) e) true last).0

sound-there : (t : Shown) → IsSoundShown t → IsSound (stand t.start t.history)
sound-there t sound = subst (λ (h : List Entry). IsSound (stand t.start h)) (ap (λ (h : List Entry). take (length t.history) h) (sym (append-nil t.history)) ∙ take-all t.history []) (sound.stands (length t.history))

-- ---- the reply of a call is the client's next step

replied : (s : ClientState) (w : Waiting) (f : Frame) (c : Code) (block : List ℕ) → s.stage ≡ Ready → s.waiting ≡ Some w → w.request ≡ f → takes s (Some c) (reply_to f c block) ≡ Some (waiting_replied s w c block)
replied s w f c block ready waits is =
    let command : (command_number f.command == command_number w.request.command) ≡ true = eq-eqb (command_number f.command) (command_number w.request.command) (ap (λ (g : Frame). command_number g.command) (sym is)) in
    let number : (f.id == w.request.id) ≡ true = eq-eqb f.id w.request.id (ap (λ (g : Frame). g.id) (sym is)) in
    let r : Frame = reply_to f c block in
    let answered : answers w.request.command w.request.id r ≡ true = and_from (command_number f.command == command_number w.request.command) (f.id == w.request.id) command number in
    ap (λ (stage : Stage). takes_reply s stage (Some c) r) ready
    ∙ ap (λ (o : Option Waiting). ready_reply s o (Some c) r) waits
    ∙ ap (λ (b : Bool). if_answers b (Some c) (λ (d : Code). Some (waiting_replied s w d block))) answered

kind-by : (b : Bool) (x y : Step) → is_taken x.event ≡ true → is_taken y.event ≡ true → is_taken (if b then x else y).event ≡ true
kind-by true x y first second = first
kind-by false x y first second = second

kind : (s : ClientState) (w : Waiting) (c : Code) (block : List ℕ) → is_taken (waiting_replied s w c block).event ≡ true
kind s w c block =
    kind-by (is_retried c w.retries)
    (step (record s { waiting = Some (record { request = with_id w.request s.next_id; retries = w.retries + 1 }); next_id = id_after s.next_id }) (Some (with_id w.request s.next_id)) events.Step)
    (step (record s { waiting = None }) None (events.Told c block))
    refl refl

reply-good : (f : Frame) (c : Code) (block : List ℕ) → IsGood f → length block ≤ payload_limit → IsGood (reply_to f c block)
reply-good f c block good fits = record { id = good.id; word = small c; payload = fits; offset = tt }

pub waiting-taken : WaitingIsTaken
waiting-taken s w id call c block ready waits is = (replied s w (call_frame id call) c block ready waits is, kind s w c block)

-- ---- the reply to a request of an opening is, too

pub no-data-login : (user : Option (List ℕ × List ℕ)) → canonical_data (login_of user) ≡ None
unfolding canonical_data
no-data-login None = refl
no-data-login (Some user) = refl

pub no-data-session : (token : Option (List ℕ)) → canonical_data (session_call token) ≡ None
unfolding canonical_data
no-data-session None = refl
no-data-session (Some token) = refl

opening-frame : (id : ℕ) (call : Call) (c : Code) (block : List ℕ) → canonical_data call ≡ None → answers commands.Command id (reply_to (call_frame id call) c block) ≡ true
opening-frame id call c block none =
    ap (λ (d : Option (List ℕ)). answers commands.Command id (reply_to (framed_call id call d) c block)) none
    ∙ and_from (command_number commands.Command == command_number commands.Command) (id == id) (eq-eqb (command_number commands.Command) (command_number commands.Command) refl) (eq-eqb id id refl)

-- what a request of an opening is told, by three steps
pub IsSome : Option Step → Step → Type 0
IsSome o other = (o ≡ Some (unwrap_or o other)) × (is_taken (unwrap_or o other).event ≡ true)

pub there : (o : Option Step) (x other : Step) → o ≡ Some x → is_taken x.event ≡ true → IsSome o other
unfolding IsSome
there o x other is taken = subst (λ (p : Option Step). (p ≡ Some (unwrap_or p other)) × (is_taken (unwrap_or p other).event ≡ true)) (sym is) (refl, taken)

by-three : (b d : Bool) (x z y other : Step) (o : Option Step) → o ≡ Some y → is_taken x.event ≡ true → is_taken y.event ≡ true → is_taken z.event ≡ true → IsSome (if b then Some x else (if d then o else Some z)) other
by-three true d x z y other o is first second third = there (Some x) x other refl first
by-three false true x z y other o is first second third = there o y other is second
by-three false false x z y other o is first second third = there (Some z) z other refl third

session-refused : (token : Option (List ℕ)) (c : Code) → is_taken (session_refusal token c) ≡ true
session-refused None c = refl
session-refused (Some token) c = refl

pub taken-by : (s : ClientState) (at : OpeningStep) (id retries : ℕ) (call : Call) (c : Code) (block : List ℕ) → s.stage ≡ Opening at id retries → opening_command at ≡ commands.Command → canonical_data call ≡ None
    → IsSome (opening_replied s at id retries c block) (step s None events.Step)
    → (takes s (Some c) (reply_to (call_frame id call) c block) ≡ Some (opening_does s at id retries c block)) × (is_taken (opening_does s at id retries c block).event ≡ true)
unfolding IsSome
taken-by s at id retries call c block stage command none some =
    let r : Frame = reply_to (call_frame id call) c block in (
      ap (λ (x : Stage). takes_reply s x (Some c) r) stage
          ∙ ap (λ (b : Bool). if_answers b (Some c) (λ (d : Code). opening_replied s at id retries d block)) (ap (λ (k : DsiCommand). answers k id r) command ∙ opening-frame id call c block none)
          ∙ some.0,
      some.1,
    )

same-call : (x y : Call) → Some x ≡ Some y → x ≡ y
same-call x y e = cc

-- the login, whether the client has a token or not
pub login-taken : (s : ClientState) (id retries : ℕ) (call : Call) (c : Code) (block : List ℕ) → s.stage ≡ Opening steps.Login id retries → canonical_data call ≡ None
    → (takes s (Some c) (reply_to (call_frame id call) c block) ≡ Some (opening_does s steps.Login id retries c block)) × (is_taken (opening_does s steps.Login id retries c block).event ≡ true)
login-taken s id retries call c block stage none =
    taken-by s steps.Login id retries call c block stage refl none
    (by-three (is_retried c retries) (is_ok c) (writes_opening s steps.Login (id_after id) (retries + 1)) (step (record s { stage = Lost }) None (refusal s.token steps.Login c)) (writes_opening s steps.Session (id_after id) 0)
    (step s None events.Step) (opening_told s steps.Login id block) refl refl refl refl)

pub opening-taken : OpeningIsTaken
opening-taken s steps.OpenSession id retries token call c block stage has is = absurd (cc is)
opening-taken s steps.Login id retries token call c block stage has is =
    login-taken s id retries call c block stage (ap canonical_data (sym (same-call (login_call s.login) call is)) ∙ no-data-login s.login.user)
opening-taken s steps.Session id retries token call c block stage has is =
    taken-by s steps.Session id retries call c block stage refl (ap canonical_data (sym (same-call (session_call s.token) call is)) ∙ no-data-session s.token)
    (by-three (is_retried c retries) (is_ok c) (writes_opening s steps.Session (id_after id) (retries + 1)) (step (record s { stage = Lost }) None (refusal s.token steps.Session c)) (opened s)
    (step s None events.Step) (opening_told s steps.Session id block) (ap (λ (o : Option (List ℕ)). session_told s o id block) has) refl refl (session-refused s.token c))

-- What a call is told is the client's next step.
pub record IsNext (now link id : ℕ) (call : Call) (does : Code → List ℕ → Step) (s : ClientState) (line behind : LineState) (bytes : List ℕ) (t u : Shown) : Type 0 where
  pub tells : TellsCall now link id call line [] t behind bytes u
  pub other : tells.code ≢ code.NoMemory
  pub next : IsNextStep s bytes (reply_to (call_frame id call) tells.code tells.block) tells.code (does tells.code tells.block)

next-told : (fits : FitsFrame) (never : NeverNoMemory) (now link id : ℕ) (call : Call) (does : Code → List ℕ → Step) (s : ClientState) (line behind : LineState) (request bytes : List ℕ) (t u : Shown)
    → IsSoundShown t → IsSoundShown u → IsAsked now s line request t link id call does → TellsCall now link id call line [] t behind bytes u → IsNext now link id call does s line behind bytes t u
next-told fits never now link id call does s line behind request bytes t u sound later asked tells =
    let f = call_frame id call in
    let legal = legal-there t u (calls_on link now id call) tells.start tells.history later in
    let size = fits (stand t.start t.history) (calls_on link now id call) tells.code tells.block false (sound-there t sound) legal tells.told in
    record {
      tells = tells;
      other = λ same. never (stand t.start t.history) (calls_on link now id call) tells.block false (sound-there t sound) legal (tells.told ∙ ap (λ (c : Code). told.Reply c tells.block false) same);
      next = record {
        good = reply-good f tells.code tells.block asked.good size;
        spelt = tells.sent_is;
        word = refl;
        live = asked.live;
        taken = asked.takes_it tells.code tells.block tells.told;
        kind = asked.kind tells.code tells.block;
      };
    }

-- with what was served where nothing was in `out`
pub next-served : (fits : FitsFrame) (never : NeverNoMemory) (calls : CallsAreTold) (now link id : ℕ) (call : Call) (does : Code → List ℕ → Step) (s : ClientState) (line behind : LineState) (o : Option LineState) (request first sent bytes : List ℕ) (t u : Shown)
    → IsSoundShown t → IsSoundShown u → IsAsked now s line request t link id call does → first ≡ [] → o ≡ Some behind → bytes ≡ sent → ServesLine now (call_frame id call) line first t o sent u
    → IsNext now link id call does s line behind bytes t u
next-served fits never calls now link id call does s line behind o request first sent bytes t u sound later asked empty there same serves =
    next-told fits never now link id call does s line behind request bytes t u sound later asked
    (subst (λ (b : List ℕ). TellsCall now link id call line [] t behind b u) (sym same)
    (calls now link id call line behind [] sent t u asked.at
    (subst (λ (l : Option LineState). ServesLine now (call_frame id call) line [] t l sent u) there
    (subst (λ (b : List ℕ). ServesLine now (call_frame id call) line b t o sent u) empty serves))))

pub ended-served : (now id : ℕ) (call : Call) (line : LineState) (o : Option LineState) (first sent : List ℕ) (t u : Shown) → first ≡ [] → o ≡ None → ServesLine now (call_frame id call) line first t o sent u
    → (bytes : List ℕ) × ServesLine now (call_frame id call) line [] t None bytes u
ended-served now id call line o first sent t u empty there serves = (
  sent,
  subst (λ (l : Option LineState). ServesLine now (call_frame id call) line [] t l sent u) there
      (subst (λ (b : List ℕ). ServesLine now (call_frame id call) line b t o sent u) empty serves),
)
