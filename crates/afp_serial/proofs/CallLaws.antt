-- Kept answers, faults and the size of blocks.
use Rattle.std.proofs.Common.{◌≡◌, ◌∙◌, ap, sym, refl, ℕ, Bool, true, List, length, Option, Some, None}
use Rattle.std.proofs.lemmas.Bool.{and_from, and_parts, leb-true}
use Rattle.afp_serial.proofs.StaysSound.{answer-fits}
use Rattle.afp_serial.proofs.Verdicts.{comes-to, kept-verdict, runs-of}
use Rattle.std.specs.Prelude.{is_some}
use Rattle.afp_base.specs.Limits.{payload_limit}
use Rattle.afp_calls_grammar.specs.declared.grammar.call.Call.{Call}
use Rattle.afp_serial.specs.declared.ask.Ask.{Ask}
use Rattle.afp_serial.specs.declared.ask.Ask.TheVariants as ask
use Rattle.afp_serial.specs.declared.ask.Entry.{Entry}
use Rattle.afp_serial.specs.declared.ask.Outcome.{Outcome}
use Rattle.afp_serial.specs.declared.ask.Outcome.TheVariants as outcome
use Rattle.afp_serial.specs.Answer.{answer, after, answer_at, after_at, after_call, after_verdict, committed_at, committed_by, committed_in, committed_of, is_legal_outcome, newly_kept, request, told_call, told_verdict, Verdict, repeats, refused, runs, verdict}
use Rattle.afp_serial.specs.KeptAnswers.{keeping}
use Rattle.afp_serial.specs.Laws.{FailsInPlace, FitsFrame, HidesNoRefusal, MayFail, TellsKept}
use Rattle.afp_serial.specs.Ranges.{is_typed_entry}
use Rattle.afp_serial.specs.Rows.{committed}
use Rattle.afp_serial.specs.World.{session_at, World, Session, at_moment}
use Rattle.afp_serial.specs.Shown.{fits_frame}

pub fits-frame : FitsFrame
fits-frame w e code block ends sound legal is = leb-true (length block) payload_limit (ap fits_frame (sym is) ∙ answer-fits w e sound legal)

-- a call of an attached session, by its verdict

pub told-by : (w : World) (e : Entry) (id : ℕ) (write : Bool) (offset : ℕ) (payload : List ℕ) (s : Session) (v : Verdict) (o : Outcome) → e.ask ≡ ask.Call id write offset payload → session_at w e.link.0 ≡ Some s → verdict (at_moment w e.at) s (request id write offset payload) ≡ v → e.outcome ≡ o → answer w e ≡ told_verdict (at_moment w e.at) s v o
unfolding answer_at
told-by w e id write offset payload s v o asked attached is went =
    (λ i. answer_at (at_moment w e.at) e.link.0 (asked i) (went i))
    ∙ ap (λ (session : Option Session). told_call (at_moment w e.at) session (request id write offset payload) o) attached
    ∙ ap (λ (x : Verdict). told_verdict (at_moment w e.at) s x o) is

left-by : (w : World) (e : Entry) (id : ℕ) (write : Bool) (offset : ℕ) (payload : List ℕ) (s : Session) (v : Verdict) (o : Outcome) → e.ask ≡ ask.Call id write offset payload → session_at w e.link.0 ≡ Some s → verdict (at_moment w e.at) s (request id write offset payload) ≡ v → e.outcome ≡ o → after w e ≡ keeping (after_verdict (at_moment w e.at) s v o) s.number (request id write offset payload) (newly_kept (request id write offset payload) v (told_verdict (at_moment w e.at) s v o))
unfolding after_at
left-by w e id write offset payload s v o asked attached is went =
    (λ i. after_at (at_moment w e.at) e.link.0 (asked i) (went i))
    ∙ ap (λ (session : Option Session). after_call (at_moment w e.at) session (request id write offset payload) o) attached
    ∙ ap (λ (x : Verdict). keeping (after_verdict (at_moment w e.at) s x o) s.number (request id write offset payload) (newly_kept (request id write offset payload) x (told_verdict (at_moment w e.at) s x o))) is

pub tells-kept : TellsKept
tells-kept w e id write offset payload s a asked attached kept =
    let is : verdict (at_moment w e.at) s (request id write offset payload) ≡ repeats a = kept-verdict (at_moment w e.at) s (request id write offset payload) a kept in
    (told-by w e id write offset payload s (repeats a) e.outcome asked attached is refl, left-by w e id write offset payload s (repeats a) e.outcome asked attached is refl)

-- faults

there : (o : Option ℕ) → is_some o ≡ true → (index : ℕ) × (o ≡ Some index)
there None h = absurd (cc)
there (Some index) h = (index, refl)

verdict-fails : (w : World) (e : Entry) (id : ℕ) (write : Bool) (offset : ℕ) (payload : List ℕ) (s : Session) (v : Verdict) → e.ask ≡ ask.Call id write offset payload → session_at w e.link.0 ≡ Some s → verdict (at_moment w e.at) s (request id write offset payload) ≡ v → e.outcome ≡ outcome.Fault → is_some (committed_by (at_moment w e.at) s v) ≡ true → FailsInPlace w e
verdict-fails w e id write offset payload s (repeats a) asked attached is fault may = absurd (cc)
verdict-fails w e id write offset payload s (refused c) asked attached is fault may = absurd (cc)
verdict-fails w e id write offset payload s (runs call) asked attached is fault may =
    let k = there (committed (at_moment w e.at) s call) may in
    record {
      id = id;
      write = write;
      offset = offset;
      payload = payload;
      asked = asked;
      session = s;
      attached = attached;
      call = call;
      runs = comes-to (at_moment w e.at) s (request id write offset payload) call is;
      index = k.0;
      commits = k.1;
      answered = told-by w e id write offset payload s (runs call) outcome.Fault asked attached is fault;
      left = left-by w e id write offset payload s (runs call) outcome.Fault asked attached is fault;
    }

call-fails : (w : World) (e : Entry) (id : ℕ) (write : Bool) (offset : ℕ) (payload : List ℕ) (session : Option Session) → e.ask ≡ ask.Call id write offset payload → session_at w e.link.0 ≡ session → e.outcome ≡ outcome.Fault → is_some (committed_in (at_moment w e.at) session (request id write offset payload)) ≡ true → FailsInPlace w e
call-fails w e id write offset payload None asked is fault may = absurd (cc)
call-fails w e id write offset payload (Some s) asked is fault may =
    verdict-fails w e id write offset payload s (verdict (at_moment w e.at) s (request id write offset payload)) asked is refl fault may

ask-fails : (w : World) (e : Entry) (a : Ask) → e.ask ≡ a → e.outcome ≡ outcome.Fault → is_some (committed_at (at_moment w e.at) e.link.0 a) ≡ true → FailsInPlace w e
unfolding committed_at
ask-fails w e (ask.Open attention) asked fault may = absurd (cc)
ask-fails w e (ask.Call id write offset payload) asked fault may = call-fails w e id write offset payload (session_at w e.link.0) asked refl fault may
ask-fails w e ask.Pulse asked fault may = absurd (cc)
ask-fails w e ask.Bye asked fault may = absurd (cc)
ask-fails w e ask.Lost asked fault may = absurd (cc)
ask-fails w e ask.Drain asked fault may = absurd (cc)

pub hides-no-refusal : HidesNoRefusal
hides-no-refusal w e fault legal =
    ask-fails w e e.ask refl fault
    (ap (is_legal_outcome (committed_of w e)) (sym fault) ∙ (and_parts (is_typed_entry e) (is_legal_outcome (committed_of w e) e.outcome) legal).1)

some-is : (o : Option ℕ) (index : ℕ) → o ≡ Some index → is_some o ≡ true
some-is o index is = ap is_some is

outcome-may : (index : Option ℕ) (o : Outcome) → is_some index ≡ true → is_legal_outcome index o ≡ true
outcome-may index outcome.Done h = refl
outcome-may index outcome.Fault h = h

committed-call : (w : World) (e : Entry) (id : ℕ) (write : Bool) (offset : ℕ) (payload : List ℕ) (s : Session) (call : Call)
    → e.ask ≡ ask.Call id write offset payload → session_at w e.link.0 ≡ Some s → verdict (at_moment w e.at) s (request id write offset payload) ≡ runs call
    → committed_of w e ≡ committed (at_moment w e.at) s call
unfolding committed_at
committed-call w e id write offset payload s call asked attached is =
    ap (committed_at (at_moment w e.at) e.link.0) asked
    ∙ ap (λ (session : Option Session). committed_in (at_moment w e.at) session (request id write offset payload)) attached
    ∙ ap (committed_by (at_moment w e.at) s) is

pub may-fail : MayFail
may-fail w e id write offset payload s call index typed asked attached comes commits =
    let is : verdict (at_moment w e.at) s (request id write offset payload) ≡ runs call = runs-of (at_moment w e.at) s (request id write offset payload) call comes in
    let there : committed_of w e ≡ Some index = committed-call w e id write offset payload s call asked attached is ∙ commits in
    and_from (is_typed_entry e) (is_legal_outcome (committed_of w e) e.outcome) typed (outcome-may (committed_of w e) e.outcome (some-is (committed_of w e) index there))
