-- A call whose answer is kept.
use Rattle.std.proofs.Common.{◌≡◌, ◌∙◌, ap, sym, refl, subst, ℕ, ◌≤◌, Bool, true, false, not, ◌||◌, ◌&&◌, List, [], ◌∷◌, length, Option, Some, None, inl, inr, arith}
use Rattle.std.specs.Prelude.{Result, Ok, Err, find, if◌then◌else◌, is_none, is_some, ◌==◌}
use Rattle.std.specs.List.{list_all}
use Rattle.std.proofs.lemmas.Bool.{cond_both, leb-true, or_cases}
use Rattle.afp_base.specs.Cached.{Request, Answer, cached_answer}
use Rattle.afp_base.specs.declared.bytes.OutOfMemory.{OutOfMemory}
use Rattle.afp_base.specs.Limits.{payload_limit}
use Rattle.afp_base.specs.declared.code.Code.{Code}
use Rattle.afp_base.specs.declared.code.Code.TheVariants.{CallNotSupported, UserNotAuth}
use Rattle.afp_calls_grammar.specs.grammar.Spelt.{is_command, spelt_call}
use Rattle.afp_calls_grammar.specs.declared.grammar.call.Call.{Call}
use Rattle.afp_serial.proofs.KeptAnswers.{has_none}
use Rattle.afp_serial.proofs.OtherPlaces.{only-number}
use Rattle.afp_serial.proofs.RowsSound.{row-sound}
use Rattle.afp_serial.proofs.SoundParts.{sessions-parts}
use Rattle.afp_serial.specs.Answer.{Verdict, repeats, refused, runs, after_call, after_verdict, committed_by, committed_in, is_legal_outcome, needs_user, newly_kept, refusal_reply, told_call, told_verdict, verdict, verdict_of_block, verdict_of_kept, verdict_of_row, verdict_of_spelling}
use Rattle.afp_serial.specs.Answered.{block_in}
use Rattle.afp_serial.specs.KeptAnswers.{block_of, enclosed_of, kept_answer, kept_in}
use Rattle.afp_serial.specs.KeptAnswers as serial
use Rattle.afp_serial.specs.Rows.{refusal}
use Rattle.afp_serial.specs.Sound.{IsSound}
use Rattle.afp_serial.specs.Shown.{fits_frame}
use Rattle.afp_serial.specs.World.{Refused, plain, session_at, World, Session}
use Rattle.afp_serial.specs.declared.ask.Outcome.{Outcome}
use Rattle.afp_serial.specs.declared.ask.Outcome.TheVariants as outcome
use Rattle.afp_serial.specs.declared.ask.Told.{Told}
use Rattle.afp_serial.specs.declared.ask.Told.TheVariants as told
use Rattle.afp_base.proofs.Facts.{never}
use Rattle.afp_base.proofs.ListFacts.{find-all, find-passes}
use Rattle.afp_core_state.specs.KeptWorld.{KeptWorld}
use Rattle.afp_core_state.specs.Running.{IsOutcomeOf, RunsRow, RunsVerdict, done}
use Rattle.afp_core_state.specs.lemma.KeptWorld.{table_in}
use Rattle.afp_core_state.proofs.KeeperLemmas.{outcome-same}
use Rattle.afp_core_state.proofs.SessionLemmas.{session_of-number}
use Rattle.session_table.specs.Sessions.{HasNone, IsAt, session_of}
use Rattle.afp_core_dispatch.specs.Asks.{stands_for}
use Rattle.afp_core_dispatch.specs.lemma.Asks.{RunsCall}
use Rattle.afp_core_dispatch.specs.lemma.Fits.{CallFits, HasRoom, HasRoomFor, VerdictFits}
use Rattle.afp_core_dispatch.specs.lemma.Keeping.{IsThere, IsToldAgain, RunsBlock, RunsKept, keeps}
use Rattle.afp_core_dispatch.specs.lemma.Spelling.{IsSpelled}
use Rattle.afp_core_dispatch.specs.declared.spelling.Stop.TheVariants.{Refused as StopRefused}

-- no answer is kept for the request after the row

none-after : (w : World) (s : Session) (r : Request) (test : Session → Bool) (v : Verdict) (o : Outcome) → find test w.sessions ≡ Some s → list_all (has_none s.number r) w.sessions ≡ true → list_all (has_none s.number r) (after_verdict w s v o).sessions ≡ true
none-after w s r test (repeats a) o found h = h
none-after w s r test (refused x) o found h = h
none-after w s r test (runs call) outcome.Fault found h = h
none-after w s r test (runs call) outcome.Done found h = (row-sound call).cached w s test found (λ n c. not (n == s.number) || is_none (cached_answer c r)) h

is-none : (o : Option Answer) → is_none o ≡ true → o ≡ None
is-none (Some a) h = absurd (cc)
is-none None h = refl

pub none-kept : (k mid : KeptWorld) (n : ℕ) (q : Request) (r : Told × Outcome) (s : Session) (v : Verdict) → session_of k.world.sessions n ≡ Some s → IsSound k.world → HasNone (table_in k.world) n q → RunsVerdict k s v r mid → HasNone (table_in mid.world) n q
none-kept k mid n q r s v at sound fresh ran =
    let w = k.world in
    let before : list_all (has_none s.number q) w.sessions ≡ true =
    only-number (λ x. x.number == n) (λ x. is_none (cached_answer x.cache q)) w.sessions s (sessions-parts w sound.sessions).numbers at (ap is_none (fresh s at)) in
    let after_it : list_all (has_none s.number q) mid.world.sessions ≡ true =
    ap (λ (x : World). list_all (has_none s.number q) x.sessions) ran.world ∙ none-after w s q (λ x. x.number == n) v r.1 at before in
    λ x found.
    let holds : has_none s.number q x ≡ true = find-all (λ (y : Session). y.number == n) (has_none s.number q) mid.world.sessions x found after_it in
    let same : (x.number == s.number) ≡ true = ap (λ (m : ℕ). x.number == m) (session_of-number w.sessions n s at) ∙ find-passes (λ (y : Session). y.number == n) mid.world.sessions x found in
    elim (or_cases (not (x.number == s.number)) (is_none (cached_answer x.cache q)) holds) [
      | inl other ↦ absurd (never (x.number == s.number) same other)
      | inr its ↦ is-none (cached_answer x.cache q) its
    ]

-- the answer is kept

kept-outcome : (k mid : KeptWorld) (n m : ℕ) (q : Request) (r : Told × Outcome) (a : Option Answer) (want : Told) (after_it : World) (index : Option ℕ) → m ≡ n
    → IsOutcomeOf want after_it index r.1 r.0 k mid → IsOutcomeOf want (serial.keeping after_it m q a) index r.1 r.0 k (keeps mid n a q)
kept-outcome k mid n m q r None want after_it index same o = o
kept-outcome k mid n m q r (Some a) want after_it index same o = record {
  legal = o.legal;
  serial = o.serial;
  world = (λ i. kept_in (o.world i) (sym same i) q a);
  keepers = o.keepers;
  stand = o.stand;
  sure = o.sure;
  settled = o.settled;
}

-- it is new
abbrev is_new : Verdict → Bool
is_new (repeats a) = false
is_new (refused x) = true
is_new (runs call) = true

row-new : (call : Call) (o : Option Refused) → is_new (verdict_of_row call o) ≡ true
row-new call None = refl
row-new call (Some x) = refl

new-kept : (q : Request) (v : Verdict) (t : Told) → is_new v ≡ true → newly_kept q v t ≡ kept_answer q t
new-kept q (repeats a) t h = absurd (cc)
new-kept q (refused x) t h = refl
new-kept q (runs call) t h = refl

pub kept-runs : (k mid new : KeptWorld) (n : ℕ) (q : Request) (r : Told × Outcome) (s : Session) (v : Verdict) → session_of k.world.sessions n ≡ Some s → is_new v ≡ true → RunsVerdict k s v r mid → new ≡ keeps mid n (kept_answer q r.0) q
    → IsOutcomeOf (told_verdict k.world s v r.1) (serial.keeping (after_verdict k.world s v r.1) s.number q (newly_kept q v (told_verdict k.world s v r.1))) (committed_by k.world s v) r.1 r.0 k new
kept-runs k mid new n q r s v at is_it ran becomes =
    let told_is : kept_answer q r.0 ≡ newly_kept q v (told_verdict k.world s v r.1) = ap (kept_answer q) ran.serial ∙ sym (new-kept q v (told_verdict k.world s v r.1) is_it) in
    subst (λ (x : KeptWorld). IsOutcomeOf (told_verdict k.world s v r.1) (serial.keeping (after_verdict k.world s v r.1) s.number q (newly_kept q v (told_verdict k.world s v r.1))) (committed_by k.world s v) r.1 r.0 k x)
    (sym (becomes ∙ ap (λ (a : Option Answer). keeps mid n a q) told_is))
    (kept-outcome k mid n s.number q r (newly_kept q v (told_verdict k.world s v r.1)) (told_verdict k.world s v r.1) (after_verdict k.world s v r.1) (committed_by k.world s v) (session_of-number k.world.sessions n s at) ran)

-- the steps before the row

module _ (k new : KeptWorld) (n : ℕ) (q : Request) where
  -- a request that comes to a row
  pub spelled-runs : (call : Call) (result : Result (Told × Outcome) OutOfMemory) (has_user : Bool) → ((s : Session) → session_of k.world.sessions n ≡ Some s → has_user ≡ is_some s.user) → IsSpelled has_user q (Ok call)
      → RunsRow k n call result new → RunsBlock k n q result new
  spelled-runs call (Err e) has_user user spelled ran = ran
  spelled-runs call (Ok r) has_user user spelled ran = λ s at.
      let comes : verdict_of_block k.world s q (block_of q) ≡ verdict_of_row call (refusal k.world s call) = spelled k.world s (sym (user s at)) in
      subst (λ (v : Verdict). RunsVerdict k s v r new) (sym comes) (ran s at)

  -- one that is refused before
  pub refused-runs : (code : Code) (t : Told) (has_user : Bool) → ((s : Session) → session_of k.world.sessions n ≡ Some s → has_user ≡ is_some s.user) → IsSpelled has_user q (Err (StopRefused code)) → t ≡ refusal_reply code
      → new ≡ k → RunsBlock k n q (Ok (done t)) new
  refused-runs code t has_user user spelled tells same = λ s at.
      let comes : verdict_of_block k.world s q (block_of q) ≡ refused (plain code) = spelled k.world s (sym (user s at)) in
      subst (λ (v : Verdict). RunsVerdict k s v (done t) new) (sym comes) (outcome-same k new _ _ t tells same)

-- what a request is told, put into a buffer, and kept

spelling-new : (w : World) (s : Session) (o : Option Call) → is_new (verdict_of_spelling w s o) ≡ true
spelling-new w s None = refl
spelling-new w s (Some call) = row-new call (refusal w s call)

block-new : (w : World) (s : Session) (q : Request) (block : List ℕ) → is_new (verdict_of_block w s q block) ≡ true
block-new w s q [] = refl
block-new w s q (command ∷ fields) =
    let spelt : Verdict = verdict_of_spelling w s (spelt_call (block_of q) (enclosed_of q)) in
    cond_both (not (is_command command)) (refused (plain CallNotSupported)) (if is_none s.user && needs_user command then refused (plain UserNotAuth) else spelt) (λ v. is_new v ≡ true)
    (λ none. refl)
    (λ one. cond_both (is_none s.user && needs_user command) (refused (plain UserNotAuth)) spelt (λ v. is_new v ≡ true) (λ asks. refl) (λ passes. spelling-new w s (spelt_call (block_of q) (enclosed_of q))))

pub told-fresh : (k mid : KeptWorld) (n : ℕ) (q : Request) (r : Told × Outcome) → IsThere k n → IsSound k.world → HasNone (table_in k.world) n q → RunsBlock k n q (Ok r) mid → HasNone (table_in mid.world) n q
told-fresh k mid n q r there sound fresh ran =
    none-kept k mid n q r there.session (verdict_of_block k.world there.session q (block_of q)) there.numbered sound fresh (ran there.session there.numbered)

pub told-kept : (k mid new : KeptWorld) (n : ℕ) (q : Request) (told put : Told) (o : Outcome) → RunsBlock k n q (Ok (told, o)) mid → put ≡ told → new ≡ keeps mid n (kept_answer q told) q → RunsKept k n q (Ok (put, o)) new
told-kept k mid new n q told put o ran same becomes =
    subst (λ (t : Told). RunsKept k n q (Ok (t, o)) new) (sym same)
    (λ s at. kept-runs k mid new n q (told, o) s (verdict_of_block k.world s q (block_of q)) at (block-new k.world s q (block_of q)) (ran s at) becomes)

short-block : (t : Told) (room : ℕ) → fits_frame t ≡ true → payload_limit ≤ room → length (block_in t) ≤ room
short-block (told.Opened link) room short enough = omega arith
short-block (told.Reply code block ends) room short enough = let few : length block ≤ payload_limit = leb-true (length block) payload_limit short in omega (arith, few, enough)
short-block (told.Live drain) room short enough = omega arith
short-block told.Done room short enough = omega arith
short-block told.Displaced room short enough = omega arith
short-block told.Memory room short enough = omega arith

pub told-room : (k mid : KeptWorld) (n : ℕ) (q : Request) (r : Told × Outcome) (room : ℕ) → IsThere k n → VerdictFits k n q → RunsBlock k n q (Ok r) mid → payload_limit ≤ room → length (block_in r.0) ≤ room
told-room k mid n q r room there fits came enough =
    let ran : RunsVerdict k there.session (verdict_of_block k.world there.session q (block_of q)) r mid = came there.session there.numbered in
    short-block r.0 room (ap fits_frame ran.serial ∙ fits there.session there.numbered r.1 ran.legal) enough

-- the call

pub call-fresh : (k new : KeptWorld) (link n : ℕ) (q : Request) (result : Result (Told × Outcome) OutOfMemory) → IsAt k.world.sessions link n → HasNone (table_in k.world) n q
    → RunsKept k n q result new → RunsCall k link q result new
unfolding verdict
call-fresh k new link n q (Err e) at fresh ran = (ap (λ (o : Option Session). stands_for o q) at.linked ∙ ap is_some (fresh at.session at.numbered), ran)
call-fresh k new link n q (Ok r) at fresh ran =
    let w = k.world in
    let s = at.session in
    let e : verdict w s q ≡ verdict_of_block w s q (block_of q) = ap (λ (o : Option Answer). verdict_of_kept w s q o) (fresh s at.numbered) in
    subst (λ (o : Option Session). IsOutcomeOf (told_call w o q r.1) (after_call w o q r.1) (committed_in w o q) r.1 r.0 k new) (sym at.linked)
    (subst (λ (v : Verdict). IsOutcomeOf (told_verdict w s v r.1) (serial.keeping (after_verdict w s v r.1) s.number q (newly_kept q v (told_verdict w s v r.1))) (committed_by w s v) r.1 r.0 k new) (sym e) (ran s at.numbered))

pub call-again : (k new : KeptWorld) (link n : ℕ) (q : Request) (t : Told) → IsAt k.world.sessions link n → ((s : Session) → session_of k.world.sessions n ≡ Some s → IsToldAgain (cached_answer s.cache q) (Some t)) → new ≡ k → RunsCall k link q (Ok (done t)) new
unfolding verdict
call-again k new link n q t at again same =
    subst (λ (o : Option Session). IsOutcomeOf (told_call k.world o q outcome.Done) (after_call k.world o q outcome.Done) (committed_in k.world o q) outcome.Done t k new) (sym at.linked)
    (by (cached_answer at.session.cache q) refl (again at.session at.numbered))
  where
    by : (o : Option Answer) → cached_answer at.session.cache q ≡ o → IsToldAgain o (Some t) → IsOutcomeOf (told_verdict k.world at.session (verdict k.world at.session q) outcome.Done) (after_call k.world (Some at.session) q outcome.Done) (committed_by k.world at.session (verdict k.world at.session q)) outcome.Done t k new
    by None is h = absurd h
    by (Some a) is h =
        let e : verdict k.world at.session q ≡ repeats a = ap (λ (x : Option Answer). verdict_of_kept k.world at.session q x) is in
        subst (λ (v : Verdict). IsOutcomeOf (told_verdict k.world at.session v outcome.Done) (serial.keeping (after_verdict k.world at.session v outcome.Done) at.session.number q (newly_kept q v (told_verdict k.world at.session v outcome.Done))) (committed_by k.world at.session v) outcome.Done t k new) (sym e)
        (outcome-same k new _ _ t h same)

pub none-again : (k : KeptWorld) (n : ℕ) (q : Request) → ((s : Session) → session_of k.world.sessions n ≡ Some s → IsToldAgain (cached_answer s.cache q) None) → HasNone (table_in k.world) n q
none-again k n q none = λ s at. by (cached_answer s.cache q) (none s at)
  where
    by : (o : Option Answer) → IsToldAgain o None → o ≡ None
    by None h = refl
    by (Some a) h = absurd h

-- what may be told fits

module _ (k : KeptWorld) (link n : ℕ) (q : Request) (at : IsAt k.world.sessions link n) (fits : CallFits k.world link q) where
  -- the session of the link is the one of the number
  is-linked : (s : Session) → session_of k.world.sessions n ≡ Some s → session_at k.world link ≡ Some s
  is-linked s found = at.linked ∙ sym at.numbered ∙ found

  told-fits : (s : Session) (v : Verdict) (o : Outcome) → session_of k.world.sessions n ≡ Some s → verdict k.world s q ≡ v → is_legal_outcome (committed_by k.world s v) o ≡ true → fits_frame (told_verdict k.world s v o) ≡ true
  told-fits s v o found comes legal =
      let tells : told_call k.world (session_at k.world link) q o ≡ told_verdict k.world s v o = ap (λ (x : Option Session). told_call k.world x q o) (is-linked s found) ∙ ap (λ (x : Verdict). told_verdict k.world s x o) comes in
      let commits : committed_in k.world (session_at k.world link) q ≡ committed_by k.world s v = ap (λ (x : Option Session). committed_in k.world x q) (is-linked s found) ∙ ap (committed_by k.world s) comes in
      ap fits_frame (sym tells) ∙ fits o (ap (λ (x : Option ℕ). is_legal_outcome x o) commits ∙ legal)

  -- an answer that is kept
  pub kept-room : (room : ℕ) → payload_limit ≤ room → HasRoom k n q room
  unfolding verdict
  kept-room room enough = λ s found. by s found (cached_answer s.cache q) refl
    where
      by : (s : Session) → session_of k.world.sessions n ≡ Some s → (o : Option Answer) → cached_answer s.cache q ≡ o → HasRoomFor o room
      by s found None is = tt
      by s found (Some a) is =
          let comes : verdict k.world s q ≡ repeats a = ap (λ (x : Option Answer). verdict_of_kept k.world s q x) is in
          let few : length a.block ≤ payload_limit = leb-true (length a.block) payload_limit (told-fits s (repeats a) outcome.Done found comes refl) in
          omega (arith, few, enough)

  -- what is told where none is kept
  pub verdict-fits : HasNone (table_in k.world) n q → VerdictFits k n q
  unfolding verdict
  verdict-fits fresh = λ s found o legal. told-fits s (verdict_of_block k.world s q (block_of q)) o found (ap (λ (x : Option Answer). verdict_of_kept k.world s q x) (fresh s found)) legal
