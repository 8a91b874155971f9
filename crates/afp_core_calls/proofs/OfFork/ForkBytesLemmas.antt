-- Rows of calls on an open fork of the session, and of those that read its bytes.
use Rattle.std.proofs.Common.{◌≡◌, ◌∙◌, ap, sym, refl, subst, ℕ, ℤ, pos, ◌==◌, Bool, true, false, not, ◌&&◌, List, [], ◌∷◌, length, Option, Some, None}
use Rattle.std.specs.Prelude.{IfOk, OnOk, Result, Ok as with_ok, Err, is_none, is_some, nat_abs, nat_lt, option_map, position, bit_and, slice_get}
use Rattle.std.proofs.lemmas.List.{append-nil}
use Rattle.std.proofs.lemmas.Option.{same_Some}
use Rattle.afp_base.specs.Choice.{first_holding}
use Rattle.afp_base.specs.ForkBytes.{taken}
use Rattle.afp_base.specs.declared.bytes.OutOfMemory.{OutOfMemory}
use Rattle.afp_base.specs.declared.code.Code.{Code}
use Rattle.afp_base.specs.declared.code.Code.TheVariants.{Ok, AccessDenied, EOFErr, LockErr, MiscErr, ParamErr}
use Rattle.afp_replies.specs.Replies.{canonical_reply}
use Rattle.afp_replies.specs.declared.reply.Reply.{Reply as AfpReply}
use Rattle.afp_replies.specs.declared.reply.Reply.TheVariants.{Piece}
use Rattle.afp_calls_grammar.specs.declared.grammar.call.Call.{Call}
use Rattle.afp_calls_grammar.specs.declared.grammar.call.Call.TheVariants.{ByteRangeLock, ByteRangeLockExt, Read, ReadExt, Write, WriteExt}
use Rattle.afp_base.specs.declared.ids.ForkRef.{ForkRef}
use Rattle.afp_serial.specs.Lock.{lock_asked, locks}
use Rattle.afp_serial.specs.Answer.{refusal_reply, refused_reply}
use Rattle.afp_serial.specs.World.{Effect, Refusal, Refused, CallRow, plain, World, Session}
use Rattle.afp_serial.specs.ForkBytes.{ReadAsked, ahead, meets_end, most_read, read_bytes, read_refusals, read_reply, reads, stop_in, up_to, writes}
use Rattle.afp_serial.specs.OnFork.{OpenFile, bytes_of, committed_with, done_with, is_locked, on_fork, open_file, row_on_fork}
use Rattle.afp_serial.specs.Rows.{committed, effect, ends_session, refusal, row}
use Rattle.afp_serial.specs.declared.ask.Outcome.{Outcome}
use Rattle.afp_serial.specs.declared.ask.Outcome.TheVariants as outcome
use Rattle.afp_serial.specs.declared.ask.Told.{Told}
use Rattle.afp_serial.specs.declared.ask.Told.TheVariants.{Reply}
use Rattle.volume_spec.specs.ForkEffect.{fork_of}
use Rattle.volume_spec.specs.VolumeState.{Row as File, VolumeState}
use Rattle.volume_spec.specs.Walk.{row_at}
use Rattle.afp_core_calls.specs.fork.lemma.OnForkBytes.{IsReadOf, IsSpan, IsSpanOf, TellsRead, end_reply, line_in, read_checks, start_reply, write_asked}
use Rattle.afp_core_state.specs.OnForks.{IsFork, IsForkAt}
use Rattle.afp_core_state.specs.OnVolumes.{BecomesKept}
use Rattle.afp_core_state.specs.KeptWorld.{KeptWorld}
use Rattle.afp_core_state.specs.Running.{done, RunsRow}
use Rattle.afp_core_state.specs.declared.on_fork.OwnFork.{OwnFork}
use Rattle.afp_core_calls.specs.declared.fork.read.ReadSpan.{ReadSpan}
use Rattle.afp_core_state.proofs.KeeperLemmas.{outcome-same}
use Rattle.afp_core_state.proofs.OnVolumeLemmas.{keeper-fails, told-effect}
use Rattle.afp_core_state.proofs.RowLemmas.{has_effect, is_refused}
use Rattle.afp_core_state.proofs.SessionLemmas.{session_of-number}
use Rattle.fork_bytes.specs.Line.{line_of}
use Rattle.volume_keeper.specs.kept.Changing.{FailsIn}
use Rattle.volume_keeper.specs.kept.LineLaws.{LinesEnd, LinesStop}

-- the row of a call on an open fork
module _ (k : KeptWorld) (number : ℕ) (call : Call) (reference : ℕ) (refuses : World → OpenFile → List Refusal) (does : World → OpenFile → Effect) (commits : World → OpenFile → Option ℕ)
    (row_is : row call ≡ row_on_fork reference refuses does commits) (goes_on : ends_session call ≡ false) where
  -- it is refused as is refused of what stands under the reference
  refuses-as : (s : Session) (q : Option OpenFile) → open_file k.world s reference ≡ q → refusal k.world s call ≡ first_holding (on_fork q (refuses k.world))
  refuses-as s q is = ap (λ (r : CallRow). first_holding (r.refusals k.world s)) row_is ∙ ap (λ (o : Option OpenFile). first_holding (on_fork o (refuses k.world))) is

  pub fork-none : (told : Told) → IsFork k number reference None → told ≡ refusal_reply ParamErr → RunsRow k number call (with_ok (done told)) k
  fork-none told none is = λ s at.
      is_refused k k s call ParamErr told (refuses-as s None (none s (session_of-number k.world.sessions number s at))) is refl

  pub fork-refused : (new : KeptWorld) (own : OwnFork) (stands : IsForkAt k number reference own) (r : Refused) (told : Told) → first_holding (refuses k.world stands.file) ≡ Some r
      → told ≡ refused_reply r → new ≡ k → RunsRow k number call (with_ok (done told)) new
  fork-refused new own stands r told holds is same = λ s at.
      let refused : refusal k.world s call ≡ Some r = refuses-as s (Some stands.file) (stands.found s (session_of-number k.world.sessions number s at)) ∙ holds in
      rw refused (outcome-same k new _ _ told is same)

  -- what refuses any fork by a code refuses the call, whatever stands under the reference
  pub any-refused : (told : Told) → ((f : OpenFile) → first_holding (refuses k.world f) ≡ Some (plain ParamErr)) → told ≡ refusal_reply ParamErr → RunsRow k number call (with_ok (done told)) k
  any-refused told holds is = λ s at.
      is_refused k k s call ParamErr told (refuses-as s (open_file k.world s reference) refl ∙ by (open_file k.world s reference)) is refl
    where
      by : (q : Option OpenFile) → first_holding (on_fork q (refuses k.world)) ≡ Some (plain ParamErr)
      by None = refl
      by (Some f) = holds f

  pub fork-done : (new : KeptWorld) (own : OwnFork) (stands : IsForkAt k number reference own) (next : World) (reply : AfpReply) (block : List ℕ) (told : Told)
      → first_holding (refuses k.world stands.file) ≡ None → does k.world stands.file ≡ record { world = next; reply = reply } → block ≡ canonical_reply reply
      → told ≡ Reply Ok block false → new ≡ record k { world = next } → RunsRow k number call (with_ok (done told)) new
  fork-done new own stands next reply block told passes is bytes tells becomes = λ s at.
      let found = stands.found s (session_of-number k.world.sessions number s at) in
      let done : effect k.world s call ≡ record { world = next; reply = reply } =
      ap (λ (r : CallRow). r.effect k.world s) row_is ∙ ap (λ (o : Option OpenFile). done_with o k.world (does k.world)) found ∙ is in
      has_effect k new s call told next (refuses-as s (Some stands.file) found ∙ passes)
      (tells ∙ told-effect call (effect k.world s call) (record { world = next; reply = reply }) block done goes_on bytes) becomes (ap (λ (e : Effect). e.world) (sym done))

  -- its keeper failed
  pub fork-fails : (new : KeptWorld) (own : OwnFork) (stands : IsForkAt k number reference own) (index : ℕ) (told : Told) → first_holding (refuses k.world stands.file) ≡ None
      → commits k.world stands.file ≡ Some index → told ≡ refusal_reply MiscErr → BecomesKept k index (λ old one. FailsIn old one) new → RunsRow k number call (with_ok (told, outcome.Fault)) new
  fork-fails new own stands index told passes names is b = λ s at.
      let found = stands.found s (session_of-number k.world.sessions number s at) in
      let passed : refusal k.world s call ≡ None = refuses-as s (Some stands.file) found ∙ passes in
      let commit : committed k.world s call ≡ Some index =
      ap (λ (r : CallRow). r.committed k.world s) row_is ∙ ap (λ (o : Option OpenFile). committed_with o (commits k.world)) found ∙ names in
      rw passed (keeper-fails k new _ _ _ told index commit is refl b)

-- what is told of an answer, in place of what it is
pub row-told : (k new : KeptWorld) (number : ℕ) (call : Call) (r of : Told × Outcome) → r ≡ of → RunsRow k number call (with_ok of) new → RunsRow k number call (with_ok r) new
row-told k new number call r of is runs = subst (λ (x : Told × Outcome). RunsRow k number call (with_ok x) new) (sym is) runs

-- conditions with codes, before others
pub two-pass : (a b : Bool) (x y : Code) (rest : List Refusal) → first_holding ((a, x) ∷ (b, y) ∷ []) ≡ None → first_holding ((a, plain x) ∷ (b, plain y) ∷ rest) ≡ first_holding rest
two-pass false false x y rest h = refl
two-pass false true x y rest h = absurd (cc)
two-pass true b x y rest h = absurd (cc)

pub two-refuse : (a b : Bool) (x y code : Code) (rest : List Refusal) → first_holding ((a, x) ∷ (b, y) ∷ []) ≡ Some code → first_holding ((a, plain x) ∷ (b, plain y) ∷ rest) ≡ Some (plain code)
two-refuse false false x y code rest h = absurd (cc)
two-refuse false true x y code rest h = ap (option_map plain) h
two-refuse true b x y code rest h = ap (option_map plain) h

-- FPRead and FPReadExt

-- the bytes of a piece
piece-bytes : (bytes : List ℕ) → bytes ≡ canonical_reply (Piece bytes)
piece-bytes bytes = sym (append-nil bytes)

-- the refusals of a read, by its numbers without a sign
abbrev read-rest : ReadAsked → OpenFile → List Refusal
read-rest asked f = (meets_end (bytes_of f) asked, record { code = EOFErr; reply = read_reply asked f }) ∷ []

read-as : (w : World) (f : OpenFile) (asked : ReadAsked) (span : ReadSpan) → IsSpan asked span
    → first_holding (read_refusals asked w f) ≡ first_holding ((not f.fork.access.read, plain AccessDenied) ∷ (is_locked w f.fork span.from span.count, plain LockErr) ∷ read-rest asked f)
read-as w f asked span is =
    ap (λ (b : Bool). first_holding ((b, plain ParamErr) ∷ (not f.fork.access.read, plain AccessDenied) ∷ (is_locked w f.fork (nat_abs asked.offset) (most_read asked), plain LockErr) ∷ read-rest asked f)) is.signs
    ∙ (λ i. first_holding ((not f.fork.access.read, plain AccessDenied) ∷ (is_locked w f.fork (is.from i) (is.count i), plain LockErr) ∷ read-rest asked f))

module _ (k : KeptWorld) (number : ℕ) (call : Call) (reference : ℕ) (asked : ReadAsked) (row_is : row call ≡ reads reference asked) (goes_on : ends_session call ≡ false) where
  pub read-none : (told : Told) → IsFork k number reference None → told ≡ refusal_reply ParamErr → RunsRow k number call (with_ok (done told)) k
  read-none told none is = fork-none k number call reference _ _ _ row_is goes_on told none is

  pub read-negative : (told : Told) → IsSpanOf asked None → told ≡ refusal_reply ParamErr → RunsRow k number call (with_ok (done told)) k
  read-negative told negative is = any-refused k number call reference _ _ _ row_is goes_on told (λ f. rw negative refl) is

  pub read-refused : (own : OwnFork) (stands : IsForkAt k number reference own) (span : ReadSpan) (code : Code) (told : Told) → IsSpan asked span
      → first_holding (read_checks k.world stands.file.fork span) ≡ Some code → told ≡ refusal_reply code → RunsRow k number call (with_ok (done told)) k
  read-refused own stands span code told is holds tells =
      fork-refused k number call reference _ _ _ row_is goes_on k own stands (plain code) told
      (read-as k.world stands.file asked span is ∙ two-refuse (not stands.file.fork.access.read) (is_locked k.world stands.file.fork span.from span.count) AccessDenied LockErr code (read-rest asked stands.file) holds) tells refl

  read-passes : (own : OwnFork) (stands : IsForkAt k number reference own) (span : ReadSpan) → IsSpan asked span → first_holding (read_checks k.world stands.file.fork span) ≡ None
      → first_holding (read_refusals asked k.world stands.file) ≡ first_holding (read-rest asked stands.file)
  read-passes own stands span is holds =
      read-as k.world stands.file asked span is ∙ two-pass (not stands.file.fork.access.read) (is_locked k.world stands.file.fork span.from span.count) AccessDenied LockErr (read-rest asked stands.file) holds

  -- the bytes were read
  pub read-runs : (own : OwnFork) (stands : IsForkAt k number reference own) (span : ReadSpan) (met : Result Bool OutOfMemory) (block : List ℕ) (result : Result (Told × Outcome) OutOfMemory)
      → IsSpan asked span → first_holding (read_checks k.world stands.file.fork span) ≡ None → ((b : Bool) → met ≡ with_ok b → IsReadOf (bytes_of stands.file) asked block b)
      → TellsRead met block result → RunsRow k number call result k
  read-runs own stands span (with_ok true) block (with_ok r) is holds read told =
      let it = read true refl in
      row-told k k number call r _ told
      (fork-refused k number call reference _ _ _ row_is goes_on k own stands (record { code = EOFErr; reply = read_reply asked stands.file }) _
      (read-passes own stands span is holds ∙ ap (λ (b : Bool). first_holding ((b, record { code = EOFErr; reply = read_reply asked stands.file }) ∷ [])) (sym it.met_is))
      (ap (λ (l : List ℕ). Reply EOFErr l false) (it.is ∙ piece-bytes (read_bytes (bytes_of stands.file) asked))) refl)
  read-runs own stands span (with_ok true) block (Err e) is holds read told = absurd told
  read-runs own stands span (with_ok false) block (with_ok r) is holds read told =
      let it = read false refl in
      row-told k k number call r _ told
      (fork-done k number call reference _ _ _ row_is goes_on k own stands k.world (read_reply asked stands.file) block _
      (read-passes own stands span is holds ∙ ap (λ (b : Bool). first_holding ((b, record { code = EOFErr; reply = read_reply asked stands.file }) ∷ [])) (sym it.met_is))
      refl (it.is ∙ piece-bytes (read_bytes (bytes_of stands.file) asked)) refl refl)
  read-runs own stands span (with_ok false) block (Err e) is holds read told = absurd told
  read-runs own stands span (Err e) block (with_ok r) is holds read told = absurd told
  read-runs own stands span (Err e) block (Err f) is holds read told = refl

-- how the bytes come to be read
few-read : (read taken : List ℕ) (count most : ℕ) (fewer : Bool) → read ≡ taken → fewer ≡ nat_lt (length read) count → most ≡ count → fewer ≡ nat_lt (length taken) most
few-read read taken count most fewer is few same = few ∙ (λ i. nat_lt (length (is i)) (sym same i))

module _ (bytes : List ℕ) (asked : ReadAsked) (span : ReadSpan) (is : IsSpan asked span) where
  ahead-as : taken bytes span.from span.count ≡ ahead bytes asked
  ahead-as = λ i. taken bytes (sym is.from i) (sym is.count i)

  -- a mask of 0 stops at none
  pub read-whole : (read : List ℕ) (fewer : Bool) → (span.mask == 0) ≡ true → read ≡ taken bytes span.from span.count → fewer ≡ nat_lt (length read) span.count → IsReadOf bytes asked read fewer
  unfolding read_bytes meets_end
  read-whole read fewer none whole few = record {
    is = whole ∙ ahead-as ∙ ap (λ (q : Option ℕ). up_to q (ahead bytes asked)) (sym no_stop);
    met_is = few-read read (ahead bytes asked) span.count (most_read asked) fewer (whole ∙ ahead-as) few is.count ∙ ap (λ (q : Option ℕ). is_none q && nat_lt (length (ahead bytes asked)) (most_read asked)) (sym no_stop);
  }
    where
      no_stop : stop_in asked (ahead bytes asked) ≡ None
      no_stop = rw (is.mask, none) refl

  -- another one stops at its first character
  pub read-up_to : LinesStop → LinesEnd → (read : List ℕ) (fewer : Bool) → (span.mask == 0) ≡ false → read ≡ (line_of span.mask span.character (taken bytes span.from span.count)).bytes
      → fewer ≡ (not (line_of span.mask span.character (taken bytes span.from span.count)).stopped && nat_lt (length read) span.count) → IsReadOf bytes asked read fewer
  unfolding read_bytes meets_end
  read-up_to stops ends read fewer some line few =
      let found : Option ℕ = position (λ b. bit_and b span.mask == span.character) (ahead bytes asked) in
      let stop : stop_in asked (ahead bytes asked) ≡ found = rw (is.mask, is.character, some) refl in
      let told : read ≡ up_to found (ahead bytes asked) = line ∙ ap (λ (l : List ℕ). (line_of span.mask span.character l).bytes) ahead-as ∙ ends span.mask span.character (ahead bytes asked) in
      let stopped : (line_of span.mask span.character (taken bytes span.from span.count)).stopped ≡ is_some found =
      ap (λ (l : List ℕ). (line_of span.mask span.character l).stopped) ahead-as ∙ stops span.mask span.character (ahead bytes asked) in
      record {
        is = told ∙ ap (λ (q : Option ℕ). up_to q (ahead bytes asked)) (sym stop);
        met_is = few ∙ (λ i. not (stopped i) && nat_lt (length (told i)) (sym is.count i)) ∙ by found ∙ ap (λ (q : Option ℕ). is_none q && nat_lt (length (ahead bytes asked)) (most_read asked)) (sym stop);
      }
    where
      by : (q : Option ℕ) → (not (is_some q) && nat_lt (length (up_to q (ahead bytes asked))) (most_read asked)) ≡ (is_none q && nat_lt (length (ahead bytes asked)) (most_read asked))
      by None = refl
      by (Some n) = refl

-- the same of what was read of a file
module _ (rows : List File) (node : ℕ) (resource : Bool) (span : ReadSpan) (out : List ℕ) where
  pub whole-read : (result : Result Bool OutOfMemory) → (span.mask == 0) ≡ true → IfOk result (λ fewer. fewer ≡ nat_lt (length out) span.count)
      → OnOk result ((file : File) → row_at rows node ≡ Some file → out ≡ taken (fork_of resource file) span.from span.count)
      → IfOk result (λ met. (file : File) (asked : ReadAsked) → row_at rows node ≡ Some file → IsSpan asked span → IsReadOf (fork_of resource file) asked out met)
  whole-read (with_ok b) none few bytes = λ file asked there is. read-whole (fork_of resource file) asked span is out b none (bytes file there) few
  whole-read (Err e) none few bytes = tt

  pub line-read : LinesStop → LinesEnd → (result : Result Bool OutOfMemory) → (span.mask == 0) ≡ false
      → IfOk result (λ fewer. (file : File) → row_at rows node ≡ Some file → fewer ≡ (not (line_in resource file span).stopped && nat_lt (length out) span.count))
      → OnOk result ((file : File) → row_at rows node ≡ Some file → out ≡ (line_in resource file span).bytes)
      → IfOk result (λ met. (file : File) (asked : ReadAsked) → row_at rows node ≡ Some file → IsSpan asked span → IsReadOf (fork_of resource file) asked out met)
  line-read stops ends (with_ok b) some few bytes = λ file asked there is. read-up_to (fork_of resource file) asked span is stops ends out b some (bytes file there) (few file there)
  line-read stops ends (Err e) some few bytes = tt

-- the volume at an index
pub found-state : (k : KeptWorld) (number reference : ℕ) (own : OwnFork) (stands : IsForkAt k number reference own) (v : VolumeState) → slice_get k.world.volumes own.index ≡ Some v → stands.file.volume ≡ v
found-state k number reference own stands v there = same_Some stands.file.volume v (sym stands.volume ∙ there)

-- what was read of the volume at the index was read of the open fork
pub read-of : (k : KeptWorld) (number reference : ℕ) (own : OwnFork) (stands : IsForkAt k number reference own) (v : VolumeState) → slice_get k.world.volumes own.index ≡ Some v
    → (asked : ReadAsked) (span : ReadSpan) → IsSpan asked span → (met : Result Bool OutOfMemory) (block : List ℕ)
    → IfOk met (λ b. (file : File) (a : ReadAsked) → row_at v.rows own.fork.node ≡ Some file → IsSpan a span → IsReadOf (fork_of own.fork.resource file) a block b)
    → (b : Bool) → met ≡ with_ok b → IsReadOf (bytes_of stands.file) asked block b
read-of k number reference own stands v there asked span is (Err e) block holds b same = absurd (cc)
read-of k number reference own stands v there asked span is (with_ok a) block holds b same =
    let f = stands.file in
    let node : row_at v.rows own.fork.node ≡ Some f.file = ap (λ (u : VolumeState). row_at u.rows own.fork.node) (sym (found-state k number reference own stands v there)) ∙ stands.node in
    let read : IsReadOf (bytes_of f) asked block a = subst (λ l. IsReadOf l asked block a) (λ i. fork_of (sym stands.fork_is i).resource f.file) (holds f.file asked node is) in
    subst (λ x. IsReadOf (bytes_of f) asked block x) (let e : a ≡ b = cc in e) read

pub node-there : (k : KeptWorld) (number reference : ℕ) (own : OwnFork) (stands : IsForkAt k number reference own) (v : VolumeState) → slice_get k.world.volumes own.index ≡ Some v → row_at v.rows own.fork.node ≡ Some stands.file.file
node-there k number reference own stands v there = ap (λ (u : VolumeState). row_at u.rows own.fork.node) (sym (found-state k number reference own stands v there)) ∙ stands.node

-- the rows of the calls
pub read-row : (reference : ForkRef) (offset : ℤ) (count mask character : ℕ)
    → row (Read reference offset count mask character) ≡ reads reference.0 (record { offset = offset; count = pos count; mask = mask; character = character })
unfolding row
read-row reference offset count mask character = refl

pub read_ext-row : (reference : ForkRef) (offset count : ℤ) → row (ReadExt reference offset count) ≡ reads reference.0 (record { offset = offset; count = count; mask = 0; character = 0 })
unfolding row
read_ext-row reference offset count = refl

pub write-row : (flag : ℕ) (reference : ForkRef) (offset : ℤ) (count : ℕ) (piece : List ℕ) → row (Write flag reference offset count piece) ≡ writes reference.0 (write_asked flag offset (pos count) piece) (end_reply false)
unfolding row
write-row flag reference offset count piece = refl

pub write_ext-row : (flag : ℕ) (reference : ForkRef) (offset count : ℤ) (piece : List ℕ) → row (WriteExt flag reference offset count piece) ≡ writes reference.0 (write_asked flag offset count piece) (end_reply true)
unfolding row
write_ext-row flag reference offset count piece = refl

pub lock-row : (flags : ℕ) (reference : ForkRef) (offset count : ℤ) → row (ByteRangeLock flags reference offset count) ≡ locks reference.0 (lock_asked flags offset count) (start_reply false)
unfolding row
lock-row flags reference offset count = refl

pub lock_ext-row : (flags : ℕ) (reference : ForkRef) (offset count : ℤ) → row (ByteRangeLockExt flags reference offset count) ≡ locks reference.0 (lock_asked flags offset count) (start_reply true)
unfolding row
lock_ext-row flags reference offset count = refl
