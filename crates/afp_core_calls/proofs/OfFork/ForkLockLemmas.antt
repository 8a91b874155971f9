-- Rows of calls that lock or unlock bytes of an open fork.
use Rattle.std.proofs.Common.{◌≡◌, ◌∙◌, ap, sym, refl, subst, ℕ, zero, suc, ℤ, pos, negsuc, ◌+◌, ◌≤◌, Bool, true, false, not, ◌&&◌, List, [], ◌∷◌, length, Option, Some, None}
use Rattle.std.specs.Prelude.{Result, Ok as with_ok, Err, if◌then◌else◌, nat_le}
use Rattle.std.proofs.lemmas.Bool.{cond_both}
use Rattle.afp_base.specs.Choice.{first_holding}
use Rattle.afp_base.specs.DenyMode.{Fork}
use Rattle.afp_base.specs.Overlap.{Range}
use Rattle.afp_base.specs.declared.bytes.OutOfMemory.{OutOfMemory}
use Rattle.afp_base.specs.declared.code.Code.{Code}
use Rattle.afp_base.specs.declared.code.Code.TheVariants.{LockErr, NoMoreLocks, ParamErr, RangeNotLocked, RangeOverlap}
use Rattle.afp_replies.specs.Replies.{canonical_reply}
use Rattle.afp_calls_grammar.specs.declared.grammar.call.Call.{Call}
use Rattle.afp_base.specs.Limits.{most_fork_bytes}
use Rattle.afp_serial.specs.Answer.{refusal_reply}
use Rattle.afp_serial.specs.World.{plain}
use Rattle.afp_serial.specs.ForkBytes.{is_from_end, start_in}
use Rattle.afp_serial.specs.Lock.{has_lock, lock_asked, locked, locking_refusals, locks, locks_range, range_asked, range_of, range_refusals, range_to, unlocked}
use Rattle.afp_base.specs.Limits.{last_byte}
use Rattle.afp_serial.specs.OnFork.{OpenFile, bytes_of}
use Rattle.afp_serial.specs.Rows.{ends_session, row}
use Rattle.afp_serial.specs.declared.ask.Outcome.{Outcome}
use Rattle.afp_serial.specs.declared.ask.Told.{Told}
use Rattle.volume_spec.specs.ForkEffect.{fork_of}
use Rattle.afp_core_calls.specs.fork.lemma.OnForkBytes.{BecomesForks, HasRoom, IsOffset, IsPlace, TellsLocked, TellsUnlocked, start_reply}
use Rattle.afp_core_state.specs.OnForks.{IsFork, IsForkAt}
use Rattle.afp_core_state.specs.KeptWorld.{KeptWorld}
use Rattle.afp_core_state.specs.lemma.KeptWorld.{forks_in, with_forks}
use Rattle.afp_core_state.specs.Running.{done, RunsRow}
use Rattle.afp_core_state.specs.declared.on_fork.OwnFork.{OwnFork}
use Rattle.afp_core_calls.proofs.OfFork.ForkBytesLemmas.{fork-done, fork-none, fork-refused, row-told}
use Rattle.afp_core_calls.proofs.OfFork.ForkWriteLemmas.{start-fits}
use Rattle.afp_core_state.specs.Forks.{Forks, LocksRange, UnlocksRange}
use Rattle.range_locks.specs.declared.fault.LockFault.{LockFault}
use Rattle.range_locks.specs.declared.fault.LockFault.TheVariants as fault
use Rattle.range_locks.specs.declared.fault.NotLocked.{NotLocked}

-- a fork has no more bytes than a volume may have
abbrev pub few-of : OpenFile → Type 0
few-of f = length (bytes_of f) ≤ most_fork_bytes

-- a range starts where its start is
to-from : (from to : ℕ) (r : Range) → range_to from to ≡ Some r → from ≡ r.from
to-from from to r is = cond_both (nat_le from to && nat_le to last_byte) (Some (record { from = from; to = to })) None (λ o. o ≡ Some r → from ≡ r.from) (λ good k. cc) (λ bad k. absurd (cc)) is

range-from : (start count : ℤ) (r : Range) → range_of start count ≡ Some r → start ≡ pos r.from
range-from (negsuc n) count r is = absurd (cc)
range-from (pos from) (pos zero) r is = absurd (cc)
range-from (pos from) (pos (suc more)) r is = ap pos (to-from from (from + more) r is)
range-from (pos from) (negsuc zero) r is = ap pos (to-from from last_byte r is)
range-from (pos from) (negsuc (suc n)) r is = absurd (cc)

-- the start that counts: from the end of the fork only where a range is locked
pub range-as : (f : OpenFile) (flags : ℕ) (offset count : ℤ) (unlocks : Bool) → unlocks ≡ (lock_asked flags offset count).unlocks
    → range_of (start_in (bytes_of f) (is_from_end flags && not unlocks) offset) count ≡ range_asked f (lock_asked flags offset count)
unfolding range_asked
range-as f flags offset count unlocks is = by unlocks (is_from_end flags) ∙ ap (λ (b : Bool). range_of (if b then offset else start_in (bytes_of f) (is_from_end flags) offset) count) is
  where
    by : (u e : Bool) → range_of (start_in (bytes_of f) (e && not u) offset) count ≡ range_of (if u then offset else start_in (bytes_of f) e offset) count
    by true true = refl
    by true false = refl
    by false true = refl
    by false false = refl

pub range-told : (f : OpenFile) (fork : Fork) (flags : ℕ) (offset count : ℤ) (from_end : Bool) (start : Option ℕ) (result : Option Range) → f.fork.fork ≡ fork
    → from_end ≡ (is_from_end flags && not (lock_asked flags offset count).unlocks) → IsPlace (start_in (fork_of fork.resource f.file) from_end offset) start
    → ((z : ℤ) → IsPlace z start → result ≡ range_of z count) → result ≡ range_asked f (lock_asked flags offset count)
range-told f fork flags offset count from_end start result is ends place range =
    let unlocks : Bool = (lock_asked flags offset count).unlocks in
    range (start_in (bytes_of f) (is_from_end flags && not unlocks) offset) (subst (λ z. IsPlace z start) (λ i. start_in (fork_of (sym is i).resource f.file) (ends i) offset) place)
    ∙ range-as f flags offset count unlocks refl

-- where a range starts has room in the reply
range-fits : (wide : Bool) (f : OpenFile) (flags : ℕ) (offset count : ℤ) (range : Range) → few-of f → IsOffset wide offset → range_asked f (lock_asked flags offset count) ≡ Some range → HasRoom wide range.from
range-fits wide f flags offset count range few small is =
    let unlocks : Bool = (lock_asked flags offset count).unlocks in
    start-fits wide (bytes_of f) (is_from_end flags && not unlocks) offset range.from few small
    (range-from (start_in (bytes_of f) (is_from_end flags && not unlocks) offset) count range (range-as f flags offset count unlocks refl ∙ is))

module _ (k : KeptWorld) (number : ℕ) (call : Call) (reference : ℕ) (wide : Bool) (flags : ℕ) (offset count : ℤ) (row_is : row call ≡ locks reference (lock_asked flags offset count) (start_reply wide)) (goes_on : ends_session call ≡ false) where
  pub lock-none : (told : Told) → IsFork k number reference None → told ≡ refusal_reply ParamErr → RunsRow k number call (with_ok (done told)) k
  lock-none told none is = fork-none k number call reference _ _ _ row_is goes_on told none is

  module _ (own : OwnFork) (stands : IsForkAt k number reference own) where
    pub lock-no_range : (told : Told) → None ≡ range_asked stands.file (lock_asked flags offset count) → told ≡ refusal_reply ParamErr → RunsRow k number call (with_ok (done told)) k
    lock-no_range told none is =
        fork-refused k number call reference _ _ _ row_is goes_on k own stands (plain ParamErr) told
        (λ i. first_holding (range_refusals (lock_asked flags offset count).unlocks k.world stands.file.fork (sym none i))) is refl

    module _ (new : KeptWorld) (range : Range) (block : List ℕ) (is : Some range ≡ range_asked stands.file (lock_asked flags offset count)) (few : few-of stands.file) (small : IsOffset wide offset)
        (bytes : HasRoom wide range.from → block ≡ canonical_reply (start_reply wide range.from)) where
      tells-start : block ≡ canonical_reply (start_reply wide range.from)
      tells-start = bytes (range-fits wide stands.file flags offset count range few small (sym is))

      module _ (sets : (lock_asked flags offset count).unlocks ≡ false) where
        refuses-lock : first_holding (range_refusals (lock_asked flags offset count).unlocks k.world stands.file.fork (range_asked stands.file (lock_asked flags offset count))) ≡ first_holding (locking_refusals k.world stands.file.fork range)
        refuses-lock = λ i. first_holding (range_refusals (sets i) k.world stands.file.fork (sym is i))

        lock-refused : (code : Code) (told : Told) → first_holding (locking_refusals k.world stands.file.fork range) ≡ Some (plain code) → told ≡ refusal_reply code → new ≡ k → RunsRow k number call (with_ok (done told)) new
        lock-refused code told holds tells same =
            fork-refused k number call reference _ _ _ row_is goes_on new own stands (plain code) told (refuses-lock ∙ holds) tells same

        lock-stays : (forks : Forks) → forks ≡ forks_in k.world → new ≡ with_forks k forks → new ≡ k
        lock-stays forks same now = now ∙ ap (with_forks k) same

        pub lock-runs : (answer : Result (Unit {0}) LockFault) (result : Result (Told × Outcome) OutOfMemory)
            → BecomesForks k (λ forks. LocksRange k.world (forks_in k.world) stands.file.fork range answer forks) new → TellsLocked answer block result → RunsRow k number call result new
        lock-runs (with_ok set) (with_ok r) b told =
            row-told k new number call r _ told
            (fork-done k number call reference _ _ _ row_is goes_on new own stands (locked k.world stands.file.fork range) (start_reply wide range.from) block _ (refuses-lock ∙ b.is.0)
            (λ i. locks_range (sets i) k.world stands.file.fork (start_reply wide) (sym is i)) tells-start refl (b.now ∙ ap (with_forks k) b.is.1))
        lock-runs (with_ok set) (Err e) b told = absurd told
        lock-runs (Err fault.Locked) (with_ok r) b told = row-told k new number call r _ told (lock-refused LockErr _ b.is.0 refl (lock-stays b.forks b.is.1 b.now))
        lock-runs (Err fault.Locked) (Err e) b told = absurd told
        lock-runs (Err fault.Overlap) (with_ok r) b told = row-told k new number call r _ told (lock-refused RangeOverlap _ b.is.0 refl (lock-stays b.forks b.is.1 b.now))
        lock-runs (Err fault.Overlap) (Err e) b told = absurd told
        lock-runs (Err fault.Full) (with_ok r) b told = row-told k new number call r _ told (lock-refused NoMoreLocks _ b.is.0 refl (lock-stays b.forks b.is.1 b.now))
        lock-runs (Err fault.Full) (Err e) b told = absurd told
        lock-runs (Err fault.Memory) (with_ok r) b told = absurd told
        lock-runs (Err fault.Memory) (Err e) b told = lock-stays b.forks b.is b.now

      module _ (gone : (lock_asked flags offset count).unlocks ≡ true) where
        refuses-unlock : (b : Bool) → has_lock k.world stands.file.fork range ≡ b
            → first_holding (range_refusals (lock_asked flags offset count).unlocks k.world stands.file.fork (range_asked stands.file (lock_asked flags offset count))) ≡ first_holding ((not b, plain RangeNotLocked) ∷ [])
        refuses-unlock b has = (λ i. first_holding (range_refusals (gone i) k.world stands.file.fork (sym is i))) ∙ ap (λ (x : Bool). first_holding ((not x, plain RangeNotLocked) ∷ [])) has

        pub unlock-runs : (answer : Result (Unit {0}) NotLocked) (told : Told)
            → BecomesForks k (λ forks. UnlocksRange k.world (forks_in k.world) stands.file.fork range answer forks) new → TellsUnlocked answer block told → RunsRow k number call (with_ok (done told)) new
        unlock-runs (with_ok set) told b tells =
            fork-done k number call reference _ _ _ row_is goes_on new own stands (unlocked k.world stands.file.fork range) (start_reply wide range.from) block told (refuses-unlock true b.is.0)
            (λ i. locks_range (gone i) k.world stands.file.fork (start_reply wide) (sym is i)) tells-start tells (b.now ∙ ap (with_forks k) b.is.1)
        unlock-runs (Err e) told b tells =
            fork-refused k number call reference _ _ _ row_is goes_on new own stands (plain RangeNotLocked) told (refuses-unlock false b.is.0) tells (b.now ∙ ap (with_forks k) b.is.1)
