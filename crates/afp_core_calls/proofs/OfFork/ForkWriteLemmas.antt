-- Rows of calls that write bytes of an open fork.
use Rattle.std.proofs.Common.{◌≡◌, ◌∙◌, ap, sym, refl, subst, ℕ, ℤ, pos, ◌+◌, ◌≤◌, arith, Bool, true, false, not, ◌||◌, List, [], ◌∷◌, length, Option, Some, None}
use Rattle.std.specs.Prelude.{Result, Ok as with_ok, max, nat_abs}
use Rattle.std.specs.Int.{is_negative}
use Rattle.std.proofs.lemmas.Int.{ints}
use Rattle.std.proofs.Math.Nat.{add-zero}
use Rattle.afp_base.specs.Choice.{first_holding}
use Rattle.afp_base.specs.DenyMode.{Fork}
use Rattle.afp_base.specs.ForkBytes.{Reaches, splice}
use Rattle.afp_base.specs.declared.bytes.OutOfMemory.{OutOfMemory}
use Rattle.afp_base.specs.declared.code.Code.{Code}
use Rattle.afp_base.specs.declared.code.Code.TheVariants.{AccessDenied, DiskFull, LockErr, ParamErr}
use Rattle.afp_replies.specs.Replies.{canonical_reply}
use Rattle.afp_calls_grammar.specs.declared.grammar.call.Call.{Call}
use Rattle.afp_serial.specs.Answer.{refusal_reply}
use Rattle.afp_serial.specs.World.{Refusal, plain, World}
use Rattle.afp_serial.specs.ForkBytes.{WriteAsked, is_from_end, start_in, write_refusals, write_start, writes, writes_some, written_bytes}
use Rattle.afp_serial.specs.OnFork.{OpenFile, bytes_of, is_locked, with_bytes}
use Rattle.afp_serial.specs.Rows.{ends_session, row}
use Rattle.afp_serial.specs.declared.ask.Outcome.{Outcome}
use Rattle.afp_serial.specs.declared.ask.Told.{Told}
use Rattle.volume_spec.specs.ForkEffect.{fork_of, would_pass}
use Rattle.volume_spec.specs.ForkLaws.{RoomIsFew}
use Rattle.afp_base.specs.Limits.{most_fork_bytes}
use Rattle.volume_spec.specs.Walk.{row_at}
use Rattle.volume_edits.specs.edits.Planned.{PlanValue}
use Rattle.volume_keeper.specs.kept.ForkChanging.{PlansBytes}
use Rattle.volume_tree.specs.declared.resolve.PlanFault.{PlanFault}
use Rattle.afp_core_calls.specs.fork.lemma.OnForkBytes.{HasRoom, IsOffset, IsPlace, end_reply, write_checks}
use Rattle.afp_core_state.specs.OnForks.{IsFork, IsForkAt}
use Rattle.afp_core_state.specs.KeptWorld.{KeptWorld}
use Rattle.afp_core_state.specs.Planned.{RunsPlan}
use Rattle.afp_core_state.specs.Running.{done, RunsRow}
use Rattle.afp_core_state.specs.declared.on_fork.OwnFork.{OwnFork}
use Rattle.afp_core_calls.proofs.OfFork.ForkBytesLemmas.{any-refused, fork-none, fork-refused, two-pass, two-refuse}
use Rattle.afp_core_calls.proofs.OfFork.OnForkLemmas.{fork-plans}
use Rattle.afp_base.proofs.Facts.{is_negative-pos}

-- the start of a write or of a lock has room in the reply
pub start-fits : (wide : Bool) (bytes : List ℕ) (from_end : Bool) (offset : ℤ) (start : ℕ) → length bytes ≤ most_fork_bytes → IsOffset wide offset → start_in bytes from_end offset ≡ pos start → HasRoom wide start
start-fits false bytes false offset start few small is = omega (arith, ints, few, small, is)
start-fits false bytes true offset start few small is = omega (arith, ints, few, small, is)
start-fits true bytes false offset start few small is = omega (arith, ints, few, small, is)
start-fits true bytes true offset start few small is = omega (arith, ints, few, small, is)

few-fits : (wide : Bool) (n : ℕ) → n ≤ most_fork_bytes → HasRoom wide n
few-fits false n few = omega (arith, few)
few-fits true n few = omega (arith, few)

-- and so has the place behind what was written
pub end-fits : Reaches → RoomIsFew → (wide : Bool) (f : OpenFile) (id : ℕ) (asked : WriteAsked) (start : ℕ) → row_at f.volume.rows id ≡ Some f.file → length (bytes_of f) ≤ most_fork_bytes
    → IsOffset wide asked.offset → write_start f asked ≡ pos start → would_pass f.volume (length (bytes_of f)) (length (splice (bytes_of f) start asked.piece)) ≡ false
    → HasRoom wide (start + length asked.piece)
end-fits reaches room wide f id asked start there few small is passes = by asked.piece passes
  where
    by : (piece : List ℕ) → would_pass f.volume (length (bytes_of f)) (length (splice (bytes_of f) start piece)) ≡ false → HasRoom wide (start + length piece)
    by [] passes = subst (HasRoom wide) (sym (add-zero start)) (start-fits wide (bytes_of f) asked.from_end asked.offset start few small is)
    by (b ∷ bs) passes =
        let all : length (splice (bytes_of f) start (b ∷ bs)) ≤ most_fork_bytes = room f.volume id f.fork.fork.resource f.file (length (splice (bytes_of f) start (b ∷ bs))) there passes in
        let reach : length (splice (bytes_of f) start (b ∷ bs)) ≡ max (length (bytes_of f)) (start + length (b ∷ bs)) = reaches (bytes_of f) (b ∷ bs) start (omega arith) in
        few-fits wide (start + length (b ∷ bs)) (omega (arith, all, reach))

-- where a start is, in an open fork
pub place-told : (f : OpenFile) (fork : Fork) (flag : ℕ) (offset : ℤ) (from_end : Bool) (start : Option ℕ) → f.fork.fork ≡ fork → from_end ≡ is_from_end flag
    → IsPlace (start_in (fork_of fork.resource f.file) from_end offset) start → IsPlace (start_in (bytes_of f) (is_from_end flag) offset) start
place-told f fork flag offset from_end start is ends place = subst (λ z. IsPlace z start) (λ i. start_in (fork_of (sym is i).resource f.file) (ends i) offset) place

-- the refusals of a write, by its start
module _ (w : World) (f : OpenFile) (asked : WriteAsked) (start : ℕ) (count : is_negative asked.count ≡ false) (is : write_start f asked ≡ pos start) where
  abbrev write-rest : List Refusal
  write-rest = (would_pass f.volume (length (bytes_of f)) (length (splice (bytes_of f) start asked.piece)), plain DiskFull) ∷ []

  write-as : first_holding (write_refusals asked w f) ≡ first_holding ((not f.fork.access.write, plain AccessDenied) ∷ (is_locked w f.fork start (length asked.piece), plain LockErr) ∷ write-rest)
  write-as =
      (λ i. first_holding ((count i || is_negative (is i), plain ParamErr) ∷ (not f.fork.access.write, plain AccessDenied) ∷ (is_locked w f.fork (nat_abs (is i)) (length asked.piece), plain LockErr)
      ∷ (would_pass f.volume (length (bytes_of f)) (length (splice (bytes_of f) (nat_abs (is i)) asked.piece)), plain DiskFull) ∷ []))
      ∙ ap (λ (b : Bool). first_holding ((false || b, plain ParamErr) ∷ (not f.fork.access.write, plain AccessDenied) ∷ (is_locked w f.fork start (length asked.piece), plain LockErr) ∷ write-rest)) (is_negative-pos start)

  pub write-refuses : (code : Code) → first_holding (write_checks w f.fork start (length asked.piece)) ≡ Some code → first_holding (write_refusals asked w f) ≡ Some (plain code)
  write-refuses code holds = write-as ∙ two-refuse (not f.fork.access.write) (is_locked w f.fork start (length asked.piece)) AccessDenied LockErr code write-rest holds

  pub write-left : (b : Bool) → first_holding (write_checks w f.fork start (length asked.piece)) ≡ None → would_pass f.volume (length (bytes_of f)) (length (splice (bytes_of f) start asked.piece)) ≡ b
      → first_holding (write_refusals asked w f) ≡ first_holding ((b, plain DiskFull) ∷ [])
  write-left b holds room = write-as ∙ two-pass (not f.fork.access.write) (is_locked w f.fork start (length asked.piece)) AccessDenied LockErr write-rest holds ∙ ap (λ (x : Bool). first_holding ((x, plain DiskFull) ∷ [])) room

-- a start before the first byte
pub write-before : (w : World) (f : OpenFile) (asked : WriteAsked) → is_negative asked.count ≡ false → is_negative (write_start f asked) ≡ true → first_holding (write_refusals asked w f) ≡ Some (plain ParamErr)
write-before w f asked count before =
    λ i. first_holding ((count i || before i, plain ParamErr) ∷ (not f.fork.access.write, plain AccessDenied) ∷ (is_locked w f.fork (nat_abs (write_start f asked)) (length asked.piece), plain LockErr)
    ∷ (would_pass f.volume (length (bytes_of f)) (length (written_bytes f asked)), plain DiskFull) ∷ [])

-- a negative count
pub write-uncounted : (w : World) (f : OpenFile) (asked : WriteAsked) → is_negative asked.count ≡ true → first_holding (write_refusals asked w f) ≡ Some (plain ParamErr)
write-uncounted w f asked count =
    λ i. first_holding ((count i || is_negative (write_start f asked), plain ParamErr) ∷ (not f.fork.access.write, plain AccessDenied)
    ∷ (is_locked w f.fork (nat_abs (write_start f asked)) (length asked.piece), plain LockErr) ∷ (would_pass f.volume (length (bytes_of f)) (length (written_bytes f asked)), plain DiskFull) ∷ [])

-- a write
module _ (k : KeptWorld) (number : ℕ) (call : Call) (reference : ℕ) (wide : Bool) (asked : WriteAsked) (row_is : row call ≡ writes reference asked (end_reply wide)) (goes_on : ends_session call ≡ false) where
  pub write-none : (told : Told) → IsFork k number reference None → told ≡ refusal_reply ParamErr → RunsRow k number call (with_ok (done told)) k
  write-none told none is = fork-none k number call reference _ _ _ row_is goes_on told none is

  pub write-negative : (told : Told) → is_negative asked.count ≡ true → told ≡ refusal_reply ParamErr → RunsRow k number call (with_ok (done told)) k
  write-negative told count is = any-refused k number call reference _ _ _ row_is goes_on told (λ f. write-uncounted k.world f asked count) is

  module _ (own : OwnFork) (stands : IsForkAt k number reference own) (count : is_negative asked.count ≡ false) where
    pub write-no_place : (told : Told) → is_negative (write_start stands.file asked) ≡ true → told ≡ refusal_reply ParamErr → RunsRow k number call (with_ok (done told)) k
    write-no_place told before is =
        fork-refused k number call reference _ _ _ row_is goes_on k own stands (plain ParamErr) told (write-before k.world stands.file asked count before) is refl

    pub write-refused : (start : ℕ) (code : Code) (told : Told) → write_start stands.file asked ≡ pos start → first_holding (write_checks k.world stands.file.fork start (length asked.piece)) ≡ Some code
        → told ≡ refusal_reply code → RunsRow k number call (with_ok (done told)) k
    write-refused start code told at holds is =
        fork-refused k number call reference _ _ _ row_is goes_on k own stands (plain code) told (write-refuses k.world stands.file asked start count at code holds) is refl

    pub write-runs : (new : KeptWorld) (start : ℕ) (block : List ℕ) (answer : Result PlanValue PlanFault) (result : Result (Told × Outcome) OutOfMemory) → write_start stands.file asked ≡ pos start
        → first_holding (write_checks k.world stands.file.fork start (length asked.piece)) ≡ None → Reaches → RoomIsFew → length (bytes_of stands.file) ≤ most_fork_bytes → IsOffset wide asked.offset
        → (HasRoom wide (start + length asked.piece) → block ≡ canonical_reply (end_reply wide (start + length asked.piece)))
        → PlansBytes stands.file.volume k.world.latest own.fork.node own.fork.resource (writes_some asked) (bytes_of stands.file) (splice (bytes_of stands.file) start asked.piece) answer
        → RunsPlan k own.index answer block result new → RunsRow k number call result new
    write-runs new start block answer result at holds reaches few_room few small bytes plans runs =
        let f = stands.file in
        fork-plans k number call reference _ _ _ (record { row_is = row_is; goes_on = goes_on }) own stands (writes_some asked) (bytes_of f) (splice (bytes_of f) start asked.piece) (end_reply wide (start + length asked.piece))
        (λ b room. write-left k.world f asked start count at b holds room)
        (λ i. record { world = with_bytes k.world f (writes_some asked) (splice (bytes_of f) (nat_abs (at i)) asked.piece); reply = end_reply wide (nat_abs (at i) + length asked.piece) }) refl
        answer block result new plans (λ room. bytes (end-fits reaches few_room wide f own.fork.node asked start stands.node few small at room)) runs
