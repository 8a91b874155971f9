-- The row of FPFlush.
use Rattle.std.proofs.Common.{◌≡◌, ◌∙◌, ap, sym, refl, subst, ℕ, false, [], Some, None}
use Rattle.std.specs.Prelude.{Result, Ok as with_ok, Err, slice_get, slice_set}
use Rattle.afp_base.specs.declared.bytes.OutOfMemory.{OutOfMemory}
use Rattle.afp_base.specs.declared.code.Code.TheVariants.{Ok, MiscErr, ParamErr}
use Rattle.afp_replies.specs.declared.reply.Reply.TheVariants.{Empty}
use Rattle.afp_calls_grammar.specs.declared.grammar.call.Call.TheVariants.{Flush}
use Rattle.afp_base.specs.declared.ids.VolumeId.{VolumeId}
use Rattle.afp_serial.specs.Answer.{refusal_reply}
use Rattle.afp_serial.specs.World.{Effect, plain, Session}
use Rattle.afp_serial.specs.Rows.{committed, effect, refusal, row}
use Rattle.afp_serial.specs.declared.ask.Outcome.{Outcome}
use Rattle.afp_serial.specs.declared.ask.Outcome.TheVariants as outcome
use Rattle.afp_serial.specs.declared.ask.Told.{Told}
use Rattle.afp_serial.specs.declared.ask.Told.TheVariants.{Reply}
use Rattle.volume_spec.specs.VolumeState.{VolumeState}
use Rattle.afp_core_state.specs.KeeperSettles.{SettlesRow}
use Rattle.afp_core_state.specs.OnVolumes.{BecomesKept, IsOpen, IsOpenAt}
use Rattle.afp_core_state.specs.Replies.{TellsSettled}
use Rattle.afp_core_state.specs.KeptWorld.{KeptWorld}
use Rattle.session_table.specs.Sessions.{session_of}
use Rattle.afp_core_state.specs.Running.{done, RunsRow}
use Rattle.afp_core_state.proofs.RowLemmas.{has_effect, is_refused}
use Rattle.afp_core_state.proofs.SettleLemmas.{fails-alone, names-keeper, refused-settles, settled-apart, settled-one, settles-row, wanting-stays}
use Rattle.volume_keeper.specs.kept.Changing.{Settles}
use Rattle.record_keeper.specs.Settling.{settled_in}
use Rattle.record_keeper.specs.declared.keeper.KeeperFault.{KeeperFault}
use Rattle.record_keeper.specs.declared.keeper.KeeperFault.TheVariants as keeper
use Rattle.afp_core_state.proofs.OnVolumeLemmas.{found-at, keeper-at, keeper-fails, refused-on, told-effect}

module _ (k : KeptWorld) (number : ℕ) (volume : VolumeId) where
  pub flush-unopened : (told : Told) → IsOpen k number volume.0 None → told ≡ refusal_reply ParamErr → RunsRow k number (Flush volume) (with_ok (done told)) k
  unfolding row
  flush-unopened told stands is = λ s at. is_refused k k s (Flush volume) ParamErr told (stands s at (λ v. None)) is refl

  flush-passes : (index : ℕ) (v : VolumeState) → IsOpenAt k number volume.0 index → slice_get k.world.volumes index ≡ Some v → (s : Session) → session_of k.world.sessions number ≡ Some s
      → refusal k.world s (Flush volume) ≡ None
  unfolding row
  flush-passes index v stands there s at = refused-on k.world s volume.0 v (λ x. None) (stands.opened s at) (found-at k number volume.0 index v stands there)

  flush-commits : (index : ℕ) → IsOpenAt k number volume.0 index → (s : Session) → committed k.world s (Flush volume) ≡ Some index
  unfolding row
  flush-commits index stands s = keeper-at volume.0 index stands.id

  flush-does : (s : Session) → effect k.world s (Flush volume) ≡ record { world = k.world; reply = Empty }
  unfolding row
  flush-does s = refl

  flush-done : (new : KeptWorld) (index : ℕ) (told : Told) → IsOpenAt k number volume.0 index → BecomesKept k index (λ old one. Settles old (with_ok tt) one) new
      → told ≡ Reply Ok [] false → RunsRow k number (Flush volume) (with_ok (done told)) new
  flush-done new index told stands b is = λ s at.
      settled-apart _ _ _ _ _ k k new (slice_set k.settled index (settled_in b.one.settles)) index
      (names-keeper k.world s (Flush volume) index (flush-passes index b.old.state stands b.was.state s at) (flush-commits index stands s)) (settled-one k new index b)
      (has_effect k k s (Flush volume) told k.world (flush-passes index b.old.state stands b.was.state s at)
      (is ∙ told-effect (Flush volume) (effect k.world s (Flush volume)) (record { world = k.world; reply = Empty }) [] (flush-does s) refl refl)
      refl (ap (λ (e : Effect). e.world) (sym (flush-does s))))

  flush-fails : (new : KeptWorld) (index : ℕ) (told : Told) → IsOpenAt k number volume.0 index → BecomesKept k index (λ old one. Settles old (Err keeper.Failed) one) new
      → told ≡ refusal_reply MiscErr → RunsRow k number (Flush volume) (with_ok (told, outcome.Fault)) new
  flush-fails new index told stands b is = λ s at.
      rw (flush-passes index b.old.state stands b.was.state s at)
      (keeper-fails k new _ _ _ told index (flush-commits index stands s) is refl (fails-alone k new index b))

  pub flush-runs : (new : KeptWorld) (index : ℕ) (answer : Result (Unit {0}) KeeperFault) (result : Result (Told × Outcome) OutOfMemory) → IsOpenAt k number volume.0 index
      → BecomesKept k index (λ old one. Settles old answer one) new → TellsSettled answer result → RunsRow k number (Flush volume) result new
  flush-runs new index (with_ok settled) (with_ok r) stands b told =
      subst (λ (x : Told × Outcome). RunsRow k number (Flush volume) (with_ok x) new) (sym told) (flush-done new index (Reply Ok [] false) stands b refl)
  flush-runs new index (with_ok settled) (Err e) stands b told = absurd told
  flush-runs new index (Err keeper.Failed) (with_ok r) stands b told =
      subst (λ (x : Told × Outcome). RunsRow k number (Flush volume) (with_ok x) new) (sym told) (flush-fails new index (refusal_reply MiscErr) stands b refl)
  flush-runs new index (Err keeper.Failed) (Err e) stands b told = absurd told
  flush-runs new index (Err keeper.Memory) (with_ok r) stands b told = absurd told
  flush-runs new index (Err keeper.Memory) (Err e) stands b told = wanting-stays k new index b

  pub flush-unsettled : (told : Told) → IsOpen k number volume.0 None → SettlesRow k number (Flush volume) (with_ok (done told)) k
  unfolding row
  flush-unsettled told stands = refused-settles k number (Flush volume) (plain ParamErr) told (λ s at. stands s at (λ v. None))

  pub flush-settles : (new : KeptWorld) (index : ℕ) (answer : Result (Unit {0}) KeeperFault) (result : Result (Told × Outcome) OutOfMemory) → IsOpenAt k number volume.0 index
      → BecomesKept k index (λ old one. Settles old answer one) new → TellsSettled answer result → SettlesRow k number (Flush volume) result new
  flush-settles new index answer result stands b told =
      settles-row k new number (Flush volume) index (λ s at. flush-passes index b.old.state stands b.was.state s at) (λ s at. flush-commits index stands s) answer result b told
