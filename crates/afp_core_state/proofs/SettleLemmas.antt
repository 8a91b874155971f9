-- Calls that have a keeper settle.
use Rattle.std.proofs.Common.{◌≡◌, ◌∙◌, ap, sym, refl, subst, ℕ, zero, suc, ◌+◌, false, List, [], ◌∷◌, ◌++◌, Option, Some, None, arith}
use Rattle.std.specs.Prelude.{Result, Ok as with_ok, Err, slice_get, slice_set}
use Rattle.afp_base.specs.declared.bytes.OutOfMemory.{OutOfMemory}
use Rattle.afp_base.specs.declared.code.Code.TheVariants as code
use Rattle.afp_calls_grammar.specs.declared.grammar.call.Call.{Call}
use Rattle.afp_base.proofs.Facts.{some-none}
use Rattle.afp_serial.specs.Answer.{committed_by, verdict_of_row}
use Rattle.afp_serial.specs.Rows.{committed, refusal}
use Rattle.afp_serial.specs.World.{Refused, World, Session}
use Rattle.afp_serial.specs.declared.ask.Outcome.{Outcome}
use Rattle.afp_serial.specs.declared.ask.Outcome.TheVariants as outcome
use Rattle.afp_serial.specs.declared.ask.Told.{Told}
use Rattle.afp_serial.specs.declared.ask.Told.TheVariants.{Reply}
use Rattle.afp_core_state.specs.KeeperSettles.{KeepersSettle, SettlesRow}
use Rattle.afp_core_state.specs.KeptWorld.{KeptWorld}
use Rattle.afp_core_state.specs.OnVolumes.{BecomesKept, IsKeptAt, with_kept}
use Rattle.afp_core_state.specs.Replies.{TellsSettled}
use Rattle.afp_core_state.specs.Running.{IsOutcomeOf, done}
use Rattle.session_table.specs.Sessions.{session_of}
use Rattle.std.proofs.lemmas.Option.{same_Some}
use Rattle.afp_core_state.proofs.OnVolumeLemmas.{set-same}
use Rattle.record_keeper.specs.Settling.{Answers, settled_in}
use Rattle.record_keeper.specs.declared.keeper.KeeperFault.{KeeperFault}
use Rattle.record_keeper.specs.declared.keeper.KeeperFault.TheVariants as keeper
use Rattle.volume_keeper.specs.kept.Changing.{FailsIn, Settles}
use Rattle.volume_keeper.specs.kept.Kept.{KeptState}

-- one answer more
one_more : (n : ℕ) → suc (n + 1) ≡ suc n + 1
one_more n = omega arith

settled-ok : (answers : Answers) → settled_in (answers ++ with_ok tt ∷ []) ≡ settled_in answers + 1
settled-ok [] = refl
settled-ok (with_ok went ∷ answers) = let rest : settled_in (answers ++ with_ok tt ∷ []) ≡ settled_in answers + 1 = settled-ok answers in ap suc rest ∙ one_more (settled_in answers)
settled-ok (Err fault ∷ answers) = settled-ok answers

settled-err : (answers : Answers) (fault : KeeperFault) → settled_in (answers ++ Err fault ∷ []) ≡ settled_in answers
settled-err [] fault = refl
settled-err (with_ok went ∷ answers) fault = ap suc (settled-err answers fault)
settled-err (Err other ∷ answers) fault = settled-err answers fault

settle-set : (xs : List ℕ) (i a b : ℕ) → slice_get xs i ≡ Some a → b ≡ a + 1 → KeepersSettle (Some i) xs (slice_set xs i b)
settle-set [] i a b h more = cc
settle-set (x ∷ xs) zero a b h more = let same : x ≡ a = same_Some x a h in (omega (arith, same, more), refl)
settle-set (x ∷ xs) (suc i) a b h more = (refl, settle-set xs i a b h more)

-- a volume that stays, beside a keeper that was asked to settle
answers-change : (k : KeptWorld) (index : ℕ) (one : KeptState) (answers : Answers) → IsKeptAt k index one
    → with_kept k index (record one { settles = answers }) ≡ record k { settled = slice_set k.settled index (settled_in answers) }
answers-change k index one answers was =
    let v = set-same k.world.volumes index one.state was.state in
    let f = set-same k.faults index one.faults was.faults in
    let s = set-same k.sure index one.sure was.sure in
    λ i. record { world = record k.world { volumes = v i }; faults = f i; sure = s i; settled = slice_set k.settled index (settled_in answers) }

pub settled-one : (k new : KeptWorld) (index : ℕ) (b : BecomesKept k index (λ old one. Settles old (with_ok tt) one) new) → new ≡ record k { settled = slice_set k.settled index (settled_in b.one.settles) }
settled-one k new index b =
    let answers : Answers = b.old.settles ++ with_ok tt ∷ [] in
    b.now ∙ ap (with_kept k index) b.is ∙ answers-change k index b.old answers b.was
    ∙ ap (λ (o : KeptState). record k { settled = slice_set k.settled index (settled_in o.settles) }) (sym b.is)

pub wanting-stays : (k new : KeptWorld) (index : ℕ) → BecomesKept k index (λ old one. Settles old (Err keeper.Memory) one) new → new ≡ k
wanting-stays k new index b =
    let answers : Answers = b.old.settles ++ Err keeper.Memory ∷ [] in
    b.now ∙ ap (with_kept k index) b.is ∙ answers-change k index b.old answers b.was
    ∙ ap (λ (l : List ℕ). record k { settled = l }) (ap (slice_set k.settled index) (settled-err b.old.settles keeper.Memory) ∙ set-same k.settled index (settled_in b.old.settles) b.was.settled)

failed-stays : (k new : KeptWorld) (index : ℕ) → BecomesKept k index (λ old one. Settles old (Err keeper.Failed) one) new → new.settled ≡ k.settled
failed-stays k new index b =
    ap (λ (x : KeptWorld). x.settled) b.now ∙ ap (slice_set k.settled index) (ap settled_in b.is.1 ∙ settled-err b.old.settles keeper.Failed) ∙ set-same k.settled index (settled_in b.old.settles) b.was.settled

pub fails-alone : (k new : KeptWorld) (index : ℕ) → BecomesKept k index (λ old one. Settles old (Err keeper.Failed) one) new → BecomesKept k index (λ old one. FailsIn old one) new
fails-alone k new index b = record { old = b.old; one = b.one; was = b.was; is = b.is.0; now = b.now }

-- the keeper that a call names which is not refused
pub names-keeper : (w : World) (s : Session) (call : Call) (index : ℕ) → refusal w s call ≡ None → committed w s call ≡ Some index → committed_by w s (verdict_of_row call (refusal w s call)) ≡ Some index
names-keeper w s call index passes names = ap (λ (o : Option Refused). committed_by w s (verdict_of_row call o)) passes ∙ names

-- what is said of world and faults does not speak of settles, where a keeper is named
pub settled-apart : (want : Told) (after : World) (committed_to : Option ℕ) (o : Outcome) (told : Told) (k next new : KeptWorld) (settled : List ℕ) (index : ℕ) → committed_to ≡ Some index
    → new ≡ record next { settled = settled } → IsOutcomeOf want after committed_to o told k next → IsOutcomeOf want after committed_to o told k new
settled-apart want after committed_to o told k next new settled index names same is = subst (λ (x : KeptWorld). IsOutcomeOf want after committed_to o told k x) (sym same) (record {
  legal = is.legal;
  serial = is.serial;
  world = is.world;
  keepers = is.keepers;
  stand = is.stand;
  sure = is.sure;
  settled = λ none. absurd (some-none index (sym names ∙ none));
})

-- a call that is refused has none settle
pub refused-settles : (k : KeptWorld) (number : ℕ) (call : Call) (r : Refused) (told : Told) → ((s : Session) → session_of k.world.sessions number ≡ Some s → refusal k.world s call ≡ Some r)
    → SettlesRow k number call (with_ok (done told)) k
refused-settles k number call r told refuses = λ s at. rw (refuses s at) refl

-- a call that passes, and names the keeper at an index
module _ (k new : KeptWorld) (number : ℕ) (call : Call) (index : ℕ) (passes : (s : Session) → session_of k.world.sessions number ≡ Some s → refusal k.world s call ≡ None)
    (names : (s : Session) → session_of k.world.sessions number ≡ Some s → committed k.world s call ≡ Some index) where
  done-settles : (told : Told) → BecomesKept k index (λ old one. Settles old (with_ok tt) one) new → SettlesRow k number call (with_ok (done told)) new
  done-settles told b = λ s at.
      let more = ap (λ (o : KeptState). settled_in o.settles) b.is ∙ settled-ok b.old.settles in
      rw (passes s at)
      (subst (λ (o : Option ℕ). KeepersSettle o k.settled new.settled) (sym (names s at))
      (subst (λ (l : List ℕ). KeepersSettle (Some index) k.settled l) (sym (ap (λ (x : KeptWorld). x.settled) b.now))
      (settle-set k.settled index (settled_in b.old.settles) (settled_in b.one.settles) b.was.settled more)))

  failed-settles : (r : Told × Outcome) → r.1 ≡ outcome.Fault → BecomesKept k index (λ old one. Settles old (Err keeper.Failed) one) new → SettlesRow k number call (with_ok r) new
  failed-settles r fault b = λ s at. rw (passes s at, fault) (failed-stays k new index b)

  pub settles-row : (answer : Result (Unit {0}) KeeperFault) (result : Result (Told × Outcome) OutOfMemory) → BecomesKept k index (λ old one. Settles old answer one) new → TellsSettled answer result
      → SettlesRow k number call result new
  settles-row (with_ok settled) (with_ok r) b tells = subst (λ (x : Told × Outcome). SettlesRow k number call (with_ok x) new) (sym tells) (done-settles (Reply code.Ok [] false) b)
  settles-row (with_ok settled) (Err e) b tells = absurd tells
  settles-row (Err keeper.Failed) (with_ok r) b tells = failed-settles r (ap (λ (x : Told × Outcome). x.1) tells) b
  settles-row (Err keeper.Failed) (Err e) b tells = absurd tells
  settles-row (Err keeper.Memory) (with_ok r) b tells = absurd tells
  settles-row (Err keeper.Memory) (Err e) b tells = ap (λ (x : KeptWorld). x.settled) (wanting-stays k new index b)
