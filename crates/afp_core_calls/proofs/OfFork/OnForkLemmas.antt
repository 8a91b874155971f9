-- Rows of calls on an open fork of the session.
use Rattle.std.proofs.Common.{◌≡◌, ◌==◌, ◌∙◌, ap, sym, refl, subst, ℕ, Bool, true, false, List, [], ◌∷◌, length, Option, Some, None, add-one}
use Rattle.std.specs.Prelude.{Result, Ok as with_ok, Err, bit_and, slice_get, slice_set}
use Rattle.std.proofs.lemmas.Bool.{eqb-true, not-false}
use Rattle.std.proofs.lemmas.Option.{same_Some}
use Rattle.afp_base.specs.Choice.{first_holding}
use Rattle.afp_base.specs.DenyMode.{Fork}
use Rattle.afp_base.specs.declared.bytes.OutOfMemory.{OutOfMemory}
use Rattle.afp_base.specs.declared.code.Code.{Code}
use Rattle.afp_base.specs.declared.code.Code.TheVariants.{DiskFull, Ok, MiscErr, ParamErr}
use Rattle.afp_bitmap.specs.Bits.{IsWithin, file_mask, is_outside}
use Rattle.afp_replies.specs.Replies.{canonical_reply}
use Rattle.afp_replies.specs.declared.reply.Reply.{Reply as AfpReply}
use Rattle.afp_calls_grammar.specs.declared.grammar.call.Call.{Call}
use Rattle.afp_serial.specs.Answer.{refusal_reply, refused_reply, verdict_of_row}
use Rattle.afp_serial.specs.World.{Effect, Refusal, Refused, CallRow, plain, with_empty_reply, World, Session}
use Rattle.afp_serial.specs.OnFork.{OpenFile, committed_with, done_with, keeper_if, on_fork, open_file, own_keeper, row_on_fork, with_bytes}
use Rattle.afp_serial.specs.OnVolume.{keeper_of, with_state, with_volume_state}
use Rattle.afp_serial.specs.Rows.{committed, effect, ends_session, refusal, row}
use Rattle.afp_serial.specs.declared.ask.Outcome.{Outcome}
use Rattle.afp_serial.specs.declared.ask.Outcome.TheVariants as outcome
use Rattle.afp_serial.specs.declared.ask.Told.{Told}
use Rattle.afp_serial.specs.declared.ask.Told.TheVariants.{Reply}
use Rattle.volume_spec.specs.ForkEffect.{fork_effect, fork_of, would_pass}
use Rattle.volume_spec.specs.SoundVolume.{has_file}
use Rattle.volume_spec.specs.VolumeState.{Row as File, VolumeState}
use Rattle.volume_spec.specs.Walk.{row_at}
use Rattle.afp_core_state.specs.OnForks.{IsFork, IsForkAt}
use Rattle.afp_core_state.specs.KeeperSettles.{SettlesRow}
use Rattle.afp_core_state.specs.OnVolumes.{BecomesKept}
use Rattle.afp_core_state.specs.Planned.{RunsPlan}
use Rattle.afp_core_state.specs.Replies.{TellsSettled}
use Rattle.afp_core_state.specs.KeptWorld.{KeptWorld}
use Rattle.session_table.specs.Sessions.{session_of}
use Rattle.afp_core_state.specs.Running.{done, RunsRow, RunsVerdict}
use Rattle.afp_core_state.specs.declared.on_fork.OwnFork.{OwnFork}
use Rattle.afp_core_state.proofs.KeeperLemmas.{outcome-same}
use Rattle.afp_core_state.proofs.OnVolumeLemmas.{keeper-fails, set-same, told-effect}
use Rattle.afp_core_state.proofs.PlannedRows.{IsRowPlan, planned-row}
use Rattle.afp_core_state.proofs.RowLemmas.{has_effect}
use Rattle.afp_core_state.proofs.SettleLemmas.{fails-alone, names-keeper, refused-settles, settled-apart, settled-one, settles-row, wanting-stays}
use Rattle.afp_core_state.proofs.SessionLemmas.{session_of-number}
use Rattle.volume_keeper.specs.kept.Changing.{FailsIn, Settles}
use Rattle.volume_keeper.specs.kept.ForkChanging.{GivesBytes, PlansBytes, given}
use Rattle.volume_edits.specs.edits.Planned.{PlanValue}
use Rattle.volume_tree.specs.declared.resolve.PlanFault.{PlanFault}
use Rattle.volume_tree.specs.declared.resolve.PlanFault.TheVariants as fault
use Rattle.record_keeper.specs.Settling.{settled_in}
use Rattle.record_keeper.specs.declared.keeper.KeeperFault.{KeeperFault}
use Rattle.record_keeper.specs.declared.keeper.KeeperFault.TheVariants as keeper
use Rattle.afp_base.proofs.ListFacts.{find-passes}

-- a row that is found by an id has it
pub row_at-id : (rows : List File) (id : ℕ) (file : File) → row_at rows id ≡ Some file → file.id ≡ id
unfolding row_at
row_at-id rows id file there = eqb-true file.id id (find-passes (λ (r : File). r.id == id) rows file there)

-- a call that is refused, with all that it is told then
pub is_refused-with : (k new : KeptWorld) (s : Session) (call : Call) (r : Refused) (told : Told) → refusal k.world s call ≡ Some r → told ≡ refused_reply r → new ≡ k
    → RunsVerdict k s (verdict_of_row call (refusal k.world s call)) (done told) new
is_refused-with k new s call r told refused tells same = rw refused (outcome-same k new _ _ told tells same)

-- the call's row is one on the open fork of a reference, and its session goes on
pub record RowOnFork (call : Call) (reference : ℕ) (refuses : World → OpenFile → List Refusal) (does : World → OpenFile → Effect) (commits : World → OpenFile → Option ℕ) : Type 0 where
  pub row_is : row call ≡ row_on_fork reference refuses does commits
  pub goes_on : ends_session call ≡ false

-- the keeper of an open fork's volume, and its volume's place
pub own-keeper : (k : KeptWorld) (number reference : ℕ) (own : OwnFork) (here : IsForkAt k number reference own) → own_keeper here.file ≡ Some own.index
own-keeper k number reference own here = ap (λ (f : Fork). keeper_of f.volume) here.fork_is ∙ ap keeper_of (here.id ∙ add-one own.index)

pub own-state : (k : KeptWorld) (number reference : ℕ) (own : OwnFork) (here : IsForkAt k number reference own) (v : VolumeState)
    → with_state k.world.volumes here.file.fork.fork.volume v ≡ slice_set k.world.volumes own.index v
own-state k number reference own here v =
    ap (λ (f : Fork). with_state k.world.volumes f.volume v) here.fork_is ∙ ap (λ (n : ℕ). with_state k.world.volumes n v) (here.id ∙ add-one own.index)

-- its node is a file of that volume
pub own-file : (k : KeptWorld) (number reference : ℕ) (own : OwnFork) (here : IsForkAt k number reference own) (v : VolumeState) → slice_get k.world.volumes own.index ≡ Some v → has_file v.rows own.fork.node ≡ true
own-file k number reference own here v there = subst (λ (x : VolumeState). has_file x.rows own.fork.node ≡ true) (same_Some here.file.volume v (sym here.volume ∙ there)) here.is_file

-- bits that are all a file's
pub within-mask : (bits : ℕ) (outside : Bool) → outside ≡ false → outside ≡ is_outside file_mask bits → IsWithin file_mask bits
within-mask bits outside none is = eqb-true (bit_and bits file_mask) bits (not-false (bit_and bits file_mask == bits) (sym is ∙ none))

-- the world in which the fork was given other bytes, where some are given
given-world : (k : KeptWorld) (number reference : ℕ) (own : OwnFork) (here : IsForkAt k number reference own) (writes : Bool) (bytes : List ℕ)
    → record k.world { volumes = slice_set k.world.volumes own.index (given k.world.latest own.fork.node own.fork.resource writes bytes here.file.volume) } ≡ with_bytes k.world here.file writes bytes
given-world k number reference own here false bytes = ap (λ (l : List VolumeState). record k.world { volumes = l }) (set-same k.world.volumes own.index here.file.volume here.volume)
given-world k number reference own here true bytes =
    let v = here.file.volume in
    let effect_is : fork_effect k.world.latest own.fork.node own.fork.resource bytes true v ≡ fork_effect k.world.latest here.file.file.id here.file.fork.fork.resource bytes true v =
    ap (λ (f : Fork). fork_effect k.world.latest own.fork.node f.resource bytes true v) (sym here.fork_is)
    ∙ ap (λ (n : ℕ). fork_effect k.world.latest n here.file.fork.fork.resource bytes true v) (sym (row_at-id v.rows own.fork.node here.file.file here.node)) in
    ap (λ (l : List VolumeState). record k.world { volumes = l }) (sym (own-state k number reference own here (fork_effect k.world.latest own.fork.node own.fork.resource bytes true v)))
    ∙ ap (λ (x : VolumeState). with_volume_state k.world here.file.fork.fork.volume x) effect_is

-- what was planned of the volume at the index, for the file of the fork
pub own-plans : (k : KeptWorld) (number reference : ℕ) (own : OwnFork) (here : IsForkAt k number reference own) (v : VolumeState) (now : ℕ) (writes : List ℕ → Bool) (after : List ℕ → List ℕ) (bytes : List ℕ) (answer : Result PlanValue PlanFault)
    → slice_get k.world.volumes own.index ≡ Some v → now ≡ k.world.latest → fork_of own.fork.resource here.file.file ≡ bytes
    → ((file : File) → row_at v.rows own.fork.node ≡ Some file → PlansBytes v now own.fork.node own.fork.resource (writes (fork_of own.fork.resource file)) (fork_of own.fork.resource file) (after (fork_of own.fork.resource file)) answer)
    → PlansBytes here.file.volume k.world.latest own.fork.node own.fork.resource (writes bytes) bytes (after bytes) answer
own-plans k number reference own here v now writes after bytes answer there at_now bytes_are plans =
    let same : here.file.volume ≡ v = same_Some here.file.volume v (sym here.volume ∙ there) in
    subst (λ (l : List ℕ). PlansBytes here.file.volume k.world.latest own.fork.node own.fork.resource (writes l) l (after l) answer) bytes_are
    (subst (λ (n : ℕ). PlansBytes here.file.volume n own.fork.node own.fork.resource (writes (fork_of own.fork.resource here.file.file)) (fork_of own.fork.resource here.file.file) (after (fork_of own.fork.resource here.file.file)) answer) at_now
    (subst (λ (x : VolumeState). PlansBytes x now own.fork.node own.fork.resource (writes (fork_of own.fork.resource here.file.file)) (fork_of own.fork.resource here.file.file) (after (fork_of own.fork.resource here.file.file)) answer) (sym same)
    (plans here.file.file (subst (λ (x : VolumeState). row_at x.rows own.fork.node ≡ Some here.file.file) same here.node))))

module _ (k : KeptWorld) (number : ℕ) (call : Call) (reference : ℕ) (refuses : World → OpenFile → List Refusal) (does : World → OpenFile → Effect) (commits : World → OpenFile → Option ℕ)
    (is : RowOnFork call reference refuses does commits) where
  -- the reference is no open fork of the session
  pub fork-unopened : (told : Told) → IsFork k number reference None → told ≡ refusal_reply ParamErr → RunsRow k number call (with_ok (done told)) k
  fork-unopened told none tells = λ s at.
      let no : open_file k.world s reference ≡ None = none s (session_of-number k.world.sessions number s at) in
      is_refused-with k k s call (plain ParamErr) told
      (ap (λ (r : CallRow). first_holding (r.refusals k.world s)) is.row_is ∙ ap (λ (o : Option OpenFile). first_holding (on_fork o (refuses k.world))) no) tells refl

  pub fork-unasked : (told : Told) → IsFork k number reference None → SettlesRow k number call (with_ok (done told)) k
  fork-unasked told none = refused-settles k number call (plain ParamErr) told (λ s at.
      ap (λ (r : CallRow). first_holding (r.refusals k.world s)) is.row_is ∙ ap (λ (o : Option OpenFile). first_holding (on_fork o (refuses k.world))) (none s (session_of-number k.world.sessions number s at)))

  module _ (own : OwnFork) (here : IsForkAt k number reference own) where
    found-at : (s : Session) → session_of k.world.sessions number ≡ Some s → open_file k.world s reference ≡ Some here.file
    found-at s at = here.found s (session_of-number k.world.sessions number s at)

    -- its row is that of its open fork
    pub fork-refuses : (s : Session) → session_of k.world.sessions number ≡ Some s → refusal k.world s call ≡ first_holding (refuses k.world here.file)
    fork-refuses s at =
        ap (λ (r : CallRow). first_holding (r.refusals k.world s)) is.row_is ∙ ap (λ (o : Option OpenFile). first_holding (on_fork o (refuses k.world))) (found-at s at)

    pub fork-does : (s : Session) → session_of k.world.sessions number ≡ Some s → effect k.world s call ≡ does k.world here.file
    fork-does s at = ap (λ (r : CallRow). r.effect k.world s) is.row_is ∙ ap (λ (o : Option OpenFile). done_with o k.world (does k.world)) (found-at s at)

    pub fork-commits : (s : Session) → session_of k.world.sessions number ≡ Some s → committed k.world s call ≡ commits k.world here.file
    fork-commits s at = ap (λ (r : CallRow). r.committed k.world s) is.row_is ∙ ap (λ (o : Option OpenFile). committed_with o (commits k.world)) (found-at s at)

    -- it is refused
    pub fork-refused-with : (r : Refused) (told : Told) → first_holding (refuses k.world here.file) ≡ Some r → told ≡ refused_reply r → RunsRow k number call (with_ok (done told)) k
    fork-refused-with r told refused tells = λ s at. is_refused-with k k s call r told (fork-refuses s at ∙ refused) tells refl

    pub fork-refused : (code : Code) (told : Told) → first_holding (refuses k.world here.file) ≡ Some (plain code) → told ≡ refusal_reply code → RunsRow k number call (with_ok (done told)) k
    fork-refused code told refused tells = fork-refused-with (plain code) told refused tells

    -- it has its effect
    pub fork-done : (new : KeptWorld) (of : Effect) (block : List ℕ) (told : Told) → first_holding (refuses k.world here.file) ≡ None → does k.world here.file ≡ of → new ≡ record k { world = of.world }
        → block ≡ canonical_reply of.reply → told ≡ Reply Ok block false → RunsRow k number call (with_ok (done told)) new
    fork-done new of block told passes effect_is becomes bytes tells = λ s at.
        let does_this : effect k.world s call ≡ of = fork-does s at ∙ effect_is in
        has_effect k new s call told of.world (fork-refuses s at ∙ passes) (tells ∙ told-effect call (effect k.world s call) of block does_this is.goes_on bytes) becomes
        (ap (λ (e : Effect). e.world) (sym does_this))

    -- the keeper of its volume failed
    pub fork-fails : (new : KeptWorld) (told : Told) → first_holding (refuses k.world here.file) ≡ None → commits k.world here.file ≡ own_keeper here.file
        → BecomesKept k own.index (λ old one. FailsIn old one) new → told ≡ refusal_reply MiscErr → RunsRow k number call (with_ok (told, outcome.Fault)) new
    fork-fails new told passes names b tells = λ s at.
        rw (fork-refuses s at ∙ passes)
        (keeper-fails k new _ _ _ told own.index (fork-commits s at ∙ names ∙ own-keeper k number reference own here) tells refl b)

    -- a keeper settles
    pub fork-settles : (new : KeptWorld) (answer : Result (Unit {0}) KeeperFault) (result : Result (Told × Outcome) OutOfMemory) → first_holding (refuses k.world here.file) ≡ None
        → does k.world here.file ≡ with_empty_reply k.world → commits k.world here.file ≡ own_keeper here.file → BecomesKept k own.index (λ old one. Settles old answer one) new → TellsSettled answer result
        → RunsRow k number call result new
    fork-settles new (with_ok settled) (with_ok r) passes effect_is names b tells =
        subst (λ (x : Told × Outcome). RunsRow k number call (with_ok x) new) (sym tells)
        (λ s at. settled-apart _ _ _ _ _ k k new (slice_set k.settled own.index (settled_in b.one.settles)) own.index
        (names-keeper k.world s call own.index (fork-refuses s at ∙ passes) (fork-commits s at ∙ names ∙ own-keeper k number reference own here)) (settled-one k new own.index b)
        (fork-done k (with_empty_reply k.world) [] (Reply Ok [] false) passes effect_is refl refl refl s at))
    fork-settles new (with_ok settled) (Err e) passes effect_is names b tells = absurd tells
    fork-settles new (Err keeper.Failed) (with_ok r) passes effect_is names b tells =
        subst (λ (x : Told × Outcome). RunsRow k number call (with_ok x) new) (sym tells)
        (fork-fails new (refusal_reply MiscErr) passes names (fails-alone k new own.index b) refl)
    fork-settles new (Err keeper.Failed) (Err e) passes effect_is names b tells = absurd tells
    fork-settles new (Err keeper.Memory) (with_ok r) passes effect_is names b tells = absurd tells
    fork-settles new (Err keeper.Memory) (Err e) passes effect_is names b tells = wanting-stays k new own.index b

    pub fork-asks : (new : KeptWorld) (answer : Result (Unit {0}) KeeperFault) (result : Result (Told × Outcome) OutOfMemory) → first_holding (refuses k.world here.file) ≡ None
        → commits k.world here.file ≡ own_keeper here.file → BecomesKept k own.index (λ old one. Settles old answer one) new → TellsSettled answer result → SettlesRow k number call result new
    fork-asks new answer result passes names b tells =
        settles-row k new number call own.index (λ s at. fork-refuses s at ∙ passes) (λ s at. fork-commits s at ∙ names ∙ own-keeper k number reference own here) answer result b tells

    -- the fork is given other bytes, of some that it has; `reply` is what is told where that is done
    module _ (writes : Bool) (before after : List ℕ) (reply : AfpReply)
        (left : (b : Bool) → would_pass here.file.volume (length before) (length after) ≡ b → first_holding (refuses k.world here.file) ≡ first_holding ((b, plain DiskFull) ∷ []))
        (effect_is : does k.world here.file ≡ record { world = with_bytes k.world here.file writes after; reply = reply })
        (names : commits k.world here.file ≡ keeper_if writes here.file) where
      fork-plan : (plan : PlanValue) (block : List ℕ) → GivesBytes here.file.volume k.world.latest own.fork.node own.fork.resource writes before after plan → block ≡ canonical_reply reply
          → IsRowPlan k number call own.index here.file.volume plan block
      fork-plan plan block gives bytes = record {
        of = record { world = with_bytes k.world here.file writes after; reply = reply };
        does = λ s at. fork-does s at ∙ effect_is;
        commits = λ some s at. fork-commits s at ∙ names ∙ ap (λ w. keeper_if w here.file) (gives.some some) ∙ own-keeper k number reference own here;
        world = ap (λ (x : VolumeState). record k.world { volumes = slice_set k.world.volumes own.index x }) gives.effect ∙ given-world k number reference own here writes after;
        bytes = bytes;
      }

      pub fork-plans : (answer : Result PlanValue PlanFault) (block : List ℕ) (result : Result (Told × Outcome) OutOfMemory) (new : KeptWorld)
          → PlansBytes here.file.volume k.world.latest own.fork.node own.fork.resource writes before after answer → (would_pass here.file.volume (length before) (length after) ≡ false → block ≡ canonical_reply reply)
          → RunsPlan k own.index answer block result new → RunsRow k number call result new
      fork-plans (with_ok plan) block result new plans bytes runs =
          planned-row k number call is.goes_on own.index here.file.volume here.volume None (λ s at. fork-refuses s at ∙ left false plans.room) (with_ok plan) block result new refl
          (λ passes. fork-plan plan block plans (bytes plans.room)) runs
      fork-plans (Err (fault.Code code)) block result new plans bytes runs =
          planned-row k number call is.goes_on own.index here.file.volume here.volume (Some code) (λ s at. fork-refuses s at ∙ left true plans.0 ∙ ap (λ (c : Code). Some (plain c)) (sym plans.1)) (Err (fault.Code code)) block result new refl tt runs
      fork-plans (Err fault.Memory) block (with_ok r) new plans bytes runs = absurd runs
      fork-plans (Err fault.Memory) block (Err e) new plans bytes runs = runs
