-- What is owed where a fork gets other bytes.
use Rattle.std.proofs.Common.{◌==◌, ◌≡◌, ◌∙◌, ap, sym, refl, subst, ℕ, ◌+◌, ◌<◌, ◌≤◌, arith, Bool, true, false, not, List, [], ◌∷◌, ◌++◌, ◌-◌, length, max, min, replicate, take, append-nil, pos, Some, inl, inr}
use Rattle.std.specs.Prelude.{IfOk, Result, Ok, Err, nat_lt}
use Rattle.std.proofs.Math.Seq.{take-length}
use Rattle.std.proofs.lemmas.Bool.{cases_lt, eq-eqb, le-ltb, lt-ltb}
use Rattle.afp_base.proofs.DefinitionLaws.{length-resized}
use Rattle.afp_base.specs.ForkBytes.{Reaches, resized, splice}
use Rattle.fork_bytes.specs.Plan.{ForkWriteState}
use Rattle.volume_spec.proofs.Formed.{limit-parts}
use Rattle.volume_spec.specs.Edit.{after_call}
use Rattle.volume_spec.specs.EditLaws.{ForkEffectsAreEdits}
use Rattle.volume_spec.specs.ForkEffect.{fork_effect, fork_of, would_pass}
use Rattle.afp_base.specs.Limits.{most_fork_bytes}
use Rattle.volume_spec.specs.SoundVolume.{IsSoundVolume, fork_bytes, has_file}
use Rattle.volume_spec.specs.TypedVolume.{are_bytes, is_date}
use Rattle.volume_spec.specs.VolumeState.{Row, VolumeState}
use Rattle.volume_spec.specs.Walk.{row_at}
use Rattle.volume_spec.specs.ForkLaws.{ForksAreFew, RoomIsFew}
use Rattle.volume_keeper.proofs.OfKept.Files.{fork_is, found_in}
use Rattle.volume_keeper.specs.kept.Commits.{HasEdits, MayCommit}
use Rattle.volume_keeper.specs.kept.ForkChanging.{GivesBytes, PlansBytes, given}
use Rattle.volume_keeper.specs.kept.lemma.PlannedWrites.{IsPlannedWrite, IsWriteOf}
use Rattle.volume_edits.specs.edits.Planned.{EditValue, PlanValue, edits_of}
use Rattle.volume_tree.specs.declared.resolve.PlanFault.{PlanFault}
use Rattle.volume_tree.specs.declared.resolve.PlanFault.TheVariants as fault

-- as many bytes pass no total
same_fits : (v : VolumeState) → IsSoundVolume v → (n : ℕ) → would_pass v n n ≡ false
unfolding would_pass
same_fits v sound n = le-ltb (most_fork_bytes + n) (fork_bytes v.rows + n) (let few : fork_bytes v.rows ≤ most_fork_bytes = (limit-parts v sound.limits).bytes in omega (arith, few))

-- nothing is given: a plan of no edits
pub nothing_given : (v : VolumeState) → IsSoundVolume v → (now id : ℕ) (resource writes : Bool) (before after : List ℕ) → writes ≡ false → after ≡ before → (plan : PlanValue) → plan.edits ≡ [] → GivesBytes v now id resource writes before after plan
nothing_given v sound now id resource writes before after stays same plan none = record {
  room = ap (λ (l : List ℕ). would_pass v (length before) (length l)) same ∙ same_fits v sound (length before);
  effect = ap (λ (l : List EditValue). after_call v plan.moment (edits_of l)) none ∙ ap (λ b. given now id resource b after v) (sym stays);
  some = λ has. let edits : HasEdits (record { moment = plan.moment; edits = [] }) = subst (λ (l : List EditValue). HasEdits (record { moment = plan.moment; edits = l })) none has in absurd (cc edits);
}

pub no_edits_may : (v : VolumeState) (plan : PlanValue) → plan.edits ≡ [] → MayCommit v plan
no_edits_may v plan none = subst (λ (l : List EditValue). MayCommit v (record { moment = plan.moment; edits = l })) (sym none) (record { may = tt; before = tt; typed = refl })

pub no_piece : (old piece : List ℕ) (start : ℕ) → length piece ≡ 0 → splice old start piece ≡ old
no_piece old [] start e = refl
no_piece old (b ∷ bs) start e = absurd (omega (arith, e))

pub no_bytes : (n : ℕ) → n ≡ 0 → nat_lt 0 n ≡ false
no_bytes n e = ap (nat_lt 0) e

-- what is written is a write of the file's fork as it is
pub write_of : (v : VolumeState) → IsSoundVolume v → (id : ℕ) (resource : Bool) → has_file v.rows id ≡ true → (bytes wanted : List ℕ) → ((file : Row) → row_at v.rows id ≡ Some file → bytes ≡ fork_of resource file)
    → would_pass v (length bytes) (length wanted) ≡ false → are_bytes wanted ≡ true → (write : ForkWriteState) → write.before ≡ bytes → write.after ≡ wanted → IsWriteOf v id resource write
write_of v sound id resource e bytes wanted told room small write before after =
    let it = found_in v sound id e in
    let own : bytes ≡ fork_of resource it.file = told it.file it.found in
    record {
      may = record {
        file = it.file;
        found = it.found;
        is_file = it.is_file;
        room = (λ i. would_pass v (length (sym own i)) (length (after i))) ∙ room;
      };
      before = fork_is v.rows id resource it.file it.found it.is_file ∙ ap (λ (l : List ℕ). Some l) (sym (before ∙ own));
      typed = ap are_bytes after ∙ small;
    }

-- its plan may be committed, and gives the bytes
pub write_may : (v : VolumeState) (now id : ℕ) (resource : Bool) → is_date (pos now) ≡ true → (write : ForkWriteState) → IsWriteOf v id resource write → (result : Result PlanValue PlanFault) → IsPlannedWrite now id resource write result → IfOk result (MayCommit v)
write_may v now id resource date write may (Ok plan) is = subst (MayCommit v) (sym is) (record { may = (may.may, tt); before = (may.before, tt); typed = rw (date, may.typed) refl })
write_may v now id resource date write may (Err e) is = tt

pub write_gives : ForkEffectsAreEdits → (v : VolumeState) (now id : ℕ) (resource writes : Bool) (before after : List ℕ) → writes ≡ true → would_pass v (length before) (length after) ≡ false
    → (write : ForkWriteState) → write.after ≡ after → (result : Result PlanValue PlanFault) → IsPlannedWrite now id resource write result → PlansBytes v now id resource writes before after result
write_gives law v now id resource writes before after some room write after_is (Ok plan) is = record {
  room = room;
  effect = ap (λ (p : PlanValue). after_call v p.moment (edits_of p.edits)) is ∙ law v now id resource write.after ∙ ap (λ (l : List ℕ). fork_effect now id resource l true v) after_is ∙ ap (λ b. given now id resource b after v) (sym some);
  some = λ has. some;
}
write_gives law v now id resource writes before after some room write after_is (Err (fault.Code code)) is = absurd is
write_gives law v now id resource writes before after some room write after_is (Err fault.Memory) is = tt

-- the place behind a piece, where numbers of 64 bits end below it, passes as the place itself does
pub same_pass : Reaches → (v : VolumeState) (before piece : List ℕ) (start : ℕ) → (0 < length piece) → length before ≤ most_fork_bytes
    → would_pass v (length before) (max (length before) (min (start + length piece) 18446744073709551615)) ≡ would_pass v (length before) (length (splice before start piece))
unfolding would_pass
same_pass law v before piece start some few = both ∙ ap (λ n. nat_lt (most_fork_bytes + length before) (fork_bytes v.rows + n)) (sym (law before piece start some))
  where
    both : nat_lt (most_fork_bytes + length before) (fork_bytes v.rows + max (length before) (min (start + length piece) 18446744073709551615)) ≡ nat_lt (most_fork_bytes + length before) (fork_bytes v.rows + max (length before) (start + length piece))
    both = elim (cases_lt 18446744073709551615 (start + length piece)) [
      | inl far ↦ lt-ltb (most_fork_bytes + length before) (fork_bytes v.rows + max (length before) (min (start + length piece) 18446744073709551615)) (omega (arith, few, far))
          ∙ sym (lt-ltb (most_fork_bytes + length before) (fork_bytes v.rows + max (length before) (start + length piece)) (omega (arith, few, far)))
      | inr near ↦ let same : min (start + length piece) 18446744073709551615 ≡ start + length piece = omega (arith, near) in
          ap (λ n. nat_lt (most_fork_bytes + length before) (fork_bytes v.rows + max (length before) n)) same
    ]

-- whether a piece passes, as it was told
pub piece_passes : Reaches → (v : VolumeState) (bytes piece : List ℕ) (start len again end top : ℕ) (told : Bool) → (0 < length piece) → length bytes ≤ most_fork_bytes → len ≡ length bytes → again ≡ length bytes
    → end ≡ min (start + length piece) 18446744073709551615 → top ≡ max again end → told ≡ would_pass v len top → would_pass v (length bytes) (length (splice bytes start piece)) ≡ told
piece_passes law v bytes piece start len again end top told some few len_is again_is end_is top_is told_is =
    sym (told_is ∙ (λ i. would_pass v (len_is i) ((top_is ∙ (λ k. max (again_is k) (end_is k))) i)) ∙ same_pass law v bytes piece start some few)

pub piece_within : Reaches → (bytes piece : List ℕ) (start : ℕ) → (0 < length piece) → length (splice bytes start piece) ≤ most_fork_bytes → start + length piece ≤ most_fork_bytes
piece_within law bytes piece start some h = let is = law bytes piece start some in omega (arith, is, h)

-- the file whose fork is changed
pub file_few : ForksAreFew → (v : VolumeState) → IsSoundVolume v → (id : ℕ) (resource : Bool) (bytes : List ℕ) → has_file v.rows id ≡ true → ((file : Row) → row_at v.rows id ≡ Some file → bytes ≡ fork_of resource file) → length bytes ≤ most_fork_bytes
file_few law v sound id resource bytes e told =
    let it = found_in v sound id e in
    subst (λ (l : List ℕ). length l ≤ most_fork_bytes) (sym (told it.file it.found)) (law v id resource it.file it.found sound)

pub new_few : RoomIsFew → (v : VolumeState) → IsSoundVolume v → (id : ℕ) (resource : Bool) (bytes : List ℕ) (new : ℕ) → has_file v.rows id ≡ true → ((file : Row) → row_at v.rows id ≡ Some file → bytes ≡ fork_of resource file) → would_pass v (length bytes) new ≡ false → new ≤ most_fork_bytes
new_few law v sound id resource bytes new e told room =
    let it = found_in v sound id e in
    law v id resource it.file new it.found (ap (λ (l : List ℕ). would_pass v (length l) new) (sym (told it.file it.found)) ∙ room)

pub some_bytes : (piece : List ℕ) → (length piece == 0) ≡ false → 0 < length piece
some_bytes [] e = absurd (cc)
some_bytes (b ∷ bs) e = omega arith

-- another length
pub length_passes : (v : VolumeState) (bytes : List ℕ) (len : ℕ) → would_pass v (length bytes) (length (resized bytes len)) ≡ would_pass v (length bytes) len
length_passes v bytes len = ap (would_pass v (length bytes)) (length-resized bytes len)

pub other_length : (a b : ℕ) → a ≡ b → not (a == b) ≡ false
other_length a b e = ap not (eq-eqb a b e)

pub same_bytes : (bytes : List ℕ) (len : ℕ) → len ≡ length bytes → resized bytes len ≡ bytes
same_bytes bytes len e = (λ i. take (e i) bytes ++ replicate {A = ℕ} (e i - length bytes) 0) ∙ (λ i. take-length bytes i ++ none (length bytes) i) ∙ append-nil bytes
  where
    none : (n : ℕ) → replicate {A = ℕ} (n - n) 0 ≡ []
    none n = let gone : n - n ≡ 0 = omega arith in ap (λ k. replicate {A = ℕ} k 0) gone
