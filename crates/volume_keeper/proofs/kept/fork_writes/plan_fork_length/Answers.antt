use Rattle.std.proofs.Common.{◌==◌, ◌≡◌, ◌≤◌, ◌∙◌, ℕ, true, false, not, List, length, ap, refl, sym, subst, Some}
use Rattle.std.proofs.lemmas.Bool.{ne_eqb}
use Rattle.afp_base.specs.DenyMode.{Fork}
use Rattle.afp_base.specs.ForkBytes.{resized}
use Rattle.afp_base.specs.Limits.{most_fork_bytes}
use Rattle.volume_spec.specs.ForkEffect.{fork_of, would_pass}
use Rattle.volume_spec.specs.SoundVolume.{IsSoundVolume}
use Rattle.volume_spec.specs.TypedVolume.{are_bytes}
use Rattle.volume_spec.specs.VolumeState.{Row}
use Rattle.volume_spec.specs.Walk.{row_at}
use Rattle.volume_keeper.specs.kept.ForkChanging.{PlansBytes}
use Rattle.volume_keeper.proofs.OfKept.GivenForks.{file_few, length_passes, new_few, no_edits_may, nothing_given, other_length, same_bytes, write_gives, write_may, write_of}
use Rattle.volume_keeper.proofs.OfKept.WrittenBytes.{own_bytes, resized_bytes}
use Rattle.volume_keeper.proofs.kept.fork_writes.plan_fork_length.Goals as goal

pub returns-then-len-clause-may : goal.returns-then-len-clause-may
returns-then-len-clause-may c = no_edits_may c.args.whole.now.state _ (c.new-then-len.ensures.edits ∙ c.new.ensures.items)

pub returns-then-len-clause-plan : goal.returns-then-len-clause-plan
returns-then-len-clause-plan c = λ file found.
    let v = c.args.whole.now.state in
    let sound : IsSoundVolume v = c.keeps_sound.ensures.sound in
    let bytes : List ℕ = c.fork_in-bytes.result.now in
    let told : (file : Row) → row_at v.rows c.args.fork.now.node ≡ Some file → bytes ≡ fork_of c.args.fork.now.resource file =
    subst (λ (f : Fork). (file : Row) → row_at v.rows f.node ≡ Some file → bytes ≡ fork_of f.resource file) c.fork.view_is c.fork_in-bytes.ensures in
    let is : List ℕ = fork_of c.args.fork.now.resource file in
    let same : c.args.len ≡ length is = c.if-len.true ∙ c.len.ensures ∙ ap length (told file found) in
    nothing_given v sound c.args.now c.args.fork.now.node c.args.fork.now.resource (not (c.args.len == length is)) is (resized is c.args.len) (other_length c.args.len (length is) same) (same_bytes is c.args.len same) _ (c.new-then-len.ensures.edits ∙ c.new.ensures.items)

pub would_pass-requires : goal.would_pass-requires
would_pass-requires c =
    let v = c.args.whole.now.state in
    let sound : IsSoundVolume v = c.keeps_sound.ensures.sound in
    let bytes : List ℕ = c.fork_in-bytes.result.now in
    let told : (file : Row) → row_at v.rows c.args.fork.now.node ≡ Some file → bytes ≡ fork_of c.args.fork.now.resource file =
    subst (λ (f : Fork). (file : Row) → row_at v.rows f.node ≡ Some file → bytes ≡ fork_of f.resource file) c.fork.view_is c.fork_in-bytes.ensures in
    subst (λ (n : ℕ). n ≤ most_fork_bytes) (sym c.len-2.ensures) (file_few c.forks_are_given_bytes.ensures.few v sound c.args.fork.now.node c.args.fork.now.resource bytes c.requires told)

pub returns-then-would_pass-clause-plan : goal.returns-then-would_pass-clause-plan
returns-then-would_pass-clause-plan c = λ file found.
    let v = c.args.whole.now.state in
    let sound : IsSoundVolume v = c.keeps_sound.ensures.sound in
    let bytes : List ℕ = c.fork_in-bytes.result.now in
    let told : (file : Row) → row_at v.rows c.args.fork.now.node ≡ Some file → bytes ≡ fork_of c.args.fork.now.resource file =
    subst (λ (f : Fork). (file : Row) → row_at v.rows f.node ≡ Some file → bytes ≡ fork_of f.resource file) c.fork.view_is c.fork_in-bytes.ensures in
    let room : would_pass v (length bytes) (length (resized bytes c.args.len)) ≡ true =
    length_passes v bytes c.args.len ∙ ap (λ (n : ℕ). would_pass v n c.args.len) (sym c.len-2.ensures) ∙ sym c.would_pass.ensures ∙ c.if-would_pass.true in
    (subst (λ (l : List ℕ). would_pass v (length l) (length (resized l c.args.len)) ≡ true) (told file found) room, refl)

pub plan_set_length-requires : goal.plan_set_length-requires
plan_set_length-requires c =
    let v = c.args.whole.now.state in
    let sound : IsSoundVolume v = c.keeps_sound.ensures.sound in
    let bytes : List ℕ = c.fork_in-bytes.result.now in
    let told : (file : Row) → row_at v.rows c.args.fork.now.node ≡ Some file → bytes ≡ fork_of c.args.fork.now.resource file =
    subst (λ (f : Fork). (file : Row) → row_at v.rows f.node ≡ Some file → bytes ≡ fork_of f.resource file) c.fork.view_is c.fork_in-bytes.ensures in
    let room : would_pass v (length bytes) c.args.len ≡ false = ap (λ (n : ℕ). would_pass v n c.args.len) (sym c.len-2.ensures) ∙ sym c.would_pass.ensures ∙ c.if-would_pass.false in
    new_few c.forks_are_given_bytes.ensures.room v sound c.args.fork.now.node c.args.fork.now.resource bytes c.args.len c.requires told room

pub of-write-requires : goal.of-write-requires
of-write-requires c = (resized c.fork_in-bytes.result.now c.args.len, c.in-Ok.ensures.plan)

pub returns-clause-may : goal.returns-clause-may
returns-clause-may c =
    let v = c.args.whole.now.state in
    let sound : IsSoundVolume v = c.keeps_sound.ensures.sound in
    let bytes : List ℕ = c.fork_in-bytes.result.now in
    let told : (file : Row) → row_at v.rows c.args.fork.now.node ≡ Some file → bytes ≡ fork_of c.args.fork.now.resource file =
    subst (λ (f : Fork). (file : Row) → row_at v.rows f.node ≡ Some file → bytes ≡ fork_of f.resource file) c.fork.view_is c.fork_in-bytes.ensures in
    let room : would_pass v (length bytes) (length (resized bytes c.args.len)) ≡ false =
    length_passes v bytes c.args.len ∙ ap (λ (n : ℕ). would_pass v n c.args.len) (sym c.len-2.ensures) ∙ sym c.would_pass.ensures ∙ c.if-would_pass.false in
    let now = c.args.now in
    let fork = c.args.fork.now in
    let len : ℕ = c.args.len in
    let wanted : List ℕ = resized bytes len in
    let after : c.of-write.result.after ≡ wanted = c.of-write.ensures.after wanted c.in-Ok.ensures.plan in
    let small : are_bytes wanted ≡ true = resized_bytes bytes len (own_bytes v sound c.keeps_sound.ensures.typed fork.node fork.resource bytes c.requires told) in
    write_may v now fork.node fork.resource c.date_in_range.ensures c.of-write.result (write_of v sound fork.node fork.resource c.requires bytes wanted told room small c.of-write.result c.of-write.ensures.before after) c.plan_of_write.result c.plan_of_write.ensures

pub returns-clause-plan : goal.returns-clause-plan
returns-clause-plan c = λ file found.
    let v = c.args.whole.now.state in
    let sound : IsSoundVolume v = c.keeps_sound.ensures.sound in
    let bytes : List ℕ = c.fork_in-bytes.result.now in
    let told : (file : Row) → row_at v.rows c.args.fork.now.node ≡ Some file → bytes ≡ fork_of c.args.fork.now.resource file =
    subst (λ (f : Fork). (file : Row) → row_at v.rows f.node ≡ Some file → bytes ≡ fork_of f.resource file) c.fork.view_is c.fork_in-bytes.ensures in
    let room : would_pass v (length bytes) (length (resized bytes c.args.len)) ≡ false =
    length_passes v bytes c.args.len ∙ ap (λ (n : ℕ). would_pass v n c.args.len) (sym c.len-2.ensures) ∙ sym c.would_pass.ensures ∙ c.if-would_pass.false in
    let now = c.args.now in
    let fork = c.args.fork.now in
    let len : ℕ = c.args.len in
    let wanted : List ℕ = resized bytes len in
    let after : c.of-write.result.after ≡ wanted = c.of-write.ensures.after wanted c.in-Ok.ensures.plan in
    let some : not (len == length bytes) ≡ true = ap (λ (n : ℕ). not (len == n)) (sym c.len.ensures) ∙ ap not (ne_eqb len c.len.result c.if-len.false) in
    subst (λ (l : List ℕ). PlansBytes v now fork.node fork.resource (not (len == length l)) l (resized l len) c.plan_of_write.result) (told file found)
    (write_gives c.effects_are_edits.ensures.forks v now fork.node fork.resource (not (len == length bytes)) bytes wanted some room c.of-write.result after c.plan_of_write.result c.plan_of_write.ensures)
