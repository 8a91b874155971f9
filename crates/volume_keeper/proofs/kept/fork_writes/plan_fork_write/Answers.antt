use Rattle.std.proofs.Common.{◌≡◌, ◌<◌, ◌≤◌, ◌∙◌, ℕ, true, false, List, length, refl, sym, subst, nat_lt, Some}
use Rattle.std.proofs.lemmas.Bool.{lt-ltb, eqb-true}
use Rattle.afp_base.specs.DenyMode.{Fork}
use Rattle.afp_base.specs.ForkBytes.{splice}
use Rattle.afp_base.specs.Limits.{most_fork_bytes}
use Rattle.volume_spec.specs.ForkEffect.{fork_of, would_pass}
use Rattle.volume_spec.specs.SoundVolume.{IsSoundVolume}
use Rattle.volume_spec.specs.TypedVolume.{are_bytes}
use Rattle.volume_spec.specs.VolumeState.{Row}
use Rattle.volume_spec.specs.Walk.{row_at}
use Rattle.volume_keeper.specs.kept.ForkChanging.{PlansBytes}
use Rattle.volume_keeper.proofs.OfKept.GivenForks.{file_few, new_few, no_bytes, no_edits_may, no_piece, nothing_given, piece_passes, piece_within, some_bytes, write_gives, write_may, write_of}
use Rattle.volume_keeper.proofs.OfKept.WrittenBytes.{own_bytes, spliced_bytes}
use Rattle.volume_keeper.proofs.kept.fork_writes.plan_fork_write.Goals as goal

pub returns-then-is_empty-clause-may : goal.returns-then-is_empty-clause-may
returns-then-is_empty-clause-may c = no_edits_may c.args.whole.now.state _ (c.new-then-is_empty.ensures.edits ∙ c.new.ensures.items)

pub returns-then-is_empty-clause-plan : goal.returns-then-is_empty-clause-plan
returns-then-is_empty-clause-plan c = λ file found.
    let piece : List ℕ = c.args.piece.now in
    let none : length piece ≡ 0 = eqb-true (length piece) 0 (sym c.is_empty.ensures ∙ c.if-is_empty.true) in
    let bytes : List ℕ = fork_of c.args.fork.now.resource file in
    nothing_given c.args.whole.now.state c.keeps_sound.ensures.sound c.args.now c.args.fork.now.node c.args.fork.now.resource (nat_lt 0 (length piece)) bytes (splice bytes c.args.start piece) (no_bytes (length piece) none)
    (no_piece bytes piece c.args.start none) _ (c.new-then-is_empty.ensures.edits ∙ c.new.ensures.items)

pub would_pass-requires : goal.would_pass-requires
would_pass-requires c =
    let v = c.args.whole.now.state in
    let sound : IsSoundVolume v = c.keeps_sound.ensures.sound in
    let bytes : List ℕ = c.fork_in-bytes.result.now in
    let told : (file : Row) → row_at v.rows c.args.fork.now.node ≡ Some file → bytes ≡ fork_of c.args.fork.now.resource file =
    subst (λ (f : Fork). (file : Row) → row_at v.rows f.node ≡ Some file → bytes ≡ fork_of f.resource file) c.fork.view_is c.fork_in-bytes.ensures in
    subst (λ (n : ℕ). n ≤ most_fork_bytes) (sym c.len.ensures) (file_few c.forks_are_given_bytes.ensures.few v sound c.args.fork.now.node c.args.fork.now.resource bytes c.requires told)

pub returns-then-would_pass-clause-plan : goal.returns-then-would_pass-clause-plan
returns-then-would_pass-clause-plan c = λ file found.
    let v = c.args.whole.now.state in
    let sound : IsSoundVolume v = c.keeps_sound.ensures.sound in
    let bytes : List ℕ = c.fork_in-bytes.result.now in
    let told : (file : Row) → row_at v.rows c.args.fork.now.node ≡ Some file → bytes ≡ fork_of c.args.fork.now.resource file =
    subst (λ (f : Fork). (file : Row) → row_at v.rows f.node ≡ Some file → bytes ≡ fork_of f.resource file) c.fork.view_is c.fork_in-bytes.ensures in
    let few : length bytes ≤ most_fork_bytes = file_few c.forks_are_given_bytes.ensures.few v sound c.args.fork.now.node c.args.fork.now.resource bytes c.requires told in
    let some : 0 < length c.args.piece.now = some_bytes c.args.piece.now (sym c.is_empty.ensures ∙ c.if-is_empty.false) in
    let room : would_pass v (length bytes) (length (splice bytes c.args.start c.args.piece.now)) ≡ true =
    piece_passes c.splice_puts_between.ensures.reaches v bytes c.args.piece.now c.args.start c.len.result c.len-2.result c.saturating_add-end.result c.max.result c.would_pass.result some few c.len.ensures c.len-2.ensures c.saturating_add-end.ensures c.max.ensures
    c.would_pass.ensures ∙ c.if-would_pass.true in
    (subst (λ (l : List ℕ). would_pass v (length l) (length (splice l c.args.start c.args.piece.now)) ≡ true) (told file found) room, refl)

pub plan_write-requires : goal.plan_write-requires
plan_write-requires c =
    let v = c.args.whole.now.state in
    let sound : IsSoundVolume v = c.keeps_sound.ensures.sound in
    let bytes : List ℕ = c.fork_in-bytes.result.now in
    let told : (file : Row) → row_at v.rows c.args.fork.now.node ≡ Some file → bytes ≡ fork_of c.args.fork.now.resource file =
    subst (λ (f : Fork). (file : Row) → row_at v.rows f.node ≡ Some file → bytes ≡ fork_of f.resource file) c.fork.view_is c.fork_in-bytes.ensures in
    let few : length bytes ≤ most_fork_bytes = file_few c.forks_are_given_bytes.ensures.few v sound c.args.fork.now.node c.args.fork.now.resource bytes c.requires told in
    let some : 0 < length c.args.piece.now = some_bytes c.args.piece.now (sym c.is_empty.ensures ∙ c.if-is_empty.false) in
    let room : would_pass v (length bytes) (length (splice bytes c.args.start c.args.piece.now)) ≡ false =
    piece_passes c.splice_puts_between.ensures.reaches v bytes c.args.piece.now c.args.start c.len.result c.len-2.result c.saturating_add-end.result c.max.result c.would_pass.result some few c.len.ensures c.len-2.ensures c.saturating_add-end.ensures c.max.ensures
    c.would_pass.ensures ∙ c.if-would_pass.false in
    piece_within c.splice_puts_between.ensures.reaches bytes c.args.piece.now c.args.start some
    (new_few c.forks_are_given_bytes.ensures.room v sound c.args.fork.now.node c.args.fork.now.resource bytes (length (splice bytes c.args.start c.args.piece.now)) c.requires told room)

pub of-write-requires : goal.of-write-requires
of-write-requires c = (splice c.fork_in-bytes.result.now c.args.start c.args.piece.now, c.in-Ok.ensures.plan)

pub returns-clause-may : goal.returns-clause-may
returns-clause-may c =
    let v = c.args.whole.now.state in
    let sound : IsSoundVolume v = c.keeps_sound.ensures.sound in
    let bytes : List ℕ = c.fork_in-bytes.result.now in
    let told : (file : Row) → row_at v.rows c.args.fork.now.node ≡ Some file → bytes ≡ fork_of c.args.fork.now.resource file =
    subst (λ (f : Fork). (file : Row) → row_at v.rows f.node ≡ Some file → bytes ≡ fork_of f.resource file) c.fork.view_is c.fork_in-bytes.ensures in
    let few : length bytes ≤ most_fork_bytes = file_few c.forks_are_given_bytes.ensures.few v sound c.args.fork.now.node c.args.fork.now.resource bytes c.requires told in
    let some : 0 < length c.args.piece.now = some_bytes c.args.piece.now (sym c.is_empty.ensures ∙ c.if-is_empty.false) in
    let room : would_pass v (length bytes) (length (splice bytes c.args.start c.args.piece.now)) ≡ false =
    piece_passes c.splice_puts_between.ensures.reaches v bytes c.args.piece.now c.args.start c.len.result c.len-2.result c.saturating_add-end.result c.max.result c.would_pass.result some few c.len.ensures c.len-2.ensures c.saturating_add-end.ensures c.max.ensures
    c.would_pass.ensures ∙ c.if-would_pass.false in
    let now = c.args.now in
    let fork = c.args.fork.now in
    let piece : List ℕ = c.args.piece.now in
    let wanted : List ℕ = splice bytes c.args.start piece in
    let after : c.of-write.result.after ≡ wanted = c.of-write.ensures.after wanted c.in-Ok.ensures.plan in
    let small : are_bytes wanted ≡ true = spliced_bytes bytes c.args.start piece (own_bytes v sound c.keeps_sound.ensures.typed fork.node fork.resource bytes c.requires told) c.bytes_in_range.ensures in
    write_may v now fork.node fork.resource c.date_in_range.ensures c.of-write.result (write_of v sound fork.node fork.resource c.requires bytes wanted told room small c.of-write.result c.of-write.ensures.before after) c.plan_of_write.result c.plan_of_write.ensures

pub returns-clause-plan : goal.returns-clause-plan
returns-clause-plan c = λ file found.
    let v = c.args.whole.now.state in
    let sound : IsSoundVolume v = c.keeps_sound.ensures.sound in
    let bytes : List ℕ = c.fork_in-bytes.result.now in
    let told : (file : Row) → row_at v.rows c.args.fork.now.node ≡ Some file → bytes ≡ fork_of c.args.fork.now.resource file =
    subst (λ (f : Fork). (file : Row) → row_at v.rows f.node ≡ Some file → bytes ≡ fork_of f.resource file) c.fork.view_is c.fork_in-bytes.ensures in
    let few : length bytes ≤ most_fork_bytes = file_few c.forks_are_given_bytes.ensures.few v sound c.args.fork.now.node c.args.fork.now.resource bytes c.requires told in
    let some : 0 < length c.args.piece.now = some_bytes c.args.piece.now (sym c.is_empty.ensures ∙ c.if-is_empty.false) in
    let room : would_pass v (length bytes) (length (splice bytes c.args.start c.args.piece.now)) ≡ false =
    piece_passes c.splice_puts_between.ensures.reaches v bytes c.args.piece.now c.args.start c.len.result c.len-2.result c.saturating_add-end.result c.max.result c.would_pass.result some few c.len.ensures c.len-2.ensures c.saturating_add-end.ensures c.max.ensures
    c.would_pass.ensures ∙ c.if-would_pass.false in
    let now = c.args.now in
    let fork = c.args.fork.now in
    let piece : List ℕ = c.args.piece.now in
    let wanted : List ℕ = splice bytes c.args.start piece in
    let after : c.of-write.result.after ≡ wanted = c.of-write.ensures.after wanted c.in-Ok.ensures.plan in
    subst (λ (l : List ℕ). PlansBytes v now fork.node fork.resource (nat_lt 0 (length piece)) l (splice l c.args.start piece) c.plan_of_write.result) (told file found)
    (write_gives c.effects_are_edits.ensures.forks v now fork.node fork.resource (nat_lt 0 (length piece)) bytes wanted (lt-ltb 0 (length piece) some) room c.of-write.result after c.plan_of_write.result c.plan_of_write.ensures)
