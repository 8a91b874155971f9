use Rattle.std.proofs.Common.{◌≡◌, ◌∙◌, ap, sym, ◌++◌, ◌==◌, length, take}
use Rattle.std.specs.Prelude.{nat_lt}
use Rattle.std.proofs.lemmas.Bool.{ne_eqb}
use Rattle.afp_replies.specs.Replies.{canonical_reply}
use Rattle.afp_serial.specs.ListReply.{list_reply}
use Rattle.volume_spec.specs.Enumerate.{ListAsked, counted_children, fits_reply, from_start}
use Rattle.volume_spec.specs.Rights.{lacks, read_right}
use Rattle.volume_spec.specs.Walk.{has_directory}
use Rattle.volume_keeper.proofs.OfReplies.Fronts.{filled-entries, first-fits, first-unfit}
use Rattle.volume_keeper.proofs.OfReplies.ListBytes.{none-refused, unfit-refused}
use Rattle.volume_tree.specs.Shown.{opened}
use Rattle.volume_keeper.proofs.replies.lists.list_of.Goals as goal

pub returns-in-Ok-eq0-clause-refused : goal.returns-in-Ok-eq0-clause-refused
returns-in-Ok-eq0-clause-refused c =
    let rows = c.args.volume.now.state.rows in
    let opens = opened c.args.opens.now in
    let some : c.args.asked.now.count ≡ 0 → ⊥ = λ none. c.if-most-eq0.false (c.most.ensures ∙ none) in
    let somewhere : c.args.asked.now.start ≡ 0 → ⊥ = λ none. c.if-start-eq0.false (c.start.ensures ∙ none) in
    unfit-refused (has_directory rows c.args.id.0) (lacks rows c.args.asked.now.user read_right c.args.id.0) (c.args.asked.now.count == 0) (c.args.asked.now.start == 0) (nat_lt (length (counted_children rows c.args.asked.now c.args.id.0)) c.args.asked.now.start)
    (fits_reply rows opens c.args.asked.now (take 1 (from_start rows c.args.asked.now c.args.id.0)))
    (sym c.is_directory.ensures ∙ c.if-not-is_directory.false) (ap (λ (a : ListAsked). lacks rows a.user read_right c.args.id.0) (sym c.asked.view_is) ∙ sym c.lacks.ensures ∙ c.if-lacks.false) (ne_eqb c.args.asked.now.count 0 some) (ne_eqb c.args.asked.now.start 0 somewhere) c.in-Some.ensures.0
    (first-unfit rows opens c.args.asked.now c.args.id.0 c.in-Some.first c.in-Some.ensures.1 some somewhere c.in-Some.ensures.0 (sym c.in-Ok-eq0.ensures.count ∙ c.in-Ok-eq0.field-0-test))

pub returns-in-Ok-clause-refused : goal.returns-in-Ok-clause-refused
returns-in-Ok-clause-refused c =
    let rows = c.args.volume.now.state.rows in
    let opens = opened c.args.opens.now in
    let some : c.args.asked.now.count ≡ 0 → ⊥ = λ none. c.if-most-eq0.false (c.most.ensures ∙ none) in
    let somewhere : c.args.asked.now.start ≡ 0 → ⊥ = λ none. c.if-start-eq0.false (c.start.ensures ∙ none) in
    none-refused (has_directory rows c.args.id.0) (lacks rows c.args.asked.now.user read_right c.args.id.0) (c.args.asked.now.count == 0) (c.args.asked.now.start == 0) (nat_lt (length (counted_children rows c.args.asked.now c.args.id.0)) c.args.asked.now.start)
    (fits_reply rows opens c.args.asked.now (take 1 (from_start rows c.args.asked.now c.args.id.0)))
    (sym c.is_directory.ensures ∙ c.if-not-is_directory.false) (ap (λ (a : ListAsked). lacks rows a.user read_right c.args.id.0) (sym c.asked.view_is) ∙ sym c.lacks.ensures ∙ c.if-lacks.false) (ne_eqb c.args.asked.now.count 0 some) (ne_eqb c.args.asked.now.start 0 somewhere) c.in-Some.ensures.0
    (first-fits rows opens c.args.asked.now c.args.id.0 c.in-Some.first c.in-Some.ensures.1 some somewhere c.in-Some.ensures.0 (λ none. c.in-Ok.field-0-test.1 (c.in-Ok.ensures.count ∙ none)))

pub returns-in-Ok-clause-ok : goal.returns-in-Ok-clause-ok
returns-in-Ok-clause-ok c =
    c.in-Ok.ensures.bytes
    ∙ ap (λ nodes. c.args.out.now ++ canonical_reply (list_reply c.args.volume.now.state.rows (opened c.args.opens.now) c.args.asked.now nodes))
    (filled-entries c.args.volume.now.state.rows (opened c.args.opens.now) c.args.asked.now c.args.id.0 c.in-Some.first c.in-Some.ensures.1)
