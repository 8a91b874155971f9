use Rattle.std.proofs.Common.{◌≡◌, ◌∙◌, ap, sym, length, arith}
use Rattle.std.proofs.lemmas.List.{length-map}
use Rattle.volume_spec.specs.Listing.{listed}
use Rattle.node_rows.specs.Children.{child_of}
use Rattle.volume_keeper.proofs.OfReplies.Starting.{all-behind, kind-asked, none-behind, nothing-behind}
use Rattle.volume_keeper.proofs.replies.lists.place_behind.Goals as goal

pub returns-then-counts_none : goal.returns-then-counts_none
returns-then-counts_none c = nothing-behind c.args.volume.now.state.rows c.args.asked.now c.args.dir.0 c.args.from c.args.skip (sym c.counts_none.ensures ∙ c.if-counts_none.true)

pub returns-then-not-counts_all : goal.returns-then-not-counts_all
returns-then-not-counts_all c =
    kind-asked c.args.volume.now.state.rows c.args.asked.now c.args.dir.0 c.args.from c.args.skip c.counts_files.result c.place_behind.result
    (sym c.counts_none.ensures ∙ c.if-counts_none.false) (sym c.counts_all.ensures ∙ c.if-not-counts_all.true) c.counts_files.ensures c.place_behind.ensures

pub returns-then-skip-saturating_sub : goal.returns-then-skip-saturating_sub
returns-then-skip-saturating_sub c =
    let same : length c.siblings.result.now ≡ length (listed c.args.volume.now.state.rows c.args.dir.0) = ap length c.siblings.ensures ∙ length-map (listed c.args.volume.now.state.rows c.args.dir.0) child_of in
    all-behind c.args.volume.now.state.rows c.args.asked.now c.args.dir.0 c.args.from c.args.skip (sym c.counts_all.ensures ∙ c.if-not-counts_all.false)
    (omega (arith, c.saturating_sub.ensures, c.if-skip-saturating_sub.true))

pub returns-else-skip-saturating_sub : goal.returns-else-skip-saturating_sub
returns-else-skip-saturating_sub c =
    let same : length c.siblings.result.now ≡ length (listed c.args.volume.now.state.rows c.args.dir.0) = ap length c.siblings.ensures ∙ length-map (listed c.args.volume.now.state.rows c.args.dir.0) child_of in
    none-behind c.args.volume.now.state.rows c.args.asked.now c.args.dir.0 c.args.from c.args.skip (sym c.counts_all.ensures ∙ c.if-not-counts_all.false)
    (omega (arith, c.saturating_sub.ensures, c.if-skip-saturating_sub.false))
