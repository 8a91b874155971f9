use Rattle.std.proofs.Common.{rules}
use Rattle.std.specs.Cmp.Lexicographic.{slice_cmp}
use Rattle.std.specs.Ordering.{nat_cmp}
use Rattle.std.proofs.lemmas.Fn.{always_returns_same}
use Rattle.volume_spec.specs.Desktop.{pair_key}
use Rattle.volume_spec.specs.SoundVolume.{appl_key}
use Rattle.desktop_db.proofs.Places.{searched}
use Rattle.desktop_db.proofs.appls.find.Goals as goal

pub returns-clause-found : goal.returns-clause-found
returns-clause-found c =
    let facts = c.binary_search_by.ensures in
    let by_key = facts.position (λ appl. slice_cmp nat_cmp (appl_key appl) (pair_key c.args.creator.now c.args.node.0)) (always_returns_same _ _ _ (λ a r h called. (search rules, search rules))) in
    (searched appl_key (pair_key c.args.creator.now c.args.node.0) c.args.appls.now c.binary_search_by.result c.requires facts.bound by_key).0

pub returns-clause-gap : goal.returns-clause-gap
returns-clause-gap c =
    let facts = c.binary_search_by.ensures in
    let by_key = facts.position (λ appl. slice_cmp nat_cmp (appl_key appl) (pair_key c.args.creator.now c.args.node.0)) (always_returns_same _ _ _ (λ a r h called. (search rules, search rules))) in
    (searched appl_key (pair_key c.args.creator.now c.args.node.0) c.args.appls.now c.binary_search_by.result c.requires facts.bound by_key).1
