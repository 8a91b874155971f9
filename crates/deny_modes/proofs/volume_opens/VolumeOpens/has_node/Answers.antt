use Rattle.std.proofs.Common.{◌∙◌, ◌||◌, ap, sym, true}
use Rattle.std.specs.List.{list_any}
use Rattle.deny_modes.proofs.VolumeOpenLemmas.{is_fork, node_told}
use Rattle.deny_modes.proofs.volume_opens.VolumeOpens.has_node.Goals as goal

pub returns-then-has_fork : goal.returns-then-has_fork
returns-then-has_fork c =
    let forks = c.args.self.now in
    c.if-has_fork.true ∙ sym (node_told c.args.node.0 forks ∙ ap (λ b. b || list_any (is_fork c.args.node.0 true) forks) (sym c.has_fork.ensures ∙ c.if-has_fork.true))

pub returns-else-has_fork : goal.returns-else-has_fork
returns-else-has_fork c =
    let forks = c.args.self.now in
    c.has_fork-else-has_fork.ensures ∙ sym (node_told c.args.node.0 forks ∙ ap (λ b. b || list_any (is_fork c.args.node.0 true) forks) (sym c.has_fork.ensures ∙ c.if-has_fork.false))
