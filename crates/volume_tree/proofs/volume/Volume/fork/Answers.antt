use Rattle.std.proofs.Common.{◌∙◌, ap, sym, Some, nat_cmp}
use Rattle.std.specs.Option.{option_copied}
use Rattle.sorted_map.specs.map.Entries.{at}
use Rattle.volume_tree.proofs.KeptForks.{no-fork, is-fork, always-kept}
use Rattle.volume_tree.specs.Shown.{TreeValue, fork_at}
use Rattle.volume_tree.proofs.volume.Volume.fork.Goals as goal

pub returns-then-not-is_file : goal.returns-then-not-is_file
returns-then-not-is_file c =
    no-fork c.self.inside.forks c.self.inside.rows.rows c.args.id.0 c.args.resource (sym c.is_file.ensures ∙ c.if-not-is_file.true)
    ∙ ap (λ (v : TreeValue). fork_at v.state.rows c.args.id.0 c.args.resource) c.self.view_is

pub returns-in-Some : goal.returns-in-Some
returns-in-Some c =
    ap Some c.fork.ensures
    ∙ is-fork c.self.inside.forks c.self.inside.rows.rows c.args.id.0 c.args.resource c.in-Some.forks.now (sym c.is_file.ensures ∙ c.if-not-is_file.false)
    (ap (at nat_cmp c.self.inside.forks) (sym c.from.ensures) ∙ sym c.get.ensures ∙ ap option_copied c.in-Some.is)
    ∙ ap (λ (v : TreeValue). fork_at v.state.rows c.args.id.0 c.args.resource) c.self.view_is

pub returns-in-None : goal.returns-in-None
returns-in-None c =
    absurd (always-kept c.self.inside.forks c.self.inside.rows.rows c.args.id.0 c.self.invariant.files (sym c.is_file.ensures ∙ c.if-not-is_file.false)
    (ap (at nat_cmp c.self.inside.forks) (sym c.from.ensures) ∙ sym c.get.ensures ∙ ap option_copied c.in-None.is))
