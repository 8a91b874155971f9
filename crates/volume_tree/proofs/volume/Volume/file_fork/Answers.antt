use Rattle.std.proofs.Common.{◌≡◌, ◌∙◌, ap, sym, subst, true, nat_cmp, Some, None}
use Rattle.std.specs.Option.{option_copied}
use Rattle.sorted_map.specs.map.Entries.{at}
use Rattle.volume_spec.specs.SoundVolume.{has_file}
use Rattle.volume_tree.proofs.KeptForks.{always-kept, has-file, is-fork}
use Rattle.volume_tree.proofs.Showing.{ids-differ}
use Rattle.volume_tree.specs.Kept.{state_of}
use Rattle.volume_tree.specs.Shown.{TreeValue, fork_at}
use Rattle.volume_tree.proofs.volume.Volume.file_fork.Goals as goal

pub unreachable-requires : goal.unreachable-requires
unreachable-requires c =
    always-kept c.self.inside.forks c.self.inside.rows.rows c.args.id.0 c.self.invariant.files
    (has-file c.self.inside.forks c.self.inside.rows.rows c.args.id.0 (ids-differ (state_of c.self.inside.name c.self.inside.dates c.self.inside.rows c.self.inside.forks) c.self.invariant.sound) (subst (λ (v : TreeValue). has_file v.state.rows c.args.id.0 ≡ true) (sym c.self.view_is) c.requires))
    (ap (at nat_cmp c.self.inside.forks) (sym c.from.ensures) ∙ sym c.get.ensures ∙ ap option_copied c.in-None.is)

pub returns : goal.returns
returns c =
    ap Some c.fork.ensures
    ∙ is-fork c.self.inside.forks c.self.inside.rows.rows c.args.id.0 c.args.resource c.in-Some.forks.now
    (has-file c.self.inside.forks c.self.inside.rows.rows c.args.id.0 (ids-differ (state_of c.self.inside.name c.self.inside.dates c.self.inside.rows c.self.inside.forks) c.self.invariant.sound) (subst (λ (v : TreeValue). has_file v.state.rows c.args.id.0 ≡ true) (sym c.self.view_is) c.requires))
    (ap (at nat_cmp c.self.inside.forks) (sym c.from.ensures) ∙ sym c.get.ensures ∙ ap option_copied c.in-Some.is)
    ∙ ap (λ (v : TreeValue). fork_at v.state.rows c.args.id.0 c.args.resource) c.self.view_is
