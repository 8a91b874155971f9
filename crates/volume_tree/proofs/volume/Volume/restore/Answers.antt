use Rattle.std.proofs.Common.{◌≡◌, ◌≤◌, ◌∙◌, ap, sym, subst, true, List}
use Rattle.std.specs.Prelude.{nat_lt, sum_by}
use Rattle.std.specs.List.{list_all}
use Rattle.afp_base.specs.Apart.{are_apart}
use Rattle.afp_base.specs.Limits.{most_fork_bytes}
use Rattle.volume_spec.specs.SoundVolume.{are_named_alike, has_node, has_rising_ids}
use Rattle.volume_spec.specs.VolumeState.{Row, root_id}
use Rattle.volume_tree.proofs.Restoring.{Restored, RestoreParts, all-short, restore-parts, restored-kept, restored-state}
use Rattle.volume_tree.specs.lemma.Restored.{forks_in, has_short_forks, loaded_bytes}
use Rattle.volume_tree.specs.declared.restore.LoadedNode.{LoadedNode}
use Rattle.volume_tree.proofs.volume.Volume.restore.Goals as goal

pub all_forks-requires : goal.all_forks-requires
all_forks-requires c =
    let parts : RestoreParts c.args.head c.args.nodes.items = restore-parts c.args.head c.args.nodes.items c.requires in
    subst (λ (l : List LoadedNode). list_all has_short_forks l ≡ true) (sym c.as_slice.ensures.value) (all-short c.args.nodes.items parts.few)

pub bytes_of-used-requires : goal.bytes_of-used-requires
bytes_of-used-requires c =
    let parts : RestoreParts c.args.head c.args.nodes.items = restore-parts c.args.head c.args.nodes.items c.requires in
    subst (λ (l : List LoadedNode). sum_by loaded_bytes l ≤ most_fork_bytes) (sym c.as_slice-2.ensures.value) parts.few

pub of-requires-clause-rising : goal.of-requires-clause-rising
of-requires-clause-rising c =
    let parts : RestoreParts c.args.head c.args.nodes.items = restore-parts c.args.head c.args.nodes.items c.requires in
    ap (λ (l : List Row). has_rising_ids l) c.in_ok-nodes_of.ensures ∙ parts.rising

pub of-requires-clause-below : goal.of-requires-clause-below
of-requires-clause-below c =
    let parts : RestoreParts c.args.head c.args.nodes.items = restore-parts c.args.head c.args.nodes.items c.requires in
    ap (λ (l : List Row). list_all (λ (row : Row). nat_lt row.id c.args.head.next_id) l) c.in_ok-nodes_of.ensures ∙ parts.below

pub of-requires-clause-apart : goal.of-requires-clause-apart
of-requires-clause-apart c =
    let parts : RestoreParts c.args.head c.args.nodes.items = restore-parts c.args.head c.args.nodes.items c.requires in
    ap (λ (l : List Row). are_apart are_named_alike l) c.in_ok-nodes_of.ensures ∙ parts.names

pub of-requires-clause-low : goal.of-requires-clause-low
of-requires-clause-low c = (restore-parts c.args.head c.args.nodes.items c.requires).low

pub of-requires-clause-high : goal.of-requires-clause-high
of-requires-clause-high c = (restore-parts c.args.head c.args.nodes.items c.requires).high

pub root_name-requires : goal.root_name-requires
root_name-requires c =
    let parts : RestoreParts c.args.head c.args.nodes.items = restore-parts c.args.head c.args.nodes.items c.requires in
    ap (λ (l : List Row). has_node l root_id) (c.in_ok-rows.ensures.rows ∙ c.in_ok-nodes_of.ensures) ∙ parts.root

pub invariant_of-result : goal.invariant_of-result
invariant_of-result c =
    let r : Restored c.args.head c.args.nodes.items c.in_ok-name.name c.dates.result c.in_ok-rows.rows c.in_ok-forks.forks c.bytes_of-used.result = record {
      may = c.requires;
      name_is = c.in_ok-name.ensures;
      dates_are = c.dates.ensures;
      rows_are = c.in_ok-rows.ensures.rows ∙ c.in_ok-nodes_of.ensures;
      next_is = c.in_ok-rows.ensures.next;
      forks_are = λ q. c.in_ok-forks.ensures q ∙ ap (λ (l : List LoadedNode). forks_in l q) c.as_slice.ensures.value;
      used_is = c.bytes_of-used.ensures ∙ ap (λ (l : List LoadedNode). sum_by loaded_bytes l) c.as_slice-2.ensures.value;
    } in
    restored-kept r

pub returns : goal.returns
returns c =
    let r : Restored c.args.head c.args.nodes.items c.in_ok-name.name c.dates.result c.in_ok-rows.rows c.in_ok-forks.forks c.bytes_of-used.result = record {
      may = c.requires;
      name_is = c.in_ok-name.ensures;
      dates_are = c.dates.ensures;
      rows_are = c.in_ok-rows.ensures.rows ∙ c.in_ok-nodes_of.ensures;
      next_is = c.in_ok-rows.ensures.next;
      forks_are = λ q. c.in_ok-forks.ensures q ∙ ap (λ (l : List LoadedNode). forks_in l q) c.as_slice.ensures.value;
      used_is = c.bytes_of-used.ensures ∙ ap (λ (l : List LoadedNode). sum_by loaded_bytes l) c.as_slice-2.ensures.value;
    } in
    restored-state r
