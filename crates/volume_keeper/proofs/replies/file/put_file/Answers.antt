use Rattle.std.proofs.Common.{◌∙◌, ap, ◌++◌}
use Rattle.std.specs.Option.{option_copied}
use Rattle.volume_spec.specs.NodeValues.{file_values}
use Rattle.volume_spec.specs.VolumeState.{Row}
use Rattle.afp_bitmap.specs.Params.{params}
use Rattle.afp_bitmap.specs.declared.params.Values.TheVariants.{File}
use Rattle.volume_keeper.proofs.OfReplies.Fitting.{file-fits}
use Rattle.volume_keeper.proofs.OfReplies.Limits.{forks-small, with-whole}
use Rattle.volume_keeper.proofs.OfReplies.Nodes.{on-ok}
use Rattle.volume_keeper.specs.replies.lemma.Told.{with_these}
use Rattle.volume_tree.specs.Shown.{opened}
use Rattle.volume_keeper.proofs.replies.file.put_file.Goals as goal

pub file_values-requires : goal.file_values-requires
file_values-requires c = c.asked_forks-forks.ensures.small

pub put_params-requires-clause-fits : goal.put_params-requires-clause-fits
put_params-requires-clause-fits c =
    file-fits (opened c.args.opens.now) c.args.bits (with_these (option_copied c.asked_forks-forks.result) c.args.node.now) c.in_ok-values.values c.in_ok-values.ensures.values c.in_ok-values.ensures.long_name c.in_ok-values.ensures.utf8_name

pub returns-clause-ok : goal.returns-clause-ok
returns-clause-ok c =
    on-ok c.put_params.result c.put_params.ensures.ok (λ is.
    is
    ∙ ap (λ values. c.args.out.now ++ params c.args.bits (File values))
    (c.in_ok-values.ensures.values ∙ c.asked_forks-forks.ensures.values (opened c.args.opens.now)))
