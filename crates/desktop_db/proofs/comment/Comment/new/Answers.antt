use Rattle.std.proofs.Common.{◌∙◌, ap, length, arith}
use Rattle.std.proofs.lemmas.Bool.{ne_eqb}
use Rattle.volume_spec.proofs.Desktops.{cut-formed}
use Rattle.volume_spec.specs.SoundVolume.{is_comment}
use Rattle.desktop_db.proofs.comment.Comment.new.Goals as goal

pub returns-clause-formed : goal.returns-clause-formed
returns-clause-formed c =
    ap (λ t. is_comment (record { node = c.args.node.0; text = t })) c.truncate.ensures ∙ cut-formed c.args.node.0 c.args.text (ne_eqb (length c.args.text) 0 (λ is. omega arith))
