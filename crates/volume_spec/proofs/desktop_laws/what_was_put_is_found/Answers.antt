use Rattle.volume_spec.proofs.Desktops.{comment-found, comment-gone}
use Rattle.volume_spec.proofs.Keys.{put-key-found, gone-key-found}
use Rattle.volume_spec.specs.Desktop.{pair_key}
use Rattle.volume_spec.specs.SoundVolume.{appl_key, icon_key}
use Rattle.volume_spec.proofs.desktop_laws.what_was_put_is_found.Goals as goal

pub returns-clause-icon : goal.returns-clause-icon
returns-clause-icon c = λ icon icons key. put-key-found icon_key icon icons key

pub returns-clause-appl : goal.returns-clause-appl
returns-clause-appl c = λ appl appls creator node. put-key-found appl_key appl appls (pair_key creator node)

pub returns-clause-appl_taken : goal.returns-clause-appl_taken
returns-clause-appl_taken c = λ appls a b m n. gone-key-found appl_key appls (pair_key a m) (pair_key b n)

pub returns-clause-comment : goal.returns-clause-comment
returns-clause-comment c = comment-found

pub returns-clause-comment_taken : goal.returns-clause-comment_taken
returns-clause-comment_taken c = comment-gone
