use Rattle.volume_spec.proofs.Desktops.{appl-keeps, comment-keeps, gone-node-keeps, icon-keeps, taken-appl-keeps, taken-comment-keeps}
use Rattle.volume_spec.proofs.desktop_laws.calls_keep_desktops.Goals as goal

pub returns-clause-icon : goal.returns-clause-icon
returns-clause-icon c = icon-keeps

pub returns-clause-appl : goal.returns-clause-appl
returns-clause-appl c = appl-keeps

pub returns-clause-appl_taken : goal.returns-clause-appl_taken
returns-clause-appl_taken c = taken-appl-keeps

pub returns-clause-comment : goal.returns-clause-comment
returns-clause-comment c = comment-keeps

pub returns-clause-comment_taken : goal.returns-clause-comment_taken
returns-clause-comment_taken c = taken-comment-keeps

pub returns-clause-gone : goal.returns-clause-gone
returns-clause-gone c = gone-node-keeps
