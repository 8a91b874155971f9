use Rattle.std.proofs.Common.{refl}
use Rattle.volume_spec.proofs.Desktops.{creators-rise}
use Rattle.volume_spec.proofs.desktop_laws.mappings_stand_by_creator.Goals as goal

pub returns-clause-comment_gone : goal.returns-clause-comment_gone
returns-clause-comment_gone c = λ v node. refl

pub returns-clause-mappings_gone : goal.returns-clause-mappings_gone
returns-clause-mappings_gone c = λ v node. refl

pub returns-clause-creators : goal.returns-clause-creators
returns-clause-creators c = λ comments icons appls node d. creators-rise appls node d.appls_rise d.appls_formed
