use Rattle.volume_spec.proofs.Desktops.{icon-listed, icon-parts}
use Rattle.volume_spec.proofs.desktop_laws.icons_have_their_keys.Goals as goal

pub returns-clause-parts : goal.returns-clause-parts
returns-clause-parts c = icon-parts

pub returns-clause-listed : goal.returns-clause-listed
returns-clause-listed c = λ comments icons appls creator n icon d. icon-listed icons creator n icon d.icons_rise
