use Rattle.volume_spec.proofs.Desktops.{desktop-stands, sound-add-appl, sound-add-comment, sound-add-icon, sound-desktop, sound-remove-appl, sound-remove-comment}
use Rattle.volume_spec.proofs.desktop_laws.desktops_keep_volumes_sound.Goals as goal

pub returns-clause-has : goal.returns-clause-has
returns-clause-has c = sound-desktop

pub returns-clause-stands : goal.returns-clause-stands
returns-clause-stands c = desktop-stands

pub returns-clause-add_icon : goal.returns-clause-add_icon
returns-clause-add_icon c = sound-add-icon

pub returns-clause-add_appl : goal.returns-clause-add_appl
returns-clause-add_appl c = sound-add-appl

pub returns-clause-remove_appl : goal.returns-clause-remove_appl
returns-clause-remove_appl c = sound-remove-appl

pub returns-clause-add_comment : goal.returns-clause-add_comment
returns-clause-add_comment c = sound-add-comment

pub returns-clause-remove_comment : goal.returns-clause-remove_comment
returns-clause-remove_comment c = sound-remove-comment
