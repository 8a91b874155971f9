use Rattle.std.proofs.Common.{refl}
use Rattle.afp_bitmap.specs.Bits.{is_asked}
use Rattle.afp_bitmap.specs.Params.{asked_of}
use Rattle.afp_bitmap.specs.Table.{file_rows, rows}
use Rattle.volume_spec.proofs.WorkedKeys.{worked}
use Rattle.volume_spec.specs.Appls.{get_appl_refusal, get_appl_values}
use Rattle.volume_spec.specs.FileIds.{resolve_id_values}
use Rattle.volume_spec.specs.NodeValues.{file_values, has_open_fork, told_attributes}
use Rattle.afp_serial.specs.Fork.{has_most_forks, is_denied, lowest_free, opened_reply}
use Rattle.afp_serial.specs.ForkBytes.{meets_end, read_bytes}
use Rattle.afp_serial.specs.OnFork.{is_met_by_other, open_file}
use Rattle.afp_serial.specs.OnVolume.{opened_on}
use Rattle.afp_serial.proofs.fork_laws.worked_desks_hold.Goals as goal

pub returns-clause-exchanged : goal.returns-clause-exchanged
unfolding worked open_file is_met_by_other read_bytes meets_end is_denied has_most_forks lowest_free opened_reply opened_on is_asked file_values told_attributes has_open_fork asked_of rows file_rows resolve_id_values get_appl_refusal get_appl_values
returns-clause-exchanged c = refl

pub returns-clause-denials : goal.returns-clause-denials
unfolding worked open_file is_met_by_other read_bytes meets_end is_denied has_most_forks lowest_free opened_reply opened_on is_asked file_values told_attributes has_open_fork asked_of rows file_rows resolve_id_values get_appl_refusal get_appl_values
returns-clause-denials c = refl

pub returns-clause-ids : goal.returns-clause-ids
unfolding worked open_file is_met_by_other read_bytes meets_end is_denied has_most_forks lowest_free opened_reply opened_on is_asked file_values told_attributes has_open_fork asked_of rows file_rows resolve_id_values get_appl_refusal get_appl_values
returns-clause-ids c = refl

pub returns-clause-open : goal.returns-clause-open
unfolding worked open_file is_met_by_other read_bytes meets_end is_denied has_most_forks lowest_free opened_reply opened_on is_asked file_values told_attributes has_open_fork asked_of rows file_rows resolve_id_values get_appl_refusal get_appl_values
returns-clause-open c = refl

pub returns-clause-icons : goal.returns-clause-icons
unfolding worked open_file is_met_by_other read_bytes meets_end is_denied has_most_forks lowest_free opened_reply opened_on is_asked file_values told_attributes has_open_fork asked_of rows file_rows resolve_id_values get_appl_refusal get_appl_values
returns-clause-icons c = refl

pub returns-clause-appls : goal.returns-clause-appls
unfolding worked open_file is_met_by_other read_bytes meets_end is_denied has_most_forks lowest_free opened_reply opened_on is_asked file_values told_attributes has_open_fork asked_of rows file_rows resolve_id_values get_appl_refusal get_appl_values
returns-clause-appls c = refl
