use Rattle.std.proofs.Common.{refl}
use Rattle.afp_bitmap.specs.Bits.{is_asked}
use Rattle.afp_bitmap.specs.Params.{asked_of}
use Rattle.afp_bitmap.specs.Table.{file_rows, rows}
use Rattle.volume_spec.specs.Edits.{with_changed}
use Rattle.volume_spec.specs.ForkEffect.{fork_effect, would_pass}
use Rattle.volume_spec.specs.NodeValues.{file_values, has_open_fork, told_attributes}
use Rattle.volume_spec.specs.SetForkParms.{has_no_length, length_in}
use Rattle.volume_spec.specs.Walk.{row_at}
use Rattle.afp_serial.specs.Fork.{has_most_forks, is_denied, lowest_free, opened_reply}
use Rattle.afp_serial.specs.ForkBytes.{meets_end, read_bytes}
use Rattle.afp_serial.specs.Lock.{has_lock, has_most_locks, is_met_by_own, range_asked}
use Rattle.afp_serial.specs.OnFork.{is_met_by_other, open_file}
use Rattle.afp_serial.specs.OnVolume.{opened_on}
use Rattle.afp_serial.proofs.fork_laws.worked_forks_hold.Goals as goal

pub returns-clause-denied : goal.returns-clause-denied
unfolding open_file is_met_by_other is_met_by_own has_most_locks has_lock range_asked read_bytes meets_end is_denied has_most_forks lowest_free opened_reply opened_on would_pass fork_effect length_in has_no_length row_at with_changed is_asked file_values told_attributes has_open_fork asked_of rows file_rows
returns-clause-denied c = refl

pub returns-clause-itself : goal.returns-clause-itself
unfolding open_file is_met_by_other is_met_by_own has_most_locks has_lock range_asked read_bytes meets_end is_denied has_most_forks lowest_free opened_reply opened_on would_pass fork_effect length_in has_no_length row_at with_changed is_asked file_values told_attributes has_open_fork asked_of rows file_rows
returns-clause-itself c = refl

pub returns-clause-reads : goal.returns-clause-reads
unfolding open_file is_met_by_other is_met_by_own has_most_locks has_lock range_asked read_bytes meets_end is_denied has_most_forks lowest_free opened_reply opened_on would_pass fork_effect length_in has_no_length row_at with_changed is_asked file_values told_attributes has_open_fork asked_of rows file_rows
returns-clause-reads c = refl

pub returns-clause-locks : goal.returns-clause-locks
unfolding open_file is_met_by_other is_met_by_own has_most_locks has_lock range_asked read_bytes meets_end is_denied has_most_forks lowest_free opened_reply opened_on would_pass fork_effect length_in has_no_length row_at with_changed is_asked file_values told_attributes has_open_fork asked_of rows file_rows
returns-clause-locks c = refl

pub returns-clause-writes : goal.returns-clause-writes
unfolding open_file is_met_by_other is_met_by_own has_most_locks has_lock range_asked read_bytes meets_end is_denied has_most_forks lowest_free opened_reply opened_on would_pass fork_effect length_in has_no_length row_at with_changed is_asked file_values told_attributes has_open_fork asked_of rows file_rows
returns-clause-writes c = refl

pub returns-clause-most : goal.returns-clause-most
unfolding open_file is_met_by_other is_met_by_own has_most_locks has_lock range_asked read_bytes meets_end is_denied has_most_forks lowest_free opened_reply opened_on would_pass fork_effect length_in has_no_length row_at with_changed is_asked file_values told_attributes has_open_fork asked_of rows file_rows
returns-clause-most c = refl

pub returns-clause-most_locks : goal.returns-clause-most_locks
unfolding open_file is_met_by_other is_met_by_own has_most_locks has_lock range_asked read_bytes meets_end is_denied has_most_forks lowest_free opened_reply opened_on would_pass fork_effect length_in has_no_length row_at with_changed is_asked file_values told_attributes has_open_fork asked_of rows file_rows
returns-clause-most_locks c = refl
