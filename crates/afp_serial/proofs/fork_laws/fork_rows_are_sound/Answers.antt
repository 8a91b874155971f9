use Rattle.std.proofs.Common.{refl}
use Rattle.afp_calls_grammar.specs.declared.grammar.call.Call.TheVariants as calls
use Rattle.afp_calls_grammar.specs.declared.grammar.call.Call.TheVariants.{ByteRangeLock, ByteRangeLockExt, CloseFork, FlushFork, GetForkParms, Read, ReadExt, SetForkParms, Write, WriteExt}
use Rattle.afp_serial.proofs.ForkRows.{close-fork-sound, flush-fork-sound, get-fork-parms-sound, read-ext-sound, read-sound}
use Rattle.afp_serial.proofs.WriteRows.{set-fork-parms-sound, write-ext-sound, write-sound}
use Rattle.afp_serial.proofs.LockRows.{byte-range-lock-ext-sound, byte-range-lock-sound}
use Rattle.afp_serial.proofs.OpenForkRow.{open-fork-sound}
use Rattle.afp_serial.proofs.LawfulRows.{row-lawful}
use Rattle.afp_serial.proofs.fork_laws.fork_rows_are_sound.Goals as goal

pub returns-clause-close_fork : goal.returns-clause-close_fork
returns-clause-close_fork c = λ reference. row-lawful (CloseFork reference) _ refl (close-fork-sound reference)

pub returns-clause-flush_fork : goal.returns-clause-flush_fork
returns-clause-flush_fork c = λ reference. row-lawful (FlushFork reference) _ refl (flush-fork-sound reference)

pub returns-clause-get_fork_parms : goal.returns-clause-get_fork_parms
returns-clause-get_fork_parms c = λ reference bits. row-lawful (GetForkParms reference bits) _ refl (get-fork-parms-sound reference bits)

pub returns-clause-read : goal.returns-clause-read
returns-clause-read c = λ reference offset count mask character. row-lawful (Read reference offset count mask character) _ refl (read-sound reference offset count mask character)

pub returns-clause-read_ext : goal.returns-clause-read_ext
returns-clause-read_ext c = λ reference offset count. row-lawful (ReadExt reference offset count) _ refl (read-ext-sound reference offset count)

pub returns-clause-set_fork_parms : goal.returns-clause-set_fork_parms
returns-clause-set_fork_parms c = λ reference bits tail. row-lawful (SetForkParms reference bits tail) _ refl (set-fork-parms-sound reference bits tail)

pub returns-clause-write : goal.returns-clause-write
returns-clause-write c = λ flag reference offset count piece. row-lawful (Write flag reference offset count piece) _ refl (write-sound flag reference offset count piece)

pub returns-clause-write_ext : goal.returns-clause-write_ext
returns-clause-write_ext c = λ flag reference offset count piece. row-lawful (WriteExt flag reference offset count piece) _ refl (write-ext-sound flag reference offset count piece)

pub returns-clause-byte_range_lock : goal.returns-clause-byte_range_lock
returns-clause-byte_range_lock c = λ flags reference offset length. row-lawful (ByteRangeLock flags reference offset length) _ refl (byte-range-lock-sound flags reference offset length)

pub returns-clause-byte_range_lock_ext : goal.returns-clause-byte_range_lock_ext
returns-clause-byte_range_lock_ext c = λ flags reference offset length. row-lawful (ByteRangeLockExt flags reference offset length) _ refl (byte-range-lock-ext-sound flags reference offset length)

pub returns-clause-open_fork : goal.returns-clause-open_fork
returns-clause-open_fork c = λ flag volume dir bits mode path. row-lawful (calls.OpenFork flag volume dir bits mode path) _ refl (open-fork-sound flag volume dir bits mode path)
