-- The laws of what edits commit: a row that commits nothing changes nothing at all (this profile).
use Rattle.std.specs.Prelude.{ℕ}
use Rattle.afp_names.specs.Path.{PathValue}
use Rattle.afp_replies.specs.declared.reply.Reply.{Reply}
use Rattle.volume_spec.specs.VolumeCalls.{VolumeCall}
use Rattle.volume_spec.specs.VolumeState.{VolumeState}
use Rattle.afp_serial.specs.CopyFile.{CopyAsked, copies}
use Rattle.afp_serial.specs.ExchangeFiles.{exchange_files_row}
use Rattle.afp_serial.specs.ForkLaws.{CommitsChanges}
use Rattle.afp_serial.specs.VolumeRows.{changes_volume}

abbrev pub EditsAreCommitted : Type 0
EditsAreCommitted = (volume : ℕ) (change : VolumeCall) (reply : ℕ → VolumeState → Reply) → CommitsChanges (changes_volume volume change reply)

abbrev pub CopiesAreCommitted : Type 0
CopiesAreCommitted = (asked : CopyAsked) → CommitsChanges (copies asked)

abbrev pub ExchangesAreCommitted : Type 0
ExchangesAreCommitted = (volume dir second_dir : ℕ) (path second_path : PathValue) → CommitsChanges (exchange_files_row volume dir second_dir path second_path)
