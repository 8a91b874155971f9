use Rattle.volume_spec.proofs.CallsSound.{create-dir-sound, create-file-sound, delete-sound, move-sound, node-set-sound, rename-sound, set-dir-sound, set-file-dir-sound, set-file-sound, set-volume-sound}
use Rattle.volume_spec.proofs.laws.calls_keep_volumes_sound.Goals as goal

pub returns-clause-create_dir : goal.returns-clause-create_dir
returns-clause-create_dir c = create-dir-sound

pub returns-clause-create_file : goal.returns-clause-create_file
returns-clause-create_file c = create-file-sound

pub returns-clause-delete : goal.returns-clause-delete
returns-clause-delete c = delete-sound

pub returns-clause-rename : goal.returns-clause-rename
returns-clause-rename c = rename-sound

pub returns-clause-moved : goal.returns-clause-moved
returns-clause-moved c = move-sound

pub returns-clause-settings : goal.returns-clause-settings
returns-clause-settings c = node-set-sound

pub returns-clause-set_file : goal.returns-clause-set_file
returns-clause-set_file c = set-file-sound

pub returns-clause-set_dir : goal.returns-clause-set_dir
returns-clause-set_dir c = set-dir-sound

pub returns-clause-set_file_dir : goal.returns-clause-set_file_dir
returns-clause-set_file_dir c = set-file-dir-sound

pub returns-clause-set_volume : goal.returns-clause-set_volume
returns-clause-set_volume c = set-volume-sound
