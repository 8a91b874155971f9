-- What is shown at a path (this profile).
use Rattle.std.specs.Prelude.{Option, Some, None}
use Rattle.afp_bitmap.specs.declared.file.FileValues.{FileValues}
use Rattle.afp_bitmap.specs.declared.params.Values.{Values}
use Rattle.afp_bitmap.specs.declared.params.Values.TheVariants.{Volume, File, Dir}
use Rattle.afp_replies.specs.declared.reply.Reply.{Reply}
use Rattle.afp_replies.specs.declared.reply.Reply.TheVariants.{FileDirParams}
use Rattle.client_script_commands.specs.declared.parcels.found.Found.{Found}
use Rattle.client_script_commands.specs.declared.parcels.found.Found.TheVariants as founds
use Rattle.client_script_commands.specs.declared.parcels.found.Shown.{Shown}

-- of a file its dates, its Finder information and its name
abbrev pub shown_of : FileValues → Shown
shown_of values = record { created = values.created; modified = values.modified; backup = values.backup; finder = values.finder; name = values.utf8_name }

abbrev pub found_of : Values → Option Found
found_of (File values) = Some (founds.Shown (shown_of values))
found_of (Dir values) = Some founds.Directory
found_of (Volume values) = None

-- a file or a directory
abbrev pub found_in : Reply → Option Found
found_in (FileDirParams bits dir_bits values) = found_of values
found_in reply = None
