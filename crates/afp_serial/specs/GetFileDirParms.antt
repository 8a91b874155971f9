-- FPGetFileDirParms (AFP Reference, "FPGetFileDirParms").
use Rattle.std.specs.Prelude.{ℕ, Option, Some, None}
use Rattle.afp_bitmap.specs.declared.params.Values.{Values}
use Rattle.afp_names.specs.Path.{PathValue}
use Rattle.afp_replies.specs.declared.reply.Reply.{Reply}
use Rattle.afp_replies.specs.declared.reply.Reply.TheVariants.{Empty, FileDirParams}
use Rattle.volume_spec.specs.GetFileDirParms.{get_file_dir_parms_refusal, get_file_dir_parms_values}
use Rattle.afp_serial.specs.World.{CallRow, user_of}
use Rattle.afp_serial.specs.OnVolume.{opened_on, tells_of}

-- the values of the node that was found; what finds none was refused
abbrev pub get_file_dir_parms_reply : ℕ → ℕ → Option Values → Reply
get_file_dir_parms_reply file_bits dir_bits None = Empty
get_file_dir_parms_reply file_bits dir_bits (Some values) = FileDirParams file_bits dir_bits values

abbrev pub get_file_dir_parms_row : ℕ → ℕ → ℕ → ℕ → PathValue → CallRow
get_file_dir_parms_row volume dir file_bits dir_bits path = tells_of volume
    (λ w s v. get_file_dir_parms_refusal v (user_of s) file_bits dir_bits dir path)
    (λ w s v. get_file_dir_parms_reply file_bits dir_bits (get_file_dir_parms_values v (user_of s) (opened_on w volume) file_bits dir_bits dir path))
