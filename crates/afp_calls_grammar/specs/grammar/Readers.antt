-- How the requests of each group are read (AFP Reference, "AFP Calls").
use Rattle.std.specs.Prelude.{List, [], ◌∷◌}
use Rattle.afp_calls_grammar.specs.grammar.Reading.{Reader}
use Rattle.afp_calls_grammar.specs.grammar.Appl.{add_appl_reader, get_appl_reader, remove_appl_reader}
use Rattle.afp_calls_grammar.specs.grammar.Comment.{add_comment_reader, get_comment_reader, remove_comment_reader}
use Rattle.afp_calls_grammar.specs.grammar.Database.{close_dt_reader, open_dt_reader}
use Rattle.afp_calls_grammar.specs.grammar.Directory.{close_dir_reader, create_dir_reader, open_dir_reader}
use Rattle.afp_calls_grammar.specs.grammar.Enumerate.{enumerate_ext2_reader, enumerate_ext_reader, enumerate_reader}
use Rattle.afp_calls_grammar.specs.grammar.File.{copy_file_reader, create_file_reader, exchange_files_reader, set_file_parms_reader}
use Rattle.afp_calls_grammar.specs.grammar.FileId.{create_id_reader, delete_id_reader, resolve_id_reader}
use Rattle.afp_calls_grammar.specs.grammar.Fork.{close_fork_reader, flush_fork_reader, get_fork_parms_reader, open_fork_reader, set_fork_parms_reader}
use Rattle.afp_calls_grammar.specs.grammar.ForkBytes.{read_ext_reader, read_reader, write_ext_reader, write_reader}
use Rattle.afp_calls_grammar.specs.grammar.Icon.{add_icon_reader, get_icon_info_reader, get_icon_reader}
use Rattle.afp_calls_grammar.specs.grammar.Lock.{byte_range_lock_ext_reader, byte_range_lock_reader}
use Rattle.afp_calls_grammar.specs.grammar.Login.{login_ext_reader, login_reader, logout_reader}
use Rattle.afp_calls_grammar.specs.grammar.Parameters.{get_file_dir_parms_reader, set_dir_parms_reader, set_file_dir_parms_reader}
use Rattle.afp_calls_grammar.specs.grammar.Place.{delete_reader, move_and_rename_reader, rename_reader}
use Rattle.afp_calls_grammar.specs.grammar.Server.{get_srvr_info_reader, get_srvr_msg_reader, get_srvr_parms_reader}
use Rattle.afp_calls_grammar.specs.grammar.Token.{disconnect_old_session_reader, get_session_token_reader}
use Rattle.afp_calls_grammar.specs.grammar.User.{get_user_info_reader, map_id_reader, map_name_reader}
use Rattle.afp_calls_grammar.specs.grammar.Volume.{close_vol_reader, flush_reader, get_vol_parms_reader, open_vol_reader, set_vol_parms_reader}

-- the requests about the session: logging in and out, tokens, and what the server tells of itself and of users
abbrev pub session_readers : List Reader
session_readers = login_reader ∷ login_ext_reader ∷ logout_reader ∷ get_session_token_reader ∷ disconnect_old_session_reader ∷ get_srvr_info_reader ∷ get_srvr_parms_reader ∷ get_srvr_msg_reader ∷ get_user_info_reader ∷ map_id_reader ∷ map_name_reader ∷ []

-- the requests about directories, and on files and directories alike
abbrev pub directory_readers : List Reader
directory_readers = create_dir_reader ∷ open_dir_reader ∷ close_dir_reader ∷ enumerate_reader ∷ enumerate_ext_reader ∷ enumerate_ext2_reader ∷ set_dir_parms_reader ∷ get_file_dir_parms_reader ∷ set_file_dir_parms_reader ∷ delete_reader ∷ rename_reader ∷ move_and_rename_reader ∷ []

-- the requests about files
abbrev pub file_readers : List Reader
file_readers = create_file_reader ∷ copy_file_reader ∷ set_file_parms_reader ∷ exchange_files_reader ∷ create_id_reader ∷ delete_id_reader ∷ resolve_id_reader ∷ []

-- the requests about open forks
abbrev pub fork_readers : List Reader
fork_readers = open_fork_reader ∷ close_fork_reader ∷ flush_fork_reader ∷ get_fork_parms_reader ∷ set_fork_parms_reader ∷ read_reader ∷ read_ext_reader ∷ write_reader ∷ write_ext_reader ∷ byte_range_lock_reader ∷ byte_range_lock_ext_reader ∷ []

-- the requests about the desktop database
abbrev pub desktop_readers : List Reader
desktop_readers = open_dt_reader ∷ close_dt_reader ∷ add_icon_reader ∷ get_icon_reader ∷ get_icon_info_reader ∷ add_appl_reader ∷ remove_appl_reader ∷ get_appl_reader ∷ add_comment_reader ∷ remove_comment_reader ∷ get_comment_reader ∷ []

-- the requests about volumes
abbrev pub volume_readers : List Reader
volume_readers = open_vol_reader ∷ close_vol_reader ∷ get_vol_parms_reader ∷ set_vol_parms_reader ∷ flush_reader ∷ []
