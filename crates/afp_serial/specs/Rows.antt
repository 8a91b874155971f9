-- The row of a call, each under the call's name; here they are only dispatched.
use Rattle.std.specs.Prelude.{ℕ, Bool, true, false, Option}
use Rattle.afp_calls_grammar.specs.declared.grammar.call.Call.{Call}
use Rattle.afp_calls_grammar.specs.declared.grammar.call.Call.TheVariants.{AddAPPL, AddComment, AddIcon, ByteRangeLock, ByteRangeLockExt, CloseDT, CloseDir, CloseFork, CloseVol, CopyFile, CreateDir, CreateFile, CreateID, Delete, DeleteID, DisconnectOldSession, Enumerate, EnumerateExt, EnumerateExt2, ExchangeFiles, Flush, FlushFork, GetAPPL, GetComment, GetFileDirParms, GetForkParms, GetIcon, GetIconInfo, GetSessionToken, GetSrvrInfo, GetSrvrMsg, GetSrvrParms, GetUserInfo, GetVolParms, Login, LoginExt, Logout, MapID, MapName, MoveAndRename, OpenDT, OpenDir, OpenFork, OpenVol, Read, ReadExt, RemoveAPPL, RemoveComment, Rename, ResolveID, SetDirParms, SetFileDirParms, SetFileParms, SetForkParms, SetVolParms, Write, WriteExt}
use Rattle.afp_base.specs.Choice.{first_holding}
use Rattle.afp_serial.specs.World.{Effect, Refused, CallRow, World, Session}
use Rattle.afp_serial.specs.Appls.{add_appl_row, get_appl_row, remove_appl_row}
use Rattle.afp_serial.specs.CloseVol.{close_vol_row}
use Rattle.afp_serial.specs.Comments.{add_comment_row, get_comment_row, remove_comment_row}
use Rattle.afp_serial.specs.CopyFile.{copy_file_row}
use Rattle.afp_serial.specs.CreateDir.{create_dir_row}
use Rattle.afp_serial.specs.CreateFile.{create_file_row}
use Rattle.afp_serial.specs.Enumerate.{enumerate_row, enumerate_ext_row, enumerate_ext2_row}
use Rattle.afp_serial.specs.ExchangeFiles.{exchange_files_row}
use Rattle.afp_serial.specs.FileIds.{create_id_row, delete_id_row, resolve_id_row}
use Rattle.afp_serial.specs.Flush.{flush_row}
use Rattle.afp_serial.specs.Fork.{close_fork_row, flush_fork_row, get_fork_parms_row, open_fork_row, set_fork_parms_row}
use Rattle.afp_serial.specs.ForkBytes.{read_ext_row, read_row, write_ext_row, write_row}
use Rattle.afp_serial.specs.GetFileDirParms.{get_file_dir_parms_row}
use Rattle.afp_serial.specs.GetSrvrInfo.{get_srvr_info_row}
use Rattle.afp_serial.specs.GetSrvrMsg.{get_srvr_msg_row}
use Rattle.afp_serial.specs.GetSrvrParms.{get_srvr_parms_row}
use Rattle.afp_serial.specs.GetUserInfo.{get_user_info_row}
use Rattle.afp_serial.specs.GetVolParms.{get_vol_parms_row}
use Rattle.afp_serial.specs.Icons.{add_icon_row, get_icon_info_row, get_icon_row}
use Rattle.afp_serial.specs.Lock.{byte_range_lock_ext_row, byte_range_lock_row}
use Rattle.afp_serial.specs.Login.{login_ext_row, login_row}
use Rattle.afp_serial.specs.Logout.{logout_row}
use Rattle.afp_serial.specs.MapID.{map_id_row}
use Rattle.afp_serial.specs.MapName.{map_name_row}
use Rattle.afp_serial.specs.OpenDT.{close_dt_row, open_dt_row}
use Rattle.afp_serial.specs.OpenDir.{close_dir_row, open_dir_row}
use Rattle.afp_serial.specs.OpenVol.{open_vol_row}
use Rattle.afp_serial.specs.Place.{delete_row, move_and_rename_row, rename_row}
use Rattle.afp_serial.specs.SessionToken.{disconnect_old_session_row, get_session_token_row}
use Rattle.afp_serial.specs.SetFileDirParms.{set_dir_parms_row, set_file_dir_parms_row, set_file_parms_row}
use Rattle.afp_serial.specs.SetVolParms.{set_vol_parms_row}

-- the row of each call that is spelt
unfoldable pub row : Call → CallRow
row (AddAPPL dt dir creator tag path) = add_appl_row dt dir.0 creator tag path
row (AddComment dt dir path comment) = add_comment_row dt dir.0 path comment
row (AddIcon dt creator kind icon_kind tag size piece) = add_icon_row dt creator kind icon_kind tag piece
row (ByteRangeLock flags reference offset length) = byte_range_lock_row flags reference.0 offset length
row (ByteRangeLockExt flags reference offset length) = byte_range_lock_ext_row flags reference.0 offset length
row (CloseDT dt) = close_dt_row dt
row (CloseDir volume dir) = close_dir_row volume.0
row (CloseFork reference) = close_fork_row reference.0
row (CloseVol volume) = close_vol_row volume.0
row (CopyFile volume dir target_volume target_dir path target_path new_path) = copy_file_row volume.0 dir.0 target_volume.0 target_dir.0 path target_path new_path
row (CreateDir volume dir path) = create_dir_row volume.0 dir.0 path
row (CreateFile flag volume dir path) = create_file_row flag volume.0 dir.0 path
row (CreateID volume dir path) = create_id_row volume.0 dir.0 path
row (Delete volume dir path) = delete_row volume.0 dir.0 path
row (DeleteID volume id) = delete_id_row volume.0 id.0
row (DisconnectOldSession kind token) = disconnect_old_session_row token
row (Enumerate volume dir file_bits dir_bits count start size path) = enumerate_row volume.0 dir.0 file_bits dir_bits count start size path
row (EnumerateExt volume dir file_bits dir_bits count start size path) = enumerate_ext_row volume.0 dir.0 file_bits dir_bits count start size path
row (EnumerateExt2 volume dir file_bits dir_bits count start size path) = enumerate_ext2_row volume.0 dir.0 file_bits dir_bits count start size path
row (ExchangeFiles volume dir second_dir path second_path) = exchange_files_row volume.0 dir.0 second_dir.0 path second_path
row (Flush volume) = flush_row volume.0
row (FlushFork reference) = flush_fork_row reference.0
row (GetAPPL dt creator index bits) = get_appl_row dt creator index bits
row (GetComment dt dir path) = get_comment_row dt dir.0 path
row (GetFileDirParms volume dir file_bits dir_bits path) = get_file_dir_parms_row volume.0 dir.0 file_bits dir_bits path
row (GetForkParms reference bits) = get_fork_parms_row reference.0 bits
row (GetIcon dt creator kind icon_kind length) = get_icon_row dt creator kind icon_kind length
row (GetIconInfo dt creator index) = get_icon_info_row dt creator index
row (GetSessionToken kind stamp id) = get_session_token_row
row GetSrvrInfo = get_srvr_info_row
row (GetSrvrMsg kind bits) = get_srvr_msg_row kind bits
row GetSrvrParms = get_srvr_parms_row
row (GetUserInfo flag id bits) = get_user_info_row flag id bits
row (GetVolParms volume bits) = get_vol_parms_row volume.0 bits
row (Login version uam tail) = login_row version uam tail
row (LoginExt flags version uam name path_kind path tail) = login_ext_row version uam name tail
row Logout = logout_row
row (MapID function id) = map_id_row function id
row (MapName function name) = map_name_row function name
row (MoveAndRename volume dir target_dir path target_path new_path) = move_and_rename_row volume.0 dir.0 path target_dir.0 target_path new_path
row (OpenDT volume) = open_dt_row volume.0
row (OpenDir volume dir path) = open_dir_row volume.0 dir.0 path
row (OpenFork flag volume dir bits mode path) = open_fork_row flag volume.0 dir.0 bits mode path
row (OpenVol bits name) = open_vol_row bits name
row (Read reference offset count mask character) = read_row reference.0 offset count mask character
row (ReadExt reference offset count) = read_ext_row reference.0 offset count
row (RemoveAPPL dt dir creator path) = remove_appl_row dt dir.0 creator path
row (RemoveComment dt dir path) = remove_comment_row dt dir.0 path
row (Rename volume dir path new_path) = rename_row volume.0 dir.0 path new_path
row (ResolveID volume id bits) = resolve_id_row volume.0 id.0 bits
row (SetDirParms volume dir bits path tail) = set_dir_parms_row volume.0 dir.0 bits path tail
row (SetFileDirParms volume dir bits path tail) = set_file_dir_parms_row volume.0 dir.0 bits path tail
row (SetFileParms volume dir bits path tail) = set_file_parms_row volume.0 dir.0 bits path tail
row (SetForkParms reference bits tail) = set_fork_parms_row reference.0 bits tail
row (SetVolParms volume bits tail) = set_vol_parms_row volume.0 bits tail
row (Write flag reference offset count piece) = write_row flag reference.0 offset count piece
row (WriteExt flag reference offset count piece) = write_ext_row flag reference.0 offset count piece

-- what is told by the first condition that holds
abbrev pub refusal : World → Session → Call → Option Refused
refusal w s call = first_holding ((row call).refusals w s)

-- what a call that is not refused does
abbrev pub effect : World → Session → Call → Effect
effect w s call = (row call).effect w s

-- the index of the volume whose keeper the row of a call commits to or settles, so that it may meet a fault, or none
abbrev pub committed : World → Session → Call → Option ℕ
committed w s call = (row call).committed w s

-- the one call with which a session ends
abbrev pub ends_session : Call → Bool
ends_session Logout = true
ends_session call = false
