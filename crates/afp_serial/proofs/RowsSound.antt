-- What each call's row owes; here it is only dispatched.
use Rattle.afp_calls_grammar.specs.declared.grammar.call.Call.{Call}
use Rattle.afp_calls_grammar.specs.declared.grammar.call.Call.TheVariants.{AddAPPL, AddComment, AddIcon, ByteRangeLock, ByteRangeLockExt, CloseDT, CloseDir, CloseFork, CloseVol, CopyFile, CreateDir, CreateFile, CreateID, Delete, DeleteID, DisconnectOldSession, Enumerate, EnumerateExt, EnumerateExt2, ExchangeFiles, Flush, FlushFork, GetAPPL, GetComment, GetFileDirParms, GetForkParms, GetIcon, GetIconInfo, GetSessionToken, GetSrvrInfo, GetSrvrMsg, GetSrvrParms, GetUserInfo, GetVolParms, Login, LoginExt, Logout, MapID, MapName, MoveAndRename, OpenDT, OpenDir, OpenFork, OpenVol, Read, ReadExt, RemoveAPPL, RemoveComment, Rename, ResolveID, SetDirParms, SetFileDirParms, SetFileParms, SetForkParms, SetVolParms, Write, WriteExt}
use Rattle.afp_serial.proofs.CloseVolRow.{close-vol-sound}
use Rattle.afp_serial.proofs.CopyRow.{copy-file-sound}
use Rattle.afp_serial.proofs.DeskRows.{close-dt-sound, get-appl-sound, get-comment-sound, get-icon-info-sound, get-icon-sound, open-dt-sound, resolve-id-sound}
use Rattle.afp_serial.proofs.EditRows.{add-appl-sound, add-comment-sound, add-icon-sound, create-id-sound, delete-id-sound, remove-appl-sound, remove-comment-sound}
use Rattle.afp_serial.proofs.ExchangeRow.{exchange-files-sound}
use Rattle.afp_serial.proofs.ForkRows.{close-fork-sound, flush-fork-sound, get-fork-parms-sound, read-ext-sound, read-sound}
use Rattle.afp_serial.proofs.LockRows.{byte-range-lock-ext-sound, byte-range-lock-sound}
use Rattle.afp_serial.proofs.LoginRows.{login-ext-sound, login-sound, logout-sound}
use Rattle.afp_serial.proofs.OpenForkRow.{open-fork-sound}
use Rattle.afp_serial.proofs.OpenVolRow.{open-vol-sound}
use Rattle.afp_serial.proofs.SessionRows.{get-srvr-info-sound, get-srvr-msg-sound, get-srvr-parms-sound, get-user-info-sound, map-id-sound, map-name-sound}
use Rattle.afp_serial.proofs.SessionTokenRows.{disconnect-old-session-sound, get-session-token-sound}
use Rattle.afp_serial.proofs.SoundRow.{IsSoundRow}
use Rattle.afp_serial.proofs.TellRows.{close-dir-sound, enumerate-ext-sound, enumerate-ext2-sound, enumerate-sound, flush-sound, get-file-dir-parms-sound, get-vol-parms-sound, open-dir-sound}
use Rattle.afp_serial.proofs.TreeRows.{create-dir-sound, create-file-sound, delete-sound, move-and-rename-sound, rename-sound, set-dir-parms-sound, set-file-dir-parms-sound, set-file-parms-sound, set-vol-parms-sound}
use Rattle.afp_serial.proofs.WriteRows.{set-fork-parms-sound, write-ext-sound, write-sound}
use Rattle.afp_serial.specs.Rows.{row}

pub row-sound : (call : Call) → IsSoundRow call (row call)
unfolding row
row-sound (AddAPPL dt dir creator tag path) = add-appl-sound dt dir creator tag path
row-sound (AddComment dt dir path comment) = add-comment-sound dt dir path comment
row-sound (AddIcon dt creator kind icon_kind tag size piece) = add-icon-sound dt creator kind icon_kind tag size piece
row-sound (ByteRangeLock flags reference offset length) = byte-range-lock-sound flags reference offset length
row-sound (ByteRangeLockExt flags reference offset length) = byte-range-lock-ext-sound flags reference offset length
row-sound (CloseDT dt) = close-dt-sound dt
row-sound (CloseDir volume dir) = close-dir-sound volume dir
row-sound (CloseFork reference) = close-fork-sound reference
row-sound (CloseVol volume) = close-vol-sound volume
row-sound (CopyFile volume dir target_volume target_dir path target_path new_path) = copy-file-sound volume dir target_volume target_dir path target_path new_path
row-sound (CreateDir volume dir path) = create-dir-sound volume dir path
row-sound (CreateFile flag volume dir path) = create-file-sound flag volume dir path
row-sound (CreateID volume dir path) = create-id-sound volume dir path
row-sound (Delete volume dir path) = delete-sound volume dir path
row-sound (DeleteID volume id) = delete-id-sound volume id
row-sound (DisconnectOldSession kind token) = disconnect-old-session-sound kind token
row-sound (Enumerate volume dir file_bits dir_bits count start size path) = enumerate-sound volume dir file_bits dir_bits count start size path
row-sound (EnumerateExt volume dir file_bits dir_bits count start size path) = enumerate-ext-sound volume dir file_bits dir_bits count start size path
row-sound (EnumerateExt2 volume dir file_bits dir_bits count start size path) = enumerate-ext2-sound volume dir file_bits dir_bits count start size path
row-sound (ExchangeFiles volume dir second_dir path second_path) = exchange-files-sound volume dir second_dir path second_path
row-sound (Flush volume) = flush-sound volume
row-sound (FlushFork reference) = flush-fork-sound reference
row-sound (GetAPPL dt creator index bits) = get-appl-sound dt creator index bits
row-sound (GetComment dt dir path) = get-comment-sound dt dir path
row-sound (GetFileDirParms volume dir file_bits dir_bits path) = get-file-dir-parms-sound volume dir file_bits dir_bits path
row-sound (GetForkParms reference bits) = get-fork-parms-sound reference bits
row-sound (GetIcon dt creator kind icon_kind length) = get-icon-sound dt creator kind icon_kind length
row-sound (GetIconInfo dt creator index) = get-icon-info-sound dt creator index
row-sound (GetSessionToken kind stamp id) = get-session-token-sound kind stamp id
row-sound GetSrvrInfo = get-srvr-info-sound
row-sound (GetSrvrMsg kind bits) = get-srvr-msg-sound kind bits
row-sound GetSrvrParms = get-srvr-parms-sound
row-sound (GetUserInfo flag id bits) = get-user-info-sound flag id bits
row-sound (GetVolParms volume bits) = get-vol-parms-sound volume bits
row-sound (Login version uam tail) = login-sound version uam tail
row-sound (LoginExt flags version uam name path_kind path tail) = login-ext-sound flags version uam name path_kind path tail
row-sound Logout = logout-sound
row-sound (MapID function id) = map-id-sound function id
row-sound (MapName function name) = map-name-sound function name
row-sound (MoveAndRename volume dir target_dir path target_path new_path) = move-and-rename-sound volume dir target_dir path target_path new_path
row-sound (OpenDT volume) = open-dt-sound volume
row-sound (OpenDir volume dir path) = open-dir-sound volume dir path
row-sound (OpenFork flag volume dir bits mode path) = open-fork-sound flag volume dir bits mode path
row-sound (OpenVol bits name) = open-vol-sound bits name
row-sound (Read reference offset count mask character) = read-sound reference offset count mask character
row-sound (ReadExt reference offset count) = read-ext-sound reference offset count
row-sound (RemoveAPPL dt dir creator path) = remove-appl-sound dt dir creator path
row-sound (RemoveComment dt dir path) = remove-comment-sound dt dir path
row-sound (Rename volume dir path new_path) = rename-sound volume dir path new_path
row-sound (ResolveID volume id bits) = resolve-id-sound volume id bits
row-sound (SetDirParms volume dir bits path tail) = set-dir-parms-sound volume dir bits path tail
row-sound (SetFileDirParms volume dir bits path tail) = set-file-dir-parms-sound volume dir bits path tail
row-sound (SetFileParms volume dir bits path tail) = set-file-parms-sound volume dir bits path tail
row-sound (SetForkParms reference bits tail) = set-fork-parms-sound reference bits tail
row-sound (SetVolParms volume bits tail) = set-vol-parms-sound volume bits tail
row-sound (Write flag reference offset count piece) = write-sound flag reference offset count piece
row-sound (WriteExt flag reference offset count piece) = write-ext-sound flag reference offset count piece
