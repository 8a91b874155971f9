-- The groups of requests, as the AFP Reference has them.
use Rattle.afp_calls_grammar.specs.declared.grammar.call.Call.{Call}
use Rattle.afp_calls_grammar.specs.declared.grammar.call.Call.TheVariants.{ByteRangeLock, CloseVol, CloseDir, CloseFork, CopyFile, CreateDir, CreateFile, Delete, Enumerate, Flush, FlushFork, GetForkParms, GetSrvrInfo, GetSrvrParms, GetVolParms, Login, Logout, MapID, MapName, MoveAndRename, OpenVol, OpenDir, OpenFork, Read, Rename, SetDirParms, SetFileParms, SetForkParms, SetVolParms, Write, GetFileDirParms, SetFileDirParms, GetUserInfo, GetSrvrMsg, CreateID, DeleteID, ResolveID, ExchangeFiles, OpenDT, CloseDT, GetIcon, GetIconInfo, AddAPPL, RemoveAPPL, GetAPPL, AddComment, RemoveComment, GetComment, ByteRangeLockExt, ReadExt, WriteExt, LoginExt, GetSessionToken, DisconnectOldSession, EnumerateExt, EnumerateExt2, AddIcon}

pub data Group : Type 0 where
  Session : Group
  Volume : Group
  Directory : Group
  File : Group
  Fork : Group
  Desktop : Group

-- the group of a request
abbrev pub group_of : Call → Group
group_of (Login version uam rest) = Session
group_of (LoginExt flags version uam name path_kind path rest) = Session
group_of Logout = Session
group_of (GetSessionToken kind stamp id) = Session
group_of (DisconnectOldSession kind token) = Session
group_of GetSrvrInfo = Session
group_of GetSrvrParms = Session
group_of (GetSrvrMsg kind bits) = Session
group_of (GetUserInfo flag id bits) = Session
group_of (MapID function id) = Session
group_of (MapName function name) = Session
group_of (OpenVol bits name) = Volume
group_of (CloseVol volume) = Volume
group_of (GetVolParms volume bits) = Volume
group_of (SetVolParms volume bits rest) = Volume
group_of (Flush volume) = Volume
group_of (CreateDir volume dir path) = Directory
group_of (OpenDir volume dir path) = Directory
group_of (CloseDir volume dir) = Directory
group_of (Enumerate volume dir file_bits dir_bits count start size path) = Directory
group_of (EnumerateExt volume dir file_bits dir_bits count start size path) = Directory
group_of (EnumerateExt2 volume dir file_bits dir_bits count start size path) = Directory
group_of (SetDirParms volume dir bits path rest) = Directory
group_of (GetFileDirParms volume dir file_bits dir_bits path) = Directory
group_of (SetFileDirParms volume dir bits path rest) = Directory
group_of (Delete volume dir path) = Directory
group_of (Rename volume dir path new_path) = Directory
group_of (MoveAndRename volume dir target_dir path target_path new_path) = Directory
group_of (CreateFile flag volume dir path) = File
group_of (CopyFile volume dir target_volume target_dir path target_path new_path) = File
group_of (SetFileParms volume dir bits path rest) = File
group_of (ExchangeFiles volume dir second_dir path second_path) = File
group_of (CreateID volume dir path) = File
group_of (DeleteID volume id) = File
group_of (ResolveID volume id bits) = File
group_of (OpenFork flag volume dir bits mode path) = Fork
group_of (CloseFork reference) = Fork
group_of (FlushFork reference) = Fork
group_of (GetForkParms reference bits) = Fork
group_of (SetForkParms reference bits rest) = Fork
group_of (Read reference offset count mask character) = Fork
group_of (ReadExt reference offset count) = Fork
group_of (Write flag reference offset count piece) = Fork
group_of (WriteExt flag reference offset count piece) = Fork
group_of (ByteRangeLock flags reference offset length) = Fork
group_of (ByteRangeLockExt flags reference offset length) = Fork
group_of (OpenDT volume) = Desktop
group_of (CloseDT dt) = Desktop
group_of (AddIcon dt creator kind icon_kind tag size piece) = Desktop
group_of (GetIcon dt creator kind icon_kind length) = Desktop
group_of (GetIconInfo dt creator index) = Desktop
group_of (AddAPPL dt dir creator tag path) = Desktop
group_of (RemoveAPPL dt dir creator path) = Desktop
group_of (GetAPPL dt creator index bits) = Desktop
group_of (AddComment dt dir path comment) = Desktop
group_of (RemoveComment dt dir path) = Desktop
group_of (GetComment dt dir path) = Desktop
