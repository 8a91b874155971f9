-- Which bytes are which request (AFP Reference, "AFP Calls").
use Rattle.std.specs.Prelude.{ℕ, List, Option}
use Rattle.std.specs.List.{AllByRecursion}
use Rattle.afp_calls_grammar.specs.declared.grammar.call.Call.{Call}
use Rattle.afp_calls_grammar.specs.declared.grammar.call.Call.TheVariants.{ByteRangeLock, CloseVol, CloseDir, CloseFork, CopyFile, CreateDir, CreateFile, Delete, Enumerate, Flush, FlushFork, GetForkParms, GetSrvrInfo, GetSrvrParms, GetVolParms, Login, Logout, MapID, MapName, MoveAndRename, OpenVol, OpenDir, OpenFork, Read, Rename, SetDirParms, SetFileParms, SetForkParms, SetVolParms, Write, GetFileDirParms, SetFileDirParms, GetUserInfo, GetSrvrMsg, CreateID, DeleteID, ResolveID, ExchangeFiles, OpenDT, CloseDT, GetIcon, GetIconInfo, AddAPPL, RemoveAPPL, GetAPPL, AddComment, RemoveComment, GetComment, ByteRangeLockExt, ReadExt, WriteExt, LoginExt, GetSessionToken, DisconnectOldSession, EnumerateExt, EnumerateExt2, AddIcon}
use Rattle.afp_calls_grammar.specs.grammar.Words.{Layout, BeginsWith, IsTypedValue, CanSpell, IsEnclosed, CanEnclose, canonical_fields, canonical_enclosed, enclosed_bytes}
use Rattle.afp_calls_grammar.specs.grammar.Login.{login, login_ext, logout}
use Rattle.afp_calls_grammar.specs.grammar.Token.{get_session_token, disconnect_old_session}
use Rattle.afp_calls_grammar.specs.grammar.Server.{get_srvr_info, get_srvr_parms, get_srvr_msg}
use Rattle.afp_calls_grammar.specs.grammar.User.{get_user_info, map_id, map_name}
use Rattle.afp_calls_grammar.specs.grammar.Volume.{open_vol, close_vol, get_vol_parms, set_vol_parms, flush}
use Rattle.afp_calls_grammar.specs.grammar.Directory.{create_dir, open_dir, close_dir}
use Rattle.afp_calls_grammar.specs.grammar.Enumerate.{enumerate, enumerate_ext, enumerate_ext2}
use Rattle.afp_calls_grammar.specs.grammar.Parameters.{set_dir_parms, get_file_dir_parms, set_file_dir_parms}
use Rattle.afp_calls_grammar.specs.grammar.Place.{delete, rename, move_and_rename}
use Rattle.afp_calls_grammar.specs.grammar.File.{create_file, copy_file, set_file_parms, exchange_files}
use Rattle.afp_calls_grammar.specs.grammar.FileId.{create_id, delete_id, resolve_id}
use Rattle.afp_calls_grammar.specs.grammar.Fork.{open_fork, close_fork, flush_fork, get_fork_parms, set_fork_parms}
use Rattle.afp_calls_grammar.specs.grammar.ForkBytes.{read, read_ext, write, write_ext}
use Rattle.afp_calls_grammar.specs.grammar.Lock.{byte_range_lock, byte_range_lock_ext}
use Rattle.afp_calls_grammar.specs.grammar.Database.{open_dt, close_dt}
use Rattle.afp_calls_grammar.specs.grammar.Icon.{add_icon, get_icon, get_icon_info}
use Rattle.afp_calls_grammar.specs.grammar.Appl.{add_appl, remove_appl, get_appl}
use Rattle.afp_calls_grammar.specs.grammar.Comment.{add_comment, remove_comment, get_comment}

-- each request's fields, and what comes with them
abbrev pub layout_of : Call → Layout
layout_of (Login version uam rest) = login version uam rest
layout_of (LoginExt flags version uam name path_kind path rest) = login_ext flags version uam name path_kind path rest
layout_of Logout = logout
layout_of (GetSessionToken kind stamp id) = get_session_token kind stamp id
layout_of (DisconnectOldSession kind token) = disconnect_old_session kind token
layout_of GetSrvrInfo = get_srvr_info
layout_of GetSrvrParms = get_srvr_parms
layout_of (GetSrvrMsg kind bits) = get_srvr_msg kind bits
layout_of (GetUserInfo flag id bits) = get_user_info flag id bits
layout_of (MapID function id) = map_id function id
layout_of (MapName function name) = map_name function name
layout_of (OpenVol bits name) = open_vol bits name
layout_of (CloseVol volume) = close_vol volume
layout_of (GetVolParms volume bits) = get_vol_parms volume bits
layout_of (SetVolParms volume bits rest) = set_vol_parms volume bits rest
layout_of (Flush volume) = flush volume
layout_of (CreateDir volume dir path) = create_dir volume dir path
layout_of (OpenDir volume dir path) = open_dir volume dir path
layout_of (CloseDir volume dir) = close_dir volume dir
layout_of (Enumerate volume dir file_bits dir_bits count start size path) = enumerate volume dir file_bits dir_bits count start size path
layout_of (EnumerateExt volume dir file_bits dir_bits count start size path) = enumerate_ext volume dir file_bits dir_bits count start size path
layout_of (EnumerateExt2 volume dir file_bits dir_bits count start size path) = enumerate_ext2 volume dir file_bits dir_bits count start size path
layout_of (SetDirParms volume dir bits path rest) = set_dir_parms volume dir bits path rest
layout_of (GetFileDirParms volume dir file_bits dir_bits path) = get_file_dir_parms volume dir file_bits dir_bits path
layout_of (SetFileDirParms volume dir bits path rest) = set_file_dir_parms volume dir bits path rest
layout_of (Delete volume dir path) = delete volume dir path
layout_of (Rename volume dir path new_path) = rename volume dir path new_path
layout_of (MoveAndRename volume dir target_dir path target_path new_path) = move_and_rename volume dir target_dir path target_path new_path
layout_of (CreateFile flag volume dir path) = create_file flag volume dir path
layout_of (CopyFile volume dir target_volume target_dir path target_path new_path) = copy_file volume dir target_volume target_dir path target_path new_path
layout_of (SetFileParms volume dir bits path rest) = set_file_parms volume dir bits path rest
layout_of (ExchangeFiles volume dir second_dir path second_path) = exchange_files volume dir second_dir path second_path
layout_of (CreateID volume dir path) = create_id volume dir path
layout_of (DeleteID volume id) = delete_id volume id
layout_of (ResolveID volume id bits) = resolve_id volume id bits
layout_of (OpenFork flag volume dir bits mode path) = open_fork flag volume dir bits mode path
layout_of (CloseFork reference) = close_fork reference
layout_of (FlushFork reference) = flush_fork reference
layout_of (GetForkParms reference bits) = get_fork_parms reference bits
layout_of (SetForkParms reference bits rest) = set_fork_parms reference bits rest
layout_of (Read reference offset count mask character) = read reference offset count mask character
layout_of (ReadExt reference offset count) = read_ext reference offset count
layout_of (Write flag reference offset count piece) = write flag reference offset count piece
layout_of (WriteExt flag reference offset count piece) = write_ext flag reference offset count piece
layout_of (ByteRangeLock flags reference offset length) = byte_range_lock flags reference offset length
layout_of (ByteRangeLockExt flags reference offset length) = byte_range_lock_ext flags reference offset length
layout_of (OpenDT volume) = open_dt volume
layout_of (CloseDT dt) = close_dt dt
layout_of (AddIcon dt creator kind icon_kind tag size piece) = add_icon dt creator kind icon_kind tag size piece
layout_of (GetIcon dt creator kind icon_kind length) = get_icon dt creator kind icon_kind length
layout_of (GetIconInfo dt creator index) = get_icon_info dt creator index
layout_of (AddAPPL dt dir creator tag path) = add_appl dt dir creator tag path
layout_of (RemoveAPPL dt dir creator path) = remove_appl dt dir creator path
layout_of (GetAPPL dt creator index bits) = get_appl dt creator index bits
layout_of (AddComment dt dir path comment) = add_comment dt dir path comment
layout_of (RemoveComment dt dir path) = remove_comment dt dir path
layout_of (GetComment dt dir path) = get_comment dt dir path

-- The block and what a frame encloses spell the request: the block begins with its fields; a request without a piece comes in a Command frame, and one with a piece in a Write frame whose data begin with it. What stands behind fields and piece is free.
pub record Spells (call : Call) (block : List ℕ) (enclosed : Option (List ℕ)) : Type 0 where
  pub fields : BeginsWith 0 (layout_of call).fields block
  pub encloses : IsEnclosed (layout_of call).enclosed enclosed

-- each number is one of its field's type, and each path is a path; of bytes nothing is asked
abbrev pub IsTypedCall : Call → Type 0
IsTypedCall call = AllByRecursion (λ f. IsTypedValue f.word f.value) (layout_of call).fields

-- each text is short enough for its count, each number stands in its range, a piece has its size: of these requests a block and what comes with it can be written
pub record IsSpellable (call : Call) : Type 0 where
  pub fields : AllByRecursion (λ f. CanSpell f.word f.value) (layout_of call).fields
  pub encloses : CanEnclose (layout_of call).enclosed

-- the block that is written: pads and hints are 0, all pads are there, each path has its shortest bytes, nothing stands behind
unfoldable pub canonical_call : Call → List ℕ
canonical_call call = canonical_fields 0 (layout_of call).fields

-- what is written to come with it
unfoldable pub canonical_data : Call → Option (List ℕ)
canonical_data call = canonical_enclosed (layout_of call).enclosed

-- the same bytes, of which a Command frame has none
unfoldable pub canonical_piece : Call → List ℕ
canonical_piece call = enclosed_bytes (layout_of call).enclosed
