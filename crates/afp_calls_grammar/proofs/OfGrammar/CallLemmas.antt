-- Each request, by name.
use Rattle.std.proofs.Common.{◌≡◌, ℕ, true, List, ◌++◌, length, Option, Some, refl}
use Rattle.std.specs.List.{AllByRecursion}
use Rattle.afp_calls_grammar.specs.declared.grammar.call.Call.{Call}
use Rattle.afp_calls_grammar.specs.declared.grammar.call.Call.TheVariants.{ByteRangeLock, CloseVol, CloseDir, CloseFork, CopyFile, CreateDir, CreateFile, Delete, Enumerate, Flush, FlushFork, GetForkParms, GetSrvrInfo, GetSrvrParms, GetVolParms, Login, Logout, MapID, MapName, MoveAndRename, OpenVol, OpenDir, OpenFork, Read, Rename, SetDirParms, SetFileParms, SetForkParms, SetVolParms, Write, GetFileDirParms, SetFileDirParms, GetUserInfo, GetSrvrMsg, CreateID, DeleteID, ResolveID, ExchangeFiles, OpenDT, CloseDT, GetIcon, GetIconInfo, AddAPPL, RemoveAPPL, GetAPPL, AddComment, RemoveComment, GetComment, ByteRangeLockExt, ReadExt, WriteExt, LoginExt, GetSessionToken, DisconnectOldSession, EnumerateExt, EnumerateExt2, AddIcon}
use Rattle.afp_calls_grammar.specs.grammar.Call.{Spells, layout_of, IsTypedCall, IsSpellable, canonical_call, canonical_data}
use Rattle.afp_calls_grammar.specs.grammar.Readers.{session_readers}
use Rattle.afp_calls_grammar.specs.grammar.Login.{login_reader, login_ext_reader, logout_reader}
use Rattle.afp_calls_grammar.specs.grammar.Token.{get_session_token_reader, disconnect_old_session_reader}
use Rattle.afp_calls_grammar.specs.grammar.Server.{get_srvr_info_reader, get_srvr_parms_reader, get_srvr_msg_reader}
use Rattle.afp_calls_grammar.specs.grammar.User.{get_user_info_reader, map_id_reader, map_name_reader}
use Rattle.afp_calls_grammar.specs.grammar.Readers.{volume_readers}
use Rattle.afp_calls_grammar.specs.grammar.Volume.{open_vol_reader, close_vol_reader, get_vol_parms_reader, set_vol_parms_reader, flush_reader}
use Rattle.afp_calls_grammar.specs.grammar.Readers.{directory_readers}
use Rattle.afp_calls_grammar.specs.grammar.Directory.{create_dir_reader, open_dir_reader, close_dir_reader}
use Rattle.afp_calls_grammar.specs.grammar.Enumerate.{enumerate_reader, enumerate_ext_reader, enumerate_ext2_reader}
use Rattle.afp_calls_grammar.specs.grammar.Parameters.{set_dir_parms_reader, get_file_dir_parms_reader, set_file_dir_parms_reader}
use Rattle.afp_calls_grammar.specs.grammar.Place.{delete_reader, rename_reader, move_and_rename_reader}
use Rattle.afp_calls_grammar.specs.grammar.Readers.{file_readers}
use Rattle.afp_calls_grammar.specs.grammar.File.{create_file_reader, copy_file_reader, set_file_parms_reader, exchange_files_reader}
use Rattle.afp_calls_grammar.specs.grammar.FileId.{create_id_reader, delete_id_reader, resolve_id_reader}
use Rattle.afp_calls_grammar.specs.grammar.Readers.{fork_readers}
use Rattle.afp_calls_grammar.specs.grammar.Fork.{open_fork_reader, close_fork_reader, flush_fork_reader, get_fork_parms_reader, set_fork_parms_reader}
use Rattle.afp_calls_grammar.specs.grammar.ForkBytes.{read_reader, read_ext_reader, write_reader, write_ext_reader}
use Rattle.afp_calls_grammar.specs.grammar.Lock.{byte_range_lock_reader, byte_range_lock_ext_reader}
use Rattle.afp_calls_grammar.specs.grammar.Readers.{desktop_readers}
use Rattle.afp_calls_grammar.specs.grammar.Database.{open_dt_reader, close_dt_reader}
use Rattle.afp_calls_grammar.specs.grammar.Icon.{add_icon_reader, get_icon_reader, get_icon_info_reader}
use Rattle.afp_calls_grammar.specs.grammar.Appl.{add_appl_reader, remove_appl_reader, get_appl_reader}
use Rattle.afp_calls_grammar.specs.grammar.Comment.{add_comment_reader, remove_comment_reader, get_comment_reader}
use Rattle.afp_calls_grammar.specs.grammar.Spelt.{readers, spelt_call}
use Rattle.afp_calls_grammar.proofs.OfGrammar.ReaderLemmas.{ReaderIsSound, both_sound, reader_read, tail_last, canonical_begins, canonical_encloses}
use Rattle.afp_calls_grammar.proofs.OfGrammar.SessionSound.{session_sound}
use Rattle.afp_calls_grammar.proofs.OfGrammar.VolumeSound.{volume_sound}
use Rattle.afp_calls_grammar.proofs.OfGrammar.DirectorySound.{directory_sound}
use Rattle.afp_calls_grammar.proofs.OfGrammar.FileSound.{file_sound}
use Rattle.afp_calls_grammar.proofs.OfGrammar.ForkSound.{fork_sound}
use Rattle.afp_calls_grammar.proofs.OfGrammar.DesktopSound.{desktop_sound}

-- each reader makes the requests whose fields it has
pub readers_sound : AllByRecursion ReaderIsSound readers
readers_sound = both_sound session_readers (volume_readers ++ (directory_readers ++ (file_readers ++ (fork_readers ++ (desktop_readers))))) session_sound (both_sound volume_readers (directory_readers ++ (file_readers ++ (fork_readers ++ (desktop_readers)))) volume_sound (both_sound directory_readers (file_readers ++ (fork_readers ++ (desktop_readers))) directory_sound (both_sound file_readers (fork_readers ++ (desktop_readers)) file_sound (both_sound fork_readers (desktop_readers) fork_sound (desktop_sound)))))

-- each request is read by its reader
pub request_read : (c : Call) (block : List ℕ) (enclosed : Option (List ℕ)) → Spells c block enclosed → spelt_call block enclosed ≡ Some c
request_read (Login version uam rest) block enclosed h = reader_read login_reader (version, (uam, (rest, tt))) block enclosed (λ bytes. refl) h.fields h.encloses
request_read (LoginExt flags version uam name path_kind path rest) block enclosed h = reader_read login_ext_reader (tt, (flags, (version, (uam, (tt, (name, (path_kind, (path, (tt, (rest, tt)))))))))) block enclosed (λ bytes. refl) h.fields h.encloses
request_read Logout block enclosed h = reader_read logout_reader (tt, tt) block enclosed (λ bytes. refl) h.fields h.encloses
request_read (GetSessionToken kind stamp id) block enclosed h = reader_read get_session_token_reader (tt, (kind, (length id, (stamp, (id, tt))))) block enclosed (λ bytes. refl) h.fields h.encloses
request_read (DisconnectOldSession kind token) block enclosed h = reader_read disconnect_old_session_reader (tt, (kind, (token, tt))) block enclosed (λ bytes. refl) h.fields h.encloses
request_read GetSrvrInfo block enclosed h = reader_read get_srvr_info_reader (tt, tt) block enclosed (λ bytes. refl) h.fields h.encloses
request_read GetSrvrParms block enclosed h = reader_read get_srvr_parms_reader (tt, tt) block enclosed (λ bytes. refl) h.fields h.encloses
request_read (GetSrvrMsg kind bits) block enclosed h = reader_read get_srvr_msg_reader (tt, (kind, (bits, tt))) block enclosed (λ bytes. refl) h.fields h.encloses
request_read (GetUserInfo flag id bits) block enclosed h = reader_read get_user_info_reader (flag, (id, (bits, tt))) block enclosed (λ bytes. refl) h.fields h.encloses
request_read (MapID function id) block enclosed h = reader_read map_id_reader (function, (id, tt)) block enclosed (λ bytes. refl) h.fields h.encloses
request_read (MapName function name) block enclosed h = reader_read map_name_reader (function, (name, tt)) block enclosed (λ bytes. refl) h.fields h.encloses
request_read (OpenVol bits name) block enclosed h = reader_read open_vol_reader (tt, (bits, (name, tt))) block enclosed (λ bytes. refl) h.fields h.encloses
request_read (CloseVol volume) block enclosed h = reader_read close_vol_reader (tt, (volume.0, tt)) block enclosed (λ bytes. refl) h.fields h.encloses
request_read (GetVolParms volume bits) block enclosed h = reader_read get_vol_parms_reader (tt, (volume.0, (bits, tt))) block enclosed (λ bytes. refl) h.fields h.encloses
request_read (SetVolParms volume bits rest) block enclosed h = reader_read set_vol_parms_reader (tt, (volume.0, (bits, (rest, tt)))) block enclosed (λ bytes. refl) h.fields h.encloses
request_read (Flush volume) block enclosed h = reader_read flush_reader (tt, (volume.0, tt)) block enclosed (λ bytes. refl) h.fields h.encloses
request_read (CreateDir volume dir path) block enclosed h = reader_read create_dir_reader (tt, (volume.0, (dir.0, (path, tt)))) block enclosed (λ bytes. refl) h.fields h.encloses
request_read (OpenDir volume dir path) block enclosed h = reader_read open_dir_reader (tt, (volume.0, (dir.0, (path, tt)))) block enclosed (λ bytes. refl) h.fields h.encloses
request_read (CloseDir volume dir) block enclosed h = reader_read close_dir_reader (tt, (volume.0, (dir.0, tt))) block enclosed (λ bytes. refl) h.fields h.encloses
request_read (Enumerate volume dir file_bits dir_bits count start size path) block enclosed h = reader_read enumerate_reader (tt, (volume.0, (dir.0, (file_bits, (dir_bits, (count, (start, (size, (path, tt))))))))) block enclosed (λ bytes. refl) h.fields h.encloses
request_read (EnumerateExt volume dir file_bits dir_bits count start size path) block enclosed h = reader_read enumerate_ext_reader (tt, (volume.0, (dir.0, (file_bits, (dir_bits, (count, (start, (size, (path, tt))))))))) block enclosed (λ bytes. refl) h.fields h.encloses
request_read (EnumerateExt2 volume dir file_bits dir_bits count start size path) block enclosed h = reader_read enumerate_ext2_reader (tt, (volume.0, (dir.0, (file_bits, (dir_bits, (count, (start, (size, (path, tt))))))))) block enclosed (λ bytes. refl) h.fields h.encloses
request_read (SetDirParms volume dir bits path rest) block enclosed h = reader_read set_dir_parms_reader (tt, (volume.0, (dir.0, (bits, (path, (tt, (rest, tt))))))) block enclosed (λ bytes. refl) h.fields h.encloses
request_read (GetFileDirParms volume dir file_bits dir_bits path) block enclosed h = reader_read get_file_dir_parms_reader (tt, (volume.0, (dir.0, (file_bits, (dir_bits, (path, tt)))))) block enclosed (λ bytes. refl) h.fields h.encloses
request_read (SetFileDirParms volume dir bits path rest) block enclosed h = reader_read set_file_dir_parms_reader (tt, (volume.0, (dir.0, (bits, (path, (tt, (rest, tt))))))) block enclosed (λ bytes. refl) h.fields h.encloses
request_read (Delete volume dir path) block enclosed h = reader_read delete_reader (tt, (volume.0, (dir.0, (path, tt)))) block enclosed (λ bytes. refl) h.fields h.encloses
request_read (Rename volume dir path new_path) block enclosed h = reader_read rename_reader (tt, (volume.0, (dir.0, (path, (new_path, tt))))) block enclosed (λ bytes. refl) h.fields h.encloses
request_read (MoveAndRename volume dir target_dir path target_path new_path) block enclosed h = reader_read move_and_rename_reader (tt, (volume.0, (dir.0, (target_dir.0, (path, (target_path, (new_path, tt))))))) block enclosed (λ bytes. refl) h.fields h.encloses
request_read (CreateFile flag volume dir path) block enclosed h = reader_read create_file_reader (flag, (volume.0, (dir.0, (path, tt)))) block enclosed (λ bytes. refl) h.fields h.encloses
request_read (CopyFile volume dir target_volume target_dir path target_path new_path) block enclosed h = reader_read copy_file_reader (tt, (volume.0, (dir.0, (target_volume.0, (target_dir.0, (path, (target_path, (new_path, tt)))))))) block enclosed (λ bytes. refl) h.fields h.encloses
request_read (SetFileParms volume dir bits path rest) block enclosed h = reader_read set_file_parms_reader (tt, (volume.0, (dir.0, (bits, (path, (tt, (rest, tt))))))) block enclosed (λ bytes. refl) h.fields h.encloses
request_read (ExchangeFiles volume dir second_dir path second_path) block enclosed h = reader_read exchange_files_reader (tt, (volume.0, (dir.0, (second_dir.0, (path, (second_path, tt)))))) block enclosed (λ bytes. refl) h.fields h.encloses
request_read (CreateID volume dir path) block enclosed h = reader_read create_id_reader (tt, (volume.0, (dir.0, (path, tt)))) block enclosed (λ bytes. refl) h.fields h.encloses
request_read (DeleteID volume id) block enclosed h = reader_read delete_id_reader (tt, (volume.0, (id.0, tt))) block enclosed (λ bytes. refl) h.fields h.encloses
request_read (ResolveID volume id bits) block enclosed h = reader_read resolve_id_reader (tt, (volume.0, (id.0, (bits, tt)))) block enclosed (λ bytes. refl) h.fields h.encloses
request_read (OpenFork flag volume dir bits mode path) block enclosed h = reader_read open_fork_reader (flag, (volume.0, (dir.0, (bits, (mode, (path, tt)))))) block enclosed (λ bytes. refl) h.fields h.encloses
request_read (CloseFork reference) block enclosed h = reader_read close_fork_reader (tt, (reference.0, tt)) block enclosed (λ bytes. refl) h.fields h.encloses
request_read (FlushFork reference) block enclosed h = reader_read flush_fork_reader (tt, (reference.0, tt)) block enclosed (λ bytes. refl) h.fields h.encloses
request_read (GetForkParms reference bits) block enclosed h = reader_read get_fork_parms_reader (tt, (reference.0, (bits, tt))) block enclosed (λ bytes. refl) h.fields h.encloses
request_read (SetForkParms reference bits rest) block enclosed h = reader_read set_fork_parms_reader (tt, (reference.0, (bits, (rest, tt)))) block enclosed (λ bytes. refl) h.fields h.encloses
request_read (Read reference offset count mask character) block enclosed h = reader_read read_reader (tt, (reference.0, (offset, (count, (mask, (character, tt)))))) block enclosed (λ bytes. refl) h.fields h.encloses
request_read (ReadExt reference offset count) block enclosed h = reader_read read_ext_reader (tt, (reference.0, (offset, (count, tt)))) block enclosed (λ bytes. refl) h.fields h.encloses
request_read (Write flag reference offset count piece) block enclosed h = reader_read write_reader (flag, (reference.0, (offset, (count, piece)))) block enclosed (λ bytes. refl) h.fields h.encloses
request_read (WriteExt flag reference offset count piece) block enclosed h = reader_read write_ext_reader (flag, (reference.0, (offset, (count, piece)))) block enclosed (λ bytes. refl) h.fields h.encloses
request_read (ByteRangeLock flags reference offset length) block enclosed h = reader_read byte_range_lock_reader (flags, (reference.0, (offset, (length, tt)))) block enclosed (λ bytes. refl) h.fields h.encloses
request_read (ByteRangeLockExt flags reference offset length) block enclosed h = reader_read byte_range_lock_ext_reader (flags, (reference.0, (offset, (length, tt)))) block enclosed (λ bytes. refl) h.fields h.encloses
request_read (OpenDT volume) block enclosed h = reader_read open_dt_reader (tt, (volume.0, tt)) block enclosed (λ bytes. refl) h.fields h.encloses
request_read (CloseDT dt) block enclosed h = reader_read close_dt_reader (tt, (dt, tt)) block enclosed (λ bytes. refl) h.fields h.encloses
request_read (AddIcon dt creator kind icon_kind tag size piece) block enclosed h = reader_read add_icon_reader (tt, (dt, (creator, (kind, (icon_kind, (tt, (tag, (size, piece)))))))) block enclosed (λ bytes. refl) h.fields h.encloses
request_read (GetIcon dt creator kind icon_kind length) block enclosed h = reader_read get_icon_reader (tt, (dt, (creator, (kind, (icon_kind, (tt, (length, tt))))))) block enclosed (λ bytes. refl) h.fields h.encloses
request_read (GetIconInfo dt creator index) block enclosed h = reader_read get_icon_info_reader (tt, (dt, (creator, (index, tt)))) block enclosed (λ bytes. refl) h.fields h.encloses
request_read (AddAPPL dt dir creator tag path) block enclosed h = reader_read add_appl_reader (tt, (dt, (dir.0, (creator, (tag, (path, tt)))))) block enclosed (λ bytes. refl) h.fields h.encloses
request_read (RemoveAPPL dt dir creator path) block enclosed h = reader_read remove_appl_reader (tt, (dt, (dir.0, (creator, (path, tt))))) block enclosed (λ bytes. refl) h.fields h.encloses
request_read (GetAPPL dt creator index bits) block enclosed h = reader_read get_appl_reader (tt, (dt, (creator, (index, (bits, tt))))) block enclosed (λ bytes. refl) h.fields h.encloses
request_read (AddComment dt dir path comment) block enclosed h = reader_read add_comment_reader (tt, (dt, (dir.0, (path, (tt, (comment, tt)))))) block enclosed (λ bytes. refl) h.fields h.encloses
request_read (RemoveComment dt dir path) block enclosed h = reader_read remove_comment_reader (tt, (dt, (dir.0, (path, tt)))) block enclosed (λ bytes. refl) h.fields h.encloses
request_read (GetComment dt dir path) block enclosed h = reader_read get_comment_reader (tt, (dt, (dir.0, (path, tt)))) block enclosed (λ bytes. refl) h.fields h.encloses

-- a tail is the last field
pub tails_last : (c : Call) → tail_last (layout_of c).fields ≡ true
tails_last (Login version uam rest) = refl
tails_last (LoginExt flags version uam name path_kind path rest) = refl
tails_last Logout = refl
tails_last (GetSessionToken kind stamp id) = refl
tails_last (DisconnectOldSession kind token) = refl
tails_last GetSrvrInfo = refl
tails_last GetSrvrParms = refl
tails_last (GetSrvrMsg kind bits) = refl
tails_last (GetUserInfo flag id bits) = refl
tails_last (MapID function id) = refl
tails_last (MapName function name) = refl
tails_last (OpenVol bits name) = refl
tails_last (CloseVol volume) = refl
tails_last (GetVolParms volume bits) = refl
tails_last (SetVolParms volume bits rest) = refl
tails_last (Flush volume) = refl
tails_last (CreateDir volume dir path) = refl
tails_last (OpenDir volume dir path) = refl
tails_last (CloseDir volume dir) = refl
tails_last (Enumerate volume dir file_bits dir_bits count start size path) = refl
tails_last (EnumerateExt volume dir file_bits dir_bits count start size path) = refl
tails_last (EnumerateExt2 volume dir file_bits dir_bits count start size path) = refl
tails_last (SetDirParms volume dir bits path rest) = refl
tails_last (GetFileDirParms volume dir file_bits dir_bits path) = refl
tails_last (SetFileDirParms volume dir bits path rest) = refl
tails_last (Delete volume dir path) = refl
tails_last (Rename volume dir path new_path) = refl
tails_last (MoveAndRename volume dir target_dir path target_path new_path) = refl
tails_last (CreateFile flag volume dir path) = refl
tails_last (CopyFile volume dir target_volume target_dir path target_path new_path) = refl
tails_last (SetFileParms volume dir bits path rest) = refl
tails_last (ExchangeFiles volume dir second_dir path second_path) = refl
tails_last (CreateID volume dir path) = refl
tails_last (DeleteID volume id) = refl
tails_last (ResolveID volume id bits) = refl
tails_last (OpenFork flag volume dir bits mode path) = refl
tails_last (CloseFork reference) = refl
tails_last (FlushFork reference) = refl
tails_last (GetForkParms reference bits) = refl
tails_last (SetForkParms reference bits rest) = refl
tails_last (Read reference offset count mask character) = refl
tails_last (ReadExt reference offset count) = refl
tails_last (Write flag reference offset count piece) = refl
tails_last (WriteExt flag reference offset count piece) = refl
tails_last (ByteRangeLock flags reference offset length) = refl
tails_last (ByteRangeLockExt flags reference offset length) = refl
tails_last (OpenDT volume) = refl
tails_last (CloseDT dt) = refl
tails_last (AddIcon dt creator kind icon_kind tag size piece) = refl
tails_last (GetIcon dt creator kind icon_kind length) = refl
tails_last (GetIconInfo dt creator index) = refl
tails_last (AddAPPL dt dir creator tag path) = refl
tails_last (RemoveAPPL dt dir creator path) = refl
tails_last (GetAPPL dt creator index bits) = refl
tails_last (AddComment dt dir path comment) = refl
tails_last (RemoveComment dt dir path) = refl
tails_last (GetComment dt dir path) = refl

pub canonical_is_spelt : (c : Call) → IsTypedCall c → IsSpellable c → Spells c (canonical_call c) (canonical_data c)
unfolding canonical_call canonical_data
canonical_is_spelt c typed fits = record { fields = canonical_begins (layout_of c).fields 0 typed fits.fields (tails_last c); encloses = canonical_encloses (layout_of c).enclosed fits.encloses }

pub spells_one : (block : List ℕ) (enclosed : Option (List ℕ)) (c d : Call) → Spells c block enclosed → Spells d block enclosed → c ≡ d
spells_one block enclosed c d h k =
    let one = request_read c block enclosed h in
    let other = request_read d block enclosed k in
    cc
