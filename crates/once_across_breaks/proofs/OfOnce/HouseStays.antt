-- No entry changes what the server is set up with, and link numbers stay in their range.
use Rattle.std.proofs.Common.{◌≡◌, ◌==◌, ◌∙◌, refl, sym, subst, ℕ, ◌+◌, ◌≤◌, arith, Bool, true, false, not, List, Option, Some, None, pos}
use Rattle.std.proofs.lemmas.Bool.{leb-false}
use Rattle.std.specs.Prelude.{nat_le, ◌||◌, length}
use Rattle.afp_base.specs.ForkBytes.{resized}
use Rattle.afp_base.specs.Overlap.{Range}
use Rattle.afp_base.specs.declared.code.Code.{Code}
use Rattle.afp_replies.specs.declared.reply.Reply.{Reply}
use Rattle.afp_replies.specs.declared.reply.Reply.TheVariants.{Empty, End, EndExt, Node, Start, StartExt}
use Rattle.afp_calls_grammar.specs.declared.grammar.call.Call.{Call}
use Rattle.afp_calls_grammar.specs.declared.grammar.call.Call.TheVariants as calls
use Rattle.afp_serial.proofs.Keeps.{AnyCall, Keeps, after-keeps, nothing-known}
use Rattle.afp_serial.proofs.OnVolumeRows.{done-keeps}
use Rattle.afp_serial.proofs.OpenVolRow.{opens-keeps}
use Rattle.afp_serial.proofs.RowsSound.{row-sound}
use Rattle.afp_serial.proofs.VolumeRows.{edits-keep}
use Rattle.afp_serial.specs.declared.ask.Entry.{Entry}
use Rattle.afp_serial.specs.Answer.{after, is_full}
use Rattle.afp_serial.specs.Household.{Household}
use Rattle.afp_serial.specs.Limits.{links_end, most_sessions}
use Rattle.afp_serial.specs.Appls.{get_appl_row}
use Rattle.afp_serial.specs.CloseVol.{close_vol_row}
use Rattle.afp_serial.specs.Comments.{get_comment_row}
use Rattle.afp_serial.specs.CopyFile.{CopyAsked, copies, copy_edits, source_of}
use Rattle.afp_serial.specs.CreateDir.{node_id}
use Rattle.afp_serial.specs.Fork.{OpenAsked, access_of, close_fork_row, file_asked, flush_fork_row, get_fork_parms_reply, get_fork_parms_row, is_other_length, length_for, open_fork_row, opens_fork, set_fork_parms_row}
use Rattle.afp_serial.specs.ForkBytes.{ReadAsked, WriteAsked, is_from_end, read_ext_row, read_reply, read_row, write_end, writes, writes_some, written_bytes}
use Rattle.afp_serial.specs.Enumerate.{enumerate_ext2_row, enumerate_ext_row, enumerate_row}
use Rattle.afp_serial.specs.FileIds.{resolve_id_row}
use Rattle.afp_serial.specs.Flush.{flush_row}
use Rattle.afp_serial.specs.GetFileDirParms.{get_file_dir_parms_row}
use Rattle.afp_serial.specs.GetVolParms.{get_vol_parms_row}
use Rattle.afp_serial.specs.Login.{login_ext_row, login_row}
use Rattle.afp_serial.specs.Logout.{logout_row}
use Rattle.afp_serial.specs.Icons.{get_icon_info_row, get_icon_row}
use Rattle.afp_serial.specs.OpenDT.{close_dt_row, open_dt_row}
use Rattle.afp_serial.specs.OpenDir.{close_dir_row, open_dir_reply, open_dir_row}
use Rattle.afp_serial.specs.Lock.{LockAsked, byte_range_lock_ext_row, byte_range_lock_row, lock_asked, locks_range, range_asked}
use Rattle.afp_serial.specs.OnFork.{OpenFile, bytes_of, done_with, open_file, with_bytes}
use Rattle.afp_serial.specs.OnVolume.{changes_tree, tells_of, with_volume_state}
use Rattle.afp_serial.specs.OpenVol.{open_vol_row, state_named, volume_named}
use Rattle.afp_serial.specs.Rows.{effect, row}
use Rattle.afp_serial.specs.SessionToken.{old_session_in, rejoins}
use Rattle.afp_serial.specs.VolumeRows.{changes_volume, with_edits}
use Rattle.afp_serial.specs.World.{CallRow, Effect, closing, user_of, volume_at, with_empty_reply, World, Session, OpenFork}
use Rattle.volume_spec.specs.CreateDir.{create_dir_id}
use Rattle.volume_spec.specs.CreateFile.{is_hard}
use Rattle.volume_spec.specs.OpenFork.{is_resource}
use Rattle.volume_spec.specs.TreeSteps as trees
use Rattle.volume_spec.specs.TreeSteps.{TreeCall, tree_effect}
use Rattle.volume_spec.specs.Desktop.{icon_of}
use Rattle.volume_spec.specs.FileIds.{created_id}
use Rattle.volume_spec.specs.VolumeCalls as volumes
use Rattle.volume_spec.specs.VolumeCalls.{VolumeCall, call_edits}
use Rattle.volume_spec.specs.VolumeState.{Row as File, VolumeState}

-- rows

record RowHouse (row : CallRow) : Type 0 where
  keeps : (w : World) (s : Session) → (row.effect w s).world.house ≡ w.house

keeps-house : (row : CallRow) → ((w : World) (s : Session) → (row.effect w s).world.house ≡ w.house) → RowHouse row
keeps-house row same = record { keeps = same }

tells : (volume : ℕ) (refuses : World → Session → VolumeState → Option Code) (reply : World → Session → VolumeState → Reply) → RowHouse (tells_of volume refuses reply)
tells volume refuses reply =
    keeps-house (tells_of volume refuses reply) (λ w s. done-keeps (λ x. x.house ≡ w.house) (volume_at w.volumes volume) w (λ v. record { world = w; reply = reply w s v }) refl (λ v. refl))

tree : (volume : ℕ) (call : TreeCall) (reply : VolumeState → Reply) (w : World) (s : Session) → ((changes_tree volume call reply).effect w s).world.house ≡ w.house
tree volume call reply w s = done-keeps (λ x. x.house ≡ w.house) (volume_at w.volumes volume) w (λ v. record { world = with_volume_state w volume (tree_effect v (user_of s) w.latest call); reply = reply v }) refl (λ v. refl)

edits : (volume : ℕ) (change : VolumeCall) (reply : ℕ → VolumeState → Reply) (w : World) (s : Session) → ((changes_volume volume change reply).effect w s).world.house ≡ w.house
edits volume change reply w s =
    done-keeps (λ x. x.house ≡ w.house) (volume_at w.volumes volume) w (λ v. record { world = with_edits w volume v (call_edits v (user_of s) w.latest change); reply = reply (user_of s) v }) refl
    (λ v. edits-keep (λ x. x.house ≡ w.house) w volume v (call_edits v (user_of s) w.latest change) refl (λ new. refl))

copy : (asked : CopyAsked) (w : World) (s : Session) → ((copies asked).effect w s).world.house ≡ w.house
copy asked w s =
    done-keeps (λ x. x.house ≡ w.house) (volume_at w.volumes asked.target) w (λ v. with_empty_reply (with_edits w asked.target v (copy_edits w (user_of s) asked (source_of w (user_of s) asked) v))) refl
    (λ v. edits-keep (λ x. x.house ≡ w.house) w asked.target v (copy_edits w (user_of s) asked (source_of w (user_of s) asked) v) refl (λ new. refl))

done-house : (w : World) (q : Option OpenFile) (does : OpenFile → Effect) → ((f : OpenFile) → (does f).world.house ≡ w.house) → (done_with q w does).world.house ≡ w.house
done-house w None does same = refl
done-house w (Some f) does same = same f

bytes-house : (w : World) (f : OpenFile) (some : Bool) (bytes : List ℕ) → (with_bytes w f some bytes).house ≡ w.house
bytes-house w f true bytes = refl
bytes-house w f false bytes = refl

write : (reference : ℕ) (asked : WriteAsked) (reply : ℕ → Reply) (w : World) (s : Session) → ((writes reference asked reply).effect w s).world.house ≡ w.house
write reference asked reply w s =
    done-house w (open_file w s reference) (λ f. record { world = with_bytes w f (writes_some asked) (written_bytes f asked); reply = reply (write_end f asked) }) (λ f. bytes-house w f (writes_some asked) (written_bytes f asked))

set-length : (reference bits : ℕ) (rest : List ℕ) (w : World) (s : Session) → ((set_fork_parms_row reference bits rest).effect w s).world.house ≡ w.house
set-length reference bits rest w s =
    done-house w (open_file w s reference) (λ f. with_empty_reply (with_bytes w f (is_other_length bits rest f) (resized (bytes_of f) (length_for bits rest f)))) (λ f. bytes-house w f (is_other_length bits rest f) (resized (bytes_of f) (length_for bits rest f)))

opened-house : (w : World) (s : Session) (asked : OpenAsked) (q : Option File) → (opens_fork w s asked q).world.house ≡ w.house
opened-house w s asked None = refl
opened-house w s asked (Some file) = refl

locked-house : (w : World) (unlocks : Bool) (o : OpenFork) (reply : ℕ → Reply) (q : Option Range) → (locks_range unlocks w o reply q).world.house ≡ w.house
locked-house w unlocks o reply None = refl
locked-house w true o reply (Some range) = refl
locked-house w false o reply (Some range) = refl

all-locks : (reference : ℕ) (asked : LockAsked) (reply : ℕ → Reply) (w : World) (s : Session) → (done_with (open_file w s reference) w (λ f. locks_range asked.unlocks w f.fork reply (range_asked f asked))).world.house ≡ w.house
all-locks reference asked reply w s = done-house w (open_file w s reference) _ (λ f. locked-house w asked.unlocks f.fork reply (range_asked f asked))

all-reads : (reference : ℕ) (asked : ReadAsked) (w : World) (s : Session) → (done_with (open_file w s reference) w (λ f. record { world = w; reply = read_reply asked f })).world.house ≡ w.house
all-reads reference asked w s = done-house w (open_file w s reference) _ (λ f. refl)

rejoins-house : (w : World) (s : Session) (old : Option Session) → (rejoins w s old).world.house ≡ w.house
rejoins-house w s None = refl
rejoins-house w s (Some o) = refl

call-house : (w : World) (s : Session) (call : Call) → (effect w s call).world.house ≡ w.house
unfolding row
call-house w s (calls.ByteRangeLock flags reference offset length) = let r : RowHouse (byte_range_lock_row flags reference.0 offset length) = keeps-house (byte_range_lock_row flags reference.0 offset length) (λ w s. (all-locks reference.0 (lock_asked flags offset length) (λ start. Start start) w s)) in r.keeps w s
call-house w s (calls.ByteRangeLockExt flags reference offset length) = let r : RowHouse (byte_range_lock_ext_row flags reference.0 offset length) = keeps-house (byte_range_lock_ext_row flags reference.0 offset length) (λ w s. (all-locks reference.0 (lock_asked flags offset length) (λ start. StartExt start) w s)) in r.keeps w s
call-house w s (calls.CloseDir volume dir) = let r : RowHouse (close_dir_row volume.0) = keeps-house (close_dir_row volume.0) (λ w s. refl) in r.keeps w s
call-house w s (calls.CloseFork reference) = let r : RowHouse (close_fork_row reference.0) = keeps-house (close_fork_row reference.0) (λ w s. (done-house w (open_file w s reference.0) (λ f. with_empty_reply (closing w (λ o. not (o.reference == reference.0)))) (λ f. refl))) in r.keeps w s
call-house w s (calls.CloseVol volume) = let r : RowHouse (close_vol_row volume.0) = keeps-house (close_vol_row volume.0) (λ w s. refl) in r.keeps w s
call-house w s (calls.CreateDir volume dir path) = tree volume.0 (trees.CreateDir dir.0 path) (λ v. Node (node_id (create_dir_id v))) w s
call-house w s (calls.CreateFile flag volume dir path) = tree volume.0 (trees.CreateFile (is_hard flag) dir.0 path) (λ v. Empty) w s
call-house w s (calls.Delete volume dir path) = tree volume.0 (trees.Delete dir.0 path) (λ v. Empty) w s
call-house w s (calls.DisconnectOldSession kind token) = rejoins-house w s (old_session_in w s token)
call-house w s (calls.Enumerate volume dir file_bits dir_bits count start size path) = let r : RowHouse (enumerate_row volume.0 dir.0 file_bits dir_bits count start size path) = tells volume.0 _ _ in r.keeps w s
call-house w s (calls.EnumerateExt volume dir file_bits dir_bits count start size path) = let r : RowHouse (enumerate_ext_row volume.0 dir.0 file_bits dir_bits count start size path) = tells volume.0 _ _ in r.keeps w s
call-house w s (calls.EnumerateExt2 volume dir file_bits dir_bits count start size path) = let r : RowHouse (enumerate_ext2_row volume.0 dir.0 file_bits dir_bits count start size path) = tells volume.0 _ _ in r.keeps w s
call-house w s (calls.Flush volume) = let r : RowHouse (flush_row volume.0) = keeps-house (flush_row volume.0) (λ w s. refl) in r.keeps w s
call-house w s (calls.FlushFork reference) = let r : RowHouse (flush_fork_row reference.0) = keeps-house (flush_fork_row reference.0) (λ w s. (done-house w (open_file w s reference.0) (λ f. with_empty_reply w) (λ f. refl))) in r.keeps w s
call-house w s (calls.GetFileDirParms volume dir file_bits dir_bits path) = let r : RowHouse (get_file_dir_parms_row volume.0 dir.0 file_bits dir_bits path) = tells volume.0 _ _ in r.keeps w s
call-house w s (calls.GetForkParms reference bits) = let r : RowHouse (get_fork_parms_row reference.0 bits) = keeps-house (get_fork_parms_row reference.0 bits) (λ w s. (done-house w (open_file w s reference.0) (λ f. record { world = w; reply = get_fork_parms_reply bits w f }) (λ f. refl))) in r.keeps w s
call-house w s calls.GetSrvrInfo = refl
call-house w s (calls.GetSrvrMsg kind bits) = refl
call-house w s calls.GetSrvrParms = refl
call-house w s (calls.GetUserInfo flag id bits) = refl
call-house w s (calls.GetVolParms volume bits) = let r : RowHouse (get_vol_parms_row volume.0 bits) = tells volume.0 _ _ in r.keeps w s
call-house w s (calls.Login version uam rest) = let r : RowHouse (login_row version uam rest) = keeps-house (login_row version uam rest) (λ w s. refl) in r.keeps w s
call-house w s (calls.LoginExt flags version uam name path_kind path rest) = let r : RowHouse (login_ext_row version uam name rest) = keeps-house (login_ext_row version uam name rest) (λ w s. refl) in r.keeps w s
call-house w s (calls.MapID function id) = refl
call-house w s (calls.MapName function name) = refl
call-house w s (calls.MoveAndRename volume dir target_dir path target_path new_path) = tree volume.0 (trees.MoveAndRename dir.0 path target_dir.0 target_path new_path) (λ v. Empty) w s
call-house w s (calls.OpenDir volume dir path) = let r : RowHouse (open_dir_row volume.0 dir.0 path) = tells volume.0 _ _ in r.keeps w s
call-house w s (calls.OpenFork flag volume dir bits mode path) = let r : RowHouse (open_fork_row flag volume.0 dir.0 bits mode path) = keeps-house (open_fork_row flag volume.0 dir.0 bits mode path) (λ w s. (opened-house w s (record { volume = volume.0; bits = bits; resource = is_resource flag; access = access_of mode }) (file_asked (volume_at w.volumes volume.0) (user_of s) dir.0 path))) in r.keeps w s
call-house w s (calls.OpenVol bits name) = let r : RowHouse (open_vol_row bits name) = keeps-house (open_vol_row bits name) (λ w s. (opens-keeps (λ x. x.house ≡ w.house) w s bits (volume_named w name) (state_named w (volume_named w name)) refl (λ v. refl))) in r.keeps w s
call-house w s (calls.Read reference offset count mask character) = let r : RowHouse (read_row reference.0 offset count mask character) = keeps-house (read_row reference.0 offset count mask character) (λ w s. (all-reads reference.0 (record { offset = offset; count = pos count; mask = mask; character = character }) w s)) in r.keeps w s
call-house w s (calls.ReadExt reference offset count) = let r : RowHouse (read_ext_row reference.0 offset count) = keeps-house (read_ext_row reference.0 offset count) (λ w s. (all-reads reference.0 (record { offset = offset; count = count; mask = 0; character = 0 }) w s)) in r.keeps w s
call-house w s (calls.Rename volume dir path new_path) = tree volume.0 (trees.Rename dir.0 path new_path) (λ v. Empty) w s
call-house w s (calls.SetDirParms volume dir bits path rest) = tree volume.0 (trees.SetDirParms dir.0 bits path rest) (λ v. Empty) w s
call-house w s (calls.SetFileDirParms volume dir bits path rest) = tree volume.0 (trees.SetFileDirParms dir.0 bits path rest) (λ v. Empty) w s
call-house w s (calls.SetFileParms volume dir bits path rest) = tree volume.0 (trees.SetFileParms dir.0 bits path rest) (λ v. Empty) w s
call-house w s (calls.SetForkParms reference bits rest) = set-length reference.0 bits rest w s
call-house w s (calls.SetVolParms volume bits rest) = tree volume.0 (trees.SetVolParms bits rest) (λ v. Empty) w s
call-house w s (calls.Write flag reference offset count piece) = write reference.0 (record { from_end = is_from_end flag; offset = offset; count = pos count; piece = piece }) (λ end. End end) w s
call-house w s (calls.WriteExt flag reference offset count piece) = write reference.0 (record { from_end = is_from_end flag; offset = offset; count = count; piece = piece }) (λ end. EndExt end) w s
call-house w s (calls.AddAPPL dt dir creator tag path) = edits dt (volumes.AddAPPL dir.0 creator tag path) (λ user v. Empty) w s
call-house w s (calls.AddComment dt dir path comment) = edits dt (volumes.AddComment dir.0 path comment) (λ user v. Empty) w s
call-house w s (calls.AddIcon dt creator kind icon_kind tag size piece) = edits dt (volumes.AddIcon (icon_of creator kind icon_kind tag piece)) (λ user v. Empty) w s
call-house w s (calls.CloseDT dt) = let r : RowHouse (close_dt_row dt) = tells dt _ _ in r.keeps w s
call-house w s (calls.CopyFile volume dir target_volume target_dir path target_path new_path) = copy (record { volume = volume.0; dir = dir.0; path = path; target = target_volume.0; target_dir = target_dir.0; target_path = target_path; new_path = new_path }) w s
call-house w s (calls.CreateID volume dir path) = edits volume.0 (volumes.CreateID dir.0 path) (λ user v. open_dir_reply (created_id v user dir.0 path)) w s
call-house w s (calls.DeleteID volume id) = edits volume.0 (volumes.DeleteID id.0) (λ user v. Empty) w s
call-house w s (calls.ExchangeFiles volume dir second_dir path second_path) = edits volume.0 (volumes.ExchangeFiles dir.0 path second_dir.0 second_path) (λ user v. Empty) w s
call-house w s (calls.GetAPPL dt creator index bits) = let r : RowHouse (get_appl_row dt creator index bits) = tells dt _ _ in r.keeps w s
call-house w s (calls.GetComment dt dir path) = let r : RowHouse (get_comment_row dt dir.0 path) = tells dt _ _ in r.keeps w s
call-house w s (calls.GetIcon dt creator kind icon_kind count) = let r : RowHouse (get_icon_row dt creator kind icon_kind count) = tells dt _ _ in r.keeps w s
call-house w s (calls.GetIconInfo dt creator index) = let r : RowHouse (get_icon_info_row dt creator index) = tells dt _ _ in r.keeps w s
call-house w s (calls.OpenDT volume) = let r : RowHouse (open_dt_row volume.0) = tells volume.0 _ _ in r.keeps w s
call-house w s (calls.RemoveAPPL dt dir creator path) = edits dt (volumes.RemoveAPPL dir.0 creator path) (λ user v. Empty) w s
call-house w s (calls.RemoveComment dt dir path) = edits dt (volumes.RemoveComment dir.0 path) (λ user v. Empty) w s
call-house w s (calls.ResolveID volume id bits) = let r : RowHouse (resolve_id_row volume.0 id.0 bits) = tells volume.0 _ _ in r.keeps w s
call-house w s calls.Logout = let r : RowHouse logout_row = keeps-house logout_row (λ w s. refl) in r.keeps w s
call-house w s call = refl

-- entries

-- a world of that house, whose next link number is in its range
pub record OfHouse (house : Household) (w : World) : Type 0 where
  pub same : w.house ≡ house
  pub from_one : 1 ≤ w.next_link
  pub within : w.next_link ≤ links_end

or-false : (a b : Bool) → (a || b) ≡ false → b ≡ false
or-false true b e = absurd (cc)
or-false false b e = e

-- a world that is not full has a number left
has-room : (w : World) → is_full w ≡ false → w.next_link + 1 ≤ links_end
has-room w room = let less = leb-false links_end w.next_link (or-false (nat_le most_sessions (length w.sessions)) (nat_le links_end w.next_link) room) in omega arith

keeps-of : (house : Household) → Keeps AnyCall (OfHouse house)
keeps-of house = record {
  opens = λ w room h. record { same = h.same; from_one = omega arith; within = has-room w room };
  calls = λ w s call test known found passes h. record { same = call-house w s call ∙ h.same; from_one = subst (λ n. 1 ≤ n) (sym ((row-sound call).next w s)) h.from_one; within = subst (λ n. n ≤ links_end) (sym ((row-sound call).next w s)) h.within };
  ends = λ w stays h. record { same = h.same; from_one = h.from_one; within = h.within };
  drains = λ w h. record { same = h.same; from_one = h.from_one; within = h.within };
  loses = λ w s test found h. record { same = h.same; from_one = h.from_one; within = h.within };
  stores = λ w s r test o a known found new h behind. record { same = behind.same; from_one = behind.from_one; within = behind.within };
}

pub entry-of-house : (house : Household) (w : World) (e : Entry) → OfHouse house w → OfHouse house (after w e)
entry-of-house house w e h = after-keeps (keeps-of house) w e (nothing-known e.ask) (record { same = h.same; from_one = h.from_one; within = h.within })
