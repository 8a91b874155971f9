-- Each id of a node is drawn once, over all entries of a history.
use Rattle.std.proofs.Common.{◌==◌, ◌≡◌, ◌∙◌, ap, sym, refl, subst, arith, ℕ, ◌<◌, Bool, true, false, not, List, [], ◌∷◌, Option, Some, None, pos}
use Rattle.std.proofs.lemmas.Bool.{both_ways, eqb-false, eqb-true}
use Rattle.afp_base.specs.ForkBytes.{resized}
use Rattle.afp_replies.specs.declared.reply.Reply.{Reply}
use Rattle.afp_replies.specs.declared.reply.Reply.TheVariants.{Empty, End, EndExt, Node, Start, StartExt}
use Rattle.afp_calls_grammar.specs.declared.grammar.call.Call.{Call}
use Rattle.afp_calls_grammar.specs.declared.grammar.call.Call.TheVariants as calls
use Rattle.afp_serial.proofs.ForkCommits.{all-locks, all-reads, done-volumes, opened-volumes}
use Rattle.afp_serial.proofs.Keeps.{AnyCall, Keeps, after-keeps, nothing-known}
use Rattle.afp_serial.proofs.OnForkRows.{held-file}
use Rattle.afp_serial.proofs.OnVolumeRows.{done-keeps}
use Rattle.afp_serial.proofs.OpenVolRow.{opens-keeps}
use Rattle.afp_serial.proofs.VolumeStates.{state-at, state-other}
use Rattle.afp_serial.specs.declared.ask.Entry.{Entry}
use Rattle.afp_serial.specs.Answer.{after, with_new_session}
use Rattle.afp_serial.specs.Appls.{get_appl_row}
use Rattle.afp_serial.specs.CloseVol.{close_vol_row}
use Rattle.afp_serial.specs.Comments.{get_comment_row}
use Rattle.afp_serial.specs.CopyFile.{CopyAsked, copies, copy_edits, source_of}
use Rattle.afp_serial.specs.CreateDir.{node_id}
use Rattle.afp_serial.specs.Fork.{access_of, close_fork_row, file_asked, flush_fork_row, get_fork_parms_reply, get_fork_parms_row, is_other_length, length_for, open_fork_row, set_fork_parms_row}
use Rattle.afp_serial.specs.ForkBytes.{WriteAsked, is_from_end, read_ext_row, read_row, write_end, writes, writes_some, written_bytes}
use Rattle.afp_serial.specs.History.{stand}
use Rattle.afp_serial.specs.IdLaws.{DrawsOnce, DrawIdsOnce, IdsAreDrawnOnce}
use Rattle.afp_serial.specs.Enumerate.{enumerate_ext2_row, enumerate_ext_row, enumerate_row}
use Rattle.afp_serial.specs.FileIds.{resolve_id_row}
use Rattle.afp_serial.specs.Flush.{flush_row}
use Rattle.afp_serial.specs.GetFileDirParms.{get_file_dir_parms_row}
use Rattle.afp_serial.specs.GetVolParms.{get_vol_parms_row}
use Rattle.afp_serial.specs.Login.{login_ext_row, login_row}
use Rattle.afp_serial.specs.Logout.{logout_row}
use Rattle.afp_serial.specs.Icons.{get_icon_info_row, get_icon_row}
use Rattle.afp_serial.specs.OpenDT.{close_dt_row, open_dt_row}
use Rattle.afp_serial.specs.OpenDir.{close_dir_row, open_dir_reply, open_dir_row}
use Rattle.afp_serial.specs.Lock.{byte_range_lock_ext_row, byte_range_lock_row, lock_asked}
use Rattle.afp_serial.specs.OnFork.{OpenFile, bytes_of, done_with, open_file, with_bytes}
use Rattle.afp_serial.specs.OnVolume.{changes_tree, done_on, tells_of, with_state, with_volume_state}
use Rattle.afp_serial.specs.OpenVol.{open_vol_row, state_named, volume_named}
use Rattle.afp_serial.specs.Rows.{effect, row}
use Rattle.afp_serial.specs.SessionToken.{old_session_in, rejoins}
use Rattle.afp_serial.specs.VolumeRows.{changes_volume, with_edits}
use Rattle.afp_serial.specs.World.{CallRow, at_moment, closing, ending, user_of, volume_at, with_empty_reply, World, Session}
use Rattle.afp_base.specs.declared.code.Code.{Code}
use Rattle.volume_spec.specs.CreateDir.{create_dir_id}
use Rattle.volume_spec.specs.CreateFile.{is_hard}
use Rattle.volume_spec.specs.Edit.{Edit, Writes, after_call}
use Rattle.volume_spec.specs.EditLaws.{EditsDrawOnce, EffectsAreEdits, ForkEffectsAreEdits, NextIdDoesNotFall, volume_call}
use Rattle.volume_spec.specs.ForkEffect.{fork_effect}
use Rattle.volume_spec.specs.OpenFork.{is_resource}
use Rattle.volume_spec.specs.SoundVolume.{has_node}
use Rattle.volume_spec.specs.TreeSteps as trees
use Rattle.volume_spec.specs.TreeSteps.{TreeCall, tree_effect}
use Rattle.volume_spec.specs.Desktop.{icon_of}
use Rattle.volume_spec.specs.FileIds.{created_id}
use Rattle.volume_spec.specs.VolumeCalls as volumes
use Rattle.volume_spec.specs.VolumeCalls.{VolumeCall, call_edits}
use Rattle.volume_spec.specs.VolumeState.{VolumeState}

-- what a volume's own laws say
pub record DrawLaws : Type 0 where
  pub next : NextIdDoesNotFall
  pub old : EditsDrawOnce
  pub tree : EffectsAreEdits
  pub forks : ForkEffectsAreEdits

-- states of one volume

itself : (v : VolumeState) → DrawsOnce v v
itself v = record { next = omega arith; gone = λ id drawn none. none }

both : (u v w : VolumeState) → DrawsOnce u v → DrawsOnce v w → DrawsOnce u w
both u v w a b = record {
  next = let h = a.next in let k = b.next in omega arith;
  gone = λ id drawn none. b.gone id (let h = a.next in omega arith) (a.gone id drawn none);
}

edits-draw : DrawLaws → (v : VolumeState) (now : ℕ) (edits : List Edit) → DrawsOnce v (after_call v now edits)
edits-draw laws v now edits = record { next = laws.next v now edits; gone = λ id drawn none. by id drawn none (has_node (after_call v now edits).rows id) refl }
  where
    by : (id : ℕ) → id < v.next_id → has_node v.rows id ≡ false → (b : Bool) → has_node (after_call v now edits).rows id ≡ b → has_node (after_call v now edits).rows id ≡ false
    by id drawn none false is = is
    by id drawn none true is = absurd (both_ways (has_node v.rows id) none (laws.old v now edits id drawn is))

tree-draws : DrawLaws → (v : VolumeState) (user now : ℕ) (call : TreeCall) → DrawsOnce v (tree_effect v user now call)
tree-draws laws v user now call = subst (DrawsOnce v) (laws.tree v user now call) (edits-draw laws v now (call_edits v user now (volume_call call)))

fork-draws : DrawLaws → (v : VolumeState) (now id : ℕ) (resource : Bool) (bytes : List ℕ) → DrawsOnce v (fork_effect now id resource bytes true v)
fork-draws laws v now id resource bytes = subst (DrawsOnce v) (laws.forks v now id resource bytes) (edits-draw laws v now (Writes now id resource bytes ∷ []))

-- worlds

-- a world with the same volumes
same-draws : (w v : World) → v.volumes ≡ w.volumes → DrawIdsOnce w v
same-draws w v same volume old there = (old, ap (λ volumes. volume_at volumes volume) same ∙ there, itself old)

then-draws : (u v w : World) → DrawIdsOnce u v → DrawIdsOnce v w → DrawIdsOnce u w
then-draws u v w a b volume old there =
    let x = a volume old there in
    let y = b volume x.0 x.1 in (y.0, y.1, both old x.0 y.0 x.2 y.2)

-- a world with another state of a volume
state-draws : (w : World) (volume : ℕ) (old new : VolumeState) → volume_at w.volumes volume ≡ Some old → DrawsOnce old new → DrawIdsOnce w (with_volume_state w volume new)
state-draws w volume old new there draws other v is = by (other == volume) refl
  where
    by : (b : Bool) → (other == volume) ≡ b → (x : VolumeState) × (volume_at (with_volume_state w volume new).volumes other ≡ Some x) × DrawsOnce v x
    by false apart = (v, state-other w.volumes volume other new (eqb-false other volume apart) ∙ is, itself v)
    by true one =
        let here : other ≡ volume = eqb-true other volume one in
        let same : v ≡ old = let some : Some v ≡ Some old = sym is ∙ ap (volume_at w.volumes) here ∙ there in cc in
        (new, ap (volume_at (with_state w.volumes volume new)) here ∙ state-at w.volumes volume old new there, subst (λ x. DrawsOnce x new) (sym same) draws)

-- rows

-- a row draws each id once
record RowDraws (row : CallRow) : Type 0 where
  draws : (w : World) (s : Session) → DrawIdsOnce w (row.effect w s).world

keeps-volumes : (row : CallRow) → ((w : World) (s : Session) → (row.effect w s).world.volumes ≡ w.volumes) → RowDraws row
keeps-volumes row same = record { draws = λ w s. same-draws w (row.effect w s).world (same w s) }

tells : (volume : ℕ) (refuses : World → Session → VolumeState → Option Code) (reply : World → Session → VolumeState → Reply) → RowDraws (tells_of volume refuses reply)
tells volume refuses reply =
    keeps-volumes (tells_of volume refuses reply) (λ w s. done-keeps (λ x. x.volumes ≡ w.volumes) (volume_at w.volumes volume) w (λ v. record { world = w; reply = reply w s v }) refl (λ v. refl))

tree : DrawLaws → (volume : ℕ) (call : TreeCall) (reply : VolumeState → Reply) (w : World) (s : Session) → DrawIdsOnce w ((changes_tree volume call reply).effect w s).world
tree laws volume call reply w s = by (volume_at w.volumes volume) refl
  where
    by : (q : Option VolumeState) → volume_at w.volumes volume ≡ q → DrawIdsOnce w (done_on q w (λ v. record { world = with_volume_state w volume (tree_effect v (user_of s) w.latest call); reply = reply v })).world
    by None is = same-draws w w refl
    by (Some v) is = state-draws w volume v (tree_effect v (user_of s) w.latest call) is (tree-draws laws v (user_of s) w.latest call)

-- edits of a volume
edited-draws : DrawLaws → (w : World) (volume : ℕ) (v : VolumeState) (edits : List Edit) → volume_at w.volumes volume ≡ Some v → DrawIdsOnce w (with_edits w volume v edits)
edited-draws laws w volume v [] is = same-draws w w refl
edited-draws laws w volume v (e ∷ es) is = state-draws w volume v (after_call v w.latest (e ∷ es)) is (edits-draw laws v w.latest (e ∷ es))

edits : DrawLaws → (volume : ℕ) (change : VolumeCall) (reply : ℕ → VolumeState → Reply) (w : World) (s : Session) → DrawIdsOnce w ((changes_volume volume change reply).effect w s).world
edits laws volume change reply w s = by (volume_at w.volumes volume) refl
  where
    by : (q : Option VolumeState) → volume_at w.volumes volume ≡ q → DrawIdsOnce w (done_on q w (λ v. record { world = with_edits w volume v (call_edits v (user_of s) w.latest change); reply = reply (user_of s) v })).world
    by None is = same-draws w w refl
    by (Some v) is = edited-draws laws w volume v (call_edits v (user_of s) w.latest change) is

copy : DrawLaws → (asked : CopyAsked) (w : World) (s : Session) → DrawIdsOnce w ((copies asked).effect w s).world
copy laws asked w s = by (volume_at w.volumes asked.target) refl
  where
    by : (q : Option VolumeState) → volume_at w.volumes asked.target ≡ q → DrawIdsOnce w (done_on q w (λ v. with_empty_reply (with_edits w asked.target v (copy_edits w (user_of s) asked (source_of w (user_of s) asked) v)))).world
    by None is = same-draws w w refl
    by (Some v) is = edited-draws laws w asked.target v (copy_edits w (user_of s) asked (source_of w (user_of s) asked) v) is

-- other bytes in a fork that is open
bytes-draw : DrawLaws → (w : World) (s : Session) (reference : ℕ) (f : OpenFile) (some : Bool) (bytes : List ℕ) → open_file w s reference ≡ Some f → DrawIdsOnce w (with_bytes w f some bytes)
bytes-draw laws w s reference f false bytes is = same-draws w w refl
bytes-draw laws w s reference f true bytes is =
    state-draws w f.fork.fork.volume f.volume (fork_effect w.latest f.file.id f.fork.fork.resource bytes true f.volume) (held-file w s reference f is).there
    (fork-draws laws f.volume w.latest f.file.id f.fork.fork.resource bytes)

write : DrawLaws → (reference : ℕ) (asked : WriteAsked) (reply : ℕ → Reply) (w : World) (s : Session) → DrawIdsOnce w ((writes reference asked reply).effect w s).world
write laws reference asked reply w s = by (open_file w s reference) refl
  where
    by : (q : Option OpenFile) → open_file w s reference ≡ q → DrawIdsOnce w (done_with q w (λ f. record { world = with_bytes w f (writes_some asked) (written_bytes f asked); reply = reply (write_end f asked) })).world
    by None is = same-draws w w refl
    by (Some f) is = bytes-draw laws w s reference f (writes_some asked) (written_bytes f asked) is

set-length : DrawLaws → (reference bits : ℕ) (rest : List ℕ) (w : World) (s : Session) → DrawIdsOnce w ((set_fork_parms_row reference bits rest).effect w s).world
set-length laws reference bits rest w s = by (open_file w s reference) refl
  where
    by : (q : Option OpenFile) → open_file w s reference ≡ q → DrawIdsOnce w (done_with q w (λ f. with_empty_reply (with_bytes w f (is_other_length bits rest f) (resized (bytes_of f) (length_for bits rest f))))).world
    by None is = same-draws w w refl
    by (Some f) is = bytes-draw laws w s reference f (is_other_length bits rest f) (resized (bytes_of f) (length_for bits rest f)) is

rejoins-draw : (w : World) (s : Session) (old : Option Session) → DrawIdsOnce w (rejoins w s old).world
rejoins-draw w s None = same-draws w w refl
rejoins-draw w s (Some o) = same-draws w (rejoins w s (Some o)).world refl

call-draws : DrawLaws → (w : World) (s : Session) (call : Call) → DrawIdsOnce w (effect w s call).world
unfolding row
call-draws laws w s (calls.ByteRangeLock flags reference offset length) = let r : RowDraws (byte_range_lock_row flags reference.0 offset length) = keeps-volumes (byte_range_lock_row flags reference.0 offset length) (λ w s. (all-locks reference.0 (lock_asked flags offset length) (λ start. Start start) w s)) in r.draws w s
call-draws laws w s (calls.ByteRangeLockExt flags reference offset length) = let r : RowDraws (byte_range_lock_ext_row flags reference.0 offset length) = keeps-volumes (byte_range_lock_ext_row flags reference.0 offset length) (λ w s. (all-locks reference.0 (lock_asked flags offset length) (λ start. StartExt start) w s)) in r.draws w s
call-draws laws w s (calls.CloseDir volume dir) = let r : RowDraws (close_dir_row volume.0) = keeps-volumes (close_dir_row volume.0) (λ w s. refl) in r.draws w s
call-draws laws w s (calls.CloseFork reference) = let r : RowDraws (close_fork_row reference.0) = keeps-volumes (close_fork_row reference.0) (λ w s. (done-volumes w (open_file w s reference.0) (λ f. with_empty_reply (closing w (λ o. not (o.reference == reference.0)))) (λ f. refl))) in r.draws w s
call-draws laws w s (calls.CloseVol volume) = let r : RowDraws (close_vol_row volume.0) = keeps-volumes (close_vol_row volume.0) (λ w s. refl) in r.draws w s
call-draws laws w s (calls.CreateDir volume dir path) = tree laws volume.0 (trees.CreateDir dir.0 path) (λ v. Node (node_id (create_dir_id v))) w s
call-draws laws w s (calls.CreateFile flag volume dir path) = tree laws volume.0 (trees.CreateFile (is_hard flag) dir.0 path) (λ v. Empty) w s
call-draws laws w s (calls.Delete volume dir path) = tree laws volume.0 (trees.Delete dir.0 path) (λ v. Empty) w s
call-draws laws w s (calls.DisconnectOldSession kind token) = rejoins-draw w s (old_session_in w s token)
call-draws laws w s (calls.Enumerate volume dir file_bits dir_bits count start size path) = let r : RowDraws (enumerate_row volume.0 dir.0 file_bits dir_bits count start size path) = tells volume.0 _ _ in r.draws w s
call-draws laws w s (calls.EnumerateExt volume dir file_bits dir_bits count start size path) = let r : RowDraws (enumerate_ext_row volume.0 dir.0 file_bits dir_bits count start size path) = tells volume.0 _ _ in r.draws w s
call-draws laws w s (calls.EnumerateExt2 volume dir file_bits dir_bits count start size path) = let r : RowDraws (enumerate_ext2_row volume.0 dir.0 file_bits dir_bits count start size path) = tells volume.0 _ _ in r.draws w s
call-draws laws w s (calls.Flush volume) = let r : RowDraws (flush_row volume.0) = keeps-volumes (flush_row volume.0) (λ w s. refl) in r.draws w s
call-draws laws w s (calls.FlushFork reference) = let r : RowDraws (flush_fork_row reference.0) = keeps-volumes (flush_fork_row reference.0) (λ w s. (done-volumes w (open_file w s reference.0) (λ f. with_empty_reply w) (λ f. refl))) in r.draws w s
call-draws laws w s (calls.GetFileDirParms volume dir file_bits dir_bits path) = let r : RowDraws (get_file_dir_parms_row volume.0 dir.0 file_bits dir_bits path) = tells volume.0 _ _ in r.draws w s
call-draws laws w s (calls.GetForkParms reference bits) = let r : RowDraws (get_fork_parms_row reference.0 bits) = keeps-volumes (get_fork_parms_row reference.0 bits) (λ w s. (done-volumes w (open_file w s reference.0) (λ f. record { world = w; reply = get_fork_parms_reply bits w f }) (λ f. refl))) in r.draws w s
call-draws laws w s calls.GetSrvrInfo = same-draws w w refl
call-draws laws w s (calls.GetSrvrMsg kind bits) = same-draws w w refl
call-draws laws w s calls.GetSrvrParms = same-draws w w refl
call-draws laws w s (calls.GetUserInfo flag id bits) = same-draws w w refl
call-draws laws w s (calls.GetVolParms volume bits) = let r : RowDraws (get_vol_parms_row volume.0 bits) = tells volume.0 _ _ in r.draws w s
call-draws laws w s (calls.Login version uam rest) = let r : RowDraws (login_row version uam rest) = keeps-volumes (login_row version uam rest) (λ w s. refl) in r.draws w s
call-draws laws w s (calls.LoginExt flags version uam name path_kind path rest) = let r : RowDraws (login_ext_row version uam name rest) = keeps-volumes (login_ext_row version uam name rest) (λ w s. refl) in r.draws w s
call-draws laws w s (calls.MapID function id) = same-draws w w refl
call-draws laws w s (calls.MapName function name) = same-draws w w refl
call-draws laws w s (calls.MoveAndRename volume dir target_dir path target_path new_path) = tree laws volume.0 (trees.MoveAndRename dir.0 path target_dir.0 target_path new_path) (λ v. Empty) w s
call-draws laws w s (calls.OpenDir volume dir path) = let r : RowDraws (open_dir_row volume.0 dir.0 path) = tells volume.0 _ _ in r.draws w s
call-draws laws w s (calls.OpenFork flag volume dir bits mode path) = let r : RowDraws (open_fork_row flag volume.0 dir.0 bits mode path) = keeps-volumes (open_fork_row flag volume.0 dir.0 bits mode path) (λ w s. (opened-volumes w s (record { volume = volume.0; bits = bits; resource = is_resource flag; access = access_of mode }) (file_asked (volume_at w.volumes volume.0) (user_of s) dir.0 path))) in r.draws w s
call-draws laws w s (calls.OpenVol bits name) = let r : RowDraws (open_vol_row bits name) = keeps-volumes (open_vol_row bits name) (λ w s. (opens-keeps (λ x. x.volumes ≡ w.volumes) w s bits (volume_named w name) (state_named w (volume_named w name)) refl (λ v. refl))) in r.draws w s
call-draws laws w s (calls.Read reference offset count mask character) = let r : RowDraws (read_row reference.0 offset count mask character) = keeps-volumes (read_row reference.0 offset count mask character) (λ w s. (all-reads reference.0 (record { offset = offset; count = pos count; mask = mask; character = character }) w s)) in r.draws w s
call-draws laws w s (calls.ReadExt reference offset count) = let r : RowDraws (read_ext_row reference.0 offset count) = keeps-volumes (read_ext_row reference.0 offset count) (λ w s. (all-reads reference.0 (record { offset = offset; count = count; mask = 0; character = 0 }) w s)) in r.draws w s
call-draws laws w s (calls.Rename volume dir path new_path) = tree laws volume.0 (trees.Rename dir.0 path new_path) (λ v. Empty) w s
call-draws laws w s (calls.SetDirParms volume dir bits path rest) = tree laws volume.0 (trees.SetDirParms dir.0 bits path rest) (λ v. Empty) w s
call-draws laws w s (calls.SetFileDirParms volume dir bits path rest) = tree laws volume.0 (trees.SetFileDirParms dir.0 bits path rest) (λ v. Empty) w s
call-draws laws w s (calls.SetFileParms volume dir bits path rest) = tree laws volume.0 (trees.SetFileParms dir.0 bits path rest) (λ v. Empty) w s
call-draws laws w s (calls.SetForkParms reference bits rest) = set-length laws reference.0 bits rest w s
call-draws laws w s (calls.SetVolParms volume bits rest) = tree laws volume.0 (trees.SetVolParms bits rest) (λ v. Empty) w s
call-draws laws w s (calls.Write flag reference offset count piece) = write laws reference.0 (record { from_end = is_from_end flag; offset = offset; count = pos count; piece = piece }) (λ end. End end) w s
call-draws laws w s (calls.WriteExt flag reference offset count piece) = write laws reference.0 (record { from_end = is_from_end flag; offset = offset; count = count; piece = piece }) (λ end. EndExt end) w s
call-draws laws w s (calls.AddAPPL dt dir creator tag path) = edits laws dt (volumes.AddAPPL dir.0 creator tag path) (λ user v. Empty) w s
call-draws laws w s (calls.AddComment dt dir path comment) = edits laws dt (volumes.AddComment dir.0 path comment) (λ user v. Empty) w s
call-draws laws w s (calls.AddIcon dt creator kind icon_kind tag size piece) = edits laws dt (volumes.AddIcon (icon_of creator kind icon_kind tag piece)) (λ user v. Empty) w s
call-draws laws w s (calls.CloseDT dt) = let r : RowDraws (close_dt_row dt) = tells dt _ _ in r.draws w s
call-draws laws w s (calls.CopyFile volume dir target_volume target_dir path target_path new_path) = copy laws (record { volume = volume.0; dir = dir.0; path = path; target = target_volume.0; target_dir = target_dir.0; target_path = target_path; new_path = new_path }) w s
call-draws laws w s (calls.CreateID volume dir path) = edits laws volume.0 (volumes.CreateID dir.0 path) (λ user v. open_dir_reply (created_id v user dir.0 path)) w s
call-draws laws w s (calls.DeleteID volume id) = edits laws volume.0 (volumes.DeleteID id.0) (λ user v. Empty) w s
call-draws laws w s (calls.ExchangeFiles volume dir second_dir path second_path) = edits laws volume.0 (volumes.ExchangeFiles dir.0 path second_dir.0 second_path) (λ user v. Empty) w s
call-draws laws w s (calls.GetAPPL dt creator index bits) = let r : RowDraws (get_appl_row dt creator index bits) = tells dt _ _ in r.draws w s
call-draws laws w s (calls.GetComment dt dir path) = let r : RowDraws (get_comment_row dt dir.0 path) = tells dt _ _ in r.draws w s
call-draws laws w s (calls.GetIcon dt creator kind icon_kind count) = let r : RowDraws (get_icon_row dt creator kind icon_kind count) = tells dt _ _ in r.draws w s
call-draws laws w s (calls.GetIconInfo dt creator index) = let r : RowDraws (get_icon_info_row dt creator index) = tells dt _ _ in r.draws w s
call-draws laws w s (calls.OpenDT volume) = let r : RowDraws (open_dt_row volume.0) = tells volume.0 _ _ in r.draws w s
call-draws laws w s (calls.RemoveAPPL dt dir creator path) = edits laws dt (volumes.RemoveAPPL dir.0 creator path) (λ user v. Empty) w s
call-draws laws w s (calls.RemoveComment dt dir path) = edits laws dt (volumes.RemoveComment dir.0 path) (λ user v. Empty) w s
call-draws laws w s (calls.ResolveID volume id bits) = let r : RowDraws (resolve_id_row volume.0 id.0 bits) = tells volume.0 _ _ in r.draws w s
call-draws laws w s calls.Logout = let r : RowDraws logout_row = keeps-volumes logout_row (λ w s. refl) in r.draws w s
call-draws laws w s call = same-draws w w refl

-- entries

keeps-draws : DrawLaws → (start : World) → Keeps AnyCall (DrawIdsOnce start)
keeps-draws laws start = record {
  opens = λ w room h. then-draws start w (with_new_session w) h (same-draws w (with_new_session w) refl);
  calls = λ w s call test known found passes h. then-draws start w (effect w s call).world h (call-draws laws w s call);
  ends = λ w stays h. then-draws start w (ending w stays) h (same-draws w (ending w stays) refl);
  drains = λ w h. h;
  loses = λ w s test found h. h;
  stores = λ w s r test o a known found new h behind. behind;
}

entry-draws : DrawLaws → (w : World) (e : Entry) → DrawIdsOnce w (after w e)
entry-draws laws w e = after-keeps (keeps-draws laws w) w e (nothing-known e.ask) (same-draws w (at_moment w e.at) refl)

entries-draw : DrawLaws → (w : World) (es : List Entry) → DrawIdsOnce w (stand w es)
entries-draw laws w [] = same-draws w w refl
entries-draw laws w (e ∷ es) = then-draws w (after w e) (stand (after w e) es) (entry-draws laws w e) (entries-draw laws (after w e) es)

pub ids-are-drawn-once : DrawLaws → IdsAreDrawnOnce
ids-are-drawn-once laws start [] rest = entries-draw laws start rest
ids-are-drawn-once laws start (e ∷ first) rest = ids-are-drawn-once laws (after start e) first rest
