-- What each call does to the bytes of a fork that is open.
use Rattle.std.proofs.Common.{◌==◌, ◌≡◌, ◌∙◌, ap, sym, refl, subst, arith, ℕ, suc, ℤ, pos, ◌-◌, ◌++◌, take, replicate, Bool, true, false, not, ◌&&◌, cond, List, [], ◌∷◌, length, Option, Some, None}
use Rattle.std.specs.Prelude.{filter, nat_abs, nat_lt, option_map}
use Rattle.std.specs.Bool.{beq}
use Rattle.std.specs.List.{list_all}
use Rattle.std.proofs.lemmas.Bool.{and_from, and_parts, both_ways, eq-eqb, eqb-false, eqb-true, lt-ltb}
use Rattle.afp_base.proofs.DefinitionLaws.{one_fork}
use Rattle.afp_base.specs.Choice.{first_holding}
use Rattle.afp_base.specs.DenyMode.{Fork, is_one_fork}
use Rattle.afp_base.specs.ForkBytes.{resized, splice}
use Rattle.afp_names.specs.Path.{PathValue}
use Rattle.afp_replies.specs.declared.reply.Reply.{Reply}
use Rattle.afp_replies.specs.declared.reply.Reply.TheVariants.{Empty, End, EndExt, Node, Start, StartExt}
use Rattle.afp_calls_grammar.specs.declared.grammar.call.Call.{Call}
use Rattle.afp_calls_grammar.specs.declared.grammar.call.Call.TheVariants as calls
use Rattle.afp_serial.proofs.EditedForks.{IsExchanged, IsGentle, add-appl-gentle, add-comment-gentle, add-icon-gentle, copy-gentle, create-id-gentle, delete-id-gentle, gentle-be, is_gentle, pair-exchanged, remove-appl-gentle, remove-comment-gentle}
use Rattle.afp_serial.proofs.ExchangeRow.{Exchanged, exchanged-left}
use Rattle.afp_serial.proofs.ExchangedForks.{exchanged-elsewhere, exchanged-first, exchanged-neither, exchanged-second}
use Rattle.afp_serial.proofs.ForkCommits.{all-locks, all-reads, done-volumes, opened-volumes}
use Rattle.afp_serial.proofs.OnForkRows.{IsHeld, IsHeldFile, held-file, sound-file}
use Rattle.afp_serial.proofs.OnVolumeRows.{done-keeps, else-none, on-passes}
use Rattle.afp_serial.proofs.OpenForkBytes.{Has, tree-lets-be}
use Rattle.afp_serial.proofs.OpenVolRow.{opens-keeps}
use Rattle.afp_serial.proofs.VolumeStates.{state-at, state-other}
use Rattle.afp_serial.proofs.Written.{bytes-seen, other-bytes}
use Rattle.afp_serial.specs.World.{CallRow, with_empty_reply, closing, user_of, volume_at, World, Session, OpenFork}
use Rattle.afp_serial.specs.Fork.{access_of, close_fork_row, file_asked, flush_fork_row, get_fork_parms_reply, get_fork_parms_row, is_other_length, length_for, open_fork_row, set_fork_parms_row}
use Rattle.afp_serial.specs.ForkBytes.{WriteAsked, is_from_end, read_ext_row, read_row, write_end, write_start, writes, writes_some, written_bytes}
use Rattle.afp_serial.specs.Appls.{get_appl_row}
use Rattle.afp_serial.specs.Comments.{get_comment_row}
use Rattle.afp_serial.specs.CopyFile.{CopyAsked, copies, copy_call, copy_edits, source_of}
use Rattle.afp_serial.specs.ExchangeFiles.{exchange_files_row, in_exchange, pair_on}
use Rattle.afp_serial.specs.FileIds.{resolve_id_row}
use Rattle.afp_serial.specs.ForkHistory.{becomes_all, bytes_in, bytes_on, changes_by, exchanged_for, has_open, put_of, through}
use Rattle.afp_serial.specs.Icons.{get_icon_info_row, get_icon_row}
use Rattle.afp_serial.specs.Lock.{byte_range_lock_ext_row, byte_range_lock_row, lock_asked}
use Rattle.afp_serial.specs.OnFork.{OpenFile, bytes_of, done_with, file_on, file_under, open_file, own_fork, with_bytes}
use Rattle.afp_serial.specs.OnVolume.{changes_tree, changes_tree_unless, done_on, opened_on, tells_of, with_state, with_volume_state}
use Rattle.afp_serial.specs.OpenVol.{open_vol_row, state_named, volume_named}
use Rattle.afp_serial.specs.SessionToken.{disconnect_old_session_row, old_session_in, rejoins}
use Rattle.afp_serial.specs.Rows.{effect, refusal, row}
use Rattle.afp_serial.specs.Sound.{IsSound}
use Rattle.afp_serial.specs.WriteLaws.{bytes_under, changed_by_all, sets_length}
use Rattle.afp_serial.specs.CloseVol.{close_vol_row}
use Rattle.afp_serial.specs.CreateDir.{node_id}
use Rattle.afp_serial.specs.Enumerate.{enumerate_ext2_row, enumerate_ext_row, enumerate_row}
use Rattle.afp_serial.specs.Flush.{flush_row}
use Rattle.afp_serial.specs.GetFileDirParms.{get_file_dir_parms_row}
use Rattle.afp_serial.specs.GetVolParms.{get_vol_parms_row}
use Rattle.afp_serial.specs.Login.{login_ext_row, login_row}
use Rattle.afp_serial.specs.OpenDT.{close_dt_row, open_dt_row}
use Rattle.afp_serial.specs.OpenDir.{close_dir_row, open_dir_reply, open_dir_row}
use Rattle.afp_serial.specs.Users.{user_ids}
use Rattle.afp_serial.specs.VolumeRows.{changes_volume, with_edits}
use Rattle.afp_base.specs.declared.code.Code.{Code}
use Rattle.volume_spec.proofs.ForkEffects.{fork-given, fork-lets-be}
use Rattle.volume_spec.specs.SetFileDirParms.{set_dir_parms_behind}
use Rattle.volume_spec.specs.Shared.{Opened, is_busy, refused_else}
use Rattle.volume_spec.specs.CopyFile.{Source}
use Rattle.volume_spec.specs.CreateDir.{create_dir_id}
use Rattle.volume_spec.specs.CreateFile.{is_hard}
use Rattle.volume_spec.specs.Desktop.{icon_of}
use Rattle.volume_spec.specs.Edit.{Edit, Exchanges, after_call}
use Rattle.volume_spec.specs.EditLaws.{MayExchange}
use Rattle.volume_spec.specs.ExchangeFiles.{Pair}
use Rattle.volume_spec.specs.FileIds.{created_id}
use Rattle.volume_spec.specs.ForkEffect.{fork_effect, fork_of}
use Rattle.volume_spec.specs.OpenFork.{is_resource}
use Rattle.volume_spec.specs.TreeSteps as trees
use Rattle.volume_spec.specs.TreeSteps.{TreeCall, tree_effect, tree_refusal}
use Rattle.volume_spec.specs.VolumeCalls as volumes
use Rattle.volume_spec.specs.VolumeCalls.{VolumeCall, call_edits}
use Rattle.volume_spec.specs.VolumeState.{Row as File, VolumeState}
use Rattle.volume_spec.specs.Walk.{row_at}
use Rattle.afp_base.proofs.ListFacts.{any-map, any-still, any-weaker}
use Rattle.afp_base.proofs.Forks.{one_fork-itself}

-- a world with the same volumes
same-volumes : (w v : World) (fork : Fork) (bytes : List ℕ) → v.volumes ≡ w.volumes → bytes_in w fork ≡ Some bytes → bytes_in v fork ≡ Some bytes
same-volumes w v fork bytes same h = ap (λ volumes. bytes_on (volume_at volumes fork.volume) fork) same ∙ h

-- a world with another state of a volume
state-bytes : (w : World) (volume : ℕ) (old new : VolumeState) (fork : Fork) (bytes : List ℕ) → volume_at w.volumes volume ≡ Some old
    → (fork.volume ≡ volume → Has fork.node fork.resource bytes old → Has fork.node fork.resource bytes new)
    → bytes_in w fork ≡ Some bytes → bytes_in (with_volume_state w volume new) fork ≡ Some bytes
state-bytes w volume old new fork bytes there keeps h = by (fork.volume == volume) refl
  where
    by : (b : Bool) → (fork.volume == volume) ≡ b → bytes_in (with_volume_state w volume new) fork ≡ Some bytes
    by false other = ap (λ q. bytes_on q fork) (state-other w.volumes volume fork.volume new (eqb-false fork.volume volume other)) ∙ h
    by true here =
        let same : fork.volume ≡ volume = eqb-true fork.volume volume here in
        let before : Has fork.node fork.resource bytes old = ap (λ q. bytes_on q fork) (sym there ∙ ap (volume_at w.volumes) (sym same)) ∙ h in
        ap (λ q. bytes_on q fork) (ap (volume_at (with_state w.volumes volume new)) same ∙ state-at w.volumes volume old new there) ∙ keeps same before

-- a fork that is open is busy on its volume
busy-open : (w : World) (fork : Fork) → has_open w fork ≡ true → is_busy (opened_on w fork.volume) fork.node ≡ true
unfolding is_busy opened_on
busy-open w fork there =
    any-map (λ (x : Opened). x.node == fork.node) (λ (p : OpenFork). record { node = p.fork.node; resource = p.fork.resource }) (filter (λ (p : OpenFork). p.fork.volume == fork.volume) w.opens)
    ∙ any-weaker both (λ (p : OpenFork). p.fork.node == fork.node) (filter (λ (p : OpenFork). p.fork.volume == fork.volume) w.opens) (λ p h. (and_parts (p.fork.volume == fork.volume) (p.fork.node == fork.node) h).1)
    (any-still both (λ (p : OpenFork). p.fork.volume == fork.volume) w.opens (λ p h. (and_parts (p.fork.volume == fork.volume) (p.fork.node == fork.node) h).0)
    (any-weaker (λ (p : OpenFork). is_one_fork p.fork fork) both w.opens (λ p h.
    let same : fork ≡ p.fork = sym ((one_fork p.fork fork).0 h) in
    ap (λ (f : Fork). (p.fork.volume == f.volume) && (p.fork.node == f.node)) same ∙ and_from (p.fork.volume == p.fork.volume) (p.fork.node == p.fork.node) (eq-eqb p.fork.volume p.fork.volume refl) (eq-eqb p.fork.node p.fork.node refl)) there))
  where
    both : OpenFork → Bool
    both p = (p.fork.volume == fork.volume) && (p.fork.node == fork.node)

-- rows that let open forks be

record LeavesForks (row : CallRow) : Type 0 where
  leaves : (w : World) (s : Session) (fork : Fork) (bytes : List ℕ) → has_open w fork ≡ true → first_holding (row.refusals w s) ≡ None → bytes_in w fork ≡ Some bytes → bytes_in (row.effect w s).world fork ≡ Some bytes

keeps-volumes : (row : CallRow) → ((w : World) (s : Session) → (row.effect w s).world.volumes ≡ w.volumes) → LeavesForks row
keeps-volumes row same = record { leaves = λ w s fork bytes there passes h. same-volumes w (row.effect w s).world fork bytes (same w s) h }

tells-leave : (volume : ℕ) (refuses : World → Session → VolumeState → Option Code) (reply : World → Session → VolumeState → Reply) → LeavesForks (tells_of volume refuses reply)
tells-leave volume refuses reply =
    keeps-volumes (tells_of volume refuses reply) (λ w s. done-keeps (λ x. x.volumes ≡ w.volumes) (volume_at w.volumes volume) w (λ v. record { world = w; reply = reply w s v }) refl (λ v. refl))

tree-leaves-unless : (behind : World → Option Code) (volume : ℕ) (tree : TreeCall) (reply : VolumeState → Reply) → LeavesForks (changes_tree_unless behind volume tree reply)
tree-leaves-unless behind volume tree reply = record {
  leaves = λ w s fork bytes there passes h.
      let p = on-passes w s volume (λ v. refused_else (behind w) (tree_refusal v (user_of s) (opened_on w volume) tree)) passes in
      subst (λ o. bytes_in (done_on o w (λ v. record { world = with_volume_state w volume (tree_effect v (user_of s) w.latest tree); reply = reply v })).world fork ≡ Some bytes) (sym p.there)
      (state-bytes w volume p.state (tree_effect p.state (user_of s) w.latest tree) fork bytes p.there
      (λ same had. tree-lets-be p.state (user_of s) (opened_on w volume) w.latest tree fork.node (else-none (behind w) _ p.passes) (ap (λ n. is_busy (opened_on w n) fork.node) (sym same) ∙ busy-open w fork there) fork.resource bytes had) h);
}

tree-leaves : (volume : ℕ) (tree : TreeCall) (reply : VolumeState → Reply) → LeavesForks (changes_tree volume tree reply)
tree-leaves volume tree reply = tree-leaves-unless (λ w. None) volume tree reply

edits-leave : (w : World) (volume : ℕ) (v : VolumeState) (edits : List Edit) (fork : Fork) (bytes : List ℕ) → list_all is_gentle edits ≡ true → volume_at w.volumes volume ≡ Some v → bytes_in w fork ≡ Some bytes → bytes_in (with_edits w volume v edits) fork ≡ Some bytes
edits-leave w volume v [] fork bytes gentle is h = h
edits-leave w volume v (e ∷ es) fork bytes gentle is h = state-bytes w volume v (after_call v w.latest (e ∷ es)) fork bytes is (λ same had. gentle-be fork.node v w.latest (e ∷ es) gentle fork.resource bytes had) h

changes-leave : (volume : ℕ) (change : VolumeCall) (reply : ℕ → VolumeState → Reply) → IsGentle change → LeavesForks (changes_volume volume change reply)
changes-leave volume change reply gentle = record { leaves = λ w s fork bytes there passes h. by w (user_of s) fork bytes h (volume_at w.volumes volume) refl }
  where
    by : (w : World) (user : ℕ) (fork : Fork) (bytes : List ℕ) → bytes_in w fork ≡ Some bytes → (q : Option VolumeState) → volume_at w.volumes volume ≡ q
        → bytes_in (done_on q w (λ v. record { world = with_edits w volume v (call_edits v user w.latest change); reply = reply user v })).world fork ≡ Some bytes
    by w user fork bytes h None is = h
    by w user fork bytes h (Some v) is = edits-leave w volume v (call_edits v user w.latest change) fork bytes (gentle v user w.latest) is h

copies-leave : (asked : CopyAsked) → LeavesForks (copies asked)
copies-leave asked = record { leaves = λ w s fork bytes there passes h. by w (user_of s) fork bytes h (source_of w (user_of s) asked) (volume_at w.volumes asked.target) refl }
  where
    by : (w : World) (user : ℕ) (fork : Fork) (bytes : List ℕ) → bytes_in w fork ≡ Some bytes → (source : Option Source) (q : Option VolumeState) → volume_at w.volumes asked.target ≡ q
        → bytes_in (done_on q w (λ v. with_empty_reply (with_edits w asked.target v (copy_edits w user asked source v)))).world fork ≡ Some bytes
    by w user fork bytes h source None is = h
    by w user fork bytes h None (Some v) is = h
    by w user fork bytes h (Some source) (Some v) is =
        edits-leave w asked.target v (call_edits v user w.latest (copy_call asked source)) fork bytes (copy-gentle source asked.target_dir asked.target_path asked.new_path v user w.latest) is h

open-vol-leaves : (bits : ℕ) (name : List ℕ) → LeavesForks (open_vol_row bits name)
open-vol-leaves bits name = keeps-volumes (open_vol_row bits name) (λ w s. opens-keeps (λ x. x.volumes ≡ w.volumes) w s bits (volume_named w name) (state_named w (volume_named w name)) refl (λ v. refl))

-- calls through an open fork

-- what is seen under a reference is the fork's
pub under-in : (w : World) (s : Session) (reference : ℕ) (o : OpenFork) → own_fork w s reference ≡ Some o → bytes_under w s reference ≡ bytes_in w o.fork
unfolding open_file
under-in w s reference o own = ap (λ q. option_map bytes_of (file_under w q)) own ∙ by (volume_at w.volumes o.fork.volume)
  where
    of-row : (v : VolumeState) (q : Option File) → option_map bytes_of (option_map (λ (x : File). record { fork = o; volume = v; file = x }) q) ≡ option_map (fork_of o.fork.resource) q
    of-row v None = refl
    of-row v (Some x) = refl

    by : (q : Option VolumeState) → option_map bytes_of (file_on o q) ≡ bytes_on q o.fork
    by None = refl
    by (Some v) = of-row v (row_at v.rows o.fork.node)

-- the bytes of an open fork are the fork's
pub held-bytes : (w : World) (s : Session) (reference : ℕ) (f : OpenFile) → open_file w s reference ≡ Some f → bytes_in w f.fork.fork ≡ Some (bytes_of f)
held-bytes w s reference f is = sym (under-in w s reference f.fork (held-file w s reference f is).found) ∙ ap (option_map bytes_of) is

pub fork-bytes : (w : World) (s : Session) (reference : ℕ) (f : OpenFile) (fork : Fork) (bytes : List ℕ) → open_file w s reference ≡ Some f → is_one_fork f.fork.fork fork ≡ true → bytes_in w fork ≡ Some bytes → bytes_of f ≡ bytes
fork-bytes w s reference f fork bytes is one h =
    let same : Some (bytes_of f) ≡ Some bytes = sym (held-bytes w s reference f is) ∙ ap (bytes_in w) ((one_fork f.fork.fork fork).0 one) ∙ h in cc

new-bytes : (w : World) (s : Session) (reference : ℕ) (f : OpenFile) (fork : Fork) (new : List ℕ) → IsSound w → open_file w s reference ≡ Some f → is_one_fork f.fork.fork fork ≡ true → bytes_in (with_bytes w f true new) fork ≡ Some new
new-bytes w s reference f fork new h is one =
    ap (bytes_in (with_bytes w f true new)) (sym ((one_fork f.fork.fork fork).0 one))
    ∙ sym (under-in (with_bytes w f true new) s reference f.fork (held-file w s reference f is).found)
    ∙ bytes-seen w s s reference reference f f new h is is (one_fork-itself f.fork.fork)

-- another fork
old-bytes : (w : World) (s : Session) (reference : ℕ) (f : OpenFile) (fork : Fork) (some : Bool) (new bytes : List ℕ) → IsSound w → open_file w s reference ≡ Some f → is_one_fork f.fork.fork fork ≡ false → bytes_in w fork ≡ Some bytes → bytes_in (with_bytes w f some new) fork ≡ Some bytes
old-bytes w s reference f fork false new bytes h is apart had = had
old-bytes w s reference f fork true new bytes h is apart had = state-bytes w f.fork.fork.volume f.volume after fork bytes held.there (λ volume before. by-node volume before (fork.node == f.file.id) refl) had
  where
    held : IsHeld w s reference f
    held = held-file w s reference f is

    its : IsHeldFile w reference f
    its = sound-file w s reference f h held

    after : VolumeState
    after = fork_effect w.latest f.file.id f.fork.fork.resource new true f.volume

    by-kind : fork.volume ≡ f.fork.fork.volume → fork.node ≡ f.file.id → Has fork.node fork.resource bytes f.volume → (b : Bool) → beq fork.resource f.fork.fork.resource ≡ b → Has fork.node fork.resource bytes after
    by-kind volume node before true kind =
        let one : is_one_fork fork f.fork.fork ≡ true = (λ i. (eq-eqb fork.volume f.fork.fork.volume volume i) && ((eq-eqb fork.node f.fork.fork.node (node ∙ its.node) i) && kind i)) in
        absurd (both_ways (is_one_fork f.fork.fork fork) apart ((one_fork f.fork.fork fork).1 (sym ((one_fork fork f.fork.fork).0 one))))
    by-kind volume node before false kind =
        let row : row_at f.volume.rows f.file.id ≡ Some f.file = ap (row_at f.volume.rows) its.node ∙ held.row in
        ap (λ n. option_map (fork_of fork.resource) (row_at after.rows n)) node
        ∙ ap (option_map (fork_of fork.resource)) (fork-given f.volume w.latest f.file.id f.fork.fork.resource true new f.file row)
        ∙ ap Some (other-bytes w.latest f.fork.fork.resource new f.file fork.resource ∙ ap (λ b. cond b new (fork_of fork.resource f.file)) kind)
        ∙ ap (option_map (fork_of fork.resource)) (sym row)
        ∙ ap (λ n. option_map (fork_of fork.resource) (row_at f.volume.rows n)) (sym node)
        ∙ before

    by-node : fork.volume ≡ f.fork.fork.volume → Has fork.node fork.resource bytes f.volume → (b : Bool) → (fork.node == f.file.id) ≡ b → Has fork.node fork.resource bytes after
    by-node volume before true node = by-kind volume (eqb-true fork.node f.file.id node) before (beq fork.resource f.fork.fork.resource) refl
    by-node volume before false node = ap (option_map (fork_of fork.resource)) (fork-lets-be f.volume w.latest f.file.id fork.node f.fork.fork.resource true new node) ∙ before

-- FPWrite and FPWriteExt

piece-put : (w : World) (s : Session) (reference : ℕ) (f : OpenFile) (fork : Fork) (asked : WriteAsked) (bytes : List ℕ) → IsSound w → open_file w s reference ≡ Some f → bytes_in w fork ≡ Some bytes → (b : Bool) → is_one_fork f.fork.fork fork ≡ b
    → bytes_in (with_bytes w f (writes_some asked) (written_bytes f asked)) fork ≡ Some (changed_by_all (cond b (put_of asked f ∷ []) []) bytes)
piece-put w s reference f fork asked bytes h is had false apart = old-bytes w s reference f fork (writes_some asked) (written_bytes f asked) bytes h is apart had
piece-put w s reference f fork asked bytes h is had true one = by asked.piece refl
  where
    same : bytes_of f ≡ bytes
    same = fork-bytes w s reference f fork bytes is one had

    by : (piece : List ℕ) → asked.piece ≡ piece → bytes_in (with_bytes w f (writes_some asked) (written_bytes f asked)) fork ≡ Some (changed_by_all (put_of asked f ∷ []) bytes)
    by [] none =
        ap (λ p. bytes_in (with_bytes w f (nat_lt 0 (length p)) (written_bytes f asked)) fork) none
        ∙ had
        ∙ ap (λ p. Some (splice bytes (nat_abs (write_start f asked)) p)) (sym none)
    by (x ∷ xs) some =
        ap (λ p. bytes_in (with_bytes w f (nat_lt 0 (length p)) (written_bytes f asked)) fork) some
        ∙ ap (λ b. bytes_in (with_bytes w f b (written_bytes f asked)) fork) (lt-ltb 0 (length (x ∷ xs)) (omega arith))
        ∙ new-bytes w s reference f fork (written_bytes f asked) h is one
        ∙ ap (λ old. Some (changed_by_all (put_of asked f ∷ []) old)) same

pub write-changes : (reference : ℕ) (asked : WriteAsked) (reply : ℕ → Reply) (w : World) (s : Session) (fork : Fork) (bytes : List ℕ) → IsSound w → bytes_in w fork ≡ Some bytes
    → bytes_in ((writes reference asked reply).effect w s).world fork ≡ Some (changed_by_all (through (open_file w s reference) fork (put_of asked)) bytes)
write-changes reference asked reply w s fork bytes h had = by (open_file w s reference) refl
  where
    by : (q : Option OpenFile) → open_file w s reference ≡ q → bytes_in (done_with q w (λ x. record { world = with_bytes w x (writes_some asked) (written_bytes x asked); reply = reply (write_end x asked) })).world fork ≡ Some (changed_by_all (through q fork (put_of asked)) bytes)
    by None is = had
    by (Some f) is = piece-put w s reference f fork asked bytes h is had (is_one_fork f.fork.fork fork) refl

-- FPSetForkParms

same-length : (bytes : List ℕ) → resized bytes (length bytes) ≡ bytes
same-length [] = refl
same-length (x ∷ xs) = let none : suc (length xs) - suc (length xs) ≡ length xs - length xs = omega arith in ap (λ n. x ∷ (take (length xs) xs ++ replicate n 0)) none ∙ ap (λ l. x ∷ l) (same-length xs)

length-set : (w : World) (s : Session) (reference : ℕ) (f : OpenFile) (fork : Fork) (bits : ℕ) (rest bytes : List ℕ) → IsSound w → open_file w s reference ≡ Some f → bytes_in w fork ≡ Some bytes → (b : Bool) → is_one_fork f.fork.fork fork ≡ b
    → bytes_in (with_bytes w f (is_other_length bits rest f) (resized (bytes_of f) (length_for bits rest f))) fork ≡ Some (changed_by_all (cond b (sets_length (length_for bits rest f) ∷ []) []) bytes)
length-set w s reference f fork bits rest bytes h is had false apart = old-bytes w s reference f fork (is_other_length bits rest f) (resized (bytes_of f) (length_for bits rest f)) bytes h is apart had
length-set w s reference f fork bits rest bytes h is had true one = by (length_for bits rest f == length (bytes_of f)) refl
  where
    same : bytes_of f ≡ bytes
    same = fork-bytes w s reference f fork bytes is one had

    by : (b : Bool) → (length_for bits rest f == length (bytes_of f)) ≡ b → bytes_in (with_bytes w f (not b) (resized (bytes_of f) (length_for bits rest f))) fork ≡ Some (resized bytes (length_for bits rest f))
    by true is_length =
        let n : length_for bits rest f ≡ length bytes = eqb-true (length_for bits rest f) (length (bytes_of f)) is_length ∙ ap length same in
        had ∙ ap Some (sym (ap (resized bytes) n ∙ same-length bytes))
    by false other = new-bytes w s reference f fork (resized (bytes_of f) (length_for bits rest f)) h is one ∙ ap (λ old. Some (resized old (length_for bits rest f))) same

pub length-changes : (reference bits : ℕ) (rest : List ℕ) (w : World) (s : Session) (fork : Fork) (bytes : List ℕ) → IsSound w → bytes_in w fork ≡ Some bytes
    → bytes_in ((set_fork_parms_row reference bits rest).effect w s).world fork ≡ Some (changed_by_all (through (open_file w s reference) fork (λ f. sets_length (length_for bits rest f))) bytes)
length-changes reference bits rest w s fork bytes h had = by (open_file w s reference) refl
  where
    by : (q : Option OpenFile) → open_file w s reference ≡ q → bytes_in (done_with q w (λ x. with_empty_reply (with_bytes w x (is_other_length bits rest x) (resized (bytes_of x) (length_for bits rest x))))).world fork
        ≡ Some (changed_by_all (through q fork (λ f. sets_length (length_for bits rest f))) bytes)
    by None is = had
    by (Some f) is = length-set w s reference f fork bits rest bytes h is had (is_one_fork f.fork.fork fork) refl

-- the others let it be

close-fork-leaves : (reference : ℕ) → LeavesForks (close_fork_row reference)
close-fork-leaves reference = keeps-volumes (close_fork_row reference) (λ w s. done-volumes w (open_file w s reference) (λ f. with_empty_reply (closing w (λ o. not (o.reference == reference)))) (λ f. refl))

flush-fork-leaves : (reference : ℕ) → LeavesForks (flush_fork_row reference)
flush-fork-leaves reference = keeps-volumes (flush_fork_row reference) (λ w s. done-volumes w (open_file w s reference) (λ f. with_empty_reply w) (λ f. refl))

get-fork-parms-leaves : (reference bits : ℕ) → LeavesForks (get_fork_parms_row reference bits)
get-fork-parms-leaves reference bits = keeps-volumes (get_fork_parms_row reference bits) (λ w s. done-volumes w (open_file w s reference) (λ f. record { world = w; reply = get_fork_parms_reply bits w f }) (λ f. refl))

open-fork-leaves : (flag volume dir bits mode : ℕ) (path : PathValue) → LeavesForks (open_fork_row flag volume dir bits mode path)
open-fork-leaves flag volume dir bits mode path =
    keeps-volumes (open_fork_row flag volume dir bits mode path) (λ w s. opened-volumes w s (record { volume = volume; bits = bits; resource = is_resource flag; access = access_of mode }) (file_asked (volume_at w.volumes volume) (user_of s) dir path))

read-leaves : (reference : ℕ) (offset : ℤ) (count mask character : ℕ) → LeavesForks (read_row reference offset count mask character)
read-leaves reference offset count mask character =
    keeps-volumes (read_row reference offset count mask character) (λ w s. all-reads reference (record { offset = offset; count = pos count; mask = mask; character = character }) w s)

read-ext-leaves : (reference : ℕ) (offset count : ℤ) → LeavesForks (read_ext_row reference offset count)
read-ext-leaves reference offset count = keeps-volumes (read_ext_row reference offset count) (λ w s. all-reads reference (record { offset = offset; count = count; mask = 0; character = 0 }) w s)

lock-leaves : (flags reference : ℕ) (offset length : ℤ) → LeavesForks (byte_range_lock_row flags reference offset length)
lock-leaves flags reference offset length = keeps-volumes (byte_range_lock_row flags reference offset length) (λ w s. all-locks reference (lock_asked flags offset length) (λ start. Start start) w s)

lock-ext-leaves : (flags reference : ℕ) (offset length : ℤ) → LeavesForks (byte_range_lock_ext_row flags reference offset length)
lock-ext-leaves flags reference offset length = keeps-volumes (byte_range_lock_ext_row flags reference offset length) (λ w s. all-locks reference (lock_asked flags offset length) (λ start. StartExt start) w s)

-- FPExchangeFiles

module _ (w : World) (volume : ℕ) (v new : VolumeState) (pair : Pair) (one two : File) (there : volume_at w.volumes volume ≡ Some v) (first_is : row_at v.rows pair.first ≡ Some one) (second_is : row_at v.rows pair.second ≡ Some two) (x : IsExchanged v new pair one two) where
  before : (fork : Fork) → (fork.volume == volume) ≡ true → bytes_in w fork ≡ option_map (fork_of fork.resource) (row_at v.rows fork.node)
  before fork here = ap (λ q. bytes_on q fork) (ap (volume_at w.volumes) (eqb-true fork.volume volume here) ∙ there)

  behind : (fork : Fork) → (fork.volume == volume) ≡ true → bytes_in (with_volume_state w volume new) fork ≡ option_map (fork_of fork.resource) (row_at new.rows fork.node)
  behind fork here = ap (λ q. bytes_on q fork) (ap (volume_at (with_state w.volumes volume new)) (eqb-true fork.volume volume here) ∙ state-at w.volumes volume v new there)

  -- each fork has the bytes that the other had
  pub exchanged-bytes : (fork : Fork) → bytes_in (with_volume_state w volume new) fork ≡ bytes_in w (in_exchange volume pair fork)
  exchanged-bytes fork = by-volume (fork.volume == volume) refl
    where
      by-second : (fork.volume == volume) ≡ true → (fork.node == pair.first) ≡ false → (b : Bool) → (fork.node == pair.second) ≡ b → bytes_in (with_volume_state w volume new) fork ≡ bytes_in w (in_exchange volume pair fork)
      by-second here away true that =
          behind fork here
          ∙ ap (λ n. option_map (fork_of fork.resource) (row_at new.rows n)) (eqb-true fork.node pair.second that)
          ∙ x.second fork.resource
          ∙ sym (before (record fork { node = pair.first }) here ∙ ap (option_map (fork_of fork.resource)) first_is)
          ∙ ap (bytes_in w) (sym (exchanged-second volume pair fork here away that))
      by-second here away false neither =
          behind fork here
          ∙ ap (option_map (fork_of fork.resource)) (x.others fork.node away neither)
          ∙ sym (before fork here)
          ∙ ap (bytes_in w) (sym (exchanged-neither volume pair fork here away neither))

      by-first : (fork.volume == volume) ≡ true → (b : Bool) → (fork.node == pair.first) ≡ b → bytes_in (with_volume_state w volume new) fork ≡ bytes_in w (in_exchange volume pair fork)
      by-first here true that =
          behind fork here
          ∙ ap (λ n. option_map (fork_of fork.resource) (row_at new.rows n)) (eqb-true fork.node pair.first that)
          ∙ x.first fork.resource
          ∙ sym (before (record fork { node = pair.second }) here ∙ ap (option_map (fork_of fork.resource)) second_is)
          ∙ ap (bytes_in w) (sym (exchanged-first volume pair fork here that))
      by-first here false away = by-second here away (fork.node == pair.second) refl

      by-volume : (b : Bool) → (fork.volume == volume) ≡ b → bytes_in (with_volume_state w volume new) fork ≡ bytes_in w (in_exchange volume pair fork)
      by-volume true here = by-first here (fork.node == pair.first) refl
      by-volume false other =
          ap (λ q. bytes_on q fork) (state-other w.volumes volume fork.volume new (eqb-false fork.volume volume other))
          ∙ ap (bytes_in w) (sym (exchanged-elsewhere volume pair fork other))

  -- and where one has bytes, so has the other
  other-has : (fork : Fork) (bytes : List ℕ) → bytes_in w fork ≡ Some bytes → (others : List ℕ) × (bytes_in w (in_exchange volume pair fork) ≡ Some others)
  other-has fork bytes had = by-volume (fork.volume == volume) refl
    where
      by-second : (fork.volume == volume) ≡ true → (fork.node == pair.first) ≡ false → (b : Bool) → (fork.node == pair.second) ≡ b → (others : List ℕ) × (bytes_in w (in_exchange volume pair fork) ≡ Some others)
      by-second here away true that = (fork_of fork.resource one, ap (bytes_in w) (exchanged-second volume pair fork here away that) ∙ before (record fork { node = pair.first }) here ∙ ap (option_map (fork_of fork.resource)) first_is)
      by-second here away false neither = (bytes, ap (bytes_in w) (exchanged-neither volume pair fork here away neither) ∙ had)

      by-first : (fork.volume == volume) ≡ true → (b : Bool) → (fork.node == pair.first) ≡ b → (others : List ℕ) × (bytes_in w (in_exchange volume pair fork) ≡ Some others)
      by-first here true that = (fork_of fork.resource two, ap (bytes_in w) (exchanged-first volume pair fork here that) ∙ before (record fork { node = pair.second }) here ∙ ap (option_map (fork_of fork.resource)) second_is)
      by-first here false away = by-second here away (fork.node == pair.second) refl

      by-volume : (b : Bool) → (fork.volume == volume) ≡ b → (others : List ℕ) × (bytes_in w (in_exchange volume pair fork) ≡ Some others)
      by-volume true here = by-first here (fork.node == pair.first) refl
      by-volume false other = (bytes, ap (bytes_in w) (exchanged-elsewhere volume pair fork other) ∙ had)

  pub pair-changes : (fork : Fork) (bytes : List ℕ) → bytes_in w fork ≡ Some bytes → bytes_in (with_volume_state w volume new) fork ≡ Some (changed_by_all (exchanged_for w volume fork (Some pair)) bytes)
  pair-changes fork bytes had = by (is_one_fork (in_exchange volume pair fork) fork) refl
    where
      by : (b : Bool) → is_one_fork (in_exchange volume pair fork) fork ≡ b
          → bytes_in (with_volume_state w volume new) fork ≡ Some (changed_by_all (cond b [] (becomes_all (bytes_in w (in_exchange volume pair fork)))) bytes)
      by true same = exchanged-bytes fork ∙ ap (bytes_in w) ((one_fork (in_exchange volume pair fork) fork).0 same) ∙ had
      by false apart =
          let other = other-has fork bytes had in
          exchanged-bytes fork ∙ other.1 ∙ ap (λ q. Some (changed_by_all (becomes_all q) bytes)) (sym other.1)

pub exchange-changes : (volume dir second_dir : ℕ) (path second_path : PathValue) (w : World) (s : Session) (fork : Fork) (bytes : List ℕ) → IsSound w
    → first_holding ((exchange_files_row volume dir second_dir path second_path).refusals w s) ≡ None → bytes_in w fork ≡ Some bytes
    → bytes_in ((exchange_files_row volume dir second_dir path second_path).effect w s).world fork ≡ Some (changed_by_all (exchanged_for w volume fork (pair_on (volume_at w.volumes volume) (user_of s) dir path second_dir second_path)) bytes)
exchange-changes volume dir second_dir path second_path w s fork bytes h passes had =
    let e : Exchanged volume dir second_dir path second_path w s = exchanged-left volume dir second_dir path second_path w s passes h in
    let pair : Pair = e.exchange.pair in
    let may : MayExchange e.state pair.first pair.second = e.exchange.may in
    let is : pair_on (volume_at w.volumes volume) (user_of s) dir path second_dir second_path ≡ Some pair = ap (λ o. pair_on o (user_of s) dir path second_dir second_path) e.there ∙ e.exchange.is in
    ap (λ x. bytes_in x fork) e.left
    ∙ pair-changes w volume e.state (after_call e.state w.latest (Exchanges pair.first pair.second ∷ [])) pair may.first may.second e.there may.first_found may.second_found (pair-exchanged e.state w.latest pair may) fork bytes had
    ∙ ap (λ q. Some (changed_by_all (exchanged_for w volume fork q) bytes)) (sym is)

rejoins-volumes : (w : World) (s : Session) (old : Option Session) → (rejoins w s old).world.volumes ≡ w.volumes
rejoins-volumes w s None = refl
rejoins-volumes w s (Some o) = refl

pub call-changes : (w : World) (s : Session) (fork : Fork) (bytes : List ℕ) → IsSound w → has_open w fork ≡ true → bytes_in w fork ≡ Some bytes → (call : Call) → refusal w s call ≡ None → bytes_in (effect w s call).world fork ≡ Some (changed_by_all (changes_by w s fork call) bytes)
unfolding row
call-changes w s fork bytes h there had (calls.ByteRangeLock flags reference offset length) passes = (lock-leaves flags reference.0 offset length).leaves w s fork bytes there passes had
call-changes w s fork bytes h there had (calls.ByteRangeLockExt flags reference offset length) passes = (lock-ext-leaves flags reference.0 offset length).leaves w s fork bytes there passes had
call-changes w s fork bytes h there had (calls.CloseDir volume dir) passes = let l : LeavesForks (close_dir_row volume.0) = keeps-volumes (close_dir_row volume.0) (λ w s. refl) in l.leaves w s fork bytes there passes had
call-changes w s fork bytes h there had (calls.CloseFork reference) passes = (close-fork-leaves reference.0).leaves w s fork bytes there passes had
call-changes w s fork bytes h there had (calls.CloseVol volume) passes = let l : LeavesForks (close_vol_row volume.0) = keeps-volumes (close_vol_row volume.0) (λ w s. refl) in l.leaves w s fork bytes there passes had
call-changes w s fork bytes h there had (calls.CreateDir volume dir path) passes = (tree-leaves volume.0 (trees.CreateDir dir.0 path) (λ v. Node (node_id (create_dir_id v)))).leaves w s fork bytes there passes had
call-changes w s fork bytes h there had (calls.CreateFile flag volume dir path) passes = (tree-leaves volume.0 (trees.CreateFile (is_hard flag) dir.0 path) (λ v. Empty)).leaves w s fork bytes there passes had
call-changes w s fork bytes h there had (calls.Delete volume dir path) passes = (tree-leaves volume.0 (trees.Delete dir.0 path) (λ v. Empty)).leaves w s fork bytes there passes had
call-changes w s fork bytes h there had (calls.DisconnectOldSession kind token) passes = let l : LeavesForks (disconnect_old_session_row token) = keeps-volumes (disconnect_old_session_row token) (λ w s. rejoins-volumes w s (old_session_in w s token)) in l.leaves w s fork bytes there passes had
call-changes w s fork bytes h there had (calls.Enumerate volume dir file_bits dir_bits count start size path) passes = let l : LeavesForks (enumerate_row volume.0 dir.0 file_bits dir_bits count start size path) = tells-leave volume.0 _ _ in l.leaves w s fork bytes there passes had
call-changes w s fork bytes h there had (calls.EnumerateExt volume dir file_bits dir_bits count start size path) passes = let l : LeavesForks (enumerate_ext_row volume.0 dir.0 file_bits dir_bits count start size path) = tells-leave volume.0 _ _ in l.leaves w s fork bytes there passes had
call-changes w s fork bytes h there had (calls.EnumerateExt2 volume dir file_bits dir_bits count start size path) passes = let l : LeavesForks (enumerate_ext2_row volume.0 dir.0 file_bits dir_bits count start size path) = tells-leave volume.0 _ _ in l.leaves w s fork bytes there passes had
call-changes w s fork bytes h there had (calls.Flush volume) passes = let l : LeavesForks (flush_row volume.0) = keeps-volumes (flush_row volume.0) (λ w s. refl) in l.leaves w s fork bytes there passes had
call-changes w s fork bytes h there had (calls.FlushFork reference) passes = (flush-fork-leaves reference.0).leaves w s fork bytes there passes had
call-changes w s fork bytes h there had (calls.GetFileDirParms volume dir file_bits dir_bits path) passes = let l : LeavesForks (get_file_dir_parms_row volume.0 dir.0 file_bits dir_bits path) = tells-leave volume.0 _ _ in l.leaves w s fork bytes there passes had
call-changes w s fork bytes h there had (calls.GetForkParms reference bits) passes = (get-fork-parms-leaves reference.0 bits).leaves w s fork bytes there passes had
call-changes w s fork bytes h there had (calls.GetVolParms volume bits) passes = let l : LeavesForks (get_vol_parms_row volume.0 bits) = tells-leave volume.0 _ _ in l.leaves w s fork bytes there passes had
call-changes w s fork bytes h there had calls.GetSrvrInfo passes = had
call-changes w s fork bytes h there had (calls.GetSrvrMsg kind bits) passes = had
call-changes w s fork bytes h there had calls.GetSrvrParms passes = had
call-changes w s fork bytes h there had (calls.GetUserInfo flag id bits) passes = had
call-changes w s fork bytes h there had (calls.Login version uam rest) passes = let l : LeavesForks (login_row version uam rest) = keeps-volumes (login_row version uam rest) (λ w s. refl) in l.leaves w s fork bytes there passes had
call-changes w s fork bytes h there had (calls.LoginExt flags version uam name path_kind path rest) passes = let l : LeavesForks (login_ext_row version uam name rest) = keeps-volumes (login_ext_row version uam name rest) (λ w s. refl) in l.leaves w s fork bytes there passes had
call-changes w s fork bytes h there had (calls.MapID function id) passes = had
call-changes w s fork bytes h there had (calls.MapName function name) passes = had
call-changes w s fork bytes h there had (calls.MoveAndRename volume dir target_dir path target_path new_path) passes = (tree-leaves volume.0 (trees.MoveAndRename dir.0 path target_dir.0 target_path new_path) (λ v. Empty)).leaves w s fork bytes there passes had
call-changes w s fork bytes h there had (calls.OpenDir volume dir path) passes = let l : LeavesForks (open_dir_row volume.0 dir.0 path) = tells-leave volume.0 _ _ in l.leaves w s fork bytes there passes had
call-changes w s fork bytes h there had (calls.OpenFork flag volume dir bits mode path) passes = (open-fork-leaves flag volume.0 dir.0 bits mode path).leaves w s fork bytes there passes had
call-changes w s fork bytes h there had (calls.OpenVol bits name) passes = let l : LeavesForks (open_vol_row bits name) = open-vol-leaves bits name in l.leaves w s fork bytes there passes had
call-changes w s fork bytes h there had (calls.Read reference offset count mask character) passes = (read-leaves reference.0 offset count mask character).leaves w s fork bytes there passes had
call-changes w s fork bytes h there had (calls.ReadExt reference offset count) passes = (read-ext-leaves reference.0 offset count).leaves w s fork bytes there passes had
call-changes w s fork bytes h there had (calls.Rename volume dir path new_path) passes = (tree-leaves volume.0 (trees.Rename dir.0 path new_path) (λ v. Empty)).leaves w s fork bytes there passes had
call-changes w s fork bytes h there had (calls.SetDirParms volume dir bits path rest) passes = (tree-leaves-unless (λ w. set_dir_parms_behind (user_ids w.house.users) bits rest) volume.0 (trees.SetDirParms dir.0 bits path rest) (λ v. Empty)).leaves w s fork bytes there passes had
call-changes w s fork bytes h there had (calls.SetFileDirParms volume dir bits path rest) passes = (tree-leaves volume.0 (trees.SetFileDirParms dir.0 bits path rest) (λ v. Empty)).leaves w s fork bytes there passes had
call-changes w s fork bytes h there had (calls.SetFileParms volume dir bits path rest) passes = (tree-leaves volume.0 (trees.SetFileParms dir.0 bits path rest) (λ v. Empty)).leaves w s fork bytes there passes had
call-changes w s fork bytes h there had (calls.SetForkParms reference bits rest) passes = length-changes reference.0 bits rest w s fork bytes h had
call-changes w s fork bytes h there had (calls.SetVolParms volume bits rest) passes = (tree-leaves volume.0 (trees.SetVolParms bits rest) (λ v. Empty)).leaves w s fork bytes there passes had
call-changes w s fork bytes h there had (calls.Write flag reference offset count piece) passes = write-changes reference.0 (record { from_end = is_from_end flag; offset = offset; count = pos count; piece = piece }) (λ end. End end) w s fork bytes h had
call-changes w s fork bytes h there had (calls.WriteExt flag reference offset count piece) passes = write-changes reference.0 (record { from_end = is_from_end flag; offset = offset; count = count; piece = piece }) (λ end. EndExt end) w s fork bytes h had
call-changes w s fork bytes h there had (calls.AddAPPL dt dir creator tag path) passes = (changes-leave dt (volumes.AddAPPL dir.0 creator tag path) (λ user v. Empty) (add-appl-gentle dir.0 creator tag path)).leaves w s fork bytes there passes had
call-changes w s fork bytes h there had (calls.AddComment dt dir path comment) passes = (changes-leave dt (volumes.AddComment dir.0 path comment) (λ user v. Empty) (add-comment-gentle dir.0 path comment)).leaves w s fork bytes there passes had
call-changes w s fork bytes h there had (calls.AddIcon dt creator kind icon_kind tag size piece) passes = (changes-leave dt (volumes.AddIcon (icon_of creator kind icon_kind tag piece)) (λ user v. Empty) (add-icon-gentle (icon_of creator kind icon_kind tag piece))).leaves w s fork bytes there passes had
call-changes w s fork bytes h there had (calls.CloseDT dt) passes = let l : LeavesForks (close_dt_row dt) = tells-leave dt _ _ in l.leaves w s fork bytes there passes had
call-changes w s fork bytes h there had (calls.CopyFile volume dir target_volume target_dir path target_path new_path) passes = (copies-leave (record { volume = volume.0; dir = dir.0; path = path; target = target_volume.0; target_dir = target_dir.0; target_path = target_path; new_path = new_path })).leaves w s fork bytes there passes had
call-changes w s fork bytes h there had (calls.CreateID volume dir path) passes = (changes-leave volume.0 (volumes.CreateID dir.0 path) (λ user v. open_dir_reply (created_id v user dir.0 path)) (create-id-gentle dir.0 path)).leaves w s fork bytes there passes had
call-changes w s fork bytes h there had (calls.DeleteID volume id) passes = (changes-leave volume.0 (volumes.DeleteID id.0) (λ user v. Empty) (delete-id-gentle id.0)).leaves w s fork bytes there passes had
call-changes w s fork bytes h there had (calls.ExchangeFiles volume dir second_dir path second_path) passes = exchange-changes volume.0 dir.0 second_dir.0 path second_path w s fork bytes h passes had
call-changes w s fork bytes h there had (calls.GetAPPL dt creator index bits) passes = let l : LeavesForks (get_appl_row dt creator index bits) = tells-leave dt _ _ in l.leaves w s fork bytes there passes had
call-changes w s fork bytes h there had (calls.GetComment dt dir path) passes = let l : LeavesForks (get_comment_row dt dir.0 path) = tells-leave dt _ _ in l.leaves w s fork bytes there passes had
call-changes w s fork bytes h there had (calls.GetIcon dt creator kind icon_kind count) passes = let l : LeavesForks (get_icon_row dt creator kind icon_kind count) = tells-leave dt _ _ in l.leaves w s fork bytes there passes had
call-changes w s fork bytes h there had (calls.GetIconInfo dt creator index) passes = let l : LeavesForks (get_icon_info_row dt creator index) = tells-leave dt _ _ in l.leaves w s fork bytes there passes had
call-changes w s fork bytes h there had (calls.OpenDT volume) passes = let l : LeavesForks (open_dt_row volume.0) = tells-leave volume.0 _ _ in l.leaves w s fork bytes there passes had
call-changes w s fork bytes h there had (calls.RemoveAPPL dt dir creator path) passes = (changes-leave dt (volumes.RemoveAPPL dir.0 creator path) (λ user v. Empty) (remove-appl-gentle dir.0 creator path)).leaves w s fork bytes there passes had
call-changes w s fork bytes h there had (calls.RemoveComment dt dir path) passes = (changes-leave dt (volumes.RemoveComment dir.0 path) (λ user v. Empty) (remove-comment-gentle dir.0 path)).leaves w s fork bytes there passes had
call-changes w s fork bytes h there had (calls.ResolveID volume id bits) passes = let l : LeavesForks (resolve_id_row volume.0 id.0 bits) = tells-leave volume.0 _ _ in l.leaves w s fork bytes there passes had
call-changes w s fork bytes h there had calls.Logout passes = had
call-changes w s fork bytes h there had call passes = had
