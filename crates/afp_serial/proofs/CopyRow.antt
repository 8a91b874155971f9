-- What FPCopyFile owes: from one volume into another, or into the same.
use Rattle.std.proofs.Common.{◌==◌, ◌≡◌, ◌∙◌, ap, sym, refl, ℕ, Bool, true, false, not, List, [], ◌∷◌, Option, Some, None}
use Rattle.std.specs.Prelude.{Result, Ok, Err, option_map}
use Rattle.std.specs.List.{list_all}
use Rattle.std.proofs.lemmas.Bool.{and_from, and_parts, cond_both}
use Rattle.afp_base.proofs.ListFacts.{find-all}
use Rattle.afp_base.specs.Choice.{first_holding}
use Rattle.afp_base.specs.declared.code.Code.{Code}
use Rattle.afp_base.specs.declared.code.Code.TheVariants.{AccessDenied, DenyConflict, DiskFull, ObjectExists, ObjectTypeErr, Ok as NoCode, ParamErr}
use Rattle.afp_base.specs.declared.ids.NodeId.{NodeId}
use Rattle.afp_base.specs.declared.ids.VolumeId.{VolumeId}
use Rattle.afp_names.specs.Path.{PathValue}
use Rattle.afp_replies.proofs.Asking.{nothing_fits}
use Rattle.afp_replies.specs.Commands.{rows, shape_in, shape_of}
use Rattle.afp_replies.specs.Requested.{tells_nothing}
use Rattle.afp_replies.specs.declared.reply.Reply.TheVariants.{Empty}
use Rattle.afp_calls_grammar.specs.grammar.Words.{pathname}
use Rattle.afp_calls_grammar.specs.declared.grammar.call.Call.{Call}
use Rattle.afp_calls_grammar.specs.declared.grammar.call.Call.TheVariants as calls
use Rattle.afp_serial.proofs.LawfulCalls.{field-lawful}
use Rattle.afp_serial.proofs.OnVolumeRows.{Asks, IsToldTo, done-keeps, refused_before-none, told-shown}
use Rattle.afp_serial.proofs.OpenForkRow.{IsFileFound, found-file}
use Rattle.afp_serial.proofs.SessionUsers.{user-long}
use Rattle.afp_serial.proofs.SoundParts.{ApartSessions}
use Rattle.afp_serial.proofs.SoundRow.{AreRefusedTo, IsRefusedTo, IsSoundRow, first-told, is_ok, no_more-kept, no_more-told, tells_no_more}
use Rattle.afp_serial.proofs.ToldReplies.{empty-told}
use Rattle.afp_serial.proofs.VolumeCodes.{copied-refuses, down-or-fails, fails_rightly, found-fails, is_refusal}
use Rattle.afp_serial.proofs.VolumeRows.{change-sound, edits-keep, edits-keeper}
use Rattle.afp_serial.proofs.VolumeStates.{IsServed, served-at}
use Rattle.afp_serial.specs.CopyFile.{CopyAsked, copies, copy_call, copy_edits, copy_file_row, copy_refused, is_held, source_of, source_on}
use Rattle.afp_serial.specs.KeptAnswers.{is_kept_code}
use Rattle.afp_serial.specs.LawfulCall.{is_lawful_call}
use Rattle.afp_serial.specs.OnVolume.{done_on, refused_on}
use Rattle.afp_serial.specs.ReplyKinds.{command_of, reply_kind}
use Rattle.afp_serial.specs.SessionLaws.{SessionsAfter, all_stay, logs_in}
use Rattle.afp_serial.specs.Sound.{IsSound}
use Rattle.afp_serial.specs.VolumeRows.{with_edits}
use Rattle.afp_serial.specs.World.{Effect, Refusal, has_session, plain, refused_before, user_of, vol, volume_at, with_empty_reply, World, Session}
use Rattle.volume_spec.proofs.Formed.{formed-parts}
use Rattle.volume_spec.proofs.TypedEdits.{typed-parts}
use Rattle.volume_spec.specs.CopyFile.{Source, copied_refusal, copy_file_refusal}
use Rattle.volume_spec.specs.Edit.{Edit}
use Rattle.volume_spec.specs.OpenFork.{open_fork_file}
use Rattle.volume_spec.specs.Rights.{lacks, read_right, write_right}
use Rattle.volume_spec.specs.Shared.{behind, first_or, lacks_above}
use Rattle.volume_spec.specs.SoundVolume.{is_formed}
use Rattle.volume_spec.specs.TypedVolume.{is_long, is_typed_row}
use Rattle.volume_spec.specs.VolumeState.{Row as File, VolumeState}
use Rattle.volume_spec.specs.Walk.{found, has_directory, is_named_path, one_down_or, row_at}

-- refusals: the opens of the source may deny the copy

abbrev is_copy_code : Code → Bool
is_copy_code DenyConflict = true
is_copy_code code = tells_no_more code

abbrev is_copy_refusal : Option Code → Bool
is_copy_refusal None = true
is_copy_refusal (Some code) = is_copy_code code

no_more-copy : (code : Code) → tells_no_more code ≡ true → is_copy_code code ≡ true
no_more-copy DenyConflict h = refl
no_more-copy code h = h

refusal-copy : (o : Option Code) → is_refusal o ≡ true → is_copy_refusal o ≡ true
refusal-copy None h = refl
refusal-copy (Some code) h = no_more-copy code h

first-copy : (rows : List (Bool × Code)) → list_all (λ row. is_copy_code row.1) rows ≡ true → is_copy_refusal (first_holding rows) ≡ true
first-copy [] h = refl
first-copy (row ∷ rows) h =
    let e = and_parts (is_copy_code row.1) (list_all (λ (r : Bool × Code). is_copy_code r.1) rows) h in
    cond_both row.0 (Some row.1) (first_holding rows) (λ o. is_copy_refusal o ≡ true) (λ holds. e.0) (λ other. first-copy rows e.1)

or-copy : (rows : List (Bool × Code)) (rest : Option Code) → list_all (λ row. is_copy_code row.1) rows ≡ true → is_copy_refusal rest ≡ true → is_copy_refusal (first_or rows rest) ≡ true
or-copy [] rest h k = k
or-copy (row ∷ rows) rest h k =
    let e = and_parts (is_copy_code row.1) (list_all (λ (r : Bool × Code). is_copy_code r.1) rows) h in
    cond_both row.0 (Some row.1) (first_or rows rest) (λ o. is_copy_refusal o ≡ true) (λ holds. e.0) (λ other. or-copy rows rest e.1 k)

behind-copy : {A : Type 0} (r : Result A Code) (refused : A → Option Code) → fails_rightly r ≡ true → ((a : A) → is_copy_refusal (refused a) ≡ true) → is_copy_refusal (behind r refused) ≡ true
behind-copy (Ok a) refused h gives = gives a
behind-copy (Err code) refused h gives = no_more-copy code h

copy-refuses : (v : VolumeState) (user : ℕ) (source : Source) (dir : ℕ) (path new : PathValue) → is_copy_refusal (copy_file_refusal v user source dir path new) ≡ true
unfolding copy_file_refusal
copy-refuses v user source dir path new =
    behind-copy (found v.rows user dir path) _ (found-fails v.rows user dir path)
    (λ target. or-copy ((not (has_directory v.rows target), ObjectTypeErr) ∷ (source.denied, AccessDenied) ∷ (lacks v.rows user write_right target, AccessDenied) ∷ []) _ refl
    (behind-copy (one_down_or source.file.name new.steps) _ (down-or-fails source.file.name new.steps) (λ name. first-copy ((_, ObjectExists) ∷ (_, DenyConflict) ∷ (_, DiskFull) ∷ (_, DiskFull) ∷ []) refl)))

target-refuses : (user : ℕ) (asked : CopyAsked) (o : Option VolumeState) (q : Option Source) → is_copy_refusal (copy_refused user asked o q) ≡ true
target-refuses user asked o None = refl
target-refuses user asked None (Some source) = refl
target-refuses user asked (Some v) (Some source) = copy-refuses v user source asked.target_dir asked.target_path asked.new_path

source-refuses : (user : ℕ) (asked : CopyAsked) (o : Option VolumeState) → is_copy_refusal (refused_on o (λ v. copied_refusal v user asked.dir asked.path)) ≡ true
source-refuses user asked None = refl
source-refuses user asked (Some v) = refusal-copy (copied_refusal v user asked.dir asked.path) (copied-refuses v user asked.dir asked.path)

-- a call whose requests are told nothing with such a code
abbrev TellsNothing : Call → Type 0
TellsNothing call = (code : Code) → is_copy_code code ≡ true → tells_nothing (shape_of (command_of call)) code ≡ true

copy-ok : (code : Code) → is_copy_code code ≡ true → is_ok code ≡ false
copy-ok NoCode h = absurd (cc)
copy-ok code h = refl

copy-kept : (code : Code) → is_copy_code code ≡ true → is_kept_code code ≡ true
copy-kept DenyConflict h = refl
copy-kept code h = no_more-kept code h

copy-told : (call : Call) → TellsNothing call → (code : Code) → is_copy_code code ≡ true → IsRefusedTo call (plain code)
copy-told call nothing code h = record {
  code = copy-ok code h;
  kept = copy-kept code h;
  short = refl;
  fits = nothing_fits (reply_kind call) code (nothing code h);
}

before-told : (call : Call) → TellsNothing call → (o : Option Code) (rest : List Refusal) → is_copy_refusal o ≡ true → AreRefusedTo call rest → AreRefusedTo call (refused_before o rest)
before-told call nothing None rest h k = k
before-told call nothing (Some code) rest h k = (copy-told call nothing code h, k)

-- what is not refused

behind-row : (row : Refusal) (rows : List Refusal) → first_holding (row ∷ rows) ≡ None → first_holding rows ≡ None
behind-row row rows h = cond_both row.0 (Some row.1) (first_holding rows) (λ o. o ≡ None → first_holding rows ≡ None) (λ holds k. absurd (cc)) (λ other k. k) h

target-passes : (w : World) (s : Session) (asked : CopyAsked) → first_holding ((copies asked).refusals w s) ≡ None → copy_refused (user_of s) asked (volume_at w.volumes asked.target) (source_of w (user_of s) asked) ≡ None
target-passes w s asked passes =
    let target : Option Code = copy_refused (user_of s) asked (volume_at w.volumes asked.target) (source_of w (user_of s) asked) in
    let source : Option Code = refused_on (volume_at w.volumes asked.volume) (λ v. copied_refusal v (user_of s) asked.dir asked.path) in
    let two : List Refusal = refused_before source (refused_before target []) in
    let both = behind-row (vol s asked.target) two (behind-row (vol s asked.volume) (vol s asked.target ∷ two) passes) in
    (refused_before-none target [] (refused_before-none source (refused_before target []) both).1).0

-- the file is one of a sound volume

row-good : (v : VolumeState) (file : File) → IsFileFound v file → (p : File → Bool) → list_all p v.rows ≡ true → p file ≡ true
unfolding row_at
row-good v file f p all = find-all (λ (r : File). r.id == f.id) p v.rows file f.row all

source-good : (w : World) (user : ℕ) (asked : CopyAsked) (source : Source) → IsSound w → source_of w user asked ≡ Some source → (is_formed source.file ≡ true) × (is_typed_row source.file ≡ true)
source-good w user asked source h is = by (volume_at w.volumes asked.volume) refl is
  where
    of-file : (v : VolumeState) (q : Option File) → volume_at w.volumes asked.volume ≡ Some v → open_fork_file v user asked.dir asked.path ≡ q
        → option_map (λ (file : File). record { file = file; held = is_held w asked.volume file.id; denied = lacks_above v.rows user read_right file.id }) q ≡ Some source → (is_formed source.file ≡ true) × (is_typed_row source.file ≡ true)
    of-file v None there from k = absurd (cc)
    of-file v (Some file) there from k =
        let same : record { file = file; held = is_held w asked.volume file.id; denied = lacks_above v.rows user read_right file.id } ≡ source = cc in
        let f : IsFileFound v file = found-file v user asked.dir asked.path file from in
        let served : IsServed v asked.volume = served-at w asked.volume v h there in (
          ap (λ (x : Source). is_formed x.file) (sym same) ∙ row-good v file f is_formed (formed-parts v served.sound.formed).rows,
          ap (λ (x : Source). is_typed_row x.file) (sym same) ∙ row-good v file f is_typed_row (typed-parts v served.typed).rows,
        )

    by : (o : Option VolumeState) → volume_at w.volumes asked.volume ≡ o → source_on w user asked.volume o asked.dir asked.path ≡ Some source → (is_formed source.file ≡ true) × (is_typed_row source.file ≡ true)
    by None there k = absurd (cc)
    by (Some v) there k = of-file v (open_fork_file v user asked.dir asked.path) there refl k

copied-sound : (w : World) (user : ℕ) (asked : CopyAsked) → is_long user ≡ true → is_named_path asked.new_path ≡ true → copy_refused user asked (volume_at w.volumes asked.target) (source_of w user asked) ≡ None → IsSound w
    → IsSound (done_on (volume_at w.volumes asked.target) w (λ v. with_empty_reply (with_edits w asked.target v (copy_edits w user asked (source_of w user asked) v)))).world
copied-sound w user asked long named passes h = by (source_of w user asked) (volume_at w.volumes asked.target) refl refl passes
  where
    by : (q : Option Source) (o : Option VolumeState) → source_of w user asked ≡ q → volume_at w.volumes asked.target ≡ o → copy_refused user asked o q ≡ None
        → IsSound (done_on o w (λ v. with_empty_reply (with_edits w asked.target v (copy_edits w user asked q v)))).world
    by None None from there clear = h
    by None (Some v) from there clear = h
    by (Some source) None from there clear = h
    by (Some source) (Some v) from there clear =
        let good = source-good w user asked source h from in
        change-sound w user asked.target v (copy_call asked source) long (and_from (is_formed source.file) (is_named_path asked.new_path) good.0 named) good.1 there clear h

-- the row

copies-sound : (call : Call) (asked : CopyAsked) → Asks call Empty → TellsNothing call → (is_lawful_call call ≡ true → is_named_path asked.new_path ≡ true) → IsSoundRow call (copies asked)
copies-sound call asked asks nothing named = record {
  refuses = λ w s r is h. first-told call ((copies asked).refusals w s) r is (
    no_more-told call (plain ParamErr) refl,
    (
      no_more-told call (plain ParamErr) refl,
      before-told call nothing (refused_on (volume_at w.volumes asked.volume) (λ v. copied_refusal v (user_of s) asked.dir asked.path)) _ (source-refuses (user_of s) asked (volume_at w.volumes asked.volume))
          (before-told call nothing (copy_refused (user_of s) asked (volume_at w.volumes asked.target) (source_of w (user_of s) asked)) [] (target-refuses (user_of s) asked (volume_at w.volumes asked.target) (source_of w (user_of s) asked)) tt),
    ),
  );
  sound = λ w s test lawful found passes h. copied-sound w (user_of s) asked (user-long w s test found h) (named lawful) (target-passes w s asked passes) h;
  fits = λ w s lawful passes h. (told w s).short;
  shown = λ w s lawful passes h known. told-shown call (done_on (volume_at w.volumes asked.target) w (does w s)).reply (told w s);
  apart = λ w s test found a. done-keeps ApartSessions (volume_at w.volumes asked.target) w (does w s) a
      (λ v. edits-keep ApartSessions w asked.target v (edits w s v) a (λ new. record { numbers = a.numbers; links = a.links; below = a.below }));
  next = λ w s. done-keeps (λ x. x.next_link ≡ w.next_link) (volume_at w.volumes asked.target) w (does w s) refl (λ v. edits-keep (λ x. x.next_link ≡ w.next_link) w asked.target v (edits w s v) refl (λ new. refl));
  keeper = λ w s index passes commits. edits-keeper w asked.target index (edits w s) commits;
  old = λ w s n h. done-keeps (λ x. has_session x.sessions n ≡ true → has_session w.sessions n ≡ true) (volume_at w.volumes asked.target) w (does w s) (λ h. h)
      (λ v. edits-keep (λ x. has_session x.sessions n ≡ true → has_session w.sessions n ≡ true) w asked.target v (edits w s v) (λ h. h) (λ new h. h)) h;
  cached = λ w s test found p h. done-keeps (λ x. list_all (λ y. p y.number y.cache) x.sessions ≡ true) (volume_at w.volumes asked.target) w (does w s) h
      (λ v. edits-keep (λ x. list_all (λ y. p y.number y.cache) x.sessions ≡ true) w asked.target v (edits w s v) h (λ new. h));
  leaves = λ stays w s. done-keeps (SessionsAfter (logs_in call) w s) (volume_at w.volumes asked.target) w (does w s) (all_stay refl)
      (λ v. edits-keep (SessionsAfter (logs_in call) w s) w asked.target v (edits w s v) (all_stay refl) (λ new. all_stay refl));
}
  where
    edits : World → Session → VolumeState → List Edit
    edits w s v = copy_edits w (user_of s) asked (source_of w (user_of s) asked) v

    does : World → Session → VolumeState → Effect
    does w s v = with_empty_reply (with_edits w asked.target v (copy_edits w (user_of s) asked (source_of w (user_of s) asked) v))

    told : (w : World) (s : Session) → IsToldTo call (done_on (volume_at w.volumes asked.target) w (does w s)).reply
    told w s = by (volume_at w.volumes asked.target)
      where
        by : (o : Option VolumeState) → IsToldTo call (done_on o w (does w s)).reply
        by None = empty-told call asks
        by (Some v) = empty-told call asks

copy-file-asks : (volume : VolumeId) (dir : NodeId) (target_volume : VolumeId) (target_dir : NodeId) (path target_path new_path : PathValue) → Asks (calls.CopyFile volume dir target_volume target_dir path target_path new_path) Empty
unfolding shape_of shape_in rows
copy-file-asks volume dir target_volume target_dir path target_path new_path = refl

copy-file-nothing : (volume : VolumeId) (dir : NodeId) (target_volume : VolumeId) (target_dir : NodeId) (path target_path new_path : PathValue) → TellsNothing (calls.CopyFile volume dir target_volume target_dir path target_path new_path)
unfolding shape_of shape_in rows
copy-file-nothing volume dir target_volume target_dir path target_path new_path NoCode h = absurd (cc)
copy-file-nothing volume dir target_volume target_dir path target_path new_path code h = refl

pub copy-file-sound : (volume : VolumeId) (dir : NodeId) (target_volume : VolumeId) (target_dir : NodeId) (path target_path new_path : PathValue)
    → IsSoundRow (calls.CopyFile volume dir target_volume target_dir path target_path new_path) (copy_file_row volume.0 dir.0 target_volume.0 target_dir.0 path target_path new_path)
copy-file-sound volume dir target_volume target_dir path target_path new_path =
    copies-sound (calls.CopyFile volume dir target_volume target_dir path target_path new_path) _
    (copy-file-asks volume dir target_volume target_dir path target_path new_path) (copy-file-nothing volume dir target_volume target_dir path target_path new_path)
    (λ lawful. field-lawful (calls.CopyFile volume dir target_volume target_dir path target_path new_path) 8 (pathname new_path) lawful refl)
