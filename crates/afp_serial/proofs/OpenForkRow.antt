-- What FPOpenFork owes.
use Rattle.std.proofs.Common.{◌==◌, ◌≡◌, ◌∙◌, ap, sym, refl, subst, ℕ, suc, ◌+◌, ◌<◌, ◌≤◌, arith, Bool, true, false, not, ◌&&◌, cond, List, [], ◌∷◌, ◌++◌, length, Option, Some, None}
use Rattle.std.specs.Prelude.{Result, Ok, Err, count_by, find, nat_le}
use Rattle.std.specs.List.{list_all, list_any}
use Rattle.std.proofs.lemmas.Bool.{and_parts, and_from, both_ways, eq-eqb, eqb-true, leb-false, leb-true, le-leb, or_left, or_right, not-false}
use Rattle.std.proofs.lemmas.List.{length-append}
use Rattle.afp_base.specs.Cached.{Kept}
use Rattle.afp_base.specs.Limits.{most_forks, most_locks, payload_limit}
use Rattle.afp_base.specs.Choice.{first_holding}
use Rattle.afp_base.specs.DenyMode.{Access, Fork, do_conflict, is_clash, is_denied_by, is_one_fork}
use Rattle.afp_base.specs.Overlap.{do_meet}
use Rattle.afp_base.specs.declared.code.Code.{Code}
use Rattle.afp_base.specs.declared.code.Code.TheVariants.{AccessDenied, BitmapErr, DenyConflict, ObjectLocked, ObjectTypeErr, ParamErr, TooManyFilesOpen}
use Rattle.afp_base.specs.declared.ids.NodeId.{NodeId}
use Rattle.afp_base.specs.declared.ids.VolumeId.{VolumeId}
use Rattle.afp_bitmap.specs.Bits.{file_mask, is_outside}
use Rattle.afp_bitmap.specs.Params.{params, IsAnswer}
use Rattle.afp_bitmap.specs.declared.file.FileValues.{FileValues}
use Rattle.afp_bitmap.specs.declared.params.Values.{Values}
use Rattle.afp_bitmap.specs.declared.params.Values.TheVariants.{File as FileParams}
use Rattle.afp_names.specs.Path.{PathValue}
use Rattle.afp_replies.specs.Commands.{rows, shape_in, shape_of}
use Rattle.afp_replies.specs.Replies.{canonical_reply}
use Rattle.afp_replies.specs.Requested.{IsTold}
use Rattle.afp_replies.specs.declared.reply.Reply.TheVariants.{Opened}
use Rattle.afp_calls_grammar.specs.declared.grammar.call.Call.{Call}
use Rattle.afp_calls_grammar.specs.declared.grammar.call.Call.TheVariants as calls
use Rattle.afp_serial.proofs.ForkRows.{file-answer}
use Rattle.afp_serial.proofs.FreeReferences.{lowest-free, lowest-within, opens-few}
use Rattle.afp_serial.proofs.ListShown.{within}
use Rattle.afp_serial.proofs.LockRows.{fork-sym}
use Rattle.afp_serial.proofs.OnForkRows.{none-refused}
use Rattle.afp_serial.proofs.OnVolumeRows.{Asks, IsToldTo, refused_before-none, told-shown}
use Rattle.afp_serial.proofs.ParamsSize.{params-size}
use Rattle.afp_serial.proofs.PlacedLists.{all-placed, any-placed, apart-placed, apart-where, count-placed, find-any, one_if}
use Rattle.afp_serial.proofs.SoundParts.{ApartSessions, KeptLimits, LawfulLocks, LawfulOpens, do_clash, do_overlap, keeps_forks, keeps_locks, limits-parts, limits-whole, locks-parts, locks-whole, opens-parts, opens-whole, same_reference}
use Rattle.afp_serial.proofs.SoundRow.{IsRefusedTo, IsSoundRow, behind-first, first-told, is_short, no-keeper, no_more-refuses, no_more-told}
use Rattle.afp_serial.proofs.VolumeCodes.{is_refusal, open-fork-refuses}
use Rattle.afp_serial.proofs.VolumeStates.{IsServed, served-at}
use Rattle.afp_serial.specs.SessionLaws.{SessionsAfter, all_stay, logs_in}
use Rattle.afp_serial.specs.World.{Refused, plain, refused_before, has_opened, has_session, is_open, user_of, volume_at, World, Session, OpenFork, Lock}
use Rattle.afp_serial.specs.Fork.{OpenAsked, access_of, denied_of, file_asked, fork_in, fork_ref, has_most_forks, is_denied, lowest_free, new_fork, open_fork_row, opened_reply, opens_asked, opens_fork, with_fork, with_open}
use Rattle.afp_serial.specs.OnVolume.{opened_on, refused_on}
use Rattle.afp_serial.specs.ReplyKinds.{command_of, reply_kind}
use Rattle.afp_serial.specs.Sound.{IsSound, has_apart_sessions, has_lawful_caches, has_typed_fields, has_volume_open, is_file_of, is_lawful_open, share_fork, has_known_users}
use Rattle.volume_spec.proofs.Refusals.{none-first, none-holds}
use Rattle.volume_spec.proofs.SeenRows.{file-found, test-found}
use Rattle.volume_spec.proofs.Trees.{tree-parts}
use Rattle.volume_spec.proofs.Walks.{row-there}
use Rattle.volume_spec.specs.Rights.{read_right, write_right}
use Rattle.volume_spec.specs.Shared.{behind, done_at, has_attribute, lacks_above, write_inhibit}
use Rattle.volume_spec.specs.NodeValues.{file_values}
use Rattle.volume_spec.specs.OpenFork.{file_of, fork_values, is_resource, open_fork_file, open_fork_refusal}
use Rattle.volume_spec.specs.SoundVolume.{IsSoundVolume, has_file, has_node}
use Rattle.volume_spec.specs.VolumeState.{Row as File, VolumeState}
use Rattle.volume_spec.specs.Walk.{found, row_at}
use Rattle.afp_base.proofs.Facts.{contra, either}
use Rattle.afp_base.proofs.ListFacts.{all-weaker, any-weaker, count-none, find-passes, none-all}

-- the file that is found

pub record IsFileFound (v : VolumeState) (file : File) : Type 0 where
  pub id : ℕ
  pub row : row_at v.rows id ≡ Some file
  pub kind : file.dir ≡ false

file-kind : (v : VolumeState) (id : ℕ) (q : Option File) (file : File) → row_at v.rows id ≡ q → file_of q ≡ Some file → IsFileFound v file
file-kind v id None file row is = absurd (cc)
file-kind v id (Some other) file row is = by other.dir refl is
  where
    by : (b : Bool) → other.dir ≡ b → cond b None (Some other) ≡ Some file → IsFileFound v file
    by true dir h = absurd (cc)
    by false dir h = let same : other ≡ file = cc in subst (IsFileFound v) same (record { id = id; row = row; kind = dir })

pub found-file : (v : VolumeState) (user : ℕ) (dir : ℕ) (path : PathValue) (file : File) → open_fork_file v user dir path ≡ Some file → IsFileFound v file
unfolding open_fork_file
found-file v user dir path file is = by (found v.rows user dir path) is
  where
    by : (r : Result ℕ Code) → done_at r None (λ id. file_of (row_at v.rows id)) ≡ Some file → IsFileFound v file
    by (Ok id) h = file-kind v id (row_at v.rows id) file refl h
    by (Err code) h = absurd (cc)

file-is : (v : VolumeState) (file : File) → IsSoundVolume v → IsFileFound v file → has_file v.rows file.id ≡ true
unfolding row_at
file-is v file sound f =
    let same : file.id ≡ f.id = eqb-true file.id f.id (find-passes (λ (r : File). r.id == f.id) v.rows file f.row) in
    ap (has_file v.rows) same ∙ test-found v.rows f.id (λ row. not row.dir) file (tree-parts v sound.tree).apart f.row ∙ ap not f.kind

-- what is not refused

pub record Opens (w : World) (s : Session) (asked : OpenAsked) (dir : ℕ) (path : PathValue) : Type 0 where
  pub opened : has_opened s asked.volume ≡ true
  pub state : VolumeState
  pub there : volume_at w.volumes asked.volume ≡ Some state
  pub file : File
  pub is : open_fork_file state (user_of s) dir path ≡ Some file
  pub inside : is_outside file_mask asked.bits ≡ false
  pub agrees : is_denied w (fork_in asked file) asked.access ≡ false
  pub room : has_most_forks w s ≡ false

-- where a volume does not refuse there is a file
pub record VolumeOpens (v : VolumeState) (user bits dir : ℕ) (path : PathValue) : Type 0 where
  pub inside : is_outside file_mask bits ≡ false
  pub file : File
  pub is : open_fork_file v user dir path ≡ Some file

node-of : (v : VolumeState) (id : ℕ) → has_file v.rows id ≡ true → has_node v.rows id ≡ true
node-of v id h = any-weaker (λ (row : File). (row.id == id) && not row.dir) (λ (row : File). row.id == id) v.rows (λ row both. (and_parts (row.id == id) (not row.dir) both).0) h

volume-opens : (v : VolumeState) (user : ℕ) (bits : ℕ) (reads writes : Bool) (dir : ℕ) (path : PathValue) → IsSoundVolume v → open_fork_refusal v user bits reads writes dir path ≡ None → VolumeOpens v user bits dir path
unfolding open_fork_refusal open_fork_file
volume-opens v user bits reads writes dir path sound passes =
    let first = none-first ((is_outside file_mask bits, BitmapErr) ∷ []) _ passes in
    by (found v.rows user dir path) refl first.0.0 first.1
  where
    tests : ℕ → List (Bool × Code)
    tests id = (not (has_file v.rows id), ObjectTypeErr) ∷ (reads && lacks_above v.rows user read_right id, AccessDenied) ∷ (writes && lacks_above v.rows user write_right id, AccessDenied) ∷ (writes && has_attribute v.rows write_inhibit id, ObjectLocked) ∷ []

    kept : (id : ℕ) (file : File) → row_at v.rows id ≡ Some file → has_file v.rows id ≡ true → file_of (row_at v.rows id) ≡ Some file
    kept id file row is_file = ap file_of row ∙ ap (λ b. cond b None (Some file)) (file-found v.rows id file (tree-parts v sound.tree).apart row is_file)

    by : (r : Result ℕ Code) → found v.rows user dir path ≡ r → is_outside file_mask bits ≡ false → behind r (λ id. first_holding (tests id)) ≡ None → VolumeOpens v user bits dir path
    by (Err code) at_end inside h = absurd (cc)
    by (Ok id) at_end inside h =
        let none = none-holds (tests id) h in
        let is_file : has_file v.rows id ≡ true = not-false (has_file v.rows id) none.0 in
        let row = row-there v.rows id (node-of v id is_file) in
        record { inside = inside; file = row.0; is = ap (λ r. done_at r None (λ id. file_of (row_at v.rows id))) at_end ∙ kept id row.0 row.1 is_file }

pub opens-passed : (w : World) (s : Session) (asked : OpenAsked) (dir : ℕ) (path : PathValue) → IsSound w → first_holding ((opens_asked asked dir path).refusals w s) ≡ None → Opens w s asked dir path
opens-passed w s asked dir path h passes = by (has_opened s asked.volume) (volume_at w.volumes asked.volume) refl refl passes
  where
    told-of : (v : VolumeState) → has_opened s asked.volume ≡ true → volume_at w.volumes asked.volume ≡ Some v → VolumeOpens v (user_of s) asked.bits dir path → first_holding (denied_of w s asked (open_fork_file v (user_of s) dir path)) ≡ None → Opens w s asked dir path
    told-of v opened there found k =
        let none = none-refused (denied_of w s asked (Some found.file)) (ap (λ q. first_holding (denied_of w s asked q)) (sym found.is) ∙ k) in
        record { opened = opened; state = v; there = there; file = found.file; is = found.is; inside = found.inside; agrees = none.0; room = none.1.0 }

    by : (b : Bool) (q : Option VolumeState) → has_opened s asked.volume ≡ b → volume_at w.volumes asked.volume ≡ q
        → first_holding ((not b, plain ParamErr) ∷ refused_before (refused_on q (λ v. open_fork_refusal v (user_of s) asked.bits asked.access.read asked.access.write dir path)) (denied_of w s asked (file_asked q (user_of s) dir path))) ≡ None → Opens w s asked dir path
    by false q opened there k = absurd (cc)
    by true None opened there k = absurd (cc)
    by true (Some v) opened there k =
        let e = refused_before-none (open_fork_refusal v (user_of s) asked.bits asked.access.read asked.access.write dir path) (denied_of w s asked (open_fork_file v (user_of s) dir path)) k in
        told-of v opened there (volume-opens v (user_of s) asked.bits asked.access.read asked.access.write dir path (served-at w asked.volume v h there).sound e.0) e.1

-- the new fork among the open ones

conflict-sym : (f g : Fork) (a b : Access) → do_conflict f a g b ≡ true → do_conflict g b f a ≡ true
conflict-sym f g a b h =
    let e = and_parts (is_one_fork f g) (is_clash a b) h in
    and_from (is_one_fork g f) (is_clash b a) (fork-sym f g e.0)
    (either (is_denied_by a b) (is_denied_by b a) e.1
    (λ left. or_right (is_denied_by b a) (is_denied_by a b) left)
    (λ right. or_left (is_denied_by b a) (is_denied_by a b) right))

module _ (w : World) (s : Session) (asked : OpenAsked) (file : File) where
  new : OpenFork
  new = new_fork w s asked file

  with_new : World
  with_new = with_fork w (new_fork w s asked file)

  -- no open fork has its reference
  others : list_all (λ (o : OpenFork). not (o.reference == lowest_free w.opens)) w.opens ≡ true
  others = none-all (λ (o : OpenFork). o.reference == lowest_free w.opens) w.opens (ap not (lowest-free w.opens))

  new-opens : is_lawful_open w (new_fork w s asked file) ≡ true → is_denied w (fork_in asked file) asked.access ≡ false → LawfulOpens w → LawfulOpens with_new
  unfolding is_denied with_new
  new-opens lawful agrees p = record {
    references = apart-placed (λ (o : OpenFork). o.reference) (new_fork w s asked file) same_reference w.opens
        (all-weaker (λ (o : OpenFork). not (o.reference == lowest_free w.opens)) (λ (o : OpenFork). not (lowest_free w.opens == o.reference)) w.opens
        (λ o h. contra (o.reference == lowest_free w.opens) (lowest_free w.opens == o.reference) (λ same. eq-eqb o.reference (lowest_free w.opens) (sym (eqb-true (lowest_free w.opens) o.reference same))) h) others)
        others p.references;
    stand = all-placed (λ (o : OpenFork). o.reference) (new_fork w s asked file) (is_lawful_open w) w.opens lawful p.stand;
    clashes = apart-placed (λ (o : OpenFork). o.reference) (new_fork w s asked file) do_clash w.opens
        (all-weaker (λ o. not (do_conflict o.fork o.access (fork_in asked file) asked.access)) (λ o. not (do_conflict (fork_in asked file) asked.access o.fork o.access)) w.opens
        (λ o h. contra (do_conflict o.fork o.access (fork_in asked file) asked.access) (do_conflict (fork_in asked file) asked.access o.fork o.access) (conflict-sym (fork_in asked file) o.fork asked.access o.access) h)
        (none-all (λ o. do_conflict o.fork o.access (fork_in asked file) asked.access) w.opens (ap not agrees)))
        (none-all (λ o. do_conflict o.fork o.access (fork_in asked file) asked.access) w.opens (ap not agrees)) p.clashes;
  }

  -- a reference that is open is another one
  another : (r : ℕ) → is_open w.opens r ≡ true → (lowest_free w.opens == r) ≡ true → ⊥
  another r there same = both_ways (is_open w.opens r) (ap (is_open w.opens) (sym (eqb-true (lowest_free w.opens) r same)) ∙ lowest-free w.opens) there

  old-any : (r : ℕ) (q : OpenFork → Bool) → is_open w.opens r ≡ true → list_any (λ o. (o.reference == r) && q o) (with_open (new_fork w s asked file) w.opens) ≡ true → list_any (λ o. (o.reference == r) && q o) w.opens ≡ true
  old-any r q there h =
      either ((lowest_free w.opens == r) && q (new_fork w s asked file)) (list_any (λ o. (o.reference == r) && q o) w.opens)
      (sym (any-placed (λ (o : OpenFork). o.reference) (new_fork w s asked file) (λ o. (o.reference == r) && q o) w.opens) ∙ h)
      (λ here. absurd (another r there (and_parts (lowest_free w.opens == r) (q (new_fork w s asked file)) here).0))
      (λ later. later)

  share-old : (a b : ℕ) → is_open w.opens a ≡ true → is_open w.opens b ≡ true → share_fork (with_open (new_fork w s asked file) w.opens) a b ≡ true → share_fork w.opens a b ≡ true
  share-old a b open_a open_b h =
      let old = old-any a (λ x. list_any (λ y. (y.reference == b) && is_one_fork x.fork y.fork) (with_open (new_fork w s asked file) w.opens)) open_a h in
      any-weaker
      (λ x. (x.reference == a) && list_any (λ y. (y.reference == b) && is_one_fork x.fork y.fork) (with_open (new_fork w s asked file) w.opens))
      (λ x. (x.reference == a) && list_any (λ y. (y.reference == b) && is_one_fork x.fork y.fork) w.opens)
      w.opens
      (λ x both.
      let e = and_parts (x.reference == a) (list_any (λ y. (y.reference == b) && is_one_fork x.fork y.fork) (with_open (new_fork w s asked file) w.opens)) both in
      and_from (x.reference == a) (list_any (λ y. (y.reference == b) && is_one_fork x.fork y.fork) w.opens) e.0 (old-any b (λ y. is_one_fork x.fork y.fork) open_b e.1))
      old

  new-locks : LawfulLocks w → LawfulLocks with_new
  unfolding with_new
  new-locks p = record {
    held = all-weaker (λ lock. is_open w.opens lock.reference) (λ lock. is_open (with_open (new_fork w s asked file) w.opens) lock.reference) w.locks
        (λ lock there. any-placed (λ (o : OpenFork). o.reference) (new_fork w s asked file) (λ (o : OpenFork). o.reference == lock.reference) w.opens ∙ or_right (lowest_free w.opens == lock.reference) (is_open w.opens lock.reference) there)
        p.held;
    overlaps = apart-where (λ lock. is_open w.opens lock.reference) (do_overlap w.opens) (do_overlap (with_open (new_fork w s asked file) w.opens)) w.locks p.held
        (λ a b open_a open_b both.
        let e = and_parts (share_fork (with_open (new_fork w s asked file) w.opens) a.reference b.reference) (do_meet a.range b.range) both in
        and_from (share_fork w.opens a.reference b.reference) (do_meet a.range b.range) (share-old a.reference b.reference open_a open_b e.0) e.1)
        p.overlaps;
  }

  counted : (x : Session) (n : ℕ) → one_if (s.number == x.number) + count_by (λ (o : OpenFork). o.session == x.number) w.opens ≡ n → n ≤ most_forks → keeps_forks (with_open (new_fork w s asked file) w.opens) x ≡ true
  counted x n is few = ap (λ m. nat_le m most_forks) (count-placed (λ (o : OpenFork). o.reference) (new_fork w s asked file) (λ (o : OpenFork). o.session == x.number) w.opens ∙ is) ∙ le-leb n most_forks few

  forks-kept : has_most_forks w s ≡ false → (x : Session) (b : Bool) → (s.number == x.number) ≡ b → keeps_forks w.opens x ≡ true → keeps_forks (with_open (new_fork w s asked file) w.opens) x ≡ true
  unfolding has_most_forks
  forks-kept room x true same h =
      let count : count_by (λ (o : OpenFork). o.session == x.number) w.opens ≡ count_by (λ (o : OpenFork). o.session == s.number) w.opens = ap (λ n. count_by (λ (o : OpenFork). o.session == n) w.opens) (sym (eqb-true s.number x.number same)) in
      let low = leb-false most_forks (count_by (λ (o : OpenFork). o.session == s.number) w.opens) room in
      let one : one_if (s.number == x.number) ≡ 1 = ap one_if same in
      counted x (one_if (s.number == x.number) + count_by (λ (o : OpenFork). o.session == x.number) w.opens) refl (omega (arith, count, low, one))
  forks-kept room x false other h =
      let gone : one_if (s.number == x.number) ≡ 0 = ap one_if other in
      let few = leb-true (count_by (λ (o : OpenFork). o.session == x.number) w.opens) most_forks h in
      counted x (one_if (s.number == x.number) + count_by (λ (o : OpenFork). o.session == x.number) w.opens) refl (omega (arith, gone, few))

  new-limits : has_most_forks w s ≡ false → LawfulLocks w → KeptLimits w → KeptLimits with_new
  unfolding with_new
  new-limits room l p = record {
    users = p.users;
    volumes = p.volumes;
    sessions = p.sessions;
    forks = all-weaker (keeps_forks w.opens) (keeps_forks (with_open (new_fork w s asked file) w.opens)) w.sessions (λ x h. forks-kept room x (s.number == x.number) refl h) p.forks;
    locks = all-placed (λ (o : OpenFork). o.reference) (new_fork w s asked file) (keeps_locks w.locks) w.opens
        (ap (λ m. nat_le m most_locks) (count-none (λ (lock : Lock). lock.reference == lowest_free w.opens) w.locks
        (all-weaker (λ lock. is_open w.opens lock.reference) (λ lock. not (lock.reference == lowest_free w.opens)) w.locks
        (λ lock there. none-of lock.reference there (lock.reference == lowest_free w.opens) refl) l.held)))
        p.locks;
  }
    where
      none-of : (r : ℕ) → is_open w.opens r ≡ true → (b : Bool) → (r == lowest_free w.opens) ≡ b → not b ≡ true
      none-of r there false is = refl
      none-of r there true is = absurd (another r there (eq-eqb (lowest_free w.opens) r (sym (eqb-true r (lowest_free w.opens) is))))

  new-sound : is_lawful_open w (new_fork w s asked file) ≡ true → is_denied w (fork_in asked file) asked.access ≡ false → has_most_forks w s ≡ false → IsSound w → IsSound (with_fork w (new_fork w s asked file))
  unfolding has_apart_sessions has_known_users has_lawful_caches has_typed_fields with_new
  new-sound lawful agrees room h = record {
    house = h.house;
    typed = h.typed;
    volumes = h.volumes;
    sessions = h.sessions;
    users = h.users;
    opens = opens-whole with_new (new-opens lawful agrees (opens-parts w h.opens));
    locks = locks-whole with_new (new-locks (locks-parts w h.locks));
    caches = h.caches;
    limits = limits-whole with_new (new-limits room (locks-parts w h.locks) (limits-parts w h.limits));
  }

-- what is told

opened-size : (bits reference : ℕ) (values : Values) → IsAnswer 1 bits values → length (canonical_reply (Opened bits (fork_ref reference) values)) ≤ payload_limit
opened-size bits reference values answer =
    let size = params-size 1 bits values answer in
    let end = length-append (params bits values) [] in
    let whole : length (canonical_reply (Opened bits (fork_ref reference) values)) ≡ suc (suc (suc (suc (length (params bits values ++ []))))) = refl in
    omega (arith, size, end, whole)

reply-short : (w : World) (asked : OpenAsked) (reference : ℕ) (v : VolumeState) (file : File) → IsServed v asked.volume → IsFileFound v file → is_short (opened_reply w asked reference file) ≡ true
unfolding opened_reply
reply-short w asked reference v file served f =
    le-leb (length (canonical_reply (opened_reply w asked reference file))) payload_limit
    (opened-size asked.bits reference (fork_values (opened_on w asked.volume) asked.bits file) (file-answer v (opened_on w asked.volume) asked.bits f.id file f.row f.kind served.sound served.typed))

opened-told : (call : Call) (w : World) (asked : OpenAsked) (reference : ℕ) (v : VolumeState) (file : File) → ((r : ℕ) (values : FileValues) → Asks call (Opened asked.bits (fork_ref r) (FileParams values))) → IsServed v asked.volume → IsFileFound v file → is_outside file_mask asked.bits ≡ false → reference < 65536
    → IsToldTo call (opened_reply w asked reference file)
unfolding opened_reply
opened-told call w asked reference v file asks served f inside small = record {
  short = reply-short w asked reference v file served f;
  fits = record {
    fits = (omega (arith, small), record { within = within file_mask asked.bits inside; answer = file-answer v (opened_on w asked.volume) asked.bits f.id file f.row f.kind served.sound served.typed });
    told = asks reference (file_values (opened_on w asked.volume) asked.bits file);
  };
}

-- the row

-- a denial tells of the file
abbrev Denies : Call → ℕ → Type 0
Denies call bits = (values : Values) → IsTold (shape_of (command_of call)) DenyConflict (reply_kind call) (Opened bits (fork_ref 0) values)

denial-told : (call : Call) (w : World) (asked : OpenAsked) (v : VolumeState) (file : File) → Denies call asked.bits → IsServed v asked.volume → IsFileFound v file → is_outside file_mask asked.bits ≡ false → IsRefusedTo call (record { code = DenyConflict; reply = opened_reply w asked 0 file })
unfolding opened_reply
denial-told call w asked v file denies served f inside = record {
  code = refl;
  kept = refl;
  short = reply-short w asked 0 v file served f;
  fits = record {
    fits = (omega arith, record { within = within file_mask asked.bits inside; answer = file-answer v (opened_on w asked.volume) asked.bits f.id file f.row f.kind served.sound served.typed });
    told = denies (fork_values (opened_on w asked.volume) asked.bits file);
  };
}

open-refused : (call : Call) (asked : OpenAsked) (dir : ℕ) (path : PathValue) (w : World) (s : Session) (r : Refused) → Denies call asked.bits → IsSound w → first_holding ((opens_asked asked dir path).refusals w s) ≡ Some r → IsRefusedTo call r
open-refused call asked dir path w s r denies h is = by (volume_at w.volumes asked.volume) refl is
  where
    refuses : VolumeState → Option Code
    refuses v = open_fork_refusal v (user_of s) asked.bits asked.access.read asked.access.write dir path

    -- a volume that does not refuse has the file
    told-of : (v : VolumeState) → IsServed v asked.volume → VolumeOpens v (user_of s) asked.bits dir path → first_holding (denied_of w s asked (open_fork_file v (user_of s) dir path)) ≡ Some r → IsRefusedTo call r
    told-of v served o k =
        first-told call (denied_of w s asked (Some o.file)) r (ap (λ q. first_holding (denied_of w s asked q)) (sym o.is) ∙ k)
        (denial-told call w asked v o.file denies served (found-file v (user_of s) dir path o.file o.is) o.inside, (no_more-told call (plain TooManyFilesOpen) refl, tt))

    of-volume : (v : VolumeState) → IsServed v asked.volume → (q : Option Code) → refuses v ≡ q → is_refusal q ≡ true → first_holding (refused_before q (denied_of w s asked (open_fork_file v (user_of s) dir path))) ≡ Some r → IsRefusedTo call r
    of-volume v served None passes no_more k = told-of v served (volume-opens v (user_of s) asked.bits asked.access.read asked.access.write dir path served.sound passes) k
    of-volume v served (Some code) passes no_more k = let same : plain code ≡ r = cc in subst (IsRefusedTo call) same (no_more-told call (plain code) no_more)

    by : (q : Option VolumeState) → volume_at w.volumes asked.volume ≡ q → first_holding ((not (has_opened s asked.volume), plain ParamErr) ∷ refused_before (refused_on q refuses) (denied_of w s asked (file_asked q (user_of s) dir path))) ≡ Some r → IsRefusedTo call r
    by None there k = no_more-refuses call ((not (has_opened s asked.volume), plain ParamErr) ∷ (true, plain ParamErr) ∷ []) r k refl
    by (Some v) there k =
        behind-first call (not (has_opened s asked.volume), plain ParamErr) (refused_before (refuses v) (denied_of w s asked (open_fork_file v (user_of s) dir path))) r (no_more-told call (plain ParamErr) refl)
        (of-volume v (served-at w asked.volume v h there) (refuses v) refl (open-fork-refuses v (user_of s) asked.bits asked.access.read asked.access.write dir path)) k

-- the file that is asked for
asked-is : (w : World) (s : Session) (asked : OpenAsked) (dir : ℕ) (path : PathValue) → (o : Opens w s asked dir path) → file_asked (volume_at w.volumes asked.volume) (user_of s) dir path ≡ Some o.file
asked-is w s asked dir path o = ap (λ q. file_asked q (user_of s) dir path) o.there ∙ o.is

lawful-new : (w : World) (s : Session) (test : Session → Bool) (asked : OpenAsked) (dir : ℕ) (path : PathValue) → find test w.sessions ≡ Some s → IsSound w → (o : Opens w s asked dir path) → is_lawful_open w (new_fork w s asked o.file) ≡ true
lawful-new w s test asked dir path found h o =
    and_from (has_volume_open w.sessions s.number asked.volume) (is_file_of (volume_at w.volumes asked.volume) o.file.id)
    (find-any test (λ x. (x.number == s.number) && has_opened x asked.volume) w.sessions s found (and_from (s.number == s.number) (has_opened s asked.volume) (eq-eqb s.number s.number refl) o.opened))
    (ap (λ q. is_file_of q o.file.id) o.there ∙ file-is o.state o.file (served-at w asked.volume o.state h o.there).sound (found-file o.state (user_of s) dir path o.file o.is))

apart-after : (w : World) (s : Session) (asked : OpenAsked) (q : Option File) → ApartSessions w → ApartSessions (opens_fork w s asked q).world
apart-after w s asked None a = a
apart-after w s asked (Some file) a = record { numbers = a.numbers; links = a.links; below = a.below }

next-after : (w : World) (s : Session) (asked : OpenAsked) (q : Option File) → (opens_fork w s asked q).world.next_link ≡ w.next_link
next-after w s asked None = refl
next-after w s asked (Some file) = refl

old-after : (w : World) (s : Session) (asked : OpenAsked) (q : Option File) (n : ℕ) → has_session (opens_fork w s asked q).world.sessions n ≡ true → has_session w.sessions n ≡ true
old-after w s asked None n h = h
old-after w s asked (Some file) n h = h

cached-after : (w : World) (s : Session) (asked : OpenAsked) (q : Option File) (p : ℕ → List Kept → Bool) → list_all (λ x. p x.number x.cache) w.sessions ≡ true → list_all (λ x. p x.number x.cache) (opens_fork w s asked q).world.sessions ≡ true
cached-after w s asked None p h = h
cached-after w s asked (Some file) p h = h

sessions-after : (logs : Bool) (w : World) (s : Session) (asked : OpenAsked) (q : Option File) → SessionsAfter logs w s (opens_fork w s asked q).world
sessions-after logs w s asked None = all_stay refl
sessions-after logs w s asked (Some file) = all_stay refl

opens-sound : (call : Call) (asked : OpenAsked) (dir : ℕ) (path : PathValue) → ((r : ℕ) (values : FileValues) → Asks call (Opened asked.bits (fork_ref r) (FileParams values))) → Denies call asked.bits → IsSoundRow call (opens_asked asked dir path)
opens-sound call asked dir path asks denies = record {
  refuses = λ w s r is h. open-refused call asked dir path w s r denies h is;
  sound = λ w s test lawful found passes h.
      let o = opens-passed w s asked dir path h passes in
      subst (λ q. IsSound (opens_fork w s asked q).world) (sym (asked-is w s asked dir path o)) (new-sound w s asked o.file (lawful-new w s test asked dir path found h o) o.agrees o.room h);
  fits = λ w s lawful passes h. (told w s passes h).short;
  shown = λ w s lawful passes h known. told-shown call (opens_fork w s asked (file_asked (volume_at w.volumes asked.volume) (user_of s) dir path)).reply (told w s passes h);
  apart = λ w s test found a. apart-after w s asked (file_asked (volume_at w.volumes asked.volume) (user_of s) dir path) a;
  next = λ w s. next-after w s asked (file_asked (volume_at w.volumes asked.volume) (user_of s) dir path);
  keeper = λ w s index passes commits. no-keeper w index commits;
  old = λ w s n h. old-after w s asked (file_asked (volume_at w.volumes asked.volume) (user_of s) dir path) n h;
  cached = λ w s test found p h. cached-after w s asked (file_asked (volume_at w.volumes asked.volume) (user_of s) dir path) p h;
  leaves = λ stays w s. sessions-after (logs_in call) w s asked (file_asked (volume_at w.volumes asked.volume) (user_of s) dir path);
}
  where
    told : (w : World) (s : Session) → first_holding ((opens_asked asked dir path).refusals w s) ≡ None → IsSound w → IsToldTo call (opens_fork w s asked (file_asked (volume_at w.volumes asked.volume) (user_of s) dir path)).reply
    told w s passes h =
        let o = opens-passed w s asked dir path h passes in
        let few = opens-few w h in
        let low = lowest-within w.opens in
        subst (λ q. IsToldTo call (opens_fork w s asked q).reply) (sym (asked-is w s asked dir path o))
        (opened-told call (with_fork w (new_fork w s asked o.file)) asked (lowest_free w.opens) o.state o.file asks (served-at w asked.volume o.state h o.there) (found-file o.state (user_of s) dir path o.file o.is) o.inside (omega (arith, few, low.1)))

open-fork-asks : (flag : ℕ) (volume : VolumeId) (dir : NodeId) (bits mode : ℕ) (path : PathValue) (r : ℕ) (values : FileValues) → Asks (calls.OpenFork flag volume dir bits mode path) (Opened bits (fork_ref r) (FileParams values))
unfolding shape_of shape_in rows
open-fork-asks flag volume dir bits mode path r values = (refl, refl)

open-fork-denies : (flag : ℕ) (volume : VolumeId) (dir : NodeId) (bits mode : ℕ) (path : PathValue) → Denies (calls.OpenFork flag volume dir bits mode path) bits
unfolding shape_of shape_in rows
open-fork-denies flag volume dir bits mode path values = (values, refl)

pub open-fork-sound : (flag : ℕ) (volume : VolumeId) (dir : NodeId) (bits mode : ℕ) (path : PathValue) → IsSoundRow (calls.OpenFork flag volume dir bits mode path) (open_fork_row flag volume.0 dir.0 bits mode path)
open-fork-sound flag volume dir bits mode path =
    opens-sound (calls.OpenFork flag volume dir bits mode path) (record { volume = volume.0; bits = bits; resource = is_resource flag; access = access_of mode }) dir.0 path (open-fork-asks flag volume dir bits mode path)
    (open-fork-denies flag volume dir bits mode path)
