-- What the rows of the law's calls do does not depend on which link the session has, nor on the next link number.
use Rattle.std.proofs.Common.{◌≡◌, refl, ap, ℕ, Bool, true, false, List, [], ◌∷◌, Option, Some, None, pos}
use Rattle.afp_names.specs.Path.{PathValue}
use Rattle.afp_replies.specs.declared.reply.Reply.{Reply}
use Rattle.afp_base.specs.Overlap.{Range}
use Rattle.afp_replies.specs.declared.reply.Reply.TheVariants.{Empty, End, Start}
use Rattle.afp_calls_grammar.specs.declared.grammar.call.Call.{Call}
use Rattle.afp_calls_grammar.specs.declared.grammar.call.Call.TheVariants.{ByteRangeLock, CloseFork, CreateFile, Delete, EnumerateExt2, OpenFork, Rename, Write}
use Rattle.volume_spec.specs.CreateFile.{is_hard}
use Rattle.volume_spec.specs.Enumerate.{ListAsked, asked_wide}
use Rattle.volume_spec.specs.OpenFork.{is_resource, open_fork_refusal}
use Rattle.volume_spec.specs.TreeSteps as trees
use Rattle.volume_spec.specs.TreeSteps.{TreeCall, tree_effect}
use Rattle.volume_spec.specs.VolumeState.{Row as File, VolumeState}
use Rattle.afp_serial.specs.Enumerate.{enumerate_reply, lists}
use Rattle.afp_serial.specs.Fork.{OpenAsked, access_of, close_fork_row, denied_of, file_asked, has_most_forks, is_denied, opened_reply, opens_asked, opens_fork}
use Rattle.afp_serial.specs.ForkBytes.{WriteAsked, is_from_end, write_end, writes, writes_some, written_bytes}
use Rattle.afp_serial.specs.Lock.{LockAsked, has_lock, has_most_locks, is_met_by_own, lock_asked, locks, locks_range, range_asked, range_refusals}
use Rattle.afp_serial.specs.OnFork.{OpenFile, is_met_by_other, open_file, on_fork, done_with, row_on_fork, with_bytes}
use Rattle.afp_serial.specs.OnVolume.{changes_tree, done_on, opened_on, refused_on, with_volume_state}
use Rattle.afp_serial.specs.Rows.{row}
use Rattle.afp_serial.specs.World.{CallRow, Effect, Refusal, Session, World, refused_before, user_of, vol, volume_at}
use Rattle.once_across_breaks.specs.same.Laws.{is_of_law, on_link}

-- the world in which that session is the only one, on a link, with a next link number
abbrev pub held : World → Session → ℕ → ℕ → World
held w s link next = record w { next_link = next; sessions = on_link link s ∷ [] }

abbrev pub held_effect : Session → ℕ → ℕ → Effect → Effect
held_effect s link next e = record { world = held e.world s link next; reply = e.reply }

-- a row asks and does the same on each link, and leaves the house and the latest moment
pub record IsSteady (row : CallRow) : Type 0 where
  pub refusals : (w : World) (s : Session) (link next : ℕ) → row.refusals (held w s link next) (on_link link s) ≡ row.refusals (held w s 0 0) (on_link 0 s)
  pub effect : (w : World) (s : Session) (link next : ℕ) → row.effect (held w s link next) (on_link link s) ≡ held_effect s link next (row.effect (held w s 0 0) (on_link 0 s))
  pub house : (w : World) (s : Session) → (row.effect (held w s 0 0) (on_link 0 s)).world.house ≡ w.house
  pub latest : (w : World) (s : Session) → (row.effect (held w s 0 0) (on_link 0 s)).world.latest ≡ w.latest

-- a call that changes the tree

tree-steady : (volume : ℕ) (call : TreeCall) (reply : VolumeState → Reply) → IsSteady (changes_tree volume call reply)
unfolding opened_on
tree-steady volume call reply = record {
  refusals = λ w s link next. refl;
  effect = λ w s link next. done w s link next (volume_at w.volumes volume);
  house = λ w s. house w s (volume_at w.volumes volume);
  latest = λ w s. latest w s (volume_at w.volumes volume);
}
  where
    does : World → Session → VolumeState → Effect
    does w s v = record { world = with_volume_state w volume (tree_effect v (user_of s) w.latest call); reply = reply v }

    done : (w : World) (s : Session) (link next : ℕ) (v : Option VolumeState) → done_on v (held w s link next) (does (held w s link next) s) ≡ held_effect s link next (done_on v (held w s 0 0) (does (held w s 0 0) s))
    done w s link next None = refl
    done w s link next (Some v) = refl

    house : (w : World) (s : Session) (v : Option VolumeState) → (done_on v (held w s 0 0) (does (held w s 0 0) s)).world.house ≡ w.house
    house w s None = refl
    house w s (Some v) = refl

    latest : (w : World) (s : Session) (v : Option VolumeState) → (done_on v (held w s 0 0) (does (held w s 0 0) s)).world.latest ≡ w.latest
    latest w s None = refl
    latest w s (Some v) = refl

-- FPEnumerateExt2

lists-steady : (volume : ℕ) (asked : ℕ → ListAsked) (dir : ℕ) (path : PathValue) → IsSteady (lists volume asked dir path)
unfolding opened_on
lists-steady volume asked dir path = record {
  refusals = λ w s link next. refl;
  effect = λ w s link next. done w s link next (volume_at w.volumes volume);
  house = λ w s. house w s (volume_at w.volumes volume);
  latest = λ w s. latest w s (volume_at w.volumes volume);
}
  where
    does : World → Session → VolumeState → Effect
    does w s v = record { world = w; reply = enumerate_reply v (opened_on w volume) (asked (user_of s)) dir path }

    done : (w : World) (s : Session) (link next : ℕ) (v : Option VolumeState) → done_on v (held w s link next) (does (held w s link next) s) ≡ held_effect s link next (done_on v (held w s 0 0) (does (held w s 0 0) s))
    done w s link next None = refl
    done w s link next (Some v) = refl

    house : (w : World) (s : Session) (v : Option VolumeState) → (done_on v (held w s 0 0) (does (held w s 0 0) s)).world.house ≡ w.house
    house w s None = refl
    house w s (Some v) = refl

    latest : (w : World) (s : Session) (v : Option VolumeState) → (done_on v (held w s 0 0) (does (held w s 0 0) s)).world.latest ≡ w.latest
    latest w s None = refl
    latest w s (Some v) = refl

-- FPOpenFork

opens-steady : (asked : OpenAsked) (dir : ℕ) (path : PathValue) → IsSteady (opens_asked asked dir path)
unfolding opened_on opened_reply is_denied has_most_forks
opens-steady asked dir path = record {
  refusals = λ w s link next.
      ap (λ (d : List Refusal). vol s asked.volume ∷ refused_before (refused_on (volume_at w.volumes asked.volume) (λ v. open_fork_refusal v (user_of s) asked.bits asked.access.read asked.access.write dir path)) d)
      (denied w s link next (file_asked (volume_at w.volumes asked.volume) (user_of s) dir path));
  effect = λ w s link next. opens w s link next (file_asked (volume_at w.volumes asked.volume) (user_of s) dir path);
  house = λ w s. house w s (file_asked (volume_at w.volumes asked.volume) (user_of s) dir path);
  latest = λ w s. latest w s (file_asked (volume_at w.volumes asked.volume) (user_of s) dir path);
}
  where
    denied : (w : World) (s : Session) (link next : ℕ) (file : Option File) → denied_of (held w s link next) (on_link link s) asked file ≡ denied_of (held w s 0 0) (on_link 0 s) asked file
    denied w s link next None = refl
    denied w s link next (Some file) = refl

    opens : (w : World) (s : Session) (link next : ℕ) (file : Option File) → opens_fork (held w s link next) (on_link link s) asked file ≡ held_effect s link next (opens_fork (held w s 0 0) (on_link 0 s) asked file)
    opens w s link next None = refl
    opens w s link next (Some file) = refl

    house : (w : World) (s : Session) (file : Option File) → (opens_fork (held w s 0 0) (on_link 0 s) asked file).world.house ≡ w.house
    house w s None = refl
    house w s (Some file) = refl

    latest : (w : World) (s : Session) (file : Option File) → (opens_fork (held w s 0 0) (on_link 0 s) asked file).world.latest ≡ w.latest
    latest w s None = refl
    latest w s (Some file) = refl

-- calls on an open fork

fork-steady : (reference : ℕ) (refuses : World → OpenFile → List Refusal) (does : World → OpenFile → Effect) (commits : World → OpenFile → Option ℕ)
    → ((w : World) (s : Session) (link next : ℕ) (f : OpenFile) → refuses (held w s link next) f ≡ refuses (held w s 0 0) f)
    → ((w : World) (s : Session) (link next : ℕ) (f : OpenFile) → does (held w s link next) f ≡ held_effect s link next (does (held w s 0 0) f))
    → ((w : World) (s : Session) (f : OpenFile) → (does (held w s 0 0) f).world.house ≡ w.house)
    → ((w : World) (s : Session) (f : OpenFile) → (does (held w s 0 0) f).world.latest ≡ w.latest)
    → IsSteady (row_on_fork reference refuses does commits)
unfolding open_file
fork-steady reference refuses does commits same_refusals same_effect same_house same_latest = record {
  refusals = λ w s link next. refused w s link next (open_file (held w s 0 0) (on_link 0 s) reference);
  effect = λ w s link next. done w s link next (open_file (held w s 0 0) (on_link 0 s) reference);
  house = λ w s. house w s (open_file (held w s 0 0) (on_link 0 s) reference);
  latest = λ w s. latest w s (open_file (held w s 0 0) (on_link 0 s) reference);
}
  where
    refused : (w : World) (s : Session) (link next : ℕ) (f : Option OpenFile) → on_fork f (refuses (held w s link next)) ≡ on_fork f (refuses (held w s 0 0))
    refused w s link next None = refl
    refused w s link next (Some f) = same_refusals w s link next f

    done : (w : World) (s : Session) (link next : ℕ) (f : Option OpenFile) → done_with f (held w s link next) (does (held w s link next)) ≡ held_effect s link next (done_with f (held w s 0 0) (does (held w s 0 0)))
    done w s link next None = refl
    done w s link next (Some f) = same_effect w s link next f

    house : (w : World) (s : Session) (f : Option OpenFile) → (done_with f (held w s 0 0) (does (held w s 0 0))).world.house ≡ w.house
    house w s None = refl
    house w s (Some f) = same_house w s f

    latest : (w : World) (s : Session) (f : Option OpenFile) → (done_with f (held w s 0 0) (does (held w s 0 0))).world.latest ≡ w.latest
    latest w s None = refl
    latest w s (Some f) = same_latest w s f

-- FPCloseFork

close-steady : (reference : ℕ) → IsSteady (close_fork_row reference)
close-steady reference =
    fork-steady reference _ _ _
    (λ w s link next f. refl)
    (λ w s link next f. refl)
    (λ w s f. refl)
    (λ w s f. refl)

-- FPWrite

write-steady : (reference : ℕ) (asked : WriteAsked) (reply : ℕ → Reply) → IsSteady (writes reference asked reply)
unfolding is_met_by_other
write-steady reference asked reply =
    fork-steady reference _ _ _
    (λ w s link next f. refl)
    (λ w s link next f. does w s link next f (writes_some asked))
    (λ w s f. house w s f (writes_some asked))
    (λ w s f. latest w s f (writes_some asked))
  where
    the_effect : World → OpenFile → Bool → Effect
    the_effect w f some = record { world = with_bytes w f some (written_bytes f asked); reply = reply (write_end f asked) }

    does : (w : World) (s : Session) (link next : ℕ) (f : OpenFile) (some : Bool)
        → the_effect (held w s link next) f some ≡ held_effect s link next (the_effect (held w s 0 0) f some)
    does w s link next f true = refl
    does w s link next f false = refl

    house : (w : World) (s : Session) (f : OpenFile) (some : Bool) → (the_effect (held w s 0 0) f some).world.house ≡ w.house
    house w s f true = refl
    house w s f false = refl

    latest : (w : World) (s : Session) (f : OpenFile) (some : Bool) → (the_effect (held w s 0 0) f some).world.latest ≡ w.latest
    latest w s f true = refl
    latest w s f false = refl

-- FPByteRangeLock

lock-steady : (reference : ℕ) (asked : LockAsked) (reply : ℕ → Reply) → IsSteady (locks reference asked reply)
unfolding is_met_by_other is_met_by_own has_most_locks has_lock
lock-steady reference asked reply =
    fork-steady reference _ _ _
    (λ w s link next f. refused w s link next f asked.unlocks (range_asked f asked))
    (λ w s link next f. does w s link next f asked.unlocks (range_asked f asked))
    (λ w s f. house w s f asked.unlocks (range_asked f asked))
    (λ w s f. latest w s f asked.unlocks (range_asked f asked))
  where
    refused : (w : World) (s : Session) (link next : ℕ) (f : OpenFile) (unlocks : Bool) (range : Option Range) → range_refusals unlocks (held w s link next) f.fork range ≡ range_refusals unlocks (held w s 0 0) f.fork range
    refused w s link next f unlocks None = refl
    refused w s link next f true (Some range) = refl
    refused w s link next f false (Some range) = refl

    does : (w : World) (s : Session) (link next : ℕ) (f : OpenFile) (unlocks : Bool) (range : Option Range)
        → locks_range unlocks (held w s link next) f.fork reply range ≡ held_effect s link next (locks_range unlocks (held w s 0 0) f.fork reply range)
    does w s link next f unlocks None = refl
    does w s link next f true (Some range) = refl
    does w s link next f false (Some range) = refl

    house : (w : World) (s : Session) (f : OpenFile) (unlocks : Bool) (range : Option Range) → (locks_range unlocks (held w s 0 0) f.fork reply range).world.house ≡ w.house
    house w s f unlocks None = refl
    house w s f true (Some range) = refl
    house w s f false (Some range) = refl

    latest : (w : World) (s : Session) (f : OpenFile) (unlocks : Bool) (range : Option Range) → (locks_range unlocks (held w s 0 0) f.fork reply range).world.latest ≡ w.latest
    latest w s f unlocks None = refl
    latest w s f true (Some range) = refl
    latest w s f false (Some range) = refl

-- the law's calls

pub row-steady : (call : Call) → is_of_law call ≡ true → IsSteady (row call)
unfolding row
row-steady (CreateFile flag volume dir path) h = tree-steady volume.0 (trees.CreateFile (is_hard flag) dir.0 path) (λ v. Empty)
row-steady (Delete volume dir path) h = tree-steady volume.0 (trees.Delete dir.0 path) (λ v. Empty)
row-steady (Rename volume dir path new_path) h = tree-steady volume.0 (trees.Rename dir.0 path new_path) (λ v. Empty)
row-steady (OpenFork flag volume dir bits mode path) h = opens-steady (record { volume = volume.0; bits = bits; resource = is_resource flag; access = access_of mode }) dir.0 path
row-steady (CloseFork reference) h = close-steady reference.0
row-steady (ByteRangeLock flags reference offset length) h = lock-steady reference.0 (lock_asked flags offset length) (λ start. Start start)
row-steady (Write flag reference offset count piece) h = write-steady reference.0 (record { from_end = is_from_end flag; offset = offset; count = pos count; piece = piece }) (λ end. End end)
row-steady (EnumerateExt2 volume dir file_bits dir_bits count start size path) h = lists-steady volume.0 (λ user. asked_wide user file_bits dir_bits count start size) dir.0 path
row-steady call h = absurd (cc)
