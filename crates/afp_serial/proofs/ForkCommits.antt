-- Which calls on open forks change a volume, and that they commit it.
use Rattle.std.proofs.Common.{◌≡◌, refl, ℕ, zero, suc, pos, Bool, true, false, not, List, Option, Some, None}
use Rattle.std.specs.Prelude.{◌==◌}
use Rattle.afp_replies.specs.declared.reply.Reply.{Reply}
use Rattle.afp_replies.specs.declared.reply.Reply.TheVariants.{End, EndExt, Start, StartExt}
use Rattle.afp_serial.specs.World.{Effect, with_empty_reply, closing, volume_at, World, Session, OpenFork, user_of}
use Rattle.afp_serial.specs.Fork.{OpenAsked, access_of, file_asked, get_fork_parms_reply, is_other_length, length_for, opens_fork}
use Rattle.afp_serial.specs.ForkBytes.{ReadAsked, WriteAsked, is_from_end, read_reply, write_end, writes, writes_some, written_bytes}
use Rattle.afp_serial.specs.ForkLaws.{CommitsChanges, OthersLeaveVolumes, ThreeChangeVolumes}
use Rattle.afp_serial.specs.Lock.{LockAsked, lock_asked, locks_range, range_asked}
use Rattle.afp_base.specs.ForkBytes.{resized}
use Rattle.afp_base.specs.Overlap.{Range}
use Rattle.afp_serial.specs.OnFork.{OpenFile, bytes_of, committed_with, done_with, keeper_if, open_file, with_bytes}
use Rattle.afp_serial.specs.OnVolume.{keeper_of, with_volume_state}
use Rattle.volume_spec.specs.ForkEffect.{fork_effect}
use Rattle.volume_spec.specs.OpenFork.{is_resource}
use Rattle.volume_spec.specs.VolumeState.{Row as File, VolumeState}

-- a volume that has no keeper is none
pub no-keeper-same : (w : World) (volume : ℕ) (v : VolumeState) → keeper_of volume ≡ None → with_volume_state w volume v ≡ w
no-keeper-same w zero v none = refl
no-keeper-same w (suc index) v none = absurd (cc)

bytes-same : (w : World) (f : OpenFile) (some : Bool) (bytes : List ℕ) → keeper_if some f ≡ None → with_bytes w f some bytes ≡ w
bytes-same w f false bytes none = refl
bytes-same w f true bytes none = no-keeper-same w f.fork.fork.volume (fork_effect w.latest f.file.id f.fork.fork.resource bytes true f.volume) none

done-same : (w : World) (q : Option OpenFile) (some : OpenFile → Bool) (bytes : OpenFile → List ℕ) (reply : OpenFile → Reply) → committed_with q (λ f. keeper_if (some f) f) ≡ None
    → (done_with q w (λ f. record { world = with_bytes w f (some f) (bytes f); reply = reply f })).world ≡ w
done-same w None some bytes reply none = refl
done-same w (Some f) some bytes reply none = bytes-same w f (some f) (bytes f) none

writes-same : (reference : ℕ) (asked : WriteAsked) (reply : ℕ → Reply) → CommitsChanges (writes reference asked reply)
writes-same reference asked reply w s none = done-same w (open_file w s reference) (λ f. writes_some asked) (λ f. written_bytes f asked) (λ f. reply (write_end f asked)) none

pub three-change : ThreeChangeVolumes
three-change flag reference bits n offset count bytes = (
  λ w s none. done-same w (open_file w s reference) (λ f. is_other_length bits bytes f) (λ f. resized (bytes_of f) (length_for bits bytes f)) (λ f. (with_empty_reply w).reply) none,
  writes-same reference (record { from_end = is_from_end flag; offset = offset; count = pos n; piece = bytes }) (λ end. End end),
  writes-same reference (record { from_end = is_from_end flag; offset = offset; count = count; piece = bytes }) (λ end. EndExt end),
)

-- the others

pub done-volumes : (w : World) (q : Option OpenFile) (does : OpenFile → Effect) → ((f : OpenFile) → (does f).world.volumes ≡ w.volumes) → (done_with q w does).world.volumes ≡ w.volumes
done-volumes w None does same = refl
done-volumes w (Some f) does same = same f

pub opened-volumes : (w : World) (s : Session) (asked : OpenAsked) (q : Option File) → (opens_fork w s asked q).world.volumes ≡ w.volumes
opened-volumes w s asked None = refl
opened-volumes w s asked (Some file) = refl

locked-volumes : (w : World) (unlocks : Bool) (o : OpenFork) (reply : ℕ → Reply) (q : Option Range) → (locks_range unlocks w o reply q).world.volumes ≡ w.volumes
locked-volumes w unlocks o reply None = refl
locked-volumes w true o reply (Some range) = refl
locked-volumes w false o reply (Some range) = refl

pub all-locks : (reference : ℕ) (asked : LockAsked) (reply : ℕ → Reply) (w : World) (s : Session) → (done_with (open_file w s reference) w (λ f. locks_range asked.unlocks w f.fork reply (range_asked f asked))).world.volumes ≡ w.volumes
all-locks reference asked reply w s = done-volumes w (open_file w s reference) _ (λ f. locked-volumes w asked.unlocks f.fork reply (range_asked f asked))

pub all-reads : (reference : ℕ) (asked : ReadAsked) (w : World) (s : Session) → (done_with (open_file w s reference) w (λ f. record { world = w; reply = read_reply asked f })).world.volumes ≡ w.volumes
all-reads reference asked w s = done-volumes w (open_file w s reference) _ (λ f. refl)

pub others-leave : OthersLeaveVolumes
others-leave flag volume dir bits mode reference n mask character path offset count = (
  λ w s. opened-volumes w s (record { volume = volume; bits = bits; resource = is_resource flag; access = access_of mode }) (file_asked (volume_at w.volumes volume) (user_of s) dir path),
  λ w s. done-volumes w (open_file w s reference) (λ f. with_empty_reply (closing w (λ o. not (o.reference == reference)))) (λ f. refl),
  λ w s. done-volumes w (open_file w s reference) (λ f. with_empty_reply w) (λ f. refl),
  λ w s. done-volumes w (open_file w s reference) (λ f. record { world = w; reply = get_fork_parms_reply bits w f }) (λ f. refl),
  λ w s. all-reads reference (record { offset = offset; count = pos n; mask = mask; character = character }) w s,
  λ w s. all-reads reference (record { offset = offset; count = count; mask = 0; character = 0 }) w s,
  λ w s. all-locks reference (lock_asked flag offset count) (λ start. Start start) w s,
  λ w s. all-locks reference (lock_asked flag offset count) (λ start. StartExt start) w s,
)
