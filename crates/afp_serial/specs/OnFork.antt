-- What the rows of calls on an open fork share: the reference, which has to be the session's; the file and its bytes; whether locks of others meet
-- them; and the world with other bytes (AFP Reference, "Fork Commands"; this profile).
use Rattle.std.specs.Prelude.{ℕ, zero, suc, ◌+◌, ◌==◌, nat_lt, Bool, true, false, not, ◌&&◌, if◌then◌else◌, List, [], ◌∷◌, find, Option, None, Some, option_map}
use Rattle.std.specs.List.{list_any}
use Rattle.afp_base.specs.Overlap.{Range, do_meet}
use Rattle.afp_base.specs.declared.code.Code.TheVariants.{ParamErr}
use Rattle.volume_spec.specs.ForkEffect.{fork_effect, fork_of}
use Rattle.volume_spec.specs.VolumeState.{Row as File, VolumeState}
use Rattle.volume_spec.specs.Walk.{row_at}
use Rattle.afp_serial.specs.World.{Effect, Refusal, CallRow, plain, with_empty_reply, volume_at, World, Session, OpenFork, Lock}
use Rattle.afp_serial.specs.OnVolume.{keeper_of, with_volume_state}
use Rattle.afp_serial.specs.Sound.{share_fork}

-- an open fork, with its volume and its file as they are
pub record OpenFile : Type 0 where
  pub fork : OpenFork
  pub volume : VolumeState
  pub file : File

-- the open fork of a reference, where it is the session's
abbrev pub own_fork : World → Session → ℕ → Option OpenFork
own_fork w s reference = find (λ o. (o.reference == reference) && (o.session == s.number)) w.opens

-- an open fork with its file, where its volume and its file are there
abbrev pub file_on : OpenFork → Option VolumeState → Option OpenFile
file_on o None = None
file_on o (Some v) = option_map (λ (file : File). record { fork = o; volume = v; file = file }) (row_at v.rows o.fork.node)

abbrev pub file_under : World → Option OpenFork → Option OpenFile
file_under w None = None
file_under w (Some o) = file_on o (volume_at w.volumes o.fork.volume)

unfoldable pub open_file : World → Session → ℕ → Option OpenFile
open_file w s reference = file_under w (own_fork w s reference)

-- the reference has to be open in the session, and then it is as is refused of its fork
abbrev pub on_fork : Option OpenFile → (OpenFile → List Refusal) → List Refusal
on_fork None refuses = (true, plain ParamErr) ∷ []
on_fork (Some f) refuses = refuses f

-- what is done with an open fork, and nothing where there is none
abbrev pub done_with : Option OpenFile → World → (OpenFile → Effect) → Effect
done_with None w does = with_empty_reply w
done_with (Some f) w does = does f

-- the keeper that a call on an open fork commits to or settles
abbrev pub committed_with : Option OpenFile → (OpenFile → Option ℕ) → Option ℕ
committed_with None commits = None
committed_with (Some f) commits = commits f

-- the row of a call on an open fork of the session
abbrev pub row_on_fork : ℕ → (World → OpenFile → List Refusal) → (World → OpenFile → Effect) → (World → OpenFile → Option ℕ) → CallRow
row_on_fork reference refuses does commits = record {
  refusals = λ w s. on_fork (open_file w s reference) (refuses w);
  effect = λ w s. done_with (open_file w s reference) w (does w);
  committed = λ w s. committed_with (open_file w s reference) (commits w);
}

-- it commits and settles nothing
abbrev pub keeps_all : World → OpenFile → Option ℕ
keeps_all w f = None

-- the keeper of the fork's volume
abbrev pub own_keeper : OpenFile → Option ℕ
own_keeper f = keeper_of f.fork.fork.volume

-- the bytes of the fork
abbrev pub bytes_of : OpenFile → List ℕ
bytes_of f = fork_of f.fork.fork.resource f.file

-- a lock is on the fork of a reference and shares a byte with the range (AFP Reference, "FPByteRangeLock")
abbrev pub meets_lock : World → OpenFork → Range → Lock → Bool
meets_lock w o range lock = share_fork w.opens lock.reference o.reference && do_meet lock.range range

-- another reference's lock on the fork shares a byte with the range
unfoldable pub is_met_by_other : World → OpenFork → Range → Bool
is_met_by_other w o range = list_any (λ lock. meets_lock w o range lock && not (lock.reference == o.reference)) w.locks

-- another reference's lock covers one of so many bytes of the fork from a place on; no bytes are met by none (this profile)
abbrev pub is_locked : World → OpenFork → ℕ → ℕ → Bool
is_locked w o from zero = false
is_locked w o from (suc more) = is_met_by_other w o (record { from = from; to = from + more })

-- a list that stands by rising numbers with one more element, behind those of its number
abbrev pub placed : {A : Type 0} → (A → ℕ) → A → List A → List A
placed number new [] = new ∷ []
placed number new (x ∷ xs) = if nat_lt (number new) (number x) then new ∷ x ∷ xs else x ∷ placed number new xs

-- the world in which the fork has other bytes; where none is written and their number stays, nothing changes (this profile)
abbrev pub with_bytes : World → OpenFile → Bool → List ℕ → World
with_bytes w f writes bytes = if writes then with_volume_state w f.fork.fork.volume (fork_effect w.latest f.file.id f.fork.fork.resource bytes true f.volume) else w

-- and the keeper that this is committed to, where something changes
abbrev pub keeper_if : Bool → OpenFile → Option ℕ
keeper_if writes f = if writes then own_keeper f else None
