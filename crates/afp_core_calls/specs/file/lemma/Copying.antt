-- What the code goes by where a file is copied; no public contract cites it.
use Rattle.std.specs.Prelude.{◌≡◌, ◌+◌, ◌<◌, ℕ, [], length, Option, None, Some, Result, Ok, Err, slice_get}
use Rattle.afp_base.specs.Choice.{first_holding}
use Rattle.afp_base.specs.declared.code.Code.{Code}
use Rattle.afp_core_state.specs.KeptWorld.{KeptWorld}
use Rattle.afp_serial.specs.CopyFile.{CopyAsked, copy_call, copy_refused, is_held, source_on}
use Rattle.afp_serial.specs.OnVolume.{refused_on}
use Rattle.afp_serial.specs.World.{Refused, World, plain, refused_before, volume_at}
use Rattle.volume_edits.specs.edits.Planned.{PlanValue}
use Rattle.volume_edits.specs.plans.Plans.{Plans}
use Rattle.volume_spec.specs.CopyFile.{Source, copied_refusal, copy_file_refusal}
use Rattle.volume_spec.specs.OpenFork.{open_fork_file}
use Rattle.volume_spec.specs.Rights.{read_right}
use Rattle.volume_spec.specs.Shared.{lacks_above}
use Rattle.volume_spec.specs.VolumeState.{Row, VolumeState}
use Rattle.volume_tree.specs.declared.resolve.PlanFault.{PlanFault}
use Rattle.volume_tree.specs.declared.resolve.PlanFault.TheVariants as fault

-- what is refused to a user whose session has both volumes open
abbrev pub copies_refused : World → ℕ → CopyAsked → Option VolumeState → Option Refused
copies_refused w user asked from = first_holding (refused_before (refused_on from (λ v. copied_refusal v user asked.dir asked.path))
    (refused_before (copy_refused user asked (volume_at w.volumes asked.target) (source_on w user asked.volume from asked.dir asked.path)) []))

-- the file that is copied, with what its opens and the rights in its directory forbid
abbrev pub source_is : World → ℕ → CopyAsked → VolumeState → Row → Source
source_is w user asked from file = record { file = file; held = is_held w asked.volume file.id; denied = lacks_above from.rows user read_right file.id }

-- a copy that is refused
pub record RefusesCopy (k : KeptWorld) (user index : ℕ) (asked : CopyAsked) (code : Code) : Type 0 where
  pub from : VolumeState
  pub from_there : slice_get k.world.volumes index ≡ Some from
  pub refused : copies_refused k.world user asked (Some from) ≡ Some (plain code)

-- a copy that is planned
pub record IsCopyPlanned (k : KeptWorld) (user index : ℕ) (asked : CopyAsked) (target : ℕ) (plan : PlanValue) : Type 0 where
  pub from : VolumeState
  pub from_there : slice_get k.world.volumes index ≡ Some from
  pub may : copied_refusal from user asked.dir asked.path ≡ None
  pub file : Row
  pub found : open_fork_file from user asked.dir asked.path ≡ Some file
  pub id : asked.target ≡ target + 1
  pub within : target < length k.world.volumes
  pub to : VolumeState
  pub to_there : slice_get k.world.volumes target ≡ Some to
  pub passes : copy_file_refusal to user (source_is k.world user asked from file) asked.target_dir asked.target_path asked.new_path ≡ None
  pub plans : Plans to user k.world.latest (copy_call asked (source_is k.world user asked from file)) plan

abbrev pub PlansCopy : KeptWorld → ℕ → ℕ → CopyAsked → Result (ℕ × PlanValue) PlanFault → Type 0
PlansCopy k user index asked (Ok r) = IsCopyPlanned k user index asked r.0 r.1
PlansCopy k user index asked (Err (fault.Code code)) = RefusesCopy k user index asked code
PlansCopy k user index asked (Err fault.Memory) = Unit {0}
