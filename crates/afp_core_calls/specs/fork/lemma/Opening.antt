-- FPOpenFork where the volume refuses nothing: the file that was found (this profile).
use Rattle.std.specs.Prelude.{◌≡◌, ℕ, false, Some, slice_get}
use Rattle.afp_base.specs.Choice.{first_holding}
use Rattle.afp_base.specs.DenyMode.{Access, Fork}
use Rattle.afp_calls_grammar.specs.declared.grammar.call.Call.{Call}
use Rattle.afp_serial.specs.Fork.{OpenAsked, denied_of, opens_fork}
use Rattle.afp_serial.specs.Rows.{effect, ends_session, refusal}
use Rattle.afp_serial.specs.World.{Session}
use Rattle.volume_spec.specs.VolumeState.{Row, VolumeState}
use Rattle.volume_spec.specs.Walk.{row_at}
use Rattle.afp_core_state.specs.KeptWorld.{KeptWorld}
use Rattle.session_table.specs.Sessions.{session_of}

-- The call asks for this fork with this access, and for these bits of its file, which is in the volume at the index; what is left of its row speaks of
-- that file.
pub record FindsFile (k : KeptWorld) (number : ℕ) (call : Call) (asked : OpenAsked) (index : ℕ) (fork : Fork) (access : Access) (bits : ℕ) : Type 0 where
  pub volume : VolumeState
  pub file : Row
  pub there : slice_get k.world.volumes index ≡ Some volume
  pub found : row_at volume.rows fork.node ≡ Some file
  pub node_is : file.id ≡ fork.node
  pub volume_is : asked.volume ≡ fork.volume
  pub resource_is : asked.resource ≡ fork.resource
  pub access_is : asked.access ≡ access
  pub bits_are : asked.bits ≡ bits
  pub refuses : (s : Session) → session_of k.world.sessions number ≡ Some s → refusal k.world s call ≡ first_holding (denied_of k.world s asked (Some file))
  pub does : (s : Session) → session_of k.world.sessions number ≡ Some s → effect k.world s call ≡ opens_fork k.world s asked (Some file)
  pub goes_on : ends_session call ≡ false
