-- What is owed of FPSetVolParms: that it is this call (this profile).
use Rattle.std.specs.Prelude.{◌≡◌, ℕ, List}
use Rattle.afp_base.specs.declared.ids.VolumeId.{VolumeId}
use Rattle.afp_calls_grammar.specs.declared.grammar.call.Call.{Call}
use Rattle.afp_calls_grammar.specs.declared.grammar.call.Call.TheVariants.{SetVolParms}

-- the call sets this volume
pub record SetsVolume (call : Call) (volume : VolumeId) : Type 0 where
  pub bits : ℕ
  pub tail : List ℕ
  pub is : call ≡ SetVolParms volume bits tail
