-- What is owed of a call on files that changes a volume's tree: which call it is (this profile).
use Rattle.std.specs.Prelude.{◌≡◌, ℕ, List}
use Rattle.afp_base.specs.declared.ids.NodeId.{NodeId}
use Rattle.afp_base.specs.declared.ids.VolumeId.{VolumeId}
use Rattle.afp_names.specs.Path.{PathValue}
use Rattle.afp_calls_grammar.specs.declared.grammar.call.Call.{Call}
use Rattle.afp_calls_grammar.specs.declared.grammar.call.Call.TheVariants.{CreateFile, SetFileParms}

-- the call makes a file in this volume
pub record CreatesFile (call : Call) (volume : VolumeId) : Type 0 where
  pub flag : ℕ
  pub dir : NodeId
  pub path : PathValue
  pub is : call ≡ CreateFile flag volume dir path

-- the call sets a file of this volume
pub record SetsFile (call : Call) (volume : VolumeId) : Type 0 where
  pub dir : NodeId
  pub bits : ℕ
  pub path : PathValue
  pub tail : List ℕ
  pub is : call ≡ SetFileParms volume dir bits path tail
