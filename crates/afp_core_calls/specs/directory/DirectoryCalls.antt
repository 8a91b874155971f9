-- What is owed of a call on directories that changes a volume's tree: which call it is (this profile).
use Rattle.std.specs.Prelude.{◌≡◌, ℕ, List}
use Rattle.afp_base.specs.declared.ids.NodeId.{NodeId}
use Rattle.afp_base.specs.declared.ids.VolumeId.{VolumeId}
use Rattle.afp_names.specs.Path.{PathValue}
use Rattle.afp_calls_grammar.specs.declared.grammar.call.Call.{Call}
use Rattle.afp_calls_grammar.specs.declared.grammar.call.Call.TheVariants.{CreateDir, Delete, MoveAndRename, Rename, SetDirParms, SetFileDirParms}

-- the call makes a directory in this volume
pub record CreatesDir (call : Call) (volume : VolumeId) : Type 0 where
  pub dir : NodeId
  pub path : PathValue
  pub is : call ≡ CreateDir volume dir path

-- the call sets a directory of this volume by these bits and this tail
pub record SetsDir (call : Call) (volume : VolumeId) (bits : ℕ) (tail : List ℕ) : Type 0 where
  pub dir : NodeId
  pub path : PathValue
  pub is : call ≡ SetDirParms volume dir bits path tail

-- the call sets a file or directory of this volume
pub record SetsFileDir (call : Call) (volume : VolumeId) : Type 0 where
  pub dir : NodeId
  pub bits : ℕ
  pub path : PathValue
  pub tail : List ℕ
  pub is : call ≡ SetFileDirParms volume dir bits path tail

-- the call takes a file or directory out of this volume
pub record Deletes (call : Call) (volume : VolumeId) : Type 0 where
  pub dir : NodeId
  pub path : PathValue
  pub is : call ≡ Delete volume dir path

-- the call gives a file or directory of this volume another name
pub record Renames (call : Call) (volume : VolumeId) : Type 0 where
  pub dir : NodeId
  pub path : PathValue
  pub new_path : PathValue
  pub is : call ≡ Rename volume dir path new_path

-- the call moves a file or directory of this volume into a directory of it
pub record MovesAndRenames (call : Call) (volume : VolumeId) : Type 0 where
  pub dir : NodeId
  pub target_dir : NodeId
  pub path : PathValue
  pub target_path : PathValue
  pub new_path : PathValue
  pub is : call ≡ MoveAndRename volume dir target_dir path target_path new_path
