-- Which requests a volume plans, and what they are on one volume (AFP Reference, under their names).
use Rattle.std.specs.Prelude.{Option, Some, None}
use Rattle.afp_calls_grammar.specs.declared.grammar.call.Call.{Call}
use Rattle.afp_calls_grammar.specs.declared.grammar.call.Call.TheVariants as request
use Rattle.volume_spec.specs.CreateFile.{is_hard}
use Rattle.volume_spec.specs.TreeSteps.{TreeCall, CreateDir, CreateFile, Delete, Rename, MoveAndRename, SetFileParms, SetDirParms, SetFileDirParms, SetVolParms}

-- the request as a call on one volume, where it is one that a volume plans
abbrev pub tree_call : Call → Option TreeCall
tree_call (request.CreateDir volume dir path) = Some (CreateDir dir.0 path)
tree_call (request.CreateFile flag volume dir path) = Some (CreateFile (is_hard flag) dir.0 path)
tree_call (request.Delete volume dir path) = Some (Delete dir.0 path)
tree_call (request.Rename volume dir path new_path) = Some (Rename dir.0 path new_path)
tree_call (request.MoveAndRename volume dir target_dir path target_path new_path) = Some (MoveAndRename dir.0 path target_dir.0 target_path new_path)
tree_call (request.SetFileParms volume dir bits path tail) = Some (SetFileParms dir.0 bits path tail)
tree_call (request.SetDirParms volume dir bits path tail) = Some (SetDirParms dir.0 bits path tail)
tree_call (request.SetFileDirParms volume dir bits path tail) = Some (SetFileDirParms dir.0 bits path tail)
tree_call (request.SetVolParms volume bits tail) = Some (SetVolParms bits tail)
tree_call call = None
