use Rattle.volume_spec.specs.Walk.{found}
use Rattle.afp_core_calls.proofs.OfFile.FileLemmas.{answers-code, id-bytes, nowhere-passes}
use Rattle.afp_core_calls.proofs.file.file_ids.id_block.Goals as goal

pub returns-in-Ok : goal.returns-in-Ok
returns-in-Ok c = id-bytes c.args.volume.now.state c.args.user c.args.dir.0 c.args.path.now c.in-Ok.id c.node_block.result c.in-Ok.ensures c.node_block.ensures

pub returns-in-Err-Code : goal.returns-in-Err-Code
returns-in-Err-Code c = λ passes. nowhere-passes c.args.volume.now.state c.args.user c.args.dir.0 c.args.path.now c.in-Err-Code._code _
    (answers-code c.in-Err-Code.field-0 c.in-Err-Code._code (found c.args.volume.now.state.rows c.args.user c.args.dir.0 c.args.path.now) c.in-Err-Code.field-0-is c.in-Err-Code.ensures) passes
