use Rattle.volume_spec.specs.Walk.{found}
use Rattle.afp_core_calls.proofs.OfFile.FileLemmas.{answers-code}
use Rattle.afp_core_calls.proofs.OfFile.PairLemmas.{first-found, pair-found, second-found}
use Rattle.afp_core_calls.proofs.file.exchange_files.pair_of.Goals as goal

pub unreachable-requires : goal.unreachable-requires
unreachable-requires c =
    first-found c.args.volume.now.state c.args.user c.args.dir.0 c.args.second_dir.0 c.args.path.now c.args.second_path.now c.in-Err-Code._code
    (answers-code c.in-Err-Code.field-0 c.in-Err-Code._code (found c.args.volume.now.state.rows c.args.user c.args.dir.0 c.args.path.now) c.in-Err-Code.field-0-is c.in-Err-Code.ensures) c.requires

pub unreachable-requires-in-Err-Code-resolve : goal.unreachable-requires-in-Err-Code-resolve
unreachable-requires-in-Err-Code-resolve c =
    let e = c.in-Err-Code-resolve in
    second-found c.args.volume.now.state c.args.user c.args.dir.0 c.args.second_dir.0 c.args.path.now c.args.second_path.now c.in-Ok.first.0 e._code c.in-Ok.ensures
    (answers-code e.field-0 e._code (found c.args.volume.now.state.rows c.args.user c.args.second_dir.0 c.args.second_path.now) e.field-0-is e.ensures) c.requires

pub returns-in-Ok-resolve : goal.returns-in-Ok-resolve
returns-in-Ok-resolve c =
    pair-found c.args.volume.now.state c.args.user c.args.dir.0 c.args.second_dir.0 c.args.path.now c.args.second_path.now c.in-Ok.first.0 c.in-Ok-resolve.second.0 c.in-Ok.ensures c.in-Ok-resolve.ensures
