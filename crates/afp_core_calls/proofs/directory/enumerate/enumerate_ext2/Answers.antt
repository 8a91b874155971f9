use Rattle.std.proofs.Common.{refl}
use Rattle.afp_calls_grammar.specs.declared.grammar.call.Call.TheVariants.{EnumerateExt2}
use Rattle.volume_spec.specs.Enumerate.{asked_wide}
use Rattle.afp_core_calls.proofs.OfDirectory.CallRows.{enumerate_ext2-lists}
use Rattle.afp_core_calls.proofs.directory.enumerate.enumerate_ext2.Goals as goal

pub returns : goal.returns
returns g c =
    let a = c.args in
    c.list.ensures (EnumerateExt2 a.volume a.dir a.file_bits a.dir_bits a.count a.start a.size a.path.now) (λ user. asked_wide user a.file_bits a.dir_bits a.count a.start a.size)
    (enumerate_ext2-lists a.volume a.dir a.file_bits a.dir_bits a.count a.start a.size a.path.now) refl c.user.ensures refl
