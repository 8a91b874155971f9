use Rattle.std.proofs.Common.{refl, sym}
use Rattle.afp_calls_grammar.specs.declared.grammar.call.Call.TheVariants.{EnumerateExt}
use Rattle.volume_spec.specs.Enumerate.{asked_wide}
use Rattle.afp_core_calls.proofs.OfDirectory.CallRows.{enumerate_ext-lists}
use Rattle.afp_core_calls.proofs.directory.enumerate.enumerate_ext.Goals as goal

pub returns : goal.returns
returns g c =
    let a = c.args in
    c.list.ensures (EnumerateExt a.volume a.dir a.file_bits a.dir_bits a.count a.start a.size a.path.now) (λ user. asked_wide user a.file_bits a.dir_bits a.count a.start a.size)
    (enumerate_ext-lists a.volume a.dir a.file_bits a.dir_bits a.count a.start a.size a.path.now) refl c.user.ensures
    (λ i. asked_wide c.user.result a.file_bits a.dir_bits a.count (sym c.from.ensures i) (sym c.from-2.ensures i))
