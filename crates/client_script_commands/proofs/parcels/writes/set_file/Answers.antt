use Rattle.std.proofs.Common.{◌∙◌, List, ℕ, ap, rules, w32}
use Rattle.std.proofs.lemmas.Int.{to_z-of_z}
use Rattle.client_script_lines.specs.calls.Requests.{set_file}
use Rattle.client_script_commands.proofs.OfParcels.WriteLemmas.{same_settings}
use Rattle.client_script_commands.proofs.parcels.writes.set_file.Goals as goal

pub returns-in-Ok-clause-call : goal.returns-in-Ok-clause-call
returns-in-Ok-clause-call c =
    let z1 = to_z-of_z w32 c.args.p.now.created (search rules) in
    let z2 = to_z-of_z w32 c.args.p.now.modified (search rules) in
    let z3 = to_z-of_z w32 c.args.p.now.backup (search rules) in
    c.in-Ok.ensures.call ∙ ap (λ (settings : List ℕ). set_file c.args.volume c.args.path.now settings) (same_settings _ _ _ _ _ _ c.args.p.now.finder z1 z2 z3)
