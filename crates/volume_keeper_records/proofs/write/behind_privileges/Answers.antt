use Rattle.std.proofs.Common.{ap, sym, ◌∙◌}
use Rattle.volume_keeper_records.specs.Records.{privilege_bytes}
use Rattle.volume_keeper_records.proofs.Prefixes.{stripped}
use Rattle.volume_keeper_records.proofs.write.behind_privileges.Goals as goal

pub returns-in-Some : goal.returns-in-Some
returns-in-Some c = stripped (privilege_bytes c.args.privileges.now) c.rights_of.result c.args.bytes.now c.strip_prefix.result (c.rights_of.ensures ∙ ap privilege_bytes (sym c.in-Some.is)) c.strip_prefix.ensures.cases
