use Rattle.std.proofs.Common.{arith}
use Rattle.std.proofs.lemmas.Str.{IsUtf8-string_bytes}
use Rattle.afp_names.proofs.MacRomanLemmas.{mac_roman_text-name}
use Rattle.afp_names.proofs.NameLemmas.{name_fault-none_from}
use Rattle.afp_names.proofs.name.Name.from_mac_roman.Goals as goal

pub invariant_of-result : goal.invariant_of-result
invariant_of-result c =
    name_fault-none_from _ (rw c.in_ok-text.ensures (mac_roman_text-name c.args.bytes.now (λ k. omega (arith, c.type_inv.bytes k)) c.requires.not_empty c.requires.short c.requires.no_zero)) (IsUtf8-string_bytes c.in_ok-text.text)
