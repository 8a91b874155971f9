-- Reads and writes may be asked.
use Rattle.std.proofs.Common.{ℕ, ◌≤◌, List, length, arith, refl}
use Rattle.std.specs.Prelude.{ℤ, pos}
use Rattle.afp_base.specs.declared.ids.ForkRef.{ForkRef}
use Rattle.afp_calls_grammar.specs.declared.grammar.call.Call.TheVariants as calls
use Rattle.client_script_lines.specs.calls.Asked.{IsAskable}
use Rattle.client_script_lines.proofs.OfCalls.SizeLemmas.{askable}

pub askable_read_at : (reference : ForkRef) (offset count : ℤ) → IsAskable (calls.ReadExt reference offset count)
askable_read_at reference offset count =
    askable (calls.ReadExt reference offset count) tt (record { fields = (tt, (tt, (tt, (tt, (tt, tt))))); encloses = tt }) (omega (arith))

pub askable_write_at : (reference : ForkRef) (offset : ℤ) (piece : List ℕ) → length piece ≤ 130048 → IsAskable (calls.WriteExt 0 reference offset (pos (length piece)) piece)
askable_write_at reference offset piece h-short =
    askable (calls.WriteExt 0 reference offset (pos (length piece)) piece) tt (record { fields = (tt, (tt, (tt, (tt, (tt, tt))))); encloses = refl }) (omega (arith, h-short))
