-- What the code and the proofs go by beside KeyOrder; no public contract cites it.
use Rattle.std.specs.Prelude.{ℕ, Bool, bytes_eq, List}
use Rattle.std.specs.List.{list_any}
use Rattle.record_keeper.specs.declared.record.Record.{Record}

-- whether a key is among those of some records
abbrev pub has_key : List ℕ → List Record → Bool
has_key key records = list_any (λ r. bytes_eq r.key key) records
