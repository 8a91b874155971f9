-- The server's report: one line (this profile).
use Rattle.std.specs.Prelude.{ℕ, List, ◌++◌, codes}
use Rattle.std.specs.Fmt.{decimal}
use Rattle.afp_base.specs.Counts.{counted}
use Rattle.volume_keeper_records.specs.declared.rows.Reason.{Reason}
use Rattle.volume_keeper_records.specs.declared.rows.Reason.TheVariants.{Shape, Parent, Twin, Range, Limit}

abbrev pub bad_words : List ℕ
bad_words = codes "bad words\n"

abbrev pub no_memory : List ℕ
no_memory = codes "no memory\n"

-- how many entries the history has, and how many sessions were opened in it
abbrev pub counts_line : ℕ → ℕ → List ℕ
counts_line entries sessions = codes "entries " ++ decimal entries ++ codes " sessions " ++ decimal sessions ++ codes "\n"

-- why a record is refused
abbrev pub reason_text : Reason → List ℕ
reason_text Shape = codes " shape\n"
reason_text Parent = codes " parent\n"
reason_text Twin = codes " twin\n"
reason_text Range = codes " range\n"
reason_text Limit = codes " limit\n"

-- the volume whose load gave none, by its place from 1
abbrev pub load_text : ℕ → List ℕ
load_text index = codes "load " ++ decimal (counted 1 index)

-- its keeper failed
abbrev pub fault_line : ℕ → List ℕ
fault_line index = load_text index ++ codes " fault\n"

-- the first record that no volume of that name has, by its key in hexadecimal, and why
abbrev pub bad_line : ℕ → List ℕ → Reason → List ℕ
bad_line index hex reason = load_text index ++ (codes " bad " ++ (hex ++ reason_text reason))
