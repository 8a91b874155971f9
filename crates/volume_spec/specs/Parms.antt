-- What the calls share that tell or set parameters (AFP Reference, "FPGetFileDirParms").
use Rattle.std.specs.Prelude.{ℕ, ℤ, List, if◌then◌else◌}
use Rattle.std.specs.Int.{w32, cast_signed}
use Rattle.byteorder.specs.Endian.{big_number}
use Rattle.afp_bitmap.specs.Bits.{is_asked}

-- a value whose bit is asked, or what stands for one that is not (this profile)
abbrev pub asked_or : {A : Type 0} → ℕ → ℕ → A → A → A
asked_or bits bit other value = if is_asked bits bit then value else other

-- the date in the first 4 bytes: signed seconds from 2000-01-01 00:00 GMT (AFP Reference, "Date and time")
abbrev pub date_in : List ℕ → ℤ
date_in bytes = cast_signed w32 (big_number 4 bytes)
