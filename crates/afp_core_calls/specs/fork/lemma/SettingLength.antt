-- The length that FPSetForkParms sets (this profile).
use Rattle.std.specs.Prelude.{ℕ, Bool, not, ◌||◌, List, [], ◌∷◌, length, nat_lt, Option}
use Rattle.afp_base.specs.Limits.{last_byte}
use Rattle.byteorder.specs.Endian.{big_number}
use Rattle.afp_base.specs.Choice.{first_holding}
use Rattle.afp_base.specs.declared.code.Code.{Code}
use Rattle.afp_base.specs.declared.code.Code.TheVariants.{BitmapErr, ParamErr}
use Rattle.volume_spec.specs.SetForkParms.{asks_length, has_no_length}

-- why bits and a tail ask for no length of a fork
abbrev pub length_refusal : Bool → ℕ → List ℕ → Option Code
length_refusal resource bits tail = first_holding ((not (asks_length resource bits), BitmapErr) ∷ (has_no_length resource bits tail, ParamErr) ∷ [])

-- whether bytes have fewer than the 8 of a length, or their first 8 are a negative one
abbrev pub is_no_ext_length : List ℕ → Bool
is_no_ext_length tail = nat_lt (length tail) 8 || nat_lt last_byte (big_number 8 tail)
