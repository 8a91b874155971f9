-- What words say that are none of a client's.
use Rattle.std.proofs.Common.{◌≡◌, ◌≢◌, List, [], ◌∷◌, refl, inl, inr}
use Rattle.std.specs.Prelude.{None}
use Rattle.clap.specs.Kinds.{HasKind, Kinds}
use Rattle.clap.specs.Walk.{Row}
use Rattle.clap.specs.Words.{kind_of}
use Rattle.clap.specs.declared.error.Error.{Error}
use Rattle.clap.specs.declared.error.kind.ErrorKind.TheVariants as kinds
use Rattle.afptool_lib.specs.client.Words.{taken_by}

-- words that the command refuses say nothing
pub refused : (found : Kinds) (rows : List Row) (e : Error) → HasKind found e → kind_of e ≢ kinds.OutOfMemory → taken_by found rows ≡ None
refused [] rows e has other = elim has [
  | inl memory ↦ absurd (other memory)
  | inr none ↦ absurd none
]
refused (k ∷ ks) rows e has other = refl
