-- Names of files and directories (AFP Reference, "Catalog node names"; the limit and the faults are this profile's).
use Rattle.std.specs.Prelude.{ℕ, ◌≢◌, ◌<◌, ◌≤◌, ◌==◌, not, List, [], ◌∷◌, length, All, Option, nat_lt, chars, encode_utf8_all, IsUtf8}
use Rattle.std.specs.List.{list_any}
use Rattle.std.specs.Str.{is_utf8}
use Rattle.unicode_normalization.specs.Forms.{nfd}
use Rattle.caseless.specs.Caseless.{default_case_fold}
use Rattle.afp_base.specs.Choice.{first_holding}
use Rattle.afp_names.specs.declared.name.NameFault.{NameFault}
use Rattle.afp_names.specs.declared.name.NameFault.TheVariants.{Empty, TooLong, HasNul, NotUtf8}

-- the most bytes of a name (this profile)
abbrev pub longest_name : ℕ
longest_name = 255

-- why bytes are no name: the first of these rows that holds (this profile)
unfoldable pub name_fault : List ℕ → Option NameFault
name_fault bytes = first_holding (
    (length bytes == 0, Empty)
    ∷ (nat_lt longest_name (length bytes), TooLong)
    ∷ (list_any (λ byte. byte == 0) bytes, HasNul)
    ∷ (not (is_utf8 bytes), NotUtf8)
    ∷ [])

-- a name: 1 to 255 bytes of UTF-8, none of them 0 (this profile)
pub record IsName (bytes : List ℕ) : Type 0 where
  pub not_empty : 0 < length bytes
  pub short : length bytes ≤ longest_name
  pub no_zero : All (λ byte. byte ≢ 0) bytes
  pub utf8 : IsUtf8 bytes

-- what two names share exactly where they are the same name: NFD(fold(NFD(name))), in UTF-8 (Unicode, D145)
abbrev pub name_key : List ℕ → List ℕ
name_key bytes = encode_utf8_all (nfd (default_case_fold (nfd (chars bytes))))
