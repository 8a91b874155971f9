-- Names in entries.
use Rattle.std.proofs.Common.{◌≡◌, ℕ, ◌<◌, ◌≤◌, Bool, true, false, cond, List, length, map, refl, arith}
use Rattle.std.specs.Prelude.{Option, Some, None, is_none}
use Rattle.std.proofs.lemmas.Str.{length-le-encodes}
use Rattle.afp_base.proofs.ListFacts.{length-mapped}
use Rattle.afp_names.specs.declared.name.NameFault.{NameFault}
use Rattle.afp_names.specs.MacRoman.{mac_roman_char, mac_roman_text}
use Rattle.afp_names.specs.Name.{name_fault, longest_name}
use Rattle.afp_names.proofs.NameLemmas.{name_fault-parts}
use Rattle.apple_double.specs.Contents.{if_name, name_in}

pub if_name-good : (bytes : List ℕ) → name_fault bytes ≡ None → if_name bytes ≡ Some bytes
if_name-good bytes good = rw good refl

none_false : (o : Option NameFault) → (o ≡ None → ⊥) → is_none o ≡ false
none_false None h = absurd (h refl)
none_false (Some x) h = refl

pub if_name-bad : (bytes : List ℕ) → (name_fault bytes ≡ None → ⊥) → if_name bytes ≡ None
if_name-bad bytes bad = rw (none_false (name_fault bytes) bad) refl

pub if_name-long : (bytes : List ℕ) → longest_name < length bytes → if_name (mac_roman_text bytes) ≡ None
if_name-long bytes long =
    if_name-bad (mac_roman_text bytes)
    (λ good.
    let parts = name_fault-parts (mac_roman_text bytes) good in
    let more = length-le-encodes (map mac_roman_char bytes) in
    let same = length-mapped mac_roman_char bytes in
    let short : length (mac_roman_text bytes) ≤ longest_name = parts.1 in
    omega (arith, more, same, short, long))

-- a name in UTF-8, and one that is none
first_way : {A : Type 0} (b : Bool) (x n : A) (rest : Option A) → Some n ≡ cond b (Some x) None → Some n ≡ cond b (Some x) rest
first_way true x n rest h = h
first_way false x n rest h = absurd (cc)

other_way : {A : Type 0} (b : Bool) (x : A) (rest : Option A) → None ≡ cond b (Some x) None → rest ≡ cond b (Some x) rest
other_way true x rest h = absurd (cc)
other_way false x rest h = refl

pub name_in-utf8 : (bytes n : List ℕ) → Some n ≡ if_name bytes → Some n ≡ name_in bytes
unfolding name_in
name_in-utf8 bytes n h = first_way (is_none (name_fault bytes)) bytes n (if_name (mac_roman_text bytes)) h

pub name_in-other : (bytes : List ℕ) → None ≡ if_name bytes → if_name (mac_roman_text bytes) ≡ name_in bytes
unfolding name_in
name_in-other bytes h = other_way (is_none (name_fault bytes)) bytes (if_name (mac_roman_text bytes)) h
