-- A world at the start is sound, over sound volumes and over those that nobody has used.
use Rattle.std.proofs.Common.{◌≡◌, ap, refl, ℕ, suc, ◌≤◌, true, false, List, [], ◌∷◌, length, map, arith, None}
use Rattle.std.specs.Prelude.{nat_le, nat_lt, ◌==◌, bytes_eq, is_none}
use Rattle.std.specs.Cmp.Lexicographic.{pointwise}
use Rattle.std.specs.List.{list_all, list_any}
use Rattle.std.specs.Str.{IsAscii, is_utf8}
use Rattle.std.proofs.lemmas.Bool.{and_from, and_parts, or_from, leb-true, le-leb, le-ltb, lt-ltb, ne_eqb}
use Rattle.std.proofs.lemmas.Str.{IsUtf8-from_ascii, is_utf8-from_IsUtf8}
use Rattle.std.proofs.lemmas.Str.Ascii.{IsAscii-nil, IsAscii-cons}
use Rattle.afp_names.specs.Name.{name_fault}
use Rattle.afp_names.specs.declared.name.TheConstants.{LONGEST_NAME}
use Rattle.std.proofs.lemmas.List.Elements.{All-map}
use Rattle.std.proofs.lemmas.Slice.Eq.{bytes_eq-Decides}
use Rattle.volume_spec.specs.SoundVolume.{IsSoundVolume}
use Rattle.volume_spec.specs.VolumeState.{VolumeState, fresh_volume}
use Rattle.volume_spec.proofs.Fresh.{fresh-sound as volume-sound}
use Rattle.afp_serial.proofs.Faultless.{faultless}
use Rattle.afp_serial.proofs.SoundParts.{ApartSessions, fields-whole, sessions-whole, opens-whole, locks-whole, caches-whole, limits-whole, users-whole}
use Rattle.afp_serial.specs.Faultless.{IsFaultless}
use Rattle.afp_serial.specs.Household.{Household}
use Rattle.afp_serial.specs.HouseFault.{is_printable, is_text, is_name, house_fault}
use Rattle.afp_serial.specs.Limits.{first_printable, last_printable, longest_volume, most_users, most_volumes}
use Rattle.afp_serial.specs.Ranges.{is_moment, is_typed_house}
use Rattle.volume_spec.specs.TypedVolume.{are_bytes, is_byte, is_typed_volume}
use Rattle.afp_serial.specs.Sound.{IsSound, ServesVolumes}
use Rattle.afp_serial.specs.World.{World, fresh_volumes, fresh_world, start_world}
use Rattle.afp_base.proofs.ListFacts.{all-each, all-map-where, all-weaker}

-- printable characters are a name

printable-ascii : (text : List ℕ) → list_all is_printable text ≡ true → IsAscii text
printable-ascii [] h = IsAscii-nil
printable-ascii (c ∷ cs) h =
    let e = and_parts (is_printable c) (list_all is_printable cs) h in
    let last : c ≤ last_printable = leb-true c last_printable (and_parts (nat_le first_printable c) (nat_le c last_printable) e.0).1 in
    IsAscii-cons c cs (omega arith) (printable-ascii cs e.1)

printable-no-zero : (text : List ℕ) → list_all is_printable text ≡ true → list_any (λ byte. byte == 0) text ≡ false
printable-no-zero [] h = refl
printable-no-zero (c ∷ cs) h =
    let e = and_parts (is_printable c) (list_all is_printable cs) h in
    let first : first_printable ≤ c = leb-true first_printable c (and_parts (nat_le first_printable c) (nat_le c last_printable) e.0).0 in
    or_from (c == 0) (list_any (λ byte. byte == 0) cs) (ne_eqb c 0 (λ zero. omega arith)) (printable-no-zero cs e.1)

no-fault : (name : List ℕ) → (length name == 0) ≡ false → nat_lt LONGEST_NAME (length name) ≡ false → list_any (λ byte. byte == 0) name ≡ false → is_utf8 name ≡ true → name_fault name ≡ None
unfolding name_fault
no-fault name some short no_zero text = rw (some, short, no_zero, text) refl

pub printable-name : (name : List ℕ) → is_name longest_volume name ≡ true → name_fault name ≡ None
printable-name name named =
    let e = and_parts (nat_le 1 (length name)) (is_text longest_volume name) named in
    let f = and_parts (nat_le (length name) longest_volume) (list_all is_printable name) e.1 in
    let some : 1 ≤ length name = leb-true 1 (length name) e.0 in
    let short : length name ≤ longest_volume = leb-true (length name) longest_volume f.0 in
    no-fault name (ne_eqb (length name) 0 (λ none. omega arith)) (le-ltb LONGEST_NAME (length name) (omega arith)) (printable-no-zero name f.1)
    (is_utf8-from_IsUtf8 name (IsUtf8-from_ascii name (printable-ascii name f.1)))

-- the fields of a volume that nobody has used are in their ranges

bytes-printable : (text : List ℕ) → list_all is_printable text ≡ true → are_bytes text ≡ true
bytes-printable text h =
    all-weaker is_printable is_byte text
    (λ c shown. let last : c ≤ last_printable = leb-true c last_printable (and_parts (nat_le first_printable c) (nat_le c last_printable) shown).1 in lt-ltb c 256 (omega arith))
    h

name-bytes : (name : List ℕ) → is_name longest_volume name ≡ true → are_bytes name ≡ true
name-bytes name named =
    bytes-printable name
    (and_parts (nat_le (length name) longest_volume) (list_all is_printable name) (and_parts (nat_le 1 (length name)) (is_text longest_volume name) named).1).1

fresh-typed : (now : ℕ) (name : List ℕ) → is_moment now ≡ true → is_name longest_volume name ≡ true → is_typed_volume (fresh_volume name now) ≡ true
unfolding is_typed_volume
fresh-typed now name moment named = let bytes : are_bytes name ≡ true = name-bytes name named in rw (moment, bytes) refl

same-names : (now : ℕ) (names : List (List ℕ)) → pointwise bytes_eq (map (λ v. v.name) (map (λ name. fresh_volume name now) names)) names ≡ true
same-names now [] = refl
same-names now (name ∷ names) = and_from (bytes_eq name name) (pointwise bytes_eq (map (λ v. v.name) (map (λ name. fresh_volume name now) names)) names) ((bytes_eq-Decides name name).1 refl) (same-names now names)

pub fresh-serve : (house : Household) (now : ℕ) → house_fault house ≡ None → is_moment now ≡ true → ServesVolumes house (fresh_volumes house now)
fresh-serve house now none moment =
    let fresh : List ℕ → VolumeState = λ name. fresh_volume name now in
    let has : IsFaultless house = faultless house none in
    let named : list_all (is_name longest_volume) house.volumes ≡ true = all-each (is_name longest_volume) house.volumes has.volume_names in
    record {
      served = same-names now house.volumes;
      each = All-map IsSoundVolume fresh house.volumes (λ k d within. volume-sound _ now (printable-name _ (has.volume_names k d within)));
      typed = all-map-where (is_name longest_volume) is_typed_volume fresh house.volumes (λ name n. fresh-typed now name moment n) named;
    }

-- the world at the start

pub start-apart : (house : Household) (now : ℕ) (volumes : List VolumeState) → ApartSessions (start_world house now volumes)
start-apart house now volumes = record { numbers = refl; links = refl; below = refl }

served-length : (xs : List VolumeState) (ys : List (List ℕ)) → pointwise bytes_eq (map (λ v. v.name) xs) ys ≡ true → length xs ≡ length ys
served-length [] [] h = refl
served-length [] (y ∷ ys) h = cc
served-length (x ∷ xs) [] h = cc
served-length (x ∷ xs) (y ∷ ys) h = ap suc (served-length xs ys (and_parts (bytes_eq x.name y) (pointwise bytes_eq (map (λ v. v.name) xs) ys) h).1)

pub start-sound : (house : Household) (now : ℕ) (volumes : List VolumeState) → house_fault house ≡ None → is_typed_house house ≡ true → is_moment now ≡ true
    → ServesVolumes house volumes → IsSound (start_world house now volumes)
start-sound house now volumes none typed moment serves =
    let w : World = start_world house now volumes in
    let has : IsFaultless house = faultless house none in
    let same : length volumes ≡ length house.volumes = served-length volumes house.volumes serves.served in
    let few : length volumes ≤ most_volumes = omega (arith, same, has.few_volumes) in
    record {
      house = ap is_none none;
      typed = fields-whole w (record { latest = moment; drain = refl; house = typed });
      volumes = serves;
      sessions = sessions-whole w (start-apart house now volumes);
      users = users-whole w refl;
      opens = opens-whole w (record { references = refl; stand = refl; clashes = refl });
      locks = locks-whole w (record { held = refl; overlaps = refl });
      caches = caches-whole w refl;
      limits = limits-whole w (record {
        users = le-leb (length house.users) most_users has.few_users;
        volumes = le-leb (length volumes) most_volumes few;
        sessions = refl;
        forks = refl;
        locks = refl;
      });
    }

pub fresh-sound : (house : Household) (now : ℕ) → house_fault house ≡ None → is_typed_house house ≡ true → is_moment now ≡ true → IsSound (fresh_world house now)
fresh-sound house now none typed moment = start-sound house now (fresh_volumes house now) none typed moment (fresh-serve house now none moment)
