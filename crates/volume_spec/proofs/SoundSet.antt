-- What is set of a node keeps its row formed.
use Rattle.std.proofs.Common.{◌==◌, ◌≡◌, ◌∙◌, ap, sym, refl, ℕ, ◌+◌, ◌-◌, ◌≤◌, arith, Bool, true, false, not, ◌&&◌, cond, List, [], ◌∷◌, length, take, drop, Option, Some, None, subst}
use Rattle.std.specs.Prelude.{is_none, bit_and, bit_or, nat_le, option_map, unwrap_or, nat_lt, slice_index}
use Rattle.std.specs.Int.{bit_not, w16}
use Rattle.std.proofs.lemmas.Bool.{and_parts, and_from, cond_both, cond-true, eq-eqb, ltb-false, le-leb}
use Rattle.std.proofs.lemmas.List.{length-drop, length-take-le}
use Rattle.std.proofs.lemmas.Nat.{and_assoc, and_comm, and_le_l}
use Rattle.std.specs.Int.Bits.{and_self}
use Rattle.afp_bitmap.specs.Bits.{is_asked}
use Rattle.afp_names.specs.Name.{name_fault}
use Rattle.volume_spec.proofs.SoundEdits.{KeepsRow}
use Rattle.volume_spec.specs.SetFileDirParms.{Settings, has_sized_finder, set_fields, asked_bytes, is_short_tail, field_in, settings_in, attributes_by, with_settings, are_fit_settings, has_fit_rights, privileges_by, rights_in}
use Rattle.volume_spec.specs.SoundVolume.{is_formed, is_named, file_attributes, dir_attributes, has_fit_privileges, are_rights}
use Rattle.volume_spec.specs.VolumeState.{Row, Privileges, privileges_of, rights_bytes}
use Rattle.std.specs.List.{filter}

masked : (mask word : ℕ) → bit_and (bit_and mask word) mask ≡ bit_and mask word
masked mask word = ap (λ n. bit_and n mask) (and_comm mask word) ∙ and_assoc mask word mask ∙ ap (λ n. bit_and word n) (and_self mask) ∙ and_comm word mask

-- whether a node of that kind, with what else is asked of a directory, may have these attributes
abbrev may-have : Bool → Bool → ℕ → Bool
may-have dir rest attributes = cond dir ((bit_and attributes dir_attributes == attributes) && rest) (bit_and attributes file_attributes == attributes)

set-may-have : (dir rest : Bool) (word old : ℕ) → may-have dir rest old ≡ true → may-have dir rest (attributes_by dir word old) ≡ true
unfolding attributes_by
set-may-have true rest word old h =
    let asked : ℕ = cond (nat_le 0x8000 word) (bit_or old word) (bit_and old (bit_not w16 word)) in
    and_from (bit_and (bit_and dir_attributes asked) dir_attributes == bit_and dir_attributes asked) rest
    (eq-eqb (bit_and (bit_and dir_attributes asked) dir_attributes) (bit_and dir_attributes asked) (masked dir_attributes asked))
    (and_parts (bit_and old dir_attributes == old) rest h).1
set-may-have false rest word old h =
    let asked : ℕ = cond (nat_le 0x8000 word) (bit_or old word) (bit_and old (bit_not w16 word)) in
    eq-eqb (bit_and (bit_and file_attributes asked) file_attributes) (bit_and file_attributes asked) (masked file_attributes asked)

some-may-have : (dir rest : Bool) (o : Option ℕ) (old : ℕ) → may-have dir rest old ≡ true → may-have dir rest (unwrap_or (option_map (λ (word : ℕ). attributes_by dir word old) o) old) ≡ true
some-may-have dir rest None old h = h
some-may-have dir rest (Some word) old h = set-may-have dir rest word old h

some-sized : (o : Option (List ℕ)) (old : List ℕ) → unwrap_or (option_map (λ (info : List ℕ). length info == 32) o) true ≡ true → (length old == 32) ≡ true → (length (unwrap_or o old) == 32) ≡ true
some-sized None old sized h = h
some-sized (Some info) old sized h = sized

-- what is set of a directory's privileges has three bits each, and of a file's nothing is set
privileges-fit : (dir : Bool) (s : Settings) → has_fit_rights s ≡ true → (p : Privileges) → has_fit_privileges dir p ≡ true → has_fit_privileges dir (privileges_by dir s p) ≡ true
unfolding privileges_by
privileges-fit false s fit p h = h
privileges-fit true s fit p h = by s.rights fit
  where
    by : (o : Option (List ℕ)) → unwrap_or (option_map (λ (rights : List ℕ). are_rights (privileges_of 0 0 rights)) o) true ≡ true
        → are_rights (privileges_of (unwrap_or s.owner p.owner) (unwrap_or s.group p.group) (unwrap_or o (rights_bytes p))) ≡ true
    by None fit = h
    by (Some rights) fit = fit

pub settings-keep : (s : Settings) → are_fit_settings s ≡ true → KeepsRow (with_settings s)
unfolding with_settings
settings-keep s h = record {
  place = record { id = λ row. refl; parent = λ row. refl; dir = λ row. refl; name = λ row. refl };
  formed = formed;
  bytes = λ row. refl;
}
  where
    formed : (row : Row) → is_formed row ≡ true → is_formed (with_settings s row) ≡ true
    formed row formed_row =
        let set = and_parts (has_sized_finder s) (has_fit_rights s) h in
        let rest : Bool = (length row.data_fork == 0) && ((length row.resource_fork == 0) && not row.filed) in
        let fit : Bool = has_fit_privileges row.dir row.privileges in
        let both = and_parts fit (is_named row && may-have row.dir rest row.attributes) formed_row in
        let e = and_parts (is_named row) (may-have row.dir rest row.attributes) both.1 in
        let n = and_parts (is_none (name_fault row.name)) (length row.finder == 32) e.0 in
        and_from (has_fit_privileges row.dir (privileges_by row.dir s row.privileges)) (is_named (with_settings s row) && may-have row.dir rest (with_settings s row).attributes)
        (privileges-fit row.dir s set.1 row.privileges both.0)
        (and_from (is_named (with_settings s row)) (may-have row.dir rest (with_settings s row).attributes)
        (and_from (is_none (name_fault row.name)) (length (unwrap_or s.finder row.finder) == 32) n.0 (some-sized s.finder row.finder set.0 n.1))
        (some-may-have row.dir rest s.attributes row.attributes e.1))

-- where eight fields are there, of which the fifth has 32 bytes, so many bytes are behind the four before it
room : (a b c d e f g h n : ℕ) → e ≡ 32 → 0 + a + b + c + d + e + f + g + h ≤ n → 32 ≤ n - (0 + a + b + c + d)
room a b c d e f g h n size there = omega arith

-- a tail that is not short holds all of the Finder info
not-short : (bits : ℕ) (tail : List ℕ) → is_short_tail bits tail ≡ false → has_sized_finder (settings_in bits tail) ≡ true
unfolding is_short_tail settings_in field_in
not-short bits tail h =
    let place : ℕ = asked_bytes bits ((0, 2) ∷ (2, 4) ∷ (3, 4) ∷ (4, 4) ∷ []) in
    let long : asked_bytes bits set_fields ≤ length tail = ltb-false (length tail) (asked_bytes bits set_fields) h in
    let info : List ℕ = take 32 (drop place tail) in
    cond_both (is_asked bits 5) (Some info) None (λ o. unwrap_or (option_map (λ (i : List ℕ). length i == 32) o) true ≡ true)
    (λ asked.
    let behind : 32 ≤ length tail - place = room _ _ _ _ _ _ _ _ (length tail) (cond-true {A = ℕ} (is_asked bits 5) 32 0 asked) long in
    eq-eqb (length info) 32 (length-take-le 32 (drop place tail) (subst (λ n. 32 ≤ n) (sym (length-drop place tail)) behind)))
    (λ other. refl)

-- the rights that a tail holds are cut to three bits
rights-fit : (bits : ℕ) (tail : List ℕ) → has_fit_rights (settings_in bits tail) ≡ true
unfolding settings_in field_in
rights-fit bits tail =
    let place : ℕ = asked_bytes bits (filter (λ (field : ℕ × ℕ). nat_lt field.0 12) set_fields) in
    let four : List ℕ = take 4 (drop place tail) in
    cond_both (is_asked bits 12) (Some four) None (λ o. unwrap_or (option_map (λ (rights : List ℕ). are_rights (privileges_of 0 0 rights)) (option_map rights_in o)) true ≡ true)
    (λ asked. and_from (nat_le (bit_and (slice_index four 1) 7) 7) _ (low four 1) (and_from (nat_le (bit_and (slice_index four 2) 7) 7) _ (low four 2) (low four 3)))
    (λ other. refl)
  where
    low : (bytes : List ℕ) (i : ℕ) → nat_le (bit_and (slice_index bytes i) 7) 7 ≡ true
    low bytes i = le-leb (bit_and (slice_index bytes i) 7) 7 (subst (λ n. n ≤ 7) (and_comm 7 (slice_index bytes i)) (and_le_l 7 (slice_index bytes i)))

-- a node may get the settings of a tail that is not short
pub tail-fit : (bits : ℕ) (tail : List ℕ) → is_short_tail bits tail ≡ false → are_fit_settings (settings_in bits tail) ≡ true
tail-fit bits tail long = and_from (has_sized_finder (settings_in bits tail)) (has_fit_rights (settings_in bits tail)) (not-short bits tail long) (rights-fit bits tail)
