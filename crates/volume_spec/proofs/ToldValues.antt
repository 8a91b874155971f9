-- What is told are values that the bits ask for, each one of its type.
use Rattle.std.proofs.Common.{◌==◌, ◌≡◌, ◌∙◌, ap, refl, ℕ, ◌+◌, ◌-◌, ◌≤◌, ◌<◌, ◌^◌, min, arith, ℤ, pos, negsuc, Bool, true, false, not, ◌&&◌, cond, List, [], ◌∷◌, length, replicate, Option, Some, None, subst}
use Rattle.std.specs.Prelude.{Result, Ok, Err, is_none, is_some, option_map, nat_le, nat_lt, bit_or, bytes_eq, MatchBool, FitsSigned}
use Rattle.std.specs.Int.{w32}
use Rattle.std.specs.List.{find}
use Rattle.std.proofs.lemmas.Bool.{and_parts, both_ways, cond_both, eqb-true, ltb-true, leb-true, not-false}
use Rattle.std.proofs.lemmas.Slice.Eq.{bytes_eq-Decides}
use Rattle.std.proofs.lemmas.List.Sums.{sum_by-cons}
use Rattle.std.proofs.lemmas.Nat.{or_lt}
use Rattle.afp_base.specs.declared.code.Code.{Code}
use Rattle.afp_base.specs.declared.code.Code.TheVariants.{BitmapErr, ObjectTypeErr, ObjectNotFound}
use Rattle.afp_bitmap.specs.Bits.{is_asked, file_mask, dir_mask, is_outside}
use Rattle.afp_bitmap.specs.Field.{Number, Date, Finder, LongName, Utf8Name}
use Rattle.afp_bitmap.specs.Params.{Fits, IsAnswer}
use Rattle.afp_bitmap.specs.Table.{rows, volume_rows, file_rows, dir_rows}
use Rattle.afp_bitmap.specs.declared.params.Values.TheVariants.{Volume, File, Dir}
use Rattle.afp_names.proofs.LongNameLemmas.{length-long_name_of}
use Rattle.afp_names.proofs.NameLemmas.{name_fault-parts}
use Rattle.afp_names.specs.LongName.{long_name_of}
use Rattle.afp_names.specs.Name.{name_fault}
use Rattle.volume_spec.proofs.Formed.{LimitParts, formed-parts, limit-parts}
use Rattle.volume_spec.proofs.TypedEdits.{TypedRow, TypedParts, row-parts, typed-parts}
use Rattle.volume_spec.proofs.Trees.{TreeParts, tree-parts}
use Rattle.volume_spec.proofs.Walks.{row-there, walk-there}
use Rattle.volume_spec.proofs.Refusals.{none-first, none-holds}
use Rattle.volume_spec.specs.Shared.{Opened, behind, done_at}
use Rattle.volume_spec.specs.GetFileDirParms.{get_file_dir_parms_refusal, get_file_dir_parms_values}
use Rattle.volume_spec.specs.OpenDir.{open_dir_refusal, open_dir_id}
use Rattle.afp_names.specs.Path.{PathValue}
use Rattle.volume_spec.specs.GetVolParms.{free_bytes, volume_values}
use Rattle.volume_spec.specs.Listing.{children}
use Rattle.volume_spec.specs.NodeValues.{has_open_fork, told_attributes, file_values, dir_values, bits_of, node_values, told_rights}
use Rattle.afp_base.specs.Limits.{most_fork_bytes}
use Rattle.volume_spec.specs.SoundVolume.{IsSoundVolume, is_formed, is_named, fork_bytes, row_bytes, is_in_place, leads_to_root, has_fit_privileges, are_rights}
use Rattle.volume_spec.specs.TypedVolume.{is_date, is_typed_row, is_typed_volume, is_long}
use Rattle.volume_spec.specs.VolumeState.{Row, VolumeState, root_id, root_parent, first_id, Privileges, only_group}
use Rattle.volume_spec.specs.Walk.{found, has_directory, row_at}
use Rattle.afp_base.proofs.Facts.{none_from_is_none}
use Rattle.afp_base.proofs.ListFacts.{find-all, find-passes}
use Rattle.volume_spec.specs.Rights.{rights_of}

-- a value that stands where its bit is asked, and is blank where not

pub number-fits : (b : Bool) (n x : ℕ) → MatchBool b (Unit {0}) (Number n (cond b x 0) ≡ Number n 0)
number-fits true n x = tt
number-fits false n x = refl

pub date-fits : (b : Bool) (z : ℤ) → MatchBool b (Unit {0}) (Date (cond b z (pos 0)) ≡ Date (pos 0))
date-fits true z = tt
date-fits false z = refl

pub finder-fits : (b : Bool) (info : List ℕ) → MatchBool b (Unit {0}) (Finder (cond b info (replicate 32 0)) ≡ Finder (replicate 32 0))
finder-fits true info = tt
finder-fits false info = refl

long-fits : (b : Bool) (name : List ℕ) → length name < 256 → MatchBool b (length (cond b name []) < 256) (LongName (cond b name []) ≡ LongName [])
long-fits true name short = short
long-fits false name short = refl

utf8-fits : (b : Bool) (name : List ℕ) → length name < 65536 → MatchBool b (length (cond b name []) < 65536) (Utf8Name (cond b name []) ≡ Utf8Name [])
utf8-fits true name short = short
utf8-fits false name short = refl

number-typed : (b : Bool) (most x : ℕ) → x < most → cond b x 0 < most
number-typed true most x h = h
number-typed false most x h = omega arith

date-typed : (b : Bool) (z : ℤ) → is_date z ≡ true → FitsSigned w32 (cond b z (pos 0))
date-typed true (pos n) h = record { sfits = let k = leb-true n 2147483647 h in omega arith }
date-typed true (negsuc n) h = record { sfits = let k = leb-true n 2147483647 h in omega arith }
date-typed false z h = record { sfits = omega arith }

finder-typed : (b : Bool) (info : List ℕ) → length info ≡ 32 → length (cond b info (replicate 32 0)) ≡ 32
finder-typed true info h = h
finder-typed false info h = refl

-- a row of a sound volume
pub record RowFacts (row : Row) : Type 0 where
  pub typed : TypedRow row
  pub name : length row.name < 256
  pub long_name : length (long_name_of row.name row.id) < 256
  pub finder : length row.finder ≡ 32
  pub data_fork : length row.data_fork < 2 ^ 32
  pub resource_fork : length row.resource_fork < 2 ^ 32
  pub privileges : has_fit_privileges row.dir row.privileges ≡ true

-- the forks of one row are no more than all
pub bytes-within : (p : Row → Bool) (rows : List Row) (row : Row) → find p rows ≡ Some row → row_bytes row ≤ fork_bytes rows
bytes-within p [] row h = absurd (cc)
bytes-within p (x ∷ xs) row h =
    let sum : fork_bytes (x ∷ xs) ≡ row_bytes x + fork_bytes xs = sum_by-cons row_bytes x xs in
    cond_both (p x) (Some x) (find p xs) (λ o. o ≡ Some row → row_bytes row ≤ fork_bytes (x ∷ xs))
    (λ here h. let is : x ≡ row = cc in let same : row_bytes x ≡ row_bytes row = ap row_bytes is in omega arith)
    (λ other h. let rest : row_bytes row ≤ fork_bytes xs = bytes-within p xs row h in omega arith) h

formed-short : (row : Row) → is_formed row ≡ true → length row.name < 256
formed-short row formed =
    let e = and_parts (is_none (name_fault row.name)) (length row.finder == 32) (and_parts (is_named row) _ (and_parts (has_fit_privileges row.dir row.privileges) _ formed).1).0 in
    let named = (name_fault-parts row.name (none_from_is_none (name_fault row.name) e.0)).1 in
    omega arith

row-facts : (v : VolumeState) (id : ℕ) (row : Row) → row_at v.rows id ≡ Some row → IsSoundVolume v → is_typed_volume v ≡ true → RowFacts row
unfolding row_at
row-facts v id row at_id s t =
    let is : Row → Bool = λ (r : Row). r.id == id in
    let typed : TypedRow row = row-parts row (find-all is is_typed_row v.rows row at_id (typed-parts v t).rows) in
    let formed : is_formed row ≡ true = find-all is is_formed v.rows row at_id (formed-parts v s.formed).rows in
    let e = and_parts (is_none (name_fault row.name)) (length row.finder == 32) (and_parts (is_named row) _ (and_parts (has_fit_privileges row.dir row.privileges) _ formed).1).0 in
    let limits : LimitParts v = limit-parts v s.limits in
    let all : fork_bytes v.rows ≤ most_fork_bytes = limits.bytes in
    let bytes : row_bytes row ≤ fork_bytes v.rows = bytes-within is v.rows row at_id in
    let long : length (long_name_of row.name row.id) ≤ 31 = length-long_name_of row.name row.id (ltb-true row.id 4294967296 typed.id) in
    record {
      typed = typed;
      name = formed-short row formed;
      long_name = omega arith;
      finder = eqb-true (length row.finder) 32 e.1;
      data_fork = omega arith;
      resource_fork = omega arith;
      privileges = (and_parts (has_fit_privileges row.dir row.privileges) _ formed).0;
    }

attributes-short : (opens : List Opened) (row : Row) → row.attributes < 2 ^ 16 → told_attributes opens row < 2 ^ 16
unfolding told_attributes
attributes-short opens row small =
    or_lt 16 row.attributes _ small (or_lt 16 _ _
    (cond_both (has_open_fork opens row.id false) 8 0 (λ n. n < 2 ^ 16) (λ open_fork. omega arith) (λ shut. omega arith))
    (cond_both (has_open_fork opens row.id true) 16 0 (λ n. n < 2 ^ 16) (λ open_fork. omega arith) (λ shut. omega arith)))

file-told : (opens : List Opened) (bits : ℕ) (row : Row) → RowFacts row → IsAnswer 1 bits (File (file_values opens bits row))
unfolding file_values rows file_rows Fits
file-told opens bits row f =
    let t : TypedRow row = f.typed in
    let asked : ℕ → Bool = λ bit. is_asked bits bit in
    let bytes : ℕ = length row.data_fork in
    let resource : ℕ = length row.resource_fork in
    record {
      kind_is = refl;
      fits = (
        number-fits (asked 0) 2 (told_attributes opens row),
        (
          number-fits (asked 1) 4 row.parent,
          (
            date-fits (asked 2) row.created,
            (
              date-fits (asked 3) row.modified,
              (
                date-fits (asked 4) row.backup,
                (
                  finder-fits (asked 5) row.finder,
                  (
                    long-fits (asked 6) (long_name_of row.name row.id) f.long_name,
                    (
                      number-fits (asked 8) 4 row.id,
                      (
                        number-fits (asked 9) 4 bytes,
                        (
                          number-fits (asked 10) 4 resource,
                          (
                            number-fits (asked 11) 8 bytes,
                            (
                              utf8-fits (asked 13) row.name (let h = f.name in omega arith),
                              (
                                number-fits (asked 14) 8 resource,
                                tt,
                              ),
                            ),
                          ),
                        ),
                      ),
                    ),
                  ),
                ),
              ),
            ),
          ),
        ),
      );
      typed = (
        number-typed (asked 0) (256 ^ 2) (told_attributes opens row) (attributes-short opens row (ltb-true row.attributes 65536 t.attributes)),
        (
          number-typed (asked 1) (256 ^ 4) row.parent (ltb-true row.parent 4294967296 t.parent),
          (
            date-typed (asked 2) row.created t.created,
            (
              date-typed (asked 3) row.modified t.modified,
              (
                date-typed (asked 4) row.backup t.backup,
                (
                  finder-typed (asked 5) row.finder f.finder,
                  (
                    tt,
                    (
                      number-typed (asked 8) (256 ^ 4) row.id (ltb-true row.id 4294967296 t.id),
                      (
                        number-typed (asked 9) (256 ^ 4) bytes f.data_fork,
                        (
                          number-typed (asked 10) (256 ^ 4) resource f.resource_fork,
                          (
                            number-typed (asked 11) (256 ^ 8) bytes (let h = f.data_fork in omega arith),
                            (
                              tt,
                              (
                                number-typed (asked 14) (256 ^ 8) resource (let h = f.resource_fork in omega arith),
                                tt,
                              ),
                            ),
                          ),
                        ),
                      ),
                    ),
                  ),
                ),
              ),
            ),
          ),
        ),
      );
    }

-- the rights that a user is told take four bytes
rights-of : (dir : Bool) (p : Privileges) → has_fit_privileges dir p ≡ true → are_rights p ≡ true
rights-of true p h = h
rights-of false p h =
    let a = and_parts ((p.owner == 0) && (p.group == 0)) _ h in
    let b = and_parts (p.everyone_rights == 0) _ a.1 in
    let d = and_parts (p.group_rights == 0) (p.owner_rights == 0) b.1 in
    λ i. nat_le (eqb-true p.everyone_rights 0 b.0 i) 7 && (nat_le (eqb-true p.group_rights 0 d.0 i) 7 && nat_le (eqb-true p.owner_rights 0 d.1 i) 7)

rights-short : (p : Privileges) (user : ℕ) → are_rights p ≡ true → told_rights p user < 256 ^ 4
unfolding told_rights rights_of
rights-short p user h =
    let a = and_parts (nat_le p.everyone_rights 7) _ h in
    let b = and_parts (nat_le p.group_rights 7) (nat_le p.owner_rights 7) a.1 in
    let everyone : p.everyone_rights ≤ 7 = leb-true p.everyone_rights 7 a.0 in
    let group : p.group_rights ≤ 7 = leb-true p.group_rights 7 b.0 in
    let owner : p.owner_rights ≤ 7 = leb-true p.owner_rights 7 b.1 in
    let by_group : cond (p.group == only_group) p.group_rights 0 < 2 ^ 3 = cond_both (p.group == only_group) p.group_rights 0 (λ n. n < 2 ^ 3) (λ is. omega arith) (λ other. omega arith) in
    let by_owner : cond (p.owner == user) p.owner_rights 0 < 2 ^ 3 = cond_both (p.owner == user) p.owner_rights 0 (λ n. n < 2 ^ 3) (λ is. omega arith) (λ other. omega arith) in
    let own : bit_or p.everyone_rights (bit_or (cond (p.group == only_group) p.group_rights 0) (cond (p.owner == user) p.owner_rights 0)) < 2 ^ 3 = or_lt 3 p.everyone_rights _ (omega arith) (or_lt 3 _ _ by_group by_owner) in
    let bit : cond (p.owner == user) 0x80 0 ≤ 0x80 = cond_both (p.owner == user) 0x80 0 (λ n. n ≤ 0x80) (λ is. omega arith) (λ other. omega arith) in
    omega arith

dir-told : (v : VolumeState) (user : ℕ) (bits : ℕ) (row : Row) → RowFacts row → IsAnswer 2 bits (Dir (dir_values v.rows user bits row))
unfolding dir_values rows dir_rows Fits
dir-told v user bits row f =
    let t : TypedRow row = f.typed in
    let asked : ℕ → Bool = λ bit. is_asked bits bit in
    let offspring : ℕ = min 65535 (length (children v.rows row.id)) in
    let own = and_parts (is_long row.privileges.owner) (is_long row.privileges.group) t.privileges in
    record {
      kind_is = refl;
      fits = (
        number-fits (asked 0) 2 row.attributes,
        (
          number-fits (asked 1) 4 row.parent,
          (
            date-fits (asked 2) row.created,
            (
              date-fits (asked 3) row.modified,
              (
                date-fits (asked 4) row.backup,
                (
                  finder-fits (asked 5) row.finder,
                  (
                    long-fits (asked 6) (long_name_of row.name row.id) f.long_name,
                    (
                      number-fits (asked 8) 4 row.id,
                      (
                        number-fits (asked 9) 2 offspring,
                        (
                          number-fits (asked 10) 4 row.privileges.owner,
                          (
                            number-fits (asked 11) 4 row.privileges.group,
                            (
                              number-fits (asked 12) 4 (told_rights row.privileges user),
                              (
                                utf8-fits (asked 13) row.name (let h = f.name in omega arith),
                                tt,
                              ),
                            ),
                          ),
                        ),
                      ),
                    ),
                  ),
                ),
              ),
            ),
          ),
        ),
      );
      typed = (
        number-typed (asked 0) (256 ^ 2) row.attributes (ltb-true row.attributes 65536 t.attributes),
        (
          number-typed (asked 1) (256 ^ 4) row.parent (ltb-true row.parent 4294967296 t.parent),
          (
            date-typed (asked 2) row.created t.created,
            (
              date-typed (asked 3) row.modified t.modified,
              (
                date-typed (asked 4) row.backup t.backup,
                (
                  finder-typed (asked 5) row.finder f.finder,
                  (
                    tt,
                    (
                      number-typed (asked 8) (256 ^ 4) row.id (ltb-true row.id 4294967296 t.id),
                      (
                        number-typed (asked 9) (256 ^ 2) offspring (omega arith),
                        (
                          number-typed (asked 10) (256 ^ 4) row.privileges.owner (ltb-true row.privileges.owner 4294967296 own.0),
                          (
                            number-typed (asked 11) (256 ^ 4) row.privileges.group (ltb-true row.privileges.group 4294967296 own.1),
                            (
                              number-typed (asked 12) (256 ^ 4) (told_rights row.privileges user) (rights-short row.privileges user (rights-of row.dir row.privileges f.privileges)),
                              (
                                tt,
                                tt,
                              ),
                            ),
                          ),
                        ),
                      ),
                    ),
                  ),
                ),
              ),
            ),
          ),
        ),
      );
    }

pub node-told : (v : VolumeState) (user : ℕ) (opens : List Opened) (file_bits dir_bits id : ℕ) (row : Row) → row_at v.rows id ≡ Some row → IsSoundVolume v → is_typed_volume v ≡ true
    → IsAnswer (cond row.dir 2 1) (bits_of file_bits dir_bits row) (node_values v.rows user opens file_bits dir_bits row)
unfolding node_values
node-told v user opens file_bits dir_bits id row at_id s t =
    let f = row-facts v id row at_id s t in
    by row.dir (dir-told v user dir_bits row f) (file-told opens file_bits row f)
  where
    by : (dir : Bool) → IsAnswer 2 dir_bits (Dir (dir_values v.rows user dir_bits row)) → IsAnswer 1 file_bits (File (file_values opens file_bits row))
        → IsAnswer (cond dir 2 1) (cond dir dir_bits file_bits) (cond dir (Dir (dir_values v.rows user dir_bits row)) (File (file_values opens file_bits row)))
    by true d f = d
    by false d f = f

-- the volume has the name of its root
root-named : (v : VolumeState) (row : Row) → (row.id == root_id) ≡ true → is_in_place v row ≡ true → row.name ≡ v.name
root-named v row root placed =
    cond_both (row.id == root_id) (row.dir && ((row.parent == root_parent) && bytes_eq row.name v.name)) ((nat_le first_id row.id && nat_lt row.id v.next_id) && leads_to_root v.rows (length v.rows) row.parent)
    (λ b. b ≡ true → row.name ≡ v.name)
    (λ is h. let e = and_parts (row.dir) ((row.parent == root_parent) && bytes_eq row.name v.name) h in
    (bytes_eq-Decides row.name v.name).0 (and_parts (row.parent == root_parent) (bytes_eq row.name v.name) e.1).1)
    (λ other h. absurd (both_ways (row.id == root_id) other root)) placed

name-short : (v : VolumeState) → IsSoundVolume v → length v.name < 256
unfolding row_at
name-short v s =
    let t : TreeParts v = tree-parts v s.tree in
    let is : Row → Bool = λ (r : Row). r.id == root_id in
    let root = row-there v.rows root_id t.root in
    let same : (root.0).name ≡ v.name = root-named v root.0 (find-passes is v.rows root.0 root.1) (find-all is (is_in_place v) v.rows root.0 root.1 t.placed) in
    let formed : is_formed root.0 ≡ true = find-all is is_formed v.rows root.0 root.1 (formed-parts v s.formed).rows in
    subst (λ n. length n < 256) same (formed-short root.0 formed)

pub volume-told : (v : VolumeState) (id bits : ℕ) → id < 2 ^ 16 → IsSoundVolume v → is_typed_volume v ≡ true → IsAnswer 0 bits (Volume (volume_values v id bits))
unfolding volume_values rows volume_rows Fits free_bytes
volume-told v id bits small s typed =
    let t : TypedParts v = typed-parts v typed in
    let asked : ℕ → Bool = λ bit. is_asked bits bit in
    let free : ℕ = most_fork_bytes - fork_bytes v.rows in
    record {
      kind_is = refl;
      fits = (
        number-fits (asked 0) 2 0x0044,
        (
          number-fits (asked 1) 2 2,
          (
            date-fits (asked 2) v.created,
            (
              date-fits (asked 3) v.modified,
              (
                date-fits (asked 4) v.backup,
                (
                  number-fits (asked 5) 2 id,
                  (
                    number-fits (asked 6) 4 free,
                    (
                      number-fits (asked 7) 4 most_fork_bytes,
                      (
                        long-fits (asked 8) v.name (name-short v s),
                        (
                          number-fits (asked 9) 8 free,
                          (
                            number-fits (asked 10) 8 most_fork_bytes,
                            (
                              number-fits (asked 11) 4 4096,
                              tt,
                            ),
                          ),
                        ),
                      ),
                    ),
                  ),
                ),
              ),
            ),
          ),
        ),
      );
      typed = (
        number-typed (asked 0) (256 ^ 2) 0x0044 (omega arith),
        (
          number-typed (asked 1) (256 ^ 2) 2 (omega arith),
          (
            date-typed (asked 2) v.created t.created,
            (
              date-typed (asked 3) v.modified t.modified,
              (
                date-typed (asked 4) v.backup t.backup,
                (
                  number-typed (asked 5) (256 ^ 2) id small,
                  (
                    number-typed (asked 6) (256 ^ 4) free (omega arith),
                    (
                      number-typed (asked 7) (256 ^ 4) most_fork_bytes (omega arith),
                      (
                        tt,
                        (
                          number-typed (asked 9) (256 ^ 8) free (omega arith),
                          (
                            number-typed (asked 10) (256 ^ 8) most_fork_bytes (omega arith),
                            (
                              number-typed (asked 11) (256 ^ 4) 4096 (omega arith),
                              tt,
                            ),
                          ),
                        ),
                      ),
                    ),
                  ),
                ),
              ),
            ),
          ),
        ),
      );
    }

-- what a call found is there

behind-passes : {A : Type 0} (r : Result A Code) (refused : A → Option Code) → behind r refused ≡ None → (a : A) × (r ≡ Ok a) × (refused a ≡ None)
behind-passes (Ok a) refused h = (a, refl, h)
behind-passes (Err code) refused h = absurd (cc)

pub found-told : (v : VolumeState) (user : ℕ) (opens : List Opened) (file_bits dir_bits dir : ℕ) (path : PathValue) → get_file_dir_parms_refusal v user file_bits dir_bits dir path ≡ None → IsSoundVolume v → is_some (get_file_dir_parms_values v user opens file_bits dir_bits dir path) ≡ true
unfolding get_file_dir_parms_refusal get_file_dir_parms_values
found-told v user opens file_bits dir_bits dir path passes s =
    let first = none-first ((is_outside file_mask file_bits, BitmapErr) ∷ (is_outside dir_mask dir_bits, BitmapErr) ∷ []) _ passes in
    let is = behind-passes (found v.rows user dir path) _ first.1 in
    let row = row-there v.rows is.0 (walk-there v user path.kind ObjectNotFound dir path.steps is.0 (tree-parts v s.tree) is.1) in
    ap (λ (r : Result ℕ Code). is_some (done_at r None (λ id. option_map (node_values v.rows user opens file_bits dir_bits) (row_at v.rows id)))) is.1
    ∙ ap (λ o. is_some (option_map (node_values v.rows user opens file_bits dir_bits) o)) row.1

pub dir-told-id : (v : VolumeState) (user : ℕ) (dir : ℕ) (path : PathValue) → open_dir_refusal v user dir path ≡ None → (id : ℕ) × (open_dir_id v user dir path ≡ Some id) × (has_directory v.rows id ≡ true)
unfolding open_dir_refusal open_dir_id
dir-told-id v user dir path passes =
    let is = behind-passes (found v.rows user dir path) _ passes in
    let none = none-holds ((not (has_directory v.rows is.0), ObjectTypeErr) ∷ []) is.2 in
    (is.0, ap (λ (r : Result ℕ Code). done_at r None Some) is.1, not-false (has_directory v.rows is.0) none.0)
