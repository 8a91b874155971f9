-- Other bytes of a fork keep a volume sound, and its numbers in their ranges.
use Rattle.std.proofs.Common.{◌==◌, ◌≡◌, ◌∙◌, ap, refl, subst, ℕ, ◌+◌, ◌≤◌, arith, Bool, true, false, not, ◌&&◌, ◌||◌, cond, List, [], ◌∷◌, length, Some}
use Rattle.std.specs.Prelude.{ℤ, pos, bit_and, option_map, if◌then◌else◌}
use Rattle.std.specs.List.{find}
use Rattle.std.proofs.lemmas.Bool.{cond_both, ltb-false}
use Rattle.std.proofs.lemmas.List.Sums.{sum_by-cons}
use Rattle.volume_spec.proofs.Formed.{formed-parts, limit-parts}
use Rattle.volume_spec.proofs.SeenRows.{changes-seen, changes-let-be}
use Rattle.volume_spec.proofs.SoundEdits.{sound-changed, changed-same}
use Rattle.volume_spec.proofs.SoundPut.{sound-put, put-sizes}
use Rattle.volume_spec.proofs.Trees.{tree-parts}
use Rattle.volume_spec.proofs.TypedEdits.{KeepsTyped, TypedParts, row-parts, row-whole, typed-at, typed-parts, typed-whole}
use Rattle.volume_spec.specs.Edits.{change_at, put, with_changed}
use Rattle.volume_spec.specs.ForkEffect.{fork_effect, fork_of, would_pass, written}
use Rattle.afp_base.specs.Limits.{most_fork_bytes}
use Rattle.volume_spec.specs.SoundVolume.{IsSoundVolume, TakesRow, is_formed, is_named, file_attributes, dir_attributes, fork_bytes, has_file, row_bytes, has_fit_privileges}
use Rattle.volume_spec.specs.TypedVolume.{are_bytes, is_date, is_typed_row, is_typed_volume}
use Rattle.volume_spec.specs.VolumeState.{Row, VolumeState}
use Rattle.volume_spec.specs.Walk.{row_at}
use Rattle.afp_base.proofs.ListFacts.{find-all}

-- the row with other bytes

written-formed : (now : ℕ) (resource writes : Bool) (bytes : List ℕ) (s : Row) → s.dir ≡ false → is_formed s ≡ true → is_formed (written now resource bytes writes s) ≡ true
written-formed now resource writes bytes s file h = go s.dir file h
  where
    rest : Row → Bool
    rest row = (bit_and row.attributes dir_attributes == row.attributes) && ((length row.data_fork == 0) && ((length row.resource_fork == 0) && not row.filed))

    go : (dir : Bool) → dir ≡ false → (has_fit_privileges dir s.privileges && (is_named s && cond dir (rest s) (bit_and s.attributes file_attributes == s.attributes))) ≡ true
        → (has_fit_privileges dir s.privileges && (is_named s && cond dir (rest (written now resource bytes writes s)) (bit_and s.attributes file_attributes == s.attributes))) ≡ true
    go true is h = absurd (cc)
    go false is h = h

written-bytes : (now : ℕ) (resource writes : Bool) (bytes before : List ℕ) (s : Row) → fork_of resource s ≡ before → row_bytes (written now resource bytes writes s) + length before ≡ row_bytes s + length bytes
written-bytes now true writes bytes before s is = let same : length s.resource_fork ≡ length before = ap length is in omega arith
written-bytes now false writes bytes before s is = let same : length s.data_fork ≡ length before = ap length is in omega arith

module _ (v : VolumeState) (id now : ℕ) (resource writes : Bool) (before bytes : List ℕ) (s : Row) (found : row_at v.rows id ≡ Some s) (file : s.dir ≡ false) (is : fork_of resource s ≡ before) (sound : IsSoundVolume v) where
  t : Row
  t = written now resource bytes writes s

  put-written : with_changed id (put t) v.rows ≡ with_changed id (written now resource bytes writes) v.rows
  unfolding with_changed row_at t
  put-written = changed-same v.rows id (put t) (written now resource bytes writes) s (tree-parts v sound.tree).apart found refl

  pub bytes-written : fork_bytes (with_changed id (written now resource bytes writes) v.rows) + length before ≡ fork_bytes v.rows + length bytes
  unfolding t
  bytes-written =
      let sizes : fork_bytes (with_changed id (put t) v.rows) + row_bytes s ≡ fork_bytes v.rows + row_bytes t = (put-sizes v id s t found (tree-parts v sound.tree)).0 in
      let same : fork_bytes (with_changed id (put t) v.rows) ≡ fork_bytes (with_changed id (written now resource bytes writes) v.rows) = ap fork_bytes put-written in
      let row : row_bytes t + length before ≡ row_bytes s + length bytes = written-bytes now resource writes bytes before s is in
      omega arith

  takes : TakesRow s t
  unfolding t row_at
  takes = record {
    id = refl;
    parent = refl;
    dir = refl;
    name = refl;
    formed = written-formed now resource writes bytes s file (find-all (λ (r : Row). r.id == id) is_formed v.rows s found (formed-parts v sound.formed).rows);
  }

  pub written-sound : fork_bytes v.rows + length bytes ≤ most_fork_bytes + length before → IsSoundVolume (fork_effect now id resource bytes writes v)
  unfolding fork_effect t
  written-sound fits =
      let row : row_bytes t + length before ≡ row_bytes s + length bytes = written-bytes now resource writes bytes before s is in
      let put_sound : IsSoundVolume (record v { rows = with_changed id (put t) v.rows }) = sound-put v id s t found takes (omega arith) sound in
      with_date writes (subst (λ rows. IsSoundVolume (record v { rows = rows })) put-written put_sound)
    where
      with_date : (w : Bool) → IsSoundVolume (record v { rows = with_changed id (written now resource bytes writes) v.rows })
          → IsSoundVolume (record v { modified = if w then pos now else v.modified; rows = with_changed id (written now resource bytes writes) v.rows })
      with_date true h = sound-changed (record v { rows = with_changed id (written now resource bytes writes) v.rows }) now h
      with_date false h = h

-- where there is room
pub room-left : (v : VolumeState) (old new : ℕ) → would_pass v old new ≡ false → fork_bytes v.rows + new ≤ most_fork_bytes + old
unfolding would_pass
room-left v old new h = let low = ltb-false (most_fork_bytes + old) (fork_bytes v.rows + new) h in omega arith

pub fork-sound : (v : VolumeState) (now id : ℕ) (resource writes : Bool) (bytes : List ℕ) (file : Row) → row_at v.rows id ≡ Some file → file.dir ≡ false → would_pass v (length (fork_of resource file)) (length bytes) ≡ false
    → IsSoundVolume v → IsSoundVolume (fork_effect now id resource bytes writes v)
fork-sound v now id resource writes bytes file found is_file room sound =
    written-sound v id now resource writes (fork_of resource file) bytes file found is_file refl sound (room-left v (length (fork_of resource file)) (length bytes) room)

pub fork-counted : (v : VolumeState) (now id : ℕ) (resource writes : Bool) (bytes : List ℕ) (file : Row) → row_at v.rows id ≡ Some file → file.dir ≡ false → IsSoundVolume v
    → fork_bytes (fork_effect now id resource bytes writes v).rows + length (fork_of resource file) ≡ fork_bytes v.rows + length bytes
unfolding fork_effect
fork-counted v now id resource writes bytes file found is_file sound = bytes-written v id now resource writes (fork_of resource file) bytes file found is_file refl sound

-- numbers in their ranges

date-either : (now : ℕ) (writes : Bool) (old : ℤ) → is_date (pos now) ≡ true → is_date old ≡ true → is_date (if writes then pos now else old) ≡ true
date-either now true old new h = new
date-either now false old new h = h

bytes-either : (first : Bool) (a b : List ℕ) → are_bytes a ≡ true → are_bytes b ≡ true → are_bytes (if first then a else b) ≡ true
bytes-either true a b p q = p
bytes-either false a b p q = q

pub written-typed : (now : ℕ) (resource writes : Bool) (bytes : List ℕ) → is_date (pos now) ≡ true → are_bytes bytes ≡ true → KeepsTyped (written now resource bytes writes)
written-typed now resource writes bytes moment small row h =
    let r = row-parts row h in
    row-whole (written now resource bytes writes row) (record {
      id = r.id;
      parent = r.parent;
      attributes = r.attributes;
      created = r.created;
      modified = date-either now writes row.modified moment r.modified;
      backup = r.backup;
      finder = r.finder;
      privileges = r.privileges;
      name = r.name;
      data_fork = bytes-either resource row.data_fork bytes r.data_fork small;
      resource_fork = bytes-either resource bytes row.resource_fork small r.resource_fork;
    })

pub fork-typed : (v : VolumeState) (now id : ℕ) (resource writes : Bool) (bytes : List ℕ) → is_date (pos now) ≡ true → are_bytes bytes ≡ true → is_typed_volume v ≡ true → is_typed_volume (fork_effect now id resource bytes writes v) ≡ true
unfolding fork_effect
fork-typed v now id resource writes bytes moment small typed =
    typed-whole (record v { modified = if writes then pos now else v.modified; rows = with_changed id (written now resource bytes writes) v.rows })
    (with_date (typed-at v id (written now resource bytes writes) (written-typed now resource writes bytes moment small) (typed-parts v typed)))
  where
    with_date : TypedParts (record v { rows = with_changed id (written now resource bytes writes) v.rows }) → TypedParts (record v { modified = if writes then pos now else v.modified; rows = with_changed id (written now resource bytes writes) v.rows })
    with_date t = record { name = t.name; created = t.created; modified = date-either now writes v.modified moment t.modified; backup = t.backup; next = t.next; rows = t.rows; comments = t.comments; icons = t.icons; appls = t.appls }

-- what is seen afterwards

pub fork-given : (v : VolumeState) (now id : ℕ) (resource writes : Bool) (bytes : List ℕ) (file : Row) → row_at v.rows id ≡ Some file → row_at (fork_effect now id resource bytes writes v).rows id ≡ Some (written now resource bytes writes file)
unfolding fork_effect
fork-given v now id resource writes bytes file found =
    changes-seen v.rows id (written now resource bytes writes) (λ row. refl) ∙ ap (option_map (written now resource bytes writes)) found

pub fork-lets-be : (v : VolumeState) (now id other : ℕ) (resource writes : Bool) (bytes : List ℕ) → (other == id) ≡ false → row_at (fork_effect now id resource bytes writes v).rows other ≡ row_at v.rows other
unfolding fork_effect
fork-lets-be v now id other resource writes bytes apart = changes-let-be v.rows id other (written now resource bytes writes) (λ row. refl) apart

files-same : (id other : ℕ) (change : Row → Row) (rows : List Row) → ((row : Row) → (change row).id ≡ row.id) → ((row : Row) → (change row).dir ≡ row.dir) → has_file (with_changed id change rows) other ≡ has_file rows other
unfolding with_changed
files-same id other change [] ids kinds = refl
files-same id other change (row ∷ rows) ids kinds = λ i. (same-id i == other && not (same-dir i)) || files-same id other change rows ids kinds i
  where
    same-id : (change_at id change row).id ≡ row.id
    same-id = cond_both (row.id == id) (change row) row (λ r. r.id ≡ row.id) (λ is. ids row) (λ stays. refl)

    same-dir : (change_at id change row).dir ≡ row.dir
    same-dir = cond_both (row.id == id) (change row) row (λ r. r.dir ≡ row.dir) (λ is. kinds row) (λ stays. refl)

pub files-stay : (v : VolumeState) (now id other : ℕ) (resource writes : Bool) (bytes : List ℕ) → has_file (fork_effect now id resource bytes writes v).rows other ≡ has_file v.rows other
unfolding fork_effect
files-stay v now id other resource writes bytes = files-same id other (written now resource bytes writes) v.rows (λ row. refl) (λ row. refl)

-- how many bytes a fork has

pub row-within : (rows : List Row) (id : ℕ) (s : Row) → row_at rows id ≡ Some s → row_bytes s ≤ fork_bytes rows
unfolding row_at
row-within [] id s found = absurd (cc)
row-within (row ∷ rows) id s found =
    let whole : fork_bytes (row ∷ rows) ≡ row_bytes row + fork_bytes rows = sum_by-cons row_bytes row rows in
    cond_both (row.id == id) (Some row) (find (λ (r : Row). r.id == id) rows) (λ o. o ≡ Some s → row_bytes s ≤ fork_bytes (row ∷ rows))
    (λ here h. let same : row ≡ s = cc in let one : row_bytes row ≡ row_bytes s = ap row_bytes same in omega (arith, whole, one))
    (λ other h. let rest = row-within rows id s h in omega (arith, whole, rest))
    found

pub fork-within : (resource : Bool) (file : Row) → length (fork_of resource file) ≤ row_bytes file
fork-within true file = omega arith
fork-within false file = omega arith

pub fork-few : (v : VolumeState) (id : ℕ) (resource : Bool) (file : Row) → row_at v.rows id ≡ Some file → IsSoundVolume v → length (fork_of resource file) ≤ most_fork_bytes
fork-few v id resource file found sound =
    let all : fork_bytes v.rows ≤ most_fork_bytes = (limit-parts v sound.limits).bytes in
    let own = row-within v.rows id file found in
    let one = fork-within resource file in
    omega (arith, all, own, one)

pub new-few : (v : VolumeState) (id : ℕ) (resource : Bool) (file : Row) (new : ℕ) → row_at v.rows id ≡ Some file → would_pass v (length (fork_of resource file)) new ≡ false → new ≤ most_fork_bytes
new-few v id resource file new found room =
    let left = room-left v (length (fork_of resource file)) new room in
    let own = row-within v.rows id file found in
    let one = fork-within resource file in
    omega (arith, left, own, one)

-- the bytes of a typed volume's fork are bytes
pub fork-bytes-typed : (v : VolumeState) (id : ℕ) (resource : Bool) (file : Row) → row_at v.rows id ≡ Some file → is_typed_volume v ≡ true → are_bytes (fork_of resource file) ≡ true
unfolding row_at
fork-bytes-typed v id resource file found typed =
    let r = row-parts file (find-all (λ (row : Row). row.id == id) is_typed_row v.rows file found (typed-parts v typed).rows) in
    bytes-either resource file.resource_fork file.data_fork r.resource_fork r.data_fork
