-- Each edit of a volume keeps its numbers in their ranges.
use Rattle.std.proofs.Common.{◌==◌, ◌≡◌, ◌∙◌, ap, sym, refl, ℕ, zero, suc, ◌+◌, ◌-◌, ◌≤◌, ◌<◌, arith, pos, negsuc, Bool, true, false, not, ◌&&◌, cond, List, [], ◌∷◌, take, drop, Option, Some, None, ltb}
use Rattle.std.specs.Prelude.{nat_le, nat_lt, option_map, unwrap_or, bit_and, bit_or, slice_index}
use Rattle.std.specs.Int.{bit_not, w16, w32, cast_signed}
use Rattle.std.specs.List.{filter, list_all}
use Rattle.std.proofs.lemmas.Bool.{and_parts, and_from, cond_both, eqb-true, le-leb, lt-ltb, ltb-true, ltb-false}
use Rattle.std.proofs.lemmas.Nat.{and_le_l}
use Rattle.byteorder.specs.Endian.{big_number}
use Rattle.afp_bitmap.specs.Bits.{is_asked}
use Rattle.volume_spec.specs.Edits.{with_changed, change_at, at_place, changed_at, with_row, without, without_node, with_moved, named, renamed}
use Rattle.volume_spec.specs.Parms.{date_in}
use Rattle.volume_spec.specs.SetFileDirParms.{Settings, set_fields, asked_bytes, field_in, settings_in, attributes_by, with_settings, privileges_by}
use Rattle.volume_spec.specs.SoundVolume.{file_attributes, dir_attributes, last_next_id}
use Rattle.volume_spec.specs.TypedVolume.{is_byte, is_word, is_long, are_bytes, is_date, is_typed_row, is_typed_comment, is_typed_icon, is_typed_appl, is_typed_volume, are_typed}
use Rattle.volume_spec.specs.VolumeState.{Row, Comment, Appl, VolumeState, Privileges, new_privileges}
use Rattle.volume_spec.specs.Walk.{has_directory}
use Rattle.afp_base.proofs.ListFacts.{all-filter, all-map-where, all-snoc, any-at}
use Rattle.byteorder.specs.Numbers.{big_from-lt}

-- a row's numbers, each apart
pub record TypedRow (row : Row) : Type 0 where
  pub id : is_long row.id ≡ true
  pub parent : is_long row.parent ≡ true
  pub attributes : is_word row.attributes ≡ true
  pub created : is_date row.created ≡ true
  pub modified : is_date row.modified ≡ true
  pub backup : is_date row.backup ≡ true
  pub finder : are_bytes row.finder ≡ true
  pub privileges : are_typed row.privileges ≡ true
  pub name : are_bytes row.name ≡ true
  pub data_fork : are_bytes row.data_fork ≡ true
  pub resource_fork : are_bytes row.resource_fork ≡ true

pub row-parts : (row : Row) → is_typed_row row ≡ true → TypedRow row
row-parts row h =
    let a = and_parts (is_long row.id) _ h in
    let b = and_parts (is_long row.parent) _ a.1 in
    let c = and_parts (is_word row.attributes) _ b.1 in
    let d = and_parts (is_date row.created) _ c.1 in
    let e = and_parts (is_date row.modified) _ d.1 in
    let f = and_parts (is_date row.backup) _ e.1 in
    let g = and_parts (are_bytes row.finder) _ f.1 in
    let p = and_parts (are_typed row.privileges) _ g.1 in
    let i = and_parts (are_bytes row.name) _ p.1 in
    let j = and_parts (are_bytes row.data_fork) (are_bytes row.resource_fork) i.1 in
    record { id = a.0; parent = b.0; attributes = c.0; created = d.0; modified = e.0; backup = f.0; finder = g.0; privileges = p.0; name = i.0; data_fork = j.0; resource_fork = j.1 }

pub row-whole : (row : Row) → TypedRow row → is_typed_row row ≡ true
row-whole row t =
    and_from (is_long row.id) _ t.id
    (and_from (is_long row.parent) _ t.parent
    (and_from (is_word row.attributes) _ t.attributes
    (and_from (is_date row.created) _ t.created
    (and_from (is_date row.modified) _ t.modified
    (and_from (is_date row.backup) _ t.backup
    (and_from (are_bytes row.finder) _ t.finder
    (and_from (are_typed row.privileges) _ t.privileges
    (and_from (are_bytes row.name) _ t.name
    (and_from (are_bytes row.data_fork) (are_bytes row.resource_fork) t.data_fork t.resource_fork)))))))))

-- the owner and the group of a new directory or file
pub new-typed : (dir : Bool) (user : ℕ) → is_long user ≡ true → are_typed (new_privileges dir user) ≡ true
new-typed true user long = and_from (is_long user) true long refl
new-typed false user long = refl

-- a volume's numbers, each list apart
pub record TypedParts (v : VolumeState) : Type 0 where
  pub name : are_bytes v.name ≡ true
  pub created : is_date v.created ≡ true
  pub modified : is_date v.modified ≡ true
  pub backup : is_date v.backup ≡ true
  pub next : nat_le v.next_id 4294967296 ≡ true
  pub rows : list_all is_typed_row v.rows ≡ true
  pub comments : list_all is_typed_comment v.comments ≡ true
  pub icons : list_all is_typed_icon v.icons ≡ true
  pub appls : list_all is_typed_appl v.appls ≡ true

pub typed-parts : (v : VolumeState) → is_typed_volume v ≡ true → TypedParts v
unfolding is_typed_volume
typed-parts v h =
    let a = and_parts (are_bytes v.name) _ h in
    let b = and_parts (is_date v.created) _ a.1 in
    let c = and_parts (is_date v.modified) _ b.1 in
    let d = and_parts (is_date v.backup) _ c.1 in
    let e = and_parts (nat_le v.next_id 4294967296) _ d.1 in
    let f = and_parts (list_all is_typed_row v.rows) _ e.1 in
    let g = and_parts (list_all is_typed_comment v.comments) _ f.1 in
    let i = and_parts (list_all is_typed_icon v.icons) (list_all is_typed_appl v.appls) g.1 in
    record { name = a.0; created = b.0; modified = c.0; backup = d.0; next = e.0; rows = f.0; comments = g.0; icons = i.0; appls = i.1 }

pub typed-whole : (v : VolumeState) → TypedParts v → is_typed_volume v ≡ true
unfolding is_typed_volume
typed-whole v t =
    and_from (are_bytes v.name) _ t.name
    (and_from (is_date v.created) _ t.created
    (and_from (is_date v.modified) _ t.modified
    (and_from (is_date v.backup) _ t.backup
    (and_from (nat_le v.next_id 4294967296) _ t.next
    (and_from (list_all is_typed_row v.rows) _ t.rows
    (and_from (list_all is_typed_comment v.comments) _ t.comments
    (and_from (list_all is_typed_icon v.icons) (list_all is_typed_appl v.appls) t.icons t.appls)))))))

-- a change of a row
abbrev pub KeepsTyped : (Row → Row) → Type 0
KeepsTyped change = (row : Row) → is_typed_row row ≡ true → is_typed_row (change row) ≡ true

pub rows-typed : (id : ℕ) (change : Row → Row) (rows : List Row) → KeepsTyped change → list_all is_typed_row rows ≡ true → list_all is_typed_row (with_changed id change rows) ≡ true
unfolding with_changed
rows-typed id change rows keeps h = all-map-where is_typed_row is_typed_row (change_at id change) rows
    (λ row t. cond_both (row.id == id) (change row) row (λ r. is_typed_row r ≡ true) (λ same. keeps row t) (λ stays. t)) h

pub typed-at : (v : VolumeState) (id : ℕ) (change : Row → Row) → KeepsTyped change → TypedParts v → TypedParts (record v { rows = with_changed id change v.rows })
typed-at v id change keeps t = record { name = t.name; created = t.created; modified = t.modified; backup = t.backup; next = t.next; rows = rows-typed id change v.rows keeps t.rows; comments = t.comments; icons = t.icons; appls = t.appls }

pub typed-changed : (v : VolumeState) (now : ℕ) → is_date (pos now) ≡ true → TypedParts v → TypedParts (changed_at now v)
typed-changed v now moment t = record { name = t.name; created = t.created; modified = moment; backup = t.backup; next = t.next; rows = t.rows; comments = t.comments; icons = t.icons; appls = t.appls }

-- a directory's id
pub directory-long : (rows : List Row) (id : ℕ) → has_directory rows id ≡ true → list_all is_typed_row rows ≡ true → is_long id ≡ true
directory-long rows id there typed = any-at (λ (row : Row). (row.id == id) && row.dir) is_typed_row rows there typed
    (λ row is t. ap is_long (sym (eqb-true row.id id (and_parts (row.id == id) row.dir is).0)) ∙ (row-parts row t).id)

-- a node more
pub typed-come : (v : VolumeState) (row : Row) → is_typed_row row ≡ true → v.next_id < last_next_id → TypedParts v → TypedParts (with_row row v)
typed-come v row typed left t = record {
  name = t.name;
  created = t.created;
  modified = t.modified;
  backup = t.backup;
  next = le-leb (v.next_id + 1) 4294967296 (omega arith);
  rows = all-snoc is_typed_row v.rows new t.rows (row-whole new (record { id = lt-ltb v.next_id 4294967296 left; parent = r.parent; attributes = r.attributes; created = r.created; modified = r.modified; backup = r.backup; finder = r.finder; privileges = r.privileges; name = r.name; data_fork = r.data_fork; resource_fork = r.resource_fork }));
  comments = t.comments;
  icons = t.icons;
  appls = t.appls;
}
  where
    new : Row
    new = record row { id = v.next_id }

    r : TypedRow row
    r = row-parts row typed

-- a node less
pub typed-without : (v : VolumeState) (id : ℕ) → TypedParts v → TypedParts (without_node id v)
unfolding without
typed-without v id t = record {
  name = t.name;
  created = t.created;
  modified = t.modified;
  backup = t.backup;
  next = t.next;
  rows = all-filter is_typed_row (λ (row : Row). not (row.id == id)) v.rows t.rows;
  comments = all-filter is_typed_comment (λ (comment : Comment). not (comment.node == id)) v.comments t.comments;
  icons = t.icons;
  appls = all-filter is_typed_appl (λ (appl : Appl). not (appl.node == id)) v.appls t.appls;
}

-- another place, another name
pub typed-moved : (v : VolumeState) (id parent : ℕ) (name : List ℕ) → is_long parent ≡ true → are_bytes name ≡ true → TypedParts v → TypedParts (with_moved id parent name v)
typed-moved v id parent name long bytes t = typed-at v id (at_place parent name) (λ row h.
    let r = row-parts row h in
    row-whole (at_place parent name row) (record { id = r.id; parent = long; attributes = r.attributes; created = r.created; modified = r.modified; backup = r.backup; finder = r.finder; privileges = r.privileges; name = bytes; data_fork = r.data_fork; resource_fork = r.resource_fork })) t

pub typed-renamed : (v : VolumeState) (id : ℕ) (name : List ℕ) → are_bytes name ≡ true → TypedParts v → TypedParts (renamed id name v)
typed-renamed v id name bytes t = typed-at v id (named name) (λ row h.
    let r = row-parts row h in
    row-whole (named name row) (record { id = r.id; parent = r.parent; attributes = r.attributes; created = r.created; modified = r.modified; backup = r.backup; finder = r.finder; privileges = r.privileges; name = bytes; data_fork = r.data_fork; resource_fork = r.resource_fork })) t

-- what is set

-- every number of 4 bytes is a date's
pub any-date : (bytes : List ℕ) → is_date (date_in bytes) ≡ true
any-date bytes = by (big_number 4 bytes)
  where
    by : (n : ℕ) → is_date (cast_signed w32 n) ≡ true
    by n = cond_both (ltb n 2147483648) (pos n) (negsuc (4294967296 - suc n)) (λ z. is_date z ≡ true)
        (λ low. le-leb n 2147483647 (let h = ltb-true n 2147483648 low in omega arith))
        (λ high. le-leb (4294967296 - suc n) 2147483647 (let h = ltb-false n 2147483648 high in omega arith))

pub take-bytes : (n : ℕ) (xs : List ℕ) → are_bytes xs ≡ true → are_bytes (take n xs) ≡ true
take-bytes zero xs h = refl
take-bytes (suc n) [] h = refl
take-bytes (suc n) (x ∷ xs) h = let e = and_parts (is_byte x) (are_bytes xs) h in and_from (is_byte x) (are_bytes (take n xs)) e.0 (take-bytes n xs e.1)

pub drop-bytes : (n : ℕ) (xs : List ℕ) → are_bytes xs ≡ true → are_bytes (drop n xs) ≡ true
drop-bytes zero xs h = h
drop-bytes (suc n) [] h = refl
drop-bytes (suc n) (x ∷ xs) h = drop-bytes n xs (and_parts (is_byte x) (are_bytes xs) h).1

pub bytes-low : (xs : List ℕ) → are_bytes xs ≡ true → (k : ℕ) → slice_index xs k < 256
bytes-low [] h k = omega arith
bytes-low (x ∷ xs) h zero = ltb-true x 256 (and_parts (is_byte x) (are_bytes xs) h).0
bytes-low (x ∷ xs) h (suc k) = bytes-low xs (and_parts (is_byte x) (are_bytes xs) h).1 k

-- settings whose numbers are in their ranges
pub record TypedSettings (s : Settings) : Type 0 where
  pub created : unwrap_or (option_map is_date s.created) true ≡ true
  pub modified : unwrap_or (option_map is_date s.modified) true ≡ true
  pub backup : unwrap_or (option_map is_date s.backup) true ≡ true
  pub finder : unwrap_or (option_map are_bytes s.finder) true ≡ true
  pub owner : unwrap_or (option_map is_long s.owner) true ≡ true
  pub group : unwrap_or (option_map is_long s.group) true ≡ true

-- a value that may be set passes a test where both the old and the new one do
either : {A : Type 0} (test : A → Bool) (o : Option A) (old : A) → unwrap_or (option_map test o) true ≡ true → test old ≡ true → test (unwrap_or o old) ≡ true
either test None old set h = h
either test (Some new) old set h = set

settable-word : (dir : Bool) (word old : ℕ) → is_word (attributes_by dir word old) ≡ true
unfolding attributes_by
settable-word true word old =
    let asked : ℕ = cond (nat_le 0x8000 word) (bit_or old word) (bit_and old (bit_not w16 word)) in
    let low : bit_and dir_attributes asked ≤ 0x01c5 = and_le_l dir_attributes asked in
    lt-ltb (bit_and dir_attributes asked) 65536 (omega arith)
settable-word false word old =
    let asked : ℕ = cond (nat_le 0x8000 word) (bit_or old word) (bit_and old (bit_not w16 word)) in
    let low : bit_and file_attributes asked ≤ 0x01e5 = and_le_l file_attributes asked in
    lt-ltb (bit_and file_attributes asked) 65536 (omega arith)

attributes-word : (dir : Bool) (o : Option ℕ) (old : ℕ) → is_word old ≡ true → is_word (unwrap_or (option_map (λ (word : ℕ). attributes_by dir word old) o) old) ≡ true
attributes-word dir None old h = h
attributes-word dir (Some word) old h = settable-word dir word old

privileges-typed : (dir : Bool) (s : Settings) → TypedSettings s → (p : Privileges) → are_typed p ≡ true → are_typed (privileges_by dir s p) ≡ true
unfolding privileges_by
privileges-typed false s t p h = h
privileges-typed true s t p h =
    let e = and_parts (is_long p.owner) (is_long p.group) h in
    and_from (is_long (unwrap_or s.owner p.owner)) (is_long (unwrap_or s.group p.group)) (either is_long s.owner p.owner t.owner e.0) (either is_long s.group p.group t.group e.1)

pub settings-typed : (s : Settings) → TypedSettings s → KeepsTyped (with_settings s)
unfolding with_settings
settings-typed s t row h =
    let r = row-parts row h in
    row-whole (with_settings s row) (record {
      id = r.id;
      parent = r.parent;
      attributes = attributes-word row.dir s.attributes row.attributes r.attributes;
      created = either is_date s.created row.created t.created r.created;
      modified = either is_date s.modified row.modified t.modified r.modified;
      backup = either is_date s.backup row.backup t.backup r.backup;
      finder = either are_bytes s.finder row.finder t.finder r.finder;
      privileges = privileges-typed row.dir s t row.privileges r.privileges;
      name = r.name;
      data_fork = r.data_fork;
      resource_fork = r.resource_fork;
    })

-- what a tail of bytes holds
pub tail-typed : (bits : ℕ) (tail : List ℕ) → are_bytes tail ≡ true → TypedSettings (settings_in bits tail)
unfolding settings_in field_in
tail-typed bits tail bytes = record { created = a-date 2; modified = a-date 3; backup = a-date 4; finder = info; owner = a-long 10; group = a-long 11 }
  where
    place : ℕ → ℕ
    place bit = asked_bytes bits (filter (λ (field : ℕ × ℕ). nat_lt field.0 bit) set_fields)

    piece : ℕ → ℕ → List ℕ
    piece bit size = take size (drop (place bit) tail)

    a-date : (bit : ℕ) → unwrap_or (option_map is_date (option_map date_in (cond (is_asked bits bit) (Some (piece bit 4)) None))) true ≡ true
    a-date bit = cond_both (is_asked bits bit) (Some (piece bit 4)) None (λ o. unwrap_or (option_map is_date (option_map date_in o)) true ≡ true) (λ asked. any-date (piece bit 4)) (λ other. refl)

    a-long : (bit : ℕ) → unwrap_or (option_map is_long (option_map (big_number 4) (cond (is_asked bits bit) (Some (piece bit 4)) None))) true ≡ true
    a-long bit = cond_both (is_asked bits bit) (Some (piece bit 4)) None (λ o. unwrap_or (option_map is_long (option_map (big_number 4) o)) true ≡ true)
        (λ asked. lt-ltb (big_number 4 (piece bit 4)) 4294967296 (big_from-lt 0 4 (piece bit 4) (bytes-low (piece bit 4) (take-bytes 4 (drop (place bit) tail) (drop-bytes (place bit) tail bytes)))))
        (λ other. refl)

    info : unwrap_or (option_map are_bytes (cond (is_asked bits 5) (Some (piece 5 32)) None)) true ≡ true
    info = cond_both (is_asked bits 5) (Some (piece 5 32)) None (λ o. unwrap_or (option_map are_bytes o) true ≡ true)
        (λ asked. take-bytes 32 (drop (place 5) tail) (drop-bytes (place 5) tail bytes)) (λ other. refl)
