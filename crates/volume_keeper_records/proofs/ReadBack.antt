-- What is written is read back, and what is read has just that record.
use Rattle.std.proofs.Common.{◌≡◌, ◌∙◌, ℕ, ℤ, pos, negsuc, ◌<◌, ◌≤◌, ◌^◌, Bool, true, false, cond, List, [], ◌∷◌, ◌++◌, length, take, drop, refl, sym, ap, arith, w16, w32, w64}
use Rattle.std.specs.Prelude.{Some, None, nat_le, ◌&&◌, ◌==◌, FitsSigned, unwrap_or, is_none, not, Option}
use Rattle.std.specs.Int.{from_be_bytes, cast_signed, cast_unsigned}
use Rattle.std.proofs.lemmas.Nat.{from_be_bytes-to_be_bytes_2, from_be_bytes-to_be_bytes_4, from_be_bytes-to_be_bytes_8}
use Rattle.std.proofs.lemmas.Int.{ints, to_z-of_z}
use Rattle.std.proofs.Math.Seq.{take-append_seam, drop-append_seam}
use Rattle.std.proofs.lemmas.Bool.{and_from, eqb-true, leb-true, ltb-true}
use Rattle.std.proofs.lemmas.Option.{cond_some}
use Rattle.byteorder.specs.Endian.{big_bytes, big_number}
use Rattle.volume_spec.specs.VolumeState.{Comment, Icon, Appl, Privileges, guest, new_privileges}
use Rattle.volume_spec.specs.SoundVolume.{is_formed as is_formed_row, is_named, is_comment, is_icon, longest_icon, has_fit_privileges}
use Rattle.volume_spec.specs.TypedVolume.{is_byte, is_word, is_long, is_quad, is_date, are_bytes, is_typed_row, is_typed_icon, is_typed_appl, are_typed}
use Rattle.record_keeper.specs.declared.record.Record.{Record}
use Rattle.volume_keeper_records.specs.declared.rows.Head.{Head}
use Rattle.volume_keeper_records.specs.declared.rows.Node.{Node}
use Rattle.volume_keeper_records.specs.declared.rows.ForkBlock.{ForkBlock}
use Rattle.volume_keeper_records.specs.declared.rows.TableRow.{TableRow}
use Rattle.volume_keeper_records.specs.declared.rows.TableRow.TheVariants as row
use Rattle.volume_keeper_records.specs.Records.{record_of, head_record, node_record, block_record, comment_record, icon_record, appl_record, flag_byte, long_bytes, word_bytes, quad_bytes, date_bytes, privilege_bytes, old_version}
use Rattle.volume_keeper_records.specs.Shape.{row_in, guess, are_same, is_formed_record, is_formed_head, is_formed_node, is_formed_block, is_formed_comment, is_formed_icon, is_formed_appl, bare_row, has_fit_forks, node_in, Label, is_sound_node, is_sound_head, is_of_version, privileges_at}
use Rattle.afp_base.proofs.ListFacts.{all-weaker}
use Rattle.afp_base.proofs.Facts.{bytes_same, bytes_true, left_true, right_true}
use Rattle.afp_base.proofs.Numbers.{date_lt}
use Rattle.std.specs.List.{list_all}

pub same_records : (a b : Record) → are_same a b ≡ true → a ≡ b
same_records a b e =
    let k : a.key ≡ b.key = bytes_same a.key b.key (left_true _ _ e) in
    let v : a.value ≡ b.value = bytes_same a.value b.value (right_true _ _ e) in
    λ i. record { key = k i; value = v i }

-- a row that is read is formed, and the record is the one that says it
pub row_is : (label : Label) (r : Record) (x : TableRow) → row_in label r ≡ Some x → (is_formed_record label x ≡ true) × (record_of x ≡ r)
unfolding row_in
row_is label r x e =
    let k = cond_some (is_formed_record label (guess label.version r) && are_same (record_of (guess label.version r)) r) (guess label.version r) x e in
    (ap (is_formed_record label) (sym k.1) ∙ left_true _ _ k.0, ap record_of (sym k.1) ∙ same_records (record_of (guess label.version r)) r (right_true _ _ k.0))

same_itself : (r : Record) → are_same r r ≡ true
same_itself r = and_from _ _ (bytes_true r.key r.key refl) (bytes_true r.value r.value refl)

flag_back : (b : Bool) → (flag_byte b == 1) ≡ b
flag_back true = refl
flag_back false = refl

date_fits : (z : ℤ) → is_date z ≡ true → FitsSigned w32 z
date_fits (pos n) h = let l : n ≤ 2147483647 = leb-true _ _ h in omega (arith, ints, l)
date_fits (negsuc n) h = let l : n ≤ 2147483647 = leb-true _ _ h in omega (arith, ints, l)

number_back_2 : (n : ℕ) → n < 2 ^ 16 → big_number 2 (big_bytes 2 n) ≡ n
number_back_2 n fits = let same : big_number 2 (big_bytes 2 n) ≡ from_be_bytes w16 (big_bytes 2 n) = omega arith in same ∙ from_be_bytes-to_be_bytes_2 n fits

pub number_back_4 : (n : ℕ) → n < 2 ^ 32 → big_number 4 (big_bytes 4 n) ≡ n
number_back_4 n fits = let same : big_number 4 (big_bytes 4 n) ≡ from_be_bytes w32 (big_bytes 4 n) = omega arith in same ∙ from_be_bytes-to_be_bytes_4 n fits

number_back_8 : (n : ℕ) → n < 2 ^ 64 → big_number 8 (big_bytes 8 n) ≡ n
number_back_8 n fits = let same : big_number 8 (big_bytes 8 n) ≡ from_be_bytes w64 (big_bytes 8 n) = omega arith in same ∙ from_be_bytes-to_be_bytes_8 n fits

-- a date, a number of four and of eight bytes, written and read
date_back : (z : ℤ) → is_date z ≡ true → cast_signed w32 (big_number 4 (date_bytes z)) ≡ z
date_back z h = let f = date_fits z h in ap (cast_signed w32) (number_back_4 (cast_unsigned w32 z) (date_lt z f)) ∙ to_z-of_z w32 z f

long_back : (n : ℕ) → is_long n ≡ true → big_number 4 (long_bytes n) ≡ n
long_back n h = let l : n < 4294967296 = ltb-true _ _ h in number_back_4 n (omega (arith, l))

pub word_back : (n : ℕ) → is_word n ≡ true → big_number 2 (word_bytes n) ≡ n
word_back n h = let l : n < 65536 = ltb-true _ _ h in number_back_2 n (omega (arith, l))

quad_back : (n : ℕ) → is_quad n ≡ true → big_number 8 (quad_bytes n) ≡ n
quad_back n h = let l : n < 18446744073709551616 = ltb-true _ _ h in number_back_8 n (omega (arith, l))

next_fits : (h : Head) → is_sound_head h ≡ true → h.next_id < 2 ^ 64
next_fits h f = let below : h.next_id ≤ 2 ^ 32 = leb-true _ _ (right_true _ _ (right_true _ _ f)) in omega (arith, below)

guess_head : (version : ℕ) (h : Head) → is_formed_head version h ≡ true → guess version (head_record h) ≡ row.Head h
unfolding head_record
guess_head v h f =
    let first = left_true ((h.version == v) && is_word h.version) (is_sound_head h) f in
    let sound = right_true ((h.version == v) && is_word h.version) (is_sound_head h) f in
    let version = word_back h.version (right_true (h.version == v) (is_word h.version) first) in
    let dates = left_true _ _ sound in
    let created = date_back h.created (left_true _ _ dates) in
    let modified = date_back h.modified (left_true _ _ (right_true _ _ dates)) in
    let backup = date_back h.backup (right_true _ _ (right_true _ _ dates)) in
    let next = number_back_8 h.next_id (next_fits h sound) in
    λ k. row.Head (record { version = version k; created = created k; modified = modified k; backup = backup k; next_id = next k })

-- what a formed node's fields are
pub record NodeParts (n : Node) : Type 0 where
  pub id : is_long n.id ≡ true
  pub parent : is_long n.parent ≡ true
  pub attributes : is_word n.attributes ≡ true
  pub created : is_date n.created ≡ true
  pub modified : is_date n.modified ≡ true
  pub backup : is_date n.backup ≡ true
  pub finder : are_bytes n.finder ≡ true
  pub owners : are_typed (unwrap_or n.privileges (new_privileges n.is_directory guest)) ≡ true
  pub name : are_bytes n.name ≡ true
  pub size : length n.finder ≡ 32
  pub data_length : is_quad n.data_length ≡ true
  pub resource_length : is_quad n.resource_length ≡ true

pub node_parts : (name : List ℕ) (n : Node) → is_sound_node name n ≡ true → NodeParts n
node_parts name n f =
    let typed = left_true (is_typed_row (bare_row n)) _ f in
    let one = right_true _ _ typed in
    let two = right_true _ _ one in
    let three = right_true _ _ two in
    let four = right_true _ _ three in
    let five = right_true _ _ four in
    let six = right_true _ _ five in
    let eight = right_true _ _ six in
    let formed = left_true (is_formed_row (bare_row n)) _ (right_true (is_typed_row (bare_row n)) _ f) in
    let forks = left_true (has_fit_forks n) _ (right_true (is_formed_row (bare_row n)) _ (right_true (is_typed_row (bare_row n)) _ f)) in
    record {
      id = left_true _ _ typed;
      parent = left_true _ _ one;
      attributes = left_true _ _ two;
      created = left_true _ _ three;
      modified = left_true _ _ four;
      backup = left_true _ _ five;
      finder = left_true _ _ six;
      owners = left_true _ _ eight;
      name = left_true _ _ (right_true _ _ eight);
      size = eqb-true _ _ (right_true _ _ (left_true (is_named (bare_row n)) _ (right_true (has_fit_privileges n.is_directory (unwrap_or n.privileges (new_privileges n.is_directory guest))) _ formed)));
      data_length = left_true _ _ (left_true _ _ forks);
      resource_length = right_true _ _ (left_true _ _ forks);
    }

-- owner, group and rights, written and read; behind them stands the name
privileges_back : (a b : ℕ) (filed old : Bool) (o : Option Privileges) (d : Bool) (name : List ℕ) → are_typed (unwrap_or o (new_privileges d guest)) ≡ true → cond old (is_none o) (not (is_none o)) ≡ true
    → (cond old None (Some (privileges_at (flag_byte filed ∷ (quad_bytes a ++ (quad_bytes b ++ (privilege_bytes o ++ name)))) 17)) ≡ o)
    × (drop (cond old 17 28) (flag_byte filed ∷ (quad_bytes a ++ (quad_bytes b ++ (privilege_bytes o ++ name)))) ≡ name)
privileges_back a b filed true None d name t e = (refl, refl)
privileges_back a b filed false None d name t e = absurd (cc)
privileges_back a b filed true (Some p) d name t e = absurd (cc)
privileges_back a b filed false (Some p) d name t e =
    let owner = long_back p.owner (left_true (is_long p.owner) (is_long p.group) t) in
    let group = long_back p.group (right_true (is_long p.owner) (is_long p.group) t) in
    (λ k. Some (record p { owner = owner k; group = group k }), refl)

guess_node : (version : ℕ) (n : Node) → NodeParts n → is_of_version version n.privileges ≡ true → guess version (node_record n) ≡ row.Node n
unfolding node_record
guess_node version n p v =
    let behind : List ℕ = flag_byte n.is_filed ∷ (quad_bytes n.data_length ++ (quad_bytes n.resource_length ++ (privilege_bytes n.privileges ++ n.name))) in
    let finder : take 32 (n.finder ++ behind) ≡ n.finder = ap (λ k. take k (n.finder ++ behind)) (sym p.size) ∙ take-append_seam n.finder behind in
    let rest : drop 32 (n.finder ++ behind) ≡ behind = ap (λ k. drop k (n.finder ++ behind)) (sym p.size) ∙ drop-append_seam n.finder behind in
    let id = long_back n.id p.id in
    let parent = long_back n.parent p.parent in
    let attributes = word_back n.attributes p.attributes in
    let created = date_back n.created p.created in
    let modified = date_back n.modified p.modified in
    let backup = date_back n.backup p.backup in
    let data_length = quad_back n.data_length p.data_length in
    let resource_length = quad_back n.resource_length p.resource_length in
    let back = privileges_back n.data_length n.resource_length n.is_filed (version == old_version) n.privileges n.is_directory n.name p.owners v in
    (λ k. row.Node (node_in version (node_record n).key (node_record n).value (finder k) (rest k)))
    ∙ (λ k. row.Node (record {
      id = id k;
      is_directory = flag_back n.is_directory k;
      parent = parent k;
      attributes = attributes k;
      created = created k;
      modified = modified k;
      backup = backup k;
      finder = n.finder;
      is_filed = flag_back n.is_filed k;
      data_length = data_length k;
      resource_length = resource_length k;
      privileges = back.0 k;
      name = back.1 k;
    }))

guess_block : (version : ℕ) (b : ForkBlock) → is_formed_block b ≡ true → guess version (block_record b) ≡ row.Block b
unfolding block_record
guess_block version b f =
    let numbers = left_true _ _ f in
    let node = long_back b.node (left_true _ _ numbers) in
    let index = long_back b.index (left_true _ _ (right_true _ _ numbers)) in
    λ k. row.Block (record { node = node k; is_resource = flag_back b.is_resource k; index = index k; bytes = b.bytes })

guess_comment : (version : ℕ) (c : Comment) → is_formed_comment c ≡ true → guess version (comment_record c) ≡ row.Comment c
unfolding comment_record
guess_comment version c f =
    let node = long_back c.node (left_true _ _ (left_true _ (is_comment c) f)) in
    λ k. row.Comment (record { node = node k; text = c.text })

-- four bytes as cells
four_cells : (P : List ℕ → Type 0) → ((a b c d : ℕ) → P (a ∷ b ∷ c ∷ d ∷ [])) → (xs : List ℕ) → length xs ≡ 4 → P xs
four_cells P h [] e = absurd (omega arith)
four_cells P h (a ∷ []) e = absurd (omega arith)
four_cells P h (a ∷ b ∷ []) e = absurd (omega arith)
four_cells P h (a ∷ b ∷ c ∷ []) e = absurd (omega arith)
four_cells P h (a ∷ b ∷ c ∷ d ∷ []) e = h a b c d
four_cells P h (a ∷ b ∷ c ∷ d ∷ x ∷ xs) e = absurd (omega arith)

icon_back : (version : ℕ) (kind : List ℕ) (icon_kind tag : ℕ) (bits : List ℕ) → is_long tag ≡ true → length kind ≡ 4 → (creator : List ℕ) → length creator ≡ 4
    → guess version (icon_record (record { creator = creator; kind = kind; icon_kind = icon_kind; tag = tag; bits = bits }))
    ≡ row.Icon (record { creator = creator; kind = kind; icon_kind = icon_kind; tag = tag; bits = bits })
unfolding icon_record
icon_back version kind icon_kind tag bits t k creator e =
    four_cells (λ creator. guess version (icon_record (record { creator = creator; kind = kind; icon_kind = icon_kind; tag = tag; bits = bits })) ≡ row.Icon (record { creator = creator; kind = kind; icon_kind = icon_kind; tag = tag; bits = bits }))
    (λ a b c d. four_cells (λ kind. guess version (icon_record (record { creator = a ∷ b ∷ c ∷ d ∷ []; kind = kind; icon_kind = icon_kind; tag = tag; bits = bits })) ≡ row.Icon (record { creator = a ∷ b ∷ c ∷ d ∷ []; kind = kind; icon_kind = icon_kind; tag = tag; bits = bits }))
    (λ e f g h. let back = long_back tag t in λ i. row.Icon (record { creator = a ∷ b ∷ c ∷ d ∷ []; kind = e ∷ f ∷ g ∷ h ∷ []; icon_kind = icon_kind; tag = back i; bits = bits })) kind k)
    creator e

guess_icon : (version : ℕ) (i : Icon) → is_formed_icon i ≡ true → guess version (icon_record i) ≡ row.Icon i
guess_icon version i f =
    let typed = left_true (is_typed_icon i) (is_icon i) f in
    let formed = right_true (is_typed_icon i) (is_icon i) f in
    let kind = right_true (are_bytes i.creator) (are_bytes i.kind && (is_byte i.icon_kind && (is_long i.tag && are_bytes i.bits))) typed in
    let numbers = right_true (are_bytes i.kind) (is_byte i.icon_kind && (is_long i.tag && are_bytes i.bits)) kind in
    let tag = right_true (is_byte i.icon_kind) (is_long i.tag && are_bytes i.bits) numbers in
    let sizes = right_true (length i.creator == 4) ((length i.kind == 4) && nat_le (length i.bits) longest_icon) formed in
    icon_back version i.kind i.icon_kind i.tag i.bits (left_true (is_long i.tag) (are_bytes i.bits) tag)
    (eqb-true _ _ (left_true (length i.kind == 4) (nat_le (length i.bits) longest_icon) sizes)) i.creator
    (eqb-true _ _ (left_true (length i.creator == 4) ((length i.kind == 4) && nat_le (length i.bits) longest_icon) formed))

appl_back : (version : ℕ) (node tag : ℕ) → is_long node ≡ true → is_long tag ≡ true → (creator : List ℕ) → length creator ≡ 4
    → guess version (appl_record (record { creator = creator; node = node; tag = tag })) ≡ row.Appl (record { creator = creator; node = node; tag = tag })
unfolding appl_record
appl_back version node tag n t creator e =
    four_cells (λ creator. guess version (appl_record (record { creator = creator; node = node; tag = tag })) ≡ row.Appl (record { creator = creator; node = node; tag = tag }))
    (λ a b c d. let there = long_back node n in let back = long_back tag t in λ i. row.Appl (record { creator = a ∷ b ∷ c ∷ d ∷ []; node = there i; tag = back i })) creator e

guess_appl : (version : ℕ) (a : Appl) → is_formed_appl a ≡ true → guess version (appl_record a) ≡ row.Appl a
guess_appl version a f =
    let typed = right_true _ _ (left_true (is_typed_appl a) _ f) in
    appl_back version a.node a.tag (left_true _ _ typed) (right_true _ _ typed) a.creator (eqb-true _ _ (right_true (is_typed_appl a) _ f))

-- a formed node is sound, and a formed head
pub sound_node : (label : Label) (n : Node) → is_formed_node label n ≡ true → is_sound_node label.name n ≡ true
sound_node label n f = right_true (is_of_version label.version n.privileges) (is_sound_node label.name n) f

pub sound_nodes : (label : Label) (ns : List Node) → list_all (is_formed_node label) ns ≡ true → list_all (is_sound_node label.name) ns ≡ true
sound_nodes label ns f = all-weaker (is_formed_node label) (is_sound_node label.name) ns (sound_node label) f

guess_back : (label : Label) (x : TableRow) → is_formed_record label x ≡ true → guess label.version (record_of x) ≡ x
guess_back label (row.Head h) f = guess_head label.version h f
guess_back label (row.Node n) f = guess_node label.version n (node_parts label.name n (sound_node label n f)) (left_true (is_of_version label.version n.privileges) (is_sound_node label.name n) f)
guess_back label (row.Block b) f = guess_block label.version b f
guess_back label (row.Comment c) f = guess_comment label.version c f
guess_back label (row.Icon i) f = guess_icon label.version i f
guess_back label (row.Appl a) f = guess_appl label.version a f

-- the record of a formed row is read as that row
pub read_back : (label : Label) (x : TableRow) → is_formed_record label x ≡ true → row_in label (record_of x) ≡ Some x
unfolding row_in
read_back label x f =
    ap (λ g. cond (is_formed_record label g && are_same (record_of g) (record_of x)) (Some g) None) (guess_back label x f)
    ∙ ap (λ t. cond t (Some x) None) (and_from _ _ f (same_itself (record_of x)))
