-- What is set of a file.
use Rattle.std.proofs.Common.{◌≡◌, ℕ, zero, suc, ◌+◌, ◌≤◌, ◌<◌, Bool, true, false, cond, List, [], ◌∷◌, length, Option, Some, None, Result, Ok, Err, refl, sym, ap, ◌∙◌, subst, arith, FitsSigned}
use Rattle.std.specs.Prelude.{◌==◌, ◌&&◌, ℤ, pos, negsuc, not, max, is_none, option_map, bit_and, if◌then◌else◌}
use Rattle.std.specs.Int.{w32}
use Rattle.std.proofs.lemmas.Nat.{or_lt}
use Rattle.std.proofs.lemmas.Bool.{eqb-true, leb-true, ltb-true}
use Rattle.afp_base.proofs.Facts.{left_true, right_true}
use Rattle.afp_base.specs.Choice.{first_holding}
use Rattle.afp_base.specs.declared.code.Code.{Code}
use Rattle.afp_base.specs.declared.code.Code.TheVariants.{AccessDenied, BitmapErr, ObjectTypeErr, ParamErr}
use Rattle.afp_bitmap.specs.Bits.{is_outside}
use Rattle.afp_base.specs.declared.ids.NodeId.{NodeId}
use Rattle.afp_base.specs.declared.ids.VolumeId.{VolumeId}
use Rattle.afp_names.specs.Name.{name_fault}
use Rattle.afp_names.specs.Path.{PathValue}
use Rattle.afp_serial.specs.World.{user_of, volume_at}
use Rattle.afp_mirror_walk.proofs.TailSettings.{settings-settle, tail-settings}
use Rattle.afp_mirror_walk.specs.Settled.{IsSettled, settings}
use Rattle.afp_mirror_walk.specs.Settled.{settings_of as set_bytes}
use Rattle.volume_spec.proofs.SeenRows.{changes-seen}
use Rattle.volume_spec.proofs.TypedEdits.{row-parts}
use Rattle.volume_spec.specs.SetFileDirParms.{Settings as Sets, is_short_tail, set_file_parms_refusal, set_parms_effect, settable, settable_bits, settings_in, with_node_set, with_settings}
use Rattle.volume_spec.specs.Rights.{write_right}
use Rattle.volume_spec.specs.Shared.{behind, done_at, lacks_above}
use Rattle.volume_spec.specs.SoundVolume.{dir_attributes, file_attributes, has_file, has_fit_privileges, is_formed, is_named}
use Rattle.volume_spec.specs.TypedVolume.{is_date, is_typed_row}
use Rattle.volume_spec.specs.VolumeState.{Row, VolumeState, finder_size}
use Rattle.volume_spec.specs.Walk.{found, row_at}
use Rattle.afp_mirror_walk.specs.Asks.{place_of, set_bits, set_file}
use Rattle.afp_mirror_walk.specs.Settings.{attributes_word, settings_bytes, settings_of}
use Rattle.afp_mirror_walk.specs.Ports.{Home}
use Rattle.afp_mirror_walk.specs.Steps.{ChangesOk, IsSetFile, RunsOk, settings_told}
use Rattle.afp_mirror_walk.proofs.TreeSteps.{files-set}

-- both definitions of the bytes are one
same-bytes : (word : ℕ) (created modified backup : ℤ) (finder : List ℕ) → settings_bytes (settings_of word created modified backup finder) ≡ set_bytes word created modified backup finder
unfolding settings_bytes set_bytes
same-bytes word created modified backup finder = refl

date-fits : (z : ℤ) → is_date z ≡ true → FitsSigned w32 z
date-fits (pos n) h = record { sfits = let k = leb-true n 2147483647 h in omega arith }
date-fits (negsuc n) h = record { sfits = let k = leb-true n 2147483647 h in omega arith }

finder-whole : (s : Row) → is_formed s ≡ true → length s.finder ≡ 32
finder-whole s formed = eqb-true (length s.finder) finder_size (right_true (is_none (name_fault s.name)) (length s.finder == finder_size) (left_true (is_named s) (kind s) (right_true (has_fit_privileges s.dir s.privileges) (is_named s && kind s) formed)))
  where
    kind : Row → Bool
    kind row = if row.dir then (bit_and row.attributes dir_attributes == row.attributes) && ((length row.data_fork == 0) && ((length row.resource_fork == 0) && not row.filed)) else (bit_and row.attributes file_attributes == row.attributes)

word-small : (s : Row) (told : ℕ) → is_typed_row s ≡ true → bit_and told (settable s.dir) ≡ s.attributes → attributes_word (settable s.dir) told < 65536
word-small s told typed is = or_lt 16 (bit_and told (settable s.dir)) 0x8000 (subst (λ (n : ℕ). n < 65536) (sym is) (ltb-true s.attributes 65536 (row-parts s typed).attributes)) (omega arith)

-- the settings that are told are those that the tail has
tail-is : (s : Row) (told : ℕ) → is_formed s ≡ true → is_typed_row s ≡ true → bit_and told (settable s.dir) ≡ s.attributes
    → settings_in settable_bits (settings_bytes (settings_told s told)) ≡ settings (attributes_word (settable s.dir) told) s.created s.modified s.backup s.finder
tail-is s told formed typed is =
    let t = row-parts s typed in
    ap (λ (bytes : List ℕ). settings_in settable_bits bytes) (same-bytes (attributes_word (settable s.dir) told) s.created s.modified s.backup s.finder)
    ∙ tail-settings (attributes_word (settable s.dir) told) s.created s.modified s.backup s.finder (word-small s told typed is) (date-fits s.created t.created) (date-fits s.modified t.modified) (date-fits s.backup t.backup) (finder-whole s formed)

-- a node that is found is set
set-there : (v : VolumeState) (now id : ℕ) (sets : Sets) (t : Row) → row_at v.rows id ≡ Some t → row_at (with_node_set now id sets v).rows id ≡ Some (with_settings sets t)
unfolding with_node_set with_settings
set-there v now id sets t there = changes-seen v.rows id (with_settings sets) (λ row. refl) ∙ ap (λ (o : Option Row). option_map (with_settings sets) o) there

same-state : (v w : VolumeState) → Some v ≡ Some w → v ≡ w
same-state v w e = cc

-- what is not refused was found
found-node : (v : VolumeState) (user dir bits : ℕ) (path : PathValue) (rest : List ℕ) → set_file_parms_refusal v user dir bits path rest ≡ None → (id : ℕ) × (found v.rows user dir path ≡ Ok id)
unfolding set_file_parms_refusal
found-node v user dir bits path rest h = by (found v.rows user dir path) (is_outside settable_bits bits) refl h
  where
    refused : ℕ → Option Code
    refused id = first_holding ((not (has_file v.rows id), ObjectTypeErr) ∷ (lacks_above v.rows user write_right id, AccessDenied) ∷ (is_short_tail bits rest, ParamErr) ∷ [])

    by : (r : Result ℕ Code) (outside : Bool) → found v.rows user dir path ≡ r → cond outside (Some BitmapErr) (behind r refused) ≡ None → (id : ℕ) × (found v.rows user dir path ≡ Ok id)
    by (Ok id) outside is k = (id, is)
    by (Err c) true is k = absurd (cc)
    by (Err c) false is k = absurd (cc)

pub file-set : (h g : Home) (volume : VolumeId) (parent : NodeId) (name block : List ℕ) (s t : Row) (v : VolumeState) (id told : ℕ)
    → is_formed s ≡ true → is_typed_row s ≡ true → bit_and told (settable s.dir) ≡ s.attributes → t.dir ≡ s.dir → t.attributes ≡ 0
    → RunsOk h (set_file volume parent name (settings_told s told)) block g
    → volume_at h.world.volumes volume.0 ≡ Some v → ((user : ℕ) → (other : ℕ) → found v.rows user parent.0 (place_of name) ≡ Ok other → other ≡ id) → row_at v.rows id ≡ Some t
    → IsSetFile h volume.0 id s t g
unfolding set_parms_effect with_settings
file-set h g volume parent name block s t v id told formed typed is kind none r there only row =
    let bytes : List ℕ = settings_bytes (settings_told s told) in
    let c = files-set h g volume parent name bytes block r in
    let same : c.v ≡ v = same-state c.v v (sym c.there ∙ there) in
    let now : ℕ = max h.world.latest c.now in
    let user : ℕ = user_of c.session in
    let at_node = found-node c.v user parent.0 set_bits (place_of name) bytes c.passes in
    let this : at_node.0 ≡ id = only user at_node.0 (subst (λ (x : VolumeState). found x.rows user parent.0 (place_of name) ≡ Ok at_node.0) same at_node.1) in
    let sets : Sets = settings (attributes_word (settable s.dir) told) s.created s.modified s.backup s.finder in
    let left : done_at (found c.v.rows user parent.0 (place_of name)) c.v (λ node. with_node_set now node (settings_in set_bits bytes) c.v) ≡ with_node_set now id sets v =
    ap (λ (f : Result ℕ Code). done_at f c.v (λ node. with_node_set now node (settings_in set_bits bytes) c.v)) at_node.1
    ∙ (λ i. with_node_set now (this i) (tail-is s told formed typed is i) (same i)) in
    record {
      new = with_node_set now id sets v;
      now_is = c.after ∙ ap (λ (x : VolumeState). Some x) left;
      set = with_settings sets t;
      there = set-there v now id sets t row;
      settled = settings-settle s t told formed kind none is;
      named = refl;
      placed = refl;
      bytes = refl;
      resource = refl;
    }
