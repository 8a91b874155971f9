-- What the code sees of a row's shape.
use Rattle.std.proofs.Common.{◌≡◌, ◌∙◌, ℕ, zero, suc, ◌-◌, ◌<◌, ◌≤◌, false, cond, not, List, [], ◌∷◌, length, take, drop, get_or, refl, sym, ap, arith, length-take, length-drop}
use Rattle.std.specs.Prelude.{Some, None, nat_le, ◌&&◌, ◌==◌, bytes_eq, slice_index}
use Rattle.std.proofs.lemmas.Bool.{and_left, and_right, eq-eqb, le-leb, ne_eqb}
use Rattle.fork_bytes.specs.Blocks.{trimmed, before_zeros}
use Rattle.volume_spec.specs.SoundVolume.{is_formed as is_formed_row, is_named, has_fit_privileges}
use Rattle.volume_spec.specs.TypedVolume.{is_typed_row}
use Rattle.record_keeper.specs.declared.record.Record.{Record}
use Rattle.volume_keeper_records.specs.declared.rows.TableRow.TheVariants as row
use Rattle.volume_keeper_records.specs.Records.{record_of}
use Rattle.volume_keeper_records.specs.Shape.{row_in, guess, is_formed_record, is_formed_node, bare_row, has_fit_forks, is_root_or_other, head_in, node_in, block_in, comment_in, icon_in, appl_in, are_same, Label, is_sound_node, is_of_version}
use Rattle.afp_base.proofs.Facts.{bytes_true}

-- a record under a node's key is guessed as a node
pub node_guess : (version : ℕ) (r : Record) → slice_index r.key 0 ≡ 1 → guess version r ≡ row.Node (node_in version r.key r.value (take 32 (drop 19 r.value)) (drop 51 r.value))
node_guess version r tag =
    ap (λ t. cond (t == 0) (row.Head (head_in r.value)) (cond (t == 1) (row.Node (node_in version r.key r.value (take 32 (drop 19 r.value)) (drop 51 r.value))) (cond (t == 2) (row.Block (block_in r.key r.value))
    (cond (t == 3) (row.Comment (comment_in r.key r.value)) (cond (t == 4) (row.Icon (icon_in r.key r.value)) (row.Appl (appl_in r.key r.value))))))) tag

-- a node's value that ends before its Finder info does is of no shape
pub short_node : (label : Label) (r : Record) → slice_index r.key 0 ≡ 1 → length r.value < 51 → row_in label r ≡ None
unfolding row_in
short_node label r tag short =
    let len : (length (take 32 (drop 19 r.value)) == 32) ≡ false = ne_eqb (length (take 32 (drop 19 r.value))) 32 (λ e. absurd (let a = length-take 32 (drop 19 r.value) in let b = length-drop 19 r.value in omega arith)) in
    let node = node_in label.version r.key r.value (take 32 (drop 19 r.value)) (drop 51 r.value) in
    let unnamed : is_named (bare_row node) ≡ false = and_right _ (length (take 32 (drop 19 r.value)) == 32) len in
    let unsound : is_sound_node label.name node ≡ false = and_right (is_typed_row (bare_row node)) (is_formed_row (bare_row node) && (has_fit_forks node && is_root_or_other label.name node))
    (and_left (is_formed_row (bare_row node)) (has_fit_forks node && is_root_or_other label.name node) (and_right (has_fit_privileges (bare_row node).dir (bare_row node).privileges) _ (and_left (is_named (bare_row node)) _ unnamed))) in
    let unformed : is_formed_node label node ≡ false = and_right (is_of_version label.version node.privileges) (is_sound_node label.name node) unsound in
    ap (λ g. cond (is_formed_record label g && are_same (record_of g) r) (Some g) None) (node_guess label.version r tag)
    ∙ ap (λ t. cond (t && are_same (record_of (row.Node node)) r) (Some (row.Node node)) None) unformed

more_in_front : (b c : ℕ) (cs ts : List ℕ) → bytes_eq ts (c ∷ cs) ≡ bytes_eq (before_zeros b ts) (b ∷ c ∷ cs)
more_in_front zero c cs [] = refl
more_in_front (suc b) c cs [] = sym (and_right (suc b == suc b) false refl)
more_in_front b c cs (t ∷ ts) = ap (λ x. x && bytes_eq (t ∷ ts) (c ∷ cs)) (sym (eq-eqb b b refl))

-- bytes without a zero at their end
pub kept_end : (bs : List ℕ) (n : ℕ) → length bs ≡ suc n → not (get_or bs n 0 == 0) ≡ bytes_eq (trimmed bs) bs
kept_end [] n e = absurd (omega arith)
kept_end (zero ∷ []) zero e = refl
kept_end (suc b ∷ []) zero e = ap not (ne_eqb (suc b) 0 (λ h. absurd (omega arith))) ∙ sym (bytes_true (suc b ∷ []) (suc b ∷ []) refl)
kept_end (b ∷ []) (suc n) e = absurd (omega arith)
kept_end (b ∷ c ∷ cs) zero e = absurd (omega arith)
kept_end (b ∷ c ∷ cs) (suc n) e = kept_end (c ∷ cs) n (omega arith) ∙ more_in_front b c cs (trimmed (c ∷ cs))

pub ends : (bs : List ℕ) → (length bs ≡ 0 → ⊥) → not (get_or bs (length bs - 1) 0 == 0) ≡ (nat_le 1 (length bs) && bytes_eq (trimmed bs) bs)
ends bs some =
    let n : ℕ = length bs - 1 in
    let positive : 1 ≤ length bs = omega (arith, some) in
    let there : length bs ≡ suc (length bs - 1) = omega arith in
    kept_end bs (length bs - 1) there ∙ ap (λ x. x && bytes_eq (trimmed bs) bs) (sym (le-leb 1 (length bs) positive))
