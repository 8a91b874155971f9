-- Each edit keeps a volume sound.
use Rattle.std.proofs.Common.{pos, ◌==◌, ◌≡◌, ◌∙◌, ap, sym, refl, subst, ℕ, ◌≤◌, Bool, true, false, not, ◌&&◌, cond, arith, ℤ, List, [], ◌∷◌, length, map, Some}
use Rattle.std.specs.Prelude.{bit_and}
use Rattle.std.proofs.lemmas.Bool.{and_parts, and_from}
use Rattle.volume_spec.proofs.Desktops.{sound-add-icon, sound-add-appl, sound-remove-appl, sound-add-comment}
use Rattle.volume_spec.proofs.ForkEffects.{fork-sound}
use Rattle.volume_spec.proofs.SeenRows.{file-found}
use Rattle.volume_spec.proofs.SoundEdits.{changed-same, sound-at, sound-changed, sound-moved, sound-renamed, sound-row, sound-without}
use Rattle.volume_spec.proofs.SoundPut.{sound-exchanged, sound-put}
use Rattle.volume_spec.proofs.SoundSet.{settings-keep}
use Rattle.afp_base.specs.Limits.{most_fork_bytes}
use Rattle.volume_spec.proofs.Formed.{LimitParts, formed-parts, limit-parts}
use Rattle.afp_base.proofs.ListFacts.{any-weaker, find-all}
use Rattle.volume_spec.proofs.Walks.{row-there}
use Rattle.volume_spec.proofs.Trees.{TreeParts, tree-parts}
use Rattle.volume_spec.specs.Edit.{Edit, Comes, Goes, Renames, Moves, Sets, Files, Writes, Exchanges, PutsIcon, PutsAppl, TakesAppl, Comments, BacksUp, edited, after_edits, after_call}
use Rattle.volume_spec.specs.EditLaws.{MayEdit, MayEditAll, MayCome, MayMove, MayRename, MayWrite, MayExchange}
use Rattle.volume_spec.specs.Edits.{change_at, put, with_changed, exchanged_at, filed_as}
use Rattle.volume_spec.specs.ForkEffect.{fork_effect, written}
use Rattle.volume_spec.specs.SetFileDirParms.{Settings, are_fit_settings, with_settings}
use Rattle.volume_spec.specs.SoundVolume.{dir_attributes, file_attributes, fork_bytes, has_file, has_node, is_formed, is_named, is_tree, has_apart_names, has_noted_nodes, keeps_limits, is_formed_volume, is_in_order, IsSoundVolume, has_fit_privileges}
use Rattle.volume_spec.specs.VolumeState.{Appl, Icon, Row, VolumeState}
use Rattle.volume_spec.specs.Walk.{row_at}

come-sound : (v : VolumeState) (row : Row) → MayCome v row → IsSoundVolume v → IsSoundVolume (edited v (Comes row))
unfolding edited
come-sound v row m s = sound-row v row m s

rename-sound : (v : VolumeState) (id : ℕ) (name : List ℕ) → MayRename v id name → IsSoundVolume v → IsSoundVolume (edited v (Renames id name))
unfolding edited
rename-sound v id name m s = sound-renamed v id m.row name m.other m.found m.free m.named s

move-sound : (v : VolumeState) (id parent : ℕ) (name : List ℕ) → MayMove v id parent name → IsSoundVolume v → IsSoundVolume (edited v (Moves id parent name))
unfolding edited
move-sound v id parent name m s = sound-moved v id parent name m.other m.directory m.not_below m.free m.named s

-- a file may be filed
file-row : (v : VolumeState) (id : ℕ) → has_file v.rows id ≡ true → (row : Row) × (row_at v.rows id ≡ Some row)
file-row v id there = row-there v.rows id (any-weaker (λ row. row.id == id && not row.dir) (λ row. row.id == id) v.rows (λ row is. (and_parts (row.id == id) (not row.dir) is).0) there)

file-sound : (v : VolumeState) (id : ℕ) (filed : Bool) → has_file v.rows id ≡ true → IsSoundVolume v → IsSoundVolume (edited v (Files id filed))
unfolding edited row_at with_changed
file-sound v id filed there s =
    let t : TreeParts v = tree-parts v s.tree in
    let limits : LimitParts v = limit-parts v s.limits in
    let bytes : fork_bytes v.rows ≤ most_fork_bytes = limits.bytes in
    let found = file-row v id there in
    let row : Row = found.0 in
    let is_file : row.dir ≡ false = file-found v.rows id row t.apart found.1 there in
    let same : map (change_at id (put (filed_as filed row))) v.rows ≡ map (change_at id (filed_as filed)) v.rows = changed-same v.rows id (put (filed_as filed row)) (filed_as filed) row t.apart found.1 refl in
    let formed : is_formed row ≡ true = find-all (λ (r : Row). r.id == id) is_formed v.rows row found.1 (formed-parts v s.formed).rows in
    subst (λ rows. IsSoundVolume (record v { rows = rows })) same
    (sound-put v id row (filed_as filed row) found.1 (record { id = refl; parent = refl; dir = refl; name = refl; formed = still-formed row is_file formed }) (omega arith) s)
  where
    still-formed : (row : Row) → row.dir ≡ false → is_formed row ≡ true → is_formed (filed_as filed row) ≡ true
    still-formed row is_file h =
        let one : Bool → Bool = λ f. cond f ((bit_and row.attributes dir_attributes == row.attributes) && ((length row.data_fork == 0) && ((length row.resource_fork == 0) && not row.filed))) (bit_and row.attributes file_attributes == row.attributes) in
        let other : Bool → Bool = λ f. cond f ((bit_and row.attributes dir_attributes == row.attributes) && ((length row.data_fork == 0) && ((length row.resource_fork == 0) && not filed))) (bit_and row.attributes file_attributes == row.attributes) in
        let fit : Bool = has_fit_privileges row.dir row.privileges in
        let both = and_parts fit (is_named row && one row.dir) h in
        let e = and_parts (is_named row) (one row.dir) both.1 in
        and_from fit (is_named row && other row.dir) both.0 (and_from (is_named row) (other row.dir) e.0 (ap other is_file ∙ sym (ap one is_file) ∙ e.1))

-- the volume's own date does not matter
undated : (v : VolumeState) (now : ℕ) → IsSoundVolume (record v { modified = pos now }) → IsSoundVolume v
unfolding is_tree has_apart_names has_noted_nodes keeps_limits is_formed_volume is_in_order
undated v now s = record { tree = s.tree; names = s.names; notes = s.notes; limits = s.limits; formed = s.formed; order = s.order }

write-sound : (v : VolumeState) (now id : ℕ) (resource : Bool) (bytes : List ℕ) → MayWrite v id resource bytes → IsSoundVolume v → IsSoundVolume (edited v (Writes now id resource bytes))
unfolding edited fork_effect
write-sound v now id resource bytes m s = undated (record v { rows = with_changed id (written now resource bytes true) v.rows }) now (fork-sound v now id resource true bytes m.file m.found m.is_file m.room s)

exchange-sound : (v : VolumeState) (a b : ℕ) → MayExchange v a b → IsSoundVolume v → IsSoundVolume (edited v (Exchanges a b))
unfolding edited
exchange-sound v a b m s =
    subst IsSoundVolume (λ i. exchanged_at a b (sym m.first_found i) (sym m.second_found i) v)
    (sound-exchanged v a b m.first m.second m.apart m.first_found m.second_found m.first_file m.second_file s)

backed-sound : (v : VolumeState) (date : ℤ) → IsSoundVolume v → IsSoundVolume (edited v (BacksUp date))
unfolding edited is_tree has_apart_names has_noted_nodes keeps_limits is_formed_volume is_in_order
backed-sound v date s = record { tree = s.tree; names = s.names; notes = s.notes; limits = s.limits; formed = s.formed; order = s.order }

go-sound : (v : VolumeState) (id : ℕ) → MayEdit v (Goes id) → IsSoundVolume v → IsSoundVolume (edited v (Goes id))
unfolding edited
go-sound v id m s = sound-without v id m.other m.childless s

set-sound : (v : VolumeState) (id : ℕ) (settings : Settings) → are_fit_settings settings ≡ true → IsSoundVolume v → IsSoundVolume (edited v (Sets id settings))
unfolding edited
set-sound v id settings fit s = sound-at v id (with_settings settings) (settings-keep settings fit) s

icon-sound : (v : VolumeState) (icon : Icon) → MayEdit v (PutsIcon icon) → IsSoundVolume v → IsSoundVolume (edited v (PutsIcon icon))
unfolding edited
icon-sound v icon m s = sound-add-icon v icon m.formed m.room s

appl-sound : (v : VolumeState) (appl : Appl) → MayEdit v (PutsAppl appl) → IsSoundVolume v → IsSoundVolume (edited v (PutsAppl appl))
unfolding edited
appl-sound v appl m s = sound-add-appl v appl m.formed m.there m.room s

no-appl-sound : (v : VolumeState) (creator : List ℕ) (node : ℕ) → IsSoundVolume v → IsSoundVolume (edited v (TakesAppl creator node))
unfolding edited
no-appl-sound v creator node s = sound-remove-appl v creator node s

comment-sound : (v : VolumeState) (node : ℕ) (text : List ℕ) → has_node v.rows node ≡ true → IsSoundVolume v → IsSoundVolume (edited v (Comments node text))
unfolding edited
comment-sound v node text there s = sound-add-comment v node text there s

pub edit-sound : (v : VolumeState) (e : Edit) → MayEdit v e → IsSoundVolume v → IsSoundVolume (edited v e)
edit-sound v (Comes row) m s = come-sound v row m s
edit-sound v (Goes id) m s = go-sound v id m s
edit-sound v (Renames id name) m s = rename-sound v id name m s
edit-sound v (Moves id parent name) m s = move-sound v id parent name m s
edit-sound v (Sets id settings) m s = set-sound v id settings m s
edit-sound v (Files id filed) m s = file-sound v id filed m s
edit-sound v (Writes now id resource bytes) m s = write-sound v now id resource bytes m s
edit-sound v (Exchanges a b) m s = exchange-sound v a b m s
edit-sound v (PutsIcon icon) m s = icon-sound v icon m s
edit-sound v (PutsAppl appl) m s = appl-sound v appl m s
edit-sound v (TakesAppl creator node) m s = no-appl-sound v creator node s
edit-sound v (Comments node text) m s = comment-sound v node text m s
edit-sound v (BacksUp date) m s = backed-sound v date s

pub edits-sound : (v : VolumeState) (edits : List Edit) → MayEditAll v edits → IsSoundVolume v → IsSoundVolume (after_edits v edits)
edits-sound v [] m s = s
edits-sound v (e ∷ es) m s = edits-sound (edited v e) es m.1 (edit-sound v e m.0 s)

pub call-sound : (v : VolumeState) (now : ℕ) (edits : List Edit) → MayEditAll v edits → IsSoundVolume v → IsSoundVolume (after_call v now edits)
call-sound v now [] m s = s
call-sound v now (e ∷ es) m s = sound-changed (after_edits v (e ∷ es)) now (edits-sound v (e ∷ es) m s)
