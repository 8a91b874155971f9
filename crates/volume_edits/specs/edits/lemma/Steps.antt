-- What an edit does to a node by itself, part by part; no public contract cites it.
use Rattle.std.specs.Prelude.{ℕ, ℤ, ◌==◌, Bool, true, false, List, length, take, Option, Some, None, option_map, unwrap_or, bytes_eq, if◌then◌else◌}
use Rattle.volume_spec.specs.Desktop.{pair_key}
use Rattle.volume_spec.specs.Edit.{Edit, Comes, Goes, Renames, Moves, Sets, Files, Writes, Exchanges, PutsIcon, PutsAppl, TakesAppl, Comments, BacksUp}
use Rattle.volume_spec.specs.Edits.{at_place, change_at, filed_as, named}
use Rattle.volume_spec.specs.ForkEffect.{written}
use Rattle.volume_spec.specs.SetFileDirParms.{with_settings}
use Rattle.volume_spec.specs.SoundVolume.{appl_key, icon_key, longest_comment}
use Rattle.volume_spec.specs.VolumeState.{Row}
pub use Rattle.volume_edits.specs.edits.Changed.{does_come}
use Rattle.volume_edits.specs.edits.Planned.{EditValue, does_write}

-- the file with which a node exchanges its forks
abbrev pub partner_of : Edit → ℕ → Option ℕ
partner_of (Exchanges a b) id = if id == a then Some b else if id == b then Some a else None
partner_of e id = None

-- the node that comes, where the next id that it draws is this one
abbrev pub coming_row : Edit → ℕ → ℕ → Option Row
coming_row (Comes row) next id = if id == next then Some (record row { id = id }) else None
coming_row e next id = None

-- whether a node goes
abbrev pub does_go : Edit → ℕ → Bool
does_go (Goes gone) id = id == gone
does_go e id = false

-- a node that stays, and exchanges its forks with none
abbrev pub changed_row : Edit → Row → Row
changed_row (Renames node name) row = change_at node (named name) row
changed_row (Moves node parent name) row = change_at node (at_place parent name) row
changed_row (Sets node settings) row = change_at node (with_settings settings) row
changed_row (Files node filed) row = change_at node (filed_as filed) row
changed_row (Writes now node resource bytes) row = change_at node (written now resource bytes true) row
changed_row e row = row

-- the first row, or else the second
abbrev pub row_or : Option Row → Option Row → Option Row
row_or (Some row) other = Some row
row_or None other = other

-- what an edit leaves of a node that exchanges its forks with none
abbrev pub left_row : Edit → ℕ → ℕ → Option Row → Option Row
left_row e next id row = row_or (coming_row e next id) (if does_go e id then None else option_map (changed_row e) row)

-- the volume's backup date that an edit sets
abbrev pub backup_set : Edit → Option ℤ
backup_set (BacksUp date) = Some date
backup_set e = None

-- what an edit leaves of the volume's backup date
abbrev pub backup_left : Edit → ℤ → ℤ
backup_left e backup = unwrap_or (backup_set e) backup

-- what is kept of a comment's text, where it is not empty
abbrev pub text_of : List ℕ → Option (List ℕ)
text_of text = if length text == 0 then None else Some (take longest_comment text)

-- what an edit leaves of the text of a node's comment
abbrev pub comment_left : Edit → ℕ → Option (List ℕ) → Option (List ℕ)
comment_left (Goes id) node text = if id == node then None else text
comment_left (Comments commented new) node text = if commented == node then text_of new else text
comment_left e node text = text

-- the tag and the bits of the icon that an edit puts under a key
abbrev pub icon_put : Edit → List ℕ → Option (ℕ × List ℕ)
icon_put (PutsIcon icon) key = if bytes_eq (icon_key icon) key then Some (icon.tag, icon.bits) else None
icon_put e key = None

-- what an edit leaves of the tag of the mapping of a creator and a file
abbrev pub tag_left : Edit → List ℕ → ℕ → Option ℕ → Option ℕ
tag_left (Goes id) creator node tag = if id == node then None else tag
tag_left (PutsAppl appl) creator node tag = if bytes_eq (appl_key appl) (pair_key creator node) then Some appl.tag else tag
tag_left (TakesAppl taken from) creator node tag = if bytes_eq (pair_key taken from) (pair_key creator node) then None else tag
tag_left e creator node tag = tag

-- an edit, where it writes a fork
abbrev pub write_of : EditValue → Option EditValue
write_of e = if does_write e.edit then Some e else None
