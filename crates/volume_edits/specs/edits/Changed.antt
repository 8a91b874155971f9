-- Of which nodes, forks, comments, icons and mappings an edit changes something (this profile).
use Rattle.std.specs.Prelude.{ℕ, Bool, true, false, List, Option, Some, None}
use Rattle.std.specs.Bool.{beq}
use Rattle.volume_spec.specs.Edit.{Edit, Comes, Goes, Renames, Moves, Sets, Files, Writes, Exchanges, PutsIcon, PutsAppl, TakesAppl, Comments}
use Rattle.volume_spec.specs.SoundVolume.{icon_key}

-- whether a node comes
abbrev pub does_come : Edit → Bool
does_come (Comes row) = true
does_come e = false

-- the node that changes, the first where two do; one that comes draws the next id
abbrev pub node_changed : Edit → ℕ → Option ℕ
node_changed (Comes row) next = Some next
node_changed (Goes id) next = Some id
node_changed (Renames id name) next = Some id
node_changed (Moves id parent name) next = Some id
node_changed (Sets id settings) next = Some id
node_changed (Files id filed) next = Some id
node_changed (Writes now id resource bytes) next = Some id
node_changed (Exchanges a b) next = Some a
node_changed e next = None

-- the second node, where two change
abbrev pub other_changed : Edit → Option ℕ
other_changed (Exchanges a b) = Some b
other_changed e = None

-- whether the one fork or the other of these nodes changes
abbrev pub fork_changed : Edit → Bool → Bool
fork_changed (Comes row) resource = true
fork_changed (Goes id) resource = true
fork_changed (Writes now id written bytes) resource = beq written resource
fork_changed (Exchanges a b) resource = true
fork_changed e resource = false

-- the node whose comment changes
abbrev pub comment_changed : Edit → Option ℕ
comment_changed (Goes id) = Some id
comment_changed (Comments node text) = Some node
comment_changed e = None

-- the key of the icon that changes
abbrev pub icon_changed : Edit → Option (List ℕ)
icon_changed (PutsIcon icon) = Some (icon_key icon)
icon_changed e = None

-- the creator and the file whose mapping changes
abbrev pub appl_changed : Edit → Option (List ℕ × ℕ)
appl_changed (PutsAppl appl) = Some (appl.creator, appl.node)
appl_changed (TakesAppl creator node) = Some (creator, node)
appl_changed e = None

-- the node that goes, with all mappings to it
abbrev pub node_gone : Edit → Option ℕ
node_gone (Goes id) = Some id
node_gone e = None
