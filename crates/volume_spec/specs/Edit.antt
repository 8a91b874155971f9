-- What calls do to a volume: a list of edits, made one after another (this profile).
use Rattle.std.specs.Prelude.{ℕ, ℤ, pos, Bool, true, List, [], ◌∷◌, Some, None, Result}
use Rattle.afp_base.specs.declared.code.Code.{Code}
use Rattle.volume_spec.specs.Desktop.{with_appl, with_comment, with_icon, without_appl}
use Rattle.volume_spec.specs.Edits.{changed_at, exchanged_at, filed_as, renamed, with_changed, with_moved, with_row, without_node}
use Rattle.volume_spec.specs.ForkEffect.{written}
use Rattle.volume_spec.specs.SetFileDirParms.{Settings, with_settings}
use Rattle.volume_spec.specs.Shared.{done_at}
use Rattle.volume_spec.specs.VolumeState.{Row, Icon, Appl, VolumeState, new_row}
use Rattle.volume_spec.specs.Walk.{Place, row_at}

-- one edit
pub data Edit : Type 0 where
  -- a node comes, and draws the next id
  Comes : Row → Edit
  -- a node goes, with its comment and its mappings
  Goes : ℕ → Edit
  -- a node gets another name
  Renames : ℕ → List ℕ → Edit
  -- a node gets another parent and another name
  Moves : ℕ → ℕ → List ℕ → Edit
  -- some fields of a node are set
  Sets : ℕ → Settings → Edit
  -- a file is filed, or not
  Files : ℕ → Bool → Edit
  -- a fork of a file gets other bytes, at a moment that is its modified date then
  Writes : ℕ → ℕ → Bool → List ℕ → Edit
  -- two files exchange their forks and modified dates
  Exchanges : ℕ → ℕ → Edit
  -- an icon is put
  PutsIcon : Icon → Edit
  -- a mapping is put
  PutsAppl : Appl → Edit
  -- the mapping of a creator and a file is taken
  TakesAppl : List ℕ → ℕ → Edit
  -- the comment of a node is put, or taken where the text is empty
  Comments : ℕ → List ℕ → Edit
  -- the volume's backup date is set
  BacksUp : ℤ → Edit

-- the volume after an edit
unfoldable pub edited : VolumeState → Edit → VolumeState
edited v (Comes row) = with_row row v
edited v (Goes id) = without_node id v
edited v (Renames id name) = renamed id name v
edited v (Moves id parent name) = with_moved id parent name v
edited v (Sets id settings) = record v { rows = with_changed id (with_settings settings) v.rows }
edited v (Files id filed) = record v { rows = with_changed id (filed_as filed) v.rows }
edited v (Writes now id resource bytes) = record v { rows = with_changed id (written now resource bytes true) v.rows }
edited v (Exchanges a b) = exchanged_at a b (row_at v.rows a) (row_at v.rows b) v
edited v (PutsIcon icon) = record v { icons = with_icon icon v.icons }
edited v (PutsAppl appl) = record v { appls = with_appl appl v.appls }
edited v (TakesAppl creator node) = record v { appls = without_appl creator node v.appls }
edited v (Comments node text) = record v { comments = with_comment node text v.comments }
edited v (BacksUp date) = record v { backup = date }

-- the volume after these edits
abbrev pub after_edits : VolumeState → List Edit → VolumeState
after_edits v [] = v
after_edits v (e ∷ es) = after_edits (edited v e) es

-- What a call does: its edits, at a moment that is then the volume's modified date. A call with no edit changes nothing, and commits nothing.
abbrev pub after_call : VolumeState → ℕ → List Edit → VolumeState
after_call v now [] = v
after_call v now (e ∷ es) = changed_at now (after_edits v (e ∷ es))

-- a node's modified date is set
abbrev pub dated_as : ℤ → ℕ → Edit
dated_as date id = Sets id (record { attributes = None; created = None; modified = Some date; backup = None; finder = None; owner = None; group = None; rights = None })

-- a node's modified date is set to a moment
abbrev pub dated : ℕ → ℕ → Edit
dated now id = dated_as (pos now) id

-- the edits where something is found, and none where it is not
abbrev pub edits_at : {A : Type 0} → Result A Code → (A → List Edit) → List Edit
edits_at r edits = done_at r [] edits

-- a new node at a place, made by a user, whose directory is dated
abbrev pub creates : Bool → ℕ → ℕ → VolumeState → Place → List Edit
creates dir user now v place = Comes (new_row dir user v.next_id place.dir place.name now) ∷ dated now place.dir ∷ []
