-- Which edits a tree takes that a whole volume takes.
use Rattle.std.proofs.Common.{◌≡◌, ◌∙◌, refl, sym, ℕ, Bool, true, false, List}
use Rattle.std.specs.Prelude.{Result, Ok, Err, IsOk, OnOk}
use Rattle.desktop_db.specs.declared.fault.DeskFault.{DeskFault}
use Rattle.desktop_db.specs.declared.fault.DeskFault.TheVariants.{Full, Memory}
use Rattle.volume_spec.specs.Edit.{Edit, Comes, Goes, Renames, Moves, Sets, Files, Writes, Exchanges, PutsIcon, PutsAppl, TakesAppl, Comments, BacksUp, edited}
use Rattle.volume_edits.specs.edits.Planned.{StandsOn}
use Rattle.volume_tree.specs.Shown.{fork_at}
use Rattle.volume_spec.specs.Edits.{exchanged_at}
use Rattle.volume_spec.specs.Walk.{row_at}
use Rattle.volume_spec.specs.DesktopLaws.{with_desktop}
use Rattle.volume_spec.specs.ForkEffect.{would_pass}
use Rattle.volume_spec.specs.EditLaws.{MayCome, MayGo, MayRename, MayMove, MayWrite, MayExchange}
use Rattle.volume_spec.specs.VolumeState.{Appl, Comment, Icon, Row, VolumeState}

module _ (v : VolumeState) (comments : List Comment) (icons : List Icon) (appls : List Appl) where
  pub come-seen : (row : Row) → MayCome (with_desktop v comments icons appls) row → MayCome v row
  come-seen row m = record { directory = m.directory; free = m.free; formed = m.formed; few = m.few; left = m.left; bytes = m.bytes }

  pub go-seen : (id : ℕ) → MayGo (with_desktop v comments icons appls) id → MayGo v id
  go-seen id m = record { other = m.other; childless = m.childless }

  pub rename-seen : (id : ℕ) (name : List ℕ) → MayRename (with_desktop v comments icons appls) id name → MayRename v id name
  rename-seen id name m = record { other = m.other; row = m.row; found = m.found; free = m.free; named = m.named }

  pub move-seen : (id parent : ℕ) (name : List ℕ) → MayMove (with_desktop v comments icons appls) id parent name → MayMove v id parent name
  move-seen id parent name m = record { other = m.other; directory = m.directory; not_below = m.not_below; free = m.free; named = m.named }

  pub write-seen : (id : ℕ) (resource : Bool) (bytes : List ℕ) → MayWrite (with_desktop v comments icons appls) id resource bytes → MayWrite v id resource bytes
  unfolding would_pass
  write-seen id resource bytes m = record { file = m.file; found = m.found; is_file = m.is_file; room = m.room }

  pub exchange-seen : (a b : ℕ) → MayExchange (with_desktop v comments icons appls) a b → MayExchange v a b
  exchange-seen a b m = record { apart = m.apart; first = m.first; second = m.second; first_found = m.first_found; second_found = m.second_found; first_file = m.first_file; second_file = m.second_file }

-- an exchange on the tree is one on the whole
pub exchange-whole : (v : VolumeState) (comments : List Comment) (icons : List Icon) (appls : List Appl) (a b : ℕ) → MayExchange (with_desktop v comments icons appls) a b
    → with_desktop (exchanged_at a b (row_at v.rows a) (row_at v.rows b) v) comments icons appls ≡ edited (with_desktop v comments icons appls) (Exchanges a b)
unfolding edited
exchange-whole v comments icons appls a b m =
    (λ i. with_desktop (exchanged_at a b (m.first_found i) (m.second_found i) v) comments icons appls)
    ∙ sym (λ i. exchanged_at a b (m.first_found i) (m.second_found i) (with_desktop v comments icons appls))

-- what is put where there is room
pub put-ok : {A P : Type 0} (result : Result A DeskFault) (full : Bool) → (result ≡ Err Full → full ≡ true) → full ≡ false → (result ≡ Err Memory → ⊥) → OnOk result P → P
put-ok (Ok u) full is free ample ok = ok
put-ok (Err Full) full is free ample ok = let taken : full ≡ true = is refl in absurd (cc)
put-ok (Err Memory) full is free ample ok = absurd (ample refl)

pub comment-ok : {A E P : Type 0} (result : Result A E) → IsOk result → OnOk result P → P
comment-ok (Ok u) is ok = ok
comment-ok (Err fault) is ok = absurd (cc)

-- where a write stands on the whole, it stands on the tree
pub stands-seen : (v : VolumeState) (comments : List Comment) (icons : List Icon) (appls : List Appl) (e : Edit) (before : List ℕ) → StandsOn (with_desktop v comments icons appls) e before → StandsOn v e before
unfolding fork_at
stands-seen v comments icons appls (Comes row) before h = h
stands-seen v comments icons appls (Goes id) before h = h
stands-seen v comments icons appls (Renames id name) before h = h
stands-seen v comments icons appls (Moves id parent name) before h = h
stands-seen v comments icons appls (Sets id settings) before h = h
stands-seen v comments icons appls (Files id filed) before h = h
stands-seen v comments icons appls (Writes now id resource bytes) before h = h
stands-seen v comments icons appls (Exchanges a b) before h = h
stands-seen v comments icons appls (PutsIcon icon) before h = h
stands-seen v comments icons appls (PutsAppl appl) before h = h
stands-seen v comments icons appls (TakesAppl creator node) before h = h
stands-seen v comments icons appls (Comments node text) before h = h
stands-seen v comments icons appls (BacksUp date) before h = h
