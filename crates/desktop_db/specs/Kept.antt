-- A desktop database as contracts see it (AFP Reference, "Desktop database"; the form is this profile's).
use Rattle.std.specs.Prelude.{ℕ, List}
use denote.Ref.{Bor}
use Rattle.afp_base.specs.declared.ids.NodeId.{NodeId}
use Rattle.volume_spec.specs.VolumeState.{Comment, Icon, Appl}

-- a volume's comments, icons and APPL mappings, and how many elements more each list takes with no memory
pub record DesktopValue : Type 0 where
  pub comments : List Comment
  pub icons : List Icon
  pub appls : List Appl
  pub spare : ℕ

-- what an icon that is lent shows: its tag and its bits
abbrev pub shown_icon : ℕ × Bor (List ℕ) → ℕ × List ℕ
shown_icon lent = (lent.0, lent.1.now)

-- what a mapping shows: its file and its tag
abbrev pub shown_appl : NodeId × ℕ → ℕ × ℕ
shown_appl mapping = (mapping.0.0, mapping.1)
