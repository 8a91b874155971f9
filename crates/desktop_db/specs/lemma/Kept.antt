-- What the code and the proofs go by beside Kept; no public contract cites it.
use Rattle.std.specs.Prelude.{List}
use Rattle.volume_spec.specs.Desktop.{IsDesktop, IsTypedDesktop}
use Rattle.volume_spec.specs.VolumeState.{Comment, Icon, Appl}

-- what the type keeps: the lists are a desktop's, and their numbers are in their ranges
pub record AreKept (comments : List Comment) (icons : List Icon) (appls : List Appl) : Type 0 where
  pub desktop : IsDesktop comments icons appls
  pub typed : IsTypedDesktop comments icons appls
