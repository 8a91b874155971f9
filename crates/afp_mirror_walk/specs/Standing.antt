-- Where a mirror stands (this profile).
use Rattle.std.specs.Prelude.{ℕ, ◌+◌, ◌<◌, ◌≤◌, List}
use Rattle.afp_base.specs.Limits.{most_fork_bytes}
use Rattle.afp_base.specs.declared.ids.VolumeId.{VolumeId}
use Rattle.afp_mirror_walk.specs.declared.walk.ends.Line.{Line}
use Rattle.afp_mirror_walk.specs.declared.walk.standing.Checking.{Checking}
use Rattle.afp_mirror_walk.specs.declared.walk.standing.Copying.{Copying}
use Rattle.afp_mirror_walk.specs.declared.walk.standing.Found.{Found}
use Rattle.afp_mirror_walk.specs.declared.walk.standing.Made.{Made}
use Rattle.afp_mirror_walk.specs.declared.walk.standing.Place.{Place}
use Rattle.afp_mirror_walk.specs.declared.walk.standing.Stage.{Stage}
use Rattle.afp_mirror_walk.specs.declared.walk.standing.Stage.TheVariants as stages

-- The names and the ids of the two volumes; the directory whose children are listed; the nodes that were made, those of the last list that are not
-- made yet, and the lines of those that were compared; the bytes that were read last; and what is asked next.
pub record Standing : Type 0 where
  pub source : List ℕ
  pub target : List ℕ
  pub from_volume : VolumeId
  pub to_volume : VolumeId
  pub place : Place
  pub nodes : List Made
  pub page : List Found
  pub lines : List Line
  pub piece : List ℕ
  pub stage : Stage

-- how many bytes are read at once
abbrev pub most_piece : ℕ
most_piece = 65536

-- A fork of the first node of a page is copied.
pub record FitsCopying (page : ℕ) (copying : Copying) (more : ℕ) : Type 0 where
  pub there : 0 < page
  pub within : copying.len + more ≤ most_fork_bytes

-- A fork of a node is compared.
pub record FitsChecking (nodes : ℕ) (checking : Checking) (more : ℕ) : Type 0 where
  pub there : checking.index < nodes
  pub within : checking.len + more ≤ most_fork_bytes

-- What a stage speaks of is there: the page has a node, or the nodes have one of the index; and a fork has no more bytes than it may.
abbrev pub Fits : Stage → ℕ → ℕ → ℕ → Type 0
Fits stages.OpensSource page nodes piece = Unit {0}
Fits stages.OpensTarget page nodes piece = Unit {0}
Fits stages.Looks page nodes piece = Unit {0}
Fits stages.Lists page nodes piece = Unit {0}
Fits stages.Makes page nodes piece = 0 < page
Fits stages.Finds page nodes piece = 0 < page
Fits (stages.OpensFrom copying) page nodes piece = FitsCopying page copying 0
Fits (stages.OpensTo copying) page nodes piece = FitsCopying page copying 0
Fits (stages.Reads copying) page nodes piece = FitsCopying page copying 0
Fits (stages.Writes copying last) page nodes piece = FitsCopying page copying piece × (piece ≤ most_piece)
Fits (stages.ClosesFrom copying) page nodes piece = FitsCopying page copying 0
Fits (stages.ClosesTo copying) page nodes piece = FitsCopying page copying 0
Fits (stages.SetsFile target) page nodes piece = 0 < page
Fits (stages.SetsDir index) page nodes piece = index < nodes
Fits (stages.ChecksFrom checking) page nodes piece = FitsChecking nodes checking 0
Fits (stages.ChecksTo checking) page nodes piece = FitsChecking nodes checking 0
Fits (stages.ReadsFrom checking) page nodes piece = FitsChecking nodes checking 0
Fits (stages.ReadsTo checking last) page nodes piece = FitsChecking nodes checking piece
Fits (stages.ShutsFrom checking) page nodes piece = FitsChecking nodes checking 0
Fits (stages.ShutsTo checking) page nodes piece = FitsChecking nodes checking 0
