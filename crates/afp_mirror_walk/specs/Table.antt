-- The table of a mirror's answers, in the subject's own words (this profile).
use Rattle.std.specs.Prelude.{◌≡◌, ℕ, Bool, true, false, length, Some}
use Rattle.afp_base.specs.declared.code.Code.{Code}
use Rattle.afp_replies.specs.declared.reply.Reply.{Reply}
use Rattle.afp_mirror_walk.specs.Asks.{Asked, asks}
use Rattle.afp_mirror_walk.specs.Follows.{Next, ends, ends_fork, ends_list, follows, is_ok, refused}
use Rattle.afp_mirror_walk.specs.Standing.{Fits, Standing}
use Rattle.afp_mirror_walk.specs.declared.walk.standing.Stage.{Stage}
use Rattle.afp_mirror_walk.specs.declared.walk.standing.Stage.TheVariants as stages

-- a code that is no refusal there: ObjectNotFound ends a list, and EOFErr a fork
abbrev pub is_aside : Stage → Code → Bool
is_aside stages.OpensSource c = false
is_aside stages.OpensTarget c = false
is_aside stages.Looks c = ends_list c
is_aside stages.Lists c = ends_list c
is_aside stages.Makes c = false
is_aside stages.Finds c = false
is_aside (stages.OpensFrom copying) c = false
is_aside (stages.OpensTo copying) c = false
is_aside (stages.Reads copying) c = ends_fork c
is_aside (stages.Writes copying last) c = false
is_aside (stages.ClosesFrom copying) c = false
is_aside (stages.ClosesTo copying) c = false
is_aside (stages.SetsFile target) c = false
is_aside (stages.SetsDir index) c = false
is_aside (stages.ChecksFrom checking) c = false
is_aside (stages.ChecksTo checking) c = false
is_aside (stages.ReadsFrom checking) c = ends_fork c
is_aside (stages.ReadsTo checking last) c = ends_fork c
is_aside (stages.ShutsFrom checking) c = false
is_aside (stages.ShutsTo checking) c = false

-- the law: a call that is told a code other than Ok, those two aside, ends the mirror Refused, with its side, its code and the node that it is about
pub record IsRefused (w : Standing) (c : Code) (reply : Reply) : Type 0 where
  pub asked : Asked
  pub next : asks w ≡ Some asked
  pub ended : follows w c reply ≡ ends (refused asked.side c asked.node)

abbrev pub RefusalsEnd : Type 0
RefusalsEnd = (w : Standing) (c : Code) (reply : Reply) → Fits w.stage (length w.page) (length w.nodes) (length w.piece) → is_ok c ≡ false → is_aside w.stage c ≡ false → IsRefused w c reply
