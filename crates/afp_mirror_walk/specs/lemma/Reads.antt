-- What is given of a read, told over whatever follows it.
use Rattle.std.specs.Prelude.{◌≡◌, ◌≤◌, ◌+◌, ℕ, Bool, true, false, if◌then◌else◌, List, length, Option, Some, None, Result, Ok, Err}
use Rattle.afp_base.specs.Limits.{most_fork_bytes}
use Rattle.afp_base.specs.declared.code.Code.{Code}
use Rattle.afp_base.specs.declared.ids.NodeId.{NodeId}
use Rattle.afp_replies.specs.declared.reply.Reply.{Reply}
use Rattle.afp_mirror_walk.specs.Follows.{Next, Gives, ends, bad, ends_fork, is_ok, needs, piece_in, read_of, read_told, refused}
use Rattle.afp_mirror_walk.specs.Standing.{Standing, most_piece}
use Rattle.afp_mirror_walk.specs.declared.walk.copies.Read.{Read}
use Rattle.afp_mirror_walk.specs.declared.walk.ends.MirrorEnd.{MirrorEnd}
use Rattle.afp_mirror_walk.specs.declared.walk.ends.MirrorEnd.TheVariants as mirror_ends
use Rattle.afp_mirror_walk.specs.declared.walk.ends.Side.{Side}

-- Whatever follows a read, this is what it comes to: a piece, with which it goes on; or an end.
pub record GoesOn (told : (List ℕ → Bool → Next) → Next) (len : ℕ) (read : Read) : Type 0 where
  pub next : (next : List ℕ → Bool → Next) → told next ≡ next read.piece read.last
  pub within : len + length read.piece ≤ most_fork_bytes
  pub most : length read.piece ≤ most_piece

abbrev pub GivesTold : ((List ℕ → Bool → Next) → Next) → ℕ → Result Read MirrorEnd → Type 0
GivesTold told len (Ok read) = GoesOn told len read
GivesTold told len (Err end) = (next : List ℕ → Bool → Next) → Gives (told next) (Err end)

abbrev pub GivesRead : Side → NodeId → ℕ → Bool → Reply → Result Read MirrorEnd → Type 0
GivesRead side node len last reply result = GivesTold (λ next. needs side (piece_in reply) (read_of side len last next)) len result

abbrev pub TakesRead : Side → NodeId → ℕ → Code → Reply → Result Read MirrorEnd → Type 0
TakesRead side node len c reply result = GivesTold (read_told side node len c reply) len result
