-- What holds wherever a mirror comes to (this profile).
use Rattle.std.specs.Prelude.{◌≡◌, ◌↔◌, ℕ, ◌+◌, true, List, length, Option, Some, None}
use Rattle.afp_base.specs.declared.code.Code.{Code}
use Rattle.afp_replies.specs.declared.list.ListEntry.{ListEntry}
use Rattle.afp_replies.specs.declared.reply.Reply.{Reply}
use Rattle.afp_mirror_walk.specs.Follows.{ends, first, follows, goes, is_ok, most_nodes, rows_in, too_many}
use Rattle.afp_mirror_walk.specs.Standing.{Standing}
use Rattle.afp_mirror_walk.specs.declared.walk.standing.Made.{Made}
use Rattle.afp_mirror_walk.specs.declared.walk.standing.Stage.{Stage}
use Rattle.afp_mirror_walk.specs.declared.walk.standing.Stage.TheVariants as stages
use Rattle.afp_mirror.specs.Runs.{Leads, Turn}
use Rattle.afp_mirror_laws.specs.Paired.{given_in}
use Rattle.afp_mirror_laws.specs.Rows.{IsFit, Reaches, is_over}
use Rattle.afp_mirror_laws.specs.Swept.{lists_of}

-- the law: what a stage speaks of is there, so that each row of the table is exact there
abbrev pub ReachedIsFit : Type 0
ReachedIsFit = (source target : List ℕ) (turns : List Turn) (w : Standing) → Leads (goes (first source target)) turns (goes w) → IsFit w

-- A list of the source has the 10,001st node: good entries stand before it, and with their ids the lists gave 10,000.
pub record HasOneMore (turns : List Turn) (nodes : List Made) (rows : List ListEntry) : Type 0 where
  pub reaches : Reaches nodes rows (is_over nodes)
  pub count : length (given_in (lists_of turns)) + length reaches.before ≡ most_nodes

abbrev pub ListHasOneMore : List Turn → List Made → Option (List ListEntry) → Type 0
ListHasOneMore turns nodes None = ⊥
ListHasOneMore turns nodes (Some rows) = HasOneMore turns nodes rows

abbrev pub IsOneMore : List Turn → Stage → Standing → Code → Reply → Type 0
IsOneMore turns stages.Lists w c reply = (is_ok c ≡ true) × ListHasOneMore turns w.nodes (rows_in reply)
IsOneMore turns stage w c reply = ⊥

-- the law: a mirror ends TooMany just at the 10,001st node that the source's lists give
abbrev pub TooManyIsOneMore : Type 0
TooManyIsOneMore = (source target : List ℕ) (turns : List Turn) (w : Standing) (c : Code) (reply : Reply) → Leads (goes (first source target)) turns (goes w) → (follows w c reply ≡ ends too_many) ↔ IsOneMore turns w.stage w c reply
