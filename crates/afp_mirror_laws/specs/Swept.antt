-- Every directory of the source is listed to its end (this profile).
use Rattle.std.specs.Prelude.{◌≡◌, ℕ, ◌+◌, if◌then◌else◌, List, [], ◌∷◌, ◌++◌, length, Option, Some, None}
use Rattle.afp_base.specs.declared.code.Code.{Code}
use Rattle.afp_base.specs.declared.ids.NodeId.{NodeId}
use Rattle.afp_calls_grammar.specs.declared.grammar.call.Call.{Call}
use Rattle.afp_calls_grammar.specs.declared.grammar.call.Call.TheVariants.{EnumerateExt2}
use Rattle.afp_replies.specs.declared.list.ListEntry.{ListEntry}
use Rattle.afp_replies.specs.declared.reply.Reply.{Reply}
use Rattle.afp_mirror_walk.specs.Asks.{root}
use Rattle.afp_mirror_walk.specs.Follows.{done, ends, first, goes, is_ok, rows_in}
use Rattle.afp_mirror_walk.specs.Settings.{found_in}
use Rattle.afp_mirror_walk.specs.declared.walk.ends.Line.{Line}
use Rattle.afp_mirror_walk.specs.declared.walk.ends.Side.{Side}
use Rattle.afp_mirror_walk.specs.declared.walk.ends.Side.TheVariants.{From, To}
use Rattle.afp_mirror_walk.specs.declared.walk.standing.Found.{Found}
use Rattle.afp_mirror.specs.Runs.{Leads, Turn}

-- A list of the source: of which directory, from which number on, and its entries, or that there are no more.
pub record Listing : Type 0 where
  pub dir : NodeId
  pub start : ℕ
  pub rows : Option (List ListEntry)

-- the entries that were told; none where the code is not Ok
abbrev pub rows_told : Code → Option Reply → Option (List ListEntry)
rows_told c None = None
rows_told c (Some reply) = if is_ok c then rows_in reply else None

-- the lists among the turns
abbrev pub list_call : Call → Option (List ListEntry) → List Listing
list_call (EnumerateExt2 volume dir file_bits dir_bits count start size path) rows = (record { dir = dir; start = start; rows = rows }) ∷ []
list_call call rows = []

abbrev pub listing : Side → Call → Option (List ListEntry) → List Listing
listing From call rows = list_call call rows
listing To call rows = []

abbrev pub lists_of : List Turn → List Listing
lists_of [] = []
lists_of (t ∷ turns) = listing t.side t.call (rows_told t.answer.code t.reply) ++ lists_of turns

-- the directories among entries
abbrev pub with_dir : Option Found → List NodeId → List NodeId
with_dir None dirs = dirs
with_dir (Some f) dirs = if f.dir then f.id ∷ dirs else dirs

abbrev pub dirs_in : List ListEntry → List NodeId
dirs_in [] = []
dirs_in (row ∷ rows) = with_dir (found_in row.values) (dirs_in rows)

abbrev pub ByRows : Option (List ListEntry) → (List ListEntry → Type 0) → Type 0 → Type 0
ByRows None more end = end
ByRows (Some rows) more end = more rows

abbrev pub ByQueue : List NodeId → Type 0 → (NodeId → List NodeId → Type 0) → Type 0
ByQueue [] end next = end
ByQueue (dir ∷ dirs) end next = next dir dirs

-- These lists sweep a directory from a number on, and then those that wait: each list is of that directory from there on; behind its entries the next
-- goes on, and its directories wait; where there are no more, the next directory is listed from 1; and with none waiting, there is no further list.
abbrev pub Sweeps : List Listing → NodeId → ℕ → List NodeId → Type 0
Sweeps [] here start waiting = ⊥
Sweeps (l ∷ lists) here start waiting = (l.dir ≡ here) × (l.start ≡ start) × ByRows l.rows
    (λ rows. Sweeps lists here (start + length rows) (waiting ++ dirs_in rows))
    (ByQueue waiting (lists ≡ []) (λ dir dirs. Sweeps lists dir 1 dirs))

-- the law: at Done every directory of the source, the root among them, was listed from 1 until there were no more entries
abbrev pub DoneHasSwept : Type 0
DoneHasSwept = (source target : List ℕ) (turns : List Turn) (lines : List Line) → Leads (goes (first source target)) turns (ends (done lines)) → Sweeps (lists_of turns) root 1 []
