-- The lines of a script that were carried out, the newest first (this profile).
use Rattle.std.specs.Prelude.{◌≡◌, ℕ, ◌-◌, false, List, [], ◌∷◌, ◌++◌, Option, Some, None}
use Rattle.afp_base.specs.declared.ids.VolumeId.{VolumeId}
use Rattle.afp_outside.specs.ends.Source.{SourceState}
use Rattle.afp_outside.specs.lines.Lines as Read
use Rattle.afp_client.specs.declared.links.talk.Limit.{Limit}
use Rattle.client_script_lines.specs.lines.Lines.{line_in}
use Rattle.client_script_lines.specs.lines.Words.{longest_line}
use Rattle.client_script_lines.specs.declared.lines.line.ScriptLine.{ScriptLine}
use Rattle.client_script_lines.specs.texts.Texts.{newline}
use Rattle.client_script_commands.specs.parts.Parts.{Exchange}
use Rattle.client_script_run.specs.line.Run.{line_part, mounted_by}
use Rattle.client_script_run.specs.run.Script.{GoesBehind, Says}

-- A line that was carried out and printed, and behind which the script went on: its bytes; what was read of the source then and stands in no
-- line, and the source; what the links had cost when it was read; what the line says; what its calls were told, in order; and the text that they lead to.
pub record Carried : Type 0 where
  pub bytes : List ℕ
  pub unread : Read.Unread
  pub source : SourceState
  pub cost : ℕ
  pub line : ScriptLine
  pub exchanges : List Exchange
  pub text : List ℕ

-- what was read and stands in no line yet
abbrev pub unread_behind : List Carried → Read.Unread
unread_behind [] = record { bytes = []; ended = false; taken = 0 }
unread_behind (c ∷ carried) = c.unread

-- the source, which began so
abbrev pub source_behind : SourceState → List Carried → SourceState
source_behind start [] = start
source_behind start (c ∷ carried) = c.source

-- the volume that is mounted
abbrev pub mounted_behind : List Carried → Option VolumeId
mounted_behind [] = None
mounted_behind (c ∷ carried) = mounted_by (mounted_behind carried) c.line c.exchanges

-- what all calls were told, in order
abbrev pub exchanges_of : List Carried → List Exchange
exchanges_of [] = []
exchanges_of (c ∷ carried) = exchanges_of carried ++ c.exchanges

-- what was printed: the text of each line, in order
abbrev pub printed_of : List Carried → List ℕ
printed_of [] = []
printed_of (c ∷ carried) = printed_of carried ++ (c.text ++ newline)

-- The next line behind these is that of these bytes: its newline was read, it is too long, or the source ended. What the links had cost by then
-- is left out of what may be read.
abbrev pub ReadsLine : ℕ → SourceState → List Carried → ℕ → List ℕ → Read.Unread → SourceState → Type 0
ReadsLine turns start carried cost bytes unread source = Read.TakesLine longest_line (turns - cost) (unread_behind carried) (source_behind start carried) bytes unread source

-- Behind a line the links may spend what the source has left of the limit; so much had they cost.
abbrev pub line_limit : ℕ → Read.Unread → ℕ → Limit
line_limit turns unread cost = record { turns = turns - unread.taken; spent = cost }

-- the limits of the links: the whole, and behind each line what was left
abbrev pub limits_behind : ℕ → List Carried → List Limit
limits_behind turns [] = record { turns = turns; spent = 0 } ∷ []
limits_behind turns (c ∷ carried) = limits_behind turns carried ++ line_limit turns c.unread c.cost ∷ []

-- and behind the next line
abbrev pub limits_with : ℕ → List Carried → Read.Unread → ℕ → List Limit
limits_with turns carried unread cost = limits_behind turns carried ++ line_limit turns unread cost ∷ []

-- A line behind those before it: it is the next one of the source and has a form; its calls, in the volume that is mounted then, were told what
-- leads to its text; and it is no bye, or a bye that was refused.
pub record IsCarried (turns : ℕ) (start : SourceState) (before : List Carried) (c : Carried) : Type 0 where
  pub next : ReadsLine turns start before c.cost c.bytes c.unread c.source
  pub reads : line_in c.bytes ≡ Some c.line
  pub says : Says (line_part (mounted_behind before) c.line) c.exchanges c.text
  pub goes : GoesBehind c.line says

abbrev pub AreCarried : ℕ → SourceState → List Carried → Type 0
AreCarried turns start [] = Unit {0}
AreCarried turns start (c ∷ before) = AreCarried turns start before × IsCarried turns start before c
