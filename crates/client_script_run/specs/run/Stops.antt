-- Why a script stops, behind the lines that were carried out (this profile).
use Rattle.std.specs.Prelude.{◌≡◌, ◌⊎◌, ℕ, ◌+◌, ◌-◌, Bool, true, false, List, [], ◌∷◌, ◌++◌, length, Option, Some, None}
use Rattle.afp_base.specs.declared.code.Code.{Code}
use Rattle.afp_calls_grammar.specs.declared.grammar.call.Call.{Call}
use Rattle.afp_outside.specs.ends.Source.{SourceState}
use Rattle.afp_outside.specs.lines.Lines as Read
use Rattle.client_script_lines.specs.lines.Lines.{line_in}
use Rattle.client_script_lines.specs.lines.Words.{longest_line}
use Rattle.client_script_lines.specs.declared.lines.line.ScriptLine.{ScriptLine}
use Rattle.client_script_lines.specs.declared.lines.line.ScriptLine.TheVariants as lines
use Rattle.client_script_lines.specs.texts.Texts.{newline}
use Rattle.client_script_commands.specs.parts.Parts.{Exchange, Leads, Part, asks, bad, done}
use Rattle.client_script_run.specs.line.Run.{line_part, said_by}
use Rattle.afp_client.specs.declared.links.links.TalkEnd.TheVariants as talks
use Rattle.afp_client.specs.declared.links.talk.Limit.{Limit}
use Rattle.client_script_run.specs.declared.asker.asker.AskEnd.{AskEnd}
use Rattle.client_script_run.specs.declared.asker.asker.AskEnd.TheVariants as asked_ends
use Rattle.client_script_run.specs.run.Carried.{Carried, ReadsLine, exchanges_of, limits_behind, limits_with, mounted_behind, source_behind, unread_behind}
use Rattle.client_script_run.specs.run.Ends.{end_of_ask}
use Rattle.client_script_run.specs.run.Script.{Says}
use Rattle.client_script_run.specs.declared.run.ends.ClientEnd.{ClientEnd}
use Rattle.client_script_run.specs.declared.run.ends.ClientEnd.TheVariants as ends

-- How the script's client stood when the script stopped: what all its calls were told; the calls that got no answer; why it had ended, where it
-- had; what its links cost; the place on its link of the last reply; how much its links might spend, limit by limit; and whether it is to close its
-- session.
pub record Stood : Type 0 where
  pub exchanges : List Exchange
  pub unanswered : List Call
  pub ended : Option AskEnd
  pub cost : ℕ
  pub place : ℕ
  pub limits : List Limit
  pub closes : Bool

-- The source ended: each line was carried out, and the session is closed.
pub record AtEnd (turns : ℕ) (start : SourceState) (carried : List Carried) (last : List ℕ) (stood : Stood) (source : SourceState) : Type 0 where
  pub unread : Read.Unread
  pub none : Read.TakesNone (turns - stood.cost) (unread_behind carried) (source_behind start carried) unread source
  pub limits : stood.limits ≡ limits_behind turns carried
  pub told : stood.exchanges ≡ exchanges_of carried
  pub live : stood.ended ≡ None
  pub closes : stood.closes ≡ true
  pub prints : last ≡ []

-- The next line is a bye, which was answered Ok.
pub record AtBye (turns : ℕ) (start : SourceState) (carried : List Carried) (last : List ℕ) (stood : Stood) (source : SourceState) : Type 0 where
  pub bytes : List ℕ
  pub unread : Read.Unread
  pub cost : ℕ
  pub next : ReadsLine turns start carried cost bytes unread source
  pub limits : stood.limits ≡ limits_with turns carried unread cost
  pub reads : line_in bytes ≡ Some lines.Bye
  pub exchanges : List Exchange
  pub said : List ℕ
  pub leads : Leads (line_part (mounted_behind carried) lines.Bye) exchanges (done said)
  pub told : stood.exchanges ≡ exchanges_of carried ++ exchanges
  pub closes : stood.closes ≡ false
  pub prints : last ≡ said ++ newline

-- The next line was carried out; this is what was to be printed.
pub record AtCut (turns : ℕ) (start : SourceState) (carried : List Carried) (last : List ℕ) (stood : Stood) (source : SourceState) : Type 0 where
  pub bytes : List ℕ
  pub unread : Read.Unread
  pub cost : ℕ
  pub next : ReadsLine turns start carried cost bytes unread source
  pub limits : stood.limits ≡ limits_with turns carried unread cost
  pub line : ScriptLine
  pub reads : line_in bytes ≡ Some line
  pub exchanges : List Exchange
  pub said : List ℕ
  pub says : Says (line_part (mounted_behind carried) line) exchanges said
  pub told : stood.exchanges ≡ exchanges_of carried ++ exchanges
  pub closes : stood.closes ≡ false
  pub prints : last ≡ said ++ newline

-- A call of the next line got no answer, the first one, since the client ended so; what the source gave counts as spent. What the line had said was
-- to be printed.
pub record AtCall (turns : ℕ) (start : SourceState) (carried : List Carried) (end : AskEnd) (last : List ℕ) (stood : Stood) (source : SourceState) : Type 0 where
  pub bytes : List ℕ
  pub unread : Read.Unread
  pub cost : ℕ
  pub next : ReadsLine turns start carried cost bytes unread source
  pub limits : stood.limits ≡ limits_with turns carried unread cost
  pub line : ScriptLine
  pub reads : line_in bytes ≡ Some line
  pub exchanges : List Exchange
  pub call : Call
  pub left : Part
  pub waits : left [] ≡ asks call
  pub leads : Leads (line_part (mounted_behind carried) line) exchanges left
  pub told : stood.exchanges ≡ exchanges_of carried ++ exchanges
  pub ended : stood.ended ≡ Some end
  pub unanswered : stood.unanswered ≡ call ∷ []
  pub closes : stood.closes ≡ false
  pub prints : last ≡ said_by (mounted_behind carried) line exchanges

-- The last reply to the next line is none that may come; its frame begins at this place of its link. What the line had said was to be printed.
pub record AtBadReply (turns : ℕ) (start : SourceState) (carried : List Carried) (at : ℕ) (last : List ℕ) (stood : Stood) (source : SourceState) : Type 0 where
  pub bytes : List ℕ
  pub unread : Read.Unread
  pub cost : ℕ
  pub next : ReadsLine turns start carried cost bytes unread source
  pub limits : stood.limits ≡ limits_with turns carried unread cost
  pub line : ScriptLine
  pub reads : line_in bytes ≡ Some line
  pub exchanges : List Exchange
  pub leads : Leads (line_part (mounted_behind carried) line) exchanges bad
  pub told : stood.exchanges ≡ exchanges_of carried ++ exchanges
  pub live : stood.ended ≡ None
  pub place : stood.place ≡ at
  pub closes : stood.closes ≡ false
  pub prints : last ≡ said_by (mounted_behind carried) line exchanges

-- The next line has none of the forms.
pub record AtBadLine (turns : ℕ) (start : SourceState) (carried : List Carried) (number : ℕ) (last : List ℕ) (stood : Stood) (source : SourceState) : Type 0 where
  pub bytes : List ℕ
  pub unread : Read.Unread
  pub cost : ℕ
  pub next : ReadsLine turns start carried cost bytes unread source
  pub limits : stood.limits ≡ limits_with turns carried unread cost
  pub reads : line_in bytes ≡ None
  pub is_next : number ≡ length carried + 1
  pub told : stood.exchanges ≡ exchanges_of carried
  pub live : stood.ended ≡ None
  pub closes : stood.closes ≡ false
  pub prints : last ≡ []

-- The source failed while the next line was read.
pub record AtFault (turns : ℕ) (start : SourceState) (carried : List Carried) (last : List ℕ) (stood : Stood) (source : SourceState) : Type 0 where
  pub unread : Read.Unread
  pub fault : Read.TakesFault longest_line (turns - stood.cost) (unread_behind carried) (source_behind start carried) unread source
  pub limits : stood.limits ≡ limits_behind turns carried
  pub told : stood.exchanges ≡ exchanges_of carried
  pub live : stood.ended ≡ None
  pub closes : stood.closes ≡ false
  pub prints : last ≡ []

-- As much was spent as may be, while the next line was read.
pub record AtLimit (turns : ℕ) (start : SourceState) (carried : List Carried) (last : List ℕ) (stood : Stood) (source : SourceState) : Type 0 where
  pub unread : Read.Unread
  pub reached : Read.TakesAll longest_line (turns - stood.cost) (unread_behind carried) (source_behind start carried) unread source
  pub limits : stood.limits ≡ limits_behind turns carried
  pub told : stood.exchanges ≡ exchanges_of carried
  pub live : stood.ended ≡ None
  pub closes : stood.closes ≡ false
  pub prints : last ≡ []

-- some first calls of a line of these bytes
pub record IsBegun (carried : List Carried) (bytes : List ℕ) (exchanges : List Exchange) : Type 0 where
  pub line : ScriptLine
  pub reads : line_in bytes ≡ Some line
  pub left : Part
  pub leads : Leads (line_part (mounted_behind carried) line) exchanges left

-- the next line was read, and some of its calls, or none, were told these
pub record HasLine (turns : ℕ) (start : SourceState) (carried : List Carried) (cost : ℕ) (exchanges : List Exchange) (stood : Stood) (source : SourceState) : Type 0 where
  pub bytes : List ℕ
  pub unread : Read.Unread
  pub next : ReadsLine turns start carried cost bytes unread source
  pub limits : stood.limits ≡ limits_with turns carried unread cost
  pub begun : (exchanges ≡ []) ⊎ IsBegun carried bytes exchanges

-- it was not read whole
pub record HasNoLine (turns : ℕ) (carried : List Carried) (cost : ℕ) (exchanges : List Exchange) (stood : Stood) : Type 0 where
  pub none : exchanges ≡ []
  pub cost_is : cost ≡ stood.cost
  pub limits : stood.limits ≡ limits_behind turns carried

-- There was no memory: for the next line, or for what comes of it.
pub record Lacks (turns : ℕ) (start : SourceState) (carried : List Carried) (last : List ℕ) (stood : Stood) (source : SourceState) : Type 0 where
  pub cost : ℕ
  pub some : Read.TakesSome (turns - cost) (unread_behind carried) (source_behind start carried) source
  pub exchanges : List Exchange
  pub begun : HasNoLine turns carried cost exchanges stood ⊎ HasLine turns start carried cost exchanges stood source
  pub told : stood.exchanges ≡ exchanges_of carried ++ exchanges
  pub closes : stood.closes ≡ false
  pub prints : last ≡ []

-- A write failed: of the text of a line that was carried out, or of what a line had said that stopped in its middle, though not for want of memory.
abbrev pub AtWrite : ℕ → SourceState → List Carried → List ℕ → Stood → SourceState → Type 0
AtWrite turns start carried last stood source =
    (AtCut turns start carried last stood source ⊎ ((end : AskEnd) × (end_of_ask end 1 ≡ ends.Memory → ⊥) × AtCall turns start carried end last stood source)) ⊎ ((at : ℕ) × AtBadReply turns start carried at last stood source)

-- By why it stops, behind the lines that were carried out; this was to be printed of the next one.
abbrev pub Stops : ℕ → SourceState → List Carried → ClientEnd → List ℕ → Stood → SourceState → Type 0
Stops turns start carried ends.Done last stood source = AtEnd turns start carried last stood source ⊎ AtBye turns start carried last stood source
Stops turns start carried (ends.Refused c) last stood source = AtCall turns start carried (asked_ends.Links (talks.Refused c)) last stood source
Stops turns start carried (ends.SessionLost line) last stood source =
    (line ≡ length carried + 1) × (c : Code) × AtCall turns start carried (asked_ends.Links (talks.Lost c)) last stood source
Stops turns start carried (ends.BadReply at) last stood source =
    (AtCall turns start carried (asked_ends.Links (talks.Bad at)) last stood source ⊎ AtCall turns start carried (asked_ends.BadReply at) last stood source) ⊎ AtBadReply turns start carried at last stood source
Stops turns start carried (ends.BadLine line) last stood source = AtBadLine turns start carried line last stood source
Stops turns start carried ends.ReadFault last stood source = AtFault turns start carried last stood source
Stops turns start carried ends.WriteFault last stood source = AtWrite turns start carried last stood source
Stops turns start carried ends.Broken last stood source = AtCall turns start carried (asked_ends.Links talks.Broken) last stood source
Stops turns start carried ends.DialFault last stood source = AtCall turns start carried (asked_ends.Links talks.DialFault) last stood source
Stops turns start carried ends.Spent last stood source = AtCall turns start carried (asked_ends.Links talks.Spent) last stood source ⊎ AtLimit turns start carried last stood source
Stops turns start carried ends.Memory last stood source = Lacks turns start carried last stood source
