-- How far a script has come, and what its next line comes to.
use Rattle.std.specs.Prelude.{◌≡◌, ◌⊎◌, ℕ, Bool, false, List, [], length, Option, Some, None}
use Rattle.afp_base.specs.declared.ids.VolumeId.{VolumeId}
use Rattle.afp_outside.specs.ends.Dialer.{DialerState}
use Rattle.afp_outside.specs.ends.Link.{LinkState}
use Rattle.afp_outside.specs.ends.Sink.{SinkState}
use Rattle.afp_outside.specs.ends.Source.{SourceState}
use Rattle.afp_outside.specs.lines.Lines as Read
use Rattle.afp_outside.specs.ends.Whole.{Prints, PrintsPart}
use Rattle.afp_client.specs.links.OnLink.{Start}
use Rattle.afp_client.specs.declared.links.talk.Limit.{Limit}
use Rattle.afp_calls_grammar.specs.declared.grammar.call.Call.{Call}
use Rattle.client_script_commands.specs.parts.Parts.{Exchange}
use Rattle.client_script_run.specs.declared.asker.asker.AskEnd.{AskEnd}
use Rattle.client_script_run.specs.run.Carried.{AreCarried, Carried, exchanges_of, limits_behind, mounted_behind, printed_of, source_behind, unread_behind}
use Rattle.client_script_run.specs.run.Ends.{end_of_ask}
use Rattle.client_script_run.specs.run.Runs.{PrintsLines, Runs}
use Rattle.client_script_run.specs.run.Stops.{Stood, Stops}
use Rattle.client_script_run.specs.declared.run.ends.ClientEnd.{ClientEnd}
use Rattle.client_script_run.specs.declared.run.ends.ClientEnd.TheVariants as ends
use Rattle.client_script_run.specs.declared.run.line.Taken.{Taken}
use Rattle.client_script_run.specs.declared.run.line.Taken.TheVariants as takes

-- Why a script stops behind what came of the line of this number, where the client has ended so, and the last reply stands there; none where it
-- goes on.
abbrev pub stop_by : Taken AskEnd → Option AskEnd → ℕ → ℕ → Option ClientEnd
stop_by takes.Goes None line at = None
stop_by takes.Goes (Some end) line at = Some ends.Memory
stop_by takes.Done ended line at = Some ends.Done
stop_by takes.Cut ended line at = Some ends.WriteFault
stop_by (takes.Ended end said) None line at = Some ends.Memory
stop_by (takes.Ended end said) (Some why) line at = Some (end_of_ask why line)
stop_by (takes.BadReply said) None line at = Some (ends.BadReply at)
stop_by (takes.BadReply said) (Some end) line at = Some ends.Memory
stop_by takes.Memory ended line at = Some ends.Memory
stop_by takes.BadLine None line at = Some (ends.BadLine line)
stop_by takes.BadLine (Some end) line at = Some ends.Memory
stop_by takes.Unread ended line at = Some ends.Memory

-- What a line had said is printed, and this is the end: why the script stops, or that a write failed. Where there is no memory nothing is printed.
abbrev pub PrintsSaid : SinkState → List ℕ → ClientEnd → ClientEnd → SinkState → Type 0
PrintsSaid old said ends.Memory end new = (end ≡ ends.Memory) × (new ≡ old)
PrintsSaid old said why end new = ((end ≡ why) × Prints old said new) ⊎ ((end ≡ ends.WriteFault) × PrintsPart old said new)

-- By what came of the line: why a script stops, and what is printed of the line then.
abbrev pub StopsBy : Taken AskEnd → Option AskEnd → ℕ → ℕ → SinkState → Option ClientEnd → SinkState → Type 0
StopsBy (takes.Ended end said) (Some why) line at old stop new = (told : ClientEnd) × (stop ≡ Some told) × PrintsSaid old said (end_of_ask why line) told new
StopsBy (takes.BadReply said) None line at old stop new = (told : ClientEnd) × (stop ≡ Some told) × PrintsSaid old said (ends.BadReply at) told new
StopsBy taken ended line at old stop new = (stop ≡ stop_by taken ended line at) × (new ≡ old)

abbrev pub stood_at : List Exchange → List Call → Option AskEnd → ℕ → ℕ → List Limit → Bool → Stood
stood_at exchanges unanswered ended cost place limits closes = record { exchanges = exchanges; unanswered = unanswered; ended = ended; cost = cost; place = place; limits = limits; closes = closes }

-- These lines were carried out, and their text was printed.
pub record SoFar (turns : ℕ) (start : SourceState) (sink : SinkState) (unread : Read.Unread) (source : SourceState) (mounted : Option VolumeId) (exchanges : List Exchange) (unanswered : List Call) (ended : Option AskEnd) (limits : List Limit) (number : ℕ) (printed : SinkState) : Type 0 where
  pub carried : List Carried
  pub are : AreCarried turns start carried
  pub unread_is : unread ≡ unread_behind carried
  pub source_is : source ≡ source_behind start carried
  pub mounted_is : mounted ≡ mounted_behind carried
  pub told : exchanges ≡ exchanges_of carried
  pub answered : unanswered ≡ []
  pub live : ended ≡ None
  pub limits_are : limits ≡ limits_behind turns carried
  pub number_is : number ≡ length carried
  pub prints : Prints sink (printed_of carried) printed

-- They were, and then the script stopped.
pub record StopsLines (turns : ℕ) (start : SourceState) (sink : SinkState) (why : ClientEnd) (stood : Stood) (source : SourceState) (printed : SinkState) : Type 0 where
  pub carried : List Carried
  pub are : AreCarried turns start carried
  pub last : List ℕ
  pub stops : Stops turns start carried why last stood source
  pub prints : PrintsLines sink (printed_of carried) last why printed

-- by why it stops, where it does
abbrev pub StopsOr : ℕ → SourceState → SinkState → Option ClientEnd → Read.Unread → SourceState → Option VolumeId → List Exchange → List Call → Option AskEnd → ℕ → ℕ → List Limit → ℕ → SinkState → Type 0
StopsOr turns start sink None unread source mounted exchanges unanswered ended cost place limits number printed = SoFar turns start sink unread source mounted exchanges unanswered ended limits number printed
StopsOr turns start sink (Some why) unread source mounted exchanges unanswered ended cost place limits number printed = StopsLines turns start sink why (stood_at exchanges unanswered ended cost place limits false) source printed

-- A script ran, and the text of its lines was printed.
pub record RunsPrinted {L : Type 0} (state : L → LinkState) (turns : ℕ) (first : Start) (old : DialerState L) (start : SourceState) (sink : SinkState) (why : ClientEnd) (dialer : DialerState L) (source : SourceState) (printed : SinkState) : Type 0 where
  pub text : List ℕ
  pub last : List ℕ
  pub runs : Runs state turns first old start why text last dialer source
  pub prints : PrintsLines sink text last why printed
