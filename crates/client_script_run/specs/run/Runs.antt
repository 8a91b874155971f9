-- A script's client, from its opening to its end (this profile).
use Rattle.std.specs.Prelude.{◌≡◌, ◌⊎◌, ℕ, Bool, true, false, List, [], ◌++◌, None}
use Rattle.afp_client.specs.session.State.{Client}
use Rattle.afp_client.specs.declared.session.login.Login.{Login}
use Rattle.afp_client.specs.declared.session.stage.Stage.TheVariants as stages
use Rattle.afp_outside.specs.ends.Dialer.{DialerState}
use Rattle.afp_outside.specs.ends.Link.{LinkState}
use Rattle.afp_outside.specs.ends.Sink.{SinkState}
use Rattle.afp_outside.specs.ends.Source.{SourceState}
use Rattle.afp_outside.specs.ends.Whole.{Prints, PrintsPart}
use Rattle.afp_client.specs.links.OnLink.{Start}
use Rattle.client_script_run.specs.asker.Standing.{Finishes, HasClosed, OpensNone, first_of}
use Rattle.client_script_run.specs.declared.asker.asker.AskEnd.{AskEnd}
use Rattle.client_script_run.specs.run.Carried.{AreCarried, Carried, printed_of}
use Rattle.client_script_run.specs.run.Ends.{end_of_ask, last_line}
use Rattle.client_script_run.specs.run.Stops.{Stood, Stops}
use Rattle.client_script_run.specs.declared.run.ends.ClientEnd.{ClientEnd}
use Rattle.client_script_run.specs.declared.run.ends.ClientEnd.TheVariants as ends

-- the client before its first link
abbrev pub first_client : Login → Client
first_client login = record {
  state = record { login = login; stage = stages.Unlinked; token = None; waiting = None; next_id = 0 };
  held = record { place = 0; rest = [] };
}

-- Its links, where the script stops: the session was closed, or its link was left in silence, or its links had ended. All are handed back.
abbrev pub LeavesLinks : {L : Type 0} → (L → LinkState) → Start → DialerState L → Stood → Bool → DialerState L → Type 0
LeavesLinks state first old stood true dialer = HasClosed state first old stood.limits stood.exchanges stood.cost dialer
LeavesLinks state first old stood false dialer = Finishes state first old stood.limits stood.exchanges stood.unanswered stood.ended stood.cost stood.place dialer

-- A client was opened. These lines were carried out, with this text; and then the script stopped, and this was to be printed of the line where it did.
pub record RunsLines {L : Type 0} (state : L → LinkState) (turns : ℕ) (first : Start) (old : DialerState L) (start : SourceState) (why : ClientEnd) (text last : List ℕ) (dialer : DialerState L) (source : SourceState) : Type 0 where
  pub carried : List Carried
  pub are : AreCarried turns start carried
  pub text_is : text ≡ printed_of carried
  pub stood : Stood
  pub stops : Stops turns start carried why last stood source
  pub leaves : LeavesLinks state first old stood stood.closes dialer

-- No client was opened: nothing was read, and nothing was to be printed. A session that is lost then is so while line 1 is due.
pub record RunsNone {L : Type 0} (state : L → LinkState) (turns : ℕ) (first : Start) (old : DialerState L) (start : SourceState) (why : ClientEnd) (text last : List ℕ) (dialer : DialerState L) (source : SourceState) : Type 0 where
  pub end : AskEnd
  pub opens : OpensNone state turns first old end dialer
  pub is : why ≡ end_of_ask end 1
  pub unread : source ≡ start
  pub prints : text ≡ []
  pub nothing : last ≡ []

-- The script stopped for this, behind lines with this text; and this was to be printed of the line where it did.
abbrev pub Runs : {L : Type 0} → (L → LinkState) → ℕ → Start → DialerState L → SourceState → ClientEnd → List ℕ → List ℕ → DialerState L → SourceState → Type 0
Runs state turns first old start why text last dialer source = RunsNone state turns first old start why text last dialer source ⊎ RunsLines state turns first old start why text last dialer source

-- All of a text was printed, and a first part of what stands behind it: a write of that failed.
pub record PrintsCut (old : SinkState) (text cut : List ℕ) (new : SinkState) : Type 0 where
  pub mid : SinkState
  pub whole : Prints old text mid
  pub part : PrintsPart mid cut new

-- The text of the lines was printed, and that of the line where the script stopped; or it stopped at a write that failed, of that line's.
abbrev pub PrintsLines : SinkState → List ℕ → List ℕ → ClientEnd → SinkState → Type 0
PrintsLines old text last ends.WriteFault new = PrintsCut old text last new
PrintsLines old text last why new = Prints old (text ++ last) new

-- what was printed before a write that failed, and what was cut: what the line where the script stopped was to print, or the last line
abbrev pub whole_of : List ℕ → List ℕ → ClientEnd → List ℕ
whole_of text last ends.WriteFault = text
whole_of text last why = text ++ last

abbrev pub cut_of : List ℕ → ClientEnd → List ℕ
cut_of last ends.WriteFault = last
cut_of last why = last_line why

-- And the last line, by how the client ended: all of it; or a write failed.
abbrev pub PrintsWhole : SinkState → List ℕ → List ℕ → ClientEnd → ClientEnd → SinkState → Type 0
PrintsWhole old text last why ends.WriteFault new = PrintsCut old (whole_of text last why) (cut_of last why) new
PrintsWhole old text last why end new = (end ≡ why) × Prints old ((text ++ last) ++ last_line why) new

-- A script was carried out: why it stopped, the text of its lines and of that where it stopped, and what was printed. It ends for why it stopped, or
-- by a write that failed.
pub record RunsClient {L : Type 0} (state : L → LinkState) (turns : ℕ) (login : Login) (old : DialerState L) (start : SourceState) (sink : SinkState) (end : ClientEnd) (dialer : DialerState L) (source : SourceState) (printed : SinkState) : Type 0 where
  pub why : ClientEnd
  pub text : List ℕ
  pub last : List ℕ
  pub runs : Runs state turns (first_of (first_client login) turns) old start why text last dialer source
  pub prints : PrintsWhole sink text last why end printed
