-- What a run of the tool prints, and its exit status (this profile).
use Rattle.std.specs.Prelude.{◌≡◌, ◌≤◌, ◌⊎◌, ◌||◌, ℕ, ◌-◌, ◌^◌, Bool, not, true, count_by, List, [], ◌∷◌, codes, bytes_eq, if◌then◌else◌, Option, Some, None}
use Rattle.afp_outside.specs.ends.Dialer.{DialerState}
use Rattle.afp_outside.specs.ends.Link.{LinkState}
use Rattle.afp_outside.specs.ends.Sink.{SinkState}
use Rattle.afp_outside.specs.ends.Source.{SourceState}
use Rattle.capture_log.specs.Reading.{Replays}
use Rattle.capture_log.specs.declared.replay_end.ReplayEnd.{ReplayEnd}
use Rattle.afptool_lib.specs.tool.Checking.{RunsCheck}
use Rattle.afpd_lib.specs.server.Reporting.{bad_words}
use Rattle.line_words.specs.Numbers.{padded_number_in}
use Rattle.capture_made.specs.made.Making.{MakesBy, Tallies}
use Rattle.capture_made.specs.declared.made.making.MakeEnd.{MakeEnd}
use Rattle.capture_made.specs.declared.made.making.MakeEnd.TheVariants as make_ends
use Rattle.capture_made.specs.declared.made.counting.Tallied.{Tallied}
use Rattle.capture_made.specs.requests.Requests.{most_steps}
use Rattle.once_across_breaks.specs.same.Steps.{breaks_in, is_ok}
use Rattle.once_across_breaks_drill.specs.steps.Drilling.{drill_steps, undisturbed}
use Rattle.afptool_lib.specs.client.Running.{RunsScript}
use Rattle.afptool_lib.specs.client.Words.{asks_client, client_in}
use Rattle.afptool_lib.specs.declared.client.words.ClientWords.{ClientWords}
use Rattle.afptool_lib.specs.tool.Parcelling.{RunsParcel}
use Rattle.afptool_lib.specs.tool.Lines.{drill_line, replay_text, replay_status, tally_line}
use Rattle.afpd_lib.specs.server.Telling.{Tells}
use Rattle.afptool_lib.specs.declared.tool.words.Command.{Command}
use Rattle.afptool_lib.specs.declared.tool.words.Question.{Question}
use Rattle.afptool_lib.specs.declared.tool.words.Question.TheVariants.{Help, Version}
use Rattle.afptool_lib.specs.declared.tool.words.Command.TheVariants.{Replay, Check, Parcel as ParcelWord, Make, Tally, Drill}

-- the largest number that a capture is made of
abbrev pub last_number : ℕ
last_number = 2 ^ 64 - 1

-- what a word asks of a made capture, or of a drill
abbrev pub made_of : List ℕ → ℕ → ℕ → Option Command
made_of word number steps =
    if bytes_eq word (codes "make") then Some (Make number steps)
    else if bytes_eq word (codes "tally") then Some (Tally number steps)
    else if bytes_eq word (codes "drill") then Some (Drill number steps) else None

-- the same, where both numbers are spelt
abbrev pub made_in : List ℕ → Option ℕ → Option ℕ → Option Command
made_in word None steps = None
made_in word (Some number) None = None
made_in word (Some number) (Some steps) = made_of word number steps

-- what one word asks
abbrev pub command_of : List ℕ → Option Command
command_of word =
    if bytes_eq word (codes "replay") then Some Replay
    else if bytes_eq word (codes "check") then Some Check
    else if bytes_eq word (codes "parcel") then Some ParcelWord else None

-- what the words ask: one is a command, and three are one with its numbers
abbrev pub command_in : List (List ℕ) → Option Command
command_in [] = None
command_in (word ∷ []) = command_of word
command_in (word ∷ other ∷ []) = None
command_in (word ∷ number ∷ steps ∷ []) = made_in word (padded_number_in last_number number) (padded_number_in most_steps steps)
command_in (word ∷ number ∷ steps ∷ other ∷ words) = None

-- the words that ask for help, and for the version, as is usual
abbrev pub is_help : List ℕ → Bool
is_help word = bytes_eq word (codes "--help") || bytes_eq word (codes "-h")

abbrev pub is_version : List ℕ → Bool
is_version word = bytes_eq word (codes "--version") || bytes_eq word (codes "-V")

-- what the words ask to be told, by the first of them
abbrev pub question_in : List (List ℕ) → Option Question
question_in [] = None
question_in (word ∷ words) = if is_version word then Some Version else if is_help word then Some Help else None

-- a made capture has so many steps at most, and so has a drill
abbrev pub FitsSteps : Option Command → Type 0
FitsSteps None = Unit {0}
FitsSteps (Some Replay) = Unit {0}
FitsSteps (Some Check) = Unit {0}
FitsSteps (Some ParcelWord) = Unit {0}
FitsSteps (Some (Make number steps)) = steps ≤ most_steps
FitsSteps (Some (Tally number steps)) = steps ≤ most_steps
FitsSteps (Some (Drill number steps)) = steps ≤ most_steps

-- A capture is replayed: what is printed, and the status, are those of its answer.
pub record RunsReplay (turns : ℕ) (old new : SourceState) (before after : SinkState) (status : ℕ) : Type 0 where
  pub answer : ReplayEnd
  pub replays : Replays turns old answer new
  pub told : Tells (replay_text answer) (replay_status answer) before after status

-- A capture is made: it is printed, and the status is 0; or a first part of it is, and a write failed, with status 5, or there was no memory,
-- with status 6.
abbrev pub make_status : MakeEnd → ℕ
make_status make_ends.Done = 0
make_status make_ends.WriteFault = 5
make_status make_ends.Memory = 6

pub record RunsMake (number steps : ℕ) (before after : SinkState) (status : ℕ) : Type 0 where
  pub answer : MakeEnd
  pub makes : MakesBy number steps answer before after
  pub status_is : status ≡ make_status answer

-- It is counted in a made capture: the counts are printed; or there was no memory, and nothing is printed.
pub record TellsTally (number steps : ℕ) (before after : SinkState) (status : ℕ) : Type 0 where
  pub answer : Tallied
  pub tallies : Tallies number steps answer
  pub told : Tells (tally_line answer) 0 before after status

abbrev pub RunsTally : ℕ → ℕ → SinkState → SinkState → ℕ → Type 0
RunsTally number steps before after status = TellsTally number steps before after status ⊎ ((status ≡ 6) × (after ≡ before))

-- What is counted in a drill is printed: its steps, how often a link breaks in them, and how many of their calls are told Ok, and how many are not, where
-- no link breaks; or there was no memory, and nothing is printed.
unfoldable pub drill_counts : ℕ → ℕ → List ℕ
drill_counts number steps =
    drill_line steps (breaks_in (drill_steps number steps)) (count_by is_ok (undisturbed number steps)) (count_by (λ told. not (is_ok told)) (undisturbed number steps))

abbrev pub RunsDrill : ℕ → ℕ → SinkState → SinkState → ℕ → Type 0
RunsDrill number steps before after status = Tells (drill_counts number steps) 0 before after status ⊎ ((status ≡ 6) × (after ≡ before))

-- what `--version` prints
abbrev pub version_line : List ℕ
version_line = codes "afptool 0.1\n"

-- A text that is asked for is printed, with status 0; words that ask nothing are bad.
abbrev pub TellsAsked : Option Question → SinkState → SinkState → ℕ → Type 0
TellsAsked None before after status = Tells bad_words 2 before after status
TellsAsked (Some Help) before after status = (text : List ℕ) × Tells text 0 before after status
TellsAsked (Some Version) before after status = Tells version_line 0 before after status

-- what the tool does with a command that dials nothing, or with words that are none
abbrev pub RunsPlain : Option Question → Option Command → ℕ → SourceState → SourceState → SinkState → SinkState → ℕ → Type 0
RunsPlain asked None turns old new before after status = (new ≡ old) × TellsAsked asked before after status
RunsPlain asked (Some Replay) turns old new before after status = RunsReplay turns old new before after status
RunsPlain asked (Some Check) turns old new before after status = RunsCheck turns old new before after status
RunsPlain asked (Some ParcelWord) turns old new before after status = RunsParcel turns old new before after status
RunsPlain asked (Some (Make number steps)) turns old new before after status = (new ≡ old) × RunsMake number steps before after status
RunsPlain asked (Some (Tally number steps)) turns old new before after status = (new ≡ old) × RunsTally number steps before after status
RunsPlain asked (Some (Drill number steps)) turns old new before after status = (new ≡ old) × RunsDrill number steps before after status

-- A script is carried out by a client that logs in as the words say; or, where they are none of a client's, nothing is dialled.
abbrev pub RunsBy : {L : Type 0} → (L → LinkState) → Option ClientWords → Option Question → Option Command → ℕ → DialerState L → DialerState L → SourceState → SourceState → SinkState → SinkState → ℕ → Type 0
RunsBy state (Some client) asked command turns first dialer old new before after status = RunsScript state turns client.login first dialer old new before after status
RunsBy state None asked command turns first dialer old new before after status = (dialer ≡ first) × RunsPlain asked command turns old new before after status

-- There was no memory in which a client's words could be read; nothing was done.
pub record LacksMemory {L : Type 0} (words : List (List ℕ)) (first dialer : DialerState L) (old new : SourceState) (before after : SinkState) (status : ℕ) : Type 0 where
  pub asks : asks_client words ≡ true
  pub status_is : status ≡ 6
  pub dials_none : dialer ≡ first
  pub reads_none : new ≡ old
  pub prints_none : after ≡ before

-- what the tool does with the words behind its name
abbrev pub RunsTool : {L : Type 0} → (L → LinkState) → List (List ℕ) → ℕ → DialerState L → DialerState L → SourceState → SourceState → SinkState → SinkState → ℕ → Type 0
RunsTool state words turns first dialer old new before after status =
    RunsBy state (client_in words) (question_in words) (command_in words) turns first dialer old new before after status ⊎ LacksMemory words first dialer old new before after status
