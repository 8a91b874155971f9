-- How a script's lines are carried out (this profile).
use Rattle.std.specs.Prelude.{◌≡◌, ℕ, List, ◌++◌, Option, Some, None}
use Rattle.afp_base.specs.declared.code.Code.{Code}
use Rattle.afp_base.specs.declared.ids.VolumeId.{VolumeId}
use Rattle.afp_outside.specs.ends.Sink.{SinkState}
use Rattle.afp_outside.specs.ends.Whole.{Prints, PrintsPart}
use Rattle.client_script_lines.specs.lines.Lines.{line_in}
use Rattle.client_script_lines.specs.declared.lines.line.ScriptLine.{ScriptLine}
use Rattle.client_script_lines.specs.declared.lines.line.ScriptLine.TheVariants as lines
use Rattle.client_script_lines.specs.texts.Texts.{error_text, newline}
use Rattle.client_script_commands.specs.parts.Parts.{Asked, Exchange, Lacks, Leads, Part, Runs, Waits, bad, done, refuses, with_more}
use Rattle.client_script_run.specs.line.Run.{line_part, mounted_by, said_by}
use Rattle.client_script_run.specs.declared.run.line.Printed.{Printed}
use Rattle.client_script_run.specs.declared.run.line.Printed.TheVariants as prints
use Rattle.client_script_run.specs.declared.run.line.Taken.{Taken}
use Rattle.client_script_run.specs.declared.run.line.Taken.TheVariants as takes

-- What the calls of a line were told leads to this text: its own, or a refusal.
pub data Says (part : Part) (exchanges : List Exchange) (text : List ℕ) : Type 0 where
  own : Leads part exchanges (done text) → Says part exchanges text
  refusal : (c : Code) → Leads part exchanges (refuses c) → text ≡ error_text c → Says part exchanges text

-- A line was carried out: its calls were told these, they lead to this text, and this volume is mounted then.
pub record CarriesOut {F : Type 0} (mounted : Option VolumeId) (line : ScriptLine) (before : Asked F) (text : List ℕ) (now : Option VolumeId) (after : Asked F) : Type 0 where
  pub exchanges : List Exchange
  pub log : after ≡ with_more before exchanges
  pub says : Says (line_part mounted line) exchanges text
  pub mounts : now ≡ mounted_by mounted line exchanges

-- the script goes on behind it: it is no bye, or a bye that was refused
abbrev pub GoesBehind : {part : Part} {exchanges : List Exchange} {text : List ℕ} → ScriptLine → Says part exchanges text → Type 0
GoesBehind lines.Bye (own leads) = ⊥
GoesBehind line says = Unit {0}

-- It was carried out and printed, and the script goes on.
pub record TakesOn {F : Type 0} (mounted : Option VolumeId) (line : ScriptLine) (before : Asked F) (old : SinkState) (now : Option VolumeId) (after : Asked F) (new : SinkState) : Type 0 where
  pub text : List ℕ
  pub carried : CarriesOut mounted line before text now after
  pub printed : Prints old (text ++ newline) new
  pub goes : GoesBehind line carried.says

-- It was a bye that was answered Ok, and was printed.
pub record TakesBye {F : Type 0} (mounted : Option VolumeId) (line : ScriptLine) (before : Asked F) (old : SinkState) (now : Option VolumeId) (after : Asked F) (new : SinkState) : Type 0 where
  pub bye : line ≡ lines.Bye
  pub text : List ℕ
  pub carried : CarriesOut mounted line before text now after
  pub own : Leads (line_part mounted line) carried.exchanges (done text)
  pub printed : Prints old (text ++ newline) new

-- It was carried out, and a write of its text failed.
pub record TakesCut {F : Type 0} (mounted : Option VolumeId) (line : ScriptLine) (before : Asked F) (old : SinkState) (now : Option VolumeId) (after : Asked F) (new : SinkState) : Type 0 where
  pub text : List ℕ
  pub carried : CarriesOut mounted line before text now after
  pub printed : PrintsPart old (text ++ newline) new

-- A line that has one of the forms, by what comes of it: else nothing is printed of it. Where it stops in its middle, this is what it had said.
abbrev pub TakesLine : {E F : Type 0} → Option VolumeId → ScriptLine → Asked F → SinkState → Taken E → Option VolumeId → Asked F → SinkState → Type 0
TakesLine mounted line before old takes.Goes now after new = TakesOn mounted line before old now after new
TakesLine mounted line before old takes.Done now after new = TakesBye mounted line before old now after new
TakesLine mounted line before old takes.Cut now after new = TakesCut mounted line before old now after new
TakesLine mounted line before old (takes.Ended end said) now after new = (w : Waits before (line_part mounted line) after) × (said ≡ said_by mounted line w.runs.exchanges) × (new ≡ old)
TakesLine mounted line before old (takes.BadReply said) now after new = (r : Runs before (line_part mounted line) bad after) × (said ≡ said_by mounted line r.exchanges) × (new ≡ old)
TakesLine mounted line before old takes.Memory now after new = Lacks before (line_part mounted line) after × (new ≡ old)
TakesLine mounted line before old takes.BadLine now after new = ⊥
TakesLine mounted line before old takes.Unread now after new = ⊥

-- its bytes have one of the forms
pub record TakesRead {E F : Type 0} (mounted : Option VolumeId) (text : List ℕ) (before : Asked F) (old : SinkState) (taken : Taken E) (now : Option VolumeId) (after : Asked F) (new : SinkState) : Type 0 where
  pub line : ScriptLine
  pub reads : line_in text ≡ Some line
  pub takes : TakesLine mounted line before old taken now after new

-- The bytes of a line: it was taken; or it has none of the forms, or there was no memory to read it, and nothing is asked and printed.
abbrev pub TakesText : {E F : Type 0} → Option VolumeId → List ℕ → Asked F → SinkState → Taken E → Option VolumeId → Asked F → SinkState → Type 0
TakesText mounted text before old takes.BadLine now after new = (line_in text ≡ None) × (after ≡ before) × (new ≡ old)
TakesText mounted text before old takes.Unread now after new = (after ≡ before) × (new ≡ old)
TakesText mounted text before old taken now after new = TakesRead mounted text before old taken now after new

-- by what a print comes to
abbrev pub PrintsTold : List ℕ → SinkState → Printed → SinkState → Type 0
PrintsTold text old prints.All new = Prints old (text ++ newline) new
PrintsTold text old prints.Part new = PrintsPart old (text ++ newline) new
PrintsTold text old prints.Nothing new = new ≡ old
