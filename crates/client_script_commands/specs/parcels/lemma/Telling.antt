-- What the parts of a command do, told over every part that follows.
use Rattle.std.specs.Prelude.{ℕ, ◌≤◌, ◌<◌, List, length, Option, Result, Ok, Err, IfSome}
use Rattle.afp_base.specs.declared.ids.VolumeId.{VolumeId}
use Rattle.afp_calls_grammar.specs.declared.grammar.call.Call.{Call}
use Rattle.apple_double.specs.declared.parcel.Parcel.{Parcel}
use Rattle.client_script_lines.specs.calls.Places.{longest_place}
use Rattle.client_script_commands.specs.declared.parts.asker.Stop.{Stop}
use Rattle.client_script_commands.specs.parts.Parts.{Asked, Comes, Part}
use Rattle.client_script_commands.specs.parts.Told.{Carries}
use Rattle.client_script_commands.specs.parcels.Comments.{ask_comment, comment_at}
use Rattle.client_script_commands.specs.parcels.Unpack.{write_comment, write_fork, write_whole}

abbrev pub AsksComment : {E F : Type 0} → Call → Asked F → Result (Option (List ℕ)) (Stop E) → Asked F → Type 0
AsksComment {E} call before (Ok comment) after = (next : Option (List ℕ) → Part) → Carries E before (ask_comment call next) after (next comment)
AsksComment call before (Err stop) after = (next : Option (List ℕ) → Part) → Comes before (ask_comment call next) (Err stop) after

abbrev pub FindsComment : {E F : Type 0} → VolumeId → List ℕ → Asked F → Result (Option (List ℕ)) (Stop E) → Asked F → Type 0
FindsComment {E} volume path before (Ok comment) after = (next : Option (List ℕ) → Part) → Carries E before (comment_at volume path next) after (next comment)
FindsComment volume path before (Err stop) after = (next : Option (List ℕ) → Part) → Comes before (comment_at volume path next) (Err stop) after

abbrev pub WritesWhole : {E F : Type 0} → Call → List ℕ → Asked F → Result (Unit {0}) (Stop E) → Asked F → Type 0
WritesWhole {E} opens piece before (Ok done) after = (next : Part) → Carries E before (write_whole opens piece next) after next
WritesWhole opens piece before (Err stop) after = (next : Part) → Comes before (write_whole opens piece next) (Err stop) after

abbrev pub WritesFork : {E F : Type 0} → Call → List ℕ → Asked F → Result (Unit {0}) (Stop E) → Asked F → Type 0
WritesFork {E} opens piece before (Ok done) after = (next : Part) → Carries E before (write_fork opens piece next) after next
WritesFork opens piece before (Err stop) after = (next : Part) → Comes before (write_fork opens piece next) (Err stop) after

abbrev pub WritesComment : {E F : Type 0} → VolumeId → List ℕ → Option (List ℕ) → Asked F → Result (Unit {0}) (Stop E) → Asked F → Type 0
WritesComment {E} volume path comment before (Ok done) after = (next : Part) → Carries E before (write_comment volume path comment next) after next
WritesComment volume path comment before (Err stop) after = (next : Part) → Comes before (write_comment volume path comment next) (Err stop) after

-- what a parcel of a script's line has: its parts fit a request each
pub record FitsLine (p : Parcel) : Type 0 where
  pub data_fork : length p.data_fork ≤ longest_place
  pub resource_fork : length p.resource_fork ≤ longest_place
  pub comment : IfSome p.comment (λ text. length text < 256)
