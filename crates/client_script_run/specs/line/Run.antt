-- What a line of a script asks and prints (this profile).
use Rattle.std.specs.Prelude.{◌≡◌, ℕ, List, [], ◌∷◌, ◌++◌, Option, Some, None, Result, Ok, Err, codes}
use Rattle.afp_base.specs.declared.code.Code.{Code}
use Rattle.afp_base.specs.declared.code.Code.TheVariants as code
use Rattle.afp_base.specs.declared.ids.ForkRef.{ForkRef}
use Rattle.afp_base.specs.declared.ids.NodeId.{NodeId}
use Rattle.afp_base.specs.declared.ids.VolumeId.{VolumeId}
use Rattle.client_script_lines.specs.declared.lines.line.ScriptLine.{ScriptLine}
use Rattle.client_script_lines.specs.declared.lines.line.ScriptLine.TheVariants as lines
use Rattle.client_script_lines.specs.calls.Requests.{open_volume}
use Rattle.client_script_commands.specs.declared.parts.asker.Answer.{Answer}
use Rattle.client_script_commands.specs.declared.parts.asker.Stop.{Stop}
use Rattle.client_script_commands.specs.declared.parts.asker.Stop.TheVariants as stops
use Rattle.client_script_commands.specs.parts.Parts.{Asked, Exchange, Part, done, with_more, with_unanswered}
use Rattle.client_script_commands.specs.commands.Replies.{volume_in}
use Rattle.client_script_commands.specs.commands.Mount.{mount}
use Rattle.client_script_commands.specs.commands.Mkdir.{mkdir}
use Rattle.client_script_commands.specs.commands.Put.{put}
use Rattle.client_script_commands.specs.commands.Mv.{mv}
use Rattle.client_script_commands.specs.commands.Cp.{cp}
use Rattle.client_script_commands.specs.commands.Swap.{swap}
use Rattle.client_script_commands.specs.commands.Rm.{rm}
use Rattle.client_script_commands.specs.commands.Hold.{hold}
use Rattle.client_script_commands.specs.commands.Lock.{lock}
use Rattle.client_script_commands.specs.commands.Unlock.{unlock}
use Rattle.client_script_commands.specs.commands.Drop.{drop}
use Rattle.client_script_commands.specs.commands.Id.{id}
use Rattle.client_script_commands.specs.commands.Find.{find}
use Rattle.client_script_commands.specs.commands.Note.{note}
use Rattle.client_script_commands.specs.commands.Show.{show}
use Rattle.client_script_commands.specs.commands.Bye.{bye}
use Rattle.client_script_commands.specs.get.Get.{get}
use Rattle.client_script_commands.specs.ls.Ls.{entries_told, ls}
use Rattle.client_script_commands.specs.parcels.Pack.{pack}
use Rattle.client_script_commands.specs.parcels.Unpack.{unpack}
use Rattle.client_script_run.specs.line.Values.{text_of, spelt_text, number_of, path_text, directory_text, name_text}

-- a command in the volume that is mounted
abbrev pub in_volume : Option VolumeId → (VolumeId → Part) → Part
in_volume None part = done (codes "no volume")
in_volume (Some volume) part = part volume

abbrev pub fork_of : List ℕ → ForkRef
fork_of word = record { 0 = number_of word }

abbrev pub node_of : List ℕ → NodeId
node_of word = record { 0 = number_of word }

-- what a line asks and prints, where this volume is mounted
abbrev pub line_part : Option VolumeId → ScriptLine → Part
line_part mounted (lines.Mount volume) = mount (text_of volume)
line_part mounted (lines.Mkdir path) = in_volume mounted (λ volume. mkdir volume (path_text path))
line_part mounted (lines.Put path piece) = in_volume mounted (λ volume. put volume (path_text path) (text_of piece))
line_part mounted (lines.Get path) = in_volume mounted (λ volume. get volume (path_text path))
line_part mounted (lines.Ls path) = in_volume mounted (λ volume. ls volume (path_text path))
line_part mounted (lines.Mv path target) = in_volume mounted (λ volume. mv volume (path_text path) (directory_text target) (name_text target))
line_part mounted (lines.Cp path target) = in_volume mounted (λ volume. cp volume (path_text path) (directory_text target) (name_text target))
line_part mounted (lines.Swap path target) = in_volume mounted (λ volume. swap volume (path_text path) (path_text target))
line_part mounted (lines.Rm path) = in_volume mounted (λ volume. rm volume (path_text path))
line_part mounted (lines.Hold path) = in_volume mounted (λ volume. hold volume (path_text path))
line_part mounted (lines.Lock reference from size) = lock (fork_of reference) (number_of from) (number_of size)
line_part mounted (lines.Unlock reference from size) = unlock (fork_of reference) (number_of from) (number_of size)
line_part mounted (lines.Drop reference) = drop (fork_of reference)
line_part mounted (lines.Id path) = in_volume mounted (λ volume. id volume (path_text path))
line_part mounted (lines.Find node) = in_volume mounted (λ volume. find volume (node_of node))
line_part mounted (lines.Note path text) = in_volume mounted (λ volume. note volume (path_text path) (text_of text))
line_part mounted (lines.Show path) = in_volume mounted (λ volume. show volume (path_text path))
line_part mounted (lines.Pack path) = in_volume mounted (λ volume. pack volume (path_text path))
line_part mounted (lines.Unpack path piece) = in_volume mounted (λ volume. unpack volume (path_text path) (spelt_text piece))
line_part mounted lines.Bye = bye

-- what a list in the volume that is mounted said, by the exchanges of its calls
abbrev pub said_in : Option VolumeId → List Exchange → List ℕ
said_in None exchanges = []
said_in (Some volume) exchanges = entries_told exchanges

-- What a line that stops in its middle said, by the exchanges of its calls: of a list the entries of each that was told; no other line says a thing before its last answer.
abbrev pub said_by : Option VolumeId → ScriptLine → List Exchange → List ℕ
said_by mounted (lines.Ls path) exchanges = said_in mounted exchanges
said_by mounted line exchanges = []

-- the volume that an answer opens, or the one before
abbrev pub volume_told : Option VolumeId → Code → Option VolumeId → Option VolumeId
volume_told before code.Ok (Some volume) = Some volume
volume_told before code.Ok None = before
volume_told before c found = before

abbrev pub volume_by : Option VolumeId → List Exchange → Option VolumeId
volume_by before [] = before
volume_by before (x ∷ exchanges) = volume_told before x.answer.code (volume_in x.answer.reply)

-- the volume that is mounted behind a line, by the exchanges of its calls: the last one that was opened
abbrev pub mounted_by : Option VolumeId → ScriptLine → List Exchange → Option VolumeId
mounted_by before (lines.Mount volume) exchanges = volume_by before exchanges
mounted_by before line exchanges = before

-- that volume, where the line's exchanges stand behind those before it
abbrev pub Mounts : {F : Type 0} → Option VolumeId → ScriptLine → Asked F → Asked F → Option VolumeId → Type 0
Mounts old line before after new = (exchanges : List Exchange) → after.exchanges ≡ before.exchanges ++ exchanges → new ≡ mounted_by old line exchanges

-- what the answer to FPOpenVol tells
abbrev pub opened_by : {E : Type 0} → Code → Option VolumeId → Result VolumeId (Stop E)
opened_by code.Ok (Some volume) = Ok volume
opened_by code.Ok None = Err stops.BadReply
opened_by c found = Err (stops.Refused c)

-- the answer to FPOpenVol, which is logged
pub record IsTold {E F : Type 0} (name : List ℕ) (before : Asked F) (result : Result VolumeId (Stop E)) (after : Asked F) : Type 0 where
  pub answer : Answer
  pub log : after ≡ with_more before ((record { call = open_volume name; answer = answer }) ∷ [])
  pub is : result ≡ opened_by answer.code (volume_in answer.reply)

-- FPOpenVol was told this; or it got no answer; or it was not asked, for want of memory
abbrev pub OpensVolume : {E F : Type 0} → List ℕ → Asked F → Result VolumeId (Stop E) → Asked F → Type 0
OpensVolume {E} name before (Ok volume) after = IsTold {E = E} name before (Ok volume) after
OpensVolume {E} name before (Err (stops.Refused c)) after = IsTold {E = E} name before (Err (stops.Refused c)) after
OpensVolume {E} name before (Err stops.BadReply) after = IsTold {E = E} name before (Err stops.BadReply) after
OpensVolume name before (Err (stops.Ended end)) after = after ≡ with_unanswered before (open_volume name)
OpensVolume name before (Err stops.Memory) after = after ≡ before
