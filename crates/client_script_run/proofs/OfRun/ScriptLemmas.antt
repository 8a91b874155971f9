-- What comes of a line.
use Rattle.std.proofs.Common.{◌≡◌, ℕ, List, [], ◌++◌, Option, Some, Ok, Err, refl, ap, ◌∙◌}
use Rattle.afp_base.specs.declared.code.Code.{Code}
use Rattle.afp_base.specs.declared.ids.VolumeId.{VolumeId}
use Rattle.afp_outside.specs.ends.Sink.{SinkState}
use Rattle.afp_outside.specs.ends.Whole.{Prints, PrintsPart}
use Rattle.client_script_lines.specs.declared.lines.line.ScriptLine.{ScriptLine}
use Rattle.client_script_lines.specs.declared.lines.line.ScriptLine.TheVariants as lines
use Rattle.client_script_lines.specs.texts.Texts.{error_text, newline}
use Rattle.client_script_commands.specs.declared.parts.asker.Stop.TheVariants as stops
use Rattle.client_script_commands.specs.parts.Parts.{Asked, Comes, Exchange, Lacks, Leads, Part, Runs, Waits, bad, done, refuses, with_more}
use Rattle.client_script_commands.specs.ls.Ls.{IsSaid}
use Rattle.client_script_run.specs.line.Run.{Mounts, line_part, said_by}
use Rattle.client_script_run.specs.run.Script.{GoesBehind, TakesBye, TakesCut, TakesLine, TakesOn, TakesText, own, refusal}
use Rattle.client_script_run.specs.declared.run.line.Taken.{Taken}
use Rattle.client_script_run.specs.declared.run.line.Taken.TheVariants as takes
use Rattle.client_script_lines.specs.lines.Lines.{line_in}

goes-own : (part : Part) (exchanges : List Exchange) (text : List ℕ) (line : ScriptLine) (leads : Leads part exchanges (done text)) → (line ≡ lines.Bye → ⊥) → GoesBehind {part = part} {exchanges = exchanges} {text = text} line (own leads)
goes-own part exchanges text lines.Bye leads h = absurd (h refl)
goes-own part exchanges text line leads h = tt

goes-refused : (part : Part) (exchanges : List Exchange) (line : ScriptLine) (c : Code) (leads : Leads part exchanges (refuses c)) → GoesBehind {part = part} {exchanges = exchanges} {text = error_text c} line (refusal c leads refl)
goes-refused part exchanges lines.Bye c leads = tt
goes-refused part exchanges line c leads = tt

-- the exchanges of a log that has more of them
log-more : {F : Type 0} (before after : Asked F) (xs : List Exchange) → after ≡ with_more before xs → after.exchanges ≡ before.exchanges ++ xs
log-more {F} before after xs log = ap (λ (a : Asked F). a.exchanges) log

pub takes_on : (E : Type 0) {F : Type 0} (mounted now : Option VolumeId) (line : ScriptLine) (before after : Asked F) (text : List ℕ) (old new : SinkState) → Comes {E = E} before (line_part mounted line) (Ok text) after
    → Mounts mounted line before after now → Prints old (text ++ newline) new → (line ≡ lines.Bye → ⊥) → TakesOn mounted line before old now after new
unfolding Comes
takes_on E mounted now line before after text old new runs mounts prints other = record {
  text = text;
  carried = record { exchanges = runs.exchanges; log = runs.log; says = own runs.leads; mounts = mounts runs.exchanges (log-more before after runs.exchanges runs.log) };
  printed = prints;
  goes = goes-own (line_part mounted line) runs.exchanges text line runs.leads other;
}

pub takes_refused : (E : Type 0) {F : Type 0} (mounted now : Option VolumeId) (line : ScriptLine) (before after : Asked F) (c : Code) (old new : SinkState) → Comes {E = E} before (line_part mounted line) (Err (stops.Refused c)) after
    → Mounts mounted line before after now → Prints old (error_text c ++ newline) new → TakesOn mounted line before old now after new
unfolding Comes
takes_refused E mounted now line before after c old new runs mounts prints = record {
  text = error_text c;
  carried = record { exchanges = runs.exchanges; log = runs.log; says = refusal c runs.leads refl; mounts = mounts runs.exchanges (log-more before after runs.exchanges runs.log) };
  printed = prints;
  goes = goes-refused (line_part mounted line) runs.exchanges line c runs.leads;
}

pub takes_bye : (E : Type 0) {F : Type 0} (mounted now : Option VolumeId) (line : ScriptLine) (before after : Asked F) (text : List ℕ) (old new : SinkState) → Comes {E = E} before (line_part mounted line) (Ok text) after
    → Mounts mounted line before after now → Prints old (text ++ newline) new → line ≡ lines.Bye → TakesBye mounted line before old now after new
unfolding Comes
takes_bye E mounted now line before after text old new runs mounts prints bye = record {
  bye = bye;
  text = text;
  carried = record { exchanges = runs.exchanges; log = runs.log; says = own runs.leads; mounts = mounts runs.exchanges (log-more before after runs.exchanges runs.log) };
  own = runs.leads;
  printed = prints;
}

pub takes_cut : (E : Type 0) {F : Type 0} (mounted now : Option VolumeId) (line : ScriptLine) (before after : Asked F) (text : List ℕ) (old new : SinkState) → Comes {E = E} before (line_part mounted line) (Ok text) after
    → Mounts mounted line before after now → PrintsPart old (text ++ newline) new → TakesCut mounted line before old now after new
unfolding Comes
takes_cut E mounted now line before after text old new runs mounts prints = record {
  text = text;
  carried = record { exchanges = runs.exchanges; log = runs.log; says = own runs.leads; mounts = mounts runs.exchanges (log-more before after runs.exchanges runs.log) };
  printed = prints;
}

pub cut_refused : (E : Type 0) {F : Type 0} (mounted now : Option VolumeId) (line : ScriptLine) (before after : Asked F) (c : Code) (old new : SinkState) → Comes {E = E} before (line_part mounted line) (Err (stops.Refused c)) after
    → Mounts mounted line before after now → PrintsPart old (error_text c ++ newline) new → TakesCut mounted line before old now after new
unfolding Comes
cut_refused E mounted now line before after c old new runs mounts prints = record {
  text = error_text c;
  carried = record { exchanges = runs.exchanges; log = runs.log; says = refusal c runs.leads refl; mounts = mounts runs.exchanges (log-more before after runs.exchanges runs.log) };
  printed = prints;
}

-- it was not
lacks-behind : {F : Type 0} (before after : Asked F) (part left : Part) → Runs before part left after → Lacks before part after
lacks-behind before after part left runs = record { left = left; mid = after; runs = runs; fixed = refl; exchanges = refl }

pub lacks_all : (E : Type 0) {F : Type 0} (before after : Asked F) (part : Part) (old new : SinkState) → Comes {E = E} before part (Err stops.Memory) after → new ≡ old → Lacks before part after × (new ≡ old)
unfolding Comes
lacks_all E before after part old new lacks same = (lacks, same)

pub lacks_own : (E : Type 0) {F : Type 0} (before after : Asked F) (part : Part) (text : List ℕ) (old new : SinkState) → Comes {E = E} before part (Ok text) after → new ≡ old → Lacks before part after × (new ≡ old)
unfolding Comes
lacks_own E before after part text old new runs same = (lacks-behind before after part (done text) runs, same)

pub lacks_refused : (E : Type 0) {F : Type 0} (before after : Asked F) (part : Part) (c : Code) (old new : SinkState) → Comes {E = E} before part (Err (stops.Refused c)) after → new ≡ old → Lacks before part after × (new ≡ old)
unfolding Comes
lacks_refused E before after part c old new runs same = (lacks-behind before after part (refuses c) runs, same)

-- it stops in its middle, and this is what it had said
pub takes_wait : {E F : Type 0} (mounted : Option VolumeId) (line : ScriptLine) (before after : Asked F) (end : E) (none said : List ℕ) (old : SinkState) → Comes before (line_part mounted line) (Err (stops.Ended end)) after
    → IsSaid {E = E} (said_by mounted line) before none (Err (stops.Ended end)) said after → none ≡ [] → (w : Waits before (line_part mounted line) after) × (said ≡ said_by mounted line w.runs.exchanges) × (old ≡ old)
unfolding Comes
takes_wait mounted line before after end none said old w s is =
    (w, s tt w.runs.exchanges (ap (λ (a : Asked _). a.exchanges) w.waits ∙ log-more before w.mid w.runs.exchanges w.runs.log) ∙ ap (λ (t : List ℕ). t ++ said_by mounted line w.runs.exchanges) is, refl)

pub takes_bad : (E : Type 0) {F : Type 0} (mounted : Option VolumeId) (line : ScriptLine) (before after : Asked F) (none said : List ℕ) (old : SinkState) → Comes {E = E} before (line_part mounted line) (Err stops.BadReply) after
    → IsSaid {E = E} (said_by mounted line) before none (Err stops.BadReply) said after → none ≡ [] → (r : Runs before (line_part mounted line) bad after) × (said ≡ said_by mounted line r.exchanges) × (old ≡ old)
unfolding Comes
takes_bad E mounted line before after none said old r s is =
    (r, s tt r.exchanges (log-more before after r.exchanges r.log) ∙ ap (λ (t : List ℕ). t ++ said_by mounted line r.exchanges) is, refl)

-- a line that has one of the forms
pub text_taken : {E F : Type 0} (mounted : Option VolumeId) (text : List ℕ) (before : Asked F) (old : SinkState) (taken : Taken E) (now : Option VolumeId) (after : Asked F) (new : SinkState) (line : ScriptLine)
    → line_in text ≡ Some line → TakesLine mounted line before old taken now after new → TakesText mounted text before old taken now after new
text_taken mounted text before old takes.BadLine now after new line reads t = absurd t
text_taken mounted text before old takes.Unread now after new line reads t = absurd t
text_taken mounted text before old taken now after new line reads t = record { line = line; reads = reads; takes = t }
