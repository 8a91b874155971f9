-- One list, and all lists, over whatever follows.
use Rattle.std.specs.Prelude.{◌≡◌, ℕ, ◌+◌, Bool, true, false, List, [], ◌∷◌, ◌++◌, length, Option, Some, None, Result, Ok, Err, codes}
use Rattle.afp_base.specs.declared.ids.VolumeId.{VolumeId}
use Rattle.afp_calls_grammar.specs.declared.grammar.call.Call.{Call}
use Rattle.afp_replies.specs.declared.list.ListEntry.{ListEntry}
use Rattle.client_script_lines.specs.texts.Texts.{error_text, numbered}
use Rattle.client_script_commands.specs.declared.parts.asker.Answer.{Answer}
use Rattle.client_script_commands.specs.declared.parts.asker.Stop.{Stop}
use Rattle.client_script_commands.specs.declared.parts.asker.Stop.TheVariants as stops
use Rattle.client_script_commands.specs.parts.Parts.{Asked, Comes, Exchange, done, with_more, with_unanswered}
use Rattle.client_script_commands.specs.parts.Told.{Carries}
use Rattle.client_script_commands.specs.declared.ls.ls.Page.{Page}
use Rattle.client_script_commands.specs.declared.ls.ls.Page.TheVariants.{Listed, Ended, Refused}
use Rattle.client_script_commands.specs.ls.Ls.{entries_told, lists, lists_behind, rows_text}

-- a call was answered, and is logged with its answer; or it was not, and is logged so
abbrev pub Logs : {E F : Type 0} → Call → Asked F → Result Answer (Stop E) → Asked F → Type 0
Logs call before (Ok answer) after = after ≡ with_more before ((record { call = call; answer = answer }) ∷ [])
Logs call before (Err stop) after = after ≡ with_unanswered before call

-- the lines of a list's entries were appended, and it has so many; or there is no list, and nothing was
abbrev pub PutsList : Option (List ListEntry) → List ℕ → List ℕ → Option ℕ → Type 0
PutsList None old new size = (size ≡ None) × (new ≡ old)
PutsList (Some rows) old new size = (size ≡ Some (length rows)) × (new ≡ old ++ rows_text rows)

-- one list
abbrev pub ListsPage : {E F : Type 0} → VolumeId → List ℕ → ℕ → List ℕ → Asked F → Result Page (Stop E) → List ℕ → Asked F → Type 0
ListsPage {E} volume path count text before (Ok (Listed size)) now after = Carries E before (lists volume path count text) after (lists_behind volume path (count + size) now)
ListsPage {E} volume path count text before (Ok Ended) now after = (now ≡ text) × Carries E before (lists volume path count text) after (done (text ++ numbered (codes "listed ") count))
ListsPage {E} volume path count text before (Ok (Refused c)) now after = (now ≡ text) × Carries E before (lists volume path count text) after (done (text ++ error_text c))
ListsPage volume path count text before (Err stop) now after = Comes before (lists volume path count text) (Err stop) after

-- the same, with what stands behind it: there may be more, or this is the text
abbrev pub ListsOnce : {E F : Type 0} → VolumeId → List ℕ → ℕ → List ℕ → Asked F → Result Bool (Stop E) → ℕ → List ℕ → Asked F → Type 0
ListsOnce {E} volume path count text before (Ok true) count_now now after = Carries E before (lists volume path count text) after (lists volume path count_now now)
ListsOnce {E} volume path count text before (Ok false) count_now now after = Carries E before (lists volume path count text) after (done now)
ListsOnce volume path count text before (Err stop) count_now now after = Comes before (lists volume path count text) (Err stop) after

-- Behind these answers the text has, behind what it had, the lines of the entries that they tell.
abbrev pub Shows : {F : Type 0} → Asked F → List ℕ → List ℕ → Asked F → Type 0
Shows before text now after = (exchanges : List Exchange) × (after.exchanges ≡ before.exchanges ++ exchanges) × (now ≡ text ++ entries_told exchanges)

-- the same where there is no more to list, but for want of memory
abbrev pub ShowsAt : {E F : Type 0} → Asked F → List ℕ → Stop E → List ℕ → Asked F → Type 0
ShowsAt before text stops.Memory now after = Unit {0}
ShowsAt before text stop now after = Shows before text now after

abbrev pub ShowsPage : {E F : Type 0} → Asked F → List ℕ → Result Page (Stop E) → List ℕ → Asked F → Type 0
ShowsPage before text (Ok page) now after = Shows before text now after
ShowsPage before text (Err stop) now after = ShowsAt before text stop now after

-- the same where the text is not whole
abbrev pub ShowsOnce : {E F : Type 0} → Asked F → List ℕ → Result Bool (Stop E) → List ℕ → Asked F → Type 0
ShowsOnce before text (Ok true) now after = Shows before text now after
ShowsOnce before text (Ok false) now after = Unit {0}
ShowsOnce before text (Err stop) now after = ShowsAt before text stop now after
