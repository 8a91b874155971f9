-- ls PATH: lists of a directory until there are no more entries (this profile).
use Rattle.std.specs.Prelude.{◌≡◌, ℕ, ◌+◌, ◌^◌, nat_lt, if◌then◌else◌, List, [], ◌∷◌, ◌++◌, length, Option, Some, None, Result, Err, codes}
use Rattle.afp_base.specs.declared.code.Code.{Code}
use Rattle.afp_base.specs.declared.code.Code.TheVariants as code
use Rattle.afp_base.specs.declared.ids.VolumeId.{VolumeId}
use Rattle.afp_bitmap.specs.declared.params.Values.{Values}
use Rattle.afp_bitmap.specs.declared.params.Values.TheVariants.{Volume, File, Dir}
use Rattle.afp_replies.specs.declared.list.ListEntry.{ListEntry}
use Rattle.afp_replies.specs.declared.reply.Reply.{Reply}
use Rattle.afp_replies.specs.declared.reply.Reply.TheVariants as replies
use Rattle.client_script_lines.specs.calls.Requests.{list}
use Rattle.client_script_lines.specs.texts.Texts.{entry_line, error_text, numbered}
use Rattle.client_script_commands.specs.declared.parts.asker.Stop.{Stop}
use Rattle.client_script_commands.specs.declared.parts.asker.Stop.TheVariants as stops
use Rattle.client_script_commands.specs.parts.Parts.{Asked, Exchange, Next, asks, bad_reply, Part, done}

-- the entries of a list
abbrev pub rows_in : Reply → Option (List ListEntry)
rows_in (replies.List wide file_bits dir_bits rows) = Some rows
rows_in reply = None

-- the line of an entry, a file or a directory
abbrev pub node_line : Values → List ℕ
node_line (File values) = entry_line (codes "file ") values.id values.utf8_name
node_line (Dir values) = entry_line (codes "dir ") values.id values.utf8_name
node_line (Volume values) = []

unfoldable pub rows_text : List ListEntry → List ℕ
rows_text [] = []
rows_text (row ∷ rows) = node_line row.values ++ rows_text rows

-- what the next list leads to, where it may begin behind so many entries (a number of 4 bytes)
abbrev pub if_within : ℕ → Next → Next
if_within count more = if nat_lt (count + 1) (2 ^ 32) then more else bad_reply

-- what follows the entries of a list
abbrev pub by_rows : Option (List ListEntry) → (List ListEntry → Next) → Next
by_rows (Some rows) more = more rows
by_rows None more = bad_reply

-- A list is told this, behind so many entries and their lines: its entries, and what the next list leads to; no more; or a refusal, behind the lines.
abbrev pub list_told : Code → Option (List ListEntry) → ℕ → List ℕ → (List ListEntry → Next) → Part
list_told code.Ok rows count text more answers = by_rows rows more
list_told code.ObjectNotFound rows count text more answers = done (text ++ numbered (codes "listed ") count) answers
list_told c rows count text more answers = done (text ++ error_text c) answers

-- lists until there are no more entries, behind so many entries and their lines
unfoldable pub lists : VolumeId → List ℕ → ℕ → List ℕ → Part
lists volume path count text [] = asks (list volume path (count + 1))
lists volume path count text (answer ∷ answers) =
    list_told answer.code (rows_in answer.reply) count text (λ rows. if_within (count + length rows) (lists volume path (count + length rows) (text ++ rows_text rows) answers)) answers

-- the same, where the next list may begin there
unfoldable pub lists_behind : VolumeId → List ℕ → ℕ → List ℕ → Part
lists_behind volume path count text answers = if_within count (lists volume path count text answers)

abbrev pub ls : VolumeId → List ℕ → Part
ls volume path = lists volume path 0 []

-- the lines of the entries that an answer tells: it is Ok, and its reply is a list
abbrev pub lines_told : Code → Option (List ListEntry) → List ℕ
lines_told code.Ok (Some rows) = rows_text rows
lines_told code.Ok None = []
lines_told c rows = []

-- the lines of the entries of each list that was told, in order
abbrev pub entries_told : List Exchange → List ℕ
entries_told [] = []
entries_told (x ∷ exchanges) = lines_told x.answer.code (rows_in x.answer.reply) ++ entries_told exchanges

-- a part stops in its middle: a call was refused or got no answer, or the last reply is none that may come
abbrev pub StopsShort : {E : Type 0} → Result (List ℕ) (Stop E) → Type 0
StopsShort (Err (stops.Refused c)) = Unit {0}
StopsShort (Err (stops.Ended end)) = Unit {0}
StopsShort (Err stops.BadReply) = Unit {0}
StopsShort result = ⊥

-- What a part said, by the exchanges of its calls, stands behind what stood there, where the part stops in its middle.
abbrev pub IsSaid : {E F : Type 0} → (List Exchange → List ℕ) → Asked F → List ℕ → Result (List ℕ) (Stop E) → List ℕ → Asked F → Type 0
IsSaid told before old result new after = StopsShort result → (exchanges : List Exchange) → after.exchanges ≡ before.exchanges ++ exchanges → new ≡ old ++ told exchanges
