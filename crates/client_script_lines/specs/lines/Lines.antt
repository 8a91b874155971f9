-- The forms of a script's lines (this profile).
use Rattle.std.specs.Prelude.{ℕ, ◌-◌, ◌^◌, nat_lt, is_some, if◌then◌else◌, List, length, codes, bytes_eq, Option, Some, None, option_map}
use Rattle.std.specs.List.{before_first, after_first}
use Rattle.client_script_lines.specs.declared.lines.line.ScriptLine.{ScriptLine}
use Rattle.client_script_lines.specs.declared.lines.line.ScriptLine.TheVariants as lines
use Rattle.client_script_lines.specs.declared.lines.read.Moves.{Moves}
use Rattle.client_script_lines.specs.declared.lines.read.Range.{Range}
use Rattle.client_script_lines.specs.lines.Words.{longest_line, is_path, is_deep_path, is_bytes, is_hex, is_text}
use Rattle.line_words.specs.Numbers.{padded_number_in}
use Rattle.line_words.specs.Words.{is_space}

-- the word in front of the first space, and what stands behind that space
abbrev pub first : List ℕ → List ℕ
first text = before_first is_space text

abbrev pub rest : List ℕ → List ℕ
rest text = after_first is_space text

-- PATH, a path from the root of the volume
abbrev pub path_in : List ℕ → Option (List ℕ)
path_in word = if is_path word then Some word else None

-- TARGET, a path with elements
abbrev pub target_in : List ℕ → Option (List ℕ)
target_in word = if is_deep_path word then Some word else None

-- BYTES
abbrev pub bytes_in : List ℕ → Option (List ℕ)
bytes_in word = if is_bytes word then Some word else None

-- HEX
abbrev pub hex_in : List ℕ → Option (List ℕ)
hex_in word = if is_hex word then Some word else None

-- VOLUME or TEXT, of at most 255 bytes
abbrev pub text_in : List ℕ → Option (List ℕ)
text_in word = if is_text word then Some word else None

-- a number of at most so much
abbrev pub number_in : ℕ → List ℕ → Option (List ℕ)
number_in most word = if is_some (padded_number_in most word) then Some word else None

-- REFERENCE
abbrev pub reference_in : List ℕ → Option (List ℕ)
reference_in word = number_in (2 ^ 16 - 1) word

-- ID
abbrev pub id_in : List ℕ → Option (List ℕ)
id_in word = number_in (2 ^ 32 - 1) word

-- FROM and LENGTH
abbrev pub size_in : List ℕ → Option (List ℕ)
size_in word = number_in (2 ^ 63 - 1) word

-- PATH TARGET
abbrev pub path_and_target : Option (List ℕ) → Option (List ℕ) → Option Moves
path_and_target (Some path) (Some target) = Some (record { path = path; target = target })
path_and_target (Some path) None = None
path_and_target None target = None

abbrev pub moves_in : List ℕ → Option Moves
moves_in text = path_and_target (path_in (first text)) (target_in (rest text))

-- PATH BYTES, PATH TEXT or PATH HEX
abbrev pub path_and_more : (List ℕ → List ℕ → ScriptLine) → Option (List ℕ) → Option (List ℕ) → Option ScriptLine
path_and_more line (Some path) (Some more) = Some (line path more)
path_and_more line (Some path) None = None
path_and_more line None more = None

abbrev pub put_in : List ℕ → Option ScriptLine
put_in text = path_and_more lines.Put (path_in (first text)) (bytes_in (rest text))

abbrev pub note_in : List ℕ → Option ScriptLine
note_in text = path_and_more lines.Note (path_in (first text)) (text_in (rest text))

abbrev pub unpack_in : List ℕ → Option ScriptLine
unpack_in text = path_and_more lines.Unpack (path_in (first text)) (hex_in (rest text))

-- REFERENCE FROM LENGTH
abbrev pub reference_and_sizes : Option (List ℕ) → Option (List ℕ) → Option (List ℕ) → Option Range
reference_and_sizes (Some reference) (Some from) (Some size) = Some (record { reference = reference; from = from; size = size })
reference_and_sizes (Some reference) (Some from) None = None
reference_and_sizes (Some reference) None size = None
reference_and_sizes None from size = None

abbrev pub range_in : List ℕ → Option Range
range_in text = reference_and_sizes (reference_in (first text)) (size_in (first (rest text))) (size_in (rest (rest text)))

-- the commands of one path
abbrev pub path_line : List ℕ → List ℕ → Option ScriptLine
path_line word text =
    if bytes_eq word (codes "mkdir") then option_map lines.Mkdir (path_in text)
    else if bytes_eq word (codes "get") then option_map lines.Get (path_in text)
    else if bytes_eq word (codes "ls") then option_map lines.Ls (path_in text)
    else if bytes_eq word (codes "rm") then option_map lines.Rm (path_in text)
    else if bytes_eq word (codes "hold") then option_map lines.Hold (path_in text)
    else if bytes_eq word (codes "id") then option_map lines.Id (path_in text)
    else if bytes_eq word (codes "show") then option_map lines.Show (path_in text)
    else if bytes_eq word (codes "pack") then option_map lines.Pack (path_in text)
    else None

-- a line that begins with this word, of what stands behind the space that follows it
abbrev pub headed : List ℕ → List ℕ → Option ScriptLine
headed word text =
    if bytes_eq word (codes "mount") then option_map lines.Mount (text_in text)
    else if bytes_eq word (codes "put") then put_in text
    else if bytes_eq word (codes "mv") then option_map (λ (two : Moves). lines.Mv two.path two.target) (moves_in text)
    else if bytes_eq word (codes "cp") then option_map (λ (two : Moves). lines.Cp two.path two.target) (moves_in text)
    else if bytes_eq word (codes "swap") then option_map (λ (two : Moves). lines.Swap two.path two.target) (moves_in text)
    else if bytes_eq word (codes "lock") then option_map (λ (range : Range). lines.Lock range.reference range.from range.size) (range_in text)
    else if bytes_eq word (codes "unlock") then option_map (λ (range : Range). lines.Unlock range.reference range.from range.size) (range_in text)
    else if bytes_eq word (codes "drop") then option_map lines.Drop (reference_in text)
    else if bytes_eq word (codes "find") then option_map lines.Find (id_in text)
    else if bytes_eq word (codes "note") then note_in text
    else if bytes_eq word (codes "unpack") then unpack_in text
    else path_line word text

-- what a line says; none where it has none of the forms, or is too long
abbrev pub line_in : List ℕ → Option ScriptLine
line_in line =
    if nat_lt longest_line (length line) then None
    else if bytes_eq line (codes "bye") then Some lines.Bye
    else headed (first line) (rest line)
