-- What the words of a script's line stand for (this profile).
use Rattle.std.specs.Prelude.{ℕ, List, [], ◌∷◌, ◌++◌, Option, Some, None, if◌then◌else◌}
use Rattle.std.specs.List.{slice_split}
use Rattle.client_script_lines.specs.lines.Words.{is_root, is_slash, plain}
use Rattle.line_words.specs.Hexadecimal.{spelt}
use Rattle.line_words.specs.Numbers.{value_behind}

abbrev pub or_none : Option (List ℕ) → List ℕ
or_none (Some bytes) = bytes
or_none None = []

-- the bytes that a word stands for
abbrev pub text_of : List ℕ → List ℕ
text_of word = or_none (plain word)

-- the bytes that a word's hexadecimal digits spell
abbrev pub spelt_text : List ℕ → List ℕ
spelt_text word = or_none (spelt word)

-- the number that a word spells
abbrev pub number_of : List ℕ → ℕ
number_of word = value_behind 0 word

-- the names of a path, as they stand in the word
abbrev pub names_in : List ℕ → List (List ℕ)
names_in word = slice_split is_slash word

-- the names but the last, and the last
abbrev pub but_last : List (List ℕ) → List (List ℕ)
but_last [] = []
but_last (name ∷ []) = []
but_last (name ∷ next ∷ names) = name ∷ but_last (next ∷ names)

abbrev pub last_of : List (List ℕ) → List ℕ
last_of [] = []
last_of (name ∷ []) = name
last_of (name ∷ next ∷ names) = last_of (next ∷ names)

-- names, each with a zero byte behind it
abbrev pub ended : List (List ℕ) → List ℕ
ended [] = []
ended (name ∷ names) = text_of name ++ 0 ∷ [] ++ ended names

-- the directory of a path, and its last name
abbrev pub directory_text : List ℕ → List ℕ
directory_text word = ended (but_last (names_in word))

abbrev pub name_text : List ℕ → List ℕ
name_text word = text_of (last_of (names_in word))

-- the path that a word stands for: names, parted by zero bytes
abbrev pub path_text : List ℕ → List ℕ
path_text word = if is_root word then [] else directory_text word ++ name_text word
