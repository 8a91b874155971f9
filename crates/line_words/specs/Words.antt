-- The words of a line, parted by spaces (this profile).
use Rattle.std.specs.Prelude.{ℕ, ◌==◌, ◌&&◌, nat_le, not, Bool, List, length}
use Rattle.std.specs.List.{list_any}

abbrev pub is_space : ℕ → Bool
is_space byte = byte == 32

abbrev pub is_ascii : ℕ → Bool
is_ascii byte = nat_le byte 127

-- one word: it has a byte, and no space
abbrev pub is_word : List ℕ → Bool
is_word text = not (length text == 0) && not (list_any is_space text)
