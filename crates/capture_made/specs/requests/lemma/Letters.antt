-- The byte that is written.
use Rattle.std.specs.Prelude.{ℕ, ◌==◌, List, codes, if◌then◌else◌}

-- the letters a to h, by their places
abbrev pub letter : ℕ → List ℕ
letter place =
    if place == 0 then codes "a"
    else if place == 1 then codes "b"
    else if place == 2 then codes "c"
    else if place == 3 then codes "d"
    else if place == 4 then codes "e"
    else if place == 5 then codes "f"
    else if place == 6 then codes "g"
    else codes "h"
