-- The kinds of a request that it tells by a number.
use Rattle.std.specs.Prelude.{ℕ}

-- the functions of FPMapID and FPMapName run from the first to the last (AFP Reference, FPMapID, FPMapName)
abbrev pub first_function : ℕ
first_function = 1

abbrev pub last_function : ℕ
last_function = 4

-- the last function of FPMapName that maps a name in UTF-8 (this profile)
abbrev pub last_utf8_function : ℕ
last_utf8_function = 2

-- the least type of FPGetSessionToken, the type that tells a time stamp with an id, and the greatest, which tells both on reconnecting (AFP Reference, FPGetSessionToken)
abbrev pub login_without_id : ℕ
login_without_id = 0

abbrev pub login_with_time_and_id : ℕ
login_with_time_and_id = 3

abbrev pub reconn_with_time_and_id : ℕ
reconn_with_time_and_id = 4
