-- The AFP versions and the user authentication methods (UAMs) of a login, by their names (AFP Reference, FPLogin, "User Authentication Methods").
use Rattle.std.specs.Prelude.{ℕ, List, codes}

abbrev pub version_3_3 : List ℕ
version_3_3 = codes "AFP3.3"

abbrev pub version_3_2 : List ℕ
version_3_2 = codes "AFP3.2"

abbrev pub version_3_1 : List ℕ
version_3_1 = codes "AFP3.1"

-- without a user
abbrev pub no_user : List ℕ
no_user = codes "No User Authent"

-- by name and password
abbrev pub cleartext : List ℕ
cleartext = codes "Cleartxt Passwrd"
