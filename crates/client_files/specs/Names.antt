-- A file's name on the server, and on this machine (this profile). The bytes are ASCII's.
use Rattle.std.specs.Prelude.{◌≡◌, ℕ, ◌==◌, ◌&&◌, ◌||◌, Bool, true, false, if◌then◌else◌, List, [], ◌∷◌, ◌++◌}
use Rattle.std.specs.List.{list_any}

abbrev pub is_nil : List ℕ → Bool
is_nil [] = true
is_nil (a ∷ rest) = false

-- they begin with this byte
abbrev pub begins : ℕ → List ℕ → Bool
begins x [] = false
begins x (a ∷ rest) = a == x

-- they begin with this pair
abbrev pub begins_pair : ℕ → ℕ → List ℕ → Bool
begins_pair x y [] = false
begins_pair x y (a ∷ rest) = (a == x) && begins y rest

-- what stands behind each 25 at the front
unfoldable pub behind_25 : List ℕ → List ℕ
behind_25 [] = []
behind_25 (a ∷ []) = a ∷ []
behind_25 (a ∷ b ∷ rest) = if (a == 50) && (b == 53) then behind_25 rest else a ∷ b ∷ rest

-- a % before them stands for a :, or is written %25: they go on with 3A, behind each 25
abbrev pub is_colon : List ℕ → Bool
is_colon rest = begins_pair 51 65 (behind_25 rest)

-- behind a first dot they make the name ., .. or a sidecar's, which begins with ._
abbrev pub is_hidden : List ℕ → Bool
is_hidden [] = true
is_hidden (a ∷ rest) = (a == 95) || ((a == 46) && is_nil rest)

-- they go on with 2E, and as behind the first dot of such a name
abbrev pub is_dot_at : List ℕ → Bool
is_dot_at [] = false
is_dot_at (a ∷ []) = false
is_dot_at (a ∷ b ∷ rest) = ((a == 50) && (b == 69)) && is_hidden rest

-- a first % before them stands for a dot, or is written %25
abbrev pub is_dot : List ℕ → Bool
is_dot rest = is_dot_at (behind_25 rest)

-- what stands for a byte of the server's name, before these: / is :, and : is %3A
abbrev pub local_byte : ℕ → List ℕ → List ℕ
local_byte b rest =
    if b == 47 then 58 ∷ []
    else if b == 58 then 37 ∷ 51 ∷ 65 ∷ []
    else if (b == 37) && is_colon rest then 37 ∷ 50 ∷ 53 ∷ []
    else b ∷ []

unfoldable pub local_bytes : List ℕ → List ℕ
local_bytes [] = []
local_bytes (b ∷ rest) = local_byte b rest ++ local_bytes rest

-- the local name of a name of the server: a first dot that may not be seen is %2E
unfoldable pub local_name : List ℕ → List ℕ
local_name [] = []
local_name (b ∷ rest) =
    if (b == 46) && is_hidden rest then 37 ∷ 50 ∷ 69 ∷ local_bytes rest
    else if (b == 37) && is_dot rest then 37 ∷ 50 ∷ 53 ∷ local_bytes rest
    else local_bytes (b ∷ rest)

-- the byte that a % and this pair stand for: 3A, 25 or 2E
abbrev pub unescaped : ℕ → ℕ → ℕ
unescaped c d = if c == 51 then 58 else if d == 53 then 37 else 46

abbrev pub server_byte : ℕ → ℕ
server_byte b = if b == 58 then 47 else b

unfoldable pub server_bytes : List ℕ → List ℕ
server_bytes [] = []
server_bytes (b ∷ []) = server_byte b ∷ []
server_bytes (b ∷ c ∷ []) = server_byte b ∷ server_bytes (c ∷ [])
server_bytes (b ∷ c ∷ d ∷ rest) =
    if (b == 37) && is_colon (c ∷ d ∷ rest) then unescaped c d ∷ server_bytes rest else server_byte b ∷ server_bytes (c ∷ d ∷ rest)

-- the name of the server of a local name
unfoldable pub server_name : List ℕ → List ℕ
server_name [] = []
server_name (b ∷ []) = server_bytes (b ∷ [])
server_name (b ∷ c ∷ []) = server_bytes (b ∷ c ∷ [])
server_name (b ∷ c ∷ d ∷ rest) =
    if (b == 37) && is_dot (c ∷ d ∷ rest) then unescaped c d ∷ server_bytes rest else server_bytes (b ∷ c ∷ d ∷ rest)

-- it is . or .., or begins with ._
abbrev pub begins_hidden : List ℕ → Bool
begins_hidden [] = false
begins_hidden (b ∷ rest) = (b == 46) && is_hidden rest

-- it begins with a % that stands for a dot, or is written %25
abbrev pub begins_dotted : List ℕ → Bool
begins_dotted [] = false
begins_dotted (b ∷ rest) = (b == 37) && is_dot rest

abbrev pub has_slash : List ℕ → Bool
has_slash name = list_any (λ byte. byte == 47) name

-- A file of this machine may have this name, which is no sidecar's.
pub record IsLocal (name : List ℕ) : Type 0 where
  pub no_slash : has_slash name ≡ false
  pub in_sight : begins_hidden name ≡ false
