-- What a file server is set up with (this profile).
use Rattle.std.specs.Prelude.{ℕ, List}
use Rattle.afp_serial.specs.declared.user.User.{User}

-- the server's name and signature, who may log in, the volumes' names, the login message, and the key
-- of the session tokens
pub record Household : Type 0 where
  pub server : List ℕ
  pub signature : List ℕ
  pub users : List User
  pub volumes : List (List ℕ)
  pub message : List ℕ
  pub token_key : List ℕ

abbrev pub household : List ℕ → List ℕ → List User → List (List ℕ) → List ℕ → List ℕ → Household
household server signature users volumes message token_key =
    record { server = server; signature = signature; users = users; volumes = volumes; message = message; token_key = token_key }
