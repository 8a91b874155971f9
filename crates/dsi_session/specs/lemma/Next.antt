-- The option at a cursor.
use Rattle.std.specs.Prelude.{◌≡◌, ◌≢◌, ℕ, ◌+◌, List, ◌++◌, length, drop}
use Rattle.afp_base.specs.Cursor.{Cursor}
use Rattle.dsi_session.specs.Options.{SessionOption, option_spelling}

-- this option stands at the cursor, which goes behind it
pub record IsNext (old : Cursor) (option : SessionOption) (new : Cursor) : Type 0 where
  pub bytes : new.bytes ≡ old.bytes
  pub place : new.place ≡ old.place + length (option_spelling option)
  pub whole : drop old.place old.bytes ≡ option_spelling option ++ drop new.place old.bytes

-- no option stands at the cursor
abbrev pub HasNoNext : Cursor → Type 0
HasNoNext cursor = (option : SessionOption) (more : List ℕ) → drop cursor.place cursor.bytes ≢ option_spelling option ++ more
