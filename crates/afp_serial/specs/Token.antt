-- The tokens by which a client comes back to its session (this profile).
use Rattle.std.specs.Prelude.{◌≡◌, ℕ, ◌<◌, ◌^◌, List, ◌++◌}
use Rattle.std.specs.Int.{w32, to_le_bytes}
use Rattle.byteorder.specs.Endian.{big_bytes}
use Rattle.rand_chacha.specs.ChaCha.{key_of, word_at}

-- how many double rounds ChaCha20 has
abbrev pub token_rounds : ℕ
token_rounds = 10

-- the word at a place of the stream that is numbered by the session, under the server's key
abbrev pub token_word : List ℕ → ℕ → ℕ → ℕ
token_word key number place = word_at token_rounds (key_of key) number place

-- The token of a session: its number in 8 bytes, big-endian, and the first two words of its stream, each little-endian.
unfoldable pub session_token : List ℕ → ℕ → List ℕ
session_token key number = big_bytes 8 number ++ (to_le_bytes w32 (token_word key number 0) ++ to_le_bytes w32 (token_word key number 1))

-- the law of tokens: no two sessions have one
abbrev pub TokensDiffer : Type 0
TokensDiffer = (key : List ℕ) (a b : ℕ) → a < 2 ^ 64 → b < 2 ^ 64 → session_token key a ≡ session_token key b → a ≡ b
