-- A token begins with its session's number.
use Rattle.std.proofs.Common.{◌≡◌, ◌∙◌, ap, sym, ℕ, ◌<◌, ◌^◌, List, ◌++◌}
use Rattle.std.specs.Int.{w32, to_le_bytes}
use Rattle.byteorder.specs.Endian.{big_number}
use Rattle.afp_base.proofs.Numbers.{number_again}
use Rattle.afp_serial.specs.Token.{TokensDiffer, session_token, token_word}

pub token-number : (key : List ℕ) (number : ℕ) → number < 2 ^ 64 → big_number 8 (session_token key number) ≡ number
unfolding session_token
token-number key number small = number_again 8 number (to_le_bytes w32 (token_word key number 0) ++ to_le_bytes w32 (token_word key number 1)) small

pub tokens-differ : TokensDiffer
tokens-differ key a b small_a small_b same = sym (token-number key a small_a) ∙ ap (big_number 8) same ∙ token-number key b small_b
