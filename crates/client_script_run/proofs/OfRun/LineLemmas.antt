-- Lines that are taken leave less of a script.
use Rattle.std.proofs.Common.{◌≡◌, ℕ, ◌+◌, ◌-◌, ◌<◌, ◌≤◌, ◌^◌, List, ◌∷◌, ◌++◌, length, length-append, ap, arith}
use Rattle.afp_outside.specs.ends.Source.{SourceState}
use Rattle.afp_outside.specs.lines.Lines.{Unread, TakesLine, IsNext, whole, too_long, last}

-- each line has a byte at least, with its newline
next-shorter : (longest : ℕ) (bytes line rest : List ℕ) (ended : _) → IsNext longest bytes ended line rest → length rest < length bytes
next-shorter longest bytes line rest ended (whole e) = omega (arith, ap length e, length-append line (10 ∷ rest))
next-shorter longest bytes line rest ended (too_long e long none) = omega (arith, ap length e, long, ap length none)
next-shorter longest bytes line rest ended (last e end some none) = omega (arith, ap length e, some, ap length none)

-- how much of a script may still be read, or is held
abbrev pub rest_of : Unread → ℕ
rest_of unread = 2 ^ 64 - unread.taken + length unread.bytes

pub less-left : (longest turns : ℕ) (old new : Unread) (before after : SourceState) (line : List ℕ) (taken : ℕ) → TakesLine longest turns old before line new after → taken ≡ new.taken → taken < 2 ^ 64
    → rest_of new < rest_of old
less-left longest turns old new before after line taken t is within =
    omega (arith, next-shorter longest (old.bytes ++ t.read) line new.bytes new.ended t.is_next, length-append old.bytes t.read, t.reads.taken, is, within)

-- and so there are no more lines than bytes that were read
pub counts-on : (longest turns number : ℕ) (old new : Unread) (before after : SourceState) (line : List ℕ) → TakesLine longest turns old before line new after → number + length old.bytes ≤ old.taken → number + 1 + length new.bytes ≤ new.taken
counts-on longest turns number old new before after line t within =
    omega (arith, next-shorter longest (old.bytes ++ t.read) line new.bytes new.ended t.is_next, length-append old.bytes t.read, t.reads.taken, within)
