-- Ids on the link are those of the law, less whole rounds.
use Rattle.std.proofs.Common.{◌≡◌, ◌∙◌, sym, ap, ℕ, suc, ◌+◌, ◌%◌, arith}
use Rattle.dsi_session.specs.RequestIds.{CountsInRounds, id_after}
use Rattle.once_across_breaks.specs.once.Messages.{wire_id}
use Rattle.once_across_breaks.specs.once.Run.{id_of}

pub wire-after : CountsInRounds → (n : ℕ) → id_after (wire_id n) ≡ wire_id (suc n)
wire-after counts n = ap id_after (sym (counts n)) ∙ counts (suc n)

pub wire-on : CountsInRounds → (id n : ℕ) → id ≡ wire_id n → id_after id ≡ wire_id (suc n)
wire-on counts id n is = ap id_after is ∙ wire-after counts n

same-sum : (first drawn : ℕ) → suc (first + drawn) ≡ first + suc drawn
same-sum first drawn = omega arith

pub next-on : CountsInRounds → (first drawn next : ℕ) → next ≡ id_of first drawn → id_after next ≡ id_of first (suc drawn)
next-on counts first drawn next is = wire-on counts next (first + drawn) is ∙ ap wire_id (same-sum first drawn)

twice : (n : ℕ) → n % 65536 ≡ (n % 65536) % 65536
twice n = omega arith

-- an id of a command is its own on the link
pub next-wire : (first drawn next : ℕ) → next ≡ id_of first drawn → next ≡ wire_id (id_of first drawn)
next-wire first drawn next is = is ∙ twice (first + drawn)

-- the first id behind the opening's
pub first-next : (n drawn next : ℕ) → next ≡ wire_id n → drawn ≡ 0 → next ≡ id_of n drawn
first-next n drawn next is none = is ∙ ap wire_id (let e : n ≡ n + drawn = omega (arith, none) in e)
