-- A block that is written behind bytes which stay.
use Rattle.std.proofs.Common.{◌≡◌, ℕ, ◌+◌, ◌-◌, ◌≤◌, ◌<◌, List, ◌++◌, length, map, take, drop, refl, sym, ap, ◌∙◌, arith, append_assoc, length-append}
use Rattle.std.specs.List.{concat, AllByRecursion}
use Rattle.std.proofs.Math.Seq.{take-append-add, drop-append-add, take-append_seam, drop-append_seam}
use Rattle.std.proofs.lemmas.List.{take-append-drop, take-append-le, length-take-le, take-take}
use Rattle.byteorder.specs.Endian.{big_bytes}
use Rattle.afp_bitmap.specs.Field.{Field, fixed_bytes, IsCountable}
use Rattle.afp_bitmap.specs.Params.{parts, size_of_fixed_part}
use Rattle.afp_base.specs.Appended.{Keeps}
use Rattle.afp_bitmap.specs.lemma.Writing.{NameSpots, no_spots, all_noted, patched, padded, with_long_name, with_utf8_name, CanName, IsSized}
use Rattle.afp_bitmap.proofs.Formed.{Formed}
use Rattle.afp_bitmap.proofs.Patches.{Begun, can_begin, can_go_on, block_written}

behind_front : (at number : ℕ) (xs ys : List ℕ) → patched (length xs + at) number (xs ++ ys) ≡ xs ++ patched at number ys
behind_front at number xs ys =
    ap (λ (f : List ℕ). f ++ (big_bytes 2 number ++ drop 2 (drop (length xs + at) (xs ++ ys)))) (take-append-add xs ys at)
    ∙ ap (λ (r : List ℕ). (xs ++ take at ys) ++ (big_bytes 2 number ++ drop 2 r)) (drop-append-add xs ys at)
    ∙ append_assoc xs (take at ys) (big_bytes 2 number ++ drop 2 (drop at ys))

-- a number that is written in the block leaves what stands before it
pub patched_behind : (base at number : ℕ) (out : List ℕ) → base ≤ length out → patched (base + at) number out ≡ take base out ++ patched at number (drop base out)
patched_behind base at number out begun =
    let xs : List ℕ = take base out in
    let ys : List ℕ = drop base out in
    ap (patched (base + at) number) (sym (take-append-drop base out))
    ∙ ap (λ (n : ℕ). patched (n + at) number (xs ++ ys)) (sym (length-take-le base out begun))
    ∙ behind_front at number xs ys

-- a name behind it, whose place is written in the block
pub named_behind : (base at : ℕ) (out mid new name : List ℕ) → base ≤ length out → mid ≡ patched (base + at) (length out - base) out → new ≡ mid ++ padded name
    → new ≡ take base out ++ (patched at (length out - base) (drop base out) ++ padded name)
named_behind base at out mid new name begun is named =
    named ∙ ap (λ (m : List ℕ). m ++ padded name) (is ∙ patched_behind base at (length out - base) out begun)
    ∙ append_assoc (take base out) (patched at (length out - base) (drop base out)) (padded name)

-- what stood before the block still stands there
pub kept_behind : (base at number : ℕ) (out mid new : List ℕ) → base ≤ length out → mid ≡ patched (base + at) number out → Keeps mid new → take base new ≡ take base out
kept_behind base at number out mid new begun is keeps =
    let xs : List ℕ = take base out in
    let p : List ℕ = patched at number (drop base out) in
    let joined : mid ≡ xs ++ p = is ∙ patched_behind base at number out begun in
    let size : length xs ≡ base = length-take-le base out begun in
    let enough : base ≤ length mid = omega (arith, ap (length {A = ℕ}) joined, length-append xs p, size) in
    sym (take-take base (length mid) new enough) ∙ ap (take base) (keeps ∙ joined) ∙ take-append-le base xs p (omega (arith, size)) ∙ take-take base base out (omega arith)

-- the bytes before a block that begins behind others are those, and the block is what stands behind them
pub front_is : (base : ℕ) (old block out : List ℕ) → base ≡ length old → out ≡ old ++ block → take base out ≡ old
front_is base old block out at is = ap (take base) is ∙ ap (λ (n : ℕ). take n (old ++ block)) at ∙ take-append_seam old block

pub block_is : (base : ℕ) (old block out : List ℕ) → base ≡ length old → out ≡ old ++ block → drop base out ≡ block
block_is base old block out at is = ap (drop base) is ∙ ap (λ (n : ℕ). drop n (old ++ block)) at ∙ drop-append_seam old block

pub begins : (base : ℕ) (old block out : List ℕ) → base ≡ length old → out ≡ old ++ block → base ≤ length out
begins base old block out at is = omega (arith, at, ap (length {A = ℕ}) is, length-append old block)

-- the size of the bytes before it
pub front_size : (base : ℕ) (out : List ℕ) → base ≤ length out → base ≡ length (take base out)
front_size base out begun = sym (length-take-le base out begun)

-- The fixed part of a block stands behind bytes that stay.
pub record BegunAt (fs : List Field) (base : ℕ) (old out : List ℕ) (spots : NameSpots) : Type 0 where
  pub at : base ≡ length old
  pub formed : Formed fs
  pub sized_so : AllByRecursion IsSized fs
  pub countable : AllByRecursion IsCountable fs
  pub small : size_of_fixed_part fs < 65000
  pub out_is : out ≡ old ++ concat (map (fixed_bytes 0) fs)
  pub spots_are : spots ≡ all_noted 0 fs no_spots

begun : (fs : List Field) (base : ℕ) (old out : List ℕ) (spots : NameSpots) → BegunAt fs base old out spots → Begun fs (drop base out) spots
begun fs base old out spots s = record {
  formed = s.formed;
  sized_so = s.sized_so;
  countable = s.countable;
  small = s.small;
  block_is = block_is base old (concat (map (fixed_bytes 0) fs)) out s.at s.out_is;
  spots_are = s.spots_are;
}

pub long_can : (fs : List Field) (base : ℕ) (old out : List ℕ) (spots : NameSpots) → BegunAt fs base old out spots → CanName 256 spots.long_name (drop base out)
long_can fs base old out spots s = can_begin fs (drop base out) spots (begun fs base old out spots s)

-- the block behind the long name
named_block : (fs : List Field) (base : ℕ) (old out next : List ℕ) (spots : NameSpots) → BegunAt fs base old out spots → next ≡ take base out ++ with_long_name spots.long_name (drop base out)
    → drop base next ≡ with_long_name spots.long_name (drop base out)
named_block fs base old out next spots s is =
    block_is base (take base out) (with_long_name spots.long_name (drop base out)) next (front_size base out (begins base old (concat (map (fixed_bytes 0) fs)) out s.at s.out_is)) is

pub utf8_can : (fs : List Field) (base : ℕ) (old out next : List ℕ) (spots : NameSpots) → BegunAt fs base old out spots → next ≡ take base out ++ with_long_name spots.long_name (drop base out)
    → CanName 65536 spots.utf8_name (drop base next)
utf8_can fs base old out next spots s is = can_go_on fs (drop base out) (drop base next) spots (begun fs base old out spots s) (named_block fs base old out next spots s is)

pub written_behind : (fs : List Field) (base : ℕ) (old out next last : List ℕ) (spots : NameSpots) → BegunAt fs base old out spots → next ≡ take base out ++ with_long_name spots.long_name (drop base out)
    → last ≡ take base next ++ with_utf8_name spots.utf8_name (drop base next) → last ≡ old ++ concat (parts fs)
written_behind fs base old out next last spots s is then_is =
    let first : take base out ≡ old = front_is base old (concat (map (fixed_bytes 0) fs)) out s.at s.out_is in
    let front : take base next ≡ old =
    front_is base (take base out) (with_long_name spots.long_name (drop base out)) next (front_size base out (begins base old (concat (map (fixed_bytes 0) fs)) out s.at s.out_is)) is ∙ first in
    then_is ∙ ap (λ (f : List ℕ). f ++ with_utf8_name spots.utf8_name (drop base next)) front
    ∙ ap (λ (b : List ℕ). old ++ b) (block_written fs (drop base out) (drop base next) (with_utf8_name spots.utf8_name (drop base next)) spots (begun fs base old out spots s) (named_block fs base old out next spots s is) refl)
