-- A read into a buffer, behind the bytes that it holds.
use Rattle.std.proofs.Common.{◌≡◌, ℕ, zero, suc, refl, [], ◌∷◌, ◌+◌, ◌≤◌, List, ◌++◌, length, take, drop, sym, ap, ◌∙◌, arith}
use Rattle.std.proofs.lemmas.List.{drop-take, length-drop, length-take}
use Rattle.afp_outside.specs.ends.Link.{LinkState, Reads, ReadsPiece}
use Rattle.afp_outside.specs.declared.ends.link.ReadResult.{ReadResult}
use Rattle.afp_outside.specs.declared.ends.link.ReadResult.TheVariants as results
use Rattle.afp_outside.specs.ends.Ready.{ReadsReady}
use Rattle.afp_outside.specs.declared.ends.ready_link.ReadyRead.{ReadyRead}
use Rattle.afp_outside.specs.declared.ends.ready_link.ReadyRead.TheVariants as readies
use Rattle.dsi_frame.specs.lemma.BufferFilling.{Fills, FillsReady, Filled, Holds}
use Rattle.dsi_frame.proofs.BufferLemmas.{filled}

-- the first n of the first m, where n is no more
first_of_first : (n m : ℕ) (xs : List ℕ) → n ≤ m → take n (take m xs) ≡ take n xs
first_of_first zero m xs e = refl
first_of_first (suc n) zero xs e = absurd (omega arith)
first_of_first (suc n) (suc m) [] e = refl
first_of_first (suc n) (suc m) (x ∷ xs) e = ap (λ (l : List ℕ). x ∷ l) (first_of_first n m xs (omega arith))

-- what is held stays, where the front of the buffer does
pub holds : (start held old : ℕ) (xs middle new : List ℕ) → start + held ≤ length middle → length new ≡ length middle
    → take (start + held) new ≡ take (start + held) middle → take held (drop start middle) ≡ take held (drop old xs) → Holds (take held (drop old xs)) start held new
holds start held old xs middle new fits size front same = record {
  bytes = sym (drop-take start held new) ∙ ap (drop start) front ∙ drop-take start held middle ∙ same;
  fits = omega arith;
}

-- n bytes came
fills-got : (most size : ℕ) (before after : LinkState) (start held old : ℕ) (xs middle new : List ℕ) → start + held ≤ length middle → size ≤ most → length new ≡ length middle
    → take (start + held) new ≡ take (start + held) middle → take held (drop start middle) ≡ take held (drop old xs)
    → (n : ℕ) → ReadsPiece before (take size (drop (start + held) new)) n after → Filled (take held (drop old xs)) most before n start held new after
fills-got most size before after start held old xs middle new fits few sizes front same n reads =
    let room : List ℕ = take size (drop (start + held) new) in
    let short : n ≤ size = omega (arith, reads.most, length-take size (drop (start + held) new)) in
    record {
      room = room;
      reads = reads;
      bytes = filled start held n old xs middle new fits front same ∙ ap (λ (l : List ℕ). take held (drop old xs) ++ l) (sym (first_of_first n size (drop (start + held) new) short));
      fits = omega (arith, reads.most, length-take size (drop (start + held) new), length-drop (start + held) new);
      few = omega (arith, short, few);
    }

pub fills : (most size : ℕ) (before after : LinkState) (start held old : ℕ) (xs middle new : List ℕ) → start + held ≤ length middle → size ≤ most → length new ≡ length middle
    → take (start + held) new ≡ take (start + held) middle → take held (drop start middle) ≡ take held (drop old xs)
    → (result : ReadResult) → Reads before (take size (drop (start + held) new)) result after → Fills (take held (drop old xs)) most before result start held new after
fills most size before after start held old xs middle new fits few sizes front same (results.Got n) reads = fills-got most size before after start held old xs middle new fits few sizes front same n reads
fills most size before after start held old xs middle new fits few sizes front same results.Quiet reads = (reads, holds start held old xs middle new fits sizes front same)
fills most size before after start held old xs middle new fits few sizes front same results.End reads = (reads, holds start held old xs middle new fits sizes front same)
fills most size before after start held old xs middle new fits few sizes front same results.Failed reads = (reads, holds start held old xs middle new fits sizes front same)

pub fills-ready : (most size : ℕ) (before after : LinkState) (start held old : ℕ) (xs middle new : List ℕ) → start + held ≤ length middle → size ≤ most → length new ≡ length middle
    → take (start + held) new ≡ take (start + held) middle → take held (drop start middle) ≡ take held (drop old xs)
    → (result : ReadyRead) → ReadsReady before (take size (drop (start + held) new)) result after → FillsReady (take held (drop old xs)) most before result start held new after
fills-ready most size before after start held old xs middle new fits few sizes front same (readies.Got n) reads = fills-got most size before after start held old xs middle new fits few sizes front same n reads
fills-ready most size before after start held old xs middle new fits few sizes front same readies.NotYet reads = (reads, holds start held old xs middle new fits sizes front same)
fills-ready most size before after start held old xs middle new fits few sizes front same readies.End reads = (reads, holds start held old xs middle new fits sizes front same)
fills-ready most size before after start held old xs middle new fits few sizes front same readies.Failed reads = (reads, holds start held old xs middle new fits sizes front same)
