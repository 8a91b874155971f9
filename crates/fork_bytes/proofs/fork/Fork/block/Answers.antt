use Rattle.std.proofs.Common.{◌≡◌, ◌∙◌, true, ap, sym, subst, []}
use Rattle.fork_bytes.specs.Blocks.{block_at}
use Rattle.fork_bytes.specs.Kept.{are_rising, bytes_in}
use Rattle.fork_bytes.specs.lemma.Kept.{IsPlace}
use Rattle.fork_bytes.proofs.Blocks.{block_is}
use Rattle.fork_bytes.proofs.Places.{found-at, not-at}
use Rattle.fork_bytes.proofs.fork.Fork.block.Goals as goal

pub returns-then-has_at : goal.returns-then-has_at
returns-then-has_at c =
    let f = c.self.inside in
    let a = c.as_slice-blocks.ensures.value in
    let s = c.as_slice-blocks.result.now in
    let p = c.place_of-place.result in
    let place : IsPlace s c.args.index p = c.place_of-place.ensures.place (subst (λ l. are_rising l ≡ true) (sym a) c.self.invariant.rising) in
    c.as_slice.ensures ∙ sym (found-at s c.args.index p c.index-blocks-place.result place (c.has_at.ensures.within c.if-has_at.true) (c.has_at.ensures.found c.if-has_at.true _))
    ∙ ap (λ l. bytes_in l c.args.index) a ∙ sym (block_is f.len f.blocks.items c.args.index c.self.invariant.kept) ∙ ap (λ l. block_at l c.args.index) c.self.view_is

pub returns-else-has_at : goal.returns-else-has_at
returns-else-has_at c =
    let f = c.self.inside in
    let a = c.as_slice-blocks.ensures.value in
    let s = c.as_slice-blocks.result.now in
    let p = c.place_of-place.result in
    let rising : are_rising s ≡ true = subst (λ l. are_rising l ≡ true) (sym a) c.self.invariant.rising in
    let place : IsPlace s c.args.index p = c.place_of-place.ensures.place rising in
    sym (not-at s c.args.index p (record { index = 0; bytes = [] }) rising place (c.has_at.ensures.missed c.if-has_at.false _))
    ∙ ap (λ l. bytes_in l c.args.index) a ∙ sym (block_is f.len f.blocks.items c.args.index c.self.invariant.kept) ∙ ap (λ l. block_at l c.args.index) c.self.view_is
