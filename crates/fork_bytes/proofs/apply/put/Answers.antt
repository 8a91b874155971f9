use Rattle.std.proofs.Common.{◌≡◌, ◌≢◌, ◌∙◌, true, sym, subst, ◌<◌, ◌≤◌, length, get_or}
use Rattle.fork_bytes.specs.Kept.{are_rising}
use Rattle.fork_bytes.specs.lemma.Kept.{IsPlace}
use Rattle.fork_bytes.proofs.Puts.{put-there, put-new, room-new}
use Rattle.fork_bytes.proofs.apply.put.Goals as goal

pub insert-requires-clause-room : goal.insert-requires-clause-room
insert-requires-clause-room c =
    let a = c.as_slice.ensures.value in
    let place = c.place_of-place.ensures in
    room-new c.args.change c.args.blocks.now.items c.place_of-place.result _
    (subst (λ l. IsPlace l c.args.change.index c.place_of-place.result) a (place.place (subst (λ l. are_rising l ≡ true) (sym a) c.requires.rising)))
    (subst (λ l. c.place_of-place.result ≤ length l) a place.within)
    (λ d within. subst (λ l. (get_or l c.place_of-place.result d).index ≢ c.args.change.index) c.as_slice-2.ensures.value
    (c.has_at.ensures.missed c.if-has_at.false d (subst (λ l. c.place_of-place.result < length l) (sym c.as_slice-2.ensures.value) within)))
    c.requires.room

pub returns-then-has_at-clause-items : goal.returns-then-has_at-clause-items
returns-then-has_at-clause-items c =
    let a = c.as_slice.ensures.value in
    let place = c.place_of-place.ensures in
    c.replace.ensures.items ∙ put-there c.args.change c.args.blocks.now.items c.place_of-place.result
    (subst (λ l. IsPlace l c.args.change.index c.place_of-place.result) a (place.place (subst (λ l. are_rising l ≡ true) (sym a) c.requires.rising)))
    (subst (λ l. c.place_of-place.result < length l) c.as_slice-2.ensures.value (c.has_at.ensures.within c.if-has_at.true))
    (λ d. subst (λ l. (get_or l c.place_of-place.result d).index ≡ c.args.change.index) c.as_slice-2.ensures.value (c.has_at.ensures.found c.if-has_at.true d))

pub returns-else-has_at-clause-items : goal.returns-else-has_at-clause-items
returns-else-has_at-clause-items c =
    let a = c.as_slice.ensures.value in
    let place = c.place_of-place.ensures in
    c.insert.ensures.items ∙ put-new c.args.change c.args.blocks.now.items c.place_of-place.result
    (subst (λ l. IsPlace l c.args.change.index c.place_of-place.result) a (place.place (subst (λ l. are_rising l ≡ true) (sym a) c.requires.rising)))
    (subst (λ l. c.place_of-place.result ≤ length l) a place.within)
    (λ d within. subst (λ l. (get_or l c.place_of-place.result d).index ≢ c.args.change.index) c.as_slice-2.ensures.value
    (c.has_at.ensures.missed c.if-has_at.false d (subst (λ l. c.place_of-place.result < length l) (sym c.as_slice-2.ensures.value) within)))
