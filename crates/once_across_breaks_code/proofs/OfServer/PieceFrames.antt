-- The frames of a piece.
use Rattle.std.proofs.Common.{◌≡◌, ◌∙◌, ◌⊎◌, inl, inr, refl, sym, ap, subst, ℕ, List, [], ◌∷◌, ◌++◌, length, Option, Some, None, arith, append-nil, append_assoc, length-append}
use Rattle.std.proofs.lemmas.List.{nil_from_length}
use Rattle.afp_server.specs.link.Wire as wires
use Rattle.afp_server.specs.declared.link.stage.FrameEnd.{FrameEnd}
use Rattle.afp_server.specs.declared.link.stage.FrameEnd.TheVariants as ends
use Rattle.afp_server.specs.declared.link.wire.WireEnd.{WireEnd}
use Rattle.afp_server.specs.declared.link.wire.WireEnd.TheVariants as wire_ends
use Rattle.dsi_frame.specs.Buffered.{Buffered}
use Rattle.dsi_frame.specs.Deframe.{GivenOut}
use Rattle.dsi_frame.specs.Frame.{Frame, IsBadHeader, IsGood, IsSpelling, canonical_frame}
use Rattle.dsi_frame.specs.Stream.{Begins, IsUnfinished, Spelled}
use Rattle.dsi_frame.specs.declared.frame.Reason.{Reason}
use Rattle.dsi_frame.proofs.FrameLemmas.{bad_header-append, bad_is_no_frame, canonical_spelling, length-spelling}
use Rattle.once_across_breaks_code.specs.server.Pieces.{EndsAs, HasNoMemory, HoldsOn, PiecesHaveFrames, TakesFrame}

-- what the laws of frames say
pub record FrameLaws : Type 0 where
  pub same : (bytes : List ℕ) (f g : Frame) → Begins bytes f → Begins bytes g → f ≡ g
  pub parted : (first more other others : List ℕ) (f g : Frame) → IsSpelling first f → IsSpelling other g → first ++ more ≡ other ++ others → (first ≡ other) × (more ≡ others)

-- no frame begins where no byte is
none-begins : (f : Frame) (first more : List ℕ) → IsSpelling first f → first ++ more ≡ [] → ⊥
none-begins f first more s empty = omega (arith, length-spelling first f s, ap length empty, length-append first more)

-- the frames behind those that were given out
behind-past : FrameLaws → (past frames : List Frame) (filled filled' holds left : List ℕ) → Spelled filled past → Spelled filled' (past ++ frames) → filled ++ holds ≡ filled' ++ left
    → (front : List ℕ) × Spelled front frames × (holds ≡ front ++ left)
behind-past laws [] frames filled filled' holds left empty t same = (filled', t, sym (ap (λ (b : List ℕ). b ++ holds) empty) ∙ same)
behind-past laws (g ∷ past) frames filled filled' holds left s t same =
    let joined : s.0 ++ (s.1 ++ holds) ≡ t.0 ++ (t.1 ++ left) =
    sym (ap (λ (b : List ℕ). b ++ holds) s.2 ∙ append_assoc s.0 s.1 holds) ∙ same ∙ (ap (λ (b : List ℕ). b ++ left) t.2 ∙ append_assoc t.0 t.1 left) in
    behind-past laws past frames s.1 t.1 holds left s.4 t.4 (laws.parted s.0 (s.1 ++ holds) t.0 (t.1 ++ left) g g s.3 t.3 joined).1

-- the front of what is a part of one frame: nothing, or that frame
abbrev Front : Frame → List Frame → List ℕ → List ℕ → List ℕ → Type 0
Front f frames holds left rest = ((frames ≡ []) × (rest ≡ holds)) ⊎ ((frames ≡ f ∷ []) × (left ≡ []) × (rest ≡ []))

none-left : (xs ys : List ℕ) → xs ++ ys ≡ [] → (xs ≡ []) × (ys ≡ [])
none-left xs ys e = let l = length-append xs ys in let n = ap length e in (nil_from_length xs (omega (arith, l, n)), nil_from_length ys (omega (arith, l, n)))

front-of : FrameLaws → (f : Frame) (frames : List Frame) (front holds left rest : List ℕ) → IsGood f → holds ++ left ≡ canonical_frame f → Spelled front frames → holds ≡ front ++ rest → Front f frames holds left rest
front-of laws f [] front holds left rest good whole empty same = inl (refl, sym (same ∙ ap (λ (b : List ℕ). b ++ rest) empty))
front-of laws f (g ∷ frames) front holds left rest good whole s same =
    let cut : holds ≡ s.0 ++ (s.1 ++ rest) = same ∙ ap (λ (b : List ℕ). b ++ rest) s.2 ∙ append_assoc s.0 s.1 rest in
    let joined : s.0 ++ ((s.1 ++ rest) ++ left) ≡ canonical_frame f ++ [] = sym (append_assoc s.0 (s.1 ++ rest) left) ∙ sym (ap (λ (b : List ℕ). b ++ left) cut) ∙ whole ∙ sym (append-nil (canonical_frame f)) in
    let spelling = canonical_spelling f good in
    let parts = laws.parted s.0 ((s.1 ++ rest) ++ left) (canonical_frame f) [] g f s.3 spelling joined in
    let equal : g ≡ f = laws.same (s.0 ++ ((s.1 ++ rest) ++ left)) g f (record { first = s.0; more = (s.1 ++ rest) ++ left; whole = refl; spelling = s.3 }) (record { first = canonical_frame f; more = []; whole = joined; spelling = spelling }) in
    let one = none-left (s.1 ++ rest) left parts.1 in
    let two = none-left s.1 rest one.0 in
    inr ((λ i. equal i ∷ no-frames frames s.1 s.4 two.0 i), one.1, two.1)
  where
    no-frames : (gs : List Frame) (bytes : List ℕ) → Spelled bytes gs → bytes ≡ [] → gs ≡ []
    no-frames [] bytes t empty = refl
    no-frames (h ∷ gs) bytes t empty = absurd (none-begins h t.0 t.1 t.3 (sym t.2 ∙ empty))

-- where no frame was handled none has ended the link
no-end : (start : wires.FeedStart) (frames : List Frame) (e : FrameEnd) (p : wires.FeedPoint) → frames ≡ [] → wires.Handled start frames (Some e) p → ⊥
no-end start frames e p none handled =
    let h : wires.Handled start [] (Some e) p = subst (λ (fs : List Frame). wires.Handled start fs (Some e) p) none handled in
    let is : Some e ≡ None = h.script.3 in
    cc

abbrev Comes : wires.FeedStart → Frame → List ℕ → List ℕ → Option WireEnd → Buffered → wires.FeedPoint → Type 0
Comes start f holds left result new p = HoldsOn start holds left result new p ⊎ (TakesFrame start f left result new p ⊎ HasNoMemory start result p)

-- what fills the bytes, behind the frames that were given out
filled-front : FrameLaws → (start : wires.FeedStart) (f : Frame) (piece left : List ℕ) (old : Buffered) (frames : List Frame) (filled rest : List ℕ) → IsGood f → GivenOut start.bytes start.past old → (old.rest ++ piece) ++ left ≡ canonical_frame f
    → Spelled filled (start.past ++ frames) → start.bytes ++ piece ≡ filled ++ rest → Front f frames (old.rest ++ piece) left rest
filled-front laws start f piece left old frames filled rest good given whole spelled same =
    let joined : given.filled ++ (old.rest ++ piece) ≡ filled ++ rest = sym (append_assoc given.filled old.rest piece) ∙ sym (ap (λ (b : List ℕ). b ++ piece) given.whole) ∙ same in
    let x = behind-past laws start.past frames given.filled filled (old.rest ++ piece) rest given.spelled spelled joined in
    front-of laws f frames x.0 (old.rest ++ piece) left rest good whole x.1 x.2

-- the whole frame is there
whole-begins : (f : Frame) (holds left : List ℕ) → IsGood f → holds ++ left ≡ canonical_frame f → left ≡ [] → Begins holds f
whole-begins f holds left good whole none = record {
  first = canonical_frame f;
  more = [];
  whole = sym (append-nil holds) ∙ sym (ap (λ (b : List ℕ). holds ++ b) none) ∙ whole ∙ sym (append-nil (canonical_frame f));
  spelling = canonical_spelling f good;
}

goes-on : (start : wires.FeedStart) (f : Frame) (holds left : List ℕ) (frames : List Frame) (new : Buffered) (p : wires.FeedPoint) → IsGood f → holds ++ left ≡ canonical_frame f
    → wires.Handled start frames None p → IsUnfinished new.rest → Front f frames holds left new.rest → Comes start f holds left None new p
goes-on start f holds left frames new p good whole handled unfinished (inl (none, all)) =
    inl record {
      some_left = λ empty. unfinished.no_frame f (subst (λ (b : List ℕ). Begins b f) (sym all) (whole-begins f holds left good whole empty));
      goes_on = refl;
      all = all;
      handled = subst (λ (fs : List Frame). wires.Handled start fs None p) none handled;
    }
goes-on start f holds left frames new p good whole handled unfinished (inr (one, none, empty)) =
    inr (inl record { none_left = none; end = None; handled = subst (λ (fs : List Frame). wires.Handled start fs None p) one handled; ends = inl (refl, empty) })

-- a frame has ended the link
has-ended : (start : wires.FeedStart) (f : Frame) (holds left rest : List ℕ) (frames : List Frame) (e : FrameEnd) (result : Option WireEnd) (new : Buffered) (p : wires.FeedPoint)
    → wires.Handled start frames (Some e) p → EndsAs (Some e) result new → Front f frames holds left rest → Comes start f holds left result new p
has-ended start f holds left rest frames e result new p handled as_end (inl (none, all)) = absurd (no-end start frames e p none handled)
has-ended start f holds left rest frames e result new p handled as_end (inr (one, none, empty)) =
    inr (inl record { none_left = none; end = Some e; handled = subst (λ (fs : List Frame). wires.Handled start fs (Some e) p) one handled; ends = as_end })

-- there is no bad header
no-header : (f : Frame) (holds left rest : List ℕ) (frames : List Frame) (reason : Reason) → IsGood f → holds ++ left ≡ canonical_frame f → IsBadHeader rest reason → Front f frames holds left rest → ⊥
no-header f holds left rest frames reason good whole bad (inl (none, all)) =
    bad_is_no_frame (holds ++ left) reason (bad_header-append holds left reason (subst (λ (b : List ℕ). IsBadHeader b reason) all bad)) f
    (record { first = canonical_frame f; more = []; whole = whole ∙ sym (append-nil (canonical_frame f)); spelling = canonical_spelling f good })
no-header f holds left rest frames reason good whole bad (inr (one, none, empty)) = let long = bad.0 in omega (arith, long, ap length empty)

-- the last frame may not come
last-bad : FrameLaws → (start : wires.FeedStart) (f : Frame) (holds left rest : List ℕ) (before : List Frame) (last : Frame) (at : ℕ) (reason : Reason) (new : Buffered) (p : wires.FeedPoint) → IsGood f → holds ++ left ≡ canonical_frame f
    → wires.Handled start (before ++ last ∷ []) (Some (ends.Bad reason)) p → Begins rest last → Front f before holds left rest
    → Comes start f holds left (Some (wire_ends.Bad (record { at = at; reason = reason }))) new p
last-bad laws start f holds left rest before last at reason new p good whole handled begins (inr (one, none, empty)) = absurd (none-begins last begins.first begins.more begins.spelling (sym begins.whole ∙ empty))
last-bad laws start f holds left rest before last at reason new p good whole handled begins (inl (none, all)) =
    has-ended start f holds left begins.more (last ∷ []) (ends.Bad reason) (Some (wire_ends.Bad (record { at = at; reason = reason }))) new p
    (subst (λ (fs : List Frame). wires.Handled start (fs ++ last ∷ []) (Some (ends.Bad reason)) p) none handled)
    (at, refl)
    (front-of laws f (last ∷ []) begins.first holds left begins.more good whole (begins.first, [], sym (append-nil begins.first), begins.spelling, refl) (sym all ∙ begins.whole))

no-memory : (start : wires.FeedStart) (f : Frame) (holds left rest : List ℕ) (frames : List Frame) (new : Buffered) (p : wires.FeedPoint)
    → wires.Handled start frames None p → Front f frames holds left rest → Comes start f holds left (Some wire_ends.Memory) new p
no-memory start f holds left rest frames new p handled (inl (none, all)) = inr (inr record { memory = refl; handled = subst (λ (fs : List Frame). wires.Handled start fs None p) none handled })
no-memory start f holds left rest frames new p handled (inr (one, none, empty)) =
    inr (inl record { none_left = none; end = None; handled = subst (λ (fs : List Frame). wires.Handled start fs None p) one handled; ends = inr refl })

pub pieces-have : FrameLaws → PiecesHaveFrames
pieces-have laws start f piece left old new None p good given whole (x, unfinished) =
    goes-on start f (old.rest ++ piece) left x.frames new p good whole x.handled unfinished (filled-front laws start f piece left old x.frames x.given.filled new.rest good given whole x.given.spelled x.given.whole)
pieces-have laws start f piece left old new (Some wire_ends.Closed) p good given whole x =
    has-ended start f (old.rest ++ piece) left x.left x.frames ends.Closed (Some wire_ends.Closed) new p x.handled refl
    (filled-front laws start f piece left old x.frames x.fills.filled x.left good given whole x.fills.spelled x.fills.whole)
pieces-have laws start f piece left old new (Some wire_ends.Displaced) p good given whole x =
    has-ended start f (old.rest ++ piece) left x.left x.frames ends.Displaced (Some wire_ends.Displaced) new p x.handled refl
    (filled-front laws start f piece left old x.frames x.fills.filled x.left good given whole x.fills.spelled x.fills.whole)
pieces-have laws start f piece left old new (Some (wire_ends.Bad b)) p good given whole (inl x) =
    absurd (no-header f (old.rest ++ piece) left x.stopped.left x.frames b.reason good whole x.stopped.bad_header
    (filled-front laws start f piece left old x.frames x.stopped.filled x.stopped.left good given whole x.stopped.spelled x.stopped.whole))
pieces-have laws start f piece left old new (Some (wire_ends.Bad b)) p good given whole (inr x) =
    last-bad laws start f (old.rest ++ piece) left x.left x.before x.last b.at b.reason new p good whole x.handled x.begins
    (filled-front laws start f piece left old x.before x.fills.filled x.left good given whole x.fills.spelled x.fills.whole)
pieces-have laws start f piece left old new (Some wire_ends.Memory) p good given whole x =
    no-memory start f (old.rest ++ piece) left x.left x.frames new p x.handled
    (filled-front laws start f piece left old x.frames x.fills.filled x.left good given whole x.fills.spelled x.fills.whole)
