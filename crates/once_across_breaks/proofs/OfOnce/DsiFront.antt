-- The whole frame at the front of bytes.
use Rattle.std.proofs.Common.{◌≡◌, ◌∙◌, inl, inr, refl, sym, ap, subst, ℕ, ◌+◌, ◌<◌, ◌≤◌, Bool, true, false, cond, ◌&&◌, List, [], ◌++◌, length, drop, Option, Some, None, arith, append-nil, length-append}
use Rattle.std.specs.Prelude.{is_none, nat_le}
use Rattle.std.proofs.lemmas.Bool.{and_from, and_parts, cases_lt, le-leb, leb-true, lt-leb}
use Rattle.std.proofs.lemmas.List.{drop_at, nil_from_length}
use Rattle.afp_base.specs.Bytes.{IsBytes}
use Rattle.dsi_frame.specs.Frame.{Frame, IsGood, canonical_frame, header_fault, header_length, header_of, payload_length_in}
use Rattle.dsi_frame.specs.Stream.{Begins}
use Rattle.dsi_frame.specs.declared.frame.Reason.{Reason}
use Rattle.dsi_frame.proofs.FrameLemmas.{begins, begins-good, begins-length, canonical_spelling, frame_in-begins, length-spelling}
use Rattle.dsi_frame.proofs.HeaderLemmas.{by_header, faultless_is_good, good_has_no_fault, header_in}
use Rattle.once_across_breaks.specs.once.Dsi.{FindsFrame, first_frame, frame_at, is_whole}

-- bytes that begin with a frame
begun-whole : (bytes : List ℕ) (f : Frame) → Begins bytes f → is_whole bytes ≡ true
begun-whole bytes f b =
    and_from (nat_le header_length (length bytes)) (is_none (header_fault bytes) && nat_le (header_length + payload_length_in bytes) (length bytes))
    (le-leb header_length (length bytes) (let long = begins-length bytes f b in omega (arith, long)))
    (and_from (is_none (header_fault bytes)) (nat_le (header_length + payload_length_in bytes) (length bytes)) (ap is_none (good_has_no_fault bytes (header_of f) (begins-good bytes f b)))
    (le-leb (header_length + payload_length_in bytes) (length bytes) (begins-length bytes f b)))

begun-rest : (bytes : List ℕ) (f : Frame) (b : Begins bytes f) → drop (header_length + payload_length_in bytes) bytes ≡ b.more
begun-rest bytes f b =
    let size : payload_length_in bytes ≡ length f.payload = (begins-good bytes f b).size in
    ap (drop (header_length + payload_length_in bytes)) b.whole ∙ drop_at b.first b.more (header_length + payload_length_in bytes) (length-spelling b.first f b.spelling ∙ ap (λ (n : ℕ). header_length + n) (sym size))

pub frame-begun : (bytes : List ℕ) (f : Frame) (b : Begins bytes f) → frame_at bytes ≡ Some (f, b.more)
frame-begun bytes f b =
    ap (λ t. cond t (Some (first_frame bytes, drop (header_length + payload_length_in bytes) bytes)) None) (begun-whole bytes f b)
    ∙ (λ i. Some (frame_in-begins bytes f b i, begun-rest bytes f b i))

pub frame-whole : (f : Frame) → IsGood f → frame_at (canonical_frame f) ≡ Some (f, [])
frame-whole f good = frame-begun (canonical_frame f) f (record { first = canonical_frame f; more = []; whole = sym (append-nil (canonical_frame f)); spelling = canonical_spelling f good })

-- no first part of it is whole
none-third : (a b c : Bool) → c ≡ false → (a && (b && c)) ≡ false
none-third true true c is = is
none-third true false c is = refl
none-third false b c is = refl

size-append : (bytes more : List ℕ) → 16 ≤ length bytes → payload_length_in (bytes ++ more) ≡ payload_length_in bytes
size-append bytes more long = by_header (λ bs. payload_length_in (bs ++ more) ≡ payload_length_in bs) (λ a b c d e f g h i j k l m n o p tail. refl) bytes long

part-is-cut : (f : Frame) (a b : List ℕ) → IsGood f → a ++ b ≡ canonical_frame f → (b ≡ [] → ⊥) → is_whole a ≡ false
part-is-cut f a b good same some = elim (cases_lt (length a) 16) [
  | inl short ↦ ap (λ t. t && (is_none (header_fault a) && nat_le (header_length + payload_length_in a) (length a))) (lt-leb header_length (length a) short)
  | inr long ↦
      let begun : Begins (canonical_frame f) f = record { first = canonical_frame f; more = []; whole = sym (append-nil (canonical_frame f)); spelling = canonical_spelling f good } in
      let size : payload_length_in (canonical_frame f) ≡ length f.payload = (begins-good (canonical_frame f) f begun).size in
      let here : payload_length_in a ≡ length f.payload = sym (size-append a b long) ∙ ap payload_length_in same ∙ size in
      let all : length a + length b ≡ 16 + length f.payload = sym (length-append a b) ∙ ap length same ∙ length-spelling (canonical_frame f) f begun.spelling in
      let more : 0 < length b = elim (cases_lt 0 (length b)) [ inl less ↦ less | inr none ↦ absurd (some (nil_from_length b (omega arith))) ] in
      none-third (nat_le header_length (length a)) (is_none (header_fault a)) (nat_le (header_length + payload_length_in a) (length a))
      (lt-leb (header_length + payload_length_in a) (length a) (omega (arith, here, all, more)))
]

pub frame-part : (f : Frame) (a b : List ℕ) → IsGood f → a ++ b ≡ canonical_frame f → (b ≡ [] → ⊥) → frame_at a ≡ None
frame-part f a b good same some = ap (λ t. cond t (Some (first_frame a, drop (header_length + payload_length_in a) a)) None) (part-is-cut f a b good same some)

-- what is found is a frame that bytes begin with
none-of : (o : Option Reason) → is_none o ≡ true → o ≡ None
none-of None is = refl
none-of (Some reason) is = absurd (cc)

begun-of : (bytes : List ℕ) → IsBytes bytes → is_whole bytes ≡ true → Begins bytes (first_frame bytes)
begun-of bytes fits whole =
    let one = and_parts (nat_le header_length (length bytes)) (is_none (header_fault bytes) && nat_le (header_length + payload_length_in bytes) (length bytes)) whole in
    let two = and_parts (is_none (header_fault bytes)) (nat_le (header_length + payload_length_in bytes) (length bytes)) one.1 in
    begins (header_in bytes) bytes (leb-true header_length (length bytes) one.0) fits (faultless_is_good bytes (none-of (header_fault bytes) two.0)) (leb-true (header_length + payload_length_in bytes) (length bytes) two.1)

abbrev frame_or : Frame → Option (Frame × List ℕ) → Frame
frame_or f None = f
frame_or f (Some x) = x.0

abbrev rest_or : List ℕ → Option (Frame × List ℕ) → List ℕ
rest_or xs None = xs
rest_or xs (Some x) = x.1

same-pair : (f g : Frame) (xs ys : List ℕ) (o : Option (Frame × List ℕ)) → o ≡ Some (g, ys) → (frame_or f o ≡ g) × (rest_or xs o ≡ ys)
same-pair f g xs ys o e = (ap (frame_or f) e, ap (rest_or xs) e)

pub finds-frame : FindsFrame
finds-frame bytes rest f fits = (found (is_whole bytes) refl, λ x. frame-begun bytes f x.0 ∙ ap (λ r. Some (f, r)) x.1)
  where
    found : (t : Bool) → is_whole bytes ≡ t → cond {A = Option (Frame × List ℕ)} t (Some (first_frame bytes, drop (header_length + payload_length_in bytes) bytes)) None ≡ Some (f, rest) → (begun : Begins bytes f) × (begun.more ≡ rest)
    found true whole is =
        let same = same-pair (first_frame bytes) f (drop (header_length + payload_length_in bytes) bytes) rest (Some (first_frame bytes, drop (header_length + payload_length_in bytes) bytes)) is in
        let begun : Begins bytes f = subst (Begins bytes) same.0 (begun-of bytes fits whole) in
        (begun, sym (begun-rest bytes f begun) ∙ same.1)
    found false whole is = absurd (cc)
