-- Spellings of frames one after another.
use Rattle.std.proofs.Common.{◌≡◌, ◌⊎◌, ℕ, zero, suc, ◌+◌, ◌<◌, ◌≤◌, List, [], ◌∷◌, ◌++◌, length, take, drop, get_or, Option, Some, None, refl, sym, ap, ◌∙◌, subst, inl, inr, arith, length-append, append_assoc}
use Rattle.std.proofs.lemmas.List.{append-nil, take-append-drop, take_more, take_all}
use Rattle.std.proofs.lemmas.List.Concat.{flat_map-append}
use Rattle.std.specs.List.{flat_map}
use Rattle.std.proofs.lemmas.Bool.{cases_lt}
use Rattle.dsi_frame.specs.declared.frame.Reason.{Reason}
use Rattle.afp_base.specs.Bytes.{IsBytes}
use Rattle.dsi_frame.specs.Frame.{Frame, IsSpelling, IsBadHeader, header_fault, payload_length_in}
use Rattle.dsi_frame.specs.Stream.{Begins, IsUnfinished, Spelled, Framed, Stopped}
use Rattle.dsi_frame.specs.Buffered.{Buffered, buffer_length}
use Rattle.dsi_frame.specs.Deframe.{GivenOut}
use Rattle.dsi_frame.proofs.HeaderLemmas.{header_in, faultless_is_good}
use Rattle.dsi_frame.proofs.FrameLemmas.{begins, length-spelling, one_spelling, short_is_unfinished, cut_is_unfinished, bad_is_no_frame, bad_header-append}
use Rattle.afp_base.proofs.Numbers.{IsBytes-behind}

-- frames and then one frame more
pub spelled_push : (bytes first : List ℕ) (frames : List Frame) (f : Frame) → Spelled bytes frames → IsSpelling first f
    → Spelled (bytes ++ first) (frames ++ f ∷ [])
spelled_push bytes first [] f e s = (first, [], ap (λ (l : List ℕ). l ++ first) e ∙ sym (append-nil first), s, refl)
spelled_push bytes first (g ∷ frames) f (head, rest, whole, spelling, more) s =
    (head, rest ++ first, ap (λ (l : List ℕ). l ++ first) whole ∙ append_assoc head rest first, spelling, spelled_push rest first frames f more s)

-- Two ways to take frames off the same bytes, as far as there are frames, are one.
pub same_frames : (frames others : List Frame) (filled full rest left : List ℕ) → Spelled filled frames → Spelled full others
    → filled ++ rest ≡ full ++ left → ((f : Frame) → Begins rest f → ⊥) → ((f : Frame) → Begins left f → ⊥)
    → (frames ≡ others) × (filled ≡ full) × (rest ≡ left)
same_frames [] [] filled full rest left e d same ends closes =
    (refl, e ∙ sym d, ap (λ (l : List ℕ). l ++ rest) (sym e) ∙ same ∙ ap (λ (l : List ℕ). l ++ left) d)
same_frames [] (g ∷ others) filled full rest left e (first, more, whole, spelling, _) same ends closes =
    absurd (ends g (record {
      first = first;
      more = more ++ left;
      whole = ap (λ (l : List ℕ). l ++ rest) (sym e) ∙ same ∙ ap (λ (l : List ℕ). l ++ left) whole ∙ append_assoc first more left;
      spelling = spelling;
    }))
same_frames (f ∷ frames) [] filled full rest left (first, more, whole, spelling, _) d same ends closes =
    absurd (closes f (record {
      first = first;
      more = more ++ rest;
      whole = ap (λ (l : List ℕ). l ++ left) (sym d) ∙ sym same ∙ ap (λ (l : List ℕ). l ++ rest) whole ∙ append_assoc first more rest;
      spelling = spelling;
    }))
same_frames (f ∷ frames) (g ∷ others) filled full rest left (first, more, whole, spelling, spelled) (front, after, whole', spelling', spelled') same ends closes =
    let both : first ++ (more ++ rest) ≡ front ++ (after ++ left) =
    sym (append_assoc first more rest) ∙ ap (λ (l : List ℕ). l ++ rest) (sym whole) ∙ same ∙ ap (λ (l : List ℕ). l ++ left) whole' ∙ append_assoc front after left in
    let one = one_spelling first (more ++ rest) front (after ++ left) f g spelling spelling' both in
    let further = same_frames frames others more after rest left spelled spelled' one.2 ends closes in
    ((λ i. one.0 i ∷ further.0 i), whole ∙ (λ i. one.1 i ++ further.1 i) ∙ sym whole', further.2)

-- Both an unfinished rest and a bad header end the frames.
pub framed-stopped : (bytes rest : List ℕ) (frames others : List Frame) (at : ℕ) (reason : Reason) → Framed bytes frames rest → Stopped bytes others at reason → ⊥
framed-stopped bytes rest frames others at reason a b =
    let one = same_frames frames others a.filled b.filled rest b.left a.spelled b.spelled (sym a.whole ∙ b.whole) a.unfinished.no_frame (bad_is_no_frame b.left reason b.bad_header) in
    let P : List ℕ → Type 0 = λ l. IsBadHeader l reason in
    a.unfinished.no_bad_header reason (subst P (sym one.2) b.bad_header)

pub framed-framed : (bytes rest other : List ℕ) (frames others : List Frame) → Framed bytes frames rest → Framed bytes others other → (frames ≡ others) × (rest ≡ other)
framed-framed bytes rest other frames others a b =
    let one = same_frames frames others a.filled b.filled rest other a.spelled b.spelled (sym a.whole ∙ b.whole) a.unfinished.no_frame b.unfinished.no_frame in
    (one.0, one.2)

same_some : (o o' : Option Reason) (a b : Reason) → o ≡ Some a → o' ≡ Some b → o ≡ o' → a ≡ b
same_some o o' a b p q r = cc

pub stopped-stopped : (bytes : List ℕ) (frames others : List Frame) (at place : ℕ) (reason other : Reason)
    → Stopped bytes frames at reason → Stopped bytes others place other → (frames ≡ others) × (at ≡ place) × (reason ≡ other)
stopped-stopped bytes frames others at place reason other a b =
    let one = same_frames frames others a.filled b.filled a.left b.left a.spelled b.spelled (sym a.whole ∙ b.whole)
    (bad_is_no_frame a.left reason a.bad_header) (bad_is_no_frame b.left other b.bad_header) in (
      one.0,
      sym a.place ∙ ap length one.1 ∙ b.place,
      same_some (header_fault a.left) (header_fault b.left) reason other a.bad_header.1 b.bad_header.1 (ap header_fault one.2),
    )

-- A stream that stopped stays so, whatever follows.
pub stopped-append : (bytes more : List ℕ) (frames : List Frame) (at : ℕ) (reason : Reason) → Stopped bytes frames at reason → Stopped (bytes ++ more) frames at reason
stopped-append bytes more frames at reason s = record {
  filled = s.filled;
  left = s.left ++ more;
  spelled = s.spelled;
  whole = ap (λ (l : List ℕ). l ++ more) s.whole ∙ append_assoc s.filled s.left more;
  place = s.place;
  bad_header = bad_header-append s.left more reason s.bad_header;
}

-- Bytes begin with a frame, or with a bad header, or are less than a frame.
by_fault : (bytes : List ℕ) → IsBytes bytes → 16 ≤ length bytes → (o : Option Reason) → header_fault bytes ≡ o
    → ((f : Frame) × Begins bytes f) ⊎ (((reason : Reason) × IsBadHeader bytes reason) ⊎ IsUnfinished bytes)
by_fault bytes fits long (Some reason) e = inr (inl (reason, (long, e)))
by_fault bytes fits long None e = elim (cases_lt (length bytes) (16 + payload_length_in bytes)) [
  | inl short ↦ inr (inr (cut_is_unfinished bytes e short))
  | inr enough ↦ inl (_, begins (header_in bytes) bytes long fits (faultless_is_good bytes e) enough)
]

pub judged : (bytes : List ℕ) → IsBytes bytes → ((f : Frame) × Begins bytes f) ⊎ (((reason : Reason) × IsBadHeader bytes reason) ⊎ IsUnfinished bytes)
judged bytes fits = elim (cases_lt (length bytes) 16) [
  | inl short ↦ inr (inr (short_is_unfinished bytes short))
  | inr long ↦ by_fault bytes fits long (header_fault bytes) refl
]

-- what one more frame in front makes of a stream
framed-cons : (first more rest : List ℕ) (f : Frame) (frames : List Frame) → IsSpelling first f → Framed more frames rest → Framed (first ++ more) (f ∷ frames) rest
framed-cons first more rest f frames s framed = record {
  filled = first ++ framed.filled;
  spelled = (first, framed.filled, refl, s, framed.spelled);
  whole = ap (λ (l : List ℕ). first ++ l) framed.whole ∙ sym (append_assoc first framed.filled rest);
  unfinished = framed.unfinished;
}

stopped-cons : (first more : List ℕ) (f : Frame) (frames : List Frame) (at : ℕ) (reason : Reason) → IsSpelling first f → Stopped more frames at reason
    → Stopped (first ++ more) (f ∷ frames) (length first + at) reason
stopped-cons first more f frames at reason s stopped = record {
  filled = first ++ stopped.filled;
  left = stopped.left;
  spelled = (first, stopped.filled, refl, s, stopped.spelled);
  whole = ap (λ (l : List ℕ). first ++ l) stopped.whole ∙ sym (append_assoc first stopped.filled stopped.left);
  place = length-append first stopped.filled ∙ ap (λ (n : ℕ). length first + n) stopped.place;
  bad_header = stopped.bad_header;
}

-- what every stream is
abbrev pub HasFrames : List ℕ → Type 0
HasFrames bytes = ((frames : List Frame) × (rest : List ℕ) × Framed bytes frames rest) ⊎ ((frames : List Frame) × (at : ℕ) × (reason : Reason) × Stopped bytes frames at reason)

unfinished-framed : (bytes : List ℕ) → IsUnfinished bytes → Framed bytes [] bytes
unfinished-framed bytes u = record { filled = []; spelled = refl; whole = refl; unfinished = u }

bad-stopped : (bytes : List ℕ) (reason : Reason) → IsBadHeader bytes reason → Stopped bytes [] 0 reason
bad-stopped bytes reason bad = record { filled = []; left = bytes; spelled = refl; whole = refl; place = refl; bad_header = bad }

has_frames-cons : (first more : List ℕ) (f : Frame) → IsSpelling first f → HasFrames more → HasFrames (first ++ more)
has_frames-cons first more f s (inl (frames, rest, framed)) = inl (f ∷ frames, rest, framed-cons first more rest f frames s framed)
has_frames-cons first more f s (inr (frames, at, reason, stopped)) = inr (f ∷ frames, length first + at, reason, stopped-cons first more f frames at reason s stopped)

has_frames_up_to : (n : ℕ) (bytes : List ℕ) → length bytes ≤ n → IsBytes bytes → HasFrames bytes
has_frames_up_to zero bytes size fits = inl ([], bytes, unfinished-framed bytes (short_is_unfinished bytes (omega arith)))
has_frames_up_to (suc n) bytes size fits = elim (judged bytes fits) [
  | inl found ↦
      let b = found.1 in
      let whole = ap length b.whole ∙ length-append b.first b.more in
      let first = length-spelling b.first found.0 b.spelling in
      let shorter : length b.more ≤ n = omega (arith, whole, first) in
      let fit : IsBytes b.more = IsBytes-behind b.first b.more (subst IsBytes b.whole fits) in
      subst HasFrames (sym b.whole) (has_frames-cons b.first b.more found.0 b.spelling (has_frames_up_to n b.more shorter fit))
  | inr (inl bad) ↦ inr ([], 0, bad.0, bad-stopped bytes bad.0 bad.1)
  | inr (inr u) ↦ inl ([], bytes, unfinished-framed bytes u)
]

-- every stream of bytes is frames up to its end
pub has_frames : (bytes : List ℕ) → IsBytes bytes → HasFrames bytes
has_frames bytes fits = has_frames_up_to (length bytes) bytes (omega arith) fits

-- Frames that are given out, one by one.

-- the place and the rest are at the stream's end
pub given-end : (bytes : List ℕ) (frames : List Frame) (b : Buffered) → GivenOut bytes frames b → b.place + length b.rest ≡ length bytes
given-end bytes frames b g =
    let whole = ap length g.whole ∙ length-append g.filled b.rest in
    let place = g.place in
    omega (arith, whole, place)

-- the frame at the front is given out
pub given-frame : (bytes : List ℕ) (frames : List Frame) (b after : Buffered) (f : Frame) (begins : Begins b.rest f) → GivenOut bytes frames b
    → after ≡ record { place = b.place + length begins.first; rest = begins.more } → GivenOut bytes (frames ++ f ∷ []) after
given-frame bytes frames b after f begins g e = record {
  filled = g.filled ++ begins.first;
  spelled = spelled_push g.filled begins.first frames f g.spelled begins.spelling;
  whole = g.whole ∙ ap (λ (l : List ℕ). g.filled ++ l) begins.whole ∙ sym (append_assoc g.filled begins.first begins.more)
      ∙ ap (λ (l : List ℕ). g.filled ++ begins.first ++ l) (sym (ap (λ (x : Buffered). x.rest) e));
  place = ap (λ (x : Buffered). x.place) e ∙ ap (λ (n : ℕ). n + length begins.first) g.place ∙ sym (length-append g.filled begins.first);
}

pub advanced-end : (b after : Buffered) (f : Frame) (begins : Begins b.rest f)
    → after ≡ record { place = b.place + length begins.first; rest = begins.more } → after.place + length after.rest ≡ b.place + length b.rest
advanced-end b after f begins e =
    ap (λ (x : Buffered). x.place + length x.rest) e
    ∙ (let whole = ap length begins.whole ∙ length-append begins.first begins.more in omega (arith, whole))

pub advanced-shorter : (b after : Buffered) (f : Frame) (begins : Begins b.rest f)
    → after ≡ record { place = b.place + length begins.first; rest = begins.more } → length after.rest < length b.rest
advanced-shorter b after f begins e =
    let whole = ap length begins.whole ∙ length-append begins.first begins.more in
    let first = length-spelling begins.first f begins.spelling in
    let rest = ap (λ (x : Buffered). length x.rest) e in
    omega (arith, whole, first, rest)

-- a bad header stands at the front
pub given-stop : (bytes : List ℕ) (frames : List Frame) (b : Buffered) (at : ℕ) (reason : Reason) → GivenOut bytes frames b → at ≡ b.place
    → IsBadHeader b.rest reason → Stopped bytes frames at reason
given-stop bytes frames b at reason g place bad = record {
  filled = g.filled;
  left = b.rest;
  spelled = g.spelled;
  whole = g.whole;
  place = sym (place ∙ g.place);
  bad_header = bad;
}

-- less than a frame stands at the front
pub given-framed : (bytes : List ℕ) (frames : List Frame) (b : Buffered) → GivenOut bytes frames b → IsUnfinished b.rest → Framed bytes frames b.rest
given-framed bytes frames b g u = record { filled = g.filled; spelled = g.spelled; whole = g.whole; unfinished = u }

-- more bytes are fed
pub given-feed : (bytes more : List ℕ) (frames : List Frame) (b after : Buffered) → GivenOut bytes frames b → after.rest ≡ b.rest ++ more → after.place ≡ b.place
    → GivenOut (bytes ++ more) frames after
given-feed bytes more frames b after g rest place = record {
  filled = g.filled;
  spelled = g.spelled;
  whole = ap (λ (l : List ℕ). l ++ more) g.whole ∙ append_assoc g.filled b.rest more ∙ ap (λ (l : List ℕ). g.filled ++ l) (sym rest);
  place = place ∙ g.place;
}

-- nothing was fed and given out yet
pub given-nothing : (b : Buffered) → b ≡ record { place = 0; rest = [] } → GivenOut [] [] b
given-nothing b e = record {
  filled = [];
  spelled = refl;
  whole = sym (ap (λ (x : Buffered). x.rest) e);
  place = ap (λ (x : Buffered). x.place) e;
}

-- Of a piece all but `left` was fed, and its frames were given out.
pub record Fed (was : List Frame) (held : Buffered) (piece left : List ℕ) (frames : List Frame) (b : Buffered) : Type 0 where
  pub done : List ℕ
  pub whole : piece ≡ done ++ left
  pub given : (bytes : List ℕ) → GivenOut bytes was held → GivenOut (bytes ++ done) frames b
  pub end : b.place + length b.rest ≡ held.place + length held.rest + length done
  pub room : length b.rest < buffer_length
  pub unfinished : IsUnfinished b.rest

-- what stands behind `bytes` once more of the piece was fed
fed_bytes : (bytes done left piece : List ℕ) (n : ℕ) → piece ≡ done ++ left → (bytes ++ done ++ take n left) ++ drop n left ≡ bytes ++ piece
fed_bytes bytes done left piece n whole =
    append_assoc (bytes ++ done) (take n left) (drop n left) ∙ ap (λ (l : List ℕ). bytes ++ done ++ l) (take-append-drop n left)
    ∙ append_assoc bytes done left ∙ ap (λ (l : List ℕ). bytes ++ l) (sym whole)

-- what was given out once more of the piece was fed
pub fed-given : (was frames : List Frame) (held b fed : Buffered) (piece left : List ℕ) (n : ℕ) (f : Fed was held piece left frames b)
    → fed.rest ≡ b.rest ++ take n left → fed.place ≡ b.place → (bytes : List ℕ) → GivenOut bytes was held → GivenOut (bytes ++ f.done ++ take n left) frames fed
fed-given was frames held b fed piece left n f rest place bytes g =
    given-feed (bytes ++ f.done) (take n left) frames b fed (f.given bytes g) rest place

pub fed-stopped : (was frames further : List Frame) (held b fed : Buffered) (piece left : List ℕ) (n at : ℕ) (reason : Reason) (f : Fed was held piece left frames b)
    → fed.rest ≡ b.rest ++ take n left → fed.place ≡ b.place → ((bytes : List ℕ) → GivenOut bytes frames fed → Stopped bytes further at reason)
    → (bytes : List ℕ) → GivenOut bytes was held → Stopped (bytes ++ piece) further at reason
fed-stopped was frames further held b fed piece left n at reason f rest place stops bytes g =
    let stopped = stops (bytes ++ f.done ++ take n left) (fed-given was frames held b fed piece left n f rest place bytes g) in
    let P : List ℕ → Type 0 = λ l. Stopped l further at reason in
    subst P (fed_bytes bytes f.done left piece n f.whole) (stopped-append (bytes ++ f.done ++ take n left) (drop n left) further at reason stopped)

pub fed-more : (was frames further : List Frame) (held b fed after : Buffered) (piece left behind : List ℕ) (n : ℕ) → Fed was held piece left frames b
    → n ≤ length left → fed.rest ≡ b.rest ++ take n left → fed.place ≡ b.place → behind ≡ drop n left
    → ((bytes : List ℕ) → GivenOut bytes frames fed → GivenOut bytes further after)
    → after.place + length after.rest ≡ fed.place + length fed.rest → length after.rest < buffer_length → IsUnfinished after.rest
    → Fed was held piece behind further after
fed-more was frames further held b fed after piece left behind n f fits rest place same gives end room unfinished = record {
  done = f.done ++ take n left;
  whole = f.whole ∙ ap (λ (l : List ℕ). f.done ++ l) (sym (take-append-drop n left)) ∙ sym (append_assoc f.done (take n left) (drop n left))
      ∙ ap (λ (l : List ℕ). f.done ++ take n left ++ l) (sym same);
  given = λ bytes g.
      let given = gives (bytes ++ f.done ++ take n left) (fed-given was frames held b fed piece left n f rest place bytes g) in
      let P : List ℕ → Type 0 = λ l. GivenOut l further after in
      subst P (append_assoc bytes f.done (take n left)) given;
  end =
      let size = ap length rest ∙ length-append b.rest (take n left) in
      let more = length-append f.done (take n left) in
      let before = f.end in
      omega (arith, size, more, before, end, place);
  room = room;
  unfinished = unfinished;
}

-- The pieces of a stream.

-- all pieces, in a row
abbrev pub joined : List (List ℕ) → List ℕ
joined pieces = flat_map (λ piece. piece) pieces

pub joined-more : (pieces : List (List ℕ)) (i : ℕ) (piece : List ℕ) → i < length pieces → piece ≡ get_or pieces i piece
    → joined (take (i + 1) pieces) ≡ joined (take i pieces) ++ piece
joined-more pieces i piece low is =
    ap joined (take_more pieces i piece low) ∙ flat_map-append (λ (p : List ℕ). p) (take i pieces) (get_or pieces i piece ∷ [])
    ∙ ap (λ (l : List ℕ). joined (take i pieces) ++ l) (append-nil (get_or pieces i piece) ∙ sym is)

pub joined-split : (pieces : List (List ℕ)) (i : ℕ) → joined pieces ≡ joined (take i pieces) ++ joined (drop i pieces)
joined-split pieces i = ap joined (sym (take-append-drop i pieces)) ∙ flat_map-append (λ (p : List ℕ). p) (take i pieces) (drop i pieces)

pub joined-all : (pieces : List (List ℕ)) (i : ℕ) → length pieces ≤ i → joined (take i pieces) ≡ joined pieces
joined-all pieces i all = ap joined (take_all i pieces all)

pub joined-front : (pieces : List (List ℕ)) (i : ℕ) → length (joined (take i pieces)) ≤ length (joined pieces)
joined-front pieces i = let e = ap length (joined-split pieces i) ∙ length-append (joined (take i pieces)) (joined (drop i pieces)) in omega (arith, e)

-- Of the pieces before this one all frames were given out.
pub record Read (bytes : List ℕ) (frames : List Frame) (b : Buffered) : Type 0 where
  pub given : GivenOut bytes frames b
  pub room : length b.rest < buffer_length
  pub unfinished : IsUnfinished b.rest

-- a stream that stopped in a piece stays so over all pieces
pub stopped-joined : (pieces : List (List ℕ)) (i : ℕ) (piece lent : List ℕ) (frames : List Frame) (at : ℕ) (reason : Reason) → i < length pieces
    → piece ≡ get_or pieces i piece → lent ≡ piece → Stopped (joined (take i pieces) ++ lent) frames at reason → Stopped (joined pieces) frames at reason
stopped-joined pieces i piece lent frames at reason low is same stopped =
    let all : joined (take i pieces) ++ lent ++ joined (drop (i + 1) pieces) ≡ joined pieces =
    ap (λ (l : List ℕ). l ++ joined (drop (i + 1) pieces)) (ap (λ (l : List ℕ). joined (take i pieces) ++ l) same ∙ sym (joined-more pieces i piece low is))
    ∙ sym (joined-split pieces (i + 1)) in
    let P : List ℕ → Type 0 = λ l. Stopped l frames at reason in
    subst P all (stopped-append (joined (take i pieces) ++ lent) (joined (drop (i + 1) pieces)) frames at reason stopped)

pub read-more : (pieces : List (List ℕ)) (i : ℕ) (piece lent : List ℕ) (frames : List Frame) (b : Buffered) → i < length pieces
    → piece ≡ get_or pieces i piece → lent ≡ piece → GivenOut (joined (take i pieces) ++ lent) frames b → length b.rest < buffer_length → IsUnfinished b.rest
    → Read (joined (take (i + 1) pieces)) frames b
read-more pieces i piece lent frames b low is same given room unfinished =
    let P : List ℕ → Type 0 = λ l. GivenOut l frames b in
    record {
      given = subst P (ap (λ (l : List ℕ). joined (take i pieces) ++ l) same ∙ sym (joined-more pieces i piece low is)) given;
      room = room;
      unfinished = unfinished;
    }
