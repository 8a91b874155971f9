-- Which bytes begin with a frame, and with which.
use Rattle.std.proofs.Common.{◌≡◌, ◌==◌, ℕ, zero, suc, ◌+◌, ◌^◌, ◌<◌, ◌≤◌, Bool, true, false, List, [], ◌∷◌, ◌++◌, length, take, drop, get_or, Option, Some, None, refl, sym, ap, ◌∙◌, subst, arith, length-append, append_assoc}
use Rattle.std.proofs.lemmas.Nat.{be_bytes_2, be_bytes_4}
use Rattle.std.proofs.lemmas.List.{take_at, drop_at, take-append-drop, length-take-le, length-drop}
use Rattle.afp_base.specs.Limits.{payload_limit}
use Rattle.byteorder.specs.Endian.{big_number, big_bytes}
use Rattle.byteorder.specs.Numbers.{big_number-reads_back}
use Rattle.dsi_frame.specs.declared.frame.DsiCommand.{DsiCommand}
use Rattle.dsi_frame.specs.declared.frame.Reason.{Reason}
use Rattle.dsi_frame.specs.declared.frame.Header.{Header}
use Rattle.afp_base.specs.Bytes.{IsBytes}
use Rattle.dsi_frame.specs.Frame.{Frame, IsGood, IsSpelling, IsBadHeader, WordFits, header, canonical_frame, header_fault, flags_byte, flags_in, command_number, command_in, word_in, payload_length_in, frame_of, header_of, canonical_header}
use Rattle.dsi_frame.specs.lemma.GoodHeader.{IsGoodHeader, id_in}
use Rattle.dsi_frame.specs.Stream.{Begins, IsUnfinished}
use Rattle.dsi_frame.proofs.HeaderLemmas.{command_at, command_at-number, by_header, good_has_no_fault, header_fault-append}

-- a length and more
length-header : (reserved : List ℕ) (f : Frame) → length reserved ≡ 4 → length (header reserved f) ≡ 16
length-header reserved f four = omega (arith, four)

pub length-spelling : (first : List ℕ) (f : Frame) → IsSpelling first f → length first ≡ 16 + length f.payload
length-spelling first f s =
    ap length s.whole ∙ length-append (header s.reserved f) f.payload ∙ ap (λ (n : ℕ). n + length f.payload) (length-header s.reserved f s.four)

-- the fields of the frame that bytes begin with
pub fields : (first more : List ℕ) (f : Frame) → IsSpelling first f → IsGoodHeader (first ++ more) (header_of f)
fields first more f s = rw s.whole (record {
  flags = refl;
  command = refl;
  id = big_number-reads_back 2 f.id (big_bytes 4 f.word ++ big_bytes 4 (length f.payload) ++ s.reserved ++ f.payload ++ more) (omega (arith, s.good.id));
  word = big_number-reads_back 4 f.word (big_bytes 4 (length f.payload) ++ s.reserved ++ f.payload ++ more) (omega (arith, s.good.word));
  size = big_number-reads_back 4 (length f.payload) (s.reserved ++ f.payload ++ more) (omega (arith, s.good.payload));
  limit = s.good.payload;
  offset = s.good.offset;
})

-- the payload stands behind the header, and then what follows the frame
pub behind_header : (first more : List ℕ) (f : Frame) → IsSpelling first f → drop 16 (first ++ more) ≡ f.payload ++ more
behind_header first more f s =
    ap (λ (l : List ℕ). drop 16 (l ++ more)) s.whole ∙ ap (drop 16) (append_assoc (header s.reserved f) f.payload more)
    ∙ drop_at (header s.reserved f) (f.payload ++ more) 16 (length-header s.reserved f s.four)

-- the frame that bytes begin with, where they begin with one
abbrev pub frame_in : List ℕ → Frame
frame_in bytes = record {
  reply = flags_in bytes == 1;
  command = command_at (command_in bytes);
  id = id_in bytes;
  word = word_in bytes;
  payload = take (payload_length_in bytes) (drop 16 bytes);
}

reply-flags : (reply : Bool) → (flags_byte reply == 1) ≡ reply
reply-flags true = refl
reply-flags false = refl

-- a frame is its fields
frame_is : (reply : Bool) (command : DsiCommand) (id word : ℕ) (payload : List ℕ) (f : Frame)
    → reply ≡ f.reply → command ≡ f.command → id ≡ f.id → word ≡ f.word → payload ≡ f.payload
    → frame_of (record { reply = reply; command = command; id = id; word = word; length = 0 }) payload ≡ f
frame_is reply _ id word payload f a b c d e = λ i. record { reply = a i; command = b i; id = c i; word = d i; payload = e i }

pub frame_in-spelling : (first more : List ℕ) (f : Frame) → IsSpelling first f → frame_in (first ++ more) ≡ f
frame_in-spelling first more f s =
    let g = fields first more f s in
    let payload : take (payload_length_in (first ++ more)) (drop 16 (first ++ more)) ≡ f.payload =
    rw (behind_header first more f s) (take_at f.payload more (payload_length_in (first ++ more)) (sym g.size)) in
    let reply : (flags_in (first ++ more) == 1) ≡ f.reply = ap (λ (n : ℕ). n == 1) g.flags ∙ reply-flags f.reply in
    let command : command_at (command_in (first ++ more)) ≡ f.command = ap command_at g.command ∙ command_at-number f.command in
    frame_is _ _ _ _ _ f reply command g.id g.word payload

-- a header's bytes, one by one
cells : (f : Frame) (a b c d e g h i j k l m n o p q : ℕ) (rest : List ℕ)
    → a ≡ flags_byte f.reply → b ≡ command_number f.command → big_bytes 2 f.id ≡ c ∷ d ∷ []
    → big_bytes 4 f.word ≡ e ∷ g ∷ h ∷ i ∷ [] → big_bytes 4 (length f.payload) ≡ j ∷ k ∷ l ∷ m ∷ []
    → a ∷ b ∷ c ∷ d ∷ e ∷ g ∷ h ∷ i ∷ j ∷ k ∷ l ∷ m ∷ n ∷ o ∷ p ∷ q ∷ rest ≡ header (n ∷ o ∷ p ∷ q ∷ []) f ++ rest
cells f a b c d e g h i j k l m n o p q rest flags command id word size = cc

-- two and four bytes
two_fit : (a b : ℕ) → a < 256 → b < 256 → (i : ℕ) → get_or (a ∷ b ∷ []) i 0 < 256
two_fit a b p q zero = p
two_fit a b p q (suc zero) = q
two_fit a b p q (suc (suc i)) = omega arith

four_fit : (a b c d : ℕ) → a < 256 → b < 256 → c < 256 → d < 256 → (i : ℕ) → get_or (a ∷ b ∷ c ∷ d ∷ []) i 0 < 256
four_fit a b c d p q r s zero = p
four_fit a b c d p q r s (suc zero) = q
four_fit a b c d p q r s (suc (suc zero)) = r
four_fit a b c d p q r s (suc (suc (suc zero))) = s
four_fit a b c d p q r s (suc (suc (suc (suc i)))) = omega arith

big_2_lt : (a b : ℕ) → a < 256 → b < 256 → (n : ℕ) → big_number 2 (a ∷ b ∷ []) ≡ n → n < 2 ^ 16
big_2_lt a b p q n e = omega arith

big_4_lt : (a b c d : ℕ) → a < 256 → b < 256 → c < 256 → d < 256 → (n : ℕ) → big_number 4 (a ∷ b ∷ c ∷ d ∷ []) ≡ n → n < 2 ^ 32
big_4_lt a b c d p q r s n e = omega arith

good_frame : (h : Header) (payload : List ℕ) → length payload ≡ h.length → h.id < 2 ^ 16 → h.word < 2 ^ 32 → h.length ≤ payload_limit
    → WordFits h.reply h.command h.word h.length → IsGood (frame_of h payload)
good_frame h payload size id word limit offset = record { id = id; word = word; payload = omega arith; offset = rw size offset }

-- bytes with a good header and its payload begin with a frame
pub begins : (h : Header) (bytes : List ℕ) → 16 ≤ length bytes → IsBytes bytes → IsGoodHeader bytes h → 16 + h.length ≤ length bytes
    → Begins bytes (frame_of h (take h.length (drop 16 bytes)))
begins h bytes long = by_header (λ bs. IsBytes bs → IsGoodHeader bs h → 16 + h.length ≤ length bs → Begins bs (frame_of h (take h.length (drop 16 bs))))
    (λ a b c d e f g i j k l m n o p q tail fits good enough.
    let id : big_bytes 2 h.id ≡ c ∷ d ∷ [] = be_bytes_2 (c ∷ d ∷ []) h.id refl (two_fit c d (fits 2) (fits 3)) (omega (arith, good.id)) in
    let word : big_bytes 4 h.word ≡ e ∷ f ∷ g ∷ i ∷ [] = be_bytes_4 (e ∷ f ∷ g ∷ i ∷ []) h.word refl (four_fit e f g i (fits 4) (fits 5) (fits 6) (fits 7)) (omega (arith, good.word)) in
    let size : big_bytes 4 h.length ≡ j ∷ k ∷ l ∷ m ∷ [] = be_bytes_4 (j ∷ k ∷ l ∷ m ∷ []) h.length refl (four_fit j k l m (fits 8) (fits 9) (fits 10) (fits 11)) (omega (arith, good.size)) in
    let payload : length (take h.length tail) ≡ h.length = length-take-le h.length tail (omega (arith, enough)) in
    record {
      first = a ∷ b ∷ c ∷ d ∷ e ∷ f ∷ g ∷ i ∷ j ∷ k ∷ l ∷ m ∷ n ∷ o ∷ p ∷ q ∷ take h.length tail;
      more = drop h.length tail;
      whole = ap (λ (t : List ℕ). a ∷ b ∷ c ∷ d ∷ e ∷ f ∷ g ∷ i ∷ j ∷ k ∷ l ∷ m ∷ n ∷ o ∷ p ∷ q ∷ t) (sym (take-append-drop h.length tail));
      spelling = record {
        reserved = n ∷ o ∷ p ∷ q ∷ [];
        four = refl;
        whole = cells (frame_of h (take h.length tail)) a b c d e f g i j k l m n o p q (take h.length tail) good.flags good.command id word (ap (big_bytes 4) payload ∙ size);
        good = good_frame h (take h.length tail) payload (big_2_lt c d (fits 2) (fits 3) h.id good.id) (big_4_lt e f g i (fits 4) (fits 5) (fits 6) (fits 7) h.word good.word) good.limit good.offset;
      };
    }) bytes long

-- one frame, in one length

-- the frame that bytes begin with
pub frame_in-begins : (bytes : List ℕ) (f : Frame) → Begins bytes f → frame_in bytes ≡ f
frame_in-begins bytes f b = ap frame_in b.whole ∙ frame_in-spelling b.first b.more f b.spelling

pub one_frame_begins : (bytes : List ℕ) (f g : Frame) → Begins bytes f → Begins bytes g → f ≡ g
one_frame_begins bytes f g b d = sym (frame_in-begins bytes f b) ∙ frame_in-begins bytes g d

-- lists of one length that begin equal lists are equal
same_front : (first more other others : List ℕ) → length first ≡ length other → first ++ more ≡ other ++ others
    → (first ≡ other) × (more ≡ others)
same_front first more other others size same = (
  sym (take_at first more (length first) refl) ∙ ap (take (length first)) same ∙ take_at other others (length first) (sym size),
  sym (drop_at first more (length first) refl) ∙ ap (drop (length first)) same ∙ drop_at other others (length first) (sym size),
)

pub one_spelling : (first more other others : List ℕ) (f g : Frame) → IsSpelling first f → IsSpelling other g → first ++ more ≡ other ++ others
    → (f ≡ g) × (first ≡ other) × (more ≡ others)
one_spelling first more other others f g s t same =
    let e : f ≡ g = sym (frame_in-spelling first more f s) ∙ ap frame_in same ∙ frame_in-spelling other others g t in
    let size : length first ≡ length other = length-spelling first f s ∙ ap (λ (h : Frame). 16 + length h.payload) e ∙ sym (length-spelling other g t) in
    let fronts = same_front first more other others size same in
    (e, fronts.0, fronts.1)

-- a frame that was written is read again
pub canonical_spelling : (f : Frame) → IsGood f → IsSpelling (canonical_frame f) f
canonical_spelling f good = record { reserved = 0 ∷ 0 ∷ 0 ∷ 0 ∷ []; four = refl; whole = refl; good = good }

pub canonical_begins : (f : Frame) (more : List ℕ) → IsGood f → Begins (canonical_frame f ++ more) f
canonical_begins f more good = record { first = canonical_frame f; more = more; whole = refl; spelling = canonical_spelling f good }

-- what a whole frame at the front shows of the bytes
pub begins-good : (bytes : List ℕ) (f : Frame) → Begins bytes f → IsGoodHeader bytes (header_of f)
begins-good bytes f b = let P : List ℕ → Type 0 = λ l. IsGoodHeader l (header_of f) in subst P (sym b.whole) (fields b.first b.more f b.spelling)

pub begins-length : (bytes : List ℕ) (f : Frame) → Begins bytes f → 16 + payload_length_in bytes ≤ length bytes
begins-length bytes f b =
    let size = (begins-good bytes f b).size in
    let whole = ap length b.whole ∙ length-append b.first b.more in
    let first = length-spelling b.first f b.spelling in
    omega (arith, size, whole, first)

pub begins-payload : (bytes : List ℕ) (f : Frame) → Begins bytes f → take (payload_length_in bytes) (drop 16 bytes) ≡ f.payload
begins-payload bytes f b = ap (λ (g : Frame). g.payload) (frame_in-begins bytes f b)

-- less than a header is less than a frame
pub short_is_unfinished : (bytes : List ℕ) → length bytes < 16 → IsUnfinished bytes
short_is_unfinished bytes short = record {
  no_frame = λ f b. let l = begins-length bytes f b in omega (arith, l);
  no_bad_header = λ reason b. let l = b.0 in omega (arith, l);
}

none_is_no_some : (o : Option Reason) (reason : Reason) → o ≡ None → o ≡ Some reason → ⊥
none_is_no_some o reason a b = cc

-- a good header without its whole payload is less than a frame
pub cut_is_unfinished : (bytes : List ℕ) → header_fault bytes ≡ None → length bytes < 16 + payload_length_in bytes → IsUnfinished bytes
cut_is_unfinished bytes good short = record {
  no_frame = λ f b. let l = begins-length bytes f b in omega (arith, l);
  no_bad_header = λ reason b. none_is_no_some (header_fault bytes) reason good b.1;
}

-- a bad header is no frame's
pub bad_is_no_frame : (bytes : List ℕ) (reason : Reason) → IsBadHeader bytes reason → (f : Frame) → Begins bytes f → ⊥
bad_is_no_frame bytes reason bad f b =
    none_is_no_some (header_fault bytes) reason (good_has_no_fault bytes (header_of f) (begins-good bytes f b)) bad.1

-- a bad header stays bad, whatever follows it
pub bad_header-append : (bytes more : List ℕ) (reason : Reason) → IsBadHeader bytes reason → IsBadHeader (bytes ++ more) reason
bad_header-append bytes more reason bad =
    let l = bad.0 in
    (omega (arith, l, length-append bytes more), header_fault-append bytes more bad.0 ∙ bad.1)

-- the header that a frame was made with
pub header_of-frame_of : (h : Header) (bytes : List ℕ) → 16 + h.length ≤ length bytes → h ≡ header_of (frame_of h (take h.length (drop 16 bytes)))
header_of-frame_of h bytes enough =
    let size : h.length ≡ length (take h.length (drop 16 bytes)) = sym (length-take-le h.length (drop 16 bytes) (omega (arith, length-drop 16 bytes))) in
    λ i. record { reply = h.reply; command = h.command; id = h.id; word = h.word; length = size i }

-- a header and a payload are a frame's
pub frame_of-header_of : (h : Header) (payload : List ℕ) (f : Frame) → h ≡ header_of f → payload ≡ f.payload → frame_of h payload ≡ f
frame_of-header_of h payload f header same = λ i. frame_of (header i) (same i)

-- what is behind `out` when a header and its payload were appended
pub written : (out whole one two bytes payload : List ℕ) (h : Header) → whole ≡ out → bytes ≡ canonical_header h → one ≡ whole ++ bytes
    → two ≡ one ++ payload → h.length ≡ length payload → two ≡ out ++ canonical_frame (frame_of h payload)
written out whole one two bytes payload h a b c d size =
    d ∙ ap (λ (l : List ℕ). l ++ payload) (c ∙ (λ i. a i ++ b i)) ∙ append_assoc out (canonical_header h) payload
    ∙ ap (λ (n : ℕ). out ++ (canonical_header (record { reply = h.reply; command = h.command; id = h.id; word = h.word; length = n }) ++ payload)) size
