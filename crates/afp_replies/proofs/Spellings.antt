-- Each field has one value, and where it stands is told by its bytes.
use Rattle.std.proofs.Common.{◌≡◌, false, ◌==◌, ℕ, ◌+◌, ◌^◌, ◌<◌, List, [], ◌++◌, length, take, drop, refl, sym, ap, ◌∙◌, subst, arith, append_assoc, length-append, Result, Ok, Err}
use Rattle.std.proofs.lemmas.Bool.{eqb-true, not-false}
use Rattle.std.proofs.lemmas.List.{take-append-drop, take_at, drop_at, length-take-le, append-nil}
use Rattle.std.specs.Prelude.{bit_and}
use Rattle.byteorder.specs.Endian.{big_number, big_bytes}
use Rattle.afp_bitmap.specs.Bits.{IsWithin, is_outside}
use Rattle.afp_replies.specs.declared.reply.ReplyFault.{ReplyFault}
use Rattle.afp_replies.specs.declared.reply.ReplyFault.TheVariants.{Bad, Memory}
use Rattle.afp_replies.specs.Bytes.{with_count}
use Rattle.afp_replies.specs.Words.{Number, Exactly, Asked, Raw, Counted}
use Rattle.afp_replies.specs.Layout.{Lacks}
use Rattle.afp_replies.specs.lemma.Reading.{Rest, Took, TakesWord, Front, FrontIs}
use Rattle.afp_base.proofs.Numbers.{bytes_again, number_again, length-big_bytes, big_number-lt}

-- the front and the rest of a list that is split
pub front_is : (xs a b : List ℕ) (n : ℕ) → xs ≡ a ++ b → length a ≡ n → take n xs ≡ a
front_is xs a b n e l = ap (take {A = ℕ} n) e ∙ take_at a b n l

pub rest_is : (xs a b : List ℕ) (n : ℕ) → xs ≡ a ++ b → length a ≡ n → drop n xs ≡ b
rest_is xs a b n e l = ap (drop {A = ℕ} n) e ∙ drop_at a b n l

pub piece_size : (n : ℕ) (old new : Rest) (piece : List ℕ) → FrontIs n old piece new → length piece ≡ n
piece_size n old new piece f = ap (length {A = ℕ}) f.piece_is ∙ length-take-le n old.bytes f.there

pub piece_split : (n : ℕ) (old new : Rest) (piece : List ℕ) → FrontIs n old piece new → old.bytes ≡ piece ++ new.bytes
piece_split n old new piece f =
    sym (take-append-drop n old.bytes) ∙ ap (λ (x : List ℕ). x ++ drop n old.bytes) (sym f.piece_is) ∙ ap (λ (x : List ℕ). piece ++ x) (sym f.bytes)

-- any other bytes of that size at the front are the same
pub same_piece : (n : ℕ) (old new : Rest) (piece other rest : List ℕ) → FrontIs n old piece new → length other ≡ n → old.bytes ≡ other ++ rest → other ≡ piece
same_piece n old new piece other rest f l e = sym (front_is old.bytes other rest n e l) ∙ sym f.piece_is

pub same_rest : (n : ℕ) (old new : Rest) (piece other rest : List ℕ) → FrontIs n old piece new → length other ≡ n → old.bytes ≡ other ++ rest → rest ≡ new.bytes
same_rest n old new piece other rest f l e = sym (rest_is old.bytes other rest n e l) ∙ sym f.bytes

-- too few bytes are no field of that size
pub too_short : (n : ℕ) (bytes first rest : List ℕ) → length bytes < n → length first ≡ n → bytes ≡ first ++ rest → ⊥
too_short n bytes first rest lt l e =
    let size : length bytes ≡ length first + length rest = ap (length {A = ℕ}) e ∙ length-append first rest in
    omega arith

-- a number from its own bytes
pub number_alone : (n y : ℕ) → y < 256 ^ n → y ≡ big_number n (big_bytes n y)
number_alone n y lt = sym (number_again n y [] lt) ∙ ap (big_number n) (append-nil (big_bytes n y))

pub number_took : (n : ℕ) (old new : Rest) (piece : List ℕ) → FrontIs n old piece new → Took (Number n) old (big_number n piece) new
number_took n old new piece f = record {
  first = piece;
  spelt = (big_number-lt n piece f.are_bytes, sym (bytes_again n piece (piece_size n old new piece f) f.are_bytes));
  split = piece_split n old new piece f;
  place = f.place ∙ ap (λ (m : ℕ). old.place + m) (sym (piece_size n old new piece f));
  only = λ y other rest s e.
      let l : length other ≡ n = ap (length {A = ℕ}) s.1 ∙ length-big_bytes n y in
      let same : other ≡ piece = same_piece n old new piece other rest f l e in
      (number_alone n y s.0 ∙ ap (big_number n) (sym s.1 ∙ same), same_rest n old new piece other rest f l e);
}

-- the bits that were asked, as the number that they must be
-- bits that are not outside the mask are within it
pub not_outside : (mask bits : ℕ) → is_outside mask bits ≡ false → IsWithin mask bits
not_outside mask bits not_ = eqb-true (bit_and bits mask) bits (not-false (bit_and bits mask == bits) not_)

pub asked_takes : (mask bits : ℕ) (old new : Rest) (res : Result (Unit {0}) ReplyFault) → IsWithin mask bits → TakesWord (Exactly 2 bits) old res new → TakesWord (Asked mask bits) old res new
asked_takes mask bits old new (Ok x) w t = record {
  first = t.first;
  spelt = (w, t.spelt);
  split = t.split;
  place = t.place;
  only = λ y other rest s e. t.only y other rest s.1 e;
}
asked_takes mask bits old new (Err Memory) w t = tt
asked_takes mask bits old new (Err (Bad at)) w t = ((λ x first rest s e. t.0 x first rest s.1 e), t.1)

pub raw_took : (n : ℕ) (old new : Rest) (piece : List ℕ) → FrontIs n old piece new → Took (Raw n) old piece new
raw_took n old new piece f = record {
  first = piece;
  spelt = (piece_size n old new piece f, refl);
  split = piece_split n old new piece f;
  place = f.place ∙ ap (λ (m : ℕ). old.place + m) (sym (piece_size n old new piece f));
  only = λ y other rest s e.
      let l : length other ≡ n = ap (length {A = ℕ}) s.1 ∙ s.0 in
      (sym s.1 ∙ same_piece n old new piece other rest f l e, same_rest n old new piece other rest f l e);
}

-- the count of a text, and behind it the text
counted_head : (n : ℕ) (old mid : Rest) (head y rest : List ℕ) → FrontIs n old head mid → old.bytes ≡ with_count n y ++ rest → big_bytes n (length y) ≡ head
counted_head n old mid head y rest f e =
    same_piece n old mid head (big_bytes n (length y)) (y ++ rest) f (length-big_bytes n (length y)) (e ∙ append_assoc (big_bytes n (length y)) y rest)

counted_rest : (n : ℕ) (old mid : Rest) (head y rest : List ℕ) → FrontIs n old head mid → old.bytes ≡ with_count n y ++ rest → mid.bytes ≡ y ++ rest
counted_rest n old mid head y rest f e =
    sym (same_rest n old mid head (big_bytes n (length y)) (y ++ rest) f (length-big_bytes n (length y)) (e ∙ append_assoc (big_bytes n (length y)) y rest))

counted_size : (n : ℕ) (old mid : Rest) (head y rest : List ℕ) → FrontIs n old head mid → length y < 256 ^ n → old.bytes ≡ with_count n y ++ rest → length y ≡ big_number n head
counted_size n old mid head y rest f lt e = number_alone n (length y) lt ∙ ap (big_number n) (counted_head n old mid head y rest f e)

pub counted_took : (n : ℕ) (old mid new : Rest) (head text : List ℕ) → FrontIs n old head mid → FrontIs (big_number n head) mid text new → Took (Counted n) old text new
counted_took n old mid new head text f g =
    let size : length text ≡ big_number n head = piece_size (big_number n head) mid new text g in
    let fits : big_number n head < 256 ^ n = big_number-lt n head f.are_bytes in
    let head_is : head ≡ big_bytes n (length text) = sym (bytes_again n head (piece_size n old mid head f) f.are_bytes) ∙ ap (big_bytes n) (sym size) in
    let head_size : length head ≡ n = piece_size n old mid head f in
    let both : length (head ++ text) ≡ length head + length text = length-append head text in
    record {
      first = head ++ text;
      spelt = ((let P : ℕ → Type 0 = λ m. m < 256 ^ n in subst P (sym size) fits), ap (λ (h : List ℕ). h ++ text) head_is);
      split = piece_split n old mid head f ∙ ap (λ (r : List ℕ). head ++ r) (piece_split (big_number n head) mid new text g) ∙ sym (append_assoc head text new.bytes);
      place = g.place ∙ (let first : mid.place ≡ old.place + n = f.place in omega arith);
      only = λ y other rest s e.
          let split : old.bytes ≡ with_count n y ++ rest = e ∙ ap (λ (o : List ℕ). o ++ rest) s.1 in
          let sized : length y ≡ big_number n head = counted_size n old mid head y rest f s.0 split in
          let behind : mid.bytes ≡ y ++ rest = counted_rest n old mid head y rest f split in
          (same_piece (big_number n head) mid new text y rest g sized behind, same_rest (big_number n head) mid new text y rest g sized behind);
    }

pub counted_lacks : (n : ℕ) (bytes : List ℕ) → length bytes < n → Lacks (Counted n) bytes
counted_lacks n bytes lt x first rest s e =
    too_short n bytes (big_bytes n (length x)) (x ++ rest) lt (length-big_bytes n (length x))
    (e ∙ ap (λ (o : List ℕ). o ++ rest) s.1 ∙ append_assoc (big_bytes n (length x)) x rest)

-- the text is cut off
pub counted_cut : (n : ℕ) (old mid : Rest) (head : List ℕ) → FrontIs n old head mid → length mid.bytes < big_number n head → Lacks (Counted n) old.bytes
counted_cut n old mid head f lt x first rest s e =
    let split : old.bytes ≡ with_count n x ++ rest = e ∙ ap (λ (o : List ℕ). o ++ rest) s.1 in
    too_short (big_number n head) mid.bytes x rest lt (counted_size n old mid head x rest f s.0 split) (counted_rest n old mid head x rest f split)

pub counted_stops : (n : ℕ) (old mid new : Rest) (e : ReplyFault) → Front n old (Err e) mid → TakesWord (Counted n) old (Err e) new
counted_stops n old mid new Memory h = tt
counted_stops n old mid new (Bad at) h = (counted_lacks n old.bytes h.0, h.1)

-- the same, as the code has them
pub text_took : (n count : ℕ) (old mid new : Rest) (head text own : List ℕ) → count ≡ big_number n head → FrontIs n old head mid → FrontIs count mid text new → own ≡ text
    → Took (Counted n) old own new
text_took n count old mid new head text own c f g e =
    subst (λ (t : List ℕ). Took (Counted n) old t new) (sym e) (counted_took n old mid new head text f (subst (λ (m : ℕ). FrontIs m mid text new) c g))

pub text_cut : (n count : ℕ) (old mid : Rest) (head bytes : List ℕ) → count ≡ big_number n head → FrontIs n old head mid → bytes ≡ mid.bytes → length bytes < count
    → Lacks (Counted n) old.bytes
text_cut n count old mid head bytes c f b lt =
    counted_cut n old mid head f (let size : length bytes ≡ length mid.bytes = ap (length {A = ℕ}) b in omega arith)
