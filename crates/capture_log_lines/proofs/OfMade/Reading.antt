-- A line that is written is read as what it says.
use Rattle.std.proofs.Common.{◌≡◌, ℕ, ◌+◌, ◌*◌, ◌/◌, ◌%◌, ◌<◌, ◌≤◌, ◌^◌, Bool, true, false, List, [], ◌∷◌, ◌++◌, suc, zero, length, length-append, get_or, refl, sym, ap, ◌∙◌, not, arith}
use Rattle.std.specs.Prelude.{◌==◌, ◌&&◌, ◌||◌, nat_le, nat_lt, bytes_eq, codes, if◌then◌else◌, slice_index, Option, Some, None, option_map, Result, Ok}
use Rattle.std.specs.Cmp.Derive.{both_true}
use Rattle.std.specs.Fmt.{decimal}
use Rattle.std.specs.List.{list_all, before_first, after_first}
use Rattle.std.specs.Result.{result_ok}
use Rattle.std.proofs.lemmas.Bool.{le-leb, lt-leb, leb-true, ltb-true, ne_eqb, false_from_ne_true}
use Rattle.std.proofs.lemmas.Fmt.{first_decimal, length-decimal-le}
use Rattle.hex.specs.Hex.{encode_lower, encode_with, lower_digits, decode_of, IsBytes}
use Rattle.hex.proofs.HexLemmas.{decode_of-encode_lower, length-encode_with}
use Rattle.afp_base.proofs.Facts.{bytes_same, left_true, right_true}
use Rattle.afp_base.specs.Limits.{last_moment}
use Rattle.line_words.specs.Hexadecimal.{is_lower_digit, hex_in}
use Rattle.line_words.specs.Numbers.{number_in}
use Rattle.line_words.specs.Words.{is_space}
use Rattle.capture_log_lines.specs.log.Lines.{link_in, what_in, moment_then, link_then, event_in, line_in, last_link, longest_line}
use Rattle.capture_log_lines.specs.declared.log.line.Line.{Line}
use Rattle.capture_log_lines.specs.declared.log.line.Line.TheVariants.{At}
use Rattle.capture_log_lines.specs.declared.log.line.What.{What}
use Rattle.capture_log_lines.specs.declared.log.line.What.TheVariants.{In, Out}
use Rattle.capture_log_lines.specs.made.Lines.{event_line, in_line, out_line, most_bytes, has_room}
use Rattle.capture_log_lines.proofs.OfMade.Numbers.{number-read, number-before, number-after}

-- the digits are of lower case

lower-digit : (k : ℕ) → k < 16 → is_lower_digit (slice_index lower_digits k) ≡ true
lower-digit zero l = refl
lower-digit (suc zero) l = refl
lower-digit (suc (suc zero)) l = refl
lower-digit (suc (suc (suc zero))) l = refl
lower-digit (suc (suc (suc (suc zero)))) l = refl
lower-digit (suc (suc (suc (suc (suc zero))))) l = refl
lower-digit (suc (suc (suc (suc (suc (suc zero)))))) l = refl
lower-digit (suc (suc (suc (suc (suc (suc (suc zero))))))) l = refl
lower-digit (suc (suc (suc (suc (suc (suc (suc (suc zero)))))))) l = refl
lower-digit (suc (suc (suc (suc (suc (suc (suc (suc (suc zero))))))))) l = refl
lower-digit (suc (suc (suc (suc (suc (suc (suc (suc (suc (suc zero)))))))))) l = refl
lower-digit (suc (suc (suc (suc (suc (suc (suc (suc (suc (suc (suc zero))))))))))) l = refl
lower-digit (suc (suc (suc (suc (suc (suc (suc (suc (suc (suc (suc (suc zero)))))))))))) l = refl
lower-digit (suc (suc (suc (suc (suc (suc (suc (suc (suc (suc (suc (suc (suc zero))))))))))))) l = refl
lower-digit (suc (suc (suc (suc (suc (suc (suc (suc (suc (suc (suc (suc (suc (suc zero)))))))))))))) l = refl
lower-digit (suc (suc (suc (suc (suc (suc (suc (suc (suc (suc (suc (suc (suc (suc (suc zero))))))))))))))) l = refl
lower-digit (suc (suc (suc (suc (suc (suc (suc (suc (suc (suc (suc (suc (suc (suc (suc (suc n)))))))))))))))) l = absurd (omega (arith, l))

digits-lower : (bytes : List ℕ) → IsBytes bytes → list_all is_lower_digit (encode_lower bytes) ≡ true
unfolding encode_with
digits-lower [] f = refl
digits-lower (b ∷ bytes) f =
    let byte : b < 256 = f 0 in
    both_true (lower-digit (b / 16) (omega (arith, byte))) (both_true (lower-digit (b % 16) (omega arith)) (digits-lower bytes (λ i. f (suc i))))

if-true : {X : Type 0} (b : Bool) (x y : X) → b ≡ true → (if b then x else y) ≡ x
if-true true x y e = refl
if-true false x y e = absurd (cc e)

if-false : {X : Type 0} (b : Bool) (x y : X) → b ≡ false → (if b then x else y) ≡ y
if-false true x y e = absurd (cc e)
if-false false x y e = refl

hex-read : (bytes : List ℕ) → IsBytes bytes → 0 < length bytes → hex_in (encode_lower bytes) ≡ Some bytes
hex-read bytes f some =
    let size : length (encode_lower bytes) ≡ 2 * length bytes = length-encode_with lower_digits bytes in
    if-true (not (length (encode_lower bytes) == 0) && list_all is_lower_digit (encode_lower bytes)) (result_ok (decode_of (encode_lower bytes))) None
    (both_true (ap not (ne_eqb (length (encode_lower bytes)) 0 (λ e. omega (arith, e, size, some)))) (digits-lower bytes f))
    ∙ ap result_ok (decode_of-encode_lower bytes f)

-- what happened at a moment on a connection

moment-read : (link now : ℕ) (what : What) (text : List ℕ) → now ≤ last_moment → what_in text ≡ Some what
    → moment_then link (number_in last_moment (before_first is_space (decimal now ++ 32 ∷ text))) (after_first is_space (decimal now ++ 32 ∷ text)) ≡ Some (At link now what)
moment-read link now what text l read =
    let h : now < 2 ^ 64 = omega (arith, l) in
    ap (λ (w : List ℕ). moment_then link (number_in last_moment w) (after_first is_space (decimal now ++ 32 ∷ text))) (number-before now text h)
    ∙ ap (λ (w : List ℕ). moment_then link (number_in last_moment (decimal now)) w) (number-after now text h)
    ∙ ap (λ (o : Option ℕ). moment_then link o text) (number-read last_moment now l h)
    ∙ ap (λ (o : Option What). option_map (λ x. At link now x) o) read

link-read : (link : ℕ) → 1 ≤ link → link ≤ last_link → link_in (decimal link) ≡ Some link
link-read link some l =
    let h : link < 2 ^ 64 = omega (arith, l) in
    let first = first_decimal link (omega (arith, some)) h in
    let other : bytes_eq (decimal link) (codes "0") ≡ false = false_from_ne_true (bytes_eq (decimal link) (codes "0"))
    (λ e. let zero_first = ap (λ (w : List ℕ). get_or w 0 0) (bytes_same (decimal link) (codes "0") e) in omega (arith, first, zero_first)) in
    if-false (bytes_eq (decimal link) (codes "0")) None (number_in last_link (decimal link)) other ∙ number-read last_link link l h

event-read : (link now : ℕ) (what : What) (text : List ℕ) → 1 ≤ link → link ≤ last_link → now ≤ last_moment → what_in text ≡ Some what
    → event_in (decimal link ++ 32 ∷ (decimal now ++ 32 ∷ text)) ≡ Some (At link now what)
event-read link now what text some l m read =
    let rest = decimal now ++ 32 ∷ text in
    let h : link < 2 ^ 64 = omega (arith, l) in
    ap (λ (w : List ℕ). link_then (link_in w) (after_first is_space (decimal link ++ 32 ∷ rest))) (number-before link rest h)
    ∙ ap (λ (w : List ℕ). link_then (link_in (decimal link)) w) (number-after link rest h)
    ∙ ap (λ (o : Option ℕ). link_then o rest) (link-read link some l)
    ∙ moment-read link now what text m read

-- it is short enough

fits : (link now : ℕ) (word bytes : List ℕ) → link < 2 ^ 64 → now < 2 ^ 64 → length word ≤ 3 → length bytes ≤ most_bytes → nat_lt longest_line (length (event_line link now word bytes)) ≡ false
unfolding event_line
fits link now word bytes h k w b =
    let link_size = length-decimal-le 20 link (omega arith) (omega (arith, h)) h in
    let now_size = length-decimal-le 20 now (omega arith) (omega (arith, k)) k in
    let hex_size = length-encode_with lower_digits bytes in
    let one = length-append (decimal link) (32 ∷ (decimal now ++ (32 ∷ (word ++ (32 ∷ encode_lower bytes))))) in
    let two = length-append (decimal now) (32 ∷ (word ++ (32 ∷ encode_lower bytes))) in
    let three = length-append word (32 ∷ encode_lower bytes) in
    lt-leb (suc longest_line) (length (event_line link now word bytes)) (omega (arith, link_size, now_size, hex_size, one, two, three, w, b))

pub in-read : (link now : ℕ) (bytes : List ℕ) → 1 ≤ link → link ≤ last_link → now ≤ last_moment → IsBytes bytes → has_room bytes ≡ true
    → line_in (in_line link now bytes) ≡ Some (At link now (In bytes))
unfolding event_line
in-read link now bytes some l m f room =
    let there = ltb-true 0 (length bytes) (left_true (nat_lt 0 (length bytes)) (nat_le (length bytes) most_bytes) room) in
    let few = leb-true (length bytes) most_bytes (right_true (nat_lt 0 (length bytes)) (nat_le (length bytes) most_bytes) room) in
    ap (λ (b : Bool). if b then None else event_in (decimal link ++ 32 ∷ (decimal now ++ 32 ∷ (codes "in" ++ 32 ∷ encode_lower bytes)))) (fits link now (codes "in") bytes (omega (arith, l)) (omega (arith, m)) (omega arith) few)
    ∙ event-read link now (In bytes) (codes "in" ++ 32 ∷ encode_lower bytes) some l m (ap (λ (o : Option (List ℕ)). option_map In o) (hex-read bytes f there))

pub out-read : (link now : ℕ) (bytes : List ℕ) → 1 ≤ link → link ≤ last_link → now ≤ last_moment → IsBytes bytes → has_room bytes ≡ true
    → line_in (out_line link now bytes) ≡ Some (At link now (Out bytes))
unfolding event_line
out-read link now bytes some l m f room =
    let there = ltb-true 0 (length bytes) (left_true (nat_lt 0 (length bytes)) (nat_le (length bytes) most_bytes) room) in
    let few = leb-true (length bytes) most_bytes (right_true (nat_lt 0 (length bytes)) (nat_le (length bytes) most_bytes) room) in
    ap (λ (b : Bool). if b then None else event_in (decimal link ++ 32 ∷ (decimal now ++ 32 ∷ (codes "out" ++ 32 ∷ encode_lower bytes)))) (fits link now (codes "out") bytes (omega (arith, l)) (omega (arith, m)) (omega arith) few)
    ∙ event-read link now (Out bytes) (codes "out" ++ 32 ∷ encode_lower bytes) some l m (ap (λ (o : Option (List ℕ)). option_map Out o) (hex-read bytes f there))
