-- The token in a payload.
use Rattle.std.proofs.Common.{◌≡◌, ℕ, ◌+◌, ◌<◌, ◌≤◌, ◌==◌, ◌&&◌, ◌^◌, nat_lt, List, [], ◌++◌, length, drop, take, Some, None, Bool, true, false, cond, refl, ap, sym, ◌∙◌, eq-eqb, rules, arith, lit≤}
use Rattle.std.proofs.lemmas.Bool.{ltb-true, eqb-true}
use Rattle.std.proofs.lemmas.List.{append-nil, length-take-le, take-append-drop}
use Rattle.byteorder.specs.Endian.{big_number, big_bytes}
use Rattle.afp_base.specs.Bytes.{IsBytes}
use Rattle.afp_base.proofs.Numbers.{IsBytes-take, bytes_again, number_again, number_front}
use Rattle.afp_replies.specs.Commands.{shape_of, shape_in, rows}
use Rattle.afp_replies.specs.Replies.{layout_for}
use Rattle.afp_client.specs.session.Takes.{most_token, token_in}
use Rattle.afp_client.specs.session.TokenLaws.{FoundIsShown, ShownIsFound}

if_all : (a b c : Bool) (x : List ℕ) → a ≡ true → b ≡ true → c ≡ true → cond (a && b && c) (Some x) None ≡ Some x
if_all true true true x p q r = refl
if_all true true false x p q r = cc
if_all true false c x p q r = cc
if_all false b c x p q r = cc

all_if : (a b c : Bool) (x y : List ℕ) → cond (a && b && c) (Some x) None ≡ Some y → (a ≡ true) × (b ≡ true) × (c ≡ true) × (x ≡ y)
all_if true true true x y e = (refl, refl, refl, cc)
all_if true true false x y e = cc
all_if true false c x y e = cc
all_if false b c x y e = cc

token_again : (x : List ℕ) → length x < 256 ^ 4 → length x < most_token + 1 → token_in (big_bytes 4 (length x) ++ x) ≡ Some x
token_again x small fits =
    if_all (nat_lt 3 (length (big_bytes 4 (length x) ++ x))) (big_number 4 (big_bytes 4 (length x) ++ x) == length x) (nat_lt (length x) (most_token + 1)) x
    (search rules) (eq-eqb (big_number 4 (big_bytes 4 (length x) ++ x)) (length x) (number_again 4 (length x) x small)) (search rules)

pub shown_is_found : ShownIsFound
unfolding layout_for shape_of shape_in rows
shown_is_found payload r shown =
    let whole : payload ≡ big_bytes 4 (length shown.value) ++ shown.value =
    shown.split ∙ (ap (λ (rest : List ℕ). shown.first ++ rest) shown.behind.1 ∙ (append-nil shown.first ∙ shown.spelt.1)) in
    (shown.value, shown.behind.0, λ fits. ap token_in whole ∙ token_again shown.value shown.spelt.0 (omega (arith, fits)))

-- a count of 4 bytes and so many bytes
counted : (payload token : List ℕ) → IsBytes payload → 3 < length payload → big_number 4 payload ≡ length (drop 4 payload) → drop 4 payload ≡ token
    → payload ≡ big_bytes 4 (length token) ++ token
counted payload token bytes long count same =
    let four : length (take 4 payload) ≡ 4 = length-take-le 4 payload (omega (arith, long)) in
    let size : big_number 4 (take 4 payload) ≡ length token = number_front 4 payload ∙ (count ∙ ap length same) in
    let first : take 4 payload ≡ big_bytes 4 (length token) = sym (bytes_again 4 (take 4 payload) four (IsBytes-take 4 payload bytes)) ∙ ap (λ (n : ℕ). big_bytes 4 n) size in
    sym (take-append-drop 4 payload) ∙ (ap (λ (xs : List ℕ). xs ++ drop 4 payload) first ∙ ap (λ (xs : List ℕ). big_bytes 4 (length token) ++ xs) same)

pub found_is_shown : FoundIsShown
unfolding layout_for shape_of shape_in rows
found_is_shown payload token bytes found =
    let parts = all_if (nat_lt 3 (length payload)) (big_number 4 payload == length (drop 4 payload)) (nat_lt (length (drop 4 payload)) (most_token + 1)) (drop 4 payload) token found in
    let short : length (drop 4 payload) < most_token + 1 = ltb-true (length (drop 4 payload)) (most_token + 1) parts.2 in
    let same : length (drop 4 payload) ≡ length token = ap length parts.3 in
    let room : most_token + 1 ≤ 256 ^ 4 = lit≤ tt in
    let whole = counted payload token bytes (ltb-true 3 (length payload) parts.0) (eqb-true (big_number 4 payload) (length (drop 4 payload)) parts.1) parts.3 in (
      omega (arith, short, same),
      record {
        value = token;
        first = payload;
        rest = [];
        spelt = (omega (arith, short, same, room), whole);
        split = sym (append-nil payload);
        behind = (refl, refl);
      },
    )
