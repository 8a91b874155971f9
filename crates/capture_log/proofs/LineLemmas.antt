-- What a line that was read names.
use Rattle.std.proofs.Common.{◌≡◌, ◌≢◌, ◌==◌, ◌&&◌, ◌||◌, not, ℕ, ◌+◌, ◌*◌, ◌-◌, ◌≤◌, Bool, true, false, List, [], ◌∷◌, length, codes, nat_le, nat_lt, refl, sym, ap, ◌∙◌, subst, inl, inr, arith}
use Rattle.std.specs.Prelude.{Option, Some, None, option_map, bytes_eq, if◌then◌else◌}
use Rattle.std.specs.List.{before_first, after_first, list_any, list_all, slice_index}
use Rattle.std.proofs.lemmas.Bool.{leb-true, and_parts}
use Rattle.std.proofs.lemmas.Bool.Decides.{eqb_tells}
use Rattle.line_words.specs.Hexadecimal.{sized_in}
use Rattle.line_words.specs.Numbers.{is_digit, is_decimal, number_in, value_behind}
use Rattle.line_words.specs.Words.{is_space, is_ascii, is_word}
use Rattle.capture_log_lines.specs.log.Lines.{filled, is_colon, line_in, headed, event_in, title_in, name_in, user_in, link_in, link_then, moment_then, what_in, last_link, longest_line}
use Rattle.afp_base.specs.Limits.{last_moment}
use Rattle.capture_log_lines.specs.declared.log.line.Line.{Line}
use Rattle.capture_log_lines.specs.declared.log.line.Line.TheVariants.{Title, Server, Signature, User as UserLine, Volume, Key, At, End}
use Rattle.capture_log.specs.Taking.{IsLink, IsLinked}
use Rattle.line_words.proofs.Values.{value-least}

-- something that may be read, if it names a connection that there may be
abbrev IsGoodLine : Option Line → Type 0
IsGoodLine None = Unit {0}
IsGoodLine (Some line) = IsLinked line

if_good : (b : Bool) (x y : Option Line) → IsGoodLine x → IsGoodLine y → IsGoodLine (if b then x else y)
if_good true x y g h = g
if_good false x y g h = h

map_good : {X : Type 0} (f : X → Line) → ((x : X) → IsLinked (f x)) → (o : Option X) → IsGoodLine (option_map f o)
map_good f each None = tt
map_good f each (Some x) = each x

if_none_some : {X : Type 0} (b : Bool) (x : Option X) (l : X) → (if b then None else x) ≡ Some l → (b ≡ false) × (x ≡ Some l)
if_none_some true x l e = absurd (cc e)
if_none_some false x l e = (refl, e)

if_some_none : {X : Type 0} (b : Bool) (v l : X) → (if b then Some v else None) ≡ Some l → (b ≡ true) × (v ≡ l)
if_some_none true v l e = (refl, cc e)
if_some_none false v l e = absurd (cc e)

right_true : (a b : Bool) → a ≡ false → (a || b) ≡ true → b ≡ true
right_true true b e f = absurd (cc e)
right_true false b e f = f

not_zero : (d : ℕ) → not (d == 48) ≡ true → d ≢ 48
not_zero d e = elim (eqb_tells d 48) [
  | inl t ↦ λ same. cc (sym e ∙ ap not t.0)
  | inr t ↦ t.1
]

is_digit-least : (d : ℕ) → is_digit d ≡ true → 48 ≤ d
is_digit-least d e = leb-true 48 d (and_parts (nat_le 48 d) (nat_le d 57) e).0

-- a number of a connection is at least 1
first_digit : (d : ℕ) (ds : List ℕ) → bytes_eq (d ∷ ds) (codes "0") ≡ false → (length (d ∷ ds) == 1 || not (slice_index (d ∷ ds) 0 == 48)) ≡ true → d ≢ 48
first_digit d [] e f = λ same. cc (sym e ∙ ap (λ (n : ℕ). bytes_eq (n ∷ []) (codes "0")) same)
first_digit d (c ∷ ds) e f = not_zero d (right_true (length (d ∷ c ∷ ds) == 1) (not (d == 48)) (elim (eqb_tells (length (d ∷ c ∷ ds)) 1) [
  | inl t ↦ absurd (omega (arith, t.1))
  | inr t ↦ t.0
]) f)

number-good : (word : List ℕ) (l : ℕ) → bytes_eq word (codes "0") ≡ false → number_in last_link word ≡ Some l → IsLink l
number-good [] l other e = absurd (cc e)
number-good (d ∷ ds) l other e =
    let v = value_behind 0 (d ∷ ds) in
    let h = if_some_none (is_decimal (d ∷ ds) && nat_le v last_link) v l e in
    let k = and_parts (is_decimal (d ∷ ds)) (nat_le v last_link) h.0 in
    let parts = and_parts (not (length (d ∷ ds) == 0) && list_all is_digit (d ∷ ds)) (length (d ∷ ds) == 1 || not (slice_index (d ∷ ds) 0 == 48)) k.0 in
    let digits = and_parts (not (length (d ∷ ds) == 0)) (list_all is_digit (d ∷ ds)) parts.0 in
    let first = and_parts (is_digit d) (list_all is_digit ds) digits.1 in
    let other_digit : d ≢ 48 = first_digit d ds other parts.1 in
    let least : 48 ≤ d = is_digit-least d first.0 in
    let grows : 0 * 10 + (d - 48) ≤ v = value-least (0 * 10 + (d - 48)) ds in
    let most : v ≤ last_link = leb-true v last_link k.1 in
    let same : v ≡ l = h.1 in
    (omega (arith, other_digit, least, grows, same), omega (arith, most, same))

link-good : (word : List ℕ) (o : Option ℕ) → o ≡ link_in word → (l : ℕ) → o ≡ Some l → IsLink l
link-good word o same l some =
    let h = if_none_some (bytes_eq word (codes "0")) (number_in last_link word) l (sym same ∙ some) in
    number-good word l h.0 h.1

moment_good : (link : ℕ) (o : Option ℕ) (rest : List ℕ) → IsLink link → IsGoodLine (moment_then link o rest)
moment_good link None rest good = tt
moment_good link (Some moment) rest good = map_good (λ what. At link moment what) (λ what. good) (what_in rest)

link_good : (word rest : List ℕ) (o : Option ℕ) → o ≡ link_in word → IsGoodLine (link_then o rest)
link_good word rest None same = tt
link_good word rest (Some link) same = moment_good link (number_in last_moment (before_first is_space rest)) (after_first is_space rest) (link-good word (Some link) same link refl)

user_good : (text : List ℕ) → IsGoodLine (user_in text)
user_good text =
    if_good (is_word text && list_any is_colon text && list_all is_ascii (after_first is_colon text) && nat_le (length (after_first is_colon text)) 8)
    (Some (UserLine (before_first is_colon text) (filled (after_first is_colon text)))) None tt tt

headed_good : (word rest : List ℕ) → IsGoodLine (headed word rest)
headed_good word rest =
    if_good (bytes_eq word (codes "at")) (event_in rest) _ (link_good (before_first is_space rest) (after_first is_space rest) (link_in (before_first is_space rest)) refl)
    (if_good (bytes_eq word (codes "afp-capture")) (title_in rest) _ (if_good (bytes_eq rest (codes "1")) (Some Title) None tt tt)
    (if_good (bytes_eq word (codes "server")) (option_map Server (name_in rest)) _ (map_good Server (λ x. tt) (name_in rest))
    (if_good (bytes_eq word (codes "signature")) (option_map Signature (sized_in 16 rest)) _ (map_good Signature (λ x. tt) (sized_in 16 rest))
    (if_good (bytes_eq word (codes "user")) (user_in rest) _ (user_good rest)
    (if_good (bytes_eq word (codes "volume")) (option_map Volume (name_in rest)) _ (map_good Volume (λ x. tt) (name_in rest))
    (if_good (bytes_eq word (codes "key")) (option_map Key (sized_in 32 rest)) None (map_good Key (λ x. tt) (sized_in 32 rest)) tt))))))

line_good : (raw : List ℕ) → IsGoodLine (line_in raw)
line_good raw =
    if_good (nat_lt longest_line (length raw)) None _ tt
    (if_good (bytes_eq raw (codes "end")) (Some End) _ tt (headed_good (before_first is_space raw) (after_first is_space raw)))

-- a line that was read names a connection that there may be
pub linked : (raw : List ℕ) (found : Option Line) (line : Line) → found ≡ line_in raw → found ≡ Some line → IsLinked line
linked raw found line read some = subst (λ (o : Option Line). IsGoodLine o) (sym read ∙ some) (line_good raw)
