-- What the words of requests are read as, where a cursor stands before them.
use Rattle.std.proofs.Common.{◌≡◌, ◌&&◌, ℕ, ℤ, Bool, cond, subst, ◌+◌, ◌%◌, ◌<◌, ◌≤◌, true, false, nat_le, List, [], ◌∷◌, length, take, drop, get_or, is_none, w32, w64, Option, Some, None, Err, refl, sym, ◌∙◌, ap, arith}
use Rattle.std.proofs.lemmas.Bool.{le-leb, lt-leb, eq-eqb, ne_eqb}
use Rattle.std.proofs.lemmas.List.{drop-drop, length-drop, take_all, drop_all}
use Rattle.byteorder.specs.Endian.{big_number}
use Rattle.byteorder.specs.Numbers.{big_from-take}
use Rattle.std.specs.Int.{cast_signed}
use Rattle.afp_names.specs.declared.path.PathFault.{PathFault}
use Rattle.afp_names.specs.declared.path.PathFault.TheVariants.{Kind}
use Rattle.afp_names.specs.declared.path.Step.{Step}
use Rattle.afp_names.specs.Path.{PathValue, SpellsPath, path_fault, path_steps}
use Rattle.afp_calls_grammar.specs.declared.grammar.call.Call.{Call}
use Rattle.afp_calls_grammar.specs.declared.grammar.call.ReadFault.{ReadFault}
use Rattle.afp_calls_grammar.specs.declared.grammar.call.ReadFault.TheVariants as faults
use Rattle.afp_calls_grammar.specs.grammar.Words.{Word, Literal, Pad, LastPad, Even, Number, Within, Count, Optional, Signed32, Signed64, Plain, Counted, Pathname, Tail, Value}
use Rattle.afp_calls_grammar.specs.grammar.Reading.{Reading, Then, Alone, With, Taken, read, next, path_size, path_text}
use Rattle.afp_calls_grammar.specs.fields.Input.{Input, bytes_left, read_on}
use Rattle.afp_calls_grammar.specs.fields.lemma.Input.{piece_at, behind}
use Rattle.afp_calls_grammar.specs.fields.Taking.{Takes}

-- a word that is there is taken, and a word that is not ends the reading
taken_on : (w : Word) (more : Value w → Reading) (f : Input) (t : Taken w) → next w f.place (bytes_left f) ≡ Some t → read_on (Then w more) f ≡ read_on (more t.value) (behind f t.size)
unfolding read
taken_on w more f t h = rw (h, drop-drop) refl

none_on : (w : Word) (more : Value w → Reading) (f : Input) → next w f.place (bytes_left f) ≡ None → read_on (Then w more) f ≡ None
unfolding read
none_on w more f h = rw h refl

-- so many bytes remain, or not
remain : (n : ℕ) (f : Input) → f.place + n ≤ length f.bytes → nat_le n (length (bytes_left f)) ≡ true
remain n f h = le-leb n _ (omega (arith, length-drop f.place f.bytes))

lack : (n : ℕ) (f : Input) → f.place ≤ length f.bytes → length f.bytes < f.place + n → nat_le n (length (bytes_left f)) ≡ false
lack n f in_block h = lt-leb n _ (omega (arith, length-drop f.place f.bytes))

pub pad_read : (more : Unit {0} → Reading) (f : Input) → f.place + 1 ≤ length f.bytes → read_on (Then Pad more) f ≡ read_on (more tt) (behind f 1)
unfolding next
pad_read more f h = taken_on Pad more f (record { value = tt; size = 1 }) (rw (remain 1 f h) refl)

pub pad_lacks : (more : Unit {0} → Reading) (f : Input) → f.place ≤ length f.bytes → length f.bytes < f.place + 1 → read_on (Then Pad more) f ≡ None
unfolding next
pad_lacks more f in_block h = none_on Pad more f (rw (lack 1 f in_block h) refl)

pub number_read : (n : ℕ) (more : ℕ → Reading) (f : Input) → f.place + n ≤ length f.bytes → read_on (Then (Number n) more) f ≡ read_on (more (big_number n (piece_at f n))) (behind f n)
unfolding next
number_read n more f h =
    let first : big_number n (piece_at f n) ≡ big_number n (bytes_left f) = big_from-take 0 n n (bytes_left f) (omega arith) in
    taken_on (Number n) more f (record { value = big_number n (piece_at f n); size = n }) (rw (remain n f h, first) refl)

pub number_lacks : (n : ℕ) (more : ℕ → Reading) (f : Input) → f.place ≤ length f.bytes → length f.bytes < f.place + n → read_on (Then (Number n) more) f ≡ None
unfolding next
number_lacks n more f in_block h =
    none_on (Number n) more f (rw (lack n f in_block h) refl)

pub within_read : (n low high : ℕ) (more : ℕ → Reading) (f : Input) → f.place + n ≤ length f.bytes → low ≤ big_number n (piece_at f n) → big_number n (piece_at f n) ≤ high
    → read_on (Then (Within n low high) more) f ≡ read_on (more (big_number n (piece_at f n))) (behind f n)
unfolding next
within_read n low high more f h least most =
    let first : big_number n (bytes_left f) ≡ big_number n (piece_at f n) = sym (big_from-take 0 n n (bytes_left f) (omega arith)) in
    taken_on (Within n low high) more f (record { value = big_number n (piece_at f n); size = n }) (rw (remain n f h, first, le-leb low _ least, le-leb _ high most) refl)

pub within_lacks : (n low high : ℕ) (more : ℕ → Reading) (f : Input) → f.place ≤ length f.bytes → length f.bytes < f.place + n → read_on (Then (Within n low high) more) f ≡ None
unfolding next
within_lacks n low high more f in_block h =
    none_on (Within n low high) more f (rw (lack n f in_block h) refl)

pub within_low : (n low high : ℕ) (more : ℕ → Reading) (f : Input) → f.place + n ≤ length f.bytes → big_number n (piece_at f n) < low → read_on (Then (Within n low high) more) f ≡ None
unfolding next
within_low n low high more f h less =
    let first : big_number n (bytes_left f) ≡ big_number n (piece_at f n) = sym (big_from-take 0 n n (bytes_left f) (omega arith)) in
    none_on (Within n low high) more f (rw (remain n f h, first, lt-leb low _ less) refl)

pub within_high : (n low high : ℕ) (more : ℕ → Reading) (f : Input) → f.place + n ≤ length f.bytes → low ≤ big_number n (piece_at f n) → high < big_number n (piece_at f n) → read_on (Then (Within n low high) more) f ≡ None
unfolding next
within_high n low high more f h least above =
    let first : big_number n (bytes_left f) ≡ big_number n (piece_at f n) = sym (big_from-take 0 n n (bytes_left f) (omega arith)) in
    none_on (Within n low high) more f (rw (remain n f h, first, le-leb low _ least, lt-leb _ high above) refl)

pub signed32_read : (more : ℤ → Reading) (f : Input) → f.place + 4 ≤ length f.bytes → read_on (Then Signed32 more) f ≡ read_on (more (cast_signed w32 (big_number 4 (piece_at f 4)))) (behind f 4)
unfolding next
signed32_read more f h =
    let first : big_number 4 (piece_at f 4) ≡ big_number 4 (bytes_left f) = big_from-take 0 4 4 (bytes_left f) (omega arith) in
    taken_on Signed32 more f (record { value = cast_signed w32 (big_number 4 (piece_at f 4)); size = 4 }) (rw (remain 4 f h, first) refl)

pub signed32_lacks : (more : ℤ → Reading) (f : Input) → f.place ≤ length f.bytes → length f.bytes < f.place + 4 → read_on (Then Signed32 more) f ≡ None
unfolding next
signed32_lacks more f in_block h = none_on Signed32 more f (rw (lack 4 f in_block h) refl)

pub signed64_read : (more : ℤ → Reading) (f : Input) → f.place + 8 ≤ length f.bytes → read_on (Then Signed64 more) f ≡ read_on (more (cast_signed w64 (big_number 8 (piece_at f 8)))) (behind f 8)
unfolding next
signed64_read more f h =
    let first : big_number 8 (piece_at f 8) ≡ big_number 8 (bytes_left f) = big_from-take 0 8 8 (bytes_left f) (omega arith) in
    taken_on Signed64 more f (record { value = cast_signed w64 (big_number 8 (piece_at f 8)); size = 8 }) (rw (remain 8 f h, first) refl)

pub signed64_lacks : (more : ℤ → Reading) (f : Input) → f.place ≤ length f.bytes → length f.bytes < f.place + 8 → read_on (Then Signed64 more) f ≡ None
unfolding next
signed64_lacks more f in_block h = none_on Signed64 more f (rw (lack 8 f in_block h) refl)

pub plain_read : (n : ℕ) (more : List ℕ → Reading) (f : Input) → f.place + n ≤ length f.bytes → read_on (Then (Plain n) more) f ≡ read_on (more (piece_at f n)) (behind f n)
unfolding next
plain_read n more f h = taken_on (Plain n) more f (record { value = piece_at f n; size = n }) (rw (remain n f h) refl)

pub plain_lacks : (n : ℕ) (more : List ℕ → Reading) (f : Input) → f.place ≤ length f.bytes → length f.bytes < f.place + n → read_on (Then (Plain n) more) f ≡ None
unfolding next
plain_lacks n more f in_block h = none_on (Plain n) more f (rw (lack n f in_block h) refl)

pub even_read : (more : Unit {0} → Reading) (f : Input) → f.place + f.place % 2 ≤ length f.bytes → read_on (Then Even more) f ≡ read_on (more tt) (behind f (f.place % 2))
unfolding next
even_read more f h = taken_on Even more f (record { value = tt; size = f.place % 2 }) (rw (remain (f.place % 2) f h) refl)

pub even_lacks : (more : Unit {0} → Reading) (f : Input) → f.place ≤ length f.bytes → length f.bytes < f.place + f.place % 2 → read_on (Then Even more) f ≡ None
unfolding next
even_lacks more f in_block h = none_on Even more f (rw (lack (f.place % 2) f in_block h) refl)

-- the byte at the front
first_left : (f : Input) → f.place + 1 ≤ length f.bytes → bytes_left f ≡ get_or (piece_at f 1) 0 0 ∷ drop (f.place + 1) f.bytes
first_left f h = first (bytes_left f) (drop (f.place + 1) f.bytes) (drop-drop 1 f.place f.bytes) (omega (arith, length-drop f.place f.bytes))
  where
    first : (bytes more : List ℕ) → drop 1 bytes ≡ more → 0 < length bytes → bytes ≡ get_or (take 1 bytes) 0 0 ∷ more
    first [] more e some = absurd (omega arith)
    first (b ∷ bytes) more e some = ap (λ (l : List ℕ). b ∷ l) e

pub literal_read : (n : ℕ) (more : Unit {0} → Reading) (f : Input) → f.place + 1 ≤ length f.bytes → get_or (piece_at f 1) 0 0 ≡ n → read_on (Then (Literal n) more) f ≡ read_on (more tt) (behind f 1)
unfolding next
literal_read n more f h e =
    taken_on (Literal n) more f (record { value = tt; size = 1 }) (rw (first_left f h, e, eq-eqb n n refl) refl)

nothing_left : (f : Input) → f.place ≤ length f.bytes → length f.bytes < f.place + 1 → bytes_left f ≡ []
nothing_left f in_block h = drop_all f.place f.bytes (omega arith)

pub literal_lacks : (n : ℕ) (more : Unit {0} → Reading) (f : Input) → f.place ≤ length f.bytes → length f.bytes < f.place + 1 → read_on (Then (Literal n) more) f ≡ None
unfolding next
literal_lacks n more f in_block h = none_on (Literal n) more f (rw (nothing_left f in_block h) refl)

pub literal_other : (n : ℕ) (more : Unit {0} → Reading) (f : Input) → f.place + 1 ≤ length f.bytes → (get_or (piece_at f 1) 0 0 ≡ n → ⊥) → read_on (Then (Literal n) more) f ≡ None
unfolding next
literal_other n more f h other =
    none_on (Literal n) more f (rw (first_left f h, ne_eqb (get_or (piece_at f 1) 0 0) n other) refl)

-- a count, and the bytes that it counts
pub counted_read : (n count : ℕ) (more : List ℕ → Reading) (f : Input) → f.place + n ≤ length f.bytes → count ≡ big_number n (piece_at f n) → f.place + n + count ≤ length f.bytes
    → read_on (Then (Counted n) more) f ≡ read_on (more (piece_at (behind f n) count)) (behind (behind f n) count)
unfolding next
counted_read n count more f h e fits =
    let first : big_number n (bytes_left f) ≡ count = sym (big_from-take 0 n n (bytes_left f) (omega arith)) ∙ sym e in
    let whole : nat_le (n + count) (length (bytes_left f)) ≡ true = remain (n + count) f (omega arith) in
    taken_on (Counted n) more f (record { value = piece_at (behind f n) count; size = n + count }) (rw (first, whole, drop-drop) refl) ∙ ap (λ (p : ℕ). read_on (more (piece_at (behind f n) count)) (record { bytes = f.bytes; place = p; enclosed = f.enclosed })) (omega arith)

pub counted_lacks_count : (n : ℕ) (more : List ℕ → Reading) (f : Input) → f.place ≤ length f.bytes → length f.bytes < f.place + n → read_on (Then (Counted n) more) f ≡ None
unfolding next
counted_lacks_count n more f in_block h =
    none_on (Counted n) more f (rw (lack (n + big_number n (bytes_left f)) f in_block (omega arith)) refl)

pub counted_lacks : (n count : ℕ) (more : List ℕ → Reading) (f : Input) → f.place ≤ length f.bytes → count ≡ big_number n (piece_at f n) → length f.bytes < f.place + n + count → read_on (Then (Counted n) more) f ≡ None
unfolding next
counted_lacks n count more f in_block e h =
    let first : big_number n (bytes_left f) ≡ count = sym (big_from-take 0 n n (bytes_left f) (omega arith)) ∙ sym e in
    none_on (Counted n) more f (rw (first, lack (n + count) f in_block (omega arith)) refl)

pub tail_read : (n : ℕ) (more : List ℕ → Reading) (f : Input) → f.place + n ≡ length f.bytes → read_on (Then Tail more) f ≡ read_on (more (piece_at f n)) (behind f n)
unfolding next
tail_read n more f h =
    let whole : piece_at f n ≡ bytes_left f = take_all n (bytes_left f) (omega (arith, length-drop f.place f.bytes)) in
    let size : length (bytes_left f) ≡ n = omega (arith, length-drop f.place f.bytes) in
    taken_on Tail more f (record { value = piece_at f n; size = n }) (rw (whole, size) refl)

last_pad_there : (place : ℕ) (bytes : List ℕ) → 0 < length bytes → next LastPad place bytes ≡ Some (record { value = tt; size = 1 })
unfolding next
last_pad_there place [] h = absurd (omega arith)
last_pad_there place (b ∷ bytes) h = refl

last_pad_lacking : (place : ℕ) (bytes : List ℕ) → length bytes ≡ 0 → next LastPad place bytes ≡ Some (record { value = tt; size = 0 })
unfolding next
last_pad_lacking place [] h = refl
last_pad_lacking place (b ∷ bytes) h = absurd (omega arith)

pub last_pad_read : (more : Unit {0} → Reading) (f : Input) → f.place < length f.bytes → read_on (Then LastPad more) f ≡ read_on (more tt) (behind f 1)
last_pad_read more f h =
    taken_on LastPad more f (record { value = tt; size = 1 }) (last_pad_there f.place (bytes_left f) (omega (arith, length-drop f.place f.bytes)))

pub last_pad_lacks : (more : Unit {0} → Reading) (f : Input) → length f.bytes ≤ f.place → read_on (Then LastPad more) f ≡ read_on (more tt) f
last_pad_lacks more f h =
    taken_on LastPad more f (record { value = tt; size = 0 }) (last_pad_lacking f.place (bytes_left f) (omega (arith, length-drop f.place f.bytes)))
    ∙ ap (λ (p : ℕ). read_on (more tt) (record { bytes = f.bytes; place = p; enclosed = f.enclosed })) (omega arith)

-- a path: its type, and its bytes behind it
type_left : (kind : ℕ) (f : Input) → f.place + 1 ≤ length f.bytes → kind ≡ get_or (piece_at f 1) 0 0 → bytes_left f ≡ kind ∷ bytes_left (behind f 1)
type_left kind f h first = rw first (first_left f h)

path_taken : (kind place : ℕ) (p : PathValue) (rest : List ℕ) → nat_le (path_size kind rest) (length rest) ≡ true → p.kind ≡ kind → SpellsPath (path_text kind rest) p → next Pathname place (kind ∷ rest) ≡ Some (record { value = p; size = 1 + path_size kind rest })
unfolding next
path_taken kind place p rest some is spells =
    let text = path_text kind rest in
    let no_fault : path_fault kind text ≡ None = subst (λ (k : ℕ). path_fault k text ≡ None) is spells.no_fault in
    let steps : path_steps kind text ≡ p.steps = subst (λ (k : ℕ). path_steps k text ≡ p.steps) is spells.steps in
    let good : is_none (path_fault kind text) ≡ true = rw no_fault refl in
    let same : record { kind = kind; steps = path_steps kind text } ≡ p = same_path kind p (path_steps kind text) is steps in
    rw (some, good, same) refl
  where
    same_path : (kind : ℕ) (p : PathValue) (steps : List Step) → p.kind ≡ kind → steps ≡ p.steps → record { kind = kind; steps = steps } ≡ p
    same_path kind p steps is e = let k = sym is in λ i. record { kind = k i; steps = e i }

pub path_read : (kind : ℕ) (p : PathValue) (more : PathValue → Reading) (f : Input) → f.place + 1 ≤ length f.bytes → kind ≡ get_or (piece_at f 1) 0 0
    → f.place + 1 + path_size kind (bytes_left (behind f 1)) ≤ length f.bytes → p.kind ≡ kind → SpellsPath (path_text kind (bytes_left (behind f 1))) p → read_on (Then Pathname more) f ≡ read_on (more p) (behind (behind f 1) (path_size kind (bytes_left (behind f 1))))
path_read kind p more f h first fits is spells =
    let rest = bytes_left (behind f 1) in
    let some : nat_le (path_size kind rest) (length rest) ≡ true = le-leb _ _ (omega (arith, length-drop (f.place + 1) f.bytes)) in
    taken_on Pathname more f (record { value = p; size = 1 + path_size kind rest }) (rw (type_left kind f h first) (path_taken kind f.place p rest some is spells))
    ∙ ap (λ (q : ℕ). read_on (more p) (record { bytes = f.bytes; place = q; enclosed = f.enclosed })) (omega arith)

pub path_lacks_type : (more : PathValue → Reading) (f : Input) → f.place ≤ length f.bytes → length f.bytes < f.place + 1 → read_on (Then Pathname more) f ≡ None
unfolding next
path_lacks_type more f in_block h = none_on Pathname more f (rw (nothing_left f in_block h) refl)

pub path_lacks : (kind : ℕ) (more : PathValue → Reading) (f : Input) → f.place + 1 ≤ length f.bytes → kind ≡ get_or (piece_at f 1) 0 0
    → length f.bytes < f.place + 1 + path_size kind (bytes_left (behind f 1)) → read_on (Then Pathname more) f ≡ None
unfolding next
path_lacks kind more f h first short =
    let rest = bytes_left (behind f 1) in
    let lacking : nat_le (path_size kind rest) (length rest) ≡ false = lt-leb _ _ (omega (arith, length-drop (f.place + 1) f.bytes)) in
    none_on Pathname more f (rw (type_left kind f h first, lacking) refl)

pub path_bad : (kind : ℕ) (fault : PathFault) (more : PathValue → Reading) (f : Input) → f.place + 1 ≤ length f.bytes → kind ≡ get_or (piece_at f 1) 0 0
    → path_fault kind (path_text kind (bytes_left (behind f 1))) ≡ Some fault → read_on (Then Pathname more) f ≡ None
unfolding next
path_bad kind fault more f h first bad =
    let rest = bytes_left (behind f 1) in
    none_on Pathname more f (rw (type_left kind f h first, bad) (both (nat_le (path_size kind rest) (length rest)) _))
  where
    both : (b : Bool) (t : Taken Pathname) → cond (b && false) (Some t) None ≡ None
    both true t = refl
    both false t = refl

unknown_kind : (kind : ℕ) (text : List ℕ) → (kind ≡ 2 → ⊥) → (kind ≡ 3 → ⊥) → path_fault kind text ≡ Some Kind
unfolding path_fault
unknown_kind kind text two three = rw (ne_eqb kind 2 two, ne_eqb kind 3 three) refl

pub path_of_no_kind : (kind : ℕ) (more : PathValue → Reading) (f : Input) → f.place + 1 ≤ length f.bytes → kind ≡ get_or (piece_at f 1) 0 0 → (kind ≡ 2 → ⊥) → (kind ≡ 3 → ⊥) → read_on (Then Pathname more) f ≡ None
path_of_no_kind kind more f h first two three =
    path_bad kind Kind more f h first (unknown_kind kind (path_text kind (bytes_left (behind f 1))) two three)

-- the same by the pieces that were taken
pub record AtType (kind : ℕ) (f g : Input) (piece : List ℕ) : Type 0 where
  pub there : f.place + 1 ≤ length f.bytes
  pub piece_is : piece ≡ piece_at f 1
  pub behind_it : g ≡ behind f 1
  pub kind_is : kind ≡ get_or piece 0 0

pub path_by_pieces : (kind : ℕ) (p : PathValue) (f g h : Input) (piece text : List ℕ) → AtType kind f g piece → g.place + path_size kind (bytes_left g) ≤ length g.bytes → text ≡ path_text kind (bytes_left g) → h ≡ behind g (path_size kind (bytes_left g)) → p.kind ≡ kind → SpellsPath text p
    → (more : PathValue → Reading) → read_on (Then Pathname more) f ≡ read_on (more p) h
path_by_pieces kind p f g h piece text at fits taken after is spells more =
    let first : kind ≡ get_or (piece_at f 1) 0 0 = rw (← at.piece_is) at.kind_is in
    let P : Input → Type 0 = λ c. c.place + path_size kind (bytes_left c) ≤ length c.bytes in
    let S : Input → Type 0 = λ c. SpellsPath (path_text kind (bytes_left c)) p in
    path_read kind p more f at.there first (subst P at.behind_it fits) is (subst S at.behind_it (subst (λ (t : List ℕ). SpellsPath t p) taken spells))
    ∙ ap (λ (c : Input). read_on (more p) c) (sym (after ∙ ap (λ (c : Input). behind c (path_size kind (bytes_left c))) at.behind_it))

pub path_cut : (kind : ℕ) (f g : Input) (piece : List ℕ) → AtType kind f g piece → length g.bytes < g.place + path_size kind (bytes_left g) → (more : PathValue → Reading) → read_on (Then Pathname more) f ≡ None
path_cut kind f g piece at short more =
    let first : kind ≡ get_or (piece_at f 1) 0 0 = rw (← at.piece_is) at.kind_is in
    let P : Input → Type 0 = λ c. length c.bytes < c.place + path_size kind (bytes_left c) in
    path_lacks kind more f at.there first (subst P at.behind_it short)

pub path_refused : (kind : ℕ) (fault : PathFault) (f g : Input) (piece text : List ℕ) → AtType kind f g piece → text ≡ path_text kind (bytes_left g) → path_fault kind text ≡ Some fault → (more : PathValue → Reading) → read_on (Then Pathname more) f ≡ None
path_refused kind fault f g piece text at taken bad more =
    let first : kind ≡ get_or (piece_at f 1) 0 0 = rw (← at.piece_is) at.kind_is in
    let P : Input → Type 0 = λ c. path_fault kind (path_text kind (bytes_left c)) ≡ Some fault in
    path_bad kind fault more f at.there first (subst P at.behind_it (rw (← taken) bad))

pub path_of_no_type : (kind : ℕ) (f g : Input) (piece : List ℕ) → AtType kind f g piece → (kind ≡ 2 → ⊥) → (kind ≡ 3 → ⊥) → (more : PathValue → Reading) → read_on (Then Pathname more) f ≡ None
path_of_no_type kind f g piece at two three more =
    let first : kind ≡ get_or (piece_at f 1) 0 0 = rw (← at.piece_is) at.kind_is in
    path_of_no_kind kind more f at.there first two three

-- what is not there is refused
pub refused : (w : Word) (f g : Input) (fault : ReadFault) → fault ≡ faults.Param → ((more : Value w → Reading) → read_on (Then w more) f ≡ None) → Takes w f (Err fault) g
refused w f g fault is none = subst (λ (r : ReadFault). Takes w f (Err r) g) (sym is) none

-- a count of what stands further on, and a number that may be there
pub count_read : (n : ℕ) (more : ℕ → Reading) (f : Input) → f.place + n ≤ length f.bytes → read_on (Then (Count n) more) f ≡ read_on (more (big_number n (piece_at f n))) (behind f n)
unfolding next
count_read n more f h =
    let first : big_number n (piece_at f n) ≡ big_number n (bytes_left f) = big_from-take 0 n n (bytes_left f) (omega arith) in
    taken_on (Count n) more f (record { value = big_number n (piece_at f n); size = n }) (rw (remain n f h, first) refl)

pub count_lacks : (n : ℕ) (more : ℕ → Reading) (f : Input) → f.place ≤ length f.bytes → length f.bytes < f.place + n → read_on (Then (Count n) more) f ≡ None
unfolding next
count_lacks n more f in_block h = none_on (Count n) more f (rw (lack n f in_block h) refl)

pub there_read : (n : ℕ) (more : Option ℕ → Reading) (f : Input) → f.place + n ≤ length f.bytes → read_on (Then (Optional true n) more) f ≡ read_on (more (Some (big_number n (piece_at f n)))) (behind f n)
unfolding next
there_read n more f h =
    let first : big_number n (piece_at f n) ≡ big_number n (bytes_left f) = big_from-take 0 n n (bytes_left f) (omega arith) in
    taken_on (Optional true n) more f (record { value = Some (big_number n (piece_at f n)); size = n }) (rw (remain n f h, first) refl)

pub there_lacks : (n : ℕ) (more : Option ℕ → Reading) (f : Input) → f.place ≤ length f.bytes → length f.bytes < f.place + n → read_on (Then (Optional true n) more) f ≡ None
unfolding next
there_lacks n more f in_block h = none_on (Optional true n) more f (rw (lack n f in_block h) refl)

pub absent_read : (n : ℕ) (more : Option ℕ → Reading) (f : Input) → read_on (Then (Optional false n) more) f ≡ read_on (more None) f
unfolding next
absent_read n more f =
    taken_on (Optional false n) more f (record { value = None; size = 0 }) refl
    ∙ ap (λ (p : ℕ). read_on (more None) (record { bytes = f.bytes; place = p; enclosed = f.enclosed })) (omega arith)

-- what comes with the block
pub alone_read : (call : Call) (f : Input) → f.enclosed ≡ None → read_on (Alone call) f ≡ Some call
unfolding read
alone_read call f h = rw h refl

pub alone_lacks : (call : Call) (f : Input) (piece : List ℕ) → f.enclosed ≡ Some piece → read_on (Alone call) f ≡ None
unfolding read
alone_lacks call f piece h = rw h refl

pub with_read : (size : ℕ) (make : List ℕ → Call) (f : Input) (piece : List ℕ) → f.enclosed ≡ Some piece → size ≤ length piece → read_on (With size make) f ≡ Some (make (take size piece))
unfolding read
with_read size make f piece h fits = let some : nat_le size (length piece) ≡ true = le-leb size _ fits in rw (h, some) refl

pub with_lacks : (size : ℕ) (make : List ℕ → Call) (f : Input) (piece : List ℕ) → f.enclosed ≡ Some piece → length piece < size → read_on (With size make) f ≡ None
unfolding read
with_lacks size make f piece h short = let some : nat_le size (length piece) ≡ false = lt-leb size _ short in rw (h, some) refl

pub with_none : (size : ℕ) (make : List ℕ → Call) (f : Input) → f.enclosed ≡ None → read_on (With size make) f ≡ None
unfolding read
with_none size make f h = rw h refl

pub ruleset words_read = (pad_read, pad_lacks, number_read, number_lacks, within_read, within_lacks, within_low, within_high, signed32_read, signed32_lacks, signed64_read, signed64_lacks, plain_read, plain_lacks, even_read, even_lacks, literal_read, literal_lacks, literal_other, counted_read, counted_lacks_count, counted_lacks, tail_read, last_pad_read, last_pad_lacks, count_read, count_lacks, there_read, there_lacks, absent_read, alone_read, alone_lacks, with_read, with_lacks, with_none)
