-- options of a payload: what stands at its front, and how far a reader has come
use Rattle.std.proofs.Common.{◌≡◌, ◌≢◌, ℕ, ◌*◌, Bor, Ok, Err, zero, suc, ◌+◌, ◌<◌, ◌≤◌, List, [], ◌∷◌, ◌++◌, length, take, drop, Option, Some, None, unwrap_or, ◌⊎◌, inl, inr, refl, sym, ap, ◌∙◌, subst, append_assoc, arith}
use Rattle.std.proofs.lemmas.List.{append-nil, length-append, length-drop, length-take-le, take-append-drop, drop-drop}
use Rattle.std.proofs.Math.Seq.{take-append_seam, drop-append_seam}
use Rattle.std.proofs.lemmas.List.Elements.{filter_map-append}
use Rattle.std.proofs.lemmas.Bool.{cases_lt}
use Rattle.std.specs.List.{flat_map, filter_map, last_or}
use Rattle.std.proofs.lemmas.Grind.{flat_map-append}
use Rattle.byteorder.specs.Endian.{big_number}
use Rattle.afp_base.specs.Cursor.{Cursor, ReadsNumber, ReadsBytes, cursor_after, piece_at}
use Rattle.afp_base.specs.declared.scan.Short.{Short}
use Rattle.dsi_session.specs.lemma.Next.{IsNext, HasNoNext}
use Rattle.dsi_session.specs.Options.{SessionOption, option_spelling, AreOptions, OptionsStopAt, attention_in, attention_of, default_attention_quantum}

-- no option stands at the front of the bytes
abbrev pub HasNone : List ℕ → Type 0
HasNone bytes = (option : SessionOption) (more : List ℕ) → bytes ≢ option_spelling option ++ more

-- two lists whose first parts are equally long have equal parts
append_parts : (x y a b : List ℕ) → length x ≡ length y → x ++ a ≡ y ++ b → (x ≡ y) × (a ≡ b)
append_parts x y a b n e = (
  sym (take-append_seam x a) ∙ ap (λ zs. take (length x) zs) e ∙ ap (λ k. take k (y ++ b)) n ∙ take-append_seam y b,
  sym (drop-append_seam x a) ∙ ap (λ zs. drop (length x) zs) e ∙ ap (λ k. drop k (y ++ b)) n ∙ drop-append_seam y b,
)

-- one option begins the bytes
one_option : (a b : SessionOption) (x y : List ℕ) → option_spelling a ++ x ≡ option_spelling b ++ y → (a ≡ b) × (x ≡ y)
one_option a b x y e =
    let kind : a.kind ≡ b.kind = cc in
    let size : length a.value ≡ length b.value = cc in
    let rest : a.value ++ x ≡ b.value ++ y = cc in
    let parts = append_parts a.value b.value x y size rest in
    let of_kind : ℕ → SessionOption = λ k. record { kind = k; value = a.value } in
    let of_value : List ℕ → SessionOption = λ v. record { kind = b.kind; value = v } in
    (ap of_kind kind ∙ ap of_value parts.0, parts.1)

-- one list of options, with one rest at which no option stands
pub one_row : (them others : List SessionOption) (x y : List ℕ) → HasNone x → HasNone y
    → flat_map option_spelling them ++ x ≡ flat_map option_spelling others ++ y → (them ≡ others) × (x ≡ y)
one_row [] [] x y nx ny e = (refl, e)
one_row [] (b ∷ others) x y nx ny e = absurd (nx b (flat_map option_spelling others ++ y) (e ∙ append_assoc (option_spelling b) (flat_map option_spelling others) y))
one_row (a ∷ them) [] x y nx ny e = absurd (ny a (flat_map option_spelling them ++ x) (sym e ∙ append_assoc (option_spelling a) (flat_map option_spelling them) x))
one_row (a ∷ them) (b ∷ others) x y nx ny e =
    let parts = one_option a b (flat_map option_spelling them ++ x) (flat_map option_spelling others ++ y)
    (sym (append_assoc (option_spelling a) (flat_map option_spelling them) x) ∙ e ∙ append_assoc (option_spelling b) (flat_map option_spelling others) y) in
    let more = one_row them others x y nx ny parts.1 in
    (ap (λ o. o ∷ them) parts.0 ∙ ap (λ os. b ∷ os) more.0, more.1)

-- no option stands at the end
nothing_has_none : HasNone []
nothing_has_none option more e = cc

-- options and no rest
with_nothing : (payload : List ℕ) (options : List SessionOption) → AreOptions payload options → payload ≡ flat_map option_spelling options ++ []
with_nothing payload options e = e ∙ sym (append-nil (flat_map option_spelling options))

-- the laws
pub exclusive : (payload : List ℕ) (options others : List SessionOption) (at : ℕ) → AreOptions payload options → OptionsStopAt payload others at → ⊥
exclusive payload options others at e stop =
    let parts = one_row options others [] stop.left nothing_has_none stop.no_option (sym (with_nothing payload options e) ∙ stop.whole) in
    stop.some_left (sym parts.1)

pub one_list : (payload : List ℕ) (options others : List SessionOption) → AreOptions payload options → AreOptions payload others → options ≡ others
one_list payload options others e f =
    let parts = one_row options others [] [] nothing_has_none nothing_has_none (sym (with_nothing payload options e) ∙ with_nothing payload others f) in
    parts.0

pub one_place : (payload : List ℕ) (options others : List SessionOption) (at place : ℕ) → OptionsStopAt payload options at → OptionsStopAt payload others place → (options ≡ others) × (at ≡ place)
one_place payload options others at place s t =
    let parts = one_row options others s.left t.left s.no_option t.no_option (sym s.whole ∙ t.whole) in
    (parts.0, s.place ∙ ap (λ os. length (flat_map option_spelling os)) parts.0 ∙ sym t.place)

-- the option whose length and value fit in what follows its type
pub found : (kind size : ℕ) (rest : List ℕ) → size ≤ length rest
    → kind ∷ size ∷ rest ≡ option_spelling (record { kind = kind; value = take size rest }) ++ drop size rest
found kind size rest fits =
    let long : size ≡ length (take size rest) = sym (length-take-le size rest fits) in
    ap (λ n. kind ∷ n ∷ rest) long ∙ ap (λ xs. kind ∷ length (take size rest) ∷ xs) (sym (take-append-drop size rest))

-- no option whose value does not fit
pub none_fits : (kind size : ℕ) (rest : List ℕ) → length rest < size → HasNone (kind ∷ size ∷ rest)
none_fits kind size rest short option more e =
    let n : size ≡ length option.value = cc in
    let xs : rest ≡ option.value ++ more = cc in
    omega (arith, ap length xs, length-append option.value more)

-- what stands at the front of bytes
abbrev pub Front : List ℕ → Type 0
Front bytes = ((option : SessionOption) × (more : List ℕ) × (bytes ≡ option_spelling option ++ more)) ⊎ HasNone bytes

front : (bytes : List ℕ) → Front bytes
front [] = inr nothing_has_none
front (kind ∷ []) = inr (λ option more e. cc)
front (kind ∷ size ∷ rest) = elim (cases_lt (length rest) size) [
  | inl short ↦ inr (none_fits kind size rest short)
  | inr fits ↦ inl (record { kind = kind; value = take size rest }, drop size rest, found kind size rest fits)
]

-- a payload is options, or it stops
abbrev pub Read : List ℕ → Type 0
Read payload = ((options : List SessionOption) × AreOptions payload options) ⊎ ((options : List SessionOption) × (at : ℕ) × OptionsStopAt payload options at)

-- an option before what is read
read_before : (bytes more : List ℕ) (option : SessionOption) → bytes ≡ option_spelling option ++ more → Read more → Read bytes
read_before bytes more option e (inl (options, are)) = inl (option ∷ options, e ∙ ap (λ xs. option_spelling option ++ xs) are)
read_before bytes more option e (inr (options, at, stop)) = inr (
  option ∷ options,
  length (flat_map option_spelling (option ∷ options)),
  record {
    left = stop.left;
    whole = e ∙ ap (λ xs. option_spelling option ++ xs) stop.whole ∙ sym (append_assoc (option_spelling option) (flat_map option_spelling options) stop.left);
    place = refl;
    some_left = stop.some_left;
    no_option = stop.no_option;
  },
)

read_within : (most : ℕ) (payload : List ℕ) → length payload ≤ most → Read payload
read_within most [] short = inl ([], refl)
read_within zero (x ∷ xs) short = absurd (omega arith)
read_within (suc most) (x ∷ xs) short = elim (front (x ∷ xs)) [
  | inl (option, more, e) ↦
      let sizes : length (x ∷ xs) ≡ length (option_spelling option) + length more = ap length e ∙ length-append (option_spelling option) more in
      let shorter : length more ≤ most = omega arith in
      read_before (x ∷ xs) more option e (read_within most more shorter)
  | inr none ↦ inr (
    [],
    0,
    record {
      left = x ∷ xs;
      whole = refl;
      place = refl;
      some_left = λ e. cc;
      no_option = none;
    },
  )
]

pub is_read : (payload : List ℕ) → Read payload
is_read payload = read_within (length payload) payload (omega arith)

-- the last quantum told, when one option more is read
last_or-append : (o : Option ℕ) (xs ys : List ℕ) → last_or o (xs ++ ys) ≡ last_or (last_or o xs) ys
last_or-append o [] ys = refl
last_or-append o (x ∷ xs) ys = last_or-append (Some x) xs ys

last_told : (told o : Option ℕ) (d : ℕ) → unwrap_or (last_or o (filter_map (λ (x : Option ℕ). x) (told ∷ []))) d ≡ unwrap_or told (unwrap_or o d)
last_told None o d = refl
last_told (Some n) o d = refl

attention_more : (options : List SessionOption) (option : SessionOption)
    → attention_of (options ++ option ∷ []) ≡ unwrap_or (attention_in option) (attention_of options)
attention_more options option =
    ap (λ ns. unwrap_or (last_or None ns) default_attention_quantum) (filter_map-append attention_in options (option ∷ []))
    ∙ ap (λ o. unwrap_or o default_attention_quantum) (last_or-append None (filter_map attention_in options) (filter_map attention_in (option ∷ [])))
    ∙ last_told (attention_in option) (last_or None (filter_map attention_in options)) default_attention_quantum

-- how far a reader has come in a payload, and the attention quantum told so far
pub record HasRead (payload : List ℕ) (at told : ℕ) : Type 0 where
  pub options : List SessionOption
  pub whole : payload ≡ flat_map option_spelling options ++ drop at payload
  pub place : at ≡ length (flat_map option_spelling options)
  pub attention : told ≡ attention_of options

pub has_read-option : (payload : List ℕ) (at told : ℕ) (option : SessionOption) (more : List ℕ)
    → HasRead payload at told → drop at payload ≡ option_spelling option ++ more
    → HasRead payload (at + length (option_spelling option)) (unwrap_or (attention_in option) told)
has_read-option payload at told option more read e =
    let before : List ℕ = flat_map option_spelling read.options in
    let spelling : List ℕ = option_spelling option in
    let all : flat_map option_spelling (read.options ++ option ∷ []) ≡ before ++ spelling =
    flat_map-append option_spelling read.options (option ∷ []) ∙ ap (λ xs. before ++ xs) (append-nil spelling) in
    let split : payload ≡ (before ++ spelling) ++ more = read.whole ∙ ap (λ xs. before ++ xs) e ∙ sym (append_assoc before spelling more) in
    let place : at + length spelling ≡ length (before ++ spelling) = ap (λ n. n + length spelling) read.place ∙ sym (length-append before spelling) in
    let left : drop (at + length spelling) payload ≡ more =
    ap (λ n. drop n payload) place ∙ ap (λ xs. drop (length (before ++ spelling)) xs) split ∙ drop-append_seam (before ++ spelling) more in
    record {
      options = read.options ++ option ∷ [];
      whole = split ∙ ap (λ xs. xs ++ more) (sym all) ∙ ap (λ xs. flat_map option_spelling (read.options ++ option ∷ []) ++ xs) (sym left);
      place = place ∙ ap length (sym all);
      attention = ap (λ n. unwrap_or (attention_in option) n) read.attention ∙ sym (attention_more read.options option);
    }

once : (n : ℕ) → n * 1 + 0 ≡ n
once n = omega arith

-- the option at the front of bytes that are long enough
next_cells : (rest : List ℕ) (kind size : ℕ) (value : List ℕ) → 2 + size ≤ length rest → kind ≡ big_number 1 (take 1 rest) → size ≡ big_number 1 (take 1 (drop 1 rest))
    → value ≡ take size (drop 2 rest) → rest ≡ option_spelling (record { kind = kind; value = value }) ++ drop size (drop 2 rest)
next_cells [] kind size value fits k s v = absurd (omega arith)
next_cells (a ∷ []) kind size value fits k s v = absurd (omega arith)
next_cells (a ∷ b ∷ rest) kind size value fits k s v =
    let enough : size ≤ length rest = omega arith in
    let spelling : ℕ → List ℕ → List ℕ = λ n xs. option_spelling (record { kind = n; value = xs }) ++ drop size rest in
    ap (λ n. n ∷ b ∷ rest) (sym (k ∙ once a)) ∙ ap (λ n. kind ∷ n ∷ rest) (sym (s ∙ once b)) ∙ found kind size rest enough ∙ ap (spelling kind) (sym v)

-- no option in too few bytes
none_in_one : (rest : List ℕ) → length rest < 2 → HasNone rest
none_in_one [] short = nothing_has_none
none_in_one (a ∷ []) short = λ option more e. cc
none_in_one (a ∷ b ∷ rest) short = absurd (omega arith)

none_cells : (rest : List ℕ) (size : ℕ) → 2 ≤ length rest → size ≡ big_number 1 (take 1 (drop 1 rest)) → length rest < 2 + size → HasNone rest
none_cells [] size two s short = absurd (omega arith)
none_cells (a ∷ []) size two s short = absurd (omega arith)
none_cells (a ∷ b ∷ rest) size two s short = none_fits a b rest (let e : size ≡ b = s ∙ once b in omega arith)

-- a cursor behind so many bytes
later : (n at : ℕ) (bytes : List ℕ) → drop (at + n) bytes ≡ drop n (drop at bytes)
later n at bytes = sym (drop-drop n at bytes)

-- reads of a type, a length and a value, as the code has them
pub next_read : (kind size n : ℕ) (value : Bor (List ℕ)) (s0 s1 s2 s3 : Cursor) → n ≡ size → ReadsNumber 1 s0 (Ok kind) s1 → ReadsNumber 1 s1 (Ok size) s2 → ReadsBytes n s2 (Ok value) s3
    → IsNext s0 (record { kind = kind; value = value.now }) s3
next_read kind size n value s0 s1 s2 s3 same h1 h2 h =
    let h3 : ReadsBytes size s2 (Ok value) s3 = subst (λ (m : ℕ). ReadsBytes m s2 (Ok value) s3) same h in
    let e2 : s2 ≡ cursor_after (cursor_after s0 1) 1 = h2.2 ∙ ap (λ s. cursor_after s 1) h1.2 in
    let e3 : s3 ≡ cursor_after (cursor_after (cursor_after s0 1) 1) size = h3.2 ∙ ap (λ s. cursor_after s size) e2 in
    let two : s0.place + 1 + 1 + size ≤ length s0.bytes = subst (λ (s : Cursor). s.place + size ≤ length s.bytes) e2 h3.0 in
    let rest : List ℕ = drop s0.place s0.bytes in
    let size_is : size ≡ big_number 1 (take 1 (drop 1 rest)) =
    h2.1 ∙ ap (λ s. big_number 1 (piece_at s 1)) h1.2 ∙ ap (λ xs. big_number 1 (take 1 xs)) (later 1 s0.place s0.bytes) in
    let behind_two : drop (s0.place + 1 + 1) s0.bytes ≡ drop 2 rest =
    ap (λ n. drop n s0.bytes) (let n : s0.place + 1 + 1 ≡ s0.place + 2 = omega arith in n) ∙ later 2 s0.place s0.bytes in
    let value_is : value.now ≡ take size (drop 2 rest) = h3.1 ∙ ap (λ s. piece_at s size) e2 ∙ ap (take size) behind_two in
    let long : length value.now ≡ size = ap (length {A = ℕ}) value_is ∙ length-take-le size (drop 2 rest) (omega (arith, length-drop 2 rest, length-drop s0.place s0.bytes)) in
    let place_is : s3.place ≡ s0.place + 1 + 1 + size = ap (λ (s : Cursor). s.place) e3 in
    record {
      bytes = ap (λ (s : Cursor). s.bytes) e3;
      place = omega arith;
      whole = next_cells rest kind size value.now (omega (arith, length-drop s0.place s0.bytes)) h1.1 size_is value_is
          ∙ ap (λ xs. option_spelling (record { kind = kind; value = value.now }) ++ xs)
          (ap (drop size) (sym behind_two) ∙ drop-drop size (s0.place + 1 + 1) s0.bytes ∙ ap (λ n. drop n s0.bytes) (sym place_is));
    }

pub none_without_size : (kind : ℕ) (s0 s1 s2 : Cursor) (short : Short) → ReadsNumber 1 s0 (Ok kind) s1 → ReadsNumber 1 s1 (Err short) s2 → HasNoNext s0
none_without_size kind s0 s1 s2 short h1 h2 =
    let less : length s0.bytes < s0.place + 1 + 1 = subst (λ (s : Cursor). length s.bytes < s.place + 1) h1.2 h2.0 in
    none_in_one (drop s0.place s0.bytes) (omega (arith, length-drop s0.place s0.bytes))

pub none_without_value : (kind size n : ℕ) (s0 s1 s2 s3 : Cursor) (short : Short) → n ≡ size → ReadsNumber 1 s0 (Ok kind) s1 → ReadsNumber 1 s1 (Ok size) s2 → ReadsBytes n s2 (Err short) s3 → HasNoNext s0
none_without_value kind size n s0 s1 s2 s3 short same h1 h2 h =
    let h3 : ReadsBytes size s2 (Err short) s3 = subst (λ (m : ℕ). ReadsBytes m s2 (Err short) s3) same h in
    let e2 : s2 ≡ cursor_after (cursor_after s0 1) 1 = h2.2 ∙ ap (λ s. cursor_after s 1) h1.2 in
    let less : length s0.bytes < s0.place + 1 + 1 + size = subst (λ (s : Cursor). length s.bytes < s.place + size) e2 h3.0 in
    let two : s0.place + 1 + 1 ≤ length s0.bytes = subst (λ (s : Cursor). s.place + 1 ≤ length s.bytes) h1.2 h2.0 in
    let rest : List ℕ = drop s0.place s0.bytes in
    let size_is : size ≡ big_number 1 (take 1 (drop 1 rest)) =
    h2.1 ∙ ap (λ s. big_number 1 (piece_at s 1)) h1.2 ∙ ap (λ xs. big_number 1 (take 1 xs)) (later 1 s0.place s0.bytes) in
    none_cells rest size (omega (arith, length-drop s0.place s0.bytes)) size_is (omega (arith, length-drop s0.place s0.bytes))

-- a reader behind one option more
pub has_read-next : (payload : List ℕ) (told next : ℕ) (option : SessionOption) (old new : Cursor) → old.bytes ≡ payload
    → HasRead payload old.place told → IsNext old option new → next ≡ unwrap_or (attention_in option) told
    → (new.bytes ≡ payload) × HasRead payload new.place next
has_read-next payload told next option old new same read is next_is =
    let here = has_read-option payload old.place told option (drop new.place payload) read
    (subst (λ (xs : List ℕ). drop old.place xs ≡ option_spelling option ++ drop new.place xs) same is.whole) in (
      is.bytes ∙ same,
      subst (λ (n : ℕ). HasRead payload n next) (sym is.place) (subst (λ (n : ℕ). HasRead payload (old.place + length (option_spelling option)) n) (sym next_is) here),
    )
