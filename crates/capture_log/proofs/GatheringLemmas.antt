-- The lines of a capture, gathered from pieces of its bytes.
use Rattle.std.proofs.Common.{◌≡◌, ◌-◌, ◌||◌, ◌&&◌, ◌==◌, not, ℕ, ◌+◌, ◌≤◌, ◌<◌, Bool, true, false, List, [], ◌∷◌, ◌++◌, suc, length, min, refl, sym, ap, ◌∙◌, subst, inl, inr, append_assoc, append-nil, length-append, arith, nat_lt}
use Rattle.std.specs.Prelude.{Option, Some, None, if◌then◌else◌}
use Rattle.std.specs.List.{onto_first}
use Rattle.std.proofs.lemmas.Bool.Decides.{eqb_tells, leb_tells}
use Rattle.std.proofs.lemmas.List.Elements.{All-append, All-nil}
use Rattle.std.proofs.lemmas.List.Splits.{slice_split_at, slice_split_none}
use Rattle.capture_log_lines.specs.log.Lines.{line_in, longest_line}
use Rattle.capture_log.specs.lemma.Gathering.{ReaderState, IsOneLine, AreLines, ended_lines, Holds, EndsLine}
use Rattle.capture_log.specs.Judged.{Decides, DecidesEnd, JudgedAt, Judged}
use Rattle.capture_log.specs.Reading.{is_newline, pieces, last_line, lines_of, lines_in, Undecided}
use Rattle.capture_log_server.specs.CaptureState.{CaptureState, TakesGoodLine, Leads, begins, is_bad}
use Rattle.capture_log.specs.Taking.{HeldCapture, IsCapture, TakesRawLine}
use Rattle.capture_log.specs.declared.replay_end.ReplayEnd.{ReplayEnd}
use Rattle.capture_log.specs.declared.replay_end.ReplayEnd.TheVariants.{BadCapture}

-- whether a line is too long
pub too-long : (held more sum most : ℕ) → sum ≡ min (held + more) most → longest_line < most → nat_lt longest_line sum ≡ nat_lt longest_line (held + more)
too-long held more sum most e m = elim (leb_tells (suc longest_line) sum) [
  | inl t ↦ elim (leb_tells (suc longest_line) (held + more)) [
    | inl u ↦ t.0 ∙ sym u.0
    | inr u ↦ absurd (omega (arith, t.1, u.1, e, m))
  ]
  | inr t ↦ elim (leb_tells (suc longest_line) (held + more)) [
    | inl u ↦ absurd (omega (arith, t.1, u.1, e, m))
    | inr u ↦ t.0 ∙ sym u.0
  ]
]

-- lines

lines-pieces : (lines : List (List ℕ)) (rest : List ℕ) → AreLines lines → pieces (ended_lines lines ++ rest) ≡ lines ++ pieces rest
lines-pieces [] rest h = refl
lines-pieces (line ∷ lines) rest h =
    ap pieces (append_assoc line (10 ∷ ended_lines lines) rest) ∙ slice_split_at is_newline line 10 (ended_lines lines ++ rest) h.0 refl ∙ ap (λ (l : List (List ℕ)). line ∷ l) (lines-pieces lines rest h.1)

lines_of-append : (ended : Bool) (xs : List (List ℕ)) (y : List ℕ) (ys : List (List ℕ)) → lines_of ended (xs ++ y ∷ ys) ≡ xs ++ lines_of ended (y ∷ ys)
lines_of-append ended [] y ys = refl
lines_of-append ended (x ∷ []) y ys = refl
lines_of-append ended (x ∷ z ∷ xs) y ys = ap (λ (l : List (List ℕ)). x ∷ l) (lines_of-append ended (z ∷ xs) y ys)

onto-cons : (x : ℕ) (l : List (List ℕ)) → (p : List ℕ) × (ps : List (List ℕ)) × (onto_first x l ≡ p ∷ ps)
onto-cons x [] = (x ∷ [], [], refl)
onto-cons x (l ∷ ls) = (x ∷ l, ls, refl)

if-cons : (b : Bool) (l : List (List ℕ)) (x : ℕ) (m : List (List ℕ)) → (p : List ℕ) × (ps : List (List ℕ)) × ((if b then [] ∷ l else onto_first x m) ≡ p ∷ ps)
if-cons true l x m = ([], l, refl)
if-cons false l x m = onto-cons x m

pieces-cons : (bytes : List ℕ) → (p : List ℕ) × (ps : List (List ℕ)) × (pieces bytes ≡ p ∷ ps)
pieces-cons [] = ([], [], refl)
pieces-cons (b ∷ bytes) = if-cons (is_newline b) (pieces bytes) b (pieces bytes)

ended-append : (lines : List (List ℕ)) (line : List ℕ) → ended_lines (lines ++ line ∷ []) ≡ ended_lines lines ++ (line ++ 10 ∷ [])
ended-append [] line = refl
ended-append (l ∷ lines) line = ap (λ (x : List ℕ). l ++ 10 ∷ x) (ended-append lines line) ∙ sym (append_assoc l (10 ∷ ended_lines lines) (line ++ 10 ∷ []))

lines-append : (lines : List (List ℕ)) (line : List ℕ) → AreLines lines → IsOneLine line → AreLines (lines ++ line ∷ [])
lines-append [] line h one = (one, tt)
lines-append (l ∷ lines) line h one = (h.0, lines-append lines line h.1 one)

leads-one : (s : CaptureState) (lines : List (List ℕ)) (raw : List ℕ) (m t : CaptureState) → Leads s lines m → TakesGoodLine m raw t → Leads s (lines ++ raw ∷ []) t
leads-one s [] raw m t h g = (t, subst (λ (x : CaptureState). TakesGoodLine x raw t) h g, refl)
leads-one s (l ∷ lines) raw m t h g = (h.0, h.1, leads-one h.0 lines raw m t h.2 g)

-- what stands at the end of a line that was read
read-line : (read last more held : List ℕ) (lines : List (List ℕ)) → read ≡ ended_lines lines ++ held → AreLines lines → IsOneLine held → IsOneLine last
    → lines_in false (read ++ (last ++ 10 ∷ more)) ≡ lines ++ (held ++ last) ∷ lines_of false (pieces more)
read-line read last more held lines whole are one_held one_last =
    let bytes : read ++ (last ++ 10 ∷ more) ≡ ended_lines lines ++ ((held ++ last) ++ 10 ∷ more) =
    ap (λ (l : List ℕ). l ++ (last ++ 10 ∷ more)) whole ∙ append_assoc (ended_lines lines) held (last ++ 10 ∷ more) ∙ ap (λ (l : List ℕ). ended_lines lines ++ l) (sym (append_assoc held last (10 ∷ more))) in
    let cut : pieces ((held ++ last) ++ 10 ∷ more) ≡ (held ++ last) ∷ pieces more =
    slice_split_at is_newline (held ++ last) 10 more (All-append (λ byte. is_newline byte ≡ false) held last one_held one_last) refl in
    let all : pieces (read ++ (last ++ 10 ∷ more)) ≡ lines ++ (held ++ last) ∷ pieces more =
    ap pieces bytes ∙ lines-pieces lines ((held ++ last) ++ 10 ∷ more) are ∙ ap (λ (l : List (List ℕ)). lines ++ l) cut in
    let next = pieces-cons more in
    ap (lines_of false) all ∙ lines_of-append false lines (held ++ last) (pieces more)
    ∙ ap (λ (l : List (List ℕ)). lines ++ lines_of false ((held ++ last) ∷ l)) next.2
    ∙ ap (λ (l : List (List ℕ)). lines ++ (held ++ last) ∷ lines_of false l) (sym next.2)

-- what stands behind the last newline
read-rest : (ended : Bool) (read held : List ℕ) (lines : List (List ℕ)) → read ≡ ended_lines lines ++ held → AreLines lines → IsOneLine held → lines_in ended read ≡ lines ++ last_line ended held
read-rest ended read held lines whole are one =
    let all : pieces read ≡ lines ++ held ∷ [] = ap pieces whole ∙ lines-pieces lines held are ∙ ap (λ (l : List (List ℕ)). lines ++ l) (slice_split_none is_newline held one) in
    ap (lines_of ended) all ∙ lines_of-append ended lines held []

-- a line that is too long is a bad one

none-if : {X : Type 0} (b : Bool) (x : Option X) → b ≡ true → (if b then None else x) ≡ None
none-if true x e = refl
none-if false x e = absurd (cc e)

long-bad : (s : CaptureState) (raw : List ℕ) → nat_lt longest_line (length raw) ≡ true → is_bad s (line_in raw) ≡ true
long-bad s raw e = ap (is_bad s) (none-if (nat_lt longest_line (length raw)) _ e)

long : (held last : List ℕ) → nat_lt longest_line (length held + length last) ≡ true → nat_lt longest_line (length (held ++ last)) ≡ true
long held last e = ap (nat_lt longest_line) (length-append held last) ∙ e

pub decides-line : (r : ReaderState) (read last : List ℕ) (verdict : ReplayEnd) → (h : Holds r read) → IsOneLine last → Decides h.standing (r.capture.number + 1) (r.held ++ last) verdict
    → (more : List ℕ) → JudgedAt (lines_in false (read ++ (last ++ 10 ∷ more))) verdict
decides-line r read last verdict h one d more = record {
  before = h.lines;
  raw = r.held ++ last;
  behind = lines_of false (pieces more);
  whole = read-line read last more r.held h.lines h.whole h.are_lines h.one_line one;
  standing = h.standing;
  leads = h.leads;
  decides = subst (λ (n : ℕ). Decides h.standing (n + 1) (r.held ++ last) verdict) h.number d;
}

pub long-line : (r : ReaderState) (read last : List ℕ) → Holds r read → IsOneLine last → true ≡ nat_lt longest_line (length r.held + length last)
    → (more : List ℕ) → JudgedAt (lines_in false (read ++ (last ++ 10 ∷ more))) (BadCapture (r.capture.number + 1))
long-line r read last h one e = decides-line r read last (BadCapture (r.capture.number + 1)) h one (long-bad h.standing (r.held ++ last) (long r.held last (sym e)), refl)

-- a line is counted, and nothing is held any more
pub line-ended : (r new : ReaderState) (read last : List ℕ) (h : Holds r read) (t : CaptureState) (c : HeldCapture) → IsOneLine last → TakesGoodLine h.standing (r.held ++ last) t → IsCapture c t → c.number ≡ r.capture.number + 1
    → new ≡ record { capture = c; held = [] } → Holds new (read ++ (last ++ 10 ∷ []))
line-ended r new read last h t c one goes is number same =
    let lines : List (List ℕ) = h.lines ++ (r.held ++ last) ∷ [] in
    let bytes : read ++ (last ++ 10 ∷ []) ≡ ended_lines lines ++ [] =
    ap (λ (l : List ℕ). l ++ (last ++ 10 ∷ [])) h.whole ∙ append_assoc (ended_lines h.lines) r.held (last ++ 10 ∷ [])
    ∙ ap (λ (l : List ℕ). ended_lines h.lines ++ l) (sym (append_assoc r.held last (10 ∷ []))) ∙ sym (ended-append h.lines (r.held ++ last)) ∙ sym (append-nil (ended_lines lines)) in
    let it : Holds (record { capture = c; held = [] }) (read ++ (last ++ 10 ∷ [])) = record {
      lines = lines;
      whole = bytes;
      are_lines = lines-append h.lines (r.held ++ last) h.are_lines (All-append (λ byte. is_newline byte ≡ false) r.held last h.one_line one);
      one_line = All-nil (λ byte. is_newline byte ≡ false);
      size = omega arith;
      standing = t;
      leads = leads-one begins h.lines (r.held ++ last) h.standing t h.leads goes;
      is = is;
      number = number ∙ ap (λ (n : ℕ). n + 1) h.number ∙ sym (length-append h.lines ((r.held ++ last) ∷ []));
    } in
    subst (λ (x : ReaderState). Holds x (read ++ (last ++ 10 ∷ []))) (sym same) it

pub ends-line : (r new : ReaderState) (read last held : List ℕ) (verdict : Option ReplayEnd) (h : Holds r read) (c : HeldCapture) → IsOneLine last → held ≡ r.held ++ last
    → TakesRawLine h.standing (r.capture.number + 1) held verdict c → new ≡ record { capture = c; held = [] } → EndsLine read last verdict new
ends-line r new read last held None h c one at takes same =
    line-ended r new read last h takes.0 c one (subst (λ (l : List ℕ). TakesGoodLine h.standing l takes.0) at takes.1) takes.2 takes.3 same
ends-line r new read last held (Some verdict) h c one at takes same =
    decides-line r read last verdict h one (subst (λ (l : List ℕ). Decides h.standing (r.capture.number + 1) l verdict) at takes)

-- bytes without a newline

pub held-more : (r new : ReaderState) (read more : List ℕ) → Holds r read → IsOneLine more → false ≡ nat_lt longest_line (length r.held + length more)
    → new ≡ record { capture = r.capture; held = r.held ++ more } → Holds new (read ++ more)
held-more r new read more h one fits same =
    let size : length r.held + length more ≤ longest_line = elim (leb_tells (suc longest_line) (length r.held + length more)) [
      | inl t ↦ absurd (cc (fits ∙ t.0))
      | inr t ↦ omega (arith, t.1)
    ] in
    let it : Holds (record { capture = r.capture; held = r.held ++ more }) (read ++ more) = record {
      lines = h.lines;
      whole = ap (λ (l : List ℕ). l ++ more) h.whole ∙ append_assoc (ended_lines h.lines) r.held more;
      are_lines = h.are_lines;
      one_line = All-append (λ byte. is_newline byte ≡ false) r.held more h.one_line one;
      size = omega (arith, size, length-append r.held more);
      standing = h.standing;
      leads = h.leads;
      is = h.is;
      number = h.number;
    } in
    subst (λ (x : ReaderState). Holds x (read ++ more)) (sym same) it

last-long : (ended : Bool) (held : List ℕ) → nat_lt longest_line (length held) ≡ true → last_line ended held ≡ held ∷ []
last-long ended held e = ap (λ (b : Bool). if b || (ended && not (length held == 0)) then held ∷ [] else []) e

pub long-rest : (r : ReaderState) (read more : List ℕ) → Holds r read → IsOneLine more → true ≡ nat_lt longest_line (length r.held + length more)
    → JudgedAt (lines_in false (read ++ more)) (BadCapture (r.capture.number + 1))
long-rest r read more h one e =
    let too_long = long r.held more (sym e) in
    record {
      before = h.lines;
      raw = r.held ++ more;
      behind = [];
      whole = read-rest false (read ++ more) (r.held ++ more) h.lines (ap (λ (l : List ℕ). l ++ more) h.whole ∙ append_assoc (ended_lines h.lines) r.held more) h.are_lines
          (All-append (λ byte. is_newline byte ≡ false) r.held more h.one_line one) ∙ ap (λ (l : List (List ℕ)). h.lines ++ l) (last-long false (r.held ++ more) too_long);
      standing = h.standing;
      leads = h.leads;
      decides = (long-bad h.standing (r.held ++ more) too_long, ap (λ (n : ℕ). n + 1) h.number);
    }

-- the end

last-some : (held : List ℕ) → false ≡ (length held == 0) → last_line true held ≡ held ∷ []
last-some held e = ap (λ (b : Bool). if nat_lt longest_line (length held) || (not b) then held ∷ [] else []) (sym e) ∙ or-true (nat_lt longest_line (length held))
  where
    or-true : (b : Bool) → (if b || true then held ∷ [] else []) ≡ held ∷ []
    or-true true = refl
    or-true false = refl

pub ended-empty : (r : ReaderState) (read : List ℕ) (verdict : ReplayEnd) → (h : Holds r read) → r.held ≡ [] → DecidesEnd h.standing (r.capture.number + 1) verdict → Judged (lines_in true read) true verdict
ended-empty r read verdict h none d =
    let all : lines_in true read ≡ h.lines =
    read-rest true read r.held h.lines h.whole h.are_lines h.one_line ∙ ap (λ (l : List ℕ). h.lines ++ last_line true l) none ∙ append-nil h.lines in
    inr (
      record {
        standing = h.standing;
        leads = subst (λ (l : List (List ℕ)). Leads begins l h.standing) (sym all) h.leads;
        decides = subst (λ (n : ℕ). DecidesEnd h.standing (n + 1) verdict) (h.number ∙ ap length (sym all)) d;
      },
      refl,
    )

pub ended-last : (r : ReaderState) (read : List ℕ) (verdict : ReplayEnd) → (h : Holds r read) → false ≡ (length r.held == 0) → Decides h.standing (r.capture.number + 1) r.held verdict
    → Judged (lines_in true read) true verdict
ended-last r read verdict h some d = inl (record {
  before = h.lines;
  raw = r.held;
  behind = [];
  whole = read-rest true read r.held h.lines h.whole h.are_lines h.one_line ∙ ap (λ (l : List (List ℕ)). h.lines ++ l) (last-some r.held some);
  standing = h.standing;
  leads = h.leads;
  decides = subst (λ (n : ℕ). Decides h.standing (n + 1) r.held verdict) h.number d;
})

pub ended-line : (r : ReaderState) (read : List ℕ) (verdict : ReplayEnd) (h : Holds r read) (t : CaptureState) (n : ℕ) → false ≡ (length r.held == 0) → TakesGoodLine h.standing r.held t
    → n ≡ r.capture.number + 1 → DecidesEnd t (n + 1) verdict → Judged (lines_in true read) true verdict
ended-line r read verdict h t n some goes number d =
    let all : lines_in true read ≡ h.lines ++ r.held ∷ [] =
    read-rest true read r.held h.lines h.whole h.are_lines h.one_line ∙ ap (λ (l : List (List ℕ)). h.lines ++ l) (last-some r.held some) in
    let size : n ≡ length (lines_in true read) = number ∙ ap (λ (k : ℕ). k + 1) h.number ∙ sym (length-append h.lines (r.held ∷ [])) ∙ ap length (sym all) in
    inr (
      record {
        standing = t;
        leads = subst (λ (l : List (List ℕ)). Leads begins l t) (sym all) (leads-one begins h.lines r.held h.standing t h.leads goes);
        decides = subst (λ (k : ℕ). DecidesEnd t (k + 1) verdict) size d;
      },
      refl,
    )

pub some-held : (held : List ℕ) → 0 < length held → false ≡ (length held == 0)
some-held held some = elim (eqb_tells (length held) 0) [
  | inl t ↦ absurd (omega (arith, t.1, some))
  | inr t ↦ sym t.0
]

-- what is held is no line yet
last-short : (held : List ℕ) → length held ≤ longest_line → last_line false held ≡ []
last-short held size = elim (leb_tells (suc longest_line) (length held)) [
  | inl t ↦ absurd (omega (arith, t.1, size))
  | inr t ↦ ap (λ (b : Bool). if b || (false && not (length held == 0)) then held ∷ [] else []) t.0
]

pub undecided : (r : ReaderState) (read : List ℕ) → Holds r read → Undecided read
undecided r read h =
    let all : lines_in false read ≡ h.lines =
    read-rest false read r.held h.lines h.whole h.are_lines h.one_line ∙ ap (λ (l : List (List ℕ)). h.lines ++ l) (last-short r.held h.size) ∙ append-nil h.lines in
    (h.standing, subst (λ (l : List (List ℕ)). Leads begins l h.standing) (sym all) h.leads)
