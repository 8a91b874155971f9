-- The answers that a session keeps, the newest first.
use Rattle.std.proofs.Common.{◌≡◌, ◌∙◌, refl, sym, ap, ℕ, zero, suc, ◌≤◌, Bool, true, false, cond, List, [], ◌∷◌, ◌++◌, length, take, drop, Option, Some, None, arith, length-append, inl, inr}
use Rattle.std.specs.Prelude.{◌-◌}
use Rattle.std.proofs.lemmas.Bool.{cases_lt}
use Rattle.std.proofs.lemmas.List.{take-append-le}
use Rattle.afp_base.specs.Cached as base
use Rattle.afp_base.specs.Cached.{Request, cached_answer, either, is_repeat, with_kept}
use Rattle.once_across_breaks.specs.once.Messages.{Answer, Kept, cached, store}
use Rattle.once_across_breaks.specs.once.Serial.{answer_by, newest_first}

-- an answer as the client reads it
abbrev pub read : base.Answer → Answer
read a = answer_by a.code a.block

abbrev pub read_option : Option base.Answer → Option Answer
read_option None = None
read_option (Some a) = Some (read a)

abbrev pub read_kept : base.Kept → Kept
read_kept k = record { request = k.request; answer = answer_by k.answer.code k.answer.block }

-- ---- finding

abbrev or_else : Option Answer → Option Answer → Option Answer
or_else (Some a) b = Some a
or_else None b = b

or-else-cond : (b : Bool) (a : Answer) (o p : Option Answer) → cond b (Some a) (or_else o p) ≡ or_else (cond b (Some a) o) p
or-else-cond true a o p = refl
or-else-cond false a o p = refl

cached-push : (xs : List Kept) (y : Kept) (r : Request) → cached (xs ++ y ∷ []) r ≡ or_else (cached xs r) (cond (is_repeat y.request r) (Some y.answer) None)
cached-push [] y r = refl
cached-push (x ∷ xs) y r = ap (λ o. cond (is_repeat x.request r) (Some x.answer) o) (cached-push xs y r) ∙ or-else-cond (is_repeat x.request r) x.answer (cached xs r) (cond (is_repeat y.request r) (Some y.answer) None)

read-either : (o : Option base.Answer) (b : Bool) (a : base.Answer) → or_else (read_option o) (cond b (Some (read a)) None) ≡ read_option (either o (cond b (Some a) None))
read-either (Some x) b a = refl
read-either None true a = refl
read-either None false a = refl

-- what is found is the same
pub cached-newest : (ks : List base.Kept) (r : Request) → cached (newest_first ks) r ≡ read_option (cached_answer ks r)
cached-newest [] r = refl
cached-newest (k ∷ ks) r =
    cached-push (newest_first ks) (read_kept k) r
    ∙ ap (λ o. or_else o (cond (is_repeat k.request r) (Some (read k.answer)) None)) (cached-newest ks r)
    ∙ read-either (cached_answer ks r) (is_repeat k.request r) k.answer

-- ---- keeping one more

newest-push : (xs : List base.Kept) (y : base.Kept) → newest_first (xs ++ y ∷ []) ≡ read_kept y ∷ newest_first xs
newest-push [] y = refl
newest-push (x ∷ xs) y = ap (λ ks. ks ++ read_kept x ∷ []) (newest-push xs y)

length-newest : (xs : List base.Kept) → length (newest_first xs) ≡ length xs
length-newest [] = refl
length-newest (x ∷ xs) = let e = length-append (newest_first xs) (read_kept x ∷ []) in let f = length-newest xs in omega arith

take-whole : (n : ℕ) (xs : List Kept) → length xs ≤ n → take n xs ≡ xs
take-whole zero [] short = refl
take-whole zero (x ∷ xs) short = absurd (omega arith)
take-whole (suc n) [] short = refl
take-whole (suc n) (x ∷ xs) short = ap (λ ks. x ∷ ks) (take-whole n xs (omega arith))

newest-drop : (n : ℕ) (xs : List base.Kept) → newest_first (drop n xs) ≡ take (length xs - n) (newest_first xs)
newest-drop zero xs = let e = length-newest xs in sym (take-whole (length xs - 0) (newest_first xs) (omega arith))
newest-drop (suc n) [] = sym (take-whole (length {A = base.Kept} [] - suc n) [] (omega arith))
newest-drop (suc n) (x ∷ xs) =
    let same : length (x ∷ xs) - suc n ≡ length xs - n = omega arith in
    let e = length-newest xs in
    newest-drop n xs ∙ sym (take-append-le (length xs - n) (newest_first xs) (read_kept x ∷ []) (omega arith)) ∙ ap (λ m. take m (newest_first xs ++ read_kept x ∷ [])) (sym same)

-- the first 32 of the newest
take-last : (all : ℕ) (zs : List Kept) → length zs ≡ all → take (all - (all - 32)) zs ≡ take 32 zs
take-last all zs is =
    elim (cases_lt 32 all) [
      | inl less ↦ ap (λ n. take n zs) (let e : all - (all - 32) ≡ 32 = omega arith in e)
      | inr more ↦ take-whole (all - (all - 32)) zs (omega arith) ∙ sym (take-whole 32 zs (omega arith))
    ]

pub newest-kept : (ks : List base.Kept) (r : Request) (a : base.Answer) → newest_first (with_kept ks (record { request = r; answer = a })) ≡ store (newest_first ks) r (read a)
newest-kept ks r a =
    let new : base.Kept = record { request = r; answer = a } in
    let all : List base.Kept = ks ++ new ∷ [] in
    newest-drop (length all - 32) all
    ∙ take-last (length all) (newest_first all) (length-newest all)
    ∙ ap (λ zs. take 32 zs) (newest-push ks new)
