-- Answers that are kept are found behind one more.
use Rattle.std.proofs.Common.{◌≡◌, ◌∙◌, ap, sym, refl, arith, ℕ, zero, suc, ◌+◌, ◌-◌, ◌≤◌, false, List, [], ◌∷◌, ◌++◌, length, Some}
use Rattle.std.specs.Prelude.{drop}
use Rattle.std.proofs.lemmas.List.{length-append}
use Rattle.afp_base.specs.Cached.{Answer, FindsNewest, Kept, PassesOthers, Request, cached_answer, is_repeat, with_kept}
use Rattle.afp_base.specs.Limits.{replay_cache_size}
use Rattle.afp_serial.specs.KeptLaws.{BringsNoOther, FindsKept, KeepsOthers, LosesOldest}

-- what is dropped from the front stands in front of the last
drop-front : (n : ℕ) (xs : List Kept) (x : Kept) → n ≤ length xs → drop n (xs ++ x ∷ []) ≡ drop n xs ++ x ∷ []
drop-front zero xs x h = refl
drop-front (suc n) [] x h = absurd (omega (arith, h))
drop-front (suc n) (y ∷ xs) x h = drop-front n xs x (omega (arith, h))

-- the answers with one more, as a list
kept-list : (cache : List Kept) (newest : Kept) → with_kept cache newest ≡ drop (length cache + 1 - replay_cache_size) cache ++ newest ∷ []
kept-list cache newest =
    ap (λ n. drop (n - replay_cache_size) (cache ++ newest ∷ [])) (length-append cache (newest ∷ []))
    ∙ drop-front (length cache + 1 - replay_cache_size) cache newest (omega arith)

-- what is found behind the first few is found among all
found-behind : (n : ℕ) (cache : List Kept) (r : Request) (a : Answer) → cached_answer (drop n cache) r ≡ Some a → cached_answer cache r ≡ Some a
found-behind zero cache r a h = h
found-behind (suc n) [] r a h = h
found-behind (suc n) (k ∷ ks) r a h = rw (found-behind n ks r a h) refl

module _ (newest_found : FindsNewest) (others : PassesOthers) where
  pub finds-kept : FindsKept
  finds-kept cache newest r same = ap (λ kept. cached_answer kept r) (kept-list cache newest) ∙ newest_found (drop (length cache + 1 - replay_cache_size) cache) newest r same

  passes-rest : (cache : List Kept) (newest : Kept) (r : Request) → is_repeat newest.request r ≡ false → cached_answer (with_kept cache newest) r ≡ cached_answer (drop (length cache + 1 - replay_cache_size) cache) r
  passes-rest cache newest r other = ap (λ kept. cached_answer kept r) (kept-list cache newest) ∙ others (drop (length cache + 1 - replay_cache_size) cache) newest r other

  pub keeps-others : KeepsOthers
  keeps-others cache newest r room other =
      let none : length cache + 1 - replay_cache_size ≡ 0 = omega (arith, room) in
      passes-rest cache newest r other ∙ ap (λ n. cached_answer (drop n cache) r) none

  pub loses-oldest : LosesOldest
  loses-oldest oldest rest newest r full other =
      let one : length (oldest ∷ rest) + 1 - replay_cache_size ≡ 1 = omega (arith, full) in
      passes-rest (oldest ∷ rest) newest r other ∙ ap (λ n. cached_answer (drop n (oldest ∷ rest)) r) one

  pub brings-no-other : BringsNoOther
  brings-no-other cache newest r a other found = found-behind (length cache + 1 - replay_cache_size) cache r a (sym (passes-rest cache newest r other) ∙ found)
