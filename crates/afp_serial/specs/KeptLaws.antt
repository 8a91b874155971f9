-- What keeping one more answer does to those that a session keeps: the last 32 are found (this profile).
use Rattle.std.specs.Prelude.{◌≡◌, ◌<◌, true, false, List, ◌∷◌, length, Some}
use Rattle.afp_base.specs.Cached.{Answer, Kept, Request, cached_answer, is_repeat, with_kept}
use Rattle.afp_base.specs.Limits.{replay_cache_size}

-- the newest is found by a repeat of its request
abbrev pub FindsKept : Type 0
FindsKept = (cache : List Kept) (newest : Kept) (r : Request) → is_repeat newest.request r ≡ true → cached_answer (with_kept cache newest) r ≡ Some newest.answer

-- any other is found as before, where there is room for one more
abbrev pub KeepsOthers : Type 0
KeepsOthers = (cache : List Kept) (newest : Kept) (r : Request) → length cache < replay_cache_size → is_repeat newest.request r ≡ false → cached_answer (with_kept cache newest) r ≡ cached_answer cache r

-- where there is none, the oldest goes, and any other is found as it is among the rest
abbrev pub LosesOldest : Type 0
LosesOldest = (oldest : Kept) (rest : List Kept) (newest : Kept) (r : Request) → length (oldest ∷ rest) ≡ replay_cache_size → is_repeat newest.request r ≡ false → cached_answer (with_kept (oldest ∷ rest) newest) r ≡ cached_answer rest r

-- no other answer comes in than the newest
abbrev pub BringsNoOther : Type 0
BringsNoOther = (cache : List Kept) (newest : Kept) (r : Request) (a : Answer) → is_repeat newest.request r ≡ false → cached_answer (with_kept cache newest) r ≡ Some a → cached_answer cache r ≡ Some a
