-- The part of a buffer that is held, as bytes move, come and go.
use Rattle.std.proofs.Common.{◌≡◌, ℕ, ◌+◌, ◌-◌, ◌<◌, ◌≤◌, List, ◌++◌, length, take, drop, get_or, sym, ap, ◌∙◌, arith}
use Rattle.std.proofs.lemmas.List.{drop_at, drop-take, drop-drop, drop-append-le, length-take-le, length-drop, get_or-take, get_or-drop, ext_get_or}
use Rattle.std.proofs.lemmas.Slice.{take-put_mid}
use borrow.Rule.Slice.PartMut.{put_mid}
use Rattle.std.proofs.Math.Seq.{take-add}
use Rattle.dsi_frame.specs.Buffered.{Buffered}

-- as many bytes are held as the buffer says
pub length-held : (items : List ℕ) (start held : ℕ) → start + held ≤ length items → length (take held (drop start items)) ≡ held
length-held items start held fits = length-take-le held (drop start items) (omega (arith, length-drop start items))

-- bytes that were moved to the front are the bytes that were held
pub moved : (held start : ℕ) (xs ys : List ℕ) → start + held ≤ length ys → length xs ≡ length ys
    → ((k : ℕ) → k < held → get_or xs k 0 ≡ get_or ys (start + k) 0) → take held xs ≡ take held (drop start ys)
moved held start xs ys fits size same =
    let left : length (take held xs) ≡ held = length-take-le held xs (omega arith) in
    let right : length (take held (drop start ys)) ≡ held = length-held ys start held fits in
    ext_get_or 0 (take held xs) (take held (drop start ys)) (left ∙ sym right)
    (λ k low. get_or-take held xs k 0 (omega (arith, left, low)) ∙ same k (omega (arith, left, low))
    ∙ sym (get_or-drop start ys k 0) ∙ sym (get_or-take held (drop start ys) k 0 (omega (arith, left, low))))

-- a piece that was put behind the bytes held
pub put-behind : (start held k m : ℕ) (xs ys : List ℕ) → start + held ≤ length xs → length ys ≡ m
    → take (held + m) (drop start (put_mid (start + held) k xs ys)) ≡ take held (drop start xs) ++ ys
put-behind start held k m xs ys fits size =
    sym (drop-take start (held + m) (put_mid (start + held) k xs ys))
    ∙ ap (drop start) (take-put_mid (start + held) k xs ys (start + (held + m)) (omega arith) fits)
    ∙ drop-append-le start (take (start + held) xs) ys (omega (arith, length-take-le (start + held) xs fits))
    ∙ ap (λ (l : List ℕ). l ++ ys) (drop-take start held xs)

-- what is held behind the first bytes
pub behind-first : (items first more : List ℕ) (start held n : ℕ) → n ≡ length first → take held (drop start items) ≡ first ++ more → n ≤ held
    → take (held - n) (drop (start + n) items) ≡ more
behind-first items first more start held n size same fits =
    let whole : held ≡ n + (held - n) = omega arith in
    ap (take (held - n)) (sym (drop-drop n start items))
    ∙ sym (drop-take n (held - n) (drop start items))
    ∙ ap (λ (m : ℕ). drop n (take m (drop start items))) (sym whole)
    ∙ ap (drop n) same
    ∙ drop_at first more n (sym size)

pub advanced : (items first more : List ℕ) (start held n place from : ℕ) (old : Buffered) → n ≡ length first → place ≡ from
    → take held (drop start items) ≡ first ++ more → n ≤ held
    → let new : Buffered = record { place = place + n; rest = take (held - n) (drop (start + n) items) } in
    let wanted : Buffered = record { place = from + length first; rest = more } in new ≡ wanted
advanced items first more start held n place from old size same_place same fits =
    let rest = behind-first items first more start held n size same fits in
    λ i. record { place = same_place i + size i; rest = rest i }

-- the bytes held before, with those that came behind them, where the front of the buffer stayed
pub filled : (start held n old : ℕ) (xs middle new : List ℕ) → start + held ≤ length middle
    → take (start + held) new ≡ take (start + held) middle
    → take held (drop start middle) ≡ take held (drop old xs)
    → take (held + n) (drop start new) ≡ take held (drop old xs) ++ take n (drop (start + held) new)
filled start held n old xs middle new fits front same =
    take-add held n (drop start new)
    ∙ ap (λ (l : List ℕ). l ++ take n (drop held (drop start new))) (sym (drop-take start held new) ∙ ap (drop start) front ∙ drop-take start held middle ∙ same)
    ∙ ap (λ (l : List ℕ). take held (drop old xs) ++ take n l) (drop-drop held start new)
