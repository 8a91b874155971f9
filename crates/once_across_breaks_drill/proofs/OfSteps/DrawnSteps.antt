-- Each step of a drill is one of the law.
use Rattle.std.proofs.Common.{◌≡◌, refl, ap, ◌∙◌, ℕ, zero, suc, ◌+◌, ◌*◌, ◌%◌, ◌<◌, ◌≤◌, true, ◌&&◌, List, [], ◌∷◌, ◌++◌, length, replicate, None, pos, inl, inr, arith, lit<}
use Rattle.std.specs.Prelude.{◌==◌, FitsSigned, codes}
use Rattle.std.specs.Int.{cast_unsigned, w32}
use Rattle.std.specs.List.{AllByRecursion}
use Rattle.std.proofs.Math.Nat.{mod-lt}
use Rattle.std.proofs.lemmas.Bool.{and_from, cases_lt, cond_both, eqb-false, le-leb, lt-ltb}
use Rattle.byteorder.specs.Endian.{big_bytes}
use Rattle.afp_base.proofs.ListFacts.{all-append}
use Rattle.afp_names.specs.Path.{PathValue, canonical_path}
use Rattle.afp_calls_grammar.specs.grammar.Call.{IsSpellable, IsTypedCall, canonical_call, canonical_data}
use Rattle.afp_calls_grammar.specs.grammar.Words.{Pathname, canonical, count_size, hint_size}
use Rattle.afp_calls_grammar.specs.declared.grammar.call.Call.{Call}
use Rattle.dsi_session.specs.RequestIds.{id_after}
use Rattle.volume_spec.specs.TypedVolume.{are_bytes, is_byte, is_long, is_word}
use Rattle.afp_serial.specs.HouseFault.{house_fault}
use Rattle.afp_serial.specs.Limits.{links_end}
use Rattle.afp_serial.specs.Ranges.{is_typed_ask, is_typed_house}
use Rattle.once_across_breaks.proofs.OfOnce.Wishes.{high-typed}
use Rattle.once_across_breaks.specs.same.Laws.{BreaksChangeNothingBehindOpenings, IsOpening, IsStep, is_of_law}
use Rattle.once_across_breaks.specs.declared.same.breaks.Break.{Break}
use Rattle.once_across_breaks.specs.declared.same.breaks.Break.TheVariants.{Before, Behind, Never}
use Rattle.once_across_breaks.specs.same.Steps.{ask_with, breaks_in, call_ask, is_broken}
use Rattle.capture_made.specs.requests.Drawing.{drawn, next_state}
use Rattle.capture_made.specs.requests.Requests.{call_of, close_fork, create_file, delete, enumerate, first_moment, lock, name, open_fork, path, rename, write}
use Rattle.once_across_breaks_drill.proofs.OfSteps.Paths.{IsGoodPath, name-good, root-good}
use Rattle.once_across_breaks_drill.specs.steps.Drilling.{Drawn, drawn_after, drill_steps, first_drawn, house, next_step, steps_from}
use Rattle.once_across_breaks_drill.specs.steps.Laws.{DrillsAreUndisturbed}

-- what is known of a call that a step makes, whatever its id
record IsGoodCall (call : Call) : Type 0 where
  call_is : is_of_law call ≡ true
  typed : IsTypedCall call
  spellable : IsSpellable call
  bytes : (id : ℕ) → is_word id ≡ true → is_typed_ask (call_ask id call) ≡ true

-- the bytes of a path in a block

zeros-typed : (n : ℕ) → are_bytes (replicate n 0) ≡ true
zeros-typed zero = refl
zeros-typed (suc n) = zeros-typed n

path-typed : (p : PathValue) (place : ℕ) → IsGoodPath p → are_bytes (canonical Pathname p place) ≡ true
path-typed p place g =
    let cp : List ℕ = canonical_path p in
    let count : List ℕ = big_bytes (count_size p.kind) (length cp) in
    let hint : List ℕ = replicate (hint_size p.kind) 0 in
    and_from (is_byte p.kind) (are_bytes (hint ++ (count ++ cp))) (ap is_byte g.kind)
    (all-append is_byte hint (count ++ cp) (zeros-typed (hint_size p.kind)) (all-append is_byte count cp (high-typed (count_size p.kind) (length cp)) g.bytes))

-- a block's bytes, behind those that stand there
then-path : (front rest : List ℕ) (p : PathValue) (place : ℕ) → are_bytes front ≡ true → IsGoodPath p → are_bytes rest ≡ true → are_bytes (front ++ (canonical Pathname p place ++ rest)) ≡ true
then-path front rest p place f g r = all-append is_byte front (canonical Pathname p place ++ rest) f (all-append is_byte (canonical Pathname p place) rest (path-typed p place g) r)

then-number : (front rest : List ℕ) (n x : ℕ) → are_bytes front ≡ true → are_bytes rest ≡ true → are_bytes (front ++ (big_bytes n x ++ rest)) ≡ true
then-number front rest n x f r = all-append is_byte front (big_bytes n x ++ rest) f (all-append is_byte (big_bytes n x) rest (high-typed n x) r)

-- the ask of a call without data
alone-typed : (call : Call) (id : ℕ) → canonical_data call ≡ None → are_bytes (canonical_call call) ≡ true → is_word id ≡ true → is_typed_ask (call_ask id call) ≡ true
alone-typed call id none typed word = ap (λ d. is_typed_ask (ask_with id call d)) none ∙ and_from (is_word id) (are_bytes (canonical_call call)) word typed

-- the calls

small : (n : ℕ) → n % 8 < 8
small n = mod-lt n (omega arith)

fits : (n : ℕ) → n < 2147483648 → FitsSigned w32 (pos n)
fits n h = record { sfits = omega (arith, h) }

create-good : (a : ℕ) → IsGoodCall (create_file a)
unfolding canonical_call canonical_data
create-good a =
    let p = name-good a in
    record {
      call_is = refl;
      typed = (tt, (lit< tt, (lit< tt, (lit< tt, (p.is, tt)))));
      spellable = record { fields = (tt, (tt, (tt, (tt, (tt, tt))))); encloses = tt };
      bytes = λ id word. alone-typed (create_file a) id refl (then-path (7 ∷ 0 ∷ 0 ∷ 1 ∷ 0 ∷ 0 ∷ 0 ∷ 2 ∷ []) [] (path _) 8 refl p refl) word;
    }

delete-good : (a : ℕ) → IsGoodCall (delete a)
unfolding canonical_call canonical_data
delete-good a =
    let p = name-good a in
    record {
      call_is = refl;
      typed = (tt, (tt, (lit< tt, (lit< tt, (p.is, tt)))));
      spellable = record { fields = (tt, (tt, (tt, (tt, (tt, tt))))); encloses = tt };
      bytes = λ id word. alone-typed (delete a) id refl (then-path (8 ∷ 0 ∷ 0 ∷ 1 ∷ 0 ∷ 0 ∷ 0 ∷ 2 ∷ []) [] (path _) 8 refl p refl) word;
    }

rename-good : (a b : ℕ) → IsGoodCall (rename a b)
unfolding canonical_call canonical_data
rename-good a b =
    let p = name-good a in
    let q = name-good b in
    record {
      call_is = refl;
      typed = (tt, (tt, (lit< tt, (lit< tt, (p.is, (q.is, tt))))));
      spellable = record { fields = (tt, (tt, (tt, (tt, (tt, (tt, tt)))))); encloses = tt };
      bytes = λ id word. alone-typed (rename a b) id refl (then-path (28 ∷ 0 ∷ 0 ∷ 1 ∷ 0 ∷ 0 ∷ 0 ∷ 2 ∷ []) _ (path _) 8 refl p (then-path [] [] (path _) 0 refl q refl)) word;
    }

mode-small : (a b : ℕ) → a % 4 + 16 * (b % 4) < 65536
mode-small a b = let x : a % 4 < 4 = mod-lt a (omega arith) in let y : b % 4 < 4 = mod-lt b (omega arith) in omega (arith, x, y)

open-good : (a b : ℕ) → IsGoodCall (open_fork a b)
unfolding canonical_call canonical_data
open-good a b =
    let p = name-good a in
    record {
      call_is = refl;
      typed = (tt, (lit< tt, (lit< tt, (lit< tt, (lit< tt, (mode-small a b, (p.is, tt)))))));
      spellable = record { fields = (tt, (tt, (tt, (tt, (tt, (tt, (tt, tt))))))); encloses = tt };
      bytes = λ id word. alone-typed (open_fork a b) id refl (then-number (26 ∷ 0 ∷ 0 ∷ 1 ∷ 0 ∷ 0 ∷ 0 ∷ 2 ∷ 0 ∷ 0 ∷ []) (canonical Pathname (path (name a)) 0 ++ []) 2 (a % 4 + 16 * (b % 4)) refl (then-path [] [] (path _) 0 refl p refl)) word;
    }

reference-small : (a : ℕ) → 1 + a % 8 < 65536
reference-small a = let x = small a in omega (arith, x)

close-good : (a : ℕ) → IsGoodCall (close_fork a)
unfolding canonical_call canonical_data
close-good a = record {
  call_is = refl;
  typed = (tt, (tt, (reference-small a, tt)));
  spellable = record { fields = (tt, (tt, (tt, tt))); encloses = tt };
  bytes = λ id word. alone-typed (close_fork a) id refl (then-number (4 ∷ 0 ∷ []) [] 2 (1 + a % 8) refl refl) word;
}

lock-good : (a b : ℕ) → IsGoodCall (lock a b)
unfolding canonical_call canonical_data
lock-good a b =
    let y = small b in
    let offset : ℕ = cast_unsigned w32 (pos (b % 8)) in
    let size : ℕ = cast_unsigned w32 (pos 4) in
    record {
      call_is = refl;
      typed = (tt, (lit< tt, (reference-small a, (fits (b % 8) (omega (arith, y)), (fits 4 (lit< tt), tt)))));
      spellable = record { fields = (tt, (tt, (tt, (tt, (tt, tt))))); encloses = tt };
      bytes = λ id word. alone-typed (lock a b) id refl
          (then-number (1 ∷ 0 ∷ []) (big_bytes 4 offset ++ (big_bytes 4 size ++ [])) 2 (1 + a % 8) refl
          (then-number [] (big_bytes 4 size ++ []) 4 offset refl (then-number [] [] 4 size refl refl))) word;
    }

write-good : (a b : ℕ) → IsGoodCall (write a b)
unfolding canonical_call canonical_data
write-good a b =
    let y = small b in
    let front : are_bytes (canonical_call (write a b)) ≡ true =
    then-number (33 ∷ 128 ∷ []) (big_bytes 4 (cast_unsigned w32 (pos 0)) ++ (big_bytes 4 1 ++ [])) 2 (1 + a % 8) refl
    (then-number [] (big_bytes 4 1 ++ []) 4 (cast_unsigned w32 (pos 0)) refl (then-number [] [] 4 1 refl refl)) in
    let byte : are_bytes ((0x61 + b % 8) ∷ []) ≡ true = and_from (is_byte (0x61 + b % 8)) true (lt-ltb (0x61 + b % 8) 256 (omega (arith, y))) refl in
    record {
      call_is = refl;
      typed = (tt, (lit< tt, (reference-small a, (fits 0 (lit< tt), (lit< tt, tt)))));
      spellable = record { fields = (tt, (tt, (tt, (tt, (tt, tt))))); encloses = refl };
      bytes = λ id word. and_from (is_word id) (is_long (length (canonical_call (write a b))) && are_bytes (canonical_call (write a b) ++ (0x61 + b % 8) ∷ [])) word (all-append is_byte (canonical_call (write a b)) ((0x61 + b % 8) ∷ []) front byte);
    }

enumerate-good : IsGoodCall enumerate
unfolding canonical_call canonical_data
enumerate-good = record {
  call_is = refl;
  typed = (tt, (tt, (lit< tt, (lit< tt, (lit< tt, (lit< tt, (lit< tt, (lit< tt, (lit< tt, (root-good.is, tt))))))))));
  spellable = record { fields = (tt, (tt, (tt, (tt, (tt, (tt, (tt, (tt, (tt, (tt, tt)))))))))); encloses = tt };
  bytes = λ id word. alone-typed enumerate id refl
      (then-path (68 ∷ 0 ∷ 0 ∷ 1 ∷ 0 ∷ 0 ∷ 0 ∷ 2 ∷ 1 ∷ 64 ∷ 1 ∷ 64 ∷ 0 ∷ 16 ∷ 0 ∷ 0 ∷ 0 ∷ 1 ∷ 0 ∷ 0 ∷ 16 ∷ 0 ∷ []) [] (path []) 22 refl root-good refl) word;
}

call-good : (o a b : ℕ) → IsGoodCall (call_of o a b)
call-good o a b =
    cond_both (o == 0) (create_file a) _ IsGoodCall (λ is. create-good a)
    (λ is. cond_both (o == 1) (delete a) _ IsGoodCall (λ is. delete-good a)
    (λ is. cond_both (o == 2) (rename a b) _ IsGoodCall (λ is. rename-good a b)
    (λ is. cond_both (o == 3) (open_fork a b) _ IsGoodCall (λ is. open-good a b)
    (λ is. cond_both (o == 4) (close_fork a) _ IsGoodCall (λ is. close-good a)
    (λ is. cond_both (o == 5) (lock a b) _ IsGoodCall (λ is. lock-good a b)
    (λ is. cond_both (o == 6) (write a b) enumerate IsGoodCall (λ is. write-good a b) (λ is. enumerate-good)))))))

-- the steps

step-is : (d : Drawn) → d.id < 65536 → d.made < 100000 → IsStep (next_step d)
step-is d word few =
    let g = call-good ((drawn (next_state d.state)).o % 8) (drawn (next_state d.state)).a (drawn (next_state d.state)).b in
    record { call = g.call_is; typed = g.typed; spellable = g.spellable; moment = le-leb (first_moment + (d.made + 1)) 2147483647 (omega (arith, few)); ask = g.bytes d.id (lt-ltb d.id 65536 word) }

id-small : (id : ℕ) → id < 65536 → id_after id < 65536
id-small id word = cond_both (id == 65535) 0 (id + 1) (λ n. n < 65536) (λ last. lit< tt) (λ other. elim (cases_lt id 65535) [
  | inl less ↦ omega (arith, less)
  | inr more ↦ absurd (eqb-false id 65535 other (omega (arith, word, more)))
])

steps-are : (count : ℕ) (d : Drawn) → d.id < 65536 → d.made + count ≤ 100000 → AllByRecursion IsStep (steps_from d count)
steps-are zero d word few = tt
steps-are (suc count) d word few = (step-is d word (omega (arith, few)), steps-are count (drawn_after d) (id-small d.id word) (omega (arith, few)))

broken-once : (b : Break) → is_broken b ≤ 1
broken-once Never = omega arith
broken-once Before = omega arith
broken-once Behind = omega arith

few-breaks : (count : ℕ) (d : Drawn) → breaks_in (steps_from d count) ≤ count
few-breaks zero d = omega arith
few-breaks (suc count) d =
    let one = broken-once (next_step d).breaks in
    let rest = few-breaks count (drawn_after d) in
    omega (arith, one, rest)

-- the opening

opening-is : IsOpening house first_moment 0x20 (codes "Share")
unfolding house_fault is_typed_house canonical_call
opening-is = record {
  faultless = refl;
  typed = refl;
  at = refl;
  bits_typed = (tt, (tt, (lit< tt, (tt, tt))));
  spellable = record { fields = (tt, (tt, (tt, (lit< tt, tt)))); encloses = tt };
  bytes = refl;
}

pub drills-are : BreaksChangeNothingBehindOpenings → DrillsAreUndisturbed
drills-are law number count few =
    let least = few-breaks count (first_drawn number) in
    let room : 200000 < links_end = lit< tt in
    law house first_moment 0x20 (codes "Share") (drill_steps number count) opening-is (steps-are count (first_drawn number) (lit< tt) (omega (arith, few))) (omega (arith, least, few, room))
