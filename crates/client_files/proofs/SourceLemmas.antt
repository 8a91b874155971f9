-- What a source gives, from read to read.
use Rattle.std.proofs.Common.{◌≡◌, ℕ, ◌+◌, ◌<◌, ◌≤◌, List, [], ◌∷◌, ◌++◌, length, take, drop, refl, ap, sym, subst, ◌∙◌, arith, append_assoc, option_map, Option, Some, None, take-add}
use Rattle.std.proofs.lemmas.List.{length-drop, length-take, take-append-drop, take-append-le}
use Rattle.std.specs.Prelude.{IfSome}
use Rattle.afp_base.specs.Counts.{CountsOn}
use Rattle.afp_base.proofs.Facts.{added-added, nothing-added}
use Rattle.afp_outside.specs.ends.Source.{SourceState, SourceEnds, SourceFails, SourceGives}
use Rattle.client_files.specs.Sources.{FillsPart, Gives, GivesThenFails, IsAtEnd, Loses}

none_first : (o : Option (List ℕ)) → o ≡ option_map (λ (coming : List ℕ). [] ++ coming) o
none_first None = refl
none_first (Some xs) = refl

both_first : (x y : List ℕ) (o : Option (List ℕ)) → option_map (λ (coming : List ℕ). x ++ coming) (option_map (λ (coming : List ℕ). y ++ coming) o) ≡ option_map (λ (coming : List ℕ). (x ++ y) ++ coming) o
both_first x y None = refl
both_first x y (Some xs) = ap Some (sym (append_assoc x y xs))

pub gives_none : (a : SourceState) → Gives a [] a
gives_none a = record { given = nothing-added a.given; coming = none_first a.coming; faults = refl }

pub gives_join : (a b c : SourceState) (x y : List ℕ) → Gives a x b → Gives b y c → Gives a (x ++ y) c
gives_join a b c x y s t = record {
  given = t.given ∙ ap (λ o. option_map (λ given. given ++ y) o) s.given ∙ added-added a.given x y;
  coming = s.coming ∙ ap (λ o. option_map (λ coming. x ++ coming) o) t.coming ∙ both_first x y c.coming;
  faults = t.faults ∙ s.faults;
}

-- a read gave the bytes that begin its room
pub gives_read : (a b : SourceState) (room : List ℕ) (n : ℕ) → SourceGives a room n b → Gives a (take n room) b
gives_read a b room n s = record { given = s.given; coming = s.coming; faults = s.faults }

-- a read found the end behind these
pub gives_end : (a b c : SourceState) (x : List ℕ) → Gives a x b → SourceEnds b c → Gives a x c
gives_end a b c x s t = record { given = t.given ∙ s.given; coming = s.coming ∙ ap (λ o. option_map (λ coming. x ++ coming) o) (sym t.coming); faults = t.faults ∙ s.faults }

pub at_end : (b c : SourceState) → SourceEnds b c → IsAtEnd c
at_end b c t = record { ended = t.ended; nothing_left = subst (λ o. IfSome o (λ coming. coming ≡ [])) (sym t.coming) t.nothing_left }

-- a read failed behind these
pub gives_fail : (a b c : SourceState) (x : List ℕ) → Gives a x b → SourceFails b c → GivesThenFails a x c
gives_fail a b c x s t = record {
  given = t.given ∙ s.given;
  coming = s.coming ∙ ap (λ o. option_map (λ coming. x ++ coming) o) (sym t.coming);
  fault = subst (λ (n : ℕ). CountsOn 1 n c.faults) s.faults t.faults;
}

take_within : (n m : ℕ) (ys : List ℕ) → n ≤ length (take m ys) → take n (take m ys) ≡ take n ys
take_within n m ys h = sym (take-append-le n (take m ys) (drop m ys) h) ∙ ap (λ (l : List ℕ). take n l) (take-append-drop m ys)

-- a read gave the bytes that begin the front of its room
pub gives_front : (b c : SourceState) (room : List ℕ) (m n : ℕ) → SourceGives b (take m room) n c → Gives b (take n room) c
gives_front b c room m n s = subst (λ (l : List ℕ). Gives b l c) (take_within n m room s.most) (gives_read b c (take m room) n s)

-- a read gave bytes behind those that a room has
pub fill_more : (a b c : SourceState) (room next : List ℕ) (got m n : ℕ) → Gives a (take got room) b → take got next ≡ take got room → SourceGives b (take m (drop got next)) n c → Gives a (take (got + n) next) c
fill_more a b c room next got m n g same s =
    subst (λ (l : List ℕ). Gives a l c)
    (ap (λ (l : List ℕ). l ++ take n (take m (drop got next))) (sym same) ∙ ap (λ (l : List ℕ). take got next ++ l) (take_within n m (drop got next) s.most) ∙ sym (take-add got n next))
    (gives_join a b c (take got room) (take n (take m (drop got next))) g (gives_read b c (take m (drop got next)) n s))

-- nothing stands in the room yet
pub gives_start : (a : SourceState) (room : List ℕ) → Gives a (take 0 room) a
gives_start a [] = gives_none a
gives_start a (x ∷ room) = gives_none a

pub fill_fits : (room next : List ℕ) (got m n : ℕ) → got ≤ length room → length next ≡ length room → n ≤ length (take m (drop got next)) → got + n ≤ length next
fill_fits room next got m n most size h = omega (arith, most, size, h, length-take m (drop got next), length-drop got next)

-- the source ended behind those that a room has
pub fill_end : (a b c : SourceState) (room next : List ℕ) (got : ℕ) → got ≤ length room → length next ≡ length room → Gives a (take got room) b → take got next ≡ take got room → SourceEnds b c → FillsPart a next got c
fill_end a b c room next got most size g same e = record {
  most = omega (arith, most, size);
  gives = subst (λ (l : List ℕ). Gives a l c) (sym same) (gives_end a b c (take got room) g e);
  end = λ _. at_end b c e;
}

pub fill_failed : (a b c : SourceState) (room next : List ℕ) (got : ℕ) → got < length room → length next ≡ length room → Gives a (take got room) b → SourceFails b c → Loses (length next) a c
fill_failed a b c room next got few size g e = record {
  lost = take got room;
  few = omega (arith, few, size, length-take got room);
  fails = gives_fail a b c (take got room) g e;
}

pub fill_full : (a c : SourceState) (room : List ℕ) (got : ℕ) → got ≤ length room → length room ≤ got → Gives a (take got room) c → FillsPart a room got c
fill_full a c room got most least g = record { most = most; gives = g; end = λ more. absurd (omega (arith, more, least)) }
