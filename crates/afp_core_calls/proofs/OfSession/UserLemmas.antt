-- The first element that passes, by its place, and rows that only tell.
use Rattle.std.proofs.Common.{◌≡◌, ◌∙◌, ap, sym, refl, ℕ, suc, zero, ◌+◌, ◌≤◌, ◌<◌, arith, Bool, true, false, not, cond, List, [], ◌∷◌, get_or, length, Option, Some, None}
use Rattle.std.specs.Prelude.{find, option_map, position, slice_get}
use Rattle.std.specs.List.{position_or_len}
use Rattle.std.proofs.lemmas.Bool.{ltb-false}
use Rattle.std.proofs.lemmas.Option.{slice_get-get_or}
use Rattle.afp_base.specs.Choice.{first_holding}
use Rattle.afp_base.specs.declared.code.Code.TheVariants.{Ok}
use Rattle.afp_replies.specs.Replies.{canonical_reply}
use Rattle.afp_calls_grammar.specs.declared.grammar.call.Call.{Call}
use Rattle.afp_serial.specs.Rows.{effect, ends_session, refusal, row}
use Rattle.afp_serial.specs.World.{CallRow, Effect, Refusal, Refused, only_tells, World, Session}
use Rattle.afp_serial.specs.declared.ask.Told.{Told}
use Rattle.afp_serial.specs.declared.ask.Told.TheVariants.{Reply}
use Rattle.afp_replies.specs.declared.reply.Reply.{Reply as Reply_}
use Rattle.afp_core_state.proofs.RowLemmas.{IsRowOf, has_effect}
use Rattle.afp_core_state.specs.KeptWorld.{KeptWorld}

module _ {A : Type 0} (p : A → Bool) where
  find-prefix : (xs : List A) → find p xs ≡ slice_get xs (position_or_len p xs)
  find-prefix [] = refl
  find-prefix (x ∷ xs) = by (p x) (position_or_len p xs) (find-prefix xs)
    where
      by : (b : Bool) (n : ℕ) → find p xs ≡ slice_get xs n → cond b (Some x) (find p xs) ≡ slice_get (x ∷ xs) (cond (not b) (1 + n) 0)
      by true n rest = refl
      by false n rest = let one : 1 + n ≡ suc n = omega arith in rw one rest

get-past : {A : Type 0} (xs : List A) (i : ℕ) → length xs ≤ i → slice_get xs i ≡ None
get-past [] i h = refl
get-past (x ∷ xs) zero h = absurd (omega arith)
get-past (x ∷ xs) (suc i) h = get-past xs i (omega arith)

some_place : (b : Bool) (n i : ℕ) → cond b (Some n) None ≡ Some i → n ≡ i
some_place true n i h = cc
some_place false n i h = absurd (cc)

no_place : (b : Bool) (n : ℕ) → cond b (Some n) None ≡ None → b ≡ false
no_place true n h = absurd (cc)
no_place false n h = refl

module _ {A : Type 0} (p : A → Bool) (xs : List A) where
  pub find-placed : (i : ℕ) → position p xs ≡ Some i → find p xs ≡ slice_get xs i
  find-placed i h = find-prefix p xs ∙ ap (slice_get xs) (some_place _ _ i h)

  pub find-unplaced : position p xs ≡ None → find p xs ≡ None
  find-unplaced h = find-prefix p xs ∙ get-past xs _ (ltb-false _ _ (no_place _ _ h))

-- a call whose row only tells
module _ (k : KeptWorld) (s : Session) (call : Call) (refusals : World → Session → List Refusal) (reply : World → Session → Reply_) (of : row call ≡ only_tells refusals reply) where
  pub tells-refusal : (o : Option Refused) → first_holding (refusals k.world s) ≡ o → refusal k.world s call ≡ o
  tells-refusal o h = ap (λ (r : CallRow). first_holding (r.refusals k.world s)) of ∙ h

  pub only-tells-runs : (told : Told) (block : List ℕ) → first_holding (refusals k.world s) ≡ None → ends_session call ≡ false → block ≡ canonical_reply (reply k.world s) → told ≡ Reply Ok block false → IsRowOf k s call told k
  only-tells-runs told block passes ends is tells =
      let does : effect k.world s call ≡ record { world = k.world; reply = reply k.world s } = ap (λ (r : CallRow). r.effect k.world s) of in
      has_effect k k s call told k.world (tells-refusal None passes)
      (tells ∙ (λ i. Reply Ok (is i) false) ∙ (λ i. Reply Ok (canonical_reply (sym does i).reply) (sym ends i))) refl
      (ap (λ (e : Effect). e.world) (sym does))

-- what is told of the element that is found, by its place
pub placed : {A B : Type 0} (p : A → Bool) (xs : List A) (f : A → B) (i : ℕ) (d : A) → position p xs ≡ Some i → i < length xs → option_map f (find p xs) ≡ Some (f (get_or xs i d))
placed p xs f i d is inside = ap (option_map f) (find-placed p xs i is ∙ slice_get-get_or xs i d inside)

pub unplaced : {A B : Type 0} (p : A → Bool) (xs : List A) (f : A → B) → position p xs ≡ None → option_map f (find p xs) ≡ None
unplaced p xs f is = ap (option_map f) (find-unplaced p xs is)
