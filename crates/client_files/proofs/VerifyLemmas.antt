-- A piece compared with a source, and all pieces by the last.
use Rattle.std.proofs.Common.{◌≡◌, inl, inr, ℕ, ◌+◌, ◌-◌, ◌<◌, ◌≤◌, Bool, true, false, List, [], ◌∷◌, ◌++◌, length, take, drop, slice_index, refl, ap, sym, subst, ◌∙◌, arith, append_assoc, append-nil, length-append}
use Rattle.std.proofs.lemmas.List.{length-take, length-take-le, nil_from_length}
use Rattle.std.proofs.Math.Seq.{drop-append_seam}
use Rattle.afp_base.proofs.Facts.{never_both}
use Rattle.afp_base.specs.Counts.{CountsOn}
use Rattle.afp_base.specs.declared.code.Code.{Code}
use Rattle.afp_base.specs.declared.code.Code.TheVariants as code
use Rattle.afp_base.specs.declared.ids.ForkRef.{ForkRef}
use Rattle.afp_outside.specs.ends.Source.{SourceEnds, SourceFails, SourceState}
use Rattle.client_script_commands.specs.commands.Replies.{piece_in}
use Rattle.client_script_commands.specs.parts.Parts.{Asked, Exchange, with_more}
use Rattle.client_script_commands.specs.declared.parts.asker.Answer.{Answer}
use Rattle.client_files.specs.Requests.{end_of_places, read_at}
use Rattle.client_files.specs.Sources.{Gives, GivesThenFails, IsAtEnd}
use Rattle.client_files.specs.Gets.{told_bytes}
use Rattle.client_files.specs.Verifies.{Agrees, EndsAt, FailsWithin, Parts, PartsAt, PartsIn, ReadTold, Shares, TakesCode, TakesPiece, TakesRead, VerifiesOnce}
use Rattle.client_files.specs.declared.verify.Verified.{Verified}
use Rattle.client_files.specs.declared.verify.Verified.TheVariants as verified
use Rattle.client_files.specs.declared.verify.Step.{Step}
use Rattle.client_files.specs.declared.verify.Step.TheVariants.{Moved, Ends}
use Rattle.client_files.proofs.GetLemmas.{more_log, more_place, none_log, snoc_reads, snoc_told}
use Rattle.client_files.proofs.SourceLemmas.{at_end, gives_end, gives_fail, gives_join, gives_none}

-- ---- two pieces

-- what was shared so far, and what is left of both
pub record SharesSo (given piece more left : List ℕ) (n : ℕ) : Type 0 where
  pub same : List ℕ
  pub whole : given ≡ same ++ more
  pub split : piece ≡ same ++ left
  pub size : n ≡ length same
  pub fits : length more ≤ length left

pub shares_none : (given piece : List ℕ) → length given ≤ length piece → SharesSo given piece given piece 0
shares_none given piece h = record { same = []; whole = refl; split = refl; size = refl; fits = h }

pub shares_more : (given piece more left next after : List ℕ) (n : ℕ) → SharesSo given piece more left n → 0 < length more → slice_index more 0 ≡ slice_index left 0 → next ≡ drop 1 more → after ≡ drop 1 left → SharesSo given piece next after (n + 1)
shares_more given piece [] left next after n s h e i j = absurd (omega (arith, h))
shares_more given piece (y ∷ more) [] next after n s h e i j = absurd (omega (arith, s.fits))
shares_more given piece (y ∷ more) (x ∷ left) next after n s h e i j = record {
  same = s.same ++ y ∷ [];
  whole = s.whole ∙ ap (λ (l : List ℕ). s.same ++ y ∷ l) (sym i) ∙ sym (append_assoc s.same (y ∷ []) next);
  split = s.split ∙ ap (λ (b : ℕ). s.same ++ b ∷ left) (sym e) ∙ ap (λ (l : List ℕ). s.same ++ y ∷ l) (sym j) ∙ sym (append_assoc s.same (y ∷ []) after);
  size = omega (arith, s.size, length-append s.same (y ∷ []));
  fits = let short : next ≡ more = i in let rest : after ≡ left = j in omega (arith, s.fits, ap length short, ap length rest);
}

pub shares_part : (given piece more left : List ℕ) (n : ℕ) → SharesSo given piece more left n → 0 < length more → (slice_index more 0 ≡ slice_index left 0 → ⊥) → Shares given piece n
shares_part given piece [] left n s h e = absurd (omega (arith, h))
shares_part given piece (y ∷ more) [] n s h e = absurd (omega (arith, s.fits))
shares_part given piece (y ∷ more) (x ∷ left) n s h e = record { same = s.same; left = x ∷ left; more = y ∷ more; whole = s.whole; split = s.split; size = s.size; parts = λ is. e (sym is) }

pub shares_end : (given piece more left : List ℕ) (n : ℕ) → SharesSo given piece more left n → length more ≡ 0 → Shares given piece n
shares_end given piece [] left n s h = record { same = s.same; left = left; more = []; whole = s.whole; split = s.split; size = s.size; parts = tt }
shares_end given piece (y ∷ more) left n s h = absurd (omega (arith, h))

-- ---- a piece and a source

-- all of them are shared
shares_all : (given left : List ℕ) (n : ℕ) → Shares given left n → length given ≤ n → left ≡ given ++ drop n left
shares_all given left n s h =
    let none : s.more ≡ [] = nil_from_length s.more (omega (arith, ap length s.whole, length-append s.same s.more, s.size, h)) in
    let is : given ≡ s.same = s.whole ∙ ap (λ (l : List ℕ). s.same ++ l) none ∙ append-nil s.same in
    let rest : drop n left ≡ s.left = ap (λ (k : ℕ). drop k left) s.size ∙ ap (λ (l : List ℕ). drop (length s.same) l) s.split ∙ drop-append_seam s.same s.left in
    s.split ∙ ap (λ (l : List ℕ). l ++ s.left) (sym is) ∙ ap (λ (l : List ℕ). given ++ l) (sym rest)

same_size : (given left : List ℕ) (n same : ℕ) → length given ≡ n → Shares given left same → n ≤ same → same ≡ n
same_size given left n same size s all = omega (arith, size, all, s.size, ap length s.whole, length-append s.same s.more)

pub front_size : (room : List ℕ) (m n : ℕ) → n ≤ length (take m room) → length (take n room) ≡ n
front_size room m n h = length-take-le n room (omega (arith, h, length-take m room))

pub compare_more : (a b c : SourceState) (piece sent left given rest : List ℕ) (n same : ℕ) → piece ≡ sent ++ left → Gives a sent b → Gives b given c → length given ≡ n → Shares given left same → n ≤ same → rest ≡ drop n left
    → (s : List ℕ) × (piece ≡ s ++ rest) × Gives a s c
compare_more a b c piece sent left given rest n same split so_far g size s all is = (
  sent ++ given,
  split
      ∙ ap (λ (l : List ℕ). sent ++ l) (shares_all given left same s (omega (arith, size, all)))
      ∙ ap (λ (k : ℕ). sent ++ (given ++ drop k left)) (same_size given left n same size s all)
      ∙ ap (λ (l : List ℕ). sent ++ (given ++ l)) (sym is)
      ∙ sym (append_assoc sent given rest),
  gives_join a b c sent given so_far g,
)

pub compare_all : (a b : SourceState) (piece sent left : List ℕ) → piece ≡ sent ++ left → length left ≡ 0 → Gives a sent b → Gives a piece b
compare_all a b piece sent left split none g = subst (λ (l : List ℕ). Gives a l b) (sym (split ∙ ap (λ (l : List ℕ). sent ++ l) (nil_from_length left none) ∙ append-nil sent)) g

parts_from : (left more : List ℕ) (c : SourceState) → 0 < length more → PartsIn left more → Parts left more c
parts_from left [] c h p = absurd (omega (arith, h))
parts_from [] (y ∷ more) c h p = absurd p
parts_from (x ∷ left) (y ∷ more) c h p = p

pub compare_part : (a b c : SourceState) (piece sent left given : List ℕ) (n same : ℕ) → piece ≡ sent ++ left → Gives a sent b → Gives b given c → length given ≡ n → Shares given left same → same < n
    → PartsAt piece a ((length piece - length left) + same) c
compare_part a b c piece sent left given n same split so_far g size s few = record {
  same = sent ++ s.same;
  left = s.left;
  more = s.more;
  split = split ∙ ap (λ (l : List ℕ). sent ++ l) s.split ∙ sym (append_assoc sent s.same s.left);
  size = omega (arith, ap length split, length-append sent left, s.size, length-append sent s.same);
  gives = subst (λ (l : List ℕ). Gives a l c) (ap (λ (l : List ℕ). sent ++ l) s.whole ∙ sym (append_assoc sent s.same s.more)) (gives_join a b c sent given so_far g);
  parts = parts_from s.left s.more c (omega (arith, size, few, s.size, ap length s.whole, length-append s.same s.more)) s.parts;
}

at_once : (left : List ℕ) (c : SourceState) → 0 < length left → IsAtEnd c → Parts left [] c
at_once [] c h e = absurd (omega (arith, h))
at_once (x ∷ left) c h e = e

pub compare_end : (a b c : SourceState) (piece sent left : List ℕ) → piece ≡ sent ++ left → 0 < length left → Gives a sent b → SourceEnds b c → PartsAt piece a (length piece - length left) c
compare_end a b c piece sent left split some so_far e = record {
  same = sent;
  left = left;
  more = [];
  split = split;
  size = omega (arith, ap length split, length-append sent left);
  gives = subst (λ (l : List ℕ). Gives a l c) (sym (append-nil sent)) (gives_end a b c sent so_far e);
  parts = at_once left c some (at_end b c e);
}

pub compare_fail : (a b c : SourceState) (piece sent left : List ℕ) → piece ≡ sent ++ left → Gives a sent b → SourceFails b c → FailsWithin piece a c
compare_fail a b c piece sent left split so_far e = record { same = sent; left = left; split = split; fails = gives_fail a b c sent so_far e }

-- ---- a piece by its place

fails_behind : (a b c : SourceState) (x : List ℕ) → Gives a x b → GivesThenFails b [] c → GivesThenFails a (x ++ []) c
fails_behind a b c x s t =
    let joined : Gives a (x ++ []) (record { given = c.given; given_before = c.given_before; coming = c.coming; ended = c.ended; faults = b.faults }) =
    gives_join a b (record { given = c.given; given_before = c.given_before; coming = c.coming; ended = c.ended; faults = b.faults }) x [] s (record { given = t.given; coming = t.coming; faults = refl }) in
    record { given = joined.given; coming = joined.coming; fault = subst (λ (n : ℕ). CountsOn 1 n c.faults) s.faults t.fault }

-- the fork's last piece was the source's, and the source must end
last_piece : {E : Type 0} → (piece : List ℕ) (at : ℕ) (old mid : SourceState) (end : Verified E) (new : SourceState) → Gives old piece mid → EndsAt (at + length piece) mid end new → TakesPiece true piece at old (Ends end) new
last_piece piece at old mid (verified.Equal size) new g t = (refl, t.0, subst (λ (l : List ℕ). Gives old l new) (append-nil piece) (gives_join old mid new piece [] g t.1), t.2)
last_piece piece at old mid (verified.Differs place) new g t =
    (length piece, t.0, inr (record { more = t.1.0; some = t.1.1; size = refl; gives = gives_join old mid new piece t.1.0 g t.1.2 }))
last_piece piece at old mid (verified.Refused c) new g t = absurd t
last_piece piece at old mid (verified.Ended e) new g t = absurd t
last_piece piece at old mid verified.SourceFault new g t = record { same = piece; left = []; split = sym (append-nil piece); fails = subst (λ (l : List ℕ). GivesThenFails old l new) (append-nil piece) (fails_behind old mid new piece g t) }
last_piece piece at old mid verified.BadReply new g t = absurd t

pub takes_last : {E : Type 0} → (is_last : Bool) (piece : List ℕ) (at : ℕ) (old mid : SourceState) (end : Verified E) (new : SourceState) → is_last ≡ true → Gives old piece mid → EndsAt (at + length piece) mid end new → TakesPiece is_last piece at old (Ends end) new
takes_last {E} is_last piece at old mid end new e g t = subst (λ (b : Bool). TakesPiece {E = E} b piece at old (Ends end) new) (sym e) (last_piece piece at old mid end new g t)

pub takes_part : (E : Type 0) → (is_last : Bool) (piece : List ℕ) (at n : ℕ) (old new : SourceState) → PartsAt piece old n new → TakesPiece {E = E} is_last piece at old (Ends (verified.Differs (at + n))) new
takes_part E true piece at n old new p = (n, refl, inl p)
takes_part E false piece at n old new p = (n, refl, p)

-- ---- an answer

pub told_ok : {E : Type 0} → (c : Code) (piece : List ℕ) (at : ℕ) (old : SourceState) (step : Step E) (new : SourceState) → c ≡ code.Ok → TakesPiece false piece at old step new → TakesCode c piece at old step new
told_ok c piece at old step new e t = subst (λ (k : Code). TakesCode k piece at old step new) (sym e) t

pub told_end : {E : Type 0} → (c : Code) (piece : List ℕ) (at : ℕ) (old : SourceState) (step : Step E) (new : SourceState) → c ≡ code.EOFErr → TakesPiece true piece at old step new → TakesCode c piece at old step new
told_end c piece at old step new e t = subst (λ (k : Code). TakesCode k piece at old step new) (sym e) t

pub told_refused : (E : Type 0) → (c : Code) (piece : List ℕ) (at : ℕ) (old : SourceState) → (c ≡ code.Ok → ⊥) → (c ≡ code.EOFErr → ⊥) → TakesCode {E = E} c piece at old (Ends (verified.Refused c)) old
told_refused E code.Ok piece at old h k = absurd (h refl)
told_refused E code.EOFErr piece at old h k = absurd (k refl)
told_refused E c piece at old h k = (refl, refl)

never_ended : {E : Type 0} → (c : Code) (piece : List ℕ) (at : ℕ) (old : SourceState) (end : E) (new : SourceState) → TakesCode c piece at old (Ends (verified.Ended end)) new → ⊥
never_ended code.Ok piece at old end new t = t
never_ended code.EOFErr piece at old end new t = t
never_ended c piece at old end new t = t

takes_moved : (E : Type 0) → (c : Code) (piece : List ℕ) (at : ℕ) (old : SourceState) (n : ℕ) (new : SourceState) → TakesCode {E = E} c piece at old (Moved n) new → (c ≡ code.Ok) × (n ≡ length piece) × (at + n < end_of_places) × Gives old piece new
takes_moved E code.Ok piece at old n new t = (refl, t.1, t.2, t.3)
takes_moved E code.EOFErr piece at old n new t = absurd (never_both true refl t.0)
takes_moved E c piece at old n new t = absurd t

-- one read was answered
pub once_verified : {E F : Type 0} → (reference : ForkRef) (count at : ℕ) (before : Asked F) (old : SourceState) (answer : Answer) (step : Step E) (after : Asked F) (new : SourceState)
    → after ≡ with_more before ((record { call = read_at reference at count; answer = answer }) ∷ []) → TakesRead answer at old step new → VerifiesOnce reference count at before old step after new
once_verified reference count at before old answer (Moved n) after new log t = record { answer = answer; log = log; takes = t }
once_verified reference count at before old answer (Ends (verified.Equal n)) after new log t = record { answer = answer; log = log; takes = t }
once_verified reference count at before old answer (Ends (verified.Differs n)) after new log t = record { answer = answer; log = log; takes = t }
once_verified reference count at before old answer (Ends (verified.Refused c)) after new log t = record { answer = answer; log = log; takes = t }
once_verified reference count at before old answer (Ends (verified.Ended end)) after new log t = absurd (never_ended answer.code (piece_in answer.reply) at old end new t)
once_verified reference count at before old answer (Ends verified.SourceFault) after new log t = record { answer = answer; log = log; takes = t }
once_verified reference count at before old answer (Ends verified.BadReply) after new log t = record { answer = answer; log = log; takes = t }

pub once_places : (E : Type 0) → (answer : Answer) (at : ℕ) (old : SourceState) (n : ℕ) (new : SourceState) → TakesRead {E = E} answer at old (Moved n) new → at + n < end_of_places
once_places E answer at old n new t = let m = takes_moved E answer.code (piece_in answer.reply) at old n new t in m.2

pub places_of : {E F : Type 0} → (reference : ForkRef) (count at : ℕ) (before : Asked F) (old : SourceState) (step : Step E) (n : ℕ) (after : Asked F) (new : SourceState)
    → step ≡ Moved n → VerifiesOnce reference count at before old step after new → at + n < end_of_places
places_of {E} reference count at before old step n after new e v =
    let t : ReadTold {E = E} reference count at before old (Moved n) after new = subst (λ (s : Step E). VerifiesOnce reference count at before old s after new) e v in
    once_places E t.answer at old n new t.takes

pub agrees_none : {F : Type 0} → (reference : ForkRef) (count from : ℕ) (before : Asked F) (old : SourceState) → Agrees reference count from before old from before old
agrees_none reference count from before old = record { exchanges = []; log = none_log before; reads = tt; place = omega arith; gives = gives_none old }

-- one more read
pub agrees_more : {E F : Type 0} → (reference : ForkRef) (count from : ℕ) (before : Asked F) (old : SourceState) (at : ℕ) (mid : Asked F) (between : SourceState) (n : ℕ) (after : Asked F) (new : SourceState)
    → Agrees reference count from before old at mid between → ReadTold {E = E} reference count at mid between (Moved n) after new → Agrees reference count from before old (at + n) after new
agrees_more {E} reference count from before old at mid between n after new m t =
    let x : Exchange = record { call = read_at reference at count; answer = t.answer } in
    let takes = takes_moved E t.answer.code (piece_in t.answer.reply) at between n new t.takes in
    record {
      exchanges = m.exchanges ++ x ∷ [];
      log = more_log before mid after m.exchanges (x ∷ []) m.log t.log;
      reads = snoc_reads reference count from m.exchanges x m.reads (ap (λ (k : ℕ). read_at reference k count) m.place) takes.0;
      place = more_place from at n m.exchanges x m.place takes.1;
      gives = subst (λ (l : List ℕ). Gives old l new) (sym (snoc_told m.exchanges x)) (gives_join old between new (told_bytes m.exchanges) (piece_in t.answer.reply) m.gives takes.3);
    }
