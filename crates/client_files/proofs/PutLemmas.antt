-- One write by its answer, and all writes by the last.
use Rattle.std.proofs.Common.{◌≡◌, ℕ, ◌+◌, ◌≤◌, ◌<◌, List, [], ◌∷◌, ◌++◌, length, refl, ap, sym, subst, ◌∙◌, arith, append_assoc, append-nil, length-append, take}
use Rattle.afp_base.specs.declared.ids.ForkRef.{ForkRef}
use Rattle.afp_outside.specs.ends.Source.{SourceState}
use Rattle.client_script_commands.specs.parts.Parts.{Asked, Exchange, with_more}
use Rattle.client_script_commands.specs.declared.parts.asker.Answer.{Answer}
use Rattle.client_files.specs.Requests.{carried, end_of_places, write_at}
use Rattle.client_files.specs.Sources.{FillsPart, Gives, IsAtEnd}
use Rattle.client_files.specs.Puts.{Moves, PutsFork, PutsNext, PutsOnce, PutsPiece, TakesWrite, Writes, WritesOn, written_bytes}
use Rattle.client_files.specs.declared.put.Put.{Put}
use Rattle.client_files.specs.declared.put.Put.TheVariants as puts
use Rattle.client_files.specs.declared.put.Step.{Step}
use Rattle.client_files.specs.declared.put.Step.TheVariants.{Moved, Last, Ends}
use Rattle.client_files.proofs.GetLemmas.{more_log, none_log}
use Rattle.client_files.proofs.SourceLemmas.{gives_join, gives_none}

-- one write was answered
pub once_written : {E F : Type 0} → (reference : ForkRef) (at : ℕ) (piece : List ℕ) (before : Asked F) (answer : Answer) (step : Step E) (after : Asked F)
    → after ≡ with_more before ((record { call = write_at reference at piece; answer = answer }) ∷ []) → at + length piece < end_of_places → TakesWrite answer (length piece) (at + length piece) step → PutsPiece reference at piece before step after
once_written reference at piece before answer (Moved n) after log places t = record { answer = answer; log = log; places = places; takes = t }
once_written reference at piece before answer Last after log places t = absurd t
once_written reference at piece before answer (Ends (puts.Done n)) after log places t = absurd t
once_written reference at piece before answer (Ends (puts.Refused c)) after log places t = record { answer = answer; log = log; places = places; takes = t }
once_written reference at piece before answer (Ends (puts.Ended end)) after log places t = absurd t
once_written reference at piece before answer (Ends puts.SourceFault) after log places t = absurd t
once_written reference at piece before answer (Ends puts.BadReply) after log places t = record { answer = answer; log = log; places = places; takes = t }
once_written reference at piece before answer (Ends puts.TooLong) after log places t = absurd t

-- the source's next piece was written
pub next_written : {E F : Type 0} → (reference : ForkRef) (most at : ℕ) (piece : List ℕ) (before : Asked F) (old : SourceState) (step : Step E) (after : Asked F) (new : SourceState)
    → 0 < length piece → length piece ≤ most → Gives old piece new → PutsPiece reference at piece before step after → PutsOnce reference most at before old step after new
next_written reference most at piece before old (Moved n) after new s f g t = record { piece = piece; some = s; fits = f; gives = g; puts = t }
next_written reference most at piece before old Last after new s f g t = absurd t.takes
next_written reference most at piece before old (Ends (puts.Done n)) after new s f g t = absurd t.takes
next_written reference most at piece before old (Ends (puts.Refused c)) after new s f g t = record { piece = piece; some = s; fits = f; gives = g; puts = t }
next_written reference most at piece before old (Ends (puts.Ended end)) after new s f g t = record { piece = piece; some = s; fits = f; gives = g; puts = t }
next_written reference most at piece before old (Ends puts.SourceFault) after new s f g t = absurd t.takes
next_written reference most at piece before old (Ends puts.BadReply) after new s f g t = record { piece = piece; some = s; fits = f; gives = g; puts = t }
next_written reference most at piece before old (Ends puts.TooLong) after new s f g t = record { piece = piece; some = s; fits = f; gives = g; puts = t }

pub snoc_writes : (reference : ForkRef) (most at : ℕ) (xs : List Exchange) (x : Exchange) → WritesOn reference most at xs → Writes reference most (at + length (written_bytes xs)) (carried x.call) x → WritesOn reference most at (xs ++ x ∷ [])
snoc_writes reference most at [] x h w = (subst (λ (n : ℕ). Writes reference most n (carried x.call) x) (omega arith) w, tt)
snoc_writes reference most at (y ∷ ys) x h w =
    (h.0, snoc_writes reference most (at + length (carried y.call)) ys x h.1 (subst (λ (n : ℕ). Writes reference most n (carried x.call) x) (omega (arith, length-append (carried y.call) (written_bytes ys))) w))

pub snoc_written : (xs : List Exchange) (x : Exchange) → written_bytes (xs ++ x ∷ []) ≡ written_bytes xs ++ carried x.call
snoc_written [] x = append-nil (carried x.call)
snoc_written (y ∷ ys) x = ap (λ rest. carried y.call ++ rest) (snoc_written ys x) ∙ sym (append_assoc (carried y.call) (written_bytes ys) (carried x.call))

pub more_written : (from at n : ℕ) (xs : List Exchange) (x : Exchange) → at ≡ from + length (written_bytes xs) → n ≡ length (carried x.call) → at + n ≡ from + length (written_bytes (xs ++ x ∷ []))
more_written from at n xs x h k = omega (arith, h, k, ap length (snoc_written xs x), length-append (written_bytes xs) (carried x.call))

-- no write yet
pub puts_none : {F : Type 0} → (reference : ForkRef) (most from : ℕ) (before : Asked F) (old : SourceState) → Moves reference most from before old from before old
puts_none reference most from before old = record { exchanges = []; log = none_log before; writes = tt; place = omega arith; gives = gives_none old }

-- one more write
pub puts_more : {E F : Type 0} → (reference : ForkRef) (most room from : ℕ) (before : Asked F) (old : SourceState) (at : ℕ) (mid : Asked F) (between : SourceState) (n : ℕ) (after : Asked F) (new : SourceState)
    → room ≡ most → Moves reference most from before old at mid between → PutsNext {E = E} reference room at mid between (Moved n) after new → Moves reference most from before old (at + n) after new
puts_more reference most room from before old at mid between n after new size m t =
    let told = t.puts in
    let x : Exchange = record { call = write_at reference at t.piece; answer = told.answer } in
    record {
      exchanges = m.exchanges ++ x ∷ [];
      log = more_log before mid after m.exchanges (x ∷ []) m.log told.log;
      writes = snoc_writes reference most from m.exchanges x m.writes
          (subst (λ (k : ℕ). Writes reference most k t.piece x) m.place (record { call = refl; some = t.some; fits = subst (λ (k : ℕ). length t.piece ≤ k) size t.fits; ok = told.takes.0; told = told.takes.1 }));
      place = more_written from at n m.exchanges x m.place told.takes.2;
      gives = subst (λ (l : List ℕ). Gives old l new) (sym (snoc_written m.exchanges x)) (gives_join old between new (written_bytes m.exchanges) t.piece m.gives t.gives);
    }

-- the place behind one more write
pub places_more : {E F : Type 0} → (reference : ForkRef) (most at : ℕ) (mid : Asked F) (between : SourceState) (n : ℕ) (after : Asked F) (new : SourceState)
    → PutsNext {E = E} reference most at mid between (Moved n) after new → at + n < end_of_places
places_more reference most at mid between n after new t = omega (arith, t.puts.places, t.puts.takes.2)

same_room : {E F : Type 0} → (reference : ForkRef) (most room at : ℕ) (mid : Asked F) (between : SourceState) (step : Step E) (after : Asked F) (new : SourceState) → room ≡ most → PutsOnce reference room at mid between step after new → PutsOnce reference most at mid between step after new
same_room reference most room at mid between step after new size t = subst (λ (k : ℕ). PutsOnce reference k at mid between step after new) size t

-- the source has no more
pub put_last : {E F : Type 0} → (reference : ForkRef) (most room from : ℕ) (before : Asked F) (old : SourceState) (at : ℕ) (mid : Asked F) (between : SourceState) (after : Asked F) (new : SourceState)
    → room ≡ most → Moves reference most from before old at mid between → PutsOnce {E = E} reference room at mid between Last after new → PutsFork {E = E} reference most from before old (puts.Done at) after new
put_last {E} reference most room from before old at mid between after new size m t = record { at = at; mid = mid; between = between; moves = m; last = (refl, same_room {E = E} reference most room at mid between Last after new size t) }

-- the last piece ended them
put_stops : {E F : Type 0} → (reference : ForkRef) (most from : ℕ) (before : Asked F) (old : SourceState) (at : ℕ) (mid : Asked F) (between : SourceState) (end : Put E) (after : Asked F) (new : SourceState)
    → Moves reference most from before old at mid between → PutsOnce reference most at mid between (Ends end) after new → PutsFork reference most from before old end after new
put_stops reference most from before old at mid between (puts.Done n) after new m t = absurd t.puts.takes
put_stops reference most from before old at mid between (puts.Refused c) after new m t = record { at = at; mid = mid; between = between; moves = m; last = t }
put_stops reference most from before old at mid between (puts.Ended end) after new m t = record { at = at; mid = mid; between = between; moves = m; last = t }
put_stops reference most from before old at mid between puts.SourceFault after new m t = record { at = at; mid = mid; between = between; moves = m; last = t }
put_stops reference most from before old at mid between puts.BadReply after new m t = record { at = at; mid = mid; between = between; moves = m; last = t }
put_stops reference most from before old at mid between puts.TooLong after new m t = record { at = at; mid = mid; between = between; moves = m; last = t }

pub put_ends : {E F : Type 0} → (reference : ForkRef) (most room from : ℕ) (before : Asked F) (old : SourceState) (at : ℕ) (mid : Asked F) (between : SourceState) (end : Put E) (after : Asked F) (new : SourceState)
    → room ≡ most → Moves reference most from before old at mid between → PutsOnce reference room at mid between (Ends end) after new → PutsFork reference most from before old end after new
put_ends reference most room from before old at mid between end after new size m t =
    put_stops reference most from before old at mid between end after new m (same_room reference most room at mid between (Ends end) after new size t)

-- nothing was in the room
pub put_nothing : (old new : SourceState) (room : List ℕ) (n : ℕ) → FillsPart old room n new → n ≡ 0 → 0 < length room → Gives old [] new × IsAtEnd new
put_nothing old new [] n f none some = absurd (omega (arith, some))
put_nothing old new (x ∷ room) n f none some = (subst (λ (k : ℕ). Gives old (take k (x ∷ room)) new) none f.gives, f.end (omega (arith, none)))
