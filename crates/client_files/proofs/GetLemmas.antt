-- One read by its answer, and all reads by the last.
use Rattle.std.proofs.Common.{◌≡◌, ◌⊎◌, ℕ, ◌+◌, ◌≤◌, List, [], ◌∷◌, ◌++◌, length, ap, sym, subst, ◌∙◌, arith, append_assoc, append-nil, length-append, option_map}
use Rattle.afp_base.specs.declared.ids.ForkRef.{ForkRef}
use Rattle.afp_base.specs.declared.code.Code.TheVariants as code
use Rattle.afp_base.proofs.Facts.{added-added}
use Rattle.afp_outside.specs.ends.Sink.{SinkState}
use Rattle.afp_outside.specs.ends.Whole.{Prints}
use Rattle.client_script_commands.specs.commands.Replies.{piece_in}
use Rattle.client_script_commands.specs.parts.Parts.{Asked, Exchange, with_more}
use Rattle.client_script_commands.specs.declared.parts.asker.Answer.{Answer}
use Rattle.client_files.specs.Requests.{end_of_places, read_at}
use Rattle.client_files.specs.Gets.{GetsFork, GetsOnce, Moves, ReadsOn, ReadTold, TakesRead, told_bytes}
use Rattle.client_files.specs.declared.get.Got.{Got}
use Rattle.client_files.specs.declared.get.Got.TheVariants as gots
use Rattle.client_files.specs.declared.get.Step.{Step}
use Rattle.client_files.specs.declared.get.Step.TheVariants.{Moved, Last, Ends}

-- one read was answered
pub once_told : {E F : Type 0} → (reference : ForkRef) (count at : ℕ) (before : Asked F) (old : SinkState) (answer : Answer) (step : Step E) (after : Asked F) (new : SinkState)
    → after ≡ with_more before ((record { call = read_at reference at count; answer = answer }) ∷ []) → TakesRead answer old step new → GetsOnce reference count at before old step after new
once_told reference count at before old answer (Moved n) after new log t = record { answer = answer; log = log; takes = t }
once_told reference count at before old answer (Last n) after new log t = record { answer = answer; log = log; takes = t }
once_told reference count at before old answer (Ends (gots.Done n)) after new log t = absurd t
once_told reference count at before old answer (Ends (gots.Refused c)) after new log t = record { answer = answer; log = log; takes = t }
once_told reference count at before old answer (Ends (gots.Ended end)) after new log t = absurd t
once_told reference count at before old answer (Ends gots.SinkFault) after new log t = record { answer = answer; log = log; takes = t }
once_told reference count at before old answer (Ends gots.BadReply) after new log t = absurd t

-- one more exchange behind others
pub more_log : {F : Type 0} → (before mid after : Asked F) (xs ys : List Exchange) → mid ≡ with_more before xs → after ≡ with_more mid ys → after ≡ with_more before (xs ++ ys)
more_log before mid after xs ys h k =
    k ∙ ap (λ a. with_more a ys) h ∙ ap (λ (all : List Exchange). record before { exchanges = all }) (append_assoc before.exchanges xs ys)

pub none_log : {F : Type 0} → (before : Asked F) → before ≡ with_more before []
none_log before = ap (λ (xs : List Exchange). record before { exchanges = xs }) (sym (append-nil before.exchanges))

pub snoc_reads : (reference : ForkRef) (count at : ℕ) (xs : List Exchange) (x : Exchange) → ReadsOn reference count at xs → x.call ≡ read_at reference (at + length (told_bytes xs)) count → x.answer.code ≡ code.Ok → ReadsOn reference count at (xs ++ x ∷ [])
snoc_reads reference count at [] x h c ok = (subst (λ (n : ℕ). x.call ≡ read_at reference n count) (omega arith) c, ok, tt)
snoc_reads reference count at (y ∷ ys) x h c ok =
    let piece = piece_in y.answer.reply in
    (h.0, h.1, snoc_reads reference count (at + length piece) ys x h.2 (subst (λ (n : ℕ). x.call ≡ read_at reference n count) (omega (arith, length-append piece (told_bytes ys))) c) ok)

pub snoc_told : (xs : List Exchange) (x : Exchange) → told_bytes (xs ++ x ∷ []) ≡ told_bytes xs ++ piece_in x.answer.reply
snoc_told [] x = append-nil (piece_in x.answer.reply)
snoc_told (y ∷ ys) x = ap (λ rest. piece_in y.answer.reply ++ rest) (snoc_told ys x) ∙ sym (append_assoc (piece_in y.answer.reply) (told_bytes ys) (piece_in x.answer.reply))

pub prints_join : (a b c : SinkState) (x y : List ℕ) → Prints a x b → Prints b y c → Prints a (x ++ y) c
prints_join a b c x y s t = record {
  written = t.written ∙ ap (λ o. option_map (λ before. before ++ y) o) s.written ∙ added-added a.written x y;
  faults = t.faults ∙ s.faults;
}

-- the place behind one more read
pub more_place : (from at n : ℕ) (xs : List Exchange) (x : Exchange) → at ≡ from + length (told_bytes xs) → n ≡ length (piece_in x.answer.reply) → at + n ≡ from + length (told_bytes (xs ++ x ∷ []))
more_place from at n xs x h k = omega (arith, h, k, ap length (snoc_told xs x), length-append (told_bytes xs) (piece_in x.answer.reply))

-- one more read
pub moves_more : {E F : Type 0} → (reference : ForkRef) (count from : ℕ) (before : Asked F) (old : SinkState) (at : ℕ) (mid : Asked F) (between : SinkState) (n : ℕ) (after : Asked F) (new : SinkState)
    → Moves reference count from before old at mid between → ReadTold {E = E} reference count at mid between (Moved n) after new → Moves reference count from before old (at + n) after new
moves_more reference count from before old at mid between n after new m t =
    let x : Exchange = record { call = read_at reference at count; answer = t.answer } in
    record {
      exchanges = m.exchanges ++ x ∷ [];
      log = more_log before mid after m.exchanges (x ∷ []) m.log t.log;
      reads = snoc_reads reference count from m.exchanges x m.reads (ap (λ (k : ℕ). read_at reference k count) m.place) t.takes.0;
      place = more_place from at n m.exchanges x m.place t.takes.1;
      sink = subst (λ (l : List ℕ). Prints old l new) (sym (snoc_told m.exchanges x)) (prints_join old between new (told_bytes m.exchanges) (piece_in t.answer.reply) m.sink t.takes.2);
    }

-- the last read ended them
pub get_ends : {E F : Type 0} → (reference : ForkRef) (count from : ℕ) (before : Asked F) (old : SinkState) (at : ℕ) (mid : Asked F) (between : SinkState) (end : Got E) (after : Asked F) (new : SinkState)
    → Moves reference count from before old at mid between → GetsOnce reference count at mid between (Ends end) after new → GetsFork reference count from before old end after new
get_ends reference count from before old at mid between (gots.Done n) after new m t = absurd t.takes
get_ends reference count from before old at mid between (gots.Refused c) after new m t = record { at = at; mid = mid; between = between; moves = m; last = t }
get_ends reference count from before old at mid between (gots.Ended end) after new m t = record { at = at; mid = mid; between = between; moves = m; last = t }
get_ends reference count from before old at mid between gots.SinkFault after new m t = record { at = at; mid = mid; between = between; moves = m; last = t }
get_ends reference count from before old at mid between gots.BadReply after new m t = absurd t.takes

-- a reply passes the last place
pub get_over : {E F : Type 0} → (reference : ForkRef) (count from : ℕ) (before : Asked F) (old : SinkState) (at : ℕ) (mid : Asked F) (between : SinkState) (n : ℕ) (after : Asked F) (new : SinkState)
    → Moves reference count from before old at mid between → end_of_places ≤ at + n
    → ReadTold {E = E} reference count at mid between (Moved n) after new ⊎ ReadTold {E = E} reference count at mid between (Last n) after new → GetsFork {E = E} reference count from before old gots.BadReply after new
get_over reference count from before old at mid between n after new m over t = record { at = at; mid = mid; between = between; moves = m; last = (n, over, t) }
