-- What lists show, where there are no more of them.
use Rattle.std.proofs.Common.{◌≡◌, ℕ, List, [], ◌∷◌, ◌++◌, length, Option, Some, None, Err, refl, ap, sym, ◌∙◌, append_assoc}
use Rattle.std.proofs.lemmas.List.{append-nil}
use Rattle.afp_base.specs.declared.code.Code.{Code}
use Rattle.afp_base.specs.declared.code.Code.TheVariants as code
use Rattle.afp_calls_grammar.specs.declared.grammar.call.Call.{Call}
use Rattle.afp_replies.specs.declared.list.ListEntry.{ListEntry}
use Rattle.client_script_commands.specs.declared.parts.asker.Answer.{Answer}
use Rattle.client_script_commands.specs.declared.parts.asker.Stop.{Stop}
use Rattle.client_script_commands.specs.declared.parts.asker.Stop.TheVariants as stops
use Rattle.client_script_commands.specs.parts.Parts.{Asked, Comes, Exchange, Lacks, Part, Runs, bad, refuses, with_more, with_unanswered}
use Rattle.client_script_commands.specs.ls.Ls.{IsSaid, entries_told, lines_told, rows_in, rows_text}
use Rattle.client_script_commands.specs.ls.lemma.Listing.{PutsList, Shows, ShowsAt}

-- the exchanges of a log that has more of them
log-more : {F : Type 0} (before mid : Asked F) (xs : List Exchange) → mid ≡ with_more before xs → mid.exchanges ≡ before.exchanges ++ xs
log-more {F} before mid xs log = ap (λ (a : Asked F). a.exchanges) log

cancel : {A : Type 0} (ys xs zs : List A) → ys ++ xs ≡ ys ++ zs → xs ≡ zs
cancel [] xs zs e = e
cancel {A} (y ∷ ys) xs zs e = cancel ys xs zs (ap tail e) where
  tail : List A → List A
  tail [] = []
  tail (x ∷ rest) = rest

entries-both : (xs ys : List Exchange) → entries_told (xs ++ ys) ≡ entries_told xs ++ entries_told ys
entries-both [] ys = refl
entries-both (x ∷ xs) ys =
    let line = lines_told x.answer.code (rows_in x.answer.reply) in
    ap (λ (t : List ℕ). line ++ t) (entries-both xs ys) ∙ sym (append_assoc line (entries_told xs) (entries_told ys))

-- one answer
shows-one : {F : Type 0} (call : Call) (before : Asked F) (answer : Answer) (mid : Asked F) (text now lines : List ℕ) → mid ≡ with_more before ((record { call = call; answer = answer }) ∷ [])
    → lines_told answer.code (rows_in answer.reply) ≡ lines → now ≡ text ++ lines → Shows before text now mid
shows-one call before answer mid text now lines log told put = (
  (record { call = call; answer = answer }) ∷ [],
  log-more before mid ((record { call = call; answer = answer }) ∷ []) log,
  put ∙ ap (λ (t : List ℕ). text ++ t) (sym told ∙ sym (append-nil (lines_told answer.code (rows_in answer.reply)))),
)

told-rows : (c : Code) (found : Option (List ListEntry)) (rows : List ListEntry) → c ≡ code.Ok → found ≡ Some rows → lines_told c found ≡ rows_text rows
told-rows c found rows ok is = rw ok (rw is refl)

told-none : (c : Code) (found : Option (List ListEntry)) → c ≡ code.Ok → found ≡ None → lines_told c found ≡ []
told-none c found ok is = rw ok (rw is refl)

told-refused : (c : Code) (found : Option (List ListEntry)) → (c ≡ code.Ok → ⊥) → lines_told c found ≡ []
told-refused code.Ok found h = absurd (h refl)
told-refused c found h = refl

not-ok : (c : Code) → c ≡ code.ObjectNotFound → c ≡ code.Ok → ⊥
not-ok c e f = cc

some-none : (o : Option ℕ) (n : ℕ) → o ≡ Some n → o ≡ None → ⊥
some-none o n h k = cc

-- a list has entries
pub shows_list : {F : Type 0} (call : Call) (before : Asked F) (answer : Answer) (mid : Asked F) → mid ≡ with_more before ((record { call = call; answer = answer }) ∷ [])
    → answer.code ≡ code.Ok → (found : Option (List ListEntry)) → rows_in answer.reply ≡ found → (size : ℕ) (text now : List ℕ) → PutsList found text now (Some size) → Shows before text now mid
shows_list call before answer mid log ok None is size text now puts = absurd (some-none (Some size) size refl puts.0)
shows_list call before answer mid log ok (Some rows) is size text now puts =
    shows-one call before answer mid text now (rows_text rows) log (told-rows answer.code (rows_in answer.reply) rows ok is) puts.1

-- a reply is no list
pub shows_bad : {F : Type 0} (call : Call) (before : Asked F) (answer : Answer) (mid : Asked F) → mid ≡ with_more before ((record { call = call; answer = answer }) ∷ [])
    → answer.code ≡ code.Ok → (found : Option (List ListEntry)) → rows_in answer.reply ≡ found → (text now : List ℕ) → PutsList found text now None → Shows before text now mid
shows_bad call before answer mid log ok None is text now puts =
    shows-one call before answer mid text now [] log (told-none answer.code (rows_in answer.reply) ok is) (puts.1 ∙ sym (append-nil text))
shows_bad call before answer mid log ok (Some rows) is text now puts = absurd (some-none None (length rows) puts.0 refl)

-- a list was refused
pub shows_refused : {F : Type 0} (call : Call) (before : Asked F) (answer : Answer) (mid : Asked F) (text : List ℕ) → mid ≡ with_more before ((record { call = call; answer = answer }) ∷ [])
    → (answer.code ≡ code.Ok → ⊥) → Shows before text text mid
shows_refused call before answer mid text log no_list =
    shows-one call before answer mid text text [] log (told-refused answer.code (rows_in answer.reply) no_list) (sym (append-nil text))

-- there are no more
pub shows_end : {F : Type 0} (call : Call) (before : Asked F) (answer : Answer) (mid : Asked F) (text : List ℕ) → mid ≡ with_more before ((record { call = call; answer = answer }) ∷ [])
    → answer.code ≡ code.ObjectNotFound → Shows before text text mid
shows_end call before answer mid text log ended = shows_refused call before answer mid text log (not-ok answer.code ended)

shows-none : {F : Type 0} (before mid : Asked F) (call : Call) (text : List ℕ) → mid ≡ with_unanswered before call → Shows before text text mid
shows-none {F} before mid call text same = ([], ap (λ (a : Asked F). a.exchanges) same ∙ sym (append-nil before.exchanges), sym (append-nil text))

-- a list got no answer
pub shows_stop : {E F : Type 0} (before mid : Asked F) (call : Call) (text : List ℕ) (stop : Stop E) → mid ≡ with_unanswered before call → ShowsAt before text stop text mid
shows_stop before mid call text (stops.Refused c) same = shows-none before mid call text same
shows_stop before mid call text (stops.Ended end) same = shows-none before mid call text same
shows_stop before mid call text stops.BadReply same = shows-none before mid call text same
shows_stop before mid call text stops.Memory same = tt

-- nothing was listed yet
pub shows_start : {F : Type 0} (before : Asked F) (text : List ℕ) → text ≡ [] → Shows before [] text before
shows_start before text none = ([], sym (append-nil before.exchanges), none)

-- lists behind those before them
pub shows_both : {F : Type 0} (before mid after : Asked F) (text now next : List ℕ) → Shows before text now mid → Shows mid now next after → Shows before text next after
shows_both before mid after text now next a b = (
  a.0 ++ b.0,
  b.1 ∙ ap (λ (xs : List Exchange). xs ++ b.0) a.1 ∙ append_assoc before.exchanges a.0 b.0,
  b.2 ∙ ap (λ (t : List ℕ). t ++ entries_told b.0) a.2 ∙ append_assoc text (entries_told a.0) (entries_told b.0) ∙ ap (λ (t : List ℕ). text ++ t) (sym (entries-both a.0 b.0)),
)

-- by whatever exchanges
said-by : {F : Type 0} (before after : Asked F) (text old new : List ℕ) → Shows before [] text after → new ≡ old ++ text → (exchanges : List Exchange) → after.exchanges ≡ before.exchanges ++ exchanges → new ≡ old ++ entries_told exchanges
said-by {F} before after text old new s put exchanges log =
    put ∙ ap (λ (t : List ℕ). old ++ t) (s.2 ∙ ap (λ (xs : List Exchange). entries_told xs) (cancel before.exchanges s.0 exchanges (sym s.1 ∙ log)))

pub is_said : {E F : Type 0} (before mid after : Asked F) (now next old new : List ℕ) (stop : Stop E) → Shows before [] now mid → ShowsAt mid now stop next after → new ≡ old ++ next
    → IsSaid {E = E} entries_told before old (Err stop) new after
is_said before mid after now next old new (stops.Refused c) s t put short = said-by before after next old new (shows_both before mid after [] now next s t) put
is_said before mid after now next old new (stops.Ended end) s t put short = said-by before after next old new (shows_both before mid after [] now next s t) put
is_said before mid after now next old new stops.BadReply s t put short = said-by before after next old new (shows_both before mid after [] now next s t) put
is_said before mid after now next old new stops.Memory s t put short = absurd short

lacks-all : {F : Type 0} (before : Asked F) (part left : Part) (after : Asked F) → Runs before part left after → Lacks before part after
lacks-all before part left after r = record { left = left; mid = after; runs = r; fixed = refl; exchanges = refl }

-- there was no memory for what was said
pub comes_lack : {E F : Type 0} (before : Asked F) (part : Part) (stop : Stop E) (after : Asked F) → Comes before part (Err stop) after → Comes {E = E} before part (Err stops.Memory) after
unfolding Comes
comes_lack before part (stops.Refused c) after r = lacks-all before part (refuses c) after r
comes_lack before part (stops.Ended end) after w =
    record { left = w.left; mid = w.mid; runs = w.runs; fixed = ap (λ (a : Asked _). a.fixed) w.waits; exchanges = ap (λ (a : Asked _). a.exchanges) w.waits }
comes_lack before part stops.BadReply after r = lacks-all before part bad after r
comes_lack before part stops.Memory after r = r
