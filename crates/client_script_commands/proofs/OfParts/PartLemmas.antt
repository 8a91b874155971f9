-- Parts of a script, call by call.
use Rattle.std.proofs.Common.{◌≡◌, ℕ, List, [], ◌∷◌, ◌++◌, Option, Some, None, Result, Ok, Err, refl, ap, sym, subst, ◌∙◌, append_assoc}
use Rattle.std.proofs.lemmas.List.{append-nil}
use Rattle.afp_base.specs.declared.code.Code.{Code}
use Rattle.afp_base.specs.declared.code.Code.TheVariants as code
use Rattle.afp_base.specs.declared.ids.ForkRef.{ForkRef}
use Rattle.afp_calls_grammar.specs.declared.grammar.call.Call.{Call}
use Rattle.afp_replies.specs.declared.reply.Reply.{Reply}
use Rattle.client_script_lines.specs.calls.Requests.{close_fork}
use Rattle.client_script_commands.specs.declared.parts.asker.Answer.{Answer}
use Rattle.client_script_commands.specs.declared.parts.asker.Stop.{Stop}
use Rattle.client_script_commands.specs.declared.parts.asker.Stop.TheVariants as stops
use Rattle.client_script_commands.specs.parts.Parts.{Asked, Lacks, with_more, with_unanswered, asks, ask, bad, by_code, closes_refused, done, if_ok, in_fork, must, must_do, must_tell, needs, refuses, Part, Exchange, Runs, Comes}
use Rattle.client_script_commands.specs.parts.Told.{Carries}

with-none : {F : Type 0} (before : Asked F) → before ≡ with_more before []
with-none {F} before = ap {B = Asked F} (λ (xs : List Exchange). record before { exchanges = xs }) (sym (append-nil before.exchanges))

-- nothing was asked, and the part is this
pub runs_none : {F : Type 0} (before : Asked F) (part : Part) → Runs before part part before
runs_none before part = record { exchanges = []; log = with-none before; leads = λ answers. refl }

more-more : {F : Type 0} (before : Asked F) (xs ys : List Exchange) → with_more (with_more before xs) ys ≡ with_more before (xs ++ ys)
more-more {F} before xs ys = ap {B = Asked F} (λ (zs : List Exchange). record before { exchanges = zs }) (append_assoc before.exchanges xs ys)

-- a call was answered, and the rest of the part goes on from there
runs_more : {F : Type 0} (before : Asked F) (part : Part) (x : Exchange) (left : Part) (mid final : Asked F) → part [] ≡ asks x.call → mid ≡ with_more before (x ∷ [])
    → Runs mid (λ answers. part (x.answer ∷ answers)) left final → Runs before part left final
runs_more {F} before part x left mid final h e r = record {
  exchanges = x ∷ r.exchanges;
  log = r.log ∙ (ap (λ (log : Asked F). with_more log r.exchanges) e ∙ more-more before (x ∷ []) r.exchanges);
  leads = (h, r.leads);
}

comes_more : {E F : Type 0} → (before : Asked F) (part : Part) (x : Exchange) (result : Result (List ℕ) (Stop E)) (mid final : Asked F) → part [] ≡ asks x.call
    → mid ≡ with_more before (x ∷ []) → Comes mid (λ answers. part (x.answer ∷ answers)) result final → Comes before part result final
unfolding Comes
comes_more before part x (Ok text) mid final h e r = runs_more before part x (done text) mid final h e r
comes_more before part x (Err (stops.Refused c)) mid final h e r = runs_more before part x (refuses c) mid final h e r
comes_more before part x (Err (stops.Ended end)) mid final h e r =
    record { call = r.call; left = r.left; next = r.next; mid = r.mid; runs = runs_more before part x r.left mid r.mid h e r.runs; waits = r.waits }
comes_more before part x (Err stops.BadReply) mid final h e r = runs_more before part x bad mid final h e r
comes_more before part x (Err stops.Memory) mid final h e r =
    record { left = r.left; mid = r.mid; runs = runs_more before part x r.left mid r.mid h e r.runs; fixed = r.fixed; exchanges = r.exchanges }

-- a call was answered
pub ask_told : {E F : Type 0} → (call : Call) (before : Asked F) (answer : Answer) (mid : Asked F) → mid ≡ with_more before ((record { call = call; answer = answer }) ∷ [])
    → (next : Answer → Part) → Carries E before (ask call next) mid (next answer)
unfolding ask
ask_told call before answer mid e next result final h = comes_more before (ask call next) (record { call = call; answer = answer }) result mid final refl e h

-- a call got no answer
pub ask_waits : {E F : Type 0} → (call : Call) (before : Asked F) (end : E) (mid : Asked F) → mid ≡ with_unanswered before call → (next : Answer → Part) → Comes before (ask call next) (Err (stops.Ended end)) mid
unfolding ask Comes
ask_waits call before end mid e next =
    record { call = call; left = ask call next; next = refl; mid = before; runs = runs_none before (ask call next); waits = e }

-- the same, of any part that asks the call
pub any_told : {E F : Type 0} → (call : Call) (before : Asked F) (answer : Answer) (mid : Asked F) → mid ≡ with_more before ((record { call = call; answer = answer }) ∷ [])
    → (part : Part) → part [] ≡ asks call → Carries E before part mid (λ answers. part (answer ∷ answers))
any_told call before answer mid e part asked result final h = comes_more before part (record { call = call; answer = answer }) result mid final asked e h

pub any_waits : {E F : Type 0} → (call : Call) (before : Asked F) (end : E) (mid : Asked F) → mid ≡ with_unanswered before call → (part : Part) → part [] ≡ asks call → Comes before part (Err (stops.Ended end)) mid
unfolding Comes
any_waits call before end mid e part asked =
    record { call = call; left = part; next = asked; mid = before; runs = runs_none before part; waits = e }

-- how parts end
pub comes_memory : (E : Type 0) {F : Type 0} → (before : Asked F) (part : Part) → Comes {E = E} before part (Err stops.Memory) before
unfolding Comes
comes_memory E before part = record { left = part; mid = before; runs = runs_none before part; fixed = refl; exchanges = refl }

pub comes_done : (E : Type 0) {F : Type 0} → (before : Asked F) (text : List ℕ) → Comes {E = E} before (done text) (Ok text) before
unfolding Comes
comes_done E before text = runs_none before (done text)

pub comes_refused : (E : Type 0) {F : Type 0} → (before : Asked F) (c : Code) → Comes {E = E} before (refuses c) (Err (stops.Refused c)) before
unfolding Comes
comes_refused E before c = runs_none before (refuses c)

pub comes_bad : (E : Type 0) {F : Type 0} → (before : Asked F) → Comes {E = E} before bad (Err stops.BadReply) before
unfolding Comes
comes_bad E before = runs_none before bad

-- what follows an answer
pub ok_next : (c : Code) (reply : Reply) (next : Reply → Part) (otherwise : Code → Part) → c ≡ code.Ok → by_code c reply next otherwise ≡ next reply
ok_next c reply next otherwise e = ap (λ (d : Code). by_code d reply next otherwise) e

pub other_next : (c : Code) (reply : Reply) (next : Reply → Part) (otherwise : Code → Part) → (c ≡ code.Ok → ⊥) → by_code c reply next otherwise ≡ otherwise c
other_next code.Ok reply next otherwise h = absurd (h refl)
other_next c reply next otherwise h = refl

-- a call was told Ok
pub ok_carries : {E F : Type 0} → (answer : Answer) (mid : Asked F) (next : Reply → Part) (otherwise : Code → Part) → answer.code ≡ code.Ok
    → Carries E mid (if_ok answer next otherwise) mid (next answer.reply)
ok_carries {E} answer mid next otherwise ok result final h = subst (λ (part : Part). Comes mid part result final) (sym (ok_next answer.code answer.reply next otherwise ok)) h

-- it was refused
pub refused_carries : {E F : Type 0} → (answer : Answer) (mid : Asked F) (next : Reply → Part) (otherwise : Code → Part) → (answer.code ≡ code.Ok → ⊥)
    → Carries E mid (if_ok answer next otherwise) mid (otherwise answer.code)
refused_carries {E} answer mid next otherwise ne result final h = subst (λ (part : Part). Comes mid part result final) (sym (other_next answer.code answer.reply next otherwise ne)) h

-- a reply tells a value, or none
pub needs_some : {E A F : Type 0} → (found : Option A) (value : A) (mid : Asked F) (next : A → Part) → found ≡ Some value → Carries E mid (needs found next) mid (next value)
needs_some {E} {A} found value mid next e result final h = subst (λ (o : Option A). Comes mid (needs o next) result final) (sym e) h

pub needs_none : (E : Type 0) {A F : Type 0} → (found : Option A) (mid : Asked F) (next : A → Part) → found ≡ None → Comes {E = E} mid (needs found next) (Err stops.BadReply) mid
needs_none E {A} found mid next e = subst (λ (o : Option A). Comes {E = E} mid (needs o next) (Err stops.BadReply) mid) (sym e) (comes_bad E mid)

-- a call whose reply must tell a value
pub tells_value : {E A F : Type 0} → (told : Reply → Option A) (call : Call) (before after : Asked F) (reply : Reply) (value : A)
    → ((next : Reply → Part) → Carries E before (must call next) after (next reply)) → told reply ≡ Some value → (next : A → Part) → Carries E before (must_tell told call next) after (next value)
unfolding must_tell
tells_value {E} {A} told call before after reply value h e next result final r = h (λ answer. needs (told answer) next) result final (needs_some {E = E} (told reply) value after next e result final r)

pub tells_none : (E : Type 0) {A F : Type 0} → (told : Reply → Option A) (call : Call) (before after : Asked F) (reply : Reply)
    → ((next : Reply → Part) → Carries E before (must call next) after (next reply)) → told reply ≡ None → (next : A → Part) → Comes {E = E} before (must_tell told call next) (Err stops.BadReply) after
unfolding must_tell
tells_none E {A} told call before after reply h e next = h (λ answer. needs (told answer) next) (Err stops.BadReply) after (needs_none E (told reply) after next e)

pub tells_memory : (E : Type 0) {A F : Type 0} → (told : Reply → Option A) (call : Call) (before after : Asked F) (reply : Reply)
    → ((next : Reply → Part) → Carries E before (must call next) after (next reply)) → (next : A → Part) → Comes {E = E} before (must_tell told call next) (Err stops.Memory) after
unfolding must_tell
tells_memory E {A} told call before after reply h next = h (λ answer. needs (told answer) next) (Err stops.Memory) after (comes_memory E after (needs (told reply) next))

pub tells_stop : {E A F : Type 0} → (told : Reply → Option A) (call : Call) (before after : Asked F) (stop : Stop E)
    → ((next : Reply → Part) → Comes before (must call next) (Err stop) after) → (next : A → Part) → Comes before (must_tell told call next) (Err stop) after
unfolding must_tell
tells_stop told call before after stop h next = h (λ answer. needs (told answer) next)

-- a call that must be told Ok
pub must_told : {E F : Type 0} → (call : Call) (before : Asked F) (answer : Answer) (mid : Asked F) → ((next : Answer → Part) → Carries E before (ask call next) mid (next answer))
    → answer.code ≡ code.Ok → (next : Reply → Part) → Carries E before (must call next) mid (next answer.reply)
unfolding must
must_told {E} call before answer mid h ok next result final r =
    h (λ (a : Answer). if_ok a next refuses) result final (ok_carries {E = E} answer mid next refuses ok result final r)

pub must_refused : {E F : Type 0} → (call : Call) (before : Asked F) (answer : Answer) (mid : Asked F) → ((next : Answer → Part) → Carries E before (ask call next) mid (next answer))
    → (answer.code ≡ code.Ok → ⊥) → (next : Reply → Part) → Comes {E = E} before (must call next) (Err (stops.Refused answer.code)) mid
unfolding must
must_refused {E} call before answer mid h ne next =
    h (λ (a : Answer). if_ok a next refuses) (Err (stops.Refused answer.code)) mid (refused_carries {E = E} answer mid next refuses ne (Err (stops.Refused answer.code)) mid (comes_refused E mid answer.code))

pub must_stops : {E F : Type 0} → (call : Call) (before mid : Asked F) (stop : Stop E) → ((next : Answer → Part) → Comes before (ask call next) (Err stop) mid)
    → (next : Reply → Part) → Comes before (must call next) (Err stop) mid
unfolding must
must_stops call before mid stop h next = h (λ (a : Answer). if_ok a next refuses)

-- the same, whatever its reply
pub does_told : {E F : Type 0} → (call : Call) (before mid : Asked F) (reply : Reply) → ((next : Reply → Part) → Carries E before (must call next) mid (next reply))
    → (next : Part) → Carries E before (must_do call next) mid next
unfolding must_do
does_told call before mid reply h next = h (λ r. next)

pub does_stop : {E F : Type 0} → (call : Call) (before mid : Asked F) (stop : Stop E) → ((next : Reply → Part) → Comes before (must call next) (Err stop) mid)
    → (next : Part) → Comes before (must_do call next) (Err stop) mid
unfolding must_do
does_stop call before mid stop h next = h (λ r. next)

-- a fork is closed behind a refusal
pub closes_told : {E F : Type 0} → (reference : ForkRef) (c : Code) (before mid : Asked F) (answer : Answer)
    → ((next : Answer → Part) → Carries E before (ask (close_fork reference) next) mid (next answer)) → Comes {E = E} before (closes_refused reference c) (Err (stops.Refused c)) mid
unfolding closes_refused
closes_told {E} reference c before mid answer h = h (λ a. refuses c) (Err (stops.Refused c)) mid (comes_refused E mid c)

pub closes_stop : {E F : Type 0} → (reference : ForkRef) (c : Code) (before mid : Asked F) (stop : Stop E)
    → ((next : Answer → Part) → Comes before (ask (close_fork reference) next) (Err stop) mid) → Comes before (closes_refused reference c) (Err stop) mid
unfolding closes_refused
closes_stop reference c before mid stop h = h (λ a. refuses c)

-- a call in an open fork
pub fork_told : {E F : Type 0} → (reference : ForkRef) (call : Call) (before : Asked F) (answer : Answer) (mid : Asked F)
    → ((next : Answer → Part) → Carries E before (ask call next) mid (next answer)) → answer.code ≡ code.Ok → (next : Part) → Carries E before (in_fork reference call next) mid next
unfolding in_fork
fork_told {E} reference call before answer mid h ok next result final r =
    h (λ (a : Answer). if_ok a (λ reply. next) (closes_refused reference)) result final (ok_carries {E = E} answer mid (λ reply. next) (closes_refused reference) ok result final r)

pub fork_refused : {E F : Type 0} → (reference : ForkRef) (call : Call) (before : Asked F) (answer : Answer) (mid final : Asked F) (stop : Stop E)
    → ((next : Answer → Part) → Carries E before (ask call next) mid (next answer)) → (answer.code ≡ code.Ok → ⊥) → Comes mid (closes_refused reference answer.code) (Err stop) final
    → (next : Part) → Comes before (in_fork reference call next) (Err stop) final
unfolding in_fork
fork_refused {E} reference call before answer mid final stop h ne closes next =
    h (λ (a : Answer). if_ok a (λ reply. next) (closes_refused reference)) (Err stop) final (refused_carries {E = E} answer mid (λ reply. next) (closes_refused reference) ne (Err stop) final closes)

pub fork_stops : {E F : Type 0} → (reference : ForkRef) (call : Call) (before mid : Asked F) (stop : Stop E) → ((next : Answer → Part) → Comes before (ask call next) (Err stop) mid)
    → (next : Part) → Comes before (in_fork reference call next) (Err stop) mid
unfolding in_fork
fork_stops reference call before mid stop h next = h (λ (a : Answer). if_ok a (λ reply. next) (closes_refused reference))
