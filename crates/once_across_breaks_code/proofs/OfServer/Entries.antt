-- Entries as the law has them.
use Rattle.std.proofs.Common.{◌≡◌, ◌∙◌, refl, sym, ap, subst, ℕ, Bool, true, false, List, [], ◌∷◌, ◌++◌, Option, None, append-nil, append_assoc}
use Rattle.std.specs.Prelude.{◌||◌, is_some, map}
use Rattle.std.proofs.lemmas.Bool.{and_from, and_parts, cond-true, ltb-true}
use Rattle.std.proofs.Math.Nat.{mod-eq_of_lt}
use Rattle.afp_base.specs.Limits.{last_moment}
use Rattle.afp_base.specs.declared.ids.LinkNumber.{LinkNumber}
use Rattle.afp_serial.specs.declared.ask.Ask as asks
use Rattle.afp_serial.specs.declared.ask.Ask.TheVariants as ask
use Rattle.afp_serial.specs.declared.ask.Entry as entries
use Rattle.afp_serial.specs.declared.ask.Outcome as outcomes
use Rattle.afp_serial.specs.declared.ask.Outcome.TheVariants as outcome
use Rattle.afp_serial.specs.declared.ask.Told as tolds
use Rattle.afp_serial.specs.Answer.{after, after_at, answer, answer_at, committed_at, committed_of, is_legal, is_legal_outcome}
use Rattle.afp_serial.specs.History as histories
use Rattle.afp_serial.specs.Ranges.{is_moment, is_typed_ask, is_typed_entry}
use Rattle.afp_serial.specs.Went.{Step, step}
use Rattle.afp_serial.specs.World.{World, at_moment}
use Rattle.once_across_breaks.specs.once.Frames.{call_entry}
use Rattle.once_across_breaks.specs.once.Serial.{Setup, ask_of, entry_of, machine, moment_of, outcome_of}
use Rattle.once_across_breaks.specs.once.Server as law
use Rattle.once_across_breaks.specs.once.Server.{Fault, Ran, entry}
use Rattle.once_across_breaks_code.specs.server.Among.{is_carried_ask}
use Rattle.once_across_breaks_code.specs.server.Asked.{AskedAlone, AskedAt, BecomesEntry}
use Rattle.once_across_breaks_code.specs.server.Handling.{any_fault, is_fault}
use Rattle.once_across_breaks_code.specs.server.Ties.{AreEntries, plain, plain_ask}

-- ---- the attention quantum does not matter

plain-answer : (w : World) (link : ℕ) (a : asks.Ask) (o : outcomes.Outcome) → answer_at w link (plain_ask a) o ≡ answer_at w link a o
unfolding answer_at
plain-answer w link (ask.Open attention) o = refl
plain-answer w link (ask.Call id write offset payload) o = refl
plain-answer w link ask.Pulse o = refl
plain-answer w link ask.Bye o = refl
plain-answer w link ask.Lost o = refl
plain-answer w link ask.Drain o = refl

plain-after : (w : World) (link : ℕ) (a : asks.Ask) (o : outcomes.Outcome) → after_at w link (plain_ask a) o ≡ after_at w link a o
unfolding after_at
plain-after w link (ask.Open attention) o = refl
plain-after w link (ask.Call id write offset payload) o = refl
plain-after w link ask.Pulse o = refl
plain-after w link ask.Bye o = refl
plain-after w link ask.Lost o = refl
plain-after w link ask.Drain o = refl

-- ---- what a legal entry says

typed-moment : (e : entries.Entry) → is_typed_entry e ≡ true → is_moment e.at ≡ true
unfolding is_typed_entry
typed-moment e typed = (and_parts (is_moment e.at) _ typed).0

legal-moment : (w : World) (e : entries.Entry) → is_legal w e ≡ true → is_moment e.at ≡ true
legal-moment w e legal = typed-moment e (and_parts (is_typed_entry e) (is_legal_outcome (committed_of w e) e.outcome) legal).0

done-of : (index : Option ℕ) (o : outcomes.Outcome) → is_legal_outcome index o ≡ true → index ≡ None → o ≡ outcome.Done
done-of index outcome.Done legal none = refl
done-of index outcome.Fault legal none = absurd (let e : true ≡ false = sym legal ∙ ap is_some none in cc)

-- asks that no keeper has to do with
pub Uncommitted : asks.Ask → Type 0
Uncommitted a = (w : World) (link : ℕ) → committed_at w link a ≡ None

pub pulse-uncommitted : Uncommitted ask.Pulse
unfolding committed_at Uncommitted
pulse-uncommitted w link = refl

pub bye-uncommitted : Uncommitted ask.Bye
unfolding committed_at Uncommitted
bye-uncommitted w link = refl

pub lost-uncommitted : Uncommitted ask.Lost
unfolding committed_at Uncommitted
lost-uncommitted w link = refl

pub open-uncommitted : (attention : ℕ) → Uncommitted (ask.Open attention)
unfolding committed_at Uncommitted
open-uncommitted attention w link = refl

-- ---- an entry as the law's

pub law_outcome : outcomes.Outcome → law.Outcome
law_outcome outcome.Done = Ran
law_outcome outcome.Fault = Fault

outcome-again : (o : outcomes.Outcome) → outcome_of (law_outcome o) ≡ o
unfolding law_outcome
outcome-again outcome.Done = refl
outcome-again outcome.Fault = refl

-- the law's entry of a step: the same entry, told the same, with the same world behind it
pub record IsAs (u : Setup) (w : World) (es : List entries.Entry) (behind : World) (t : tolds.Told) (x : law.Entry) : Type 0 where
  pub asked : AreEntries u (x ∷ []) es
  pub told : answer w (entry_of u x) ≡ t
  pub left : after w (entry_of u x) ≡ behind

entry-same : (u : Setup) (link : LinkNumber) (now : ℕ) (a : asks.Ask) (x : law.Ask) (o : outcomes.Outcome) → ask_of u x ≡ plain_ask a → is_moment now ≡ true
    → entry_of u (entry link.0 now x (law_outcome o)) ≡ plain (histories.entry now link a o)
entry-same u link now a x o same moment =
    let at : moment_of now ≡ now = cond-true (is_moment now) now last_moment moment in
    λ i. record { link = link; at = at i; ask = same i; outcome = outcome-again o i }

pub as-entry : (u : Setup) (w : World) (now : ℕ) (link : LinkNumber) (a : asks.Ask) (t : tolds.Told) (x : law.Ask) (es : List entries.Entry) (behind : World)
    → ask_of u x ≡ plain_ask a → (b : BecomesEntry w (step now link a t) es behind) → IsAs u w es behind t (entry link.0 now x (law_outcome b.2.outcome))
as-entry u w now link a t x es behind same (e, all, b) =
    let plainly = entry-same u link now a x b.outcome same (subst (λ (y : entries.Entry). is_moment y.at ≡ true) b.is (legal-moment w e b.legal)) in
    let is : plain (histories.entry now link a b.outcome) ≡ plain e = ap plain (sym b.is) in
    let both : entry_of u (entry link.0 now x (law_outcome b.outcome)) ≡ plain e = plainly ∙ is in
    record {
      asked = (λ i. both i ∷ []) ∙ sym (ap (map plain) all);
      told = ap (answer w) both ∙ plain-answer (at_moment w e.at) e.link.0 e.ask e.outcome ∙ sym b.told;
      left = ap (after w) both ∙ plain-after (at_moment w e.at) e.link.0 e.ask e.outcome ∙ sym b.left;
    }

done-there : (w : World) (now : ℕ) (link : LinkNumber) (a : asks.Ask) (t : tolds.Told) (es : List entries.Entry) (behind : World)
    → Uncommitted a → (b : BecomesEntry w (step now link a t) es behind) → b.2.outcome ≡ outcome.Done
unfolding Uncommitted
done-there w now link a t es behind none (e, all, b) =
    let legal : is_legal w (histories.entry now link a b.outcome) ≡ true = subst (λ (y : entries.Entry). is_legal w y ≡ true) b.is b.legal in
    done-of (committed_at (at_moment w now) link.0 a) b.outcome
    (and_parts (is_typed_entry (histories.entry now link a b.outcome)) (is_legal_outcome (committed_at (at_moment w now) link.0 a) b.outcome) legal).1
    (none (at_moment w now) link.0)

pub as-ran : (u : Setup) (w : World) (now : ℕ) (link : LinkNumber) (a : asks.Ask) (t : tolds.Told) (x : law.Ask) (es : List entries.Entry) (behind : World)
    → ask_of u x ≡ plain_ask a → Uncommitted a → BecomesEntry w (step now link a t) es behind → IsAs u w es behind t (entry link.0 now x Ran)
unfolding law_outcome
as-ran u w now link a t x es behind same none b =
    subst (λ (o : outcomes.Outcome). IsAs u w es behind t (entry link.0 now x (law_outcome o))) (done-there w now link a t es behind none b) (as-entry u w now link a t x es behind same b)

-- ---- a call's entry

false-or : (b : Bool) → (b || false) ≡ b
false-or true = refl
false-or false = refl

pub fault-of : (w : World) (s : Step) (es : List entries.Entry) (behind : World) → (b : BecomesEntry w s es behind) → any_fault es ≡ is_fault b.2.outcome
fault-of w s es behind (e, all, b) = ap any_fault all ∙ false-or (is_fault e.outcome) ∙ ap (λ (y : entries.Entry). is_fault y.outcome) b.is

chosen : (u : Setup) (w : World) (link now : ℕ) (x : law.Ask) (o : outcomes.Outcome) → (o ≡ outcome.Fault → is_legal w (entry_of u (entry link now x Fault)) ≡ true)
    → call_entry (machine u) w link now x (is_fault o) ≡ entry link now x (law_outcome o)
unfolding law_outcome
chosen u w link now x outcome.Done legal = refl
chosen u w link now x outcome.Fault legal = cond-true (is_legal w (entry_of u (entry link now x Fault))) (entry link now x Fault) (entry link now x Ran) (legal refl)

-- the law takes the outcome that the entry has
pub call-entry : (u : Setup) (w : World) (now : ℕ) (link : LinkNumber) (t : tolds.Told) (x : law.Ask) (es : List entries.Entry) (behind : World)
    → ask_of u x ≡ plain_ask (ask_of u x) → (b : BecomesEntry w (step now link (ask_of u x) t) es behind)
    → call_entry (machine u) w link.0 now x (any_fault es) ≡ entry link.0 now x (law_outcome b.2.outcome)
unfolding law_outcome
call-entry u w now link t x es behind same (e, all, b) =
    let moment : is_moment now ≡ true = subst (λ (y : entries.Entry). is_moment y.at ≡ true) b.is (legal-moment w e b.legal) in
    let there : e ≡ histories.entry now link (ask_of u x) b.outcome = b.is in
    let plainly : entry_of u (entry link.0 now x (law_outcome b.outcome)) ≡ e = entry-same u link now (ask_of u x) x b.outcome same moment
    ∙ (λ i. record { link = link; at = now; ask = sym same i; outcome = b.outcome }) ∙ sym there in
    ap (call_entry (machine u) w link.0 now x) (fault-of w (step now link (ask_of u x) t) es behind (e, all, b))
    ∙ chosen u w link.0 now x b.outcome
    (λ fault. subst (λ (o : outcomes.Outcome). is_legal w (entry_of u (entry link.0 now x (law_outcome o))) ≡ true) fault (subst (λ (y : entries.Entry). is_legal w y ≡ true) (sym plainly) b.legal))

-- ---- lists of steps and entries

pub map-append : {A B : Type 0} (f : A → B) (xs ys : List A) → map f (xs ++ ys) ≡ map f xs ++ map f ys
map-append f [] ys = refl
map-append f (x ∷ xs) ys = ap (λ zs. f x ∷ zs) (map-append f xs ys)

pub entries-join : (u : Setup) (xs ys : List law.Entry) (es fs : List entries.Entry) → AreEntries u xs es → AreEntries u ys fs → AreEntries u (xs ++ ys) (es ++ fs)
entries-join u xs ys es fs p q = map-append (entry_of u) xs ys ∙ (λ i. p i ++ q i) ∙ sym (map-append plain es fs)

pub entries-none : (u : Setup) (es : List entries.Entry) → es ≡ [] → AreEntries u [] es
entries-none u es none = sym (ap (map plain) none)

pub one-alone : (w : World) (s : Step) (es : List entries.Entry) (behind : World) → AskedAlone w (s ∷ []) es behind → AskedAt w s es behind
one-alone w s es behind (first, rest, mid, asked, later, all) =
    subst (λ (l : List entries.Entry). AskedAt w s l behind) (sym (all ∙ ap (λ (r : List entries.Entry). first ++ r) later.0 ∙ append-nil first)) (subst (λ (v : World). AskedAt w s first v) (sym later.1) asked)

-- the steps of two parts
pub record Split (w : World) (ss ts : List Step) (es : List entries.Entry) (behind : World) : Type 0 where
  pub first : List entries.Entry
  pub rest : List entries.Entry
  pub mid : World
  pub before : AskedAlone w ss first mid
  pub later : AskedAlone mid ts rest behind
  pub all : es ≡ first ++ rest

pub split : (w : World) (ss ts : List Step) (es : List entries.Entry) (behind : World) → AskedAlone w (ss ++ ts) es behind → Split w ss ts es behind
split w [] ts es behind asked = record { first = []; rest = es; mid = w; before = (refl, refl); later = asked; all = refl }
split w (s ∷ ss) ts es behind (first, rest, mid, asked, later, all) =
    let x = split mid ss ts rest behind later in
    record {
      first = first ++ x.first;
      rest = x.rest;
      mid = x.mid;
      before = (first, x.first, mid, asked, x.before, refl);
      later = x.later;
      all = all ∙ ap (λ (r : List entries.Entry). first ++ r) x.all ∙ sym (append_assoc first x.first x.rest);
    }

-- ---- any entry as the law's

same-ask : (w : World) (link : ℕ) (a : asks.Ask) → committed_at w link (plain_ask a) ≡ committed_at w link a
unfolding committed_at
same-ask w link (ask.Open attention) = refl
same-ask w link (ask.Call id write offset payload) = refl
same-ask w link ask.Pulse = refl
same-ask w link ask.Bye = refl
same-ask w link ask.Lost = refl
same-ask w link ask.Drain = refl

plain-typed-ask : (a : asks.Ask) → is_typed_ask a ≡ true → is_typed_ask (plain_ask a) ≡ true
plain-typed-ask (ask.Open attention) typed = refl
plain-typed-ask (ask.Call id write offset payload) typed = typed
plain-typed-ask ask.Pulse typed = typed
plain-typed-ask ask.Bye typed = typed
plain-typed-ask ask.Lost typed = typed
plain-typed-ask ask.Drain typed = typed

plain-typed : (e : entries.Entry) → is_typed_entry e ≡ true → is_typed_entry (plain e) ≡ true
unfolding is_typed_entry
plain-typed e typed =
    let moment = and_parts (is_moment e.at) _ typed in
    let link = and_parts _ (is_typed_ask e.ask) moment.1 in
    and_from (is_moment e.at) _ moment.0 (and_from _ (is_typed_ask (plain_ask e.ask)) link.0 (plain-typed-ask e.ask link.1))

pub plain-legal : (w : World) (e : entries.Entry) → is_legal w e ≡ true → is_legal w (plain e) ≡ true
plain-legal w e legal =
    let parts = and_parts (is_typed_entry e) (is_legal_outcome (committed_of w e) e.outcome) legal in
    and_from (is_typed_entry (plain e)) (is_legal_outcome (committed_of w (plain e)) e.outcome) (plain-typed e parts.0)
    (ap (λ (o : Option ℕ). is_legal_outcome o e.outcome) (same-ask (at_moment w e.at) e.link.0 e.ask) ∙ parts.1)

pub same-after : (w : World) (e : entries.Entry) → after w (plain e) ≡ after w e
same-after w e = plain-after (at_moment w e.at) e.link.0 e.ask e.outcome

pub legal-typed : (w : World) (e : entries.Entry) → is_legal w e ≡ true → is_typed_entry e ≡ true
legal-typed w e legal = (and_parts (is_typed_entry e) (is_legal_outcome (committed_of w e) e.outcome) legal).0

ask-is : (u : Setup) (a : asks.Ask) → is_typed_ask a ≡ true → is_carried_ask a ≡ true → (x : law.Ask) × (ask_of u x ≡ plain_ask a)
ask-is u (ask.Open attention) typed carried = (law.Open, refl)
ask-is u (ask.Call id write offset payload) typed carried =
    let parts = and_parts _ _ typed in
    (law.Sends id (record { write = write; offset = offset; payload = payload; typed = parts.1; sized = carried }), ap (λ (n : ℕ). ask.Call n write offset payload) (mod-eq_of_lt (ltb-true id 65536 parts.0)))
ask-is u ask.Pulse typed carried = (law.Pulse, refl)
ask-is u ask.Bye typed carried = (law.Bye, refl)
ask-is u ask.Lost typed carried = (law.Lost, refl)
ask-is u ask.Drain typed carried = (law.Drain, refl)

typed-ask : (e : entries.Entry) → is_typed_entry e ≡ true → is_typed_ask e.ask ≡ true
unfolding is_typed_entry
typed-ask e typed = (and_parts _ (is_typed_ask e.ask) (and_parts (is_moment e.at) _ typed).1).1

pub entry-is : (u : Setup) (e : entries.Entry) → is_typed_entry e ≡ true → is_carried_ask e.ask ≡ true → (x : law.Entry) × (entry_of u x ≡ plain e)
unfolding law_outcome
entry-is u e typed carried =
    let x = ask-is u e.ask (typed-ask e typed) carried in
    (entry e.link.0 e.at x.0 (law_outcome e.outcome), entry-same u e.link e.at e.ask x.0 e.outcome x.1 (typed-moment e typed))
