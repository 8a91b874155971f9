-- Turns, and the histories that a core stands for.
use Rattle.std.proofs.Common.{◌≡◌, ◌∙◌, ap, sym, refl, subst, ℕ, zero, suc, ◌==◌, ◌+◌, Bool, true, false, cond, List, [], ◌∷◌, ◌++◌, length, count_by, ◌<◌, arith, length-append, Option, Some, None}
use Rattle.std.specs.Prelude.{Ok, slice_get, sum}
use Rattle.std.proofs.lemmas.Bool.{and_from, and_parts, true≢false}
use Rattle.std.proofs.lemmas.List.Sums.{sum_by-append, sum_by-cons}
use Rattle.afp_base.specs.Counts.{Rises, counted}
use Rattle.afp_base.specs.Cached.{Request}
use Rattle.afp_base.specs.declared.ids.LinkNumber.{LinkNumber}
use Rattle.afp_serial.specs.declared.ask.Ask.{Ask}
use Rattle.afp_serial.specs.declared.ask.Ask.TheVariants as ask
use Rattle.afp_serial.specs.declared.ask.Entry.{Entry}
use Rattle.afp_serial.specs.declared.ask.Outcome.{Outcome}
use Rattle.afp_serial.specs.declared.ask.Outcome.TheVariants as outcome
use Rattle.afp_serial.specs.declared.ask.Told.{Told}
use Rattle.afp_serial.specs.declared.ask.Told.TheVariants.{Opened, Reply, Live, Done, Displaced, Memory}
use Rattle.afp_serial.specs.declared.answered.Answered.{Answered}
use Rattle.afp_serial.specs.declared.answered.Answered.TheVariants as answered
use Rattle.afp_serial.specs.Answered.{told_of}
use Rattle.afp_serial.specs.ForkLaws.{OpensAreFew}
use Rattle.afp_serial.specs.Answer.{after, answer, answer_at, committed_at, committed_of, is_full, is_legal, is_legal_outcome, link_number, refusal_reply, told_call, told_parting, told_pulse, told_verdict, Verdict, refused, repeats, runs, verdict}
use Rattle.afp_base.specs.declared.code.Code.TheVariants.{NoMoreSessions}
use Rattle.afp_serial.specs.History.{answers, entry, fault_of, faults_in, is_lawful, is_opened, opened_in, stand}
use Rattle.afp_serial.specs.Ranges.{is_typed_entry}
use Rattle.afp_serial.specs.World.{session_at, World, Session, at_moment}
use Rattle.afp_serial.specs.Sound.{IsSound}
use Rattle.afp_serial.proofs.Grows.{faults-append, lawful-snoc, stand-append}
use Rattle.afp_core.specs.turns.Counted.{IsCounted}
use Rattle.afp_core_state.specs.KeeperFaults.{KeepersRise, SureStand, failed_keeper}
use Rattle.afp_core.specs.turns.ServerState.{ServerState}
use Rattle.afp_core_dispatch.specs.Asks.{IsReadyToAsk, kept_at}
use Rattle.afp_core.specs.turns.lemma.ServerState.{kept_of}
use Rattle.afp_core.specs.turns.Sureness.{MeetsNoFaults, SureKept}
use Rattle.afp_core_dispatch.specs.Asks.{RunsAsk}
use Rattle.afp_core.specs.turns.Turn.{TakesTurn, Turned}

-- a sound world is ready for a turn; no field of it is the latest moment
pub ready : (w : World) → OpensAreFew → IsSound w → IsReadyToAsk w
ready w few sound = record { sound = sound; few = omega (arith, few w sound) }

-- an entry is never told Memory
abbrev pub is_memory : Told → Bool
is_memory (Opened l) = false
is_memory (Reply code block ends) = false
is_memory (Live drain) = false
is_memory Done = false
is_memory Displaced = false
is_memory Memory = true

verdict-told : (w : World) (s : Session) (v : Verdict) (o : Outcome) → is_memory (told_verdict w s v o) ≡ false
verdict-told w s (repeats answer) o = refl
verdict-told w s (refused code) o = refl
verdict-told w s (runs call) outcome.Fault = refl
verdict-told w s (runs call) outcome.Done = refl

call-told : (w : World) (s : Option Session) (r : Request) (o : Outcome) → is_memory (told_call w s r o) ≡ false
call-told w None r o = refl
call-told w (Some s) r o = verdict-told w s (verdict w s r) o

pulse-told : (w : World) (link : ℕ) (s : Option Session) → is_memory (told_pulse w link s) ≡ false
pulse-told w link (Some s) = refl
pulse-told w link None = by (link == 0)
  where
    by : (b : Bool) → is_memory (cond b (Live w.drain) Displaced) ≡ false
    by true = refl
    by false = refl

parting-told : (s : Option Session) → is_memory (told_parting s) ≡ false
parting-told None = refl
parting-told (Some s) = refl

answer_at-told : (w : World) (link : ℕ) (asked : Ask) (o : Outcome) → is_memory (answer_at w link asked o) ≡ false
unfolding answer_at
answer_at-told w link (ask.Open attention) o = by (is_full w)
  where
    by : (b : Bool) → is_memory (cond b (refusal_reply NoMoreSessions) (Opened (link_number w.next_link))) ≡ false
    by true = refl
    by false = refl
answer_at-told w link (ask.Call id write offset payload) o = call-told w (session_at w link) _ o
answer_at-told w link ask.Pulse o = pulse-told w link (session_at w link)
answer_at-told w link ask.Bye o = parting-told (session_at w link)
answer_at-told w link ask.Lost o = parting-told (session_at w link)
answer_at-told w link ask.Drain o = refl

pub answer-told : (w : World) (e : Entry) (told : Told) → told ≡ answer w e → told ≡ Memory → ⊥
answer-told w e told is none = true≢false (ap is_memory (sym none) ∙ ap is_memory is ∙ answer_at-told _ _ _ _)

-- a step, as a turn by what it is told
pub turned-takes : (c d : ServerState) (now : ℕ) (link : LinkNumber) (asked : Ask) (told : Told) (o : Outcome) → Turned c (entry now link asked o) told d → TakesTurn c now link asked told d
turned-takes c d now link asked (Opened l) o t = (o, t)
turned-takes c d now link asked (Reply code block ends) o t = (o, t)
turned-takes c d now link asked (Live drain) o t = (o, t)
turned-takes c d now link asked Done o t = (o, t)
turned-takes c d now link asked Displaced o t = (o, t)
turned-takes c d now link asked Memory o t = absurd (answer-told c.world (entry now link asked o) Memory t.serial refl)

-- a turn at the end of a history that the core stands for
module _ (start : World) (h : List Entry) (c d : ServerState) (e : Entry) (told : Told) (stands : c.world ≡ stand start h) (t : Turned c e told d) where
  pub turn-stands : d.world ≡ stand start (h ++ e ∷ [])
  turn-stands = t.world ∙ ap (λ (w : World). after w e) stands ∙ sym (stand-append start h (e ∷ []))

  pub turn-lawful : is_lawful start h ≡ true → is_lawful start (h ++ e ∷ []) ≡ true
  turn-lawful l = lawful-snoc start h e l (ap (λ (w : World). is_legal w e) (sym stands) ∙ t.legal)

  pub turn-tells : told ≡ answer (stand start h) e
  turn-tells = t.serial ∙ ap (λ (w : World). answer w e) stands

-- counts at the end of a history
answers-append : (w : World) (h : List Entry) (e : Entry) → answers w (h ++ e ∷ []) ≡ answers w h ++ answer (stand w h) e ∷ []
answers-append w [] e = refl
answers-append w (x ∷ xs) e = ap (λ (l : List Told). answer w x ∷ l) (answers-append (after w x) xs e)

opened-append : (w : World) (h : List Entry) (e : Entry) → opened_in w (h ++ e ∷ []) ≡ opened_in w h + count_by is_opened (answer (stand w h) e ∷ [])
opened-append w h e = ap (count_by is_opened) (answers-append w h e) ∙ sum_by-append (λ t. cond (is_opened t) 1 0) (answers w h) (answer (stand w h) e ∷ [])

pub turn-counted : (start c d : ServerState) (h : List Entry) (e : Entry) (told : Told) → c.world ≡ stand start.world h → Turned c e told d → IsCounted start h c → IsCounted start (h ++ e ∷ []) d
turn-counted start c d h e told stands t counts =
    let longer : length (h ++ e ∷ []) ≡ length h + 1 = length-append h (e ∷ []) in
    let more : opened_in start.world (h ++ e ∷ []) ≡ opened_in start.world h + count_by is_opened (told ∷ []) =
    opened-append start.world h e ∙ ap (λ (x : Told). opened_in start.world h + count_by is_opened (x ∷ [])) (sym (turn-tells start.world h c d e told stands t)) in
    record {
      entries = omega (arith, longer, t.entries, counts.entries);
      opened = omega (arith, more, t.opened, counts.opened);
    }

-- an ask whose numbers are in their ranges, with an outcome that may come, is a legal entry
pub legal-entry : (w : World) (now : ℕ) (link : LinkNumber) (asked : Ask) (o : Outcome) → is_typed_entry (entry now link asked o) ≡ true
    → is_legal_outcome (committed_at (at_moment w now) link.0 asked) o ≡ true → is_legal w (entry now link asked o) ≡ true
legal-entry w now link asked o typed may = and_from (is_typed_entry (entry now link asked o)) (is_legal_outcome (committed_at (at_moment w now) link.0 asked) o) typed may

-- what opens no session
pub not-opened : (a : Answered) (out : List ℕ) → ((link : LinkNumber) → a ≡ answered.Opened link → ⊥) → count_by is_opened (told_of a out ∷ []) ≡ 0
not-opened (answered.Opened link) out other = absurd (other link refl)
not-opened (answered.Reply code size ends) out other = refl
not-opened (answered.Live drain) out other = refl
not-opened answered.Done out other = refl
not-opened answered.Displaced out other = refl
not-opened answered.Memory out other = refl

-- the outcome of an ask, as an entry
pub turned : (c d : ServerState) (now : ℕ) (link : LinkNumber) (asked : Ask) (told : Told) (o : Outcome)
    → is_typed_entry (entry now link asked o) ≡ true
    → RunsAsk (kept_at (kept_of c) now) link.0 asked (Ok (told, o)) (kept_of d)
    → d.entries ≡ counted 1 c.entries
    → d.opened ≡ counted (count_by is_opened (told ∷ [])) c.opened
    → Turned c (entry now link asked o) told d
turned c d now link asked told o typed comes entries opened = record {
  legal = and_from (is_typed_entry (entry now link asked o)) (is_legal_outcome (committed_at (at_moment c.world now) link.0 asked) o) typed comes.legal;
  serial = comes.serial;
  world = comes.world;
  entries = entries;
  opened = opened;
  keepers = comes.keepers;
  sure = comes.sure;
  stand = comes.stand;
}

-- the sum of the keepers' counts
fault_count : Option ℕ → ℕ
fault_count None = 0
fault_count (Some index) = 1

sums-rise : (index : Option ℕ) (olds news : List ℕ) → KeepersRise index olds news → Rises (fault_count index) (sum olds) (sum news)
unfolding fault_count
sums-rise None olds news k = let same : sum news ≡ sum olds = ap sum k in (omega (arith, same), omega (arith, same))
sums-rise (Some index) [] news k = absurd k
sums-rise (Some zero) (a ∷ olds) [] k = absurd k
sums-rise (Some (suc index)) (a ∷ olds) [] k = absurd k
sums-rise (Some zero) (a ∷ olds) (b ∷ news) k =
    let same : sum news ≡ sum olds = ap sum k.1 in
    let less : a < b = k.0 in
    (omega (arith, sum_by-cons (λ (n : ℕ). n) a olds, sum_by-cons (λ (n : ℕ). n) b news, same, less), omega (arith, sum_by-cons (λ (n : ℕ). n) a olds, sum_by-cons (λ (n : ℕ). n) b news, same, less))
sums-rise (Some (suc index)) (a ∷ olds) (b ∷ news) k =
    let same : b ≡ a = k.0 in
    let rest = sums-rise (Some index) olds news k.1 in
    (omega (arith, sum_by-cons (λ (n : ℕ). n) a olds, sum_by-cons (λ (n : ℕ). n) b news, same, rest.0), omega (arith, sum_by-cons (λ (n : ℕ). n) a olds, sum_by-cons (λ (n : ℕ). n) b news, same, rest.0, rest.1))

-- a fault of an entry that is legal raises the sum
fault-counted : (index : Option ℕ) (o : Outcome) → is_legal_outcome index o ≡ true → fault_count (failed_keeper index o) ≡ fault_of o
unfolding fault_count
fault-counted index outcome.Done legal = refl
fault-counted (Some index) outcome.Fault legal = refl
fault-counted None outcome.Fault legal = cc

pub turn-faults : (c d : ServerState) (e : Entry) (told : Told) → Turned c e told d → Rises (faults_in ([] ++ e ∷ [])) (sum c.faults) (sum d.faults)
turn-faults c d e told t =
    let legal = (and_parts (is_typed_entry e) (is_legal_outcome (committed_of c.world e) e.outcome) t.legal).1 in
    subst (λ (n : ℕ). Rises n (sum c.faults) (sum d.faults)) (fault-counted (committed_of c.world e) e.outcome legal ∙ one (fault_of e.outcome))
    (sums-rise (failed_keeper (committed_of c.world e) e.outcome) c.faults d.faults t.keepers)
  where
    one : (n : ℕ) → n ≡ n + 0
    one n = omega arith

-- what became of the keepers since a start
rise-many : (index : Option ℕ) (olds news : List ℕ) → KeepersRise index olds news → length news ≡ length olds
rise-many None olds news k = ap length k
rise-many (Some index) [] news k = absurd k
rise-many (Some zero) (a ∷ olds) [] k = absurd k
rise-many (Some (suc index)) (a ∷ olds) [] k = absurd k
rise-many (Some zero) (a ∷ olds) (b ∷ news) k = ap (λ (l : List ℕ). suc (length l)) k.1
rise-many (Some (suc index)) (a ∷ olds) (b ∷ news) k = ap suc (rise-many (Some index) olds news k.1)

some-true : (s : Bool) → Some s ≡ Some true → s ≡ true
some-true true h = refl
some-true false h = cc

stand-at : (sure : List Bool) (olds news : List ℕ) → length news ≡ length olds → SureStand sure olds news → (index : ℕ) → slice_get sure index ≡ Some true
    → slice_get news index ≡ slice_get olds index
stand-at [] olds news many stand index h = cc
stand-at (s ∷ sure) [] [] many stand index h = refl
stand-at (s ∷ sure) [] (b ∷ news) many stand index h = absurd (omega (arith, many))
stand-at (s ∷ sure) (a ∷ olds) [] many stand index h = absurd (omega (arith, many))
stand-at (s ∷ sure) (a ∷ olds) (b ∷ news) many stand zero h = ap Some (stand.0 (some-true s h))
stand-at (s ∷ sure) (a ∷ olds) (b ∷ news) many stand (suc index) h = stand-at sure olds news (omega (arith, many)) stand.1 index h

pub turn-kept : (start c d : ServerState) (e : Entry) (told : Told) → Turned c e told d → SureKept start c → SureKept start d
turn-kept start c d e told t k =
    let many : length d.faults ≡ length c.faults = rise-many (failed_keeper (committed_of c.world e) e.outcome) c.faults d.faults t.keepers in
    record {
      many = many ∙ k.many;
      sure = t.sure ∙ k.sure;
      stand = λ index h. stand-at c.sure c.faults d.faults many t.stand index (ap (λ (l : List Bool). slice_get l index) k.sure ∙ h) ∙ k.stand index h;
    }

-- where all keepers are sure, no entry meets a fault
rise-within : (index : ℕ) (olds news : List ℕ) → KeepersRise (Some index) olds news → index < length olds
rise-within index [] news k = absurd k
rise-within zero (a ∷ olds) [] k = absurd k
rise-within (suc index) (a ∷ olds) [] k = absurd k
rise-within zero (a ∷ olds) (b ∷ news) k = omega arith
rise-within (suc index) (a ∷ olds) (b ∷ news) k = let rest = rise-within index olds news k.1 in omega (arith, rest)

some-number : (x y : ℕ) → Some x ≡ Some y → x ≡ y
some-number x y h = cc h

no-rise : (index : ℕ) (olds news : List ℕ) → KeepersRise (Some index) olds news → slice_get news index ≡ slice_get olds index → ⊥
no-rise index [] news k same = k
no-rise zero (a ∷ olds) [] k same = k
no-rise (suc index) (a ∷ olds) [] k same = k
no-rise zero (a ∷ olds) (b ∷ news) k same = let e = some-number b a same in let less : a < b = k.0 in omega (arith, e, less)
no-rise (suc index) (a ∷ olds) (b ∷ news) k same = no-rise index olds news k.1 same

stood-faultless : (index : Option ℕ) (o : Outcome) (olds news : List ℕ) → is_legal_outcome index o ≡ true → KeepersRise (failed_keeper index o) olds news
    → ((i : ℕ) → i < length olds → slice_get news i ≡ slice_get olds i) → fault_of o ≡ 0
stood-faultless index outcome.Done olds news legal k stand = refl
stood-faultless (Some index) outcome.Fault olds news legal k stand = absurd (no-rise index olds news k (stand index (rise-within index olds news k)))
stood-faultless None outcome.Fault olds news legal k stand = cc

pub turn-faultless : (start c d : ServerState) (h : List Entry) (e : Entry) (told : Told) → Turned c e told d → SureKept start c → MeetsNoFaults start h → MeetsNoFaults start (h ++ e ∷ [])
turn-faultless start c d h e told t k none sure =
    let legal = (and_parts (is_typed_entry e) (is_legal_outcome (committed_of c.world e) e.outcome) t.legal).1 in
    let many : length d.faults ≡ length c.faults = rise-many (failed_keeper (committed_of c.world e) e.outcome) c.faults d.faults t.keepers in
    let last : fault_of e.outcome ≡ 0 = stood-faultless (committed_of c.world e) e.outcome c.faults d.faults legal t.keepers
    (λ index within. stand-at c.sure c.faults d.faults many t.stand index (ap (λ (l : List Bool). slice_get l index) k.sure ∙ sure index (omega (arith, within, k.many)))) in
    let before : faults_in h ≡ 0 = none sure in
    omega (arith, faults-append h (e ∷ []), before, last)
