-- The serial file server as a server over which the law is proved.
use Rattle.std.proofs.Common.{arith, lit≤, ◌≡◌, ◌∙◌, refl, ap, subst, ℕ, ◌<◌, ◌≤◌, Bool, true, false, ◌&&◌, List, [], length}
use Rattle.std.proofs.lemmas.Bool.{and_from, cond_both, lt-ltb}
use Rattle.std.proofs.Math.Nat.{mod-lt}
use Rattle.afp_base.specs.Limits.{last_moment, payload_limit}
use Rattle.afp_base.specs.declared.code.Code.{Code}
use Rattle.afp_base.specs.declared.code.Code.TheVariants as code
use Rattle.afp_calls_grammar.specs.grammar.Laws.{CanonicalIsReadAgain}
use Rattle.volume_spec.specs.TypedVolume.{are_bytes, is_long, is_quad, is_word}
use Rattle.afp_serial.specs.declared.ask.Entry as entries
use Rattle.afp_serial.specs.declared.ask.Told as tolds
use Rattle.afp_serial.specs.declared.ask.Told.TheVariants as told
use Rattle.afp_serial.specs.Answer.{after, answer, committed_of, is_legal, is_legal_outcome}
use Rattle.afp_serial.specs.Laws.{FitsFrame, HidesNoRefusal, KeepsSound, StartsSound}
use Rattle.afp_serial.specs.Ranges.{is_moment, is_typed_ask, is_typed_entry}
use Rattle.afp_serial.specs.SessionViews.{AskChanges, ChangesViews, HolderIsThere, view_at}
use Rattle.afp_serial.specs.Token.{TokensDiffer, session_token}
use Rattle.afp_serial.specs.World.{World}
use Rattle.once_across_breaks.specs.once.Fits.{FitsAnswer}
use Rattle.once_across_breaks.specs.once.Messages.{Answer, Body, Does, Login, Logout, Other, Rejoin, Token, wire_id}
use Rattle.once_across_breaks.specs.once.Server.{Ask, AskLaw, Bye, Calls, Drain, Entry, Fault, Lost, Open, Pulse, Ran, Reply, Sends, Server, entry, numbers_end}
use Rattle.once_across_breaks.specs.once.Serial.{IsSoundUnder, Setup, answer_by, ask_of, entry_of, machine, moment_of, outcome_of, told_of, view_of, written}
use Rattle.once_across_breaks.specs.once.Effects.{StartsUnderItsKey, StaysUnderItsKey}
use Rattle.once_across_breaks.proofs.OfOnce.AskLaws.{ask-law}
use Rattle.once_across_breaks.proofs.OfOnce.HouseStays.{OfHouse, entry-of-house}
use Rattle.once_across_breaks.proofs.OfOnce.Wishes.{carried-typed, logout-typed, token-fits, token-typed}

-- what the crates below say
pub record Laws : Type 0 where
  pub changes : ChangesViews
  pub there : HolderIsThere
  pub faults : HidesNoRefusal
  pub keeps : KeepsSound
  pub fits : FitsFrame
  pub differ : TokensDiffer
  pub again : CanonicalIsReadAgain

pub laws-of : ChangesViews → HolderIsThere → HidesNoRefusal → KeepsSound → FitsFrame → TokensDiffer → CanonicalIsReadAgain → Laws
laws-of changes there faults keeps fits differ again = record { changes = changes; there = there; faults = faults; keeps = keeps; fits = fits; differ = differ; again = again }

-- ---- what is asked is in the ranges of its fields

moment-typed : (moment : ℕ) → is_moment (moment_of moment) ≡ true
moment-typed moment = cond_both (is_moment moment) moment last_moment (λ m. is_moment m ≡ true) (λ e. e) (λ e. refl)

word-typed : (id : ℕ) → is_word (wire_id id) ≡ true
word-typed id = lt-ltb (wire_id id) 65536 (mod-lt id (omega arith))

call-typed : (id offset : ℕ) (payload : List ℕ) → (is_long offset && are_bytes payload) ≡ true → (is_word (wire_id id) && (is_long offset && are_bytes payload)) ≡ true
call-typed id offset payload typed = and_from (is_word (wire_id id)) (is_long offset && are_bytes payload) (word-typed id) typed

pub body-typed : (u : Setup) (body : Body) → (is_long (written u body).offset && are_bytes (written u body).payload) ≡ true
body-typed u Login = u.login.typed
body-typed u Token = token-typed
body-typed u (Rejoin token) = carried-typed token
body-typed u (Does Logout) = logout-typed
body-typed u (Does (Other command)) = command.sent.typed

ask-typed : (u : Setup) (a : Ask) → is_typed_ask (ask_of u a) ≡ true
ask-typed u Open = refl
ask-typed u (Calls id body) = call-typed id (written u body).offset (written u body).payload (body-typed u body)
ask-typed u (Sends id sent) = call-typed id sent.offset sent.payload sent.typed
ask-typed u Pulse = refl
ask-typed u Bye = refl
ask-typed u Lost = refl
ask-typed u Drain = refl

entry-typed : (u : Setup) (e : Entry) → e.link < numbers_end → is_typed_entry (entry_of u e) ≡ true
unfolding is_typed_entry
entry-typed u e within =
    and_from (is_moment (moment_of e.moment)) (is_quad e.link && is_typed_ask (ask_of u e.ask)) (moment-typed e.moment)
    (and_from (is_quad e.link) (is_typed_ask (ask_of u e.ask)) (lt-ltb e.link numbers_end within) (ask-typed u e.ask))

pub ran-legal : (u : Setup) (w : World) (link moment : ℕ) (ask : Ask) → link < numbers_end → is_legal w (entry_of u (entry link moment ask Ran)) ≡ true
ran-legal u w link moment ask within =
    let e : entries.Entry = entry_of u (entry link moment ask Ran) in
    and_from (is_typed_entry e) (is_legal_outcome (committed_of w e) e.outcome) (entry-typed u (entry link moment ask Ran) within) refl

-- ---- the server

fault-tells : Laws → (u : Setup) (w : World) (e : Entry) → is_legal w (entry_of u e) ≡ true → e.outcome ≡ Fault → answer w (entry_of u e) ≡ told.Reply code.MiscErr [] false
fault-tells laws u w e legal fault = (laws.faults w (entry_of u e) (ap outcome_of fault) legal).answered

pub stays-under : KeepsSound → StaysUnderItsKey
stays-under keeps key w e sound legal =
    let h : OfHouse w.house (after w e) = entry-of-house w.house w e (record { same = refl; from_one = sound.from_one; within = sound.within }) in
    record { sound = keeps w e sound.sound legal; under = ap (λ house. house.token_key) h.same ∙ sound.under; from_one = h.from_one; within = h.within }

pub starts-under : StartsSound → StartsUnderItsKey
starts-under starts house now volumes fine typed moment serves = record { sound = starts house now volumes fine typed moment serves; under = refl; from_one = lit≤ tt; within = lit≤ tt }

pub asks-answered : Laws → (u : Setup) (w : World) (n : ℕ) (e : Entry) → IsSoundUnder u.key w → is_legal w (entry_of u e) ≡ true
    → AskLaw (session_token u.key) n (view_of (view_at w n)) e.link ((view_at w n).holder e.link) e.ask e.outcome (told_of (answer w (entry_of u e))) (view_of (view_at (after w (entry_of u e)) n))
asks-answered laws u w n e sound legal =
    let e' : entries.Entry = entry_of u e in
    ask-law laws.again u n (view_at w n) (view_at (after w e') n) e.link ((view_at w n).holder e.link) e.ask e.outcome (answer w e') (λ fault. fault-tells laws u w e legal fault)
    (subst (λ key. AskChanges key n (view_at w n) e.link ((view_at w n).holder e.link) e'.ask e'.outcome (answer w e') (view_at (after w e') n)) sound.under (laws.changes w e' n sound.sound legal))

-- what is told fits a frame
answer-fits : (c : Code) (block : List ℕ) → length block ≤ payload_limit → FitsAnswer (answer_by c block)
answer-fits code.Ok block short = short
answer-fits code.MiscErr block short = tt
answer-fits code.NoMemory block short = tt
answer-fits c block short = (refl, short)

told-fits : (t : tolds.Told) (a : Answer) (ends : Bool) → ((c : Code) (block : List ℕ) (last : Bool) → t ≡ told.Reply c block last → length block ≤ payload_limit) → told_of t ≡ Reply a ends → FitsAnswer a
told-fits (told.Reply c block last) a ends short is = let same : answer_by c block ≡ a = cc in subst FitsAnswer same (answer-fits c block (short c block last refl))
told-fits (told.Opened link) a ends short is = absurd (cc)
told-fits (told.Live drain) a ends short is = absurd (cc)
told-fits told.Done a ends short is = absurd (cc)
told-fits told.Displaced a ends short is = absurd (cc)
told-fits told.Memory a ends short is = absurd (cc)

pub tells-fit : Laws → (u : Setup) (w : World) (e : Entry) (a : Answer) (ends : Bool) → IsSoundUnder u.key w → is_legal w (entry_of u e) ≡ true → told_of (answer w (entry_of u e)) ≡ Reply a ends → FitsAnswer a
tells-fit laws u w e a ends sound legal is = told-fits (answer w (entry_of u e)) a ends (λ c block last tells. laws.fits w (entry_of u e) c block last sound.sound legal tells) is

abbrev pub serial-server : Laws → (u : Setup) → Server World (IsSoundUnder u.key)
serial-server laws u = record {
  machine = machine u;
  tokens_differ = λ m n a b same. laws.differ u.key m n a b same;
  ran_is_legal = λ w link moment ask within. ran-legal u w link moment ask within;
  drawn_begins = λ w n sound. sound.from_one;
  drawn_ends = λ w n sound. sound.within;
  stays_sound = λ w e sound legal. stays-under laws.keeps u.key w (entry_of u e) sound legal;
  held_is_alive = λ w n l sound holds. (laws.there w n l sound.sound holds).0;
  held_is_drawn = λ w n l sound holds. (laws.there w n l sound.sound holds).1;
  tokens_fit = λ n. token-fits u.key n;
  tells_fit = λ w e a ends sound legal is. tells-fit laws u w e a ends sound legal is;
  answers = λ w n e sound legal. asks-answered laws u w n e sound legal;
}
