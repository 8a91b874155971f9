-- Asks.
use Rattle.std.proofs.Common.{◌≡◌, ◌∙◌, ap, sym, refl, subst, ℕ, Bool, true, false, List, Option, Some, None, is_some}
use Rattle.std.specs.Prelude.{Result, Ok, Err, max}
use Rattle.std.proofs.lemmas.Bool.{and_from}
use Rattle.afp_base.specs.Cached.{Request}
use Rattle.afp_base.specs.declared.bytes.OutOfMemory.{OutOfMemory}
use Rattle.afp_base.specs.declared.code.Code.TheVariants.{NoMoreSessions}
use Rattle.afp_base.specs.declared.ids.LinkNumber.{LinkNumber}
use Rattle.afp_serial.specs.declared.ask.Ask.{Ask}
use Rattle.afp_serial.specs.declared.ask.Ask.TheVariants as ask
use Rattle.afp_serial.specs.declared.ask.Outcome.{Outcome}
use Rattle.afp_serial.specs.declared.ask.Told.{Told}
use Rattle.afp_serial.specs.declared.ask.Told.TheVariants.{Opened, Done, Displaced}
use Rattle.afp_serial.proofs.StaysSound.{answer-fits}
use Rattle.afp_serial.specs.Answer.{after_at, answer_at, committed_of, drain_moment, is_legal_outcome, losing, without_expired, committed_at, link_number, refusal_reply, request, told_pulse}
use Rattle.afp_serial.specs.History.{entry}
use Rattle.afp_serial.specs.Ranges.{is_typed_entry}
use Rattle.afp_serial.specs.Sound.{IsSound}
use Rattle.afp_serial.specs.declared.attachment.Attachment.TheVariants.{Detached}
use Rattle.afp_serial.specs.World.{session_at, with_session, without_session, World, Session}
use Rattle.session_table.specs.Sessions.{IsAt}
use Rattle.afp_core_state.specs.Running.{done}
use Rattle.afp_core_dispatch.specs.Asks.{RunsAsk, stands_already, takes_memory}
use Rattle.afp_core_dispatch.specs.lemma.Asks.{RunsCall}
use Rattle.afp_core_dispatch.specs.lemma.Fits.{AskFits, CallFits}
use Rattle.afp_core_state.specs.KeptWorld.{KeptWorld}
use Rattle.afp_core_state.specs.lemma.KeptWorld.{table_in, with_table}
use Rattle.session_table.specs.Sessions.{Becomes, Opens, Table}
use Rattle.session_table.specs.declared.sessions.SessionFault.TheVariants.{Full}
use Rattle.afp_core_state.proofs.KeeperLemmas.{outcome-done, outcome-same}

-- the world with another drain moment
abbrev pub with_drain : KeptWorld → Option ℕ → KeptWorld
with_drain k drain = record k { world = record k.world { drain = drain } }

-- Open
pub open-refused : (old new : KeptWorld) (link attention : ℕ) (t : Table) (told : Told) → Opens (table_in old.world) (Err Full) t → new ≡ with_table old t → told ≡ refusal_reply NoMoreSessions
    → RunsAsk old link (ask.Open attention) (Ok (done told)) new
unfolding answer_at after_at committed_at
open-refused old new link attention t told opens is tells = rw opens.0 (outcome-same old new _ _ told tells (is ∙ ap (with_table old) opens.1))

pub open-runs : (old new : KeptWorld) (link attention : ℕ) (t : Table) (drawn : LinkNumber) → Opens (table_in old.world) (Ok drawn) t → new ≡ with_table old t
    → RunsAsk old link (ask.Open attention) (Ok (done (Opened drawn))) new
unfolding answer_at after_at committed_at
open-runs old new link attention t drawn opens is =
    rw opens.0 (outcome-done old new _ _ (with_table old t).world _ (Opened drawn) (ap (λ (n : ℕ). Opened (link_number n)) opens.1) is (ap (λ (x : Table). (with_table old x).world) opens.2))

-- Pulse
pub pulse-runs : (old new : KeptWorld) (link : ℕ) (told : Told) → told ≡ told_pulse old.world link (session_at old.world link) → new ≡ record old { world = without_expired old.world }
    → RunsAsk old link ask.Pulse (Ok (done told)) new
unfolding answer_at after_at committed_at
pulse-runs old new link told tells is = outcome-done old new _ _ (without_expired old.world) _ told tells is refl

-- Bye and Lost
pub bye-runs : (old new : KeptWorld) (link n : ℕ) → IsAt old.world.sessions link n → new ≡ record old { world = without_session old.world n } → RunsAsk old link ask.Bye (Ok (done Done)) new
unfolding answer_at after_at committed_at
bye-runs old new link n at is =
    let left : without_session old.world n ≡ without_session old.world at.session.number = ap (without_session old.world) (sym at.same) in
    rw at.linked (outcome-done old new _ _ (without_session old.world n) _ Done refl is left)

pub bye-displaced : (old : KeptWorld) (link : ℕ) → session_at old.world link ≡ None → RunsAsk old link ask.Bye (Ok (done Displaced)) old
unfolding answer_at after_at committed_at
bye-displaced old link none = rw none (outcome-same old old _ _ Displaced refl refl)

pub lost-displaced : (old : KeptWorld) (link : ℕ) → session_at old.world link ≡ None → RunsAsk old link ask.Lost (Ok (done Displaced)) old
unfolding answer_at after_at committed_at
lost-displaced old link none = rw none (outcome-same old old _ _ Displaced refl refl)

no-user : (o : Option ℕ) → is_some o ≡ false → o ≡ None
no-user None h = refl
no-user (Some u) h = absurd (cc)

pub lost-ends : (old new : KeptWorld) (link n : ℕ) → (at : IsAt old.world.sessions link n) → is_some at.session.user ≡ false → new ≡ record old { world = without_session old.world n } → RunsAsk old link ask.Lost (Ok (done Done)) new
unfolding answer_at after_at committed_at
lost-ends old new link n at none is =
    let left : without_session old.world n ≡ losing old.world at.session at.session.user = ap (without_session old.world) (sym at.same) ∙ ap (losing old.world at.session) (sym (no-user at.session.user none)) in
    rw at.linked (outcome-done old new _ _ (without_session old.world n) _ Done refl is left)

waits : (w : World) (s : Session) (o : Option ℕ) → is_some o ≡ true → losing w s o ≡ with_session w (record s { place = Detached w.latest })
waits w s None h = absurd (cc)
waits w s (Some u) h = refl

pub lost-waits : (old new : KeptWorld) (link n : ℕ) (t : Table) → (at : IsAt old.world.sessions link n) → is_some at.session.user ≡ true → Becomes (table_in old.world) n (λ x. record x { place = Detached old.world.latest }) t → new ≡ with_table old t → RunsAsk old link ask.Lost (Ok (done Done)) new
unfolding answer_at after_at committed_at
lost-waits old new link n t at some becomes is =
    rw at.linked (outcome-done old new _ _ (with_table old t).world _ Done refl is
    (ap (λ (x : Table). (with_table old x).world) (becomes at.session at.numbered) ∙ sym (waits old.world at.session at.session.user some)))

-- Drain
pub drain-first : (moment : ℕ) (d : Option ℕ) → is_some d ≡ false → drain_moment moment d ≡ Some moment
drain-first moment None h = refl
drain-first moment (Some m) h = cc

pub drain-kept : (moment : ℕ) (d : Option ℕ) → is_some d ≡ true → drain_moment moment d ≡ d
drain-kept moment None h = cc
drain-kept moment (Some m) h = refl

pub drain-runs : (old new : KeptWorld) (link : ℕ) (drain : Option ℕ) → new ≡ with_drain old drain → drain_moment old.world.latest old.world.drain ≡ drain
    → RunsAsk old link ask.Drain (Ok (done Done)) new
unfolding answer_at after_at committed_at
drain-runs old new link drain is first = outcome-done old new _ _ _ _ Done refl is (ap (λ (d : Option ℕ). record old.world { drain = d }) (sym first))

-- calls
pub call-displaced : (old : KeptWorld) (link : ℕ) (q : Request) → session_at old.world link ≡ None → RunsCall old link q (Ok (done Displaced)) old
call-displaced old link q none = rw none (outcome-same old old _ _ Displaced refl refl)

pub call-at : (old new : KeptWorld) (link id : ℕ) (write : Bool) (offset : ℕ) (payload : List ℕ) (asked : Ask) (result : Result (Told × Outcome) OutOfMemory)
    → asked ≡ ask.Call id write offset payload → RunsCall old link (request id write offset payload) result new → RunsAsk old link asked result new
unfolding answer_at after_at committed_at
call-at old new link id write offset payload asked (Ok r) is runs = subst (λ (a : Ask). RunsAsk old link a (Ok r) new) (sym is) runs
call-at old new link id write offset payload asked (Err e) is runs = (record { takes = ap takes_memory is; new = ap (λ (a : Ask). stands_already old.world link a) is ∙ runs.0 }, runs.1)

-- an ask by its name
pub ask-as : (old new : KeptWorld) (link : ℕ) (asked of : Ask) (told : Told) → asked ≡ of → RunsAsk old link of (Ok (done told)) new → RunsAsk old link asked (Ok (done told)) new
ask-as old new link asked of told is runs = subst (λ (a : Ask). RunsAsk old link a (Ok (done told)) new) (sym is) runs

-- what an ask may be told fits

pub call-fits : (w : World) (link id : ℕ) (write : Bool) (offset : ℕ) (payload : List ℕ) (asked : Ask) → asked ≡ ask.Call id write offset payload → AskFits w link asked → CallFits w link (request id write offset payload)
unfolding answer_at committed_at
call-fits w link id write offset payload asked is fits = subst (λ (a : Ask). AskFits w link a) is fits

pub ask-fits : (w : World) (now n : ℕ) (link : LinkNumber) (asked : Ask) → n ≡ max w.latest now → IsSound w → ((o : Outcome) → is_typed_entry (entry now link asked o) ≡ true) → AskFits (record w { latest = n }) link.0 asked
ask-fits w now n link asked is sound typed =
    subst (λ (m : ℕ). AskFits (record w { latest = m }) link.0 asked) (sym is)
    (λ o legal. answer-fits w (entry now link asked o) sound (and_from (is_typed_entry (entry now link asked o)) (is_legal_outcome (committed_of w (entry now link asked o)) o) (typed o) legal))
