-- What the law asks of the events at one link, where what others ask in them keeps out.
use Rattle.std.proofs.Common.{◌≡◌, ◌≢◌, ◌∙◌, ◌⊎◌, inl, inr, refl, sym, ap, subst, ℕ, suc, ◌≤◌, ◌<◌, Bool, true, false, List, [], ◌∷◌, ◌++◌, Option, Some, None, arith, eq-eqb}
use Rattle.std.specs.Prelude.{◌||◌, ◌&&◌, not, if◌then◌else◌, length, nat_eq, bytes_eq}
use Rattle.std.specs.List.{list_all, list_any}
use Rattle.std.proofs.lemmas.Bool.{and_from, and_parts, cases_eq, cond_both, eqb-true, or_cases}
use Rattle.afp_base.proofs.Facts.{bytes_true}
use Rattle.afp_serial.specs.Answer.{link_number, request}
use Rattle.afp_serial.specs.SessionViews.{AsksKept, AsksToken, AsksUnkept, ComesBack, LogsOut, SessionWish, wish_of}
use Rattle.afp_serial.specs.Token.{session_token}
use Rattle.afp_serial.specs.World.{World}
use Rattle.afp_serial.specs.declared.ask.Ask as serial
use Rattle.afp_serial.specs.declared.ask.Ask.TheVariants as ask
use Rattle.afp_serial.specs.declared.ask.Entry as entries
use Rattle.once_across_breaks.proofs.OfOnce.Steps.{upd}
use Rattle.once_across_breaks.specs.once.Effects.{TokensAreCarried, WrittenIsRead}
use Rattle.once_across_breaks.specs.once.Frames.{AllNetAllowed, Carrier, End, Handled, Heard, HeardCall, HeardOpen, Net, NetAllowed, OthersKeepOutOfNet, call_by, call_entry, call_told, ended_end, handles, heard, is_again_first, net_arrives, net_ends, net_link, net_parts, net_quiet, net_quiet_by, net_run, net_step, net_tells, net_to_server, replied, replies_of}
use Rattle.once_across_breaks.specs.once.Messages.{Answer, Body, Call, Does, Login, Logout, NoMemory, Other, Rejoin, Sent, Token, body_by, body_of, request_of, wire_id}
use Rattle.once_across_breaks.specs.once.Once.{carries, carries_body}
use Rattle.once_across_breaks.specs.once.Run.{Asks, Breaks, Client, Commands, Drains, Ends, Event, Loses, Opens, Others, Quiet, Request, ToClient, ToServer, Wish}
use Rattle.once_across_breaks.specs.once.Serial.{IsSoundUnder, Setup, ask_of, can_carry, carried, entry_of, machine, written}
use Rattle.once_across_breaks.specs.once.Server as law
use Rattle.once_across_breaks.specs.once.Server.{Ask, Bye, Calls, Displaced, Drain, Entry, Lost, Live, Open, Opened, Parted, Pulse, Ran, Reply, Sends, Told, entry}
use Rattle.once_across_breaks.specs.once.UnderWay.{EventsKeepFitting, NetFits, NumberFits, TokenFits}
use Rattle.once_across_breaks_code.specs.server.Among.{AreAtLink, IsAtLink, IsPassed, any_wants_memory, is_pulse, is_sweep, wants_memory}
use Rattle.once_across_breaks_code.specs.server.Ties.{plain, plain_ask}
use Rattle.once_across_breaks_code.specs.run.Premises.{asks_back, keeps_out, wishes_back}
use Rattle.once_across_breaks_code.proofs.OfRun.AtLink.{at-link-client, at-link-legal}

-- ---- the numbers of links

-- one of them
abbrev pub IsAmong : ℕ → List ℕ → Type 0
IsAmong l numbers = list_any (λ number. nat_eq number l) numbers ≡ true

abbrev pub Numbered : Net World → Net World → Type 0
Numbered a b = (j l : ℕ) → (a.links j).end.number ≡ Some l → (b.links j).end.number ≡ Some l

told-number : (u : Setup) (w : World) (es : List Entry) (e : End) (body : Body) (t : Told) → (call_told w es e body t).end.number ≡ e.number
told-number u w es e body (Reply a ends) = refl
told-number u w es e body (Opened link) = refl
told-number u w es e body Live = refl
told-number u w es e body Parted = refl
told-number u w es e body Displaced = refl

-- a server end that has a number keeps it
handled-number : (u : Setup) (w : World) (moment : ℕ) (wish : Wish) (e : End) (number : Option ℕ) (l : ℕ) (h : Heard) → e.number ≡ Some l → number ≡ Some l → (handles (machine u) w moment wish e number h).end.number ≡ Some l
handled-number u w moment wish e None l h is same = absurd (cc)
handled-number u w moment wish e (Some k) l HeardOpen is same = is
handled-number u w moment wish e (Some k) l (HeardCall id body) is same =
    let x : Entry = call_entry (machine u) w k moment (Calls id body) wish.fault in
    cond_both wish.memory (replied w [] e NoMemory) (call_by (machine u) w e body x) (λ (y : Handled World). y.end.number ≡ Some l) (λ f. is)
    (λ f. told-number u ((machine u).after w x) (x ∷ []) e body ((machine u).told w x) ∙ is)

-- one that has none gets one by OpenSession alone
unopened-number : (u : Setup) (w : World) (moment : ℕ) (wish : Wish) (e : End) (id : ℕ) (body : Body) → e.number ≡ None → (handles (machine u) w moment wish e None (HeardCall id body)).end.number ≡ None
unopened-number u w moment wish e id body is = is

ends-numbered : (net : Net World) (i : ℕ) → Numbered net (net_ends net i)
ends-numbered net i j l is =
    upd net.links i (record { end = ended_end (net.links i).end; up = (net.links i).up; down = (net.links i).down }) (λ k (y : Carrier). (net.links k).end.number ≡ Some l → y.end.number ≡ Some l) (λ h. h) (λ k off h. h) j is

quiet-by-numbered : (net : Net World) (i : ℕ) (t : Told) → Numbered net (net_quiet_by net i t)
quiet-by-numbered net i Displaced = ends-numbered net i
quiet-by-numbered net i (Opened link) = λ j l is. is
quiet-by-numbered net i (Reply a ends) = λ j l is. is
quiet-by-numbered net i Live = λ j l is. is
quiet-by-numbered net i Parted = λ j l is. is

quiet-numbered : (u : Setup) (net : Net World) (i moment : ℕ) (wish : Wish) (b : Bool) (number : Option ℕ) → Numbered net (net_quiet (machine u) net i moment wish b number)
quiet-numbered u net i moment wish true number = λ j l is. is
quiet-numbered u net i moment wish false None = λ j l is. is
quiet-numbered u net i moment wish false (Some link) =
    let asked : Net World = net_tells (machine u) net (entry link moment Pulse Ran) in
    cond_both wish.memory net (net_quiet_by asked i ((machine u).told net.world (entry link moment Pulse Ran))) (Numbered net) (λ e j l is. is)
    (λ e j l is. quiet-by-numbered asked i ((machine u).told net.world (entry link moment Pulse Ran)) j l is)

parts-numbered : (u : Setup) (net : Net World) (i moment : ℕ) (wish : Wish) (asks : Ask) (b : Bool) (number : Option ℕ) → Numbered net (net_parts (machine u) net i moment wish asks b number)
parts-numbered u net i moment wish asks true number = λ j l is. is
parts-numbered u net i moment wish asks false None = ends-numbered net i
parts-numbered u net i moment wish asks false (Some link) =
    let asked : Net World = net_tells (machine u) net (entry link moment asks Ran) in
    cond_both wish.memory net asked (λ (x : Net World). Numbered net (net_ends x i)) (λ e. ends-numbered net i) (λ e j l is. ends-numbered asked i j l is)

arrives-numbered : (u : Setup) (net : Net World) (i moment : ℕ) (wish : Wish) (rs : List Request) → Numbered net (net_arrives (machine u) net i moment wish rs)
arrives-numbered u net i moment wish [] = λ j l is. is
arrives-numbered u net i moment wish (r ∷ rest) =
    λ j l is.
    let h : Handled World = handles (machine u) net.world moment wish (net.links i).end (net.links i).end.number (heard r) in
    upd net.links i (record { end = h.end; up = rest; down = (net.links i).down ++ replies_of r h.reply }) (λ k (y : Carrier). (net.links k).end.number ≡ Some l → y.end.number ≡ Some l)
    (λ here. handled-number u net.world moment wish (net.links i).end (net.links i).end.number l (heard r) here here) (λ k off here. here) j is

to-server-numbered : (u : Setup) (net : Net World) (i moment : ℕ) (wish : Wish) (b : Bool) → Numbered net (net_to_server (machine u) net i moment wish b)
to-server-numbered u net i moment wish true = λ j l is. is
to-server-numbered u net i moment wish false = arrives-numbered u net i moment wish (net.links i).up

at-link-numbered : (u : Setup) (q : entries.Entry → Bool) (i : ℕ) (net : Net World) (e : Event) → IsAtLink u q i net e → Numbered net (net_step (machine u) net e)
at-link-numbered u q i net (ToServer j moment wish) here = to-server-numbered u net j moment wish (net.links j).end.ended
at-link-numbered u q i net (Quiet j moment wish) here = quiet-numbered u net j moment wish (net.links j).end.ended (net.links j).end.number
at-link-numbered u q i net (Loses j moment wish) here = parts-numbered u net j moment wish Lost (net.links j).end.ended (net.links j).end.number
at-link-numbered u q i net (Drains j moment wish) here = parts-numbered u net j moment wish Bye (net.links j).end.ended (net.links j).end.number
at-link-numbered u q i net (Others e) here = λ j l is. is
at-link-numbered u q i net (Commands call) here = absurd here
at-link-numbered u q i net ToClient here = absurd here
at-link-numbered u q i net (Ends j) here = absurd here
at-link-numbered u q i net Breaks here = absurd here

pub numbered-along : (u : Setup) (q : entries.Entry → Bool) (i : ℕ) (net : Net World) (es : List Event) → AreAtLink u q i net es → Numbered net (net_run (machine u) net es)
numbered-along u q i net [] here = λ j l is. is
numbered-along u q i net (e ∷ es) here = λ j l is. numbered-along u q i (net_step (machine u) net e) es here.1 j l (at-link-numbered u q i net e here.0 j l is)

-- ---- a link without a number

-- it is as it was; or it has one request less, which was an OpenSession
abbrev pub HasOpens : List Request → Type 0
HasOpens [] = ⊥
HasOpens (Opens ∷ rs) = Unit {0}
HasOpens (Asks id body again ∷ rs) = HasOpens rs

pub record IsOpened (old new : Carrier) : Type 0 where
  pub opens : HasOpens old.up
  pub fewer : length new.up < length old.up

-- what may become of a link: it has no number, and no more requests; or it was opened
abbrev Fate : Carrier → Carrier → Type 0
Fate old new = old.end.number ≡ None → ((new.end.number ≡ None) × (length new.up ≤ length old.up) × (HasOpens new.up → HasOpens old.up)) ⊎ IsOpened old new

-- and the number of requests never rises
abbrev Shorter : Carrier → Carrier → Type 0
Shorter old new = length new.up ≤ length old.up

ends-up : (net : Net World) (i j : ℕ) → (((net_ends net i).links j).end.number ≡ (net.links j).end.number) × (((net_ends net i).links j).up ≡ (net.links j).up)
ends-up net i j =
    upd net.links i (record { end = ended_end (net.links i).end; up = (net.links i).up; down = (net.links i).down }) (λ k (y : Carrier). (y.end.number ≡ (net.links k).end.number) × (y.up ≡ (net.links k).up)) (refl, refl) (λ k off. (refl, refl)) j

-- the link stays as it was, as far as its number and requests go
abbrev Rested : Net World → Net World → ℕ → Type 0
Rested a b i = ((b.links i).end.number ≡ (a.links i).end.number) × ((b.links i).up ≡ (a.links i).up)

rested-fate : (a b : Net World) (i : ℕ) → Rested a b i → Fate (a.links i) (b.links i) × Shorter (a.links i) (b.links i)
rested-fate a b i r =
    let short : length (b.links i).up ≤ length (a.links i).up = let e = ap (λ (l : List Request). length l) r.1 in omega (arith, e) in
    ((λ none. inl (r.0 ∙ none, short, subst HasOpens r.1)), short)

quiet-by-rested : (net : Net World) (i : ℕ) (t : Told) → Rested net (net_quiet_by net i t) i
quiet-by-rested net i Displaced = ends-up net i i
quiet-by-rested net i (Opened link) = (refl, refl)
quiet-by-rested net i (Reply a ends) = (refl, refl)
quiet-by-rested net i Live = (refl, refl)
quiet-by-rested net i Parted = (refl, refl)

quiet-rested : (u : Setup) (net : Net World) (i moment : ℕ) (wish : Wish) (b : Bool) (number : Option ℕ) → Rested net (net_quiet (machine u) net i moment wish b number) i
quiet-rested u net i moment wish true number = (refl, refl)
quiet-rested u net i moment wish false None = (refl, refl)
quiet-rested u net i moment wish false (Some link) =
    let asked : Net World = net_tells (machine u) net (entry link moment Pulse Ran) in
    cond_both wish.memory net (net_quiet_by asked i ((machine u).told net.world (entry link moment Pulse Ran))) (λ (x : Net World). Rested net x i) (λ e. (refl, refl))
    (λ e. quiet-by-rested asked i ((machine u).told net.world (entry link moment Pulse Ran)))

parts-rested : (u : Setup) (net : Net World) (i moment : ℕ) (wish : Wish) (asks : Ask) (b : Bool) (number : Option ℕ) → Rested net (net_parts (machine u) net i moment wish asks b number) i
parts-rested u net i moment wish asks true number = (refl, refl)
parts-rested u net i moment wish asks false None = ends-up net i i
parts-rested u net i moment wish asks false (Some link) =
    let asked : Net World = net_tells (machine u) net (entry link moment asks Ran) in
    cond_both wish.memory net asked (λ (x : Net World). Rested net (net_ends x i) i) (λ e. ends-up net i i) (λ e. ends-up asked i i)

arrives-fate : (u : Setup) (net : Net World) (i moment : ℕ) (wish : Wish) (rs : List Request) → (net.links i).up ≡ rs
    → Fate (net.links i) ((net_arrives (machine u) net i moment wish rs).links i) × Shorter (net.links i) ((net_arrives (machine u) net i moment wish rs).links i)
arrives-fate u net i moment wish [] up = rested-fate net net i (refl, refl)
arrives-fate u net i moment wish (r ∷ rest) up =
    let h : Handled World = handles (machine u) net.world moment wish (net.links i).end (net.links i).end.number (heard r) in
    let c : Carrier = record { end = h.end; up = rest; down = (net.links i).down ++ replies_of r h.reply } in
    let less : suc (length rest) ≤ length (net.links i).up = let e = ap (λ (l : List Request). length l) up in omega (arith, e) in
    upd net.links i c (λ k (y : Carrier). k ≡ i → Fate (net.links i) y × Shorter (net.links i) y) (λ same. ((λ none. by r up none), omega (arith, less))) (λ k off same. absurd (off same)) i refl
  where
    by : (x : Request) → (net.links i).up ≡ x ∷ rest → (net.links i).end.number ≡ None
        → (((handles (machine u) net.world moment wish (net.links i).end (net.links i).end.number (heard x)).end.number ≡ None) × (length rest ≤ length (net.links i).up) × (HasOpens rest → HasOpens (net.links i).up))
        ⊎ IsOpened (net.links i) (record { end = (handles (machine u) net.world moment wish (net.links i).end (net.links i).end.number (heard r)).end; up = rest; down = (net.links i).down ++ replies_of r (handles (machine u) net.world moment wish (net.links i).end (net.links i).end.number (heard r)).reply })
    by Opens is none = inr (record { opens = subst HasOpens (sym is) tt; fewer = let e = ap (λ (l : List Request). length l) is in omega (arith, e) })
    by (Asks id body again) is none =
        let e = ap (λ (l : List Request). length l) is in
        inl (
          ap (λ (o : Option ℕ). (handles (machine u) net.world moment wish (net.links i).end o (HeardCall id body)).end.number) none ∙ unopened-number u net.world moment wish (net.links i).end id body none,
          omega (arith, e),
          (λ has. subst HasOpens (sym is) has),
        )

to-server-fate : (u : Setup) (net : Net World) (i moment : ℕ) (wish : Wish) (b : Bool)
    → Fate (net.links i) ((net_to_server (machine u) net i moment wish b).links i) × Shorter (net.links i) ((net_to_server (machine u) net i moment wish b).links i)
to-server-fate u net i moment wish true = rested-fate net net i (refl, refl)
to-server-fate u net i moment wish false = arrives-fate u net i moment wish (net.links i).up refl

at-link-fate : (u : Setup) (q : entries.Entry → Bool) (i : ℕ) (net : Net World) (e : Event) → IsAtLink u q i net e → Fate (net.links i) ((net_step (machine u) net e).links i) × Shorter (net.links i) ((net_step (machine u) net e).links i)
at-link-fate u q i net (ToServer j moment wish) here =
    subst (λ (k : ℕ). Fate (net.links k) ((net_step (machine u) net (ToServer j moment wish)).links k) × Shorter (net.links k) ((net_step (machine u) net (ToServer j moment wish)).links k)) here
    (to-server-fate u net j moment wish (net.links j).end.ended)
at-link-fate u q i net (Quiet j moment wish) here =
    let after : Net World = net_step (machine u) net (Quiet j moment wish) in
    subst (λ (k : ℕ). Fate (net.links k) (after.links k) × Shorter (net.links k) (after.links k)) here (rested-fate net after j (quiet-rested u net j moment wish (net.links j).end.ended (net.links j).end.number))
at-link-fate u q i net (Loses j moment wish) here =
    let after : Net World = net_step (machine u) net (Loses j moment wish) in
    subst (λ (k : ℕ). Fate (net.links k) (after.links k) × Shorter (net.links k) (after.links k)) here (rested-fate net after j (parts-rested u net j moment wish Lost (net.links j).end.ended (net.links j).end.number))
at-link-fate u q i net (Drains j moment wish) here =
    let after : Net World = net_step (machine u) net (Drains j moment wish) in
    subst (λ (k : ℕ). Fate (net.links k) (after.links k) × Shorter (net.links k) (after.links k)) here (rested-fate net after j (parts-rested u net j moment wish Bye (net.links j).end.ended (net.links j).end.number))
at-link-fate u q i net (Others e) here = rested-fate net (net_step (machine u) net (Others e)) i (refl, refl)
at-link-fate u q i net (Commands call) here = absurd here
at-link-fate u q i net ToClient here = absurd here
at-link-fate u q i net (Ends j) here = absurd here
at-link-fate u q i net Breaks here = absurd here

pub fate-along : (u : Setup) (q : entries.Entry → Bool) (i : ℕ) (net : Net World) (es : List Event) → AreAtLink u q i net es → Fate (net.links i) ((net_run (machine u) net es).links i) × Shorter (net.links i) ((net_run (machine u) net es).links i)
fate-along u q i net [] here = rested-fate net net i (refl, refl)
fate-along u q i net (e ∷ es) here =
    let next : Net World = net_step (machine u) net e in
    let last : Net World = net_run (machine u) next es in
    let one = at-link-fate u q i net e here.0 in
    let rest = fate-along u q i next es here.1 in
    let short : length (last.links i).up ≤ length (net.links i).up = let a = one.1 in let b = rest.1 in omega (arith, a, b) in (
      (λ none. elim (one.0 none) [
        | inl still ↦ elim (rest.0 still.0) [
          | inl on ↦ inl (on.0, short, (λ has. still.2 (on.2 has)))
          | inr opened ↦ inr (record { opens = still.2 opened.opens; fewer = let a = opened.fewer in let b = still.1 in omega (arith, a, b) })
        ]
        | inr opened ↦ inr (record { opens = opened.opens; fewer = let a = opened.fewer in let b = rest.1 in omega (arith, a, b) })
      ]),
      short,
    )

-- Where as many requests are left, the link has the number that it had.
pub kept-number : (u : Setup) (q : entries.Entry → Bool) (i : ℕ) (net : Net World) (es : List Event) (l : ℕ) → AreAtLink u q i net es → ((net_run (machine u) net es).links i).up ≡ (net.links i).up
    → ((net_run (machine u) net es).links i).end.number ≡ Some l → (net.links i).end.number ≡ Some l
kept-number u q i net es l here up is = by (net.links i).end.number refl
  where
    by : (o : Option ℕ) → (net.links i).end.number ≡ o → (net.links i).end.number ≡ Some l
    by (Some k) has = has ∙ sym (numbered-along u q i net es here i k has) ∙ is
    by None has = elim ((fate-along u q i net es here).0 has) [
      | inl still ↦ absurd (let e : None ≡ Some l = sym still.0 ∙ is in cc)
      | inr opened ↦ absurd (let a = opened.fewer in let e = ap (λ (rs : List Request). length rs) up in omega (arith, a, e))
    ]

-- ---- requests that were written again

-- none of these was
abbrev pub AreFirst : List Request → Type 0
AreFirst [] = Unit {0}
AreFirst (r ∷ rs) = (is_again_first (r ∷ []) ≡ false) × AreFirst rs

first-first : (rs : List Request) → AreFirst rs → is_again_first rs ≡ false
first-first [] h = refl
first-first (Opens ∷ rs) h = refl
first-first (Asks id body again ∷ rs) h = h.0

arrives-first : (u : Setup) (net : Net World) (i moment : ℕ) (wish : Wish) (rs : List Request) → (net.links i).up ≡ rs → AreFirst (net.links i).up → AreFirst ((net_arrives (machine u) net i moment wish rs).links i).up
arrives-first u net i moment wish [] up h = h
arrives-first u net i moment wish (r ∷ rest) up h =
    let x : Handled World = handles (machine u) net.world moment wish (net.links i).end (net.links i).end.number (heard r) in
    upd net.links i (record { end = x.end; up = rest; down = (net.links i).down ++ replies_of r x.reply }) (λ k (y : Carrier). k ≡ i → AreFirst y.up) (λ same. (subst AreFirst up h).1) (λ k off same. absurd (off same)) i refl

to-server-first : (u : Setup) (net : Net World) (i moment : ℕ) (wish : Wish) (b : Bool) → AreFirst (net.links i).up → AreFirst ((net_to_server (machine u) net i moment wish b).links i).up
to-server-first u net i moment wish true h = h
to-server-first u net i moment wish false h = arrives-first u net i moment wish (net.links i).up refl h

at-link-first : (u : Setup) (q : entries.Entry → Bool) (i : ℕ) (net : Net World) (e : Event) → IsAtLink u q i net e → AreFirst (net.links i).up → AreFirst ((net_step (machine u) net e).links i).up
at-link-first u q i net (ToServer j moment wish) here h =
    subst (λ (k : ℕ). AreFirst (net.links k).up → AreFirst ((net_step (machine u) net (ToServer j moment wish)).links k).up) here (to-server-first u net j moment wish (net.links j).end.ended) h
at-link-first u q i net (Quiet j moment wish) here h =
    subst (λ (k : ℕ). AreFirst (net.links k).up → AreFirst ((net_step (machine u) net (Quiet j moment wish)).links k).up) here (λ x. subst AreFirst (sym (quiet-rested u net j moment wish (net.links j).end.ended (net.links j).end.number).1) x) h
at-link-first u q i net (Loses j moment wish) here h =
    subst (λ (k : ℕ). AreFirst (net.links k).up → AreFirst ((net_step (machine u) net (Loses j moment wish)).links k).up) here (λ x. subst AreFirst (sym (parts-rested u net j moment wish Lost (net.links j).end.ended (net.links j).end.number).1) x) h
at-link-first u q i net (Drains j moment wish) here h =
    subst (λ (k : ℕ). AreFirst (net.links k).up → AreFirst ((net_step (machine u) net (Drains j moment wish)).links k).up) here (λ x. subst AreFirst (sym (parts-rested u net j moment wish Bye (net.links j).end.ended (net.links j).end.number).1) x) h
at-link-first u q i net (Others e) here h = h
at-link-first u q i net (Commands call) here h = absurd here
at-link-first u q i net ToClient here h = absurd here
at-link-first u q i net (Ends j) here h = absurd here
at-link-first u q i net Breaks here h = absurd here

-- ---- what others ask

pub record TokenLaws : Type 0 where
  pub read : WrittenIsRead
  pub tokens : TokensAreCarried

wish-carries : (token : List ℕ) (sent : Sent) (wish : SessionWish) (is : wish_of (request_of 0 sent) ≡ wish) → carries_body token (body_by sent wish is) → wishes_back token wish ≡ true
wish-carries token sent (ComesBack x) is c = bytes_true x token c
wish-carries token sent LogsOut is c = absurd c
wish-carries token sent AsksToken is c = absurd c
wish-carries token sent AsksUnkept is c = absurd c
wish-carries token sent AsksKept is c = absurd c

body-carries : TokenLaws → (u : Setup) (n id : ℕ) (body : Body) → carries_body (session_token u.key n) body → asks_back (session_token u.key n) (ask_of u (Calls id body)) ≡ true
body-carries laws u n id Login c = absurd c
body-carries laws u n id Token c = absurd c
body-carries laws u n id (Rejoin x) c =
    let token : List ℕ = session_token u.key n in
    let same : carried x ≡ token = ap carried c ∙ ap (λ (b : Bool). if b then token else []) (laws.tokens u.key n) in
    ap (wishes_back token) (laws.read u id (Rejoin x)) ∙ bytes_true (carried x) token same
body-carries laws u n id (Does call) c = absurd c

-- a request of the law's that carries a token is one that does
ask-carries : TokenLaws → (u : Setup) (n : ℕ) (a : Ask) → carries (session_token u.key n) a → asks_back (session_token u.key n) (ask_of u a) ≡ true
ask-carries laws u n Open c = absurd c
ask-carries laws u n (Calls id body) c = body-carries laws u n id body c
ask-carries laws u n (Sends id sent) c = wish-carries (session_token u.key n) sent (wish_of (request_of 0 sent)) refl c
ask-carries laws u n Pulse c = absurd c
ask-carries laws u n Bye c = absurd c
ask-carries laws u n Lost c = absurd c
ask-carries laws u n Drain c = absurd c

plain-back : (token : List ℕ) (a : serial.Ask) → asks_back token (plain_ask a) ≡ asks_back token a
plain-back token (ask.Open attention) = refl
plain-back token (ask.Call id write offset payload) = refl
plain-back token ask.Pulse = refl
plain-back token ask.Bye = refl
plain-back token ask.Lost = refl
plain-back token ask.Drain = refl

plain-pulse : (a : serial.Ask) → is_pulse (plain_ask a) ≡ is_pulse a
plain-pulse (ask.Open attention) = refl
plain-pulse (ask.Call id write offset payload) = refl
plain-pulse ask.Pulse = refl
plain-pulse ask.Bye = refl
plain-pulse ask.Lost = refl
plain-pulse ask.Drain = refl

pulse-carries : (u : Setup) (token : List ℕ) (a : Ask) → is_pulse (ask_of u a) ≡ true → carries token a → ⊥
pulse-carries u token Open is c = c
pulse-carries u token (Calls id body) is c = absurd (cc)
pulse-carries u token (Sends id sent) is c = absurd (cc)
pulse-carries u token Pulse is c = c
pulse-carries u token Bye is c = c
pulse-carries u token Lost is c = c
pulse-carries u token Drain is c = c

not-both : (b : Bool) → not b ≡ true → b ≡ true → ⊥
not-both true unset so = absurd (cc)
not-both false unset so = absurd (cc)

-- An entry keeps out of the links and the session; or it is the sweep of an OpenSession.
abbrev pub KeepsOut : List ℕ → List ℕ → entries.Entry → Type 0
KeepsOut numbers token e = (keeps_out numbers token e ≡ true) ⊎ (is_sweep e ≡ true)

others-out : TokenLaws → (u : Setup) (n : ℕ) (numbers : List ℕ) (net : Net World) (e : Entry) (x : entries.Entry)
    → (machine u).is_legal net.world e ≡ true
    → entry_of u e ≡ plain x
    → KeepsOut numbers (session_token u.key n) x
    → NetFits (IsSoundUnder u.key) net
    → ((j l : ℕ) → (net.links j).end.number ≡ Some l → IsAmong l numbers)
    → OthersKeepOutOfNet (machine u) n net e
others-out laws u n numbers net e x legal is (inl out) fits among =
    let token : List ℕ = session_token u.key n in
    let parts = and_parts (not (list_any (λ number. nat_eq number x.link.0) numbers)) (not (asks_back token x.ask)) out in
    let link : e.link ≡ x.link.0 = ap (λ (y : entries.Entry). y.link.0) is in
    let same : asks_back token (ask_of u e.ask) ≡ asks_back token x.ask = ap (λ (y : entries.Entry). asks_back token y.ask) is ∙ plain-back token x.ask in
    record {
      legal = legal;
      apart = λ j there. not-both (list_any (λ number. nat_eq number x.link.0) numbers) parts.0 (subst (λ (l : ℕ). IsAmong l numbers) link (among j e.link there));
      no_token = λ c. not-both (asks_back token x.ask) parts.1 (sym same ∙ ask-carries laws u n e.ask c);
    }
others-out laws u n numbers net e x legal is (inr sweep) fits among =
    let parts = and_parts (nat_eq x.link.0 0) (is_pulse x.ask) sweep in
    let link : e.link ≡ 0 = ap (λ (y : entries.Entry). y.link.0) is ∙ eqb-true x.link.0 0 parts.0 in
    let pulse : is_pulse (ask_of u e.ask) ≡ true = ap (λ (y : entries.Entry). is_pulse y.ask) is ∙ plain-pulse x.ask ∙ parts.1 in
    record {
      legal = legal;
      apart = λ j there. absurd (let z = (subst NumberFits (there ∙ ap Some link) (fits.each j).number).0 in omega (arith, z));
      no_token = pulse-carries u (session_token u.key n) e.ask pulse;
    }

-- ---- the events at a link

-- no request is told want of memory, or none that is under way was written again
abbrev pub Remembers : List Event → List Request → Type 0
Remembers es up = (any_wants_memory es ≡ false) ⊎ AreFirst up

event-allowed : TokenLaws → (u : Setup) (n i : ℕ) (numbers : List ℕ) (q : entries.Entry → Bool) (net : Net World) (e : Event) → IsAtLink u q i net e
    → ((x : entries.Entry) → q x ≡ true → KeepsOut numbers (session_token u.key n) x)
    → NetFits (IsSoundUnder u.key) net
    → ((j l : ℕ) → (net.links j).end.number ≡ Some l → IsAmong l numbers)
    → (wants_memory e ≡ false) ⊎ AreFirst (net.links i).up
    → NetAllowed (machine u) n net e
event-allowed laws u n i numbers q net (Others e) here out fits among memory = others-out laws u n numbers net e here.1.entry here.0 here.1.is (out here.1.entry here.1.passes) fits among
event-allowed laws u n i numbers q net (ToServer j moment wish) here out fits among (inl none) = λ is live. absurd (let f : false ≡ true = sym none ∙ is in cc)
event-allowed laws u n i numbers q net (ToServer j moment wish) here out fits among (inr firsts) = λ is live. first-first (net.links j).up (subst (λ (k : ℕ). AreFirst (net.links k).up) (sym here) firsts)
event-allowed laws u n i numbers q net (Quiet j moment wish) here out fits among memory = tt
event-allowed laws u n i numbers q net (Loses j moment wish) here out fits among memory = tt
event-allowed laws u n i numbers q net (Drains j moment wish) here out fits among memory = tt
event-allowed laws u n i numbers q net (Commands call) here out fits among memory = tt
event-allowed laws u n i numbers q net ToClient here out fits among memory = tt
event-allowed laws u n i numbers q net (Ends j) here out fits among memory = tt
event-allowed laws u n i numbers q net Breaks here out fits among memory = tt

or-none : (a b : Bool) → (a || b) ≡ false → (a ≡ false) × (b ≡ false)
or-none true b e = absurd (cc)
or-none false b e = (refl, e)

first-remembers : (e : Event) (es : List Event) (up : List Request) → Remembers (e ∷ es) up → (wants_memory e ≡ false) ⊎ AreFirst up
first-remembers e es up (inl none) = inl (or-none (wants_memory e) (any_wants_memory es) none).0
first-remembers e es up (inr firsts) = inr firsts

rest-remembers : (u : Setup) (q : entries.Entry → Bool) (i : ℕ) (net : Net World) (e : Event) (es : List Event) → IsAtLink u q i net e → Remembers (e ∷ es) (net.links i).up → Remembers es ((net_step (machine u) net e).links i).up
rest-remembers u q i net e es here (inl none) = inl (or-none (wants_memory e) (any_wants_memory es) none).1
rest-remembers u q i net e es here (inr firsts) = inr (at-link-first u q i net e here firsts)

-- The law allows all of them, where what others ask keeps out of the numbers that links have at their end.
pub along-allowed : TokenLaws → EventsKeepFitting → (u : Setup) (n i : ℕ) (numbers : List ℕ) (q : entries.Entry → Bool) (net : Net World) (es : List Event) → AreAtLink u q i net es
    → ((x : entries.Entry) → q x ≡ true → KeepsOut numbers (session_token u.key n) x)
    → TokenFits net.client.token
    → NetFits (IsSoundUnder u.key) net
    → ((j l : ℕ) → ((net_run (machine u) net es).links j).end.number ≡ Some l → IsAmong l numbers)
    → Remembers es (net.links i).up
    → net.client.row < 1900
    → AllNetAllowed (machine u) n net es
along-allowed laws keeps u n i numbers q net [] here out token fits among memory row = tt
along-allowed laws keeps u n i numbers q net (e ∷ es) here out token fits among memory row =
    let next : Net World = net_step (machine u) net e in
    let client : next.client ≡ net.client = at-link-client u q i net e here.0 in
    let less : next.client.row < 1900 = subst (λ (c : Client). c.row < 1900) (sym client) row in (
      event-allowed laws u n i numbers q net e here.0 out fits (λ j l is. among j l (numbered-along u q i net (e ∷ es) here j l is)) (first-remembers e es (net.links i).up memory),
      less,
      along-allowed laws keeps u n i numbers q next es here.1 out (subst (λ (c : Client). TokenFits c.token) (sym client) token) (keeps u net e token (at-link-legal u q i net e here.0) fits) among
          (rest-remembers u q i net e es here.0 memory) less,
    )

-- one behind the other
pub allowed-append : (u : Setup) (n : ℕ) (net : Net World) (xs ys : List Event) → AllNetAllowed (machine u) n net xs → AllNetAllowed (machine u) n (net_run (machine u) net xs) ys → AllNetAllowed (machine u) n net (xs ++ ys)
allowed-append u n net [] ys a b = b
allowed-append u n net (x ∷ xs) ys a b = (a.0, a.1, allowed-append u n (net_step (machine u) net x) xs ys a.2 b)
