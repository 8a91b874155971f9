-- A script's client, one call further.
use Rattle.std.proofs.Common.{◌≡◌, ℕ, ◌+◌, ◌<◌, ◌≤◌, ◌^◌, false, List, [], ◌∷◌, ◌++◌, length, Option, Some, None, Ok, Err, refl, sym, ap, subst, ◌∙◌}
use Rattle.std.specs.Prelude.{IsSome}
use Rattle.afp_calls_grammar.specs.declared.grammar.call.Call.{Call}
use Rattle.afp_calls_grammar.specs.declared.grammar.call.Call.TheVariants as calls
use Rattle.afp_base.specs.declared.code.Code.{Code}
use Rattle.afp_client.specs.declared.session.event.Event.{Event}
use Rattle.afp_client.specs.declared.session.event.Event.TheVariants as events
use Rattle.afp_client.specs.session.Run.{Result as CallResult}
use Rattle.afp_client.specs.session.State.{Client, ClientState, IsReady, is_of_opening}
use Rattle.afp_outside.specs.ends.Dialer.{DialerState}
use Rattle.afp_outside.specs.ends.Link.{LinkState}
use Rattle.afp_replies.specs.Replies.{Shows}
use Rattle.afp_replies.specs.declared.reply.Reply.{Reply}
use Rattle.afp_client.specs.links.History.{Happening, allowed, allowed_by, asks, cost_in, limited}
use Rattle.afp_client.specs.links.Links.{Part, Past, all_limits, all_results, limits_of}
use Rattle.afp_client.specs.links.OnLink.{Start}
use Rattle.afp_client.specs.links.Talk.{AsksTalk, ClosesTalk, EndsTalk, IsBehind, LeavesOpen, OpensTalk, TalkAt, TellsEnd}
use Rattle.afp_client.specs.links.Coming.{StandsAt}
use Rattle.afp_client.specs.declared.links.noted.Noted.{Noted}
use Rattle.afp_client.specs.declared.links.links.TalkEnd.{TalkEnd}
use Rattle.afp_client.specs.declared.links.talk.Limit.{Limit}
use Rattle.afp_client.specs.declared.links.talk.Told.{Told}
use Rattle.client_script_lines.specs.calls.Asked.{IsCommand}
use Rattle.client_script_commands.specs.declared.parts.asker.Answer.{Answer}
use Rattle.client_script_commands.specs.parts.Parts.{Exchange}
use Rattle.afp_serial.specs.ReplyKinds.{reply_kind}
use Rattle.client_script_run.specs.asker.Read.{AreRead, IsRead}
use Rattle.client_script_run.specs.asker.Standing.{AnswersBy, before_limits, HasClosed, HasEnded, HasLeft, OpensNone, IsOpen, Stands, TellsBad, TellsOn, ToldAt, first_of, spent_behind, spent_on}
use Rattle.client_script_run.specs.declared.asker.asker.AskEnd.{AskEnd}
use Rattle.client_script_run.specs.declared.asker.asker.AskEnd.TheVariants as ends

-- a command opens no session
pub of-no-opening : (call : Call) → IsCommand call → is_of_opening call ≡ false
of-no-opening (calls.Login version uam rest) h = absurd h
of-no-opening (calls.LoginExt flags version uam name path_kind path rest) h = absurd h
of-no-opening (calls.GetSessionToken kind stamp id) h = absurd h
of-no-opening (calls.DisconnectOldSession kind token) h = absurd h
of-no-opening call h = refl

-- one more was read
pub read-more : (xs : List Exchange) (rs : List CallResult) (x : Exchange) (r : CallResult) → AreRead xs rs → IsRead x r → AreRead (xs ++ x ∷ []) (rs ++ r ∷ [])
read-more [] [] x r h i = (i, tt)
read-more [] (s ∷ rs) x r h i = absurd h
read-more (y ∷ xs) [] x r h i = absurd h
read-more (y ∷ xs) (s ∷ rs) x r h i = (h.0, read-more xs rs x r h.1 i)

-- no limit was set behind a frame that was taken last
still-behind : (event : Event) (before all : List Happening) → IsBehind event before all → IsBehind event before (before_limits all)
still-behind event before all b = (b.0, b.1, b.2, ap before_limits b.3, b.4)

-- a limit takes no frame
told-limited : (xs : List Exchange) (all : List Happening) (l : Limit) (place : ℕ) → ToldAt xs all place → ToldAt xs (limited l ∷ all) place
told-limited [] all l place h = h
told-limited (x ∷ xs) all l place h = h

-- the frame of one more
told-more : (xs : List Exchange) (x : Exchange) (all before : List Happening) (c : Code) (block : List ℕ) (place : ℕ) → IsBehind (events.Told c block) before all → StandsAt before place → ToldAt (xs ++ x ∷ []) all place
told-more [] x all before c block place behind stands = (c, block, before, still-behind (events.Told c block) before all behind, stands)
told-more (y ∷ xs) x all before c block place behind stands = (c, block, before, still-behind (events.Told c block) before all behind, stands)

-- the last limit is the one that holds
allowed-more : (most : ℕ) (limits : List Limit) (l : Limit) → allowed_by most (limits ++ l ∷ []) ≡ l.turns
allowed-more most [] l = refl
allowed-more most (m ∷ limits) l = allowed-more m.turns limits l

-- what was spent on links that all broke, and on one more
spent-past : {L : Type 0} (state : L → LinkState) (first from : Start) (past : List (Part L)) → Past state first past from → from.spent ≡ spent_behind first past
spent-past state first from [] is = ap (λ (s : Start). s.spent) is
spent-past state first from (p ∷ past) is = ap (λ (s : Start). s.spent) is.3

spent-at : {L : Type 0} (state : L → LinkState) (first : Start) (old : DialerState L) (past : List (Part L)) (all : List Happening) (link : Option L) (core : Client) (noted : Noted) (idle cost : ℕ) (dialer : DialerState L)
    → TalkAt state first old past all link core noted idle cost dialer → IsSome link → cost ≡ spent_on first past all
spent-at state first old past all (Some link) core noted idle cost dialer at some =
    at.on.on.cost ∙ ap (λ (n : ℕ). n + 1 + cost_in all) (spent-past state first at.from past at.past_is)
spent-at state first old past all None core noted idle cost dialer at some = absurd (cc some)

-- a link is there, and what was told stands on it
told-on : {L : Type 0} (state : L → LinkState) (turns : ℕ) (first : Start) (old : DialerState L) (past : List (Part L)) (all : List Happening) (s : ClientState) (call : Call) (told : Told) (link : Option L) (core : Client)
    (noted : Noted) (idle cost : ℕ) (dialer : DialerState L)
    → AsksTalk state turns first old past all s call (Ok told) link core noted idle cost dialer
    → (later : List (Part L)) × (now : List Happening) × TalkAt state first old later now link core noted idle cost dialer
    × (all_results None later now ≡ all_results None past all ++ record { call = call; code = told.code; block = told.block } ∷ [])
    × ((xs : List Exchange) (x : Exchange) → ToldAt (xs ++ x ∷ []) now told.at) × (all_limits first.limits later now ≡ all_limits first.limits past all)
told-on state turns first old past all s call told (Some link) core noted idle cost dialer t =
    (t.later, t.now, t.over, t.results None, λ xs x. told-more xs x t.now t.before told.code told.block told.at t.behind t.stands, t.limits first.limits)
told-on state turns first old past all s call told None core noted idle cost dialer t = absurd t

-- an answer was read
pub stays-open : {L : Type 0} (state : L → LinkState) (first : Start) (old : DialerState L) (limits : List Limit) (turns : ℕ) (exchanges after : List Exchange) (call : Call) (answer : Answer) (told : Told) (link : Option L) (core : Client) (out : List ℕ) (size : ℕ)
    (noted : Noted) (idle cost : ℕ) (dialer : DialerState L)
    → TellsOn state first old limits turns exchanges call told link core out size noted idle cost dialer
    → AnswersBy call told (Ok answer) → after ≡ exchanges ++ (record { call = call; answer = answer }) ∷ []
    → IsOpen state first old limits turns after link core out size noted idle cost told.at dialer
stays-open state first old limits turns exchanges after call answer told link core out size noted idle cost dialer t a is =
    let on = told-on state turns first old t.past t.all t.s call told link core noted idle cost dialer t.asks in
    let r : CallResult = record { call = call; code = told.code; block = told.block } in
    record {
      past = on.0;
      all = on.1;
      at = on.2;
      read = subst (λ (xs : List Exchange). AreRead xs (all_results None on.0 on.1)) (sym is)
          (subst (λ (rs : List CallResult). AreRead (exchanges ++ (record { call = call; answer = answer }) ∷ []) rs) (sym on.3)
          (read-more exchanges (all_results None t.past t.all) (record { call = call; answer = answer }) r t.read (record { call = refl; code = a.0; shows = a.1 })));
      told = subst (λ (xs : List Exchange). ToldAt xs on.1 told.at) (sym is) (on.4 exchanges (record { call = call; answer = answer }));
      limits_are = t.limits_are ∙ sym on.5;
      limit = t.limit ∙ ap allowed (sym on.5);
      linked = t.linked;
      empty = t.empty;
      ready = t.ready;
      some = t.some;
      small = t.small;
      below = t.below;
      fits = t.fits;
      within = t.within;
    }

-- the first call that got no answer
first-unanswered : (before after : List Call) (call : Call) → before ≡ [] → after ≡ before ++ call ∷ [] → after ≡ call ∷ []
first-unanswered before after call none more = more ∙ ap (λ (cs : List Call). cs ++ call ∷ []) none

-- no answer was read, and the link was left
bad-told : {L : Type 0} (state : L → LinkState) (first : Start) (old : DialerState L) (limits : List Limit) (turns : ℕ) (exchanges : List Exchange) (call : Call) (told : Told) (link : Option L) (core : Client) (out : List ℕ) (size : ℕ)
    (noted : Noted) (idle cost : ℕ) (dialer new : DialerState L) (past : List (Part L)) (all : List Happening) (s : ClientState) (at : ℕ)
    → AsksTalk state turns first old past all s call (Ok told) link core noted idle cost dialer → (at ≡ told.at) × ((reply : Reply) → Shows reply (reply_kind call) told.code told.block → ⊥)
    → ((f : Start) (d : DialerState L) (p : List (Part L)) (h : List Happening) → TalkAt state f d p h link core noted idle cost dialer → LeavesOpen state f d p h new)
    → TellsBad state first old past all call at new
bad-told state first old limits turns exchanges call told (Some link) core out size noted idle cost dialer new past all s at t bad leaves = record {
  later = t.later;
  now = t.now;
  told = record { call = call; code = told.code; block = told.block };
  call_is = refl;
  results = t.results None;
  limits = t.limits first.limits;
  bad = bad.1;
  before = t.before;
  behind = t.behind;
  stands = subst (λ (n : ℕ). StandsAt t.before n) (sym bad.0) t.stands;
  leaves = leaves first old t.later t.now t.over;
}
bad-told state first old limits turns exchanges call told None core out size noted idle cost dialer new past all s at t bad leaves = absurd t

pub leaves-bad : {L : Type 0} (state : L → LinkState) (first : Start) (old : DialerState L) (limits : List Limit) (turns : ℕ) (exchanges after : List Exchange) (call : Call) (told : Told) (end : AskEnd) (link : Option L) (core : Client) (out : List ℕ) (size : ℕ)
    (noted : Noted) (idle cost : ℕ) (dialer new : DialerState L)
    → TellsOn state first old limits turns exchanges call told link core out size noted idle cost dialer → AnswersBy call told (Err end) → after ≡ exchanges
    → ((f : Start) (d : DialerState L) (p : List (Part L)) (h : List Happening) → TalkAt state f d p h link core noted idle cost dialer → LeavesOpen state f d p h new)
    → (before unanswered : List Call) → before ≡ [] → unanswered ≡ before ++ call ∷ [] → (spent : ℕ) → HasEnded state first old limits after unanswered end spent new
leaves-bad state first old limits turns exchanges after call told (ends.BadReply at) link core out size noted idle cost dialer new t a is leaves before unanswered none more spent = record {
  past = t.past;
  all = t.all;
  read = subst (λ (xs : List Exchange). AreRead xs (all_results None t.past t.all)) (sym is) t.read;
  limits_are = t.limits_are;
  call = call;
  later = [];
  at_call = first-unanswered before unanswered call none more;
  ends = bad-told state first old limits turns exchanges call told link core out size noted idle cost dialer new t.past t.all t.s at t.asks a leaves;
}
leaves-bad state first old limits turns exchanges after call told ends.Memory link core out size noted idle cost dialer new t a is leaves before unanswered none more spent =
    let on = told-on state turns first old t.past t.all t.s call told link core noted idle cost dialer t.asks in
    record {
      past = t.past;
      all = t.all;
      read = subst (λ (xs : List Exchange). AreRead xs (all_results None t.past t.all)) (sym is) t.read;
      limits_are = t.limits_are;
      call = call;
      later = [];
      at_call = first-unanswered before unanswered call none more;
      ends = record { later = on.0; now = on.1; limits_are = t.limits_are ∙ sym on.5; leaves = leaves first old on.0 on.1 on.2 };
    }
leaves-bad state first old limits turns exchanges after call told (ends.Links end) link core out size noted idle cost dialer new t a is leaves before unanswered none more spent = absurd a

-- it is asked no more
pub leaves-unasked : {L : Type 0} (state : L → LinkState) (first : Start) (old : DialerState L) (limits : List Limit) (turns : ℕ) (exchanges : List Exchange) (link : Option L) (core : Client) (out : List ℕ) (size : ℕ)
    (noted : Noted) (idle cost place : ℕ) (dialer new : DialerState L)
    → IsOpen state first old limits turns exchanges link core out size noted idle cost place dialer
    → ((f : Start) (d : DialerState L) (p : List (Part L)) (h : List Happening) → TalkAt state f d p h link core noted idle cost dialer → LeavesOpen state f d p h new)
    → (call : Call) (before unanswered : List Call) → before ≡ [] → unanswered ≡ before ++ call ∷ [] → (spent : ℕ) → HasEnded state first old limits exchanges unanswered ends.Memory spent new
leaves-unasked state first old limits turns exchanges link core out size noted idle cost place dialer new o leaves call before unanswered none more spent = record {
  past = o.past;
  all = o.all;
  read = o.read;
  limits_are = o.limits_are;
  call = call;
  later = [];
  at_call = first-unanswered before unanswered call none more;
  ends = record { later = o.past; now = o.all; limits_are = o.limits_are; leaves = leaves first old o.past o.all o.at };
}

-- its links ended behind a call
ended-on : {L : Type 0} (state : L → LinkState) (turns : ℕ) (first : Start) (old : DialerState L) (past : List (Part L)) (all : List Happening) (s : ClientState) (call : Call) (end : TalkEnd) (link : Option L) (core : Client)
    (noted : Noted) (idle cost : ℕ) (dialer : DialerState L)
    → AsksTalk state turns first old past all s call (Err end) link core noted idle cost dialer → TellsEnd state turns first old past all (asks s call) end cost dialer
ended-on state turns first old past all s call end (Some link) core noted idle cost dialer t = absurd t
ended-on state turns first old past all s call end None core noted idle cost dialer t = t

pub links-end : {L : Type 0} (state : L → LinkState) (first : Start) (old : DialerState L) (limits : List Limit) (turns : ℕ) (exchanges : List Exchange) (link now : Option L) (before core : Client) (out : List ℕ) (size : ℕ)
    (was noted : Noted) (was_idle idle was_cost cost place : ℕ) (dialer new : DialerState L) (call : Call) (end : TalkEnd)
    → (o : IsOpen state first old limits turns exchanges link before out size was was_idle was_cost place dialer)
    → ((f : Start) (d : DialerState L) (p : List (Part L)) (h : List Happening) → turns ≡ allowed (all_limits f.limits p h) → TalkAt state f d p h link before was was_idle was_cost dialer
    → AsksTalk state turns f d p h before.state call (Err end) now core noted idle cost new)
    → (was_unanswered unanswered : List Call) → was_unanswered ≡ [] → unanswered ≡ was_unanswered ++ call ∷ []
    → HasEnded state first old limits exchanges unanswered (ends.Links end) cost new
links-end state first old limits turns exchanges link now before core out size was noted was_idle idle was_cost cost place dialer new call end o tells was_unanswered unanswered none more = record {
  past = o.past;
  all = o.all;
  read = o.read;
  limits_are = o.limits_are;
  call = call;
  later = [];
  at_call = first-unanswered was_unanswered unanswered call none more;
  ends = (
    before.state,
    subst (λ (n : ℕ). TellsEnd state n first old o.past o.all (asks before.state call) end cost new) (o.limit ∙ ap allowed (sym o.limits_are))
        (ended-on state turns first old o.past o.all before.state call end now core noted idle cost new (tells first old o.past o.all o.limit o.at)),
  );
}

-- a first link was opened
opened-on : {L : Type 0} (state : L → LinkState) (turns : ℕ) (first : Start) (old : DialerState L) (link : Option L) (core : Client) (noted : Noted) (idle cost : ℕ) (dialer : DialerState L) (done : Unit {0})
    → OpensTalk state turns first old [] (Ok done) link core noted idle cost dialer
    → (later : List (Part L)) × (now : List Happening) × TalkAt state first old later now link core noted idle cost dialer × (all_results None later now ≡ []) × (all_limits first.limits later now ≡ first.limits)
opened-on state turns first old (Some link) core noted idle cost dialer done o = (o.later, o.now, o.over, o.same.results None, o.same.limits first.limits)
opened-on state turns first old None core noted idle cost dialer done o = absurd o

pub opens-asker : {L : Type 0} (state : L → LinkState) (client value : Client) (before told : DialerState L) (given turns first_turns : ℕ) (limits : List Limit) (exchanges : List Exchange) (was link : Option L) (began core : Client) (out : List ℕ) (size : ℕ)
    (noted_was noted : Noted) (idle_was idle cost_was cost place : ℕ) (dialer_was dialer : DialerState L) (done : Unit {0})
    → value ≡ client → told ≡ before → TalkAt state (first_of client first_turns) before [] [] was began noted_was idle_was cost_was dialer_was
    → ((f : Start) (d : DialerState L) (p : List (Part L)) → given ≡ allowed (limits_of f.limits p) → TalkAt state f d p [] was began noted_was idle_was cost_was dialer_was → OpensTalk state given f d p (Ok done) link core noted idle cost dialer)
    → given ≡ first_turns → turns ≡ first_turns → limits ≡ record { turns = first_turns; spent = 0 } ∷ [] → exchanges ≡ [] → IsSome link → out ≡ [] → IsReady core.state → 0 < size → size < 2 ^ 20 → idle < 8 → core.held.place + length core.held.rest ≤ cost → turns < 2 ^ 63
    → IsOpen state (first_of value first_turns) told limits turns exchanges link core out size noted idle cost place dialer
opens-asker {L = L} state client value before told given turns first_turns limits exchanges was link began core out size noted_was noted idle_was idle cost_was cost place dialer_was dialer done is same at opens given_is turns_is limits_is none linked empty ready some small below fits within =
    let on = opened-on state given (first_of client first_turns) before link core noted idle cost dialer done (opens (first_of client first_turns) before [] given_is at) in
    subst (λ (c : Client). IsOpen state (first_of c first_turns) told limits turns exchanges link core out size noted idle cost place dialer) (sym is)
    (subst (λ (d : DialerState L). IsOpen state (first_of client first_turns) d limits turns exchanges link core out size noted idle cost place dialer) (sym same)
    (record {
      past = on.0;
      all = on.1;
      at = on.2;
      read = subst (λ (xs : List Exchange). AreRead xs (all_results None on.0 on.1)) (sym none) (subst (λ (rs : List CallResult). AreRead [] rs) (sym on.3) tt);
      told = subst (λ (xs : List Exchange). ToldAt xs on.1 place) (sym none) tt;
      limits_are = limits_is ∙ sym on.4;
      limit = turns_is ∙ ap allowed (sym on.4);
      linked = linked;
      empty = empty;
      ready = ready;
      some = some;
      small = small;
      below = below;
      fits = fits;
      within = within;
    }))

-- while it has not ended
pub stands-open : {L : Type 0} (state : L → LinkState) (first : Start) (old : DialerState L) (limits : List Limit) (turns : ℕ) (exchanges : List Exchange) (unanswered : List Call) (ended : Option AskEnd) (link : Option L) (core : Client) (out : List ℕ) (size : ℕ)
    (noted : Noted) (idle cost place : ℕ) (dialer : DialerState L) → ended ≡ None → unanswered ≡ [] → IsOpen state first old limits turns exchanges link core out size noted idle cost place dialer
    → Stands state first old limits turns exchanges unanswered ended link core out size noted idle cost place dialer
stands-open state first old limits turns exchanges unanswered ended link core out size noted idle cost place dialer none answered o =
    subst (λ (e : Option AskEnd). Stands state first old limits turns exchanges unanswered e link core out size noted idle cost place dialer) (sym none) (answered, o)

-- another limit is set
pub limits-open : {L : Type 0} (state : L → LinkState) (first : Start) (old : DialerState L) (limits now_limits : List Limit) (turns now : ℕ) (exchanges : List Exchange) (link : Option L) (core : Client) (out : List ℕ) (size : ℕ)
    (noted : Noted) (idle cost place : ℕ) (dialer : DialerState L) → IsOpen state first old limits turns exchanges link core out size noted idle cost place dialer → now < 2 ^ 63
    → ((f : Start) (d : DialerState L) (p : List (Part L)) (h : List Happening) → IsSome link → TalkAt state f d p h link core noted idle cost dialer
    → TalkAt state f d p (limited (record { turns = now; spent = cost }) ∷ h) link core noted idle cost dialer)
    → now_limits ≡ limits ++ (record { turns = now; spent = cost }) ∷ []
    → IsOpen state first old now_limits now exchanges link core out size noted idle cost place dialer
limits-open state first old limits now_limits turns now exchanges link core out size noted idle cost place dialer o within limits_at is = record {
  past = o.past;
  all = limited (record { turns = now; spent = cost }) ∷ o.all;
  at = limits_at first old o.past o.all o.linked o.at;
  read = o.read;
  told = told-limited exchanges o.all (record { turns = now; spent = cost }) place o.told;
  limits_are = is ∙ ap (λ (ls : List Limit). ls ++ (record { turns = now; spent = cost }) ∷ []) o.limits_are;
  limit = sym (allowed-more 0 (all_limits first.limits o.past o.all) (record { turns = now; spent = cost }));
  linked = o.linked;
  empty = o.empty;
  ready = o.ready;
  some = o.some;
  small = o.small;
  below = o.below;
  fits = o.fits;
  within = within;
}

-- no first link was opened
pub opens-none : {L : Type 0} (state : L → LinkState) (given turns : ℕ) (first : Start) (old : DialerState L) (end : TalkEnd) (link : Option L) (core : Client) (noted : Noted) (idle cost : ℕ) (dialer : DialerState L)
    → OpensTalk state given first old [] (Err end) link core noted idle cost dialer → given ≡ turns → OpensNone state turns first old (ends.Links end) dialer
opens-none state given turns first old end (Some link) core noted idle cost dialer o e = absurd o
opens-none state given turns first old end None core noted idle cost dialer o e = (cost, subst (λ (n : ℕ). EndsTalk state n first old [] [] end cost dialer) e o)

-- the link is left, with CloseSession or without
pub closes-on : {L : Type 0} (state : L → LinkState) (first : Start) (old : DialerState L) (limits : List Limit) (turns : ℕ) (exchanges : List Exchange) (link : Option L) (core : Client) (out : List ℕ) (size : ℕ)
    (noted : Noted) (idle cost place : ℕ) (dialer new : DialerState L) (done : Unit {0})
    → IsOpen state first old limits turns exchanges link core out size noted idle cost place dialer
    → ((f : Start) (d : DialerState L) (p : List (Part L)) (h : List Happening) → TalkAt state f d p h link core noted idle cost dialer → ClosesTalk state f d p h (Ok done) new)
    → HasClosed state first old limits exchanges cost new
closes-on state first old limits turns exchanges link core out size noted idle cost place dialer new done o closes = record {
  past = o.past;
  all = o.all;
  read = o.read;
  spent = spent-at state first old o.past o.all link core noted idle cost dialer o.at o.linked;
  limits_are = o.limits_are;
  closes = closes first old o.past o.all o.at;
}

pub leaves-on : {L : Type 0} (state : L → LinkState) (first : Start) (old : DialerState L) (limits : List Limit) (turns : ℕ) (exchanges : List Exchange) (link : Option L) (core : Client) (out : List ℕ) (size : ℕ)
    (noted : Noted) (idle cost place : ℕ) (dialer new : DialerState L)
    → IsOpen state first old limits turns exchanges link core out size noted idle cost place dialer
    → ((f : Start) (d : DialerState L) (p : List (Part L)) (h : List Happening) → TalkAt state f d p h link core noted idle cost dialer → LeavesOpen state f d p h new)
    → HasLeft state first old limits exchanges cost place new
leaves-on state first old limits turns exchanges link core out size noted idle cost place dialer new o leaves = record {
  past = o.past;
  all = o.all;
  read = o.read;
  told = o.told;
  spent = spent-at state first old o.past o.all link core noted idle cost dialer o.at o.linked;
  limits_are = o.limits_are;
  leaves = leaves first old o.past o.all o.at;
}
