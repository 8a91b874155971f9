-- What a call is told over links.
use Rattle.std.proofs.Common.{◌≡◌, ℕ, ◌+◌, Bool, List, [], ◌∷◌, ◌++◌, length, Option, Some, None, Result, Ok, Err, inl, inr, refl, sym, ap, subst, ◌∙◌, append_assoc}
use Rattle.afp_base.specs.declared.code.Code.{Code}
use Rattle.afp_outside.specs.ends.Link.{LinkState}
use Rattle.afp_calls_grammar.specs.declared.grammar.call.Call.{Call}
use Rattle.afp_client.specs.session.Run.{Result as CallResult}
use Rattle.dsi_frame.specs.Frame.{canonical_frame}
use Rattle.afp_client.specs.session.Takes.{asked}
use Rattle.afp_client.specs.session.State.{Client, ClientState, IsReady, call_frame}
use Rattle.afp_client.specs.declared.session.event.Event.{Event}
use Rattle.afp_client.specs.declared.session.event.Event.TheVariants as events
use Rattle.afp_outside.specs.ends.Dialer.{DialerState, TakesBack}
use Rattle.afp_outside.specs.ends.Whole.{SendsAll}
use Rattle.afp_client.specs.links.History.{Happening, asks, close_session_frame, took, asked_in, results_in, asked_by, result_by, told_to}
use Rattle.afp_client.specs.links.OnLink.{KeepsLink, Start, spot, LiveOn}
use Rattle.afp_client.specs.links.Links.{Part, Over, Hands, dialled, links_of, asked_of, limits_of, results_of, all_asked, all_limits, all_results}
use Rattle.afp_client.specs.declared.links.talk.Limit.{Limit}
use Rattle.afp_client.specs.links.Coming.{ComesBy, ComesTold, CameOn}
use Rattle.afp_client.specs.links.Ends.{HasNone, LeavesNone}
use Rattle.afp_client.specs.links.lemma.Rejoining.{LeavesLink}
use Rattle.afp_client.specs.links.Talk.{AsksTalk, TalkAt, Connects, OpensLeft, TellsCall, TellsLeft, EndsOnLink, EndsTalk, Answers, ClosesLink, LeavesOpen, end_of}
use Rattle.afp_client.specs.declared.links.noted.Noted.{Noted}
use Rattle.afp_client.specs.declared.links.came.Came.{Came}
use Rattle.afp_client.specs.declared.links.came.Came.TheVariants as comes
use Rattle.afp_client.specs.declared.links.links.Answered.{Answered}
use Rattle.afp_client.specs.declared.links.links.TalkEnd.{TalkEnd}
use Rattle.afp_client.specs.declared.links.links.TalkEnd.TheVariants as ends
use Rattle.afp_client.proofs.OfLinks.LinkLemmas.{on-asks}
use Rattle.afp_client.proofs.OfLinks.JoinLemmas.{same_over-same}

-- a reply that is told gives the result of the call that waits
result-told : (was : Option Call) (call : Call) (c : Code) (block : List ℕ) (event : Event) (before : List CallResult) → was ≡ Some call → event ≡ events.Told c block
    → result_by was event before ≡ before ++ record { call = call; code = c; block = block } ∷ []
result-told was call c block event before waits is =
    ap (λ (e : Event). result_by was e before) is ∙ ap (λ (w : Option Call). told_to w c block before) waits

-- behind a reply, and behind an opening that is done, a link goes on
told-keeps : (c : Code) (block : List ℕ) (event : Event) → event ≡ events.Told c block → KeepsLink event
told-keeps c block event is = subst (λ (e : Event). KeepsLink e) (sym is) tt

ready-keeps : (event : Event) → event ≡ events.Ready → KeepsLink event
ready-keeps event is = subst (λ (e : Event). KeepsLink e) (sym is) tt

pub tells-call : {L : Type 0} (state : L → LinkState) (turns : ℕ) (first : Start) (old : DialerState L) (past : List (Part L)) (all asked_all : List Happening) (call : Call) (link : L) (at : ℕ) (c : Code) (block : List ℕ)
    (client : Client) (noted : Noted) (idle cost : ℕ) (new : DialerState L)
    → ((was : Option Call) → all_results was past asked_all ≡ all_results was past all) → ((was : Option Call) → all_asked was past asked_all ≡ Some call)
    → ((was : List Limit) → all_limits was past asked_all ≡ all_limits was past all)
    → LeavesLink state turns first old past asked_all link (comes.Told at c block) client noted idle cost new
    → TellsCall state first old past all call at c block (spot client [] (state link) noted cost) idle new
tells-call {L = L} state turns first old past all asked_all call link at c block client noted idle cost new stay waits unlimited l =
    let told : ComesTold (dialled l.from) l.now at (events.Told c block) client (state link) noted cost = l.comes in
    let b : ComesBy (dialled l.from) l.now (events.Told c block) client (state link) noted cost = told.by in record {
      later = l.later;
      now = took b.mid b.frame b.step ∷ b.before;
      over = record { from = l.from; past_is = l.past_is; on = record { on = b.on; rests = told-keeps c block b.step.event b.is }; in_a_row = l.in_a_row; hands = l.hands };
      results = λ was.
          let w = asked_of was l.later in
          let asked_then : asked_in w b.before ≡ Some call = b.same.asked w ∙ l.same.asked was ∙ waits was in
          ap (λ (rs : List CallResult). results_of was l.later ++ rs) (result-told (asked_in w b.before) call c block b.step.event (results_in w b.before) asked_then b.is)
          ∙ sym (append_assoc (results_of was l.later) (results_in w b.before) (record { call = call; code = c; block = block } ∷ []))
          ∙ ap (λ (rs : List CallResult). rs ++ record { call = call; code = c; block = block } ∷ [])
          (ap (λ (rs : List CallResult). results_of was l.later ++ rs) (b.same.results w) ∙ l.same.results was ∙ stay was);
      limits = λ was. b.same.limits (limits_of was l.later) ∙ l.same.limits was ∙ unlimited was;
      before = b.before;
      behind = (b.mid, b.frame, b.step, refl, b.is);
      stands = told.stands;
    }

pub asks-over : {L : Type 0} (state : L → LinkState) (first : Start) (old : DialerState L) (past : List (Part L)) (all : List Happening) (before after : Client) (call : Call) (out : List ℕ) (link : L)
    (noted : Noted) (cost idle : ℕ) (dialer : DialerState L)
    → (o : Over state first old past all (spot before [] (state link) noted cost) idle dialer) → LiveOn (dialled o.from) (asks before.state call ∷ all) (spot after out (state link) noted cost)
    → Over state first old past (asks before.state call ∷ all) (spot after out (state link) noted cost) idle dialer
asks-over state first old past all before after call out link noted cost idle dialer o on = record { from = o.from; past_is = o.past_is; on = on; in_a_row = o.in_a_row; hands = o.hands }

pub ends-left : {L : Type 0} (state : L → LinkState) (turns : ℕ) (first : Start) (old : DialerState L) (past : List (Part L)) (all : List Happening) (link : L) (came : Came) (end : TalkEnd)
    (client : Client) (noted : Noted) (idle cost : ℕ) (mid new : DialerState L)
    → LeavesLink state turns first old past all link came client noted idle cost mid → end_of came ≡ Some end → TakesBack mid link new
    → EndsOnLink state turns first old past all end new
ends-left {L = L} state turns first old past all link came end client noted idle cost mid new l why gives = record {
  later = l.later;
  now = l.now;
  same = l.same;
  from = l.from;
  past_is = l.past_is;
  came = came;
  client = client;
  link = link;
  noted = noted;
  cost = cost;
  comes_so = l.comes;
  why = why;
  hands = record {
    handed = gives.handed ∙ l.hands.handed;
    back = gives.back ∙ ap (λ (ls : List L). ls ++ link ∷ []) l.hands.back ∙ append_assoc old.back (links_of l.later) (link ∷ []);
    faults = gives.faults ∙ l.hands.faults;
  };
}

-- want of memory before anything was written
pub ends-unasked : {L : Type 0} (state : L → LinkState) (turns : ℕ) (first : Start) (old : DialerState L) (past : List (Part L)) (all : List Happening) (link : L)
    (client : Client) (noted : Noted) (idle cost : ℕ) (mid new : DialerState L)
    → Over state first old past all (spot client [] (state link) noted cost) idle mid → TakesBack mid link new
    → EndsOnLink state turns first old past all ends.Memory new
ends-unasked {L = L} state turns first old past all link client noted idle cost mid new o gives = record {
  later = past;
  now = all;
  same = same_over-same past all;
  from = o.from;
  past_is = o.past_is;
  came = comes.Memory;
  client = client;
  link = link;
  noted = noted;
  cost = cost;
  comes_so = record { now = all; on = o.on.on; same = record { results = λ was. refl; asked = λ was. refl; limits = λ was. refl } };
  why = refl;
  hands = record {
    handed = gives.handed ∙ o.hands.handed;
    back = gives.back ∙ ap (λ (ls : List L). ls ++ link ∷ []) o.hands.back ∙ append_assoc old.back (links_of past) (link ∷ []);
    faults = gives.faults ∙ o.hands.faults;
  };
}

-- the link is left, for the call's result or for an end
pub answers-left : {L : Type 0} (state : L → LinkState) (turns : ℕ) (first : Start) (old : DialerState L) (past : List (Part L)) (all : List Happening) (s : ClientState) (call : Call) (link : L) (came : Came)
    (result : Result (Answered L) TalkEnd) (client : Client) (noted : Noted) (idle cost : ℕ) (mid new : DialerState L)
    → LeavesLink state turns first old past (asks s call ∷ all) link came client noted idle cost mid → TellsLeft mid link came result new
    → Answers state turns first old past all s call result client noted idle cost new
answers-left {L = L} state turns first old past all s call link came (Ok told) client noted idle cost mid new l t =
    let l' = subst (λ (x : Came). LeavesLink state turns first old past (asks s call ∷ all) link x client noted idle cost mid) t.1 l in
    let tells = tells-call state turns first old past all (asks s call ∷ all) call link told.at told.code told.block client noted idle cost mid (λ was. refl) (λ was. refl) (λ was. refl) l' in
    subst (λ (x : DialerState L). TellsCall state first old past all call told.at told.code told.block (spot client [] (state told.link) noted cost) idle x) (sym t.2)
    (subst (λ (x : L). TellsCall state first old past all call told.at told.code told.block (spot client [] (state x) noted cost) idle mid) (sym t.0) tells)
answers-left state turns first old past all s call link came (Err end) client noted idle cost mid new l t =
    inr (inr (ends-left state turns first old past (asks s call ∷ all) link came end client noted idle cost mid new l t.0 t.1))

pub answers-none : {L : Type 0} (state : L → LinkState) (turns : ℕ) (first : Start) (old : DialerState L) (past : List (Part L)) (all : List Happening) (s : ClientState) (call : Call) (end : TalkEnd)
    (client : Client) (noted : Noted) (idle cost : ℕ) (new : DialerState L)
    → LeavesNone state turns first old past (asks s call ∷ all) end cost new → Answers state turns first old past all s call (Err end) client noted idle cost new
answers-none state turns first old past all s call end client noted idle cost new l = inr (inl l)

-- the call's request is to be written
pub asks-call : {L : Type 0} (state : L → LinkState) (first : Start) (old : DialerState L) (past : List (Part L)) (all : List Happening) (before after : Client) (call : Call) (none out : List ℕ) (link : L)
    (noted : Noted) (cost idle : ℕ) (dialer : DialerState L)
    → Over state first old past all (spot before [] (state link) noted cost) idle dialer → IsReady before.state → none ≡ []
    → after ≡ record before { state = asked before.state call } → out ≡ none ++ canonical_frame (call_frame before.state.next_id call)
    → Over state first old past (asks before.state call ∷ all) (spot after out (state link) noted cost) idle dialer
asks-call state first old past all before after call none out link noted cost idle dialer o ready empty is sends =
    asks-over state first old past all before after call out link noted cost idle dialer o
    (on-asks (dialled o.from) all before after call out (state link) noted cost o.on ready is (sends ∙ ap (λ (x : List ℕ). x ++ canonical_frame (call_frame before.state.next_id call)) empty))

pub opens-left : {L : Type 0} (state : L → LinkState) (turns : ℕ) (first : Start) (old : DialerState L) (past : List (Part L)) (link : L) (came : Came) (result : Result L TalkEnd)
    (client : Client) (noted : Noted) (idle cost : ℕ) (mid new : DialerState L)
    → LeavesLink state turns first old past [] link came client noted idle cost mid → OpensLeft mid link came result new
    → Connects state turns first old past result client noted idle cost new
opens-left {L = L} state turns first old past link came (Ok same) client noted idle cost mid new l t =
    let b : ComesBy (dialled l.from) l.now events.Ready client (state link) noted cost = subst (λ (x : Came). CameOn (dialled l.from) turns l.now x client (state link) noted cost) t.1 l.comes in
    let over : Over state first old l.later (took b.mid b.frame b.step ∷ b.before) (spot client [] (state link) noted cost) idle mid =
    record { from = l.from; past_is = l.past_is; on = record { on = b.on; rests = ready-keeps b.step.event b.is }; in_a_row = l.in_a_row; hands = l.hands } in record {
      later = l.later;
      now = took b.mid b.frame b.step ∷ b.before;
      same = record {
        results = λ was. ap (λ (rs : List CallResult). results_of was l.later ++ rs) (ap (λ (e : Event). result_by (asked_in (asked_of was l.later) b.before) e (results_in (asked_of was l.later) b.before)) b.is ∙ b.same.results (asked_of was l.later)) ∙ l.same.results was;
        asked = λ was. ap (λ (e : Event). asked_by (asked_in (asked_of was l.later) b.before) e) b.is ∙ b.same.asked (asked_of was l.later) ∙ l.same.asked was;
        limits = λ was. b.same.limits (limits_of was l.later) ∙ l.same.limits was;
      };
      over = subst (λ (x : DialerState L). Over state first old l.later (took b.mid b.frame b.step ∷ b.before) (spot client [] (state same) noted cost) idle x) (sym t.2)
          (subst (λ (x : L). Over state first old l.later (took b.mid b.frame b.step ∷ b.before) (spot client [] (state x) noted cost) idle mid) (sym t.0) over);
    }
opens-left state turns first old past link came (Err end) client noted idle cost mid new l t =
    inr (ends-left state turns first old past [] link came end client noted idle cost mid new l t.0 t.1)

pub none-now : {L : Type 0} (state : L → LinkState) (turns : ℕ) (first : Start) (old : DialerState L) (past : List (Part L)) (end : TalkEnd) (cost : ℕ) (new : DialerState L)
    → HasNone state turns first old past end cost new → EndsTalk state turns first old past [] end cost new
none-now state turns first old past end cost new h = inl (record { later = past; same = same_over-same past []; none = h })

pub none-later : {L : Type 0} (state : L → LinkState) (turns : ℕ) (first : Start) (old : DialerState L) (past : List (Part L)) (end : TalkEnd) (cost : ℕ) (new : DialerState L)
    → LeavesNone state turns first old past [] end cost new → EndsTalk state turns first old past [] end cost new
none-later state turns first old past end cost new h = inl h

-- the links end behind a call
pub asks-ends : {L : Type 0} (state : L → LinkState) (turns : ℕ) (first : Start) (old : DialerState L) (past : List (Part L)) (all : List Happening) (s : ClientState) (call : Call) (had has : Option L) (link : L) (end : TalkEnd)
    (before client : Client) (was noted : Noted) (was_idle idle was_cost cost : ℕ) (mid new : DialerState L)
    → TalkAt state first old past all had before was was_idle was_cost mid → had ≡ Some link → has ≡ None
    → (Over state first old past all (spot before [] (state link) was was_cost) was_idle mid → Answers state turns first old past all s call (Err end) client noted idle cost new)
    → AsksTalk state turns first old past all s call (Err end) has client noted idle cost new
asks-ends {L = L} state turns first old past all s call had has link end before client was noted was_idle idle was_cost cost mid new at is none f =
    subst (λ (x : Option L). AsksTalk state turns first old past all s call (Err end) x client noted idle cost new) (sym none)
    (f (subst (λ (x : Option L). TalkAt state first old past all x before was was_idle was_cost mid) is at))

-- all dialled links are handed back
hands-all : {L : Type 0} (old mid new : DialerState L) (past : List (Part L)) (link : L) → Hands old (length past + 1) (links_of past) mid → TakesBack mid link new → Hands old (length past + 1) (links_of past ++ link ∷ []) new
hands-all {L = L} old mid new past link h gives = record {
  handed = gives.handed ∙ h.handed;
  back = gives.back ∙ ap (λ (ls : List L). ls ++ link ∷ []) h.back ∙ append_assoc old.back (links_of past) (link ∷ []);
  faults = gives.faults ∙ h.faults;
}

-- CloseSession was written, or a first part of it
pub closes-link : {L : Type 0} (state : L → LinkState) (first : Start) (old : DialerState L) (past : List (Part L)) (all : List Happening) (c : Client) (none out : List ℕ) (link after : L) (noted : Noted) (sent : Bool) (idle cost : ℕ)
    (mid new : DialerState L) → Over state first old past all (spot c [] (state link) noted cost) idle mid → none ≡ [] → out ≡ none ++ canonical_frame close_session_frame → SendsAll (state link) out sent (state after)
    → TakesBack mid after new → ClosesLink state first old past all new
closes-link state first old past all c none out link after noted sent idle cost mid new o empty is s gives = record {
  from = o.from;
  past_is = o.past_is;
  here = spot c [] (state link) noted cost;
  on = o.on;
  all_written = refl;
  sent = sent;
  link = after;
  closes = subst (λ (x : List ℕ). SendsAll (state link) x sent (state after)) (is ∙ ap (λ (x : List ℕ). x ++ canonical_frame close_session_frame) empty) s;
  hands = hands-all old mid new past after o.hands gives;
}

pub leaves-open : {L : Type 0} (state : L → LinkState) (first : Start) (old : DialerState L) (past : List (Part L)) (all : List Happening) (c : Client) (link : L) (noted : Noted) (idle cost : ℕ)
    (mid new : DialerState L) → Over state first old past all (spot c [] (state link) noted cost) idle mid → TakesBack mid link new → LeavesOpen state first old past all new
leaves-open state first old past all c link noted idle cost mid new o gives = record {
  from = o.from;
  past_is = o.past_is;
  here = spot c [] (state link) noted cost;
  link = link;
  at_link = refl;
  on = o.on;
  hands = hands-all old mid new past link o.hands gives;
}
