-- What the next event leads to.
use Rattle.std.proofs.Common.{◌≡◌, ℕ, Bool, true, false, ◌||◌, List, [], ◌∷◌, length, Option, None, refl, sym, ap, subst, ◌∙◌, append-nil, length-append, arith}
use Rattle.afp_outside.specs.ends.Link.{LinkState}
use Rattle.afp_outside.specs.ends.Whole.{Sends, SendsPart}
use Rattle.dsi_frame.specs.Frame.{Frame}
use Rattle.afp_client.specs.session.State.{Client, ClientState, IsReady, is_opened}
use Rattle.afp_client.specs.session.Takes.{step, written}
use Rattle.afp_client.specs.session.Happens.{Happens, TakesNext, StaysAsItIs, IsBadNext}
use Rattle.afp_client.specs.declared.session.event.Event.{Event}
use Rattle.afp_client.specs.declared.session.event.Event.TheVariants as events
use Rattle.afp_client.specs.links.History.{Happening, took, is_reply}
use Rattle.afp_client.specs.links.OnLink.{KeepsLink, OnLink, Start, spot, LiveOn, closed_by_server, failed_write}
use Rattle.afp_client.specs.links.Coming.{Same, GoesOn, StaysOn, ComesBy, BreaksLink}
use Rattle.afp_client.specs.links.lemma.Coming.{NextOn, NotesWrite, next_of, opened_next}
use Rattle.afp_client.specs.declared.links.noted.Noted.{Noted}
use Rattle.afp_base.specs.declared.code.Code.{Code}
use Rattle.afp_client.specs.declared.links.came.Came.TheVariants as comes
use Rattle.afp_client.specs.declared.links.came.Next.TheVariants as nexts
use Rattle.afp_client.proofs.OfLinks.LinkLemmas.{on-sends, part-here, sends-here, unsent-counted, on-takes}
use Rattle.afp_client.proofs.OfLinks.TellLemmas.{step_alone, told_ready}

-- all is written
pub on-sent : (start : Start) (all : List Happening) (c : Client) (out : List ℕ) (link after : LinkState) (noted then_noted : Noted) (cost : ℕ)
    → LiveOn start all (spot c out link noted cost) → Sends link out 0 after → NotesWrite out link.now noted then_noted → LiveOn start all (spot c [] after then_noted cost)
on-sent start all c out link after noted then_noted cost live s n = on-sends start all c out out [] link after noted then_noted cost 0 live (append-nil out) s n

-- nothing happens
pub stays-on : (start : Start) (all : List Happening) (old new : Client) (out : List ℕ) (link after : LinkState) (noted now_noted then_noted : Noted) (cost : ℕ)
    → LiveOn start all (spot old [] link noted cost) → StaysAsItIs old [] new out → now_noted ≡ noted → Sends link out 0 after → NotesWrite out link.now now_noted then_noted → GoesOn start all new after then_noted cost
stays-on start all old new out link after noted now_noted then_noted cost live s same sends n = record {
  now = all;
  on = on-sent start all new [] link after noted then_noted cost (subst (λ (c : Client). LiveOn start all (spot c [] link noted cost)) (sym s.client) live)
      (subst (λ (x : List ℕ). Sends link x 0 after) s.nothing_written sends)
      (subst (λ (m : Noted). NotesWrite [] link.now m then_noted) same (subst (λ (x : List ℕ). NotesWrite x link.now now_noted then_noted) s.nothing_written n));
  same = record { results = λ was. refl; asked = λ was. refl; limits = λ was. refl };
}

stays-for-memory : (start : Start) (all : List Happening) (c : Client) (link : LinkState) (noted : Noted) (cost : ℕ) → GoesOn start all c link noted cost → StaysOn start all c link noted cost
stays-for-memory start all c link noted cost h = record { now = h.now; on = h.on.on; same = h.same }

-- a reply to a command is noted
abbrev pub notes : Client → Event → Noted → Noted
notes old event noted = record noted { replied = is_reply (is_opened old.state.stage) event || noted.replied }

took-on : (start : Start) (all : List Happening) (old new : Client) (out : List ℕ) (link after : LinkState) (noted now_noted then_noted : Noted) (cost : ℕ) (event : Event)
    → LiveOn start all (spot old [] link noted cost) → (t : TakesNext old [] event new out) → now_noted ≡ notes old event noted → Sends link out 0 after → NotesWrite out link.now now_noted then_noted
    → OnLink start (took old.state t.frame (step new.state t.writes event) ∷ all) (spot new [] after then_noted cost)
took-on start all old new out link after noted now_noted then_noted cost event live t is sends n =
    sends-here start (took old.state t.frame (step new.state t.writes event) ∷ all) new out out [] link after now_noted then_noted cost 0
    (on-takes start all old new out link noted now_noted cost event live t is) (append-nil out) sends n

comes-on : (start : Start) (all : List Happening) (old new : Client) (out : List ℕ) (link after : LinkState) (noted now_noted then_noted : Noted) (cost : ℕ) (event : Event)
    → LiveOn start all (spot old [] link noted cost) → (t : TakesNext old [] event new out) → now_noted ≡ notes old event noted → Sends link out 0 after → NotesWrite out link.now now_noted then_noted
    → ComesBy start all event new after then_noted cost
comes-on start all old new out link after noted now_noted then_noted cost event live t is sends n =
    let here = took-on start all old new out link after noted now_noted then_noted cost event live t is sends n in record {
      before = all;
      mid = old.state;
      frame = t.frame;
      step = step new.state t.writes event;
      on = here;
      is = refl;
      same = record { results = λ was. refl; asked = λ was. refl; limits = λ was. refl };
    }

-- events that bring no result
abbrev pub IsQuietEvent : Event → Type 0
IsQuietEvent (events.Told c block) = ⊥
IsQuietEvent event = Unit {0}

same-took : (all : List Happening) (s : ClientState) (f : Frame) (t : ClientState) (writes : Option Frame) (event : Event) → IsQuietEvent event → Same all (took s f (step t writes event) ∷ all)
same-took all s f t writes events.NotYet q = record { results = λ was. refl; asked = λ was. refl; limits = λ was. refl }
same-took all s f t writes (events.Bad at) q = record { results = λ was. refl; asked = λ was. refl; limits = λ was. refl }
same-took all s f t writes events.Memory q = record { results = λ was. refl; asked = λ was. refl; limits = λ was. refl }
same-took all s f t writes events.Step q = record { results = λ was. refl; asked = λ was. refl; limits = λ was. refl }
same-took all s f t writes events.Ready q = record { results = λ was. refl; asked = λ was. refl; limits = λ was. refl }
same-took all s f t writes (events.Told c block) q = absurd q
same-took all s f t writes (events.Refused c) q = record { results = λ was. refl; asked = λ was. refl; limits = λ was. refl }
same-took all s f t writes (events.Lost c) q = record { results = λ was. refl; asked = λ was. refl; limits = λ was. refl }
same-took all s f t writes events.Tickle q = record { results = λ was. refl; asked = λ was. refl; limits = λ was. refl }
same-took all s f t writes (events.Attention word) q = record { results = λ was. refl; asked = λ was. refl; limits = λ was. refl }
same-took all s f t writes events.Closed q = record { results = λ was. refl; asked = λ was. refl; limits = λ was. refl }

goes-on : (start : Start) (all : List Happening) (old new : Client) (out : List ℕ) (link after : LinkState) (noted now_noted then_noted : Noted) (cost : ℕ) (event : Event) → IsQuietEvent event → KeepsLink event
    → LiveOn start all (spot old [] link noted cost) → (t : TakesNext old [] event new out) → now_noted ≡ notes old event noted → Sends link out 0 after → NotesWrite out link.now now_noted then_noted
    → GoesOn start all new after then_noted cost
goes-on start all old new out link after noted now_noted then_noted cost event q keeps on t is sends n = record {
  now = took old.state t.frame (step new.state t.writes event) ∷ all;
  on = record { on = took-on start all old new out link after noted now_noted then_noted cost event on t is sends n; rests = keeps };
  same = same-took all old.state t.frame new.state t.writes event q;
}

ready-on : (start : Start) (turns : ℕ) (all : List Happening) (old new : Client) (out : List ℕ) (link after : LinkState) (noted now_noted then_noted : Noted) (cost : ℕ) (opening : Bool)
    → LiveOn start all (spot old [] link noted cost) → (t : TakesNext old [] events.Ready new out) → now_noted ≡ notes old events.Ready noted → Sends link out 0 after → NotesWrite out link.now now_noted then_noted
    → NextOn start turns all (opened_next opening) new after then_noted cost
ready-on start turns all old new out link after noted now_noted then_noted cost true on t is sends n = comes-on start all old new out link after noted now_noted then_noted cost events.Ready on t is sends n
ready-on start turns all old new out link after noted now_noted then_noted cost false on t is sends n = goes-on start all old new out link after noted now_noted then_noted cost events.Ready tt tt on t is sends n

pub next-on : (start : Start) (turns : ℕ) (all : List Happening) (old new : Client) (out : List ℕ) (link after : LinkState) (noted now_noted then_noted : Noted) (cost : ℕ) (opening : Bool) (at : ℕ) (event : Event)
    → at ≡ old.held.place → LiveOn start all (spot old [] link noted cost) → Happens old [] event new out → now_noted ≡ notes old event noted → Sends link out 0 after → NotesWrite out link.now now_noted then_noted
    → NextOn start turns all (next_of opening at event) new after then_noted cost
next-on start turns all old new out link after noted now_noted then_noted cost opening at events.NotYet place on h is sends n =
    stays-on start all old new out link after noted now_noted then_noted cost on h.stays is sends n
next-on start turns all old new out link after noted now_noted then_noted cost opening at (events.Bad bad_at) place on h is sends n = record {
  goes_on = stays-on start all old new out link after noted now_noted then_noted cost on h.stays is sends n;
  place = h.place ∙ ap (λ (c : Client). c.held.place) (sym h.stays.client);
  bad = subst (λ (c : Client). IsBadNext c) (sym h.stays.client) h.bad;
}
next-on start turns all old new out link after noted now_noted then_noted cost opening at events.Memory place on h is sends n =
    stays-for-memory start all new after then_noted cost (stays-on start all old new out link after noted now_noted then_noted cost on h is sends n)
next-on start turns all old new out link after noted now_noted then_noted cost opening at events.Step place on h is sends n = goes-on start all old new out link after noted now_noted then_noted cost events.Step tt tt on h is sends n
next-on start turns all old new out link after noted now_noted then_noted cost opening at events.Ready place on h is sends n = ready-on start turns all old new out link after noted now_noted then_noted cost opening on h is sends n
next-on start turns all old new out link after noted now_noted then_noted cost opening at (events.Told c block) place on h is sends n = record {
  by = record {
    before = all;
    mid = old.state;
    frame = h.frame;
    step = step new.state h.writes (events.Told c block);
    on = took-on start all old new out link after noted now_noted then_noted cost (events.Told c block) on h is sends n;
    is = refl;
    same = record { results = λ was. refl; asked = λ was. refl; limits = λ was. refl };
  };
  stands = record { filled = on.on.filled; spelled = on.on.spelled; place = place ∙ on.on.place };
}
next-on start turns all old new out link after noted now_noted then_noted cost opening at (events.Refused c) place on h is sends n = comes-on start all old new out link after noted now_noted then_noted cost (events.Refused c) on h is sends n
next-on start turns all old new out link after noted now_noted then_noted cost opening at (events.Lost c) place on h is sends n = comes-on start all old new out link after noted now_noted then_noted cost (events.Lost c) on h is sends n
next-on start turns all old new out link after noted now_noted then_noted cost opening at events.Tickle place on h is sends n = goes-on start all old new out link after noted now_noted then_noted cost events.Tickle tt tt on h is sends n
next-on start turns all old new out link after noted now_noted then_noted cost opening at (events.Attention word) place on h is sends n = goes-on start all old new out link after noted now_noted then_noted cost (events.Attention word) tt tt on h is sends n
next-on start turns all old new out link after noted now_noted then_noted cost opening at events.Closed place on h is sends n = record {
  now = took old.state h.frame (step new.state h.writes events.Closed) ∷ all;
  lost = [];
  on = took-on start all old new out link after noted now_noted then_noted cost events.Closed on h is sends n;
  same = same-took all old.state h.frame new.state h.writes events.Closed tt;
  broke = closed_by_server refl refl;
}

-- a write failed: something was to be written
pub nothing-lost : (link after : LinkState) (out : List ℕ) → out ≡ [] → SendsPart link out after → ⊥
nothing-lost link after out is s = omega (arith, ap length is, ap length s.cut, length-append s.part s.lost, s.some_lost)

breaks-took : (start : Start) (all : List Happening) (old new : Client) (out : List ℕ) (link after : LinkState) (noted now_noted then_noted : Noted) (cost : ℕ) (event : Event) → IsQuietEvent event
    → LiveOn start all (spot old [] link noted cost) → (t : TakesNext old [] event new out) → now_noted ≡ notes old event noted → SendsPart link out after → NotesWrite out link.now now_noted then_noted
    → BreaksLink start all new after then_noted cost
breaks-took start all old new out link after noted now_noted then_noted cost event q on t is s n = record {
  now = took old.state t.frame (step new.state t.writes event) ∷ all;
  lost = s.lost;
  on = part-here start (took old.state t.frame (step new.state t.writes event) ∷ all) new out link after now_noted then_noted cost
      (on-takes start all old new out link noted now_noted cost event on t is) s n;
  same = same-took all old.state t.frame new.state t.writes event q;
  broke = failed_write (unsent-counted link after out s) s.some_lost;
}

pub next-unsent : (start : Start) (all : List Happening) (old new : Client) (out : List ℕ) (link after : LinkState) (noted now_noted then_noted : Noted) (cost : ℕ) (event : Event)
    → LiveOn start all (spot old [] link noted cost) → Happens old [] event new out → now_noted ≡ notes old event noted → SendsPart link out after → NotesWrite out link.now now_noted then_noted
    → BreaksLink start all new after then_noted cost
next-unsent start all old new out link after noted now_noted then_noted cost events.NotYet on h is s n = absurd (nothing-lost link after out h.stays.nothing_written s)
next-unsent start all old new out link after noted now_noted then_noted cost (events.Bad at) on h is s n = absurd (nothing-lost link after out h.stays.nothing_written s)
next-unsent start all old new out link after noted now_noted then_noted cost events.Memory on h is s n = absurd (nothing-lost link after out h.nothing_written s)
next-unsent start all old new out link after noted now_noted then_noted cost events.Step on h is s n = breaks-took start all old new out link after noted now_noted then_noted cost events.Step tt on h is s n
next-unsent start all old new out link after noted now_noted then_noted cost events.Ready on h is s n = breaks-took start all old new out link after noted now_noted then_noted cost events.Ready tt on h is s n
next-unsent start all old new out link after noted now_noted then_noted cost (events.Told c block) on h is s n =
    let alone : h.writes ≡ None = (step_alone old.state h.found h.frame (step new.state h.writes (events.Told c block)) h.taken).0 in
    absurd (nothing-lost link after out (h.sent ∙ ap written alone) s)
next-unsent start all old new out link after noted now_noted then_noted cost (events.Refused c) on h is s n = breaks-took start all old new out link after noted now_noted then_noted cost (events.Refused c) tt on h is s n
next-unsent start all old new out link after noted now_noted then_noted cost (events.Lost c) on h is s n = breaks-took start all old new out link after noted now_noted then_noted cost (events.Lost c) tt on h is s n
next-unsent start all old new out link after noted now_noted then_noted cost events.Tickle on h is s n = breaks-took start all old new out link after noted now_noted then_noted cost events.Tickle tt on h is s n
next-unsent start all old new out link after noted now_noted then_noted cost (events.Attention word) on h is s n = breaks-took start all old new out link after noted now_noted then_noted cost (events.Attention word) tt on h is s n
next-unsent start all old new out link after noted now_noted then_noted cost events.Closed on h is s n = breaks-took start all old new out link after noted now_noted then_noted cost events.Closed tt on h is s n

-- behind a result the client can be asked
pub next-ready : (opening : Bool) (place : ℕ) (old new : Client) (out out_after : List ℕ) (event : Event) (at : ℕ) (c : Code) (block : List ℕ) → Happens old out event new out_after → next_of opening place event ≡ nexts.Comes (comes.Told at c block) → IsReady new.state
next-ready opening place old new out out_after (events.Told d bytes) at c block h e = told_ready old new out out_after d bytes h
next-ready opening place old new out out_after events.NotYet at c block h e = cc
next-ready opening place old new out out_after (events.Bad bad_at) at c block h e = cc
next-ready opening place old new out out_after events.Memory at c block h e = cc
next-ready opening place old new out out_after events.Step at c block h e = cc
next-ready true place old new out out_after events.Ready at c block h e = cc
next-ready false place old new out out_after events.Ready at c block h e = cc
next-ready opening place old new out out_after (events.Refused d) at c block h e = cc
next-ready opening place old new out out_after (events.Lost d) at c block h e = cc
next-ready opening place old new out out_after events.Tickle at c block h e = cc
next-ready opening place old new out out_after (events.Attention word) at c block h e = cc
next-ready opening place old new out out_after events.Closed at c block h e = cc
