-- A link, one step further.
use Rattle.std.proofs.Common.{◌≡◌, ℕ, ◌+◌, ◌<◌, Bool, ◌||◌, List, [], ◌∷◌, ◌++◌, take, refl, sym, ap, subst, ◌∙◌, append-nil, append_assoc, length-append, length-take, arith}
use Rattle.std.specs.Prelude.{Option, Some, None, IfSome, option_map}
use Rattle.afp_outside.specs.ends.Link.{Event, piece, quiet, LinkState, ReadsPiece, ReadsQuiet}
use Rattle.dsi_frame.specs.Stream.{IsUnfinished}
use Rattle.afp_outside.specs.ends.Whole.{Sends, SendsPart}
use Rattle.afp_calls_grammar.specs.declared.grammar.call.Call.{Call}
use Rattle.dsi_frame.specs.Frame.{Frame, canonical_frame}
use Rattle.dsi_frame.proofs.StreamLemmas.{spelled_push}
use Rattle.afp_client.specs.session.State.{Client, ClientState, IsReady, call_frame, is_opened}
use Rattle.afp_client.specs.session.Takes.{asked, step, written}
use Rattle.afp_client.specs.session.Happens.{TakesNext}
use Rattle.afp_client.specs.declared.session.event.Event.{Event as ClientEvent}
use Rattle.afp_client.specs.links.History.{Happening, received, was_quiet, read_last, tickled, limited, asks, took, allowed, cost_in, events_in, limits_in, now_in, taken_in, to_write, is_reply, tickle_frame, wrote_by, wrote_in, Leads}
use Rattle.afp_client.specs.links.OnLink.{Affords, IsTickleDue, LiveOn, MayRead, OnLink, Start, spot, wrote_with}
use Rattle.afp_client.specs.links.lemma.Coming.{NotesWrite}
use Rattle.afp_client.specs.declared.links.noted.Noted.{Noted}
use Rattle.afp_client.specs.declared.links.talk.Limit.{Limit}

-- what is told goes on with what happens
told-more : (o n : Option (List Event)) (more all : List Event) → n ≡ option_map (λ es. es ++ more) o → IfSome o (λ es. es ≡ all) → IfSome n (λ es. es ≡ all ++ more)
told-more None n more all e h = subst (λ (x : Option (List Event)). IfSome x (λ es. es ≡ all ++ more)) (sym e) tt
told-more (Some es) n more all e h = subst (λ (x : Option (List Event)). IfSome x (λ es. es ≡ all ++ more)) (sym e) (ap (λ (x : List Event). x ++ more) h)

pub told-same : (o n : Option (List Event)) (all : List Event) → n ≡ o → IfSome o (λ es. es ≡ all) → IfSome n (λ es. es ≡ all)
told-same o n all e h = subst (λ (x : Option (List Event)). IfSome x (λ es. es ≡ all)) (sym e) h

-- a first part of what is to be written was written
pub sent-part : (o n : Option (List ℕ)) (wrote rest out all : List ℕ) → n ≡ option_map (λ before. before ++ wrote) o → wrote ++ rest ≡ out
    → IfSome o (λ w. w ++ out ≡ all) → IfSome n (λ w. w ++ rest ≡ all)
sent-part None n wrote rest out all e cut h = subst (λ (x : Option (List ℕ)). IfSome x (λ w. w ++ rest ≡ all)) (sym e) tt
sent-part (Some w) n wrote rest out all e cut h =
    subst (λ (x : Option (List ℕ)). IfSome x (λ w. w ++ rest ≡ all)) (sym e) (append_assoc w wrote rest ∙ ap (λ (x : List ℕ). w ++ x) cut ∙ h)

-- more is to be written
sent-more : (o : Option (List ℕ)) (out more all : List ℕ) → IfSome o (λ w. w ++ out ≡ all) → IfSome o (λ w. w ++ (out ++ more) ≡ all ++ more)
sent-more None out more all h = tt
sent-more (Some w) out more all h = sym (append_assoc w out more) ∙ ap (λ (x : List ℕ). x ++ more) h

sent-same : (o n : Option (List ℕ)) (out all : List ℕ) → n ≡ o → IfSome o (λ w. w ++ out ≡ all) → IfSome n (λ w. w ++ out ≡ all)
sent-same o n out all e h = subst (λ (x : Option (List ℕ)). IfSome x (λ w. w ++ out ≡ all)) (sym e) h

-- less was spent than may be
pub affords : (start : Start) (all : List Happening) (cost : ℕ) → cost ≡ start.spent + cost_in all → cost < allowed (limits_in start.limits all) → Affords start all
affords start all cost is less = subst (λ (n : ℕ). n < allowed (limits_in start.limits all)) is less

-- what is noted of a write: nothing where nothing is written
pub notes_none : (piece : List ℕ) (now : ℕ) (noted : Noted) → piece ≡ [] → NotesWrite piece now noted noted
notes_none [] now noted e = record { wrote = refl; replied = refl }
notes_none (b ∷ bytes) now noted e = absurd (cc e)

pub notes_some : (piece : List ℕ) (now : ℕ) (old new : Noted) → (piece ≡ [] → ⊥) → new.pulse.last_write ≡ now → new.replied ≡ old.replied → NotesWrite piece now old new
notes_some [] now old new some wrote replied = absurd (some refl)
notes_some (b ∷ bytes) now old new some wrote replied = record { wrote = wrote; replied = replied }

-- a part is written yet of what is to be written: the moment of the write stands
pub still-wrote : (wrote rest out : List ℕ) (now last then : ℕ) → wrote ++ rest ≡ out → then ≡ wrote_with out now last → wrote_with rest now then ≡ wrote_with out now last
still-wrote wrote [] out now last then cut is = is
still-wrote [] (b ∷ rest) [] now last then cut is = absurd (cc cut)
still-wrote [] (b ∷ rest) (d ∷ out) now last then cut is = refl
still-wrote (a ∷ wrote) (b ∷ rest) [] now last then cut is = absurd (cc cut)
still-wrote (a ∷ wrote) (b ∷ rest) (d ∷ out) now last then cut is = refl

-- bytes were written
abbrev pub sends-here : (start : Start) (all : List Happening) (c : Client) (out wrote rest : List ℕ) (link new : LinkState) (noted then_noted : Noted) (cost failed : ℕ)
    → OnLink start all (spot c out link noted cost) → wrote ++ rest ≡ out → Sends link wrote failed new → NotesWrite out link.now noted then_noted → OnLink start all (spot c rest new then_noted cost)
sends-here start all c out wrote rest link new noted then_noted cost failed on cut s n = record {
  leads = on.leads;
  told = told-same link.events new.events (events_in all) s.events on.told;
  filled = on.filled;
  spelled = on.spelled;
  came = on.came;
  place = on.place;
  sent = sent-part link.written new.written wrote rest out (to_write all) s.written cut on.sent;
  replied = n.replied ∙ on.replied;
  cost = on.cost;
  below = on.below;
  within = on.within;
  began = on.began;
  moment = s.now ∙ on.moment;
  last_read = s.last_read ∙ on.last_read;
  last_write = ap (λ (now : ℕ). wrote_with rest now then_noted.pulse.last_write) s.now ∙ still-wrote wrote rest out link.now noted.pulse.last_write then_noted.pulse.last_write cut n.wrote ∙ on.last_write;
  reads = on.reads;
  idles = on.idles;
}

pub on-sends : (start : Start) (all : List Happening) (c : Client) (out wrote rest : List ℕ) (link new : LinkState) (noted then_noted : Noted) (cost failed : ℕ)
    → LiveOn start all (spot c out link noted cost) → wrote ++ rest ≡ out → Sends link wrote failed new → NotesWrite out link.now noted then_noted → LiveOn start all (spot c rest new then_noted cost)
on-sends start all c out wrote rest link new noted then_noted cost failed live cut s n =
    record { on = sends-here start all c out wrote rest link new noted then_noted cost failed live.on cut s n; rests = live.rests }

-- a write failed behind a first part of what is to be written
pub part-here : (start : Start) (all : List Happening) (c : Client) (out : List ℕ) (link new : LinkState) (noted then_noted : Noted) (cost : ℕ)
    → OnLink start all (spot c out link noted cost) → (s : SendsPart link out new) → NotesWrite out link.now noted then_noted → OnLink start all (spot c s.lost new then_noted cost)
part-here start all c out link new noted then_noted cost on s n = sends-here start all c out s.part s.lost link new noted then_noted cost 1 on s.cut s.sends n

-- its fault is counted
pub unsent-counted : (link new : LinkState) (out : List ℕ) → SendsPart link out new → 0 < new.write_faults
unsent-counted link new out s = omega (arith, s.sends.write_faults.2)

-- the moment of a write that a step makes
wrote-step : (w : Option Frame) (now last in_all : ℕ) → now ≡ in_all → (before : ℕ) → last ≡ before → wrote_with (written w) now last ≡ wrote_by w in_all before
wrote-step None now last in_all e before l = l
wrote-step (Some f) now last in_all e before l = e

-- a frame was taken, where all was written
pub on-takes : (start : Start) (all : List Happening) (old new : Client) (out_after : List ℕ) (link : LinkState) (noted now_noted : Noted) (cost : ℕ) (event : ClientEvent)
    → LiveOn start all (spot old [] link noted cost) → (t : TakesNext old [] event new out_after) → now_noted ≡ record noted { replied = is_reply (is_opened old.state.stage) event || noted.replied }
    → OnLink start (took old.state t.frame (step new.state t.writes event) ∷ all) (spot new out_after link now_noted cost)
on-takes start all old new out_after link noted now_noted cost event live t is =
    let on = live.on in record {
      leads = (on.leads, t.live, t.found, t.tells, t.taken, refl);
      told = on.told;
      filled = on.filled ++ t.first;
      spelled = spelled_push on.filled t.first (taken_in all) t.frame on.spelled t.spelling;
      came = on.came ∙ ap (λ (x : List ℕ). on.filled ++ x) t.whole ∙ sym (append_assoc on.filled t.first new.held.rest);
      place = omega (arith, t.place, on.place, length-append on.filled t.first);
      sent = subst (λ (x : List ℕ). IfSome link.written (λ w. w ++ x ≡ to_write all ++ written t.writes)) (sym t.sent) (sent-more link.written [] (written t.writes) (to_write all) on.sent);
      replied = ap (λ (n : Noted). n.replied) is ∙ ap (λ (b : Bool). is_reply (is_opened old.state.stage) event || b) on.replied;
      cost = on.cost;
      below = on.below;
      within = on.within;
      began = on.began;
      moment = on.moment;
      last_read = on.last_read;
      last_write = ap (λ (x : List ℕ). wrote_with x link.now now_noted.pulse.last_write) t.sent ∙ wrote-step t.writes link.now now_noted.pulse.last_write (now_in on.began all) on.moment (wrote_in on.began all)
          (ap (λ (n : Noted). n.pulse.last_write) is ∙ on.last_write);
      reads = on.reads;
      idles = (on.idles, live.rests);
    }

-- all that stood before a read was written
all-sent : (written : Option (List ℕ)) (all : List ℕ) → IfSome written (λ w. w ++ [] ≡ all) → IfSome written (λ w. w ≡ all)
all-sent None all h = tt
all-sent (Some w) all h = sym (append-nil w) ∙ h

-- a read is made where less than a frame is held
may-read : (start : Start) (all : List Happening) (c : Client) (link : LinkState) (noted : Noted) (cost : ℕ) → OnLink start all (spot c [] link noted cost) → IsUnfinished c.held.rest → MayRead link.written all
may-read start all c link noted cost on none = record {
  left = c.held.rest;
  framed = record { filled = on.filled; spelled = on.spelled; whole = on.came; unfinished = none };
  sent = all-sent link.written (to_write all) on.sent;
}

-- bytes came
pub on-receives : (start : Start) (all : List Happening) (old new : Client) (link after : LinkState) (room : List ℕ) (n : ℕ) (noted : Noted) (cost : ℕ)
    → cost < allowed (limits_in start.limits all) → IsUnfinished old.held.rest → LiveOn start all (spot old [] link noted cost) → ReadsPiece link room n after → new.state ≡ old.state → new.held.place ≡ old.held.place
    → new.held.rest ≡ old.held.rest ++ take n room
    → LiveOn start (received link.written after.now (take n room) ∷ all) (spot new [] after noted (cost + n))
on-receives start all old new link after room n noted cost less none live r state place rest =
    let on = live.on in record {
      on = record {
        leads = subst (λ (s : ClientState). Leads start.state all s) (sym state) on.leads;
        told = told-more link.events after.events (piece link.written after.now (take n room) ∷ []) (events_in all) r.events on.told;
        filled = on.filled;
        spelled = on.spelled;
        came = ap (λ (x : List ℕ). x ++ take n room) on.came ∙ append_assoc on.filled old.held.rest (take n room) ∙ ap (λ (x : List ℕ). on.filled ++ x) (sym rest);
        place = place ∙ on.place;
        sent = sent-same link.written after.written [] (to_write all) r.written on.sent;
        replied = on.replied;
        cost = omega (arith, on.cost, length-take n room, r.most);
        below = on.below;
        within = (on.within, affords start all cost on.cost less);
        began = on.began;
        moment = refl;
        last_read = r.last_read;
        last_write = on.last_write;
        reads = (on.reads, may-read start all old link noted cost on none);
        idles = (on.idles, live.rests);
      };
      rests = tt;
    }

-- a quiet came
pub on-quiet : (start : Start) (all : List Happening) (c : Client) (link after : LinkState) (noted : Noted) (cost : ℕ)
    → cost < allowed (limits_in start.limits all) → IsUnfinished c.held.rest → LiveOn start all (spot c [] link noted cost) → ReadsQuiet link after
    → OnLink start (was_quiet link.written after.now ∷ all) (spot c [] after noted (cost + 1))
on-quiet start all c link after noted cost less none live r =
    let on = live.on in record {
      leads = on.leads;
      told = told-more link.events after.events (quiet link.written after.now ∷ []) (events_in all) r.events on.told;
      filled = on.filled;
      spelled = on.spelled;
      came = on.came;
      place = on.place;
      sent = sent-same link.written after.written [] (to_write all) r.written on.sent;
      replied = on.replied;
      cost = omega (arith, on.cost);
      below = on.below;
      within = (on.within, affords start all cost on.cost less);
      began = on.began;
      moment = refl;
      last_read = r.last_read ∙ on.last_read;
      last_write = on.last_write;
      reads = (on.reads, may-read start all c link noted cost on none);
      idles = (on.idles, live.rests);
    }

-- a read was the last: it found the end, or failed
pub on-last : (start : Start) (all : List Happening) (c : Client) (link after : LinkState) (noted : Noted) (cost : ℕ)
    → cost < allowed (limits_in start.limits all) → IsUnfinished c.held.rest → LiveOn start all (spot c [] link noted cost)
    → after.events ≡ link.events → after.written ≡ link.written → after.last_read ≡ link.last_read
    → OnLink start (read_last link.written after.now ∷ all) (spot c [] after noted cost)
on-last start all c link after noted cost less none live events written last =
    let on = live.on in record {
      leads = on.leads;
      told = told-same link.events after.events (events_in all) events on.told;
      filled = on.filled;
      spelled = on.spelled;
      came = on.came;
      place = on.place;
      sent = sent-same link.written after.written [] (to_write all) written on.sent;
      replied = on.replied;
      cost = on.cost;
      below = on.below;
      within = (on.within, affords start all cost on.cost less);
      began = on.began;
      moment = refl;
      last_read = last ∙ on.last_read;
      last_write = on.last_write;
      reads = (on.reads, may-read start all c link noted cost on none);
      idles = (on.idles, live.rests);
    }

-- a Tickle is to be written
pub on-tickles : (start : Start) (all : List Happening) (c : Client) (out : List ℕ) (link : LinkState) (noted : Noted) (cost : ℕ)
    → (on : OnLink start all (spot c [] link noted cost)) → IsTickleDue on.began all → out ≡ [] ++ canonical_frame tickle_frame → LiveOn start (tickled ∷ all) (spot c out link noted cost)
on-tickles start all c out link noted cost on due is = record {
  on = record {
    leads = on.leads;
    told = on.told;
    filled = on.filled;
    spelled = on.spelled;
    came = on.came;
    place = on.place;
    sent = subst (λ (x : List ℕ). IfSome link.written (λ w. w ++ x ≡ to_write all ++ canonical_frame tickle_frame)) (sym is) (sent-more link.written [] (canonical_frame tickle_frame) (to_write all) on.sent);
    replied = on.replied;
    cost = on.cost;
    below = on.below;
    within = on.within;
    began = on.began;
    moment = on.moment;
    last_read = on.last_read;
    last_write = ap (λ (x : List ℕ). wrote_with x link.now noted.pulse.last_write) is ∙ on.moment;
    reads = on.reads;
    idles = (on.idles, due);
  };
  rests = tt;
}

-- a call is asked
pub on-asks : (start : Start) (all : List Happening) (old new : Client) (call : Call) (out : List ℕ) (link : LinkState) (noted : Noted) (cost : ℕ)
    → LiveOn start all (spot old [] link noted cost) → IsReady old.state → new ≡ record old { state = asked old.state call } → out ≡ [] ++ canonical_frame (call_frame old.state.next_id call)
    → LiveOn start (asks old.state call ∷ all) (spot new out link noted cost)
on-asks start all old new call out link noted cost live ready is sends =
    let on = live.on in
    subst (λ (x : Client). LiveOn start (asks old.state call ∷ all) (spot x out link noted cost)) (sym is) record {
      on = record {
        leads = (on.leads, ready, refl);
        told = on.told;
        filled = on.filled;
        spelled = on.spelled;
        came = on.came;
        place = on.place;
        sent = subst (λ (x : List ℕ). IfSome link.written (λ w. w ++ x ≡ to_write all ++ canonical_frame (call_frame old.state.next_id call))) (sym sends)
            (sent-more link.written [] (canonical_frame (call_frame old.state.next_id call)) (to_write all) on.sent);
        replied = on.replied;
        cost = on.cost;
        below = on.below;
        within = on.within;
        began = on.began;
        moment = on.moment;
        last_read = on.last_read;
        last_write = ap (λ (x : List ℕ). wrote_with x link.now noted.pulse.last_write) sends ∙ on.moment;
        reads = on.reads;
        idles = (on.idles, live.rests);
      };
      rests = tt;
    }

-- a limit is set
pub on-limits : (start : Start) (all : List Happening) (c : Client) (link : LinkState) (noted : Noted) (cost : ℕ) (l : Limit) → LiveOn start all (spot c [] link noted cost) → l.spent ≡ cost
    → LiveOn start (limited l ∷ all) (spot c [] link noted cost)
on-limits start all c link noted cost l live is =
    let on = live.on in record {
      on = record {
        leads = on.leads;
        told = on.told;
        filled = on.filled;
        spelled = on.spelled;
        came = on.came;
        place = on.place;
        sent = on.sent;
        replied = on.replied;
        cost = on.cost;
        below = on.below;
        within = (on.within, is ∙ on.cost);
        began = on.began;
        moment = on.moment;
        last_read = on.last_read;
        last_write = on.last_write;
        reads = on.reads;
        idles = (on.idles, live.rests);
      };
      rests = tt;
    }
