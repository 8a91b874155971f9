-- What is done at the client's end.
use Rattle.std.proofs.Common.{◌≡◌, ◌≢◌, ◌∙◌, refl, sym, ap, subst, ℕ, ◌+◌, ◌-◌, ◌<◌, ◌≤◌, zero, suc, min, Bool, true, false, not, List, [], ◌∷◌, ◌++◌, length, length-append, append-nil, take, drop, inl, inr, arith}
use Rattle.std.specs.Prelude.{◌↔◌, Result, Ok, Err, IfOk, IsTrue, OnOk}
use Rattle.std.proofs.lemmas.List.{length-take-le}
use Rattle.afp_calls_grammar.specs.declared.grammar.call.Call as grammar
use Rattle.afp_base.specs.Cached.{Answer}
use Rattle.afp_base.specs.declared.bytes.OutOfMemory.{OutOfMemory}
use Rattle.afp_client.specs.session.Happens.{Happens, TakesNext, StaysAsItIs}
use Rattle.afp_client.specs.session.State.{Client, IsReady, call_frame}
use Rattle.afp_client.specs.session.Takes.{asked, written}
use Rattle.afp_client.specs.declared.session.event.Event.{Event}
use Rattle.afp_client.specs.declared.session.event.Event.TheVariants as events
use Rattle.dsi_frame.proofs.FrameLemmas.{length-spelling}
use Rattle.dsi_frame.specs.Buffered.{buffer_length}
use Rattle.dsi_frame.specs.Frame.{canonical_frame}
use Rattle.once_across_breaks_code.specs.run.Doings.{told_in}
use Rattle.once_across_breaks_live.specs.Happens.{is_last}
use Rattle.once_across_breaks_live.specs.Skips.{CanBeAsked}
use Rattle.once_across_breaks_live.specs.declared.client_end.ClientEnd.{ClientEnd}
use Rattle.once_across_breaks_live.specs.declared.lane.Lane.{Lane}
use Rattle.once_across_breaks_live.specs.lemma.Near.{AsksNear, BringsNear, Near, Takings, TakesAll, TakesOne, came_to, near}

-- what is written comes behind what was, as many bytes came, and of those that are held each frame takes some
record Wrote (event : Event) (old new : Client) (out after : List ℕ) : Type 0 where
  more : List ℕ
  grows : after ≡ out ++ more
  total : came_to new ≡ came_to old
  less : is_last event ≡ false → length new.held.rest < length old.held.rest

taken-wrote : (event : Event) (old new : Client) (out after : List ℕ) → TakesNext old out event new after → Wrote event old new out after
taken-wrote event old new out after t =
    let size = length-spelling t.first t.frame t.spelling in
    let whole : length old.held.rest ≡ length t.first + length new.held.rest = ap length t.whole ∙ length-append t.first new.held.rest in
    record { more = written t.writes; grows = t.sent; total = omega (arith, t.place, whole); less = λ goes. omega (arith, size, whole) }

stays-wrote : (event : Event) (old new : Client) (out after : List ℕ) → (is_last event ≡ false → ⊥) → StaysAsItIs old out new after → Wrote event old new out after
stays-wrote event old new out after ends s = record {
  more = [];
  grows = s.nothing_written ∙ sym (append-nil out);
  total = ap came_to s.client;
  less = λ goes. absurd (ends goes);
}

happens-wrote : (event : Event) (old new : Client) (out after : List ℕ) → event ≢ events.Memory → Happens old out event new after → Wrote event old new out after
happens-wrote events.NotYet old new out after some h = stays-wrote events.NotYet old new out after (λ e. cc e) h.stays
happens-wrote (events.Bad at) old new out after some h = stays-wrote (events.Bad at) old new out after (λ e. cc e) h.stays
happens-wrote events.Memory old new out after some h = absurd (some refl)
happens-wrote events.Step old new out after some h = taken-wrote events.Step old new out after h
happens-wrote events.Ready old new out after some h = taken-wrote events.Ready old new out after h
happens-wrote (events.Told c block) old new out after some h = taken-wrote (events.Told c block) old new out after h
happens-wrote (events.Refused c) old new out after some h = taken-wrote (events.Refused c) old new out after h
happens-wrote (events.Lost c) old new out after some h = taken-wrote (events.Lost c) old new out after h
happens-wrote events.Tickle old new out after some h = taken-wrote events.Tickle old new out after h
happens-wrote (events.Attention word) old new out after some h = taken-wrote (events.Attention word) old new out after h
happens-wrote events.Closed old new out after some h = taken-wrote events.Closed old new out after h

not-on : (b : Bool) → b ≡ true → not b ≡ false
not-on b e = ap not e

pub takes-one : (event : Event) (goes_on : Bool) (old new : Client) (out after : List ℕ) (results told : List Answer) → Happens old out event new after → event ≢ events.Memory → is_last event ≡ not goes_on → told ≡ results ++ told_in event
    → TakesOne goes_on (record { client = old; up = out; results = results }) (record { client = new; up = after; results = told })
takes-one event goes_on old new out after results told h some is same =
    let w = happens-wrote event old new out after some h in
    record {
      event = event;
      is = is;
      taken = record { more = w.more; happens = subst (λ (o : List ℕ). Happens old out event new o) w.grows h; up = w.grows; results = same };
      total = w.total;
      less = λ goes. w.less (is ∙ not-on goes_on goes);
    }

-- ---- one after the other

pub record Leads (first now : Near) : Type 0 where
  pub total : came_to now.client ≡ came_to first.client
  pub then : (es : List Event) (last : Event) (n : Near) → Takings now es last n → (all : List Event) × Takings first all last n

pub leads-here : (n : Near) → Leads n n
leads-here n = record { total = refl; then = λ es last m t. (es, t) }

pub leads-on : (first now next : Near) → Leads first now → TakesOne true now next → Leads first next
leads-on first now next l t = record { total = t.total ∙ l.total; then = λ es last n rest. l.then (t.event ∷ es) last n (next, t.is, t.taken, rest) }

pub leads-all : (first now next : Near) → Leads first now → TakesOne false now next → TakesAll first next
leads-all first now next l t =
    let all = l.then [] t.event next t.taken in
    record { events = all.0; last = t.event; ends = t.is; takings = all.1; total = t.total ∙ l.total }

pub next-is : (r : Result Bool OutOfMemory) (event : Event) (old new : Client) (out after : List ℕ) (results told : List Answer) → Happens old out event new after → IfOk r (λ goes_on. is_last event ≡ not goes_on) → OnOk r (told ≡ results ++ told_in event) → OnOk r (event ≢ events.Memory)
    → IfOk r (λ goes_on. TakesOne goes_on (record { client = old; up = out; results = results }) (record { client = new; up = after; results = told }))
next-is (Ok goes_on) event old new out after results told h is same some = takes-one event goes_on old new out after results told h some is same
next-is (Err e) event old new out after results told h is same some = tt

-- ---- a call is asked

pub asks-unready : (call : grammar.Call) (end : ClientEnd) (lane : Lane) (b : Bool) → (IsTrue b ↔ IsReady end.client.state) → b ≡ false → AsksNear call end lane end lane
asks-unready call end lane b tells off = inr ((λ ready can. let on : b ≡ true = tells.1 ready in absurd (let e : true ≡ false = sym on ∙ off in cc e)), refl, refl)

pub asks-unasked : (call : grammar.Call) (end : ClientEnd) (lane : Lane) (b : Bool) → (IsTrue b ↔ CanBeAsked call) → b ≡ false → AsksNear call end lane end lane
asks-unasked call end lane b tells off = inr ((λ ready can. let on : b ≡ true = tells.1 can in absurd (let e : true ≡ false = sym on ∙ off in cc e)), refl, refl)

pub asks-some : (call : grammar.Call) (r : Result (Unit {0}) OutOfMemory) (end : ClientEnd) (lane : Lane) (new : Client) (up : List ℕ) → IsReady end.client.state → CanBeAsked call → OnOk r (new ≡ record { state = asked end.client.state call; held = end.client.held })
    → OnOk r (up ≡ lane.up ++ canonical_frame (call_frame end.client.state.next_id call))
    → OnOk r (AsksNear call end lane (record { client = new; came = end.came; results = end.results }) (record { wire = lane.wire; fed = lane.fed; up = up; down = lane.down }))
asks-some call (Ok x) end lane new up ready can state frame = inl record {
  ready = ready;
  can = can;
  client_is = state;
  up = ap (λ (u : List ℕ). record { wire = lane.wire; fed = lane.fed; up = u; down = lane.down }) frame;
  came = refl;
  results = refl;
}
asks-some call (Err e) end lane new up ready can state frame = tt

-- ---- bytes come

take-less : (k m : ℕ) (xs : List ℕ) → k ≤ m → take k (take m xs) ≡ take k xs
take-less zero m xs h = refl
take-less (suc k) zero xs h = absurd (omega (arith, h))
take-less (suc k) (suc m) [] h = refl
take-less (suc k) (suc m) (x ∷ xs) h = ap (λ (ys : List ℕ). x ∷ ys) (take-less k m xs (omega (arith, h)))

pub brings-near : (n : ℕ) (end new_end : ClientEnd) (lane : Lane) (fed : Client) (size taken : ℕ) (up down : List ℕ) → size ≡ min (length lane.down) n → taken ≡ min (length (take size lane.down)) (buffer_length - length end.client.held.rest)
    → fed.held.rest ≡ end.client.held.rest ++ take taken (take size lane.down) → fed.held.place ≡ end.client.held.place → fed.state ≡ end.client.state → came_to end.client ≤ end.came → new_end.came ≡ end.came + size → down ≡ drop taken lane.down
    → TakesAll (record { client = fed; up = lane.up; results = end.results.items }) (near new_end up) → BringsNear n end lane new_end (record { wire = lane.wire; fed = lane.fed; up = up; down = down })
brings-near n end new_end lane fed size taken up down size_is taken_is rest place state most came down_is takes =
    let full : length (take size lane.down) ≡ size = length-take-le size lane.down (omega (arith, size_is)) in
    let within : taken ≤ size = omega (arith, taken_is, full) in
    let piece : take taken (take size lane.down) ≡ take taken lane.down = take-less taken size lane.down within in
    record {
      fed = fed;
      size = taken;
      size_is = taken_is ∙ ap (λ (k : ℕ). min k (buffer_length - length end.client.held.rest)) (full ∙ size_is);
      rest = rest ∙ ap (λ (ys : List ℕ). end.client.held.rest ++ ys) piece;
      state = state;
      takes = takes;
      down = down_is;
      wire = refl;
      fed_same = refl;
      most = omega (arith, takes.total, most, came, place, within, ap length rest, length-append end.client.held.rest (take taken (take size lane.down)), length-take-le taken (take size lane.down) (omega (arith, within, full)));
    }
