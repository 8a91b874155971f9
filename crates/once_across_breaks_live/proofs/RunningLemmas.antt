-- What comes of a happening.
use Rattle.std.proofs.Common.{◌≡◌, ◌≢◌, ◌∙◌, refl, sym, ap, subst, ℕ, ◌+◌, ◌-◌, ◌<◌, ◌≤◌, zero, suc, Bool, true, List, [], ◌∷◌, ◌++◌, length, min, take, drop, get_or, Option, Some, None, inl, inr, arith}
use Rattle.std.specs.Prelude.{map, slice_get, slice_set}
use Rattle.std.specs.List.{AllByRecursion}
use Rattle.std.proofs.Math.Seq.{drop-cons}
use Rattle.std.proofs.lemmas.List.{drop_min, take-append-drop, take-append-le, take_all}
use Rattle.afp_base.specs.declared.ids.LinkNumber.{LinkNumber}
use Rattle.afp_calls_grammar.specs.declared.grammar.call.Call as grammar
use Rattle.afp_client.specs.session.Happens as client
use Rattle.afp_client.specs.session.Opening.{open_session_frame}
use Rattle.afp_client.specs.session.State.{Client, IsReady, call_frame}
use Rattle.afp_client.specs.session.Takes.{asked, begun, broken}
use Rattle.afp_client.specs.declared.session.event.Event.{Event}
use Rattle.afp_client.specs.declared.session.login.Login as logins
use Rattle.afp_serial.specs.Shown.{Asked, IsSoundShown, Shown}
use Rattle.afp_serial.specs.declared.ask.Ask as serial
use Rattle.afp_serial.specs.declared.ask.Told as tolds
use Rattle.afp_server.specs.link.Tally.{no_tally}
use Rattle.afp_server.specs.link.Wire.{WireState}
use Rattle.afp_server.specs.declared.link.stage.Stage.TheVariants as stages
use Rattle.dsi_frame.specs.Buffered.{Buffered, buffer_length}
use Rattle.dsi_frame.specs.Deframe.{GivenOut}
use Rattle.dsi_session.specs.RequestIds.{first_request_id}
use Rattle.dsi_frame.specs.Frame.{canonical_frame}
use Rattle.once_across_breaks_code.specs.client.Related.{made_client}
use Rattle.once_across_breaks_code.specs.run.Doings.{Doing, IsTaken, is_displaced, told_in}
use Rattle.once_across_breaks_code.specs.run.Doings as doings
use Rattle.once_across_breaks_code.specs.run.Things as things
use Rattle.once_across_breaks_code.specs.run.Things.{Things, begun_lane, begun_things}
use Rattle.once_across_breaks_live.specs.declared.client_end.ClientEnd.{ClientEnd}
use Rattle.once_across_breaks_live.specs.declared.happening.Happening.{Happening}
use Rattle.once_across_breaks_live.specs.declared.happening.Happening.TheVariants as happenings
use Rattle.once_across_breaks_live.specs.declared.lane.Lane.{Lane}
use Rattle.once_across_breaks_live.specs.Happens.{AllHappen, GoesOn, room}
use Rattle.once_across_breaks_live.specs.Once.{ComesTo, HappeningsAreSchedules, HappeningsTakeEffectOnce}
use Rattle.once_across_breaks_live.specs.Skips.{CanBe, place_of}
use Rattle.once_across_breaks_live.specs.Steps.{Server, Steps}
use Rattle.once_across_breaks_live.specs.lemma.Lanes.{ChangesAt, FeedsLane, HasEnd, IdlesLane, IsFedLane, IsLane, LosesLane}
use Rattle.once_across_breaks_live.specs.lemma.Near.{AsksNear, BringsNear, IsTakenNear, Near, Takings, came_to, near}
use Rattle.once_across_breaks_live.specs.lemma.Running.{BeginsLane, Comes, IsPlace, IsSure, Stands}
use Rattle.once_across_breaks_live.proofs.Going.{asked-goes, same-goes}
use Rattle.once_across_breaks_live.proofs.Putting.{ChangesTo, put, put-here, put-off, stands-more, stands-set}

-- ---- what is skipped

pub skipped : (server : Server) (h : Happening) (t : Things) (end : ClientEnd) (lanes : List Lane) (a : Shown) → Stands end lanes a t → (CanBe h t → ⊥) → Comes server h t end lanes a
skipped server h t end lanes a st cannot = record { doings = []; last = t; happens = inr record { cannot = cannot; none = refl; same = refl }; stands = st }

-- the same, where the link was looked at
kept-at : (end : ClientEnd) (lanes : List Lane) (a b : Shown) (t : Things) (i : ℕ) (l : Lane) → Stands end lanes a t → b ≡ t.shown → IsLane l (t.lanes i) → Stands end (slice_set lanes i l) b t
kept-at end lanes a b t i l st same is = stands-set end end lanes a b t t i l (t.lanes i) st st.client st.most st.results (sym same) (record { top = refl; here = refl; others = λ j off. refl }) is

skips-at : (server : Server) (h : Happening) (t : Things) (end : ClientEnd) (lanes : List Lane) (a b : Shown) (i : ℕ) (l : Lane) → Stands end lanes a t → b ≡ t.shown → IsLane l (t.lanes i) → (CanBe h t → ⊥) → Comes server h t end (slice_set lanes i l) b
skips-at server h t end lanes a b i l st same is cannot = skipped server h t end (slice_set lanes i l) b (kept-at end lanes a b t i l st same is) cannot

-- ---- at a server end

abbrev with_lane : Things → ℕ → things.Lane → Shown → Things
with_lane t i y b = record { client = t.client; top = t.top; lanes = put i y t.lanes; shown = b; calls = t.calls; results = t.results }

only-there : (t : Things) (i : ℕ) (y : things.Lane) (b : Shown) → doings.OnlyAt i t (with_lane t i y b)
only-there t i y b = record { top = refl; others = λ j off. put-off i y t.lanes j off }

changes-there : (t : Things) (i : ℕ) (y : things.Lane) (b : Shown) → ChangesTo i y t (with_lane t i y b)
changes-there t i y b = record { top = refl; here = put-here i y t.lanes i refl; others = λ j off. put-off i y t.lanes j off }

stands-there : (end : ClientEnd) (lanes : List Lane) (a b : Shown) (t : Things) (i : ℕ) (l : Lane) (y : things.Lane) → Stands end lanes a t → IsLane l y → Stands end (slice_set lanes i l) b (with_lane t i y b)
stands-there end lanes a b t i l y st is = stands-set end end lanes a b t (with_lane t i y b) i l y st st.client st.most st.results refl (changes-there t i y b) is

abbrev no_change : (t : Things) (i : ℕ) (y : things.Lane) (b : Shown) → doings.ClientStays t (with_lane t i y b)
no_change t i y b = record { client = refl; calls = refl; results = refl }

server-by : (server : Server) (told : Bool) (link n now : ℕ) (end : ClientEnd) (lanes : List Lane) (a b : Shown) (t : Things) (l : Lane) → Stands end lanes a t → 0 < link → link ≤ suc t.top → IsSoundShown b → IsSure server.answered told
    → FeedsLane told n now (t.lanes (place_of link)) t.shown l b → Comes server (happenings.ToServer link n now) t end (slice_set lanes (place_of link) l) b
server-by server told link n now end lanes a b t l st first last sound sure (inl f) =
    let i : ℕ = place_of link in
    let s : Things = with_lane t i f.new b in
    let here : s.lanes i ≡ f.new = put-here i f.new t.lanes i refl in
    let fed : IsFedLane now (t.lanes i) t.shown (s.lanes i) b = subst (λ (y : things.Lane). IsFedLane now (t.lanes i) t.shown y b) (sym here) f.fed in
    record {
      doings = doings.Reaches i now ∷ [];
      last = s;
      happens = inl record {
        can = record { end = record { begun = record { first = first; last = last }; live = fed.live }; asked = f.asked; some = f.some };
        are = record { are = refl; moved = ap (λ (y : things.Lane). y.up) here ∙ f.moved };
        steps = (
          s,
          record {
            does = record {
              link = omega (arith, last);
              live = fed.live;
              piece = fed.piece;
              some = fed.some;
              result = fed.result;
              moved = fed.moved;
              feeds = fed.feeds;
              memory = fed.memory;
              ended = fed.ended;
              typed = fed.typed;
              stays = no_change t i f.new b;
              only = only-there t i f.new b;
            };
            sound = sound;
            went_on = f.went_on;
            answered = λ e. ap (λ (y : things.Lane). y.wire.tally.answered) here ∙ f.answered (sure e);
          },
          refl,
        );
      };
      stands = stands-there end lanes a b t i l f.new st f.lane;
    }
server-by server told link n now end lanes a b t l st first last sound sure (inr (cannot, rests)) =
    skips-at server (happenings.ToServer link n now) t end lanes a b (place_of link) l st rests.shown rests.lane (λ can. cannot can.end.live can.asked can.some)

quiet-by : (server : Server) (link now : ℕ) (end : ClientEnd) (lanes : List Lane) (a b : Shown) (t : Things) (l : Lane) → Stands end lanes a t → 0 < link → link ≤ suc t.top → IsSoundShown b
    → IdlesLane now (t.lanes (place_of link)) t.shown l b → Comes server (happenings.Quiet link now) t end (slice_set lanes (place_of link) l) b
quiet-by server link now end lanes a b t l st first last sound (inl f) =
    let i : ℕ = place_of link in
    let x : things.Lane = t.lanes i in
    let y : things.Lane = record { wire = x.wire; ended = is_displaced f.told; up = x.up; down = x.down } in
    let s : Things = with_lane t i y b in
    record {
      doings = doings.Quiets i now ∷ [];
      last = s;
      happens = inl record {
        can = record { end = record { begun = record { first = first; last = last }; live = f.live }; number = f.link; in_session = f.in_session };
        are = refl;
        steps = (
          s,
          record {
            does = record {
              within = omega (arith, last);
              live = f.live;
              link = f.link;
              in_session = f.in_session;
              told = f.told;
              asked = f.asked;
              lane = put-here i y t.lanes i refl;
              stays = no_change t i y b;
              only = only-there t i y b;
            };
            sound = sound;
            went_on = f.went_on;
            answered = λ e. tt;
          },
          refl,
        );
      };
      stands = stands-there end lanes a b t i l y st f.lane;
    }
quiet-by server link now end lanes a b t l st first last sound (inr (cannot, rests)) =
    skips-at server (happenings.Quiet link now) t end lanes a b (place_of link) l st rests.shown rests.lane (λ can. cannot can.end.live can.number can.in_session)

lost-by : (server : Server) (told : Bool) (link now : ℕ) (end : ClientEnd) (lanes : List Lane) (a b : Shown) (t : Things) (l : Lane) → Stands end lanes a t → 0 < link → link ≤ suc t.top → IsSoundShown b → IsSure server.answered told
    → LosesLane told now (t.lanes (place_of link)) t.shown l b → Comes server (happenings.Lost link now) t end (slice_set lanes (place_of link) l) b
lost-by server told link now end lanes a b t l st first last sound sure (inl f) =
    let i : ℕ = place_of link in
    let x : things.Lane = t.lanes i in
    let y : things.Lane = record { wire = x.wire; ended = true; up = x.up; down = x.down } in
    let s : Things = with_lane t i y b in
    record {
      doings = doings.Loses i now ∷ [];
      last = s;
      happens = inl record {
        can = record { begun = record { first = first; last = last }; live = f.live };
        are = refl;
        steps = (
          s,
          record {
            does = record {
              link = omega (arith, last);
              live = f.live;
              parts = f.parts;
              ended = ap (λ (z : things.Lane). z.ended) (put-here i y t.lanes i refl);
              down = ap (λ (z : things.Lane). z.down) (put-here i y t.lanes i refl);
              stays = no_change t i y b;
              only = only-there t i y b;
            };
            sound = sound;
            went_on = f.went_on;
            answered = λ e. f.answered (sure e);
          },
          refl,
        );
      };
      stands = stands-there end lanes a b t i l y st f.lane;
    }
lost-by server told link now end lanes a b t l st first last sound sure (inr (cannot, rests)) =
    skips-at server (happenings.Lost link now) t end lanes a b (place_of link) l st rests.shown rests.lane (λ can. cannot can.live)

-- what was done at the place of a link is done at the link's own
record AtPlace (link : ℕ) (lanes new : List Lane) (t : Things) (does : things.Lane → Shown → Lane → Type 0) : Type 0 where
  lane : Lane
  set_there : new ≡ slice_set lanes (place_of link) lane
  last : link ≤ suc t.top
  done : does (t.lanes (place_of link)) t.shown lane

at-place : (link i : ℕ) (end : ClientEnd) (lanes new : List Lane) (a : Shown) (t : Things) (does : things.Lane → Shown → Lane → Type 0) → Stands end lanes a t → IsPlace link (length lanes) (Some i)
    → ChangesAt i lanes new (λ old l. (x : things.Lane) → IsLane old x → does x a l) → AtPlace link lanes new t does
at-place link i end lanes new a t does st (first, place, within) ch = record {
  lane = ch.new;
  set_there = ch.set_there ∙ ap (λ (j : ℕ). slice_set lanes j ch.new) place;
  last = omega (arith, first, place, within, st.size);
  done = subst (λ (j : ℕ). does (t.lanes j) t.shown ch.new) place (subst (λ (c : Shown). does (t.lanes i) c ch.new) (sym st.shown_is) (ch.changed (t.lanes i) (st.each i ch.old ch.there)));
}

pub server-comes : (server : Server) (told : Bool) (link n now i : ℕ) (end : ClientEnd) (lanes new : List Lane) (a b : Shown) (t : Things) → Stands end lanes a t → IsPlace link (length lanes) (Some i) → IsSoundShown b → IsSure server.answered told
    → ChangesAt i lanes new (λ old l. (x : things.Lane) → IsLane old x → FeedsLane told n now x a l b) → Comes server (happenings.ToServer link n now) t end new b
server-comes server told link n now i end lanes new a b t st place sound sure ch =
    let p = at-place link i end lanes new a t (λ x c l. FeedsLane told n now x c l b) st place ch in
    subst (λ (ls : List Lane). Comes server (happenings.ToServer link n now) t end ls b) (sym p.set_there) (server-by server told link n now end lanes a b t p.lane st place.0 p.last sound sure p.done)

pub quiet-comes : (server : Server) (link now i : ℕ) (end : ClientEnd) (lanes new : List Lane) (a b : Shown) (t : Things) → Stands end lanes a t → IsPlace link (length lanes) (Some i) → IsSoundShown b
    → ChangesAt i lanes new (λ old l. (x : things.Lane) → IsLane old x → IdlesLane now x a l b) → Comes server (happenings.Quiet link now) t end new b
quiet-comes server link now i end lanes new a b t st place sound ch =
    let p = at-place link i end lanes new a t (λ x c l. IdlesLane now x c l b) st place ch in
    subst (λ (ls : List Lane). Comes server (happenings.Quiet link now) t end ls b) (sym p.set_there) (quiet-by server link now end lanes a b t p.lane st place.0 p.last sound p.done)

pub lost-comes : (server : Server) (told : Bool) (link now i : ℕ) (end : ClientEnd) (lanes new : List Lane) (a b : Shown) (t : Things) → Stands end lanes a t → IsPlace link (length lanes) (Some i) → IsSoundShown b → IsSure server.answered told
    → ChangesAt i lanes new (λ old l. (x : things.Lane) → IsLane old x → LosesLane told now x a l b) → Comes server (happenings.Lost link now) t end new b
lost-comes server told link now i end lanes new a b t st place sound sure ch =
    let p = at-place link i end lanes new a t (λ x c l. LosesLane told now x c l b) st place ch in
    subst (λ (ls : List Lane). Comes server (happenings.Lost link now) t end ls b) (sym p.set_there) (lost-by server told link now end lanes a b t p.lane st place.0 p.last sound sure p.done)

-- there is no such link
no-link : (link : ℕ) (end : ClientEnd) (lanes : List Lane) (a : Shown) (t : Things) → Stands end lanes a t → IsPlace link (length lanes) None → 0 < link → link ≤ suc t.top → ⊥
no-link link end lanes a t st place first last = place first (omega (arith, last, st.size))

pub server-none : (server : Server) (link n now : ℕ) (end : ClientEnd) (lanes : List Lane) (a : Shown) (t : Things) → Stands end lanes a t → IsPlace link (length lanes) None → Comes server (happenings.ToServer link n now) t end lanes a
server-none server link n now end lanes a t st place = skipped server (happenings.ToServer link n now) t end lanes a st (λ can. no-link link end lanes a t st place can.end.begun.first can.end.begun.last)

pub quiet-none : (server : Server) (link now : ℕ) (end : ClientEnd) (lanes : List Lane) (a : Shown) (t : Things) → Stands end lanes a t → IsPlace link (length lanes) None → Comes server (happenings.Quiet link now) t end lanes a
quiet-none server link now end lanes a t st place = skipped server (happenings.Quiet link now) t end lanes a st (λ can. no-link link end lanes a t st place can.end.begun.first can.end.begun.last)

pub lost-none : (server : Server) (link now : ℕ) (end : ClientEnd) (lanes : List Lane) (a : Shown) (t : Things) → Stands end lanes a t → IsPlace link (length lanes) None → Comes server (happenings.Lost link now) t end lanes a
lost-none server link now end lanes a t st place = skipped server (happenings.Lost link now) t end lanes a st (λ can. no-link link end lanes a t st place can.begun.first can.begun.last)

-- ---- others ask

pub others-come : (server : Server) (now : ℕ) (link : LinkNumber) (ask : serial.Ask) (end : ClientEnd) (lanes : List Lane) (a b : Shown) (t : Things) (answer : tolds.Told) → Stands end lanes a t → IsSoundShown b → Asked a now link ask answer b
    → Comes server (happenings.Others now link ask) t end lanes b
others-come server now link ask end lanes a b t answer st sound asks =
    let there : Asked t.shown now link ask answer b = subst (λ (c : Shown). Asked c now link ask answer b) (sym st.shown_is) asks in
    let s : Things = record { client = t.client; top = t.top; lanes = t.lanes; shown = b; calls = t.calls; results = t.results } in
    record {
      doings = doings.Others now link ask ∷ [];
      last = s;
      happens = inl record {
        can = tt;
        are = refl;
        steps = (s, record { does = record { told = answer; asked = there; lanes = λ j. refl; top = refl; stays = record { client = refl; calls = refl; results = refl } }; sound = sound; went_on = asked-goes t.shown b now link ask answer there; answered = λ e. tt }, refl);
      };
      stands = record { client = st.client; most = st.most; results = st.results; shown_is = refl; size = st.size; each = st.each };
    }

-- ---- the client is asked

moved-end : (o : Option WireState) (l new : Lane) (x y : things.Lane) → HasEnd o l x → y.ended ≡ x.ended → y.wire ≡ x.wire → new.fed ≡ l.fed → HasEnd o new y
moved-end None l new x y end ended wire fed = ended ∙ end
moved-end (Some w) l new x y end ended wire fed = record {
  ended = ended ∙ end.ended;
  wire = wire ∙ end.wire;
  goes_on = end.goes_on;
  open_yet = end.open_yet;
  bytes = end.bytes;
  past = end.past;
  given = end.given;
  most = omega (arith, end.most, fed);
}

asks-by : (server : Server) (call : grammar.Call) (end new_end : ClientEnd) (lanes : List Lane) (a : Shown) (t : Things) (old l : Lane) → Stands end lanes a t → IsSoundShown a → IsLane old (t.lanes t.top) → AsksNear call end old new_end l
    → Comes server (happenings.Asks call) t new_end (slice_set lanes t.top l) a
asks-by server call end new_end lanes a t old l st sound is (inl k) =
    let x : things.Lane = t.lanes t.top in
    let frame : List ℕ = canonical_frame (call_frame t.client.state.next_id call) in
    let y : things.Lane = record { wire = x.wire; ended = x.ended; up = x.up ++ frame; down = x.down } in
    let s : Things = record { client = record { state = asked t.client.state call; held = t.client.held }; top = t.top; lanes = put t.top y t.lanes; shown = t.shown; calls = t.calls ++ call ∷ []; results = t.results } in
    let here : s.lanes t.top ≡ y = put-here t.top y t.lanes t.top refl in
    let ready : IsReady t.client.state = subst (λ (c : Client). IsReady c.state) (sym st.client) k.ready in
    let grown : Lane = record { wire = old.wire; fed = old.fed; up = old.up ++ canonical_frame (call_frame end.client.state.next_id call); down = old.down } in
    let held : IsLane grown y = record {
      up = ap (λ (u : List ℕ). u ++ frame) is.up ∙ ap (λ (c : Client). old.up ++ canonical_frame (call_frame c.state.next_id call)) st.client;
      down = is.down;
      end = moved-end old.wire old grown x y is.end refl refl refl;
    } in
    record {
      doings = doings.Asks call ∷ [];
      last = s;
      happens = inl record {
        can = record { ready = ready; takes_call = k.can };
        are = refl;
        steps = (
          s,
          record {
            does = record {
              ready = ready;
              askable = k.can.askable;
              client = refl;
              grows = record { up = here; only = record { top = refl; others = λ j off. put-off t.top y t.lanes j off }; shown = refl };
              calls = refl;
              results = refl;
            };
            sound = subst IsSoundShown (sym st.shown_is) sound;
            went_on = same-goes t.shown t.shown refl;
            answered = λ e. tt;
          },
          refl,
        );
      };
      stands = stands-set end new_end lanes a a t s t.top l y st (ap (λ (c : Client). record { state = asked c.state call; held = c.held }) st.client ∙ sym k.client_is)
          (let same : came_to new_end.client ≡ came_to end.client = ap came_to k.client_is in omega (arith, same, k.came, st.most)) (st.results ∙ sym k.results) st.shown_is
          (record { top = refl; here = here; others = λ j off. put-off t.top y t.lanes j off }) (subst (λ (z : Lane). IsLane z y) (sym k.up) held);
    }
asks-by server call end new_end lanes a t old l st sound is (inr (cannot, same, same_lane)) =
    skipped server (happenings.Asks call) t new_end (slice_set lanes t.top l) a
    (stands-set end new_end lanes a a t t t.top l (t.lanes t.top) st (st.client ∙ ap (λ (e : ClientEnd). e.client) (sym same)) (subst (λ (e : ClientEnd). came_to e.client ≤ e.came) (sym same) st.most)
    (st.results ∙ ap (λ (e : ClientEnd). e.results.items) (sym same)) st.shown_is (record { top = refl; here = refl; others = λ j off. refl }) (subst (λ (z : Lane). IsLane z (t.lanes t.top)) (sym same_lane) is))
    (λ can. cannot (subst (λ (c : Client). IsReady c.state) st.client can.ready) can.takes_call)

-- what was done at the newest link
newest-is : (i : ℕ) (end : ClientEnd) (lanes : List Lane) (a : Shown) (t : Things) → Stands end lanes a t → i ≡ length lanes - 1 → i ≡ t.top
newest-is i end lanes a t st e = omega (arith, e, st.size)

pub asks-come : (server : Server) (call : grammar.Call) (i : ℕ) (end new_end : ClientEnd) (lanes new : List Lane) (a : Shown) (t : Things) → Stands end lanes a t → IsSoundShown a → i ≡ length lanes - 1
    → ChangesAt i lanes new (λ old l. AsksNear call end old new_end l) → Comes server (happenings.Asks call) t new_end new a
asks-come server call i end new_end lanes new a t st sound newest ch0 =
    let ch = subst (λ (j : ℕ). ChangesAt j lanes new (λ old l. AsksNear call end old new_end l)) (newest-is i end lanes a t st newest) ch0 in
    subst (λ (ls : List Lane). Comes server (happenings.Asks call) t new_end ls a) (sym ch.set_there)
    (asks-by server call end new_end lanes a t ch.old ch.new st sound (st.each t.top ch.old ch.there) ch.changed)

-- ---- bytes come to the client

-- with this at the client's end, and these bytes under way to it
abbrev with_near : Things → List ℕ → Near → Things
with_near t d n = record {
  client = n.client;
  top = t.top;
  lanes = put t.top (record { wire = (t.lanes t.top).wire; ended = (t.lanes t.top).ended; up = n.up; down = d }) t.lanes;
  shown = t.shown;
  calls = t.calls;
  results = n.results;
}

abbrev near_lane : Things → List ℕ → Near → things.Lane
near_lane t d n = record { wire = (t.lanes t.top).wire; ended = (t.lanes t.top).ended; up = n.up; down = d }

near-at : (t : Things) (d : List ℕ) (n : Near) → (with_near t d n).lanes t.top ≡ near_lane t d n
near-at t d n = put-here t.top (near_lane t d n) t.lanes t.top refl

near-only : (t : Things) (d : List ℕ) (m n : Near) → doings.OnlyAt t.top (with_near t d m) (with_near t d n)
near-only t d m n = record { top = refl; others = λ j off. put-off t.top (near_lane t d n) t.lanes j off ∙ sym (put-off t.top (near_lane t d m) t.lanes j off) }

taken-near : (t : Things) (d : List ℕ) (event : Event) (m n : Near) → IsTakenNear event m n → IsTaken event (with_near t d m) (with_near t d n)
taken-near t d event m n k =
    let before = near-at t d m in
    let after = near-at t d n in
    record {
      more = k.more;
      happens = subst (λ (u : List ℕ). client.Happens m.client u event n.client (u ++ k.more)) (sym (ap (λ (l : things.Lane). l.up) before)) k.happens;
      grows = record {
        up = after ∙ ap (λ (u : List ℕ). near_lane t d (record { client = n.client; up = u; results = n.results })) k.up
            ∙ ap (λ (l : things.Lane). record { wire = l.wire; ended = l.ended; up = l.up ++ k.more; down = l.down }) (sym before);
        only = near-only t d m n;
        shown = refl;
      };
      calls = refl;
      results = k.results;
    }

takings-steps : (server : Server) (t : Things) (d : List ℕ) (m n : Near) (es : List Event) (last : Event) → IsSoundShown t.shown → Takings m es last n → Steps server (with_near t d m) (map doings.Takes es ++ doings.Takes last ∷ []) (with_near t d n)
takings-steps server t d m n [] last sound k = (with_near t d n, record { does = taken-near t d last m n k; sound = sound; went_on = same-goes t.shown t.shown refl; answered = λ e. tt }, refl)
takings-steps server t d m n (e ∷ es) last sound (mid, goes, k, rest) =
    (with_near t d mid, record { does = taken-near t d e m mid k; sound = sound; went_on = same-goes t.shown t.shown refl; answered = λ e. tt }, takings-steps server t d mid n es last sound rest)

takings-go : (m n : Near) (es : List Event) (last : Event) → Takings m es last n → AllByRecursion GoesOn es
takings-go m n [] last k = tt
takings-go m n (e ∷ es) last (mid, goes, k, rest) = (goes, takings-go mid n es last rest)

drop-least : (n r : ℕ) (xs : List ℕ) → drop (min (min (length xs) n) r) xs ≡ drop (min n r) xs
drop-least n r xs = ap (λ (k : ℕ). drop k xs) (let e : min (min (length xs) n) r ≡ min (min n r) (length xs) = omega arith in e) ∙ drop_min (min n r) xs

brings-by : (server : Server) (link n : ℕ) (end new_end : ClientEnd) (lanes : List Lane) (a : Shown) (t : Things) (old l : Lane) → Stands end lanes a t → IsSoundShown a → link ≡ suc t.top → IsLane old (t.lanes t.top)
    → BringsNear n end old new_end l → Comes server (happenings.ToClient link n) t new_end (slice_set lanes t.top l) a
brings-by server link n end new_end lanes a t old l st sound0 newest is k =
    let x : things.Lane = t.lanes t.top in
    let sound : IsSoundShown t.shown = subst IsSoundShown (sym st.shown_is) sound0 in
    let d : List ℕ = drop k.size old.down in
    let m : Near = record { client = k.fed; up = old.up; results = end.results.items } in
    let mid : Things = with_near t d m in
    let s : Things = with_near t d (near new_end l.up) in
    let here : mid.lanes t.top ≡ near_lane t d m = near-at t d m in
    let there : s.lanes t.top ≡ near_lane t d (near new_end l.up) = near-at t d (near new_end l.up) in
    let down_is : (mid.lanes t.top).down ≡ d = ap (λ (z : things.Lane). z.down) here in
    let same_room : buffer_length - length end.client.held.rest ≡ room t = ap (λ (c : Client). buffer_length - length c.held.rest) (sym st.client) in
    record {
      doings = doings.Brings ∷ (map doings.Takes k.takes.events ++ doings.Takes k.takes.last ∷ []);
      last = s;
      happens = inl record {
        can = newest;
        are = record {
          taken = map doings.Takes k.takes.events ++ doings.Takes k.takes.last ∷ [];
          takings = record { events = k.takes.events; goes_on = takings-go m (near new_end l.up) k.takes.events k.takes.last k.takes.takings; last = k.takes.last; ends = k.takes.ends; are = refl };
          are = refl;
          moved = ap (λ (z : things.Lane). z.down) there ∙ ap (λ (j : ℕ). drop j old.down) k.size_is ∙ drop-least n (buffer_length - length end.client.held.rest) old.down
              ∙ ap (λ (r : ℕ). drop (min n r) old.down) same_room ∙ ap (λ (ys : List ℕ). drop (min n (room t)) ys) (sym is.down);
        };
        steps = (
          mid,
          record {
            does = record {
              piece = take k.size old.down;
              moved = is.down ∙ sym (take-append-drop k.size old.down) ∙ ap (λ (ys : List ℕ). take k.size old.down ++ ys) (sym down_is);
              lane = here ∙ ap (λ (u : List ℕ). record { wire = x.wire; ended = x.ended; up = u; down = d }) (sym is.up) ∙ ap (λ (ys : List ℕ). record { wire = x.wire; ended = x.ended; up = x.up; down = ys }) (sym down_is);
              held = k.rest ∙ ap (λ (c : Client). c.held.rest ++ take k.size old.down) (sym st.client);
              state = k.state ∙ ap (λ (c : Client). c.state) (sym st.client);
              calls = refl;
              results = sym st.results;
              shown = refl;
              only = record { top = refl; others = λ j off. put-off t.top (near_lane t d m) t.lanes j off };
            };
            sound = sound;
            went_on = same-goes t.shown t.shown refl;
            answered = λ e. tt;
          },
          takings-steps server t d m (near new_end l.up) k.takes.events k.takes.last sound k.takes.takings,
        );
      };
      stands = stands-set end new_end lanes a a t s t.top l (near_lane t d (near new_end l.up)) st refl k.most refl st.shown_is
          (record { top = refl; here = there; others = λ j off. put-off t.top (near_lane t d (near new_end l.up)) t.lanes j off })
          (record { up = refl; down = sym k.down; end = subst (λ (o : Option WireState). HasEnd o l (near_lane t d (near new_end l.up))) (sym k.wire) (moved-end old.wire old l x (near_lane t d (near new_end l.up)) is.end refl refl k.fed_same) });
    }

pub brings-come : (server : Server) (link n i : ℕ) (end new_end : ClientEnd) (lanes new : List Lane) (a : Shown) (t : Things) → Stands end lanes a t → IsSoundShown a → link ≡ length lanes → i ≡ length lanes - 1
    → ChangesAt i lanes new (λ old l. BringsNear n end old new_end l) → Comes server (happenings.ToClient link n) t new_end new a
brings-come server link n i end new_end lanes new a t st sound is newest ch0 =
    let ch = subst (λ (j : ℕ). ChangesAt j lanes new (λ old l. BringsNear n end old new_end l)) (newest-is i end lanes a t st newest) ch0 in
    subst (λ (ls : List Lane). Comes server (happenings.ToClient link n) t new_end ls a) (sym ch.set_there)
    (brings-by server link n end new_end lanes a t ch.old ch.new st sound (is ∙ st.size) (st.each t.top ch.old ch.there) ch.changed)

pub brings-none : (server : Server) (link n : ℕ) (end : ClientEnd) (lanes : List Lane) (a : Shown) (t : Things) → Stands end lanes a t → (link ≡ length lanes → ⊥) → Comes server (happenings.ToClient link n) t end lanes a
brings-none server link n end lanes a t st off = skipped server (happenings.ToClient link n) t end lanes a st (λ can. off (can ∙ sym st.size))

-- ---- a link breaks, and the next one begins

breaks-by : (server : Server) (end new_end : ClientEnd) (lanes : List Lane) (a : Shown) (t : Things) (mid : Client) (lane : Lane) → Stands end lanes a t → IsSoundShown a → mid ≡ record { state = broken end.client.state; held = record { place = 0; rest = [] } }
    → BeginsLane server.block mid lane new_end.client → new_end.came ≡ 0 → new_end.results.items ≡ end.results.items → Comes server happenings.Breaks t new_end (lanes ++ lane ∷ []) a
breaks-by server end new_end lanes a t mid lane st sound0 broke b none same =
    let sound : IsSoundShown t.shown = subst IsSoundShown (sym st.shown_is) sound0 in
    let c : Client = record { state = begun (broken t.client.state); held = record { place = 0; rest = [] } } in
    let s : Things = record { client = c; top = suc t.top; lanes = put (suc t.top) (begun_lane server.block) t.lanes; shown = t.shown; calls = t.calls; results = t.results } in
    let here : s.lanes (suc t.top) ≡ begun_lane server.block = put-here (suc t.top) (begun_lane server.block) t.lanes (suc t.top) refl in
    let others : (j : ℕ) → j ≢ suc t.top → s.lanes j ≡ t.lanes j = λ j off. put-off (suc t.top) (begun_lane server.block) t.lanes j off in
    let is : new_end.client ≡ c =
    b.client ∙ ap (λ (x : Client). record { state = begun x.state; held = record { place = 0; rest = [] } }) broke
    ∙ ap (λ (x : Client). record { state = begun (broken x.state); held = record { place = 0; rest = [] } }) (sym st.client) in
    record {
      doings = doings.Breaks ∷ [];
      last = s;
      happens = inl record {
        can = tt;
        are = record { are = refl; serves = ap (λ (l : things.Lane). l.wire.block) here };
        steps = (s, record { does = record { client = refl; block = server.block; top = refl; lane = here; others = others; calls = refl; results = refl; shown = refl }; sound = sound; went_on = same-goes t.shown t.shown refl; answered = λ e. tt }, refl);
      };
      stands = stands-more end new_end lanes a a t s lane (begun_lane server.block) st (sym is) (let size : came_to new_end.client ≡ 0 = ap came_to is in omega (arith, size, none)) (st.results ∙ sym same) st.shown_is refl here others b.begun_is;
    }

pub breaks-come : (server : Server) (end new_end : ClientEnd) (lanes new : List Lane) (a : Shown) (t : Things) (mid : Client) (lane : Lane) → Stands end lanes a t → IsSoundShown a → mid ≡ record { state = broken end.client.state; held = record { place = 0; rest = [] } }
    → BeginsLane server.block mid lane new_end.client → new_end.came ≡ 0 → new_end.results.items ≡ end.results.items → new ≡ lanes ++ lane ∷ [] → Comes server happenings.Breaks t new_end new a
breaks-come server end new_end lanes new a t mid lane st sound broke b none same more =
    subst (λ (ls : List Lane). Comes server happenings.Breaks t new_end ls a) (sym more) (breaks-by server end new_end lanes a t mid lane st sound broke b none same)

-- ---- at the start

one-each : (lane : Lane) (block : List ℕ) → IsLane lane (begun_lane block) → (i : ℕ) (l : Lane) → slice_get (lane ∷ []) i ≡ Some l → IsLane l (begun_lane block)
one-each lane block is zero l e = subst (λ (x : Lane). IsLane x (begun_lane block)) (let same : lane ≡ l = cc in same) is
one-each lane block is (suc i) l e = absurd (cc e)

pub first-stands : (block : List ℕ) (login : logins.Login) (a : Shown) (made : Client) (end : ClientEnd) (lane : Lane) (lanes : List Lane) → made ≡ record { state = made_client login; held = record { place = 0; rest = [] } } → BeginsLane block made lane end.client
    → end.came ≡ 0 → end.results.items ≡ [] → lanes ≡ lane ∷ [] → Stands end lanes a (begun_things block login a)
first-stands block login a made end lane lanes is b none empty same =
    let c : end.client ≡ record { state = begun (made_client login); held = record { place = 0; rest = [] } } =
    b.client ∙ ap (λ (x : Client). record { state = begun x.state; held = record { place = 0; rest = [] } }) is in
    record {
      client = sym c;
      most = let size : came_to end.client ≡ 0 = ap came_to c in omega (arith, size, none);
      results = sym empty;
      shown_is = refl;
      size = ap length same;
      each = λ i l e. one-each lane block b.begun_is i l (ap (λ (ls : List Lane). slice_get ls i) (sym same) ∙ e);
    }

-- ---- one after the other

-- What happened so far leads to these things, whatever happens then.
pub record HasCome (server : Server) (hs rest : List Happening) (first : Things) (end : ClientEnd) (lanes : List Lane) (a : Shown) : Type 0 where
  pub now : Things
  pub stands : Stands end lanes a now
  pub leads : (ds : List Doing) (last : Things) → AllHappen server rest now ds last → (all : List Doing) × AllHappen server hs first all last

pub has-begun : (server : Server) (hs : List Happening) (first : Things) (end : ClientEnd) (lanes : List Lane) (a : Shown) → Stands end lanes a first → HasCome server hs hs first end lanes a
has-begun server hs first end lanes a st = record { now = first; stands = st; leads = λ ds last all. (ds, all) }

pub comes-on : (server : Server) (hs rest later : List Happening) (h : Happening) (first : Things) (end new_end : ClientEnd) (lanes new : List Lane) (a b : Shown) → rest ≡ h ∷ later → HasCome server hs rest first end lanes a
    → ((t : Things) → Stands end lanes a t → Comes server h t new_end new b) → HasCome server hs later first new_end new b
comes-on server hs rest later h first end new_end lanes new a b same has comes =
    let c = comes has.now has.stands in
    record {
      now = c.last;
      stands = c.stands;
      leads = λ ds last all. has.leads (c.doings ++ ds) last (subst (λ (l : List Happening). AllHappen server l has.now (c.doings ++ ds) last) (sym same) (c.doings, ds, c.last, c.happens, all, refl));
    }

-- ---- a link that begins, and links that were lent

pub begins-lane : (block : List ℕ) (w : WireState) (none up down : List ℕ) → w ≡ record { block = block; held = record { place = 0; rest = [] }; stage = stages.Fresh; tally = no_tally; end = None } → none ≡ [] → up ≡ none ++ canonical_frame (open_session_frame first_request_id) → down ≡ []
    → IsLane (record { wire = Some w; fed = 0; up = up; down = down }) (begun_lane block)
begins-lane block w none up down is empty frame nothing =
    let held : w.held ≡ record { place = 0; rest = [] } = ap (λ (v : WireState). v.held) is in
    let stage : w.stage ≡ stages.Fresh = ap (λ (v : WireState). v.stage) is in
    record {
      up = sym (frame ∙ ap (λ (l : List ℕ). l ++ canonical_frame (open_session_frame first_request_id)) empty);
      down = sym nothing;
      end = record {
        ended = refl;
        wire = sym is;
        goes_on = ap (λ (v : WireState). v.end) is;
        open_yet = λ e. absurd (let x : stages.Fresh ≡ stages.Closing = sym stage ∙ e in cc x);
        bytes = [];
        past = [];
        given = subst (GivenOut [] []) (sym held) record { filled = []; spelled = refl; whole = refl; place = refl };
        most = omega (arith, ap (λ (b : Buffered). b.place + length b.rest) held);
      };
    }

pub lent_back : (n : ℕ) (slots items : List Lane) → length slots ≡ length items → n ≡ length items → take n (slots ++ drop (length slots) items) ≡ slots
lent_back n slots items same all =
    take-append-le n slots (drop (length slots) items) (omega (arith, same, all)) ∙ take_all n slots (omega (arith, same, all))

-- the place that was found, where the links were counted
pub placed : (link n : ℕ) (lanes : List Lane) (found is : Option ℕ) → IsPlace link n found → found ≡ is → n ≡ length lanes → IsPlace link (length lanes) is
placed link n lanes found is place same count = subst (λ (o : Option ℕ). IsPlace link (length lanes) o) same (subst (λ (k : ℕ). IsPlace link k found) count place)

-- ---- the whole

none-behind : (n : ℕ) (hs : List Happening) → length hs ≤ n → drop n hs ≡ []
none-behind zero [] e = refl
none-behind zero (h ∷ hs) e = absurd (omega (arith, e))
none-behind (suc n) [] e = refl
none-behind (suc n) (h ∷ hs) e = none-behind n hs (omega (arith, e))

pub next-behind : (hs : List Happening) (i : ℕ) (h : Happening) → i < length hs → h ≡ get_or hs i h → drop i hs ≡ h ∷ drop (i + 1) hs
next-behind hs i h within is = drop-cons hs i h within ∙ (λ j. sym is j ∷ drop (suc i) hs) ∙ ap (λ (k : ℕ). h ∷ drop k hs) (let e : suc i ≡ i + 1 = omega arith in e)

pub all-come : (block : List ℕ) (login : logins.Login) (first : Shown) (hs : List Happening) (n : ℕ) (answered : Bool) (end : ClientEnd) (lanes : List Lane) (a : Shown) → HappeningsAreSchedules → HappeningsTakeEffectOnce
    → HasCome (record { block = block; answered = answered }) hs (drop n hs) (begun_things block login first) end lanes a → length hs ≤ n → ComesTo block login first hs answered end.client a end.results.items
all-come block login first hs n answered end lanes a schedules once has over =
    let server : Server = record { block = block; answered = answered } in
    let all = has.leads [] has.now (subst (λ (rest : List Happening). AllHappen server rest has.now [] has.now) (sym (none-behind n hs over)) (refl, refl)) in
    record {
      doings = all.0;
      last = has.now;
      happened = all.1;
      client_is = has.stands.client;
      shown_is = has.stands.shown_is;
      results_are = has.stands.results;
      schedule = schedules server login first hs all.0 has.now all.1;
      once = once server login first hs all.0 has.now all.1;
    }
