-- A call that is asked, a link that breaks, and a frame that is taken.
use Rattle.std.proofs.Common.{◌≡◌, ◌≢◌, ◌∙◌, inl, inr, refl, sym, ap, subst, ℕ, suc, ◌+◌, ◌≤◌, ◌<◌, Bool, true, false, List, [], ◌∷◌, ◌++◌, Option, Some, None, arith, append-nil, append_assoc}
use Rattle.std.specs.Prelude.{length, ◌||◌, map, option_to_list}
use Rattle.std.proofs.lemmas.Bool.{cases_eq, cases_order}
use Rattle.afp_base.specs.declared.code.Code.{Code}
use Rattle.afp_calls_grammar.specs.declared.grammar.call.Call as grammar
use Rattle.afp_base.specs.Cached as cached
use Rattle.afp_client.specs.session.Happens.{StaysAsItIs, TakesNext}
use Rattle.afp_client.specs.session.Laws.{IsDecided}
use Rattle.afp_client.specs.session.Opening.{open_session_frame}
use Rattle.afp_client.specs.session.State as states
use Rattle.afp_client.specs.session.State.{ClientState, call_frame}
use Rattle.afp_client.specs.session.Takes.{Step, begun, broken, stage_begun, stage_broken, asked, takes, written}
use Rattle.afp_client.specs.declared.session.event.Event as client_event
use Rattle.afp_client.specs.declared.session.event.Event.TheVariants as events
use Rattle.afp_client.specs.declared.session.stage.Stage as client_stage
use Rattle.afp_client.specs.declared.session.stage.Stage.TheVariants as stages
use Rattle.afp_serial.specs.Shown.{IsSoundShown, Shown}
use Rattle.afp_serial.specs.World.{World}
use Rattle.afp_server.specs.declared.link.stage.Stage as server_stage
use Rattle.afp_server.specs.declared.link.stage.Stage.TheVariants as server_stages
use Rattle.dsi_frame.specs.Frame.{Frame, IsSpelling, canonical_frame, header}
use Rattle.dsi_frame.specs.Stream.{Begins}
use Rattle.volume_spec.specs.TypedVolume.{are_bytes}
use Rattle.once_across_breaks.proofs.OfOnce.Events.{set-at, set-off}
use Rattle.once_across_breaks.specs.once.Dsi.{answered_block}
use Rattle.once_across_breaks.specs.once.Frames.{AllNetAllowed, AreToThat, Carrier, End, Heard, HeardCall, Net, Taken, client_takes, fresh_end, heard, net_breaks, net_commands, net_start, net_taken, net_to_client, request_that_waits, tag_of, waiting_request}
use Rattle.once_across_breaks.specs.once.Messages.{Answer, Does, Done, Call}
use Rattle.once_across_breaks.specs.once.Run as run
use Rattle.once_across_breaks.specs.once.Run.{Asks, Client, Event, Gone, Joining, Opens, Ready, Request, Stage, Wait, begins, draws, id_of, last_body}
use Rattle.once_across_breaks.specs.once.Serial.{Setup, answer_by, machine}
use Rattle.once_across_breaks.specs.once.Server.{set}
use Rattle.once_across_breaks_code.specs.client.Moves.{commanded, frames_of}
use Rattle.once_across_breaks_code.specs.client.Related.{IsClient, IsStage, waiting_of}
use Rattle.once_across_breaks_code.specs.client.Requests.{IsAnswer, IsCall}
use Rattle.once_across_breaks_code.specs.client.Steps.{AreSame, IsOne, results_with, call_of, waits_behind, is_told}
use Rattle.once_across_breaks_code.specs.server.Asked.{world_of}
use Rattle.once_across_breaks_code.specs.server.Ties.{AreEntries, IsEnd}
use Rattle.once_across_breaks_code.specs.run.Doings.{IsAsked, IsBroken, IsTaken, told_in}
use Rattle.once_across_breaks_code.specs.run.Mirrors.{AreComing, AreTold, AreUnderWay, IsLane, IsReplyWith, AreAsked, calls_of, waiting_call}
use Rattle.once_across_breaks_code.specs.run.Things.{Lane, Things, begun_lane}
use Rattle.once_across_breaks_code.proofs.OfRun.AtClient.{ClientLaws, live-stage, none-that, still, waits-none, writes-keep, with_down}
use Rattle.once_across_breaks_code.specs.run.Premises.{Notes, noted_event}
use Rattle.once_across_breaks_code.proofs.OfRun.Allowed.{AreFirst, allowed-append}
use Rattle.once_across_breaks_code.proofs.OfRun.AtLink.{legal-append}
use Rattle.once_across_breaks_code.proofs.OfRun.Courses.{Kept, more-run, one-each}
use Rattle.once_across_breaks_code.proofs.OfRun.Noting.{NotedBy, noted-by, takes-kind}
use Rattle.once_across_breaks_code.proofs.OfRun.Feeding.{first-none, only-waits}
use Rattle.once_across_breaks_code.proofs.OfRun.Taking.{takes-well, token-stays-fit, told-more, typed-answer}

some-same : (a b : Taken) → Some a ≡ Some b → a ≡ b
some-same a b same = cc

-- ---- the calls that were asked

asked-append : (u : Setup) (xs : List Call) (ys : List grammar.Call) (x : Call) (y : grammar.Call) → AreAsked u xs ys → IsCall u x y → AreAsked u (xs ++ x ∷ []) (ys ++ y ∷ [])
asked-append u [] [] x y h is = (is, tt)
asked-append u (a ∷ xs) (b ∷ ys) x y h is = (h.0, asked-append u xs ys x y h.1 is)
asked-append u [] (b ∷ ys) x y h is = absurd h
asked-append u (a ∷ xs) [] x y h is = absurd h

abbrev calls_in : List Done → List Call
calls_in ds = map (λ (d : Done). d.call) ds

one-asked : (u : Setup) (c : Client) (command : Call) (call : grammar.Call) (calls : List grammar.Call) → c.wait ≡ None → IsCall u command call → AreAsked u (calls_of c) calls → AreAsked u (calls_in c.results ++ command ∷ []) (calls ++ call ∷ [])
one-asked u c command call calls idle is h =
    let none : calls_of c ≡ calls_in c.results = ap (λ (w : Option Wait). calls_in c.results ++ waiting_call w) idle ∙ append-nil (calls_in c.results) in
    asked-append u (calls_in c.results) calls command call (subst (λ (l : List Call). AreAsked u l calls) none h) is

calls-append : (xs ys : List Done) → calls_in (xs ++ ys) ≡ calls_in xs ++ calls_in ys
calls-append [] ys = refl
calls-append (x ∷ xs) ys = ap (λ (l : List Call). x.call ∷ l) (calls-append xs ys)

waits-as : (wait : Option Wait) (o : Option Call) → call_of wait ≡ o → waiting_call wait ≡ option_to_list o
waits-as None None e = refl
waits-as (Some w) (Some x) e = let f : w.call ≡ x = cc in ap (λ (y : Call). y ∷ []) f
waits-as None (Some x) e = absurd (cc)
waits-as (Some w) None e = absurd (cc)

behind : (event : client_event.Event) (wait : Option Wait) → (is_told event ≡ true → wait ≢ None) → calls_in (results_with event wait) ++ option_to_list (waits_behind event (call_of wait)) ≡ waiting_call wait
behind (events.Told code block) None waits = absurd (waits refl refl)
behind (events.Told code block) (Some w) waits = refl
behind events.NotYet wait waits = sym (waits-as wait (call_of wait) refl)
behind events.Step wait waits = sym (waits-as wait (call_of wait) refl)
behind events.Ready wait waits = sym (waits-as wait (call_of wait) refl)
behind (events.Refused code) wait waits = sym (waits-as wait (call_of wait) refl)
behind (events.Lost code) wait waits = sym (waits-as wait (call_of wait) refl)
behind events.Tickle wait waits = sym (waits-as wait (call_of wait) refl)
behind (events.Attention word) wait waits = sym (waits-as wait (call_of wait) refl)
behind events.Closed wait waits = sym (waits-as wait (call_of wait) refl)
behind (events.Bad place) wait waits = sym (waits-as wait (call_of wait) refl)
behind events.Memory wait waits = sym (waits-as wait (call_of wait) refl)

same-calls : (c : Client) (tk : Taken) (event : client_event.Event) → tk.client.results ≡ c.results ++ results_with event c.wait → call_of tk.client.wait ≡ waits_behind event (call_of c.wait) → (is_told event ≡ true → c.wait ≢ None) → calls_of tk.client ≡ calls_of c
same-calls c tk event results waits told =
    (λ i. calls_in (results i) ++ waits-as tk.client.wait (waits_behind event (call_of c.wait)) waits i)
    ∙ ap (λ (l : List Call). l ++ option_to_list (waits_behind event (call_of c.wait))) (calls-append c.results (results_with event c.wait))
    ∙ append_assoc (calls_in c.results) (calls_in (results_with event c.wait)) (option_to_list (waits_behind event (call_of c.wait)))
    ∙ ap (λ (l : List Call). calls_in c.results ++ l) (behind event c.wait told)

-- ---- a call

pub asked-keeps : ClientLaws → (u : Setup) (w : World) (n : ℕ) (b : Bool) (notes : Notes) (call : grammar.Call) (t s : Things) (net : Net World) → IsAsked call t s → (b ≡ true → notes.row < 1900) → Kept u w n b notes t net → (after : Net World) × Kept u w n b notes s after
asked-keeps laws u w n b notes call t s net x less k =
    let m = k.mirrors in
    let c : Client = net.client in
    let command = laws.calls u call x.askable in
    let does = laws.asks u c t.client.state command.0 call m.client x.ready command.1 in
    let ready : c.stage ≡ Ready = (subst (λ (st : client_stage.Stage). IsStage c.stage c.tries c.opening_id c.token st) x.ready.opened m.client.stage).0 in
    let idle : c.wait ≡ None = waits-none u c.wait (sym m.client.waiting ∙ x.ready.idle) in
    let after : Net World = net_commands net Ready None command.0 in
    let taken : Taken = record { client = draws c command.0 0 c.row c.results; writes = Asks (id_of c.first c.drawn) (Does command.0) false ∷ []; got = false } in
    let is_taken : taken ≡ does.0 = some-same taken does.0 (sym (λ i. commanded c (ready i) (idle i) command.0) ∙ does.1) in
    let that : request_that_waits c c.stage ≡ None = ap (request_that_waits c) ready ∙ ap waiting_request idle in
    let alive : c.stage ≢ Gone = λ gone. let e : Ready ≡ Gone = sym ready ∙ gone in absurd (cc) in
    let only = only-waits laws.waiting u w n b notes t net k alive in
    let comes : AreComing u c.opening_id (s.client.held.rest ++ (t.lanes t.top).down) (net.links net.top).down =
    subst (λ (y : states.Client). AreComing u c.opening_id (y.held.rest ++ (t.lanes t.top).down) (net.links net.top).down) (sym x.client)
    (subst (λ (l : ℕ). AreComing u c.opening_id (t.client.held.rest ++ (t.lanes t.top).down) (net.links l).down) (sym m.top) (m.coming alive)) in (
      after,
      writes-keep laws.keeps u w n b notes notes t s net after (canonical_frame (call_frame t.client.state.next_id call)) less k x.grows
          (record {
            event = run.Commands command.0;
            step = λ i. net_commands net (ready i) (idle i) command.0;
            legal = tt;
            allowed = λ j. tt;
            row = k.row;
            numbers = refl;
            again = λ j off. refl;
            first = λ unset. (refl, tt);
            number = refl;
            writes = taken.writes;
            left = (net.links net.top).down;
            end = (net.links net.top).end;
            client = taken.client;
            is = refl;
            stands = λ stage h. h;
            ended = λ h. h;
            empty = none-that (net.links net.top).up (request_that_waits c c.stage) that only.0;
            one = subst (λ (y : states.Client). IsClient u taken.client y.state) (sym x.client) (subst (λ (y : Taken). IsClient u y.client (asked t.client.state call)) (sym is_taken) does.2);
            linked = subst (λ (y : states.Client). y.state.stage ≢ stages.Unlinked) (sym x.client) m.linked;
            token = m.token;
            calls = subst (AreAsked u (calls_of taken.client)) (sym x.calls) (one-asked u c command.0 call t.calls idle command.1 m.calls);
            results = subst (AreTold c.results) (sym x.results) m.results;
            frame = Some (call_frame t.client.state.next_id call);
            frames = does.3 ∙ ap (frames_of u) (sym is_taken);
            bytes = refl;
            comes = λ live. comes;
          }),
    )

-- ---- a break

begun-linked : (stage : client_stage.Stage) → stage_begun (stage_broken stage) ≢ stages.Unlinked
begun-linked stages.Lost e = absurd (cc)
begun-linked stages.Unlinked e = absurd (cc)
begun-linked (stages.Opening at_step id retries) e = absurd (cc)
begun-linked stages.Ready e = absurd (cc)

below : (j n : ℕ) → j ≤ suc n → (j ≡ suc n → ⊥) → j ≤ n
below j n within off = elim (cases_order j (suc n)) [
  | inl same ↦ absurd (off same)
  | inr (inl less) ↦ omega (arith, less)
  | inr (inr more) ↦ absurd (omega (arith, more, within))
]

abbrev pub begun_carrier : Carrier
begun_carrier = record { end = fresh_end; up = Opens ∷ []; down = [] }

pub new-lane : (u : Setup) (block : List ℕ) → IsLane u (begun_lane block) begun_carrier
new-lane u block = record {
  live = λ e. record {
    end = (refl, refl);
    bytes = [];
    past = [];
    given = record { filled = []; spelled = refl; whole = refl; place = refl };
    last = 0;
    under_way = ((omega arith, tt), refl);
  };
  ended = λ e. absurd (cc);
}

pub broken-keeps : ClientLaws → (u : Setup) (w : World) (n : ℕ) (b : Bool) (notes : Notes) (t s : Things) (net : Net World) → IsBroken t s → (b ≡ true → notes.row < 1900) → Kept u w n b notes t net → (after : Net World) × Kept u w n b notes s after
broken-keeps laws u w n b notes t s net x less k =
    let m = k.mirrors in
    let c : Client = net.client in
    let does = laws.begins u c (broken t.client.state) (laws.breaks u c t.client.state m.client) in
    let taken : Taken = record { client = begins c; writes = Opens ∷ []; got = false } in
    let is_taken : taken ≡ does.0 = some-same taken does.0 does.1 in
    let after : Net World = net_breaks net in
    let there : after.links (suc t.top) ≡ begun_carrier = set-at net.links (suc net.top) begun_carrier (suc t.top) (ap suc (sym m.top)) in
    let off : (j : ℕ) → (j ≡ suc t.top → ⊥) → after.links j ≡ net.links j = λ j other. set-off net.links (suc net.top) begun_carrier j (λ e. other (e ∙ ap suc m.top)) in
    let lane : IsLane u (begun_lane x.block) (after.links (suc t.top)) = subst (IsLane u (begun_lane x.block)) (sym there) (new-lane u x.block) in
    let way : AreUnderWay u 0 (canonical_frame (open_session_frame 0)) (after.links (suc t.top)).up = subst (λ (y : Carrier). AreUnderWay u 0 (canonical_frame (open_session_frame 0)) y.up) (sym there) ((omega arith, tt), refl) in (
      after,
      record {
        events = k.events ++ run.Breaks ∷ [];
        is_run = more-run u w n b notes t net k (run.Breaks ∷ []);
        mirrors = record {
          client = subst (λ (y : states.Client). IsClient u (begins c) y.state) (sym x.client) (subst (λ (y : Taken). IsClient u y.client (begun (broken t.client.state))) (sym is_taken) does.2);
          linked = subst (λ (y : states.Client). y.state.stage ≢ stages.Unlinked) (sym x.client) (begun-linked t.client.state.stage);
          token = m.token;
          world = m.world ∙ ap world_of (sym x.shown);
          history = subst (λ (y : Shown). AreEntries u net.history y.history) (sym x.shown) m.history;
          calls = subst (AreAsked u (calls_of c)) (sym x.calls) m.calls;
          results = subst (AreTold c.results) (sym x.results) m.results;
          top = ap suc m.top ∙ sym x.top;
          each = λ j within. elim (cases_eq j (suc t.top)) [
            | inl same ↦ subst (λ (l : ℕ). IsLane u (s.lanes l) (after.links l)) (sym same) (subst (λ (l : Lane). IsLane u l (after.links (suc t.top))) (sym x.lane) lane)
            | inr other ↦ subst (λ (l : Lane). IsLane u l (after.links j)) (sym (x.others j other)) (subst (IsLane u (t.lanes j)) (sym (off j other)) (m.each j (below j t.top (subst (λ (n : ℕ). j ≤ n) x.top within) other)))
          ];
          going = subst (λ (l : ℕ). (s.lanes l).ended ≡ false → AreUnderWay u 0 ((s.lanes l).wire.held.rest ++ (s.lanes l).up) (after.links l).up) (sym x.top)
              (subst (λ (l : Lane). l.ended ≡ false → AreUnderWay u 0 (l.wire.held.rest ++ l.up) (after.links (suc t.top)).up) (sym x.lane) (λ live. way));
          coming = subst (λ (l : ℕ). (begins c).stage ≢ Gone → AreComing u 0 (s.client.held.rest ++ (s.lanes l).down) (after.links l).down) (sym x.top)
              (λ live. subst (λ (y : Carrier). AreComing u 0 (s.client.held.rest ++ (s.lanes (suc t.top)).down) y.down) (sym there) (λ i. (x.client i).held.rest ++ (x.lane i).down));
        };
        fits = laws.keeps u net run.Breaks m.token tt k.fits;
        start = ap (λ (y : Shown). y.start) x.shown ∙ k.start;
        shown = subst IsSoundShown (sym x.shown) k.shown;
        legal = legal-append u (net_start w) k.events (run.Breaks ∷ []) k.legal (tt, tt);
        row = k.row;
        first = λ j unset. elim (cases_eq j (suc t.top)) [
          | inl same ↦ subst (λ (l : ℕ). AreFirst (after.links l).up) (sym same) (subst (λ (y : Carrier). AreFirst y.up) (sym there) (refl, tt))
          | inr other ↦ subst (λ (y : Carrier). AreFirst y.up) (sym (off j other)) (k.first j unset)
        ];
        numbers = λ j l is. elim (cases_eq j (suc t.top)) [
          | inl same ↦
              let fresh : None ≡ Some l = ap (λ (y : Carrier). y.end.number) (sym there) ∙ subst (λ (a : ℕ). (after.links a).end.number ≡ Some l) same is in
              absurd (cc)
          | inr other ↦ k.numbers j l (ap (λ (y : Carrier). y.end.number) (sym (off j other)) ∙ is)
        ];
        allowed = λ so.
            let row : after.client.row < 1900 = let a = k.row in let d = less so in omega (arith, a, d) in
            allowed-append u n (net_start w) k.events (run.Breaks ∷ []) (k.allowed so) (subst (λ (a : Net World). AllNetAllowed (machine u) n a (run.Breaks ∷ [])) k.is_run (tt, row, tt));
      },
    )

-- ---- a frame

got-stands : (e : End) (got : Bool) (stage : server_stage.Stage) → IsEnd stage e → IsEnd stage (record { number = e.number; ended = e.ended; got = got })
got-stands e got server_stages.Fresh h = h
got-stands e got (server_stages.Open link) h = h
got-stands e got server_stages.Closing h = h

up-none : (ups : List Request) (y : Request × Answer) → length ups + length (y ∷ []) ≤ 1 → ups ≡ []
up-none [] y short = refl
up-none (r ∷ rs) y short = absurd (omega (arith, short))

heard-same : (a b : Heard) → Some a ≡ Some b → a ≡ b
heard-same a b same = cc

-- the reply to the last request of an opening has a block of bytes
block-typed : (c : Client) (h : Heard) (a : Answer) (code : Code) (payload : List ℕ) → request_that_waits c c.stage ≡ Some h → IsAnswer h a (answer_by code payload) → are_bytes payload ≡ true → c.stage ≡ Joining → are_bytes (answered_block a) ≡ true
block-typed c h a code payload waits answer typed joining =
    let is : HeardCall c.opening_id (last_body c.token) ≡ h = heard-same (HeardCall c.opening_id (last_body c.token)) h (sym (ap (request_that_waits c) joining) ∙ waits) in
    let same : a ≡ answer_by code payload = subst (λ (y : Heard). IsAnswer y a (answer_by code payload)) (sym is) answer in
    subst (λ (y : Answer). are_bytes (answered_block y) ≡ true) (sym same) (typed-answer code payload typed)

-- what the net becomes
abbrev net_after : Net World → Taken → Net World
net_after net tk =
    record {
      client = tk.client;
      top = net.top;
      world = net.world;
      history = net.history;
      links = set net.links net.top (record {
        end = record { number = (net.links net.top).end.number; ended = (net.links net.top).end.ended; got = (net.links net.top).end.got || tk.got };
        up = (net.links net.top).up ++ tk.writes;
        down = [];
      });
    }

taken-one : ClientLaws → (u : Setup) (w : World) (n : ℕ) (b : Bool) (notes : Notes) (event : client_event.Event) (t s : Things) (net : Net World) (x : IsTaken event t s) (less : b ≡ true → (noted_event event t.client.state t.top notes).row < 1900) (k : Kept u w n b notes t net) (y : Request × Answer) (f : Frame) (st : Step) (tk : Taken)
    → (reply : IsReplyWith u net.client.opening_id y.0 y.1 f)
    → (net.links net.top).down ≡ y ∷ []
    → request_that_waits net.client net.client.stage ≡ Some (heard y.0)
    → takes t.client.state (Some reply.code) f ≡ Some st
    → client_takes net.client net.client.stage (tag_of (heard y.0)) y.1 ≡ Some tk
    → IsOne u net.client tk st
    → event ≡ st.event
    → s.client.state ≡ st.state
    → (t.lanes t.top).up ++ x.more ≡ (t.lanes t.top).up ++ written st.writes
    → s.client.held.rest ++ (t.lanes t.top).down ≡ []
    → Kept u w n b (noted_event event t.client.state t.top notes) s (net_after net tk)
taken-one laws u w n b notes event t s net x less k y f st tk reply downs waits takes_st takes_tk one comes state sent rest =
    let m = k.mirrors in
    let c : Client = net.client in
    let well = takes-well t.client.state (Some reply.code) f st reply.reply.reply takes_st in
    let told = subst (λ (e : client_event.Event). NotedBy notes (noted_event e t.client.state t.top notes) t.top tk) (sym comes) (noted-by u c t.client.state notes t.top (tag_of (heard y.0)) y.1 tk st m.client one well.linked (takes-kind t.client.state (Some reply.code) f st reply.reply.reply takes_st) takes_tk k.row) in
    writes-keep laws.keeps u w n b notes (noted_event event t.client.state t.top notes) t s net (net_after net tk) x.more less k x.grows
    (record {
      event = run.ToClient;
      step = ap (net_to_client net) downs ∙ ap (net_taken net []) takes_tk;
      legal = tt;
      allowed = λ j. tt;
      row = told.row;
      numbers = told.numbers;
      again = told.again;
      first = told.first;
      number = refl;
      writes = tk.writes;
      left = [];
      end = record { number = (net.links net.top).end.number; ended = (net.links net.top).end.ended; got = (net.links net.top).end.got || tk.got };
      client = tk.client;
      is = refl;
      stands = λ stage h. got-stands (net.links net.top).end ((net.links net.top).end.got || tk.got) stage h;
      ended = λ h. h;
      empty = up-none (net.links net.top).up y (subst (λ (l : List (Request × Answer)). length (net.links net.top).up + length l ≤ 1) downs (one-each laws.one u w n b notes t net k net.top));
      one = subst (IsClient u tk.client) (sym state) one.client;
      linked = subst (λ (z : ClientState). z.stage ≢ stages.Unlinked) (sym state) well.linked;
      token = token-stays-fit c (tag_of (heard y.0)) y.1 tk m.token (block-typed c (heard y.0) y.1 reply.code f.payload waits reply.answer reply.typed) takes_tk;
      calls = subst (AreAsked u (calls_of tk.client)) (sym x.calls) (subst (λ (l : List Call). AreAsked u l t.calls) (sym (same-calls c tk st.event one.results one.waits (λ told none. well.told told (m.client.waiting ∙ ap (waiting_of u) none)))) m.calls);
      results = subst (λ (l : List Done). AreTold l s.results) (sym one.results)
          (subst (AreTold (c.results ++ results_with st.event c.wait)) (sym (x.results ∙ ap (λ (z : client_event.Event). t.results ++ told_in z) comes))
          (told-more st.event c.wait c.results t.results (λ told none. well.told told (m.client.waiting ∙ ap (waiting_of u) none)) m.results));
      frame = st.writes;
      frames = one.writes;
      bytes = sent;
      comes = λ live. rest;
    })

-- by what both do with it
taken-both : ClientLaws → (u : Setup) (w : World) (n : ℕ) (b : Bool) (notes : Notes) (event : client_event.Event) (t s : Things) (net : Net World) (x : IsTaken event t s) (less : b ≡ true → (noted_event event t.client.state t.top notes).row < 1900) (k : Kept u w n b notes t net) (y : Request × Answer) (f : Frame) (o : Option Step) (p : Option Taken)
    → (reply : IsReplyWith u net.client.opening_id y.0 y.1 f)
    → (net.links net.top).down ≡ y ∷ []
    → request_that_waits net.client net.client.stage ≡ Some (heard y.0)
    → takes t.client.state (Some reply.code) f ≡ o
    → client_takes net.client net.client.stage (tag_of (heard y.0)) y.1 ≡ p
    → AreSame u net.client p o
    → IsDecided o t.client (t.lanes t.top).up event s.client ((t.lanes t.top).up ++ x.more)
    → event ≢ events.Memory
    → ((place : ℕ) → event ≢ events.Bad place)
    → s.client.held.rest ++ (t.lanes t.top).down ≡ []
    → (after : Net World) × Kept u w n b (noted_event event t.client.state t.top notes) s after
taken-both laws u w n b notes event t s net x less k y f None p reply downs waits takes_o takes_p same (inl bad) no_memory no_bad rest = absurd (no_bad t.client.held.place bad)
taken-both laws u w n b notes event t s net x less k y f None p reply downs waits takes_o takes_p same (inr memory) no_memory no_bad rest = absurd (no_memory memory)
taken-both laws u w n b notes event t s net x less k y f (Some st) p reply downs waits takes_o takes_p same (inr memory) no_memory no_bad rest = absurd (no_memory memory)
taken-both laws u w n b notes event t s net x less k y f (Some st) None reply downs waits takes_o takes_p same (inl made) no_memory no_bad rest = absurd same
taken-both laws u w n b notes event t s net x less k y f (Some st) (Some tk) reply downs waits takes_o takes_p same (inl made) no_memory no_bad rest =
    (net_after net tk, taken-one laws u w n b notes event t s net x less k y f st tk reply downs waits takes_o takes_p same made.comes made.state made.sent rest)

no-frame : (first : List ℕ) (f : Frame) → IsSpelling first f → first ≡ [] → ⊥
no-frame first f spelt none = let e : [] ≡ header spelt.reserved f ++ f.payload = sym none ∙ spelt.whole in absurd (cc)

taken-by : ClientLaws → (u : Setup) (w : World) (n : ℕ) (b : Bool) (notes : Notes) (event : client_event.Event) (t s : Things) (net : Net World) (x : IsTaken event t s) (less : b ≡ true → (noted_event event t.client.state t.top notes).row < 1900) (k : Kept u w n b notes t net) → TakesNext t.client (t.lanes t.top).up event s.client ((t.lanes t.top).up ++ x.more)
    → event ≢ events.Memory → ((place : ℕ) → event ≢ events.Bad place)
    → AreToThat (request_that_waits net.client net.client.stage) (net.links net.top).down
    → (downs : List (Request × Answer)) → (net.links net.top).down ≡ downs → AreComing u net.client.opening_id (t.client.held.rest ++ (t.lanes t.top).down) downs → (after : Net World) × Kept u w n b (noted_event event t.client.state t.top notes) s after
taken-by laws u w n b notes event t s net x less k next no_memory no_bad that [] downs way =
    let none : t.client.held.rest ≡ [] = first-none t.client.held.rest (t.lanes t.top).down way in
    absurd (no-frame next.first next.frame next.spelling (first-none next.first s.client.held.rest (sym next.whole ∙ none)))
taken-by laws u w n b notes event t s net x less k next no_memory no_bad that (y ∷ []) downs (f, bytes, reply) =
    let m = k.mirrors in
    let spelt = laws.spelling f reply.good in
    let e : next.first ++ (s.client.held.rest ++ (t.lanes t.top).down) ≡ canonical_frame f ++ [] =
    sym (append_assoc next.first s.client.held.rest (t.lanes t.top).down) ∙ ap (λ (l : List ℕ). l ++ (t.lanes t.top).down) (sym next.whole) ∙ bytes ∙ sym (append-nil (canonical_frame f)) in
    let two = laws.same_bytes next.first (s.client.held.rest ++ (t.lanes t.top).down) (canonical_frame f) [] next.frame f next.spelling spelt e in
    let none : s.client.held.rest ≡ [] = first-none s.client.held.rest (t.lanes t.top).down two.1 in
    let begins_f : Begins t.client.held.rest f = record { first = canonical_frame f; more = []; whole = next.whole ∙ (λ i. two.0 i ++ none i); spelling = spelt } in
    let waits : request_that_waits net.client net.client.stage ≡ Some (heard y.0) = (subst (AreToThat (request_that_waits net.client net.client.stage)) downs that).0 in
    taken-both laws u w n b notes event t s net x less k y f (takes t.client.state (Some reply.code) f) (client_takes net.client net.client.stage (tag_of (heard y.0)) y.1) reply downs waits refl refl
    (laws.replies u net.client t.client.state (heard y.0) y.1 reply.code f m.client m.linked waits reply.reply reply.typed reply.answer)
    (laws.decides t.client s.client (t.lanes t.top).up ((t.lanes t.top).up ++ x.more) event f (Some reply.code) next.live begins_f reply.word x.happens) no_memory no_bad two.1
taken-by laws u w n b notes event t s net x less k next no_memory no_bad that (y ∷ z ∷ zs) downs way = absurd way

taken-next : ClientLaws → (u : Setup) (w : World) (n : ℕ) (b : Bool) (notes : Notes) (event : client_event.Event) (t s : Things) (net : Net World) (x : IsTaken event t s) (less : b ≡ true → (noted_event event t.client.state t.top notes).row < 1900) (k : Kept u w n b notes t net) → TakesNext t.client (t.lanes t.top).up event s.client ((t.lanes t.top).up ++ x.more)
    → event ≢ events.Memory → ((place : ℕ) → event ≢ events.Bad place) → (after : Net World) × Kept u w n b (noted_event event t.client.state t.top notes) s after
taken-next laws u w n b notes event t s net x less k next no_memory no_bad =
    let m = k.mirrors in
    let c : Client = net.client in
    let alive = live-stage c.stage c.tries c.opening_id c.token t.client.state.stage m.client.stage m.linked next.live in
    let only = only-waits laws.waiting u w n b notes t net k alive in
    taken-by laws u w n b notes event t s net x less k next no_memory no_bad only.1 (net.links net.top).down refl
    (subst (λ (l : ℕ). AreComing u c.opening_id (t.client.held.rest ++ (t.lanes t.top).down) (net.links l).down) (sym m.top) (m.coming alive))

taken-none : (u : Setup) (w : World) (n : ℕ) (b : Bool) (notes : Notes) (event : client_event.Event) (t s : Things) (net : Net World) (x : IsTaken event t s) → Kept u w n b notes t net → StaysAsItIs t.client (t.lanes t.top).up s.client ((t.lanes t.top).up ++ x.more) → told_in event ≡ [] → (after : Net World) × Kept u w n b notes s after
taken-none u w n b notes event t s net x k stays untold =
    let l : Lane = t.lanes t.top in
    let down : (s.lanes t.top).down ≡ l.down = ap (λ (y : Lane). y.down) x.grows.up in
    let lane : s.lanes t.top ≡ with_down l (s.lanes t.top).down = x.grows.up ∙ (λ i. record { wire = l.wire; ended = l.ended; up = stays.nothing_written i; down = sym down i }) in (
      net,
      still u w n b notes t s net k (ap (λ (y : states.Client). y.state) stays.client) (λ i. (stays.client i).held.rest ++ down i) lane x.grows.only
          x.calls (x.results ∙ ap (λ (r : List cached.Answer). t.results ++ r) untold ∙ append-nil t.results) x.grows.shown,
    )

pub taken-keeps : ClientLaws → (u : Setup) (w : World) (n : ℕ) (b : Bool) (notes : Notes) (event : client_event.Event) (t s : Things) (net : Net World) → IsTaken event t s → (b ≡ true → (noted_event event t.client.state t.top notes).row < 1900) → Kept u w n b notes t net → (after : Net World) × Kept u w n b (noted_event event t.client.state t.top notes) s after
taken-keeps laws u w n b notes events.NotYet t s net x less k = taken-none u w n b notes events.NotYet t s net x k x.happens.stays refl
taken-keeps laws u w n b notes (events.Bad place) t s net x less k = taken-none u w n b notes (events.Bad place) t s net x k x.happens.stays refl
taken-keeps laws u w n b notes events.Memory t s net x less k = taken-none u w n b notes events.Memory t s net x k x.happens refl
taken-keeps laws u w n b notes events.Step t s net x less k = taken-next laws u w n b notes events.Step t s net x less k x.happens (λ e. cc) (λ place e. cc)
taken-keeps laws u w n b notes events.Ready t s net x less k = taken-next laws u w n b notes events.Ready t s net x less k x.happens (λ e. cc) (λ place e. cc)
taken-keeps laws u w n b notes (events.Told code block) t s net x less k = taken-next laws u w n b notes (events.Told code block) t s net x less k x.happens (λ e. cc) (λ place e. cc)
taken-keeps laws u w n b notes (events.Refused code) t s net x less k = taken-next laws u w n b notes (events.Refused code) t s net x less k x.happens (λ e. cc) (λ place e. cc)
taken-keeps laws u w n b notes (events.Lost code) t s net x less k = taken-next laws u w n b notes (events.Lost code) t s net x less k x.happens (λ e. cc) (λ place e. cc)
taken-keeps laws u w n b notes events.Tickle t s net x less k = taken-next laws u w n b notes events.Tickle t s net x less k x.happens (λ e. cc) (λ place e. cc)
taken-keeps laws u w n b notes (events.Attention word) t s net x less k = taken-next laws u w n b notes (events.Attention word) t s net x less k x.happens (λ e. cc) (λ place e. cc)
taken-keeps laws u w n b notes events.Closed t s net x less k = taken-next laws u w n b notes events.Closed t s net x less k x.happens (λ e. cc) (λ place e. cc)
