-- What is done at the client.
use Rattle.std.proofs.Common.{◌≡◌, ◌≢◌, ◌∙◌, inl, inr, refl, sym, ap, subst, ℕ, ◌≤◌, ◌<◌, Bool, true, false, List, [], ◌∷◌, ◌++◌, Option, Some, None, arith, append_assoc}
use Rattle.std.specs.Prelude.{map}
use Rattle.std.proofs.lemmas.Bool.{cases_eq}
use Rattle.afp_client.specs.session.Laws.{FrameDecides}
use Rattle.afp_client.specs.session.State.{ClientState, is_lost}
use Rattle.afp_client.specs.session.Takes.{Step, asked, begun, broken, stage_begun, stage_broken, takes}
use Rattle.afp_client.specs.session.Takes as real
use Rattle.afp_client.specs.declared.session.stage.Stage as client_stage
use Rattle.afp_client.specs.declared.session.stage.Stage.TheVariants as stages
use Rattle.afp_client.specs.declared.session.stage.OpeningStep.TheVariants as steps
use Rattle.afp_serial.specs.Shown.{IsSoundShown, Shown}
use Rattle.afp_serial.specs.World.{World}
use Rattle.afp_server.specs.declared.link.stage.Stage as server_stage
use Rattle.dsi_frame.specs.Frame.{Frame, IsGood, IsSpelling, canonical_frame}
use Rattle.dsi_frame.specs.Replies.{listed}
use Rattle.once_across_breaks.proofs.OfOnce.Events.{set-at, set-off}
use Rattle.once_across_breaks.specs.once.Frames.{AllNetAllowed, AreThat, AreToThat, Carrier, End, Heard, Net, NetAllowed, heard, net_run, net_start, net_step}
use Rattle.once_across_breaks.specs.once.Laws.{OneFrameEach, OnlyTheWaitingEach}
use Rattle.once_across_breaks.specs.once.Messages.{Answer, wire_id}
use Rattle.once_across_breaks.specs.once.Run.{Client, Entering, Event, Gone, Joining, Opening, Ready, Request, Stage, Wait}
use Rattle.once_across_breaks.specs.once.Serial.{IsSoundUnder, Setup, machine}
use Rattle.once_across_breaks.specs.once.Server.{set}
use Rattle.once_across_breaks.specs.once.Tokens.{AllLegal}
use Rattle.once_across_breaks.specs.once.UnderWay.{AllFit, EventsKeepFitting, IsLegal, NetFits, TokenFits}
use Rattle.once_across_breaks_code.specs.client.Related.{IsClient, IsStage, waiting_of}
use Rattle.once_across_breaks_code.specs.client.Requests.{frame_of}
use Rattle.once_across_breaks_code.specs.client.Steps.{AsksAreCommands, BeginsAreBreaks, BreaksStay, CallsAreCommands, RepliesAreTaken}
use Rattle.once_across_breaks.specs.once.Server as law
use Rattle.once_across_breaks_code.specs.server.Asked.{world_of}
use Rattle.once_across_breaks_code.specs.server.Ties.{AreEntries, IsEnd}
use Rattle.once_across_breaks_code.specs.run.Doings.{IsBrought, OnlyAt, UpGrows}
use Rattle.once_across_breaks_code.specs.run.Mirrors.{AreComing, AreTold, AreUnderWay, IsLane, AreAsked, calls_of}
use Rattle.once_across_breaks_code.specs.run.Things.{Lane, Things}
use Rattle.once_across_breaks_code.specs.run.Premises.{Notes}
use Rattle.once_across_breaks_code.proofs.OfRun.Allowed.{AreFirst, IsAmong, allowed-append}
use Rattle.once_across_breaks_code.proofs.OfRun.AtLink.{legal-append}
use Rattle.once_across_breaks_code.proofs.OfRun.Courses.{Kept, more-run}
use Rattle.once_across_breaks_code.proofs.OfRun.Spelled.{more-under, writes-under}

-- ---- where the net stays

-- the same server end, with other bytes under way to the client
abbrev pub with_down : Lane → List ℕ → Lane
with_down l d = record { wire = l.wire; ended = l.ended; up = l.up; down = d }

redown : (u : Setup) (l : Lane) (d : List ℕ) (c : Carrier) → IsLane u l c → IsLane u (with_down l d) c
redown u l d c h = record {
  live = λ e. let g = h.live e in record { end = g.end; bytes = g.bytes; past = g.past; given = g.given; last = g.last; under_way = g.under_way };
  ended = h.ended;
}

pub still : (u : Setup) (w : World) (n : ℕ) (b : Bool) (notes : Notes) (t s : Things) (net : Net World) → Kept u w n b notes t net
    → s.client.state ≡ t.client.state
    → s.client.held.rest ++ (s.lanes t.top).down ≡ t.client.held.rest ++ (t.lanes t.top).down
    → s.lanes t.top ≡ with_down (t.lanes t.top) (s.lanes t.top).down
    → OnlyAt t.top t s
    → s.calls ≡ t.calls
    → s.results ≡ t.results
    → s.shown ≡ t.shown
    → Kept u w n b notes s net
still u w n b notes t s net k state bytes lane only calls results shown =
    let m = k.mirrors in
    record {
      events = k.events;
      is_run = k.is_run;
      mirrors = record {
        client = subst (IsClient u net.client) (sym state) m.client;
        linked = subst (λ (x : ClientState). x.stage ≢ stages.Unlinked) (sym state) m.linked;
        token = m.token;
        world = m.world ∙ ap world_of (sym shown);
        history = subst (λ (x : Shown). AreEntries u net.history x.history) (sym shown) m.history;
        calls = subst (AreAsked u (calls_of net.client)) (sym calls) m.calls;
        results = subst (AreTold net.client.results) (sym results) m.results;
        top = m.top ∙ sym only.top;
        each = λ j within. elim (cases_eq j t.top) [
          | inl same ↦ subst (λ (l : ℕ). IsLane u (s.lanes l) (net.links l)) (sym same) (subst (λ (l : Lane). IsLane u l (net.links t.top)) (sym lane) (redown u (t.lanes t.top) (s.lanes t.top).down (net.links t.top) (m.each t.top (omega arith))))
          | inr off ↦ subst (λ (l : Lane). IsLane u l (net.links j)) (sym (only.others j off)) (m.each j (subst (λ (n : ℕ). j ≤ n) only.top within))
        ];
        going = subst (λ (l : ℕ). (s.lanes l).ended ≡ false → AreUnderWay u (wire_id net.client.opening_id) ((s.lanes l).wire.held.rest ++ (s.lanes l).up) (net.links l).up) (sym only.top)
            (subst (λ (l : Lane). l.ended ≡ false → AreUnderWay u (wire_id net.client.opening_id) (l.wire.held.rest ++ l.up) (net.links t.top).up) (sym lane) m.going);
        coming = subst (λ (l : ℕ). net.client.stage ≢ Gone → AreComing u net.client.opening_id (s.client.held.rest ++ (s.lanes l).down) (net.links l).down) (sym only.top)
            (λ live. subst (λ (b : List ℕ). AreComing u net.client.opening_id b (net.links t.top).down) (sym bytes) (m.coming live));
      };
      fits = k.fits;
      start = ap (λ (x : Shown). x.start) shown ∙ k.start;
      shown = subst IsSoundShown (sym shown) k.shown;
      legal = k.legal;
      row = k.row;
      first = k.first;
      numbers = k.numbers;
      allowed = k.allowed;
    }

pub brought-keeps : (u : Setup) (w : World) (n : ℕ) (b : Bool) (notes : Notes) (t s : Things) (net : Net World) → IsBrought t s → Kept u w n b notes t net → Kept u w n b notes s net
brought-keeps u w n b notes t s net x k =
    let bytes : s.client.held.rest ++ (s.lanes t.top).down ≡ t.client.held.rest ++ (t.lanes t.top).down =
    ap (λ (l : List ℕ). l ++ (s.lanes t.top).down) x.held ∙ append_assoc t.client.held.rest x.piece (s.lanes t.top).down ∙ ap (λ (l : List ℕ). t.client.held.rest ++ l) (sym x.moved) in
    still u w n b notes t s net k x.state bytes x.lane x.only x.calls x.results x.shown

-- ---- where the client writes

-- The law's client is another behind an event, and wrote these requests on its newest link, on which nothing else is under way to its end.
pub record Writes (u : Setup) (notes new : Notes) (t s : Things) (net after : Net World) (more : List ℕ) : Type 0 where
  pub event : Event
  pub step : net_step (machine u) net event ≡ after
  pub legal : IsLegal (machine u) net.world event
  pub allowed : (n : ℕ) → NetAllowed (machine u) n net event
  pub writes : List Request
  pub left : List (Request × Answer)
  pub end : End
  pub client : Client
  pub is : after ≡ record { client = client; top = net.top; world = net.world; history = net.history; links = set net.links net.top (record { end = end; up = (net.links net.top).up ++ writes; down = left }) }
  pub row : client.row ≡ new.row
  pub numbers : new.numbers ≡ notes.numbers
  pub again : (j : ℕ) → (j ≡ t.top → ⊥) → new.again j ≡ notes.again j
  pub first : new.again t.top ≡ false → AreFirst writes
  pub number : end.number ≡ (net.links net.top).end.number
  pub stands : (stage : server_stage.Stage) → IsEnd stage (net.links net.top).end → IsEnd stage end
  pub ended : (net.links net.top).end.ended ≡ true → end.ended ≡ true
  pub empty : (net.links net.top).up ≡ []
  pub one : IsClient u client s.client.state
  pub linked : s.client.state.stage ≢ stages.Unlinked
  pub token : TokenFits client.token
  pub calls : AreAsked u (calls_of client) s.calls
  pub results : AreTold client.results s.results
  pub frame : Option Frame
  pub frames : listed frame ≡ map (frame_of u client.opening_id) writes
  pub bytes : (t.lanes t.top).up ++ more ≡ (t.lanes t.top).up ++ real.written frame
  pub comes : client.stage ≢ Gone → AreComing u client.opening_id (s.client.held.rest ++ (t.lanes t.top).down) left

abbrev grown : Lane → List ℕ → Lane
grown l more = record { wire = l.wire; ended = l.ended; up = l.up ++ more; down = l.down }

pub writes-keep : EventsKeepFitting → (u : Setup) (w : World) (n : ℕ) (b : Bool) (notes new : Notes) (t s : Things) (net after : Net World) (more : List ℕ) → (b ≡ true → new.row < 1900) → Kept u w n b notes t net → UpGrows t.top more t s → Writes u notes new t s net after more → Kept u w n b new s after
writes-keep keeps u w n b notes new t s net after more less k grows x =
    let m = k.mirrors in
    let here : Carrier = record { end = x.end; up = (net.links net.top).up ++ x.writes; down = x.left } in
    let run : after ≡ net_run (machine u) (net_start w) (k.events ++ x.event ∷ []) = sym x.step ∙ more-run u w n b notes t net k (x.event ∷ []) in
    let fits : NetFits (IsSoundUnder u.key) after = subst (NetFits (IsSoundUnder u.key)) x.step (keeps u net x.event m.token x.legal k.fits) in
    let there : after.links t.top ≡ here = ap (λ (n : Net World). n.links t.top) x.is ∙ set-at net.links net.top here t.top (sym m.top) in
    let off : (j : ℕ) → (j ≡ t.top → ⊥) → after.links j ≡ net.links j = λ j other. ap (λ (n : Net World). n.links j) x.is ∙ set-off net.links net.top here j (λ e. other (e ∙ m.top)) in
    let client : after.client ≡ x.client = ap (λ (n : Net World). n.client) x.is in
    let ups : (net.links net.top).up ++ x.writes ≡ x.writes = ap (λ (l : List Request). l ++ x.writes) x.empty in
    let all_fit : AllFit x.writes = subst AllFit ups (subst (λ (c : Carrier). AllFit c.up) there (fits.each t.top).up) in
    let under : AreUnderWay u (wire_id x.client.opening_id) (real.written x.frame) x.writes = writes-under u x.client.opening_id x.frame x.writes x.frames all_fit in
    let nothing : (t.lanes t.top).ended ≡ false → (t.lanes t.top).wire.held.rest ++ (t.lanes t.top).up ≡ [] =
    λ live. subst (λ (rs : List Request). AreUnderWay u (wire_id net.client.opening_id) ((t.lanes t.top).wire.held.rest ++ (t.lanes t.top).up) rs) (ap (λ (l : ℕ). (net.links l).up) (sym m.top) ∙ x.empty) (m.going live) in
    let way : (t.lanes t.top).ended ≡ false → AreUnderWay u (wire_id x.client.opening_id) ((t.lanes t.top).wire.held.rest ++ ((t.lanes t.top).up ++ more)) (after.links t.top).up =
    λ live. subst (λ (c : Carrier). AreUnderWay u (wire_id x.client.opening_id) ((t.lanes t.top).wire.held.rest ++ ((t.lanes t.top).up ++ more)) c.up) (sym there)
    (subst (AreUnderWay u (wire_id x.client.opening_id) ((t.lanes t.top).wire.held.rest ++ ((t.lanes t.top).up ++ more))) (sym ups)
    (subst (λ (b : List ℕ). AreUnderWay u (wire_id x.client.opening_id) ((t.lanes t.top).wire.held.rest ++ b) x.writes) (sym x.bytes)
    (more-under u (wire_id x.client.opening_id) (t.lanes t.top).wire.held.rest (t.lanes t.top).up (real.written x.frame) x.writes (nothing live) under))) in
    let lane : IsLane u (grown (t.lanes t.top) more) (after.links t.top) = record {
      live = λ live.
          let g = (m.each t.top (omega arith)).live live in
          record {
            end = subst (λ (c : Carrier). IsEnd (t.lanes t.top).wire.stage c.end) (sym there) (x.stands (t.lanes t.top).wire.stage (subst (λ (l : ℕ). IsEnd (t.lanes t.top).wire.stage (net.links l).end) (sym m.top) g.end));
            bytes = g.bytes;
            past = g.past;
            given = g.given;
            last = wire_id x.client.opening_id;
            under_way = way live;
          };
      ended = λ dead. ap (λ (c : Carrier). c.end.ended) there ∙ x.ended (ap (λ (l : ℕ). (net.links l).end.ended) m.top ∙ (m.each t.top (omega arith)).ended dead);
    } in
    record {
      events = k.events ++ x.event ∷ [];
      is_run = run;
      mirrors = record {
        client = subst (λ (c : Client). IsClient u c s.client.state) (sym client) x.one;
        linked = x.linked;
        token = subst (λ (c : Client). TokenFits c.token) (sym client) x.token;
        world = ap (λ (n : Net World). n.world) x.is ∙ m.world ∙ ap world_of (sym grows.shown);
        history = subst (λ (y : Shown). AreEntries u after.history y.history) (sym grows.shown) (subst (λ (h : List law.Entry). AreEntries u h t.shown.history) (sym (ap (λ (n : Net World). n.history) x.is)) m.history);
        calls = subst (λ (c : Client). AreAsked u (calls_of c) s.calls) (sym client) x.calls;
        results = subst (λ (c : Client). AreTold c.results s.results) (sym client) x.results;
        top = ap (λ (n : Net World). n.top) x.is ∙ m.top ∙ sym grows.only.top;
        each = λ j within. elim (cases_eq j t.top) [
          | inl same ↦ subst (λ (l : ℕ). IsLane u (s.lanes l) (after.links l)) (sym same) (subst (λ (l : Lane). IsLane u l (after.links t.top)) (sym grows.up) lane)
          | inr other ↦ subst (λ (l : Lane). IsLane u l (after.links j)) (sym (grows.only.others j other)) (subst (IsLane u (t.lanes j)) (sym (off j other)) (m.each j (subst (λ (n : ℕ). j ≤ n) grows.only.top within)))
        ];
        going = subst (λ (l : ℕ). (s.lanes l).ended ≡ false → AreUnderWay u (wire_id after.client.opening_id) ((s.lanes l).wire.held.rest ++ (s.lanes l).up) (after.links l).up) (sym grows.only.top)
            (subst (λ (l : Lane). l.ended ≡ false → AreUnderWay u (wire_id after.client.opening_id) (l.wire.held.rest ++ l.up) (after.links t.top).up) (sym grows.up)
            (subst (λ (c : Client). (t.lanes t.top).ended ≡ false → AreUnderWay u (wire_id c.opening_id) ((t.lanes t.top).wire.held.rest ++ ((t.lanes t.top).up ++ more)) (after.links t.top).up) (sym client) way));
        coming = subst (λ (l : ℕ). after.client.stage ≢ Gone → AreComing u after.client.opening_id (s.client.held.rest ++ (s.lanes l).down) (after.links l).down) (sym grows.only.top)
            (subst (λ (l : Lane). after.client.stage ≢ Gone → AreComing u after.client.opening_id (s.client.held.rest ++ l.down) (after.links t.top).down) (sym grows.up)
            (subst (λ (c : Client). c.stage ≢ Gone → AreComing u c.opening_id (s.client.held.rest ++ (t.lanes t.top).down) (after.links t.top).down) (sym client)
            (λ live. subst (λ (c : Carrier). AreComing u x.client.opening_id (s.client.held.rest ++ (t.lanes t.top).down) c.down) (sym there) (x.comes live))));
      };
      fits = fits;
      start = ap (λ (y : Shown). y.start) grows.shown ∙ k.start;
      shown = subst IsSoundShown (sym grows.shown) k.shown;
      legal = legal-append u (net_start w) k.events (x.event ∷ []) k.legal (subst (λ (a : Net World). AllLegal u a (x.event ∷ [])) k.is_run (x.legal, tt));
      row = ap (λ (c : Client). c.row) client ∙ x.row;
      first = λ j unset. elim (cases_eq j t.top) [
        | inl same ↦ subst (λ (l : ℕ). AreFirst (after.links l).up) (sym same) (subst (λ (c : Carrier). AreFirst c.up) (sym there) (subst AreFirst (sym ups) (x.first (ap new.again (sym same) ∙ unset))))
        | inr other ↦ subst (λ (c : Carrier). AreFirst c.up) (sym (off j other)) (k.first j (sym (x.again j other) ∙ unset))
      ];
      numbers = λ j l is. subst (IsAmong l) (sym x.numbers) (k.numbers j l (elim (cases_eq j t.top) [
        | inl same ↦
            let at_top : (after.links t.top).end.number ≡ Some l = subst (λ (a : ℕ). (after.links a).end.number ≡ Some l) same is in
            subst (λ (a : ℕ). (net.links a).end.number ≡ Some l) (m.top ∙ sym same) (sym x.number ∙ ap (λ (c : Carrier). c.end.number) (sym there) ∙ at_top)
        | inr other ↦ ap (λ (c : Carrier). c.end.number) (sym (off j other)) ∙ is
      ]));
      allowed = λ so.
          let row : (net_step (machine u) net x.event).client.row < 1900 =
          let e = ap (λ (a : Net World). a.client.row) x.step ∙ ap (λ (c : Client). c.row) client ∙ x.row in
          let small = less so in
          omega (arith, e, small) in
          allowed-append u n (net_start w) k.events (x.event ∷ []) (k.allowed so) (subst (λ (a : Net World). AllNetAllowed (machine u) n a (x.event ∷ [])) k.is_run (x.allowed n, row, tt));
    }

-- ---- what is seen of its stage

pub live-stage : (stage : Stage) (tries opening_id : ℕ) (token : Option (List ℕ)) (there : client_stage.Stage) → IsStage stage tries opening_id token there → there ≢ stages.Unlinked → is_lost there ≡ false → stage ≢ Gone
live-stage stage tries opening_id token stages.Unlinked is linked live gone = linked refl
live-stage stage tries opening_id token (stages.Opening steps.OpenSession id retries) is linked live gone = let e : Opening ≡ Gone = sym is.0 ∙ gone in absurd (cc)
live-stage stage tries opening_id token (stages.Opening steps.Login id retries) is linked live gone = let e : Entering ≡ Gone = sym is.0 ∙ gone in absurd (cc)
live-stage stage tries opening_id token (stages.Opening steps.Session id retries) is linked live gone = let e : Joining ≡ Gone = sym is.0 ∙ gone in absurd (cc)
live-stage stage tries opening_id token stages.Ready is linked live gone = let e : Ready ≡ Gone = sym is.0 ∙ gone in absurd (cc)
live-stage stage tries opening_id token stages.Lost is linked live gone = absurd (cc)

-- ---- a call that is asked

pub waits-none : (u : Setup) (wait : Option Wait) → waiting_of u wait ≡ None → wait ≡ None
waits-none u None e = refl
waits-none u (Some w) e = absurd (cc)

pub none-that : (rs : List Request) (o : Option Heard) → o ≡ None → AreThat o rs → rs ≡ []
none-that [] o none h = refl
none-that (r ∷ rs) o none h = let e : None ≡ Some (heard r) = sym none ∙ h.0 in absurd (cc)

pub record ClientLaws : Type 0 where
  pub keeps : EventsKeepFitting
  pub one : OneFrameEach
  pub waiting : OnlyTheWaitingEach
  pub decides : FrameDecides
  pub same_bytes : (first more other others : List ℕ) (f g : Frame) → IsSpelling first f → IsSpelling other g → first ++ more ≡ other ++ others → (first ≡ other) × (more ≡ others)
  pub spelling : (f : Frame) → IsGood f → IsSpelling (canonical_frame f) f
  pub calls : CallsAreCommands
  pub breaks : BreaksStay
  pub begins : BeginsAreBreaks
  pub asks : AsksAreCommands
  pub replies : RepliesAreTaken
