-- Where the events at one link lead, of things that a net mirrors.
use Rattle.std.proofs.Common.{◌≡◌, ◌≢◌, ◌∙◌, inl, inr, refl, sym, ap, subst, ℕ, ◌+◌, ◌≤◌, ◌<◌, arith, Bool, true, false, List, [], ◌∷◌, ◌++◌, Option, Some, None, append-nil}
use Rattle.std.specs.Prelude.{map, length}
use Rattle.std.proofs.lemmas.Bool.{cases_eq, cond_both}
use Rattle.afp_serial.specs.declared.ask.Entry as entries
use Rattle.afp_serial.specs.Shown.{IsSoundShown}
use Rattle.afp_serial.specs.Token.{session_token}
use Rattle.afp_serial.specs.World.{World}
use Rattle.afp_server.specs.declared.link.stage.FrameEnd.{FrameEnd}
use Rattle.afp_server.specs.declared.link.stage.Stage.{Stage}
use Rattle.dsi_frame.specs.Frame.{Frame}
use Rattle.once_across_breaks.specs.once.Frames.{AllNetAllowed, Carrier, Heard, Net, OneFrame, net_arrives, net_ends, net_parts, net_quiet, net_quiet_by, net_run, net_start, net_step, net_tells, net_to_server}
use Rattle.once_across_breaks.specs.once.Messages.{Answer, wire_id}
use Rattle.once_across_breaks.specs.once.Run.{Breaks, Client, Commands, Drains, Ends, Event, Gone, Loses, Others, Quiet, Request, ToClient, ToServer, Wish}
use Rattle.once_across_breaks.specs.once.Serial.{IsSoundUnder, Setup, machine}
use Rattle.once_across_breaks.specs.once.Server as law
use Rattle.once_across_breaks.specs.once.Server.{Ask, Bye, Displaced, Live, Lost, Opened, Parted, Pulse, Ran, Reply, Told, entry}
use Rattle.once_across_breaks.specs.once.Tokens.{AllLegal}
use Rattle.once_across_breaks.specs.once.UnderWay.{EventsKeepFitting, IsLegal, NetFits, TokenFits}
use Rattle.once_across_breaks_code.specs.server.Among.{AreAtLink, Course, IsAtLink, Passes, heard_reply, unnumbered}
use Rattle.once_across_breaks_code.specs.server.Asked.{world_of}
use Rattle.once_across_breaks_code.specs.server.Ties.{AreEntries, reply_frames}
use Rattle.once_across_breaks_code.proofs.OfServer.Entries.{entries-join}
use Rattle.once_across_breaks_code.specs.run.Things.{Lane, Things}
use Rattle.once_across_breaks_code.specs.run.Premises.{Notes}
use Rattle.once_across_breaks_code.proofs.OfRun.Allowed.{AreFirst, IsAmong, KeepsOut, Remembers, TokenLaws, allowed-append, along-allowed, numbered-along}
use Rattle.once_across_breaks_code.proofs.OfRun.AtLink.{fits-along, legal-along, legal-append}
use Rattle.once_across_breaks_code.proofs.OfServer.Courses.{run-append}
use Rattle.once_across_breaks_code.specs.run.Doings.{ClientStays}
use Rattle.once_across_breaks_code.specs.run.Mirrors.{AreComing, AreTold, AreAsked, AreUnderWay, IsLane, Mirrors, calls_of}
use Rattle.afp_base.specs.Cached as cached
use Rattle.afp_client.specs.session.State as states
use Rattle.afp_client.specs.declared.session.stage.Stage.TheVariants as client_stages
use Rattle.once_across_breaks_code.specs.client.Related.{IsClient}

abbrev IsClientOf : Setup → Client → Things → Type 0
IsClientOf u c s = IsClient u c s.client.state

abbrev GoingAt : Setup → Net World → Things → ℕ → Type 0
GoingAt u net s l = (s.lanes l).ended ≡ false → AreUnderWay u (wire_id net.client.opening_id) ((s.lanes l).wire.held.rest ++ (s.lanes l).up) (net.links l).up

abbrev ComingAt : Setup → Net World → Things → ℕ → Type 0
ComingAt u net s l = net.client.stage ≢ Gone → AreComing u net.client.opening_id (s.client.held.rest ++ (s.lanes l).down) (net.links l).down

-- ---- what is kept

-- A schedule from that world leads to a net that mirrors these things, and what is under way fits. The law's net has what is noted; and where the run keeps the premises for
-- the session n, the law allows the events.
pub record Kept (u : Setup) (w : World) (n : ℕ) (b : Bool) (notes : Notes) (t : Things) (net : Net World) : Type 0 where
  pub events : List Event
  pub is_run : net ≡ net_run (machine u) (net_start w) events
  pub mirrors : Mirrors u t net
  pub fits : NetFits (IsSoundUnder u.key) net
  pub start : t.shown.start ≡ w
  pub shown : IsSoundShown t.shown
  pub legal : AllLegal u (net_start w) events
  pub row : net.client.row ≡ notes.row
  pub first : (i : ℕ) → notes.again i ≡ false → AreFirst (net.links i).up
  pub numbers : (i l : ℕ) → (net.links i).end.number ≡ Some l → IsAmong l notes.numbers
  pub allowed : b ≡ true → AllNetAllowed (machine u) n (net_start w) events

pub more-run : (u : Setup) (w : World) (n : ℕ) (b : Bool) (notes : Notes) (t : Things) (net : Net World) (k : Kept u w n b notes t net) (es : List Event) → net_run (machine u) net es ≡ net_run (machine u) (net_start w) (k.events ++ es)
more-run u w n b notes t net k es = ap (λ (x : Net World). net_run (machine u) x es) k.is_run ∙ sym (run-append u (net_start w) k.events es)

-- at most one frame is under way on each link
pub one-each : ((v : Setup) → OneFrame (machine v)) → (u : Setup) (w : World) (n : ℕ) (b : Bool) (notes : Notes) (t : Things) (net : Net World) → Kept u w n b notes t net → (i : ℕ) → length (net.links i).up + length (net.links i).down ≤ 1
one-each one u w n b notes t net k i = subst (λ (x : Net World). length (x.links i).up + length (x.links i).down ≤ 1) (sym k.is_run) (one u w k.events i)

-- what the course does not speak of
pub record Stays (i : ℕ) (es : List entries.Entry) (old new : Things) : Type 0 where
  pub client : ClientStays old new
  pub top : new.top ≡ old.top
  pub others : (j : ℕ) → j ≢ i → new.lanes j ≡ old.lanes j
  pub start : new.shown.start ≡ old.shown.start
  pub history : new.shown.history ≡ old.shown.history ++ es
  pub shown : IsSoundShown new.shown

-- What is noted behind it: the numbers of the links, of which the link's own may be new. What others asked keeps out of them; and no request was told want of memory, or
-- none that was written again.
pub record NotesBehind (u : Setup) (n : ℕ) (b : Bool) (x y : Notes) (q : entries.Entry → Bool) (i : ℕ) (net : Net World) (events : List Event) : Type 0 where
  pub row : y.row ≡ x.row
  pub again : y.again ≡ x.again
  pub more : (l : ℕ) → IsAmong l x.numbers → IsAmong l y.numbers
  pub drawn : (l : ℕ) → ((net_run (machine u) net events).links i).end.number ≡ Some l → IsAmong l y.numbers
  pub first : x.again i ≡ false → AreFirst (net.links i).up → AreFirst ((net_run (machine u) net events).links i).up
  pub out : b ≡ true → (e : entries.Entry) → q e ≡ true → KeepsOut y.numbers (session_token u.key n) e
  pub remembers : b ≡ true → Remembers events (net.links i).up
  pub less : b ≡ true → y.row < 1900

-- Behind a course at a link the net mirrors what is there, where it does at that link.
pub course-keeps : TokenLaws → EventsKeepFitting → (u : Setup) (w : World) (n : ℕ) (b : Bool) (x y : Notes) (q : entries.Entry → Bool) (t s : Things) (net : Net World) (i : ℕ) (m : Bool) (stage : Stage) (end : Option FrameEnd) (left : List Request) (replies : List Frame) (es : List entries.Entry)
    → (k : Kept u w n b x t net)
    → (c : Course u q i net m stage end left replies es (world_of s.shown))
    → NotesBehind u n b x y q i net c.events
    → Stays i es t s
    → (i ≤ t.top → IsLane u (s.lanes i) ((net_run (machine u) net c.events).links i))
    → (i ≡ t.top → (s.lanes i).ended ≡ false → AreUnderWay u (wire_id net.client.opening_id) ((s.lanes i).wire.held.rest ++ (s.lanes i).up) ((net_run (machine u) net c.events).links i).up)
    → (i ≡ t.top → net.client.stage ≢ Gone → AreComing u net.client.opening_id (t.client.held.rest ++ (s.lanes i).down) ((net_run (machine u) net c.events).links i).down)
    → Kept u w n b y s (net_run (machine u) net c.events)
course-keeps laws keeps u w n b x y q t s net i m stage end left replies es k c notes stays here going coming =
    let p = c.passes in
    let m0 = k.mirrors in
    let after : Net World = net_run (machine u) net c.events in
    record {
      events = k.events ++ c.events;
      is_run = more-run u w n b x t net k c.events;
      mirrors = record {
        client = subst (λ (a : Client). IsClientOf u a s) (sym p.client) (subst (λ (y : states.Client). IsClient u net.client y.state) (sym stays.client.client) m0.client);
        linked = subst (λ (y : states.Client). y.state.stage ≢ client_stages.Unlinked) (sym stays.client.client) m0.linked;
        token = subst (λ (a : Client). TokenFits a.token) (sym p.client) m0.token;
        world = p.world;
        history = subst (λ (h : List law.Entry). AreEntries u h s.shown.history) (sym p.history) (subst (λ (h : List entries.Entry). AreEntries u (net.history ++ p.more) h) (sym stays.history) (entries-join u net.history p.more t.shown.history es m0.history p.asked));
        calls = subst (λ (a : Client). AreAsked u (calls_of a) s.calls) (sym p.client) (subst (AreAsked u (calls_of net.client)) (sym stays.client.calls) m0.calls);
        results = subst (λ (a : Client). AreTold a.results s.results) (sym p.client) (subst (λ (as_told : List cached.Answer). AreTold net.client.results as_told) (sym stays.client.results) m0.results);
        top = p.top ∙ m0.top ∙ sym stays.top;
        each = λ j within. elim (cases_eq j i) [
          | inl same ↦ subst (λ (l : ℕ). IsLane u (s.lanes l) (after.links l)) (sym same) (here (subst (λ (l : ℕ). l ≤ t.top) same (subst (λ (n : ℕ). j ≤ n) stays.top within)))
          | inr off ↦ subst (λ (l : Lane). IsLane u l (after.links j)) (sym (stays.others j off)) (subst (λ (x : Carrier). IsLane u (t.lanes j) x) (sym (p.elsewhere j off)) (m0.each j (subst (λ (n : ℕ). j ≤ n) stays.top within)))
        ];
        going = subst (GoingAt u after s) (sym stays.top) (elim (cases_eq t.top i) [
          | inl same ↦ λ live. subst (λ (a : Client). AreUnderWay u (wire_id a.opening_id) ((s.lanes t.top).wire.held.rest ++ (s.lanes t.top).up) (after.links t.top).up) (sym p.client)
              (subst (λ (l : ℕ). (s.lanes l).ended ≡ false → AreUnderWay u (wire_id net.client.opening_id) ((s.lanes l).wire.held.rest ++ (s.lanes l).up) (after.links l).up) (sym same) (going (sym same)) live)
          | inr off ↦ λ live. subst (λ (a : Client). AreUnderWay u (wire_id a.opening_id) ((s.lanes t.top).wire.held.rest ++ (s.lanes t.top).up) (after.links t.top).up) (sym p.client)
              (subst (λ (x : Carrier). AreUnderWay u (wire_id net.client.opening_id) ((s.lanes t.top).wire.held.rest ++ (s.lanes t.top).up) x.up) (sym (p.elsewhere t.top off))
              (subst (λ (l : Lane). l.ended ≡ false → AreUnderWay u (wire_id net.client.opening_id) (l.wire.held.rest ++ l.up) (net.links t.top).up) (sym (stays.others t.top off)) m0.going live))
        ]);
        coming = subst (ComingAt u after s) (sym stays.top) (elim (cases_eq t.top i) [
          | inl same ↦ λ live. coming-by (coming-here same live)
          | inr off ↦ λ live. coming-by (subst (λ (x : Carrier). AreComing u net.client.opening_id (t.client.held.rest ++ (s.lanes t.top).down) x.down) (sym (p.elsewhere t.top off))
              (subst (λ (l : Lane). AreComing u net.client.opening_id (t.client.held.rest ++ l.down) (net.links t.top).down) (sym (stays.others t.top off)) (m0.coming (λ gone. live (ap (λ (a : Client). a.stage) p.client ∙ gone)))))
        ]);
      };
      fits = fits-along keeps u q i net c.events c.here m0.token k.fits;
      start = stays.start ∙ k.start;
      shown = stays.shown;
      legal = legal-append u (net_start w) k.events c.events k.legal (subst (λ (a : Net World). AllLegal u a c.events) k.is_run (legal-along u q i net c.events c.here));
      row = ap (λ (a : Client). a.row) p.client ∙ k.row ∙ sym notes.row;
      first = λ j off. elim (cases_eq j i) [
        | inl same ↦ subst (λ (l : ℕ). AreFirst (after.links l).up) (sym same)
            (let none : x.again i ≡ false = ap (λ (l : ℕ). x.again l) (sym same) ∙ ap (λ (f : ℕ → Bool). f j) (sym notes.again) ∙ off in notes.first none (k.first i none))
        | inr other ↦ subst (λ (a : Carrier). AreFirst a.up) (sym (p.elsewhere j other)) (k.first j (ap (λ (f : ℕ → Bool). f j) (sym notes.again) ∙ off))
      ];
      numbers = λ j l is. elim (cases_eq j i) [
        | inl same ↦ notes.drawn l (subst (λ (a : ℕ). (after.links a).end.number ≡ Some l) same is)
        | inr other ↦ notes.more l (k.numbers j l (subst (λ (a : Carrier). a.end.number ≡ Some l) (p.elsewhere j other) is))
      ];
      allowed = λ so.
          allowed-append u n (net_start w) k.events c.events (k.allowed so)
          (subst (λ (a : Net World). AllNetAllowed (machine u) n a c.events) k.is_run
          (along-allowed laws keeps u n i y.numbers q net c.events c.here (notes.out so) m0.token k.fits
          (λ j l is. elim (cases_eq j i) [
            | inl same ↦ notes.drawn l (subst (λ (a : ℕ). (after.links a).end.number ≡ Some l) same is)
            | inr other ↦ notes.more l (k.numbers j l (subst (λ (a : Carrier). a.end.number ≡ Some l) (p.elsewhere j other) is))
          ])
          (notes.remembers so) (let less = notes.less so in let a = k.row in let d = notes.row in omega (arith, less, a, d))));
    }
  where
    coming-by : AreComing u net.client.opening_id (t.client.held.rest ++ (s.lanes t.top).down) ((net_run (machine u) net c.events).links t.top).down → AreComing u (net_run (machine u) net c.events).client.opening_id (s.client.held.rest ++ (s.lanes t.top).down) ((net_run (machine u) net c.events).links t.top).down
    coming-by x =
        subst (λ (y : Client). AreComing u y.opening_id (s.client.held.rest ++ (s.lanes t.top).down) ((net_run (machine u) net c.events).links t.top).down) (sym c.passes.client)
        (subst (λ (y : states.Client). AreComing u net.client.opening_id (y.held.rest ++ (s.lanes t.top).down) ((net_run (machine u) net c.events).links t.top).down) (sym stays.client.client) x)

    coming-here : t.top ≡ i → ((net_run (machine u) net c.events).client.stage ≢ Gone) → AreComing u net.client.opening_id (t.client.held.rest ++ (s.lanes t.top).down) ((net_run (machine u) net c.events).links t.top).down
    coming-here same live =
        subst (λ (l : ℕ). AreComing u net.client.opening_id (t.client.held.rest ++ (s.lanes l).down) ((net_run (machine u) net c.events).links l).down) (sym same)
        (coming (sym same) (λ gone. live (ap (λ (a : Client). a.stage) c.passes.client ∙ gone)))

-- ---- where nothing is replied

pub read-none : (u : Setup) (read : List ((ℕ × Heard) × Answer)) → [] ≡ reply_frames u read → read ≡ []
read-none u [] is = refl
read-none u (x ∷ xs) is = absurd (cc)

pub told-none : (read : List ((ℕ × Heard) × Answer)) (told : List (Request × Answer)) → map unnumbered read ≡ map heard_reply told → read ≡ [] → told ≡ []
told-none read [] same none = refl
told-none read (x ∷ xs) same none = let e : [] ≡ heard_reply x ∷ map heard_reply xs = sym (ap (map unnumbered) none) ∙ same in absurd (cc)

pub quiet-down : (u : Setup) (i : ℕ) (stage : Stage) (end : Option FrameEnd) (left : List Request) (replies : List Frame) (es : List entries.Entry) (behind : World) (old new : Net World) → (p : Passes u i stage end left replies es behind old new) → replies ≡ [] → (new.links i).down ≡ (old.links i).down
quiet-down u i stage end left replies es behind old new p none =
    p.down ∙ ap (λ (l : List (Request × Answer)). (old.links i).down ++ l) (told-none p.read p.told p.same (read-none u p.read (sym none ∙ p.says))) ∙ append-nil (old.links i).down
