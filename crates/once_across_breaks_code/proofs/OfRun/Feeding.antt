-- Bytes that reach a server end.
use Rattle.std.proofs.Common.{◌≡◌, ◌≢◌, ◌∙◌, inl, inr, refl, sym, ap, subst, ℕ, ◌+◌, ◌≤◌, Bool, true, false, List, [], ◌∷◌, ◌++◌, Option, Some, None, arith, append-nil, append_assoc, eq-eqb}
use Rattle.std.specs.Prelude.{◌||◌, length, is_some, nat_eq}
use Rattle.std.specs.List.{list_any}
use Rattle.std.proofs.lemmas.Bool.{cases_eq}
use Rattle.afp_serial.specs.Token.{session_token}
use Rattle.afp_serial.specs.Went.{Step}
use Rattle.afp_serial.specs.World.{World}
use Rattle.afp_serial.specs.declared.ask.Entry as entries
use Rattle.afp_server.specs.link.Script.{Script}
use Rattle.afp_server.specs.declared.link.tally.Tally.{Tally}
use Rattle.afp_server.specs.declared.link.stage.Stage.TheVariants as stages
use Rattle.afp_server.specs.link.Wire as wires
use Rattle.afp_server.specs.declared.link.stage.FrameEnd.{FrameEnd}
use Rattle.afp_server.specs.declared.link.stage.FrameEnd.TheVariants as ends
use Rattle.afp_server.specs.declared.link.stage.Stage.{Stage}
use Rattle.afp_server.specs.declared.link.wire.WireEnd.{WireEnd}
use Rattle.afp_server.specs.declared.link.wire.WireEnd.TheVariants as wire_ends
use Rattle.dsi_frame.specs.Buffered.{Buffered}
use Rattle.dsi_frame.specs.Deframe.{GivenOut}
use Rattle.dsi_frame.specs.Frame.{Frame, canonical_frame}
use Rattle.dsi_frame.specs.Replies.{spelling_of}
use Rattle.dsi_frame.specs.declared.frame.DsiCommand.TheVariants as commands
use Rattle.volume_spec.specs.TypedVolume.{are_bytes}
use Rattle.once_across_breaks.specs.once.Dsi.{request_frame}
use Rattle.once_across_breaks.specs.once.Frames.{AreThat, AreToThat, End, Heard, HeardOpen, Net, heard, net_run, net_start, request_that_waits}
use Rattle.once_across_breaks.specs.once.Laws.{OneFrameEach, OnlyTheWaitingEach}
use Rattle.once_across_breaks.specs.once.Messages.{Answer, wire_id}
use Rattle.once_across_breaks.specs.once.Run.{Asks, Client, Gone, Opens, Request}
use Rattle.once_across_breaks.specs.once.Serial.{Setup, machine}
use Rattle.once_across_breaks.specs.once.UnderWay.{AllDown, RepliesAreGood}
use Rattle.once_across_breaks_code.specs.server.Among.{Course, PiecesArrive, any_unasked, or_sweep}
use Rattle.once_across_breaks_code.specs.server.Asked.{OthersPassSince, world_of}
use Rattle.once_across_breaks_code.specs.server.Pieces.{EndsAs, HoldsOn, PiecesHaveFrames, TakesFrame}
use Rattle.once_across_breaks_code.specs.server.Ties.{IsEnd, IsEndBehind, WrittenCarries, WrittenIsGood}
use Rattle.once_across_breaks_code.proofs.OfServer.FedPieces.{not-answered}
use Rattle.once_across_breaks_code.specs.run.Doings.{IsCarriedOn, IsFed, Reaches, fed_at}
use Rattle.once_across_breaks_code.specs.run.Premises.{Keeps, Notes, number_at}
use Rattle.once_across_breaks_code.specs.run.Mirrors.{AreComing, AreUnderWay, GoesOn}
use Rattle.once_across_breaks_code.specs.run.Things.{Things}
use Rattle.once_across_breaks_code.proofs.OfRun.Allowed.{AreFirst, HasOpens, IsAmong, KeepsOut, Remembers, fate-along, kept-number, numbered-along}
use Rattle.once_across_breaks_code.proofs.OfRun.AtLink.{fits-along}
use Rattle.once_across_breaks_code.proofs.OfRun.AtServer.{ServerLaws, asks_out, coming-on, pass-since, stays-by, swept-by}
use Rattle.once_across_breaks_code.proofs.OfRun.Courses.{Kept, NotesBehind, course-keeps, more-run, one-each}
use Rattle.once_across_breaks_code.proofs.OfRun.Replies.{IsOpenedTo, replies-come, script-id, script-opened}

pub record FeedLaws : Type 0 where
  pub server : ServerLaws
  pub have : PiecesHaveFrames
  pub arrive : PiecesArrive
  pub carry : WrittenCarries
  pub good_requests : WrittenIsGood
  pub good : RepliesAreGood
  pub one : OneFrameEach
  pub waiting : OnlyTheWaitingEach

-- ---- lists without elements

pub middle-none : (a b c : List ℕ) → a ++ (b ++ c) ≡ [] → b ≡ []
middle-none [] [] c e = refl
middle-none [] (x ∷ b) c e = absurd (cc)
middle-none (x ∷ a) b c e = absurd (cc)

pub first-none : (a b : List ℕ) → a ++ b ≡ [] → a ≡ []
first-none [] b e = refl
first-none (x ∷ a) b e = absurd (cc)

pub down-none : (r : Request) (downs : List (Request × Answer)) → length (r ∷ []) + length downs ≤ 1 → downs ≡ []
down-none r [] short = refl
down-none r (x ∷ xs) short = absurd (omega (arith, short))

none-of : (result : Option WireEnd) → is_some result ≡ false → result ≡ None
none-of None is = refl
none-of (Some e) is = absurd (cc)

-- ---- what is under way, as the law says it of a net

abbrev pub OnlyWaitsAt : Net World → Type 0
OnlyWaitsAt n =
    (n.client.stage ≡ Gone → ⊥)
    → AreThat (request_that_waits n.client n.client.stage) (n.links n.top).up × AreToThat (request_that_waits n.client n.client.stage) (n.links n.top).down

pub only-waits : OnlyTheWaitingEach → (u : Setup) (w : World) (n : ℕ) (b : Bool) (notes : Notes) (t : Things) (net : Net World) → Kept u w n b notes t net → OnlyWaitsAt net
only-waits waiting u w n b notes t net k = subst OnlyWaitsAt (sym k.is_run) (waiting u w k.events)

-- ---- how a wire ends

fed-given : (start : wires.FeedStart) (bytes : List ℕ) (result : Option WireEnd) (held : Buffered) (p : wires.FeedPoint) → wires.Feeds start bytes result held p → result ≡ None → (past : List Frame) × GivenOut bytes past held
fed-given start bytes None held p (so_far, unfinished) is = (start.past ++ so_far.frames, so_far.given)
fed-given start bytes (Some e) held p f is = absurd (cc)

ends-on : (end : Option FrameEnd) (result : Option WireEnd) (held : Buffered) → EndsAs end result held → result ≡ None → (end ≡ None) × (held.rest ≡ [])
ends-on None result held (inl (n, e)) is = (refl, e)
ends-on None result held (inr m) is = absurd (let e : None ≡ Some wire_ends.Memory = sym is ∙ m in cc)
ends-on (Some ends.Closed) result held m is = absurd (let e : None ≡ Some wire_ends.Closed = sym is ∙ m in cc)
ends-on (Some ends.Displaced) result held m is = absurd (let e : None ≡ Some wire_ends.Displaced = sym is ∙ m in cc)
ends-on (Some (ends.Bad reason)) result held (place, m) is = absurd (let e : None ≡ Some (wire_ends.Bad (record { at = place; reason = reason })) = sym is ∙ m in cc)

ends-dead : (stage : Stage) (end : Option FrameEnd) (result : Option WireEnd) (held : Buffered) (e : End) → EndsAs end result held → result ≢ Some wire_ends.Memory → is_some result ≡ true → IsEndBehind stage end e → e.ended ≡ true
ends-dead stage None result held e (inl (n, x)) memory is comes = absurd (let f : false ≡ true = sym (ap is_some n) ∙ is in cc)
ends-dead stage None result held e (inr m) memory is comes = absurd (memory m)
ends-dead stage (Some x) result held e m memory is comes = comes

-- ---- the request that is under way

open-frame : (u : Setup) (last : ℕ) (r : Request) → heard r ≡ HeardOpen → ((request_frame u last (heard r)).reply ≡ false) × ((request_frame u last (heard r)).command ≡ commands.OpenSession) × ((request_frame u last (heard r)).id ≡ last)
open-frame u last Opens is = (refl, refl, refl)
open-frame u last (Asks id body again) is = absurd (cc)

-- which of them it is, and with which last id
record Under (u : Setup) (t : Things) (net : Net World) (i : ℕ) : Type 0 where
  last : ℕ
  way : AreUnderWay u last ((t.lanes i).wire.held.rest ++ (t.lanes i).up) (net.links i).up
  newest : i ≡ t.top → last ≡ wire_id net.client.opening_id

under : (u : Setup) (w : World) (n : ℕ) (b : Bool) (notes : Notes) (t : Things) (net : Net World) (i : ℕ) → Kept u w n b notes t net → (t.lanes i).ended ≡ false → GoesOn u (t.lanes i) (net.links i) → Under u t net i
under u w n b notes t net i k live g = elim (cases_eq i t.top) [
  | inl same ↦ record {
    last = wire_id net.client.opening_id;
    way = subst (λ (j : ℕ). (t.lanes j).ended ≡ false → AreUnderWay u (wire_id net.client.opening_id) ((t.lanes j).wire.held.rest ++ (t.lanes j).up) (net.links j).up) (sym same) k.mirrors.going live;
    newest = λ e. refl;
  }
  | inr off ↦ record { last = g.last; way = g.under_way; newest = λ e. absurd (off e) }
]

-- ---- what is noted behind a piece

abbrev pub fed_notes : Notes → Things → ℕ → Notes
fed_notes notes s i = record { numbers = number_at (s.lanes i).wire.stage ++ notes.numbers; again = notes.again; row = notes.row }

or-second : (a c : Bool) → c ≡ true → (a || c) ≡ true
or-second true c e = refl
or-second false c e = e

among-more : (stage : Stage) (l : ℕ) (numbers : List ℕ) → IsAmong l numbers → IsAmong l (number_at stage ++ numbers)
among-more stages.Fresh l numbers is = is
among-more (stages.Open link) l numbers is = or-second (nat_eq link.0 l) (list_any (λ number. nat_eq number l) numbers) is
among-more stages.Closing l numbers is = is

-- a step that was told want of memory shows in the tally
tally-told : (start : wires.FeedStart) (frames : List Frame) (end : Option FrameEnd) (p : wires.FeedPoint) (handled : wires.Handled start frames end p) (m : Bool) → (m ≡ true → any_unasked handled.steps ≡ true) → m ≡ true → p.tally.answered ≡ false
tally-told start frames end p handled m told is = ap (λ (y : Tally). y.answered) handled.tally ∙ not-answered true handled.steps (told is)

not-memory : (m answered : Bool) → (m ≡ true → answered ≡ false) → answered ≡ true → m ≡ false
not-memory true answered told is = absurd (let e : true ≡ false = sym is ∙ told refl in cc)
not-memory false answered told is = refl

fed-notes : (u : Setup) (w : World) (n : ℕ) (b : Bool) (notes : Notes) (q : entries.Entry → Bool) (i now : ℕ) (t s : Things) (net : Net World) (m : Bool) (stage : Stage) (end : Option FrameEnd) (left : List Request) (replies : List Frame) (es : List entries.Entry)
    → (k : Kept u w n b notes t net)
    → (c : Course u q i net m stage end left replies es (world_of s.shown))
    → (m ≡ true → (s.lanes i).wire.tally.answered ≡ false)
    → ((l : ℕ) → ((net_run (machine u) net c.events).links i).end.number ≡ Some l → IsAmong l (fed_notes notes s i).numbers)
    → (AreFirst (net.links i).up → AreFirst left)
    → (b ≡ true → Keeps u.key n (fed_notes notes s i) (Reaches i now) t s)
    → (b ≡ true → (e : entries.Entry) → q e ≡ true → KeepsOut (fed_notes notes s i).numbers (session_token u.key n) e)
    → NotesBehind u n b notes (fed_notes notes s i) q i net c.events
fed-notes u w n b notes q i now t s net m stage end left replies es k c told drawn firsts keep out = record {
  row = refl;
  again = refl;
  more = λ l is. among-more (s.lanes i).wire.stage l notes.numbers is;
  drawn = drawn;
  first = λ none first. subst AreFirst (sym c.passes.up) (firsts first);
  out = out;
  remembers = λ so. by (notes.again i) refl so;
  less = λ so. (keep so).row;
}
  where
    by : (a : Bool) → notes.again i ≡ a → b ≡ true → Remembers c.events (net.links i).up
    by true is so = inl (c.wants ∙ not-memory m (s.lanes i).wire.tally.answered told ((keep so).answered is))
    by false is so = inr (k.first i is)

opens-one : (r : Request) → HasOpens (r ∷ []) → heard r ≡ HeardOpen
opens-one Opens has = refl
opens-one (Asks id body again) has = absurd has

drawn-at : (stage : Stage) (e : End) (l : ℕ) (numbers : List ℕ) → IsOpenedTo stage → IsEnd stage e → e.number ≡ Some l → IsAmong l (number_at stage ++ numbers)
drawn-at stages.Fresh e l numbers to is number = absurd (let f : None ≡ Some l = sym is.0 ∙ number in cc)
drawn-at (stages.Open link) e l numbers to is number =
    let f : Some link.0 ≡ Some l = sym is.0 ∙ number in
    let same : link.0 ≡ l = cc in
    ap (λ (b : Bool). b || list_any (λ number. nat_eq number l) numbers) (eq-eqb link.0 l same)
drawn-at stages.Closing e l numbers to is number = absurd to

-- behind a frame the link has the number that it had, or the one that its OpenSession drew
drawn-there : (u : Setup) (n : ℕ) (b : Bool) (w : World) (notes : Notes) (q : entries.Entry → Bool) (i : ℕ) (t s : Things) (net : Net World) (r : Request) (last : ℕ) (m : Bool) (end : Option FrameEnd) (left : List Request) (replies : List Frame) (es : List entries.Entry) (ss : List Step)
    → (k : Kept u w n b notes t net)
    → (c : Course u q i net m (s.lanes i).wire.stage end left replies es (world_of s.shown))
    → (net.links i).up ≡ r ∷ []
    → IsEnd (t.lanes i).wire.stage (net.links i).end
    → Script (t.lanes i).wire.block (t.lanes i).wire.stage (request_frame u last (heard r) ∷ []) ss replies (s.lanes i).wire.stage end
    → (l : ℕ) → ((net_run (machine u) net c.events).links i).end.number ≡ Some l → IsAmong l (fed_notes notes s i).numbers
drawn-there u n b w notes q i t s net r last m end left replies es ss k c up there script l is = by (net.links i).end.number refl
  where
    by : (o : Option ℕ) → (net.links i).end.number ≡ o → IsAmong l (fed_notes notes s i).numbers
    by (Some j) has = among-more (s.lanes i).wire.stage l notes.numbers (k.numbers i l (has ∙ sym (numbered-along u q i net c.events c.here i j has) ∙ is))
    by None has = elim ((fate-along u q i net c.events c.here).0 has) [
      | inl still ↦ absurd (let e : None ≡ Some l = sym still.0 ∙ is in cc)
      | inr opened ↦
          let f = open-frame u last r (opens-one r (subst HasOpens up opened.opens)) in
          let to = script-opened (t.lanes i).wire.block (t.lanes i).wire.stage (s.lanes i).wire.stage (request_frame u last (heard r)) ss replies end script f.0 f.1 (net.links i).end there has in
          drawn-at (s.lanes i).wire.stage ((net_run (machine u) net c.events).links i).end l notes.numbers to.1 (subst (λ (o : Option FrameEnd). IsEndBehind (s.lanes i).wire.stage o ((net_run (machine u) net c.events).links i).end) to.0 c.passes.comes) is
    ]

-- ---- a piece that does not end the frame

holds-keep : FeedLaws → (u : Setup) (w : World) (n : ℕ) (b : Bool) (notes : Notes) (i now : ℕ) (t s : Things) (net : Net World) (x : IsFed i now t s) → IsCarriedOn t.shown s.shown → (b ≡ true → Keeps u.key n (fed_notes notes s i) (Reaches i now) t s) → (k : Kept u w n b notes t net) → (g : GoesOn u (t.lanes i) (net.links i))
    → HoldsOn (fed_at (t.lanes i) now t.shown g.bytes g.past) ((t.lanes i).wire.held.rest ++ x.piece) (s.lanes i).up x.result (s.lanes i).wire.held (wires.feed_point (s.lanes i).wire.stage (s.lanes i).wire.tally (s.lanes i).down s.shown)
    → (after : Net World) × Kept u w n b (fed_notes notes s i) s after
holds-keep laws u w n b notes i now t s net x on keep k g h =
    let start : wires.FeedStart = fed_at (t.lanes i) now t.shown g.bytes g.past in
    let p : wires.FeedPoint = wires.feed_point (s.lanes i).wire.stage (s.lanes i).wire.tally (s.lanes i).down s.shown in
    let went = h.handled.went in
    let y : Notes = fed_notes notes s i in
    let token : List ℕ = session_token u.key n in
    let q : entries.Entry → Bool = asks_out b y.numbers token in
    let others : OthersPassSince q t.shown s.shown = pass-since b y.numbers token t.shown s.shown (λ so. (keep so).others) in
    let got = laws.arrive u q start [] None p h.handled [] (net.links i).up net i k.shown on.sound others tt (on.carried went.between went.history) k.mirrors.world g.end refl in
    let c : Course u (or_sweep q) i net got.0 p.stage None (net.links i).up [] went.between (world_of s.shown) = subst (λ (fs : List Frame). Course u (or_sweep q) i net got.0 p.stage None (net.links i).up fs went.between (world_of s.shown)) h.handled.script.1 got.2 in
    let after : Net World = net_run (machine u) net c.events in
    let down : (s.lanes i).down ≡ (t.lanes i).down = h.handled.sent ∙ ap (λ (fs : List Frame). (t.lanes i).down ++ spelling_of fs) h.handled.script.1 ∙ append-nil (t.lanes i).down in
    let bytes : (s.lanes i).wire.held.rest ++ (s.lanes i).up ≡ (t.lanes i).wire.held.rest ++ (t.lanes i).up =
    ap (λ (l : List ℕ). l ++ (s.lanes i).up) h.all ∙ append_assoc (t.lanes i).wire.held.rest x.piece (s.lanes i).up ∙ ap (λ (l : List ℕ). (t.lanes i).wire.held.rest ++ l) (sym x.moved) in
    let live : (s.lanes i).ended ≡ false = x.ended ∙ ap is_some h.goes_on in
    let given = fed-given start (g.bytes ++ x.piece) x.result (s.lanes i).wire.held p (x.feeds g.bytes g.past g.given) h.goes_on in (
      after,
      course-keeps laws.server.tokens laws.server.keeps u w n b notes y (or_sweep q) t s net i got.0 p.stage None (net.links i).up [] went.between k c
          (fed-notes u w n b notes (or_sweep q) i now t s net got.0 p.stage None (net.links i).up [] went.between k c (tally-told start [] None p h.handled got.0 got.1)
          (λ l is. among-more (s.lanes i).wire.stage l notes.numbers (k.numbers i l (kept-number u (or_sweep q) i net c.events l c.here c.passes.up is))) (λ firsts. firsts) keep (swept-by b y.numbers token))
          (stays-by i h.handled.steps t s x.stays x.only on.sound went)
          (λ l. record {
            live = λ e. record {
              end = c.passes.comes;
              bytes = g.bytes ++ x.piece;
              past = given.0;
              given = given.1;
              last = g.last;
              under_way = subst (λ (rs : List Request). AreUnderWay u g.last ((s.lanes i).wire.held.rest ++ (s.lanes i).up) rs) (sym c.passes.up) (subst (λ (l : List ℕ). AreUnderWay u g.last l (net.links i).up) (sym bytes) g.under_way);
            };
            ended = λ e. absurd (let f : false ≡ true = sym live ∙ e in cc);
          })
          (λ same e. subst (λ (rs : List Request). AreUnderWay u (wire_id net.client.opening_id) ((s.lanes i).wire.held.rest ++ (s.lanes i).up) rs) (sym c.passes.up)
          (subst (λ (l : List ℕ). AreUnderWay u (wire_id net.client.opening_id) l (net.links i).up) (sym bytes)
          (subst (λ (j : ℕ). (t.lanes j).ended ≡ false → AreUnderWay u (wire_id net.client.opening_id) ((t.lanes j).wire.held.rest ++ (t.lanes j).up) (net.links j).up) (sym same) k.mirrors.going x.live)))
          (λ same l. coming-on u w n b notes t s net i p.stage None (net.links i).up went.between k c.passes same down l),
    )

-- ---- and one that does

-- the reply to the request comes to the client, where the link is its newest
reply-comes : FeedLaws → (u : Setup) (w : World) (n : ℕ) (b : Bool) (notes : Notes) (i now : ℕ) (t s : Things) (net : Net World) (r : Request) (x : IsFed i now t s) → IsCarriedOn t.shown s.shown → (b ≡ true → Keeps u.key n (fed_notes notes s i) (Reaches i now) t s) → (k : Kept u w n b notes t net) → (g : GoesOn u (t.lanes i) (net.links i))
    → (v : Under u t net i) → (net.links i).up ≡ r ∷ [] → AreUnderWay u v.last ((t.lanes i).wire.held.rest ++ (t.lanes i).up) (r ∷ [])
    → (h : TakesFrame (fed_at (t.lanes i) now t.shown g.bytes g.past) (request_frame u v.last (heard r)) (s.lanes i).up x.result (s.lanes i).wire.held (wires.feed_point (s.lanes i).wire.stage (s.lanes i).wire.tally (s.lanes i).down s.shown))
    → (q : entries.Entry → Bool) (m : Bool) (c : Course u q i net m (s.lanes i).wire.stage h.end [] h.handled.replies h.handled.went.between (world_of s.shown))
    → i ≡ t.top → net.client.stage ≢ Gone
    → AreComing u net.client.opening_id (t.client.held.rest ++ (s.lanes i).down) ((net_run (machine u) net c.events).links i).down
reply-comes laws u w n b notes i now t s net r x on keep k g v up way h q m c same live =
    let after : Net World = net_run (machine u) net c.events in
    let top : net.top ≡ i = k.mirrors.top ∙ sym same in
    let none : (net.links i).down ≡ [] = down-none r (net.links i).down (subst (λ (rs : List Request). length rs + length (net.links i).down ≤ 1) up (one-each laws.one u w n b notes t net k i)) in
    let told : (after.links i).down ≡ c.passes.told = c.passes.down ∙ ap (λ (l : List (Request × Answer)). l ++ c.passes.told) none in
    let run : after ≡ net_run (machine u) (net_start w) (k.events ++ c.events) = more-run u w n b notes t net k c.events in
    let short : length (after.links i).up + length (after.links i).down ≤ 1 = subst (λ (n : Net World). length (n.links i).up + length (n.links i).down ≤ 1) (sym run) (laws.one u w (k.events ++ c.events) i) in
    let short_told : length c.passes.told ≤ 1 =
    let e = ap (λ (l : List (Request × Answer)). length l) told in
    omega (arith, short, e) in
    let fits = fits-along laws.server.keeps u q i net c.events c.here k.mirrors.token k.fits in
    let before = only-waits laws.waiting u w n b notes t net k live in
    let that : request_that_waits net.client net.client.stage ≡ Some (heard r) = (subst (AreThat (request_that_waits net.client net.client.stage)) (subst (λ (j : ℕ). (net.links j).up ≡ r ∷ []) (sym top) up) before.0).0 in
    let behind = subst OnlyWaitsAt (sym run) (laws.waiting u w (k.events ++ c.events)) (λ gone. live (ap (λ (y : Client). y.stage) (sym c.passes.client) ∙ gone)) in
    let same_that : request_that_waits after.client after.client.stage ≡ Some (heard r) = ap (λ (y : Client). request_that_waits y y.stage) c.passes.client ∙ that in
    let to_that : AreToThat (Some (heard r)) c.passes.told =
    subst (AreToThat (Some (heard r))) told (subst (λ (j : ℕ). AreToThat (Some (heard r)) (after.links j).down) (c.passes.top ∙ top) (subst (λ (o : Option Heard). AreToThat o (after.links after.top).down) same_that behind.1)) in
    let empty : t.client.held.rest ++ (t.lanes i).down ≡ [] =
    subst (λ (l : List (Request × Answer)). AreComing u net.client.opening_id (t.client.held.rest ++ (t.lanes i).down) l) none
    (subst (λ (j : ℕ). AreComing u net.client.opening_id (t.client.held.rest ++ (t.lanes j).down) (net.links j).down) (sym same) (k.mirrors.coming live)) in
    let bytes : t.client.held.rest ++ (s.lanes i).down ≡ (t.client.held.rest ++ (t.lanes i).down) ++ spelling_of h.handled.replies =
    ap (λ (l : List ℕ). t.client.held.rest ++ l) h.handled.sent ∙ sym (append_assoc t.client.held.rest (t.lanes i).down (spelling_of h.handled.replies)) in
    let typed : are_bytes (t.client.held.rest ++ (s.lanes i).down) ≡ true = subst (λ (l : List ℕ). are_bytes (l ++ (s.lanes i).down) ≡ true) (sym (first-none t.client.held.rest (t.lanes i).down empty)) x.typed in
    let all_down : AllDown c.passes.told = subst AllDown told (fits.each i).down in
    subst (AreComing u net.client.opening_id (t.client.held.rest ++ (s.lanes i).down)) (sym told)
    (replies-come laws.good u net.client.opening_id r c.passes.read c.passes.told h.handled.replies (t.client.held.rest ++ (t.lanes i).down) (t.client.held.rest ++ (s.lanes i).down)
    short_told c.passes.same c.passes.says all_down way.0.1 to_that
    (λ fr one open_is.
    let o = open-frame u v.last r open_is in
    script-id (t.lanes i).wire.block (t.lanes i).wire.stage (s.lanes i).wire.stage (request_frame u v.last (heard r)) fr h.handled.steps h.handled.replies h.end h.handled.script o.0 o.1 one ∙ o.2 ∙ v.newest same)
    empty bytes typed)

takes-keep : FeedLaws → (u : Setup) (w : World) (n : ℕ) (b : Bool) (notes : Notes) (i now : ℕ) (t s : Things) (net : Net World) (r : Request) (x : IsFed i now t s) → IsCarriedOn t.shown s.shown → (b ≡ true → Keeps u.key n (fed_notes notes s i) (Reaches i now) t s) → (k : Kept u w n b notes t net) → (g : GoesOn u (t.lanes i) (net.links i))
    → (v : Under u t net i) → (net.links i).up ≡ r ∷ [] → AreUnderWay u v.last ((t.lanes i).wire.held.rest ++ (t.lanes i).up) (r ∷ [])
    → TakesFrame (fed_at (t.lanes i) now t.shown g.bytes g.past) (request_frame u v.last (heard r)) (s.lanes i).up x.result (s.lanes i).wire.held (wires.feed_point (s.lanes i).wire.stage (s.lanes i).wire.tally (s.lanes i).down s.shown)
    → (after : Net World) × Kept u w n b (fed_notes notes s i) s after
takes-keep laws u w n b notes i now t s net r x on keep k g v up way h =
    let start : wires.FeedStart = fed_at (t.lanes i) now t.shown g.bytes g.past in
    let p : wires.FeedPoint = wires.feed_point (s.lanes i).wire.stage (s.lanes i).wire.tally (s.lanes i).down s.shown in
    let f : Frame = request_frame u v.last (heard r) in
    let went = h.handled.went in
    let y : Notes = fed_notes notes s i in
    let token : List ℕ = session_token u.key n in
    let q : entries.Entry → Bool = asks_out b y.numbers token in
    let others : OthersPassSince q t.shown s.shown = pass-since b y.numbers token t.shown s.shown (λ so. (keep so).others) in
    let got = laws.arrive u q start (f ∷ []) h.end p h.handled ((v.last, r) ∷ []) [] net i k.shown on.sound others (laws.carry u (v.last, r) way.0, tt) (on.carried went.between went.history) k.mirrors.world g.end up in
    let c : Course u (or_sweep q) i net got.0 p.stage h.end [] h.handled.replies went.between (world_of s.shown) = got.2 in
    let after : Net World = net_run (machine u) net c.events in
    let goes : (s.lanes i).ended ≡ false → x.result ≡ None = λ e. none-of x.result (sym x.ended ∙ e) in
    let under_way : (last : ℕ) → (s.lanes i).ended ≡ false → AreUnderWay u last ((s.lanes i).wire.held.rest ++ (s.lanes i).up) (after.links i).up =
    λ last e. subst (λ (rs : List Request). AreUnderWay u last ((s.lanes i).wire.held.rest ++ (s.lanes i).up) rs) (sym c.passes.up) (λ j. (ends-on h.end x.result (s.lanes i).wire.held h.ends (goes e)).1 j ++ h.none_left j) in (
      after,
      course-keeps laws.server.tokens laws.server.keeps u w n b notes y (or_sweep q) t s net i got.0 p.stage h.end [] h.handled.replies went.between k c
          (fed-notes u w n b notes (or_sweep q) i now t s net got.0 p.stage h.end [] h.handled.replies went.between k c (tally-told start (f ∷ []) h.end p h.handled got.0 got.1)
          (λ l is. drawn-there u n b w notes (or_sweep q) i t s net r v.last got.0 h.end [] h.handled.replies went.between h.handled.steps k c up g.end h.handled.script l is) (λ firsts. tt) keep (swept-by b y.numbers token))
          (stays-by i h.handled.steps t s x.stays x.only on.sound went)
          (λ l. record {
            live = λ e.
                let given = fed-given start (g.bytes ++ x.piece) x.result (s.lanes i).wire.held p (x.feeds g.bytes g.past g.given) (goes e) in
                record {
                  end = subst (λ (o : Option FrameEnd). IsEndBehind p.stage o (after.links i).end) (ends-on h.end x.result (s.lanes i).wire.held h.ends (goes e)).0 c.passes.comes;
                  bytes = g.bytes ++ x.piece;
                  past = given.0;
                  given = given.1;
                  last = v.last;
                  under_way = under_way v.last e;
                };
            ended = λ e. ends-dead p.stage h.end x.result (s.lanes i).wire.held (after.links i).end h.ends x.memory (sym x.ended ∙ e) c.passes.comes;
          })
          (λ same e. under_way (wire_id net.client.opening_id) e)
          (λ same l. reply-comes laws u w n b notes i now t s net r x on keep k g v up way h (or_sweep q) got.0 c same l),
    )

fed-by : FeedLaws → (u : Setup) (w : World) (n : ℕ) (b : Bool) (notes : Notes) (i now : ℕ) (t s : Things) (net : Net World) (x : IsFed i now t s) → IsCarriedOn t.shown s.shown → (b ≡ true → Keeps u.key n (fed_notes notes s i) (Reaches i now) t s) → (k : Kept u w n b notes t net) → (g : GoesOn u (t.lanes i) (net.links i))
    → (v : Under u t net i) → (rs : List Request) → (net.links i).up ≡ rs → AreUnderWay u v.last ((t.lanes i).wire.held.rest ++ (t.lanes i).up) rs → (after : Net World) × Kept u w n b (fed_notes notes s i) s after
fed-by laws u w n b notes i now t s net x on keep k g v [] up way =
    let e : (t.lanes i).wire.held.rest ++ (x.piece ++ (s.lanes i).up) ≡ [] = ap (λ (l : List ℕ). (t.lanes i).wire.held.rest ++ l) (sym x.moved) ∙ way in
    absurd (x.some (middle-none (t.lanes i).wire.held.rest x.piece (s.lanes i).up e))
fed-by laws u w n b notes i now t s net x on keep k g v (r ∷ []) up way =
    let start : wires.FeedStart = fed_at (t.lanes i) now t.shown g.bytes g.past in
    let p : wires.FeedPoint = wires.feed_point (s.lanes i).wire.stage (s.lanes i).wire.tally (s.lanes i).down s.shown in
    let whole : ((t.lanes i).wire.held.rest ++ x.piece) ++ (s.lanes i).up ≡ canonical_frame (request_frame u v.last (heard r)) =
    append_assoc (t.lanes i).wire.held.rest x.piece (s.lanes i).up ∙ ap (λ (l : List ℕ). (t.lanes i).wire.held.rest ++ l) (sym x.moved) ∙ way.1 in
    elim (laws.have start (request_frame u v.last (heard r)) x.piece (s.lanes i).up (t.lanes i).wire.held (s.lanes i).wire.held x.result p (laws.good_requests u (v.last, r) way.0) g.given whole (x.feeds g.bytes g.past g.given)) [
      | inl h ↦ holds-keep laws u w n b notes i now t s net x on keep k g h
      | inr (inl h) ↦ takes-keep laws u w n b notes i now t s net r x on keep k g v up way h
      | inr (inr h) ↦ absurd (x.memory h.memory)
    ]
fed-by laws u w n b notes i now t s net x on keep k g v (r ∷ q ∷ rs) up way = absurd way

pub fed-keeps : FeedLaws → (u : Setup) (w : World) (n : ℕ) (b : Bool) (notes : Notes) (i now : ℕ) (t s : Things) (net : Net World) → IsFed i now t s → IsCarriedOn t.shown s.shown → (b ≡ true → Keeps u.key n (fed_notes notes s i) (Reaches i now) t s) → Kept u w n b notes t net → (after : Net World) × Kept u w n b (fed_notes notes s i) s after
fed-keeps laws u w n b notes i now t s net x on keep k =
    let g = (k.mirrors.each i x.link).live x.live in
    let v = under u w n b notes t net i k x.live g in
    fed-by laws u w n b notes i now t s net x on keep k g v (net.links i).up refl v.way
