-- A wire, from one frame to the next.
use Rattle.std.proofs.Common.{◌≡◌, ℕ, ◌+◌, List, [], ◌∷◌, ◌++◌, length, take, drop, refl, sym, ap, ◌∙◌, subst, inl, inr, append-nil, append_assoc, length-append, length-drop, ◌≤◌, arith}
use Rattle.std.proofs.lemmas.List.{take-append-drop, length-take-le}
use Rattle.std.proofs.lemmas.List.Elements.{All-nil, All-append}
use Rattle.std.specs.Prelude.{Option, Some, None, Ok}
use Rattle.afp_serial.specs.Shown.{Shown}
use Rattle.afp_serial.specs.Went.{Step, Went}
use Rattle.afp_serial.proofs.Grows.{went-none, went-join}
use Rattle.dsi_frame.specs.Buffered.{Buffered}
use Rattle.dsi_frame.specs.Deframe.{GivenOut}
use Rattle.dsi_frame.specs.Frame.{Frame, IsBadHeader}
use Rattle.dsi_frame.specs.Stream.{Begins}
use Rattle.dsi_frame.specs.declared.frame.BadFrame.{BadFrame}
use Rattle.dsi_frame.proofs.StreamLemmas.{given-end, given-feed, given-frame, given-stop, stopped-append}
use Rattle.afp_server.specs.link.Did.{Did}
use Rattle.afp_server.specs.link.LinkRun.{Fills}
use Rattle.dsi_frame.specs.Replies.{listed, spelling_of}
use Rattle.afp_server.specs.link.Script.{Does, Script}
use Rattle.afp_server.specs.link.lemma.SessionState.{SessionState}
use Rattle.afp_server.specs.link.Tally.{no_tally, tallied}
use Rattle.afp_server.proofs.OfLink.Tallies.{tallied-join}
use Rattle.afp_server.specs.declared.link.tally.Tally.{Tally}
use Rattle.afp_server.specs.link.Wire.{FeedStart, FeedPoint, Handled, FedSoFar, FedToEnd}
use Rattle.afp_server.specs.link.Wire.{feed_point, FedTo, Feeds}
use Rattle.afp_server.specs.link.lemma.Feeding.{Answers, end_of_frame}
use Rattle.afp_server.specs.declared.link.stage.FrameEnd.{FrameEnd}
use Rattle.afp_server.specs.declared.link.stage.FrameEnd.TheVariants as ends
use Rattle.afp_server.specs.declared.link.stage.Stage.{Stage}
use Rattle.afp_server.specs.declared.link.wire.WireEnd.{WireEnd}
use Rattle.afp_server.specs.declared.link.wire.WireEnd.TheVariants as wires
use Rattle.afp_server.proofs.OfLink.Moments.{ClosesBy, does-timely}
use Rattle.afp_server.proofs.OfLink.Scripts.{script-join, script-one}
use Rattle.afp_server.proofs.OfLink.Traces.{spelling_of-append, fills-one, fills-later}

-- nothing was handled yet

pub handled-none : (start : FeedStart) → Handled start [] None (feed_point start.stage no_tally start.out start.shown)
handled-none start = record {
  steps = [];
  replies = [];
  script = (refl, refl, refl, refl);
  moments = All-nil (λ (s : Step). s.at ≡ start.now);
  sent = sym (append-nil start.out);
  tally = refl;
  went = went-none start.shown;
}

pub fed-none : (start : FeedStart) (held : Buffered) → GivenOut start.bytes start.past held → FedSoFar start start.bytes held (feed_point start.stage no_tally start.out start.shown)
fed-none start held given = record {
  frames = [];
  handled = handled-none start;
  given = let P : List Frame → Type 0 = λ fs. GivenOut start.bytes fs held in subst P (sym (append-nil start.past)) given;
}

-- A frame was handled behind those before, and its reply was appended.
pub record HandlesNext (start : FeedStart) (bytes : List ℕ) (held : Buffered) (p : FeedPoint) (f : Frame) (did : Did) (q : FeedPoint) : Type 0 where
  pub so_far : FedSoFar start bytes held p
  pub does : Does start.block start.now p.stage f did
  pub stage : q.stage ≡ did.stage
  pub sent : q.out ≡ p.out ++ spelling_of (listed did.reply)
  pub tally : q.tally ≡ tallied p.tally did.steps (listed did.reply)
  pub went : Went p.shown did.steps q.shown

pub handled-next : (start : FeedStart) (bytes : List ℕ) (held : Buffered) (p q : FeedPoint) (f : Frame) (did : Did) (h : HandlesNext start bytes held p f did q)
    → Handled start (h.so_far.frames ++ f ∷ []) did.end q
handled-next start bytes held p q f did h =
    let before = h.so_far.handled in
    let script = script-join start.block start.stage p.stage did.stage h.so_far.frames (f ∷ []) before.steps did.steps before.replies (listed did.reply) did.end
    before.script (script-one start.block start.now p.stage f did h.does) in
    record {
      steps = before.steps ++ did.steps;
      replies = before.replies ++ listed did.reply;
      script = subst (λ (s : Stage). Script start.block start.stage (h.so_far.frames ++ f ∷ []) (before.steps ++ did.steps) (before.replies ++ listed did.reply) s did.end) (sym h.stage) script;
      moments = All-append (λ (s : Step). s.at ≡ start.now) before.steps did.steps before.moments (does-timely start.block start.now p.stage f did h.does).moments;
      sent = h.sent ∙ ap (λ (l : List ℕ). l ++ spelling_of (listed did.reply)) before.sent ∙ append_assoc start.out (spelling_of before.replies) (spelling_of (listed did.reply))
          ∙ ap (λ (l : List ℕ). start.out ++ l) (sym (spelling_of-append before.replies (listed did.reply)));
      tally = h.tally ∙ ap (λ (t : Tally). tallied t did.steps (listed did.reply)) before.tally ∙ tallied-join no_tally before.steps did.steps before.replies (listed did.reply);
      went = went-join start.shown p.shown q.shown before.steps did.steps before.went h.went;
    }

handled-end : (start : FeedStart) (frames : List Frame) (o end : Option FrameEnd) (p : FeedPoint) → o ≡ end → Handled start frames o p → Handled start frames end p
handled-end start frames o end p e h = subst (λ (x : Option FrameEnd). Handled start frames x p) e h

-- the frame is given out
pub fed-next : (start : FeedStart) (bytes : List ℕ) (held after : Buffered) (p q : FeedPoint) (f : Frame) (begins : Begins held.rest f) (did : Did) (h : HandlesNext start bytes held p f did q)
    → did.end ≡ None → after ≡ record { place = held.place + length begins.first; rest = begins.more } → FedSoFar start bytes after q
fed-next start bytes held after p q f begins did h goes_on e = record {
  frames = h.so_far.frames ++ f ∷ [];
  handled = handled-end start (h.so_far.frames ++ f ∷ []) did.end None q goes_on (handled-next start bytes held p q f did h);
  given = let P : List Frame → Type 0 = λ fs. GivenOut bytes fs after in
      subst P (append_assoc start.past h.so_far.frames (f ∷ [])) (given-frame bytes (start.past ++ h.so_far.frames) held after f begins h.so_far.given e);
}

-- what was given out fills the bytes up to what is held
given-fills : (bytes : List ℕ) (frames : List Frame) (held : Buffered) → GivenOut bytes frames held → Fills bytes frames held.rest
given-fills bytes frames held g = record { filled = g.filled; spelled = g.spelled; whole = g.whole }

next-fills : (start : FeedStart) (bytes : List ℕ) (held : Buffered) (p q : FeedPoint) (f : Frame) (begins : Begins held.rest f) (did : Did) (h : HandlesNext start bytes held p f did q)
    → Fills bytes (start.past ++ (h.so_far.frames ++ f ∷ [])) begins.more
next-fills start bytes held p q f begins did h =
    let P : List Frame → Type 0 = λ fs. Fills bytes fs begins.more in
    subst P (append_assoc start.past h.so_far.frames (f ∷ []))
    (fills-one bytes held.rest begins.first begins.more (start.past ++ h.so_far.frames) f (given-fills bytes (start.past ++ h.so_far.frames) held h.so_far.given) begins.spelling begins.whole)

next-closes : (start : FeedStart) (bytes : List ℕ) (held : Buffered) (p q : FeedPoint) (f : Frame) (did : Did) (end : FrameEnd) (h : HandlesNext start bytes held p f did q)
    → did.end ≡ Some end → ClosesBy (Some end) q.stage
next-closes start bytes held p q f did end h e =
    let t = does-timely start.block start.now p.stage f did h.does in
    subst (λ (s : Stage). ClosesBy (Some end) s) (sym h.stage) (subst (λ (o : Option FrameEnd). ClosesBy o did.stage) e t.closing)

-- the frame ends the link
pub fed-end : (start : FeedStart) (bytes : List ℕ) (held : Buffered) (p q : FeedPoint) (f : Frame) (begins : Begins held.rest f) (did : Did) (end : FrameEnd) (h : HandlesNext start bytes held p f did q)
    → did.end ≡ Some end → FedTo start bytes (end_of_frame end held.place) q
fed-end start bytes held p q f begins did ends.Closed h e = record {
  frames = h.so_far.frames ++ f ∷ [];
  handled = handled-end start (h.so_far.frames ++ f ∷ []) did.end (Some ends.Closed) q e (handled-next start bytes held p q f did h);
  left = begins.more;
  fills = next-fills start bytes held p q f begins did h;
  closing = next-closes start bytes held p q f did ends.Closed h e;
}
fed-end start bytes held p q f begins did ends.Displaced h e = record {
  frames = h.so_far.frames ++ f ∷ [];
  handled = handled-end start (h.so_far.frames ++ f ∷ []) did.end (Some ends.Displaced) q e (handled-next start bytes held p q f did h);
  left = begins.more;
  fills = next-fills start bytes held p q f begins did h;
  closing = next-closes start bytes held p q f did ends.Displaced h e;
}
fed-end start bytes held p q f begins did (ends.Bad reason) h e = inr record {
  before = h.so_far.frames;
  last = f;
  handled = handled-end start (h.so_far.frames ++ f ∷ []) did.end (Some (ends.Bad reason)) q e (handled-next start bytes held p q f did h);
  left = held.rest;
  fills = given-fills bytes (start.past ++ h.so_far.frames) held h.so_far.given;
  begins = begins;
  place = given-end bytes (start.past ++ h.so_far.frames) held h.so_far.given;
}

-- what the answer to a frame says

next-is : (start : FeedStart) (bytes : List ℕ) (held : Buffered) (now : ℕ) (f g : Frame) (old new : SessionState) (out sent : List ℕ) (before after : Shown) (end : Option FrameEnd)
    → start.block ≡ old.block → start.now ≡ now → FedSoFar start bytes held (feed_point old.stage old.tally out before) → Begins held.rest f → g ≡ f
    → Answers now g old out before (Ok end) new sent after
    → (did : Did) × HandlesNext start bytes held (feed_point old.stage old.tally out before) f did (feed_point new.stage new.tally sent after) × (did.end ≡ end)
next-is start bytes held now f g old new out sent before after end block moment s begins same (did, does, went, _, stage, replied, is, tally) = (
  did,
  record {
    so_far = s;
    does = subst (λ (x : Frame). Does start.block start.now old.stage x did) same
        (subst (λ (b : List ℕ). Does b start.now old.stage g did) (sym block) (subst (λ (n : ℕ). Does old.block n old.stage g did) (sym moment) does));
    stage = stage;
    sent = replied;
    tally = tally;
    went = went;
  },
  sym is,
)

pub next-goes_on : (start : FeedStart) (bytes : List ℕ) (held given : Buffered) (now : ℕ) (f g : Frame) (old new : SessionState) (out sent : List ℕ) (before after : Shown)
    → start.block ≡ old.block → start.now ≡ now → FedSoFar start bytes held (feed_point old.stage old.tally out before) → (begins : Begins held.rest f) → g ≡ f
    → Answers now g old out before (Ok None) new sent after → given ≡ record { place = held.place + length begins.first; rest = begins.more }
    → FedSoFar start bytes given (feed_point new.stage new.tally sent after)
next-goes_on start bytes held given now f g old new out sent before after block moment s begins same a e =
    let next = next-is start bytes held now f g old new out sent before after None block moment s begins same a in
    fed-next start bytes held given (feed_point old.stage old.tally out before) (feed_point new.stage new.tally sent after) f begins next.0 next.1 next.2 e

pub next-ends : (start : FeedStart) (bytes : List ℕ) (held : Buffered) (now : ℕ) (f g : Frame) (old new : SessionState) (out sent : List ℕ) (before after : Shown) (end : FrameEnd) (answer : WireEnd)
    → start.block ≡ old.block → start.now ≡ now → FedSoFar start bytes held (feed_point old.stage old.tally out before) → (begins : Begins held.rest f) → g ≡ f
    → Answers now g old out before (Ok (Some end)) new sent after → answer ≡ end_of_frame end held.place → FedTo start bytes answer (feed_point new.stage new.tally sent after)
next-ends start bytes held now f g old new out sent before after end answer block moment s begins same a e =
    let next = next-is start bytes held now f g old new out sent before after (Some end) block moment s begins same a in
    subst (λ (w : WireEnd). FedTo start bytes w (feed_point new.stage new.tally sent after)) (sym e)
    (fed-end start bytes held (feed_point old.stage old.tally out before) (feed_point new.stage new.tally sent after) f begins next.0 end next.1 next.2)

-- a bad header stands at the front
pub fed-header : (start : FeedStart) (bytes : List ℕ) (held : Buffered) (p : FeedPoint) (b : BadFrame) → FedSoFar start bytes held p → b.at ≡ held.place
    → IsBadHeader held.rest b.reason → FedTo start bytes (wires.Bad b) p
fed-header start bytes held p b s place bad = inl record {
  frames = s.frames;
  handled = s.handled;
  stopped = given-stop bytes (start.past ++ s.frames) held b.at b.reason s.given place bad;
}

-- more bytes are fed

pub fed-more : (start : FeedStart) (bytes more : List ℕ) (held after : Buffered) (p : FeedPoint) → FedSoFar start bytes held p → after.rest ≡ held.rest ++ more
    → after.place ≡ held.place → FedSoFar start (bytes ++ more) after p
fed-more start bytes more held after p s rest place = record {
  frames = s.frames;
  handled = s.handled;
  given = given-feed bytes more (start.past ++ s.frames) held after s.given rest place;
}

begins-later : (bytes later : List ℕ) (f : Frame) → Begins bytes f → Begins (bytes ++ later) f
begins-later bytes later f b = record {
  first = b.first;
  more = b.more ++ later;
  whole = ap (λ (l : List ℕ). l ++ later) b.whole ∙ append_assoc b.first b.more later;
  spelling = b.spelling;
}

fed_to_end-later : (start : FeedStart) (bytes later : List ℕ) (end : FrameEnd) (p : FeedPoint) → FedToEnd start bytes end p → FedToEnd start (bytes ++ later) end p
fed_to_end-later start bytes later end p s = record {
  frames = s.frames;
  handled = s.handled;
  left = s.left ++ later;
  fills = fills-later bytes s.left later (start.past ++ s.frames) s.fills;
  closing = s.closing;
}

-- what ended a link ends it, whatever stands behind
pub fed_to-later : (start : FeedStart) (bytes later : List ℕ) (end : WireEnd) (p : FeedPoint) → FedTo start bytes end p → FedTo start (bytes ++ later) end p
fed_to-later start bytes later wires.Closed p s = fed_to_end-later start bytes later ends.Closed p s
fed_to-later start bytes later wires.Displaced p s = fed_to_end-later start bytes later ends.Displaced p s
fed_to-later start bytes later (wires.Bad b) p s = elim s [
  | inl h ↦ inl record { frames = h.frames; handled = h.handled; stopped = stopped-append bytes later (start.past ++ h.frames) b.at b.reason h.stopped }
  | inr f ↦ inr record {
    before = f.before;
    last = f.last;
    handled = f.handled;
    left = f.left ++ later;
    fills = fills-later bytes f.left later (start.past ++ f.before) f.fills;
    begins = begins-later f.left later f.last f.begins;
    place = omega (arith, f.place, length-append f.left later, length-append bytes later);
  }
]
fed_to-later start bytes later wires.Memory p s = record {
  frames = s.frames;
  handled = s.handled;
  left = s.left ++ later;
  fills = fills-later bytes s.left later (start.past ++ s.frames) s.fills;
}

-- Of a piece some bytes were fed, and these are left.

fed_all : (bytes done left piece : List ℕ) → piece ≡ done ++ left → (bytes ++ done) ++ left ≡ bytes ++ piece
fed_all bytes done left piece whole = append_assoc bytes done left ∙ ap (λ (l : List ℕ). bytes ++ l) (sym whole)

pub piece-none : (start : FeedStart) (held : Buffered) (p : FeedPoint) → FedSoFar start start.bytes held p → FedSoFar start (start.bytes ++ []) held p
piece-none start held p s = subst (λ (l : List ℕ). FedSoFar start l held p) (sym (append-nil start.bytes)) s

pub piece-ends : (start : FeedStart) (done left piece : List ℕ) (end : WireEnd) (p : FeedPoint) → piece ≡ done ++ left → FedTo start (start.bytes ++ done) end p
    → FedTo start (start.bytes ++ piece) end p
piece-ends start done left piece end p whole s =
    subst (λ (l : List ℕ). FedTo start l end p) (fed_all start.bytes done left piece whole) (fed_to-later start (start.bytes ++ done) left end p s)

pub piece-done : (start : FeedStart) (done left piece : List ℕ) (held : Buffered) (p : FeedPoint) → piece ≡ done ++ left → left ≡ [] → Feeds start (start.bytes ++ done) None held p
    → Feeds start (start.bytes ++ piece) None held p
piece-done start done left piece held p whole none s =
    let all : done ≡ piece = sym (append-nil done) ∙ ap (λ (l : List ℕ). done ++ l) (sym none) ∙ sym whole in
    subst (λ (l : List ℕ). Feeds start (start.bytes ++ l) None held p) all s

pub piece-left : (done left piece behind : List ℕ) (n : ℕ) → piece ≡ done ++ left → behind ≡ drop n left → piece ≡ (done ++ take n left) ++ behind
piece-left done left piece behind n whole same =
    whole ∙ ap (λ (l : List ℕ). done ++ l) (sym (take-append-drop n left)) ∙ sym (append_assoc done (take n left) (drop n left))
    ∙ ap (λ (l : List ℕ). done ++ take n left ++ l) (sym same)

pub piece-more : (start : FeedStart) (done left : List ℕ) (n : ℕ) (held after : Buffered) (p : FeedPoint) → FedSoFar start (start.bytes ++ done) held p
    → after.rest ≡ held.rest ++ take n left → after.place ≡ held.place → FedSoFar start (start.bytes ++ (done ++ take n left)) after p
piece-more start done left n held after p s rest place =
    subst (λ (l : List ℕ). FedSoFar start l after p) (append_assoc start.bytes done (take n left))
    (fed-more start (start.bytes ++ done) (take n left) held after p s rest place)

pub piece-total : (held after : Buffered) (left behind : List ℕ) (n total : ℕ) → n ≤ length left → after.rest ≡ held.rest ++ take n left → after.place ≡ held.place
    → behind ≡ drop n left → held.place + length held.rest + length left ≡ total → after.place + length after.rest + length behind ≡ total
piece-total held after left behind n total fits rest place same whole =
    let size = ap length rest ∙ length-append held.rest (take n left) in
    let front = length-take-le n left fits in
    let back = ap length same ∙ length-drop n left in
    omega (arith, size, front, back, place, whole)
