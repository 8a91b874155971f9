-- How far a link has come, from one step to the next.
use Rattle.std.proofs.Common.{◌≡◌, ℕ, ◌+◌, ◌<◌, false, true, List, [], ◌∷◌, ◌++◌, length, refl, sym, ap, ◌∙◌, subst, inl, inr, append-nil, length-append, arith}
use Rattle.std.specs.Prelude.{Option, Some, None, option_map}
use Rattle.std.specs.Option.{option_to_list}
use Rattle.afp_base.specs.declared.ids.LinkNumber.{LinkNumber}
use Rattle.afp_outside.specs.ends.Gate.{Passed, none_passed, with_entered}
use Rattle.afp_outside.specs.ends.Link.{Event, bytes_taken, LinkState}
use Rattle.afp_outside.specs.ends.Whole.{Sends, SendsPart}
use Rattle.afp_serial.specs.Shown.{Shown}
use Rattle.afp_serial.specs.Went.{Step, Went}
use Rattle.afp_serial.proofs.Grows.{went-none, went-join}
use Rattle.dsi_frame.specs.Buffered.{Buffered}
use Rattle.dsi_frame.specs.Frame.{Frame, IsSpelling, IsBadHeader}
use Rattle.dsi_frame.specs.Stream.{Begins}
use Rattle.dsi_frame.specs.declared.frame.BadFrame.{BadFrame}
use Rattle.afp_server.specs.link.Did.{Did}
use Rattle.afp_server.specs.link.Requests.{Requests, no_requests, after_reply}
use Rattle.afp_server.specs.link.LinkRun.{Moves, Fills, EachMayRead, EndsBy, failed_writes, IsAnswered, bytes_read, cost_of, carries_call}
use Rattle.afp_server.specs.link.Passing.{calls_in, GoThrough, all_passed}
use Rattle.dsi_frame.specs.Replies.{listed, spelling_of}
use Rattle.afp_server.specs.link.Script.{Does}
use Rattle.afp_server.specs.link.lemma.Serving.{end_of_frame}
use Rattle.afp_server.specs.link.Progress.{Start, Point, point, SoFar, Ended}
use Rattle.afp_server.specs.link.Trace.{Happening, handled, events_in, frames_in, sent_in, steps_in, standing, begun, Cause, cause_of, Follows}
use Rattle.afp_server.specs.declared.link.serve.LinkEnd.TheVariants as links
use Rattle.afp_server.specs.declared.link.stage.FrameEnd.{FrameEnd}
use Rattle.afp_server.specs.declared.link.stage.FrameEnd.TheVariants as ends
use Rattle.afp_server.specs.declared.link.stage.Stage.{Stage}
use Rattle.afp_server.specs.declared.link.stage.Stage.TheVariants as stages
use Rattle.afp_server.proofs.OfLink.Moving.{moves-none, moves-join, sends-moves}
use Rattle.afp_server.proofs.OfLink.Passing.{PassesFrame, passed-frame, through-all, through-unwritten}
use Rattle.afp_server.proofs.OfLink.Traces.{frames_in-append, steps-one, events-one, sent-one, follows-snoc, each-snoc, fills-none, fills-one}

pub so_far-none : (start : Start) → SoFar start (point (record { place = 0; rest = [] }) stages.Fresh (no_requests start.link.now) start.link start.shown none_passed) 0
so_far-none start = record {
  trace = [];
  follows = (refl, refl);
  moves = moves-none start.link;
  ended = refl;
  reads = tt;
  fills = fills-none [];
  place = refl;
  costs = refl;
  went = went-none start.shown;
  through = refl;
}

-- A frame was handled behind what had happened: it took its first bytes from what was left.
pub record HandlesNext (start : Start) (p : Point) (cost : ℕ) (f : Frame) (did : Did) (first more : List ℕ) (shown : Shown) : Type 0 where
  pub so_far : SoFar start p cost
  pub spelling : IsSpelling first f
  pub whole : p.held.rest ≡ first ++ more
  pub does : Does start.block p.link.now p.stage f did
  pub went : Went p.shown did.steps shown

-- what decides the requests behind a frame
abbrev pub noted : Point → Did → Requests
noted p did = after_reply p.link.now did.reply p.requests

-- a move that ends in the same events
pub moves-events : (a b : LinkState) (failed : ℕ) (es fs : List Event) (w v : List ℕ) → es ≡ fs → w ≡ v → Moves a es w failed b → Moves a fs v failed b
moves-events a b failed es fs w v same sent m = subst (λ (e : List Event). Moves a e v failed b) same (subst (λ (x : List ℕ). Moves a es x failed b) sent m)

-- bytes were written
pub moves-sends : (a b c : LinkState) (failed : ℕ) (es : List Event) (w v : List ℕ) → Moves a es w 0 b → Moves b [] v failed c → Moves a es (w ++ v) failed c
moves-sends a b c failed es w v one two = subst (λ (e : List Event). Moves a e (w ++ v) failed c) (append-nil es) (moves-join a b c es [] w v failed one two)

-- the trace with one frame more
abbrev pub longer : List Happening → Frame → Did → List Happening
longer trace f did = trace ++ handled f did ∷ []

pub handles-follows : (start : Start) (p : Point) (cost : ℕ) (f : Frame) (did : Did) (first more : List ℕ) (shown : Shown) (link : LinkState) (why : Option Cause)
    → (h : HandlesNext start p cost f did first more shown) → link.now ≡ p.link.now → link.last_read ≡ p.link.last_read → why ≡ option_map cause_of did.end
    → Follows start.block (begun start.link) (longer h.so_far.trace f did) (standing did.stage (noted p did) link) why
handles-follows start p cost f did first more shown link why h now last_read is =
    follows-snoc start.block (begun start.link) (standing p.stage p.requests p.link) (standing did.stage (noted p did) link) h.so_far.trace (handled f did) why h.so_far.follows
    (h.does, (λ i. record { stage = did.stage; now = now i; last_read = last_read i; requests = noted p did }), is)

pub handles-moves : (start : Start) (p : Point) (cost : ℕ) (f : Frame) (did : Did) (first more : List ℕ) (shown : Shown) (link : LinkState)
    → (h : HandlesNext start p cost f did first more shown) → Sends p.link (spelling_of (listed did.reply)) 0 link
    → Moves start.link (events_in (longer h.so_far.trace f did)) (spelling_of (sent_in (longer h.so_far.trace f did))) 0 link
handles-moves start p cost f did first more shown link h s =
    moves-events start.link link 0 (events_in h.so_far.trace) (events_in (longer h.so_far.trace f did)) (spelling_of (sent_in h.so_far.trace) ++ spelling_of (listed did.reply)) (spelling_of (sent_in (longer h.so_far.trace f did)))
    (sym (events-one h.so_far.trace f did)) (sym (sent-one h.so_far.trace f did))
    (moves-sends start.link p.link link 0 (events_in h.so_far.trace) (spelling_of (sent_in h.so_far.trace)) (spelling_of (listed did.reply)) h.so_far.moves (sends-moves p.link link (spelling_of (listed did.reply)) 0 s))

pub handles-reads : (start : Start) (p : Point) (cost : ℕ) (f : Frame) (did : Did) (first more : List ℕ) (shown : Shown)
    → (h : HandlesNext start p cost f did first more shown) → EachMayRead start.turns start.link.written [] (longer h.so_far.trace f did)
handles-reads start p cost f did first more shown h = each-snoc start.turns start.link.written [] h.so_far.trace (handled f did) h.so_far.reads tt

pub handles-bytes_read : (trace : List Happening) (f : Frame) (did : Did) → bytes_read (longer trace f did) ≡ bytes_read trace
handles-bytes_read trace f did = ap bytes_taken (events-one trace f did)

pub handles-frames : (trace : List Happening) (f : Frame) (did : Did) → frames_in (longer trace f did) ≡ frames_in trace ++ f ∷ []
handles-frames trace f did = frames_in-append trace (handled f did ∷ [])

pub handles-fills : (start : Start) (p : Point) (cost : ℕ) (f : Frame) (did : Did) (first more : List ℕ) (shown : Shown)
    → (h : HandlesNext start p cost f did first more shown) → Fills (bytes_read (longer h.so_far.trace f did)) (frames_in (longer h.so_far.trace f did)) more
handles-fills start p cost f did first more shown h =
    subst (λ (b : List ℕ). Fills b (frames_in (longer h.so_far.trace f did)) more) (sym (handles-bytes_read h.so_far.trace f did))
    (subst (λ (fs : List Frame). Fills (bytes_read h.so_far.trace) fs more) (sym (handles-frames h.so_far.trace f did))
    (fills-one (bytes_read h.so_far.trace) p.held.rest first more (frames_in h.so_far.trace) f h.so_far.fills h.spelling h.whole))

pub handles-went : (start : Start) (p : Point) (cost : ℕ) (f : Frame) (did : Did) (first more : List ℕ) (shown : Shown)
    → (h : HandlesNext start p cost f did first more shown) → Went start.shown (steps_in (longer h.so_far.trace f did)) shown
handles-went start p cost f did first more shown h =
    subst (λ (ss : List Step). Went start.shown ss shown) (sym (steps-one h.so_far.trace f did))
    (went-join start.shown p.shown shown (steps_in h.so_far.trace) did.steps h.so_far.went h.went)

pub handles-through : (start : Start) (p : Point) (cost : ℕ) (f : Frame) (did : Did) (first more : List ℕ) (shown : Shown) (mid passed : Passed) (called : Option LinkNumber)
    → (h : HandlesNext start p cost f did first more shown) → PassesFrame p.passed mid passed called did → passed ≡ all_passed (steps_in (longer h.so_far.trace f did))
handles-through start p cost f did first more shown mid passed called h g =
    passed-frame p.passed mid passed called did (steps_in h.so_far.trace) h.so_far.through g ∙ ap all_passed (sym (steps-one h.so_far.trace f did))

-- the link goes on behind a frame
pub so_far-handles : (start : Start) (p : Point) (cost : ℕ) (f : Frame) (did : Did) (first more : List ℕ) (shown : Shown) (link : LinkState) (held : Buffered) (mid passed : Passed) (called : Option LinkNumber)
    → HandlesNext start p cost f did first more shown → PassesFrame p.passed mid passed called did → Sends p.link (spelling_of (listed did.reply)) 0 link → did.end ≡ None
    → held ≡ record { place = p.held.place + length first; rest = more }
    → SoFar start (point held did.stage (noted p did) link shown passed) cost
so_far-handles start p cost f did first more shown link held mid passed called h g s goes_on is =
    subst (λ (d : Buffered). SoFar start (point d did.stage (noted p did) link shown passed) cost) (sym is) record {
      trace = longer h.so_far.trace f did;
      follows = handles-follows start p cost f did first more shown link None h s.now s.last_read (sym (ap (λ (e : Option FrameEnd). option_map cause_of e) goes_on));
      moves = handles-moves start p cost f did first more shown link h s;
      ended = s.ended ∙ h.so_far.ended;
      reads = handles-reads start p cost f did first more shown h;
      fills = handles-fills start p cost f did first more shown h;
      place = omega (arith, h.so_far.place, ap length h.whole, length-append first more, ap length (handles-bytes_read h.so_far.trace f did));
      costs = h.so_far.costs ∙ sym (ap cost_of (events-one h.so_far.trace f did));
      went = handles-went start p cost f did first more shown h;
      through = handles-through start p cost f did first more shown mid passed called h g;
    }

pub handles-answered : (start : Start) (p : Point) (cost : ℕ) (f : Frame) (did : Did) (first more : List ℕ) (shown : Shown)
    → (h : HandlesNext start p cost f did first more shown) → IsAnswered (longer h.so_far.trace f did) (spelling_of (sent_in (longer h.so_far.trace f did)))
handles-answered start p cost f did first more shown h = record { left = more; fills = handles-fills start p cost f did first more shown h; sent = refl }

frame_writes : (end : FrameEnd) (place : ℕ) → failed_writes (end_of_frame end place) ≡ 0
frame_writes ends.Closed place = refl
frame_writes ends.Displaced place = refl
frame_writes (ends.Bad reason) place = refl

-- a frame ends the link
pub ended-frame : (start : Start) (p : Point) (cost : ℕ) (f : Frame) (did : Did) (first more : List ℕ) (shown : Shown) (link : LinkState) (end : FrameEnd) (mid passed : Passed) (called : Option LinkNumber)
    → (h : HandlesNext start p cost f did first more shown) → PassesFrame p.passed mid passed called did → Sends p.link (spelling_of (listed did.reply)) 0 link → did.end ≡ Some end
    → EndsBy start.turns start.link (longer h.so_far.trace f did) (standing did.stage (noted p did) link) (Some (cause_of end)) (spelling_of (sent_in (longer h.so_far.trace f did))) (end_of_frame end p.held.place) link
    → Ended start (end_of_frame end p.held.place) did.stage link shown passed
ended-frame start p cost f did first more shown link end mid passed called h g s is by = record {
  asked = steps_in (longer h.so_far.trace f did);
  comes = record {
    trace = longer h.so_far.trace f did;
    last = standing did.stage (noted p did) link;
    cause = Some (cause_of end);
    wrote = spelling_of (sent_in (longer h.so_far.trace f did));
    follows = handles-follows start p cost f did first more shown link (Some (cause_of end)) h s.now s.last_read (sym (ap (λ (e : Option FrameEnd). option_map cause_of e) is));
    stands = refl;
    last_read = refl;
    moves =
        subst (λ (n : ℕ). Moves start.link (events_in (longer h.so_far.trace f did)) (spelling_of (sent_in (longer h.so_far.trace f did))) n link) (sym (frame_writes end p.held.place))
        (handles-moves start p cost f did first more shown link h s);
    reads = handles-reads start p cost f did first more shown h;
    ends = by;
    steps = refl;
  };
  went = handles-went start p cost f did first more shown h;
  through = through-all (end_of_frame end p.held.place) passed (steps_in (longer h.so_far.trace f did)) (handles-through start p cost f did first more shown mid passed called h g);
}

pub ends-frame : (start : Start) (p : Point) (cost : ℕ) (f : Frame) (did : Did) (first more : List ℕ) (shown : Shown) (link : LinkState) (end : FrameEnd) (mid passed : Passed) (called : Option LinkNumber)
    → (h : HandlesNext start p cost f did first more shown) → PassesFrame p.passed mid passed called did → Sends p.link (spelling_of (listed did.reply)) 0 link → did.end ≡ Some end
    → Ended start (end_of_frame end p.held.place) did.stage link shown passed
ends-frame start p cost f did first more shown link ends.Closed mid passed called h g s is =
    ended-frame start p cost f did first more shown link ends.Closed mid passed called h g s is
    (record { why = refl; answered = handles-answered start p cost f did first more shown h }, record { ended = s.ended ∙ h.so_far.ended; now = refl })
ends-frame start p cost f did first more shown link ends.Displaced mid passed called h g s is =
    ended-frame start p cost f did first more shown link ends.Displaced mid passed called h g s is
    (record { why = refl; answered = handles-answered start p cost f did first more shown h }, record { ended = s.ended ∙ h.so_far.ended; now = refl })
ends-frame start p cost f did first more shown link (ends.Bad reason) mid passed called h g s is =
    ended-frame start p cost f did first more shown link (ends.Bad reason) mid passed called h g s is (
      inr record {
        why = refl;
        before = frames_in h.so_far.trace;
        last = f;
        frames = handles-frames h.so_far.trace f did;
        left = p.held.rest;
        fills = subst (λ (b : List ℕ). Fills b (frames_in h.so_far.trace) p.held.rest) (sym (handles-bytes_read h.so_far.trace f did)) h.so_far.fills;
        begins = record { first = first; more = more; whole = h.whole; spelling = h.spelling };
        place = h.so_far.place ∙ sym (ap length (handles-bytes_read h.so_far.trace f did));
        sent = refl;
      },
      record { ended = s.ended ∙ h.so_far.ended; now = refl },
    )

-- its reply could not be written whole
pub ends-unwritten : (start : Start) (p : Point) (cost : ℕ) (f : Frame) (did : Did) (first more : List ℕ) (shown : Shown) (link : LinkState) (reply : Frame) (mid : Passed) (called : Option LinkNumber)
    → (h : HandlesNext start p cost f did first more shown) → mid ≡ with_entered p.passed called → calls_in did.steps ≡ option_to_list called → did.reply ≡ Some reply → SendsPart p.link (spelling_of (listed did.reply)) link
    → Ended start links.WriteFault did.stage link shown mid
ends-unwritten start p cost f did first more shown link reply mid called h enters calls is s = record {
  asked = steps_in (longer h.so_far.trace f did);
  comes = record {
    trace = longer h.so_far.trace f did;
    last = standing did.stage (noted p did) link;
    cause = option_map cause_of did.end;
    wrote = spelling_of (sent_in h.so_far.trace) ++ s.part;
    follows = handles-follows start p cost f did first more shown link (option_map cause_of did.end) h s.sends.now s.sends.last_read refl;
    stands = refl;
    last_read = refl;
    moves =
        moves-events start.link link 1 (events_in h.so_far.trace) (events_in (longer h.so_far.trace f did)) (spelling_of (sent_in h.so_far.trace) ++ s.part) (spelling_of (sent_in h.so_far.trace) ++ s.part)
        (sym (events-one h.so_far.trace f did)) refl
        (moves-sends start.link p.link link 1 (events_in h.so_far.trace) (spelling_of (sent_in h.so_far.trace)) s.part h.so_far.moves (sends-moves p.link link s.part 1 s.sends));
    reads = handles-reads start p cost f did first more shown h;
    ends = (
      record {
        before = h.so_far.trace;
        last = handled f did;
        happened_last = refl;
        left = more;
        fills = handles-fills start p cost f did first more shown h;
        frame = reply;
        writes = is;
        part = s.part;
        lost = s.lost;
        some_lost = s.some_lost;
        cut = s.cut ∙ ap (λ (o : Option Frame). spelling_of (listed o)) is;
        sent = refl;
      },
      record { ended = s.sends.ended ∙ h.so_far.ended; now = refl },
    );
    steps = refl;
  };
  went = handles-went start p cost f did first more shown h;
  through = subst (λ (ss : List Step). GoThrough links.WriteFault ss mid) (sym (steps-one h.so_far.trace f did))
      (through-unwritten p.passed mid called did (steps_in h.so_far.trace) h.so_far.through enters calls);
}

pub some_lost-replied : (o : Option Frame) (part lost : List ℕ) → 0 < length lost → part ++ lost ≡ spelling_of (listed o) → (f : Frame) × (o ≡ Some f)
some_lost-replied (Some f) part lost some cut = (f, refl)
some_lost-replied None part lost some cut = absurd (omega (arith, ap length cut, length-append part lost))

-- there was no memory for a copy of a call
pub ends-uncopied : (start : Start) (p : Point) (cost : ℕ) (f : Frame) (link : LinkNumber) (stage : Stage) (shown : Shown) (passed : Passed) → SoFar start p cost → Begins p.held.rest f
    → f.reply ≡ false → carries_call f.command ≡ true → p.stage ≡ stages.Open link → stage ≡ p.stage → shown ≡ p.shown → passed ≡ p.passed → Ended start links.Memory stage p.link shown passed
ends-uncopied start p cost f link stage shown passed s begins request call in_session same same_shown same_passed =
    subst (λ (b : Shown). Ended start links.Memory stage p.link b passed) (sym same_shown) (subst (λ (x : Stage). Ended start links.Memory x p.link p.shown passed) (sym same) record {
      asked = steps_in s.trace;
      comes = record {
        trace = s.trace;
        last = standing p.stage p.requests p.link;
        cause = None;
        wrote = spelling_of (sent_in s.trace);
        follows = s.follows;
        stands = refl;
        last_read = refl;
        moves = s.moves;
        reads = s.reads;
        ends = (record { why = refl; link = link; in_session = in_session; left = p.held.rest; fills = s.fills; next = f; begins = begins; request = request; call = call; sent = refl }, record { ended = s.ended; now = refl });
        steps = refl;
      };
      went = s.went;
      through = through-all links.Memory passed (steps_in s.trace) (same_passed ∙ s.through);
    })

-- a bad header ends the link
pub ends-header : (start : Start) (p : Point) (cost : ℕ) (b : BadFrame) → SoFar start p cost → b.at ≡ p.held.place → IsBadHeader p.held.rest b.reason → Ended start (links.Bad b) p.stage p.link p.shown p.passed
ends-header start p cost b s at header = record {
  asked = steps_in s.trace;
  comes = record {
    trace = s.trace;
    last = standing p.stage p.requests p.link;
    cause = None;
    wrote = spelling_of (sent_in s.trace);
    follows = s.follows;
    stands = refl;
    last_read = refl;
    moves = s.moves;
    reads = s.reads;
    ends = (
      inl record {
        why = refl;
        stopped = record {
          filled = s.fills.filled;
          left = p.held.rest;
          spelled = s.fills.spelled;
          whole = s.fills.whole;
          place = omega (arith, at, s.place, ap length s.fills.whole, length-append s.fills.filled p.held.rest);
          bad_header = header;
        };
        sent = refl;
      },
      record { ended = s.ended; now = refl },
    );
    steps = refl;
  };
  went = s.went;
  through = through-all (links.Bad b) p.passed (steps_in s.trace) s.through;
}
