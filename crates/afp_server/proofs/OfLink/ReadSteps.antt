-- One read of a link, by what it gave.
use Rattle.std.proofs.Common.{◌≡◌, ◌⊎◌, ℕ, ◌+◌, ◌<◌, ◌≤◌, List, [], ◌∷◌, ◌++◌, length, take, refl, sym, ap, ◌∙◌, subst, inl, inr, append-nil, length-append, arith}
use Rattle.std.proofs.lemmas.List.{length-take}
use Rattle.std.specs.Prelude.{Option, Some, None, option_map}
use Rattle.afp_outside.specs.ends.Gate.{Passed}
use Rattle.afp_outside.specs.ends.Link.{Event, piece, quiet, LinkState, ReadsPiece, ReadsQuiet, ReadsEnd, FailsToRead}
use Rattle.afp_outside.specs.ends.Whole.{Sends}
use Rattle.afp_serial.specs.Shown.{Shown}
use Rattle.afp_serial.specs.Went.{Step, Went}
use Rattle.afp_serial.proofs.Grows.{went-join}
use Rattle.dsi_frame.specs.Buffered.{Buffered, buffer_length}
use Rattle.dsi_frame.specs.Frame.{Frame}
use Rattle.dsi_frame.specs.Stream.{IsUnfinished, Framed}
use Rattle.afp_server.specs.link.LinkRun.{Moves, Fills, MayRead, EachMayRead, EndsBy, failed_writes, Continues, IsAnswered, StaysAt, bytes_read, cost_of, size_of, written_before, read_limit}
use Rattle.afp_server.specs.link.Passing.{all_passed}
use Rattle.dsi_frame.specs.Replies.{listed, spelling_of}
use Rattle.afp_server.specs.link.Requests.{Requests}
use Rattle.afp_server.specs.link.lemma.Serving.{IdlesLink}
use Rattle.afp_server.specs.link.Progress.{Start, Point, point, SoFar, Ended}
use Rattle.afp_server.specs.link.Trace.{Happening, received, was_quiet, events_in, frames_in, sent_in, steps_in, standing, begun, Cause, displaced, silent, drained, unwritten, Idled, Idles, Follows}
use Rattle.afp_server.specs.declared.link.serve.LinkEnd.{LinkEnd}
use Rattle.afp_server.specs.declared.link.serve.LinkEnd.TheVariants as links
use Rattle.afp_server.specs.declared.link.stage.Stage.{Stage}
use Rattle.afp_server.proofs.OfLink.Moving.{moves-join, left-none, cost_of-append, sends-moves}
use Rattle.afp_server.proofs.OfLink.Passing.{passed-more, idles-calls, through-all}
use Rattle.afp_server.proofs.OfLink.Serving.{moves-events, moves-sends, some_lost-replied}
use Rattle.afp_server.proofs.OfLink.Traces.{events_in-append, frames_in-append, sent_in-append, steps_in-append, sent-quiet, steps-quiet, bytes_read-append, follows-snoc, each-snoc, fills-later}
use Rattle.afp_base.proofs.Facts.{nothing-added}

-- The link waits for more: less than a frame is left, and it may read.
pub record Waits (start : Start) (p : Point) (cost : ℕ) : Type 0 where
  pub so_far : SoFar start p cost
  pub unfinished : IsUnfinished p.held.rest
  pub below : cost < start.turns

pub framed : (start : Start) (p : Point) (cost : ℕ) → (s : SoFar start p cost) → IsUnfinished p.held.rest → Framed (bytes_read s.trace) (frames_in s.trace) p.held.rest
framed start p cost s unfinished = record { filled = s.fills.filled; spelled = s.fills.spelled; whole = s.fills.whole; unfinished = unfinished }

pub may_read : (start : Start) (p : Point) (cost : ℕ) (event : Event) → (w : Waits start p cost) → written_before event ≡ p.link.written → size_of event ≤ read_limit
    → length p.held.rest + size_of event ≤ buffer_length → MayRead start.turns start.link.written w.so_far.trace event
may_read start p cost event w before size room = record {
  left = p.held.rest;
  framed = framed start p cost w.so_far w.unfinished;
  sent = before ∙ w.so_far.moves.written;
  below = omega (arith, w.below, w.so_far.costs);
  size = size;
  room = room;
}

-- what a read that gave bytes, or none, does is a move
pub moves-read : (a b : LinkState) (room : List ℕ) (n : ℕ) → ReadsPiece a room n b → Moves a (piece a.written b.now (take n room) ∷ []) [] 0 b
moves-read a b room n r = record {
  told = r.events;
  coming = r.coming ∙ ap (λ (bytes : List ℕ). option_map (λ left. bytes ++ left) b.coming) (sym (append-nil (take n room)));
  written = r.written ∙ nothing-added a.written;
  quiets = (omega (arith, r.quiets), omega (arith, r.quiets), omega (arith, r.quiets));
  read_faults = r.read_faults;
  write_faults = (omega (arith, r.write_faults), omega (arith, r.write_faults), omega (arith, r.write_faults));
}

pub moves-quiet : (a b : LinkState) → ReadsQuiet a b → Moves a (quiet a.written b.now ∷ []) [] 0 b
moves-quiet a b r = record {
  told = r.events;
  coming = sym r.coming ∙ left-none b.coming;
  written = r.written ∙ nothing-added a.written;
  quiets = r.quiets;
  read_faults = r.read_faults;
  write_faults = (omega (arith, r.write_faults), omega (arith, r.write_faults), omega (arith, r.write_faults));
}

pub moves-end : (a b : LinkState) → ReadsEnd a b → Moves a [] [] 0 b
moves-end a b r = record {
  told = r.events ∙ nothing-added a.events;
  coming = sym r.coming ∙ left-none b.coming;
  written = r.written ∙ nothing-added a.written;
  quiets = (omega (arith, r.quiets), omega (arith, r.quiets), omega (arith, r.quiets));
  read_faults = r.read_faults;
  write_faults = (omega (arith, r.write_faults), omega (arith, r.write_faults), omega (arith, r.write_faults));
}

pub moves-fault : (a b : LinkState) → FailsToRead a b → Moves a [] [] 0 b
moves-fault a b r = record {
  told = r.events ∙ nothing-added a.events;
  coming = sym r.coming ∙ left-none b.coming;
  written = r.written ∙ nothing-added a.written;
  quiets = (omega (arith, r.quiets), omega (arith, r.quiets), omega (arith, r.quiets));
  read_faults = r.read_faults.0;
  write_faults = (omega (arith, r.write_faults), omega (arith, r.write_faults), omega (arith, r.write_faults));
}

-- a move without events or bytes adds none
pub moves-still : (a b c : LinkState) (events : List Event) (wrote : List ℕ) (failed : ℕ) → Moves a events wrote 0 b → Moves b [] [] failed c → Moves a events wrote failed c
moves-still a b c events wrote failed one two =
    subst (λ (es : List Event). Moves a es wrote failed c) (append-nil events)
    (subst (λ (w : List ℕ). Moves a (events ++ []) w failed c) (append-nil wrote) (moves-join a b c events [] wrote [] failed one two))

-- a read makes the events longer, and writes nothing
grows : (a b c : LinkState) (trace : List Happening) (h : Happening) → sent_in (h ∷ []) ≡ [] → Moves a (events_in trace) (spelling_of (sent_in trace)) 0 b → Moves b (events_in (h ∷ [])) [] 0 c
    → Moves a (events_in (trace ++ h ∷ [])) (spelling_of (sent_in (trace ++ h ∷ []))) 0 c
grows a b c trace h unreplied one two =
    moves-events a c 0 (events_in trace ++ events_in (h ∷ [])) (events_in (trace ++ h ∷ [])) (spelling_of (sent_in trace) ++ []) (spelling_of (sent_in (trace ++ h ∷ [])))
    (sym (events_in-append trace (h ∷ [])))
    (append-nil (spelling_of (sent_in trace)) ∙ ap spelling_of (sym (sent_in-append trace (h ∷ []) ∙ ap (λ (fs : List Frame). sent_in trace ++ fs) unreplied ∙ append-nil (sent_in trace))))
    (moves-join a b c (events_in trace) (events_in (h ∷ [])) (spelling_of (sent_in trace)) [] 0 one two)

-- a read gave bytes, which stand behind the rest
pub so_far-gets : (start : Start) (p : Point) (cost n : ℕ) (end : LinkState) (held : Buffered) (room : List ℕ) → Waits start p cost → ReadsPiece p.link room n end
    → held.rest ≡ p.held.rest ++ take n room → held.place ≡ p.held.place → n ≤ read_limit → length p.held.rest + n ≤ buffer_length → SoFar start (point held p.stage p.requests end p.shown p.passed) (cost + n)
so_far-gets start p cost n end held room w r rest place most fits =
    let s = w.so_far in
    let bytes : List ℕ = take n room in
    let h : Happening = received p.link.written end.now bytes in
    let size : length bytes ≡ n = length-take n room ∙ omega (arith, r.most) in
    let more : bytes_read (s.trace ++ h ∷ []) ≡ bytes_read s.trace ++ bytes = bytes_read-append s.trace (h ∷ []) ∙ ap (λ (b : List ℕ). bytes_read s.trace ++ b) (append-nil bytes) in
    let frames : frames_in (s.trace ++ h ∷ []) ≡ frames_in s.trace = frames_in-append s.trace (h ∷ []) ∙ append-nil (frames_in s.trace) in
    let steps : steps_in (s.trace ++ h ∷ []) ≡ steps_in s.trace = steps_in-append s.trace (h ∷ []) ∙ append-nil (steps_in s.trace) in
    record {
      trace = s.trace ++ h ∷ [];
      follows =
          follows-snoc start.block (begun start.link) (standing p.stage p.requests p.link) (standing p.stage p.requests end) s.trace h None s.follows
          ((λ i. record { stage = p.stage; now = end.now; last_read = r.last_read i; requests = p.requests }), refl);
      moves = grows start.link p.link end s.trace h refl s.moves (moves-read p.link end room n r);
      ended = r.ended ∙ s.ended;
      reads = each-snoc start.turns start.link.written [] s.trace h s.reads (may_read start p cost (piece p.link.written end.now bytes) w refl (omega (arith, size, most)) (omega (arith, size, fits)));
      fills =
          subst (λ (b : List ℕ). Fills b (frames_in (s.trace ++ h ∷ [])) held.rest) (sym more)
          (subst (λ (fs : List Frame). Fills (bytes_read s.trace ++ bytes) fs held.rest) (sym frames)
          (subst (λ (left : List ℕ). Fills (bytes_read s.trace ++ bytes) (frames_in s.trace) left) (sym rest) (fills-later (bytes_read s.trace) p.held.rest bytes (frames_in s.trace) s.fills)));
      place = omega (arith, s.place, place, size, ap length rest, length-append p.held.rest bytes, ap length more, length-append (bytes_read s.trace) bytes);
      costs = omega (arith, s.costs, size, ap cost_of (events_in-append s.trace (h ∷ [])), cost_of-append (events_in s.trace) (events_in (h ∷ [])), ap length (append-nil bytes));
      went = subst (λ (ss : List Step). Went start.shown ss p.shown) (sym steps) s.went;
      through = s.through ∙ ap all_passed (sym steps);
    }

-- A read was quiet, and this came of it; behind the read these bytes were written, and so many writes failed.
pub record IdlesHere (start : Start) (p : Point) (cost : ℕ) (read : LinkState) (idled : Idled) (shown : Shown) (why : Option Cause) (wrote : List ℕ) (failed : ℕ) (end : LinkState) : Type 0 where
  pub waits : Waits start p cost
  pub few : length p.held.rest ≤ buffer_length
  pub reads : ReadsQuiet p.link read
  pub idles : Idles read.last_read read.now p.stage p.requests idled why
  pub went : Went p.shown idled.steps shown
  pub sends : Sends read wrote failed end

abbrev pub quietly : List Happening → LinkState → LinkState → Idled → List Happening
quietly trace before read idled = trace ++ was_quiet before.written read.now idled ∷ []

idles-follows : (start : Start) (p : Point) (cost : ℕ) (read : LinkState) (idled : Idled) (shown : Shown) (why : Option Cause) (wrote : List ℕ) (failed : ℕ) (end : LinkState) → (r : IdlesHere start p cost read idled shown why wrote failed end)
    → Follows start.block (begun start.link) (quietly r.waits.so_far.trace p.link read idled) (standing idled.stage idled.requests end) why
idles-follows start p cost read idled shown why wrote failed end r =
    let last_read : end.last_read ≡ p.link.last_read = r.sends.last_read ∙ r.reads.last_read in
    follows-snoc start.block (begun start.link) (standing p.stage p.requests p.link) (standing idled.stage idled.requests end) r.waits.so_far.trace (was_quiet p.link.written read.now idled) why r.waits.so_far.follows (
      subst (λ (m : ℕ). Idles m read.now p.stage p.requests idled why) r.reads.last_read r.idles,
      (λ i. record { stage = idled.stage; now = r.sends.now i; last_read = last_read i; requests = idled.requests }),
    )

-- what is written behind a quiet stands behind all that was written
idles-moves : (start : Start) (p : Point) (cost : ℕ) (read : LinkState) (idled : Idled) (shown : Shown) (why : Option Cause) (wrote : List ℕ) (failed : ℕ) (end : LinkState) → (r : IdlesHere start p cost read idled shown why wrote failed end)
    → Moves start.link (events_in (quietly r.waits.so_far.trace p.link read idled)) (spelling_of (sent_in r.waits.so_far.trace) ++ wrote) failed end
idles-moves start p cost read idled shown why wrote failed end r =
    let s = r.waits.so_far in
    let h : Happening = was_quiet p.link.written read.now idled in
    let before : List ℕ = spelling_of (sent_in s.trace) in
    moves-events start.link end failed (events_in s.trace ++ events_in (h ∷ [])) (events_in (s.trace ++ h ∷ [])) (before ++ wrote) (before ++ wrote) (sym (events_in-append s.trace (h ∷ []))) refl
    (moves-join start.link p.link end (events_in s.trace) (events_in (h ∷ [])) before wrote failed s.moves
    (moves-sends p.link read end failed (events_in (h ∷ [])) [] wrote (moves-quiet p.link read r.reads) (sends-moves read end wrote failed r.sends)))

-- the same, where all of the quiet's request was written
idles-moves-all : (start : Start) (p : Point) (cost : ℕ) (read : LinkState) (idled : Idled) (shown : Shown) (why : Option Cause) (end : LinkState) → (r : IdlesHere start p cost read idled shown why (spelling_of (listed idled.request)) 0 end)
    → Moves start.link (events_in (quietly r.waits.so_far.trace p.link read idled)) (spelling_of (sent_in (quietly r.waits.so_far.trace p.link read idled))) 0 end
idles-moves-all start p cost read idled shown why end r =
    let trace = r.waits.so_far.trace in
    moves-events start.link end 0 (events_in (quietly trace p.link read idled)) (events_in (quietly trace p.link read idled)) (spelling_of (sent_in trace) ++ spelling_of (listed idled.request)) (spelling_of (sent_in (quietly trace p.link read idled)))
    refl (sym (sent-quiet trace p.link.written read.now idled)) (idles-moves start p cost read idled shown why (spelling_of (listed idled.request)) 0 end r)

idles-reads : (start : Start) (p : Point) (cost : ℕ) (read : LinkState) (idled : Idled) (shown : Shown) (why : Option Cause) (wrote : List ℕ) (failed : ℕ) (end : LinkState) → (r : IdlesHere start p cost read idled shown why wrote failed end)
    → EachMayRead start.turns start.link.written [] (quietly r.waits.so_far.trace p.link read idled)
idles-reads start p cost read idled shown why wrote failed end r =
    each-snoc start.turns start.link.written [] r.waits.so_far.trace (was_quiet p.link.written read.now idled) r.waits.so_far.reads
    (may_read start p cost (quiet p.link.written read.now) r.waits refl (omega arith) (omega (arith, r.few)))

idles-bytes_read : (trace : List Happening) (before read : LinkState) (idled : Idled) → bytes_read (quietly trace before read idled) ≡ bytes_read trace
idles-bytes_read trace before read idled = bytes_read-append trace (was_quiet before.written read.now idled ∷ []) ∙ append-nil (bytes_read trace)

idles-fills : (start : Start) (p : Point) (cost : ℕ) (read : LinkState) (idled : Idled) (shown : Shown) (why : Option Cause) (wrote : List ℕ) (failed : ℕ) (end : LinkState) → (r : IdlesHere start p cost read idled shown why wrote failed end)
    → Fills (bytes_read (quietly r.waits.so_far.trace p.link read idled)) (frames_in (quietly r.waits.so_far.trace p.link read idled)) p.held.rest
idles-fills start p cost read idled shown why wrote failed end r =
    let s = r.waits.so_far in
    let frames : frames_in (quietly s.trace p.link read idled) ≡ frames_in s.trace = frames_in-append s.trace (was_quiet p.link.written read.now idled ∷ []) ∙ append-nil (frames_in s.trace) in
    subst (λ (b : List ℕ). Fills b (frames_in (quietly s.trace p.link read idled)) p.held.rest) (sym (idles-bytes_read s.trace p.link read idled))
    (subst (λ (fs : List Frame). Fills (bytes_read s.trace) fs p.held.rest) (sym frames) s.fills)

idles-went : (start : Start) (p : Point) (cost : ℕ) (read : LinkState) (idled : Idled) (shown : Shown) (why : Option Cause) (wrote : List ℕ) (failed : ℕ) (end : LinkState) → (r : IdlesHere start p cost read idled shown why wrote failed end)
    → Went start.shown (steps_in (quietly r.waits.so_far.trace p.link read idled)) shown
idles-went start p cost read idled shown why wrote failed end r =
    let s = r.waits.so_far in
    subst (λ (ss : List Step). Went start.shown ss shown) (sym (steps-quiet s.trace p.link.written read.now idled)) (went-join start.shown p.shown shown (steps_in s.trace) idled.steps s.went r.went)

idles-through : (start : Start) (p : Point) (cost : ℕ) (read : LinkState) (idled : Idled) (shown : Shown) (why : Option Cause) (wrote : List ℕ) (failed : ℕ) (end : LinkState) → (r : IdlesHere start p cost read idled shown why wrote failed end)
    → p.passed ≡ all_passed (steps_in (quietly r.waits.so_far.trace p.link read idled))
idles-through start p cost read idled shown why wrote failed end r =
    let s = r.waits.so_far in
    passed-more p.passed (steps_in s.trace) idled.steps s.through (idles-calls read.last_read read.now p.stage p.requests idled why r.idles) ∙ ap all_passed (sym (steps-quiet s.trace p.link.written read.now idled))

-- the link goes on behind a quiet
pub so_far-idles : (start : Start) (p : Point) (cost : ℕ) (read : LinkState) (idled : Idled) (shown : Shown) (end : LinkState) → IdlesHere start p cost read idled shown None (spelling_of (listed idled.request)) 0 end
    → SoFar start (point p.held idled.stage idled.requests end shown p.passed) (cost + 1)
so_far-idles start p cost read idled shown end r =
    let s = r.waits.so_far in
    let h : Happening = was_quiet p.link.written read.now idled in
    let wrote : List ℕ = spelling_of (listed idled.request) in
    record {
      trace = quietly s.trace p.link read idled;
      follows = idles-follows start p cost read idled shown None wrote 0 end r;
      moves = idles-moves-all start p cost read idled shown None end r;
      ended = r.sends.ended ∙ r.reads.ended ∙ s.ended;
      reads = idles-reads start p cost read idled shown None wrote 0 end r;
      fills = idles-fills start p cost read idled shown None wrote 0 end r;
      place = omega (arith, s.place, ap length (idles-bytes_read s.trace p.link read idled));
      costs = omega (arith, s.costs, ap cost_of (events_in-append s.trace (h ∷ [])), cost_of-append (events_in s.trace) (events_in (h ∷ [])));
      went = idles-went start p cost read idled shown None wrote 0 end r;
      through = idles-through start p cost read idled shown None wrote 0 end r;
    }

-- a quiet ends the link, and its request was written
ends-idles : (start : Start) (p : Point) (cost : ℕ) (read : LinkState) (idled : Idled) (shown : Shown) (why : Cause) (end : LinkState) (answer : LinkEnd) → failed_writes answer ≡ 0
    → (r : IdlesHere start p cost read idled shown (Some why) (spelling_of (listed idled.request)) 0 end)
    → EndsBy start.turns start.link (quietly r.waits.so_far.trace p.link read idled) (standing idled.stage idled.requests end) (Some why) (spelling_of (sent_in (quietly r.waits.so_far.trace p.link read idled))) answer end
    → Ended start answer idled.stage end shown p.passed
ends-idles start p cost read idled shown why end answer none r by =
    let wrote : List ℕ = spelling_of (listed idled.request) in
    let trace : List Happening = quietly r.waits.so_far.trace p.link read idled in record {
      asked = steps_in trace;
      comes = record {
        trace = trace;
        last = standing idled.stage idled.requests end;
        cause = Some why;
        wrote = spelling_of (sent_in trace);
        follows = idles-follows start p cost read idled shown (Some why) wrote 0 end r;
        stands = refl;
        last_read = refl;
        moves = subst (λ (n : ℕ). Moves start.link (events_in trace) (spelling_of (sent_in trace)) n end) (sym none) (idles-moves-all start p cost read idled shown (Some why) end r);
        reads = idles-reads start p cost read idled shown (Some why) wrote 0 end r;
        ends = by;
        steps = refl;
      };
      went = idles-went start p cost read idled shown (Some why) wrote 0 end r;
      through = through-all answer p.passed (steps_in trace) (idles-through start p cost read idled shown (Some why) wrote 0 end r);
    }

idles-stays : (start : Start) (p : Point) (cost : ℕ) (read : LinkState) (idled : Idled) (shown : Shown) (why : Option Cause) (wrote : List ℕ) (failed : ℕ) (end : LinkState) → IdlesHere start p cost read idled shown why wrote failed end
    → StaysAt start.link (standing idled.stage idled.requests end) end
idles-stays start p cost read idled shown why wrote failed end r = record { ended = r.sends.ended ∙ r.reads.ended ∙ r.waits.so_far.ended; now = refl }

idles-answered : (start : Start) (p : Point) (cost : ℕ) (read : LinkState) (idled : Idled) (shown : Shown) (why : Option Cause) (wrote : List ℕ) (failed : ℕ) (end : LinkState) → (r : IdlesHere start p cost read idled shown why wrote failed end)
    → IsAnswered (quietly r.waits.so_far.trace p.link read idled) (spelling_of (sent_in (quietly r.waits.so_far.trace p.link read idled)))
idles-answered start p cost read idled shown why wrote failed end r = record { left = p.held.rest; fills = idles-fills start p cost read idled shown why wrote failed end r; sent = refl }

ends-silent : (start : Start) (p : Point) (cost : ℕ) (read : LinkState) (idled : Idled) (shown : Shown) (end : LinkState) → IdlesHere start p cost read idled shown (Some silent) (spelling_of (listed idled.request)) 0 end
    → Ended start (links.Silent end.last_read end.now) idled.stage end shown p.passed
ends-silent start p cost read idled shown end r =
    let wrote : List ℕ = spelling_of (listed idled.request) in
    ends-idles start p cost read idled shown silent end (links.Silent end.last_read end.now) refl r
    (record { why = refl; last_read = refl; read = refl; answered = idles-answered start p cost read idled shown (Some silent) wrote 0 end r }, idles-stays start p cost read idled shown (Some silent) wrote 0 end r)

ends-displaced : (start : Start) (p : Point) (cost : ℕ) (read : LinkState) (idled : Idled) (shown : Shown) (end : LinkState) → IdlesHere start p cost read idled shown (Some displaced) (spelling_of (listed idled.request)) 0 end
    → Ended start links.Displaced idled.stage end shown p.passed
ends-displaced start p cost read idled shown end r =
    let wrote : List ℕ = spelling_of (listed idled.request) in
    ends-idles start p cost read idled shown displaced end links.Displaced refl r
    (record { why = refl; answered = idles-answered start p cost read idled shown (Some displaced) wrote 0 end r }, idles-stays start p cost read idled shown (Some displaced) wrote 0 end r)

ends-drained : (start : Start) (p : Point) (cost : ℕ) (read : LinkState) (idled : Idled) (shown : Shown) (end : LinkState) → IdlesHere start p cost read idled shown (Some drained) (spelling_of (listed idled.request)) 0 end
    → Ended start links.Drained idled.stage end shown p.passed
ends-drained start p cost read idled shown end r =
    let wrote : List ℕ = spelling_of (listed idled.request) in
    ends-idles start p cost read idled shown drained end links.Drained refl r
    (record { why = refl; answered = idles-answered start p cost read idled shown (Some drained) wrote 0 end r }, idles-stays start p cost read idled shown (Some drained) wrote 0 end r)

-- the request of a quiet could not be written whole
idles-unwritten : (start : Start) (p : Point) (cost : ℕ) (read : LinkState) (idled : Idled) (shown : Shown) (end : LinkState) (frame : Frame) (part lost : List ℕ)
    → IdlesHere start p cost read idled shown (Some unwritten) part 1 end → idled.request ≡ Some frame → 0 < length lost → part ++ lost ≡ spelling_of (listed idled.request)
    → Ended start links.WriteFault idled.stage end shown p.passed
idles-unwritten start p cost read idled shown end frame part lost r is some cut =
    let s = r.waits.so_far in
    let trace : List Happening = quietly s.trace p.link read idled in record {
      asked = steps_in trace;
      comes = record {
        trace = trace;
        last = standing idled.stage idled.requests end;
        cause = Some unwritten;
        wrote = spelling_of (sent_in s.trace) ++ part;
        follows = idles-follows start p cost read idled shown (Some unwritten) part 1 end r;
        stands = refl;
        last_read = refl;
        moves = idles-moves start p cost read idled shown (Some unwritten) part 1 end r;
        reads = idles-reads start p cost read idled shown (Some unwritten) part 1 end r;
        ends = (
          record {
            before = s.trace;
            last = was_quiet p.link.written read.now idled;
            happened_last = refl;
            left = p.held.rest;
            fills = idles-fills start p cost read idled shown (Some unwritten) part 1 end r;
            frame = frame;
            writes = (is, refl);
            part = part;
            lost = lost;
            some_lost = some;
            cut = cut ∙ ap (λ (o : Option Frame). spelling_of (listed o)) is;
            sent = refl;
          },
          idles-stays start p cost read idled shown (Some unwritten) part 1 end r,
        );
        steps = refl;
      };
      went = idles-went start p cost read idled shown (Some unwritten) part 1 end r;
      through = through-all links.WriteFault p.passed (steps_in trace) (idles-through start p cost read idled shown (Some unwritten) part 1 end r);
    }

-- the link would go on, and ends for another reason
goes_on : (start : Start) (p : Point) (cost : ℕ) → (s : SoFar start p cost) → IsUnfinished p.held.rest → Continues s.trace None (spelling_of (sent_in s.trace)) p.held.rest
goes_on start p cost s unfinished = record { why = refl; framed = framed start p cost s unfinished; sent = refl }

ends-here : (start : Start) (p : Point) (cost : ℕ) (end : LinkState) (answer : LinkEnd) → (s : SoFar start p cost) → Moves p.link [] [] (failed_writes answer) end → p.link.last_read ≡ end.last_read
    → EndsBy start.turns start.link s.trace (standing p.stage p.requests p.link) None (spelling_of (sent_in s.trace)) answer end → Ended start answer p.stage end p.shown p.passed
ends-here start p cost end answer s still last_read by = record {
  asked = steps_in s.trace;
  comes = record {
    trace = s.trace;
    last = standing p.stage p.requests p.link;
    cause = None;
    wrote = spelling_of (sent_in s.trace);
    follows = s.follows;
    stands = refl;
    last_read = last_read;
    moves = moves-still start.link p.link end (events_in s.trace) (spelling_of (sent_in s.trace)) (failed_writes answer) s.moves still;
    reads = s.reads;
    ends = by;
    steps = refl;
  };
  went = s.went;
  through = through-all answer p.passed (steps_in s.trace) s.through;
}

pub ends-whole : (start : Start) (p : Point) (cost : ℕ) (end : LinkState) → Waits start p cost → ReadsEnd p.link end → p.held.rest ≡ [] → Ended start links.Ended p.stage end p.shown p.passed
ends-whole start p cost end w r empty =
    let s = w.so_far in
    ends-here start p cost end links.Ended s (moves-end p.link end r) (sym r.last_read) record {
      ended = r.ended;
      nothing_comes = rw r.coming r.nothing_left;
      goes_on = subst (λ (left : List ℕ). Continues s.trace None (spelling_of (sent_in s.trace)) left) empty (goes_on start p cost s w.unfinished);
      below = omega (arith, w.below, s.costs);
    }

pub ends-cut : (start : Start) (p : Point) (cost : ℕ) (end : LinkState) → Waits start p cost → ReadsEnd p.link end → 0 < length p.held.rest → Ended start (links.Cut p.held.place) p.stage end p.shown p.passed
ends-cut start p cost end w r some =
    let s = w.so_far in
    ends-here start p cost end (links.Cut p.held.place) s (moves-end p.link end r) (sym r.last_read) record {
      ended = r.ended;
      nothing_comes = rw r.coming r.nothing_left;
      left = p.held.rest;
      goes_on = goes_on start p cost s w.unfinished;
      something_left = some;
      place = s.place;
      below = omega (arith, w.below, s.costs);
    }

none_or_some : (xs : List ℕ) → (xs ≡ []) ⊎ (0 < length xs)
none_or_some [] = inl refl
none_or_some (x ∷ xs) = inr (omega arith)

-- the peer writes no more
pub ends-reads : (start : Start) (p : Point) (cost : ℕ) (end : LinkState) (answer : LinkEnd) → Waits start p cost → ReadsEnd p.link end
    → (p.held.rest ≡ [] → answer ≡ links.Ended) → (0 < length p.held.rest → answer ≡ links.Cut p.held.place) → Ended start answer p.stage end p.shown p.passed
ends-reads start p cost end answer w r whole cut = elim (none_or_some p.held.rest) [
  | inl empty ↦ subst (λ (a : LinkEnd). Ended start a p.stage end p.shown p.passed) (sym (whole empty)) (ends-whole start p cost end w r empty)
  | inr some ↦ subst (λ (a : LinkEnd). Ended start a p.stage end p.shown p.passed) (sym (cut some)) (ends-cut start p cost end w r some)
]

pub ends-unread : (start : Start) (p : Point) (cost : ℕ) (end : LinkState) → Waits start p cost → FailsToRead p.link end → Ended start links.ReadFault p.stage end p.shown p.passed
ends-unread start p cost end w r =
    let s = w.so_far in
    ends-here start p cost end links.ReadFault s (moves-fault p.link end r) (sym r.last_read) (
      record {
        left = p.held.rest;
        goes_on = goes_on start p cost s w.unfinished;
        below = omega (arith, w.below, s.costs);
        fault = (omega (arith, s.moves.read_faults, r.read_faults), omega (arith, s.moves.read_faults, r.read_faults));
      },
      r.ended ∙ s.ended,
    )

pub ends-spent : (start : Start) (p : Point) (cost : ℕ) → SoFar start p cost → IsUnfinished p.held.rest → start.turns ≤ cost → Ended start links.Spent p.stage p.link p.shown p.passed
ends-spent start p cost s unfinished reached = record {
  asked = steps_in s.trace;
  comes = record {
    trace = s.trace;
    last = standing p.stage p.requests p.link;
    cause = None;
    wrote = spelling_of (sent_in s.trace);
    follows = s.follows;
    stands = refl;
    last_read = refl;
    moves = s.moves;
    reads = s.reads;
    ends = (record { left = p.held.rest; goes_on = goes_on start p cost s unfinished; reached = omega (arith, s.costs, reached) }, record { ended = s.ended; now = refl });
    steps = refl;
  };
  went = s.went;
  through = through-all links.Spent p.passed (steps_in s.trace) s.through;
}

-- what a quiet came to, with its link behind the read
here : (start : Start) (held : Buffered) (stage next : Stage) (a b : Requests) (mid read end : LinkState) (before after : Shown) (passed : Passed) (cost : ℕ) (answer : Option LinkEnd) (why : Option Cause) (wrote : List ℕ) (failed : ℕ)
    → Waits start (point held stage a mid before passed) cost → length held.rest ≤ buffer_length → ReadsQuiet mid read → (i : IdlesLink read stage a before answer next b end after) → i.cause ≡ why → Sends read wrote failed end
    → IdlesHere start (point held stage a mid before passed) cost read i.idled after why wrote failed end
here start held stage next a b mid read end before after passed cost answer why wrote failed w few r i is sends =
    record { waits = w; few = few; reads = r; idles = subst (λ (c : Option Cause). Idles read.last_read read.now stage a i.idled c) is i.idles; went = i.went; sends = sends }

-- a quiet, by what the link did in it

pub link-idles : (start : Start) (held : Buffered) (stage next : Stage) (a b : Requests) (mid read end : LinkState) (before after : Shown) (passed : Passed) (cost : ℕ)
    → Waits start (point held stage a mid before passed) cost → length held.rest ≤ buffer_length → ReadsQuiet mid read → IdlesLink read stage a before None next b end after
    → SoFar start (point held next b end after passed) (cost + 1)
link-idles start held stage next a b mid read end before after passed cost w few r i =
    subst (λ (x : Stage). SoFar start (point held x b end after passed) (cost + 1)) (sym i.stage_is)
    (subst (λ (x : Requests). SoFar start (point held i.idled.stage x end after passed) (cost + 1)) (sym i.requests_is)
    (so_far-idles start (point held stage a mid before passed) cost read i.idled after end (here start held stage next a b mid read end before after passed cost None None _ 0 w few r i i.ends.0 i.ends.1)))

by_answer : (start : Start) (held : Buffered) (stage next : Stage) (a b : Requests) (mid read end : LinkState) (before after : Shown) (passed : Passed) (cost : ℕ) (answer : LinkEnd)
    → Waits start (point held stage a mid before passed) cost → length held.rest ≤ buffer_length → ReadsQuiet mid read → (i : IdlesLink read stage a before (Some answer) next b end after)
    → Ended start answer i.idled.stage end after passed
by_answer start held stage next a b mid read end before after passed cost (links.Silent last_read now) w few r i =
    subst (λ (x : LinkEnd). Ended start x i.idled.stage end after passed) (sym ((λ k. links.Silent (i.ends.2 k) (i.ends.3 k))))
    (ends-silent start (point held stage a mid before passed) cost read i.idled after end (here start held stage next a b mid read end before after passed cost (Some (links.Silent last_read now)) (Some silent) _ 0 w few r i i.ends.0 i.ends.1))
by_answer start held stage next a b mid read end before after passed cost links.Displaced w few r i =
    ends-displaced start (point held stage a mid before passed) cost read i.idled after end (here start held stage next a b mid read end before after passed cost (Some links.Displaced) (Some displaced) _ 0 w few r i i.ends.0 i.ends.1)
by_answer start held stage next a b mid read end before after passed cost links.Drained w few r i =
    ends-drained start (point held stage a mid before passed) cost read i.idled after end (here start held stage next a b mid read end before after passed cost (Some links.Drained) (Some drained) _ 0 w few r i i.ends.0 i.ends.1)
by_answer start held stage next a b mid read end before after passed cost links.WriteFault w few r i =
    let s = i.ends.1 in
    let some = some_lost-replied i.idled.request s.part s.lost s.some_lost s.cut in
    idles-unwritten start (point held stage a mid before passed) cost read i.idled after end some.0 s.part s.lost
    (here start held stage next a b mid read end before after passed cost (Some links.WriteFault) (Some unwritten) s.part 1 w few r i i.ends.0 s.sends) some.1 s.some_lost s.cut
by_answer start held stage next a b mid read end before after passed cost links.Closed w few r i = absurd i.ends
by_answer start held stage next a b mid read end before after passed cost links.Ended w few r i = absurd i.ends
by_answer start held stage next a b mid read end before after passed cost (links.Cut at) w few r i = absurd i.ends
by_answer start held stage next a b mid read end before after passed cost (links.Bad bad_frame) w few r i = absurd i.ends
by_answer start held stage next a b mid read end before after passed cost links.ReadFault w few r i = absurd i.ends
by_answer start held stage next a b mid read end before after passed cost links.Spent w few r i = absurd i.ends
by_answer start held stage next a b mid read end before after passed cost links.Memory w few r i = absurd i.ends

pub link-ends : (start : Start) (held : Buffered) (stage next : Stage) (a b : Requests) (mid read end : LinkState) (before after : Shown) (passed : Passed) (cost : ℕ) (answer : LinkEnd)
    → Waits start (point held stage a mid before passed) cost → length held.rest ≤ buffer_length → ReadsQuiet mid read → IdlesLink read stage a before (Some answer) next b end after
    → Ended start answer next end after passed
link-ends start held stage next a b mid read end before after passed cost answer w few r i =
    subst (λ (x : Stage). Ended start answer x end after passed) (sym i.stage_is) (by_answer start held stage next a b mid read end before after passed cost answer w few r i)
