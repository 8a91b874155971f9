-- Traces that grow at their end.
use Rattle.std.proofs.Common.{◌≡◌, ℕ, List, [], ◌∷◌, ◌++◌, refl, sym, ap, ◌∙◌, subst, append_assoc, append-nil}
use Rattle.std.specs.Prelude.{Option, Some, None, MatchOption}
use Rattle.afp_outside.specs.ends.Link.{Event, piece, quiet, bytes_taken}
use Rattle.afp_serial.specs.Went.{Step}
use Rattle.dsi_frame.specs.Frame.{Frame, IsSpelling}
use Rattle.dsi_frame.specs.Stream.{Spelled}
use Rattle.dsi_frame.specs.Frame.{canonical_frame}
use Rattle.afp_server.specs.link.Did.{Did}
use Rattle.afp_server.specs.link.LinkRun.{MayRead, EachMayRead, Fills, bytes_read}
use Rattle.dsi_frame.specs.Replies.{listed, spelling_of}
use Rattle.afp_server.specs.link.Trace.{Happening, received, was_quiet, handled, events_in, frames_in, sent_in, steps_in, Standing, Cause, Idled, MovesStanding, Follows}
use Rattle.afp_server.proofs.OfLink.Moving.{taken-append}

pub events_in-append : (a b : List Happening) → events_in (a ++ b) ≡ events_in a ++ events_in b
events_in-append [] b = refl
events_in-append (received w n bytes ∷ a) b = ap (λ (es : List Event). piece w n bytes ∷ es) (events_in-append a b)
events_in-append (was_quiet w n idled ∷ a) b = ap (λ (es : List Event). quiet w n ∷ es) (events_in-append a b)
events_in-append (handled f did ∷ a) b = events_in-append a b

pub frames_in-append : (a b : List Happening) → frames_in (a ++ b) ≡ frames_in a ++ frames_in b
frames_in-append [] b = refl
frames_in-append (received w n bytes ∷ a) b = frames_in-append a b
frames_in-append (was_quiet w n idled ∷ a) b = frames_in-append a b
frames_in-append (handled f did ∷ a) b = ap (λ (fs : List Frame). f ∷ fs) (frames_in-append a b)

pub sent_in-append : (a b : List Happening) → sent_in (a ++ b) ≡ sent_in a ++ sent_in b
sent_in-append [] b = refl
sent_in-append (received w n bytes ∷ a) b = sent_in-append a b
sent_in-append (was_quiet w n idled ∷ a) b = ap (λ (fs : List Frame). listed idled.request ++ fs) (sent_in-append a b) ∙ sym (append_assoc (listed idled.request) (sent_in a) (sent_in b))
sent_in-append (handled f did ∷ a) b = ap (λ (fs : List Frame). listed did.reply ++ fs) (sent_in-append a b) ∙ sym (append_assoc (listed did.reply) (sent_in a) (sent_in b))

pub steps_in-append : (a b : List Happening) → steps_in (a ++ b) ≡ steps_in a ++ steps_in b
steps_in-append [] b = refl
steps_in-append (received w n bytes ∷ a) b = steps_in-append a b
steps_in-append (was_quiet w n idled ∷ a) b = ap (λ (ss : List Step). idled.steps ++ ss) (steps_in-append a b) ∙ sym (append_assoc idled.steps (steps_in a) (steps_in b))
steps_in-append (handled f did ∷ a) b = ap (λ (ss : List Step). did.steps ++ ss) (steps_in-append a b) ∙ sym (append_assoc did.steps (steps_in a) (steps_in b))

pub bytes_read-append : (a b : List Happening) → bytes_read (a ++ b) ≡ bytes_read a ++ bytes_read b
bytes_read-append a b = ap bytes_taken (events_in-append a b) ∙ taken-append (events_in a) (events_in b)

pub spelling_of-append : (frames others : List Frame) → spelling_of (frames ++ others) ≡ spelling_of frames ++ spelling_of others
spelling_of-append [] others = refl
spelling_of-append (f ∷ frames) others = ap (λ (b : List ℕ). canonical_frame f ++ b) (spelling_of-append frames others) ∙ sym (append_assoc (canonical_frame f) (spelling_of frames) (spelling_of others))

-- one frame more, at the end

pub frames-one : (trace : List Happening) (f : Frame) (did : Did) → sent_in (trace ++ handled f did ∷ []) ≡ sent_in trace ++ listed did.reply
frames-one trace f did = sent_in-append trace (handled f did ∷ []) ∙ ap (λ (fs : List Frame). sent_in trace ++ fs) (append-nil (listed did.reply))

pub steps-one : (trace : List Happening) (f : Frame) (did : Did) → steps_in (trace ++ handled f did ∷ []) ≡ steps_in trace ++ did.steps
steps-one trace f did = steps_in-append trace (handled f did ∷ []) ∙ ap (λ (ss : List Step). steps_in trace ++ ss) (append-nil did.steps)

pub events-one : (trace : List Happening) (f : Frame) (did : Did) → events_in (trace ++ handled f did ∷ []) ≡ events_in trace
events-one trace f did = events_in-append trace (handled f did ∷ []) ∙ append-nil (events_in trace)

pub sent-one : (trace : List Happening) (f : Frame) (did : Did) → spelling_of (sent_in (trace ++ handled f did ∷ [])) ≡ spelling_of (sent_in trace) ++ spelling_of (listed did.reply)
sent-one trace f did = ap spelling_of (frames-one trace f did) ∙ spelling_of-append (sent_in trace) (listed did.reply)

-- one step more

follows-next : (block : List ℕ) (mid b c : Standing) (trace more : List Happening) (o why : Option Cause)
    → (Follows block mid trace b None → Follows block mid more c why)
    → MatchOption o (Follows block mid trace b None) (λ x. (trace ≡ []) × (b ≡ mid) × ((let none : Option Cause = None in none) ≡ Some x))
    → MatchOption o (Follows block mid more c why) (λ x. (more ≡ []) × (c ≡ mid) × (why ≡ Some x))
follows-next block mid b c trace more None why step rest = step rest
follows-next block mid b c trace more (Some x) why step rest = absurd (cc (rest.2))

pub follows-snoc : (block : List ℕ) (a b c : Standing) (trace : List Happening) (h : Happening) (why : Option Cause)
    → Follows block a trace b None → MovesStanding block b h c why → Follows block a (trace ++ h ∷ []) c why
follows-snoc block a b c [] h None f t = (c, None, subst (λ (s : Standing). MovesStanding block s h c None) f.0 t, (refl, refl))
follows-snoc block a b c [] h (Some x) f t = (c, Some x, subst (λ (s : Standing). MovesStanding block s h c (Some x)) f.0 t, (refl, refl, refl))
follows-snoc block a b c (g ∷ trace) h why f t =
    (f.0, f.1, f.2, follows-next block f.0 b c trace (trace ++ h ∷ []) f.1 why (λ r. follows-snoc block f.0 b c trace h why r t) f.3)

-- what a happening asks of the reads
abbrev pub MayHappen : ℕ → Option (List ℕ) → List Happening → Happening → Type 0
MayHappen turns written before (received past now bytes) = MayRead turns written before (piece past now bytes)
MayHappen turns written before (was_quiet past now idled) = MayRead turns written before (quiet past now)
MayHappen turns written before (handled f did) = Unit {0}

pub each-snoc : (turns : ℕ) (written : Option (List ℕ)) (before trace : List Happening) (h : Happening) → EachMayRead turns written before trace
    → MayHappen turns written (before ++ trace) h → EachMayRead turns written before (trace ++ h ∷ [])
each-snoc turns written before [] (received past now bytes) each may = (subst (λ (b : List Happening). MayRead turns written b (piece past now bytes)) (append-nil before) may, tt)
each-snoc turns written before [] (was_quiet past now idled) each may = (subst (λ (b : List Happening). MayRead turns written b (quiet past now)) (append-nil before) may, tt)
each-snoc turns written before [] (handled f did) each may = tt
each-snoc turns written before (received past now bytes ∷ trace) h each may =
    (each.0, each-snoc turns written (before ++ received past now bytes ∷ []) trace h each.1 (subst (λ (b : List Happening). MayHappen turns written b h) (sym (append_assoc before (received past now bytes ∷ []) trace)) may))
each-snoc turns written before (was_quiet past now idled ∷ trace) h each may =
    (each.0, each-snoc turns written (before ++ was_quiet past now idled ∷ []) trace h each.1 (subst (λ (b : List Happening). MayHappen turns written b h) (sym (append_assoc before (was_quiet past now idled ∷ []) trace)) may))
each-snoc turns written before (handled f did ∷ trace) h each may =
    each-snoc turns written (before ++ handled f did ∷ []) trace h each (subst (λ (b : List Happening). MayHappen turns written b h) (sym (append_assoc before (handled f did ∷ []) trace)) may)

-- frames that fill bytes

pub spelled-append : (frames others : List Frame) (bytes more : List ℕ) → Spelled bytes frames → Spelled more others → Spelled (bytes ++ more) (frames ++ others)
spelled-append [] others bytes more empty rest = rw empty rest
spelled-append (f ∷ frames) others bytes more s rest =
    (s.0, s.1 ++ more, ap (λ (b : List ℕ). b ++ more) s.2 ∙ append_assoc s.0 s.1 more, s.3, spelled-append frames others s.1 more s.4 rest)

pub fills-none : (bytes : List ℕ) → Fills bytes [] bytes
fills-none bytes = record { filled = []; spelled = refl; whole = refl }

pub fills-one : (bytes left first more : List ℕ) (frames : List Frame) (f : Frame) → Fills bytes frames left → IsSpelling first f → left ≡ first ++ more → Fills bytes (frames ++ f ∷ []) more
fills-one bytes left first more frames f s spelling whole = record {
  filled = s.filled ++ first;
  spelled = spelled-append frames (f ∷ []) s.filled first s.spelled (first, [], sym (append-nil first), spelling, refl);
  whole = s.whole ∙ ap (λ (b : List ℕ). s.filled ++ b) whole ∙ sym (append_assoc s.filled first more);
}

-- what comes later stands behind what is left
pub fills-later : (bytes left later : List ℕ) (frames : List Frame) → Fills bytes frames left → Fills (bytes ++ later) frames (left ++ later)
fills-later bytes left later frames s = record {
  filled = s.filled;
  spelled = s.spelled;
  whole = ap (λ (b : List ℕ). b ++ later) s.whole ∙ append_assoc s.filled left later;
}

-- one quiet more, at the end

pub sent-quiet : (trace : List Happening) (w : Option (List ℕ)) (n : ℕ) (idled : Idled) → spelling_of (sent_in (trace ++ was_quiet w n idled ∷ [])) ≡ spelling_of (sent_in trace) ++ spelling_of (listed idled.request)
sent-quiet trace w n idled =
    ap spelling_of (sent_in-append trace (was_quiet w n idled ∷ []) ∙ ap (λ (fs : List Frame). sent_in trace ++ fs) (append-nil (listed idled.request))) ∙ spelling_of-append (sent_in trace) (listed idled.request)

pub steps-quiet : (trace : List Happening) (w : Option (List ℕ)) (n : ℕ) (idled : Idled) → steps_in (trace ++ was_quiet w n idled ∷ []) ≡ steps_in trace ++ idled.steps
steps-quiet trace w n idled = steps_in-append trace (was_quiet w n idled ∷ []) ∙ ap (λ (ss : List Step). steps_in trace ++ ss) (append-nil idled.steps)
