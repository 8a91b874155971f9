-- What a wire does with a whole request, over a teller that alone asks.
use Rattle.std.proofs.Common.{◌≡◌, ◌≢◌, ℕ, Bool, true, false, List, [], ◌∷◌, ◌++◌, length, All, refl, sym, ap, ◌∙◌, subst, inl, inr, append-nil, length-append, arith}
use Rattle.std.specs.Prelude.{◌+◌, ◌≤◌, Option, Some, None, Result, Ok, Err, IfOk, IfNone, OnOk, MatchOption}
use Rattle.afp_base.specs.declared.bytes.OutOfMemory.{OutOfMemory}
use Rattle.afp_base.specs.declared.ids.LinkNumber.{LinkNumber}
use Rattle.afp_serial.specs.Shown.{Asked, Shown}
use Rattle.afp_serial.specs.declared.ask.Ask.TheVariants as asks_of
use Rattle.afp_serial.specs.declared.ask.Told.{Told}
use Rattle.afp_serial.specs.declared.ask.Told.TheVariants as tells
use Rattle.afp_serial.specs.Went.{Step}
use Rattle.dsi_frame.proofs.FrameLemmas.{canonical_spelling}
use Rattle.dsi_frame.specs.Buffered.{Buffered}
use Rattle.dsi_frame.specs.Deframe.{GivenOut}
use Rattle.dsi_frame.specs.Frame.{Frame, IsGood, canonical_frame}
use Rattle.dsi_frame.specs.Replies.{listed, spelling_of}
use Rattle.afp_server.specs.link.Did.{Did}
use Rattle.afp_server.specs.link.LinkRun.{Fills}
use Rattle.afp_server.specs.link.Script.{Does, Script}
use Rattle.afp_server.specs.link.Tally.{answered_after}
use Rattle.afp_server.specs.link.Wire.{FeedStart, Feeds, WireState, feed_point, open_link}
use Rattle.afp_server.specs.declared.link.stage.FrameEnd.{FrameEnd}
use Rattle.afp_server.specs.declared.link.stage.FrameEnd.TheVariants as ends
use Rattle.afp_server.specs.declared.link.stage.Stage.{Stage}
use Rattle.afp_server.specs.declared.link.stage.Stage.TheVariants.{Closing}
use Rattle.afp_server.specs.declared.link.tally.Tally.{Tally}
use Rattle.afp_server.specs.declared.link.wire.WireEnd.{WireEnd}
use Rattle.afp_server.specs.declared.link.wire.WireEnd.TheVariants as wires
use Rattle.afp_server.proofs.OfLink.Traces.{fills-one}
use Rattle.capture_log_server.specs.Connections.{Extends}
use Rattle.capture_log_server.proofs.ConnectionLemmas.{one}
use Rattle.capture_log_server.specs.Sole.{IsSole}
use Rattle.capture_log_server.proofs.Histories.{Asks, asks}
use Rattle.once_across_breaks_code.specs.server.Pieces.{EndsAs, PiecesHaveFrames, TakesFrame}
use Rattle.once_across_breaks_drill.specs.rounds.Lines.{IsBetween, LineState, Loses, ServesLine}
use Rattle.once_across_breaks_drill.specs.rounds.lemma.Whole.{EndsBy, FeedsWhole, is_end}

-- ---- one frame of a script

record OneFrame (block : List ℕ) (stage : Stage) (f : Frame) (steps : List Step) (replies : List Frame) (after : Stage) (end : Option FrameEnd) : Type 0 where
  pub moment : ℕ
  pub did : Did
  pub does : Does block moment stage f did
  pub steps_are : steps ≡ did.steps
  pub replies_are : replies ≡ listed did.reply
  pub after_is : after ≡ did.stage
  pub end_is : end ≡ did.end

abbrev no_frames : List Frame
no_frames = []

one-by : (block : List ℕ) (stage : Stage) (f : Frame) (steps : List Step) (replies : List Frame) (after : Stage) (end : Option FrameEnd) (now : ℕ) (did : Did) (others : List Step) (more : List Frame)
    → Does block now stage f did → steps ≡ did.steps ++ others → replies ≡ listed did.reply ++ more
    → (o : Option FrameEnd) → did.end ≡ o
    → MatchOption o (Script block did.stage [] others more after end) (λ e. (no_frames ≡ []) × (others ≡ []) × (more ≡ []) × (after ≡ did.stage) × (end ≡ Some e))
    → OneFrame block stage f steps replies after end
one-by block stage f steps replies after end now did others more does s r None is (no_steps, no_replies, same, goes) = record {
  moment = now;
  did = did;
  does = does;
  steps_are = s ∙ ap (λ (l : List Step). did.steps ++ l) no_steps ∙ append-nil did.steps;
  replies_are = r ∙ ap (λ (l : List Frame). listed did.reply ++ l) no_replies ∙ append-nil (listed did.reply);
  after_is = same;
  end_is = goes ∙ sym is;
}
one-by block stage f steps replies after end now did others more does s r (Some e) is (none, no_steps, no_replies, same, ended) = record {
  moment = now;
  did = did;
  does = does;
  steps_are = s ∙ ap (λ (l : List Step). did.steps ++ l) no_steps ∙ append-nil did.steps;
  replies_are = r ∙ ap (λ (l : List Frame). listed did.reply ++ l) no_replies ∙ append-nil (listed did.reply);
  after_is = same;
  end_is = ended ∙ sym is;
}

one-frame : (block : List ℕ) (stage : Stage) (f : Frame) (steps : List Step) (replies : List Frame) (after : Stage) (end : Option FrameEnd) → Script block stage (f ∷ []) steps replies after end → OneFrame block stage f steps replies after end
one-frame block stage f steps replies after end s = one-by block stage f steps replies after end s.0 s.1 s.2 s.3 s.4 s.5 s.6 s.1.end refl s.7

-- ---- what was held behind it

given-behind : (bytes piece : List ℕ) (past frames : List Frame) (f : Frame) (old new : Buffered) → IsGood f → piece ≡ canonical_frame f → GivenOut bytes past old → old.rest ≡ [] → new.rest ≡ [] → GivenOut (bytes ++ piece) frames new
    → GivenOut (bytes ++ canonical_frame f) (past ++ f ∷ []) new
given-behind bytes piece past frames f old new good is given none empty later =
    let first : bytes ≡ given.filled = given.whole ∙ ap (λ (l : List ℕ). given.filled ++ l) none ∙ append-nil given.filled in
    let fills : Fills (bytes ++ canonical_frame f) past (canonical_frame f) = record { filled = given.filled; spelled = given.spelled; whole = ap (λ (l : List ℕ). l ++ canonical_frame f) first } in
    let more : Fills (bytes ++ canonical_frame f) (past ++ f ∷ []) [] = fills-one (bytes ++ canonical_frame f) (canonical_frame f) (canonical_frame f) [] past f fills (canonical_spelling f good) (sym (append-nil (canonical_frame f))) in
    let size : length later.filled ≡ length more.filled =
    omega (arith, ap length later.whole, length-append later.filled new.rest, ap length empty, ap length more.whole, length-append more.filled [], ap (λ (l : List ℕ). length (bytes ++ l)) is) in
    record {
      filled = more.filled;
      spelled = more.spelled;
      whole = more.whole ∙ ap (λ (l : List ℕ). more.filled ++ l) (sym empty);
      place = later.place ∙ size;
    }

-- ---- what a feed says

ends-by : (over : Bool) (end : Option FrameEnd) (result : Option WireEnd) (new : Buffered) → over ≡ is_end result → result ≢ Some wires.Memory → EndsAs end result new → EndsBy over end
ends-by true None result new is other (inl (none, empty)) = absurd (cc (is, none))
ends-by false None result new is other (inl (none, empty)) = refl
ends-by over None result new is other (inr memory) = absurd (other memory)
ends-by true (Some e) result new is other x = (e, refl)
ends-by false (Some ends.Closed) result new is other x = absurd (cc (is, x))
ends-by false (Some ends.Displaced) result new is other x = absurd (cc (is, x))
ends-by false (Some (ends.Bad reason)) result new is other (at, x) = absurd (cc (is, x))

goes-none : (over : Bool) (result : Option WireEnd) → over ≡ is_end result → over ≡ false → result ≡ None
goes-none over None is goes = refl
goes-none over (Some e) is goes = absurd (cc (is, goes))

rest-none : (end : Option FrameEnd) (result : Option WireEnd) (new : Buffered) → result ≡ None → EndsAs end result new → new.rest ≡ []
rest-none None result new none (inl (same, empty)) = empty
rest-none None result new none (inr memory) = absurd (cc (none, memory))
rest-none (Some ends.Closed) result new none x = absurd (cc (none, x))
rest-none (Some ends.Displaced) result new none x = absurd (cc (none, x))
rest-none (Some (ends.Bad reason)) result new none (at, x) = absurd (cc (none, x))

live-now : (result : Option WireEnd) (P : Type 0) → result ≡ None → IfNone result P → P
live-now None P none p = p
live-now (Some e) P none p = absurd (cc none)

begins-at : ℕ → List ℕ → List Frame → WireState → List ℕ → Shown → FeedStart
begins-at now bytes past old out t = record { block = old.block; now = now; bytes = bytes; past = past; stage = old.stage; out = out; shown = t }

taken : (now : ℕ) (bytes piece : List ℕ) (past : List Frame) (f : Frame) (old : WireState) (out : List ℕ) (t : Shown) (over : Bool) (new : WireState) (sent : List ℕ) (u : Shown) (result : Option WireEnd)
    → over ≡ is_end result → result ≢ Some wires.Memory → new.tally.answered ≡ true → IsSole t → IsSole u → IsGood f → piece ≡ canonical_frame f → GivenOut bytes past old.held → old.held.rest ≡ []
    → new.block ≡ old.block → new.end ≡ result → IfNone new.end (new.stage ≢ Closing)
    → Feeds (record { block = old.block; now = now; bytes = bytes; past = past; stage = old.stage; out = out; shown = t }) (bytes ++ piece) result new.held (feed_point new.stage new.tally sent u)
    → TakesFrame (record { block = old.block; now = now; bytes = bytes; past = past; stage = old.stage; out = out; shown = t }) f [] result new.held (feed_point new.stage new.tally sent u)
    → FeedsWhole now bytes past f old out t over new sent u
taken now bytes piece past f old out t over new sent u result is other answered sole still good whole given none block ended live feeds x =
    let h = x.handled in
    let one : OneFrame old.block old.stage f h.steps h.replies new.stage x.end = one-frame old.block old.stage f h.steps h.replies new.stage x.end h.script in
    let all : answered_after true h.steps ≡ true = sym (ap (λ (y : Tally). y.answered) h.tally) ∙ answered in
    let a : Asks t h.steps u = asks t u h.steps sole.mine still.mine still.faultless h.went all in
    record {
      serves = record {
        moment = one.moment;
        did = one.did;
        does = one.does;
        moments = subst (λ (ss : List Step). All (λ (s : Step). s.at ≡ now) ss) one.steps_are h.moments;
        extends = subst (λ (ss : List Step). Extends t ss u) one.steps_are (record { start = h.went.start; history = a.history; served = a.served });
        answered = subst (λ (ss : List Step). answered_after true ss ≡ true) one.steps_are all;
        sent_is = h.sent ∙ ap (λ (rs : List Frame). out ++ spelling_of rs) one.replies_are;
      };
      ends = subst (λ (e : Option FrameEnd). EndsBy over e) one.end_is (ends-by over x.end result new.held is other x.ends);
      block = block;
      stage = one.after_is;
      goes_on = λ goes.
          let no_end : result ≡ None = goes-none over result is goes in
          let empty : new.held.rest ≡ [] = rest-none x.end result new.held no_end x.ends in (
            ended ∙ no_end,
            live-now new.end (new.stage ≢ Closing) (ended ∙ no_end) live,
            empty,
            held-behind result no_end feeds empty,
          );
    }
  where
    held-behind : (r : Option WireEnd) → r ≡ None → Feeds (record { block = old.block; now = now; bytes = bytes; past = past; stage = old.stage; out = out; shown = t }) (bytes ++ piece) r new.held (feed_point new.stage new.tally sent u) → new.held.rest ≡ []
        → GivenOut (bytes ++ canonical_frame f) (past ++ f ∷ []) new.held
    held-behind None no_end (so_far, unfinished) empty = given-behind bytes piece past (past ++ so_far.frames) f old.held new.held good whole given none empty so_far.given
    held-behind (Some e) no_end x empty = absurd (cc no_end)

fed : (law : PiecesHaveFrames) (now : ℕ) (bytes piece : List ℕ) (past : List Frame) (f : Frame) (old : WireState) (out : List ℕ) (t : Shown) (over : Bool) (new : WireState) (sent : List ℕ) (u : Shown) (result : Option WireEnd)
    → over ≡ is_end result → result ≢ Some wires.Memory → new.tally.answered ≡ true → IsSole t → IsSole u → IsGood f → piece ≡ canonical_frame f → GivenOut bytes past old.held → old.held.rest ≡ []
    → new.block ≡ old.block → new.end ≡ result → IfNone new.end (new.stage ≢ Closing)
    → Feeds (record { block = old.block; now = now; bytes = bytes; past = past; stage = old.stage; out = out; shown = t }) (bytes ++ piece) result new.held (feed_point new.stage new.tally sent u)
    → FeedsWhole now bytes past f old out t over new sent u
fed law now bytes piece past f old out t over new sent u result is other answered sole still good whole given none block ended live feeds =
    let start : FeedStart = record { block = old.block; now = now; bytes = bytes; past = past; stage = old.stage; out = out; shown = t } in
    let front : (old.held.rest ++ piece) ++ [] ≡ canonical_frame f = append-nil (old.held.rest ++ piece) ∙ ap (λ (l : List ℕ). l ++ piece) none ∙ whole in
    elim (law start f piece [] old.held new.held result (feed_point new.stage new.tally sent u) good given front feeds) [
      | inl holds ↦ absurd (holds.some_left refl)
      | inr (inl takes) ↦ taken now bytes piece past f old out t over new sent u result is other answered sole still good whole given none block ended live feeds takes
      | inr (inr memory) ↦ absurd (other memory.memory)
    ]

-- what a feed says, where it found memory
pub fed-whole : (law : PiecesHaveFrames) (now : ℕ) (piece : List ℕ) (old : WireState) (out : List ℕ) (t : Shown) (new : WireState) (sent : List ℕ) (u : Shown) (end : Option WireEnd) (r : Result Bool OutOfMemory)
    → ((bytes : List ℕ) (past : List Frame) → GivenOut bytes past old.held
    → Feeds (record { block = old.block; now = now; bytes = bytes; past = past; stage = old.stage; out = out; shown = t }) (bytes ++ piece) end new.held (feed_point new.stage new.tally sent u))
    → new.tally.answered ≡ true → IsSole t → IsSole u → new.block ≡ old.block → new.end ≡ end → IfNone new.end (new.stage ≢ Closing)
    → IfOk r (λ over. (over ≡ is_end end) × (end ≢ Some wires.Memory))
    → IfOk r (λ over. (bytes : List ℕ) (past : List Frame) (f : Frame) → GivenOut bytes past old.held → old.held.rest ≡ [] → IsGood f → piece ≡ canonical_frame f → FeedsWhole now bytes past f old out t over new sent u)
fed-whole law now piece old out t new sent u end (Ok over) feeds answered sole still block ended live (is, other) = λ bytes past f given none good whole.
    fed law now bytes piece past f old out t over new sent u end is other answered sole still good whole given none block ended live (feeds bytes past given)
fed-whole law now piece old out t new sent u end (Err e) feeds answered sole still block ended live is = tt

-- ---- the line behind it

over-ends : (over : Bool) (end : Option FrameEnd) → over ≡ true → EndsBy over end → (e : FrameEnd) × (end ≡ Some e)
over-ends true end is x = x
over-ends false end is x = absurd (cc is)

on-ends : (over : Bool) (end : Option FrameEnd) → over ≡ false → EndsBy over end → end ≡ None
on-ends false end is x = x
on-ends true end is x = absurd (cc is)

pub served-over : (now : ℕ) (bytes : List ℕ) (past : List Frame) (f : Frame) (old : WireState) (line : LineState) (out : List ℕ) (t : Shown) (over : Bool) (new : WireState) (sent : List ℕ) (u : Shown)
    → record { block = old.block; stage = old.stage } ≡ line → over ≡ true → FeedsWhole now bytes past f old out t over new sent u → ServesLine now f line out t None sent u
served-over now bytes past f old line out t over new sent u view is x = subst (λ (l : LineState). ServesLine now f l out t None sent u) view (x.serves, over-ends over x.serves.did.end is x.ends)

pub served-on : (now : ℕ) (bytes : List ℕ) (past : List Frame) (f : Frame) (old : WireState) (line : LineState) (out : List ℕ) (t : Shown) (over : Bool) (new : WireState) (sent : List ℕ) (u : Shown)
    → record { block = old.block; stage = old.stage } ≡ line → over ≡ false → FeedsWhole now bytes past f old out t over new sent u → ServesLine now f line out t (Some (record { block = new.block; stage = new.stage })) sent u
served-on now bytes past f old line out t over new sent u view is x =
    subst (λ (l : LineState). ServesLine now f l out t (Some (record { block = new.block; stage = new.stage })) sent u) view (x.serves, (on-ends over x.serves.did.end is x.ends, x.block, x.stage))

pub between : (now : ℕ) (bytes : List ℕ) (past : List Frame) (f : Frame) (old : WireState) (out : List ℕ) (t : Shown) (over : Bool) (new : WireState) (sent : List ℕ) (u : Shown) (fed : ℕ)
    → over ≡ false → new.held.place + length new.held.rest ≤ fed → FeedsWhole now bytes past f old out t over new sent u → IsBetween new fed
between now bytes past f old out t over new sent u fed is most x =
    let on = x.goes_on is in
    record { goes_on = on.0; live = on.1; whole = on.2; most = omega (arith, most); bytes = bytes ++ canonical_frame f; past = past ++ f ∷ []; given = on.3 }

-- ---- a loss

pub lost : (now : ℕ) (link : LinkNumber) (a : Told) (line : LineState) (stage : Stage) (o : Option LinkNumber) (t u : Shown) (r : Result (Unit {0}) OutOfMemory)
    → o ≡ open_link stage → o ≡ Some link → stage ≡ line.stage → Asked t now link asks_of.Lost a u → IsSole t → IsSole u → OnOk r (a ≢ tells.Memory) → OnOk r (Loses now (open_link line.stage) t u)
lost now link a line stage o t u (Ok x) opens there same asked sole still other =
    subst (λ (l : Option LinkNumber). Loses now l t u) (sym there ∙ opens ∙ ap open_link same) (a, one t u now link asks_of.Lost a asked sole still other)
lost now link a line stage o t u (Err e) opens there same asked sole still other = tt
