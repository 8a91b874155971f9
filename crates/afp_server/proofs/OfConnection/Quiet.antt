-- A quiet of a link that is served in turns.
use Rattle.std.proofs.Common.{◌≡◌, ℕ, ◌+◌, ◌≤◌, Bool, true, false, List, [], ◌∷◌, ◌++◌, length, refl, sym, ap, ◌∙◌, subst, append_assoc, inl}
use Rattle.std.specs.Prelude.{Option, Some, None, if◌then◌else◌}
use Rattle.afp_base.specs.declared.ids.LinkNumber.{LinkNumber}
use Rattle.afp_outside.specs.ends.Gate.{Passed, with_exited}
use Rattle.afp_outside.specs.ends.Link.{LinkState, ReadsQuiet}
use Rattle.afp_outside.specs.ends.Whole.{Sends, SendsPart}
use Rattle.afp_outside.proofs.OfEnds.Whole.{sends-join}
use Rattle.afp_serial.specs.Shown.{Shown}
use Rattle.afp_serial.specs.Went.{step, Went}
use Rattle.afp_serial.specs.declared.ask.Ask.TheVariants as asks
use Rattle.dsi_frame.specs.Buffered.{Buffered, buffer_length}
use Rattle.dsi_frame.specs.Replies.{listed, spelling_of}
use Rattle.afp_server.specs.link.Requests.{Requests, is_over, request_at, requests_after}
use Rattle.afp_server.specs.link.lemma.Serving.{IdlesLink, IdlesOpen}
use Rattle.afp_server.specs.link.Progress.{Start, point, SoFar, Ended, LeavesBy}
use Rattle.afp_server.specs.link.lemma.SessionState.{SessionState, AsksPulse}
use Rattle.afp_server.specs.connection.Turn.{shown_to, InTurn}
use Rattle.afp_server.specs.connection.Standing.{ServesThen, IsUnderWay}
use Rattle.afp_server.specs.connection.lemma.Begun.{Begins}
use Rattle.afp_server.specs.connection.lemma.Quiet.{WaitsAt, LeavesRequest, OpensBegun}
use Rattle.afp_server.specs.declared.connection.standing.Standing.{Standing}
use Rattle.afp_server.specs.declared.connection.standing.Standing.TheVariants as stands
use Rattle.afp_server.specs.declared.connection.standing.Then.{Then}
use Rattle.afp_server.specs.declared.connection.standing.Then.TheVariants as thens
use Rattle.afp_server.specs.declared.link.serve.LinkEnd.{LinkEnd}
use Rattle.afp_server.specs.declared.link.serve.LinkEnd.TheVariants as links
use Rattle.afp_server.specs.declared.link.stage.Idle.TheVariants as idles
use Rattle.afp_server.specs.declared.link.stage.Stage.{Stage}
use Rattle.afp_server.specs.declared.link.stage.Stage.TheVariants as stages
use Rattle.afp_server.proofs.OfLink.Idling.{idle-live}
use Rattle.afp_server.proofs.OfLink.ReadSteps.{Waits, link-idles, link-ends}
use Rattle.afp_server.proofs.OfConnection.Turning.{turn-own}

waits : (start : Start) (cost : ℕ) (held : Buffered) (stage : Stage) (a : Requests) (mid : LinkState) (shown : Shown) (passed : Passed) → WaitsAt start cost (point held stage a mid shown passed) → Waits start (point held stage a mid shown passed) cost
waits start cost held stage a mid shown passed w = record { so_far = w.0; unfinished = w.1; below = w.2 }

-- a quiet, seen by its own link
idles-own : (link : LinkState) (stage next : Stage) (a b : Requests) (before after : Shown) (answer : Option LinkEnd) (end : LinkState) (own : List ℕ) → (i : IdlesLink link stage a before answer next b end after)
    → IdlesLink link stage a (shown_to own before) answer next b end (shown_to (own ++ i.went.places) after)
idles-own link stage next a b before after answer end own i = record {
  idled = i.idled;
  cause = i.cause;
  idles = i.idles;
  ends = i.ends;
  stage_is = i.stage_is;
  requests_is = i.requests_is;
  went = turn-own before after i.idled.steps own i.went;
}

-- the link goes on behind a quiet
pub idled-on : (held : Buffered) (stage next : Stage) (a b : Requests) (mid read end : LinkState) (before after : Shown) (passed : Passed) (cost : ℕ) → ReadsQuiet mid read → length held.rest ≤ buffer_length
    → IdlesLink read stage a before None next b end after
    → InTurn before after (λ start shown. WaitsAt start cost (point held stage a mid shown passed)) (λ start shown. Begins start (cost + 1) None (point held next b end shown passed))
idled-on held stage next a b mid read end before after passed cost r few i = record {
  steps = i.idled.steps;
  went = i.went;
  places = i.went.places;
  mine = i.went.mine;
  comes = λ start own w.
      link-idles start held stage next a b mid read end (shown_to own before) (shown_to (own ++ i.went.places) after) passed cost
      (waits start cost held stage a mid (shown_to own before) passed w) few r (idles-own read stage next a b before after None end own i);
}

-- a quiet ends the link
pub idled-over : (held : Buffered) (stage next : Stage) (a b : Requests) (mid read end : LinkState) (before after : Shown) (passed : Passed) (cost : ℕ) (answer : LinkEnd) → ReadsQuiet mid read → length held.rest ≤ buffer_length
    → IdlesLink read stage a before (Some answer) next b end after
    → InTurn before after (λ start shown. WaitsAt start cost (point held stage a mid shown passed)) (λ start shown. Begins start (cost + 1) (Some (stands.Over answer)) (point held next b end shown passed))
idled-over held stage next a b mid read end before after passed cost answer r few i = record {
  steps = i.idled.steps;
  went = i.went;
  places = i.went.places;
  mine = i.went.mine;
  comes = λ start own w.
      inl (link-ends start held stage next a b mid read end (shown_to own before) (shown_to (own ++ i.went.places) after) passed cost answer
      (waits start cost held stage a mid (shown_to own before) passed w) few r (idles-own read stage next a b before after (Some answer) end own i));
}

-- a Pulse, seen by its own link
pulse-own : (last now : ℕ) (old new : SessionState) (before mid : Shown) (number : LinkNumber) (drain : Option ℕ) (own : List ℕ) → (p : AsksPulse last now old before (idles.Live number drain) new mid)
    → AsksPulse last now old (shown_to own before) (idles.Live number drain) new (shown_to (own ++ p.3.went.places) mid)
pulse-own last now old new before mid number drain own p =
    (p.0, p.1, p.2, record { answer = p.3.answer; lives = p.3.lives; drain_is = p.3.drain_is; went = turn-own before mid (step now number asks.Pulse p.3.answer ∷ []) own p.3.went })

-- A quiet whose request is under way, by what was shown at it.
record IsAsking (start : Start) (cost : ℕ) (held : Buffered) (a b : Requests) (mid read end : LinkState) (old new : SessionState) (before shown : Shown) (passed : Passed) (number : LinkNumber) (drain : Option ℕ) (unsent : List ℕ) : Type 0 where
  pub waits : Waits start (point held old.stage a mid before passed) cost
  pub quiet : ReadsQuiet mid read
  pub few : length held.rest ≤ buffer_length
  pub pulse : AsksPulse read.last_read read.now old before (idles.Live number drain) new shown
  pub noted : b ≡ requests_after read.now drain a
  pub part : List ℕ
  pub whole : spelling_of (listed (request_at read.now drain a)) ≡ part ++ unsent
  pub sends : Sends read part 0 end

whole-request : (start : Start) (cost : ℕ) (held : Buffered) (a b : Requests) (mid read end : LinkState) (old new : SessionState) (before shown : Shown) (passed : Passed) (number : LinkNumber) (drain : Option ℕ) (unsent : List ℕ) (then_link : LinkState)
    → (k : IsAsking start cost held a b mid read end old new before shown passed number drain unsent) → Sends end unsent 0 then_link → Sends read (spelling_of (listed (request_at read.now drain a))) 0 then_link
whole-request start cost held a b mid read end old new before shown passed number drain unsent then_link k s =
    subst (λ (w : List ℕ). Sends read w 0 then_link) (sym k.whole) (sends-join read end then_link k.part unsent 0 k.sends s)

-- once it is written, by whether the drain's time is over
asked-then : (start : Start) (cost : ℕ) (held : Buffered) (a b : Requests) (mid read end : LinkState) (old new : SessionState) (before shown : Shown) (passed : Passed) (number : LinkNumber) (drain : Option ℕ) (unsent : List ℕ) (then_link : LinkState)
    → IsAsking start cost held a b mid read end old new before shown passed number drain unsent → Sends end unsent 0 then_link
    → (o : Bool) → is_over drain read.now ≡ o → ServesThen start (cost + 1) (if o then thens.Leaves number else thens.GoesOn) (point held (stages.Open number) b then_link shown passed)
asked-then start cost held a b mid read end old new before shown passed number drain unsent then_link k s false over =
    link-idles start held old.stage (stages.Open number) a b mid read then_link before shown passed cost k.waits k.few k.quiet
    (idle-live read number drain old new a b before shown shown None (stages.Open number) then_link k.pulse
    (k.noted, (over, refl, refl, whole-request start cost held a b mid read end old new before shown passed number drain unsent then_link k s)))
asked-then start cost held a b mid read end old new before shown passed number drain unsent then_link k s true over = λ after l.
    link-ends start held old.stage stages.Closing a b mid read then_link before after passed cost links.Drained k.waits k.few k.quiet
    (idle-live read number drain old new a b before shown after (Some links.Drained) stages.Closing then_link k.pulse (
      k.noted,
      (
        over,
        refl,
        whole-request start cost held a b mid read end old new before shown passed number drain unsent then_link k s,
        subst (λ (n : ℕ). LeavesBy n number shown after) (s.now ∙ k.sends.now) l,
      ),
    ))

-- where it cannot be written
asked-unwritten : (start : Start) (cost : ℕ) (held : Buffered) (a b : Requests) (mid read end : LinkState) (old new : SessionState) (before shown : Shown) (passed : Passed) (number : LinkNumber) (drain : Option ℕ) (unsent : List ℕ) (then_link : LinkState)
    → IsAsking start cost held a b mid read end old new before shown passed number drain unsent → SendsPart end unsent then_link → Ended start links.WriteFault (stages.Open number) then_link shown passed
asked-unwritten start cost held a b mid read end old new before shown passed number drain unsent then_link k sp =
    link-ends start held old.stage (stages.Open number) a b mid read then_link before shown passed cost links.WriteFault k.waits k.few k.quiet
    (idle-live read number drain old new a b before shown shown (Some links.WriteFault) (stages.Open number) then_link k.pulse (
      k.noted,
      (
        refl,
        refl,
        record {
          part = k.part ++ sp.part;
          lost = sp.lost;
          some_lost = sp.some_lost;
          cut = append_assoc k.part sp.part sp.lost ∙ ap (λ (x : List ℕ). k.part ++ x) sp.cut ∙ sym k.whole;
          sends = sends-join read end then_link k.part sp.part 1 k.sends sp.sends;
        },
      ),
    ))

-- a quiet's request is under way
asking : (held : Buffered) (a b : Requests) (mid read end : LinkState) (old new : SessionState) (before shown : Shown) (passed : Passed) (cost : ℕ) (number : LinkNumber) (drain : Option ℕ) (unsent : List ℕ) (next : Then) (called : Option LinkNumber)
    → ReadsQuiet mid read → length held.rest ≤ buffer_length → AsksPulse read.last_read read.now old before (idles.Live number drain) new shown
    → LeavesRequest read number drain a shown unsent next called (stages.Open number) b end shown
    → InTurn before shown (λ start shown. WaitsAt start cost (point held old.stage a mid shown passed)) (λ start shown. IsUnderWay start (cost + 1) next called unsent (point held (stages.Open number) b end shown passed))
asking held a b mid read end old new before shown passed cost number drain unsent next called r few p l = record {
  steps = step read.now number asks.Pulse p.3.answer ∷ [];
  went = p.3.went;
  places = p.3.went.places;
  mine = p.3.went.mine;
  comes = λ start own w.
      let after : Shown = shown_to (own ++ p.3.went.places) shown in
      let k : IsAsking start cost held a b mid read end old new (shown_to own before) after passed number drain unsent = record {
        waits = waits start cost held old.stage a mid (shown_to own before) passed w;
        quiet = r;
        few = few;
        pulse = pulse-own read.last_read read.now old new before shown number drain own p;
        noted = l.noted;
        part = l.left.part;
        whole = l.left.whole;
        sends = l.left.sends;
      } in
      record {
        some = l.left.some;
        sent = λ then_link then_passed s exits.
            subst (λ (x : Passed). ServesThen start (cost + 1) next (point held (stages.Open number) b then_link after x)) (sym (exits ∙ ap (with_exited passed) l.none_called))
            (subst (λ (t : Then). ServesThen start (cost + 1) t (point held (stages.Open number) b then_link after passed)) (sym l.follows_is)
            (asked-then start cost held a b mid read end old new (shown_to own before) after passed number drain unsent then_link k s (is_over drain read.now) refl));
        unsent_ends = λ then_link sp. asked-unwritten start cost held a b mid read end old new (shown_to own before) after passed number drain unsent then_link k sp;
      };
}

asking-at : (held : Buffered) (a b : Requests) (mid read end : LinkState) (old new : SessionState) (before shown after : Shown) (passed : Passed) (cost : ℕ) (number : LinkNumber) (drain : Option ℕ) (unsent : List ℕ) (next : Then) (called : Option LinkNumber) (stage : Stage)
    → ReadsQuiet mid read → length held.rest ≤ buffer_length → AsksPulse read.last_read read.now old before (idles.Live number drain) new shown
    → LeavesRequest read number drain a shown unsent next called stage b end after
    → InTurn before after (λ start shown. WaitsAt start cost (point held old.stage a mid shown passed)) (λ start shown. IsUnderWay start (cost + 1) next called unsent (point held stage b end shown passed))
asking-at held a b mid read end old new before shown after passed cost number drain unsent next called stage r few p l =
    subst (λ (x : Shown). InTurn before x (λ start shown. WaitsAt start cost (point held old.stage a mid shown passed)) (λ start shown. IsUnderWay start (cost + 1) next called unsent (point held stage b end shown passed))) (sym l.nothing_asked)
    (subst (λ (x : Stage). InTurn before shown (λ start shown. WaitsAt start cost (point held old.stage a mid shown passed)) (λ start shown. IsUnderWay start (cost + 1) next called unsent (point held x b end shown passed))) (sym l.open_still)
    (asking held a b mid read end old new before shown passed cost number drain unsent next called r few p
    (record { noted = l.noted; left = l.left; follows_is = l.follows_is; none_called = l.none_called; open_still = refl; nothing_asked = refl })))

-- a quiet on an open session, by where its link stands then
pub asked : (held : Buffered) (a b : Requests) (mid read end : LinkState) (old new : SessionState) (before shown after : Shown) (passed : Passed) (cost : ℕ) (number : LinkNumber) (drain : Option ℕ) (stage : Stage)
    → ReadsQuiet mid read → length held.rest ≤ buffer_length → AsksPulse read.last_read read.now old before (idles.Live number drain) new shown
    → (s : Option Standing) → OpensBegun read number drain a shown s stage b end after
    → InTurn before after (λ start shown. WaitsAt start cost (point held old.stage a mid shown passed)) (λ start shown. Begins start (cost + 1) s (point held stage b end shown passed))
asked held a b mid read end old new before shown after passed cost number drain stage r few p None o =
    idled-on held old.stage stage a b mid read end before after passed cost r few (idle-live read number drain old new a b before shown after None stage end p o)
asked held a b mid read end old new before shown after passed cost number drain stage r few p (Some (stands.Over answer)) o =
    idled-over held old.stage stage a b mid read end before after passed cost answer r few (idle-live read number drain old new a b before shown after (Some answer) stage end p o)
asked held a b mid read end old new before shown after passed cost number drain stage r few p (Some (stands.Sends unsent next called)) o =
    asking-at held a b mid read end old new before shown after passed cost number drain unsent next called stage r few p o
asked held a b mid read end old new before shown after passed cost number drain stage r few p (Some stands.Waits) o = absurd o
asked held a b mid read end old new before shown after passed cost number drain stage r few p (Some stands.More) o = absurd o
