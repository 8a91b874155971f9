-- A frame of a link that is served in turns.
use Rattle.std.proofs.Common.{◌≡◌, ◌≢◌, ℕ, List, [], ◌++◌, length, refl, sym, ap, ◌∙◌, subst, append_assoc, append-nil, arith, ◌⊎◌, inl, inr}
use Rattle.std.specs.Prelude.{Option, Some, None, IfNone}
use Rattle.dsi_frame.specs.Frame.{Frame}
use Rattle.dsi_frame.specs.Buffered.{Buffered}
use Rattle.afp_base.specs.declared.ids.LinkNumber.{LinkNumber}
use Rattle.afp_outside.specs.ends.Gate.{Passed, with_entered, with_exited}
use Rattle.afp_outside.specs.ends.Link.{LinkState}
use Rattle.afp_outside.specs.ends.Whole.{Sends, SendsPart}
use Rattle.afp_outside.proofs.OfEnds.Whole.{sends-join}
use Rattle.afp_serial.specs.Shown.{Shown}
use Rattle.afp_serial.specs.Went.{Step, Went}
use Rattle.afp_serial.proofs.Grows.{rising-bound, went-join}
use Rattle.afp_server.specs.link.Did.{Did}
use Rattle.afp_server.specs.link.Requests.{Requests}
use Rattle.afp_server.specs.link.Trace.{steps_in}
use Rattle.afp_server.specs.link.lemma.Passing.{call_link}
use Rattle.afp_server.specs.link.lemma.Requesting.{after_bytes}
use Rattle.afp_server.specs.link.lemma.Serving.{ServesFrame, end_of_frame}
use Rattle.afp_server.specs.link.Progress.{Start, Point, point, SoFar, Ended, LeavesBy}
use Rattle.afp_server.specs.link.lemma.SessionState.{SessionState, Acts}
use Rattle.afp_server.specs.connection.Turn.{shown_to, InTurn, OneLinksTurn}
use Rattle.afp_server.specs.connection.Standing.{ServesThen, IsUnderWay, StandsBy, OthersLeave}
use Rattle.afp_server.specs.connection.lemma.Begun.{LeavesSome, GoesBehind, then_of}
use Rattle.afp_server.specs.declared.connection.standing.Standing.{Standing}
use Rattle.afp_server.specs.declared.connection.standing.Standing.TheVariants as stands
use Rattle.afp_server.specs.declared.connection.standing.Then.{Then}
use Rattle.afp_server.specs.declared.connection.standing.Then.TheVariants as thens
use Rattle.afp_server.specs.declared.link.serve.LinkEnd.{LinkEnd}
use Rattle.afp_server.specs.declared.link.serve.LinkEnd.TheVariants as links
use Rattle.afp_server.specs.declared.link.stage.FrameEnd.{FrameEnd}
use Rattle.afp_server.specs.declared.link.stage.Stage.{Stage}
use Rattle.afp_server.specs.declared.link.stage.Stage.TheVariants as stages
use Rattle.afp_server.proofs.OfLink.FrameSteps.{Next, frame-goes_on, frame-ends, frame-unwritten}

-- a turn, seen by the link whose turn it was
pub turn-own : (a b : Shown) (steps : List Step) (own : List ℕ) → (w : Went a steps b) → Went (shown_to own a) steps (shown_to (own ++ w.places) b)
turn-own a b steps own w = record { between = w.between; places = w.places; start = w.start; history = w.history; mine = refl; within = w.within; told = w.told; faults = w.faults }

-- and by another one
pub turn-others : (a b : Shown) (steps : List Step) (others : List ℕ) → Went a steps b → Went (shown_to others a) [] (shown_to others b)
turn-others a b steps others w = record {
  between = w.between;
  places = [];
  start = w.start;
  history = w.history;
  mine = sym (append-nil others);
  within = rising-bound (length a.history) w.places (length b.history) w.within;
  told = refl;
  faults = w.faults;
}

pub acts-own : (old new : SessionState) (before after : Shown) (did : Did) (own : List ℕ) → (acts : Acts old before did new after) → Acts old (shown_to own before) did new (shown_to (own ++ acts.went.places) after)
acts-own old new before after did own acts = record { state = acts.state; went = turn-own before after did.steps own acts.went }

-- nothing was asked
pub same-turn : (own : List ℕ) (before after : Shown) → after ≡ before → shown_to (own ++ []) after ≡ shown_to own before
same-turn own before after same = λ i. shown_to (append-nil own i) (same i)

-- the reply is written whole
pub whole-reply : (start : Start) (cost : ℕ) (held then_held : Buffered) (a b : Requests) (link then : LinkState) (old new : SessionState) (before after : Shown) (f : Frame) (did : Did) (reply : List ℕ) (passed mid then_passed : Passed) (called : Option LinkNumber) (fe : Option FrameEnd) (end : Option LinkEnd)
    → Next start cost held a link old before f did new after passed → called ≡ call_link f.reply old.stage f.command → mid ≡ with_entered passed called → then_passed ≡ with_exited mid called → reply ≡ new.reply → b ≡ after_bytes link.now reply a → Sends link reply 0 then → fe ≡ did.end
    → GoesBehind held fe end then_held → ServesFrame start cost end (point then_held new.stage b then after then_passed)
whole-reply start cost held then_held a b link then old new before after f did reply passed mid then_passed called None end n call enters exits is noted sent same goes =
    subst (λ (o : Option LinkEnd). ServesFrame start cost o (point then_held new.stage b then after then_passed)) (sym goes.0)
    (frame-goes_on start cost held then_held a b link then old new before after f did reply passed mid then_passed called n call enters exits is noted sent (sym same) goes.1)
whole-reply start cost held then_held a b link then old new before after f did reply passed mid then_passed called (Some e) end n call enters exits is noted sent same goes =
    subst (λ (o : Option LinkEnd). ServesFrame start cost o (point then_held new.stage b then after then_passed)) (sym goes.0)
    (frame-ends start cost held a link then old new before after f did reply e held.place (end_of_frame e held.place) passed mid then_passed called n call enters exits is sent (sym same) refl refl)

pub one_links_turn : OneLinksTurn
one_links_turn a b steps mine others w = (w.places, w.mine, turn-own a b steps mine w, turn-others a b steps others w)

-- nothing was asked
pub went-still : (a b : Shown) → b ≡ a → Went a [] b
went-still a b same = record {
  between = [];
  places = [];
  start = ap (λ (s : Shown). s.start) same;
  history = ap (λ (s : Shown). s.history) same ∙ sym (append-nil a.history);
  mine = ap (λ (s : Shown). s.mine) same ∙ sym (append-nil a.mine);
  within = omega (arith, ap (λ (s : Shown). length s.history) same);
  told = refl;
  faults = (omega (arith, ap (λ (s : Shown). s.faults) same), omega (arith, ap (λ (s : Shown). s.faults) same));
}

-- what a frame comes to, where its reply is written
serves-then : (start : Start) (cost : ℕ) (end : Option LinkEnd) (p : Point) → ServesFrame start cost end p → ServesThen start cost (then_of end) p
serves-then start cost None p s = s
serves-then start cost (Some end) p s = s

-- a part of it is
pub left-reply : (start : Start) (cost : ℕ) (held then_held : Buffered) (a b : Requests) (link mid_link : LinkState) (old new : SessionState) (before after : Shown) (f : Frame) (did : Did) (reply unsent : List ℕ) (passed mid : Passed) (called : Option LinkNumber) (fe : Option FrameEnd) (end : Option LinkEnd)
    → Next start cost held a link old before f did new after passed → called ≡ call_link f.reply old.stage f.command → mid ≡ with_entered passed called → reply ≡ new.reply → b ≡ after_bytes link.now reply a → LeavesSome link reply unsent mid_link → fe ≡ did.end
    → GoesBehind held fe end then_held → IsUnderWay start cost (then_of end) called unsent (point then_held new.stage b mid_link after mid)
left-reply start cost held then_held a b link mid_link old new before after f did reply unsent passed mid called fe end n call enters is noted l same goes = record {
  sent = λ then then_passed s exits.
      serves-then start cost end (point then_held new.stage b then after then_passed)
      (whole-reply start cost held then_held a b link then old new before after f did reply passed mid then_passed called fe end n call enters exits is noted
      (subst (λ (r : List ℕ). Sends link r 0 then) (sym l.whole) (sends-join link mid_link then l.part unsent 0 l.sends s)) same goes);
  some = l.some;
  unsent_ends = λ then sp.
      frame-unwritten start cost held a link then old new before after f did reply passed mid called n call enters is record {
        part = l.part ++ sp.part;
        lost = sp.lost;
        some_lost = sp.some_lost;
        cut = append_assoc l.part sp.part sp.lost ∙ ap (λ (x : List ℕ). l.part ++ x) sp.cut ∙ sym l.whole;
        sends = sends-join link mid_link then l.part sp.part 1 l.sends sp.sends;
      };
}

-- a frame that ends its link does not go on behind its reply
pub live-left : (stage : Stage) (held new : Buffered) (fe : Option FrameEnd) (end : Option LinkEnd) (next : Then) → GoesBehind held fe end new → IfNone fe (stage ≢ stages.Closing) → next ≡ then_of end
    → next ≡ thens.GoesOn → stage ≢ stages.Closing
live-left stage held new None end next g live is on = live
live-left stage held new (Some e) end next g live is on = let both = sym on ∙ is ∙ ap then_of g.0 in absurd (cc both)

-- more of what is under way is written, and some is left
pub left-on : (start : Start) (cost : ℕ) (held : Buffered) (stage : Stage) (requests : Requests) (link mid : LinkState) (shown : Shown) (passed : Passed) (next : Then) (called : Option LinkNumber) (unsent left : List ℕ)
    → IsUnderWay start cost next called unsent (point held stage requests link shown passed) → LeavesSome link unsent left mid → IsUnderWay start cost next called left (point held stage requests mid shown passed)
left-on start cost held stage requests link mid shown passed next called unsent left u l = record {
  sent = λ then then_passed s exits. u.sent then then_passed (subst (λ (r : List ℕ). Sends link r 0 then) (sym l.whole) (sends-join link mid then l.part left 0 l.sends s)) exits;
  some = l.some;
  unsent_ends = λ then sp. u.unsent_ends then record {
    part = l.part ++ sp.part;
    lost = sp.lost;
    some_lost = sp.some_lost;
    cut = append_assoc l.part sp.part sp.lost ∙ ap (λ (x : List ℕ). l.part ++ x) sp.cut ∙ sym l.whole;
    sends = sends-join link mid then l.part sp.part 1 l.sends sp.sends;
  };
}

-- turns in a row
pub in-turn-none : (a b : Shown) (here goes : Start → Shown → Type 0) → b ≡ a → ((start : Start) (shown : Shown) → here start shown → goes start shown) → InTurn a b here goes
in-turn-none a b here goes same on = record {
  steps = [];
  went = went-still a b same;
  places = [];
  mine = ap (λ (s : Shown). s.mine) same ∙ sym (append-nil a.mine);
  comes = λ start own at. subst (λ (x : Shown). goes start x) (sym (same-turn own a b same)) (on start (shown_to own a) at);
}

pub in-turn-join : (a b c : Shown) (here mid goes : Start → Shown → Type 0) → InTurn a b here mid → InTurn b c mid goes → InTurn a c here goes
in-turn-join a b c here mid goes one two = record {
  steps = one.steps ++ two.steps;
  went = went-join a b c one.steps two.steps one.went two.went;
  places = one.places ++ two.places;
  mine = two.mine ∙ ap (λ (l : List ℕ). l ++ two.places) one.mine ∙ append_assoc a.mine one.places two.places;
  comes = λ start own at.
      subst (λ (l : List ℕ). goes start (shown_to l c)) (append_assoc own one.places two.places) (two.comes start (own ++ one.places) (one.comes start own at));
}

pub in-turn-goes : (a b : Shown) (here mid goes : Start → Shown → Type 0) → InTurn a b here mid → ((start : Start) (shown : Shown) → mid start shown → goes start shown) → InTurn a b here goes
in-turn-goes a b here mid goes one on = record {
  steps = one.steps;
  went = one.went;
  places = one.places;
  mine = one.mine;
  comes = λ start own at. on start (shown_to (own ++ one.places) b) (one.comes start own at);
}

pub in-turn-from : (a b : Shown) (from here goes : Start → Shown → Type 0) → ((start : Start) (shown : Shown) → from start shown → here start shown) → InTurn a b here goes → InTurn a b from goes
in-turn-from a b from here goes on one = record {
  steps = one.steps;
  went = one.went;
  places = one.places;
  mine = one.mine;
  comes = λ start own at. one.comes start own (on start (shown_to own a) at);
}

-- what is known of its beginning stays known
pub in-turn-of : (a b : Shown) (of : Start → Type 0) (here goes : Start → Shown → Type 0) → InTurn a b here goes → InTurn a b (λ start shown. of start × here start shown) (λ start shown. of start × goes start shown)
in-turn-of a b of here goes one = record {
  steps = one.steps;
  went = one.went;
  places = one.places;
  mine = one.mine;
  comes = λ start own at. (at.0, one.comes start own at.1);
}

others-so_far : (start : Start) (cost : ℕ) (held : Buffered) (stage : Stage) (requests : Requests) (link : LinkState) (passed : Passed) (own : List ℕ) (a b : Shown) (steps : List Step) → Went a steps b
    → SoFar start (point held stage requests link (shown_to own a) passed) cost → SoFar start (point held stage requests link (shown_to own b) passed) cost
others-so_far start cost held stage requests link passed own a b steps w s = record {
  trace = s.trace;
  follows = s.follows;
  moves = s.moves;
  ended = s.ended;
  reads = s.reads;
  fills = s.fills;
  place = s.place;
  costs = s.costs;
  went = subst (λ (ss : List Step). Went start.shown ss (shown_to own b)) (append-nil (steps_in s.trace))
      (went-join start.shown (shown_to own a) (shown_to own b) (steps_in s.trace) [] s.went (turn-others a b steps own w));
  through = s.through;
}

others-ended : (start : Start) (stage : Stage) (link : LinkState) (passed : Passed) (own : List ℕ) (a b : Shown) (steps : List Step) → Went a steps b
    → (answer : LinkEnd) → Ended start answer stage link (shown_to own a) passed → Ended start answer stage link (shown_to own b) passed
others-ended start stage link passed own a b steps w answer e = record {
  asked = e.asked;
  comes = e.comes;
  went = subst (λ (ss : List Step). Went start.shown ss (shown_to own b)) (append-nil e.asked)
      (went-join start.shown (shown_to own a) (shown_to own b) e.asked [] e.went (turn-others a b steps own w));
  through = e.through;
}

-- a Bye, seen by its own link
pub leaves-own : (now : ℕ) (number : LinkNumber) (own : List ℕ) (a b : Shown) → (l : LeavesBy now number a b) → LeavesBy now number (shown_to own a) (shown_to (own ++ l.went.places) b)
leaves-own now number own a b l = record { answer = l.answer; went = turn-own a b _ own l.went }

-- a Bye, seen from before another link's turn
leaves-behind : (now : ℕ) (number : LinkNumber) (own : List ℕ) (a b after : Shown) (steps : List Step) → Went a steps b → LeavesBy now number (shown_to own b) after → LeavesBy now number (shown_to own a) after
leaves-behind now number own a b after steps w l = record { answer = l.answer; went = went-join (shown_to own a) (shown_to own b) after [] _ (turn-others a b steps own w) l.went }

others-then : (start : Start) (cost : ℕ) (held : Buffered) (stage : Stage) (requests : Requests) (link : LinkState) (passed : Passed) (own : List ℕ) (a b : Shown) (steps : List Step) → Went a steps b
    → (next : Then) → ServesThen start cost next (point held stage requests link (shown_to own a) passed) → ServesThen start cost next (point held stage requests link (shown_to own b) passed)
others-then start cost held stage requests link passed own a b steps w thens.GoesOn s = others-so_far start cost held stage requests link passed own a b steps w s
others-then start cost held stage requests link passed own a b steps w (thens.Ends answer) s = others-ended start stage link passed own a b steps w answer s
others-then start cost held stage requests link passed own a b steps w (thens.Leaves number) s = λ after l. s after (leaves-behind link.now number own a b after steps w l)

pub others-leave : OthersLeave
others-leave start cost stands.Waits held stage requests link passed own a b steps w s = others-so_far start cost held stage requests link passed own a b steps w s
others-leave start cost stands.More held stage requests link passed own a b steps w s = others-so_far start cost held stage requests link passed own a b steps w s
others-leave start cost (stands.Sends unsent next called) held stage requests link passed own a b steps w u = record {
  sent = λ then then_passed s exits. others-then start cost held stage requests then then_passed own a b steps w next (u.sent then then_passed s exits);
  some = u.some;
  unsent_ends = λ then sp. others-ended start stage then passed own a b steps w links.WriteFault (u.unsent_ends then sp);
}
others-leave start cost (stands.Over end) held stage requests link passed own a b steps w (inl e) = inl (others-ended start stage link passed own a b steps w end e)
others-leave start cost (stands.Over end) held stage requests link passed own a b steps w (inr u) =
    inr record { memory = u.memory; held = u.held; some = u.some; so_far = others-so_far start cost u.held stage requests link passed own a b steps w u.so_far }
