-- One frame of a link, by what the session machine did with it.
use Rattle.std.proofs.Common.{◌≡◌, ℕ, ◌+◌, ◌<◌, List, ◌++◌, length, refl, sym, ap, ◌∙◌, subst, arith, length-append}
use Rattle.std.specs.Prelude.{Option, Some, None}
use Rattle.std.specs.Option.{option_to_list}
use Rattle.afp_base.specs.declared.ids.LinkNumber.{LinkNumber}
use Rattle.afp_outside.specs.ends.Gate.{Passed, with_entered, with_exited}
use Rattle.afp_outside.specs.ends.Link.{LinkState}
use Rattle.afp_outside.specs.ends.Whole.{Sends, SendsPart}
use Rattle.afp_serial.specs.Shown.{Shown}
use Rattle.dsi_frame.specs.Buffered.{Buffered}
use Rattle.dsi_frame.specs.Frame.{Frame, IsSpelling}
use Rattle.dsi_frame.specs.Stream.{Begins}
use Rattle.afp_server.specs.link.Did.{Did}
use Rattle.afp_server.specs.link.Requests.{Requests, after_reply}
use Rattle.afp_server.specs.link.lemma.Requesting.{after_bytes}
use Rattle.afp_server.specs.link.Passing.{calls_in}
use Rattle.afp_server.specs.link.lemma.Passing.{call_link}
use Rattle.dsi_frame.specs.Replies.{listed, spelling_of}
use Rattle.afp_server.specs.link.Script.{Does}
use Rattle.afp_server.specs.link.lemma.Serving.{end_of_frame}
use Rattle.afp_server.specs.link.Progress.{Start, point, SoFar, Ended}
use Rattle.afp_server.specs.link.lemma.SessionState.{SessionState, Acts}
use Rattle.afp_server.specs.declared.link.serve.LinkEnd.{LinkEnd}
use Rattle.afp_server.specs.declared.link.serve.LinkEnd.TheVariants as links
use Rattle.afp_server.specs.declared.link.stage.FrameEnd.{FrameEnd}
use Rattle.afp_server.specs.declared.link.stage.Stage.{Stage}
use Rattle.afp_server.proofs.OfLink.Passing.{does-calls}
use Rattle.afp_server.proofs.OfLink.Serving.{HandlesNext, so_far-handles, ends-frame, ends-unwritten, some_lost-replied}

-- a frame takes some bytes
pub spelling_takes : (first : List ℕ) (f : Frame) → IsSpelling first f → 0 < length first
spelling_takes first f s = omega (arith, ap length s.whole)

-- what was noted of a reply, by its bytes and by itself
noted-bytes : (now : ℕ) (o : Option Frame) (a : Requests) → after_bytes now (spelling_of (listed o)) a ≡ after_reply now o a
noted-bytes now None a = refl
noted-bytes now (Some f) a = refl

-- The machine did this with the frame at the front.
pub record Next (start : Start) (cost : ℕ) (held : Buffered) (a : Requests) (link : LinkState) (old : SessionState) (before : Shown) (f : Frame) (did : Did) (new : SessionState) (after : Shown) (passed : Passed) : Type 0 where
  pub so_far : SoFar start (point held old.stage a link before passed) cost
  pub begins : Begins held.rest f
  pub does : Does start.block link.now old.stage f did
  pub acts : Acts old before did new after

pub next : (start : Start) (cost : ℕ) (held : Buffered) (a : Requests) (link : LinkState) (old new : SessionState) (before after : Shown) (f g : Frame) (did : Did) (now : ℕ) (passed : Passed) → start.block ≡ old.block
    → SoFar start (point held old.stage a link before passed) cost → Begins held.rest f → g ≡ f → now ≡ link.now → Does old.block now old.stage g did → Acts old before did new after
    → Next start cost held a link old before f did new after passed
next start cost held a link old new before after f g did now passed block s begins same moment does acts = record {
  so_far = s;
  begins = begins;
  does = subst (λ (b : List ℕ). Does b link.now old.stage f did) (sym block) (subst (λ (n : ℕ). Does old.block n old.stage f did) moment (subst (λ (x : Frame). Does old.block now old.stage x did) same does));
  acts = acts;
}

handles : (start : Start) (cost : ℕ) (held : Buffered) (a : Requests) (link : LinkState) (old new : SessionState) (before after : Shown) (f : Frame) (did : Did) (passed : Passed)
    → (n : Next start cost held a link old before f did new after passed) → HandlesNext start (point held old.stage a link before passed) cost f did n.begins.first n.begins.more after
handles start cost held a link old new before after f did passed n =
    record { so_far = n.so_far; spelling = n.begins.spelling; whole = n.begins.whole; does = n.does; went = n.acts.went }

-- the steps of the frame have the call that it is
next-calls : (start : Start) (cost : ℕ) (held : Buffered) (a : Requests) (link : LinkState) (old new : SessionState) (before after : Shown) (f : Frame) (did : Did) (passed : Passed) (called : Option LinkNumber)
    → Next start cost held a link old before f did new after passed → called ≡ call_link f.reply old.stage f.command → calls_in did.steps ≡ option_to_list called
next-calls start cost held a link old new before after f did passed called n is = does-calls start.block link.now old.stage f did n.does ∙ ap (λ (o : Option LinkNumber). option_to_list o) (sym is)

-- the link goes on
pub frame-goes_on : (start : Start) (cost : ℕ) (held then_held : Buffered) (a b : Requests) (link then_link : LinkState) (old new : SessionState) (before after : Shown) (f : Frame) (did : Did) (reply : List ℕ) (passed mid then_passed : Passed) (called : Option LinkNumber)
    → (n : Next start cost held a link old before f did new after passed) → called ≡ call_link f.reply old.stage f.command → mid ≡ with_entered passed called → then_passed ≡ with_exited mid called → reply ≡ new.reply → b ≡ after_bytes link.now reply a → Sends link reply 0 then_link → did.end ≡ None
    → ((g : Frame) (first more : List ℕ) → IsSpelling first g → held.rest ≡ first ++ more → then_held ≡ record { place = held.place + length first; rest = more })
    → SoFar start (point then_held new.stage b then_link after then_passed) cost
frame-goes_on start cost held then_held a b link then_link old new before after f did reply passed mid then_passed called n call enters exits is noted_is sent goes_on advanced =
    let bytes : reply ≡ spelling_of (listed did.reply) = is ∙ ap (λ (s : SessionState). s.reply) n.acts.state in
    let now_noted : b ≡ after_reply link.now did.reply a = noted_is ∙ ap (λ (r : List ℕ). after_bytes link.now r a) bytes ∙ noted-bytes link.now did.reply a in
    subst (λ (stage : Stage). SoFar start (point then_held stage b then_link after then_passed) cost) (sym (ap (λ (s : SessionState). s.stage) n.acts.state))
    (subst (λ (r : Requests). SoFar start (point then_held did.stage r then_link after then_passed) cost) (sym now_noted)
    (so_far-handles start (point held old.stage a link before passed) cost f did n.begins.first n.begins.more after then_link then_held mid then_passed called (handles start cost held a link old new before after f did passed n)
    (record { enters = enters; exits = exits; calls = next-calls start cost held a link old new before after f did passed called n call })
    (subst (λ (r : List ℕ). Sends link r 0 then_link) bytes sent) goes_on (advanced f n.begins.first n.begins.more n.begins.spelling n.begins.whole)))

pub frame-less : (held then_held : Buffered) (f : Frame) → (b : Begins held.rest f)
    → ((g : Frame) (first more : List ℕ) → IsSpelling first g → held.rest ≡ first ++ more → then_held ≡ record { place = held.place + length first; rest = more })
    → length then_held.rest < length held.rest
frame-less held then_held f b advanced =
    let is : then_held ≡ record { place = held.place + length b.first; rest = b.more } = advanced f b.first b.more b.spelling b.whole in
    omega (arith, ap (λ (d : Buffered). length d.rest) is, ap length b.whole, length-append b.first b.more, spelling_takes b.first f b.spelling)

-- the frame ends it
pub frame-ends : (start : Start) (cost : ℕ) (held : Buffered) (a : Requests) (link then_link : LinkState) (old new : SessionState) (before after : Shown) (f : Frame) (did : Did) (reply : List ℕ) (end : FrameEnd) (place : ℕ) (answer : LinkEnd) (passed mid then_passed : Passed) (called : Option LinkNumber)
    → (n : Next start cost held a link old before f did new after passed) → called ≡ call_link f.reply old.stage f.command → mid ≡ with_entered passed called → then_passed ≡ with_exited mid called → reply ≡ new.reply → Sends link reply 0 then_link → did.end ≡ Some end → place ≡ held.place → answer ≡ end_of_frame end place
    → Ended start answer new.stage then_link after then_passed
frame-ends start cost held a link then_link old new before after f did reply end place answer passed mid then_passed called n call enters exits is sent ends at as_frame =
    subst (λ (a : LinkEnd). Ended start a new.stage then_link after then_passed) (sym (as_frame ∙ ap (λ (k : ℕ). end_of_frame end k) at))
    (subst (λ (stage : Stage). Ended start (end_of_frame end held.place) stage then_link after then_passed) (sym (ap (λ (s : SessionState). s.stage) n.acts.state))
    (ends-frame start (point held old.stage a link before passed) cost f did n.begins.first n.begins.more after then_link end mid then_passed called (handles start cost held a link old new before after f did passed n)
    (record { enters = enters; exits = exits; calls = next-calls start cost held a link old new before after f did passed called n call })
    (subst (λ (b : List ℕ). Sends link b 0 then_link) (is ∙ ap (λ (s : SessionState). s.reply) n.acts.state) sent) ends))

-- its reply could not be written
pub frame-unwritten : (start : Start) (cost : ℕ) (held : Buffered) (a : Requests) (link then_link : LinkState) (old new : SessionState) (before after : Shown) (f : Frame) (did : Did) (reply : List ℕ) (passed mid : Passed) (called : Option LinkNumber)
    → (n : Next start cost held a link old before f did new after passed) → called ≡ call_link f.reply old.stage f.command → mid ≡ with_entered passed called → reply ≡ new.reply → SendsPart link reply then_link → Ended start links.WriteFault new.stage then_link after mid
frame-unwritten start cost held a link then_link old new before after f did reply passed mid called n call enters is sent =
    let part : SendsPart link (spelling_of (listed did.reply)) then_link = subst (λ (b : List ℕ). SendsPart link b then_link) (is ∙ ap (λ (s : SessionState). s.reply) n.acts.state) sent in
    let some = some_lost-replied did.reply part.part part.lost part.some_lost part.cut in
    subst (λ (stage : Stage). Ended start links.WriteFault stage then_link after mid) (sym (ap (λ (s : SessionState). s.stage) n.acts.state))
    (ends-unwritten start (point held old.stage a link before passed) cost f did n.begins.first n.begins.more after then_link some.0 mid called (handles start cost held a link old new before after f did passed n)
    enters (next-calls start cost held a link old new before after f did passed called n call) some.1 part)
