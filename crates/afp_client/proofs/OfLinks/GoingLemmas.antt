-- What a step keeps: a client that takes frames, an opening, and the request that waits.
use Rattle.std.proofs.Common.{◌≡◌, ◌⊎◌, ℕ, List, [], Option, Some, None, Bool, true, false, IfSome, inl, inr, refl, ap, sym, subst, ◌∙◌, option_map, length, ◌==◌}
use Rattle.afp_base.specs.declared.code.Code.{Code}
use Rattle.afp_outside.specs.ends.Link.{LinkState}
use Rattle.afp_outside.specs.ends.Whole.{SendsPart}
use Rattle.dsi_frame.specs.Frame.{Frame}
use Rattle.dsi_frame.specs.declared.frame.DsiCommand.{DsiCommand}
use Rattle.dsi_frame.specs.declared.frame.DsiCommand.TheVariants as commands
use Rattle.dsi_session.specs.RequestIds.{id_after}
use Rattle.afp_client.specs.session.State.{Client, ClientState, Waiting, is_lost, is_opened}
use Rattle.afp_client.specs.session.Takes.{answers, if_answers, is_ok, is_retried, opened, opening_command, opening_replied, opening_told, ready_reply, session_told, session_refusal, refusal, takes_reply, takes_request, takes_by, takes, token_in, waiting_replied, written, begun, broken}
use Rattle.afp_client.specs.session.Takes as S
use Rattle.afp_client.specs.session.Happens.{Happens, TakesNext}
use Rattle.afp_client.specs.declared.session.event.Event.{Event}
use Rattle.afp_client.specs.declared.session.event.Event.TheVariants as events
use Rattle.afp_client.specs.declared.session.stage.OpeningStep.{OpeningStep}
use Rattle.afp_client.specs.declared.session.stage.OpeningStep.TheVariants as steps
use Rattle.afp_client.specs.declared.session.stage.Stage.{Stage}
use Rattle.afp_client.specs.declared.session.stage.Stage.TheVariants as stages
use Rattle.afp_client.specs.links.lemma.Coming.{LivesOn, LivesNext, Opening, OpensOn, OpensNext, next_of, opened_next}
use Rattle.dsi_frame.specs.Stream.{IsUnfinished}
use Rattle.afp_client.specs.declared.links.came.Came.{Came}
use Rattle.afp_client.specs.declared.links.came.Came.TheVariants as comes
use Rattle.afp_client.specs.declared.links.came.Next.TheVariants as nexts
use Rattle.afp_client.proofs.OfLinks.NextLemmas.{nothing-lost}
use Rattle.afp_client.proofs.OfLinks.TellLemmas.{if_some, if_step, step_alone}

-- a step after which the client goes on as before
pub record Goes (s t : ClientState) : Type 0 where
  pub live : is_lost t.stage ≡ false
  pub same : is_opened t.stage ≡ is_opened s.stage
  pub waits : is_opened s.stage ≡ false → t.waiting ≡ s.waiting

abbrev pub IsGoing : ClientState → Event → Option Frame → ClientState → Type 0
IsGoing s (events.Told c block) writes t = is_opened s.stage ≡ true
IsGoing s events.Ready writes t = (t.stage ≡ stages.Ready) × (t.waiting ≡ s.waiting)
IsGoing s (events.Refused c) writes t = writes ≡ None
IsGoing s (events.Lost c) writes t = writes ≡ None
IsGoing s event writes t = Goes s t

abbrev pub Going : ClientState → S.Step → Type 0
Going s st = IsGoing s st.event st.writes st.state

refused_going : (s : ClientState) (token : Option (List ℕ)) (at : OpeningStep) (c : Code) (t : ClientState) → IsGoing s (refusal token at c) None t
refused_going s token steps.OpenSession c t = refl
refused_going s token steps.Login c t = refl
refused_going s None steps.Session c t = refl
refused_going s (Some old) steps.Session c t = refl

token_going : (s : ClientState) (id : ℕ) (found : Option (List ℕ)) → IfSome (option_map (λ (token : List ℕ). opened (record s { token = Some token; next_id = id_after id })) found) (Going s)
token_going s id None = tt
token_going s id (Some token) = (refl, refl)

session_going : (s : ClientState) (token : Option (List ℕ)) (id : ℕ) (payload : List ℕ) → IfSome (session_told s token id payload) (Going s)
session_going s (Some token) id payload = (refl, refl)
session_going s None id payload = token_going s id (token_in payload)

opening_going : (s : ClientState) (at : OpeningStep) (id : ℕ) (payload : List ℕ) → is_opened s.stage ≡ false → IfSome (opening_told s at id payload) (Going s)
opening_going s steps.OpenSession id payload e = record { live = refl; same = sym e; waits = λ n. refl }
opening_going s steps.Login id payload e = record { live = refl; same = sym e; waits = λ n. refl }
opening_going s steps.Session id payload e = session_going s s.token id payload

replied_going : (s : ClientState) (at : OpeningStep) (id retries : ℕ) (c : Code) (payload : List ℕ) → is_opened s.stage ≡ false → IfSome (opening_replied s at id retries c payload) (Going s)
replied_going s at id retries c payload e =
    if_some (Going s) (is_retried c retries) _ _ (record { live = refl; same = sym e; waits = λ n. refl })
    (if_some (Going s) (is_ok c) _ _ (opening_going s at id payload e) (refused_going s s.token at c _))

true-false : (b : Bool) → b ≡ true → b ≡ false → ⊥
true-false true e f = absurd (cc f)
true-false false e f = absurd (cc e)

opened-stage : (s : ClientState) → s.stage ≡ stages.Ready → is_opened s.stage ≡ true
opened-stage s e = ap (λ (stage : Stage). is_opened stage) e

live-stage : (s : ClientState) → s.stage ≡ stages.Ready → is_lost s.stage ≡ false
live-stage s e = ap (λ (stage : Stage). is_lost stage) e

waiting_going : (s : ClientState) (w : Waiting) (c : Code) (payload : List ℕ) → s.stage ≡ stages.Ready → Going s (waiting_replied s w c payload)
waiting_going s w c payload e =
    if_step (Going s) (is_retried c w.retries) _ _ (record { live = live-stage s e; same = refl; waits = λ n. absurd (true-false (is_opened s.stage) (opened-stage s e) n) }) (opened-stage s e)

answered_going : (s : ClientState) (b : Bool) (found : Option Code) (does : Code → Option S.Step) → ((c : Code) → IfSome (does c) (Going s)) → IfSome (if_answers b found does) (Going s)
answered_going s true (Some c) does h = h c
answered_going s true None does h = tt
answered_going s false found does h = tt

request_going : (s : ClientState) (command : DsiCommand) (f : Frame) → is_lost s.stage ≡ false → IfSome (takes_request s command f) (Going s)
request_going s commands.Tickle f live = record { live = live; same = refl; waits = λ n. refl }
request_going s commands.CloseSession f live = record { live = live; same = refl; waits = λ n. refl }
request_going s commands.Attention f live = if_some (Going s) (length f.payload == 2) _ _ (record { live = live; same = refl; waits = λ n. refl }) tt
request_going s commands.Command f live = tt
request_going s commands.Write f live = tt
request_going s commands.GetStatus f live = tt
request_going s commands.OpenSession f live = tt

ready_going : (s : ClientState) (w : Option Waiting) (found : Option Code) (f : Frame) → s.stage ≡ stages.Ready → IfSome (ready_reply s w found f) (Going s)
ready_going s None found f e = tt
ready_going s (Some w) found f e = answered_going s (answers w.request.command w.request.id f) found _ (λ c. waiting_going s w c f.payload e)

reply_going : (s : ClientState) (stage : Stage) (found : Option Code) (f : Frame) → s.stage ≡ stage → IfSome (takes_reply s stage found f) (Going s)
reply_going s stages.Unlinked found f e = tt
reply_going s (stages.Opening at id retries) found f e =
    answered_going s (answers (opening_command at) id f) found _ (λ c. replied_going s at id retries c f.payload (ap (λ (stage : Stage). is_opened stage) e))
reply_going s stages.Ready found f e = ready_going s s.waiting found f e
reply_going s stages.Lost found f e = tt

frame_going : (s : ClientState) (found : Option Code) (f : Frame) (b : Bool) → is_lost s.stage ≡ false → IfSome (takes_by b s found f) (Going s)
frame_going s found f true live = reply_going s s.stage found f refl
frame_going s found f false live = request_going s f.command f live

pub step_going : (s : ClientState) (found : Option Code) (f : Frame) (st : S.Step) → is_lost s.stage ≡ false → takes s found f ≡ Some st → Going s st
step_going s found f st live e = subst (λ (o : Option S.Step). IfSome o (Going s)) e (frame_going s found f f.reply live)

going : (old new : Client) (out out_after : List ℕ) (event : Event) → (t : TakesNext old out event new out_after) → IsGoing old.state event t.writes new.state
going old new out out_after event t = step_going old.state t.found t.frame (S.step new.state t.writes event) t.live t.taken

-- the client takes frames yet
lives_ready : (opening : Bool) (t : ClientState) → t.stage ≡ stages.Ready → LivesNext (opened_next opening) t
lives_ready true t e = tt
lives_ready false t e = live-stage t e

kept_live : (old new : Client) → new ≡ old → is_lost old.state.stage ≡ false → is_lost new.state.stage ≡ false
kept_live old new e live = ap (λ (c : Client). is_lost c.state.stage) e ∙ live

pub lives_next : (opening : Bool) (at : ℕ) (old new : Client) (out out_after : List ℕ) (event : Event) → is_lost old.state.stage ≡ false → Happens old out event new out_after
    → LivesNext (next_of opening at event) new.state
lives_next opening at old new out out_after events.NotYet live h = kept_live old new h.stays.client live
lives_next opening at old new out out_after (events.Bad place) live h = tt
lives_next opening at old new out out_after events.Memory live h = tt
lives_next opening at old new out out_after events.Step live h = (going old new out out_after events.Step h).live
lives_next opening at old new out out_after events.Ready live h = lives_ready opening new.state (going old new out out_after events.Ready h).0
lives_next opening at old new out out_after (events.Told c block) live h = tt
lives_next opening at old new out out_after (events.Refused c) live h = tt
lives_next opening at old new out out_after (events.Lost c) live h = tt
lives_next opening at old new out out_after events.Tickle live h = (going old new out out_after events.Tickle h).live
lives_next opening at old new out out_after (events.Attention word) live h = (going old new out out_after (events.Attention word) h).live
lives_next opening at old new out out_after events.Closed live h = (going old new out out_after events.Closed h).live

-- a link broke since a write failed: something was to be written
pub lives_unsent : (old new : Client) (out : List ℕ) (link after : LinkState) (event : Event) → is_lost old.state.stage ≡ false → Happens old [] event new out → SendsPart link out after
    → is_lost new.state.stage ≡ false
lives_unsent old new out link after events.NotYet live h s = kept_live old new h.stays.client live
lives_unsent old new out link after (events.Bad place) live h s = kept_live old new h.stays.client live
lives_unsent old new out link after events.Memory live h s = kept_live old new h.client live
lives_unsent old new out link after events.Step live h s = (going old new [] out events.Step h).live
lives_unsent old new out link after events.Ready live h s = live-stage new.state (going old new [] out events.Ready h).0
lives_unsent old new out link after (events.Told c block) live h s =
    absurd (nothing-lost link after out (h.sent ∙ ap (λ (o : Option Frame). written o) (step_alone old.state h.found h.frame (S.step new.state h.writes (events.Told c block)) h.taken).0) s)
lives_unsent old new out link after (events.Refused c) live h s = absurd (nothing-lost link after out (h.sent ∙ ap (λ (o : Option Frame). written o) (going old new [] out (events.Refused c) h)) s)
lives_unsent old new out link after (events.Lost c) live h s = absurd (nothing-lost link after out (h.sent ∙ ap (λ (o : Option Frame). written o) (going old new [] out (events.Lost c) h)) s)
lives_unsent old new out link after events.Tickle live h s = (going old new [] out events.Tickle h).live
lives_unsent old new out link after (events.Attention word) live h s = (going old new [] out (events.Attention word) h).live
lives_unsent old new out link after events.Closed live h s = (going old new [] out events.Closed h).live

-- an opening goes on
stays_opening : (old new : Client) → new ≡ old → is_opened old.state.stage ≡ false → Opening old.state new.state
stays_opening old new e un = record { unopened = ap (λ (c : Client). is_opened c.state.stage) e ∙ un; waits = ap (λ (c : Client). c.state.waiting) e }

goes_opening : (s t : ClientState) → is_opened s.stage ≡ false → Goes s t → Opening s t
goes_opening s t un g = record { unopened = g.same ∙ un; waits = g.waits un }

pub opens_next : (at : ℕ) (old new : Client) (out out_after : List ℕ) (event : Event) → is_opened old.state.stage ≡ false → Happens old out event new out_after
    → OpensNext old.state (next_of true at event) new.state
opens_next at old new out out_after events.NotYet un h = stays_opening old new h.stays.client un
opens_next at old new out out_after (events.Bad place) un h = tt
opens_next at old new out out_after events.Memory un h = tt
opens_next at old new out out_after events.Step un h = goes_opening old.state new.state un (going old new out out_after events.Step h)
opens_next at old new out out_after events.Ready un h = going old new out out_after events.Ready h
opens_next at old new out out_after (events.Told c block) un h = true-false (is_opened old.state.stage) (going old new out out_after (events.Told c block) h) un
opens_next at old new out out_after (events.Refused c) un h = tt
opens_next at old new out out_after (events.Lost c) un h = tt
opens_next at old new out out_after events.Tickle un h = goes_opening old.state new.state un (going old new out out_after events.Tickle h)
opens_next at old new out out_after (events.Attention word) un h = goes_opening old.state new.state un (going old new out out_after (events.Attention word) h)
opens_next at old new out out_after events.Closed un h = (going old new out out_after events.Closed h).waits un

pub opens_unsent : (old new : Client) (out : List ℕ) (link after : LinkState) (event : Event) → is_opened old.state.stage ≡ false → Happens old [] event new out → SendsPart link out after
    → new.state.waiting ≡ old.state.waiting
opens_unsent old new out link after events.NotYet un h s = ap (λ (c : Client). c.state.waiting) h.stays.client
opens_unsent old new out link after (events.Bad place) un h s = ap (λ (c : Client). c.state.waiting) h.stays.client
opens_unsent old new out link after events.Memory un h s = ap (λ (c : Client). c.state.waiting) h.client
opens_unsent old new out link after events.Step un h s = (going old new [] out events.Step h).waits un
opens_unsent old new out link after events.Ready un h s = (going old new [] out events.Ready h).1
opens_unsent old new out link after (events.Told c block) un h s = absurd (true-false (is_opened old.state.stage) (going old new [] out (events.Told c block) h) un)
opens_unsent old new out link after (events.Refused c) un h s = absurd (nothing-lost link after out (h.sent ∙ ap (λ (o : Option Frame). written o) (going old new [] out (events.Refused c) h)) s)
opens_unsent old new out link after (events.Lost c) un h s = absurd (nothing-lost link after out (h.sent ∙ ap (λ (o : Option Frame). written o) (going old new [] out (events.Lost c) h)) s)
opens_unsent old new out link after events.Tickle un h s = (going old new [] out events.Tickle h).waits un
opens_unsent old new out link after (events.Attention word) un h s = (going old new [] out (events.Attention word) h).waits un
opens_unsent old new out link after events.Closed un h s = (going old new [] out events.Closed h).waits un

-- nothing came whole
nothing_came : (lost : Bool) (rest : List ℕ) → lost ≡ false → (lost ≡ true) ⊎ IsUnfinished rest → IsUnfinished rest
nothing_came lost rest live (inl e) = absurd (true-false lost e live)
nothing_came lost rest live (inr u) = u

nothing_held : (old new : Client) (out out_after : List ℕ) → is_lost old.state.stage ≡ false → Happens old out events.NotYet new out_after → IsUnfinished new.held.rest
nothing_held old new out out_after live h =
    subst (λ (c : Client). IsUnfinished c.held.rest) (sym h.stays.client) (nothing_came (is_lost old.state.stage) old.held.rest live h.none)

-- a read follows an event that brought nothing
pub reads_is : (opening : Bool) (at : ℕ) (event : Event) → next_of opening at event ≡ nexts.Reads → event ≡ events.NotYet
reads_is opening at events.NotYet e = refl
reads_is opening at (events.Bad place) e = absurd (cc e)
reads_is opening at events.Memory e = absurd (cc e)
reads_is opening at events.Step e = absurd (cc e)
reads_is true at events.Ready e = absurd (cc e)
reads_is false at events.Ready e = absurd (cc e)
reads_is opening at (events.Told c block) e = absurd (cc e)
reads_is opening at (events.Refused c) e = absurd (cc e)
reads_is opening at (events.Lost c) e = absurd (cc e)
reads_is opening at events.Tickle e = absurd (cc e)
reads_is opening at (events.Attention word) e = absurd (cc e)
reads_is opening at events.Closed e = absurd (cc e)

-- less than a frame is held where a client that takes frames reads
pub reads_unfinished : (opening : Bool) (at : ℕ) (old new : Client) (out out_after : List ℕ) (event : Event) → is_lost old.state.stage ≡ false → Happens old out event new out_after
    → next_of opening at event ≡ nexts.Reads → IsUnfinished new.held.rest
reads_unfinished opening at old new out out_after event live h e = nothing_held old new out out_after live (subst (λ (x : Event). Happens old out x new out_after) (reads_is opening at event e) h)

-- one after the other
pub opening-then : (s m t : ClientState) → Opening s m → Opening m t → Opening s t
opening-then s m t a b = record { unopened = b.unopened; waits = b.waits ∙ a.waits }

pub opens-after : (s m t : ClientState) (came : Came) → Opening s m → OpensOn m came t → OpensOn s came t
opens-after s m t (comes.Told at c block) a h = h
opens-after s m t comes.Opened a h = (h.0, h.1 ∙ a.waits)
opens-after s m t (comes.Refused c) a h = tt
opens-after s m t (comes.Lost c) a h = tt
opens-after s m t (comes.Bad at) a h = tt
opens-after s m t comes.Broke a h = h ∙ a.waits
opens-after s m t comes.Spent a h = tt
opens-after s m t comes.Memory a h = tt

pub lives-came : (came : Came) (t : ClientState) → is_lost t.stage ≡ false → LivesOn came t
lives-came (comes.Told at c block) t e = tt
lives-came comes.Opened t e = tt
lives-came (comes.Refused c) t e = tt
lives-came (comes.Lost c) t e = tt
lives-came (comes.Bad at) t e = tt
lives-came comes.Broke t e = e
lives-came comes.Spent t e = tt
lives-came comes.Memory t e = tt

-- what a read comes to, where the client is as it was
pub opens-read : (s t : ClientState) (came : Came) → (came ≡ comes.Opened → ⊥) → ((at : ℕ) (c : Code) (block : List ℕ) → came ≡ comes.Told at c block → ⊥) → t.waiting ≡ s.waiting → OpensOn s came t
opens-read s t (comes.Told at c block) o told e = told at c block refl
opens-read s t comes.Opened o told e = absurd (o refl)
opens-read s t (comes.Refused c) o told e = tt
opens-read s t (comes.Lost c) o told e = tt
opens-read s t (comes.Bad at) o told e = tt
opens-read s t comes.Broke o told e = e
opens-read s t comes.Spent o told e = tt
opens-read s t comes.Memory o told e = tt

-- the next link begins: its opening goes on from the first request
begins-live : (stage : Stage) → is_lost stage ≡ false → is_lost (S.stage_begun stage) ≡ false
begins-live stages.Lost e = absurd (cc e)
begins-live stages.Unlinked e = refl
begins-live (stages.Opening at id retries) e = refl
begins-live stages.Ready e = refl

begins-unopened : (stage : Stage) → is_opened (S.stage_begun stage) ≡ false
begins-unopened stages.Lost = refl
begins-unopened stages.Unlinked = refl
begins-unopened (stages.Opening at id retries) = refl
begins-unopened stages.Ready = refl

broken-live : (stage : Stage) → is_lost stage ≡ false → is_lost (S.stage_broken stage) ≡ false
broken-live stages.Lost e = absurd (cc e)
broken-live stages.Unlinked e = refl
broken-live (stages.Opening at id retries) e = refl
broken-live stages.Ready e = refl

pub begun_live : (s t : ClientState) → is_lost s.stage ≡ false → t ≡ begun s → is_lost t.stage ≡ false
begun_live s t live e = ap (λ (x : ClientState). is_lost x.stage) e ∙ begins-live s.stage live

pub begun_opening : (s t : ClientState) → t ≡ begun s → Opening s t
begun_opening s t e = record { unopened = ap (λ (x : ClientState). is_opened x.stage) e ∙ begins-unopened s.stage; waits = ap (λ (x : ClientState). x.waiting) e }

pub rejoined_live : (s m t : ClientState) → is_lost s.stage ≡ false → m ≡ broken s → t ≡ begun m → is_lost t.stage ≡ false
rejoined_live s m t live b e = begun_live m t (ap (λ (x : ClientState). is_lost x.stage) b ∙ broken-live s.stage live) e

pub rejoined_opening : (first s m t : ClientState) → s.waiting ≡ first.waiting → m ≡ broken s → t ≡ begun m → Opening first t
rejoined_opening first s m t waits b e =
    let o = begun_opening m t e in
    record { unopened = o.unopened; waits = o.waits ∙ (ap (λ (x : ClientState). x.waiting) b ∙ waits) }

pub kept-live : (s t : ClientState) → t ≡ s → is_lost s.stage ≡ false → is_lost t.stage ≡ false
kept-live s t e live = ap (λ (x : ClientState). is_lost x.stage) e ∙ live

pub kept-opening : (first s t : ClientState) → Opening first s → t ≡ s → Opening first t
kept-opening first s t o e = record { unopened = ap (λ (x : ClientState). is_opened x.stage) e ∙ o.unopened; waits = ap (λ (x : ClientState). x.waiting) e ∙ o.waits }
