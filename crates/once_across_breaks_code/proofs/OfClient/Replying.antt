-- Frames that come.
use Rattle.std.proofs.Common.{◌≡◌, ◌≢◌, ◌∙◌, refl, sym, ap, subst, ℕ, Bool, true, false, cond, List, [], Option, Some, None, IfSome, eq-eqb}
use Rattle.std.specs.Prelude.{length, ◌==◌, ◌&&◌}
use Rattle.std.proofs.lemmas.Bool.{and_parts, eqb-true}
use Rattle.afp_base.specs.declared.code.Code.{Code}
use Rattle.dsi_frame.specs.Frame.{Frame, command_number}
use Rattle.dsi_frame.specs.declared.frame.DsiCommand.{DsiCommand}
use Rattle.dsi_frame.specs.declared.frame.DsiCommand.TheVariants as commands
use Rattle.dsi_session.specs.RequestIds.{CountsInRounds}
use Rattle.volume_spec.specs.TypedVolume.{are_bytes}
use Rattle.afp_client.specs.session.State.{ClientState, Waiting}
use Rattle.afp_client.specs.session.Takes.{Step, answers, if_answers, opening_command, opening_replied, ready_reply, takes_by, takes_reply, takes_request, waiting_replied}
use Rattle.afp_client.specs.declared.session.stage.OpeningStep.{OpeningStep}
use Rattle.afp_client.specs.declared.session.stage.OpeningStep.TheVariants as steps
use Rattle.afp_client.specs.declared.session.stage.Stage as real
use Rattle.afp_client.specs.declared.session.stage.Stage.TheVariants as stages
use Rattle.once_across_breaks.specs.once.Messages.{Answer, Does, Fine, Login, MiscErr, NoMemory, Refuses, wire_id}
use Rattle.once_across_breaks.specs.once.Run.{Client, Entering, Gone, Joining, Opening, Ready, Stage, Wait, last_body}
use Rattle.once_across_breaks.specs.once.Dsi.{call_command}
use Rattle.once_across_breaks.specs.once.Frames.{Heard, HeardCall, HeardOpen, OfCall, Tag, Taken, client_takes, opening_taken, reply_taken, request_that_waits, step_taken, tag_of, waiting_request, waiting_taken}
use Rattle.once_across_breaks.specs.once.Serial.{Framed, Setup, answer_by, written}
use Rattle.once_across_breaks_code.specs.client.Requests.{IsAnswer, request_frame, tag_by, tag_in, without_block}
use Rattle.once_across_breaks_code.specs.client.Related.{IsClient, IsStage, stage_at, waiting_of}
use Rattle.once_across_breaks_code.specs.client.Steps.{AreSame, IsReplyTo, IsTaken, OnlyRepliesAreTaken, RepliesAreTaken, RequestsLeaveAll, Stays, TagsAreShown}
use Rattle.once_across_breaks_code.proofs.OfClient.Opened.{opening-same}
use Rattle.once_across_breaks_code.proofs.OfClient.Told.{its_waiting, waiting-same}

-- ---- the request that waits

abbrev opening_heard : Client → OpeningStep → Heard
opening_heard c steps.OpenSession = HeardOpen
opening_heard c steps.Login = HeardCall c.opening_id Login
opening_heard c steps.Session = HeardCall c.opening_id (last_body c.token)

that-waits : (c : Client) (at_step : OpeningStep) → request_that_waits c (stage_at at_step) ≡ Some (opening_heard c at_step)
that-waits c steps.OpenSession = refl
that-waits c steps.Login = refl
that-waits c steps.Session = refl

waits-at : (c : Client) (at_step : OpeningStep) → c.stage ≡ stage_at at_step → request_that_waits c c.stage ≡ Some (opening_heard c at_step)
waits-at c at_step there = ap (λ (x : Stage). request_that_waits c x) there ∙ that-waits c at_step

waits-ready : (c : Client) (wait : Option Wait) → c.stage ≡ Ready → c.wait ≡ wait → request_that_waits c c.stage ≡ waiting_request wait
waits-ready c wait there is = ap (λ (x : Stage). request_that_waits c x) there ∙ ap waiting_request is

-- the command and the id of its frame
written-last : (u : Setup) (token : Option (List ℕ)) → (written u (last_body token)).write ≡ false
written-last u None = refl
written-last u (Some token) = refl

opening-kind : (u : Setup) (c : Client) (s : ClientState) (at_step : OpeningStep) → IsClient u c s → (request_frame u c.opening_id (opening_heard c at_step)).command ≡ opening_command at_step
opening-kind u c s steps.OpenSession h = refl
opening-kind u c s steps.Login h = ap (λ (f : Framed). call_command f.write) h.login
opening-kind u c s steps.Session h = ap call_command (written-last u c.token)

opening-id : (u : Setup) (c : Client) (at_step : OpeningStep) → (request_frame u c.opening_id (opening_heard c at_step)).id ≡ wire_id c.opening_id
opening-id u c steps.OpenSession = refl
opening-id u c steps.Login = refl
opening-id u c steps.Session = refl

opening-answers : (u : Setup) (c : Client) (s : ClientState) (at_step : OpeningStep) (id : ℕ) (f : Frame) → IsClient u c s → id ≡ wire_id c.opening_id
    → answers (request_frame u c.opening_id (opening_heard c at_step)).command (request_frame u c.opening_id (opening_heard c at_step)).id f ≡ answers (opening_command at_step) id f
opening-answers u c s at_step id f h is =
    let kind = opening-kind u c s at_step h in
    let wire : (request_frame u c.opening_id (opening_heard c at_step)).id ≡ id = opening-id u c at_step ∙ sym is in
    λ i. answers (kind i) (wire i) f

same-request : (r q : Heard) → Some r ≡ Some q → r ≡ q
same-request r q same = cc

-- what the law's client takes in an opening, whatever the reply shows of its request
taken-at : (c : Client) (at_step : OpeningStep) (tag : Tag) (a : Answer) → client_takes c (stage_at at_step) tag a ≡ opening_taken c a
taken-at c steps.OpenSession tag a = refl
taken-at c steps.Login tag a = refl
taken-at c steps.Session tag a = refl

takes-at : (c : Client) (at_step : OpeningStep) (tag : Tag) (a : Answer) → c.stage ≡ stage_at at_step → client_takes c c.stage tag a ≡ opening_taken c a
takes-at c at_step tag a there = ap (λ (x : Stage). client_takes c x tag a) there ∙ taken-at c at_step tag a

-- the block of a reply to OpenSession does not matter
no-block : (c : Client) (a : Answer) → c.stage ≡ Opening → opening_taken c a ≡ opening_taken c (without_block a)
no-block c (Fine block) there = ap (λ (x : Stage). step_taken c x c.token block) there ∙ sym (ap (λ (x : Stage). step_taken c x c.token []) there)
no-block c MiscErr there = refl
no-block c NoMemory there = refl
no-block c (Refuses code block) there = refl

alike : (c : Client) (at_step : OpeningStep) (a b : Answer) → c.stage ≡ stage_at at_step → IsAnswer (opening_heard c at_step) a b → opening_taken c a ≡ opening_taken c b
alike c steps.OpenSession a b there is = no-block c a there ∙ ap (λ (x : Answer). opening_taken c x) is ∙ sym (no-block c b there)
alike c steps.Login a b there is = ap (λ (x : Answer). opening_taken c x) is
alike c steps.Session a b there is = ap (λ (x : Answer). opening_taken c x) is

-- a reply to a Command or a Write shows its id
call-tag : (write : Bool) (id : ℕ) (command : DsiCommand) (shown : ℕ) → ((command_number command == command_number (call_command write)) && (shown == id)) ≡ true → tag_by command shown ≡ OfCall id
call-tag true id commands.OpenSession shown is = absurd (cc)
call-tag false id commands.OpenSession shown is = absurd (cc)
call-tag write id command shown is = ap (λ (n : ℕ). OfCall n) (eqb-true shown id (and_parts (command_number command == command_number (call_command write)) (shown == id) is).1)

its-tag : (u : Setup) (c : Client) (s : ClientState) (w : Wait) (f : Frame) → IsClient u c s → c.wait ≡ Some w → answers (its_waiting u w).request.command (its_waiting u w).request.id f ≡ true → tag_in f ≡ OfCall w.id
its-tag u c s w f h waits is =
    let id : w.id ≡ wire_id w.id = subst (λ (o : Option Wait). IfSome o (λ (x : Wait). x.id ≡ wire_id x.id)) waits h.wait_id in
    call-tag (written u (Does w.call)).write (wire_id w.id) f.command f.id is ∙ ap (λ (n : ℕ). OfCall n) (sym id)

takes-ready : (c : Client) (w : Wait) (tag : Tag) (a : Answer) → c.stage ≡ Ready → c.wait ≡ Some w → tag ≡ OfCall w.id → client_takes c c.stage tag a ≡ reply_taken c w a
takes-ready c w tag a there waits tagged =
    (λ i. client_takes c (there i) (tagged i) a)
    ∙ ap (λ (o : Option Wait). waiting_taken c o (OfCall w.id) a) waits
    ∙ ap (λ (b : Bool). cond b (reply_taken c w a) None) (eq-eqb w.id w.id refl)

-- ---- a reply to it

answered : (b : Bool) (code : Code) (does : Code → Option Step) → b ≡ true → if_answers b (Some code) does ≡ does code
answered true code does is = refl
answered false code does is = absurd (cc)

-- the frame replies to a request that is another one's equal
replies-to : (u : Setup) (c : Client) (r q : Heard) (f : Frame) → r ≡ q → IsReplyTo (request_frame u c.opening_id r) f → answers (request_frame u c.opening_id q).command (request_frame u c.opening_id q).id f ≡ true
replies-to u c r q f same reply = subst (λ (x : Heard). answers (request_frame u c.opening_id x).command (request_frame u c.opening_id x).id f ≡ true) same reply.same

opening-taken : CountsInRounds → (u : Setup) (c : Client) (s : ClientState) (r : Heard) (a : Answer) (code : Code) (f : Frame) (at_step : OpeningStep) (id retries : ℕ)
    → IsClient u c s → IsStage c.stage c.tries c.opening_id c.token (stages.Opening at_step id retries) → request_that_waits c c.stage ≡ Some r → IsReplyTo (request_frame u c.opening_id r) f → are_bytes f.payload ≡ true
    → IsAnswer r a (answer_by code f.payload) → AreSame u c (client_takes c c.stage (tag_of r) a) (takes_reply s (stages.Opening at_step id retries) (Some code) f)
opening-taken counts u c s r a code f at_step id retries h there waits reply typed says =
    let is : r ≡ opening_heard c at_step = same-request r (opening_heard c at_step) (sym waits ∙ waits-at c at_step there.0) in
    let answer : answers (opening_command at_step) id f ≡ true = sym (opening-answers u c s at_step id f h there.1) ∙ replies-to u c r (opening_heard c at_step) f is reply in
    let does : takes_reply s (stages.Opening at_step id retries) (Some code) f ≡ opening_replied s at_step id retries code f.payload = answered (answers (opening_command at_step) id f) code (λ x. opening_replied s at_step id retries x f.payload) answer in
    let takes : client_takes c c.stage (tag_of r) a ≡ opening_taken c (answer_by code f.payload) = takes-at c at_step (tag_of r) a there.0 ∙ alike c at_step a (answer_by code f.payload) there.0 (subst (λ (x : Heard). IsAnswer x a (answer_by code f.payload)) is says) in
    subst (λ (o : Option Step). AreSame u c (client_takes c c.stage (tag_of r) a) o) (sym does)
    (subst (λ (o : Option Taken). AreSame u c o (opening_replied s at_step id retries code f.payload)) (sym takes) (opening-same counts u c s at_step id retries code f.payload h there.0 there.1 there.2 typed))

ready-taken : CountsInRounds → (u : Setup) (c : Client) (s : ClientState) (r : Heard) (a : Answer) (code : Code) (f : Frame) (wait : Option Wait)
    → IsClient u c s → IsStage c.stage c.tries c.opening_id c.token stages.Ready → c.wait ≡ wait → request_that_waits c c.stage ≡ Some r → IsReplyTo (request_frame u c.opening_id r) f → IsAnswer r a (answer_by code f.payload)
    → AreSame u c (client_takes c c.stage (tag_of r) a) (ready_reply s (waiting_of u wait) (Some code) f)
ready-taken counts u c s r a code f None h there is waits reply says = absurd (let e : None ≡ Some r = sym (waits-ready c None there.0 is) ∙ waits in cc)
ready-taken counts u c s r a code f (Some w) h there is waits reply says =
    let q : Heard = HeardCall w.id (Does w.call) in
    let same : r ≡ q = same-request r q (sym waits ∙ waits-ready c (Some w) there.0 is) in
    let answer : answers (its_waiting u w).request.command (its_waiting u w).request.id f ≡ true = replies-to u c r q f same reply in
    let does : ready_reply s (waiting_of u (Some w)) (Some code) f ≡ Some (waiting_replied s (its_waiting u w) code f.payload) = answered (answers (its_waiting u w).request.command (its_waiting u w).request.id f) code (λ x. Some (waiting_replied s (its_waiting u w) x f.payload)) answer in
    let told : a ≡ answer_by code f.payload = subst (λ (x : Heard). IsAnswer x a (answer_by code f.payload)) same says in
    let takes : client_takes c c.stage (tag_of r) a ≡ reply_taken c w (answer_by code f.payload) = takes-ready c w (tag_of r) a there.0 is (ap (λ (x : Heard). tag_of x) same) ∙ ap (λ (x : Answer). reply_taken c w x) told in
    subst (λ (o : Option Step). AreSame u c (client_takes c c.stage (tag_of r) a) o) (sym does)
    (subst (λ (o : Option Taken). AreSame u c o (Some (waiting_replied s (its_waiting u w) code f.payload))) (sym takes) (waiting-same counts u c s w code f.payload h there.1 is))

stage-taken : CountsInRounds → (u : Setup) (c : Client) (s : ClientState) (r : Heard) (a : Answer) (code : Code) (f : Frame) (now : real.Stage)
    → IsClient u c s → IsStage c.stage c.tries c.opening_id c.token now → now ≢ stages.Unlinked → request_that_waits c c.stage ≡ Some r → IsReplyTo (request_frame u c.opening_id r) f → are_bytes f.payload ≡ true
    → IsAnswer r a (answer_by code f.payload) → AreSame u c (client_takes c c.stage (tag_of r) a) (takes_reply s now (Some code) f)
stage-taken counts u c s r a code f stages.Unlinked h there linked waits reply typed says = absurd (linked refl)
stage-taken counts u c s r a code f (stages.Opening at_step id retries) h there linked waits reply typed says = opening-taken counts u c s r a code f at_step id retries h there waits reply typed says
stage-taken counts u c s r a code f stages.Ready h there linked waits reply typed says =
    subst (λ (o : Option Waiting). AreSame u c (client_takes c c.stage (tag_of r) a) (ready_reply s o (Some code) f)) (sym h.waiting) (ready-taken counts u c s r a code f c.wait h there refl waits reply says)
stage-taken counts u c s r a code f stages.Lost h there linked waits reply typed says = absurd (let e : None ≡ Some r = sym (ap (λ (x : Stage). request_that_waits c x) there) ∙ waits in cc)

pub replies-are-taken : CountsInRounds → RepliesAreTaken
replies-are-taken counts u c s r a code f h linked waits reply typed says =
    subst (λ (b : Bool). AreSame u c (client_takes c c.stage (tag_of r) a) (takes_by b s (Some code) f)) (sym reply.reply)
    (stage-taken counts u c s r a code f s.stage h h.stage linked waits reply typed says)

-- ---- what a reply shows of its request

shown-ready : (u : Setup) (c : Client) (s : ClientState) (r : Heard) (f : Frame) (wait : Option Wait) → IsClient u c s → c.wait ≡ wait → waiting_request wait ≡ Some r → IsReplyTo (request_frame u c.opening_id r) f → tag_in f ≡ tag_of r
shown-ready u c s r f None h is waits reply = absurd (cc)
shown-ready u c s r f (Some w) h is waits reply =
    let q : Heard = HeardCall w.id (Does w.call) in
    let same : r ≡ q = same-request r q (sym waits) in
    its-tag u c s w f h is (replies-to u c r q f same reply) ∙ sym (ap (λ (x : Heard). tag_of x) same)

shown-in : (u : Setup) (c : Client) (s : ClientState) (r : Heard) (a : Answer) (f : Frame) (stage : Stage) → IsClient u c s → request_that_waits c stage ≡ Some r → IsReplyTo (request_frame u c.opening_id r) f
    → client_takes c stage (tag_in f) a ≡ client_takes c stage (tag_of r) a
shown-in u c s r a f Opening h waits reply = refl
shown-in u c s r a f Entering h waits reply = refl
shown-in u c s r a f Joining h waits reply = refl
shown-in u c s r a f Ready h waits reply = ap (λ (tag : Tag). waiting_taken c c.wait tag a) (shown-ready u c s r f c.wait h refl waits reply)
shown-in u c s r a f Gone h waits reply = refl

pub tags-are-shown : TagsAreShown
tags-are-shown u c s r a f h waits reply = shown-in u c s r a f c.stage h waits reply

-- and what it takes does not depend on what it does not read
alike-in : (c : Client) (r : Heard) (tag : Tag) (a b : Answer) (stage : Stage) (wait : Option Wait) → c.stage ≡ stage → c.wait ≡ wait → request_that_waits c stage ≡ Some r → IsAnswer r a b → client_takes c stage tag a ≡ client_takes c stage tag b
alike-in c r tag a b Opening wait there is waits says = alike c steps.OpenSession a b there (subst (λ (x : Heard). IsAnswer x a b) (same-request r HeardOpen (sym waits)) says)
alike-in c r tag a b Entering wait there is waits says = alike c steps.Login a b there (subst (λ (x : Heard). IsAnswer x a b) (same-request r (HeardCall c.opening_id Login) (sym waits)) says)
alike-in c r tag a b Joining wait there is waits says = alike c steps.Session a b there (subst (λ (x : Heard). IsAnswer x a b) (same-request r (HeardCall c.opening_id (last_body c.token)) (sym waits)) says)
alike-in c r tag a b Ready None there is waits says = absurd (let e : None ≡ Some r = sym (ap waiting_request is) ∙ waits in cc)
alike-in c r tag a b Ready (Some w) there is waits says =
    let same : r ≡ HeardCall w.id (Does w.call) = same-request r (HeardCall w.id (Does w.call)) (sym waits ∙ ap waiting_request is) in
    ap (λ (x : Answer). waiting_taken c c.wait tag x) (subst (λ (x : Heard). IsAnswer x a b) same says)
alike-in c r tag a b Gone wait there is waits says = refl

pub alike-taken : (c : Client) (r : Heard) (tag : Tag) (a b : Answer) → request_that_waits c c.stage ≡ Some r → IsAnswer r a b → client_takes c c.stage tag a ≡ client_takes c c.stage tag b
alike-taken c r tag a b waits says = alike-in c r tag a b c.stage c.wait refl refl waits says

-- ---- what is taken is a reply to it

taken-by : (u : Setup) (c : Client) (found : Option Code) (f : Frame) (r : Heard) (code : Code) (o : Option Taken) (st : Option Step)
    → found ≡ Some code → request_that_waits c c.stage ≡ Some r → IsReplyTo (request_frame u c.opening_id r) f → client_takes c c.stage (tag_in f) (answer_by code f.payload) ≡ o → AreSame u c o st → IfSome st (IsTaken u c found f)
taken-by u c found f r code None None is waits reply takes same = tt
taken-by u c found f r code None (Some st) is waits reply takes same = absurd same
taken-by u c found f r code (Some t) None is waits reply takes same = tt
taken-by u c found f r code (Some t) (Some st) is waits reply takes same = record { code = code; request = r; taken = t; found_is = is; waits = waits; reply = reply; takes = takes; one = same }

-- what comes of a frame that answers
only-answers : (P : Step → Type 0) (b : Bool) (found : Option Code) (does : Code → Option Step) → ((code : Code) → b ≡ true → found ≡ Some code → IfSome (does code) P) → IfSome (if_answers b found does) P
only-answers P true None does each = tt
only-answers P true (Some code) does each = each code refl refl
only-answers P false found does each = tt

opening-only : CountsInRounds → (u : Setup) (c : Client) (s : ClientState) (found : Option Code) (f : Frame) (at_step : OpeningStep) (id retries : ℕ)
    → IsClient u c s → IsStage c.stage c.tries c.opening_id c.token (stages.Opening at_step id retries) → f.reply ≡ true → are_bytes f.payload ≡ true
    → IfSome (takes_reply s (stages.Opening at_step id retries) found f) (IsTaken u c found f)
opening-only counts u c s found f at_step id retries h there reply typed =
    only-answers (IsTaken u c found f) (answers (opening_command at_step) id f) found (λ x. opening_replied s at_step id retries x f.payload)
    (λ code answer is.
    taken-by u c found f (opening_heard c at_step) code (opening_taken c (answer_by code f.payload)) (opening_replied s at_step id retries code f.payload) is (waits-at c at_step there.0)
    (record { reply = reply; same = opening-answers u c s at_step id f h there.1 ∙ answer }) (takes-at c at_step (tag_in f) (answer_by code f.payload) there.0)
    (opening-same counts u c s at_step id retries code f.payload h there.0 there.1 there.2 typed))

ready-only : CountsInRounds → (u : Setup) (c : Client) (s : ClientState) (found : Option Code) (f : Frame) (wait : Option Wait)
    → IsClient u c s → IsStage c.stage c.tries c.opening_id c.token stages.Ready → c.wait ≡ wait → f.reply ≡ true → IfSome (ready_reply s (waiting_of u wait) found f) (IsTaken u c found f)
ready-only counts u c s found f None h there is reply = tt
ready-only counts u c s found f (Some w) h there is reply =
    only-answers (IsTaken u c found f) (answers (its_waiting u w).request.command (its_waiting u w).request.id f) found (λ x. Some (waiting_replied s (its_waiting u w) x f.payload))
    (λ code answer found_is.
    taken-by u c found f (HeardCall w.id (Does w.call)) code (reply_taken c w (answer_by code f.payload)) (Some (waiting_replied s (its_waiting u w) code f.payload)) found_is (waits-ready c (Some w) there.0 is)
    (record { reply = reply; same = answer }) (takes-ready c w (tag_in f) (answer_by code f.payload) there.0 is (its-tag u c s w f h is answer))
    (waiting-same counts u c s w code f.payload h there.1 is))

stage-only : CountsInRounds → (u : Setup) (c : Client) (s : ClientState) (found : Option Code) (f : Frame) (now : real.Stage)
    → IsClient u c s → IsStage c.stage c.tries c.opening_id c.token now → f.reply ≡ true → are_bytes f.payload ≡ true → IfSome (takes_reply s now found f) (IsTaken u c found f)
stage-only counts u c s found f stages.Unlinked h there reply typed = tt
stage-only counts u c s found f (stages.Opening at_step id retries) h there reply typed = opening-only counts u c s found f at_step id retries h there reply typed
stage-only counts u c s found f stages.Ready h there reply typed =
    subst (λ (o : Option Waiting). IfSome (ready_reply s o found f) (IsTaken u c found f)) (sym h.waiting) (ready-only counts u c s found f c.wait h there refl reply)
stage-only counts u c s found f stages.Lost h there reply typed = tt

pub only-replies-are-taken : CountsInRounds → OnlyRepliesAreTaken
only-replies-are-taken counts u c s found f h reply typed =
    subst (λ (b : Bool). IfSome (takes_by b s found f) (IsTaken u c found f)) (sym reply) (stage-only counts u c s found f s.stage h h.stage reply typed)

-- ---- requests of the server

if-both : (P : Step → Type 0) (b : Bool) (x y : Option Step) → IfSome x P → IfSome y P → IfSome (cond b x y) P
if-both P true x y one other = one
if-both P false x y one other = other

request-stays : (s : ClientState) (command : DsiCommand) (f : Frame) → IfSome (takes_request s command f) (Stays s)
request-stays s commands.Tickle f = record { state = refl; writes = tt; untold = refl }
request-stays s commands.CloseSession f = record { state = refl; writes = tt; untold = refl }
request-stays s commands.Attention f = if-both (Stays s) (length f.payload == 2) _ None (record { state = refl; writes = refl; untold = refl }) tt
request-stays s commands.Command f = tt
request-stays s commands.Write f = tt
request-stays s commands.GetStatus f = tt
request-stays s commands.OpenSession f = tt

pub requests-leave-all : RequestsLeaveAll
requests-leave-all s found f is = subst (λ (b : Bool). IfSome (takes_by b s found f) (Stays s)) (sym is) (request-stays s f.command f)
