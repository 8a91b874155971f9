-- All that is under way on the newest link is the client's request that waits, or the reply to it.
use Rattle.std.proofs.Common.{◌≡◌, ◌∙◌, refl, sym, ap, subst, ℕ, suc, Bool, true, false, List, [], ◌∷◌, Option, Some, None}
use Rattle.std.specs.Prelude.{nat_eq, nat_lt, ◌||◌}
use Rattle.std.proofs.lemmas.Bool.{cond_both}
use Rattle.once_across_breaks.specs.once.Messages.{Answer, Body, Call, Does, Fine, Login, MiscErr, NoMemory, Refuses, Rejoin, Token, token_in}
use Rattle.once_across_breaks.specs.once.Server.{Ask, Bye, Calls, Displaced, Entry, Live, Lost, Machine, Open, Opened, Parted, Pulse, Ran, Reply, Told, entry}
use Rattle.once_across_breaks.specs.once.Run.{Asks, Breaks, Client, Coming, Commands, Drains, Ends, Entering, Event, Going, Gone, Idle, Joining, Link, Loses, Opening, Opens, Others, Quiet, Ready, Request, Run, Slot, Stage, ToClient, ToServer, Wait, Wish, again, arrives, begins, blank, breaks, calls, calls_by, chosen, comes, commands, draws, drops, ends_link, holding, id_of, in_stage, last_body, opens, opens_by, opens_told, opens_with, parts, quiet, quiet_by, quiet_told, replies, run_of, same_request, sent_again, stage_anew, start, step, steps_on, takes, takes_for, takes_reply, takes_step, tells, to_client, to_server, token_told, with_client, with_link, with_result, with_slot}
use Rattle.once_across_breaks.specs.once.Frames.{AreThat, AreToThat, Heard, HeardCall, Net, OnlyTheWaiting, heard, request_that_waits, waiting_request}
use Rattle.once_across_breaks.proofs.OfOnce.Steps.{upd}
use Rattle.once_across_breaks.proofs.OfOnce.Events.{set-at}
use Rattle.once_across_breaks.proofs.OfOnce.Carried.{downs, net-is, ups}

abbrev OfSlot : Option Heard → Slot → Type 0
OfSlot o Idle = Unit {0}
OfSlot o (Coming r) = o ≡ Some (heard r)
OfSlot o (Going r a) = o ≡ Some (heard r)

-- unless the client is lost
abbrev WaitsAt : Client → Stage → Slot → Type 0
WaitsAt c Gone slot = Unit {0}
WaitsAt c Opening slot = OfSlot (request_that_waits c Opening) slot
WaitsAt c Entering slot = OfSlot (request_that_waits c Entering) slot
WaitsAt c Joining slot = OfSlot (request_that_waits c Joining) slot
WaitsAt c Ready slot = OfSlot (request_that_waits c Ready) slot

abbrev Waits : {W : Type 0} → Run W → Type 0
Waits run = WaitsAt run.client run.client.stage (run.links run.top).slot

-- ---- a link changes

-- what is under way stays, or a reply takes its request's place, or nothing is left
abbrev Follows : Slot → Slot → Type 0
Follows old new = (o : Option Heard) → OfSlot o old → OfSlot o new

waits-slot : (c : Client) (stage : Stage) (old new : Slot) → Follows old new → WaitsAt c stage old → WaitsAt c stage new
waits-slot c Gone old new f h = tt
waits-slot c Opening old new f h = f (request_that_waits c Opening) h
waits-slot c Entering old new f h = f (request_that_waits c Entering) h
waits-slot c Joining old new f h = f (request_that_waits c Joining) h
waits-slot c Ready old new f h = f (request_that_waits c Ready) h

waits-link : {W : Type 0} (run : Run W) (i : ℕ) (x : Link) → Follows (run.links i).slot x.slot → Waits run → Waits (with_link run i x)
waits-link run i x f h =
    upd run.links i x (λ k y. k ≡ run.top → WaitsAt run.client run.client.stage y.slot)
    (λ e. waits-slot run.client run.client.stage (run.links i).slot x.slot f (subst (λ m. WaitsAt run.client run.client.stage (run.links m).slot) (sym e) h))
    (λ k other e. subst (λ m. WaitsAt run.client run.client.stage (run.links m).slot) (sym e) h) run.top refl

waits-drops : {W : Type 0} (run : Run W) (i : ℕ) → Waits run → Waits (drops run i)
waits-drops run i h = waits-link run i (record { number = (run.links i).number; ended = true; slot = Idle; got = (run.links i).got }) (λ o k. tt) h

waits-ends : {W : Type 0} (run : Run W) (i : ℕ) → Waits run → Waits (ends_link run i)
waits-ends run i h = waits-link run i (record { number = (run.links i).number; ended = true; slot = (run.links i).slot; got = (run.links i).got }) (λ o k. k) h

-- a request is answered
waits-answer : {W : Type 0} (run : Run W) (i : ℕ) (r : Request) (a : Answer) (x : Link) → (run.links i).slot ≡ Coming r → x.slot ≡ Going r a → Waits run → Waits (with_link run i x)
waits-answer run i r a x coming going h = waits-link run i x (λ o k. subst (λ sl. OfSlot o sl) (sym going) (subst (λ sl. OfSlot o sl) coming k)) h

waits-client : {W : Type 0} (run : Run W) (c : Client) (slot : Slot) → WaitsAt c c.stage slot → Waits (with_client run c slot)
waits-client run c slot w = subst (λ (y : Link). WaitsAt c c.stage y.slot) (sym (set-at run.links run.top (with_slot (run.links run.top) slot) run.top refl)) w

-- ---- the client

waits-idle : (c : Client) (stage : Stage) → WaitsAt c stage Idle
waits-idle c Opening = tt
waits-idle c Entering = tt
waits-idle c Joining = tt
waits-idle c Ready = tt
waits-idle c Gone = tt

waits-again : (c : Client) (wait : Option Wait) → c.wait ≡ wait → OfSlot (waiting_request c.wait) (again wait)
waits-again c None is = tt
waits-again c (Some w) is = ap waiting_request is

waits-same : (c : Client) (stage : Stage) → (stage ≡ Ready → ⊥) → WaitsAt (opens_with c stage (suc c.tries)) stage (Coming (same_request c stage))
waits-same c Opening other = refl
waits-same c Entering other = refl
waits-same c Joining other = refl
waits-same c Ready other = absurd (other refl)
waits-same c Gone other = tt

waits-commands : {W : Type 0} (run : Run W) (stage : Stage) (wait : Option Wait) (call : Call) → run.client.stage ≡ stage → Waits run → Waits (commands run stage wait call)
waits-commands run Ready None call is h =
    let c : Client = draws run.client call 0 run.client.row run.client.results in
    let slot : Slot = Coming (Asks (id_of run.client.first run.client.drawn) (Does call) false) in
    waits-client run c slot (subst (λ stage. WaitsAt c stage slot) (sym is) refl)
waits-commands run Ready (Some w) call is h = h
waits-commands run Opening wait call is h = h
waits-commands run Entering wait call is h = h
waits-commands run Joining wait call is h = h
waits-commands run Gone wait call is h = h

waits-token : {W : Type 0} (run : Run W) (token : Option (List ℕ)) → Waits run → Waits (token_told run token)
waits-token run None h = h
waits-token run (Some token) h =
    let x : Link = record { number = (run.links run.top).number; ended = (run.links run.top).ended; slot = again run.client.wait; got = true } in
    subst (λ (y : Link). WaitsAt (holding run.client token) Ready y.slot) (sym (set-at run.links run.top x run.top refl)) (waits-again (holding run.client token) run.client.wait refl)

waits-steps : {W : Type 0} (run : Run W) (stage : Stage) (token : Option (List ℕ)) (block : List ℕ) → run.client.token ≡ token → Waits run → Waits (steps_on run stage token block)
waits-steps run Opening None block is h = waits-client run (opens_with run.client Entering 0) (Coming (Asks (suc run.client.opening_id) Login false)) refl
waits-steps run Opening (Some t) block is h = waits-client run (opens_with run.client Entering 0) (Coming (Asks (suc run.client.opening_id) Login false)) refl
waits-steps run Entering None block is h = waits-client run (opens_with run.client Joining 0) (Coming (Asks (suc run.client.opening_id) Token false)) (ap (λ t. Some (HeardCall (suc run.client.opening_id) (last_body t))) is)
waits-steps run Entering (Some t) block is h = waits-client run (opens_with run.client Joining 0) (Coming (Asks (suc run.client.opening_id) (Rejoin t) false)) (ap (λ t. Some (HeardCall (suc run.client.opening_id) (last_body t))) is)
waits-steps run Joining None block is h = waits-token run (token_in block) h
waits-steps run Joining (Some t) block is h = waits-client run (in_stage run.client Ready) (again run.client.wait) (waits-again run.client run.client.wait refl)
waits-steps run Ready None block is h = h
waits-steps run Ready (Some t) block is h = h
waits-steps run Gone None block is h = h
waits-steps run Gone (Some t) block is h = h

waits-gone : {W : Type 0} (run : Run W) → Waits (with_client run (in_stage run.client Gone) Idle)
waits-gone run = waits-client run (in_stage run.client Gone) Idle tt

waits-opening : {W : Type 0} (run : Run W) (a : Answer) → (run.client.stage ≡ Ready → ⊥) → Waits run → Waits (takes_step run a)
waits-opening run (Fine block) other h = waits-steps run run.client.stage run.client.token block refl h
waits-opening run NoMemory other h =
    cond_both (nat_lt run.client.tries 3) (with_client run (opens_with run.client run.client.stage (suc run.client.tries)) (Coming (same_request run.client run.client.stage))) (with_client run (in_stage run.client Gone) Idle) Waits
    (λ e. waits-client run (opens_with run.client run.client.stage (suc run.client.tries)) (Coming (same_request run.client run.client.stage)) (waits-same run.client run.client.stage other))
    (λ e. waits-gone run)
waits-opening run MiscErr other h = waits-gone run
waits-opening run (Refuses code block) other h = waits-gone run

waits-result : {W : Type 0} (run : Run W) (w : Wait) (a : Answer) → Waits (with_client run (with_result run.client w a) Idle)
waits-result run w a = waits-client run (with_result run.client w a) Idle (waits-idle (with_result run.client w a) run.client.stage)

waits-reply : {W : Type 0} (run : Run W) (w : Wait) (a : Answer) → run.client.stage ≡ Ready → Waits (takes_reply run w a)
waits-reply run w (Fine block) is = waits-result run w (Fine block)
waits-reply run w MiscErr is = waits-result run w MiscErr
waits-reply run w (Refuses code block) is = waits-result run w (Refuses code block)
waits-reply run w NoMemory is =
    let c : Client = sent_again run.client w in
    let slot : Slot = Coming (Asks (id_of run.client.first run.client.drawn) (Does w.call) false) in
    cond_both (nat_lt w.tries 3) (with_client run c slot) (with_client run (with_result run.client w NoMemory) Idle) Waits
    (λ e. waits-client run c slot (subst (λ stage. WaitsAt c stage slot) (sym is) refl))
    (λ e. waits-result run w NoMemory)

waits-for : {W : Type 0} (run : Run W) (wait : Option Wait) (r : Request) (a : Answer) → run.client.stage ≡ Ready → Waits run → Waits (takes_for run wait r a)
waits-for run None r a is h = h
waits-for run (Some w) Opens a is h = h
waits-for run (Some w) (Asks id body mark) a is h = cond_both (nat_eq id w.id) (takes_reply run w a) run Waits (λ e. waits-reply run w a is) (λ e. h)

waits-takes : {W : Type 0} (run : Run W) (stage : Stage) (r : Request) (a : Answer) → run.client.stage ≡ stage → Waits run → Waits (takes run stage r a)
waits-takes run Opening r a is h = waits-opening run a (λ ready. absurd (let e : Opening ≡ Ready = sym is ∙ ready in cc)) h
waits-takes run Entering r a is h = waits-opening run a (λ ready. absurd (let e : Entering ≡ Ready = sym is ∙ ready in cc)) h
waits-takes run Joining r a is h = waits-opening run a (λ ready. absurd (let e : Joining ≡ Ready = sym is ∙ ready in cc)) h
waits-takes run Ready r a is h = waits-for run run.client.wait r a is h
waits-takes run Gone r a is h = h

waits-to-client : {W : Type 0} (run : Run W) (slot : Slot) → Waits run → Waits (to_client run slot)
waits-to-client run Idle h = h
waits-to-client run (Coming r) h = h
waits-to-client run (Going r a) h = waits-takes run run.client.stage r a refl h

-- ---- the server's ends

waits-replies : {W : Type 0} (run : Run W) (i id : ℕ) (body : Body) (mark : Bool) (t : Told) → (run.links i).slot ≡ Coming (Asks id body mark) → Waits run → Waits (replies run i id body mark t)
waits-replies run i id body mark (Reply a ends) coming h =
    waits-answer run i (Asks id body mark) a (record { number = (run.links i).number; ended = ends; slot = Going (Asks id body mark) a; got = (run.links i).got || comes body a }) coming refl h
waits-replies run i id body mark (Opened link) coming h = waits-drops run i h
waits-replies run i id body mark Live coming h = waits-drops run i h
waits-replies run i id body mark Parted coming h = waits-drops run i h
waits-replies run i id body mark Displaced coming h = waits-drops run i h

waits-calls : {W : Type 0} (s : Machine W) (run : Run W) (i link moment : ℕ) (wish : Wish) (id : ℕ) (body : Body) (mark : Bool) → (run.links i).slot ≡ Coming (Asks id body mark) → Waits run → Waits (calls s run i link moment wish id body mark)
waits-calls s run i link moment wish id body mark coming h =
    let e : Entry = chosen s run link moment (Calls id body) wish.fault in
    cond_both wish.memory (with_link run i (with_slot (run.links i) (Going (Asks id body mark) NoMemory))) (calls_by s run i id body mark e) Waits
    (λ f. waits-answer run i (Asks id body mark) NoMemory (with_slot (run.links i) (Going (Asks id body mark) NoMemory)) coming refl h)
    (λ f. waits-replies (tells s run e) i id body mark (s.told run.world e) coming h)

waits-opens-by : {W : Type 0} (run : Run W) (i : ℕ) (t : Told) → (run.links i).slot ≡ Coming Opens → Waits run → Waits (opens_by run i t)
waits-opens-by run i (Opened link) coming h = waits-answer run i Opens (Fine []) (record { number = Some link; ended = (run.links i).ended; slot = Going Opens (Fine []); got = (run.links i).got }) coming refl h
waits-opens-by run i (Reply a ends) coming h = waits-answer run i Opens a (with_slot (run.links i) (Going Opens a)) coming refl h
waits-opens-by run i Live coming h = waits-drops run i h
waits-opens-by run i Parted coming h = waits-drops run i h
waits-opens-by run i Displaced coming h = waits-drops run i h

waits-opens : {W : Type 0} (s : Machine W) (run : Run W) (i moment : ℕ) (memory : Bool) → (run.links i).slot ≡ Coming Opens → Waits run → Waits (opens s run i moment memory)
waits-opens s run i moment memory coming h =
    let e : Entry = entry 0 moment Open Ran in
    cond_both memory (with_link run i (with_slot (run.links i) (Going Opens NoMemory))) (opens_told s run i e) Waits
    (λ f. waits-answer run i Opens NoMemory (with_slot (run.links i) (Going Opens NoMemory)) coming refl h)
    (λ f. waits-opens-by (tells s run e) i (s.told run.world e) coming h)

waits-arrives : {W : Type 0} (s : Machine W) (run : Run W) (i moment : ℕ) (wish : Wish) (number : Option ℕ) (slot : Slot) → (run.links i).slot ≡ slot → Waits run → Waits (arrives s run i moment wish number slot)
waits-arrives s run i moment wish None Idle is h = h
waits-arrives s run i moment wish (Some link) Idle is h = h
waits-arrives s run i moment wish None (Going r a) is h = h
waits-arrives s run i moment wish (Some link) (Going r a) is h = h
waits-arrives s run i moment wish None (Coming Opens) is h =
    let e : Entry = entry 0 moment Pulse Ran in
    cond_both wish.no_sweep run (tells s run e) (λ r. Waits (opens s r i moment wish.memory)) (λ f. waits-opens s run i moment wish.memory is h) (λ f. waits-opens s (tells s run e) i moment wish.memory is h)
waits-arrives s run i moment wish (Some link) (Coming Opens) is h = waits-drops run i h
waits-arrives s run i moment wish None (Coming (Asks id body mark)) is h = waits-drops run i h
waits-arrives s run i moment wish (Some link) (Coming (Asks id body mark)) is h = waits-calls s run i link moment wish id body mark is h

waits-to-server : {W : Type 0} (s : Machine W) (run : Run W) (i moment : ℕ) (wish : Wish) (ended : Bool) → Waits run → Waits (to_server s run i moment wish ended)
waits-to-server s run i moment wish true h = h
waits-to-server s run i moment wish false h = waits-arrives s run i moment wish (run.links i).number (run.links i).slot refl h

waits-quiet-by : {W : Type 0} (run : Run W) (i : ℕ) (t : Told) → Waits run → Waits (quiet_by run i t)
waits-quiet-by run i Displaced h = waits-ends run i h
waits-quiet-by run i (Opened link) h = h
waits-quiet-by run i (Reply a ends) h = h
waits-quiet-by run i Live h = h
waits-quiet-by run i Parted h = h

waits-quiet : {W : Type 0} (s : Machine W) (run : Run W) (i moment : ℕ) (wish : Wish) (ended : Bool) (number : Option ℕ) → Waits run → Waits (quiet s run i moment wish ended number)
waits-quiet s run i moment wish true number h = h
waits-quiet s run i moment wish false None h = h
waits-quiet s run i moment wish false (Some link) h =
    let e : Entry = entry link moment Pulse Ran in
    cond_both wish.memory run (quiet_told s run i e) Waits (λ f. h) (λ f. waits-quiet-by (tells s run e) i (s.told run.world e) h)

waits-parts : {W : Type 0} (s : Machine W) (run : Run W) (i moment : ℕ) (wish : Wish) (ask : Ask) (ended : Bool) (number : Option ℕ) → Waits run → Waits (parts s run i moment wish ask ended number)
waits-parts s run i moment wish ask true number h = h
waits-parts s run i moment wish ask false None h = waits-ends run i h
waits-parts s run i moment wish ask false (Some link) h =
    cond_both wish.memory run (tells s run (entry link moment ask Ran)) (λ r. Waits (ends_link r i)) (λ f. waits-ends run i h) (λ f. waits-ends (tells s run (entry link moment ask Ran)) i h)

waits-anew : (c : Client) (stage : Stage) → WaitsAt c (stage_anew stage) (Coming Opens)
waits-anew c Opening = refl
waits-anew c Entering = refl
waits-anew c Joining = refl
waits-anew c Ready = refl
waits-anew c Gone = tt

waits-breaks : {W : Type 0} (run : Run W) → Waits (breaks run)
waits-breaks run =
    let x : Link = with_slot blank (Coming Opens) in
    subst (λ (y : Link). WaitsAt (begins run.client) (stage_anew run.client.stage) y.slot) (sym (set-at run.links (suc run.top) x (suc run.top) refl)) (waits-anew (begins run.client) run.client.stage)

waits-step : {W : Type 0} (s : Machine W) (run : Run W) (e : Event) → Waits run → Waits (step s run e)
waits-step s run (Commands call) h = waits-commands run run.client.stage run.client.wait call refl h
waits-step s run (ToServer i moment wish) h = waits-to-server s run i moment wish (run.links i).ended h
waits-step s run ToClient h = waits-to-client run (run.links run.top).slot h
waits-step s run (Quiet i moment wish) h = waits-quiet s run i moment wish (run.links i).ended (run.links i).number h
waits-step s run (Loses i moment wish) h = waits-parts s run i moment wish Lost (run.links i).ended (run.links i).number h
waits-step s run (Drains i moment wish) h = waits-parts s run i moment wish Bye (run.links i).ended (run.links i).number h
waits-step s run (Ends i) h = waits-ends run i h
waits-step s run Breaks h = waits-breaks run
waits-step s run (Others e) h = h

waits-run : {W : Type 0} (s : Machine W) (run : Run W) (events : List Event) → Waits run → Waits (run_of s run events)
waits-run s run [] h = h
waits-run s run (e ∷ es) h = waits-run s (step s run e) es (waits-step s run e h)

-- ---- over lists of frames

of-lists : (o : Option Heard) (slot : Slot) → OfSlot o slot → AreThat o (ups slot) × AreToThat o (downs slot)
of-lists o Idle h = (tt, tt)
of-lists o (Coming r) h = ((h, tt), tt)
of-lists o (Going r a) h = (tt, (h, tt))

at-lists : (c : Client) (stage : Stage) (slot : Slot) → WaitsAt c stage slot → (stage ≡ Gone → ⊥) → AreThat (request_that_waits c stage) (ups slot) × AreToThat (request_that_waits c stage) (downs slot)
at-lists c Opening slot h other = of-lists (request_that_waits c Opening) slot h
at-lists c Entering slot h other = of-lists (request_that_waits c Entering) slot h
at-lists c Joining slot h other = of-lists (request_that_waits c Joining) slot h
at-lists c Ready slot h other = of-lists (request_that_waits c Ready) slot h
at-lists c Gone slot h other = absurd (other refl)

pub only-the-waiting : {W : Type 0} (s : Machine W) → OnlyTheWaiting s
only-the-waiting {W} s w events =
    subst (λ (net : Net W). (net.client.stage ≡ Gone → ⊥) → AreThat (request_that_waits net.client net.client.stage) (net.links net.top).up × AreToThat (request_that_waits net.client net.client.stage) (net.links net.top).down)
    (net-is s w events) (at-lists run.client run.client.stage (run.links run.top).slot (waits-run s (start w) events refl))
  where
    run : Run W
    run = run_of s (start w) events
