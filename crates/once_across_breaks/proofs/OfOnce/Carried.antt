-- On each link at most one frame is under way: so lists of frames and slots are one.
use Rattle.std.proofs.Common.{◌≡◌, ◌∙◌, refl, sym, ap, subst, ℕ, suc, Bool, true, false, cond, List, [], ◌∷◌, ◌++◌, length, ◌+◌, ◌≤◌, ◌<◌, arith, Option, Some, None, append-nil, append_assoc}
use Rattle.std.specs.Prelude.{nat_eq, nat_lt, ◌||◌}
use Rattle.once_across_breaks.specs.once.Messages.{token_in}
use Rattle.once_across_breaks.specs.once.Messages.{Call, Body, Login, Token, Rejoin, Does, Answer, Fine, MiscErr, NoMemory, Refuses}
use Rattle.once_across_breaks.specs.once.Server.{set, Ask, Open, Calls, Pulse, Bye, Lost, Told, Opened, Reply, Live, Parted, Displaced, Ran, Entry, entry, Machine}
use Rattle.once_across_breaks.specs.once.Run.{token_told, Request, Opens, Asks, Slot, Idle, Coming, Going, Link, blank, Stage, Opening, Entering, Joining, Ready, Gone, Wait, Client, Run, Wish, Event, Commands, ToServer, ToClient, Quiet, Loses, Drains, Ends, Breaks, Others, id_of, with_slot, with_link, with_client, tells, ends_link, drops, replies, calls_by, calls, sweeps, opens_by, opens_told, opens, arrives, to_server, quiet_by, quiet, parts, commands, draws, opens_with, in_stage, holding, again, same_request, steps_on, takes_step, with_result, sent_again, takes_reply, takes_for, takes, to_client, stage_anew, begins, breaks, step, run_of, start}
use Rattle.once_across_breaks.specs.once.Frames.{HeardOpen, HeardCall, heard, tag_of, token_taken, End, Handled, dropped, replied, call_told, call_entry, call_by, handles_call, open_told, handles_open, handles, Taken, wrote, again_writes, step_taken, opening_taken, reply_taken, waiting_taken, client_takes, Carrier, Net, fresh_end, net_tells, net_ends, net_commands, replies_of, net_handled, net_arrives, net_to_server, net_taken, net_to_client, net_breaks, net_quiet_by, net_quiet, net_parts, net_step, net_run, net_start}
use Rattle.once_across_breaks.specs.once.Once.{is_again, Allowed, AllAllowed, OnceInOrder}
use Rattle.once_across_breaks.specs.once.Frames.{is_again_first, NetAllowed, AllNetAllowed, NetOnce, CommandsOnceCarried, OneFrame}
use Rattle.once_across_breaks.specs.once.Server.{Server}
use Rattle.once_across_breaks.proofs.OfOnce.Theorem.{commands-once}
use Rattle.once_across_breaks.proofs.OfOnce.Steps.{upd}
use Rattle.once_across_breaks.proofs.OfOnce.Events.{set-at}

-- ---- a client that may ask has nothing under way on its newest link

abbrev pub LockedAt : Stage → Option Wait → Slot → Type 0
LockedAt Ready None slot = slot ≡ Idle
LockedAt Ready (Some w) slot = Unit {0}
LockedAt Opening wait slot = Unit {0}
LockedAt Entering wait slot = Unit {0}
LockedAt Joining wait slot = Unit {0}
LockedAt Gone wait slot = Unit {0}

abbrev pub Locked : {W : Type 0} → Run W → Type 0
Locked run = LockedAt run.client.stage run.client.wait (run.links run.top).slot

locked-idle : (stage : Stage) (wait : Option Wait) → LockedAt stage wait Idle
locked-idle Ready None = refl
locked-idle Ready (Some w) = tt
locked-idle Opening wait = tt
locked-idle Entering wait = tt
locked-idle Joining wait = tt
locked-idle Gone wait = tt

locked-busy : (stage : Stage) (wait : Option Wait) (r : Request) (x : Slot) → LockedAt stage wait (Coming r) → LockedAt stage wait x
locked-busy Ready None r x l = absurd (let e : Coming r ≡ Idle = l in cc)
locked-busy Ready (Some w) r x l = tt
locked-busy Opening wait r x l = tt
locked-busy Entering wait r x l = tt
locked-busy Joining wait r x l = tt
locked-busy Gone wait r x l = tt

locked-some : (stage : Stage) (w : Wait) (x : Slot) → LockedAt stage (Some w) x
locked-some Ready w x = tt
locked-some Opening w x = tt
locked-some Entering w x = tt
locked-some Joining w x = tt
locked-some Gone w x = tt

locked-other : (stage : Stage) (wait : Option Wait) (x : Slot) → (stage ≡ Ready → ⊥) → LockedAt stage wait x
locked-other Ready wait x other = absurd (other refl)
locked-other Opening wait x other = tt
locked-other Entering wait x other = tt
locked-other Joining wait x other = tt
locked-other Gone wait x other = tt

locked-again : (wait : Option Wait) → LockedAt Ready wait (again wait)
locked-again None = refl
locked-again (Some w) = tt

locked-anew : (stage : Stage) (wait : Option Wait) (x : Slot) → LockedAt (stage_anew stage) wait x
locked-anew Ready wait x = tt
locked-anew Opening wait x = tt
locked-anew Entering wait x = tt
locked-anew Joining wait x = tt
locked-anew Gone wait x = tt

locked-link : {W : Type 0} (run : Run W) (i : ℕ) (x : Link) → (i ≡ run.top → LockedAt run.client.stage run.client.wait x.slot) → Locked run → Locked (with_link run i x)
locked-link run i x here l = upd run.links i x (λ k y. k ≡ run.top → LockedAt run.client.stage run.client.wait y.slot) here (λ k other e. subst (λ m. LockedAt run.client.stage run.client.wait (run.links m).slot) (sym e) l) run.top refl

-- where a request is coming anything may take its place
locked-coming : {W : Type 0} (run : Run W) (i : ℕ) (r : Request) (x : Link) → (run.links i).slot ≡ Coming r → Locked run → Locked (with_link run i x)
locked-coming run i r x coming l = locked-link run i x (λ e. locked-busy run.client.stage run.client.wait r x.slot (subst (λ sl. LockedAt run.client.stage run.client.wait sl) (ap (λ m. (run.links m).slot) (sym e) ∙ coming) l)) l

locked-ends : {W : Type 0} (run : Run W) (i : ℕ) → Locked run → Locked (ends_link run i)
locked-ends run i l = locked-link run i (record { number = (run.links i).number; ended = true; slot = (run.links i).slot; got = (run.links i).got }) (λ e. subst (λ m. LockedAt run.client.stage run.client.wait (run.links m).slot) (sym e) l) l

locked-client : {W : Type 0} (run : Run W) (c : Client) (x : Slot) → LockedAt c.stage c.wait x → Locked (with_client run c x)
locked-client run c x l = subst (λ (y : Link). LockedAt c.stage c.wait y.slot) (sym (set-at run.links run.top (with_slot (run.links run.top) x) run.top refl)) l

-- ---- seen as lists

abbrev pub ups : Slot → List Request
ups Idle = []
ups (Coming r) = r ∷ []
ups (Going r a) = []

abbrev pub downs : Slot → List (Request × Answer)
downs Idle = []
downs (Coming r) = []
downs (Going r a) = (r, a) ∷ []

abbrev pub end_of : Link → End
end_of l = record { number = l.number; ended = l.ended; got = l.got }

abbrev pub flat_link : Link → Carrier
flat_link l = record { end = end_of l; up = ups l.slot; down = downs l.slot }

abbrev pub flat : {W : Type 0} → Run W → Net W
flat run = record { client = run.client; top = run.top; links = λ j. flat_link (run.links j); world = run.world; history = run.history }

pub cond-map : {A B : Type 0} (f : A → B) (b : Bool) (x y : A) → f (cond b x y) ≡ cond b (f x) (f y)
cond-map f true x y = refl
cond-map f false x y = refl

-- a link changes in both
flat-set : (links : ℕ → Link) (i : ℕ) (x : Link) (c : Carrier) → flat_link x ≡ c → (j : ℕ) → flat_link (set links i x j) ≡ set (λ k. flat_link (links k)) i c j
flat-set links i x c e j = cond-map flat_link (nat_eq j i) x (links j) ∙ ap (λ y. cond (nat_eq j i) y (flat_link (links j))) e

or-none : (b : Bool) → (b || false) ≡ b
or-none true = refl
or-none false = refl

or-true : (b : Bool) → (b || true) ≡ true
or-true true = refl
or-true false = refl

-- the client takes what is there and writes
taken-flat : {W : Type 0} (run : Run W) (r : Request) (a : Answer) (c : Client) (x : Slot) (writes : List Request) → (run.links run.top).slot ≡ Going r a → ups x ≡ writes → downs x ≡ []
    → flat (with_client run c x) ≡ net_taken (flat run) [] (wrote c writes)
taken-flat run r a c x writes going up down =
    let link : Link = run.links run.top in
    λ k. record {
      client = c;
      top = run.top;
      world = run.world;
      history = run.history;
      links = λ j. flat-set run.links run.top (with_slot link x)
          (record { end = record { number = link.number; ended = link.ended; got = link.got || false }; up = ups link.slot ++ writes; down = [] })
          (λ m. record { end = record { number = link.number; ended = link.ended; got = sym (or-none link.got) m }; up = (up ∙ ap (λ sl. ups sl ++ writes) (sym going)) m; down = down m }) j k;
    }

again-ups : (wait : Option Wait) → ups (again wait) ≡ again_writes wait
again-ups None = refl
again-ups (Some w) = refl

again-downs : (wait : Option Wait) → downs (again wait) ≡ []
again-downs None = refl
again-downs (Some w) = refl

-- what the client takes, in both, and that it stays locked
record Both {W : Type 0} (run : Run W) (next : Run W) (taken : Option Taken) : Type 0 where
  same : flat next ≡ net_taken (flat run) [] taken
  locked : Locked next

both-client : {W : Type 0} (run : Run W) (r : Request) (a : Answer) (c : Client) (x : Slot) (writes : List Request) → (run.links run.top).slot ≡ Going r a → ups x ≡ writes → downs x ≡ [] → LockedAt c.stage c.wait x → Both run (with_client run c x) (wrote c writes)
both-client run r a c x writes going up down l = record { same = taken-flat run r a c x writes going up down; locked = locked-client run c x l }

both-cond : {W : Type 0} (run : Run W) (b : Bool) (x y : Run W) (s t : Option Taken) → Both run x s → Both run y t → Both run (cond b x y) (cond b s t)
both-cond run true x y s t p q = p
both-cond run false x y s t p q = q

gone-both : {W : Type 0} (run : Run W) (r : Request) (a : Answer) → (run.links run.top).slot ≡ Going r a → Both run (with_client run (in_stage run.client Gone) Idle) (wrote (in_stage run.client Gone) [])
gone-both run r a going = both-client run r a (in_stage run.client Gone) Idle [] going refl refl tt

-- it is told a token, or the block shows none
token-both : {W : Type 0} (run : Run W) (r : Request) (b : List ℕ) (token : Option (List ℕ)) → Locked run → (run.links run.top).slot ≡ Going r (Fine b) → Both run (token_told run token) (token_taken run.client token)
token-both run r b None l going = record { same = refl; locked = l }
token-both run r b (Some token) l going =
    let link : Link = run.links run.top in
    let x : Link = record { number = link.number; ended = link.ended; slot = again run.client.wait; got = true } in
    record {
      same = λ k. record {
        client = holding run.client token;
        top = run.top;
        world = run.world;
        history = run.history;
        links = λ j. flat-set run.links run.top x
            (record { end = record { number = link.number; ended = link.ended; got = link.got || true }; up = ups link.slot ++ again_writes run.client.wait; down = [] })
            (λ m. record { end = record { number = link.number; ended = link.ended; got = sym (or-true link.got) m }; up = (again-ups run.client.wait ∙ ap (λ sl. ups sl ++ again_writes run.client.wait) (sym going)) m; down = again-downs run.client.wait m }) j k;
      };
      locked = subst (λ (y : Link). LockedAt Ready run.client.wait y.slot) (sym (set-at run.links run.top x run.top refl)) (locked-again run.client.wait);
    }

steps-both : {W : Type 0} (run : Run W) (r : Request) (b : List ℕ) (stage : Stage) (token : Option (List ℕ)) → (stage ≡ Ready → ⊥) → Locked run → (run.links run.top).slot ≡ Going r (Fine b) → Both run (steps_on run stage token b) (step_taken run.client stage token b)
steps-both run r b Opening None other l going = both-client run r (Fine b) (opens_with run.client Entering 0) (Coming (Asks (suc run.client.opening_id) Login false)) (Asks (suc run.client.opening_id) Login false ∷ []) going refl refl tt
steps-both run r b Opening (Some t) other l going = both-client run r (Fine b) (opens_with run.client Entering 0) (Coming (Asks (suc run.client.opening_id) Login false)) (Asks (suc run.client.opening_id) Login false ∷ []) going refl refl tt
steps-both run r b Entering None other l going = both-client run r (Fine b) (opens_with run.client Joining 0) (Coming (Asks (suc run.client.opening_id) Token false)) (Asks (suc run.client.opening_id) Token false ∷ []) going refl refl tt
steps-both run r b Entering (Some t) other l going = both-client run r (Fine b) (opens_with run.client Joining 0) (Coming (Asks (suc run.client.opening_id) (Rejoin t) false)) (Asks (suc run.client.opening_id) (Rejoin t) false ∷ []) going refl refl tt
steps-both run r b Joining None other l going = token-both run r b (token_in b) l going
steps-both run r b Joining (Some t) other l going = both-client run r (Fine b) (in_stage run.client Ready) (again run.client.wait) (again_writes run.client.wait) going (again-ups run.client.wait) (again-downs run.client.wait) (locked-again run.client.wait)
steps-both run r b Ready None other l going = absurd (other refl)
steps-both run r b Ready (Some t) other l going = absurd (other refl)
steps-both run r b Gone None other l going = record { same = refl; locked = l }
steps-both run r b Gone (Some t) other l going = record { same = refl; locked = l }

opening-both : {W : Type 0} (run : Run W) (r : Request) (a : Answer) → (run.client.stage ≡ Ready → ⊥) → Locked run → (run.links run.top).slot ≡ Going r a → Both run (takes_step run a) (opening_taken run.client a)
opening-both run r (Fine b) other l going = steps-both run r b run.client.stage run.client.token other l going
opening-both run r NoMemory other l going =
    both-cond run (nat_lt run.client.tries 3) (with_client run (opens_with run.client run.client.stage (suc run.client.tries)) (Coming (same_request run.client run.client.stage))) (with_client run (in_stage run.client Gone) Idle)
    (wrote (opens_with run.client run.client.stage (suc run.client.tries)) (same_request run.client run.client.stage ∷ [])) (wrote (in_stage run.client Gone) [])
    (both-client run r NoMemory (opens_with run.client run.client.stage (suc run.client.tries)) (Coming (same_request run.client run.client.stage)) (same_request run.client run.client.stage ∷ []) going refl refl (locked-other run.client.stage run.client.wait (Coming (same_request run.client run.client.stage)) other))
    (gone-both run r NoMemory going)
opening-both run r MiscErr other l going = gone-both run r MiscErr going
opening-both run r (Refuses code block) other l going = gone-both run r (Refuses code block) going

result-both : {W : Type 0} (run : Run W) (r : Request) (w : Wait) (a : Answer) → (run.links run.top).slot ≡ Going r a → Both run (with_client run (with_result run.client w a) Idle) (wrote (with_result run.client w a) [])
result-both run r w a going = both-client run r a (with_result run.client w a) Idle [] going refl refl (locked-idle run.client.stage None)

reply-both : {W : Type 0} (run : Run W) (r : Request) (w : Wait) (a : Answer) → (run.links run.top).slot ≡ Going r a → Both run (takes_reply run w a) (reply_taken run.client w a)
reply-both run r w (Fine b) going = result-both run r w (Fine b) going
reply-both run r w MiscErr going = result-both run r w MiscErr going
reply-both run r w (Refuses code block) going = result-both run r w (Refuses code block) going
reply-both run r w NoMemory going =
    let again : Request = Asks (id_of run.client.first run.client.drawn) (Does w.call) false in
    both-cond run (nat_lt w.tries 3) (with_client run (sent_again run.client w) (Coming again)) (with_client run (with_result run.client w NoMemory) Idle) (wrote (sent_again run.client w) (again ∷ [])) (wrote (with_result run.client w NoMemory) [])
    (both-client run r NoMemory (sent_again run.client w) (Coming again) (again ∷ []) going refl refl (locked-some run.client.stage (record { id = id_of run.client.first run.client.drawn; seq = run.client.drawn; call = w.call; tries = suc w.tries }) (Coming again)))
    (result-both run r w NoMemory going)

waiting-both : {W : Type 0} (run : Run W) (wait : Option Wait) (r : Request) (a : Answer) → Locked run → (run.links run.top).slot ≡ Going r a → Both run (takes_for run wait r a) (waiting_taken run.client wait (tag_of (heard r)) a)
waiting-both run None r a l going = record { same = refl; locked = l }
waiting-both run (Some w) Opens a l going = record { same = refl; locked = l }
waiting-both run (Some w) (Asks id body again) a l going = both-cond run (nat_eq id w.id) (takes_reply run w a) run (reply_taken run.client w a) None (reply-both run (Asks id body again) w a going) (record { same = refl; locked = l })

takes-both : {W : Type 0} (run : Run W) (stage : Stage) (r : Request) (a : Answer) → run.client.stage ≡ stage → Locked run → (run.links run.top).slot ≡ Going r a → Both run (takes run stage r a) (client_takes run.client stage (tag_of (heard r)) a)
takes-both run Opening r a is l going = opening-both run r a (λ ready. absurd (let e : Opening ≡ Ready = sym is ∙ ready in cc)) l going
takes-both run Entering r a is l going = opening-both run r a (λ ready. absurd (let e : Entering ≡ Ready = sym is ∙ ready in cc)) l going
takes-both run Joining r a is l going = opening-both run r a (λ ready. absurd (let e : Joining ≡ Ready = sym is ∙ ready in cc)) l going
takes-both run Ready r a is l going = waiting-both run run.client.wait r a l going
takes-both run Gone r a is l going = record { same = refl; locked = l }

-- what one event does, in both
pub record Same {W : Type 0} (next : Run W) (net : Net W) : Type 0 where
  pub same : flat next ≡ net
  pub locked : Locked next

to-client-same : {W : Type 0} (run : Run W) (slot : Slot) → (run.links run.top).slot ≡ slot → Locked run → Same (to_client run slot) (net_to_client (flat run) (downs slot))
to-client-same run Idle is l = record { same = refl; locked = l }
to-client-same run (Coming r) is l = record { same = refl; locked = l }
to-client-same run (Going r a) is l = let b = takes-both run run.client.stage r a refl l is in record { same = b.same; locked = b.locked }

commands-same : {W : Type 0} (run : Run W) (stage : Stage) (wait : Option Wait) (call : Call) → run.client.stage ≡ stage → run.client.wait ≡ wait → Locked run → Same (commands run stage wait call) (net_commands (flat run) stage wait call)
commands-same run Ready None call ready none l =
    let link : Link = run.links run.top in
    let r : Request = Asks (id_of run.client.first run.client.drawn) (Does call) false in
    let c : Client = draws run.client call 0 run.client.row run.client.results in
    let idle : link.slot ≡ Idle = subst (λ (y : Stage × Option Wait). LockedAt y.0 y.1 link.slot) (λ k. (ready k, none k)) l in
    record {
      same = λ k. record {
        client = c;
        top = run.top;
        world = run.world;
        history = run.history;
        links = λ j. flat-set run.links run.top (with_slot link (Coming r)) (record { end = end_of link; up = ups link.slot ++ r ∷ []; down = downs link.slot })
            (λ m. record { end = end_of link; up = ups (sym idle m) ++ r ∷ []; down = downs (sym idle m) }) j k;
      };
      locked = locked-client run c (Coming r) (locked-some run.client.stage (record { id = id_of run.client.first run.client.drawn; seq = run.client.drawn; call = call; tries = 0 }) (Coming r));
    }
commands-same run Ready (Some w) call ready waits l = record { same = refl; locked = l }
commands-same run Opening wait call is waits l = record { same = refl; locked = l }
commands-same run Entering wait call is waits l = record { same = refl; locked = l }
commands-same run Joining wait call is waits l = record { same = refl; locked = l }
commands-same run Gone wait call is waits l = record { same = refl; locked = l }

-- ---- the server's ends

abbrev reply_slot : Request → Option Answer → Slot
reply_slot r None = Idle
reply_slot r (Some a) = Going r a

reply-ups : (r : Request) (o : Option Answer) → ups (reply_slot r o) ≡ []
reply-ups r None = refl
reply-ups r (Some a) = refl

reply-downs : (r : Request) (o : Option Answer) → downs (reply_slot r o) ≡ replies_of r o
reply-downs r None = refl
reply-downs r (Some a) = refl

-- the run behind what a request did
abbrev handled : {W : Type 0} → Run W → ℕ → Request → Handled W → List Entry → Run W
handled run i r h history = record { client = run.client; top = run.top; links = set run.links i (record { number = h.end.number; ended = h.end.ended; slot = reply_slot r h.reply; got = h.end.got }); world = h.world; history = history }

handled-same : {W : Type 0} (run : Run W) (i : ℕ) (r : Request) (h : Handled W) (history : List Entry) → (run.links i).slot ≡ Coming r → history ≡ run.history ++ h.entries → Locked run → Same (handled run i r h history) (net_handled (flat run) i r [] h)
handled-same run i r h history coming is l =
    let x : Link = record { number = h.end.number; ended = h.end.ended; slot = reply_slot r h.reply; got = h.end.got } in
    record {
      same = λ k. record {
        client = run.client;
        top = run.top;
        world = h.world;
        history = is k;
        links = λ j. flat-set run.links i x (record { end = h.end; up = []; down = downs (run.links i).slot ++ replies_of r h.reply })
            (λ m. record { end = h.end; up = reply-ups r h.reply m; down = (reply-downs r h.reply ∙ ap (λ sl. downs sl ++ replies_of r h.reply) (sym coming)) m }) j k;
      };
      locked = locked-coming run i r x coming l;
    }

cond-same : {W : Type 0} (run : Run W) (i : ℕ) (r : Request) (b : Bool) (x y : Run W) (g h : Handled W) → Same x (net_handled (flat run) i r [] g) → Same y (net_handled (flat run) i r [] h) → Same (cond b x y) (net_handled (flat run) i r [] (cond b g h))
cond-same run i r true x y g h p q = p
cond-same run i r false x y g h p q = q

call-told-same : {W : Type 0} (s : Machine W) (run : Run W) (i id : ℕ) (body : Body) (again : Bool) (e : Entry) (t : Told) → (run.links i).slot ≡ Coming (Asks id body again) → Locked run
    → Same (replies (tells s run e) i id body again t) (net_handled (flat run) i (Asks id body again) [] (call_told (s.after run.world e) (e ∷ []) (end_of (run.links i)) body t))
call-told-same s run i id body again e (Reply a ends) coming l = handled-same run i (Asks id body again) (call_told (s.after run.world e) (e ∷ []) (end_of (run.links i)) body (Reply a ends)) (run.history ++ e ∷ []) coming refl l
call-told-same s run i id body again e (Opened link) coming l = handled-same run i (Asks id body again) (dropped (s.after run.world e) (e ∷ []) (end_of (run.links i))) (run.history ++ e ∷ []) coming refl l
call-told-same s run i id body again e Live coming l = handled-same run i (Asks id body again) (dropped (s.after run.world e) (e ∷ []) (end_of (run.links i))) (run.history ++ e ∷ []) coming refl l
call-told-same s run i id body again e Parted coming l = handled-same run i (Asks id body again) (dropped (s.after run.world e) (e ∷ []) (end_of (run.links i))) (run.history ++ e ∷ []) coming refl l
call-told-same s run i id body again e Displaced coming l = handled-same run i (Asks id body again) (dropped (s.after run.world e) (e ∷ []) (end_of (run.links i))) (run.history ++ e ∷ []) coming refl l

calls-same : {W : Type 0} (s : Machine W) (run : Run W) (i link moment : ℕ) (wish : Wish) (id : ℕ) (body : Body) (again : Bool) → (run.links i).slot ≡ Coming (Asks id body again) → Locked run
    → Same (calls s run i link moment wish id body again) (net_handled (flat run) i (Asks id body again) [] (handles_call s run.world moment wish (end_of (run.links i)) link id body))
calls-same s run i link moment wish id body again coming l =
    let e : Entry = call_entry s run.world link moment (Calls id body) wish.fault in
    cond-same run i (Asks id body again) wish.memory (with_link run i (with_slot (run.links i) (Going (Asks id body again) NoMemory))) (calls_by s run i id body again e)
    (replied run.world [] (end_of (run.links i)) NoMemory) (call_by s run.world (end_of (run.links i)) body e)
    (handled-same run i (Asks id body again) (replied run.world [] (end_of (run.links i)) NoMemory) run.history coming (sym (append-nil run.history)) l)
    (call-told-same s run i id body again e (s.told run.world e) coming l)

-- OpenSession, behind the sweep or not: the run that is behind it has the links of the first
open-told-same : {W : Type 0} (s : Machine W) (run : Run W) (w : W) (swept : List Entry) (i : ℕ) (e : Entry) (t : Told) → (run.links i).slot ≡ Coming Opens → Locked run
    → Same (opens_by (record { client = run.client; top = run.top; links = run.links; world = s.after w e; history = (run.history ++ swept) ++ e ∷ [] }) i t) (net_handled (flat run) i Opens [] (open_told (s.after w e) (swept ++ e ∷ []) (end_of (run.links i)) t))
open-told-same s run w swept i e (Opened link) coming l = handled-same run i Opens (open_told (s.after w e) (swept ++ e ∷ []) (end_of (run.links i)) (Opened link)) ((run.history ++ swept) ++ e ∷ []) coming (append_assoc run.history swept (e ∷ [])) l
open-told-same s run w swept i e (Reply a ends) coming l = handled-same run i Opens (replied (s.after w e) (swept ++ e ∷ []) (end_of (run.links i)) a) ((run.history ++ swept) ++ e ∷ []) coming (append_assoc run.history swept (e ∷ [])) l
open-told-same s run w swept i e Live coming l = handled-same run i Opens (dropped (s.after w e) (swept ++ e ∷ []) (end_of (run.links i))) ((run.history ++ swept) ++ e ∷ []) coming (append_assoc run.history swept (e ∷ [])) l
open-told-same s run w swept i e Parted coming l = handled-same run i Opens (dropped (s.after w e) (swept ++ e ∷ []) (end_of (run.links i))) ((run.history ++ swept) ++ e ∷ []) coming (append_assoc run.history swept (e ∷ [])) l
open-told-same s run w swept i e Displaced coming l = handled-same run i Opens (dropped (s.after w e) (swept ++ e ∷ []) (end_of (run.links i))) ((run.history ++ swept) ++ e ∷ []) coming (append_assoc run.history swept (e ∷ [])) l

opens-same : {W : Type 0} (s : Machine W) (run : Run W) (w : W) (swept : List Entry) (i moment : ℕ) (wish : Wish) → (run.links i).slot ≡ Coming Opens → Locked run
    → Same (opens s (record { client = run.client; top = run.top; links = run.links; world = w; history = run.history ++ swept }) i moment wish.memory) (net_handled (flat run) i Opens [] (handles_open s w swept moment wish (end_of (run.links i))))
opens-same {W} s run w swept i moment wish coming l =
    let e : Entry = entry 0 moment Open Ran in
    let mid : Run W = record { client = run.client; top = run.top; links = run.links; world = w; history = run.history ++ swept } in
    cond-same run i Opens wish.memory (with_link mid i (with_slot (run.links i) (Going Opens NoMemory))) (opens_told s mid i e)
    (replied w swept (end_of (run.links i)) NoMemory) (open_told (s.after w e) (swept ++ e ∷ []) (end_of (run.links i)) (s.told w e))
    (handled-same run i Opens (replied w swept (end_of (run.links i)) NoMemory) (run.history ++ swept) coming refl l)
    (open-told-same s run w swept i e (s.told w e) coming l)

arrives-same : {W : Type 0} (s : Machine W) (run : Run W) (i moment : ℕ) (wish : Wish) (number : Option ℕ) (slot : Slot) → (run.links i).slot ≡ slot → (run.links i).number ≡ number → Locked run
    → Same (arrives s run i moment wish number slot) (net_arrives s (flat run) i moment wish (ups slot))
arrives-same s run i moment wish None Idle is number l = record { same = refl; locked = l }
arrives-same s run i moment wish (Some link) Idle is number l = record { same = refl; locked = l }
arrives-same s run i moment wish None (Going r a) is number l = record { same = refl; locked = l }
arrives-same s run i moment wish (Some link) (Going r a) is number l = record { same = refl; locked = l }
arrives-same s run i moment wish None (Coming Opens) coming number l =
    subst (λ o. Same (opens s (sweeps s run 0 moment wish.no_sweep) i moment wish.memory) (net_handled (flat run) i Opens [] (handles s run.world moment wish (end_of (run.links i)) o HeardOpen))) (sym number)
    (by wish.no_sweep)
  where
    e : Entry
    e = entry 0 moment Pulse Ran

    by : (b : Bool) → Same (opens s (cond b run (tells s run e)) i moment wish.memory) (net_handled (flat run) i Opens [] (cond b (handles_open s run.world [] moment wish (end_of (run.links i))) (handles_open s (s.after run.world e) (e ∷ []) moment wish (end_of (run.links i)))))
    by true = subst (λ h. Same (opens s (record { client = run.client; top = run.top; links = run.links; world = run.world; history = h }) i moment wish.memory) (net_handled (flat run) i Opens [] (handles_open s run.world [] moment wish (end_of (run.links i))))) (append-nil run.history) (opens-same s run run.world [] i moment wish coming l)
    by false = opens-same s run (s.after run.world e) (e ∷ []) i moment wish coming l
arrives-same s run i moment wish (Some link) (Coming Opens) coming number l =
    subst (λ o. Same (drops run i) (net_handled (flat run) i Opens [] (handles s run.world moment wish (end_of (run.links i)) o HeardOpen))) (sym number)
    (handled-same run i Opens (dropped run.world [] (end_of (run.links i))) run.history coming (sym (append-nil run.history)) l)
arrives-same s run i moment wish None (Coming (Asks id body again)) coming number l =
    subst (λ o. Same (drops run i) (net_handled (flat run) i (Asks id body again) [] (handles s run.world moment wish (end_of (run.links i)) o (HeardCall id body)))) (sym number)
    (handled-same run i (Asks id body again) (dropped run.world [] (end_of (run.links i))) run.history coming (sym (append-nil run.history)) l)
arrives-same s run i moment wish (Some link) (Coming (Asks id body again)) coming number l =
    subst (λ o. Same (calls s run i link moment wish id body again) (net_handled (flat run) i (Asks id body again) [] (handles s run.world moment wish (end_of (run.links i)) o (HeardCall id body)))) (sym number)
    (calls-same s run i link moment wish id body again coming l)

to-server-same : {W : Type 0} (s : Machine W) (run : Run W) (i moment : ℕ) (wish : Wish) (ended : Bool) → Locked run → Same (to_server s run i moment wish ended) (net_to_server s (flat run) i moment wish ended)
to-server-same s run i moment wish true l = record { same = refl; locked = l }
to-server-same s run i moment wish false l = arrives-same s run i moment wish (run.links i).number (run.links i).slot refl refl l

ends-same : {W : Type 0} (run : Run W) (i : ℕ) → Locked run → Same (ends_link run i) (net_ends (flat run) i)
ends-same run i l =
    let x : Link = record { number = (run.links i).number; ended = true; slot = (run.links i).slot; got = (run.links i).got } in
    record {
      same = λ k. record { client = run.client; top = run.top; world = run.world; history = run.history; links = λ j. flat-set run.links i x (flat_link x) refl j k };
      locked = locked-ends run i l;
    }

quiet-by-same : {W : Type 0} (run : Run W) (i : ℕ) (t : Told) → Locked run → Same (quiet_by run i t) (net_quiet_by (flat run) i t)
quiet-by-same run i Displaced l = ends-same run i l
quiet-by-same run i (Opened link) l = record { same = refl; locked = l }
quiet-by-same run i (Reply a ends) l = record { same = refl; locked = l }
quiet-by-same run i Live l = record { same = refl; locked = l }
quiet-by-same run i Parted l = record { same = refl; locked = l }

two-same : {W : Type 0} (b : Bool) (x y : Run W) (g h : Net W) → Same x g → Same y h → Same (cond b x y) (cond b g h)
two-same true x y g h p q = p
two-same false x y g h p q = q

quiet-same : {W : Type 0} (s : Machine W) (run : Run W) (i moment : ℕ) (wish : Wish) (ended : Bool) (number : Option ℕ) → Locked run → Same (quiet s run i moment wish ended number) (net_quiet s (flat run) i moment wish ended number)
quiet-same s run i moment wish true number l = record { same = refl; locked = l }
quiet-same s run i moment wish false None l = record { same = refl; locked = l }
quiet-same s run i moment wish false (Some link) l =
    let e : Entry = entry link moment Pulse Ran in
    two-same wish.memory run (quiet_by (tells s run e) i (s.told run.world e)) (flat run) (net_quiet_by (net_tells s (flat run) e) i (s.told run.world e)) (record { same = refl; locked = l }) (quiet-by-same (tells s run e) i (s.told run.world e) l)

parts-same : {W : Type 0} (s : Machine W) (run : Run W) (i moment : ℕ) (wish : Wish) (ask : Ask) (ended : Bool) (number : Option ℕ) → Locked run → Same (parts s run i moment wish ask ended number) (net_parts s (flat run) i moment wish ask ended number)
parts-same s run i moment wish ask true number l = record { same = refl; locked = l }
parts-same s run i moment wish ask false None l = ends-same run i l
parts-same s run i moment wish ask false (Some link) l = by wish.memory
  where
    e : Entry
    e = entry link moment ask Ran

    by : (b : Bool) → Same (ends_link (cond b run (tells s run e)) i) (net_ends (cond b (flat run) (net_tells s (flat run) e)) i)
    by true = ends-same run i l
    by false = ends-same (tells s run e) i l

breaks-same : {W : Type 0} (run : Run W) → Same (breaks run) (net_breaks (flat run))
breaks-same run =
    let x : Link = with_slot blank (Coming Opens) in
    record {
      same = λ k. record { client = begins run.client; top = suc run.top; world = run.world; history = run.history; links = λ j. flat-set run.links (suc run.top) x (flat_link x) refl j k };
      locked = locked-anew run.client.stage run.client.wait ((set run.links (suc run.top) x (suc run.top)).slot);
    }

pub step-same : {W : Type 0} (s : Machine W) (run : Run W) (e : Event) → Locked run → Same (step s run e) (net_step s (flat run) e)
step-same s run (Commands call) l = commands-same run run.client.stage run.client.wait call refl refl l
step-same s run (ToServer i moment wish) l = to-server-same s run i moment wish (run.links i).ended l
step-same s run ToClient l = to-client-same run (run.links run.top).slot refl l
step-same s run (Quiet i moment wish) l = quiet-same s run i moment wish (run.links i).ended (run.links i).number l
step-same s run (Loses i moment wish) l = parts-same s run i moment wish Lost (run.links i).ended (run.links i).number l
step-same s run (Drains i moment wish) l = parts-same s run i moment wish Bye (run.links i).ended (run.links i).number l
step-same s run (Ends i) l = ends-same run i l
step-same s run Breaks l = breaks-same run
step-same s run (Others e) l = record { same = refl; locked = l }

-- ---- every schedule

pub runs-same : {W : Type 0} (s : Machine W) (run : Run W) (events : List Event) → Locked run → flat (run_of s run events) ≡ net_run s (flat run) events
runs-same s run [] l = refl
runs-same s run (e ∷ es) l = let x = step-same s run e l in runs-same s (step s run e) es x.locked ∙ ap (λ net. net_run s net es) x.same

pub starts-same : {W : Type 0} (w : W) → flat (start w) ≡ net_start w
starts-same w = λ k. record { client = (start w).client; top = 0; world = w; history = []; links = λ j. flat-set (λ m. blank) 0 (with_slot blank (Coming Opens)) (record { end = fresh_end; up = Opens ∷ []; down = [] }) refl j k }

-- ---- the premises and the theorem, over lists of frames

again-same : (slot : Slot) → is_again_first (ups slot) ≡ is_again slot
again-same Idle = refl
again-same (Coming Opens) = refl
again-same (Coming (Asks id body again)) = refl
again-same (Going r a) = refl

allowed-from : {W : Type 0} (s : Machine W) (n : ℕ) (run : Run W) (e : Event) → NetAllowed s n (flat run) e → Allowed s n run e
allowed-from s n run (Commands call) ok = tt
allowed-from s n run (ToServer i moment wish) ok = λ e f. sym (again-same (run.links i).slot) ∙ ok e f
allowed-from s n run ToClient ok = tt
allowed-from s n run (Quiet i moment wish) ok = tt
allowed-from s n run (Loses i moment wish) ok = tt
allowed-from s n run (Drains i moment wish) ok = tt
allowed-from s n run (Ends i) ok = tt
allowed-from s n run Breaks ok = tt
allowed-from s n run (Others e) ok = record { legal = ok.legal; apart = ok.apart; no_token = ok.no_token }

all-from : {W : Type 0} (s : Machine W) (n : ℕ) (run : Run W) (events : List Event) → Locked run → AllNetAllowed s n (flat run) events → AllAllowed s n run events
all-from s n run [] l ok = tt
all-from s n run (e ∷ es) l (first, less, rest) =
    let x = step-same s run e l in
    (allowed-from s n run e first, subst (λ (net : Net _). net.client.row < 1900) (sym x.same) less, all-from s n (step s run e) es x.locked (subst (λ net. AllNetAllowed s n net es) (sym x.same) rest))

pub locked-start : {W : Type 0} (w : W) → Locked (start w)
locked-start w = tt

pub net-is : {W : Type 0} (s : Machine W) (w : W) (events : List Event) → flat (run_of s (start w) events) ≡ net_run s (net_start w) events
net-is s w events = runs-same s (start w) events (locked-start w) ∙ ap (λ net. net_run s net events) (starts-same w)

pub carried-once : {W : Type 0} {Sound : W → Type 0} (s : Server W Sound) → CommandsOnceCarried Sound s.machine
carried-once s w n events sound small ok has =
    let is = net-is s.machine w events in
    let ok' = all-from s.machine n (start w) events (locked-start w) (subst (λ net. AllNetAllowed s.machine n net events) (sym (starts-same w)) ok) in
    let once : OnceInOrder s.machine n w (run_of s.machine (start w) events) = commands-once s w n events sound small ok' (ap (λ (net : Net _). net.client.token) is ∙ has) in
    subst (NetOnce s.machine n w) is (record { more = once.more; effects = once.effects; at_most = once.at_most })

one-slot : (slot : Slot) → length (ups slot) + length (downs slot) ≤ 1
one-slot Idle = omega arith
one-slot (Coming r) = omega arith
one-slot (Going r a) = omega arith

pub one-frame : {W : Type 0} (s : Machine W) → OneFrame s
one-frame s w events i = subst (λ (net : Net _). length (net.links i).up + length (net.links i).down ≤ 1) (net-is s w events) (one-slot ((run_of s (start w) events).links i).slot)
