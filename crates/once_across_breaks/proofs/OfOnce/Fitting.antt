-- All that is under way fits its link, at each place of a schedule.
use Rattle.std.proofs.Common.{◌≡◌, inl, inr, refl, sym, ap, subst, ℕ, suc, ◌+◌, ◌<◌, ◌≤◌, Bool, true, false, ◌&&◌, List, [], ◌∷◌, ◌++◌, Option, Some, None, arith}
use Rattle.std.specs.Prelude.{nat_eq, nat_lt, ◌||◌}
use Rattle.std.proofs.Math.Nat.{mod-lt}
use Rattle.std.proofs.lemmas.Bool.{and_parts, cond_both, ltb-true}
use Rattle.once_across_breaks.specs.once.Messages.{Answer, Body, Call, Does, Fine, MiscErr, NoMemory, Refuses, is_fine, token_in}
use Rattle.once_across_breaks.specs.once.Fits.{FitsAnswer, FitsBody, FitsOpening, IsId, fits_token}
use Rattle.once_across_breaks.specs.once.Server.{Ask, AskLaw, Bye, Calls, Displaced, Entry, Fault, Live, Lost, Machine, Open, Opened, Outcome, Parted, Pulse, Ran, Reply, Server, Told, View, entry, numbers_end}
use Rattle.once_across_breaks.specs.once.Run.{Asks, Breaks, Client, Coming, Commands, Drains, Ends, Entering, Event, Going, Gone, Joining, Loses, Opening, Opens, Others, Quiet, Ready, Request, Run, Slot, Stage, ToClient, ToServer, Wait, Wish, id_of, in_stage, last_body, opens_with, run_of, same_request, sent_again, stage_anew, start, step, with_result}
use Rattle.once_across_breaks.specs.once.Once.{AllAllowed, Allowed}
use Rattle.once_across_breaks.specs.once.Frames.{Carrier, End, Handled, Heard, HeardCall, HeardOpen, Net, OfCall, OfOpening, Tag, Taken, again_writes, call_by, call_entry, call_told, client_takes, ended_end, fresh_end, handles, handles_call, handles_open, heard, net_arrives, net_breaks, net_commands, net_ends, net_parts, net_quiet, net_quiet_by, net_start, net_step, net_taken, net_tells, net_to_client, net_to_server, open_told, opening_taken, replied, replies_of, reply_taken, step_taken, tag_of, token_taken, waiting_taken, wrote}
use Rattle.once_across_breaks.specs.once.Bytes.{FitsReplyTo, FitsRequest, own_id}
use Rattle.once_across_breaks.specs.once.UnderWay.{AllDown, AllFit, AllIds, ClientFits, EventsKeepFitting, FewAt, IsLegal, LinkFits, NetFits, NumberFits, StartsFitting, TokenFits, WaitFits}
use Rattle.once_across_breaks.proofs.OfOnce.Steps.{upd}
use Rattle.once_across_breaks.proofs.OfOnce.EarlyEvents.{Always, early, elsewhere, holds}
use Rattle.once_across_breaks.proofs.OfOnce.Theorem.{always-step, starts}
use Rattle.once_across_breaks.proofs.OfOnce.Carried.{Locked, downs, end_of, flat, locked-start, starts-same, step-same, ups}

abbrev pub MayReply : Heard → Option Answer → Type 0
MayReply h None = Unit {0}
MayReply h (Some a) = FitsReplyTo h a

-- ---- the client

record TakenFits (t : Taken) : Type 0 where
  client : ClientFits t.client
  writes : AllFit t.writes
  ids : AllIds t.client.opening_id t.writes

abbrev MayTake : Option Taken → Type 0
MayTake None = Unit {0}
MayTake (Some t) = TakenFits t

pub command-fits : (first drawn : ℕ) (call : Call) → FitsRequest (Asks (id_of first drawn) (Does call) false)
command-fits first drawn call = (mod-lt (first + drawn) (omega arith), tt)

again-fits : (wait : Option Wait) → WaitFits wait → AllFit (again_writes wait)
again-fits None fits = tt
again-fits (Some w) fits = ((fits, tt), tt)

again-ids : (last : ℕ) (wait : Option Wait) → WaitFits wait → AllIds last (again_writes wait)
again-ids last None fits = tt
again-ids last (Some w) fits = (fits, tt)

last-fits : (token : Option (List ℕ)) → TokenFits token → FitsBody (last_body token)
last-fits None fits = tt
last-fits (Some token) fits = fits

again-few : (stage : Stage) (tries id : ℕ) → tries < 3 → FewAt stage tries id → FewAt stage (suc tries) (suc id)
again-few Opening tries id less few = (omega (arith, less), omega (arith, few.1))
again-few Entering tries id less few = (omega (arith, less), omega (arith, few.1))
again-few Joining tries id less few = (omega (arith, less), omega (arith, few.1))
again-few Ready tries id less few = tt
again-few Gone tries id less few = tt

-- a stage of an opening
abbrev Opens-in : Stage → Type 0
Opens-in Opening = Unit {0}
Opens-in Entering = Unit {0}
Opens-in Joining = Unit {0}
Opens-in Ready = ⊥
Opens-in Gone = ⊥

same-id : (c : Client) (stage : Stage) → Opens-in stage → FewAt stage c.tries c.opening_id → IsId (own_id (suc c.opening_id) (same_request c stage))
same-id c Opening op few = omega (arith, few.0, few.1)
same-id c Entering op few = omega (arith, few.0, few.1)
same-id c Joining op few = omega (arith, few.0, few.1)
same-id c Ready op few = absurd op
same-id c Gone op few = absurd op

same-fits : (c : Client) (stage : Stage) → FewAt stage c.tries c.opening_id → TokenFits c.token → FitsRequest (same_request c stage)
same-fits c Opening few fits = tt
same-fits c Entering few fits = (omega (arith, few.0, few.1), tt)
same-fits c Joining few fits = (omega (arith, few.0, few.1), last-fits c.token fits)
same-fits c Ready few fits = tt
same-fits c Gone few fits = tt

token-fits : (c : Client) (token : Option (List ℕ)) → WaitFits c.wait → MayTake (token_taken c token)
token-fits c None wait = tt
token-fits c (Some token) wait = record { client = record { few = tt; wait = wait }; writes = again-fits c.wait wait; ids = again-ids c.opening_id c.wait wait }

steps-fit : (c : Client) (stage : Stage) (token : Option (List ℕ)) (block : List ℕ) → FewAt stage c.tries c.opening_id → WaitFits c.wait → TokenFits token → MayTake (step_taken c stage token block)
steps-fit c Opening None block few wait fits = record { client = record { few = (omega arith, omega (arith, few.0, few.1)); wait = wait }; writes = ((omega (arith, few.0, few.1), tt), tt); ids = (omega (arith, few.0, few.1), tt) }
steps-fit c Opening (Some t) block few wait fits = record { client = record { few = (omega arith, omega (arith, few.0, few.1)); wait = wait }; writes = ((omega (arith, few.0, few.1), tt), tt); ids = (omega (arith, few.0, few.1), tt) }
steps-fit c Entering None block few wait fits = record { client = record { few = (omega arith, omega (arith, few.0, few.1)); wait = wait }; writes = ((omega (arith, few.0, few.1), tt), tt); ids = (omega (arith, few.0, few.1), tt) }
steps-fit c Entering (Some t) block few wait fits = record { client = record { few = (omega arith, omega (arith, few.0, few.1)); wait = wait }; writes = ((omega (arith, few.0, few.1), fits), tt); ids = (omega (arith, few.0, few.1), tt) }
steps-fit c Joining None block few wait fits = token-fits c (token_in block) wait
steps-fit c Joining (Some t) block few wait fits = record { client = record { few = tt; wait = wait }; writes = again-fits c.wait wait; ids = again-ids c.opening_id c.wait wait }
steps-fit c Ready None block few wait fits = tt
steps-fit c Ready (Some t) block few wait fits = tt
steps-fit c Gone None block few wait fits = tt
steps-fit c Gone (Some t) block few wait fits = tt

gone-fits : (c : Client) → ClientFits c → MayTake (wrote (in_stage c Gone) [])
gone-fits c h = record { client = record { few = tt; wait = h.wait }; writes = tt; ids = tt }

opening-fits : (c : Client) (a : Answer) → Opens-in c.stage → ClientFits c → TokenFits c.token → MayTake (opening_taken c a)
opening-fits c (Fine block) op h fits = steps-fit c c.stage c.token block h.few h.wait fits
opening-fits c NoMemory op h fits =
    cond_both (nat_lt c.tries 3) (wrote (opens_with c c.stage (suc c.tries)) (same_request c c.stage ∷ [])) (wrote (in_stage c Gone) []) MayTake
    (λ e. record { client = record { few = again-few c.stage c.tries c.opening_id (ltb-true c.tries 3 e) h.few; wait = h.wait }; writes = (same-fits c c.stage h.few fits, tt); ids = (same-id c c.stage op h.few, tt) })
    (λ e. gone-fits c h)
opening-fits c MiscErr op h fits = gone-fits c h
opening-fits c (Refuses code block) op h fits = gone-fits c h

result-fits : (c : Client) (w : Wait) (a : Answer) → ClientFits c → MayTake (wrote (with_result c w a) [])
result-fits c w a h = record { client = record { few = h.few; wait = tt }; writes = tt; ids = tt }

reply-fits : (c : Client) (w : Wait) (a : Answer) → ClientFits c → MayTake (reply_taken c w a)
reply-fits c w (Fine block) h = result-fits c w (Fine block) h
reply-fits c w MiscErr h = result-fits c w MiscErr h
reply-fits c w (Refuses code block) h = result-fits c w (Refuses code block) h
reply-fits c w NoMemory h =
    cond_both (nat_lt w.tries 3) (wrote (sent_again c w) (Asks (id_of c.first c.drawn) (Does w.call) false ∷ [])) (wrote (with_result c w NoMemory) []) MayTake
    (λ e. record { client = record { few = h.few; wait = mod-lt (c.first + c.drawn) (omega arith) }; writes = (command-fits c.first c.drawn w.call, tt); ids = (mod-lt (c.first + c.drawn) (omega arith), tt) })
    (λ e. result-fits c w NoMemory h)

waiting-fits : (c : Client) (wait : Option Wait) (tag : Tag) (a : Answer) → ClientFits c → MayTake (waiting_taken c wait tag a)
waiting-fits c None tag a h = tt
waiting-fits c (Some w) OfOpening a h = tt
waiting-fits c (Some w) (OfCall id) a h = cond_both (nat_eq id w.id) (reply_taken c w a) None MayTake (λ e. reply-fits c w a h) (λ e. tt)

takes-fit : (c : Client) (stage : Stage) (tag : Tag) (a : Answer) → c.stage ≡ stage → ClientFits c → TokenFits c.token → MayTake (client_takes c stage tag a)
takes-fit c Opening tag a is h fits = opening-fits c a (subst Opens-in (sym is) tt) h fits
takes-fit c Entering tag a is h fits = opening-fits c a (subst Opens-in (sym is) tt) h fits
takes-fit c Joining tag a is h fits = opening-fits c a (subst Opens-in (sym is) tt) h fits
takes-fit c Ready tag a is h fits = waiting-fits c c.wait tag a h
takes-fit c Gone tag a is h fits = tt

anew-few : (stage : Stage) → FewAt (stage_anew stage) 0 0
anew-few Opening = (omega arith, omega arith)
anew-few Entering = (omega arith, omega arith)
anew-few Joining = (omega arith, omega arith)
anew-few Ready = (omega arith, omega arith)
anew-few Gone = tt

-- ---- a server end

abbrev HeardFits : Heard → Type 0
HeardFits HeardOpen = Unit {0}
HeardFits (HeardCall id body) = IsId id

heard-fits : (r : Request) → FitsRequest r → HeardFits (heard r)
heard-fits Opens fits = tt
heard-fits (Asks id body again) fits = fits.0

record HandledFits {W : Type 0} (Sound : W → Type 0) (h : Heard) (x : Handled W) : Type 0 where
  sound : Sound x.world
  number : NumberFits x.end.number
  reply : MayReply h x.reply

call-told-fits : {W : Type 0} (Sound : W → Type 0) (w : W) (entries : List Entry) (e : End) (id : ℕ) (body : Body) (t : Told) → Sound w → NumberFits e.number → IsId id → ((a : Answer) (ends : Bool) → t ≡ Reply a ends → FitsAnswer a)
    → HandledFits Sound (HeardCall id body) (call_told w entries e body t)
call-told-fits Sound w entries e id body (Reply a ends) sound number small tells = record { sound = sound; number = number; reply = (small, tells a ends refl) }
call-told-fits Sound w entries e id body (Opened link) sound number small tells = record { sound = sound; number = number; reply = tt }
call-told-fits Sound w entries e id body Live sound number small tells = record { sound = sound; number = number; reply = tt }
call-told-fits Sound w entries e id body Parted sound number small tells = record { sound = sound; number = number; reply = tt }
call-told-fits Sound w entries e id body Displaced sound number small tells = record { sound = sound; number = number; reply = tt }

handles-call-fits : {W : Type 0} {Sound : W → Type 0} (s : Server W Sound) (w : W) (moment : ℕ) (wish : Wish) (e : End) (link id : ℕ) (body : Body) → Sound w → NumberFits e.number → link < numbers_end → IsId id
    → HandledFits Sound (HeardCall id body) (handles_call s.machine w moment wish e link id body)
handles-call-fits {W} {Sound} s w moment wish e link id body sound number within small =
    cond_both wish.memory (replied w [] e NoMemory) (call_by s.machine w e body (call_entry s.machine w link moment (Calls id body) wish.fault)) (HandledFits Sound (HeardCall id body))
    (λ f. record { sound = sound; number = number; reply = (small, tt) })
    (λ f. cond_both (wish.fault && s.is_legal w (entry link moment (Calls id body) Fault)) (entry link moment (Calls id body) Fault) (entry link moment (Calls id body) Ran) (λ x. HandledFits Sound (HeardCall id body) (call_by s.machine w e body x))
    (λ g. by Fault (and_parts wish.fault (s.is_legal w (entry link moment (Calls id body) Fault)) g).1)
    (λ g. by Ran (s.ran_is_legal w link moment (Calls id body) within)))
  where
    by : (o : Outcome) → s.is_legal w (entry link moment (Calls id body) o) ≡ true → HandledFits Sound (HeardCall id body) (call_by s.machine w e body (entry link moment (Calls id body) o))
    by o legal =
        let x : Entry = entry link moment (Calls id body) o in
        call-told-fits Sound (s.after w x) (x ∷ []) e id body (s.told w x) (s.stays_sound w x sound legal) number small (λ a ends is. s.tells_fit w x a ends sound legal is)

not-fine-fits : (a : Answer) → is_fine a ≡ false → FitsOpening a
not-fine-fits (Fine block) bad = absurd (cc)
not-fine-fits MiscErr bad = tt
not-fine-fits NoMemory bad = tt
not-fine-fits (Refuses code block) bad = tt

open-told-fits : {W : Type 0} {Sound : W → Type 0} (s : Server W Sound) (w : W) (entries : List Entry) (e : End) (x : Entry) → Sound w → NumberFits e.number → s.is_legal w x ≡ true
    → AskLaw s.token 0 (s.view w 0) x.link ((s.view w 0).holder x.link) Open x.outcome (s.told w x) (s.view (s.after w x) 0)
    → HandledFits Sound HeardOpen (open_told (s.after w x) entries e (s.told w x))
open-told-fits {W} {Sound} s w entries e x sound number legal (inl (told, left)) =
    let after : Sound (s.after w x) = s.stays_sound w x sound legal in
    let next : suc (s.view w 0).next ≡ (s.view (s.after w x) 0).next = ap (λ (v : View). v.next) (sym left) in
    let least = s.drawn_begins w 0 sound in
    let ends = s.drawn_ends (s.after w x) 0 after in
    subst (λ t. HandledFits Sound HeardOpen (open_told (s.after w x) entries e t)) (sym told) (record { sound = after; number = (least, omega (arith, next, ends)); reply = (omega arith, refl) })
open-told-fits {W} {Sound} s w entries e x sound number legal (inr (a, told, bad, left)) =
    subst (λ t. HandledFits Sound HeardOpen (open_told (s.after w x) entries e t)) (sym told)
    (record { sound = s.stays_sound w x sound legal; number = number; reply = (s.tells_fit w x a false sound legal told, not-fine-fits a bad) })

handles-open-fits : {W : Type 0} {Sound : W → Type 0} (s : Server W Sound) (w : W) (swept : List Entry) (moment : ℕ) (wish : Wish) (e : End) → Sound w → NumberFits e.number → HandledFits Sound HeardOpen (handles_open s.machine w swept moment wish e)
handles-open-fits {W} {Sound} s w swept moment wish e sound number =
    let x : Entry = entry 0 moment Open Ran in
    let legal = s.ran_is_legal w 0 moment Open (omega arith) in
    cond_both wish.memory (replied w swept e NoMemory) (open_told (s.after w x) (swept ++ x ∷ []) e (s.told w x)) (HandledFits Sound HeardOpen)
    (λ f. record { sound = sound; number = number; reply = (tt, tt) })
    (λ f. open-told-fits s w (swept ++ x ∷ []) e x sound number legal (s.answers w 0 x sound legal))

handles-fit : {W : Type 0} {Sound : W → Type 0} (s : Server W Sound) (w : W) (moment : ℕ) (wish : Wish) (e : End) (number : Option ℕ) (h : Heard) → Sound w → NumberFits e.number → NumberFits number → HeardFits h
    → HandledFits Sound h (handles s.machine w moment wish e number h)
handles-fit {W} {Sound} s w moment wish e None HeardOpen sound fits within small =
    let x : Entry = entry 0 moment Pulse Ran in
    cond_both wish.no_sweep (handles_open s.machine w [] moment wish e) (handles_open s.machine (s.after w x) (x ∷ []) moment wish e) (HandledFits Sound HeardOpen)
    (λ f. handles-open-fits s w [] moment wish e sound fits)
    (λ f. handles-open-fits s (s.after w x) (x ∷ []) moment wish e (s.stays_sound w x sound (s.ran_is_legal w 0 moment Pulse (omega arith))) fits)
handles-fit s w moment wish e (Some link) HeardOpen sound fits within small = record { sound = sound; number = fits; reply = tt }
handles-fit s w moment wish e None (HeardCall id body) sound fits within small = record { sound = sound; number = fits; reply = tt }
handles-fit s w moment wish e (Some link) (HeardCall id body) sound fits within small = handles-call-fits s w moment wish e link id body sound fits within.1 small

-- ---- all links

ups-append : (xs ys : List Request) → AllFit xs → AllFit ys → AllFit (xs ++ ys)
ups-append [] ys p q = q
ups-append (x ∷ xs) ys p q = (p.0, ups-append xs ys p.1 q)

downs-append : (xs ys : List (Request × Answer)) → AllDown xs → AllDown ys → AllDown (xs ++ ys)
downs-append [] ys p q = q
downs-append (x ∷ xs) ys p q = (p.0, downs-append xs ys p.1 q)

replies-fit : (r : Request) (o : Option Answer) → MayReply (heard r) o → AllDown (replies_of r o)
replies-fit r None fits = tt
replies-fit r (Some a) fits = (fits, tt)

commands-fit : {W : Type 0} (Sound : W → Type 0) (net : Net W) (stage : Stage) (wait : Option Wait) (call : Call) → NetFits Sound net → NetFits Sound (net_commands net stage wait call)
commands-fit Sound net Ready None call h =
    let r : Request = Asks (id_of net.client.first net.client.drawn) (Does call) false in
    let x : Carrier = net.links net.top in
    let fits = h.each net.top in
    record {
      sound = h.sound;
      client = record { few = h.client.few; wait = mod-lt (net.client.first + net.client.drawn) (omega arith) };
      each = upd net.links net.top (record { end = x.end; up = x.up ++ r ∷ []; down = x.down }) (λ k y. LinkFits y)
          (record { number = fits.number; up = ups-append x.up (r ∷ []) fits.up (command-fits net.client.first net.client.drawn call, tt); down = fits.down }) (λ k other. h.each k);
    }
commands-fit Sound net Ready (Some w) call h = h
commands-fit Sound net Opening wait call h = h
commands-fit Sound net Entering wait call h = h
commands-fit Sound net Joining wait call h = h
commands-fit Sound net Gone wait call h = h

arrives-fit : {W : Type 0} {Sound : W → Type 0} (s : Server W Sound) (net : Net W) (i moment : ℕ) (wish : Wish) (up : List Request) → AllFit up → NetFits Sound net → NetFits Sound (net_arrives s.machine net i moment wish up)
arrives-fit s net i moment wish [] fits h = h
arrives-fit {W} {Sound} s net i moment wish (r ∷ rest) fits h =
    let x : Carrier = net.links i in
    let y : Handled W = handles s.machine net.world moment wish x.end x.end.number (heard r) in
    let done = handles-fit s net.world moment wish x.end x.end.number (heard r) h.sound (h.each i).number (h.each i).number (heard-fits r fits.0) in
    record {
      sound = done.sound;
      client = h.client;
      each = upd net.links i (record { end = y.end; up = rest; down = x.down ++ replies_of r y.reply }) (λ k z. LinkFits z)
          (record { number = done.number; up = fits.1; down = downs-append x.down (replies_of r y.reply) (h.each i).down (replies-fit r y.reply done.reply) }) (λ k other. h.each k);
    }

to-server-fits : {W : Type 0} {Sound : W → Type 0} (s : Server W Sound) (net : Net W) (i moment : ℕ) (wish : Wish) (ended : Bool) → NetFits Sound net → NetFits Sound (net_to_server s.machine net i moment wish ended)
to-server-fits s net i moment wish true h = h
to-server-fits s net i moment wish false h = arrives-fit s net i moment wish (net.links i).up (h.each i).up h

taken-fits : {W : Type 0} (Sound : W → Type 0) (net : Net W) (rest : List (Request × Answer)) (t : Option Taken) → AllDown rest → MayTake t → NetFits Sound net → NetFits Sound (net_taken net rest t)
taken-fits Sound net rest None fits takes h = h
taken-fits Sound net rest (Some t) fits takes h =
    let x : Carrier = net.links net.top in
    record {
      sound = h.sound;
      client = takes.client;
      each = upd net.links net.top (record { end = record { number = x.end.number; ended = x.end.ended; got = x.end.got || t.got }; up = x.up ++ t.writes; down = rest }) (λ k y. LinkFits y)
          (record { number = (h.each net.top).number; up = ups-append x.up t.writes (h.each net.top).up takes.writes; down = fits }) (λ k other. h.each k);
    }

to-client-fits : {W : Type 0} (Sound : W → Type 0) (net : Net W) (down : List (Request × Answer)) → AllDown down → TokenFits net.client.token → NetFits Sound net → NetFits Sound (net_to_client net down)
to-client-fits Sound net [] fits token h = h
to-client-fits Sound net (x ∷ rest) fits token h =
    taken-fits Sound net rest (client_takes net.client net.client.stage (tag_of (heard x.0)) x.1) fits.1 (takes-fit net.client net.client.stage (tag_of (heard x.0)) x.1 refl h.client token) h

ends-fit : {W : Type 0} (Sound : W → Type 0) (net : Net W) (i : ℕ) → NetFits Sound net → NetFits Sound (net_ends net i)
ends-fit Sound net i h =
    let x : Carrier = net.links i in
    record {
      sound = h.sound;
      client = h.client;
      each = upd net.links i (record { end = ended_end x.end; up = x.up; down = x.down }) (λ k y. LinkFits y) (record { number = (h.each i).number; up = (h.each i).up; down = (h.each i).down }) (λ k other. h.each k);
    }

tells-fit : {W : Type 0} {Sound : W → Type 0} (s : Server W Sound) (net : Net W) (e : Entry) → s.is_legal net.world e ≡ true → NetFits Sound net → NetFits Sound (net_tells s.machine net e)
tells-fit s net e legal h = record { sound = s.stays_sound net.world e h.sound legal; client = h.client; each = h.each }

quiet-by-fits : {W : Type 0} (Sound : W → Type 0) (net : Net W) (i : ℕ) (t : Told) → NetFits Sound net → NetFits Sound (net_quiet_by net i t)
quiet-by-fits Sound net i Displaced h = ends-fit Sound net i h
quiet-by-fits Sound net i (Opened link) h = h
quiet-by-fits Sound net i (Reply a ends) h = h
quiet-by-fits Sound net i Live h = h
quiet-by-fits Sound net i Parted h = h

quiet-fits : {W : Type 0} {Sound : W → Type 0} (s : Server W Sound) (net : Net W) (i moment : ℕ) (wish : Wish) (ended : Bool) (number : Option ℕ) → NumberFits number → NetFits Sound net → NetFits Sound (net_quiet s.machine net i moment wish ended number)
quiet-fits s net i moment wish true number within h = h
quiet-fits s net i moment wish false None within h = h
quiet-fits {W} {Sound} s net i moment wish false (Some link) within h =
    let e : Entry = entry link moment Pulse Ran in
    cond_both wish.memory net (net_quiet_by (net_tells s.machine net e) i (s.told net.world e)) (NetFits Sound) (λ f. h)
    (λ f. quiet-by-fits Sound (net_tells s.machine net e) i (s.told net.world e) (tells-fit s net e (s.ran_is_legal net.world link moment Pulse within.1) h))

parts-fit : {W : Type 0} {Sound : W → Type 0} (s : Server W Sound) (net : Net W) (i moment : ℕ) (wish : Wish) (ask : Ask) (ended : Bool) (number : Option ℕ) → NumberFits number → NetFits Sound net → NetFits Sound (net_parts s.machine net i moment wish ask ended number)
parts-fit s net i moment wish ask true number within h = h
parts-fit {W} {Sound} s net i moment wish ask false None within h = ends-fit Sound net i h
parts-fit {W} {Sound} s net i moment wish ask false (Some link) within h =
    let e : Entry = entry link moment ask Ran in
    cond_both wish.memory net (net_tells s.machine net e) (λ y. NetFits Sound (net_ends y i)) (λ f. ends-fit Sound net i h)
    (λ f. ends-fit Sound (net_tells s.machine net e) i (tells-fit s net e (s.ran_is_legal net.world link moment ask within.1) h))

breaks-fit : {W : Type 0} (Sound : W → Type 0) (net : Net W) → NetFits Sound net → NetFits Sound (net_breaks net)
breaks-fit Sound net h =
    record {
      sound = h.sound;
      client = record { few = anew-few net.client.stage; wait = h.client.wait };
      each = upd net.links (suc net.top) (record { end = fresh_end; up = Opens ∷ []; down = [] }) (λ k y. LinkFits y) (record { number = tt; up = (tt, tt); down = tt }) (λ k other. h.each k);
    }

pub net-fits : {W : Type 0} {Sound : W → Type 0} (s : Server W Sound) (net : Net W) (e : Event) → TokenFits net.client.token → IsLegal s.machine net.world e → NetFits Sound net → NetFits Sound (net_step s.machine net e)
net-fits {W} {Sound} s net (Commands call) token legal h = commands-fit Sound net net.client.stage net.client.wait call h
net-fits s net (ToServer i moment wish) token legal h = to-server-fits s net i moment wish (net.links i).end.ended h
net-fits {W} {Sound} s net ToClient token legal h = to-client-fits Sound net (net.links net.top).down (h.each net.top).down token h
net-fits s net (Quiet i moment wish) token legal h = quiet-fits s net i moment wish (net.links i).end.ended (net.links i).end.number (h.each i).number h
net-fits s net (Loses i moment wish) token legal h = parts-fit s net i moment wish Lost (net.links i).end.ended (net.links i).end.number (h.each i).number h
net-fits s net (Drains i moment wish) token legal h = parts-fit s net i moment wish Bye (net.links i).end.ended (net.links i).end.number (h.each i).number h
net-fits {W} {Sound} s net (Ends i) token legal h = ends-fit Sound net i h
net-fits {W} {Sound} s net Breaks token legal h = breaks-fit Sound net h
net-fits s net (Others e) token legal h = tells-fit s net e legal h

-- ---- along a schedule

token-of : {W : Type 0} {Sound : W → Type 0} (s : Server W Sound) (n : ℕ) (w0 : W) (run : Run W) → Always s n w0 run → TokenFits run.client.token
token-of s n w0 run (early h) = subst TokenFits (sym h.token) tt
token-of s n w0 run (holds (ex, h)) = subst TokenFits (sym h.held.token) (s.tokens_fit n)
token-of s n w0 run (elsewhere k is other) = subst TokenFits (sym is) (s.tokens_fit k)

legal-of : {W : Type 0} (s : Machine W) (n : ℕ) (run : Run W) (e : Event) → Allowed s n run e → IsLegal s run.world e
legal-of s n run (Others e) ok = ok.legal
legal-of s n run (Commands call) ok = tt
legal-of s n run (ToServer i moment wish) ok = tt
legal-of s n run ToClient ok = tt
legal-of s n run (Quiet i moment wish) ok = tt
legal-of s n run (Loses i moment wish) ok = tt
legal-of s n run (Drains i moment wish) ok = tt
legal-of s n run (Ends i) ok = tt
legal-of s n run Breaks ok = tt

pub record Fitting {W : Type 0} {Sound : W → Type 0} (s : Server W Sound) (n : ℕ) (w0 : W) (run : Run W) : Type 0 where
  net : NetFits Sound (flat run)
  always : Always s n w0 run
  less : run.client.row < 1900
  locked : Locked run

fitting-step : {W : Type 0} {Sound : W → Type 0} (s : Server W Sound) (n : ℕ) (w0 : W) (run : Run W) (e : Event) → Allowed s.machine n run e → (step s.machine run e).client.row < 1900 → Fitting s n w0 run → Fitting s n w0 (step s.machine run e)
fitting-step {W} {Sound} s n w0 run e ok less f =
    let same = step-same s.machine run e f.locked in
    record {
      net = subst (NetFits Sound) (sym same.same) (net-fits s (flat run) e (token-of s n w0 run f.always) (legal-of s.machine n run e ok) f.net);
      always = always-step s n w0 run e ok f.less f.always;
      less = less;
      locked = same.locked;
    }

pub fitting-run : {W : Type 0} {Sound : W → Type 0} (s : Server W Sound) (n : ℕ) (w0 : W) (run : Run W) (events : List Event) → AllAllowed s.machine n run events → Fitting s n w0 run → Fitting s n w0 (run_of s.machine run events)
fitting-run s n w0 run [] ok f = f
fitting-run s n w0 run (e ∷ es) ok f = fitting-run s n w0 (step s.machine run e) es ok.2 (fitting-step s n w0 run e ok.0 ok.1 f)

pub net-starts : {W : Type 0} (Sound : W → Type 0) (w : W) → Sound w → NetFits Sound (net_start w)
net-starts {W} Sound w sound = record {
  sound = sound;
  client = record { few = (omega arith, omega arith); wait = tt };
  each = upd (λ j. blank_cell) 0 (record { end = fresh_end; up = Opens ∷ []; down = [] }) (λ k y. LinkFits y) (record { number = tt; up = (tt, tt); down = tt }) (λ k other. record { number = tt; up = tt; down = tt });
}
  where
    blank_cell : Carrier
    blank_cell = record { end = fresh_end; up = []; down = [] }

pub fitting-start : {W : Type 0} {Sound : W → Type 0} (s : Server W Sound) (n : ℕ) (w : W) → Sound w → n < numbers_end → Fitting s n w (start w)
fitting-start {W} {Sound} s n w sound small =
    record {
      net = subst (NetFits Sound) (sym (starts-same w)) (net-starts Sound w sound);
      always = early (starts s n w sound small);
      less = omega arith;
      locked = locked-start w;
    }

-- what is under way fits, and so does what would be replied and written
pub record Facts {W : Type 0} (s : Machine W) (run : Run W) : Type 0 where
  pub ups_fit : (i : ℕ) (r : Request) → (run.links i).slot ≡ Coming r → FitsRequest r
  pub downs_fit : (i : ℕ) (r : Request) (a : Answer) → (run.links i).slot ≡ Going r a → FitsReplyTo (heard r) a
  pub replies_fit : (i moment : ℕ) (wish : Wish) (r : Request) → (run.links i).slot ≡ Coming r → MayReply (heard r) (handles s run.world moment wish (end_of (run.links i)) (run.links i).number (heard r)).reply
  pub writes_fit : (tag : Tag) (a : Answer) (t : Taken) → client_takes run.client run.client.stage tag a ≡ Some t → AllFit t.writes × AllIds t.client.opening_id t.writes

pub facts : {W : Type 0} {Sound : W → Type 0} (s : Server W Sound) (n : ℕ) (w0 : W) (run : Run W) → Fitting s n w0 run → Facts s.machine run
facts s n w0 run f =
    record {
      ups_fit = λ i r is. fits i r is;
      downs_fit = λ i r a is. (subst (λ (sl : Slot). AllDown (downs sl)) is (f.net.each i).down).0;
      replies_fit = λ i moment wish r is. (handles-fit s run.world moment wish (end_of (run.links i)) (run.links i).number (heard r) f.net.sound (f.net.each i).number (f.net.each i).number (heard-fits r (fits i r is))).reply;
      writes_fit = λ tag a t is. written t (subst MayTake is (takes-fit run.client run.client.stage tag a refl f.net.client (token-of s n w0 run f.always)));
    }
  where
    fits : (i : ℕ) (r : Request) → (run.links i).slot ≡ Coming r → FitsRequest r
    fits i r is = (subst (λ (sl : Slot). AllFit (ups sl)) is (f.net.each i).up).0

    written : (t : Taken) → TakenFits t → AllFit t.writes × AllIds t.client.opening_id t.writes
    written t fit = (fit.writes, fit.ids)
