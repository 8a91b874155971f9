-- The token that the client holds was drawn, and without one it has no results.
use Rattle.std.proofs.Common.{◌≡◌, ◌∙◌, inl, inr, refl, sym, ap, subst, ℕ, suc, ◌<◌, ◌≤◌, Bool, true, false, List, [], ◌∷◌, ◌++◌, Option, Some, None, arith, append-nil, append_assoc}
use Rattle.std.specs.Prelude.{◌&&◌, nat_eq, nat_lt}
use Rattle.std.proofs.lemmas.Bool.{and_parts, cond_both}
use Rattle.afp_serial.specs.SessionViews.{view_at}
use Rattle.afp_serial.specs.Token.{session_token}
use Rattle.afp_serial.specs.World.{World}
use Rattle.once_across_breaks.specs.once.Messages.{Answer, Body, Call, Does, Fine, Login, MiscErr, NoMemory, Refuses, Rejoin, Token, token_in}
use Rattle.once_across_breaks.specs.once.Server.{Ask, AskLaw, Bye, Calls, Displaced, Entry, Fault, Live, Lost, Open, Opened, Outcome, Parted, Pulse, Ran, Reply, Server, Told, View, entry, numbers_end}
use Rattle.once_across_breaks.specs.once.Run.{Asks, Breaks, Client, Commands, Drains, Ends, Entering, Event, Gone, Joining, Loses, Opening, Opens, Others, Quiet, Ready, Request, Stage, ToClient, ToServer, Wait, Wish, begins, holding, in_stage, last_body, opens_with, same_request, sent_again, stage_anew, with_result, draws, id_of}
use Rattle.once_across_breaks.specs.once.Frames.{AreToThat, Carrier, End, Handled, Heard, HeardCall, HeardOpen, Net, OfCall, OfOpening, OnlyTheWaiting, Tag, Taken, call_by, call_entry, call_told, client_takes, ended_end, fresh_end, handles, handles_open, heard, net_arrives, net_breaks, net_commands, net_ends, net_parts, net_quiet, net_quiet_by, net_run, net_start, net_step, net_taken, net_tells, net_to_client, net_to_server, open_told, opening_taken, replied, replies_of, reply_taken, request_that_waits, step_taken, tag_of, token_taken, waiting_taken, wrote}
use Rattle.once_across_breaks.specs.once.Serial.{IsSoundUnder, Setup, machine}
use Rattle.once_across_breaks.specs.once.Tokens.{AllLegal, HoldsDrawn, IsDrawn, TokensAreDrawn}
use Rattle.once_across_breaks.specs.once.UnderWay.{IsLegal, NetFits, NumberFits, TokenFits}
use Rattle.once_across_breaks.proofs.OfOnce.Early.{goes-ask}
use Rattle.once_across_breaks.proofs.OfOnce.Fitting.{net-fits, net-starts}
use Rattle.once_across_breaks.proofs.OfOnce.LastRequest.{only-the-waiting}
use Rattle.once_across_breaks.proofs.OfOnce.SerialServer.{Laws, serial-server}
use Rattle.once_across_breaks.proofs.OfOnce.Steps.{upd}

-- ---- what is kept

-- a reply to GetSessionToken tells a token that was drawn
abbrev Tells : Setup → World → Heard → Answer → Type 0
Tells u w HeardOpen a = Unit {0}
Tells u w (HeardCall id Login) a = Unit {0}
Tells u w (HeardCall id Token) a = (b token : List ℕ) → a ≡ Fine b → token_in b ≡ Some token → IsDrawn u w token
Tells u w (HeardCall id (Rejoin x)) a = Unit {0}
Tells u w (HeardCall id (Does call)) a = Unit {0}

abbrev AllTell : Setup → World → List (Request × Answer) → Type 0
AllTell u w [] = Unit {0}
AllTell u w (x ∷ xs) = Tells u w (heard x.0) x.1 × AllTell u w xs

-- a client without a token is not ready, and has no results
abbrev HoldsBy : Setup → World → Client → Option (List ℕ) → Type 0
HoldsBy u w c None = (c.stage ≡ Ready → ⊥) × (c.results ≡ [])
HoldsBy u w c (Some token) = IsDrawn u w token

abbrev Holds : Setup → World → Client → Type 0
Holds u w c = HoldsBy u w c c.token

pub record Draws (u : Setup) (net : Net World) : Type 0 where
  fits : NetFits (IsSoundUnder u.key) net
  client : Holds u net.world net.client
  each : (i : ℕ) → AllTell u net.world (net.links i).down

-- ---- the next number never falls

drawn-later : (u : Setup) (w v : World) (token : List ℕ) → w.next_link ≤ v.next_link → IsDrawn u w token → IsDrawn u v token
drawn-later u w v token more d = record { number = d.number; below = let a = d.below in omega (arith, a, more); is = d.is }

tells-later : (u : Setup) (w v : World) (h : Heard) (a : Answer) → w.next_link ≤ v.next_link → Tells u w h a → Tells u v h a
tells-later u w v HeardOpen a more h = tt
tells-later u w v (HeardCall id Login) a more h = tt
tells-later u w v (HeardCall id Token) a more h = λ b token fine is. drawn-later u w v token more (h b token fine is)
tells-later u w v (HeardCall id (Rejoin x)) a more h = tt
tells-later u w v (HeardCall id (Does call)) a more h = tt

all-later : (u : Setup) (w v : World) (xs : List (Request × Answer)) → w.next_link ≤ v.next_link → AllTell u w xs → AllTell u v xs
all-later u w v [] more h = tt
all-later u w v (x ∷ xs) more h = (tells-later u w v (heard x.0) x.1 more h.0, all-later u w v xs more h.1)

all-append : (u : Setup) (w : World) (xs ys : List (Request × Answer)) → AllTell u w xs → AllTell u w ys → AllTell u w (xs ++ ys)
all-append u w [] ys p q = q
all-append u w (x ∷ xs) ys p q = (p.0, all-append u w xs ys p.1 q)

holds-later : (u : Setup) (w v : World) (c : Client) (o : Option (List ℕ)) → w.next_link ≤ v.next_link → HoldsBy u w c o → HoldsBy u v c o
holds-later u w v c None more h = h
holds-later u w v c (Some token) more h = drawn-later u w v token more h

entry-later : Laws → (u : Setup) (w : World) (e : Entry) → IsSoundUnder u.key w → (machine u).is_legal w e ≡ true → w.next_link ≤ ((machine u).after w e).next_link
entry-later laws u w e sound legal =
    let s : Server World (IsSoundUnder u.key) = serial-server laws u in
    let v : View = (machine u).view w 0 in
    (goes-ask s.token 0 v e.link (v.holder e.link) e.ask e.outcome ((machine u).told w e) ((machine u).view ((machine u).after w e) 0) (s.answers w 0 e sound legal)).next

-- ---- a server end

record Handles (u : Setup) (w : World) (h : Heard) (x : Handled World) : Type 0 where
  later : w.next_link ≤ x.world.next_link
  tells : (a : Answer) → x.reply ≡ Some a → Tells u x.world h a

-- no reply, or one that tells no token
silent : (u : Setup) (w : World) (h : Heard) (a : Answer) → ((b : List ℕ) → a ≡ Fine b → ⊥) → Tells u w h a
silent u w HeardOpen a bad = tt
silent u w (HeardCall id Login) a bad = tt
silent u w (HeardCall id Token) a bad = λ b token fine is. absurd (bad b fine)
silent u w (HeardCall id (Rejoin x)) a bad = tt
silent u w (HeardCall id (Does call)) a bad = tt

-- of the session that has the link
abbrev CallTells : Setup → World → ℕ → Option ℕ → Body → Told → Type 0
CallTells u w id h body t = (a : Answer) (ends : Bool) → t ≡ Reply a ends → Tells u w (HeardCall id body) a

same-reply : (a b : Answer) (c d : Bool) → Reply a c ≡ Reply b d → a ≡ b
same-reply a b c d same = cc

same-token : (x y : List ℕ) → Some x ≡ Some y → x ≡ y
same-token x y same = cc

-- the token that a session is told is its own
token-drawn : Laws → (u : Setup) (w : World) (link moment id : ℕ) (o : Outcome) (h : Option ℕ) → IsSoundUnder u.key w → (view_at w 0).holder link ≡ h
    → AskLaw (session_token u.key) 0 ((machine u).view w 0) link h (Calls id Token) o ((machine u).told w (entry link moment (Calls id Token) o)) ((machine u).view ((machine u).after w (entry link moment (Calls id Token) o)) 0)
    → w.next_link ≤ ((machine u).after w (entry link moment (Calls id Token) o)).next_link
    → CallTells u ((machine u).after w (entry link moment (Calls id Token) o)) id h Token ((machine u).told w (entry link moment (Calls id Token) o))
token-drawn laws u w link moment id o None sound holds law later = λ a ends is. let e : Reply a ends ≡ Displaced = sym is ∙ law.0 in absurd (cc)
token-drawn laws u w link moment id o (Some k) sound holds (a, answers, tells) later =
    λ b ends is c token fine in_block.
    let s : Server World (IsSoundUnder u.key) = serial-server laws u in
    let same : a ≡ b = same-reply a b false ends (sym answers.told ∙ is) in
    let mine : Some token ≡ Some (session_token u.key k) = sym in_block ∙ tells c (same ∙ fine) in
    let less : k < w.next_link = s.held_is_drawn w k link sound holds in
    record { number = k; below = omega (arith, less, later); is = same-token token (session_token u.key k) mine }

call-tells : Laws → (u : Setup) (w : World) (link moment id : ℕ) (body : Body) (o : Outcome) → IsSoundUnder u.key w → (machine u).is_legal w (entry link moment (Calls id body) o) ≡ true
    → CallTells u ((machine u).after w (entry link moment (Calls id body) o)) id ((view_at w 0).holder link) body ((machine u).told w (entry link moment (Calls id body) o))
call-tells laws u w link moment id Login o sound legal = λ a ends is. tt
call-tells laws u w link moment id Token o sound legal =
    let e : Entry = entry link moment (Calls id Token) o in
    let s : Server World (IsSoundUnder u.key) = serial-server laws u in
    token-drawn laws u w link moment id o ((view_at w 0).holder link) sound refl (s.answers w 0 e sound legal) (entry-later laws u w e sound legal)
call-tells laws u w link moment id (Rejoin x) o sound legal = λ a ends is. tt
call-tells laws u w link moment id (Does call) o sound legal = λ a ends is. tt

some-answer : (a b : Answer) → Some a ≡ Some b → a ≡ b
some-answer a b same = cc

told-handles : (u : Setup) (w v : World) (es : List Entry) (e : End) (id : ℕ) (body : Body) (t : Told) (h : Option ℕ) → w.next_link ≤ v.next_link → CallTells u v id h body t → Handles u w (HeardCall id body) (call_told v es e body t)
told-handles u w v es e id body (Reply a ends) h later tells = record { later = later; tells = λ b is. subst (Tells u v (HeardCall id body)) (some-answer a b is) (tells a ends refl) }
told-handles u w v es e id body (Opened link) h later tells = record { later = later; tells = λ b is. absurd (cc) }
told-handles u w v es e id body Live h later tells = record { later = later; tells = λ b is. absurd (cc) }
told-handles u w v es e id body Parted h later tells = record { later = later; tells = λ b is. absurd (cc) }
told-handles u w v es e id body Displaced h later tells = record { later = later; tells = λ b is. absurd (cc) }

no-fine : (b : List ℕ) → NoMemory ≡ Fine b → ⊥
no-fine b is = absurd (cc)

call-handles : Laws → (u : Setup) (w : World) (moment : ℕ) (wish : Wish) (e : End) (link id : ℕ) (body : Body) → IsSoundUnder u.key w → link < numbers_end → Handles u w (HeardCall id body) (handles (machine u) w moment wish e (Some link) (HeardCall id body))
call-handles laws u w moment wish e link id body sound within =
    let s : Server World (IsSoundUnder u.key) = serial-server laws u in
    cond_both wish.memory (replied w [] e NoMemory) (call_by (machine u) w e body (call_entry (machine u) w link moment (Calls id body) wish.fault)) (Handles u w (HeardCall id body))
    (λ f. record { later = omega arith; tells = λ b is. subst (Tells u w (HeardCall id body)) (some-answer NoMemory b is) (silent u w (HeardCall id body) NoMemory no-fine) })
    (λ f. cond_both (wish.fault && (machine u).is_legal w (entry link moment (Calls id body) Fault)) (entry link moment (Calls id body) Fault) (entry link moment (Calls id body) Ran)
    (λ (x : Entry). Handles u w (HeardCall id body) (call_by (machine u) w e body x))
    (λ g. by Fault (and_parts wish.fault ((machine u).is_legal w (entry link moment (Calls id body) Fault)) g).1)
    (λ g. by Ran (s.ran_is_legal w link moment (Calls id body) within)))
  where
    by : (o : Outcome) → (machine u).is_legal w (entry link moment (Calls id body) o) ≡ true → Handles u w (HeardCall id body) (call_by (machine u) w e body (entry link moment (Calls id body) o))
    by o legal =
        let x : Entry = entry link moment (Calls id body) o in
        told-handles u w ((machine u).after w x) (x ∷ []) e id body ((machine u).told w x) ((view_at w 0).holder link) (entry-later laws u w x sound legal) (call-tells laws u w link moment id body o sound legal)

open-told-later : (u : Setup) (w v : World) (es : List Entry) (e : End) (t : Told) → w.next_link ≤ v.next_link → Handles u w HeardOpen (open_told v es e t)
open-told-later u w v es e (Opened link) later = record { later = later; tells = λ b is. tt }
open-told-later u w v es e (Reply a ends) later = record { later = later; tells = λ b is. tt }
open-told-later u w v es e Live later = record { later = later; tells = λ b is. tt }
open-told-later u w v es e Parted later = record { later = later; tells = λ b is. tt }
open-told-later u w v es e Displaced later = record { later = later; tells = λ b is. tt }

open-handles : Laws → (u : Setup) (w v : World) (swept : List Entry) (moment : ℕ) (wish : Wish) (e : End) → IsSoundUnder u.key v → w.next_link ≤ v.next_link → Handles u w HeardOpen (handles_open (machine u) v swept moment wish e)
open-handles laws u w v swept moment wish e sound later =
    let s : Server World (IsSoundUnder u.key) = serial-server laws u in
    let x : Entry = entry 0 moment Open Ran in
    cond_both wish.memory (replied v swept e NoMemory) (open_told ((machine u).after v x) (swept ++ x ∷ []) e ((machine u).told v x)) (Handles u w HeardOpen)
    (λ f. record { later = later; tells = λ b is. tt })
    (λ f. open-told-later u w ((machine u).after v x) (swept ++ x ∷ []) e ((machine u).told v x) (let more = entry-later laws u v x sound (s.ran_is_legal v 0 moment Open (omega arith)) in omega (arith, later, more)))

end-handles : Laws → (u : Setup) (w : World) (moment : ℕ) (wish : Wish) (e : End) (number : Option ℕ) (h : Heard) → IsSoundUnder u.key w → NumberFits number → Handles u w h (handles (machine u) w moment wish e number h)
end-handles laws u w moment wish e None HeardOpen sound within =
    let s : Server World (IsSoundUnder u.key) = serial-server laws u in
    let x : Entry = entry 0 moment Pulse Ran in
    let legal = s.ran_is_legal w 0 moment Pulse (omega arith) in
    cond_both wish.no_sweep (handles_open (machine u) w [] moment wish e) (handles_open (machine u) ((machine u).after w x) (x ∷ []) moment wish e) (Handles u w HeardOpen)
    (λ f. open-handles laws u w w [] moment wish e sound (omega arith))
    (λ f. open-handles laws u w ((machine u).after w x) (x ∷ []) moment wish e (s.stays_sound w x sound legal) (entry-later laws u w x sound legal))
end-handles laws u w moment wish e (Some link) HeardOpen sound within = record { later = omega arith; tells = λ b is. tt }
end-handles laws u w moment wish e None (HeardCall id body) sound within = record { later = omega arith; tells = λ b is. absurd (cc) }
end-handles laws u w moment wish e (Some link) (HeardCall id body) sound within = call-handles laws u w moment wish e link id body sound within.1

-- ---- the client

-- it is told a token that was drawn; and without one it is not ready, and has no results
abbrev IfHolds : Setup → World → Option Taken → Type 0
IfHolds u w None = Unit {0}
IfHolds u w (Some t) = Holds u w t.client

opens-holds : (u : Setup) (w : World) (c : Client) (stage : Stage) (tries : ℕ) (o : Option (List ℕ)) → (stage ≡ Ready → ⊥) → HoldsBy u w c o → HoldsBy u w (opens_with c stage tries) o
opens-holds u w c stage tries None off h = (off, h.1)
opens-holds u w c stage tries (Some token) off h = h

lost-holds : (u : Setup) (w : World) (c : Client) (o : Option (List ℕ)) → HoldsBy u w c o → HoldsBy u w (in_stage c Gone) o
lost-holds u w c None h = ((λ is. absurd (cc)), h.1)
lost-holds u w c (Some token) h = h

token-holds : (u : Setup) (w : World) (c : Client) (o : Option (List ℕ)) → ((token : List ℕ) → o ≡ Some token → IsDrawn u w token) → IfHolds u w (token_taken c o)
token-holds u w c None tells = tt
token-holds u w c (Some token) tells = tells token refl

step-holds : (u : Setup) (w : World) (c : Client) (stage : Stage) (token : Option (List ℕ)) (block : List ℕ) → Holds u w c → HoldsBy u w c token → c.token ≡ token
    → (stage ≡ Joining → token ≡ None → (t : List ℕ) → token_in block ≡ Some t → IsDrawn u w t) → IfHolds u w (step_taken c stage token block)
step-holds u w c Opening token block h k same tells = opens-holds u w c Entering 0 c.token (λ is. absurd (cc)) h
step-holds u w c Entering token block h k same tells = opens-holds u w c Joining 0 c.token (λ is. absurd (cc)) h
step-holds u w c Joining None block h k same tells = token-holds u w c (token_in block) (tells refl refl)
step-holds u w c Joining (Some token) block h k same tells = subst (λ (o : Option (List ℕ)). HoldsBy u w (in_stage c Ready) o) (sym same) k
step-holds u w c Ready token block h k same tells = tt
step-holds u w c Gone token block h k same tells = tt

-- what the reply to the last request of an opening tells
abbrev LastTells : Setup → World → Client → Answer → Type 0
LastTells u w c a = c.stage ≡ Joining → c.token ≡ None → (b t : List ℕ) → a ≡ Fine b → token_in b ≡ Some t → IsDrawn u w t

opening-holds : (u : Setup) (w : World) (c : Client) (a : Answer) → (c.stage ≡ Ready → ⊥) → Holds u w c → LastTells u w c a → IfHolds u w (opening_taken c a)
opening-holds u w c (Fine block) off h tells = step-holds u w c c.stage c.token block h h refl (λ joining none t is. tells joining none block t refl is)
opening-holds u w c NoMemory off h tells =
    cond_both (nat_lt c.tries 3) (wrote (opens_with c c.stage (suc c.tries)) (same_request c c.stage ∷ [])) (wrote (in_stage c Gone) []) (IfHolds u w) (λ e. opens-holds u w c c.stage (suc c.tries) c.token off h) (λ e. lost-holds u w c c.token h)
opening-holds u w c MiscErr off h tells = lost-holds u w c c.token h
opening-holds u w c (Refuses code block) off h tells = lost-holds u w c c.token h

-- a client that is ready has a token, and keeps it
ready-holds : (u : Setup) (w : World) (c d : Client) (o : Option (List ℕ)) → c.stage ≡ Ready → HoldsBy u w c o → HoldsBy u w d o
ready-holds u w c d None ready h = absurd (h.0 ready)
ready-holds u w c d (Some token) ready h = h

reply-holds : (u : Setup) (w : World) (c : Client) (x : Wait) (a : Answer) → c.stage ≡ Ready → Holds u w c → IfHolds u w (reply_taken c x a)
reply-holds u w c x (Fine block) ready h = ready-holds u w c (with_result c x (Fine block)) c.token ready h
reply-holds u w c x MiscErr ready h = ready-holds u w c (with_result c x MiscErr) c.token ready h
reply-holds u w c x (Refuses code block) ready h = ready-holds u w c (with_result c x (Refuses code block)) c.token ready h
reply-holds u w c x NoMemory ready h =
    cond_both (nat_lt x.tries 3) (wrote (sent_again c x) (Asks (id_of c.first c.drawn) (Does x.call) false ∷ [])) (wrote (with_result c x NoMemory) []) (IfHolds u w) (λ e. ready-holds u w c (sent_again c x) c.token ready h)
    (λ e. ready-holds u w c (with_result c x NoMemory) c.token ready h)

waiting-holds : (u : Setup) (w : World) (c : Client) (wait : Option Wait) (tag : Tag) (a : Answer) → c.stage ≡ Ready → Holds u w c → IfHolds u w (waiting_taken c wait tag a)
waiting-holds u w c None tag a ready h = tt
waiting-holds u w c (Some x) OfOpening a ready h = tt
waiting-holds u w c (Some x) (OfCall id) a ready h = cond_both (nat_eq id x.id) (reply_taken c x a) None (IfHolds u w) (λ e. reply-holds u w c x a ready h) (λ e. tt)

takes-holds : (u : Setup) (w : World) (c : Client) (stage : Stage) (tag : Tag) (a : Answer) → c.stage ≡ stage → Holds u w c → LastTells u w c a → IfHolds u w (client_takes c stage tag a)
takes-holds u w c Opening tag a is h tells = opening-holds u w c a (λ ready. let e : Opening ≡ Ready = sym is ∙ ready in absurd (cc)) h tells
takes-holds u w c Entering tag a is h tells = opening-holds u w c a (λ ready. let e : Entering ≡ Ready = sym is ∙ ready in absurd (cc)) h tells
takes-holds u w c Joining tag a is h tells = opening-holds u w c a (λ ready. let e : Joining ≡ Ready = sym is ∙ ready in absurd (cc)) h tells
takes-holds u w c Ready tag a is h tells = waiting-holds u w c c.wait tag a is h
takes-holds u w c Gone tag a is h tells = tt

-- ---- event by event

-- what is under way tells still
tells-each : (u : Setup) (net : Net World) (v : World) → net.world.next_link ≤ v.next_link → Draws u net → (i : ℕ) → AllTell u v (net.links i).down
tells-each u net v later d i = all-later u net.world v (net.links i).down later (d.each i)

-- the parts that Draws has beside what fits
abbrev Parts : Setup → Net World → Type 0
Parts u net = Holds u net.world net.client × ((i : ℕ) → AllTell u net.world (net.links i).down)

ends-parts : (u : Setup) (net : Net World) (i : ℕ) → Parts u net → Parts u (net_ends net i)
ends-parts u net i h =
    (h.0, upd net.links i (record { end = ended_end (net.links i).end; up = (net.links i).up; down = (net.links i).down }) (λ k (y : Carrier). AllTell u net.world y.down) (h.1 i) (λ k off. h.1 k))

asks-parts : Laws → (u : Setup) (net : Net World) (e : Entry) → (machine u).is_legal net.world e ≡ true → Draws u net → Parts u (net_tells (machine u) net e)
asks-parts laws u net e legal d =
    let later = entry-later laws u net.world e d.fits.sound legal in
    (holds-later u net.world ((machine u).after net.world e) net.client net.client.token later d.client, tells-each u net ((machine u).after net.world e) later d)

quiet-by-parts : (u : Setup) (net : Net World) (i : ℕ) (t : Told) → Parts u net → Parts u (net_quiet_by net i t)
quiet-by-parts u net i Displaced h = ends-parts u net i h
quiet-by-parts u net i (Opened link) h = h
quiet-by-parts u net i (Reply a ends) h = h
quiet-by-parts u net i Live h = h
quiet-by-parts u net i Parted h = h

quiet-parts : Laws → (u : Setup) (net : Net World) (i moment : ℕ) (wish : Wish) (b : Bool) (number : Option ℕ) → NumberFits number → Draws u net → Parts u (net_quiet (machine u) net i moment wish b number)
quiet-parts laws u net i moment wish true number within d = (d.client, d.each)
quiet-parts laws u net i moment wish false None within d = (d.client, d.each)
quiet-parts laws u net i moment wish false (Some link) within d =
    let s : Server World (IsSoundUnder u.key) = serial-server laws u in
    let e : Entry = entry link moment Pulse Ran in
    cond_both wish.memory net (net_quiet_by (net_tells (machine u) net e) i ((machine u).told net.world e)) (Parts u) (λ f. (d.client, d.each))
    (λ f. quiet-by-parts u (net_tells (machine u) net e) i ((machine u).told net.world e) (asks-parts laws u net e (s.ran_is_legal net.world link moment Pulse within.1) d))

parts-parts : Laws → (u : Setup) (net : Net World) (i moment : ℕ) (wish : Wish) (ask : Ask) (b : Bool) (number : Option ℕ) → NumberFits number → Draws u net → Parts u (net_parts (machine u) net i moment wish ask b number)
parts-parts laws u net i moment wish ask true number within d = (d.client, d.each)
parts-parts laws u net i moment wish ask false None within d = ends-parts u net i (d.client, d.each)
parts-parts laws u net i moment wish ask false (Some link) within d =
    let s : Server World (IsSoundUnder u.key) = serial-server laws u in
    let e : Entry = entry link moment ask Ran in
    cond_both wish.memory net (net_tells (machine u) net e) (λ (y : Net World). Parts u (net_ends y i)) (λ f. ends-parts u net i (d.client, d.each))
    (λ f. ends-parts u (net_tells (machine u) net e) i (asks-parts laws u net e (s.ran_is_legal net.world link moment ask within.1) d))

replies-tell : (u : Setup) (w : World) (r : Request) (o : Option Answer) → ((a : Answer) → o ≡ Some a → Tells u w (heard r) a) → AllTell u w (replies_of r o)
replies-tell u w r None tells = tt
replies-tell u w r (Some a) tells = (tells a refl, tt)

arrives-parts : Laws → (u : Setup) (net : Net World) (i moment : ℕ) (wish : Wish) (rs : List Request) → Draws u net → Parts u (net_arrives (machine u) net i moment wish rs)
arrives-parts laws u net i moment wish [] d = (d.client, d.each)
arrives-parts laws u net i moment wish (r ∷ rest) d =
    let h : Handled World = handles (machine u) net.world moment wish (net.links i).end (net.links i).end.number (heard r) in
    let x = end-handles laws u net.world moment wish (net.links i).end (net.links i).end.number (heard r) d.fits.sound (d.fits.each i).number in (
      holds-later u net.world h.world net.client net.client.token x.later d.client,
      upd net.links i (record { end = h.end; up = rest; down = (net.links i).down ++ replies_of r h.reply }) (λ k (y : Carrier). AllTell u h.world y.down)
          (all-append u h.world (net.links i).down (replies_of r h.reply) (tells-each u net h.world x.later d i) (replies-tell u h.world r h.reply x.tells)) (λ k off. tells-each u net h.world x.later d k),
    )

to-server-parts : Laws → (u : Setup) (net : Net World) (i moment : ℕ) (wish : Wish) (b : Bool) → Draws u net → Parts u (net_to_server (machine u) net i moment wish b)
to-server-parts laws u net i moment wish true d = (d.client, d.each)
to-server-parts laws u net i moment wish false d = arrives-parts laws u net i moment wish (net.links i).up d

taken-parts : (u : Setup) (net : Net World) (rest : List (Request × Answer)) (o : Option Taken) → IfHolds u net.world o → AllTell u net.world rest → Draws u net → Parts u (net_taken net rest o)
taken-parts u net rest None holds tells d = (d.client, d.each)
taken-parts u net rest (Some t) holds tells d = (
  holds,
  upd net.links net.top _ (λ k (y : Carrier). AllTell u net.world y.down) tells (λ k off. d.each k),
)

-- the reply to the last request of an opening without a token tells one that was drawn
last-tells : (u : Setup) (w : World) (c : Client) (h : Heard) (a : Answer) → request_that_waits c c.stage ≡ Some h → Tells u w h a → LastTells u w c a
last-tells u w c h a waits tells joining none =
    let is : Some (HeardCall c.opening_id Token) ≡ Some h = sym (ap (request_that_waits c) joining ∙ ap (λ (o : Option (List ℕ)). Some (HeardCall c.opening_id (last_body o))) none) ∙ waits in
    let same : HeardCall c.opening_id Token ≡ h = cc in
    subst (λ (x : Heard). Tells u w x a) (sym same) tells

not-gone : (c : Client) (h : Heard) → request_that_waits c c.stage ≡ Some h → c.stage ≡ Gone → ⊥
not-gone c h waits gone = let e : None ≡ Some h = sym (ap (request_that_waits c) gone) ∙ waits in absurd (cc)

to-client-parts : (u : Setup) (net : Net World) (downs : List (Request × Answer)) → AllTell u net.world downs → ((net.client.stage ≡ Gone → ⊥) → AreToThat (request_that_waits net.client net.client.stage) downs) → Draws u net → Parts u (net_to_client net downs)
to-client-parts u net [] tells that d = (d.client, d.each)
to-client-parts u net (x ∷ rest) tells that d = by net.client.stage refl
  where
    tag : Tag
    tag = tag_of (heard x.0)

    alive : (net.client.stage ≡ Gone → ⊥) → Parts u (net_to_client net (x ∷ rest))
    alive live =
        taken-parts u net rest (client_takes net.client net.client.stage tag x.1)
        (takes-holds u net.world net.client net.client.stage tag x.1 refl d.client (last-tells u net.world net.client (heard x.0) x.1 (that live).0 tells.0)) tells.1 d

    by : (stage : Stage) → net.client.stage ≡ stage → Parts u (net_to_client net (x ∷ rest))
    by Gone is = subst (λ (st : Stage). Parts u (net_taken net rest (client_takes net.client st tag x.1))) (sym is) (d.client, d.each)
    by Opening is = alive (λ gone. let e : Opening ≡ Gone = sym is ∙ gone in absurd (cc))
    by Entering is = alive (λ gone. let e : Entering ≡ Gone = sym is ∙ gone in absurd (cc))
    by Joining is = alive (λ gone. let e : Joining ≡ Gone = sym is ∙ gone in absurd (cc))
    by Ready is = alive (λ gone. let e : Ready ≡ Gone = sym is ∙ gone in absurd (cc))

commands-parts : (u : Setup) (net : Net World) (stage : Stage) (wait : Option Wait) (call : Call) → net.client.stage ≡ stage → Draws u net → Parts u (net_commands net stage wait call)
commands-parts u net Ready None call is d = (
  ready-holds u net.world net.client (draws net.client call 0 net.client.row net.client.results) net.client.token is d.client,
  upd net.links net.top _ (λ k (y : Carrier). AllTell u net.world y.down) (d.each net.top) (λ k off. d.each k),
)
commands-parts u net Ready (Some w) call is d = (d.client, d.each)
commands-parts u net Opening wait call is d = (d.client, d.each)
commands-parts u net Entering wait call is d = (d.client, d.each)
commands-parts u net Joining wait call is d = (d.client, d.each)
commands-parts u net Gone wait call is d = (d.client, d.each)

anew-off : (stage : Stage) → stage_anew stage ≡ Ready → ⊥
anew-off Opening is = absurd (cc)
anew-off Entering is = absurd (cc)
anew-off Joining is = absurd (cc)
anew-off Ready is = absurd (cc)
anew-off Gone is = absurd (cc)

begins-holds : (u : Setup) (w : World) (c : Client) (o : Option (List ℕ)) → HoldsBy u w c o → HoldsBy u w (begins c) o
begins-holds u w c None h = (anew-off c.stage, h.1)
begins-holds u w c (Some token) h = h

breaks-parts : (u : Setup) (net : Net World) → Draws u net → Parts u (net_breaks net)
breaks-parts u net d = (
  begins-holds u net.world net.client net.client.token d.client,
  upd net.links (suc net.top) (record { end = fresh_end; up = Opens ∷ []; down = [] }) (λ k (y : Carrier). AllTell u net.world y.down) tt (λ k off. d.each k),
)

abbrev ToThat : Net World → Type 0
ToThat net = (net.client.stage ≡ Gone → ⊥) → AreToThat (request_that_waits net.client net.client.stage) (net.links net.top).down

event-parts : Laws → (u : Setup) (net : Net World) (e : Event) → IsLegal (machine u) net.world e → ToThat net → Draws u net → Parts u (net_step (machine u) net e)
event-parts laws u net (Commands call) legal that d = commands-parts u net net.client.stage net.client.wait call refl d
event-parts laws u net (ToServer i moment wish) legal that d = to-server-parts laws u net i moment wish (net.links i).end.ended d
event-parts laws u net ToClient legal that d = to-client-parts u net (net.links net.top).down (d.each net.top) that d
event-parts laws u net (Quiet i moment wish) legal that d = quiet-parts laws u net i moment wish (net.links i).end.ended (net.links i).end.number (d.fits.each i).number d
event-parts laws u net (Loses i moment wish) legal that d = parts-parts laws u net i moment wish Lost (net.links i).end.ended (net.links i).end.number (d.fits.each i).number d
event-parts laws u net (Drains i moment wish) legal that d = parts-parts laws u net i moment wish Bye (net.links i).end.ended (net.links i).end.number (d.fits.each i).number d
event-parts laws u net (Ends i) legal that d = ends-parts u net i (d.client, d.each)
event-parts laws u net Breaks legal that d = breaks-parts u net d
event-parts laws u net (Others e) legal that d = asks-parts laws u net e legal d

-- a token that was drawn fits
token-fits-by : Laws → (u : Setup) (w : World) (c : Client) (o : Option (List ℕ)) → HoldsBy u w c o → TokenFits o
token-fits-by laws u w c None h = tt
token-fits-by laws u w c (Some token) h = let s : Server World (IsSoundUnder u.key) = serial-server laws u in subst (λ (t : List ℕ). TokenFits (Some t)) (sym h.is) (s.tokens_fit h.number)

event-draws : Laws → (u : Setup) (net : Net World) (e : Event) → IsLegal (machine u) net.world e → ToThat net → Draws u net → Draws u (net_step (machine u) net e)
event-draws laws u net e legal that d =
    let parts = event-parts laws u net e legal that d in
    record { fits = net-fits (serial-server laws u) net e (token-fits-by laws u net.world net.client net.client.token d.client) legal d.fits; client = parts.0; each = parts.1 }

-- ---- along a schedule

run-more : (u : Setup) (net : Net World) (xs : List Event) (e : Event) → net_run (machine u) net (xs ++ e ∷ []) ≡ net_step (machine u) (net_run (machine u) net xs) e
run-more u net [] e = refl
run-more u net (x ∷ xs) e = run-more u (net_step (machine u) net x) xs e

along : Laws → (u : Setup) (w : World) (past es : List Event) → Draws u (net_run (machine u) (net_start w) past) → AllLegal u (net_run (machine u) (net_start w) past) es → Draws u (net_run (machine u) (net_run (machine u) (net_start w) past) es)
along laws u w past [] d legal = d
along laws u w past (e ∷ es) d legal =
    let net : Net World = net_run (machine u) (net_start w) past in
    let same = run-more u (net_start w) past e in
    let next : Draws u (net_step (machine u) net e) = event-draws laws u net e legal.0 (λ live. (only-the-waiting (machine u) w past live).1) d in
    subst (λ (n : Net World). Draws u (net_run (machine u) n es)) same (along laws u w (past ++ e ∷ []) es (subst (Draws u) (sym same) next) (subst (λ (n : Net World). AllLegal u n es) (sym same) legal.1))

abbrev no_carrier : Carrier
no_carrier = record { end = fresh_end; up = []; down = [] }

starts : (u : Setup) (w : World) → IsSoundUnder u.key w → Draws u (net_start w)
starts u w sound = record {
  fits = net-starts (IsSoundUnder u.key) w sound;
  client = ((λ is. absurd (cc)), refl);
  each = upd (λ j. no_carrier) 0 (record { end = fresh_end; up = Opens ∷ []; down = [] }) (λ k (y : Carrier). AllTell u w y.down) tt (λ k off. tt);
}

none-by : (u : Setup) (w : World) (c : Client) (o : Option (List ℕ)) → HoldsBy u w c o → o ≡ None → c.results ≡ []
none-by u w c None h is = h.1
none-by u w c (Some token) h is = absurd (cc)

drawn-by : (u : Setup) (w : World) (c : Client) (o : Option (List ℕ)) (token : List ℕ) → HoldsBy u w c o → o ≡ Some token → IsDrawn u w token
drawn-by u w c None token h is = absurd (cc)
drawn-by u w c (Some x) token h is = subst (IsDrawn u w) (same-token x token is) h

pub tokens-drawn : Laws → TokensAreDrawn
tokens-drawn laws u w events sound legal =
    let d = along laws u w [] events (starts u w sound) legal in
    let net : Net World = net_run (machine u) (net_start w) events in
    record { none = none-by u net.world net.client net.client.token d.client; drawn = λ token is. drawn-by u net.world net.client net.client.token token d.client is }
