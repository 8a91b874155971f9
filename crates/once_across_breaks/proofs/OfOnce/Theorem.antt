-- Each command once and in order, over every schedule.
use Rattle.std.proofs.Common.{◌≡◌, ◌∙◌, inl, inr, refl, sym, ap, ℕ, suc, ◌<◌, Bool, true, false, List, [], ◌∷◌, Option, Some, None, arith}
use Rattle.std.specs.Prelude.{nat_eq, nat_lt}
use Rattle.std.proofs.lemmas.Bool.{cond_both, cases_lt}
use Rattle.once_across_breaks.specs.once.Messages.{Call, Body, Does, Answer, Fine, MiscErr, NoMemory, Refuses}
use Rattle.once_across_breaks.specs.once.Server.{numbers_end, Ask, Open, Calls, Pulse, Bye, Lost, Told, Opened, Reply, Live as Alive, Parted, Displaced, Ran, entry, Server}
use Rattle.once_across_breaks.specs.once.Run.{Request, Opens, Asks, Slot, Idle, Coming, Going, Link, blank, Stage, Opening, Entering, Joining, Ready, Gone, Wait, Run, Wish, id_of, with_slot, with_link, tells, ends_link, replies, chosen, calls_by, opens_by, opens_told, opens, arrives, to_server, quiet_by, quiet_told, quiet, parts}
use Rattle.once_across_breaks.proofs.OfOnce.Steps.{upd}
use Rattle.once_across_breaks.specs.once.Run.{with_client, commands, opens_with, in_stage, again, same_request, steps_on, takes_step, with_result, sent_again, takes_reply, takes_for, takes, to_client, Event, Commands, ToServer, ToClient, Quiet, Loses, Drains, Ends, Breaks, Others, step, run_of, start}
use Rattle.once_across_breaks.specs.once.Once.{Allowed, AllAllowed, IsOutstanding, OnceInOrder, CommandsOnce, NoneWithoutToken}
use Rattle.once_across_breaks.proofs.OfOnce.Scene.{outstanding}
use Rattle.once_across_breaks.proofs.OfOnce.Events.{step-held, set-off}
use Rattle.once_across_breaks.proofs.OfOnce.Early.{EarlyRun, EarlyLink, undrawn, foreign}
use Rattle.once_across_breaks.proofs.OfOnce.EarlyEvents.{Always, early, holds, elsewhere, step-early}

-- ---- a token is kept

abbrev HasToken : {W : Type 0} → List ℕ → Run W → Type 0
HasToken t run = run.client.token ≡ Some t

keeps-replies : {W : Type 0} (t : List ℕ) (run : Run W) (i id : ℕ) (body : Body) (again : Bool) (told : Told) → HasToken t run → HasToken t (replies run i id body again told)
keeps-replies t run i id body again (Reply a ends) h = h
keeps-replies t run i id body again (Opened link) h = h
keeps-replies t run i id body again Alive h = h
keeps-replies t run i id body again Parted h = h
keeps-replies t run i id body again Displaced h = h

keeps-opens-by : {W : Type 0} (t : List ℕ) (run : Run W) (i : ℕ) (told : Told) → HasToken t run → HasToken t (opens_by run i told)
keeps-opens-by t run i (Reply a ends) h = h
keeps-opens-by t run i (Opened link) h = h
keeps-opens-by t run i Alive h = h
keeps-opens-by t run i Parted h = h
keeps-opens-by t run i Displaced h = h

keeps-opens : {W : Type 0} {Sound : W → Type 0} (s : Server W Sound) (t : List ℕ) (run : Run W) (i moment : ℕ) (memory : Bool) → HasToken t run → HasToken t (opens s.machine run i moment memory)
keeps-opens s t run i moment memory h = cond_both memory (with_link run i (with_slot (run.links i) (Going Opens NoMemory))) (opens_told s.machine run i (entry 0 moment Open Ran)) (HasToken t) (λ e. h) (λ e. keeps-opens-by t (tells s.machine run (entry 0 moment Open Ran)) i (s.told run.world (entry 0 moment Open Ran)) h)

keeps-arrives : {W : Type 0} {Sound : W → Type 0} (s : Server W Sound) (t : List ℕ) (run : Run W) (i moment : ℕ) (wish : Wish) (number : Option ℕ) (slot : Slot) → HasToken t run → HasToken t (arrives s.machine run i moment wish number slot)
keeps-arrives s t run i moment wish None Idle h = h
keeps-arrives s t run i moment wish (Some link) Idle h = h
keeps-arrives s t run i moment wish None (Going r a) h = h
keeps-arrives s t run i moment wish (Some link) (Going r a) h = h
keeps-arrives s t run i moment wish None (Coming Opens) h =
    cond_both wish.no_sweep run (tells s.machine run (entry 0 moment Pulse Ran)) (λ r. HasToken t (opens s.machine r i moment wish.memory)) (λ e. keeps-opens s t run i moment wish.memory h) (λ e. keeps-opens s t (tells s.machine run (entry 0 moment Pulse Ran)) i moment wish.memory h)
keeps-arrives s t run i moment wish (Some link) (Coming Opens) h = h
keeps-arrives s t run i moment wish None (Coming (Asks id body again)) h = h
keeps-arrives s t run i moment wish (Some link) (Coming (Asks id body again)) h =
    cond_both wish.memory (with_link run i (with_slot (run.links i) (Going (Asks id body again) NoMemory))) (calls_by s.machine run i id body again (chosen s.machine run link moment (Calls id body) wish.fault)) (HasToken t) (λ e. h)
    (λ e. keeps-replies t (tells s.machine run (chosen s.machine run link moment (Calls id body) wish.fault)) i id body again (s.told run.world (chosen s.machine run link moment (Calls id body) wish.fault)) h)

keeps-to-server : {W : Type 0} {Sound : W → Type 0} (s : Server W Sound) (t : List ℕ) (run : Run W) (i moment : ℕ) (wish : Wish) (ended : Bool) → HasToken t run → HasToken t (to_server s.machine run i moment wish ended)
keeps-to-server s t run i moment wish true h = h
keeps-to-server s t run i moment wish false h = keeps-arrives s t run i moment wish (run.links i).number (run.links i).slot h

keeps-commands : {W : Type 0} (t : List ℕ) (run : Run W) (stage : Stage) (wait : Option Wait) (call : Call) → HasToken t run → HasToken t (commands run stage wait call)
keeps-commands t run Ready None call h = h
keeps-commands t run Ready (Some w) call h = h
keeps-commands t run Opening wait call h = h
keeps-commands t run Entering wait call h = h
keeps-commands t run Joining wait call h = h
keeps-commands t run Gone wait call h = h

keeps-steps-on : {W : Type 0} (t : List ℕ) (run : Run W) (stage : Stage) (token : Option (List ℕ)) (b : List ℕ) → run.client.token ≡ token → HasToken t run → HasToken t (steps_on run stage token b)
keeps-steps-on t run Opening token b is h = h
keeps-steps-on t run Entering token b is h = h
keeps-steps-on t run Joining None b is h = absurd (let e : None ≡ Some t = sym is ∙ h in cc)
keeps-steps-on t run Joining (Some x) b is h = h
keeps-steps-on t run Ready token b is h = h
keeps-steps-on t run Gone token b is h = h

keeps-takes-step : {W : Type 0} (t : List ℕ) (run : Run W) (a : Answer) → HasToken t run → HasToken t (takes_step run a)
keeps-takes-step t run (Fine b) h = keeps-steps-on t run run.client.stage run.client.token b refl h
keeps-takes-step t run NoMemory h = cond_both (nat_lt run.client.tries 3) (with_client run (opens_with run.client run.client.stage (suc run.client.tries)) (Coming (same_request run.client run.client.stage))) (with_client run (in_stage run.client Gone) Idle) (HasToken t) (λ e. h) (λ e. h)
keeps-takes-step t run MiscErr h = h
keeps-takes-step t run (Refuses code block) h = h

keeps-takes-reply : {W : Type 0} (t : List ℕ) (run : Run W) (w : Wait) (a : Answer) → HasToken t run → HasToken t (takes_reply run w a)
keeps-takes-reply t run w (Fine b) h = h
keeps-takes-reply t run w MiscErr h = h
keeps-takes-reply t run w (Refuses code block) h = h
keeps-takes-reply t run w NoMemory h = cond_both (nat_lt w.tries 3) (with_client run (sent_again run.client w) (Coming (Asks (id_of run.client.first run.client.drawn) (Does w.call) false))) (with_client run (with_result run.client w NoMemory) Idle) (HasToken t) (λ e. h) (λ e. h)

keeps-takes-for : {W : Type 0} (t : List ℕ) (run : Run W) (wait : Option Wait) (r : Request) (a : Answer) → HasToken t run → HasToken t (takes_for run wait r a)
keeps-takes-for t run None r a h = h
keeps-takes-for t run (Some w) Opens a h = h
keeps-takes-for t run (Some w) (Asks id body again) a h = cond_both (nat_eq id w.id) (takes_reply run w a) run (HasToken t) (λ e. keeps-takes-reply t run w a h) (λ e. h)

keeps-to-client : {W : Type 0} (t : List ℕ) (run : Run W) (slot : Slot) → HasToken t run → HasToken t (to_client run slot)
keeps-to-client t run Idle h = h
keeps-to-client t run (Coming r) h = h
keeps-to-client t run (Going r a) h = by run.client.stage
  where
    by : (stage : Stage) → HasToken t (takes run stage r a)
    by Opening = keeps-takes-step t run a h
    by Entering = keeps-takes-step t run a h
    by Joining = keeps-takes-step t run a h
    by Ready = keeps-takes-for t run run.client.wait r a h
    by Gone = h

keeps-quiet-by : {W : Type 0} (t : List ℕ) (run : Run W) (i : ℕ) (told : Told) → HasToken t run → HasToken t (quiet_by run i told)
keeps-quiet-by t run i (Reply a ends) h = h
keeps-quiet-by t run i (Opened link) h = h
keeps-quiet-by t run i Alive h = h
keeps-quiet-by t run i Parted h = h
keeps-quiet-by t run i Displaced h = h

keeps-quiet : {W : Type 0} {Sound : W → Type 0} (s : Server W Sound) (t : List ℕ) (run : Run W) (i moment : ℕ) (wish : Wish) (ended : Bool) (number : Option ℕ) → HasToken t run → HasToken t (quiet s.machine run i moment wish ended number)
keeps-quiet s t run i moment wish true number h = h
keeps-quiet s t run i moment wish false None h = h
keeps-quiet s t run i moment wish false (Some link) h = cond_both wish.memory run (quiet_told s.machine run i (entry link moment Pulse Ran)) (HasToken t) (λ e. h) (λ e. keeps-quiet-by t (tells s.machine run (entry link moment Pulse Ran)) i (s.told run.world (entry link moment Pulse Ran)) h)

keeps-parts : {W : Type 0} {Sound : W → Type 0} (s : Server W Sound) (t : List ℕ) (run : Run W) (i moment : ℕ) (wish : Wish) (ask : Ask) (ended : Bool) (number : Option ℕ) → HasToken t run → HasToken t (parts s.machine run i moment wish ask ended number)
keeps-parts s t run i moment wish ask true number h = h
keeps-parts s t run i moment wish ask false None h = h
keeps-parts s t run i moment wish ask false (Some link) h = cond_both wish.memory run (tells s.machine run (entry link moment ask Ran)) (λ r. HasToken t (ends_link r i)) (λ e. h) (λ e. h)

keeps-token : {W : Type 0} {Sound : W → Type 0} (s : Server W Sound) (t : List ℕ) (run : Run W) (e : Event) → HasToken t run → HasToken t (step s.machine run e)
keeps-token s t run (Commands call) h = keeps-commands t run run.client.stage run.client.wait call h
keeps-token s t run (ToServer i moment wish) h = keeps-to-server s t run i moment wish (run.links i).ended h
keeps-token s t run ToClient h = keeps-to-client t run (run.links run.top).slot h
keeps-token s t run (Quiet i moment wish) h = keeps-quiet s t run i moment wish (run.links i).ended (run.links i).number h
keeps-token s t run (Loses i moment wish) h = keeps-parts s t run i moment wish Lost (run.links i).ended (run.links i).number h
keeps-token s t run (Drains i moment wish) h = keeps-parts s t run i moment wish Bye (run.links i).ended (run.links i).number h
keeps-token s t run (Ends i) h = h
keeps-token s t run Breaks h = h
keeps-token s t run (Others e) h = h

-- ---- every run

pub always-step : {W : Type 0} {Sound : W → Type 0} (s : Server W Sound) (n : ℕ) (w0 : W) (run : Run W) (e : Event) → Allowed s.machine n run e → run.client.row < 1900 → Always s n w0 run → Always s n w0 (step s.machine run e)
always-step s n w0 run e ok less (early h) = step-early s n w0 run e ok h
always-step s n w0 run e ok less (holds (ex, h)) = holds (step-held s n w0 ex run e ok less h)
always-step s n w0 run e ok less (elsewhere k is other) = elsewhere k (keeps-token s (s.token k) run e is) other

always-run : {W : Type 0} {Sound : W → Type 0} (s : Server W Sound) (n : ℕ) (w0 : W) (run : Run W) (events : List Event) → AllAllowed s.machine n run events → run.client.row < 1900 → Always s n w0 run → Always s n w0 (run_of s.machine run events)
always-run s n w0 run [] ok less h = h
always-run s n w0 run (e ∷ es) (first, next, rest) less h = always-run s n w0 (step s.machine run e) es rest next (always-step s n w0 run e first less h)

pub starts : {W : Type 0} {Sound : W → Type 0} (s : Server W Sound) (n : ℕ) (w : W) → Sound w → n < numbers_end → EarlyRun s n w (start w)
starts s n w sound small =
    record {
      small = small;
      stands = record { sound = sound; is = refl };
      token = refl;
      wait = refl;
      results = refl;
      stage = tt;
      numbers = record { apart = λ i j l p q. absurd (none i l p); drawn = λ i l p. absurd (none i l p); later = λ j more. (ap (λ (l : Link). l.number) (off j more), ap (λ (l : Link). l.slot) (off j more)) };
      each = upd (λ j. blank) 0 x (λ k l. EarlyLink s.token (s.view w n) l) (record { got = refl; slot = tt; holds = λ l k is. absurd (cc) }) (λ k other. record { got = refl; slot = tt; holds = λ l k is. absurd (cc) });
      origin = elim (cases_lt n (s.view w n).next) [
        | inl less ↦ foreign less (λ j. none j n)
        | inr more ↦ undrawn more refl
      ];
    }
  where
    x : Link
    x = with_slot blank (Coming Opens)

    none : (i l : ℕ) → ((start w).links i).number ≡ Some l → ⊥
    none i l = upd (λ j. blank) 0 x (λ k y. y.number ≡ Some l → ⊥) (λ e. absurd (cc)) (λ k other e. absurd (cc)) i

    off : (j : ℕ) → 0 < j → (start w).links j ≡ blank
    off j more = set-off (λ k. blank) 0 x j (λ e. absurd (omega arith))

outstanding-is : (wait : Option Wait) (ex : Option Answer) → IsOutstanding (outstanding wait ex) wait
outstanding-is None ex = tt
outstanding-is (Some w) None = tt
outstanding-is (Some w) (Some a) = (refl, refl)

reads : {W : Type 0} {Sound : W → Type 0} (s : Server W Sound) (n : ℕ) (w0 : W) (run : Run W) → Always s n w0 run → run.client.token ≡ Some (s.token n) → OnceInOrder s.machine n w0 run
reads s n w0 run (early h) is = absurd (let e : None ≡ Some (s.token n) = sym h.token ∙ is in cc)
reads s n w0 run (holds (ex, h)) is = record { more = outstanding run.client.wait ex; effects = h.held.effects; at_most = outstanding-is run.client.wait ex }
reads s n w0 run (elsewhere k has other) is = absurd (other (let e : Some (s.token k) ≡ Some (s.token n) = sym has ∙ is in cc))

pub commands-once : {W : Type 0} {Sound : W → Type 0} (s : Server W Sound) → CommandsOnce Sound s.machine
commands-once s w n events sound small ok is = reads s n w (run_of s.machine (start w) events) (always-run s n w (start w) events ok (omega arith) (early (starts s n w sound small))) is

reads-none : {W : Type 0} {Sound : W → Type 0} (s : Server W Sound) (n : ℕ) (w0 : W) (run : Run W) → Always s n w0 run → run.client.token ≡ None → run.client.results ≡ []
reads-none s n w0 run (early h) is = h.results
reads-none s n w0 run (holds (ex, h)) is = absurd (let e : None ≡ Some (s.token n) = sym is ∙ h.held.token in cc)
reads-none s n w0 run (elsewhere k has other) is = absurd (let e : None ≡ Some (s.token k) = sym is ∙ has in cc)

pub none-without-token : {W : Type 0} {Sound : W → Type 0} (s : Server W Sound) → NoneWithoutToken Sound s.machine
none-without-token s w n events sound small ok is = reads-none s n w (run_of s.machine (start w) events) (always-run s n w (start w) events ok (omega arith) (early (starts s n w sound small))) is
