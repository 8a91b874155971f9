-- Events at one link: the client stays, and what is under way fits.
use Rattle.std.proofs.Common.{◌≡◌, ◌∙◌, refl, sym, subst, ℕ, Bool, true, false, List, [], ◌∷◌, ◌++◌, Option, Some, None}
use Rattle.std.proofs.lemmas.Bool.{cond_both}
use Rattle.afp_serial.specs.declared.ask.Entry as entries
use Rattle.afp_serial.specs.World.{World}
use Rattle.once_across_breaks.specs.once.Frames.{Net, net_arrives, net_ends, net_parts, net_quiet, net_quiet_by, net_run, net_step, net_tells, net_to_server}
use Rattle.once_across_breaks.specs.once.Run.{Breaks, Client, Commands, Drains, Ends, Event, Loses, Others, Quiet, Request, ToClient, ToServer, Wish}
use Rattle.once_across_breaks.specs.once.Serial.{IsSoundUnder, Setup, machine}
use Rattle.once_across_breaks.specs.once.Server.{Ask, Bye, Displaced, Live, Lost, Opened, Parted, Pulse, Ran, Reply, Told, entry}
use Rattle.once_across_breaks.specs.once.Tokens.{AllLegal}
use Rattle.once_across_breaks.specs.once.UnderWay.{EventsKeepFitting, IsLegal, NetFits, TokenFits}
use Rattle.once_across_breaks_code.specs.server.Among.{AreAtLink, IsAtLink}

-- ---- events at one link leave the client

arrives-client : (u : Setup) (net : Net World) (i moment : ℕ) (wish : Wish) (rs : List Request) → (net_arrives (machine u) net i moment wish rs).client ≡ net.client
arrives-client u net i moment wish [] = refl
arrives-client u net i moment wish (r ∷ rs) = refl

to-server-client : (u : Setup) (net : Net World) (i moment : ℕ) (wish : Wish) (b : Bool) → (net_to_server (machine u) net i moment wish b).client ≡ net.client
to-server-client u net i moment wish true = refl
to-server-client u net i moment wish false = arrives-client u net i moment wish (net.links i).up

quiet-by-client : (net : Net World) (i : ℕ) (t : Told) → (net_quiet_by net i t).client ≡ net.client
quiet-by-client net i Displaced = refl
quiet-by-client net i (Opened link) = refl
quiet-by-client net i (Reply a ends) = refl
quiet-by-client net i Live = refl
quiet-by-client net i Parted = refl

quiet-client : (u : Setup) (net : Net World) (i moment : ℕ) (wish : Wish) (b : Bool) (number : Option ℕ) → (net_quiet (machine u) net i moment wish b number).client ≡ net.client
quiet-client u net i moment wish true number = refl
quiet-client u net i moment wish false None = refl
quiet-client u net i moment wish false (Some link) =
    let asked : Net World = net_tells (machine u) net (entry link moment Pulse Ran) in
    let after : Net World = net_quiet_by asked i ((machine u).told net.world (entry link moment Pulse Ran)) in
    cond_both wish.memory net after (λ (x : Net World). x.client ≡ net.client) (λ e. refl) (λ e. quiet-by-client asked i ((machine u).told net.world (entry link moment Pulse Ran)))

parts-client : (u : Setup) (net : Net World) (i moment : ℕ) (wish : Wish) (ask : Ask) (b : Bool) (number : Option ℕ) → (net_parts (machine u) net i moment wish ask b number).client ≡ net.client
parts-client u net i moment wish ask true number = refl
parts-client u net i moment wish ask false None = refl
parts-client u net i moment wish ask false (Some link) =
    cond_both wish.memory net (net_tells (machine u) net (entry link moment ask Ran)) (λ (x : Net World). (net_ends x i).client ≡ net.client) (λ e. refl) (λ e. refl)

pub at-link-client : (u : Setup) (q : entries.Entry → Bool) (i : ℕ) (net : Net World) (e : Event) → IsAtLink u q i net e → (net_step (machine u) net e).client ≡ net.client
at-link-client u q i net (ToServer j moment wish) here = to-server-client u net j moment wish (net.links j).end.ended
at-link-client u q i net (Quiet j moment wish) here = quiet-client u net j moment wish (net.links j).end.ended (net.links j).end.number
at-link-client u q i net (Loses j moment wish) here = parts-client u net j moment wish Lost (net.links j).end.ended (net.links j).end.number
at-link-client u q i net (Drains j moment wish) here = parts-client u net j moment wish Bye (net.links j).end.ended (net.links j).end.number
at-link-client u q i net (Others e) here = refl
at-link-client u q i net (Commands call) here = absurd here
at-link-client u q i net ToClient here = absurd here
at-link-client u q i net (Ends j) here = absurd here
at-link-client u q i net Breaks here = absurd here

pub at-link-legal : (u : Setup) (q : entries.Entry → Bool) (i : ℕ) (net : Net World) (e : Event) → IsAtLink u q i net e → IsLegal (machine u) net.world e
at-link-legal u q i net (ToServer j moment wish) here = tt
at-link-legal u q i net (Quiet j moment wish) here = tt
at-link-legal u q i net (Loses j moment wish) here = tt
at-link-legal u q i net (Drains j moment wish) here = tt
at-link-legal u q i net (Others e) here = here.0
at-link-legal u q i net (Commands call) here = tt
at-link-legal u q i net ToClient here = tt
at-link-legal u q i net (Ends j) here = tt
at-link-legal u q i net Breaks here = tt

-- and keep what is under way fitting
pub fits-along : EventsKeepFitting → (u : Setup) (q : entries.Entry → Bool) (i : ℕ) (net : Net World) (es : List Event) → AreAtLink u q i net es → TokenFits net.client.token → NetFits (IsSoundUnder u.key) net → NetFits (IsSoundUnder u.key) (net_run (machine u) net es)
fits-along keeps u q i net [] here token h = h
fits-along keeps u q i net (e ∷ es) here token h =
    fits-along keeps u q i (net_step (machine u) net e) es here.1 (subst (λ (c : Client). TokenFits c.token) (sym (at-link-client u q i net e here.0)) token)
    (keeps u net e token (at-link-legal u q i net e here.0) h)

pub legal-along : (u : Setup) (q : entries.Entry → Bool) (i : ℕ) (net : Net World) (es : List Event) → AreAtLink u q i net es → AllLegal u net es
legal-along u q i net [] here = tt
legal-along u q i net (e ∷ es) here = (at-link-legal u q i net e here.0, legal-along u q i (net_step (machine u) net e) es here.1)

pub legal-append : (u : Setup) (net : Net World) (xs ys : List Event) → AllLegal u net xs → AllLegal u (net_run (machine u) net xs) ys → AllLegal u net (xs ++ ys)
legal-append u net [] ys p q = q
legal-append u net (x ∷ xs) ys p q = (p.0, legal-append u (net_step (machine u) net x) xs ys p.1 q)
