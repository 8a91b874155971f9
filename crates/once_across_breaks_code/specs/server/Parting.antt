-- What the server end of a link does at a quiet and at its end is what the law says (this profile).
use Rattle.std.specs.Prelude.{◌≡◌, ◌≢◌, ℕ, List, ◌++◌, Option, Some, None}
use Rattle.afp_serial.specs.declared.ask.Entry as entries
use Rattle.afp_serial.specs.Went.{Step}
use Rattle.afp_serial.specs.World.{World}
use Rattle.afp_server.specs.link.LinkRun.{Parts}
use Rattle.afp_server.specs.link.Requests.{Requests}
use Rattle.afp_server.specs.link.Trace.{Cause, Idled, Idles, closed, bad, displaced, drained, silent, unwritten}
use Rattle.afp_server.specs.declared.link.stage.Stage.{Stage}
use Rattle.afp_server.specs.declared.link.stage.Stage.TheVariants as stages
use Rattle.once_across_breaks.specs.once.Frames.{Net, net_step}
use Rattle.once_across_breaks.specs.once.Run.{Drains, Loses, Quiet, Wish}
use Rattle.once_across_breaks.specs.once.Serial.{Setup, machine}
use Rattle.once_across_breaks.specs.once.Server.{Entry}
use Rattle.once_across_breaks_code.specs.server.Asked.{AskedAlone}
use Rattle.once_across_breaks_code.specs.server.Ties.{AreEntries, IsEnd}

-- the law's net stands in this world, and its link i where the link has come
pub record StandsAt (i : ℕ) (stage : Stage) (w : World) (net : Net World) : Type 0 where
  pub world : net.world ≡ w
  pub end : IsEnd stage (net.links i).end

-- It comes to another world by these entries, and its link i to where the link comes. What is under way stays, and the client, and each other link.
pub record MovesTo (u : Setup) (i : ℕ) (stage : Stage) (es : List entries.Entry) (behind : World) (old new : Net World) : Type 0 where
  pub stands : StandsAt i stage behind new
  pub more : List Entry
  pub history : new.history ≡ old.history ++ more
  pub asked : AreEntries u more es
  pub client : new.client ≡ old.client
  pub top : new.top ≡ old.top
  pub elsewhere : (j : ℕ) → j ≢ i → new.links j ≡ old.links j
  pub up : (new.links i).up ≡ (old.links i).up
  pub down : (new.links i).down ≡ (old.links i).down

-- The law: a link that is lost parts as the law's does.
abbrev pub LinksPart : Type 0
LinksPart =
    (u : Setup) (now : ℕ) (stage : Stage) (steps : List Step) (w behind : World) (es : List entries.Entry) (net : Net World) (i : ℕ)
    → Parts stage now steps
    → AskedAlone w steps es behind
    → StandsAt i stage w net
    → (wish : Wish) × MovesTo u i stages.Closing es behind net (net_step (machine u) net (Loses i now wish))

-- What the law's net does at a quiet, by why that ends the link, where it does: a quiet; behind it, where the time of a drain is over, it
-- drains. A silence asks nothing.
abbrev pub at_quiet : Setup → Net World → ℕ → ℕ → Wish → Wish → Option Cause → Net World
at_quiet u net i now wish parting None = net_step (machine u) net (Quiet i now wish)
at_quiet u net i now wish parting (Some displaced) = net_step (machine u) net (Quiet i now wish)
at_quiet u net i now wish parting (Some unwritten) = net_step (machine u) net (Quiet i now wish)
at_quiet u net i now wish parting (Some drained) = net_step (machine u) (net_step (machine u) net (Quiet i now wish)) (Drains i now parting)
at_quiet u net i now wish parting (Some silent) = net
at_quiet u net i now wish parting (Some closed) = net
at_quiet u net i now wish parting (Some (bad reason)) = net

-- The law: what a link does at a quiet the law's does.
abbrev pub LinksAreQuiet : Type 0
LinksAreQuiet =
    (u : Setup) (last_read now : ℕ) (stage : Stage) (requests : Requests) (idled : Idled) (cause : Option Cause)
    (w behind : World) (es : List entries.Entry) (net : Net World) (i : ℕ)
    → Idles last_read now stage requests idled cause
    → AskedAlone w idled.steps es behind
    → StandsAt i stage w net
    → (wish : Wish) × (parting : Wish) × MovesTo u i idled.stage es behind net (at_quiet u net i now wish parting cause)
