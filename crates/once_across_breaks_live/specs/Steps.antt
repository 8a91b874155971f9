-- Steps of a client, the server ends of its links and the teller behind them, one after the other (this profile).
use Rattle.std.specs.Prelude.{◌≡◌, ◌≢◌, ℕ, ◌+◌, ◌≤◌, Bool, true, List, [], ◌∷◌, ◌++◌, length}
use Rattle.afp_serial.specs.declared.ask.Ask.TheVariants as asks
use Rattle.afp_serial.specs.declared.ask.Entry.{Entry}
use Rattle.afp_serial.specs.declared.ask.Told.{Told}
use Rattle.afp_serial.specs.declared.ask.Told.TheVariants.{Memory}
use Rattle.afp_serial.specs.Shown.{Asked, IsSoundShown, Shown}
use Rattle.afp_server.specs.declared.link.stage.Stage.{Stage}
use Rattle.afp_server.specs.declared.link.stage.Stage.TheVariants as stages
use Rattle.once_across_breaks_code.specs.run.Doings.{Asks, Breaks, Brings, Does, Doing, Loses, Others, Quiets, Reaches, Takes}
use Rattle.once_across_breaks_code.specs.run.Things.{Things}

-- The history of a teller went on; not each of the new entries need be its own.
pub record WentOn (a b : Shown) : Type 0 where
  pub more : List Entry
  pub start : b.start ≡ a.start
  pub history : b.history ≡ a.history ++ more
  pub own : length b.mine ≤ length a.mine + length more

-- the loss of a server end: a session that was open there asked Lost, and was not told want of memory
abbrev pub LossIsTold : ℕ → Stage → Shown → Shown → Type 0
LossIsTold now stages.Fresh a b = Unit {0}
LossIsTold now (stages.Open link) a b = (told : Told) × (told ≢ Memory) × Asked a now link asks.Lost told b
LossIsTold now stages.Closing a b = Unit {0}

-- What reached a server end was answered: nothing that it asked was told want of memory. So was a loss.
abbrev pub IsAnswered : Doing → Things → Things → Type 0
IsAnswered (Asks call) t s = Unit {0}
IsAnswered (Reaches i now) t s = (s.lanes i).wire.tally.answered ≡ true
IsAnswered Brings t s = Unit {0}
IsAnswered (Takes event) t s = Unit {0}
IsAnswered (Quiets i now) t s = Unit {0}
IsAnswered (Loses i now) t s = LossIsTold now (t.lanes i).wire.stage t.shown s.shown
IsAnswered Breaks t s = Unit {0}
IsAnswered (Others now link ask) t s = Unit {0}

-- The server of a run: its status block; and whether all that reached it was answered, and each loss.
pub record Server : Type 0 where
  pub block : List ℕ
  pub answered : Bool

pub record IsStep (server : Server) (d : Doing) (t s : Things) : Type 0 where
  pub does : Does d t s
  pub sound : IsSoundShown s.shown
  pub went_on : WentOn t.shown s.shown
  pub answered : server.answered ≡ true → IsAnswered d t s

abbrev pub Steps : Server → Things → List Doing → Things → Type 0
Steps server first [] last = last ≡ first
Steps server first (d ∷ ds) last = (mid : Things) × IsStep server d first mid × Steps server mid ds last
