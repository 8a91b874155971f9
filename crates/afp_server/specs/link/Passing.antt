-- Which calls go through the gate (this profile).
use Rattle.std.specs.Prelude.{◌≡◌, ◌≢◌, ◌≤◌, List, [], ◌∷◌, ◌++◌, length}
use Rattle.afp_base.specs.declared.ids.LinkNumber.{LinkNumber}
use Rattle.afp_outside.specs.ends.Gate.{Passed}
use Rattle.afp_serial.specs.declared.ask.Ask.{Ask}
use Rattle.afp_serial.specs.declared.ask.Ask.TheVariants as ask
use Rattle.afp_serial.specs.Went.{Step}
use Rattle.afp_server.specs.declared.link.serve.LinkEnd.{LinkEnd}
use Rattle.afp_server.specs.declared.link.serve.LinkEnd.TheVariants as ends

-- the link of an ask, where it is a call
abbrev pub called_on : LinkNumber → Ask → List LinkNumber
called_on link (ask.Call id write offset payload) = link ∷ []
called_on link (ask.Open attention) = []
called_on link ask.Pulse = []
called_on link ask.Bye = []
called_on link ask.Lost = []
called_on link ask.Drain = []

-- the links of the calls among the steps, in order
abbrev pub calls_in : List Step → List LinkNumber
calls_in [] = []
calls_in (s ∷ steps) = called_on s.link s.ask ++ calls_in steps

-- each of these calls entered the gate, and left it
abbrev pub all_passed : List Step → Passed
all_passed steps = record { entered = calls_in steps; exited = calls_in steps }

-- Each call that was asked entered the gate, in order, and left it; where a reply could not be written, its own may not have.
pub record GoThrough (answer : LinkEnd) (steps : List Step) (passed : Passed) : Type 0 where
  pub entered : passed.entered ≡ calls_in steps
  pub inside : List LinkNumber
  pub exited : calls_in steps ≡ passed.exited ++ inside
  pub most : length inside ≤ 1
  pub unwritten : answer ≢ ends.WriteFault → inside ≡ []

-- A log of the gate tells that.
pub record Passes {L : Type 0} (passed : L → Passed) (answer : LinkEnd) (steps : List Step) : Type 0 where
  pub log : L
  pub through : GoThrough answer steps (passed log)
