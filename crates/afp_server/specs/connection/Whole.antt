-- A link that is served in turns, from its beginning to its end (this profile).
use Rattle.std.specs.Prelude.{◌≡◌, ℕ, List, [], ◌++◌}
use Rattle.afp_outside.specs.ends.Gate.{Passed}
use Rattle.afp_outside.specs.ends.Link.{LinkState, IsFresh}
use Rattle.afp_serial.specs.Household.{Household}
use Rattle.afp_serial.specs.Shown.{Shown}
use Rattle.afp_serial.specs.StatusBlock.{status_block}
use Rattle.afp_serial.specs.Went.{Step, Went}
use Rattle.afp_server.specs.link.LinkRun.{Parts}
use Rattle.afp_server.specs.link.Progress.{Start, Ended}
use Rattle.afp_server.specs.doors.Served.{ServedLink}
use Rattle.afp_server.specs.connection.Turn.{shown_to}
use Rattle.afp_server.specs.declared.link.serve.LinkEnd.{LinkEnd}
use Rattle.afp_server.specs.declared.link.stage.Stage.{Stage}

-- The law: a link that began with no places, was served to its end in turns, and then parted, was served whole, as one that is served alone.
abbrev pub IsServedWhole : Type 0
IsServedWhole = (house : Household) (passed : Passed) (start : Start) (a b c : Shown) (answer : LinkEnd) (stage : Stage) (link : LinkState) (mine : List ℕ) (parting : List Step)
    → start.block ≡ status_block house → start.shown ≡ shown_to [] a → IsFresh start.link
    → Ended start answer stage link (shown_to mine b) passed → Parts stage link.now parting → (w : Went b parting c)
    → ServedLink (λ (l : LinkState). l) (λ (p : Passed). p) house start.turns a.start c.history link (mine ++ w.places)
