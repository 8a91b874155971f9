-- What reads and writes of a link do that never wait, and what comes through a door at which nobody waits (this profile).
use Rattle.std.specs.Prelude.{◌≡◌, ℕ, List}
use Rattle.afp_outside.specs.ends.Link.{LinkState, ReadsPiece, ReadsEnd, FailsToRead, WritesPiece, FailsToWrite}
use Rattle.afp_outside.specs.ends.Listener.{DoorState, HandsOut, Closes, FailsToAccept}
use Rattle.afp_outside.specs.declared.ends.ready_link.ReadyRead.{ReadyRead}
use Rattle.afp_outside.specs.declared.ends.ready_link.ReadyRead.TheVariants as reads
use Rattle.afp_outside.specs.declared.ends.ready_link.ReadyWrote.{ReadyWrote}
use Rattle.afp_outside.specs.declared.ends.ready_link.ReadyWrote.TheVariants as writes
use Rattle.afp_outside.specs.declared.ends.readiness.Came.{Came}
use Rattle.afp_outside.specs.declared.ends.readiness.Came.TheVariants as comes

-- A read by its answer; where no byte is there yet, nothing happened.
abbrev pub ReadsReady : LinkState → List ℕ → ReadyRead → LinkState → Type 0
ReadsReady old room (reads.Got n) new = ReadsPiece old room n new
ReadsReady old room reads.NotYet new = new ≡ old
ReadsReady old room reads.End new = ReadsEnd old new
ReadsReady old room reads.Failed new = FailsToRead old new

-- A write by its answer; where there is no room for a byte yet, nothing happened.
abbrev pub WritesReady : LinkState → List ℕ → ReadyWrote → LinkState → Type 0
WritesReady old offered (writes.Took n) new = WritesPiece old offered n new
WritesReady old offered writes.NotYet new = new ≡ old
WritesReady old offered writes.Failed new = FailsToWrite old new

-- An accept by its answer; where no link is there yet, nothing happened. `state` is what a link of this door is seen as.
abbrev pub Comes : {L : Type 0} → (L → LinkState) → DoorState L → Came L → DoorState L → Type 0
Comes state old (comes.Link link) new = HandsOut state old link new
Comes state old comes.NotYet new = new ≡ old
Comes state old comes.Closed new = Closes old new
Comes state old comes.Failed new = FailsToAccept old new
