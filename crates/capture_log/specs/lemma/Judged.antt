-- What the code and the proofs go by beside Judged; no public contract cites it.
use Rattle.capture_log_server.specs.Counting.{AreCaptureCounts}
use Rattle.capture_log_server.specs.CaptureState.{CaptureState}
use Rattle.capture_log.specs.declared.replay_end.ReplayEnd.{ReplayEnd}
use Rattle.capture_log.specs.declared.replay_end.ReplayEnd.TheVariants.{Same, Differs, BadCapture, ReadFault, Spent, Memory}

-- the counts are those
abbrev pub IsSame : CaptureState → ReplayEnd → Type 0
IsSame s (Same links entries replies refused) = AreCaptureCounts s links entries replies refused
IsSame s (Differs link at want got) = ⊥
IsSame s (BadCapture line) = ⊥
IsSame s ReadFault = ⊥
IsSame s Spent = ⊥
IsSame s Memory = ⊥
