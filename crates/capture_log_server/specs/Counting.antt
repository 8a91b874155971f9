-- What is counted where a capture stands (this profile).
use Rattle.std.specs.Prelude.{◌≡◌, ℕ, ◌+◌, ◌==◌, List, [], ◌∷◌, length, if◌then◌else◌}
use Rattle.afp_base.specs.Counts.{counted}
use Rattle.dsi_frame.specs.Frame.{Frame}
use Rattle.capture_log_server.specs.CaptureState.{CaptureState}

-- how many replies have a code other than 0
abbrev pub refused_in : List Frame → ℕ
refused_in [] = 0
refused_in (reply ∷ replies) = (if reply.word == 0 then 0 else 1) + refused_in replies

-- the connections that were fed, the entries of the history, the replies, and those with a code other than 0
pub record AreCaptureCounts (s : CaptureState) (links entries replies refused : ℕ) : Type 0 where
  pub fed : links ≡ s.links
  pub asked : entries ≡ length s.history
  pub replied : replies ≡ counted (length s.replies) 0
  pub not_ok : refused ≡ counted (refused_in s.replies) 0
