-- When a link is tickled, and when it counts as lost (AFP over TCP, "DSITickle").
use Rattle.std.specs.Prelude.{ℕ, ◌-◌, ◌≤◌, ◌<◌}
use Rattle.dsi_session.specs.declared.pulse.Due.{Due}
use Rattle.dsi_session.specs.declared.pulse.Due.TheVariants.{Nothing, Tickle, Silent}

-- the moments at which the peer was last read from and last written to, in seconds since 2000-01-01 00:00 GMT
pub record Moments : Type 0 where
  pub last_read : ℕ
  pub last_write : ℕ

-- seconds in which nothing was read, after which a link is silent
abbrev pub silence_limit : ℕ
silence_limit = 120

-- seconds in which nothing was written, after which a tickle is due
abbrev pub tickle_limit : ℕ
tickle_limit = 30

-- the seconds from a moment to another: none to an earlier one (this profile)
abbrev pub seconds_between : ℕ → ℕ → ℕ
seconds_between last now = now - last

-- what is due at a moment: silence goes first
abbrev pub IsDue : Moments → ℕ → Due → Type 0
IsDue pulse now Silent = silence_limit ≤ seconds_between pulse.last_read now
IsDue pulse now Tickle = (seconds_between pulse.last_read now < silence_limit) × (tickle_limit ≤ seconds_between pulse.last_write now)
IsDue pulse now Nothing = (seconds_between pulse.last_read now < silence_limit) × (seconds_between pulse.last_write now < tickle_limit)
