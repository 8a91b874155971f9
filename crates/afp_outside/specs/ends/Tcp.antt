-- Links and doors over TCP, which tell no bytes (this profile).
use Rattle.std.specs.Prelude.{◌≡◌, ◌≢◌, ◌⊎◌, ℕ, ◌+◌, ◌-◌, ◌/◌, ℤ, pos, Option, Some, None, option_map, min, zero, suc}
use Rattle.afp_base.specs.Limits.{last_moment}
use Rattle.afp_outside.specs.ends.Link.{LinkState}
use Rattle.afp_outside.specs.ends.Listener.{DoorState}
use Rattle.afp_outside.specs.declared.ends.listener.Accepted.{Accepted}
use Rattle.afp_outside.specs.declared.ends.listener.Accepted.TheVariants.{Link, Closed, Failed}

-- the moment of a Unix time in seconds: that of 2000-01-01 is 946,684,800 (AFP Reference, dates)
abbrev pub moment_of_unix : ℕ → ℕ
moment_of_unix seconds = min (seconds - 946684800) last_moment

-- the moment of a time since 1970-01-01 00:00 GMT, in nanoseconds
abbrev pub moment_of_nanos : ℕ → ℕ
moment_of_nanos nanos = moment_of_unix (nanos / 1000000000)

-- The moment is that of a time, of which `set` is the nanoseconds since 1970-01-01 00:00 GMT, or of a later one.
abbrev pub IsMomentFrom : ℕ → ℕ → Type 0
IsMomentFrom set moment = (gone : ℕ) × (moment ≡ moment_of_nanos (set + gone))

-- The number of an accept's error is one of a socket alone: EINTR, EPROTO, ECONNABORTED (Linux, errno.h and accept(2)).
abbrev pub IsOneSocket : ℤ → Type 0
IsOneSocket number = (number ≡ pos 4) ⊎ (number ≡ pos 71) ⊎ (number ≡ pos 103)

-- The number of an error is want of descriptors or of memory in the system: ENOMEM, ENFILE, EMFILE, ENOBUFS (Linux, errno.h).
abbrev pub IsWant : ℤ → Type 0
IsWant number = (number ≡ pos 12) ⊎ (number ≡ pos 23) ⊎ (number ≡ pos 24) ⊎ (number ≡ pos 105)

-- A door over TCP, and how many links it hands out before it is closed: no end to them, where none
-- is told.
pub record TcpState : Type 0 where
  pub door : DoorState LinkState
  pub left : Option ℕ

-- The door is closed exactly where it has handed out as many links as it may.
abbrev pub Limits : Option ℕ → Accepted LinkState → Option ℕ → Type 0
Limits old (Link link) new = (old ≢ Some 0) × (new ≡ option_map (λ n. n - 1) old)
Limits old Closed new = (old ≡ Some 0) × (new ≡ old)
Limits old Failed new = (old ≢ Some 0) × (new ≡ old)

-- how many links are left, of a limit: 0 is none
abbrev pub limit_of : ℕ → Option ℕ
limit_of zero = None
limit_of (suc n) = Some (suc n)
