-- What is kept of the locks beside what their table keeps (this profile).
use Rattle.std.specs.Prelude.{◌≡◌, true, List}
use Rattle.std.specs.List.{list_all}
use Rattle.afp_serial.specs.ForkLaws.{is_lock_range}
use Rattle.range_locks.specs.Locks.{ForkLock}

-- each lock ends at the last byte that a lock can cover, or before
abbrev pub AreInRange : List ForkLock → Type 0
AreInRange locks = list_all (λ lock. is_lock_range lock.range) locks ≡ true
