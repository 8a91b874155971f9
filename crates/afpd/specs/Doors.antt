-- The doors that are made (this profile).
use Rattle.std.specs.Prelude.{ℕ, [], false}
use Rattle.afp_outside.specs.ends.Tcp.{TcpState, limit_of}

-- a door that no link has come through yet, by its limit of links
abbrev pub unused_door : ℕ → TcpState
unused_door links = record { door = record { handed = 0; back = []; closed = false; faults = 0 }; left = limit_of links }
