-- What the code and the proofs go by beside KeptWorld; no public contract cites it.
use Rattle.afp_serial.specs.World.{World, Session}
use Rattle.afp_core_state.specs.Forks.{Forks}
use Rattle.std.specs.Prelude.{ℕ, List, Option}
use Rattle.afp_core_state.specs.KeptWorld.{KeptWorld, kept_world, volumes_of, with_token_key, world_of}
use Rattle.afp_serial.specs.Household.{Household}
use Rattle.volume_keeper.specs.kept.Kept.{KeptState}
use Rattle.session_table.specs.Sessions.{Table}

-- another world beside the same keepers: with these sessions
abbrev pub with_sessions : KeptWorld → List Session → KeptWorld
with_sessions k sessions = record k { world = record k.world { sessions = sessions } }

-- with this table of sessions
abbrev pub with_table : KeptWorld → Table → KeptWorld
with_table k t = record k { world = record k.world { house = with_token_key k.world.house t.token_key; next_link = t.next_link; sessions = t.sessions } }

-- the value of a state of these parts
abbrev pub kept_parts : Household → ℕ → Option ℕ → Table → Forks → List KeptState → KeptWorld
kept_parts house latest drain t forks kept = kept_world (world_of (with_token_key house t.token_key) latest drain t.next_link t.sessions forks (volumes_of kept)) kept

-- the table of the sessions of a world
abbrev pub table_in : World → Table
table_in w = record { sessions = w.sessions; next_link = w.next_link; token_key = w.house.token_key }

-- the open forks and locks of a world
abbrev pub forks_in : World → Forks
forks_in w = record { opens = w.opens; locks = w.locks }

-- with these open forks and locks
abbrev pub with_forks : KeptWorld → Forks → KeptWorld
with_forks k forks = record k { world = record k.world { opens = forks.opens; locks = forks.locks } }
