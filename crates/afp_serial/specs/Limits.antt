-- The limits of the server (this profile).
use Rattle.std.specs.Prelude.{ℕ, ◌^◌}

-- the first and the last printable ASCII character: the space and the tilde
abbrev pub first_printable : ℕ
first_printable = 0x20

abbrev pub last_printable : ℕ
last_printable = 0x7e

-- the most characters of the server's name, of a user's, of a volume's, and of the login message
abbrev pub longest_server : ℕ
longest_server = 31

abbrev pub longest_user : ℕ
longest_user = 31

abbrev pub longest_volume : ℕ
longest_volume = 27

abbrev pub longest_message : ℕ
longest_message = 199

-- the most users and volumes
abbrev pub most_users : ℕ
most_users = 256

abbrev pub most_volumes : ℕ
most_volumes = 8

-- the id of the first user: the next ones follow it
abbrev pub first_user_id : ℕ
first_user_id = 501

-- the most sessions, attached and detached together
abbrev pub most_sessions : ℕ
most_sessions = 64

-- how many link numbers there are: the last one is 2 ^ 64 - 1
abbrev pub links_end : ℕ
links_end = 2 ^ 64

-- the seconds after which a detached session is gone
abbrev pub detached_time : ℕ
detached_time = 600
