-- The ids of the requests that one end of a link writes (AFP over TCP, "DSI request ID").
use Rattle.std.specs.Prelude.{◌≡◌, ℕ, zero, suc, ◌+◌, ◌%◌, ◌==◌, if◌then◌else◌}

-- the first id, and the last one, which the first follows
abbrev pub first_request_id : ℕ
first_request_id = 0

abbrev pub last_id : ℕ
last_id = 65535

-- the id behind an id
abbrev pub id_after : ℕ → ℕ
id_after id = if id == last_id then first_request_id else id + 1

-- the id behind so many others
abbrev pub nth_id : ℕ → ℕ
nth_id zero = first_request_id
nth_id (suc n) = id_after (nth_id n)

-- the law: ids count requests, up to whole rounds
abbrev pub CountsInRounds : Type 0
CountsInRounds = (n : ℕ) → nth_id n ≡ n % (last_id + 1)
