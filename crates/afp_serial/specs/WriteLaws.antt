-- The laws of what is written and read: a fork that was written gives those bytes to a read until the next change that meets them (this profile).
use Rattle.std.specs.Prelude.{◌≡◌, ℕ, pos, ◌+◌, ◌<◌, ◌≤◌, ◌==◌, nat_le, Bool, true, false, ◌||◌, List, [], ◌∷◌, length, map, None, Option, Some, option_map}
use Rattle.std.specs.List.{list_all}
use Rattle.afp_base.specs.Limits.{payload_limit}
use Rattle.afp_base.specs.DenyMode.{Access, is_one_fork}
use Rattle.afp_base.specs.ForkBytes.{resized, splice, taken}
use Rattle.afp_base.specs.Choice.{first_holding}
use Rattle.afp_names.specs.Path.{PathValue}
use Rattle.afp_replies.specs.declared.reply.Reply.{Reply}
use Rattle.afp_serial.specs.ExchangeFiles.{exchange_files_row}
use Rattle.afp_serial.specs.Fork.{is_other_length, length_for, set_fork_parms_row}
use Rattle.afp_serial.specs.ForkBytes.{ReadAsked, WriteAsked, meets_end, read_bytes, writes, writes_some, written_bytes}
use Rattle.afp_serial.specs.OnFork.{OpenFile, bytes_of, open_file, with_bytes}
use Rattle.afp_serial.specs.Sound.{IsSound}
use Rattle.afp_serial.specs.World.{World, Session, OpenFork}

-- the bytes of the fork that a session has open under a reference
abbrev pub bytes_under : World → Session → ℕ → Option (List ℕ)
bytes_under w s reference = option_map bytes_of (open_file w s reference)

-- what is written through one reference is seen through each reference of the fork, of any session; and so is a length that is set
abbrev pub WritesAreSeen : Type 0
WritesAreSeen =
    (w : World) (s t : Session) (reference other : ℕ) (f g : OpenFile) (asked : WriteAsked) (reply : ℕ → Reply) → IsSound w
    → open_file w s reference ≡ Some f → open_file w t other ≡ Some g → is_one_fork g.fork.fork f.fork.fork ≡ true → writes_some asked ≡ true
    → bytes_under ((writes reference asked reply).effect w s).world t other ≡ Some (written_bytes f asked)

abbrev pub LengthsAreSeen : Type 0
LengthsAreSeen =
    (w : World) (s t : Session) (reference other bits : ℕ) (tail : List ℕ) (f g : OpenFile) → IsSound w
    → open_file w s reference ≡ Some f → open_file w t other ≡ Some g → is_one_fork g.fork.fork f.fork.fork ≡ true → is_other_length bits tail f ≡ true
    → bytes_under ((set_fork_parms_row reference bits tail).effect w s).world t other ≡ Some (resized (bytes_of f) (length_for bits tail f))

-- other forks stay as they are, those of the same file too
abbrev pub OtherForksStay : Type 0
OtherForksStay =
    (w : World) (s t : Session) (reference other : ℕ) (f g : OpenFile) (some : Bool) (bytes : List ℕ) → IsSound w
    → open_file w s reference ≡ Some f → open_file w t other ≡ Some g → is_one_fork g.fork.fork f.fork.fork ≡ false
    → bytes_under (with_bytes w f some bytes) t other ≡ Some (bytes_of g)

-- where two files change their forks, each open fork of each session has the bytes that it had, and goes with them
abbrev pub ExchangesKeepBytes : Type 0
ExchangesKeepBytes =
    (w : World) (s t : Session) (volume dir second_dir other : ℕ) (path second_path : PathValue) → IsSound w
    → first_holding ((exchange_files_row volume dir second_dir path second_path).refusals w s) ≡ None
    → bytes_under ((exchange_files_row volume dir second_dir path second_path).effect w s).world t other ≡ bytes_under w t other

-- it is open under its reference in its session with its access mode, and all locks stay
abbrev pub opened_as : OpenFork → ℕ × ℕ × Access
opened_as o = (o.reference, o.session, o.access)

abbrev pub ExchangesKeepOpens : Type 0
ExchangesKeepOpens =
    (w : World) (s : Session) (volume dir second_dir : ℕ) (path second_path : PathValue)
    → (map opened_as ((exchange_files_row volume dir second_dir path second_path).effect w s).world.opens ≡ map opened_as w.opens)
    × (((exchange_files_row volume dir second_dir path second_path).effect w s).world.locks ≡ w.locks)

-- a change of a fork's bytes: some are put at a place, the fork is cut or filled up to a length, or it gets all the bytes of another fork
pub data ForkChange : Type 0 where
  puts : ℕ → List ℕ → ForkChange
  sets_length : ℕ → ForkChange
  becomes : List ℕ → ForkChange

abbrev pub changed_by : ForkChange → List ℕ → List ℕ
changed_by (puts at piece) bytes = splice bytes at piece
changed_by (sets_length n) bytes = resized bytes n
changed_by (becomes others) bytes = others

-- the changes one after another
abbrev pub changed_by_all : List ForkChange → List ℕ → List ℕ
changed_by_all [] bytes = bytes
changed_by_all (change ∷ changes) bytes = changed_by_all changes (changed_by change bytes)

-- the change meets none of so many bytes from a place on: it puts none, ends before them, begins behind them, or cuts behind them; all bytes of another fork meet them
abbrev pub misses : ℕ → ℕ → ForkChange → Bool
misses at n (puts place piece) = (length piece == 0) || (nat_le (place + length piece) at || nat_le (at + n) place)
misses at n (sets_length len) = nat_le (at + n) len
misses at n (becomes others) = false

-- bytes that were written are there, after any changes that miss them
abbrev pub WrittenBytesStay : Type 0
WrittenBytesStay = (old piece : List ℕ) (at : ℕ) (changes : List ForkChange) → 0 < length piece → list_all (misses at (length piece)) changes ≡ true → taken (changed_by_all changes (splice old at piece)) at (length piece) ≡ piece

-- to read so many bytes from a place on
abbrev pub read_of : ℕ → ℕ → ℕ → ReadAsked
read_of at n character = record { offset = pos at; count = pos n; mask = 0; character = character }

-- a read gives the bytes that are there, and does not meet the end
abbrev pub ReadsWhatIsThere : Type 0
ReadsWhatIsThere = (bytes piece : List ℕ) (at character : ℕ) → length piece ≤ payload_limit → taken bytes at (length piece) ≡ piece
    → (read_bytes bytes (read_of at (length piece) character) ≡ piece) × (meets_end bytes (read_of at (length piece) character) ≡ false)
