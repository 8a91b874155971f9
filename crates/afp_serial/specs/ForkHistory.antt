-- What the entries of a history do to the bytes of a fork (this profile).
use Rattle.std.specs.Prelude.{ℕ, pos, Bool, true, ◌&&◌, if◌then◌else◌, List, [], ◌∷◌, ◌++◌, nat_abs, Option, Some, None, option_map}
use Rattle.std.specs.List.{list_any}
use Rattle.afp_base.specs.Cached.{Request}
use Rattle.afp_base.specs.DenyMode.{Fork, is_one_fork}
use Rattle.afp_calls_grammar.specs.declared.grammar.call.Call.{Call}
use Rattle.afp_calls_grammar.specs.declared.grammar.call.Call.TheVariants.{ExchangeFiles, SetForkParms, Write, WriteExt}
use Rattle.volume_spec.specs.ExchangeFiles.{Pair}
use Rattle.volume_spec.specs.ForkEffect.{fork_of}
use Rattle.volume_spec.specs.VolumeState.{VolumeState}
use Rattle.volume_spec.specs.Walk.{row_at}
use Rattle.afp_serial.specs.declared.ask.Ask.{Ask}
use Rattle.afp_serial.specs.declared.ask.Ask.TheVariants as ask
use Rattle.afp_serial.specs.declared.ask.Entry.{Entry}
use Rattle.afp_serial.specs.declared.ask.Outcome.{Outcome}
use Rattle.afp_serial.specs.declared.ask.Outcome.TheVariants as outcome
use Rattle.afp_serial.specs.Answer.{after, request, Verdict, refused, repeats, runs, verdict}
use Rattle.afp_serial.specs.ExchangeFiles.{in_exchange, pair_on}
use Rattle.afp_serial.specs.Fork.{length_for}
use Rattle.afp_serial.specs.ForkBytes.{WriteAsked, is_from_end, write_start}
use Rattle.afp_serial.specs.OnFork.{OpenFile, open_file}
use Rattle.afp_serial.specs.World.{session_at, user_of, volume_at, World, Session, OpenFork, at_moment}
use Rattle.afp_serial.specs.WriteLaws.{ForkChange, becomes, puts, sets_length}

-- the bytes of a fork, where its volume and its file are there
abbrev pub bytes_on : Option VolumeState → Fork → Option (List ℕ)
bytes_on None fork = None
bytes_on (Some v) fork = option_map (fork_of fork.resource) (row_at v.rows fork.node)

abbrev pub bytes_in : World → Fork → Option (List ℕ)
bytes_in w fork = bytes_on (volume_at w.volumes fork.volume) fork

-- some session has the fork open
abbrev pub has_open : World → Fork → Bool
has_open w fork = list_any (λ (o : OpenFork). is_one_fork o.fork fork) w.opens

-- what is done through an open fork, where it is open on this one
abbrev pub through : Option OpenFile → Fork → (OpenFile → ForkChange) → List ForkChange
through None fork change = []
through (Some f) fork change = if is_one_fork f.fork.fork fork then change f ∷ [] else []

abbrev pub put_of : WriteAsked → OpenFile → ForkChange
put_of asked f = puts (nat_abs (write_start f asked)) asked.piece

-- the bytes of another fork, where its file is there
abbrev pub becomes_all : Option (List ℕ) → List ForkChange
becomes_all None = []
becomes_all (Some bytes) = becomes bytes ∷ []

-- what is done to a fork whose file changes its forks with another: it gets the bytes of the other's fork
abbrev pub exchanged_for : World → ℕ → Fork → Option Pair → List ForkChange
exchanged_for w volume fork None = []
exchanged_for w volume fork (Some pair) = if is_one_fork (in_exchange volume pair fork) fork then [] else becomes_all (bytes_in w (in_exchange volume pair fork))

-- what a call that has its effect does to the bytes of a fork that is open: FPWrite, FPWriteExt, FPSetForkParms and FPExchangeFiles alone do something
abbrev pub changes_by : World → Session → Fork → Call → List ForkChange
changes_by w s fork (Write flag reference offset count piece) = through (open_file w s reference.0) fork (put_of (record { from_end = is_from_end flag; offset = offset; count = pos count; piece = piece }))
changes_by w s fork (WriteExt flag reference offset count piece) = through (open_file w s reference.0) fork (put_of (record { from_end = is_from_end flag; offset = offset; count = count; piece = piece }))
changes_by w s fork (SetForkParms reference bits tail) = through (open_file w s reference.0) fork (λ f. sets_length (length_for bits tail f))
changes_by w s fork (ExchangeFiles volume dir second_dir path second_path) = exchanged_for w volume.0 fork (pair_on (volume_at w.volumes volume.0) (user_of s) dir.0 path second_dir.0 second_path)
changes_by w s fork call = []

abbrev pub changes_of : World → Session → Fork → Verdict → Outcome → List ForkChange
changes_of w s fork (repeats answer) o = []
changes_of w s fork (refused r) o = []
changes_of w s fork (runs call) outcome.Fault = []
changes_of w s fork (runs call) outcome.Done = changes_by w s fork call

abbrev pub changes_asked : World → Option Session → Fork → Request → Outcome → List ForkChange
changes_asked w None fork r o = []
changes_asked w (Some s) fork r o = changes_of w s fork (verdict w s r) o

abbrev pub changes_at : World → ℕ → Fork → Ask → Outcome → List ForkChange
changes_at w link fork (ask.Open attention) o = []
changes_at w link fork (ask.Call id write offset payload) o = changes_asked w (session_at w link) fork (request id write offset payload) o
changes_at w link fork ask.Pulse o = []
changes_at w link fork ask.Bye o = []
changes_at w link fork ask.Lost o = []
changes_at w link fork ask.Drain o = []

-- what an entry does to the bytes of a fork that is open
abbrev pub changes_in : World → Entry → Fork → List ForkChange
changes_in w e fork = changes_at (at_moment w e.at) e.link.0 fork e.ask e.outcome

-- and what all entries do, in order
abbrev pub all_changes : World → List Entry → Fork → List ForkChange
all_changes w [] fork = []
all_changes w (e ∷ es) fork = changes_in w e fork ++ all_changes (after w e) es fork

-- the fork is open, in some session, where each of the entries comes
abbrev pub stays_open : World → List Entry → Fork → Bool
stays_open w [] fork = true
stays_open w (e ∷ es) fork = has_open w fork && stays_open (after w e) es fork
