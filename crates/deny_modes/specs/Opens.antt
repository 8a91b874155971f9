-- The opens of forks, and what they deny to others (AFP Reference, FPOpenFork; Inside AppleTalk, chapter 13).
use Rattle.std.specs.Prelude.{ℕ, ◌==◌, nat_lt, Bool, not, ◌&&◌, if◌then◌else◌, List, [], ◌∷◌, filter, length, map, Option, Some, None}
use Rattle.std.specs.List.{list_any}
use Rattle.afp_base.specs.DenyMode.{Access, Fork, is_one_fork, do_conflict}
use Rattle.afp_base.specs.declared.ids.NodeId.{NodeId}

-- an open: its reference, the fork, and its access mode
pub record Open : Type 0 where
  pub reference : ℕ
  pub fork : Fork
  pub access : Access

-- some open has that reference
abbrev pub has_reference : List Open → ℕ → Bool
has_reference opens reference = list_any (λ o. o.reference == reference) opens

-- some open is of that fork
abbrev pub is_fork_open : List Open → Fork → Bool
is_fork_open opens fork = list_any (λ o. is_one_fork o.fork fork) opens

-- an open of that fork, with that access, would conflict with one of these
abbrev pub has_conflict : List Open → Fork → Access → Bool
has_conflict opens fork access = list_any (λ o. do_conflict o.fork o.access fork access) opens

-- two opens conflict
abbrev pub are_in_conflict : Open → Open → Bool
are_in_conflict a b = do_conflict a.fork a.access b.fork b.access

-- the opens, which stand by rising reference, with one more
abbrev pub with_noted : Open → List Open → List Open
with_noted new [] = new ∷ []
with_noted new (o ∷ os) = if nat_lt new.reference o.reference then new ∷ o ∷ os else o ∷ with_noted new os

-- the opens without the one of that reference
abbrev pub without_reference : ℕ → List Open → List Open
without_reference reference opens = filter (λ o. not (o.reference == reference)) opens

-- the fork that stands in a fork's place where a and b change places
abbrev pub in_exchange : Fork → Fork → Fork → Fork
in_exchange a b fork = if is_one_fork a fork then b else if is_one_fork b fork then a else fork

-- each open on one of two forks made one on the other
abbrev pub exchange_open : Fork → Fork → Open → Open
exchange_open a b o = record o { fork = in_exchange a b o.fork }

abbrev pub exchanged_opens : Fork → Fork → List Open → List Open
exchanged_opens a b opens = map (exchange_open a b) opens

-- how many opens of a fork have what is asked of their access
abbrev pub count_of : (Access → Bool) → Fork → List Open → ℕ
count_of has fork opens = length (filter (λ o. is_one_fork o.fork fork && has o.access) opens)

-- the counters of a fork: its opens that read, that write, that deny reading, and that deny writing
abbrev pub counts_of : List Open → Fork → List ℕ
counts_of opens fork =
    count_of (λ a. a.read) fork opens
    ∷ count_of (λ a. a.write) fork opens
    ∷ count_of (λ a. a.deny_read) fork opens
    ∷ count_of (λ a. a.deny_write) fork opens
    ∷ []

-- the same, where some open is of that fork
abbrev pub counters_of : List Open → Fork → Option (List ℕ)
counters_of opens fork = if is_fork_open opens fork then Some (counts_of opens fork) else None

-- the opens of a volume's forks, each as its node and whether it is of the resource fork
abbrev pub opens_on : ℕ → List Open → List (NodeId × Bool)
opens_on volume opens = map (λ o. (record { 0 = o.fork.node }, o.fork.resource)) (filter (λ o. o.fork.volume == volume) opens)
