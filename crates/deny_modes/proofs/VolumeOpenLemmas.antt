-- What is asked of a volume's opens is asked of the opens of all volumes.
use Rattle.std.proofs.Common.{Bor, ◌≡◌, ◌∙◌, refl, ap, ℕ, Bool, true, false, not, ◌&&◌, ◌||◌, ◌==◌, if◌then◌else◌, List, [], ◌∷◌, map, filter, Option, Some, None, is_some}
use Rattle.std.specs.Bool.{beq}
use Rattle.std.specs.List.{list_any}
use Rattle.std.specs.Option.{option_copied}
use Rattle.afp_base.specs.DenyMode.{Fork}
use Rattle.afp_base.specs.declared.ids.NodeId.{NodeId}
use Rattle.deny_modes.specs.Opens.{Open, opens_on, is_fork_open, counts_of, counters_of}

-- the test of a fork of a node
abbrev pub is_fork : ℕ → Bool → NodeId × Bool → Bool
is_fork node resource fork = (fork.0.0 == node) && (if resource then fork.1 else not fork.1)

kind_told : (is resource : Bool) → beq is resource ≡ (if resource then is else not is)
kind_told true true = refl
kind_told true false = refl
kind_told false true = refl
kind_told false false = refl

-- a fork of the volume is among its opens where it is open
pub fork_told : (volume node : ℕ) (resource : Bool) (opens : List Open)
    → is_fork_open opens (record { volume = volume; node = node; resource = resource }) ≡ list_any (is_fork node resource) (opens_on volume opens)
fork_told volume node resource [] = refl
fork_told volume node resource (o ∷ os) =
    elim (o.fork.volume == volume) as (λ b. ((b && ((o.fork.node == node) && beq o.fork.resource resource)) || is_fork_open os (record { volume = volume; node = node; resource = resource }))
    ≡ list_any (is_fork node resource) (map (λ (x : Open). (record { 0 = x.fork.node }, x.fork.resource)) (if b then o ∷ filter (λ x. x.fork.volume == volume) os else filter (λ x. x.fork.volume == volume) os))) [
      | true ↦ rw (kind_told o.fork.resource resource) (ap (λ rest. ((o.fork.node == node) && (if resource then o.fork.resource else not o.fork.resource)) || rest) (fork_told volume node resource os))
      | false ↦ fork_told volume node resource os
    ]

-- what is told of a fork's counters tells whether it is open
pub opened_told : (told : Bool) (opens : List Open) (fork : Fork) → told ≡ is_some (counters_of opens fork) → told ≡ is_fork_open opens fork
opened_told told opens fork is = is ∙ of_test (is_fork_open opens fork) (counts_of opens fork)
  where
    of_test : (b : Bool) (counts : List ℕ) → is_some (if b then Some counts else None) ≡ b
    of_test true counts = refl
    of_test false counts = refl

pub told_copied : {A : Type 0} (o : Option (Bor A)) → is_some o ≡ is_some (option_copied o)
told_copied (Some x) = refl
told_copied None = refl

-- a node is among the opens by either fork
pub node_told : (node : ℕ) (forks : List (NodeId × Bool)) → list_any (λ (fork : NodeId × Bool). fork.0.0 == node) forks ≡ (list_any (is_fork node false) forks || list_any (is_fork node true) forks)
node_told node [] = refl
node_told node (fork ∷ forks) = either (fork.0.0 == node) fork.1 _ _ _ (node_told node forks)
  where
    either : (same kind any plain resource : Bool) → any ≡ (plain || resource) → (same || any) ≡ (((same && not kind) || plain) || ((same && kind) || resource))
    either true true any true resource is = refl
    either true true any false resource is = refl
    either true false any plain resource is = refl
    either false kind any plain resource is = is
