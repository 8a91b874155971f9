-- A volume that nobody has used is sound.
use Rattle.std.proofs.Common.{◌≡◌, ap, refl, ℕ, true, ◌&&◌, List, None}
use Rattle.std.specs.Prelude.{Option, is_none}
use Rattle.std.proofs.lemmas.Slice.Eq.{bytes_eq-Decides}
use Rattle.afp_names.specs.Name.{name_fault}
use Rattle.afp_names.specs.declared.name.NameFault.{NameFault}
use Rattle.volume_spec.specs.SoundVolume.{IsSoundVolume, is_tree, has_apart_names, has_noted_nodes, keeps_limits, is_formed_volume, has_rising_ids, is_in_order}
use Rattle.volume_spec.specs.VolumeState.{fresh_volume}

tree : (name : List ℕ) (now : ℕ) → is_tree (fresh_volume name now) ≡ true
unfolding is_tree
tree name now = ap (λ b. b && true) ((bytes_eq-Decides name name).1 refl)

names : (name : List ℕ) (now : ℕ) → has_apart_names (fresh_volume name now) ≡ true
unfolding has_apart_names
names name now = refl

notes : (name : List ℕ) (now : ℕ) → has_noted_nodes (fresh_volume name now) ≡ true
unfolding has_noted_nodes
notes name now = refl

limits : (name : List ℕ) (now : ℕ) → keeps_limits (fresh_volume name now) ≡ true
unfolding keeps_limits
limits name now = refl

formed : (name : List ℕ) (now : ℕ) → name_fault name ≡ None → is_formed_volume (fresh_volume name now) ≡ true
unfolding is_formed_volume
formed name now good = ap (λ (fault : Option NameFault). is_none fault && true && true && true && true) good

order : (name : List ℕ) (now : ℕ) → is_in_order (fresh_volume name now) ≡ true
unfolding is_in_order has_rising_ids
order name now = refl

pub fresh-sound : (name : List ℕ) (now : ℕ) → name_fault name ≡ None → IsSoundVolume (fresh_volume name now)
fresh-sound name now good = record {
  tree = tree name now;
  names = names name now;
  notes = notes name now;
  limits = limits name now;
  formed = formed name now good;
  order = order name now;
}
