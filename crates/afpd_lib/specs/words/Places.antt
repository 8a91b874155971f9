-- Volumes and where they are kept, as words say it: the first equals sign parts a name from a place (this profile).
use Rattle.std.specs.Prelude.{◌≡◌, ◌≢◌, ℕ, ◌≤◌, ◌==◌, Bool, true, List, [], ◌∷◌, length, codes}
use Rattle.std.specs.List.{list_any, before_first, after_first}

-- in memory, or in the file of this name
pub data PlaceValue : Type 0 where
  in_memory : PlaceValue
  in_file : List ℕ → PlaceValue

-- a volume's name, and its place
pub record VolumeValue : Type 0 where
  pub name : List ℕ
  pub place : PlaceValue

abbrev pub equals : ℕ → Bool
equals byte = byte == 61

-- the word for memory; any other text that is not empty names a file
abbrev pub IsPlace : List ℕ → PlaceValue → Type 0
IsPlace text in_memory = text ≡ codes "memory"
IsPlace text (in_file name) = (text ≢ codes "memory") × (1 ≤ length text) × (name ≡ text)

pub record IsVolume (word : List ℕ) (volume : VolumeValue) : Type 0 where
  pub parted : list_any equals word ≡ true
  pub name : volume.name ≡ before_first equals word
  pub place : IsPlace (after_first equals word) volume.place

abbrev pub AreVolumes : List (List ℕ) → List VolumeValue → Type 0
AreVolumes [] [] = Unit {0}
AreVolumes (word ∷ words) (volume ∷ volumes) = IsVolume word volume × AreVolumes words volumes
AreVolumes words volumes = ⊥
