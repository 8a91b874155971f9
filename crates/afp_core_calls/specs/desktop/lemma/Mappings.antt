-- What the code goes by of a mapping that is told; no public contract cites it.
use Rattle.std.specs.Prelude.{◌≡◌, ℕ, true, false, List, Option, None, Some}
use Rattle.afp_base.specs.declared.ids.NodeId.{NodeId}
use Rattle.volume_spec.specs.Appls.{get_appl_mapping}
use Rattle.volume_spec.specs.SoundVolume.{has_file}
use Rattle.volume_spec.specs.VolumeState.{Appl, Row, VolumeState}
use Rattle.volume_spec.specs.Walk.{row_at}

-- the file and the tag of a mapping of a creator, counted from 1; the file is there
pub record IsMapping (v : VolumeState) (creator : List ℕ) (index node tag : ℕ) : Type 0 where
  pub appl : Appl
  pub found : get_appl_mapping v creator index ≡ Some appl
  pub node_is : node ≡ appl.node
  pub tag_is : tag ≡ appl.tag
  pub has : has_file v.rows node ≡ true
  pub file : Row
  pub there : row_at v.rows node ≡ Some file
  pub is_file : file.dir ≡ false

-- where there is one
abbrev pub FindsMapping : VolumeState → List ℕ → ℕ → Option (NodeId × ℕ) → Type 0
FindsMapping v creator index None = get_appl_mapping v creator index ≡ None
FindsMapping v creator index (Some r) = IsMapping v creator index r.0.0 r.1
