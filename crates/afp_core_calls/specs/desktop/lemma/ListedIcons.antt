-- What the code goes by of an icon that is listed; no public contract cites it.
use Rattle.std.specs.Prelude.{◌≡◌, ◌<◌, ℕ, List, length, take, drop, slice_index, Option, None, Some}
use denote.Ref.{Bor}
use Rattle.volume_spec.specs.Desktop.{nth_icon}
use Rattle.volume_spec.specs.VolumeState.{Icon}

-- the key, the tag and the bits of an icon of a creator, counted from 1
pub record IsListedIcon (icons : List Icon) (creator : List ℕ) (n : ℕ) (key : List ℕ) (tag : ℕ) (bits : List ℕ) : Type 0 where
  pub icon : Icon
  pub listed : nth_icon creator n icons ≡ Some icon
  pub tag_is : tag ≡ icon.tag
  pub kind_is : take 4 (drop 4 key) ≡ icon.kind
  pub icon_kind_is : slice_index key (8) ≡ icon.icon_kind
  pub bits_are : bits ≡ icon.bits
  pub short : length bits < 65536

-- where there is one
abbrev pub IsListed : List Icon → List ℕ → ℕ → Option (List ℕ × ℕ × Bor (List ℕ)) → Type 0
IsListed icons creator n None = nth_icon creator n icons ≡ None
IsListed icons creator n (Some r) = IsListedIcon icons creator n r.0 r.1 r.2.now
