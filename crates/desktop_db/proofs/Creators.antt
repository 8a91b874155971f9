-- The creators of icons and of mappings never fall where their keys rise.
use Rattle.std.proofs.Common.{◌≡◌, refl, ◌==◌, ◌++◌, ◌∷◌, [], true, List, length, append_assoc, ◌&&◌}
use Rattle.std.specs.Prelude.{nat_le}
use Rattle.std.specs.List.{list_all}
use Rattle.std.proofs.lemmas.Bool.{and_parts}
use Rattle.volume_spec.specs.Desktop.{is_appl}
use Rattle.volume_spec.specs.Order.{rises}
use Rattle.volume_spec.specs.SoundVolume.{appl_key, icon_key, is_icon, longest_icon}
use Rattle.volume_spec.specs.VolumeState.{Appl, Icon}
use Rattle.desktop_db.proofs.Heads.{climbs, heads-climb}
use Rattle.afp_base.proofs.ListFacts.{all-weaker}

pub icons-climb : (icons : List Icon) → list_all is_icon icons ≡ true → rises icon_key icons ≡ true → climbs (λ (icon : Icon). icon.creator) icons ≡ true
icons-climb icons formed up =
    heads-climb icon_key (λ icon. icon.creator) (λ icon. icon.kind ++ icon.icon_kind ∷ []) 4 icons (λ icon. append_assoc icon.creator icon.kind (icon.icon_kind ∷ []))
    (all-weaker is_icon (λ icon. length icon.creator == 4) icons (λ icon h. (and_parts (length icon.creator == 4) ((length icon.kind == 4) && nat_le (length icon.bits) longest_icon) h).0) formed) up

pub appls-climb : (appls : List Appl) → list_all is_appl appls ≡ true → rises appl_key appls ≡ true → climbs (λ (appl : Appl). appl.creator) appls ≡ true
appls-climb appls formed up = heads-climb appl_key (λ appl. appl.creator) (λ appl. appl.node ∷ []) 4 appls (λ appl. refl) formed up
