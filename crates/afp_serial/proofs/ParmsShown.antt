-- What is told of a volume and of a node is shown.
use Rattle.std.proofs.Common.{◌==◌, ◌≡◌, refl, ℕ, arith, true, ◌||◌, List, [], ◌∷◌, Option, Some, None, subst}
use Rattle.std.specs.Prelude.{Result, Ok, Err, option_map}
use Rattle.std.proofs.lemmas.Bool.{or_parts}
use Rattle.afp_base.specs.declared.code.Code.{Code}
use Rattle.afp_base.specs.declared.code.Code.TheVariants.{BitmapErr}
use Rattle.afp_bitmap.specs.Bits.{volume_mask, file_mask, dir_mask, is_outside}
use Rattle.afp_replies.specs.Entry.{IsNode}
use Rattle.afp_serial.proofs.ListShown.{node-answer, within}
use Rattle.afp_serial.specs.ParmsReplies.{VolumeIsShown, NodeIsShown}
use Rattle.volume_spec.proofs.Refusals.{none-first, none-holds}
use Rattle.volume_spec.proofs.ToldValues.{node-told, volume-told}
use Rattle.volume_spec.specs.Shared.{Opened, done_at}
use Rattle.volume_spec.specs.GetFileDirParms.{get_file_dir_parms_refusal, get_file_dir_parms_values}
use Rattle.volume_spec.specs.GetVolParms.{get_vol_parms_refusal}
use Rattle.volume_spec.specs.NodeValues.{node_values, dir_values, file_values}
use Rattle.volume_spec.specs.SoundVolume.{IsSoundVolume}
use Rattle.volume_spec.specs.TypedVolume.{is_typed_volume}
use Rattle.volume_spec.specs.VolumeState.{Row, VolumeState}
use Rattle.volume_spec.specs.Walk.{found, row_at}

pub volume-is-shown : VolumeIsShown
unfolding get_vol_parms_refusal
volume-is-shown v id bits small passes s t =
    let none = none-holds ((is_outside volume_mask bits || (bits == 0), BitmapErr) ∷ []) passes in
    (omega arith, record { within = within volume_mask bits (or_parts (is_outside volume_mask bits) (bits == 0) none.0).0; answer = volume-told v id bits small s t })

one-node : (v : VolumeState) (user : ℕ) (opens : List Opened) (file_bits dir_bits id : ℕ) (row : Row) → row_at v.rows id ≡ Some row → IsSoundVolume v → is_typed_volume v ≡ true → IsNode file_bits dir_bits (node_values v.rows user opens file_bits dir_bits row)
unfolding node_values
one-node v user opens file_bits dir_bits id row at_id s t =
    node-answer row.dir (dir_values v.rows user dir_bits row) (file_values opens file_bits row) file_bits dir_bits (node-told v user opens file_bits dir_bits id row at_id s t)

pub node-is-shown : NodeIsShown
unfolding get_file_dir_parms_refusal get_file_dir_parms_values
node-is-shown v user opens file_bits dir_bits dir path values passes told s t =
    let first = none-first ((is_outside file_mask file_bits, BitmapErr) ∷ (is_outside dir_mask dir_bits, BitmapErr) ∷ []) _ passes in
    (within file_mask file_bits first.0.0, within dir_mask dir_bits first.0.1.0, by (found v.rows user dir path) told)
  where
    at-row : (id : ℕ) (o : Option Row) → row_at v.rows id ≡ o → option_map (node_values v.rows user opens file_bits dir_bits) o ≡ Some values → IsNode file_bits dir_bits values
    at-row id None is h = absurd (cc)
    at-row id (Some row) is h =
        let same : node_values v.rows user opens file_bits dir_bits row ≡ values = cc in
        subst (λ q. IsNode file_bits dir_bits q) same (one-node v user opens file_bits dir_bits id row is s t)

    by : (r : Result ℕ Code) → done_at r None (λ id. option_map (node_values v.rows user opens file_bits dir_bits) (row_at v.rows id)) ≡ Some values → IsNode file_bits dir_bits values
    by (Ok id) h = at-row id (row_at v.rows id) refl h
    by (Err code) h = absurd (cc)
