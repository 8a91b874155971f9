-- The rows of calls by their names.
use Rattle.std.proofs.Common.{◌≡◌, sym, refl, subst, ℕ, List}
use Rattle.afp_base.specs.declared.ids.VolumeId.{VolumeId}
use Rattle.afp_bitmap.specs.declared.params.Values.TheVariants.{Volume}
use Rattle.afp_replies.specs.declared.reply.Reply.TheVariants.{Params}
use Rattle.afp_calls_grammar.specs.declared.grammar.call.Call.{Call}
use Rattle.afp_calls_grammar.specs.declared.grammar.call.Call.TheVariants as call
use Rattle.afp_serial.specs.Rows.{row}
use Rattle.volume_spec.specs.GetVolParms.{get_vol_parms_refusal, volume_values}
use Rattle.volume_spec.specs.TreeSteps as tree
use Rattle.afp_core_calls.specs.lemma.TreeChanges.{ChangesAlone}
use Rattle.afp_core_state.specs.RowKinds.{TellsOf}

pub get_vol_parms-tells : (volume : VolumeId) (bits : ℕ) → TellsOf (call.GetVolParms volume bits) volume.0 (λ w user v. get_vol_parms_refusal bits) (λ w user v. Params bits (Volume (volume_values v volume.0 bits)))
unfolding row
get_vol_parms-tells volume bits = record { row_is = refl; goes_on = refl }

pub set_vol_parms-changes : (asked : Call) (volume : VolumeId) (bits : ℕ) (tail : List ℕ) → asked ≡ call.SetVolParms volume bits tail → ChangesAlone asked volume.0
unfolding row
set_vol_parms-changes asked volume bits tail is =
    subst (λ (c : Call). ChangesAlone c volume.0) (sym is) record { change = tree.SetVolParms bits tail; changes = record { tree = refl; row_is = refl; goes_on = refl } }
