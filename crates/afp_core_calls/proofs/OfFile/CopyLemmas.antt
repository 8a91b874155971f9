-- Copies that are planned or refused.
use Rattle.std.proofs.Common.{Bool, ◌≡◌, ◌∙◌, ap, sym, refl, subst, ℕ, ◌+◌, ◌<◌, length, Some, None}
use Rattle.std.specs.Prelude.{Err, slice_get}
use Rattle.afp_base.specs.declared.code.Code.TheVariants.{ParamErr}
use Rattle.afp_serial.specs.CopyFile.{CopyAsked, copy_call, is_held}
use Rattle.afp_serial.specs.World.{volume_at}
use Rattle.volume_edits.specs.edits.Planned.{PlanValue}
use Rattle.volume_edits.specs.plans.Plans.{Plans}
use Rattle.volume_spec.specs.CopyFile.{Source, copied_refusal, copy_file_refusal}
use Rattle.volume_spec.specs.OpenFork.{open_fork_file}
use Rattle.volume_spec.specs.Rights.{read_right}
use Rattle.volume_spec.specs.Shared.{lacks_above}
use Rattle.volume_spec.specs.VolumeState.{Row, VolumeState}
use Rattle.volume_tree.specs.Answered.{Refuses}
use Rattle.volume_tree.specs.declared.resolve.PlanFault.{PlanFault}
use Rattle.volume_tree.specs.declared.resolve.PlanFault.TheVariants as fault
use Rattle.afp_core_state.specs.KeptWorld.{KeptWorld}
use Rattle.afp_core_state.proofs.KeeperLemmas.{volume_at-index}
use Rattle.afp_core_calls.specs.file.lemma.Copying.{IsCopyPlanned, PlansCopy, RefusesCopy, source_is}
use Rattle.afp_core_calls.proofs.OfFile.CopyRows.{copy-refused-by, file-refused}

module _ (k : KeptWorld) (user index : ℕ) (asked : CopyAsked) (from : VolumeState) (there : slice_get k.world.volumes index ≡ Some from) where
  -- the volume of the file refuses
  pub source-fault : (f : PlanFault) → Refuses {A = Row} (Err f) (copied_refusal from user asked.dir asked.path) → PlansCopy k user index asked (Err f)
  source-fault (fault.Code code) refused = record { from = from; from_there = there; refused = file-refused k.world user asked from code refused }
  source-fault fault.Memory refused = tt

  module _ (file : Row) (passes : copied_refusal from user asked.dir asked.path ≡ None) (found : open_fork_file from user asked.dir asked.path ≡ Some file) where
    -- there is no volume for the copy
    pub no-target : volume_at k.world.volumes asked.target ≡ None → RefusesCopy k user index asked ParamErr
    no-target none = record { from = from; from_there = there; refused = copy-refused-by k.world user asked from file None ParamErr passes found none refl }

    -- what holds of the file by its id
    pub source-by : (id again : ℕ) (held denied : Bool) → id ≡ file.id → again ≡ file.id → held ≡ is_held k.world asked.volume id → denied ≡ lacks_above from.rows user read_right again
        → ◌≡◌ {A = Source} (record { file = file; held = held; denied = denied }) (source_is k.world user asked from file)
    source-by id again held denied is same holds lacks =
        λ i. record { file = file; held = (holds ∙ ap (is_held k.world asked.volume) is) i; denied = (lacks ∙ ap (lacks_above from.rows user read_right) same) i }

    module _ (target : ℕ) (to : VolumeState) (id : asked.target ≡ target + 1) (within : target < length k.world.volumes) (to_there : slice_get k.world.volumes target ≡ Some to) where
      -- that volume refuses
      target-fault : (f : PlanFault) → Refuses {A = PlanValue} (Err f) (copy_file_refusal to user (source_is k.world user asked from file) asked.target_dir asked.target_path asked.new_path) → PlansCopy k user index asked (Err f)
      target-fault (fault.Code code) refused =
          record { from = from; from_there = there; refused = copy-refused-by k.world user asked from file (Some to) code passes found (volume_at-index k.world.volumes asked.target target id ∙ to_there) refused }
      target-fault fault.Memory refused = tt

      pub target-refuses : (now : ℕ) (held : Source) (f : PlanFault) → held ≡ source_is k.world user asked from file
          → Refuses {A = PlanValue} (Err f) (copy_file_refusal to user held asked.target_dir asked.target_path asked.new_path) → PlansCopy k user index asked (Err f)
      target-refuses now held f is refused =
          target-fault f (subst (λ (s : Source). Refuses {A = PlanValue} (Err f) (copy_file_refusal to user s asked.target_dir asked.target_path asked.new_path)) is refused)

      pub target-plans : (now : ℕ) (held : Source) (plan : PlanValue) → now ≡ k.world.latest → held ≡ source_is k.world user asked from file → copy_file_refusal to user held asked.target_dir asked.target_path asked.new_path ≡ None
          → Plans to user now (copy_call asked held) plan → IsCopyPlanned k user index asked target plan
      target-plans now held plan at_now is refused plans = record {
        from = from;
        from_there = there;
        may = passes;
        file = file;
        found = found;
        id = id;
        within = within;
        to = to;
        to_there = to_there;
        passes = ap (λ (s : Source). copy_file_refusal to user s asked.target_dir asked.target_path asked.new_path) (sym is) ∙ refused;
        plans = subst (λ (n : ℕ). Plans to user n (copy_call asked (source_is k.world user asked from file)) plan) at_now (subst (λ (s : Source). Plans to user now (copy_call asked s) plan) is plans);
      }
