-- The two files of an exchange.
use Rattle.std.proofs.Common.{◌≡◌, ◌∙◌, sym, refl, ℕ, Bool, true, false, not, [], ◌∷◌, Some, None}
use Rattle.std.specs.Prelude.{Ok, Err}
use Rattle.afp_base.proofs.Facts.{some-none}
use Rattle.afp_base.specs.declared.code.Code.{Code}
use Rattle.afp_base.specs.declared.code.Code.TheVariants.{ObjectTypeErr}
use Rattle.afp_names.specs.Path.{PathValue}
use Rattle.volume_spec.specs.ExchangeFiles.{exchange_files_refusal, exchanged_files}
use Rattle.volume_spec.specs.Shared.{first_or}
use Rattle.volume_spec.specs.SoundVolume.{has_file}
use Rattle.volume_spec.specs.VolumeState.{VolumeState}
use Rattle.volume_spec.specs.Walk.{found}

module _ (v : VolumeState) (user dir second_dir : ℕ) (path second_path : PathValue) where
  pub first-found : (code : Code) → found v.rows user dir path ≡ Err code → exchange_files_refusal v user dir path second_dir second_path ≡ None → ⊥
  unfolding exchange_files_refusal
  first-found code leads passes = some-none code (sym (rw leads refl) ∙ passes)

  second-refused : (a : ℕ) (code : Code) (b : Bool) → first_or ((b, ObjectTypeErr) ∷ []) (Some code) ≡ None → ⊥
  second-refused a code true h = some-none ObjectTypeErr h
  second-refused a code false h = some-none code h

  pub second-found : (a : ℕ) (code : Code) → found v.rows user dir path ≡ Ok a → found v.rows user second_dir second_path ≡ Err code → exchange_files_refusal v user dir path second_dir second_path ≡ None → ⊥
  unfolding exchange_files_refusal
  second-found a code first leads passes = second-refused a code (not (has_file v.rows a)) (sym (rw (first, leads) refl) ∙ passes)

  pub pair-found : (a b : ℕ) → found v.rows user dir path ≡ Ok a → found v.rows user second_dir second_path ≡ Ok b → exchanged_files v user dir path second_dir second_path ≡ Some (record { first = a; second = b })
  unfolding exchanged_files
  pair-found a b first second = rw (first, second) refl
