-- FPAddComment, FPRemoveComment and FPGetComment on a volume (AFP Reference, under these names; the order of refusals is this profile's).
use Rattle.std.specs.Prelude.{ℕ, ◌==◌, Bool, not, ◌||◌, List, [], ◌∷◌, length, Option, None, is_none, is_some, option_map, if◌then◌else◌}
use Rattle.afp_base.specs.Choice.{first_holding}
use Rattle.afp_base.specs.declared.code.Code.{Code}
use Rattle.afp_base.specs.declared.code.Code.TheVariants.{AccessDenied, ItemNotFound}
use Rattle.afp_names.specs.Path.{PathValue}
use Rattle.volume_spec.specs.Desktop.{comment_at}
use Rattle.volume_spec.specs.Edit.{Edit, Comments, edits_at}
use Rattle.volume_spec.specs.Rights.{write_right}
use Rattle.volume_spec.specs.Shared.{behind, done_at, lacks_above}
use Rattle.volume_spec.specs.VolumeState.{Comment, VolumeState}
use Rattle.volume_spec.specs.Walk.{found}

-- whether a comment on a node changes something: an empty one changes nothing where there is none (this profile)
abbrev pub does_comment : VolumeState → ℕ → List ℕ → Bool
does_comment v id text = not (length text == 0) || is_some (comment_at id v.comments)

-- FPAddComment: why it is refused
unfoldable pub add_comment_refusal : VolumeState → ℕ → ℕ → PathValue → Option Code
add_comment_refusal v user dir path = behind (found v.rows user dir path) (λ id. first_holding ((lacks_above v.rows user write_right id, AccessDenied) ∷ []))

-- FPAddComment: the comment is put
abbrev pub add_comment_edits : VolumeState → ℕ → ℕ → PathValue → List ℕ → List Edit
add_comment_edits v user dir path text = edits_at (found v.rows user dir path) (λ id. if does_comment v id text then Comments id text ∷ [] else [])

-- FPRemoveComment: why it is refused
unfoldable pub remove_comment_refusal : VolumeState → ℕ → ℕ → PathValue → Option Code
remove_comment_refusal v user dir path = behind (found v.rows user dir path) (λ id. first_holding (
    (lacks_above v.rows user write_right id, AccessDenied)
    ∷ (is_none (comment_at id v.comments), ItemNotFound)
    ∷ []))

-- FPRemoveComment: the comment is taken
abbrev pub remove_comment_edits : VolumeState → ℕ → ℕ → PathValue → List Edit
remove_comment_edits v user dir path = edits_at (found v.rows user dir path) (λ id. Comments id [] ∷ [])

-- FPGetComment: why it is refused
unfoldable pub get_comment_refusal : VolumeState → ℕ → ℕ → PathValue → Option Code
get_comment_refusal v user dir path = behind (found v.rows user dir path) (λ id. first_holding ((is_none (comment_at id v.comments), ItemNotFound) ∷ []))

-- FPGetComment: the comment's text
unfoldable pub get_comment_text : VolumeState → ℕ → ℕ → PathValue → Option (List ℕ)
get_comment_text v user dir path = done_at (found v.rows user dir path) None (λ id. option_map (λ (comment : Comment). comment.text) (comment_at id v.comments))
