-- Comments by node are comments by their key.
use Rattle.std.proofs.Common.{◌≡◌, ℕ, List, [], ◌∷◌, not}
use Rattle.std.specs.List.{filter, find}
use Rattle.volume_spec.proofs.Keys.{one-same}
use Rattle.volume_spec.specs.Desktop.{at_key, comment_at, comment_key, without_comment, without_key}
use Rattle.volume_spec.specs.VolumeState.{Comment}

pub comments-at : (comments : List Comment) (node : ℕ) → at_key comment_key (node ∷ []) comments ≡ comment_at node comments
comments-at comments node = λ i. find (λ (comment : Comment). one-same comment.node node i) comments

pub comments-without : (comments : List Comment) (node : ℕ) → without_key comment_key (node ∷ []) comments ≡ without_comment node comments
comments-without comments node = λ i. filter (λ (comment : Comment). not (one-same comment.node node i)) comments
