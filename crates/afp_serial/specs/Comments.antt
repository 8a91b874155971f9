-- FPAddComment, FPRemoveComment and FPGetComment (AFP Reference, under these names).
use Rattle.std.specs.Prelude.{ℕ, List, Option, None, Some}
use Rattle.afp_names.specs.Path.{PathValue}
use Rattle.afp_replies.specs.declared.reply.Reply.{Reply}
use Rattle.afp_replies.specs.declared.reply.Reply.TheVariants as replies
use Rattle.volume_spec.specs.Comments.{get_comment_refusal, get_comment_text}
use Rattle.volume_spec.specs.VolumeCalls.{AddComment, RemoveComment}
use Rattle.afp_serial.specs.OnVolume.{tells_of}
use Rattle.afp_serial.specs.VolumeRows.{changes_volume}
use Rattle.afp_serial.specs.World.{CallRow, user_of}

-- FPAddComment
abbrev pub add_comment_row : ℕ → ℕ → PathValue → List ℕ → CallRow
add_comment_row dt dir path text = changes_volume dt (AddComment dir path text) (λ user v. replies.Empty)

-- FPRemoveComment
abbrev pub remove_comment_row : ℕ → ℕ → PathValue → CallRow
remove_comment_row dt dir path = changes_volume dt (RemoveComment dir path) (λ user v. replies.Empty)

-- FPGetComment: the text of the comment that was found; what finds none was refused
abbrev pub get_comment_reply : Option (List ℕ) → Reply
get_comment_reply None = replies.Empty
get_comment_reply (Some text) = replies.Comment text

abbrev pub get_comment_row : ℕ → ℕ → PathValue → CallRow
get_comment_row dt dir path = tells_of dt (λ w s v. get_comment_refusal v (user_of s) dir path) (λ w s v. get_comment_reply (get_comment_text v (user_of s) dir path))
