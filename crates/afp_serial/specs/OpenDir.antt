-- FPOpenDir and FPCloseDir (AFP Reference, under these names). Directory ids are fixed: nothing is opened or closed.
use Rattle.std.specs.Prelude.{ℕ, [], ◌∷◌, Option, Some, None}
use Rattle.afp_names.specs.Path.{PathValue}
use Rattle.afp_replies.specs.declared.reply.Reply.{Reply}
use Rattle.afp_replies.specs.declared.reply.Reply.TheVariants.{Empty, Node}
use Rattle.volume_spec.specs.OpenDir.{open_dir_refusal, open_dir_id}
use Rattle.afp_serial.specs.World.{CallRow, commits_nothing, with_empty_reply, vol, user_of}
use Rattle.afp_serial.specs.CreateDir.{node_id}
use Rattle.afp_serial.specs.OnVolume.{tells_of}

-- the id that was found; what finds none was refused
abbrev pub open_dir_reply : Option ℕ → Reply
open_dir_reply None = Empty
open_dir_reply (Some id) = Node (node_id id)

abbrev pub open_dir_row : ℕ → ℕ → PathValue → CallRow
open_dir_row volume dir path = tells_of volume (λ w s v. open_dir_refusal v (user_of s) dir path) (λ w s v. open_dir_reply (open_dir_id v (user_of s) dir path))

abbrev pub close_dir_row : ℕ → CallRow
close_dir_row volume = record {
  refusals = λ w s. vol s volume ∷ [];
  effect = λ w s. with_empty_reply w;
  committed = commits_nothing;
}
