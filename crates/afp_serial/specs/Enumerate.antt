-- FPEnumerate, FPEnumerateExt and FPEnumerateExt2 (AFP Reference, under these names).
use Rattle.std.specs.Prelude.{ℕ, List}
use Rattle.afp_names.specs.Path.{PathValue}
use Rattle.afp_replies.specs.declared.reply.Reply.{Reply}
use Rattle.afp_replies.specs.declared.reply.Reply.TheVariants.{Empty}
use Rattle.volume_spec.specs.Shared.{Opened, done_at}
use Rattle.volume_spec.specs.Enumerate.{ListAsked, asked_narrow, asked_wide, entries, enumerate_refusal}
use Rattle.volume_spec.specs.VolumeState.{VolumeState}
use Rattle.volume_spec.specs.Walk.{found}
use Rattle.afp_serial.specs.World.{CallRow, user_of}
use Rattle.afp_serial.specs.ListReply.{list_reply}
use Rattle.afp_serial.specs.OnVolume.{opened_on, tells_of}

-- the entries of the directory that was found; what finds none was refused
unfoldable pub enumerate_reply : VolumeState → List Opened → ListAsked → ℕ → PathValue → Reply
enumerate_reply v opens asked dir path = done_at (found v.rows asked.user dir path) Empty (λ id. list_reply v.rows opens asked (entries v.rows opens asked id))

abbrev pub lists : ℕ → (ℕ → ListAsked) → ℕ → PathValue → CallRow
lists volume asked dir path = tells_of volume
    (λ w s v. enumerate_refusal v (opened_on w volume) (asked (user_of s)) dir path)
    (λ w s v. enumerate_reply v (opened_on w volume) (asked (user_of s)) dir path)

abbrev pub enumerate_row : ℕ → ℕ → ℕ → ℕ → ℕ → ℕ → ℕ → PathValue → CallRow
enumerate_row volume dir file_bits dir_bits count start size path = lists volume (λ user. asked_narrow user file_bits dir_bits count start size) dir path

abbrev pub enumerate_ext_row : ℕ → ℕ → ℕ → ℕ → ℕ → ℕ → ℕ → PathValue → CallRow
enumerate_ext_row volume dir file_bits dir_bits count start size path = lists volume (λ user. asked_wide user file_bits dir_bits count start size) dir path

abbrev pub enumerate_ext2_row : ℕ → ℕ → ℕ → ℕ → ℕ → ℕ → ℕ → PathValue → CallRow
enumerate_ext2_row volume dir file_bits dir_bits count start size path = lists volume (λ user. asked_wide user file_bits dir_bits count start size) dir path
