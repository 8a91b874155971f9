-- The reply to FPEnumerate, FPEnumerateExt and FPEnumerateExt2 (AFP Reference, under these names).
use Rattle.std.specs.Prelude.{◌≡◌, ℕ, ◌+◌, ◌<◌, ◌≤◌, ◌^◌, true, List, length, map, min, sum_by, None, Ok}
use Rattle.afp_base.specs.Limits.{payload_limit}
use Rattle.afp_names.specs.Path.{PathValue}
use Rattle.afp_replies.specs.declared.list.ListEntry.{ListEntry}
use Rattle.afp_replies.specs.declared.reply.Reply.{Reply}
use Rattle.afp_replies.specs.declared.reply.Reply.TheVariants as replies
use Rattle.afp_replies.specs.Fitting.{FitsReply}
use Rattle.afp_replies.specs.Replies.{canonical_reply}
use Rattle.volume_spec.specs.Shared.{Opened}
use Rattle.volume_spec.specs.Enumerate.{ListAsked, list_head, entry_size, entries, enumerate_refusal}
use Rattle.volume_spec.specs.NodeValues.{node_values}
use Rattle.volume_spec.specs.SoundVolume.{IsSoundVolume}
use Rattle.volume_spec.specs.TypedVolume.{is_typed_volume}
use Rattle.volume_spec.specs.VolumeState.{Row, VolumeState}
use Rattle.volume_spec.specs.Walk.{found}

-- the entry of a node (AFP Reference, "FPEnumerate")
abbrev pub list_entry : List Row → List Opened → ListAsked → Row → ListEntry
list_entry rows opens asked row = record { values = node_values rows asked.user opens asked.file_bits asked.dir_bits row }

-- the list of these nodes (AFP Reference, "FPEnumerate")
unfoldable pub list_reply : List Row → List Opened → ListAsked → List Row → Reply
list_reply rows opens asked nodes = replies.List asked.wide asked.file_bits asked.dir_bits (map (list_entry rows opens asked) nodes)

-- the law: the sizes by which a list is cut are those of its bytes
abbrev pub ListHasItsSize : Type 0
ListHasItsSize = (rows : List Row) (opens : List Opened) (asked : ListAsked) (nodes : List Row) → length (canonical_reply (list_reply rows opens asked nodes)) ≡ list_head + sum_by (entry_size rows opens asked) nodes

-- the law: where a list is not refused it is shown by some bytes, and has no more of them than were asked and fit in a reply
abbrev pub ListIsShown : Type 0
ListIsShown = (v : VolumeState) (opens : List Opened) (asked : ListAsked) (dir id : ℕ) (path : PathValue) → asked.count < 2 ^ 16 → enumerate_refusal v opens asked dir path ≡ None → found v.rows asked.user dir path ≡ Ok id → IsSoundVolume v → is_typed_volume v ≡ true
    → FitsReply (list_reply v.rows opens asked (entries v.rows opens asked id)) × (length (canonical_reply (list_reply v.rows opens asked (entries v.rows opens asked id))) ≤ min asked.size payload_limit)
