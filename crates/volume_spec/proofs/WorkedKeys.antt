-- The keys of the names of the worked volume.
use Rattle.std.proofs.Common.{◌≡◌, ℕ, zero, suc, ◌<◌, arith, [], ◌∷◌}
use Rattle.std.specs.Str.{IsAscii}
use Rattle.afp_names.proofs.NameLemmas.{ascii_name_key}
use Rattle.afp_names.specs.Name.{name_key}
use Rattle.volume_spec.specs.Appls.{add_appl_refusal, get_appl_mapping, remove_appl_refusal}
use Rattle.volume_spec.specs.Comments.{add_comment_refusal, remove_comment_refusal}
use Rattle.volume_spec.specs.CopyFile.{copy_file_refusal}
use Rattle.volume_spec.specs.CreateFile.{create_file_refusal}
use Rattle.volume_spec.specs.Delete.{delete_refusal}
use Rattle.volume_spec.specs.Edit.{edited}
use Rattle.volume_spec.specs.Edits.{has_children, is_taken, with_changed, without}
use Rattle.volume_spec.specs.ExchangeFiles.{exchange_files_refusal}
use Rattle.volume_spec.specs.FileIds.{create_id_refusal, delete_id_refusal, is_filed, resolve_id_refusal}
use Rattle.volume_spec.specs.ForkEffect.{would_pass}
use Rattle.volume_spec.specs.Icons.{add_icon_refusal, get_icon_bits, get_icon_info_icon, get_icon_info_refusal, get_icon_refusal}
use Rattle.volume_spec.specs.SetFileDirParms.{attributes_by, with_settings, privileges_by}
use Rattle.volume_spec.specs.Shared.{has_attribute, has_no_ids, has_no_room, is_busy}
use Rattle.volume_spec.specs.VolumeCalls.{call_edits}
use Rattle.volume_spec.specs.Walk.{child, child_by_key, new_place, parent_at, row_at, walk}
use Rattle.volume_spec.specs.WorkedCalls.{a_name, b_name, d_name, free_name, upper_name}
use Rattle.volume_spec.specs.Rights.{is_closed, is_owner, lacks, rights_of}

one-ascii : (b : ℕ) → b < 128 → IsAscii (b ∷ [])
one-ascii b small zero = small
one-ascii b small (suc i) = omega arith

pub a-key : name_key a_name ≡ a_name
a-key = ascii_name_key a_name (one-ascii 0x61 (omega arith))

pub b-key : name_key b_name ≡ b_name
b-key = ascii_name_key b_name (one-ascii 0x62 (omega arith))

pub d-key : name_key d_name ≡ d_name
d-key = ascii_name_key d_name (one-ascii 0x64 (omega arith))

pub free-key : name_key free_name ≡ free_name
free-key = ascii_name_key free_name (one-ascii 0x63 (omega arith))

pub upper-key : name_key upper_name ≡ a_name
upper-key = ascii_name_key upper_name (one-ascii 0x41 (omega arith))

-- `unfolding worked` lets `refl` compute what a call does to the worked volume
unfoldable pub worked : Unit {0}
unfolding rights_of lacks is_closed is_owner call_edits edited with_changed without with_settings privileges_by attributes_by walk child child_by_key row_at parent_at new_place is_taken has_children has_attribute is_busy has_no_ids has_no_room is_filed would_pass create_file_refusal delete_refusal copy_file_refusal exchange_files_refusal create_id_refusal delete_id_refusal resolve_id_refusal add_icon_refusal get_icon_refusal get_icon_bits get_icon_info_refusal get_icon_info_icon add_appl_refusal remove_appl_refusal get_appl_mapping add_comment_refusal remove_comment_refusal
worked = tt
