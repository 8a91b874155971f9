-- pack PATH: a file with both its forks comes from the server as one AppleSingle file (this profile).
use Rattle.std.specs.Prelude.{ℕ, ◌^◌, nat_lt, if◌then◌else◌, List, length, Option, Some, None, codes}
use Rattle.afp_base.specs.declared.code.Code.TheVariants as code
use Rattle.afp_base.specs.declared.ids.VolumeId.{VolumeId}
use Rattle.apple_double.specs.declared.parcel.Parcel.{Parcel}
use Rattle.apple_double.specs.declared.parcel.Shape.TheVariants as shapes
use Rattle.apple_double.specs.Contents.{if_name}
use Rattle.apple_double.specs.Written.{parcel_bytes}
use Rattle.client_script_lines.specs.texts.Texts.{error_text, packed_text}
use Rattle.client_script_lines.specs.calls.Requests.{get_shown, open_fork, open_resource_fork, to_read}
use Rattle.client_script_commands.specs.parts.Parts.{Part, done, must_tell}
use Rattle.client_script_commands.specs.get.Reads.{read_fork}
use Rattle.client_script_commands.specs.parcels.Comments.{comment_at}
use Rattle.client_script_commands.specs.parcels.Found.{found_in}
use Rattle.client_script_commands.specs.declared.parcels.found.Found.{Found}
use Rattle.client_script_commands.specs.declared.parcels.found.Found.TheVariants as founds
use Rattle.client_script_commands.specs.declared.parcels.found.Shown.{Shown}

abbrev pub bad_parcel : List ℕ
bad_parcel = codes "bad parcel"

-- the file that is shown, with its comment and its forks
abbrev pub parcel_of : List ℕ → Shown → Option (List ℕ) → List ℕ → List ℕ → Parcel
parcel_of name shown comment data_fork resource_fork = record {
  name = Some name;
  created = shown.created;
  modified = shown.modified;
  backup = shown.backup;
  finder = shown.finder;
  comment = comment;
  data_fork = data_fork;
  resource_fork = resource_fork;
}

-- an AppleSingle file is printed, where it has fewer than 2^32 bytes
abbrev pub if_small : List ℕ → List ℕ
if_small bytes = if nat_lt (length bytes) (2 ^ 32) then packed_text bytes else bad_parcel

unfoldable pub printed : Parcel → List ℕ
printed p = if_small (parcel_bytes shapes.Single p)

-- the same, where the name that is shown is one
abbrev pub if_named : Option (List ℕ) → Shown → Option (List ℕ) → List ℕ → List ℕ → List ℕ
if_named (Some name) shown comment data_fork resource_fork = printed (parcel_of name shown comment data_fork resource_fork)
if_named None shown comment data_fork resource_fork = bad_parcel

unfoldable pub packed : Shown → Option (List ℕ) → List ℕ → List ℕ → List ℕ
packed shown comment data_fork resource_fork = if_named (if_name shown.name) shown comment data_fork resource_fork

-- a file: its comment, its data fork, its resource fork
unfoldable pub pack_file : VolumeId → List ℕ → Shown → Part
pack_file volume path shown =
    comment_at volume path (λ comment.
    read_fork (open_fork volume to_read path) (λ data_fork.
    read_fork (open_resource_fork volume to_read path) (λ resource_fork.
    done (packed shown comment data_fork resource_fork))))

-- what is at the path: a directory is no file
abbrev pub pack_found : VolumeId → List ℕ → Found → Part
pack_found volume path (founds.Shown shown) = pack_file volume path shown
pack_found volume path founds.Directory = done (error_text code.ObjectTypeErr)

abbrev pub pack : VolumeId → List ℕ → Part
pack volume path = must_tell found_in (get_shown volume path) (λ found. pack_found volume path found)
