-- unpack PATH HEX: a parcel becomes a file with both its forks on the server (this profile).
use Rattle.std.specs.Prelude.{ℕ, ◌+◌, ◌==◌, if◌then◌else◌, List, length, Option, Some, None, is_none, codes}
use Rattle.afp_base.specs.declared.ids.VolumeId.{VolumeId}
use Rattle.afp_calls_grammar.specs.declared.grammar.call.Call.{Call}
use Rattle.apple_double.specs.declared.parcel.Parcel.{Parcel}
use Rattle.apple_double.specs.declared.parcel.Shape.{Shape}
use Rattle.apple_double.specs.declared.parcel.Shape.TheVariants as shapes
use Rattle.apple_double.specs.Contents.{data_id, resource_id, name_id, comment_id, dates_id, finder_id, name_in, date_in, finder_in, comment_in, data_in}
use Rattle.apple_double.specs.Faults.{parcel_fault}
use Rattle.apple_double.specs.Format.{magic_in, magic_of, part}
use Rattle.client_script_lines.specs.texts.Texts.{numbered}
use Rattle.client_script_lines.specs.calls.Requests.{add_comment, close_fork, create_file, open_desk, open_fork, open_resource_fork, set_file, settings_of, to_put, write}
use Rattle.client_script_commands.specs.parts.Parts.{Part, done, in_fork, must_do, must_tell}
use Rattle.client_script_commands.specs.commands.Replies.{desk_in, fork_in}
use Rattle.client_script_commands.specs.parcels.Pack.{bad_parcel}

-- the format of bytes that begin with one of the two magic numbers
abbrev pub shape_in : List ℕ → Shape
shape_in bytes = if magic_in bytes == magic_of shapes.Single then shapes.Single else shapes.Double

-- the file that a parcel's bytes hold
unfoldable pub held : List ℕ → Parcel
held bytes = record {
  name = name_in (part name_id bytes);
  created = date_in 0 (part dates_id bytes);
  modified = date_in 4 (part dates_id bytes);
  backup = date_in 8 (part dates_id bytes);
  finder = finder_in (part finder_id bytes);
  comment = comment_in (part comment_id bytes);
  data_fork = data_in (shape_in bytes) (part data_id bytes);
  resource_fork = part resource_id bytes;
}

-- the same; none where the bytes are no parcel
unfoldable pub parcel_in : List ℕ → Option Parcel
parcel_in bytes = if is_none (parcel_fault bytes) then Some (held bytes) else None

-- a fork that this call opens is written and closed, and this follows
unfoldable pub write_whole : Call → List ℕ → Part → Part
write_whole opens piece next = must_tell fork_in opens (λ reference. in_fork reference (write reference piece) (must_do (close_fork reference) next))

-- the same, where there are bytes; else the fork is not opened
unfoldable pub write_fork : Call → List ℕ → Part → Part
write_fork opens piece next = if length piece == 0 then next else write_whole opens piece next

-- a comment is set, where there is one, and this follows
abbrev pub write_comment : VolumeId → List ℕ → Option (List ℕ) → Part → Part
write_comment volume path (Some text) next = must_tell desk_in (open_desk volume) (λ dt. must_do (add_comment dt path text) next)
write_comment volume path None next = next

-- the file is made, its forks are written, its dates and Finder information are set, and its comment
unfoldable pub unpack_file : VolumeId → List ℕ → Parcel → Part
unpack_file volume path p =
    must_do (create_file volume path)
    (write_fork (open_fork volume to_put path) p.data_fork
    (write_fork (open_resource_fork volume to_put path) p.resource_fork
    (must_do (set_file volume path (settings_of p.created p.modified p.backup p.finder))
    (write_comment volume path p.comment
    (done (numbered (codes "unpacked ") (length p.data_fork + length p.resource_fork)))))))

-- of bytes that are no parcel nothing is asked
abbrev pub unpack_found : VolumeId → List ℕ → Option Parcel → Part
unpack_found volume path (Some p) = unpack_file volume path p
unpack_found volume path None = done bad_parcel

abbrev pub unpack : VolumeId → List ℕ → List ℕ → Part
unpack volume path bytes = unpack_found volume path (parcel_in bytes)
