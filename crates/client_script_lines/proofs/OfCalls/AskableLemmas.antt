-- Each request of a script's commands is one that may be asked.
use Rattle.std.proofs.Common.{◌≡◌, ℕ, ◌^◌, ◌≤◌, ◌<◌, List, length, arith}
use Rattle.std.specs.Prelude.{ℤ}
use Rattle.afp_base.specs.declared.ids.ForkRef.{ForkRef}
use Rattle.afp_base.specs.declared.ids.NodeId.{NodeId}
use Rattle.afp_base.specs.declared.ids.VolumeId.{VolumeId}
use Rattle.afp_names.specs.Path.{PathValue, canonical_path}
use Rattle.afp_calls_grammar.specs.declared.grammar.call.Call.TheVariants as calls
use Rattle.client_script_lines.specs.calls.Asked.{IsAskable}
use Rattle.client_script_lines.proofs.OfCalls.SizeLemmas.{askable}

pub askable_open_vol : (bits : ℕ) (name : List ℕ) → length name < 256 → IsAskable (calls.OpenVol bits name)
askable_open_vol bits name h-name =
    askable (calls.OpenVol bits name) tt (record { fields = (tt, (tt, (tt, (h-name, tt)))); encloses = tt }) (omega (arith, h-name))

pub askable_create_dir : (volume : VolumeId) (dir : NodeId) (path : PathValue) → length (canonical_path path) ≤ 4096 → IsAskable (calls.CreateDir volume dir path)
askable_create_dir volume dir path h-path =
    askable (calls.CreateDir volume dir path) tt (record { fields = (tt, (tt, (tt, (tt, (tt, tt))))); encloses = tt }) (omega (arith, h-path))

pub askable_create_file : (flag : ℕ) (volume : VolumeId) (dir : NodeId) (path : PathValue) → length (canonical_path path) ≤ 4096 → IsAskable (calls.CreateFile flag volume dir path)
askable_create_file flag volume dir path h-path =
    askable (calls.CreateFile flag volume dir path) tt (record { fields = (tt, (tt, (tt, (tt, (tt, tt))))); encloses = tt }) (omega (arith, h-path))

pub askable_delete : (volume : VolumeId) (dir : NodeId) (path : PathValue) → length (canonical_path path) ≤ 4096 → IsAskable (calls.Delete volume dir path)
askable_delete volume dir path h-path =
    askable (calls.Delete volume dir path) tt (record { fields = (tt, (tt, (tt, (tt, (tt, tt))))); encloses = tt }) (omega (arith, h-path))

pub askable_get_id : (volume : VolumeId) (dir : NodeId) (bits dir_bits : ℕ) (path : PathValue) → length (canonical_path path) ≤ 4096 → IsAskable (calls.GetFileDirParms volume dir bits dir_bits path)
askable_get_id volume dir bits dir_bits path h-path =
    askable (calls.GetFileDirParms volume dir bits dir_bits path) tt (record { fields = (tt, (tt, (tt, (tt, (tt, (tt, (tt, tt))))))); encloses = tt }) (omega (arith, h-path))

pub askable_list : (volume : VolumeId) (dir : NodeId) (bits dir_bits count start size : ℕ) (path : PathValue) → length (canonical_path path) ≤ 4096 → IsAskable (calls.EnumerateExt2 volume dir bits dir_bits count start size path)
askable_list volume dir bits dir_bits count start size path h-path =
    askable (calls.EnumerateExt2 volume dir bits dir_bits count start size path) tt (record { fields = (tt, (tt, (tt, (tt, (tt, (tt, (tt, (tt, (tt, (tt, tt)))))))))); encloses = tt }) (omega (arith, h-path))

pub askable_open_fork : (flag : ℕ) (volume : VolumeId) (dir : NodeId) (bits mode : ℕ) (path : PathValue) → length (canonical_path path) ≤ 4096 → IsAskable (calls.OpenFork flag volume dir bits mode path)
askable_open_fork flag volume dir bits mode path h-path =
    askable (calls.OpenFork flag volume dir bits mode path) tt (record { fields = (tt, (tt, (tt, (tt, (tt, (tt, (tt, tt))))))); encloses = tt }) (omega (arith, h-path))

pub askable_write : (flag : ℕ) (reference : ForkRef) (offset : ℤ) (count : ℕ) (piece : List ℕ) → length piece ≡ count → length piece ≤ 4096 → IsAskable (calls.Write flag reference offset count piece)
askable_write flag reference offset count piece h-piece h-short =
    askable (calls.Write flag reference offset count piece) tt (record { fields = (tt, (tt, (tt, (tt, (tt, tt))))); encloses = h-piece }) (omega (arith, h-piece, h-short))

pub askable_read : (reference : ForkRef) (offset : ℤ) (count mask character : ℕ) → IsAskable (calls.Read reference offset count mask character)
askable_read reference offset count mask character =
    askable (calls.Read reference offset count mask character) tt (record { fields = (tt, (tt, (tt, (tt, (tt, (tt, (tt, tt))))))); encloses = tt }) (omega (arith))

pub askable_close_fork : (reference : ForkRef) → IsAskable (calls.CloseFork reference)
askable_close_fork reference =
    askable (calls.CloseFork reference) tt (record { fields = (tt, (tt, (tt, tt))); encloses = tt }) (omega (arith))

pub askable_lock : (flags : ℕ) (reference : ForkRef) (offset size : ℤ) → IsAskable (calls.ByteRangeLockExt flags reference offset size)
askable_lock flags reference offset size =
    askable (calls.ByteRangeLockExt flags reference offset size) tt (record { fields = (tt, (tt, (tt, (tt, (tt, tt))))); encloses = tt }) (omega (arith))

pub askable_move_to : (volume : VolumeId) (dir target_dir : NodeId) (path target name : PathValue) → length (canonical_path path) ≤ 4096 → length (canonical_path target) ≤ 4096 → length (canonical_path name) ≤ 4096 → IsAskable (calls.MoveAndRename volume dir target_dir path target name)
askable_move_to volume dir target_dir path target name h-path h-target h-name =
    askable (calls.MoveAndRename volume dir target_dir path target name) tt (record { fields = (tt, (tt, (tt, (tt, (tt, (tt, (tt, (tt, tt)))))))); encloses = tt }) (omega (arith, h-path, h-target, h-name))

pub askable_copy_to : (volume : VolumeId) (dir : NodeId) (target_volume : VolumeId) (target_dir : NodeId) (path target name : PathValue) → length (canonical_path path) ≤ 4096 → length (canonical_path target) ≤ 4096 → length (canonical_path name) ≤ 4096 → IsAskable (calls.CopyFile volume dir target_volume target_dir path target name)
askable_copy_to volume dir target_volume target_dir path target name h-path h-target h-name =
    askable (calls.CopyFile volume dir target_volume target_dir path target name) tt (record { fields = (tt, (tt, (tt, (tt, (tt, (tt, (tt, (tt, (tt, tt))))))))); encloses = tt }) (omega (arith, h-path, h-target, h-name))

pub askable_exchange : (volume : VolumeId) (dir second_dir : NodeId) (path target : PathValue) → length (canonical_path path) ≤ 4096 → length (canonical_path target) ≤ 4096 → IsAskable (calls.ExchangeFiles volume dir second_dir path target)
askable_exchange volume dir second_dir path target h-path h-target =
    askable (calls.ExchangeFiles volume dir second_dir path target) tt (record { fields = (tt, (tt, (tt, (tt, (tt, (tt, (tt, tt))))))); encloses = tt }) (omega (arith, h-path, h-target))

pub askable_open_dt : (volume : VolumeId) → IsAskable (calls.OpenDT volume)
askable_open_dt volume =
    askable (calls.OpenDT volume) tt (record { fields = (tt, (tt, (tt, tt))); encloses = tt }) (omega (arith))

pub askable_add_comment : (dt : ℕ) (dir : NodeId) (path : PathValue) (text : List ℕ) → length (canonical_path path) ≤ 4096 → length text < 256 → IsAskable (calls.AddComment dt dir path text)
askable_add_comment dt dir path text h-path h-text =
    askable (calls.AddComment dt dir path text) tt (record { fields = (tt, (tt, (tt, (tt, (tt, (tt, (h-text, tt))))))); encloses = tt }) (omega (arith, h-path, h-text))

pub askable_get_comment : (dt : ℕ) (dir : NodeId) (path : PathValue) → length (canonical_path path) ≤ 4096 → IsAskable (calls.GetComment dt dir path)
askable_get_comment dt dir path h-path =
    askable (calls.GetComment dt dir path) tt (record { fields = (tt, (tt, (tt, (tt, (tt, tt))))); encloses = tt }) (omega (arith, h-path))

pub askable_set_file : (volume : VolumeId) (dir : NodeId) (bits : ℕ) (path : PathValue) (tail : List ℕ) → length (canonical_path path) ≤ 4096 → length tail ≤ 44 → IsAskable (calls.SetFileParms volume dir bits path tail)
askable_set_file volume dir bits path tail h-path h-tail =
    askable (calls.SetFileParms volume dir bits path tail) tt (record { fields = (tt, (tt, (tt, (tt, (tt, (tt, (tt, (tt, tt)))))))); encloses = tt }) (omega (arith, h-path, h-tail))

pub askable_resolve : (volume : VolumeId) (id : NodeId) (bits : ℕ) → IsAskable (calls.ResolveID volume id bits)
askable_resolve volume id bits =
    askable (calls.ResolveID volume id bits) tt (record { fields = (tt, (tt, (tt, (tt, (tt, tt))))); encloses = tt }) (omega (arith))

pub askable_logout : IsAskable calls.Logout
askable_logout = askable calls.Logout tt (record { fields = (tt, (tt, tt)); encloses = tt }) (omega arith)
