-- Each request that the client asks is one that may be asked.
use Rattle.std.proofs.Common.{◌≡◌, ℕ, ◌≤◌, List, length, arith}
use Rattle.afp_base.specs.declared.ids.ForkRef.{ForkRef}
use Rattle.afp_base.specs.declared.ids.NodeId.{NodeId}
use Rattle.afp_base.specs.declared.ids.VolumeId.{VolumeId}
use Rattle.afp_names.specs.Path.{PathValue, canonical_path}
use Rattle.afp_calls_grammar.specs.declared.grammar.call.Call.TheVariants as calls
use Rattle.client_script_lines.specs.calls.Asked.{IsAskable}
use Rattle.client_script_lines.proofs.OfCalls.SizeLemmas.{askable}

pub askable_get : (volume : VolumeId) (dir : NodeId) (bits dir_bits : ℕ) (path : PathValue) → length (canonical_path path) ≤ 4096 → IsAskable (calls.GetFileDirParms volume dir bits dir_bits path)
askable_get volume dir bits dir_bits path h =
    askable (calls.GetFileDirParms volume dir bits dir_bits path) tt (record { fields = (tt, (tt, (tt, (tt, (tt, (tt, (tt, tt))))))); encloses = tt }) (omega (arith, h))

pub askable_list : (volume : VolumeId) (dir : NodeId) (bits dir_bits count start size : ℕ) (path : PathValue) → length (canonical_path path) ≤ 4096 → IsAskable (calls.EnumerateExt2 volume dir bits dir_bits count start size path)
askable_list volume dir bits dir_bits count start size path h =
    askable (calls.EnumerateExt2 volume dir bits dir_bits count start size path) tt (record { fields = (tt, (tt, (tt, (tt, (tt, (tt, (tt, (tt, (tt, (tt, tt)))))))))); encloses = tt }) (omega (arith, h))

pub askable_create : (flag : ℕ) (volume : VolumeId) (dir : NodeId) (path : PathValue) → length (canonical_path path) ≤ 4096 → IsAskable (calls.CreateFile flag volume dir path)
askable_create flag volume dir path h =
    askable (calls.CreateFile flag volume dir path) tt (record { fields = (tt, (tt, (tt, (tt, (tt, tt))))); encloses = tt }) (omega (arith, h))

pub askable_set_fork : (reference : ForkRef) (bits : ℕ) (tail : List ℕ) → length tail ≤ 44 → IsAskable (calls.SetForkParms reference bits tail)
askable_set_fork reference bits tail h =
    askable (calls.SetForkParms reference bits tail) tt (record { fields = (tt, (tt, (tt, (tt, (tt, tt))))); encloses = tt }) (omega (arith, h))

pub askable_set_date : (volume : VolumeId) (dir : NodeId) (bits : ℕ) (path : PathValue) (tail : List ℕ) → length (canonical_path path) ≤ 4096 → length tail ≤ 44 → IsAskable (calls.SetFileDirParms volume dir bits path tail)
askable_set_date volume dir bits path tail h h-tail =
    askable (calls.SetFileDirParms volume dir bits path tail) tt (record { fields = (tt, (tt, (tt, (tt, (tt, (tt, (tt, (tt, tt)))))))); encloses = tt }) (omega (arith, h, h-tail))

pub askable_room : (volume : VolumeId) (bits : ℕ) → IsAskable (calls.GetVolParms volume bits)
askable_room volume bits =
    askable (calls.GetVolParms volume bits) tt (record { fields = (tt, (tt, (tt, (tt, tt)))); encloses = tt }) (omega (arith))

pub askable_volumes : IsAskable calls.GetSrvrParms
askable_volumes = askable calls.GetSrvrParms tt (record { fields = (tt, (tt, tt)); encloses = tt }) (omega arith)
