-- Each call of a mirror is one that may be asked.
use Rattle.std.proofs.Common.{◌≡◌, ℕ, ◌≤◌, List, ◌++◌, length, refl, arith, length-append}
use Rattle.std.specs.Prelude.{ℤ, pos}
use Rattle.std.specs.Int.{cast_unsigned, w32}
use Rattle.byteorder.specs.Endian.{big_bytes}
use Rattle.afp_base.proofs.Numbers.{length-big_bytes}
use Rattle.afp_base.specs.declared.ids.ForkRef.{ForkRef}
use Rattle.afp_base.specs.declared.ids.NodeId.{NodeId}
use Rattle.afp_base.specs.declared.ids.VolumeId.{VolumeId}
use Rattle.afp_calls_grammar.specs.declared.grammar.call.Call.TheVariants as calls
use Rattle.afp_names.specs.Path.{PathValue, canonical_path}
use Rattle.client_script_lines.proofs.OfCalls.SizeLemmas.{askable}
use Rattle.client_script_lines.specs.calls.Asked.{IsAskable}
use Rattle.afp_mirror_walk.specs.Settings.{date_bytes, settings_bytes}
use Rattle.afp_mirror_walk.specs.declared.walk.standing.Settings.{Settings}

pub askable_read_ext : (reference : ForkRef) (offset count : ℤ) → IsAskable (calls.ReadExt reference offset count)
askable_read_ext reference offset count =
    askable (calls.ReadExt reference offset count) tt (record { fields = (tt, (tt, (tt, (tt, (tt, tt))))); encloses = tt }) (omega (arith))

pub askable_write_ext : (flag : ℕ) (reference : ForkRef) (offset : ℤ) (piece : List ℕ) → length piece ≤ 65536 → IsAskable (calls.WriteExt flag reference offset (pos (length piece)) piece)
askable_write_ext flag reference offset piece short =
    askable (calls.WriteExt flag reference offset (pos (length piece)) piece) tt (record { fields = (tt, (tt, (tt, (tt, (tt, tt))))); encloses = refl }) (omega (arith, short))

pub askable_set_file : (volume : VolumeId) (dir : NodeId) (bits : ℕ) (path : PathValue) (tail : List ℕ) → length (canonical_path path) ≤ 4096 → length tail ≤ 46 → IsAskable (calls.SetFileParms volume dir bits path tail)
askable_set_file volume dir bits path tail h-path h-tail =
    askable (calls.SetFileParms volume dir bits path tail) tt (record { fields = (tt, (tt, (tt, (tt, (tt, (tt, (tt, (tt, tt)))))))); encloses = tt }) (omega (arith, h-path, h-tail))

pub askable_set_dir : (volume : VolumeId) (dir : NodeId) (bits : ℕ) (path : PathValue) (tail : List ℕ) → length (canonical_path path) ≤ 4096 → length tail ≤ 46 → IsAskable (calls.SetDirParms volume dir bits path tail)
askable_set_dir volume dir bits path tail h-path h-tail =
    askable (calls.SetDirParms volume dir bits path tail) tt (record { fields = (tt, (tt, (tt, (tt, (tt, (tt, (tt, (tt, tt)))))))); encloses = tt }) (omega (arith, h-path, h-tail))

pub settings_size : (s : Settings) → length s.finder ≡ 32 → length (settings_bytes s) ≤ 46
unfolding settings_bytes
settings_size s h =
    let w = big_bytes 2 s.word in
    let c = date_bytes s.created in
    let m = date_bytes s.modified in
    let b = date_bytes s.backup in
    omega (arith, h, length-append w c, length-append (w ++ c) m, length-append (w ++ c ++ m) b, length-append (w ++ c ++ m ++ b) s.finder, length-big_bytes 2 s.word, length-big_bytes 4 (cast_unsigned w32 s.created), length-big_bytes 4 (cast_unsigned w32 s.modified), length-big_bytes 4 (cast_unsigned w32 s.backup))
