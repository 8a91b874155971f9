-- The bits by which a client asks for parameters.
use Rattle.std.specs.Prelude.{◌≡◌, ℕ, zero, suc, Bool, ◌==◌, not, bit_and}
use Rattle.std.specs.Int.{bit_at}

-- The bits that may be asked of a volume, a file and a directory (AFP Reference, "Volume Bitmap", "File Bitmap", "Directory Bitmap"; this profile)
abbrev pub volume_mask : ℕ
volume_mask = 0x0fff

abbrev pub file_mask : ℕ
file_mask = 0x6f7f

abbrev pub dir_mask : ℕ
dir_mask = 0x3f7f

-- the mask of a kind: 0 volume, 1 file, 2 directory (this profile)
abbrev pub mask_of : ℕ → ℕ
mask_of zero = volume_mask
mask_of (suc zero) = file_mask
mask_of (suc (suc kind)) = dir_mask

-- no bit outside the mask is set (this profile)
abbrev pub IsWithin : ℕ → ℕ → Type 0
IsWithin mask bits = bit_and bits mask ≡ bits

-- whether a bit outside the mask is set (AFP Reference, "FPGetFileDirParms")
abbrev pub is_outside : ℕ → ℕ → Bool
is_outside mask bits = not (bit_and bits mask == bits)

-- the bit is set (AFP Reference, "FPGetFileDirParms")
unfoldable pub is_asked : ℕ → ℕ → Bool
is_asked bits bit = bit_at bits bit == 1
