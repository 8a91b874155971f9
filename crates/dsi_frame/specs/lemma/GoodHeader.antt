-- A header that is read.
use Rattle.std.specs.Prelude.{◌≡◌, ℕ, ◌≤◌, List, drop}
use Rattle.afp_base.specs.Limits.{payload_limit}
use Rattle.byteorder.specs.Endian.{big_number}
use Rattle.dsi_frame.specs.declared.frame.Header.{Header}
use Rattle.dsi_frame.specs.declared.frame.HeaderNumbers.{HeaderNumbers}
use Rattle.dsi_frame.specs.Frame.{command_number, flags_byte, WordFits, flags_in, command_in, word_in, payload_length_in}

abbrev pub id_in : List ℕ → ℕ
id_in bytes = big_number 2 (drop 2 bytes)

-- these are the numbers in the header that the bytes begin with
pub record AreNumbers (bytes : List ℕ) (n : HeaderNumbers) : Type 0 where
  pub flags : n.flags ≡ flags_in bytes
  pub command : n.command ≡ command_in bytes
  pub id : n.id ≡ id_in bytes
  pub word : n.word ≡ word_in bytes
  pub size : n.length ≡ payload_length_in bytes

-- the bytes begin with this header, and it is good
pub record IsGoodHeader (bytes : List ℕ) (h : Header) : Type 0 where
  pub flags : flags_in bytes ≡ flags_byte h.reply
  pub command : command_in bytes ≡ command_number h.command
  pub id : id_in bytes ≡ h.id
  pub word : word_in bytes ≡ h.word
  pub size : payload_length_in bytes ≡ h.length
  pub limit : h.length ≤ payload_limit
  pub offset : WordFits h.reply h.command h.word h.length
