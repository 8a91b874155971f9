-- What a deframer holds.
use Rattle.std.specs.Prelude.{ℕ, ◌+◌, List}
use Rattle.afp_base.specs.Limits.{payload_limit}
use Rattle.dsi_frame.specs.Frame.{header_length}

-- the bytes fed that no frame given out has taken, and the place of the first of them in the stream
pub record Buffered : Type 0 where
  pub place : ℕ
  pub rest : List ℕ

-- bytes of the buffer: the longest frame's
abbrev pub buffer_length : ℕ
buffer_length = header_length + payload_limit
