-- FPFlush (AFP Reference, "FPFlush"): the volume's keeper settles what was committed to it.
use Rattle.std.specs.Prelude.{ℕ, None}
use Rattle.afp_serial.specs.World.{CallRow, with_empty_reply}
use Rattle.afp_serial.specs.OnVolume.{keeper_of, on_volume}

abbrev pub flush_row : ℕ → CallRow
flush_row volume = record {
  refusals = λ w s. on_volume w s volume (λ v. None);
  effect = λ w s. with_empty_reply w;
  committed = λ w s. keeper_of volume;
}
