-- FPCloseVol (AFP Reference, "FPCloseVol").
use Rattle.std.specs.Prelude.{ℕ, ◌==◌, not, ◌&&◌, [], ◌∷◌, filter}
use Rattle.afp_serial.specs.World.{Effect, CallRow, commits_nothing, with_empty_reply, vol, with_session, closing, World, Session}

-- the session's forks on the volume are closed, and the volume is no more open in it
abbrev pub close_vol_effect : ℕ → World → Session → Effect
close_vol_effect volume w s = with_empty_reply (closing
    (with_session w (record s { volumes = filter (λ v. not (v == volume)) s.volumes }))
    (λ o. not ((o.session == s.number) && (o.fork.volume == volume))))

abbrev pub close_vol_row : ℕ → CallRow
close_vol_row volume = record {
  refusals = λ w s. vol s volume ∷ [];
  effect = close_vol_effect volume;
  committed = commits_nothing;
}
