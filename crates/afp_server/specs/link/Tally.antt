-- What a link has answered, counted (this profile).
use Rattle.std.specs.Prelude.{ℕ, ◌==◌, Bool, true, false, List, [], ◌∷◌, if◌then◌else◌}
use Rattle.afp_base.specs.Counts.{counted}
use Rattle.afp_serial.specs.Went.{Step}
use Rattle.afp_serial.specs.declared.ask.Told.{Told}
use Rattle.afp_serial.specs.declared.ask.Told.TheVariants.{Opened, Reply, Live, Done, Displaced, Memory}
use Rattle.dsi_frame.specs.Frame.{Frame}
use Rattle.afp_server.specs.declared.link.tally.Tally.{Tally}

-- nothing yet
abbrev pub no_tally : Tally
no_tally = record { replies = 0; refused = 0; answered = true }

-- one reply more that is refused, where its word is not 0
abbrev pub refused_more : ℕ → ℕ → ℕ
refused_more word n = if word == 0 then n else counted 1 n

-- after so many replies more
abbrev pub replies_after : ℕ → List Frame → ℕ
replies_after n [] = n
replies_after n (f ∷ replies) = replies_after (counted 1 n) replies

-- after those of them more whose code is not 0
abbrev pub refused_after : ℕ → List Frame → ℕ
refused_after n [] = n
refused_after n (f ∷ replies) = refused_after (refused_more f.word n) replies

-- an ask that is told Memory is not answered
abbrev pub and_told : Told → Bool → Bool
and_told (Opened link) so_far = so_far
and_told (Reply code block ends) so_far = so_far
and_told (Live drain) so_far = so_far
and_told Done so_far = so_far
and_told Displaced so_far = so_far
and_told Memory so_far = false

-- whether these were answered too
abbrev pub answered_after : Bool → List Step → Bool
answered_after so_far [] = so_far
answered_after so_far (s ∷ steps) = answered_after (and_told s.told so_far) steps

-- after these steps and these replies more
abbrev pub tallied : Tally → List Step → List Frame → Tally
tallied t steps replies = record {
  replies = replies_after t.replies replies;
  refused = refused_after t.refused replies;
  answered = answered_after t.answered steps;
}

-- one reply more, with this word
abbrev pub and_reply : ℕ → Tally → Tally
and_reply word t = record { replies = counted 1 t.replies; refused = refused_more word t.refused; answered = t.answered }
