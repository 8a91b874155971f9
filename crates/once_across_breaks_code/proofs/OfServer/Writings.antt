-- What the client writes, and the bytes of replies.
use Rattle.std.proofs.Common.{◌≡◌, refl, ℕ, Bool, true, false, List, [], Some, None, ◌∷◌, length, append-nil, eqb-true}
use Rattle.std.specs.Prelude.{if◌then◌else◌, nat_eq, nat_le}
use Rattle.std.proofs.lemmas.Bool.{and_parts}
use Rattle.afp_base.specs.Limits.{payload_limit}
use Rattle.dsi_frame.specs.Frame.{canonical_frame}
use Rattle.dsi_session.specs.Options.{attention_quantum_type, number_option}
use Rattle.once_across_breaks.specs.once.Dsi.{told_quantum}
use Rattle.once_across_breaks.specs.once.Run.{Asks, Opens}
use Rattle.once_across_breaks.specs.once.Messages.{Body, Does, Login, Logout, Other, Rejoin, Token, is_carried}
use Rattle.once_across_breaks.specs.once.Serial.{Setup, written}
use Rattle.once_across_breaks.proofs.OfOnce.DsiUp.{request-good}
use Rattle.once_across_breaks_code.specs.server.Ties.{RepliesAreSpelt, WrittenCarries, WrittenIsGood, frame_of_reply}

-- a Command has its place at 0
command-place : (write : Bool) (offset : ℕ) (payload : List ℕ) → is_carried write offset payload ≡ true → offset ≡ (if write then offset else 0)
command-place true offset payload carried = refl
command-place false offset payload carried = eqb-true offset 0 (and_parts (nat_le (length payload) payload_limit) (nat_eq offset 0) carried).1

body-place : (u : Setup) (body : Body) → (written u body).offset ≡ (if (written u body).write then (written u body).offset else 0)
body-place u Login = command-place u.login.write u.login.offset u.login.payload u.login.sized
body-place u Token = refl
body-place u (Rejoin token) = refl
body-place u (Does Logout) = refl
body-place u (Does (Other command)) = command-place command.sent.write command.sent.offset command.sent.payload command.sent.sized

pub written-carries : WrittenCarries
written-carries u (last, Opens) fits = record { request = refl; command = refl; numbered = refl; options = number_option attention_quantum_type told_quantum ∷ []; fit = refl }
written-carries u (last, Asks id body again) fits = record { request = refl; command = refl; fits = fits.0; numbered = refl; offset = body-place u body; payload = refl }

pub written-good : WrittenIsGood
written-good u x fits = request-good u x.0 x.1 fits

pub replies-spelt : RepliesAreSpelt
replies-spelt u r None = refl
replies-spelt u r (Some a) = append-nil (canonical_frame (frame_of_reply u (r, a)))
