-- What calls leave of the sessions.
use Rattle.std.proofs.Common.{◌≡◌, ◌∙◌, ap, refl, subst, ℕ, Bool, true, false, cond, eqb, List, [], ◌∷◌, map, Option, Some}
use Rattle.std.specs.Prelude.{find}
use Rattle.afp_base.proofs.Facts.{eqb-itself}
use Rattle.afp_serial.proofs.Replaced.{put, put-like, put-same}
use Rattle.afp_serial.proofs.RowsSound.{row-sound}
use Rattle.afp_serial.proofs.SoundParts.{sessions-parts}
use Rattle.afp_serial.specs.Rows.{effect}
use Rattle.afp_serial.specs.SessionLaws.{LeavesMarks, LeavesOthers, LeavesSessions, LeavesUsers, SessionsAfter, all_stay, asking_changes, logs_in, mark_of, others}
use Rattle.afp_serial.specs.Sound.{IsSound}
use Rattle.afp_serial.specs.World.{with_session, World, Session}

pub leaves : LeavesSessions
leaves w s call stays = (row-sound call).leaves stays w s

-- without those of its number, nothing of the new session is left
others-put : (t : Session) (xs : List Session) → others t.number (map (put t) xs) ≡ others t.number xs
others-put t [] = refl
others-put t (x ∷ xs) = by (eqb x.number t.number) refl (others-put t xs)
  where
    by : (b : Bool) → eqb x.number t.number ≡ b → others t.number (map (put t) xs) ≡ others t.number xs → others t.number (cond b t x ∷ map (put t) xs) ≡ others t.number (x ∷ xs)
    by true is rest = rw (eqb-itself t.number) (rw is rest)
    by false is rest = rw is (ap (λ l. x ∷ l) rest)

others-left : (w : World) (s t : Session) → t.number ≡ s.number → others s.number (with_session w t).sessions ≡ others s.number w.sessions
others-left w s t number = subst (λ (n : ℕ). others n (with_session w t).sessions ≡ others n w.sessions) number (others-put t w.sessions)

others-after : (logs : Bool) (w : World) (s : Session) (v : World) → SessionsAfter logs w s v → others s.number v.sessions ≡ others s.number w.sessions
others-after logs w s v (all_stay is) = ap (others s.number) is
others-after logs w s v (asking_changes t number place cache user is) = ap (others s.number) is ∙ others-left w s t number

pub leaves-others : LeavesOthers
leaves-others w s call stays = others-after (logs_in call) w s (effect w s call).world (leaves w s call stays)

-- what the new session has of the one in whose place it stands, all have
seen-put : {B : Type 0} (f : Session → B) (s t : Session) (xs : List Session) → t.number ≡ s.number → f t ≡ f s → map f (map (put t) xs) ≡ map f (map (put s) xs)
seen-put f s t [] number like = refl
seen-put f s t (x ∷ xs) number like = λ i. put-like f s t x number like i ∷ seen-put f s t xs number like i

seen-left : {B : Type 0} (f : Session → B) (w : World) (s t : Session) (test : Session → Bool) → IsSound w → find test w.sessions ≡ Some s → t.number ≡ s.number → f t ≡ f s → map f (with_session w t).sessions ≡ map f w.sessions
seen-left f w s t test h found number like =
    seen-put f s t w.sessions number like ∙ ap (map f) (put-same w s s (sessions-parts w h.sessions) (record { test = test; found = found; number = refl }))

pub leaves-marks : LeavesMarks
leaves-marks w s test call h found stays = by (leaves w s call stays)
  where
    by : SessionsAfter (logs_in call) w s (effect w s call).world → map mark_of (effect w s call).world.sessions ≡ map mark_of w.sessions
    by (all_stay is) = ap (map mark_of) is
    by (asking_changes t number place cache user is) =
        ap (map mark_of) is ∙ seen-left mark_of w s t test h found number (λ i. record { number = number i; place = place i; cache = cache i })

pub leaves-users : LeavesUsers
leaves-users w s test call h found stays no_login = by (leaves w s call stays)
  where
    user_of : Session → Option ℕ
    user_of x = x.user

    by : SessionsAfter (logs_in call) w s (effect w s call).world → map (λ (x : Session). x.user) (effect w s call).world.sessions ≡ map (λ (x : Session). x.user) w.sessions
    by (all_stay is) = ap (map (λ (x : Session). x.user)) is
    by (asking_changes t number place cache user is) = ap (map (λ (x : Session). x.user)) is ∙ seen-left (λ (x : Session). x.user) w s t test h found number (user no_login)
