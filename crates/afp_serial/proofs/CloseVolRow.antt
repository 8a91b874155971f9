-- What CloseVol does keeps a sound world sound.
use Rattle.std.proofs.Common.{◌≡◌, ◌∙◌, sym, refl, ℕ, Bool, true, not, ◌&&◌, List, [], Some}
use Rattle.std.specs.Prelude.{◌==◌, find, filter}
use Rattle.std.proofs.lemmas.Bool.{and_parts, and_from, eqb-true, eq-eqb}
use Rattle.afp_base.specs.declared.code.Code.TheVariants.{Ok}
use Rattle.afp_base.specs.declared.ids.VolumeId.{VolumeId}
use Rattle.afp_replies.specs.Commands.{rows, shape_in, shape_of}
use Rattle.afp_replies.specs.Replies.{Shows, layout_for}
use Rattle.afp_replies.specs.declared.reply.Reply.TheVariants.{Empty}
use Rattle.afp_calls_grammar.specs.declared.grammar.call.Call.TheVariants.{CloseVol}
use Rattle.afp_serial.proofs.Closed.{closing-sound, closing-apart}
use Rattle.afp_serial.proofs.Replaced.{TakesPlace, number_of, numbered, replaced-apart, replaced-old, replaced-sound, volume-kept}
use Rattle.afp_serial.proofs.SoundParts.{ApartSessions, sessions-parts, opens-parts, caches-parts, users-parts}
use Rattle.afp_serial.proofs.SoundRow.{IsSoundRow, no-keeper, no_more-refuses}
use Rattle.afp_serial.specs.SessionLaws.{asking_changes}
use Rattle.afp_serial.specs.CloseVol.{close_vol_effect, close_vol_row}
use Rattle.afp_serial.specs.ReplyKinds.{reply_kind}
use Rattle.afp_serial.specs.Users.{is_user_of}
use Rattle.afp_serial.specs.World.{has_opened, volume_at, closing, with_session, World, Session, OpenFork}
use Rattle.afp_serial.specs.Sound.{IsSound, has_volume_open, is_file_of, is_lawful_open, is_lawful_cache}
use Rattle.afp_base.proofs.Facts.{contra}
use Rattle.afp_base.proofs.ListFacts.{all-both, all-kept, all-put, any-still, find-all}

abbrev with_volumes : Session → List ℕ → Session
with_volumes s volumes = record s { volumes = volumes }

takes : (w : World) (s : Session) (test : Session → Bool) (volumes : List ℕ) → find test w.sessions ≡ Some s → TakesPlace w s (with_volumes s volumes)
takes w s test volumes found = record { test = test; found = found; number = refl; place = refl }

-- the forks that are left are on other volumes or of other sessions

abbrev is_elsewhere : Session → ℕ → OpenFork → Bool
is_elsewhere s volume o = not ((o.session == s.number) && (o.fork.volume == volume))

abbrev without : List ℕ → ℕ → List ℕ
without volumes volume = filter (λ v. not (v == volume)) volumes

other-volume : (s : Session) (volume : ℕ) (o : OpenFork) → is_elsewhere s volume o ≡ true → (s.number == o.session) ≡ true → (u : ℕ) → (u == o.fork.volume) ≡ true → not (u == volume) ≡ true
other-volume s volume o elsewhere its u is =
    contra ((o.session == s.number) && (o.fork.volume == volume)) (u == volume)
    (λ same. and_from (o.session == s.number) (o.fork.volume == volume)
    (eq-eqb o.session s.number (sym (eqb-true s.number o.session its)))
    (eq-eqb o.fork.volume volume (sym (eqb-true u o.fork.volume is) ∙ eqb-true u volume same)))
    elsewhere

still-there : (s : Session) (volume : ℕ) (o : OpenFork) → is_elsewhere s volume o ≡ true
    → ((s.number == o.session) && has_opened s o.fork.volume) ≡ true
    → ((s.number == o.session) && has_opened (with_volumes s (without s.volumes volume)) o.fork.volume) ≡ true
still-there s volume o elsewhere had =
    let e = and_parts (s.number == o.session) (has_opened s o.fork.volume) had in
    and_from (s.number == o.session) (has_opened (with_volumes s (without s.volumes volume)) o.fork.volume) e.0
    (any-still (λ u. u == o.fork.volume) (λ v. not (v == volume)) s.volumes (other-volume s volume o elsewhere e.0) e.1)

close-vol-apart : (w : World) (s : Session) (test : Session → Bool) (volume : ℕ) → find test w.sessions ≡ Some s → ApartSessions w → ApartSessions (close_vol_effect volume w s).world
close-vol-apart w s test volume found a =
    let v : World = closing w (is_elsewhere s volume) in
    replaced-apart v s (with_volumes s (without s.volumes volume)) (closing-apart w (is_elsewhere s volume) a) (takes v s test (without s.volumes volume) found)

close-vol-keeps : (w : World) (s : Session) (test : Session → Bool) (volume : ℕ) → find test w.sessions ≡ Some s → IsSound w → IsSound (close_vol_effect volume w s).world
close-vol-keeps w s test volume found h =
    let v : World = closing w (is_elsewhere s volume) in
    let closed : IsSound v = closing-sound w (is_elsewhere s volume) h in
    let t : Session = with_volumes s (without s.volumes volume) in
    let way : TakesPlace v s t = takes v s test (without s.volumes volume) found in
    replaced-sound v s t closed way
    (find-all test (λ x. is_user_of w.house.users x.user) w.sessions s found (users-parts w h.users))
    (find-all test (λ x. is_lawful_cache x.cache) w.sessions s found (caches-parts w h.caches))
    (all-both (is_lawful_open v) (is_elsewhere s volume) (λ o. has_volume_open (with_session v t).sessions o.session o.fork.volume) v.opens
    (λ o stood elsewhere. volume-kept v s t o.session o.fork.volume (sessions-parts v closed.sessions) (numbered way)
    (still-there s volume o elsewhere)
    (and_parts (has_volume_open v.sessions o.session o.fork.volume) (is_file_of (volume_at v.volumes o.fork.volume) o.fork.node) stood).0)
    (opens-parts v closed.opens).stand
    (all-kept (is_elsewhere s volume) w.opens))

close-vol-shown : (volume : VolumeId) → Shows Empty (reply_kind (CloseVol volume)) Ok []
unfolding layout_for shape_of shape_in rows
close-vol-shown volume = (refl, refl)

pub close-vol-sound : (volume : VolumeId) → IsSoundRow (CloseVol volume) (close_vol_row volume.0)
close-vol-sound volume = record {
  refuses = λ w s r is h. no_more-refuses (CloseVol volume) ((close_vol_row volume.0).refusals w s) r is refl;
  sound = λ w s test lawful found passes h. close-vol-keeps w s test volume.0 found h;
  fits = λ w s lawful passes h. refl;
  shown = λ w s lawful passes h known. close-vol-shown volume;
  apart = λ w s test found a. close-vol-apart w s test volume.0 found a;
  next = λ w s. refl;
  keeper = λ w s index passes commits. no-keeper w index commits;
  old = λ w s n h. replaced-old w (with_volumes s (without s.volumes volume.0)) n h;
  cached = λ w s test found p h. all-put number_of (λ x. p x.number x.cache) (with_volumes s (without s.volumes volume.0)) w.sessions h (find-all test (λ x. p x.number x.cache) w.sessions s found h);
  leaves = λ stays w s. asking_changes (with_volumes s (without s.volumes volume.0)) refl refl refl (λ same. refl) refl;
}
