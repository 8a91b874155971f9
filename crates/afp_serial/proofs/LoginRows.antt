-- Logins and Logout keep a sound world sound.
use Rattle.std.proofs.Common.{◌≡◌, ◌∙◌, sym, refl, ℕ, Bool, true, false, not, List, [], Option, Some, None}
use Rattle.std.specs.Prelude.{◌==◌, find, option_map}
use Rattle.std.specs.List.{list_any}
use Rattle.std.proofs.lemmas.Bool.{and_parts, cond_both, or_right}
use Rattle.afp_base.proofs.Facts.{eqb-itself}
use Rattle.afp_replies.specs.Commands.{rows, shape_in, shape_of}
use Rattle.afp_replies.specs.Replies.{Shows, layout_for}
use Rattle.afp_replies.specs.declared.reply.Reply.TheVariants.{Empty}
use Rattle.afp_base.specs.declared.code.Code.TheVariants.{Ok}
use Rattle.afp_calls_grammar.specs.declared.grammar.call.Call.{Call}
use Rattle.afp_calls_grammar.specs.declared.grammar.call.Call.TheVariants.{Login, LoginExt, Logout}
use Rattle.afp_serial.proofs.Closed.{ending-sound, ending-apart}
use Rattle.afp_serial.proofs.Replaced.{TakesPlace, number_of, numbered, replaced-apart, replaced-old, replaced-sound, volume-kept}
use Rattle.afp_serial.proofs.SoundRow.{IsSoundRow, no-keeper, no_more-refuses}
use Rattle.afp_serial.proofs.SoundParts.{sessions-parts, opens-parts, caches-parts}
use Rattle.afp_serial.specs.SessionLaws.{asking_changes, logs_in}
use Rattle.afp_serial.specs.ReplyKinds.{reply_kind}
use Rattle.afp_serial.specs.Login.{Credentials, credentials_at, is_cleartext, is_user, login_ext_row, login_row, logs_in_row, named, tail_place, user_given, who_logs_in}
use Rattle.afp_serial.specs.Logout.{logout_row}
use Rattle.afp_serial.specs.Users.{guest_id, is_user_of}
use Rattle.afp_serial.specs.declared.user.User.{User}
use Rattle.afp_serial.specs.World.{volume_at, with_session, World, Session}
use Rattle.afp_serial.specs.Sound.{IsSound, has_volume_open, is_file_of, is_lawful_open, is_lawful_cache}
use Rattle.afp_base.proofs.ListFacts.{all-filter, all-put, all-weaker, any-filter, find-all, none-any}

abbrev with_user : Session → Option ℕ → Session
with_user s user = record s { user = user }

takes : (w : World) (s : Session) (test : Session → Bool) (user : Option ℕ) → find test w.sessions ≡ Some s → TakesPlace w s (with_user s user)
takes w s test user found = record { test = test; found = found; number = refl; place = refl }

login-keeps : (w : World) (s : Session) (test : Session → Bool) (user : Option ℕ) → find test w.sessions ≡ Some s → is_user_of w.house.users user ≡ true → IsSound w → IsSound (with_session w (with_user s user))
login-keeps w s test user found known h =
    let t : Session = with_user s user in
    let way : TakesPlace w s t = takes w s test user found in
    replaced-sound w s t h way known
    (find-all test (λ x. is_lawful_cache x.cache) w.sessions s found (caches-parts w h.caches))
    (all-weaker (is_lawful_open w) (λ o. has_volume_open (with_session w t).sessions o.session o.fork.volume) w.opens
    (λ o stood. volume-kept w s t o.session o.fork.volume (sessions-parts w h.sessions) (numbered way) (λ had. had)
    (and_parts (has_volume_open w.sessions o.session o.fork.volume) (is_file_of (volume_at w.volumes o.fork.volume) o.fork.node) stood).0)
    (opens-parts w h.opens).stand)

-- who logs in is a user of the house, or the one without a name

found-is : (p : User → Bool) (users : List User) (user : User) → find p users ≡ Some user → list_any (λ other. other.id == user.id) users ≡ true
found-is p users user is = by (list_any (λ other. other.id == user.id) users) refl
  where
    by : (b : Bool) → list_any (λ other. other.id == user.id) users ≡ b → b ≡ true
    by true there = refl
    by false none = let own : not (user.id == user.id) ≡ true = find-all p (λ other. not (other.id == user.id)) users user is (none-any (λ other. other.id == user.id) users none) in absurd (let same : (user.id == user.id) ≡ true = eqb-itself user.id in cc)

given-known : (users : List User) (given : Option Credentials) → is_user_of users (option_map (λ (user : User). user.id) (user_given users given)) ≡ true
given-known users None = refl
given-known users (Some given) = by (find (is_user given) users) refl
  where
    by : (o : Option User) → find (is_user given) users ≡ o → is_user_of users (option_map (λ (user : User). user.id) o) ≡ true
    by None is = refl
    by (Some user) is = or_right (user.id == guest_id) (list_any (λ other. other.id == user.id) users) (found-is (is_user given) users user is)

known-in : (users : List User) (uam : List ℕ) (given : Option Credentials) → is_user_of users (who_logs_in users uam given) ≡ true
known-in users uam given =
    cond_both (is_cleartext uam) (option_map (λ (user : User). user.id) (user_given users given)) (Some guest_id) (λ o. is_user_of users o ≡ true)
    (λ named. given-known users given)
    (λ guest. refl)

-- both logins

logs-in-sound : (call : Call) (version uam : List ℕ) (given : Option Credentials) → Shows Empty (reply_kind call) Ok [] → logs_in call ≡ true → IsSoundRow call (logs_in_row version uam given)
logs-in-sound call version uam given shows logs = record {
  refuses = λ w s r is h. no_more-refuses call ((logs_in_row version uam given).refusals w s) r is refl;
  sound = λ w s test lawful found passes h. login-keeps w s test (who w) found (known-in w.house.users uam given) h;
  fits = λ w s lawful passes h. refl;
  shown = λ w s lawful passes h known. shows;
  apart = λ w s test found a. replaced-apart w s (with_user s (who w)) a (takes w s test (who w) found);
  next = λ w s. refl;
  keeper = λ w s index passes commits. no-keeper w index commits;
  old = λ w s n h. replaced-old w (with_user s (who w)) n h;
  cached = λ w s test found p h. all-put number_of (λ x. p x.number x.cache) (with_user s (who w)) w.sessions h (find-all test (λ x. p x.number x.cache) w.sessions s found h);
  leaves = λ stays w s. asking_changes (with_user s (who w)) refl refl refl (λ same. let bad : true ≡ false = sym logs ∙ same in absurd (cc)) refl;
}
  where
    who : World → Option ℕ
    who w = who_logs_in w.house.users uam given

login-shown : (version uam tail : List ℕ) → Shows Empty (reply_kind (Login version uam tail)) Ok []
unfolding layout_for shape_of shape_in rows
login-shown version uam tail = (refl, refl)

pub login-sound : (version uam tail : List ℕ) → IsSoundRow (Login version uam tail) (login_row version uam tail)
login-sound version uam tail = logs-in-sound (Login version uam tail) version uam (credentials_at (tail_place version uam) tail) (login-shown version uam tail) refl

login-ext-shown : (flags : ℕ) (version uam name : List ℕ) (path_kind : ℕ) (path tail : List ℕ) → Shows Empty (reply_kind (LoginExt flags version uam name path_kind path tail)) Ok []
unfolding layout_for shape_of shape_in rows
login-ext-shown flags version uam name path_kind path tail = (refl, refl)

pub login-ext-sound : (flags : ℕ) (version uam name : List ℕ) (path_kind : ℕ) (path tail : List ℕ) → IsSoundRow (LoginExt flags version uam name path_kind path tail) (login_ext_row version uam name tail)
login-ext-sound flags version uam name path_kind path tail =
    logs-in-sound (LoginExt flags version uam name path_kind path tail) version uam (named name tail) (login-ext-shown flags version uam name path_kind path tail) refl

logout-shown : Shows Empty (reply_kind Logout) Ok []
unfolding layout_for shape_of shape_in rows
logout-shown = (refl, refl)

pub logout-sound : IsSoundRow Logout logout_row
logout-sound = record {
  refuses = λ w s r is h. no_more-refuses Logout (logout_row.refusals w s) r is refl;
  sound = λ w s test lawful found passes h. ending-sound w (λ x. not (x.number == s.number)) h;
  fits = λ w s lawful passes h. refl;
  shown = λ w s lawful passes h known. logout-shown;
  apart = λ w s test found a. ending-apart w (λ x. not (x.number == s.number)) a;
  next = λ w s. refl;
  keeper = λ w s index passes commits. no-keeper w index commits;
  old = λ w s n h. any-filter (λ x. x.number == n) (λ x. not (x.number == s.number)) w.sessions h;
  cached = λ w s test found p h. all-filter (λ x. p x.number x.cache) (λ x. not (x.number == s.number)) w.sessions h;
  leaves = λ stays. absurd (cc);
}
