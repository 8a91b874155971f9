-- What FPGetSessionToken and FPDisconnectOldSession owe.
use Rattle.std.proofs.Common.{◌≡◌, refl, ℕ, ◌+◌, true, not, ◌&&◌, List, [], ◌++◌, Option, Some, None, length, arith, length-append}
use Rattle.std.specs.Prelude.{◌==◌, bytes_eq}
use Rattle.std.specs.List.{list_all}
use Rattle.std.proofs.lemmas.Bool.{and_parts, le-leb}
use Rattle.afp_base.specs.Limits.{payload_limit}
use Rattle.byteorder.specs.Endian.{big_bytes}
use Rattle.afp_replies.specs.Replies.{canonical_reply}
use Rattle.afp_replies.specs.Commands.{rows, shape_in, shape_of}
use Rattle.afp_replies.specs.declared.reply.Reply.TheVariants.{Empty, Token}
use Rattle.afp_calls_grammar.specs.declared.grammar.call.Call.TheVariants.{DisconnectOldSession, GetSessionToken}
use Rattle.afp_serial.proofs.OnVolumeRows.{Asks, IsToldTo, told-shown}
use Rattle.afp_serial.proofs.OtherPlaces.{rejoined, rejoins-apart, rejoins-sound}
use Rattle.afp_serial.proofs.Replaced.{number_of, replaced-old}
use Rattle.afp_serial.proofs.SoundParts.{ApartSessions}
use Rattle.afp_serial.proofs.SoundRow.{IsSoundRow, no-keeper, no_more-refuses}
use Rattle.afp_serial.proofs.ToldReplies.{empty-told}
use Rattle.afp_base.proofs.ListFacts.{all-filter, all-put, any-filter, find-all}
use Rattle.afp_serial.specs.SessionLaws.{all_stay}
use Rattle.afp_serial.specs.SessionToken.{disconnect_old_session_row, get_session_token_row, is_old_session, old_session, old_session_in, rejoins}
use Rattle.afp_serial.specs.Sound.{IsSound}
use Rattle.afp_serial.specs.Token.{session_token}
use Rattle.afp_serial.specs.World.{has_session, is_expired, without_session, World, Session}

-- FPDisconnectOldSession

disconnect-asks : (kind : ℕ) (token : List ℕ) → Asks (DisconnectOldSession kind token) Empty
unfolding shape_of shape_in rows
disconnect-asks kind token = refl

old-other : (w : World) (s : Session) (token : List ℕ) (x : Session) → is_old_session w.house.token_key w.latest s.number token x ≡ true → not (x.number == s.number) ≡ true
old-other w s token x h = (and_parts (not (x.number == s.number)) (not (is_expired w.latest x.place) && bytes_eq (session_token w.house.token_key x.number) token) h).0

-- what holds of the world, and of it with the old session on this link, holds of what is done
rejoins-keeps : (P : World → Type 0) (w : World) (s : Session) (old : Option Session) → P w → ((o : Session) → old ≡ Some o → P (rejoins w s (Some o)).world) → P (rejoins w s old).world
rejoins-keeps P w s None h gives = h
rejoins-keeps P w s (Some o) h gives = gives o refl

pub disconnect-old-session-sound : (kind : ℕ) (token : List ℕ) → IsSoundRow (DisconnectOldSession kind token) (disconnect_old_session_row token)
unfolding old_session
disconnect-old-session-sound kind token = record {
  refuses = λ w s r is h. no_more-refuses (DisconnectOldSession kind token) ((disconnect_old_session_row token).refusals w s) r is refl;
  sound = λ w s test lawful found passes h. rejoins-keeps IsSound w s (old_session_in w s token) h (λ o there. rejoins-sound w s o test (is_old_session w.house.token_key w.latest s.number token) found there (old-other w s token) h);
  fits = λ w s lawful passes h. (told w s).short;
  shown = λ w s lawful passes h known. told-shown (DisconnectOldSession kind token) (rejoins w s (old_session_in w s token)).reply (told w s);
  apart = λ w s test found a. rejoins-keeps ApartSessions w s (old_session_in w s token) a (λ o there. rejoins-apart w s o test (is_old_session w.house.token_key w.latest s.number token) found there (old-other w s token) a);
  next = λ w s. rejoins-keeps (λ x. x.next_link ≡ w.next_link) w s (old_session_in w s token) refl (λ o there. refl);
  keeper = λ w s index passes commits. no-keeper w index commits;
  old = λ w s n h. rejoins-keeps (λ x. has_session x.sessions n ≡ true → has_session w.sessions n ≡ true) w s (old_session_in w s token) (λ k. k)
      (λ o there k. any-filter (λ x. x.number == n) (λ x. not (x.number == s.number)) w.sessions (replaced-old (without_session w s.number) (rejoined s o) n k)) h;
  cached = λ w s test found p h. rejoins-keeps (λ x. list_all (λ y. p y.number y.cache) x.sessions ≡ true) w s (old_session_in w s token) h
      (λ o there. all-put number_of (λ x. p x.number x.cache) (rejoined s o) (without_session w s.number).sessions (all-filter (λ x. p x.number x.cache) (λ x. not (x.number == s.number)) w.sessions h)
      (find-all (is_old_session w.house.token_key w.latest s.number token) (λ x. p x.number x.cache) w.sessions o there h));
  leaves = λ stays. absurd (cc);
}
  where
    told : (w : World) (s : Session) → IsToldTo (DisconnectOldSession kind token) (rejoins w s (old_session_in w s token)).reply
    told w s = by (old_session_in w s token)
      where
        by : (q : Option Session) → IsToldTo (DisconnectOldSession kind token) (rejoins w s q).reply
        by None = empty-told (DisconnectOldSession kind token) (disconnect-asks kind token)
        by (Some o) = empty-told (DisconnectOldSession kind token) (disconnect-asks kind token)

-- FPGetSessionToken

token-asks : (kind : ℕ) (stamp : Option ℕ) (id token : List ℕ) → Asks (GetSessionToken kind stamp id) (Token token)
unfolding shape_of shape_in rows
token-asks kind stamp id token = refl

token-length : (key : List ℕ) (number : ℕ) → length (session_token key number) ≡ 16
unfolding session_token
token-length key number = refl

token-size : (token : List ℕ) → length (canonical_reply (Token token)) ≡ 4 + length token
token-size token =
    let size : length (big_bytes 4 (length token)) ≡ 4 = refl in
    omega (arith, size, length-append (big_bytes 4 (length token) ++ token) [], length-append (big_bytes 4 (length token)) token)

token-told : (kind : ℕ) (stamp : Option ℕ) (id key : List ℕ) (number : ℕ) → IsToldTo (GetSessionToken kind stamp id) (Token (session_token key number))
token-told kind stamp id key number =
    let long = token-length key number in
    let all = token-size (session_token key number) in
    record {
      short = le-leb (length (canonical_reply (Token (session_token key number)))) payload_limit (omega (arith, long, all));
      fits = record { fits = omega (arith, long); told = token-asks kind stamp id (session_token key number) };
    }

pub get-session-token-sound : (kind : ℕ) (stamp : Option ℕ) (id : List ℕ) → IsSoundRow (GetSessionToken kind stamp id) get_session_token_row
get-session-token-sound kind stamp id = record {
  refuses = λ w s r is h. no_more-refuses (GetSessionToken kind stamp id) (get_session_token_row.refusals w s) r is refl;
  sound = λ w s test lawful found passes h. h;
  fits = λ w s lawful passes h. (token-told kind stamp id w.house.token_key s.number).short;
  shown = λ w s lawful passes h known. told-shown (GetSessionToken kind stamp id) _ (token-told kind stamp id w.house.token_key s.number);
  apart = λ w s test found a. a;
  next = λ w s. refl;
  keeper = λ w s index passes commits. no-keeper w index commits;
  old = λ w s n h. h;
  cached = λ w s test found p h. h;
  leaves = λ stays w s. all_stay refl;
}
