-- Frames of the Data Stream Interface tell a server end what the client asks.
use Rattle.std.proofs.Common.{◌≡◌, ◌∙◌, refl, sym, ap, ℕ, ◌+◌, ◌<◌, ◌≤◌, Bool, true, false, ◌&&◌, List, [], ◌++◌, length, Some, None, arith, length-append, lit≤, lit<}
use Rattle.std.specs.Prelude.{nat_eq, nat_le, nat_lt}
use Rattle.std.proofs.lemmas.Bool.{and_from, and_parts, cond-true, eqb-true, le-leb, leb-true, lt-ltb, ltb-true}
use denote.Struct.Props.{props}
use Rattle.byteorder.specs.Endian.{big_bytes}
use Rattle.afp_base.proofs.ListFacts.{all-append}
use Rattle.afp_base.specs.Limits.{payload_limit}
use Rattle.afp_calls_grammar.specs.grammar.Call.{canonical_call}
use Rattle.afp_calls_grammar.specs.grammar.Laws.{CanonicalIsReadAgain}
use Rattle.afp_calls_grammar.specs.declared.grammar.call.Call.TheVariants as calls
use Rattle.dsi_frame.specs.Frame.{IsGood}
use Rattle.volume_spec.specs.TypedVolume.{are_bytes, is_byte, is_long}
use Rattle.afp_serial.specs.SessionViews.{AsksKept, AsksToken, AsksUnkept, ComesBack, LogsOut, SessionWish, wish_of}
use Rattle.once_across_breaks.specs.once.Messages.{Body, Command, Does, Login, Logout, Other, Rejoin, Sent, Token, body_by, is_carried, most_token, request_of}
use Rattle.once_across_breaks.specs.once.Fits.{FitsBody, IsId, fits_token}
use Rattle.once_across_breaks.specs.once.Run.{Asks, Opens, Request}
use Rattle.once_across_breaks.specs.once.Frames.{HeardCall, heard}
use Rattle.once_across_breaks.specs.once.Serial.{Setup, can_carry, carried, written}
use Rattle.once_across_breaks.specs.once.Bytes.{FitsNumbered, IsCodec, seen_request}
use Rattle.once_across_breaks.specs.once.Dsi.{call_command, dsi_up, open_frame, read_call, read_request, read_up, request_frame, sent_by, sent_of}
use Rattle.once_across_breaks.proofs.OfOnce.DsiFront.{frame-part, frame-whole}
use Rattle.once_across_breaks.proofs.OfOnce.Effects.{written-is-read}
use Rattle.once_across_breaks.proofs.OfOnce.SerialServer.{body-typed}
use Rattle.once_across_breaks.proofs.OfOnce.Wishes.{high-typed, logout-size, token-size}

-- ---- what is written fits a frame

-- a token that fits can be carried, so it is asked for as it is
back-typed : (token : List ℕ) → are_bytes token ≡ true → are_bytes (canonical_call (calls.DisconnectOldSession 0 token)) ≡ true
unfolding canonical_call
back-typed token typed = all-append is_byte (big_bytes 4 (length token)) (token ++ []) (high-typed 4 (length token)) (all-append is_byte token [] typed refl)

back-size : (token : List ℕ) → length (canonical_call (calls.DisconnectOldSession 0 token)) ≡ 8 + length token
unfolding canonical_call
back-size token = omega (arith, length-append token [])

pub carried-whole : (token : List ℕ) → fits_token token ≡ true → carried token ≡ token
carried-whole token fits =
    let p = and_parts (nat_lt (length token) (most_token + 1)) (are_bytes token) fits in
    let short : length token < most_token + 1 = ltb-true (length token) (most_token + 1) p.0 in
    cond-true (can_carry token) token []
    (and_from (nat_lt (length token) 4294967296) (are_bytes (canonical_call (calls.DisconnectOldSession 0 token))) (lt-ltb (length token) 4294967296 (omega (arith, short))) (back-typed token p.1))

in-command : (payload : List ℕ) → length payload ≤ payload_limit → is_carried false 0 payload ≡ true
in-command payload short = and_from (nat_le (length payload) payload_limit) true (le-leb (length payload) payload_limit short) refl

body-sized : (u : Setup) (body : Body) → FitsBody body → is_carried (written u body).write (written u body).offset (written u body).payload ≡ true
body-sized u Login fits = u.login.sized
body-sized u Token fits = in-command (canonical_call (calls.GetSessionToken 0 None [])) token-size
body-sized u (Rejoin token) fits =
    let is : length (canonical_call (calls.DisconnectOldSession 0 (carried token))) ≡ 8 + length token = ap (λ t. length (canonical_call (calls.DisconnectOldSession 0 t))) (carried-whole token fits) ∙ back-size token in
    let short = ltb-true (length token) (most_token + 1) (and_parts (nat_lt (length token) (most_token + 1)) (are_bytes token) fits).0 in
    in-command (canonical_call (calls.DisconnectOldSession 0 (carried token))) (omega (arith, is, short))
body-sized u (Does Logout) fits = in-command (canonical_call calls.Logout) logout-size
body-sized u (Does (Other command)) fits = command.sent.sized

-- ---- its frame is good

call-good : (write : Bool) (id offset : ℕ) (payload : List ℕ) → IsId id → is_carried write offset payload ≡ true
    → IsGood (record { reply = false; command = call_command write; id = id; word = offset; payload = payload })
call-good true id offset payload small sized =
    let p = and_parts (nat_le (length payload) payload_limit) (nat_le offset (length payload)) sized in
    let short : length payload ≤ payload_limit = leb-true (length payload) payload_limit p.0 in
    let within : offset ≤ length payload = leb-true offset (length payload) p.1 in
    record { id = omega (arith, small); word = omega (arith, short, within); payload = short; offset = within }
call-good false id offset payload small sized =
    let p = and_parts (nat_le (length payload) payload_limit) (nat_eq offset 0) sized in
    let none : offset ≡ 0 = eqb-true offset 0 p.1 in
    record { id = omega (arith, small); word = omega (arith, none); payload = leb-true (length payload) payload_limit p.0; offset = tt }

open-good : (id : ℕ) → IsId id → IsGood (open_frame id)
open-good id small = record { id = omega (arith, small); word = lit< tt; payload = lit≤ tt; offset = tt }

pub request-good : (u : Setup) (last : ℕ) (r : Request) → FitsNumbered (last, r) → IsGood (request_frame u last (heard r))
request-good u last Opens fits = open-good last fits.0
request-good u last (Asks id body again) fits = call-good (written u body).write id (written u body).offset (written u body).payload fits.0 (body-sized u body fits.1.1)

-- ---- and it is read again

Bool-equal : (b : Bool) (p q : b ≡ true) → p ≡ q
Bool-equal b p q = hlevel-Bool b true p q
  where
    hlevel-Bool : IsSet Bool
    hlevel-Bool = hlevel props

wish-set : IsSet SessionWish
wish-set = hlevel props

sent-is : (write : Bool) (offset : ℕ) (payload : List ℕ) (a b : Bool) (t : (is_long offset && are_bytes payload) ≡ a) (s : is_carried write offset payload ≡ b)
    → a ≡ true → b ≡ true → (typed : (is_long offset && are_bytes payload) ≡ true) (sized : is_carried write offset payload ≡ true)
    → sent_by write offset payload a b t s ≡ Some (record { write = write; offset = offset; payload = payload; typed = typed; sized = sized })
sent-is write offset payload true true t s p q typed sized =
    λ i. Some (record { write = write; offset = offset; payload = payload; typed = Bool-equal (is_long offset && are_bytes payload) t typed i; sized = Bool-equal (is_carried write offset payload) s sized i })
sent-is write offset payload true false t s p q typed sized = absurd (cc)
sent-is write offset payload false b t s p q typed sized = absurd (cc)

sent-again : (sent : Sent) → sent_of sent.write sent.offset sent.payload ≡ Some sent
sent-again sent =
    sent-is sent.write sent.offset sent.payload (is_long sent.offset && are_bytes sent.payload) (is_carried sent.write sent.offset sent.payload)
    (λ i. is_long sent.offset && are_bytes sent.payload) (λ i. is_carried sent.write sent.offset sent.payload) sent.typed sent.sized sent.typed sent.sized

-- what is asked, from what the bytes ask
by-login : (sent : Sent) (w : SessionWish) (is : wish_of (request_of 0 sent) ≡ w) → w ≡ AsksUnkept → body_by sent w is ≡ Login
by-login sent AsksUnkept is same = refl
by-login sent LogsOut is same = absurd (cc)
by-login sent AsksToken is same = absurd (cc)
by-login sent (ComesBack token) is same = absurd (cc)
by-login sent AsksKept is same = absurd (cc)

by-token : (sent : Sent) (w : SessionWish) (is : wish_of (request_of 0 sent) ≡ w) → w ≡ AsksToken → body_by sent w is ≡ Token
by-token sent AsksToken is same = refl
by-token sent LogsOut is same = absurd (cc)
by-token sent AsksUnkept is same = absurd (cc)
by-token sent (ComesBack token) is same = absurd (cc)
by-token sent AsksKept is same = absurd (cc)

by-back : (sent : Sent) (token : List ℕ) (w : SessionWish) (is : wish_of (request_of 0 sent) ≡ w) → w ≡ ComesBack token → body_by sent w is ≡ Rejoin token
by-back sent token (ComesBack other) is same = let e : other ≡ token = cc in ap Rejoin e
by-back sent token LogsOut is same = absurd (cc)
by-back sent token AsksToken is same = absurd (cc)
by-back sent token AsksUnkept is same = absurd (cc)
by-back sent token AsksKept is same = absurd (cc)

by-logout : (sent : Sent) (w : SessionWish) (is : wish_of (request_of 0 sent) ≡ w) → w ≡ LogsOut → body_by sent w is ≡ Does Logout
by-logout sent LogsOut is same = refl
by-logout sent AsksToken is same = absurd (cc)
by-logout sent AsksUnkept is same = absurd (cc)
by-logout sent (ComesBack token) is same = absurd (cc)
by-logout sent AsksKept is same = absurd (cc)

by-command : (command : Command) (w : SessionWish) (is : wish_of (request_of 0 command.sent) ≡ w) → w ≡ AsksKept → body_by command.sent w is ≡ Does (Other command)
by-command command AsksKept is same = λ i. Does (Other (record { sent = command.sent; kept = wish-set (wish_of (request_of 0 command.sent)) AsksKept is command.kept i }))
by-command command LogsOut is same = absurd (cc)
by-command command AsksToken is same = absurd (cc)
by-command command AsksUnkept is same = absurd (cc)
by-command command (ComesBack token) is same = absurd (cc)

abbrev wish_here : Sent → SessionWish
wish_here sent = wish_of (request_of 0 sent)

-- what the client asks, with the proof of its ranges
abbrev sent_for : (u : Setup) (body : Body) → FitsBody body → Sent
sent_for u body fits = record { write = (written u body).write; offset = (written u body).offset; payload = (written u body).payload; typed = body-typed u body; sized = body-sized u body fits }

body-again : CanonicalIsReadAgain → (u : Setup) (body : Body) (fits : FitsBody body) → sent_of (written u body).write (written u body).offset (written u body).payload ≡ Some (sent_for u body fits)
body-again again u body fits = sent-again (sent_for u body fits)

asked-again : CanonicalIsReadAgain → (u : Setup) (id : ℕ) (body : Body) → FitsBody body → read_call id [] (sent_of (written u body).write (written u body).offset (written u body).payload) ≡ Some ((id, HeardCall id body), [])
asked-again again u id Login fits = ap (read_call id []) (sent-again u.login) ∙ ap (λ b. Some ((id, HeardCall id b), [])) (by-login u.login (wish_here u.login) (λ i. wish_here u.login) u.unkept)
asked-again again u id Token fits =
    let sent : Sent = sent_for u Token fits in
    ap (read_call id []) (body-again again u Token fits) ∙ ap (λ b. Some ((id, HeardCall id b), [])) (by-token sent (wish_here sent) (λ i. wish_here sent) (written-is-read again u 0 Token))
asked-again again u id (Rejoin token) fits =
    let sent : Sent = sent_for u (Rejoin token) fits in
    ap (read_call id []) (body-again again u (Rejoin token) fits)
    ∙ ap (λ b. Some ((id, HeardCall id b), [])) (by-back sent token (wish_here sent) (λ i. wish_here sent) (written-is-read again u 0 (Rejoin token) ∙ ap ComesBack (carried-whole token fits)))
asked-again again u id (Does Logout) fits =
    let sent : Sent = sent_for u (Does Logout) fits in
    ap (read_call id []) (body-again again u (Does Logout) fits) ∙ ap (λ b. Some ((id, HeardCall id b), [])) (by-logout sent (wish_here sent) (λ i. wish_here sent) (written-is-read again u 0 (Does Logout)))
asked-again again u id (Does (Other command)) fits =
    ap (read_call id []) (sent-again command.sent) ∙ ap (λ b. Some ((id, HeardCall id b), [])) (by-command command (wish_here command.sent) (λ i. wish_here command.sent) command.kept)

-- a Command has no place of data
read-is : (write : Bool) (id offset : ℕ) (payload : List ℕ) → is_carried write offset payload ≡ true → read_request false (call_command write) id offset payload [] ≡ read_call id [] (sent_of write offset payload)
read-is true id offset payload sized = refl
read-is false id offset payload sized =
    let none : offset ≡ 0 = eqb-true offset 0 (and_parts (nat_le (length payload) payload_limit) (nat_eq offset 0) sized).1 in
    ap (λ o. read_call id [] (sent_of false o payload)) (sym none)

read-again : CanonicalIsReadAgain → (u : Setup) (last : ℕ) (r : Request) → FitsNumbered (last, r) → read_up (Some (request_frame u last (heard r), [])) ≡ Some (seen_request (last, r), [])
read-again again u last Opens fits = refl
read-again again u last (Asks id body mark) fits = read-is (written u body).write id (written u body).offset (written u body).payload (body-sized u body fits.1.1) ∙ asked-again again u id body fits.1.1

pub up-codec : CanonicalIsReadAgain → (u : Setup) → IsCodec FitsNumbered seen_request (dsi_up u)
up-codec again u = record {
  nothing = refl;
  whole = λ x fits. ap read_up (frame-whole (request_frame u x.0 (heard x.1)) (request-good u x.0 x.1 fits)) ∙ read-again again u x.0 x.1 fits;
  part = λ x a b fits same some. ap read_up (frame-part (request_frame u x.0 (heard x.1)) a b (request-good u x.0 x.1 fits) same some);
}
