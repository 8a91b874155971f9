-- What the client's requests ask, as their bytes say it.
use Rattle.std.proofs.Common.{◌≡◌, ◌∙◌, refl, sym, ap, ℕ, zero, suc, ◌/◌, ◌<◌, ◌^◌, Bool, true, false, cond, List, [], ◌++◌, length, Some, None, arith, lit≤, eq-eqb, append-nil, length-append}
use Rattle.std.specs.Prelude.{◌&&◌, ◌==◌, nat_lt, ◌+◌, ◌≤◌}
use Rattle.std.proofs.Math.Nat.{mod-lt}
use Rattle.std.specs.Int.{byte_at, bytes_high_first, bytes_low_first, to_le_bytes, w32}
use Rattle.std.proofs.lemmas.Bool.{and_from, and_parts, cond_both, ltb-true, lt-ltb}
use Rattle.byteorder.specs.Endian.{big_bytes, big_number}
use Rattle.afp_base.proofs.ListFacts.{all-append}
use Rattle.afp_base.proofs.Numbers.{number_again}
use Rattle.afp_base.specs.Limits.{payload_limit}
use Rattle.afp_base.specs.declared.code.Code.{Code}
use Rattle.afp_base.specs.declared.code.Code.TheVariants as code
use Rattle.afp_calls_grammar.specs.grammar.Call.{IsSpellable, IsTypedCall, canonical_call, canonical_data}
use Rattle.afp_calls_grammar.specs.grammar.Laws.{CanonicalIsReadAgain}
use Rattle.afp_calls_grammar.specs.grammar.Spelt.{spelt_call}
use Rattle.afp_calls_grammar.specs.declared.grammar.call.Call.{Call}
use Rattle.afp_calls_grammar.specs.declared.grammar.call.Call.TheVariants as calls
use Rattle.afp_replies.specs.Replies.{canonical_reply}
use Rattle.afp_replies.specs.declared.reply.Reply.TheVariants as replies
use Rattle.volume_spec.specs.TypedVolume.{are_bytes, is_byte}
use Rattle.afp_serial.specs.Answer.{request}
use Rattle.afp_serial.specs.KeptAnswers.{is_kept_command}
use Rattle.afp_serial.specs.SessionViews.{AsksToken, AsksUnkept, ComesBack, LogsOut, wish_of, wish_of_call}
use Rattle.afp_serial.specs.Token.{session_token, token_word}
use Rattle.once_across_breaks.specs.once.Fits.{fits_token}
use Rattle.once_across_breaks.specs.once.Messages.{Fine, most_token, token_in}
use Rattle.once_across_breaks.specs.once.Serial.{answer_by, can_carry, carried}

-- a call that comes in a Command frame is what its canonical block spells
spelt-again : CanonicalIsReadAgain → (call : Call) → IsTypedCall call → IsSpellable call → canonical_data call ≡ None → spelt_call (canonical_call call) None ≡ Some call
spelt-again again call typed spellable none = ap (spelt_call (canonical_call call)) (sym none) ∙ again call typed spellable

wish-again : CanonicalIsReadAgain → (id : ℕ) (call : Call) → IsTypedCall call → IsSpellable call → canonical_data call ≡ None → wish_of (request id false 0 (canonical_call call)) ≡ wish_of_call (is_kept_command (canonical_call call)) (Some call)
wish-again again id call typed spellable none = ap (wish_of_call (is_kept_command (canonical_call call))) (spelt-again again call typed spellable none)

logout-alone : canonical_data calls.Logout ≡ None
unfolding canonical_data
logout-alone = refl

token-alone : canonical_data (calls.GetSessionToken 0 None []) ≡ None
unfolding canonical_data
token-alone = refl

back-alone : (token : List ℕ) → canonical_data (calls.DisconnectOldSession 0 token) ≡ None
unfolding canonical_data
back-alone token = refl

pub logout-wish : CanonicalIsReadAgain → (id : ℕ) → wish_of (request id false 0 (canonical_call calls.Logout)) ≡ LogsOut
logout-wish again id = wish-again again id calls.Logout (tt, (tt, tt)) (record { fields = (tt, (tt, tt)); encloses = tt }) logout-alone

pub token-wish : CanonicalIsReadAgain → (id : ℕ) → wish_of (request id false 0 (canonical_call (calls.GetSessionToken 0 None []))) ≡ AsksToken
token-wish again id =
    wish-again again id (calls.GetSessionToken 0 None []) (tt, (tt, (lit≤ tt, (tt, (tt, (tt, tt))))))
    (record { fields = (tt, (tt, ((lit≤ tt, lit≤ tt), (lit≤ tt, (refl, (refl, tt)))))); encloses = tt }) token-alone

pub back-wish : CanonicalIsReadAgain → (id : ℕ) (token : List ℕ) → length token < 256 ^ 4 → wish_of (request id false 0 (canonical_call (calls.DisconnectOldSession 0 token))) ≡ ComesBack token
back-wish again id token small =
    wish-again again id (calls.DisconnectOldSession 0 token) (tt, (tt, (lit≤ tt, (tt, tt))))
    (record { fields = (tt, (tt, (tt, (small, tt)))); encloses = tt }) (back-alone token)

login-alone : (version uam rest : List ℕ) → canonical_data (calls.Login version uam rest) ≡ None
unfolding canonical_data
login-alone version uam rest = refl

login-unkept : (version uam rest : List ℕ) → is_kept_command (canonical_call (calls.Login version uam rest)) ≡ false
unfolding canonical_call
login-unkept version uam rest = refl

pub login-wish : CanonicalIsReadAgain → (id : ℕ) (version uam rest : List ℕ) → length version < 256 → length uam < 256 → wish_of (request id false 0 (canonical_call (calls.Login version uam rest))) ≡ AsksUnkept
login-wish again id version uam rest small small' =
    wish-again again id (calls.Login version uam rest) (tt, (tt, (tt, (tt, tt)))) (record { fields = (tt, (small, (small', (tt, tt)))); encloses = tt }) (login-alone version uam rest)
    ∙ ap (λ kept. wish_of_call kept (Some (calls.Login version uam rest))) (login-unkept version uam rest)

-- ---- their bytes are bytes

pub logout-typed : are_bytes (canonical_call calls.Logout) ≡ true
unfolding canonical_call
logout-typed = refl

pub token-typed : are_bytes (canonical_call (calls.GetSessionToken 0 None [])) ≡ true
unfolding canonical_call
token-typed = refl

pub logout-size : length (canonical_call calls.Logout) ≤ payload_limit
unfolding canonical_call
logout-size = lit≤ tt

pub token-size : length (canonical_call (calls.GetSessionToken 0 None [])) ≤ payload_limit
unfolding canonical_call
token-size = lit≤ tt

empty-typed : are_bytes (canonical_call (calls.DisconnectOldSession 0 [])) ≡ true
unfolding canonical_call
empty-typed = refl

can-parts : (token : List ℕ) → can_carry token ≡ true → (length token < 256 ^ 4) × (are_bytes (canonical_call (calls.DisconnectOldSession 0 token)) ≡ true)
can-parts token can =
    let p = and_parts (nat_lt (length token) 4294967296) (are_bytes (canonical_call (calls.DisconnectOldSession 0 token))) can in
    (ltb-true (length token) 4294967296 p.0, p.1)

pub carried-small : (token : List ℕ) → length (carried token) < 256 ^ 4
carried-small token = cond_both (can_carry token) token [] (λ t. length t < 256 ^ 4) (λ can. (can-parts token can).0) (λ not. lit≤ tt)

pub carried-typed : (token : List ℕ) → are_bytes (canonical_call (calls.DisconnectOldSession 0 (carried token))) ≡ true
carried-typed token = cond_both (can_carry token) token [] (λ t. are_bytes (canonical_call (calls.DisconnectOldSession 0 t)) ≡ true) (λ can. (can-parts token can).1) (λ not. empty-typed)

-- ---- a token is read

pub token-long : (key : List ℕ) (number : ℕ) → length (session_token key number) ≡ 16
unfolding session_token
token-long key number = refl

-- bytes of numbers are bytes
byte-small : (k x : ℕ) → is_byte (byte_at k x) ≡ true
byte-small zero x = lt-ltb (byte_at 0 x) 256 (mod-lt x (omega arith))
byte-small (suc k) x = lt-ltb (byte_at (suc k) x) 256 (mod-lt (x / 256 ^ suc k) (omega arith))

pub high-typed : (n x : ℕ) → are_bytes (bytes_high_first n x) ≡ true
high-typed zero x = refl
high-typed (suc n) x = and_from (is_byte (byte_at n x)) (are_bytes (bytes_high_first n x)) (byte-small n x) (high-typed n x)

low-typed : (k n x : ℕ) → are_bytes (bytes_low_first k n x) ≡ true
low-typed k zero x = refl
low-typed k (suc n) x = and_from (is_byte (byte_at k x)) (are_bytes (bytes_low_first (suc k) n x)) (byte-small k x) (low-typed (suc k) n x)

token-bytes : (key : List ℕ) (number : ℕ) → are_bytes (session_token key number) ≡ true
unfolding session_token
token-bytes key number =
    let first : List ℕ = to_le_bytes w32 (token_word key number 0) in
    let last : List ℕ = to_le_bytes w32 (token_word key number 1) in
    all-append is_byte (big_bytes 8 number) (first ++ last) (high-typed 8 number) (all-append is_byte first last (low-typed 0 4 (token_word key number 0)) (low-typed 0 4 (token_word key number 1)))

pub token-fits : (key : List ℕ) (number : ℕ) → fits_token (session_token key number) ≡ true
token-fits key number =
    let long = token-long key number in
    let room : 17 ≤ most_token + 1 = lit≤ tt in
    and_from (nat_lt (length (session_token key number)) (most_token + 1)) (are_bytes (session_token key number)) (lt-ltb (length (session_token key number)) (most_token + 1) (omega (arith, long, room))) (token-bytes key number)

back-typed : (key : List ℕ) (number : ℕ) → are_bytes (canonical_call (calls.DisconnectOldSession 0 (session_token key number))) ≡ true
unfolding canonical_call session_token
back-typed key number = token-bytes key number

pub token-carried : (key : List ℕ) (number : ℕ) → can_carry (session_token key number) ≡ true
token-carried key number =
    let long = token-long key number in
    and_from (nat_lt (length (session_token key number)) 4294967296) (are_bytes (canonical_call (calls.DisconnectOldSession 0 (session_token key number)))) (lt-ltb (length (session_token key number)) 4294967296 (omega (arith, long))) (back-typed key number)

-- what is not carried is no session's token
pub carried-is : (token key : List ℕ) (number : ℕ) → carried token ≡ session_token key number → token ≡ session_token key number
carried-is token key number =
    cond_both (can_carry token) token [] (λ t. t ≡ session_token key number → token ≡ session_token key number) (λ can is. is)
    (λ not is. absurd (let long = token-long key number in let none : 0 ≡ length (session_token key number) = ap length is in omega arith))

if-all : (a b c : Bool) (x : List ℕ) → a ≡ true → b ≡ true → c ≡ true → cond (a && b && c) (Some x) None ≡ Some x
if-all true true true x p q r = refl
if-all true true false x p q r = cc
if-all true false c x p q r = cc
if-all false b c x p q r = cc

token-again : (x : List ℕ) → length x ≡ 16 → token_in (big_bytes 4 (length x) ++ x) ≡ Some x
token-again x long =
    let size : length (big_bytes 4 (length x)) ≡ 4 = refl in
    let count = length-append (big_bytes 4 (length x)) x in
    let room : 17 ≤ 256 ^ 4 = lit≤ tt in
    let fits : 17 ≤ most_token + 1 = lit≤ tt in
    let four : 3 < length (big_bytes 4 (length x) ++ x) = omega (arith, size, count, long) in
    let small : length x < 256 ^ 4 = omega (arith, long, room) in
    let few : length x < most_token + 1 = omega (arith, long, fits) in
    if-all (nat_lt 3 (length (big_bytes 4 (length x) ++ x))) (big_number 4 (big_bytes 4 (length x) ++ x) == length x) (nat_lt (length x) (most_token + 1)) x
    (lt-ltb 3 (length (big_bytes 4 (length x) ++ x)) four) (eq-eqb (big_number 4 (big_bytes 4 (length x) ++ x)) (length x) (number_again 4 (length x) x small)) (lt-ltb (length x) (most_token + 1) few)

pub reply-token : (x : List ℕ) → length x ≡ 16 → token_in (canonical_reply (replies.Token x)) ≡ Some x
reply-token x long = ap token_in (append-nil (big_bytes 4 (length x) ++ x)) ∙ token-again x long

-- ---- answers as the client reads them

pub fine-is : (c : Code) (block b : List ℕ) → answer_by c block ≡ Fine b → (c ≡ code.Ok) × (block ≡ b)
fine-is code.Ok block b is = (refl, cc)
fine-is code.MiscErr block b is = absurd (cc)
fine-is code.NoMemory block b is = absurd (cc)
fine-is c block b is = absurd (cc)
