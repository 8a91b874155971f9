-- Which commands calls are.
use Rattle.std.proofs.Common.{◌≡◌, ◌⊎◌, ◌∙◌, refl, sym, ap, subst, ℕ, ◌%◌, ◌≤◌, ◌<◌, Bool, true, false, List, [], ◌∷◌, ◌++◌, length, drop, Option, Some, None, inl, inr, arith, lit<}
use Rattle.std.specs.Prelude.{◌&&◌, nat_eq, nat_le}
use Rattle.std.proofs.lemmas.Bool.{and_from, false≢true, le-leb, lt-ltb}
use Rattle.std.proofs.lemmas.List.{drop_at, length-append, take_at}
use Rattle.afp_base.proofs.ListFacts.{all-append}
use Rattle.afp_base.specs.Limits.{payload_limit}
use Rattle.afp_calls_grammar.specs.grammar.Call.{Spells, canonical_call, canonical_data, canonical_piece, layout_of}
use Rattle.afp_calls_grammar.specs.grammar.Commands.{disconnect_old_session_command, get_session_token_command, logout_command}
use Rattle.afp_calls_grammar.specs.grammar.Laws.{IsFunction}
use Rattle.afp_calls_grammar.specs.grammar.LoginNames.{cleartext, no_user, version_3_3}
use Rattle.afp_calls_grammar.specs.grammar.Spelt.{spelt_call}
use Rattle.afp_calls_grammar.specs.grammar.Words.{BeginsWith, Enclosed, Nothing, Piece, RequestField, canonical_enclosed, command, enclosed_bytes}
use Rattle.afp_calls_grammar.specs.declared.grammar.call.Call as grammar
use Rattle.afp_calls_grammar.specs.declared.grammar.call.Call.TheVariants as calls
use Rattle.volume_spec.specs.TypedVolume.{are_bytes, is_byte, is_long}
use Rattle.afp_serial.specs.KeptAnswers.{is_kept_command}
use Rattle.afp_serial.specs.SessionViews.{AsksKept, wish_of, wish_of_call}
use Rattle.afp_client.specs.session.Opening.{login_of, login_tail}
use Rattle.afp_client.specs.session.State.{is_of_opening}
use Rattle.once_across_breaks.specs.once.Effects.{LoginsAreSetups}
use Rattle.once_across_breaks.specs.once.Messages.{Logout, Other, Sent, is_carried, request_of}
use Rattle.once_across_breaks.specs.once.Serial.{Setup, framed, in_command}
use Rattle.once_across_breaks_code.specs.client.Requests.{IsAskable, carried_by, carried_with}
use Rattle.once_across_breaks_code.specs.client.Steps.{CallsAreCommands, LoginsAreTheirs}

-- ---- what a call asks of sessions

-- FPLogout, or a call whose answer is kept
kept-call : (call : grammar.Call) → is_of_opening call ≡ false → (call ≡ calls.Logout) ⊎ (is_kept_command (canonical_call call) ≡ true)
unfolding canonical_call
kept-call calls.Logout other = inl refl
kept-call (calls.Login version uam rest) other = absurd (cc)
kept-call (calls.LoginExt flags version uam name path_kind path rest) other = absurd (cc)
kept-call (calls.GetSessionToken kind stamp id) other = absurd (cc)
kept-call (calls.DisconnectOldSession kind token) other = absurd (cc)
kept-call call other = inr refl

-- a block that spells a call begins with its command
begins-so : (n : ℕ) (fields : List RequestField) (block : List ℕ) → BeginsWith 0 (command n ∷ fields) block → (rest : List ℕ) × (block ≡ n ∷ rest)
begins-so n fields block b = (b.1, b.2 ∙ ap (λ (first : List ℕ). first ++ b.1) b.3)

unkept : (block rest : List ℕ) (n : ℕ) → block ≡ n ∷ rest → is_kept_command (n ∷ rest) ≡ false → is_kept_command block ≡ true → ⊥
unkept block rest n is off on = false≢true (sym off ∙ ap is_kept_command (sym is) ∙ on)

-- a block whose command's answers are kept asks nothing of sessions, whatever it spells
kept-wish : (block : List ℕ) (enclosed : Option (List ℕ)) (found : Option grammar.Call) → is_kept_command block ≡ true → ((call : grammar.Call) → found ≡ Some call → Spells call block enclosed) → wish_of_call (is_kept_command block) found ≡ AsksKept
kept-wish block enclosed None kept spells = ap (λ (b : Bool). wish_of_call b None) kept
kept-wish block enclosed (Some calls.Logout) kept spells =
    absurd (let b = begins-so logout_command (drop 1 (layout_of calls.Logout).fields) block (spells calls.Logout refl).fields in unkept block b.0 logout_command b.1 refl kept)
kept-wish block enclosed (Some (calls.GetSessionToken kind stamp id)) kept spells =
    absurd (let b = begins-so get_session_token_command (drop 1 (layout_of (calls.GetSessionToken kind stamp id)).fields) block (spells (calls.GetSessionToken kind stamp id) refl).fields in unkept block b.0 get_session_token_command b.1 refl kept)
kept-wish block enclosed (Some (calls.DisconnectOldSession kind token)) kept spells =
    absurd (let b = begins-so disconnect_old_session_command (drop 1 (layout_of (calls.DisconnectOldSession kind token)).fields) block (spells (calls.DisconnectOldSession kind token) refl).fields in unkept block b.0 disconnect_old_session_command b.1 refl kept)
kept-wish block enclosed (Some call) kept spells = ap (λ (b : Bool). wish_of_call b (Some call)) kept

-- the request that is written is read as the call
wish-carried : (id : ℕ) (sent : Sent) (call : grammar.Call) (bytes : Option (List ℕ)) → sent.write ≡ (carried_with call bytes).write → sent.offset ≡ (carried_with call bytes).offset → sent.payload ≡ (carried_with call bytes).payload
    → wish_of (request_of id sent) ≡ wish_of_call (is_kept_command (canonical_call call)) (spelt_call (canonical_call call) bytes)
wish-carried id sent call None write offset payload =
    λ i. wish_of (record { id = id % 65536; write = write i; offset = offset i; payload = payload i })
wish-carried id sent call (Some bytes) write offset payload =
    (λ i. wish_of (record { id = id % 65536; write = write i; offset = offset i; payload = payload i }))
    ∙ (λ i. wish_of_call (is_kept_command (take_at (canonical_call call) bytes (length (canonical_call call)) refl i)) (spelt_call (take_at (canonical_call call) bytes (length (canonical_call call)) refl i) (Some (drop_at (canonical_call call) bytes (length (canonical_call call)) refl i))))

-- ---- its bytes

piece-of : (e : Enclosed) (bytes : List ℕ) → canonical_enclosed e ≡ Some bytes → enclosed_bytes e ≡ bytes
piece-of Nothing bytes is = cc
piece-of (Piece size piece) bytes is = cc

piece-is : (call : grammar.Call) (bytes : List ℕ) → canonical_data call ≡ Some bytes → canonical_piece call ≡ bytes
unfolding canonical_data canonical_piece
piece-is call bytes is = piece-of (layout_of call).enclosed bytes is

carried-typed : (call : grammar.Call) (bytes : Option (List ℕ)) → IsAskable call → canonical_data call ≡ bytes → (is_long (carried_with call bytes).offset && are_bytes (carried_with call bytes).payload) ≡ true
carried-typed call None h is = h.block
carried-typed call (Some bytes) h is =
    let fits = h.fits in
    let few : length (canonical_call call) < 4294967296 = omega (arith, fits) in
    let piece : are_bytes bytes ≡ true = subst (λ (x : List ℕ). are_bytes x ≡ true) (piece-is call bytes is) h.piece in
    and_from (is_long (length (canonical_call call))) (are_bytes (canonical_call call ++ bytes)) (lt-ltb (length (canonical_call call)) 4294967296 few) (all-append is_byte (canonical_call call) bytes h.block piece)

logout-alone : canonical_data calls.Logout ≡ None
unfolding canonical_data
logout-alone = refl

carried-sized : (call : grammar.Call) (bytes : Option (List ℕ)) → IsAskable call → canonical_data call ≡ bytes → is_carried (carried_with call bytes).write (carried_with call bytes).offset (carried_with call bytes).payload ≡ true
carried-sized call None h is =
    let fits = h.fits in
    and_from (nat_le (length (canonical_call call)) payload_limit) (nat_eq 0 0) (le-leb (length (canonical_call call)) payload_limit (omega (arith, fits))) refl
carried-sized call (Some bytes) h is =
    let fits = h.fits in
    let same : length (canonical_piece call) ≡ length bytes = ap (λ (x : List ℕ). length x) (piece-is call bytes is) in
    let whole = length-append (canonical_call call) bytes in
    and_from (nat_le (length (canonical_call call ++ bytes)) payload_limit) (nat_le (length (canonical_call call)) (length (canonical_call call ++ bytes)))
    (le-leb (length (canonical_call call ++ bytes)) payload_limit (omega (arith, fits, same, whole)))
    (le-leb (length (canonical_call call)) (length (canonical_call call ++ bytes)) (omega (arith, whole)))

pub calls-are-commands : IsFunction → CallsAreCommands
calls-are-commands spelt u call h =
    elim (kept-call call h.command) [
      | inl is ↦ (Logout, sym (ap carried_by is ∙ ap (λ (o : Option (List ℕ)). carried_with calls.Logout o) logout-alone))
      | inr kept ↦
          let sent : Sent = record { write = (carried_by call).write; offset = (carried_by call).offset; payload = (carried_by call).payload; typed = carried-typed call (canonical_data call) h refl; sized = carried-sized call (canonical_data call) h refl } in
          let read : wish_of (request_of 0 sent) ≡ AsksKept =
          wish-carried 0 sent call (canonical_data call) refl refl refl
          ∙ kept-wish (canonical_call call) (canonical_data call) (spelt_call (canonical_call call) (canonical_data call)) kept (λ found is. (spelt (canonical_call call) (canonical_data call) found).0 is) in
          (Other (record { sent = sent; kept = read }), refl)
    ]

-- ---- logins

setup-for : LoginsAreSetups → (key version uam rest : List ℕ) → length version < 256 → length uam < 256 → are_bytes (canonical_call (calls.Login version uam rest)) ≡ true → length (canonical_call (calls.Login version uam rest)) ≤ payload_limit
    → (u : Setup) × (u.key ≡ key) × (framed u.login ≡ in_command (canonical_call (calls.Login version uam rest)))
setup-for setups key version uam rest small small' typed fits =
    let it = setups key version uam rest small small' typed fits in
    let block : List ℕ = canonical_call (calls.Login version uam rest) in
    let login : Sent = record { write = false; offset = 0; payload = block; typed = and_from (is_long 0) (are_bytes block) refl typed; sized = and_from (nat_le (length block) payload_limit) (nat_eq 0 0) (le-leb (length block) payload_limit fits) refl } in
    let same : wish_of (request_of 0 login) ≡ wish_of (request_of 0 it.0.login) = λ i. wish_of (record { id = 0; write = sym it.2 i; offset = it.0.login.offset; payload = sym it.3 i }) in
    (record { key = key; login = login; unkept = same ∙ it.0.unkept }, refl, refl)

login-for : LoginsAreSetups → (key : List ℕ) (user : Option (List ℕ × List ℕ)) → are_bytes (canonical_call (login_of user)) ≡ true → length (canonical_call (login_of user)) ≤ payload_limit
    → (u : Setup) × (u.key ≡ key) × (framed u.login ≡ in_command (canonical_call (login_of user)))
login-for setups key None typed fits = setup-for setups key version_3_3 no_user [] (lit< tt) (lit< tt) typed fits
login-for setups key (Some user) typed fits = setup-for setups key version_3_3 cleartext (login_tail user.0 user.1) (lit< tt) (lit< tt) typed fits

pub logins-are-theirs : LoginsAreSetups → LoginsAreTheirs
logins-are-theirs setups key login typed fits = login-for setups key login.user typed fits
