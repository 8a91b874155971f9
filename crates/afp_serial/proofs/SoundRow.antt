-- What the row of a call owes to the laws.
use Rattle.std.proofs.Common.{◌≡◌, ap, sym, refl, subst, ℕ, ◌<◌, Bool, true, false, ◌&&◌, List, [], ◌∷◌, length, Some, None}
use Rattle.std.specs.Prelude.{find, nat_le}
use Rattle.std.specs.List.{list_all}
use Rattle.std.proofs.lemmas.Bool.{and_parts, cond_both}
use Rattle.afp_base.specs.Cached.{Kept}
use Rattle.afp_base.specs.Limits.{payload_limit}
use Rattle.afp_base.specs.Choice.{first_holding}
use Rattle.afp_base.specs.declared.code.Code.{Code}
use Rattle.afp_base.specs.declared.code.Code.TheVariants.{DenyConflict, EOFErr, MiscErr, NoMemory, Ok}
use Rattle.afp_replies.proofs.Asking.{nothing_fits}
use Rattle.afp_replies.specs.Commands.{shape_of}
use Rattle.afp_replies.specs.Replies.{Shows, canonical_reply}
use Rattle.afp_replies.specs.Requested.{FitsRequest, tells_nothing}
use Rattle.afp_replies.specs.declared.reply.Reply.{Reply}
use Rattle.afp_replies.specs.declared.reply.Reply.TheVariants.{Empty}
use Rattle.afp_calls_grammar.specs.declared.grammar.call.Call.{Call}
use Rattle.afp_calls_grammar.specs.declared.grammar.call.Call.TheVariants.{GetUserInfo}
use Rattle.afp_serial.proofs.SoundParts.{ApartSessions}
use Rattle.afp_serial.specs.World.{Refusal, Refused, CallRow, has_session, World, Session}
use Rattle.afp_serial.specs.KeptAnswers.{is_kept_code}
use Rattle.afp_serial.specs.LawfulCall.{is_lawful_call}
use Rattle.afp_serial.specs.ReplyKinds.{command_of, reply_kind}
use Rattle.afp_serial.specs.SessionLaws.{RowLeavesSessions}
use Rattle.afp_serial.specs.Sound.{IsSound}
use Rattle.afp_serial.specs.Users.{is_user_of}

-- the bytes of a reply fit in a frame
abbrev pub is_short : Reply → Bool
is_short reply = nat_le (length (canonical_reply reply)) payload_limit

abbrev pub is_ok : Code → Bool
is_ok Ok = true
is_ok code = false

-- the codes of rows under which no request is told more
abbrev pub tells_no_more : Code → Bool
tells_no_more Ok = false
tells_no_more MiscErr = false
tells_no_more NoMemory = false
tells_no_more DenyConflict = false
tells_no_more EOFErr = false
tells_no_more code = true

abbrev pub is_nothing : Reply → Bool
is_nothing Empty = true
is_nothing reply = false

-- a refusal tells no more than such a code
abbrev pub is_refused : Refused → Bool
is_refused r = is_nothing r.reply && tells_no_more r.code

-- What a request of a call is told by a refusal: its code is not Ok nor that of a fault or of want of memory, and the reply fits in a frame and
-- can be told under that code.
pub record IsRefusedTo (call : Call) (r : Refused) : Type 0 where
  pub code : is_ok r.code ≡ false
  pub kept : is_kept_code r.code ≡ true
  pub short : is_short r.reply ≡ true
  pub fits : FitsRequest (reply_kind call) r.code r.reply

nothing-is : (reply : Reply) → is_nothing reply ≡ true → reply ≡ Empty
nothing-is Empty h = refl
nothing-is reply h = absurd (cc)

no_more-not-ok : (code : Code) → tells_no_more code ≡ true → is_ok code ≡ false
no_more-not-ok Ok h = absurd (cc)
no_more-not-ok code h = refl

pub no_more-kept : (code : Code) → tells_no_more code ≡ true → is_kept_code code ≡ true
no_more-kept MiscErr h = absurd (cc)
no_more-kept NoMemory h = absurd (cc)
no_more-kept code h = refl

pub no_more-nothing : (command : ℕ) (code : Code) → tells_no_more code ≡ true → tells_nothing (shape_of command) code ≡ true
no_more-nothing command Ok h = absurd (cc)
no_more-nothing command DenyConflict h = absurd (cc)
no_more-nothing command EOFErr h = absurd (cc)
no_more-nothing command code h = refl

-- the parts of such a refusal
pub no_more-parts : (r : Refused) → is_refused r ≡ true → (r.reply ≡ Empty) × (tells_no_more r.code ≡ true)
no_more-parts r h = let e = and_parts (is_nothing r.reply) (tells_no_more r.code) h in (nothing-is r.reply e.0, e.1)

pub no_more-told : (call : Call) (r : Refused) → is_refused r ≡ true → IsRefusedTo call r
no_more-told call r h =
    let e = no_more-parts r h in
    record {
      code = no_more-not-ok r.code e.1;
      kept = no_more-kept r.code e.1;
      short = ap is_short e.0;
      fits = subst (FitsRequest (reply_kind call) r.code) (sym e.0) (nothing_fits (reply_kind call) r.code (no_more-nothing (command_of call) r.code e.1));
    }

-- the first of some refusals that holds, or one behind it
pub behind-first : (call : Call) (row : Refusal) (rows : List Refusal) (r : Refused) → IsRefusedTo call row.1 → (first_holding rows ≡ Some r → IsRefusedTo call r) → first_holding (row ∷ rows) ≡ Some r → IsRefusedTo call r
behind-first call row rows r told rest is =
    cond_both row.0 (Some row.1) (first_holding rows) (λ o. o ≡ Some r → IsRefusedTo call r)
    (λ here h. let same : row.1 ≡ r = cc in subst (IsRefusedTo call) same told)
    (λ other h. rest h)
    is

-- each of some refusals can be told
abbrev pub AreRefusedTo : Call → List Refusal → Type 0
AreRefusedTo call [] = Unit {0}
AreRefusedTo call (row ∷ rows) = IsRefusedTo call row.1 × AreRefusedTo call rows

pub first-told : (call : Call) (rows : List Refusal) (r : Refused) → first_holding rows ≡ Some r → AreRefusedTo call rows → IsRefusedTo call r
first-told call [] r is all = absurd (cc)
first-told call (row ∷ rows) r is all = behind-first call row rows r all.0 (λ h. first-told call rows r h all.1) is

no_more-all : (call : Call) (rows : List Refusal) → list_all (λ (row : Refusal). is_refused row.1) rows ≡ true → AreRefusedTo call rows
no_more-all call [] all = tt
no_more-all call (row ∷ rows) all =
    let e = and_parts (is_refused row.1) (list_all (λ (x : Refusal). is_refused x.1) rows) all in
    (no_more-told call row.1 e.0, no_more-all call rows e.1)

pub no_more-refuses : (call : Call) (rows : List Refusal) (r : Refused) → first_holding rows ≡ Some r → list_all (λ (row : Refusal). is_refused row.1) rows ≡ true → IsRefusedTo call r
no_more-refuses call rows r is all = first-told call rows r is (no_more-all call rows all)

-- the call that is told of its session's user
abbrev pub tells_user : Call → Bool
tells_user (GetUserInfo flag id bits) = true
tells_user call = false

-- What the row of a call owes in a sound world. What it is refused with can be told to its requests, and is never told Ok. Where it is not refused, and its fields are those
-- that bytes give, its effect keeps the world sound; its reply fits in a frame, and is shown by its bytes, where what it tells of the session's user is that of one
-- whom the house knows. In any world its effect keeps sessions
-- apart, draws no link number, makes no session, and leaves to each its kept answers; where it moves no session, it leaves the other sessions alone;
-- and the volume of the keeper that it names is there.
pub record IsSoundRow (call : Call) (row : CallRow) : Type 0 where
  pub refuses : (w : World) (s : Session) (r : Refused) → first_holding (row.refusals w s) ≡ Some r → IsSound w → IsRefusedTo call r
  pub sound : (w : World) (s : Session) (test : Session → Bool) → is_lawful_call call ≡ true → find test w.sessions ≡ Some s → first_holding (row.refusals w s) ≡ None → IsSound w → IsSound (row.effect w s).world
  pub fits : (w : World) (s : Session) → is_lawful_call call ≡ true → first_holding (row.refusals w s) ≡ None → IsSound w → is_short (row.effect w s).reply ≡ true
  pub shown : (w : World) (s : Session) → is_lawful_call call ≡ true → first_holding (row.refusals w s) ≡ None → IsSound w → (tells_user call ≡ true → is_user_of w.house.users s.user ≡ true)
      → Shows (row.effect w s).reply (reply_kind call) Ok (canonical_reply (row.effect w s).reply)
  pub apart : (w : World) (s : Session) (test : Session → Bool) → find test w.sessions ≡ Some s → ApartSessions w → ApartSessions (row.effect w s).world
  pub next : (w : World) (s : Session) → (row.effect w s).world.next_link ≡ w.next_link
  pub keeper : (w : World) (s : Session) (index : ℕ) → first_holding (row.refusals w s) ≡ None → row.committed w s ≡ Some index → index < length w.volumes
  pub old : (w : World) (s : Session) (n : ℕ) → has_session (row.effect w s).world.sessions n ≡ true → has_session w.sessions n ≡ true
  pub cached : (w : World) (s : Session) (test : Session → Bool) → find test w.sessions ≡ Some s → (p : ℕ → List Kept → Bool) → list_all (λ x. p x.number x.cache) w.sessions ≡ true → list_all (λ x. p x.number x.cache) (row.effect w s).world.sessions ≡ true
  pub leaves : RowLeavesSessions call row

-- a row that names no keeper
pub no-keeper : (w : World) (index : ℕ) → None ≡ Some index → index < length w.volumes
no-keeper w index commits = absurd (cc)
