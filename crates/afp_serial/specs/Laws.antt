-- The laws of the serial answer, in the subject's own words (this profile).
use Rattle.std.specs.Prelude.{◌≡◌, ◌≢◌, ◌↔◌, ◌⊎◌, ℕ, ◌+◌, ◌<◌, ◌≤◌, ◌==◌, Bool, true, false, not, ◌&&◌, List, [], ◌∷◌, ◌++◌, length, take, All, Option, Some, None, is_none, slice_get}
use Rattle.afp_base.specs.Limits.{payload_limit}
use Rattle.afp_base.specs.Cached.{Request, Answer, cached_answer}
use Rattle.afp_base.specs.declared.code.Code.{Code}
use Rattle.afp_base.specs.declared.code.Code.TheVariants.{MiscErr, Ok}
use Rattle.afp_base.specs.declared.ids.LinkNumber.{LinkNumber}
use Rattle.afp_replies.specs.Replies.{Shows, canonical_reply}
use Rattle.afp_replies.specs.declared.reply.Reply.TheVariants.{Empty}
use Rattle.afp_replies.specs.declared.reply.ReplyKind.{ReplyKind}
use Rattle.afp_calls_grammar.specs.grammar.Spelt.{is_command, spelt_call}
use Rattle.afp_calls_grammar.specs.declared.grammar.call.Call.{Call}
use Rattle.volume_spec.specs.TypedVolume.{are_bytes}
use Rattle.volume_spec.specs.VolumeState.{VolumeState}
use Rattle.afp_serial.specs.declared.ask.Ask.{Ask}
use Rattle.afp_serial.specs.declared.ask.Ask.TheVariants as ask
use Rattle.afp_serial.specs.declared.ask.Entry.{Entry}
use Rattle.afp_serial.specs.declared.ask.Outcome.TheVariants.{Done, Fault}
use Rattle.afp_serial.specs.declared.ask.Told.TheVariants as told
use Rattle.afp_serial.specs.declared.attachment.Attachment.TheVariants.{Attached}
use Rattle.afp_serial.specs.Answer.{answer, after, is_legal, link_number, new_session, request, without_expired, needs_user}
use Rattle.afp_serial.specs.KeptAnswers.{block_of, enclosed_of}
use Rattle.afp_serial.specs.World.{Refused, has_session, session_at, World, Session, at_moment, fresh_volumes, start_world}
use Rattle.afp_serial.specs.History.{answers, is_lawful, opened_in, stand}
use Rattle.afp_serial.specs.Household.{Household}
use Rattle.afp_serial.specs.HouseFault.{house_fault}
use Rattle.afp_serial.specs.LawfulCall.{are_bytes_or_none, is_lawful_call}
use Rattle.afp_serial.specs.ReplyKinds.{reply_kind}
use Rattle.afp_serial.specs.Rows.{committed, effect, ends_session, refusal}
use Rattle.afp_serial.specs.Shown.{is_answer_to}
use Rattle.afp_serial.specs.Ranges.{is_moment, is_typed_entry, is_typed_house}
use Rattle.afp_serial.specs.Sound.{IsSound, ServesVolumes}

-- the law of soundness: a world at the start is sound over sound volumes of the house, as are those that nobody has used, and a legal entry
-- keeps a sound world sound
abbrev pub StartsSound : Type 0
StartsSound =
    (house : Household) (now : ℕ) (volumes : List VolumeState)
    → house_fault house ≡ None
    → is_typed_house house ≡ true
    → is_moment now ≡ true
    → ServesVolumes house volumes
    → IsSound (start_world house now volumes)

abbrev pub FreshWorldIsSound : Type 0
FreshWorldIsSound = (house : Household) (now : ℕ) → house_fault house ≡ None → is_moment now ≡ true → ServesVolumes house (fresh_volumes house now)

abbrev pub KeepsSound : Type 0
KeepsSound = (w : World) (e : Entry) → IsSound w → is_legal w e ≡ true → IsSound (after w e)

-- so a lawful history is sound at each of its places
abbrev pub StandsSound : Type 0
StandsSound = (start : World) (h : List Entry) → IsSound start → is_lawful start h ≡ true → (k : ℕ) → IsSound (stand start (take k h))

-- the block of a reply fits in a frame
abbrev pub FitsFrame : Type 0
FitsFrame = (w : World) (e : Entry) (code : Code) (block : List ℕ) (ends : Bool) → IsSound w → is_legal w e ≡ true → answer w e ≡ told.Reply code block ends → length block ≤ payload_limit

-- what is told is an answer to the ask
abbrev pub AnswersAsk : Type 0
AnswersAsk = (w : World) (e : Entry) → is_answer_to e.ask (answer w e) ≡ true

-- no session is attached to the link
abbrev pub HasNoSession : World → LinkNumber → Type 0
HasNoSession w link = All (λ s. s.place ≢ Attached link) w.sessions

-- an ask of a session: a call, Bye, Lost, or Pulse on a link that is not 0
abbrev pub is_session_ask : Ask → ℕ → Bool
is_session_ask (ask.Open attention) link = false
is_session_ask (ask.Call id write offset payload) link = true
is_session_ask ask.Pulse link = not (link == 0)
is_session_ask ask.Bye link = true
is_session_ask ask.Lost link = true
is_session_ask ask.Drain link = false

-- the laws of Displaced: it is told just where an ask of a session comes on a link that no session has; then nothing
-- changes but the latest moment, and in a Pulse the sessions that are gone by then
abbrev pub TellsDisplaced : Type 0
TellsDisplaced = (w : World) (e : Entry) → (answer w e ≡ told.Displaced ↔ ((is_session_ask e.ask e.link.0 ≡ true) × HasNoSession w e.link))

abbrev pub LeavesDisplaced : Type 0
LeavesDisplaced = (w : World) (e : Entry) → answer w e ≡ told.Displaced → e.ask ≢ ask.Pulse → after w e ≡ at_moment w e.at

abbrev pub OnlyEndsExpired : Type 0
OnlyEndsExpired = (w : World) (e : Entry) → e.ask ≡ ask.Pulse → after w e ≡ without_expired (at_moment w e.at)

-- the law of repeats: where an answer is kept for a session's request it is told again, the session goes on, and nothing
-- changes but the latest moment
abbrev pub TellsKept : Type 0
TellsKept =
    (w : World) (e : Entry) (id : ℕ) (write : Bool) (offset : ℕ) (payload : List ℕ) (s : Session) (a : Answer)
    → e.ask ≡ ask.Call id write offset payload
    → session_at w e.link.0 ≡ Some s
    → cached_answer s.cache (request id write offset payload) ≡ Some a
    → (answer w e ≡ told.Reply a.code a.block false) × (after w e ≡ at_moment w e.at)

-- A request of a session comes to a call: no answer is kept for it, its command is one, and may come without a user or has one,
-- block and enclosed bytes spell the call, and the call's row does not refuse it.
pub record ComesToCall (w : World) (s : Session) (r : Request) (call : Call) : Type 0 where
  pub new : cached_answer s.cache r ≡ None
  pub command : ℕ
  pub fields : List ℕ
  pub block : block_of r ≡ command ∷ fields
  pub known : is_command command ≡ true
  pub user : (is_none s.user && needs_user command) ≡ false
  pub spelt : spelt_call (block_of r) (enclosed_of r) ≡ Some call
  pub passes : refusal w s call ≡ None

-- An entry is a call that would have its effect, and whose row commits to the keeper of a volume, or settles it; it is told MiscErr, and nothing
-- changes but the latest moment.
pub record FailsInPlace (w : World) (e : Entry) : Type 0 where
  pub id : ℕ
  pub write : Bool
  pub offset : ℕ
  pub payload : List ℕ
  pub asked : e.ask ≡ ask.Call id write offset payload
  pub session : Session
  pub attached : session_at w e.link.0 ≡ Some session
  pub call : Call
  pub runs : ComesToCall (at_moment w e.at) session (request id write offset payload) call
  pub index : ℕ
  pub commits : committed (at_moment w e.at) session call ≡ Some index
  pub answered : answer w e ≡ told.Reply MiscErr [] false
  pub left : after w e ≡ at_moment w e.at

-- the law of faults: none hides a refusal
abbrev pub HidesNoRefusal : Type 0
HidesNoRefusal = (w : World) (e : Entry) → e.outcome ≡ Fault → is_legal w e ≡ true → FailsInPlace w e

-- and it may come at each such call
abbrev pub MayFail : Type 0
MayFail =
    (w : World) (e : Entry) (id : ℕ) (write : Bool) (offset : ℕ) (payload : List ℕ) (s : Session) (call : Call) (index : ℕ)
    → is_typed_entry e ≡ true
    → e.ask ≡ ask.Call id write offset payload
    → session_at w e.link.0 ≡ Some s
    → ComesToCall (at_moment w e.at) s (request id write offset payload) call
    → committed (at_moment w e.at) s call ≡ Some index
    → is_legal w e ≡ true

-- the law of keepers: where a call would have its effect, the volume whose keeper its row commits to or settles is there
abbrev pub KeeperIsThere : Type 0
KeeperIsThere = (w : World) (s : Session) (call : Call) (index : ℕ) → refusal w s call ≡ None → committed w s call ≡ Some index → index < length w.volumes

-- the law of spelling: what bytes spell is a lawful call
abbrev pub SpeltIsLawful : Type 0
SpeltIsLawful = (block : List ℕ) (enclosed : Option (List ℕ)) (call : Call) → are_bytes block ≡ true → are_bytes_or_none enclosed ≡ true → spelt_call block enclosed ≡ Some call → is_lawful_call call ≡ true

-- The answer is one that was kept for an equal request of the session.
pub record IsKeptAnswer (w : World) (e : Entry) (code : Code) (block : List ℕ) (ends : Bool) : Type 0 where
  pub id : ℕ
  pub write : Bool
  pub offset : ℕ
  pub payload : List ℕ
  pub asked : e.ask ≡ ask.Call id write offset payload
  pub session : Session
  pub attached : session_at w e.link.0 ≡ Some session
  pub kept : cached_answer session.cache (request id write offset payload) ≡ Some (record { code = code; block = block })
  pub ends_not : ends ≡ false

-- The answer is that of a call which had its effect: its block is the row's reply, and shows it to a request of that call's kind.
pub record IsEffectAnswer (w : World) (e : Entry) (block : List ℕ) (ends : Bool) : Type 0 where
  pub id : ℕ
  pub write : Bool
  pub offset : ℕ
  pub payload : List ℕ
  pub asked : e.ask ≡ ask.Call id write offset payload
  pub session : Session
  pub attached : session_at w e.link.0 ≡ Some session
  pub call : Call
  pub runs : ComesToCall (at_moment w e.at) session (request id write offset payload) call
  pub done : e.outcome ≡ Done
  pub block_is : block ≡ canonical_reply (effect (at_moment w e.at) session call).reply
  pub shows : Shows (effect (at_moment w e.at) session call).reply (reply_kind call) Ok block
  pub ends_is : ends ≡ ends_session call

-- the law of replies: an answer Ok is a kept one, or the shown reply of a call's row; so no refusal is told Ok
abbrev pub TellsShown : Type 0
TellsShown =
    (w : World) (e : Entry) (block : List ℕ) (ends : Bool) → IsSound w → is_legal w e ≡ true → answer w e ≡ told.Reply Ok block ends
    → IsKeptAnswer w e Ok block ends ⊎ IsEffectAnswer w e block ends

-- The answer is a refusal of a call's row: its block is the reply of that refusal, and shows it under its code to a request of that call's kind.
pub record IsRowRefusal (w : World) (e : Entry) (code : Code) (block : List ℕ) : Type 0 where
  pub id : ℕ
  pub write : Bool
  pub offset : ℕ
  pub payload : List ℕ
  pub asked : e.ask ≡ ask.Call id write offset payload
  pub session : Session
  pub attached : session_at w e.link.0 ≡ Some session
  pub call : Call
  pub spelt : spelt_call (block_of (request id write offset payload)) (enclosed_of (request id write offset payload)) ≡ Some call
  pub told_by : Refused
  pub refuses : refusal (at_moment w e.at) session call ≡ Some told_by
  pub code_is : code ≡ told_by.code
  pub block_is : block ≡ canonical_reply told_by.reply
  pub shows : Shows told_by.reply (reply_kind call) code block

-- the answer has no bytes, and under its code these are the empty reply to a request of each kind
pub record TellsNothing (code : Code) (block : List ℕ) : Type 0 where
  pub bytes : block ≡ []
  pub shows : (kind : ReplyKind) → Shows Empty kind code block

-- the law of refusals: an answer that is not Ok is a kept one, or the shown refusal of a call's row, or tells nothing; and the session goes on
abbrev pub RefusesShown : Type 0
RefusesShown =
    (w : World) (e : Entry) (code : Code) (block : List ℕ) (ends : Bool) → IsSound w → is_legal w e ≡ true → answer w e ≡ told.Reply code block ends → code ≢ Ok
    → (ends ≡ false) × (IsKeptAnswer w e code block ends ⊎ (IsRowRefusal w e code block ⊎ TellsNothing code block))

-- The plain laws of sessions, after any entries, legal or not, from a world at the start over any volumes: no two sessions have one link; the
-- n-th session that is opened has the number n, so that none is given twice; and what is opened is a new session of that number.
abbrev pub LinksDiffer : Type 0
LinksDiffer =
    (house : Household) (now : ℕ) (volumes : List VolumeState) (h : List Entry) (j k : ℕ) (s t : Session) (a b : LinkNumber)
    → j < k
    → slice_get (stand (start_world house now volumes) h).sessions j ≡ Some s
    → slice_get (stand (start_world house now volumes) h).sessions k ≡ Some t
    → s.place ≡ Attached a
    → t.place ≡ Attached b
    → a ≢ b

abbrev pub CountsSessions : Type 0
CountsSessions =
    (house : Household) (now : ℕ) (volumes : List VolumeState) (h : List Entry) (k : ℕ) (l : LinkNumber)
    → slice_get (answers (start_world house now volumes) h) k ≡ Some (told.Opened l)
    → l.0 ≡ opened_in (start_world house now volumes) (take k h) + 1

abbrev pub NeverTwice : Type 0
NeverTwice =
    (house : Household) (now : ℕ) (volumes : List VolumeState) (h : List Entry) (j k : ℕ) (a b : LinkNumber)
    → j < k
    → slice_get (answers (start_world house now volumes) h) j ≡ Some (told.Opened a)
    → slice_get (answers (start_world house now volumes) h) k ≡ Some (told.Opened b)
    → a.0 < b.0

abbrev pub OpensNew : Type 0
OpensNew = (w : World) (e : Entry) (l : LinkNumber) → answer w e ≡ told.Opened l → (after w e).sessions ≡ w.sessions ++ new_session l.0 ∷ []

-- A session is there after an entry only where it was there before, or has just been opened.
abbrev pub OnlyOpens : Type 0
OnlyOpens = (w : World) (e : Entry) (number : ℕ) → has_session (after w e).sessions number ≡ true → (has_session w.sessions number ≡ true) ⊎ (answer w e ≡ told.Opened (link_number number))
