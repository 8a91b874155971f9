-- Requests and answers, as far as effects that come once depend on them (AFP Reference, "Login Commands" and "AFP Calls"; what is kept is this profile's).
use Rattle.std.specs.Prelude.{◌≡◌, ℕ, ◌+◌, ◌%◌, ◌==◌, nat_eq, nat_le, nat_lt, Bool, true, false, ◌&&◌, not, if◌then◌else◌, List, [], ◌∷◌, filter, length, drop, Option, Some, None, take}
use Rattle.afp_base.specs.Cached.{Request, is_repeat}
use Rattle.afp_base.specs.Limits.{payload_limit}
use Rattle.afp_base.specs.declared.code.Code.{Code}
use Rattle.byteorder.specs.Endian.{big_number}
use Rattle.volume_spec.specs.TypedVolume.{are_bytes, is_long}
use Rattle.afp_serial.specs.Answer.{request}
use Rattle.afp_serial.specs.SessionViews.{SessionWish, LogsOut, AsksToken, ComesBack, AsksUnkept, AsksKept, wish_of}

-- ids have 16 bits
abbrev pub wire_id : ℕ → ℕ
wire_id id = id % 65536

-- what a frame can carry: at most 131,072 bytes, with the place of a Write's data among them or at their end; a Command has no such place, and 0 there
abbrev pub is_carried : Bool → ℕ → List ℕ → Bool
is_carried true offset payload = nat_le (length payload) payload_limit && nat_le offset (length payload)
is_carried false offset payload = nat_le (length payload) payload_limit && nat_eq offset 0

-- What a request of AFP carries beside its id: whether it comes in a Write, the place of a Write's data, and the payload; each in its range, and a frame
-- can carry them.
pub record Sent : Type 0 where
  pub write : Bool
  pub offset : ℕ
  pub payload : List ℕ
  pub typed : (is_long offset && are_bytes payload) ≡ true
  pub sized : is_carried write offset payload ≡ true

abbrev pub request_of : ℕ → Sent → Request
request_of id sent = request (wire_id id) sent.write sent.offset sent.payload

-- a command whose answer is kept for its repeats
pub record Command : Type 0 where
  pub sent : Sent
  pub kept : wish_of (request_of 0 sent) ≡ AsksKept

-- what a command of the client asks: to log out, or something else whose answer is kept
pub data Call : Type 0 where
  Logout : Call
  Other : (command : Command) → Call

-- What a request asks: a login, or another call that is none of the others and whose answer is not kept; a token; to come back to the session
-- of a token (DisconnectOldSession); a command.
pub data Body : Type 0 where
  Login : Body
  Token : Body
  Rejoin : (token : List ℕ) → Body
  Does : (call : Call) → Body

-- as its bytes say it
abbrev pub body_by : (sent : Sent) (wish : SessionWish) → wish_of (request_of 0 sent) ≡ wish → Body
body_by sent LogsOut is = Does Logout
body_by sent AsksToken is = Token
body_by sent (ComesBack token) is = Rejoin token
body_by sent AsksUnkept is = Login
body_by sent AsksKept is = Does (Other (record { sent = sent; kept = is }))

abbrev pub body_of : Sent → Body
body_of sent = body_by sent (wish_of (request_of 0 sent)) (λ i. wish_of (request_of 0 sent))

-- what a reply says: Ok with a block, MiscErr, want of memory, any other code with a block
pub data Answer : Type 0 where
  Fine : (block : List ℕ) → Answer
  MiscErr : Answer
  NoMemory : Answer
  Refuses : (code : Code) (block : List ℕ) → Answer

-- MiscErr and NoMemory: such an answer is not kept, and the call had no effect
abbrev pub is_miss : Answer → Bool
is_miss (Fine block) = false
is_miss MiscErr = true
is_miss NoMemory = true
is_miss (Refuses code block) = false

abbrev pub is_fine : Answer → Bool
is_fine (Fine block) = true
is_fine MiscErr = false
is_fine NoMemory = false
is_fine (Refuses code block) = false

-- the most bytes of a token: the block of DisconnectOldSession has 8 more
abbrev pub most_token : ℕ
most_token = 131064

-- the token that the block of a reply to GetSessionToken shows: a count of 4 bytes, and so many bytes
abbrev pub token_in : List ℕ → Option (List ℕ)
token_in block =
    if nat_lt 3 (length block) && (big_number 4 block == length (drop 4 block)) && nat_lt (length (drop 4 block)) (most_token + 1)
    then Some (drop 4 block) else None

-- a call with its id, and what it was told
pub record Done : Type 0 where
  pub id : ℕ
  pub call : Call
  pub answer : Answer

-- those that were told neither MiscErr nor NoMemory
abbrev pub kept : List Done → List Done
kept results = filter (λ r. not (is_miss r.answer)) results

-- An answer that a session keeps, with its request. The newest stands first, and there are at most 32.
pub record Kept : Type 0 where
  pub request : Request
  pub answer : Answer

-- the answer that is kept for an equal request
abbrev pub cached : List Kept → Request → Option Answer
cached [] r = None
cached (k ∷ ks) r = if is_repeat k.request r then Some k.answer else cached ks r

-- only what is kept can be found again; a Logout is not kept
abbrev pub cached_call : List Kept → ℕ → Call → Option Answer
cached_call ks id Logout = None
cached_call ks id (Other command) = cached ks (request_of id command.sent)

abbrev pub store : List Kept → Request → Answer → List Kept
store ks r answer = take 32 (record { request = r; answer = answer } ∷ ks)
