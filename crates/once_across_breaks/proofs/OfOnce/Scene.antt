-- The invariant, over what the proof sees of a run.
use Rattle.std.proofs.Common.{◌≡◌, ℕ, suc, ◌+◌, ◌<◌, ◌≤◌, Bool, true, false, List, [], ◌∷◌, ◌++◌, length, Option, Some, None}
use Rattle.once_across_breaks.specs.once.Messages.{Call, Login, Token, Rejoin, Does, Answer, is_miss, is_fine, Done, kept, Kept, cached_call}
use Rattle.once_across_breaks.specs.once.Run.{Opens, Asks, Slot, Idle, Coming, Going, Link, Stage, Opening, Entering, Joining, Ready, Gone, Wait, Client, id_of}

-- whose a link is: no session's yet, that of the session n, nobody's any more, another session's
pub data Own : Type 0 where
  Fresh : Own
  Mine : Own
  Nobody : Own
  Other : Own

abbrev pub IsTaken : Own → Type 0
IsTaken Fresh = ⊥
IsTaken Mine = Unit {0}
IsTaken Nobody = Unit {0}
IsTaken Other = ⊥

pub record Scene : Type 0 where
  pub top : ℕ
  pub own : ℕ → Own
  pub links : ℕ → Link
  pub client : Client
  pub alive : Bool
  pub cache : List Kept
  pub done : List Done
  pub extra : Option Answer

abbrev pub is_command : Slot → Bool
is_command (Coming (Asks id (Does call) again)) = true
is_command (Coming (Asks id Login again)) = false
is_command (Coming (Asks id Token again)) = false
is_command (Coming (Asks id (Rejoin x) again)) = false
is_command (Coming Opens) = false
is_command Idle = false
is_command (Going r a) = false

-- the command that comes on the link of n is the one that has no result
abbrev pub LiveFor : Option Wait → ℕ → Call → Type 0
LiveFor None id call = ⊥
LiveFor (Some w) id call = (id ≡ w.id) × (call ≡ w.call)

abbrev pub ComingOk : List ℕ → Option Wait → Own → Bool → Slot → Type 0
ComingOk t wait own got (Coming (Asks id (Does call) again)) = (got ≡ true) × (own ≡ Mine → LiveFor wait id call)
ComingOk t wait own got (Coming (Asks id (Rejoin x) again)) = x ≡ t
ComingOk t wait own got (Coming (Asks id Login again)) = Unit {0}
ComingOk t wait own got (Coming (Asks id Token again)) = Unit {0}
ComingOk t wait own got (Coming Opens) = Unit {0}
ComingOk t wait own got Idle = Unit {0}
ComingOk t wait own got (Going r a) = Unit {0}

-- each link: where n has come there is n or nobody; n is only where it has come; commands lie only where it has come
pub record LinkOk (t : List ℕ) (alive : Bool) (wait : Option Wait) (own : Own) (link : Link) : Type 0 where
  pub got_own : link.got ≡ true → IsTaken own
  pub own_got : own ≡ Mine → link.got ≡ true
  pub own_alive : own ≡ Mine → alive ≡ true
  pub coming : ComingOk t wait own link.got link.slot

abbrev pub TellsWell : Option Answer → Answer → Type 0
TellsWell None a = is_miss a ≡ true
TellsWell (Some b) a = a ≡ b

-- the newest link of a client that is ready
abbrev pub ReadySlot : Option Wait → Option Answer → Slot → Type 0
ReadySlot None extra slot = slot ≡ Idle
ReadySlot (Some w) extra Idle = Unit {0}
ReadySlot (Some w) extra (Coming Opens) = ⊥
ReadySlot (Some w) extra (Coming (Asks id body again)) = (id ≡ w.id) × (body ≡ Does w.call) × (again ≡ false → extra ≡ None)
ReadySlot (Some w) extra (Going Opens a) = ⊥
ReadySlot (Some w) extra (Going (Asks id body again) a) = (id ≡ w.id) × (body ≡ Does w.call) × TellsWell extra a

abbrev pub JoinSlot : List ℕ → Bool → Slot → Type 0
JoinSlot t got Idle = Unit {0}
JoinSlot t got (Coming Opens) = ⊥
JoinSlot t got (Coming (Asks id body again)) = body ≡ Rejoin t
JoinSlot t got (Going r a) = is_fine a ≡ true → got ≡ true

abbrev pub StageOk : List ℕ → Stage → Option Wait → Option Answer → Bool → Slot → Type 0
StageOk t Ready wait extra got slot = (got ≡ true) × ReadySlot wait extra slot
StageOk t Joining wait extra got slot = JoinSlot t got slot
StageOk t Opening wait extra got slot = Unit {0}
StageOk t Entering wait extra got slot = Unit {0}
StageOk t Gone wait extra got slot = Unit {0}

-- the kept requests, the newest first, each drawn before the count q, with at most 1,900 ids from one to the next
abbrev pub Spaced : ℕ → ℕ → List Kept → Type 0
Spaced first q [] = Unit {0}
Spaced first q (k ∷ ks) = (p : ℕ) × (p < q) × (q ≤ p + 1900) × (k.request.id ≡ id_of first p) × Spaced first p ks

-- so many ids were drawn since the newest, at most
abbrev pub Fits : ℕ → ℕ → ℕ → List Kept → Type 0
Fits first q slack [] = Unit {0}
Fits first q slack (k ∷ ks) = (p : ℕ) × (p < q) × (q ≤ suc p + slack) × (k.request.id ≡ id_of first p) × Spaced first p ks

abbrev pub outstanding : Option Wait → Option Answer → List Done
outstanding None extra = []
outstanding (Some w) None = []
outstanding (Some w) (Some a) = record { id = w.id; call = w.call; answer = a } ∷ []

pub record Idles (first drawn row : ℕ) (cache : List Kept) (extra : Option Answer) : Type 0 where
  pub no_extra : extra ≡ None
  pub fits : Fits first drawn row cache

pub record Waits (first drawn row : ℕ) (w : Wait) (cache : List Kept) : Type 0 where
  pub count : drawn ≡ suc w.seq
  pub id : w.id ≡ id_of first w.seq
  pub fits : Fits first w.seq row cache

pub record Acted (first drawn : ℕ) (w : Wait) (a : Answer) (alive : Bool) (cache : List Kept) : Type 0 where
  pub count : drawn ≡ suc w.seq
  pub id : w.id ≡ id_of first w.seq
  pub no_miss : is_miss a ≡ false
  pub kept_it : alive ≡ true → cached_call cache w.id w.call ≡ Some a
  pub fits : Fits first drawn 0 cache

abbrev pub Work : ℕ → ℕ → ℕ → Option Wait → Bool → List Kept → Option Answer → Type 0
Work first drawn row None alive cache extra = Idles first drawn row cache extra
Work first drawn row (Some w) alive cache None = Waits first drawn row w cache
Work first drawn row (Some w) alive cache (Some a) = Acted first drawn w a alive cache

pub record Held (t : List ℕ) (s : Scene) : Type 0 where
  pub token : s.client.token ≡ Some t
  pub later : (j : ℕ) → s.top < j → ((s.links j).got ≡ false) × ((s.links j).slot ≡ Idle)
  pub each : (j : ℕ) → LinkOk t s.alive s.client.wait (s.own j) (s.links j)
  pub front : (i j : ℕ) → i < j → s.own i ≡ Mine → is_command (s.links i).slot ≡ true → (s.links j).got ≡ false
  pub stage : StageOk t s.client.stage s.client.wait s.extra (s.links s.top).got (s.links s.top).slot
  pub effects : s.done ≡ kept s.client.results ++ outstanding s.client.wait s.extra
  pub work : Work s.client.first s.client.drawn s.client.row s.client.wait s.alive s.cache s.extra
  pub short : length s.cache ≤ 32
