-- What a link to a peer is seen as, and what its reads and writes do to it (this profile).
use Rattle.std.specs.Prelude.{◌≡◌, ℕ, ◌+◌, ◌≤◌, Bool, true, false, List, [], ◌∷◌, ◌++◌, length, take, Option, IfSome, option_map}
use Rattle.afp_base.specs.Counts.{Rises, CountsOn}
use Rattle.afp_outside.specs.declared.ends.link.ReadResult.{ReadResult}
use Rattle.afp_outside.specs.declared.ends.link.ReadResult.TheVariants.{Got, Quiet, End, Failed}
use Rattle.afp_outside.specs.declared.ends.link.Wrote.{Wrote}
use Rattle.afp_outside.specs.declared.ends.link.Wrote.TheVariants.{Took, Failed as WriteFailed}

-- what a read gave: bytes, or a quiet in which none came; first, what had been written before it, where
-- the link tells that, and the moment of the read, in seconds since 2000-01-01 00:00 GMT
pub data Event : Type 0 where
  piece : Option (List ℕ) → ℕ → List ℕ → Event
  quiet : Option (List ℕ) → ℕ → Event

-- the bytes that reads gave, in order
abbrev pub bytes_taken : List Event → List ℕ
bytes_taken [] = []
bytes_taken (piece written moment bytes ∷ events) = bytes ++ bytes_taken events
bytes_taken (quiet written moment ∷ events) = bytes_taken events

-- A link. The events, the bytes still coming and the bytes written are each known where the link
-- tells them; `now` and `last_read` are seconds since 2000-01-01 00:00 GMT.
pub record LinkState : Type 0 where
  pub events : Option (List Event)
  pub coming : Option (List ℕ)
  pub written : Option (List ℕ)
  pub ended : Bool
  pub read_faults : ℕ
  pub write_faults : ℕ
  pub quiets : ℕ
  pub now : ℕ
  pub last_read : ℕ

-- A read that gave the n next bytes, which begin the room. Its clock may fail, so one fault of reading at most is counted beside it.
pub record ReadsPiece (old : LinkState) (room : List ℕ) (n : ℕ) (new : LinkState) : Type 0 where
  pub least : 1 ≤ n
  pub most : n ≤ length room
  pub events : new.events ≡ option_map (λ events. events ++ piece old.written new.now (take n room) ∷ []) old.events
  pub coming : old.coming ≡ option_map (λ coming. take n room ++ coming) new.coming
  pub written : new.written ≡ old.written
  pub ended : new.ended ≡ old.ended
  pub read_faults : old.read_faults ≤ new.read_faults
  pub read_faults_most : new.read_faults ≤ old.read_faults + 1
  pub write_faults : new.write_faults ≡ old.write_faults
  pub quiets : new.quiets ≡ old.quiets
  pub last_read : new.last_read ≡ new.now

-- A read in whose time no byte came. Its clock may fail too, once.
pub record ReadsQuiet (old new : LinkState) : Type 0 where
  pub events : new.events ≡ option_map (λ events. events ++ quiet old.written new.now ∷ []) old.events
  pub coming : new.coming ≡ old.coming
  pub written : new.written ≡ old.written
  pub ended : new.ended ≡ old.ended
  pub read_faults : old.read_faults ≤ new.read_faults
  pub read_faults_most : new.read_faults ≤ old.read_faults + 1
  pub write_faults : new.write_faults ≡ old.write_faults
  pub quiets : CountsOn 1 old.quiets new.quiets
  pub last_read : new.last_read ≡ old.last_read

-- A read that found the end: no byte is left. Its clock may fail too, once.
pub record ReadsEnd (old new : LinkState) : Type 0 where
  pub events : new.events ≡ old.events
  pub nothing_left : IfSome old.coming (λ coming. coming ≡ [])
  pub coming : new.coming ≡ old.coming
  pub written : new.written ≡ old.written
  pub ended : new.ended ≡ true
  pub read_faults : old.read_faults ≤ new.read_faults
  pub read_faults_most : new.read_faults ≤ old.read_faults + 1
  pub write_faults : new.write_faults ≡ old.write_faults
  pub quiets : new.quiets ≡ old.quiets
  pub last_read : new.last_read ≡ old.last_read

-- A read that failed: it took nothing, and its fault is counted, with one of its clock where that failed too: two at most.
pub record FailsToRead (old new : LinkState) : Type 0 where
  pub events : new.events ≡ old.events
  pub coming : new.coming ≡ old.coming
  pub written : new.written ≡ old.written
  pub ended : new.ended ≡ old.ended
  pub read_faults : Rises 1 old.read_faults new.read_faults
  pub read_faults_most : new.read_faults ≤ old.read_faults + 2
  pub write_faults : new.write_faults ≡ old.write_faults
  pub quiets : new.quiets ≡ old.quiets
  pub last_read : new.last_read ≡ old.last_read

-- A read by its answer; `room` is the buffer after it. The moment of the read is `now` after it.
abbrev pub Reads : LinkState → List ℕ → ReadResult → LinkState → Type 0
Reads old room (Got n) new = ReadsPiece old room n new
Reads old room Quiet new = ReadsQuiet old new
Reads old room End new = ReadsEnd old new
Reads old room Failed new = FailsToRead old new

-- A write that took the first n of the bytes offered, and counted no fault.
pub record WritesPiece (old : LinkState) (offered : List ℕ) (n : ℕ) (new : LinkState) : Type 0 where
  pub least : 1 ≤ n
  pub most : n ≤ length offered
  pub events : new.events ≡ old.events
  pub coming : new.coming ≡ old.coming
  pub written : new.written ≡ option_map (λ written. written ++ take n offered) old.written
  pub ended : new.ended ≡ old.ended
  pub read_faults : new.read_faults ≡ old.read_faults
  pub write_faults : new.write_faults ≡ old.write_faults
  pub quiets : new.quiets ≡ old.quiets
  pub now : new.now ≡ old.now
  pub last_read : new.last_read ≡ old.last_read

-- A write that failed: it wrote nothing, and its fault is counted, once.
pub record FailsToWrite (old new : LinkState) : Type 0 where
  pub events : new.events ≡ old.events
  pub coming : new.coming ≡ old.coming
  pub written : new.written ≡ old.written
  pub ended : new.ended ≡ old.ended
  pub read_faults : new.read_faults ≡ old.read_faults
  pub write_faults : CountsOn 1 old.write_faults new.write_faults
  pub quiets : new.quiets ≡ old.quiets
  pub now : new.now ≡ old.now
  pub last_read : new.last_read ≡ old.last_read

-- A write by its answer.
abbrev pub Writes : LinkState → List ℕ → Wrote → LinkState → Type 0
Writes old offered (Took n) new = WritesPiece old offered n new
Writes old offered WriteFailed new = FailsToWrite old new

-- A link that was neither read nor written.
pub record IsFresh (link : LinkState) : Type 0 where
  pub events : IfSome link.events (λ events. events ≡ [])
  pub written : IfSome link.written (λ written. written ≡ [])
  pub ended : link.ended ≡ false
  pub read_faults : link.read_faults ≡ 0
  pub write_faults : link.write_faults ≡ 0
  pub quiets : link.quiets ≡ 0
  pub last_read : link.last_read ≡ link.now
