-- What the parts of a client's step answer.
use Rattle.std.specs.Prelude.{◌≡◌, List, ℕ, ◌++◌, Option, Some, None, Result, Ok, Err}
use Rattle.afp_base.specs.declared.bytes.OutOfMemory.{OutOfMemory}
use Rattle.afp_client.specs.session.State.{ClientState}
use Rattle.afp_client.specs.session.Takes.{Step, written}
use Rattle.afp_client.specs.declared.session.event.Event.{Event}
use Rattle.afp_client.specs.declared.session.event.Event.TheVariants as events

-- an event of a frame that is taken
abbrev pub IsTaken : Event → Type 0
IsTaken events.NotYet = ⊥
IsTaken (events.Bad at) = ⊥
IsTaken events.Memory = ⊥
IsTaken event = Unit {0}

-- The step is made, or there is none; or there was no memory, and nothing changed.
abbrev pub Makes : ClientState → List ℕ → Option Step → Result (Option Event) OutOfMemory → ClientState → List ℕ → Type 0
Makes old out expected (Err fault) new out_after = (new ≡ old) × (out_after ≡ out)
Makes old out None (Ok None) new out_after = (new ≡ old) × (out_after ≡ out)
Makes old out None (Ok (Some event)) new out_after = ⊥
Makes old out (Some s) (Ok None) new out_after = ⊥
Makes old out (Some s) (Ok (Some event)) new out_after = (new ≡ s.state) × (out_after ≡ out ++ written s.writes) × (event ≡ s.event) × IsTaken event
