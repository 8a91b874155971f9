-- What the next frame on a client's link does (this profile).
use Rattle.std.specs.Prelude.{◌≡◌, ◌⊎◌, ℕ, ◌+◌, false, true, List, ◌++◌, length, Option, Some, None}
use Rattle.afp_base.specs.declared.code.Code.{Code}
use Rattle.dsi_frame.specs.Frame.{Frame, IsSpelling, IsBadHeader}
use Rattle.dsi_frame.specs.Stream.{Begins, IsUnfinished}
use Rattle.dsi_frame.specs.declared.frame.Reason.{Reason}
use Rattle.afp_client.specs.session.State.{Client, is_lost}
use Rattle.afp_client.specs.session.Takes.{IsCodeIn, step, takes, written}
use Rattle.afp_client.specs.declared.session.event.Event.{Event}
use Rattle.afp_client.specs.declared.session.event.Event.TheVariants.{NotYet, Step, Ready, Told, Refused, Lost, Tickle, Attention, Closed, Bad, Memory}

-- nothing changes, and nothing is written
pub record StaysAsItIs (old : Client) (out : List ℕ) (new : Client) (out_after : List ℕ) : Type 0 where
  pub client : new ≡ old
  pub nothing_written : out_after ≡ out

-- the client takes no frame any more, or none has come whole, and no bad header
pub record HasNone (old : Client) (out : List ℕ) (new : Client) (out_after : List ℕ) : Type 0 where
  pub none : (is_lost old.state.stage ≡ true) ⊎ IsUnfinished old.held.rest
  pub stays : StaysAsItIs old out new out_after

-- a bad header stands at the front, or a whole frame that is not taken
abbrev pub IsBadNext : Client → Type 0
IsBadNext c = ((reason : Reason) × IsBadHeader c.held.rest reason)
    ⊎ ((f : Frame) × (found : Option Code) × Begins c.held.rest f × IsCodeIn f.word found × (takes c.state found f ≡ None))

pub record MeetsBad (old : Client) (out : List ℕ) (at : ℕ) (new : Client) (out_after : List ℕ) : Type 0 where
  pub live : is_lost old.state.stage ≡ false
  pub place : at ≡ old.held.place
  pub bad : IsBadNext old
  pub stays : StaysAsItIs old out new out_after

-- the frame at the front is taken
pub record TakesNext (old : Client) (out : List ℕ) (event : Event) (new : Client) (out_after : List ℕ) : Type 0 where
  pub live : is_lost old.state.stage ≡ false
  pub frame : Frame
  pub first : List ℕ
  pub found : Option Code
  pub writes : Option Frame
  pub spelling : IsSpelling first frame
  pub whole : old.held.rest ≡ first ++ new.held.rest
  pub place : new.held.place ≡ old.held.place + length first
  pub tells : IsCodeIn frame.word found
  pub taken : takes old.state found frame ≡ Some (step new.state writes event)
  pub sent : out_after ≡ out ++ written writes

-- by what it is
abbrev pub Happens : Client → List ℕ → Event → Client → List ℕ → Type 0
Happens old out NotYet new out_after = HasNone old out new out_after
Happens old out (Bad at) new out_after = MeetsBad old out at new out_after
Happens old out Memory new out_after = StaysAsItIs old out new out_after
Happens old out Step new out_after = TakesNext old out Step new out_after
Happens old out Ready new out_after = TakesNext old out Ready new out_after
Happens old out (Told c block) new out_after = TakesNext old out (Told c block) new out_after
Happens old out (Refused c) new out_after = TakesNext old out (Refused c) new out_after
Happens old out (Lost c) new out_after = TakesNext old out (Lost c) new out_after
Happens old out Tickle new out_after = TakesNext old out Tickle new out_after
Happens old out (Attention word) new out_after = TakesNext old out (Attention word) new out_after
Happens old out Closed new out_after = TakesNext old out Closed new out_after
