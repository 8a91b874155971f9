-- The client of rounds: whole replies come to it (this profile).
use Rattle.std.specs.Prelude.{◌≡◌, ◌≤◌, ℕ, Bool, true, false, List, [], Some}
use Rattle.afp_base.specs.declared.code.Code.{Code}
use Rattle.afp_client.specs.session.State.{Client, ClientState, is_lost}
use Rattle.afp_client.specs.session.Takes.{Step, takes}
use Rattle.afp_client.specs.declared.session.event.Event.{Event}
use Rattle.afp_client.specs.declared.session.event.Event.TheVariants as events
use Rattle.dsi_frame.specs.Frame.{Frame, IsGood, canonical_frame}
use Rattle.dsi_frame.specs.Replies.{code_word}

-- A client holds no part of a frame; so many bytes came on its link at most.
pub record IsAwaiting (c : Client) (came : ℕ) : Type 0 where
  pub whole : c.held.rest ≡ []
  pub most : c.held.place ≤ came

-- whether a frame was taken
abbrev pub is_taken : Event → Bool
is_taken events.NotYet = false
is_taken events.Step = true
is_taken events.Ready = true
is_taken (events.Told c block) = true
is_taken (events.Refused c) = true
is_taken (events.Lost c) = true
is_taken events.Tickle = true
is_taken (events.Attention word) = true
is_taken events.Closed = true
is_taken (events.Bad at) = false
is_taken events.Memory = false

-- The bytes are a reply with this code, and this is the client's step with it.
pub record IsNextStep (s : ClientState) (bytes : List ℕ) (f : Frame) (code : Code) (does : Step) : Type 0 where
  pub good : IsGood f
  pub spelt : bytes ≡ canonical_frame f
  pub word : code_word code ≡ f.word
  pub live : is_lost s.stage ≡ false
  pub taken : takes s (Some code) f ≡ Some does
  pub kind : is_taken does.event ≡ true
