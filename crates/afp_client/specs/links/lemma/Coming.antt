-- What comes of the parts of a round on a link (this profile).
use Rattle.std.specs.Prelude.{◌≡◌, ℕ, Bool, true, false, List, Option, Some, None}
use Rattle.afp_outside.specs.ends.Link.{LinkState}
use Rattle.afp_client.specs.session.State.{Client, ClientState, is_lost, is_opened}
use Rattle.afp_client.specs.declared.session.stage.Stage.TheVariants as stages
use Rattle.afp_client.specs.declared.session.event.Event.{Event}
use Rattle.afp_client.specs.declared.session.event.Event.TheVariants as events
use Rattle.afp_client.specs.links.Coming.{CameOn, GoesOn}
use Rattle.afp_client.specs.links.History.{Happening}
use Rattle.afp_client.specs.links.OnLink.{Start, wrote_with}
use Rattle.afp_client.specs.declared.links.came.Came.{Came}
use Rattle.afp_client.specs.declared.links.came.Came.TheVariants as comes
use Rattle.afp_client.specs.declared.links.came.Next.{Next}
use Rattle.afp_client.specs.declared.links.came.Next.TheVariants as nexts
use Rattle.afp_client.specs.declared.links.noted.Noted.{Noted}

-- What is noted where these bytes are written at that moment.
pub record NotesWrite (out : List ℕ) (now : ℕ) (old new : Noted) : Type 0 where
  pub wrote : new.pulse.last_write ≡ wrote_with out now old.pulse.last_write
  pub replied : new.replied ≡ old.replied

abbrev pub opened_next : Bool → Next
opened_next true = nexts.Comes comes.Opened
opened_next false = nexts.Goes

abbrev pub next_of : Bool → ℕ → Event → Next
next_of opening at events.NotYet = nexts.Reads
next_of opening at events.Step = nexts.Goes
next_of opening at events.Ready = opened_next opening
next_of opening at (events.Told c block) = nexts.Comes (comes.Told at c block)
next_of opening at (events.Refused c) = nexts.Comes (comes.Refused c)
next_of opening at (events.Lost c) = nexts.Comes (comes.Lost c)
next_of opening at events.Tickle = nexts.Goes
next_of opening at (events.Attention word) = nexts.Goes
next_of opening at events.Closed = nexts.Comes comes.Broke
next_of opening at (events.Bad place) = nexts.Comes (comes.Bad place)
next_of opening at events.Memory = nexts.Comes comes.Memory

-- The next event goes on, rests, or leaves the link.
abbrev pub NextOn : Start → ℕ → List Happening → Next → Client → LinkState → Noted → ℕ → Type 0
NextOn start turns all nexts.Goes c link noted cost = GoesOn start all c link noted cost
NextOn start turns all nexts.Reads c link noted cost = GoesOn start all c link noted cost
NextOn start turns all (nexts.Comes came) c link noted cost = CameOn start turns all came c link noted cost

abbrev pub RoundOn : Start → ℕ → List Happening → Option Came → Client → LinkState → Noted → ℕ → Type 0
RoundOn start turns all None c link noted cost = GoesOn start all c link noted cost
RoundOn start turns all (Some came) c link noted cost = CameOn start turns all came c link noted cost

-- The client takes frames yet, where its link was not left for an end.
abbrev pub LivesOn : Came → ClientState → Type 0
LivesOn comes.Broke t = is_lost t.stage ≡ false
LivesOn came t = Unit {0}

abbrev pub LivesNext : Next → ClientState → Type 0
LivesNext nexts.Goes t = is_lost t.stage ≡ false
LivesNext nexts.Reads t = is_lost t.stage ≡ false
LivesNext (nexts.Comes came) t = LivesOn came t

abbrev pub LivesRound : Option Came → ClientState → Type 0
LivesRound None t = is_lost t.stage ≡ false
LivesRound (Some came) t = LivesOn came t

-- The opening of a link goes on, and the request that waits for its reply stays.
pub record Opening (s t : ClientState) : Type 0 where
  pub unopened : is_opened t.stage ≡ false
  pub waits : t.waiting ≡ s.waiting

-- What comes of an opening; no result does.
abbrev pub OpensOn : ClientState → Came → ClientState → Type 0
OpensOn s (comes.Told at c block) t = ⊥
OpensOn s comes.Opened t = (t.stage ≡ stages.Ready) × (t.waiting ≡ s.waiting)
OpensOn s comes.Broke t = t.waiting ≡ s.waiting
OpensOn s came t = Unit {0}

abbrev pub OpensNext : ClientState → Next → ClientState → Type 0
OpensNext s nexts.Goes t = Opening s t
OpensNext s nexts.Reads t = Opening s t
OpensNext s (nexts.Comes came) t = OpensOn s came t

abbrev pub OpensRound : ClientState → Option Came → ClientState → Type 0
OpensRound s None t = Opening s t
OpensRound s (Some came) t = OpensOn s came t
