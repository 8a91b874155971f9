-- What dialling comes to (this profile).
use Rattle.std.specs.Prelude.{◌≡◌, ℕ, ◌+◌, ◌≤◌, ◌<◌, List, [], length, Result, Ok, Err}
use Rattle.afp_outside.specs.ends.Link.{LinkState}
use Rattle.afp_client.specs.session.State.{Client}
use Rattle.afp_outside.specs.ends.Dialer.{DialerState, DialsLink, FailsToDial}
use Rattle.afp_client.specs.links.History.{Happening}
use Rattle.afp_client.specs.links.OnLink.{Start, spot}
use Rattle.afp_client.specs.links.Links.{Part, Past, Hands, Over, SameOver, dialled, links_of}
use Rattle.afp_client.specs.links.Coming.{CameOn}
use Rattle.afp_client.specs.links.Ends.{HasNone, LeavesNone}
use Rattle.afp_client.specs.declared.links.noted.Noted.{Noted}
use Rattle.afp_client.specs.declared.links.came.Came.{Came}
use Rattle.afp_client.specs.declared.links.links.Left.{Left}
use Rattle.afp_client.specs.declared.links.links.TalkEnd.{TalkEnd}
use Rattle.afp_client.specs.declared.links.links.TalkEnd.TheVariants as ends

-- nothing was dialled, and why
abbrev pub NotDialled : {L : Type 0} → ℕ → ℕ → ℕ → DialerState L → TalkEnd → DialerState L → Type 0
NotDialled idle turns cost old ends.Broken new = (8 ≤ idle) × (new ≡ old)
NotDialled idle turns cost old ends.Spent new = (idle < 8) × (turns ≤ cost) × (new ≡ old)
NotDialled idle turns cost old ends.DialFault new = (idle < 8) × (cost < turns) × FailsToDial old new
NotDialled idle turns cost old ends.Memory new = new ≡ old
NotDialled idle turns cost old (ends.Refused c) new = ⊥
NotDialled idle turns cost old (ends.Lost c) new = ⊥
NotDialled idle turns cost old (ends.Bad at) new = ⊥

abbrev pub Dialled : {L : Type 0} → (L → LinkState) → ℕ → ℕ → ℕ → DialerState L → Result L TalkEnd → ℕ → DialerState L → Type 0
Dialled state idle turns cost old (Ok link) then_cost new = DialsLink state old link new × (then_cost ≡ cost + 1) × (idle < 8) × (cost < turns)
Dialled state idle turns cost old (Err end) then_cost new = NotDialled idle turns cost old end new × (then_cost ≡ cost)

-- the next link was begun, or not
abbrev pub Rejoins : {L : Type 0} → (L → LinkState) → ℕ → Start → DialerState L → List (Part L) → Result L TalkEnd → Client → List ℕ → Noted → ℕ → ℕ → DialerState L → Type 0
Rejoins state turns first old past (Ok link) c out noted idle cost new = Over state first old past [] (spot c out (state link) noted cost) idle new
Rejoins state turns first old past (Err end) c out noted idle cost new = HasNone state turns first old past end cost new

-- The link is left for something, and did not break.
pub record LeavesLink {L : Type 0} (state : L → LinkState) (turns : ℕ) (first : Start) (old : DialerState L) (past : List (Part L)) (all : List Happening)
    (link : L) (came : Came) (c : Client) (noted : Noted) (idle cost : ℕ) (new : DialerState L) : Type 0 where
  pub later : List (Part L)
  pub now : List Happening
  pub same : SameOver past all later now
  pub from : Start
  pub past_is : Past state first later from
  pub comes : CameOn (dialled from) turns now came c (state link) noted cost
  pub in_a_row : idle ≡ from.idle
  pub hands : Hands old (length later + 1) (links_of later) new

abbrev pub Leaves : {L : Type 0} → (L → LinkState) → ℕ → Start → DialerState L → List (Part L) → List Happening → Result (Left L) TalkEnd → Client → Noted → ℕ → ℕ → DialerState L → Type 0
Leaves state turns first old past all (Ok left) c noted idle cost new = LeavesLink state turns first old past all left.link left.came c noted idle cost new
Leaves state turns first old past all (Err end) c noted idle cost new = LeavesNone state turns first old past all end cost new
