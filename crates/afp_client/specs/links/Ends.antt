-- Why a client has no link any more (this profile).
use Rattle.std.specs.Prelude.{◌≡◌, ℕ, ◌+◌, ◌≤◌, ◌<◌, List, [], ◌++◌, length}
use Rattle.afp_base.specs.Counts.{Rises}
use Rattle.afp_outside.specs.ends.Dialer.{DialerState}
use Rattle.afp_outside.specs.ends.Link.{LinkState}
use Rattle.afp_client.specs.links.History.{Happening}
use Rattle.afp_client.specs.links.Links.{Part, Past, SameOver, links_of}
use Rattle.afp_client.specs.links.OnLink.{Start}
use Rattle.afp_client.specs.declared.links.links.TalkEnd.{TalkEnd}
use Rattle.afp_client.specs.declared.links.links.TalkEnd.TheVariants as ends

-- Why no link is dialled any more, behind so many in a row that broke without a reply to a command: they are eight; they are fewer, and no more
-- may be spent; or they are fewer, more may be spent, and the dial failed.
abbrev pub EndsBetween : {L : Type 0} → ℕ → ℕ → ℕ → DialerState L → TalkEnd → DialerState L → Type 0
EndsBetween turns idle cost old ends.Broken new = 8 ≡ idle
EndsBetween turns idle cost old ends.Spent new = (idle < 8) × (turns ≤ cost)
EndsBetween turns idle cost old ends.DialFault new = (idle < 8) × (cost < turns) × Rises 1 old.faults new.faults
EndsBetween turns idle cost old ends.Memory new = Unit {0}
EndsBetween turns idle cost old (ends.Refused c) new = ⊥
EndsBetween turns idle cost old (ends.Lost c) new = ⊥
EndsBetween turns idle cost old (ends.Bad at) new = ⊥

-- links that were dialled and never begun: one at most, and only for want of memory
abbrev pub IsUnbegun : {L : Type 0} → TalkEnd → List L → Type 0
IsUnbegun ends.Memory links = length links ≤ 1
IsUnbegun ends.Broken links = links ≡ []
IsUnbegun ends.Spent links = links ≡ []
IsUnbegun ends.DialFault links = links ≡ []
IsUnbegun (ends.Refused c) links = links ≡ []
IsUnbegun (ends.Lost c) links = links ≡ []
IsUnbegun (ends.Bad at) links = links ≡ []

-- The client has no link: all that were dialled broke, but for one at most that was never begun, for want of memory; all are handed back.
pub record HasNone {L : Type 0} (state : L → LinkState) (turns : ℕ) (first : Start) (old : DialerState L) (past : List (Part L)) (end : TalkEnd) (cost : ℕ) (new : DialerState L) : Type 0 where
  pub at : Start
  pub past_is : Past state first past at
  pub unbegun : List L
  pub most : IsUnbegun end unbegun
  pub handed : new.handed ≡ old.handed + length past + length unbegun
  pub back : new.back ≡ old.back ++ links_of past ++ unbegun
  pub spent : cost ≡ at.spent + length unbegun
  pub why : EndsBetween turns at.idle at.spent old end new

-- No link is left.
pub record LeavesNone {L : Type 0} (state : L → LinkState) (turns : ℕ) (first : Start) (old : DialerState L) (past : List (Part L)) (all : List Happening) (end : TalkEnd) (cost : ℕ) (new : DialerState L) : Type 0 where
  pub later : List (Part L)
  pub same : SameOver past all later []
  pub none : HasNone state turns first old later end cost new
