-- A client's links over a dialer, the newest first (this profile).
use Rattle.std.specs.Prelude.{◌≡◌, ℕ, ◌+◌, ◌≤◌, List, [], ◌∷◌, ◌++◌, length, Option, if◌then◌else◌}
use Rattle.afp_outside.specs.ends.Link.{LinkState}
use Rattle.afp_calls_grammar.specs.declared.grammar.call.Call.{Call}
use Rattle.afp_client.specs.session.Run.{Result}
use Rattle.afp_client.specs.session.State.{Client}
use Rattle.afp_client.specs.session.Takes.{broken}
use Rattle.afp_outside.specs.ends.Dialer.{DialerState}
use Rattle.afp_client.specs.links.History.{Happening, asked_in, limits_in, results_in}
use Rattle.afp_client.specs.declared.links.noted.Noted.{Noted}
use Rattle.afp_client.specs.declared.links.talk.Limit.{Limit}
use Rattle.afp_client.specs.links.OnLink.{Start, Spot, spot, OnLink, LiveOn, Broke}

-- A link that was dialled and handed back: the link as it was then, what happened on it, the client, what is noted of it and what was spent
-- then, and the end of what was to be written that was not.
pub record Part (L : Type 0) : Type 0 where
  pub link : L
  pub all : List Happening
  pub to : Client
  pub lost : List ℕ
  pub noted : Noted
  pub cost : ℕ

-- a link that is dialled costs 1
abbrev pub dialled : Start → Start
dialled from = record { state = from.state; spent = from.spent + 1; idle = from.idle; limits = from.limits }

-- where the next link begins, behind a part that began there
abbrev pub behind : {L : Type 0} → Start → Part L → Start
behind from p = record { state = broken p.to.state; spent = p.cost; idle = if p.noted.replied then 0 else (from.idle + 1); limits = limits_in from.limits p.all }

-- This happened on the link, and it broke.
pub record WasLink {L : Type 0} (state : L → LinkState) (from : Start) (p : Part L) : Type 0 where
  pub on : OnLink (dialled from) p.all (spot p.to p.lost (state p.link) p.noted p.cost)
  pub broke : Broke on.began p.all p.lost (state p.link)

-- The links so far all broke, and each began where the client stood behind the one before it.
abbrev pub Past : {L : Type 0} → (L → LinkState) → Start → List (Part L) → Start → Type 0
Past state first [] at = at ≡ first
Past state first (p ∷ past) at = (from : Start) × Past state first past from × WasLink state from p × (at ≡ behind from p)

abbrev pub links_of : {L : Type 0} → List (Part L) → List L
links_of [] = []
links_of (p ∷ past) = links_of past ++ p.link ∷ []

-- the call that waits for its result, and the results, behind the links so far
abbrev pub asked_of : {L : Type 0} → Option Call → List (Part L) → Option Call
asked_of was [] = was
asked_of was (p ∷ past) = asked_in (asked_of was past) p.all

abbrev pub results_of : {L : Type 0} → Option Call → List (Part L) → List Result
results_of was [] = []
results_of was (p ∷ past) = results_of was past ++ results_in (asked_of was past) p.all

-- the limits that were set on the links so far, with those before
abbrev pub limits_of : {L : Type 0} → List Limit → List (Part L) → List Limit
limits_of was [] = was
limits_of was (p ∷ past) = limits_in (limits_of was past) p.all

-- and with what happened on the newest link
abbrev pub all_asked : {L : Type 0} → Option Call → List (Part L) → List Happening → Option Call
all_asked was past all = asked_in (asked_of was past) all

abbrev pub all_results : {L : Type 0} → Option Call → List (Part L) → List Happening → List Result
all_results was past all = results_of was past ++ results_in (asked_of was past) all

abbrev pub all_limits : {L : Type 0} → List Limit → List (Part L) → List Happening → List Limit
all_limits was past all = limits_in (limits_of was past) all

-- So many links were handed out, and these were handed back.
pub record Hands {L : Type 0} (old : DialerState L) (dials : ℕ) (links : List L) (new : DialerState L) : Type 0 where
  pub handed : new.handed ≡ old.handed + dials
  pub back : new.back ≡ old.back ++ links
  pub faults : new.faults ≡ old.faults

-- Between two links: eight at most in a row broke without a reply to a command.
pub record Between {L : Type 0} (state : L → LinkState) (first : Start) (dialer : DialerState L) (past : List (Part L)) (client : Client) (idle cost : ℕ) (after : DialerState L) : Type 0 where
  pub at : Start
  pub past_is : Past state first past at
  pub stands : client.state ≡ at.state
  pub spent : cost ≡ at.spent
  pub in_a_row : idle ≡ at.idle
  pub most : at.idle ≤ 8
  pub hands : Hands dialer (length past) (links_of past) after

-- On a link, which goes on.
pub record Over {L : Type 0} (state : L → LinkState) (first : Start) (dialer : DialerState L) (past : List (Part L)) (all : List Happening) (here : Spot) (idle : ℕ) (after : DialerState L) : Type 0 where
  pub from : Start
  pub past_is : Past state first past from
  pub on : LiveOn (dialled from) all here
  pub in_a_row : idle ≡ from.idle
  pub hands : Hands dialer (length past + 1) (links_of past) after

-- no result came, the same call waits, and no limit was set
pub record SameOver {L : Type 0} (past : List (Part L)) (all : List Happening) (later : List (Part L)) (now : List Happening) : Type 0 where
  pub results : (was : Option Call) → all_results was later now ≡ all_results was past all
  pub asked : (was : Option Call) → all_asked was later now ≡ all_asked was past all
  pub limits : (was : List Limit) → all_limits was later now ≡ all_limits was past all
