-- How much may be spent.
use Rattle.std.proofs.Common.{◌≡◌, ℕ, List, [], ◌∷◌, Option, Some, None, refl, sym, ap, ◌∙◌}
use Rattle.std.specs.Prelude.{IsSome}
use Rattle.afp_outside.specs.ends.Link.{LinkState}
use Rattle.afp_outside.specs.ends.Dialer.{DialerState}
use Rattle.afp_client.specs.session.State.{Client}
use Rattle.afp_client.specs.links.History.{Happening, allowed, limited, limits_in}
use Rattle.afp_client.specs.declared.links.noted.Noted.{Noted}
use Rattle.afp_client.specs.links.OnLink.{Start}
use Rattle.afp_client.specs.links.Links.{Part, Past, SameOver, all_limits, dialled, limits_of}
use Rattle.afp_client.specs.links.Talk.{TalkAt}
use Rattle.afp_client.specs.declared.links.talk.Limit.{Limit}
use Rattle.afp_client.proofs.OfLinks.LinkLemmas.{on-limits}

-- the limits behind links that all broke
pub past-limits : {L : Type 0} (state : L → LinkState) (first from : Start) (past : List (Part L)) → Past state first past from → from.limits ≡ limits_of first.limits past
past-limits state first from [] is = ap (λ (s : Start). s.limits) is
past-limits state first from (p ∷ past) h = ap (λ (s : Start). s.limits) h.3 ∙ ap (λ (ls : List Limit). limits_in ls p.all) (past-limits state first h.0 past h.1)

-- where no limit was set since
pub allowed-here : {L : Type 0} (state : L → LinkState) (turns : ℕ) (first from : Start) (past later : List (Part L)) (all now : List Happening) → turns ≡ allowed (all_limits first.limits past all) → SameOver past all later now
    → Past state first later from → turns ≡ allowed (limits_in from.limits now)
allowed-here state turns first from past later all now is same h =
    is ∙ ap allowed (sym (same.limits first.limits)) ∙ ap (λ (ls : List Limit). allowed (limits_in ls now)) (sym (past-limits state first from later h))

pub allowed-past : {L : Type 0} (state : L → LinkState) (turns : ℕ) (first from : Start) (past : List (Part L)) → turns ≡ allowed (limits_of first.limits past) → Past state first past from → turns ≡ allowed from.limits
allowed-past state turns first from past is h = is ∙ ap allowed (sym (past-limits state first from past h))

-- another limit is set
pub limits_talk : {L : Type 0} (state : L → LinkState) (first : Start) (old : DialerState L) (past : List (Part L)) (all : List Happening) (link : Option L) (c : Client) (noted : Noted) (idle cost turns : ℕ) (dialer : DialerState L)
    → IsSome link → TalkAt state first old past all link c noted idle cost dialer
    → TalkAt state first old past (limited (record { turns = turns; spent = cost }) ∷ all) link c noted idle cost dialer
limits_talk state first old past all (Some link) c noted idle cost turns dialer some o = record {
  from = o.from;
  past_is = o.past_is;
  on = on-limits (dialled o.from) all c (state link) noted cost (record { turns = turns; spent = cost }) o.on refl;
  in_a_row = o.in_a_row;
  hands = o.hands;
}
limits_talk state first old past all None c noted idle cost turns dialer some o = absurd (cc some)
