-- The next link is begun, or there is none.
use Rattle.std.proofs.Common.{◌≡◌, ℕ, ◌+◌, ◌<◌, false, List, [], ◌∷◌, ◌++◌, Option, Some, None, refl, sym, ap, subst, ◌∙◌, append-nil, arith}
use Rattle.std.specs.Prelude.{IfSome}
use Rattle.afp_base.specs.Counts.{Rises}
use Rattle.afp_outside.specs.ends.Link.{LinkState}
use Rattle.afp_outside.specs.ends.Dialer.{DialerState, DialsLink, TakesBack}
use Rattle.dsi_frame.specs.Frame.{canonical_frame}
use Rattle.dsi_session.specs.RequestIds.{first_request_id}
use Rattle.afp_client.specs.session.Opening.{open_session_frame}
use Rattle.afp_client.specs.session.State.{Client}
use Rattle.afp_client.specs.session.Takes.{begun}
use Rattle.afp_client.specs.links.History.{allowed}
use Rattle.afp_client.specs.declared.links.noted.Noted.{Noted}
use Rattle.afp_client.specs.links.OnLink.{Start, spot, wrote_with}
use Rattle.afp_client.specs.links.Links.{Part, Between, Over, limits_of, links_of}
use Rattle.afp_client.specs.links.Ends.{EndsBetween, HasNone, IsUnbegun}
use Rattle.afp_client.specs.links.lemma.Rejoining.{NotDialled}
use Rattle.afp_client.specs.declared.links.links.TalkEnd.{TalkEnd}
use Rattle.afp_client.specs.declared.links.links.TalkEnd.TheVariants as ends
use Rattle.afp_client.proofs.OfLinks.LimitLemmas.{allowed-past}

-- no link was handed out
none-handed : {L : Type 0} (state : L → LinkState) (turns : ℕ) (first : Start) (old : DialerState L) (past : List (Part L)) (c : Client) (idle cost then_cost : ℕ) (end : TalkEnd) (mid new : DialerState L)
    → (b : Between state first old past c idle cost mid) → new.handed ≡ mid.handed → new.back ≡ mid.back → then_cost ≡ cost → IsUnbegun {L = L} end [] → EndsBetween turns b.at.idle b.at.spent old end new
    → HasNone state turns first old past end then_cost new
none-handed state turns first old past c idle cost then_cost end mid new b handed back same most why = record {
  at = b.at;
  past_is = b.past_is;
  unbegun = [];
  most = most;
  handed = omega (arith, handed, b.hands.handed);
  back = back ∙ b.hands.back ∙ sym (append-nil (old.back ++ links_of past));
  spent = omega (arith, same, b.spent);
  why = why;
}

pub none-dialled : {L : Type 0} (state : L → LinkState) (turns : ℕ) (first : Start) (old : DialerState L) (past : List (Part L)) (c : Client) (idle cost then_cost : ℕ) (end : TalkEnd) (mid new : DialerState L)
    → Between state first old past c idle cost mid → NotDialled idle turns cost mid end new → then_cost ≡ cost → HasNone state turns first old past end then_cost new
none-dialled {L} state turns first old past c idle cost then_cost ends.Broken mid new b n same =
    none-handed state turns first old past c idle cost then_cost ends.Broken mid new b (ap (λ (d : DialerState L). d.handed) n.1) (ap (λ (d : DialerState L). d.back) n.1) same refl (omega (arith, n.0, b.in_a_row, b.most))
none-dialled {L} state turns first old past c idle cost then_cost ends.Spent mid new b n same =
    none-handed state turns first old past c idle cost then_cost ends.Spent mid new b (ap (λ (d : DialerState L). d.handed) n.2) (ap (λ (d : DialerState L). d.back) n.2) same refl
    (omega (arith, n.0, b.in_a_row), omega (arith, n.1, b.spent))
none-dialled {L} state turns first old past c idle cost then_cost ends.DialFault mid new b n same =
    none-handed state turns first old past c idle cost then_cost ends.DialFault mid new b n.2.handed n.2.back same refl
    (omega (arith, n.0, b.in_a_row), omega (arith, n.1, b.spent), subst (λ (k : ℕ). Rises 1 k new.faults) b.hands.faults (n.2.faults.0, n.2.faults.2))
none-dialled {L} state turns first old past c idle cost then_cost ends.Memory mid new b n same =
    none-handed state turns first old past c idle cost then_cost ends.Memory mid new b (ap (λ (d : DialerState L). d.handed) n) (ap (λ (d : DialerState L). d.back) n) same (omega arith) tt
none-dialled state turns first old past c idle cost then_cost (ends.Refused code) mid new b n same = absurd n
none-dialled state turns first old past c idle cost then_cost (ends.Lost code) mid new b n same = absurd n
none-dialled state turns first old past c idle cost then_cost (ends.Bad at) mid new b n same = absurd n

-- a link was handed out, and no memory was there to begin it
pub none-begun : {L : Type 0} (state : L → LinkState) (turns : ℕ) (first : Start) (old : DialerState L) (past : List (Part L)) (c : Client) (idle cost then_cost : ℕ) (link : L) (before mid new : DialerState L)
    → Between state first old past c idle cost before → DialsLink state before link mid → TakesBack mid link new → then_cost ≡ cost + 1 → HasNone state turns first old past ends.Memory then_cost new
none-begun {L} state turns first old past c idle cost then_cost link before mid new b d gives more = record {
  at = b.at;
  past_is = b.past_is;
  unbegun = link ∷ [];
  most = omega arith;
  handed = omega (arith, gives.handed, d.handed, b.hands.handed);
  back = gives.back ∙ ap (λ (ls : List L). ls ++ link ∷ []) (d.back ∙ b.hands.back);
  spent = omega (arith, more, b.spent);
  why = tt;
}

none-written : (written : Option (List ℕ)) (out all : List ℕ) → IfSome written (λ w. w ≡ []) → out ≡ all → IfSome written (λ w. w ++ out ≡ all)
none-written None out all fresh is = tt
none-written (Some w) out all fresh is = ap (λ (x : List ℕ). x ++ out) fresh ∙ is

-- it was begun
pub begins-over : {L : Type 0} (state : L → LinkState) (turns : ℕ) (first : Start) (old : DialerState L) (past : List (Part L)) (c d : Client) (none out : List ℕ) (noted : Noted) (idle cost then_cost : ℕ) (link : L) (mid new : DialerState L)
    → turns ≡ allowed (limits_of first.limits past) → Between state first old past c idle cost mid → DialsLink state mid link new → then_cost ≡ cost + 1 → idle < 8 → cost < turns
    → none ≡ [] → noted.replied ≡ false → d ≡ record { state = begun c.state; held = record { place = 0; rest = [] } } → out ≡ none ++ canonical_frame (open_session_frame first_request_id)
    → Over state first old past [] (spot d out (state link) noted then_cost) idle new
begins-over {L} state turns first old past c d none out noted idle cost then_cost link mid new allows b dials more below less empty unreplied is sends = record {
  from = b.at;
  past_is = b.past_is;
  on = record {
    on = record {
      leads = ap (λ (x : Client). x.state) is ∙ ap begun b.stands;
      told = dials.fresh.events;
      filled = [];
      spelled = refl;
      came = sym (ap (λ (x : Client). x.held.rest) is);
      place = ap (λ (x : Client). x.held.place) is;
      sent = none-written (state link).written out (canonical_frame (open_session_frame first_request_id)) dials.fresh.written (sends ∙ ap (λ (x : List ℕ). x ++ canonical_frame (open_session_frame first_request_id)) empty);
      replied = unreplied;
      cost = omega (arith, more, b.spent);
      below = omega (arith, below, b.in_a_row);
      within = omega (arith, less, b.spent, allowed-past state turns first b.at past allows b.past_is);
      began = (state link).now;
      moment = refl;
      last_read = dials.fresh.last_read;
      last_write = ap (λ (x : List ℕ). wrote_with x (state link).now noted.pulse.last_write) (sends ∙ ap (λ (x : List ℕ). x ++ canonical_frame (open_session_frame first_request_id)) empty);
      reads = tt;
      idles = tt;
    };
    rests = tt;
  };
  in_a_row = b.in_a_row;
  hands = record {
    handed = omega (arith, dials.handed, b.hands.handed);
    back = dials.back ∙ b.hands.back;
    faults = dials.faults ∙ b.hands.faults;
  };
}
