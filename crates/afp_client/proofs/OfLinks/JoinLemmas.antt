-- From one link to the next.
use Rattle.std.proofs.Common.{◌≡◌, ℕ, ◌+◌, ◌<◌, ◌≤◌, Bool, true, false, List, [], ◌∷◌, ◌++◌, refl, ap, ◌∙◌, append-nil, append_assoc, arith}
use Rattle.std.specs.Prelude.{if◌then◌else◌}
use Rattle.afp_outside.specs.ends.Link.{LinkState}
use Rattle.afp_client.specs.session.Run.{Result}
use Rattle.afp_client.specs.session.State.{Client}
use Rattle.afp_client.specs.session.Takes.{broken}
use Rattle.afp_outside.specs.ends.Dialer.{DialerState, TakesBack}
use Rattle.afp_client.specs.links.History.{Happening, results_in}
use Rattle.afp_client.specs.links.OnLink.{Start, spot}
use Rattle.afp_client.specs.links.Links.{Part, Between, Over, SameOver, behind, dialled, links_of, asked_of, limits_of, results_of}
use Rattle.afp_client.specs.links.Coming.{Same, BreaksLink, CameOn}
use Rattle.afp_client.specs.links.lemma.Rejoining.{LeavesLink}
use Rattle.afp_client.specs.declared.links.noted.Noted.{Noted}
use Rattle.afp_client.specs.declared.links.came.Came.{Came}

pub same_over-same : {L : Type 0} (past : List (Part L)) (all : List Happening) → SameOver past all past all
same_over-same past all = record { results = λ was. refl; asked = λ was. refl; limits = λ was. refl }

pub same_over-join : {L : Type 0} (past mid after : List (Part L)) (all some now : List Happening) → SameOver past all mid some → SameOver mid some after now → SameOver past all after now
same_over-join past mid after all some now a b = record { results = λ was. b.results was ∙ a.results was; asked = λ was. b.asked was ∙ a.asked was; limits = λ was. b.limits was ∙ a.limits was }

-- what happened on the newest link, one step further
pub same_over-on : {L : Type 0} (past : List (Part L)) (all now : List Happening) → Same all now → SameOver past all past now
same_over-on past all now s = record {
  results = λ was. ap (λ (rs : List Result). results_of was past ++ rs) (s.results (asked_of was past));
  asked = λ was. s.asked (asked_of was past);
  limits = λ was. s.limits (limits_of was past);
}

-- the newest link broke
same_over-broke : {L : Type 0} (past : List (Part L)) (p : Part L) → SameOver past p.all (p ∷ past) []
same_over-broke past p = record { results = λ was. append-nil (results_of was past ++ results_in (asked_of was past) p.all); asked = λ was. refl; limits = λ was. refl }

in-a-row : (replied : Bool) (n : ℕ) → n < 8 → (if replied then 0 else (n + 1)) ≤ 8
in-a-row true n h = omega arith
in-a-row false n h = omega (arith, h)

pub record Rejoining {L : Type 0} (state : L → LinkState) (first : Start) (old : DialerState L) (past : List (Part L)) (all : List Happening) (c : Client) (idle cost : ℕ) (after : DialerState L) : Type 0 where
  pub later : List (Part L)
  pub same : SameOver past all later []
  pub between : Between state first old later c idle cost after

pub breaks-over : {L : Type 0} (state : L → LinkState) (first : Start) (old : DialerState L) (past : List (Part L)) (all : List Happening) (before c d : Client) (out : List ℕ) (link after : L)
    (was noted : Noted) (then_cost cost idle then_idle : ℕ) (dialer then_dialer : DialerState L)
    → (o : Over state first old past all (spot before out (state link) was then_cost) idle dialer)
    → BreaksLink (dialled o.from) all c (state after) noted cost
    → d.state ≡ broken c.state → then_idle ≡ (if noted.replied then 0 else (idle + 1)) → TakesBack dialer after then_dialer
    → Rejoining state first old past all d then_idle cost then_dialer
breaks-over {L = L} state first old past all before c d out link after was noted then_cost cost idle then_idle dialer then_dialer o b breaks counts gives =
    let p : Part L = record { link = after; all = b.now; to = c; lost = b.lost; noted = noted; cost = cost } in record {
      later = p ∷ past;
      same = same_over-join past past (p ∷ past) all b.now [] (same_over-on past all b.now b.same) (same_over-broke past p);
      between = record {
        at = behind o.from p;
        past_is = (o.from, o.past_is, record { on = b.on; broke = b.broke }, refl);
        stands = breaks;
        spent = refl;
        in_a_row = counts ∙ ap (λ (n : ℕ). if noted.replied then 0 else (n + 1)) o.in_a_row;
        most = in-a-row noted.replied o.from.idle o.on.on.below;
        hands = record {
          handed = omega (arith, gives.handed, o.hands.handed);
          back = gives.back ∙ ap (λ (ls : List L). ls ++ after ∷ []) o.hands.back ∙ append_assoc old.back (links_of past) (after ∷ []);
          faults = gives.faults ∙ o.hands.faults;
        };
      };
    }

-- the link is left
pub leaves-link : {L : Type 0} (state : L → LinkState) (turns : ℕ) (first : Start) (old : DialerState L) (past later : List (Part L)) (all now : List Happening) (before c : Client) (out : List ℕ) (link after : L)
    (was noted : Noted) (then_cost cost idle : ℕ) (dialer : DialerState L) (came : Came)
    → SameOver past all later now → (o : Over state first old later now (spot before out (state link) was then_cost) idle dialer)
    → CameOn (dialled o.from) turns now came c (state after) noted cost
    → LeavesLink state turns first old past all after came c noted idle cost dialer
leaves-link state turns first old past later all now before c out link after was noted then_cost cost idle dialer came same o h = record {
  later = later;
  now = now;
  same = same;
  from = o.from;
  past_is = o.past_is;
  comes = h;
  in_a_row = o.in_a_row;
  hands = o.hands;
}
