-- A client on one link, call by call.
use Rattle.std.proofs.Common.{◌≡◌, ℕ, List, [], ◌∷◌, ◌++◌, refl, ap, sym, subst, ◌∙◌}
use Rattle.std.proofs.lemmas.List.{append-nil}
use Rattle.afp_base.proofs.ListFacts.{all-snoc}
use Rattle.dsi_frame.specs.Deframe.{GivenOut}
use Rattle.dsi_frame.specs.Frame.{Frame}
use Rattle.dsi_frame.proofs.StreamLemmas.{given-feed, given-frame, given-nothing}
use Rattle.dsi_session.specs.RequestIds.{first_request_id}
use Rattle.afp_client.specs.session.Opening.{open_session_frame}
use Rattle.afp_client.specs.session.State.{ClientState}
use Rattle.afp_client.specs.session.Takes.{asked, begun, broken, step}
use Rattle.afp_client.specs.session.Takes as S
use Rattle.afp_client.specs.session.Run.{Action, Does, Follows, asks, begins, breaks, is_on_link, taken_in, takes_frame, writes_of}
use Rattle.afp_client.specs.session.Laws.{LinkAsks, LinkBegins, LinkBreaks, LinkIsFed, LinkTakes}
use Rattle.afp_client.proofs.OfSession.RunLemmas.{follows_join}

-- one action more
follows_one : (s mid t : ClientState) (actions : List Action) (frames : List Frame) (a : Action) → Follows s actions mid frames → Does mid a t
    → Follows s (actions ++ a ∷ []) t (frames ++ writes_of mid a)
follows_one s mid t actions frames a f does =
    follows_join s mid t actions (a ∷ []) frames (writes_of mid a) f (t, [], does, sym (append-nil (writes_of mid a)), (refl, refl))

taken-join : (first last : List Action) → taken_in (first ++ last) ≡ taken_in first ++ taken_in last
taken-join [] last = refl
taken-join (breaks ∷ first) last = taken-join first last
taken-join (begins ∷ first) last = taken-join first last
taken-join (asks call ∷ first) last = taken-join first last
taken-join (takes_frame f st ∷ first) last = ap (λ (frames : List Frame). f ∷ frames) (taken-join first last)

pub link_begins : LinkBegins
link_begins s = record {
  one_link = refl;
  given = given-nothing (record { place = 0; rest = [] }) refl;
  follows = (refl, refl);
}

pub link_is_fed : LinkIsFed
link_is_fed start bytes piece actions frames old new on state place rest = record {
  one_link = on.one_link;
  given = given-feed bytes piece (taken_in actions) old.held new.held on.given rest place;
  follows = subst (λ (s : ClientState). Follows start actions s frames) (sym state) on.follows;
}

pub link_asks : LinkAsks
link_asks start bytes actions frames old call on ready = record {
  one_link = all-snoc is_on_link actions (asks call) on.one_link refl;
  given = subst (λ (fs : List Frame). GivenOut bytes fs old.held) (sym (taken-join actions (asks call ∷ []) ∙ append-nil (taken_in actions))) on.given;
  follows = follows_one start old.state (asked old.state call) actions frames (asks call) on.follows (ready, refl);
}

pub link_takes : LinkTakes
link_takes start bytes actions frames old new out out_after event on next =
    let st : S.Step = step new.state next.writes event in
    record {
      one_link = all-snoc is_on_link actions (takes_frame next.frame st) on.one_link refl;
      given = subst (λ (fs : List Frame). GivenOut bytes fs new.held) (sym (taken-join actions (takes_frame next.frame st ∷ [])))
          (given-frame bytes (taken_in actions) old.held new.held next.frame (record { first = next.first; more = new.held.rest; whole = next.whole; spelling = next.spelling }) on.given
          (ap (λ (place : ℕ). record { place = place; rest = new.held.rest }) next.place));
      follows = follows_one start old.state new.state actions frames (takes_frame next.frame st) on.follows (next.live, next.found, next.tells, next.taken, refl);
    }

pub link_breaks : LinkBreaks
link_breaks s start earlier actions bytes first frames old before on =
    let next : ClientState = begun (broken old.state) in
    let opens : List Frame = open_session_frame first_request_id ∷ [] in
    let ends : Follows old.state (breaks ∷ begins ∷ []) next opens = (broken old.state, opens, refl, refl, (next, [], refl, refl, (refl, refl))) in
    follows_join s old.state next (earlier ++ actions) (breaks ∷ begins ∷ []) (first ++ frames) opens (follows_join s start old.state earlier actions first frames before on.follows) ends
