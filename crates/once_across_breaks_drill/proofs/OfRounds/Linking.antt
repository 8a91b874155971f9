-- The first link, and coming back on the next.
use Rattle.std.proofs.Common.{◌≡◌, ◌∙◌, refl, sym, ap, subst, ℕ, suc, ◌≤◌, List, [], ◌∷◌, ◌++◌, length, Option, Some, None, lit<, append_assoc, arith}
use Rattle.std.specs.Prelude.{option_map, unwrap_or}
use Rattle.afp_base.specs.declared.code.Code.{Code}
use Rattle.afp_base.specs.declared.code.Code.TheVariants as code
use Rattle.afp_client.proofs.OfSession.OpeningLemmas.{token-fits}
use Rattle.afp_client.specs.session.Opening.{command_frame, session_call}
use Rattle.afp_client.specs.session.State.{ClientState, Waiting, call_frame, framed_call, is_lost}
use Rattle.afp_client.specs.session.Takes.{Step, broken, most_token, opened, opening_replied, session_told, step, takes, token_in, written}
use Rattle.afp_client.specs.declared.session.event.Event.TheVariants as events
use Rattle.afp_client.specs.declared.session.stage.OpeningStep.TheVariants as steps
use Rattle.afp_client.specs.declared.session.stage.Stage.{Stage}
use Rattle.afp_client.specs.declared.session.stage.Stage.TheVariants as stages
use Rattle.afp_serial.specs.Answer.{answer, link_number}
use Rattle.afp_serial.specs.History.{entry, stand}
use Rattle.afp_serial.specs.Household.{Household}
use Rattle.afp_serial.specs.Shown.{Shown}
use Rattle.afp_serial.specs.Token.{session_token}
use Rattle.afp_serial.specs.World.{fresh_world}
use Rattle.afp_serial.specs.declared.ask.Ask.TheVariants as asks
use Rattle.afp_serial.specs.declared.ask.Entry.{Entry}
use Rattle.afp_serial.specs.declared.ask.Outcome.TheVariants.{Done}
use Rattle.afp_server.specs.link.Wire.{open_link}
use Rattle.afp_server.specs.declared.link.stage.Stage.{Stage as LineStage}
use Rattle.afp_server.specs.declared.link.stage.Stage.TheVariants.{Open}
use Rattle.dsi_frame.specs.Frame.{IsGood, canonical_frame}
use Rattle.dsi_frame.specs.Replies.{reply_to}
use Rattle.capture_log_server.specs.Sole.{IsFreshTeller}
use Rattle.once_across_breaks.specs.same.Steps.{asks_token, begins, calls_on, login}
use Rattle.once_across_breaks_drill.specs.rounds.Laws.{opening, sweep}
use Rattle.once_across_breaks_drill.specs.rounds.Lines.{LineState, Loses}
use Rattle.once_across_breaks_drill.specs.rounds.Linked.{AwaitsToken, ComesBack, HasToken, IsFirstLink, IsLinked}
use Rattle.once_across_breaks_drill.specs.rounds.Opening.{AwaitsBack, IsBack, LogsIn, in_step}
use Rattle.once_across_breaks_drill.specs.rounds.Rounds.{IsAsked, IsRound}
use Rattle.once_across_breaks_drill.specs.rounds.Tokens.{TokenIsFound}
use Rattle.once_across_breaks_drill.specs.declared.rounds.opening.Linked.{Linked}
use Rattle.once_across_breaks_drill.specs.declared.rounds.round.Round.{Round}
use Rattle.once_across_breaks_drill.proofs.OfRounds.Exchanging.{no-data-session, taken-by, there}
use Rattle.once_across_breaks_drill.proofs.OfRounds.OpeningSteps.{back}

-- ---- the round of FPGetSessionToken

token-long : (key : List ℕ) (number : ℕ) → length (session_token key number) ≡ 16
unfolding session_token
token-long key number = refl

pub token-small : (key : List ℕ) (number : ℕ) → length (session_token key number) ≤ most_token
token-small key number = let long = token-long key number in omega (arith, long)

token-frame : command_frame 2 asks_token ≡ call_frame 2 asks_token
token-frame = sym (ap (framed_call 2 asks_token) (no-data-session None))

token-good : IsGood (command_frame 2 asks_token)
token-good = record { id = lit< tt; word = lit< tt; payload = token-fits; offset = tt }

-- the client has it
abbrev pub with_token : ClientState → List ℕ → Step
with_token s token = opened (record s { token = Some token; next_id = 3 })

token-does : (s : ClientState) (token block : List ℕ) → s.token ≡ None → token_in block ≡ Some token → opening_replied s steps.Session 2 0 code.Ok block ≡ Some (with_token s token)
token-does s token block none found =
    ap (λ (o : Option (List ℕ)). session_told s o 2 block) none ∙ ap (option_map (λ (x : List ℕ). opened (record s { token = Some x; next_id = 3 }))) found

token-taken : (s : ClientState) (token block : List ℕ) → s.stage ≡ stages.Opening steps.Session 2 0 → s.token ≡ None → token_in block ≡ Some token
    → takes s (Some code.Ok) (reply_to (call_frame 2 asks_token) code.Ok block) ≡ Some (with_token s token)
token-taken s token block stage none found =
    let is = token-does s token block none found in
    (taken-by s steps.Session 2 0 asks_token code.Ok block stage refl (no-data-session None) (there (opening_replied s steps.Session 2 0 code.Ok block) (with_token s token) (step s None events.Step) is refl)).0
    ∙ ap (λ (o : Option Step). Some (unwrap_or o (step s None events.Step))) is

pub token-asked : (now : ℕ) (token : List ℕ) (l : Linked) (request : List ℕ) (t : Shown) → AwaitsToken now token l request t → IsAsked now l.caller l.line request t l.link 2 asks_token (λ c block. with_token l.caller token)
token-asked now token l request t a =
    let stage : l.caller.stage ≡ stages.Opening steps.Session 2 0 = ap (λ (y : ClientState). y.stage) a.state in
    let none : l.caller.token ≡ None = ap (λ (y : ClientState). y.token) a.state in
    record {
      live = ap is_lost stage;
      good = subst IsGood token-frame token-good;
      spelt = a.request_is ∙ ap canonical_frame token-frame;
      at = a.at;
      takes_it = λ c block told.
          let is = a.told c block told in
          subst (λ (d : Code). takes l.caller (Some d) (reply_to (call_frame 2 asks_token) d block) ≡ Some (with_token l.caller token)) (sym is.0)
          (token-taken l.caller token block stage none is.1);
      kind = λ c block. refl;
    }

pub has-token : (now : ℕ) (token : List ℕ) (old l : Linked) (request out : List ℕ) (t : Shown) (r : Round) (after : List ℕ) (u : Shown) → AwaitsToken now token old request t
    → IsRound now old.link 2 asks_token (λ c block. with_token old.caller token) old.line out t r after u → l.caller ≡ r.caller → l.line ≡ r.line → l.link ≡ old.link → HasToken now token old t l u
has-token now token old l request out t r after u a x caller line link = record {
  linked = record {
    state = caller ∙ x.state ∙ ap (λ (y : ClientState). (with_token y token).state) a.state;
    at = ap (λ (b : LineState). b.stage) (line ∙ x.tells.stays) ∙ a.at ∙ ap (λ (n : ℕ). Open (link_number n)) (sym link);
    small = a.small;
  };
  link = link;
  start = x.tells.start;
  history = x.tells.history;
}

-- ---- the first link

pub first-token : TokenIsFound → (house : Household) (now : ℕ) (s : ClientState) (out request after : List ℕ) (t v : Shown) (l : Linked)
    → s ≡ record { login = record { user = None }; stage = stages.Unlinked; token = None; waiting = None; next_id = 0 } → IsFreshTeller house now t → out ≡ [] → request ≡ after → LogsIn now s out t l after v → l.link ≡ 1
    → AwaitsToken now (session_token house.token_key 1) l request v
first-token law house now s out request after t v l first fresh empty same x one =
    let history : v.history ≡ begins now = x.history ∙ ap (λ (h : List Entry). h ++ sweep now ∷ opening now ∷ calls_on l.link now 1 login ∷ []) fresh.history ∙ ap (λ (n : ℕ). sweep now ∷ opening now ∷ calls_on n now 1 login ∷ []) one in
    let stands : stand v.start v.history ≡ stand (fresh_world house now) (begins now) = λ i. stand ((x.start ∙ fresh.start) i) (history i) in
    record {
      state = x.state ∙ ap (λ (y : ClientState). in_step y steps.Session 2) first;
      at = x.at;
      request_is = same ∙ x.writes ∙ (λ i. empty i ++ canonical_frame (command_frame 2 (session_call (first i).token)));
      small = token-small house.token_key 1;
      told = λ c block is. law house now c block (sym (λ i. answer (stands i) (calls_on (one i) now 2 asks_token)) ∙ is);
    }

pub first-link : (house : Household) (now : ℕ) (s : ClientState) (out after : List ℕ) (t v u : Shown) (mid l : Linked) → IsFreshTeller house now t → LogsIn now s out t mid after v → mid.link ≡ 1
    → HasToken now (session_token house.token_key 1) mid v l u → IsFirstLink house now l u
first-link house now s out after t v u mid l fresh x one y = record {
  linked = y.linked;
  link = y.link ∙ one;
  start = y.start ∙ x.start ∙ fresh.start;
  history = y.history
      ∙ ap (λ (h : List Entry). h ++ calls_on mid.link now 2 asks_token ∷ []) (x.history ∙ ap (λ (h : List Entry). h ++ sweep now ∷ opening now ∷ calls_on mid.link now 1 login ∷ []) fresh.history)
      ∙ ap (λ (n : ℕ). sweep now ∷ opening now ∷ calls_on n now 1 login ∷ calls_on n now 2 asks_token ∷ []) one;
}

-- ---- coming back

abbrev linked_state : List ℕ → Option Waiting → ℕ → Stage → ClientState
linked_state token waiting next stage = record { login = record { user = None }; stage = stage; token = Some token; waiting = waiting; next_id = next }

-- a link that is lost is one entry
lost-entry : (now link : ℕ) (stage : LineStage) (t u : Shown) → stage ≡ Open (link_number link) → Loses now (open_link stage) t u → (u.start ≡ t.start) × (u.history ≡ t.history ++ entry now (link_number link) asks.Lost Done ∷ [])
lost-entry now link stage t u at loses =
    let x = subst (λ (s : LineStage). Loses now (open_link s) t u) at loses in
    (x.1.start, x.1.history)

-- the client without its link
pub lost-state : (token : List ℕ) (w : Waiting) (next : ℕ) (l : Linked) (s : ClientState) → IsLinked token (Some w) next l → s ≡ broken l.caller → s ≡ linked_state token (Some w) next stages.Unlinked
lost-state token w next l s x is = is ∙ ap broken x.state

pub awaits-back : (now : ℕ) (token : List ℕ) (w : Waiting) (next : ℕ) (s : ClientState) (out request after : List ℕ) (t v : Shown) (l : Linked) → length token ≤ most_token
    → s ≡ linked_state token (Some w) next stages.Unlinked → out ≡ [] → request ≡ after → LogsIn now s out t l after v → AwaitsBack token l request
awaits-back now token w next s out request after t v l small is empty same x = record {
  stage = ap (λ (y : ClientState). y.stage) x.state;
  has = ap (λ (y : ClientState). y.token) (x.state ∙ ap (λ (y : ClientState). in_step y steps.Session 2) is);
  small = small;
  at = x.at;
  request_is = same ∙ x.writes ∙ (λ i. empty i ++ canonical_frame (command_frame 2 (session_call (is i).token)));
}

pub comes-back : (now : ℕ) (token : List ℕ) (w : Waiting) (next : ℕ) (old mid l : Linked) (s : ClientState) (first before out after : List ℕ) (t r v u : Shown)
    → IsLinked token (Some w) next old → s ≡ broken old.caller → Loses now (open_link old.line.stage) t r → LogsIn now s first r mid before v → mid.link ≡ suc old.link → IsBack now token mid out v l after u
    → ComesBack now token w next old out t l after u
comes-back now token w next old mid l s first before out after t r v u linked is loses x link y =
    let lost = lost-entry now old.link old.line.stage t r linked.at loses in
    let state : mid.caller ≡ in_step (linked_state token (Some w) next stages.Unlinked) steps.Session 2 = x.state ∙ ap (λ (z : ClientState). in_step z steps.Session 2) (lost-state token w next old s linked is) in
    let last : ℕ → List Entry = λ n. sweep now ∷ opening now ∷ calls_on n now 1 login ∷ [] in
    record {
      linked = record {
        state = y.state ∙ ap (λ (z : ClientState). record z { stage = stages.Ready }) state;
        at = ap (λ (b : LineState). b.stage) y.line ∙ x.at ∙ ap (λ (n : ℕ). Open (link_number n)) (sym y.link);
        small = linked.small;
      };
      link = y.link ∙ link;
      start = y.start ∙ x.start ∙ lost.0;
      history = y.history
          ∙ ap (λ (h : List Entry). h ++ calls_on mid.link now 2 (back token) ∷ []) (x.history ∙ ap (λ (h : List Entry). h ++ last mid.link) lost.1)
          ∙ append_assoc (t.history ++ entry now (link_number old.link) asks.Lost Done ∷ []) (last mid.link) (calls_on mid.link now 2 (back token) ∷ [])
          ∙ append_assoc t.history (entry now (link_number old.link) asks.Lost Done ∷ []) (last mid.link ++ calls_on mid.link now 2 (back token) ∷ [])
          ∙ ap (λ (n : ℕ). t.history ++ entry now (link_number old.link) asks.Lost Done ∷ sweep now ∷ opening now ∷ calls_on n now 1 login ∷ calls_on n now 2 (back token) ∷ []) link;
      writes = y.writes ∙ ap (λ (z : ClientState). out ++ written (option_map (λ (v : Waiting). v.request) z.waiting)) state;
    }
