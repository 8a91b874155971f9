-- Calls of a client on its link.
use Rattle.std.proofs.Common.{◌≡◌, ◌∙◌, refl, sym, ap, subst, ℕ, ◌+◌, ◌<◌, ◌≤◌, ◌^◌, Bool, true, false, List, ◌++◌, length, Option, Some, None, lit<, length-append, arith}
use Rattle.std.specs.Prelude.{if◌then◌else◌}
use Rattle.afp_base.specs.Limits.{payload_limit}
use Rattle.afp_base.specs.declared.code.Code.{Code}
use Rattle.afp_calls_grammar.specs.grammar.Call.{canonical_call, canonical_data, canonical_piece, layout_of}
use Rattle.afp_calls_grammar.specs.grammar.Words.{Enclosed, Nothing, Piece, canonical_enclosed, enclosed_bytes}
use Rattle.afp_calls_grammar.specs.declared.grammar.call.Call.{Call}
use Rattle.afp_client.specs.session.State.{ClientState, IsReady, Waiting, call_frame, framed_call, is_lost}
use Rattle.afp_client.specs.session.Takes.{Step, asked, is_retried, step, with_id}
use Rattle.afp_client.specs.declared.session.event.Event.TheVariants as events
use Rattle.afp_client.specs.declared.session.stage.Stage.TheVariants as stages
use Rattle.afp_serial.specs.Answer.{link_number}
use Rattle.afp_serial.specs.Shown.{Shown}
use Rattle.afp_serial.specs.declared.ask.Told.TheVariants as tells
use Rattle.afp_server.specs.declared.link.stage.Stage.TheVariants.{Open}
use Rattle.dsi_frame.specs.Frame.{IsGood, canonical_frame}
use Rattle.dsi_session.specs.RequestIds.{id_after}
use Rattle.once_across_breaks_drill.specs.rounds.Laws.{CallsAreTold}
use Rattle.once_across_breaks_drill.specs.rounds.Lines.{LineState, ServesLine}
use Rattle.once_across_breaks_drill.specs.rounds.Linked.{Asks, IsAnswered, IsLinked, IsServed, WaitsFor, waits}
use Rattle.once_across_breaks_drill.specs.rounds.Rounds.{IsAsked, IsRound, waiting_does}
use Rattle.once_across_breaks_drill.specs.declared.rounds.calls.Answered.{Answered}
use Rattle.once_across_breaks_drill.specs.declared.rounds.opening.Linked.{Linked}
use Rattle.once_across_breaks_drill.specs.declared.rounds.round.Round.{Round}
use Rattle.once_across_breaks_drill.proofs.OfRounds.Exchanging.{waiting-taken}

-- ---- a request is written

good-by : (id : ℕ) (call : Call) (e : Enclosed) → id < 2 ^ 16 → length (canonical_call call) + length (enclosed_bytes e) ≤ payload_limit → IsGood (framed_call id call (canonical_enclosed e))
good-by id call Nothing small fits = record { id = small; word = lit< tt; payload = omega (arith, fits); offset = tt }
good-by id call (Piece size piece) small fits =
    let both = length-append (canonical_call call) piece in
    let most : payload_limit < 2 ^ 32 = lit< tt in
    record { id = small; word = omega (arith, fits, most); payload = omega (arith, fits, both); offset = omega (arith, both) }

call-good : (id : ℕ) (call : Call) → id < 2 ^ 16 → length (canonical_call call) + length (canonical_piece call) ≤ payload_limit → IsGood (call_frame id call)
unfolding canonical_data canonical_piece
call-good id call small fits = good-by id call (layout_of call).enclosed small fits

pub is-ready : (token : List ℕ) (id : ℕ) (l : Linked) → IsLinked token None id l → IsReady l.caller
is-ready token id l x = record { opened = ap (λ (s : ClientState). s.stage) x.state; idle = ap (λ (s : ClientState). s.waiting) x.state }

pub asks-call : (token : List ℕ) (id : ℕ) (call : Call) (old l : Linked) (out after : List ℕ) → id < 2 ^ 16 → length (canonical_call call) + length (canonical_piece call) ≤ payload_limit → IsLinked token None id old
    → l.caller ≡ asked old.caller call → after ≡ out ++ canonical_frame (call_frame old.caller.next_id call) → l.line ≡ old.line → l.link ≡ old.link → Asks token id call old out l after
asks-call token id call old l out after small fits x caller writes line link = record {
  linked = record {
    state = caller ∙ ap (λ (s : ClientState). asked s call) x.state;
    at = ap (λ (b : LineState). b.stage) line ∙ x.at ∙ ap (λ (n : ℕ). Open (link_number n)) (sym link);
    small = x.small;
  };
  link = link;
  good = call-good id call small fits;
  writes = writes ∙ ap (λ (s : ClientState). out ++ canonical_frame (call_frame s.next_id call)) x.state;
}

-- ---- its reply comes

told-goes : (s : ClientState) (w : Waiting) (c d : Code) (block other : List ℕ) → (waiting_does s w c block).event ≡ events.Told d other → waiting_does s w c block ≡ step (record s { waiting = None }) None (events.Told c block)
told-goes s w c d block other goes = by (is_retried c w.retries) goes
  where
    by : (b : Bool)
        → (if b then step (record s { waiting = Some (record { request = with_id w.request s.next_id; retries = w.retries + 1 }); next_id = id_after s.next_id }) (Some (with_id w.request s.next_id)) events.Step else step (record s { waiting = None }) None (events.Told c block)).event ≡ events.Told d other
        → (if b then step (record s { waiting = Some (record { request = with_id w.request s.next_id; retries = w.retries + 1 }); next_id = id_after s.next_id }) (Some (with_id w.request s.next_id)) events.Step else step (record s { waiting = None }) None (events.Told c block))
        ≡ step (record s { waiting = None }) None (events.Told c block)
    by true e = absurd (cc e)
    by false e = refl

pub call-asked : (now : ℕ) (token : List ℕ) (id next : ℕ) (call : Call) (l : Linked) (request : List ℕ) (t : Shown) → WaitsFor token id next call l request → IsAsked now l.caller l.line request t l.link id call (waiting_does l.caller (waits id call))
call-asked now token id next call l request t x =
    let ready : l.caller.stage ≡ stages.Ready = ap (λ (s : ClientState). s.stage) x.linked.state in
    let waiting : l.caller.waiting ≡ Some (waits id call) = ap (λ (s : ClientState). s.waiting) x.linked.state in
    record {
      live = ap is_lost ready;
      good = x.written.good;
      spelt = x.written.spelt;
      at = x.linked.at;
      takes_it = λ c block told. (waiting-taken l.caller (waits id call) id call c block ready waiting refl).0;
      kind = λ c block. (waiting-taken l.caller (waits id call) id call c block ready waiting refl).1;
    }

same-told : (c d : Code) (a b : List ℕ) → events.Told c a ≡ events.Told d b → tells.Reply d b false ≡ tells.Reply c a false
same-told c d a b e = cc

pub is-answered : (now : ℕ) (token : List ℕ) (id next : ℕ) (call : Call) (old : Linked) (request out : List ℕ) (t : Shown) (r : Round) (a : Answered) (after : List ℕ) (u : Shown) → WaitsFor token id next call old request
    → IsRound now old.link id call (waiting_does old.caller (waits id call)) old.line out t r after u → r.event ≡ events.Told a.answer.code a.answer.block → a.linked.caller ≡ r.caller → a.linked.line ≡ r.line → a.linked.link ≡ old.link
    → IsAnswered now token id next call old t a u
is-answered now token id next call old request out t r a after u x y event caller line link =
    let c = y.tells.code in
    let block = y.tells.block in
    let goes = told-goes old.caller (waits id call) c a.answer.code block a.answer.block (sym y.event ∙ event) in
    let same : events.Told c block ≡ events.Told a.answer.code a.answer.block = sym (ap (λ (s : Step). s.event) goes) ∙ sym y.event ∙ event in
    record {
      linked = record {
        state = caller ∙ y.state ∙ ap (λ (s : Step). s.state) goes ∙ ap (λ (s : ClientState). record s { waiting = None }) x.linked.state;
        at = ap (λ (b : LineState). b.stage) (line ∙ y.tells.stays) ∙ x.linked.at ∙ ap (λ (n : ℕ). Open (link_number n)) (sym link);
        small = x.linked.small;
      };
      link = link;
      told = same-told c a.answer.code block a.answer.block same ∙ sym y.tells.told;
      start = y.tells.start;
      history = y.tells.history;
    }

-- ---- its reply is lost

pub is-served : CallsAreTold → (now link id : ℕ) (call : Call) (old line : LineState) (o : Option LineState) (out sent : List ℕ) (t u : Shown) → old.stage ≡ Open (link_number link) → o ≡ Some line
    → ServesLine now (call_frame id call) old out t o sent u → IsServed now link id call old t line u
is-served told now link id call old line o out sent t u at there serves =
    let x = told now link id call old line out sent t u at (subst (λ (l : Option LineState). ServesLine now (call_frame id call) old out t l sent u) there serves) in
    record { line_is = x.stays; start = x.start; history = x.history }
