-- The client comes to the link on which its call is told.
use Rattle.std.proofs.Common.{◌≡◌, ◌∙◌, refl, sym, ap, ℕ, suc, ◌<◌, ◌^◌, List, [], ◌∷◌, ◌++◌, Option, Some, None, append-nil, append_assoc}
use Rattle.afp_calls_grammar.specs.declared.grammar.call.Call.{Call}
use Rattle.afp_client.specs.session.State.{Waiting, call_frame}
use Rattle.afp_serial.specs.Answer.{link_number}
use Rattle.afp_serial.specs.Shown.{Shown}
use Rattle.afp_serial.specs.declared.ask.Entry.{Entry}
use Rattle.dsi_frame.specs.Frame.{IsGood, canonical_frame}
use Rattle.dsi_session.specs.RequestIds.{id_after}
use Rattle.once_across_breaks.specs.same.Steps.{calls_on, rejoins}
use Rattle.once_across_breaks.specs.declared.same.breaks.Break.TheVariants.{Before, Behind}
use Rattle.once_across_breaks_drill.specs.rounds.Lines.{LineState}
use Rattle.once_across_breaks_drill.specs.rounds.Linked.{Asks, ComesBack, IsLinked, IsServed, WaitsFor, waits}
use Rattle.once_across_breaks_drill.specs.declared.rounds.opening.Linked.{Linked}
use Rattle.once_across_breaks_drill.specs.declared.run.breaking.Reached.{Reached}
use Rattle.once_across_breaks_drill.specs.run.lemma.Going.{GoesBack, GoesBehind, Reaches}

-- a call that was asked where nothing was in `out` waits
pub waits-for : (token : List ℕ) (id : ℕ) (call : Call) (old l : Linked) (out after : List ℕ) → out ≡ [] → Asks token id call old out l after → WaitsFor token id (id_after id) call l after
waits-for token id call old l out after empty x = record {
  linked = x.linked;
  written = record { good = x.good; spelt = x.writes ∙ ap (λ (o : List ℕ). o ++ canonical_frame (call_frame id call)) empty };
}

pub goes-back : (now : ℕ) (token : List ℕ) (id next : ℕ) (call : Call) (old l : Linked) (out after : List ℕ) (t u : Shown) → out ≡ [] → IsGood (call_frame id call) → ComesBack now token (waits id call) next old out t l after u
    → GoesBack now token id next call old t (record { linked = l; request = after }) u
goes-back now token id next call old l out after t u empty good x = record {
  waits = record {
    linked = x.linked;
    written = record { good = good; spelt = x.writes ∙ ap (λ (o : List ℕ). o ++ canonical_frame (call_frame id call)) empty };
  };
  link = x.link;
  start = x.start;
  history = x.history;
}

-- the line is as it was
pub lost-linked : (token : List ℕ) (waiting : Option Waiting) (next : ℕ) (old : Linked) (line : LineState) → line ≡ old.line → IsLinked token waiting next old → IsLinked token waiting next (record { caller = old.caller; line = line; link = old.link })
lost-linked token waiting next old line is x = record { state = x.state; at = ap (λ (l : LineState). l.stage) is ∙ x.at; small = x.small }

pub goes-behind : (now : ℕ) (token : List ℕ) (id next : ℕ) (call : Call) (old : Linked) (line : LineState) (t v u : Shown) (r : Reached) → IsServed now old.link id call old.line t line v
    → GoesBack now token id next call (record { caller = old.caller; line = line; link = old.link }) v r u → GoesBehind now token id next call old t r u
goes-behind now token id next call old line t v u r x y = record {
  waits = y.waits;
  link = y.link;
  start = y.start ∙ x.start;
  history = y.history
      ∙ ap (λ (h : List Entry). h ++ rejoins token old.link now) x.history
      ∙ append_assoc t.history (calls_on old.link now id call ∷ []) (rejoins token old.link now);
}

pub reaches-before : (now : ℕ) (token : List ℕ) (id next : ℕ) (call : Call) (old : Linked) (t u : Shown) (r : Reached) → GoesBack now token id next call old t r u → Reaches now token id next call Before old t r u
reaches-before now token id next call old t u r x = record { waits = x.waits; link = x.link; start = x.start; history = x.history }

pub reaches-behind : (now : ℕ) (token : List ℕ) (id next : ℕ) (call : Call) (old : Linked) (t u : Shown) (r : Reached) → GoesBehind now token id next call old t r u → Reaches now token id next call Behind old t r u
reaches-behind now token id next call old t u r x = record { waits = x.waits; link = x.link; start = x.start; history = x.history }
