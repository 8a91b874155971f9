use Rattle.std.proofs.Common.{◌≡◌, ◌∷◌, [], ℕ, rules, ap, sym, subst, arith, count_by}
use Rattle.std.specs.Prelude.{Ok}
use Rattle.afp_serial.proofs.StaysSound.{after-sound}
use Rattle.afp_serial.specs.History.{entry, is_opened}
use Rattle.afp_serial.specs.Sound.{IsSound}
use Rattle.afp_serial.specs.Answered.{told_of}
use Rattle.afp_serial.specs.declared.answered.Answered.{Answered}
use Rattle.afp_core.specs.turns.ServerState.{ServerState}
use Rattle.afp_core_dispatch.specs.Asks.{kept_at}
use Rattle.afp_core.specs.turns.lemma.ServerState.{kept_of}
use Rattle.afp_core_dispatch.specs.Asks.{RunsAsk}
use Rattle.afp_core.proofs.OfTurns.TurnLemmas.{legal-entry, not-opened, ready, turned}
use Rattle.afp_core.proofs.turns.turn.Core.step.Goals as goal
use Rattle.afp_core.proofs.turns.turn.Core.step.Goals.{in-Opened, in_default}

pub run_ask-requires-clause-ready : goal.run_ask-requires-clause-ready
run_ask-requires-clause-ready g c = ready c.self.inside.state.world c.references_are_lowest.ensures.few c.self.invariant

pub invariant_of-self-in-Opened : goal.invariant_of-self-in-Opened
invariant_of-self-in-Opened g c =
    subst IsSound (sym c.in_ok-answered.ensures.runs.world) (after-sound c.self.inside.state.world (entry c.args.now c.args.link c.args.ask c.in_ok-answered.outcome) c.self.invariant (legal-entry c.self.inside.state.world c.args.now c.args.link c.args.ask c.in_ok-answered.outcome (c.entry_in_range.ensures c.in_ok-answered.outcome) c.in_ok-answered.ensures.runs.legal))

pub invariant_of-self-in_default : goal.invariant_of-self-in_default
invariant_of-self-in_default g c =
    subst IsSound (sym c.in_ok-answered.ensures.runs.world) (after-sound c.self.inside.state.world (entry c.args.now c.args.link c.args.ask c.in_ok-answered.outcome) c.self.invariant (legal-entry c.self.inside.state.world c.args.now c.args.link c.args.ask c.in_ok-answered.outcome (c.entry_in_range.ensures c.in_ok-answered.outcome) c.in_ok-answered.ensures.runs.legal))

pub returns-clause-step : goal.returns-clause-step
returns-clause-step g c =
    let comes = subst (λ (s : ServerState). RunsAsk (kept_at (kept_of s) c.args.now) c.args.link.0 c.args.ask (Ok ((told_of c.in_ok-answered.answered c.run_ask.new.out), c.in_ok-answered.outcome)) c.run_ask.new.state) c.self.view_is c.in_ok-answered.ensures.runs in
    let typed = c.entry_in_range.ensures c.in_ok-answered.outcome in
    let was : c.self.inside.entries ≡ c.args.self.now.entries = ap (λ (s : ServerState). s.entries) c.self.view_is in
    let had : c.self.inside.opened ≡ c.args.self.now.opened = ap (λ (s : ServerState). s.opened) c.self.view_is in
    elim c.match-answered.branch [
      | in-Opened w ↦
          let becomes = λ (f : ServerState → ℕ). ap f w.self-is in
          let one : count_by is_opened ((told_of c.in_ok-answered.answered c.run_ask.new.out) ∷ []) ≡ 1 = ap (λ (a : Answered). count_by is_opened (told_of a c.run_ask.new.out ∷ [])) w.in-Opened.is in
          turned c.args.self.now c.match-answered.self c.args.now c.args.link c.args.ask (told_of c.in_ok-answered.answered c.run_ask.new.out) c.in_ok-answered.outcome typed
          (subst (λ (s : ServerState). RunsAsk (kept_at (kept_of c.args.self.now) c.args.now) c.args.link.0 c.args.ask (Ok ((told_of c.in_ok-answered.answered c.run_ask.new.out), c.in_ok-answered.outcome)) (kept_of s)) (sym w.self-is) comes)
          (omega (arith, becomes (λ s. s.entries), c.saturating_add-self-inside.ensures, was))
          (omega (arith, becomes (λ s. s.opened), w.saturating_add-self-inside-in-Opened.ensures, had, one))
      | in_default w ↦
          let becomes = λ (f : ServerState → ℕ). ap f w.self-is in
          let none : count_by is_opened ((told_of c.in_ok-answered.answered c.run_ask.new.out) ∷ []) ≡ 0 = search (rules, not-opened) in
          turned c.args.self.now c.match-answered.self c.args.now c.args.link c.args.ask (told_of c.in_ok-answered.answered c.run_ask.new.out) c.in_ok-answered.outcome typed
          (subst (λ (s : ServerState). RunsAsk (kept_at (kept_of c.args.self.now) c.args.now) c.args.link.0 c.args.ask (Ok ((told_of c.in_ok-answered.answered c.run_ask.new.out), c.in_ok-answered.outcome)) (kept_of s)) (sym w.self-is) comes)
          (omega (arith, becomes (λ s. s.entries), c.saturating_add-self-inside.ensures, was))
          (omega (arith, becomes (λ s. s.opened), had, none))
    ]
