use Rattle.std.proofs.Common.{◌≡◌, ◌∙◌, ◌∷◌, ◌++◌, [], ap, sym, refl, subst, true, List, length, append-nil}
use Rattle.afp_serial.specs.Answer.{answer}
use Rattle.afp_serial.specs.Answered.{told_of}
use Rattle.afp_serial.specs.History.{entry, is_lawful, stand}
use Rattle.afp_serial.specs.Sound.{IsSound}
use Rattle.afp_serial.specs.Shown.{fits_frame, is_answer_to}
use Rattle.afp_serial.specs.declared.ask.Ask.{Ask}
use Rattle.afp_serial.specs.declared.ask.Entry.{Entry}
use Rattle.afp_serial.proofs.Grows.{asked-adds}
use Rattle.afp_serial.proofs.StaysSound.{answer-fits, answer-kind, stand-sound, stood-sound}
use Rattle.afp_core.specs.turns.Counted.{IsCounted}
use Rattle.afp_core.specs.turns.Places.{upto}
use Rattle.afp_core.specs.turns.Sureness.{MeetsNoFaults}
use Rattle.afp_core.specs.turns.lemma.Places.{upto-longer}
use Rattle.afp_core.proofs.OfTurns.TurnLemmas.{answer-told, turn-counted, turn-faultless, turn-faults, turn-lawful, turn-stands, turn-tells, turn-kept}
use Rattle.afp_core.proofs.turns.list_teller.ListTellerTeller.ask.Goals as goal

pub invariant_of-self-in-Ok-step : goal.invariant_of-self-in-Ok-step
invariant_of-self-in-Ok-step g c =
    let begin = c.args.self.now.start.value in
    let h = c.args.self.now.entries.items in
    let e : Entry = entry c.args.now c.args.link c.args.ask c.in-Ok-step.outcome in
    let kept = ap (λ (a : Ask). entry c.args.now c.args.link a c.in-Ok-step.outcome) c.in-Ok.ensures in
    let items = c.push_reserved.ensures.items ∙ (λ i. c.reserve.ensures.items i ++ kept i ∷ []) in
    let stands = c.args.self.now.stands in
    let lawful = subst (λ (l : List Entry). is_lawful begin.world l ≡ true) (sym items) (turn-lawful begin.world h c.args.self.now.core c.step.new.self e (told_of c.in-Ok-step.answered c.step.new.out) stands c.in-Ok-step.ensures.step c.args.self.now.lawful) in
    record {
      sound = c.args.self.now.sound;
      sound_at = stand-sound begin.world c.push_reserved.new.self.items c.args.self.now.sound lawful;
      lawful = lawful;
      stands = turn-stands begin.world h c.args.self.now.core c.step.new.self e (told_of c.in-Ok-step.answered c.step.new.out) stands c.in-Ok-step.ensures.step ∙ ap (stand begin.world) (sym items);
      counted = subst (λ (l : List Entry). IsCounted begin l c.step.new.self) (sym items)
          (turn-counted begin c.args.self.now.core c.step.new.self h e (told_of c.in-Ok-step.answered c.step.new.out) stands c.in-Ok-step.ensures.step c.args.self.now.counted);
      faultless = subst (λ (l : List Entry). MeetsNoFaults begin l) (sym items) (turn-faultless begin c.args.self.now.core c.step.new.self h e (told_of c.in-Ok-step.answered c.step.new.out) c.in-Ok-step.ensures.step c.args.self.now.keepers c.args.self.now.faultless);
      keepers = turn-kept begin c.args.self.now.core c.step.new.self e (told_of c.in-Ok-step.answered c.step.new.out) c.in-Ok-step.ensures.step c.args.self.now.keepers;
    }

pub returns-in-Ok-step-clause-asked : goal.returns-in-Ok-step-clause-asked
returns-in-Ok-step-clause-asked g c =
    let begin = c.args.self.now.start.value.world in
    let h = c.args.self.now.entries.items in
    let e : Entry = entry c.args.now c.args.link c.args.ask c.in-Ok-step.outcome in
    let kept = ap (λ (a : Ask). entry c.args.now c.args.link a c.in-Ok-step.outcome) c.in-Ok.ensures in
    let items = c.push_reserved.ensures.items ∙ (λ i. c.reserve.ensures.items i ++ kept i ∷ []) in
    let t = c.in-Ok-step.ensures.step in
    let none : h ≡ h ++ [] = sym (append-nil h) in
    asked-adds _ _ c.args.now c.args.link c.args.ask (told_of c.in-Ok-step.answered c.step.new.out) (answer-told c.args.self.now.core.world e (told_of c.in-Ok-step.answered c.step.new.out) t.serial) record {
      between = [];
      outcome = c.in-Ok-step.outcome;
      start = refl;
      history = items ∙ ap (λ (l : List Entry). l ++ e ∷ []) none;
      mine = ap (λ (l : List Entry). upto (length l)) items ∙ upto-longer h e ∙ ap (λ (l : List Entry). upto (length h) ++ length l ∷ []) none;
      serial = turn-tells begin h c.args.self.now.core c.step.new.self e (told_of c.in-Ok-step.answered c.step.new.out) c.args.self.now.stands t ∙ ap (λ (l : List Entry). answer (stand begin l) e) none;
      faults = turn-faults c.args.self.now.core c.step.new.self e (told_of c.in-Ok-step.answered c.step.new.out) t;
    }

pub returns-in-Ok-step-clause-answers : goal.returns-in-Ok-step-clause-answers
returns-in-Ok-step-clause-answers g c =
    let e : Entry = entry c.args.now c.args.link c.args.ask c.in-Ok-step.outcome in
    ap (is_answer_to c.args.ask) c.in-Ok-step.ensures.step.serial ∙ answer-kind c.args.self.now.core.world e

pub returns-in-Ok-step-clause-size : goal.returns-in-Ok-step-clause-size
returns-in-Ok-step-clause-size g c =
    let begin = c.args.self.now.start.value.world in
    let h = c.args.self.now.entries.items in
    let e : Entry = entry c.args.now c.args.link c.args.ask c.in-Ok-step.outcome in
    let sound = subst IsSound (sym c.args.self.now.stands) (stood-sound begin h c.args.self.now.sound c.args.self.now.lawful) in
    ap fits_frame c.in-Ok-step.ensures.step.serial ∙ answer-fits c.args.self.now.core.world e sound c.in-Ok-step.ensures.step.legal
