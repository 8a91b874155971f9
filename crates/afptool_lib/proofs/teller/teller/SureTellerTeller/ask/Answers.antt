use Rattle.std.proofs.Common.{◌≡◌, ◌∙◌, ◌∷◌, ◌++◌, [], ap, sym, refl, subst, true, List, length, append-nil, length-append, arith}
use Rattle.afp_serial.specs.Answer.{answer}
use Rattle.afp_serial.specs.Answered.{told_of}
use Rattle.afp_serial.specs.History.{entry, faults_in, is_lawful, stand}
use Rattle.afp_serial.specs.Sound.{IsSound}
use Rattle.afp_serial.specs.Shown.{fits_frame, is_answer_to}
use Rattle.afp_serial.specs.declared.ask.Entry.{Entry}
use Rattle.afp_serial.specs.declared.ask.Outcome.TheVariants.{Done}
use Rattle.afp_serial.proofs.Grows.{asked-adds}
use Rattle.afp_serial.proofs.StaysSound.{answer-fits, answer-kind, stand-sound, stood-sound}
use Rattle.afp_core.specs.turns.Places.{upto}
use Rattle.afp_core.specs.turns.Turn.{Turned}
use Rattle.afp_core.specs.turns.lemma.Places.{upto-longer}
use Rattle.afp_core.proofs.OfTurns.TurnLemmas.{answer-told, turn-faults, turn-lawful, turn-stands, turn-tells, turn-kept}
use Rattle.afptool_lib.proofs.OfTeller.TellerLemmas.{turned_done, still_faultless}
use Rattle.afptool_lib.proofs.teller.teller.SureTellerTeller.ask.Goals as goal

pub invariant_of-self-in-Some-turn : goal.invariant_of-self-in-Some-turn
invariant_of-self-in-Some-turn g c =
    let begin = c.args.self.now.start.value in
    let h = c.args.self.now.log.items in
    let e : Entry = entry c.args.now c.args.link c.args.ask Done in
    let items = c.and-log.ensures in
    let stands = c.args.self.now.stands in
    let t : Turned c.args.self.now.core e (told_of c.in-Some-turn.answered c.turn.new.out) c.turn.new.core = turned_done begin c.args.self.now.core c.turn.new.core h c.args.now c.args.link c.args.ask (told_of c.in-Some-turn.answered c.turn.new.out) c.args.self.now.sure c.args.self.now.keepers c.args.self.now.faultless c.in-Some-turn.ensures.turns in
    let lawful = subst (λ (l : List Entry). is_lawful begin.world l ≡ true) (sym items) (turn-lawful begin.world h c.args.self.now.core c.turn.new.core e (told_of c.in-Some-turn.answered c.turn.new.out) stands t c.args.self.now.lawful) in
    record {
      sure = c.args.self.now.sure;
      sound = c.args.self.now.sound;
      sound_at = stand-sound begin.world c.and-log.result.items c.args.self.now.sound lawful;
      lawful = lawful;
      stands = turn-stands begin.world h c.args.self.now.core c.turn.new.core e (told_of c.in-Some-turn.answered c.turn.new.out) stands t ∙ ap (stand begin.world) (sym items);
      keepers = turn-kept begin c.args.self.now.core c.turn.new.core e (told_of c.in-Some-turn.answered c.turn.new.out) t c.args.self.now.keepers;
      faultless = ap faults_in items ∙ still_faultless begin c.args.self.now.core c.turn.new.core h e (told_of c.in-Some-turn.answered c.turn.new.out) c.args.self.now.sure c.args.self.now.keepers c.args.self.now.faultless t;
      counted = omega (arith, ap length items, length-append h (e ∷ []), c.args.self.now.counted, c.in-Some.ensures);
    }

pub returns-in-Some-turn-clause-asked : goal.returns-in-Some-turn-clause-asked
returns-in-Some-turn-clause-asked g c =
    let begin = c.args.self.now.start.value in
    let h = c.args.self.now.log.items in
    let e : Entry = entry c.args.now c.args.link c.args.ask Done in
    let items = c.and-log.ensures in
    let t : Turned c.args.self.now.core e (told_of c.in-Some-turn.answered c.turn.new.out) c.turn.new.core = turned_done begin c.args.self.now.core c.turn.new.core h c.args.now c.args.link c.args.ask (told_of c.in-Some-turn.answered c.turn.new.out) c.args.self.now.sure c.args.self.now.keepers c.args.self.now.faultless c.in-Some-turn.ensures.turns in
    let none : h ≡ h ++ [] = sym (append-nil h) in
    asked-adds _ _ c.args.now c.args.link c.args.ask (told_of c.in-Some-turn.answered c.turn.new.out) (answer-told c.args.self.now.core.world e (told_of c.in-Some-turn.answered c.turn.new.out) t.serial) record {
      between = [];
      outcome = Done;
      start = refl;
      history = items ∙ ap (λ (l : List Entry). l ++ e ∷ []) none;
      mine = ap (λ (l : List Entry). upto (length l)) items ∙ upto-longer h e ∙ ap (λ (l : List Entry). upto (length h) ++ length l ∷ []) none;
      serial = turn-tells begin.world h c.args.self.now.core c.turn.new.core e (told_of c.in-Some-turn.answered c.turn.new.out) c.args.self.now.stands t ∙ ap (λ (l : List Entry). answer (stand begin.world l) e) none;
      faults = turn-faults c.args.self.now.core c.turn.new.core e (told_of c.in-Some-turn.answered c.turn.new.out) t;
    }

pub returns-in-Some-turn-clause-answers : goal.returns-in-Some-turn-clause-answers
returns-in-Some-turn-clause-answers g c =
    let e : Entry = entry c.args.now c.args.link c.args.ask Done in
    let t : Turned c.args.self.now.core e (told_of c.in-Some-turn.answered c.turn.new.out) c.turn.new.core = turned_done c.args.self.now.start.value c.args.self.now.core c.turn.new.core c.args.self.now.log.items c.args.now c.args.link c.args.ask (told_of c.in-Some-turn.answered c.turn.new.out) c.args.self.now.sure c.args.self.now.keepers c.args.self.now.faultless c.in-Some-turn.ensures.turns in
    ap (is_answer_to c.args.ask) t.serial ∙ answer-kind c.args.self.now.core.world e

pub returns-in-Some-turn-clause-size : goal.returns-in-Some-turn-clause-size
returns-in-Some-turn-clause-size g c =
    let begin = c.args.self.now.start.value.world in
    let h = c.args.self.now.log.items in
    let e : Entry = entry c.args.now c.args.link c.args.ask Done in
    let t : Turned c.args.self.now.core e (told_of c.in-Some-turn.answered c.turn.new.out) c.turn.new.core = turned_done c.args.self.now.start.value c.args.self.now.core c.turn.new.core h c.args.now c.args.link c.args.ask (told_of c.in-Some-turn.answered c.turn.new.out) c.args.self.now.sure c.args.self.now.keepers c.args.self.now.faultless c.in-Some-turn.ensures.turns in
    let sound = subst IsSound (sym c.args.self.now.stands) (stood-sound begin h c.args.self.now.sound c.args.self.now.lawful) in
    ap fits_frame t.serial ∙ answer-fits c.args.self.now.core.world e sound t.legal
