use Rattle.std.proofs.Common.{◌≡◌, ◌∙◌, ap, sym, refl, subst, List, length}
use Rattle.afp_serial.specs.History.{faults_in, is_lawful, stand}
use Rattle.afp_serial.specs.Sound.{IsSound}
use Rattle.afp_serial.specs.declared.ask.Entry.{Entry}
use Rattle.afp_serial.proofs.StaysSound.{stand-sound}
use Rattle.afp_core.specs.turns.ServerState.{ServerState}
use Rattle.afp_core.specs.turns.Sureness.{AreSure, SureKept}
use Rattle.afptool_lib.proofs.teller.teller.SureTeller.new.Goals as goal

pub invariant_of-result : goal.invariant_of-result
invariant_of-result g c =
    let none = c.new.ensures in
    let start : c.of.result.value ≡ c.args.core = c.of.ensures in
    let w = c.of.result.value.world in
    let sound : IsSound w = subst (λ (s : ServerState). IsSound s.world) (sym start) c.counts-sound.ensures.sound in
    let lawful = ap (λ (l : List Entry). is_lawful w l) none in
    record {
      sure = subst (λ (s : ServerState). AreSure s) (sym start) c.requires;
      sound = sound;
      lawful = lawful;
      sound_at = stand-sound w c.new.result.items sound lawful;
      stands = ap (λ (s : ServerState). s.world) (sym start) ∙ ap (λ (l : List Entry). stand w l) (sym none);
      keepers = subst (λ (s : ServerState). SureKept s c.args.core) (sym start) (record { many = refl; sure = refl; stand = λ i e. refl });
      faultless = ap faults_in none;
      counted = sym (ap (λ (l : List Entry). length l) none);
    }
