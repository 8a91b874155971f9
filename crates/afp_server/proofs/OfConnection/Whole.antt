-- A link that was served in turns, as a whole.
use Rattle.std.proofs.Common.{◌≡◌, ℕ, List, [], ◌++◌, refl, sym, subst}
use Rattle.afp_serial.specs.Shown.{Shown}
use Rattle.afp_serial.specs.History.{own}
use Rattle.afp_serial.specs.Went.{Step, Went, steps_of, answered}
use Rattle.afp_serial.proofs.Grows.{went-join}
use Rattle.afp_server.specs.link.LinkRun.{RunsTo}
use Rattle.afp_server.specs.connection.Turn.{shown_to}
use Rattle.afp_server.specs.connection.Whole.{IsServedWhole}
use Rattle.afp_server.proofs.OfLink.Passing.{through-more, parts-calls}
use Rattle.afp_server.proofs.OfConnection.Turning.{turn-own}

pub is_served_whole : IsServedWhole
is_served_whole house passed start a b c answer stage link mine parting block shown fresh e parts w =
    let began : Went (shown_to [] a) e.asked (shown_to mine b) = subst (λ (x : Shown). Went x e.asked (shown_to mine b)) shown e.went in
    let whole : Went (shown_to [] a) (e.asked ++ parting) (shown_to (mine ++ w.places) c) =
    went-join (shown_to [] a) (shown_to mine b) (shown_to (mine ++ w.places) c) e.asked parting began (turn-own b c parting mine w) in record {
      fresh = start.link;
      is_fresh = fresh;
      answer = answer;
      steps = e.asked ++ parting;
      served = record {
        asked = e.asked;
        parting = parting;
        stage = stage;
        comes = subst (λ (x : List ℕ). RunsTo x start.turns start.link answer stage link e.asked) block e.comes;
        parts = parts;
        all = refl;
      };
      told = subst (λ (ks : List ℕ). steps_of (own a.start c.history ks) ≡ answered (e.asked ++ parting)) (sym whole.mine) whole.told;
      passes = record { log = passed; through = through-more answer passed e.asked parting e.through (parts-calls stage link.now parting parts) };
    }
