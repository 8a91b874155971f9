-- A link that was served, and what becomes of it as the history goes on.
use Rattle.std.proofs.Common.{◌≡◌, ℕ, List, [], ◌++◌, length, refl, sym, ap, ◌∙◌, subst, ◌⊎◌, inl, inr}
use Rattle.afp_outside.specs.ends.Gate.{Passed}
use Rattle.afp_outside.specs.ends.Link.{LinkState, IsFresh}
use Rattle.afp_serial.specs.History.{own}
use Rattle.afp_serial.specs.Household.{Household}
use Rattle.afp_serial.specs.Shown.{Rising, Shown}
use Rattle.afp_serial.specs.StatusBlock.{status_block}
use Rattle.afp_serial.specs.Went.{Step, steps_of, answered}
use Rattle.afp_serial.specs.World.{World}
use Rattle.afp_serial.specs.declared.ask.Entry.{Entry}
use Rattle.afp_server.specs.connection.Connection.{IsServedUnheld, WasServed}
use Rattle.afp_server.specs.connection.Turn.{shown_to}
use Rattle.afp_server.specs.doors.Served.{ServedLink}
use Rattle.afp_server.specs.link.LinkRun.{IsServed}
use Rattle.afp_server.specs.link.Progress.{Start}
use Rattle.afp_server.specs.declared.link.serve.LinkEnd.{LinkEnd}
use Rattle.afp_server.proofs.OfDoors.Growing.{told-stays}
use Rattle.afp_server_table.specs.AtOnce.{ServedInTurns, ServedUnheld}

module _ {L A : Type 0} (state : L → LinkState) (passed : A → Passed) (house : Household) (turns : ℕ) where
  pub served-stays : (start : World) (h x : List Entry) (from : ℕ) (link : L) (ks : List ℕ) → Rising from ks (length h) → ServedInTurns state passed house turns start h link ks → ServedInTurns state passed house turns start (h ++ x) link ks
  served-stays start h x from link ks r (inl s) = inl record {
    fresh = s.fresh;
    is_fresh = s.is_fresh;
    answer = s.answer;
    steps = s.steps;
    served = s.served;
    told = told-stays start h x from ks (answered s.steps) r s.told;
    passes = s.passes;
  }
  served-stays start h x from link ks r (inr s) = inr record {
    fresh = s.fresh;
    is_fresh = s.is_fresh;
    answer = s.answer;
    steps = s.steps;
    served = s.served;
    told = told-stays start h x from ks (answered s.steps) r s.told;
    passes = s.passes;
  }

  -- a run that began fresh and with no place of its own
  pub served-whole : (world : World) (c : Shown) (start : Start) (link : L) (log : A) (answer : LinkEnd) (ks : List ℕ) → c.start ≡ world → start.block ≡ status_block house → start.turns ≡ turns
      → IsFresh start.link → start.shown.mine ≡ [] → WasServed passed start answer (state link) log (shown_to ks c) → ServedInTurns state passed house turns world c.history link ks
  served-whole world c start link log answer ks begins block most fresh mine was = by_cases was.served
    where
      places_are : ks ≡ was.went.places
      places_are = was.went.mine ∙ ap (λ (l : List ℕ). l ++ was.went.places) mine

      told_is : steps_of (own world c.history ks) ≡ answered was.steps
      told_is =
          ap (λ (l : List ℕ). steps_of (own world c.history l)) places_are
          ∙ ap (λ (w : World). steps_of (own w c.history was.went.places)) (sym begins ∙ was.went.start)
          ∙ was.went.told

      by_cases : IsServed start.block start.turns start.link answer (state link) was.steps ⊎ IsServedUnheld start.block start.turns start.link answer (state link) was.steps → ServedInTurns state passed house turns world c.history link ks
      by_cases (inl s) = inl record {
        fresh = start.link;
        is_fresh = fresh;
        answer = answer;
        steps = was.steps;
        served = subst (λ (n : ℕ). IsServed (status_block house) n start.link answer (state link) was.steps) most
            (subst (λ (b : List ℕ). IsServed b start.turns start.link answer (state link) was.steps) block s);
        told = told_is;
        passes = was.passes;
      }
      by_cases (inr s) = inr record {
        fresh = start.link;
        is_fresh = fresh;
        answer = answer;
        steps = was.steps;
        served = subst (λ (n : ℕ). IsServedUnheld (status_block house) n start.link answer (state link) was.steps) most
            (subst (λ (b : List ℕ). IsServedUnheld b start.turns start.link answer (state link) was.steps) block s);
        told = told_is;
        passes = was.passes;
      }
