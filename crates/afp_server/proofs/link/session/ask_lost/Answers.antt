use Rattle.std.proofs.Common.{[], ◌∷◌, refl, sym, subst}
use Rattle.afp_serial.specs.declared.ask.Ask.TheVariants as asks
use Rattle.afp_serial.specs.Answered.{told_of}
use Rattle.afp_serial.specs.Shown.{Shown}
use Rattle.afp_serial.specs.Went.{step}
use Rattle.afp_serial.proofs.Grows.{went-one, went-none}
use Rattle.afp_server.specs.link.Wire.{PartsBy}
use Rattle.afp_server.specs.declared.link.stage.Stage.{Stage}
use Rattle.afp_server.proofs.link.session.ask_lost.Goals as goal

pub returns-in-Open-clause-parts : goal.returns-in-Open-clause-parts
returns-in-Open-clause-parts g c =
    let a : Shown = g.T.Teller.shown c.args.teller.now in
    let b : Shown = g.T.Teller.shown c.ask_bare.new.teller in
    subst (λ (stage : Stage). PartsBy stage c.args.now a b) (sym c.in-Open.is) record {
      steps = step c.args.now c.in-Open.link asks.Lost (told_of c.ask_bare.result []) ∷ [];
      parts = (told_of c.ask_bare.result [], refl);
      went = went-one a b c.args.now c.in-Open.link asks.Lost (told_of c.ask_bare.result []) c.ask_bare.ensures.asked;
    }

pub returns-in-Fresh-clause-parts : goal.returns-in-Fresh-clause-parts
returns-in-Fresh-clause-parts g c =
    let a : Shown = g.T.Teller.shown c.args.teller.now in
    subst (λ (stage : Stage). PartsBy stage c.args.now a a) (sym c.in-Fresh.is) record { steps = []; parts = refl; went = went-none a }

pub returns-in-Closing-clause-parts : goal.returns-in-Closing-clause-parts
returns-in-Closing-clause-parts g c =
    let a : Shown = g.T.Teller.shown c.args.teller.now in
    subst (λ (stage : Stage). PartsBy stage c.args.now a a) (sym c.in-Closing.is) record { steps = []; parts = refl; went = went-none a }
