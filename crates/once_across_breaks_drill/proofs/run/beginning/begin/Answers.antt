use Rattle.std.proofs.lemmas.Result.{IfOk-weaker}
use Rattle.afp_serial.specs.Token.{session_token}
use Rattle.capture_made.specs.requests.Requests.{open_volume}
use Rattle.once_across_breaks_drill.specs.run.lemma.Going.{AsksVolume}
use Rattle.once_across_breaks_drill.proofs.OfRun.Ending.{begins}
use Rattle.once_across_breaks_drill.proofs.run.beginning.begin.Goals as goal

pub ask_volume-requires : goal.ask_volume-requires
ask_volume-requires g c = (session_token c.args.house.now.token_key 1, c.in_ok-linked.ensures.linked)

pub tell-requires : goal.tell-requires
tell-requires g c = let k = session_token c.args.house.now.token_key 1 in (k, 3, 4, open_volume, (c.in_ok-asked.ensures k c.in_ok-linked.ensures.linked).waits)

pub returns : goal.returns
returns g c =
    let k = session_token c.args.house.now.token_key 1 in
    let asked : AsksVolume k c.in_ok-linked.linked c.in_ok-asked.asked = c.in_ok-asked.ensures k c.in_ok-linked.ensures.linked in
    IfOk-weaker c.tell.result _ _
    (λ a y. begins c.args.house.now c.args.now c.in_ok-linked.linked c.in_ok-asked.asked a (g.T.Teller.shown c.open_first.new.teller) (g.T.Teller.shown c.tell.new.teller)
    c.in_ok-linked.ensures asked (y k 3 4 open_volume asked.waits))
    c.tell.ensures
