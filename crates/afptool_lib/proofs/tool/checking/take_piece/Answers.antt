use Rattle.afptool_lib.proofs.OfTool.CheckLemmas.{fed-whole}
use Rattle.afptool_lib.proofs.tool.checking.take_piece.Goals as goal

pub returns : goal.returns
returns g c = λ start bytes p.
    c.print_frames.ensures start _
    (fed-whole start (g.O.Sink.sink_state c.args.out.now) bytes c.args.piece.now c.args.deframer.now c.feed.new.self c.feed.result p c.feed.ensures.taken c.requires.room c.feed.ensures.rest c.feed.ensures.place)
