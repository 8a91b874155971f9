use Rattle.afp_server.proofs.OfLink.Completeness.{complete}
use Rattle.afp_server.proofs.link.laws.each_request_has_its_reply.Goals as goal

pub returns : goal.returns
returns c =
    complete (record { same = c.one_frame.ensures.frame; parted = c.one_frame.ensures.bytes; exclusive = c.one_stream.ensures.exclusive; one_rest = c.one_stream.ensures.one_rest })
