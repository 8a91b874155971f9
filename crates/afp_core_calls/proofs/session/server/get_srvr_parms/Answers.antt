use Rattle.std.proofs.Common.{◌∙◌, ◌++◌, ap, map}
use Rattle.std.specs.Prelude.{pos}
use Rattle.afp_replies.specs.Replies.{canonical_reply}
use Rattle.afp_replies.specs.declared.reply.Reply.TheVariants.{ServerParams}
use Rattle.afp_serial.specs.GetSrvrParms.{volume_entry}
use Rattle.afp_core_state.specs.KeptWorld.{KeptWorld}
use Rattle.afp_core_calls.proofs.OfSession.TellingLemmas.{parms-runs}
use Rattle.afp_core_calls.proofs.session.server.get_srvr_parms.Goals as goal

pub returns : goal.returns
returns g c = λ number s at.
    parms-runs c.args.state.now s _ c.put_server_parms.new.block
    (c.in_ok-put_server_parms.ensures
    ∙ (λ i. c.new-block.ensures i ++ canonical_reply (ServerParams (pos c.state.inside.latest) (map volume_entry (c.volumes.ensures.value i))))
    ∙ ap (λ (k : KeptWorld). canonical_reply (ServerParams (pos k.world.latest) (map volume_entry k.world.house.volumes))) c.state.view_is)
    c.done.ensures
