use Rattle.std.proofs.Common.{◌∙◌, ◌++◌, ap, length, List, ℕ}
use Rattle.byteorder.specs.Endian.{big_bytes}
use Rattle.afp_core_calls.proofs.OfSession.TellingLemmas.{parms-put}
use Rattle.afp_core_calls.proofs.session.server.put_server_parms.Goals as goal

pub returns : goal.returns
returns c =
    parms-put c.put_volumes.result c.args.block.now _ c.put_volumes.new.block c.args.now c.args.volumes.now
    (c.in_ok-push_u8.ensures.ok
    ∙ ap (λ (b : List ℕ). b ++ big_bytes 1 (length c.args.volumes.now)) c.in_ok-push_u32.ensures.ok
    ∙ ap (λ (t : ℕ). c.args.block.now ++ big_bytes 4 t ++ big_bytes 1 (length c.args.volumes.now)) c.seconds.ensures.value)
    c.put_volumes.ensures
