use Rattle.std.proofs.Common.{◌∙◌, ap, ◌++◌, List, ℕ}
use Rattle.byteorder.specs.Endian.{big_bytes}
use Rattle.afp_serial.specs.Token.{session_token}
use Rattle.afp_core_state.specs.KeptWorld.{KeptWorld}
use Rattle.afp_core_state.proofs.SessionLemmas.{session_of-number}
use Rattle.afp_core_calls.proofs.OfSession.TokenLemmas.{token-runs}
use Rattle.afp_core_calls.proofs.session.session_token.get_session_token.Goals as goal

pub returns : goal.returns
returns g c = λ kind stamp id s at.
    token-runs c.args.state.now s c.args.session.0 kind stamp id _ c.done.result (session_of-number c.args.state.now.world.sessions c.args.session.0 s at)
    (c.in_ok-extend.ensures.ok
    ∙ ap (λ (b : List ℕ). b ++ c.token-token.result) (c.in_ok-push_u32.ensures.ok ∙ ap (λ (b : List ℕ). b ++ big_bytes 4 16) c.new-block.ensures)
    ∙ ap (λ (t : List ℕ). big_bytes 4 16 ++ t) (c.token-token.ensures ∙ ap (λ (k : KeptWorld). session_token k.world.house.token_key c.args.session.0) c.state.view_is))
    c.done.ensures
