use Rattle.std.proofs.Common.{◌≡◌, List, ℕ, length, drop, ap, sym, ◌∙◌, subst, arith}
use Rattle.afp_serial.specs.Answered.{told_of}
use Rattle.afp_serial.specs.Shown.{Asked}
use Rattle.afp_server.proofs.OfLink.Buffers.{refilled}
use Rattle.afp_server.proofs.link.session.LinkSession.ask.Goals as goal

pub returns-clause-asked : goal.returns-clause-asked
returns-clause-asked g c =
    let size : length c.ask_behind.new.buffer ≡ 131088 = c.ask_behind.ensures.length ∙ ap length c.as_mut_slice.ensures.value ∙ c.self.invariant.1 in
    subst (λ (bytes : List ℕ). Asked (g.T.Teller.shown c.args.teller.now) c.args.now c.args.link c.args.ask (told_of c.ask_behind.result (drop 16 bytes)) (g.T.Teller.shown c.ask_behind.new.teller))
    (sym (refilled 131088 c.self.inside.buffer.len c.self.inside.buffer.items c.ask_behind.new.buffer (size ∙ sym c.self.invariant.1 ∙ sym c.self.inside.buffer.ok.0) (omega (arith, size)))) c.ask_behind.ensures.asked

pub returns-clause-room : goal.returns-clause-room
returns-clause-room g c =
    let size : length c.ask_behind.new.buffer ≡ 131088 = c.ask_behind.ensures.length ∙ ap length c.as_mut_slice.ensures.value ∙ c.self.invariant.1 in
    ap length (refilled 131088 c.self.inside.buffer.len c.self.inside.buffer.items c.ask_behind.new.buffer (size ∙ sym c.self.invariant.1 ∙ sym c.self.inside.buffer.ok.0) (omega (arith, size))) ∙ size
