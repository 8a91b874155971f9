use Rattle.std.proofs.Common.{arith, subst, ℕ, ◌+◌, ◌≡◌, take, drop, ◌-◌}
use Rattle.afp_outside.specs.ends.Ready.{ReadsReady}
use Rattle.dsi_frame.proofs.Filling.{fills-ready}
use Rattle.dsi_frame.proofs.deframer.read_ready_behind.Goals as goal

pub returns : goal.returns
returns g c =
    let end : ℕ = c.make_room-start.result + c.args.held in
    let same : (end + c.min-size.result) - end ≡ c.min-size.result = omega arith in
    record {
      reads =
          fills-ready c.args.most c.min-size.result (g.L.ReadyLink.link_state c.args.link.now) (g.L.ReadyLink.link_state c.read_ready_into-gave.new.link) c.make_room-start.result c.args.held c.args.start c.args.buffer.now c.make_room-start.new.buffer c.read_ready_into-gave.new.buffer
          (omega arith) (omega arith) c.read_ready_into-gave.ensures.size c.read_ready_into-gave.ensures.same c.make_room-start.ensures.same c.read_ready_into-gave.result
          (subst (λ (k : ℕ). ReadsReady (g.L.ReadyLink.link_state c.args.link.now) (take k (drop end c.read_ready_into-gave.new.buffer)) c.read_ready_into-gave.result (g.L.ReadyLink.link_state c.read_ready_into-gave.new.link)) same c.read_ready_into-gave.ensures.reads);
    }
