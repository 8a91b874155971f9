use Rattle.std.proofs.Common.{arith, subst, ℕ, ◌+◌, ◌≡◌, take, drop, ◌-◌}
use Rattle.afp_outside.specs.ends.Link.{Reads}
use Rattle.dsi_frame.proofs.Filling.{fills}
use Rattle.dsi_frame.proofs.deframer.read_behind.Goals as goal

pub returns : goal.returns
returns g c =
    let end : ℕ = c.make_room-start.result + c.args.held in
    let same : (end + c.min-size.result) - end ≡ c.min-size.result = omega arith in
    record {
      reads =
          fills c.args.most c.min-size.result (g.L.Link.link_state c.args.link.now) (g.L.Link.link_state c.read_into-gave.new.link) c.make_room-start.result c.args.held c.args.start c.args.buffer.now c.make_room-start.new.buffer c.read_into-gave.new.buffer
          (omega arith) (omega arith) c.read_into-gave.ensures.size c.read_into-gave.ensures.same c.make_room-start.ensures.same c.read_into-gave.result
          (subst (λ (k : ℕ). Reads (g.L.Link.link_state c.args.link.now) (take k (drop end c.read_into-gave.new.buffer)) c.read_into-gave.result (g.L.Link.link_state c.read_into-gave.new.link)) same c.read_into-gave.ensures.reads);
    }
