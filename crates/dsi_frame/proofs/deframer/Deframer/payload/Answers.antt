use Rattle.std.proofs.Common.{arith, ◌≡◌, ◌+◌, ◌-◌, ap, ◌∙◌, take, drop, List, ℕ}
use Rattle.dsi_frame.specs.Frame.{payload_length_in}
use Rattle.dsi_frame.proofs.FrameLemmas.{begins-payload}
use Rattle.dsi_frame.proofs.deframer.Deframer.payload.Goals as goal

pub returns : goal.returns
returns c = λ f b.
    let size : 16 + c.payload_length-length.result - 16 ≡ payload_length_in c.bytes-bytes.result.now = omega arith in
    ap (λ (n : ℕ). take n (drop 16 c.bytes-bytes.result.now)) size
    ∙ ap (λ (l : List ℕ). take (payload_length_in l) (drop 16 l)) c.bytes-bytes.ensures.bytes
    ∙ begins-payload c.args.self.now.rest f b
