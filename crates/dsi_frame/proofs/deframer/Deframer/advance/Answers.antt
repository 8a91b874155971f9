use Rattle.std.proofs.Common.{arith, ◌≡◌, ◌+◌, ◌++◌, ap, ◌∙◌, length, take, drop}
use Rattle.dsi_frame.specs.Buffered.{Buffered}
use Rattle.dsi_frame.specs.Frame.{payload_length_in}
use Rattle.dsi_frame.proofs.FrameLemmas.{begins-good, length-spelling}
use Rattle.dsi_frame.proofs.BufferLemmas.{advanced, length-held}
use Rattle.dsi_frame.proofs.deframer.Deframer.advance.Goals as goal

pub returns : goal.returns
returns c = λ f first more s same.
    let good = begins-good c.args.self.now.rest f (record { first = first; more = more; whole = same; spelling = s }) in
    let size : c.payload_length-length.result ≡ length f.payload = c.payload_length-length.ensures.value ∙ ap payload_length_in c.bytes.ensures.bytes ∙ good.size in
    let all = length-spelling first f s in
    let held : take c.self.inside.held (drop c.self.inside.start c.self.inside.buffer.items) ≡ first ++ more = ap (λ (b : Buffered). b.rest) c.self.view_is ∙ same in
    let place : c.self.inside.place ≡ c.args.self.now.place = ap (λ (b : Buffered). b.place) c.self.view_is in
    advanced c.self.inside.buffer.items first more c.self.inside.start c.self.inside.held (16 + c.payload_length-length.result) c.self.inside.place c.args.self.now.place c.args.self.now
    (omega (arith, size, all)) place held
    (omega (arith, length-held c.self.inside.buffer.items c.self.inside.start c.self.inside.held (omega arith), ap length held, ap length same, ap length c.bytes.ensures.bytes))
