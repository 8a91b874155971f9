use Rattle.std.proofs.Common.{List, ℕ, ◌++◌, take, drop, length, length-drop, ap, sym, ◌∙◌, arith}
use Rattle.std.proofs.lemmas.List.{length-take-le}
use Rattle.dsi_frame.specs.declared.frame.Header.{Header}
use Rattle.dsi_frame.specs.Frame.{canonical_header}
use Rattle.afp_server.proofs.OfLink.Buffers.{header-put}
use Rattle.afp_server.proofs.link.reply.put_header.Goals as goal

pub copy_from_slice-requires : goal.copy_from_slice-requires
copy_from_slice-requires c = length-take-le 16 c.args.buffer.now (omega arith) ∙ sym (ap length c.header_bytes.ensures)

pub returns-clause-bytes : goal.returns-clause-bytes
returns-clause-bytes c =
    let behind : List ℕ = drop 16 c.args.buffer.now in
    let payload : List ℕ = take c.args.size behind in
    header-put c.copy_from_slice.new.self c.args.buffer.now 16 c.args.size (ap length c.copy_from_slice.ensures.after ∙ ap length c.header_bytes.ensures)
    ∙ ap (λ (h : List ℕ). h ++ payload) (c.copy_from_slice.ensures.after ∙ c.header_bytes.ensures)
    ∙ ap (λ (h : Header). canonical_header h ++ payload) (c.reply_header-header.ensures payload (length-take-le c.args.size behind (omega (arith, length-drop 16 c.args.buffer.now))))
