use Rattle.std.proofs.Common.{List, ℕ, ◌+◌, min, length, ap, ◌∙◌, arith}
use Rattle.capture_log.specs.lemma.Gathering.{ReaderState}
use Rattle.capture_log.proofs.GatheringLemmas.{too-long}
use Rattle.capture_log.proofs.reader.Reader.is_too_long.Goals as goal

pub returns : goal.returns
returns g c =
    too-long (length c.args.self.now.held) c.args.more c.saturating_add.result 18446744073709551615
    (c.saturating_add.ensures ∙ ap (λ (l : List ℕ). min (length l + c.args.more) 18446744073709551615) (c.as_slice.ensures ∙ ap (λ (x : ReaderState). x.held) c.self.view_is))
    (omega arith)
