use Rattle.std.proofs.Common.{ap, ◌∙◌}
use Rattle.std.specs.Prelude.{◌||◌, ◌&&◌, ◌==◌, bytes_eq}
use Rattle.volume_keeper_records.specs.lemma.Judged.{has_seen}
use Rattle.volume_keeper_records.proofs.SeenLemmas.{seen_more}
use Rattle.volume_keeper_records.proofs.judge.is_new.Goals as goal

pub returns-clause-seen : goal.returns-clause-seen
returns-clause-seen c = λ named p key.
    seen_more c.args.seen.now c.insert.new.self (c.args.parent, c.in_ok-key.key) c.in-Ok.ensures.keys p key
    ∙ ap (λ k. ((p == c.args.parent) && bytes_eq key k) || has_seen c.args.seen.now p key) (c.in_ok-key.ensures named)
