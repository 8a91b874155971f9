use Rattle.std.proofs.Common.{ap, length}
use Rattle.volume_spec.specs.Enumerate.{ListAsked, list_head}
use Rattle.volume_keeper.proofs.OfReplies.ListBytes.{list-bytes}
use Rattle.volume_keeper.specs.replies.lemma.Filling.{filled}
use Rattle.volume_tree.specs.Shown.{opened}
use Rattle.volume_keeper.proofs.replies.lists.put_list.Goals as goal

pub returns-clause-bytes : goal.returns-clause-bytes
returns-clause-bytes c =
    list-bytes c.args.volume.now.state.rows (opened c.args.opens.now) c.args.asked.now
    (filled c.args.volume.now.state.rows (opened c.args.opens.now) c.args.asked.now c.args.dir.0 c.args.first list_head c.args.asked.now.count)
    c.args.out.now c.push_u16.new.self c.push_u16-2.new.self c.push_u16-3.new.self c.fill.new.out c.put_u16.new.self
    c.asked.inside.file_bits c.asked.inside.dir_bits c.in_ok-count.count (length c.as_slice-at.result.now)
    (ap (λ (a : ListAsked). a.file_bits) c.asked.view_is) (ap (λ (a : ListAsked). a.dir_bits) c.asked.view_is)
    c.in_ok-push_u16.ensures.ok c.in_ok-push_u16-2.ensures.ok (ap length c.as_slice-at.ensures) c.in_ok-push_u16-3.ensures.ok c.in_ok-count.ensures.bytes c.in_ok-count.ensures.count c.put_u16.ensures
