use Rattle.std.proofs.Common.{◌≡◌, ◌∙◌, ap, sym, subst, ◌<◌, ◌^◌, Bool, ◌++◌, ◌+◌, ◌-◌, length, take, drop, arith}
use Rattle.byteorder.specs.Endian.{big_bytes}
use Rattle.afp_replies.specs.Bytes.{width}
use Rattle.volume_spec.specs.Enumerate.{ListAsked, entry_size}
use Rattle.volume_keeper.proofs.OfReplies.EntryBytes.{body-front, body-size, body-room, entry-put, length-told, size-is}
use Rattle.volume_keeper.specs.replies.lemma.Filling.{can_follow}
use Rattle.volume_tree.specs.Shown.{opened}
use Rattle.volume_keeper.proofs.replies.entry.put_entry.Goals as goal

pub overflow_sub-size : goal.overflow_sub-size
overflow_sub-size c =
    let row = c.requires.node.0 in
    let size = body-size c.args.volume.now.state.rows (opened c.args.opens.now) c.args.asked.now row c.args.out.now c.put_body.new.out (c.in-Ok.ensures.ok row c.requires.node.1) in
    let before = ap length c.as_slice-before.ensures in
    let after = ap length c.as_slice.ensures in
    omega arith

pub returns-then-not-can_follow-clause-ok : goal.returns-then-not-can_follow-clause-ok
returns-then-not-can_follow-clause-ok c row of_row =
    let size = body-size c.args.volume.now.state.rows (opened c.args.opens.now) c.args.asked.now row c.args.out.now c.put_body.new.out (c.in-Ok.ensures.ok row of_row) in
    let is = size-is c.as_slice-before.result.now c.as_slice.result.now c.args.out.now c.put_body.new.out (entry_size c.args.volume.now.state.rows (opened c.args.opens.now) c.args.asked.now row) c.as_slice-before.ensures c.as_slice.ensures size in (
      ap (can_follow c.args.asked.now c.args.used) (sym is) ∙ sym c.can_follow.ensures ∙ c.if-not-can_follow.true,
      c.truncate-then-not-can_follow.ensures ∙ ap (λ n. take n c.put_body.new.out) (ap length c.as_slice-before.ensures)
          ∙ body-front c.args.volume.now.state.rows (opened c.args.opens.now) c.args.asked.now row c.args.out.now c.put_body.new.out (c.in-Ok.ensures.ok row of_row),
    )

pub put_length-requires-clause-inside : goal.put_length-requires-clause-inside
put_length-requires-clause-inside c =
    let row = c.requires.node.0 in
    let room = body-room c.args.volume.now.state.rows (opened c.args.opens.now) c.args.asked.now row c.args.out.now c.put_body.new.out (c.in-Ok.ensures.ok row c.requires.node.1) in
    let before = ap length c.as_slice-before.ensures in
    let wide = ap (λ (a : ListAsked). width a.wide) c.asked.view_is in
    omega arith

pub put_length-requires-clause-fits : goal.put_length-requires-clause-fits
put_length-requires-clause-fits c =
    let told = length-told c.args.asked.now c.args.used _ (sym c.can_follow.ensures ∙ c.if-not-can_follow.false) in
    subst (λ (w : Bool). length c.as_slice.result.now - length c.as_slice-before.result.now < 256 ^ width w) (sym (ap (λ (a : ListAsked). a.wide) c.asked.view_is)) told

pub returns-clause-ok : goal.returns-clause-ok
returns-clause-ok c row of_row =
    let size = body-size c.args.volume.now.state.rows (opened c.args.opens.now) c.args.asked.now row c.args.out.now c.put_body.new.out (c.in-Ok.ensures.ok row of_row) in
    let is = size-is c.as_slice-before.result.now c.as_slice.result.now c.args.out.now c.put_body.new.out (entry_size c.args.volume.now.state.rows (opened c.args.opens.now) c.args.asked.now row) c.as_slice-before.ensures c.as_slice.ensures size in
    let wide : c.asked.inside.wide ≡ c.args.asked.now.wide = ap (λ (a : ListAsked). a.wide) c.asked.view_is in (
      ap (can_follow c.args.asked.now c.args.used) (sym is) ∙ sym c.can_follow.ensures ∙ c.if-not-can_follow.false,
      ap (λ n. c.args.used + n) is,
      c.put_length.ensures
          ∙ (λ i. take (ap length c.as_slice-before.ensures i) c.put_body.new.out ++ big_bytes (width (wide i)) (length c.as_slice.result.now - length c.as_slice-before.result.now) ++ drop (ap length c.as_slice-before.ensures i + width (wide i)) c.put_body.new.out)
          ∙ entry-put c.args.volume.now.state.rows (opened c.args.opens.now) c.args.asked.now row c.args.out.now c.put_body.new.out (c.in-Ok.ensures.ok row of_row) (length c.as_slice.result.now - length c.as_slice-before.result.now) is,
    )
