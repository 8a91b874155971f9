use Rattle.std.proofs.Common.{◌≡◌, ◌∙◌, ◌+◌, ◌-◌, length, vec_capacity, reverse, refl, sym, ap, subst, arith}
use Rattle.std.proofs.lemmas.List.{reverse-reverse}
use Rattle.fork_bytes.specs.lemma.Kept.{with_puts, Fits}
use Rattle.fork_bytes.proofs.Applies.{next, has_room, all_done}
use Rattle.fork_bytes.proofs.apply.put_all.Goals as goal

pub put-requires-clause-rising : goal.put-requires-clause-rising
put-requires-clause-rising c = c.loop-turn.invariant.left.rising

pub put-requires-clause-room : goal.put-requires-clause-room
put-requires-clause-room c =
    let l = c.loop-turn in
    let len : c.len-last.result - 1 + 1 ≡ length l.rest.items =
    omega (arith, c.len-last.ensures, l.rest.ok.0, l.invariant.count, c.loop-turn-test.true, c.len-turn-end.ensures, c.reverse.new.self.ok.0) in
    omega (arith, l.invariant.capacity, has_room _ l.rest.items l.blocks.items _ (c.len-last.result - 1) c.remove.result len c.remove.ensures.value l.invariant.left)

pub loop-turn-init : goal.loop-turn-init
loop-turn-init c = record {
  left = record {
    rising = c.requires.rising;
    room = subst (λ r. Fits (vec_capacity c.args.blocks.now) r c.args.blocks.now.items) (sym (ap reverse c.reverse.ensures.items ∙ reverse-reverse c.args.changes.items)) c.requires.room;
    same = refl;
  };
  capacity = omega arith;
  count = omega arith;
}

pub loop-turn-preserved : goal.loop-turn-preserved
loop-turn-preserved c =
    let l = c.loop-turn in
    let len : c.len-last.result - 1 + 1 ≡ length l.rest.items =
    omega (arith, c.len-last.ensures, l.rest.ok.0, l.invariant.count, c.loop-turn-test.true, c.len-turn-end.ensures, c.reverse.new.self.ok.0) in
    record {
      left = next _ l.rest.items c.remove.new.self.items l.blocks.items c.put.new.blocks.items _ (c.len-last.result - 1) c.remove.result len c.remove.ensures.value c.remove.ensures.items c.put.ensures.items l.invariant.left;
      capacity = omega (arith, l.invariant.capacity, c.put.ensures.room);
      count = omega (arith, l.invariant.count, c.remove.ensures.len, c.remove.new.self.ok.0, l.rest.ok.0);
    }

pub returns-clause-items : goal.returns-clause-items
returns-clause-items c =
    let l = c.loop-turn in
    all_done _ l.rest.items l.blocks.items _ (omega (arith, l.invariant.count, c.loop-turn-test.false, c.len-turn-end.ensures, c.reverse.new.self.ok.0)) l.invariant.left
    ∙ ap (λ r. with_puts r c.args.blocks.now.items) (ap reverse c.reverse.ensures.items ∙ reverse-reverse c.args.changes.items)
