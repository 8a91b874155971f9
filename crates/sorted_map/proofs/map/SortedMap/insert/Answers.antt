use Rattle.std.proofs.Common.{◌≡◌, ◌∙◌, refl, sym, ap}
use Rattle.std.specs.Prelude.{Some, None}
use Rattle.sorted_map.specs.map.Entries.{at}
use Rattle.sorted_map.proofs.OfMap.Places.{got_none, put_over, order_over, put_new, order_new, updated, taken_value, on_err}
use Rattle.sorted_map.proofs.map.SortedMap.insert.Goals as goal

pub invariant_of-self : goal.invariant_of-self
invariant_of-self g c = order_over g.met.K.Ord.total c.as_slice.ensures.value c.self.invariant c.in-Ok.ensures.found c.index_mut.result.now c.index_mut.ensures.value c.replace-old.new.dest

pub returns-in-Ok-clause-old : goal.returns-in-Ok-clause-old
returns-in-Ok-clause-old g c = ap Some c.replace-old.ensures.value ∙ taken_value g.met.K.Ord.total c.as_slice.ensures.value c.self.invariant c.in-Ok.ensures.found c.index_mut.result.now c.index_mut.ensures.value ∙ ap (λ l. at g.K.Ord.cmp l c.args.key) c.self.view_is

pub returns-in-Ok-clause-entries : goal.returns-in-Ok-clause-entries
returns-in-Ok-clause-entries g c = put_over g.met.K.Ord.total c.as_slice.ensures.value c.self.view_is c.self.invariant c.in-Ok.ensures.found c.index_mut.result.now c.index_mut.ensures.value c.replace-old.new.dest c.args.value c.replace-old.ensures.after

pub returns-in-Ok-clause-updates : goal.returns-in-Ok-clause-updates
returns-in-Ok-clause-updates g c = updated g.met.K.Ord.total c.args.self.now c.args.key c.args.value (put_over g.met.K.Ord.total c.as_slice.ensures.value c.self.view_is c.self.invariant c.in-Ok.ensures.found c.index_mut.result.now c.index_mut.ensures.value c.replace-old.new.dest c.args.value c.replace-old.ensures.after)

pub invariant_of-self-in-Err : goal.invariant_of-self-in-Err
invariant_of-self-in-Err g c = order_new g.met.K.Ord.total c.self.inside.entries.items c.args.key c.args.value c.self.invariant (put_new g.met.K.Ord.total c.args.key c.args.value c.as_slice.ensures.value refl c.in-Err.ensures.absent c.in_ok-insert-in-Err.ensures.items)

pub returns-in_ok-insert-in-Err-clause-old : goal.returns-in_ok-insert-in-Err-clause-old
returns-in_ok-insert-in-Err-clause-old g c = got_none g.met.K.Ord.total c.as_slice.ensures.value c.self.view_is c.in-Err.ensures.absent

pub returns-in_ok-insert-in-Err-clause-entries : goal.returns-in_ok-insert-in-Err-clause-entries
returns-in_ok-insert-in-Err-clause-entries g c = put_new g.met.K.Ord.total c.args.key c.args.value c.as_slice.ensures.value c.self.view_is c.in-Err.ensures.absent c.in_ok-insert-in-Err.ensures.items

pub returns-in_ok-insert-in-Err-clause-updates : goal.returns-in_ok-insert-in-Err-clause-updates
returns-in_ok-insert-in-Err-clause-updates g c = updated g.met.K.Ord.total c.args.self.now c.args.key c.args.value (put_new g.met.K.Ord.total c.args.key c.args.value c.as_slice.ensures.value c.self.view_is c.in-Err.ensures.absent c.in_ok-insert-in-Err.ensures.items)

pub returns-in_err-insert-in-Err-clause-absent : goal.returns-in_err-insert-in-Err-clause-absent
returns-in_err-insert-in-Err-clause-absent g c = on_err c.from_residual.result (at g.K.Ord.cmp c.args.self.now c.args.key ≡ None) (sym (got_none g.met.K.Ord.total c.as_slice.ensures.value c.self.view_is c.in-Err.ensures.absent))
