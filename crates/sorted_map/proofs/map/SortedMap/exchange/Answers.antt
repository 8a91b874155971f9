use Rattle.std.proofs.Common.{◌∙◌, ap, sym}
use Rattle.sorted_map.specs.map.Entries.{at, IsAt}
use Rattle.sorted_map.specs.map.lemma.Entries.{IsGapFor}
use Rattle.sorted_map.proofs.OfMap.Places.{order_first, order_two, order_three, order_four, exchanged_four, absent_b, absent_a, of_err, of_ok, got_none, none_exchanged, order_there, exchanged_there}
use Rattle.sorted_map.proofs.map.SortedMap.exchange.Goals as goal

pub invariant_of-self : goal.invariant_of-self
invariant_of-self g c =
    let at_a = of_ok c.find-at_a.result c.in-Ok-Ok.x (IsAt g.K.Ord.cmp c.as_slice.result.now c.args.a) c.in-Ok-Ok.is-0 c.find-at_a.ensures.found in
    let at_b = of_ok c.find-at_b.result c.in-Ok-Ok.y (IsAt g.K.Ord.cmp c.as_slice-2.result.now c.args.b) c.in-Ok-Ok.is-1 c.find-at_b.ensures.found in
    order_there g.met.K.Ord.total c.as_slice.ensures.value c.as_slice-2.ensures.value c.self.invariant at_a at_b c.swap_values.ensures

pub returns-in-Ok-Ok : goal.returns-in-Ok-Ok
returns-in-Ok-Ok g c =
    let at_a = of_ok c.find-at_a.result c.in-Ok-Ok.x (IsAt g.K.Ord.cmp c.as_slice.result.now c.args.a) c.in-Ok-Ok.is-0 c.find-at_a.ensures.found in
    let at_b = of_ok c.find-at_b.result c.in-Ok-Ok.y (IsAt g.K.Ord.cmp c.as_slice-2.result.now c.args.b) c.in-Ok-Ok.is-1 c.find-at_b.ensures.found in
    exchanged_there g.met.K.Ord.total c.as_slice.ensures.value c.as_slice-2.ensures.value c.self.view_is c.self.invariant at_a at_b c.swap_values.ensures

pub take-of_b-requires : goal.take-of_b-requires
take-of_b-requires g c = order_first g.met.K.Ord.total c.self.inside.entries.items c.args.a c.self.invariant c.take-of_a.ensures.entries

pub put-requires-clause-order : goal.put-requires-clause-order
put-requires-clause-order g c = order_two g.met.K.Ord.total (record { order = c.self.invariant; x_is = c.take-of_a.ensures.value; one_is = c.take-of_a.ensures.entries; y_is = c.take-of_b.ensures.value; two_is = c.take-of_b.ensures.entries })

pub put-requires-clause-absent : goal.put-requires-clause-absent
put-requires-clause-absent g c some = absent_b g.met.K.Ord.total (record { order = c.self.invariant; x_is = c.take-of_a.ensures.value; one_is = c.take-of_a.ensures.entries; y_is = c.take-of_b.ensures.value; two_is = c.take-of_b.ensures.entries })

pub put-requires-in_default-clause-order : goal.put-requires-in_default-clause-order
put-requires-in_default-clause-order g c = order_three g.met.K.Ord.total (record { order = c.self.invariant; x_is = c.take-of_a.ensures.value; one_is = c.take-of_a.ensures.entries; y_is = c.take-of_b.ensures.value; two_is = c.take-of_b.ensures.entries }) c.put.ensures.entries

pub put-requires-in_default-clause-absent : goal.put-requires-in_default-clause-absent
put-requires-in_default-clause-absent g c some = ap (λ l. at g.K.Ord.cmp l c.args.a) c.put.ensures.entries ∙ absent_a g.met.K.Ord.total (record { order = c.self.invariant; x_is = c.take-of_a.ensures.value; one_is = c.take-of_a.ensures.entries; y_is = c.take-of_b.ensures.value; two_is = c.take-of_b.ensures.entries }) some

pub invariant_of-self-in_default : goal.invariant_of-self-in_default
invariant_of-self-in_default g c = order_four g.met.K.Ord.total (record { order = c.self.invariant; x_is = c.take-of_a.ensures.value; one_is = c.take-of_a.ensures.entries; y_is = c.take-of_b.ensures.value; two_is = c.take-of_b.ensures.entries }) c.put.ensures.entries c.put-in_default.ensures.entries

pub returns-in_default : goal.returns-in_default
returns-in_default g c = exchanged_four g.met.K.Ord.total (record { order = c.self.invariant; x_is = c.take-of_a.ensures.value; one_is = c.take-of_a.ensures.entries; y_is = c.take-of_b.ensures.value; two_is = c.take-of_b.ensures.entries }) c.self.view_is c.put.ensures.entries c.put-in_default.ensures.entries

pub returns-in-Err-Err : goal.returns-in-Err-Err
returns-in-Err-Err g c q =
    let no_a = of_err c.find-at_a.result c.in-Err-Err.field-0-0 (IsGapFor g.K.Ord.cmp c.as_slice.result.now c.args.a) c.in-Err-Err.is-0 c.find-at_a.ensures.absent in
    let no_b = of_err c.find-at_b.result c.in-Err-Err.field-0-1 (IsGapFor g.K.Ord.cmp c.as_slice-2.result.now c.args.b) c.in-Err-Err.is-1 c.find-at_b.ensures.absent in
    none_exchanged g.met.K.Ord.total c.args.self.now c.args.a c.args.b q
    (sym (got_none g.met.K.Ord.total c.as_slice.ensures.value c.self.view_is no_a)) (sym (got_none g.met.K.Ord.total c.as_slice-2.ensures.value c.self.view_is no_b))
