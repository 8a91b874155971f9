use Rattle.std.proofs.Common.{◌≡◌, ℕ, ◌+◌, ◌<◌, ◌≤◌, List, [], ◌∷◌, ◌++◌, length, length-append, map, sym, ap, ◌∙◌, subst, rules, arith, get_or}
use Rattle.std.proofs.lemmas.List.{map-append}
use Rattle.std.proofs.lemmas.Iterator.Adapters.{YieldsList-from_vec}
use Rattle.std.proofs.lemmas.Iterator.Consumers.{YieldsList-turn}
use Rattle.afp_desk.specs.declared.desk.view.View.{View}
use Rattle.afp_desk.specs.desk.Passes.{view}
use Rattle.afp_server.specs.declared.doors.door.WorkerEnd.TheVariants as ends
use Rattle.afp_desk.specs.declared.workers.worker.Worker.{Worker}
use Rattle.afp_desk.specs.workers.Gathers.{pass_view}
use Rattle.afp_desk.specs.workers.Staffs.{Staffed, door_of, least}
use Rattle.afp_desk.proofs.OfWorkers.Staffing.{staffs-one, each-snoc, least-two, least-halves}
use Rattle.afp_desk.proofs.workers.staff.staff.Goals as goal

pub loop-door-preserved : goal.loop-door-preserved
loop-door-preserved g c =
    let i = c.loop-door.invariant in
    let W : Type 0 = Worker g.row.K.Denot g.row.N.Denot g.K.Keeper in
    let ws : List W = c.loop-door.workers.items in
    let w : W = record { pass = c.split-pass.result; door = c.in-Some.door; end = ends.Memory } in
    let items : c.push_reserved.new.self.items ≡ ws ++ w ∷ [] = c.push_reserved.ensures.items in
    let P : W → Type 0 = λ x. x.pass.seat.table_id ≡ c.args.desk.now.table.shared.table_id in
    record {
      desk = c.split-pass.ensures.desk.0;
      each = subst (λ (xs : List W). (j : ℕ) (d : W) → j < length xs → P (get_or xs j d)) (sym items) (each-snoc P ws w i.each c.split-pass.ensures.desk.1);
      staffed = subst (λ (us : List View). Staffed (view c.args.first.now) (view c.split-pass.new.pass) us) (sym (ap (map pass_view) items ∙ map-append pass_view ws (w ∷ [])))
          (staffs-one (view c.args.first.now) (view c.loop-door.first) (view c.split-pass.new.pass) (view c.split-pass.result) (map pass_view ws) i.staffed c.split-pass.ensures.split);
      doors = ap (map door_of) items ∙ map-append door_of ws (w ∷ []) ∙ ap (λ l. l ++ c.in-Some.door ∷ []) i.doors;
      count = ap length items ∙ length-append ws (w ∷ []) ∙ ap (λ n. n + 1) i.count ∙ sym (length-append c.loop-door.yielded (c.in-Some.door ∷ []));
      enough = subst (λ (n : ℕ). least n ≤ (view c.split-pass.new.pass).share) (sym (length-append c.loop-door.yielded (c.in-Some.door ∷ []))) (least-halves (length c.loop-door.yielded) (view c.loop-door.first).share (view c.split-pass.new.pass).share i.enough c.split-pass.ensures.split.left);
      room = search rules;
    }

pub split-pass-requires-clause-two : goal.split-pass-requires-clause-two
split-pass-requires-clause-two g c =
    let i = c.loop-door.invariant in
    let turn = YieldsList-turn (YieldsList-from_vec c.args.doors.items (search rules) (search rules)) c.loop-door.yielded c.loop-door.door-iterator c.loop-door.yielded_by c.next.result c.next.new.self c.in-Some.door c.in-Some.is c.next.ensures.steps in
    let less : length c.loop-door.yielded < length c.args.doors.items = turn.0 in
    let two = least-two (length c.loop-door.yielded) (omega (arith, less, c.requires.few)) in
    let e = i.enough in
    omega arith
