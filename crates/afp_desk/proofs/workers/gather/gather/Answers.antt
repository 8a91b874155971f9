use Rattle.std.proofs.Common.{List, [], ◌∷◌, ◌++◌, map, sym, ap, ◌∙◌, subst, append_assoc, rules}
use Rattle.std.proofs.lemmas.List.{map-append}
use Rattle.afp_desk.specs.declared.desk.view.View.{View}
use Rattle.afp_desk.specs.desk.Passes.{view}
use Rattle.afp_desk.specs.workers.Gathers.{Gathered, pass_view, done_of}
use Rattle.afp_desk.proofs.OfWorkers.Gathering.{gathers-one}
use Rattle.afp_desk.proofs.workers.gather.gather.Goals as goal

pub loop-worker-preserved : goal.loop-worker-preserved
loop-worker-preserved g c =
    let i = c.loop-worker.invariant in
    let w = c.in-Some.worker in
    record {
      desk = search rules;
      met = subst (λ (us : List View). Gathered (view c.args.first.now) us (view c.meet.new.pass)) (sym (map-append pass_view c.loop-worker.yielded (w ∷ [])))
          (gathers-one (view c.args.first.now) (map pass_view c.loop-worker.yielded) (view c.loop-worker.first) (view w.pass) (view c.meet.new.pass) i.met c.meet.ensures.met);
      done = c.push_reserved.ensures.items ∙ ap (λ l. l ++ done_of w ∷ []) i.done ∙ append_assoc c.args.done.now.items (map done_of c.loop-worker.yielded) (done_of w ∷ [])
          ∙ ap (λ l. c.args.done.now.items ++ l) (sym (map-append done_of c.loop-worker.yielded (w ∷ [])));
      room = search rules;
    }
