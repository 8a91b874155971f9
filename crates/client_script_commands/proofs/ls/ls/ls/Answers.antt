use Rattle.std.proofs.Common.{[], Ok, Err, ◌∙◌, ap, List, ℕ, ◌++◌}
use Rattle.client_script_commands.specs.declared.parts.asker.Stop.TheVariants as stops
use Rattle.client_script_commands.specs.ls.Ls.{lists}
use Rattle.client_script_commands.proofs.OfLs.ShownLemmas.{comes_lack, is_said, shows_both}
use Rattle.client_script_commands.proofs.ls.ls.ls.Goals as goal

pub loop-text-preserved : goal.loop-text-preserved
loop-text-preserved g c =
    let was = c.loop-text in
    record {
      within = c.in-Ok-true.ensures.within (ap Ok c.in-Ok-true.field-0-test);
      carries = λ result final rest. was.invariant.carries result final ((rw c.in-Ok-true.field-0-test at c.in-Ok-true.ensures.lists) result final rest);
      shows = shows_both (g.A.Asker.exchanges c.args.asker.now) (g.A.Asker.exchanges was.asker) (g.A.Asker.exchanges c.list_once.new.asker) [] was.text c.list_once.new.text was.invariant.shows (rw c.in-Ok-true.field-0-test at c.in-Ok-true.ensures.shows);
      said = was.invariant.said;
    }

pub returns-in-Err-clause-said : goal.returns-in-Err-clause-said
returns-in-Err-clause-said g c =
    let was = c.loop-text in
    is_said (g.A.Asker.exchanges c.args.asker.now) (g.A.Asker.exchanges was.asker) (g.A.Asker.exchanges c.list_once.new.asker) was.text c.list_once.new.text c.args.said.now c.extend.new.self c.in-Err.stop was.invariant.shows c.in-Err.ensures.shows
    (c.in-Ok.ensures.ok ∙ ap (λ (t : List ℕ). t ++ c.as_slice.result.now) was.invariant.said ∙ ap (λ (t : List ℕ). c.args.said.now ++ t) c.as_slice.ensures)

pub returns-in_default-clause-comes : goal.returns-in_default-clause-comes
returns-in_default-clause-comes g c =
    let was = c.loop-text in
    was.invariant.carries (Err stops.Memory) (g.A.Asker.exchanges c.list_once.new.asker)
    (comes_lack (g.A.Asker.exchanges was.asker) (lists c.args.volume c.args.path.now was.count was.text) c.in-Err.stop (g.A.Asker.exchanges c.list_once.new.asker) c.in-Err.ensures.lists)
