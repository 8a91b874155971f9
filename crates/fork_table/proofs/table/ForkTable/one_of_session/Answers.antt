use Rattle.std.proofs.Common.{◌∙◌, sym, ap, subst, filter, map, Option}
use Rattle.std.specs.Prelude.{option_map}
use Rattle.fork_table.specs.ForkTable.{Table, is_open_of_session}
use Rattle.fork_table.specs.lemma.Kept.{FindsOne}
use Rattle.fork_table.specs.lemma.Own.{is_own, own_entry}
use Rattle.fork_table.specs.declared.own.OwnRef.{OwnRef}
use Rattle.fork_table.proofs.Owning.{finds_first, of_rows}
use Rattle.fork_table.proofs.table.ForkTable.one_of_session.Goals as goal

pub returns-in-Some : goal.returns-in-Some
returns-in-Some c =
    let mine_is = c.own_of.ensures ∙ ap (filter (is_own c.args.s.0)) c.entries.ensures.all ∙ c.self.invariant.sessions c.args.s.0 ∙ ap (λ (t : Table). map own_entry (of_rows c.args.s.0 t.opens)) c.self.view_is in
    subst (λ (o : Option (OwnRef × Unit {0})). FindsOne (is_open_of_session c.args.s.0) c.args.self.now.opens (option_map (λ (e : OwnRef × Unit {0}). e.0.reference) o)) (sym c.in-Some.ensures.value) (finds_first c.args.self.now.opens c.args.s.0 mine_is)

pub returns-in-None : goal.returns-in-None
returns-in-None c =
    let mine_is = c.own_of.ensures ∙ ap (filter (is_own c.args.s.0)) c.entries.ensures.all ∙ c.self.invariant.sessions c.args.s.0 ∙ ap (λ (t : Table). map own_entry (of_rows c.args.s.0 t.opens)) c.self.view_is in
    subst (λ (o : Option (OwnRef × Unit {0})). FindsOne (is_open_of_session c.args.s.0) c.args.self.now.opens (option_map (λ (e : OwnRef × Unit {0}). e.0.reference) o)) (sym c.in-None.ensures.value) (finds_first c.args.self.now.opens c.args.s.0 mine_is)
