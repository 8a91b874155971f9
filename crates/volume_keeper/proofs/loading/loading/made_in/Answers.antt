use Rattle.std.proofs.Common.{◌≡◌, List, length, sym, subst, rules}
use Rattle.std.proofs.lemmas.List.{nil_from_length}
use Rattle.record_keeper.specs.declared.record.Record.{Record}
use Rattle.volume_keeper.specs.loading.lemma.Loading.{IsMadeOf}
use Rattle.volume_keeper.proofs.loading.loading.made_in.Goals as goal

pub returns-in-Ok-clause-ok : goal.returns-in-Ok-clause-ok
returns-in-Ok-clause-ok c =
    let few : length c.args.records.items ≡ 0 = search rules in
    subst (λ (records : List Record). IsMadeOf c.args.name.now c.args.now records c.in-Ok.made.changes.items c.in-Ok.made.whole.state) (sym (nil_from_length c.args.records.items few)) c.in-Ok.ensures
