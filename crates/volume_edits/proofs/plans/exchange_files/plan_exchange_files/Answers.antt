use Rattle.std.proofs.Common.{◌∙◌, sym, refl, ◌∷◌, []}
use Rattle.volume_spec.specs.VolumeCalls as call
use Rattle.volume_edits.proofs.OfPlans.Calls.{Passes, passes-call, plans-one}
use Rattle.volume_edits.proofs.OfPlans.Passing.{exchange-edits, exchange-passes}
use Rattle.volume_spec.specs.Edit as edit
use Rattle.std.proofs.lemmas.Bool.{ne_eqb}
use Rattle.volume_edits.proofs.plans.exchange_files.plan_exchange_files.Goals as goal

pub returns-clause-refused : goal.returns-clause-refused
returns-clause-refused c = passes-call c.args.now (c.exchanges.result ∷ []) c.plan_one.result _ (exchange-passes c.args.whole.now.state c.args.user c.args.now c.args.dir.0 c.args.path.now c.in-Ok.a.0 c.in-Ok.ensures c.args.second_dir.0 c.args.second_path.now c.in-Ok-resolve.b.0 c.in-Ok-resolve.ensures (sym c.is_file.ensures ∙ c.if-not-is_file.false) (sym c.is_file-2.ensures ∙ c.if-not-is_file-2.false) (sym c.lacks_either.ensures ∙ c.if-lacks_either.false) (sym c.lacks_either-2.ensures ∙ c.if-lacks_either-2.false) (ne_eqb c.in-Ok.a.0 c.in-Ok-resolve.b.0 c.if-a-b.false)) c.plan_one.ensures

pub returns-clause-plan : goal.returns-clause-plan
returns-clause-plan c =
    let none = exchange-passes c.args.whole.now.state c.args.user c.args.now c.args.dir.0 c.args.path.now c.in-Ok.a.0 c.in-Ok.ensures c.args.second_dir.0 c.args.second_path.now c.in-Ok-resolve.b.0 c.in-Ok-resolve.ensures (sym c.is_file.ensures ∙ c.if-not-is_file.false) (sym c.is_file-2.ensures ∙ c.if-not-is_file-2.false) (sym c.lacks_either.ensures ∙ c.if-lacks_either.false) (sym c.lacks_either-2.ensures ∙ c.if-lacks_either-2.false) (ne_eqb c.in-Ok.a.0 c.in-Ok-resolve.b.0 c.if-a-b.false) in
    let p : Passes c.args.whole.now.state c.args.user c.args.now (call.ExchangeFiles c.args.dir.0 c.args.path.now c.args.second_dir.0 c.args.second_path.now) = record {
      holds = c.laws_hold.ensures;
      formed_call = refl;
      typed_call = refl;
      passes = none;
    } in
    plans-one c.args.whole.now.state c.args.user c.args.now (call.ExchangeFiles c.args.dir.0 c.args.path.now c.args.second_dir.0 c.args.second_path.now) c.exchanges.result (edit.Exchanges c.in-Ok.a.0 c.in-Ok-resolve.b.0) c.plan_one.result p c.exchanges.ensures tt (exchange-edits c.args.whole.now.state c.args.user c.args.now c.args.dir.0 c.args.path.now c.in-Ok.a.0 c.in-Ok.ensures c.args.second_dir.0 c.args.second_path.now c.in-Ok-resolve.b.0 c.in-Ok-resolve.ensures) c.plan_one.ensures
