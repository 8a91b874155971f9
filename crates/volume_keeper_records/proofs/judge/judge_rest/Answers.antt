use Rattle.std.proofs.Common.{sym, subst}
use Rattle.volume_keeper_records.specs.lemma.Judged.{IsJudged}
use Rattle.volume_keeper_records.specs.declared.rows.TableRow.{TableRow}
use Rattle.volume_keeper_records.proofs.judge.judge_rest.Goals as goal

pub returns-in-Icon-clause-reason : goal.returns-in-Icon-clause-reason
returns-in-Icon-clause-reason c = λ named before h.
    subst (λ (r : TableRow). IsJudged c.args.pass.now before r c.judge_icon.result c.judge_icon.new.pass) (sym c.in-Icon.is) (c.judge_icon.ensures.reason c.in-Icon.field-0 before h)

pub returns-in-Appl-clause-reason : goal.returns-in-Appl-clause-reason
returns-in-Appl-clause-reason c = λ named before h.
    subst (λ (r : TableRow). IsJudged c.args.pass.now before r c.judge_appl.result c.judge_appl.new.pass) (sym c.in-Appl.is) (c.judge_appl.ensures.reason c.in-Appl.field-0 before h)
