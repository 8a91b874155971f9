use Rattle.apple_double.proofs.Faults.{parcel-good, refuses-header, refuses-fields, refuses-entries}
use Rattle.apple_double.proofs.read.judge.Goals as goal

pub returns-in-Err-clause-fault : goal.returns-in-Err-clause-fault
returns-in-Err-clause-fault c = refuses-header c.args.bytes.now c.in-Err.fault c.in-Err.ensures.fault

pub returns-in-Err-judge_fields-clause-fault : goal.returns-in-Err-judge_fields-clause-fault
returns-in-Err-judge_fields-clause-fault c =
    refuses-fields c.args.bytes.now c.in-Err-judge_fields.fault c.in-Ok.ensures.good c.in-Err-judge_fields.ensures.fault

pub returns-in-Ok-judge_entries-clause-good : goal.returns-in-Ok-judge_entries-clause-good
returns-in-Ok-judge_entries-clause-good c =
    parcel-good c.args.bytes.now c.in-Ok.ensures.good c.in-Ok-judge_fields.ensures.good c.in-Ok-judge_entries.ensures.good

pub returns-in-Err-judge_entries-clause-fault : goal.returns-in-Err-judge_entries-clause-fault
returns-in-Err-judge_entries-clause-fault c =
    refuses-entries c.args.bytes.now c.in-Err-judge_entries.fault c.in-Ok.ensures.good c.in-Ok-judge_fields.ensures.good c.in-Err-judge_entries.ensures.fault
