use Rattle.volume_keeper_records.proofs.laws.rows_are_read_back.Goals as goal
use Rattle.volume_keeper_records.proofs.ReadBack.{row_is, read_back}

pub returns : goal.returns
returns c = record { back = read_back; formed = λ name r x e. (row_is name r x e).0; theirs = λ name r x e. (row_is name r x e).1 }
