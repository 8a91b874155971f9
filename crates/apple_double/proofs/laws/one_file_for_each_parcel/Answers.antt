use Rattle.apple_double.proofs.OneFile.{one-file}
use Rattle.apple_double.proofs.laws.one_file_for_each_parcel.Goals as goal

pub returns : goal.returns
returns c = one-file
