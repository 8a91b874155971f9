use Rattle.afp_serial.proofs.LawfulCalls.{spelt-lawful}
use Rattle.afp_serial.proofs.laws.what_bytes_spell_is_lawful.Goals as goal

pub returns : goal.returns
returns c = spelt-lawful
