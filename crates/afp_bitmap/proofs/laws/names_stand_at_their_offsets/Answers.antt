use Rattle.afp_bitmap.proofs.Offsets.{long_name_stands, utf8_name_stands}
use Rattle.afp_bitmap.proofs.laws.names_stand_at_their_offsets.Goals as goal

pub returns-clause-long_name : goal.returns-clause-long_name
returns-clause-long_name c = long_name_stands

pub returns-clause-utf8_name : goal.returns-clause-utf8_name
returns-clause-utf8_name c = utf8_name_stands
