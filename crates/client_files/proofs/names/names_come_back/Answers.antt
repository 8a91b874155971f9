use Rattle.client_files.proofs.NameLemmas.{local_stands}
use Rattle.client_files.proofs.names.names_come_back.Goals as goal

pub returns-clause-stands : goal.returns-clause-stands
returns-clause-stands c = local_stands
