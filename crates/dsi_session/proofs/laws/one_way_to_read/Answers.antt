use Rattle.dsi_session.proofs.OptionLemmas.{is_read, exclusive, one_list, one_place}
use Rattle.dsi_session.proofs.laws.one_way_to_read.Goals as goal

pub returns-clause-some : goal.returns-clause-some
returns-clause-some c = is_read

pub returns-clause-exclusive : goal.returns-clause-exclusive
returns-clause-exclusive c = exclusive

pub returns-clause-one_list : goal.returns-clause-one_list
returns-clause-one_list c = one_list

pub returns-clause-one_place : goal.returns-clause-one_place
returns-clause-one_place c = one_place
