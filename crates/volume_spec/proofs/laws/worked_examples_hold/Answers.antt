use Rattle.volume_spec.proofs.Worked.{fresh-volume-is-told, root-is-the-guests, new-file-is-nobodys, rights-are-in-order, directory-has-rights, file-has-no-rights, rights-are-three-bits, tail-is-read, tail-is-long-enough, tail-is-too-short, attributes-are-set, attributes-are-cleared, attributes-are-masked}
use Rattle.volume_spec.proofs.laws.worked_examples_hold.Goals as goal

pub returns-clause-volume : goal.returns-clause-volume
returns-clause-volume c = fresh-volume-is-told

pub returns-clause-root : goal.returns-clause-root
returns-clause-root c = root-is-the-guests

pub returns-clause-new_file : goal.returns-clause-new_file
returns-clause-new_file c = new-file-is-nobodys

pub returns-clause-rights : goal.returns-clause-rights
returns-clause-rights c = rights-are-in-order

pub returns-clause-directory_rights : goal.returns-clause-directory_rights
returns-clause-directory_rights c = directory-has-rights

pub returns-clause-file_rights : goal.returns-clause-file_rights
returns-clause-file_rights c = file-has-no-rights

pub returns-clause-three_bits : goal.returns-clause-three_bits
returns-clause-three_bits c = rights-are-three-bits

pub returns-clause-tail : goal.returns-clause-tail
returns-clause-tail c = tail-is-read

pub returns-clause-long_enough : goal.returns-clause-long_enough
returns-clause-long_enough c = tail-is-long-enough

pub returns-clause-too_short : goal.returns-clause-too_short
returns-clause-too_short c = tail-is-too-short

pub returns-clause-set : goal.returns-clause-set
returns-clause-set c = attributes-are-set

pub returns-clause-cleared : goal.returns-clause-cleared
returns-clause-cleared c = attributes-are-cleared

pub returns-clause-masked : goal.returns-clause-masked
returns-clause-masked c = attributes-are-masked
