use Rattle.std.proofs.Common.{arith}
use Rattle.volume_spec.specs.SetFileDirParms.{settings_in}
use Rattle.volume_tree.proofs.Sums.{all-asked, lower-0, lower-2, lower-3, lower-4, lower-5, lower-10, lower-11, lower-12, long-enough}
use Rattle.volume_tree.proofs.tails.settings_in.Goals as goal

pub word_in-requires-clause-at : goal.word_in-requires-clause-at
word_in-requires-clause-at c = omega (arith, lower-0 c.args.bits)

pub word_in-requires-clause-fits : goal.word_in-requires-clause-fits
word_in-requires-clause-fits c = omega (arith, long-enough c.args.bits c.args.tail.now c.requires, all-asked c.args.bits)

pub date_in-requires-clause-at : goal.date_in-requires-clause-at
date_in-requires-clause-at c = omega (arith, lower-2 c.args.bits, c.size_asked-created.ensures)

pub date_in-requires-clause-fits : goal.date_in-requires-clause-fits
date_in-requires-clause-fits c = omega (arith, long-enough c.args.bits c.args.tail.now c.requires, all-asked c.args.bits, c.size_asked-created.ensures)

pub date_in-requires-2-clause-at : goal.date_in-requires-2-clause-at
date_in-requires-2-clause-at c = omega (arith, lower-3 c.args.bits, c.size_asked-created.ensures, c.size_asked.ensures)

pub date_in-requires-2-clause-fits : goal.date_in-requires-2-clause-fits
date_in-requires-2-clause-fits c = omega (arith, long-enough c.args.bits c.args.tail.now c.requires, all-asked c.args.bits, c.size_asked-created.ensures, c.size_asked.ensures)

pub date_in-requires-3-clause-at : goal.date_in-requires-3-clause-at
date_in-requires-3-clause-at c = omega (arith, lower-4 c.args.bits, c.size_asked-created.ensures, c.size_asked.ensures, c.size_asked-2.ensures)

pub date_in-requires-3-clause-fits : goal.date_in-requires-3-clause-fits
date_in-requires-3-clause-fits c = omega (arith, long-enough c.args.bits c.args.tail.now c.requires, all-asked c.args.bits, c.size_asked-created.ensures, c.size_asked.ensures, c.size_asked-2.ensures)

pub finder_in-requires-clause-at : goal.finder_in-requires-clause-at
finder_in-requires-clause-at c = omega (arith, lower-5 c.args.bits, c.size_asked-created.ensures, c.size_asked.ensures, c.size_asked-2.ensures, c.size_asked-3.ensures)

pub finder_in-requires-clause-fits : goal.finder_in-requires-clause-fits
finder_in-requires-clause-fits c = omega (arith, long-enough c.args.bits c.args.tail.now c.requires, all-asked c.args.bits, c.size_asked-created.ensures, c.size_asked.ensures, c.size_asked-2.ensures, c.size_asked-3.ensures)

pub id_in-requires-clause-at : goal.id_in-requires-clause-at
id_in-requires-clause-at c = omega (arith, lower-10 c.args.bits, c.size_asked-created.ensures, c.size_asked.ensures, c.size_asked-2.ensures, c.size_asked-3.ensures, c.size_asked-4.ensures)

pub id_in-requires-clause-fits : goal.id_in-requires-clause-fits
id_in-requires-clause-fits c = omega (arith, long-enough c.args.bits c.args.tail.now c.requires, all-asked c.args.bits, c.size_asked-created.ensures, c.size_asked.ensures, c.size_asked-2.ensures, c.size_asked-3.ensures, c.size_asked-4.ensures)

pub id_in-requires-2-clause-at : goal.id_in-requires-2-clause-at
id_in-requires-2-clause-at c = omega (arith, lower-11 c.args.bits, c.size_asked-created.ensures, c.size_asked.ensures, c.size_asked-2.ensures, c.size_asked-3.ensures, c.size_asked-4.ensures, c.size_asked-5.ensures)

pub id_in-requires-2-clause-fits : goal.id_in-requires-2-clause-fits
id_in-requires-2-clause-fits c = omega (arith, long-enough c.args.bits c.args.tail.now c.requires, all-asked c.args.bits, c.size_asked-created.ensures, c.size_asked.ensures, c.size_asked-2.ensures, c.size_asked-3.ensures, c.size_asked-4.ensures, c.size_asked-5.ensures)

pub rights_in-requires-clause-at : goal.rights_in-requires-clause-at
rights_in-requires-clause-at c = omega (arith, lower-12 c.args.bits, c.size_asked-created.ensures, c.size_asked.ensures, c.size_asked-2.ensures, c.size_asked-3.ensures, c.size_asked-4.ensures, c.size_asked-5.ensures, c.size_asked-6.ensures)

pub rights_in-requires-clause-fits : goal.rights_in-requires-clause-fits
rights_in-requires-clause-fits c = omega (arith, long-enough c.args.bits c.args.tail.now c.requires, all-asked c.args.bits, c.size_asked-created.ensures, c.size_asked.ensures, c.size_asked-2.ensures, c.size_asked-3.ensures, c.size_asked-4.ensures, c.size_asked-5.ensures, c.size_asked-6.ensures)

pub returns : goal.returns
unfolding settings_in
returns c = λ i. record { attributes = c.word_in.ensures i; created = c.date_in.ensures i; modified = c.date_in-2.ensures i; backup = c.date_in-3.ensures i; finder = c.finder_in.ensures i; owner = c.id_in.ensures i; group = c.id_in-2.ensures i; rights = c.rights_in.ensures i }
