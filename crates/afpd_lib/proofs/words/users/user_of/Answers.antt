use Rattle.std.proofs.Common.{rules}
use Rattle.afpd_lib.proofs.OfWords.ReadUsers.{unparted}
use Rattle.afpd_lib.proofs.words.users.user_of.Goals as goal

pub returns-in_err-name-clause-none : goal.returns-in_err-name-clause-none
returns-in_err-name-clause-none c = search (rules, unparted)
