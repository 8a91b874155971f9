use Rattle.std.proofs.Common.{map, length}
use denote.Text.{Utf8}
use denote.Shadow.{shadow}
use Rattle.afpd_lib.specs.words.lemma.Values.{user_value}
use Rattle.afpd_lib.proofs.OfWords.ReadUsers.{Read}
use Rattle.afpd_lib.proofs.words.users.users_of.Given as goal

abbrev pub invariant-loop-first : goal.invariant-loop-first
invariant-loop-first l = shadow (Utf8 l.rest) × Read l.text l.rest (map user_value l.users.items)

abbrev pub decreases-loop-first : goal.decreases-loop-first
decreases-loop-first l = length l.rest
