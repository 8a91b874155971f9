use Rattle.afp_replies.proofs.Asking.{nothing_fits, what_is_shown_to_a_request}
use Rattle.afp_replies.proofs.Showing.{what_fits_a_request}
use Rattle.afp_replies.proofs.laws.what_fits_a_request_is_shown_to_it.Goals as goal

pub returns-clause-shown : goal.returns-clause-shown
returns-clause-shown c = λ r kind code h. what_fits_a_request r kind code h

pub returns-clause-only : goal.returns-clause-only
returns-clause-only c = λ r kind code bytes h. what_is_shown_to_a_request r kind code bytes h

pub returns-clause-nothing : goal.returns-clause-nothing
returns-clause-nothing c = λ kind code e. nothing_fits kind code e
