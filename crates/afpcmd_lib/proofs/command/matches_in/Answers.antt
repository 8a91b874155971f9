use Rattle.std.proofs.Common.{ap, ap₂, refl, true, ◌≡◌, ◌∙◌, subst}
use Rattle.std.proofs.lemmas.Result.{IfOk-weaker}
use Rattle.clap.specs.Words.{app_of, fault_of, matches_of, is_simple, is_simple_and_free}
use Rattle.clap.specs.Kinds.{FailsBy}
use Rattle.clap.proofs.OnLiterals.{clap_on_literals}
use Rattle.afpcmd_lib.specs.Command.{client_app}
use Rattle.afpcmd_lib.proofs.command.matches_in.Goals as goal

is_simple_app : is_simple client_app ≡ true
unfolding clap_on_literals client_app
is_simple_app = refl

is_free_app : is_simple_and_free client_app ≡ true
unfolding clap_on_literals client_app
is_free_app = refl

pub returns-clause-found : goal.returns-clause-found
returns-clause-found c =
    let parse = c.try_get_matches_from in
    let app : app_of c.in_ok-command.command ≡ client_app = c.in_ok-command.ensures in
    IfOk-weaker parse.result _ _ (λ m h. (h (ap is_simple app ∙ is_simple_app)).0 ∙ ap₂ matches_of app refl) parse.ensures.matches

pub returns-clause-fault : goal.returns-clause-fault
returns-clause-fault c =
    let parse = c.try_get_matches_from in
    let app : app_of c.in_ok-command.command ≡ client_app = c.in_ok-command.ensures in
    subst (λ k. FailsBy k parse.result) (ap₂ fault_of app refl) (parse.ensures.kinds (ap is_simple_and_free app ∙ is_free_app))
