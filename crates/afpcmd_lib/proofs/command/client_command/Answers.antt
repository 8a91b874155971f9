use Rattle.std.proofs.Common.{rules, ap, ap₂, true, ◌≡◌, ◌∙◌}
use Rattle.clap.specs.Words.{app_of, with_rule}
use Rattle.clap.specs.Simple.{Shape, app_of_fields, on_top}
use Rattle.afpcmd_lib.specs.Command.{bare, client_app}
use Rattle.afpcmd_lib.proofs.command.client_command.Goals as goal

pub returns : goal.returns
unfolding client_app
returns c =
    let start : app_of c.about.result ≡ bare =
    ap app_of_fields c.about.ensures
    ∙ ap app_of_fields c.version.ensures
    ∙ ap (on_top (λ (s : Shape). record s { has_version = true })) (ap app_of_fields c.no_binary_name.ensures ∙ ap (on_top (λ (s : Shape). record s { no_binary_name = true })) c.new.ensures.app) in
    c.in_ok-command-2.ensures.shape (search rules) ∙ ap₂ with_rule
    (c.in_ok-arg-9.ensures.shape (search rules) ∙ ap₂ with_rule
    (c.in_ok-arg-8.ensures.shape (search rules) ∙ ap₂ with_rule
    (c.in_ok-arg-7.ensures.shape (search rules) ∙ ap₂ with_rule
    (c.in_ok-arg-6.ensures.shape (search rules) ∙ ap₂ with_rule
    (c.in_ok-arg-5.ensures.shape (search rules) ∙ ap₂ with_rule
    (c.in_ok-command.ensures.shape (search rules) ∙ ap₂ with_rule
    (c.in_ok-arg-4.ensures.shape (search rules) ∙ ap₂ with_rule
    (c.in_ok-arg-3.ensures.shape (search rules) ∙ ap₂ with_rule
    (c.in_ok-arg-2.ensures.shape (search rules) ∙ ap₂ with_rule
    (c.in_ok-arg.ensures.shape (search rules) ∙ ap₂ with_rule start c.value.ensures.rule)
    c.value-2.ensures.rule) c.value-3.ensures.rule) c.value-4.ensures.rule) c.wait.ensures.rule) c.flag.ensures.rule) c.flag-2.ensures.rule) c.flag-3.ensures.rule) c.flag-4.ensures.rule) c.flag-5.ensures.rule) c.words.ensures.rule
