use Rattle.std.proofs.Common.{rules, ap, ap₂, true, ◌≡◌, ◌∙◌}
use Rattle.clap.specs.Words.{app_of, with_rule}
use Rattle.clap.specs.Simple.{Shape, app_of_fields, on_top}
use Rattle.afpd_lib.specs.words.Command.{bare, server_app}
use Rattle.afpd_lib.proofs.words.command.server_command.Goals as goal

pub returns : goal.returns
unfolding server_app
returns c =
    let start : app_of c.about.result ≡ bare =
    ap app_of_fields c.about.ensures
    ∙ ap app_of_fields c.version.ensures
    ∙ ap (on_top (λ (s : Shape). record s { has_version = true })) (ap app_of_fields c.no_binary_name.ensures ∙ ap (on_top (λ (s : Shape). record s { no_binary_name = true })) c.new.ensures.app) in
    c.in_ok-command-2.ensures.shape (search rules) ∙ ap₂ with_rule
    (c.in_ok-arg-7.ensures.shape (search rules) ∙ ap₂ with_rule
    (c.in_ok-arg-6.ensures.shape (search rules) ∙ ap₂ with_rule
    (c.in_ok-arg-5.ensures.shape (search rules) ∙ ap₂ with_rule
    (c.in_ok-command.ensures.shape (search rules) ∙ ap₂ with_rule
    (c.in_ok-arg-4.ensures.shape (search rules) ∙ ap₂ with_rule
    (c.in_ok-arg-3.ensures.shape (search rules) ∙ ap₂ with_rule
    (c.in_ok-arg-2.ensures.shape (search rules) ∙ ap₂ with_rule
    (c.in_ok-arg.ensures.shape (search rules) ∙ ap₂ with_rule start c.option.ensures.rule)
    c.option-2.ensures.rule) c.option-3.ensures.rule) c.option-4.ensures.rule) c.option-5.ensures.rule) c.option-6.ensures.rule) c.option-7.ensures.rule) c.users.ensures.rule) c.volumes.ensures.rule
