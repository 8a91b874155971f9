use Rattle.std.proofs.Common.{◌∙◌, sym, ap, Some, map, option_map}
use Rattle.std.proofs.lemmas.Result.{IfOk-weaker}
use Rattle.afpcmd_lib.proofs.words.words_in.Goals as goal

pub returns-in-Some : goal.returns-in-Some
returns-in-Some c =
    IfOk-weaker c.copied.result _ _ (λ found same. sym c.lent_in.ensures ∙ ap (option_map (λ words. map (λ word. word.now) words.now)) c.in-Some.is ∙ ap Some (sym same)) c.copied.ensures
