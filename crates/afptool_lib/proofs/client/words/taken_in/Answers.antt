use Rattle.std.proofs.Common.{sym, ◌∙◌}
use Rattle.std.proofs.lemmas.Result.{IfOk-weaker}
use Rattle.afptool_lib.proofs.OfClient.WordLemmas.{refused}
use Rattle.afptool_lib.proofs.client.words.taken_in.Goals as goal

pub returns-in-Err-clause-taken : goal.returns-in-Err-clause-taken
returns-in-Err-clause-taken c =
    IfOk-weaker c.refused_by.result _ _ (λ client h. h.0 ∙ sym (refused _ _ c.in-Err.error c.in-Err.ensures.fault h.1)) c.refused_by.ensures
