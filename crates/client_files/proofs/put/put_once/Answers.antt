use Rattle.std.proofs.Common.{ℕ, arith, refl, subst}
use Rattle.client_files.specs.Sources.{Loses}
use Rattle.client_files.proofs.PutLemmas.{put_nothing}
use Rattle.client_files.proofs.put.put_once.Goals as goal

pub returns-in-Failed-clause-puts : goal.returns-in-Failed-clause-puts
returns-in-Failed-clause-puts g c =
    (refl, subst (λ (k : ℕ). Loses k (g.S.Source.source_state c.args.source.now) (g.S.Source.source_state c.fill.new.source)) c.fill.ensures.size c.in-Failed.ensures.fills)

pub returns-then-n-eq0-clause-puts : goal.returns-then-n-eq0-clause-puts
returns-then-n-eq0-clause-puts g c =
    let none = put_nothing _ _ _ _ c.in-Got.ensures.fills (omega arith) (omega (arith, c.fill.ensures.size, c.requires.some)) in
    (refl, none.0, none.1)
