use Rattle.std.proofs.Common.{◌∙◌, ap, sym, refl, subst}
use Rattle.std.specs.Prelude.{Ok, Err}
use Rattle.afp_core_state.specs.KeptWorld.{KeptWorld}
use Rattle.afp_core_state.specs.lemma.KeptWorld.{table_in, with_table}
use Rattle.session_table.specs.Sessions.{AreBelow, Opens}
use Rattle.session_table.specs.declared.sessions.SessionFault.TheVariants.{Full, Memory}
use Rattle.afp_core_dispatch.proofs.AskLemmas.{open-refused, open-runs}
use Rattle.afp_core_dispatch.proofs.ReadyLemmas.{are-below}
use Rattle.afp_core_dispatch.proofs.asks.open.Goals as goal
use Rattle.afp_core_dispatch.proofs.asks.open.Goals.{in-Ok, in-Err-Full, in-Err-Memory}

pub open-requires : goal.open-requires
open-requires g c = subst (λ (k : KeptWorld). AreBelow (table_in k.world)) (sym c.state.view_is) (are-below c.args.state.now.world c.requires)

pub returns : goal.returns
returns g c =
    let old = c.args.state.now in
    let is = ap (λ (k : KeptWorld). with_table k c.open.new.self) c.state.view_is in
    elim c.match-open.branch [
      | in-Ok w ↦
          rw w.result-is
          (λ link attention out. open-runs old _ link attention c.open.new.self w.in-Ok.link (subst (λ (k : KeptWorld). Opens (table_in k.world) (Ok w.in-Ok.link) c.open.new.self) c.state.view_is w.in-Ok.ensures) is)
      | in-Err-Full w ↦
          rw w.result-is
          (λ link attention out. open-refused old _ link attention c.open.new.self _ (subst (λ (k : KeptWorld). Opens (table_in k.world) (Err Full) c.open.new.self) c.state.view_is (rw w.in-Err-Full.field-0-is at w.in-Err-Full.ensures)) is refl)
      | in-Err-Memory w ↦
          rw w.result-is
          (is ∙ ap (with_table old) (subst (λ (k : KeptWorld). Opens (table_in k.world) (Err Memory) c.open.new.self) c.state.view_is (rw w.in-Err-Memory.field-0-is at w.in-Err-Memory.ensures)))
    ]
