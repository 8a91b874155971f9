use Rattle.std.proofs.Common.{◌∙◌, sym, ap, subst, Some, None}
use Rattle.afp_serial.specs.World.{is_open}
use Rattle.afp_core_state.specs.Forks.{Forks, HasForks}
use Rattle.afp_core_state.proofs.OpenRows.{own-is, own-open}
use Rattle.afp_core_state.proofs.forks.OpenForks.get.Goals as goal

pub returns-in-Some-clause-own : goal.returns-in-Some-clause-own
returns-in-Some-clause-own c = λ w x has number. own-is w x c.self.inside.table c.args.s.0 c.args.r.0 (Some c.in-Some.row.now) c.keeps_sound.ensures.rising (subst (HasForks w) (sym c.self.view_is) has) number c.in-Some.ensures

pub returns-in-Some-clause-open : goal.returns-in-Some-clause-open
returns-in-Some-clause-open c = ap (λ (f : Forks). is_open f.opens c.args.r.0) (sym c.self.view_is) ∙ own-open c.self.inside.table.opens c.args.s.0 c.args.r.0 c.in-Some.row.now c.in-Some.ensures

pub returns-in-None-clause-own : goal.returns-in-None-clause-own
returns-in-None-clause-own c = λ w x has number. own-is w x c.self.inside.table c.args.s.0 c.args.r.0 None c.keeps_sound.ensures.rising (subst (HasForks w) (sym c.self.view_is) has) number c.in-None.ensures
