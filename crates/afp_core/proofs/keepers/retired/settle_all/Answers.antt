use Rattle.std.proofs.Common.{rules, ◌≡◌, ◌<◌, length, subst, arith}
use Rattle.std.specs.Prelude.{Err}
use Rattle.afp_core.specs.keepers.Retiring.{AsksOne}
use Rattle.afp_core.proofs.OfKeepers.SettleLemmas.{all-asked, asked-failed, asked-ok, asked-wanting, fewer, fewer-unsure, first-rest}
use Rattle.record_keeper.specs.declared.keeper.KeeperFault.{KeeperFault}
use Rattle.record_keeper.specs.declared.keeper.KeeperFault.TheVariants.{Failed}
use Rattle.afp_core.proofs.keepers.retired.settle_all.Goals as goal

pub loop-retired-preserved-in-Ok : goal.loop-retired-preserved-in-Ok
loop-retired-preserved-in-Ok g c =
    let some : 0 < length c.loop-retired.kept.items = search rules in
    let is = first-rest c.loop-retired.kept.items c.remove.new.self.items c.remove.result some c.remove.ensures.value c.remove.ensures.items in
    record {
      failed = omega (arith, c.loop-retired.invariant.failed, fewer c.loop-retired.kept.items c.remove.new.self.items c.remove.result is);
      volumes = search rules;
      most = search rules;
      few = search rules;
      asked = asked-ok g.K.Keeper.faults g.K.Keeper.sure g.K.Keeper.settles c.args.kept.items c.loop-retired.kept.items c.remove.new.self.items c.remove.result
          c.loop-retired.retired.failed c.loop-retired.retired.memory some c.remove.ensures.value c.remove.ensures.items c.loop-retired.invariant.asked c.in-Ok.ensures.asks;
    }

pub loop-retired-preserved-in-Err-Failed : goal.loop-retired-preserved-in-Err-Failed
loop-retired-preserved-in-Err-Failed g c =
    let some : 0 < length c.loop-retired.kept.items = search rules in
    let is = first-rest c.loop-retired.kept.items c.remove.new.self.items c.remove.result some c.remove.ensures.value c.remove.ensures.items in
    let asks : AsksOne g.K.Keeper.faults g.K.Keeper.sure g.K.Keeper.settles c.remove.result (Err Failed) =
    subst (λ (e : KeeperFault). AsksOne g.K.Keeper.faults g.K.Keeper.sure g.K.Keeper.settles c.remove.result (Err e)) c.in-Err-Failed.field-0-is c.in-Err-Failed.ensures.asks in
    record {
      failed = omega (arith, c.loop-retired.invariant.failed, fewer-unsure c.loop-retired.kept.items c.remove.new.self.items c.remove.result is asks.is.0.unsure);
      volumes = search rules;
      most = search rules;
      few = search rules;
      asked = asked-failed g.K.Keeper.faults g.K.Keeper.sure g.K.Keeper.settles c.args.kept.items c.loop-retired.kept.items c.remove.new.self.items c.remove.result
          c.loop-retired.retired.failed c.loop-retired.retired.memory some c.remove.ensures.value c.remove.ensures.items c.loop-retired.invariant.asked asks;
    }

pub loop-retired-preserved : goal.loop-retired-preserved
loop-retired-preserved g c =
    let some : 0 < length c.loop-retired.kept.items = search rules in
    let is = first-rest c.loop-retired.kept.items c.remove.new.self.items c.remove.result some c.remove.ensures.value c.remove.ensures.items in
    record {
      failed = omega (arith, c.loop-retired.invariant.failed, fewer c.loop-retired.kept.items c.remove.new.self.items c.remove.result is);
      volumes = search rules;
      most = search rules;
      few = search rules;
      asked = asked-wanting g.K.Keeper.faults g.K.Keeper.sure g.K.Keeper.settles c.args.kept.items c.loop-retired.kept.items c.remove.new.self.items c.remove.result
          c.loop-retired.retired.failed c.loop-retired.retired.memory some c.remove.ensures.value c.remove.ensures.items c.loop-retired.invariant.asked
          (subst (λ (e : KeeperFault). AsksOne g.K.Keeper.faults g.K.Keeper.sure g.K.Keeper.settles c.remove.result (Err e)) c.in-Err-Memory.field-0-is c.in-Err-Memory.ensures.asks);
    }

pub returns : goal.returns
returns g c =
    let none : length c.loop-retired.kept.items ≡ 0 = search rules in
    let all = all-asked g.K.Keeper.faults g.K.Keeper.sure g.K.Keeper.settles c.args.kept.items c.loop-retired.kept.items c.loop-retired.retired.failed c.loop-retired.retired.memory
    c.loop-retired.invariant.asked none in
    record {
      answers = all.0;
      asked = all.1;
      volumes = omega (arith, none, c.loop-retired.invariant.volumes);
      failed = all.2;
      memory = all.3;
      unsure = omega (arith, c.loop-retired.invariant.failed);
    }
