use Rattle.std.proofs.Common.{◌∙◌, ap, take, subst}
use Rattle.std.proofs.Math.Seq.{take-length}
use Rattle.afp_base.specs.declared.code.Code.TheVariants.{ObjectNotFound}
use Rattle.volume_spec.specs.Walk.{walk}
use Rattle.volume_tree.specs.Answered.{Answers}
use Rattle.volume_tree.proofs.volume.Volume.resolve.Goals as goal

pub returns : goal.returns
returns c =
    subst (λ l. Answers c.walk.result (walk c.args.self.now.state.rows c.args.user c.args.path.now.kind ObjectNotFound c.args.dir.0 l)) (ap (λ n. take n c.args.path.now.steps) c.len.ensures.len ∙ take-length c.args.path.now.steps) c.walk.ensures
