use Rattle.desktop_db.proofs.Lists.{kept-taken-appl}
use Rattle.desktop_db.proofs.desktop.Desktop.take_appl.Goals as goal

pub invariant_of-self : goal.invariant_of-self
invariant_of-self c =
    kept-taken-appl c.self.inside.comments.items c.self.inside.icons.items c.self.inside.appls.items c.take_appl.new.appls.items c.args.creator.now c.args.node.0 c.take_appl.ensures.items c.self.invariant
