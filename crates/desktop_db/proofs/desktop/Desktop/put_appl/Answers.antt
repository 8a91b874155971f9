use Rattle.desktop_db.proofs.Lists.{kept-appl}
use Rattle.desktop_db.proofs.desktop.Desktop.put_appl.Goals as goal

pub invariant_of-self : goal.invariant_of-self
invariant_of-self c =
    kept-appl c.self.inside.comments.items c.self.inside.icons.items c.self.inside.appls.items c.put_appl.new.appls.items c.new.result c.put_appl.result c.new.ensures.formed c.new.ensures.typed
    c.put_appl.ensures.ok c.put_appl.ensures.err c.put_appl.ensures.full c.self.invariant
