use Rattle.desktop_db.proofs.Lists.{kept-icon}
use Rattle.desktop_db.proofs.desktop.Desktop.put_icon.Goals as goal

pub invariant_of-self : goal.invariant_of-self
invariant_of-self c =
    kept-icon c.self.inside.comments.items c.self.inside.icons.items c.put_icon.new.icons.items c.self.inside.appls.items c.new.result c.put_icon.result c.new.ensures.formed c.new.ensures.typed
    c.put_icon.ensures.ok c.put_icon.ensures.err c.put_icon.ensures.full c.self.invariant
