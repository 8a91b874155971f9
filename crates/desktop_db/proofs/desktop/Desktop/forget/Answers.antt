use Rattle.desktop_db.proofs.Lists.{kept-gone}
use Rattle.desktop_db.proofs.desktop.Desktop.forget.Goals as goal

pub invariant_of-self : goal.invariant_of-self
invariant_of-self c =
    kept-gone c.self.inside.comments.items c.take_comment-had_comment.new.comments.items c.self.inside.icons.items c.self.inside.appls.items c.forget_node.new.appls.items c.args.node.0
    c.take_comment-had_comment.ensures.items c.forget_node.ensures.items c.self.invariant
