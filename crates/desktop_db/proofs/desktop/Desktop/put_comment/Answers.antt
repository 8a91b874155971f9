use Rattle.desktop_db.proofs.Lists.{kept-comment, kept-taken-comment}
use Rattle.desktop_db.proofs.desktop.Desktop.put_comment.Goals as goal

pub invariant_of-self : goal.invariant_of-self
invariant_of-self c =
    kept-taken-comment c.self.inside.comments.items c.take_comment.new.comments.items c.self.inside.icons.items c.self.inside.appls.items c.args.node.0 c.take_comment.ensures.items c.self.invariant

pub invariant_of-self-2 : goal.invariant_of-self-2
invariant_of-self-2 c =
    kept-comment c.self.inside.comments.items c.put_comment.new.comments.items c.self.inside.icons.items c.self.inside.appls.items c.new.result c.put_comment.result c.new.ensures.formed c.new.ensures.typed
    c.put_comment.ensures.ok c.put_comment.ensures.err c.self.invariant
