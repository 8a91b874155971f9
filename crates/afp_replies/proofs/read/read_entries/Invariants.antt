use Rattle.std.proofs.Common.{◌-◌, List, [], Result}
use Rattle.afp_replies.specs.declared.list.ListEntry.{ListEntry}
use Rattle.afp_replies.specs.declared.reply.Reply.{Reply}
use Rattle.afp_replies.specs.declared.reply.ReplyFault.{ReplyFault}
use Rattle.afp_replies.specs.Layout.{ReplyLayout}
use Rattle.afp_replies.specs.Layouts.{entries}
use Rattle.afp_replies.specs.lemma.Reading.{IsRead}
use Rattle.afp_replies.proofs.read.read_entries.Given as goal

-- whoever goes on from here with the entries to come goes on from the first
abbrev pub invariant-loop-i : goal.invariant-loop-i
invariant-loop-i l =
    (next : List ListEntry → ReplyLayout) (res : Result Reply ReplyFault) → IsRead (entries l.wide l.file_bits l.dir_bits (l.count - l._i) l.rows next) l.cursor res
    → IsRead (entries l.wide l.file_bits l.dir_bits l.count [] next) l.initial.cursor res
