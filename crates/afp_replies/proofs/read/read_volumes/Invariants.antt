use Rattle.std.proofs.Common.{◌-◌, List, [], Result}
use Rattle.afp_replies.specs.declared.reply.Reply.{Reply}
use Rattle.afp_replies.specs.declared.reply.ReplyFault.{ReplyFault}
use Rattle.afp_replies.specs.declared.volumes.VolumeEntry.{VolumeEntry}
use Rattle.afp_replies.specs.Layout.{ReplyLayout}
use Rattle.afp_replies.specs.Layouts.{volumes}
use Rattle.afp_replies.specs.lemma.Reading.{IsRead}
use Rattle.afp_replies.proofs.read.read_volumes.Given as goal

-- whoever goes on from here with the volumes to come goes on from the first
abbrev pub invariant-loop-i : goal.invariant-loop-i
invariant-loop-i l =
    (next : List VolumeEntry → ReplyLayout) (res : Result Reply ReplyFault) → IsRead (volumes (l.count - l._i) l.volumes next) l.cursor res → IsRead (volumes l.count [] next) l.initial.cursor res
