use denote.Exit.{no}
use denote.Param.Sent.{Sends}
use denote.Param.Send.{arg_send}
use Rattle.sqlite_durable_file.proofs.Sending.{keeper_send}
use Rattle.afpd.proofs.serve_kept.OwnLists as lists

pub sends-part-1-1 : Sends lists.part-1-1
sends-part-1-1 i = arg_send _ no _ keeper_send
