-- FPGetSrvrInfo (AFP Reference, "FPGetSrvrInfo").
use Rattle.std.specs.Prelude.{[]}
use Rattle.afp_replies.specs.declared.reply.Reply.TheVariants.{Status}
use Rattle.afp_serial.specs.StatusBlock.{status_block}
use Rattle.afp_serial.specs.World.{CallRow, only_tells}

-- It is never refused, and asks for no user: the block that GetStatus tells before a session.
abbrev pub get_srvr_info_row : CallRow
get_srvr_info_row = only_tells (λ w s. []) (λ w s. Status (status_block w.house))
