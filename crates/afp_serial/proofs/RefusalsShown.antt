-- What any refusal of any call tells is shown.
use Rattle.afp_replies.proofs.Showing.{what_fits_a_request}
use Rattle.afp_serial.proofs.RowsSound.{row-sound}
use Rattle.afp_serial.specs.ForkLaws.{RefusalsAreShown}
use Rattle.afp_serial.specs.ReplyKinds.{reply_kind}

pub refusals-shown : RefusalsAreShown
refusals-shown w s call r h is = what_fits_a_request r.reply (reply_kind call) r.code ((row-sound call).refuses w s r is h).fits
