use Rattle.afp_serial.proofs.ExchangedBytes.{exchanges-keep, exchanges-keep-opens}
use Rattle.afp_serial.proofs.fork_laws.exchanged_forks_keep_their_bytes.Goals as goal

pub returns-clause-bytes : goal.returns-clause-bytes
returns-clause-bytes c = exchanges-keep

pub returns-clause-opens : goal.returns-clause-opens
returns-clause-opens c = exchanges-keep-opens
