use Rattle.sqlite.specs.Files.{file_state}
use Rattle.sqlite_wal.specs.Files.{image_at}
use Rattle.sqlite_durable_file.proofs.Opened.{has-found}
use Rattle.sqlite_durable_file.proofs.keeper.open_from.Goals as goal

pub returns-in-Ok-clause-found : goal.returns-in-Ok-clause-found
returns-in-Ok-clause-found g c =
    has-found c.started.result (λ k. file_state k.database) (file_state c.in-Ok.connection) (image_at g.S.Start) c.started.ensures.clean c.started.ensures.tells c.started.ensures.found c.in-Ok.ensures.opened c.in-Ok.ensures.found
