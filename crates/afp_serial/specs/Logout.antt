-- FPLogout (AFP Reference, "FPLogout").
use Rattle.std.specs.Prelude.{[]}
use Rattle.afp_replies.specs.declared.reply.Reply.TheVariants.{Empty}
use Rattle.afp_serial.specs.World.{CallRow, commits_nothing, without_session}

-- It is never refused. The session ends, with its open forks and locks.
abbrev pub logout_row : CallRow
logout_row = record {
  refusals = λ w s. [];
  effect = λ w s. record { world = without_session w s.number; reply = Empty };
  committed = commits_nothing;
}
