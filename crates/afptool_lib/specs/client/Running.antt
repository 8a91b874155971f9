-- A script that a client carries out, and the exit status (this profile).
use Rattle.std.specs.Prelude.{◌≡◌, ℕ}
use Rattle.afp_base.specs.Counts.{CountsOn}
use Rattle.afp_client.specs.declared.session.login.Login.{Login}
use Rattle.afp_outside.specs.ends.Dialer.{DialerState}
use Rattle.afp_outside.specs.ends.Link.{LinkState}
use Rattle.afp_outside.specs.ends.Sink.{SinkState}
use Rattle.afp_outside.specs.ends.Source.{SourceState}
use Rattle.client_script_run.specs.run.Runs.{RunsClient}
use Rattle.client_script_run.specs.declared.run.ends.ClientEnd.{ClientEnd}
use Rattle.client_script_run.specs.declared.run.ends.ClientEnd.TheVariants as ends

-- the status of an end
abbrev pub status_of : ClientEnd → ℕ
status_of ends.Done = 0
status_of (ends.Refused c) = 1
status_of (ends.SessionLost line) = 9
status_of (ends.BadReply at) = 10
status_of (ends.BadLine line) = 3
status_of ends.ReadFault = 4
status_of ends.WriteFault = 5
status_of ends.Broken = 7
status_of ends.DialFault = 7
status_of ends.Spent = 8
status_of ends.Memory = 6

-- A client with this login carried out the script of the source over links of the dialer, and the status is that of its end. A fault that it
-- tells was counted.
pub record RunsScript {L : Type 0} (state : L → LinkState) (turns : ℕ) (login : Login) (old dialer : DialerState L) (start source : SourceState) (sink printed : SinkState) (status : ℕ) : Type 0 where
  pub end : ClientEnd
  pub runs : RunsClient state turns login old start sink end dialer source printed
  pub status_is : status ≡ status_of end
  pub read_fault : end ≡ ends.ReadFault → CountsOn 1 start.faults source.faults
  pub write_fault : end ≡ ends.WriteFault → CountsOn 1 sink.faults printed.faults
