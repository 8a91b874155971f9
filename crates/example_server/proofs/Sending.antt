-- A log may cross threads.
use denote.RattleType.{RattleType}
use denote.Param.Send.{IsSend, owning_send, sendable}
use Rattle.ghost_log.specs.contracts.log.log.Log as ghost_list

pub log_send : (A : RattleType) → IsSend A → IsSend (ghost_list.the_row A)
log_send A a = owning_send (ghost_list.the_type A) (search sendable, tt) (λ d. tt) (λ k x w. tt)
