-- Worked schedules that break the law where a premise is not met: others act in the client's session, or so many commands in a row have no effect that ids
-- come round.
use Rattle.std.specs.Prelude.{◌≡◌, ℕ, zero, suc, List, [], ◌∷◌, ◌++◌, Some}
use Rattle.once_across_breaks.specs.once.Messages.{Does, Other, Rejoin, kept}
use Rattle.once_across_breaks.specs.once.Server.{Calls, Open, Ran, entry}
use Rattle.once_across_breaks.specs.once.Run.{Run, Event, Commands, ToServer, ToClient, Others, run_of, start}
use Rattle.once_across_breaks.specs.once.Once.{effective}
use Rattle.once_across_breaks.specs.once.Counting.{Counting, counting, empty}
use Rattle.once_across_breaks.specs.once.Example.{FirstIsKept, SecondIsKept, calm, first_done, first_sent, hungry, opening, second_sent}

-- Others open a session, come back by the client's token, and ask a command: it is in effect on the client's session, and the client has no result of it.
abbrev pub taken_run : FirstIsKept → Run Counting
taken_run p =
    run_of counting (start empty)
    (opening 0 (Others (entry 0 5 Open Ran) ∷ Others (entry 2 6 (Calls 0 (Rejoin (1 ∷ []))) Ran) ∷ Others (entry 2 7 (Calls 9 (Does (Other (record { sent = first_sent; kept = p })))) Ran) ∷ []))

pub record OthersTookTheSession : Type 0 where
  pub first : FirstIsKept
  pub token : (taken_run first).client.token ≡ Some (1 ∷ [])
  pub results : (taken_run first).client.results ≡ []
  pub effects : effective counting 1 empty (taken_run first).history ≡ first_done first 9 0 ∷ []

-- Others ask a command on the client's own link.
abbrev pub shared_run : FirstIsKept → Run Counting
shared_run p = run_of counting (start empty) (opening 0 (Others (entry 1 5 (Calls 9 (Does (Other (record { sent = first_sent; kept = p })))) Ran) ∷ []))

pub record OthersAskedOnTheLink : Type 0 where
  pub first : FirstIsKept
  pub token : (shared_run first).client.token ≡ Some (1 ∷ [])
  pub results : (shared_run first).client.results ≡ []
  pub effects : effective counting 1 empty (shared_run first).history ≡ first_done first 9 0 ∷ []

-- The request that is under way is told want of memory.
abbrev pub lacks : List Event → List Event
lacks rest = ToServer 0 6 hungry ∷ ToClient ∷ rest

-- So many commands, each told want of memory four times, which is its result then: each draws four ids.
unfoldable pub missed : SecondIsKept → ℕ → List Event → List Event
missed q zero rest = rest
missed q (suc n) rest = Commands (Other (record { sent = second_sent; kept = q })) ∷ lacks (lacks (lacks (lacks (missed q n rest))))

-- so many, and as many ids less four
abbrev pub many : ℕ
many = 16383

-- a command runs
abbrev pub until_told : FirstIsKept → List Event
until_told p = opening 0 (Commands (Other (record { sent = first_sent; kept = p })) ∷ ToServer 0 6 calm ∷ [])

-- It is told so. Behind many that have no effect it is asked once more: told want of memory three times, it has the id of the first.
abbrev pub around : FirstIsKept → SecondIsKept → ℕ → List Event
around p q n =
    until_told p ++ ToClient ∷ missed q n (Commands (Other (record { sent = first_sent; kept = p })) ∷ lacks (lacks (lacks (ToServer 0 6 calm ∷ ToClient ∷ []))))

abbrev pub around_run : FirstIsKept → SecondIsKept → ℕ → Run Counting
around_run p q n = run_of counting (start empty) (around p q n)

-- It is told the answer of the first: two results, and one of them ran.
pub record AnOldAnswerIsTold : Type 0 where
  pub first : FirstIsKept
  pub second : SecondIsKept
  pub results : kept (around_run first second many).client.results ≡ first_done first 3 0 ∷ first_done first 3 0 ∷ []
  pub ran : (around_run first second many).world.ran ≡ 1
  pub effects : effective counting 1 empty (around_run first second many).history ≡ first_done first 3 0 ∷ []
