-- Worked schedules: a command runs, its reply is lost with its link, and the client comes back.
use Rattle.std.specs.Prelude.{◌≡◌, ℕ, true, false, List, [], ◌∷◌, Some}
use Rattle.afp_serial.specs.SessionViews.{AsksKept, wish_of}
use Rattle.once_across_breaks.specs.once.Messages.{Done, Fine, Other, Sent, request_of}
use Rattle.once_across_breaks.specs.once.Run.{Run, Wish, Event, Commands, ToServer, ToClient, Loses, Breaks, run_of, start}
use Rattle.once_across_breaks.specs.once.Once.{AllAllowed, effective}
use Rattle.once_across_breaks.specs.once.Counting.{Counting, counting, empty}

abbrev pub calm : Wish
calm = record { no_sweep = false; memory = false; fault = false }

abbrev pub hungry : Wish
hungry = record { no_sweep = false; memory = true; fault = false }

-- bytes both ways, three times: the opening
abbrev pub opening : ℕ → List Event → List Event
opening link rest = ToServer link 5 calm ∷ ToClient ∷ ToServer link 5 calm ∷ ToClient ∷ ToServer link 5 calm ∷ ToClient ∷ rest

-- two requests whose bytes no command begins
abbrev pub first_sent : Sent
first_sent = record { write = false; offset = 0; payload = 0 ∷ []; typed = λ i. true; sized = λ i. true }

abbrev pub second_sent : Sent
second_sent = record { write = false; offset = 0; payload = 0 ∷ 0 ∷ []; typed = λ i. true; sized = λ i. true }

abbrev pub FirstIsKept : Type 0
FirstIsKept = wish_of (request_of 0 first_sent) ≡ AsksKept

abbrev pub SecondIsKept : Type 0
SecondIsKept = wish_of (request_of 0 second_sent) ≡ AsksKept

-- A command runs, the server end is lost, the link breaks; the client comes back, and is told what is kept; another command runs.
abbrev pub broken : FirstIsKept → SecondIsKept → List Event
broken p q =
    opening 0 (Commands (Other (record { sent = first_sent; kept = p })) ∷ ToServer 0 6 calm ∷ Loses 0 7 calm ∷ Breaks
    ∷ opening 1 (ToServer 1 8 calm ∷ ToClient ∷ Commands (Other (record { sent = second_sent; kept = q })) ∷ ToServer 1 9 calm ∷ ToClient ∷ []))

abbrev pub broken_run : FirstIsKept → SecondIsKept → Run Counting
broken_run p q = run_of counting (start empty) (broken p q)

abbrev pub first_done : FirstIsKept → ℕ → ℕ → Done
first_done p id count = record { id = id; call = Other (record { sent = first_sent; kept = p }); answer = Fine (count ∷ []) }

abbrev pub second_done : SecondIsKept → ℕ → ℕ → Done
second_done q id count = record { id = id; call = Other (record { sent = second_sent; kept = q }); answer = Fine (count ∷ []) }

-- the client holds the token of session 1 and has both results; each command ran once; the schedule meets the premises
pub record RunsOnce : Type 0 where
  pub first : FirstIsKept
  pub second : SecondIsKept
  pub token : (broken_run first second).client.token ≡ Some (1 ∷ [])
  pub results : (broken_run first second).client.results ≡ first_done first 3 0 ∷ second_done second 4 1 ∷ []
  pub ran : (broken_run first second).world.ran ≡ 2
  pub effects : effective counting 1 empty (broken_run first second).history ≡ first_done first 3 0 ∷ second_done second 4 1 ∷ []
  pub allowed : AllAllowed counting 1 (start empty) (broken first second)

-- Without the premise on want of memory: the command that ran is told of it behind the break, is sent under another id, and runs again.
abbrev pub hungry_run : FirstIsKept → Run Counting
hungry_run p =
    run_of counting (start empty)
    (opening 0 (Commands (Other (record { sent = first_sent; kept = p })) ∷ ToServer 0 6 calm ∷ Breaks
    ∷ opening 1 (ToServer 1 8 hungry ∷ ToClient ∷ ToServer 1 9 calm ∷ ToClient ∷ [])))

pub record RunsTwice : Type 0 where
  pub first : FirstIsKept
  pub results : (hungry_run first).client.results ≡ first_done first 4 1 ∷ []
  pub ran : (hungry_run first).world.ran ≡ 2
  pub effects : effective counting 1 empty (hungry_run first).history ≡ first_done first 3 0 ∷ first_done first 4 1 ∷ []
