-- The requests by which a client opens a link (AFP over TCP; AFP Reference, "Login Commands"; their order is this profile's).
use Rattle.std.specs.Prelude.{ℕ, ◌%◌, ◌≤◌, false, List, [], ◌++◌, length, replicate, Option, Some, None}
use Rattle.byteorder.specs.Endian.{big_bytes}
use Rattle.dsi_frame.specs.Frame.{Frame}
use Rattle.dsi_frame.specs.declared.frame.DsiCommand.TheVariants as commands
use Rattle.dsi_session.specs.Options.{option_spelling, number_option, attention_quantum_type}
use Rattle.afp_calls_grammar.specs.grammar.Call.{canonical_call}
use Rattle.afp_calls_grammar.specs.grammar.LoginNames.{version_3_3, no_user, cleartext}
use Rattle.afp_calls_grammar.specs.declared.grammar.call.Call.{Call}
use Rattle.afp_calls_grammar.specs.declared.grammar.call.Call.TheVariants.{Login as LoginCall, GetSessionToken, DisconnectOldSession}
use Rattle.afp_client.specs.declared.session.login.Login.{Login}
use Rattle.afp_client.specs.declared.session.stage.OpeningStep.{OpeningStep}
use Rattle.afp_client.specs.declared.session.stage.OpeningStep.TheVariants as steps

-- what follows version and UAM in a login by name and password: the name with its count, a pad where it is needed for an even place from
-- the command byte, and the password. The count stands at the odd place 25, so a name of odd length is followed by a pad.
abbrev pub login_tail : List ℕ → List ℕ → List ℕ
login_tail name password = big_bytes 1 (length name) ++ name ++ replicate (length name % 2) 0 ++ password

-- FPLogin, as a guest or by name and password
abbrev pub login_of : Option (List ℕ × List ℕ) → Call
login_of None = LoginCall version_3_3 no_user []
login_of (Some user) = LoginCall version_3_3 cleartext (login_tail user.0 user.1)

abbrev pub login_call : Login → Call
login_call login = login_of login.user

-- the most bytes that a count of 1 byte tells
abbrev pub most_user_name : ℕ
most_user_name = 255

-- the user's name fits its count
abbrev pub FitsUser : Option (List ℕ × List ℕ) → Type 0
FitsUser None = Unit {0}
FitsUser (Some user) = length user.0 ≤ most_user_name

abbrev pub FitsLogin : Login → Type 0
FitsLogin login = FitsUser login.user

-- the last request of an opening: the session that the token names is taken up, or a token is asked for
abbrev pub session_call : Option (List ℕ) → Call
session_call None = GetSessionToken 0 None []
session_call (Some token) = DisconnectOldSession 0 token

-- the attention quantum that the client tells (AFP over TCP, "DSIOpenSession")
abbrev pub attention_quantum : ℕ
attention_quantum = 1024

-- a request with this id whose block is a call without data
abbrev pub command_frame : ℕ → Call → Frame
command_frame id call = record { reply = false; command = commands.Command; id = id; word = 0; payload = canonical_call call }

-- DSIOpenSession
abbrev pub open_session_frame : ℕ → Frame
open_session_frame id =
    record { reply = false; command = commands.OpenSession; id = id; word = 0; payload = option_spelling (number_option attention_quantum_type attention_quantum) }

-- a request of an opening, with this id
abbrev pub opening_frame : Login → Option (List ℕ) → OpeningStep → ℕ → Frame
opening_frame login token steps.OpenSession id = open_session_frame id
opening_frame login token steps.Login id = command_frame id (login_call login)
opening_frame login token steps.Session id = command_frame id (session_call token)
