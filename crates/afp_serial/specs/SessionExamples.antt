-- Worked examples of logins, and of the calls that tell of users, of messages and of the server (values worked by hand).
use Rattle.std.specs.Prelude.{◌≡◌, ℕ, List, [], ◌∷◌, ◌++◌, Option, None, Some, codes}
use Rattle.afp_base.specs.declared.code.Code.TheVariants.{BadUAM, BadVersNum, BitmapErr, ItemNotFound, Ok, ParamErr, UserNotAuth}
use Rattle.afp_calls_grammar.specs.grammar.LoginNames.{cleartext, no_user, version_3_3}
use Rattle.afp_serial.specs.Answer.{new_session}
use Rattle.afp_serial.specs.ForkExamples.{tells}
use Rattle.afp_serial.specs.GetSrvrMsg.{get_srvr_msg_row}
use Rattle.afp_serial.specs.GetSrvrParms.{get_srvr_parms_row}
use Rattle.afp_serial.specs.GetUserInfo.{get_user_info_row}
use Rattle.afp_serial.specs.Household.{Household}
use Rattle.afp_serial.specs.Login.{login_ext_row, login_row}
use Rattle.afp_serial.specs.MapID.{map_id_row}
use Rattle.afp_serial.specs.MapName.{map_name_row}
use Rattle.afp_serial.specs.World.{World, Session, start_world}

-- the password `secret` in 8 bytes, and another one that is as long
abbrev pub secret : List ℕ
secret = 0x73 ∷ 0x65 ∷ 0x63 ∷ 0x72 ∷ 0x65 ∷ 0x74 ∷ 0x00 ∷ 0x00 ∷ []

abbrev pub zeros : List ℕ
zeros = 0 ∷ 0 ∷ 0 ∷ 0 ∷ 0 ∷ 0 ∷ 0 ∷ 0 ∷ []

-- a house with the users `ann`, and `guest`, who is not the user without a name
abbrev pub some_house : Household
some_house = record {
  server = codes "Mac";
  signature = [];
  users = (record { id = 501; name = codes "ann"; password = secret }) ∷ (record { id = 502; name = codes "guest"; password = zeros }) ∷ [];
  volumes = codes "Share" ∷ codes "T" ∷ [];
  message = codes "Hi";
  token_key = [];
}

abbrev pub some_world : Option ℕ → World
some_world drain = record (start_world some_house 100 []) { drain = drain }

-- a session that nobody has logged in to, and one of a user
abbrev pub nobody : Session
nobody = new_session 1

abbrev pub of_user : ℕ → Session
of_user id = record (new_session 2) { user = Some id }

-- the tail of an FPLogin of `ann` at place 25: the name ends at 29, so one pad byte follows
abbrev pub as_ann : List ℕ → List ℕ
as_ann password = 0x03 ∷ 0x61 ∷ 0x6e ∷ 0x6e ∷ 0x00 ∷ password

-- logins: refusals in their order, whatever else is wrong
abbrev pub LogsIn : Type 0
LogsIn =
    tells (some_world None)
    ((nobody, login_row version_3_3 cleartext (as_ann zeros))
    ∷ (nobody, login_row version_3_3 cleartext (as_ann secret))
    ∷ (nobody, login_row version_3_3 cleartext (as_ann secret ++ 0x00 ∷ []))
    ∷ (nobody, login_row version_3_3 cleartext (0x03 ∷ 0x61 ∷ 0x6e ∷ 0x6e ∷ secret))
    ∷ (nobody, login_row version_3_3 cleartext (0x03 ∷ 0x61 ∷ 0x6e ∷ 0x6e ∷ 0x00 ∷ 0x73 ∷ 0x65 ∷ 0x63 ∷ 0x72 ∷ 0x65 ∷ 0x74 ∷ []))
    ∷ (nobody, login_row version_3_3 cleartext [])
    ∷ (nobody, login_row version_3_3 (codes "DHX2") [])
    ∷ (nobody, login_row (codes "AFP2.2") (codes "DHX2") [])
    ∷ (of_user 500, login_row (codes "AFP2.2") (codes "DHX2") [])
    ∷ (nobody, login_row version_3_3 no_user [])
    ∷ (nobody, login_ext_row version_3_3 cleartext (codes "ann") secret)
    ∷ (nobody, login_ext_row version_3_3 cleartext (codes "Ann") secret)
    ∷ (nobody, login_ext_row version_3_3 cleartext (codes "ann") (0x73 ∷ []))
    ∷ [])
    ≡ (UserNotAuth, [])
    ∷ (Ok, [])
    ∷ (Ok, [])
    ∷ (ParamErr, [])
    ∷ (ParamErr, [])
    ∷ (ParamErr, [])
    ∷ (BadUAM, [])
    ∷ (BadVersNum, [])
    ∷ (ParamErr, [])
    ∷ (Ok, [])
    ∷ (Ok, [])
    ∷ (UserNotAuth, [])
    ∷ (ParamErr, [])
    ∷ []

-- users and groups by id and by name: where a user of the house is named `guest`, the name alone is that of the user without one
abbrev pub MapsUsers : Type 0
MapsUsers =
    tells (some_world None)
    ((of_user 500, map_id_row 1 501)
    ∷ (of_user 500, map_id_row 1 500)
    ∷ (of_user 500, map_id_row 3 502)
    ∷ (of_user 500, map_id_row 1 503)
    ∷ (of_user 500, map_id_row 1 0)
    ∷ (of_user 500, map_id_row 2 500)
    ∷ (of_user 500, map_id_row 4 501)
    ∷ (of_user 500, map_name_row 3 (codes "ann"))
    ∷ (of_user 500, map_name_row 1 (codes "guest"))
    ∷ (of_user 500, map_name_row 3 (codes "Ann"))
    ∷ (of_user 500, map_name_row 2 (codes "everyone"))
    ∷ (of_user 500, map_name_row 4 (codes "ann"))
    ∷ (of_user 500, map_name_row 4 [])
    ∷ [])
    ≡ (Ok, 0x03 ∷ 0x61 ∷ 0x6e ∷ 0x6e ∷ [])
    ∷ (Ok, 0x05 ∷ 0x67 ∷ 0x75 ∷ 0x65 ∷ 0x73 ∷ 0x74 ∷ [])
    ∷ (Ok, 0x00 ∷ 0x05 ∷ 0x67 ∷ 0x75 ∷ 0x65 ∷ 0x73 ∷ 0x74 ∷ [])
    ∷ (ItemNotFound, [])
    ∷ (ItemNotFound, [])
    ∷ (Ok, 0x08 ∷ 0x65 ∷ 0x76 ∷ 0x65 ∷ 0x72 ∷ 0x79 ∷ 0x6f ∷ 0x6e ∷ 0x65 ∷ [])
    ∷ (ItemNotFound, [])
    ∷ (Ok, 0x00 ∷ 0x00 ∷ 0x01 ∷ 0xf5 ∷ [])
    ∷ (Ok, 0x00 ∷ 0x00 ∷ 0x01 ∷ 0xf4 ∷ [])
    ∷ (ItemNotFound, [])
    ∷ (Ok, 0x00 ∷ 0x00 ∷ 0x01 ∷ 0xf4 ∷ [])
    ∷ (ItemNotFound, [])
    ∷ (Ok, 0x00 ∷ 0x00 ∷ 0x00 ∷ 0x00 ∷ [])
    ∷ []

-- a session asks of its own user, by bit 0 of the flag or by its id, and of no other
abbrev pub TellsOwnUser : Type 0
TellsOwnUser =
    tells (some_world None)
    ((of_user 500, get_user_info_row 1 0 3)
    ∷ (of_user 501, get_user_info_row 0 501 1)
    ∷ (of_user 501, get_user_info_row 0xfe 501 2)
    ∷ (of_user 501, get_user_info_row 0 500 1)
    ∷ (of_user 501, get_user_info_row 1 500 0)
    ∷ (of_user 501, get_user_info_row 0 500 4)
    ∷ [])
    ≡ (Ok, 0x00 ∷ 0x03 ∷ 0x00 ∷ 0x00 ∷ 0x01 ∷ 0xf4 ∷ 0x00 ∷ 0x00 ∷ 0x01 ∷ 0xf4 ∷ [])
    ∷ (Ok, 0x00 ∷ 0x01 ∷ 0x00 ∷ 0x00 ∷ 0x01 ∷ 0xf5 ∷ [])
    ∷ (Ok, 0x00 ∷ 0x02 ∷ 0x00 ∷ 0x00 ∷ 0x01 ∷ 0xf4 ∷ [])
    ∷ (ItemNotFound, [])
    ∷ (BitmapErr, [])
    ∷ (BitmapErr, [])
    ∷ []

-- messages, before the server is about to stop
abbrev pub TellsMessages : Type 0
TellsMessages =
    tells (some_world None)
    ((of_user 500, get_srvr_msg_row 0 1)
    ∷ (of_user 500, get_srvr_msg_row 0 3)
    ∷ (of_user 500, get_srvr_msg_row 1 1)
    ∷ (of_user 500, get_srvr_msg_row 1 2)
    ∷ (of_user 500, get_srvr_msg_row 2 4)
    ∷ (of_user 500, get_srvr_msg_row 0 4)
    ∷ [])
    ≡ (Ok, 0x00 ∷ 0x00 ∷ 0x00 ∷ 0x01 ∷ 0x02 ∷ 0x48 ∷ 0x69 ∷ [])
    ∷ (Ok, 0x00 ∷ 0x00 ∷ 0x00 ∷ 0x03 ∷ 0x00 ∷ 0x02 ∷ 0x48 ∷ 0x69 ∷ [])
    ∷ (Ok, 0x00 ∷ 0x01 ∷ 0x00 ∷ 0x01 ∷ 0x00 ∷ [])
    ∷ (Ok, 0x00 ∷ 0x01 ∷ 0x00 ∷ 0x02 ∷ [])
    ∷ (ParamErr, [])
    ∷ (BitmapErr, [])
    ∷ []

-- and since then: 22 bytes
abbrev pub TellsClosing : Type 0
TellsClosing = tells (some_world (Some 90)) ((of_user 500, get_srvr_msg_row 1 1) ∷ []) ≡ (Ok, 0x00 ∷ 0x01 ∷ 0x00 ∷ 0x01 ∷ 0x16 ∷ codes "The server is closing.") ∷ []

-- the time, 100, and two volumes
abbrev pub TellsVolumes : Type 0
TellsVolumes =
    tells (some_world None) ((of_user 500, get_srvr_parms_row) ∷ [])
    ≡ (Ok, 0x00 ∷ 0x00 ∷ 0x00 ∷ 0x64 ∷ 0x02 ∷ 0x00 ∷ 0x05 ∷ 0x53 ∷ 0x68 ∷ 0x61 ∷ 0x72 ∷ 0x65 ∷ 0x00 ∷ 0x01 ∷ 0x54 ∷ []) ∷ []
