-- The law: breaks change no result (this profile).
use Rattle.std.specs.Prelude.{◌≡◌, ℕ, suc, ◌+◌, ◌<◌, true, Bool, false, List, [], ◌∷◌, map, Some, None}
use Rattle.std.specs.List.{AllByRecursion}
use Rattle.afp_base.specs.declared.code.Code.TheVariants as code
use Rattle.afp_calls_grammar.specs.grammar.Call.{IsSpellable, IsTypedCall, canonical_call}
use Rattle.afp_calls_grammar.specs.declared.grammar.call.Call.{Call}
use Rattle.afp_calls_grammar.specs.declared.grammar.call.Call.TheVariants.{ByteRangeLock, CloseFork, CreateFile, Delete, EnumerateExt2, OpenFork, OpenVol, Rename, Write}
use Rattle.afp_replies.specs.Replies.{canonical_reply}
use Rattle.afp_replies.specs.declared.reply.Reply.TheVariants.{Token}
use Rattle.afp_serial.specs.Answer.{answer, link_number}
use Rattle.afp_serial.specs.History.{answers, opened_in, stand}
use Rattle.afp_serial.specs.HouseFault.{house_fault}
use Rattle.afp_serial.specs.Household.{Household}
use Rattle.afp_serial.specs.Limits.{links_end}
use Rattle.afp_serial.specs.Ranges.{is_moment, is_typed_ask, is_typed_house}
use Rattle.afp_serial.specs.Sound.{IsSound}
use Rattle.afp_serial.specs.Token.{session_token}
use Rattle.afp_serial.specs.Users.{guest_id}
use Rattle.afp_serial.specs.World.{Session, World, fresh_world}
use Rattle.afp_serial.specs.declared.ask.Told.TheVariants as told
use Rattle.afp_serial.specs.declared.attachment.Attachment.TheVariants.{Attached}
use Rattle.volume_spec.specs.TypedVolume.{are_bytes}
use Rattle.once_across_breaks.specs.same.Steps.{Step, all_asks, asks_token, back_in, begins, breaks_in, call_ask, calls_on, opens, results, unbroken}

-- the calls of the law
abbrev pub is_of_law : Call → Bool
is_of_law (CreateFile flag volume dir path) = true
is_of_law (Delete volume dir path) = true
is_of_law (Rename volume dir path new_path) = true
is_of_law (OpenFork flag volume dir bits mode path) = true
is_of_law (CloseFork reference) = true
is_of_law (ByteRangeLock flags reference offset length) = true
is_of_law (Write flag reference offset count piece) = true
is_of_law (EnumerateExt2 volume dir file_bits dir_bits count start size path) = true
is_of_law call = false

-- a step whose call is of the law and can be written, at a moment, with an id and bytes in their ranges
pub record IsStep (s : Step) : Type 0 where
  pub call : is_of_law s.call ≡ true
  pub typed : IsTypedCall s.call
  pub spellable : IsSpellable s.call
  pub moment : is_moment s.moment ≡ true
  pub ask : is_typed_ask (call_ask s.id s.call) ≡ true

-- The client's session is the only one. It has the link of that number, which was the last one opened, and its user is the one without a name.
pub record IsAlone (w : World) (s : Session) (link : ℕ) : Type 0 where
  pub sound : IsSound w
  pub only : w.sessions ≡ s ∷ []
  pub place : s.place ≡ Attached (link_number link)
  pub user : s.user ≡ Some guest_id
  pub next : w.next_link ≡ suc link

-- the world in which the client's session has another link, the last one opened
abbrev pub on_link : ℕ → Session → Session
on_link link s = record { number = s.number; place = Attached (link_number link); user = s.user; volumes = s.volumes; cache = s.cache }

abbrev pub with_link : ℕ → World → World
with_link link w = record w { next_link = suc link; sessions = map (on_link link) w.sessions }

-- What is told of the steps' calls is what is told of them where no link breaks; the world that they leave is the same, but for the link; and as many
-- sessions are opened, and taken up again, as links break.
pub record BreaksChangeNothing (w : World) (token : List ℕ) (link : ℕ) (steps : List Step) : Type 0 where
  pub told : results w token link steps ≡ results w token link (map unbroken steps)
  pub left : stand w (all_asks token link steps) ≡ with_link (link + breaks_in steps) (stand w (all_asks token link (map unbroken steps)))
  pub opened : opened_in w (all_asks token link steps) ≡ breaks_in steps
  pub back : back_in w (all_asks token link steps) ≡ breaks_in steps

-- of a client that is alone
abbrev pub BreaksChangeNoResult : Type 0
BreaksChangeNoResult =
    (w : World) (s : Session) (link : ℕ) (steps : List Step)
    → IsAlone w s link
    → AllByRecursion IsStep steps
    → suc (link + breaks_in steps) < links_end
    → BreaksChangeNothing w (session_token w.house.token_key s.number) link steps

-- the world in which a client has opened its first link of a server that nobody has asked, and a volume
abbrev pub opened_world : Household → ℕ → ℕ → List ℕ → World
opened_world house moment bits name = stand (fresh_world house moment) (opens moment bits name)

-- what is known of a house, of a moment, and of FPOpenVol with these fields
pub record IsOpening (house : Household) (moment bits : ℕ) (name : List ℕ) : Type 0 where
  pub faultless : house_fault house ≡ None
  pub typed : is_typed_house house ≡ true
  pub at : is_moment moment ≡ true
  pub bits_typed : IsTypedCall (OpenVol bits name)
  pub spellable : IsSpellable (OpenVol bits name)
  pub bytes : are_bytes (canonical_call (OpenVol bits name)) ≡ true

-- and of a client behind its opening: its session has the number 1
abbrev pub BreaksChangeNothingBehindOpenings : Type 0
BreaksChangeNothingBehindOpenings =
    (house : Household) (moment bits : ℕ) (name : List ℕ) (steps : List Step)
    → IsOpening house moment bits name
    → AllByRecursion IsStep steps
    → suc (1 + breaks_in steps) < links_end
    → BreaksChangeNothing (opened_world house moment bits name) (session_token house.token_key 1) 1 steps

-- What an opening is told: its link has the number 1, its login is told Ok, and FPGetSessionToken the token of the session 1. In all of it one session is
-- opened, and none is taken up again.
pub record TellsFirstOpening (house : Household) (moment bits : ℕ) (name : List ℕ) : Type 0 where
  pub begun : answers (fresh_world house moment) (begins moment) ≡ told.Live None ∷ told.Opened (link_number 1) ∷ told.Reply code.Ok [] false ∷ []
  pub token : answer (stand (fresh_world house moment) (begins moment)) (calls_on 1 moment 2 asks_token) ≡ told.Reply code.Ok (canonical_reply (Token (session_token house.token_key 1))) false
  pub opened : opened_in (fresh_world house moment) (opens moment bits name) ≡ 1
  pub back : back_in (fresh_world house moment) (opens moment bits name) ≡ 0

-- so it is with each FPOpenVol that can be written
abbrev pub FirstOpeningsAreTold : Type 0
FirstOpeningsAreTold = (house : Household) (moment bits : ℕ) (name : List ℕ) → IsTypedCall (OpenVol bits name) → IsSpellable (OpenVol bits name) → TellsFirstOpening house moment bits name
