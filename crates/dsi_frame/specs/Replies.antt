-- Replies, and the bytes that are written for them (AFP over TCP, "DSI header").
use Rattle.std.specs.Prelude.{ℕ, true, List, [], ◌∷◌, Option, Some, None, if◌then◌else◌}
use Rattle.std.specs.List.{flat_map}
use Rattle.std.specs.Int.{w32, cast_unsigned}
use Rattle.afp_base.specs.Code.{number_of}
use Rattle.afp_base.specs.declared.code.Code.{Code}
use Rattle.dsi_frame.specs.Frame.{Frame, canonical_frame}

-- the word of a reply: the code's number, in 32 bits
abbrev pub code_word : Code → ℕ
code_word code = cast_unsigned w32 (number_of code)

-- the reply to a request: its command and id again, a code, and a payload
abbrev pub reply_to : Frame → Code → List ℕ → Frame
reply_to f code payload = record { reply = true; command = f.command; id = f.id; word = code_word code; payload = payload }

-- a frame as a list of one, or none
abbrev pub listed : Option Frame → List Frame
listed None = []
listed (Some f) = f ∷ []

-- the bytes that are written for frames: their canonical spellings, one after another
abbrev pub spelling_of : List Frame → List ℕ
spelling_of frames = flat_map canonical_frame frames

-- the frames among them that are replies
abbrev pub only_replies : List Frame → List Frame
only_replies [] = []
only_replies (f ∷ frames) = if f.reply then f ∷ only_replies frames else only_replies frames
