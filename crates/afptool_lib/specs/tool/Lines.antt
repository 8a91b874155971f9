-- The lines that the tool prints (this profile).
use Rattle.std.specs.Prelude.{ℕ, ◌+◌, ◌/◌, ◌%◌, nat_lt, Bool, true, false, List, [], ◌∷◌, ◌++◌, length, codes, if◌then◌else◌, Option, Some, None}
use Rattle.std.specs.Fmt.{decimal}
use Rattle.dsi_frame.specs.Frame.{Frame, command_number, header_of, header_length}
use Rattle.dsi_frame.specs.declared.frame.Header.{Header}
use Rattle.dsi_frame.specs.declared.frame.Reason.{Reason}
use Rattle.dsi_frame.specs.declared.frame.Reason.TheVariants as reasons
use Rattle.capture_made.specs.declared.made.counting.Tallied.{Tallied}
use Rattle.capture_log.specs.declared.replay_end.ReplayEnd.{ReplayEnd}
use Rattle.capture_log.specs.declared.replay_end.ReplayEnd.TheVariants as ends

-- a hexadecimal digit in lower case
abbrev pub hex_digit : ℕ → ℕ
hex_digit n = if nat_lt n 10 then 48 + n else 87 + n

-- a byte in two of them
abbrev pub hex_byte : ℕ → List ℕ
hex_byte byte = hex_digit (byte / 16) ∷ hex_digit (byte % 16) ∷ []

-- a capture that is the same: how many connections were fed, and how many entries the history has
abbrev pub same_line : ℕ → ℕ → List ℕ
same_line links entries = codes "links " ++ decimal links ++ codes " entries " ++ decimal entries ++ codes " same\n"

-- the byte that stands there, or none
abbrev pub got_word : Option ℕ → List ℕ
got_word None = codes "none"
got_word (Some byte) = hex_byte byte

-- a connection whose output differs
abbrev pub differs_line : ℕ → ℕ → ℕ → Option ℕ → List ℕ
differs_line link at want got =
    codes "differs link " ++ decimal link ++ codes " at " ++ decimal at ++ codes " want " ++ hex_byte want ++ codes " got " ++ got_word got ++ codes "\n"

-- a bad line, or a missing one
abbrev pub bad_line : ℕ → List ℕ
bad_line line = codes "bad line " ++ decimal line ++ codes "\n"

-- what is printed of a replay
abbrev pub replay_text : ReplayEnd → List ℕ
replay_text (ends.Same links entries replies refused) = same_line links entries
replay_text (ends.Differs link at want got) = differs_line link at want got
replay_text (ends.BadCapture line) = bad_line line
replay_text ends.ReadFault = []
replay_text ends.Spent = []
replay_text ends.Memory = []

-- the status that it ends with, where all was printed
abbrev pub replay_status : ReplayEnd → ℕ
replay_status (ends.Same links entries replies refused) = 0
replay_status (ends.Differs link at want got) = 1
replay_status (ends.BadCapture line) = 3
replay_status ends.ReadFault = 4
replay_status ends.Spent = 8
replay_status ends.Memory = 6

-- what is counted in a made capture
abbrev pub tally_line : Tallied → List ℕ
tally_line tallied =
    codes "links " ++ (decimal tallied.links ++ (codes " entries " ++ (decimal tallied.entries ++ (codes " replies " ++ (decimal tallied.replies ++ (codes " refused " ++ (decimal tallied.refused
    ++ (codes " nodes " ++ (decimal tallied.nodes ++ codes "\n")))))))))

-- what is counted in a drill: its steps, how often a link breaks, how many of its calls are told Ok, and how many are not
abbrev pub drill_line : ℕ → ℕ → ℕ → ℕ → List ℕ
drill_line commands breaks ok refused =
    codes "commands " ++ (decimal commands ++ (codes " breaks " ++ (decimal breaks ++ (codes " ok " ++ (decimal ok ++ (codes " refused " ++ (decimal refused ++ codes "\n")))))))

abbrev pub kind_word : Bool → List ℕ
kind_word true = codes " reply"
kind_word false = codes " request"

-- the id of a frame, and its payload's length
abbrev pub sizes_text : ℕ → ℕ → List ℕ
sizes_text id size = codes " id " ++ (decimal id ++ (codes " length " ++ (decimal size ++ codes "\n")))

-- a frame that begins at a place, by its header
abbrev pub frame_line : ℕ → Header → List ℕ
frame_line at h = codes "frame at " ++ (decimal at ++ (kind_word h.reply ++ (codes " command " ++ (decimal (command_number h.command) ++ sizes_text h.id h.length))))

-- frames, the first of which begins at a place
abbrev pub frame_lines : ℕ → List Frame → List ℕ
frame_lines at [] = []
frame_lines at (f ∷ frames) = frame_line at (header_of f) ++ frame_lines (at + (header_length + length f.payload)) frames

-- less than a frame is left
abbrev pub rest_line : ℕ → List ℕ
rest_line n = codes "rest " ++ decimal n ++ codes "\n"

abbrev pub reason_word : Reason → List ℕ
reason_word reasons.Flags = codes "flags\n"
reason_word reasons.Command = codes "command\n"
reason_word reasons.Length = codes "length\n"
reason_word reasons.Offset = codes "offset\n"
reason_word reasons.Phase = codes "phase\n"
reason_word reasons.Unexpected = codes "unexpected\n"

-- a bad header at a place
abbrev pub bad_frame_line : ℕ → Reason → List ℕ
bad_frame_line at reason = codes "bad at " ++ decimal at ++ codes " " ++ reason_word reason
