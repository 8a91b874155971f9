-- How a script's client ends, and the last line that it prints then (this profile).
use Rattle.std.specs.Prelude.{ℕ, List, [], ◌++◌, codes}
use Rattle.std.specs.Fmt.{decimal, signed_decimal}
use Rattle.afp_base.specs.Code.{number_of}
use Rattle.client_script_lines.specs.texts.Texts.{newline}
use Rattle.afp_client.specs.declared.links.links.TalkEnd.{TalkEnd}
use Rattle.afp_client.specs.declared.links.links.TalkEnd.TheVariants as talks
use Rattle.client_script_run.specs.declared.asker.asker.AskEnd.{AskEnd}
use Rattle.client_script_run.specs.declared.asker.asker.AskEnd.TheVariants as asks
use Rattle.client_script_run.specs.declared.run.ends.ClientEnd.{ClientEnd}
use Rattle.client_script_run.specs.declared.run.ends.ClientEnd.TheVariants as ends

-- by why its links end, at the line of this number
abbrev pub end_of_links : TalkEnd → ℕ → ClientEnd
end_of_links (talks.Refused c) line = ends.Refused c
end_of_links (talks.Lost c) line = ends.SessionLost line
end_of_links (talks.Bad at) line = ends.BadReply at
end_of_links talks.Broken line = ends.Broken
end_of_links talks.DialFault line = ends.DialFault
end_of_links talks.Spent line = ends.Spent
end_of_links talks.Memory line = ends.Memory

abbrev pub end_of_ask : AskEnd → ℕ → ClientEnd
end_of_ask (asks.Links end) line = end_of_links end line
end_of_ask (asks.BadReply at) line = ends.BadReply at
end_of_ask asks.Memory line = ends.Memory

-- a word and what stands behind it
abbrev pub worded_line : List ℕ → List ℕ → List ℕ
worded_line word rest = word ++ (rest ++ newline)

-- the last line
abbrev pub last_line : ClientEnd → List ℕ
last_line ends.Done = []
last_line (ends.Refused c) = worded_line (codes "refused ") (signed_decimal (number_of c))
last_line (ends.SessionLost line) = worded_line (codes "lost ") (decimal line)
last_line (ends.BadReply at) = codes "bad reply\n"
last_line (ends.BadLine line) = worded_line (codes "bad line ") (decimal line)
last_line ends.ReadFault = codes "source fault\n"
last_line ends.WriteFault = []
last_line ends.Broken = codes "broken\n"
last_line ends.DialFault = codes "dial fault\n"
last_line ends.Spent = codes "spent\n"
last_line ends.Memory = codes "no memory\n"
