-- The forms of a capture's lines (docs/CAPTURES.md; this profile).
use Rattle.afp_base.specs.Limits.{password_size, signature_size, token_key_size}
use Rattle.std.specs.Prelude.{ℕ, ◌==◌, ◌&&◌, nat_le, nat_lt, Bool, if◌then◌else◌, List, [], ◌∷◌, ◌++◌, length, drop, codes, bytes_eq, Option, Some, None, option_map}
use Rattle.std.specs.List.{list_all, list_any, before_first, after_first}
use Rattle.afp_base.specs.Limits.{last_moment}
use Rattle.line_words.specs.Hexadecimal.{hex_in, sized_in}
use Rattle.line_words.specs.Numbers.{number_in}
use Rattle.line_words.specs.Words.{is_space, is_ascii, is_word}
use Rattle.capture_log_lines.specs.declared.log.line.Line.{Line}
use Rattle.capture_log_lines.specs.declared.log.line.Line.TheVariants as lines
use Rattle.capture_log_lines.specs.declared.log.line.What.{What}
use Rattle.capture_log_lines.specs.declared.log.line.What.TheVariants as whats

-- the most bytes of a line
abbrev pub longest_line : ℕ
longest_line = 300000

-- the last number of a connection
abbrev pub last_link : ℕ
last_link = 1000

-- a name: one word
abbrev pub name_in : List ℕ → Option (List ℕ)
name_in text = if is_word text then Some text else None

-- afp-capture 1
abbrev pub title_in : List ℕ → Option Line
title_in rest = if bytes_eq rest (codes "1") then Some lines.Title else None

abbrev pub is_colon : ℕ → Bool
is_colon byte = byte == 58

-- a password of at most 8 bytes, filled up with zero bytes
abbrev pub filled : List ℕ → List ℕ
filled password = password ++ drop (length password) (0 ∷ 0 ∷ 0 ∷ 0 ∷ 0 ∷ 0 ∷ 0 ∷ 0 ∷ [])

-- NAME:PASSWORD, parted at the first colon; the password is ASCII of at most 8 bytes
abbrev pub user_in : List ℕ → Option Line
user_in text =
    if is_word text && list_any is_colon text && list_all is_ascii (after_first is_colon text) && nat_le (length (after_first is_colon text)) password_size
    then Some (lines.User (before_first is_colon text) (filled (after_first is_colon text)))
    else None

-- in HEX, or out HEX
abbrev pub bytes_in : List ℕ → List ℕ → Option What
bytes_in word rest =
    if bytes_eq word (codes "in") then option_map whats.In (hex_in rest)
    else if bytes_eq word (codes "out") then option_map whats.Out (hex_in rest)
    else None

-- what happened: quiet, lost, or bytes
abbrev pub what_in : List ℕ → Option What
what_in text =
    if bytes_eq text (codes "quiet") then Some whats.Quiet
    else if bytes_eq text (codes "lost") then Some whats.Lost
    else bytes_in (before_first is_space text) (after_first is_space text)

-- LINK, from 1
abbrev pub link_in : List ℕ → Option ℕ
link_in word = if bytes_eq word (codes "0") then None else number_in last_link word

-- SECONDS WHAT
abbrev pub moment_then : ℕ → Option ℕ → List ℕ → Option Line
moment_then link None rest = None
moment_then link (Some moment) rest = option_map (λ what. lines.At link moment what) (what_in rest)

-- LINK SECONDS WHAT
abbrev pub link_then : Option ℕ → List ℕ → Option Line
link_then None rest = None
link_then (Some link) rest = moment_then link (number_in last_moment (before_first is_space rest)) (after_first is_space rest)

abbrev pub event_in : List ℕ → Option Line
event_in text = link_then (link_in (before_first is_space text)) (after_first is_space text)

-- a line that begins with this word, and what stands behind the space that follows it
abbrev pub headed : List ℕ → List ℕ → Option Line
headed word rest =
    if bytes_eq word (codes "at") then event_in rest
    else if bytes_eq word (codes "afp-capture") then title_in rest
    else if bytes_eq word (codes "server") then option_map lines.Server (name_in rest)
    else if bytes_eq word (codes "signature") then option_map lines.Signature (sized_in signature_size rest)
    else if bytes_eq word (codes "user") then user_in rest
    else if bytes_eq word (codes "volume") then option_map lines.Volume (name_in rest)
    else if bytes_eq word (codes "key") then option_map lines.Key (sized_in token_key_size rest)
    else None

-- what a line says; none where it has none of the forms, or is too long
abbrev pub line_in : List ℕ → Option Line
line_in line =
    if nat_lt longest_line (length line) then None
    else if bytes_eq line (codes "end") then Some lines.End
    else headed (before_first is_space line) (after_first is_space line)
