-- Each node that the source's lists give is paired with the one that was made for it (this profile).
use Rattle.std.specs.List.{count_by, list_any}
use Rattle.std.specs.Prelude.{◌≡◌, ◌==◌, ℕ, if◌then◌else◌, List, [], ◌∷◌, ◌++◌, map, Option, Some, None}
use Rattle.afp_base.specs.declared.code.Code.{Code}
use Rattle.afp_base.specs.declared.ids.NodeId.{NodeId}
use Rattle.afp_calls_grammar.specs.declared.grammar.call.Call.{Call}
use Rattle.afp_calls_grammar.specs.declared.grammar.call.Call.TheVariants.{CreateDir, GetFileDirParms}
use Rattle.afp_replies.specs.declared.list.ListEntry.{ListEntry}
use Rattle.afp_replies.specs.declared.reply.Reply.{Reply}
use Rattle.afp_mirror_walk.specs.Follows.{done, ends, first, found_id_in, goes, is_ok, node_in}
use Rattle.afp_mirror_walk.specs.Settings.{found_in}
use Rattle.afp_mirror_walk.specs.declared.walk.ends.Line.{Line}
use Rattle.afp_mirror_walk.specs.declared.walk.ends.Side.{Side}
use Rattle.afp_mirror_walk.specs.declared.walk.ends.Side.TheVariants.{From, To}
use Rattle.afp_mirror_walk.specs.declared.walk.standing.Found.{Found}
use Rattle.afp_mirror.specs.Runs.{Leads, Turn}
use Rattle.afp_mirror_laws.specs.Swept.{Listing, lists_of}

-- the ids that lists gave, in their order
abbrev pub with_id : Option Found → List NodeId → List NodeId
with_id None ids = ids
with_id (Some f) ids = f.id ∷ ids

abbrev pub ids_in : List ListEntry → List NodeId
ids_in [] = []
ids_in (row ∷ rows) = with_id (found_in row.values) (ids_in rows)

abbrev pub given_by : Option (List ListEntry) → List NodeId
given_by None = []
given_by (Some rows) = ids_in rows

abbrev pub given_in : List Listing → List NodeId
given_in [] = []
given_in (l ∷ lists) = given_by l.rows ++ given_in lists

-- the ids that the target showed of new nodes, in their order: of a directory where it was made, of a file where it was looked up
abbrev pub id_list : Option NodeId → List NodeId
id_list None = []
id_list (Some id) = id ∷ []

abbrev pub reply_id : Call → Reply → Option NodeId
reply_id (CreateDir volume dir path) reply = node_in reply
reply_id (GetFileDirParms volume dir file_bits dir_bits path) reply = found_id_in reply
reply_id call reply = None

abbrev pub shown_by : Call → Code → Option Reply → List NodeId
shown_by call c None = []
shown_by call c (Some reply) = if is_ok c then id_list (reply_id call reply) else []

abbrev pub shown_to : Side → Call → Code → Option Reply → List NodeId
shown_to From call c reply = []
shown_to To call c reply = shown_by call c reply

abbrev pub shown_in : List Turn → List NodeId
shown_in [] = []
shown_in (t ∷ turns) = shown_to t.side t.call t.answer.code t.reply ++ shown_in turns

abbrev pub source_of : Line → NodeId
source_of line = line.source

abbrev pub target_of : Line → NodeId
target_of line = line.target

-- the law: at Done the lines pair the ids that the source's lists gave, one after the other, with those that the target showed for the nodes made for them
abbrev pub DonePairs : Type 0
DonePairs = (source target : List ℕ) (turns : List Turn) (lines : List Line) → Leads (goes (first source target)) turns (ends (done lines))
    → (map source_of lines ≡ given_in (lists_of turns)) × (map target_of lines ≡ shown_in turns)

-- the law: at Done each id that the source's lists gave has just one line, and any other none
abbrev pub EachHasOneLine : Type 0
EachHasOneLine = (source target : List ℕ) (turns : List Turn) (lines : List Line) (id : ℕ) → Leads (goes (first source target)) turns (ends (done lines))
    → count_by (λ (line : Line). line.source.0 == id) lines ≡ (if list_any (λ (given : NodeId). given.0 == id) (given_in (lists_of turns)) then 1 else 0)
