-- What a piece that is fed to a wire does, as events of a schedule of the law (this profile).
use Rattle.std.specs.Prelude.{◌≡◌, ◌⊎◌, ℕ, Bool, true, false, List, [], ◌∷◌, ◌++◌, Option, Some, None}
use Rattle.afp_serial.specs.declared.ask.Entry as entries
use Rattle.afp_serial.specs.Shown.{IsSoundShown, Shown}
use Rattle.afp_serial.specs.World.{World}
use Rattle.afp_server.specs.link.Wire as wires
use Rattle.afp_server.specs.declared.link.stage.FrameEnd.{FrameEnd}
use Rattle.afp_server.specs.declared.link.wire.WireEnd.{WireEnd}
use Rattle.afp_server.specs.declared.link.wire.WireEnd.TheVariants as wire_ends
use Rattle.dsi_frame.specs.Buffered.{Buffered}
use Rattle.dsi_frame.specs.Deframe.{GivenOut}
use Rattle.dsi_frame.specs.Frame.{Frame, canonical_frame}
use Rattle.dsi_frame.specs.Replies.{spelling_of}
use Rattle.once_across_breaks.specs.once.Bytes.{FitsNumbered}
use Rattle.once_across_breaks.specs.once.Dsi.{request_frame}
use Rattle.once_across_breaks.specs.once.Frames.{Net, heard}
use Rattle.once_across_breaks.specs.once.Run.{Request}
use Rattle.once_across_breaks.specs.once.Serial.{Setup}
use Rattle.once_across_breaks_code.specs.server.Among.{AllCarried, Course, or_sweep}
use Rattle.once_across_breaks_code.specs.server.Asked.{OthersPassSince, world_of}
use Rattle.once_across_breaks_code.specs.server.Ties.{IsEnd}
use Rattle.once_across_breaks_code.specs.server.Pieces.{EndsAs}

-- frames can carry all that was asked since then
abbrev pub CarriedSince : Shown → Shown → Type 0
CarriedSince a b = (more : List entries.Entry) → b.history ≡ a.history ++ more → AllCarried more

-- The link stays as it was, and nothing is replied; others may have asked.
pub record Rests (u : Setup) (q : entries.Entry → Bool) (i : ℕ) (net : Net World) (requests : List Request) (start : wires.FeedStart) (p : wires.FeedPoint) : Type 0 where
  pub nothing_out : p.out ≡ start.out
  pub es : List entries.Entry
  pub course : Course u q i net false p.stage None requests [] es (world_of p.shown)

-- Some of the request is under way still: the wire holds all that it was fed of it.
pub record WaitsForMore (u : Setup) (q : entries.Entry → Bool) (i : ℕ) (net : Net World) (requests : List Request) (start : wires.FeedStart) (holds rest : List ℕ) (result : Option WireEnd) (held : Buffered) (p : wires.FeedPoint) : Type 0 where
  pub some_left : rest ≡ [] → ⊥
  pub goes_on : result ≡ None
  pub all : held.rest ≡ holds
  pub rests : Rests u q i net requests start p

-- The request is whole, and it arrives: its reply is put out. It is told want of memory only where the wire tells that not all was answered.
pub record Arrives (u : Setup) (q : entries.Entry → Bool) (i : ℕ) (net : Net World) (left : List Request) (start : wires.FeedStart) (rest : List ℕ) (result : Option WireEnd) (held : Buffered) (p : wires.FeedPoint) : Type 0 where
  pub none_left : rest ≡ []
  pub end : Option FrameEnd
  pub ends : EndsAs end result held
  pub replies : List Frame
  pub put_out : p.out ≡ start.out ++ spelling_of replies
  pub es : List entries.Entry
  pub memory : Bool
  pub told : memory ≡ true → p.tally.answered ≡ false
  pub course : Course u q i net memory p.stage end left replies es (world_of p.shown)

-- There was no memory, and the wire ends.
pub record HasEnded (u : Setup) (q : entries.Entry → Bool) (i : ℕ) (net : Net World) (requests : List Request) (start : wires.FeedStart) (result : Option WireEnd) (p : wires.FeedPoint) : Type 0 where
  pub memory : result ≡ Some wire_ends.Memory
  pub rests : Rests u q i net requests start p

-- The law: a piece is fed, behind what the wire holds, of the client's request that is under way; the rest of its frame is what is left.
abbrev pub FeedsArrive : Type 0
FeedsArrive =
    (u : Setup) (q : entries.Entry → Bool) (start : wires.FeedStart) (x : ℕ × Request) (left : List Request) (piece rest : List ℕ) (old new : Buffered) (result : Option WireEnd) (p : wires.FeedPoint) (net : Net World) (i : ℕ)
    → FitsNumbered x
    → GivenOut start.bytes start.past old
    → (old.rest ++ piece) ++ rest ≡ canonical_frame (request_frame u x.0 (heard x.1))
    → wires.Feeds start (start.bytes ++ piece) result new p
    → IsSoundShown start.shown
    → IsSoundShown p.shown
    → CarriedSince start.shown p.shown
    → OthersPassSince q start.shown p.shown
    → net.world ≡ world_of start.shown
    → IsEnd start.stage (net.links i).end
    → (net.links i).up ≡ x.1 ∷ left
    → WaitsForMore u (or_sweep q) i net (x.1 ∷ left) start (old.rest ++ piece) rest result new p ⊎ (Arrives u (or_sweep q) i net left start rest result new p ⊎ HasEnded u (or_sweep q) i net (x.1 ∷ left) start result p)
