-- What the law's client does, whatever its server does.
use Rattle.std.specs.Prelude.{◌≡◌, suc, false, List, [], ◌∷◌, ◌++◌, map, Option, Some, None}
use Rattle.dsi_frame.specs.Frame.{Frame}
use Rattle.afp_serial.specs.World.{World}
use Rattle.once_across_breaks.specs.once.Messages.{Answer, Call, Does}
use Rattle.once_across_breaks.specs.once.Run as run
use Rattle.once_across_breaks.specs.once.Run.{Asks, Client, Entering, Gone, Joining, Opening, Opens, Ready, Request, Stage, Wait, begins, draws, id_of}
use Rattle.once_across_breaks.specs.once.Frames.{Net, Tag, Taken, client_takes, heard, net_step, tag_of, wrote}
use Rattle.once_across_breaks.specs.once.Serial.{Setup, machine}
use Rattle.once_across_breaks_code.specs.client.Requests.{frame_of}

-- it asks a command; a reply comes, which shows this of its request and tells this; its link breaks, and it begins the next one
pub data Move : Type 0 where
  Commands : (call : Call) → Move
  Takes : (tag : Tag) (answer : Answer) → Move
  Breaks : Move

abbrev pub commanded : Client → Stage → Option Wait → Call → Option Taken
commanded c Ready None call = wrote (draws c call 0 c.row c.results) (Asks (id_of c.first c.drawn) (Does call) false ∷ [])
commanded c Ready (Some w) call = None
commanded c Opening w call = None
commanded c Entering w call = None
commanded c Joining w call = None
commanded c Gone w call = None

-- the client behind it, and what it writes; none where it does nothing
abbrev pub moved : Client → Move → Option Taken
moved c (Commands call) = commanded c c.stage c.wait call
moved c (Takes tag a) = client_takes c c.stage tag a
moved c Breaks = wrote (begins c) (Opens ∷ [])

-- what it writes, as frames
abbrev pub frames_of : Setup → Taken → List Frame
frames_of u t = map (frame_of u t.client.opening_id) t.writes

-- These moves of the law's client are its events over links that carry lists of frames.
abbrev pub IsEvent : Setup → Net World → Move → Taken → Type 0
IsEvent u net (Commands call) t =
    let after : Net World = net_step (machine u) net (run.Commands call) in
    (after.client ≡ t.client) × ((after.links net.top).up ≡ (net.links net.top).up ++ t.writes)
IsEvent u net (Takes tag a) t =
    (r : Request) (rest : List (Request × Answer)) → tag_of (heard r) ≡ tag → (net.links net.top).down ≡ (r, a) ∷ rest
    → (let after : Net World = net_step (machine u) net run.ToClient in
    (after.client ≡ t.client) × ((after.links net.top).up ≡ (net.links net.top).up ++ t.writes) × ((after.links net.top).down ≡ rest))
IsEvent u net Breaks t =
    let after : Net World = net_step (machine u) net run.Breaks in
    (after.client ≡ t.client) × ((after.links (suc net.top)).up ≡ t.writes)

abbrev pub MovesAreEvents : Type 0
MovesAreEvents = (u : Setup) (net : Net World) (move : Move) (t : Taken) → moved net.client move ≡ Some t → IsEvent u net move t
