-- The law's net that these things are: the same client, world, history and results; each server end where the law's end stands; and the bytes under way are the
-- frames under way (this profile).
use Rattle.std.specs.Prelude.{◌≡◌, ◌≢◌, ◌≤◌, ℕ, true, false, List, [], ◌∷◌, ◌++◌, map, Option, Some, None}
use Rattle.afp_base.specs.Cached as cached
use Rattle.afp_base.specs.declared.code.Code.{Code}
use Rattle.afp_calls_grammar.specs.declared.grammar.call.Call as grammar
use Rattle.afp_client.specs.declared.session.stage.Stage.TheVariants as client_stages
use Rattle.afp_serial.specs.World.{World}
use Rattle.dsi_frame.specs.Deframe.{GivenOut}
use Rattle.dsi_frame.specs.Frame.{Frame, IsGood, canonical_frame}
use Rattle.dsi_frame.specs.Replies.{code_word}
use Rattle.volume_spec.specs.TypedVolume.{are_bytes}
use Rattle.once_across_breaks.specs.once.Bytes.{FitsNumbered}
use Rattle.once_across_breaks.specs.once.Dsi.{request_frame}
use Rattle.once_across_breaks.specs.once.Frames.{Carrier, Net, heard}
use Rattle.once_across_breaks.specs.once.Messages.{Answer, Call, Done, wire_id}
use Rattle.once_across_breaks.specs.once.Run.{Client, Gone, Request, Wait}
use Rattle.once_across_breaks.specs.once.Serial.{Setup, answer_by}
use Rattle.once_across_breaks.specs.once.UnderWay.{TokenFits}
use Rattle.once_across_breaks_code.specs.client.Related.{IsClient}
use Rattle.once_across_breaks_code.specs.client.Requests as requests
use Rattle.once_across_breaks_code.specs.client.Requests.{IsAnswer, IsCall}
use Rattle.once_across_breaks_code.specs.client.Steps.{IsReplyTo}
use Rattle.once_across_breaks_code.specs.server.Asked.{world_of}
use Rattle.once_across_breaks_code.specs.server.Ties.{AreEntries, IsEnd}
use Rattle.once_across_breaks_code.specs.run.Things.{Lane, Things}

-- These bytes are what is under way of the requests, in an opening whose last OpenSession has that id. At most one is.
abbrev pub AreUnderWay : Setup → ℕ → List ℕ → List Request → Type 0
AreUnderWay u last bytes [] = bytes ≡ []
AreUnderWay u last bytes (r ∷ []) = FitsNumbered (last, r) × (bytes ≡ canonical_frame (request_frame u last (heard r)))
AreUnderWay u last bytes (r ∷ s ∷ rs) = ⊥

-- a server end that goes on
pub record GoesOn (u : Setup) (lane : Lane) (c : Carrier) : Type 0 where
  pub end : IsEnd lane.wire.stage c.end
  pub bytes : List ℕ
  pub past : List Frame
  pub given : GivenOut bytes past lane.wire.held
  pub last : ℕ
  pub under_way : AreUnderWay u last (lane.wire.held.rest ++ lane.up) c.up

-- and one that has ended
pub record IsLane (u : Setup) (lane : Lane) (c : Carrier) : Type 0 where
  pub live : lane.ended ≡ false → GoesOn u lane c
  pub ended : lane.ended ≡ true → c.end.ended ≡ true

-- a reply to that request, in the last opening with that id, which tells that answer
pub record IsReplyWith (u : Setup) (opening : ℕ) (r : Request) (a : Answer) (f : Frame) : Type 0 where
  pub good : IsGood f
  pub reply : IsReplyTo (requests.request_frame u opening (heard r)) f
  pub code : Code
  pub word : code_word code ≡ f.word
  pub answer : IsAnswer (heard r) a (answer_by code f.payload)
  pub typed : are_bytes f.payload ≡ true

-- these bytes are what is under way of the replies; at most one is
abbrev pub AreComing : Setup → ℕ → List ℕ → List (Request × Answer) → Type 0
AreComing u opening bytes [] = bytes ≡ []
AreComing u opening bytes (x ∷ []) = (f : Frame) × (bytes ≡ canonical_frame f) × IsReplyWith u opening x.0 x.1 f
AreComing u opening bytes (x ∷ y ∷ xs) = ⊥

-- the results, each with the code and block that the client was told
abbrev pub AreTold : List Done → List cached.Answer → Type 0
AreTold [] [] = Unit {0}
AreTold (d ∷ ds) (a ∷ as_told) = (d.answer ≡ answer_by a.code a.block) × AreTold ds as_told
AreTold [] (a ∷ as_told) = ⊥
AreTold (d ∷ ds) [] = ⊥

-- the calls of its results, and the one that waits
abbrev pub waiting_call : Option Wait → List Call
waiting_call None = []
waiting_call (Some w) = w.call ∷ []

abbrev pub calls_of : Client → List Call
calls_of c = map (λ (d : Done). d.call) c.results ++ waiting_call c.wait

-- they carry the calls that were asked, in order
abbrev pub AreAsked : Setup → List Call → List grammar.Call → Type 0
AreAsked u [] [] = Unit {0}
AreAsked u (x ∷ xs) (y ∷ ys) = IsCall u x y × AreAsked u xs ys
AreAsked u [] (y ∷ ys) = ⊥
AreAsked u (x ∷ xs) [] = ⊥

pub record Mirrors (u : Setup) (t : Things) (net : Net World) : Type 0 where
  pub client : IsClient u net.client t.client.state
  pub linked : t.client.state.stage ≢ client_stages.Unlinked
  pub token : TokenFits net.client.token
  pub world : net.world ≡ world_of t.shown
  pub history : AreEntries u net.history t.shown.history
  pub calls : AreAsked u (calls_of net.client) t.calls
  pub results : AreTold net.client.results t.results
  pub top : net.top ≡ t.top
  pub each : (i : ℕ) → i ≤ t.top → IsLane u (t.lanes i) (net.links i)
  pub going : (t.lanes t.top).ended ≡ false → AreUnderWay u (wire_id net.client.opening_id) ((t.lanes t.top).wire.held.rest ++ (t.lanes t.top).up) (net.links t.top).up
  pub coming : net.client.stage ≢ Gone → AreComing u net.client.opening_id (t.client.held.rest ++ (t.lanes t.top).down) (net.links t.top).down
