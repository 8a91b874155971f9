-- A piece that is fed, as events.
use Rattle.std.proofs.Common.{◌≡◌, ◌∙◌, ◌⊎◌, inl, inr, refl, sym, ap, subst, ℕ, Bool, true, false, List, [], ◌∷◌, ◌++◌, Option, None, append-nil}
use Rattle.std.proofs.lemmas.Bool.{or_cases}
use Rattle.afp_serial.specs.declared.ask.Entry as entries
use Rattle.afp_serial.specs.declared.ask.Told as tolds
use Rattle.afp_serial.specs.declared.ask.Told.TheVariants as told
use Rattle.afp_serial.specs.Shown.{IsSoundShown}
use Rattle.afp_serial.specs.Went.{Step}
use Rattle.afp_serial.specs.World.{World}
use Rattle.afp_server.specs.link.Tally.{and_told, answered_after}
use Rattle.afp_server.specs.link.Wire as wires
use Rattle.afp_server.specs.declared.link.tally.Tally.{Tally}
use Rattle.afp_server.specs.declared.link.wire.WireEnd.{WireEnd}
use Rattle.dsi_frame.specs.Buffered.{Buffered}
use Rattle.dsi_frame.specs.Frame.{Frame}
use Rattle.dsi_frame.specs.Replies.{spelling_of}
use Rattle.once_across_breaks.specs.once.Bytes.{FitsNumbered}
use Rattle.once_across_breaks.specs.once.Dsi.{request_frame}
use Rattle.once_across_breaks.specs.once.Frames.{Net, heard}
use Rattle.once_across_breaks.specs.once.Run.{Request}
use Rattle.once_across_breaks.specs.once.Serial.{Setup}
use Rattle.once_across_breaks_code.specs.server.Among.{Course, any_unasked, or_sweep}
use Rattle.once_across_breaks_code.specs.server.Asked.{OthersPassSince, world_of}
use Rattle.once_across_breaks_code.specs.server.Handling.{is_memory}
use Rattle.once_across_breaks_code.specs.server.Fed.{Arrives, CarriedSince, FeedsArrive, HasEnded, Rests, WaitsForMore}
use Rattle.once_across_breaks_code.specs.server.Pieces.{HasNoMemory, HoldsOn, TakesFrame}
use Rattle.once_across_breaks_code.specs.server.Ties.{IsEnd}
use Rattle.once_across_breaks_code.proofs.OfServer.Arriving.{pieces-arrive}
use Rattle.once_across_breaks_code.proofs.OfServer.HandledFrames.{Laws}
use Rattle.once_across_breaks_code.proofs.OfServer.PieceFrames.{FrameLaws, pieces-have}
use Rattle.once_across_breaks_code.proofs.OfServer.Writings.{written-carries, written-good}

-- where a step was told Memory, not all was answered
memory-told : (t : tolds.Told) (b : Bool) → is_memory t ≡ true → and_told t b ≡ false
memory-told told.Memory b is = refl
memory-told (told.Opened link) b is = absurd (cc)
memory-told (told.Reply code block ends) b is = absurd (cc)
memory-told (told.Live drain) b is = absurd (cc)
memory-told told.Done b is = absurd (cc)
memory-told told.Displaced b is = absurd (cc)

stays-false : (t : tolds.Told) → and_told t false ≡ false
stays-false told.Memory = refl
stays-false (told.Opened link) = refl
stays-false (told.Reply code block ends) = refl
stays-false (told.Live drain) = refl
stays-false told.Done = refl
stays-false told.Displaced = refl

false-after : (steps : List Step) → answered_after false steps ≡ false
false-after [] = refl
false-after (s ∷ ss) = ap (λ (b : Bool). answered_after b ss) (stays-false s.told) ∙ false-after ss

pub not-answered : (b : Bool) (steps : List Step) → any_unasked steps ≡ true → answered_after b steps ≡ false
not-answered b [] is = absurd (cc)
not-answered b (s ∷ ss) is = elim (or_cases (is_memory s.told) (any_unasked ss) is) [
  | inl here ↦ ap (λ (c : Bool). answered_after c ss) (memory-told s.told b here) ∙ false-after ss
  | inr later ↦ not-answered (and_told s.told b) ss later
]

-- without a step none is told want of memory
never : (memory : Bool) (steps : List Step) → steps ≡ [] → (memory ≡ true → any_unasked steps ≡ true) → memory ≡ false
never true steps none tells = let e : false ≡ true = sym (ap any_unasked none) ∙ tells refl in absurd (cc)
never false steps none tells = refl

rests : Laws → (u : Setup) (q : entries.Entry → Bool) (i : ℕ) (net : Net World) (requests : List Request) (start : wires.FeedStart) (p : wires.FeedPoint)
    → wires.Handled start [] None p → IsSoundShown start.shown → IsSoundShown p.shown → CarriedSince start.shown p.shown → OthersPassSince q start.shown p.shown → net.world ≡ world_of start.shown → IsEnd start.stage (net.links i).end → (net.links i).up ≡ requests
    → Rests u (or_sweep q) i net requests start p
rests laws u q i net requests start p handled first last carried others world comes up =
    let x = pieces-arrive laws u q start [] None p handled [] requests net i first last others tt (carried handled.went.between handled.went.history) world comes up in
    record {
      nothing_out = handled.sent ∙ ap (λ (fs : List Frame). start.out ++ spelling_of fs) handled.script.1 ∙ append-nil start.out;
      es = handled.went.between;
      course = subst (λ (b : Bool). Course u (or_sweep q) i net b p.stage None requests [] handled.went.between (world_of p.shown)) (never x.0 handled.steps handled.script.0 x.1)
          (subst (λ (fs : List Frame). Course u (or_sweep q) i net x.0 p.stage None requests fs handled.went.between (world_of p.shown)) handled.script.1 x.2);
    }

fed : Laws → (u : Setup) (q : entries.Entry → Bool) (start : wires.FeedStart) (x : ℕ × Request) (left : List Request) (holds rest : List ℕ) (result : Option WireEnd) (new : Buffered) (p : wires.FeedPoint) (net : Net World) (i : ℕ)
    → FitsNumbered x → IsSoundShown start.shown → IsSoundShown p.shown → CarriedSince start.shown p.shown → OthersPassSince q start.shown p.shown → net.world ≡ world_of start.shown → IsEnd start.stage (net.links i).end → (net.links i).up ≡ x.1 ∷ left
    → HoldsOn start holds rest result new p ⊎ (TakesFrame start (request_frame u x.0 (heard x.1)) rest result new p ⊎ HasNoMemory start result p)
    → WaitsForMore u (or_sweep q) i net (x.1 ∷ left) start holds rest result new p ⊎ (Arrives u (or_sweep q) i net left start rest result new p ⊎ HasEnded u (or_sweep q) i net (x.1 ∷ left) start result p)
fed laws u q start x left holds rest result new p net i fits first last carried others world comes up (inl h) =
    inl record { some_left = h.some_left; goes_on = h.goes_on; all = h.all; rests = rests laws u q i net (x.1 ∷ left) start p h.handled first last carried others world comes up }
fed laws u q start x left holds rest result new p net i fits first last carried others world comes up (inr (inl t)) =
    let c = pieces-arrive laws u q start (request_frame u x.0 (heard x.1) ∷ []) t.end p t.handled (x ∷ []) left net i first last others (written-carries u x fits, tt) (carried t.handled.went.between t.handled.went.history) world comes up in
    inr (inl record { none_left = t.none_left; end = t.end; ends = t.ends; replies = t.handled.replies; put_out = t.handled.sent; es = t.handled.went.between; memory = c.0; told = λ is. ap (λ (y : Tally). y.answered) t.handled.tally ∙ not-answered true t.handled.steps (c.1 is); course = c.2 })
fed laws u q start x left holds rest result new p net i fits first last carried others world comes up (inr (inr m)) =
    inr (inr record { memory = m.memory; rests = rests laws u q i net (x.1 ∷ left) start p m.handled first last carried others world comes up })

pub feeds-arrive : Laws → FrameLaws → FeedsArrive
feeds-arrive laws frames u q start x left piece rest old new result p net i fits given whole feeds first last carried others world comes up =
    fed laws u q start x left (old.rest ++ piece) rest result new p net i fits first last carried others world comes up
    (pieces-have frames start (request_frame u x.0 (heard x.1)) piece rest old new result p (written-good u x fits) given whole feeds)
