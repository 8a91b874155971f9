-- The moves of the law's client are its events.
use Rattle.std.proofs.Common.{◌≡◌, ◌∙◌, refl, sym, ap, subst, ℕ, suc, Bool, false, ◌||◌, cond, List, [], ◌∷◌, ◌++◌, Option, Some, None, eq-eqb}
use Rattle.afp_serial.specs.World.{World}
use Rattle.once_across_breaks.specs.once.Messages.{Answer, Call, Does}
use Rattle.once_across_breaks.specs.once.Run.{Asks, Entering, Gone, Joining, Opening, Opens, Ready, Request, Stage, Wait, begins, draws, id_of}
use Rattle.once_across_breaks.specs.once.Server.{set}
use Rattle.once_across_breaks.specs.once.Frames.{Carrier, Net, Tag, Taken, heard, tag_of, client_takes, fresh_end, net_commands, net_taken, net_to_client}
use Rattle.once_across_breaks.specs.once.Serial.{Setup}
use Rattle.once_across_breaks_code.specs.client.Moves.{Breaks, Commands, IsEvent, MovesAreEvents, Takes, commanded}

-- what was put at a place stands there
at-place : {A : Type 0} (f : ℕ → A) (i : ℕ) (x : A) → set f i x i ≡ x
at-place f i x = ap (λ (b : Bool). cond b x (f i)) (eq-eqb i i refl)

some-same : (a b : Taken) → Some a ≡ Some b → a ≡ b
some-same a b same = cc

abbrev AreCommanded : Net World → Net World → Taken → Type 0
AreCommanded net after t = (after.client ≡ t.client) × ((after.links net.top).up ≡ (net.links net.top).up ++ t.writes)

commanded-ready : (net : Net World) (call : Call) → AreCommanded net (net_commands net Ready None call)
    (record { client = draws net.client call 0 net.client.row net.client.results; writes = Asks (id_of net.client.first net.client.drawn) (Does call) false ∷ []; got = false })
commanded-ready net call =
    let old : Carrier = net.links net.top in
    let new : Carrier = record { end = old.end; up = old.up ++ Asks (id_of net.client.first net.client.drawn) (Does call) false ∷ []; down = old.down } in
    (refl, ap (λ (x : Carrier). x.up) (at-place net.links net.top new))

commanded-by : (net : Net World) (stage : Stage) (wait : Option Wait) (call : Call) (t : Taken) → commanded net.client stage wait call ≡ Some t → AreCommanded net (net_commands net stage wait call) t
commanded-by net Ready None call t is = subst (λ (x : Taken). AreCommanded net (net_commands net Ready None call) x) (some-same _ t is) (commanded-ready net call)
commanded-by net Ready (Some w) call t is = absurd (cc)
commanded-by net Opening wait call t is = absurd (cc)
commanded-by net Entering wait call t is = absurd (cc)
commanded-by net Joining wait call t is = absurd (cc)
commanded-by net Gone wait call t is = absurd (cc)

-- a reply is taken
abbrev AreTaken : Net World → List (Request × Answer) → Net World → Taken → Type 0
AreTaken net rest after t = (after.client ≡ t.client) × ((after.links net.top).up ≡ (net.links net.top).up ++ t.writes) × ((after.links net.top).down ≡ rest)

taken-there : (net : Net World) (rest : List (Request × Answer)) (t : Taken) → AreTaken net rest (net_taken net rest (Some t)) t
taken-there net rest t =
    let old : Carrier = net.links net.top in
    let new : Carrier = record { end = record { number = old.end.number; ended = old.end.ended; got = old.end.got || t.got }; up = old.up ++ t.writes; down = rest } in
    let there = at-place net.links net.top new in
    (refl, ap (λ (x : Carrier). x.up) there, ap (λ (x : Carrier). x.down) there)

taken-by : (net : Net World) (tag : Tag) (r : Request) (a : Answer) (t : Taken) (rest down : List (Request × Answer)) → client_takes net.client net.client.stage tag a ≡ Some t → tag_of (heard r) ≡ tag → down ≡ (r, a) ∷ rest
    → AreTaken net rest (net_to_client net down) t
taken-by net tag r a t rest down is_taken tagged is =
    let takes : client_takes net.client net.client.stage (tag_of (heard r)) a ≡ Some t = ap (λ (x : Tag). client_takes net.client net.client.stage x a) tagged ∙ is_taken in
    subst (λ (x : List (Request × Answer)). AreTaken net rest (net_to_client net x) t) (sym is)
    (subst (λ (o : Option Taken). AreTaken net rest (net_taken net rest o) t) (sym takes) (taken-there net rest t))

breaks-there : (u : Setup) (net : Net World) → IsEvent u net Breaks (record { client = begins net.client; writes = Opens ∷ []; got = false })
breaks-there u net =
    let new : Carrier = record { end = fresh_end; up = Opens ∷ []; down = [] } in
    (refl, ap (λ (x : Carrier). x.up) (at-place net.links (suc net.top) new))

pub moves-are-events : MovesAreEvents
moves-are-events u net (Commands call) t is = commanded-by net net.client.stage net.client.wait call t is
moves-are-events u net (Takes tag a) t is = λ r rest tagged down. taken-by net tag r a t rest (net.links net.top).down is tagged down
moves-are-events u net Breaks t is = subst (λ (x : Taken). IsEvent u net Breaks x) (some-same _ t is) (breaks-there u net)
