-- The ids of an opening are few, so that what is written is spelt by its ids as they are.
use Rattle.std.proofs.Common.{◌≡◌, refl, sym, subst, ℕ, suc, ◌+◌, ◌≤◌, ◌<◌, false, List, [], ◌∷◌, ◌++◌, Option, Some, None, IfSome, arith, lit≤}
use Rattle.std.specs.Prelude.{map, nat_eq, nat_lt}
use Rattle.std.specs.List.{flat_map}
use Rattle.std.proofs.lemmas.Bool.{cond_both, ltb-true}
use Rattle.dsi_frame.specs.Frame.{canonical_frame}
use Rattle.once_across_breaks.specs.once.Messages.{Answer, Call, Does, Fine, MiscErr, NoMemory, Refuses, token_in, wire_id}
use Rattle.once_across_breaks.specs.once.Run.{Asks, Client, Entering, Gone, Joining, Opening, Opens, Ready, Request, Stage, Wait, id_of, in_stage, opens_with, same_request, sent_again, stage_anew, with_result}
use Rattle.once_across_breaks.specs.once.Frames.{HeardCall, HeardOpen, OfCall, OfOpening, Tag, Taken, again_writes, client_takes, opening_taken, reply_taken, step_taken, token_taken, waiting_taken, wrote}
use Rattle.once_across_breaks.specs.once.Bytes.{spelt}
use Rattle.once_across_breaks.specs.once.Dsi as dsi
use Rattle.once_across_breaks.specs.once.Dsi.{dsi_up}
use Rattle.once_across_breaks.specs.once.Serial.{Setup}
use Rattle.once_across_breaks_code.specs.client.Requests.{frame_of}
use Rattle.once_across_breaks_code.specs.client.Moves.{Breaks, Commands, Move, Takes, commanded, moved}
use Rattle.once_across_breaks_code.specs.client.OverBytes.{AreFew, HasFewIds, WritesAreSpelt}

-- the ids of these requests are their own on the link
abbrev AllOwn : List Request → Type 0
AllOwn [] = Unit {0}
AllOwn (Opens ∷ rs) = AllOwn rs
AllOwn (Asks id body again ∷ rs) = (wire_id id ≡ id) × AllOwn rs

record Fits (t : Taken) : Type 0 where
  few : HasFewIds t.client
  own : AllOwn t.writes

small-own : (id : ℕ) → id < 65536 → wire_id id ≡ id
small-own id small = omega (arith, small)

drawn-own : (first drawn : ℕ) → wire_id (id_of first drawn) ≡ id_of first drawn
drawn-own first drawn = omega arith

most : (stage : Stage) (tries id : ℕ) → AreFew stage tries id → id ≤ 11
most Opening tries id few = omega (arith, few.0, few.1)
most Entering tries id few = omega (arith, few.0, few.1)
most Joining tries id few = omega (arith, few.0, few.1)
most Ready tries id few = few
most Gone tries id few = few

next-own : (stage : Stage) (tries id : ℕ) → AreFew stage tries id → wire_id (suc id) ≡ suc id
next-own stage tries id few = let e = most stage tries id few in small-own (suc id) (omega (arith, e))

again-own : (wait : Option Wait) → IfSome wait (λ w. w.id ≡ wire_id w.id) → AllOwn (again_writes wait)
again-own None own = tt
again-own (Some w) own = (sym own, tt)

pub anew-few : (stage : Stage) → AreFew (stage_anew stage) 0 0
anew-few Opening = (lit≤ tt, lit≤ tt)
anew-few Entering = (lit≤ tt, lit≤ tt)
anew-few Joining = (lit≤ tt, lit≤ tt)
anew-few Ready = (lit≤ tt, lit≤ tt)
anew-few Gone = lit≤ tt

-- ---- each move

commanded-fits : (c : Client) (stage : Stage) (wait : Option Wait) (call : Call) → HasFewIds c → IfSome (commanded c stage wait call) Fits
commanded-fits c Ready None call few = record { few = few; own = (drawn-own c.first c.drawn, tt) }
commanded-fits c Ready (Some w) call few = tt
commanded-fits c Opening wait call few = tt
commanded-fits c Entering wait call few = tt
commanded-fits c Joining wait call few = tt
commanded-fits c Gone wait call few = tt

gone-fits : (c : Client) → HasFewIds c → IfSome (wrote (in_stage c Gone) []) Fits
gone-fits c few = record { few = most c.stage c.tries c.opening_id few; own = tt }

token-fits : (c : Client) (found : Option (List ℕ)) → IfSome c.wait (λ w. w.id ≡ wire_id w.id) → AreFew Joining c.tries c.opening_id → IfSome (token_taken c found) Fits
token-fits c None own few = tt
token-fits c (Some token) own few = record { few = most Joining c.tries c.opening_id few; own = again-own c.wait own }

step-fits : (c : Client) (stage : Stage) (token : Option (List ℕ)) (block : List ℕ) → IfSome c.wait (λ w. w.id ≡ wire_id w.id) → AreFew stage c.tries c.opening_id → IfSome (step_taken c stage token block) Fits
step-fits c Opening token block own few =
    record { few = (let e : suc c.opening_id ≤ 4 + 0 = omega (arith, few.0, few.1) in e, lit≤ tt); own = (next-own Opening c.tries c.opening_id few, tt) }
step-fits c Entering token block own few =
    record { few = (let e : suc c.opening_id ≤ 8 + 0 = omega (arith, few.0, few.1) in e, lit≤ tt); own = (next-own Entering c.tries c.opening_id few, tt) }
step-fits c Joining None block own few = token-fits c (token_in block) own few
step-fits c Joining (Some token) block own few = record { few = most Joining c.tries c.opening_id few; own = again-own c.wait own }
step-fits c Ready token block own few = tt
step-fits c Gone token block own few = tt

-- an opening is under way
abbrev IsUnderWay : Stage → Type 0
IsUnderWay Opening = Unit {0}
IsUnderWay Entering = Unit {0}
IsUnderWay Joining = Unit {0}
IsUnderWay Ready = ⊥
IsUnderWay Gone = ⊥

again-few : (stage : Stage) (tries id : ℕ) → IsUnderWay stage → AreFew stage tries id → tries < 3 → AreFew stage (suc tries) (suc id)
again-few Opening tries id goes few less = (omega (arith, few.0), omega (arith, less))
again-few Entering tries id goes few less = (omega (arith, few.0), omega (arith, less))
again-few Joining tries id goes few less = (omega (arith, few.0), omega (arith, less))
again-few Ready tries id goes few less = absurd goes
again-few Gone tries id goes few less = absurd goes

same-own : (c : Client) (stage : Stage) → AreFew stage c.tries c.opening_id → AllOwn (same_request c stage ∷ [])
same-own c Opening few = tt
same-own c Entering few = (next-own Entering c.tries c.opening_id few, tt)
same-own c Joining few = (next-own Joining c.tries c.opening_id few, tt)
same-own c Ready few = tt
same-own c Gone few = tt

opening-fits : (c : Client) (a : Answer) → IfSome c.wait (λ w. w.id ≡ wire_id w.id) → IsUnderWay c.stage → HasFewIds c → IfSome (opening_taken c a) Fits
opening-fits c (Fine block) own goes few = step-fits c c.stage c.token block own few
opening-fits c NoMemory own goes few =
    cond_both (nat_lt c.tries 3) (wrote (opens_with c c.stage (suc c.tries)) (same_request c c.stage ∷ [])) (wrote (in_stage c Gone) []) (λ (o : Option Taken). IfSome o Fits)
    (λ less. record { few = again-few c.stage c.tries c.opening_id goes few (ltb-true c.tries 3 less); own = same-own c c.stage few }) (λ less. gone-fits c few)
opening-fits c MiscErr own goes few = gone-fits c few
opening-fits c (Refuses code block) own goes few = gone-fits c few

result-fits : (c : Client) (w : Wait) (a : Answer) → HasFewIds c → IfSome (reply_taken c w a) Fits
result-fits c w (Fine block) few = record { few = few; own = tt }
result-fits c w MiscErr few = record { few = few; own = tt }
result-fits c w (Refuses code block) few = record { few = few; own = tt }
result-fits c w NoMemory few =
    cond_both (nat_lt w.tries 3) (wrote (sent_again c w) (Asks (id_of c.first c.drawn) (Does w.call) false ∷ [])) (wrote (with_result c w NoMemory) []) (λ (o : Option Taken). IfSome o Fits)
    (λ less. record { few = few; own = (drawn-own c.first c.drawn, tt) }) (λ less. record { few = few; own = tt })

waiting-fits : (c : Client) (wait : Option Wait) (tag : Tag) (a : Answer) → HasFewIds c → IfSome (waiting_taken c wait tag a) Fits
waiting-fits c None tag a few = tt
waiting-fits c (Some w) OfOpening a few = tt
waiting-fits c (Some w) (OfCall id) a few = cond_both (nat_eq id w.id) (reply_taken c w a) None (λ (o : Option Taken). IfSome o Fits) (λ same. result-fits c w a few) (λ same. tt)

takes-fits : (c : Client) (stage : Stage) (tag : Tag) (a : Answer) → c.stage ≡ stage → IfSome c.wait (λ w. w.id ≡ wire_id w.id) → HasFewIds c → IfSome (client_takes c stage tag a) Fits
takes-fits c Opening tag a there own few = opening-fits c a own (subst (λ (x : Stage). IsUnderWay x) (sym there) tt) few
takes-fits c Entering tag a there own few = opening-fits c a own (subst (λ (x : Stage). IsUnderWay x) (sym there) tt) few
takes-fits c Joining tag a there own few = opening-fits c a own (subst (λ (x : Stage). IsUnderWay x) (sym there) tt) few
takes-fits c Ready tag a there own few = waiting-fits c c.wait tag a few
takes-fits c Gone tag a there own few = tt

moved-fits : (c : Client) (move : Move) → IfSome c.wait (λ w. w.id ≡ wire_id w.id) → HasFewIds c → IfSome (moved c move) Fits
moved-fits c (Commands call) own few = commanded-fits c c.stage c.wait call few
moved-fits c (Takes tag a) own few = takes-fits c c.stage tag a refl own few
moved-fits c Breaks own few = record { few = anew-few c.stage; own = tt }

-- ---- its bytes

spelt-own : (u : Setup) (opening : ℕ) (rs : List Request) → wire_id opening ≡ opening → AllOwn rs → flat_map canonical_frame (map (frame_of u opening) rs) ≡ spelt (dsi_up u) opening rs
spelt-own u opening [] same own = refl
spelt-own u opening (Opens ∷ rs) same own = λ i. canonical_frame (dsi.request_frame u (same i) HeardOpen) ++ spelt-own u opening rs same own i
spelt-own u opening (Asks id body again ∷ rs) same own = λ i. canonical_frame (dsi.request_frame u opening (HeardCall (own.0 i) body)) ++ spelt-own u opening rs same own.1 i

pub writes-are-spelt : WritesAreSpelt
writes-are-spelt u c s move t h few is =
    let fits : Fits t = subst (λ (o : Option Taken). IfSome o Fits) is (moved-fits c move h.wait_id few) in
    let small = most t.client.stage t.client.tries t.client.opening_id fits.few in
    (fits.few, spelt-own u t.client.opening_id t.writes (small-own t.client.opening_id (omega (arith, small))) fits.own)
