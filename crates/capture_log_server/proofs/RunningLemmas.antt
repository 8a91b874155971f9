-- A server that is replayed on, from one line to the next.
use Rattle.std.proofs.Common.{◌≡◌, ◌≢◌, ℕ, ◌+◌, ◌≤◌, ◌<◌, Bool, true, false, List, [], ◌∷◌, ◌++◌, zero, suc, length, length-append, min, take, drop, refl, sym, ap, ◌∙◌, subst, inl, inr, ◌⊎◌, arith}
use Rattle.std.proofs.lemmas.Bool.Decides.{eqb_tells}
use Rattle.std.proofs.lemmas.List.{take-append-le, take_all}
use Rattle.std.specs.Prelude.{◌==◌, Option, Some, None, slice_get, slice_set, if◌then◌else◌, Result, Ok, Err, OnOk}
use Rattle.std.proofs.lemmas.Option.{slice_get-get_or}
use Rattle.std.proofs.Math.ListN.{length-set}
use Rattle.afp_serial.specs.Shown.{Shown}
use Rattle.afp_serial.specs.History.{stand}
use Rattle.afp_serial.specs.World.{World, fresh_world}
use Rattle.afp_serial.specs.StatusBlock.{status_block}
use Rattle.afp_serial.specs.Went.{Step, step}
use Rattle.afp_serial.specs.declared.ask.Entry.{Entry}
use Rattle.capture_log_server.specs.Connections.{Connection, fed_with, output, entries_of, AreServed, Extends}
use Rattle.afp_base.specs.Counts.{counted, last_count}
use Rattle.afp_serial.specs.Household.{Household}
use Rattle.afp_server.specs.link.Tally.{replies_after, refused_after, refused_more}
use Rattle.afp_server.specs.declared.link.tally.Tally.{Tally}
use Rattle.dsi_frame.specs.Frame.{Frame}
use Rattle.capture_log_lines.specs.declared.log.line.What.TheVariants.{In, Quiet, Lost, Out}
use Rattle.afp_base.specs.declared.ids.LinkNumber.{LinkNumber}
use Rattle.afp_serial.specs.declared.ask.Ask.TheVariants as asks
use Rattle.afp_server.specs.link.Wire.{open_link}
use Rattle.capture_log_server.specs.declared.difference.Difference.{Difference}
use Rattle.capture_log_server.specs.Counting.{refused_in}
use Rattle.capture_log_server.specs.lemma.Moves.{FeedsConnection, IdlesConnection, LosesConnection}
use Rattle.capture_log_server.specs.Running.{Happened}
use Rattle.capture_log_server.specs.Running.{HappensBy}
use Rattle.capture_log_server.specs.lemma.Slots.{IsFit, FeedsAt, IdlesAt, LosesAt, ComparesAt}
use Rattle.capture_log_server.specs.CaptureState.{CaptureState, FeedsUnless, PulsesIf, LosesIf, after_quiet, after_loss, put, world_at, start_at}
use Rattle.capture_log_server.specs.States.{ConnectionState, RunningState, IsConnection, IsRunning, IsTeller, unused_state}

pub on_ok_with : {X E : Type 0} (r : Result X E) (P Q : Type 0) → (P → Q) → OnOk r P → OnOk r Q
on_ok_with (Ok x) P Q f h = f h
on_ok_with (Err e) P Q f h = tt

-- a vector whose elements were lent as a slice
pub lent_back : {X : Type 0} (n : ℕ) (slots items : List X) → length slots ≡ length items → n ≡ length items → take n (slots ++ drop (length slots) items) ≡ slots
lent_back n slots items same all =
    take-append-le n slots (drop (length slots) items) (omega (arith, same, all)) ∙ take_all n slots (omega (arith, same, all))

-- an element that was set, and the others

get-set : {X : Type 0} (xs : List X) (i k : ℕ) (d c : X) → slice_get (slice_set xs i d) k ≡ Some c → ((k ≡ i) × (c ≡ d)) ⊎ ((k ≢ i) × (slice_get xs k ≡ Some c))
get-set [] i k d c e = inr ((λ same. absurd (cc e)), e)
get-set (x ∷ xs) zero zero d c e = inl (refl, cc e)
get-set (x ∷ xs) zero (suc k) d c e = inr ((λ same. cc same), e)
get-set (x ∷ xs) (suc i) zero d c e = inr ((λ same. cc same), e)
get-set (x ∷ xs) (suc i) (suc k) d c e = elim (get-set xs i k d c e) [
  | inl p ↦ inl (ap suc p.0, p.1)
  | inr p ↦ inr ((λ same. p.0 (omega (arith, same))), p.1)
]

put-same : (link k : ℕ) (p : Connection) (conns : ℕ → Connection) → k ≡ link → put link p conns k ≡ p
put-same link k p conns e = elim (eqb_tells k link) [
  | inl t ↦ ap (λ (b : Bool). if b then p else conns k) t.0
  | inr t ↦ absurd (t.1 e)
]

put-other : (link k : ℕ) (p : Connection) (conns : ℕ → Connection) → k ≢ link → put link p conns k ≡ conns k
put-other link k p conns e = elim (eqb_tells k link) [
  | inl t ↦ absurd (e t.1)
  | inr t ↦ ap (λ (b : Bool). if b then p else conns k) t.0
]

-- the connections, with one of them set
pub set-connections : (block : List ℕ) (slots : List ConnectionState) (i : ℕ) (d : ConnectionState) (p : Connection) (conns : ℕ → Connection)
    → ((k : ℕ) (c : ConnectionState) → slice_get slots k ≡ Some c → IsConnection block c (conns (suc k))) → IsConnection block d p
    → (k : ℕ) (c : ConnectionState) → slice_get (slice_set slots i d) k ≡ Some c → IsConnection block c (put (suc i) p conns (suc k))
set-connections block slots i d p conns each is k c e = elim (get-set slots i k d c e) [
  | inl h ↦ subst (λ (x : Connection). IsConnection block c x) (sym (put-same (suc i) (suc k) p conns (ap suc h.0))) (subst (λ (x : ConnectionState). IsConnection block x p) (sym h.1) is)
  | inr h ↦ subst (λ (x : Connection). IsConnection block c x) (sym (put-other (suc i) (suc k) p conns (λ same. h.0 (omega (arith, same))))) (each k c h.1)
]

-- what the teller answers is what the serial server does

pub served-there : (t u : Shown) (s : CaptureState) (first now : ℕ) (steps : List Step) → IsTeller t s first → s.start ≡ Some first → Extends t steps u → AreServed (world_at s now) steps
served-there t u s first now steps is started x =
    let world : stand t.start (t.history) ≡ world_at s now =
    ap (λ (w : World). stand w (t.history)) is.start ∙ ap (λ (h : List Entry). stand (fresh_world s.house first) h) is.history
    ∙ ap (λ (o : Option ℕ). stand (fresh_world s.house (start_at o now)) s.history) (sym started) in
    subst (λ (w : World). AreServed w steps) world x.served

pub told-there : (t u : Shown) (s : CaptureState) (first : ℕ) (steps : List Step) → IsTeller t s first → Extends t steps u → u.history ≡ s.history ++ entries_of steps
told-there t u s first steps is x = x.history ∙ ap (λ (h : List Entry). h ++ entries_of steps) is.history

pub started-there : (t u : Shown) (s : CaptureState) (first : ℕ) (steps : List Step) → IsTeller t s first → Extends t steps u → u.start ≡ fresh_world s.house first
started-there t u s first steps is x = x.start ∙ is.start

-- counts of replies

replies-count : (n : ℕ) (fs : List Frame) → n ≤ last_count → replies_after n fs ≡ min (n + length fs) last_count
replies-count n [] h = omega arith
replies-count n (f ∷ fs) h =
    let rest = replies-count (counted 1 n) fs (omega arith) in
    omega (arith, rest)

refused-one : (word n : ℕ) → n ≤ last_count → (refused_more word n ≡ min (n + (if word == 0 then 0 else 1)) last_count) × (refused_more word n ≤ last_count)
refused-one word n h = elim (eqb_tells word 0) [
  | inl t ↦ rw t.0 (omega arith, omega arith)
  | inr t ↦ rw t.0 (omega arith, omega arith)
]

refused-count : (n : ℕ) (fs : List Frame) → n ≤ last_count → refused_after n fs ≡ min (n + refused_in fs) last_count
refused-count n [] h = omega arith
refused-count n (f ∷ fs) h =
    let one = refused-one f.word n h in
    let rest = refused-count (refused_more f.word n) fs one.1 in
    let first : refused_in (f ∷ fs) ≡ (if f.word == 0 then 0 else 1) + refused_in fs = refl in
    omega (arith, rest, one.0, first)

refused-append : (fs gs : List Frame) → refused_in (fs ++ gs) ≡ refused_in fs + refused_in gs
refused-append [] gs = omega arith
refused-append (f ∷ fs) gs =
    let rest = refused-append fs gs in
    let first : refused_in (f ∷ fs) ≡ (if f.word == 0 then 0 else 1) + refused_in fs = refl in
    let both : refused_in (f ∷ (fs ++ gs)) ≡ (if f.word == 0 then 0 else 1) + refused_in (fs ++ gs) = refl in
    both ∙ omega (arith, rest, first)

pub replies-more : (n : ℕ) (before fs : List Frame) (t : ℕ) → n ≡ counted (length before) 0 → t ≡ replies_after 0 fs → counted t n ≡ counted (length (before ++ fs)) 0
replies-more n before fs t e f = omega (arith, e, f, replies-count 0 fs (omega arith), length-append before fs)

pub refused-then : (n : ℕ) (before fs : List Frame) (t : ℕ) → n ≡ counted (refused_in before) 0 → t ≡ refused_after 0 fs → counted t n ≡ counted (refused_in (before ++ fs)) 0
refused-then n before fs t e f = omega (arith, e, f, refused-count 0 fs (omega arith), refused-append before fs)

-- bytes came

pub fit-there : (r : RunningState) (s : CaptureState) (first index : ℕ) (over : Bool) → IsRunning r s first → (s.connections (suc index)).lost ≡ false
    → ((c : ConnectionState) → slice_get r.connections index ≡ Some c → over ≡ c.over) → over ≡ false
    → (c : ConnectionState) → slice_get r.connections index ≡ Some c → IsFit (status_block r.house) c
fit-there r s first index over is there told on c at =
    let conn = is.connections index c at in
    record {
      state = s.connections (suc index);
      is = subst (λ (h : Household). IsConnection (status_block h) c (s.connections (suc index))) (sym is.house) conn;
      takes = sym (told c at) ∙ on;
      there = conn.lost ∙ there;
    }

-- those of a connection that takes no more are passed over
pub passed-over : (r : RunningState) (s : CaptureState) (first now index : ℕ) (piece : List ℕ) (over : Bool) → IsRunning r s first → index < length r.connections
    → ((c : ConnectionState) → slice_get r.connections index ≡ Some c → over ≡ c.over) → over ≡ true → Happened s (suc index) now (In piece) first r
passed-over r s first now index piece over is within told on =
    let at = slice_get-get_or r.connections index unused_state within in
    let ends : (s.connections (suc index)).over ≡ true = sym (is.connections index _ at).over ∙ sym (told _ at) ∙ on in
    record { after = s; happens = subst (λ (b : Bool). FeedsUnless b s (suc index) now piece s) (sym ends) refl; is = is; start = refl }

-- the others are handled
pub fed-there : (r new : RunningState) (s : CaptureState) (first now index : ℕ) (piece : List ℕ) (tally : Tally) (over used : Bool) (slots : List ConnectionState) (u : Shown)
    → IsRunning r s first → s.start ≡ Some first
    → ((c : ConnectionState) → slice_get r.connections index ≡ Some c → over ≡ c.over) → over ≡ false
    → ((c : ConnectionState) → slice_get r.connections index ≡ Some c → used ≡ c.used)
    → FeedsAt (status_block r.house) now piece r.connections index r.teller tally slots u
    → new ≡ record {
      house = r.house;
      teller = u;
      connections = slots;
      links = if used then r.links else counted 1 r.links;
      replies = counted tally.replies r.replies;
      refused = counted tally.refused r.refused;
    }
    → Happened s (suc index) now (In piece) first new
fed-there r new s first now index piece tally over used slots u is started told on used_is at same =
    let block : List ℕ = status_block s.house in
    let peer : Connection = s.connections (suc index) in
    let conn : IsConnection block at.old peer = is.connections index at.old at.there in
    let goes : peer.over ≡ false = sym conn.over ∙ sym (told at.old at.there) ∙ on in
    let was : used ≡ peer.used = used_is at.old at.there ∙ conn.used in
    let f : FeedsConnection block now piece peer r.teller tally at.then_is u =
    subst (λ (h : Household). FeedsConnection (status_block h) now piece peer r.teller tally at.then_is u) is.house
    (at.feeds peer (subst (λ (h : Household). IsConnection (status_block h) at.old peer) (sym is.house) conn)) in
    let after : CaptureState = record s {
      connections = put (suc index) (fed_with peer piece f.frames f.replies f.after f.over) s.connections;
      links = if peer.used then s.links else counted 1 s.links;
      history = s.history ++ entries_of f.steps;
      replies = s.replies ++ f.replies;
    } in
    let held : RunningState = record {
      house = r.house;
      teller = u;
      connections = slots;
      links = if used then r.links else counted 1 r.links;
      replies = counted tally.replies r.replies;
      refused = counted tally.refused r.refused;
    } in
    let it : IsRunning held after first = record {
      house = is.house;
      teller = record { start = started-there r.teller u s first f.steps is.teller f.extends; history = told-there r.teller u s first f.steps is.teller f.extends };
      links = ap (λ (b : Bool). if b then r.links else counted 1 r.links) was ∙ ap (λ (n : ℕ). if peer.used then n else counted 1 n) is.links;
      replies = replies-more r.replies s.replies f.replies tally.replies is.replies (ap (λ (t : Tally). t.replies) f.tally_is);
      refused = refused-then r.refused s.replies f.replies tally.refused is.refused (ap (λ (t : Tally). t.refused) f.tally_is);
      size = ap length at.set ∙ length-set r.connections index at.then_is ∙ is.size;
      connections = subst (λ (l : List ConnectionState). (k : ℕ) (c : ConnectionState) → slice_get l k ≡ Some c
          → IsConnection block c (put (suc index) (fed_with peer piece f.frames f.replies f.after f.over) s.connections (suc k))) (sym at.set)
          (set-connections block r.connections index at.then_is (fed_with peer piece f.frames f.replies f.after f.over) s.connections is.connections f.is);
    } in
    record {
      after = after;
      happens = subst (λ (b : Bool). FeedsUnless b s (suc index) now piece after) (sym goes)
          record {
            frames = f.frames;
            steps = f.steps;
            replies = f.replies;
            after = f.after;
            over = f.over;
            takes = f.takes;
            served = served-there r.teller u s first now f.steps is.teller started f.extends;
            next = refl;
          };
      is = subst (λ (x : RunningState). IsRunning x after first) (sym same) it;
      start = refl;
    }

-- a quiet, a loss, and bytes that are compared

placed : (r : RunningState) (s : CaptureState) (first index : ℕ) (c d : ConnectionState) (p : Connection) (u : Shown) (slots : List ConnectionState) (steps : List Step)
    → IsRunning r s first → slots ≡ slice_set r.connections index d → IsConnection (status_block s.house) d p → u.start ≡ fresh_world s.house first → u.history ≡ s.history ++ entries_of steps
    → IsRunning (record r { teller = u; connections = slots }) (record s { connections = put (suc index) p s.connections; history = s.history ++ entries_of steps }) first
placed r s first index c d p u slots steps is set held start history = record {
  house = is.house;
  teller = record { start = start; history = history };
  links = is.links;
  replies = is.replies;
  refused = is.refused;
  size = ap length set ∙ length-set r.connections index d ∙ is.size;
  connections = subst (λ (l : List ConnectionState). (k : ℕ) (x : ConnectionState) → slice_get l k ≡ Some x → IsConnection (status_block s.house) x (put (suc index) p s.connections (suc k))) (sym set)
      (set-connections (status_block s.house) r.connections index d p s.connections is.connections held);
}

-- the same, where nothing was asked
placed_still : (r : RunningState) (s : CaptureState) (first index : ℕ) (d : ConnectionState) (p : Connection) (u : Shown) (slots : List ConnectionState)
    → IsRunning r s first → slots ≡ slice_set r.connections index d → IsConnection (status_block s.house) d p → u ≡ r.teller
    → IsRunning (record r { teller = u; connections = slots }) (record s { connections = put (suc index) p s.connections }) first
placed_still r s first index d p u slots is set held still = record {
  house = is.house;
  teller = subst (λ (t : Shown). IsTeller t (record s { connections = put (suc index) p s.connections }) first) (sym still) (record { start = is.teller.start; history = is.teller.history });
  links = is.links;
  replies = is.replies;
  refused = is.refused;
  size = ap length set ∙ length-set r.connections index d ∙ is.size;
  connections = subst (λ (l : List ConnectionState). (k : ℕ) (x : ConnectionState) → slice_get l k ≡ Some x → IsConnection (status_block s.house) x (put (suc index) p s.connections (suc k))) (sym set)
      (set-connections (status_block s.house) r.connections index d p s.connections is.connections held);
}

-- a connection that stays what it is
same_place : (link : ℕ) (conns : ℕ → Connection) (k : ℕ) → put link (conns link) conns k ≡ conns k
same_place link conns k = elim (eqb_tells k link) [
  | inl t ↦ put-same link k (conns link) conns t.1 ∙ ap conns (sym t.1)
  | inr t ↦ put-other link k (conns link) conns t.1
]

unchanged : (r : RunningState) (s : CaptureState) (first index : ℕ) (d : ConnectionState) (u : Shown) (slots : List ConnectionState)
    → IsRunning r s first → slots ≡ slice_set r.connections index d → IsConnection (status_block s.house) d (s.connections (suc index)) → u ≡ r.teller
    → IsRunning (record r { teller = u; connections = slots }) s first
unchanged r s first index d u slots is set held still =
    let it = placed_still r s first index d (s.connections (suc index)) u slots is set held still in
    record {
      house = it.house;
      teller = record { start = it.teller.start; history = it.teller.history };
      links = it.links;
      replies = it.replies;
      refused = it.refused;
      size = it.size;
      connections = λ k x at. subst (λ (p : Connection). IsConnection (status_block s.house) x p) (same_place (suc index) s.connections (suc k)) (it.connections k x at);
    }

idle_by : (r : RunningState) (s : CaptureState) (first now index : ℕ) (d : ConnectionState) (u : Shown) (slots : List ConnectionState) (o : Option LinkNumber)
    → IsRunning r s first → s.start ≡ Some first → slots ≡ slice_set r.connections index d → o ≡ open_link (s.connections (suc index)).stage
    → IdlesConnection o (status_block s.house) now (s.connections (suc index)) r.teller d u
    → (after : CaptureState) × PulsesIf o s (suc index) now after × IsRunning (record r { teller = u; connections = slots }) after first × (after.start ≡ s.start)
idle_by r s first now index d u slots None is started set opens idles = (s, refl, unchanged r s first index d u slots is set idles.1 idles.0, refl)
idle_by r s first now index d u slots (Some link) is started set opens idles =
    let steps : List Step = step now link asks.Pulse idles.0 ∷ [] in
    let p : Connection = after_quiet idles.0 (s.connections (suc index)) in (
      record s { connections = put (suc index) p s.connections; history = s.history ++ entries_of steps },
      record { answer = idles.0; served = served-there r.teller u s first now steps is.teller started idles.1; next = refl },
      placed r s first index d d p u slots steps is set idles.2 (started-there r.teller u s first steps is.teller idles.1) (told-there r.teller u s first steps is.teller idles.1),
      refl,
    )

pub quiet-there : (r new : RunningState) (s : CaptureState) (first now index : ℕ) (u : Shown) (slots : List ConnectionState)
    → IsRunning r s first → s.start ≡ Some first → IdlesAt now r.connections index r.teller slots u → new ≡ record r { teller = u; connections = slots } → Happened s (suc index) now Quiet first new
quiet-there r new s first now index u slots is started at same =
    let peer : Connection = s.connections (suc index) in
    let q = idle_by r s first now index at.then_is u slots (open_link peer.stage) is started at.set refl (at.idles (status_block s.house) peer (is.connections index at.old at.there)) in
    record { after = q.0; happens = q.1; is = subst (λ (x : RunningState). IsRunning x q.0 first) (sym same) q.2; start = q.3 }

loss_by : (r : RunningState) (s : CaptureState) (first now index : ℕ) (d : ConnectionState) (u : Shown) (slots : List ConnectionState) (o : Option LinkNumber)
    → IsRunning r s first → s.start ≡ Some first → slots ≡ slice_set r.connections index d
    → LosesConnection o (status_block s.house) now (s.connections (suc index)) r.teller d u
    → (after : CaptureState) × LosesIf o s (suc index) now after × IsRunning (record r { teller = u; connections = slots }) after first × (after.start ≡ s.start)
loss_by r s first now index d u slots None is started set loses =
    let p : Connection = after_loss (s.connections (suc index)) in
    (record s { connections = put (suc index) p s.connections }, refl, placed_still r s first index d p u slots is set loses.1 loses.0, refl)
loss_by r s first now index d u slots (Some link) is started set loses =
    let steps : List Step = step now link asks.Lost loses.0 ∷ [] in
    let p : Connection = after_loss (s.connections (suc index)) in (
      record s { connections = put (suc index) p s.connections; history = s.history ++ entries_of steps },
      record { answer = loses.0; served = served-there r.teller u s first now steps is.teller started loses.1; next = refl },
      placed r s first index d d p u slots steps is set loses.2 (started-there r.teller u s first steps is.teller loses.1) (told-there r.teller u s first steps is.teller loses.1),
      refl,
    )

pub loss-there : (r new : RunningState) (s : CaptureState) (first now index : ℕ) (u : Shown) (slots : List ConnectionState)
    → IsRunning r s first → s.start ≡ Some first → LosesAt now r.connections index r.teller slots u → new ≡ record r { teller = u; connections = slots } → Happened s (suc index) now Lost first new
loss-there r new s first now index u slots is started at same =
    let peer : Connection = s.connections (suc index) in
    let q = loss_by r s first now index at.then_is u slots (open_link peer.stage) is started at.set (at.loses (status_block s.house) peer (is.connections index at.old at.there)) in
    record { after = q.0; happens = q.1; is = subst (λ (x : RunningState). IsRunning x q.0 first) (sym same) q.2; start = q.3 }

pub compare-there : (r new : RunningState) (s : CaptureState) (first now index : ℕ) (wanted : List ℕ) (found : Option Difference) (slots : List ConnectionState)
    → IsRunning r s first → s.start ≡ Some first → ComparesAt wanted r.connections index found slots → new ≡ record r { connections = slots } → HappensBy s (suc index) now (Out wanted) first found new
compare-there r new s first now index wanted None slots is started at same =
    let peer : Connection = s.connections (suc index) in
    let c = at.compares (status_block s.house) peer (is.connections index at.old at.there) in
    let p : Connection = record peer { named = peer.named + length wanted } in
    let after : CaptureState = record s { connections = put (suc index) p s.connections } in
    record {
      after = after;
      happens = record { same = c.0; next = refl };
      is = subst (λ (x : RunningState). IsRunning x after first) (sym same) (placed_still r s first index at.then_is p r.teller slots is at.set c.1 refl);
      start = refl;
    }
compare-there r new s first now index wanted (Some d) slots is started at same =
    record { bytes = wanted; shows = refl; found = at.compares (status_block s.house) (s.connections (suc index)) (is.connections index at.old at.there) }

-- connections that none was named of

pub lost-there : (r : RunningState) (s : CaptureState) (first index : ℕ) (slots : List ConnectionState) (lost : Bool) → IsRunning r s first → index < length r.connections → slots ≡ r.connections
    → ((c : ConnectionState) → slice_get slots index ≡ Some c → lost ≡ c.lost) → lost ≡ (s.connections (suc index)).lost
lost-there r s first index slots lost is within same told =
    let at = slice_get-get_or r.connections index unused_state within in
    told _ (ap (λ (l : List ConnectionState). slice_get l index) same ∙ at) ∙ (is.connections index _ at).lost

-- what was not compared yet

pub uncompared-there : (r : RunningState) (s : CaptureState) (first index : ℕ) (slots : List ConnectionState) (rest : List ℕ) → IsRunning r s first → index < length r.connections → slots ≡ r.connections
    → ((c : ConnectionState) → slice_get slots index ≡ Some c → rest ≡ drop c.place c.out) → rest ≡ drop (s.connections (suc index)).named (output (s.connections (suc index)))
uncompared-there r s first index slots rest is within same told =
    let at = slice_get-get_or r.connections index unused_state within in
    told _ (ap (λ (l : List ConnectionState). slice_get l index) same ∙ at) ∙ (is.connections index _ at).rest

-- the world that the history makes

pub world-there : (r : RunningState) (s : CaptureState) (first : ℕ) (t : Shown) → IsRunning r s first → t ≡ r.teller → stand t.start t.history ≡ stand (fresh_world s.house first) s.history
world-there r s first t is same =
    ap (λ (x : Shown). stand x.start x.history) same ∙ ap (λ (w : World). stand w r.teller.history) is.teller.start ∙ ap (λ (h : List Entry). stand (fresh_world s.house first) h) is.teller.history
