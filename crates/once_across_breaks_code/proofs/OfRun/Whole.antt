-- Whole runs.
use Rattle.std.proofs.Common.{◌≡◌, ◌∙◌, refl, sym, ap, subst, ℕ, ◌≤◌, ◌<◌, Bool, true, false, List, [], ◌∷◌, Some, arith, ◌++◌}
use Rattle.std.specs.Prelude.{map}
use Rattle.afp_base.specs.Cached as cached
use Rattle.afp_client.specs.session.Takes.{begun}
use Rattle.afp_client.specs.declared.session.login.Login as logins
use Rattle.afp_serial.specs.History.{stand}
use Rattle.afp_serial.specs.Shown.{IsSoundShown, Shown}
use Rattle.afp_serial.specs.Token.{session_token}
use Rattle.afp_serial.specs.World.{World}
use Rattle.afp_serial.specs.declared.ask.Entry as entries
use Rattle.once_across_breaks.proofs.OfOnce.Events.{set-at}
use Rattle.once_across_breaks.proofs.OfOnce.Steps.{upd}
use Rattle.once_across_breaks.specs.once.Messages.{Done, kept}
use Rattle.once_across_breaks.specs.once.Once.{effective}
use Rattle.once_across_breaks.specs.once.Server.{numbers_end}
use Rattle.once_across_breaks.specs.once.Effects.{EffectsAreTheHistorys, answered, effect_of, effects}
use Rattle.once_across_breaks.specs.once.Frames.{Carrier, Net, fresh_end, net_run, net_start}
use Rattle.once_across_breaks.specs.once.Laws.{OnceInOrderCarried}
use Rattle.once_across_breaks.specs.once.Run.{Event, fresh_client}
use Rattle.once_across_breaks.specs.once.Serial.{IsSoundUnder, Setup, machine}
use Rattle.once_across_breaks.specs.once.Tokens.{IsDrawn, TokensAreDrawn}
use Rattle.once_across_breaks.specs.once.UnderWay.{StartsFitting}
use Rattle.once_across_breaks_code.specs.client.Related.{IsClient, made_client}
use Rattle.once_across_breaks_code.specs.client.Requests.{LogsIn}
use Rattle.once_across_breaks_code.specs.server.Ties.{AreEntries, plain}
use Rattle.once_across_breaks_code.specs.run.Doings.{Asks, Breaks, Brings, Does, Doing, Reaches, IsCarriedOn, Loses, Others, Quiets, Runs, Takes, CanCarry, IsAlone, RunsAlone, fed_at}
use Rattle.once_across_breaks_code.specs.run.Laws.{IsSchedule, RunsAreSchedules, RunsTakeEffectOnce, SoleRunsAreSchedules, SoleRunsTakeEffectOnce, TakesEffectOnce, HoldsToken, RunsHoldTokens, SoleRunsHoldTokens}
use Rattle.once_across_breaks_code.specs.run.Premises.{Keeps, Notes, RunKeeps, RunKeepsAlone, no_notes, noted}
use Rattle.once_across_breaks_code.specs.run.Mirrors.{AreTold, IsLane, Mirrors}
use Rattle.once_across_breaks_code.specs.run.Things.{Things, begun_lane, begun_things}
use Rattle.afp_serial.proofs.Grows.{went-one}
use Rattle.afp_serial.specs.Went.{step}
use Rattle.afp_serial.specs.declared.ask.Ask.TheVariants as ask
use Rattle.afp_server.specs.link.Wire as wires
use Rattle.once_across_breaks_code.specs.server.Asked.{AsksAlone, SoleTellersAreAskedAlone}
use Rattle.once_across_breaks_code.specs.server.Fed.{CarriedSince}
use Rattle.once_across_breaks_code.proofs.OfRun.Alone.{carried-alone, feeds-ask, nothing-since, parts-ask}
use Rattle.once_across_breaks_code.proofs.OfRun.AtClient.{ClientLaws, brought-keeps}
use Rattle.once_across_breaks_code.proofs.OfRun.AtServer.{lost-keeps, others-keep, quiet-keeps}
use Rattle.once_across_breaks_code.proofs.OfRun.ClientSteps.{asked-keeps, broken-keeps, begun_carrier, new-lane, taken-keeps}
use Rattle.once_across_breaks_code.proofs.OfRun.Allowed.{AreFirst, IsAmong}
use Rattle.once_across_breaks_code.proofs.OfRun.Courses.{Kept}
use Rattle.once_across_breaks_code.proofs.OfRun.Sole.{keeps-alone}
use Rattle.once_across_breaks_code.proofs.OfRun.Plainly.{same-effects}
use Rattle.once_across_breaks_code.proofs.OfRun.Feeding.{FeedLaws, fed-keeps}

pub record RunLaws : Type 0 where
  pub feed : FeedLaws
  pub client : ClientLaws
  pub starts : StartsFitting
  pub once : OnceInOrderCarried
  pub effects : EffectsAreTheHistorys
  pub sole : SoleTellersAreAskedAlone
  pub drawn : TokensAreDrawn

-- ---- the start

first-client : (u : Setup) (login : logins.Login) → LogsIn u login → IsClient u fresh_client (begun (made_client login))
first-client u login logs = record {
  login = logs;
  stage = (refl, refl, refl);
  token = refl;
  carried = tt;
  waiting = refl;
  wait_id = tt;
  next_id = refl;
}

abbrev no_carrier : Carrier
no_carrier = record { end = fresh_end; up = []; down = [] }

first : RunLaws → (u : Setup) (login : logins.Login) (block : List ℕ) (shown : Shown) → LogsIn u login → IsSoundShown shown → shown.history ≡ [] → IsSoundUnder u.key shown.start → (n : ℕ) (b : Bool) → Kept u shown.start n b no_notes (begun_things block login shown) (net_start shown.start)
first laws u login block shown logs sound none under n b =
    let there : (net_start shown.start).links 0 ≡ begun_carrier = set-at (λ j. no_carrier) 0 begun_carrier 0 refl in
    let lane : IsLane u (begun_lane block) ((net_start shown.start).links 0) = subst (IsLane u (begun_lane block)) (sym there) (new-lane u block) in
    record {
      events = [];
      is_run = refl;
      mirrors = record {
        client = first-client u login logs;
        linked = λ e. cc;
        token = tt;
        world = ap (stand shown.start) (sym none);
        history = ap (map plain) (sym none);
        calls = tt;
        results = tt;
        top = refl;
        each = λ i within. subst (λ (l : ℕ). IsLane u (begun_lane block) ((net_start shown.start).links l)) (zero-only i within) lane;
        going = λ live. ((omega arith, tt), refl);
        coming = λ live. refl;
      };
      fits = laws.starts u shown.start under;
      start = refl;
      shown = sound;
      legal = tt;
      row = refl;
      first = λ i unset. upd (λ j. no_carrier) 0 begun_carrier (λ k (y : Carrier). AreFirst y.up) (refl, tt) (λ k off. tt) i;
      numbers = λ i l. upd (λ j. no_carrier) 0 begun_carrier (λ k (y : Carrier). y.end.number ≡ Some l → IsAmong l []) (λ is. absurd (cc)) (λ k off is. absurd (cc)) i;
      allowed = λ so. tt;
    }
  where
    zero-only : (i : ℕ) → i ≤ 0 → 0 ≡ i
    zero-only i within = omega (arith, within)

-- ---- step by step

does-keep : RunLaws → (u : Setup) (w : World) (n : ℕ) (b : Bool) (notes : Notes) (d : Doing) (t s : Things) (net : Net World) → Does d t s → IsCarriedOn t.shown s.shown → (b ≡ true → Keeps u.key n (noted d t s notes) d t s) → Kept u w n b notes t net
    → (after : Net World) × Kept u w n b (noted d t s notes) s after
does-keep laws u w n b notes (Asks call) t s net x on keep k = asked-keeps laws.client u w n b notes call t s net x (λ so. (keep so).row) k
does-keep laws u w n b notes (Reaches link now) t s net x on keep k = fed-keeps laws.feed u w n b notes link now t s net x on keep k
does-keep laws u w n b notes Brings t s net x on keep k = (net, brought-keeps u w n b notes t s net x k)
does-keep laws u w n b notes (Takes event) t s net x on keep k = taken-keeps laws.client u w n b notes event t s net x (λ so. (keep so).row) k
does-keep laws u w n b notes (Quiets link now) t s net x on keep k = quiet-keeps laws.feed.server u w n b notes link now t s net x on keep k
does-keep laws u w n b notes (Loses link now) t s net x on keep k = lost-keeps laws.feed.server u w n b notes link now t s net x on keep k
does-keep laws u w n b notes Breaks t s net x on keep k = broken-keeps laws.client u w n b notes t s net x (λ so. (keep so).row) k
does-keep laws u w n b notes (Others now link asks) t s net x on keep k = others-keep laws.feed.server u w n b notes now link asks t s net x on keep k

-- a schedule that leads there
pub record Reached (u : Setup) (w : World) (n : ℕ) (b : Bool) (t : Things) : Type 0 where
  pub net : Net World
  pub notes : Notes
  pub stands : Kept u w n b notes t net

runs-keep : RunLaws → (u : Setup) (w : World) (n : ℕ) (b : Bool) (notes : Notes) (ds : List Doing) (t s : Things) (net : Net World) (runs : Runs t ds s) → (b ≡ true → RunKeeps u.key n notes t ds s runs) → Kept u w n b notes t net → Reached u w n b s
runs-keep laws u w n b notes [] t s net is keep k = record { net = net; notes = notes; stands = subst (λ (x : Things). Kept u w n b notes x net) (sym is) k }
runs-keep laws u w n b notes (d ∷ ds) t s net (mid, does, on, rest) keep k =
    let next = does-keep laws u w n b notes d t mid net does on (λ so. (keep so).0) k in
    runs-keep laws u w n b (noted d t mid notes) ds mid s next.0 rest (λ so. (keep so).1) next.1

-- ---- where nobody else asks

carried-by : RunLaws → (u : Setup) (w : World) (n : ℕ) (b : Bool) (notes : Notes) (d : Doing) (t s : Things) (net : Net World) → Does d t s → CanCarry d → AsksAlone t.shown → IsAlone s.shown → Kept u w n b notes t net → CarriedSince t.shown s.shown
carried-by laws u w n b notes (Asks call) t s net x can first last k = nothing-since t.shown s.shown x.grows.shown
carried-by laws u w n b notes Brings t s net x can first last k = nothing-since t.shown s.shown x.shown
carried-by laws u w n b notes (Takes event) t s net x can first last k = nothing-since t.shown s.shown x.grows.shown
carried-by laws u w n b notes Breaks t s net x can first last k = nothing-since t.shown s.shown x.shown
carried-by laws u w n b notes (Reaches i now) t s net x can first last k =
    let g = (k.mirrors.each i x.link).live x.live in
    let start : wires.FeedStart = fed_at (t.lanes i) now t.shown g.bytes g.past in
    let p : wires.FeedPoint = wires.feed_point (s.lanes i).wire.stage (s.lanes i).wire.tally (s.lanes i).down s.shown in
    let asks = feeds-ask start (g.bytes ++ x.piece) x.result (s.lanes i).wire.held p (x.feeds g.bytes g.past g.given) in
    carried-alone laws.sole t.shown s.shown asks.steps last.sound first last.alone asks.went asks.carried
carried-by laws u w n b notes (Quiets i now) t s net x can first last k =
    carried-alone laws.sole t.shown s.shown (step now x.link ask.Pulse x.told ∷ []) last.sound first last.alone (went-one t.shown s.shown now x.link ask.Pulse x.told x.asked) (refl, tt)
carried-by laws u w n b notes (Loses i now) t s net x can first last k =
    carried-alone laws.sole t.shown s.shown x.parts.steps last.sound first last.alone x.parts.went (parts-ask (t.lanes i).wire.stage now x.parts.steps x.parts.parts)
carried-by laws u w n b notes (Others now link asks) t s net x can first last k =
    carried-alone laws.sole t.shown s.shown (step now link asks x.told ∷ []) last.sound first last.alone (went-one t.shown s.shown now link asks x.told x.asked) (can, tt)

alone-keep : RunLaws → (u : Setup) (w : World) (n : ℕ) (b : Bool) (notes : Notes) (ds : List Doing) (t s : Things) (net : Net World) (runs : RunsAlone t ds s) → (b ≡ true → RunKeepsAlone u.key n notes t ds s runs) → AsksAlone t.shown → Kept u w n b notes t net → Reached u w n b s
alone-keep laws u w n b notes [] t s net is keep first k = record { net = net; notes = notes; stands = subst (λ (x : Things). Kept u w n b notes x net) (sym is) k }
alone-keep laws u w n b notes (d ∷ ds) t s net (mid, does, can, on, rest) keep first k =
    let next = does-keep laws u w n b notes d t mid net does (record { sound = on.sound; carried = carried-by laws u w n b notes d t mid net does can first on k })
    (λ so. keeps-alone laws.sole u.key n (noted d t mid notes) d t mid does first on (keep so).0) k in
    alone-keep laws u w n b (noted d t mid notes) ds mid s next.0 rest (λ so. (keep so).1) on.alone next.1

-- ---- once, in order

-- the same schedule, from the net that it leads to
at-run : (u : Setup) (w : World) (n : ℕ) (b : Bool) (last : Things) (r : Reached u w n b last) → Mirrors u last (net_run (machine u) (net_start w) r.stands.events)
at-run u w n b last r = subst (Mirrors u last) r.stands.is_run r.stands.mirrors

in-effect : RunLaws → (u : Setup) (n : ℕ) (w : World) (last : Things) (after : Net World) (more : List Done) → AreEntries u after.history last.shown.history → effective (machine u) n w after.history ≡ kept after.client.results ++ more
    → map answered (effects n w last.shown.history) ≡ map effect_of (kept after.client.results ++ more)
in-effect laws u n w last after more history is =
    ap (map answered) (sym (same-effects n w last.shown.history)) ∙ ap (λ (es : List entries.Entry). map answered (effects n w es)) (sym history) ∙ laws.effects u n w after.history ∙ ap (map effect_of) is

schedule : RunLaws → (u : Setup) (w : World) (n : ℕ) (b : Bool) (last : Things) → IsSoundUnder u.key w → Reached u w n b last → (events : List Event) × IsSchedule u w last events
schedule laws u w n b last under r =
    let events : List Event = r.stands.events in
    let after : Net World = net_run (machine u) (net_start w) events in
    let m : Mirrors u last after = at-run u w n b last r in (
      events,
      record {
        mirrors = m;
        once = λ j small allowed token.
            let o = laws.once u w j events under small allowed token in
            record { more = o.more; in_effect = in-effect laws u j w last after o.more m.history o.effects; at_most = o.at_most };
      },
    )

pub runs-are : RunLaws → RunsAreSchedules
runs-are laws u login block shown doings last logs sound none under runs =
    schedule laws u shown.start 0 false last under
    (runs-keep laws u shown.start 0 false no_notes doings (begun_things block login shown) last (net_start shown.start) runs (λ unset. absurd (cc)) (first laws u login block shown logs sound none under 0 false))

pub sole-runs-are : RunLaws → SoleRunsAreSchedules
sole-runs-are laws u login block shown doings last logs on none under runs =
    schedule laws u shown.start 0 false last under
    (alone-keep laws u shown.start 0 false no_notes doings (begun_things block login shown) last (net_start shown.start) runs (λ unset. absurd (cc)) on.alone (first laws u login block shown logs on.sound none under 0 false))

takes-effect : RunLaws → (u : Setup) (w : World) (n : ℕ) (last : Things) → IsSoundUnder u.key w → n < numbers_end → last.client.state.token ≡ Some (session_token u.key n) → Reached u w n true last → TakesEffectOnce u n last
takes-effect laws u w n last under small token r =
    let after : Net World = net_run (machine u) (net_start w) r.stands.events in
    let m : Mirrors u last after = at-run u w n true last r in
    let o = laws.once u w n r.stands.events under small (r.stands.allowed refl) (sym m.client.token ∙ token) in
    record {
      results = after.client.results;
      wait = after.client.wait;
      calls = m.calls;
      told = m.results;
      more = o.more;
      in_effect = subst (λ (v : World). map answered (effects n v last.shown.history) ≡ map effect_of (kept after.client.results ++ o.more)) (sym r.stands.start) (in-effect laws u n w last after o.more m.history o.effects);
      at_most = o.at_most;
    }

pub runs-take-effect : RunLaws → RunsTakeEffectOnce
runs-take-effect laws u login block shown doings last n logs sound none under runs keep small token =
    takes-effect laws u shown.start n last under small token
    (runs-keep laws u shown.start n true no_notes doings (begun_things block login shown) last (net_start shown.start) runs (λ so. keep) (first laws u login block shown logs sound none under n true))

pub sole-runs-take-effect : RunLaws → SoleRunsTakeEffectOnce
sole-runs-take-effect laws u login block shown doings last n logs on none under runs keep small token =
    takes-effect laws u shown.start n last under small token
    (alone-keep laws u shown.start n true no_notes doings (begun_things block login shown) last (net_start shown.start) runs (λ so. keep) on.alone (first laws u login block shown logs on.sound none under n true))

none-told : (ds : List Done) (told : List cached.Answer) → ds ≡ [] → AreTold ds told → told ≡ []
none-told [] [] none h = refl
none-told [] (a ∷ as_told) none h = absurd h
none-told (d ∷ ds) told none h = absurd (cc)

holds-token : RunLaws → (u : Setup) (w : World) (n : ℕ) (b : Bool) (last : Things) → IsSoundUnder u.key w → Reached u w n b last → HoldsToken u last
holds-token laws u w n b last under r =
    let after : Net World = net_run (machine u) (net_start w) r.stands.events in
    let m : Mirrors u last after = at-run u w n b last r in
    let d = laws.drawn u w r.stands.events under r.stands.legal in
    record {
      none = λ none. none-told after.client.results last.results (d.none (sym m.client.token ∙ none)) m.results;
      drawn = λ token is. subst (λ (v : World). IsDrawn u v token) m.world (d.drawn token (sym m.client.token ∙ is));
    }

pub runs-hold : RunLaws → RunsHoldTokens
runs-hold laws u login block shown doings last logs sound none under runs =
    holds-token laws u shown.start 0 false last under
    (runs-keep laws u shown.start 0 false no_notes doings (begun_things block login shown) last (net_start shown.start) runs (λ unset. absurd (cc)) (first laws u login block shown logs sound none under 0 false))

pub sole-runs-hold : RunLaws → SoleRunsHoldTokens
sole-runs-hold laws u login block shown doings last logs on none under runs =
    holds-token laws u shown.start 0 false last under
    (alone-keep laws u shown.start 0 false no_notes doings (begun_things block login shown) last (net_start shown.start) runs (λ unset. absurd (cc)) on.alone (first laws u login block shown logs on.sound none under 0 false))
