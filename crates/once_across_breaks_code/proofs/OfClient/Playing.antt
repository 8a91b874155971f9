-- Along a schedule of the law the client stays the law's.
use Rattle.std.proofs.Common.{◌≡◌, ◌∙◌, refl, sym, subst, ℕ, Bool, true, false, cond, List, [], ◌∷◌, ◌++◌, Option, Some, None, inl, inr, take, drop}
use Rattle.dsi_session.specs.RequestIds.{CountsInRounds}
use Rattle.afp_calls_grammar.specs.declared.grammar.call.Call as grammar
use Rattle.afp_serial.specs.World.{World}
use Rattle.afp_client.specs.session.Run.{Result}
use Rattle.afp_client.specs.session.Takes.{begun}
use Rattle.afp_client.specs.declared.session.event.Event.{Event}
use Rattle.afp_client.specs.declared.session.event.Event.TheVariants as events
use Rattle.once_across_breaks.specs.once.Messages.{Call, Done}
use Rattle.once_across_breaks.specs.once.Run.{Client, Wait, Wish}
use Rattle.once_across_breaks.specs.once.Server.{Ask, Bye, Displaced, Entry, Live, Lost, Machine, Opened, Parted, Pulse, Ran, Reply, Told, entry}
use Rattle.once_across_breaks.specs.once.Frames.{Heard}
use Rattle.once_across_breaks.specs.once.Once.{IsOutstanding}
use Rattle.once_across_breaks.specs.once.Bytes.{Breaks, ByteEvent, Codecs, Commands, Drains, Ends, Line, LineOnce, Loses, Others, Quiet, ToClient, ToServer, line_ends, line_front, line_parts, line_quiet, line_quiet_by, line_run, line_start, line_step, line_tells, line_to_server}
use Rattle.once_across_breaks.specs.once.Dsi.{FindsFrame, dsi}
use Rattle.once_across_breaks.specs.once.Laws.{OnceInOrderOverDsi}
use Rattle.once_across_breaks.specs.once.Serial.{Setup, machine}
use Rattle.once_across_breaks_code.specs.client.Requests.{IsCall}
use Rattle.once_across_breaks_code.specs.client.Related.{IsClient}
use Rattle.once_across_breaks_code.specs.client.OverBytes.{HasFewIds}
use Rattle.once_across_breaks_code.specs.client.Steps.{call_of, results_with, waits_behind}
use Rattle.once_across_breaks_code.specs.client.Runs.{AreResults, Waits}
use Rattle.once_across_breaks_code.specs.client.OnLines.{IsOnLine, on_link}
use Rattle.once_across_breaks_code.specs.client.Playing.{AllPlays, AreOutstanding, ClientsCommandsOnce, Player, Plays, PlaysAsk, PlaysFeed, player_of, told_with}
use Rattle.once_across_breaks_code.proofs.OfClient.Lines.{lines-ask, lines-break, lines-hold, lines-start, lines-take}
use Rattle.once_across_breaks_code.proofs.OfClient.Running.{waits-on}

record IsPlayer (u : Setup) (x : Line World) (p : Player) : Type 0 where
  on : IsOnLine u x p.core
  results : AreResults u x.client.results p.told
  waits : Waits u (call_of x.client.wait) p.call

-- ---- results

join-results : (u : Setup) (ds es : List Done) (rs qs : List Result) → AreResults u ds rs → AreResults u es qs → AreResults u (ds ++ es) (rs ++ qs)
join-results u [] es [] qs are more = more
join-results u [] es (r ∷ rs) qs are more = absurd are
join-results u (d ∷ ds) es [] qs are more = absurd are
join-results u (d ∷ ds) es (r ∷ rs) qs are more = (are.0, join-results u ds es rs qs are.1 more)

told-same : (u : Setup) (event : Event) (wait : Option Wait) (call : Option grammar.Call) → Waits u (call_of wait) call → AreResults u (results_with event wait) (told_with event call)
told-same u (events.Told c block) None None waits = tt
told-same u (events.Told c block) (Some w) (Some call) waits = (record { call = waits; answer = refl }, tt)
told-same u (events.Told c block) None (Some call) waits = absurd waits
told-same u (events.Told c block) (Some w) None waits = absurd waits
told-same u event wait call waits = tt

-- ---- events that are the client's

player-asks : CountsInRounds → (u : Setup) (x : Line World) (command : Call) (p last : Player) → IsPlayer u x p → PlaysAsk u command p last → IsPlayer u (line_step (dsi u) (machine u) x (Commands command)) last
player-asks counts u x command p last h a =
    let after : Line World = line_step (dsi u) (machine u) x (Commands command) in
    let r = lines-ask counts u x p.core command a.call h.on a.ready a.is in
    subst (λ (q : Player). IsPlayer u after q) (sym a.plays)
    (record {
      on = r.on;
      results = subst (λ (ds : List Done). AreResults u ds p.told) (sym r.results) h.results;
      waits = subst (λ (o : Option Call). Waits u o (Some a.call)) (sym r.waits) a.is;
    })

player-feeds : CountsInRounds → FindsFrame → (u : Setup) (x : Line World) (n : ℕ) (p last : Player) → IsPlayer u x p → PlaysFeed x n p last → IsPlayer u (line_step (dsi u) (machine u) x (ToClient n)) last
player-feeds counts finds u x n p last h f =
    let after : Line World = line_step (dsi u) (machine u) x (ToClient n) in
    elim f.comes [
      | inl t ↦
          let r = lines-take counts finds u x n p.core f.fed t.new t.out t.out_after t.event h.on f.feeds f.bytes t.next t.reply in
          subst (λ (q : Player). IsPlayer u after q) (sym t.plays)
          (record {
            on = r.on;
            results = subst (λ (ds : List Done). AreResults u ds (p.told ++ told_with t.event p.call)) (sym r.results)
                (join-results u x.client.results (results_with t.event x.client.wait) p.told (told_with t.event p.call) h.results (told-same u t.event x.client.wait p.call h.waits));
            waits = subst (λ (o : Option Call). Waits u o (waits_behind t.event p.call)) (sym r.waits) (waits-on u t.event (call_of x.client.wait) p.call h.waits);
          })
      | inr t ↦
          let r = lines-hold finds u x n p.core f.fed h.on f.feeds f.bytes t.why in
          subst (λ (q : Player). IsPlayer u after q) (sym t.plays)
          (record {
            on = r.on;
            results = subst (λ (c : Client). AreResults u c.results p.told) (sym r.same) h.results;
            waits = subst (λ (c : Client). Waits u (call_of c.wait) p.call) (sym r.same) h.waits;
          })
    ]

player-begins : (u : Setup) (x : Line World) (p last : Player) → IsPlayer u x p → last ≡ record p { core = on_link (begun p.core.state) } → IsPlayer u (line_step (dsi u) (machine u) x Breaks) last
player-begins u x p last h is =
    let r = lines-break u x p.core.state h.on.client in
    subst (λ (q : Player). IsPlayer u (line_step (dsi u) (machine u) x Breaks) q) (sym is) (record { on = r.on; results = h.results; waits = h.waits })

-- ---- all others leave it as it is

record IsSame (x y : Line World) : Type 0 where
  client : y.client ≡ x.client
  taken : y.taken ≡ x.taken

player-stays : (u : Setup) (x y : Line World) (p last : Player) → IsPlayer u x p → IsSame x y → last ≡ p → IsPlayer u y last
player-stays u x y p last h same is =
    let on = h.on in
    subst (λ (q : Player). IsPlayer u y q) (sym is)
    (record {
      on = record {
        client = subst (λ (c : Client). IsClient u c p.core.state) (sym same.client) on.client;
        few = subst (λ (c : Client). HasFewIds c) (sym same.client) on.few;
        held = on.held ∙ sym same.taken;
      };
      results = subst (λ (c : Client). AreResults u c.results p.told) (sym same.client) h.results;
      waits = subst (λ (c : Client). Waits u (call_of c.wait) p.call) (sym same.client) h.waits;
    })

front-same : (c : Codecs) (s : Machine World) (x : Line World) (i moment : ℕ) (wish : Wish) (holds under : List ℕ) (o : Option ((ℕ × Heard) × List ℕ)) → IsSame x (line_front c s x i moment wish holds under o)
front-same c s x i moment wish holds under None = record { client = refl; taken = refl }
front-same c s x i moment wish holds under (Some f) = record { client = refl; taken = refl }

server-same : (c : Codecs) (s : Machine World) (x : Line World) (i n moment : ℕ) (wish : Wish) (ended : Bool) → IsSame x (line_to_server c s x i n moment wish ended)
server-same c s x i n moment wish true = record { client = refl; taken = refl }
server-same c s x i n moment wish false = front-same c s x i moment wish (x.held i ++ take n (x.up i)) (drop n (x.up i)) (c.up.front (x.held i ++ take n (x.up i)))

quiet-by-same : (x y : Line World) (i : ℕ) (t : Told) → IsSame x y → IsSame x (line_quiet_by y i t)
quiet-by-same x y i Displaced same = record { client = same.client; taken = same.taken }
quiet-by-same x y i (Opened link) same = same
quiet-by-same x y i (Reply a ends) same = same
quiet-by-same x y i Live same = same
quiet-by-same x y i Parted same = same

either-same : (x y z : Line World) (b : Bool) → IsSame x y → IsSame x z → IsSame x (cond b y z)
either-same x y z true one other = one
either-same x y z false one other = other

itself : (x : Line World) → IsSame x x
itself x = record { client = refl; taken = refl }

quiet-same : (s : Machine World) (x : Line World) (i moment : ℕ) (wish : Wish) (ended : Bool) (number : Option ℕ) → IsSame x (line_quiet s x i moment wish ended number)
quiet-same s x i moment wish true number = itself x
quiet-same s x i moment wish false None = itself x
quiet-same s x i moment wish false (Some link) =
    let e : Entry = entry link moment Pulse Ran in
    either-same x x (line_quiet_by (line_tells s x e) i (s.told x.world e)) wish.memory (itself x) (quiet-by-same x (line_tells s x e) i (s.told x.world e) (record { client = refl; taken = refl }))

ends-same : (x y : Line World) (i : ℕ) → IsSame x y → IsSame x (line_ends y i)
ends-same x y i same = record { client = same.client; taken = same.taken }

parts-same : (s : Machine World) (x : Line World) (i moment : ℕ) (wish : Wish) (ask : Ask) (ended : Bool) (number : Option ℕ) → IsSame x (line_parts s x i moment wish ask ended number)
parts-same s x i moment wish ask true number = itself x
parts-same s x i moment wish ask false None = record { client = refl; taken = refl }
parts-same s x i moment wish ask false (Some link) =
    ends-same x (cond wish.memory x (line_tells s x (entry link moment ask Ran))) i (either-same x x (line_tells s x (entry link moment ask Ran)) wish.memory (itself x) (record { client = refl; taken = refl }))

-- ---- schedules

player-goes : CountsInRounds → FindsFrame → (u : Setup) (x : Line World) (e : ByteEvent) (p last : Player) → IsPlayer u x p → Plays u x e p last → IsPlayer u (line_step (dsi u) (machine u) x e) last
player-goes counts finds u x (Commands command) p last h plays = player-asks counts u x command p last h plays
player-goes counts finds u x (ToServer i n moment wish) p last h plays = player-stays u x _ p last h (server-same (dsi u) (machine u) x i n moment wish (x.ends i).ended) plays
player-goes counts finds u x (ToClient n) p last h plays = player-feeds counts finds u x n p last h plays
player-goes counts finds u x (Quiet i moment wish) p last h plays = player-stays u x _ p last h (quiet-same (machine u) x i moment wish (x.ends i).ended (x.ends i).number) plays
player-goes counts finds u x (Loses i moment wish) p last h plays = player-stays u x _ p last h (parts-same (machine u) x i moment wish Lost (x.ends i).ended (x.ends i).number) plays
player-goes counts finds u x (Drains i moment wish) p last h plays = player-stays u x _ p last h (parts-same (machine u) x i moment wish Bye (x.ends i).ended (x.ends i).number) plays
player-goes counts finds u x (Ends i) p last h plays = player-stays u x _ p last h (ends-same x x i (itself x)) plays
player-goes counts finds u x Breaks p last h plays = player-begins u x p last h plays
player-goes counts finds u x (Others e) p last h plays = player-stays u x (line_tells (machine u) x e) p last h (record { client = refl; taken = refl }) plays

player-runs : CountsInRounds → FindsFrame → (u : Setup) (events : List ByteEvent) (x : Line World) (p last : Player) → IsPlayer u x p → AllPlays u x events p last → IsPlayer u (line_run (dsi u) (machine u) x events) last
player-runs counts finds u [] x p last h plays = subst (λ (q : Player). IsPlayer u x q) (sym plays) h
player-runs counts finds u (e ∷ es) x p last h plays =
    player-runs counts finds u es (line_step (dsi u) (machine u) x e) plays.0 last (player-goes counts finds u x e p plays.0 h plays.1) plays.2

at-most : (u : Setup) (more : List Done) (wait : Option Wait) (call : Option grammar.Call) → IsOutstanding more wait → Waits u (call_of wait) call → AreOutstanding u more call
at-most u [] wait call is waits = tt
at-most u (d ∷ []) None call is waits = absurd is
at-most u (d ∷ []) (Some w) None is waits = absurd waits
at-most u (d ∷ []) (Some w) (Some call) is waits = subst (λ (c : Call). IsCall u c call) (sym is.1) waits
at-most u (d ∷ e ∷ ds) wait call is waits = absurd is

pub clients-commands-once : CountsInRounds → FindsFrame → OnceInOrderOverDsi → ClientsCommandsOnce
clients-commands-once counts finds once u w n login events p logs sound numbered allowed plays token =
    let x : Line World = line_run (dsi u) (machine u) (line_start (dsi u) w) events in
    let first : IsPlayer u (line_start (dsi u) w) (player_of login) = record { on = lines-start u w login logs; results = tt; waits = tt } in
    let h : IsPlayer u x p = player-runs counts finds u events (line_start (dsi u) w) (player_of login) p first plays in
    let one : LineOnce (machine u) n w x = once u w n events sound numbered allowed (sym h.on.client.token ∙ token) in
    record { done = x.client.results; more = one.more; results = h.results; effects = one.effects; at_most = at-most u one.more x.client.wait p.call one.at_most h.waits }
