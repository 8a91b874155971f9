-- Quiets, and the end of a link.
use Rattle.std.proofs.Common.{◌≡◌, ◌∙◌, refl, sym, ap, subst, ℕ, Bool, true, false, List, [], ◌∷◌, ◌++◌, Option, Some, None, append-nil, append_assoc}
use Rattle.std.specs.Prelude.{◌≢◌}
use Rattle.afp_base.specs.declared.ids.LinkNumber.{LinkNumber}
use Rattle.afp_serial.specs.declared.ask.Ask as asks
use Rattle.afp_serial.specs.declared.ask.Ask.TheVariants as ask
use Rattle.afp_serial.specs.declared.ask.Entry as entries
use Rattle.afp_serial.specs.declared.ask.Told as tolds
use Rattle.afp_serial.specs.declared.ask.Told.TheVariants as told
use Rattle.afp_serial.specs.Answer.{after, answer}
use Rattle.afp_serial.specs.Went.{Step, step}
use Rattle.afp_serial.specs.World.{World}
use Rattle.afp_server.specs.link.Trace.{Cause, Idled, closed, bad, displaced, drained, silent, unwritten}
use Rattle.afp_server.specs.declared.link.stage.Stage.{Stage}
use Rattle.afp_server.specs.declared.link.stage.Stage.TheVariants as stages
use Rattle.once_across_breaks.specs.once.Frames.{Carrier, Net, ended_end, net_ends, net_parts, net_quiet, net_quiet_by, net_step, net_tells}
use Rattle.once_across_breaks.specs.once.Run.{Drains, Quiet, Wish}
use Rattle.once_across_breaks.specs.once.Serial.{Setup, answer_by, ask_of, entry_of, machine, told_of}
use Rattle.once_across_breaks.specs.once.Server as law
use Rattle.once_across_breaks.specs.once.Server.{Bye, Lost, Pulse, Ran, entry, set}
use Rattle.once_across_breaks.proofs.OfOnce.Events.{set-at, set-off}
use Rattle.once_across_breaks_code.specs.server.Asked.{AskedAlone, AskedAt, AskedBy, BecomesEntry}
use Rattle.once_across_breaks_code.specs.server.Handling.{is_memory}
use Rattle.once_across_breaks_code.specs.server.Parting.{LinksAreQuiet, LinksPart, MovesTo, StandsAt, at_quiet}
use Rattle.once_across_breaks_code.specs.server.Ties.{plain_ask}
use Rattle.once_across_breaks_code.proofs.OfServer.Entries.{IsAs, Uncommitted, as-ran, bye-uncommitted, entries-join, entries-none, lost-uncommitted, one-alone, pulse-uncommitted}

-- a wish for want of memory, where it was told
pub wish_for : Bool → Wish
wish_for memory = record { no_sweep = false; memory = memory; fault = false }

-- nothing is asked, and the net stays
stays : (u : Setup) (i : ℕ) (stage : Stage) (es : List entries.Entry) (w behind : World) (net : Net World) → es ≡ [] → behind ≡ w → StandsAt i stage w net → MovesTo u i stage es behind net net
stays u i stage es w behind net none same stands = record {
  stands = record { world = stands.world ∙ sym same; end = stands.end };
  more = [];
  history = sym (append-nil net.history);
  asked = entries-none u es none;
  client = refl;
  top = refl;
  elsewhere = λ j off. refl;
  up = refl;
  down = refl;
}

-- two moves are one
moves-join : (u : Setup) (i : ℕ) (stage mid : Stage) (es fs : List entries.Entry) (w behind : World) (a b c : Net World) → MovesTo u i mid es w a b → MovesTo u i stage fs behind b c → MovesTo u i stage (es ++ fs) behind a c
moves-join u i stage mid es fs w behind a b c p q = record {
  stands = q.stands;
  more = p.more ++ q.more;
  history = q.history ∙ ap (λ (h : List law.Entry). h ++ q.more) p.history ∙ append_assoc a.history p.more q.more;
  asked = entries-join u p.more q.more es fs p.asked q.asked;
  client = q.client ∙ p.client;
  top = q.top ∙ p.top;
  elsewhere = λ j off. q.elsewhere j off ∙ p.elsewhere j off;
  up = q.up ∙ p.up;
  down = q.down ∙ p.down;
}

-- the link ends, with nothing asked
ended_link : Net World → ℕ → Carrier
ended_link net i = record { end = ended_end (net.links i).end; up = (net.links i).up; down = (net.links i).down }

ends : (u : Setup) (i : ℕ) (w : World) (net : Net World) → net.world ≡ w → MovesTo u i stages.Closing [] w net (net_ends net i)
unfolding ended_link
ends u i w net same =
    let here : set net.links i (ended_link net i) i ≡ ended_link net i = set-at net.links i (ended_link net i) i refl in
    record {
      stands = record { world = same; end = ap (λ (c : Carrier). c.end.ended) here };
      more = [];
      history = sym (append-nil net.history);
      asked = refl;
      client = refl;
      top = refl;
      elsewhere = λ j off. set-off net.links i (ended_link net i) j off;
      up = ap (λ (c : Carrier). c.up) here;
      down = ap (λ (c : Carrier). c.down) here;
    }

-- an entry is asked
tells : (u : Setup) (i : ℕ) (stage : Stage) (es : List entries.Entry) (w behind : World) (t : tolds.Told) (x : law.Entry) (net : Net World) → StandsAt i stage w net → IsAs u w es behind t x → MovesTo u i stage es behind net (net_tells (machine u) net x)
tells u i stage es w behind t x net stands is = record {
  stands = record { world = ap (λ (v : World). after v (entry_of u x)) stands.world ∙ is.left; end = stands.end };
  more = x ∷ [];
  history = refl;
  asked = is.asked;
  client = refl;
  top = refl;
  elsewhere = λ j off. refl;
  up = refl;
  down = refl;
}

-- ---- a parting

told-parts : (u : Setup) (now : ℕ) (link : LinkNumber) (a : asks.Ask) (x : law.Ask) (t : tolds.Told) (w behind : World) (es : List entries.Entry) (net : Net World) (i : ℕ)
    → ask_of u x ≡ plain_ask a → Uncommitted a → BecomesEntry w (step now link a t) es behind → StandsAt i (stages.Open link) w net
    → MovesTo u i stages.Closing es behind net (net_parts (machine u) net i now (wish_for false) x false (Some link.0))
unfolding wish_for
told-parts u now link a x t w behind es net i same none b stands =
    let first = tells u i (stages.Open link) es w behind t (entry link.0 now x Ran) net stands (as-ran u w now link a t x es behind same none b) in
    let asked : Net World = net_tells (machine u) net (entry link.0 now x Ran) in
    subst (λ (l : List entries.Entry). MovesTo u i stages.Closing l behind net (net_ends asked i)) (append-nil es)
    (moves-join u i stages.Closing (stages.Open link) es [] behind behind net asked (net_ends asked i) first (ends u i behind asked first.stands.world))

-- where a session is open: Lost or Bye, by what it is told
pub parts-by : (u : Setup) (now : ℕ) (link : LinkNumber) (a : asks.Ask) (x : law.Ask) (t : tolds.Told) (w behind : World) (es : List entries.Entry) (net : Net World) (i : ℕ)
    → ask_of u x ≡ plain_ask a → Uncommitted a → AskedBy w (step now link a t) t es behind → StandsAt i (stages.Open link) w net
    → MovesTo u i stages.Closing es behind net (net_parts (machine u) net i now (wish_for (is_memory t)) x false (Some link.0))
unfolding wish_for
parts-by u now link a x (told.Opened l) w behind es net i same none b stands = told-parts u now link a x (told.Opened l) w behind es net i same none b stands
parts-by u now link a x (told.Reply code block ends) w behind es net i same none b stands = told-parts u now link a x (told.Reply code block ends) w behind es net i same none b stands
parts-by u now link a x (told.Live drain) w behind es net i same none b stands = told-parts u now link a x (told.Live drain) w behind es net i same none b stands
parts-by u now link a x told.Done w behind es net i same none b stands = told-parts u now link a x told.Done w behind es net i same none b stands
parts-by u now link a x told.Displaced w behind es net i same none b stands = told-parts u now link a x told.Displaced w behind es net i same none b stands
parts-by u now link a x told.Memory w behind es net i same none (empty, left) stands =
    subst (λ (l : List entries.Entry). MovesTo u i stages.Closing l behind net (net_ends net i)) (sym empty) (ends u i behind net (stands.world ∙ sym left))

pub parts-at : (u : Setup) (i now : ℕ) (wish : Wish) (x : law.Ask) (net : Net World) (es : List entries.Entry) (behind : World) (b : Bool) (n : Option ℕ)
    → (net.links i).end.ended ≡ b → (net.links i).end.number ≡ n → MovesTo u i stages.Closing es behind net (net_parts (machine u) net i now wish x b n)
    → MovesTo u i stages.Closing es behind net (net_parts (machine u) net i now wish x (net.links i).end.ended (net.links i).end.number)
parts-at u i now wish x net es behind b n p q moves =
    subst (λ (c : Bool). MovesTo u i stages.Closing es behind net (net_parts (machine u) net i now wish x c (net.links i).end.number)) (sym p)
    (subst (λ (m : Option ℕ). MovesTo u i stages.Closing es behind net (net_parts (machine u) net i now wish x b m)) (sym q) moves)

pub links-part : LinksPart
links-part u now stages.Fresh steps w behind es net i parts asked stands =
    let none = subst (λ (ss : List Step). AskedAlone w ss es behind) parts asked in (
      wish_for false,
      parts-at u i now (wish_for false) Lost net es behind false None stands.end.1 stands.end.0
          (subst (λ (l : List entries.Entry). MovesTo u i stages.Closing l behind net (net_ends net i)) (sym none.0) (ends u i behind net (stands.world ∙ sym none.1))),
    )
links-part u now (stages.Open link) steps w behind es net i (t, parts) asked stands =
    let one = one-alone w (step now link ask.Lost t) es behind (subst (λ (ss : List Step). AskedAlone w ss es behind) parts asked) in (
      wish_for (is_memory t),
      parts-at u i now (wish_for (is_memory t)) Lost net es behind false (Some link.0) stands.end.1 stands.end.0 (parts-by u now link ask.Lost Lost t w behind es net i refl lost-uncommitted one stands),
    )
links-part u now stages.Closing steps w behind es net i parts asked stands =
    let none = subst (λ (ss : List Step). AskedAlone w ss es behind) parts asked in (
      wish_for false,
      parts-at u i now (wish_for false) Lost net es behind true (net.links i).end.number stands.end refl (stays u i stages.Closing es w behind net none.0 none.1 stands),
    )

-- ---- a quiet

quiet-told : (u : Setup) (now : ℕ) (link : LinkNumber) (t : tolds.Told) (w behind : World) (es : List entries.Entry) (net : Net World) (i : ℕ)
    → StandsAt i (stages.Open link) w net → IsAs u w es behind t (entry link.0 now Pulse Ran)
    → told_of (answer net.world (entry_of u (entry link.0 now Pulse Ran))) ≡ told_of t
quiet-told u now link t w behind es net i stands is = ap (λ (v : World). told_of (answer v (entry_of u (entry link.0 now Pulse Ran)))) stands.world ∙ ap told_of is.told

abbrev QuietOn : Setup → ℕ → LinkNumber → tolds.Told → World → List entries.Entry → Net World → ℕ → Type 0
QuietOn u now link t behind es net i = MovesTo u i (stages.Open link) es behind net (net_quiet (machine u) net i now (wish_for (is_memory t)) false (Some link.0))

-- it goes on, whatever it is told but Displaced
quiet-by : (u : Setup) (now : ℕ) (link : LinkNumber) (t : tolds.Told) (y : law.Told) (w behind : World) (es : List entries.Entry) (net : Net World) (i : ℕ)
    → told_of t ≡ y → net_quiet_by (net_tells (machine u) net (entry link.0 now Pulse Ran)) i y ≡ net_tells (machine u) net (entry link.0 now Pulse Ran)
    → BecomesEntry w (step now link ask.Pulse t) es behind → StandsAt i (stages.Open link) w net
    → MovesTo u i (stages.Open link) es behind net (net_quiet (machine u) net i now (wish_for false) false (Some link.0))
unfolding wish_for
quiet-by u now link t y w behind es net i reads on b stands =
    let is = as-ran u w now link ask.Pulse t Pulse es behind refl pulse-uncommitted b in
    let asked : Net World = net_tells (machine u) net (entry link.0 now Pulse Ran) in
    subst (λ (z : law.Told). MovesTo u i (stages.Open link) es behind net (net_quiet_by asked i z)) (sym (quiet-told u now link t w behind es net i stands is ∙ reads))
    (subst (λ (n : Net World). MovesTo u i (stages.Open link) es behind net n) (sym on) (tells u i (stages.Open link) es w behind t (entry link.0 now Pulse Ran) net stands is))

quiet-on : (u : Setup) (now : ℕ) (link : LinkNumber) (t : tolds.Told) (w behind : World) (es : List entries.Entry) (net : Net World) (i : ℕ)
    → t ≢ told.Displaced → AskedBy w (step now link ask.Pulse t) t es behind → StandsAt i (stages.Open link) w net → QuietOn u now link t behind es net i
unfolding wish_for
quiet-on u now link (told.Opened l) w behind es net i lives b stands = quiet-by u now link (told.Opened l) (law.Opened l.0) w behind es net i refl refl b stands
quiet-on u now link (told.Reply code block ends) w behind es net i lives b stands = quiet-by u now link (told.Reply code block ends) (law.Reply (answer_by code block) ends) w behind es net i refl refl b stands
quiet-on u now link (told.Live drain) w behind es net i lives b stands = quiet-by u now link (told.Live drain) law.Live w behind es net i refl refl b stands
quiet-on u now link told.Done w behind es net i lives b stands = quiet-by u now link told.Done law.Parted w behind es net i refl refl b stands
quiet-on u now link told.Displaced w behind es net i lives b stands = absurd (lives refl)
quiet-on u now link told.Memory w behind es net i lives (none, same) stands = stays u i (stages.Open link) es w behind net none same stands

quiet-displaced : (u : Setup) (now : ℕ) (link : LinkNumber) (w behind : World) (es : List entries.Entry) (net : Net World) (i : ℕ)
    → BecomesEntry w (step now link ask.Pulse told.Displaced) es behind → StandsAt i (stages.Open link) w net
    → MovesTo u i stages.Closing es behind net (net_quiet (machine u) net i now (wish_for false) false (Some link.0))
unfolding wish_for
quiet-displaced u now link w behind es net i b stands =
    let is = as-ran u w now link ask.Pulse told.Displaced Pulse es behind refl pulse-uncommitted b in
    let asked : Net World = net_tells (machine u) net (entry link.0 now Pulse Ran) in
    let first = tells u i (stages.Open link) es w behind told.Displaced (entry link.0 now Pulse Ran) net stands is in
    subst (λ (z : law.Told). MovesTo u i stages.Closing es behind net (net_quiet_by asked i z)) (sym (quiet-told u now link told.Displaced w behind es net i stands is))
    (subst (λ (l : List entries.Entry). MovesTo u i stages.Closing l behind net (net_ends asked i)) (append-nil es)
    (moves-join u i stages.Closing (stages.Open link) es [] behind behind net asked (net_ends asked i) first (ends u i behind asked first.stands.world)))

quiet-at : (u : Setup) (i now : ℕ) (wish : Wish) (stage : Stage) (net : Net World) (es : List entries.Entry) (behind : World) (b : Bool) (n : Option ℕ)
    → (net.links i).end.ended ≡ b → (net.links i).end.number ≡ n → MovesTo u i stage es behind net (net_quiet (machine u) net i now wish b n)
    → MovesTo u i stage es behind net (net_step (machine u) net (Quiet i now wish))
quiet-at u i now wish stage net es behind b n p q moves =
    subst (λ (c : Bool). MovesTo u i stage es behind net (net_quiet (machine u) net i now wish c (net.links i).end.number)) (sym p)
    (subst (λ (m : Option ℕ). MovesTo u i stage es behind net (net_quiet (machine u) net i now wish b m)) (sym q) moves)

pub quiet-goes : (u : Setup) (now : ℕ) (link : LinkNumber) (t : tolds.Told) (w behind : World) (es : List entries.Entry) (net : Net World) (i : ℕ)
    → t ≢ told.Displaced → AskedAt w (step now link ask.Pulse t) es behind → StandsAt i (stages.Open link) w net
    → MovesTo u i (stages.Open link) es behind net (net_step (machine u) net (Quiet i now (wish_for (is_memory t))))
quiet-goes u now link t w behind es net i lives b stands =
    quiet-at u i now (wish_for (is_memory t)) (stages.Open link) net es behind false (Some link.0) stands.end.1 stands.end.0 (quiet-on u now link t w behind es net i lives b stands)

-- a drain that is over: a Bye behind the Pulse
drains : (u : Setup) (now drain : ℕ) (link : LinkNumber) (t : tolds.Told) (w mid behind : World) (es fs : List entries.Entry) (net : Net World) (i : ℕ)
    → BecomesEntry w (step now link ask.Pulse (told.Live (Some drain))) es mid → AskedAt mid (step now link ask.Bye t) fs behind → StandsAt i (stages.Open link) w net
    → MovesTo u i stages.Closing (es ++ fs) behind net (net_step (machine u) (net_step (machine u) net (Quiet i now (wish_for false))) (Drains i now (wish_for (is_memory t))))
drains u now drain link t w mid behind es fs net i b c stands =
    let first = quiet-goes u now link (told.Live (Some drain)) w mid es net i (λ e. cc) b stands in
    let quiet : Net World = net_step (machine u) net (Quiet i now (wish_for false)) in
    moves-join u i stages.Closing (stages.Open link) es fs mid behind net quiet (net_step (machine u) quiet (Drains i now (wish_for (is_memory t)))) first
    (parts-at u i now (wish_for (is_memory t)) Bye quiet fs behind false (Some link.0) first.stands.end.1 first.stands.end.0 (parts-by u now link ask.Bye Bye t mid behind fs quiet i refl bye-uncommitted c first.stands))

-- what a quiet comes to, at what it is
abbrev Comes : Setup → ℕ → World → World → List entries.Entry → Net World → ℕ → Option Cause → Idled → Type 0
Comes u now w behind es net i cause idled =
    AskedAlone w idled.steps es behind → (wish : Wish) × (parting : Wish) × MovesTo u i idled.stage es behind net (at_quiet u net i now wish parting cause)

open-stands : (i : ℕ) (stage : Stage) (link : LinkNumber) (w : World) (net : Net World) → stage ≡ stages.Open link → StandsAt i stage w net → StandsAt i (stages.Open link) w net
open-stands i stage link w net is stands = subst (λ (s : Stage). StandsAt i s w net) is stands

pub links-quiet : LinksAreQuiet
links-quiet u last now stages.Fresh a idled None w behind es net i (soon, is) asked stands =
    subst (Comes u now w behind es net i None) (sym is)
    (λ none. (wish_for false, wish_for false, quiet-at u i now (wish_for false) stages.Fresh net es behind false None stands.end.1 stands.end.0 (stays u i stages.Fresh es w behind net none.0 none.1 stands))) asked
links-quiet u last now (stages.Open link) a idled None w behind es net i (soon, x) asked stands =
    subst (Comes u now w behind es net i None) (sym x.is)
    (λ one. (wish_for (is_memory x.answer), wish_for false, quiet-goes u now link x.answer w behind es net i x.lives (one-alone w (step now link ask.Pulse x.answer) es behind one) stands)) asked
links-quiet u last now stages.Closing a idled None w behind es net i (soon, is) asked stands = absurd is
links-quiet u last now stage a idled (Some silent) w behind es net i (late, is) asked stands =
    subst (Comes u now w behind es net i (Some silent)) (sym is) (λ none. (wish_for false, wish_for false, stays u i stage es w behind net none.0 none.1 stands)) asked
links-quiet u last now stage a idled (Some displaced) w behind es net i (soon, x) asked stands =
    let open-there = open-stands i stage x.link w net x.in_session stands in
    subst (Comes u now w behind es net i (Some displaced)) (sym x.is)
    (λ one. (
      wish_for false,
      wish_for false,
      quiet-at u i now (wish_for false) stages.Closing net es behind false (Some x.link.0) open-there.end.1 open-there.end.0
          (quiet-displaced u now x.link w behind es net i (one-alone w (step now x.link ask.Pulse told.Displaced) es behind one) open-there),
    )) asked
links-quiet u last now stage a idled (Some unwritten) w behind es net i (soon, x) asked stands =
    let open-there = open-stands i stage x.link w net x.in_session stands in
    subst (Comes u now w behind es net i (Some unwritten)) (sym x.is)
    (λ one. (wish_for (is_memory x.answer), wish_for false, quiet-goes u now x.link x.answer w behind es net i x.lives (one-alone w (step now x.link ask.Pulse x.answer) es behind one) open-there)) asked
links-quiet u last now stage a idled (Some drained) w behind es net i (soon, x) asked stands =
    let open-there = open-stands i stage x.link w net x.in_session stands in
    subst (Comes u now w behind es net i (Some drained)) (sym x.is)
    (λ both. (
      wish_for false,
      wish_for (is_memory x.answer),
      subst (λ (l : List entries.Entry). MovesTo u i stages.Closing l behind net (net_step (machine u) (net_step (machine u) net (Quiet i now (wish_for false))) (Drains i now (wish_for (is_memory x.answer))))) (sym both.5)
          (drains u now x.drain x.link x.answer w both.2 behind both.0 both.1 net i both.3 (one-alone both.2 (step now x.link ask.Bye x.answer) both.1 behind both.4) open-there),
    )) asked
links-quiet u last now stage a idled (Some closed) w behind es net i x asked stands = absurd x
links-quiet u last now stage a idled (Some (bad reason)) w behind es net i x asked stands = absurd x
