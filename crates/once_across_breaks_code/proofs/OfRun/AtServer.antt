-- What is done at a server end, and what others ask.
use Rattle.std.proofs.Common.{◌≡◌, ◌≢◌, ◌∙◌, inl, inr, refl, sym, ap, subst, ℕ, suc, ◌≤◌, ◌<◌, Bool, true, false, List, [], ◌∷◌, ◌++◌, Option, Some, None, arith}
use Rattle.std.specs.Prelude.{◌||◌, length, not}
use Rattle.std.specs.List.{list_all}
use Rattle.std.proofs.lemmas.Bool.{or_cases}
use Rattle.afp_base.specs.declared.ids.LinkNumber.{LinkNumber}
use Rattle.afp_serial.proofs.Grows.{stand-append, went-one}
use Rattle.afp_serial.specs.Answer.{link_number}
use Rattle.afp_serial.specs.History.{is_lawful, stand}
use Rattle.afp_serial.specs.Shown.{IsSoundShown, Shown}
use Rattle.afp_serial.specs.Went.{Step, Went, step}
use Rattle.afp_serial.specs.Token.{session_token}
use Rattle.afp_serial.specs.World.{World}
use Rattle.afp_serial.specs.declared.ask.Ask as serial
use Rattle.afp_serial.specs.declared.ask.Ask.TheVariants as ask
use Rattle.afp_serial.specs.declared.ask.Entry as entries
use Rattle.afp_serial.specs.declared.ask.Told as tolds
use Rattle.afp_serial.specs.declared.ask.Told.TheVariants as told
use Rattle.afp_server.specs.link.Requests.{Requests, no_requests}
use Rattle.afp_server.specs.link.Trace.{Idled, displaced, pulsed, unwritten}
use Rattle.afp_server.specs.declared.link.stage.FrameEnd.{FrameEnd}
use Rattle.afp_server.specs.declared.link.stage.Stage.{Stage}
use Rattle.afp_server.specs.declared.link.stage.Stage.TheVariants as stages
use Rattle.dsi_frame.specs.Frame.{Frame}
use Rattle.once_across_breaks.specs.once.Frames.{Carrier, End, Net, net_run}
use Rattle.once_across_breaks.specs.once.Messages.{Answer, wire_id}
use Rattle.once_across_breaks.specs.once.Run.{Gone, Request}
use Rattle.once_across_breaks.specs.once.Serial.{Setup, machine}
use Rattle.once_across_breaks.specs.once.UnderWay.{EventsKeepFitting}
use Rattle.once_across_breaks_code.specs.server.Among.{AllCarried, Course, Passes, PartingsArrive, QuietsArrive, ScriptsArrive, is_sweep, or_sweep}
use Rattle.once_across_breaks_code.specs.server.Asked.{AskedAmong, OthersPassSince, TellersAreAskedInOrder, others_in, world_of}
use Rattle.once_across_breaks_code.specs.server.Ties.{IsEnd}
use Rattle.once_across_breaks_code.proofs.OfServer.AskedLemmas.{lawful-parts}
use Rattle.once_across_breaks_code.specs.run.Doings.{ClientStays, IsCarriedOn, IsLost, IsQuiet, OnlyAt, OthersAsk, is_displaced}
use Rattle.once_across_breaks_code.specs.run.Mirrors.{AreComing, AreUnderWay, GoesOn, IsLane}
use Rattle.once_across_breaks_code.specs.run.Things.{Lane, Things}
use Rattle.once_across_breaks_code.specs.run.Doings.{Loses, Others, Quiets}
use Rattle.once_across_breaks_code.specs.run.Premises.{Keeps, Notes, keeps_out}
use Rattle.once_across_breaks_code.proofs.OfRun.Allowed.{AreFirst, KeepsOut, TokenLaws, kept-number}
use Rattle.once_across_breaks_code.proofs.OfRun.Courses.{Kept, NotesBehind, Stays, course-keeps, quiet-down}

-- the laws that are cited
pub record ServerLaws : Type 0 where
  pub tokens : TokenLaws
  pub keeps : EventsKeepFitting
  pub in_order : TellersAreAskedInOrder
  pub scripts : ScriptsArrive
  pub quiets : QuietsArrive
  pub partings : PartingsArrive

-- what an ask of the teller adds
pub stays-by : (i : ℕ) (steps : List Step) (old new : Things) → ClientStays old new → OnlyAt i old new → IsSoundShown new.shown → (went : Went old.shown steps new.shown) → Stays i went.between old new
stays-by i steps old new client only sound went = record { client = client; top = only.top; others = only.others; start = went.start; history = went.history; shown = sound }

-- ---- what others ask keeps out, where the run keeps the premises

abbrev pub asks_out : Bool → List ℕ → List ℕ → entries.Entry → Bool
asks_out b numbers token e = not b || keeps_out numbers token e

all-out : (numbers token : List ℕ) (es : List entries.Entry) → list_all (asks_out false numbers token) es ≡ true
all-out numbers token [] = refl
all-out numbers token (e ∷ es) = all-out numbers token es

pub pass-since : (b : Bool) (numbers token : List ℕ) (old new : Shown) → (b ≡ true → OthersPassSince (keeps_out numbers token) old new) → OthersPassSince (asks_out b numbers token) old new
pass-since true numbers token old new out = out refl
pass-since false numbers token old new out = λ more places history mine. all-out numbers token (others_in (length old.history) places more)

pass-all : (b : Bool) (numbers token : List ℕ) (es : List entries.Entry) → (b ≡ true → list_all (keeps_out numbers token) es ≡ true) → list_all (asks_out b numbers token) es ≡ true
pass-all true numbers token es out = out refl
pass-all false numbers token es out = all-out numbers token es

out-by : (b : Bool) (numbers token : List ℕ) → b ≡ true → (e : entries.Entry) → asks_out b numbers token e ≡ true → KeepsOut numbers token e
out-by true numbers token so e is = inl is
out-by false numbers token so e is = absurd (cc)

pub swept-by : (b : Bool) (numbers token : List ℕ) → b ≡ true → (e : entries.Entry) → or_sweep (asks_out b numbers token) e ≡ true → KeepsOut numbers token e
swept-by b numbers token so e is = elim (or_cases (asks_out b numbers token e) (is_sweep e) is) [
  | inl out ↦ out-by b numbers token so e out
  | inr sweep ↦ inr sweep
]

-- what is noted where the link keeps its number, and as many requests are under way
rests-behind : (u : Setup) (w : World) (n : ℕ) (b : Bool) (x : Notes) (q : entries.Entry → Bool) (t : Things) (net : Net World) (i : ℕ) (stage : Stage) (end : Option FrameEnd) (replies : List Frame) (es : List entries.Entry) (behind : World)
    → Kept u w n b x t net
    → (c : Course u q i net false stage end (net.links i).up replies es behind)
    → (b ≡ true → (e : entries.Entry) → q e ≡ true → KeepsOut x.numbers (session_token u.key n) e)
    → (b ≡ true → x.row < 1900)
    → NotesBehind u n b x x q i net c.events
rests-behind u w n b x q t net i stage end replies es behind k c out less = record {
  row = refl;
  again = refl;
  more = λ l is. is;
  drawn = λ l is. k.numbers i l (kept-number u q i net c.events l c.here c.passes.up is);
  first = λ none firsts. subst AreFirst (sym c.passes.up) firsts;
  out = out;
  remembers = λ so. inl c.wants;
  less = less;
}

-- ---- others ask

-- how far a link has come whose end stands there
stage-by : (number : Option ℕ) (b : Bool) (e : End) → e.number ≡ number → e.ended ≡ b → (s : Stage) × IsEnd s e
stage-by number true e same ended = (stages.Closing, ended)
stage-by None false e same ended = (stages.Fresh, (same, ended))
stage-by (Some link) false e same ended = (stages.Open (link_number link), (same, ended))

stage-at : (e : End) → (s : Stage) × IsEnd s e
stage-at e = stage-by e.number e.ended e refl refl

-- where no step is, none is told want of memory
unasked : (m : Bool) → (m ≡ true → false ≡ true) → m ≡ false
unasked true unset = let e = unset refl in absurd (cc)
unasked false unset = refl

lawful-more : (a b : Shown) (es : List entries.Entry) → b.start ≡ a.start → b.history ≡ a.history ++ es → is_lawful b.start b.history ≡ true → (is_lawful (world_of a) es ≡ true) × (world_of b ≡ stand (world_of a) es)
lawful-more a b es start history lawful =
    let whole : is_lawful a.start (a.history ++ es) ≡ true = subst (λ (w : World). is_lawful w (a.history ++ es) ≡ true) start (subst (λ (h : List entries.Entry). is_lawful b.start h ≡ true) history lawful) in
    ((lawful-parts a.start a.history es whole).1, (λ i. stand (start i) (history i)) ∙ stand-append a.start a.history es)

pub others-keep : ServerLaws → (u : Setup) (w : World) (n : ℕ) (b : Bool) (notes : Notes) (now : ℕ) (link : LinkNumber) (asks : serial.Ask) (t s : Things) (net : Net World) → OthersAsk now link asks t s → IsCarriedOn t.shown s.shown → (b ≡ true → Keeps u.key n notes (Others now link asks) t s) → Kept u w n b notes t net → (after : Net World) × Kept u w n b notes s after
others-keep laws u w n b notes now link asks t s net x on keep k =
    let i : ℕ = suc t.top in
    let went : Went t.shown (step now link asks x.told ∷ []) s.shown = went-one t.shown s.shown now link asks x.told x.asked in
    let more = lawful-more t.shown s.shown went.between went.start went.history on.sound.lawful in
    let there = stage-at (net.links i).end in
    let m = k.mirrors in
    let lawful : is_lawful net.world went.between ≡ true = subst (λ (v : World). is_lawful v went.between ≡ true) (sym m.world) more.0 in
    let left : world_of s.shown ≡ stand net.world went.between = more.1 ∙ ap (λ (v : World). stand v went.between) (sym m.world) in
    let token : List ℕ = session_token u.key n in
    let p : entries.Entry → Bool = asks_out b notes.numbers token in
    let pass : list_all p went.between ≡ true = pass-all b notes.numbers token went.between (λ so. (keep so).others went.between went.history) in
    let c = laws.scripts u p [] there.0 there.0 [] [] [] None [] (net.links i).up went.between (world_of s.shown) net i (k.fits.sound.sound) (refl, refl, refl, refl) tt ((lawful, pass), left) (on.carried went.between went.history) there.1 refl in
    let got : Course u (or_sweep p) i net false there.0 None (net.links i).up [] went.between (world_of s.shown) = subst (λ (m : Bool). Course u (or_sweep p) i net m there.0 None (net.links i).up [] went.between (world_of s.shown)) (unasked c.0 c.1) c.2 in (
      net_run (machine u) net got.events,
      course-keeps laws.tokens laws.keeps u w n b notes notes (or_sweep p) t s net i false there.0 None (net.links i).up [] went.between k got
          (rests-behind u w n b notes (or_sweep p) t net i there.0 None [] went.between (world_of s.shown) k got (swept-by b notes.numbers token) (λ so. (keep so).row))
          (record { client = x.stays; top = x.top; others = λ j off. x.lanes j; start = went.start; history = went.history; shown = on.sound })
          (λ within. absurd (omega (arith, within)))
          (λ same. absurd (omega (arith, same)))
          (λ same. absurd (omega (arith, same))),
    )

-- ---- a quiet

asked-among : ServerLaws → (p : entries.Entry → Bool) (t s : Things) (net : Net World) (steps : List Step) → net.world ≡ world_of t.shown → IsSoundShown s.shown → OthersPassSince p t.shown s.shown → (went : Went t.shown steps s.shown)
    → AskedAmong p net.world steps went.between (world_of s.shown)
asked-among laws p t s net steps world sound others went = subst (λ (v : World). AskedAmong p v steps went.between (world_of s.shown)) (sym world) (laws.in_order p t.shown s.shown steps sound.lawful others went)

pulse-goes : ServerLaws → (u : Setup) (p : entries.Entry → Bool) (i now : ℕ) (link : LinkNumber) (answer : tolds.Told) (net : Net World) (es : List entries.Entry) (behind : World)
    → answer ≢ told.Displaced → AskedAmong p net.world (step now link ask.Pulse answer ∷ []) es behind → AllCarried es → IsEnd (stages.Open link) (net.links i).end
    → Course u p i net false (stages.Open link) None (net.links i).up [] es behind
pulse-goes laws u p i now link answer net es behind lives asked carried there =
    let a : Requests = no_requests now in
    laws.quiets u p now now (stages.Open link) a (pulsed now link a answer) (Some unwritten) es behind net i
    (omega arith, record { link = link; in_session = refl; answer = answer; lives = lives; is = refl }) asked carried there

pulse-ends : ServerLaws → (u : Setup) (p : entries.Entry → Bool) (i now : ℕ) (link : LinkNumber) (net : Net World) (es : List entries.Entry) (behind : World)
    → AskedAmong p net.world (step now link ask.Pulse told.Displaced ∷ []) es behind → AllCarried es → IsEnd (stages.Open link) (net.links i).end
    → Course u p i net false stages.Closing None (net.links i).up [] es behind
pulse-ends laws u p i now link net es behind asked carried there =
    let a : Requests = no_requests now in
    let idled : Idled = record { steps = step now link ask.Pulse told.Displaced ∷ []; request = None; stage = stages.Closing; requests = a } in
    laws.quiets u p now now (stages.Open link) a idled (Some displaced) es behind net i (omega arith, record { link = link; in_session = refl; is = refl }) asked carried there

-- an end that goes on as it was
abbrev pub same-lane : Lane → Bool → Lane
same-lane l b = record { wire = l.wire; ended = b; up = l.up; down = l.down }

still-on : (u : Setup) (l : Lane) (b : Bool) (old new : Carrier) → GoesOn u l old → IsEnd l.wire.stage new.end → new.up ≡ old.up → GoesOn u (same-lane l b) new
still-on u l b old new g there up = record { end = there; bytes = g.bytes; past = g.past; given = g.given; last = g.last; under_way = subst (λ (rs : List Request). AreUnderWay u g.last (l.wire.held.rest ++ l.up) rs) (sym up) g.under_way }

-- what is under way to the client stays
pub coming-on : (u : Setup) (w : World) (n : ℕ) (b : Bool) (notes : Notes) (t s : Things) (net : Net World) (i : ℕ) (stage : Stage) (end : Option FrameEnd) (left : List Request) (es : List entries.Entry) {after : Net World} → Kept u w n b notes t net
    → Passes u i stage end left [] es (world_of s.shown) net after → i ≡ t.top → (s.lanes i).down ≡ (t.lanes i).down → net.client.stage ≢ Gone
    → AreComing u net.client.opening_id (t.client.held.rest ++ (s.lanes i).down) (after.links i).down
coming-on u w n b notes t s net i stage end left es {after} k p same down live =
    subst (λ (d : List ℕ). AreComing u net.client.opening_id (t.client.held.rest ++ d) (after.links i).down) (sym down)
    (subst (λ (x : List (Request × Answer)). AreComing u net.client.opening_id (t.client.held.rest ++ (t.lanes i).down) x) (sym (quiet-down u i stage end left [] es (world_of s.shown) net after p refl))
    (subst (λ (j : ℕ). AreComing u net.client.opening_id (t.client.held.rest ++ (t.lanes j).down) (net.links j).down) (sym same) (k.mirrors.coming live)))

-- behind a course without replies, at an end that goes on
goes-keep : ServerLaws → (u : Setup) (w : World) (n : ℕ) (b : Bool) (notes : Notes) (p : entries.Entry → Bool) (t s : Things) (net : Net World) (i : ℕ) (es : List entries.Entry) → i ≤ t.top → (t.lanes i).ended ≡ false → s.lanes i ≡ same-lane (t.lanes i) false
    → Kept u w n b notes t net → Course u p i net false (t.lanes i).wire.stage None (net.links i).up [] es (world_of s.shown)
    → (b ≡ true → (e : entries.Entry) → p e ≡ true → KeepsOut notes.numbers (session_token u.key n) e) → (b ≡ true → notes.row < 1900) → Stays i es t s → (after : Net World) × Kept u w n b notes s after
goes-keep laws u w n b notes p t s net i es within live lane k c out less stays =
    let after : Net World = net_run (machine u) net c.events in
    let m = k.mirrors in (
      after,
      course-keeps laws.tokens laws.keeps u w n b notes notes p t s net i false (t.lanes i).wire.stage None (net.links i).up [] es k c (rests-behind u w n b notes p t net i (t.lanes i).wire.stage None [] es (world_of s.shown) k c out less) stays
          (λ l. subst (λ (x : Lane). IsLane u x (after.links i)) (sym lane)
          (record { live = λ e. still-on u (t.lanes i) false (net.links i) (after.links i) ((m.each i within).live live) c.passes.comes c.passes.up; ended = λ e. absurd (cc) }))
          (λ same e. subst (λ (x : Lane). AreUnderWay u (wire_id net.client.opening_id) (x.wire.held.rest ++ x.up) (after.links i).up) (sym lane)
          (subst (λ (rs : List Request). AreUnderWay u (wire_id net.client.opening_id) ((t.lanes i).wire.held.rest ++ (t.lanes i).up) rs) (sym c.passes.up)
          (subst (λ (j : ℕ). (t.lanes j).ended ≡ false → AreUnderWay u (wire_id net.client.opening_id) ((t.lanes j).wire.held.rest ++ (t.lanes j).up) (net.links j).up) (sym same) m.going live)))
          (λ same l. coming-on u w n b notes t s net i (t.lanes i).wire.stage None (net.links i).up es k c.passes same (ap (λ (x : Lane). x.down) lane) l),
    )

-- and at one that has ended
ends-keep : ServerLaws → (u : Setup) (w : World) (n : ℕ) (b : Bool) (notes : Notes) (p : entries.Entry → Bool) (t s : Things) (net : Net World) (i : ℕ) (es : List entries.Entry) → (s.lanes i).ended ≡ true → (s.lanes i).down ≡ (t.lanes i).down
    → Kept u w n b notes t net → Course u p i net false stages.Closing None (net.links i).up [] es (world_of s.shown)
    → (b ≡ true → (e : entries.Entry) → p e ≡ true → KeepsOut notes.numbers (session_token u.key n) e) → (b ≡ true → notes.row < 1900) → Stays i es t s → (after : Net World) × Kept u w n b notes s after
ends-keep laws u w n b notes p t s net i es dead down k c out less stays =
    let after : Net World = net_run (machine u) net c.events in (
      after,
      course-keeps laws.tokens laws.keeps u w n b notes notes p t s net i false stages.Closing None (net.links i).up [] es k c (rests-behind u w n b notes p t net i stages.Closing None [] es (world_of s.shown) k c out less) stays
          (λ l. record { live = λ e. absurd (let f : true ≡ false = sym dead ∙ e in cc); ended = λ e. c.passes.comes })
          (λ same e. absurd (let f : true ≡ false = sym dead ∙ e in cc))
          (λ same l. coming-on u w n b notes t s net i stages.Closing None (net.links i).up es k c.passes same down l),
    )

pulse-keeps : ServerLaws → (u : Setup) (w : World) (n : ℕ) (b : Bool) (notes : Notes) (p : entries.Entry → Bool) (t s : Things) (net : Net World) (i now : ℕ) (link : LinkNumber) (answer : tolds.Told) (es : List entries.Entry) → answer ≢ told.Displaced
    → i ≤ t.top → (t.lanes i).ended ≡ false → (t.lanes i).wire.stage ≡ stages.Open link
    → AskedAmong p net.world (step now link ask.Pulse answer ∷ []) es (world_of s.shown) → AllCarried es → s.lanes i ≡ same-lane (t.lanes i) false
    → Kept u w n b notes t net → (b ≡ true → (e : entries.Entry) → p e ≡ true → KeepsOut notes.numbers (session_token u.key n) e) → (b ≡ true → notes.row < 1900) → Stays i es t s → (after : Net World) × Kept u w n b notes s after
pulse-keeps laws u w n b notes p t s net i now link answer es lives within live stage asked carried lane k out less stays =
    let there : IsEnd (stages.Open link) (net.links i).end = subst (λ (x : Stage). IsEnd x (net.links i).end) stage ((k.mirrors.each i within).live live).end in
    goes-keep laws u w n b notes p t s net i es within live lane k
    (subst (λ (x : Stage). Course u p i net false x None (net.links i).up [] es (world_of s.shown)) (sym stage) (pulse-goes laws u p i now link answer net es (world_of s.shown) lives asked carried there)) out less stays

quiet-by : ServerLaws → (u : Setup) (w : World) (n : ℕ) (b : Bool) (notes : Notes) (p : entries.Entry → Bool) (t s : Things) (net : Net World) (i now : ℕ) (link : LinkNumber) (answer : tolds.Told) (es : List entries.Entry)
    → i ≤ t.top → (t.lanes i).ended ≡ false → (t.lanes i).wire.stage ≡ stages.Open link
    → AskedAmong p net.world (step now link ask.Pulse answer ∷ []) es (world_of s.shown) → AllCarried es
    → s.lanes i ≡ record { wire = (t.lanes i).wire; ended = is_displaced answer; up = (t.lanes i).up; down = (t.lanes i).down }
    → Kept u w n b notes t net → (b ≡ true → (e : entries.Entry) → p e ≡ true → KeepsOut notes.numbers (session_token u.key n) e) → (b ≡ true → notes.row < 1900) → Stays i es t s → (after : Net World) × Kept u w n b notes s after
quiet-by laws u w n b notes p t s net i now link told.Displaced es within live stage asked carried lane k out less stays =
    let there : IsEnd (stages.Open link) (net.links i).end = subst (λ (x : Stage). IsEnd x (net.links i).end) stage ((k.mirrors.each i within).live live).end in
    ends-keep laws u w n b notes p t s net i es (ap (λ (x : Lane). x.ended) lane) (ap (λ (x : Lane). x.down) lane) k (pulse-ends laws u p i now link net es (world_of s.shown) asked carried there) out less stays
quiet-by laws u w n b notes p t s net i now link (told.Live drain) es within live stage asked carried lane k out less stays = pulse-keeps laws u w n b notes p t s net i now link (told.Live drain) es (λ e. cc) within live stage asked carried lane k out less stays
quiet-by laws u w n b notes p t s net i now link (told.Opened l) es within live stage asked carried lane k out less stays = pulse-keeps laws u w n b notes p t s net i now link (told.Opened l) es (λ e. cc) within live stage asked carried lane k out less stays
quiet-by laws u w n b notes p t s net i now link (told.Reply c block ends) es within live stage asked carried lane k out less stays = pulse-keeps laws u w n b notes p t s net i now link (told.Reply c block ends) es (λ e. cc) within live stage asked carried lane k out less stays
quiet-by laws u w n b notes p t s net i now link told.Done es within live stage asked carried lane k out less stays = pulse-keeps laws u w n b notes p t s net i now link told.Done es (λ e. cc) within live stage asked carried lane k out less stays
quiet-by laws u w n b notes p t s net i now link told.Memory es within live stage asked carried lane k out less stays = pulse-keeps laws u w n b notes p t s net i now link told.Memory es (λ e. cc) within live stage asked carried lane k out less stays

pub quiet-keeps : ServerLaws → (u : Setup) (w : World) (n : ℕ) (b : Bool) (notes : Notes) (i now : ℕ) (t s : Things) (net : Net World) → IsQuiet i now t s → IsCarriedOn t.shown s.shown → (b ≡ true → Keeps u.key n notes (Quiets i now) t s) → Kept u w n b notes t net → (after : Net World) × Kept u w n b notes s after
quiet-keeps laws u w n b notes i now t s net x on keep k =
    let token : List ℕ = session_token u.key n in
    let p : entries.Entry → Bool = asks_out b notes.numbers token in
    let others : OthersPassSince p t.shown s.shown = pass-since b notes.numbers token t.shown s.shown (λ so. (keep so).others) in
    let steps : List Step = step now x.link ask.Pulse x.told ∷ [] in
    let went : Went t.shown steps s.shown = went-one t.shown s.shown now x.link ask.Pulse x.told x.asked in
    quiet-by laws u w n b notes p t s net i now x.link x.told went.between x.within x.live x.in_session (asked-among laws p t s net steps k.mirrors.world on.sound others went) (on.carried went.between went.history) x.lane k (out-by b notes.numbers token) (λ so. (keep so).row)
    (stays-by i steps t s x.stays x.only on.sound went)

-- ---- a link is lost

pub lost-keeps : ServerLaws → (u : Setup) (w : World) (n : ℕ) (b : Bool) (notes : Notes) (i now : ℕ) (t s : Things) (net : Net World) → IsLost i now t s → IsCarriedOn t.shown s.shown → (b ≡ true → Keeps u.key n notes (Loses i now) t s) → Kept u w n b notes t net → (after : Net World) × Kept u w n b notes s after
lost-keeps laws u w n b notes i now t s net x on keep k =
    let token : List ℕ = session_token u.key n in
    let p : entries.Entry → Bool = asks_out b notes.numbers token in
    let others : OthersPassSince p t.shown s.shown = pass-since b notes.numbers token t.shown s.shown (λ so. (keep so).others) in
    let parted = x.parts in
    let there = ((k.mirrors.each i x.link).live x.live).end in
    ends-keep laws u w n b notes p t s net i parted.went.between x.ended x.down k
    (laws.partings u p now (t.lanes i).wire.stage parted.steps parted.went.between (world_of s.shown) net i parted.parts (asked-among laws p t s net parted.steps k.mirrors.world on.sound others parted.went) (on.carried parted.went.between parted.went.history) there) (out-by b notes.numbers token) (λ so. (keep so).row)
    (stays-by i parted.steps t s x.stays x.only on.sound parted.went)
