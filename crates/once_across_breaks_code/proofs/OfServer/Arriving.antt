-- Frames, quiets and the end of a link among the entries of others.
use Rattle.std.proofs.Common.{◌≡◌, ◌∙◌, inl, inr, refl, sym, ap, subst, ℕ, Bool, true, false, List, [], ◌∷◌, ◌++◌, Option, Some, None, append-nil, append_assoc}
use Rattle.std.specs.Prelude.{◌||◌, length, map, take}
use Rattle.std.specs.List.{list_all}
use Rattle.afp_base.specs.declared.ids.LinkNumber.{LinkNumber}
use Rattle.std.proofs.lemmas.Bool.{and_from, and_parts}
use Rattle.afp_serial.proofs.Grows.{stand-append, take-all}
use Rattle.afp_serial.specs.declared.ask.Ask.TheVariants as ask
use Rattle.afp_serial.specs.declared.ask.Entry as entries
use Rattle.afp_serial.specs.declared.ask.Told as tolds
use Rattle.afp_serial.specs.declared.ask.Told.TheVariants as told
use Rattle.afp_serial.specs.Answer.{after, is_legal}
use Rattle.afp_serial.specs.History.{entry, is_lawful, stand}
use Rattle.afp_serial.specs.Laws.{KeepsSound}
use Rattle.afp_serial.specs.Shown.{IsSoundShown, Shown}
use Rattle.afp_serial.specs.Sound.{IsSound}
use Rattle.afp_serial.specs.Went.{Step, step}
use Rattle.afp_serial.specs.World.{World}
use Rattle.afp_server.specs.link.Did.{Did}
use Rattle.afp_server.specs.link.LinkRun.{Parts}
use Rattle.afp_server.specs.link.OpenSession.{OpensByOptions, OpensSession, no_link}
use Rattle.afp_server.specs.link.Requests.{Requests}
use Rattle.afp_server.specs.link.Script.{Does, FrameDoes, FreshDoes, Script}
use Rattle.afp_server.specs.link.Trace.{Cause, Idled, Idles, bad, closed, displaced, drained, silent, unwritten}
use Rattle.afp_server.specs.declared.link.stage.FrameEnd.{FrameEnd}
use Rattle.afp_server.specs.declared.link.stage.Stage.{Stage}
use Rattle.afp_server.specs.declared.link.stage.Stage.TheVariants as stages
use Rattle.dsi_frame.specs.Frame.{Frame}
use Rattle.dsi_frame.specs.Replies.{listed}
use Rattle.dsi_frame.specs.declared.frame.DsiCommand.{DsiCommand}
use Rattle.dsi_session.specs.Options.{attention_of}
use Rattle.once_across_breaks.specs.once.Bytes.{seen_request}
use Rattle.once_across_breaks.specs.once.Frames.{Carrier, End, Handled, HeardCall, HeardOpen, Net, handles, heard, net_arrives, net_handled, net_run, net_step, net_to_server, replies_of}
use Rattle.once_across_breaks.specs.once.Messages.{Answer, wire_id}
use Rattle.once_across_breaks.specs.once.Run.{Asks, Drains, Loses, Opens, Quiet, Request, ToServer, Wish}
use Rattle.once_across_breaks.specs.once.Serial.{Setup, ask_of, machine, written}
use Rattle.once_across_breaks.specs.once.Server as law
use Rattle.once_across_breaks.specs.once.Server.{set}
use Rattle.once_across_breaks.proofs.OfOnce.Events.{set-at, set-off}
use Rattle.once_across_breaks_code.specs.server.Among.{AllCarried, Course, FramesArrive, PartingsArrive, Passes, PiecesArrive, QuietsArrive, ScriptsArrive, any_unasked, heard_reply, is_sweep, or_sweep, request_only, unnumbered}
use Rattle.once_across_breaks_code.specs.server.Asked.{AskedAmong, AskedAt, AskedBy, BecomesEntry, IsEntry, world_of}
use Rattle.once_across_breaks_code.specs.server.Handling.{IsHandled, is_memory, last_unasked, wish_by}
use Rattle.once_across_breaks_code.specs.server.Parting.{MovesTo, at_quiet}
use Rattle.once_across_breaks_code.specs.server.Ties.{AllCarry, Carries, IsEnd, IsEndBehind, OpensLink, answered}
use Rattle.once_across_breaks_code.proofs.OfServer.AskedLemmas.{all-append, all-of, in-order, lawful-append}
use Rattle.once_across_breaks_code.proofs.OfServer.Courses.{Around, around-course, around-none, around-one, carried-parts, course-join, course-one, course-then, others-course}
use Rattle.once_across_breaks_code.proofs.OfServer.Entries.{bye-uncommitted, one-alone}
use Rattle.once_across_breaks_code.proofs.OfServer.HandledFrames.{Laws, asks-framed, carried-id, frame-handled, open_wish, opened-handled, others-dropped}
use Rattle.once_across_breaks_code.proofs.OfServer.Partings.{links-part, links-quiet, parts-at, parts-by, quiet-goes, wish_for}
use Rattle.once_across_breaks_code.proofs.OfServer.ServedFrames.{Behind, no-more, step-sound}

-- ---- one frame

told-is : (x : ℕ × Request) (o : Option Answer) → map unnumbered (answered (seen_request x) o) ≡ map heard_reply (replies_of x.1 o)
told-is x None = refl
told-is x (Some a) = refl

arrived : (u : Setup) (i now : ℕ) (wish : Wish) (x : ℕ × Request) (left : List Request) (did : Did) (es : List entries.Entry) (behind : World) (net : Net World) (h : Handled World)
    → IsHandled u (seen_request x) did es behind h → Passes u i did.stage did.end left (listed did.reply) es behind net (net_handled net i x.1 left h)
arrived u i now wish x left did es behind net h handled =
    let c : Carrier = record { end = h.end; up = left; down = (net.links i).down ++ replies_of x.1 h.reply } in
    let here : set net.links i c i ≡ c = set-at net.links i c i refl in
    record {
      world = handled.world;
      comes = subst (λ (y : Carrier). IsEndBehind did.stage did.end y.end) (sym here) handled.comes;
      more = h.entries;
      history = refl;
      asked = handled.asked;
      client = refl;
      top = refl;
      elsewhere = λ j off. set-off net.links i c j off;
      up = ap (λ (y : Carrier). y.up) here;
      told = replies_of x.1 h.reply;
      down = ap (λ (y : Carrier). y.down) here;
      read = answered (seen_request x) h.reply;
      same = told-is x h.reply;
      says = handled.says;
    }

arrives : (u : Setup) (q : entries.Entry → Bool) (i now : ℕ) (wish : Wish) (x : ℕ × Request) (left : List Request) (did : Did) (es : List entries.Entry) (behind : World) (net : Net World)
    → (net.links i).end.ended ≡ false → (net.links i).up ≡ x.1 ∷ left
    → IsHandled u (seen_request x) did es behind (handles (machine u) net.world now wish (net.links i).end (net.links i).end.number (heard x.1))
    → Course u q i net wish.memory did.stage did.end left (listed did.reply) es behind
arrives u q i now wish x left did es behind net live up handled =
    let h : Handled World = handles (machine u) net.world now wish (net.links i).end (net.links i).end.number (heard x.1) in
    let is : net_step (machine u) net (ToServer i now wish) ≡ net_handled net i x.1 left h =
    ap (λ (b : Bool). net_to_server (machine u) net i now wish b) live ∙ ap (λ (l : List Request). net_arrives (machine u) net i now wish l) up in
    course-one u q i net (ToServer i now wish) did.stage did.end left (listed did.reply) es behind refl
    (subst (λ (n : Net World). Passes u i did.stage did.end left (listed did.reply) es behind net n) (sym is) (arrived u i now wish x left did es behind net h handled))

-- worlds behind legal entries, and behind steps, are sound
lawful-sound : KeepsSound → (w : World) (es : List entries.Entry) → IsSound w → is_lawful w es ≡ true → IsSound (stand w es)
lawful-sound keeps w [] sound lawful = sound
lawful-sound keeps w (e ∷ es) sound lawful = let l = and_parts (is_legal w e) (is_lawful (after w e) es) lawful in lawful-sound keeps (after w e) es (keeps w e sound l.0) l.1

among-sound : (q : entries.Entry → Bool) → KeepsSound → (w : World) (ss : List Step) (es : List entries.Entry) (behind : World) → IsSound w → AskedAmong q w ss es behind → IsSound behind
among-sound q keeps w [] es behind sound (lawful, same) = subst IsSound (sym same) (lawful-sound keeps w es sound lawful.0)
among-sound q keeps w (s ∷ ss) es behind sound (others, first, rest, mid, lawful, asked, later, all) =
    among-sound q keeps mid ss rest behind (step-sound keeps (stand w others) s s.told first mid (lawful-sound keeps w others sound lawful.0) asked) later

shown-sound : (a : Shown) → IsSoundShown a → IsSound (world_of a)
shown-sound a sound =
    subst (λ (l : List entries.Entry). IsSound (stand a.start l)) (ap (take (length a.history)) (sym (append-nil a.history)) ∙ take-all a.history []) (sound.stands (length a.history))

-- a frame of one step or none
frame-around : Laws → (u : Setup) (q : entries.Entry → Bool) (block : List ℕ) (now : ℕ) (stage : Stage) (f : Frame) (did : Did) (x : ℕ × Request) (left : List Request) (es : List entries.Entry) (behind : World) (net : Net World) (i : ℕ)
    → ((e : End) → IsEnd stage e → e.ended ≡ false)
    → IsSound net.world → Does block now stage f did → Carries u (seen_request x) f → Around q net.world did.steps es behind → AllCarried es → IsEnd stage (net.links i).end → (net.links i).up ≡ x.1 ∷ left
    → Course u q i net (last_unasked did.steps) did.stage did.end left (listed did.reply) es behind
frame-around laws u q block now stage f did x left es behind net i live sound does carries a carried comes up =
    around-course u q i net did.steps es behind (last_unasked did.steps) stage did.stage did.end (x.1 ∷ left) left (listed did.reply) a carried comes up
    (λ b same there up' asked. arrives u q i now (wish_by did.steps a.first) x left did a.first a.mid b (live (b.links i).end there) up'
    (frame-handled laws u block now stage f did (seen_request x) b.world a.mid a.first (b.links i).end (subst IsSound (sym same) (lawful-sound laws.keeps net.world a.others sound a.lawful.0)) does carries asked there))

around-by : (q : entries.Entry → Bool) (w : World) (steps ss : List Step) (es : List entries.Entry) (behind : World) → steps ≡ ss → (AskedAmong q w ss es behind → Around q w ss es behind) → AskedAmong q w steps es behind → Around q w steps es behind
around-by q w steps ss es behind same around = subst (λ (l : List Step). AskedAmong q w l es behind → Around q w l es behind) (sym same) around

-- ---- OpenSession: the sweep counts as an entry of others

-- the entries of a step
entry-lawful : (w : World) (s : Step) (first : List entries.Entry) (mid : World) (e : entries.Entry) → first ≡ e ∷ [] → IsEntry w s e mid → (is_lawful w first ≡ true) × (mid ≡ stand w first)
entry-lawful w s first mid e all b = (ap (is_lawful w) all ∙ and_from (is_legal w e) true b.legal refl, b.left ∙ sym (ap (stand w) all))

first-lawful : (w : World) (s : Step) (t : tolds.Told) (first : List entries.Entry) (mid : World) → AskedBy w s t first mid → (is_lawful w first ≡ true) × (mid ≡ stand w first)
first-lawful w s (told.Opened l) first mid (e, all, b) = entry-lawful w s first mid e all b
first-lawful w s (told.Reply code block ends) first mid (e, all, b) = entry-lawful w s first mid e all b
first-lawful w s (told.Live drain) first mid (e, all, b) = entry-lawful w s first mid e all b
first-lawful w s told.Done first mid (e, all, b) = entry-lawful w s first mid e all b
first-lawful w s told.Displaced first mid (e, all, b) = entry-lawful w s first mid e all b
first-lawful w s told.Memory first mid (none, same) = (ap (is_lawful w) none, same ∙ sym (ap (stand w) none))

or-true : (a b : Bool) → b ≡ true → (a || b) ≡ true
or-true true b e = refl
or-true false b e = e

-- entries of others pass a weaker test, and so does the sweep
pub or-passes : (p : entries.Entry → Bool) (e : entries.Entry) → p e ≡ true → or_sweep p e ≡ true
or-passes p e is = ap (λ (b : Bool). b || is_sweep e) is

pub asked-or : (p : entries.Entry → Bool) (w : World) (ss : List Step) (es : List entries.Entry) (behind : World) → AskedAmong p w ss es behind → AskedAmong (or_sweep p) w ss es behind
asked-or p w [] es behind (others, same) = ((others.0, all-of p (or_sweep p) es (or-passes p) others.1), same)
asked-or p w (s ∷ ss) es behind (others, first, rest, mid, lawful, asked, later, all) =
    (others, first, rest, mid, (lawful.0, all-of p (or_sweep p) others (or-passes p) lawful.1), asked, asked-or p mid ss rest behind later, all)

sweep-passes : (p : entries.Entry → Bool) (w : World) (now : ℕ) (t : tolds.Told) (first : List entries.Entry) (mid : World) → AskedBy w (step now no_link ask.Pulse t) t first mid → list_all (or_sweep p) first ≡ true
sweep-passes p w now t first mid asked = by t asked
  where
    sweeps : (e : entries.Entry) → (o : entries.Entry) → e ≡ o → is_sweep o ≡ true → or_sweep p e ≡ true
    sweeps e o same is = or-true (p e) (is_sweep e) (ap is_sweep same ∙ is)

    one : (s : Step) → s.link ≡ no_link → s.ask ≡ ask.Pulse → BecomesEntry w s first mid → list_all (or_sweep p) first ≡ true
    one s link pulse (e, all, b) =
        let swept : is_sweep e ≡ true = ap is_sweep b.is ∙ (λ i. is_sweep (entry s.at (link i) (pulse i) b.outcome)) in
        subst (λ (l : List entries.Entry). list_all (or_sweep p) l ≡ true) (sym all) (and_from (or_sweep p e) true (or-true (p e) (is_sweep e) swept) refl)

    by : (x : tolds.Told) → AskedBy w (step now no_link ask.Pulse t) x first mid → list_all (or_sweep p) first ≡ true
    by (told.Opened l) b = one (step now no_link ask.Pulse t) refl refl b
    by (told.Reply code block ends) b = one (step now no_link ask.Pulse t) refl refl b
    by (told.Live drain) b = one (step now no_link ask.Pulse t) refl refl b
    by told.Done b = one (step now no_link ask.Pulse t) refl refl b
    by told.Displaced b = one (step now no_link ask.Pulse t) refl refl b
    by told.Memory (none, same) = ap (list_all (or_sweep p)) none

later-among : (p : entries.Entry → Bool) (w : World) (now : ℕ) (pulsed : tolds.Told) (t : Step) (es : List entries.Entry) (behind : World)
    → AskedAmong p w (step now no_link ask.Pulse pulsed ∷ t ∷ []) es behind → AskedAmong (or_sweep p) w (t ∷ []) es behind
later-among p w now pulsed t es behind (others, first, rest, mid, lawful, asked, (others', first', rest', mid', lawful', asked', later, all'), all) =
    let q : entries.Entry → Bool = or_sweep p in
    let l = first-lawful (stand w others) (step now no_link ask.Pulse pulsed) pulsed first mid asked in
    let stands : stand w (others ++ (first ++ others')) ≡ stand mid others' =
    stand-append w others (first ++ others') ∙ stand-append (stand w others) first others' ∙ ap (λ (v : World). stand v others') (sym l.1) in (
      others ++ (first ++ others'),
      first',
      rest',
      mid',
      (
        lawful-append w others (first ++ others') lawful.0 (lawful-append (stand w others) first others' l.0 (subst (λ (v : World). is_lawful v others' ≡ true) l.1 lawful'.0)),
        all-append q others (first ++ others') (all-of p q others (or-passes p) lawful.1) (all-append q first others' (sweep-passes p (stand w others) now pulsed first mid asked) (all-of p q others' (or-passes p) lawful'.1)),
      ),
      subst (λ (v : World). AskedAt v t first' mid') (sym stands) asked',
      asked-or p mid' [] rest' behind later,
      all ∙ ap (λ (x : List entries.Entry). others ++ (first ++ x)) all' ∙ ap (λ (x : List entries.Entry). others ++ x) (sym (append_assoc first others' (first' ++ rest'))) ∙ sym (append_assoc others (first ++ others') (first' ++ rest')),
    )

open-arrives : (u : Setup) (p : entries.Entry → Bool) (n now : ℕ) (f : Frame) (did : Did) (left : List Request) (es : List entries.Entry) (behind : World) (net : Net World) (i : ℕ)
    → OpensByOptions now f did → OpensLink n f → AskedAmong p net.world did.steps es behind → AllCarried es → IsEnd stages.Fresh (net.links i).end → (net.links i).up ≡ Opens ∷ left
    → Course u (or_sweep p) i net (last_unasked did.steps) did.stage did.end left (listed did.reply) es behind
open-arrives u p n now f did left es behind net i o opens asked carried comes up =
    let q : entries.Entry → Bool = or_sweep p in
    let t : Step = step now no_link (ask.Open (attention_of o.options)) o.opened in
    let a = around-one q net.world t es behind (later-among p net.world now o.pulsed t es behind (subst (λ (l : List Step). AskedAmong p net.world l es behind) o.steps asked)) in
    subst (λ (l : List Step). Course u q i net (last_unasked l) did.stage did.end left (listed did.reply) es behind) (sym o.steps)
    (around-course u q i net (t ∷ []) es behind (is_memory o.opened) stages.Fresh did.stage did.end (Opens ∷ left) left (listed did.reply) a carried comes up
    (λ b same there up' alone. arrives u q i now (open_wish true o.opened false) (n, Opens) left did a.first a.mid b there.1 up'
    (subst (λ (m : Option ℕ). IsHandled u (n, HeardOpen) did a.first a.mid (handles (machine u) b.world now (open_wish true o.opened false) (b.links i).end m HeardOpen)) (sym there.0)
    (opened-handled u n now (attention_of o.options) f b.world a.mid [] a.first (b.links i).end did [] true false o.opened opens there.0 there.1 refl (one-alone b.world t a.first a.mid alone) o.answer o.end))))

-- ---- the law of one frame

pub frames-arrive : Laws → FramesArrive
frames-arrive laws u p block now stages.Fresh f did (n, Opens) left es behind net i sound does opens asked carried comes up =
    opens-by (subst (λ (c : DsiCommand). FreshDoes block now c f did) opens.command (subst (λ (b : Bool). FrameDoes block now stages.Fresh b f did) opens.request does))
  where
    opens-by : OpensSession now f did → Course u (or_sweep p) i net (last_unasked did.steps) did.stage did.end left (listed did.reply) es behind
    opens-by (inl o) = open-arrives u p n now f did left es behind net i o opens asked carried comes up
    opens-by (inr refuses) = absurd (laws.exclusive f.payload opens.options refuses.options refuses.at opens.fit refuses.stops)
frames-arrive laws u p block now stages.Fresh f did (n, Asks id body again) left es behind net i sound does carries asked carried comes up =
    let q : entries.Entry → Bool = or_sweep p in
    let bad-frame = (others-dropped u block now stages.Fresh f did (n, HeardCall id body) net.world (net.links i).end (wish_for false) does carries tt comes).0 in
    frame-around laws u q block now stages.Fresh f did (n, Asks id body again) left es behind net i (λ e y. y.1) sound does carries
    (around-by q net.world did.steps [] es behind (ap (λ (d : Did). d.steps) bad-frame) (around-none q net.world es behind) (asked-or p net.world did.steps es behind asked)) carried comes up
frames-arrive laws u p block now (stages.Open link) f did (n, Opens) left es behind net i sound does opens asked carried comes up =
    let q : entries.Entry → Bool = or_sweep p in
    let bad-frame = (others-dropped u block now (stages.Open link) f did (n, HeardOpen) net.world (net.links i).end (wish_for false) does opens tt comes).0 in
    frame-around laws u q block now (stages.Open link) f did (n, Opens) left es behind net i (λ e y. y.1) sound does opens
    (around-by q net.world did.steps [] es behind (ap (λ (d : Did). d.steps) bad-frame) (around-none q net.world es behind) (asked-or p net.world did.steps es behind asked)) carried comes up
frames-arrive laws u p block now (stages.Open link) f did (n, Asks id body again) left es behind net i sound does carries asked carried comes up =
    let q : entries.Entry → Bool = or_sweep p in
    let call = asks-framed block now link f did f.command (written u body).write (wire_id id) (written u body).offset (written u body).payload carries.command (carried-id id f carries.fits carries.numbered) carries.offset carries.payload
    (subst (λ (b : Bool). FrameDoes block now (stages.Open link) b f did) carries.request does) in
    let s : Step = step now link (ask_of u (law.Calls id body)) call.answer in
    frame-around laws u q block now (stages.Open link) f did (n, Asks id body again) left es behind net i (λ e y. y.1) sound does carries
    (around-by q net.world did.steps (s ∷ []) es behind call.steps (around-one q net.world s es behind) (asked-or p net.world did.steps es behind asked)) carried comes up
frames-arrive laws u p block now stages.Closing f did x left es behind net i sound does carries asked carried comes up = absurd does

-- ---- frames in order

pub record AmongSplit (q : entries.Entry → Bool) (w : World) (ss ts : List Step) (es : List entries.Entry) (behind : World) : Type 0 where
  pub first : List entries.Entry
  pub rest : List entries.Entry
  pub mid : World
  pub before : AskedAmong q w ss first mid
  pub later : AskedAmong q mid ts rest behind
  pub all : es ≡ first ++ rest

pub among-split : (q : entries.Entry → Bool) (w : World) (ss ts : List Step) (es : List entries.Entry) (behind : World) → AskedAmong q w (ss ++ ts) es behind → AmongSplit q w ss ts es behind
among-split q w [] ts es behind asked = record { first = []; rest = es; mid = w; before = ((refl, refl), refl); later = asked; all = refl }
among-split q w (s ∷ ss) ts es behind (others, first, rest, mid, lawful, asked, later, all) =
    let x = among-split q mid ss ts rest behind later in
    record {
      first = others ++ (first ++ x.first);
      rest = x.rest;
      mid = x.mid;
      before = (others, first, x.first, mid, lawful, asked, x.before, refl);
      later = x.later;
      all = all ∙ ap (λ (r : List entries.Entry). others ++ (first ++ r)) x.all ∙ ap (λ (r : List entries.Entry). others ++ r) (sym (append_assoc first x.first x.rest)) ∙ sym (append_assoc others (first ++ x.first) x.rest);
    }

or-assoc : (a b c : Bool) → ((a || b) || c) ≡ (a || (b || c))
or-assoc true b c = refl
or-assoc false b c = refl

last-any : (ss : List Step) → last_unasked ss ≡ true → any_unasked ss ≡ true
last-any [] e = e
last-any (s ∷ []) e = ap (λ (b : Bool). b || false) e
last-any (s ∷ t ∷ ss) e = or-true (is_memory s.told) (any_unasked (t ∷ ss)) (last-any (t ∷ ss) e)

any-append : (ss ts : List Step) → any_unasked (ss ++ ts) ≡ (any_unasked ss || any_unasked ts)
any-append [] ts = refl
any-append (s ∷ ss) ts = ap (λ (b : Bool). is_memory s.told || b) (any-append ss ts) ∙ sym (or-assoc (is_memory s.told) (any_unasked ss) (any_unasked ts))

either : (a b c d : Bool) → (a ≡ true → c ≡ true) → (b ≡ true → d ≡ true) → (a || b) ≡ true → (c || d) ≡ true
either true b c d p q e = ap (λ (x : Bool). x || d) (p refl)
either false b c d p q e = or-true c d (q e)

Courses : Setup → (entries.Entry → Bool) → ℕ → Net World → List Step → Stage → Option FrameEnd → List Request → List Frame → List entries.Entry → World → Type 0
Courses u q i net steps after end left replies es behind = (memory : Bool) × (memory ≡ true → any_unasked steps ≡ true) × Course u q i net memory after end left replies es behind

-- behind an end only others ask
rest-arrives : (u : Setup) (p : entries.Entry → Bool) (i : ℕ) (stage : Stage) (fs : List Frame) (rs : List (ℕ × Request)) (left : List Request) (others : List Step) (more : List Frame) (block : List ℕ) (after : Stage) (end o : Option FrameEnd) (es : List entries.Entry) (behind : World) (net : Net World)
    → (Script block stage fs others more after end → IsEnd stage (net.links i).end → Courses u (or_sweep p) i net others after end left more es behind)
    → AllCarry u (map seen_request rs) fs
    → AskedAmong p net.world others es behind
    → AllCarried es
    → IsEndBehind stage o (net.links i).end
    → (net.links i).up ≡ map request_only rs ++ left
    → Behind block stage fs others more after end o
    → Courses u (or_sweep p) i net others after end left more es behind
unfolding Courses
rest-arrives u p i stage fs rs left others more block after end None es behind net go carries asked carried comes up script = go script comes
rest-arrives u p i stage fs rs left others more block after end (Some x) es behind net go carries asked carried comes up (no_frames, no_steps, no_replies, same, is) =
    let tail = subst (λ (l : List Step). AskedAmong p net.world l es behind) no_steps asked in
    let none = none-of rs (no-more u (map seen_request rs) fs carries no_frames) in (
      false,
      (λ e. cc),
      subst (λ (w : World). Course u (or_sweep p) i net false after end left more es w) (sym tail.1)
          (subst (λ (l : List Frame). Course u (or_sweep p) i net false after end left l es (stand net.world es)) (sym no_replies)
          (others-course u (or_sweep p) i net es after end left (tail.0.0, all-of p (or_sweep p) es (or-passes p) tail.0.1) carried (subst (λ (y : Option FrameEnd). IsEndBehind after y (net.links i).end) (sym is) comes) (up ∙ ap (λ (l : List (ℕ × Request)). map request_only l ++ left) none))),
    )
  where
    none-of : (rs : List (ℕ × Request)) → map seen_request rs ≡ [] → rs ≡ []
    none-of [] e = refl
    none-of (r ∷ rs) e = absurd (cc)

first-arrives : (u : Setup) (q : entries.Entry → Bool) (i : ℕ) (did : Did) (rs : List (ℕ × Request)) (left : List Request) (others : List Step) (more : List Frame) (after : Stage) (end : Option FrameEnd) (es fs : List entries.Entry) (mid behind : World) (net : Net World)
    → Course u q i net (last_unasked did.steps) did.stage did.end (map request_only rs ++ left) (listed did.reply) es mid
    → ((b : Net World) → Passes u i did.stage did.end (map request_only rs ++ left) (listed did.reply) es mid net b → Courses u q i b others after end left more fs behind)
    → Courses u q i net (did.steps ++ others) after end left (listed did.reply ++ more) (es ++ fs) behind
unfolding Courses
first-arrives u q i did rs left others more after end es fs mid behind net c next =
    let b : Net World = net_run (machine u) net c.events in
    let d = next b c.passes in (
      last_unasked did.steps || d.0,
      (λ e. any-append did.steps others ∙ either (last_unasked did.steps) d.0 (any_unasked did.steps) (any_unasked others) (last-any did.steps) d.1 e),
      course-then u q i net (last_unasked did.steps) d.0 did.stage after did.end end (map request_only rs ++ left) left (listed did.reply) more es fs mid behind c d.2,
    )

scripts : Laws → (u : Setup) (p : entries.Entry → Bool) (block : List ℕ) (stage after : Stage) (frames : List Frame) (steps : List Step) (replies : List Frame) (end : Option FrameEnd)
    (requests : List (ℕ × Request)) (left : List Request) (es : List entries.Entry) (behind : World) (net : Net World) (i : ℕ)
    → IsSound net.world → Script block stage frames steps replies after end → AllCarry u (map seen_request requests) frames → AskedAmong p net.world steps es behind → AllCarried es → IsEnd stage (net.links i).end → (net.links i).up ≡ map request_only requests ++ left
    → Courses u (or_sweep p) i net steps after end left replies es behind
unfolding Courses
scripts laws u p block stage after [] steps replies end [] left es behind net i sound (no_steps, no_replies, same, is) carries asked carried comes up =
    let tail = subst (λ (l : List Step). AskedAmong p net.world l es behind) no_steps asked in (
      false,
      (λ e. cc),
      subst (λ (w : World). Course u (or_sweep p) i net false after end left replies es w) (sym tail.1)
          (subst (λ (l : List Frame). Course u (or_sweep p) i net false after end left l es (stand net.world es)) (sym no_replies)
          (others-course u (or_sweep p) i net es after end left (tail.0.0, all-of p (or_sweep p) es (or-passes p) tail.0.1) carried (subst (λ (y : Option FrameEnd). IsEndBehind after y (net.links i).end) (sym is) (subst (λ (s : Stage). IsEnd s (net.links i).end) (sym same) comes)) up)),
    )
scripts laws u p block stage after [] steps replies end (r ∷ rs) left es behind net i sound script carries asked carried comes up = absurd carries
scripts laws u p block stage after (f ∷ fs) steps replies end [] left es behind net i sound script carries asked carried comes up = absurd carries
scripts laws u p block stage after (f ∷ fs) steps replies end (r ∷ rs) left es behind net i sound (now, did, others, more, does, all, sent, script) carries asked carried comes up =
    let x = among-split p net.world did.steps others es behind (subst (λ (l : List Step). AskedAmong p net.world l es behind) all asked) in
    let parts = carried-parts x.first x.rest (subst AllCarried x.all carried) in
    let here = frames-arrive laws u p block now stage f did r (map request_only rs ++ left) x.first x.mid net i sound does carries.0 x.before parts.0 comes up in
    subst (λ (l : List Step). Courses u (or_sweep p) i net l after end left replies es behind) (sym all)
    (subst (λ (l : List Frame). Courses u (or_sweep p) i net (did.steps ++ others) after end left l es behind) (sym sent)
    (subst (λ (l : List entries.Entry). Courses u (or_sweep p) i net (did.steps ++ others) after end left (listed did.reply ++ more) l behind) (sym x.all)
    (first-arrives u (or_sweep p) i did rs left others more after end x.first x.rest x.mid behind net here
    (λ b c. rest-arrives u p i did.stage fs rs left others more block after end did.end x.rest behind b
    (λ s there. scripts laws u p block did.stage after fs others more end rs left x.rest behind b i (subst IsSound (sym c.world) (among-sound p laws.keeps net.world did.steps x.first x.mid sound x.before)) s carries.1 (subst (λ (w : World). AskedAmong p w others x.rest behind) (sym c.world) x.later) parts.1 there c.up)
    carries.1 (subst (λ (w : World). AskedAmong p w others x.rest behind) (sym c.world) x.later) parts.1 c.comes c.up script))))

pub scripts-arrive : Laws → ScriptsArrive
unfolding Courses
scripts-arrive laws u p block stage after frames steps replies end requests left es behind net i sound script carries asked carried comes up =
    scripts laws u p block stage after frames steps replies end requests left es behind net i sound script carries asked carried comes up

pub pieces-arrive : Laws → PiecesArrive
pieces-arrive laws u p start frames end point handled requests left net i first last others carries carried world comes up =
    scripts-arrive laws u p start.block start.stage point.stage frames handled.steps handled.replies end requests left handled.went.between (world_of point.shown) net i (subst IsSound (sym world) (shown-sound start.shown first)) handled.script carries
    (subst (λ (w : World). AskedAmong p w handled.steps handled.went.between (world_of point.shown)) (sym world) (in-order p start.shown point.shown handled.steps last.lawful others handled.went)) carried comes up

-- ---- quiets, and the end of a link

moves-pass : (u : Setup) (i : ℕ) (stage : Stage) (l : List Request) (es : List entries.Entry) (behind : World) (old new : Net World) → (old.links i).up ≡ l → MovesTo u i stage es behind old new → Passes u i stage None l [] es behind old new
moves-pass u i stage l es behind old new up m = record {
  world = m.stands.world;
  comes = m.stands.end;
  more = m.more;
  history = m.history;
  asked = m.asked;
  client = m.client;
  top = m.top;
  elsewhere = m.elsewhere;
  up = m.up ∙ up;
  told = [];
  down = m.down ∙ sym (append-nil (old.links i).down);
  read = [];
  same = refl;
  says = refl;
}

parting-around : (u : Setup) (q : entries.Entry → Bool) (now : ℕ) (stage : Stage) (ss : List Step) (es : List entries.Entry) (behind : World) (net : Net World) (i : ℕ)
    → Parts stage now ss → Around q net.world ss es behind → AllCarried es → IsEnd stage (net.links i).end
    → Course u q i net false stages.Closing None (net.links i).up [] es behind
parting-around u q now stage ss es behind net i parts a carried comes =
    around-course u q i net ss es behind false stage stages.Closing None (net.links i).up (net.links i).up [] a carried comes refl
    (λ b same there up asked.
    let x = links-part u now stage ss b.world a.mid a.first b i parts asked (record { world = refl; end = there }) in
    course-one u q i b (Loses i now x.0) stages.Closing None (net.links i).up [] a.first a.mid refl (moves-pass u i stages.Closing (net.links i).up a.first a.mid b (net_step (machine u) b (Loses i now x.0)) up x.1))

pub partings-arrive : PartingsArrive
partings-arrive u q now stages.Fresh steps es behind net i parts asked carried comes =
    parting-around u q now stages.Fresh steps es behind net i parts (around-by q net.world steps [] es behind parts (around-none q net.world es behind) asked) carried comes
partings-arrive u q now (stages.Open link) steps es behind net i parts asked carried comes =
    parting-around u q now (stages.Open link) steps es behind net i parts (around-by q net.world steps (step now link ask.Lost parts.0 ∷ []) es behind parts.1 (around-one q net.world (step now link ask.Lost parts.0) es behind) asked) carried comes
partings-arrive u q now stages.Closing steps es behind net i parts asked carried comes =
    parting-around u q now stages.Closing steps es behind net i parts (around-by q net.world steps [] es behind parts (around-none q net.world es behind) asked) carried comes

-- a quiet of one step or none, which is an event
quiet-around : (u : Setup) (q : entries.Entry → Bool) (last now : ℕ) (stage : Stage) (requests : Requests) (idled : Idled) (cause : Option Cause) (es : List entries.Entry) (behind : World) (net : Net World) (i : ℕ)
    → ((b : Net World) (wish parting : Wish) → at_quiet u b i now wish parting cause ≡ net_step (machine u) b (Quiet i now wish))
    → Idles last now stage requests idled cause → Around q net.world idled.steps es behind → AllCarried es → IsEnd stage (net.links i).end
    → Course u q i net false idled.stage None (net.links i).up [] es behind
quiet-around u q last now stage requests idled cause es behind net i quiets idles a carried comes =
    around-course u q i net idled.steps es behind false stage idled.stage None (net.links i).up (net.links i).up [] a carried comes refl
    (λ b same there up asked.
    let x = links-quiet u last now stage requests idled cause b.world a.mid a.first b i idles asked (record { world = refl; end = there }) in
    course-one u q i b (Quiet i now x.0) idled.stage None (net.links i).up [] a.first a.mid refl
    (subst (λ (n : Net World). Passes u i idled.stage None (net.links i).up [] a.first a.mid b n) (quiets b x.0 x.1) (moves-pass u i idled.stage (net.links i).up a.first a.mid b (at_quiet u b i now x.0 x.1 cause) up x.2)))

-- a quiet without a step, which is none
still : (u : Setup) (q : entries.Entry → Bool) (stage : Stage) (es : List entries.Entry) (behind : World) (net : Net World) (i : ℕ) → AskedAmong q net.world [] es behind → AllCarried es → IsEnd stage (net.links i).end → Course u q i net false stage None (net.links i).up [] es behind
still u q stage es behind net i (lawful, same) carried comes = subst (λ (w : World). Course u q i net false stage None (net.links i).up [] es w) (sym same) (others-course u q i net es stage None (net.links i).up lawful carried comes refl)

abbrev QuietAt : Setup → (entries.Entry → Bool) → List entries.Entry → World → Net World → ℕ → Idled → Type 0
QuietAt u q es behind net i idled = AskedAmong q net.world idled.steps es behind → Course u q i net false idled.stage None (net.links i).up [] es behind

-- behind a drain that is over the link drains
drained-quiet : (u : Setup) (q : entries.Entry → Bool) (now drain : ℕ) (link : LinkNumber) (t : tolds.Told) (es : List entries.Entry) (behind : World) (net : Net World) (i : ℕ)
    → AskedAmong q net.world (step now link ask.Pulse (told.Live (Some drain)) ∷ step now link ask.Bye t ∷ []) es behind → AllCarried es → IsEnd (stages.Open link) (net.links i).end
    → Course u q i net false stages.Closing None (net.links i).up [] es behind
drained-quiet u q now drain link t es behind net i asked carried comes =
    let p : Step = step now link ask.Pulse (told.Live (Some drain)) in
    let y : Step = step now link ask.Bye t in
    let x = among-split q net.world (p ∷ []) (y ∷ []) es behind asked in
    let parts = carried-parts x.first x.rest (subst AllCarried x.all carried) in
    let a = around-one q net.world p x.first x.mid x.before in
    subst (λ (l : List entries.Entry). Course u q i net false stages.Closing None (net.links i).up [] l behind) (sym x.all)
    (course-join u q i net false false (stages.Open link) stages.Closing None None (net.links i).up (net.links i).up [] [] x.first x.rest x.mid behind
    (around-course u q i net (p ∷ []) x.first x.mid false (stages.Open link) (stages.Open link) None (net.links i).up (net.links i).up [] a parts.0 comes refl
    (λ b same there up alone. course-one u q i b (Quiet i now (wish_for false)) (stages.Open link) None (net.links i).up [] a.first a.mid refl
    (moves-pass u i (stages.Open link) (net.links i).up a.first a.mid b (net_step (machine u) b (Quiet i now (wish_for false))) up
    (quiet-goes u now link (told.Live (Some drain)) b.world a.mid a.first b i (λ e. cc) (one-alone b.world p a.first a.mid alone) (record { world = refl; end = there })))))
    (λ c z.
    let d = around-one q c.world y x.rest behind (subst (λ (w : World). AskedAmong q w (y ∷ []) x.rest behind) (sym z.world) x.later) in
    around-course u q i c (y ∷ []) x.rest behind false (stages.Open link) stages.Closing None (net.links i).up (net.links i).up [] d parts.1 z.comes z.up
    (λ b same there up alone. course-one u q i b (Drains i now (wish_for (is_memory t))) stages.Closing None (net.links i).up [] d.first d.mid refl
    (moves-pass u i stages.Closing (net.links i).up d.first d.mid b (net_step (machine u) b (Drains i now (wish_for (is_memory t)))) up
    (parts-at u i now (wish_for (is_memory t)) law.Bye b d.first d.mid false (Some link.0) there.1 there.0
    (parts-by u now link ask.Bye law.Bye t b.world d.mid d.first b i refl bye-uncommitted (one-alone b.world y d.first d.mid alone) (record { world = refl; end = there })))))))

pub quiets-arrive : QuietsArrive
quiets-arrive u q last now stages.Fresh a idled None es behind net i (soon, is) asked carried comes =
    subst (QuietAt u q es behind net i) (sym is) (λ none. still u q stages.Fresh es behind net i none carried comes) asked
quiets-arrive u q last now (stages.Open link) a idled None es behind net i (soon, x) asked carried comes =
    let p : Step = step now link ask.Pulse x.answer in
    quiet-around u q last now (stages.Open link) a idled None es behind net i (λ b w v. refl) (soon, x)
    (around-by q net.world idled.steps (p ∷ []) es behind (ap (λ (y : Idled). y.steps) x.is) (around-one q net.world p es behind) asked) carried comes
quiets-arrive u q last now stages.Closing a idled None es behind net i (soon, is) asked carried comes = absurd is
quiets-arrive u q last now stage a idled (Some silent) es behind net i (late, is) asked carried comes =
    subst (QuietAt u q es behind net i) (sym is) (λ none. still u q stage es behind net i none carried comes) asked
quiets-arrive u q last now stage a idled (Some displaced) es behind net i (soon, x) asked carried comes =
    let p : Step = step now x.link ask.Pulse told.Displaced in
    quiet-around u q last now stage a idled (Some displaced) es behind net i (λ b w v. refl) (soon, x)
    (around-by q net.world idled.steps (p ∷ []) es behind (ap (λ (y : Idled). y.steps) x.is) (around-one q net.world p es behind) asked) carried comes
quiets-arrive u q last now stage a idled (Some unwritten) es behind net i (soon, x) asked carried comes =
    let p : Step = step now x.link ask.Pulse x.answer in
    quiet-around u q last now stage a idled (Some unwritten) es behind net i (λ b w v. refl) (soon, x)
    (around-by q net.world idled.steps (p ∷ []) es behind (ap (λ (y : Idled). y.steps) x.is) (around-one q net.world p es behind) asked) carried comes
quiets-arrive u q last now stage a idled (Some drained) es behind net i (soon, x) asked carried comes =
    subst (QuietAt u q es behind net i) (sym x.is)
    (λ both. drained-quiet u q now x.drain x.link x.answer es behind net i both carried (subst (λ (s : Stage). IsEnd s (net.links i).end) x.in_session comes)) asked
quiets-arrive u q last now stage a idled (Some closed) es behind net i x asked carried comes = absurd x
quiets-arrive u q last now stage a idled (Some (bad reason)) es behind net i x asked carried comes = absurd x
