-- Events at a link, one after the other, and the entries of others.
use Rattle.std.proofs.Common.{◌≡◌, ◌∙◌, refl, sym, ap, subst, ℕ, Bool, true, false, List, [], ◌∷◌, ◌++◌, Option, None, append-nil, append_assoc}
use Rattle.std.specs.Prelude.{◌||◌}
use Rattle.std.specs.List.{list_all}
use Rattle.std.proofs.lemmas.Bool.{and_parts}
use Rattle.afp_serial.specs.declared.ask.Entry as entries
use Rattle.afp_serial.specs.Answer.{after, is_legal}
use Rattle.afp_serial.specs.History.{is_lawful, stand}
use Rattle.afp_serial.specs.Went.{Step}
use Rattle.afp_serial.specs.World.{World}
use Rattle.afp_server.specs.declared.link.stage.FrameEnd.{FrameEnd}
use Rattle.afp_server.specs.declared.link.stage.Stage.{Stage}
use Rattle.dsi_frame.specs.Frame.{Frame}
use Rattle.once_across_breaks.specs.once.Frames.{Net, net_run, net_step}
use Rattle.once_across_breaks.specs.once.Messages.{Answer}
use Rattle.once_across_breaks.specs.once.Run.{Event, Others, Request}
use Rattle.once_across_breaks.specs.once.Serial.{Setup, machine}
use Rattle.once_across_breaks.specs.once.Server as law
use Rattle.once_across_breaks_code.specs.server.Among.{AllCarried, AreAtLink, Course, IsAtLink, IsPassed, Passes, any_wants_memory, heard_reply, is_carried_ask, unnumbered, wants_memory}
use Rattle.once_across_breaks_code.specs.server.Asked.{AreOthers, AskedAlone, AskedAmong}
use Rattle.once_across_breaks_code.specs.server.Ties.{IsEndBehind}
use Rattle.once_across_breaks_code.proofs.OfServer.Entries.{entries-join, entry-is, legal-typed, map-append, plain-legal, same-after}
use Rattle.once_across_breaks_code.proofs.OfServer.ServedFrames.{says-join}

-- ---- events in a row

pub run-append : (u : Setup) (net : Net World) (xs ys : List Event) → net_run (machine u) net (xs ++ ys) ≡ net_run (machine u) (net_run (machine u) net xs) ys
run-append u net [] ys = refl
run-append u net (x ∷ xs) ys = run-append u (net_step (machine u) net x) xs ys

here-append : (u : Setup) (q : entries.Entry → Bool) (i : ℕ) (net : Net World) (xs ys : List Event) → AreAtLink u q i net xs → AreAtLink u q i (net_run (machine u) net xs) ys → AreAtLink u q i net (xs ++ ys)
here-append u q i net [] ys p r = r
here-append u q i net (x ∷ xs) ys p r = (p.0, here-append u q i (net_step (machine u) net x) xs ys p.1 r)

or-assoc : (a b c : Bool) → ((a || b) || c) ≡ (a || (b || c))
or-assoc true b c = refl
or-assoc false b c = refl

wants-append : (xs ys : List Event) → any_wants_memory (xs ++ ys) ≡ (any_wants_memory xs || any_wants_memory ys)
wants-append [] ys = refl
wants-append (x ∷ xs) ys = ap (λ (b : Bool). wants_memory x || b) (wants-append xs ys) ∙ sym (or-assoc (wants_memory x) (any_wants_memory xs) (any_wants_memory ys))

passes-join : (u : Setup) (i : ℕ) (s t : Stage) (x y : Option FrameEnd) (m l : List Request) (fs gs : List Frame) (es ds : List entries.Entry) (w v : World) (a b c : Net World)
    → Passes u i s x m fs es w a b → Passes u i t y l gs ds v b c → Passes u i t y l (fs ++ gs) (es ++ ds) v a c
passes-join u i s t x y m l fs gs es ds w v a b c p q = record {
  world = q.world;
  comes = q.comes;
  more = p.more ++ q.more;
  history = q.history ∙ ap (λ (h : List law.Entry). h ++ q.more) p.history ∙ append_assoc a.history p.more q.more;
  asked = entries-join u p.more q.more es ds p.asked q.asked;
  client = q.client ∙ p.client;
  top = q.top ∙ p.top;
  elsewhere = λ j off. q.elsewhere j off ∙ p.elsewhere j off;
  up = q.up;
  told = p.told ++ q.told;
  down = q.down ∙ ap (λ (d : List (Request × Answer)). d ++ q.told) p.down ∙ append_assoc (a.links i).down p.told q.told;
  read = p.read ++ q.read;
  same = map-append unnumbered p.read q.read ∙ (λ k. p.same k ++ q.same k) ∙ sym (map-append heard_reply p.told q.told);
  says = says-join u p.read q.read fs gs p.says q.says;
}

-- a course, and the one from where this very course leads
pub course-then : (u : Setup) (q : entries.Entry → Bool) (i : ℕ) (a : Net World) (o n : Bool) (s t : Stage) (x y : Option FrameEnd) (m l : List Request) (fs gs : List Frame) (es ds : List entries.Entry) (w v : World)
    → (c : Course u q i a o s x m fs es w)
    → Course u q i (net_run (machine u) a c.events) n t y l gs ds v
    → Course u q i a (o || n) t y l (fs ++ gs) (es ++ ds) v
course-then u q i a o n s t x y m l fs gs es ds w v c d =
    let b : Net World = net_run (machine u) a c.events in
    record {
      events = c.events ++ d.events;
      here = here-append u q i a c.events d.events c.here d.here;
      wants = wants-append c.events d.events ∙ (λ k. c.wants k || d.wants k);
      passes = subst (λ (z : Net World). Passes u i t y l (fs ++ gs) (es ++ ds) v a z) (sym (run-append u a c.events d.events))
          (passes-join u i s t x y m l fs gs es ds w v a b (net_run (machine u) b d.events) c.passes d.passes);
    }

-- a course, and one from where it leads
pub course-join : (u : Setup) (q : entries.Entry → Bool) (i : ℕ) (a : Net World) (o n : Bool) (s t : Stage) (x y : Option FrameEnd) (m l : List Request) (fs gs : List Frame) (es ds : List entries.Entry) (w v : World)
    → Course u q i a o s x m fs es w
    → ((b : Net World) → Passes u i s x m fs es w a b → Course u q i b n t y l gs ds v)
    → Course u q i a (o || n) t y l (fs ++ gs) (es ++ ds) v
course-join u q i a o n s t x y m l fs gs es ds w v c next = course-then u q i a o n s t x y m l fs gs es ds w v c (next (net_run (machine u) a c.events) c.passes)

or-false : (b : Bool) → (b || false) ≡ b
or-false true = refl
or-false false = refl

pub course-one : (u : Setup) (q : entries.Entry → Bool) (i : ℕ) (net : Net World) (e : Event) (s : Stage) (x : Option FrameEnd) (l : List Request) (fs : List Frame) (es : List entries.Entry) (w : World)
    → IsAtLink u q i net e → Passes u i s x l fs es w net (net_step (machine u) net e) → Course u q i net (wants_memory e) s x l fs es w
course-one u q i net e s x l fs es w here passes = record { events = e ∷ []; here = (here, tt); wants = or-false (wants_memory e); passes = passes }

-- nothing happens
pub course-none : (u : Setup) (q : entries.Entry → Bool) (i : ℕ) (net : Net World) (s : Stage) (x : Option FrameEnd) (l : List Request) (w : World) → net.world ≡ w → IsEndBehind s x (net.links i).end → (net.links i).up ≡ l → Course u q i net false s x l [] [] w
course-none u q i net s x l w same comes up = record {
  events = [];
  here = tt;
  wants = refl;
  passes = record {
    world = same;
    comes = comes;
    more = [];
    history = sym (append-nil net.history);
    asked = refl;
    client = refl;
    top = refl;
    elsewhere = λ j off. refl;
    up = up;
    told = [];
    down = sym (append-nil (net.links i).down);
    read = [];
    same = refl;
    says = refl;
  };
}

-- ---- what others ask

-- one entry of others is an event
other-once : (u : Setup) (q : entries.Entry → Bool) (i : ℕ) (net : Net World) (e : entries.Entry) (s : Stage) (x : Option FrameEnd) (l : List Request) → is_legal net.world e ≡ true → q e ≡ true → is_carried_ask e.ask ≡ true
    → IsEndBehind s x (net.links i).end → (net.links i).up ≡ l → Course u q i net false s x l [] (e ∷ []) (after net.world e)
other-once u q i net e s x l legal passes carried comes up =
    let is = entry-is u e (legal-typed net.world e legal) carried in
    course-one u q i net (Others is.0) s x l [] (e ∷ []) (after net.world e)
    (subst (λ (y : entries.Entry). is_legal net.world y ≡ true) (sym is.1) (plain-legal net.world e legal), record { entry = e; is = is.1; passes = passes })
    (record {
      world = ap (after net.world) is.1 ∙ same-after net.world e;
      comes = comes;
      more = is.0 ∷ [];
      history = refl;
      asked = λ k. is.1 k ∷ [];
      client = refl;
      top = refl;
      elsewhere = λ j off. refl;
      up = up;
      told = [];
      down = sym (append-nil (net.links i).down);
      read = [];
      same = refl;
      says = refl;
    })

pub others-course : (u : Setup) (q : entries.Entry → Bool) (i : ℕ) (net : Net World) (es : List entries.Entry) (s : Stage) (x : Option FrameEnd) (l : List Request) → AreOthers q net.world es → AllCarried es
    → IsEndBehind s x (net.links i).end → (net.links i).up ≡ l → Course u q i net false s x l [] es (stand net.world es)
others-course u q i net [] s x l lawful carried comes up = course-none u q i net s x l net.world refl comes up
others-course u q i net (e ∷ es) s x l lawful carried comes up =
    let parts = and_parts (is_legal net.world e) (is_lawful (after net.world e) es) lawful.0 in
    let pass = and_parts (q e) (list_all q es) lawful.1 in
    course-join u q i net false false s s x x l l [] [] (e ∷ []) es (after net.world e) (stand (after net.world e) es)
    (other-once u q i net e s x l parts.0 pass.0 carried.0 comes up)
    (λ b p. subst (λ (w : World). Course u q i b false s x l [] es (stand w es)) p.world (others-course u q i b es s x l (subst (λ (w : World). is_lawful w es ≡ true) (sym p.world) parts.1, pass.1) carried.1 p.comes p.up))

pub carried-parts : (es fs : List entries.Entry) → AllCarried (es ++ fs) → AllCarried es × AllCarried fs
carried-parts [] fs c = (tt, c)
carried-parts (e ∷ es) fs c = let p = carried-parts es fs c.1 in ((c.0, p.0), p.1)

-- ---- steps with the entries of others around them

pub record Around (q : entries.Entry → Bool) (w : World) (ss : List Step) (es : List entries.Entry) (behind : World) : Type 0 where
  pub others : List entries.Entry
  pub first : List entries.Entry
  pub later : List entries.Entry
  pub mid : World
  pub lawful : AreOthers q w others
  pub asked : AskedAlone (stand w others) ss first mid
  pub lawful_later : AreOthers q mid later
  pub left : behind ≡ stand mid later
  pub all : es ≡ others ++ (first ++ later)

pub around-none : (q : entries.Entry → Bool) (w : World) (es : List entries.Entry) (behind : World) → AskedAmong q w [] es behind → Around q w [] es behind
around-none q w es behind (lawful, same) = record { others = []; first = []; later = es; mid = w; lawful = (refl, refl); asked = (refl, refl); lawful_later = lawful; left = same; all = refl }

pub around-one : (q : entries.Entry → Bool) (w : World) (s : Step) (es : List entries.Entry) (behind : World) → AskedAmong q w (s ∷ []) es behind → Around q w (s ∷ []) es behind
around-one q w s es behind (others, first, rest, mid, lawful, asked, later, all) = record {
  others = others;
  first = first;
  later = rest;
  mid = mid;
  lawful = lawful;
  asked = (first, [], mid, asked, (refl, refl), sym (append-nil first));
  lawful_later = later.0;
  left = later.1;
  all = all;
}

-- a course of those steps, with the entries of others around it
pub around-course : (u : Setup) (q : entries.Entry → Bool) (i : ℕ) (net : Net World) (ss : List Step) (es : List entries.Entry) (behind : World) (memory : Bool) (s t : Stage) (y : Option FrameEnd) (m l : List Request) (fs : List Frame)
    → (a : Around q net.world ss es behind)
    → AllCarried es
    → IsEndBehind s None (net.links i).end
    → (net.links i).up ≡ m
    → ((b : Net World) → b.world ≡ stand net.world a.others → IsEndBehind s None (b.links i).end → (b.links i).up ≡ m → AskedAlone b.world ss a.first a.mid → Course u q i b memory t y l fs a.first a.mid)
    → Course u q i net memory t y l fs es behind
around-course u q i net ss es behind memory s t y m l fs a carried comes up next =
    let parts = carried-parts a.others (a.first ++ a.later) (subst AllCarried a.all carried) in
    let more = carried-parts a.first a.later parts.1 in
    let whole : Course u q i net (memory || false) t y l (fs ++ []) (a.others ++ (a.first ++ a.later)) (stand a.mid a.later) =
    course-join u q i net false (memory || false) s t None y m l [] (fs ++ []) a.others (a.first ++ a.later) (stand net.world a.others) (stand a.mid a.later)
    (others-course u q i net a.others s None m a.lawful parts.0 comes up)
    (λ b p. course-join u q i b memory false t t y y l l fs [] a.first a.later a.mid (stand a.mid a.later)
    (next b p.world p.comes p.up (subst (λ (w : World). AskedAlone w ss a.first a.mid) (sym p.world) a.asked))
    (λ c d. subst (λ (w : World). Course u q i c false t y l [] a.later (stand w a.later)) d.world
    (others-course u q i c a.later t y l (subst (λ (w : World). AreOthers q w a.later) (sym d.world) a.lawful_later) more.1 d.comes d.up))) in
    subst (λ (w : World). Course u q i net memory t y l fs es w) (sym a.left)
    (subst (λ (x : List entries.Entry). Course u q i net memory t y l fs x (stand a.mid a.later)) (sym a.all)
    (subst (λ (x : List Frame). Course u q i net memory t y l x (a.others ++ (a.first ++ a.later)) (stand a.mid a.later)) (append-nil fs)
    (subst (λ (x : Bool). Course u q i net x t y l (fs ++ []) (a.others ++ (a.first ++ a.later)) (stand a.mid a.later)) (or-false memory) whole)))
