-- Frames that follow one another.
use Rattle.std.proofs.Common.{◌≡◌, ◌∙◌, refl, sym, ap, subst, ℕ, List, [], ◌∷◌, ◌++◌, Option, Some, None}
use Rattle.std.specs.Prelude.{MatchOption, map}
use Rattle.afp_serial.specs.declared.ask.Entry as entries
use Rattle.afp_serial.specs.declared.ask.Told as tolds
use Rattle.afp_serial.specs.declared.ask.Told.TheVariants as told
use Rattle.afp_serial.specs.Laws.{KeepsSound}
use Rattle.afp_serial.specs.Sound.{IsSound}
use Rattle.afp_serial.specs.Went.{Step}
use Rattle.afp_serial.specs.World.{World}
use Rattle.afp_server.specs.link.Did.{Did}
use Rattle.afp_server.specs.link.Script.{Script}
use Rattle.afp_server.specs.declared.link.stage.FrameEnd.{FrameEnd}
use Rattle.afp_server.specs.declared.link.stage.Stage.{Stage}
use Rattle.dsi_frame.specs.Frame.{Frame}
use Rattle.dsi_frame.specs.Replies.{listed}
use Rattle.once_across_breaks.specs.once.Frames.{End, Handled, Heard, handles}
use Rattle.once_across_breaks.specs.once.Messages.{Answer}
use Rattle.once_across_breaks.specs.once.Serial.{Setup, machine}
use Rattle.once_across_breaks_code.specs.server.Asked.{AskedAlone, AskedBy}
use Rattle.once_across_breaks_code.specs.server.Handling.{IsHandled, IsServed, ScriptsAreServed, Served, Turn, request_in, serves, then_served, wish_by}
use Rattle.once_across_breaks_code.specs.server.Ties.{AllCarry, IsEnd, IsEndBehind, answered, frame_of_reply, plain, reply_frames}
use Rattle.once_across_breaks_code.proofs.OfServer.Entries.{entries-join, map-append, split}
use Rattle.once_across_breaks_code.proofs.OfServer.HandledFrames.{Laws, frame-handled}

pub says-join : (u : Setup) (xs ys : List ((ℕ × Heard) × Answer)) (fs gs : List Frame) → fs ≡ reply_frames u xs → gs ≡ reply_frames u ys → fs ++ gs ≡ reply_frames u (xs ++ ys)
says-join u xs ys fs gs p q = (λ i. p i ++ q i) ∙ sym (map-append (frame_of_reply u) xs ys)

-- a world behind steps is sound
pub step-sound : KeepsSound → (w : World) (s : Step) (t : tolds.Told) (es : List entries.Entry) (behind : World) → IsSound w → AskedBy w s t es behind → IsSound behind
step-sound keeps w s (told.Opened l) es behind sound (e, all, b) = subst IsSound (sym b.left) (keeps w e sound b.legal)
step-sound keeps w s (told.Reply code block ends) es behind sound (e, all, b) = subst IsSound (sym b.left) (keeps w e sound b.legal)
step-sound keeps w s (told.Live drain) es behind sound (e, all, b) = subst IsSound (sym b.left) (keeps w e sound b.legal)
step-sound keeps w s told.Done es behind sound (e, all, b) = subst IsSound (sym b.left) (keeps w e sound b.legal)
step-sound keeps w s told.Displaced es behind sound (e, all, b) = subst IsSound (sym b.left) (keeps w e sound b.legal)
step-sound keeps w s told.Memory es behind sound (none, same) = subst IsSound (sym same) sound

alone-sound : KeepsSound → (w : World) (ss : List Step) (es : List entries.Entry) (behind : World) → IsSound w → AskedAlone w ss es behind → IsSound behind
alone-sound keeps w [] es behind sound (none, same) = subst IsSound (sym same) sound
alone-sound keeps w (s ∷ ss) es behind sound (first, rest, mid, asked, later, all) = alone-sound keeps mid ss rest behind (step-sound keeps w s s.told first mid sound asked) later

pub no-more : (u : Setup) (rs : List (ℕ × Heard)) (fs : List Frame) → AllCarry u rs fs → fs ≡ [] → rs ≡ []
no-more u [] fs carries none = refl
no-more u (r ∷ rs) [] carries none = absurd carries
no-more u (r ∷ rs) (f ∷ fs) carries none = absurd (cc)

-- what was handled first joins what was served then
then-served : (u : Setup) (r : ℕ × Heard) (did : Did) (h : Handled World) (first rest : List entries.Entry) (mid behind : World) (x : Served World) (more : List Frame) (after : Stage) (end : Option FrameEnd)
    → IsHandled u r did first mid h
    → IsServed u more after end rest behind x
    → IsServed u (listed did.reply ++ more) after end (first ++ rest) behind (then_served r h x)
then-served u r did h first rest mid behind x more after end a b = record {
  world = b.world;
  asked = entries-join u h.entries x.entries first rest a.asked b.asked;
  comes = b.comes;
  says = says-join u (answered r h.reply) x.replies (listed did.reply) more a.says b.says;
}

pub Tells : Setup → World → End → List (ℕ × Heard) → List Frame → Stage → Option FrameEnd → List entries.Entry → World → Type 0
Tells u w e requests replies after end es behind =
    (turns : List Turn) × (map request_in turns ≡ requests) × IsServed u replies after end es behind (serves (machine u) w e turns)

-- what a script says behind a frame, by its end
abbrev pub Behind : List ℕ → Stage → List Frame → List Step → List Frame → Stage → Option FrameEnd → Option FrameEnd → Type 0
Behind block stage frames steps replies after end e =
    MatchOption e (Script block stage frames steps replies after end) (λ x. (frames ≡ []) × (steps ≡ []) × (replies ≡ []) × (after ≡ stage) × (end ≡ Some x))

-- nothing comes behind an end
served-last : (u : Setup) (w : World) (e : End) (after : Stage) (end : Option FrameEnd) (replies : List Frame) (es : List entries.Entry) (behind : World)
    → replies ≡ [] → AskedAlone w [] es behind → IsEndBehind after end e → IsServed u replies after end es behind (serves (machine u) w e [])
served-last u w e after end replies es behind none (empty, same) ends = record {
  world = sym same;
  asked = sym (ap (map plain) empty);
  comes = ends;
  says = none;
}

-- the rest behind a frame
rest-served : (u : Setup) (block : List ℕ) (did : Did) (h : Handled World) (rs : List (ℕ × Heard)) (fs : List Frame) (others : List Step) (more : List Frame) (after : Stage) (end o : Option FrameEnd) (es : List entries.Entry) (mid behind : World)
    → ((e : End) (w : World) → IsSound w → Script block did.stage fs others more after end → AskedAlone w others es behind → IsEnd did.stage e → Tells u w e rs more after end es behind)
    → IsSound mid
    → AllCarry u rs fs
    → AskedAlone mid others es behind
    → h.world ≡ mid
    → IsEndBehind did.stage o h.end
    → Behind block did.stage fs others more after end o
    → Tells u h.world h.end rs more after end es behind
unfolding Tells
rest-served u block did h rs fs others more after end None es mid behind go sound carries asked same ends script =
    go h.end h.world (subst IsSound (sym same) sound) script (subst (λ (w : World). AskedAlone w others es behind) (sym same) asked) ends
rest-served u block did h rs fs others more after end (Some x) es mid behind go sound carries asked same ends script = (
  [],
  sym (no-more u rs fs carries script.0),
  served-last u h.world h.end after end more es behind script.2 (subst (λ (w : World). AskedAlone w [] es behind) (sym same) (subst (λ (ss : List Step). AskedAlone mid ss es behind) script.1 asked))
      (subst (λ (y : Option FrameEnd). IsEndBehind after y h.end) (sym script.4) ends),
)

first-served : (u : Setup) (r : ℕ × Heard) (now : ℕ) (did : Did) (w mid behind : World) (first rest : List entries.Entry) (e : End) (rs : List (ℕ × Heard)) (more : List Frame) (after : Stage) (end : Option FrameEnd)
    → IsHandled u r did first mid (handles (machine u) w now (wish_by did.steps first) e e.number r.1)
    → Tells u (handles (machine u) w now (wish_by did.steps first) e e.number r.1).world (handles (machine u) w now (wish_by did.steps first) e e.number r.1).end rs more after end rest behind
    → Tells u w e (r ∷ rs) (listed did.reply ++ more) after end (first ++ rest) behind
unfolding Tells
first-served u r now did w mid behind first rest e rs more after end handled (turns, same, served) =
    let t : Turn = record { moment = now; wish = wish_by did.steps first; request = r } in
    let h : Handled World = handles (machine u) w now (wish_by did.steps first) e e.number r.1 in
    (t ∷ turns, ap (λ (l : List (ℕ × Heard)). r ∷ l) same, then-served u r did h first rest mid behind (serves (machine u) h.world h.end turns) more after end handled served)

served : Laws → (u : Setup) (block : List ℕ) (stage after : Stage) (frames : List Frame) (steps : List Step) (replies : List Frame) (end : Option FrameEnd)
    (requests : List (ℕ × Heard)) (w behind : World) (es : List entries.Entry) (e : End)
    → IsSound w → Script block stage frames steps replies after end → AllCarry u requests frames → AskedAlone w steps es behind → IsEnd stage e → Tells u w e requests replies after end es behind
unfolding Tells
served laws u block stage after [] steps replies end [] w behind es e sound script carries asked ends = (
  [],
  refl,
  served-last u w e after end replies es behind script.1 (subst (λ (ss : List Step). AskedAlone w ss es behind) script.0 asked)
      (subst (λ (x : Option FrameEnd). IsEndBehind after x e) (sym script.3) (subst (λ (s : Stage). IsEnd s e) (sym script.2) ends)),
)
served laws u block stage after [] steps replies end (r ∷ rs) w behind es e sound script carries asked ends = absurd carries
served laws u block stage after (f ∷ fs) steps replies end [] w behind es e sound script carries asked ends = absurd carries
served laws u block stage after (f ∷ fs) steps replies end (r ∷ rs) w behind es e sound (now, did, others, more, does, all, sent, script) carries asked ends =
    let x = split w did.steps others es behind (subst (λ (ss : List Step). AskedAlone w ss es behind) all asked) in
    let handled = frame-handled laws u block now stage f did r w x.mid x.first e sound does carries.0 x.before ends in
    subst (λ (l : List entries.Entry). Tells u w e (r ∷ rs) replies after end l behind) (sym x.all)
    (subst (λ (l : List Frame). Tells u w e (r ∷ rs) l after end (x.first ++ x.rest) behind) (sym sent)
    (first-served u r now did w x.mid behind x.first x.rest e rs more after end handled
    (rest-served u block did (handles (machine u) w now (wish_by did.steps x.first) e e.number r.1) rs fs others more after end did.end x.rest x.mid behind
    (λ e' w' sound' s a i. served laws u block did.stage after fs others more end rs w' behind x.rest e' sound' s carries.1 a i)
    (alone-sound laws.keeps w did.steps x.first x.mid sound x.before)
    carries.1 x.later handled.world handled.comes script)))

pub scripts-served : Laws → ScriptsAreServed
unfolding Tells
scripts-served laws u block stage after frames steps replies end requests w behind es e sound script carries asked ends =
    served laws u block stage after frames steps replies end requests w behind es e sound script carries asked ends
