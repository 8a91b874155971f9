-- The reply that a request of the client is told, as what comes to it.
use Rattle.std.proofs.Common.{◌≡◌, ◌∙◌, inl, inr, refl, sym, ap, subst, ℕ, ◌≤◌, Bool, true, false, List, [], ◌∷◌, ◌++◌, Option, Some, None, arith, append-nil}
use Rattle.std.specs.Prelude.{map, length, MatchOption}
use Rattle.afp_serial.specs.Went.{Step}
use Rattle.afp_serial.specs.declared.ask.Told as tolds
use Rattle.afp_serial.specs.declared.ask.Told.TheVariants as told
use Rattle.afp_server.specs.link.Did.{Did}
use Rattle.afp_server.specs.link.OpenSession.{OpenTold, OpensSession}
use Rattle.afp_server.specs.link.Script.{FrameDoes, FreshDoes, OpenDoes, Script}
use Rattle.afp_server.specs.declared.link.stage.FrameEnd.{FrameEnd}
use Rattle.afp_server.specs.declared.link.stage.Stage.{Stage}
use Rattle.afp_server.specs.declared.link.stage.Stage.TheVariants as stages
use Rattle.dsi_frame.specs.Frame.{Frame}
use Rattle.dsi_frame.specs.Replies.{listed, spelling_of}
use Rattle.dsi_frame.specs.Frame.{canonical_frame}
use Rattle.dsi_frame.specs.declared.frame.DsiCommand.{DsiCommand}
use Rattle.dsi_frame.specs.declared.frame.DsiCommand.TheVariants as commands
use Rattle.volume_spec.specs.TypedVolume.{are_bytes}
use Rattle.once_across_breaks.specs.once.Bytes.{FitsRequest}
use Rattle.once_across_breaks.specs.once.Dsi.{reply_frame}
use Rattle.once_across_breaks.specs.once.Fits.{FitsBody, IsId}
use Rattle.once_across_breaks.specs.once.Frames.{AreToThat, End, Heard, HeardCall, HeardOpen, heard}
use Rattle.once_across_breaks.specs.once.Messages.{Answer, wire_id}
use Rattle.once_across_breaks.specs.once.Run.{Asks, Opens, Request}
use Rattle.once_across_breaks.specs.once.Serial.{Setup}
use Rattle.once_across_breaks.specs.once.UnderWay.{AllDown, RepliesAreGood}
use Rattle.once_across_breaks_code.specs.server.Among.{heard_reply, unnumbered}
use Rattle.once_across_breaks_code.specs.server.Ties.{IsEnd, reply_frames}
use Rattle.once_across_breaks_code.specs.run.Mirrors.{AreComing}
use Rattle.once_across_breaks_code.proofs.OfRun.Spelled.{payload-typed, reply-with}

-- ---- the reply to an OpenSession has its id

one-listed : (o : Option Frame) (f g : Frame) → o ≡ Some g → listed o ≡ f ∷ [] → f ≡ g
one-listed o f g is same = let e : g ∷ [] ≡ f ∷ [] = sym (ap listed is) ∙ same in cc

none-listed : (o : Option Frame) (f : Frame) → o ≡ None → listed o ≡ f ∷ [] → ⊥
none-listed o f is same = let e : [] ≡ f ∷ [] = sym (ap listed is) ∙ same in absurd (cc)

told-id : (g f : Frame) (t : tolds.Told) (reply : Option Frame) (stage : Stage) → OpenTold g t reply stage → listed reply ≡ f ∷ [] → f.id ≡ g.id
told-id g f (told.Opened link) reply stage (is, at_stage) same = ap (λ (x : Frame). x.id) (one-listed reply f _ is same)
told-id g f (told.Reply c block ends) reply stage (is, at_stage) same = ap (λ (x : Frame). x.id) (one-listed reply f _ is same)
told-id g f told.Memory reply stage (is, at_stage) same = ap (λ (x : Frame). x.id) (one-listed reply f _ is same)
told-id g f (told.Live drain) reply stage t same = absurd t
told-id g f told.Done reply stage t same = absurd t
told-id g f told.Displaced reply stage t same = absurd t

opens-id : (now : ℕ) (g f : Frame) (did : Did) → OpensSession now g did → listed did.reply ≡ f ∷ [] → f.id ≡ g.id
opens-id now g f did (inl o) same = told-id g f o.opened did.reply did.stage o.answer same
opens-id now g f did (inr r) same = ap (λ (x : Frame). x.id) (one-listed did.reply f _ (ap (λ (d : Did). d.reply) r.is) same)

frame-id : (block : List ℕ) (now : ℕ) (stage : Stage) (g f : Frame) (did : Did) → FrameDoes block now stage false g did → g.command ≡ commands.OpenSession → listed did.reply ≡ f ∷ [] → f.id ≡ g.id
frame-id block now stages.Fresh g f did does is same = opens-id now g f did (subst (λ (c : DsiCommand). FreshDoes block now c g did) is does) same
frame-id block now (stages.Open link) g f did does is same =
    let bad = subst (λ (c : DsiCommand). OpenDoes block now link c g did) is does in
    absurd (none-listed did.reply f (ap (λ (d : Did). d.reply) bad) same)
frame-id block now stages.Closing g f did does is same = absurd does

more-none : (block : List ℕ) (did : Did) (end last : Option FrameEnd) (others : List Step) (more : List Frame) (after : Stage)
    → MatchOption end (Script block did.stage [] others more after last) (λ e. (◌≡◌ {A = List Frame} [] []) × (others ≡ []) × (more ≡ []) × (after ≡ did.stage) × (last ≡ Some e)) → more ≡ []
more-none block did None last others more after m = m.1
more-none block did (Some e) last others more after m = m.2

pub script-id : (block : List ℕ) (stage after : Stage) (g f : Frame) (steps : List Step) (replies : List Frame) (end : Option FrameEnd) → Script block stage (g ∷ []) steps replies after end → g.reply ≡ false → g.command ≡ commands.OpenSession → replies ≡ f ∷ []
    → f.id ≡ g.id
script-id block stage after g f steps replies end (now, did, others, more, does, asked, says, rest) request is same =
    let none : more ≡ [] = more-none block did did.end end others more after rest in
    let said : listed did.reply ≡ f ∷ [] = sym (append-nil (listed did.reply)) ∙ ap (λ (l : List Frame). listed did.reply ++ l) (sym none) ∙ sym says ∙ same in
    frame-id block now stage g f did (subst (λ (b : Bool). FrameDoes block now stage b g did) request does) is said

-- ---- how far an OpenSession takes a link

-- a session is open, or the link stays as it was
abbrev pub IsOpenedTo : Stage → Type 0
IsOpenedTo stages.Fresh = Unit {0}
IsOpenedTo (stages.Open link) = Unit {0}
IsOpenedTo stages.Closing = ⊥

told-opened : (g : Frame) (t : tolds.Told) (reply : Option Frame) (stage : Stage) → OpenTold g t reply stage → IsOpenedTo stage
told-opened g (told.Opened link) reply stage (is, at_stage) = subst IsOpenedTo (sym at_stage) tt
told-opened g (told.Reply c block ends) reply stage (is, at_stage) = subst IsOpenedTo (sym at_stage) tt
told-opened g told.Memory reply stage (is, at_stage) = subst IsOpenedTo (sym at_stage) tt
told-opened g (told.Live drain) reply stage t = absurd t
told-opened g told.Done reply stage t = absurd t
told-opened g told.Displaced reply stage t = absurd t

opens-to : (now : ℕ) (g : Frame) (did : Did) → OpensSession now g did → (did.end ≡ None) × IsOpenedTo did.stage
opens-to now g did (inl o) = (o.end, told-opened g o.opened did.reply did.stage o.answer)
opens-to now g did (inr r) = (ap (λ (d : Did). d.end) r.is, subst (λ (d : Did). IsOpenedTo d.stage) (sym r.is) tt)

frame-opened : (block : List ℕ) (now : ℕ) (stage : Stage) (g : Frame) (did : Did) (e : End) → FrameDoes block now stage false g did → g.command ≡ commands.OpenSession → IsEnd stage e → e.number ≡ None → (did.end ≡ None) × IsOpenedTo did.stage
frame-opened block now stages.Fresh g did e does is there none = opens-to now g did (subst (λ (c : DsiCommand). FreshDoes block now c g did) is does)
frame-opened block now (stages.Open link) g did e does is there none = absurd (let f : Some link.0 ≡ None = sym there.0 ∙ none in cc)
frame-opened block now stages.Closing g did e does is there none = absurd does

nothing-more : (block : List ℕ) (did : Did) (end last : Option FrameEnd) (others : List Step) (more : List Frame) (after : Stage)
    → MatchOption end (Script block did.stage [] others more after last) (λ e. (◌≡◌ {A = List Frame} [] []) × (others ≡ []) × (more ≡ []) × (after ≡ did.stage) × (last ≡ Some e))
    → end ≡ None → (last ≡ None) × (after ≡ did.stage)
nothing-more block did None last others more after m is = (m.3, m.2)
nothing-more block did (Some e) last others more after m is = absurd (cc)

pub script-opened : (block : List ℕ) (stage after : Stage) (g : Frame) (steps : List Step) (replies : List Frame) (end : Option FrameEnd) → Script block stage (g ∷ []) steps replies after end → g.reply ≡ false → g.command ≡ commands.OpenSession
    → (e : End) → IsEnd stage e → e.number ≡ None → (end ≡ None) × IsOpenedTo after
script-opened block stage after g steps replies end (now, did, others, more, does, asked, says, rest) request is e there none =
    let f = frame-opened block now stage g did e (subst (λ (b : Bool). FrameDoes block now stage b g did) request does) is there none in
    let m = nothing-more block did did.end end others more after rest f.0 in
    (m.0, subst IsOpenedTo (sym m.1) f.1)

-- ---- the reply that is under way

-- what is read of it
record ReadOf (h : Heard) (a : Answer) (read : List ((ℕ × Heard) × Answer)) : Type 0 where
  n : ℕ
  is : read ≡ ((n, h), a) ∷ []

read-of : (h : Heard) (a : Answer) (read : List ((ℕ × Heard) × Answer)) → map unnumbered read ≡ (h, a) ∷ [] → ReadOf h a read
read-of h a [] same = absurd (cc)
read-of h a (x ∷ []) same =
    let e : unnumbered x ≡ (h, a) = cc in
    record { n = x.0.0; is = λ i. ((x.0.0, (e i).0), (e i).1) ∷ [] }
read-of h a (x ∷ y ∷ xs) same = absurd (cc)

-- a request fits by what is read of it
abbrev FitsHeard : Heard → Type 0
FitsHeard HeardOpen = Unit {0}
FitsHeard (HeardCall id body) = IsId id × FitsBody body

heard-fits : (r : Request) → FitsRequest r → FitsHeard (heard r)
heard-fits Opens fits = tt
heard-fits (Asks id body again) fits = fits

fits-heard : (r : Request) → FitsHeard (heard r) → FitsRequest r
fits-heard Opens fits = tt
fits-heard (Asks id body again) fits = fits

no-read : (l : List ((ℕ × Heard) × Answer)) → map unnumbered l ≡ [] → l ≡ []
no-read [] e = refl
no-read (x ∷ xs) e = absurd (cc)

-- The replies to the request r, of which at most one is told, are what comes to the client.
pub replies-come : RepliesAreGood → (u : Setup) (k : ℕ) (r : Request) (read : List ((ℕ × Heard) × Answer)) (told : List (Request × Answer)) (replies : List Frame) (before bytes : List ℕ)
    → length told ≤ 1
    → map unnumbered read ≡ map heard_reply told
    → replies ≡ reply_frames u read
    → AllDown told
    → FitsRequest r
    → AreToThat (Some (heard r)) told
    → ((f : Frame) → replies ≡ f ∷ [] → heard r ≡ HeardOpen → f.id ≡ wire_id k)
    → before ≡ []
    → bytes ≡ before ++ spelling_of replies
    → are_bytes bytes ≡ true
    → AreComing u k bytes told
replies-come good u k r read [] replies before bytes short same says down fits to_that numbered none is typed =
    let no : replies ≡ [] = says ∙ ap (reply_frames u) (no-read read same) in
    is ∙ (λ i. none i ++ spelling_of (no i))
replies-come good u k r read ((q, a) ∷ []) replies before bytes short same says down fits to_that numbered none is typed =
    let x = read-of (heard q) a read same in
    let heard_is : heard r ≡ heard q = let e : Some (heard r) ≡ Some (heard q) = to_that.0 in cc in
    let f : Frame = reply_frame u (x.n, heard q) a in
    let one : replies ≡ f ∷ [] = says ∙ ap (reply_frames u) x.is in
    let spelt : bytes ≡ canonical_frame f = is ∙ (λ i. none i ++ spelling_of (one i)) ∙ append-nil (canonical_frame f) in
    let fits_q : FitsRequest q = fits-heard q (subst FitsHeard heard_is (heard-fits r fits)) in
    (f, spelt, reply-with good u k x.n q a f fits_q down.0 refl (λ open_is. numbered f one (heard_is ∙ open_is)) (payload-typed f (subst (λ (l : List ℕ). are_bytes l ≡ true) spelt typed)))
replies-come good u k r read (x ∷ y ∷ xs) replies before bytes short same says down fits to_that numbered none is typed = absurd (omega (arith, short))
