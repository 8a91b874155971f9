-- What a wire asks, where nobody else does.
use Rattle.std.proofs.Common.{◌≡◌, ◌∙◌, inl, inr, refl, sym, ap, subst, ℕ, Bool, true, false, List, [], ◌∷◌, ◌++◌, Option, Some, None, append-nil}
use Rattle.std.specs.Prelude.{length, MatchOption}
use Rattle.std.proofs.lemmas.Bool.{and_from, le-leb}
use Rattle.afp_base.specs.Limits.{payload_limit}
use Rattle.afp_base.specs.declared.ids.LinkNumber.{LinkNumber}
use Rattle.afp_serial.specs.Shown.{IsSoundShown, Shown}
use Rattle.afp_serial.specs.Went.{Step, Went}
use Rattle.afp_serial.specs.World.{World}
use Rattle.afp_serial.specs.declared.ask.Ask as serial
use Rattle.afp_serial.specs.declared.ask.Entry as entries
use Rattle.afp_serial.specs.declared.ask.Told as tolds
use Rattle.afp_serial.specs.declared.ask.Told.TheVariants as told
use Rattle.afp_server.specs.link.Did.{Did}
use Rattle.afp_server.specs.link.LinkRun.{Parts}
use Rattle.afp_server.specs.link.OpenSession.{OpensSession}
use Rattle.afp_server.specs.link.Script.{FrameDoes, FreshDoes, OpenDoes, ReplyDoes, Script}
use Rattle.afp_server.specs.link.Wire as wires
use Rattle.afp_server.specs.declared.link.stage.FrameEnd.{FrameEnd}
use Rattle.afp_server.specs.declared.link.stage.Stage.{Stage}
use Rattle.afp_server.specs.declared.link.stage.Stage.TheVariants as stages
use Rattle.afp_server.specs.declared.link.wire.WireEnd.{WireEnd}
use Rattle.afp_server.specs.declared.link.wire.WireEnd.TheVariants as wire_ends
use Rattle.dsi_frame.specs.Buffered.{Buffered}
use Rattle.dsi_frame.specs.Frame.{Frame, IsGood, WordFits}
use Rattle.dsi_frame.specs.Stream.{Spelled}
use Rattle.dsi_frame.specs.declared.frame.DsiCommand.{DsiCommand}
use Rattle.dsi_frame.specs.declared.frame.DsiCommand.TheVariants as commands
use Rattle.once_across_breaks_code.specs.server.Among.{AllCarried, is_carried_ask}
use Rattle.once_across_breaks_code.specs.server.Asked.{AskedAlone, AskedBy, AsksAlone, BecomesEntry, SoleTellersAreAskedAlone, world_of}
use Rattle.once_across_breaks_code.specs.server.Fed.{CarriedSince}

-- ---- steps that a frame can carry

abbrev pub StepsCarried : List Step → Type 0
StepsCarried [] = Unit {0}
StepsCarried (s ∷ ss) = (is_carried_ask s.ask ≡ true) × StepsCarried ss

steps-append : (xs ys : List Step) → StepsCarried xs → StepsCarried ys → StepsCarried (xs ++ ys)
steps-append [] ys p q = q
steps-append (x ∷ xs) ys p q = (p.0, steps-append xs ys p.1 q)

carried-append : (xs ys : List entries.Entry) → AllCarried xs → AllCarried ys → AllCarried (xs ++ ys)
carried-append [] ys p q = q
carried-append (x ∷ xs) ys p q = (p.0, carried-append xs ys p.1 q)

becomes-carried : (w : World) (s : Step) (es : List entries.Entry) (behind : World) → BecomesEntry w s es behind → is_carried_ask s.ask ≡ true → AllCarried es
becomes-carried w s es behind (e, all, is) fits =
    subst AllCarried (sym all) (subst (λ (a : serial.Ask). is_carried_ask a ≡ true) (sym (ap (λ (x : entries.Entry). x.ask) is.is)) fits, tt)

step-carried : (w : World) (s : Step) (t : tolds.Told) (es : List entries.Entry) (behind : World) → AskedBy w s t es behind → is_carried_ask s.ask ≡ true → AllCarried es
step-carried w s (told.Opened link) es behind b fits = becomes-carried w s es behind b fits
step-carried w s (told.Reply code block ends) es behind b fits = becomes-carried w s es behind b fits
step-carried w s (told.Live drain) es behind b fits = becomes-carried w s es behind b fits
step-carried w s told.Done es behind b fits = becomes-carried w s es behind b fits
step-carried w s told.Displaced es behind b fits = becomes-carried w s es behind b fits
step-carried w s told.Memory es behind (none, same) fits = subst AllCarried (sym none) tt

alone-carried : (w : World) (ss : List Step) (es : List entries.Entry) (behind : World) → AskedAlone w ss es behind → StepsCarried ss → AllCarried es
alone-carried w [] es behind (none, same) fits = subst AllCarried (sym none) tt
alone-carried w (s ∷ ss) es behind (first, rest, mid, asked, later, all) fits =
    subst AllCarried (sym all) (carried-append first rest (step-carried w s s.told first mid asked fits.0) (alone-carried mid ss rest behind later fits.1))

pub same-rest : (xs ys zs : List entries.Entry) → xs ++ ys ≡ xs ++ zs → ys ≡ zs
same-rest [] ys zs e = e
same-rest (x ∷ xs) ys zs e = let f : xs ++ ys ≡ xs ++ zs = cc in same-rest xs ys zs f

-- all that a teller was asked that nobody else asks
pub carried-alone : SoleTellersAreAskedAlone → (a b : Shown) (ss : List Step) → IsSoundShown b → AsksAlone a → AsksAlone b → Went a ss b → StepsCarried ss → CarriedSince a b
carried-alone sole a b ss sound first last went fits more history =
    subst AllCarried (same-rest a.history went.between more (sym went.history ∙ history)) (alone-carried (world_of a) ss went.between (world_of b) (sole a b ss sound.lawful first last went) fits)

pub nothing-since : (a b : Shown) → b ≡ a → CarriedSince a b
nothing-since a b same more history =
    let e : a.history ++ [] ≡ a.history ++ more = append-nil a.history ∙ sym (ap (λ (x : Shown). x.history) same) ∙ history in
    subst AllCarried (same-rest a.history [] more e) tt

-- ---- what a frame asks

no-steps : (did other : Did) → did ≡ other → other.steps ≡ [] → StepsCarried did.steps
no-steps did other is none = subst StepsCarried (sym (ap (λ (d : Did). d.steps) is ∙ none)) tt

reply-asks : (c : DsiCommand) (stage : Stage) (did : Did) → ReplyDoes c stage did → StepsCarried did.steps
reply-asks commands.Attention stage did is = no-steps did _ is refl
reply-asks commands.GetStatus stage did is = no-steps did _ is refl
reply-asks commands.OpenSession stage did is = no-steps did _ is refl
reply-asks commands.Command stage did is = no-steps did _ is refl
reply-asks commands.Write stage did is = no-steps did _ is refl
reply-asks commands.Tickle stage did is = no-steps did _ is refl
reply-asks commands.CloseSession stage did is = no-steps did _ is refl

opens-asks : (now : ℕ) (f : Frame) (did : Did) → OpensSession now f did → StepsCarried did.steps
opens-asks now f did (inl o) = subst StepsCarried (sym o.steps) (refl, (refl, tt))
opens-asks now f did (inr r) = no-steps did _ r.is refl

fresh-asks : (block : List ℕ) (now : ℕ) (c : DsiCommand) (f : Frame) (did : Did) → FreshDoes block now c f did → StepsCarried did.steps
fresh-asks block now commands.GetStatus f did is = no-steps did _ is refl
fresh-asks block now commands.OpenSession f did is = opens-asks now f did is
fresh-asks block now commands.Command f did is = no-steps did _ is refl
fresh-asks block now commands.Write f did is = no-steps did _ is refl
fresh-asks block now commands.Tickle f did is = no-steps did _ is refl
fresh-asks block now commands.CloseSession f did is = no-steps did _ is refl
fresh-asks block now commands.Attention f did is = no-steps did _ is refl

word-within : (f : Frame) (b : Bool) (c : DsiCommand) → f.reply ≡ b → f.command ≡ c → IsGood f → WordFits b c f.word (length f.payload)
word-within f b c reply command good = subst (λ (x : Bool). WordFits x c f.word (length f.payload)) reply (subst (λ (x : DsiCommand). WordFits f.reply x f.word (length f.payload)) command good.offset)

open-asks : (block : List ℕ) (now : ℕ) (link : LinkNumber) (c : DsiCommand) (f : Frame) (did : Did) → f.reply ≡ false → f.command ≡ c → IsGood f → OpenDoes block now link c f did → StepsCarried did.steps
open-asks block now link commands.GetStatus f did reply command good is = no-steps did _ is refl
open-asks block now link commands.OpenSession f did reply command good is = no-steps did _ is refl
open-asks block now link commands.Command f did reply command good x = subst StepsCarried (sym x.steps) (and_from _ true (le-leb (length f.payload) payload_limit good.payload) refl, tt)
open-asks block now link commands.Write f did reply command good x =
    subst StepsCarried (sym x.steps) (and_from _ _ (le-leb (length f.payload) payload_limit good.payload) (le-leb f.word (length f.payload) (word-within f false commands.Write reply command good)), tt)
open-asks block now link commands.Tickle f did reply command good is = no-steps did _ is refl
open-asks block now link commands.CloseSession f did reply command good x = subst StepsCarried (sym (ap (λ (d : Did). d.steps) x.is)) (refl, tt)
open-asks block now link commands.Attention f did reply command good is = no-steps did _ is refl

frame-asks : (block : List ℕ) (now : ℕ) (stage : Stage) (reply : Bool) (f : Frame) (did : Did) → f.reply ≡ reply → IsGood f → FrameDoes block now stage reply f did → StepsCarried did.steps
frame-asks block now stages.Closing reply f did is good does = absurd does
frame-asks block now stages.Fresh true f did is good does = reply-asks f.command stages.Fresh did does
frame-asks block now stages.Fresh false f did is good does = fresh-asks block now f.command f did does
frame-asks block now (stages.Open link) true f did is good does = reply-asks f.command (stages.Open link) did does
frame-asks block now (stages.Open link) false f did is good does = open-asks block now link f.command f did is refl good does

abbrev AllGood : List Frame → Type 0
AllGood [] = Unit {0}
AllGood (f ∷ fs) = IsGood f × AllGood fs

others-ask : (block : List ℕ) (did : Did) (frames : List Frame) (end last : Option FrameEnd) (others : List Step) (more : List Frame) (after : Stage)
    → (Script block did.stage frames others more after last → StepsCarried others)
    → MatchOption end (Script block did.stage frames others more after last) (λ e. (frames ≡ []) × (others ≡ []) × (more ≡ []) × (after ≡ did.stage) × (last ≡ Some e))
    → StepsCarried others
others-ask block did frames None last others more after next m = next m
others-ask block did frames (Some e) last others more after next m = subst StepsCarried (sym m.1) tt

script-asks : (block : List ℕ) (stage : Stage) (frames : List Frame) (steps : List Step) (replies : List Frame) (after : Stage) (end : Option FrameEnd) → Script block stage frames steps replies after end → AllGood frames → StepsCarried steps
script-asks block stage [] steps replies after end (none, silent, stays, goes_on) good = subst StepsCarried (sym none) tt
script-asks block stage (f ∷ frames) steps replies after end (now, did, others, more, does, asked, says, rest) good =
    subst StepsCarried (sym asked) (steps-append did.steps others (frame-asks block now stage f.reply f did refl good.0 does)
    (others-ask block did frames did.end end others more after (λ s. script-asks block did.stage frames others more after end s good.1) rest))

-- ---- what a piece asks

spelled-good : (bytes : List ℕ) (xs ys : List Frame) → Spelled bytes (xs ++ ys) → AllGood ys
spelled-good bytes [] [] s = tt
spelled-good bytes [] (y ∷ ys) (first, rest, whole, is, later) = (is.good, spelled-good rest [] ys later)
spelled-good bytes (x ∷ xs) ys (first, rest, whole, is, later) = spelled-good rest xs ys later

good-append : (xs : List Frame) (y : Frame) → AllGood xs → IsGood y → AllGood (xs ++ y ∷ [])
good-append [] y p q = (q, tt)
good-append (x ∷ xs) y p q = (p.0, good-append xs y p.1 q)

pub record AsksOfFrames (start : wires.FeedStart) (p : wires.FeedPoint) : Type 0 where
  pub steps : List Step
  pub carried : StepsCarried steps
  pub went : Went start.shown steps p.shown

asks-of : (start : wires.FeedStart) (frames : List Frame) (end : Option FrameEnd) (p : wires.FeedPoint) → wires.Handled start frames end p → AllGood frames → AsksOfFrames start p
asks-of start frames end p h good = record { steps = h.steps; carried = script-asks start.block start.stage frames h.steps h.replies p.stage end h.script good; went = h.went }

pub feeds-ask : (start : wires.FeedStart) (bytes : List ℕ) (result : Option WireEnd) (held : Buffered) (p : wires.FeedPoint) → wires.Feeds start bytes result held p → AsksOfFrames start p
feeds-ask start bytes None held p (f, unfinished) = asks-of start f.frames None p f.handled (spelled-good f.given.filled start.past f.frames f.given.spelled)
feeds-ask start bytes (Some wire_ends.Closed) held p f = asks-of start f.frames _ p f.handled (spelled-good f.fills.filled start.past f.frames f.fills.spelled)
feeds-ask start bytes (Some wire_ends.Displaced) held p f = asks-of start f.frames _ p f.handled (spelled-good f.fills.filled start.past f.frames f.fills.spelled)
feeds-ask start bytes (Some (wire_ends.Bad b)) held p (inl f) = asks-of start f.frames None p f.handled (spelled-good f.stopped.filled start.past f.frames f.stopped.spelled)
feeds-ask start bytes (Some (wire_ends.Bad b)) held p (inr f) = asks-of start _ _ p f.handled (good-append f.before f.last (spelled-good f.fills.filled start.past f.before f.fills.spelled) f.begins.spelling.good)
feeds-ask start bytes (Some wire_ends.Memory) held p f = asks-of start f.frames None p f.handled (spelled-good f.fills.filled start.past f.frames f.fills.spelled)

-- ---- and the end of a link

pub parts-ask : (stage : Stage) (now : ℕ) (steps : List Step) → Parts stage now steps → StepsCarried steps
parts-ask stages.Fresh now steps none = subst StepsCarried (sym none) tt
parts-ask (stages.Open link) now steps (answer, is) = subst StepsCarried (sym is) (refl, tt)
parts-ask stages.Closing now steps none = subst StepsCarried (sym none) tt
