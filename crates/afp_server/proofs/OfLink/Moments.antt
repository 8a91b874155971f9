-- What a frame does, at which moment, and that an end of the session closes the link.
use Rattle.std.proofs.Common.{◌≡◌, ℕ, Bool, true, false, List, [], ◌∷◌, All, refl, sym, subst, inl, inr}
use Rattle.std.proofs.lemmas.List.Elements.{All-nil, All-cons}
use Rattle.std.specs.Prelude.{Option, Some, None}
use Rattle.afp_base.specs.declared.ids.LinkNumber.{LinkNumber}
use Rattle.afp_serial.specs.declared.ask.Ask.{Ask}
use Rattle.afp_serial.specs.declared.ask.Ask.TheVariants as asks
use Rattle.afp_serial.specs.declared.ask.Told.{Told}
use Rattle.afp_serial.specs.declared.ask.Told.TheVariants as tells
use Rattle.afp_serial.specs.Went.{Step, step}
use Rattle.dsi_frame.specs.Frame.{Frame}
use Rattle.dsi_frame.specs.declared.frame.DsiCommand.{DsiCommand}
use Rattle.dsi_frame.specs.declared.frame.DsiCommand.TheVariants.{CloseSession, Command, GetStatus, OpenSession, Tickle, Write, Attention}
use Rattle.dsi_frame.specs.declared.frame.Reason.{Reason}
use Rattle.afp_server.specs.link.Calls.{CallTold, AsksCall}
use Rattle.afp_server.specs.link.CloseSession.{closes}
use Rattle.afp_server.specs.link.Did.{Did, nothing, replies, is_bad}
use Rattle.dsi_session.specs.Options.{attention_of}
use Rattle.afp_server.specs.link.OpenSession.{OpensSession, no_link}
use Rattle.afp_server.specs.link.Script.{FreshDoes, OpenDoes, ReplyDoes, FrameDoes, Does}
use Rattle.afp_server.specs.declared.link.stage.FrameEnd.{FrameEnd}
use Rattle.afp_server.specs.declared.link.stage.FrameEnd.TheVariants as ends
use Rattle.afp_server.specs.declared.link.stage.Stage.{Stage}
use Rattle.afp_server.specs.declared.link.stage.Stage.TheVariants.{Fresh, Open, Closing}

-- an end of the session closes the link
abbrev pub ClosesBy : Option FrameEnd → Stage → Type 0
ClosesBy None stage = Unit {0}
ClosesBy (Some ends.Closed) stage = stage ≡ Closing
ClosesBy (Some ends.Displaced) stage = stage ≡ Closing
ClosesBy (Some (ends.Bad reason)) stage = Unit {0}

-- Each step is made at this moment, and an end of the session closes the link.
pub record IsTimely (now : ℕ) (did : Did) : Type 0 where
  pub moments : All (λ s. s.at ≡ now) did.steps
  pub closing : ClosesBy did.end did.stage

none_at : (now : ℕ) (steps : List Step) → steps ≡ [] → All (λ s. s.at ≡ now) steps
none_at now steps none = let P : List Step → Type 0 = λ ss. All (λ (s : Step). s.at ≡ now) ss in subst P (sym none) (All-nil (λ (s : Step). s.at ≡ now))

one_at : (now : ℕ) (link : LinkNumber) (ask : Ask) (told : Told) → All (λ s. s.at ≡ now) (step now link ask told ∷ [])
one_at now link ask told = All-cons (λ (s : Step). s.at ≡ now) (step now link ask told) [] refl (All-nil (λ (s : Step). s.at ≡ now))

timely-is : (now : ℕ) (did other : Did) → did ≡ other → IsTimely now other → IsTimely now did
timely-is now did other e t = subst (IsTimely now) (sym e) t

timely-nothing : (now : ℕ) (stage : Stage) → IsTimely now (nothing stage)
timely-nothing now stage = record { moments = none_at now [] refl; closing = tt }

timely-bad : (now : ℕ) (reason : Reason) (stage : Stage) → IsTimely now (is_bad reason stage)
timely-bad now reason stage = record { moments = none_at now [] refl; closing = tt }

timely-replies : (now : ℕ) (reply : Frame) (stage : Stage) → IsTimely now (replies reply stage)
timely-replies now reply stage = record { moments = none_at now [] refl; closing = tt }

timely-closes : (now : ℕ) (steps : List Step) → All (λ s. s.at ≡ now) steps → IsTimely now (closes steps)
timely-closes now steps at = record { moments = at; closing = refl }

call-closes : (f : Frame) (link : LinkNumber) (t : Told) (reply : Option Frame) (stage : Stage) (end : Option FrameEnd) → CallTold f link t reply stage end → ClosesBy end stage
call-closes f link (tells.Reply c block true) reply stage end told = subst (λ (e : Option FrameEnd). ClosesBy e stage) (sym told.2) told.1
call-closes f link (tells.Reply c block false) reply stage end told = subst (λ (e : Option FrameEnd). ClosesBy e stage) (sym told.2) tt
call-closes f link tells.Memory reply stage end told = subst (λ (e : Option FrameEnd). ClosesBy e stage) (sym told.2) tt
call-closes f link tells.Displaced reply stage end told = subst (λ (e : Option FrameEnd). ClosesBy e stage) (sym told.2) told.1
call-closes f link (tells.Opened other) reply stage end told = absurd told
call-closes f link (tells.Live drain) reply stage end told = absurd told
call-closes f link tells.Done reply stage end told = absurd told

timely-calls : (now : ℕ) (link : LinkNumber) (f : Frame) (asks : Ask) (did : Did) → AsksCall now link f asks did → IsTimely now did
timely-calls now link f asks did calls = record {
  moments = let P : List Step → Type 0 = λ ss. All (λ (s : Step). s.at ≡ now) ss in subst P (sym calls.steps) (one_at now link asks calls.answer);
  closing = call-closes f link calls.answer did.reply did.stage did.end calls.told;
}

timely-opens : (now : ℕ) (f : Frame) (did : Did) → OpensSession now f did → IsTimely now did
timely-opens now f did opens = elim opens [
  | inl o ↦ record {
    moments = let P : List Step → Type 0 = λ ss. All (λ (s : Step). s.at ≡ now) ss in
        subst P (sym o.steps) (All-cons (λ (s : Step). s.at ≡ now) (step now no_link asks.Pulse o.pulsed) (step now no_link (asks.Open (attention_of o.options)) o.opened ∷ []) refl (one_at now no_link (asks.Open (attention_of o.options)) o.opened));
    closing = subst (λ (e : Option FrameEnd). ClosesBy e did.stage) (sym o.end) tt;
  }
  | inr r ↦ timely-is now did _ r.is (timely-replies now _ Fresh)
]

timely-reply : (now : ℕ) (command : DsiCommand) (stage : Stage) (did : Did) → ReplyDoes command stage did → IsTimely now did
timely-reply now Attention stage did is = timely-is now did _ is (timely-nothing now stage)
timely-reply now GetStatus stage did is = timely-is now did _ is (timely-bad now _ stage)
timely-reply now OpenSession stage did is = timely-is now did _ is (timely-bad now _ stage)
timely-reply now Command stage did is = timely-is now did _ is (timely-bad now _ stage)
timely-reply now Write stage did is = timely-is now did _ is (timely-bad now _ stage)
timely-reply now Tickle stage did is = timely-is now did _ is (timely-bad now _ stage)
timely-reply now CloseSession stage did is = timely-is now did _ is (timely-bad now _ stage)

timely-fresh : (block : List ℕ) (now : ℕ) (command : DsiCommand) (f : Frame) (did : Did) → FreshDoes block now command f did → IsTimely now did
timely-fresh block now GetStatus f did is = timely-is now did _ is (timely-replies now _ Fresh)
timely-fresh block now OpenSession f did is = timely-opens now f did is
timely-fresh block now Command f did is = timely-is now did _ is (timely-bad now _ Fresh)
timely-fresh block now Write f did is = timely-is now did _ is (timely-bad now _ Fresh)
timely-fresh block now Tickle f did is = timely-is now did _ is (timely-nothing now Fresh)
timely-fresh block now CloseSession f did is = timely-is now did _ is (timely-closes now [] (none_at now [] refl))
timely-fresh block now Attention f did is = timely-is now did _ is (timely-bad now _ Fresh)

timely-open : (block : List ℕ) (now : ℕ) (link : LinkNumber) (command : DsiCommand) (f : Frame) (did : Did) → OpenDoes block now link command f did → IsTimely now did
timely-open block now link GetStatus f did is = timely-is now did _ is (timely-replies now _ (Open link))
timely-open block now link OpenSession f did is = timely-is now did _ is (timely-bad now _ (Open link))
timely-open block now link Command f did is = timely-calls now link f _ did is
timely-open block now link Write f did is = timely-calls now link f _ did is
timely-open block now link Tickle f did is = timely-is now did _ is (timely-nothing now (Open link))
timely-open block now link CloseSession f did is = timely-is now did _ is.is (timely-closes now _ (one_at now link _ is.answer))
timely-open block now link Attention f did is = timely-is now did _ is (timely-bad now _ (Open link))

timely-frame : (block : List ℕ) (now : ℕ) (stage : Stage) (reply : Bool) (f : Frame) (did : Did) → FrameDoes block now stage reply f did → IsTimely now did
timely-frame block now Closing reply f did is = absurd is
timely-frame block now Fresh true f did is = timely-reply now f.command Fresh did is
timely-frame block now Fresh false f did is = timely-fresh block now f.command f did is
timely-frame block now (Open link) true f did is = timely-reply now f.command (Open link) did is
timely-frame block now (Open link) false f did is = timely-open block now link f.command f did is

pub does-timely : (block : List ℕ) (now : ℕ) (stage : Stage) (f : Frame) (did : Did) → Does block now stage f did → IsTimely now did
does-timely block now stage f did is = timely-frame block now stage f.reply f did is
