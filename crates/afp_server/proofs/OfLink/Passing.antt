-- Which calls go through the gate, from one step to the next.
use Rattle.std.proofs.Common.{◌≡◌, ℕ, ◌≤◌, Bool, true, false, List, [], ◌∷◌, ◌++◌, length, inl, inr, refl, sym, ap, ◌∙◌, append_assoc, append-nil, arith}
use Rattle.std.specs.Prelude.{Option, Some, None}
use Rattle.std.specs.Option.{option_to_list}
use Rattle.afp_base.specs.declared.ids.LinkNumber.{LinkNumber}
use Rattle.afp_outside.specs.ends.Gate.{Passed, with_entered, with_exited}
use Rattle.afp_serial.specs.Went.{Step}
use Rattle.dsi_frame.specs.Frame.{Frame, header_of}
use Rattle.dsi_frame.specs.declared.frame.Header.{Header}
use Rattle.dsi_frame.specs.declared.frame.DsiCommand.{DsiCommand}
use Rattle.dsi_frame.specs.declared.frame.DsiCommand.TheVariants.{CloseSession, Command, GetStatus, OpenSession, Tickle, Write, Attention}
use Rattle.afp_server.specs.link.Did.{Did}
use Rattle.afp_server.specs.link.LinkRun.{Parts}
use Rattle.afp_server.specs.link.OpenSession.{OpensSession}
use Rattle.afp_server.specs.link.Passing.{called_on, calls_in, GoThrough, all_passed}
use Rattle.afp_server.specs.link.lemma.Passing.{call_link}
use Rattle.afp_server.specs.link.Script.{FreshDoes, OpenDoes, ReplyDoes, FrameDoes, Does}
use Rattle.afp_server.specs.link.Requests.{Requests}
use Rattle.afp_server.specs.link.Trace.{Cause, closed, displaced, bad, silent, drained, unwritten, Idled, IdlesOn, Idles}
use Rattle.afp_server.specs.declared.link.serve.LinkEnd.{LinkEnd}
use Rattle.afp_server.specs.declared.link.serve.LinkEnd.TheVariants as ends
use Rattle.afp_server.specs.declared.link.stage.Stage.{Stage}
use Rattle.afp_server.specs.declared.link.stage.Stage.TheVariants.{Fresh, Open, Closing}

pub calls_in-append : (steps more : List Step) → calls_in (steps ++ more) ≡ calls_in steps ++ calls_in more
calls_in-append [] more = refl
calls_in-append (s ∷ steps) more =
    ap (λ (l : List LinkNumber). called_on s.link s.ask ++ l) (calls_in-append steps more) ∙ sym (append_assoc (called_on s.link s.ask) (calls_in steps) (calls_in more))

-- what a frame asks is a call just where it is one

opens-calls : (now : ℕ) (f : Frame) (did : Did) → OpensSession now f did → calls_in did.steps ≡ []
opens-calls now f did row = elim row [ inl o ↦ ap calls_in o.steps | inr r ↦ ap (λ (d : Did). calls_in d.steps) r.is ]

fresh-calls : (block : List ℕ) (now : ℕ) (c : DsiCommand) (f : Frame) (did : Did) → FreshDoes block now c f did → calls_in did.steps ≡ []
fresh-calls block now GetStatus f did row = ap (λ (d : Did). calls_in d.steps) row
fresh-calls block now OpenSession f did row = opens-calls now f did row
fresh-calls block now Command f did row = ap (λ (d : Did). calls_in d.steps) row
fresh-calls block now Write f did row = ap (λ (d : Did). calls_in d.steps) row
fresh-calls block now Tickle f did row = ap (λ (d : Did). calls_in d.steps) row
fresh-calls block now CloseSession f did row = ap (λ (d : Did). calls_in d.steps) row
fresh-calls block now Attention f did row = ap (λ (d : Did). calls_in d.steps) row

open-calls : (block : List ℕ) (now : ℕ) (link : LinkNumber) (c : DsiCommand) (f : Frame) (did : Did) → OpenDoes block now link c f did → calls_in did.steps ≡ option_to_list (call_link false (Open link) c)
open-calls block now link GetStatus f did row = ap (λ (d : Did). calls_in d.steps) row
open-calls block now link OpenSession f did row = ap (λ (d : Did). calls_in d.steps) row
open-calls block now link Command f did row = ap calls_in row.steps
open-calls block now link Write f did row = ap calls_in row.steps
open-calls block now link Tickle f did row = ap (λ (d : Did). calls_in d.steps) row
open-calls block now link CloseSession f did row = ap (λ (d : Did). calls_in d.steps) row.is
open-calls block now link Attention f did row = ap (λ (d : Did). calls_in d.steps) row

reply-calls : (c : DsiCommand) (stage : Stage) (did : Did) → ReplyDoes c stage did → calls_in did.steps ≡ []
reply-calls Attention stage did row = ap (λ (d : Did). calls_in d.steps) row
reply-calls GetStatus stage did row = ap (λ (d : Did). calls_in d.steps) row
reply-calls OpenSession stage did row = ap (λ (d : Did). calls_in d.steps) row
reply-calls Command stage did row = ap (λ (d : Did). calls_in d.steps) row
reply-calls Write stage did row = ap (λ (d : Did). calls_in d.steps) row
reply-calls Tickle stage did row = ap (λ (d : Did). calls_in d.steps) row
reply-calls CloseSession stage did row = ap (λ (d : Did). calls_in d.steps) row

frame-calls : (block : List ℕ) (now : ℕ) (stage : Stage) (reply : Bool) (f : Frame) (did : Did) → FrameDoes block now stage reply f did → calls_in did.steps ≡ option_to_list (call_link reply stage f.command)
frame-calls block now Closing reply f did row = absurd row
frame-calls block now Fresh true f did row = reply-calls f.command Fresh did row
frame-calls block now Fresh false f did row = fresh-calls block now f.command f did row
frame-calls block now (Open link) true f did row = reply-calls f.command (Open link) did row
frame-calls block now (Open link) false f did row = open-calls block now link f.command f did row

pub does-calls : (block : List ℕ) (now : ℕ) (stage : Stage) (f : Frame) (did : Did) → Does block now stage f did → calls_in did.steps ≡ option_to_list (call_link f.reply stage f.command)
does-calls block now stage f did row = frame-calls block now stage f.reply f did row

-- a quiet asks no call, and the end of a link asks none

idles_on-calls : (now : ℕ) (stage : Stage) (a : Requests) (idled : Idled) → IdlesOn now stage a idled → calls_in idled.steps ≡ []
idles_on-calls now Fresh a idled r = ap (λ (x : Idled). calls_in x.steps) r
idles_on-calls now (Open link) a idled r = ap (λ (x : Idled). calls_in x.steps) r.is
idles_on-calls now Closing a idled r = absurd r

pub idles-calls : (last_read now : ℕ) (stage : Stage) (a : Requests) (idled : Idled) (why : Option Cause) → Idles last_read now stage a idled why → calls_in idled.steps ≡ []
idles-calls last_read now stage a idled (Some silent) r = ap (λ (x : Idled). calls_in x.steps) r.1
idles-calls last_read now stage a idled (Some displaced) r = ap (λ (x : Idled). calls_in x.steps) r.1.is
idles-calls last_read now stage a idled (Some drained) r = ap (λ (x : Idled). calls_in x.steps) r.1.is
idles-calls last_read now stage a idled (Some unwritten) r = ap (λ (x : Idled). calls_in x.steps) r.1.is
idles-calls last_read now stage a idled None r = idles_on-calls now stage a idled r.1
idles-calls last_read now stage a idled (Some closed) r = absurd r
idles-calls last_read now stage a idled (Some (bad reason)) r = absurd r

pub parts-calls : (stage : Stage) (now : ℕ) (steps : List Step) → Parts stage now steps → calls_in steps ≡ []
parts-calls Fresh now steps p = ap calls_in p
parts-calls (Open link) now steps p = ap calls_in p.1
parts-calls Closing now steps p = ap calls_in p

-- in, and out again

both : (p : Passed) (called : Option LinkNumber) → with_exited (with_entered p called) called ≡ record { entered = p.entered ++ option_to_list called; exited = p.exited ++ option_to_list called }
both p None = λ i. record { entered = sym (append-nil p.entered) i; exited = sym (append-nil p.exited) i }
both p (Some link) = refl

-- A frame was handled: the call that it is entered the gate, and left it.
pub record PassesFrame (old mid new : Passed) (called : Option LinkNumber) (did : Did) : Type 0 where
  pub enters : mid ≡ with_entered old called
  pub exits : new ≡ with_exited mid called
  pub calls : calls_in did.steps ≡ option_to_list called

pub passed-frame : (old mid new : Passed) (called : Option LinkNumber) (did : Did) (steps : List Step) → old ≡ all_passed steps → PassesFrame old mid new called did → new ≡ all_passed (steps ++ did.steps)
passed-frame old mid new called did steps all p =
    let lists : calls_in steps ++ option_to_list called ≡ calls_in (steps ++ did.steps) = ap (λ (l : List LinkNumber). calls_in steps ++ l) (sym p.calls) ∙ sym (calls_in-append steps did.steps) in
    p.exits ∙ ap (λ (m : Passed). with_exited m called) p.enters ∙ ap (λ (m : Passed). with_exited (with_entered m called) called) all ∙ both (all_passed steps) called
    ∙ (λ i. record { entered = lists i; exited = lists i })

-- steps without a call
pub passed-more : (passed : Passed) (steps more : List Step) → passed ≡ all_passed steps → calls_in more ≡ [] → passed ≡ all_passed (steps ++ more)
passed-more passed steps more all none =
    let lists : calls_in steps ≡ calls_in (steps ++ more) = sym (append-nil (calls_in steps)) ∙ ap (λ (l : List LinkNumber). calls_in steps ++ l) (sym none) ∙ sym (calls_in-append steps more) in
    all ∙ (λ i. record { entered = lists i; exited = lists i })

pub through-all : (answer : LinkEnd) (passed : Passed) (steps : List Step) → passed ≡ all_passed steps → GoThrough answer steps passed
through-all answer passed steps all = record {
  entered = ap (λ (p : Passed). p.entered) all;
  inside = [];
  exited = sym (append-nil passed.exited ∙ ap (λ (p : Passed). p.exited) all);
  most = omega arith;
  unwritten = λ n. refl;
}

one_call : (called : Option LinkNumber) → length (option_to_list called) ≤ 1
one_call None = omega arith
one_call (Some link) = omega arith

in_lists : (p : Passed) (called : Option LinkNumber) → with_entered p called ≡ record { entered = p.entered ++ option_to_list called; exited = p.exited }
in_lists p None = λ i. record { entered = sym (append-nil p.entered) i; exited = p.exited }
in_lists p (Some link) = refl

-- the reply could not be written
pub through-unwritten : (old mid : Passed) (called : Option LinkNumber) (did : Did) (steps : List Step) → old ≡ all_passed steps → mid ≡ with_entered old called → calls_in did.steps ≡ option_to_list called
    → GoThrough ends.WriteFault (steps ++ did.steps) mid
through-unwritten old mid called did steps all enters calls =
    let lists : calls_in steps ++ option_to_list called ≡ calls_in (steps ++ did.steps) = ap (λ (l : List LinkNumber). calls_in steps ++ l) (sym calls) ∙ sym (calls_in-append steps did.steps) in
    let now : mid ≡ record { entered = calls_in steps ++ option_to_list called; exited = calls_in steps } = enters ∙ ap (λ (m : Passed). with_entered m called) all ∙ in_lists (all_passed steps) called in
    record {
      entered = ap (λ (p : Passed). p.entered) now ∙ lists;
      inside = option_to_list called;
      exited = sym lists ∙ ap (λ (l : List LinkNumber). l ++ option_to_list called) (sym (ap (λ (p : Passed). p.exited) now));
      most = one_call called;
      unwritten = λ n. absurd (n refl);
    }

pub through-more : (answer : LinkEnd) (passed : Passed) (steps more : List Step) → GoThrough answer steps passed → calls_in more ≡ [] → GoThrough answer (steps ++ more) passed
through-more answer passed steps more t none =
    let lists : calls_in (steps ++ more) ≡ calls_in steps = calls_in-append steps more ∙ ap (λ (l : List LinkNumber). calls_in steps ++ l) none ∙ append-nil (calls_in steps) in
    record { entered = t.entered ∙ sym lists; inside = t.inside; exited = lists ∙ t.exited; most = t.most; unwritten = t.unwritten }

-- no call comes where no session is open
pub not_called : (reply : Bool) (stage : Stage) (kind : DsiCommand) → ((link : LinkNumber) → stage ≡ Open link → ⊥) → call_link reply stage kind ≡ None
not_called true stage kind fresh = refl
not_called false Fresh kind fresh = refl
not_called false Closing kind fresh = refl
not_called false (Open link) kind fresh = absurd (fresh link refl)

pub unpassed : (p : Passed) (called : Option LinkNumber) → called ≡ None → p ≡ with_entered p called
unpassed p called none = ap (λ (o : Option LinkNumber). with_entered p o) (sym none)

-- the same call, told by the frame and by its header
pub called-is : (header : Header) (f : Frame) (stage : Stage) → header ≡ header_of f → call_link header.reply stage header.command ≡ call_link f.reply stage f.command
called-is header f stage is = ap (λ (h : Header). call_link h.reply stage h.command) is
