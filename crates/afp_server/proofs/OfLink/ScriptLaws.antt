-- What happens follows the script.
use Rattle.std.proofs.Common.{◌≡◌, ℕ, Bool, true, false, List, [], ◌∷◌, ◌++◌, refl, sym, ap, ◌∙◌, subst, inl, inr}
use Rattle.std.specs.Prelude.{Option, Some, None, option_map, MatchOption}
use Rattle.afp_base.specs.declared.ids.LinkNumber.{LinkNumber}
use Rattle.afp_serial.specs.declared.ask.Told.{Told}
use Rattle.afp_serial.specs.declared.ask.Told.TheVariants as tells
use Rattle.afp_serial.specs.Went.{Step}
use Rattle.dsi_frame.specs.Frame.{Frame}
use Rattle.dsi_frame.specs.declared.frame.DsiCommand.{DsiCommand}
use Rattle.dsi_frame.specs.declared.frame.DsiCommand.TheVariants.{CloseSession, Command, GetStatus, OpenSession, Tickle, Write, Attention}
use Rattle.afp_server.specs.link.Calls.{CallTold}
use Rattle.afp_server.specs.link.Complete.{ScriptEnds, IsScripted}
use Rattle.afp_server.specs.link.Did.{Did}
use Rattle.afp_server.specs.link.OpenSession.{OpenTold, OpensSession}
use Rattle.dsi_frame.specs.Replies.{listed, only_replies}
use Rattle.afp_server.specs.link.Script.{FreshDoes, OpenDoes, ReplyDoes, FrameDoes, Does, Script}
use Rattle.afp_server.specs.link.Requests.{Requests}
use Rattle.afp_server.specs.link.Trace.{Happening, received, was_quiet, handled, frames_in, replies_in, sent_in, frame_steps_in, Standing, Cause, closed, displaced, bad, silent, drained, unwritten, cause_of, Idled, IdlesOn, Idles, Follows}
use Rattle.afp_server.proofs.OfLink.Requesting.{idles-asked, only_replies-request}
use Rattle.afp_server.specs.declared.link.stage.FrameEnd.{FrameEnd}
use Rattle.afp_server.specs.declared.link.stage.FrameEnd.TheVariants as ends
use Rattle.afp_server.specs.declared.link.stage.Stage.{Stage}
use Rattle.afp_server.specs.declared.link.stage.Stage.TheVariants.{Fresh, Open, Closing}

-- what is written for a frame is a reply
abbrev pub IsReply : Option Frame → Type 0
IsReply None = Unit {0}
IsReply (Some f) = f.reply ≡ true

at_did : (d e : Did) → d ≡ e → IsReply e.reply → IsReply d.reply
at_did d e is r = subst (λ (x : Did). IsReply x.reply) (sym is) r

open_told-reply : (f : Frame) (t : Told) (o : Option Frame) (stage : Stage) → OpenTold f t o stage → IsReply o
open_told-reply f (tells.Opened link) o stage t = subst IsReply (sym t.0) refl
open_told-reply f (tells.Reply c block e) o stage t = subst IsReply (sym t.0) refl
open_told-reply f tells.Memory o stage t = subst IsReply (sym t.0) refl
open_told-reply f (tells.Live drain) o stage t = absurd t
open_told-reply f tells.Done o stage t = absurd t
open_told-reply f tells.Displaced o stage t = absurd t

call_told-reply : (f : Frame) (link : LinkNumber) (t : Told) (o : Option Frame) (stage : Stage) (end : Option FrameEnd) → CallTold f link t o stage end → IsReply o
call_told-reply f link (tells.Reply c block true) o stage end t = subst IsReply (sym t.0) refl
call_told-reply f link (tells.Reply c block false) o stage end t = subst IsReply (sym t.0) refl
call_told-reply f link tells.Memory o stage end t = subst IsReply (sym t.0) refl
call_told-reply f link tells.Displaced o stage end t = subst IsReply (sym t.0) tt
call_told-reply f link (tells.Opened other) o stage end t = absurd t
call_told-reply f link (tells.Live drain) o stage end t = absurd t
call_told-reply f link tells.Done o stage end t = absurd t

opens-reply : (now : ℕ) (f : Frame) (did : Did) → OpensSession now f did → IsReply did.reply
opens-reply now f did row = elim row [
  | inl o ↦ open_told-reply f o.opened did.reply did.stage o.answer
  | inr r ↦ at_did did _ r.is refl
]

fresh-reply : (block : List ℕ) (now : ℕ) (c : DsiCommand) (f : Frame) (did : Did) → FreshDoes block now c f did → IsReply did.reply
fresh-reply block now GetStatus f did row = at_did did _ row refl
fresh-reply block now OpenSession f did row = opens-reply now f did row
fresh-reply block now Command f did row = at_did did _ row tt
fresh-reply block now Write f did row = at_did did _ row tt
fresh-reply block now Tickle f did row = at_did did _ row tt
fresh-reply block now CloseSession f did row = at_did did _ row tt
fresh-reply block now Attention f did row = at_did did _ row tt

open-reply : (block : List ℕ) (now : ℕ) (link : LinkNumber) (c : DsiCommand) (f : Frame) (did : Did) → OpenDoes block now link c f did → IsReply did.reply
open-reply block now link GetStatus f did row = at_did did _ row refl
open-reply block now link OpenSession f did row = at_did did _ row tt
open-reply block now link Command f did row = call_told-reply f link row.answer did.reply did.stage did.end row.told
open-reply block now link Write f did row = call_told-reply f link row.answer did.reply did.stage did.end row.told
open-reply block now link Tickle f did row = at_did did _ row tt
open-reply block now link CloseSession f did row = at_did did _ row.is tt
open-reply block now link Attention f did row = at_did did _ row tt

reply-reply : (c : DsiCommand) (stage : Stage) (did : Did) → ReplyDoes c stage did → IsReply did.reply
reply-reply Attention stage did row = at_did did _ row tt
reply-reply GetStatus stage did row = at_did did _ row tt
reply-reply OpenSession stage did row = at_did did _ row tt
reply-reply Command stage did row = at_did did _ row tt
reply-reply Write stage did row = at_did did _ row tt
reply-reply Tickle stage did row = at_did did _ row tt
reply-reply CloseSession stage did row = at_did did _ row tt

frame-reply : (block : List ℕ) (now : ℕ) (stage : Stage) (reply : Bool) (f : Frame) (did : Did) → FrameDoes block now stage reply f did → IsReply did.reply
frame-reply block now Closing reply f did row = absurd row
frame-reply block now Fresh true f did row = reply-reply f.command Fresh did row
frame-reply block now Fresh false f did row = fresh-reply block now f.command f did row
frame-reply block now (Open link) true f did row = reply-reply f.command (Open link) did row
frame-reply block now (Open link) false f did row = open-reply block now link f.command f did row

pub does-replies : (block : List ℕ) (now : ℕ) (stage : Stage) (f : Frame) (did : Did) → Does block now stage f did → IsReply did.reply
does-replies block now stage f did row = frame-reply block now stage f.reply f did row

only_replies-one : (f : Frame) (frames : List Frame) → f.reply ≡ true → only_replies (f ∷ frames) ≡ f ∷ only_replies frames
only_replies-one f frames is = rw is refl

only_replies-more : (o : Option Frame) (frames replies : List Frame) → IsReply o → only_replies frames ≡ replies → only_replies (listed o ++ frames) ≡ listed o ++ replies
only_replies-more None frames replies is p = p
only_replies-more (Some f) frames replies is p = only_replies-one f frames is ∙ ap (λ (fs : List Frame). f ∷ fs) p

-- a quiet goes on in its phase
idles_on-stage : (now : ℕ) (stage : Stage) (a : Requests) (idled : Idled) → IdlesOn now stage a idled → idled.stage ≡ stage
idles_on-stage now Fresh a idled r = ap (λ (x : Idled). x.stage) r
idles_on-stage now (Open link) a idled r = ap (λ (x : Idled). x.stage) r.is
idles_on-stage now Closing a idled r = absurd r

-- nothing happens behind an end

scripted-none : (block : List ℕ) (stage : Stage) (cause : Option Cause) (last : Stage) (after : Stage) → after ≡ stage → ScriptEnds cause last after None → IsScripted block stage [] last cause
scripted-none block stage cause last after same ends = record { after = after; end = None; script = (refl, refl, same, refl); ends = ends; are_replies = refl; no_others = refl }

-- a quiet that ends the link

quiet_ends : (last_read now : ℕ) (stage : Stage) (a : Requests) (idled : Idled) (c : Cause) → Idles last_read now stage a idled (Some c) → ScriptEnds (Some c) idled.stage stage None
quiet_ends last_read now stage a idled silent r = (sym (ap (λ (x : Idled). x.stage) r.1), refl)
quiet_ends last_read now stage a idled displaced r = inr (r.1.link, r.1.in_session, refl)
quiet_ends last_read now stage a idled drained r = (r.1.link, r.1.in_session, refl)
quiet_ends last_read now stage a idled unwritten r = (r.1.in_session ∙ sym (ap (λ (x : Idled). x.stage) r.1.is), refl)
quiet_ends last_read now stage a idled closed r = absurd r
quiet_ends last_read now stage a idled (bad reason) r = absurd r

idles-ends : (block : List ℕ) (last_read now : ℕ) (stage : Stage) (a : Requests) (w : Option (List ℕ)) (idled : Idled) (c : Cause) → Idles last_read now stage a idled (Some c)
    → IsScripted block stage (was_quiet w now idled ∷ []) idled.stage (Some c)
idles-ends block last_read now stage a w idled c r = record {
  after = stage;
  end = None;
  script = (refl, refl, refl, refl);
  ends = quiet_ends last_read now stage a idled c r;
  are_replies = refl;
  no_others = only_replies-request idled.request [] (idles-asked last_read now stage a idled (Some c) r);
}

-- what a script says behind a frame, by its end
abbrev Behind : List ℕ → Stage → List Frame → List Step → List Frame → Stage → Option FrameEnd → Option FrameEnd → Type 0
Behind block stage frames steps replies after end e =
    MatchOption e (Script block stage frames steps replies after end) (λ x. (frames ≡ []) × (steps ≡ []) × (replies ≡ []) × (after ≡ stage) × (end ≡ Some x))

-- a frame in front of a script
scripted-frame : (block : List ℕ) (now : ℕ) (stage mid last : Stage) (cause : Option Cause) (f : Frame) (did : Did) (trace : List Happening) → Does block now stage f did → mid ≡ did.stage → did.end ≡ None
    → IsScripted block mid trace last cause → IsScripted block stage (handled f did ∷ trace) last cause
scripted-frame block now stage mid last cause f did trace does same goes_on s = record {
  after = s.after;
  end = s.end;
  script = (
    now,
    did,
    frame_steps_in trace,
    replies_in trace,
    does,
    refl,
    refl,
    subst (λ (e : Option FrameEnd). Behind block did.stage (frames_in trace) (frame_steps_in trace) (replies_in trace) s.after s.end e) (sym goes_on)
        (subst (λ (st : Stage). Script block st (frames_in trace) (frame_steps_in trace) (replies_in trace) s.after s.end) same s.script),
  );
  ends = s.ends;
  are_replies = only_replies-more did.reply (replies_in trace) (replies_in trace) (does-replies block now stage f did does) s.are_replies;
  no_others = only_replies-more did.reply (sent_in trace) (replies_in trace) (does-replies block now stage f did does) s.no_others;
}

-- a frame that ends the link
script_ends : (e : FrameEnd) (last : Stage) → ScriptEnds (Some (cause_of e)) last last (Some e)
script_ends ends.Closed last = (refl, refl)
script_ends ends.Displaced last = inl (refl, refl)
script_ends (ends.Bad reason) last = (refl, refl)

frame-ends : (block : List ℕ) (now : ℕ) (stage : Stage) (f : Frame) (did : Did) (e : FrameEnd) → Does block now stage f did → did.end ≡ Some e
    → IsScripted block stage (handled f did ∷ []) did.stage (Some (cause_of e))
frame-ends block now stage f did e does is = record {
  after = did.stage;
  end = Some e;
  script = (now, did, [], [], does, refl, refl, subst (λ (x : Option FrameEnd). Behind block did.stage [] [] [] did.stage (Some e) x) (sym is) (refl, refl, refl, refl, refl));
  ends = script_ends e did.stage;
  are_replies = only_replies-more did.reply [] [] (does-replies block now stage f did does) refl;
  no_others = only_replies-more did.reply [] [] (does-replies block now stage f did does) refl;
}

-- what a trace says behind a happening, by why that ends it
abbrev Then : List ℕ → Standing → List Happening → Standing → Option Cause → Option Cause → Type 0
Then block mid trace b cause why = MatchOption why (Follows block mid trace b cause) (λ c. (trace ≡ []) × (b ≡ mid) × (cause ≡ Some c))

-- nothing happens behind this, and so the trace ends here
ends-here : (block : List ℕ) (stage : Stage) (h : Happening) (mid b : Standing) (trace : List Happening) (cause : Option Cause) (c : Cause)
    → (trace ≡ []) × (b ≡ mid) × (cause ≡ Some c) → IsScripted block stage (h ∷ []) mid.stage (Some c) → IsScripted block stage (h ∷ trace) b.stage cause
ends-here block stage h mid b trace cause c last s =
    subst (λ (x : Option Cause). IsScripted block stage (h ∷ trace) b.stage x) (sym last.2)
    (subst (λ (st : Stage). IsScripted block stage (h ∷ trace) st (Some c)) (sym (ap (λ (x : Standing). x.stage) last.1))
    (subst (λ (t : List Happening). IsScripted block stage (h ∷ t) mid.stage (Some c)) (sym last.0) s))

received-next : (block : List ℕ) (a mid b : Standing) (w : Option (List ℕ)) (n : ℕ) (bytes : List ℕ) (trace : List Happening) (cause why : Option Cause) → mid.stage ≡ a.stage → why ≡ None
    → (Follows block mid trace b cause → IsScripted block mid.stage trace b.stage cause) → Then block mid trace b cause why → IsScripted block a.stage (received w n bytes ∷ trace) b.stage cause
received-next block a mid b w n bytes trace cause why same goes_on rest next =
    let s = rest (subst (λ (x : Option Cause). Then block mid trace b cause x) goes_on next) in record {
      after = s.after;
      end = s.end;
      script = subst (λ (st : Stage). Script block st (frames_in trace) (frame_steps_in trace) (replies_in trace) s.after s.end) same s.script;
      ends = s.ends;
      are_replies = s.are_replies;
      no_others = s.no_others;
    }

idled-next : (block : List ℕ) (a mid b : Standing) (w : Option (List ℕ)) (n : ℕ) (idled : Idled) (trace : List Happening) (cause why : Option Cause) → Idles a.last_read n a.stage a.requests idled why → mid.stage ≡ idled.stage
    → (Follows block mid trace b cause → IsScripted block mid.stage trace b.stage cause) → Then block mid trace b cause why → IsScripted block a.stage (was_quiet w n idled ∷ trace) b.stage cause
idled-next block a mid b w n idled trace cause None r same rest next =
    let s = rest next in record {
      after = s.after;
      end = s.end;
      script = subst (λ (st : Stage). Script block st (frames_in trace) (frame_steps_in trace) (replies_in trace) s.after s.end) (same ∙ idles_on-stage n a.stage a.requests idled r.1) s.script;
      ends = s.ends;
      are_replies = s.are_replies;
      no_others = only_replies-request idled.request (sent_in trace) (idles-asked a.last_read n a.stage a.requests idled None r) ∙ s.no_others;
    }
idled-next block a mid b w n idled trace cause (Some c) r same rest next =
    ends-here block a.stage (was_quiet w n idled) mid b trace cause c next
    (subst (λ (st : Stage). IsScripted block a.stage (was_quiet w n idled ∷ []) st (Some c)) (sym same) (idles-ends block a.last_read n a.stage a.requests w idled c r))

handled-next : (block : List ℕ) (a mid b : Standing) (f : Frame) (did : Did) (trace : List Happening) (cause why : Option Cause) (e : Option FrameEnd) → Does block a.now a.stage f did → mid.stage ≡ did.stage
    → did.end ≡ e → why ≡ option_map cause_of e
    → (Follows block mid trace b cause → IsScripted block mid.stage trace b.stage cause) → Then block mid trace b cause why → IsScripted block a.stage (handled f did ∷ trace) b.stage cause
handled-next block a mid b f did trace cause why None does same goes_on is rest next =
    scripted-frame block a.now a.stage mid.stage b.stage cause f did trace does same goes_on (rest (subst (λ (x : Option Cause). Then block mid trace b cause x) is next))
handled-next block a mid b f did trace cause why (Some e) does same ends is rest next =
    ends-here block a.stage (handled f did) mid b trace cause (cause_of e) (subst (λ (x : Option Cause). Then block mid trace b cause x) is next)
    (subst (λ (st : Stage). IsScripted block a.stage (handled f did ∷ []) st (Some (cause_of e))) (sym same) (frame-ends block a.now a.stage f did e does ends))

pub scripted : (block : List ℕ) (a b : Standing) (trace : List Happening) (cause : Option Cause) → Follows block a trace b cause → IsScripted block a.stage trace b.stage cause
scripted block a b [] cause f =
    subst (λ (c : Option Cause). IsScripted block a.stage [] b.stage c) (sym f.1) (scripted-none block a.stage None b.stage b.stage (ap (λ (x : Standing). x.stage) f.0) (refl, refl))
scripted block a b (received w n bytes ∷ trace) cause f =
    received-next block a f.0 b w n bytes trace cause f.1 (ap (λ (x : Standing). x.stage) f.2.0) f.2.1 (λ r. scripted block f.0 b trace cause r) f.3
scripted block a b (was_quiet w n idled ∷ trace) cause f =
    idled-next block a f.0 b w n idled trace cause f.1 f.2.0 (ap (λ (x : Standing). x.stage) f.2.1) (λ r. scripted block f.0 b trace cause r) f.3
scripted block a b (handled f did ∷ trace) cause x =
    handled-next block a x.0 b f did trace cause x.1 did.end x.2.0 (ap (λ (s : Standing). s.stage) x.2.1) refl x.2.2 (λ r. scripted block x.0 b trace cause r) x.3
