-- What quiets write is a Tickle, an Attention or nothing.
use Rattle.std.proofs.Common.{◌≡◌, ℕ, Bool, true, false, List, ◌∷◌, ◌++◌, refl, sym, ap, subst, inl, inr}
use Rattle.std.specs.Prelude.{Option, Some, None, if◌then◌else◌}
use Rattle.dsi_frame.specs.Frame.{Frame}
use Rattle.dsi_frame.specs.Replies.{listed, only_replies}
use Rattle.afp_server.specs.link.Requests.{Requests, tickle, attention, is_over, is_first_told, is_tickle_due, request_at, drain_in}
use Rattle.afp_server.specs.link.Trace.{Cause, closed, displaced, bad, silent, drained, unwritten, Idled, IdlesOn, Idles}
use Rattle.afp_server.specs.link.Written.{IsServerRequest}
use Rattle.afp_server.specs.declared.link.stage.Stage.{Stage}
use Rattle.afp_server.specs.declared.link.stage.Stage.TheVariants.{Fresh, Open, Closing}

abbrev pub IsAsked : Option Frame → Type 0
IsAsked None = Unit {0}
IsAsked (Some f) = IsServerRequest f

picked : (x y z : Bool) (id : ℕ) → IsAsked (if x then Some (attention id) else (if y then None else (if z then Some (tickle id) else None)))
picked true y z id = (id, inr refl)
picked false true z id = tt
picked false false true id = (id, inl refl)
picked false false false id = tt

request-asked : (now : ℕ) (drain : Option ℕ) (a : Requests) → IsAsked (request_at now drain a)
request-asked now drain a = picked (is_first_told drain a) (is_over drain now) (is_tickle_due now a) a.next_id

at_idled : (x y : Idled) → x ≡ y → IsAsked y.request → IsAsked x.request
at_idled x y is asked = subst (λ (i : Idled). IsAsked i.request) (sym is) asked

idles_on-asked : (now : ℕ) (stage : Stage) (a : Requests) (idled : Idled) → IdlesOn now stage a idled → IsAsked idled.request
idles_on-asked now Fresh a idled r = at_idled idled _ r tt
idles_on-asked now (Open link) a idled r = at_idled idled _ r.is (request-asked now (drain_in r.answer) a)
idles_on-asked now Closing a idled r = absurd r

pub idles-asked : (last_read now : ℕ) (stage : Stage) (a : Requests) (idled : Idled) (why : Option Cause) → Idles last_read now stage a idled why → IsAsked idled.request
idles-asked last_read now stage a idled (Some silent) r = at_idled idled _ r.1 tt
idles-asked last_read now stage a idled (Some displaced) r = at_idled idled _ r.1.is tt
idles-asked last_read now stage a idled (Some drained) r = at_idled idled _ r.1.is (request-asked now (Some r.1.drain) a)
idles-asked last_read now stage a idled (Some unwritten) r = at_idled idled _ r.1.is (request-asked now (drain_in r.1.answer) a)
idles-asked last_read now stage a idled None r = idles_on-asked now stage a idled r.1
idles-asked last_read now stage a idled (Some closed) r = absurd r
idles-asked last_read now stage a idled (Some (bad reason)) r = absurd r

pub asked-request : (f : Frame) → IsServerRequest f → f.reply ≡ false
asked-request f (id, is) = elim is [ inl e ↦ ap (λ (x : Frame). x.reply) e | inr e ↦ ap (λ (x : Frame). x.reply) e ]

only_replies-none : (f : Frame) (frames : List Frame) → f.reply ≡ false → only_replies (f ∷ frames) ≡ only_replies frames
only_replies-none f frames is = rw is refl

pub only_replies-request : (o : Option Frame) (frames : List Frame) → IsAsked o → only_replies (listed o ++ frames) ≡ only_replies frames
only_replies-request None frames asked = refl
only_replies-request (Some f) frames asked = only_replies-none f frames (asked-request f asked)
