-- What a link writes beside replies, along a trace.
use Rattle.std.proofs.Common.{◌≡◌, ◌&&◌, ◌||◌, ℕ, ◌+◌, ◌≤◌, not, Bool, true, false, List, [], ◌∷◌, ◌++◌, length, All, refl, sym, ap, ◌∙◌, subst, arith}
use Rattle.std.proofs.lemmas.List.Elements.{All-nil, All-cons}
use Rattle.std.specs.Prelude.{Option, Some, None, if◌then◌else◌, is_some, MatchOption}
use Rattle.dsi_frame.specs.Frame.{Frame}
use Rattle.dsi_frame.specs.Replies.{listed}
use Rattle.afp_server.specs.link.LinkRun.{quiets_in}
use Rattle.afp_server.specs.link.Requests.{Requests, tickle, attention, is_over, is_tickle_due, request_at, drain_in, after_reply}
use Rattle.afp_server.specs.link.Trace.{Happening, received, was_quiet, handled, events_in, sent_in, Standing, Cause, closed, displaced, bad, silent, drained, unwritten, Idled, IdlesOn, Idles, Follows}
use Rattle.afp_server.specs.link.Written.{only_requests, requests_in, IsServerRequest, is_attention, attentions_in, any_told_drain, is_drain_told, IsWrittenBeside}
use Rattle.afp_server.specs.declared.link.stage.Stage.{Stage}
use Rattle.afp_server.specs.declared.link.stage.Stage.TheVariants.{Fresh, Open, Closing}
use Rattle.afp_server.proofs.OfLink.Requesting.{IsAsked, idles-asked, asked-request}
use Rattle.afp_server.proofs.OfLink.ScriptLaws.{IsReply, does-replies}

-- 1 where a drain was told
abbrev pub one_if : Bool → ℕ
one_if b = if b then 1 else 0

-- The same of the rest of a trace, where a drain was told before it or not.
record Beside (before : Bool) (trace : List Happening) : Type 0 where
  pub requests : only_requests (sent_in trace) ≡ requests_in trace
  pub kinds : All IsServerRequest (requests_in trace)
  pub most : length (requests_in trace) ≤ quiets_in (events_in trace)
  pub attentions : attentions_in (requests_in trace) + one_if before ≡ one_if (before || is_drain_told trace)

none_more : (n : ℕ) → 0 + n ≡ n
none_more n = omega arith

or_none : (b : Bool) → b ≡ (b || false)
or_none true = refl
or_none false = refl

or_or : (a b c : Bool) → ((a || b) || c) ≡ (a || (b || c))
or_or true b c = refl
or_or false b c = refl

beside-none : (before : Bool) → Beside before []
beside-none before = record { requests = refl; kinds = All-nil IsServerRequest; most = omega arith; attentions = none_more (one_if before) ∙ ap one_if (or_none before) }

-- replies are no requests

only_requests-reply : (f : Frame) (frames : List Frame) → f.reply ≡ true → only_requests (f ∷ frames) ≡ only_requests frames
only_requests-reply f frames is = rw is refl

only_requests-replied : (o : Option Frame) (frames : List Frame) → IsReply o → only_requests (listed o ++ frames) ≡ only_requests frames
only_requests-replied None frames is = refl
only_requests-replied (Some f) frames is = only_requests-reply f frames is

only_requests-request : (f : Frame) (frames : List Frame) → f.reply ≡ false → only_requests (f ∷ frames) ≡ f ∷ only_requests frames
only_requests-request f frames is = rw is refl

only_requests-asked : (o : Option Frame) (frames : List Frame) → IsAsked o → only_requests (listed o ++ frames) ≡ listed o ++ only_requests frames
only_requests-asked None frames asked = refl
only_requests-asked (Some f) frames asked = only_requests-request f frames (asked-request f asked)

kinds-asked : (o : Option Frame) (frames : List Frame) → IsAsked o → All IsServerRequest frames → All IsServerRequest (listed o ++ frames)
kinds-asked None frames asked all = all
kinds-asked (Some f) frames asked all = All-cons IsServerRequest f frames asked all

one_more : (o : Option Frame) (frames : List Frame) (n : ℕ) → length frames ≤ n → length (listed o ++ frames) ≤ 1 + n
one_more None frames n few = omega (arith, few)
one_more (Some f) frames n few = omega (arith, few)

attentions-one : (b : Bool) (n : ℕ) → (if b then 1 + n else n) ≡ (if b then 1 + 0 else 0) + n
attentions-one true n = omega arith
attentions-one false n = omega arith

attentions-more : (o : Option Frame) (frames : List Frame) → attentions_in (listed o ++ frames) ≡ attentions_in (listed o) + attentions_in frames
attentions-more None frames = omega arith
attentions-more (Some f) frames = attentions-one (is_attention f) (attentions_in frames)

-- An Attention is written where a drain is told for the first time.
record Tells (before : Bool) (idled : Idled) : Type 0 where
  pub after : idled.requests.drain_told ≡ (before || any_told_drain idled.steps)
  pub attentions : attentions_in (listed idled.request) + one_if before ≡ one_if (before || any_told_drain idled.steps)

picked : (t d y z : Bool) (id : ℕ) → attentions_in (listed (if d && not t then Some (attention id) else (if y then None else (if z then Some (tickle id) else None)))) + one_if t ≡ one_if (t || d)
picked true true true z id = refl
picked true true false true id = refl
picked true true false false id = refl
picked false true y z id = refl
picked true false true z id = refl
picked true false false true id = refl
picked true false false false id = refl
picked false false true z id = refl
picked false false false true id = refl
picked false false false false id = refl

request-attentions : (now : ℕ) (drain : Option ℕ) (a : Requests) → attentions_in (listed (request_at now drain a)) + one_if a.drain_told ≡ one_if (a.drain_told || is_some drain)
request-attentions now drain a = picked a.drain_told (is_some drain) (is_over drain now) (is_tickle_due now a) a.next_id

tells-is : (before : Bool) (x y : Idled) → x ≡ y → Tells before y → Tells before x
tells-is before x y is t = subst (Tells before) (sym is) t

idles_on-tells : (now : ℕ) (stage : Stage) (a : Requests) (idled : Idled) → IdlesOn now stage a idled → Tells a.drain_told idled
idles_on-tells now Fresh a idled r = tells-is a.drain_told idled _ r (record { after = or_none a.drain_told; attentions = none_more (one_if a.drain_told) ∙ ap one_if (or_none a.drain_told) })
idles_on-tells now (Open link) a idled r =
    let any : is_some (drain_in r.answer) ≡ (is_some (drain_in r.answer) || false) = or_none (is_some (drain_in r.answer)) in
    tells-is a.drain_told idled _ r.is record {
      after = ap (λ (b : Bool). a.drain_told || b) any;
      attentions = request-attentions now (drain_in r.answer) a ∙ ap (λ (b : Bool). one_if (a.drain_told || b)) any;
    }
idles_on-tells now Closing a idled r = absurd r

idles-tells : (last_read now : ℕ) (stage : Stage) (a : Requests) (idled : Idled) (why : Option Cause) → Idles last_read now stage a idled why → Tells a.drain_told idled
idles-tells last_read now stage a idled (Some silent) r = tells-is a.drain_told idled _ r.1 (record { after = or_none a.drain_told; attentions = none_more (one_if a.drain_told) ∙ ap one_if (or_none a.drain_told) })
idles-tells last_read now stage a idled (Some displaced) r = tells-is a.drain_told idled _ r.1.is (record { after = or_none a.drain_told; attentions = none_more (one_if a.drain_told) ∙ ap one_if (or_none a.drain_told) })
idles-tells last_read now stage a idled (Some drained) r =
    tells-is a.drain_told idled _ r.1.is (record { after = refl; attentions = request-attentions now (Some r.1.drain) a })
idles-tells last_read now stage a idled (Some unwritten) r =
    let any : is_some (drain_in r.1.answer) ≡ (is_some (drain_in r.1.answer) || false) = or_none (is_some (drain_in r.1.answer)) in
    tells-is a.drain_told idled _ r.1.is record {
      after = ap (λ (b : Bool). a.drain_told || b) any;
      attentions = request-attentions now (drain_in r.1.answer) a ∙ ap (λ (b : Bool). one_if (a.drain_told || b)) any;
    }
idles-tells last_read now stage a idled None r = idles_on-tells now stage a idled r.1
idles-tells last_read now stage a idled (Some closed) r = absurd r
idles-tells last_read now stage a idled (Some (bad reason)) r = absurd r

-- a quiet in front

beside-quiet : (before after : Bool) (w : Option (List ℕ)) (n : ℕ) (idled : Idled) (trace : List Happening) → IsAsked idled.request → Tells before idled → after ≡ idled.requests.drain_told → Beside after trace
    → Beside before (was_quiet w n idled ∷ trace)
beside-quiet before after w n idled trace asked t is b =
    let told : after ≡ (before || any_told_drain idled.steps) = is ∙ t.after in
    let sum : attentions_in (requests_in trace) + one_if (before || any_told_drain idled.steps) ≡ one_if ((before || any_told_drain idled.steps) || is_drain_told trace) =
    subst (λ (x : Bool). attentions_in (requests_in trace) + one_if x ≡ one_if (x || is_drain_told trace)) told b.attentions in
    let all : one_if ((before || any_told_drain idled.steps) || is_drain_told trace) ≡ one_if (before || (any_told_drain idled.steps || is_drain_told trace)) = ap one_if (or_or before (any_told_drain idled.steps) (is_drain_told trace)) in
    record {
      requests = only_requests-asked idled.request (sent_in trace) asked ∙ ap (λ (fs : List Frame). listed idled.request ++ fs) b.requests;
      kinds = kinds-asked idled.request (requests_in trace) asked b.kinds;
      most = one_more idled.request (requests_in trace) (quiets_in (events_in trace)) b.most;
      attentions = omega (arith, attentions-more idled.request (requests_in trace), t.attentions, sum) ∙ all;
    }

-- what a link does behind a happening, or nothing where that ends it
behind : (before : Bool) (block : List ℕ) (mid b : Standing) (trace : List Happening) (cause why : Option Cause)
    → MatchOption why (Follows block mid trace b cause) (λ c. (trace ≡ []) × (b ≡ mid) × (cause ≡ Some c)) → (Follows block mid trace b cause → Beside before trace) → Beside before trace
behind before block mid b trace cause None next rest = rest next
behind before block mid b trace cause (Some c) next rest = subst (Beside before) (sym next.0) (beside-none before)

told-replied : (now : ℕ) (o : Option Frame) (a : Requests) → (after_reply now o a).drain_told ≡ a.drain_told
told-replied now None a = refl
told-replied now (Some f) a = refl

along : (block : List ℕ) (a b : Standing) (trace : List Happening) (cause : Option Cause) → Follows block a trace b cause → Beside a.requests.drain_told trace
along block a b [] cause f = beside-none a.requests.drain_told
along block a b (received w n bytes ∷ trace) cause f =
    let same : f.0.requests.drain_told ≡ a.requests.drain_told = ap (λ (x : Standing). x.requests.drain_told) f.2.0 in
    let s = subst (λ (x : Bool). Beside x trace) same (behind f.0.requests.drain_told block f.0 b trace cause f.1 f.3 (λ r. along block f.0 b trace cause r)) in
    record { requests = s.requests; kinds = s.kinds; most = s.most; attentions = s.attentions }
along block a b (was_quiet w n idled ∷ trace) cause f =
    beside-quiet a.requests.drain_told f.0.requests.drain_told w n idled trace (idles-asked a.last_read n a.stage a.requests idled f.1 f.2.0) (idles-tells a.last_read n a.stage a.requests idled f.1 f.2.0)
    (ap (λ (x : Standing). x.requests.drain_told) f.2.1) (behind f.0.requests.drain_told block f.0 b trace cause f.1 f.3 (λ r. along block f.0 b trace cause r))
along block a b (handled g did ∷ trace) cause f =
    let same : f.0.requests.drain_told ≡ a.requests.drain_told = ap (λ (x : Standing). x.requests.drain_told) f.2.1 ∙ told-replied a.now did.reply a.requests in
    let s = subst (λ (x : Bool). Beside x trace) same (behind f.0.requests.drain_told block f.0 b trace cause f.1 f.3 (λ r. along block f.0 b trace cause r)) in
    record { requests = only_requests-replied did.reply (sent_in trace) (does-replies block a.now a.stage g did f.2.0) ∙ s.requests; kinds = s.kinds; most = s.most; attentions = s.attentions }

pub written-beside : IsWrittenBeside
written-beside block a b trace cause none f =
    let s = subst (λ (x : Bool). Beside x trace) none (along block a b trace cause f) in
    record { requests = s.requests; kinds = s.kinds; most = s.most; attentions = omega (arith, s.attentions) }
