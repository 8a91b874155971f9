-- A mirror's run, turn by turn.
use Rattle.std.proofs.Common.{◌≡◌, ◌<◌, false, List, [], ◌∷◌, ◌++◌, Option, Some, None, Ok, Err, refl, sym, ap, ◌∙◌, subst, arith}
use Rattle.std.specs.Prelude.{option_map, Result}
use Rattle.std.proofs.lemmas.List.{append-nil}
use Rattle.afp_base.specs.Cached.{Answer}
use Rattle.afp_base.specs.declared.code.Code.{Code}
use Rattle.afp_calls_grammar.specs.declared.grammar.call.Call.{Call}
use Rattle.afp_replies.specs.Replies.{Shows}
use Rattle.afp_replies.specs.declared.reply.Reply.{Reply}
use Rattle.afp_replies.specs.declared.reply.ReplyKind.{ReplyKind}
use Rattle.afp_serial.specs.ReplyKinds.{reply_kind}
use Rattle.afp_mirror_walk.specs.Asking.{IsAsking}
use Rattle.afp_mirror_walk.specs.Asks.{Asked, asks}
use Rattle.afp_mirror_walk.specs.declared.walk.calls.Asking.{Asking}
use Rattle.afp_mirror_walk.specs.Follows.{Ended, Gives, Next, bad, ends, follows, goes}
use Rattle.afp_mirror_walk.specs.Standing.{Standing}
use Rattle.afp_mirror_walk.specs.declared.walk.ends.MirrorEnd.{MirrorEnd}
use Rattle.afp_mirror_walk.specs.declared.walk.ends.MirrorEnd.TheVariants as mirror_ends
use Rattle.afp_mirror_walk.specs.declared.walk.ends.Side.{Side}
use Rattle.afp_mirror_walk.specs.declared.walk.ends.Side.TheVariants.{From, To}
use Rattle.afp_mirror_walk.specs.declared.walk.stepping.Heard.{Heard}
use Rattle.afp_mirror.specs.lemma.Hearing.{Hears, PortTells}
use Rattle.afp_mirror_walk.specs.Ports.{Answered, Exchange, PortState, Unanswered}
use Rattle.afp_mirror.specs.Runs.{AskTells, Carries, Comes, EndsRun, IsTurn, Leads, Ran, Sees, Stops, Turn, and_if, exchange_of, exchanges_of, seen}

-- nothing was asked yet
leads-none : (next : Next) → Leads next [] next
leads-none (goes w) = refl
leads-none (ends end) = refl

with-none : (o : Option (List Exchange)) → o ≡ option_map (λ (xs : List Exchange). xs ++ []) o
with-none None = refl
with-none (Some xs) = ap (λ (ys : List Exchange). Some ys) (sym (append-nil xs))

stops-same : (p : PortState) → Stops p p
stops-same p = record { faults = omega arith; more = []; once = omega arith; exchanges = with-none p.exchanges }

-- where a mirror stands is no end
abbrev is_goes : Next → Type 0
is_goes (goes w) = Unit {0}
is_goes (ends end) = ⊥

goes-not-ends : (w : Standing) (end : Ended) → goes w ≡ ends end → ⊥
goes-not-ends w end e = subst is_goes e tt

-- a run that has ended with an answer, or for want of memory
gives-ends : (next : Next) (p q : PortState) (end : MirrorEnd) → Gives next (Err end) → EndsRun next p q end p q
gives-ends (ends e) p q end h = (h, refl, refl)
gives-ends (goes w) p q (mirror_ends.Done lines) h = goes-not-ends w _ h
gives-ends (goes w) p q (mirror_ends.Refused side c node) h = goes-not-ends w _ h
gives-ends (goes w) p q (mirror_ends.NotEmpty node) h = goes-not-ends w _ h
gives-ends (goes w) p q mirror_ends.TooMany h = goes-not-ends w _ h
gives-ends (goes w) p q (mirror_ends.Bad side) h = goes-not-ends w _ h
gives-ends (goes w) p q (mirror_ends.Changed node place) h = goes-not-ends w _ h
gives-ends (goes w) p q (mirror_ends.Failed side) h = absurd h
gives-ends (goes w) p q mirror_ends.Memory h = (stops-same p, stops-same q)

pub comes-now : (next : Next) (p q : PortState) (end : MirrorEnd) → Gives next (Err end) → Comes next p q end p q
comes-now next p q end h = record { turns = []; last = next; p_mid = p; q_mid = q; leads = leads-none next; from_ran = refl; to_ran = refl; ended = gives-ends next p q end h }

pub comes_lack : (w : Standing) (p q : PortState) → Comes (goes w) p q mirror_ends.Memory p q
comes_lack w p q = comes-now (goes w) p q mirror_ends.Memory tt

-- the next call was answered
abbrev turn_of : Side → Call → Answer → Option Reply → Turn
turn_of side call a reply = record { side = side; call = call; answer = a; reply = reply }

from-turn : (w : Standing) (t : Turn) (p q p_mid : PortState) → t.side ≡ From → IsTurn w t → Answered p t.call t.answer p_mid → Carries (goes w) p q (seen w t.side t.answer t.reply) p_mid q
from-turn w t p q p_mid is turn ran result p_last q_last c = record {
  turns = t ∷ c.turns;
  last = c.last;
  p_mid = c.p_mid;
  q_mid = c.q_mid;
  leads = (turn, c.leads);
  from_ran = subst (λ (side : Side). Ran p (and_if From side (exchange_of t) (exchanges_of From c.turns)) c.p_mid) (sym is) (p_mid, ran, c.from_ran);
  to_ran = subst (λ (side : Side). Ran q (and_if To side (exchange_of t) (exchanges_of To c.turns)) c.q_mid) (sym is) c.to_ran;
  ended = c.ended;
}

to-turn : (w : Standing) (t : Turn) (p q q_mid : PortState) → t.side ≡ To → IsTurn w t → Answered q t.call t.answer q_mid → Carries (goes w) p q (seen w t.side t.answer t.reply) p q_mid
to-turn w t p q q_mid is turn ran result p_last q_last c = record {
  turns = t ∷ c.turns;
  last = c.last;
  p_mid = c.p_mid;
  q_mid = c.q_mid;
  leads = (turn, c.leads);
  from_ran = subst (λ (side : Side). Ran p (and_if From side (exchange_of t) (exchanges_of From c.turns)) c.p_mid) (sym is) c.from_ran;
  to_ran = subst (λ (side : Side). Ran q (and_if To side (exchange_of t) (exchanges_of To c.turns)) c.q_mid) (sym is) (q_mid, ran, c.to_ran);
  ended = c.ended;
}

-- What is asked next, as the code has it.
pub record AsksNext (w : Standing) (side : Side) (call : Call) : Type 0 where
  pub asked : Asked
  pub next : asks w ≡ Some asked
  pub of_side : asked.side ≡ side
  pub call_is : call ≡ asked.call

turn-is : (w : Standing) (side : Side) (call : Call) (a : Answer) (reply : Option Reply) → AsksNext w side call → Sees call a reply → IsTurn w (turn_of side call a reply)
turn-is w side call a reply n sees = record { asked = n.asked; next = n.next; side = sym n.of_side; call = n.call_is; sees = sees }

stopped-behind : (p p_mid : PortState) (call : Call) (a : Answer) → Answered p call a p_mid → Stops p p_mid
stopped-behind p p_mid call a ran = record { faults = ran.faults; more = (record { call = call; answer = a }) ∷ []; once = omega arith; exchanges = ran.exchanges }

stopped-before : (p p_mid : PortState) → Unanswered p p_mid → Stops p p_mid
stopped-before p p_mid u = record { faults = u.faults; more = []; once = omega arith; exchanges = u.exchanges ∙ with-none p.exchanges }

lacks : (w : Standing) (p q p_last q_last : PortState) → Stops p p_last → Stops q q_last → Comes (goes w) p q mirror_ends.Memory p_last q_last
lacks w p q p_last q_last one other = record { turns = []; last = goes w; p_mid = p; q_mid = q; leads = refl; from_ran = refl; to_ran = refl; ended = (one, other) }

shown-by : (reply : Reply) (kind : ReplyKind) (call : Call) (a : Answer) → kind ≡ reply_kind call → Shows reply kind a.code a.block → Shows reply (reply_kind call) a.code a.block
shown-by reply kind call a is h = subst (λ (k : ReplyKind). Shows reply k a.code a.block) is h

none-by : (kind : ReplyKind) (call : Call) (a : Answer) → kind ≡ reply_kind call → ((reply : Reply) → Shows reply kind a.code a.block → ⊥) → (reply : Reply) → Shows reply (reply_kind call) a.code a.block → ⊥
none-by kind call a is h reply shows = h reply (subst (λ (k : ReplyKind). Shows reply k a.code a.block) (sym is) shows)

follows-by : (w : Standing) (heard : Heard) (a : Answer) → heard.code ≡ a.code → follows w heard.code heard.reply ≡ follows w a.code heard.reply
follows-by w heard a is = ap (λ (c : Code). follows w c heard.reply) is

-- the source's port answered, and what was heard of it
pub from-hears : (w : Standing) (call : Call) (kind : ReplyKind) (a : Answer) (p q p_mid : PortState) (result : Result Heard MirrorEnd) → AsksNext w From call → kind ≡ reply_kind call
    → Answered p call a p_mid → q.is_over ≡ false → Hears From kind a result → AskTells w p q result p_mid q
from-hears w call kind a p q p_mid (Ok heard) n k ran going h = (
  λ result p_last q_last c.
      from-turn w (turn_of From call a (Some heard.reply)) p q p_mid refl (turn-is w From call a (Some heard.reply) n (shown-by heard.reply kind call a k h.1)) ran result p_last q_last
      (subst (λ (next : Next). Comes next p_mid q result p_last q_last) (follows-by w heard a h.0) c),
  ran.goes_on,
  going,
)
from-hears w call kind a p q p_mid (Err (mirror_ends.Bad side)) n k ran going h =
    from-turn w (turn_of From call a None) p q p_mid refl (turn-is w From call a None n (none-by kind call a k h.1)) ran (mirror_ends.Bad side) p_mid q
    (comes-now (ends (bad From)) p_mid q (mirror_ends.Bad side) (ap (λ (s : Side). ends (bad s)) (sym h.0)))
from-hears w call kind a p q p_mid (Err mirror_ends.Memory) n k ran going h = lacks w p q p_mid q (stopped-behind p p_mid call a ran) (stops-same q)
from-hears w call kind a p q p_mid (Err (mirror_ends.Done lines)) n k ran going h = absurd h
from-hears w call kind a p q p_mid (Err (mirror_ends.Refused side c node)) n k ran going h = absurd h
from-hears w call kind a p q p_mid (Err (mirror_ends.NotEmpty node)) n k ran going h = absurd h
from-hears w call kind a p q p_mid (Err mirror_ends.TooMany) n k ran going h = absurd h
from-hears w call kind a p q p_mid (Err (mirror_ends.Changed node place)) n k ran going h = absurd h
from-hears w call kind a p q p_mid (Err (mirror_ends.Failed side)) n k ran going h = absurd h

-- the target's
pub to-hears : (w : Standing) (call : Call) (kind : ReplyKind) (a : Answer) (p q q_mid : PortState) (result : Result Heard MirrorEnd) → AsksNext w To call → kind ≡ reply_kind call
    → Answered q call a q_mid → p.is_over ≡ false → Hears To kind a result → AskTells w p q result p q_mid
to-hears w call kind a p q q_mid (Ok heard) n k ran going h = (
  λ result p_last q_last c.
      to-turn w (turn_of To call a (Some heard.reply)) p q q_mid refl (turn-is w To call a (Some heard.reply) n (shown-by heard.reply kind call a k h.1)) ran result p_last q_last
      (subst (λ (next : Next). Comes next p q_mid result p_last q_last) (follows-by w heard a h.0) c),
  going,
  ran.goes_on,
)
to-hears w call kind a p q q_mid (Err (mirror_ends.Bad side)) n k ran going h =
    to-turn w (turn_of To call a None) p q q_mid refl (turn-is w To call a None n (none-by kind call a k h.1)) ran (mirror_ends.Bad side) p q_mid
    (comes-now (ends (bad To)) p q_mid (mirror_ends.Bad side) (ap (λ (s : Side). ends (bad s)) (sym h.0)))
to-hears w call kind a p q q_mid (Err mirror_ends.Memory) n k ran going h = lacks w p q p q_mid (stops-same p) (stopped-behind q q_mid call a ran)
to-hears w call kind a p q q_mid (Err (mirror_ends.Done lines)) n k ran going h = absurd h
to-hears w call kind a p q q_mid (Err (mirror_ends.Refused side c node)) n k ran going h = absurd h
to-hears w call kind a p q q_mid (Err (mirror_ends.NotEmpty node)) n k ran going h = absurd h
to-hears w call kind a p q q_mid (Err mirror_ends.TooMany) n k ran going h = absurd h
to-hears w call kind a p q q_mid (Err (mirror_ends.Changed node place)) n k ran going h = absurd h
to-hears w call kind a p q q_mid (Err (mirror_ends.Failed side)) n k ran going h = absurd h

-- a port gave no answer
pub from-fails : (w : Standing) (call : Call) (p q p_last : PortState) → AsksNext w From call → Unanswered p p_last → p.faults < p_last.faults → Comes (goes w) p q (mirror_ends.Failed From) p_last q
from-fails w call p q p_last n u rose = record {
  turns = [];
  last = goes w;
  p_mid = p;
  q_mid = q;
  leads = refl;
  from_ran = refl;
  to_ran = refl;
  ended = ((n.asked, n.next, n.of_side), record { unanswered = u; rose = rose; other = refl });
}

pub to-fails : (w : Standing) (call : Call) (p q q_last : PortState) → AsksNext w To call → Unanswered q q_last → q.faults < q_last.faults → Comes (goes w) p q (mirror_ends.Failed To) p q_last
to-fails w call p q q_last n u rose = record {
  turns = [];
  last = goes w;
  p_mid = p;
  q_mid = q;
  leads = refl;
  from_ran = refl;
  to_ran = refl;
  ended = ((n.asked, n.next, n.of_side), record { unanswered = u; rose = rose; other = refl });
}

pub from-lacks : (w : Standing) (p q p_last : PortState) → Unanswered p p_last → Comes (goes w) p q mirror_ends.Memory p_last q
from-lacks w p q p_last u = lacks w p q p_last q (stopped-before p p_last u) (stops-same q)

pub to-lacks : (w : Standing) (p q q_last : PortState) → Unanswered q q_last → Comes (goes w) p q mirror_ends.Memory p q_last
to-lacks w p q q_last u = lacks w p q p q_last (stops-same p) (stopped-before q q_last u)

-- what a port tells, by its side
pub from-tells : (w : Standing) (call : Call) (kind : ReplyKind) (p q p_mid : PortState) (result : Result Heard MirrorEnd) → AsksNext w From call → kind ≡ reply_kind call → q.is_over ≡ false
    → PortTells From call kind p result p_mid → AskTells w p q result p_mid q
from-tells w call kind p q p_mid (Ok heard) n k going t = from-hears w call kind t.0 p q p_mid (Ok heard) n k t.1 going t.2
from-tells w call kind p q p_mid (Err (mirror_ends.Bad side)) n k going t = from-hears w call kind t.0 p q p_mid (Err (mirror_ends.Bad side)) n k t.1 going t.2
from-tells w call kind p q p_mid (Err mirror_ends.Memory) n k going t = lacks w p q p_mid q t (stops-same q)
from-tells w call kind p q p_mid (Err (mirror_ends.Failed side)) n k going t =
    subst (λ (s : Side). Comes (goes w) p q (mirror_ends.Failed s) p_mid q) (sym t.0) (from-fails w call p q p_mid n t.1 t.2)
from-tells w call kind p q p_mid (Err (mirror_ends.Done lines)) n k going t = absurd t
from-tells w call kind p q p_mid (Err (mirror_ends.Refused side c node)) n k going t = absurd t
from-tells w call kind p q p_mid (Err (mirror_ends.NotEmpty node)) n k going t = absurd t
from-tells w call kind p q p_mid (Err mirror_ends.TooMany) n k going t = absurd t
from-tells w call kind p q p_mid (Err (mirror_ends.Changed node place)) n k going t = absurd t

pub to-tells : (w : Standing) (call : Call) (kind : ReplyKind) (p q q_mid : PortState) (result : Result Heard MirrorEnd) → AsksNext w To call → kind ≡ reply_kind call → p.is_over ≡ false
    → PortTells To call kind q result q_mid → AskTells w p q result p q_mid
to-tells w call kind p q q_mid (Ok heard) n k going t = to-hears w call kind t.0 p q q_mid (Ok heard) n k t.1 going t.2
to-tells w call kind p q q_mid (Err (mirror_ends.Bad side)) n k going t = to-hears w call kind t.0 p q q_mid (Err (mirror_ends.Bad side)) n k t.1 going t.2
to-tells w call kind p q q_mid (Err mirror_ends.Memory) n k going t = lacks w p q p q_mid (stops-same p) t
to-tells w call kind p q q_mid (Err (mirror_ends.Failed side)) n k going t =
    subst (λ (s : Side). Comes (goes w) p q (mirror_ends.Failed s) p q_mid) (sym t.0) (to-fails w call p q q_mid n t.1 t.2)
to-tells w call kind p q q_mid (Err (mirror_ends.Done lines)) n k going t = absurd t
to-tells w call kind p q q_mid (Err (mirror_ends.Refused side c node)) n k going t = absurd t
to-tells w call kind p q q_mid (Err (mirror_ends.NotEmpty node)) n k going t = absurd t
to-tells w call kind p q q_mid (Err mirror_ends.TooMany) n k going t = absurd t
to-tells w call kind p q q_mid (Err (mirror_ends.Changed node place)) n k going t = absurd t

-- what a port tells of an answer, and of none
pub tells_heard : (side : Side) (call : Call) (kind : ReplyKind) (a : Answer) (p p_now : PortState) (result : Result Heard MirrorEnd) → Answered p call a p_now → Hears side kind a result → PortTells side call kind p result p_now
tells_heard side call kind a p p_now (Ok heard) ran h = (a, ran, h)
tells_heard side call kind a p p_now (Err (mirror_ends.Bad other)) ran h = (a, ran, h)
tells_heard side call kind a p p_now (Err mirror_ends.Memory) ran h = stopped-behind p p_now call a ran
tells_heard side call kind a p p_now (Err (mirror_ends.Failed other)) ran h = absurd h
tells_heard side call kind a p p_now (Err (mirror_ends.Done lines)) ran h = absurd h
tells_heard side call kind a p p_now (Err (mirror_ends.Refused other c node)) ran h = absurd h
tells_heard side call kind a p p_now (Err (mirror_ends.NotEmpty node)) ran h = absurd h
tells_heard side call kind a p p_now (Err mirror_ends.TooMany) ran h = absurd h
tells_heard side call kind a p p_now (Err (mirror_ends.Changed node place)) ran h = absurd h

pub tells_stopped : (side : Side) (call : Call) (kind : ReplyKind) (p p_now : PortState) → Unanswered p p_now → PortTells side call kind p (Err mirror_ends.Memory) p_now
tells_stopped side call kind p p_now u = stopped-before p p_now u

-- the run goes on from what follows an answer
pub goes-on : (w : Standing) (heard : Heard) (next : Standing) (p q p_now q_now : PortState) → AskTells w p q (Ok heard) p_now q_now → Gives (follows w heard.code heard.reply) (Ok next) → Carries (goes w) p q (goes next) p_now q_now
goes-on w heard next p q p_now q_now t is result p_last q_last c = t.0 result p_last q_last (subst (λ (n : Next). Comes n p_now q_now result p_last q_last) (sym is) c)

pub ends-there : (w : Standing) (heard : Heard) (end : MirrorEnd) (p q p_now q_now : PortState) → AskTells w p q (Ok heard) p_now q_now → Gives (follows w heard.code heard.reply) (Err end) → Comes (goes w) p q end p_now q_now
ends-there w heard end p q p_now q_now t is = t.0 end p_now q_now (comes-now (follows w heard.code heard.reply) p_now q_now end is)

-- what is asked of a port, by its side
pub asks_from : (w : Standing) (a : Asking) (p q p_mid : PortState) (result : Result Heard MirrorEnd) → IsAsking w a → a.side ≡ From → q.is_over ≡ false → PortTells From a.call a.kind p result p_mid → AskTells w p q result p_mid q
asks_from w a p q p_mid result n is going t = from-tells w a.call a.kind p q p_mid result (record { asked = n.asked; next = n.next; of_side = sym n.side ∙ is; call_is = n.call }) n.kind going t

pub asks_to : (w : Standing) (a : Asking) (p q q_mid : PortState) (result : Result Heard MirrorEnd) → IsAsking w a → a.side ≡ To → p.is_over ≡ false → PortTells To a.call a.kind q result q_mid → AskTells w p q result p q_mid
asks_to w a p q q_mid result n is going t = to-tells w a.call a.kind p q q_mid result (record { asked = n.asked; next = n.next; of_side = sym n.side ∙ is; call_is = n.call }) n.kind going t

-- a run from its start
pub carries_first : (first w : Standing) (p q : PortState) → w ≡ first → Carries (goes first) p q (goes w) p q
carries_first first w p q is result p_last q_last c = subst (λ (s : Standing). Comes (goes s) p q result p_last q_last) is c

pub carry_on : (start : Next) (p q : PortState) (w : Standing) (p_one q_one : PortState) (heard : Heard) (next : Standing) (p_now q_now : PortState) → Carries start p q (goes w) p_one q_one → AskTells w p_one q_one (Ok heard) p_now q_now
    → Gives (follows w heard.code heard.reply) (Ok next) → Carries start p q (goes next) p_now q_now
carry_on start p q w p_one q_one heard next p_now q_now k t is result p_last q_last c = k result p_last q_last (goes-on w heard next p_one q_one p_now q_now t is result p_last q_last c)

pub end_there : (start : Next) (p q : PortState) (w : Standing) (p_one q_one : PortState) (heard : Heard) (end : MirrorEnd) (p_now q_now : PortState) → Carries start p q (goes w) p_one q_one → AskTells w p_one q_one (Ok heard) p_now q_now
    → Gives (follows w heard.code heard.reply) (Err end) → Comes start p q end p_now q_now
end_there start p q w p_one q_one heard end p_now q_now k t is = k end p_now q_now (ends-there w heard end p_one q_one p_now q_now t is)

pub spent_there : (start : Next) (p q : PortState) (w : Standing) (p_one q_one : PortState) → Carries start p q (goes w) p_one q_one → Comes start p q mirror_ends.Memory p_one q_one
spent_there start p q w p_one q_one k = k mirror_ends.Memory p_one q_one (comes_lack w p_one q_one)
