-- A mirror's run over two ports, answer by answer (this profile).
use Rattle.std.specs.Prelude.{◌≡◌, ◌≤◌, ◌<◌, false, List, [], ◌∷◌, ◌++◌, length, Option, Some, None, option_map, Result, Ok, Err}
use Rattle.afp_base.specs.Cached.{Answer}
use Rattle.afp_calls_grammar.specs.declared.grammar.call.Call.{Call}
use Rattle.afp_replies.specs.Replies.{Shows}
use Rattle.afp_replies.specs.declared.reply.Reply.{Reply}
use Rattle.afp_serial.specs.ReplyKinds.{reply_kind}
use Rattle.afp_mirror_walk.specs.Asks.{Asked, asks}
use Rattle.afp_mirror_walk.specs.Follows.{Gives, Next, bad, ends, follows, goes}
use Rattle.afp_mirror_walk.specs.Standing.{Standing}
use Rattle.afp_mirror_walk.specs.declared.walk.ends.MirrorEnd.{MirrorEnd}
use Rattle.afp_mirror_walk.specs.declared.walk.ends.MirrorEnd.TheVariants as mirror_ends
use Rattle.afp_mirror_walk.specs.declared.walk.stepping.Heard.{Heard}
use Rattle.afp_mirror_walk.specs.declared.walk.ends.Side.{Side}
use Rattle.afp_mirror_walk.specs.declared.walk.ends.Side.TheVariants.{From, To}
use Rattle.afp_mirror_walk.specs.Ports.{Answered, Exchange, PortState, Unanswered}

-- A call that was answered: of which side, with what answer, and the reply that its block shows, if it shows one.
pub record Turn : Type 0 where
  pub side : Side
  pub call : Call
  pub answer : Answer
  pub reply : Option Reply

-- a block shows this reply, or none
abbrev pub Sees : Call → Answer → Option Reply → Type 0
Sees call a (Some reply) = Shows reply (reply_kind call) a.code a.block
Sees call a None = (reply : Reply) → Shows reply (reply_kind call) a.code a.block → ⊥

-- what follows what was seen: no reply is bad
abbrev pub seen : Standing → Side → Answer → Option Reply → Next
seen w side a None = ends (bad side)
seen w side a (Some reply) = follows w a.code reply

-- The call of a turn is the one that is asked there.
pub record IsTurn (w : Standing) (t : Turn) : Type 0 where
  pub asked : Asked
  pub next : asks w ≡ Some asked
  pub side : t.side ≡ asked.side
  pub call : t.call ≡ asked.call
  pub sees : Sees t.call t.answer t.reply

-- The turns follow one another from there, and lead to this: the table of a mirror's answers is `follows`.
abbrev pub Leads : Next → List Turn → Next → Type 0
Leads (ends end) [] last = last ≡ ends end
Leads (ends end) (t ∷ turns) last = ⊥
Leads (goes w) [] last = last ≡ goes w
Leads (goes w) (t ∷ turns) last = IsTurn w t × Leads (seen w t.side t.answer t.reply) turns last

-- the exchanges of one side
abbrev pub exchange_of : Turn → Exchange
exchange_of t = record { call = t.call; answer = t.answer }

abbrev pub and_if : Side → Side → Exchange → List Exchange → List Exchange
and_if From From x xs = x ∷ xs
and_if From To x xs = xs
and_if To From x xs = xs
and_if To To x xs = x ∷ xs

abbrev pub exchanges_of : Side → List Turn → List Exchange
exchanges_of side [] = []
exchanges_of side (t ∷ turns) = and_if side t.side (exchange_of t) (exchanges_of side turns)

-- a port answered these calls, one after the other
abbrev pub Ran : PortState → List Exchange → PortState → Type 0
Ran old [] new = new ≡ old
Ran old (x ∷ xs) new = (mid : PortState) × Answered old x.call x.answer mid × Ran mid xs new

-- a port stopped where there was no memory: it may have answered once more
pub record Stops (old new : PortState) : Type 0 where
  pub faults : old.faults ≤ new.faults
  pub more : List Exchange
  pub once : length more ≤ 1
  pub exchanges : new.exchanges ≡ option_map (λ (xs : List Exchange). xs ++ more) old.exchanges

-- a port gave no answer, and its count of faults rose
pub record Fails (old new other_old other_new : PortState) : Type 0 where
  pub unanswered : Unanswered old new
  pub rose : old.faults < new.faults
  pub other : other_new ≡ other_old

abbrev pub FailsAt : Side → PortState → PortState → PortState → PortState → Type 0
FailsAt From p q p_last q_last = Fails p p_last q q_last
FailsAt To p q p_last q_last = Fails q q_last p p_last

abbrev pub IsNextSide : Standing → Side → Type 0
IsNextSide w side = (a : Asked) × (asks w ≡ Some a) × (a.side ≡ side)

-- How a run ends that has led to this: as the last answer says; or the next call gets no answer; or there is no memory.
abbrev pub EndsRun : Next → PortState → PortState → MirrorEnd → PortState → PortState → Type 0
EndsRun (ends end) p q result p_last q_last = Gives (ends end) (Err result) × (p_last ≡ p) × (q_last ≡ q)
EndsRun (goes w) p q (mirror_ends.Failed side) p_last q_last = IsNextSide w side × FailsAt side p q p_last q_last
EndsRun (goes w) p q mirror_ends.Memory p_last q_last = Stops p p_last × Stops q q_last
EndsRun (goes w) p q (mirror_ends.Done lines) p_last q_last = ⊥
EndsRun (goes w) p q (mirror_ends.Refused side c node) p_last q_last = ⊥
EndsRun (goes w) p q (mirror_ends.NotEmpty node) p_last q_last = ⊥
EndsRun (goes w) p q mirror_ends.TooMany p_last q_last = ⊥
EndsRun (goes w) p q (mirror_ends.Bad side) p_last q_last = ⊥
EndsRun (goes w) p q (mirror_ends.Changed node place) p_last q_last = ⊥

-- A mirror that stands there, over ports that stand there, comes to this end.
pub record Comes (start : Next) (p q : PortState) (result : MirrorEnd) (p_last q_last : PortState) : Type 0 where
  pub turns : List Turn
  pub last : Next
  pub p_mid : PortState
  pub q_mid : PortState
  pub leads : Leads start turns last
  pub from_ran : Ran p (exchanges_of From turns) p_mid
  pub to_ran : Ran q (exchanges_of To turns) q_mid
  pub ended : EndsRun last p_mid q_mid result p_last q_last

-- whatever comes of the one comes of the other
abbrev pub Carries : Next → PortState → PortState → Next → PortState → PortState → Type 0
Carries start p q next p_now q_now = (result : MirrorEnd) (p_last q_last : PortState) → Comes next p_now q_now result p_last q_last → Comes start p q result p_last q_last

-- what asking the next call does: what follows its answer goes on from there, or the run has ended
abbrev pub AskTells : Standing → PortState → PortState → Result Heard MirrorEnd → PortState → PortState → Type 0
AskTells w p q (Ok heard) p_now q_now = Carries (goes w) p q (follows w heard.code heard.reply) p_now q_now × (p_now.is_over ≡ false) × (q_now.is_over ≡ false)
AskTells w p q (Err end) p_now q_now = Comes (goes w) p q end p_now q_now
