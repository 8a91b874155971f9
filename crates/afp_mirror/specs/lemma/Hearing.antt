-- What an answer says.
use Rattle.std.specs.Prelude.{◌≡◌, ◌<◌, Result, Ok, Err}
use Rattle.afp_base.specs.Cached.{Answer}
use Rattle.afp_calls_grammar.specs.declared.grammar.call.Call.{Call}
use Rattle.afp_replies.specs.Replies.{Shows}
use Rattle.afp_replies.specs.declared.reply.Reply.{Reply}
use Rattle.afp_replies.specs.declared.reply.ReplyKind.{ReplyKind}
use Rattle.afp_mirror_walk.specs.Ports.{Answered, PortState, Unanswered}
use Rattle.afp_mirror.specs.Runs.{Stops}
use Rattle.afp_mirror_walk.specs.declared.walk.ends.MirrorEnd.{MirrorEnd}
use Rattle.afp_mirror_walk.specs.declared.walk.ends.MirrorEnd.TheVariants as mirror_ends
use Rattle.afp_mirror_walk.specs.declared.walk.ends.Side.{Side}
use Rattle.afp_mirror_walk.specs.declared.walk.stepping.Heard.{Heard}

-- the reply that a block shows, or that it shows none; or there is no memory
abbrev pub Hears : Side → ReplyKind → Answer → Result Heard MirrorEnd → Type 0
Hears side kind a (Ok heard) = (heard.code ≡ a.code) × Shows heard.reply kind a.code a.block
Hears side kind a (Err mirror_ends.Memory) = Unit {0}
Hears side kind a (Err (mirror_ends.Bad other)) = (other ≡ side) × ((reply : Reply) → Shows reply kind a.code a.block → ⊥)
Hears side kind a (Err (mirror_ends.Done lines)) = ⊥
Hears side kind a (Err (mirror_ends.Refused other c node)) = ⊥
Hears side kind a (Err (mirror_ends.NotEmpty node)) = ⊥
Hears side kind a (Err mirror_ends.TooMany) = ⊥
Hears side kind a (Err (mirror_ends.Changed node place)) = ⊥
Hears side kind a (Err (mirror_ends.Failed other)) = ⊥

-- a port answered, and this was heard of it; or it gave no answer; or there was no memory
abbrev pub Tells : Side → Call → ReplyKind → PortState → Result Heard MirrorEnd → PortState → Type 0
Tells side call kind p result p_now = (a : Answer) × Answered p call a p_now × Hears side kind a result

abbrev pub PortTells : Side → Call → ReplyKind → PortState → Result Heard MirrorEnd → PortState → Type 0
PortTells side call kind p (Ok heard) p_now = Tells side call kind p (Ok heard) p_now
PortTells side call kind p (Err (mirror_ends.Bad other)) p_now = Tells side call kind p (Err (mirror_ends.Bad other)) p_now
PortTells side call kind p (Err mirror_ends.Memory) p_now = Stops p p_now
PortTells side call kind p (Err (mirror_ends.Failed other)) p_now = (other ≡ side) × Unanswered p p_now × (p.faults < p_now.faults)
PortTells side call kind p (Err (mirror_ends.Done lines)) p_now = ⊥
PortTells side call kind p (Err (mirror_ends.Refused other c node)) p_now = ⊥
PortTells side call kind p (Err (mirror_ends.NotEmpty node)) p_now = ⊥
PortTells side call kind p (Err mirror_ends.TooMany) p_now = ⊥
PortTells side call kind p (Err (mirror_ends.Changed node place)) p_now = ⊥
