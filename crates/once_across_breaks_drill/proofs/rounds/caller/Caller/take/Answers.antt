use Rattle.std.proofs.Common.{◌∙◌, sym, arith}
use Rattle.once_across_breaks_drill.proofs.OfRounds.Taking.{IsTakenWhole, taken-whole}
use Rattle.once_across_breaks_drill.proofs.rounds.caller.Caller.take.Goals as goal

pub invariant_of-result : goal.invariant_of-result
invariant_of-result c =
    let x : IsTakenWhole c.self.inside.client c.args.reply.now c.args.out.now c.event-event.result c.event-event.new.self c.event-event.new.out c.requires.2 =
    taken-whole c.the_next_frame_decides.ensures.frame c.one_frame.ensures.bytes c.self.inside.client c.feed-size.new.self c.event-event.new.self c.args.self c.args.reply.now c.args.out.now c.event-event.new.out c.event-event.result c.feed-size.result
    c.requires.0 c.requires.1 c.requires.2 c.self.view_is c.self.invariant.whole c.feed-size.ensures.taken c.feed-size.ensures.rest c.feed-size.ensures.place c.feed-size.ensures.state c.event-event.ensures.happens
    (sym c.is_memory.ensures ∙ c.if-is_memory.false) c.requires.3 in
    record { whole = x.rest; most = omega (arith, x.place, c.self.invariant.most) }

pub returns : goal.returns
returns c = λ f code does next.
    let x : IsTakenWhole c.self.inside.client c.args.reply.now c.args.out.now c.event-event.result c.event-event.new.self c.event-event.new.out does =
    taken-whole c.the_next_frame_decides.ensures.frame c.one_frame.ensures.bytes c.self.inside.client c.feed-size.new.self c.event-event.new.self c.args.self c.args.reply.now c.args.out.now c.event-event.new.out c.event-event.result c.feed-size.result
    f code does c.self.view_is c.self.invariant.whole c.feed-size.ensures.taken c.feed-size.ensures.rest c.feed-size.ensures.place c.feed-size.ensures.state c.event-event.ensures.happens
    (sym c.is_memory.ensures ∙ c.if-is_memory.false) next in
    (x.made.state, x.made.comes, x.made.sent)
