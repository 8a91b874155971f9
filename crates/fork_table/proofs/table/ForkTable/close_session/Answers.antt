use Rattle.std.proofs.Common.{◌∙◌, ◌<◌, sym, subst, length}
use Rattle.fork_table.specs.ForkTable.{is_open_of_session}
use Rattle.fork_table.proofs.Keeping.{shorter, closing_more, closing_done}
use Rattle.fork_table.proofs.table.ForkTable.close_session.Goals as goal

pub loop-r-smaller : goal.loop-r-smaller
loop-r-smaller c = subst (λ l. length l < length c.loop-r.self.opens) (sym c.close.ensures.opens) (shorter (λ row. (is_open_of_session c.args.s.0) row.1) c.loop-r.self.opens c.in-Some.r.0 c.in-Some.ensures)

pub loop-r-preserved : goal.loop-r-preserved
loop-r-preserved c =
    closing_more (is_open_of_session c.args.s.0) c.loop-r.self c.close.new.self c.in-Some.r.0 c.keeps_sound.ensures.rising c.in-Some.ensures c.close.ensures.opens c.close.ensures.locks ∙ c.loop-r.invariant

pub returns : goal.returns
returns c = sym (closing_done (is_open_of_session c.args.s.0) c.loop-r.self c.keeps_sound-2.ensures.held c.in_default.ensures) ∙ c.loop-r.invariant
