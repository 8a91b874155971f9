use Rattle.std.proofs.Common.{List, [], ◌∷◌, ◌++◌, ap, length, subst, sym, ◌∙◌, arith, rules}
use Rattle.afp_client.specs.declared.links.talk.Limit.{Limit}
use Rattle.client_script_run.specs.asker.Read.{zipped}
use Rattle.client_script_run.specs.asker.Standing.{OpensNone, first_of}
use Rattle.client_script_run.specs.declared.asker.asker.AskEnd.TheVariants as ends
use Rattle.client_script_run.proofs.OfAsker.StandingLemmas.{opens-asker, opens-none}
use Rattle.client_script_run.proofs.asker.asker.open_asker.Goals as goal

pub open-requires-clause-some : goal.open-requires-clause-some
open-requires-clause-some g c = omega (arith, c.new-talk.ensures.room, c.requires.some)

pub open-requires-clause-small : goal.open-requires-clause-small
open-requires-clause-small g c = omega (arith, c.new-talk.ensures.room, c.requires.small)

pub open-requires-clause-turns : goal.open-requires-clause-turns
open-requires-clause-turns g c = omega (arith, c.new-talk.ensures.turns, c.requires.turns)

pub invariant_of-result : goal.invariant_of-result
invariant_of-result g c =
    let was = c.new-talk.result in
    let now = c.open.new.self in
    let first : Limit = record { turns = c.args.turns; spent = 0 } in
    let is_turns = c.open.ensures.turns ∙ c.new-talk.ensures.turns in (
      c.new-in-Ok-2.ensures,
      opens-asker g.D.Link.Link.link_state c.args.core c.of.result.value (g.D.Dialer.dialer_state c.args.dialer) (g.D.Dialer.dialer_state c.of-2.result.value) was.turns now.turns c.args.turns c.and-limits.result.items
          (zipped c.new-in-Ok.result.calls.items c.new-in-Ok.result.answers.items) was.link now.link was.core now.core now.out (length now.room.items)
          was.noted now.noted was.idle now.idle was.cost now.cost 0 (g.D.Dialer.dialer_state was.dialer) (g.D.Dialer.dialer_state now.dialer) c.in-Ok.field-0
          (search rules) (search rules) c.new-talk.ensures.stands c.in-Ok.ensures.opens c.new-talk.ensures.turns is_turns (c.and-limits.ensures ∙ ap (λ (ls : List Limit). ls ++ first ∷ []) c.new-none.ensures)
          c.new-in-Ok.ensures c.in-Ok.ensures.link c.in-Ok.ensures.empty c.in-Ok.ensures.ready
          (omega (arith, c.open.ensures.room, c.new-talk.ensures.room, c.requires.some)) (omega (arith, c.open.ensures.room, c.new-talk.ensures.room, c.requires.small)) c.in-Ok.ensures.below c.in-Ok.ensures.fits
          (omega (arith, is_turns, c.requires.turns)),
    )

pub returns-in-Err-clause-failed : goal.returns-in-Err-clause-failed
returns-in-Err-clause-failed g c =
    let state = g.D.Link.Link.link_state in
    let was = c.new-talk.result in
    let now = c.open.new.self in
    let first = first_of c.args.core c.args.turns in
    let old = g.D.Dialer.dialer_state c.args.dialer in
    subst (λ (d : g.row.D.Denot). OpensNone state c.args.turns first old (ends.Links c.in-Err.end) (g.D.Dialer.dialer_state d)) (sym c.into_dialer.ensures)
    (opens-none state was.turns c.args.turns first old c.in-Err.end now.link now.core now.noted now.idle now.cost (g.D.Dialer.dialer_state now.dialer)
    (c.in-Err.ensures.opens first old [] c.new-talk.ensures.turns c.new-talk.ensures.stands) c.new-talk.ensures.turns)
