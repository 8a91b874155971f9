use Rattle.std.proofs.Common.{◌∙◌, ap, sym, refl, Option}
use Rattle.afp_base.specs.Choice.{first_holding}
use Rattle.afp_serial.specs.SessionToken.{old_session, old_session_refusals}
use Rattle.afp_serial.specs.World.{Session}
use Rattle.session_table.specs.Sessions.{ended, replaced, with_sessions}
use Rattle.session_table.proofs.SessionLemmas.{session_of-number}
use Rattle.session_table.proofs.TokenLemmas.{refuses-another, refuses-not, refuses-open}
use Rattle.session_table.proofs.sessions.Sessions.adopt.Goals as goal

pub returns-in_default : goal.returns-in_default
returns-in_default c = λ x at. (
  ap (λ (q : Option Session). first_holding (old_session_refusals x q))
      (ap (λ n. old_session c.args.self.now.token_key c.args.now c.args.self.now.sessions n c.args.token.now) (session_of-number c.args.self.now.sessions c.args.s.0 x at) ∙ c.in_default.ensures),
  refl,
)

pub returns-then-is_of_another : goal.returns-then-is_of_another
returns-then-is_of_another c = λ x at.
    let i = c.in-Some.ensures in (
      ap (λ (q : Option Session). first_holding (old_session_refusals x q))
          (ap (λ n. old_session c.args.self.now.token_key c.args.now c.args.self.now.sessions n c.args.token.now) (session_of-number c.args.self.now.sessions c.args.s.0 x at) ∙ i.first)
          ∙ refuses-another x i.session (sym (c.is_of_another.ensures x i.session at i.numbered) ∙ c.if-is_of_another.true),
      refl,
    )

pub returns-then-has_volumes : goal.returns-then-has_volumes
returns-then-has_volumes c = λ x at.
    let i = c.in-Some.ensures in (
      ap (λ (q : Option Session). first_holding (old_session_refusals x q))
          (ap (λ n. old_session c.args.self.now.token_key c.args.now c.args.self.now.sessions n c.args.token.now) (session_of-number c.args.self.now.sessions c.args.s.0 x at) ∙ i.first)
          ∙ refuses-open x i.session (sym (c.is_of_another.ensures x i.session at i.numbered) ∙ c.if-is_of_another.false) (sym (c.has_volumes.ensures x at) ∙ c.if-has_volumes.true),
      refl,
    )

pub returns : goal.returns
returns c = λ x at.
    let i = c.in-Some.ensures in
    let same = session_of-number c.args.self.now.sessions c.args.s.0 x at in (
      i.session,
      ap (λ n. old_session c.args.self.now.token_key c.args.now c.args.self.now.sessions n c.args.token.now) same ∙ i.first,
      refuses-not x i.session (sym (c.is_of_another.ensures x i.session at i.numbered) ∙ c.if-is_of_another.false) (sym (c.has_volumes.ensures x at) ∙ c.if-has_volumes.false),
      i.same,
      c.rejoin.ensures x i.session at i.numbered ∙ ap (λ n. with_sessions c.args.self.now (replaced (ended c.args.self.now.sessions n) (record i.session { place = x.place }))) (sym same),
    )
