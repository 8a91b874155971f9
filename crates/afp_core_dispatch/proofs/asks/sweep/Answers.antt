use Rattle.std.proofs.Common.{◌≡◌, ◌∙◌, ◌<◌, ap, sym, subst, length, filter, not, ◌==◌, ℕ, None}
use Rattle.std.specs.Prelude.{find}
use Rattle.afp_serial.specs.Answer.{without_expired}
use Rattle.afp_serial.specs.World.{is_expired, without_session, World, Session}
use Rattle.afp_core_state.specs.KeptWorld.{KeptWorld}
use Rattle.session_table.specs.Sessions.{IsGone}
use Rattle.afp_serial.proofs.EndsOneByOne.{ends-none, one-by-one}
use Rattle.afp_core_dispatch.specs.Asks.{IsReadyToAsk}
use Rattle.afp_core_dispatch.proofs.ReadyLemmas.{one-less, ready, ready-without}
use Rattle.afp_core_dispatch.proofs.asks.sweep.Goals as goal

pub end-requires : goal.end-requires
end-requires g c = ready c.loop-session.state.world c.loop-session.invariant.0

pub loop-session-smaller : goal.loop-session-smaller
loop-session-smaller g c =
    let w = c.loop-session.state.world in
    let gone = subst (λ (k : KeptWorld). IsGone k.world.sessions k.world.latest c.in-Some.session.0) c.state.view_is c.in-Some.ensures in
    subst (λ (k : KeptWorld). length k.world.sessions < length w.sessions) (sym c.end.ensures)
    (subst (λ (n : ℕ). length (filter (λ (x : Session). not (x.number == n)) w.sessions) < length w.sessions) gone.same (one-less (λ x. is_expired w.latest x.place) w.sessions gone.session gone.first))

pub loop-session-preserved : goal.loop-session-preserved
loop-session-preserved g c =
    let k = c.loop-session.state in
    let w = k.world in
    let n = c.in-Some.session.0 in
    let gone = subst (λ (k : KeptWorld). IsGone k.world.sessions k.world.latest n) c.state.view_is c.in-Some.ensures in (
      subst (λ (k : KeptWorld). IsReadyToAsk k.world) (sym c.end.ensures) (ready-without w n c.loop-session.invariant.0),
      ap (λ (k : KeptWorld). record k { world = without_expired k.world }) c.end.ensures
          ∙ ap (λ (v : World). record k { world = v }) (ap (λ (m : ℕ). without_expired (without_session w m)) (sym gone.same) ∙ one-by-one w gone.session c.loop-session.invariant.0.sound gone.first)
          ∙ c.loop-session.invariant.1,
    )

pub returns : goal.returns
returns g c =
    let k = c.loop-session.state in
    let none = subst (λ (k : KeptWorld). find (λ (s : Session). is_expired k.world.latest s.place) k.world.sessions ≡ None) c.state.view_is c.in_default.ensures in
    ap (λ (v : World). record k { world = v }) (sym (ends-none k.world c.loop-session.invariant.0.sound none)) ∙ c.loop-session.invariant.1
