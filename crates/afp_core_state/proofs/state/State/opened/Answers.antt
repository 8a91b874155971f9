use Rattle.std.proofs.Common.{◌∙◌, ap, sym}
use Rattle.afp_core_state.specs.KeptWorld.{KeptWorld}
use Rattle.session_table.specs.Sessions.{session_of}
use Rattle.afp_core_state.proofs.OnVolumeLemmas.{index-opens, refused-unopened}
use Rattle.afp_core_state.proofs.state.State.opened.Goals as goal

pub returns-then-not-has_volume : goal.returns-then-not-has_volume
returns-then-not-has_volume g c = λ s at refuses.
    let there = ap (λ (k : KeptWorld). session_of k.world.sessions c.args.session.0) c.self.view_is ∙ at in
    refused-unopened c.args.self.now.world s c.args.volume.0 refuses (sym (c.has_volume.ensures s there) ∙ c.if-not-has_volume.true)

pub returns : goal.returns
returns g c =
    index-opens c.args.self.now c.args.session.0 c.args.volume.0 c.index.result c.index.ensures
    (λ s at. sym (c.has_volume.ensures s (ap (λ (k : KeptWorld). session_of k.world.sessions c.args.session.0) c.self.view_is ∙ at)) ∙ c.if-not-has_volume.false)
