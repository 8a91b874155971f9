use Rattle.std.proofs.Common.{◌∙◌, ap, sym, refl, List, ℕ, false}
use Rattle.afp_base.specs.declared.code.Code.TheVariants.{Ok, ParamErr}
use Rattle.afp_calls_grammar.specs.declared.grammar.call.Call.TheVariants.{CloseDir}
use Rattle.afp_serial.specs.declared.ask.Told.TheVariants.{Reply}
use Rattle.afp_core_state.specs.KeptWorld.{KeptWorld}
use Rattle.session_table.specs.Sessions.{session_of}
use Rattle.afp_core_calls.proofs.OfDirectory.NodeRows.{close_dir-runs, close_dir-unopened}
use Rattle.afp_core_state.proofs.RowLemmas.{is_refused}
use Rattle.afp_core_calls.proofs.directory.open_dir.close_dir.Goals as goal

pub returns-then-not-has_volume : goal.returns-then-not-has_volume
returns-then-not-has_volume g c = λ s at.
    let there = ap (λ (k : KeptWorld). session_of k.world.sessions c.args.session.0) c.state.view_is ∙ at in
    is_refused c.args.state.now _ s (CloseDir c.args.volume c.args._dir) ParamErr _
    (close_dir-unopened c.args.state.now s c.args.volume c.args._dir (sym (c.has_volume.ensures s there) ∙ c.if-not-has_volume.true)) c.refused.ensures refl

pub returns : goal.returns
returns g c = λ s at.
    let there = ap (λ (k : KeptWorld). session_of k.world.sessions c.args.session.0) c.state.view_is ∙ at in
    close_dir-runs c.args.state.now s c.args.volume c.args._dir _ (sym (c.has_volume.ensures s there) ∙ c.if-not-has_volume.false) (c.done.ensures ∙ ap (λ (b : List ℕ). Reply Ok b false) c.new.ensures)
