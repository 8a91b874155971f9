use Rattle.afp_core_dispatch.proofs.KeepingLemmas.{told-fresh, told-kept, told-room}
use Rattle.std.proofs.Common.{length}
use Rattle.afp_core_dispatch.specs.lemma.Requests.{as_request}
use Rattle.afp_core_dispatch.proofs.call.answer.Goals as goal

pub put_told-answered-requires : goal.put_told-answered-requires
put_told-answered-requires g c =
    record { room = told-room c.args.state.now c.told_to.new.state c.args.session.0 (as_request c.args.request) (c.in_ok-told.told, c.in_ok-told.outcome) (length c.args.out.now) c.requires.there c.requires.fits c.in_ok-told.ensures c.requires.room }

pub keep-requires : goal.keep-requires
keep-requires g c =
    told-fresh c.args.state.now c.told_to.new.state c.args.session.0 (as_request c.args.request) (c.in_ok-told.told, c.in_ok-told.outcome) c.requires.there c.requires.ready.sound c.requires.fresh c.in_ok-told.ensures

pub returns-clause-runs : goal.returns-clause-runs
returns-clause-runs g c =
    told-kept c.args.state.now c.told_to.new.state c.keep.new.state c.args.session.0 (as_request c.args.request) c.in_ok-told.told _ c.in_ok-told.outcome c.in_ok-told.ensures c.put_told-answered.ensures.told c.keep.ensures
