use Rattle.std.proofs.Common.{◌∙◌, ap, sym, subst, length, List, Option, ℕ}
use Rattle.afp_base.specs.Cached.{Answer, cached_answer}
use Rattle.afp_serial.specs.Answer.{request}
use Rattle.afp_core_state.specs.KeptWorld.{KeptWorld}
use Rattle.session_table.specs.Sessions.{session_of}
use Rattle.afp_core_dispatch.specs.lemma.Fits.{HasRoomFor}
use Rattle.afp_core_dispatch.proofs.call.put_again.Goals as goal

pub put_kept-requires : goal.put_kept-requires
put_kept-requires g c =
    let x = c.requires.there.session in
    let found = c.requires.there.numbered in
    let q = c.args.request.now in
    let kept = c.in-Some.ensures x (ap (λ (k : KeptWorld). session_of k.world.sessions c.args.session.0) c.state.view_is ∙ found) ∙ ap (λ (b : List ℕ). cached_answer x.cache (request q.id q.write q.offset b)) c.as_slice.ensures in
    record { room = subst (λ (o : Option Answer). HasRoomFor o (length c.args.out.now)) (sym kept) (c.requires.room x found) }
