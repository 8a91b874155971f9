use Rattle.std.proofs.Common.{◌≡◌, ◌∙◌, [], ◌∷◌, ap, length, length-append, arith}
use Rattle.std.proofs.lemmas.List.Elements.{All-append, All-cons, All-nil}
use Rattle.afpd.specs.Doors.{unused_door}
use Rattle.afpd.proofs.doors.doors_at.Goals as goal

pub loop-preserved : goal.loop-preserved
loop-preserved c =
    let last = All-cons (λ door. door ≡ unused_door c.args.links) c.beside.result [] c.beside.ensures (All-nil (λ door. door ≡ unused_door c.args.links)) in
    let longer = ap length c.in_ok-push.ensures.items ∙ length-append c.loop.doors.items (c.beside.result ∷ []) in
    record {
      unused = rw c.in_ok-push.ensures.items (All-append (λ door. door ≡ unused_door c.args.links) c.loop.doors.items _ c.loop.invariant.unused last);
      many = omega (arith, longer, c.loop.invariant.many);
    }
