use Rattle.std.proofs.Common.{List, [], ◌∷◌, ◌++◌, map, sym, ap, ◌∙◌, append_assoc, rules}
use Rattle.std.proofs.lemmas.List.{map-append}
use Rattle.afp_desk.specs.declared.workers.gather.Done.{Done}
use Rattle.afpd_lib.proofs.server.server.take_doors.Goals as goal

pub loop-one-preserved : goal.loop-one-preserved
loop-one-preserved g c =
    let Y : Type 0 = g.row.N.Denot in
    let i = c.loop-one.invariant in
    let one = c.in-Some.one in
    record {
      doors = c.push_reserved.ensures.items ∙ ap (λ (l : List Y). l ++ one.door ∷ []) i.doors ∙ append_assoc c.args.doors.now.items (map (λ (d : Done Y). d.door) c.loop-one.yielded) (one.door ∷ [])
          ∙ ap (λ (l : List Y). c.args.doors.now.items ++ l) (sym (map-append (λ (d : Done Y). d.door) c.loop-one.yielded (one ∷ [])));
      room = search rules;
    }
