use Rattle.std.proofs.Common.{rules, arith, refl, [], ◌∙◌, ap, length}
use Rattle.std.proofs.lemmas.List.{length-drop}
use Rattle.client_files.proofs.SourceLemmas.{gives_front, gives_none}
use Rattle.client_files.proofs.VerifyLemmas.{compare_all, compare_end, compare_fail, compare_more, compare_part, front_size}
use Rattle.client_files.proofs.verify.compare.Goals as goal

pub loop-left-init : goal.loop-left-init
loop-left-init g c = ([], refl, refl, gives_none _, omega arith)

pub loop-left-preserved : goal.loop-left-preserved
loop-left-preserved g c =
    let so_far = c.loop-left.invariant in
    let reads = c.in-Got.ensures.reads in
    let more = compare_more _ _ _ _ _ _ _ _ _ _ so_far.1 so_far.3 (gives_front _ _ _ _ _ reads) (front_size _ _ _ reads.most) c.common-same.ensures (omega arith) c.rest_of-rest.ensures in
    (more.0, more.1, c.read_front.ensures.size ∙ so_far.2, more.2, omega (arith, so_far.4, ap length c.rest_of-rest.ensures, length-drop c.in-Got.n c.loop-left.left.now))

pub returns-then-same-n-clause-compares : goal.returns-then-same-n-clause-compares
returns-then-same-n-clause-compares g c =
    let so_far = c.loop-left.invariant in
    let reads = c.in-Got.ensures.reads in
    compare_part _ _ _ _ _ _ _ _ _ so_far.1 so_far.3 (gives_front _ _ _ _ _ reads) (front_size _ _ _ reads.most) c.common-same.ensures (omega arith)

pub returns-in-End-clause-compares : goal.returns-in-End-clause-compares
returns-in-End-clause-compares g c = let so_far = c.loop-left.invariant in compare_end _ _ _ _ _ _ so_far.1 (search rules) so_far.3 c.in-End.ensures.reads

pub returns-in-Failed-clause-compares : goal.returns-in-Failed-clause-compares
returns-in-Failed-clause-compares g c = let so_far = c.loop-left.invariant in compare_fail _ _ _ _ _ _ so_far.1 so_far.3 c.in-Failed.ensures.reads

pub returns-clause-compares : goal.returns-clause-compares
returns-clause-compares g c = let so_far = c.loop-left.invariant in compare_all _ _ _ _ _ so_far.1 (search rules) so_far.3
