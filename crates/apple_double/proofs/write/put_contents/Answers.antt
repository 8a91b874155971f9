use Rattle.std.proofs.Common.{ap, ℕ, List, ◌∙◌, ◌≡◌, ◌++◌}
use Rattle.apple_double.specs.Contents.{name_id, comment_id, dates_id, finder_id, resource_id}
use Rattle.apple_double.specs.Written.{Entry, contents, data_entry, dates_bytes, entry, entry_if}
use Rattle.apple_double.proofs.Pieces.{contents-one, contents-more, keeps-behind, on_err}
use Rattle.apple_double.proofs.write.put_contents.Goals as goal

pub returns-in_err-put_comment-clause-err : goal.returns-in_err-put_comment-clause-err
returns-in_err-put_comment-clause-err c =
    let o : List ℕ = c.args.out.now in
    let p = c.args.p.now in
    let x1 : List Entry = entry_if name_id p.name in
    let x2 : List Entry = x1 ++ entry dates_id (dates_bytes p) in
    let x3 : List Entry = x2 ++ entry finder_id p.finder in
    let e2 = contents-one o c.put_name.new.out c.put_dates.new.out dates_id x1 (dates_bytes p) c.in_ok-put_name.ensures.ok c.in_ok-put_dates.ensures.ok in
    let e3 = contents-one o c.put_dates.new.out c.extend.new.self finder_id x2 p.finder e2 c.in_ok-extend.ensures.ok in
    on_err c.from_residual-in_err-put_comment.result (keeps-behind o c.extend.new.self c.put_comment.new.out (contents x3) e3 c.in_err-put_comment.ensures.err)

pub returns-in_err-put_data-clause-err : goal.returns-in_err-put_data-clause-err
returns-in_err-put_data-clause-err c =
    let o : List ℕ = c.args.out.now in
    let p = c.args.p.now in
    let x1 : List Entry = entry_if name_id p.name in
    let x2 : List Entry = x1 ++ entry dates_id (dates_bytes p) in
    let x3 : List Entry = x2 ++ entry finder_id p.finder in
    let x4 : List Entry = x3 ++ entry_if comment_id p.comment in
    let x5 : List Entry = x4 ++ entry resource_id p.resource_fork in
    let r : c.extend-2.new.self ≡ c.put_comment.new.out ++ p.resource_fork = c.in_ok-extend-2.ensures.ok ∙ ap (λ (z : List ℕ). c.put_comment.new.out ++ z) c.as_slice.ensures in
    let e2 = contents-one o c.put_name.new.out c.put_dates.new.out dates_id x1 (dates_bytes p) c.in_ok-put_name.ensures.ok c.in_ok-put_dates.ensures.ok in
    let e3 = contents-one o c.put_dates.new.out c.extend.new.self finder_id x2 p.finder e2 c.in_ok-extend.ensures.ok in
    let e4 = contents-more o c.extend.new.self c.put_comment.new.out x3 (entry_if comment_id p.comment) e3 c.in_ok-put_comment.ensures.ok in
    let e5 = contents-one o c.put_comment.new.out c.extend-2.new.self resource_id x4 p.resource_fork e4 r in
    on_err c.from_residual-in_err-put_data.result (keeps-behind o c.extend-2.new.self c.put_data.new.out (contents x5) e5 c.in_err-put_data.ensures.err)

pub returns-clause-ok : goal.returns-clause-ok
returns-clause-ok c =
    let o : List ℕ = c.args.out.now in
    let p = c.args.p.now in
    let x1 : List Entry = entry_if name_id p.name in
    let x2 : List Entry = x1 ++ entry dates_id (dates_bytes p) in
    let x3 : List Entry = x2 ++ entry finder_id p.finder in
    let x4 : List Entry = x3 ++ entry_if comment_id p.comment in
    let x5 : List Entry = x4 ++ entry resource_id p.resource_fork in
    let r : c.extend-2.new.self ≡ c.put_comment.new.out ++ p.resource_fork = c.in_ok-extend-2.ensures.ok ∙ ap (λ (z : List ℕ). c.put_comment.new.out ++ z) c.as_slice.ensures in
    let e2 = contents-one o c.put_name.new.out c.put_dates.new.out dates_id x1 (dates_bytes p) c.in_ok-put_name.ensures.ok c.in_ok-put_dates.ensures.ok in
    let e3 = contents-one o c.put_dates.new.out c.extend.new.self finder_id x2 p.finder e2 c.in_ok-extend.ensures.ok in
    let e4 = contents-more o c.extend.new.self c.put_comment.new.out x3 (entry_if comment_id p.comment) e3 c.in_ok-put_comment.ensures.ok in
    let e5 = contents-one o c.put_comment.new.out c.extend-2.new.self resource_id x4 p.resource_fork e4 r in
    contents-more o c.extend-2.new.self c.put_data.new.out x5 (data_entry c.args.shape p.data_fork) e5 c.in_ok-put_data.ensures.ok
