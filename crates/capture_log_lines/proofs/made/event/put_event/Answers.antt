use Rattle.std.proofs.Common.{◌∙◌, ◌++◌, ap, ℕ}
use Rattle.std.specs.Fmt.{decimal}
use Rattle.capture_log_lines.proofs.OfMade.Joining.{line-put, on_ok_with}
use Rattle.capture_log_lines.proofs.made.event.put_event.Goals as goal

pub returns : goal.returns
returns c =
    on_ok_with c.put_hexadecimal.result _ _
    (λ e. line-put c.args.out.now c.extend.new.self c.put_number.new.out c.extend-2.new.self c.put_number-2.new.out c.extend-3.new.self c.extend-4.new.self c.extend-5.new.self c.put_hexadecimal.new.out c.args.word.now c.args.bytes.now
    c.args.link c.args.now
    c.in_ok-extend.ensures.ok (c.in_ok-put_number.ensures.ok ∙ ap (λ (n : ℕ). c.extend.new.self ++ decimal n) c.from.ensures) c.in_ok-extend-2.ensures.ok
    (c.in_ok-put_number-2.ensures.ok ∙ ap (λ (n : ℕ). c.extend-2.new.self ++ decimal n) (c.from-2.ensures ∙ c.seconds.ensures.value)) c.in_ok-extend-3.ensures.ok c.in_ok-extend-4.ensures.ok c.in_ok-extend-5.ensures.ok e)
    c.put_hexadecimal.ensures
