use Rattle.std.proofs.Common.{◌∙◌, sym}
use Rattle.client_script_lines.proofs.OfLines.Elements.{last_element, bad_element, good_element}
use Rattle.client_script_lines.proofs.lines.element.are_elements.Goals as goal

pub returns-then-not-has_byte : goal.returns-then-not-has_byte
returns-then-not-has_byte c = rw (c.loop-alloc.invariant ∙ last_element c.loop-alloc.left.now (sym c.has_byte.ensures.place ∙ c.if-not-has_byte.true)) c.is_element.ensures

pub returns-then-not-branch : goal.returns-then-not-branch
returns-then-not-branch c =
    sym (bad_element c.args.text.now c.loop-alloc.left.now c.parts_at.result.0.now c.loop-alloc.invariant (sym c.has_byte.ensures.place ∙ c.if-not-has_byte.false) c.parts_at.ensures.before
    (sym c.in_ok-is_element.ensures ∙ c.if-not-branch.true))

pub loop-alloc-preserved : goal.loop-alloc-preserved
loop-alloc-preserved c =
    good_element c.args.text.now c.loop-alloc.left.now c.parts_at.result.0.now c.parts_at.result.1.now c.loop-alloc.invariant (sym c.has_byte.ensures.place ∙ c.if-not-has_byte.false)
    c.parts_at.ensures.before c.parts_at.ensures.after (sym c.in_ok-is_element.ensures ∙ c.if-not-branch.false)
