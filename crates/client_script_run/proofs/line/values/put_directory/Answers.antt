use Rattle.std.proofs.Common.{sym, ap, ◌∙◌, List, ℕ}
use Rattle.client_script_run.specs.line.Values.{last_of, names_in}
use Rattle.client_script_run.proofs.OfLine.ValueLemmas.{all-put, last-name, more-put, next-name}
use Rattle.client_script_run.proofs.line.values.put_directory.Goals as goal

pub returns-then-not-has_byte-clause-directory : goal.returns-then-not-has_byte-clause-directory
returns-then-not-has_byte-clause-directory c =
    all-put c.args.out.now c.loop-alloc.out c.args.word.now c.loop-alloc.left.now c.loop-alloc.invariant.directory (sym c.has_byte.ensures.place ∙ c.if-not-has_byte.true)

pub returns-then-not-has_byte-clause-name : goal.returns-then-not-has_byte-clause-name
returns-then-not-has_byte-clause-name c = sym (last-name c.loop-alloc.left.now (sym c.has_byte.ensures.place ∙ c.if-not-has_byte.true)) ∙ c.loop-alloc.invariant.name

pub loop-alloc-preserved : goal.loop-alloc-preserved
loop-alloc-preserved c = record {
  directory = more-put c.args.out.now c.loop-alloc.out c.put_ended.new.out c.args.word.now c.loop-alloc.left.now c.parts_at.result.0.now c.parts_at.result.1.now
      c.loop-alloc.invariant.directory (sym c.has_byte.ensures.place ∙ c.if-not-has_byte.false) c.parts_at.ensures.before c.parts_at.ensures.after c.in_ok-put_ended.ensures;
  name = ap (λ (t : List ℕ). last_of (names_in t)) c.parts_at.ensures.after ∙ sym (next-name c.loop-alloc.left.now (sym c.has_byte.ensures.place ∙ c.if-not-has_byte.false)) ∙ c.loop-alloc.invariant.name;
}
