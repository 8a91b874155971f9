use Rattle.std.proofs.Common.{◌∙◌, sym, inl, inr, ap, Some, arith}
use Rattle.afp_names.proofs.PathLemmas.{path_fault-kind, path_fault-element, path_fault-none}
use Rattle.afp_names.proofs.SpellingLemmas.{is_path-read, length-canonical_path, within_longest}
use Rattle.afp_names.proofs.path.Path.read.Goals as goal

pub returns-then-not-is_kind-clause-fault : goal.returns-then-not-is_kind-clause-fault
returns-then-not-is_kind-clause-fault c = inr (path_fault-kind c.args.kind c.args.bytes.now (sym c.is_kind.ensures ∙ c.if-not-is_kind.true))

pub invariant_of-result : goal.invariant_of-result
invariant_of-result c =
    is_path-read c.args.kind c.args.bytes.now c.in-Ok.steps.items (λ k. omega (arith, c.type_inv.bytes k)) (within_longest c.args.kind _ c.requires.fits c.requires.long) (sym c.is_kind.ensures ∙ c.if-not-is_kind.false) c.in-Ok.ensures.good c.in-Ok.ensures.steps

pub returns-in-Ok-clause-path : goal.returns-in-Ok-clause-path
returns-in-Ok-clause-path c =
    record {
      no_fault = path_fault-none c.args.kind c.args.bytes.now (sym c.is_kind.ensures ∙ c.if-not-is_kind.false) c.in-Ok.ensures.good;
      steps = sym c.in-Ok.ensures.steps;
    }

pub returns-in-Err-clause-fault : goal.returns-in-Err-clause-fault
returns-in-Err-clause-fault c =
    elim c.in-Err.ensures.fault [
      | inl memory ↦ inl memory
      | inr element ↦ inr (path_fault-element c.args.kind c.args.bytes.now (sym c.is_kind.ensures ∙ c.if-not-is_kind.false) element.1 ∙ ap (λ f. Some f) (sym element.0))
    ]

pub returns-in-Ok-clause-shortest : goal.returns-in-Ok-clause-shortest
returns-in-Ok-clause-shortest c =
    length-canonical_path c.args.kind c.args.bytes.now c.in-Ok.steps.items (λ k. omega (arith, c.type_inv.bytes k)) c.in-Ok.ensures.steps
