use Rattle.std.proofs.Common.{refl, inl, inr}
use Rattle.afp_calls_grammar.specs.grammar.Words.{Pathname}
use Rattle.afp_calls_grammar.proofs.OfFields.WordLemmas.{path_by_pieces, path_cut, path_refused, path_of_no_type, path_lacks_type, refused}
use Rattle.afp_calls_grammar.proofs.fields.fields.Fields.path_on.Goals as goal

pub returns-in-Err : goal.returns-in-Err
returns-in-Err c =
    refused Pathname c.args.self.now c.piece.new.self c.in-Err.fault c.in-Err.ensures.2 (λ more. path_lacks_type more c.args.self.now c.in-Err.ensures.0 c.in-Err.ensures.1)

pub returns-then-kind-ne-UTF8_NAMES : goal.returns-then-kind-ne-UTF8_NAMES
returns-then-kind-ne-UTF8_NAMES c =
    path_of_no_type _ c.args.self.now c.piece.new.self c.in-Ok.piece.now (record { there = c.in-Ok.ensures.1; piece_is = c.in-Ok.ensures.2; behind_it = c.in-Ok.ensures.3; kind_is = refl }) c.if-kind-ne-LONG_NAMES.true c.if-kind-ne-UTF8_NAMES.true

pub returns-in-Err-path_text : goal.returns-in-Err-path_text
returns-in-Err-path_text c =
    refused Pathname c.args.self.now c.path_text.new.self c.in-Err-path_text.fault c.in-Err-path_text.ensures.text.1
    (path_cut _ c.args.self.now c.piece.new.self c.in-Ok.piece.now (record { there = c.in-Ok.ensures.1; piece_is = c.in-Ok.ensures.2; behind_it = c.in-Ok.ensures.3; kind_is = refl }) c.in-Err-path_text.ensures.text.0)

pub returns-in-Ok-read : goal.returns-in-Ok-read
returns-in-Ok-read c =
    path_by_pieces _ c.in-Ok-read.path c.args.self.now c.piece.new.self c.path_text.new.self c.in-Ok.piece.now c.in-Ok-path_text.text.now (record { there = c.in-Ok.ensures.1; piece_is = c.in-Ok.ensures.2; behind_it = c.in-Ok.ensures.3; kind_is = refl })
    c.in-Ok-path_text.ensures.text.0 c.in-Ok-path_text.ensures.text.1 c.in-Ok-path_text.ensures.text.2 c.in-Ok-read.ensures.kind c.in-Ok-read.ensures.path

pub returns-in_default : goal.returns-in_default
returns-in_default c = elim c.in-Err-read.ensures.fault [
  | inl memory ↦ absurd (c.in_default.not-Memory memory)
  | inr bad ↦ path_refused _ c.in-Err-read.fault c.args.self.now c.piece.new.self c.in-Ok.piece.now c.in-Ok-path_text.text.now (record { there = c.in-Ok.ensures.1; piece_is = c.in-Ok.ensures.2; behind_it = c.in-Ok.ensures.3; kind_is = refl }) c.in-Ok-path_text.ensures.text.1 bad
]
