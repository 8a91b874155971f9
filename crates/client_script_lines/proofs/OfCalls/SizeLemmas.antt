-- Requests fit a frame by the sizes of their fields.
use Rattle.std.proofs.Common.{◌≡◌, ℕ, ◌+◌, ◌≤◌, ◌%◌, ◌<◌, ◌==◌, Bool, true, false, List, [], ◌∷◌, ◌++◌, length, Option, None, Some, refl, ap, sym, subst, ◌∙◌, arith, length-append, cond}
use Rattle.std.specs.Prelude.{replicate, ℤ}
use Rattle.std.specs.Int.{w32, w64, cast_unsigned}
use Rattle.byteorder.specs.Endian.{big_bytes}
use Rattle.std.proofs.lemmas.List.{length-replicate}
use Rattle.afp_base.proofs.Numbers.{length-big_bytes}
use Rattle.afp_base.specs.Limits.{payload_limit}
use Rattle.afp_names.specs.Path.{PathValue, SpellsPath, canonical_path, utf8_names, path_steps, long_names}
use Rattle.afp_names.specs.declared.path.Step.{Step}
use Rattle.afp_calls_grammar.specs.declared.grammar.call.Call.{Call}
use Rattle.afp_calls_grammar.specs.grammar.Call.{IsSpellable, canonical_call, canonical_piece, layout_of}
use Rattle.afp_calls_grammar.specs.grammar.Words.{RequestField, Value, Word, Literal, Pad, LastPad, Even, Number, Within, Count, Optional, Signed32, Signed64, Plain, Counted, Pathname, Tail, canonical, canonical_fields, count_size, enclosed_bytes, hint_size, optional_bytes}
use Rattle.client_script_lines.specs.calls.Asked.{IsAskable, IsCommand}
use Rattle.client_script_lines.specs.calls.Places.{place}
use Rattle.client_script_lines.specs.calls.Requests.{date_bytes, settings_of}
use Rattle.client_script_lines.specs.calls.lemma.Sizes.{fields_size, word_size}

-- the path that is read is the one that the bytes spell
pub place_is : (p : PathValue) (text : List ℕ) → p.kind ≡ utf8_names → SpellsPath text p → p ≡ place text
place_is p text k s =
    let steps : path_steps utf8_names text ≡ p.steps = subst (λ (kind : ℕ). path_steps kind text ≡ p.steps) k s.steps in
    ap (λ (kind : ℕ). record { kind = kind; steps = p.steps }) k ∙ ap (λ (steps : List Step). record { kind = utf8_names; steps = steps }) (sym steps)

optional-size : (n : ℕ) (x : Option ℕ) → length (optional_bytes n x) ≤ n
optional-size n None = omega arith
optional-size n (Some x) = omega (arith, length-big_bytes n x)

sizes-by : (b : Bool) → (cond b 0 4) + (cond b 1 2) ≤ 6
sizes-by true = omega arith
sizes-by false = omega arith

hint-size : (kind : ℕ) → hint_size kind + count_size kind ≤ 6
hint-size kind = sizes-by (kind == long_names)

word-fits : (w : Word) (x : Value w) (at : ℕ) → length (canonical w x at) ≤ word_size w x
word-fits (Literal n) x at = omega arith
word-fits Pad x at = omega arith
word-fits LastPad x at = omega arith
word-fits Even x at = omega (arith, length-replicate {A = ℕ} (at % 2) 0)
word-fits (Number n) x at = omega (arith, length-big_bytes n x)
word-fits (Within n low high) x at = omega (arith, length-big_bytes n x)
word-fits (Count n) x at = omega (arith, length-big_bytes n x)
word-fits (Optional there n) x at = optional-size n x
word-fits Signed32 x at = omega (arith, length-big_bytes 4 (cast_unsigned w32 x))
word-fits Signed64 x at = omega (arith, length-big_bytes 8 (cast_unsigned w64 x))
word-fits (Plain n) x at = omega arith
word-fits (Counted n) x at = omega (arith, length-append (big_bytes n (length x)) x, length-big_bytes n (length x))
word-fits Pathname x at =
    let text = canonical_path x in
    let count = big_bytes (count_size x.kind) (length text) in
    omega (arith, length-append (replicate (hint_size x.kind) 0) (count ++ text), length-append count text, length-replicate {A = ℕ} (hint_size x.kind) 0, length-big_bytes (count_size x.kind) (length text), hint-size x.kind)
word-fits Tail x at = omega arith

fields-fit : (fs : List RequestField) (at : ℕ) → length (canonical_fields at fs) ≤ fields_size fs
fields-fit [] at = omega arith
fields-fit (f ∷ fs) at =
    let first = canonical f.word f.value at in
    let rest = canonical_fields (at + length first) fs in
    omega (arith, length-append first rest, word-fits f.word f.value at, fields-fit fs (at + length first))

-- a request of which its fields' sizes tell that it fits
pub askable : (call : Call) → IsCommand call → IsSpellable call → fields_size (layout_of call).fields + length (enclosed_bytes (layout_of call).enclosed) ≤ payload_limit → IsAskable call
unfolding canonical_call canonical_piece
askable call c s h = record { command = c; spellable = s; size = omega (arith, fields-fit (layout_of call).fields 0, h) }

-- three dates and 32 bytes
pub settings_size : (created modified backup : ℤ) (finder : List ℕ) → length finder ≡ 32 → length (settings_of created modified backup finder) ≤ 44
settings_size created modified backup finder h =
    let c = date_bytes created in
    let m = date_bytes modified in
    let b = date_bytes backup in
    omega (arith, h, length-append c m, length-append (c ++ m) b, length-append (c ++ m ++ b) finder, length-big_bytes 4 (cast_unsigned w32 created), length-big_bytes 4 (cast_unsigned w32 modified), length-big_bytes 4 (cast_unsigned w32 backup))
