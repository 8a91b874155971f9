-- What bytes spell is lawful.
use Rattle.std.proofs.Common.{◌==◌, ◌≡◌, ◌∙◌, ap, sym, refl, ℕ, zero, suc, pos, negsuc, ◌+◌, ◌-◌, ◌<◌, ◌^◌, arith, Bool, true, false, ◌&&◌, cond, List, [], ◌∷◌, ◌++◌, length, drop, take, ltb, Option, Some, None, w32, w64}
use Rattle.std.specs.Prelude.{slice_get}
use Rattle.std.specs.List.{list_all}
use Rattle.std.specs.Int.{cast_signed}
use Rattle.std.proofs.lemmas.Bool.{and_parts, and_from, cond_both, eq-eqb, lt-ltb, ltb-true, ltb-false}
use Rattle.std.proofs.lemmas.List.Folds.{list_all-append}
use Rattle.byteorder.specs.Endian.{big_number}
use Rattle.byteorder.specs.Numbers.{big_from-lt}
use Rattle.afp_names.specs.Path.{PathValue}
use Rattle.afp_base.specs.Cached.{Request}
use Rattle.afp_calls_grammar.proofs.OfGrammar.SpellingLemmas.{AreBytes}
use Rattle.afp_calls_grammar.proofs.OfGrammar.CallLemmas.{readers_sound}
use Rattle.afp_calls_grammar.proofs.OfGrammar.ReaderLemmas.{spelt_spells}
use Rattle.afp_calls_grammar.specs.grammar.Call.{Spells, layout_of}
use Rattle.afp_calls_grammar.specs.grammar.Spelt.{spelt_call}
use Rattle.afp_calls_grammar.specs.grammar.Words.{Word, Value, RequestField, BeginsWith, Enclosed, Nothing, Piece, IsCountedText, IsEnclosed, IsOptional, IsWordSpelling, SpellsPathname, Literal, Pad, LastPad, Even, Number, Within, Count, Optional, Signed32, Signed64, Plain, Counted, Pathname, Tail, count_size}
use Rattle.afp_calls_grammar.specs.declared.grammar.call.Call.{Call}
use Rattle.afp_serial.proofs.Keeps.{IsKnown}
use Rattle.afp_serial.specs.declared.ask.Ask.{Ask}
use Rattle.afp_serial.specs.declared.ask.Ask.TheVariants as ask
use Rattle.afp_serial.specs.Answer.{request}
use Rattle.afp_serial.specs.KeptAnswers.{block_of, enclosed_of}
use Rattle.afp_serial.specs.LawfulCall.{are_bytes_or_none, is_number, is_number_or_none, is_signed, is_lawful_value, is_lawful_field, is_lawful_piece, is_lawful_call}
use Rattle.afp_serial.specs.Ranges.{is_typed_ask}
use Rattle.volume_spec.proofs.LongPathNames.{path-named}
use Rattle.volume_spec.proofs.TypedEdits.{take-bytes, drop-bytes}
use Rattle.volume_spec.specs.TypedVolume.{is_byte, is_long, is_word, are_bytes}
use Rattle.volume_spec.specs.Walk.{is_named_path}
use Rattle.afp_base.proofs.ListFacts.{all-place}

small-bytes : (bytes : List ℕ) → are_bytes bytes ≡ true → AreBytes bytes
small-bytes [] h i = omega arith
small-bytes (b ∷ bytes) h zero = ltb-true b 256 (and_parts (is_byte b) (are_bytes bytes) h).0
small-bytes (b ∷ bytes) h (suc i) = small-bytes bytes (and_parts (is_byte b) (are_bytes bytes) h).1 i

both-bytes : (a b : List ℕ) → are_bytes (a ++ b) ≡ true → (are_bytes a ≡ true) × (are_bytes b ≡ true)
both-bytes a b h = and_parts (are_bytes a) (are_bytes b) (sym (list_all-append is_byte a b) ∙ h)

number-lawful : (n x : ℕ) (bytes : List ℕ) → are_bytes bytes ≡ true → big_number n bytes ≡ x → is_number n x ≡ true
number-lawful n x bytes small is = ap (is_number n) (sym is) ∙ lt-ltb (big_number n bytes) (256 ^ n) (big_from-lt 0 n bytes (small-bytes bytes small))

optional-lawful : (there : Bool) (n : ℕ) (x : Option ℕ) (bytes : List ℕ) → are_bytes bytes ≡ true → IsOptional there n x bytes → is_number_or_none n x ≡ true
optional-lawful true n (Some x) bytes small h = number-lawful n x bytes small h.1
optional-lawful true n None bytes small h = refl
optional-lawful false n (Some x) bytes small h = absurd h
optional-lawful false n None bytes small h = refl

signed32 : (n : ℕ) → n < 4294967296 → is_signed 2147483648 (cast_signed w32 n) ≡ true
signed32 n small = cond_both (ltb n 2147483648) (pos n) (negsuc (4294967296 - suc n)) (λ z. is_signed 2147483648 z ≡ true)
    (λ low. low)
    (λ high. lt-ltb (4294967296 - suc n) 2147483648 (let h = ltb-false n 2147483648 high in omega arith))

signed64 : (n : ℕ) → n < 18446744073709551616 → is_signed 9223372036854775808 (cast_signed w64 n) ≡ true
signed64 n small = cond_both (ltb n 9223372036854775808) (pos n) (negsuc (18446744073709551616 - suc n)) (λ z. is_signed 9223372036854775808 z ≡ true)
    (λ low. low)
    (λ high. lt-ltb (18446744073709551616 - suc n) 9223372036854775808 (let h = ltb-false n 9223372036854775808 high in omega arith))

counted-lawful : (n : ℕ) (text bytes : List ℕ) → are_bytes bytes ≡ true → IsCountedText n text bytes → are_bytes text ≡ true
counted-lawful n text bytes small h = ap are_bytes (sym h.text_is) ∙ drop-bytes n bytes small

path-lawful : (p : PathValue) (bytes : List ℕ) → are_bytes bytes ≡ true → SpellsPathname p bytes → is_named_path p ≡ true
path-lawful p bytes small h =
    let all : are_bytes (p.kind ∷ (h.hint ++ h.behind_hint)) ≡ true = ap are_bytes (sym h.whole) ∙ small in
    let behind = both-bytes h.hint h.behind_hint (and_parts (is_byte p.kind) (are_bytes (h.hint ++ h.behind_hint)) all).1 in
    path-named h.text p (counted-lawful (count_size p.kind) h.text h.behind_hint behind.1 h.count) h.spells

value-lawful : (w : Word) (x : Value w) (place : ℕ) (first rest : List ℕ) → are_bytes first ≡ true → IsWordSpelling w x place first rest → is_lawful_value w x ≡ true
value-lawful (Literal n) x place first rest small h = refl
value-lawful Pad x place first rest small h = refl
value-lawful LastPad x place first rest small h = refl
value-lawful Even x place first rest small h = refl
value-lawful (Number n) x place first rest small h = number-lawful n x first small h.1
value-lawful (Within n low high) x place first rest small h = number-lawful n x first small h.1
value-lawful (Count n) x place first rest small h = number-lawful n x first small h.1
value-lawful (Optional there n) x place first rest small h = optional-lawful there n x first small h
value-lawful Signed32 x place first rest small h = ap (is_signed 2147483648) (sym h.1) ∙ signed32 (big_number 4 first) (big_from-lt 0 4 first (small-bytes first small))
value-lawful Signed64 x place first rest small h = ap (is_signed 9223372036854775808) (sym h.1) ∙ signed64 (big_number 8 first) (big_from-lt 0 8 first (small-bytes first small))
value-lawful (Plain n) x place first rest small h = and_from (length x == n) (are_bytes x) (eq-eqb (length x) n (ap length (sym h.1) ∙ h.0)) (ap are_bytes (sym h.1) ∙ small)
value-lawful (Counted n) x place first rest small h = counted-lawful n x first small h
value-lawful Pathname x place first rest small h = path-lawful x first small h
value-lawful Tail x place first rest small h = ap are_bytes (sym h.0) ∙ small

fields-lawful : (place : ℕ) (fs : List RequestField) (bytes : List ℕ) → are_bytes bytes ≡ true → BeginsWith place fs bytes → list_all is_lawful_field fs ≡ true
fields-lawful place [] bytes small h = refl
fields-lawful place (f ∷ fs) bytes small h =
    let parts = both-bytes h.0 h.1 (ap are_bytes (sym h.2) ∙ small) in
    and_from (is_lawful_field f) (list_all is_lawful_field fs) (value-lawful f.word f.value place h.0 h.1 parts.0 h.3) (fields-lawful (place + length h.0) fs h.1 parts.1 h.4)

piece-lawful : (e : Enclosed) (o : Option (List ℕ)) → are_bytes_or_none o ≡ true → IsEnclosed e o → is_lawful_piece e ≡ true
piece-lawful Nothing o small h = refl
piece-lawful (Piece size piece) None small h = absurd h
piece-lawful (Piece size piece) (Some bytes) small h = (both-bytes piece h.0 (ap are_bytes (sym h.1) ∙ small)).0

pub spelt-lawful : (block : List ℕ) (enclosed : Option (List ℕ)) (call : Call) → are_bytes block ≡ true → are_bytes_or_none enclosed ≡ true → spelt_call block enclosed ≡ Some call → is_lawful_call call ≡ true
unfolding is_lawful_call
spelt-lawful block enclosed call small more is =
    let s : Spells call block enclosed = spelt_spells readers_sound block enclosed call is in
    and_from (list_all is_lawful_field (layout_of call).fields) (is_lawful_piece (layout_of call).enclosed)
    (fields-lawful 0 (layout_of call).fields block small s.fields) (piece-lawful (layout_of call).enclosed enclosed more s.encloses)

-- a field of a lawful call, by its place among the fields
pub field-lawful : (call : Call) (place : ℕ) (f : RequestField) → is_lawful_call call ≡ true → slice_get (layout_of call).fields place ≡ Some f → is_lawful_field f ≡ true
unfolding is_lawful_call
field-lawful call place f h at_place =
    all-place is_lawful_field (layout_of call).fields place f (and_parts (list_all is_lawful_field (layout_of call).fields) (is_lawful_piece (layout_of call).enclosed) h).0 at_place

-- what comes with the block of a lawful call
pub enclosed-lawful : (call : Call) → is_lawful_call call ≡ true → is_lawful_piece (layout_of call).enclosed ≡ true
unfolding is_lawful_call
enclosed-lawful call h = (and_parts (list_all is_lawful_field (layout_of call).fields) (is_lawful_piece (layout_of call).enclosed) h).1

-- the request of an ask in its ranges spells lawful calls alone
request-lawful : (r : Request) (call : Call) → are_bytes r.payload ≡ true → spelt_call (block_of r) (enclosed_of r) ≡ Some call → is_lawful_call call ≡ true
request-lawful r call small is = spelt-lawful (block_of r) (enclosed_of r) call (in-block r.write) (in-enclosed r.write) is
  where
    in-block : (b : Bool) → are_bytes (cond b (take r.offset r.payload) r.payload) ≡ true
    in-block true = take-bytes r.offset r.payload small
    in-block false = small

    in-enclosed : (b : Bool) → are_bytes_or_none (cond b (Some (drop r.offset r.payload)) None) ≡ true
    in-enclosed true = drop-bytes r.offset r.payload small
    in-enclosed false = refl

pub ask-lawful : (a : Ask) → is_typed_ask a ≡ true → IsKnown (λ call. is_lawful_call call ≡ true) a
ask-lawful (ask.Open attention) typed = tt
ask-lawful (ask.Call id write offset payload) typed = λ call is.
    request-lawful (request id write offset payload) call (and_parts (is_long offset) (are_bytes payload) (and_parts (is_word id) (is_long offset && are_bytes payload) typed).1).1 is
ask-lawful ask.Pulse typed = tt
ask-lawful ask.Bye typed = tt
ask-lawful ask.Lost typed = tt
ask-lawful ask.Drain typed = tt
