-- What a reader reads is what its fields spell.
use Rattle.std.proofs.Common.{◌≡◌, ◌==◌, ℕ, zero, suc, ◌+◌, nat_le, Bool, true, false, cond, List, [], ◌∷◌, ◌++◌, length, take, drop, Option, Some, None, refl, sym, ◌∙◌, ap, subst, arith}
use Rattle.std.specs.List.{AllByRecursion}
use Rattle.std.proofs.lemmas.Bool.{eqb-true, leb-true, le-leb, or_parts}
use Rattle.std.proofs.lemmas.Option.{option_and_then_some}
use Rattle.std.proofs.Math.Seq.{drop-append_seam, take-append_seam}
use Rattle.std.proofs.lemmas.List.{append-nil, length-take-le, length-append, take-append-drop}
use Rattle.afp_calls_grammar.specs.declared.grammar.call.Call.{Call}
use Rattle.afp_calls_grammar.specs.grammar.Words.{Word, Tail, Value, RequestField, Layout, Enclosed, Nothing, Piece, BeginsWith, IsEnclosed, IsTypedValue, CanSpell, CanEnclose, canonical, canonical_fields, canonical_enclosed, command}
use Rattle.afp_calls_grammar.specs.grammar.Reading.{Reading, Then, Alone, With, Taken, Reader, read, next, has_reader, read_by}
use Rattle.afp_calls_grammar.specs.grammar.Call.{Spells, layout_of}
use Rattle.afp_calls_grammar.specs.grammar.Laws.{BeginsWithNoCommand}
use Rattle.afp_calls_grammar.specs.grammar.Spelt.{is_command, readers, spelt_call}
use Rattle.afp_calls_grammar.proofs.OfGrammar.SpellingLemmas.{AreBytes, next_spells, spelling_next, canonical_spells, spelling_can}

-- the values of the words that a reading finds, and the piece that comes with them
abbrev pub Values : Reading → Type 0
Values (Then w more) = (x : Value w) × Values (more x)
Values (Alone call) = Unit {0}
Values (With size make) = List ℕ

abbrev pub fields_with : (r : Reading) → Values r → List RequestField
fields_with (Then w more) vs = record { word = w; value = vs.0 } ∷ fields_with (more vs.0) vs.1
fields_with (Alone call) vs = []
fields_with (With size make) vs = []

abbrev pub enclosed_with : (r : Reading) → Values r → Enclosed
enclosed_with (Then w more) vs = enclosed_with (more vs.0) vs.1
enclosed_with (Alone call) vs = Nothing
enclosed_with (With size make) vs = Piece size vs

-- what is made of these values
abbrev pub made_of : (r : Reading) → Values r → Call
made_of (Then w more) vs = made_of (more vs.0) vs.1
made_of (Alone call) vs = call
made_of (With size make) vs = make vs

-- what was read: the bytes begin with fields of these values, the piece is enclosed, and the request was made of them
pub record IsReadOf (r : Reading) (place : ℕ) (bytes : List ℕ) (enclosed : Option (List ℕ)) (c : Call) : Type 0 where
  pub values : Values r
  pub begins : BeginsWith place (fields_with r values) bytes
  pub encloses : IsEnclosed (enclosed_with r values) enclosed
  pub made : made_of r values ≡ c

piece_read : (size : ℕ) (make : List ℕ → Call) (place : ℕ) (bytes piece : List ℕ) (c : Call) (b : Bool) → nat_le size (length piece) ≡ b → cond b (Some (make (take size piece))) None ≡ Some c → IsReadOf (With size make) place bytes (Some piece) c
piece_read size make place bytes piece c true fits h =
    record {
      values = take size piece;
      begins = tt;
      encloses = (drop size piece, sym (take-append-drop size piece), length-take-le size piece (leb-true size _ fits));
      made = cc;
    }
piece_read size make place bytes piece c false fits h = absurd cc

pub read_begins : (r : Reading) (place : ℕ) (bytes : List ℕ) (enclosed : Option (List ℕ)) (c : Call) → read r place enclosed bytes ≡ Some c → IsReadOf r place bytes enclosed c
unfolding read
read_begins (Then w more) place bytes enclosed c h =
    option_and_then_some (λ (t : Taken w). read (more t.value) (place + t.size) enclosed (drop t.size bytes)) (next w place bytes) c h
    (λ t first behind.
    let taken = next_spells w place bytes t first in
    let rest = read_begins (more t.value) (place + t.size) (drop t.size bytes) enclosed c behind in
    let size : length (take t.size bytes) ≡ t.size = length-take-le t.size bytes taken.within in
    record {
      values = (t.value, rest.values);
      begins = (take t.size bytes, drop t.size bytes, sym (take-append-drop t.size bytes), taken.spells, rw size rest.begins);
      encloses = rest.encloses;
      made = rest.made;
    })
read_begins (Alone call) place bytes None c h = record { values = tt; begins = tt; encloses = tt; made = cc }
read_begins (Alone call) place bytes (Some piece) c h = absurd cc
read_begins (With size make) place bytes None c h = absurd cc
read_begins (With size make) place bytes (Some piece) c h = piece_read size make place bytes piece c (nat_le size (length piece)) refl h

pub begins_read : (r : Reading) (vs : Values r) (place : ℕ) (bytes : List ℕ) (enclosed : Option (List ℕ)) → BeginsWith place (fields_with r vs) bytes → IsEnclosed (enclosed_with r vs) enclosed → read r place enclosed bytes ≡ Some (made_of r vs)
unfolding read
begins_read (Then w more) vs place bytes enclosed h k =
    let first = h.0 in
    let rest = h.1 in
    let taken : next w place bytes ≡ Some (record { value = vs.0; size = length first }) = rw h.2 (spelling_next w vs.0 place first rest h.3) in
    let behind : drop (length first) bytes ≡ rest = rw h.2 (drop-append_seam first rest) in
    rw (taken, behind) (begins_read (more vs.0) vs.1 (place + length first) rest enclosed h.4 k)
begins_read (Alone call) vs place bytes None h k = refl
begins_read (Alone call) vs place bytes (Some piece) h k = absurd k
begins_read (With size make) vs place bytes None h k = absurd k
begins_read (With size make) vs place bytes (Some piece) h k =
    let fits : nat_le size (length piece) ≡ true = le-leb size _ (omega (arith, ap length k.1, length-append vs k.0, k.2)) in
    let front : take size piece ≡ vs = rw (k.1, ← k.2) (take-append_seam vs k.0) in
    rw (fits, front) refl

-- a reader makes the requests whose fields it has, and with which its piece comes
abbrev pub ReaderIsSound : Reader → Type 0
ReaderIsSound r = (vs : Values r.reading) (bytes : List ℕ) → BeginsWith 1 (fields_with r.reading vs) bytes → layout_of (made_of r.reading vs) ≡ record { fields = command r.number ∷ fields_with r.reading vs; enclosed = enclosed_with r.reading vs }

pub reader_spells : (r : Reader) → ReaderIsSound r → (bytes : List ℕ) (enclosed : Option (List ℕ)) (c : Call) → read r.reading 1 enclosed bytes ≡ Some c → Spells c (r.number ∷ bytes) enclosed
reader_spells r sound bytes enclosed c h =
    let from = read_begins r.reading 1 bytes enclosed c h in
    let layout : record { fields = command r.number ∷ fields_with r.reading from.values; enclosed = enclosed_with r.reading from.values } ≡ layout_of c = sym (sound from.values bytes from.begins) ∙ ap layout_of from.made in
    record {
      fields = subst (λ (l : Layout). BeginsWith 0 l.fields (r.number ∷ bytes)) layout (r.number ∷ [], bytes, refl, refl, from.begins);
      encloses = subst (λ (l : Layout). IsEnclosed l.enclosed enclosed) layout from.encloses;
    }

reader_or_more : (r : Reader) (n : ℕ) (bytes : List ℕ) (enclosed : Option (List ℕ)) (c : Call) (more : Option Call) (t : Bool) → ReaderIsSound r → (r.number == n) ≡ t → cond t (read r.reading 1 enclosed bytes) more ≡ Some c → (more ≡ Some c → Spells c (n ∷ bytes) enclosed) → Spells c (n ∷ bytes) enclosed
reader_or_more r n bytes enclosed c more true sound e h others =
    let same : r.number ≡ n = eqb-true r.number n e in
    subst (λ (m : ℕ). Spells c (m ∷ bytes) enclosed) same (reader_spells r sound bytes enclosed c h)
reader_or_more r n bytes enclosed c more false sound e h others = others h

pub readers_spell : (rs : List Reader) → AllByRecursion ReaderIsSound rs → (n : ℕ) (bytes : List ℕ) (enclosed : Option (List ℕ)) (c : Call) → read_by rs n 1 enclosed bytes ≡ Some c → Spells c (n ∷ bytes) enclosed
readers_spell [] sound n bytes enclosed c h = absurd cc
readers_spell (r ∷ rs) sound n bytes enclosed c h = reader_or_more r n bytes enclosed c (read_by rs n 1 enclosed bytes) (r.number == n) sound.0 refl h (λ more. readers_spell rs sound.1 n bytes enclosed c more)

-- sound readers behind sound ones
pub both_sound : (rs ss : List Reader) → AllByRecursion ReaderIsSound rs → AllByRecursion ReaderIsSound ss → AllByRecursion ReaderIsSound (rs ++ ss)
both_sound [] ss h k = k
both_sound (r ∷ rs) ss h k = (h.0, both_sound rs ss h.1 k)

-- the request that has these fields is the reader's
pub reader_read : (r : Reader) (vs : Values r.reading) (block : List ℕ) (enclosed : Option (List ℕ)) → ((bytes : List ℕ) → read_by readers r.number 1 enclosed bytes ≡ read r.reading 1 enclosed bytes)
    → BeginsWith 0 (command r.number ∷ fields_with r.reading vs) block → IsEnclosed (enclosed_with r.reading vs) enclosed → spelt_call block enclosed ≡ Some (made_of r.reading vs)
unfolding spelt_call
reader_read r vs block enclosed found h k =
    rw (h.2, h.3) (found h.1 ∙ begins_read r.reading vs 1 h.1 enclosed (let size : 0 + length h.0 ≡ 1 = rw h.3 refl in rw (← size) h.4) k)

-- no reader has this number
pub no_reader : (rs : List Reader) (n : ℕ) (bytes : List ℕ) (enclosed : Option (List ℕ)) → has_reader rs n ≡ false → read_by rs n 1 enclosed bytes ≡ None
no_reader [] n bytes enclosed h = refl
no_reader (r ∷ rs) n bytes enclosed h =
    let parts = or_parts (r.number == n) _ h in
    rw parts.0 (no_reader rs n bytes enclosed parts.1)

-- the request that is spelt, where one is
pub spelt_spells : AllByRecursion ReaderIsSound readers → (block : List ℕ) (enclosed : Option (List ℕ)) (c : Call) → spelt_call block enclosed ≡ Some c → Spells c block enclosed
unfolding spelt_call
spelt_spells sound [] enclosed c h = absurd cc
spelt_spells sound (n ∷ bytes) enclosed c h = readers_spell readers sound n bytes enclosed c h

-- a block whose first byte is no command spells none
pub unknown_is_none : (block : List ℕ) (enclosed : Option (List ℕ)) → BeginsWithNoCommand block → spelt_call block enclosed ≡ None
unfolding spelt_call is_command
unknown_is_none [] enclosed h = absurd h
unknown_is_none (n ∷ bytes) enclosed h = no_reader readers n bytes enclosed h

-- each field's canonical bytes stand where its words are read, where a tail is the last
abbrev has_none : List RequestField → Bool
has_none [] = true
has_none (f ∷ fs) = false

abbrev is_tail : Word → Bool
is_tail Tail = true
is_tail w = false

abbrev pub tail_last : List RequestField → Bool
tail_last [] = true
tail_last (f ∷ fs) = cond (is_tail f.word) (has_none fs) (tail_last fs)

behind_word : (w : Word) (fs : List RequestField) (place : ℕ) → cond (is_tail w) (has_none fs) (tail_last fs) ≡ true → (w ≡ Tail → canonical_fields place fs ≡ []) × (tail_last fs ≡ true)
behind_word Tail [] place h = (λ e. refl, refl)
behind_word Tail (f ∷ fs) place h = absurd cc
behind_word w fs place h = (λ e. absurd cc, h)

pub canonical_begins : (fs : List RequestField) (place : ℕ) → AllByRecursion (λ f. IsTypedValue f.word f.value) fs → AllByRecursion (λ f. CanSpell f.word f.value) fs → tail_last fs ≡ true → BeginsWith place fs (canonical_fields place fs)
canonical_begins [] place typed can h = tt
canonical_begins (f ∷ fs) place typed can h =
    let first = canonical f.word f.value place in
    let ends = behind_word f.word fs (place + length first) h in
    (first, canonical_fields (place + length first) fs, refl, canonical_spells f.word f.value place _ typed.0 can.0 ends.0, canonical_begins fs (place + length first) typed.1 can.1 ends.1)

-- what is written to come with a block is what comes with it
pub canonical_encloses : (e : Enclosed) → CanEnclose e → IsEnclosed e (canonical_enclosed e)
canonical_encloses Nothing h = tt
canonical_encloses (Piece size piece) h = ([], sym (append-nil piece), h)

pub enclosed_can : (e : Enclosed) (enclosed : Option (List ℕ)) → IsEnclosed e enclosed → CanEnclose e
enclosed_can Nothing enclosed h = tt
enclosed_can (Piece size piece) None h = absurd h
enclosed_can (Piece size piece) (Some bytes) h = h.2

-- fields of bytes can be spelt
bytes_left : (first rest : List ℕ) → AreBytes (first ++ rest) → AreBytes first
bytes_left [] rest h k = omega arith
bytes_left (b ∷ first) rest h zero = h 0
bytes_left (b ∷ first) rest h (suc k) = bytes_left first rest (λ i. h (suc i)) k

bytes_right : (first rest : List ℕ) → AreBytes (first ++ rest) → AreBytes rest
bytes_right [] rest h = h
bytes_right (b ∷ first) rest h = bytes_right first rest (λ i. h (suc i))

pub begins_can : (fs : List RequestField) (place : ℕ) (bytes : List ℕ) → AreBytes bytes → BeginsWith place fs bytes → AllByRecursion (λ f. CanSpell f.word f.value) fs
begins_can [] place bytes small h = tt
begins_can (f ∷ fs) place bytes small h =
    let parts : AreBytes (h.0 ++ h.1) = rw (← h.2) small in
    (spelling_can f.word f.value place h.0 h.1 (bytes_left h.0 h.1 parts) h.3, begins_can fs (place + length h.0) h.1 (bytes_right h.0 h.1 parts) h.4)
