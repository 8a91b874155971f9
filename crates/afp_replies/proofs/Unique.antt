-- Bytes are one reply at most.
use Rattle.std.proofs.Common.{◌≡◌, ℕ, ◌^◌, ◌<◌, ◌≤◌, Bool, List, [], ◌∷◌, ◌++◌, length, take, drop, get_or, refl, sym, ap, ◌∙◌, subst, arith, append_assoc}
use Rattle.std.proofs.lemmas.List.{take_at, drop_at}
use Rattle.byteorder.specs.Endian.{big_number, big_bytes}
use Rattle.afp_bitmap.specs.declared.params.Values.{Values}
use Rattle.afp_bitmap.specs.declared.params.Values.TheVariants as kinds
use Rattle.afp_bitmap.specs.Params.{params, IsAnswer}
use Rattle.afp_bitmap.specs.Table.{kind_of}
use Rattle.afp_replies.specs.declared.list.ListEntry.{ListEntry}
use Rattle.afp_replies.specs.declared.reply.Reply.{Reply}
use Rattle.afp_replies.specs.Bytes.{width, flag_of}
use Rattle.afp_replies.specs.Entry.{is_dir, bits_for, kind_for, head_size, IsEntry}
use Rattle.afp_replies.specs.Words.{ReplyWord, Number, Exactly, Asked, Raw, Pad, Counted, Flag, Entry, ReplyValue, SpellsWord}
use Rattle.afp_replies.specs.Layout.{ReplyLayout, Is, Never, Then, Remaining, Params, Has}
use Rattle.afp_base.specs.Bytes.{IsBytes}
use Rattle.afp_base.proofs.Numbers.{IsBytes-take, IsBytes-drop, length-big_bytes, IsBytes-behind}
use Rattle.afp_replies.proofs.Spellings.{number_alone}
use Rattle.afp_replies.proofs.Entries.{flag_tells, stands}

-- a block of parameters has one meaning
abbrev pub OneBlock : Type 0
OneBlock =
    (kind bits : ℕ) (v w : Values) → kind ≤ 2 → IsAnswer kind bits v → IsAnswer kind bits w → IsBytes (params bits v) → params bits v ≡ params bits w → v ≡ w

same_first : (n : ℕ) (f g r s : List ℕ) → length f ≡ n → length g ≡ n → f ++ r ≡ g ++ s → f ≡ g
same_first n f g r s lf lg e = sym (take_at f r n lf) ∙ ap (take {A = ℕ} n) e ∙ take_at g s n lg

same_behind : (n : ℕ) (f g r s : List ℕ) → length f ≡ n → length g ≡ n → f ++ r ≡ g ++ s → r ≡ s
same_behind n f g r s lf lg e = sym (drop_at f r n lf) ∙ ap (drop {A = ℕ} n) e ∙ drop_at g s n lg

same_number : (n x y : ℕ) → x < 256 ^ n → y < 256 ^ n → big_bytes n x ≡ big_bytes n y → x ≡ y
same_number n x y lx ly e = number_alone n x lx ∙ ap (big_number n) e ∙ sym (number_alone n y ly)

bytes_front : (f r : List ℕ) → IsBytes (f ++ r) → IsBytes f
bytes_front f r b = subst IsBytes (take_at f r (length f) refl) (IsBytes-take (length f) (f ++ r) b)

kind_small : (v : Values) → kind_of v ≤ 2
kind_small (kinds.Volume v) = omega arith
kind_small (kinds.File v) = omega arith
kind_small (kinds.Dir v) = omega arith

one_block : OneBlock → (kind bits : ℕ) (v w : Values) → IsAnswer kind bits v → IsAnswer kind bits w → IsBytes (params bits v) → params bits v ≡ params bits w → v ≡ w
one_block law kind bits v w a b bytes e =
    let k : kind_of v ≡ kind = a.kind_is in
    let small : kind_of v ≤ 2 = kind_small v in
    law kind bits v w (omega arith) a b bytes e

record Same (w : ReplyWord) (x y : ReplyValue w) (r s : List ℕ) : Type 0 where
  value : x ≡ y
  rest : r ≡ s

same_entry : OneBlock → (wide : Bool) (fb db : ℕ) (x y : ListEntry) (f g r s : List ℕ) → IsBytes (f ++ r) → IsEntry wide fb db x f → IsEntry wide fb db y g → f ++ r ≡ g ++ s
    → Same (Entry wide fb db) x y r s
same_entry law wide fb db x y f g r s b hx hy e =
    let sx = stands wide fb db x (f ++ r) f r hx refl in
    let sy = stands wide fb db y (f ++ r) g s hy e in
    let size : length g ≡ length f = sy.size ∙ sym sx.size in
    let same : f ≡ g = same_first (length f) f g r s refl size e in
    let dir : is_dir x.values ≡ is_dir y.values =
    flag_tells (is_dir x.values) (is_dir y.values) (sym sx.flag ∙ ap (λ (z : List ℕ). get_or z (width wide) 0) same ∙ sy.flag) in
    let d : Bool = is_dir x.values in
    let answer : IsAnswer (kind_for d) (bits_for d fb db) y.values =
    subst (λ (q : Bool). IsAnswer (kind_for q) (bits_for q fb db) y.values) (sym dir) hy.fits.answer in
    let ps : params (bits_for d fb db) x.values ≡ params (bits_for d fb db) y.values =
    sym sx.params ∙ ap (drop {A = ℕ} (head_size wide)) same ∙ sy.params ∙ ap (λ (q : Bool). params (bits_for q fb db) y.values) (sym dir) in
    let bytes : IsBytes (params (bits_for d fb db) x.values) = subst IsBytes sx.params (IsBytes-drop (head_size wide) f (bytes_front f r b)) in
    record {
      value = ap (λ (v : Values). let q : ListEntry = record { values = v } in q) (one_block law (kind_for d) (bits_for d fb db) x.values y.values hx.fits.answer answer bytes ps);
      rest = same_behind (length f) f g r s refl size e;
    }

one_value : OneBlock → (w : ReplyWord) (x y : ReplyValue w) (f g r s : List ℕ) → IsBytes (f ++ r) → SpellsWord w x f → SpellsWord w y g → f ++ r ≡ g ++ s → Same w x y r s
one_value law (Number n) x y f g r s b hx hy e =
    let lf : length f ≡ n = ap (length {A = ℕ}) hx.1 ∙ length-big_bytes n x in
    let lg : length g ≡ n = ap (length {A = ℕ}) hy.1 ∙ length-big_bytes n y in
    record { value = same_number n x y hx.0 hy.0 (sym hx.1 ∙ same_first n f g r s lf lg e ∙ hy.1); rest = same_behind n f g r s lf lg e }
one_value law (Exactly n z) x y f g r s b hx hy e =
    let lf : length f ≡ n = ap (length {A = ℕ}) hx ∙ length-big_bytes n z in
    let lg : length g ≡ n = ap (length {A = ℕ}) hy ∙ length-big_bytes n z in
    record { value = refl; rest = same_behind n f g r s lf lg e }
one_value law (Asked mask bits) x y f g r s b hx hy e =
    let lf : length f ≡ 2 = ap (length {A = ℕ}) hx.1 ∙ length-big_bytes 2 bits in
    let lg : length g ≡ 2 = ap (length {A = ℕ}) hy.1 ∙ length-big_bytes 2 bits in
    record { value = refl; rest = same_behind 2 f g r s lf lg e }
one_value law (Raw n) x y f g r s b hx hy e =
    let lf : length f ≡ n = ap (length {A = ℕ}) hx.1 ∙ hx.0 in
    let lg : length g ≡ n = ap (length {A = ℕ}) hy.1 ∙ hy.0 in
    record { value = sym hx.1 ∙ same_first n f g r s lf lg e ∙ hy.1; rest = same_behind n f g r s lf lg e }
one_value law Pad x y f g r s b hx hy e = record { value = refl; rest = same_behind 1 f g r s hx hy e }
one_value law (Counted n) x y f g r s b hx hy e =
    let split : big_bytes n (length x) ++ (x ++ r) ≡ big_bytes n (length y) ++ (y ++ s) =
    sym (append_assoc (big_bytes n (length x)) x r) ∙ ap (λ (z : List ℕ). z ++ r) (sym hx.1) ∙ e ∙ ap (λ (z : List ℕ). z ++ s) hy.1 ∙ append_assoc (big_bytes n (length y)) y s in
    let lx : length (big_bytes n (length x)) ≡ n = length-big_bytes n (length x) in
    let ly : length (big_bytes n (length y)) ≡ n = length-big_bytes n (length y) in
    let size : length x ≡ length y =
    same_number n (length x) (length y) hx.0 hy.0 (same_first n (big_bytes n (length x)) (big_bytes n (length y)) (x ++ r) (y ++ s) lx ly split) in
    let texts : x ++ r ≡ y ++ s = same_behind n (big_bytes n (length x)) (big_bytes n (length y)) (x ++ r) (y ++ s) lx ly split in
    record { value = same_first (length x) x y r s refl (sym size) texts; rest = same_behind (length x) x y r s refl (sym size) texts }
one_value law Flag x y f g r s b hx hy e =
    let lf : length f ≡ 1 = ap (length {A = ℕ}) hx in
    let lg : length g ≡ 1 = ap (length {A = ℕ}) hy in
    let flags : (flag_of x ∷ []) ≡ (flag_of y ∷ []) = sym hx ∙ same_first 1 f g r s lf lg e ∙ hy in
    record { value = flag_tells x y (ap (λ (z : List ℕ). get_or z 0 0) flags); rest = same_behind 1 f g r s lf lg e }
one_value law (Entry wide fb db) x y f g r s b hx hy e = same_entry law wide fb db x y f g r s b hx hy e

pub one_reply : OneBlock → (l : ReplyLayout) (r s : Reply) (b : List ℕ) → IsBytes b → Has l r b → Has l s b → r ≡ s
one_reply law (Is reply) r s b bytes h k = h.0 ∙ sym k.0
one_reply law Never r s b bytes h k = absurd h
one_reply law (Then w next) r s b bytes h k =
    let here : IsBytes (h.first ++ h.rest) = subst IsBytes h.split bytes in
    let same = one_value law w h.value k.value h.first k.first h.rest k.rest here h.spelt k.spelt (sym h.split ∙ k.split) in
    one_reply law (next h.value) r s h.rest (IsBytes-behind h.first h.rest here) h.behind
    (subst (λ (x : ReplyValue w). Has (next x) s h.rest) (sym same.value) (subst (λ (z : List ℕ). Has (next k.value) s z) (sym same.rest) k.behind))
one_reply law (Remaining reply) r s b bytes h k = h ∙ sym k
one_reply law (Params kind bits reply) r s b bytes h k =
    h.3 ∙ ap reply (one_block law kind bits h.0 k.0 h.1 k.1 (subst IsBytes h.2 bytes) (sym h.2 ∙ k.2)) ∙ sym k.3
