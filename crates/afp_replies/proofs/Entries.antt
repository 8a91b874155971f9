-- Entries: their parts, and what stands at the front of bytes that begin with one.
use Rattle.std.proofs.Common.{◌≡◌, ℕ, ◌+◌, ◌^◌, ◌<◌, ◌≤◌, Bool, true, false, List, ◌∷◌, ◌++◌, length, take, drop, get_or, refl, sym, ap, ◌∙◌, subst, arith, append_assoc, length-append, ◌-◌, Result, Ok, Err}
use Rattle.std.proofs.lemmas.List.{take-append-drop, drop_at, length-take-le, get_or-drop, get_or-take, drop-drop, drop_more, length-drop}
use Rattle.byteorder.specs.Endian.{big_number, big_bytes}
use Rattle.afp_bitmap.specs.declared.params.Values.{Values}
use Rattle.afp_bitmap.specs.declared.params.Values.TheVariants as kinds
use Rattle.std.proofs.Math.Seq.{take-length}
use Rattle.byteorder.specs.Numbers.{big_from-take}
use Rattle.afp_bitmap.specs.Params.{params, IsAnswer, IsBadAt}
use Rattle.afp_bitmap.specs.Table.{kind_of}
use Rattle.afp_replies.specs.declared.list.ListEntry.{ListEntry}
use Rattle.afp_replies.specs.declared.reply.ReplyFault.{ReplyFault}
use Rattle.afp_replies.specs.declared.reply.ReplyFault.TheVariants.{Bad, Memory}
use Rattle.afp_replies.specs.Bytes.{flag_of, width}
use Rattle.afp_replies.specs.Entry.{is_dir, bits_for, kind_for, node_params, pad_count, head_size, IsEntry, HasEntryLength, stated, params_unfit}
use Rattle.afp_replies.specs.Words.{Entry}
use Rattle.afp_replies.specs.lemma.Reading.{Rest, Took, TakesWord, FrontIs, TakesParams, entry_result}
use Rattle.afp_replies.proofs.Spellings.{same_piece, same_rest, piece_size, piece_split}
use Rattle.afp_base.specs.Bytes.{IsBytes}
use Rattle.afp_base.proofs.Numbers.{number_again, length-big_bytes, bytes_again, big_number-lt, IsBytes-take}

-- a length, a flag, pads and parameters, one after the other
abbrev pub row : ℕ → ℕ → ℕ → List ℕ → List ℕ → List ℕ
row w size flag pads ps = big_bytes w size ++ (flag ∷ (pads ++ ps))

pub row_size : (w p size flag : ℕ) (pads ps : List ℕ) → length pads ≡ p → length (row w size flag pads ps) ≡ (w + (1 + p)) + length ps
row_size w p size flag pads ps e =
    let a : length (row w size flag pads ps) ≡ length (big_bytes w size) + length (flag ∷ (pads ++ ps)) = length-append (big_bytes w size) (flag ∷ (pads ++ ps)) in
    let b : length (big_bytes w size) ≡ w = length-big_bytes w size in
    let d : length (pads ++ ps) ≡ length pads + length ps = length-append pads ps in
    omega arith

-- its length is read from any bytes that begin with it
pub row_length : (w size flag : ℕ) (pads ps rest : List ℕ) → size < 256 ^ w → big_number w (row w size flag pads ps ++ rest) ≡ size
row_length w size flag pads ps rest lt =
    ap (big_number w) (append_assoc (big_bytes w size) (flag ∷ (pads ++ ps)) rest) ∙ number_again w size ((flag ∷ (pads ++ ps)) ++ rest) lt

pub row_flag : (w size flag : ℕ) (pads ps : List ℕ) → get_or (row w size flag pads ps) w 0 ≡ flag
row_flag w size flag pads ps =
    let here : get_or (drop w (row w size flag pads ps)) 0 0 ≡ get_or (row w size flag pads ps) (w + 0) 0 = get_or-drop w (row w size flag pads ps) 0 0 in
    let tail : drop w (row w size flag pads ps) ≡ flag ∷ (pads ++ ps) = drop_at (big_bytes w size) (flag ∷ (pads ++ ps)) w (length-big_bytes w size) in
    let place : w + 0 ≡ w = omega arith in
    ap (λ (i : ℕ). get_or (row w size flag pads ps) i 0) (sym place) ∙ sym here ∙ ap (λ (x : List ℕ). get_or x 0 0) tail

pub row_params : (w p size flag : ℕ) (pads ps : List ℕ) → length pads ≡ p → drop (w + (1 + p)) (row w size flag pads ps) ≡ ps
row_params w p size flag pads ps e =
    let whole : row w size flag pads ps ≡ (big_bytes w size ++ (flag ∷ pads)) ++ ps = sym (append_assoc (big_bytes w size) (flag ∷ pads) ps) in
    let a : length (big_bytes w size ++ (flag ∷ pads)) ≡ length (big_bytes w size) + length (flag ∷ pads) = length-append (big_bytes w size) (flag ∷ pads) in
    let b : length (big_bytes w size) ≡ w = length-big_bytes w size in
    ap (drop {A = ℕ} (w + (1 + p))) whole ∙ drop_at (big_bytes w size ++ (flag ∷ pads)) ps (w + (1 + p)) (omega arith)

-- bytes are such a row of what stands in them
pub row_again : (w p : ℕ) (piece : List ℕ) → w + (1 + p) ≤ length piece → IsBytes piece
    → piece ≡ row w (big_number w piece) (get_or piece w 0) (take p (drop (w + 1) piece)) (drop (w + (1 + p)) piece)
row_again w p piece le b =
    let same : big_number w (take w piece) ≡ big_number w piece = big_from-take 0 w w piece (omega arith) in
    let front : big_bytes w (big_number w piece) ≡ take w piece =
    ap (big_bytes w) (sym same) ∙ bytes_again w (take w piece) (length-take-le w piece (omega arith)) (IsBytes-take w piece b) in
    let tail : drop w piece ≡ get_or piece w 0 ∷ drop (w + 1) piece = drop_more piece w 0 (omega arith) in
    let place : (w + 1) + p ≡ w + (1 + p) = omega arith in
    let rest : drop (w + 1) piece ≡ take p (drop (w + 1) piece) ++ drop (w + (1 + p)) piece =
    sym (take-append-drop p (drop (w + 1) piece)) ∙ ap (λ (x : List ℕ). take p (drop (w + 1) piece) ++ x) (drop-drop p (w + 1) piece ∙ ap (λ (n : ℕ). drop n piece) place) in
    sym (take-append-drop w piece) ∙ ap (λ (x : List ℕ). x ++ drop w piece) (sym front)
    ∙ ap (λ (x : List ℕ). big_bytes w (big_number w piece) ++ x) (tail ∙ ap (λ (x : List ℕ). get_or piece w 0 ∷ x) rest)

pub same_row : (w s s' f f' : ℕ) (pads ps ps' : List ℕ) → s ≡ s' → f ≡ f' → ps ≡ ps' → row w s f pads ps ≡ row w s' f' pads ps'
same_row w s s' f f' pads ps ps' a b d = cc

-- which kind values are
pub dir_is : (v : Values) (dir : Bool) → kind_of v ≡ kind_for dir → is_dir v ≡ dir
dir_is (kinds.Dir v) true e = refl
dir_is (kinds.Dir v) false e = absurd (omega arith)
dir_is (kinds.File v) true e = absurd (omega arith)
dir_is (kinds.File v) false e = refl
dir_is (kinds.Volume v) true e = absurd (omega arith)
dir_is (kinds.Volume v) false e = absurd (omega arith)

pub flag_tells : (a b : Bool) → flag_of a ≡ flag_of b → a ≡ b
flag_tells true true e = refl
flag_tells true false e = absurd (omega arith)
flag_tells false true e = absurd (omega arith)
flag_tells false false e = refl

-- an entry at the front of bytes
pub record Stands (wide : Bool) (fb db : ℕ) (e : ListEntry) (bytes other : List ℕ) : Type 0 where
  pub size : length other ≡ stated wide bytes
  pub counted : HasEntryLength wide bytes
  pub flag : get_or other (width wide) 0 ≡ flag_of (is_dir e.values)
  pub params : drop (head_size wide) other ≡ node_params fb db e.values

pub stands : (wide : Bool) (fb db : ℕ) (e : ListEntry) (bytes other rest : List ℕ) → IsEntry wide fb db e other → bytes ≡ other ++ rest → Stands wide fb db e bytes other
stands wide fb db e bytes other rest h split =
    let w : ℕ = width wide in
    let p : ℕ = pad_count wide in
    let ps : List ℕ = node_params fb db e.values in
    let all : ℕ = head_size wide + length ps in
    let flag : ℕ = flag_of (is_dir e.values) in
    let long : length other ≡ all = ap (length {A = ℕ}) h.bytes_are ∙ row_size w p all flag h.pads ps h.pads_are in
    let told : stated wide bytes ≡ all =
    ap (big_number w) (split ∙ ap (λ (x : List ℕ). x ++ rest) h.bytes_are) ∙ row_length w all flag h.pads ps rest h.fits.small in
    let both : length bytes ≡ length other + length rest = ap (length {A = ℕ}) split ∙ length-append other rest in
    let whole : head_size wide ≡ w + (1 + p) = refl in
    record {
      size = long ∙ sym told;
      counted = record { there = omega arith; enough = omega arith; inside = omega arith };
      flag = ap (λ (x : List ℕ). get_or x w 0) h.bytes_are ∙ row_flag w all flag h.pads ps;
      params = ap (drop {A = ℕ} (head_size wide)) h.bytes_are ∙ row_params w p all flag h.pads ps h.pads_are;
    }

-- the place where the parameters of an entry begin, and its bytes from there
abbrev pub inner : Bool → Rest → List ℕ → Rest
inner wide old piece = record { place = old.place + head_size wide; bytes = drop (head_size wide) piece }

-- whatever entry stands in these bytes has this flag and these parameters
record Same (fb db : ℕ) (dir : Bool) (e : ListEntry) (ps : List ℕ) : Type 0 where
  answer : IsAnswer (kind_for dir) (bits_for dir fb db) e.values
  bytes : ps ≡ params (bits_for dir fb db) e.values

same_entry : (wide : Bool) (fb db : ℕ) (dir : Bool) (old new : Rest) (piece : List ℕ) (e : ListEntry) (other rest : List ℕ) → FrontIs (stated wide old.bytes) old piece new
    → get_or piece (width wide) 0 ≡ flag_of dir → IsEntry wide fb db e other → old.bytes ≡ other ++ rest → Same fb db dir e (drop (head_size wide) piece)
same_entry wide fb db dir old new piece e other rest f flag h split =
    let st = stands wide fb db e old.bytes other rest h split in
    let same : other ≡ piece = same_piece (stated wide old.bytes) old new piece other rest f st.size split in
    let is : is_dir e.values ≡ dir = flag_tells (is_dir e.values) dir (sym st.flag ∙ ap (λ (x : List ℕ). get_or x (width wide) 0) same ∙ flag) in
    record {
      answer = subst (λ (d : Bool). IsAnswer (kind_for d) (bits_for d fb db) e.values) is h.fits.answer;
      bytes = ap (drop {A = ℕ} (head_size wide)) (sym same) ∙ st.params ∙ ap (λ (d : Bool). params (bits_for d fb db) e.values) is;
    }

pub entry_took : (wide : Bool) (fb db : ℕ) (dir : Bool) (old new : Rest) (piece : List ℕ) (v : Values) → HasEntryLength wide old.bytes → FrontIs (stated wide old.bytes) old piece new
    → get_or piece (width wide) 0 ≡ flag_of dir → TakesParams (kind_for dir) (bits_for dir fb db) (inner wide old piece) (Ok v) → Took (Entry wide fb db) old (record { values = v }) new
entry_took wide fb db dir old new piece v k f flag t =
    let w : ℕ = width wide in
    let p : ℕ = pad_count wide in
    let n : ℕ = stated wide old.bytes in
    let is : is_dir v ≡ dir = dir_is v dir t.0.kind_is in
    let whole : head_size wide ≡ w + (1 + p) = refl in
    let long : length piece ≡ n = piece_size n old new piece f in
    let enough : head_size wide ≤ n = k.enough in
    let ps : drop (head_size wide) piece ≡ node_params fb db v = t.1 ∙ ap (λ (d : Bool). params (bits_for d fb db) v) (sym is) in
    let told : big_number w piece ≡ n = ap (big_number w) f.piece_is ∙ big_from-take 0 w n old.bytes (omega arith) in
    let rest : length (drop (head_size wide) piece) ≡ length piece - head_size wide = length-drop (head_size wide) piece in
    let sized : length (drop (head_size wide) piece) ≡ length (node_params fb db v) = ap (length {A = ℕ}) ps in
    let size : big_number w piece ≡ head_size wide + length (node_params fb db v) = omega arith in
    let small : big_number w piece < 256 ^ w = big_number-lt w piece f.are_bytes in
    let behind : length (drop (w + 1) piece) ≡ length piece - (w + 1) = length-drop (w + 1) piece in
    record {
      first = piece;
      spelt = record {
        fits = record {
          answer = subst (λ (d : Bool). IsAnswer (kind_for d) (bits_for d fb db) v) (sym is) t.0;
          small = let P : ℕ → Type 0 = λ m. m < 256 ^ w in subst P size small;
        };
        pads = take p (drop (w + 1) piece);
        pads_are = length-take-le p (drop (w + 1) piece) (omega arith);
        bytes_are = row_again w p piece (omega arith) f.are_bytes
            ∙ same_row w _ _ _ _ (take p (drop (w + 1) piece)) _ _ size (flag ∙ ap flag_of (sym is)) ps;
      };
      split = piece_split n old new piece f;
      place = f.place ∙ ap (λ (m : ℕ). old.place + m) (sym long);
      only = λ y other more s e.
          let st = stands wide fb db y old.bytes other more s e in
          let a = same_entry wide fb db dir old new piece y other more f flag s e in
          (ap (λ (x : Values). let r : ListEntry = record { values = x } in r) (t.2 y.values a.answer a.bytes), same_rest n old new piece other more f st.size e);
    }

pub entry_lacks : (wide : Bool) (fb db : ℕ) (dir : Bool) (old new : Rest) (piece : List ℕ) (e : ReplyFault) → HasEntryLength wide old.bytes → FrontIs (stated wide old.bytes) old piece new
    → get_or piece (width wide) 0 ≡ flag_of dir → TakesParams (kind_for dir) (bits_for dir fb db) (inner wide old piece) (Err e) → TakesWord (Entry wide fb db) old (Err e) new
entry_lacks wide fb db dir old new piece Memory k f flag t = tt
entry_lacks wide fb db dir old new piece (Bad at) k f flag t =
    let h : head_size wide ≤ stated wide old.bytes = k.enough in
    let whole : head_size wide ≡ width wide + (1 + pad_count wide) = refl in
    let lt : width wide < stated wide old.bytes = omega arith in
    let here : get_or old.bytes (width wide) 0 ≡ flag_of dir =
    sym (get_or-take (stated wide old.bytes) old.bytes (width wide) 0 lt) ∙ ap (λ (x : List ℕ). get_or x (width wide) 0) (sym f.piece_is) ∙ flag in
    let place : at ≡ (old.place + head_size wide) + t.0.0 = t.0.2 in (
      (λ x first rest s e. let a = same_entry wide fb db dir old new piece x first rest f flag s e in t.1 x.values a.answer a.bytes),
      params_unfit dir t.0.0 k here
          (subst (λ (x : List ℕ). IsBadAt (kind_for dir) (bits_for dir fb db) x t.0.0) (ap (drop {A = ℕ} (head_size wide)) f.piece_is) t.0.1)
          (omega arith),
    )

-- both, as the code has them
pub entry_takes : (wide : Bool) (fb db : ℕ) (dir : Bool) (old new : Rest) (piece : List ℕ) (res : Result Values ReplyFault) → HasEntryLength wide old.bytes → FrontIs (stated wide old.bytes) old piece new
    → get_or piece (width wide) 0 ≡ flag_of dir → TakesParams (kind_for dir) (bits_for dir fb db) (inner wide old piece) res → TakesWord (Entry wide fb db) old (entry_result res) new
entry_takes wide fb db dir old new piece (Ok v) k f flag t = entry_took wide fb db dir old new piece v k f flag t
entry_takes wide fb db dir old new piece (Err e) k f flag t = entry_lacks wide fb db dir old new piece e k f flag t

-- what the code takes for the parameters of an entry
inner_is : (wide : Bool) (old : Rest) (piece : List ℕ) (place head : ℕ) → place ≡ old.place → head ≡ head_size wide
    → (let r : Rest = record { place = place + head; bytes = take (length piece - head) (drop head piece) } in r) ≡ inner wide old piece
inner_is wide old piece place head p h =
    let all : take (length piece - head) (drop head piece) ≡ drop head piece =
    ap (λ (n : ℕ). take n (drop head piece)) (sym (length-drop head piece)) ∙ take-length (drop head piece) in
    let r : ℕ → ℕ → Rest = λ q d. record { place = q + d; bytes = drop d piece } in
    ap (λ (x : List ℕ). let s : Rest = record { place = place + head; bytes = x } in s) all ∙ ap (λ (q : ℕ). r q head) p ∙ ap (λ (d : ℕ). r old.place d) h

pub entry_here : (wide : Bool) (fb db : ℕ) (dir : Bool) (old new : Rest) (piece : List ℕ) (place head size : ℕ) (res : Result Values ReplyFault) → HasEntryLength wide old.bytes
    → FrontIs (stated wide old.bytes) old piece new → place ≡ old.place → head ≡ head_size wide → size ≡ width wide → get_or piece size 0 ≡ flag_of dir
    → TakesParams (kind_for dir) (bits_for dir fb db) (record { place = place + head; bytes = take (length piece - head) (drop head piece) }) res
    → TakesWord (Entry wide fb db) old (entry_result res) new
entry_here wide fb db dir old new piece place head size res k f p h s flag t =
    entry_takes wide fb db dir old new piece res k f (ap (λ (i : ℕ). get_or piece i 0) (sym s) ∙ flag)
    (subst (λ (r : Rest). TakesParams (kind_for dir) (bits_for dir fb db) r res) (inner_is wide old piece place head p h) t)
