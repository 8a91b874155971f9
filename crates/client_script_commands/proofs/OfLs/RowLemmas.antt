-- The lines of entries, one by one.
use Rattle.std.proofs.Common.{◌≡◌, ℕ, ◌<◌, List, [], ◌∷◌, ◌++◌, length, drop, get_or, sym, ap, ◌∙◌, arith, append_assoc, append-nil, take, ◌-◌, subst, length-drop}
use Rattle.std.proofs.Math.Seq.{take-length}
use Rattle.afp_replies.specs.declared.list.ListEntry.{ListEntry}
use Rattle.client_script_commands.specs.ls.Ls.{node_line, rows_text}

pub first_row : (rows : List ListEntry) (row : ListEntry) (text now : List ℕ) → 0 < length rows → row ≡ get_or rows 0 row → now ≡ text ++ node_line row.values
    → now ++ rows_text (drop 1 rows) ≡ text ++ rows_text rows
unfolding rows_text
first_row [] row text now h same e = absurd (omega (arith, h))
first_row (r ∷ rows) row text now h same e =
    ap (λ (bytes : List ℕ). bytes ++ rows_text rows) (e ∙ ap (λ (x : ListEntry). text ++ node_line x.values) same) ∙ append_assoc text (node_line r.values) (rows_text rows)

pub rest_is : (rows : List ListEntry) → 0 < length rows → take (length rows - 1) (drop 1 rows) ≡ drop 1 rows
rest_is rows h =
    let e : length (drop 1 rows) ≡ length rows - 1 = length-drop 1 rows in
    subst (λ (n : ℕ). take n (drop 1 rows) ≡ drop 1 rows) e (take-length (drop 1 rows))

pub all_rows : (rows rest : List ListEntry) (text now : List ℕ) → now ++ rows_text rest ≡ text ++ rows_text rows → length rest ≡ 0 → now ≡ text ++ rows_text rows
unfolding rows_text
all_rows rows [] text now h n = sym (append-nil now) ∙ h
all_rows rows (r ∷ rest) text now h n = absurd (omega (arith, n))
