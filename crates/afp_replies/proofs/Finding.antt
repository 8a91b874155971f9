-- The search for a command's row.
use Rattle.std.proofs.Common.{◌≡◌, ◌≢◌, ℕ, List, [], ◌∷◌, map, refl}
use Rattle.std.proofs.lemmas.Bool.{eq-eqb, ne_eqb}
use Rattle.afp_replies.specs.declared.commands.Shape.TheVariants.{Unlisted}
use Rattle.afp_replies.specs.declared.commands.ShapeRow.{ShapeRow}
use Rattle.afp_replies.specs.Commands.{shape_in}
use Rattle.afp_replies.specs.lemma.Reading.{row_of}

pub in_this_row : (row : ShapeRow) (rows : List ShapeRow) (command : ℕ) → row.0 ≡ command → shape_in (map row_of (row ∷ rows)) command ≡ row.1
unfolding shape_in
in_this_row row rows command e = rw (eq-eqb row.0 command e) refl

pub not_in_this_row : (row : ShapeRow) (rows : List ShapeRow) (command : ℕ) → row.0 ≢ command → shape_in (map row_of (row ∷ rows)) command ≡ shape_in (map row_of rows) command
unfolding shape_in
not_in_this_row row rows command e = rw (ne_eqb row.0 command e) refl

pub in_no_row : (command : ℕ) → shape_in [] command ≡ Unlisted
unfolding shape_in
in_no_row command = refl
