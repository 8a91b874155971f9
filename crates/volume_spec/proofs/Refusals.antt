-- What follows where nothing is refused.
use Rattle.std.proofs.Common.{◌≡◌, ◌∙◌, ap, sym, refl, ℕ, Bool, true, false, List, [], ◌∷◌, Option, Some, None}
use Rattle.std.specs.Prelude.{Result, Ok, Err, is_none, is_some, option_map, cond}
use Rattle.std.specs.List.{list_all}
use Rattle.std.proofs.lemmas.Bool.{and_parts, cond_both}
use Rattle.afp_base.specs.Choice.{first_holding}
use Rattle.afp_base.specs.declared.code.Code.{Code}
use Rattle.afp_names.specs.Name.{name_fault}
use Rattle.afp_names.specs.Path.{PathValue}
use Rattle.afp_names.specs.declared.path.Step.{Step}
use Rattle.afp_names.specs.declared.path.Step.TheVariants.{Up, Down}
use Rattle.volume_spec.specs.Shared.{behind, done_at, first_or}
use Rattle.volume_spec.specs.Walk.{Place, new_place, place_behind, named_in, before_down, one_down, one_down_or, has_directory, walk, is_named_step, is_named_path}
use Rattle.volume_spec.specs.VolumeState.{Row}
use Rattle.afp_base.specs.declared.code.Code.TheVariants.{DirNotFound}
use Rattle.afp_base.proofs.Facts.{none_from_is_none}

-- each condition fails
abbrev pub NoneHolds : List (Bool × Code) → Type 0
NoneHolds [] = Unit {0}
NoneHolds (row ∷ rows) = (row.0 ≡ false) × NoneHolds rows

pub none-holds : (rows : List (Bool × Code)) → first_holding rows ≡ None → NoneHolds rows
none-holds [] h = tt
none-holds (row ∷ rows) h = one row.0 row.1 (first_holding rows) h (none-holds rows)
  where
    one : (b : Bool) (code : Code) (rest : Option Code) → (cond b (Some code) rest) ≡ None → (rest ≡ None → NoneHolds rows) → (b ≡ false) × NoneHolds rows
    one true code rest h gives = absurd (cc)
    one false code rest h gives = (refl, gives h)

pub none-first : (rows : List (Bool × Code)) (rest : Option Code) → first_or rows rest ≡ None → NoneHolds rows × (rest ≡ None)
none-first [] rest h = (tt, h)
none-first (row ∷ rows) rest h = one row.0 row.1 (first_or rows rest) h (none-first rows rest)
  where
    one : (b : Bool) (code : Code) (later : Option Code) → (cond b (Some code) later) ≡ None → (later ≡ None → NoneHolds rows × (rest ≡ None)) → ((b ≡ false) × NoneHolds rows) × (rest ≡ None)
    one true code later h gives = absurd (cc)
    one false code later h gives = let g = gives h in ((refl, g.0), g.1)

-- a fact of what is done holds where it does of each thing found that is not refused
pub at-found : {A B : Type 0} (P : B → Type 0) (r : Result A Code) (refused : A → Option Code) (old : B) (does : A → B) → behind r refused ≡ None
    → ((a : A) → r ≡ Ok a → refused a ≡ None → P (does a)) → P (done_at r old does)
at-found P (Ok a) refused old does h gives = gives a refl h
at-found P (Err code) refused old does h gives = absurd (cc)

-- a fact of what is done holds where it does of each thing found, and of the old
pub at-each : {A B : Type 0} (P : B → Type 0) (r : Result A Code) (old : B) (does : A → B) → P old → ((a : A) → r ≡ Ok a → P (does a)) → P (done_at r old does)
at-each P (Ok a) old does h gives = gives a refl
at-each P (Err code) old does h gives = h

-- what is not there is none
pub is-none : {A : Type 0} (o : Option A) → is_some o ≡ false → o ≡ None
is-none None h = refl
is-none (Some a) h = absurd (cc)

-- a new place is in a directory, under a name

split-named : (steps : List Step) (split : List Step × List ℕ) → list_all is_named_step steps ≡ true → before_down steps ≡ Some split → name_fault split.1 ≡ None
split-named [] split named h = absurd (cc)
split-named (Up ∷ []) split named h = absurd (cc)
split-named (Down name ∷ []) split named h = let same : name ≡ split.1 = ap last h in ap name_fault (sym same) ∙ none_from_is_none (name_fault name) (and_parts (is_none (name_fault name)) true named).0
  where
    last : Option (List Step × List ℕ) → List ℕ
    last None = name
    last (Some s) = s.1
split-named (step ∷ next ∷ steps) split named h = longer (before_down (next ∷ steps)) h (λ s. split-named (next ∷ steps) s (and_parts (is_named_step step) (list_all is_named_step (next ∷ steps)) named).1)
  where
    longer : (o : Option (List Step × List ℕ)) → option_map (λ (s : List Step × List ℕ). (step ∷ s.0, s.1)) o ≡ Some split → ((s : List Step × List ℕ) → o ≡ Some s → name_fault s.1 ≡ None) → name_fault split.1 ≡ None
    longer None h gives = absurd (cc)
    longer (Some s) h gives = let same : s.1 ≡ split.1 = ap last h in ap name_fault (sym same) ∙ gives s refl
      where
        last : Option (List Step × List ℕ) → List ℕ
        last None = s.1
        last (Some t) = t.1

pub record IsPlaceThere (rows : List Row) (place : Place) : Type 0 where
  pub directory : has_directory rows place.dir ≡ true
  pub named : name_fault place.name ≡ None

pub place-there : (rows : List Row) (user dir : ℕ) (path : PathValue) (place : Place) → is_named_path path ≡ true → new_place rows user dir path ≡ Ok place → IsPlaceThere rows place
unfolding new_place
place-there rows user dir path place named h = by-split (before_down path.steps) (λ split. split-named path.steps split named) h
  where
    in-dir : (name : List ℕ) (r : Result ℕ Code) → name_fault name ≡ None → named_in rows name r ≡ Ok place → IsPlaceThere rows place
    in-dir name (Err code) good h = absurd (cc)
    in-dir name (Ok d) good h =
        cond_both (has_directory rows d) (Ok (record { dir = d; name = name })) (Err DirNotFound) (λ r. r ≡ Ok place → IsPlaceThere rows place)
        (λ there h. let one : record { dir = d; name = name } ≡ place = cc in record { directory = ap (λ (p : Place). has_directory rows p.dir) (sym one) ∙ there; named = ap (λ (p : Place). name_fault p.name) (sym one) ∙ good })
        (λ no h. absurd (cc)) h

    by-split : (o : Option (List Step × List ℕ)) → ((s : List Step × List ℕ) → o ≡ Some s → name_fault s.1 ≡ None) → place_behind rows user path.kind dir o ≡ Ok place → IsPlaceThere rows place
    by-split None good h = absurd (cc)
    by-split (Some s) good h = in-dir s.1 (walk rows user path.kind DirNotFound dir s.0) (good s refl) h

-- a new name is a name
pub down-named : (steps : List Step) (name : List ℕ) → list_all is_named_step steps ≡ true → one_down steps ≡ Ok name → name_fault name ≡ None
down-named [] name named h = absurd (cc)
down-named (Up ∷ steps) name named h = absurd (cc)
down-named (Down n ∷ []) name named h = let same : n ≡ name = cc in ap name_fault (sym same) ∙ none_from_is_none (name_fault n) (and_parts (is_none (name_fault n)) true named).0
down-named (Down n ∷ step ∷ steps) name named h = absurd (cc)

pub down-or-named : (old : List ℕ) (steps : List Step) (name : List ℕ) → name_fault old ≡ None → list_all is_named_step steps ≡ true → one_down_or old steps ≡ Ok name → name_fault name ≡ None
down-or-named old [] name good named h = let same : old ≡ name = cc in ap name_fault (sym same) ∙ good
down-or-named old (Up ∷ steps) name good named h = absurd (cc)
down-or-named old (Down n ∷ []) name good named h = down-named (Down n ∷ []) name named h
down-or-named old (Down n ∷ step ∷ steps) name good named h = absurd (cc)
