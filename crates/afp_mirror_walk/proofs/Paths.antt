-- A path of one name.
use Rattle.std.proofs.Common.{◌≡◌, ℕ, zero, suc, ◌+◌, ◌==◌, ◌≤◌, ◌<◌, Bool, true, false, not, cond, List, [], ◌∷◌, ◌++◌, Option, Some, None, Result, Ok, Err, length, take, drop, refl, sym, ap, ◌∙◌, subst, arith}
use Rattle.std.specs.Prelude.{All, is_some, option_map}
use Rattle.std.proofs.lemmas.Bool.{cond-false, cond-true, ne_eqb}
use Rattle.std.proofs.lemmas.List.{drop_all, take_all}
use Rattle.afp_base.specs.Choice.{first_holding}
use Rattle.afp_base.specs.declared.code.Code.{Code}
use Rattle.afp_base.specs.declared.code.Code.TheVariants as code
use Rattle.afp_names.specs.Name.{IsName, name_key}
use Rattle.afp_names.specs.Path.{PathValue, element_name, path_steps, utf8_names}
use Rattle.afp_names.specs.declared.path.Step.{Step}
use Rattle.afp_names.specs.declared.path.Step.TheVariants.{Down, Up}
use Rattle.afp_names.proofs.PathLemmas.{element_before, path_steps-element, path_steps-nil, zeros_before}
use Rattle.volume_spec.specs.CreateDir.{create_dir_effect, create_dir_refusal}
use Rattle.volume_spec.specs.CreateFile.{create_file_effect, create_file_refusal, create_file_there, without_replaced}
use Rattle.volume_spec.specs.Rights.{lacks, write_right}
use Rattle.volume_spec.specs.Shared.{Opened, behind, created, done_at, first_or, has_no_room}
use Rattle.volume_spec.specs.VolumeState.{Row, VolumeState, root_parent}
use Rattle.volume_spec.specs.Walk.{Place, before_down, child_by_key, found, has_directory, is_start, named_in, new_place, not_above_root, place_behind, walk}
use Rattle.afp_mirror_walk.specs.Names.{MakesAt, in_dir, place_of}

suc_not_zero : (b : ℕ) → (suc b == 0) ≡ false
suc_not_zero b = ne_eqb (suc b) 0 (λ e. cc)

rest-all : (b : ℕ) (name : List ℕ) → All (λ (c : ℕ). c ≡ 0 → ⊥) (b ∷ name) → All (λ (c : ℕ). c ≡ 0 → ⊥) name
rest-all b name all k d below = all (suc k) d (omega (arith, below))

-- no byte of a name is 0, so it is one element
some-first : (name : List ℕ) → All (λ (b : ℕ). b ≡ 0 → ⊥) name → 0 < length name → zeros_before name ≡ 0
some-first [] all some = absurd (omega (arith, some))
some-first (zero ∷ name) all some = absurd (all 0 0 (omega arith) refl)
some-first (suc b ∷ name) all some = rw (suc_not_zero b) refl

all-element : (name : List ℕ) → All (λ (b : ℕ). b ≡ 0 → ⊥) name → element_before name ≡ length name
all-element [] all = refl
all-element (zero ∷ name) all = absurd (all 0 0 (omega arith) refl)
all-element (suc b ∷ name) all = rw (suc_not_zero b) (omega (arith, all-element name (rest-all (suc b) name all)))

pub name-step : (name : List ℕ) → IsName name → path_steps utf8_names name ≡ Down name ∷ []
unfolding element_name
name-step name is =
    path_steps-element utf8_names name is.not_empty (some-first name is.no_zero is.not_empty)
    ∙ (λ i. Down (whole i) ∷ path_steps utf8_names (none i))
    ∙ ap (λ (steps : List Step). Down name ∷ steps) (path_steps-nil utf8_names)
  where
    whole : take (element_before name) name ≡ name
    whole = take_all (element_before name) name (omega (arith, all-element name is.no_zero))

    none : drop (element_before name) name ≡ []
    none = drop_all (element_before name) name (omega (arith, all-element name is.no_zero))

pub none-step : path_steps utf8_names [] ≡ []
none-step = path_steps-nil utf8_names

-- what is not refused: no test holds
none-first : {A : Type 0} (b : Bool) (x : A) (rest : Option A) → cond b (Some x) rest ≡ None → (b ≡ false) × (rest ≡ None)
none-first true x rest h = absurd (cc)
none-first false x rest h = (refl, h)

not-some : {A : Type 0} (o : Option A) → is_some o ≡ false → o ≡ None
not-some None h = refl
not-some (Some x) h = absurd (cc)

-- where a path of one name leads
abbrev at_name : List Row → List ℕ → ℕ → Bool → Bool → Result Place Code
at_name rows name dir starts above = named_in rows name (cond starts (cond above (Err code.ObjectNotFound) (Ok dir)) (Err code.DirNotFound))

place-at : (rows : List Row) (user dir : ℕ) (name : List ℕ) → IsName name → new_place rows user dir (place_of name) ≡ at_name rows name dir (is_start rows dir) (dir == root_parent)
unfolding new_place walk
place-at rows user dir name is = ap (λ (steps : List Step). place_behind rows user utf8_names dir (before_down steps)) (name-step name is)

record Leads (rows : List Row) (dir : ℕ) (name : List ℕ) (place : Result Place Code) (refused : Place → Option Code) : Type 0 where
  directory : has_directory rows dir ≡ true
  leads : place ≡ Ok (in_dir dir name)
  passes : refused (in_dir dir name) ≡ None

leads-at : (rows : List Row) (dir : ℕ) (name : List ℕ) (starts above there : Bool) (refused : Place → Option Code) → has_directory rows dir ≡ there → behind (at_name rows name dir starts above) refused ≡ None
    → Leads rows dir name (at_name rows name dir starts above) refused
leads-at rows dir name false above there refused e h = absurd (cc)
leads-at rows dir name true true there refused e h = absurd (cc)
leads-at rows dir name true false true refused e h =
    let is : named_in rows name (Ok dir) ≡ Ok (in_dir dir name) = cond-true (has_directory rows dir) (Ok (in_dir dir name)) (Err code.DirNotFound) e in
    record { directory = e; leads = is; passes = sym (ap (λ (r : Result Place Code). behind r refused) is) ∙ h }
leads-at rows dir name true false false refused e h =
    let is : named_in rows name (Ok dir) ≡ Err code.DirNotFound = cond-false (has_directory rows dir) (Ok (in_dir dir name)) (Err code.DirNotFound) e in
    let refuses : Some code.DirNotFound ≡ None = sym (ap (λ (r : Result Place Code). behind r refused) is) ∙ h in absurd (cc)

leads : (rows : List Row) (user dir : ℕ) (name : List ℕ) (refused : Place → Option Code) → IsName name → behind (new_place rows user dir (place_of name)) refused ≡ None → Leads rows dir name (new_place rows user dir (place_of name)) refused
leads rows user dir name refused is h =
    let l = leads-at rows dir name (is_start rows dir) (dir == root_parent) (has_directory rows dir) refused refl (sym (ap (λ (r : Result Place Code). behind r refused) (place-at rows user dir name is)) ∙ h) in
    record { directory = l.directory; leads = place-at rows user dir name is ∙ l.leads; passes = l.passes }

pub dir-created : (v : VolumeState) (user now dir : ℕ) (name : List ℕ) → IsName name → create_dir_refusal v user dir (place_of name) ≡ None → MakesAt v dir name (create_dir_effect v user now dir (place_of name)) true user now
unfolding create_dir_refusal create_dir_effect
dir-created v user now dir name is h =
    let refused : Place → Option Code = λ (place : Place). first_holding (
    (lacks v.rows user write_right place.dir, code.AccessDenied)
    ∷ (is_some (child_by_key v.rows place.dir (name_key place.name)), code.ObjectExists)
    ∷ (has_no_room v, code.DiskFull)
    ∷ []) in
    let l = leads v.rows user dir name refused is h in
    let one = none-first (lacks v.rows user write_right dir) code.AccessDenied (first_holding ((is_some (child_by_key v.rows dir (name_key name)), code.ObjectExists) ∷ (has_no_room v, code.DiskFull) ∷ [])) l.passes in
    let two = none-first (is_some (child_by_key v.rows dir (name_key name))) code.ObjectExists (first_holding ((has_no_room v, code.DiskFull) ∷ [])) one.1 in
    record {
      directory = l.directory;
      free = not-some (child_by_key v.rows dir (name_key name)) two.0;
      made_is = ap (λ (r : Result Place Code). done_at r v (created true user now v)) l.leads;
    }

-- a soft create finds no node of the name
none-there : (v : VolumeState) (opens : List Opened) (old : Option ℕ) → create_file_there v opens false old ≡ None → old ≡ None
none-there v opens None h = refl
none-there v opens (Some id) h = by (has_directory v.rows id) h
  where
    by : (b : Bool) → cond b (Some code.ObjectTypeErr) (Some code.ObjectExists) ≡ None → Some id ≡ None
    by true k = absurd (cc)
    by false k = absurd (cc)

pub file-created : (v : VolumeState) (user now dir : ℕ) (opens : List Opened) (name : List ℕ) → IsName name → create_file_refusal v user opens false dir (place_of name) ≡ None
    → MakesAt v dir name (create_file_effect v user now dir (place_of name)) false user now
unfolding create_file_refusal create_file_effect
file-created v user now dir opens name is h =
    let refused : Place → Option Code = λ (place : Place). first_or ((lacks v.rows user write_right place.dir, code.AccessDenied) ∷ []) (create_file_there v opens false (child_by_key v.rows place.dir (name_key place.name))) in
    let l = leads v.rows user dir name refused is h in
    let one = none-first (lacks v.rows user write_right dir) code.AccessDenied (create_file_there v opens false (child_by_key v.rows dir (name_key name))) l.passes in
    let free : child_by_key v.rows dir (name_key name) ≡ None = none-there v opens (child_by_key v.rows dir (name_key name)) one.1 in
    record {
      directory = l.directory;
      free = free;
      made_is =
          ap (λ (r : Result Place Code). done_at r v (λ (place : Place). created false user now (without_replaced v (child_by_key v.rows place.dir (name_key place.name))) place)) l.leads
          ∙ ap (λ (old : Option ℕ). created false user now (without_replaced v old) (in_dir dir name)) free;
    }

abbrev ok_of : ℕ → Result ℕ Code
ok_of n = Ok n

same-ok : (m n : ℕ) → ok_of m ≡ ok_of n → m ≡ n
same-ok m n k = cc

pub dir-found : (v : VolumeState) (user dir id : ℕ) → found v.rows user dir (place_of []) ≡ Ok id → id ≡ dir
unfolding walk
dir-found v user dir id h = by (is_start v.rows dir) (dir == root_parent) (sym (ap (λ (steps : List Step). walk v.rows user utf8_names code.ObjectNotFound dir steps) none-step) ∙ h)
  where
    by : (starts above : Bool) → cond starts (cond above (Err code.ObjectNotFound) (Ok dir)) (Err code.DirNotFound) ≡ Ok id → id ≡ dir
    by false above k = absurd (cc)
    by true true k = absurd (cc)
    by true false k = sym (same-ok dir id k)
