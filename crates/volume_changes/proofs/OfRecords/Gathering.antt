-- Changes that are gathered key by key.
use Rattle.std.proofs.Common.{◌≡◌, ◌∙◌, ℕ, zero, suc, ◌+◌, ◌<◌, ◌≤◌, arith, Bool, true, List, [], ◌∷◌, ◌++◌, map, take, length, get_or, refl, sym, ap, append-nil, append_assoc}
use Rattle.std.specs.Prelude.{flat_map, Option, Result, Ok, Err, OnOk, slice_index}
use Rattle.std.specs.FinMap.{get}
use Rattle.std.specs.List.{list_all}
use Rattle.std.proofs.lemmas.List.{take_more}
use Rattle.afp_base.proofs.ListFacts.{all-snoc}
use Rattle.volume_keeper_records.specs.Records.{appl_record_key, comment_record_key, head_key, icon_tag, node_key}
use Rattle.volume_changes.specs.declared.records.touched.ForkPlace.{ForkPlace}
use Rattle.volume_changes.specs.declared.records.touched.Mapping.{Mapping}
use Rattle.volume_changes.specs.records.Touched.{Touched, fork_keys, keys_of}
use Rattle.record_keeper.specs.declared.record.Change.{Change}
use Rattle.record_keeper.specs.Records.{Records}
use Rattle.volume_changes.specs.records.Differences.{differences, turned}

pub differences-append : (ks js : List (List ℕ)) (m n : Records) → differences (ks ++ js) m n ≡ differences ks m n ++ differences js m n
differences-append [] js m n = refl
differences-append (k ∷ ks) js m n = ap (λ l. turned k (get m k) (get n k) ++ l) (differences-append ks js m n) ∙ sym (append_assoc (turned k (get m k) (get n k)) (differences ks m n) (differences js m n))

-- one key
pub one : (k : List ℕ) (m n : Records) (old new : Option (List ℕ)) (before next : List Change) → next ≡ before ++ turned k old new → get m k ≡ old → get n k ≡ new → next ≡ before ++ differences (k ∷ []) m n
one k m n old new before next h a b = h ∙ (λ i. before ++ turned k (sym a i) (sym b i)) ∙ ap (λ l. before ++ l) (sym (append-nil (turned k (get m k) (get n k))))

pub ok-map : {T E : Type 0} {P Q : Type 0} (r : Result T E) → (P → Q) → OnOk r P → OnOk r Q
ok-map (Ok t) f h = f h
ok-map (Err e) f h = tt

pub take-one : (xs : List ℕ) (i : ℕ) → i < length xs → take (i + 1) xs ≡ take i xs ++ slice_index xs i ∷ []
take-one [] i h = absurd (omega (arith, h))
take-one (x ∷ xs) zero h = refl
take-one (x ∷ xs) (suc i) h = let e : suc i + 1 ≡ suc (i + 1) = omega arith in (λ k. take (e k) (x ∷ xs)) ∙ ap (λ l. x ∷ l) (take-one xs i (omega (arith, h)))

map-snoc : {A B : Type 0} (f : A → B) (xs : List A) (y : A) → map f (xs ++ y ∷ []) ≡ map f xs ++ f y ∷ []
map-snoc f [] y = refl
map-snoc f (x ∷ xs) y = ap (λ l. f x ∷ l) (map-snoc f xs y)

flat-snoc : {A B : Type 0} (f : A → List B) (xs : List A) (y : A) → flat_map f (xs ++ y ∷ []) ≡ flat_map f xs ++ f y
flat-snoc f [] y = append-nil (f y)
flat-snoc f (x ∷ xs) y = ap (λ l. f x ++ l) (flat-snoc f xs y) ∙ sym (append_assoc (f x) (flat_map f xs) (f y))

-- one element more
pub next-one : (key : ℕ → List ℕ) (xs : List ℕ) (i : ℕ) (m n : Records) (before now next : List Change) → i < length xs → now ≡ before ++ differences (map key (take i xs)) m n
    → next ≡ now ++ differences (key (slice_index xs i) ∷ []) m n → next ≡ before ++ differences (map key (take (i + 1) xs)) m n
next-one key xs i m n before now next h a b =
    b ∙ ap (λ l. l ++ differences (key (slice_index xs i) ∷ []) m n) a
    ∙ append_assoc before (differences (map key (take i xs)) m n) (differences (key (slice_index xs i) ∷ []) m n)
    ∙ ap (λ l. before ++ l) (sym (differences-append (map key (take i xs)) (key (slice_index xs i) ∷ []) m n))
    ∙ ap (λ ks. before ++ differences ks m n) (sym (ap (map key) (take-one xs i h) ∙ map-snoc key (take i xs) (slice_index xs i)))

-- one element more of any list
pub next-of : {A : Type 0} (key : A → List ℕ) (xs : List A) (i : ℕ) (m n : Records) (before now next : List Change) (d : A) → i < length xs → now ≡ before ++ differences (map key (take i xs)) m n
    → next ≡ now ++ differences (key (get_or xs i d) ∷ []) m n → next ≡ before ++ differences (map key (take (i + 1) xs)) m n
next-of key xs i m n before now next d h a b =
    let x = get_or xs i d in
    b ∙ ap (λ l. l ++ differences (key x ∷ []) m n) a
    ∙ append_assoc before (differences (map key (take i xs)) m n) (differences (key x ∷ []) m n)
    ∙ ap (λ l. before ++ l) (sym (differences-append (map key (take i xs)) (key x ∷ []) m n))
    ∙ ap (λ ks. before ++ differences ks m n) (sym (ap (map key) (take_more xs i d h) ∙ map-snoc key (take i xs) x))

-- the keys of one element more
pub next-keys : {A : Type 0} (keys : A → List (List ℕ)) (xs : List A) (i : ℕ) (m n : Records) (before now next : List Change) (d : A) → i < length xs → now ≡ before ++ differences (flat_map keys (take i xs)) m n
    → next ≡ now ++ differences (keys (get_or xs i d)) m n → next ≡ before ++ differences (flat_map keys (take (i + 1) xs)) m n
next-keys keys xs i m n before now next d h a b =
    let x = get_or xs i d in
    b ∙ ap (λ l. l ++ differences (keys x) m n) a
    ∙ append_assoc before (differences (flat_map keys (take i xs)) m n) (differences (keys x) m n)
    ∙ ap (λ l. before ++ l) (sym (differences-append (flat_map keys (take i xs)) (keys x) m n))
    ∙ ap (λ ks. before ++ differences ks m n) (sym (ap (flat_map keys) (take_more xs i d h) ∙ flat-snoc keys (take i xs) x))

-- a test of one element more
pub all-take : {A : Type 0} (test : A → Bool) (xs : List A) (i : ℕ) (d : A) → i < length xs → list_all test (take i xs) ≡ true → test (get_or xs i d) ≡ true → list_all test (take (i + 1) xs) ≡ true
all-take test xs i d h all one = ap (list_all test) (take_more xs i d h) ∙ all-snoc test (take i xs) (get_or xs i d) all one

-- so many of a list are all of it
pub whole-list : {A : Type 0} (xs : List A) (i : ℕ) → length xs ≤ i → take i xs ≡ xs
whole-list [] zero h = refl
whole-list [] (suc i) h = refl
whole-list (x ∷ xs) zero h = absurd (omega (arith, h))
whole-list (x ∷ xs) (suc i) h = ap (λ l. x ∷ l) (whole-list xs i (omega (arith, h)))

-- the keys of all kinds, one behind the other

behind : (js ks : List (List ℕ)) (m n : Records) (first middle last : List Change) → middle ≡ first ++ differences js m n → last ≡ middle ++ differences ks m n → last ≡ first ++ differences (js ++ ks) m n
behind js ks m n first middle last a b =
    b ∙ ap (λ l. l ++ differences ks m n) a ∙ append_assoc first (differences js m n) (differences ks m n) ∙ ap (λ l. first ++ l) (sym (differences-append js ks m n))

pub gathered : (t : Touched) (m n : Records) {none heads nodes forks comments icons all : List Change} {ids texts : List ℕ} {places : List ForkPlace} {keys : List (List ℕ)} {mappings : List Mapping}
    → none ≡ [] → heads ≡ none ++ differences (head_key ∷ []) m n
    → ids ≡ t.nodes → nodes ≡ heads ++ differences (map node_key ids) m n
    → places ≡ t.forks → forks ≡ nodes ++ differences (flat_map fork_keys places) m n
    → texts ≡ t.comments → comments ≡ forks ++ differences (map comment_record_key texts) m n
    → keys ≡ t.icons → icons ≡ comments ++ differences (map (λ key. icon_tag ∷ key) keys) m n
    → mappings ≡ t.appls → all ≡ icons ++ differences (map (λ (a : Mapping). appl_record_key a.creator a.node) mappings) m n
    → all ≡ differences (keys_of t) m n
gathered t m n {none} {heads} {nodes} {forks} {comments} {icons} {all} empty h is_ids a is_places b is_texts c is_keys d is_mappings e =
    let last = e ∙ ap (λ l. icons ++ differences (map (λ (x : Mapping). appl_record_key x.creator x.node) l) m n) is_mappings in
    let later = behind _ _ m n comments icons all (d ∙ ap (λ l. comments ++ differences (map (λ key. icon_tag ∷ key) l) m n) is_keys) last in
    let middle = behind _ _ m n forks comments all (c ∙ ap (λ l. forks ++ differences (map comment_record_key l) m n) is_texts) later in
    let front = behind _ _ m n nodes forks all (b ∙ ap (λ l. nodes ++ differences (flat_map fork_keys l) m n) is_places) middle in
    let start = behind _ _ m n heads nodes all (a ∙ ap (λ l. heads ++ differences (map node_key l) m n) is_ids) front in
    behind (head_key ∷ []) _ m n none heads all h start ∙ ap (λ l. l ++ differences (keys_of t) m n) empty
