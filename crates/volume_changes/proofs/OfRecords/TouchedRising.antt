-- Keys of what is touched rise where that does.
use Rattle.std.proofs.Common.{◌≡◌, ◌∙◌, ℕ, zero, suc, ◌+◌, ◌<◌, ◌≤◌, ◌^◌, Bool, true, List, [], ◌∷◌, ◌++◌, inl, inr, map, length, refl, sym, ap, arith}
use Rattle.std.specs.Prelude.{flat_map, nat_le, nat_lt, ◌==◌}
use Rattle.std.specs.List.{list_all}
use Rattle.std.specs.Cmp.Lexicographic.{slice_cmp}
use Rattle.std.specs.Ordering.{nat_cmp, is_lt}
use Rattle.std.specs.declared.cmp.Ordering.TheVariants.{Less}
use Rattle.std.proofs.lemmas.Bool.{and_from, and_parts, eqb-true, leb-true, lt-ltb, ltb-true}
use Rattle.std.proofs.lemmas.List.Folds.{list_all-map}
use Rattle.afp_base.proofs.Facts.{is_lt_less}
use Rattle.afp_base.proofs.ListFacts.{all-always, all-append, all-both, all-weaker}
use Rattle.volume_spec.specs.Order.{rises, stands_before}
use Rattle.volume_spec.specs.TypedVolume.{is_long}
use Rattle.volume_keeper_records.specs.Records.{appl_record_key, block_key, comment_record_key, flag_byte, head_key, icon_tag, long_bytes, node_key}
use Rattle.volume_keeper_records.proofs.ByteOrder.{byte_less, byte_of, front_same, long_less}
use Rattle.volume_keeper_records.proofs.RowOrder.{tails_for}
use Rattle.volume_changes.specs.declared.records.touched.ForkPlace.{ForkPlace}
use Rattle.volume_changes.specs.declared.records.touched.Mapping.{Mapping}
use Rattle.volume_changes.specs.records.Touched.{Touched, fork_keys, keys_of, most_blocks, numbers_from}
use Rattle.volume_changes.specs.records.TouchedOrder.{AreInRange, AreRising, is_fit_mapping}

abbrev Rise : List (List ℕ) → Type 0
Rise keys = rises (λ (key : List ℕ). key) keys ≡ true

-- each of these stands before each of those
abbrev AllBefore : List (List ℕ) → List (List ℕ) → Type 0
AllBefore xs ys = list_all (λ x. list_all (λ y. stands_before x y) ys) xs ≡ true

rise-join : (xs ys : List (List ℕ)) → AllBefore xs ys → Rise xs → Rise ys → Rise (xs ++ ys)
rise-join [] ys before r s = s
rise-join (x ∷ xs) ys before r s =
    let b = and_parts (list_all (λ y. stands_before x y) ys) (list_all (λ z. list_all (λ y. stands_before z y) ys) xs) before in
    let e = and_parts (list_all (λ y. stands_before x y) xs) (rises (λ (key : List ℕ). key) xs) r in
    and_from (list_all (λ y. stands_before x y) (xs ++ ys)) (rises (λ (key : List ℕ). key) (xs ++ ys)) (all-append (λ y. stands_before x y) xs ys e.0 b.0) (rise-join xs ys b.1 e.1 s)

rise-map : {A : Type 0} (f g : A → List ℕ) (p : A → Bool) → ((a b : A) → p a ≡ true → p b ≡ true → stands_before (f a) (f b) ≡ true → stands_before (g a) (g b) ≡ true) → (xs : List A) → list_all p xs ≡ true → rises f xs ≡ true → Rise (map g xs)
rise-map f g p keeps [] all h = refl
rise-map f g p keeps (x ∷ xs) all h =
    let a = and_parts (p x) (list_all p xs) all in
    let e = and_parts (list_all (λ y. stands_before (f x) (f y)) xs) (rises f xs) h in
    and_from (list_all (λ y. stands_before (g x) y) (map g xs)) (rises (λ (key : List ℕ). key) (map g xs))
    (list_all-map (λ y. stands_before (g x) y) g xs ∙ all-both p (λ y. stands_before (f x) (f y)) (λ y. stands_before (g x) (g y)) xs (λ y q b. keeps x y a.0 q b) a.1 e.0)
    (rise-map f g p keeps xs a.1 e.1)

-- keys of one kind stand before those of another, by their first byte
abbrev first : List ℕ → ℕ
first [] = 0
first (x ∷ xs) = x

by-first : (a b : List ℕ) → first a < first b → stands_before a b ≡ true
by-first [] [] h = absurd (omega arith)
by-first [] (y ∷ ys) h = refl
by-first (x ∷ xs) [] h = absurd (omega arith)
by-first (x ∷ xs) (y ∷ ys) h = ap is_lt (byte_less x y xs ys h)

abbrev UpTo : ℕ → List (List ℕ) → Type 0
UpTo k keys = list_all (λ key. nat_le (first key) k) keys ≡ true

abbrev Above : ℕ → List (List ℕ) → Type 0
Above k keys = list_all (λ key. nat_lt k (first key)) keys ≡ true

rise-both : (k : ℕ) (xs ys : List (List ℕ)) → UpTo k xs → Above k ys → Rise xs → Rise ys → Rise (xs ++ ys)
rise-both k xs ys low high r s = rise-join xs ys
    (all-weaker (λ key. nat_le (first key) k) (λ x. list_all (λ y. stands_before x y) ys) xs (λ x l.
    all-weaker (λ key. nat_lt k (first key)) (λ y. stands_before x y) ys (λ y h. by-first x y (let a = leb-true (first x) k l in let b = ltb-true k (first y) h in omega arith)) high) low) r s

each : {A : Type 0} (g : A → List ℕ) (test : List ℕ → Bool) (xs : List A) → ((a : A) → test (g a) ≡ true) → list_all test (map g xs) ≡ true
each g test xs h = list_all-map test g xs ∙ all-weaker (λ x. true) (λ x. test (g x)) xs (λ x t. h x) (all-always xs)

-- numbers

long-of : (n : ℕ) → is_long n ≡ true → n < 2 ^ 32
long-of n h = let l : n < 4294967296 = ltb-true n 4294967296 h in omega (arith, l)

lower : (a b : ℕ) → stands_before (a ∷ []) (b ∷ []) ≡ true → a < b
lower a b h = elim (byte_of a b [] [] (is_lt_less (slice_cmp nat_cmp (a ∷ []) (b ∷ [])) h)) [
  | inl less ↦ less
  | inr same ↦ absurd (let k = same.1 in cc k)
]

-- a tag in front
behind-tag : (tag : ℕ) (xs ys : List ℕ) → slice_cmp nat_cmp xs ys ≡ Less → stands_before (tag ∷ xs) (tag ∷ ys) ≡ true
behind-tag tag xs ys less = ap is_lt (front_same (tag ∷ []) xs ys ∙ less)

id-before : (tag a b : ℕ) → is_long b ≡ true → stands_before (a ∷ []) (b ∷ []) ≡ true → stands_before (tag ∷ long_bytes a) (tag ∷ long_bytes b) ≡ true
id-before tag a b long h = behind-tag tag (long_bytes a) (long_bytes b) (long_less a b [] [] (lower a b h) (long-of b long))

nodes-rise : (ids : List ℕ) → list_all is_long ids ≡ true → rises (λ (id : ℕ). id ∷ []) ids ≡ true → Rise (map node_key ids)
nodes-rise ids long h = rise-map (λ (id : ℕ). id ∷ []) node_key is_long (λ a b p q before. id-before 1 a b q before) ids long h

comments-rise : (ids : List ℕ) → list_all is_long ids ≡ true → rises (λ (id : ℕ). id ∷ []) ids ≡ true → Rise (map comment_record_key ids)
comments-rise ids long h = rise-map (λ (id : ℕ). id ∷ []) comment_record_key is_long (λ a b p q before. id-before 3 a b q before) ids long h

icons-rise : (keys : List (List ℕ)) → rises (λ (key : List ℕ). key) keys ≡ true → Rise (map (λ key. icon_tag ∷ key) keys)
icons-rise keys h = rise-map (λ (key : List ℕ). key) (λ key. icon_tag ∷ key) (λ key. true) (λ a b p q before. behind-tag icon_tag a b (is_lt_less (slice_cmp nat_cmp a b) before)) keys (all-always keys) h

appl-before : (a b : Mapping) → is_fit_mapping a ≡ true → is_fit_mapping b ≡ true → stands_before (a.creator ++ a.node ∷ []) (b.creator ++ b.node ∷ []) ≡ true → stands_before (appl_record_key a.creator a.node) (appl_record_key b.creator b.node) ≡ true
appl-before a b p q before =
    let e = and_parts (is_long a.node) (length a.creator == 4) p in
    let f = and_parts (is_long b.node) (length b.creator == 4) q in
    behind-tag 5 (a.creator ++ long_bytes a.node) (b.creator ++ long_bytes b.node)
    (tails_for a.creator b.creator (a.node ∷ []) (b.node ∷ []) (long_bytes a.node) (long_bytes b.node) (eqb-true (length a.creator) 4 e.1 ∙ sym (eqb-true (length b.creator) 4 f.1))
    (λ less. elim (byte_of a.node b.node [] [] less) [
      | inl l ↦ long_less a.node b.node [] [] l (long-of b.node f.0)
      | inr r ↦ absurd (let k = r.1 in cc k)
    ]) (is_lt_less (slice_cmp nat_cmp (a.creator ++ a.node ∷ []) (b.creator ++ b.node ∷ [])) before))

appls-rise : (ms : List Mapping) → list_all is_fit_mapping ms ≡ true → rises (λ (m : Mapping). m.creator ++ m.node ∷ []) ms ≡ true → Rise (map (λ (m : Mapping). appl_record_key m.creator m.node) ms)
appls-rise ms fit h = rise-map (λ (m : Mapping). m.creator ++ m.node ∷ []) (λ (m : Mapping). appl_record_key m.creator m.node) is_fit_mapping appl-before ms fit h

-- the blocks of a fork, by index

few-numbers : (n count : ℕ) → n + count ≤ 2 ^ 32 → list_all is_long (numbers_from n count) ≡ true
few-numbers n zero few = refl
few-numbers n (suc count) few = and_from (is_long n) (list_all is_long (numbers_from (n + 1) count)) (lt-ltb n 4294967296 (omega arith)) (few-numbers (n + 1) count (omega arith))

below-numbers : (low n count : ℕ) → low < n → list_all (λ i. stands_before (low ∷ []) (i ∷ [])) (numbers_from n count) ≡ true
below-numbers low n zero less = refl
below-numbers low n (suc count) less =
    and_from (stands_before (low ∷ []) (n ∷ [])) (list_all (λ i. stands_before (low ∷ []) (i ∷ [])) (numbers_from (n + 1) count)) (ap is_lt (byte_less low n [] [] less)) (below-numbers low (n + 1) count (omega arith))

numbers-rise : (n count : ℕ) → rises (λ (i : ℕ). i ∷ []) (numbers_from n count) ≡ true
numbers-rise n zero = refl
numbers-rise n (suc count) =
    and_from (list_all (λ i. stands_before (n ∷ []) (i ∷ [])) (numbers_from (n + 1) count)) (rises (λ (i : ℕ). i ∷ []) (numbers_from (n + 1) count)) (below-numbers n (n + 1) count (omega arith)) (numbers-rise (n + 1) count)

index-before : (id : ℕ) (f : Bool) (i j : ℕ) → is_long j ≡ true → stands_before (i ∷ []) (j ∷ []) ≡ true → stands_before (block_key id f i) (block_key id f j) ≡ true
index-before id f i j long before =
    behind-tag 2 (long_bytes id ++ (flag_byte f ∷ long_bytes i)) (long_bytes id ++ (flag_byte f ∷ long_bytes j))
    (front_same (long_bytes id) (flag_byte f ∷ long_bytes i) (flag_byte f ∷ long_bytes j) ∙ front_same (flag_byte f ∷ []) (long_bytes i) (long_bytes j)
    ∙ long_less i j [] [] (lower i j before) (long-of j long))

fork-rise : (p : ForkPlace) → Rise (fork_keys p)
unfolding fork_keys
fork-rise p = rise-map (λ (i : ℕ). i ∷ []) (block_key p.node p.resource) is_long (λ i j a b before. index-before p.node p.resource i j b before) (numbers_from 0 most_blocks) (few-numbers 0 most_blocks (omega arith)) (numbers-rise 0 most_blocks)

-- those of one fork stand before those of the next

abbrev place : ForkPlace → List ℕ
place p = p.node ∷ flag_byte p.resource ∷ []

fork-before : (p q : ForkPlace) (i j : ℕ) → is_long q.node ≡ true → stands_before (place p) (place q) ≡ true → stands_before (block_key p.node p.resource i) (block_key q.node q.resource j) ≡ true
fork-before p q i j long before =
    behind-tag 2 (long_bytes p.node ++ (flag_byte p.resource ∷ long_bytes i)) (long_bytes q.node ++ (flag_byte q.resource ∷ long_bytes j))
    (elim (byte_of p.node q.node (flag_byte p.resource ∷ []) (flag_byte q.resource ∷ []) (is_lt_less (slice_cmp nat_cmp (place p) (place q)) before)) [
      | inl less ↦ long_less p.node q.node (flag_byte p.resource ∷ long_bytes i) (flag_byte q.resource ∷ long_bytes j) less (long-of q.node long)
      | inr same ↦ ap (λ n. slice_cmp nat_cmp (long_bytes n ++ (flag_byte p.resource ∷ long_bytes i)) (long_bytes q.node ++ (flag_byte q.resource ∷ long_bytes j))) same.0
          ∙ front_same (long_bytes q.node) (flag_byte p.resource ∷ long_bytes i) (flag_byte q.resource ∷ long_bytes j)
          ∙ byte_less (flag_byte p.resource) (flag_byte q.resource) (long_bytes i) (long_bytes j) (lower (flag_byte p.resource) (flag_byte q.resource) (ap is_lt same.1))
    ])

before-fork : (p q : ForkPlace) (i : ℕ) → is_long q.node ≡ true → stands_before (place p) (place q) ≡ true → list_all (λ y. stands_before (block_key p.node p.resource i) y) (fork_keys q) ≡ true
unfolding fork_keys
before-fork p q i long before = each (block_key q.node q.resource) (λ y. stands_before (block_key p.node p.resource i) y) (numbers_from 0 most_blocks) (λ j. fork-before p q i j long before)

before-forks : (p : ForkPlace) (i : ℕ) (qs : List ForkPlace) → list_all (λ (q : ForkPlace). is_long q.node) qs ≡ true → list_all (λ q. stands_before (place p) (place q)) qs ≡ true
    → list_all (λ y. stands_before (block_key p.node p.resource i) y) (flat_map fork_keys qs) ≡ true
before-forks p i [] long before = refl
before-forks p i (q ∷ qs) long before =
    let l = and_parts (is_long q.node) (list_all (λ (r : ForkPlace). is_long r.node) qs) long in
    let b = and_parts (stands_before (place p) (place q)) (list_all (λ r. stands_before (place p) (place r)) qs) before in
    all-append (λ y. stands_before (block_key p.node p.resource i) y) (fork_keys q) (flat_map fork_keys qs) (before-fork p q i l.0 b.0) (before-forks p i qs l.1 b.1)

all-before : (p : ForkPlace) (ys : List (List ℕ)) → ((i : ℕ) → list_all (λ y. stands_before (block_key p.node p.resource i) y) ys ≡ true) → AllBefore (fork_keys p) ys
unfolding fork_keys
all-before p ys h = each (block_key p.node p.resource) (λ x. list_all (λ y. stands_before x y) ys) (numbers_from 0 most_blocks) h

forks-rise : (ps : List ForkPlace) → list_all (λ (p : ForkPlace). is_long p.node) ps ≡ true → rises place ps ≡ true → Rise (flat_map fork_keys ps)
forks-rise [] long h = refl
forks-rise (p ∷ ps) long h =
    let l = and_parts (is_long p.node) (list_all (λ (q : ForkPlace). is_long q.node) ps) long in
    let e = and_parts (list_all (λ q. stands_before (place p) (place q)) ps) (rises place ps) h in
    rise-join (fork_keys p) (flat_map fork_keys ps) (all-before p (flat_map fork_keys ps) (λ i. before-forks p i ps l.1 e.0)) (fork-rise p) (forks-rise ps l.1 e.1)

fork-test : (test : List ℕ → Bool) (p : ForkPlace) → ((id : ℕ) (f : Bool) (i : ℕ) → test (block_key id f i) ≡ true) → list_all test (fork_keys p) ≡ true
unfolding fork_keys
fork-test test p h = each (block_key p.node p.resource) test (numbers_from 0 most_blocks) (λ i. h p.node p.resource i)

forks-test : (test : List ℕ → Bool) (ps : List ForkPlace) → ((id : ℕ) (f : Bool) (i : ℕ) → test (block_key id f i) ≡ true) → list_all test (flat_map fork_keys ps) ≡ true
forks-test test [] h = refl
forks-test test (p ∷ ps) h = all-append test (fork_keys p) (flat_map fork_keys ps) (fork-test test p h) (forks-test test ps h)

pub keys-rise : (t : Touched) → AreInRange t → AreRising t → Rise (keys_of t)
keys-rise t range rising =
    let appls : List (List ℕ) = map (λ (m : Mapping). appl_record_key m.creator m.node) t.appls in
    let icons : List (List ℕ) = map (λ key. icon_tag ∷ key) t.icons in
    let comments : List (List ℕ) = map comment_record_key t.comments in
    let forks : List (List ℕ) = flat_map fork_keys t.forks in
    let nodes : List (List ℕ) = map node_key t.nodes in
    let appl-test : (k : ℕ) → nat_lt k 5 ≡ true → Above k appls = λ k h. each (λ (m : Mapping). appl_record_key m.creator m.node) (λ key. nat_lt k (first key)) t.appls (λ m. h) in
    let icon-test : (k : ℕ) → nat_lt k 4 ≡ true → Above k icons = λ k h. each (λ key. icon_tag ∷ key) (λ key. nat_lt k (first key)) t.icons (λ key. h) in
    let comment-test : (k : ℕ) → nat_lt k 3 ≡ true → Above k comments = λ k h. each comment_record_key (λ key. nat_lt k (first key)) t.comments (λ id. h) in
    let fork-test : (k : ℕ) → nat_lt k 2 ≡ true → Above k forks = λ k h. forks-test (λ key. nat_lt k (first key)) t.forks (λ id f i. h) in
    let node-test : (k : ℕ) → nat_lt k 1 ≡ true → Above k nodes = λ k h. each node_key (λ key. nat_lt k (first key)) t.nodes (λ id. h) in
    let above : (k : ℕ) (xs ys : List (List ℕ)) → Above k xs → Above k ys → Above k (xs ++ ys) = λ k xs ys a b. all-append (λ key. nat_lt k (first key)) xs ys a b in
    let last = rise-both 4 icons appls (each (λ key. icon_tag ∷ key) (λ key. nat_le (first key) 4) t.icons (λ key. refl)) (appl-test 4 refl) (icons-rise t.icons rising.icons) (appls-rise t.appls range.appls rising.appls) in
    let later = rise-both 3 comments (icons ++ appls) (each comment_record_key (λ key. nat_le (first key) 3) t.comments (λ id. refl)) (above 3 icons appls (icon-test 3 refl) (appl-test 3 refl)) (comments-rise t.comments range.comments rising.comments) last in
    let middle = rise-both 2 forks (comments ++ (icons ++ appls)) (forks-test (λ key. nat_le (first key) 2) t.forks (λ id f i. refl))
    (above 2 comments (icons ++ appls) (comment-test 2 refl) (above 2 icons appls (icon-test 2 refl) (appl-test 2 refl))) (forks-rise t.forks range.forks rising.forks) later in
    let front = rise-both 1 nodes (forks ++ (comments ++ (icons ++ appls))) (each node_key (λ key. nat_le (first key) 1) t.nodes (λ id. refl))
    (above 1 forks (comments ++ (icons ++ appls)) (fork-test 1 refl) (above 1 comments (icons ++ appls) (comment-test 1 refl) (above 1 icons appls (icon-test 1 refl) (appl-test 1 refl))))
    (nodes-rise t.nodes range.nodes rising.nodes) middle in
    rise-both 0 (head_key ∷ []) (nodes ++ (forks ++ (comments ++ (icons ++ appls)))) refl
    (above 0 nodes (forks ++ (comments ++ (icons ++ appls))) (node-test 0 refl) (above 0 forks (comments ++ (icons ++ appls)) (fork-test 0 refl) (above 0 comments (icons ++ appls) (comment-test 0 refl) (above 0 icons appls (icon-test 0 refl) (appl-test 0 refl)))))
    refl front
