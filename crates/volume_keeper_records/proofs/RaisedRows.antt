-- The rows of the older version, each raised, are those of the version that is written; what those put is the migration.
use Rattle.std.proofs.Common.{◌≡◌, ◌∙◌, ℕ, zero, suc, ◌+◌, ◌<◌, List, [], ◌∷◌, ◌++◌, map, length, take, drop, get_or, set, refl, sym, ap, arith}
use Rattle.std.specs.Prelude.{Some, flat_map}
use Rattle.std.proofs.lemmas.List.{take-append-le, take_all}
use Rattle.volume_spec.specs.VolumeState.{VolumeState, Row as VolumeRow, guest, new_privileges}
use Rattle.volume_keeper_records.specs.declared.rows.Node.{Node}
use Rattle.volume_keeper_records.specs.declared.rows.TableRow.{TableRow}
use Rattle.volume_keeper_records.specs.declared.rows.TableRow.TheVariants as row
use Rattle.volume_keeper_records.specs.Records.{version, old_version}
use Rattle.volume_keeper_records.specs.Image.{IsOld, node_of, rows_of, tables_of}
use Rattle.volume_keeper_records.specs.Migration.{migration, put_of}
use Rattle.volume_keeper_records.specs.lemma.Raising.{raised, puts_of}

-- one element more has been turned
turned : {X : Type 0} (f : X → X) (xs : List X) (i : ℕ) (d : X) → i < length xs
    → set (map f (take i xs) ++ drop i xs) i (f (get_or (map f (take i xs) ++ drop i xs) i d)) ≡ map f (take (suc i) xs) ++ drop (suc i) xs
turned f [] i d h = absurd (omega arith)
turned f (x ∷ xs) zero d h = refl
turned f (x ∷ xs) (suc i) d h = ap (λ l. f x ∷ l) (turned f xs i d (omega arith))

pub turned_more : {X : Type 0} (f : X → X) (xs : List X) (i : ℕ) (d : X) → i < length xs
    → set (map f (take i xs) ++ drop i xs) i (f (get_or (map f (take i xs) ++ drop i xs) i d)) ≡ map f (take (i + 1) xs) ++ drop (i + 1) xs
turned_more f xs i d h = let next : suc i ≡ i + 1 = omega arith in turned f xs i d h ∙ ap (λ n. map f (take n xs) ++ drop n xs) next

-- a vector whose elements were lent as a slice
pub lent_back : {X : Type 0} (n : ℕ) (new items : List X) → length new ≡ length items → n ≡ length items → take n (new ++ drop (length new) items) ≡ new
lent_back n new items same all =
    take-append-le n new (drop (length new) items) (omega (arith, same, all)) ∙ take_all n new (omega (arith, same, all))

-- rows that are the same in both versions
same_rows : {X : Type 0} (f : X → TableRow) → ((x : X) → raised (f x) ≡ f x) → (xs : List X) → map raised (map f xs) ≡ map f xs
same_rows f same [] = refl
same_rows f same (x ∷ xs) = λ i. same x i ∷ same_rows f same xs i

same_in_front : {X : Type 0} (f : X → TableRow) → ((x : X) → raised (f x) ≡ f x) → (xs : List X) (rest : List TableRow) → map raised rest ≡ rest → map raised (map f xs ++ rest) ≡ map f xs ++ rest
same_in_front f same [] rest e = e
same_in_front f same (x ∷ xs) rest e = λ i. same x i ∷ same_in_front f same xs rest e i

-- nodes whose owner, group and rights are those that the older version leaves unsaid
raised_nodes : (rs : List VolumeRow) (rest : List TableRow) → map (λ (r : VolumeRow). r.privileges) rs ≡ map (λ (r : VolumeRow). new_privileges r.dir guest) rs → map raised rest ≡ rest
    → map raised (map (λ node. row.Node node) (map (node_of old_version) rs) ++ rest) ≡ map (λ node. row.Node node) (map (node_of version) rs) ++ rest
raised_nodes [] rest old e = e
raised_nodes (r ∷ rs) rest old e =
    let first : r.privileges ≡ new_privileges r.dir guest = cc in
    let others : map (λ (r : VolumeRow). r.privileges) rs ≡ map (λ (r : VolumeRow). new_privileges r.dir guest) rs = cc in
    λ i. row.Node (record (node_of version r) { privileges = Some (sym first i) }) ∷ raised_nodes rs rest others e i

pub raised_rows : (v : VolumeState) → IsOld v → map raised (rows_of (tables_of old_version v)) ≡ rows_of (tables_of version v)
raised_rows v old = ap (λ l. row.Head (tables_of version v).head ∷ l)
    (raised_nodes v.rows _ old
    (same_in_front (λ block. row.Block block) (λ block. refl) (tables_of version v).blocks _
    (same_in_front (λ comment. row.Comment comment) (λ comment. refl) v.comments _
    (same_in_front (λ icon. row.Icon icon) (λ icon. refl) v.icons _
    (same_rows (λ appl. row.Appl appl) (λ appl. refl) v.appls)))))

-- rows of which nothing is put
none_put : {X : Type 0} (f : X → TableRow) → ((x : X) → puts_of (f x) ≡ []) → (xs : List X) (rest : List TableRow) → flat_map puts_of rest ≡ [] → flat_map puts_of (map f xs ++ rest) ≡ []
none_put f none [] rest e = e
none_put f none (x ∷ xs) rest e = λ i. none x i ++ none_put f none xs rest e i

none_put_of : {X : Type 0} (f : X → TableRow) → ((x : X) → puts_of (f x) ≡ []) → (xs : List X) → flat_map puts_of (map f xs) ≡ []
none_put_of f none [] = refl
none_put_of f none (x ∷ xs) = λ i. none x i ++ none_put_of f none xs i

nodes_put : (ns : List Node) (rest : List TableRow) → flat_map puts_of rest ≡ [] → flat_map puts_of (map (λ node. row.Node node) ns ++ rest) ≡ map (λ node. put_of (row.Node node)) ns
nodes_put [] rest e = e
nodes_put (n ∷ ns) rest e = ap (λ l. put_of (row.Node n) ∷ l) (nodes_put ns rest e)

pub rows_put : (v : VolumeState) → flat_map puts_of (rows_of (tables_of version v)) ≡ migration v
rows_put v = ap (λ l. put_of (row.Head (tables_of version v).head) ∷ l)
    (nodes_put (tables_of version v).nodes _
    (none_put (λ block. row.Block block) (λ block. refl) (tables_of version v).blocks _
    (none_put (λ comment. row.Comment comment) (λ comment. refl) v.comments _
    (none_put (λ icon. row.Icon icon) (λ icon. refl) v.icons _
    (none_put_of (λ appl. row.Appl appl) (λ appl. refl) v.appls)))))
