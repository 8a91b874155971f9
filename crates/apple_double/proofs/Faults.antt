-- The fields of descriptors, and the entries, that are judged.
use Rattle.std.proofs.Common.{◌≡◌, ◌∙◌, ℕ, ◌+◌, ◌-◌, ◌*◌, ◌/◌, ◌<◌, ◌≤◌, Bool, true, false, cond, List, [], ◌∷◌, ◌++◌, length, refl, ap, arith}
use Rattle.std.specs.Prelude.{Option, Some, None}
use Rattle.std.specs.Option.{option_or}
use Rattle.std.proofs.lemmas.Bool.{le-ltb, lt-ltb, ne_eqb, eq-eqb}
use Rattle.std.proofs.Math.Dec.{eqb}
use Rattle.afp_base.specs.Choice.{first_holding}
use Rattle.apple_double.specs.declared.descriptor.Descriptor.{Descriptor}
use Rattle.apple_double.specs.declared.parcel.ParcelFault.{ParcelFault}
use Rattle.apple_double.specs.declared.parcel.ParcelFault.TheVariants.{Short, Magic, Version, Entry, Memory}
use Rattle.apple_double.specs.Faults.{header_faults, field_faults, field_fault, entry_faults, entry_fault, parcel_fault}
use Rattle.apple_double.specs.Format.{count_in, header_size, descriptor_at, first_descriptors, with_id}
use Rattle.apple_double.specs.Parcel.{Refuses}
use Rattle.apple_double.proofs.FirstFound.{first_of-none, first_of-at, find_of-none, find_of-at}

pub fields-whole : (bytes : List ℕ) → header_size ≤ length bytes → 3 * count_in bytes ≤ (length bytes - header_size) / 4 → first_holding (field_faults bytes) ≡ None
unfolding field_faults
fields-whole bytes head all = first_of-none (field_fault bytes) 0 (3 * count_in bytes) (λ k lo hi. le-ltb _ _ (omega arith))

pub fields-short : (bytes : List ℕ) (whole : ℕ) → header_size ≤ length bytes → whole ≡ (length bytes - header_size) / 4 → whole < 3 * count_in bytes
    → first_holding (field_faults bytes) ≡ Some (Short (header_size + 4 * whole))
unfolding field_faults
fields-short bytes whole head same less =
    first_of-at (field_fault bytes) 0 (3 * count_in bytes) whole (omega arith) (omega arith)
    (λ k lo hi. le-ltb _ _ (omega arith))
    (lt-ltb _ _ (omega arith))

pub entries-good : (bytes : List ℕ) → ((k : ℕ) → k < count_in bytes → (entry_fault bytes k).0 ≡ false) → first_holding (entry_faults bytes) ≡ None
unfolding entry_faults
entries-good bytes good = first_of-none (entry_fault bytes) 0 (count_in bytes) (λ k lo hi. good k (omega arith))

pub entries-bad : (bytes : List ℕ) (index : ℕ) → index < count_in bytes → ((k : ℕ) → k < index → (entry_fault bytes k).0 ≡ false) → (entry_fault bytes index).0 ≡ true
    → first_holding (entry_faults bytes) ≡ Some (Entry index)
unfolding entry_faults
entries-bad bytes index less before hit = first_of-at (entry_fault bytes) 0 (count_in bytes) index (omega arith) (omega arith) (λ k lo hi. before k hi) hit

pub not-found : (bytes : List ℕ) (id end : ℕ) → ((k : ℕ) → k < end → (descriptor_at bytes k).id ≡ id → ⊥) → with_id id (first_descriptors end bytes) ≡ None
not-found bytes id end none = find_of-none (λ (d : Descriptor). eqb d.id id) (descriptor_at bytes) 0 end (λ k lo hi. ne_eqb _ _ (none k (omega arith)))

pub found : (bytes : List ℕ) (id end index : ℕ) → index < end → ((k : ℕ) → k < index → (descriptor_at bytes k).id ≡ id → ⊥) → (descriptor_at bytes index).id ≡ id
    → with_id id (first_descriptors end bytes) ≡ Some (descriptor_at bytes index)
found bytes id end index less before hit =
    find_of-at (λ (d : Descriptor). eqb d.id id) (descriptor_at bytes) 0 end index (omega arith) (omega arith) (λ k lo hi. ne_eqb _ _ (before k hi)) (eq-eqb _ _ hit)

-- the three lists of faults, one behind the other
choose : {A : Type 0} (b : Bool) (a : A) (r s t : Option A) → t ≡ option_or r s → cond b (Some a) t ≡ option_or (cond b (Some a) r) s
choose true a r s t h = refl
choose false a r s t h = h

first_append : {A : Type 0} (xs ys : List (Bool × A)) → first_holding (xs ++ ys) ≡ option_or (first_holding xs) (first_holding ys)
first_append [] ys = refl
first_append (x ∷ xs) ys = choose x.0 x.1 (first_holding xs) (first_holding ys) (first_holding (xs ++ ys)) (first_append xs ys)

in_order : (bytes : List ℕ) → parcel_fault bytes ≡ option_or (option_or (first_holding (header_faults bytes)) (first_holding (field_faults bytes))) (first_holding (entry_faults bytes))
unfolding parcel_fault
in_order bytes = first_append (header_faults bytes ++ field_faults bytes) (entry_faults bytes)
    ∙ ap (λ (o : Option ParcelFault). option_or o (first_holding (entry_faults bytes))) (first_append (header_faults bytes) (field_faults bytes))

none_of : (h f e : Option ParcelFault) → h ≡ None → f ≡ None → e ≡ None → option_or (option_or h f) e ≡ None
none_of None None None a b c = refl
none_of (Some x) f e a b c = absurd (cc)
none_of None (Some x) e a b c = absurd (cc)
none_of None None (Some x) a b c = absurd (cc)

pub parcel-good : (bytes : List ℕ) → first_holding (header_faults bytes) ≡ None → first_holding (field_faults bytes) ≡ None → first_holding (entry_faults bytes) ≡ None → parcel_fault bytes ≡ None
parcel-good bytes h f e = in_order bytes ∙ none_of _ _ _ h f e

first_of : (h f e : Option ParcelFault) (x : ParcelFault) → h ≡ Some x → option_or (option_or h f) e ≡ Some x
first_of None f e x a = absurd (cc)
first_of (Some y) f e x a = a

second_of : (h f e : Option ParcelFault) (x : ParcelFault) → h ≡ None → f ≡ Some x → option_or (option_or h f) e ≡ Some x
second_of (Some y) f e x a b = absurd (cc)
second_of None None e x a b = absurd (cc)
second_of None (Some y) e x a b = b

third_of : (h f e : Option ParcelFault) (x : ParcelFault) → h ≡ None → f ≡ None → e ≡ Some x → option_or (option_or h f) e ≡ Some x
third_of (Some y) f e x a b c = absurd (cc)
third_of None (Some y) e x a b c = absurd (cc)
third_of None None e x a b c = c

refuses-from : (bytes : List ℕ) (fault : ParcelFault) → parcel_fault bytes ≡ Some fault → Refuses bytes fault
refuses-from bytes Memory h = tt
refuses-from bytes (Short at) h = h
refuses-from bytes Magic h = h
refuses-from bytes Version h = h
refuses-from bytes (Entry index) h = h

pub refuses-header : (bytes : List ℕ) (fault : ParcelFault) → first_holding (header_faults bytes) ≡ Some fault → Refuses bytes fault
refuses-header bytes fault h = refuses-from bytes fault (in_order bytes ∙ first_of _ _ _ fault h)

pub refuses-fields : (bytes : List ℕ) (fault : ParcelFault) → first_holding (header_faults bytes) ≡ None → first_holding (field_faults bytes) ≡ Some fault → Refuses bytes fault
refuses-fields bytes fault h f = refuses-from bytes fault (in_order bytes ∙ second_of _ _ _ fault h f)

third : (bytes : List ℕ) (fault : ParcelFault) → first_holding (header_faults bytes) ≡ None → first_holding (field_faults bytes) ≡ None → first_holding (entry_faults bytes) ≡ Some fault → parcel_fault bytes ≡ Some fault
third bytes fault h f e = in_order bytes ∙ third_of _ _ _ fault h f e

pub refuses-entries : (bytes : List ℕ) (fault : ParcelFault) → first_holding (header_faults bytes) ≡ None → first_holding (field_faults bytes) ≡ None
    → ((fault ≡ Memory → ⊥) → first_holding (entry_faults bytes) ≡ Some fault) → Refuses bytes fault
refuses-entries bytes Memory h f e = tt
refuses-entries bytes (Short at) h f e = third bytes (Short at) h f (e (λ same. cc))
refuses-entries bytes Magic h f e = third bytes Magic h f (e (λ same. cc))
refuses-entries bytes Version h f e = third bytes Version h f (e (λ same. cc))
refuses-entries bytes (Entry index) h f e = third bytes (Entry index) h f (e (λ same. cc))
