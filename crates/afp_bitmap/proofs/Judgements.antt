-- What is read has the bytes as its block, what has them is read, and a fault is where no block goes on.
use Rattle.std.proofs.Common.{◌≡◌, ℕ, suc, ◌+◌, ◌%◌, ◌<◌, ◌≤◌, Bool, true, false, List, [], ◌++◌, length, take, map, Option, Some, None, is_some, Result, Ok, Err, refl, sym, ap, subst, ◌∙◌, arith, inl, inr}
use Rattle.std.specs.List.{concat}
use Rattle.std.proofs.lemmas.List.{take_all, take-map, length-append, length-map, append_assoc, append-nil}
use Rattle.std.proofs.lemmas.List.Folds.{concat-append}
use Rattle.afp_bitmap.specs.declared.params.Values.{Values}
use Rattle.afp_bitmap.specs.declared.table.Shape.{Shape}
use Rattle.afp_bitmap.specs.declared.table.Slot.{Slot}
use Rattle.afp_bitmap.specs.Field.{Field}
use Rattle.afp_bitmap.specs.Params.{asked, parts, params, IsAnswer, BreaksAt, EndsAt, IsBadAt}
use Rattle.afp_bitmap.specs.lemma.Reading.{◌>>=◌, Walk, may_stand, start, walked, names_at, judged}
use Rattle.afp_bitmap.specs.Table.{rows}
use Rattle.afp_bitmap.proofs.Asked.{shape_of}
use Rattle.afp_bitmap.proofs.Asks.{fixed_total, typed_take, long_filled, utf8_filled, if_text, text_none, none_is, filled_take, named_formed}
use Rattle.afp_bitmap.proofs.Claims.{first_from_may, if_long, filler, Fine, fine_formed, ClaimIs, claimed_formed, passed_long, passed_utf8}
use Rattle.afp_bitmap.proofs.Filled.{filled, taken_again}
use Rattle.afp_bitmap.proofs.Fixed.{walk, walked_is, passed, walk_passed, sizes, passed_place, passed_rest, Faults, walk_faults, Claimed, walk_front}
use Rattle.afp_bitmap.proofs.Formed.{Formed, formed_asked}
use Rattle.afp_bitmap.proofs.NamesAll.{text, OptFits, NamesFit, NamesRead, NamesStop, NamesEnd, NamesAre, names_are, names_again, names_same}
use Rattle.afp_bitmap.proofs.NamesStage.{LongFits, Utf8Fits}
use Rattle.afp_base.specs.Bytes.{IsBytes}
use Rattle.afp_base.proofs.Numbers.{IsBytes-drop}
use Rattle.afp_bitmap.proofs.Parts.{fixed_at, gap, long_in, utf8_in, names_of}
use Rattle.afp_bitmap.proofs.Blocks.{Kind, Asks, shapes, first, fits_rows, asks, Names, template, made_answer, made_asked, fixed_take, names_take, begins_fixed, begins_names, length_shapes, first_place, leads_none, leads_some, leads_from, cond_is, claim_is}
use Rattle.afp_bitmap.proofs.Walks.{bind_ok}

-- ---- a long name for what was read

record Choice (place : ℕ) (long : Bool) (next : Option ℕ) : Type 0 where
  name : List ℕ
  short : length name < 256
  empty : long ≡ false → name ≡ []
  claims : ClaimIs next (place + gap (if_long long name))

choose : (place : ℕ) (long : Bool) (next : Option ℕ) → Fine place long next → Choice place long next
choose place long None h = record { name = []; short = omega arith; empty = λ e. refl; claims = tt }
choose place true (Some q) h =
    let f = filler place true q h in
    record { name = f.name; short = f.short; empty = λ e. absurd cc; claims = sym f.leads }
choose place false (Some q) h =
    let f = filler place false q h in
    record { name = []; short = omega arith; empty = λ e. refl; claims = sym f.leads }

template_formed : {kind bits : ℕ} (k : Kind kind bits) → Formed (template k)
template_formed {kind} {bits} k = formed_asked bits (rows (k.make [] [] [])) (k.formed_of (k.make [] [] []) (k.make_kind [] [] []))

-- two fronts that leave the same rest end at one place
ends_same : (bytes a x b y : List ℕ) (end at : ℕ) → bytes ≡ a ++ x → bytes ≡ b ++ y → y ≡ x → at ≡ length a → end ≡ length b → end ≡ at
ends_same bytes a x b y end at e g same is ends =
    let one : length bytes ≡ length a + length x = ap (length {A = ℕ}) e ∙ length-append a x in
    let two : length bytes ≡ length b + length y = ap (length {A = ℕ}) g ∙ length-append b y in
    let rest : length y ≡ length x = ap (length {A = ℕ}) same in
    omega arith

-- all parts, by their number
whole_parts : {kind bits : ℕ} (k : Kind kind bits) (fs : List Field) → Asks (first k) (shapes k) fs
    → take (length (shapes k) + length (names_of (long_in fs) (utf8_in fs))) (parts fs) ≡ parts fs
whole_parts k fs a =
    let f : Field → List ℕ = fixed_at (first k) (first k + gap (long_in fs)) in
    let ns : List (List ℕ) = names_of (long_in fs) (utf8_in fs) in
    let size = length_shapes k fs a in
    take_all (length (shapes k) + length ns) (parts fs) (omega (arith, ap (length {A = List ℕ}) a.parts_are, length-append (map f fs) ns, length-map fs f))

-- ---- a fault in the fixed part

fixed_bad : {kind bits : ℕ} (k : Kind kind bits) (bytes : List ℕ) (at : ℕ) → IsBytes bytes → Faults (first k) (shapes k) (start bytes) at → BreaksAt kind bits bytes at
fixed_bad {kind} {bits} k bytes at b f =
    let ts : List Field = template k in
    let n : ℕ = f.count in
    let less = f.less in
    let y : Walk = passed (take n (shapes k)) (start bytes) in
    let long : Bool = is_some (long_in ts) in
    let c = choose (first k) long y.utf8_name (fine_formed (first k) ts n (start bytes) y (template_formed k) f.before refl refl) in
    let q : ℕ = first k + gap (if_long long c.name) in
    let claimed : Claimed (take n ts) bytes q = claimed_formed ts n (start bytes) q (template_formed k) c.claims in
    let names : Names k c.name [] = record { long_short = c.short; utf8_short = omega arith; long_none = λ e. c.empty (none_is (long_in ts) e); utf8_none = λ e. refl } in
    let v : Values = k.make bytes c.name [] in
    let answer = made_answer k bytes c.name [] b names in
    let fs : List Field = asked bits v in
    let fs_are : fs ≡ filled ts bytes c.name [] = made_asked k bytes c.name [] in
    let a = asks k v answer in
    let size = length_shapes k fs a in
    let q_is : first k + gap (long_in fs) ≡ q = ap (λ (o : Option (List ℕ)). first k + gap o) (ap long_in fs_are ∙ long_filled ts bytes c.name []) in
    let front = walk_front (first k) q (take n ts) (start bytes) y c.name [] (ap (λ (ss : List Shape). walk (first k) ss (start bytes)) (sym (take-map shape_of n ts)) ∙ f.before) b claimed in
    let cut : take n (parts fs) ≡ map (fixed_at (first k) (first k + gap (long_in fs))) (take n fs) =
    ap (take n) a.parts_are ∙ fixed_take n 0 fs (names_of (long_in fs) (utf8_in fs)) (fixed_at (first k) (first k + gap (long_in fs))) (omega arith) in
    let same : map (fixed_at (first k) (first k + gap (long_in fs))) (take n fs) ≡ map (fixed_at (first k) q) (filled (take n ts) bytes c.name []) =
    ap (λ (p : ℕ). map (fixed_at (first k) p) (take n fs)) q_is
    ∙ ap (λ (gs : List Field). map (fixed_at (first k) q) gs) (ap (take n) fs_are ∙ sym (filled_take n ts bytes c.name [])) in
    let total : length (concat (take n (parts fs))) ≡ sizes (take n (shapes k)) =
    ap (λ (p : List (List ℕ)). length (concat p)) cut ∙ fixed_total (first k) (first k + gap (long_in fs)) (take n fs) (typed_take n fs a.typed)
    ∙ ap sizes (sym (take-map shape_of n fs) ∙ ap (take n) a.shapes_are) in
    let place = passed_place (take n (shapes k)) (start bytes) in
    let at_is = f.at_is in
    record {
      count = n;
      values = v;
      answer = answer;
      up_to = record { rest = y.rest; front_is = front ∙ ap (λ (p : List (List ℕ)). concat p ++ y.rest) (sym same ∙ sym cut); at_is = omega arith };
      no_further = λ w end h g.
          let more : n + 1 ≡ suc n = omega arith in
          let p = begins_fixed k (asked bits w) bytes g.rest (suc n) (asks k w h) (omega arith) (g.front_is ∙ ap (λ (m : ℕ). concat (take m (parts (asked bits w))) ++ g.rest) more) in
          let ok = p.passes in
          let bad = f.here in
          absurd cc;
      one_place = λ w end h g.
          let p = begins_fixed k (asked bits w) bytes g.rest n (asks k w h) (omega arith) g.front_is in
          ends_same bytes (concat (take n (parts fs))) y.rest (concat (take n (parts (asked bits w)))) g.rest end at
          (front ∙ ap (λ (p : List (List ℕ)). concat p ++ y.rest) (sym same ∙ sym cut)) g.front_is (sym p.rest_is) (omega arith) g.at_is;
    }

-- ---- values for names that stand behind the fixed part

claims_from : (place p : ℕ) (long : Option (List ℕ)) (next : Option ℕ) (b : Bool) → p ≡ place → is_some long ≡ b → Fine place b next → OptFits (LongFits next p) long → ClaimIs next (place + gap long)
claims_from place p long None b e i f h = tt
claims_from place p None (Some q) b e i f h =
    let off : may_stand place false q ≡ true = ap (λ (c : Bool). may_stand place c q) i ∙ f in
    let at = first_from_may place q off in
    omega arith
claims_from place p (Some name) (Some q) b e i f h =
    let at = leads_from p (length name) q h.leads in
    omega arith

text_short : (next : Option ℕ) (place : ℕ) (o : Option (List ℕ)) → OptFits (LongFits next place) o → length (text o) < 256
text_short next place None h = omega arith
text_short next place (Some name) h = h.short

text_counted : (o : Option (List ℕ)) → OptFits Utf8Fits o → length (text o) < 65536
text_counted None h = omega arith
text_counted (Some name) h = h

record Made {kind bits : ℕ} (k : Kind kind bits) (bytes : List ℕ) (long utf8 : Option (List ℕ)) : Type 0 where
  answer : IsAnswer kind bits (k.make bytes (text long) (text utf8))
  long_is : long_in (asked bits (k.make bytes (text long) (text utf8))) ≡ long
  utf8_is : utf8_in (asked bits (k.make bytes (text long) (text utf8))) ≡ utf8
  front : bytes ≡ concat (map (fixed_at (first k) (first k + gap (long_in (asked bits (k.make bytes (text long) (text utf8)))))) (asked bits (k.make bytes (text long) (text utf8)))) ++ (passed (shapes k) (start bytes)).rest

made : {kind bits : ℕ} (k : Kind kind bits) (bytes : List ℕ) (long utf8 : Option (List ℕ)) → IsBytes bytes → walk (first k) (shapes k) (start bytes) ≡ Ok (passed (shapes k) (start bytes))
    → NamesFit (passed (shapes k) (start bytes)) long utf8 → Made k bytes long utf8
made {kind} {bits} k bytes long utf8 b e fit =
    let ts : List Field = template k in
    let y : Walk = passed (shapes k) (start bytes) in
    let l : List ℕ = text long in
    let u : List ℕ = text utf8 in
    let n : ℕ = length ts in
    let all : take n (shapes k) ≡ shapes k = take_all n (shapes k) (omega (arith, length-map ts shape_of)) in
    let all_ts : take n ts ≡ ts = take_all n ts (omega arith) in
    let has : y.long_name ≡ is_some (long_in ts) = passed_long ts (start bytes) ∙ cond_is (is_some (long_in ts)) in
    let fine = fine_formed (first k) ts n (start bytes) y (template_formed k) (ap (λ (ss : List Shape). walk (first k) ss (start bytes)) all ∙ e) refl refl in
    let place = first_place k bytes in
    let q : ℕ = first k + gap long in
    let claims : ClaimIs y.utf8_name q = claims_from (first k) y.place long y.utf8_name (is_some (long_in ts)) place (fit.long_is ∙ has) fine fit.long_fits in
    let claimed : Claimed ts bytes q =
    subst (λ (gs : List Field). Claimed gs bytes q) all_ts (claimed_formed ts n (start bytes) q (template_formed k) (subst (λ (ss : List Shape). ClaimIs (passed ss (start bytes)).utf8_name q) (sym all) claims)) in
    let next : is_some y.utf8_name ≡ is_some (utf8_in ts) = ap (λ (o : Option ℕ). is_some o) (passed_utf8 ts (start bytes) q claimed) ∙ claim_is q (utf8_in ts) in
    let names : Names k l u = record {
      long_short = text_short y.utf8_name y.place long fit.long_fits;
      utf8_short = text_counted utf8 fit.utf8_fits;
      long_none = λ none. text_none (is_some (long_in ts)) long (fit.long_is ∙ has) (none_is (long_in ts) none);
      utf8_none = λ none. text_none (is_some (utf8_in ts)) utf8 (fit.utf8_is ∙ next) (none_is (utf8_in ts) none);
    } in
    let fs : List Field = asked bits (k.make bytes l u) in
    let fs_are : fs ≡ filled ts bytes l u = made_asked k bytes l u in
    let long_is : long_in fs ≡ long = ap long_in fs_are ∙ long_filled ts bytes l u ∙ if_text (is_some (long_in ts)) long (fit.long_is ∙ has) in
    let front = walk_front (first k) q ts (start bytes) y l u e b claimed in
    record {
      answer = made_answer k bytes l u b names;
      long_is = long_is;
      utf8_is = ap utf8_in fs_are ∙ utf8_filled ts bytes l u ∙ if_text (is_some (utf8_in ts)) utf8 (fit.utf8_is ∙ next);
      front = front ∙ ap (λ (gs : List Field). concat (map (fixed_at (first k) q) gs) ++ y.rest) (sym fs_are)
          ∙ ap (λ (o : Option (List ℕ)). concat (map (fixed_at (first k) (first k + gap o)) fs) ++ y.rest) (sym long_is);
    }

filled_leads : (place p : ℕ) (name : List ℕ) (next : Option ℕ) → p ≡ place → length name < 256 → ClaimIs next (place + gap (Some name)) → LongFits next p name
filled_leads place p name None e lt c = record { short = lt; leads = leads_none p (length name) }
filled_leads place p name (Some q) e lt c = record { short = lt; leads = leads_some p (length name) q (let at : q ≡ place + (1 + length name + (1 + length name) % 2) = c in omega arith) }

-- a long name for the walk
fill : {kind bits : ℕ} (k : Kind kind bits) (bytes : List ℕ) → walk (first k) (shapes k) (start bytes) ≡ Ok (passed (shapes k) (start bytes))
    → (l : List ℕ) × ((passed (shapes k) (start bytes)).long_name ≡ true → LongFits (passed (shapes k) (start bytes)).utf8_name (passed (shapes k) (start bytes)).place l)
fill {kind} {bits} k bytes e =
    let ts : List Field = template k in
    let y : Walk = passed (shapes k) (start bytes) in
    let n : ℕ = length ts in
    let all : take n (shapes k) ≡ shapes k = take_all n (shapes k) (omega (arith, length-map ts shape_of)) in
    let has : y.long_name ≡ is_some (long_in ts) = passed_long ts (start bytes) ∙ cond_is (is_some (long_in ts)) in
    let fine = fine_formed (first k) ts n (start bytes) y (template_formed k) (ap (λ (ss : List Shape). walk (first k) ss (start bytes)) all ∙ e) refl refl in
    let c = choose (first k) (is_some (long_in ts)) y.utf8_name fine in (
      c.name,
      λ on. filled_leads (first k) y.place c.name y.utf8_name (first_place k bytes) c.short
          (subst (λ (b : Bool). ClaimIs y.utf8_name (first k + gap (if_long b c.name))) (sym has ∙ on) c.claims),
    )

-- the block of the values that were made
parts_front : {kind bits : ℕ} (k : Kind kind bits) (bytes : List ℕ) (long utf8 : Option (List ℕ)) (count : ℕ) (m : Made k bytes long utf8)
    → concat (take (length (shapes k) + count) (parts (asked bits (k.make bytes (text long) (text utf8)))))
    ≡ concat (map (fixed_at (first k) (first k + gap (long_in (asked bits (k.make bytes (text long) (text utf8)))))) (asked bits (k.make bytes (text long) (text utf8)))) ++ concat (take count (names_of long utf8))
parts_front {kind} {bits} k bytes long utf8 count m =
    let v : Values = k.make bytes (text long) (text utf8) in
    let fs : List Field = asked bits v in
    let a = asks k v m.answer in
    let f : Field → List ℕ = fixed_at (first k) (first k + gap (long_in fs)) in
    ap (λ (p : List (List ℕ)). concat (take (length (shapes k) + count) p)) a.parts_are
    ∙ names_take (length (shapes k)) count fs (names_of (long_in fs) (utf8_in fs)) f (length_shapes k fs a)
    ∙ ap (λ (o : Option (List ℕ)). concat (map f fs) ++ concat (take count (names_of o (utf8_in fs)))) m.long_is
    ∙ ap (λ (o : Option (List ℕ)). concat (map f fs) ++ concat (take count (names_of long o))) m.utf8_is

block_is : {kind bits : ℕ} (k : Kind kind bits) (bytes : List ℕ) (long utf8 : Option (List ℕ)) (m : Made k bytes long utf8)
    → params bits (k.make bytes (text long) (text utf8))
    ≡ concat (map (fixed_at (first k) (first k + gap (long_in (asked bits (k.make bytes (text long) (text utf8)))))) (asked bits (k.make bytes (text long) (text utf8)))) ++ concat (names_of long utf8)
block_is {kind} {bits} k bytes long utf8 m =
    let v : Values = k.make bytes (text long) (text utf8) in
    let fs : List Field = asked bits v in
    let a = asks k v m.answer in
    let f : Field → List ℕ = fixed_at (first k) (first k + gap (long_in fs)) in
    ap concat a.parts_are ∙ concat-append (map f fs) (names_of (long_in fs) (utf8_in fs))
    ∙ ap (λ (o : Option (List ℕ)). concat (map f fs) ++ concat (names_of o (utf8_in fs))) m.long_is
    ∙ ap (λ (o : Option (List ℕ)). concat (map f fs) ++ concat (names_of long o)) m.utf8_is

made_total : {kind bits : ℕ} (k : Kind kind bits) (bytes : List ℕ) (long utf8 : Option (List ℕ)) (m : Made k bytes long utf8)
    → length (concat (map (fixed_at (first k) (first k + gap (long_in (asked bits (k.make bytes (text long) (text utf8)))))) (asked bits (k.make bytes (text long) (text utf8)))))
    ≡ (passed (shapes k) (start bytes)).place
made_total {kind} {bits} k bytes long utf8 m =
    let v : Values = k.make bytes (text long) (text utf8) in
    let fs : List Field = asked bits v in
    let a = asks k v m.answer in
    let total = fixed_total (first k) (first k + gap (long_in fs)) fs a.typed ∙ ap sizes a.shapes_are in
    let place = passed_place (shapes k) (start bytes) in
    omega arith

-- ---- a fault in the names

names_bad : {kind bits : ℕ} (k : Kind kind bits) (bytes : List ℕ) (at : ℕ) → IsBytes bytes → walk (first k) (shapes k) (start bytes) ≡ Ok (passed (shapes k) (start bytes))
    → NamesStop (passed (shapes k) (start bytes)) at → BreaksAt kind bits bytes at
names_bad {kind} {bits} k bytes at b e s =
    let y : Walk = passed (shapes k) (start bytes) in
    let m = made k bytes s.long s.utf8 b e s.fit in
    let v : Values = k.make bytes (text s.long) (text s.utf8) in
    let fs : List Field = asked bits v in
    let fixed : List ℕ = concat (map (fixed_at (first k) (first k + gap (long_in fs))) fs) in
    let n : ℕ = length (shapes k) in
    let cut = parts_front k bytes s.long s.utf8 s.count m in
    let total = made_total k bytes s.long s.utf8 m in
    let len = length-append fixed (concat (take s.count (names_of s.long s.utf8))) in
    let whole = ap (length {A = ℕ}) cut in
    let at_is = s.at_is in
    record {
      count = n + s.count;
      values = v;
      answer = m.answer;
      up_to = record {
        rest = s.behind;
        front_is = m.front ∙ ap (λ (x : List ℕ). fixed ++ x) s.front ∙ sym (append_assoc fixed (concat (take s.count (names_of s.long s.utf8))) s.behind)
            ∙ ap (λ (x : List ℕ). x ++ s.behind) (sym cut);
        at_is = omega arith;
      };
      no_further = λ w end h g.
          let gs : List Field = asked bits w in
          let more : n + s.count + 1 ≡ n + suc s.count = omega arith in
          let p = begins_names k gs bytes g.rest (suc s.count) (asks k w h) (g.front_is ∙ ap (λ (c : ℕ). concat (take c (parts gs)) ++ g.rest) more) in
          s.no_further (long_in gs) (utf8_in gs) g.rest p.fit p.rest_is;
      one_place = λ w end h g.
          let gs : List Field = asked bits w in
          let p = begins_names k gs bytes g.rest s.count (asks k w h) g.front_is in
          ends_same bytes (concat (take (n + s.count) (parts fs))) s.behind (concat (take (n + s.count) (parts gs))) g.rest end at
          (m.front ∙ ap (λ (x : List ℕ). fixed ++ x) s.front ∙ sym (append_assoc fixed (concat (take s.count (names_of s.long s.utf8))) s.behind)
          ∙ ap (λ (x : List ℕ). x ++ s.behind) (sym cut))
          g.front_is (s.one (long_in gs) (utf8_in gs) g.rest p.fit p.rest_is) (omega arith) g.at_is;
    }

-- ---- bytes behind the last name

names_end : {kind bits : ℕ} (k : Kind kind bits) (bytes : List ℕ) (at : ℕ) → IsBytes bytes → walk (first k) (shapes k) (start bytes) ≡ Ok (passed (shapes k) (start bytes))
    → NamesEnd (passed (shapes k) (start bytes)) at → EndsAt kind bits bytes at
names_end {kind} {bits} k bytes at b e s =
    let m = made k bytes s.long s.utf8 b e s.fit in
    let v : Values = k.make bytes (text s.long) (text s.utf8) in
    let fs : List Field = asked bits v in
    let fixed : List ℕ = concat (map (fixed_at (first k) (first k + gap (long_in fs))) fs) in
    let block = block_is k bytes s.long s.utf8 m in
    let total = made_total k bytes s.long s.utf8 m in
    let len = length-append fixed (concat (names_of s.long s.utf8)) in
    let whole = ap (length {A = ℕ}) block in
    let at_is = s.at_is in
    record {
      values = v;
      rest = s.behind;
      answer = m.answer;
      whole = m.front ∙ ap (λ (x : List ℕ). fixed ++ x) s.front ∙ sym (append_assoc fixed (concat (names_of s.long s.utf8)) s.behind) ∙ ap (λ (x : List ℕ). x ++ s.behind) (sym block);
      at_is = omega arith;
      remain = s.remain;
      one_place = λ w more h g.
          let gs : List Field = asked bits w in
          let ns : List (List ℕ) = names_of (long_in gs) (utf8_in gs) in
          let count : ℕ = length ns in
          let p = begins_names k gs bytes more count (asks k w h) (g ∙ ap (λ (x : List (List ℕ)). concat x ++ more) (sym (whole_parts k gs (asks k w h)))) in
          let all : take count ns ≡ ns = take_all count ns (omega arith) in
          let rest : (passed (shapes k) (start bytes)).rest ≡ concat ns ++ more = p.rest_is ∙ ap (λ (x : List (List ℕ)). concat x ++ more) all in
          let same = names_same (passed (shapes k) (start bytes)) (long_in gs) (utf8_in gs) s.long s.utf8 more s.behind p.fit s.fit (sym rest ∙ s.front) in
          ends_same bytes (params bits v) s.behind (params bits w) more (length (params bits w)) at
          (m.front ∙ ap (λ (x : List ℕ). fixed ++ x) s.front ∙ sym (append_assoc fixed (concat (names_of s.long s.utf8)) s.behind) ∙ ap (λ (x : List ℕ). x ++ s.behind) (sym block))
          g same.1.1 (omega arith) refl;
    }

-- ---- the three laws

judged_is : {kind bits : ℕ} (k : Kind kind bits) (bytes : List ℕ) → judged bits k.table bytes ≡ (walk (first k) (shapes k) (start bytes) >>= λ w. names_at w)
unfolding judged
judged_is {kind} {bits} k bytes =
    let v0 : Values = k.make [] [] [] in
    ap (λ (r : Result Walk ℕ). r >>= λ w. names_at w)
    (ap (λ (ss : List Slot). walked bits (first k) ss (start bytes)) (sym (k.slots_of v0 (k.make_kind [] [] []))) ∙ walked_is bits (first k) (rows v0) (start bytes))

pub record Found {kind bits : ℕ} (k : Kind kind bits) (bytes l u : List ℕ) : Type 0 where
  pub answer : IsAnswer kind bits (k.make bytes l u)
  pub block : bytes ≡ params bits (k.make bytes l u)

names_found : {kind bits : ℕ} (k : Kind kind bits) (bytes l u : List ℕ) → IsBytes bytes → walk (first k) (shapes k) (start bytes) ≡ Ok (passed (shapes k) (start bytes))
    → NamesRead (passed (shapes k) (start bytes)) l u → Found k bytes l u
names_found {kind} {bits} k bytes l u b e s =
    let m = made k bytes s.long s.utf8 b e s.fit in
    let fs : List Field = asked bits (k.make bytes (text s.long) (text s.utf8)) in
    let fixed : List ℕ = concat (map (fixed_at (first k) (first k + gap (long_in fs))) fs) in
    let whole : bytes ≡ params bits (k.make bytes (text s.long) (text s.utf8)) = m.front ∙ ap (λ (x : List ℕ). fixed ++ x) s.front ∙ sym (block_is k bytes s.long s.utf8 m) in
    let P : List ℕ → Type 0 = λ x. Found k bytes x (text s.utf8) in
    let Q : List ℕ → Type 0 = λ x. Found k bytes l x in
    subst Q (sym s.utf8_text) (subst P (sym s.long_text) (record { answer = m.answer; block = whole }))

abbrev pub Judgement : {kind bits : ℕ} (k : Kind kind bits) → List ℕ → Result (List ℕ × List ℕ) ℕ → Type 0
Judgement k bytes (Ok x) = Found k bytes x.0 x.1
Judgement {kind} {bits} k bytes (Err at) = IsBadAt kind bits bytes at

names_judged : {kind bits : ℕ} (k : Kind kind bits) (bytes : List ℕ) (read : Result (List ℕ × List ℕ) ℕ) → IsBytes bytes → walk (first k) (shapes k) (start bytes) ≡ Ok (passed (shapes k) (start bytes))
    → NamesAre (passed (shapes k) (start bytes)) read → Judgement k bytes read
names_judged k bytes (Ok x) b e h = names_found k bytes x.0 x.1 b e h
names_judged k bytes (Err at) b e (inl s) = inl (names_bad k bytes at b e s)
names_judged k bytes (Err at) b e (inr s) = inr (names_end k bytes at b e s)

passed_bytes : (ss : List Shape) (bytes : List ℕ) → IsBytes bytes → IsBytes (passed ss (start bytes)).rest
passed_bytes ss bytes b = subst IsBytes (sym (passed_rest ss (start bytes))) (IsBytes-drop (sizes ss) bytes b)

walk_judged : {kind bits : ℕ} (k : Kind kind bits) (bytes : List ℕ) (read : Result Walk ℕ) → IsBytes bytes → walk (first k) (shapes k) (start bytes) ≡ read
    → Judgement k bytes (read >>= λ w. names_at w)
walk_judged k bytes (Ok y) b e =
    let same : y ≡ passed (shapes k) (start bytes) = walk_passed (first k) (shapes k) (start bytes) y e in
    let here : walk (first k) (shapes k) (start bytes) ≡ Ok (passed (shapes k) (start bytes)) = e ∙ ap (λ (w : Walk). Ok w) same in
    let f = fill k bytes here in
    let P : Walk → Type 0 = λ w. Judgement k bytes (names_at w) in
    subst P (sym same) (names_judged k bytes (names_at (passed (shapes k) (start bytes))) b here (names_are (passed (shapes k) (start bytes)) f.0 (passed_bytes (shapes k) bytes b) f.1))
walk_judged k bytes (Err at) b e = inl (fixed_bad k bytes at b (walk_faults (first k) (shapes k) (start bytes) at e))

pub judgement : {kind bits : ℕ} (k : Kind kind bits) (bytes : List ℕ) → IsBytes bytes → Judgement k bytes (judged bits k.table bytes)
judgement k bytes b =
    let P : Result (List ℕ × List ℕ) ℕ → Type 0 = λ r. Judgement k bytes r in
    subst P (sym (judged_is k bytes)) (walk_judged k bytes (walk (first k) (shapes k) (start bytes)) b refl)

-- values that have the bytes as their block are read
pub record Again {kind bits : ℕ} (k : Kind kind bits) (bytes : List ℕ) (v : Values) : Type 0 where
  pub long : List ℕ
  pub utf8 : List ℕ
  pub judged_so : judged bits k.table bytes ≡ Ok (long, utf8)
  pub values : k.make bytes long utf8 ≡ v

pub again : {kind bits : ℕ} (k : Kind kind bits) (bytes : List ℕ) (v : Values) → IsBytes bytes → IsAnswer kind bits v → bytes ≡ params bits v → Again k bytes v
again {kind} {bits} k bytes v b h e =
    let fs : List Field = asked bits v in
    let a = asks k v h in
    let n : ℕ = length (shapes k) in
    let f : Field → List ℕ = fixed_at (first k) (first k + gap (long_in fs)) in
    let ns : List (List ℕ) = names_of (long_in fs) (utf8_in fs) in
    let count : ℕ = length ns in
    let size = length_shapes k fs a in
    let long : length (parts fs) ≤ n + count = omega (arith, ap (length {A = List ℕ}) a.parts_are, length-append (map f fs) ns, length-map fs f) in
    let cut : take (n + count) (parts fs) ≡ parts fs = take_all (n + count) (parts fs) long in
    let p = begins_names k fs bytes [] count a (e ∙ sym (append-nil (concat (parts fs))) ∙ ap (λ (x : List (List ℕ)). concat x ++ []) (sym cut)) in
    let all : take count ns ≡ ns = take_all count ns (omega arith) in
    let y : Walk = passed (shapes k) (start bytes) in
    let rest : y.rest ≡ concat ns = p.rest_is ∙ append-nil (concat (take count ns)) ∙ ap concat all in
    let g = fill k bytes p.walk_is in
    let l : List ℕ = text (long_in fs) in
    let u : List ℕ = text (utf8_in fs) in
    let read : names_at y ≡ Ok (l, u) = names_again y g.0 (long_in fs) (utf8_in fs) (passed_bytes (shapes k) bytes b) g.1 p.fit rest in
    let front : bytes ≡ concat (map f fs) ++ concat ns = e ∙ ap concat a.parts_are ∙ concat-append (map f fs) ns in
    let fits = fits_rows bits v h.fits in
    let named = named_formed bits (rows v) l u (k.formed_of v h.kind_is) fits refl refl in
    let taken = taken_again bits (first k) (first k + gap (long_in fs)) (rows v) bytes l u (concat ns) front fits h.typed named in
    record {
      long = l;
      utf8 = u;
      judged_so = judged_is k bytes ∙ bind_ok (walk (first k) (shapes k) (start bytes)) (λ w. names_at w) y p.walk_is ∙ read;
      values = k.same (k.make bytes l u) v (k.make_kind bytes l u) h.kind_is (k.made v bytes l u h.kind_is ∙ taken);
    }
