-- What a stop leaves is the volume at a place.
use Rattle.std.proofs.Common.{◌≡◌, ◌∙◌, ◌⊎◌, inl, inr, ap, sym, refl, subst, ℕ, zero, suc, Bool, true, false, ◌&&◌, List, [], ◌∷◌, ◌++◌, Option, Some, None, arith, length, map}
use Rattle.std.specs.Prelude.{slice_get, take, bytes_eq, ◌<◌}
use Rattle.std.specs.Cmp.Lexicographic.{pointwise}
use Rattle.std.proofs.lemmas.Bool.{and_from, and_parts}
use Rattle.std.proofs.lemmas.Slice.Eq.{bytes_eq-Decides}
use Rattle.std.specs.FinMap as fin
use Rattle.std.specs.Cmp.Lexicographic.{slice_cmp}
use Rattle.std.specs.Ordering.{nat_cmp}
use Rattle.afp_serial.proofs.VolumeStates.{served-at}
use Rattle.afp_serial.specs.Answer.{after, committed_of, is_legal, is_legal_outcome}
use Rattle.afp_serial.specs.History.{is_lawful, stand}
use Rattle.afp_serial.specs.Household.{Household}
use Rattle.afp_serial.specs.Laws.{FailsInPlace, HidesNoRefusal, KeepsSound, StandsSound}
use Rattle.afp_serial.specs.Ranges.{is_typed_entry}
use Rattle.afp_serial.specs.Sound.{IsSound}
use Rattle.afp_serial.specs.World.{start_world, World}
use Rattle.afp_serial.specs.declared.ask.Entry.{Entry}
use Rattle.once_across_breaks.proofs.OfOnce.HouseStays.{entry-of-house, OfHouse}
use Rattle.record_keeper.specs.Records.{Records}
use Rattle.record_keeper.specs.declared.record.Record.{Record}
use Rattle.stop_places.proofs.Doubts.{doubts-are}
use Rattle.stop_places.specs.Laws.{IsDoubtIn, StopsFindPlaces, StopsLeavePlaces}
use Rattle.stop_places.specs.Stops.{AddsAll, and_done, as_done, Doubt, IsAmong, IsAt, IsFound, IsUndecided, MayLeave}
use Rattle.stop_places.specs.LoadedFrom.{IsLoadedFrom}
use Rattle.volume_keeper_records.proofs.LookUps.{sorted_entries}
use Rattle.volume_keeper_records.proofs.Versions.{image_says}
use Rattle.volume_keeper_records.specs.FirstBad.{version_in}
use Rattle.volume_keeper_records.specs.Image.{entries_of, image, kept_image, kept_in, records_in}
use Rattle.volume_keeper_records.specs.Laws.{ImagesRise, IsVolume, KeptDiffer}
use Rattle.volume_keeper_records.specs.Records.{version}
use Rattle.volume_spec.specs.SoundVolume.{IsSoundVolume}
use Rattle.volume_spec.specs.VolumeState.{VolumeState}

-- ---- histories

pub stand-append : (w : World) (es : List Entry) (e : Entry) → stand w (es ++ e ∷ []) ≡ after (stand w es) e
stand-append w [] e = refl
stand-append w (x ∷ es) e = stand-append (after w x) es e

pub lawful-append : (w : World) (es : List Entry) (e : Entry) → is_lawful w es ≡ true → is_legal (stand w es) e ≡ true → is_lawful w (es ++ e ∷ []) ≡ true
lawful-append w [] e lawful legal = and_from (is_legal w e) true legal refl
lawful-append w (x ∷ es) e lawful legal =
    let both = and_parts (is_legal w x) (is_lawful (after w x) es) lawful in
    and_from (is_legal w x) (is_lawful (after w x) (es ++ e ∷ [])) both.0 (lawful-append (after w x) es e both.1 legal)

-- up to a place, and the entry there
pub lawful-at : (w : World) (es : List Entry) (k : ℕ) (e : Entry) → is_lawful w es ≡ true → slice_get es k ≡ Some e → (is_lawful w (take k es) ≡ true) × (is_legal (stand w (take k es)) e ≡ true)
lawful-at w [] k e lawful there = absurd (cc)
lawful-at w (x ∷ es) zero e lawful there = let same : x ≡ e = cc in (refl, subst (λ y. is_legal w y ≡ true) same (and_parts (is_legal w x) (is_lawful (after w x) es) lawful).0)
lawful-at w (x ∷ es) (suc k) e lawful there =
    let both = and_parts (is_legal w x) (is_lawful (after w x) es) lawful in
    let rest = lawful-at (after w x) es k e both.1 there in
    (and_from (is_legal w x) (is_lawful (after w x) (take k es)) both.0 rest.0, rest.1)

-- an entry that met a fault would be legal without it
pub legal-done : (w : World) (e : Entry) → is_legal w e ≡ true → is_legal w (as_done e) ≡ true
unfolding is_typed_entry
legal-done w e legal = and_from (is_typed_entry (as_done e)) true (and_parts (is_typed_entry e) (is_legal_outcome (committed_of w e) e.outcome) legal).0 refl

-- ---- names

house-stays : (house : Household) (w : World) (es : List Entry) → OfHouse house w → OfHouse house (stand w es)
house-stays house w [] h = h
house-stays house w (e ∷ es) h = house-stays house (after w e) es (entry-of-house house w e h)

start-of-house : (house : Household) (now : ℕ) (volumes : List VolumeState) → OfHouse house (start_world house now volumes)
start-of-house house now volumes = record { same = refl; from_one = omega arith; within = omega arith }

name-there : (volumes : List VolumeState) (names : List (List ℕ)) (index : ℕ) (v : VolumeState) → pointwise bytes_eq (map (λ v. v.name) volumes) names ≡ true → slice_get volumes index ≡ Some v → slice_get names index ≡ Some v.name
name-there [] names index v served there = absurd (cc)
name-there (x ∷ volumes) [] index v served there = absurd (cc)
name-there (x ∷ volumes) (name ∷ names) zero v served there =
    let same : x ≡ v = cc in
    let is : x.name ≡ name = (bytes_eq-Decides x.name name).0 (and_parts (bytes_eq x.name name) (pointwise bytes_eq (map (λ v. v.name) volumes) names) served).0 in
    ap Some (sym is ∙ ap (λ (v : VolumeState). v.name) same)
name-there (x ∷ volumes) (name ∷ names) (suc index) v served there = name-there volumes names index v (and_parts (bytes_eq x.name name) (pointwise bytes_eq (map (λ v. v.name) volumes) names) served).1 there

-- a volume of a sound world of a house is one of that name
pub volume-named : (house : Household) (w : World) (index : ℕ) (v : VolumeState) → OfHouse house w → IsSound w → IsAt w index v → slice_get house.volumes index ≡ Some v.name
volume-named house w index v of sound at = subst (λ (h : Household). slice_get h.volumes index ≡ Some v.name) of.same (name-there w.volumes w.house.volumes index v sound.volumes.served at)

one-name : (there : Option (List ℕ)) (a b : List ℕ) → there ≡ Some a → there ≡ Some b → a ≡ b
one-name None a b h k = absurd (cc)
one-name (Some c) a b h k = cc

take-all : {A : Type 0} (xs : List A) → take (length xs) xs ≡ xs
take-all [] = refl
take-all (x ∷ xs) = ap (λ ys. x ∷ ys) (take-all xs)

pub volume-of : (w : World) (index : ℕ) (v : VolumeState) (name : List ℕ) → IsSound w → IsAt w index v → v.name ≡ name → IsVolume name v
volume-of w index v name sound at named = let is = served-at w (suc index) v sound at in record { sound = is.sound; typed = is.typed; named = named }

-- ---- what is loaded

there_and_back : (rs : List Record) → map (λ (e : List ℕ × List ℕ). record { key = e.0; value = e.1 }) (entries_of rs) ≡ rs
there_and_back [] = refl
there_and_back (r ∷ rs) = ap (λ (x : List Record). r ∷ x) (there_and_back rs)

none_there : (entries : List (List ℕ × List ℕ)) → length entries ≡ 0 → entries ≡ []
none_there [] none = refl
none_there (entry ∷ entries) none = absurd (cc)

empty_has_none : (kept : Records) → kept ≡ fin.empty → fin.entries kept ≡ []
empty_has_none kept is = none_there (fin.entries kept) (sym (fin.len-entries kept) ∙ ap (λ (kept : Records). fin.len kept) is ∙ fin.len-empty (slice_cmp nat_cmp) (List ℕ))

module _ (rise : ImagesRise) (differ : KeptDiffer) where
  image-entries : (v : VolumeState) → IsSoundVolume v → fin.entries (kept_image v) ≡ entries_of (image v)
  image-entries v sound = fin.entries-from_sorted (slice_cmp nat_cmp) (entries_of (image v)) (sorted_entries (image v) (rise v version sound))

  image-records : (v : VolumeState) → IsSoundVolume v → records_in (kept_image v) ≡ image v
  image-records v sound = ap (λ (es : List (List ℕ × List ℕ)). map (λ (e : List ℕ × List ℕ). record { key = e.0; value = e.1 }) es) (image-entries v sound) ∙ there_and_back (image v)

  image-is-some : (v : VolumeState) → IsSoundVolume v → kept_image v ≡ fin.empty → ⊥
  image-is-some v sound none = let no : entries_of (image v) ≡ [] = sym (image-entries v sound) ∙ empty_has_none (kept_image v) none in absurd (cc)

  -- what is loaded from the image of a volume is that volume
  pub loads-again : (name : List ℕ) (v loaded : VolumeState) (found : Records) → IsVolume name v → IsVolume name loaded → found ≡ kept_image v → IsLoadedFrom name found loaded → loaded ≡ v
  loads-again name v loaded found is other image from = differ name loaded v other is (same ∙ image)
    where
      new : version_in (records_in found) ≡ version
      new = ap (λ (r : Records). version_in (records_in r)) image ∙ ap version_in (image-records v is.sound) ∙ image_says v

      same : kept_image loaded ≡ found
      same = ap (λ (n : ℕ). kept_in n loaded) (sym new) ∙ from.image (λ none. image-is-some v is.sound (sym image ∙ none))

-- ---- the law

module _ (keeps : KeepsSound) (stands : StandsSound) (hides : HidesNoRefusal) (rise : ImagesRise) (differ : KeptDiffer) where
  -- the world behind a history with the call at a place carried out is sound, and is at a lawful history's end
  pub undecided : (start : World) (history : List Entry) (index : ℕ) (v : VolumeState) (d : Doubt) → is_lawful start history ≡ true → IsAt (stand start history) index v → d.before ≡ v
      → IsDoubtIn start history index d → IsUndecided start history index d.made
  undecided start history index v d lawful at same is =
      let before = take is.place history in
      let w = stand start (take is.place history) in
      let here = lawful-at start history is.place is.call lawful is.there in
      record {
        place = is.place;
        call = is.call;
        there = is.there;
        commits = is.is.commits;
        told = (hides (stand start (take is.place history)) is.call is.is.failed here.1).answered;
        unchanged = is.is.before ∙ ap Some same ∙ sym at;
        lawful = lawful-append start (take is.place history) (as_done is.call) here.0 (legal-done (stand start (take is.place history)) is.call here.1);
        made = ap (λ (x : World). slice_get x.volumes index) (stand-append start (take is.place history) (as_done is.call)) ∙ is.is.made;
      }

  whole : (start : World) (h : List Entry) → IsSound start → is_lawful start h ≡ true → IsSound (stand start h)
  whole start h sound lawful = subst (λ (es : List Entry). IsSound (stand start es)) (take-all h) (stands start h sound lawful (length h))

  pub leave-places : StopsLeavePlaces
  leave-places house now volumes history index v doubts found loaded sound lawful at adds (inl image) volume from =
      let is = volume-of (stand (start_world house now volumes) history) index v v.name (whole (start_world house now volumes) history sound lawful) at refl in
      inl (at ∙ ap Some (sym (loads-again rise differ v.name v loaded found is volume image from)))
  leave-places house now volumes history index v doubts found loaded sound lawful at adds (inr doubt) volume from =
      let start = start_world house now volumes in
      let d : Doubt = doubt.0 in
      let u = undecided (start_world house now volumes) history index v doubt.0 lawful at doubt.2 (doubts-are (start_world house now volumes) history index doubts doubt.0 adds doubt.1) in
      let more = and_done history u.place u.call in
      let there : IsSound (stand (start_world house now volumes) (and_done history u.place u.call)) = whole (start_world house now volumes) (and_done history u.place u.call) sound u.lawful in
      let ends : IsSound (stand (start_world house now volumes) history) = whole (start_world house now volumes) history sound lawful in
      let of = start-of-house house now volumes in
      let named : d.made.name ≡ v.name = one-name (slice_get house.volumes index) doubt.0.made.name v.name
      (volume-named house (stand (start_world house now volumes) (and_done history u.place u.call)) index doubt.0.made (house-stays house (start_world house now volumes) (and_done history u.place u.call) of) there u.made)
      (volume-named house (stand (start_world house now volumes) history) index v (house-stays house (start_world house now volumes) history of) ends at) in
      let is = volume-of (stand (start_world house now volumes) (and_done history u.place u.call)) index doubt.0.made v.name there u.made named in
      inr (subst (IsUndecided (start_world house now volumes) history index) (sym (loads-again rise differ v.name doubt.0.made loaded found is volume doubt.3 from)) u)

  pub find-places : StopsFindPlaces
  find-places start history index v doubts found lawful at adds (inl image) = (v, inl at, image)
  find-places start history index v doubts found lawful at adds (inr doubt) =
      (doubt.0.made, inr (undecided start history index v doubt.0 lawful at doubt.2 (doubts-are start history index doubts doubt.0 adds doubt.1)), doubt.3)
