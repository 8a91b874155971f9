-- Volumes are read word by word.
use Rattle.std.proofs.Common.{◌≡◌, ◌∙◌, ℕ, ◌+◌, ◌<◌, List, [], ◌∷◌, ◌++◌, drop, length, map, sym, ap, subst, append_assoc, append-nil}
use Rattle.std.specs.List.{drop-map, slice_index_or}
use Rattle.std.proofs.lemmas.List.{drop_more}
use Rattle.afpd_lib.specs.words.Places.{VolumeValue, IsVolume, AreVolumes}

-- so many words were read as these volumes: whatever volumes the others are, and only volumes can follow where all are volumes
pub record Read (words : List (List ℕ)) (i : ℕ) (got : List VolumeValue) : Type 0 where
  pub on : (tail : List VolumeValue) → AreVolumes (drop i words) tail → AreVolumes words (got ++ tail)
  pub back : (values : List VolumeValue) → AreVolumes words values → (tail : List VolumeValue) × AreVolumes (drop i words) tail

pub begun : (words : List (List ℕ)) → Read words 0 []
begun words = record { on = λ tail at. at; back = λ values are. (values, are) }

first-of : (word : List ℕ) (words : List (List ℕ)) (tail : List VolumeValue) → AreVolumes (word ∷ words) tail
    → (v : VolumeValue) × (us : List VolumeValue) × IsVolume word v × AreVolumes words us
first-of word words [] at = absurd at
first-of word words (v ∷ us) at = (v, us, at.0, at.1)

pub more : (words : List (List ℕ)) (i : ℕ) (got : List VolumeValue) (word : List ℕ) (rest : List (List ℕ)) (v : VolumeValue)
    → drop i words ≡ word ∷ rest → drop (i + 1) words ≡ rest → IsVolume word v → Read words i got → Read words (i + 1) (got ++ v ∷ [])
more words i got word rest v here next is old = record {
  on = λ tail at. rw (append_assoc got (v ∷ []) tail) (old.on (v ∷ tail) (rw here (is, rw next at at)));
  back = λ values are.
      let before = old.back values are in
      let parts = first-of word rest before.0 (rw here at before.1) in
      (parts.1, rw next parts.3);
}

pub refused : (words : List (List ℕ)) (i : ℕ) (got : List VolumeValue) (word : List ℕ) (rest : List (List ℕ))
    → drop i words ≡ word ∷ rest → ((v : VolumeValue) → IsVolume word v → ⊥) → Read words i got → (values : List VolumeValue) → AreVolumes words values → ⊥
refused words i got word rest here none old values are =
    let before = old.back values are in
    let parts = first-of word rest before.0 (rw here at before.1) in
    none parts.0 parts.2

pub ended : (words : List (List ℕ)) (i : ℕ) (got : List VolumeValue) → drop i words ≡ [] → Read words i got → AreVolumes words got
ended words i got here old = subst (AreVolumes words) (append-nil got) (old.on [] (rw here tt))

-- the word at a place, and those behind it
pub word-at : {X : Type 0} (f : X → List ℕ) (words : List X) (i : ℕ) (d : X) → i < length words
    → drop i (map f words) ≡ f (slice_index_or words i d) ∷ drop (i + 1) (map f words)
word-at f words i d lt = drop-map f i words ∙ ap (map f) (drop_more words i d lt) ∙ ap (λ rest. f (slice_index_or words i d) ∷ rest) (sym (drop-map f (i + 1) words))
