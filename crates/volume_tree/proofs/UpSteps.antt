-- One step up.
use Rattle.std.proofs.Common.{◌==◌, ◌≡◌, ◌∙◌, ap, ℕ, zero, suc, ◌+◌, ◌-◌, ◌<◌, true, false, ◌||◌, List, Some, None, arith}
use Rattle.std.proofs.lemmas.Bool.{or_left}
use Rattle.volume_spec.proofs.ByIndex.{below-by-parent}
use Rattle.volume_spec.specs.Edits.{is_below, above}
use Rattle.volume_spec.specs.VolumeState.{Row}
use Rattle.volume_spec.specs.Walk.{parent_at}
use Rattle.afp_base.specs.Apart.{are_apart}

pub is-itself : (rows : List Row) (n node id : ℕ) → (id == node) ≡ true → is_below rows n node id ≡ true
is-itself rows zero node id same = same
is-itself rows (suc n) node id same = or_left (id == node) _ same

one-up : (rows : List Row) (n m node id : ℕ) → n ≡ suc m → are_apart (λ (a : Row) b. a.id == b.id) rows ≡ true → (id == node) ≡ false → is_below rows n node id ≡ above (parent_at rows id) (is_below rows m node)
one-up rows n m node id is apart other = ap (λ k. is_below rows k node id) is ∙ below-by-parent rows m node id apart ∙ ap (λ b. b || above (parent_at rows id) (is_below rows m node)) other

pub goes-on : (rows : List Row) (count i node id up : ℕ) → i < count → are_apart (λ (a : Row) b. a.id == b.id) rows ≡ true → (id == node) ≡ false → parent_at rows id ≡ Some up → is_below rows (count - i) node id ≡ is_below rows (count - (i + 1)) node up
goes-on rows count i node id up within apart other found = one-up rows (count - i) (count - (i + 1)) node id (omega arith) apart other ∙ ap (λ o. above o (is_below rows (count - (i + 1)) node)) found

pub stops-there : (rows : List Row) (count i node id : ℕ) → i < count → are_apart (λ (a : Row) b. a.id == b.id) rows ≡ true → (id == node) ≡ false → parent_at rows id ≡ None → is_below rows (count - i) node id ≡ false
stops-there rows count i node id within apart other found = one-up rows (count - i) (count - (i + 1)) node id (omega arith) apart other ∙ ap (λ o. above o (is_below rows (count - (i + 1)) node)) found

pub at-last : (rows : List Row) (n node id : ℕ) → n ≡ 0 → is_below rows n node id ≡ (id == node)
at-last rows n node id none = ap (λ k. is_below rows k node id) none
