-- Passes that are split and joined.
use Rattle.std.proofs.Common.{◌≡◌, ℕ, ◌+◌, ◌<◌, ◌≤◌, true, false, true≢false, Some, Option, ◌⊎◌, inl, inr, List, [], ◌∷◌, ◌++◌, length, take, refl, sym, ap, ◌∙◌, subst, arith}
use Rattle.std.specs.Prelude.{nat_le}
use mathlib.Core.Option.{none}
use Rattle.atomic_table.specs.Table.{Allows, step, opening}
use Rattle.afp_base.specs.Counts.{last_count}
use Rattle.afp_serial.specs.declared.ask.Entry.{Entry}
use Rattle.afp_serial.specs.History.{is_lawful, stand}
use Rattle.afp_serial.specs.Sound.{IsSound}
use Rattle.afp_serial.proofs.StaysSound.{stand-sound}
use Rattle.afp_serial.specs.Shown.{Rising}
use Rattle.afp_core.specs.turns.ServerState.{ServerState}
use Rattle.afp_desk.specs.declared.desk.view.Stage.{Stage}
use Rattle.afp_desk.specs.declared.desk.view.Stage.TheVariants.{Idle, Waiting, Served}
use Rattle.afp_desk.specs.declared.desk.view.View.{View}
use Rattle.afp_desk.specs.desk.lemma.Facts.{is_idle}
use Rattle.afp_desk.specs.desk.Totals.{times, merge}
use Rattle.afp_desk.specs.desk.Rule.{IsKept, newcomer, both_of}
use Rattle.afp_desk.specs.desk.Plays.{Mine, settled, settled_if, Settles}
use Rattle.afp_desk.proofs.OfDesk.Totals.{times-merge, times-most}
use Rattle.afp_desk.proofs.OfDesk.Steps.{begins, settles}

pub idle_of : (s : Stage) → is_idle s ≡ true → s ≡ Idle
idle_of Idle e = refl
idle_of (Waiting t) e = absurd (true≢false (sym e))
idle_of (Served t) e = absurd (true≢false (sym e))

pub empty_of : {A : Type 0} (l : List A) → length l ≡ 0 → l ≡ []
empty_of [] e = refl
empty_of (x ∷ xs) e = absurd (omega arith)

pub begins-at : (start : ServerState) (s : ServerState) (items : List (Option ServerState)) → s ≡ start → items ≡ Some start ∷ [] → start.entries ≤ last_count → start.opened ≤ last_count → IsKept s (opening (0 ∷ 0 ∷ []) items (newcomer s))
begins-at start s items same there entries opened = subst (λ (x : ServerState × List (Option ServerState)). IsKept x.0 (opening (0 ∷ 0 ∷ []) x.1 (newcomer x.0))) (λ i. (sym same i, sym there i)) (begins start entries opened)

pub settles-me : (start : ServerState) (slots id : ℕ) (me : Mine) (v : View) → me.0 ≡ v → v.stage ≡ Idle → 0 < v.share → Allows (IsKept start) slots id me 1 (λ n. n) (Settles (step slots 1 0 0 none) me)
settles-me start slots id me v same idle live = settles start slots id me (ap (λ (u : View). u.stage) same ∙ idle) (subst (λ (u : View). 0 < u.share) (sym same) live)

settled-share : (b : _) (v : View) → (settled_if b v).share ≡ v.share
settled-share true v = refl
settled-share false v = refl

settled-mine : (b : _) (v : View) → (settled_if b v).mine ≡ v.mine
settled-mine true v = refl
settled-mine false v = refl

settled-start : (b : _) (v : View) → (settled_if b v).start ≡ v.start
settled-start true v = refl
settled-start false v = refl

settled-stage : (b : _) (v : View) → (settled_if b v).stage ≡ v.stage
settled-stage true v = refl
settled-stage false v = refl

settled-other : (b : _) (v : View) → length (settled_if b v).other ≡ 0
settled-other true v = refl
settled-other false v = refl

settled-seen : (b : _) (v : View) → (((settled_if b v).seen ≡ v.seen) × ((settled_if b v).core ≡ v.core)) ⊎ (((settled_if b v).seen ≡ v.other) × ((settled_if b v).core ≡ v.other_core))
settled-seen true v = inr (refl, refl)
settled-seen false v = inl (refl, refl)

-- what a join and a look make of two views
pub record Met (v u w : View) : Type 0 where
  pub shares : w.share ≡ v.share + u.share
  pub start : w.start ≡ v.start
  pub idle : w.stage ≡ v.stage
  pub settled : length w.other ≡ 0
  pub one : (rest : List Entry) × (w.seen ≡ v.seen ++ rest)
  pub other : (rest : List Entry) × (w.seen ≡ u.seen ++ rest)
  pub longer : ((w.seen ≡ v.seen) × (w.core ≡ v.core)) ⊎ ((w.seen ≡ u.seen) × (w.core ≡ u.core))
  pub mine : w.mine ≡ merge v.mine u.mine
  pub apart : (k : ℕ) → times k v.mine + times k u.mine ≤ 1
  pub lawful : is_lawful w.start.world w.seen ≡ true
  pub within : Rising 0 w.mine (length w.seen)
  pub small : w.share ≤ 4294967296
  pub sound_at : IsSound v.start.world → (k : ℕ) → IsSound (stand w.start.world (take k w.seen))

pub met : (v u : View) (slots : List (ℕ × Option ServerState)) (s : _) (found : ℕ) (n : Mine) → Settles s (both_of v u, slots) found n → Met v u n.0
met v u slots s found n k =
    let b = both_of v u in
    let t = nat_le (length b.seen) (length b.other) in
    subst (Met v u) (sym (ap (λ (m : Mine). m.0) k.after)) record {
      shares = settled-share t b;
      start = settled-start t b;
      idle = settled-stage t b;
      settled = settled-other t b;
      one = (k.rest, k.one);
      other = (k.other_rest, k.other);
      longer = settled-seen t b;
      mine = settled-mine t b;
      apart = λ x. let m = times-merge x v.mine u.mine in let l = times-most 0 b.mine (length (settled b).seen) x k.within in omega arith;
      lawful = subst (λ (x : ServerState). is_lawful x.world (settled b).seen ≡ true) (sym (settled-start t b)) k.lawful;
      within = subst (λ l. Rising 0 l (length (settled b).seen)) (sym (settled-mine t b)) k.within;
      sound_at = λ sound. stand-sound (settled b).start.world (settled b).seen (subst (λ (x : ServerState). IsSound x.world) (sym (settled-start t b)) sound) (subst (λ (x : ServerState). is_lawful x.world (settled b).seen ≡ true) (sym (settled-start t b)) k.lawful);
      small = let e = settled-share t b in let l = k.small in omega arith;
    }

pub met-at : (v u : View) (me n : Mine) (s : _) (found : ℕ) → me.0 ≡ both_of v u → Settles s me found n → Met v u n.0
met-at v u me n s found same k = met v u me.1 s found n (subst (λ (x : View). Settles s (x, me.1) found n) same k)
