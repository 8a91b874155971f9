-- A pass meets one more.
use Rattle.std.proofs.Common.{◌≡◌, ⊎_elim, List, [], ◌∷◌, ◌++◌, refl, sym, ap, ◌∙◌, subst, arith, append_assoc, append-nil}
use mathlib.Core.Option.{some, some-ne-none}
use lib.ListN.{get_elem?}
use Rattle.atomic_table.proofs.Lists.{at_snoc}
use Rattle.afp_serial.specs.declared.ask.Entry.{Entry}
use Rattle.afp_desk.specs.declared.desk.view.View.{View}
use Rattle.afp_desk.specs.desk.Totals.{times}
use Rattle.afp_desk.specs.desk.Rule.{share_of, has_place}
use Rattle.afp_desk.specs.desk.Passes.{Begins, IsMet}
use Rattle.afp_desk.proofs.OfDesk.Totals.{total-snoc, times-merge}
use Rattle.afp_desk.specs.workers.Gathers.{Gathered}

begins-on : (a b c : List Entry) → Begins a b → Begins b c → Begins a c
begins-on a b c x y = (x.0 ++ y.0, y.1 ∙ ap (λ (l : List Entry). l ++ y.0) x.1 ∙ append_assoc a x.0 y.0)

pub gathers-none : (v : View) → Gathered v [] v
gathers-none v = record {
  shares = omega arith;
  start = refl;
  first = ([], sym (append-nil v.seen));
  each = λ i u e. absurd (some-ne-none u (sym e));
  places = λ k. omega arith;
}

pub gathers-one : (v : View) (us : List View) (w u r : View) → Gathered v us w → IsMet w u r → Gathered v (us ++ u ∷ []) r
gathers-one v us w u r g m = record {
  shares = let a = g.shares in let b = m.shares in let t = total-snoc share_of us u in omega arith;
  start = m.start ∙ g.start;
  first = begins-on v.seen w.seen r.seen g.first m.one;
  each = λ i x e. ⊎_elim (λ (t : get_elem? us i ≡ some x). begins-on x.seen w.seen r.seen (g.each i x t) m.one) (λ (t : u ≡ x). subst (λ (y : View). Begins y.seen r.seen) t m.other) (at_snoc us u x i e);
  places = λ k. let a = g.places k in let b = ap (times k) m.mine ∙ times-merge k w.mine u.mine in let t = total-snoc (has_place k) us u in omega arith;
}
