use Rattle.std.proofs.Common.{rules, ◌≡◌, ◌<◌, ◌++◌, ◌∷◌, [], ℕ, List, None, get_or, length, subst, sym}
use Rattle.std.proofs.lemmas.List.Elements.{All-get_or}
use Rattle.afp_names.specs.Name.{name_fault}
use Rattle.afp_core.specs.keepers.lemma.Loads.{IsFaultAt}
use Rattle.afp_core.proofs.OfKeepers.LoadLemmas.{left-within, load-next, load-stops-first, rest-next}
use Rattle.record_keeper.specs.Records.{steadily}
use Rattle.afp_core.proofs.keepers.loading.load_named.Goals as goal

pub load_one-requires : goal.load_one-requires
load_one-requires g c =
    let some : 0 < length c.loop-alloc.keepers.items = search rules in
    let index : c.len-index.result ≡ length c.loop-alloc.kept.items = search rules in
    let within : c.len-index.result < length c.args.names.now =
    subst (λ (n : ℕ). n < length c.args.names.now) (sym index)
    (left-within c.args.keepers.items c.loop-alloc.keepers.items (length c.loop-alloc.kept.items) (length c.args.names.now) c.loop-alloc.invariant.rest some c.loop-alloc.invariant.same) in
    subst (λ (name : List ℕ). name_fault name ≡ None) (sym c.index-names-index.is)
    (All-get_or (λ (name : List ℕ). name_fault name ≡ None) c.args.names.now c.len-index.result c.index-names-index.result within c.requires.named)

pub returns-in-Err-clause-fault : goal.returns-in-Err-clause-fault
returns-in-Err-clause-fault g c =
    let some : 0 < length c.loop-alloc.keepers.items = search rules in
    let index : c.len-index.result ≡ length c.loop-alloc.kept.items = search rules in
    load-stops-first (steadily g.K.Keeper.steady g.K.Keeper.records) g.K.Keeper.sure g.K.Keeper.faults c.args.now (length c.loop-alloc.kept.items) c.args.names.now c.args.keepers.items c.loop-alloc.keepers.items c.loop-alloc.kept.items
    c.index-names-index.result c.remove-keeper.result c.remove-keeper.result c.in-Err.fault
    c.loop-alloc.invariant.same c.loop-alloc.invariant.loaded c.loop-alloc.invariant.rest some
    (subst (λ (n : ℕ). c.index-names-index.result ≡ get_or c.args.names.now n c.index-names-index.result) index c.index-names-index.is) c.remove-keeper.ensures.value
    (subst (λ (n : ℕ). IsFaultAt n c.index-names-index.result (steadily g.K.Keeper.steady g.K.Keeper.records c.remove-keeper.result) (g.K.Keeper.sure c.remove-keeper.result) c.in-Err.fault) index c.in-Err.ensures.fault)

pub loop-alloc-preserved : goal.loop-alloc-preserved
loop-alloc-preserved g c =
    let some : 0 < length c.loop-alloc.keepers.items = search rules in
    let index : c.len-index.result ≡ length c.loop-alloc.kept.items = search rules in
    let becomes : c.push_kept.new.kept.items ≡ c.loop-alloc.kept.items ++ c.in-Ok.one ∷ [] = search rules in
    record {
      same = c.loop-alloc.invariant.same;
      rest = rest-next c.args.keepers.items c.loop-alloc.keepers.items c.remove-keeper.new.self.items c.loop-alloc.kept.items c.push_kept.new.kept.items c.in-Ok.one c.loop-alloc.invariant.rest c.remove-keeper.ensures.items becomes;
      loaded = load-next (steadily g.K.Keeper.steady g.K.Keeper.records) g.K.Keeper.sure g.K.Keeper.faults c.args.now c.args.names.now c.args.keepers.items c.loop-alloc.keepers.items c.loop-alloc.kept.items c.push_kept.new.kept.items
          c.index-names-index.result c.remove-keeper.result c.remove-keeper.result c.in-Ok.one c.loop-alloc.invariant.same c.loop-alloc.invariant.loaded c.loop-alloc.invariant.rest some
          (subst (λ (n : ℕ). c.index-names-index.result ≡ get_or c.args.names.now n c.index-names-index.result) index c.index-names-index.is) c.remove-keeper.ensures.value (c.in-Ok.ensures.loaded, c.in-Ok.ensures.from) becomes;
    }
