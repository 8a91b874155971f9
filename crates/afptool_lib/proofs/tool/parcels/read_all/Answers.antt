use Rattle.std.proofs.Common.{rules, sym, subst, List, ℕ, ◌≡◌, ◌++◌, take}
use Rattle.afptool_lib.specs.tool.lemma.Parcelling.{HasRead}
use Rattle.afptool_lib.proofs.OfTool.ParcelLemmas.{read-none, read-more, read-lost}
use Rattle.afptool_lib.proofs.tool.parcels.read_all.Goals as goal

pub loop-taken-init : goal.loop-taken-init
loop-taken-init g c =
    let start = g.S.Source.source_state c.args.source.now in
    subst (λ (bytes : List ℕ). HasRead c.args.turns start bytes 0 start) (sym c.new-bytes.ensures) (read-none c.args.turns start)

pub returns-in_default : goal.returns-in_default
returns-in_default g c = read-lost c.args.turns _ _ _ c.loop-taken.bytes c.read.new.room c.loop-taken.taken c.in-Got.n c.loop-taken.invariant c.in-Got.ensures

pub loop-taken-preserved : goal.loop-taken-preserved
loop-taken-preserved g c =
    let bytes : c.extend.new.self ≡ c.loop-taken.bytes ++ take c.in-Got.n c.read.new.room = search rules in
    rw bytes (read-more c.args.turns _ _ _ c.loop-taken.bytes c.read.new.room c.loop-taken.taken c.in-Got.n c.loop-taken.invariant c.in-Got.ensures c.loop-taken-test.true)
