-- What is found in files that are opened.
use Rattle.std.proofs.Common.{◌≡◌, ◌∙◌, ap, sym, subst, arith, ◌≤◌}
use Rattle.std.specs.Prelude.{IfOk, IsTrue, Result, Ok, Err}
use Rattle.sqlite.specs.Effect.{Database}
use Rattle.sqlite.specs.Files.{AreFoundIn}
use Rattle.sqlite.specs.Start.{FindsIn}
use Rattle.sqlite.specs.State.{HasCleanDisk, IsLive, Opens, State}
use Rattle.sqlite_durable.specs.Durable.{IsFoundIn}
use Rattle.sqlite_durable_file.specs.Found.{HasFound}
use Rattle.sqlite_trees.specs.View.{doubt}
use Rattle.sqlite_wal.specs.Recovery.{Image}

pub has-found : {X E : Type 0} (r : Result X E) (now : X → State) (old : State) (image : Image)
    → IfOk r (λ k. doubt old.is_clean ≤ doubt (now k).is_clean)
    → IfOk r (λ k. HasCleanDisk (now k) → IsTrue old.is_open → IsTrue (now k).is_open)
    → IfOk r (λ k. IsTrue (now k).is_open → IsFoundIn old.now (now k).now)
    → (HasCleanDisk old → Opens old × IsLive old)
    → (HasCleanDisk old → FindsIn image old)
    → IfOk r (λ k. HasCleanDisk (now k) → HasFound image (now k))
has-found (Err e) now old image less tells found opened finds = tt
has-found (Ok k) now old image less tells found opened finds = λ clean.
    let early : HasCleanDisk old = omega (arith, less) in
    let o = opened early in
    let f = finds early in
    let on = tells clean o.0.is_open in
    let same : old.now.trees ≡ old.committed.trees = ap (λ (d : Database). d.trees) o.0.clean in
    record {
      is_open = on;
      opened = old.now;
      sound = (o.1 o.0.is_open).0;
      holds = λ db is. same ∙ f.holds db is;
      reads = subst (AreFoundIn image) (sym same) f.reads;
      found = found on;
    }
