use Rattle.std.proofs.Common.{subst, List, ℕ, rules, Ok, Err, ◌∙◌}
use Rattle.client_script_run.specs.line.Values.{text_of}
use Rattle.client_script_run.specs.line.Run.{OpensVolume}
use Rattle.client_script_run.proofs.OfLine.MountLemmas.{comes-lack, comes-stop, comes-told, comes-unasked, mounts-stop, mounts-unasked}
use Rattle.client_script_run.proofs.line.mounting.run_mount.Goals as goal

pub returns-in-Err-clause-comes : goal.returns-in-Err-clause-comes
returns-in-Err-clause-comes g c = comes-unasked _ (text_of c.args.word.now) (g.A.Asker.exchanges c.args.asker.now)

pub returns-in-Err-clause-mounts : goal.returns-in-Err-clause-mounts
returns-in-Err-clause-mounts g c = mounts-unasked c.args.word.now (g.A.Asker.exchanges c.args.asker.now) c.args.mounted.now

pub returns-in-Ok-numbered-clause-comes : goal.returns-in-Ok-numbered-clause-comes
returns-in-Ok-numbered-clause-comes g c =
    comes-told (text_of c.args.word.now) (g.A.Asker.exchanges c.args.asker.now) (g.A.Asker.exchanges c.open_volume.new.asker) c.in-Ok-open_volume.volume c.in-Ok-numbered.text
    (subst (λ (name : List ℕ). OpensVolume {E = g.row.A-End.Denot} name (g.A.Asker.exchanges c.args.asker.now) (Ok c.in-Ok-open_volume.volume) (g.A.Asker.exchanges c.open_volume.new.asker)) (c.as_slice.ensures ∙ c.in-Ok.ensures.text) c.in-Ok-open_volume.ensures)
    (search rules)

pub returns-in-Ok-open_volume-clause-comes : goal.returns-in-Ok-open_volume-clause-comes
returns-in-Ok-open_volume-clause-comes g c =
    comes-lack (text_of c.args.word.now) (g.A.Asker.exchanges c.args.asker.now) (g.A.Asker.exchanges c.open_volume.new.asker) c.in-Ok-open_volume.volume
    (subst (λ (name : List ℕ). OpensVolume {E = g.row.A-End.Denot} name (g.A.Asker.exchanges c.args.asker.now) (Ok c.in-Ok-open_volume.volume) (g.A.Asker.exchanges c.open_volume.new.asker)) (c.as_slice.ensures ∙ c.in-Ok.ensures.text) c.in-Ok-open_volume.ensures)

pub returns-clause-comes : goal.returns-clause-comes
returns-clause-comes g c =
    comes-stop (text_of c.args.word.now) (g.A.Asker.exchanges c.args.asker.now) (g.A.Asker.exchanges c.open_volume.new.asker) c.in-Err-open_volume.stop
    (subst (λ (name : List ℕ). OpensVolume name (g.A.Asker.exchanges c.args.asker.now) (Err c.in-Err-open_volume.stop) (g.A.Asker.exchanges c.open_volume.new.asker)) (c.as_slice.ensures ∙ c.in-Ok.ensures.text) c.in-Err-open_volume.ensures)

pub returns-clause-mounts : goal.returns-clause-mounts
returns-clause-mounts g c =
    mounts-stop c.args.word.now c.as_slice.result.now (g.A.Asker.exchanges c.args.asker.now) (g.A.Asker.exchanges c.open_volume.new.asker) c.args.mounted.now c.in-Err-open_volume.stop c.in-Err-open_volume.ensures
