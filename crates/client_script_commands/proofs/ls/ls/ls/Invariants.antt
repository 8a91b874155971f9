use Rattle.std.proofs.Common.{◌≡◌, ◌<◌, ◌+◌, ◌^◌, []}
use Rattle.client_script_commands.specs.ls.Ls.{lists}
use Rattle.client_script_commands.specs.ls.lemma.Listing.{Shows}
use Rattle.client_script_commands.specs.parts.Told.{Carries}
use Rattle.client_script_commands.proofs.ls.ls.ls.Given as goal

abbrev pub invariant-loop-text : goal.invariant-loop-text
invariant-loop-text g l = record {
  within : l.count + 1 < 2 ^ 32;
  carries : Carries g.row.A-End.Denot (g.A.Asker.exchanges l.initial.asker) (lists l.volume l.path 0 []) (g.A.Asker.exchanges l.asker) (lists l.volume l.path l.count l.text);
  shows : Shows (g.A.Asker.exchanges l.initial.asker) [] l.text (g.A.Asker.exchanges l.asker);
  said : l.said ≡ l.initial.said;
}

abbrev pub decreases-loop-text : goal.decreases-loop-text
decreases-loop-text g l = g.A.Asker.left l.asker
