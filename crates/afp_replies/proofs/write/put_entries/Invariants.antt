use Rattle.std.proofs.Common.{◌≡◌, ◌≤◌, ◌++◌, drop, length, map}
use Rattle.std.specs.List.{concat, AllByRecursion}
use Rattle.afp_replies.specs.Entry.{entry_bytes, FitsEntry}
use Rattle.afp_base.specs.Appended.{Keeps}
use Rattle.afp_replies.proofs.write.put_entries.Given as goal

-- the entries to come behind these bytes are all entries, and they fit
abbrev pub invariant-loop-entry : goal.invariant-loop-entry
invariant-loop-entry l = record {
  whole : l.out ++ concat (map (entry_bytes l.wide l.file_bits l.dir_bits) (drop l.entry-index l.rows)) ≡ l.initial.out ++ concat (map (entry_bytes l.wide l.file_bits l.dir_bits) l.rows);
  keeps : Keeps l.initial.out l.out;
  begun : length l.initial.out ≤ length l.out;
  fits : AllByRecursion (FitsEntry l.wide l.file_bits l.dir_bits) (drop l.entry-index l.rows);
}
