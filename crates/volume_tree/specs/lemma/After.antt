-- The marks of a node after a change, for private contracts (the form is this profile's).
use Rattle.std.specs.Prelude.{Bool, option_map, unwrap_or, if◌then◌else◌}
use Rattle.node_rows.specs.declared.node.Marks.{Marks}
use Rattle.volume_spec.specs.SetFileDirParms.{Settings, attributes_by}

-- marks with settings of a node of that kind
abbrev pub marks_after : Settings → Bool → Marks → Marks
marks_after s dir marks = record {
  attributes = unwrap_or (option_map (λ word. attributes_by dir word marks.attributes) s.attributes) marks.attributes;
  created = unwrap_or s.created marks.created;
  modified = unwrap_or s.modified marks.modified;
  backup = unwrap_or s.backup marks.backup;
  finder = unwrap_or s.finder marks.finder;
  filed = marks.filed;
  owner = if dir then unwrap_or s.owner marks.owner else marks.owner;
  group = if dir then unwrap_or s.group marks.group else marks.group;
  rights = if dir then unwrap_or s.rights marks.rights else marks.rights;
}
