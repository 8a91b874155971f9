use Rattle.volume_spec.proofs.WorkedDesktopCases.{comment-is-cut, comment-is-put, comment-is-replaced, comment-is-taken, comments-are-refused, empty-comment-is-none, empty-comment-takes, first-icon-is-told, icon-is-put, icon-is-replaced, icons-are-given, icons-are-refused, icons-have-room, mapping-is-put, mapping-is-replaced, mapping-is-taken, mappings-are-refused, mappings-are-told, mappings-have-room}
use Rattle.volume_spec.proofs.edit_laws.worked_desktops_hold.Goals as goal

pub returns-clause-icon : goal.returns-clause-icon
returns-clause-icon c = icon-is-put

pub returns-clause-icon_replaced : goal.returns-clause-icon_replaced
returns-clause-icon_replaced c = icon-is-replaced

pub returns-clause-icon_room : goal.returns-clause-icon_room
returns-clause-icon_room c = icons-have-room

pub returns-clause-icons : goal.returns-clause-icons
returns-clause-icons c = icons-are-given

pub returns-clause-first_icon : goal.returns-clause-first_icon
returns-clause-first_icon c = first-icon-is-told

pub returns-clause-no_icons : goal.returns-clause-no_icons
returns-clause-no_icons c = icons-are-refused

pub returns-clause-mapping : goal.returns-clause-mapping
returns-clause-mapping c = mapping-is-put

pub returns-clause-mapping_replaced : goal.returns-clause-mapping_replaced
returns-clause-mapping_replaced c = mapping-is-replaced

pub returns-clause-mapping_taken : goal.returns-clause-mapping_taken
returns-clause-mapping_taken c = mapping-is-taken

pub returns-clause-no_mappings : goal.returns-clause-no_mappings
returns-clause-no_mappings c = mappings-are-refused

pub returns-clause-mapping_room : goal.returns-clause-mapping_room
returns-clause-mapping_room c = mappings-have-room

pub returns-clause-mappings : goal.returns-clause-mappings
returns-clause-mappings c = mappings-are-told

pub returns-clause-comment : goal.returns-clause-comment
returns-clause-comment c = comment-is-put

pub returns-clause-comment_cut : goal.returns-clause-comment_cut
returns-clause-comment_cut c = comment-is-cut

pub returns-clause-comment_replaced : goal.returns-clause-comment_replaced
returns-clause-comment_replaced c = comment-is-replaced

pub returns-clause-empty_comment : goal.returns-clause-empty_comment
returns-clause-empty_comment c = empty-comment-takes

pub returns-clause-comment_taken : goal.returns-clause-comment_taken
returns-clause-comment_taken c = comment-is-taken

pub returns-clause-no_edit : goal.returns-clause-no_edit
returns-clause-no_edit c = empty-comment-is-none

pub returns-clause-no_comments : goal.returns-clause-no_comments
returns-clause-no_comments c = comments-are-refused
