use Rattle.volume_spec.proofs.WorkedCallCases.{copies-are-refused, copy-keeps-its-name, deletes-are-refused, exchanges-are-refused, file-is-copied, file-is-created, file-is-deleted, file-is-filed, file-is-moved, file-is-renamed, files-are-exchanged, id-is-deleted, ids-are-created, ids-are-deleted, ids-are-resolved, next-id-is-drawn}
use Rattle.volume_spec.proofs.edit_laws.worked_calls_hold.Goals as goal

pub returns-clause-created : goal.returns-clause-created
returns-clause-created c = file-is-created

pub returns-clause-deleted : goal.returns-clause-deleted
returns-clause-deleted c = file-is-deleted

pub returns-clause-drawn : goal.returns-clause-drawn
returns-clause-drawn c = next-id-is-drawn

pub returns-clause-renamed : goal.returns-clause-renamed
returns-clause-renamed c = file-is-renamed

pub returns-clause-moved : goal.returns-clause-moved
returns-clause-moved c = file-is-moved

pub returns-clause-no_deletes : goal.returns-clause-no_deletes
returns-clause-no_deletes c = deletes-are-refused

pub returns-clause-filed : goal.returns-clause-filed
returns-clause-filed c = file-is-filed

pub returns-clause-no_ids : goal.returns-clause-no_ids
returns-clause-no_ids c = ids-are-created

pub returns-clause-id_deleted : goal.returns-clause-id_deleted
returns-clause-id_deleted c = id-is-deleted

pub returns-clause-no_id_deletes : goal.returns-clause-no_id_deletes
returns-clause-no_id_deletes c = ids-are-deleted

pub returns-clause-resolved : goal.returns-clause-resolved
returns-clause-resolved c = ids-are-resolved

pub returns-clause-exchanged : goal.returns-clause-exchanged
returns-clause-exchanged c = files-are-exchanged

pub returns-clause-no_exchanges : goal.returns-clause-no_exchanges
returns-clause-no_exchanges c = exchanges-are-refused

pub returns-clause-copied : goal.returns-clause-copied
returns-clause-copied c = file-is-copied

pub returns-clause-copy_named : goal.returns-clause-copy_named
returns-clause-copy_named c = copy-keeps-its-name

pub returns-clause-no_copies : goal.returns-clause-no_copies
returns-clause-no_copies c = copies-are-refused
