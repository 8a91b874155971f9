-- The worked cases of files and directories compute.
use Rattle.std.proofs.Common.{refl}
use Rattle.volume_spec.proofs.WorkedKeys.{a-key, b-key, d-key, free-key, upper-key, worked}
use Rattle.volume_spec.specs.WorkedCalls.{CopiesAreRefused, CopyKeepsItsName, DeletesAreRefused, ExchangesAreRefused, FileIsCopied, FileIsCreated, FileIsDeleted, FileIsFiled, FileIsMoved, FileIsRenamed, FilesAreExchanged, IdIsDeleted, IdsAreCreated, IdsAreDeleted, IdsAreResolved, NextIdIsDrawn}

pub file-is-created : FileIsCreated
unfolding worked
file-is-created = rw (a-key, b-key, d-key, free-key) refl

pub file-is-deleted : FileIsDeleted
unfolding worked
file-is-deleted = rw (a-key, b-key, d-key, free-key) refl

pub next-id-is-drawn : NextIdIsDrawn
unfolding worked
next-id-is-drawn = rw (a-key, b-key, d-key, free-key) refl

pub file-is-renamed : FileIsRenamed
unfolding worked
file-is-renamed = rw a-key refl

pub file-is-moved : FileIsMoved
unfolding worked
file-is-moved = rw (b-key, d-key, free-key) refl

pub deletes-are-refused : DeletesAreRefused
unfolding worked
deletes-are-refused = rw (a-key, b-key, d-key) refl

pub file-is-filed : FileIsFiled
unfolding worked
file-is-filed = rw (a-key, b-key) refl

pub ids-are-created : IdsAreCreated
unfolding worked
ids-are-created = rw (a-key, b-key, d-key, free-key) refl

pub id-is-deleted : IdIsDeleted
unfolding worked
id-is-deleted = refl

pub ids-are-deleted : IdsAreDeleted
unfolding worked
ids-are-deleted = refl

pub ids-are-resolved : IdsAreResolved
unfolding worked
ids-are-resolved = refl

pub files-are-exchanged : FilesAreExchanged
unfolding worked
files-are-exchanged = rw (a-key, b-key) refl

pub exchanges-are-refused : ExchangesAreRefused
unfolding worked
exchanges-are-refused = rw (a-key, b-key, d-key, free-key, upper-key) refl

pub file-is-copied : FileIsCopied
unfolding worked
file-is-copied = rw (a-key, b-key, d-key) refl

pub copy-keeps-its-name : CopyKeepsItsName
unfolding worked
copy-keeps-its-name = refl

pub copies-are-refused : CopiesAreRefused
unfolding worked
copies-are-refused = rw (a-key, b-key, d-key, free-key) refl
