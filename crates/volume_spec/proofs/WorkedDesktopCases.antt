-- The worked cases of the desktop database compute.
use Rattle.std.proofs.Common.{refl}
use Rattle.volume_spec.proofs.WorkedKeys.{a-key, b-key, d-key, free-key, worked}
use Rattle.volume_spec.specs.WorkedCalls.{CommentIsCut, CommentIsPut, CommentIsReplaced, CommentIsTaken, CommentsAreRefused, EmptyCommentIsNone, EmptyCommentTakes, FirstIconIsTold, IconIsPut, IconIsReplaced, IconsAreGiven, IconsAreRefused, IconsHaveRoom, MappingIsPut, MappingIsReplaced, MappingIsTaken, MappingsAreRefused, MappingsAreTold, MappingsHaveRoom}

pub icon-is-put : IconIsPut
unfolding worked
icon-is-put = refl

pub icon-is-replaced : IconIsReplaced
unfolding worked
icon-is-replaced = refl

pub icons-have-room : IconsHaveRoom
unfolding worked
icons-have-room = refl

pub icons-are-given : IconsAreGiven
unfolding worked
icons-are-given = refl

pub first-icon-is-told : FirstIconIsTold
unfolding worked
first-icon-is-told = refl

pub icons-are-refused : IconsAreRefused
unfolding worked
icons-are-refused = refl

pub mapping-is-put : MappingIsPut
unfolding worked
mapping-is-put = rw (a-key, b-key) refl

pub mapping-is-replaced : MappingIsReplaced
unfolding worked
mapping-is-replaced = rw a-key refl

pub mapping-is-taken : MappingIsTaken
unfolding worked
mapping-is-taken = rw a-key refl

pub mappings-are-refused : MappingsAreRefused
unfolding worked
mappings-are-refused = rw (a-key, b-key, d-key) refl

pub mappings-have-room : MappingsHaveRoom
unfolding worked
mappings-have-room = rw a-key refl

pub mappings-are-told : MappingsAreTold
unfolding worked
mappings-are-told = refl

pub comment-is-put : CommentIsPut
unfolding worked
comment-is-put = rw a-key refl

pub comment-is-cut : CommentIsCut
unfolding worked
comment-is-cut = rw a-key refl

pub comment-is-replaced : CommentIsReplaced
unfolding worked
comment-is-replaced = rw a-key refl

pub empty-comment-takes : EmptyCommentTakes
unfolding worked
empty-comment-takes = rw a-key refl

pub comment-is-taken : CommentIsTaken
unfolding worked
comment-is-taken = rw a-key refl

pub empty-comment-is-none : EmptyCommentIsNone
unfolding worked
empty-comment-is-none = rw a-key refl

pub comments-are-refused : CommentsAreRefused
unfolding worked
comments-are-refused = rw (a-key, b-key, d-key, free-key) refl
