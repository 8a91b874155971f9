-- The exit status of the client (this profile; as of the tool).
use Rattle.std.specs.Prelude.{ℕ, List, [], ◌∷◌}
use Rattle.afpcmd_lib.specs.declared.notes.Cause.{Cause}
use Rattle.afpcmd_lib.specs.declared.notes.Cause.TheVariants as causes

-- the status of a note
abbrev pub cause_status : Cause → ℕ
cause_status causes.NotDone = 1
cause_status causes.Words = 2
cause_status causes.Output = 5
cause_status causes.Memory = 6
cause_status causes.NoServer = 7
cause_status causes.Lost = 9

-- 0 where no note was told, and else the last one's
unfoldable pub status_of : List Cause → ℕ
status_of [] = 0
status_of (cause ∷ []) = cause_status cause
status_of (cause ∷ next ∷ rest) = status_of (next ∷ rest)
