-- What a person is told of a refusal (the codes are those of the AFP Reference, "Result Codes"; the words are this profile's).
use Rattle.std.specs.Prelude.{List, ℕ, ◌++◌, codes}
use Rattle.std.specs.Fmt.{signed_decimal}
use Rattle.afp_base.specs.Code.{number_of}
use Rattle.afp_base.specs.declared.code.Code.{Code}
use Rattle.afp_base.specs.declared.code.Code.TheVariants as results

-- a code's name, and what it means
unfoldable pub code_words : Code → List ℕ
code_words results.Ok = codes "Ok"
code_words results.NoMemory = codes "NoMemory: the server has no memory"
code_words results.NoMoreSessions = codes "NoMoreSessions: the server has too many sessions"
code_words results.AccessDenied = codes "AccessDenied: no right to do that"
code_words results.BadUAM = codes "BadUAM: the server does not offer that login"
code_words results.BadVersNum = codes "BadVersNum: the server does not speak AFP 3.3"
code_words results.BitmapErr = codes "BitmapErr"
code_words results.CantMove = codes "CantMove: a directory can't go into itself"
code_words results.DenyConflict = codes "DenyConflict: somebody else has it open"
code_words results.DirNotEmpty = codes "DirNotEmpty: the directory is not empty"
code_words results.DiskFull = codes "DiskFull: the volume is full"
code_words results.EOFErr = codes "EOFErr"
code_words results.FileBusy = codes "FileBusy: it is open"
code_words results.ItemNotFound = codes "ItemNotFound: there is none"
code_words results.LockErr = codes "LockErr: somebody else locked that range"
code_words results.MiscErr = codes "MiscErr: the server cannot keep it"
code_words results.NoMoreLocks = codes "NoMoreLocks"
code_words results.ObjectExists = codes "ObjectExists: it is there already"
code_words results.ObjectNotFound = codes "ObjectNotFound: no such file or directory"
code_words results.ParamErr = codes "ParamErr: the server does not take that"
code_words results.RangeNotLocked = codes "RangeNotLocked"
code_words results.RangeOverlap = codes "RangeOverlap"
code_words results.UserNotAuth = codes "UserNotAuth: wrong name or password"
code_words results.CallNotSupported = codes "CallNotSupported"
code_words results.ObjectTypeErr = codes "ObjectTypeErr: it is a directory, or is none"
code_words results.TooManyFilesOpen = codes "TooManyFilesOpen"
code_words results.CantRename = codes "CantRename"
code_words results.DirNotFound = codes "DirNotFound: no such directory"
code_words results.VolLocked = codes "VolLocked"
code_words results.ObjectLocked = codes "ObjectLocked: it is locked"
code_words results.IDNotFound = codes "IDNotFound"
code_words results.IDExists = codes "IDExists"
code_words results.SameObjectErr = codes "SameObjectErr: source and target are one"
code_words results.BadIDErr = codes "BadIDErr"

-- what was refused, the code's name, and its number
unfoldable pub refusal_text : List ℕ → Code → List ℕ
refusal_text what code = what ++ codes ": " ++ code_words code ++ codes " (" ++ signed_decimal (number_of code) ++ codes ")"
