-- Which layout the reply to each command has. A shape is a column's name; Data and Icon are two, since a read has its bytes at the end of a fork too.
use Rattle.std.specs.Prelude.{ℕ, ◌==◌, true, false, List, [], ◌∷◌, if◌then◌else◌}
use Rattle.afp_base.specs.declared.code.Code.{Code}
use Rattle.afp_base.specs.declared.code.Code.TheVariants as codes
use Rattle.afp_replies.specs.declared.commands.Shape.{Shape}
use Rattle.afp_replies.specs.declared.commands.Shape.TheVariants.{Unlisted, Empty, Start, StartExt, End, EndExt, Node, NarrowList, WideList, FileParams, VolumeParams, FileDirParams, Status, ServerParams, MappedName, MappedId, Opened, Data, Icon, IconInfo, UserInfo, Message, Desk, Appl, Comment, Token}
use Rattle.afp_replies.specs.declared.reply.ReplyKind.{ReplyKind}
use Rattle.afp_replies.specs.Numbers.{volume_kind, file_kind}
use Rattle.afp_replies.specs.Layout.{ReplyLayout, Never}
use Rattle.afp_replies.specs.Layouts as layouts

-- a command, and the shape of its reply
abbrev pub ShapeRow : Type 0
ShapeRow = ℕ × Shape

-- AFP Reference, "AFP Calls"
unfoldable pub rows : List ShapeRow
rows =
    (1, Start)  -- FPByteRangeLock
    ∷ (2, Empty)  -- FPCloseVol
    ∷ (3, Empty)  -- FPCloseDir
    ∷ (4, Empty)  -- FPCloseFork
    ∷ (5, Empty)  -- FPCopyFile
    ∷ (6, Node)  -- FPCreateDir
    ∷ (7, Empty)  -- FPCreateFile
    ∷ (8, Empty)  -- FPDelete
    ∷ (9, NarrowList)  -- FPEnumerate
    ∷ (10, Empty)  -- FPFlush
    ∷ (11, Empty)  -- FPFlushFork
    ∷ (14, FileParams)  -- FPGetForkParms
    ∷ (15, Status)  -- FPGetSrvrInfo
    ∷ (16, ServerParams)  -- FPGetSrvrParms
    ∷ (17, VolumeParams)  -- FPGetVolParms
    ∷ (18, Empty)  -- FPLogin
    ∷ (20, Empty)  -- FPLogout
    ∷ (21, MappedName)  -- FPMapID
    ∷ (22, MappedId)  -- FPMapName
    ∷ (23, Empty)  -- FPMoveAndRename
    ∷ (24, VolumeParams)  -- FPOpenVol
    ∷ (25, Node)  -- FPOpenDir
    ∷ (26, Opened)  -- FPOpenFork
    ∷ (27, Data)  -- FPRead
    ∷ (28, Empty)  -- FPRename
    ∷ (29, Empty)  -- FPSetDirParms
    ∷ (30, Empty)  -- FPSetFileParms
    ∷ (31, Empty)  -- FPSetForkParms
    ∷ (32, Empty)  -- FPSetVolParms
    ∷ (33, End)  -- FPWrite
    ∷ (34, FileDirParams)  -- FPGetFileDirParms
    ∷ (35, Empty)  -- FPSetFileDirParms
    ∷ (37, UserInfo)  -- FPGetUserInfo
    ∷ (38, Message)  -- FPGetSrvrMsg
    ∷ (39, Node)  -- FPCreateID
    ∷ (40, Empty)  -- FPDeleteID
    ∷ (41, FileParams)  -- FPResolveID
    ∷ (42, Empty)  -- FPExchangeFiles
    ∷ (48, Desk)  -- FPOpenDT
    ∷ (49, Empty)  -- FPCloseDT
    ∷ (51, Icon)  -- FPGetIcon
    ∷ (52, IconInfo)  -- FPGetIconInfo
    ∷ (53, Empty)  -- FPAddAPPL
    ∷ (54, Empty)  -- FPRemoveAPPL
    ∷ (55, Appl)  -- FPGetAPPL
    ∷ (56, Empty)  -- FPAddComment
    ∷ (57, Empty)  -- FPRemoveComment
    ∷ (58, Comment)  -- FPGetComment
    ∷ (59, StartExt)  -- FPByteRangeLockExt
    ∷ (60, Data)  -- FPReadExt
    ∷ (61, EndExt)  -- FPWriteExt
    ∷ (63, Empty)  -- FPLoginExt
    ∷ (64, Token)  -- FPGetSessionToken
    ∷ (65, Empty)  -- FPDisconnectOldSession
    ∷ (66, WideList)  -- FPEnumerateExt
    ∷ (68, WideList)  -- FPEnumerateExt2
    ∷ (192, Empty)  -- FPAddIcon
    ∷ []

-- the shape in the row of a command
unfoldable pub shape_in : List ShapeRow → ℕ → Shape
shape_in [] command = Unlisted
shape_in (row ∷ rows) command = if row.0 == command then row.1 else shape_in rows command

unfoldable pub shape_of : ℕ → Shape
shape_of command = shape_in rows command

-- the layout of a shape
abbrev pub reply_layout_of : Shape → ReplyKind → ReplyLayout
reply_layout_of Unlisted kind = Never
reply_layout_of Empty kind = layouts.empty
reply_layout_of Start kind = layouts.start
reply_layout_of StartExt kind = layouts.start_ext
reply_layout_of End kind = layouts.end
reply_layout_of EndExt kind = layouts.end_ext
reply_layout_of Node kind = layouts.node
reply_layout_of NarrowList kind = layouts.list false kind.bits kind.dir_bits
reply_layout_of WideList kind = layouts.list true kind.bits kind.dir_bits
reply_layout_of FileParams kind = layouts.params file_kind kind.bits
reply_layout_of VolumeParams kind = layouts.params volume_kind kind.bits
reply_layout_of FileDirParams kind = layouts.file_dir_params kind.bits kind.dir_bits
reply_layout_of Status kind = layouts.status
reply_layout_of ServerParams kind = layouts.server_params
reply_layout_of MappedName kind = layouts.mapped_name kind.bits
reply_layout_of MappedId kind = layouts.mapped_id
reply_layout_of Opened kind = layouts.opened kind.bits
reply_layout_of Data kind = layouts.piece
reply_layout_of Icon kind = layouts.piece
reply_layout_of IconInfo kind = layouts.icon_info
reply_layout_of UserInfo kind = layouts.user_info kind.bits
reply_layout_of Message kind = layouts.message kind.bits
reply_layout_of Desk kind = layouts.desk
reply_layout_of Appl kind = layouts.appl kind.bits
reply_layout_of Comment kind = layouts.comment
reply_layout_of Token kind = layouts.token

-- a refusal by a deny mode: FPOpenFork tells of the file all the same
abbrev pub denied : Shape → ReplyKind → ReplyLayout
denied Opened kind = layouts.denied_params kind.bits
denied shape kind = layouts.empty

-- a refusal at the end of a fork: FPRead and FPReadExt have what they read
abbrev pub ended : Shape → ReplyLayout
ended Data = layouts.piece
ended shape = layouts.empty

-- The layout of the reply with this code. A refusal is empty, but for those two; so is a refusal of a command that is not listed.
abbrev pub reply_layout : Shape → Code → ReplyKind → ReplyLayout
reply_layout shape codes.Ok kind = reply_layout_of shape kind
reply_layout shape codes.DenyConflict kind = denied shape kind
reply_layout shape codes.EOFErr kind = ended shape
reply_layout shape code kind = layouts.empty
