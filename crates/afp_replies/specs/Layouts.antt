-- The layouts of replies, each under its call's name (AFP Reference, "AFP Calls").
use Rattle.std.specs.Prelude.{ℕ, zero, suc, Bool, true, false, ◌==◌, ◌||◌, List, [], ◌∷◌, ◌++◌, Option, Some, None, if◌then◌else◌}
use Rattle.std.specs.Int.{w32, cast_signed}
use Rattle.afp_bitmap.specs.Bits.{file_mask, dir_mask, mask_of, is_asked}
use Rattle.afp_replies.specs.declared.list.ListEntry.{ListEntry}
use Rattle.afp_replies.specs.declared.volumes.VolumeEntry.{VolumeEntry}
use Rattle.afp_replies.specs.declared.reply.Reply.TheVariants as replies
use Rattle.afp_replies.specs.Numbers.{file_kind, dir_kind, user_info_mask, user_id_bit, group_id_bit, message_mask, message_bit, utf8_bit, user_id_to_name, group_id_to_name, user_id_to_utf8_name, group_id_to_utf8_name}
use Rattle.afp_replies.specs.Bytes.{width}
use Rattle.afp_replies.specs.Words.{Number, Exactly, Asked, Raw, Pad, Counted, Flag, Entry}
use Rattle.afp_replies.specs.Layout.{ReplyLayout, Is, Never, Then, Remaining, Params}

-- the fields, as the layouts write them
abbrev pub u8 : (ℕ → ReplyLayout) → ReplyLayout
u8 next = Then (Number 1) next

abbrev pub u16 : (ℕ → ReplyLayout) → ReplyLayout
u16 next = Then (Number 2) next

abbrev pub u32 : (ℕ → ReplyLayout) → ReplyLayout
u32 next = Then (Number 4) next

abbrev pub u64 : (ℕ → ReplyLayout) → ReplyLayout
u64 next = Then (Number 8) next

abbrev pub raw4 : (List ℕ → ReplyLayout) → ReplyLayout
raw4 next = Then (Raw 4) next

abbrev pub pad : ReplyLayout → ReplyLayout
pad next = Then Pad (λ _. next)

abbrev pub str : (List ℕ → ReplyLayout) → ReplyLayout
str next = Then (Counted 1) next

abbrev pub asked : ℕ → ℕ → ReplyLayout → ReplyLayout
asked mask bits next = Then (Asked mask bits) (λ _. next)

unfoldable pub optional : Bool → (Option ℕ → ReplyLayout) → ReplyLayout
optional true next = u32 (λ x. next (Some x))
optional false next = next None

-- a reply with no field
abbrev pub empty : ReplyLayout
empty = Is replies.Empty

-- AFP Reference, FPByteRangeLock: start 4
abbrev pub start : ReplyLayout
start = u32 (λ start. Is (replies.Start start))

-- AFP Reference, FPByteRangeLockExt: start 8
abbrev pub start_ext : ReplyLayout
start_ext = u64 (λ start. Is (replies.StartExt start))

-- AFP Reference, FPWrite: end 4
abbrev pub end : ReplyLayout
end = u32 (λ end. Is (replies.End end))

-- AFP Reference, FPWriteExt: end 8
abbrev pub end_ext : ReplyLayout
end_ext = u64 (λ end. Is (replies.EndExt end))

-- AFP Reference, FPCreateDir, FPOpenDir, FPCreateID: id 4
abbrev pub node : ReplyLayout
node = u32 (λ id. Is (replies.Node (record { 0 = id })))

-- AFP Reference, FPOpenDT: the desktop database's number 2
abbrev pub desk : ReplyLayout
desk = u16 (λ dt. Is (replies.Desk dt))

-- AFP Reference, FPMapName: id 4
abbrev pub mapped_id : ReplyLayout
mapped_id = u32 (λ id. Is (replies.MappedId id))

-- AFP Reference, FPRead, FPReadExt, FPGetIcon: data
abbrev pub piece : ReplyLayout
piece = Remaining (λ bytes. replies.Piece bytes)

-- AFP Reference, FPGetSrvrInfo: the status block
abbrev pub status : ReplyLayout
status = Remaining (λ bytes. replies.Status bytes)

-- AFP Reference, FPGetSessionToken: length 4, token (this profile)
abbrev pub token : ReplyLayout
token = Then (Counted 4) (λ token. Is (replies.Token token))

-- AFP Reference, FPGetComment: comment, with its count in a byte
abbrev pub comment : ReplyLayout
comment = str (λ comment. Is (replies.Comment comment))

-- whether the name that a function of FPMapID answers has a wide count: those of the two UTF-8 functions have; no other number is a function (AFP Reference, FPMapID)
unfoldable pub is_wide : ℕ → Option Bool
is_wide function =
    if function == user_id_to_name || function == group_id_to_name then Some false
    else (if function == user_id_to_utf8_name || function == group_id_to_utf8_name then Some true else None)

-- a name with its count in 1 byte or in 2
abbrev pub name : Bool → ReplyLayout
name wide = Then (Counted (width wide)) (λ name. Is (replies.MappedName wide name))

abbrev pub mapped : Option Bool → ReplyLayout
mapped None = Never
mapped (Some wide) = name wide

-- AFP Reference, FPMapID: the name; the function stands in the kind's bits, and no other number has a reply
abbrev pub mapped_name : ℕ → ReplyLayout
mapped_name function = mapped (is_wide function)

-- AFP Reference, FPGetIconInfo: tag 4, type 4, icon type 1, pad 1, size 2
abbrev pub icon_info : ReplyLayout
icon_info = u32 (λ tag. raw4 (λ kind. u8 (λ icon_kind. pad (u16 (λ size. Is (replies.IconInfo tag kind icon_kind size))))))

-- AFP Reference, FPGetUserInfo: bits 2, user id 4 where bit 0 asks for it, group id 4 where bit 1 does
abbrev pub user_info : ℕ → ReplyLayout
user_info bits =
    asked user_info_mask bits (optional (is_asked bits user_id_bit) (λ id. optional (is_asked bits group_id_bit) (λ group. Is (replies.UserInfo bits id group))))

-- a text with its count in 1 byte or in 2, where it is asked
unfoldable pub optional_text : Bool → Bool → (Option (List ℕ) → ReplyLayout) → ReplyLayout
optional_text wide true next = Then (Counted (width wide)) (λ text. next (Some text))
optional_text wide false next = next None

-- AFP Reference, FPGetSrvrMsg: type 2, bits 2, and the message where its bit asks for it, with its count in 2 bytes where the UTF-8 bit is set, else in one
abbrev pub message : ℕ → ReplyLayout
message bits =
    u16 (λ kind. asked message_mask bits (optional_text (is_asked bits utf8_bit) (is_asked bits message_bit) (λ text. Is (replies.Message kind bits text))))

-- a volume: flags 1, and its name, with its count in a byte
abbrev pub volume : (VolumeEntry → ReplyLayout) → ReplyLayout
volume next = u8 (λ flags. str (λ name. next (record { flags = flags; name = name })))

-- so many volumes behind these
unfoldable pub volumes : ℕ → List VolumeEntry → (List VolumeEntry → ReplyLayout) → ReplyLayout
volumes zero before next = next before
volumes (suc more) before next = volume (λ v. volumes more (before ++ (v ∷ [])) next)

-- AFP Reference, FPGetSrvrParms: time 4, count 1, the volumes
abbrev pub server_params : ReplyLayout
server_params = u32 (λ time. u8 (λ count. volumes count [] (λ all. Is (replies.ServerParams (cast_signed w32 time) all))))

-- AFP Reference, FPGetVolParms, FPOpenVol (of a volume), FPGetForkParms, FPResolveID (of a file): bits 2, params
abbrev pub params : ℕ → ℕ → ReplyLayout
params kind bits = asked (mask_of kind) bits (Params kind bits (λ values. replies.Params bits values))

-- AFP Reference, FPOpenFork: bits 2, ref 2, params
abbrev pub opened : ℕ → ReplyLayout
opened bits = asked file_mask bits (u16 (λ reference. Params file_kind bits (λ values. replies.Opened bits (record { 0 = reference }) values)))

-- AFP Reference, FPOpenFork, where a deny mode forbids it: the same with reference 0
abbrev pub denied_params : ℕ → ReplyLayout
denied_params bits = asked file_mask bits (Then (Exactly 2 0) (λ _. Params file_kind bits (λ values. replies.Opened bits (record { 0 = 0 }) values)))

-- the parameters of a directory or a file
unfoldable pub node_params_layout : Bool → ℕ → ℕ → ReplyLayout
node_params_layout true file_bits dir_bits = Params dir_kind dir_bits (λ values. replies.FileDirParams file_bits dir_bits values)
node_params_layout false file_bits dir_bits = Params file_kind file_bits (λ values. replies.FileDirParams file_bits dir_bits values)

-- AFP Reference, FPGetFileDirParms: file bits 2, dir bits 2, flag 1, pad 1, params
abbrev pub file_dir_params : ℕ → ℕ → ReplyLayout
file_dir_params file_bits dir_bits =
    asked file_mask file_bits (asked dir_mask dir_bits (Then Flag (λ dir. pad (node_params_layout dir file_bits dir_bits))))

-- AFP Reference, FPGetAPPL: bits 2, tag 4, params
abbrev pub appl : ℕ → ReplyLayout
appl bits = asked file_mask bits (u32 (λ tag. Params file_kind bits (λ values. replies.Appl bits tag values)))

-- so many entries behind these
unfoldable pub entries : Bool → ℕ → ℕ → ℕ → List ListEntry → (List ListEntry → ReplyLayout) → ReplyLayout
entries wide file_bits dir_bits zero before next = next before
entries wide file_bits dir_bits (suc more) before next =
    Then (Entry wide file_bits dir_bits) (λ e. entries wide file_bits dir_bits more (before ++ (e ∷ [])) next)

-- AFP Reference, FPEnumerate (narrow), FPEnumerateExt, FPEnumerateExt2 (wide): file bits 2, dir bits 2, count 2, the entries
abbrev pub list : Bool → ℕ → ℕ → ReplyLayout
list wide file_bits dir_bits =
    asked file_mask file_bits (asked dir_mask dir_bits (u16 (λ count.
    entries wide file_bits dir_bits count [] (λ rows. Is (replies.List wide file_bits dir_bits rows)))))
