-- What fits is shown by the bytes that are written: to the requests that ask for it, and so to some request.
use Rattle.std.proofs.Common.{◌≡◌, ℕ, ◌^◌, ◌<◌, ◌≤◌, Bool, true, false, List, [], ◌∷◌, ◌++◌, length, map, Option, Some, None, ℤ, inl, inr, refl, sym, ap, ◌∙◌, subst, arith, append_assoc, w32}
use Rattle.std.proofs.lemmas.List.{append-nil}
use Rattle.std.specs.List.{concat, AllByRecursion}
use Rattle.std.specs.Int.{cast_signed, cast_unsigned}
use Rattle.afp_base.specs.declared.code.Code.{Code}
use Rattle.afp_base.specs.declared.code.Code.TheVariants as codes
use Rattle.afp_base.specs.declared.ids.ForkRef.{ForkRef}
use Rattle.afp_bitmap.specs.declared.params.Values.{Values}
use Rattle.afp_bitmap.specs.declared.params.Values.TheVariants as kinds
use Rattle.afp_bitmap.specs.Bits.{IsWithin, mask_of, is_asked}
use Rattle.afp_bitmap.specs.Params.{params, IsAnswer}
use Rattle.afp_replies.specs.declared.commands.Shape.{Shape}
use Rattle.afp_replies.specs.declared.commands.Shape.TheVariants as shapes
use Rattle.afp_replies.specs.declared.list.ListEntry.{ListEntry}
use Rattle.afp_replies.specs.declared.reply.Reply.{Reply}
use Rattle.afp_replies.specs.declared.reply.Reply.TheVariants as replies
use Rattle.afp_replies.specs.declared.reply.ReplyKind.{ReplyKind}
use Rattle.afp_replies.specs.declared.volumes.VolumeEntry.{VolumeEntry}
use Rattle.afp_replies.specs.Bytes as bytes
use Rattle.afp_replies.specs.Bytes.{width, with_count, flag_of}
use Rattle.afp_replies.specs.Entry.{is_dir, bits_for, kind_for, entry_bytes, FitsEntry}
use Rattle.afp_replies.specs.Words.{Number, Exactly, Asked, Raw, Pad, Counted, Flag, Entry}
use Rattle.afp_replies.specs.Layout.{ReplyLayout, Is, Then, Has}
use Rattle.afp_replies.specs.Layouts as layouts
use Rattle.afp_replies.specs.Layouts.{optional, optional_text, volumes, volume, entries}
use Rattle.afp_replies.specs.Commands.{rows, shape_in, shape_of, reply_layout_of, denied, ended, reply_layout}
use Rattle.afp_replies.specs.Fitting.{FitsReply, FitsOptional, FitsText, FitsVolume, FitsList}
use Rattle.afp_replies.specs.Replies.{IsShown, Shows, canonical_reply, layout_for, volume_bytes, message_bytes}
use Rattle.afp_replies.specs.Requested.{FitsRequest, IsAsked, IsDenied, IsEnded, IsTold, list_shape}
use Rattle.afp_replies.specs.lemma.Writing.{CanWrite, FitsMessage}
use Rattle.afp_base.proofs.Numbers.{date_again, date_lt}
use Rattle.afp_replies.proofs.Again.{put_front, has_params, node_layout, node_within, with_more, entry_spelt, good_reply}
use Rattle.afp_replies.proofs.Steps.{volumes_none, volumes_more, entries_none, entries_more}

-- a request with this command, which asked these bits
abbrev asked : ℕ → ℕ → ℕ → ReplyKind
asked command bits dir_bits = record { command = command; bits = bits; dir_bits = dir_bits }

-- the commands that are used here
command_1 : shape_of 1 ≡ shapes.Start
unfolding shape_of shape_in rows
command_1 = refl

command_2 : shape_of 2 ≡ shapes.Empty
unfolding shape_of shape_in rows
command_2 = refl

command_6 : shape_of 6 ≡ shapes.Node
unfolding shape_of shape_in rows
command_6 = refl

command_9 : shape_of 9 ≡ shapes.NarrowList
unfolding shape_of shape_in rows
command_9 = refl

command_14 : shape_of 14 ≡ shapes.FileParams
unfolding shape_of shape_in rows
command_14 = refl

command_15 : shape_of 15 ≡ shapes.Status
unfolding shape_of shape_in rows
command_15 = refl

command_16 : shape_of 16 ≡ shapes.ServerParams
unfolding shape_of shape_in rows
command_16 = refl

command_17 : shape_of 17 ≡ shapes.VolumeParams
unfolding shape_of shape_in rows
command_17 = refl

command_21 : shape_of 21 ≡ shapes.MappedName
unfolding shape_of shape_in rows
command_21 = refl

command_22 : shape_of 22 ≡ shapes.MappedId
unfolding shape_of shape_in rows
command_22 = refl

command_26 : shape_of 26 ≡ shapes.Opened
unfolding shape_of shape_in rows
command_26 = refl

command_27 : shape_of 27 ≡ shapes.Data
unfolding shape_of shape_in rows
command_27 = refl

command_33 : shape_of 33 ≡ shapes.End
unfolding shape_of shape_in rows
command_33 = refl

command_34 : shape_of 34 ≡ shapes.FileDirParams
unfolding shape_of shape_in rows
command_34 = refl

command_37 : shape_of 37 ≡ shapes.UserInfo
unfolding shape_of shape_in rows
command_37 = refl

command_38 : shape_of 38 ≡ shapes.Message
unfolding shape_of shape_in rows
command_38 = refl

command_48 : shape_of 48 ≡ shapes.Desk
unfolding shape_of shape_in rows
command_48 = refl

command_52 : shape_of 52 ≡ shapes.IconInfo
unfolding shape_of shape_in rows
command_52 = refl

command_55 : shape_of 55 ≡ shapes.Appl
unfolding shape_of shape_in rows
command_55 = refl

command_58 : shape_of 58 ≡ shapes.Comment
unfolding shape_of shape_in rows
command_58 = refl

command_59 : shape_of 59 ≡ shapes.StartExt
unfolding shape_of shape_in rows
command_59 = refl

command_61 : shape_of 61 ≡ shapes.EndExt
unfolding shape_of shape_in rows
command_61 = refl

command_64 : shape_of 64 ≡ shapes.Token
unfolding shape_of shape_in rows
command_64 = refl

command_66 : shape_of 66 ≡ shapes.WideList
unfolding shape_of shape_in rows
command_66 = refl

-- ---- parts

shown_optional : (asked : Bool) (next : Option ℕ → ReplyLayout) (r : Reply) (x : Option ℕ) (more : List ℕ) → FitsOptional asked x → Has (next x) r more → Has (optional asked next) r (bytes.optional_bytes x ++ more)
unfolding optional
shown_optional true next r (Some x) more f h = put_front (Number 4) _ x (bytes.u32_bytes x) more (f, refl) h
shown_optional true next r None more f h = absurd f
shown_optional false next r (Some x) more f h = absurd f
shown_optional false next r None more f h = h

shown_text : (wide asked : Bool) (next : Option (List ℕ) → ReplyLayout) (r : Reply) (x : Option (List ℕ)) (more : List ℕ) → FitsText wide asked x → Has (next x) r more
    → Has (optional_text wide asked next) r (message_bytes wide x ++ more)
unfolding optional_text
shown_text wide true next r (Some x) more f h = put_front (Counted (width wide)) _ x (with_count (width wide) x) more (f, refl) h
shown_text wide true next r None more f h = absurd f
shown_text wide false next r (Some x) more f h = absurd f
shown_text wide false next r None more f h = h

shown_volumes : (all before : List VolumeEntry) (next : List VolumeEntry → ReplyLayout) (r : Reply) (more : List ℕ) → AllByRecursion FitsVolume all → Has (next (before ++ all)) r more
    → Has (volumes (length all) before next) r (concat (map volume_bytes all) ++ more)
shown_volumes [] before next r more f h = subst (λ (l : ReplyLayout). Has l r more) (ap next (append-nil before) ∙ sym (volumes_none before next)) h
shown_volumes (v ∷ all) before next r more f h =
    let back = shown_volumes all (before ++ (v ∷ [])) next r more f.1 (subst (λ (x : List VolumeEntry). Has (next x) r more) (sym (with_more before v all)) h) in
    let tail : List ℕ = concat (map volume_bytes all) in
    let bytes_are : bytes.u8_bytes v.flags ++ (with_count 1 v.name ++ (tail ++ more)) ≡ (volume_bytes v ++ tail) ++ more =
    sym (append_assoc (bytes.u8_bytes v.flags) (with_count 1 v.name) (tail ++ more)) ∙ sym (append_assoc (volume_bytes v) tail more) in
    subst (λ (l : ReplyLayout). Has l r ((volume_bytes v ++ tail) ++ more)) (sym (volumes_more (length all) before next))
    (subst (Has (volume (λ x. volumes (length all) (before ++ (x ∷ [])) next)) r) bytes_are
    (put_front (Number 1) _ v.flags (bytes.u8_bytes v.flags) _ (f.0.0, refl) (put_front (Counted 1) _ v.name (with_count 1 v.name) _ (f.0.1, refl) back)))

shown_entries : (wide : Bool) (fb db : ℕ) (all before : List ListEntry) (next : List ListEntry → ReplyLayout) (r : Reply) (more : List ℕ) → AllByRecursion (FitsEntry wide fb db) all
    → Has (next (before ++ all)) r more → Has (entries wide fb db (length all) before next) r (concat (map (entry_bytes wide fb db) all) ++ more)
shown_entries wide fb db [] before next r more f h = subst (λ (l : ReplyLayout). Has l r more) (ap next (append-nil before) ∙ sym (entries_none wide fb db before next)) h
shown_entries wide fb db (e ∷ all) before next r more f h =
    let back = shown_entries wide fb db all (before ++ (e ∷ [])) next r more f.1 (subst (λ (x : List ListEntry). Has (next x) r more) (sym (with_more before e all)) h) in
    let tail : List ℕ = concat (map (entry_bytes wide fb db) all) in
    let bytes_are : entry_bytes wide fb db e ++ (tail ++ more) ≡ (entry_bytes wide fb db e ++ tail) ++ more = sym (append_assoc (entry_bytes wide fb db e) tail more) in
    subst (λ (l : ReplyLayout). Has l r ((entry_bytes wide fb db e ++ tail) ++ more)) (sym (entries_more wide fb db (length all) before next))
    (subst (Has (Then (Entry wide fb db) (λ x. entries wide fb db (length all) (before ++ (x ∷ [])) next)) r) bytes_are
    (put_front (Entry wide fb db) _ e (entry_bytes wide fb db e) _ (entry_spelt wide fb db e f.0) back))

-- ---- replies

-- at the shape, and at the bits, that the request has
at_shape : (shape want : Shape) (kind : ReplyKind) (r : Reply) (b : List ℕ) → shape ≡ want → Has (reply_layout_of want kind) r b → Has (reply_layout_of shape kind) r b
at_shape shape want kind r b e h = subst (λ (s : Shape). Has (reply_layout_of s kind) r b) (sym e) h

at_bits : (layout : ℕ → ReplyLayout) (bits asked : ℕ) (r : Reply) (b : List ℕ) → bits ≡ asked → Has (layout bits) r b → Has (layout asked) r b
at_bits layout bits asked r b e h = subst (λ (x : ℕ). Has (layout x) r b) e h

has_list : (wide : Bool) (fb db : ℕ) (all : List ListEntry) → FitsList wide fb db all
    → Has (layouts.list wide fb db) (replies.List wide fb db all)
    (bytes.u16_bytes fb ++ (bytes.u16_bytes db ++ (bytes.u16_bytes (length all) ++ (concat (map (entry_bytes wide fb db) all) ++ []))))
has_list wide fb db all f =
    put_front (Asked _ fb) _ tt (bytes.u16_bytes fb) _ (f.file, refl) (put_front (Asked _ db) _ tt (bytes.u16_bytes db) _ (f.dir, refl)
    (put_front (Number 2) _ (length all) (bytes.u16_bytes (length all)) _ (f.few, refl)
    (shown_entries wide fb db all [] (λ rows. Is (replies.List wide fb db rows)) (replies.List wide fb db all) [] f.each (refl, refl))))

list_bytes : (wide : Bool) (fb db : ℕ) (all : List ListEntry)
    → bytes.u16_bytes fb ++ (bytes.u16_bytes db ++ (bytes.u16_bytes (length all) ++ (concat (map (entry_bytes wide fb db) all) ++ []))) ≡ canonical_reply (replies.List wide fb db all)
list_bytes wide fb db all = ap (λ (x : List ℕ). bytes.u16_bytes fb ++ (bytes.u16_bytes db ++ (bytes.u16_bytes (length all) ++ x))) (append-nil (concat (map (entry_bytes wide fb db) all)))

list_layout : (wide : Bool) (fb db : ℕ) (kind : ReplyKind) → fb ≡ kind.bits → db ≡ kind.dir_bits → layouts.list wide fb db ≡ reply_layout_of (list_shape wide) kind
list_layout true fb db kind e d = ap (λ (x : ℕ). layouts.list true x db) e ∙ ap (λ (x : ℕ). layouts.list true kind.bits x) d
list_layout false fb db kind e d = ap (λ (x : ℕ). layouts.list false x db) e ∙ ap (λ (x : ℕ). layouts.list false kind.bits x) d

has_list_of : (wide : Bool) (fb db : ℕ) (all : List ListEntry) (shape : Shape) (kind : ReplyKind) → FitsList wide fb db all → IsAsked shape kind (replies.List wide fb db all)
    → Has (reply_layout_of shape kind) (replies.List wide fb db all) (canonical_reply (replies.List wide fb db all))
has_list_of wide fb db all shape kind f is =
    at_shape shape (list_shape wide) kind _ _ is.0
    (subst (λ (l : ReplyLayout). Has l (replies.List wide fb db all) (canonical_reply (replies.List wide fb db all))) (list_layout wide fb db kind is.1 is.2)
    (subst (Has (layouts.list wide fb db) (replies.List wide fb db all)) (list_bytes wide fb db all) (has_list wide fb db all f)))

has_name : (wide : Bool) (name : List ℕ) → length name < 256 ^ width wide → Has (layouts.name wide) (replies.MappedName wide name) (with_count (width wide) name ++ [])
has_name wide name f = put_front (Counted (width wide)) _ name (with_count (width wide) name) [] (f, refl) (refl, refl)

has_block : (kind bits : ℕ) (v : Values) → IsWithin (mask_of kind) bits → IsAnswer kind bits v → Has (layouts.params kind bits) (replies.Params bits v) (bytes.u16_bytes bits ++ (params bits v ++ []))
has_block kind bits v w a = put_front (Asked (mask_of kind) bits) _ tt (bytes.u16_bytes bits) _ (w, refl) (has_params kind bits (λ x. replies.Params bits x) v a)

has_block_of : (bits : ℕ) (v : Values) (shape : Shape) (kind : ReplyKind) → FitsReply (replies.Params bits v) → IsAsked shape kind (replies.Params bits v)
    → Has (reply_layout_of shape kind) (replies.Params bits v) (canonical_reply (replies.Params bits v))
has_block_of bits (kinds.Volume v) shape kind f is =
    at_shape shape shapes.VolumeParams kind _ _ is.0 (at_bits (layouts.params 0) bits kind.bits _ _ is.1 (has_block 0 bits (kinds.Volume v) f.1.within f.1.answer))
has_block_of bits (kinds.File v) shape kind f is =
    at_shape shape shapes.FileParams kind _ _ is.0 (at_bits (layouts.params 1) bits kind.bits _ _ is.1 (has_block 1 bits (kinds.File v) f.1.within f.1.answer))
has_block_of bits (kinds.Dir v) shape kind f is = let le : 2 ≤ 1 = f.0 in absurd (omega arith)

has_server_params : (time : ℤ) (all : List VolumeEntry) → FitsReply (replies.ServerParams time all)
    → Has layouts.server_params (replies.ServerParams time all) (canonical_reply (replies.ServerParams time all))
has_server_params time all f =
    let t : ℕ = cast_unsigned w32 time in
    let back : cast_signed w32 t ≡ time = date_again time f.0 in
    let small : t < 256 ^ 4 = (let lt : t < 2 ^ 32 = date_lt time f.0 in omega arith) in
    subst (λ (x : List ℕ). Has layouts.server_params (replies.ServerParams time all) (bytes.u32_bytes t ++ (bytes.u8_bytes (length all) ++ x))) (append-nil (concat (map volume_bytes all)))
    (put_front (Number 4) _ t (bytes.u32_bytes t) _ (small, refl) (put_front (Number 1) _ (length all) (bytes.u8_bytes (length all)) _ (f.1, refl)
    (shown_volumes all [] (λ x. Is (replies.ServerParams (cast_signed w32 t) x)) (replies.ServerParams time all) [] f.2 (ap (λ z. replies.ServerParams z all) (sym back), refl))))

has_file_dir_params : (fb db : ℕ) (v : Values) → FitsReply (replies.FileDirParams fb db v)
    → Has (layouts.file_dir_params fb db) (replies.FileDirParams fb db v) (canonical_reply (replies.FileDirParams fb db v))
has_file_dir_params fb db v f =
    let dir : Bool = is_dir v in
    put_front (Asked _ fb) _ tt (bytes.u16_bytes fb) _ (f.0, refl) (put_front (Asked _ db) _ tt (bytes.u16_bytes db) _ (f.1, refl)
    (put_front Flag _ dir (flag_of dir ∷ []) _ refl (put_front Pad _ tt bytes.pad_byte _ refl
    (subst (λ (l : ReplyLayout). Has l (replies.FileDirParams fb db v) (params (bits_for dir fb db) v ++ [])) (sym (node_layout dir fb db))
    (has_params (kind_for dir) (bits_for dir fb db) (λ x. replies.FileDirParams fb db x) v f.2)))))

has_user_info : (bits : ℕ) (id group : Option ℕ) → FitsReply (replies.UserInfo bits id group)
    → Has (layouts.user_info bits) (replies.UserInfo bits id group) (canonical_reply (replies.UserInfo bits id group))
has_user_info bits id group f =
    put_front (Asked _ bits) _ tt (bytes.u16_bytes bits) _ (f.0, refl)
    (shown_optional (is_asked bits 0) (λ x. optional (is_asked bits 1) (λ y. Is (replies.UserInfo bits x y))) (replies.UserInfo bits id group) id _ f.1
    (shown_optional (is_asked bits 1) (λ y. Is (replies.UserInfo bits id y)) (replies.UserInfo bits id group) group [] f.2 (refl, refl)))

has_message : (kind bits : ℕ) (text : Option (List ℕ)) → FitsReply (replies.Message kind bits text)
    → Has (layouts.message bits) (replies.Message kind bits text) (canonical_reply (replies.Message kind bits text))
has_message kind bits text f =
    put_front (Number 2) _ kind (bytes.u16_bytes kind) _ (f.0, refl) (put_front (Asked _ bits) _ tt (bytes.u16_bytes bits) _ (f.1, refl)
    (shown_text (is_asked bits 1) (is_asked bits 0) (λ x. Is (replies.Message kind bits x)) (replies.Message kind bits text) text [] f.2 (refl, refl)))

has_opened : (bits : ℕ) (reference : ForkRef) (v : Values) → FitsReply (replies.Opened bits reference v)
    → Has (layouts.opened bits) (replies.Opened bits reference v) (canonical_reply (replies.Opened bits reference v))
has_opened bits reference v f =
    put_front (Asked _ bits) _ tt (bytes.u16_bytes bits) _ (f.1.within, refl) (put_front (Number 2) _ reference.0 (bytes.u16_bytes reference.0) _ (f.0, refl)
    (has_params 1 bits (λ x. replies.Opened bits (record { 0 = reference.0 }) x) v f.1.answer))

has_appl : (bits tag : ℕ) (v : Values) → FitsReply (replies.Appl bits tag v) → Has (layouts.appl bits) (replies.Appl bits tag v) (canonical_reply (replies.Appl bits tag v))
has_appl bits tag v f =
    put_front (Asked _ bits) _ tt (bytes.u16_bytes bits) _ (f.1.within, refl) (put_front (Number 4) _ tag (bytes.u32_bytes tag) _ (f.0, refl)
    (has_params 1 bits (λ x. replies.Appl bits tag x) v f.1.answer))

has_icon_info : (tag : ℕ) (kind : List ℕ) (icon_kind size : ℕ) → FitsReply (replies.IconInfo tag kind icon_kind size)
    → Has layouts.icon_info (replies.IconInfo tag kind icon_kind size) (canonical_reply (replies.IconInfo tag kind icon_kind size))
has_icon_info tag kind icon_kind size f =
    put_front (Number 4) _ tag (bytes.u32_bytes tag) _ (f.0, refl) (put_front (Raw 4) _ kind kind _ (f.1, refl) (put_front (Number 1) _ icon_kind (bytes.u8_bytes icon_kind) _ (f.2, refl)
    (put_front Pad _ tt bytes.pad_byte _ refl (put_front (Number 2) _ size (bytes.u16_bytes size) [] (f.3, refl) (refl, refl)))))

has_piece : (piece : List ℕ) (b : List ℕ) → b ≡ piece → Has layouts.piece (replies.Piece piece) b
has_piece piece b e = ap (λ (x : List ℕ). replies.Piece x) (sym e)

has_piece_of : (piece : List ℕ) (shape : Shape) (kind : ReplyKind) → IsAsked shape kind (replies.Piece piece)
    → Has (reply_layout_of shape kind) (replies.Piece piece) (canonical_reply (replies.Piece piece))
has_piece_of piece shape kind (inl e) = at_shape shape shapes.Data kind _ _ e (has_piece piece _ (append-nil piece))
has_piece_of piece shape kind (inr e) = at_shape shape shapes.Icon kind _ _ e (has_piece piece _ (append-nil piece))

-- what fits, and is asked for, is shown
has_fields : (r : Reply) (shape : Shape) (kind : ReplyKind) → FitsReply r → IsAsked shape kind r → Has (reply_layout_of shape kind) r (canonical_reply r)
has_fields replies.Empty shape kind f is = at_shape shape shapes.Empty kind _ _ is (refl, refl)
has_fields (replies.Start x) shape kind f is = at_shape shape shapes.Start kind _ _ is (put_front (Number 4) _ x (bytes.u32_bytes x) [] (f, refl) (refl, refl))
has_fields (replies.StartExt x) shape kind f is = at_shape shape shapes.StartExt kind _ _ is (put_front (Number 8) _ x (bytes.u64_bytes x) [] (f, refl) (refl, refl))
has_fields (replies.End x) shape kind f is = at_shape shape shapes.End kind _ _ is (put_front (Number 4) _ x (bytes.u32_bytes x) [] (f, refl) (refl, refl))
has_fields (replies.EndExt x) shape kind f is = at_shape shape shapes.EndExt kind _ _ is (put_front (Number 8) _ x (bytes.u64_bytes x) [] (f, refl) (refl, refl))
has_fields (replies.Node id) shape kind f is = at_shape shape shapes.Node kind _ _ is (put_front (Number 4) _ id.0 (bytes.u32_bytes id.0) [] (f, refl) (refl, refl))
has_fields (replies.List wide fb db all) shape kind f is = has_list_of wide fb db all shape kind f is
has_fields (replies.Params bits v) shape kind f is = has_block_of bits v shape kind f is
has_fields (replies.Status block) shape kind f is = at_shape shape shapes.Status kind _ _ is (ap (λ (x : List ℕ). replies.Status x) (sym (append-nil block)))
has_fields (replies.ServerParams time all) shape kind f is = at_shape shape shapes.ServerParams kind _ _ is (has_server_params time all f)
has_fields (replies.MappedName wide name) shape kind f is =
    at_shape shape shapes.MappedName kind _ _ is.0
    (subst (λ (o : Option Bool). Has (layouts.mapped o) (replies.MappedName wide name) (with_count (width wide) name ++ [])) (sym is.1) (has_name wide name f))
has_fields (replies.MappedId x) shape kind f is = at_shape shape shapes.MappedId kind _ _ is (put_front (Number 4) _ x (bytes.u32_bytes x) [] (f, refl) (refl, refl))
has_fields (replies.Opened bits reference v) shape kind f is =
    at_shape shape shapes.Opened kind _ _ is.0 (at_bits layouts.opened bits kind.bits _ _ is.1 (has_opened bits reference v f))
has_fields (replies.Piece piece) shape kind f is = has_piece_of piece shape kind is
has_fields (replies.FileDirParams fb db v) shape kind f is =
    at_shape shape shapes.FileDirParams kind _ _ is.0
    (at_bits (λ (x : ℕ). layouts.file_dir_params kind.bits x) db kind.dir_bits _ _ is.2
    (at_bits (λ (x : ℕ). layouts.file_dir_params x db) fb kind.bits _ _ is.1 (has_file_dir_params fb db v f)))
has_fields (replies.UserInfo bits id group) shape kind f is =
    at_shape shape shapes.UserInfo kind _ _ is.0 (at_bits layouts.user_info bits kind.bits _ _ is.1 (has_user_info bits id group f))
has_fields (replies.Message k bits text) shape kind f is =
    at_shape shape shapes.Message kind _ _ is.0 (at_bits layouts.message bits kind.bits _ _ is.1 (has_message k bits text f))
has_fields (replies.Desk x) shape kind f is = at_shape shape shapes.Desk kind _ _ is (put_front (Number 2) _ x (bytes.u16_bytes x) [] (f, refl) (refl, refl))
has_fields (replies.IconInfo tag k icon_kind size) shape kind f is = at_shape shape shapes.IconInfo kind _ _ is (has_icon_info tag k icon_kind size f)
has_fields (replies.Appl bits tag v) shape kind f is = at_shape shape shapes.Appl kind _ _ is.0 (at_bits layouts.appl bits kind.bits _ _ is.1 (has_appl bits tag v f))
has_fields (replies.Comment x) shape kind f is = at_shape shape shapes.Comment kind _ _ is (put_front (Counted 1) _ x (with_count 1 x) [] (f, refl) (refl, refl))
has_fields (replies.Token x) shape kind f is = at_shape shape shapes.Token kind _ _ is (put_front (Counted 4) _ x (with_count 4 x) [] (f, refl) (refl, refl))

-- ---- refusals

has_nothing : (r : Reply) → r ≡ replies.Empty → Has layouts.empty r (canonical_reply r)
has_nothing r e = subst (λ (s : Reply). Has layouts.empty s (canonical_reply s)) (sym e) (refl, refl)

has_denied : (bits : ℕ) (v : Values) → FitsReply (replies.Opened bits (record { 0 = 0 }) v)
    → Has (layouts.denied_params bits) (replies.Opened bits (record { 0 = 0 }) v) (canonical_reply (replies.Opened bits (record { 0 = 0 }) v))
has_denied bits v f =
    put_front (Asked _ bits) _ tt (bytes.u16_bytes bits) _ (f.1.within, refl) (put_front (Exactly 2 0) _ tt (bytes.u16_bytes 0) _ refl
    (has_params 1 bits (λ x. replies.Opened bits (record { 0 = 0 }) x) v f.1.answer))

has_denial : (r : Reply) (shape : Shape) (kind : ReplyKind) → FitsReply r → IsDenied shape kind r → Has (denied shape kind) r (canonical_reply r)
has_denial r shapes.Opened kind f is =
    let s : Reply = replies.Opened kind.bits (record { 0 = 0 }) is.0 in
    subst (λ (x : Reply). Has (layouts.denied_params kind.bits) x (canonical_reply x)) (sym is.1) (has_denied kind.bits is.0 (subst FitsReply is.1 f))
has_denial r shape kind f is = has_nothing r is

has_end : (r : Reply) (shape : Shape) → IsEnded shape r → Has (ended shape) r (canonical_reply r)
has_end r shapes.Data is = subst (λ (x : Reply). Has layouts.piece x (canonical_reply x)) (sym is.1) (has_piece is.0 _ (append-nil is.0))
has_end r shape is = has_nothing r is

has_told : (r : Reply) (shape : Shape) (code : Code) (kind : ReplyKind) → FitsReply r → IsTold shape code kind r → Has (reply_layout shape code kind) r (canonical_reply r)
has_told r shape codes.Ok kind f is = has_fields r shape kind f is
has_told r shape codes.DenyConflict kind f is = has_denial r shape kind f is
has_told r shape codes.EOFErr kind f is = has_end r shape is
has_told r shape code kind f is = has_nothing r is

pub what_fits_a_request : (r : Reply) (kind : ReplyKind) (code : Code) → FitsRequest kind code r → Shows r kind code (canonical_reply r)
unfolding layout_for
what_fits_a_request r kind code h = has_told r (shape_of kind.command) code kind h.fits h.told

-- ---- some request for each reply that fits

shown_by : (r : Reply) (kind : ReplyKind) → FitsReply r → IsAsked (shape_of kind.command) kind r → IsShown r
shown_by r kind f is = record { kind = kind; code = codes.Ok; bytes = canonical_reply r; shows = what_fits_a_request r kind codes.Ok (record { fits = f; told = is }) }

is_wide_3 : layouts.is_wide 3 ≡ Some true
unfolding layouts.is_wide
is_wide_3 = refl

is_wide_1 : layouts.is_wide 1 ≡ Some false
unfolding layouts.is_wide
is_wide_1 = refl

shown_list : (wide : Bool) (fb db : ℕ) (all : List ListEntry) → FitsList wide fb db all → IsShown (replies.List wide fb db all)
shown_list true fb db all f = shown_by (replies.List true fb db all) (asked 66 fb db) f (command_66, refl, refl)
shown_list false fb db all f = shown_by (replies.List false fb db all) (asked 9 fb db) f (command_9, refl, refl)

shown_name : (wide : Bool) (name : List ℕ) → length name < 256 ^ width wide → IsShown (replies.MappedName wide name)
shown_name true name f = shown_by (replies.MappedName true name) (asked 21 3 0) f (command_21, is_wide_3)
shown_name false name f = shown_by (replies.MappedName false name) (asked 21 1 0) f (command_21, is_wide_1)

shown_params : (bits : ℕ) (v : Values) → FitsReply (replies.Params bits v) → IsShown (replies.Params bits v)
shown_params bits (kinds.Volume v) f = shown_by (replies.Params bits (kinds.Volume v)) (asked 17 bits 0) f (command_17, refl)
shown_params bits (kinds.File v) f = shown_by (replies.Params bits (kinds.File v)) (asked 14 bits 0) f (command_14, refl)
shown_params bits (kinds.Dir v) f = let le : 2 ≤ 1 = f.0 in absurd (omega arith)

pub what_fits : (r : Reply) → FitsReply r → IsShown r
what_fits replies.Empty f = shown_by replies.Empty (asked 2 0 0) f command_2
what_fits (replies.Start x) f = shown_by (replies.Start x) (asked 1 0 0) f command_1
what_fits (replies.StartExt x) f = shown_by (replies.StartExt x) (asked 59 0 0) f command_59
what_fits (replies.End x) f = shown_by (replies.End x) (asked 33 0 0) f command_33
what_fits (replies.EndExt x) f = shown_by (replies.EndExt x) (asked 61 0 0) f command_61
what_fits (replies.Node id) f = shown_by (replies.Node id) (asked 6 0 0) f command_6
what_fits (replies.List wide fb db all) f = shown_list wide fb db all f
what_fits (replies.Params bits v) f = shown_params bits v f
what_fits (replies.Status block) f = shown_by (replies.Status block) (asked 15 0 0) f command_15
what_fits (replies.ServerParams time all) f = shown_by (replies.ServerParams time all) (asked 16 0 0) f command_16
what_fits (replies.MappedName wide name) f = shown_name wide name f
what_fits (replies.MappedId x) f = shown_by (replies.MappedId x) (asked 22 0 0) f command_22
what_fits (replies.Opened bits reference v) f = shown_by (replies.Opened bits reference v) (asked 26 bits 0) f (command_26, refl)
what_fits (replies.Piece piece) f = shown_by (replies.Piece piece) (asked 27 0 0) f (inl command_27)
what_fits (replies.FileDirParams fb db v) f = shown_by (replies.FileDirParams fb db v) (asked 34 fb db) f (command_34, refl, refl)
what_fits (replies.UserInfo bits id group) f = shown_by (replies.UserInfo bits id group) (asked 37 bits 0) f (command_37, refl)
what_fits (replies.Message kind bits text) f = shown_by (replies.Message kind bits text) (asked 38 bits 0) f (command_38, refl)
what_fits (replies.Desk x) f = shown_by (replies.Desk x) (asked 48 0 0) f command_48
what_fits (replies.IconInfo tag kind icon_kind size) f = shown_by (replies.IconInfo tag kind icon_kind size) (asked 52 0 0) f command_52
what_fits (replies.Appl bits tag v) f = shown_by (replies.Appl bits tag v) (asked 55 bits 0) f (command_55, refl)
what_fits (replies.Comment x) f = shown_by (replies.Comment x) (asked 58 0 0) f command_58
what_fits (replies.Token x) f = shown_by (replies.Token x) (asked 64 0 0) f command_64

-- ---- the other way, and for the writer

pub what_is_shown : (r : Reply) → IsShown r → FitsReply r
unfolding layout_for
what_is_shown r h = (good_reply (shape_of h.kind.command) h.code h.kind r h.bytes h.shows).fits

text_fits : (wide asked : Bool) (x : Option (List ℕ)) → FitsText wide asked x → FitsMessage wide x
text_fits wide true (Some x) f = f
text_fits wide true None f = tt
text_fits wide false (Some x) f = absurd f
text_fits wide false None f = tt

pub can_write : (r : Reply) → FitsReply r → CanWrite r
can_write (replies.List wide fb db all) f = f
can_write (replies.Params bits v) f = record { kind_is = refl; within = f.1.within; fits = f.1.answer.fits }
can_write (replies.ServerParams time all) f = (f.1, f.2)
can_write (replies.MappedName wide name) f = f
can_write (replies.Opened bits reference v) f = record { kind_is = f.1.answer.kind_is; within = f.1.within; fits = f.1.answer.fits }
can_write (replies.FileDirParams fb db v) f = record { kind_is = f.2.kind_is; within = node_within (is_dir v) fb db f.0 f.1; fits = f.2.fits }
can_write (replies.Message kind bits text) f = text_fits (is_asked bits 1) (is_asked bits 0) text f.2
can_write (replies.Appl bits tag v) f = record { kind_is = f.1.answer.kind_is; within = f.1.within; fits = f.1.answer.fits }
can_write (replies.Comment x) f = f
can_write (replies.Token x) f = f
can_write r f = tt
