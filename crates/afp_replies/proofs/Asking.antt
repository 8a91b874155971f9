-- What some bytes show to a request has the fields that the request asks for.
use Rattle.std.proofs.Common.{◌≡◌, ℕ, Bool, true, false, not, List, [], Option, Some, None, inl, inr, refl, sym, subst, arith, w32}
use Rattle.std.specs.Int.{cast_signed}
use Rattle.afp_base.specs.declared.code.Code.{Code}
use Rattle.afp_base.specs.declared.code.Code.TheVariants as codes
use Rattle.afp_bitmap.specs.declared.params.Values.{Values}
use Rattle.afp_bitmap.specs.declared.params.Values.TheVariants as kinds
use Rattle.afp_bitmap.specs.Bits.{is_asked}
use Rattle.afp_bitmap.specs.Table.{kind_of}
use Rattle.afp_replies.specs.declared.commands.Shape.{Shape}
use Rattle.afp_replies.specs.declared.commands.Shape.TheVariants as shapes
use Rattle.afp_replies.specs.declared.list.ListEntry.{ListEntry}
use Rattle.afp_replies.specs.declared.reply.Reply.{Reply}
use Rattle.afp_replies.specs.declared.reply.Reply.TheVariants as replies
use Rattle.afp_replies.specs.declared.reply.ReplyKind.{ReplyKind}
use Rattle.afp_replies.specs.declared.volumes.VolumeEntry.{VolumeEntry}
use Rattle.afp_replies.specs.Layout.{ReplyLayout, Is, Has}
use Rattle.afp_replies.specs.Layouts as layouts
use Rattle.afp_replies.specs.Layouts.{optional, mapped}
use Rattle.afp_replies.specs.Commands.{shape_of, reply_layout_of, denied, ended, reply_layout}
use Rattle.afp_replies.specs.Replies.{Shows, layout_for}
use Rattle.afp_replies.specs.Requested.{FitsRequest, IsAsked, IsDenied, IsEnded, IsTold, is_data, is_opened_shape, list_shape, tells_nothing, values_shape}
use Rattle.afp_replies.proofs.Again.{holds_optional, holds_text, row_of_volumes, row_of_entries, node_layout, good_reply}

asked_list : (wide : Bool) (kind : ReplyKind) (r : Reply) (b : List ℕ) → Has (layouts.list wide kind.bits kind.dir_bits) r b → IsAsked (list_shape wide) kind r
asked_list wide kind r b h =
    let count = h.behind.behind in
    let next : List ListEntry → ReplyLayout = λ rows. Is (replies.List wide kind.bits kind.dir_bits rows) in
    let row = row_of_entries wide kind.bits kind.dir_bits count.value [] next r count.rest count.behind in
    subst (IsAsked (list_shape wide) kind) (sym row.behind.0) (refl, refl, refl)

asked_volume : (kind : ReplyKind) (v : Values) → kind_of v ≡ 0 → shapes.VolumeParams ≡ values_shape v
asked_volume kind (kinds.Volume v) e = refl
asked_volume kind (kinds.File v) e = absurd (omega arith)
asked_volume kind (kinds.Dir v) e = absurd (omega arith)

asked_file : (kind : ReplyKind) (v : Values) → kind_of v ≡ 1 → shapes.FileParams ≡ values_shape v
asked_file kind (kinds.Volume v) e = absurd (omega arith)
asked_file kind (kinds.File v) e = refl
asked_file kind (kinds.Dir v) e = absurd (omega arith)

asked_server_params : (kind : ReplyKind) (r : Reply) (b : List ℕ) → Has layouts.server_params r b → IsAsked shapes.ServerParams kind r
asked_server_params kind r b h =
    let count = h.behind in
    let next : List VolumeEntry → ReplyLayout = λ all. Is (replies.ServerParams (cast_signed w32 h.value) all) in
    let row = row_of_volumes count.value [] next r count.rest count.behind in
    subst (IsAsked shapes.ServerParams kind) (sym row.behind.0) refl

asked_name : (o : Option Bool) (kind : ReplyKind) (r : Reply) (b : List ℕ) → layouts.is_wide kind.bits ≡ o → Has (mapped o) r b → IsAsked shapes.MappedName kind r
asked_name None kind r b e h = absurd h
asked_name (Some wide) kind r b e h = subst (IsAsked shapes.MappedName kind) (sym h.behind.0) (refl, e)

asked_file_dir_params : (kind : ReplyKind) (r : Reply) (b : List ℕ) → Has (layouts.file_dir_params kind.bits kind.dir_bits) r b → IsAsked shapes.FileDirParams kind r
asked_file_dir_params kind r b h =
    let flag = h.behind.behind in
    let gap = flag.behind in
    let p = subst (λ (l : ReplyLayout). Has l r gap.rest) (node_layout flag.value kind.bits kind.dir_bits) gap.behind in
    subst (IsAsked shapes.FileDirParams kind) (sym p.3) (refl, refl, refl)

asked_user_info : (kind : ReplyKind) (r : Reply) (b : List ℕ) → Has (layouts.user_info kind.bits) r b → IsAsked shapes.UserInfo kind r
asked_user_info kind r b h =
    let bits : ℕ = kind.bits in
    let id = holds_optional (is_asked bits 0) (λ id. optional (is_asked bits 1) (λ group. Is (replies.UserInfo bits id group))) r h.rest h.behind in
    let group = holds_optional (is_asked bits 1) (λ group. Is (replies.UserInfo bits id.value group)) r id.rest id.behind in
    subst (IsAsked shapes.UserInfo kind) (sym group.behind.0) (refl, refl)

asked_message : (kind : ReplyKind) (r : Reply) (b : List ℕ) → Has (layouts.message kind.bits) r b → IsAsked shapes.Message kind r
asked_message kind r b h =
    let bits : ℕ = kind.bits in
    let gap = h.behind in
    let next : Option (List ℕ) → ReplyLayout = λ text. Is (replies.Message h.value bits text) in
    let text = holds_text (is_asked bits 1) (is_asked bits 0) next r gap.rest gap.behind in
    subst (IsAsked shapes.Message kind) (sym text.behind.0) (refl, refl)

asked : (shape : Shape) (kind : ReplyKind) (r : Reply) (b : List ℕ) → Has (reply_layout_of shape kind) r b → IsAsked shape kind r
asked shapes.Unlisted kind r b h = absurd h
asked shapes.Empty kind r b h = subst (IsAsked shapes.Empty kind) (sym h.0) refl
asked shapes.Start kind r b h = subst (IsAsked shapes.Start kind) (sym h.behind.0) refl
asked shapes.StartExt kind r b h = subst (IsAsked shapes.StartExt kind) (sym h.behind.0) refl
asked shapes.End kind r b h = subst (IsAsked shapes.End kind) (sym h.behind.0) refl
asked shapes.EndExt kind r b h = subst (IsAsked shapes.EndExt kind) (sym h.behind.0) refl
asked shapes.Node kind r b h = subst (IsAsked shapes.Node kind) (sym h.behind.0) refl
asked shapes.NarrowList kind r b h = asked_list false kind r b h
asked shapes.WideList kind r b h = asked_list true kind r b h
asked shapes.FileParams kind r b h = subst (IsAsked shapes.FileParams kind) (sym h.behind.3) (asked_file kind h.behind.0 h.behind.1.kind_is, refl)
asked shapes.VolumeParams kind r b h = subst (IsAsked shapes.VolumeParams kind) (sym h.behind.3) (asked_volume kind h.behind.0 h.behind.1.kind_is, refl)
asked shapes.FileDirParams kind r b h = asked_file_dir_params kind r b h
asked shapes.Status kind r b h = subst (IsAsked shapes.Status kind) (sym h) refl
asked shapes.ServerParams kind r b h = asked_server_params kind r b h
asked shapes.MappedName kind r b h = asked_name (layouts.is_wide kind.bits) kind r b refl h
asked shapes.MappedId kind r b h = subst (IsAsked shapes.MappedId kind) (sym h.behind.0) refl
asked shapes.Opened kind r b h = subst (IsAsked shapes.Opened kind) (sym h.behind.behind.3) (refl, refl)
asked shapes.Data kind r b h = subst (IsAsked shapes.Data kind) (sym h) (inl refl)
asked shapes.Icon kind r b h = subst (IsAsked shapes.Icon kind) (sym h) (inr refl)
asked shapes.IconInfo kind r b h = subst (IsAsked shapes.IconInfo kind) (sym h.behind.behind.behind.behind.behind.0) refl
asked shapes.UserInfo kind r b h = asked_user_info kind r b h
asked shapes.Message kind r b h = asked_message kind r b h
asked shapes.Desk kind r b h = subst (IsAsked shapes.Desk kind) (sym h.behind.0) refl
asked shapes.Appl kind r b h = subst (IsAsked shapes.Appl kind) (sym h.behind.behind.3) (refl, refl)
asked shapes.Comment kind r b h = subst (IsAsked shapes.Comment kind) (sym h.behind.0) refl
asked shapes.Token kind r b h = subst (IsAsked shapes.Token kind) (sym h.behind.0) refl

asked_denial : (shape : Shape) (kind : ReplyKind) (r : Reply) (b : List ℕ) → Has (denied shape kind) r b → IsDenied shape kind r
asked_denial shapes.Opened kind r b h = (h.behind.behind.0, h.behind.behind.3)
asked_denial shape kind r b h = h.0

asked_end : (shape : Shape) (r : Reply) (b : List ℕ) → Has (ended shape) r b → IsEnded shape r
asked_end shapes.Data r b h = (b, h)
asked_end shape r b h = h.0

told : (shape : Shape) (code : Code) (kind : ReplyKind) (r : Reply) (b : List ℕ) → Has (reply_layout shape code kind) r b → IsTold shape code kind r
told shape codes.Ok kind r b h = asked shape kind r b h
told shape codes.DenyConflict kind r b h = asked_denial shape kind r b h
told shape codes.EOFErr kind r b h = asked_end shape r b h
told shape code kind r b h = h.0

pub what_is_shown_to_a_request : (r : Reply) (kind : ReplyKind) (code : Code) (b : List ℕ) → Shows r kind code b → FitsRequest kind code r
unfolding layout_for
what_is_shown_to_a_request r kind code b h = record { fits = (good_reply (shape_of kind.command) code kind r b h).fits; told = told (shape_of kind.command) code kind r b h }

-- ---- refusals that tell nothing

nothing_denied : (shape : Shape) (kind : ReplyKind) → not (is_opened_shape shape) ≡ true → IsDenied shape kind replies.Empty
nothing_denied shapes.Opened kind e = absurd (cc)
nothing_denied shape kind e = refl

nothing_ended : (shape : Shape) → not (is_data shape) ≡ true → IsEnded shape replies.Empty
nothing_ended shapes.Data e = absurd (cc)
nothing_ended shape e = refl

nothing_told : (shape : Shape) (code : Code) (kind : ReplyKind) → tells_nothing shape code ≡ true → IsTold shape code kind replies.Empty
nothing_told shape codes.Ok kind e = absurd (cc)
nothing_told shape codes.DenyConflict kind e = nothing_denied shape kind e
nothing_told shape codes.EOFErr kind e = nothing_ended shape e
nothing_told shape code kind e = refl

pub nothing_fits : (kind : ReplyKind) (code : Code) → tells_nothing (shape_of kind.command) code ≡ true → FitsRequest kind code replies.Empty
nothing_fits kind code e = record { fits = tt; told = nothing_told (shape_of kind.command) code kind e }
