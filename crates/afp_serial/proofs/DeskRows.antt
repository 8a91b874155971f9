-- What the calls owe that tell of file ids and of the desktop database.
use Rattle.std.proofs.Common.{◌==◌, ◌≡◌, ◌∙◌, ap, sym, refl, subst, ℕ, suc, ◌-◌, ◌<◌, ◌≤◌, arith, inr, Bool, true, false, not, ◌&&◌, cond, List, [], ◌∷◌, ◌++◌, length, take, Option, Some, None}
use Rattle.std.specs.Prelude.{is_none, max, nat_le, nat_lt, option_map, slice_get}
use Rattle.std.specs.List.{concat, list_all}
use Rattle.std.proofs.lemmas.Bool.{and_parts, cond_both, eqb-true, le-leb, leb-true, ltb-true, not-false}
use Rattle.std.proofs.lemmas.List.{append-nil, length-append, length-take}
use Rattle.afp_base.proofs.ListFacts.{all-filter, all-place, any-weaker, find-all}
use Rattle.afp_base.specs.Choice.{first_holding}
use Rattle.afp_base.specs.Limits.{payload_limit}
use Rattle.afp_base.specs.declared.code.Code.TheVariants.{AccessDenied, BadIDErr, BitmapErr, IDNotFound, ItemNotFound, ObjectTypeErr, ParamErr}
use Rattle.afp_base.specs.declared.ids.NodeId.{NodeId}
use Rattle.afp_base.specs.declared.ids.VolumeId.{VolumeId}
use Rattle.afp_bitmap.specs.Bits.{file_mask, is_outside}
use Rattle.afp_bitmap.specs.Params.{params}
use Rattle.afp_bitmap.specs.declared.file.FileValues.{FileValues}
use Rattle.afp_bitmap.specs.declared.params.Values.{Values}
use Rattle.afp_bitmap.specs.declared.params.Values.TheVariants.{File as FileParams}
use Rattle.afp_names.specs.Path.{PathValue}
use Rattle.afp_replies.specs.Bytes.{pad_byte, u16_bytes, u8_bytes}
use Rattle.afp_replies.specs.Commands.{rows, shape_in, shape_of}
use Rattle.afp_replies.specs.Replies.{canonical_reply}
use Rattle.afp_replies.specs.declared.reply.Reply.TheVariants.{Appl, Comment, Desk, Empty, IconInfo, Params, Piece}
use Rattle.afp_calls_grammar.specs.declared.grammar.call.Call.{Call}
use Rattle.afp_calls_grammar.specs.declared.grammar.call.Call.TheVariants as calls
use Rattle.afp_serial.proofs.ForkRows.{file-answer, file-params-told}
use Rattle.afp_serial.proofs.ListShown.{within}
use Rattle.afp_serial.proofs.OnVolumeRows.{Asks, IsToldTo, tells-sound}
use Rattle.afp_serial.proofs.ParamsSize.{params-size}
use Rattle.afp_serial.proofs.SoundRow.{IsSoundRow}
use Rattle.afp_serial.proofs.ToldReplies.{empty-told}
use Rattle.afp_serial.proofs.VolumeCodes.{get-appl-refuses, get-comment-refuses, get-icon-info-refuses, get-icon-refuses, resolve-id-refuses}
use Rattle.afp_serial.proofs.VolumeStates.{IsServed}
use Rattle.afp_serial.specs.Appls.{appl_reply, get_appl_reply, get_appl_row}
use Rattle.afp_serial.specs.Comments.{get_comment_reply, get_comment_row}
use Rattle.afp_serial.specs.FileIds.{resolve_id_reply, resolve_id_row}
use Rattle.afp_serial.specs.Icons.{get_icon_info_reply, get_icon_info_row, get_icon_reply, get_icon_row}
use Rattle.afp_serial.specs.OnVolume.{opened_on}
use Rattle.afp_serial.specs.OpenDT.{close_dt_row, open_dt_row}
use Rattle.afp_serial.specs.World.{user_of}
use Rattle.volume_spec.proofs.Formed.{formed-parts}
use Rattle.volume_spec.proofs.Refusals.{none-holds}
use Rattle.volume_spec.proofs.SeenRows.{file-found}
use Rattle.volume_spec.proofs.Trees.{tree-parts}
use Rattle.volume_spec.proofs.TypedEdits.{typed-parts}
use Rattle.volume_spec.proofs.Walks.{row-there}
use Rattle.volume_spec.specs.Appls.{get_appl_mapping, get_appl_refusal, get_appl_values}
use Rattle.volume_spec.specs.Comments.{get_comment_refusal, get_comment_text}
use Rattle.volume_spec.specs.Desktop.{appls_of, comment_at, icons_of, nth_appl, nth_from_one, nth_icon}
use Rattle.volume_spec.specs.FileIds.{resolve_id_refusal, resolve_id_values}
use Rattle.volume_spec.specs.Icons.{get_icon_bits, get_icon_info_icon, get_icon_info_refusal, get_icon_refusal, icon_under_parts}
use Rattle.volume_spec.specs.NodeValues.{file_values}
use Rattle.volume_spec.specs.OpenFork.{file_of, fork_values}
use Rattle.volume_spec.specs.Rights.{read_right}
use Rattle.volume_spec.specs.Shared.{Opened, behind, done_at, lacks_above}
use Rattle.volume_spec.specs.SoundVolume.{IsSoundVolume, has_file, has_node, has_noted_nodes, icon_key, is_comment, is_icon, longest_comment, longest_icon}
use Rattle.volume_spec.specs.TypedVolume.{are_bytes, is_byte, is_long, is_typed_appl, is_typed_icon}
use Rattle.volume_spec.specs.VolumeState.{Appl as Mapping, Comment as Note, Icon, Row as File, VolumeState, first_id}
use Rattle.volume_spec.specs.Walk.{found, row_at}
use Rattle.std.specs.Prelude.{Result, Ok, Err, bytes_eq}
use Rattle.afp_base.specs.declared.code.Code.{Code}

-- what is told of a file

pub record ToldFile (v : VolumeState) (opens : List Opened) (bits id : ℕ) : Type 0 where
  pub file : File
  pub found : row_at v.rows id ≡ Some file
  pub kind : file.dir ≡ false
  pub told : option_map (fork_values opens bits) (file_of (row_at v.rows id)) ≡ Some (fork_values opens bits file)

file-told : (v : VolumeState) (opens : List Opened) (bits id : ℕ) → has_file v.rows id ≡ true → IsSoundVolume v → ToldFile v opens bits id
file-told v opens bits id there sound =
    let row = row-there v.rows id (any-weaker (λ (r : File). r.id == id && not r.dir) (λ (r : File). r.id == id) v.rows (λ r both. (and_parts (r.id == id) (not r.dir) both).0) there) in
    let kind : row.0.dir ≡ false = file-found v.rows id row.0 (tree-parts v sound.tree).apart row.1 there in
    record {
      file = row.0;
      found = row.1;
      kind = kind;
      told = ap (λ o. option_map (fork_values opens bits) (file_of o)) row.1 ∙ ap (λ b. option_map (fork_values opens bits) (cond b None (Some row.0))) kind;
    }

-- FPResolveID

resolve-told : (call : Call) (v : VolumeState) (user : ℕ) (opens : List Opened) (volume id bits : ℕ) → ((values : FileValues) → Asks call (Params bits (FileParams values))) → IsServed v volume → resolve_id_refusal v user id bits ≡ None
    → IsToldTo call (resolve_id_reply bits (resolve_id_values v opens id bits))
unfolding resolve_id_refusal resolve_id_values
resolve-told call v user opens volume id bits asks served passes =
    let none = none-holds ((is_outside file_mask bits, BitmapErr) ∷ (nat_lt id first_id, BadIDErr) ∷ (not (has_node v.rows id), IDNotFound) ∷ (not (has_file v.rows id), ObjectTypeErr) ∷ (lacks_above v.rows user read_right id, AccessDenied) ∷ []) passes in
    let t : ToldFile v opens bits id = file-told v opens bits id (not-false (has_file v.rows id) none.1.1.1.0) served.sound in
    subst (λ o. IsToldTo call (resolve_id_reply bits o)) (sym t.told)
    (file-params-told call bits (file_values opens bits t.file) (asks (file_values opens bits t.file)) (file-answer v opens bits id t.file t.found t.kind served.sound served.typed) none.0)

resolve-id-asks : (volume : VolumeId) (id : NodeId) (bits : ℕ) (values : FileValues) → Asks (calls.ResolveID volume id bits) (Params bits (FileParams values))
unfolding shape_of shape_in rows
resolve-id-asks volume id bits values = (refl, refl)

pub resolve-id-sound : (volume : VolumeId) (id : NodeId) (bits : ℕ) → IsSoundRow (calls.ResolveID volume id bits) (resolve_id_row volume.0 id.0 bits)
resolve-id-sound volume id bits =
    tells-sound (calls.ResolveID volume id bits) volume.0 _ _ (λ w s v. resolve-id-refuses v (user_of s) id.0 bits)
    (λ w s v lawful served passes. resolve-told (calls.ResolveID volume id bits) v (user_of s) (opened_on w volume.0) volume.0 id.0 bits (resolve-id-asks volume id bits) served passes)

-- FPOpenDT and FPCloseDT

open-dt-asks : (volume : VolumeId) (dt : ℕ) → Asks (calls.OpenDT volume) (Desk dt)
unfolding shape_of shape_in rows
open-dt-asks volume dt = refl

desk-told : (call : Call) (dt : ℕ) → Asks call (Desk dt) → dt < 65536 → IsToldTo call (Desk dt)
desk-told call dt asks small = record {
  short = let h : length (canonical_reply (Desk dt)) ≡ 2 = refl in le-leb (length (canonical_reply (Desk dt))) payload_limit (omega (arith, h));
  fits = record { fits = omega (arith, small); told = asks };
}

pub open-dt-sound : (volume : VolumeId) → IsSoundRow (calls.OpenDT volume) (open_dt_row volume.0)
open-dt-sound volume =
    tells-sound (calls.OpenDT volume) volume.0 _ _ (λ w s v. refl) (λ w s v lawful served passes. desk-told (calls.OpenDT volume) volume.0 (open-dt-asks volume volume.0) served.small)

close-dt-asks : (dt : ℕ) → Asks (calls.CloseDT dt) Empty
unfolding shape_of shape_in rows
close-dt-asks dt = refl

pub close-dt-sound : (dt : ℕ) → IsSoundRow (calls.CloseDT dt) (close_dt_row dt)
close-dt-sound dt = tells-sound (calls.CloseDT dt) dt _ _ (λ w s v. refl) (λ w s v lawful served passes. empty-told (calls.CloseDT dt) (close-dt-asks dt))

-- FPGetIcon

-- an element that was counted from 1
nth-all : {A : Type 0} (p : A → Bool) (list : List A) (n : ℕ) (x : A) → list_all p list ≡ true → nth_from_one list n ≡ Some x → p x ≡ true
nth-all p list n x h is = cond_both (n == 0) None (slice_get list (n - 1)) (λ o. o ≡ Some x → p x ≡ true) (λ none k. absurd (cc)) (λ some k. all-place p list (n - 1) x h k) is

icon-short : (icon : Icon) → is_icon icon ≡ true → length icon.bits ≤ 65535
icon-short icon h = leb-true (length icon.bits) longest_icon (and_parts (length icon.kind == 4) (nat_le (length icon.bits) longest_icon) (and_parts (length icon.creator == 4) ((length icon.kind == 4) && nat_le (length icon.bits) longest_icon) h).1).1

bits-told : (call : Call) (bits : List ℕ) → Asks call (Piece bits) → length bits ≤ payload_limit → IsToldTo call (Piece bits)
bits-told call bits asks short = record {
  short = le-leb (length (canonical_reply (Piece bits))) payload_limit (subst (λ (l : List ℕ). length l ≤ payload_limit) (sym (append-nil bits)) short);
  fits = record { fits = tt; told = asks };
}

icon-told : (call : Call) (v : VolumeState) (volume : ℕ) (creator kind : List ℕ) (icon_kind count : ℕ) → ((bits : List ℕ) → Asks call (Piece bits)) → IsServed v volume → get_icon_refusal v creator kind icon_kind ≡ None
    → IsToldTo call (get_icon_reply (get_icon_bits v creator kind icon_kind count))
unfolding get_icon_refusal get_icon_bits
icon-told call v volume creator kind icon_kind count asks served passes =
    let none = none-holds ((is_none (icon_under_parts creator kind icon_kind v.icons), ItemNotFound) ∷ []) passes in
    by (icon_under_parts creator kind icon_kind v.icons) refl none.0
  where
    by : (o : Option Icon) → icon_under_parts creator kind icon_kind v.icons ≡ o → is_none o ≡ false → IsToldTo call (get_icon_reply (option_map (λ (icon : Icon). take count icon.bits) o))
    by None is h = absurd (cc)
    by (Some icon) is h =
        let good : is_icon icon ≡ true = find-all (λ (x : Icon). bytes_eq (icon_key x) (creator ++ kind ++ icon_kind ∷ [])) is_icon v.icons icon is (formed-parts v served.sound.formed).icons in
        let few : length icon.bits ≤ 65535 = icon-short icon good in
        let cut = length-take count icon.bits in
        bits-told call (take count icon.bits) (asks (take count icon.bits)) (omega (arith, few, cut))

get-icon-asks : (dt : ℕ) (creator kind : List ℕ) (icon_kind count : ℕ) (bits : List ℕ) → Asks (calls.GetIcon dt creator kind icon_kind count) (Piece bits)
unfolding shape_of shape_in rows
get-icon-asks dt creator kind icon_kind count bits = inr refl

pub get-icon-sound : (dt : ℕ) (creator kind : List ℕ) (icon_kind count : ℕ) → IsSoundRow (calls.GetIcon dt creator kind icon_kind count) (get_icon_row dt creator kind icon_kind count)
get-icon-sound dt creator kind icon_kind count =
    tells-sound (calls.GetIcon dt creator kind icon_kind count) dt _ _ (λ w s v. get-icon-refuses v creator kind icon_kind)
    (λ w s v lawful served passes. icon-told (calls.GetIcon dt creator kind icon_kind count) v dt creator kind icon_kind count (get-icon-asks dt creator kind icon_kind count) served passes)

-- FPGetIconInfo

info-told : (call : Call) (icon : Icon) → Asks call (IconInfo icon.tag icon.kind icon.icon_kind (length icon.bits)) → is_icon icon ≡ true → is_typed_icon icon ≡ true → IsToldTo call (get_icon_info_reply (Some icon))
info-told call icon asks good typed =
    let kind : length icon.kind ≡ 4 = eqb-true (length icon.kind) 4 (and_parts (length icon.kind == 4) (nat_le (length icon.bits) longest_icon) (and_parts (length icon.creator == 4) ((length icon.kind == 4) && nat_le (length icon.bits) longest_icon) good).1).0 in
    let few : length icon.bits ≤ 65535 = icon-short icon good in
    let b = and_parts (are_bytes icon.creator) _ typed in
    let c = and_parts (are_bytes icon.kind) _ b.1 in
    let d = and_parts (is_byte icon.icon_kind) _ c.1 in
    let e = and_parts (is_long icon.tag) (are_bytes icon.bits) d.1 in
    let icon_kind : icon.icon_kind < 256 = ltb-true icon.icon_kind 256 d.0 in
    let tag : icon.tag < 4294967296 = ltb-true icon.tag 4294967296 e.0 in
    let rest : List ℕ = concat (u8_bytes icon.icon_kind ∷ pad_byte ∷ u16_bytes (length icon.bits) ∷ []) in
    let whole : length (canonical_reply (IconInfo icon.tag icon.kind icon.icon_kind (length icon.bits))) ≡ suc (suc (suc (suc (length (icon.kind ++ rest))))) = refl in
    let parts = length-append icon.kind rest in
    let behind : length rest ≡ 4 = refl in
    record {
      short = le-leb (length (canonical_reply (IconInfo icon.tag icon.kind icon.icon_kind (length icon.bits)))) payload_limit (omega (arith, whole, parts, behind, kind));
      fits = record { fits = (omega (arith, tag), kind, omega (arith, icon_kind), omega (arith, few)); told = asks };
    }

icon-info-told : (call : Call) (v : VolumeState) (volume : ℕ) (creator : List ℕ) (index : ℕ) → ((tag : ℕ) (kind : List ℕ) (icon_kind size : ℕ) → Asks call (IconInfo tag kind icon_kind size)) → IsServed v volume
    → get_icon_info_refusal v creator index ≡ None → IsToldTo call (get_icon_info_reply (get_icon_info_icon v creator index))
unfolding get_icon_info_refusal get_icon_info_icon
icon-info-told call v volume creator index asks served passes =
    let none = none-holds ((index == 0, ParamErr) ∷ (is_none (nth_icon creator index v.icons), ItemNotFound) ∷ []) passes in
    by (nth_icon creator index v.icons) refl none.1.0
  where
    by : (o : Option Icon) → nth_icon creator index v.icons ≡ o → is_none o ≡ false → IsToldTo call (get_icon_info_reply o)
    by None is h = absurd (cc)
    by (Some icon) is h =
        info-told call icon (asks icon.tag icon.kind icon.icon_kind (length icon.bits))
        (nth-all is_icon (icons_of creator v.icons) index icon (all-filter is_icon (λ (x : Icon). bytes_eq x.creator creator) v.icons (formed-parts v served.sound.formed).icons) is)
        (nth-all is_typed_icon (icons_of creator v.icons) index icon (all-filter is_typed_icon (λ (x : Icon). bytes_eq x.creator creator) v.icons (typed-parts v served.typed).icons) is)

get-icon-info-asks : (dt : ℕ) (creator : List ℕ) (index tag : ℕ) (kind : List ℕ) (icon_kind size : ℕ) → Asks (calls.GetIconInfo dt creator index) (IconInfo tag kind icon_kind size)
unfolding shape_of shape_in rows
get-icon-info-asks dt creator index tag kind icon_kind size = refl

pub get-icon-info-sound : (dt : ℕ) (creator : List ℕ) (index : ℕ) → IsSoundRow (calls.GetIconInfo dt creator index) (get_icon_info_row dt creator index)
get-icon-info-sound dt creator index =
    tells-sound (calls.GetIconInfo dt creator index) dt _ _ (λ w s v. get-icon-info-refuses v creator index)
    (λ w s v lawful served passes. icon-info-told (calls.GetIconInfo dt creator index) v dt creator index (get-icon-info-asks dt creator index) served passes)

-- FPGetAPPL

noted-files : (v : VolumeState) → IsSoundVolume v → list_all (λ (appl : Mapping). has_file v.rows appl.node) v.appls ≡ true
unfolding has_noted_nodes
noted-files v sound = (and_parts (list_all (λ (note : Note). has_node v.rows note.node) v.comments) (list_all (λ (appl : Mapping). has_file v.rows appl.node) v.appls) sound.notes).1

file-appl-told : (call : Call) (v : VolumeState) (opens : List Opened) (volume bits : ℕ) (appl : Mapping) → ((values : FileValues) → Asks call (Appl bits appl.tag (FileParams values))) → IsServed v volume → is_outside file_mask bits ≡ false
    → has_file v.rows appl.node ≡ true → is_typed_appl appl ≡ true → IsToldTo call (get_appl_reply bits v opens (Some appl))
unfolding get_appl_values
file-appl-told call v opens volume bits appl asks served inside there typed =
    let t : ToldFile v opens bits appl.node = file-told v opens bits appl.node there served.sound in
    let values : Values = FileParams (file_values opens bits t.file) in
    let answer = file-answer v opens bits appl.node t.file t.found t.kind served.sound served.typed in
    let size = params-size 1 bits values answer in
    let end = length-append (params bits values) [] in
    let whole : length (canonical_reply (Appl bits appl.tag values)) ≡ suc (suc (suc (suc (suc (suc (length (params bits values ++ []))))))) = refl in
    let tag : appl.tag < 4294967296 = ltb-true appl.tag 4294967296 (and_parts (is_long appl.node) (is_long appl.tag) (and_parts (are_bytes appl.creator) _ typed).1).1 in
    let told : IsToldTo call (Appl bits appl.tag values) = record {
      short = le-leb (length (canonical_reply (Appl bits appl.tag values))) payload_limit (omega (arith, size, end, whole));
      fits = record { fits = (omega (arith, tag), record { within = within file_mask bits inside; answer = answer }); told = asks (file_values opens bits t.file) };
    } in
    subst (λ o. IsToldTo call (appl_reply bits appl.tag o)) (sym t.told) told

appl-told : (call : Call) (v : VolumeState) (opens : List Opened) (volume : ℕ) (creator : List ℕ) (index bits : ℕ) → ((tag : ℕ) (values : FileValues) → Asks call (Appl bits tag (FileParams values))) → IsServed v volume
    → get_appl_refusal v creator index bits ≡ None → IsToldTo call (get_appl_reply bits v opens (get_appl_mapping v creator index))
unfolding get_appl_refusal get_appl_mapping
appl-told call v opens volume creator index bits asks served passes =
    let none = none-holds ((is_outside file_mask bits, BitmapErr) ∷ (is_none (nth_appl creator (max 1 index) v.appls), ItemNotFound) ∷ []) passes in
    by (nth_appl creator (max 1 index) v.appls) refl none.0 none.1.0
  where
    by : (o : Option Mapping) → nth_appl creator (max 1 index) v.appls ≡ o → is_outside file_mask bits ≡ false → is_none o ≡ false → IsToldTo call (get_appl_reply bits v opens o)
    by None is inside h = absurd (cc)
    by (Some appl) is inside h =
        file-appl-told call v opens volume bits appl (asks appl.tag) served inside
        (nth-all (λ (x : Mapping). has_file v.rows x.node) (appls_of creator v.appls) (max 1 index) appl (all-filter (λ (x : Mapping). has_file v.rows x.node) (λ (x : Mapping). bytes_eq x.creator creator) v.appls (noted-files v served.sound)) is)
        (nth-all is_typed_appl (appls_of creator v.appls) (max 1 index) appl (all-filter is_typed_appl (λ (x : Mapping). bytes_eq x.creator creator) v.appls (typed-parts v served.typed).appls) is)

get-appl-asks : (dt : ℕ) (creator : List ℕ) (index bits tag : ℕ) (values : FileValues) → Asks (calls.GetAPPL dt creator index bits) (Appl bits tag (FileParams values))
unfolding shape_of shape_in rows
get-appl-asks dt creator index bits tag values = (refl, refl)

pub get-appl-sound : (dt : ℕ) (creator : List ℕ) (index bits : ℕ) → IsSoundRow (calls.GetAPPL dt creator index bits) (get_appl_row dt creator index bits)
get-appl-sound dt creator index bits =
    tells-sound (calls.GetAPPL dt creator index bits) dt _ _ (λ w s v. get-appl-refuses v creator index bits)
    (λ w s v lawful served passes. appl-told (calls.GetAPPL dt creator index bits) v (opened_on w dt) dt creator index bits (get-appl-asks dt creator index bits) served passes)

-- FPGetComment

note-told : (call : Call) (text : List ℕ) → Asks call (Comment text) → length text ≤ 199 → IsToldTo call (Comment text)
note-told call text asks few =
    let end = length-append text [] in
    let whole : length (canonical_reply (Comment text)) ≡ suc (length (text ++ [])) = refl in
    record {
      short = le-leb (length (canonical_reply (Comment text))) payload_limit (omega (arith, end, whole, few));
      fits = record { fits = omega (arith, few); told = asks };
    }

comment-told : (call : Call) (v : VolumeState) (volume user dir : ℕ) (path : PathValue) → ((text : List ℕ) → Asks call (Comment text)) → IsServed v volume → get_comment_refusal v user dir path ≡ None → IsToldTo call (get_comment_reply (get_comment_text v user dir path))
unfolding get_comment_refusal get_comment_text
comment-told call v volume user dir path asks served passes = by (found v.rows user dir path) passes
  where
    of-note : (id : ℕ) (o : Option Note) → comment_at id v.comments ≡ o → is_none o ≡ false → IsToldTo call (get_comment_reply (option_map (λ (note : Note). note.text) o))
    of-note id None is h = absurd (cc)
    of-note id (Some note) is h =
        let good : is_comment note ≡ true = find-all (λ (x : Note). x.node == id) is_comment v.comments note is (formed-parts v served.sound.formed).comments in
        note-told call note.text (asks note.text) (leb-true (length note.text) longest_comment (and_parts (nat_le 1 (length note.text)) (nat_le (length note.text) longest_comment) good).1)

    by : (r : Result ℕ Code) → behind r (λ id. first_holding ((is_none (comment_at id v.comments), ItemNotFound) ∷ [])) ≡ None → IsToldTo call (get_comment_reply (done_at r None (λ id. option_map (λ (note : Note). note.text) (comment_at id v.comments))))
    by (Ok id) h = of-note id (comment_at id v.comments) refl (none-holds ((is_none (comment_at id v.comments), ItemNotFound) ∷ []) h).0
    by (Err code) h = absurd (cc)

get-comment-asks : (dt : ℕ) (dir : NodeId) (path : PathValue) (text : List ℕ) → Asks (calls.GetComment dt dir path) (Comment text)
unfolding shape_of shape_in rows
get-comment-asks dt dir path text = refl

pub get-comment-sound : (dt : ℕ) (dir : NodeId) (path : PathValue) → IsSoundRow (calls.GetComment dt dir path) (get_comment_row dt dir.0 path)
get-comment-sound dt dir path =
    tells-sound (calls.GetComment dt dir path) dt _ _ (λ w s v. get-comment-refuses v (user_of s) dir.0 path)
    (λ w s v lawful served passes. comment-told (calls.GetComment dt dir path) v dt (user_of s) dir.0 path (get-comment-asks dt dir path) served passes)
