-- Replies that are told: each fits in a frame, and has what its call asks for.
use Rattle.std.proofs.Common.{◌==◌, ◌≡◌, ◌∙◌, ap, sym, refl, subst, ℕ, suc, ◌+◌, ◌<◌, ◌≤◌, arith, Bool, true, ◌&&◌, ◌||◌, map, List, [], ◌∷◌, ◌++◌, length, Option, Some, None}
use Rattle.std.specs.Prelude.{Result, Ok, Err, is_some, nat_le}
use Rattle.std.proofs.lemmas.Bool.{le-leb, leb-false, ltb-true, or_parts}
use Rattle.std.proofs.lemmas.List.{length-append}
use Rattle.afp_base.specs.Limits.{payload_limit}
use Rattle.afp_base.specs.Choice.{first_holding}
use Rattle.afp_base.specs.declared.code.Code.{Code}
use Rattle.afp_base.specs.declared.code.Code.TheVariants.{AccessDenied, BitmapErr, DiskFull, ObjectExists}
use Rattle.afp_base.specs.declared.ids.NodeId.{NodeId}
use Rattle.afp_bitmap.specs.Params.{params}
use Rattle.afp_bitmap.specs.Bits.{dir_mask, file_mask, is_outside}
use Rattle.afp_bitmap.specs.declared.params.Values.{Values}
use Rattle.afp_bitmap.specs.declared.volume.VolumeValues.{VolumeValues}
use Rattle.afp_bitmap.specs.declared.params.Values.TheVariants.{Volume}
use Rattle.afp_names.specs.Name.{name_key}
use Rattle.afp_names.specs.Path.{PathValue}
use Rattle.afp_replies.specs.Bytes.{u16_bytes}
use Rattle.afp_replies.specs.Entry.{IsNode, bits_for, is_dir, kind_for, node_params}
use Rattle.afp_replies.specs.Fitting.{FitsReply}
use Rattle.afp_replies.specs.Replies.{canonical_reply}
use Rattle.afp_replies.specs.declared.list.ListEntry.{ListEntry}
use Rattle.afp_replies.specs.declared.reply.Reply.TheVariants as replies
use Rattle.afp_replies.specs.declared.reply.Reply.TheVariants.{Empty, FileDirParams, Node, Params}
use Rattle.afp_calls_grammar.specs.declared.grammar.call.Call.{Call}
use Rattle.afp_serial.proofs.ListShown.{list-is-shown}
use Rattle.afp_serial.proofs.OnVolumeRows.{Asks, IsToldTo}
use Rattle.afp_serial.proofs.ParmsShown.{node-is-shown, volume-is-shown}
use Rattle.afp_serial.proofs.ParamsSize.{params-size, two-parts}
use Rattle.afp_serial.proofs.VolumeStates.{IsServed}
use Rattle.afp_serial.specs.CreateDir.{node_id}
use Rattle.afp_serial.specs.Enumerate.{enumerate_reply}
use Rattle.afp_serial.specs.GetFileDirParms.{get_file_dir_parms_reply}
use Rattle.afp_serial.specs.ListReply.{list_entry, list_reply}
use Rattle.afp_serial.specs.OpenDir.{open_dir_reply}
use Rattle.volume_spec.proofs.Refusals.{none-first, none-holds}
use Rattle.volume_spec.proofs.ToldValues.{dir-told-id, found-told}
use Rattle.volume_spec.proofs.TypedEdits.{directory-long, typed-parts}
use Rattle.volume_spec.specs.Shared.{Opened, behind, done_at, has_no_ids, has_no_room}
use Rattle.volume_spec.specs.CreateDir.{create_dir_id, create_dir_refusal}
use Rattle.volume_spec.specs.Enumerate.{ListAsked, entries, enumerate_refusal}
use Rattle.volume_spec.specs.GetFileDirParms.{get_file_dir_parms_refusal, get_file_dir_parms_values}
use Rattle.volume_spec.specs.GetVolParms.{get_vol_parms_refusal, volume_values}
use Rattle.volume_spec.specs.OpenDir.{open_dir_id, open_dir_refusal}
use Rattle.volume_spec.specs.SoundVolume.{last_next_id, most_nodes}
use Rattle.volume_spec.specs.VolumeState.{VolumeState}
use Rattle.volume_spec.specs.Walk.{Place, child_by_key, found, new_place}
use Rattle.volume_spec.specs.Rights.{lacks, write_right}

-- nothing

pub empty-told : (call : Call) → Asks call Empty → IsToldTo call Empty
empty-told call asks = record { short = refl; fits = record { fits = tt; told = asks } }

-- the id of a node

pub node-told-to : (call : Call) (id : ℕ) → ((n : NodeId) → Asks call (Node n)) → id < 4294967296 → IsToldTo call (Node (node_id id))
node-told-to call id asks small = record {
  short = let h : length (canonical_reply (Node (node_id id))) ≡ 4 = refl in le-leb (length (canonical_reply (Node (node_id id)))) payload_limit (omega (arith, h));
  fits = record { fits = omega (arith, small); told = asks (node_id id) };
}

-- a directory that was found

pub dir-told-to : (call : Call) (v : VolumeState) (user volume dir : ℕ) (path : PathValue) → ((n : NodeId) → Asks call (Node n)) → IsServed v volume → open_dir_refusal v user dir path ≡ None → IsToldTo call (open_dir_reply (open_dir_id v user dir path))
dir-told-to call v user volume dir path asks served passes =
    let told = dir-told-id v user dir path passes in
    subst (λ o. IsToldTo call (open_dir_reply o)) (sym told.1)
    (node-told-to call told.0 asks (ltb-true told.0 4294967296 (directory-long v.rows told.0 told.2 (typed-parts v served.typed).rows)))

-- a directory that is made

next-small : (v : VolumeState) (user dir : ℕ) (path : PathValue) → create_dir_refusal v user dir path ≡ None → v.next_id < 4294967296
unfolding create_dir_refusal has_no_room has_no_ids
next-small v user dir path passes = by (new_place v.rows user dir path) passes
  where
    rows : Place → List (Bool × Code)
    rows place = (lacks v.rows user write_right place.dir, AccessDenied) ∷ (is_some (child_by_key v.rows place.dir (name_key place.name)), ObjectExists) ∷ (nat_le most_nodes (length v.rows) || nat_le last_next_id v.next_id, DiskFull) ∷ []

    by : (r : Result Place Code) → behind r (λ place. first_holding (rows place)) ≡ None → v.next_id < 4294967296
    by (Ok place) h =
        let none = none-holds (rows place) h in
        let room = or_parts (nat_le most_nodes (length v.rows)) (nat_le last_next_id v.next_id) none.1.1.0 in
        let left = leb-false last_next_id v.next_id room.1 in
        omega (arith, left)
    by (Err code) h = absurd (cc)

pub made-told-to : (call : Call) (v : VolumeState) (user dir : ℕ) (path : PathValue) → ((n : NodeId) → Asks call (Node n)) → create_dir_refusal v user dir path ≡ None → IsToldTo call (Node (node_id (create_dir_id v)))
unfolding create_dir_id
made-told-to call v user dir path asks passes = node-told-to call v.next_id asks (next-small v user dir path passes)

-- a volume

pub volume-told-to : (call : Call) (v : VolumeState) (id bits : ℕ) → ((values : VolumeValues) → Asks call (Params bits (Volume values))) → IsServed v id → get_vol_parms_refusal bits ≡ None
    → IsToldTo call (Params bits (Volume (volume_values v id bits)))
volume-told-to call v id bits asks served passes =
    let values : Values = Volume (volume_values v id bits) in
    let shown : FitsReply (Params bits values) = volume-is-shown v id bits served.small passes served.sound served.typed in
    let size = params-size 0 bits values shown.1.answer in
    let whole : length (canonical_reply (Params bits values)) ≡ 2 + length (params bits values) = two-parts (u16_bytes bits) (params bits values) in
    record {
      short = le-leb (length (canonical_reply (Params bits values))) payload_limit (omega (arith, size, whole));
      fits = record { fits = shown; told = asks (volume_values v id bits) };
    }

-- a file or directory

node-size : (file_bits dir_bits : ℕ) (values : Values) → IsNode file_bits dir_bits values → length (canonical_reply (FileDirParams file_bits dir_bits values)) ≤ payload_limit
node-size file_bits dir_bits values h =
    let block : List ℕ = node_params file_bits dir_bits values in
    let size : length block ≤ 65888 = params-size (kind_for (is_dir values)) (bits_for (is_dir values) file_bits dir_bits) values h in
    let end = length-append block [] in
    let whole : length (canonical_reply (FileDirParams file_bits dir_bits values)) ≡ suc (suc (suc (suc (suc (suc (length (block ++ []))))))) = refl in
    omega (arith, size, end, whole)

pub node-values-told-to : (call : Call) (v : VolumeState) (user : ℕ) (opens : List Opened) (volume file_bits dir_bits dir : ℕ) (path : PathValue) → ((values : Values) → Asks call (FileDirParams file_bits dir_bits values)) → IsServed v volume → get_file_dir_parms_refusal v user file_bits dir_bits dir path ≡ None → IsToldTo call (get_file_dir_parms_reply file_bits dir_bits (get_file_dir_parms_values v user opens file_bits dir_bits dir path))
node-values-told-to call v user opens volume file_bits dir_bits dir path asks served passes =
    by (get_file_dir_parms_values v user opens file_bits dir_bits dir path) refl (found-told v user opens file_bits dir_bits dir path passes served.sound)
  where
    by : (o : Option Values) → get_file_dir_parms_values v user opens file_bits dir_bits dir path ≡ o → is_some o ≡ true → IsToldTo call (get_file_dir_parms_reply file_bits dir_bits o)
    by None told some = absurd (cc)
    by (Some values) told some =
        let shown : FitsReply (FileDirParams file_bits dir_bits values) = node-is-shown v user opens file_bits dir_bits dir path values passes told served.sound served.typed in
        record {
          short = le-leb (length (canonical_reply (FileDirParams file_bits dir_bits values))) payload_limit (node-size file_bits dir_bits values shown.2);
          fits = record { fits = shown; told = asks values };
        }

-- a list

list-told : (call : Call) (v : VolumeState) (opens : List Opened) (asked : ListAsked) (id : ℕ) → ((rows : List ListEntry) → Asks call (replies.List asked.wide asked.file_bits asked.dir_bits rows)) → FitsReply (list_reply v.rows opens asked (entries v.rows opens asked id)) → length (canonical_reply (list_reply v.rows opens asked (entries v.rows opens asked id))) ≤ payload_limit
    → IsToldTo call (list_reply v.rows opens asked (entries v.rows opens asked id))
unfolding list_reply
list-told call v opens asked id asks fits short = record {
  short = le-leb _ payload_limit short;
  fits = record { fits = fits; told = asks (map (list_entry v.rows opens asked) (entries v.rows opens asked id)) };
}

-- what finds nothing is refused
behind-found : {A : Type 0} (r : Result A Code) (refused : A → Option Code) (code : Code) → r ≡ Err code → behind r refused ≡ None → ⊥
behind-found r refused code is h = let e : Some code ≡ None = sym (ap (λ x. behind x refused) is) ∙ h in cc

list-found : (v : VolumeState) (opens : List Opened) (asked : ListAsked) (dir : ℕ) (path : PathValue) (code : Code) → found v.rows asked.user dir path ≡ Err code → enumerate_refusal v opens asked dir path ≡ None → ⊥
unfolding enumerate_refusal
list-found v opens asked dir path code is passes =
    behind-found (found v.rows asked.user dir path) _ code is
    (none-first ((is_outside file_mask asked.file_bits, BitmapErr) ∷ (is_outside dir_mask asked.dir_bits, BitmapErr) ∷ ((asked.file_bits == 0) && (asked.dir_bits == 0), BitmapErr) ∷ []) _ passes).1

pub list-told-to : (call : Call) (v : VolumeState) (opens : List Opened) (asked : ListAsked) (volume dir : ℕ) (path : PathValue) → ((rows : List ListEntry) → Asks call (replies.List asked.wide asked.file_bits asked.dir_bits rows)) → asked.count < 65536 → IsServed v volume → enumerate_refusal v opens asked dir path ≡ None → IsToldTo call (enumerate_reply v opens asked dir path)
unfolding enumerate_reply
list-told-to call v opens asked volume dir path asks few served passes = by (found v.rows asked.user dir path) refl
  where
    by : (r : Result ℕ Code) → found v.rows asked.user dir path ≡ r → IsToldTo call (done_at r Empty (λ id. list_reply v.rows opens asked (entries v.rows opens asked id)))
    by (Ok id) is =
        let shown = list-is-shown v opens asked dir id path few passes is served.sound served.typed in
        list-told call v opens asked id asks shown.0 (let k = shown.1 in omega (arith, k))
    by (Err code) is = absurd (list-found v opens asked dir path code is passes)
