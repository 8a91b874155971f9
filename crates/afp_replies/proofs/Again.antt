-- What some bytes show fits, and what is written of it is shown again.
use Rattle.std.proofs.Common.{◌≡◌, ℕ, zero, suc, ◌^◌, ◌<◌, ◌≤◌, lit<, lit≤, Bool, true, false, List, [], ◌∷◌, ◌++◌, length, map, replicate, Option, Some, None, refl, sym, ap, ◌∙◌, subst, arith, append_assoc, w32}
use Rattle.std.proofs.lemmas.List.{append-nil, length-replicate}
use Rattle.std.specs.List.{concat, AllByRecursion}
use Rattle.std.specs.Int.{cast_signed, cast_unsigned}
use Rattle.afp_base.specs.declared.code.Code.{Code}
use Rattle.afp_base.specs.declared.code.Code.TheVariants as codes
use Rattle.afp_bitmap.specs.declared.params.Values.{Values}
use Rattle.afp_bitmap.specs.Bits.{IsWithin, mask_of, is_asked}
use Rattle.afp_bitmap.specs.Params.{params, IsAnswer}
use Rattle.afp_replies.specs.declared.commands.Shape.{Shape}
use Rattle.afp_replies.specs.declared.commands.Shape.TheVariants as shapes
use Rattle.afp_replies.specs.declared.list.ListEntry.{ListEntry}
use Rattle.afp_replies.specs.declared.reply.Reply.{Reply}
use Rattle.afp_replies.specs.declared.reply.Reply.TheVariants as replies
use Rattle.afp_replies.specs.declared.reply.ReplyKind.{ReplyKind}
use Rattle.afp_replies.specs.declared.volumes.VolumeEntry.{VolumeEntry}
use Rattle.afp_replies.specs.Bytes as bytes
use Rattle.afp_replies.specs.Bytes.{width, with_count, flag_of}
use Rattle.afp_replies.specs.Entry.{is_dir, bits_for, kind_for, pad_count, entry_bytes, FitsEntry}
use Rattle.afp_replies.specs.Words.{ReplyWord, Number, Exactly, Asked, Raw, Pad, Counted, Flag, Entry, ReplyValue, SpellsWord}
use Rattle.afp_replies.specs.Layout.{ReplyLayout, Is, Then, Params, BeginsField, Has}
use Rattle.afp_replies.specs.Layouts as layouts
use Rattle.afp_replies.specs.Layouts.{optional, optional_text, volumes, volume, entries, node_params_layout, mapped}
use Rattle.afp_replies.specs.Commands.{reply_layout_of, denied, ended, reply_layout}
use Rattle.afp_replies.specs.Replies.{canonical_reply, volume_bytes, message_bytes}
use Rattle.afp_replies.specs.Fitting.{FitsReply, FitsValues, FitsOptional, FitsText, FitsVolume}
use Rattle.afp_base.proofs.Numbers.{date_back, date_fits}
use Rattle.afp_replies.proofs.Entries.{dir_is}
use Rattle.afp_replies.proofs.Steps.{volumes_none, volumes_more, entries_none, entries_more}

-- a reply that has this layout fits, and its bytes have the layout
pub record Good (l : ReplyLayout) (r : Reply) : Type 0 where
  pub fits : FitsReply r
  pub again : Has l r (canonical_reply r)

-- a field and what follows it
pub put_front : (w : ReplyWord) (P : ReplyValue w → List ℕ → List ℕ → Type 0) (x : ReplyValue w) (first rest : List ℕ) → SpellsWord w x first → P x first rest → BeginsField w P (first ++ rest)
put_front w P x first rest s p = record { value = x; first = first; rest = rest; spelt = s; split = refl; behind = p }

good_empty : (r : Reply) (b : List ℕ) → Has layouts.empty r b → Good layouts.empty r
good_empty r b h = subst (Good layouts.empty) (sym h.0) (record { fits = tt; again = (refl, refl) })

good_start : (r : Reply) (b : List ℕ) → Has layouts.start r b → Good layouts.start r
good_start r b h =
    subst (Good layouts.start) (sym h.behind.0) (record { fits = h.spelt.0; again = put_front (Number 4) _ h.value (bytes.u32_bytes h.value) [] (h.spelt.0, refl) (refl, refl) })

good_start_ext : (r : Reply) (b : List ℕ) → Has layouts.start_ext r b → Good layouts.start_ext r
good_start_ext r b h =
    subst (Good layouts.start_ext) (sym h.behind.0) (record { fits = h.spelt.0; again = put_front (Number 8) _ h.value (bytes.u64_bytes h.value) [] (h.spelt.0, refl) (refl, refl) })

good_end : (r : Reply) (b : List ℕ) → Has layouts.end r b → Good layouts.end r
good_end r b h =
    subst (Good layouts.end) (sym h.behind.0) (record { fits = h.spelt.0; again = put_front (Number 4) _ h.value (bytes.u32_bytes h.value) [] (h.spelt.0, refl) (refl, refl) })

good_end_ext : (r : Reply) (b : List ℕ) → Has layouts.end_ext r b → Good layouts.end_ext r
good_end_ext r b h =
    subst (Good layouts.end_ext) (sym h.behind.0) (record { fits = h.spelt.0; again = put_front (Number 8) _ h.value (bytes.u64_bytes h.value) [] (h.spelt.0, refl) (refl, refl) })

good_node : (r : Reply) (b : List ℕ) → Has layouts.node r b → Good layouts.node r
good_node r b h =
    subst (Good layouts.node) (sym h.behind.0) (record { fits = h.spelt.0; again = put_front (Number 4) _ h.value (bytes.u32_bytes h.value) [] (h.spelt.0, refl) (refl, refl) })

good_desk : (r : Reply) (b : List ℕ) → Has layouts.desk r b → Good layouts.desk r
good_desk r b h =
    subst (Good layouts.desk) (sym h.behind.0) (record { fits = h.spelt.0; again = put_front (Number 2) _ h.value (bytes.u16_bytes h.value) [] (h.spelt.0, refl) (refl, refl) })

good_mapped_id : (r : Reply) (b : List ℕ) → Has layouts.mapped_id r b → Good layouts.mapped_id r
good_mapped_id r b h =
    subst (Good layouts.mapped_id) (sym h.behind.0) (record { fits = h.spelt.0; again = put_front (Number 4) _ h.value (bytes.u32_bytes h.value) [] (h.spelt.0, refl) (refl, refl) })

good_piece : (r : Reply) (b : List ℕ) → Has layouts.piece r b → Good layouts.piece r
good_piece r b h = subst (Good layouts.piece) (sym h) (record { fits = tt; again = ap (λ (x : List ℕ). replies.Piece x) (sym (append-nil b)) })

good_status : (r : Reply) (b : List ℕ) → Has layouts.status r b → Good layouts.status r
good_status r b h = subst (Good layouts.status) (sym h) (record { fits = tt; again = ap (λ (x : List ℕ). replies.Status x) (sym (append-nil b)) })

good_token : (r : Reply) (b : List ℕ) → Has layouts.token r b → Good layouts.token r
good_token r b h =
    subst (Good layouts.token) (sym h.behind.0) (record { fits = h.spelt.0; again = put_front (Counted 4) _ h.value (with_count 4 h.value) [] (h.spelt.0, refl) (refl, refl) })

good_comment : (r : Reply) (b : List ℕ) → Has layouts.comment r b → Good layouts.comment r
good_comment r b h =
    subst (Good layouts.comment) (sym h.behind.0) (record { fits = h.spelt.0; again = put_front (Counted 1) _ h.value (with_count 1 h.value) [] (h.spelt.0, refl) (refl, refl) })

good_mapped : (o : Option Bool) (r : Reply) (b : List ℕ) → Has (mapped o) r b → Good (mapped o) r
good_mapped None r b h = absurd h
good_mapped (Some wide) r b h =
    subst (Good (mapped (Some wide))) (sym h.behind.0)
    (record { fits = h.spelt.0; again = put_front (Counted (width wide)) _ h.value (with_count (width wide) h.value) [] (h.spelt.0, refl) (refl, refl) })

good_icon_info : (r : Reply) (b : List ℕ) → Has layouts.icon_info r b → Good layouts.icon_info r
good_icon_info r b h =
    let kind = h.behind in
    let icon_kind = kind.behind in
    let gap = icon_kind.behind in
    let size = gap.behind in
    subst (Good layouts.icon_info) (sym size.behind.0) (record {
      fits = (h.spelt.0, kind.spelt.0, icon_kind.spelt.0, size.spelt.0);
      again = put_front (Number 4) _ h.value (bytes.u32_bytes h.value) _ (h.spelt.0, refl)
          (put_front (Raw 4) _ kind.value kind.value _ (kind.spelt.0, refl)
          (put_front (Number 1) _ icon_kind.value (bytes.u8_bytes icon_kind.value) _ (icon_kind.spelt.0, refl)
          (put_front Pad _ gap.value bytes.pad_byte _ refl
          (put_front (Number 2) _ size.value (bytes.u16_bytes size.value) [] (size.spelt.0, refl) (refl, refl)))));
    })

-- a part of a layout holds a value, and holds its own bytes again
pub record Holds {X : Type 0} (part : (X → ReplyLayout) → ReplyLayout) (bytes_of : X → List ℕ) (Fits : X → Type 0) (next : X → ReplyLayout) (r : Reply) : Type 0 where
  pub value : X
  pub fits : Fits value
  pub rest : List ℕ
  pub behind : Has (next value) r rest
  pub again : (more : List ℕ) → Has (next value) r more → Has (part next) r (bytes_of value ++ more)

pub holds_optional : (asked : Bool) (next : Option ℕ → ReplyLayout) (r : Reply) (b : List ℕ) → Has (optional asked next) r b → Holds (optional asked) bytes.optional_bytes (FitsOptional asked) next r
unfolding optional
holds_optional true next r b h = record {
  value = Some h.value;
  fits = h.spelt.0;
  rest = h.rest;
  behind = h.behind;
  again = λ more k. put_front (Number 4) _ h.value (bytes.u32_bytes h.value) more (h.spelt.0, refl) k;
}
holds_optional false next r b h = record { value = None; fits = tt; rest = b; behind = h; again = λ more k. k }

pub holds_text : (wide asked : Bool) (next : Option (List ℕ) → ReplyLayout) (r : Reply) (b : List ℕ) → Has (optional_text wide asked next) r b
    → Holds (optional_text wide asked) (message_bytes wide) (FitsText wide asked) next r
unfolding optional_text
holds_text wide true next r b h = record {
  value = Some h.value;
  fits = h.spelt.0;
  rest = h.rest;
  behind = h.behind;
  again = λ more k. put_front (Counted (width wide)) _ h.value (with_count (width wide) h.value) more (h.spelt.0, refl) k;
}
holds_text wide false next r b h = record { value = None; fits = tt; rest = b; behind = h; again = λ more k. k }

good_user_info : (bits : ℕ) (r : Reply) (b : List ℕ) → Has (layouts.user_info bits) r b → Good (layouts.user_info bits) r
good_user_info bits r b h =
    let id = holds_optional (is_asked bits 0) (λ id. optional (is_asked bits 1) (λ group. Is (replies.UserInfo bits id group))) r h.rest h.behind in
    let group = holds_optional (is_asked bits 1) (λ group. Is (replies.UserInfo bits id.value group)) r id.rest id.behind in
    let P : Reply → Type 0 = λ s. s ≡ replies.UserInfo bits id.value group.value → Has (layouts.user_info bits) s (canonical_reply (replies.UserInfo bits id.value group.value)) in
    let back : P r = λ e.
    put_front (Asked _ bits) _ tt (bytes.u16_bytes bits) _ (h.spelt.0, refl)
    (id.again _ (group.again [] (e, refl))) in
    subst (Good (layouts.user_info bits)) (sym group.behind.0) (record { fits = (h.spelt.0, id.fits, group.fits); again = subst P group.behind.0 back refl })

good_message : (bits : ℕ) (r : Reply) (b : List ℕ) → Has (layouts.message bits) r b → Good (layouts.message bits) r
good_message bits r b h =
    let gap = h.behind in
    let next : Option (List ℕ) → ReplyLayout = λ text. Is (replies.Message h.value bits text) in
    let text = holds_text (is_asked bits 1) (is_asked bits 0) next r gap.rest gap.behind in
    let P : Reply → Type 0 = λ s. s ≡ replies.Message h.value bits text.value → Has (layouts.message bits) s (canonical_reply (replies.Message h.value bits text.value)) in
    let back : P r = λ e.
    put_front (Number 2) _ h.value (bytes.u16_bytes h.value) _ (h.spelt.0, refl)
    (put_front (Asked _ bits) _ tt (bytes.u16_bytes bits) _ (gap.spelt.0, refl) (text.again [] (e, refl))) in
    subst (Good (layouts.message bits)) (sym text.behind.0) (record { fits = (h.spelt.0, gap.spelt.0, text.fits); again = subst P text.behind.0 back refl })

-- ---- volumes and entries

-- so many of a list behind others
pub record TakesList {X : Type 0} (part : List X → (List X → ReplyLayout) → ReplyLayout) (bytes_of : X → List ℕ) (Fits : X → Type 0) (count : ℕ) (before : List X) (next : List X → ReplyLayout) (r : Reply) : Type 0 where
  pub all : List X
  pub size : length all ≡ count
  pub fit : AllByRecursion Fits all
  pub rest : List ℕ
  pub behind : Has (next (before ++ all)) r rest
  pub again : (more : List ℕ) → Has (next (before ++ all)) r more → Has (part before next) r (concat (map bytes_of all) ++ more)

pub with_more : {X : Type 0} (before : List X) (x : X) (all : List X) → (before ++ (x ∷ [])) ++ all ≡ before ++ (x ∷ all)
with_more before x all = append_assoc before (x ∷ []) all

row_none : {X : Type 0} (part : List X → (List X → ReplyLayout) → ReplyLayout) (bytes_of : X → List ℕ) (Fits : X → Type 0) (before : List X) (next : List X → ReplyLayout) (r : Reply) (b : List ℕ)
    → part before next ≡ next before → Has (part before next) r b → TakesList part bytes_of Fits 0 before next r
row_none {X} part bytes_of Fits before next r b e h =
    let same : before ++ [] ≡ before = append-nil before in
    record {
      all = [];
      size = refl;
      fit = tt;
      rest = b;
      behind = subst (λ (l : ReplyLayout). Has l r b) (e ∙ ap next (sym same)) h;
      again = λ more k. subst (λ (l : ReplyLayout). Has l r more) (ap next same ∙ sym e) k;
    }

pub row_of_volumes : (count : ℕ) (before : List VolumeEntry) (next : List VolumeEntry → ReplyLayout) (r : Reply) (b : List ℕ) → Has (volumes count before next) r b
    → TakesList (volumes count) volume_bytes FitsVolume count before next r
row_of_volumes zero before next r b h = row_none (volumes 0) volume_bytes FitsVolume before next r b (volumes_none before next) h
row_of_volumes (suc count) before next r b h =
    let flags = subst (λ (l : ReplyLayout). Has l r b) (volumes_more count before next) h in
    let name = flags.behind in
    let v : VolumeEntry = record { flags = flags.value; name = name.value } in
    let rest = row_of_volumes count (before ++ (v ∷ [])) next r name.rest name.behind in
    let same : (before ++ (v ∷ [])) ++ rest.all ≡ before ++ (v ∷ rest.all) = with_more before v rest.all in
    record {
      all = v ∷ rest.all;
      size = let e : length rest.all ≡ count = rest.size in omega arith;
      fit = ((flags.spelt.0, name.spelt.0), rest.fit);
      rest = rest.rest;
      behind = subst (λ (x : List VolumeEntry). Has (next x) r rest.rest) same rest.behind;
      again = λ more k.
          let back = rest.again more (subst (λ (x : List VolumeEntry). Has (next x) r more) (sym same) k) in
          let whole : (bytes.u8_bytes flags.value ++ with_count 1 name.value) ++ concat (map volume_bytes rest.all) ≡ bytes.u8_bytes flags.value ++ (with_count 1 name.value ++ concat (map volume_bytes rest.all)) =
          append_assoc (bytes.u8_bytes flags.value) (with_count 1 name.value) (concat (map volume_bytes rest.all)) in
          let bytes_are : bytes.u8_bytes flags.value ++ (with_count 1 name.value ++ (concat (map volume_bytes rest.all) ++ more)) ≡ concat (map volume_bytes (v ∷ rest.all)) ++ more =
          ap (λ (x : List ℕ). bytes.u8_bytes flags.value ++ x) (sym (append_assoc (with_count 1 name.value) (concat (map volume_bytes rest.all)) more))
          ∙ sym (append_assoc (bytes.u8_bytes flags.value) (with_count 1 name.value ++ concat (map volume_bytes rest.all)) more)
          ∙ ap (λ (x : List ℕ). x ++ more) (sym whole) in
          subst (λ (l : ReplyLayout). Has l r (concat (map volume_bytes (v ∷ rest.all)) ++ more)) (sym (volumes_more count before next))
          (subst (Has (volume (λ x. volumes count (before ++ (x ∷ [])) next)) r) bytes_are
          (put_front (Number 1) _ flags.value (bytes.u8_bytes flags.value) _ (flags.spelt.0, refl) (put_front (Counted 1) _ name.value (with_count 1 name.value) _ (name.spelt.0, refl) back)));
    }

pub entry_spelt : (wide : Bool) (fb db : ℕ) (e : ListEntry) → FitsEntry wide fb db e → SpellsWord (Entry wide fb db) e (entry_bytes wide fb db e)
entry_spelt wide fb db e f = record { fits = f; pads = replicate (pad_count wide) 0; pads_are = length-replicate (pad_count wide) 0; bytes_are = refl }

pub row_of_entries : (wide : Bool) (fb db count : ℕ) (before : List ListEntry) (next : List ListEntry → ReplyLayout) (r : Reply) (b : List ℕ) → Has (entries wide fb db count before next) r b
    → TakesList (entries wide fb db count) (entry_bytes wide fb db) (FitsEntry wide fb db) count before next r
row_of_entries wide fb db zero before next r b h =
    row_none (entries wide fb db 0) (entry_bytes wide fb db) (FitsEntry wide fb db) before next r b (entries_none wide fb db before next) h
row_of_entries wide fb db (suc count) before next r b h =
    let first = subst (λ (l : ReplyLayout). Has l r b) (entries_more wide fb db count before next) h in
    let e : ListEntry = first.value in
    let rest = row_of_entries wide fb db count (before ++ (e ∷ [])) next r first.rest first.behind in
    let same : (before ++ (e ∷ [])) ++ rest.all ≡ before ++ (e ∷ rest.all) = with_more before e rest.all in
    record {
      all = e ∷ rest.all;
      size = let s : length rest.all ≡ count = rest.size in omega arith;
      fit = (first.spelt.fits, rest.fit);
      rest = rest.rest;
      behind = subst (λ (x : List ListEntry). Has (next x) r rest.rest) same rest.behind;
      again = λ more k.
          let back = rest.again more (subst (λ (x : List ListEntry). Has (next x) r more) (sym same) k) in
          let bytes_are : entry_bytes wide fb db e ++ (concat (map (entry_bytes wide fb db) rest.all) ++ more) ≡ concat (map (entry_bytes wide fb db) (e ∷ rest.all)) ++ more =
          sym (append_assoc (entry_bytes wide fb db e) (concat (map (entry_bytes wide fb db) rest.all)) more) in
          subst (λ (l : ReplyLayout). Has l r (concat (map (entry_bytes wide fb db) (e ∷ rest.all)) ++ more)) (sym (entries_more wide fb db count before next))
          (subst (Has (Then (Entry wide fb db) (λ x. entries wide fb db count (before ++ (x ∷ [])) next)) r) bytes_are
          (put_front (Entry wide fb db) _ e (entry_bytes wide fb db e) _ (entry_spelt wide fb db e first.spelt.fits) back));
    }

good_server_params : (r : Reply) (b : List ℕ) → Has layouts.server_params r b → Good layouts.server_params r
good_server_params r b h =
    let time : ℕ = h.value in
    let count = h.behind in
    let next : List VolumeEntry → ReplyLayout = λ all. Is (replies.ServerParams (cast_signed w32 time) all) in
    let row = row_of_volumes count.value [] next r count.rest count.behind in
    let reply : Reply = replies.ServerParams (cast_signed w32 time) row.all in
    let same : cast_unsigned w32 (cast_signed w32 time) ≡ time = date_back time h.spelt.0 in
    let few : length row.all < 256 ^ 1 = (let P : ℕ → Type 0 = λ n. n < 256 ^ 1 in subst P (sym row.size) count.spelt.0) in
    let whole : bytes.u32_bytes time ++ (bytes.u8_bytes count.value ++ (concat (map volume_bytes row.all) ++ [])) ≡ canonical_reply reply =
    ap (λ (t : ℕ). bytes.u32_bytes t ++ (bytes.u8_bytes count.value ++ (concat (map volume_bytes row.all) ++ []))) (sym same)
    ∙ ap (λ (n : ℕ). bytes.u32_bytes (cast_unsigned w32 (cast_signed w32 time)) ++ (bytes.u8_bytes n ++ (concat (map volume_bytes row.all) ++ []))) (sym row.size)
    ∙ ap (λ (x : List ℕ). bytes.u32_bytes (cast_unsigned w32 (cast_signed w32 time)) ++ (bytes.u8_bytes (length row.all) ++ x)) (append-nil (concat (map volume_bytes row.all))) in
    let P : Reply → Type 0 = λ s. s ≡ reply → Has layouts.server_params s (canonical_reply reply) in
    let back : P r = λ e.
    subst (Has layouts.server_params r) whole
    (put_front (Number 4) _ time (bytes.u32_bytes time) _ (h.spelt.0, refl) (put_front (Number 1) _ count.value (bytes.u8_bytes count.value) _ (count.spelt.0, refl) (row.again [] (e, refl)))) in
    subst (Good layouts.server_params) (sym row.behind.0) (record { fits = (date_fits time h.spelt.0, few, row.fit); again = subst P row.behind.0 back refl })

good_list : (wide : Bool) (fb db : ℕ) (r : Reply) (b : List ℕ) → Has (layouts.list wide fb db) r b → Good (layouts.list wide fb db) r
good_list wide fb db r b h =
    let dirs = h.behind in
    let count = dirs.behind in
    let next : List ListEntry → ReplyLayout = λ rows. Is (replies.List wide fb db rows) in
    let row = row_of_entries wide fb db count.value [] next r count.rest count.behind in
    let reply : Reply = replies.List wide fb db row.all in
    let few : length row.all < 256 ^ 2 = (let P : ℕ → Type 0 = λ n. n < 256 ^ 2 in subst P (sym row.size) count.spelt.0) in
    let all : List ℕ = concat (map (entry_bytes wide fb db) row.all) in
    let whole : bytes.u16_bytes fb ++ (bytes.u16_bytes db ++ (bytes.u16_bytes count.value ++ (all ++ []))) ≡ canonical_reply reply =
    ap (λ (n : ℕ). bytes.u16_bytes fb ++ (bytes.u16_bytes db ++ (bytes.u16_bytes n ++ (all ++ [])))) (sym row.size)
    ∙ ap (λ (x : List ℕ). bytes.u16_bytes fb ++ (bytes.u16_bytes db ++ (bytes.u16_bytes (length row.all) ++ x))) (append-nil all) in
    let P : Reply → Type 0 = λ s. s ≡ reply → Has (layouts.list wide fb db) s (canonical_reply reply) in
    let back : P r = λ e.
    subst (Has (layouts.list wide fb db) r) whole
    (put_front (Asked _ fb) _ tt (bytes.u16_bytes fb) _ (h.spelt.0, refl)
    (put_front (Asked _ db) _ tt (bytes.u16_bytes db) _ (dirs.spelt.0, refl)
    (put_front (Number 2) _ count.value (bytes.u16_bytes count.value) _ (count.spelt.0, refl) (row.again [] (e, refl))))) in
    subst (Good (layouts.list wide fb db)) (sym row.behind.0)
    (record { fits = record { few = few; file = h.spelt.0; dir = dirs.spelt.0; each = row.fit }; again = subst P row.behind.0 back refl })

-- ---- parameters

pub has_params : (kind bits : ℕ) (reply : Values → Reply) (v : Values) → IsAnswer kind bits v → Has (Params kind bits reply) (reply v) (params bits v ++ [])
has_params kind bits reply v a = (v, a, append-nil (params bits v), refl)

good_params : (kind bits : ℕ) → kind ≤ 1 → (r : Reply) (b : List ℕ) → Has (layouts.params kind bits) r b → Good (layouts.params kind bits) r
good_params kind bits le r b h =
    let p = h.behind in
    let v : Values = p.0 in
    subst (Good (layouts.params kind bits)) (sym p.3) (record {
      fits = subst (λ (k : ℕ). (k ≤ 1) × FitsValues k bits v) (sym p.1.kind_is) (le, record { within = h.spelt.0; answer = p.1 });
      again = put_front (Asked (mask_of kind) bits) _ tt (bytes.u16_bytes bits) _ (h.spelt.0, refl) (has_params kind bits (λ x. replies.Params bits x) v p.1);
    })

good_opened : (bits : ℕ) (r : Reply) (b : List ℕ) → Has (layouts.opened bits) r b → Good (layouts.opened bits) r
good_opened bits r b h =
    let ref = h.behind in
    let p = ref.behind in
    let v : Values = p.0 in
    subst (Good (layouts.opened bits)) (sym p.3) (record {
      fits = (ref.spelt.0, record { within = h.spelt.0; answer = p.1 });
      again = put_front (Asked _ bits) _ tt (bytes.u16_bytes bits) _ (h.spelt.0, refl) (put_front (Number 2) _ ref.value (bytes.u16_bytes ref.value) _ (ref.spelt.0, refl)
          (has_params 1 bits (λ x. replies.Opened bits (record { 0 = ref.value }) x) v p.1));
    })

good_denied : (bits : ℕ) (r : Reply) (b : List ℕ) → Has (layouts.denied_params bits) r b → Good (layouts.denied_params bits) r
good_denied bits r b h =
    let ref = h.behind in
    let p = ref.behind in
    let v : Values = p.0 in
    subst (Good (layouts.denied_params bits)) (sym p.3) (record {
      fits = (lit< tt, record { within = h.spelt.0; answer = p.1 });
      again = put_front (Asked _ bits) _ tt (bytes.u16_bytes bits) _ (h.spelt.0, refl) (put_front (Exactly 2 0) _ tt (bytes.u16_bytes 0) _ refl
          (has_params 1 bits (λ x. replies.Opened bits (record { 0 = 0 }) x) v p.1));
    })

good_appl : (bits : ℕ) (r : Reply) (b : List ℕ) → Has (layouts.appl bits) r b → Good (layouts.appl bits) r
good_appl bits r b h =
    let tag = h.behind in
    let p = tag.behind in
    let v : Values = p.0 in
    subst (Good (layouts.appl bits)) (sym p.3) (record {
      fits = (tag.spelt.0, record { within = h.spelt.0; answer = p.1 });
      again = put_front (Asked _ bits) _ tt (bytes.u16_bytes bits) _ (h.spelt.0, refl) (put_front (Number 4) _ tag.value (bytes.u32_bytes tag.value) _ (tag.spelt.0, refl)
          (has_params 1 bits (λ x. replies.Appl bits tag.value x) v p.1));
    })

-- the parameters of a directory or a file, as one
pub node_layout : (dir : Bool) (fb db : ℕ) → node_params_layout dir fb db ≡ Params (kind_for dir) (bits_for dir fb db) (λ v. replies.FileDirParams fb db v)
unfolding node_params_layout
node_layout true fb db = refl
node_layout false fb db = refl

pub node_within : (dir : Bool) (fb db : ℕ) → IsWithin (mask_of 1) fb → IsWithin (mask_of 2) db → IsWithin (mask_of (kind_for dir)) (bits_for dir fb db)
node_within true fb db f d = d
node_within false fb db f d = f

good_file_dir_params : (fb db : ℕ) (r : Reply) (b : List ℕ) → Has (layouts.file_dir_params fb db) r b → Good (layouts.file_dir_params fb db) r
good_file_dir_params fb db r b h =
    let dirs = h.behind in
    let flag = dirs.behind in
    let gap = flag.behind in
    let dir : Bool = flag.value in
    let p = subst (λ (l : ReplyLayout). Has l r gap.rest) (node_layout dir fb db) gap.behind in
    let v : Values = p.0 in
    let is : is_dir v ≡ dir = dir_is v dir p.1.kind_is in
    let Q : Bool → Type 0 = λ d. IsAnswer (kind_for d) (bits_for d fb db) v in
    let C : Bool → Type 0 = λ d.
    Has (layouts.file_dir_params fb db) (replies.FileDirParams fb db v)
    (concat (bytes.u16_bytes fb ∷ bytes.u16_bytes db ∷ (flag_of d ∷ []) ∷ bytes.pad_byte ∷ params (bits_for d fb db) v ∷ [])) in
    let back : C dir =
    put_front (Asked _ fb) _ tt (bytes.u16_bytes fb) _ (h.spelt.0, refl) (put_front (Asked _ db) _ tt (bytes.u16_bytes db) _ (dirs.spelt.0, refl)
    (put_front Flag _ dir (flag_of dir ∷ []) _ refl (put_front Pad _ tt bytes.pad_byte _ refl
    (subst (λ (l : ReplyLayout). Has l (replies.FileDirParams fb db v) (params (bits_for dir fb db) v ++ [])) (sym (node_layout dir fb db))
    (has_params (kind_for dir) (bits_for dir fb db) (λ x. replies.FileDirParams fb db x) v p.1))))) in
    subst (Good (layouts.file_dir_params fb db)) (sym p.3) (record {
      fits = (h.spelt.0, dirs.spelt.0, subst Q (sym is) p.1);
      again = subst C (sym is) back;
    })

-- ---- all layouts

good_shape : (shape : Shape) (kind : ReplyKind) (r : Reply) (b : List ℕ) → Has (reply_layout_of shape kind) r b → Good (reply_layout_of shape kind) r
good_shape shapes.Unlisted kind r b h = absurd h
good_shape shapes.Empty kind r b h = good_empty r b h
good_shape shapes.Start kind r b h = good_start r b h
good_shape shapes.StartExt kind r b h = good_start_ext r b h
good_shape shapes.End kind r b h = good_end r b h
good_shape shapes.EndExt kind r b h = good_end_ext r b h
good_shape shapes.Node kind r b h = good_node r b h
good_shape shapes.NarrowList kind r b h = good_list false kind.bits kind.dir_bits r b h
good_shape shapes.WideList kind r b h = good_list true kind.bits kind.dir_bits r b h
good_shape shapes.FileParams kind r b h = good_params 1 kind.bits (lit≤ tt) r b h
good_shape shapes.VolumeParams kind r b h = good_params 0 kind.bits (lit≤ tt) r b h
good_shape shapes.FileDirParams kind r b h = good_file_dir_params kind.bits kind.dir_bits r b h
good_shape shapes.Status kind r b h = good_status r b h
good_shape shapes.ServerParams kind r b h = good_server_params r b h
good_shape shapes.MappedName kind r b h = good_mapped (layouts.is_wide kind.bits) r b h
good_shape shapes.MappedId kind r b h = good_mapped_id r b h
good_shape shapes.Opened kind r b h = good_opened kind.bits r b h
good_shape shapes.Data kind r b h = good_piece r b h
good_shape shapes.Icon kind r b h = good_piece r b h
good_shape shapes.IconInfo kind r b h = good_icon_info r b h
good_shape shapes.UserInfo kind r b h = good_user_info kind.bits r b h
good_shape shapes.Message kind r b h = good_message kind.bits r b h
good_shape shapes.Desk kind r b h = good_desk r b h
good_shape shapes.Appl kind r b h = good_appl kind.bits r b h
good_shape shapes.Comment kind r b h = good_comment r b h
good_shape shapes.Token kind r b h = good_token r b h

good_denial : (shape : Shape) (kind : ReplyKind) (r : Reply) (b : List ℕ) → Has (denied shape kind) r b → Good (denied shape kind) r
good_denial shapes.Opened kind r b h = good_denied kind.bits r b h
good_denial shape kind r b h = good_empty r b h

good_ended : (shape : Shape) (r : Reply) (b : List ℕ) → Has (ended shape) r b → Good (ended shape) r
good_ended shapes.Data r b h = good_piece r b h
good_ended shape r b h = good_empty r b h

pub good_reply : (shape : Shape) (code : Code) (kind : ReplyKind) (r : Reply) (b : List ℕ) → Has (reply_layout shape code kind) r b → Good (reply_layout shape code kind) r
good_reply shape codes.Ok kind r b h = good_shape shape kind r b h
good_reply shape codes.DenyConflict kind r b h = good_denial shape kind r b h
good_reply shape codes.EOFErr kind r b h = good_ended shape r b h
good_reply shape code kind r b h = good_empty r b h
