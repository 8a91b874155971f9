-- The rows of the calls that tell of the server, of users and of messages.
use Rattle.std.specs.List.{concat}
use Rattle.std.proofs.Common.{flat_map, ◌∷◌, ◌++◌, ◌≡◌, ◌∙◌, ap, sym, refl, ℕ, ◌==◌, true, false, not, ◌&&◌, ◌||◌, cond, List, [], append-nil, map, Option, Some, None}
use Rattle.std.specs.Prelude.{nat_le, pos, OnOk, Result, Ok as with_ok, Err, length}
use Rattle.std.proofs.lemmas.List.{append_assoc, length-map}
use Rattle.byteorder.specs.Endian.{big_bytes}
use Rattle.afp_base.specs.declared.bytes.OutOfMemory.{OutOfMemory}
use Rattle.afp_base.specs.declared.code.Code.TheVariants.{BitmapErr, ItemNotFound, Ok, ParamErr}
use Rattle.afp_bitmap.specs.Bits.{is_asked, is_outside}
use Rattle.afp_replies.specs.Numbers.{message_bit, message_mask, user_info_mask}
use Rattle.afp_replies.specs.Replies.{canonical_reply, volume_bytes}
use Rattle.afp_replies.specs.declared.reply.Reply.TheVariants.{MappedId, MappedName, Message, ServerParams, Status}
use Rattle.afp_calls_grammar.specs.declared.grammar.call.Call.TheVariants.{GetSrvrInfo, GetSrvrMsg, GetSrvrParms, GetUserInfo, MapID, MapName}
use Rattle.afp_serial.specs.GetSrvrMsg.{get_srvr_msg_row, login_message, message_of, message_since, server_message}
use Rattle.afp_serial.specs.GetSrvrParms.{volume_entry}
use Rattle.afp_serial.specs.GetUserInfo.{asks_own, get_user_info_row, id_of, user_info}
use Rattle.afp_serial.specs.MapID.{is_utf8_function, map_id_row, name_of_id, name_reply}
use Rattle.afp_serial.specs.MapName.{id_of_name, id_reply, map_name_row}
use Rattle.afp_serial.specs.Rows.{refusal, row}
use Rattle.afp_serial.specs.StatusBlock.{status_block}
use Rattle.afp_serial.specs.World.{plain, World, Session}
use Rattle.afp_serial.specs.declared.ask.Told.{Told}
use Rattle.afp_serial.specs.declared.ask.Told.TheVariants.{Reply}
use Rattle.afp_core_state.proofs.RowLemmas.{IsRowOf}
use Rattle.afp_core_state.specs.KeptWorld.{KeptWorld}
use Rattle.afp_core_calls.proofs.OfSession.UserLemmas.{only-tells-runs}

module _ (k : KeptWorld) (s : Session) (told : Told) (block : List ℕ) where
  -- FPGetSrvrInfo
  pub info-runs : block ≡ status_block k.world.house → told ≡ Reply Ok block false → IsRowOf k s GetSrvrInfo told k
  unfolding row
  info-runs is tells = only-tells-runs k s GetSrvrInfo (λ w s. []) (λ w s. Status (status_block w.house)) refl told block refl refl (is ∙ sym (append-nil (status_block k.world.house))) tells

  -- FPGetSrvrParms
  pub parms-runs : block ≡ canonical_reply (ServerParams (pos k.world.latest) (map volume_entry k.world.house.volumes)) → told ≡ Reply Ok block false → IsRowOf k s GetSrvrParms told k
  unfolding row
  parms-runs is tells = only-tells-runs k s GetSrvrParms (λ w s. []) (λ w s. ServerParams (pos w.latest) (map volume_entry w.house.volumes)) refl told block refl refl is tells

  -- FPGetSrvrMsg
  pub msg-runs : (kind bits : ℕ) → nat_le kind server_message ≡ true → is_outside message_mask bits ≡ false
      → block ≡ canonical_reply (Message kind bits (cond (is_asked bits message_bit) (Some (message_of k.world kind)) None)) → told ≡ Reply Ok block false → IsRowOf k s (GetSrvrMsg kind bits) told k
  unfolding row
  msg-runs kind bits low within is tells =
      only-tells-runs k s (GetSrvrMsg kind bits) (get_srvr_msg_row kind bits).refusals (λ w s. Message kind bits (cond (is_asked bits message_bit) (Some (message_of w kind)) None)) refl told block (rw (low, within) refl) refl is tells

  -- FPGetUserInfo
  pub user-info-runs : (flag id bits : ℕ) → (is_outside user_info_mask bits || (bits == 0)) ≡ false → (not (asks_own flag) && not (id == id_of s.user)) ≡ false
      → block ≡ canonical_reply (user_info bits (id_of s.user)) → told ≡ Reply Ok block false → IsRowOf k s (GetUserInfo flag id bits) told k
  unfolding row
  user-info-runs flag id bits within own is tells =
      only-tells-runs k s (GetUserInfo flag id bits) (get_user_info_row flag id bits).refusals (λ w s. user_info bits (id_of s.user)) refl told block (rw (within, own) refl) refl is tells

  -- FPMapID
  pub map-id-runs : (function id : ℕ) (name : List ℕ) → name_of_id k.world.house.users function id ≡ Some name → block ≡ canonical_reply (MappedName (is_utf8_function function) name) → told ≡ Reply Ok block false
      → IsRowOf k s (MapID function id) told k
  unfolding row
  map-id-runs function id name named is tells =
      only-tells-runs k s (MapID function id) (map_id_row function id).refusals (λ w s. name_reply function (name_of_id w.house.users function id)) refl told block (rw named refl) refl
      (is ∙ ap (λ (o : Option (List ℕ)). canonical_reply (name_reply function o)) (sym named)) tells

  -- FPMapName
  pub map-name-runs : (function id : ℕ) (name : List ℕ) → id_of_name k.world.house.users function name ≡ Some id → block ≡ canonical_reply (MappedId id) → told ≡ Reply Ok block false → IsRowOf k s (MapName function name) told k
  unfolding row
  map-name-runs function id name named is tells =
      only-tells-runs k s (MapName function name) (map_name_row function name).refusals (λ w s. id_reply (id_of_name w.house.users function name)) refl told block (rw named refl) refl
      (is ∙ ap (λ (o : Option ℕ). canonical_reply (id_reply o)) (sym named)) tells

-- the volumes one after another
pub volumes-flat : (names : List (List ℕ)) → flat_map (λ name. volume_bytes (volume_entry name)) names ≡ concat (map volume_bytes (map volume_entry names))
volumes-flat [] = refl
volumes-flat (name ∷ names) = ap (λ (rest : List ℕ). volume_bytes (volume_entry name) ++ rest) (volumes-flat names)

-- refusals

module _ (w : World) (s : Session) where
  pub msg-kind : (kind bits : ℕ) → nat_le kind server_message ≡ false → refusal w s (GetSrvrMsg kind bits) ≡ Some (plain ParamErr)
  unfolding row
  msg-kind kind bits high = rw high refl

  pub msg-bits : (kind bits : ℕ) → nat_le kind server_message ≡ true → is_outside message_mask bits ≡ true → refusal w s (GetSrvrMsg kind bits) ≡ Some (plain BitmapErr)
  unfolding row
  msg-bits kind bits low outside = rw (low, outside) refl

  pub user-info-bits : (flag id bits : ℕ) → (is_outside user_info_mask bits || (bits == 0)) ≡ true → refusal w s (GetUserInfo flag id bits) ≡ Some (plain BitmapErr)
  unfolding row
  user-info-bits flag id bits outside = rw outside refl

  pub user-info-other : (flag id bits : ℕ) → (is_outside user_info_mask bits || (bits == 0)) ≡ false → (not (asks_own flag) && not (id == id_of s.user)) ≡ true → refusal w s (GetUserInfo flag id bits) ≡ Some (plain ItemNotFound)
  unfolding row
  user-info-other flag id bits within other = rw (within, other) refl

  pub map-id-none : (function id : ℕ) → name_of_id w.house.users function id ≡ None → refusal w s (MapID function id) ≡ Some (plain ItemNotFound)
  unfolding row
  map-id-none function id none = rw none refl

  pub map-name-none : (function : ℕ) (name : List ℕ) → id_of_name w.house.users function name ≡ None → refusal w s (MapName function name) ≡ Some (plain ItemNotFound)
  unfolding row
  map-name-none function name none = rw none refl

-- the block of the time and the volumes, where there was memory
pub parms-put : (result : Result (Unit {0}) OutOfMemory) (old before new : List ℕ) (now : ℕ) (names : List (List ℕ)) → before ≡ old ++ big_bytes 4 now ++ big_bytes 1 (length names)
    → OnOk result (new ≡ before ++ flat_map (λ name. volume_bytes (volume_entry name)) names) → OnOk result (new ≡ old ++ canonical_reply (ServerParams (pos now) (map volume_entry names)))
parms-put (with_ok u) old before new now names head put =
    put
    ∙ (λ i. head i ++ volumes-flat names i)
    ∙ append_assoc (old ++ big_bytes 4 now) (big_bytes 1 (length names)) (concat (map volume_bytes (map volume_entry names)))
    ∙ append_assoc old (big_bytes 4 now) (big_bytes 1 (length names) ++ concat (map volume_bytes (map volume_entry names)))
    ∙ (λ i. old ++ (big_bytes 4 now ++ (big_bytes 1 (sym (length-map names volume_entry) i) ++ concat (map volume_bytes (map volume_entry names)))))
parms-put (Err e) old before new now names head put = tt

-- the message of a type is the one that was chosen
pub message-chosen : (k : KeptWorld) (kind bits : ℕ) (text new block : List ℕ) → text ≡ message_of k.world kind → new ≡ [] → block ≡ new ++ canonical_reply (Message kind bits (cond (is_asked bits message_bit) (Some text) None))
    → block ≡ canonical_reply (Message kind bits (cond (is_asked bits message_bit) (Some (message_of k.world kind)) None))
message-chosen k kind bits text new block chosen empty is =
    is ∙ (λ i. empty i ++ canonical_reply (Message kind bits (cond (is_asked bits message_bit) (Some (chosen i)) None)))

pub login-text : (k : KeptWorld) (kind : ℕ) → (kind == login_message) ≡ true → k.world.house.message ≡ message_of k.world kind
login-text k kind is = rw is refl

pub server-text : (k : KeptWorld) (kind : ℕ) → (kind == login_message) ≡ false → message_since k.world.drain ≡ message_of k.world kind
server-text k kind is = rw is refl
