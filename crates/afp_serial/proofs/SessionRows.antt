-- What the calls owe that tell of the server, of users and of messages, and change nothing.
use Rattle.std.proofs.Common.{◌≡◌, sym, refl, subst, ℕ, suc, ◌*◌, ◌%◌, ◌<◌, ◌≤◌, ◌^◌, arith, Bool, true, false, not, ◌&&◌, ◌||◌, cond, List, [], ◌∷◌, ◌++◌, length, map, Option, Some, None, inl, inr}
use Rattle.std.specs.Prelude.{◌==◌, is_none, nat_le, option_map, pos, bytes_eq, FitsSigned}
use Rattle.std.specs.Int.{w32}
use Rattle.std.specs.List.{AllByRecursion, concat, list_all}
use Rattle.std.proofs.lemmas.Bool.{and_parts, cond_both, eqb-true, le-leb, leb-true, ltb-true, or_cases, or_parts, not-false}
use Rattle.std.proofs.lemmas.List.{length-append, length-map, length-replicate}
use Rattle.afp_base.proofs.ListFacts.{all-each, find-all}
use Rattle.afp_base.proofs.Numbers.{length-big_bytes}
use Rattle.afp_base.specs.Choice.{first_holding}
use Rattle.afp_base.specs.Limits.{payload_limit}
use Rattle.afp_base.specs.declared.code.Code.TheVariants.{Ok}
use Rattle.afp_bitmap.specs.Bits.{is_asked, is_outside}
use Rattle.afp_replies.proofs.Showing.{what_fits_a_request}
use Rattle.afp_replies.specs.Bytes.{optional_bytes, width}
use Rattle.afp_replies.specs.Commands.{rows, shape_in, shape_of}
use Rattle.afp_replies.specs.Fitting.{FitsOptional, FitsText, FitsVolume}
use Rattle.afp_replies.specs.Layouts.{is_wide}
use Rattle.afp_replies.specs.Numbers.{group_id_bit, group_id_to_name, group_id_to_utf8_name, message_bit, message_mask, user_id_bit, user_id_to_name, user_id_to_utf8_name, user_info_mask, utf8_bit}
use Rattle.afp_replies.specs.Replies.{canonical_reply, message_bytes, volume_bytes}
use Rattle.afp_replies.specs.Requested.{FitsRequest}
use Rattle.afp_replies.specs.declared.reply.Reply.{Reply}
use Rattle.afp_replies.specs.declared.reply.Reply.TheVariants.{MappedId, MappedName, Message, ServerParams, Status}
use Rattle.afp_calls_grammar.specs.declared.grammar.call.Call.{Call}
use Rattle.afp_calls_grammar.specs.declared.grammar.call.Call.TheVariants.{GetSrvrInfo, GetSrvrMsg, GetSrvrParms, GetUserInfo, MapID, MapName}
use Rattle.afp_serial.proofs.ListShown.{within}
use Rattle.afp_serial.proofs.OnVolumeRows.{Asks}
use Rattle.afp_serial.proofs.SessionUsers.{house-of, is_small, known-small, users-small}
use Rattle.afp_serial.proofs.SoundParts.{fields-parts}
use Rattle.afp_serial.proofs.SoundRow.{IsSoundRow, is_refused, no-keeper, no_more-refuses, tells_user}
use Rattle.afp_serial.proofs.StatusParts.{head_length}
use Rattle.afp_serial.specs.Faultless.{IsFaultless}
use Rattle.afp_serial.specs.GetSrvrInfo.{get_srvr_info_row}
use Rattle.afp_serial.specs.GetSrvrMsg.{closing_message, get_srvr_msg_row, login_message, message_of, message_since, server_message}
use Rattle.afp_serial.specs.GetSrvrParms.{get_srvr_parms_row, volume_entry}
use Rattle.afp_serial.specs.GetUserInfo.{get_user_info_row, id_of, user_info, where_asked}
use Rattle.afp_serial.specs.HouseFault.{is_name, is_printable, is_text}
use Rattle.afp_serial.specs.Household.{Household}
use Rattle.afp_serial.specs.Limits.{longest_message, longest_user, longest_volume}
use Rattle.afp_serial.specs.MapID.{is_utf8_function, map_id_row, name_of_id, name_reply}
use Rattle.afp_serial.specs.MapName.{id_of_name, id_reply, map_name_row}
use Rattle.afp_serial.specs.Ranges.{is_moment, is_typed_house, is_typed_user}
use Rattle.afp_serial.specs.ReplyKinds.{reply_kind}
use Rattle.afp_serial.specs.SessionLaws.{all_stay}
use Rattle.afp_serial.specs.Sound.{IsSound}
use Rattle.afp_serial.specs.StatusBlock.{name_end, offsets_of, status_block, status_head, status_head_size, status_of, status_pad, status_parts}
use Rattle.afp_serial.specs.Users.{everyone_id, everyone_name, group_id_of, group_name_of, guest_id, guest_name, is_about_groups, is_about_users, is_user_of, user_id_of, user_name_of, user_with_id, user_with_name}
use Rattle.afp_serial.specs.World.{Refusal, only_tells, World, Session}
use Rattle.afp_serial.specs.declared.user.User.{User}
use Rattle.volume_spec.specs.TypedVolume.{are_bytes}

-- a row that only tells, of what its refusals and its reply owe

pub only-tells-sound : (call : Call) (refusals : World → Session → List Refusal) (reply : World → Session → Reply)
    → ((w : World) (s : Session) → list_all (λ r. is_refused r.1) (refusals w s) ≡ true)
    → ((w : World) (s : Session) → first_holding (refusals w s) ≡ None → IsSound w → length (canonical_reply (reply w s)) ≤ payload_limit)
    → ((w : World) (s : Session) → first_holding (refusals w s) ≡ None → IsSound w → (tells_user call ≡ true → is_user_of w.house.users s.user ≡ true) → FitsRequest (reply_kind call) Ok (reply w s))
    → IsSoundRow call (only_tells refusals reply)
only-tells-sound call refusals reply rightly short fits = record {
  refuses = λ w s r is h. no_more-refuses call (refusals w s) r is (rightly w s);
  sound = λ w s test lawful found passes h. h;
  fits = λ w s lawful passes h. le-leb (length (canonical_reply (reply w s))) payload_limit (short w s passes h);
  shown = λ w s lawful passes h known. what_fits_a_request (reply w s) (reply_kind call) Ok (fits w s passes h known);
  apart = λ w s test found a. a;
  next = λ w s. refl;
  keeper = λ w s index passes commits. no-keeper w index commits;
  old = λ w s n h. h;
  cached = λ w s test found p h. h;
  leaves = λ stays w s. all_stay refl;
}

-- a condition that does not hold, and those behind it
clear : {A : Type 0} (b : Bool) (x : A) (rest : Option A) → cond b (Some x) rest ≡ None → (b ≡ false) × (rest ≡ None)
clear true x rest h = absurd (cc)
clear false x rest h = (refl, h)

text-short : (longest : ℕ) (text : List ℕ) → is_text longest text ≡ true → length text ≤ longest
text-short longest text h = leb-true (length text) longest (and_parts (nat_le (length text) longest) (list_all is_printable text) h).0

name-short : (longest : ℕ) (name : List ℕ) → is_name longest name ≡ true → length name ≤ longest
name-short longest name h = text-short longest name (and_parts (nat_le 1 (length name)) (is_text longest name) h).1

users-named : (house : Household) → IsFaultless house → list_all (λ user. is_name longest_user user.name) house.users ≡ true
users-named house has = all-each (λ user. is_name longest_user user.name) house.users has.user_names

-- FPGetSrvrInfo

signed-house : (house : Household) → is_typed_house house ≡ true → length house.signature ≡ 16
unfolding is_typed_house
signed-house house typed =
    let e = and_parts (list_all is_typed_user house.users) ((are_bytes house.signature && (length house.signature == 16)) && (are_bytes house.token_key && (length house.token_key == 32))) typed in
    let f = and_parts (are_bytes house.signature && (length house.signature == 16)) (are_bytes house.token_key && (length house.token_key == 32)) e.1 in
    eqb-true (length house.signature) 16 (and_parts (are_bytes house.signature) (length house.signature == 16) f.0).1

signed : (w : World) → IsSound w → length w.house.signature ≡ 16
signed w h = signed-house w.house (fields-parts w h.typed).house

head-short : (name : List ℕ) → length name ≤ 31 → status_head_size name ≤ 64
head-short name few =
    let zero_byte : ℕ = 0 in
    let pad : length (status_pad name) ≡ name_end name % 2 = length-replicate (name_end name % 2) zero_byte in
    omega (arith, few, pad)

parts-short : (name signature : List ℕ) → length name ≤ 31 → length signature ≡ 16 → length (concat (status_parts name signature)) ≤ 192
parts-short name signature few is = simp length-append (omega (arith, few, is))

status-short : (name signature : List ℕ) → length name ≤ 31 → length signature ≡ 16 → length (status_of name signature) ≤ 256
status-short name signature few is =
    let offsets = offsets_of (status_head_size name) (status_parts name signature) in
    let both = length-append (status_head name offsets) (concat (status_parts name signature)) in
    let head = head_length name offsets in
    let front = head-short name few in
    let rest = parts-short name signature few is in
    omega (arith, both, head, front, rest)

info-short : (house : Household) → length house.server ≤ 31 → length house.signature ≡ 16 → length (canonical_reply (Status (status_block house))) ≤ payload_limit
unfolding status_block
info-short house few is =
    let block = status-short house.server house.signature few is in
    let whole = length-append (status_of house.server house.signature) [] in
    omega (arith, block, whole)

info-asks : (block : List ℕ) → Asks GetSrvrInfo (Status block)
unfolding shape_of shape_in rows
info-asks block = refl

pub get-srvr-info-sound : IsSoundRow GetSrvrInfo get_srvr_info_row
get-srvr-info-sound =
    only-tells-sound GetSrvrInfo (λ w s. []) (λ w s. Status (status_block w.house))
    (λ w s. refl)
    (λ w s passes h. info-short w.house (name-short 31 w.house.server (house-of w h).server) (signed w h))
    (λ w s passes h known. record { fits = tt; told = info-asks (status_block w.house) })

-- FPGetSrvrParms

volumes-short : (names : List (List ℕ)) → list_all (is_name longest_volume) names ≡ true → length (concat (map volume_bytes (map volume_entry names))) ≤ 29 * length names
volumes-short [] named = omega arith
volumes-short (name ∷ names) named =
    let e = and_parts (is_name longest_volume name) (list_all (is_name longest_volume) names) named in
    let one = name-short longest_volume name e.0 in
    let rest = volumes-short names e.1 in
    let both = length-append (volume_bytes (volume_entry name)) (concat (map volume_bytes (map volume_entry names))) in
    let first : length (volume_bytes (volume_entry name)) ≡ suc (suc (length name)) = refl in
    omega (arith, one, rest, both, first)

volumes-fit : (names : List (List ℕ)) → list_all (is_name longest_volume) names ≡ true → AllByRecursion FitsVolume (map volume_entry names)
volumes-fit [] named = tt
volumes-fit (name ∷ names) named =
    let e = and_parts (is_name longest_volume name) (list_all (is_name longest_volume) names) named in
    let one = name-short longest_volume name e.0 in
    ((omega arith, omega (arith, one)), volumes-fit names e.1)

volumes-named : (house : Household) → IsFaultless house → list_all (is_name longest_volume) house.volumes ≡ true
volumes-named house has = all-each (is_name longest_volume) house.volumes has.volume_names

time-fits : (now : ℕ) → is_moment now ≡ true → FitsSigned w32 (pos now)
time-fits now h = record { sfits = let k = leb-true now 2147483647 h in omega arith }

parms-short : (w : World) → IsSound w → length (canonical_reply (ServerParams (pos w.latest) (map volume_entry w.house.volumes))) ≤ payload_limit
parms-short w h =
    let has = house-of w h in
    let few = has.few_volumes in
    let rest = volumes-short w.house.volumes (volumes-named w.house has) in
    let whole : length (canonical_reply (ServerParams (pos w.latest) (map volume_entry w.house.volumes))) ≡ suc (suc (suc (suc (suc (length (concat (map volume_bytes (map volume_entry w.house.volumes)))))))) = refl in
    omega (arith, few, rest, whole)

parms-ask : (w : World) → Asks GetSrvrParms (ServerParams (pos w.latest) (map volume_entry w.house.volumes))
unfolding shape_of shape_in rows
parms-ask w = refl

pub get-srvr-parms-sound : IsSoundRow GetSrvrParms get_srvr_parms_row
get-srvr-parms-sound =
    only-tells-sound GetSrvrParms (λ w s. []) (λ w s. ServerParams (pos w.latest) (map volume_entry w.house.volumes))
    (λ w s. refl)
    (λ w s passes h. parms-short w h)
    (λ w s passes h known.
    let has = house-of w h in
    let few = has.few_volumes in
    let same = length-map w.house.volumes volume_entry in
    record { fits = (time-fits w.latest (fields-parts w h.typed).latest, omega (arith, few, same), volumes-fit w.house.volumes (volumes-named w.house has)); told = parms-ask w })

-- FPGetUserInfo

optional-short : (b : Bool) (x : ℕ) → length (optional_bytes (cond b (Some x) None)) ≤ 4
optional-short true x = let is = length-big_bytes 4 x in omega (arith, is)
optional-short false x = omega arith

optional-fits : (b : Bool) (x : ℕ) → x < 4294967296 → FitsOptional b (cond b (Some x) None)
optional-fits true x small = small
optional-fits false x small = tt

user-info-short : (bits id : ℕ) → length (canonical_reply (user_info bits id)) ≤ payload_limit
user-info-short bits id =
    let u = where_asked bits user_id_bit id in
    let g = where_asked bits group_id_bit everyone_id in
    let us = optional-short (is_asked bits user_id_bit) id in
    let gs = optional-short (is_asked bits group_id_bit) everyone_id in
    let both = length-append (optional_bytes u) (optional_bytes g ++ []) in
    let last = length-append (optional_bytes g) [] in
    let whole : length (canonical_reply (user_info bits id)) ≡ suc (suc (length (optional_bytes u ++ (optional_bytes g ++ [])))) = refl in
    omega (arith, us, gs, both, last, whole)

user-asks : (flag id bits own : ℕ) → Asks (GetUserInfo flag id bits) (user_info bits own)
unfolding shape_of shape_in rows
user-asks flag id bits own = (refl, refl)

pub get-user-info-sound : (flag id bits : ℕ) → IsSoundRow (GetUserInfo flag id bits) (get_user_info_row flag id bits)
get-user-info-sound flag id bits =
    only-tells-sound (GetUserInfo flag id bits) ((get_user_info_row flag id bits).refusals) (λ w s. user_info bits (id_of s.user))
    (λ w s. refl)
    (λ w s passes h. user-info-short bits (id_of s.user))
    (λ w s passes h known.
    let first = clear (is_outside user_info_mask bits || (bits == 0)) _ _ passes in
    record {
      fits = (
        within user_info_mask bits (or_parts (is_outside user_info_mask bits) (bits == 0) first.0).0,
        optional-fits (is_asked bits user_id_bit) (id_of s.user) (known-small w.house.users s.user (users-small w.house (house-of w h)) (known refl)),
        optional-fits (is_asked bits group_id_bit) everyone_id (omega arith),
      );
      told = user-asks flag id bits (id_of s.user);
    })

-- FPMapID

abbrev IsShortName : Option (List ℕ) → Type 0
IsShortName None = Unit {0}
IsShortName (Some name) = length name ≤ 31

user-name-short : (users : List User) (id : ℕ) → list_all (λ user. is_name longest_user user.name) users ≡ true → IsShortName (user_name_of users id)
user-name-short users id named =
    cond_both (id == guest_id) (Some guest_name) (option_map (λ (user : User). user.name) (user_with_id users id)) IsShortName
    (λ guest. let five : length guest_name ≡ 5 = refl in omega (arith, five))
    (λ other. by (user_with_id users id) refl)
  where
    by : (o : Option User) → user_with_id users id ≡ o → IsShortName (option_map (λ (user : User). user.name) o)
    by None is = tt
    by (Some user) is = name-short longest_user user.name (find-all (λ user. user.id == id) (λ user. is_name longest_user user.name) users user is named)

group-name-short : (id : ℕ) → IsShortName (group_name_of id)
group-name-short id =
    cond_both (id == everyone_id) (Some everyone_name) None IsShortName
    (λ everyone. let eight : length everyone_name ≡ 8 = refl in omega (arith, eight))
    (λ other. tt)

-- a function that has a name says how it is told
abbrev IsWidthOf : ℕ → Type 0
IsWidthOf function = is_wide function ≡ Some (is_utf8_function function)

wide-one : IsWidthOf 1
unfolding is_wide
wide-one = refl

wide-two : IsWidthOf 2
unfolding is_wide
wide-two = refl

wide-three : IsWidthOf 3
unfolding is_wide
wide-three = refl

wide-four : IsWidthOf 4
unfolding is_wide
wide-four = refl

users-wide : (function : ℕ) → is_about_users function ≡ true → IsWidthOf function
users-wide function h = elim (or_cases (function == user_id_to_name) (function == user_id_to_utf8_name) h) [
  | inl one ↦ subst IsWidthOf (sym (eqb-true function 1 one)) wide-one
  | inr three ↦ subst IsWidthOf (sym (eqb-true function 3 three)) wide-three
]

groups-wide : (function : ℕ) → is_about_groups function ≡ true → IsWidthOf function
groups-wide function h = elim (or_cases (function == group_id_to_name) (function == group_id_to_utf8_name) h) [
  | inl two ↦ subst IsWidthOf (sym (eqb-true function 2 two)) wide-two
  | inr four ↦ subst IsWidthOf (sym (eqb-true function 4 four)) wide-four
]

-- what is known of the name of an id
abbrev IsNamed : ℕ → Option (List ℕ) → Type 0
IsNamed function None = Unit {0}
IsNamed function (Some name) = IsWidthOf function × (length name ≤ 31)

both-named : (function : ℕ) (o : Option (List ℕ)) → IsWidthOf function → IsShortName o → IsNamed function o
both-named function None wide short = tt
both-named function (Some name) wide short = (wide, short)

name-told : (w : World) (function id : ℕ) → IsSound w → IsNamed function (name_of_id w.house.users function id)
name-told w function id h =
    cond_both (is_about_users function) (user_name_of w.house.users id) (cond (is_about_groups function) (group_name_of id) None) (IsNamed function)
    (λ user. both-named function (user_name_of w.house.users id) (users-wide function user) (user-name-short w.house.users id (users-named w.house (house-of w h))))
    (λ other. cond_both (is_about_groups function) (group_name_of id) None (IsNamed function)
    (λ group. both-named function (group_name_of id) (groups-wide function group) (group-name-short id))
    (λ none. tt))

name-reply-short : (function : ℕ) (o : Option (List ℕ)) → IsNamed function o → length (canonical_reply (name_reply function o)) ≤ payload_limit
name-reply-short function None named = omega arith
name-reply-short function (Some name) named = by (is_utf8_function function)
  where
    by : (wide : Bool) → length (canonical_reply (MappedName wide name)) ≤ payload_limit
    by true = let few = named.1 in let whole : length (canonical_reply (MappedName true name)) ≡ suc (suc (length (name ++ []))) = refl in let end = length-append name [] in omega (arith, few, whole, end)
    by false = let few = named.1 in let whole : length (canonical_reply (MappedName false name)) ≡ suc (length (name ++ [])) = refl in let end = length-append name [] in omega (arith, few, whole, end)

name-fits-width : (wide : Bool) (name : List ℕ) → length name ≤ 31 → length name < 256 ^ width wide
name-fits-width true name few = omega (arith, few)
name-fits-width false name few = omega (arith, few)

name-asks : (function id : ℕ) (name : List ℕ) → IsWidthOf function → Asks (MapID function id) (MappedName (is_utf8_function function) name)
unfolding shape_of shape_in rows
name-asks function id name wide = (refl, wide)

name-fits : (function id : ℕ) (o : Option (List ℕ)) → IsNamed function o → is_none o ≡ false → FitsRequest (reply_kind (MapID function id)) Ok (name_reply function o)
name-fits function id None named there = absurd (cc)
name-fits function id (Some name) named there = record { fits = name-fits-width (is_utf8_function function) name named.1; told = name-asks function id name named.0 }

pub map-id-sound : (function id : ℕ) → IsSoundRow (MapID function id) (map_id_row function id)
map-id-sound function id =
    only-tells-sound (MapID function id) ((map_id_row function id).refusals) (λ w s. name_reply function (name_of_id w.house.users function id))
    (λ w s. refl)
    (λ w s passes h. name-reply-short function (name_of_id w.house.users function id) (name-told w function id h))
    (λ w s passes h known. name-fits function id (name_of_id w.house.users function id) (name-told w function id h) (clear (is_none (name_of_id w.house.users function id)) _ _ passes).0)

-- FPMapName

abbrev IsSmallId : Option ℕ → Type 0
IsSmallId None = Unit {0}
IsSmallId (Some id) = id < 4294967296

user-id-small : (users : List User) (name : List ℕ) → list_all is_small users ≡ true → IsSmallId (user_id_of users name)
user-id-small users name small =
    cond_both (bytes_eq name guest_name) (Some guest_id) (option_map (λ (user : User). user.id) (user_with_name users name)) IsSmallId
    (λ guest. omega arith)
    (λ other. by (user_with_name users name) refl)
  where
    by : (o : Option User) → user_with_name users name ≡ o → IsSmallId (option_map (λ (user : User). user.id) o)
    by None is = tt
    by (Some user) is = ltb-true user.id 4294967296 (find-all (λ user. bytes_eq user.name name) is_small users user is small)

group-id-small : (name : List ℕ) → IsSmallId (group_id_of name)
group-id-small name = cond_both (bytes_eq name everyone_name) (Some everyone_id) None IsSmallId (λ everyone. omega arith) (λ other. tt)

id-small : (w : World) (function : ℕ) (name : List ℕ) → IsSound w → IsSmallId (id_of_name w.house.users function name)
id-small w function [] h = omega arith
id-small w function (byte ∷ bytes) h =
    cond_both (is_about_users function) (user_id_of w.house.users (byte ∷ bytes)) (group_id_of (byte ∷ bytes)) IsSmallId
    (λ user. user-id-small w.house.users (byte ∷ bytes) (users-small w.house (house-of w h)))
    (λ group. group-id-small (byte ∷ bytes))

id-reply-short : (o : Option ℕ) → length (canonical_reply (id_reply o)) ≤ payload_limit
id-reply-short None = omega arith
id-reply-short (Some id) = let whole : length (canonical_reply (MappedId id)) ≡ 4 = refl in omega (arith, whole)

id-asks : (function : ℕ) (name : List ℕ) (id : ℕ) → Asks (MapName function name) (MappedId id)
unfolding shape_of shape_in rows
id-asks function name id = refl

id-fits : (function : ℕ) (name : List ℕ) (o : Option ℕ) → IsSmallId o → is_none o ≡ false → FitsRequest (reply_kind (MapName function name)) Ok (id_reply o)
id-fits function name None small there = absurd (cc)
id-fits function name (Some id) small there = record { fits = small; told = id-asks function name id }

pub map-name-sound : (function : ℕ) (name : List ℕ) → IsSoundRow (MapName function name) (map_name_row function name)
map-name-sound function name =
    only-tells-sound (MapName function name) ((map_name_row function name).refusals) (λ w s. id_reply (id_of_name w.house.users function name))
    (λ w s. refl)
    (λ w s passes h. id-reply-short (id_of_name w.house.users function name))
    (λ w s passes h known. id-fits function name (id_of_name w.house.users function name) (id-small w function name h) (clear (is_none (id_of_name w.house.users function name)) _ _ passes).0)

-- FPGetSrvrMsg

since-short : (drain : Option ℕ) → length (message_since drain) ≤ 199
since-short None = omega arith
since-short (Some moment) = let some : length closing_message ≡ 22 = refl in omega (arith, some)

message-short : (w : World) (kind : ℕ) → IsSound w → length (message_of w kind) ≤ 199
message-short w kind h =
    cond_both (kind == login_message) w.house.message (message_since w.drain) (λ m. length m ≤ 199)
    (λ login. text-short longest_message w.house.message (house-of w h).message)
    (λ server. since-short w.drain)

message-bytes-short : (wide asked : Bool) (text : List ℕ) → length text ≤ 199 → length (message_bytes wide (cond asked (Some text) None)) ≤ 201
message-bytes-short true true text few = let whole : length (message_bytes true (Some text)) ≡ suc (suc (length text)) = refl in omega (arith, few, whole)
message-bytes-short false true text few = let whole : length (message_bytes false (Some text)) ≡ suc (length text) = refl in omega (arith, few, whole)
message-bytes-short wide false text few = omega arith

message-reply-short : (kind bits : ℕ) (text : List ℕ) → length text ≤ 199 → length (canonical_reply (Message kind bits (cond (is_asked bits message_bit) (Some text) None))) ≤ payload_limit
message-reply-short kind bits text few =
    let bytes = message_bytes (is_asked bits utf8_bit) (cond (is_asked bits message_bit) (Some text) None) in
    let short = message-bytes-short (is_asked bits utf8_bit) (is_asked bits message_bit) text few in
    let end = length-append bytes [] in
    let whole : length (canonical_reply (Message kind bits (cond (is_asked bits message_bit) (Some text) None))) ≡ suc (suc (suc (suc (length (bytes ++ []))))) = refl in
    omega (arith, short, end, whole)

text-fits : (wide asked : Bool) (text : List ℕ) → length text ≤ 199 → FitsText wide asked (cond asked (Some text) None)
text-fits true true text few = omega (arith, few)
text-fits false true text few = omega (arith, few)
text-fits wide false text few = tt

message-asks : (kind bits : ℕ) (message : Option (List ℕ)) → Asks (GetSrvrMsg kind bits) (Message kind bits message)
unfolding shape_of shape_in rows
message-asks kind bits message = (refl, refl)

pub get-srvr-msg-sound : (kind bits : ℕ) → IsSoundRow (GetSrvrMsg kind bits) (get_srvr_msg_row kind bits)
get-srvr-msg-sound kind bits =
    only-tells-sound (GetSrvrMsg kind bits) ((get_srvr_msg_row kind bits).refusals) (λ w s. Message kind bits (cond (is_asked bits message_bit) (Some (message_of w kind)) None))
    (λ w s. refl)
    (λ w s passes h. message-reply-short kind bits (message_of w kind) (message-short w kind h))
    (λ w s passes h known.
    let first = clear (not (nat_le kind server_message)) _ _ passes in
    let second = clear (is_outside message_mask bits) _ _ first.1 in
    let low = leb-true kind server_message (not-false (nat_le kind server_message) first.0) in
    record {
      fits = (omega (arith, low), within message_mask bits second.0, text-fits (is_asked bits utf8_bit) (is_asked bits message_bit) (message_of w kind) (message-short w kind h));
      told = message-asks kind bits (cond (is_asked bits message_bit) (Some (message_of w kind)) None);
    })
