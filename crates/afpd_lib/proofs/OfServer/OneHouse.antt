-- The words ask for one house.
use Rattle.std.proofs.Common.{◌≡◌, ◌∙◌, ℕ, List, [], ◌∷◌, map, refl, sym, ap, subst}
use Rattle.std.specs.Prelude.{Option, Some, None}
use Rattle.std.specs.List.{list_any, after_first, before_first}
use Rattle.std.specs.Str.Parse.{digits_value, without_leading_plus}
use Rattle.std.proofs.lemmas.Option.{same_Some}
use Rattle.hex.specs.Hex.{decode_sized}
use Rattle.afp_base.proofs.Facts.{never_both}
use Rattle.afp_base.specs.Limits.{signature_size}
use Rattle.afpd_lib.specs.words.Places.{AreVolumes, VolumeValue}
use Rattle.afpd_lib.specs.words.Users.{AreUsers, UserValue, comma, user_in}
use Rattle.afpd_lib.specs.words.Words.{SaysUsers, SaysWords, WordValues}
use Rattle.afpd_lib.specs.server.AskedHouse.{house_of}

one_user : (text : List ℕ) (u v : UserValue) → user_in text ≡ Some u → user_in text ≡ Some v → u ≡ v
one_user text u v a b = same_Some u v (sym a ∙ b)

-- a text lists one list of users
one_users : (text : List ℕ) (us vs : List UserValue) → AreUsers text us → AreUsers text vs → us ≡ vs
one_users text [] vs a b = absurd a
one_users text (u ∷ []) [] a b = absurd b
one_users text (u ∷ w ∷ us) [] a b = absurd b
one_users text (u ∷ []) (v ∷ []) a b = let first = one_user text u v a.1 b.1 in λ i. first i ∷ []
one_users text (u ∷ []) (v ∷ x ∷ vs) a b = absurd (never_both (list_any comma text) b.0 a.0)
one_users text (u ∷ w ∷ us) (v ∷ []) a b = absurd (never_both (list_any comma text) a.0 b.0)
one_users text (u ∷ w ∷ us) (v ∷ x ∷ vs) a b =
    let first = one_user (before_first comma text) u v a.1 b.1 in
    let rest = one_users (after_first comma text) (w ∷ us) (x ∷ vs) a.2 b.2 in
    λ i. first i ∷ rest i

said_users : (text : Option (List ℕ)) (us vs : List UserValue) → SaysUsers text us → SaysUsers text vs → us ≡ vs
said_users None us vs a b = a ∙ sym b
said_users (Some text) us vs a b = one_users text us vs a b

-- words name one list of volumes
one_names : (words : List (List ℕ)) (vs ws : List VolumeValue) → AreVolumes words vs → AreVolumes words ws → map (λ volume. volume.name) vs ≡ map (λ volume. volume.name) ws
one_names [] [] [] a b = refl
one_names [] [] (w ∷ ws) a b = absurd b
one_names [] (v ∷ vs) ws a b = absurd a
one_names (word ∷ words) [] ws a b = absurd a
one_names (word ∷ words) (v ∷ vs) [] a b = absurd b
one_names (word ∷ words) (v ∷ vs) (w ∷ ws) a b =
    let first : v.name ≡ w.name = a.0.name ∙ sym b.0.name in
    let rest = one_names words vs ws a.1 b.1 in
    λ i. first i ∷ rest i

one_signature : (words : List (List ℕ)) (s t : WordValues) → SaysWords words s → SaysWords words t → s.signature ≡ t.signature
one_signature words s t a b =
    let hex = same_Some a.says.hex b.says.hex (sym a.says.digits ∙ b.says.digits) in
    let same = ap (λ (h : List ℕ). decode_sized h signature_size) hex in
    cc (same, a.says.signature, b.says.signature)

one_volumes : (words : List (List ℕ)) (s t : WordValues) → SaysWords words s → SaysWords words t → map (λ volume. volume.name) s.volumes ≡ map (λ volume. volume.name) t.volumes
one_volumes words s t a b =
    let same = same_Some a.says.words b.says.words (sym a.says.places ∙ b.says.places) in
    one_names b.says.words s.volumes t.volumes (subst (λ (l : List (List ℕ)). AreVolumes l s.volumes) same a.says.volumes) b.says.volumes

pub one_house : (words : List (List ℕ)) (key : List ℕ) (s t : WordValues) → SaysWords words s → SaysWords words t → house_of s key ≡ house_of t key
one_house words key s t a b =
    let server = same_Some s.server t.server (sym a.says.server ∙ b.says.server) in
    let message = same_Some s.message t.message (sym a.says.message ∙ b.says.message) in
    let signature = one_signature words s t a b in
    let users = said_users _ s.users t.users a.says.users b.says.users in
    let volumes = one_volumes words s t a b in
    cc (server, message, signature, users, volumes)

-- and for one number of workers
pub one_workers : (words : List (List ℕ)) (s t : WordValues) → SaysWords words s → SaysWords words t → s.workers ≡ t.workers
one_workers words s t a b =
    let text : a.says.workers.text ≡ b.says.workers.text = same_Some a.says.workers.text b.says.workers.text (sym a.says.workers.found ∙ b.says.workers.found) in
    sym a.says.workers.spells.1 ∙ ap (λ word. digits_value 10 (without_leading_plus word)) text ∙ b.says.workers.spells.1
