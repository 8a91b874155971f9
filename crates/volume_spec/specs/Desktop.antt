-- The desktop database of a volume, and what its calls do to its three lists (AFP Reference, "Desktop database"). Lists stand in the order of
-- their keys.
use Rattle.std.specs.Prelude.{◌≡◌, ℕ, ◌==◌, ◌-◌, nat_le, Bool, true, not, ◌&&◌, List, [], ◌∷◌, ◌++◌, length, map, take, drop, bytes_eq, slice_get, slice_index, Option, None, is_none, if◌then◌else◌}
use Rattle.std.specs.List.{list_all, filter, find}
use Rattle.volume_spec.specs.Order.{put_in, rises}
use Rattle.volume_spec.specs.TypedVolume.{is_typed_comment, is_typed_icon, is_typed_appl}
use Rattle.volume_spec.specs.SoundVolume.{icon_key, appl_key, is_comment, is_icon, code_size, most_icons, most_appls, longest_comment, longest_icon}
use Rattle.volume_spec.specs.VolumeState.{Comment, Icon, Appl}

-- what stands under a key, a list without it, and a list with an element in place of what stood under its key (this profile)
abbrev pub at_key : {A : Type 0} → (A → List ℕ) → List ℕ → List A → Option A
at_key key k list = find (λ x. bytes_eq (key x) k) list

abbrev pub without_key : {A : Type 0} → (A → List ℕ) → List ℕ → List A → List A
without_key key k list = filter (λ x. not (bytes_eq (key x) k)) list

abbrev pub put_at_key : {A : Type 0} → (A → List ℕ) → A → List A → List A
put_at_key key new list = put_in key new (without_key key (key new) list)

-- the element at a place that is counted from 1 (AFP Reference, "FPGetIconInfo", "FPGetAPPL")
abbrev pub nth_from_one : {A : Type 0} → List A → ℕ → Option A
nth_from_one list n = if n == 0 then None else slice_get list (n - 1)

-- FPAddIcon, FPGetIcon, FPGetIconInfo

-- an icon as it is asked to be put: of its bits the first 65,535 are kept (this profile)
abbrev pub icon_of : List ℕ → List ℕ → ℕ → ℕ → List ℕ → Icon
icon_of creator kind icon_kind tag bits = record { creator = creator; kind = kind; icon_kind = icon_kind; tag = tag; bits = take longest_icon bits }

-- the same under a key of nine bytes, creator, type and icon type
abbrev pub icon_under : List ℕ → ℕ → List ℕ → Icon
icon_under key tag bits = icon_of (take code_size key) (take code_size (drop code_size key)) (slice_index key (8)) tag bits

-- the icon under a creator, type and icon type
abbrev pub icon_at : List ℕ → List Icon → Option Icon
icon_at key icons = at_key icon_key key icons

-- the icons of a creator, by type and icon type
abbrev pub icons_of : List ℕ → List Icon → List Icon
icons_of creator icons = filter (λ icon. bytes_eq icon.creator creator) icons

abbrev pub nth_icon : List ℕ → ℕ → List Icon → Option Icon
nth_icon creator n icons = nth_from_one (icons_of creator icons) n

-- whether there is no room for the icon of a key: the limit is reached and the key is new
abbrev pub has_no_icon_room : List ℕ → List Icon → Bool
has_no_icon_room key icons = nat_le most_icons (length icons) && is_none (icon_at key icons)

-- an icon put under its creator, type and icon type
abbrev pub with_icon : Icon → List Icon → List Icon
with_icon icon icons = put_at_key icon_key icon icons

-- FPAddAPPL, FPRemoveAPPL, FPGetAPPL

-- what the mapping of a creator and a file stands by
abbrev pub pair_key : List ℕ → ℕ → List ℕ
pair_key creator node = creator ++ node ∷ []

-- the mapping of a creator and a file
abbrev pub appl_at : List ℕ → ℕ → List Appl → Option Appl
appl_at creator node appls = at_key appl_key (pair_key creator node) appls

-- the mappings of a creator, by file
abbrev pub appls_of : List ℕ → List Appl → List Appl
appls_of creator appls = filter (λ appl. bytes_eq appl.creator creator) appls

abbrev pub nth_appl : List ℕ → ℕ → List Appl → Option Appl
nth_appl creator n appls = nth_from_one (appls_of creator appls) n

-- whether there is no room for the mapping of a creator and a file: the limit is reached and the pair is new
abbrev pub has_no_appl_room : List ℕ → ℕ → List Appl → Bool
has_no_appl_room creator node appls = nat_le most_appls (length appls) && is_none (appl_at creator node appls)

-- a mapping put under its creator and file, and taken away
abbrev pub with_appl : Appl → List Appl → List Appl
with_appl appl appls = put_at_key appl_key appl appls

abbrev pub without_appl : List ℕ → ℕ → List Appl → List Appl
without_appl creator node appls = without_key appl_key (pair_key creator node) appls

-- the creators that have a mapping to a file
abbrev pub creators_of : ℕ → List Appl → List (List ℕ)
creators_of node appls = map (λ (appl : Appl). appl.creator) (filter (λ appl. appl.node == node) appls)

-- FPAddComment, FPRemoveComment, FPGetComment

-- what a comment stands by
abbrev pub comment_key : Comment → List ℕ
comment_key comment = comment.node ∷ []

-- the comment of a node
abbrev pub comment_at : ℕ → List Comment → Option Comment
comment_at node comments = find (λ comment. comment.node == node) comments

-- a comment taken away
abbrev pub without_comment : ℕ → List Comment → List Comment
without_comment node comments = filter (λ comment. not (comment.node == node)) comments

-- a comment put: the first 199 bytes of its text are kept; an empty text takes the comment away
abbrev pub with_comment : ℕ → List ℕ → List Comment → List Comment
with_comment node text comments =
    if length text == 0 then without_comment node comments
    else put_in comment_key (record { node = node; text = take longest_comment text }) (without_comment node comments)

-- FPDelete: with a node go its comment and its mappings
abbrev pub without_mappings : ℕ → List Appl → List Appl
without_mappings node appls = filter (λ appl. not (appl.node == node)) appls

-- a mapping whose creator has four bytes
abbrev pub is_appl : Appl → Bool
is_appl appl = length appl.creator == code_size

-- what holds of the lists of every desktop database: each stands by rising keys, so that no two elements have one key; each element is
-- formed; the limits are kept
pub record IsDesktop (comments : List Comment) (icons : List Icon) (appls : List Appl) : Type 0 where
  pub comments_rise : rises comment_key comments ≡ true
  pub icons_rise : rises icon_key icons ≡ true
  pub appls_rise : rises appl_key appls ≡ true
  pub comments_formed : list_all is_comment comments ≡ true
  pub icons_formed : list_all is_icon icons ≡ true
  pub appls_formed : list_all is_appl appls ≡ true
  pub few_icons : nat_le (length icons) most_icons ≡ true
  pub few_appls : nat_le (length appls) most_appls ≡ true

-- the numbers of all elements are in their ranges
pub record IsTypedDesktop (comments : List Comment) (icons : List Icon) (appls : List Appl) : Type 0 where
  pub comments_typed : list_all is_typed_comment comments ≡ true
  pub icons_typed : list_all is_typed_icon icons ≡ true
  pub appls_typed : list_all is_typed_appl appls ≡ true
