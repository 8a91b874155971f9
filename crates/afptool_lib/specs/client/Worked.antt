-- Lines of words, worked by hand: what they say, and which say nothing (this profile).
use Rattle.std.specs.Prelude.{◌≡◌, List, ℕ, [], ◌∷◌, Option, Some, None, codes}
use Rattle.afptool_lib.specs.client.Words.{client_in}
use Rattle.afptool_lib.specs.declared.client.words.ClientWords.{ClientWords}

abbrev pub guest_at : List ℕ → ClientWords
guest_at address = record { login = record { user = None }; address = address }

-- ann, whose password is `secret` and two zeros
abbrev pub ann_at : List ℕ → ClientWords
ann_at address = record { login = record { user = Some (codes "ann", 115 ∷ 101 ∷ 99 ∷ 114 ∷ 101 ∷ 116 ∷ 0 ∷ 0 ∷ []) }; address = address }

pub record SaysGood : Type 0 where
  pub guest : client_in (codes "client" ∷ codes "host:549" ∷ []) ≡ Some (guest_at (codes "host:549"))
  pub user : client_in (codes "client" ∷ codes "--user" ∷ codes "ann:secret" ∷ codes "host" ∷ []) ≡ Some (ann_at (codes "host"))
  pub joined : client_in (codes "client" ∷ codes "--user=ann:secret" ∷ codes "host" ∷ []) ≡ Some (ann_at (codes "host"))
  pub behind : client_in (codes "client" ∷ codes "host" ∷ codes "--user" ∷ codes "ann:secret" ∷ []) ≡ Some (ann_at (codes "host"))

pub record SaysBad : Type 0 where
  pub none : client_in [] ≡ None
  pub other : client_in (codes "replay" ∷ codes "host" ∷ []) ≡ None
  pub no_address : client_in (codes "client" ∷ []) ≡ None
  pub two_addresses : client_in (codes "client" ∷ codes "host" ∷ codes "host" ∷ []) ≡ None
  pub help : client_in (codes "client" ∷ codes "--help" ∷ []) ≡ None
  pub no_colon : client_in (codes "client" ∷ codes "--user" ∷ codes "ann" ∷ codes "host" ∷ []) ≡ None
  pub no_name : client_in (codes "client" ∷ codes "--user" ∷ codes ":secret" ∷ codes "host" ∷ []) ≡ None
  pub long_password : client_in (codes "client" ∷ codes "--user" ∷ codes "ann:123456789" ∷ codes "host" ∷ []) ≡ None
  pub two_users : client_in (codes "client" ∷ codes "--user" ∷ codes "ann:a" ∷ codes "--user" ∷ codes "ann:a" ∷ codes "host" ∷ []) ≡ None
