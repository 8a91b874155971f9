-- The options of an OpenSession request and of its reply (AFP over TCP, "DSIOpenSession"). Numbers are
-- big-endian.
use Rattle.std.specs.Prelude.{◌≡◌, ◌≢◌, ◌==◌, ◌&&◌, ℕ, List, [], ◌∷◌, ◌++◌, length, Option, Some, None, unwrap_or, if◌then◌else◌}
use Rattle.std.specs.List.{flat_map, filter_map, last_or}
use Rattle.afp_base.specs.Limits.{replay_cache_size}
use Rattle.byteorder.specs.Endian.{big_number, big_bytes}

-- the types of options: the most bytes of a request that the server takes, the most bytes of an attention
-- that the client takes, how many replies the server keeps
abbrev pub request_quantum_type : ℕ
request_quantum_type = 0

abbrev pub attention_quantum_type : ℕ
attention_quantum_type = 1

abbrev pub replay_cache_type : ℕ
replay_cache_type = 2

-- bytes of the value of each of these
abbrev pub number_length : ℕ
number_length = 4

-- the attention quantum of a client that tells none (AFP over TCP)
abbrev pub default_attention_quantum : ℕ
default_attention_quantum = 2

-- what this server tells beside the size of its replay cache (this profile)
abbrev pub request_quantum : ℕ
request_quantum = 130048

-- an option: its type, and its value
pub record SessionOption : Type 0 where
  pub kind : ℕ
  pub value : List ℕ

-- its bytes: type 1, length 1, value
abbrev pub option_spelling : SessionOption → List ℕ
option_spelling option = option.kind ∷ length option.value ∷ option.value

-- the payload is these options, one after another
abbrev pub AreOptions : List ℕ → List SessionOption → Type 0
AreOptions payload options = payload ≡ flat_map option_spelling options

-- these options fill the payload up to the place `at`, where bytes are left that begin with no option
pub record OptionsStopAt (payload : List ℕ) (options : List SessionOption) (at : ℕ) : Type 0 where
  pub left : List ℕ
  pub whole : payload ≡ flat_map option_spelling options ++ left
  pub place : at ≡ length (flat_map option_spelling options)
  pub some_left : left ≢ []
  pub no_option : (option : SessionOption) (more : List ℕ) → left ≢ option_spelling option ++ more

-- the attention quantum that an option tells, where it has that type and length
abbrev pub attention_in : SessionOption → Option ℕ
attention_in option =
    if option.kind == attention_quantum_type && length option.value == number_length
    then Some (big_number number_length option.value) else None

-- the attention quantum of options: the last one that is told
abbrev pub attention_of : List SessionOption → ℕ
attention_of options = unwrap_or (last_or None (filter_map attention_in options)) default_attention_quantum

-- an option whose value is a number
abbrev pub number_option : ℕ → ℕ → SessionOption
number_option kind n = record { kind = kind; value = big_bytes number_length n }

-- the options that the server answers
abbrev pub server_options : List SessionOption
server_options = number_option request_quantum_type request_quantum ∷ number_option replay_cache_type replay_cache_size ∷ []
