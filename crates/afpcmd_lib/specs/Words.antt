-- What the words of the command line say (this profile).
use Rattle.std.specs.Prelude.{◌≡◌, ℕ, Bool, ◌||◌, List, Option, Some, codes, map, option_map, nat_lt}
use Rattle.clap.specs.Walk.{Row, all_of, count_of, first_of}
use Rattle.afpcmd_lib.specs.declared.words.Words.{Words}

-- a letter stands there
abbrev pub is_set : List ℕ → List Row → Bool
is_set name rows = nat_lt 0 (count_of name rows)

-- each value is what stands in the rows of the command line
pub record IsSaid (rows : List Row) (said : Words) : Type 0 where
  pub user : option_map (λ text. text.now) said.user ≡ first_of (codes "user") rows
  pub port : option_map (λ text. text.now) said.port ≡ first_of (codes "port") rows
  pub password_file : option_map (λ text. text.now) said.password_file ≡ first_of (codes "password-file") rows
  pub batch : option_map (λ text. text.now) said.batch ≡ first_of (codes "batch") rows
  pub wait : option_map (λ text. text.now) said.wait ≡ first_of (codes "wait") rows
  pub quiet : said.quiet ≡ is_set (codes "quiet") rows
  pub long : said.flags.long ≡ is_set (codes "long") rows
  pub deep : said.flags.deep ≡ (is_set (codes "deep") rows || is_set (codes "all") rows)
  pub go_on : said.flags.go_on ≡ is_set (codes "go-on") rows
  pub words : all_of (codes "words") rows ≡ Some (map (λ word. word.now) said.words.items)
