-- What a teller is asked, as worlds that follow one another (this profile).
use Rattle.std.specs.Prelude.{◌≡◌, ℕ, ◌+◌, Bool, true, if◌then◌else◌, List, [], ◌∷◌, ◌++◌, length, nat_eq}
use Rattle.std.specs.List.{list_all}
use Rattle.afp_serial.specs.declared.ask.Entry.{Entry}
use Rattle.afp_serial.specs.declared.ask.Outcome.{Outcome}
use Rattle.afp_serial.specs.declared.ask.Told.{Told}
use Rattle.afp_serial.specs.declared.ask.Told.TheVariants.{Opened, Reply, Live, Done, Displaced, Memory}
use Rattle.afp_serial.specs.Answer.{after, answer, is_legal}
use Rattle.afp_serial.specs.History.{entry, is_lawful, stand}
use Rattle.afp_serial.specs.Shown.{Shown}
use Rattle.afp_serial.specs.Went.{Step, Went}
use Rattle.afp_serial.specs.World.{World}

-- A step is an entry that is legal in a world, and is told the answer there; behind it stands the next world.
pub record IsEntry (w : World) (s : Step) (e : Entry) (behind : World) : Type 0 where
  pub outcome : Outcome
  pub is : e ≡ entry s.at s.link s.ask outcome
  pub legal : is_legal w e ≡ true
  pub told : s.told ≡ answer w e
  pub left : behind ≡ after w e

abbrev pub BecomesEntry : World → Step → List Entry → World → Type 0
BecomesEntry w s es behind = (e : Entry) × (es ≡ e ∷ []) × IsEntry w s e behind

-- A step that is asked at a world, by what it is told: it becomes an entry; or it is told Memory, and is none.
abbrev pub AskedBy : World → Step → Told → List Entry → World → Type 0
AskedBy w s (Opened link) es behind = BecomesEntry w s es behind
AskedBy w s (Reply code block ends) es behind = BecomesEntry w s es behind
AskedBy w s (Live drain) es behind = BecomesEntry w s es behind
AskedBy w s Done es behind = BecomesEntry w s es behind
AskedBy w s Displaced es behind = BecomesEntry w s es behind
AskedBy w s Memory es behind = (es ≡ []) × (behind ≡ w)

abbrev pub AskedAt : World → Step → List Entry → World → Type 0
AskedAt w s es behind = AskedBy w s s.told es behind

-- Steps that are asked from a world on, one at the world that the one before it left: their entries, and the world behind them.
abbrev pub AskedAlone : World → List Step → List Entry → World → Type 0
AskedAlone w [] es behind = (es ≡ []) × (behind ≡ w)
AskedAlone w (s ∷ ss) es behind = (first : List Entry) × (rest : List Entry) × (mid : World) × AskedAt w s first mid × AskedAlone mid ss rest behind × (es ≡ first ++ rest)

-- entries of others: legal, one after the other, and each passes this test
abbrev pub AreOthers : (Entry → Bool) → World → List Entry → Type 0
AreOthers p w es = (is_lawful w es ≡ true) × (list_all p es ≡ true)

-- The same among entries of others: some stand before each step, and some behind the last.
abbrev pub AskedAmong : (Entry → Bool) → World → List Step → List Entry → World → Type 0
AskedAmong p w [] es behind = AreOthers p w es × (behind ≡ stand w es)
AskedAmong p w (s ∷ ss) es behind =
    (others : List Entry) × (first : List Entry) × (rest : List Entry) × (mid : World) × AreOthers p w others × AskedAt (stand w others) s first mid × AskedAmong p mid ss rest behind
    × (es ≡ others ++ (first ++ rest))

-- the world at the end of the history that a teller shows
abbrev pub world_of : Shown → World
world_of a = stand a.start a.history

-- the entries, from the place k on, at none of these places, which rise
abbrev pub others_in : ℕ → List ℕ → List Entry → List Entry
others_in k places [] = []
others_in k [] (e ∷ es) = e ∷ others_in (k + 1) [] es
others_in k (j ∷ js) (e ∷ es) = if nat_eq j k then others_in (k + 1) js es else e ∷ others_in (k + 1) (j ∷ js) es

-- All that others asked a teller since then passes this test: the entries that it shows more, but for its own.
abbrev pub OthersPassSince : (Entry → Bool) → Shown → Shown → Type 0
OthersPassSince p a b = (more : List Entry) (places : List ℕ) → b.history ≡ a.history ++ more → b.mine ≡ a.mine ++ places → list_all p (others_in (length a.history) places more) ≡ true

-- The law: the steps of a teller stand in its history, in order, among the entries of others.
abbrev pub TellersAreAskedInOrder : Type 0
TellersAreAskedInOrder =
    (p : Entry → Bool) (a b : Shown) (steps : List Step) → is_lawful b.start b.history ≡ true → OthersPassSince p a b → (went : Went a steps b) → AskedAmong p (world_of a) steps went.between (world_of b)

-- each entry of the history is an ask of the teller's own
abbrev pub AsksAlone : Shown → Type 0
AsksAlone a = length a.mine ≡ length a.history

-- And of a teller that alone asks: nobody's entry stands between.
abbrev pub SoleTellersAreAskedAlone : Type 0
SoleTellersAreAskedAlone =
    (a b : Shown) (steps : List Step) → is_lawful b.start b.history ≡ true → AsksAlone a → AsksAlone b → (went : Went a steps b) → AskedAlone (world_of a) steps went.between (world_of b)
