-- What each step tells (this profile).
use Rattle.std.specs.Prelude.{◌≡◌, ℕ, ◌%◌, ◌^◌, ◌≤◌, ◌==◌, MatchBool, Bool, true, false, Option, Some, List, [], ◌∷◌, ◌++◌, length, nat_le, sum}
use Rattle.atomic_table.specs.Table.{Step, Me}
use Rattle.afp_base.specs.Counts.{Rises}
use Rattle.afp_base.specs.declared.ids.LinkNumber.{LinkNumber}
use Rattle.afp_serial.specs.Answer.{link_number}
use Rattle.afp_serial.specs.History.{entry, is_lawful, faults_in}
use Rattle.afp_serial.specs.Shown.{Rising}
use Rattle.afp_serial.specs.declared.ask.Ask.{Ask}
use Rattle.afp_serial.specs.declared.ask.Ask.TheVariants as ask
use Rattle.afp_serial.specs.declared.ask.Entry.{Entry}
use Rattle.afp_serial.specs.declared.ask.Outcome.{Outcome}
use Rattle.afp_serial.specs.declared.ask.Told.{Told}
use Rattle.afp_serial.specs.declared.ask.Told.TheVariants.{Opened, Reply, Live, Done, Displaced, Memory}
use Rattle.afp_core.specs.turns.ServerState.{ServerState}
use Rattle.afp_core.specs.turns.Turn.{Turned}
use Rattle.afp_desk.specs.desk.StandsFor.{StandsFor}
use Rattle.afp_desk.specs.declared.desk.view.Stage.{Stage}
use Rattle.afp_desk.specs.declared.desk.view.Stage.TheVariants.{Idle, Waiting, Served}
use Rattle.afp_desk.specs.declared.desk.view.View.{View}

-- what a seat knows and the slots that it has
abbrev pub Mine : Type 0
Mine = Me (Option ServerState) View

-- the view at another stage
abbrev pub at_stage : View → Stage → View
at_stage v stage = record v { stage = stage }

-- the ticket of a stage
abbrev pub ticket_in : Stage → ℕ
ticket_in Idle = 0
ticket_in (Waiting t) = t
ticket_in (Served t) = t

-- the ticket that was found was drawn
pub record Draws (s : Step (Option ServerState)) (me : Mine) (found : ℕ) (me' : Mine) : Type 0 where
  pub ticket : ℕ
  pub number : found ≡ ticket % 2 ^ 64
  pub after : me' ≡ (at_stage me.0 (Waiting ticket), me.1)

-- the view once its ticket is served
abbrev pub served_view : View → List Entry → ServerState → View
served_view v h core = record v { seen = h; core = core; stage = Served (ticket_in v.stage) }

-- all of the history was seen, and the core taken, which stands for it
pub record Takes (me : Mine) (me' : Mine) : Type 0 where
  pub core : ServerState
  pub rest : List Entry
  pub after : me' ≡ (served_view me.0 (me.0.seen ++ rest) core, (0, Some core) ∷ me.1)
  pub stands : StandsFor me.0.start (me.0.seen ++ rest) core
  pub lawful : is_lawful me.0.start.world (me.0.seen ++ rest) ≡ true
  pub within : Rising 0 me.0.mine (length (me.0.seen ++ rest))
  pub rises : Rises (faults_in rest) (sum me.0.core.faults) (sum core.faults)

-- a look: the core is taken exactly where the number found is that of the ticket
abbrev pub Looks : Step (Option ServerState) → Mine → ℕ → Mine → Type 0
Looks s me found me' = MatchBool (found == ticket_in me.0.stage % 2 ^ 64) (Takes me me') (me' ≡ me)

-- a glance at the tickets that were drawn changes nothing
abbrev pub Glances : Step (Option ServerState) → Mine → ℕ → Mine → Type 0
Glances s me found me' = me' ≡ me

-- by whether the other history is the longer one
abbrev pub settled_if : Bool → View → View
settled_if true v = record v { seen = v.other; core = v.other_core; other = []; other_core = v.start }
settled_if false v = record v { other = []; other_core = v.start }

-- the seat keeps the longer history
abbrev pub settled : View → View
settled v = settled_if (nat_le (length v.seen) (length v.other)) v

-- both histories begin the longer one
pub record Settles (s : Step (Option ServerState)) (me : Mine) (found : ℕ) (me' : Mine) : Type 0 where
  pub after : me' ≡ (settled me.0, me.1)
  pub rest : List Entry
  pub one : (settled me.0).seen ≡ me.0.seen ++ rest
  pub other_rest : List Entry
  pub other : (settled me.0).seen ≡ me.0.other ++ other_rest
  pub lawful : is_lawful me.0.start.world (settled me.0).seen ≡ true
  pub within : Rising 0 me.0.mine (length (settled me.0).seen)
  pub small : me.0.share ≤ 4294967296

-- a call, and what it is told
pub record Call : Type 0 where
  pub now : ℕ
  pub link : LinkNumber
  pub ask : Ask
  pub told : Told

-- for a brand that is none
abbrev pub no_call : Call
no_call = record { now = 0; link = link_number 0; ask = ask.Drain; told = Memory }

-- the view with its entry at the end of the history
abbrev pub added_view : View → Entry → ServerState → View
added_view v e core = record v { seen = v.seen ++ e ∷ []; core = core; mine = v.mine ++ length v.seen ∷ []; stage = Idle }

-- the call became the last entry, and the core went back
pub record Enters (c : Call) (me : Mine) (me' : Mine) : Type 0 where
  pub outcome : Outcome
  pub core : ServerState
  pub slot : me.1 ≡ (0, Some core) ∷ []
  pub after : me' ≡ (added_view me.0 (entry c.now c.link c.ask outcome) core, [])
  pub turned : Turned me.0.core (entry c.now c.link c.ask outcome) c.told core

-- the end of a turn, by what was told
abbrev pub DecidesAs : Told → Call → Mine → Mine → Type 0
DecidesAs (Opened l) c me me' = Enters c me me'
DecidesAs (Reply code block ends) c me me' = Enters c me me'
DecidesAs (Live drain) c me me' = Enters c me me'
DecidesAs Done c me me' = Enters c me me'
DecidesAs Displaced c me me' = Enters c me me'
DecidesAs Memory c me me' = me' ≡ (at_stage me.0 Idle, [])

-- the same of a step
abbrev pub Decides : Call → Step (Option ServerState) → Mine → ℕ → Mine → Type 0
Decides c s me found me' = DecidesAs c.told c me me'
