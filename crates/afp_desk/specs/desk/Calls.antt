-- What a seat is between its steps, and what a whole turn of it tells (this profile).
use Rattle.std.specs.Prelude.{◌≡◌, ℕ, ◌%◌, ◌^◌, ◌<◌, true, [], length, take}
use Rattle.afp_base.specs.declared.ids.LinkNumber.{LinkNumber}
use Rattle.afp_core_dispatch.specs.Asks.{takes_memory}
use Rattle.afp_serial.specs.declared.ask.Ask.{Ask}
use Rattle.afp_serial.specs.declared.ask.Told.{Told}
use Rattle.afp_serial.specs.declared.ask.Told.TheVariants.{Memory}
use Rattle.afp_serial.specs.History.{is_lawful, stand}
use Rattle.afp_serial.specs.Shown.{Rising, Asked, is_answer_to, fits_frame}
use Rattle.afp_serial.specs.Sound.{IsSound}
use Rattle.afp_desk.specs.declared.desk.view.Stage.TheVariants.{Idle, Waiting, Served}
use Rattle.afp_desk.specs.declared.desk.view.View.{View}
use Rattle.afp_desk.specs.desk.Rule.{shown_of}
use Rattle.afp_desk.specs.desk.Plays.{Mine, Call, ticket_in}

-- a call with what it is told
abbrev pub call_of : ℕ → LinkNumber → Ask → Told → Call
call_of now link ask told = record { now = now; link = link; ask = ask; told = told }

-- a seat that waits with the number of its ticket
pub record IsWaiting (me : Mine) (number : ℕ) : Type 0 where
  pub waits : me.0.stage ≡ Waiting (ticket_in me.0.stage)
  pub drawn : number ≡ ticket_in me.0.stage % 2 ^ 64
  pub live : 0 < me.0.share
  pub empty : me.1 ≡ []

-- a seat whose ticket is served
pub record IsServed (me : Mine) : Type 0 where
  pub served : me.0.stage ≡ Served (ticket_in me.0.stage)
  pub live : 0 < me.0.share

-- a seat between turns, with all that it has seen in one history
pub record Rests (me : Mine) : Type 0 where
  pub idle : me.0.stage ≡ Idle
  pub empty : me.1 ≡ []
  pub settled : length me.0.other ≡ 0
  pub live : 0 < me.0.share
  pub sound : IsSound me.0.start.world
  pub lawful : is_lawful me.0.start.world me.0.seen ≡ true
  pub sound_at : (k : ℕ) → IsSound (stand me.0.start.world (take k me.0.seen))
  pub within : Rising 0 me.0.mine (length me.0.seen)

-- what may be told
pub record Tells (ask : Ask) (told : Told) : Type 0 where
  pub answers : is_answer_to ask told ≡ true
  pub size : fits_frame told ≡ true
  pub memory : told ≡ Memory → takes_memory ask ≡ true

-- the seat asked, and keeps its share
pub record AskedAt (v : View) (now : ℕ) (link : LinkNumber) (ask : Ask) (told : Told) (w : View) : Type 0 where
  pub asked : Asked (shown_of v) now link ask told (shown_of w)
  pub tells : Tells ask told
  pub share : w.share ≡ v.share
  pub start : w.start ≡ v.start
