-- What happenings do (this profile).
use Rattle.std.specs.Prelude.{◌≡◌, ◌⊎◌, ℕ, ◌-◌, suc, min, Bool, true, false, List, [], ◌∷◌, ◌++◌, map, drop, length}
use Rattle.std.specs.List.{AllByRecursion}
use Rattle.afp_client.specs.declared.session.event.Event.{Event}
use Rattle.afp_client.specs.declared.session.event.Event.TheVariants as events
use Rattle.dsi_frame.specs.Buffered.{buffer_length}
use Rattle.once_across_breaks_code.specs.run.Doings.{Doing}
use Rattle.once_across_breaks_code.specs.run.Doings as doings
use Rattle.once_across_breaks_code.specs.run.Things.{Things}
use Rattle.once_across_breaks_live.specs.declared.happening.Happening.{Happening}
use Rattle.once_across_breaks_live.specs.declared.happening.Happening.TheVariants as happenings
use Rattle.once_across_breaks_live.specs.Skips.{CanBe, at_link, place_of}
use Rattle.once_across_breaks_live.specs.Steps.{Server, Steps}

-- whether the client waits for more bytes, or meets a frame that it does not take
abbrev pub is_last : Event → Bool
is_last events.NotYet = true
is_last (events.Bad at) = true
is_last event = false

abbrev pub GoesOn : Event → Type 0
GoesOn event = is_last event ≡ false

-- The client takes each frame that came whole: these events, until it waits for more bytes.
pub record AreTakings (ds : List Doing) : Type 0 where
  pub events : List Event
  pub goes_on : AllByRecursion GoesOn events
  pub last : Event
  pub ends : is_last last ≡ true
  pub are : ds ≡ map doings.Takes events ++ doings.Takes last ∷ []

-- for how many bytes the client has room
abbrev pub room : Things → ℕ
room t = buffer_length - length t.client.held.rest

-- bytes reach a server end
pub record Reaches (link n now : ℕ) (t : Things) (ds : List Doing) (s : Things) : Type 0 where
  pub are : ds ≡ doings.Reaches (place_of link) now ∷ []
  pub moved : (at_link s link).up ≡ drop n (at_link t link).up

-- bytes reach the client, as many as it has room for, and it takes the frames that came
pub record Comes (n : ℕ) (t : Things) (ds : List Doing) (s : Things) : Type 0 where
  pub taken : List Doing
  pub takings : AreTakings taken
  pub are : ds ≡ doings.Brings ∷ taken
  pub moved : (s.lanes t.top).down ≡ drop (min n (room t)) (t.lanes t.top).down

-- the client begins its next link, of that server
pub record Begins (server : Server) (t : Things) (ds : List Doing) (s : Things) : Type 0 where
  pub are : ds ≡ doings.Breaks ∷ []
  pub serves : (s.lanes (suc t.top)).wire.block ≡ server.block

-- the steps that a happening makes
abbrev pub AreStepsOf : Server → Happening → Things → List Doing → Things → Type 0
AreStepsOf server (happenings.Asks call) t ds s = ds ≡ doings.Asks call ∷ []
AreStepsOf server (happenings.ToServer link n now) t ds s = Reaches link n now t ds s
AreStepsOf server (happenings.ToClient link n) t ds s = Comes n t ds s
AreStepsOf server (happenings.Quiet link now) t ds s = ds ≡ doings.Quiets (place_of link) now ∷ []
AreStepsOf server (happenings.Lost link now) t ds s = ds ≡ doings.Loses (place_of link) now ∷ []
AreStepsOf server happenings.Breaks t ds s = Begins server t ds s
AreStepsOf server (happenings.Others now link ask) t ds s = ds ≡ doings.Others now link ask ∷ []

-- It can be, and makes its steps.
pub record IsDone (server : Server) (h : Happening) (t : Things) (ds : List Doing) (s : Things) : Type 0 where
  pub can : CanBe h t
  pub are : AreStepsOf server h t ds s
  pub steps : Steps server t ds s

-- It cannot be, and nothing is done.
pub record IsSkipped (h : Happening) (t : Things) (ds : List Doing) (s : Things) : Type 0 where
  pub cannot : CanBe h t → ⊥
  pub none : ds ≡ []
  pub same : s ≡ t

abbrev pub Happens : Server → Happening → Things → List Doing → Things → Type 0
Happens server h t ds s = IsDone server h t ds s ⊎ IsSkipped h t ds s

-- one after the other
abbrev pub AllHappen : Server → List Happening → Things → List Doing → Things → Type 0
AllHappen server [] t ds s = (ds ≡ []) × (s ≡ t)
AllHappen server (h ∷ hs) t ds s = (first : List Doing) × (rest : List Doing) × (mid : Things) × Happens server h t first mid × AllHappen server hs mid rest s × (ds ≡ first ++ rest)
