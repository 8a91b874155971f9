-- Laws of the options of a payload: it is options or it stops, not both, and in one way.
use Rattle.std.specs.Prelude.{◌≡◌, ℕ, List, ◌⊎◌}
use Rattle.dsi_session.specs.Options.{SessionOption, AreOptions, OptionsStopAt}

-- a payload is options, or it stops where one does not fit
abbrev pub IsReadOrStops : Type 0
IsReadOrStops = (payload : List ℕ) →
    ((options : List SessionOption) × AreOptions payload options)
    ⊎ ((options : List SessionOption) × (at : ℕ) × OptionsStopAt payload options at)

-- it is not both
abbrev pub IsReadOneWay : Type 0
IsReadOneWay = (payload : List ℕ) (options others : List SessionOption) (at : ℕ) → AreOptions payload options → OptionsStopAt payload others at → ⊥

-- it is one list of options
abbrev pub HasOneList : Type 0
HasOneList = (payload : List ℕ) (options others : List SessionOption) → AreOptions payload options → AreOptions payload others → options ≡ others

-- it stops at one place, behind one list of options
abbrev pub StopsOnce : Type 0
StopsOnce = (payload : List ℕ) (options others : List SessionOption) (at place : ℕ) →
    OptionsStopAt payload options at → OptionsStopAt payload others place → (options ≡ others) × (at ≡ place)
