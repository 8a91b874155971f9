-- The laws, over the serial file server: for each key of its tokens, and whatever the client logs in with.
use Rattle.once_across_breaks.specs.once.Once.{CommandsOnce, NoneWithoutToken}
use Rattle.once_across_breaks.specs.once.Frames.{CommandsOnceCarried, OneFrame, OnlyTheWaiting}
use Rattle.once_across_breaks.specs.once.Bytes.{CommandsOnceInBytes, CommandsOnceOver}
use Rattle.once_across_breaks.specs.once.Dsi.{dsi}
use Rattle.once_across_breaks.specs.once.Serial.{IsSoundUnder, Setup, machine}

-- each command of the client has its effect once and in order, over every schedule
abbrev pub OnceInOrderAlways : Type 0
OnceInOrderAlways = (u : Setup) → CommandsOnce (IsSoundUnder u.key) (machine u)

abbrev pub NoTokenNoResults : Type 0
NoTokenNoResults = (u : Setup) → NoneWithoutToken (IsSoundUnder u.key) (machine u)

-- the same over links that carry lists of frames
abbrev pub OnceInOrderCarried : Type 0
OnceInOrderCarried = (u : Setup) → CommandsOnceCarried (IsSoundUnder u.key) (machine u)

abbrev pub OneFrameEach : Type 0
OneFrameEach = (u : Setup) → OneFrame (machine u)

abbrev pub OnlyTheWaitingEach : Type 0
OnlyTheWaitingEach = (u : Setup) → OnlyTheWaiting (machine u)

-- and over bytes, of which each event moves some; a frame is handled once it is whole
abbrev pub OnceInOrderInBytes : Type 0
OnceInOrderInBytes = (u : Setup) → CommandsOnceInBytes (IsSoundUnder u.key) (machine u)

-- so over the frames of the Data Stream Interface
abbrev pub OnceInOrderOverDsi : Type 0
OnceInOrderOverDsi = (u : Setup) → CommandsOnceOver (IsSoundUnder u.key) (machine u) (dsi u)
