-- Where a drill has come; no public contract cites it.
use Rattle.std.specs.Prelude.{◌≡◌, ◌<◌, ◌^◌, ℕ, suc, ◌+◌, Bool, not, if◌then◌else◌, count_by, map, codes, List, [], ◌∷◌, ◌++◌, Some, None}
use Rattle.afp_calls_grammar.specs.declared.grammar.call.Call.{Call}
use Rattle.afp_serial.specs.Answer.{answer}
use Rattle.afp_serial.specs.History.{stand}
use Rattle.afp_serial.specs.Household.{Household}
use Rattle.afp_serial.specs.Shown.{Shown}
use Rattle.afp_serial.specs.Token.{session_token}
use Rattle.afp_serial.specs.World.{fresh_world}
use Rattle.afp_serial.specs.declared.ask.Told.{Told}
use Rattle.dsi_session.specs.RequestIds.{id_after}
use Rattle.capture_made.specs.requests.Requests.{open_volume}
use Rattle.once_across_breaks.specs.same.Steps.{Step, all_asks, breaks_in, calls_on, first_asks, is_broken, is_ok, last_ask, link_behind, opens, rejoins, results, step_asks}
use Rattle.once_across_breaks.specs.declared.same.breaks.Break.{Break}
use Rattle.once_across_breaks_drill.specs.steps.Drilling.{Drawn, drill_steps, id_behind, steps_from, told_opening}
use Rattle.once_across_breaks_drill.specs.declared.steps.steps.DrillStep.{DrillStep}
use Rattle.once_across_breaks_drill.specs.rounds.Linked.{IsLinked, WaitsFor, as_told}
use Rattle.once_across_breaks_drill.specs.declared.rounds.calls.Answered.{Answered}
use Rattle.once_across_breaks_drill.specs.declared.rounds.opening.Linked.{Linked}
use Rattle.once_across_breaks_drill.specs.declared.run.breaking.Reached.{Reached}
use Rattle.once_across_breaks_drill.specs.declared.run.counting.Counts.{Counts}
use Rattle.once_across_breaks_drill.specs.declared.run.stepping.Going.{Going}

-- ---- the beginning

-- The client has opened the first link, and was told of FPOpenVol.
pub record Begins (house : Household) (now : ℕ) (a : Answered) (u : Shown) : Type 0 where
  pub linked : IsLinked (session_token house.token_key 1) None 4 a.linked
  pub link : a.linked.link ≡ 1
  pub told : as_told a.answer ≡ told_opening house now
  pub start : u.start ≡ fresh_world house now
  pub history : u.history ≡ opens now 0x20 (codes "Share")

-- FPOpenVol was asked, and waits.
pub record AsksVolume (token : List ℕ) (old : Linked) (r : Reached) : Type 0 where
  pub waits : WaitsFor token 3 4 open_volume r.linked r.request
  pub link : r.linked.link ≡ old.link

-- ---- a step by its break

-- The client came back, and wrote its request again.
pub record GoesBack (now : ℕ) (token : List ℕ) (id next : ℕ) (call : Call) (old : Linked) (t : Shown) (r : Reached) (u : Shown) : Type 0 where
  pub waits : WaitsFor token id next call r.linked r.request
  pub link : r.linked.link ≡ suc old.link
  pub start : u.start ≡ t.start
  pub history : u.history ≡ t.history ++ rejoins token old.link now

-- Its request was served before.
pub record GoesBehind (now : ℕ) (token : List ℕ) (id next : ℕ) (call : Call) (old : Linked) (t : Shown) (r : Reached) (u : Shown) : Type 0 where
  pub waits : WaitsFor token id next call r.linked r.request
  pub link : r.linked.link ≡ suc old.link
  pub start : u.start ≡ t.start
  pub history : u.history ≡ t.history ++ calls_on old.link now id call ∷ rejoins token old.link now

abbrev pub step_at : ℕ → ℕ → Call → Break → Step
step_at now id call breaks = record { moment = now; id = id; call = call; breaks = breaks }

-- The call waits on the link on which it is told.
pub record Reaches (now : ℕ) (token : List ℕ) (id next : ℕ) (call : Call) (breaks : Break) (old : Linked) (t : Shown) (r : Reached) (u : Shown) : Type 0 where
  pub waits : WaitsFor token id next call r.linked r.request
  pub link : r.linked.link ≡ link_behind old.link breaks
  pub start : u.start ≡ t.start
  pub history : u.history ≡ t.history ++ first_asks token old.link (step_at now id call breaks) breaks

-- ---- a step

abbrev pub step_of : ℕ → DrillStep → Step
step_of id s = step_at s.at id s.call s.breaks

-- what the client is told of the step's call
abbrev pub told_in : Shown → List ℕ → ℕ → Step → Told
told_in t token link s = answer (stand (stand t.start t.history) (first_asks token link s s.breaks)) (last_ask link s)

pub record MakesStep (token : List ℕ) (s : Step) (old : Linked) (t : Shown) (a : Answered) (u : Shown) : Type 0 where
  pub linked : IsLinked token None (id_after s.id) a.linked
  pub link : a.linked.link ≡ link_behind old.link s.breaks
  pub told : as_told a.answer ≡ told_in t token old.link s
  pub start : u.start ≡ t.start
  pub history : u.history ≡ t.history ++ step_asks token old.link s

-- one, where a test passes
abbrev pub one_if : Bool → ℕ
one_if b = if b then 1 else 0

-- the counts of a drill
pub record EndsCounts (steps : ℕ) (g : Going) (commands breaks ok refused : ℕ) : Type 0 where
  pub commands_are : commands ≡ steps
  pub breaks_are : breaks ≡ g.counts.breaks
  pub ok_is : ok ≡ g.counts.ok
  pub refused_is : refused ≡ g.counts.refused

-- before the first step
abbrev pub no_counts : Counts
no_counts = record { breaks = 0; ok = 0; refused = 0 }

-- a step is counted, by its break and by whether its call was told Ok
pub record CountsStep (breaks : Break) (ok : Bool) (old new : Counts) : Type 0 where
  pub breaks_are : new.breaks ≡ old.breaks + is_broken breaks
  pub ok_is : new.ok ≡ old.ok + one_if ok
  pub refused_is : new.refused ≡ old.refused + one_if (not ok)

-- the step, its counts and its result
pub record GoesStep (token : List ℕ) (s : Step) (old : Going) (t : Shown) (g : Going) (u : Shown) : Type 0 where
  pub linked : IsLinked token None (id_after s.id) g.linked
  pub link : g.linked.link ≡ link_behind old.linked.link s.breaks
  pub counts : CountsStep s.breaks (is_ok (told_in t token old.linked.link s)) old.counts g.counts
  pub kept : map as_told g.results.items ≡ map as_told old.results.items ++ told_in t token old.linked.link s ∷ []
  pub start : u.start ≡ t.start
  pub history : u.history ≡ t.history ++ step_asks token old.linked.link s

-- ---- all steps

abbrev pub is_refused : Told → Bool
is_refused told = not (is_ok told)

-- So many steps are left: with them all is asked, all is told, and all are counted.
pub record HasLeft (token : List ℕ) (number steps : ℕ) (first : Linked) (before : List Told) (t : Shown) (left : ℕ) (d : Drawn) (g : Going) (u : Shown) : Type 0 where
  pub ids : id_behind d.id left ≡ id_behind 4 steps
  pub kept : map as_told g.results.items ++ results (stand u.start u.history) token g.linked.link (steps_from d left) ≡ before ++ results (stand t.start t.history) token first.link (drill_steps number steps)
  pub made : d.made + left ≡ steps
  pub small : d.id < 2 ^ 16
  pub linked : IsLinked token None d.id g.linked
  pub start : u.start ≡ t.start
  pub history : u.history ++ all_asks token g.linked.link (steps_from d left) ≡ t.history ++ all_asks token first.link (drill_steps number steps)
  pub breaks : g.counts.breaks + breaks_in (steps_from d left) ≡ breaks_in (drill_steps number steps)
  pub ok : g.counts.ok + count_by is_ok (results (stand u.start u.history) token g.linked.link (steps_from d left)) ≡ count_by is_ok (results (stand t.start t.history) token first.link (drill_steps number steps))
  pub refused : g.counts.refused + count_by is_refused (results (stand u.start u.history) token g.linked.link (steps_from d left)) ≡ count_by is_refused (results (stand t.start t.history) token first.link (drill_steps number steps))
  pub all : g.counts.ok + g.counts.refused + left ≡ steps

pub record RunsSteps (token : List ℕ) (number steps : ℕ) (first : Linked) (before : List Told) (t : Shown) (g : Going) (u : Shown) : Type 0 where
  pub linked : IsLinked token None (id_behind 4 steps) g.linked
  pub kept : map as_told g.results.items ≡ before ++ results (stand t.start t.history) token first.link (drill_steps number steps)
  pub start : u.start ≡ t.start
  pub history : u.history ≡ t.history ++ all_asks token first.link (drill_steps number steps)
  pub breaks : g.counts.breaks ≡ breaks_in (drill_steps number steps)
  pub ok : g.counts.ok ≡ count_by is_ok (results (stand t.start t.history) token first.link (drill_steps number steps))
  pub refused : g.counts.refused ≡ count_by is_refused (results (stand t.start t.history) token first.link (drill_steps number steps))
  pub all : g.counts.ok + g.counts.refused ≡ steps
