-- What happens is a run, and so a schedule of the law, and takes effect once.
use Rattle.std.proofs.Common.{◌≡◌, ◌∙◌, sym, ap, subst, ℕ, ◌≤◌, List, [], ◌∷◌, ◌++◌, length, length-append, append_assoc, inl, inr, arith}
use Rattle.std.specs.Prelude.{map}
use Rattle.std.specs.List.{AllByRecursion}
use Rattle.afp_client.specs.declared.session.event.Event.{Event}
use Rattle.afp_client.specs.declared.session.login.Login as logins
use Rattle.afp_serial.specs.Shown.{IsSoundShown, Shown}
use Rattle.afp_serial.specs.declared.ask.Entry.{Entry}
use Rattle.once_across_breaks.specs.once.Run as law
use Rattle.once_across_breaks.specs.once.Serial.{IsSoundUnder, Setup}
use Rattle.once_across_breaks_code.specs.client.Requests.{LogsIn}
use Rattle.once_across_breaks_code.specs.server.Among.{AllCarried}
use Rattle.once_across_breaks_code.specs.server.Asked.{AsksAlone}
use Rattle.once_across_breaks_code.specs.server.Fed.{CarriedSince}
use Rattle.once_across_breaks_code.specs.run.Doings.{Doing, IsAlone, Runs, RunsAlone}
use Rattle.once_across_breaks_code.specs.run.Doings as doings
use Rattle.once_across_breaks_code.specs.run.Laws.{HoldsToken, IsSchedule, RunsAreSchedules, RunsHoldTokens, RunsTakeEffectOnce, SoleRunsAreSchedules, SoleRunsHoldTokens, SoleRunsTakeEffectOnce}
use Rattle.once_across_breaks_code.specs.run.Things.{Things, begun_things}
use Rattle.once_across_breaks_live.specs.declared.happening.Happening.{Happening}
use Rattle.once_across_breaks_live.specs.declared.happening.Happening.TheVariants as happenings
use Rattle.once_across_breaks_live.specs.Happens.{AllHappen, AreStepsOf, Happens}
use Rattle.once_across_breaks_live.specs.Once.{CanCarry, HappeningsAreSchedules, HappeningsTakeEffectOnce, IsCarried}
use Rattle.once_across_breaks_live.specs.Steps.{Server, Steps, WentOn}
use Rattle.once_across_breaks_live.proofs.Going.{rising-most, same-goes, then-goes}

-- ---- steps one after the other

steps-then : (server : Server) (t mid s : Things) (xs ys : List Doing) → Steps server t xs mid → Steps server mid ys s → Steps server t (xs ++ ys) s
steps-then server t mid s [] ys same later = subst (λ (x : Things). Steps server x ys s) same later
steps-then server t mid s (d ∷ ds) ys (next, step, rest) later = (next, step, steps-then server next mid s ds ys rest later)

pub happens-steps : (server : Server) (h : Happening) (t s : Things) (ds : List Doing) → Happens server h t ds s → Steps server t ds s
happens-steps server h t s ds (inl d) = d.steps
happens-steps server h t s ds (inr x) = subst (λ (l : List Doing). Steps server t l s) (sym x.none) x.same

pub all-steps : (server : Server) (hs : List Happening) (t s : Things) (ds : List Doing) → AllHappen server hs t ds s → Steps server t ds s
all-steps server [] t s ds (none, same) = subst (λ (l : List Doing). Steps server t l s) (sym none) same
all-steps server (h ∷ hs) t s ds (first, rest, mid, one, later, all) =
    subst (λ (l : List Doing). Steps server t l s) (sym all) (steps-then server t mid s first rest (happens-steps server h t mid first one) (all-steps server hs mid s rest later))

pub steps-go : (server : Server) (t s : Things) (ds : List Doing) → Steps server t ds s → WentOn t.shown s.shown
steps-go server t s [] same = same-goes t.shown s.shown (ap (λ (x : Things). x.shown) same)
steps-go server t s (d ∷ ds) (mid, step, rest) = then-goes t.shown mid.shown s.shown step.went_on (steps-go server mid s ds rest)

-- ---- where frames can carry all that was asked

first-carried : (xs ys : List Entry) → AllCarried (xs ++ ys) → AllCarried xs
first-carried [] ys p = tt
first-carried (x ∷ xs) ys p = (p.0, first-carried xs ys p.1)

last-carried : (xs ys : List Entry) → AllCarried (xs ++ ys) → AllCarried ys
last-carried [] ys p = p
last-carried (x ∷ xs) ys p = last-carried xs ys p.1

carried-first : (a b c : Shown) → WentOn b c → CarriedSince a c → CarriedSince a b
carried-first a b c w p = λ more e. first-carried more w.more (p (more ++ w.more) (w.history ∙ ap (λ (h : List Entry). h ++ w.more) e ∙ append_assoc a.history more w.more))

carried-last : (a b c : Shown) → WentOn a b → CarriedSince a c → CarriedSince b c
carried-last a b c w p = λ more e. last-carried w.more more (p (w.more ++ more) (e ∙ ap (λ (h : List Entry). h ++ more) w.history ∙ append_assoc a.history w.more more))

steps-run : (server : Server) (t s : Things) (ds : List Doing) → Steps server t ds s → CarriedSince t.shown s.shown → Runs t ds s
steps-run server t s [] same carried = same
steps-run server t s (d ∷ ds) (mid, step, rest) carried = (
  mid,
  step.does,
  record { sound = step.sound; carried = carried-first t.shown mid.shown s.shown (steps-go server mid s ds rest) carried },
  steps-run server mid s ds rest (carried-last t.shown mid.shown s.shown step.went_on carried),
)

-- ---- where nobody else asked

alone-first : (a b : Shown) → IsSoundShown a → WentOn a b → AsksAlone b → AsksAlone a
alone-first a b sound w alone =
    let most : length a.mine ≤ length a.history = omega (arith, rising-most 0 a.mine (length a.history) sound.within) in
    omega (arith, most, w.own, alone, ap length w.history, length-append a.history w.more)

can-append : (xs ys : List Doing) → AllByRecursion doings.CanCarry xs → AllByRecursion doings.CanCarry ys → AllByRecursion doings.CanCarry (xs ++ ys)
can-append [] ys p q = q
can-append (x ∷ xs) ys p q = (p.0, can-append xs ys p.1 q)

steps-alone : (server : Server) (t s : Things) (ds : List Doing) → Steps server t ds s → AsksAlone s.shown → AllByRecursion doings.CanCarry ds → RunsAlone t ds s
steps-alone server t s [] same alone can = same
steps-alone server t s (d ∷ ds) (mid, step, rest) alone can = (
  mid,
  step.does,
  can.0,
  record { sound = step.sound; alone = alone-first mid.shown s.shown step.sound (steps-go server mid s ds rest) alone },
  steps-alone server mid s ds rest alone can.1,
)

takes-can : (es : List Event) (last : Event) → AllByRecursion doings.CanCarry (map doings.Takes es ++ doings.Takes last ∷ [])
takes-can [] last = (tt, tt)
takes-can (e ∷ es) last = (tt, takes-can es last)

steps-can : (server : Server) (h : Happening) (t s : Things) (ds : List Doing) → AreStepsOf server h t ds s → CanCarry h → AllByRecursion doings.CanCarry ds
steps-can server (happenings.Asks call) t s ds are can = subst (AllByRecursion doings.CanCarry) (sym are) (tt, tt)
steps-can server (happenings.ToServer link n now) t s ds are can = subst (AllByRecursion doings.CanCarry) (sym are.are) (tt, tt)
steps-can server (happenings.ToClient link n) t s ds are can =
    subst (AllByRecursion doings.CanCarry) (sym are.are) (tt, subst (AllByRecursion doings.CanCarry) (sym are.takings.are) (takes-can are.takings.events are.takings.last))
steps-can server (happenings.Quiet link now) t s ds are can = subst (AllByRecursion doings.CanCarry) (sym are) (tt, tt)
steps-can server (happenings.Lost link now) t s ds are can = subst (AllByRecursion doings.CanCarry) (sym are) (tt, tt)
steps-can server happenings.Breaks t s ds are can = subst (AllByRecursion doings.CanCarry) (sym are.are) (tt, tt)
steps-can server (happenings.Others now link ask) t s ds are can = subst (AllByRecursion doings.CanCarry) (sym are) (can, tt)

happens-can : (server : Server) (h : Happening) (t s : Things) (ds : List Doing) → Happens server h t ds s → CanCarry h → AllByRecursion doings.CanCarry ds
happens-can server h t s ds (inl d) can = steps-can server h t s ds d.are can
happens-can server h t s ds (inr x) can = subst (AllByRecursion doings.CanCarry) (sym x.none) tt

all-can : (server : Server) (hs : List Happening) (t s : Things) (ds : List Doing) → AllHappen server hs t ds s → AllByRecursion CanCarry hs → AllByRecursion doings.CanCarry ds
all-can server [] t s ds (none, same) can = subst (AllByRecursion doings.CanCarry) (sym none) tt
all-can server (h ∷ hs) t s ds (first, rest, mid, one, later, all) can =
    subst (AllByRecursion doings.CanCarry) (sym all) (can-append first rest (happens-can server h t mid first one can.0) (all-can server hs mid s rest later can.1))

-- ---- the run

ran : (server : Server) (login : logins.Login) (first : Shown) (hs : List Happening) (ds : List Doing) (last : Things) → AllHappen server hs (begun_things server.block login first) ds last → CarriedSince first last.shown
    → Runs (begun_things server.block login first) ds last
ran server login first hs ds last all carried = steps-run server (begun_things server.block login first) last ds (all-steps server hs (begun_things server.block login first) last ds all) carried

ran-alone : (server : Server) (login : logins.Login) (first : Shown) (hs : List Happening) (ds : List Doing) (last : Things) → AllHappen server hs (begun_things server.block login first) ds last → AsksAlone last.shown → AllByRecursion CanCarry hs
    → RunsAlone (begun_things server.block login first) ds last
ran-alone server login first hs ds last all alone can =
    steps-alone server (begun_things server.block login first) last ds (all-steps server hs (begun_things server.block login first) last ds all) alone (all-can server hs (begun_things server.block login first) last ds all can)

began-alone : (server : Server) (login : logins.Login) (first : Shown) (hs : List Happening) (ds : List Doing) (last : Things) → AllHappen server hs (begun_things server.block login first) ds last → IsSoundShown first → AsksAlone last.shown → IsAlone first
began-alone server login first hs ds last all sound alone = record {
  sound = sound;
  alone = alone-first first last.shown sound (steps-go server (begun_things server.block login first) last ds (all-steps server hs (begun_things server.block login first) last ds all)) alone;
}

-- ---- the laws

scheduled : RunsAreSchedules → SoleRunsAreSchedules → (server : Server) (u : Setup) (login : logins.Login) (first : Shown) (hs : List Happening) (ds : List Doing) (last : Things)
    → AllHappen server hs (begun_things server.block login first) ds last → LogsIn u login → IsSoundShown first → first.history ≡ [] → IsSoundUnder u.key first.start → IsCarried hs first last.shown
    → (events : List law.Event) × IsSchedule u first.start last events
scheduled runs sole server u login first hs ds last all logs sound none under (inl carried) =
    runs u login server.block first ds last logs sound none under (ran server login first hs ds last all carried)
scheduled runs sole server u login first hs ds last all logs sound none under (inr (alone, can)) =
    sole u login server.block first ds last logs (began-alone server login first hs ds last all sound alone) none under (ran-alone server login first hs ds last all alone can)

pub happenings-are : RunsAreSchedules → SoleRunsAreSchedules → HappeningsAreSchedules
happenings-are runs sole server login first hs ds last all = λ u logs sound none under carried. scheduled runs sole server u login first hs ds last all logs sound none under carried

held : RunsHoldTokens → SoleRunsHoldTokens → (server : Server) (u : Setup) (login : logins.Login) (first : Shown) (hs : List Happening) (ds : List Doing) (last : Things)
    → AllHappen server hs (begun_things server.block login first) ds last → LogsIn u login → IsSoundShown first → first.history ≡ [] → IsSoundUnder u.key first.start → IsCarried hs first last.shown → HoldsToken u last
held runs sole server u login first hs ds last all logs sound none under (inl carried) =
    runs u login server.block first ds last logs sound none under (ran server login first hs ds last all carried)
held runs sole server u login first hs ds last all logs sound none under (inr (alone, can)) =
    sole u login server.block first ds last logs (began-alone server login first hs ds last all sound alone) none under (ran-alone server login first hs ds last all alone can)

pub record TokenLaws : Type 0 where
  pub runs : RunsHoldTokens
  pub sole : SoleRunsHoldTokens

pub happenings-once : RunsTakeEffectOnce → SoleRunsTakeEffectOnce → TokenLaws → HappeningsTakeEffectOnce
happenings-once runs sole tokens server login first hs ds last all = λ u logs sound none under. record {
  among = λ carried. record {
    runs = ran server login first hs ds last all carried;
    once = λ n run. runs u login server.block first ds last n logs sound none under run;
  };
  alone = λ alone can. record {
    runs = ran-alone server login first hs ds last all alone can;
    once = λ n run. sole u login server.block first ds last n logs (began-alone server login first hs ds last all sound alone) none under run;
  };
  token = held tokens.runs tokens.sole server u login first hs ds last all logs sound none under;
}
