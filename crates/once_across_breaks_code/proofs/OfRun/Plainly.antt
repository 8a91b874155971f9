-- The attention quantum of an Open does not matter to what is in effect.
use Rattle.std.proofs.Common.{◌≡◌, ◌∙◌, refl, ℕ, List, [], ◌∷◌, ◌++◌}
use Rattle.std.specs.Prelude.{map}
use Rattle.afp_serial.specs.declared.ask.Ask as asks
use Rattle.afp_serial.specs.declared.ask.Ask.TheVariants as ask
use Rattle.afp_serial.specs.declared.ask.Entry as entries
use Rattle.afp_serial.specs.declared.ask.Outcome as outcomes
use Rattle.afp_serial.specs.declared.ask.Told as tolds
use Rattle.afp_serial.specs.Answer.{after, answer, answer_at}
use Rattle.afp_serial.specs.SessionViews as views
use Rattle.afp_serial.specs.SessionViews.{view_at}
use Rattle.afp_serial.specs.World.{World, at_moment}
use Rattle.once_across_breaks.specs.once.Effects.{effect_at, effects}
use Rattle.once_across_breaks_code.specs.server.Ties.{plain, plain_ask}
use Rattle.once_across_breaks_code.proofs.OfServer.Entries.{same-after}

same-answer : (w : World) (link : ℕ) (a : asks.Ask) (o : outcomes.Outcome) → answer_at w link (plain_ask a) o ≡ answer_at w link a o
unfolding answer_at
same-answer w link (ask.Open attention) o = refl
same-answer w link (ask.Call id write offset payload) o = refl
same-answer w link ask.Pulse o = refl
same-answer w link ask.Bye o = refl
same-answer w link ask.Lost o = refl
same-answer w link ask.Drain o = refl

same-effect : (n : ℕ) (v : views.View) (link : ℕ) (a : asks.Ask) (o : outcomes.Outcome) (t : tolds.Told) → effect_at n v link (plain_ask a) o t ≡ effect_at n v link a o t
same-effect n v link (ask.Open attention) o t = refl
same-effect n v link (ask.Call id write offset payload) o t = refl
same-effect n v link ask.Pulse o t = refl
same-effect n v link ask.Bye o t = refl
same-effect n v link ask.Lost o t = refl
same-effect n v link ask.Drain o t = refl

pub same-effects : (n : ℕ) (w : World) (es : List entries.Entry) → effects n w (map plain es) ≡ effects n w es
same-effects n w [] = refl
same-effects n w (e ∷ es) =
    (λ i. effect_at n (view_at w n) e.link.0 (plain_ask e.ask) e.outcome (same-answer (at_moment w e.at) e.link.0 e.ask e.outcome i) ++ effects n (same-after w e i) (map plain es))
    ∙ (λ i. same-effect n (view_at w n) e.link.0 e.ask e.outcome (answer w e) i ++ same-effects n (after w e) es i)
