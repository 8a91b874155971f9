use Rattle.std.proofs.Common.{◌≡◌, ◌&&◌, Some, true, ap, refl, subst}
use Rattle.afp_serial.specs.History.{entry}
use Rattle.afp_serial.specs.Ranges.{is_typed_entry}
use Rattle.afp_serial.specs.declared.ask.Ask.{Ask}
use Rattle.afp_serial.specs.declared.ask.Outcome.TheVariants as outcomes
use Rattle.afp_serial.specs.declared.ask.Told.TheVariants as tells
use Rattle.test_runs.specs.declared.one_session.Opened.{Opened}
use Rattle.test_runs.proofs.Telling.{link_one, opens, sound-at}
use Rattle.test_runs.proofs.one_session.OneSessionTeller.ask.Goals as goal

pub invariant_of-self : goal.invariant_of-self
invariant_of-self c =
    let new : Opened = record { at = c.args.now; link = c.args.link; attention = c.in-Open.attention } in
    let typed = subst (λ (a : Ask). is_typed_entry (entry c.args.now c.args.link a outcomes.Done) ≡ true) c.in-Open.is (c.entry_in_range.ensures outcomes.Done) in
    let ranges = ap (λ b. b && true) typed in
    record {
      ranges = ranges;
      sound_at = sound-at (λ (s : Opened). s.at) (λ (s : Opened). s.link) (λ (s : Opened). s.attention) (Some new) ranges;
    }

pub returns-in-None-clause-asked : goal.returns-in-None-clause-asked
returns-in-None-clause-asked c =
    let new : Opened = record { at = c.args.now; link = c.args.link; attention = c.in-Open.attention } in
    opens (λ (s : Opened). s.at) (λ (s : Opened). s.link) (λ (s : Opened). s.attention) new
    c.args.self.now.opened (Some new) c.args.ask (tells.Opened link_one) c.in-None.is refl c.in-Open.is refl
