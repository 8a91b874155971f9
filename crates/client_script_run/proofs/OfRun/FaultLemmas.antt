-- A fault that ends a script is counted.
use Rattle.std.proofs.Common.{◌≡◌, ℕ, List, [], ◌∷◌, inl, inr, refl, sym, subst, ◌∙◌}
use Rattle.afp_base.specs.Counts.{CountsOn}
use Rattle.afp_client.specs.declared.session.login.Login.{Login}
use Rattle.afp_outside.specs.ends.Dialer.{DialerState}
use Rattle.afp_outside.specs.ends.Link.{LinkState}
use Rattle.afp_outside.specs.ends.Sink.{SinkState}
use Rattle.afp_outside.specs.ends.Source.{SourceState}
use Rattle.afp_client.specs.links.OnLink.{Start}
use Rattle.afp_client.specs.declared.links.links.TalkEnd.TheVariants as talks
use Rattle.client_script_run.specs.asker.Standing.{first_of}
use Rattle.client_script_run.specs.declared.asker.asker.AskEnd.{AskEnd}
use Rattle.client_script_run.specs.declared.asker.asker.AskEnd.TheVariants as asks
use Rattle.client_script_run.specs.run.Carried.{AreCarried, Carried, source_behind}
use Rattle.client_script_run.specs.run.Ends.{end_of_ask}
use Rattle.client_script_run.specs.run.Runs.{PrintsWhole, Runs, RunsClient, first_client}
use Rattle.client_script_run.specs.declared.run.ends.ClientEnd.{ClientEnd}
use Rattle.client_script_run.specs.declared.run.ends.ClientEnd.TheVariants as ends

-- no line was carried out behind a fault of the source
source-faults : (turns : ℕ) (start : SourceState) (carried : List Carried) → AreCarried turns start carried → (source_behind start carried).faults ≡ start.faults
source-faults turns start [] are = refl
source-faults turns start (c ∷ before) are = are.1.next.reads.faults ∙ source-faults turns start before are.0

-- links do not end by a fault of the source
no-source : {A : Type 0} (end : AskEnd) (line : ℕ) → ends.ReadFault ≡ end_of_ask end line → A
no-source (asks.Links (talks.Refused c)) line e = absurd (cc e)
no-source (asks.Links (talks.Lost c)) line e = absurd (cc e)
no-source (asks.Links (talks.Bad at)) line e = absurd (cc e)
no-source (asks.Links talks.Broken) line e = absurd (cc e)
no-source (asks.Links talks.DialFault) line e = absurd (cc e)
no-source (asks.Links talks.Spent) line e = absurd (cc e)
no-source (asks.Links talks.Memory) line e = absurd (cc e)
no-source (asks.BadReply at) line e = absurd (cc e)
no-source asks.Memory line e = absurd (cc e)

fault-of : {L : Type 0} (state : L → LinkState) (turns : ℕ) (first : Start) (old : DialerState L) (start : SourceState) (text last : List ℕ) (dialer : DialerState L) (source : SourceState) → Runs state turns first old start ends.ReadFault text last dialer source
    → CountsOn 1 start.faults source.faults
fault-of state turns first old start text last dialer source (inl r) = no-source r.end 1 r.is
fault-of state turns first old start text last dialer source (inr r) =
    subst (λ (n : ℕ). CountsOn 1 n source.faults) (r.stops.fault.part.reads.faults ∙ source-faults turns start r.carried r.are) r.stops.fault.fault

pub source-counted : {L : Type 0} (state : L → LinkState) (turns : ℕ) (login : Login) (old : DialerState L) (start : SourceState) (sink : SinkState) (end : ClientEnd) (dialer : DialerState L) (source : SourceState) (printed : SinkState)
    → RunsClient state turns login old start sink end dialer source printed → end ≡ ends.ReadFault → CountsOn 1 start.faults source.faults
source-counted state turns login old start sink end dialer source printed r is =
    let told = subst (λ (e : ClientEnd). PrintsWhole sink r.text r.last r.why e printed) is r.prints in
    fault-of state turns (first_of (first_client login) turns) old start r.text r.last dialer source (subst (λ (e : ClientEnd). Runs state turns (first_of (first_client login) turns) old start e r.text r.last dialer source) (sym told.0) r.runs)

pub sink-counted : {L : Type 0} (state : L → LinkState) (turns : ℕ) (login : Login) (old : DialerState L) (start : SourceState) (sink : SinkState) (end : ClientEnd) (dialer : DialerState L) (source : SourceState) (printed : SinkState)
    → RunsClient state turns login old start sink end dialer source printed → end ≡ ends.WriteFault → CountsOn 1 sink.faults printed.faults
sink-counted state turns login old start sink end dialer source printed r is =
    let told = subst (λ (e : ClientEnd). PrintsWhole sink r.text r.last r.why e printed) is r.prints in subst (λ (n : ℕ). CountsOn 1 n printed.faults) told.whole.faults told.part.fault
