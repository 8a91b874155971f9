-- Why a script stops, behind the lines that were carried out.
use Rattle.std.proofs.Common.{◌≡◌, ℕ, ◌+◌, ◌-◌, ◌≤◌, Bool, true, false, List, [], ◌∷◌, ◌++◌, length, Option, Some, None, inl, inr, length-append, refl, sym, ap, subst, ◌∙◌, arith}
use Rattle.std.specs.Prelude.{◌⊎◌, option_map}
use Rattle.std.proofs.lemmas.List.{append-nil}
use Rattle.afp_base.specs.Counts.{CountsOn}
use Rattle.afp_base.specs.declared.ids.VolumeId.{VolumeId}
use Rattle.afp_outside.specs.ends.Dialer.{DialerState}
use Rattle.afp_outside.specs.ends.Link.{LinkState}
use Rattle.afp_outside.specs.ends.Sink.{SinkState}
use Rattle.afp_outside.specs.ends.Source.{SourceState}
use Rattle.afp_outside.specs.lines.Lines as Read
use Rattle.afp_outside.specs.ends.Whole.{Prints, PrintsAll, PrintsPart}
use Rattle.afp_client.specs.links.OnLink.{Start}
use Rattle.afp_client.specs.declared.links.links.TalkEnd.TheVariants as talks
use Rattle.afp_client.specs.declared.links.talk.Limit.{Limit}
use Rattle.client_script_lines.specs.lines.Lines.{line_in}
use Rattle.client_script_lines.specs.lines.Words.{longest_line}
use Rattle.client_script_lines.specs.declared.lines.line.ScriptLine.{ScriptLine}
use Rattle.client_script_lines.specs.declared.lines.line.ScriptLine.TheVariants as lines
use Rattle.client_script_lines.specs.texts.Texts.{newline}
use Rattle.afp_calls_grammar.specs.declared.grammar.call.Call.{Call}
use Rattle.client_script_commands.specs.parts.Parts as Parts
use Rattle.client_script_commands.specs.parts.Parts.{Asked, Exchange, Leads, Part, bad, done, with_more}
use Rattle.client_script_run.specs.line.Run.{line_part}
use Rattle.client_script_run.specs.asker.Standing.{Closes, Finishes, OpensNone}
use Rattle.client_script_run.specs.declared.asker.asker.AskEnd.{AskEnd}
use Rattle.client_script_run.specs.declared.asker.asker.AskEnd.TheVariants as asks
use Rattle.client_script_run.specs.run.Carried.{AreCarried, Carried, ReadsLine, exchanges_of, limits_behind, limits_with, line_limit, mounted_behind, printed_of, source_behind, unread_behind}
use Rattle.client_script_run.specs.run.Ends.{end_of_ask, last_line}
use Rattle.client_script_run.specs.run.Runs.{LeavesLinks, PrintsCut, PrintsLines, PrintsWhole}
use Rattle.client_script_run.specs.run.Script.{TakesRead, TakesText}
use Rattle.client_script_run.specs.run.Stops.{AtBadReply, AtCall, AtEnd, AtWrite, Stood, Stops}
use Rattle.client_script_run.specs.run.lemma.Taking.{PrintsSaid, RunsPrinted, SoFar, StopsBy, StopsLines, StopsOr, stood_at}
use Rattle.client_script_run.specs.declared.run.ends.ClientEnd.{ClientEnd}
use Rattle.client_script_run.specs.declared.run.ends.ClientEnd.TheVariants as ends
use Rattle.client_script_run.specs.declared.run.line.Taken.{Taken}
use Rattle.client_script_run.specs.declared.run.line.Taken.TheVariants as takes
use Rattle.afp_outside.proofs.OfEnds.Whole.{prints-both}

-- what was read for a line
some-read : (turns : ℕ) (start : SourceState) (carried : List Carried) (cost : ℕ) (bytes : List ℕ) (unread : Read.Unread) (source : SourceState) → ReadsLine turns start carried cost bytes unread source
    → Read.TakesSome (turns - cost) (unread_behind carried) (source_behind start carried) source
some-read turns start carried cost bytes unread source next = record { read = next.read; given = next.reads.given; faults = next.reads.faults; within = next.within }

-- nothing more was
none-given : (given : Option (List ℕ)) → given ≡ option_map (λ g. g ++ []) given
none-given None = refl
none-given (Some g) = ap Some (sym (append-nil g))

none-read : (most : ℕ) (unread : Read.Unread) (source : SourceState) → Read.TakesSome most unread source source
none-read most unread source = record { read = []; given = none-given source.given; faults = refl; within = inl (refl, refl) }

-- what a line had said, and how that ends the script
pub said_whole : (old : SinkState) (said : List ℕ) (why : ClientEnd) (new : SinkState) → (why ≡ ends.Memory → ⊥) → Prints old said new → PrintsSaid old said why why new
said_whole old said ends.Memory new some p = absurd (some refl)
said_whole old said why new some p = inl (refl, p)

pub said_part : (old : SinkState) (said : List ℕ) (why : ClientEnd) (new : SinkState) → (why ≡ ends.Memory → ⊥) → PrintsPart old said new → PrintsSaid old said why ends.WriteFault new
said_part old said ends.Memory new some p = absurd (some refl)
said_part old said why new some p = inr (refl, p)

-- nothing was to be printed behind the lines
none-behind : (old new : SinkState) (text : List ℕ) → Prints old text new → Prints old (text ++ []) new
none-behind old new text p = subst (λ (t : List ℕ). Prints old t new) (sym (append-nil text)) p

module _ (turns : ℕ) (start : SourceState) (sink : SinkState) (carried : List Carried) (are : AreCarried turns start carried) (said : List ℕ) (stood : Stood) (source : SourceState) (mid new : SinkState) (prints : Prints sink (printed_of carried) mid) where
  -- all of it was printed, or a write failed
  stops-said : (why told : ClientEnd) → Stops turns start carried why said stood source → AtWrite turns start carried said stood source
      → (Prints sink (printed_of carried ++ said) new → PrintsLines sink (printed_of carried) said why new)
      → ((told ≡ why) × Prints mid said new) ⊎ ((told ≡ ends.WriteFault) × PrintsPart mid said new) → StopsLines turns start sink told stood source new
  stops-said why told whole part lines (inl p) =
      subst (λ (e : ClientEnd). StopsLines turns start sink e stood source new) (sym p.0) (record {
        carried = carried;
        are = are;
        last = said;
        stops = whole;
        prints = lines (prints-both sink mid new (printed_of carried) said true prints p.1);
      })
  stops-said why told whole part lines (inr p) =
      subst (λ (e : ClientEnd). StopsLines turns start sink e stood source new) (sym p.0) (record {
        carried = carried;
        are = are;
        last = said;
        stops = part;
        prints = record { mid = mid; whole = prints; part = p.1 };
      })

  -- there was no memory, where the client had ended so
  lacks-call : (end : AskEnd) (told : ClientEnd) → AtCall turns start carried end said stood source → told ≡ ends.Memory → new ≡ mid → StopsLines turns start sink told stood source new
  lacks-call end told a is same =
      subst (λ (e : ClientEnd). StopsLines turns start sink e stood source new) (sym is) (record {
        carried = carried;
        are = are;
        last = [];
        stops = record {
          cost = a.cost;
          some = some-read turns start carried a.cost a.bytes a.unread source a.next;
          exchanges = a.exchanges;
          begun = inr (record { bytes = a.bytes; unread = a.unread; next = a.next; limits = a.limits; begun = inr (record { line = a.line; reads = a.reads; left = a.left; leads = a.leads }) });
          told = a.told;
          closes = a.closes;
          prints = refl;
        };
        prints = subst (λ (s : SinkState). Prints sink (printed_of carried ++ []) s) (sym same) (none-behind sink mid (printed_of carried) prints);
      })

  -- a call got no answer, by why the client had ended
  said-call : (end : AskEnd) (told : ClientEnd) → AtCall turns start carried end said stood source → PrintsSaid mid said (end_of_ask end (length carried + 1)) told new
      → StopsLines turns start sink told stood source new
  said-call (asks.Links (talks.Refused c)) told a p = stops-said (ends.Refused c) told a (inl (inr (asks.Links (talks.Refused c), λ e. cc e, a))) (λ q. q) p
  said-call (asks.Links (talks.Lost c)) told a p = stops-said (ends.SessionLost (length carried + 1)) told (refl, c, a) (inl (inr (asks.Links (talks.Lost c), λ e. cc e, a))) (λ q. q) p
  said-call (asks.Links (talks.Bad at)) told a p = stops-said (ends.BadReply at) told (inl (inl a)) (inl (inr (asks.Links (talks.Bad at), λ e. cc e, a))) (λ q. q) p
  said-call (asks.Links talks.Broken) told a p = stops-said ends.Broken told a (inl (inr (asks.Links talks.Broken, λ e. cc e, a))) (λ q. q) p
  said-call (asks.Links talks.DialFault) told a p = stops-said ends.DialFault told a (inl (inr (asks.Links talks.DialFault, λ e. cc e, a))) (λ q. q) p
  said-call (asks.Links talks.Spent) told a p = stops-said ends.Spent told (inl a) (inl (inr (asks.Links talks.Spent, λ e. cc e, a))) (λ q. q) p
  said-call (asks.Links talks.Memory) told a p = lacks-call (asks.Links talks.Memory) told a p.0 p.1
  said-call (asks.BadReply at) told a p = stops-said (ends.BadReply at) told (inl (inr a)) (inl (inr (asks.BadReply at, λ e. cc e, a))) (λ q. q) p
  said-call asks.Memory told a p = lacks-call asks.Memory told a p.0 p.1

prints-call : (end : AskEnd) (line : ℕ) (sink printed : SinkState) (text last : List ℕ) → Prints sink (text ++ last) printed → PrintsLines sink text last (end_of_ask end line) printed
prints-call (asks.Links (talks.Refused c)) line sink printed text last p = p
prints-call (asks.Links (talks.Lost c)) line sink printed text last p = p
prints-call (asks.Links (talks.Bad at)) line sink printed text last p = p
prints-call (asks.Links talks.Broken) line sink printed text last p = p
prints-call (asks.Links talks.DialFault) line sink printed text last p = p
prints-call (asks.Links talks.Spent) line sink printed text last p = p
prints-call (asks.Links talks.Memory) line sink printed text last p = p
prints-call (asks.BadReply at) line sink printed text last p = p
prints-call asks.Memory line sink printed text last p = p

-- what is told of all calls, with more
told-more : {F : Type 0} (before after : Asked F) (all more : List Exchange) → before.exchanges ≡ all → after ≡ with_more before more → after.exchanges ≡ all ++ more
told-more {F} before after all more told log = ap (λ (a : Asked F). a.exchanges) log ∙ ap (λ (xs : List Exchange). xs ++ more) told

-- each was answered yet
same-unanswered : {F : Type 0} (before after : Asked F) (more : List Exchange) → before.unanswered ≡ [] → after ≡ with_more before more → after.unanswered ≡ []
same-unanswered {F} before after more answered log = ap (λ (a : Asked F). a.unanswered) log ∙ answered

-- there was no memory behind the calls of a line
lacks-behind : {F : Type 0} (before after : Asked F) (part left : Part) → Parts.Runs before part left after → Parts.Lacks before part after
lacks-behind before after part left runs = record { left = left; mid = after; runs = runs; fixed = refl; exchanges = refl }

lacks-waits : {F : Type 0} (before after : Asked F) (part : Part) → Parts.Waits before part after → Parts.Lacks before part after
lacks-waits {F} before after part w = record { left = w.left; mid = w.mid; runs = w.runs; fixed = ap (λ (a : Asked F). a.fixed) w.waits; exchanges = ap (λ (a : Asked F). a.exchanges) w.waits }

-- what stays the same of whoever asks
pub keeps-fixed : {F : Type 0} (mounted : Option VolumeId) (bytes : List ℕ) (before : Asked F) (printed : SinkState) (taken : Taken AskEnd) (now : Option VolumeId) (after : Asked F) (new : SinkState) → TakesText mounted bytes before printed taken now after new
    → after.fixed ≡ before.fixed
keeps-fixed {F} mounted bytes before printed takes.Goes now after new t = ap (λ (a : Asked F). a.fixed) t.takes.carried.log
keeps-fixed {F} mounted bytes before printed takes.Done now after new t = ap (λ (a : Asked F). a.fixed) t.takes.carried.log
keeps-fixed {F} mounted bytes before printed takes.Cut now after new t = ap (λ (a : Asked F). a.fixed) t.takes.carried.log
keeps-fixed {F} mounted bytes before printed (takes.Ended end said) now after new t = ap (λ (a : Asked F). a.fixed) (t.takes.0.waits) ∙ ap (λ (a : Asked F). a.fixed) t.takes.0.runs.log
keeps-fixed {F} mounted bytes before printed (takes.BadReply said) now after new t = ap (λ (a : Asked F). a.fixed) t.takes.0.log
keeps-fixed {F} mounted bytes before printed takes.Memory now after new t = t.takes.0.fixed ∙ ap (λ (a : Asked F). a.fixed) t.takes.0.runs.log
keeps-fixed {F} mounted bytes before printed takes.BadLine now after new t = ap (λ (a : Asked F). a.fixed) t.1
keeps-fixed {F} mounted bytes before printed takes.Unread now after new t = ap (λ (a : Asked F). a.fixed) t.0

-- a line that was carried out, and what comes of it
abbrev pub carried_by : {F : Type 0} → (mounted : Option VolumeId) → (bytes : List ℕ) → (unread : Read.Unread) → (source : SourceState) → (line_cost : ℕ) → (before after : Asked F) → (printed new : SinkState) → (now : Option VolumeId)
    → TakesRead {E = AskEnd} mounted bytes before printed takes.Goes now after new → Carried
carried_by mounted bytes unread source line_cost before after printed new now t = record { bytes = bytes; unread = unread; source = source; cost = line_cost; line = t.line; exchanges = t.takes.carried.exchanges; text = t.takes.text }

bye-leads : (mounted : Option VolumeId) (line : ScriptLine) (exchanges : List Exchange) (said : List ℕ) → line ≡ lines.Bye → Leads (line_part mounted line) exchanges (done said) → Leads (line_part mounted lines.Bye) exchanges (done said)
bye-leads mounted line exchanges said is leads = subst (λ (l : ScriptLine). Leads (line_part mounted l) exchanges (done said)) is leads

module _ {F : Type 0} (turns : ℕ) (start : SourceState) (sink : SinkState) (carried : List Carried) (are : AreCarried turns start carried) (bytes : List ℕ) (unread : Read.Unread) (source : SourceState) (line_cost : ℕ) (next : ReadsLine turns start carried line_cost bytes unread source)
    (limits : List Limit) (set : limits ≡ limits_with turns carried unread line_cost)
    (before after : Asked F) (told : before.exchanges ≡ exchanges_of carried) (answered : before.unanswered ≡ []) (printed new : SinkState) (prints : Prints sink (printed_of carried) printed) (now : Option VolumeId) where
  -- the script goes on
  goes-none : (t : TakesRead {E = AskEnd} (mounted_behind carried) bytes before printed takes.Goes now after new) → SoFar turns start sink unread source now after.exchanges after.unanswered None limits (length carried + 1) new
  goes-none t = record {
    carried = carried_by (mounted_behind carried) bytes unread source line_cost before after printed new now t ∷ carried;
    are = (are, record { next = next; reads = t.reads; says = t.takes.carried.says; goes = t.takes.goes });
    unread_is = refl;
    source_is = refl;
    mounted_is = t.takes.carried.mounts;
    told = told-more before after (exchanges_of carried) t.takes.carried.exchanges told t.takes.carried.log;
    answered = same-unanswered before after t.takes.carried.exchanges answered t.takes.carried.log;
    live = refl;
    limits_are = set;
    number_is = omega arith;
    prints = prints-both sink printed new (printed_of carried) (t.takes.text ++ newline) true prints t.takes.printed;
  }

  -- or its client has ended
  goes-some : (ended : Option AskEnd) (cost place : ℕ) (t : TakesRead {E = AskEnd} (mounted_behind carried) bytes before printed takes.Goes now after new)
      → StopsLines turns start sink ends.Memory (stood_at after.exchanges after.unanswered ended cost place limits false) source new
  unfolding goes-none
  goes-some ended cost place t =
      let s = goes-none t in
      record {
        carried = s.carried;
        are = s.are;
        last = [];
        stops = record {
          cost = cost;
          some = none-read (turns - cost) unread source;
          exchanges = [];
          begun = inl (record { none = refl; cost_is = refl; limits = s.limits_are });
          told = s.told ∙ sym (append-nil (exchanges_of s.carried));
          closes = refl;
          prints = refl;
        };
        prints = none-behind sink new (printed_of s.carried) s.prints;
      }

  -- a bye
  stops-bye : (ended : Option AskEnd) (cost place : ℕ) (t : TakesRead {E = AskEnd} (mounted_behind carried) bytes before printed takes.Done now after new)
      → StopsLines turns start sink ends.Done (stood_at after.exchanges after.unanswered ended cost place limits false) source new
  stops-bye ended cost place t = record {
    carried = carried;
    are = are;
    last = t.takes.text ++ newline;
    stops = inr (record {
      bytes = bytes;
      unread = unread;
      cost = line_cost;
      next = next;
      limits = set;
      reads = t.reads ∙ ap Some t.takes.bye;
      exchanges = t.takes.carried.exchanges;
      said = t.takes.text;
      leads = bye-leads (mounted_behind carried) t.line t.takes.carried.exchanges t.takes.text t.takes.bye t.takes.own;
      told = told-more before after (exchanges_of carried) t.takes.carried.exchanges told t.takes.carried.log;
      closes = refl;
      prints = refl;
    });
    prints = prints-both sink printed new (printed_of carried) (t.takes.text ++ newline) true prints t.takes.printed;
  }

  -- a line whose text was not printed whole
  stops-cut : (ended : Option AskEnd) (cost place : ℕ) (t : TakesRead {E = AskEnd} (mounted_behind carried) bytes before printed takes.Cut now after new)
      → StopsLines turns start sink ends.WriteFault (stood_at after.exchanges after.unanswered ended cost place limits false) source new
  stops-cut ended cost place t = record {
    carried = carried;
    are = are;
    last = t.takes.text ++ newline;
    stops = inl (inl (record {
      bytes = bytes;
      unread = unread;
      cost = line_cost;
      next = next;
      limits = set;
      line = t.line;
      reads = t.reads;
      exchanges = t.takes.carried.exchanges;
      said = t.takes.text;
      says = t.takes.carried.says;
      told = told-more before after (exchanges_of carried) t.takes.carried.exchanges told t.takes.carried.log;
      closes = refl;
      prints = refl;
    }));
    prints = record { mid = printed; whole = prints; part = t.takes.printed };
  }

  -- a call without an answer, since the client has ended
  stops-call-at : (end why : AskEnd) (said : List ℕ) (cost place : ℕ) (told_end : ClientEnd) (final : SinkState) → (t : TakesRead (mounted_behind carried) bytes before printed (takes.Ended end said) now after new)
      → PrintsSaid new said (end_of_ask why (length carried + 1)) told_end final → StopsLines turns start sink told_end (stood_at after.exchanges after.unanswered (Some why) cost place limits false) source final
  stops-call-at end why said cost place told_end final t p =
      let w = t.takes.0 in
      said-call turns start sink carried are said (stood_at after.exchanges after.unanswered (Some why) cost place limits false) source new final (subst (λ (s : SinkState). Prints sink (printed_of carried) s) (sym t.takes.2) prints) why told_end (record {
        bytes = bytes;
        unread = unread;
        cost = line_cost;
        next = next;
        limits = set;
        line = t.line;
        reads = t.reads;
        exchanges = w.runs.exchanges;
        call = w.call;
        left = w.left;
        waits = w.next;
        leads = w.runs.leads;
        told = ap (λ (a : Asked F). a.exchanges) w.waits ∙ told-more before w.mid (exchanges_of carried) w.runs.exchanges told w.runs.log;
        ended = refl;
        unanswered = ap (λ (a : Asked F). a.unanswered) w.waits ∙ ap (λ (cs : List Call). cs ++ w.call ∷ []) (same-unanswered before w.mid w.runs.exchanges answered w.runs.log);
        closes = refl;
        prints = t.takes.1;
      }) p

  -- a reply that may not come
  stops-reply : (said : List ℕ) (cost place : ℕ) (told_end : ClientEnd) (final : SinkState) (t : TakesRead {E = AskEnd} (mounted_behind carried) bytes before printed (takes.BadReply said) now after new)
      → PrintsSaid new said (ends.BadReply place) told_end final → StopsLines turns start sink told_end (stood_at after.exchanges after.unanswered None cost place limits false) source final
  stops-reply said cost place told_end final t p =
      let r = t.takes.0 in
      let stood = stood_at after.exchanges after.unanswered None cost place limits false in
      let bad_reply : AtBadReply turns start carried place said stood source = record {
        bytes = bytes;
        unread = unread;
        cost = line_cost;
        next = next;
        limits = set;
        line = t.line;
        reads = t.reads;
        exchanges = r.exchanges;
        leads = r.leads;
        told = told-more before after (exchanges_of carried) r.exchanges told r.log;
        live = refl;
        place = refl;
        closes = refl;
        prints = t.takes.1;
      } in
      stops-said turns start sink carried are said stood source new final (subst (λ (s : SinkState). Prints sink (printed_of carried) s) (sym t.takes.2) prints) (ends.BadReply place) told_end (inr bad_reply) (inr (place, bad_reply)) (λ q. q) p

  -- a line of no form
  stops-line : (cost place : ℕ) → line_in bytes ≡ None → after ≡ before → new ≡ printed
      → StopsLines turns start sink (ends.BadLine (length carried + 1)) (stood_at after.exchanges after.unanswered None cost place limits false) source new
  stops-line cost place none same still = record {
    carried = carried;
    are = are;
    last = [];
    stops = record {
      bytes = bytes;
      unread = unread;
      cost = line_cost;
      next = next;
      limits = set;
      reads = none;
      is_next = refl;
      told = ap (λ (a : Asked F). a.exchanges) same ∙ told;
      live = refl;
      closes = refl;
      prints = refl;
    };
    prints = subst (λ (s : SinkState). Prints sink (printed_of carried ++ []) s) (sym still) (none-behind sink printed (printed_of carried) prints);
  }

  -- no memory for the line
  lacks-line : (ended : Option AskEnd) (cost place : ℕ) → after ≡ before → new ≡ printed
      → StopsLines turns start sink ends.Memory (stood_at after.exchanges after.unanswered ended cost place limits false) source new
  lacks-line ended cost place same still = record {
    carried = carried;
    are = are;
    last = [];
    stops = record {
      cost = line_cost;
      some = some-read turns start carried line_cost bytes unread source next;
      exchanges = [];
      begun = inr (record { bytes = bytes; unread = unread; next = next; limits = set; begun = inl refl });
      told = ap (λ (a : Asked F). a.exchanges) same ∙ told ∙ sym (append-nil (exchanges_of carried));
      closes = refl;
      prints = refl;
    };
    prints = subst (λ (s : SinkState). Prints sink (printed_of carried ++ []) s) (sym still) (none-behind sink printed (printed_of carried) prints);
  }

  -- or for what comes of it
  lacks-rest : (ended : Option AskEnd) (cost place : ℕ) (line : ScriptLine) → line_in bytes ≡ Some line → Parts.Lacks before (line_part (mounted_behind carried) line) after → new ≡ printed
      → StopsLines turns start sink ends.Memory (stood_at after.exchanges after.unanswered ended cost place limits false) source new
  lacks-rest ended cost place line reads r still = record {
    carried = carried;
    are = are;
    last = [];
    stops = record {
      cost = line_cost;
      some = some-read turns start carried line_cost bytes unread source next;
      exchanges = r.runs.exchanges;
      begun = inr (record { bytes = bytes; unread = unread; next = next; limits = set; begun = inr (record { line = line; reads = reads; left = r.left; leads = r.runs.leads }) });
      told = r.exchanges ∙ told-more before r.mid (exchanges_of carried) r.runs.exchanges told r.runs.log;
      closes = refl;
      prints = refl;
    };
    prints = subst (λ (s : SinkState). Prints sink (printed_of carried ++ []) s) (sym still) (none-behind sink printed (printed_of carried) prints);
  }

  -- nothing was printed behind it
  stops-still : (ended : Option AskEnd) (cost place : ℕ) (why stop : Option ClientEnd) (final : SinkState) → (stop ≡ why) × (final ≡ new)
      → StopsOr turns start sink why unread source now after.exchanges after.unanswered ended cost place limits (length carried + 1) new → StopsOr turns start sink stop unread source now after.exchanges after.unanswered ended cost place limits (length carried + 1) final
  stops-still ended cost place why stop final still s =
      subst (λ (o : Option ClientEnd). StopsOr turns start sink o unread source now after.exchanges after.unanswered ended cost place limits (length carried + 1) final) (sym still.0)
      (subst (λ (k : SinkState). StopsOr turns start sink why unread source now after.exchanges after.unanswered ended cost place limits (length carried + 1) k) (sym still.1) s)

  -- it stops so
  stops-some : (ended : Option AskEnd) (cost place : ℕ) (why : ClientEnd) (stop : Option ClientEnd) (final : SinkState) → stop ≡ Some why
      → StopsLines turns start sink why (stood_at after.exchanges after.unanswered ended cost place limits false) source final → StopsOr turns start sink stop unread source now after.exchanges after.unanswered ended cost place limits (length carried + 1) final
  stops-some ended cost place why stop final is s =
      subst (λ (o : Option ClientEnd). StopsOr turns start sink o unread source now after.exchanges after.unanswered ended cost place limits (length carried + 1) final) (sym is) s

  -- by what came of the line
  behind-line : (taken : Taken AskEnd) (ended : Option AskEnd) (cost place : ℕ) (stop : Option ClientEnd) (final : SinkState) → TakesText (mounted_behind carried) bytes before printed taken now after new
      → StopsBy taken ended (length carried + 1) place new stop final → StopsOr turns start sink stop unread source now after.exchanges after.unanswered ended cost place limits (length carried + 1) final
  behind-line takes.Goes None cost place stop final t s = stops-still None cost place None stop final s (goes-none t)
  behind-line takes.Goes (Some e) cost place stop final t s = stops-still (Some e) cost place (Some ends.Memory) stop final s (goes-some (Some e) cost place t)
  behind-line takes.Done ended cost place stop final t s = stops-still ended cost place (Some ends.Done) stop final s (stops-bye ended cost place t)
  behind-line takes.Cut ended cost place stop final t s = stops-still ended cost place (Some ends.WriteFault) stop final s (stops-cut ended cost place t)
  behind-line (takes.Ended end said) None cost place stop final t s =
      stops-still None cost place (Some ends.Memory) stop final s (lacks-rest None cost place t.line t.reads (lacks-waits before after (line_part (mounted_behind carried) t.line) t.takes.0) t.takes.2)
  behind-line (takes.Ended end said) (Some why) cost place stop final t s =
      stops-some (Some why) cost place s.0 stop final s.1 (stops-call-at end why said cost place s.0 final t s.2)
  behind-line (takes.BadReply said) None cost place stop final t s =
      stops-some None cost place s.0 stop final s.1 (stops-reply said cost place s.0 final t s.2)
  behind-line (takes.BadReply said) (Some e) cost place stop final t s =
      stops-still (Some e) cost place (Some ends.Memory) stop final s (lacks-rest (Some e) cost place t.line t.reads (lacks-behind before after (line_part (mounted_behind carried) t.line) bad t.takes.0) t.takes.2)
  behind-line takes.Memory ended cost place stop final t s =
      stops-still ended cost place (Some ends.Memory) stop final s (lacks-rest ended cost place t.line t.reads t.takes.0 t.takes.1)
  behind-line takes.BadLine None cost place stop final t s =
      stops-still None cost place (Some (ends.BadLine (length carried + 1))) stop final s (stops-line cost place t.0 t.1 t.2)
  behind-line takes.BadLine (Some e) cost place stop final t s = stops-still (Some e) cost place (Some ends.Memory) stop final s (lacks-line (Some e) cost place t.1 t.2)
  behind-line takes.Unread ended cost place stop final t s = stops-still ended cost place (Some ends.Memory) stop final s (lacks-line ended cost place t.0 t.1)

-- the same, behind what was carried out so far
pub line-comes : {F : Type 0} (turns : ℕ) (start : SourceState) (sink : SinkState) (was unread : Read.Unread) (before_source source : SourceState) (mounted now : Option VolumeId) (exchanges : List Exchange) (unanswered : List Call) (was_ended ended told_ended : Option AskEnd)
    (number next_number : ℕ) (printed new final : SinkState) (bytes lent : List ℕ) (before after : Asked F) (taken : Taken AskEnd) (line_cost most cost place told_place : ℕ) (was_limits limits : List Limit) (stop : Option ClientEnd)
    → SoFar turns start sink was before_source mounted exchanges unanswered was_ended was_limits number printed → most ≡ turns - line_cost → Read.TakesLine longest_line most was before_source bytes unread source → before.exchanges ≡ exchanges → before.unanswered ≡ unanswered → next_number ≡ number + 1
    → limits ≡ was_limits ++ line_limit turns unread line_cost ∷ []
    → TakesText mounted lent before printed taken now after new → lent ≡ bytes → StopsBy taken told_ended next_number told_place new stop final → told_ended ≡ ended → told_place ≡ place
    → StopsOr turns start sink stop unread source now after.exchanges after.unanswered ended cost place limits next_number final
line-comes {F} turns start sink was unread before_source source mounted now exchanges unanswered was_ended ended told_ended number next_number printed new final bytes lent before after taken line_cost most cost place told_place was_limits limits stop so most_is next told answered is_next is t same_bytes stops same_ended same_place =
    let many = is_next ∙ ap (λ (n : ℕ). n + 1) so.number_is in
    subst (λ (n : ℕ). StopsOr turns start sink stop unread source now after.exchanges after.unanswered ended cost place limits n final) (sym many)
    (behind-line turns start sink so.carried so.are bytes unread source line_cost
    (subst (λ (u : Read.Unread). Read.TakesLine longest_line (turns - line_cost) u (source_behind start so.carried) bytes unread source) so.unread_is
    (subst (λ (s : SourceState). Read.TakesLine longest_line (turns - line_cost) was s bytes unread source) so.source_is
    (subst (λ (n : ℕ). Read.TakesLine longest_line n was before_source bytes unread source) most_is next)))
    limits (is ∙ ap (λ (ls : List Limit). ls ++ line_limit turns unread line_cost ∷ []) so.limits_are)
    before after (told ∙ so.told) (answered ∙ so.answered) printed new so.prints now taken ended cost place stop final
    (subst (λ (m : Option VolumeId). TakesText m bytes before printed taken now after new) so.mounted_is
    (subst (λ (b : List ℕ). TakesText mounted b before printed taken now after new) same_bytes t))
    (subst (λ (n : ℕ). StopsBy taken ended n place new stop final) many
    (subst (λ (o : Option AskEnd). StopsBy taken o next_number place new stop final) same_ended
    (subst (λ (n : ℕ). StopsBy taken told_ended next_number n new stop final) same_place stops))))

-- where it stops
pub line-stops : (turns : ℕ) (start : SourceState) (sink : SinkState) (stop : Option ClientEnd) (why : ClientEnd) (unread : Read.Unread) (source : SourceState) (now : Option VolumeId) (after : List Exchange) (unanswered : List Call) (ended : Option AskEnd) (cost place : ℕ) (limits : List Limit) (number : ℕ) (new : SinkState)
    → StopsOr turns start sink stop unread source now after unanswered ended cost place limits number new → stop ≡ Some why → StopsLines turns start sink why (stood_at after unanswered ended cost place limits false) source new
line-stops turns start sink stop why unread source now after unanswered ended cost place limits number new s is =
    subst (λ (o : Option ClientEnd). StopsOr turns start sink o unread source now after unanswered ended cost place limits number new) is s

-- and where it goes on
pub line-goes : (turns : ℕ) (start : SourceState) (sink : SinkState) (stop : Option ClientEnd) (unread : Read.Unread) (source : SourceState) (now : Option VolumeId) (after : List Exchange) (unanswered : List Call) (ended : Option AskEnd) (cost place : ℕ) (limits : List Limit) (number : ℕ) (new : SinkState)
    → StopsOr turns start sink stop unread source now after unanswered ended cost place limits number new → stop ≡ None → SoFar turns start sink unread source now after unanswered ended limits number new
line-goes turns start sink stop unread source now after unanswered ended cost place limits number new s is =
    subst (λ (o : Option ClientEnd). StopsOr turns start sink o unread source now after unanswered ended cost place limits number new) is s

-- nothing was read yet
pub starts : (turns : ℕ) (start : SourceState) (sink : SinkState) (unread : Read.Unread) (exchanges : List Exchange) (unanswered : List Call) (ended : Option AskEnd) (limits : List Limit) → unread ≡ unread_behind [] → exchanges ≡ [] → unanswered ≡ [] → ended ≡ None → limits ≡ limits_behind turns []
    → SoFar turns start sink unread start None exchanges unanswered ended limits 0 sink
starts turns start sink unread exchanges unanswered ended limits is none answered live set = record {
  carried = [];
  are = tt;
  unread_is = is;
  source_is = refl;
  mounted_is = refl;
  told = none;
  answered = answered;
  live = live;
  limits_are = set;
  number_is = refl;
  prints = record { written = none-given sink.written; faults = refl };
}

pub starts-ended : {A : Type 0} (unread : Read.Unread) → unread ≡ unread_behind [] → unread.ended ≡ true → A
starts-ended unread is ended = absurd (cc (sym (ap (λ (u : Read.Unread). u.ended) is) ∙ ended))

pub starts-counted : (unread : Read.Unread) → unread ≡ unread_behind [] → 0 + length unread.bytes ≤ unread.taken
starts-counted unread is = omega (arith, ap (λ (u : Read.Unread). length u.bytes) is, ap (λ (u : Read.Unread). u.taken) is)

-- what is next of the source is no line
pub source-ends : (turns : ℕ) (start : SourceState) (sink : SinkState) (was unread : Read.Unread) (before_source source : SourceState) (mounted : Option VolumeId) (exchanges : List Exchange) (unanswered : List Call) (ended : Option AskEnd) (number cost place : ℕ) (limits : List Limit) (most : ℕ) (printed : SinkState)
    → SoFar turns start sink was before_source mounted exchanges unanswered ended limits number printed → most ≡ turns - cost → Read.TakesNone most was before_source unread source
    → StopsLines turns start sink ends.Done (stood_at exchanges unanswered ended cost place limits true) source printed
source-ends turns start sink was unread before_source source mounted exchanges unanswered ended number cost place limits most printed so is t = record {
  carried = so.carried;
  are = so.are;
  last = [];
  stops = inl (record {
    unread = unread;
    none = subst (λ (u : Read.Unread). Read.TakesNone (turns - cost) u (source_behind start so.carried) unread source) so.unread_is (subst (λ (s : SourceState). Read.TakesNone (turns - cost) was s unread source) so.source_is
        (subst (λ (n : ℕ). Read.TakesNone n was before_source unread source) is t));
    limits = so.limits_are;
    told = so.told;
    live = so.live;
    closes = refl;
    prints = refl;
  });
  prints = none-behind sink printed (printed_of so.carried) so.prints;
}

pub source-fails : (turns : ℕ) (start : SourceState) (sink : SinkState) (was unread : Read.Unread) (before_source source : SourceState) (mounted : Option VolumeId) (exchanges : List Exchange) (unanswered : List Call) (ended : Option AskEnd) (number cost place : ℕ) (limits : List Limit) (most : ℕ) (printed : SinkState)
    → SoFar turns start sink was before_source mounted exchanges unanswered ended limits number printed → most ≡ turns - cost → Read.TakesFault longest_line most was before_source unread source
    → StopsLines turns start sink ends.ReadFault (stood_at exchanges unanswered ended cost place limits false) source printed
source-fails turns start sink was unread before_source source mounted exchanges unanswered ended number cost place limits most printed so is t = record {
  carried = so.carried;
  are = so.are;
  last = [];
  stops = record {
    unread = unread;
    fault = subst (λ (u : Read.Unread). Read.TakesFault longest_line (turns - cost) u (source_behind start so.carried) unread source) so.unread_is (subst (λ (s : SourceState). Read.TakesFault longest_line (turns - cost) was s unread source) so.source_is
        (subst (λ (n : ℕ). Read.TakesFault longest_line n was before_source unread source) is t));
    limits = so.limits_are;
    told = so.told;
    live = so.live;
    closes = refl;
    prints = refl;
  };
  prints = none-behind sink printed (printed_of so.carried) so.prints;
}

pub source-spent : (turns : ℕ) (start : SourceState) (sink : SinkState) (was unread : Read.Unread) (before_source source : SourceState) (mounted : Option VolumeId) (exchanges : List Exchange) (unanswered : List Call) (ended : Option AskEnd) (number cost place : ℕ) (limits : List Limit) (most : ℕ) (printed : SinkState)
    → SoFar turns start sink was before_source mounted exchanges unanswered ended limits number printed → most ≡ turns - cost → Read.TakesAll longest_line most was before_source unread source
    → StopsLines turns start sink ends.Spent (stood_at exchanges unanswered ended cost place limits false) source printed
source-spent turns start sink was unread before_source source mounted exchanges unanswered ended number cost place limits most printed so is t = record {
  carried = so.carried;
  are = so.are;
  last = [];
  stops = inr (record {
    unread = unread;
    reached = subst (λ (u : Read.Unread). Read.TakesAll longest_line (turns - cost) u (source_behind start so.carried) unread source) so.unread_is (subst (λ (s : SourceState). Read.TakesAll longest_line (turns - cost) was s unread source) so.source_is
        (subst (λ (n : ℕ). Read.TakesAll longest_line n was before_source unread source) is t));
    limits = so.limits_are;
    told = so.told;
    live = so.live;
    closes = refl;
    prints = refl;
  });
  prints = none-behind sink printed (printed_of so.carried) so.prints;
}

pub source-lacks : (turns : ℕ) (start : SourceState) (sink : SinkState) (was : Read.Unread) (before_source source : SourceState) (mounted : Option VolumeId) (exchanges : List Exchange) (unanswered : List Call) (ended : Option AskEnd) (number cost place : ℕ) (limits : List Limit) (most : ℕ) (printed : SinkState)
    → SoFar turns start sink was before_source mounted exchanges unanswered ended limits number printed → most ≡ turns - cost → Read.TakesSome most was before_source source
    → StopsLines turns start sink ends.Memory (stood_at exchanges unanswered ended cost place limits false) source printed
source-lacks turns start sink was before_source source mounted exchanges unanswered ended number cost place limits most printed so is t = record {
  carried = so.carried;
  are = so.are;
  last = [];
  stops = record {
    cost = cost;
    some = subst (λ (u : Read.Unread). Read.TakesSome (turns - cost) u (source_behind start so.carried) source) so.unread_is (subst (λ (s : SourceState). Read.TakesSome (turns - cost) was s source) so.source_is
        (subst (λ (n : ℕ). Read.TakesSome n was before_source source) is t));
    exchanges = [];
    begun = inl (record { none = refl; cost_is = refl; limits = so.limits_are });
    told = so.told ∙ sym (append-nil (exchanges_of so.carried));
    closes = refl;
    prints = refl;
  };
  prints = none-behind sink printed (printed_of so.carried) so.prints;
}

-- The session is closed at the source's end alone.
never-closes : {A : Type 0} → false ≡ true → A
never-closes e = absurd (cc e)

at-end : (turns : ℕ) (start : SourceState) (carried : List Carried) (why : ClientEnd) (last : List ℕ) (stood : Stood) (source : SourceState) → Stops turns start carried why last stood source → stood.closes ≡ true
    → (why ≡ ends.Done) × AtEnd turns start carried last stood source
at-end turns start carried ends.Done last stood source (inl a) is = (refl, a)
at-end turns start carried ends.Done last stood source (inr a) is = never-closes (sym a.closes ∙ is)
at-end turns start carried (ends.Refused c) last stood source a is = never-closes (sym a.closes ∙ is)
at-end turns start carried (ends.SessionLost line) last stood source a is = never-closes (sym a.2.closes ∙ is)
at-end turns start carried (ends.BadReply at) last stood source (inl (inl a)) is = never-closes (sym a.closes ∙ is)
at-end turns start carried (ends.BadReply at) last stood source (inl (inr a)) is = never-closes (sym a.closes ∙ is)
at-end turns start carried (ends.BadReply at) last stood source (inr a) is = never-closes (sym a.closes ∙ is)
at-end turns start carried (ends.BadLine line) last stood source a is = never-closes (sym a.closes ∙ is)
at-end turns start carried ends.ReadFault last stood source a is = never-closes (sym a.closes ∙ is)
at-end turns start carried ends.WriteFault last stood source (inl (inl a)) is = never-closes (sym a.closes ∙ is)
at-end turns start carried ends.WriteFault last stood source (inl (inr a)) is = never-closes (sym a.2.closes ∙ is)
at-end turns start carried ends.WriteFault last stood source (inr a) is = never-closes (sym a.1.closes ∙ is)
at-end turns start carried ends.Broken last stood source a is = never-closes (sym a.closes ∙ is)
at-end turns start carried ends.DialFault last stood source a is = never-closes (sym a.closes ∙ is)
at-end turns start carried ends.Spent last stood source (inl a) is = never-closes (sym a.closes ∙ is)
at-end turns start carried ends.Spent last stood source (inr a) is = never-closes (sym a.closes ∙ is)
at-end turns start carried ends.Memory last stood source a is = never-closes (sym a.closes ∙ is)

-- it was closed
pub runs-closed : {L : Type 0} (state : L → LinkState) (turns : ℕ) (first : Start) (old : DialerState L) (start : SourceState) (sink : SinkState) (why : ClientEnd) (exchanges : List Exchange) (unanswered : List Call) (ended : Option AskEnd) (cost place : ℕ) (limits : List Limit) (closes : Bool) (dialer : DialerState L)
    (source : SourceState) (printed : SinkState)
    → StopsLines turns start sink why (stood_at exchanges unanswered ended cost place limits closes) source printed → closes ≡ true → Closes state first old limits exchanges unanswered ended None cost place dialer
    → RunsPrinted state turns first old start sink why dialer source printed
runs-closed state turns first old start sink why exchanges unanswered ended cost place limits closes dialer source printed s is c =
    let e = at-end turns start s.carried why s.last (stood_at exchanges unanswered ended cost place limits closes) source s.stops is in
    record {
      text = printed_of s.carried;
      last = s.last;
      runs = inr (record {
        carried = s.carried;
        are = s.are;
        text_is = refl;
        stood = stood_at exchanges unanswered ended cost place limits closes;
        stops = s.stops;
        leaves = subst (λ (b : Bool). LeavesLinks state first old (stood_at exchanges unanswered ended cost place limits closes) b dialer) (sym is)
            (subst (λ (o : Option AskEnd). Closes state first old limits exchanges unanswered o None cost place dialer) e.1.live c);
      });
      prints = s.prints;
    }

-- there was no memory for CloseSession
lacks-close : {L : Type 0} (state : L → LinkState) (first : Start) (old : DialerState L) (limits : List Limit) (exchanges : List Exchange) (unanswered : List Call) (told : AskEnd) (cost place : ℕ) (dialer : DialerState L)
    → Closes state first old limits exchanges unanswered None (Some told) cost place dialer → Finishes state first old limits exchanges unanswered None cost place dialer
lacks-close state first old limits exchanges unanswered (asks.Links end) cost place dialer c = absurd c
lacks-close state first old limits exchanges unanswered (asks.BadReply at) cost place dialer c = absurd c
lacks-close state first old limits exchanges unanswered asks.Memory cost place dialer c = c

pub runs-unclosed : {L : Type 0} (state : L → LinkState) (turns : ℕ) (first : Start) (old : DialerState L) (start : SourceState) (sink : SinkState) (why : ClientEnd) (exchanges : List Exchange) (unanswered : List Call) (ended : Option AskEnd) (told : AskEnd) (cost place : ℕ) (limits : List Limit) (closes : Bool)
    (dialer : DialerState L) (source : SourceState) (printed : SinkState)
    → StopsLines turns start sink why (stood_at exchanges unanswered ended cost place limits closes) source printed → closes ≡ true → Closes state first old limits exchanges unanswered ended (Some told) cost place dialer
    → RunsPrinted state turns first old start sink ends.Memory dialer source printed
runs-unclosed state turns first old start sink why exchanges unanswered ended told cost place limits closes dialer source printed s is c =
    let e = at-end turns start s.carried why s.last (stood_at exchanges unanswered ended cost place limits closes) source s.stops is in
    let live = e.1.live in
    record {
      text = printed_of s.carried;
      last = s.last;
      runs = inr (record {
        carried = s.carried;
        are = s.are;
        text_is = refl;
        stood = stood_at exchanges unanswered ended cost place limits false;
        stops = record {
          cost = cost;
          some = record { read = []; given = e.1.none.reads.given; faults = e.1.none.reads.faults; within = e.1.none.within };
          exchanges = [];
          begun = inl (record { none = refl; cost_is = refl; limits = e.1.limits });
          told = e.1.told ∙ sym (append-nil (exchanges_of s.carried));
          closes = refl;
          prints = e.1.prints;
        };
        leaves = subst (λ (o : Option AskEnd). Finishes state first old limits exchanges unanswered o cost place dialer) (sym live)
            (lacks-close state first old limits exchanges unanswered told cost place dialer (subst (λ (o : Option AskEnd). Closes state first old limits exchanges unanswered o (Some told) cost place dialer) live c));
      });
      prints = subst (λ (w : ClientEnd). PrintsLines sink (printed_of s.carried) s.last w printed) e.0 s.prints;
    }

-- its link was left
pub runs-left : {L : Type 0} (state : L → LinkState) (turns : ℕ) (first : Start) (old : DialerState L) (start : SourceState) (sink : SinkState) (why : ClientEnd) (exchanges : List Exchange) (unanswered : List Call) (ended : Option AskEnd) (cost place : ℕ) (limits : List Limit) (closes : Bool) (dialer : DialerState L)
    (source : SourceState) (printed : SinkState)
    → StopsLines turns start sink why (stood_at exchanges unanswered ended cost place limits closes) source printed → closes ≡ false → Finishes state first old limits exchanges unanswered ended cost place dialer
    → RunsPrinted state turns first old start sink why dialer source printed
runs-left state turns first old start sink why exchanges unanswered ended cost place limits closes dialer source printed s is f = record {
  text = printed_of s.carried;
  last = s.last;
  runs = inr (record {
    carried = s.carried;
    are = s.are;
    text_is = refl;
    stood = stood_at exchanges unanswered ended cost place limits closes;
    stops = s.stops;
    leaves = subst (λ (b : Bool). LeavesLinks state first old (stood_at exchanges unanswered ended cost place limits closes) b dialer) (sym is) f;
  });
  prints = s.prints;
}

-- no client was opened
pub runs-none : {L : Type 0} (state : L → LinkState) (turns : ℕ) (first first_now : Start) (old : DialerState L) (start : SourceState) (sink : SinkState) (end : AskEnd) (why : ClientEnd) (dialer : DialerState L)
    → first_now ≡ first → why ≡ end_of_ask end 1 → OpensNone state turns first_now old end dialer → RunsPrinted state turns first old start sink why dialer start sink
runs-none {L} state turns first first_now old start sink end why dialer same is o = record {
  text = [];
  last = [];
  runs = inl (record { end = end; opens = subst (λ (f : Start). OpensNone state turns f old end dialer) same o; is = is; unread = refl; prints = refl; nothing = refl });
  prints = subst (λ (w : ClientEnd). PrintsLines sink [] [] w sink) (sym is) (prints-call end 1 sink sink [] [] (record { written = none-given sink.written; faults = refl }));
}

-- nothing was printed behind a first part
part-still : (old mid new : SinkState) (text : List ℕ) → PrintsPart old text mid → Prints mid [] new → PrintsPart old text new
part-still old mid new text p q = record {
  part = p.part;
  lost = p.lost;
  some_lost = p.some_lost;
  cut = p.cut;
  written = q.written ∙ sym (none-given mid.written) ∙ p.written;
  fault = subst (λ (n : ℕ). CountsOn 1 old.faults n) (sym q.faults) p.fault;
}

-- the last line, behind the lines
pub prints-end : (old mid new : SinkState) (text last : List ℕ) (why : ClientEnd) → PrintsLines old text last why mid → PrintsAll mid (last_line why) true new → PrintsWhole old text last why why new
prints-end old mid new text last ends.WriteFault p q = record { mid = p.mid; whole = p.whole; part = part-still p.mid mid new last p.part q }
prints-end old mid new text last why p q = (refl, prints-both old mid new (text ++ last) (last_line why) true p q)

pub prints-part : (old mid new : SinkState) (text last : List ℕ) (why : ClientEnd) → PrintsLines old text last why mid → PrintsAll mid (last_line why) false new → PrintsWhole old text last why ends.WriteFault new
prints-part old mid new text last ends.WriteFault p q = absurd (omega (arith, ap length q.cut, length-append q.part q.lost, q.some_lost))
prints-part old mid new text last why p q = record { mid = mid; whole = p; part = q }

-- the same, of a client that began with these
module _ {L : Type 0} (state : L → LinkState) (turns : ℕ) (first first_now : Start) (old old_now : DialerState L) (start : SourceState) (sink : SinkState) (why : ClientEnd) (exchanges : List Exchange) (unanswered : List Call) (ended : Option AskEnd) (cost place : ℕ) (limits : List Limit) (closes : Bool)
    (dialer : DialerState L) (source : SourceState) (printed : SinkState) (s : StopsLines turns start sink why (stood_at exchanges unanswered ended cost place limits closes) source printed) (same_first : first_now ≡ first) (same_old : old_now ≡ old) where
  pub closed-runs : (told : Option AskEnd) → told ≡ None → closes ≡ true → Closes state first_now old_now limits exchanges unanswered ended told cost place dialer → RunsPrinted state turns first old start sink why dialer source printed
  closed-runs told none is c =
      runs-closed state turns first old start sink why exchanges unanswered ended cost place limits closes dialer source printed s is
      (subst (λ (o : Option AskEnd). Closes state first old limits exchanges unanswered ended o cost place dialer) none
      (subst (λ (f : Start). Closes state f old limits exchanges unanswered ended told cost place dialer) same_first
      (subst (λ (d : DialerState L). Closes state first_now d limits exchanges unanswered ended told cost place dialer) same_old c)))

  pub unclosed-runs : (told : Option AskEnd) (end : AskEnd) → told ≡ Some end → closes ≡ true → Closes state first_now old_now limits exchanges unanswered ended told cost place dialer → RunsPrinted state turns first old start sink ends.Memory dialer source printed
  unclosed-runs told end some is c =
      runs-unclosed state turns first old start sink why exchanges unanswered ended end cost place limits closes dialer source printed s is
      (subst (λ (o : Option AskEnd). Closes state first old limits exchanges unanswered ended o cost place dialer) some
      (subst (λ (f : Start). Closes state f old limits exchanges unanswered ended told cost place dialer) same_first
      (subst (λ (d : DialerState L). Closes state first_now d limits exchanges unanswered ended told cost place dialer) same_old c)))

  pub left-runs : closes ≡ false → Finishes state first_now old_now limits exchanges unanswered ended cost place dialer → RunsPrinted state turns first old start sink why dialer source printed
  left-runs is f =
      runs-left state turns first old start sink why exchanges unanswered ended cost place limits closes dialer source printed s is
      (subst (λ (g : Start). Finishes state g old limits exchanges unanswered ended cost place dialer) same_first
      (subst (λ (d : DialerState L). Finishes state first_now d limits exchanges unanswered ended cost place dialer) same_old f))

-- and of one that was opened so
pub opened-runs : {L : Type 0} (state : L → LinkState) (turns : ℕ) (first first_now : Start) (old old_now : DialerState L) (start : SourceState) (sink : SinkState) (why : ClientEnd) (dialer : DialerState L) (source : SourceState) (printed : SinkState)
    → first_now ≡ first → old_now ≡ old → RunsPrinted state turns first_now old_now start sink why dialer source printed → RunsPrinted state turns first old start sink why dialer source printed
opened-runs {L} state turns first first_now old old_now start sink why dialer source printed same_first same_old r =
    subst (λ (f : Start). RunsPrinted state turns f old start sink why dialer source printed) same_first
    (subst (λ (d : DialerState L). RunsPrinted state turns first_now d start sink why dialer source printed) same_old r)
