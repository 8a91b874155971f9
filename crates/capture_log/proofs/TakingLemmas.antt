-- Where a capture stands, from one line to the next.
use Rattle.std.proofs.Common.{◌≡◌, ◌||◌, ℕ, Bool, true, false, List, suc, length, refl, sym, ap, ◌∙◌, subst, arith}
use Rattle.std.specs.Prelude.{Option, Some, None, is_none, option_map}
use Rattle.std.proofs.lemmas.Bool.{or_right}
use Rattle.afp_base.specs.Counts.{counted}
use Rattle.afp_serial.specs.Household.{Household}
use Rattle.afp_serial.specs.StatusBlock.{status_block}
use Rattle.afp_serial.specs.World.{fresh_world}
use Rattle.capture_log_lines.specs.log.Lines.{line_in}
use Rattle.capture_log_lines.specs.declared.log.line.Line.{Line}
use Rattle.capture_log_lines.specs.declared.log.line.Line.TheVariants.{Title, Server, Signature, User as UserLine, Volume, Key, At, End}
use Rattle.capture_log_lines.specs.declared.log.line.What.{What}
use Rattle.capture_log_lines.specs.declared.log.line.What.TheVariants.{In, Quiet, Lost, Out}
use Rattle.afp_base.specs.declared.ids.LinkNumber.{LinkNumber}
use Rattle.afp_server.specs.link.Wire.{open_link}
use Rattle.capture_log_server.specs.Connections.{Connection, unused}
use Rattle.capture_log_server.specs.Counting.{refused_in}
use Rattle.capture_log_server.specs.Running.{IsFreshRunning}
use Rattle.capture_log_server.specs.Running.{HappensBy}
use Rattle.capture_log_server.specs.CaptureState.{CaptureState, Says, Happens, FeedsUnless, PulsesIf, LosesIf, part_after, is_refused, is_refused_on, is_bad, start_at}
use Rattle.capture_log_server.specs.States.{ConnectionState, RunningState, IsConnection, IsRunning, unused_state}
use Rattle.capture_log.specs.SetUp.{IsSetUp}
use Rattle.capture_log.specs.Taking.{Acts, begun, HeldCapture, house_with, refused_by, is_event, IsIdle, is_past_house, IsBegun, IsServer, IsCapture, RunsFrom, LeadsLine, TakesLine, TakesRawLine}
use Rattle.capture_log.proofs.SetUpLemmas.{kept-set-up}
use Rattle.capture_log_server.specs.declared.difference.Difference.{Difference}
use Rattle.capture_log_server.specs.declared.part.Part.{Part}
use Rattle.capture_log_server.specs.declared.part.Part.TheVariants as parts
use Rattle.capture_log.specs.declared.replay_end.ReplayEnd.{ReplayEnd}
use Rattle.capture_log.specs.declared.replay_end.ReplayEnd.TheVariants.{Same, Differs, BadCapture, ReadFault, Spent, Memory}

-- a server that begins

unused-there : (block : List ℕ) → IsConnection block unused_state unused
unused-there block = record {
  used = refl;
  over = refl;
  lost = refl;
  named = refl;
  within = omega arith;
  inside = omega arith;
  rest = refl;
  wire = record { closed = refl; unfed = λ on there. record { stage = refl; fed = refl; past = refl } };
}

fresh-now : (house : Household) (waiting : Bool) (now : ℕ) (r : RunningState) (s : CaptureState) → IsFreshRunning house now r → IsIdle house waiting s → IsRunning r s now
fresh-now house waiting now r s f i = record {
  house = f.serves ∙ i.serves;
  teller = record {
    start = f.start ∙ ap (λ (h : Household). fresh_world h now) i.serves;
    history = f.history ∙ sym i.history;
  };
  links = f.links ∙ sym i.links;
  replies = f.replies ∙ sym (ap (λ l. counted (length l) 0) i.replies);
  refused = f.refused ∙ sym (ap (λ l. counted (refused_in l) 0) i.replies);
  size = f.size;
  connections = λ k c at.
      subst (λ (conns : ℕ → Connection). IsConnection (status_block s.house) c (conns (suc k))) (sym i.connections)
      (subst (λ (x : ConnectionState). IsConnection (status_block s.house) x unused) (sym (f.connections k c at)) (unused-there (status_block s.house)));
}

pub runs-new : (there : Option RunningState) (house : Household) (waiting : Bool) (now : ℕ) (r : RunningState) (s : CaptureState) → there ≡ None → IsFreshRunning house now r → IsServer there house waiting s → RunsFrom s now r
runs-new there house waiting now r s none f is =
    let idle : IsIdle house waiting s = subst (λ (o : Option RunningState). IsServer o house waiting s) none is in
    let it : IsRunning r s now = fresh-now house waiting now r s f idle in
    subst (λ (o : Option ℕ). IsRunning r s (start_at o now)) (sym idle.start) it

pub waits-there : (there : Option RunningState) (house : Household) (waiting : Bool) (s : CaptureState) → there ≡ None → IsServer there house waiting s → waiting ≡ true
waits-there there house waiting s none is = let idle : IsIdle house waiting s = subst (λ (o : Option RunningState). IsServer o house waiting s) none is in idle.keepers

pub set-up-there : (there : Option RunningState) (house : Household) (waiting : Bool) (s : CaptureState) → there ≡ None → IsServer there house waiting s → s.part ≡ parts.Events → IsSetUp parts.Events house
set-up-there there house waiting s none is at =
    let idle : IsIdle house waiting s = subst (λ (o : Option RunningState). IsServer o house waiting s) none is in
    subst (λ (p : Part). IsSetUp p house) at idle.set_up

-- the server that is there, or what waits for it, was taken out
pub served : (c x : HeldCapture) (s : CaptureState) (waiting : Bool) (there : Option RunningState) → IsCapture c s → x ≡ c → there ≡ x.running → waiting ≡ x.waiting → IsServer there x.house waiting s
served c x s waiting there is same runs waits =
    subst (λ (b : Bool). IsServer there x.house b s) (sym waits)
    (subst (λ (o : Option RunningState). IsServer o x.house x.waiting s) (sym runs)
    (subst (λ (y : HeldCapture). IsServer y.running y.house y.waiting s) (sym same) is.server))

-- where a capture stands does not say which line comes next on the server
pub moved : (r : RunningState) (s : CaptureState) (part : Part) (start : Option ℕ) (first : ℕ) → IsRunning r s first → IsRunning r (record s { part = part; start = start }) first
moved r s part start first is = record {
  house = is.house;
  teller = record { start = is.teller.start; history = is.teller.history };
  links = is.links;
  replies = is.replies;
  refused = is.refused;
  size = is.size;
  connections = is.connections;
}

-- a line of the house, or the end

refused-same : (s : CaptureState) (line : Line) → is_event line ≡ false → is_refused s line ≡ refused_by s.house line
refused-same s Title e = refl
refused-same s (Server name) e = refl
refused-same s (Signature bytes) e = refl
refused-same s (UserLine name password) e = refl
refused-same s (Volume name) e = refl
refused-same s (Key bytes) e = refl
refused-same s (At link now what) e = absurd (cc e)
refused-same s End e = refl

says-house : (s : CaptureState) (part : Part) (line : Line) → is_event line ≡ false → Says s part line (record s { part = part; house = house_with s.house line })
says-house s part Title e = refl
says-house s part (Server name) e = refl
says-house s part (Signature bytes) e = refl
says-house s part (UserLine name password) e = refl
says-house s part (Volume name) e = refl
says-house s part (Key bytes) e = refl
says-house s part (At link now what) e = absurd (cc e)
says-house s part End e = refl

-- behind the house only the end comes
record IsEnd (line : Line) (q : Part) : Type 0 where
  pub ends : line ≡ End
  pub over : q ≡ parts.Nothing

events-end : (line : Line) (q : Part) → is_event line ≡ false → part_after parts.Events line ≡ Some q → IsEnd line q
events-end Title q e f = absurd (cc f)
events-end (Server name) q e f = absurd (cc f)
events-end (Signature bytes) q e f = absurd (cc f)
events-end (UserLine name password) q e f = absurd (cc f)
events-end (Volume name) q e f = absurd (cc f)
events-end (Key bytes) q e f = absurd (cc f)
events-end (At link now what) q e f = absurd (cc e)
events-end End q e f = record { ends = refl; over = cc f }

nothing-more : (line : Line) (q : Part) → part_after parts.Nothing line ≡ Some q → ⊥
nothing-more Title q f = cc f
nothing-more (Server name) q f = cc f
nothing-more (Signature bytes) q f = cc f
nothing-more (UserLine name password) q f = cc f
nothing-more (Volume name) q f = cc f
nothing-more (Key bytes) q f = cc f
nothing-more (At link now what) q f = cc f
nothing-more End q f = cc f

past-end : (p : Part) (line : Line) (q : Part) → is_past_house p ≡ true → is_event line ≡ false → part_after p line ≡ Some q → IsEnd line q
past-end parts.Title line q past e f = absurd (cc past)
past-end parts.Server line q past e f = absurd (cc past)
past-end parts.Signature line q past e f = absurd (cc past)
past-end parts.Users line q past e f = absurd (cc past)
past-end parts.Volumes line q past e f = absurd (cc past)
past-end parts.Events line q past e f = events-end line q e f
past-end parts.Nothing line q past e f = absurd (nothing-more line q f)

begun-end : (r : RunningState) (house : Household) (waiting : Bool) (number : ℕ) (s : CaptureState) → IsBegun r s → part_after s.part End ≡ Some parts.Nothing
    → LeadsLine s End (record { part = parts.Nothing; house = house; waiting = waiting; running = Some r; number = number })
begun-end r house waiting number s b may = record {
  part = parts.Nothing;
  after = record s { part = parts.Nothing };
  may = may;
  taken = refl;
  says = refl;
  is = record { next = refl; server = record { first = b.first; start = b.start; is = moved r s parts.Nothing s.start b.first b.is; past = refl } };
}

leads-by : (o : Option RunningState) (house : Household) (waiting : Bool) (number : ℕ) (s : CaptureState) (line : Line) (part : Part) → IsServer o house waiting s → part_after s.part line ≡ Some part → is_event line ≡ false
    → refused_by house line ≡ false → LeadsLine s line (record { part = part; house = house_with house line; waiting = waiting; running = o; number = number })
leads-by None house waiting number s line part i may other good = record {
  part = part;
  after = record s { part = part; house = house_with s.house line };
  may = may;
  taken = refused-same s line other ∙ ap (λ (h : Household). refused_by h line) (sym i.serves) ∙ good;
  says = says-house s part line other;
  is = record {
    next = refl;
    server = record {
      serves = ap (λ (h : Household). house_with h line) i.serves;
      set_up = kept-set-up s.part part line house may good i.set_up;
      keepers = i.keepers;
      start = i.start;
      connections = i.connections;
      links = i.links;
      history = i.history;
      replies = i.replies;
    };
  };
}
leads-by (Some r) house waiting number s line part b may other good =
    let e : IsEnd line part = past-end s.part line part b.past other may in
    subst (λ (l : Line). LeadsLine s l (record { part = part; house = house_with house l; waiting = waiting; running = Some r; number = number })) (sym e.ends)
    (subst (λ (q : Part). LeadsLine s End (record { part = q; house = house; waiting = waiting; running = Some r; number = number })) (sym e.over)
    (begun-end r house waiting number s b (ap (λ (l : Line). part_after s.part l) (sym e.ends) ∙ may ∙ ap Some e.over)))

pub part_taken : (old new : HeldCapture) (s : CaptureState) (line : Line) (part : Part) → IsCapture old s → part_after old.part line ≡ Some part → is_event line ≡ false → false ≡ refused_by old.house line
    → new ≡ record { part = part; house = house_with old.house line; waiting = old.waiting; running = old.running; number = old.number } → LeadsLine s line new
part_taken old new s line part is may other good same =
    subst (λ (x : HeldCapture). LeadsLine s line x) (sym same)
    (leads-by old.running old.house old.waiting old.number s line part is.server (ap (λ (p : Part). part_after p line) (sym is.next) ∙ may) other (sym good))

-- what happened on a connection

feeds-part : (b : Bool) (s : CaptureState) (link now : ℕ) (bytes : List ℕ) (t : CaptureState) → FeedsUnless b s link now bytes t → t.part ≡ s.part
feeds-part true s link now bytes t h = ap (λ (x : CaptureState). x.part) h
feeds-part false s link now bytes t h = ap (λ (x : CaptureState). x.part) h.next

pulses-part : (o : Option LinkNumber) (s : CaptureState) (link now : ℕ) (t : CaptureState) → PulsesIf o s link now t → t.part ≡ s.part
pulses-part None s link now t h = ap (λ (x : CaptureState). x.part) h
pulses-part (Some l) s link now t h = ap (λ (x : CaptureState). x.part) h.next

loses-part : (o : Option LinkNumber) (s : CaptureState) (link now : ℕ) (t : CaptureState) → LosesIf o s link now t → t.part ≡ s.part
loses-part None s link now t h = ap (λ (x : CaptureState). x.part) h
loses-part (Some l) s link now t h = ap (λ (x : CaptureState). x.part) h.next

same-part : (s : CaptureState) (link now : ℕ) (what : What) (t : CaptureState) → Happens s link now what t → t.part ≡ s.part
same-part s link now (In bytes) t h = feeds-part (s.connections link).over s link now bytes t h
same-part s link now Quiet t h = pulses-part (open_link (s.connections link).stage) s link now t h
same-part s link now Lost t h = loses-part (open_link (s.connections link).stage) s link now t h
same-part s link now (Out bytes) t h = ap (λ (x : CaptureState). x.part) h.next

may-come : (s : CaptureState) (link now : ℕ) (what : What) → s.part ≡ parts.Events → part_after s.part (At link now what) ≡ Some parts.Events
may-come s link now what at = ap (λ (p : Part). part_after p (At link now what)) at

not_bad : (s : CaptureState) (link now : ℕ) (what : What) → s.part ≡ parts.Events → is_refused_on (s.connections link) what ≡ false → is_bad s (Some (At link now what)) ≡ false
not_bad s link now what at good = ap (λ (o : Option Part). is_none o || is_refused_on (s.connections link) what) (may-come s link now what at) ∙ good

acts-by : (s : CaptureState) (number link now : ℕ) (what : What) (r : RunningState) (found : Option Difference) → s.part ≡ parts.Events → is_refused_on (s.connections link) what ≡ false
    → HappensBy (begun s now) link now what (start_at s.start now) found r → Acts s number link now what (option_map (λ d. Differs link d.at d.want d.got) found) r
acts-by s number link now what r None at good h = (good, h)
acts-by s number link now what r (Some d) at good h = record {
  now = now;
  bytes = h.bytes;
  shows = ap (λ (w : What). At link now w) h.shows;
  good = λ bad. cc (sym (not_bad s link now what at good) ∙ bad);
  found = h.found;
}

pub begun-running : (s : CaptureState) (now : ℕ) (r : RunningState) → RunsFrom s now r → IsRunning r (begun s now) (start_at s.start now)
begun-running s now r is = moved r s parts.Events (Some (start_at s.start now)) (start_at s.start now) is

pub acted : (s : CaptureState) (number index link now : ℕ) (what : What) (r : RunningState) (found : Option Difference) (verdict : Option ReplayEnd) → s.part ≡ parts.Events → suc index ≡ link
    → false ≡ is_refused_on (s.connections (suc index)) what → HappensBy (begun s now) (suc index) now what (start_at s.start now) found r
    → verdict ≡ option_map (λ d. Differs link d.at d.want d.got) found → Acts s number link now what verdict r
acted s number index link now what r found verdict there same_link good h same_verdict =
    subst (λ (v : Option ReplayEnd). Acts s number link now what v r) (sym same_verdict)
    (acts-by s number link now what r found there (ap (λ (l : ℕ). is_refused_on (s.connections l) what) (sym same_link) ∙ sym good)
    (subst (λ (l : ℕ). HappensBy (begun s now) l now what (start_at s.start now) found r) same_link h))

acts-taken : (s : CaptureState) (number count link now : ℕ) (what : What) (house : Household) (waiting : Bool) (r : RunningState) (verdict : Option ReplayEnd) → s.part ≡ parts.Events → Acts s number link now what verdict r
    → TakesLine s number (At link now what) verdict (record { part = parts.Events; house = house; waiting = waiting; running = Some r; number = count })
acts-taken s number count link now what house waiting r None there h =
    let stays : h.1.after.part ≡ parts.Events = same-part (begun s now) link now what h.1.after h.1.happens in
    record {
      part = parts.Events;
      after = h.1.after;
      may = may-come s link now what there;
      taken = h.0;
      says = h.1.happens;
      is = record { next = sym stays; server = record { first = start_at s.start now; start = h.1.start; is = h.1.is; past = ap is_past_house stays } };
    }
acts-taken s number count link now what house waiting r (Some verdict) there h = h

pub event_taken : (old new : HeldCapture) (s : CaptureState) (house : Household) (waiting : Bool) (number count link now : ℕ) (what : What) (r : RunningState) (part : Part) (verdict : Option ReplayEnd) → IsCapture old s
    → old.part ≡ parts.Events → part ≡ old.part → Acts s number link now what verdict r
    → new ≡ record { part = part; house = house; waiting = waiting; running = Some r; number = count } → TakesLine s number (At link now what) verdict new
event_taken old new s house waiting number count link now what r part verdict is at kept h same =
    subst (λ (x : HeldCapture). TakesLine s number (At link now what) verdict x)
    (ap (λ (p : Part). record { part = p; house = house; waiting = waiting; running = Some r; number = count }) (sym (kept ∙ at)) ∙ sym same)
    (acts-taken s number count link now what house waiting r verdict (sym is.next ∙ at) h)

pub event_refused : (s : CaptureState) (index link now : ℕ) (what : What) → suc index ≡ link → true ≡ is_refused_on (s.connections (suc index)) what → is_bad s (Some (At link now what)) ≡ true
event_refused s index link now what same_link bad =
    or_right (is_none (part_after s.part (At link now what))) (is_refused_on (s.connections link) what) (ap (λ (l : ℕ). is_refused_on (s.connections l) what) (sym same_link) ∙ sym bad)

-- a line that was read

taken-by : (s : CaptureState) (number : ℕ) (raw : List ℕ) (line : Line) (verdict : Option ReplayEnd) (c : HeldCapture) → line_in raw ≡ Some line → TakesLine s number line verdict c
    → TakesRawLine s number raw verdict (record c { number = number })
taken-by s number raw line None c read h = (
  h.after,
  record { line = line; part = h.part; is = read; may = h.may; taken = h.taken; says = h.says },
  record { next = h.is.next; server = h.is.server },
  refl,
)
taken-by s number raw line (Some (BadCapture n)) c read h = (ap (λ (o : Option Line). is_bad s o) read ∙ h.0, h.1)
taken-by s number raw line (Some (Differs link at want got)) c read h = record {
  now = h.now;
  bytes = h.bytes;
  is = read ∙ ap Some h.shows;
  good = λ bad. h.good (ap (λ (o : Option Line). is_bad s o) (sym read) ∙ bad);
  found = h.found;
}
taken-by s number raw line (Some (Same links entries replies refused)) c read h = absurd h
taken-by s number raw line (Some ReadFault) c read h = absurd h
taken-by s number raw line (Some Spent) c read h = absurd h
taken-by s number raw line (Some Memory) c read h = absurd h

pub line_taken : (s : CaptureState) (number : ℕ) (raw : List ℕ) (line : Line) (found : Option Line) (verdict : Option ReplayEnd) (c new : HeldCapture) → found ≡ line_in raw → found ≡ Some line
    → TakesLine s number line verdict c → new ≡ record c { number = number } → TakesRawLine s number raw verdict new
line_taken s number raw line found verdict c new read some h same =
    subst (λ (x : HeldCapture). TakesRawLine s number raw verdict x) (sym same) (taken-by s number raw line verdict c (sym read ∙ some) h)
