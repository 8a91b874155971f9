-- What was written of a made capture, and what waits.
use Rattle.std.proofs.Common.{◌≡◌, ℕ, ◌+◌, ◌<◌, ◌≤◌, true, false, List, [], ◌∷◌, ◌++◌, suc, refl, sym, ap, ◌∙◌, subst, append_assoc, arith, inl, inr}
use Rattle.afp_base.proofs.Facts.{nothing-added}
use Rattle.afp_outside.specs.ends.Sink.{SinkState}
use Rattle.afp_outside.specs.ends.Whole.{Prints, PrintsPart}
use Rattle.afp_outside.proofs.OfEnds.Whole.{prints-both}
use Rattle.capture_log.specs.Taking.{HeldCapture, IsCapture}
use Rattle.capture_log_server.specs.CaptureState.{CaptureState}
use Rattle.capture_log_lines.specs.made.Lines.{ended_lines, house_lines, end_line}
use Rattle.capture_made.specs.requests.Requests.{StepState, first_state, request_of}
use Rattle.capture_made.specs.made.Making.{AreFirst, MakesBy, MakesPart, MakesSome}
use Rattle.capture_made.specs.declared.made.making.MakeEnd.{MakeEnd}
use Rattle.capture_made.specs.declared.made.making.MakeEnd.TheVariants as ends
use Rattle.capture_made.specs.made.lemma.Adding.{Exchanged, FailedStep, FinishesBy, HasMade, HasRun, HasWritten, StepsBy, WritesFront, after_steps}
use Rattle.capture_made.proofs.OfMade.AddingLemmas.{ended-append, made, run-more}

-- writes, one after the other

pub prints-none : (s : SinkState) → Prints s [] s
prints-none s = record { written = nothing-added s.written; faults = refl }

-- a write failed behind what was written
part-behind : (a b c : SinkState) (x y text : List ℕ) → x ++ y ≡ text → Prints a x b → PrintsPart b y c → PrintsPart a text c
part-behind a b c x y text e r s = subst (λ (t : List ℕ). PrintsPart a t c) e (prints-both a b c x y false r s)

-- a step, and the text that is written behind it

pub written-more : (number count : ℕ) (start sink : SinkState) (capture new : HeldCapture) (held held_then : List ℕ) → (h : HasWritten number count start capture held sink)
    → ((s : CaptureState) → IsCapture capture s → Exchanged s (request_of (after_steps (first_state number) count) ∷ []) held new held_then) → HasWritten number (suc count) start new held_then sink
written-more number count start sink capture new held held_then h exchanged =
    let x = exchanged h.made.runs.now h.made.runs.is in
    let all : h.part ++ held_then ≡ (h.part ++ held) ++ ended_lines x.lines = ap (λ (t : List ℕ). h.part ++ t) x.text_is ∙ sym (append_assoc h.part held (ended_lines x.lines)) in
    record {
      part = h.part;
      writes = h.writes;
      made = record {
        lines = h.made.lines ++ x.lines;
        runs = run-more number count capture new h.made.lines held held_then h.made.runs x;
        text_is =
            all ∙ ap (λ (t : List ℕ). t ++ ended_lines x.lines) h.made.text_is ∙ sym (ended-append (house_lines ++ h.made.lines) x.lines)
            ∙ ap (λ (ls : List (List ℕ)). ended_lines ls) (append_assoc house_lines h.made.lines x.lines);
      };
    }

pub written-front : (number count : ℕ) (start sink sink_then : SinkState) (capture : HeldCapture) (held left : List ℕ) → HasWritten number count start capture held sink
    → WritesFront sink held left true sink_then → HasWritten number count start capture left sink_then
written-front number count start sink sink_then capture held left h (p, e, w) = record {
  part = h.part ++ p;
  writes = prints-both start sink sink_then h.part p true h.writes w;
  made = record {
    lines = h.made.lines;
    runs = h.made.runs;
    text_is = append_assoc h.part p left ∙ ap (λ (t : List ℕ). h.part ++ t) (sym e) ∙ h.made.text_is;
  };
}

pub written-none : (number : ℕ) (start : SinkState) (capture : HeldCapture) (text : List ℕ) → HasMade number 0 capture text → HasWritten number 0 start capture text start
written-none number start capture text h = record { part = []; writes = prints-none start; made = h }

-- the first lines of a capture

begun : (number count steps : ℕ) (capture : HeldCapture) (lines : List (List ℕ)) → count ≤ steps → HasRun number count capture lines → AreFirst number steps (house_lines ++ lines)
begun number count steps capture lines most h = inl record {
  count = count;
  most = most;
  opened = h.opened;
  events = lines;
  answered = h.now;
  house = h.house;
  exchanges = h.exchanges;
  lines_are = refl;
}

pub some-written : (number count steps : ℕ) (start sink sink_then : SinkState) (capture : HeldCapture) (held : List ℕ) → count ≤ steps → HasWritten number count start capture held sink → sink_then ≡ sink
    → MakesSome number steps start sink_then
some-written number count steps start sink sink_then capture held most h e =
    subst (λ (s : SinkState). MakesSome number steps start s) (sym e) record {
      part = h.part;
      front = inr record { lines = house_lines ++ h.made.lines; first = begun number count steps capture h.made.lines most h.made.runs; lost = held; cut = h.made.text_is };
      writes = h.writes;
    }

pub part-written : (number i count : ℕ) (start sink sink_then : SinkState) (capture new : HeldCapture) (steps : StepState) (held : List ℕ) → i < count → HasWritten number i start capture held sink
    → steps ≡ after_steps (first_state number) i → FailedStep steps capture held sink new sink_then → MakesPart number count start sink_then
part-written number i count start sink sink_then capture new steps held within h e f =
    let m =
    written-more number i start sink capture new held f.middle h (λ s is. subst (λ (st : StepState). Exchanged s (request_of st ∷ []) held new f.middle) e (f.exchanged s is)) in
    record {
      lines = house_lines ++ m.made.lines;
      first = begun number (suc i) count new m.made.lines (omega (arith, within)) m.made.runs;
      writes = part-behind start sink sink_then m.part f.middle (ended_lines (house_lines ++ m.made.lines)) m.made.text_is m.writes f.front;
    }

-- the end

text-ends : (part held : List ℕ) (lines : List (List ℕ)) → part ++ held ≡ ended_lines (house_lines ++ lines)
    → part ++ (held ++ ended_lines (end_line ∷ [])) ≡ ended_lines (house_lines ++ (lines ++ end_line ∷ []))
text-ends part held lines e =
    sym (append_assoc part held (ended_lines (end_line ∷ []))) ∙ ap (λ (x : List ℕ). x ++ ended_lines (end_line ∷ [])) e
    ∙ sym (ended-append (house_lines ++ lines) (end_line ∷ [])) ∙ ap (λ (ls : List (List ℕ)). ended_lines ls) (append_assoc house_lines lines (end_line ∷ []))

pub finished : (number steps : ℕ) (start sink sink_then : SinkState) (capture : HeldCapture) (held : List ℕ) (end : MakeEnd) → HasWritten number steps start capture held sink
    → FinishesBy capture held sink end sink_then → MakesBy number steps end start sink_then
finished number steps start sink sink_then capture held ends.Done h f =
    let t = f h.made.runs.now h.made.runs.is in
    record {
      lines = house_lines ++ (h.made.lines ++ end_line ∷ []);
      standing = t.0;
      made = made number steps h.made.runs.opened h.made.runs.now t.0 h.made.lines h.made.runs.house h.made.runs.exchanges t.1;
      writes = subst (λ (x : List ℕ). Prints start x sink_then) (text-ends h.part held h.made.lines h.made.text_is)
          (prints-both start sink sink_then h.part (held ++ ended_lines (end_line ∷ [])) true h.writes t.2);
    }
finished number steps start sink sink_then capture held ends.WriteFault h f =
    let t = f h.made.runs.now h.made.runs.is in
    record {
      lines = house_lines ++ (h.made.lines ++ end_line ∷ []);
      first = inr (t.after, made number steps h.made.runs.opened h.made.runs.now t.after h.made.lines h.made.runs.house h.made.runs.exchanges t.good);
      writes =
          part-behind start sink sink_then h.part (held ++ ended_lines (end_line ∷ [])) (ended_lines (house_lines ++ (h.made.lines ++ end_line ∷ [])))
          (text-ends h.part held h.made.lines h.made.text_is) h.writes t.part;
    }
finished number steps start sink sink_then capture held ends.Memory h f = some-written number steps steps start sink sink_then capture held (omega arith) h f

-- a step that is written

pub written-on : (number i : ℕ) (start sink sink_then : SinkState) (capture new : HeldCapture) (steps steps_then : StepState) (held held_then : List ℕ) → HasWritten number i start capture held sink
    → steps ≡ after_steps (first_state number) i → StepsBy steps capture held sink ends.Done steps_then new held_then sink_then → HasWritten number (i + 1) start new held_then sink_then
written-on number i start sink sink_then capture new steps steps_then held held_then h e by =
    let same : suc i ≡ i + 1 = omega arith in
    subst (λ (n : ℕ). HasWritten number n start new held_then sink_then) same
    (written-front number (suc i) start sink sink_then new by.middle held_then
    (written-more number i start sink capture new held by.middle h
    (λ s is. subst (λ (st : StepState). Exchanged s (request_of st ∷ []) held new by.middle) e (by.exchanged s is)))
    by.front)

pub written-all : (number i count : ℕ) (start sink : SinkState) (capture : HeldCapture) (held : List ℕ) → i ≡ count → HasWritten number i start capture held sink → HasWritten number count start capture held sink
written-all number i count start sink capture held e h = subst (λ (n : ℕ). HasWritten number n start capture held sink) e h
