-- Lines that are added, one after the other.
use Rattle.std.proofs.Common.{◌≡◌, ℕ, ◌+◌, ◌-◌, ◌<◌, ◌≤◌, List, [], ◌∷◌, ◌++◌, zero, suc, length, take, refl, sym, ap, ◌∙◌, subst, append_assoc, length-append, arith}
use Rattle.std.specs.Prelude.{Option, Some, None, Result, Ok, Err, OnOk}
use Rattle.std.proofs.Math.Seq.{take-append_seam}
use Rattle.capture_log.specs.Standing.{uncompared}
use Rattle.capture_log.specs.Taking.{HeldCapture, IsCapture, IsLink, TakesRawLine}
use Rattle.capture_log.specs.Judged.{DecidesEnd}
use Rattle.capture_log.specs.declared.replay_end.ReplayEnd.{ReplayEnd}
use Rattle.capture_log.specs.declared.replay_end.ReplayEnd.TheVariants.{Same}
use Rattle.capture_log_server.specs.Counting.{AreCaptureCounts}
use Rattle.capture_log_server.specs.CaptureState.{CaptureState, Leads, TakesGoodLine, begins}
use Rattle.capture_log_lines.specs.made.Lines.{ended_lines, house_lines, in_line, out_line, end_line}
use Rattle.capture_made.specs.requests.Requests.{StepState, after, first_state, most_steps, opening, request_of, requests, step_requests}
use Rattle.capture_made.specs.declared.requests.request.Request.{Request}
use Rattle.capture_made.specs.made.Made.{Exchanges, IsMade}
use Rattle.capture_made.specs.made.lemma.Adding.{Adds, Exchanged, HasRun, Takes, after_steps}

-- a line in front of its newline

pub line-cut : (line ended : List ℕ) (n : ℕ) → n ≡ length ended - 1 → ended ≡ line ++ 10 ∷ [] → take n ended ≡ line
line-cut line ended n h e =
    let size : n ≡ length line = omega (arith, h, ap length e, length-append line (10 ∷ [])) in
    ap (λ (n : ℕ). take n ended) size ∙ ap (λ (l : List ℕ). take (length line) l) e ∙ take-append_seam line (10 ∷ [])

-- lines behind lines

pub leads-join : (s m t : CaptureState) (ls ms : List (List ℕ)) → Leads s ls m → Leads m ms t → Leads s (ls ++ ms) t
leads-join s m t [] ms same more = subst (λ (x : CaptureState). Leads x ms t) same more
leads-join s m t (l ∷ ls) ms (n, good, rest) more = (n, good, leads-join n m t ls ms rest more)

pub ended-append : (ls ms : List (List ℕ)) → ended_lines (ls ++ ms) ≡ ended_lines ls ++ ended_lines ms
ended-append [] ms = refl
ended-append (l ∷ ls) ms = ap (λ (t : List ℕ). l ++ 10 ∷ t) (ended-append ls ms) ∙ sym (append_assoc l (10 ∷ ended_lines ls) (ended_lines ms))

text-join : (text one two : List ℕ) (ls ms : List (List ℕ)) → one ≡ text ++ ended_lines ls → two ≡ one ++ ended_lines ms → two ≡ text ++ ended_lines (ls ++ ms)
text-join text one two ls ms e f =
    f ∙ ap (λ (t : List ℕ). t ++ ended_lines ms) e ∙ append_assoc text (ended_lines ls) (ended_lines ms) ∙ ap (λ (t : List ℕ). text ++ t) (sym (ended-append ls ms))

pub adds-line : (s : CaptureState) (line ended text text_then : List ℕ) (new : HeldCapture) → ended ≡ line ++ 10 ∷ [] → Takes s line new → text_then ≡ text ++ ended → Adds s (line ∷ []) text new text_then
adds-line s line ended text text_then new e t x = record { after = t.after; leads = (t.after, t.good, refl); is = t.is; text_is = x ∙ ap (λ (l : List ℕ). text ++ l) e }

pub adds-join : (s : CaptureState) (ls ms : List (List ℕ)) (text one two : List ℕ) (a b : HeldCapture) → (x : Adds s ls text a one) → Adds x.after ms one b two → Adds s (ls ++ ms) text b two
adds-join s ls ms text one two a b x y = record {
  after = y.after;
  leads = leads-join s x.after y.after ls ms x.leads y.leads;
  is = y.is;
  text_is = text-join text one two ls ms x.text_is y.text_is;
}

pub good-line : (s t : CaptureState) (line : List ℕ) → Leads s (line ∷ []) t → TakesGoodLine s line t
good-line s t line (m, good, same) = subst (λ (x : CaptureState). TakesGoodLine s line x) (sym same) good

-- requests and their replies

pub exchanged-one : (s : CaptureState) (r : Request) (text one two : List ℕ) (a b : HeldCapture) → (x : Adds s (in_line r.link r.at r.frame ∷ []) text a one)
    → Adds x.after (out_line r.link r.at (uncompared (x.after.connections r.link)) ∷ []) one b two → Exchanged s (r ∷ []) text b two
exchanged-one s r text one two a b x y =
    let came : List ℕ = in_line r.link r.at r.frame in
    let told : List ℕ = out_line r.link r.at (uncompared (x.after.connections r.link)) in
    record {
      lines = came ∷ told ∷ [];
      after = y.after;
      exchanges = (
        y.after,
        came ∷ told ∷ [],
        [],
        record { fed = x.after; came = good-line s x.after came x.leads; answered = good-line x.after y.after told y.leads; lines_are = refl },
        (refl, refl),
        refl,
      );
      is = y.is;
      text_is = text-join text one two (came ∷ []) (told ∷ []) x.text_is y.text_is;
    }

pub exchanges-join : (s m t : CaptureState) (rs qs : List Request) (ls ms : List (List ℕ)) → Exchanges s rs ls m → Exchanges m qs ms t → Exchanges s (rs ++ qs) (ls ++ ms) t
exchanges-join s m t [] qs ls ms (none, same) more =
    subst (λ (l : List (List ℕ)). Exchanges s qs (l ++ ms) t) (sym none) (subst (λ (x : CaptureState). Exchanges x qs ms t) same more)
exchanges-join s m t (r ∷ rs) qs ls ms (n, first, rest, one, others, all) more = (
  n,
  first,
  rest ++ ms,
  one,
  exchanges-join n m t rs qs rest ms others more,
  ap (λ (l : List (List ℕ)). l ++ ms) all ∙ append_assoc first rest ms,
)

pub exchanged-join : (s : CaptureState) (rs qs : List Request) (text one two : List ℕ) (a b : HeldCapture) → (x : Exchanged s rs text a one) → Exchanged x.after qs one b two → Exchanged s (rs ++ qs) text b two
exchanged-join s rs qs text one two a b x y = record {
  lines = x.lines ++ y.lines;
  after = y.after;
  exchanges = exchanges-join s x.after y.after rs qs x.lines y.lines x.exchanges y.exchanges;
  is = y.is;
  text_is = text-join text one two x.lines y.lines x.text_is y.text_is;
}

-- each line of requests and their replies is good

leads-exchanges : (s t : CaptureState) (rs : List Request) (lines : List (List ℕ)) → Exchanges s rs lines t → Leads s lines t
leads-exchanges s t [] lines (none, same) = subst (λ (l : List (List ℕ)). Leads s l t) (sym none) same
leads-exchanges s t (r ∷ rs) lines (m, first, more, one, others, all) =
    let both : Leads s first m = subst (λ (l : List (List ℕ)). Leads s l m) (sym one.lines_are) (one.fed, one.came, (m, one.answered, refl)) in
    subst (λ (l : List (List ℕ)). Leads s l t) (sym all) (leads-join s m t first more both (leads-exchanges m t rs more others))

-- one step more

steps-front : (s : StepState) (count : ℕ) → after_steps (after s) count ≡ after (after_steps s count)
steps-front s zero = refl
steps-front s (suc count) = ap after (steps-front s count)

steps-last : (s : StepState) (count : ℕ) → step_requests s (suc count) ≡ step_requests s count ++ request_of (after_steps s count) ∷ []
steps-last s zero = refl
steps-last s (suc count) =
    ap (λ (l : List Request). request_of s ∷ l) (steps-last (after s) count)
    ∙ ap (λ (x : StepState). request_of s ∷ (step_requests (after s) count ++ request_of x ∷ [])) (steps-front s count)

pub requests-last : (number count : ℕ) → requests number (suc count) ≡ requests number count ++ request_of (after_steps (first_state number) count) ∷ []
requests-last number count =
    let last : List Request = request_of (after_steps (first_state number) count) ∷ [] in
    let rest : List Request = step_requests (first_state number) count in
    ap (λ (l : List Request). opening 1 ++ (opening 2 ++ (opening 3 ++ l))) (steps-last (first_state number) count)

-- a capture that ends

pub made : (number steps : ℕ) (opened answered t : CaptureState) (events : List (List ℕ)) → Leads begins house_lines opened → Exchanges opened (requests number steps) events answered
    → TakesGoodLine answered end_line t → IsMade number steps (house_lines ++ (events ++ end_line ∷ [])) t
made number steps opened answered t events house exchanges ends = record {
  opened = opened;
  events = events;
  answered = answered;
  house = house;
  exchanges = exchanges;
  ends = ends;
  lines_are = refl;
  judged =
      leads-join begins opened t house_lines (events ++ end_line ∷ []) house
      (leads-join opened answered t events (end_line ∷ []) (leads-exchanges opened answered (requests number steps) events exchanges) (t, ends, refl));
}

pub run-more : (number count : ℕ) (capture new : HeldCapture) (lines : List (List ℕ)) (text text_then : List ℕ) → (h : HasRun number count capture lines)
    → (x : Exchanged h.now (request_of (after_steps (first_state number) count) ∷ []) text new text_then) → HasRun number (suc count) new (lines ++ x.lines)
run-more number count capture new lines text text_then h x = record {
  opened = h.opened;
  now = x.after;
  house = h.house;
  exchanges = subst (λ (rs : List Request). Exchanges h.opened rs (lines ++ x.lines) x.after) (sym (requests-last number count))
      (exchanges-join h.opened h.now x.after (requests number count) (request_of (after_steps (first_state number) count) ∷ []) lines x.lines h.exchanges x.exchanges);
  is = x.is;
}

-- a line that decides nothing

pub takes-none : (a b : HeldCapture) (number : ℕ) (line : List ℕ) (verdict : Option ReplayEnd) → ((s : CaptureState) → IsCapture a s → TakesRawLine s number line verdict b) → verdict ≡ None
    → (s : CaptureState) → IsCapture a s → Takes s line b
takes-none a b number line None told e s is = let t = told s is in record { after = t.0; good = t.1; is = t.2 }
takes-none a b number line (Some verdict) told e s is = absurd (cc e)

pub on_ok_with : {X E : Type 0} (r : Result X E) (P Q : Type 0) → (P → Q) → OnOk r P → OnOk r Q
on_ok_with (Ok x) P Q f h = f h
on_ok_with (Err e) P Q f h = tt

-- the connection of a step

pub step-link : (s : StepState) → IsLink (request_of s).link
step-link s = (omega arith, omega arith)

pub steps-counted : (number count : ℕ) → (after_steps (first_state number) count).steps ≡ count
steps-counted number zero = refl
steps-counted number (suc count) = let e = steps-counted number count in omega (arith, e)

pub more-left : (number i count : ℕ) (steps : StepState) → steps ≡ after_steps (first_state number) i → i < count → count ≤ most_steps → steps.steps < most_steps
more-left number i count steps e within most = let same = ap (λ (s : StepState). s.steps) e ∙ steps-counted number i in omega (arith, same, within, most)

-- the counts of a capture that is the same

pub counts-same : (s : CaptureState) (n : ℕ) (verdict : ReplayEnd) (links entries replies refused : ℕ) → DecidesEnd s n verdict → verdict ≡ Same links entries replies refused
    → AreCaptureCounts s links entries replies refused
counts-same s n verdict links entries replies refused d e = (subst (λ (v : ReplayEnd). DecidesEnd s n v) e d).1

pub step-on : (number i : ℕ) (now new : StepState) → now ≡ after_steps (first_state number) i → new ≡ after now → new ≡ after_steps (first_state number) (i + 1)
step-on number i now new e f =
    let same : suc i ≡ i + 1 = omega arith in
    f ∙ ap after e ∙ ap (λ (n : ℕ). after_steps (first_state number) n) same

pub run-on : (number i : ℕ) (capture new : HeldCapture) (lines : List (List ℕ)) (steps : StepState) (text text_then : List ℕ) → HasRun number i capture lines → steps ≡ after_steps (first_state number) i
    → ((s : CaptureState) → IsCapture capture s → Exchanged s (request_of steps ∷ []) text new text_then) → (more : List (List ℕ)) × HasRun number (i + 1) new more
run-on number i capture new lines steps text text_then h e exchanged =
    let same : suc i ≡ i + 1 = omega arith in
    let x : Exchanged h.now (request_of (after_steps (first_state number) i) ∷ []) text new text_then =
    subst (λ (st : StepState). Exchanged h.now (request_of st ∷ []) text new text_then) e (exchanged h.now h.is) in
    (lines ++ x.lines, subst (λ (n : ℕ). HasRun number n new (lines ++ x.lines)) same (run-more number i capture new lines text text_then h x))
