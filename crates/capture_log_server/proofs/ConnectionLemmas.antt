-- What a connection holds, from one call to the next.
use Rattle.std.proofs.Common.{◌≡◌, ◌≢◌, ℕ, ◌+◌, ◌≤◌, Bool, true, false, List, [], ◌∷◌, ◌++◌, length, drop, refl, sym, ap, ◌∙◌, subst, length-append, arith}
use Rattle.std.proofs.lemmas.List.{drop-append-le, drop-drop, length-drop}
use Rattle.std.specs.Prelude.{◌==◌, if◌then◌else◌, Option, Some, None, Result, Ok, Err, OnOk}
use Rattle.afp_base.specs.declared.bytes.OutOfMemory.{OutOfMemory}
use Rattle.afp_base.specs.declared.ids.LinkNumber.{LinkNumber}
use Rattle.afp_serial.specs.Shown.{Shown}
use Rattle.afp_serial.specs.Shown.{Asked}
use Rattle.afp_serial.specs.Went.{step}
use Rattle.afp_serial.specs.declared.ask.Ask.{Ask}
use Rattle.afp_serial.specs.declared.ask.Ask.TheVariants as asks_of
use Rattle.afp_serial.specs.declared.ask.Told.{Told}
use Rattle.afp_serial.specs.declared.ask.Told.TheVariants as told
use Rattle.afp_serial.proofs.Grows.{went-one}
use Rattle.dsi_frame.specs.Deframe.{GivenOut}
use Rattle.dsi_frame.specs.Frame.{Frame}
use Rattle.dsi_frame.specs.Replies.{spelling_of}
use Rattle.afp_server.specs.link.Script.{Script}
use Rattle.afp_server.specs.link.Tally.{and_told}
use Rattle.afp_server.specs.link.Wire.{WireState, open_link}
use Rattle.afp_server.specs.declared.link.stage.Stage.{Stage}
use Rattle.afp_server.specs.declared.link.tally.Tally.{Tally}
use Rattle.afp_server.proofs.OfLink.Traces.{spelling_of-append}
use Rattle.capture_log_server.specs.Connections.{Connection, fed_with, difference, output, Extends}
use Rattle.capture_log_server.specs.lemma.Moves.{FeedsConnection, IdlesConnection, LosesConnection, Compares, wire_or}
use Rattle.capture_log_server.specs.CaptureState.{after_quiet, after_loss}
use Rattle.capture_log_server.specs.Sole.{IsSole}
use Rattle.capture_log_server.specs.States.{ConnectionState, IsConnection, IsLive, IsWire}
use Rattle.capture_log_server.specs.lemma.States.{FeedsWire, GoesOn}
use Rattle.capture_log_server.proofs.Histories.{Asks, asks}

-- the wire that bytes are fed to

pub record Ready (block : List ℕ) (w : WireState) (fed : ℕ) (s : Connection) : Type 0 where
  pub serves : w.block ≡ block
  pub stage : w.stage ≡ s.stage
  pub live : IsLive w fed s

unfed-given : (fed : List ℕ) (past : List Frame) → fed ≡ [] → past ≡ [] → GivenOut fed past (record { place = 0; rest = [] })
unfed-given fed past e f =
    let empty : GivenOut [] [] (record { place = 0; rest = [] }) = record { filled = []; spelled = refl; whole = refl; place = refl } in
    subst (λ (fs : List Frame). GivenOut fed fs (record { place = 0; rest = [] })) (sym f) (subst (λ (bytes : List ℕ). GivenOut bytes [] (record { place = 0; rest = [] })) (sym e) empty)

ready-wire : (block : List ℕ) (o : Option WireState) (fed : ℕ) (s : Connection) → IsWire block o fed s → s.over ≡ false → s.lost ≡ false → Ready block (wire_or block o) fed s
ready-wire block None fed s h on there =
    let u = h.unfed on there in
    record {
      serves = refl;
      stage = sym u.stage;
      live = record { goes_on = refl; live = λ e. cc e; given = unfed-given s.fed s.past u.fed u.past; most = omega arith };
    }
ready-wire block (Some w) fed s h on there = record { serves = h.serves; stage = h.stage; live = h.live on }

pub ready : (block : List ℕ) (c : ConnectionState) (s : Connection) (w : WireState) → IsConnection block c s → c.over ≡ false → c.lost ≡ false → w ≡ wire_or block c.wire → Ready block w c.fed s
ready block c s w is on there same =
    subst (λ (x : WireState). Ready block x c.fed s) (sym same) (ready-wire block c.wire c.fed s is.wire (sym is.over ∙ on) (sym is.lost ∙ there))

-- the output grows

drop-more : (n : ℕ) (xs ys : List ℕ) → n ≤ length xs → drop n xs ++ ys ≡ drop n (xs ++ ys)
drop-more n xs ys h = sym (drop-append-le n xs ys h)

-- Bytes were fed to the wire that is there, or to a new one.
pub fed_connection : (block : List ℕ) (now : ℕ) (piece : List ℕ) (c d : ConnectionState) (s : Connection) (t u : Shown) (w v : WireState) (tally : Tally) (out sent : List ℕ) (over : Bool) (fed : ℕ)
    → IsConnection block c s → Ready block w c.fed s → FeedsWire now s.fed s.past piece w out t over v sent u → GoesOn over v → v.block ≡ w.block
    → v.held.place + length v.held.rest ≤ fed → tally ≡ v.tally → c.out ≡ out
    → d ≡ record { wire = Some v; fed = fed; used = true; over = over; lost = c.lost; out = sent; place = c.place; named = c.named }
    → FeedsConnection block now piece s t tally d u
fed_connection block now piece c d s t u w v tally out sent over fed is r f goes kept most same_tally same_out same =
    let grows : output s ++ spelling_of f.replies ≡ spelling_of (s.replies ++ f.replies) = sym (spelling_of-append s.replies f.replies) in
    let longer : s.named ≤ length (spelling_of (s.replies ++ f.replies)) = omega (arith, is.within, ap length grows, length-append (output s) (spelling_of f.replies)) in
    let held : ConnectionState = record { wire = Some v; fed = fed; used = true; over = over; lost = c.lost; out = sent; place = c.place; named = c.named } in
    let sent_is : sent ≡ c.out ++ spelling_of f.replies = f.sent_is ∙ ap (λ (l : List ℕ). l ++ spelling_of f.replies) (sym same_out) in
    let added : drop c.place sent ≡ drop c.place c.out ++ spelling_of f.replies =
    ap (λ (l : List ℕ). drop c.place l) sent_is ∙ drop-append-le c.place c.out (spelling_of f.replies) is.inside in
    let it : IsConnection block held (fed_with s piece f.frames f.replies v.stage over) = record {
      used = refl;
      over = refl;
      lost = is.lost;
      named = is.named;
      within = longer;
      inside = omega (arith, is.inside, ap length sent_is, length-append c.out (spelling_of f.replies));
      rest = added ∙ ap (λ (l : List ℕ). l ++ spelling_of f.replies) is.rest ∙ drop-more s.named (output s) (spelling_of f.replies) is.within ∙ ap (λ (l : List ℕ). drop s.named l) grows;
      wire = record {
        serves = kept ∙ r.serves;
        stage = refl;
        live = λ on. record { goes_on = (goes on).0; live = (goes on).1; given = f.given on; most = most };
      };
    } in
    record {
      frames = f.frames;
      steps = f.steps;
      replies = f.replies;
      after = v.stage;
      over = over;
      takes = record {
        end = f.end;
        script = subst (λ (stage : Stage). Script block stage f.frames f.steps f.replies v.stage f.end) r.stage
            (subst (λ (b : List ℕ). Script b w.stage f.frames f.steps f.replies v.stage f.end) r.serves f.script);
        moments = f.moments;
        framed = f.framed;
      };
      extends = record { start = f.start; history = f.history; served = f.served };
      tally_is = same_tally ∙ f.tally;
      is = subst (λ (x : ConnectionState). IsConnection block x (fed_with s piece f.frames f.replies v.stage over)) (sym same) it;
    }

-- one ask that was answered

pub told-true : (a : Told) → a ≢ told.Memory → and_told a true ≡ true
told-true (told.Opened link) other = refl
told-true (told.Reply code block ends) other = refl
told-true (told.Live drain) other = refl
told-true told.Done other = refl
told-true told.Displaced other = refl
told-true told.Memory other = absurd (other refl)

pub one : (t u : Shown) (now : ℕ) (link : LinkNumber) (ask : Ask) (a : Told) → Asked t now link ask a u → IsSole t → IsSole u → a ≢ told.Memory
    → Extends t (step now link ask a ∷ []) u
one t u now link ask a asked sole still other =
    let went = went-one t u now link ask a asked in
    let x : Asks t (step now link ask a ∷ []) u = asks t u (step now link ask a ∷ []) sole.mine still.mine still.faultless went (told-true a other) in
    record { start = went.start; history = x.history; served = x.served }

-- a connection without a wire

-- bytes were compared

if_none : {X : Type 0} (b : Bool) (x : Option X) (d : X) → (if b then x else Some d) ≡ None → x ≡ None
if_none true x d e = e
if_none false x d e = absurd (cc e)

pub none_within : (at : ℕ) (wanted rest : List ℕ) → difference at wanted rest ≡ None → length wanted ≤ length rest
none_within at [] rest e = omega arith
none_within at (want ∷ wanted) [] e = absurd (cc e)
none_within at (want ∷ wanted) (got ∷ rest) e =
    let more = none_within (at + 1) wanted rest (if_none (want == got) (difference (at + 1) wanted rest) _ e) in
    omega (arith, more)

renamed : (block : List ℕ) (o : Option WireState) (fed : ℕ) (s : Connection) (n : ℕ) → IsWire block o fed s → IsWire block o fed (record s { named = n })
renamed block None fed s n h = record { closed = h.closed; unfed = λ on there. let u = h.unfed on there in record { stage = u.stage; fed = u.fed; past = u.past } }
renamed block (Some w) fed s n h = record {
  serves = h.serves;
  stage = h.stage;
  live = λ on. let l = h.live on in record { goes_on = l.goes_on; live = l.live; given = l.given; most = l.most };
}

same_difference : (block wanted : List ℕ) (c : ConnectionState) (s : Connection) → IsConnection block c s
    → difference s.named wanted (drop s.named (output s)) ≡ difference c.named wanted (drop c.place c.out)
same_difference block wanted c s is =
    ap (λ (n : ℕ). difference n wanted (drop s.named (output s))) (sym is.named) ∙ ap (λ (l : List ℕ). difference c.named wanted l) (sym is.rest)

pub compared : (block wanted : List ℕ) (c d : ConnectionState) (s : Connection) (named : ℕ) → IsConnection block c s → difference c.named wanted (drop c.place c.out) ≡ None
    → drop d.place d.out ≡ drop (length wanted) (drop c.place c.out) → d.place ≤ length d.out → d ≡ record c { out = d.out; place = d.place; named = named } → named ≡ c.named + length wanted
    → Compares block wanted s None d
compared block wanted c d s named is none rest inside others sum_is =
    let fits = none_within c.named wanted (drop c.place c.out) none in
    let held : ConnectionState = record c { out = d.out; place = d.place; named = named } in
    let it : IsConnection block held (record s { named = s.named + length wanted }) = record {
      used = is.used;
      over = is.over;
      lost = is.lost;
      named = sum_is ∙ ap (λ (n : ℕ). n + length wanted) is.named;
      within = omega (arith, fits, ap length is.rest, length-drop s.named (output s), is.within);
      inside = inside;
      rest = rest ∙ ap (λ (l : List ℕ). drop (length wanted) l) is.rest ∙ drop-drop (length wanted) s.named (output s);
      wire = renamed block c.wire c.fed s (s.named + length wanted) is.wire;
    } in (
      same_difference block wanted c s is ∙ none,
      subst (λ (x : ConnectionState). IsConnection block x (record s { named = s.named + length wanted })) (sym others) it,
    )

-- a quiet came, or a loss

pub idled : (now : ℕ) (link : LinkNumber) (a : Told) (c d : ConnectionState) (t u : Shown) (o : Option LinkNumber) (r : Result (Unit {0}) OutOfMemory)
    → ((block : List ℕ) (s : Connection) → IsConnection block c s → o ≡ open_link s.stage) → o ≡ Some link → Asked t now link asks_of.Pulse a u → IsSole t → IsSole u
    → OnOk r (a ≢ told.Memory) → OnOk r ((block : List ℕ) (s : Connection) → IsConnection block c s → IsConnection block d (after_quiet a s))
    → OnOk r ((block : List ℕ) (s : Connection) → IsConnection block c s → IdlesConnection (open_link s.stage) block now s t d u)
idled now link a c d t u o (Ok x) opens there asked sole still other kept = λ block s is.
    subst (λ (l : Option LinkNumber). IdlesConnection l block now s t d u) (sym there ∙ opens block s is) (a, one t u now link asks_of.Pulse a asked sole still other, kept block s is)
idled now link a c d t u o (Err e) opens there asked sole still other kept = tt

pub ended : (now : ℕ) (link : LinkNumber) (a : Told) (c d : ConnectionState) (t u : Shown) (o : Option LinkNumber)
    → ((block : List ℕ) (s : Connection) → IsConnection block c s → o ≡ open_link s.stage) → o ≡ Some link → Asked t now link asks_of.Lost a u → IsSole t → IsSole u
    → a ≢ told.Memory → ((block : List ℕ) (s : Connection) → IsConnection block c s → IsConnection block d (after_loss s))
    → (block : List ℕ) (s : Connection) → IsConnection block c s → LosesConnection (open_link s.stage) block now s t d u
ended now link a c d t u o opens there asked sole still other kept block s is =
    subst (λ (l : Option LinkNumber). LosesConnection l block now s t d u) (sym there ∙ opens block s is) (a, one t u now link asks_of.Lost a asked sole still other, kept block s is)
