-- What is done at a link.
use Rattle.std.proofs.Common.{◌≡◌, ◌≢◌, ◌∙◌, refl, sym, ap, subst, ℕ, ◌+◌, ◌≤◌, Bool, true, false, List, [], ◌∷◌, ◌++◌, length, min, take, drop, Option, Some, None, inl, inr, arith}
use Rattle.std.specs.Prelude.{IfNone, is_some}
use Rattle.std.proofs.lemmas.List.{drop_min, length-take-le, take-append-drop}
use Rattle.afp_base.specs.declared.ids.LinkNumber.{LinkNumber}
use Rattle.afp_serial.specs.Shown.{Asked, Shown}
use Rattle.afp_serial.specs.declared.ask.Ask.TheVariants as ask
use Rattle.afp_serial.specs.declared.ask.Told as tolds
use Rattle.afp_serial.specs.declared.ask.Told.TheVariants.{Memory}
use Rattle.afp_serial.specs.Went.{step}
use Rattle.afp_serial.proofs.Grows.{went-none, went-one}
use Rattle.afp_server.specs.link.Wire as wires
use Rattle.afp_server.specs.link.Wire.{Feeds, PartsBy, WireState, feed_point, open_link}
use Rattle.afp_server.specs.declared.link.stage.Stage.{Stage}
use Rattle.afp_server.specs.declared.link.stage.Stage.TheVariants as stages
use Rattle.afp_server.specs.declared.link.wire.WireEnd.{WireEnd}
use Rattle.afp_server.specs.declared.link.wire.WireEnd.TheVariants as wire_ends
use Rattle.dsi_frame.specs.Deframe.{GivenOut}
use Rattle.dsi_frame.specs.Frame.{Frame}
use Rattle.once_across_breaks_code.specs.run.Doings.{is_displaced}
use Rattle.once_across_breaks_code.specs.run.Things as things
use Rattle.once_across_breaks_live.specs.declared.lane.Lane.{Lane}
use Rattle.once_across_breaks_live.specs.lemma.Lanes.{FedWith, FeedsLane, HasEnd, IdlesLane, IsLane, IsLive, IsStill, LosesLane, PartsTold, open_at}
use Rattle.once_across_breaks_live.specs.Steps.{LossIsTold}
use Rattle.once_across_breaks_live.proofs.Going.{asked-goes, feeds-goes, went-goes}

no-length : (xs : List ℕ) → length xs ≡ 0 → xs ≡ []
no-length [] e = refl
no-length (x ∷ xs) e = absurd (cc e)

-- ---- bytes are fed

drop-most : (n : ℕ) (xs : List ℕ) → drop (min (length xs) n) xs ≡ drop n xs
drop-most n xs = ap (λ (k : ℕ). drop k xs) (let e : min (length xs) n ≡ min n (length xs) = omega arith in e) ∙ drop_min n xs

pub rests-none : (told : Bool) (n now size : ℕ) (l : Lane) (x : things.Lane) (a : Shown) → IsLane l x → size ≡ min (length l.up) n → size ≡ 0 → FeedsLane told n now x a l a
rests-none told n now size l x a is size_is none = inr (
  (λ live asked some. some (is.up ∙ no-length l.up (omega (arith, size_is, none, asked)))),
  record { lane = is; shown = refl },
)

pub rests-ended : (told : Bool) (n now : ℕ) (l new : Lane) (x : things.Lane) (a : Shown) → IsLane l x → l.wire ≡ None → new ≡ record { wire = None; fed = l.fed; up = l.up; down = l.down } → FeedsLane told n now x a new a
rests-ended told n now l new x a is none same =
    let over : x.ended ≡ true = subst (λ (o : Option WireState). HasEnd o l x) none is.end in
    inr (
      (λ live asked some. absurd (let e : true ≡ false = sym over ∙ live in cc e)),
      record { lane = subst (λ (y : Lane). IsLane y x) (sym same) record { up = is.up; down = is.down; end = over }; shown = refl },
    )

after-end : (r : Option WireEnd) (l : Lane) (w : WireState) (y : things.Lane) (there : Option WireState) → IsStill w r there → y.wire ≡ w → y.ended ≡ is_some r → w.end ≡ r → IfNone w.end (w.stage ≢ stages.Closing)
    → (r ≡ None → (bytes : List ℕ) × (past : List Frame) × GivenOut bytes past w.held) → w.held.place + length w.held.rest ≤ l.fed → HasEnd there l y
after-end None l w y there still wire ended end open_yet given most =
    let g = given refl in
    subst (λ (o : Option WireState). HasEnd o l y) (sym still) record {
      ended = ended;
      wire = wire;
      goes_on = end;
      open_yet = subst (λ (o : Option WireEnd). IfNone o (w.stage ≢ stages.Closing)) end open_yet;
      bytes = g.0;
      past = g.1;
      given = g.2;
      most = most;
    }
after-end (Some wire_ends.Closed) l w y there still wire ended end open_yet given most = subst (λ (o : Option WireState). HasEnd o l y) (sym still) ended
after-end (Some wire_ends.Displaced) l w y there still wire ended end open_yet given most = subst (λ (o : Option WireState). HasEnd o l y) (sym still) ended
after-end (Some (wire_ends.Bad b)) l w y there still wire ended end open_yet given most = subst (λ (o : Option WireState). HasEnd o l y) (sym still) ended
after-end (Some wire_ends.Memory) l w y there still wire ended end open_yet given most = absurd still

given-after : (start : wires.FeedStart) (bytes : List ℕ) (result : Option WireEnd) (w : WireState) (p : wires.FeedPoint) → Feeds start bytes result w.held p → result ≡ None → (bs : List ℕ) × (past : List Frame) × GivenOut bs past w.held
given-after start bytes None w p f none = (bytes, start.past ++ f.0.frames, f.0.given)
given-after start bytes (Some e) w p f none = absurd (cc none)

pub feeds-some : (told : Bool) (n now size : ℕ) (w : WireState) (o : Option WireState) (l new : Lane) (x : things.Lane) (a b : Shown) → IsLane l x → l.wire ≡ Some w → size ≡ min (length l.up) n → (size ≡ 0 → ⊥)
    → FedWith told size now w (record { wire = o; fed = l.fed; up = l.up; down = l.down }) a new b → FeedsLane told n now x a new b
feeds-some told n now size w o l new x a b is there size_is some f =
    let live : IsLive w l x = subst (λ (o : Option WireState). HasEnd o l x) there is.end in
    let within : size ≤ length l.up = omega (arith, size_is) in
    let full : length (take size l.up) ≡ size = length-take-le size l.up within in
    let y : things.Lane = record { wire = f.after; ended = is_some f.result; up = new.up; down = new.down } in
    let fed = f.feeds live.bytes live.past live.given in
    let start : wires.FeedStart = record { block = w.block; now = now; bytes = live.bytes; past = live.past; stage = w.stage; out = l.down; shown = a } in
    inl record {
      asked = omega (arith, size_is, some);
      some = λ none. some (omega (arith, size_is, ap length (sym is.up ∙ none)));
      new = y;
      fed = record {
        live = live.ended;
        piece = take size l.up;
        some = λ none. some (sym full ∙ ap length none);
        result = f.result;
        moved = is.up ∙ sym (take-append-drop size l.up) ∙ ap (λ (ys : List ℕ). take size l.up ++ ys) (sym f.up);
        feeds = subst (λ (v : WireState). (bytes : List ℕ) (past : List Frame) → GivenOut bytes past v.held
            → Feeds (record { block = v.block; now = now; bytes = bytes; past = past; stage = v.stage; out = x.down; shown = a }) (bytes ++ take size l.up) f.result f.after.held (feed_point f.after.stage f.after.tally new.down b)) (sym live.wire)
            (subst (λ (d : List ℕ). (bytes : List ℕ) (past : List Frame) → GivenOut bytes past w.held
            → Feeds (record { block = w.block; now = now; bytes = bytes; past = past; stage = w.stage; out = d; shown = a }) (bytes ++ take size l.up) f.result f.after.held (feed_point f.after.stage f.after.tally new.down b)) (sym is.down) f.feeds);
        memory = λ e. subst (λ (r : Option WireEnd). IsStill f.after r new.wire) e f.still;
        ended = refl;
        typed = f.typed;
      };
      moved = f.up ∙ ap (λ (k : ℕ). drop k l.up) size_is ∙ drop-most n l.up ∙ ap (λ (ys : List ℕ). drop n ys) (sym is.up);
      answered = f.answered;
      lane = record {
        up = refl;
        down = refl;
        end = after-end f.result new f.after y new.wire f.still refl refl f.end f.open_yet
            (given-after start (live.bytes ++ take size l.up) f.result f.after (feed_point f.after.stage f.after.tally new.down b) fed) f.total;
      };
      went_on = feeds-goes start (live.bytes ++ take size l.up) f.result f.after.held (feed_point f.after.stage f.after.tally new.down b) fed;
    }

-- ---- a quiet

open-stage : (s : Stage) (link : LinkNumber) → open_link s ≡ Some link → s ≡ stages.Open link
open-stage stages.Fresh link e = absurd (cc e)
open-stage (stages.Open other) link e = let same : other ≡ link = cc in ap (λ (n : LinkNumber). stages.Open n) same
open-stage stages.Closing link e = absurd (cc e)

live-at : (o : Option WireState) (l : Lane) (x : things.Lane) (link : LinkNumber) → HasEnd o l x → open_at o ≡ Some link → (x.ended ≡ false) × (x.wire.stage ≡ stages.Open link)
live-at None l x link end there = absurd (cc there)
live-at (Some w) l x link end there = (end.ended, ap (λ (v : WireState). v.stage) end.wire ∙ open-stage w.stage link there)

none-at : (o : Option WireState) (l : Lane) (x : things.Lane) (link : LinkNumber) → HasEnd o l x → open_at o ≡ None → x.ended ≡ false → x.wire.stage ≡ stages.Open link → ⊥
none-at None l x link end none live stage = absurd (let e : true ≡ false = sym end ∙ live in cc e)
none-at (Some w) l x link end none live stage =
    absurd (let e : open_link (stages.Open link) ≡ None = ap (λ (s : Stage). open_link s) (sym stage ∙ ap (λ (v : WireState). v.stage) end.wire) ∙ none in cc e)

pub idles-none : (now : ℕ) (l : Lane) (x : things.Lane) (a : Shown) → IsLane l x → open_at l.wire ≡ None → IdlesLane now x a l a
idles-none now l x a is none = inr ((λ live link stage. none-at l.wire l x link is.end none live stage), record { lane = is; shown = refl })

pub idles-some : (now : ℕ) (l new : Lane) (x : things.Lane) (a b : Shown) (link : LinkNumber) (answer : tolds.Told) → IsLane l x → open_at l.wire ≡ Some link → Asked a now link ask.Pulse answer b
    → ((y : things.Lane) → IsLane l y → y.ended ≡ false → IsLane new (record { wire = y.wire; ended = is_displaced answer; up = y.up; down = y.down })) → IdlesLane now x a new b
idles-some now l new x a b link answer is there asked pulsed =
    let live = live-at l.wire l x link is.end there in
    inl record { live = live.0; link = link; in_session = live.1; told = answer; asked = asked; lane = pulsed x is live.0; went_on = asked-goes a b now link ask.Pulse answer asked }

pub goes-pulsed : (l : Lane) (x : things.Lane) (b : Bool) → IsLane l x → x.ended ≡ false → b ≡ false → IsLane l (record { wire = x.wire; ended = b; up = x.up; down = x.down })
goes-pulsed l x b is live same = record { up = is.up; down = is.down; end = goes-end l.wire is.end }
  where
    goes-end : (o : Option WireState) → HasEnd o l x → HasEnd o l (record { wire = x.wire; ended = b; up = x.up; down = x.down })
    goes-end None end = absurd (let e : true ≡ false = sym end ∙ live in cc e)
    goes-end (Some w) end = record { ended = same; wire = end.wire; goes_on = end.goes_on; open_yet = end.open_yet; bytes = end.bytes; past = end.past; given = end.given; most = end.most }

pub ends-pulsed : (l : Lane) (x : things.Lane) → IsLane l x → IsLane (record { wire = None; fed = l.fed; up = l.up; down = l.down }) (record { wire = x.wire; ended = true; up = x.up; down = x.down })
ends-pulsed l x is = record { up = is.up; down = is.down; end = refl }

-- ---- a loss

pub loses-none : (told : Bool) (now : ℕ) (l new : Lane) (x : things.Lane) (a : Shown) → IsLane l x → l.wire ≡ None → new ≡ record { wire = None; fed = l.fed; up = l.up; down = l.down } → LosesLane told now x a new a
loses-none told now l new x a is none same =
    let over : x.ended ≡ true = subst (λ (o : Option WireState). HasEnd o l x) none is.end in
    inr (
      (λ live. absurd (let e : true ≡ false = sym over ∙ live in cc e)),
      record { lane = subst (λ (y : Lane). IsLane y x) (sym same) record { up = is.up; down = is.down; end = over }; shown = refl },
    )

pub loses-some : (told : Bool) (now : ℕ) (l new : Lane) (x : things.Lane) (a b : Shown) (w : WireState) → IsLane l x → l.wire ≡ Some w → new ≡ record { wire = None; fed = l.fed; up = l.up; down = l.down } → PartsTold told w.stage now a b → LosesLane told now x a new b
loses-some told now l new x a b w is there same p =
    let live : IsLive w l x = subst (λ (o : Option WireState). HasEnd o l x) there is.end in
    inl record {
      live = live.ended;
      parts = subst (λ (v : WireState). PartsBy v.stage now a b) (sym live.wire) p.parts;
      answered = λ e. subst (λ (v : WireState). LossIsTold now v.stage a b) (sym live.wire) (p.answered e);
      lane = subst (λ (y : Lane). IsLane y (record { wire = x.wire; ended = true; up = x.up; down = x.down })) (sym same) (ends-pulsed l x is);
      went_on = went-goes a b p.parts.steps p.parts.went;
    }

-- the end of a wire, where no session is open there, and where one is
parts-closed : (told : Bool) (s : Stage) (now : ℕ) (a : Shown) → open_link s ≡ None → PartsTold told s now a a
parts-closed told stages.Fresh now a none = record { parts = record { steps = []; parts = refl; went = went-none a }; answered = λ e. tt }
parts-closed told stages.Closing now a none = record { parts = record { steps = []; parts = refl; went = went-none a }; answered = λ e. tt }
parts-closed told (stages.Open link) now a none = absurd (cc none)

pub loss-none : (s : Stage) (o : Option LinkNumber) (now : ℕ) (a : Shown) → o ≡ open_link s → o ≡ None → PartsTold true s now a a
loss-none s o now a is none = parts-closed true s now a (sym is ∙ none)

pub loss-some : (told : Bool) (s : Stage) (o : Option LinkNumber) (link : LinkNumber) (now : ℕ) (answer : tolds.Told) (a b : Shown) → o ≡ open_link s → o ≡ Some link → Asked a now link ask.Lost answer b → (told ≡ true → answer ≢ Memory) → PartsTold told s now a b
loss-some told s o link now answer a b is there asked some =
    subst (λ (x : Stage). PartsTold told x now a b) (sym (open-stage s link (sym is ∙ there)))
    (record { parts = record { steps = step now link ask.Lost answer ∷ []; parts = (answer, refl); went = went-one a b now link ask.Lost answer asked }; answered = λ e. (answer, some e, asked) })

-- ---- what holds of a wire that is there

pub at_none : {X : Type 0} (o : Option X) (P : Type 0) → o ≡ None → IfNone o P → P
at_none None P e p = p
at_none (Some x) P e p = absurd (cc e)

pub live-of : (l : Lane) (x : things.Lane) (w : WireState) → IsLane l x → l.wire ≡ Some w → IsLive w l x
live-of l x w is there = subst (λ (o : Option WireState). HasEnd o l x) there is.end

pub ended-where : (l : Lane) (x : things.Lane) (b : Bool) → IsLane l x → b ≡ true → IsLane (record { wire = None; fed = l.fed; up = l.up; down = l.down }) (record { wire = x.wire; ended = b; up = x.up; down = x.down })
ended-where l x b is same = record { up = is.up; down = is.down; end = same }
