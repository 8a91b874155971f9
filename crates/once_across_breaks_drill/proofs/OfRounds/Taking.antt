-- A whole reply comes to a client.
use Rattle.std.proofs.Common.{◌≡◌, ℕ, ◌+◌, ◌≤◌, ◌-◌, true, false, List, [], ◌++◌, length, take, min, sym, ap, ◌∙◌, subst, inl, inr, append-nil, arith, Option, Some}
use Rattle.std.proofs.lemmas.List.{take_all}
use Rattle.afp_base.specs.declared.code.Code.{Code}
use Rattle.afp_client.specs.session.Happens.{Happens, TakesNext}
use Rattle.afp_client.specs.session.Laws.{FrameDecides, IsDecided, IsMade}
use Rattle.afp_client.specs.session.State.{Client, ClientState, is_lost}
use Rattle.afp_client.specs.session.Takes.{Step, takes}
use Rattle.afp_client.specs.declared.session.event.Event.{Event}
use Rattle.afp_client.specs.declared.session.event.Event.TheVariants as events
use Rattle.dsi_frame.proofs.FrameLemmas.{canonical_spelling, length-spelling}
use Rattle.dsi_frame.specs.Buffered.{buffer_length}
use Rattle.dsi_frame.specs.Frame.{Frame, IsSpelling, canonical_frame}
use Rattle.dsi_frame.specs.Stream.{Begins}
use Rattle.once_across_breaks_drill.specs.rounds.Callers.{IsNextStep, is_taken}
use Rattle.once_across_breaks_drill.specs.rounds.lemma.Whole.{is_memory}

next-of : (event : Event) (old : Client) (out : List ℕ) (new : Client) (after : List ℕ) → is_taken event ≡ true → Happens old out event new after → TakesNext old out event new after
next-of events.NotYet old out new after is h = absurd (cc is)
next-of events.Step old out new after is h = h
next-of events.Ready old out new after is h = h
next-of (events.Told c block) old out new after is h = h
next-of (events.Refused c) old out new after is h = h
next-of (events.Lost c) old out new after is h = h
next-of events.Tickle old out new after is h = h
next-of (events.Attention word) old out new after is h = h
next-of events.Closed old out new after is h = h
next-of (events.Bad at) old out new after is h = absurd (cc is)
next-of events.Memory old out new after is h = absurd (cc is)

abbrev pub Parted : Type 0
Parted = (first more other others : List ℕ) (f g : Frame) → IsSpelling first f → IsSpelling other g → first ++ more ≡ other ++ others → (first ≡ other) × (more ≡ others)

whole-fits : (f : Frame) (bytes : List ℕ) → IsSpelling bytes f → length bytes ≤ buffer_length
whole-fits f bytes s = omega (arith, length-spelling bytes f s, s.good.payload)

fits-min : (n m : ℕ) → n ≤ buffer_length → m ≡ 0 → n ≤ min n (buffer_length - m)
fits-min n m small none = omega (arith, small, none)

made-of : (s : Step) (old : Client) (out : List ℕ) (event : Event) (new : Client) (after : List ℕ) → is_memory event ≡ false → IsDecided (Some s) old out event new after → IsMade s out event new after
made-of s old out event new after other (inl made) = made
made-of s old out event new after other (inr memory) = absurd (cc (other, ap is_memory memory))

-- A whole reply was taken, and no more is held.
pub record IsTakenWhole (start : Client) (bytes out : List ℕ) (event : Event) (new : Client) (after : List ℕ) (does : Step) : Type 0 where
  pub made : IsMade does out event new after
  pub rest : new.held.rest ≡ []
  pub place : new.held.place ≡ start.held.place + length bytes

pub taken-whole : (law : FrameDecides) (parted : Parted) (start old new : Client) (state : ClientState) (bytes out after : List ℕ) (event : Event) (size : ℕ) (f : Frame) (code : Code) (does : Step)
    → start.state ≡ state → start.held.rest ≡ [] → size ≡ min (length bytes) (buffer_length - length start.held.rest) → old.held.rest ≡ start.held.rest ++ take size bytes → old.held.place ≡ start.held.place → old.state ≡ start.state
    → Happens old out event new after → is_memory event ≡ false → IsNextStep state bytes f code does → IsTakenWhole start bytes out event new after does
taken-whole law parted start old new state bytes out after event size f code does view none size_is rest place same happens other next =
    let spelling : IsSpelling (canonical_frame f) f = canonical_spelling f next.good in
    let small : length bytes ≤ buffer_length = whole-fits f bytes (subst (λ (b : List ℕ). IsSpelling b f) (sym next.spelt) spelling) in
    let all : length bytes ≤ size = subst (λ (n : ℕ). length bytes ≤ n) (sym size_is) (fits-min (length bytes) (length start.held.rest) small (ap length none)) in
    let held : old.held.rest ≡ canonical_frame f ++ [] = rest ∙ ap (λ (l : List ℕ). l ++ take size bytes) none ∙ take_all size bytes all ∙ next.spelt ∙ sym (append-nil (canonical_frame f)) in
    let begins : Begins old.held.rest f = record { first = canonical_frame f; more = []; whole = held; spelling = spelling } in
    let state_is : old.state ≡ state = same ∙ view in
    let step : takes old.state (Some code) f ≡ Some does = ap (λ (s : ClientState). takes s (Some code) f) state_is ∙ next.taken in
    let decided : IsDecided (Some does) old out event new after =
    subst (λ (o : Option Step). IsDecided o old out event new after) step (law old new out after event f (Some code) (ap (λ (s : ClientState). is_lost s.stage) state_is ∙ next.live) begins next.word happens) in
    let made : IsMade does out event new after = made-of does old out event new after other decided in
    let n : TakesNext old out event new after = next-of event old out new after (ap is_taken made.comes ∙ next.kind) happens in
    let parts = parted n.first new.held.rest (canonical_frame f) [] n.frame f n.spelling spelling (sym n.whole ∙ held) in
    record {
      made = made;
      rest = parts.1;
      place = n.place ∙ (λ i. place i + length (parts.0 i)) ∙ ap (λ (l : List ℕ). start.held.place + length l) (sym next.spelt);
    }
