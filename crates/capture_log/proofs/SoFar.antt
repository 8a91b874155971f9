-- What a replay has read, from one read to the next.
use Rattle.std.proofs.Common.{◌≡◌, ℕ, ◌+◌, ◌≤◌, ◌<◌, Bool, true, false, List, [], ◌++◌, length, take, refl, ap, ◌∙◌, subst, inl, inr, length-append, length-take, arith}
use Rattle.std.specs.Prelude.{Option, option_map}
use Rattle.afp_base.specs.Counts.{CountsOn}
use Rattle.afp_outside.specs.ends.Source.{SourceState, SourceGives, SourceEnds, SourceFails, LastReadWithin, ReadWithin}
use Rattle.capture_log.specs.lemma.Gathering.{ReaderState, Holds}
use Rattle.capture_log.specs.Judged.{Judged, JudgedAt, AreTrue}
use Rattle.capture_log.specs.Reading.{lines_in, IsJudged, Replays, ReplaysBy, IsReadWell, IsCompared, IsTheSame}
use Rattle.capture_log.specs.declared.replay_end.ReplayEnd.{ReplayEnd}
use Rattle.capture_log.specs.declared.replay_end.ReplayEnd.TheVariants as ends
use Rattle.capture_log.proofs.GatheringLemmas.{undecided}
use Rattle.afp_base.proofs.Facts.{added-added, nothing-added}

-- So many bytes were read, and no line of them decides.
pub record HasRead (turns : ℕ) (old : SourceState) (r : ReaderState) (taken : ℕ) (now : SourceState) : Type 0 where
  pub read : List ℕ
  pub given : now.given ≡ option_map (λ given. given ++ read) old.given
  pub within : ReadWithin turns read old now
  pub ended : now.ended ≡ old.ended
  pub faults : now.faults ≡ old.faults
  pub many : taken ≡ length read
  pub holds : Holds r read

pub so_far-none : (turns : ℕ) (old : SourceState) (r : ReaderState) → Holds r [] → HasRead turns old r 0 old
so_far-none turns old r h = record { read = []; given = nothing-added old.given; within = inl (refl, refl); ended = refl; faults = refl; many = refl; holds = h }

pub more-given : (old mid new : SourceState) (read more : List ℕ) → mid.given ≡ option_map (λ given. given ++ read) old.given → new.given ≡ option_map (λ given. given ++ more) mid.given
    → new.given ≡ option_map (λ given. given ++ (read ++ more)) old.given
more-given old mid new read more e f = f ∙ ap (λ (o : Option (List ℕ)). option_map (λ given. given ++ more) o) e ∙ added-added old.given read more

last-within : (turns : ℕ) (old mid new : SourceState) (r : ReaderState) (taken n : ℕ) (room : List ℕ) (x : HasRead turns old r taken mid) → SourceGives mid room n new → taken < turns
    → LastReadWithin turns (x.read ++ take n room) old new
last-within turns old mid new r taken n room x g fewer =
    record { before = x.read; last = take n room; whole = refl; fewer = omega (arith, fewer, x.many); told = g.given_before ∙ x.given }

pub so_far-more : (turns : ℕ) (old mid new : SourceState) (r s : ReaderState) (taken n : ℕ) (room : List ℕ) (x : HasRead turns old r taken mid) → SourceGives mid room n new → taken < turns
    → Holds s (x.read ++ take n room) → HasRead turns old s (taken + n) new
so_far-more turns old mid new r s taken n room x g fewer h = record {
  read = x.read ++ take n room;
  given = more-given old mid new x.read (take n room) x.given g.given;
  within = inr (last-within turns old mid new r taken n room x g fewer);
  ended = g.ended ∙ x.ended;
  faults = g.faults ∙ x.faults;
  many = omega (arith, x.many, g.most, length-append x.read (take n room), length-take n room);
  holds = h;
}

-- a capture that was read well is compared

pub compared-by : (turns : ℕ) (read : List ℕ) (old new : SourceState) (end : ReplayEnd) → ReplaysBy turns read old new end → IsReadWell turns read old new → IsCompared end
compared-by turns read old new (ends.Same links entries replies refused) by well = tt
compared-by turns read old new (ends.Differs link at want got) by well = tt
compared-by turns read old new (ends.BadCapture line) by well = elim by.judged [
  | inl j ↦ absurd ((well.good by.ended).formed j.before j.raw j.behind j.standing j.whole j.leads j.decides.0)
  | inr j ↦ absurd (j.0.decides.0 ((well.good by.ended).whole j.1 j.0.standing j.0.leads))
]
compared-by turns read old new ends.ReadFault by well = absurd (well.faultless by.0)
compared-by turns read old new ends.Spent by well = absurd (omega (arith, by.0, well.fewer))
compared-by turns read old new ends.Memory by well = tt

pub same-by : (turns : ℕ) (read : List ℕ) (old new : SourceState) (end : ReplayEnd) → ReplaysBy turns read old new end → IsReadWell turns read old new → ((ended : Bool) → AreTrue (lines_in ended read)) → IsTheSame end
same-by turns read old new (ends.Same links entries replies refused) by well holds = tt
same-by turns read old new (ends.Differs link at want got) by well holds = elim by.judged [
  | inl j ↦ absurd (holds by.ended j.before j.raw j.behind j.standing link (record { at = at; want = want; got = got }) j.whole j.leads j.decides)
  | inr j ↦ absurd j.0.decides
]
same-by turns read old new (ends.BadCapture line) by well holds = compared-by turns read old new (ends.BadCapture line) by well
same-by turns read old new ends.ReadFault by well holds = compared-by turns read old new ends.ReadFault by well
same-by turns read old new ends.Spent by well holds = compared-by turns read old new ends.Spent by well
same-by turns read old new ends.Memory by well holds = tt

replayed : (turns : ℕ) (old new : SourceState) (end : ReplayEnd) (read : List ℕ) → new.given ≡ option_map (λ given. given ++ read) old.given → ReplaysBy turns read old new end → Replays turns old end new
replayed turns old new end read given by = record {
  read = read;
  given = given;
  by = by;
  compared = compared-by turns read old new end by;
  same = same-by turns read old new end by;
}

-- the ends

by-verdict : (turns : ℕ) (read : List ℕ) (old new : SourceState) (ended : Bool) (verdict : ReplayEnd) → Judged (lines_in ended read) ended verdict → IsJudged turns read old new verdict
    → ReplaysBy turns read old new verdict
by-verdict turns read old new ended (ends.Same links entries replies refused) j h = h
by-verdict turns read old new ended (ends.Differs link at want got) j h = h
by-verdict turns read old new ended (ends.BadCapture line) j h = h
by-verdict turns read old new ended ends.ReadFault j h = absurd (elim j [ inl x ↦ x.decides | inr x ↦ x.0.decides ])
by-verdict turns read old new ended ends.Spent j h = absurd (elim j [ inl x ↦ x.decides | inr x ↦ x.0.decides ])
by-verdict turns read old new ended ends.Memory j h = tt

pub decided : (turns : ℕ) (old mid new : SourceState) (r : ReaderState) (taken n : ℕ) (room : List ℕ) (verdict : ReplayEnd) (x : HasRead turns old r taken mid) → SourceGives mid room n new → taken < turns
    → JudgedAt (lines_in false (x.read ++ take n room)) verdict → Replays turns old verdict new
decided turns old mid new r taken n room verdict x g fewer j =
    let last : List ℕ = take n room in
    replayed turns old new verdict (x.read ++ last) (more-given old mid new x.read last x.given g.given) (by-verdict turns (x.read ++ last) old new false verdict (inl j)
    record {
      ended = false;
      judged = inl j;
      ends = (g.ended ∙ x.ended, last-within turns old mid new r taken n room x g fewer);
      faults = g.faults ∙ x.faults;
    })

pub finished : (turns : ℕ) (old mid new : SourceState) (r : ReaderState) (taken : ℕ) (verdict : ReplayEnd) (x : HasRead turns old r taken mid) → SourceEnds mid new → taken < turns
    → Judged (lines_in true x.read) true verdict → Replays turns old verdict new
finished turns old mid new r taken verdict x g fewer j =
    replayed turns old new verdict x.read (g.given ∙ x.given) (by-verdict turns x.read old new true verdict j
    record { ended = true; judged = j; ends = (g.ended, omega (arith, fewer, x.many)); faults = g.faults ∙ x.faults })

pub failed : (turns : ℕ) (old mid new : SourceState) (r : ReaderState) (taken : ℕ) → HasRead turns old r taken mid → SourceFails mid new → taken < turns → Replays turns old ends.ReadFault new
failed turns old mid new r taken x g fewer =
    replayed turns old new ends.ReadFault x.read (g.given ∙ x.given) (subst (λ (n : ℕ). CountsOn 1 n new.faults) x.faults g.faults, omega (arith, fewer, x.many), undecided r x.read x.holds)

pub spent : (turns : ℕ) (old now : SourceState) (r : ReaderState) (taken : ℕ) → HasRead turns old r taken now → turns ≤ taken → Replays turns old ends.Spent now
spent turns old now r taken x all = replayed turns old now ends.Spent x.read x.given (omega (arith, all, x.many), x.within, undecided r x.read x.holds, x.faults)

pub no_memory : (turns : ℕ) (old now : SourceState) (read : List ℕ) → now.given ≡ option_map (λ given. given ++ read) old.given → Replays turns old ends.Memory now
no_memory turns old now read e = replayed turns old now ends.Memory read e tt

pub no_memory-more : (turns : ℕ) (old mid new : SourceState) (r : ReaderState) (taken n : ℕ) (room : List ℕ) → HasRead turns old r taken mid → SourceGives mid room n new → Replays turns old ends.Memory new
no_memory-more turns old mid new r taken n room x g = no_memory turns old new (x.read ++ take n room) (more-given old mid new x.read (take n room) x.given g.given)

pub no_memory-ended : (turns : ℕ) (old mid new : SourceState) (r : ReaderState) (taken : ℕ) → HasRead turns old r taken mid → SourceEnds mid new → Replays turns old ends.Memory new
no_memory-ended turns old mid new r taken x g = no_memory turns old new x.read (g.given ∙ x.given)
