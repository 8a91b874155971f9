-- A line of a source, read from step to step.
use Rattle.std.proofs.Common.{◌≡◌, ℕ, ◌+◌, ◌-◌, ◌<◌, ◌≤◌, List, [], ◌∷◌, ◌++◌, length, take, true, false, inr, refl, sym, subst, ap, ◌∙◌, arith, append-nil, append_assoc, length-append, length-take}
use Rattle.std.specs.Prelude.{option_map, Option}
use Rattle.afp_base.proofs.Facts.{added-added}
use Rattle.afp_outside.specs.ends.Source.{SourceState, SourceGives, SourceEnds, ReadWithin}
use Rattle.afp_outside.specs.lines.Lines.{Unread, IsOneLine, last, ReadsOn, Takes, TakesAll, TakesSome}
use Rattle.afp_outside.specs.lines.lemma.Reading.{HasRead, Lasts}
use Rattle.afp_outside.specs.declared.lines.lines.NextLine.{NextLine}
use Rattle.afp_outside.specs.declared.lines.lines.NextLine.TheVariants as nexts

-- a read was made where fewer bytes than may be had been taken
within-last : (turns : ℕ) (old now : Unread) (before source after : SourceState) (more : List ℕ) → (h : HasRead turns old before now source) → now.taken < turns → after.given_before ≡ source.given
    → ReadWithin (turns - old.taken) (h.read ++ more) before after
within-last turns old now before source after more h fewer is = inr (record {
  before = h.read;
  last = more;
  whole = refl;
  fewer = omega (arith, h.reads.taken, fewer);
  told = is ∙ h.reads.given;
})

-- bytes came
pub reads-more : (turns : ℕ) (old now : Unread) (before source after : SourceState) (room : List ℕ) (n : ℕ) → HasRead turns old before now source → SourceGives source room n after → now.taken < turns
    → HasRead turns old before (record { bytes = now.bytes ++ take n room; ended = now.ended; taken = now.taken + n }) after
reads-more turns old now before source after room n h g fewer = record {
  read = h.read ++ take n room;
  reads = record {
    given = g.given ∙ ap (λ (o : Option (List ℕ)). option_map (λ given. given ++ take n room) o) h.reads.given ∙ added-added before.given h.read (take n room);
    taken = omega (arith, h.reads.taken, length-append h.read (take n room), length-take n room, g.most);
    ended = λ is. g.ended ∙ h.reads.ended is;
    faults = g.faults ∙ h.reads.faults;
  };
  bytes = ap (λ (xs : List ℕ). xs ++ take n room) h.bytes ∙ append_assoc old.bytes h.read (take n room);
  within = within-last turns old now before source after (take n room) h fewer g.given_before;
}

-- the source ended
pub reads-end : (turns : ℕ) (old now : Unread) (before source after : SourceState) → HasRead turns old before now source → SourceEnds source after → now.taken < turns
    → HasRead turns old before (record { bytes = now.bytes; ended = true; taken = now.taken }) after
reads-end turns old now before source after h e fewer = record {
  read = h.read;
  reads = record {
    given = e.given ∙ h.reads.given;
    taken = h.reads.taken;
    ended = λ is. e.ended;
    faults = e.faults ∙ h.reads.faults;
  };
  bytes = h.bytes;
  within = subst (λ (xs : List ℕ). ReadWithin (turns - old.taken) xs before after) (append-nil h.read) (within-last turns old now before source after [] h fewer e.given_before);
}

pub takes-some-more : (turns : ℕ) (old now : Unread) (before source after : SourceState) (room : List ℕ) (n : ℕ) → HasRead turns old before now source → SourceGives source room n after → now.taken < turns
    → TakesSome turns old before after
takes-some-more turns old now before source after room n h g fewer = record {
  read = h.read ++ take n room;
  given = g.given ∙ ap (λ (o : Option (List ℕ)). option_map (λ given. given ++ take n room) o) h.reads.given ∙ added-added before.given h.read (take n room);
  faults = g.faults ∙ h.reads.faults;
  within = within-last turns old now before source after (take n room) h fewer g.given_before;
}

-- as many bytes as may be were taken, and no line stands there
pub takes-all : (longest turns : ℕ) (old now : Unread) (before source : SourceState) (held : List ℕ) → HasRead turns old before now source → IsOneLine held → held ≡ now.bytes → length held ≤ longest
    → now.ended ≡ false → turns ≤ now.taken → TakesAll longest turns old before (record { bytes = held; ended = now.ended; taken = now.taken }) source
takes-all longest turns old now before source held h one same size goes reached = record {
  part = record {
    read = h.read;
    reads = record { given = h.reads.given; taken = h.reads.taken; ended = h.reads.ended; faults = h.reads.faults };
    bytes = same ∙ h.bytes;
    one_line = one;
    size = size;
    goes_on = goes;
  };
  reached = reached;
  within = h.within;
}

none-held : (xs ys : List ℕ) → [] ≡ xs ++ ys → (xs ≡ []) × (ys ≡ [])
none-held [] [] e = (refl, refl)
none-held [] (y ∷ ys) e = absurd (cc e)
none-held (x ∷ xs) ys e = absurd (cc e)

-- the source ended, and all that is held is the last line, or nothing
pub takes-last : (longest turns : ℕ) (old now : Unread) (before source after : SourceState) (held rest : List ℕ) (result : NextLine) → HasRead turns old before now source → SourceEnds source after → now.taken < turns
    → IsOneLine held → held ≡ now.bytes → Lasts held result rest → Takes longest turns old before result (record { bytes = rest; ended = true; taken = now.taken }) after
takes-last longest turns old now before source after held rest (nexts.Line line) h e fewer one same l =
    let r = reads-end turns old now before source after h e fewer in record {
      read = r.read;
      reads = record { given = r.reads.given; taken = r.reads.taken; ended = r.reads.ended; faults = r.reads.faults };
      one_line = subst (λ (xs : List ℕ). IsOneLine xs) (sym l.0) one;
      is_next = last (sym r.bytes ∙ sym same ∙ sym l.0) refl (subst (λ (xs : List ℕ). 0 < length xs) (sym l.0) l.1) l.2;
      within = r.within;
    }
takes-last longest turns old now before source after held rest nexts.End h e fewer one same l =
    let r = reads-end turns old now before source after h e fewer in
    let none = none-held old.bytes r.read (sym l.0 ∙ same ∙ r.bytes) in record {
      reads = subst (λ (xs : List ℕ). ReadsOn old before xs (record { bytes = rest; ended = true; taken = now.taken }) after) none.1
          (record { given = r.reads.given; taken = r.reads.taken; ended = r.reads.ended; faults = r.reads.faults });
      nothing = none.0;
      nothing_left = l.1;
      ended = refl;
      within = subst (λ (xs : List ℕ). ReadWithin (turns - old.taken) xs before after) none.1 r.within;
    }
takes-last longest turns old now before source after held rest nexts.ReadFault h e fewer one same l = absurd l
takes-last longest turns old now before source after held rest nexts.Spent h e fewer one same l = absurd l
takes-last longest turns old now before source after held rest nexts.Memory h e fewer one same l = absurd l
