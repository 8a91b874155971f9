-- What is written to a link, and printed to a sink, from write to write.
use Rattle.std.proofs.Common.{◌≡◌, ℕ, ◌<◌, ◌==◌, ◌-◌, false, true, Bool, rules, List, [], ◌∷◌, ◌++◌, length, length-append, refl, sym, ap, subst, ◌∙◌, append_assoc, append-nil, take, drop, arith}
use Rattle.std.specs.Prelude.{option_map}
use Rattle.afp_base.specs.Counts.{CountsOn}
use Rattle.afp_base.proofs.Facts.{added-added, nothing-added}
use Rattle.afp_base.proofs.ListFacts.{cut_at}
use Rattle.afp_outside.specs.ends.Link.{LinkState, WritesPiece, FailsToWrite}
use Rattle.afp_outside.specs.ends.Sink.{SinkState, SinkTakes}
use Rattle.afp_outside.specs.ends.Whole.{Sends, Prints, PrintsAll}

pub sends-none : (a : LinkState) → Sends a [] 0 a
sends-none a = record {
  events = refl;
  coming = refl;
  written = nothing-added a.written;
  ended = refl;
  read_faults = refl;
  write_faults = (omega arith, omega arith, omega arith);
  quiets = refl;
  now = refl;
  last_read = refl;
}

pub sends-join : (a b c : LinkState) (sent more : List ℕ) (failed : ℕ) → Sends a sent 0 b → Sends b more failed c → Sends a (sent ++ more) failed c
sends-join a b c sent more failed one two = record {
  events = two.events ∙ one.events;
  coming = two.coming ∙ one.coming;
  written = two.written ∙ ap (λ o. option_map (λ before. before ++ more) o) one.written ∙ added-added a.written sent more;
  ended = two.ended ∙ one.ended;
  read_faults = two.read_faults ∙ one.read_faults;
  write_faults = (omega arith, omega arith, omega arith);
  quiets = two.quiets ∙ one.quiets;
  now = two.now ∙ one.now;
  last_read = two.last_read ∙ one.last_read;
}

sends-piece : (a b : LinkState) (offered : List ℕ) (n : ℕ) → WritesPiece a offered n b → Sends a (take n offered) 0 b
sends-piece a b offered n w = record {
  events = w.events;
  coming = w.coming;
  written = w.written;
  ended = w.ended;
  read_faults = w.read_faults;
  write_faults = (omega (arith, w.write_faults), omega (arith, w.write_faults), omega (arith, w.write_faults));
  quiets = w.quiets;
  now = w.now;
  last_read = w.last_read;
}

sends-nothing : (a b : LinkState) → FailsToWrite a b → Sends a [] 1 b
sends-nothing a b w = record {
  events = w.events;
  coming = w.coming;
  written = w.written ∙ nothing-added a.written;
  ended = w.ended;
  read_faults = w.read_faults;
  write_faults = w.write_faults;
  quiets = w.quiets;
  now = w.now;
  last_read = w.last_read;
}

pub sends-more : (a b c : LinkState) (offered sent left : List ℕ) (n : ℕ) → offered ≡ sent ++ left → Sends a sent 0 b → WritesPiece b left n c
    → (x : List ℕ) × (offered ≡ x ++ take (length left - n) (drop n left)) × Sends a x 0 c
sends-more a b c offered sent left n split so_far w = (
  sent ++ take n left,
  split ∙ ap (λ rest. sent ++ rest) (cut_at left n w.most) ∙ sym (append_assoc sent (take n left) (take (length left - n) (drop n left))),
  sends-join a b c sent (take n left) 0 so_far (sends-piece b c left n w),
)

-- a write failed behind the bytes that were sent
pub sends-failed : (a b c : LinkState) (sent : List ℕ) → Sends a sent 0 b → FailsToWrite b c → Sends a sent 1 c
sends-failed a b c sent so_far w = subst (λ (x : List ℕ). Sends a x 1 c) (append-nil sent) (sends-join a b c sent [] 1 so_far (sends-nothing b c w))

pub some_left : (xs : List ℕ) → false ≡ (length xs == 0) → 0 < length xs
some_left (x ∷ xs) h = omega arith
some_left [] h = search rules

pub prints-more : (a b c : SinkState) (text sent left : List ℕ) (n : ℕ) → text ≡ sent ++ left → Prints a sent b → SinkTakes b left n c
    → (x : List ℕ) × (text ≡ x ++ take (length left - n) (drop n left)) × Prints a x c
prints-more a b c text sent left n split so_far w = (
  sent ++ take n left,
  split ∙ ap (λ (rest : List ℕ). sent ++ rest) (cut_at left n w.most) ∙ sym (append_assoc sent (take n left) (take (length left - n) (drop n left))),
  record {
    written = w.written ∙ ap (λ o. option_map (λ before. before ++ take n left) o) so_far.written ∙ added-added a.written sent (take n left);
    faults = w.faults ∙ so_far.faults;
  },
)

-- a text in two parts
pub prints-both : (a b c : SinkState) (x y : List ℕ) (all : Bool) → PrintsAll a x true b → PrintsAll b y all c → PrintsAll a (x ++ y) all c
prints-both a b c x y true s t = record {
  written = t.written ∙ ap (λ o. option_map (λ before. before ++ y) o) s.written ∙ added-added a.written x y;
  faults = t.faults ∙ s.faults;
}
prints-both a b c x y false s t = record {
  part = x ++ t.part;
  lost = t.lost;
  some_lost = t.some_lost;
  cut = append_assoc x t.part t.lost ∙ ap (λ (l : List ℕ). x ++ l) t.cut;
  written = t.written ∙ ap (λ o. option_map (λ before. before ++ t.part) o) s.written ∙ added-added a.written x t.part;
  fault = subst (λ (n : ℕ). CountsOn 1 n c.faults) s.faults t.fault;
}

-- a text that was cut in its first part
pub prints-cut : (a b : SinkState) (x y : List ℕ) → PrintsAll a x false b → PrintsAll a (x ++ y) false b
prints-cut a b x y p = record {
  part = p.part;
  lost = p.lost ++ y;
  some_lost = omega (arith, p.some_lost, length-append p.lost y);
  cut = sym (append_assoc p.part p.lost y) ∙ ap (λ (l : List ℕ). l ++ y) p.cut;
  written = p.written;
  fault = p.fault;
}
