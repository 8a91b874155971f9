-- A link moves on from step to step.
use Rattle.std.proofs.Common.{◌≡◌, ℕ, ◌+◌, List, [], ◌∷◌, ◌++◌, length, refl, sym, ap, ◌∙◌, append_assoc, length-append, arith}
use Rattle.std.specs.Prelude.{Option, Some, None, option_map}
use Rattle.afp_outside.specs.ends.Link.{Event, piece, quiet, bytes_taken, LinkState}
use Rattle.afp_outside.specs.ends.Whole.{Sends}
use Rattle.afp_server.specs.link.LinkRun.{quiets_in, cost_of, Moves}
use Rattle.afp_base.proofs.Facts.{added-added, nothing-added}

pub left-none : (o : Option (List ℕ)) → o ≡ option_map (λ left. [] ++ left) o
left-none None = refl
left-none (Some xs) = refl

pub left-left : (o : Option (List ℕ)) (xs ys : List ℕ) → option_map (λ left. xs ++ left) (option_map (λ left. ys ++ left) o) ≡ option_map (λ left. (xs ++ ys) ++ left) o
left-left None xs ys = refl
left-left (Some zs) xs ys = ap Some (sym (append_assoc xs ys zs))

pub taken-append : (es fs : List Event) → bytes_taken (es ++ fs) ≡ bytes_taken es ++ bytes_taken fs
taken-append [] fs = refl
taken-append (piece written now bytes ∷ es) fs = ap (λ rest. bytes ++ rest) (taken-append es fs) ∙ sym (append_assoc bytes (bytes_taken es) (bytes_taken fs))
taken-append (quiet written now ∷ es) fs = taken-append es fs

pub quiets_in-append : (es fs : List Event) → quiets_in (es ++ fs) ≡ quiets_in es + quiets_in fs
quiets_in-append [] fs = omega arith
quiets_in-append (piece written now bytes ∷ es) fs = quiets_in-append es fs
quiets_in-append (quiet written now ∷ es) fs = omega (arith, quiets_in-append es fs)

pub cost_of-append : (es fs : List Event) → cost_of (es ++ fs) ≡ cost_of es + cost_of fs
cost_of-append es fs = omega (arith, quiets_in-append es fs, ap length (taken-append es fs), length-append (bytes_taken es) (bytes_taken fs))

pub moves-none : (a : LinkState) → Moves a [] [] 0 a
moves-none a = record {
  told = nothing-added a.events;
  coming = left-none a.coming;
  written = nothing-added a.written;
  quiets = (omega arith, omega arith, omega arith);
  read_faults = omega arith;
  write_faults = (omega arith, omega arith, omega arith);
}

pub moves-join : (a b c : LinkState) (es fs : List Event) (wrote more : List ℕ) (failed : ℕ) → Moves a es wrote 0 b → Moves b fs more failed c → Moves a (es ++ fs) (wrote ++ more) failed c
moves-join a b c es fs wrote more failed one two = record {
  told = two.told ∙ ap (λ o. option_map (λ before. before ++ fs) o) one.told ∙ added-added a.events es fs;
  coming = one.coming ∙ ap (λ o. option_map (λ left. bytes_taken es ++ left) o) two.coming ∙ left-left c.coming (bytes_taken es) (bytes_taken fs)
      ∙ ap (λ bytes. option_map (λ left. bytes ++ left) c.coming) (sym (taken-append es fs));
  written = two.written ∙ ap (λ o. option_map (λ before. before ++ more) o) one.written ∙ added-added a.written wrote more;
  quiets = (omega arith, omega (arith, quiets_in-append es fs), omega (arith, quiets_in-append es fs));
  read_faults = omega arith;
  write_faults = (omega arith, omega arith, omega arith);
}

-- what is written to a link is a move
pub sends-moves : (a b : LinkState) (wrote : List ℕ) (failed : ℕ) → Sends a wrote failed b → Moves a [] wrote failed b
sends-moves a b wrote failed s = record {
  told = s.events ∙ nothing-added a.events;
  coming = sym s.coming ∙ left-none b.coming;
  written = s.written;
  quiets = (omega (arith, s.quiets), omega (arith, s.quiets), omega (arith, s.quiets));
  read_faults = omega (arith, s.read_faults);
  write_faults = s.write_faults;
}
